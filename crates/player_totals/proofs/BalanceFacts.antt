-- What one hand more adds to the balance.
use Rattle.std.proofs.Common.{◌≡◌, ℕ, ◌+◌, false, cond, List, [], ◌∷◌, ◌++◌, length, map, refl, sym, ap, ◌∙◌, length-append, arith}
use Rattle.std.specs.Prelude.{not, count_by}
use Rattle.std.specs.List.{flat_map, list_any}
use Rattle.std.proofs.lemmas.List.Concat.{flat_map-cons}
use Rattle.std.proofs.lemmas.List.Sums.{sum_by_push, sum_by-cons}
use Rattle.hand_verdict.specs.declared.verdicts.AllIn.{AllIn}
use Rattle.hand_verdict.specs.declared.verdicts.HandAudit.{HandAudit}
use Rattle.hand_verdict.specs.declared.verdicts.HandAudit.TheVariants.{Rejected, Accepted}
use Rattle.hand_verdict.specs.declared.seat_chips.AuditedChips.{AuditedChips}
use Rattle.hand_verdict.specs.declared.seat_chips.SeatChips.{SeatChips}
use Rattle.hand_verdict.specs.declared.settlement.Settlement.{Settlement}
use Rattle.player_totals.specs.Balance.{RunBalance, audits_of, balance_by, balance_in, balance_of, balance_over, no_balance, seat_balance, seated_balance}
use Rattle.player_totals.specs.BalanceSeen.{balance_is_sums, both}
use Rattle.even_luck.specs.Seats.{Seated}
use Rattle.player_totals.specs.SumsSeen.{with_given, with_players}
use Rattle.player_totals.specs.Totals.{Player, each_once, is_accepted, players_in, playing, same_player}
use Rattle.player_totals.specs.TotalsSeen.{named_player}
use Rattle.player_totals.specs.declared.balance_sums.BalanceSums.{BalanceSums}
use Rattle.player_totals.proofs.RunFacts.{AreOver, absent_share, hand_more}

-- a hand, by its verdict and the chips of its seats
abbrev pub hand_of : HandAudit → List SeatChips → AuditedChips
hand_of audit chips = record { audit = audit; chips = chips }

abbrev players_of : AuditedChips → List Player
players_of hand = players_in hand.audit

-- who isn't a player of a hand is given nothing by it
nothing_by : (audit : HandAudit) (chips : List SeatChips) (player : Player) → list_any (same_player player) (players_in audit) ≡ false → balance_by audit chips player ≡ no_balance
nothing_by (Rejected line cause hundredths) chips player absent = refl
nothing_by (Accepted s all_in names players) chips player absent = absent_share balance_is_sums s.hundredths (seat_balance s all_in chips) (playing names players) player absent

-- sums over one hand before others, and after them
balance_before : (hand : AuditedChips) (hands : List AuditedChips) (player : Player) → balance_over (hand ∷ hands) player ≡ both (balance_in hand player) (balance_over hands player)
balance_before hand hands player =
    let in_hands = sum_by-cons (λ h. (balance_in h player).hands) hand hands in
    let in_got = sum_by-cons (λ h. (balance_in h player).got) hand hands in
    let in_put = sum_by-cons (λ h. (balance_in h player).put) hand hands in
    let in_even = sum_by-cons (λ h. (balance_in h player).even) hand hands in
    let in_unknown = sum_by-cons (λ h. (balance_in h player).unknown) hand hands in
    λ i. record { hands = in_hands i; got = in_got i; put = in_put i; even = in_even i; unknown = in_unknown i }

balance_behind : (hand : AuditedChips) (hands : List AuditedChips) (player : Player) → both (balance_over hands player) (balance_in hand player) ≡ balance_over (hands ++ hand ∷ []) player
balance_behind hand hands player =
    let in_hands = sum_by_push (λ h. (balance_in h player).hands) hands hand in
    let in_got = sum_by_push (λ h. (balance_in h player).got) hands hand in
    let in_put = sum_by_push (λ h. (balance_in h player).put) hands hand in
    let in_even = sum_by_push (λ h. (balance_in h player).even) hands hand in
    let in_unknown = sum_by_push (λ h. (balance_in h player).unknown) hands hand in
    sym (λ i. record { hands = in_hands i; got = in_got i; put = in_put i; even = in_even i; unknown = in_unknown i })

balance_adds : AreOver no_balance both players_of balance_in balance_over
balance_adds = record {
  absent = λ hand player absent. nothing_by hand.audit hand.chips player absent;
  none = λ player. refl;
  before = balance_before;
  behind = balance_behind;
}

-- the players of some hands are those of the verdicts on them
audits_players : (hands : List AuditedChips) → flat_map players_in (audits_of hands) ≡ flat_map players_of hands
audits_players [] = refl
audits_players (hand ∷ hands) =
    flat_map-cons players_in hand.audit (audits_of hands) ∙ ap (λ later. players_in hand.audit ++ later) (audits_players hands)
    ∙ sym (flat_map-cons players_of hand hands)

-- some players, each once, with sums
abbrev beside : (Player → BalanceSums) → Player → Player × BalanceSums
beside sums player = (player, sums player)

abbrev listed : (Player → BalanceSums) → List Player → List (Player × BalanceSums)
listed sums players = map (beside sums) (each_once players)

-- the players of the balance, with one hand more
players_more : (hands : List AuditedChips) (hand : AuditedChips) →
    with_given both (balance_in hand) (with_players no_balance (balance_of hands).players (players_of hand)) ≡ (balance_of (hands ++ hand ∷ [])).players
players_more hands hand =
    ap (λ players. with_given both (balance_in hand) (with_players no_balance (listed (balance_over hands) players) (players_of hand))) (audits_players hands)
    ∙ hand_more balance_is_sums players_of balance_in balance_over balance_adds hands hand
    ∙ ap (listed (balance_over (hands ++ hand ∷ []))) (sym (audits_players (hands ++ hand ∷ [])))

-- the balance with one accepted hand more
pub accepted_more : (hands : List AuditedChips) (s : Settlement) (all_in : AllIn) (names : Seated) (players : ℕ) (chips : List SeatChips) (accepted rejected : ℕ) (entries now : List (Player × BalanceSums)) →
    record { hands = accepted + rejected; accepted = accepted; rejected = rejected; players = entries } ≡ balance_of hands →
    now ≡ with_given both (seated_balance s all_in chips (playing names players)) (with_players no_balance entries (map (λ who. named_player s.hundredths who.1) (playing names players))) →
    record { hands = accepted + 1 + rejected; accepted = accepted + 1; rejected = rejected; players = now } ≡ balance_of (hands ++ hand_of (Accepted s all_in names players) chips ∷ [])
accepted_more hands s all_in names players chips accepted rejected entries now before written =
    let hand = hand_of (Accepted s all_in names players) chips in
    let in_all : accepted + rejected ≡ length hands = ap (λ (b : RunBalance). b.hands) before in
    let accepted_before : accepted ≡ count_by (λ h. is_accepted h.audit) hands = ap (λ (b : RunBalance). b.accepted) before in
    let rejected_before : rejected ≡ count_by (λ h. not (is_accepted h.audit)) hands = ap (λ (b : RunBalance). b.rejected) before in
    let entries_before : entries ≡ (balance_of hands).players = ap (λ (b : RunBalance). b.players) before in
    let all_hands : accepted + 1 + rejected ≡ length (hands ++ hand ∷ []) = omega (arith, length-append hands (hand ∷ [])) in
    let all_accepted : accepted + 1 ≡ count_by (λ h. is_accepted h.audit) (hands ++ hand ∷ []) = omega (arith, sum_by_push (λ h. cond (is_accepted h.audit) 1 0) hands hand) in
    let all_rejected : rejected ≡ count_by (λ h. not (is_accepted h.audit)) (hands ++ hand ∷ []) = omega (arith, sum_by_push (λ h. cond (not (is_accepted h.audit)) 1 0) hands hand) in
    let all_players : now ≡ (balance_of (hands ++ hand ∷ [])).players =
    written ∙ ap (λ some. with_given both (balance_in hand) (with_players no_balance some (players_of hand))) entries_before ∙ players_more hands hand in
    λ i. record { hands = all_hands i; accepted = all_accepted i; rejected = all_rejected i; players = all_players i }
