-- What the balance of a run says of its hands.
use Rattle.std.proofs.Common.{◌≡◌, ℕ, Bool, true, false, List, [], ◌∷◌, refl, sym, ap, subst, ◌∙◌, arith}
use Rattle.std.specs.Prelude.{if◌then◌else◌}
use Rattle.std.specs.List.{IsDistinct, flat_map, sum_by}
use Rattle.std.specs.Map.{keys_of}
use Rattle.std.proofs.lemmas.List.Sums.{sum_by-cons}
use Rattle.hand_verdict.specs.declared.seat_chips.AuditedChips.{AuditedChips}
use Rattle.hand_verdict.specs.declared.seat_chips.SeatChips.{SeatChips}
use Rattle.hand_verdict.specs.declared.verdicts.HandAudit.{HandAudit}
use Rattle.hand_verdict.specs.declared.verdicts.HandAudit.TheVariants.{Rejected, Accepted}
use Rattle.player_totals.specs.Balance.{audits_of, balance_by, balance_in, balance_of, balance_over, no_balance}
use Rattle.report_laws.specs.BalanceLaws.{counts_in, hands_of_unit}
use Rattle.player_totals.specs.Totals.{Player, all_players, players_in, same_player}
use Rattle.player_totals.specs.declared.balance_sums.BalanceSums.{BalanceSums}
use Rattle.report_laws.proofs.TotalLaws.{distinct_once, keys_beside}

-- nobody is listed twice
pub balanced_distinct : (hands : List AuditedChips) → IsDistinct same_player (keys_of (balance_of hands).players)
balanced_distinct hands = subst (IsDistinct same_player) (sym (keys_beside (balance_over hands) (all_players (audits_of hands)))) (distinct_once (flat_map players_in (audits_of hands)))

-- a hand of the other unit gives a player nothing
other_unit : (hundredths : Bool) (name : List ℕ) (audit : HandAudit) (chips : List SeatChips) → counts_in hundredths audit ≡ false → balance_by audit chips (record { hundredths = hundredths; name = name }) ≡ no_balance
other_unit hundredths name (Rejected line cause unit) chips none = refl
other_unit hundredths name (Accepted s all_in names players) chips none = rw none refl

-- so the hands of his unit alone give him anything
figure_of_unit : (figure : BalanceSums → ℕ) → figure no_balance ≡ 0 → (player : Player) (hands : List AuditedChips) →
    sum_by (λ hand. figure (balance_in hand player)) hands ≡ sum_by (λ hand. figure (balance_in hand player)) (hands_of_unit player.hundredths hands)
figure_of_unit figure nothing player [] = refl
figure_of_unit figure nothing player (hand ∷ hands) = by (counts_in player.hundredths hand.audit) refl (figure_of_unit figure nothing player hands)
  where
    f : AuditedChips → ℕ
    f hand = figure (balance_in hand player)

    later : List AuditedChips
    later = hands_of_unit player.hundredths hands

    by : (b : Bool) → counts_in player.hundredths hand.audit ≡ b → sum_by f hands ≡ sum_by f later → sum_by f (hand ∷ hands) ≡ sum_by f (if b then hand ∷ later else later)
    by true e rest = omega (arith, rest, sum_by-cons f hand hands, sum_by-cons f hand later)
    by false e rest =
        let none : f hand ≡ 0 = ap figure (other_unit player.hundredths player.name hand.audit hand.chips e) ∙ nothing in
        omega (arith, rest, none, sum_by-cons f hand hands)

pub balanced_by_unit : (hands : List AuditedChips) (player : Player) → balance_over hands player ≡ balance_over (hands_of_unit player.hundredths hands) player
balanced_by_unit hands player =
    let in_hands = figure_of_unit (λ b. b.hands) refl player hands in
    let in_got = figure_of_unit (λ b. b.got) refl player hands in
    let in_put = figure_of_unit (λ b. b.put) refl player hands in
    let in_even = figure_of_unit (λ b. b.even) refl player hands in
    let in_unknown = figure_of_unit (λ b. b.unknown) refl player hands in
    λ i. record { hands = in_hands i; got = in_got i; put = in_put i; even = in_even i; unknown = in_unknown i }
