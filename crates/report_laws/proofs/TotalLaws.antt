-- What the totals say of the hands.
use Rattle.std.proofs.Common.{◌≡◌, ℕ, Bool, true, false, cond, ◌&&◌, ◌||◌, List, [], ◌∷◌, map, filter, Option, Some, None, is_some, refl, sym, ap, subst, ◌∙◌}
use Rattle.std.specs.Prelude.{not, count_by, if◌then◌else◌}
use Rattle.std.specs.Bool.{beq}
use Rattle.std.specs.Cmp.Lexicographic.{nat_list_eq_equiv}
use Rattle.std.specs.List.{AllByRecursion, IsDistinct, flat_map, list_any, sum_by}
use Rattle.std.specs.Map.{keys_of}
use Rattle.std.specs.Option.{option_map_or}
use Rattle.std.specs.Str.{bytes_eq}
use Rattle.hand_verdict.specs.declared.verdicts.AllIn.{AllIn}
use Rattle.hand_verdict.specs.declared.verdicts.AllIn.TheVariants.{None as NoAllIn, Unknown, Known}
use Rattle.hand_verdict.specs.declared.verdicts.HandAudit.{HandAudit}
use Rattle.hand_verdict.specs.declared.verdicts.HandAudit.TheVariants.{Rejected, Accepted}
use Rattle.hand_verdict.specs.declared.settlement.Settlement.{Settlement}
use Rattle.hand_events.specs.Names.{seat_named}
use Rattle.even_luck.specs.Seats.{Seated, hand_at}
use Rattle.player_totals.specs.Totals.{Player, all_players, each_once, hand_all_in, hand_alone, known_sums, no_sums, players_in, playing, same_player, seat_sums, sums_in, sums_over, totals_of}
use Rattle.even_luck.specs.Figures.{is_counted}
use Rattle.player_totals.specs.TotalsSeen.{named_player}
use Rattle.showdown_tally.specs.Deals.{deal_of}
use Rattle.showdown_tally.specs.Showdown.{Showdown}

-- those who are left are apart from one whom all were apart from
apart_filtered : (player : Player) (kept : Player → Bool) (players : List Player) → AllByRecursion (λ other. same_player player other ≡ false) players →
    AllByRecursion (λ other. same_player player other ≡ false) (filter kept players)
apart_filtered player kept [] apart = tt
apart_filtered player kept (first ∷ later) apart = by (kept first) (apart_filtered player kept later apart.1)
  where
    by : (b : Bool) → AllByRecursion (λ other. same_player player other ≡ false) (filter kept later) →
        AllByRecursion (λ other. same_player player other ≡ false) (cond b (first ∷ filter kept later) (filter kept later))
    by true rest = (apart.0, rest)
    by false rest = rest

distinct_filtered : (kept : Player → Bool) (players : List Player) → IsDistinct same_player players → IsDistinct same_player (filter kept players)
unfolding IsDistinct
distinct_filtered kept [] distinct = tt
distinct_filtered kept (first ∷ later) distinct = by (kept first) (distinct_filtered kept later distinct.1)
  where
    by : (b : Bool) → IsDistinct same_player (filter kept later) → IsDistinct same_player (cond b (first ∷ filter kept later) (filter kept later))
    by true rest = (apart_filtered first kept later distinct.0, rest)
    by false rest = rest

-- a player is apart from those whom he was taken out of
apart_without : (player : Player) (players : List Player) → AllByRecursion (λ other. same_player player other ≡ false) (filter (λ other. not (same_player player other)) players)
apart_without player [] = tt
apart_without player (first ∷ later) = by (same_player player first) refl (apart_without player later)
  where
    rest : List Player
    rest = filter (λ other. not (same_player player other)) later

    by : (b : Bool) → same_player player first ≡ b → AllByRecursion (λ other. same_player player other ≡ false) rest →
        AllByRecursion (λ other. same_player player other ≡ false) (cond (not b) (first ∷ rest) rest)
    by true same apart = apart
    by false other apart = (other, apart)

pub distinct_once : (players : List Player) → IsDistinct same_player (each_once players)
unfolding IsDistinct
distinct_once [] = tt
distinct_once (player ∷ later) = (apart_without player (each_once later), distinct_filtered (λ other. not (same_player player other)) (each_once later) (distinct_once later))

pub keys_beside : {S : Type 0} (sums : Player → S) (players : List Player) → keys_of (map (λ player. let entry : Player × S = (player, sums player) in entry) players) ≡ players
keys_beside sums [] = refl
keys_beside sums (player ∷ later) = ap (λ rest. player ∷ rest) (keys_beside sums later)

-- no player stands twice in the totals
pub listed_distinct : (hands : List HandAudit) → IsDistinct same_player (keys_of (totals_of hands).players)
listed_distinct hands = subst (IsDistinct same_player) (sym (keys_beside (sums_over hands) (all_players hands))) (distinct_once (flat_map players_in hands))

-- each seat that plays has one hand
one_known : (s : Settlement) (seats : List ℕ) (deal : Showdown) (seat : ℕ) → (known_sums s seats deal seat).hands ≡ 1
unfolding known_sums
one_known s seats deal seat = by (if is_counted deal then hand_at seats deal seat else None)
  where
    by : (found : Option ℕ) → (option_map_or (hand_all_in s deal seat) found hand_alone).hands ≡ 1
    by None = refl
    by (Some hand) = refl

one_hand : (s : Settlement) (all_in : AllIn) (seat : ℕ) → (seat_sums s all_in seat).hands ≡ 1
one_hand s NoAllIn seat = refl
one_hand s Unknown seat = refl
one_hand s (Known street seats table) seat = one_known s seats (deal_of table) seat

-- a name has a seat that plays exactly where it is among the players
seat_any : (hundredths : Bool) (player : Player) (seated : Seated) → beq player.hundredths hundredths ≡ true →
    list_any (same_player player) (map (λ who. named_player hundredths who.1) seated) ≡ is_some (seat_named player.name seated)
seat_any hundredths player [] unit = refl
seat_any hundredths player (who ∷ seated) unit =
    let first : same_player player (named_player hundredths who.1) ≡ bytes_eq who.1 player.name =
    ap (λ b. b && bytes_eq player.name who.1) unit ∙ nat_list_eq_equiv.symm player.name who.1 in
    (λ i. first i || seat_any hundredths player seated unit i) ∙ by (bytes_eq who.1 player.name)
  where
    by : (b : Bool) → (b || is_some (seat_named player.name seated)) ≡ is_some (cond b (Some who.0) (seat_named player.name seated))
    by true = refl
    by false = refl

nobody_any : (hundredths : Bool) (player : Player) (seated : Seated) → beq player.hundredths hundredths ≡ false →
    list_any (same_player player) (map (λ who. named_player hundredths who.1) seated) ≡ false
nobody_any hundredths player [] unit = refl
nobody_any hundredths player (who ∷ seated) unit =
    ap (λ b. (b && bytes_eq player.name who.1) || list_any (same_player player) (map (λ other. named_player hundredths other.1) seated)) unit
    ∙ nobody_any hundredths player seated unit

played_in : (hand : HandAudit) (player : Player) → (sums_in hand player).hands ≡ cond (list_any (same_player player) (players_in hand)) 1 0
played_in (Rejected line cause hundredths) player = refl
played_in (Accepted s all_in names players) player = by (beq player.hundredths s.hundredths) refl
  where
    seated : Seated
    seated = playing names players

    found : (o : Option ℕ) → (option_map_or (seat_sums s all_in) o no_sums).hands ≡ cond (is_some o) 1 0
    found None = refl
    found (Some seat) = one_hand s all_in seat

    by : (b : Bool) → beq player.hundredths s.hundredths ≡ b →
        (cond b (option_map_or (seat_sums s all_in) (seat_named player.name seated) no_sums) no_sums).hands
        ≡ cond (list_any (same_player player) (map (λ who. named_player s.hundredths who.1) seated)) 1 0
    by true unit = found (seat_named player.name seated) ∙ ap (λ b. cond b 1 0) (sym (seat_any s.hundredths player seated unit))
    by false unit = ap (λ b. cond b 1 0) (sym (nobody_any s.hundredths player seated unit))

-- the hands of a player are those that he plays
pub played_over : (hands : List HandAudit) (player : Player) → (sums_over hands player).hands ≡ count_by (λ hand. list_any (same_player player) (players_in hand)) hands
played_over hands player = λ i. sum_by (λ hand. played_in hand player i) hands
