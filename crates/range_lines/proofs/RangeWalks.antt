-- A walk over the ranges of a sound spot: one hand more, and what is known of a whole choice.
use Rattle.std.proofs.Common.{◌≡◌, ℕ, suc, ◌+◌, ◌*◌, ◌-◌, ◌<◌, ◌≤◌, List, [], ◌∷◌, ◌++◌, map, length, get_or, take, drop, refl, sym, ap, ◌∙◌, subst, arith, Bool, true, false, cond, length-append, inl, inr, ◌^◌, ◌==◌, ◌&&◌}
use Rattle.std.specs.Prelude.{filter, All, Result, Err, ◌↔◌, nat_le}
use Rattle.std.specs.List.{flat_map}
use Rattle.std.proofs.lemmas.List.{length-map, drop_at}
use Rattle.std.proofs.lemmas.List.Elements.{All-nil, All-cons, All-head, All-drop, All-append, All-map, All-filter, All-weaker}
use Rattle.std.proofs.Math.Nat.{le-mul_of_pos_right, mul_assoc, mul_comm, pow-le-pow_right}
use Rattle.std.proofs.lemmas.Bool.{or_cases, and_parts, eqb-true, leb-true, ltb-false}
use Rattle.std.specs.Result.{IsErrOf}
use Rattle.card_sets.specs.State.{State}
use Rattle.card_sets.specs.declared.games.Game.TheVariants.{Holdem}
use Rattle.spot_text.specs.Games.{board_fits}
use Rattle.runout_ranges.specs.declared.limits.JobFault.{JobFault}
use Rattle.runout_ranges.specs.declared.limits.JobFault.TheVariants.{DeckShort, AboveLimit}
use Rattle.runout_ranges.specs.Jobs.{IsDeckShort, IsAboveLimit}
use Rattle.runout_ranges.specs.declared.limits.TheConstants.{RUNOUT_MAX}
use Rattle.runout_ranges.specs.Runouts.{HasMember}
use Rattle.runout_ranges.specs.Ways.{binomial}
use Rattle.runout_ranges.proofs.CallerLemmas.{first_part, binomial_some}
use Rattle.showdown_tally.specs.Tallies.{runouts_after}
use Rattle.range_lines.specs.declared.spot.Weighted.{Weighted}
use Rattle.range_lines.specs.Choices.{taken_from, choices, hands_in, is_disjoint, deal_of_choice, full_runouts, most_choices, runouts_of_choice, are_above}
use Rattle.range_lines.specs.Sound.{IsHand, AreHands, AreRanges, IsSound}
use Rattle.range_lines.specs.RangeSpot.{Ranges}
use Rattle.range_lines.specs.Walks.{IsWalk, AreFew}
use Rattle.range_lines.proofs.CardsLeft.{AreSets, runouts_twos, enough_twos}
use Rattle.range_lines.proofs.TakenHands.{hands_push, hand_at, hands_sets, hands_twos, places_apart}

-- a whole choice of a sound spot
choice_sets : (spot : Ranges) (choice : List Weighted) → IsSound spot → AreHands spot.board spot.dead choice → AreSets (spot.board ∷ spot.dead ∷ hands_in choice)
choice_sets spot choice sound h = (sound.board_set, (sound.dead_set, hands_sets spot.board spot.dead choice h))

pub choice_runouts : (spot : Ranges) (choice : List Weighted) → IsSound spot → AreHands spot.board spot.dead choice → is_disjoint choice ≡ true → length choice ≡ length spot.ranges
    → full_runouts spot.board spot.dead choice ≡ runouts_of_choice spot
choice_runouts spot choice sound h d all =
    let many : length (hands_in choice) ≡ length spot.ranges = length-map choice (λ w. w.hand) ∙ all in
    runouts_twos spot.board spot.dead (hands_in choice) (choice_sets spot choice sound h) (places_apart spot.board spot.dead choice sound.off_dead h d) (hands_twos spot.board spot.dead choice h)
    ∙ ap (λ n. binomial (52 - (length spot.board + length spot.dead + 2 * n)) (5 - length spot.board)) many

pub choice_enough : (spot : Ranges) (choice : List Weighted) → IsSound spot → AreHands spot.board spot.dead choice → is_disjoint choice ≡ true → length choice ≡ length spot.ranges
    → ¬ IsDeckShort (deal_of_choice spot.board spot.dead choice).state
choice_enough spot choice sound h d all =
    let many : length (hands_in choice) ≡ length spot.ranges = length-map choice (λ w. w.hand) ∙ all in
    enough_twos spot.board spot.dead (hands_in choice) (choice_sets spot choice sound h) (places_apart spot.board spot.dead choice sound.off_dead h d) (hands_twos spot.board spot.dead choice h)
    (omega (arith, many, sound.enough))

-- where the walk has a hand of each range, its choice has few runouts
pub walk_few : (spot : Ranges) (choice : List Weighted) → IsWalk spot [] choice → is_disjoint choice ≡ true → length (runouts_after (deal_of_choice spot.board spot.dead choice).state) ≤ RUNOUT_MAX
walk_few spot choice walk d =
    let all : length choice ≡ length spot.ranges = omega (arith, walk.all) in
    let same : full_runouts spot.board spot.dead choice ≡ runouts_of_choice spot = choice_runouts spot choice walk.sound walk.hands d all in
    let few : 1 * runouts_of_choice spot ≤ RUNOUT_MAX = walk.few in
    omega (arith, same, few)

-- one hand more
pub walk_step : (spot : Ranges) (range : List Weighted) (ranges : List (List Weighted)) (taken : List Weighted) (i : ℕ) (d : Weighted) → IsWalk spot (range ∷ ranges) taken → i < length range → IsWalk spot ranges (taken ++ get_or range i d ∷ [])
walk_step spot range ranges taken i d walk l = record {
  sound = walk.sound;
  hands = hands_push spot.board spot.dead taken (get_or range i d) walk.hands (hand_at spot.board spot.dead range i d walk.left.0.each l);
  left = walk.left.1;
  all = omega (arith, walk.all, length-append taken (get_or range i d ∷ []));
  few = fewer (length range) (most_choices ranges) (runouts_of_choice spot) walk.few (omega arith);
}
  where
    fewer : (n m r : ℕ) → (n * m) * r ≤ RUNOUT_MAX → 0 < n → m * r ≤ RUNOUT_MAX
    fewer n m r h some =
        let more : m * r ≤ (m * r) * n = le-mul_of_pos_right (m * r) some in
        let same : (m * r) * n ≡ (n * m) * r = mul_comm (m * r) n ∙ sym (mul_assoc n m r) in
        omega (arith, more, same, h)

-- a board that a deal has is small
pub board_small : (n : ℕ) → board_fits Holdem n ≡ true → n ≤ 5
board_small n h = elim (or_cases (n == 0) (nat_le 3 n && nat_le n 5) h) [
  | inl e ↦ (let z = eqb-true n 0 e in omega arith)
  | inr e ↦ leb-true n 5 (and_parts (nat_le 3 n) (nat_le n 5) e).1
]

-- a job that is refused has too few cards or too many runouts
pub refused : {T : Type 0} (r : Result T JobFault) (s : State) (fault : JobFault) → r ≡ Err fault → (IsErrOf r DeckShort ↔ IsDeckShort s) → (IsErrOf r AboveLimit ↔ ((¬ IsDeckShort s) × IsAboveLimit s))
    → ¬ IsDeckShort s → length (runouts_after s) ≤ RUNOUT_MAX → ⊥
refused r s DeckShort is short above enough few = enough (short.0 is)
refused r s AboveLimit is short above enough few = let more = (above.0 is).1 in omega arith

-- ranges of a sound spot have few hands
pub ranges_few : (board dead : List ℕ) (ranges : List (List Weighted)) → AreRanges board dead ranges → AreFew ranges
ranges_few board dead [] h = tt
ranges_few board dead (range ∷ ranges) h = (h.0.few, ranges_few board dead ranges h.1)

pub few_first : (ranges : List (List Weighted)) (d : List Weighted) → 0 < length ranges → AreFew ranges → length (get_or ranges 0 d) ≤ 1326
few_first [] d some few = absurd (omega arith)
few_first (range ∷ ranges) d some few = few.0

-- a product of four ranges fits
pub most_fits : (n most : ℕ) → n ≤ 4 → most ≤ 2048 ^ n → most ≤ 2 ^ 44
most_fits n most few h =
    let power : 2048 ^ n ≤ 2048 ^ 4 = pow-le-pow_right (let some : 0 < 2048 = omega arith in some) few in
    omega (arith, h, power)

-- the walk begins with all ranges and no hand
pub walk_begins : (spot : Ranges) (taken : List Weighted) → taken ≡ [] → IsSound spot → are_above RUNOUT_MAX spot ≡ false → IsWalk spot spot.ranges taken
walk_begins spot taken none sound within =
    let few : most_choices spot.ranges * runouts_of_choice spot ≤ RUNOUT_MAX = ltb-false RUNOUT_MAX (most_choices spot.ranges * runouts_of_choice spot) within in
    subst (IsWalk spot spot.ranges) (sym none) (record { sound = sound; hands = tt; left = sound.each; all = omega arith; few = few })

-- each choice has a runout, so there are few choices
pub runouts_some : (spot : Ranges) → IsSound spot → 0 < runouts_of_choice spot
runouts_some spot sound = binomial_some _ _ (omega (arith, sound.enough))

pub most_few : (spot : Ranges) → IsSound spot → are_above RUNOUT_MAX spot ≡ false → most_choices spot.ranges ≤ RUNOUT_MAX
most_few spot sound within =
    let few : most_choices spot.ranges * runouts_of_choice spot ≤ RUNOUT_MAX = ltb-false RUNOUT_MAX (most_choices spot.ranges * runouts_of_choice spot) within in
    let up : most_choices spot.ranges ≤ most_choices spot.ranges * runouts_of_choice spot = le-mul_of_pos_right (most_choices spot.ranges) (runouts_some spot sound) in
    omega (arith, few, up)

-- the first of some ranges and the others
pub split_first : (ranges : List (List Weighted)) (range hands : List Weighted) → 0 < length ranges → range ≡ get_or ranges 0 range → hands ≡ range → ranges ≡ hands ∷ take (length ranges - 1) (drop 1 ranges)
split_first ranges range hands some is same =
    let others = take (length ranges - 1) (drop 1 ranges) in
    first_part ranges range some ∙ ap (λ r. r ∷ others) (sym is) ∙ ap (λ r. r ∷ others) (sym same)

pub most_none : (ranges : List (List Weighted)) → length ranges < 1 → most_choices ranges ≡ 1
most_none [] h = refl
most_none (range ∷ ranges) h = absurd (omega arith)

-- ---- the members of all choices

-- a choice of hands of the ranges
record IsChoice (board dead : List ℕ) (n : ℕ) (choice : List Weighted) : Type 0 where
  hands : AreHands board dead choice
  all : length choice ≡ n

one_first : (board dead : List ℕ) (n : ℕ) (w : Weighted) (rests : List (List Weighted)) → IsHand board dead w → All (IsChoice board dead n) rests → All (IsChoice board dead (suc n)) (map (λ rest. w ∷ rest) rests)
one_first board dead n w rests h all =
    All-map (IsChoice board dead (suc n)) (λ rest. w ∷ rest) rests
    (All-weaker (IsChoice board dead n) (λ rest. IsChoice board dead (suc n) (w ∷ rest)) (λ rest r. record { hands = (h, r.hands); all = ap suc r.all }) rests all)

each_first : (board dead : List ℕ) (n : ℕ) (range : List Weighted) (rests : List (List Weighted)) → AreHands board dead range → All (IsChoice board dead n) rests
    → All (IsChoice board dead (suc n)) (flat_map (λ first. map (λ rest. first ∷ rest) rests) range)
each_first board dead n [] rests h all = All-nil (IsChoice board dead (suc n))
each_first board dead n (w ∷ range) rests h all = All-append (IsChoice board dead (suc n)) (map (λ rest. w ∷ rest) rests) (flat_map (λ first. map (λ rest. first ∷ rest) rests) range) (one_first board dead n w rests h.0 all) (each_first board dead n range rests h.1 all)

taken_choices : (board dead : List ℕ) (ranges : List (List Weighted)) → AreRanges board dead ranges → All (IsChoice board dead (length ranges)) (taken_from ranges)
taken_choices board dead [] h = All-cons (IsChoice board dead 0) [] [] (record { hands = tt; all = refl }) (All-nil (IsChoice board dead 0))
taken_choices board dead (range ∷ ranges) h = each_first board dead (length ranges) range (taken_from ranges) h.0.each (taken_choices board dead ranges h.1)

passing : {X : Type 0} (p : X → Bool) (xs : List X) → All (λ x. p x ≡ true) (filter p xs)
passing p [] = All-nil (λ x. p x ≡ true)
passing p (x ∷ xs) = elim (p x) as (λ b. p x ≡ b → All (λ x. p x ≡ true) (cond b (x ∷ filter p xs) (filter p xs))) [
  | true ↦ λ e. All-cons (λ x. p x ≡ true) x (filter p xs) e (passing p xs)
  | false ↦ λ e. passing p xs
] refl

member_at : {X : Type 0} (P : X → Type 0) (xs : List X) (x : X) → All P xs → HasMember xs x → P x
member_at P xs x all m = All-head P x m.1 (subst (All P) (drop_at m.0 (x ∷ m.1) (length m.0) refl) (All-drop P (length m.0) (m.0 ++ x ∷ m.1) (subst (All P) m.2 all)))

pub equal_runouts : (spot : Ranges) (choice : List Weighted) → IsSound spot → HasMember (choices spot.ranges) choice → full_runouts spot.board spot.dead choice ≡ runouts_of_choice spot
equal_runouts spot choice sound m =
    let is = member_at (IsChoice spot.board spot.dead (length spot.ranges)) (choices spot.ranges) choice (All-filter is_disjoint (IsChoice spot.board spot.dead (length spot.ranges)) (taken_from spot.ranges) (taken_choices spot.board spot.dead spot.ranges sound.each)) m in
    let apart = member_at (λ some. is_disjoint some ≡ true) (choices spot.ranges) choice (passing is_disjoint (taken_from spot.ranges)) m in
    choice_runouts spot choice sound is.hands apart is.all
