-- Hands beside a full board: what is known of each, their values with one hand more, and that all of them play.
use Rattle.std.proofs.Common.{◌==◌, ◌&&◌, ◌≡◌, ◌≢◌, ℕ, zero, suc, ◌+◌, ◌-◌, ◌<◌, ◌^◌, List, [], ◌∷◌, ◌++◌, length, set, get_or-set_same, get_or-set_other, refl, sym, ap, ◌∙◌, subst, arith, inl, inr, Bool, true}
use Rattle.std.specs.Prelude.{Option, None, slice_index_or}
use Rattle.std.specs.Int.{bit_at}
use Rattle.std.specs.Option.{option_map}
use Rattle.std.proofs.lemmas.Bool.{cases_lt}
use Rattle.std.proofs.lemmas.List.{length-map, length_push, map_push, get_or_push, get_or_append_left}
use Rattle.std.proofs.lemmas.Nat.Bits.{bit_at_mask_inside}
use Rattle.card_sets.specs.Cards.{IsCardSet}
use Rattle.card_sets.specs.Disjoint.{apart}
use Rattle.card_sets.specs.PlayerSets.{hands_below}
use Rattle.card_sets.specs.declared.games.Game.TheVariants.{Holdem}
use Rattle.card_sets.specs.declared.games.Side.TheVariants.{High}
use Rattle.showdown_tally.specs.Numbers.{side_number}
use Rattle.showdown_tally.specs.Settling.{number_of, greater, top_below}
use Rattle.showdown_tally.specs.Showdown.{best}
use Rattle.range_lines.specs.declared.spot.Weighted.{Weighted}
use Rattle.range_lines.specs.Choices.{hands_in, numbers_below}
use Rattle.range_lines.specs.Sound.{AreHands}
use Rattle.hand_ranges.specs.Taken.{AreValues}

pub hand_facts : (board dead : List ℕ) (choice : List Weighted) (h : ℕ) → AreHands board dead choice → h < length choice
    → (IsCardSet (slice_index_or (hands_in choice) h [])) × (length (slice_index_or (hands_in choice) h []) ≡ 2) × (apart (slice_index_or (hands_in choice) h []) board ≡ true)
hand_facts board dead [] h are l = absurd (omega arith)
hand_facts board dead (w ∷ choice) zero are l = (are.0.set, are.0.two, are.0.off_board)
hand_facts board dead (w ∷ choice) (suc h) are l = hand_facts board dead choice h are.1 (omega arith)

-- one hand more with its value
pub values_push : (board : List ℕ) (taken : List Weighted) (w : Weighted) (values : List (Option ℕ)) (value : Option ℕ) → length taken < length values → AreValues board taken values
    → (length board ≡ 5 → value ≡ option_map (side_number High Holdem) (best High Holdem w.hand board)) → AreValues board (taken ++ w ∷ []) (set values (length taken) value)
values_push board taken w values value room worth here = λ full h l. elim (cases_lt h (length taken)) [
  | inl lt ↦
      let ne : h ≢ length taken = omega arith in
      let own : slice_index_or (hands_in (taken ++ w ∷ [])) h [] ≡ slice_index_or (hands_in taken) h [] = ap (λ some. slice_index_or some h []) (map_push (λ v. v.hand) taken w) ∙ get_or_append_left (hands_in taken) (w.hand ∷ []) [] h (omega (arith, length-map taken (λ v. v.hand))) in
      get_or-set_other values (length taken) h value None ne ∙ worth full h lt ∙ ap (λ o. option_map (side_number High Holdem) (best High Holdem o board)) (sym own)
  | inr ge ↦
      let same : h ≡ length taken = omega (arith, length_push taken w) in
      let own : slice_index_or (hands_in (taken ++ w ∷ [])) h [] ≡ w.hand = ap (λ some. slice_index_or some h []) (map_push (λ v. v.hand) taken w) ∙ get_or_push (hands_in taken) w.hand [] h (length-map taken (λ v. v.hand) ∙ sym same) in
      ap (λ k. number_of (set values (length taken) value) k) same ∙ get_or-set_same values (length taken) value None room ∙ here full ∙ ap (λ o. option_map (side_number High Holdem) (best High Holdem o board)) (sym own)
]

pub values_none : (board : List ℕ) (taken : List Weighted) (values : List (Option ℕ)) → taken ≡ [] → AreValues board taken values
values_none board taken values none = subst (λ t. AreValues board t values) (sym none) (λ full h l. absurd (omega arith))

-- ---- every hand plays

every_bit : (mask n : ℕ) → ((hand : ℕ) → hand < n → bit_at mask hand ≡ 1) → numbers_below n ≡ hands_below mask n
every_bit mask zero all = refl
every_bit mask (suc n) all =
    let here : bit_at mask n ≡ 1 = all n (omega arith) in
    let before : numbers_below n ≡ hands_below mask n = every_bit mask n (λ hand l. all hand (omega arith)) in
    rw (here, before) refl

pub mask_bit : (n hand : ℕ) → hand < n → bit_at (2 ^ n - 1) hand ≡ 1
mask_bit n hand l = bit_at_mask_inside 0 n hand (omega arith) l

pub plays_all : (n : ℕ) → numbers_below n ≡ hands_below (2 ^ n - 1) n
plays_all n = every_bit (2 ^ n - 1) n (mask_bit n)

pub all_bits : (n hand : ℕ) (b : Bool) → hand < n → b ≡ ((bit_at (2 ^ n - 1) hand == 1) && b)
all_bits n hand b l = rw (mask_bit n hand l) refl

-- one value more of the greatest
pub top_next : (values : List (Option ℕ)) (n hand : ℕ) (top value : Option ℕ) → hand < n → top ≡ top_below values (2 ^ n - 1) hand → value ≡ number_of values hand → greater top value ≡ top_below values (2 ^ n - 1) (hand + 1)
top_next values n hand top value l e f =
    let up : hand + 1 ≡ suc hand = omega arith in
    rw (up, mask_bit n hand l, ← e, ← f) refl
