-- The runouts that go on from some cards.
use Rattle.std.specs.Prelude.{◌≡◌, ◌≤◌, ℕ, ◌+◌, ◌-◌, List, [], ◌∷◌, ◌++◌, map, length, sum}
use Rattle.std.specs.List.{flat_map}
use Rattle.card_sets.specs.Cards.{IsCardSet, IsRising}
use Rattle.card_sets.specs.Choose.{choose}
use Rattle.runout_ranges.specs.Runouts.{runouts, left_by, HasMember}
use Rattle.runout_ranges.specs.Ways.{ways}
use Rattle.runout_ranges.specs.declared.shapes.Slot.{Slot}

-- the cards that are left when some slots have theirs
abbrev pub left_after : List ℕ → List (List ℕ) → List ℕ
left_after unseen [] = unseen
left_after unseen (set ∷ sets) = left_after (left_by unseen set) sets

-- how many cards the last slot takes
abbrev pub last_count : List Slot → ℕ
last_count [] = 0
last_count (slot ∷ []) = slot.count
last_count (slot ∷ next ∷ slots) = last_count (next ∷ slots)

-- the rest is the end of the cards
abbrev pub IsEndOf : List ℕ → List ℕ → Type 0
IsEndOf rest cards = (front : List ℕ) × (cards ≡ front ++ rest)

-- a slot has some cards, and gets `left` more of the rest in each way; then the later slots are filled in each way
abbrev pub going_on : List ℕ → List ℕ → List ℕ → ℕ → List ℕ → List (List (List ℕ))
going_on unseen taken rest left later = flat_map (λ more. map (λ sets. (taken ++ more) ∷ sets) (runouts (left_by unseen (taken ++ more)) later)) (choose left rest)

-- a slot of the cards that may come has some, and gets `left` more of the rest, which lie above them; the later slots can be filled
-- in `each` ways then
pub record IsBranch (unseen taken rest : List ℕ) (left : ℕ) (later : List ℕ) (each : ℕ) : Type 0 where
  pub above : IsCardSet rest → IsRising (taken ++ rest)
  pub end : IsEndOf rest unseen
  pub chosen : (more : List ℕ) → HasMember (choose left rest) more → HasMember (choose (length taken + left) unseen) (taken ++ more)
  pub enough : length taken + left + sum later ≤ length unseen
  pub ways_later : each ≡ ways (length unseen - (length taken + left)) later
