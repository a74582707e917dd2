-- Slots that lack nothing drop out.
use Rattle.std.proofs.Common.{◌≡◌, ℕ, zero, suc, ◌-◌, List, [], ◌∷◌, ◌++◌, length, map, refl, sym, ap, ◌∙◌, append-nil, arith}
use Rattle.std.specs.List.{sum_by, flat_map}
use Rattle.card_sets.specs.Choose.{choose}
use Rattle.card_sets.specs.declared.games.Game.{Game}
use Rattle.runout_ranges.specs.Runouts.{runouts, left_by}
use Rattle.runout_ranges.specs.Slots.{slot_of, counts_of}
use Rattle.runout_ranges.specs.declared.shapes.Receiver.{Receiver}
use Rattle.runout_ranges.specs.declared.shapes.Slot.{Slot}
use Rattle.street_walk.specs.Streets.{gets}
use Rattle.street_walk.proofs.PickedListing.{sum_same, sum_map, sum_flat, left_none}
use Rattle.street_walk.proofs.StreetParts.{rest_of}

-- the slots that lack cards
abbrev pub lacking : List Slot → List Slot
lacking some = flat_map (λ s. slot_of s.receiver s.count) some

-- a runout of the slots that lack cards, as one of all
abbrev pub padded_one : ℕ → (List (List ℕ) → List (List ℕ)) → List (List ℕ) → List (List ℕ)
padded_one zero rest sets = [] ∷ rest sets
padded_one (suc n) rest [] = [] ∷ rest []
padded_one (suc n) rest (set ∷ sets) = set ∷ rest sets

abbrev pub padded : List Slot → List (List ℕ) → List (List ℕ)
padded [] sets = []
padded (s ∷ some) sets = padded_one s.count (padded some) sets

zero_slot : (cards counts : List ℕ) (f : List (List ℕ) → ℕ) → sum_by f (runouts cards (0 ∷ counts)) ≡ sum_by (λ sets. f ([] ∷ sets)) (runouts cards counts)
zero_slot cards counts f =
    ap (λ l. sum_by f (map (λ rest. [] ∷ rest) (runouts l counts) ++ [])) (left_none cards)
    ∙ ap (sum_by f) (append-nil (map (λ rest. [] ∷ rest) (runouts cards counts)))
    ∙ sum_map (λ rest. [] ∷ rest) f (runouts cards counts)

-- the runouts of the slots that lack cards are those of all
pub runouts_padded : (some : List Slot) (cards : List ℕ) (f : List (List ℕ) → ℕ) → sum_by f (runouts cards (counts_of some)) ≡ sum_by (λ sets. f (padded some sets)) (runouts cards (counts_of (lacking some)))
runouts_padded [] cards f = refl
runouts_padded (s ∷ some) cards f = elim (s.count) as (λ n. sum_by f (runouts cards (n ∷ counts_of some)) ≡ sum_by (λ sets. f (padded_one n (padded some) sets)) (runouts cards (counts_of (slot_of s.receiver n ++ lacking some)))) [
  | zero ↦ zero_slot cards (counts_of some) f ∙ runouts_padded some cards (λ sets. f ([] ∷ sets))
  | suc n ↦
      let g : List (List ℕ) → ℕ = λ sets. f (padded_one (suc n) (padded some) sets) in
      sum_flat (λ first. map (λ rest. first ∷ rest) (runouts (left_by cards first) (counts_of some))) f (choose (suc n) cards)
      ∙ sum_same (choose (suc n) cards) _ _ (λ front back c e.
      sum_map (λ rest. c ∷ rest) f (runouts (left_by cards c) (counts_of some))
      ∙ runouts_padded some (left_by cards c) (λ sets. f (c ∷ sets))
      ∙ sym (sum_map (λ rest. c ∷ rest) g (runouts (left_by cards c) (counts_of (lacking some)))))
      ∙ sym (sum_flat (λ first. map (λ rest. first ∷ rest) (runouts (left_by cards first) (counts_of (lacking some)))) g (choose (suc n) cards))
]

pub length_padded : (some : List Slot) (sets : List (List ℕ)) → length (padded some sets) ≡ length some
length_padded [] sets = refl
length_padded (s ∷ some) sets = elim (s.count) as (λ n. length (padded_one n (padded some) sets) ≡ suc (length some)) [
  | zero ↦ ap suc (length_padded some sets)
  | suc n ↦ one (λ others. length_padded some others) n sets
]
  where
    one : ((others : List (List ℕ)) → length (padded some others) ≡ length some) → (n : ℕ) (sets : List (List ℕ)) → length (padded_one (suc n) (padded some) sets) ≡ suc (length some)
    one rest n [] = ap suc (rest [])
    one rest n (set ∷ sets) = ap suc (rest sets)

-- what is lacked after the street
pub lacking_more : (game : Game) (who : Receiver) (n : ℕ) (some : List Slot) → slot_of who (n - gets game who n) ++ lacking (rest_of game some) ≡ lacking (rest_of game (slot_of who n ++ some))
lacking_more game who zero some = let z : 0 - gets game who 0 ≡ 0 = omega arith in rw z refl
lacking_more game who (suc n) some = refl
