-- Parts of a list: what is left where some members are left out; and parts of sets of cards.
use Rattle.std.proofs.Common.{◌≡◌, ℕ, List, ◌∷◌, [], refl, ap, ◌∙◌, sym, arith, Bool, true, false, cond, inl, inr, map, subst, ◌⊎◌, ◌+◌}
use Rattle.std.specs.Prelude.{filter, ◌==◌}
use Rattle.std.specs.List.{list_all}
use mathlib.Core.Bool.{true≢false}
use Rattle.card_sets.specs.Cards.{IsCardSet, RisingFrom, has_card}
use Rattle.card_sets.specs.Rising.{IsCardSet-rising, rising-IsCardSet, RisingFrom-lower}
use Rattle.std.proofs.lemmas.Bool.{and_parts, or_left, or_right, cases_eq}
use Rattle.card_sets.proofs.SetLemmas.{Apart}

-- a list is another with some members left out
abbrev pub IsPart : List ℕ → List ℕ → Type 0
IsPart part [] = part ≡ []
IsPart part (x ∷ xs) = IsPart part xs ⊎ ((rest : List ℕ) × (part ≡ x ∷ rest) × IsPart rest xs)

pub none_part : (xs : List ℕ) → IsPart [] xs
none_part [] = refl
none_part (x ∷ xs) = inl (none_part xs)

-- a part whose members all pass is a part of those that pass
pub passing_part : (test : ℕ → Bool) (part xs : List ℕ) → list_all test part ≡ true → IsPart part xs → IsPart part (filter test xs)
passing_part test part [] all p = p
passing_part test part (x ∷ xs) all p = elim p [
  | inl without ↦
      let ih : IsPart part (filter test xs) = passing_part test part xs all without in
      elim (test x) as (λ b. IsPart part (cond b (x ∷ filter test xs) (filter test xs))) [ true ↦ inl ih | false ↦ ih ]
  | inr with ↦
      let each = and_parts (test x) (list_all test with.0) (sym (ap (λ l. list_all test l) with.1) ∙ all) in
      let ih : IsPart with.0 (filter test xs) = passing_part test with.0 xs each.1 with.2 in
      let P : Bool → Type 0 = λ b. IsPart part (cond b (x ∷ filter test xs) (filter test xs)) in
      subst P (sym each.0) (inr (with.0, with.1, ih))
]

-- a part of those that pass is a part
pub part_of_passing : (test : ℕ → Bool) (part xs : List ℕ) → IsPart part (filter test xs) → IsPart part xs
part_of_passing test part [] p = p
part_of_passing test part (x ∷ xs) p = elim (test x) as (λ b. IsPart part (cond b (x ∷ filter test xs) (filter test xs)) → IsPart part xs ⊎ ((rest : List ℕ) × (part ≡ x ∷ rest) × IsPart rest xs)) [
  | true ↦ λ q. elim q [
    | inl without ↦ inl (part_of_passing test part xs without)
    | inr with ↦ inr (with.0, with.1, part_of_passing test with.0 xs with.2)
  ]
  | false ↦ λ q. inl (part_of_passing test part xs q)
] p

-- a part of an image is the image of a part
pub part_of_image : (f : ℕ → ℕ) (part xs : List ℕ) → IsPart part (map f xs) → (from : List ℕ) × IsPart from xs × (map f from ≡ part)
part_of_image f part [] p = ([], refl, sym p)
part_of_image f part (x ∷ xs) p = elim p [
  | inl without ↦ let ih = part_of_image f part xs without in (ih.0, inl ih.1, ih.2)
  | inr with ↦ let ih = part_of_image f with.0 xs with.2 in (x ∷ ih.0, inr (ih.0, refl, ih.1), ap (λ l. f x ∷ l) ih.2 ∙ sym with.1)
]

-- the image of a part is a part of the image
pub image_of_part : (f : ℕ → ℕ) (part xs : List ℕ) → IsPart part xs → IsPart (map f part) (map f xs)
image_of_part f part [] p = ap (λ l. map f l) p
image_of_part f part (x ∷ xs) p = elim p [
  | inl without ↦ inl (image_of_part f part xs without)
  | inr with ↦ inr (map f with.0, ap (λ l. map f l) with.1, image_of_part f with.0 xs with.2)
]

pub rising-part : (low : ℕ) (part xs : List ℕ) → IsPart part xs → RisingFrom low xs → RisingFrom low part
rising-part low part [] p r = let P : List ℕ → Type 0 = λ l. RisingFrom low l in subst P (sym p) tt
rising-part low part (x ∷ xs) p r = elim p [
  | inl without ↦ rising-part low part xs without (RisingFrom-lower (x + 1) low xs (omega arith) r.2)
  | inr with ↦ (let P : List ℕ → Type 0 = λ l. RisingFrom low l in subst P (sym with.1) (r.0, r.1, rising-part (x + 1) with.0 xs with.2 r.2))
]

pub set-part : (part xs : List ℕ) → IsPart part xs → IsCardSet xs → IsCardSet part
set-part part xs p set = rising-IsCardSet part (rising-part 0 part xs p (IsCardSet-rising xs set))

-- a card of a part is one of the whole
pub has-part : (part xs : List ℕ) (k : ℕ) → IsPart part xs → has_card part k ≡ true → has_card xs k ≡ true
has-part part [] k p h = absurd (true≢false (sym h ∙ ap (λ l. has_card l k) p))
has-part part (x ∷ xs) k p h = elim p [
  | inl without ↦ or_right (x == k) (has_card xs k) (has-part part xs k without h)
  | inr with ↦ elim (cases_eq x k) [
    | inl e ↦ or_left (x == k) (has_card xs k) (let t : (x == k) ≡ true = grind arith in t)
    | inr ne ↦
        let no : (x == k) ≡ false = grind arith in
        let whole : has_card (x ∷ with.0) k ≡ true = sym (ap (λ l. has_card l k) with.1) ∙ h in
        or_right (x == k) (has_card xs k) (has-part with.0 xs k with.2 (rw no at whole))
  ]
]

pub Apart-parts : (part whole other others : List ℕ) → IsPart part whole → IsPart other others → Apart whole others → Apart part other
Apart-parts part whole other others p q h k x y = h k (has-part part whole k p x) (has-part other others k q y)
