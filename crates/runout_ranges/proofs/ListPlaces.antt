-- Where a choice or a runout stands in its list.
use Rattle.std.proofs.Common.{◌≡◌, ℕ, List, [], ◌∷◌, ◌++◌, map, refl, sym, ap, ◌∙◌, inl, inr, ◌⊎◌}
use Rattle.std.specs.List.{flat_map}
use Rattle.card_sets.specs.Choose.{choose}
use Rattle.runout_ranges.specs.Runouts.{runouts, left_by, Follows, Ends}

-- a place in two lists together is in the first or in the second
pub split : {X : Type 0} (a b front : List X) (y : X) (back : List X) → a ++ b ≡ front ++ y ∷ back
    → ((t : List X) × (a ≡ front ++ y ∷ t) × (back ≡ t ++ b)) ⊎ ((d : List X) × (b ≡ d ++ y ∷ back))
split [] b front y back e = inr (front, e)
split (x ∷ a) b [] y back e = inl (a, cc, cc)
split (x ∷ a) b (z ∷ front) y back e =
    let inner : a ++ b ≡ front ++ y ∷ back = cc in
    elim (split a b front y back inner) [
      | inl s ↦ let f : a ≡ front ++ y ∷ s.0 = s.1 in inl (s.0, cc, s.2)
      | inr s ↦ inr s
    ]

-- a place among the results of a map
pub split_map : {X Y : Type 0} (g : X → Y) (xs : List X) (front : List Y) (y : Y) (back : List Y) → map g xs ≡ front ++ y ∷ back
    → (d : List X) × (x : X) × (t : List X) × (xs ≡ d ++ x ∷ t) × (g x ≡ y) × (back ≡ map g t)
split_map g [] [] y back e = cc
split_map g [] (z ∷ front) y back e = cc
split_map g (x ∷ xs) [] y back e = ([], x, xs, refl, cc, cc)
split_map g (x ∷ xs) (z ∷ front) y back e =
    let inner : map g xs ≡ front ++ y ∷ back = cc in
    let s = split_map g xs front y back inner in
    (x ∷ s.0, s.1, s.2, ap (λ r. x ∷ r) s.3, s.4, s.5)

-- a place among blocks is a place in one block
pub split_blocks : {X Y : Type 0} (g : X → List Y) (xs : List X) (front : List Y) (y : Y) (back : List Y) → flat_map g xs ≡ front ++ y ∷ back
    → (d : List X) × (x : X) × (t : List X) × (f : List Y) × (b : List Y) × (xs ≡ d ++ x ∷ t) × (g x ≡ f ++ y ∷ b) × (back ≡ b ++ flat_map g t)
split_blocks g [] [] y back e = cc
split_blocks g [] (z ∷ front) y back e = cc
split_blocks g (x ∷ xs) front y back e = elim (split (g x) (flat_map g xs) front y back e) [
  | inl s ↦ ([], x, xs, front, s.0, refl, s.1, s.2)
  | inr s ↦ let r = split_blocks g xs s.0 y back s.1 in (x ∷ r.0, r.1, r.2, r.3, r.4, ap (λ l. x ∷ l) r.5, r.6, r.7)
]

-- the runouts that begin with a choice
block : List ℕ → List ℕ → List ℕ → List (List (List ℕ))
block unseen counts first = map (λ rest. first ∷ rest) (runouts (left_by unseen first) counts)

-- where a runout stands: its first choice among the choices, and the rest among the rest's runouts
pub place : (unseen : List ℕ) (n : ℕ) (counts : List ℕ) (f : List ℕ) (r : List (List ℕ)) (front back : List (List (List ℕ)))
    → runouts unseen (n ∷ counts) ≡ front ++ (f ∷ r) ∷ back
    → (d : List (List ℕ)) × (t : List (List ℕ)) × (x y : List (List (List ℕ)))
    × (choose n unseen ≡ d ++ f ∷ t) × (runouts (left_by unseen f) counts ≡ x ++ r ∷ y) × (back ≡ map (λ rest. f ∷ rest) y ++ flat_map (λ first. map (λ rest. first ∷ rest) (runouts (left_by unseen first) counts)) t)
place unseen n counts f r front back e =
    let b = split_blocks (λ first. map (λ rest. first ∷ rest) (runouts (left_by unseen first) counts)) (choose n unseen) front (f ∷ r) back e in
    let m = split_map (λ rest. b.1 ∷ rest) (runouts (left_by unseen b.1) counts) b.3 (f ∷ r) b.4 b.6 in
    let same : b.1 ≡ f = cc in
    let rest : m.1 ≡ r = cc in (
      b.0,
      b.2,
      m.0,
      m.2,
      b.5 ∙ ap (λ v. b.0 ++ v ∷ b.2) same,
      ap (λ v. runouts (left_by unseen v) counts) (sym same) ∙ m.3 ∙ ap (λ v. m.0 ++ v ∷ m.2) rest,
      b.7 ∙ ap (λ l. l ++ flat_map (λ first. map (λ rest. first ∷ rest) (runouts (left_by unseen first) counts)) b.2) (m.5 ∙ ap (λ v. map (λ rest. v ∷ rest) m.2) same),
    )

pub next_in_rest : (unseen : List ℕ) (n : ℕ) (counts : List ℕ) (f : List ℕ) (r r' : List (List ℕ))
    → Follows (runouts (left_by unseen f) counts) r r' → Follows (runouts unseen (n ∷ counts)) (f ∷ r) (f ∷ r')
next_in_rest unseen n counts f r r' h front back e =
    let p = place unseen n counts f r front back e in
    let s = h p.2 p.3 p.5 in
    (_, p.6 ∙ ap (λ l. map (λ rest. f ∷ rest) l ++ flat_map (λ first. map (λ rest. first ∷ rest) (runouts (left_by unseen first) counts)) p.1) s.1)

pub next_choice_first : (unseen : List ℕ) (n : ℕ) (counts : List ℕ) (f f' : List ℕ) (r r0 : List (List ℕ)) (more : List (List (List ℕ)))
    → Ends (runouts (left_by unseen f) counts) r → Follows (choose n unseen) f f' → runouts (left_by unseen f') counts ≡ r0 ∷ more
    → Follows (runouts unseen (n ∷ counts)) (f ∷ r) (f' ∷ r0)
next_choice_first unseen n counts f f' r r0 more last h begins front back e =
    let p = place unseen n counts f r front back e in
    let none : p.3 ≡ [] = last p.2 p.3 p.5 in
    let s = h p.0 p.1 p.4 in (
      _,
      p.6
          ∙ ap (λ l. map (λ rest. f ∷ rest) l ++ flat_map (λ first. map (λ rest. first ∷ rest) (runouts (left_by unseen first) counts)) p.1) none
          ∙ ap (λ l. flat_map (λ first. map (λ rest. first ∷ rest) (runouts (left_by unseen first) counts)) l) s.1
          ∙ ap (λ l. map (λ rest. f' ∷ rest) l ++ flat_map (λ first. map (λ rest. first ∷ rest) (runouts (left_by unseen first) counts)) s.0) begins,
    )

pub ends_all : (unseen : List ℕ) (n : ℕ) (counts : List ℕ) (f : List ℕ) (r : List (List ℕ))
    → Ends (runouts (left_by unseen f) counts) r → Ends (choose n unseen) f → Ends (runouts unseen (n ∷ counts)) (f ∷ r)
ends_all unseen n counts f r last h front back e =
    let p = place unseen n counts f r front back e in
    let none : p.3 ≡ [] = last p.2 p.3 p.5 in
    let s : p.1 ≡ [] = h p.0 p.1 p.4 in
    p.6
    ∙ ap (λ l. map (λ rest. f ∷ rest) l ++ flat_map (λ first. map (λ rest. first ∷ rest) (runouts (left_by unseen first) counts)) p.1) none
    ∙ ap (λ l. flat_map (λ first. map (λ rest. first ∷ rest) (runouts (left_by unseen first) counts)) l) s
