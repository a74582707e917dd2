-- What passes a test of a list, and what each member is made into: how many, and the members.
use Rattle.std.proofs.Common.{◌≡◌, ◌+◌, List, [], ◌∷◌, ◌++◌, map, refl, sym, ap, ◌∙◌, Bool, true, false, cond}
use Rattle.std.specs.Prelude.{filter, not}
use Rattle.std.specs.List.{count_by}
use Rattle.std.proofs.lemmas.List.Filters.{sum_by-filter_both}
use Rattle.runout_ranges.specs.Runouts.{HasMember}

-- what passes a test and what doesn't
pub count_parts : {X : Type 0} (p test : X → Bool) (xs : List X) → count_by test (filter p xs) + count_by test (filter (λ x. not (p x)) xs) ≡ count_by test xs
count_parts p test xs = sum_by-filter_both p (λ x. not (p x)) (λ x. refl) (λ x. cond (test x) 1 0) xs

-- a member of what passes is a member that passes
no_member : {X : Type 0} (x : X) (front back : List X) → [] ≡ front ++ x ∷ back → ⊥
no_member x [] back e = cc
no_member x (y ∷ front) back e = cc

pass_on : {X : Type 0} (p : X → Bool) (y : X) (xs : List X) (x : X) → (HasMember (filter p xs) x → HasMember xs x × (p x ≡ true)) → HasMember (filter p xs) x → HasMember (y ∷ xs) x × (p x ≡ true)
pass_on p y xs x each m = longer (each m)
  where
    longer : HasMember xs x × (p x ≡ true) → HasMember (y ∷ xs) x × (p x ≡ true)
    longer m = ((y ∷ m.0.0, m.0.1, ap (λ l. y ∷ l) m.0.2), m.1)

pass_here : {X : Type 0} (p : X → Bool) (y : X) (xs : List X) (x : X) (front back : List X) → (HasMember (filter p xs) x → HasMember xs x × (p x ≡ true)) → p y ≡ true → y ∷ filter p xs ≡ front ++ x ∷ back → HasMember (y ∷ xs) x × (p x ≡ true)
pass_here p y xs x [] back each t e = let same : y ≡ x = cc in (([], xs, ap (λ v. v ∷ xs) same), sym (ap p same) ∙ t)
pass_here p y xs x (z ∷ front) back each t e = let rest : filter p xs ≡ front ++ x ∷ back = cc in pass_on p y xs x each (front, back, rest)

pass_by : {X : Type 0} (p : X → Bool) (y : X) (xs : List X) (x : X) (b : Bool) → (HasMember (filter p xs) x → HasMember xs x × (p x ≡ true)) → p y ≡ b → HasMember (cond b (y ∷ filter p xs) (filter p xs)) x → HasMember (y ∷ xs) x × (p x ≡ true)
pass_by p y xs x true each t m = pass_here p y xs x m.0 m.1 each t m.2
pass_by p y xs x false each t m = pass_on p y xs x each m

pub filter_member : {X : Type 0} (p : X → Bool) (xs : List X) (x : X) → HasMember (filter p xs) x → HasMember xs x × (p x ≡ true)
filter_member p [] x m = absurd (no_member x m.0 m.1 m.2)
filter_member p (y ∷ xs) x m = pass_by p y xs x (p y) (filter_member p xs x) refl m

-- a member of what each is made into comes from one
make_on : {X Y : Type 0} (f : X → Y) (x : X) (xs : List X) (y : Y) → (v : X) × HasMember xs v × (y ≡ f v) → (v : X) × HasMember (x ∷ xs) v × (y ≡ f v)
make_on f x xs y m = (m.0, (x ∷ m.1.0, m.1.1, ap (λ l. x ∷ l) m.1.2), m.2)

make_here : {X Y : Type 0} (f : X → Y) (x : X) (xs : List X) (y : Y) (front back : List Y) → (HasMember (map f xs) y → (v : X) × HasMember xs v × (y ≡ f v)) → f x ∷ map f xs ≡ front ++ y ∷ back → (v : X) × HasMember (x ∷ xs) v × (y ≡ f v)
make_here f x xs y [] back each e = let same : f x ≡ y = cc in (x, ([], xs, refl), sym same)
make_here f x xs y (z ∷ front) back each e =
    let rest : map f xs ≡ front ++ y ∷ back = cc in
    make_on f x xs y (each (front, back, rest))

pub map_member : {X Y : Type 0} (f : X → Y) (xs : List X) (y : Y) → HasMember (map f xs) y → (x : X) × HasMember xs x × (y ≡ f x)
map_member f [] y m = absurd (no_member y m.0 m.1 m.2)
map_member f (x ∷ xs) y m = make_here f x xs y m.0 m.1 (map_member f xs y) m.2
