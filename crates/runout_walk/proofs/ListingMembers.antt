-- Members of listings.
use Rattle.std.proofs.Common.{◌≡◌, ℕ, zero, suc, ◌+◌, ◌-◌, ◌<◌, ◌≤◌, Bool, cond, List, [], ◌∷◌, ◌++◌, length, length-append, get_or, map, take, drop, refl, sym, ap, ◌∙◌, arith, subst, append_assoc}
use Rattle.std.specs.List.{count_by, slice_range}
use Rattle.std.proofs.lemmas.List.{length-take, length-drop}
use Rattle.std.proofs.lemmas.List.Sums.{sum_by-cons}
use Rattle.card_sets.specs.Choose.{choose}
use Rattle.runout_ranges.specs.Runouts.{HasMember}
use Rattle.runout_ranges.proofs.CallerLemmas.{choose_length}

pub member-map : {X Y : Type 0} (f : X → Y) (xs : List X) (x : X) → HasMember xs x → HasMember (map f xs) (f x)
member-map f xs x m = (map f m.0, map f m.1, ap (map f) m.2 ∙ go m.0 m.1)
  where
    go : (front back : List _) → map f (front ++ x ∷ back) ≡ map f front ++ f x ∷ map f back
    go [] back = refl
    go (y ∷ front) back = ap (λ l. f y ∷ l) (go front back)

pub member-left : {X : Type 0} (all xs ys : List X) (x : X) → all ≡ xs ++ ys → HasMember xs x → HasMember all x
member-left all xs ys x e m = (m.0, m.1 ++ ys, e ∙ ap (λ l. l ++ ys) m.2 ∙ append_assoc m.0 (x ∷ m.1) ys)

pub member-right : {X : Type 0} (all xs ys : List X) (x : X) → all ≡ xs ++ ys → HasMember ys x → HasMember all x
member-right all xs ys x e m = (xs ++ m.0, m.1, e ∙ ap (λ l. xs ++ l) m.2 ∙ sym (append_assoc xs m.0 (x ∷ m.1)))

pub length-range : {X : Type 0} (xs : List X) (lo hi : ℕ) → lo ≤ hi → hi ≤ length xs → length (slice_range xs lo hi) ≡ hi - lo
length-range xs lo hi h k = omega (arith, length-take (hi - lo) (drop lo xs), length-drop lo xs)

-- the choices with the first card of the rest, and those without it
pub with_members : (M : List ℕ → Type 0) (taken with rest others : List ℕ) (card left : ℕ) → 0 < left → rest ≡ card ∷ others → with ≡ taken ++ card ∷ [] → ((more : List ℕ) → HasMember (choose left rest) more → M (taken ++ more))
    → (more : List ℕ) → HasMember (choose (left - 1) others) more → M (with ++ more)
with_members M taken with rest others card zero some first w all more m = absurd (omega arith)
with_members M taken with rest others card (suc k) some first w all more m =
    let less : suc k - 1 ≡ k = omega arith in
    let m' : HasMember (choose k others) more = (let P : ℕ → Type 0 = λ n. HasMember (choose n others) more in subst P less m) in
    let in_rest : HasMember (choose (suc k) (card ∷ others)) (card ∷ more) = member-left (choose (suc k) (card ∷ others)) (map (λ l. card ∷ l) (choose k others)) (choose (suc k) others) (card ∷ more) refl (member-map (λ l. card ∷ l) (choose k others) more m') in
    let Q : List ℕ → Type 0 = λ l. HasMember (choose (suc k) l) (card ∷ more) in
    let all_of : M (taken ++ card ∷ more) = all (card ∷ more) (subst Q (sym first) in_rest) in
    subst M (sym (ap (λ l. l ++ more) w ∙ append_assoc taken (card ∷ []) more)) all_of

pub without_members : (M : List ℕ → Type 0) (taken rest others : List ℕ) (card left : ℕ) → 0 < left → rest ≡ card ∷ others → ((more : List ℕ) → HasMember (choose left rest) more → M (taken ++ more))
    → (more : List ℕ) → HasMember (choose left others) more → M (taken ++ more)
without_members M taken rest others card zero some first all more m = absurd (omega arith)
without_members M taken rest others card (suc k) some first all more m =
    let Q : List ℕ → Type 0 = λ l. HasMember (choose (suc k) l) more in
    all more (subst Q (sym first) (member-right (choose (suc k) (card ∷ others)) (map (λ l. card ∷ l) (choose k others)) (choose (suc k) others) more refl m))

-- a member of a part
pub in_take : {X : Type 0} (n : ℕ) (xs : List X) (x : X) → HasMember (take n xs) x → HasMember xs x
in_take n xs x m = go n xs m.0 m.1 m.2
  where
    go : (n : ℕ) (xs front back : List _) → take n xs ≡ front ++ x ∷ back → HasMember xs x
    go zero xs [] back e = cc
    go zero xs (y ∷ front) back e = cc
    go (suc n) [] [] back e = cc
    go (suc n) [] (y ∷ front) back e = cc
    go (suc n) (z ∷ xs) [] back e = let same : z ≡ x = cc in ([], xs, ap (λ v. v ∷ xs) same)
    go (suc n) (z ∷ xs) (y ∷ front) back e = let rest : take n xs ≡ front ++ x ∷ back = cc in let r = go n xs front back rest in (z ∷ r.0, r.1, ap (λ l. z ∷ l) r.2)

in_drop : {X : Type 0} (n : ℕ) (xs : List X) (x : X) → HasMember (drop n xs) x → HasMember xs x
in_drop zero xs x m = m
in_drop (suc n) [] x m = m
in_drop (suc n) (z ∷ xs) x m = let r = in_drop n xs x m in (z ∷ r.0, r.1, ap (λ l. z ∷ l) r.2)

pub in_range : {X : Type 0} (xs : List X) (lo hi : ℕ) (x : X) → HasMember (slice_range xs lo hi) x → HasMember xs x
in_range xs lo hi x m = in_drop lo xs x (in_take (hi - lo) (drop lo xs) x m)

-- a list that isn't empty has a member
pub some_member : {X : Type 0} (xs : List X) → 0 < length xs → (x : X) × HasMember xs x
some_member [] h = absurd (omega arith)
some_member (x ∷ xs) h = (x, ([], xs, refl))

-- so has each place of a list
pub member_at : (xs : List ℕ) (i d : ℕ) → i < length xs → HasMember xs (get_or xs i d)
member_at [] i d h = absurd (omega arith)
member_at (x ∷ xs) zero d h = ([], xs, refl)
member_at (x ∷ xs) (suc i) d h = let m = member_at xs i d (omega arith) in (x ∷ m.0, m.1, ap (λ l. x ∷ l) m.2)

-- where each choice fills the last slot, it has no card before them
pub taken_none : (taken rest : List ℕ) (left depth lo hi : ℕ) → left ≡ depth → lo < hi → hi ≤ length (choose left rest) → ((more : List ℕ) → HasMember (choose left rest) more → length (taken ++ more) ≡ depth) → taken ≡ []
taken_none [] rest left depth lo hi e l h all = refl
taken_none (card ∷ taken) rest left depth lo hi e l h all =
    let m = some_member (choose left rest) (omega arith) in
    let size : length m.0 ≡ left = choose_length left rest m.0 m.1.0 m.1.1 m.1.2 in
    absurd (omega (arith, all m.0 m.1, length-append taken m.0))

-- counts of members
pub count_same : {X : Type 0} (p q : X → Bool) (xs : List X) → ((x : X) → HasMember xs x → p x ≡ q x) → count_by p xs ≡ count_by q xs
count_same p q [] h = refl
count_same p q (x ∷ xs) h =
    sum_by-cons (λ y. cond (p y) 1 0) x xs
    ∙ ap (λ b. cond b 1 0 + count_by p xs) (h x ([], xs, refl))
    ∙ ap (λ n. cond (q x) 1 0 + n) (count_same p q xs (λ y m. h y (x ∷ m.0, m.1, ap (λ l. x ∷ l) m.2)))
    ∙ sym (sum_by-cons (λ y. cond (q y) 1 0) x xs)

pub count_map : {X Y : Type 0} (p : Y → Bool) (f : X → Y) (xs : List X) → count_by p (map f xs) ≡ count_by (λ x. p (f x)) xs
count_map p f [] = refl
count_map p f (x ∷ xs) =
    sum_by-cons (λ y. cond (p y) 1 0) (f x) (map f xs) ∙ ap (λ n. cond (p (f x)) 1 0 + n) (count_map p f xs) ∙ sym (sum_by-cons (λ y. cond (p (f y)) 1 0) x xs)
