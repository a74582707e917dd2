-- Sums of packed numbers, seven fields of nine bits.
use Rattle.std.proofs.Common.{take, Some, ◌++◌, ◌≡◌, ℕ, zero, suc, ◌+◌, ◌*◌, ◌/◌, ◌%◌, ◌<◌, ◌≤◌, ◌==◌, List, [], ◌∷◌, length, refl, sym, ap, ◌∙◌, arith, Bool, true, false, cond}
use Rattle.std.specs.Prelude.{slice_get, slice_index, ⊤}
use Rattle.std.specs.List.{count_by, sum_by}
use Rattle.board_runouts.specs.Fields.{field, fields_at}
use Rattle.runout_ranges.specs.Runouts.{HasMember}
use Rattle.std.proofs.lemmas.List.Sums.{count_by-le-length, sum_by-cons, sum_by_push}

-- a packed number has a one in the field of a code, which stands for a number of the counts
pub record IsCodedBy (ends : List ℕ) (code add number : ℕ) : Type 0 where
  pub inside : code < 7
  pub add_is : add ≡ field code
  pub end_is : number ≡ slice_index ends code

abbrev pub IsCoded : List ℕ → ℕ → ℕ → Type 0
IsCoded ends add number = (code : ℕ) × IsCodedBy ends code add number

-- how many of some have a one in a field
abbrev pub fields : {X : Type 0} → (X → ℕ) → List X → ℕ → ℕ
fields add xs c = count_by (λ x. add x == field c) xs

-- the sum of seven fields
abbrev pub packed : ℕ → ℕ → ℕ → ℕ → ℕ → ℕ → ℕ → ℕ
packed a b c d e f g = a + 512 * b + 262144 * c + 134217728 * d + 68719476736 * e + 35184372088832 * f + 18014398509481984 * g

one_packed : (code add : ℕ) → code < 7 → add ≡ field code
    → add ≡ packed (cond (add == 1) 1 0) (cond (add == 512) 1 0) (cond (add == 262144) 1 0) (cond (add == 134217728) 1 0) (cond (add == 68719476736) 1 0) (cond (add == 35184372088832) 1 0) (cond (add == 18014398509481984) 1 0)
one_packed zero add l e = rw e refl
one_packed (suc zero) add l e = rw e refl
one_packed (suc (suc zero)) add l e = rw e refl
one_packed (suc (suc (suc zero))) add l e = rw e refl
one_packed (suc (suc (suc (suc zero)))) add l e = rw e refl
one_packed (suc (suc (suc (suc (suc zero))))) add l e = rw e refl
one_packed (suc (suc (suc (suc (suc (suc zero)))))) add l e = rw e refl
one_packed (suc (suc (suc (suc (suc (suc (suc n))))))) add l e = absurd (omega arith)

count_cons : {X : Type 0} (test : X → Bool) (x : X) (xs : List X) → count_by test (x ∷ xs) ≡ cond (test x) 1 0 + count_by test xs
count_cons test x xs = sum_by-cons (λ y. cond (test y) 1 0) x xs

-- all are packed numbers
unfoldable pub AreCoded : {X : Type 0} → List ℕ → (X → ℕ) → (X → ℕ) → List X → Type 0
AreCoded ends add number [] = ⊤
AreCoded ends add number (x ∷ xs) = IsCoded ends (add x) (number x) × AreCoded ends add number xs

-- the sum of packed numbers has in each field how many have a one there
pub sum_packed : {X : Type 0} (ends : List ℕ) (add number : X → ℕ) (xs : List X) → AreCoded ends add number xs
    → sum_by add xs ≡ packed (fields add xs 0) (fields add xs 1) (fields add xs 2) (fields add xs 3) (fields add xs 4) (fields add xs 5) (fields add xs 6)
unfolding AreCoded
sum_packed ends add number [] all = refl
sum_packed ends add number (x ∷ xs) all =
    let here = one_packed (all.0).0 (add x) (all.0).1.inside (all.0).1.add_is in
    let ih = sum_packed ends add number xs all.1 in
    omega (
      arith,
      sum_by-cons add x xs,
      here,
      ih,
      count_cons (λ y. add y == 1) x xs,
      count_cons (λ y. add y == 512) x xs,
      count_cons (λ y. add y == 262144) x xs,
      count_cons (λ y. add y == 134217728) x xs,
      count_cons (λ y. add y == 68719476736) x xs,
      count_cons (λ y. add y == 35184372088832) x xs,
      count_cons (λ y. add y == 18014398509481984) x xs,
    )

-- a field taken off
pub unpack : (n more : ℕ) → n < 512 → ((n + 512 * more) % 512 ≡ n) × ((n + 512 * more) / 512 ≡ more)
unpack n more l = (omega arith, omega arith)

-- one more from the front
take_more : {X : Type 0} (xs : List X) (i : ℕ) (x : X) → slice_get xs i ≡ Some x → take (suc i) xs ≡ take i xs ++ x ∷ []
take_more [] i x e = cc
take_more (y ∷ xs) zero x e = let same : y ≡ x = cc in ap (λ v. v ∷ []) same
take_more (y ∷ xs) (suc i) x e = ap (λ l. y ∷ l) (take_more xs i x e)

pub sum_next : {X : Type 0} (f : X → ℕ) (xs : List X) (i next : ℕ) (x : X) → next ≡ suc i → slice_get xs i ≡ Some x → sum_by f (take next xs) ≡ sum_by f (take i xs) + f x
sum_next f xs i next x n e = ap (λ k. sum_by f (take k xs)) n ∙ ap (sum_by f) (take_more xs i x e) ∙ sum_by_push f (take i xs) x

-- what each field is to be counted at
cond-none : (b : Bool) → ◌≡◌ {A = ℕ} (cond b 0 0) 0
cond-none true = refl
cond-none false = refl

cond-more : (b : Bool) (n m : ℕ) → ◌≡◌ {A = ℕ} (cond b (n + m) 0) (cond b n 0 + cond b m 0)
cond-more true n m = refl
cond-more false n m = refl

-- how many of the seven fields' numbers are to be counted at a number
abbrev pub spread : List ℕ → ℕ → (ℕ → ℕ) → ℕ
spread ends n at = cond (slice_index ends 0 == n) (at 0) 0 + cond (slice_index ends 1 == n) (at 1) 0 + cond (slice_index ends 2 == n) (at 2) 0 + cond (slice_index ends 3 == n) (at 3) 0
    + cond (slice_index ends 4 == n) (at 4) 0 + cond (slice_index ends 5 == n) (at 5) 0 + cond (slice_index ends 6 == n) (at 6) 0

one_spread : (ends : List ℕ) (n code add number : ℕ) → code < 7 → add ≡ field code → number ≡ slice_index ends code → spread ends n (λ c. cond (add == field c) 1 0) ≡ cond (number == n) 1 0
one_spread ends n code add number l e at = rw (e, at) (one code l)
  where
    no : (c : ℕ) → ◌≡◌ {A = ℕ} (cond (slice_index ends c == n) 0 0) 0
    no c = cond-none (slice_index ends c == n)

    one : (code : ℕ) → code < 7 → spread ends n (λ c. cond (field code == field c) 1 0) ≡ cond (slice_index ends code == n) 1 0
    one zero l = omega (arith, no 1, no 2, no 3, no 4, no 5, no 6)
    one (suc zero) l = omega (arith, no 0, no 2, no 3, no 4, no 5, no 6)
    one (suc (suc zero)) l = omega (arith, no 0, no 1, no 3, no 4, no 5, no 6)
    one (suc (suc (suc zero))) l = omega (arith, no 0, no 1, no 2, no 4, no 5, no 6)
    one (suc (suc (suc (suc zero)))) l = omega (arith, no 0, no 1, no 2, no 3, no 5, no 6)
    one (suc (suc (suc (suc (suc zero))))) l = omega (arith, no 0, no 1, no 2, no 3, no 4, no 6)
    one (suc (suc (suc (suc (suc (suc zero)))))) l = omega (arith, no 0, no 1, no 2, no 3, no 4, no 5)
    one (suc (suc (suc (suc (suc (suc (suc k))))))) l = absurd (omega arith)

-- each is counted at the number that its field stands for
pub all_spread : {X : Type 0} (ends : List ℕ) (n : ℕ) (add number : X → ℕ) (xs : List X) → AreCoded ends add number xs → spread ends n (fields add xs) ≡ count_by (λ x. number x == n) xs
unfolding AreCoded
all_spread ends n add number [] all =
    omega (arith, cond-none (slice_index ends 0 == n), cond-none (slice_index ends 1 == n), cond-none (slice_index ends 2 == n), cond-none (slice_index ends 3 == n), cond-none (slice_index ends 4 == n), cond-none (slice_index ends 5 == n), cond-none (slice_index ends 6 == n))
all_spread ends n add number (x ∷ xs) all =
    let here = one_spread ends n (all.0).0 (add x) (number x) (all.0).1.inside (all.0).1.add_is (all.0).1.end_is in
    let ih = all_spread ends n add number xs all.1 in
    let more : (c : ℕ) → cond (slice_index ends c == n) (fields add (x ∷ xs) c) 0 ≡ cond (slice_index ends c == n) (cond (add x == field c) 1 0) 0 + cond (slice_index ends c == n) (fields add xs c) 0 =
    λ c. ap (λ k. cond (slice_index ends c == n) k 0) (count_cons (λ y. add y == field c) x xs) ∙ cond-more (slice_index ends c == n) (cond (add x == field c) 1 0) (fields add xs c) in
    omega (arith, here, ih, more 0, more 1, more 2, more 3, more 4, more 5, more 6, count_cons (λ y. number y == n) x xs)

-- taking fields off one after another gives them all
field_off : (ends : List ℕ) (end n more number : ℕ) → n < 512 → fields_at (end ∷ ends) (n + 512 * more) number ≡ cond (end == number) n 0 + fields_at ends more number
unfolding fields_at
field_off ends end n more number l =
    let two = unpack n more l in
    ap (λ k. cond (end == number) k 0 + fields_at ends ((n + 512 * more) / 512) number) two.0 ∙ ap (λ k. cond (end == number) n 0 + fields_at ends k number) two.1

no_field : (sum number : ℕ) → fields_at [] sum number ≡ 0
unfolding fields_at
no_field sum number = refl

pub fields_spread : (ends : List ℕ) (number : ℕ) (at : ℕ → ℕ) → length ends ≡ 7 → ((c : ℕ) → at c < 512) → fields_at ends (packed (at 0) (at 1) (at 2) (at 3) (at 4) (at 5) (at 6)) number ≡ spread ends number at
fields_spread (e0 ∷ e1 ∷ e2 ∷ e3 ∷ e4 ∷ e5 ∷ e6 ∷ []) number at seven few =
    let v6 : ℕ = at 6 + 512 * 0 in
    let v5 : ℕ = at 5 + 512 * v6 in
    let v4 : ℕ = at 4 + 512 * v5 in
    let v3 : ℕ = at 3 + 512 * v4 in
    let v2 : ℕ = at 2 + 512 * v3 in
    let v1 : ℕ = at 1 + 512 * v2 in
    let v0 : ℕ = at 0 + 512 * v1 in
    let all : packed (at 0) (at 1) (at 2) (at 3) (at 4) (at 5) (at 6) ≡ v0 = omega arith in
    omega (
      arith,
      ap (λ k. fields_at (e0 ∷ e1 ∷ e2 ∷ e3 ∷ e4 ∷ e5 ∷ e6 ∷ []) k number) all,
      field_off (e1 ∷ e2 ∷ e3 ∷ e4 ∷ e5 ∷ e6 ∷ []) e0 (at 0) v1 number (few 0),
      field_off (e2 ∷ e3 ∷ e4 ∷ e5 ∷ e6 ∷ []) e1 (at 1) v2 number (few 1),
      field_off (e3 ∷ e4 ∷ e5 ∷ e6 ∷ []) e2 (at 2) v3 number (few 2),
      field_off (e4 ∷ e5 ∷ e6 ∷ []) e3 (at 3) v4 number (few 3),
      field_off (e5 ∷ e6 ∷ []) e4 (at 4) v5 number (few 4),
      field_off (e6 ∷ []) e5 (at 5) v6 number (few 5),
      field_off [] e6 (at 6) 0 number (few 6),
      no_field 0 number,
    )
fields_spread [] number at seven few = absurd (omega arith)
fields_spread (a ∷ []) number at seven few = absurd (omega arith)
fields_spread (a ∷ b ∷ []) number at seven few = absurd (omega arith)
fields_spread (a ∷ b ∷ c ∷ []) number at seven few = absurd (omega arith)
fields_spread (a ∷ b ∷ c ∷ d ∷ []) number at seven few = absurd (omega arith)
fields_spread (a ∷ b ∷ c ∷ d ∷ e ∷ []) number at seven few = absurd (omega arith)
fields_spread (a ∷ b ∷ c ∷ d ∷ e ∷ f ∷ []) number at seven few = absurd (omega arith)
fields_spread (a ∷ b ∷ c ∷ d ∷ e ∷ f ∷ g ∷ h ∷ more) number at seven few = absurd (omega arith)

-- the fields not taken off yet
pub fields_from : List ℕ → ℕ → ℕ → ℕ → ℕ
fields_from ends zero sum number = fields_at ends sum number
fields_from [] (suc i) sum number = 0
fields_from (end ∷ ends) (suc i) sum number = fields_from ends i sum number

pub from_first : (ends : List ℕ) (sum number : ℕ) → fields_from ends 0 sum number ≡ fields_at ends sum number
unfolding fields_from
from_first ends sum number = refl

pub from_next : (ends : List ℕ) (i next end sum number : ℕ) → next ≡ suc i → slice_get ends i ≡ Some end → fields_from ends i sum number ≡ cond (end == number) (sum % 512) 0 + fields_from ends next (sum / 512) number
unfolding fields_from fields_at
from_next [] i next end sum number n e = cc
from_next (a ∷ ends) zero next end sum number n e = let same : a ≡ end = cc in rw (n, same) refl
from_next (a ∷ ends) (suc i) next end sum number n e = from_next ends i (suc i) end sum number refl e ∙ ap (λ k. cond (end == number) (sum % 512) 0 + fields_from (a ∷ ends) k (sum / 512) number) (sym n)

pub from_end : (ends : List ℕ) (i sum number : ℕ) → length ends ≤ i → fields_from ends i sum number ≡ 0
unfolding fields_from fields_at
from_end [] zero sum number l = refl
from_end [] (suc i) sum number l = refl
from_end (a ∷ ends) zero sum number l = absurd (omega arith)
from_end (a ∷ ends) (suc i) sum number l = from_end ends i sum number (omega arith)

-- of nothing there is nothing to take off
none_at : (ends : List ℕ) (number : ℕ) → fields_at ends 0 number ≡ 0
unfolding fields_at
none_at [] number = refl
none_at (end ∷ ends) number = omega (arith, cond-none (end == number), none_at ends number)

pub none_from : (ends : List ℕ) (i number : ℕ) → fields_from ends i 0 number ≡ 0
unfolding fields_from
none_from ends zero number = none_at ends number
none_from [] (suc i) number = refl
none_from (end ∷ ends) (suc i) number = none_from ends i number

-- some are packed numbers, if each is
pub coded_of : {X : Type 0} (ends : List ℕ) (add number : X → ℕ) (xs : List X) → ((x : X) → HasMember xs x → IsCoded ends (add x) (number x)) → AreCoded ends add number xs
unfolding AreCoded
coded_of ends add number [] each = tt
coded_of ends add number (x ∷ xs) each = (each x ([], xs, refl), coded_of ends add number xs (λ y m. each y (x ∷ m.0, m.1, ap (λ l. x ∷ l) m.2)))

few_there : {X : Type 0} (add : X → ℕ) (xs : List X) (c : ℕ) → length xs < 512 → fields add xs c < 512
few_there add xs c l = omega (arith, count_by-le-length (λ x. add x == field c) xs, l)

-- the sum has room, and its fields say how many are to be counted at each number
pub sum_fits : {X : Type 0} (ends : List ℕ) (add number : X → ℕ) (xs : List X) → AreCoded ends add number xs → length xs < 512 → sum_by add xs < 9223372036854775808
sum_fits ends add number xs all l =
    omega (arith, sum_packed ends add number xs all, few_there add xs 0 l, few_there add xs 1 l, few_there add xs 2 l, few_there add xs 3 l, few_there add xs 4 l, few_there add xs 5 l, few_there add xs 6 l)

pub fields_counted : {X : Type 0} (ends : List ℕ) (add number : X → ℕ) (xs : List X) (sum n : ℕ) → AreCoded ends add number xs → length xs < 512 → length ends ≡ 7 → sum ≡ sum_by add xs → fields_at ends sum n ≡ count_by (λ x. number x == n) xs
fields_counted ends add number xs sum n all l seven is =
    ap (λ s. fields_at ends s n) (is ∙ sum_packed ends add number xs all) ∙ fields_spread ends n (fields add xs) seven (λ c. few_there add xs c l) ∙ all_spread ends n add number xs all
