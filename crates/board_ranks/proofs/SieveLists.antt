-- Lists that are parted by a test, and stretches of both parts.
use Rattle.std.proofs.Common.{◌≡◌, ℕ, zero, suc, ◌+◌, ◌-◌, ◌<◌, ◌≤◌, List, [], ◌∷◌, ◌++◌, length, map, take, set, refl, sym, ap, ◌∙◌, arith, Bool, true, false, cond, inl, inr, Some, append-nil}
use Rattle.std.specs.Prelude.{filter, not, slice_get, slice_index}
use Rattle.std.specs.List.{count_by, slice_range}
use Rattle.std.proofs.lemmas.Bool.{cases_lt}
use Rattle.std.proofs.lemmas.Grind.{get_or-set_at}
use Rattle.std.proofs.lemmas.List.{get_or-set_other, length-take-le, map-append, take_more_set, take-set}
use Rattle.std.proofs.lemmas.List.Elements.{filter-append}
use Rattle.std.proofs.lemmas.List.Filters.{length-filter_both}
use Rattle.std.proofs.lemmas.List.Sums.{length-filter, sum_by-cons}
use Rattle.board_ranks.specs.Sieves.{IsParted, flush_pairs, is_flush, is_plain, plain_pairs, plain_ranks}
use Rattle.board_ranks.specs.declared.pair.Pair.{Pair}
use Rattle.board_ranks.proofs.ListPlaces.{count_next, count_one, range-map, range-none, take_next}

-- a stretch of the front of a list is one of the list
pub range-front : {X : Type 0} (xs : List X) (n lo hi : ℕ) → hi ≤ n → slice_range (take n xs) lo hi ≡ slice_range xs lo hi
range-front xs zero lo hi l = let e : hi - lo ≡ 0 = omega arith in rw e refl
range-front [] (suc n) lo hi l = refl
range-front (x ∷ xs) (suc n) zero zero l = refl
range-front (x ∷ xs) (suc n) zero (suc hi) l =
    let e : suc hi - 0 ≡ suc (hi - 0) = omega arith in
    rw e (ap (λ l. x ∷ l) (range-front xs n zero hi (omega arith)))
range-front (x ∷ xs) (suc n) (suc lo) zero l = let e : 0 - suc lo ≡ 0 = omega arith in rw e refl
range-front (x ∷ xs) (suc n) (suc lo) (suc hi) l =
    let e : suc hi - suc lo ≡ hi - lo = omega arith in
    rw e (range-front xs n lo hi (omega arith))

count_first : {X : Type 0} (p : X → Bool) (x : X) (xs : List X) → count_by p (x ∷ xs) ≡ cond (p x) 1 0 + count_by p xs
count_first p x xs = sum_by-cons (λ y. cond (p y) 1 0) x xs

take_zero : {X : Type 0} (xs : List X) → take 0 xs ≡ []
take_zero [] = refl
take_zero (x ∷ xs) = refl

take_of_none : {X : Type 0} (n : ℕ) → take {A = X} n [] ≡ []
take_of_none zero = refl
take_of_none (suc n) = refl

-- so many from the front are all
pub take_most : {X : Type 0} (xs : List X) (n : ℕ) → length xs ≤ n → take n xs ≡ xs
take_most [] n l = take_of_none n
take_most (x ∷ xs) zero l = absurd (omega arith)
take_most (x ∷ xs) (suc n) l = ap (λ l. x ∷ l) (take_most xs n (omega arith))

-- what passes of a stretch is a stretch of what passes
first_on : {X : Type 0} (b : Bool) (x : X) (xs : List X) (hi : ℕ) → slice_range (cond b (x ∷ xs) xs) 0 (cond b 1 0 + hi) ≡ cond b (x ∷ slice_range xs 0 hi) (slice_range xs 0 hi)
first_on true x xs hi = let e : (1 + hi) - 0 ≡ suc (hi - 0) = omega arith in rw e refl
first_on false x xs hi = let e : 0 + hi ≡ hi = omega arith in rw e refl

first_off : {X : Type 0} (b : Bool) (x : X) (xs : List X) (lo hi : ℕ) → slice_range (cond b (x ∷ xs) xs) (cond b 1 0 + lo) (cond b 1 0 + hi) ≡ slice_range xs lo hi
first_off true x xs lo hi =
    let a : 1 + lo ≡ suc lo = omega arith in
    let b : 1 + hi ≡ suc hi = omega arith in
    let e : suc hi - suc lo ≡ hi - lo = omega arith in
    rw (a, b, e) refl
first_off false x xs lo hi =
    let a : 0 + lo ≡ lo = omega arith in
    let b : 0 + hi ≡ hi = omega arith in
    rw (a, b) refl

pub filter-range : {X : Type 0} (p : X → Bool) (xs : List X) (lo hi : ℕ) → lo ≤ hi → filter p (slice_range xs lo hi) ≡ slice_range (filter p xs) (count_by p (take lo xs)) (count_by p (take hi xs))
filter-range p [] lo hi l = ap (filter p) (range-none lo hi) ∙ sym (range-none (count_by p (take lo [])) (count_by p (take hi [])))
filter-range p (x ∷ xs) zero zero l = refl
filter-range p (x ∷ xs) (suc lo) zero l = absurd (omega arith)
filter-range p (x ∷ xs) zero (suc hi) l =
    let e : suc hi - 0 ≡ suc (hi - 0) = omega arith in
    let ih : filter p (slice_range xs 0 hi) ≡ slice_range (filter p xs) 0 (count_by p (take hi xs)) = filter-range p xs 0 hi (omega arith) ∙ ap (λ l. slice_range (filter p xs) (count_by p l) (count_by p (take hi xs))) (take_zero xs) in
    let one : filter p (slice_range (x ∷ xs) 0 (suc hi)) ≡ cond (p x) (x ∷ filter p (slice_range xs 0 hi)) (filter p (slice_range xs 0 hi)) = rw e refl in
    one
    ∙ ap (λ l. cond (p x) (x ∷ l) l) ih
    ∙ sym (ap (λ n. slice_range (cond (p x) (x ∷ filter p xs) (filter p xs)) 0 n) (count_first p x (take hi xs)) ∙ first_on (p x) x (filter p xs) (count_by p (take hi xs)))
filter-range p (x ∷ xs) (suc lo) (suc hi) l =
    let e : suc hi - suc lo ≡ hi - lo = omega arith in
    let ih : filter p (slice_range xs lo hi) ≡ slice_range (filter p xs) (count_by p (take lo xs)) (count_by p (take hi xs)) = filter-range p xs lo hi (omega arith) in
    let one : filter p (slice_range (x ∷ xs) (suc lo) (suc hi)) ≡ filter p (slice_range xs lo hi) = rw e refl in
    one
    ∙ ih
    ∙ sym (
    ap (λ n. slice_range (cond (p x) (x ∷ filter p xs) (filter p xs)) n (count_by p (x ∷ take hi xs))) (count_first p x (take lo xs))
    ∙ ap (λ n. slice_range (cond (p x) (x ∷ filter p xs) (filter p xs)) (cond (p x) 1 0 + count_by p (take lo xs)) n) (count_first p x (take hi xs))
    ∙ first_off (p x) x (filter p xs) (count_by p (take lo xs)) (count_by p (take hi xs))
    )

-- fewer pass of a front than of all
pub count_front : {X : Type 0} (p : X → Bool) (xs : List X) (lo hi : ℕ) → lo ≤ hi → count_by p (take lo xs) ≤ count_by p (take hi xs)
count_front p [] lo hi l = rw (take_of_none lo, take_of_none hi) (omega arith)
count_front p (x ∷ xs) zero hi l = omega arith
count_front p (x ∷ xs) (suc lo) zero l = absurd (omega arith)
count_front p (x ∷ xs) (suc lo) (suc hi) l = omega (arith, count_first p x (take lo xs), count_first p x (take hi xs), count_front p xs lo hi (omega arith))

pub count_all : {X : Type 0} (p : X → Bool) (xs : List X) (n : ℕ) → n ≤ length xs → count_by p (take n xs) ≤ count_by p xs
count_all p xs zero l = omega arith
count_all p [] (suc n) l = absurd (omega arith)
count_all p (x ∷ xs) (suc n) l = omega (arith, count_first p x (take n xs), count_first p x xs, count_all p xs n (omega arith))

-- what passes a test and what doesn't
pub size_parts : {X : Type 0} (p : X → Bool) (xs : List X) → count_by p xs + count_by (λ x. not (p x)) xs ≡ length xs
size_parts p xs = omega (arith, length-filter_both p (λ x. not (p x)) (λ x. refl) xs, length-filter p xs, length-filter (λ x. not (p x)) xs)

-- the first so many pairs are parted: so many of them are plain
pub record ArePut (suits : List ℕ) (pairs : List Pair) (place used : ℕ) (plain : List ℕ) (flush : List Pair) (before : List ℕ) : Type 0 where
  pub within : used ≤ place
  pub used_is : used ≡ count_by (is_plain suits) (take place pairs)
  pub plain_is : take used plain ≡ plain_ranks suits (take place pairs)
  pub flush_is : take (place - used) flush ≡ flush_pairs suits (take place pairs)
  pub before_is : (i : ℕ) → i < place → slice_index before i ≡ count_by (is_plain suits) (take i pairs)

pub none_put : (suits : List ℕ) (pairs : List Pair) (plain : List ℕ) (flush : List Pair) (before : List ℕ) → ArePut suits pairs 0 0 plain flush before
unfolding plain_pairs flush_pairs
none_put suits pairs plain flush before = record {
  within = omega arith;
  used_is = refl;
  plain_is = refl;
  flush_is = refl;
  before_is = λ i l. absurd (omega arith);
}

-- one pair more
pass_next : {X : Type 0} (p : X → Bool) (xs : List X) (i : ℕ) (x : X) → slice_get xs i ≡ Some x → filter p (take (suc i) xs) ≡ filter p (take i xs) ++ cond (p x) (x ∷ []) []
pass_next p xs i x at = ap (filter p) (take_next xs i x at) ∙ filter-append p (take i xs) (x ∷ [])

pub plain_next : (suits : List ℕ) (pairs : List Pair) (place used : ℕ) (plain : List ℕ) (pair : Pair) → slice_get pairs place ≡ Some pair → used < length plain → take used plain ≡ plain_ranks suits (take place pairs)
    → take (used + cond (is_plain suits pair) 1 0) (set plain used pair.ranks) ≡ plain_ranks suits (take (suc place) pairs)
unfolding plain_pairs
plain_next suits pairs place used plain pair at inside was = go (is_plain suits pair) refl
  where
    ranks : Pair → ℕ
    ranks pair = pair.ranks

    go : (b : Bool) → is_plain suits pair ≡ b → take (used + cond b 1 0) (set plain used pair.ranks) ≡ map ranks (filter (is_plain suits) (take (suc place) pairs))
    go true is =
        let next : filter (is_plain suits) (take (suc place) pairs) ≡ filter (is_plain suits) (take place pairs) ++ pair ∷ [] = pass_next (is_plain suits) pairs place pair at ∙ ap (λ b. filter (is_plain suits) (take place pairs) ++ cond b (pair ∷ []) []) is in
        take_more_set plain used pair.ranks inside ∙ ap (λ l. l ++ pair.ranks ∷ []) was ∙ sym (ap (map ranks) next ∙ map-append ranks (filter (is_plain suits) (take place pairs)) (pair ∷ []))
    go false is =
        let next : filter (is_plain suits) (take (suc place) pairs) ≡ filter (is_plain suits) (take place pairs) = pass_next (is_plain suits) pairs place pair at ∙ ap (λ b. filter (is_plain suits) (take place pairs) ++ cond b (pair ∷ []) []) is ∙ append-nil (filter (is_plain suits) (take place pairs)) in
        let same : used + 0 ≡ used = omega arith in
        ap (λ n. take n (set plain used pair.ranks)) same ∙ take-set plain used pair.ranks ∙ was ∙ sym (ap (map ranks) next)

pub flush_next : (suits : List ℕ) (pairs : List Pair) (place used : ℕ) (flush : List Pair) (pair : Pair) → slice_get pairs place ≡ Some pair → used ≤ place → place - used < length flush → take (place - used) flush ≡ flush_pairs suits (take place pairs)
    → take (suc place - (used + cond (is_plain suits pair) 1 0)) (set flush (place - used) pair) ≡ flush_pairs suits (take (suc place) pairs)
unfolding flush_pairs
flush_next suits pairs place used flush pair at within inside was = go (is_plain suits pair) refl
  where
    go : (b : Bool) → is_plain suits pair ≡ b → take (suc place - (used + cond b 1 0)) (set flush (place - used) pair) ≡ filter (is_flush suits) (take (suc place) pairs)
    go true is =
        let next : filter (is_flush suits) (take (suc place) pairs) ≡ filter (is_flush suits) (take place pairs) = pass_next (is_flush suits) pairs place pair at ∙ ap (λ b. filter (is_flush suits) (take place pairs) ++ cond (not b) (pair ∷ []) []) is ∙ append-nil (filter (is_flush suits) (take place pairs)) in
        let same : suc place - (used + 1) ≡ place - used = omega arith in
        ap (λ n. take n (set flush (place - used) pair)) same ∙ take-set flush (place - used) pair ∙ was ∙ sym next
    go false is =
        let next : filter (is_flush suits) (take (suc place) pairs) ≡ filter (is_flush suits) (take place pairs) ++ pair ∷ [] = pass_next (is_flush suits) pairs place pair at ∙ ap (λ b. filter (is_flush suits) (take place pairs) ++ cond (not b) (pair ∷ []) []) is in
        let same : suc place - (used + 0) ≡ (place - used) + 1 = omega arith in
        ap (λ n. take n (set flush (place - used) pair)) same ∙ take_more_set flush (place - used) pair inside ∙ ap (λ l. l ++ pair ∷ []) was ∙ sym next

one_at_most : (b : Bool) → cond b 1 0 ≤ 1
one_at_most true = omega arith
one_at_most false = omega arith

pub put_next : (suits : List ℕ) (pairs : List Pair) (place next used more at count : ℕ) (plain : List ℕ) (flush : List Pair) (before : List ℕ) (pair : Pair) → next ≡ suc place → slice_get pairs place ≡ Some pair → more ≡ used + cond (is_plain suits pair) 1 0 → at ≡ place - used → count ≡ used
    → used < length plain → at < length flush → place < length before → ArePut suits pairs place used plain flush before → ArePut suits pairs next more (set plain used pair.ranks) (set flush at pair) (set before place count)
put_next suits pairs place next used more at count plain flush before pair n there m a k inside room here was =
    let w = was.within in
    let one : cond (is_plain suits pair) 1 0 ≤ 1 = one_at_most (is_plain suits pair) in
    let counted : count_by (is_plain suits) (take next pairs) ≡ used + cond (is_plain suits pair) 1 0 =
    ap (λ i. count_by (is_plain suits) (take i pairs)) n ∙ count_next (is_plain suits) pairs place pair there ∙ ap (λ i. count_by (is_plain suits) (take place pairs) + i) (count_one (is_plain suits) pair) ∙ ap (λ i. i + cond (is_plain suits pair) 1 0) (sym was.used_is) in
    record {
      within = omega arith;
      used_is = m ∙ sym counted;
      plain_is = ap (λ i. take i (set plain used pair.ranks)) m ∙ plain_next suits pairs place used plain pair there inside was.plain_is ∙ ap (λ i. plain_ranks suits (take i pairs)) (sym n);
      flush_is = ap (λ i. take (next - more) (set flush i pair)) a ∙ ap (λ i. take (i - more) (set flush (place - used) pair)) n ∙ ap (λ i. take (suc place - i) (set flush (place - used) pair)) m ∙ flush_next suits pairs place used flush pair there w (omega arith) was.flush_is ∙ ap (λ i. flush_pairs suits (take i pairs)) (sym n);
      before_is = λ i l. elim (cases_lt i place) [
        | inl less ↦ get_or-set_other before place i count 0 (λ e. omega arith) ∙ was.before_is i less
        | inr ge ↦
            let same : i ≡ place = omega arith in
            get_or-set_at before place i count 0 same here ∙ k ∙ was.used_is ∙ ap (λ j. count_by (is_plain suits) (take j pairs)) (sym same)
      ];
    }

-- all pairs are parted
pub all_put : (suits : List ℕ) (pairs : List Pair) (place used size count : ℕ) (plain : List ℕ) (flush : List Pair) (before : List ℕ) → place ≡ length pairs → size ≡ length pairs → count ≡ used → size < length before → ArePut suits pairs place used plain flush before
    → IsParted suits pairs plain flush (set before size count)
all_put suits pairs place used size count plain flush before end s k here put =
    let whole : take place pairs ≡ pairs = take_most pairs place (omega arith) in
    let plains : used ≡ count_by (is_plain suits) pairs = put.used_is ∙ ap (count_by (is_plain suits)) whole in
    let flushes : place - used ≡ count_by (is_flush suits) pairs = (let s : count_by (is_plain suits) pairs + count_by (is_flush suits) pairs ≡ length pairs = size_parts (is_plain suits) pairs in let w = put.within in omega arith) in
    record {
      plain_is = ap (λ n. take n plain) (sym plains) ∙ put.plain_is ∙ ap (plain_ranks suits) whole;
      flush_is = ap (λ n. take n flush) (sym flushes) ∙ put.flush_is ∙ ap (flush_pairs suits) whole;
      before_is = λ i l. elim (cases_lt i place) [
        | inl less ↦ get_or-set_other before size i count 0 (λ e. omega arith) ∙ put.before_is i less
        | inr ge ↦
            let same : i ≡ size = omega arith in
            let at : place ≡ i = omega arith in
            get_or-set_at before size i count 0 same here ∙ k ∙ put.used_is ∙ ap (λ j. count_by (is_plain suits) (take j pairs)) at
      ];
    }

-- both parts of a stretch
pub plain_range : (suits : List ℕ) (pairs : List Pair) (plain : List ℕ) (flush : List Pair) (before : List ℕ) (start end from to : ℕ) → IsParted suits pairs plain flush before → start ≤ end → end ≤ length pairs → from ≡ slice_index before start → to ≡ slice_index before end
    → slice_range plain from to ≡ plain_ranks suits (slice_range pairs start end)
unfolding plain_pairs
plain_range suits pairs plain flush before start end from to parted order inside f t =
    let from_is : from ≡ count_by (is_plain suits) (take start pairs) = f ∙ parted.before_is start (omega arith) in
    let to_is : to ≡ count_by (is_plain suits) (take end pairs) = t ∙ parted.before_is end inside in
    let few : to ≤ count_by (is_plain suits) pairs = (let c = count_all (is_plain suits) pairs end inside in omega arith) in
    sym (range-front plain (count_by (is_plain suits) pairs) from to few)
    ∙ ap (λ l. slice_range l from to) parted.plain_is
    ∙ range-map (λ pair. pair.ranks) (filter (is_plain suits) pairs) from to
    ∙ ap (map (λ pair. pair.ranks)) (ap (λ n. slice_range (filter (is_plain suits) pairs) n to) from_is ∙ ap (λ n. slice_range (filter (is_plain suits) pairs) (count_by (is_plain suits) (take start pairs)) n) to_is ∙ sym (filter-range (is_plain suits) pairs start end order))

pub flush_range : (suits : List ℕ) (pairs : List Pair) (plain : List ℕ) (flush : List Pair) (before : List ℕ) (start end from to : ℕ) → IsParted suits pairs plain flush before → start ≤ end → end ≤ length pairs → from ≡ start - slice_index before start → to ≡ end - slice_index before end
    → slice_range flush from to ≡ flush_pairs suits (slice_range pairs start end)
unfolding flush_pairs
flush_range suits pairs plain flush before start end from to parted order inside f t =
    let from_is : from ≡ count_by (is_flush suits) (take start pairs) = others start (omega arith) from f in
    let to_is : to ≡ count_by (is_flush suits) (take end pairs) = others end inside to t in
    let few : to ≤ count_by (is_flush suits) pairs = (let c = count_all (is_flush suits) pairs end inside in omega arith) in
    sym (range-front flush (count_by (is_flush suits) pairs) from to few)
    ∙ ap (λ l. slice_range l from to) parted.flush_is
    ∙ ap (λ n. slice_range (filter (is_flush suits) pairs) n to) from_is
    ∙ ap (λ n. slice_range (filter (is_flush suits) pairs) (count_by (is_flush suits) (take start pairs)) n) to_is
    ∙ sym (filter-range (is_flush suits) pairs start end order)
  where
    others : (place : ℕ) → place ≤ length pairs → (n : ℕ) → n ≡ place - slice_index before place → n ≡ count_by (is_flush suits) (take place pairs)
    others place l n e =
        let b = parted.before_is place l in
        let s : count_by (is_plain suits) (take place pairs) + count_by (is_flush suits) (take place pairs) ≡ length (take place pairs) = size_parts (is_plain suits) (take place pairs) in
        let k : length (take place pairs) ≡ place = length-take-le place pairs l in
        omega arith

-- the parts of a stretch lie in their lists
pub record AreInOrder (before : List ℕ) (start end : ℕ) : Type 0 where
  pub from_start : slice_index before start ≤ start
  pub from_end : slice_index before end ≤ end
  pub of_plain : slice_index before start ≤ slice_index before end
  pub of_flush : start - slice_index before start ≤ end - slice_index before end

pub in_order : (suits : List ℕ) (pairs : List Pair) (plain : List ℕ) (flush : List Pair) (before : List ℕ) (start end : ℕ) → IsParted suits pairs plain flush before → start ≤ end → end ≤ length pairs → AreInOrder before start end
in_order suits pairs plain flush before start end parted order inside =
    let a = parted.before_is start (omega arith) in
    let b = parted.before_is end inside in
    let e : count_by (is_plain suits) (take start pairs) + count_by (is_flush suits) (take start pairs) ≡ length (take start pairs) = size_parts (is_plain suits) (take start pairs) in
    let f : count_by (is_plain suits) (take end pairs) + count_by (is_flush suits) (take end pairs) ≡ length (take end pairs) = size_parts (is_plain suits) (take end pairs) in
    let g : length (take start pairs) ≡ start = length-take-le start pairs (omega arith) in
    let h : length (take end pairs) ≡ end = length-take-le end pairs inside in
    let m : count_by (is_plain suits) (take start pairs) ≤ count_by (is_plain suits) (take end pairs) = count_front (is_plain suits) pairs start end order in
    let n : count_by (is_flush suits) (take start pairs) ≤ count_by (is_flush suits) (take end pairs) = count_front (is_flush suits) pairs start end order in
    record { from_start = omega arith; from_end = omega arith; of_plain = omega arith; of_flush = omega arith }
