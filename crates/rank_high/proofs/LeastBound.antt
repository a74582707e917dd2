-- The best five by ranks alone is the least bound of the shapes that the counts allow.
use Rattle.rank_high.specs.ByRanks.{digits_of, except, held, run_at}
use Rattle.std.proofs.Common.{◌≡◌, ℕ, suc, zero, ◌+◌, ◌*◌, ◌^◌, ◌≤◌, ◌<◌, ◌==◌, List, ◌∷◌, [], refl, sym, arith, Bool, true, false, cond, length, inl, inr, map}
use Rattle.std.specs.Prelude.{◌&&◌, ◌||◌, not}
use Rattle.std.proofs.lemmas.Bool.{cases_eq, and_parts}
use mathlib.Core.Bool.{true≢false}
use Rattle.card_sets.specs.Cards.{has_card, IsCardSet}
use Rattle.card_sets.specs.Choose.{choose}
use Rattle.rank_high.specs.High.{value_of, digits_from, category_of, is_straight, falls_by_one, is_wheel, pips, count_of_rank}
use Rattle.rank_high.proofs.RanksOrSuit.{plain_number}
use Rattle.rank_high.proofs.HandCategories.{pips_plain}
use Rattle.card_sets.proofs.CallerLemmas.{greatest}
use Rattle.rank_high.proofs.FallingRanks.{Falls, Falls-wider, digits_of-lt}
use Rattle.rank_high.proofs.ShapeBounds.{Bounds, worth}
use Rattle.rank_high.proofs.ReachedShapes.{weights, Allowed, shape-reached}

not-true : (b : Bool) → not b ≡ true → b ≡ false
not-true true h = absurd (true≢false (sym h))
not-true false h = refl

-- a rank that isn't the one, and passes
pub apart : (a r : ℕ) (p : ℕ → Bool) → except a p r ≡ true → ((r == a) ≡ false) × ((a == r) ≡ false) × (p r ≡ true)
apart a r p h =
    let parts = and_parts (not (r == a)) (p r) h in
    let ne : (r == a) ≡ false = not-true (r == a) parts.0 in
    (ne, (grind arith), parts.1)

not_there : (a : ℕ) (p : ℕ → Bool) (n : ℕ) (ls : List ℕ) → Falls (except a p) n ls → has_card ls a ≡ false
not_there a p n [] f = refl
not_there a p n (x ∷ ls) f =
    let one = apart a x p f.1 in
    rw one.0 (not_there a p x ls f.2)

-- each member of a falling list is a member
own : (p : ℕ → Bool) (n : ℕ) (ls : List ℕ) → Falls p n ls → Falls (λ r. has_card ls r && p r) n ls
own p n [] f = tt
own p n (x ∷ ls) f =
    let t : (x == x) ≡ true = grind arith in
    (f.0, rw (t, f.1) refl, Falls-wider (λ r. has_card ls r && p r) (λ r. has_card (x ∷ ls) r && p r) x x ls (λ r l h. more (x == r) (has_card ls r) (p r) h) (omega arith) (own p x ls f.2))
  where
    more : (a b c : Bool) → (b && c) ≡ true → ((a || b) && c) ≡ true
    more true true c h = h
    more true false c h = absurd (true≢false (sym h))
    more false b c h = h

-- ranks of single cards beside one group, which the three lemmas have of four, three and two
beside_four : (f : ℕ → ℕ) (a : ℕ) (o : List ℕ) → Falls (except a (held f 0)) 13 o → Falls (λ r. (weights (a ∷ []) [] [] o r == 1) && held f 0 r) 13 o
beside_four f a o falls = Falls-wider (λ r. has_card o r && except a (held f 0) r) (λ r. (weights (a ∷ []) [] [] o r == 1) && held f 0 r) 13 13 o (λ r l h.
    let parts = and_parts (has_card o r) (except a (held f 0) r) h in let other = apart a r (held f 0) parts.1 in rw (other.1, parts.0, other.2) refl) (omega arith) (own (except a (held f 0)) 13 o falls)

beside_three : (f : ℕ → ℕ) (a : ℕ) (o : List ℕ) → Falls (except a (held f 0)) 13 o → Falls (λ r. (weights [] (a ∷ []) [] o r == 1) && held f 0 r) 13 o
beside_three f a o falls = Falls-wider (λ r. has_card o r && except a (held f 0) r) (λ r. (weights [] (a ∷ []) [] o r == 1) && held f 0 r) 13 13 o (λ r l h.
    let parts = and_parts (has_card o r) (except a (held f 0) r) h in let other = apart a r (held f 0) parts.1 in rw (other.1, parts.0, other.2) refl) (omega arith) (own (except a (held f 0)) 13 o falls)

beside_pair : (f : ℕ → ℕ) (a : ℕ) (o : List ℕ) → Falls (except a (held f 0)) 13 o → Falls (λ r. (weights [] [] (a ∷ []) o r == 1) && held f 0 r) 13 o
beside_pair f a o falls = Falls-wider (λ r. has_card o r && except a (held f 0) r) (λ r. (weights [] [] (a ∷ []) o r == 1) && held f 0 r) 13 13 o (λ r l h.
    let parts = and_parts (has_card o r) (except a (held f 0) r) h in let other = apart a r (held f 0) parts.1 in rw (other.1, parts.0, other.2) refl) (omega arith) (own (except a (held f 0)) 13 o falls)

alone : (f : ℕ → ℕ) (o : List ℕ) → Falls (held f 0) 13 o → Falls (λ r. (weights [] [] [] o r == 1) && held f 0 r) 13 o
alone f o falls = Falls-wider (λ r. has_card o r && held f 0 r) (λ r. (weights [] [] [] o r == 1) && held f 0 r) 13 13 o (λ r l h.
    let parts = and_parts (has_card o r) (held f 0 r) h in rw (parts.0, parts.1) refl) (omega arith) (own (held f 0) 13 o falls)

Allowed-four : (f : ℕ → ℕ) (a : ℕ) (o : List ℕ) → a < 13 → held f 3 a ≡ true → Falls (except a (held f 0)) 13 o → length o ≡ 1 → Allowed f (a ∷ []) [] [] o
Allowed-four f a o h i falls e =
    let t : (a == a) ≡ true = grind arith in
    let no : has_card o a ≡ false = not_there a (held f 0) 13 o falls in
    record { fours = (h, rw (t, no, i) refl, tt); threes = tt; pairs = tt; ones = beside_four f a o falls; five = (omega arith) }

Allowed-three : (f : ℕ → ℕ) (a : ℕ) (o : List ℕ) → a < 13 → held f 2 a ≡ true → Falls (except a (held f 0)) 13 o → length o ≡ 2 → Allowed f [] (a ∷ []) [] o
Allowed-three f a o h i falls e =
    let t : (a == a) ≡ true = grind arith in
    let no : has_card o a ≡ false = not_there a (held f 0) 13 o falls in
    record { fours = tt; threes = (h, rw (t, no, i) refl, tt); pairs = tt; ones = beside_three f a o falls; five = (omega arith) }

Allowed-pair : (f : ℕ → ℕ) (a : ℕ) (o : List ℕ) → a < 13 → held f 1 a ≡ true → Falls (except a (held f 0)) 13 o → length o ≡ 3 → Allowed f [] [] (a ∷ []) o
Allowed-pair f a o h i falls e =
    let t : (a == a) ≡ true = grind arith in
    let no : has_card o a ≡ false = not_there a (held f 0) 13 o falls in
    record { fours = tt; threes = tt; pairs = (h, rw (t, no, i) refl, tt); ones = beside_pair f a o falls; five = (omega arith) }

Allowed-full : (f : ℕ → ℕ) (a b : ℕ) → a < 13 → b < 13 → held f 2 a ≡ true → except a (held f 1) b ≡ true → Allowed f [] (a ∷ []) (b ∷ []) []
Allowed-full f a b h i three pair =
    let ta : (a == a) ≡ true = grind arith in
    let tb : (b == b) ≡ true = grind arith in
    let other = apart a b (held f 1) pair in
    record { fours = tt; threes = (h, rw (ta, other.0, three) refl, tt); pairs = (i, rw (tb, other.1, other.2) refl, tt); ones = tt; five = refl }

Allowed-two : (f : ℕ → ℕ) (a b c : ℕ) → Falls (held f 1) 13 (a ∷ b ∷ []) → c < 13 → except a (except b (held f 0)) c ≡ true → Allowed f [] [] (a ∷ b ∷ []) (c ∷ [])
Allowed-two f a b c falls h single =
    let ta : (a == a) ≡ true = grind arith in
    let tb : (b == b) ≡ true = grind arith in
    let tc : (c == c) ≡ true = grind arith in
    let from_a = apart a c (except b (held f 0)) single in
    let from_b = apart b c (held f 0) from_a.2 in
    let less : b < a = falls.2.0 in
    let ab : (a == b) ≡ false = grind arith in
    record {
      fours = tt;
      threes = tt;
      pairs = (falls.0, rw (ta, from_a.0, falls.1) refl, (less, rw (ab, tb, from_b.0, falls.2.1) refl, tt));
      ones = (h, rw (tc, from_a.1, from_b.1, from_b.2) refl, tt);
      five = refl;
    }

Allowed-none : (f : ℕ → ℕ) (o : List ℕ) → Falls (held f 0) 13 o → length o ≡ 5 → Allowed f [] [] [] o
Allowed-none f o falls e = record { fours = tt; threes = tt; pairs = tt; ones = alone f o falls; five = (omega arith) }

-- five ranks in a row, from the place of a run
row_of : ℕ → List ℕ
row_of zero = 12 ∷ 3 ∷ 2 ∷ 1 ∷ 0 ∷ []
row_of (suc t) = (t + 4) ∷ (t + 3) ∷ (t + 2) ∷ (t + 1) ∷ t ∷ []

split : (a b c d e : Bool) → (a && b && c && d && e) ≡ true → (a ≡ true) × (b ≡ true) × (c ≡ true) × (d ≡ true) × (e ≡ true)
split true true true true true h = (refl, refl, refl, refl, refl)
split true true true true false h = absurd (true≢false (sym h))
split true true true false e h = absurd (true≢false (sym h))
split true true false d e h = absurd (true≢false (sym h))
split true false c d e h = absurd (true≢false (sym h))
split false b c d e h = absurd (true≢false (sym h))

Falls-row : (p : ℕ → Bool) (t : ℕ) → t < 10 → run_at p t ≡ true → Falls p 13 (row_of t)
unfolding row_of
Falls-row p zero h r = let s = split (p 12) (p 3) (p 2) (p 1) (p 0) r in (omega arith, s.0, (omega arith, s.1, (omega arith, s.2, (omega arith, s.3, (omega arith, s.4, tt)))))
Falls-row p (suc t) h r = let s = split (p (t + 4)) (p (t + 3)) (p (t + 2)) (p (t + 1)) (p t) r in (omega arith, s.0, (omega arith, s.1, (omega arith, s.2, (omega arith, s.3, (omega arith, s.4, tt)))))

length-row : (t : ℕ) → length (row_of t) ≡ 5
unfolding row_of
length-row zero = refl
length-row (suc t) = omega arith

worth-row : (t : ℕ) → worth [] [] [] (row_of t) ≡ 4 * 16 ^ 5 + t * 69905 + 344865
unfolding row_of is_straight category_of pips value_of
worth-row zero = refl
worth-row (suc t) =
    let a : ((t + 4) == (t + 3) + 1) ≡ true = grind arith in
    let b : ((t + 3) == (t + 2) + 1) ≡ true = grind arith in
    let c : ((t + 2) == (t + 1) + 1) ≡ true = grind arith in
    let d : ((t + 1) == t + 1) ≡ true = grind arith in
    let w : is_wheel ((t + 4) ∷ (t + 3) ∷ (t + 2) ∷ (t + 1) ∷ t ∷ []) ≡ false = not_wheel t in
    rw (w, a, b, c, d) (omega arith)
  where
    not_wheel : (t : ℕ) → is_wheel ((t + 4) ∷ (t + 3) ∷ (t + 2) ∷ (t + 1) ∷ t ∷ []) ≡ false
    not_wheel t = elim (cases_eq (t + 4) 12) [
      | inl e ↦ (let n : ((t + 3) == 3) ≡ false = grind arith in let y : ((t + 4) == 12) ≡ true = grind arith in rw (n, y) refl)
      | inr ne ↦ (let n : ((t + 4) == 12) ≡ false = grind arith in rw n refl)
    ]

none-worth : (p : ℕ → Bool) (a b c d e : ℕ) → Falls p 13 (a ∷ b ∷ c ∷ d ∷ e ∷ []) → digits_of 5 (a ∷ b ∷ c ∷ d ∷ e ∷ []) ≤ worth [] [] [] (a ∷ b ∷ c ∷ d ∷ e ∷ [])
unfolding is_straight category_of value_of
none-worth p a b c d e falls = go (falls_by_one (a ∷ b ∷ c ∷ d ∷ e ∷ [])) (is_wheel (a ∷ b ∷ c ∷ d ∷ e ∷ [])) refl
  where
    low : digits_of 5 (a ∷ b ∷ c ∷ d ∷ e ∷ []) < 16 ^ 5
    low = digits_of-lt p 13 5 (a ∷ b ∷ c ∷ d ∷ e ∷ []) (omega arith) falls

    go : (s w : Bool) → is_wheel (a ∷ b ∷ c ∷ d ∷ e ∷ []) ≡ w → digits_of 5 (a ∷ b ∷ c ∷ d ∷ e ∷ []) ≤ digits_from 6 (cond ((s || w) && false) 8 (cond (s || w) 4 0) ∷ pips (a ∷ b ∷ c ∷ d ∷ e ∷ []))
    go true w e = omega (arith, low)
    go false true e = omega (arith, low)
    go false false w = rw (pips_plain (a ∷ b ∷ c ∷ d ∷ e ∷ []) w) (omega arith)

-- each shape that the counts allow is worth at most the best
pub Bounds-best : (cards : List ℕ) → IsCardSet cards → Bounds (count_of_rank cards) (greatest (map plain_number (choose 5 cards)))
unfolding is_straight category_of pips value_of
Bounds-best cards set = record {
  four = λ a b h i x y. let at = shape-reached cards (a ∷ []) [] [] (b ∷ []) set (Allowed-four (count_of_rank cards) a (b ∷ []) h x (i, y, tt) refl) in omega arith;
  full = λ a b h i x y. let at = shape-reached cards [] (a ∷ []) (b ∷ []) [] set (Allowed-full (count_of_rank cards) a b h i x y) in omega arith;
  run = λ t h r. let at = shape-reached cards [] [] [] (row_of t) set (Allowed-none (count_of_rank cards) (row_of t) (Falls-row (held (count_of_rank cards) 0) t h r) (length-row t)) in omega (arith, worth-row t);
  three = λ a b c h x falls. let at = shape-reached cards [] (a ∷ []) [] (b ∷ c ∷ []) set (Allowed-three (count_of_rank cards) a (b ∷ c ∷ []) h x falls refl) in omega arith;
  two = λ a b c falls h x. let at = shape-reached cards [] [] (a ∷ b ∷ []) (c ∷ []) set (Allowed-two (count_of_rank cards) a b c falls h x) in omega arith;
  one = λ a b c d h x falls. let at = shape-reached cards [] [] (a ∷ []) (b ∷ c ∷ d ∷ []) set (Allowed-pair (count_of_rank cards) a (b ∷ c ∷ d ∷ []) h x falls refl) in omega arith;
  none = λ a b c d e falls. let at = shape-reached cards [] [] [] (a ∷ b ∷ c ∷ d ∷ e ∷ []) set (Allowed-none (count_of_rank cards) (a ∷ b ∷ c ∷ d ∷ e ∷ []) falls refl) in omega (arith, none-worth (held (count_of_rank cards) 0) a b c d e falls);
}
