-- What five cards are worth by their ranks alone, shape by shape: the upper bound.
use Rattle.rank_high.specs.ByRanks.{digits_of, except, held, run_at}
use Rattle.std.proofs.Common.{◌≡◌, ◌≢◌, ℕ, suc, ◌+◌, ◌*◌, ◌^◌, ◌≤◌, ◌<◌, ◌==◌, List, ◌++◌, ◌∷◌, [], refl, ap, ◌∙◌, sym, arith, Bool, true, false, cond, length, inl, inr, map}
use Rattle.std.specs.Prelude.{◌&&◌, ◌||◌, not}
use Rattle.std.proofs.lemmas.Bool.{cases_eq, eqb-true, and_parts}
use mathlib.Core.Bool.{true≢false}
use Rattle.rank_high.specs.High.{value_of, digits_from, category_of, is_straight, falls_by_one, is_wheel, pips}
use Rattle.rank_high.proofs.FallingRanks.{Falls, Falls-wider}
use Rattle.rank_high.proofs.HandCategories.{AreWheel, next_falls, pips_plain, pips_wheel, wheel_ranks}

-- a number is at least that of each five that the counts allow
pub record Bounds (f : ℕ → ℕ) (v : ℕ) : Type 0 where
  pub four : (a b : ℕ) → a < 13 → b < 13 → held f 3 a ≡ true → except a (held f 0) b ≡ true → 7 * 16 ^ 5 + (a + 2) * 16 ^ 4 + digits_of 1 (b ∷ []) * 16 ^ 3 ≤ v
  pub full : (a b : ℕ) → a < 13 → b < 13 → held f 2 a ≡ true → except a (held f 1) b ≡ true → 6 * 16 ^ 5 + (a + 2) * 16 ^ 4 + digits_of 1 (b ∷ []) * 16 ^ 3 ≤ v
  pub run : (t : ℕ) → t < 10 → run_at (held f 0) t ≡ true → 4 * 16 ^ 5 + t * 69905 + 344865 ≤ v
  pub three : (a b c : ℕ) → a < 13 → held f 2 a ≡ true → Falls (except a (held f 0)) 13 (b ∷ c ∷ []) → 3 * 16 ^ 5 + (a + 2) * 16 ^ 4 + digits_of 2 (b ∷ c ∷ []) * 16 ^ 2 ≤ v
  pub two : (a b c : ℕ) → Falls (held f 1) 13 (a ∷ b ∷ []) → c < 13 → except a (except b (held f 0)) c ≡ true → 2 * 16 ^ 5 + (a + 2) * 16 ^ 4 + (b + 2) * 16 ^ 3 + digits_of 1 (c ∷ []) * 16 ^ 2 ≤ v
  pub one : (a b c d : ℕ) → a < 13 → held f 1 a ≡ true → Falls (except a (held f 0)) 13 (b ∷ c ∷ d ∷ []) → 16 ^ 5 + (a + 2) * 16 ^ 4 + digits_of 3 (b ∷ c ∷ d ∷ []) * 16 ≤ v
  pub none : (a b c d e : ℕ) → Falls (held f 0) 13 (a ∷ b ∷ c ∷ d ∷ e ∷ []) → digits_of 5 (a ∷ b ∷ c ∷ d ∷ e ∷ []) ≤ v

-- the number that the ranks of groups of four, three, two and one make
abbrev pub worth : List ℕ → List ℕ → List ℕ → List ℕ → ℕ
worth q t p o = value_of (category_of (is_straight (q ++ t ++ p ++ o)) false (length q) (length t) (length p) ∷ pips (q ++ t ++ p ++ o))

-- a rank that is counted so often in some cards is held in all
held_by : (f g : ℕ → ℕ) (n r : ℕ) → g r ≤ f r → (g r == suc n) ≡ true → held f n r ≡ true
held_by f g n r h e = let same : g r ≡ suc n = eqb-true (g r) (suc n) e in grind arith

-- and isn't one that is counted another number of times
other_than : (f g : ℕ → ℕ) (a size n r : ℕ) → g r ≤ f r → (g a == size) ≡ true → size ≢ suc n → (g r == suc n) ≡ true → except a (held f n) r ≡ true
other_than f g a size n r h s ne e =
    let here : g r ≡ suc n = eqb-true (g r) (suc n) e in
    let there : g a ≡ size = eqb-true (g a) size s in
    let apart : (r == a) ≡ false = elim (cases_eq r a) [
      | inl same ↦ absurd (ne (sym there ∙ ap g (sym same) ∙ here))
      | inr other ↦ (grind arith)
    ] in
    rw apart (held_by f g n r h e)

all : (p : ℕ → Bool) (a b c d e : ℕ) → p a ≡ true → p b ≡ true → p c ≡ true → p d ≡ true → p e ≡ true → (p a && p b && p c && p d && p e) ≡ true
all p a b c d e i j k l m = rw (i, j, k, l, m) refl

or_left : (x y : Bool) → (x || y) ≡ true → y ≡ false → x ≡ true
or_left true y h f = refl
or_left false y h f = absurd (true≢false (sym h ∙ f))

neither : (x y : Bool) → (x || y) ≡ false → y ≡ false
neither true y h = absurd (true≢false h)
neither false y h = h

no_category : (v a b c d e : ℕ) → digits_of 5 (a ∷ b ∷ c ∷ d ∷ e ∷ []) ≤ v → value_of (0 ∷ map (λ r. r + 2) (a ∷ b ∷ c ∷ d ∷ e ∷ [])) ≤ v
unfolding value_of
no_category v a b c d e h = omega arith

straight_number : (f : ℕ → ℕ) (v a b c d e : ℕ) → Bounds f v → Falls (held f 0) 13 (a ∷ b ∷ c ∷ d ∷ e ∷ [])
    → (falls_by_one (a ∷ b ∷ c ∷ d ∷ e ∷ []) || is_wheel (a ∷ b ∷ c ∷ d ∷ e ∷ [])) ≡ true → value_of (4 ∷ pips (a ∷ b ∷ c ∷ d ∷ e ∷ [])) ≤ v
unfolding value_of
straight_number f v a b c d e bounds falls straight = go (is_wheel (a ∷ b ∷ c ∷ d ∷ e ∷ [])) refl
  where
    go : (w : Bool) → is_wheel (a ∷ b ∷ c ∷ d ∷ e ∷ []) ≡ w → digits_from 6 (4 ∷ pips (a ∷ b ∷ c ∷ d ∷ e ∷ [])) ≤ v
    go true w =
        let is : AreWheel a b c d e = wheel_ranks a b c d e w in
        let ends : pips (a ∷ b ∷ c ∷ d ∷ e ∷ []) ≡ 5 ∷ 4 ∷ 3 ∷ 2 ∷ 1 ∷ [] = pips_wheel (a ∷ b ∷ c ∷ d ∷ e ∷ []) w in
        let h = bounds.run 0 (omega arith) (all (held f 0) 12 3 2 1 0 (ap (held f 0) (sym is.ace) ∙ falls.1) (ap (held f 0) (sym is.five) ∙ falls.2.1) (ap (held f 0) (sym is.four) ∙ falls.2.2.1) (ap (held f 0) (sym is.three) ∙ falls.2.2.2.1) (ap (held f 0) (sym is.two) ∙ falls.2.2.2.2.1)) in
        rw ends (omega arith)
    go false w =
        let falling_by_one : falls_by_one (a ∷ b ∷ c ∷ d ∷ e ∷ []) ≡ true = or_left (falls_by_one (a ∷ b ∷ c ∷ d ∷ e ∷ [])) (is_wheel (a ∷ b ∷ c ∷ d ∷ e ∷ [])) straight w in
        let one = next_falls a b (c ∷ d ∷ e ∷ []) falling_by_one in
        let two = next_falls b c (d ∷ e ∷ []) one.1 in
        let three = next_falls c d (e ∷ []) two.1 in
        let four = next_falls d e [] three.1 in
        let ia : a ≡ e + 4 = omega arith in
        let ib : b ≡ e + 3 = omega arith in
        let ic : c ≡ e + 2 = omega arith in
        let id : d ≡ e + 1 = omega arith in
        let top : a < 13 = falls.0 in
        let h = bounds.run (suc e) (omega arith) (all (held f 0) (e + 4) (e + 3) (e + 2) (e + 1) e (ap (held f 0) (sym ia) ∙ falls.1) (ap (held f 0) (sym ib) ∙ falls.2.1) (ap (held f 0) (sym ic) ∙ falls.2.2.1) (ap (held f 0) (sym id) ∙ falls.2.2.2.1) falls.2.2.2.2.1) in
        rw (pips_plain (a ∷ b ∷ c ∷ d ∷ e ∷ []) w) (omega arith)

five_ranks : (f : ℕ → ℕ) (v a b c d e : ℕ) → Bounds f v → Falls (held f 0) 13 (a ∷ b ∷ c ∷ d ∷ e ∷ []) → worth [] [] [] (a ∷ b ∷ c ∷ d ∷ e ∷ []) ≤ v
unfolding is_straight category_of
five_ranks f v a b c d e bounds falls = go (falls_by_one (a ∷ b ∷ c ∷ d ∷ e ∷ []) || is_wheel (a ∷ b ∷ c ∷ d ∷ e ∷ [])) refl
  where
    go : (s : Bool) → (falls_by_one (a ∷ b ∷ c ∷ d ∷ e ∷ []) || is_wheel (a ∷ b ∷ c ∷ d ∷ e ∷ [])) ≡ s
        → value_of (cond (s && false) 8 (cond s 4 0) ∷ pips (a ∷ b ∷ c ∷ d ∷ e ∷ [])) ≤ v
    go true s = straight_number f v a b c d e bounds falls s
    go false s =
        let w : is_wheel (a ∷ b ∷ c ∷ d ∷ e ∷ []) ≡ false = neither (falls_by_one (a ∷ b ∷ c ∷ d ∷ e ∷ [])) (is_wheel (a ∷ b ∷ c ∷ d ∷ e ∷ [])) s in
        rw (pips_plain (a ∷ b ∷ c ∷ d ∷ e ∷ []) w) (no_category v a b c d e (bounds.none a b c d e falls))

-- five cards are worth no more than a bound
pub worth-most : (f g : ℕ → ℕ) (v : ℕ) → Bounds f v → ((r : ℕ) → r < 13 → g r ≤ f r) → (q t p o : List ℕ)
    → Falls (λ r. g r == 4) 13 q → Falls (λ r. g r == 3) 13 t → Falls (λ r. g r == 2) 13 p → Falls (λ r. g r == 1) 13 o
    → 4 * length q + 3 * length t + 2 * length p + length o ≡ 5 → worth q t p o ≤ v
unfolding is_straight category_of pips value_of
worth-most f g v bounds le (a ∷ []) [] [] (b ∷ []) fq ft fp fo e =
    let h = bounds.four a b fq.0 fo.0 (held_by f g 3 a (le a fq.0) fq.1) (other_than f g a 4 0 b (le b fo.0) fq.1 (λ e. absurd (omega arith)) fo.1) in
    omega arith
worth-most f g v bounds le [] (a ∷ []) (b ∷ []) [] fq ft fp fo e =
    let h = bounds.full a b ft.0 fp.0 (held_by f g 2 a (le a ft.0) ft.1) (other_than f g a 3 1 b (le b fp.0) ft.1 (λ e. absurd (omega arith)) fp.1) in
    omega arith
worth-most f g v bounds le [] (a ∷ []) [] (b ∷ c ∷ []) fq ft fp fo e =
    let h = bounds.three a b c ft.0 (held_by f g 2 a (le a ft.0) ft.1) (Falls-wider (λ r. g r == 1) (except a (held f 0)) 13 13 (b ∷ c ∷ []) (λ r l i. other_than f g a 3 0 r (le r l) ft.1 (λ e. absurd (omega arith)) i) (omega arith) fo) in
    omega arith
worth-most f g v bounds le [] [] (a ∷ b ∷ []) (c ∷ []) fq ft fp fo e =
    let less : b < 13 = (let x = fp.0 in let y = fp.2.0 in omega arith) in
    let h = bounds.two a b c (Falls-wider (λ r. g r == 2) (held f 1) 13 13 (a ∷ b ∷ []) (λ r l i. held_by f g 1 r (le r l) i) (omega arith) fp) fo.0
    (let other = other_than f g b 2 0 c (le c fo.0) fp.2.1 (λ e. absurd (omega arith)) fo.1 in
    let here : (not (c == a)) ≡ true = (and_parts (not (c == a)) (held f 0 c) (other_than f g a 2 0 c (le c fo.0) fp.1 (λ e. absurd (omega arith)) fo.1)).0 in
    rw (here, other) refl) in
    omega arith
worth-most f g v bounds le [] [] (a ∷ []) (b ∷ c ∷ d ∷ []) fq ft fp fo e =
    let h = bounds.one a b c d fp.0 (held_by f g 1 a (le a fp.0) fp.1) (Falls-wider (λ r. g r == 1) (except a (held f 0)) 13 13 (b ∷ c ∷ d ∷ []) (λ r l i. other_than f g a 2 0 r (le r l) fp.1 (λ e. absurd (omega arith)) i) (omega arith) fo) in
    omega arith
worth-most f g v bounds le [] [] [] (a ∷ b ∷ c ∷ d ∷ e ∷ []) fq ft fp fo five =
    five_ranks f v a b c d e bounds (Falls-wider (λ r. g r == 1) (held f 0) 13 13 (a ∷ b ∷ c ∷ d ∷ e ∷ []) (λ r l i. held_by f g 0 r (le r l) i) (omega arith) fo)
worth-most f g v bounds le q t p o fq ft fp fo e = absurd (omega arith)
