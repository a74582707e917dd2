-- The ranks of the first cards of a board.
use Rattle.std.proofs.Common.{◌≡◌, ℕ, zero, suc, ◌+◌, ◌-◌, ◌<◌, ◌≤◌, ◌==◌, List, [], ◌∷◌, ◌++◌, length, refl, sym, ap, ◌∙◌, false, cond, arith, Option, Some, None}
use Rattle.std.specs.Prelude.{MatchOption, slice_get, replicate, slice_index}
use Rattle.std.proofs.lemmas.List.Sums.{sum_by-cons}
use Rattle.card_sets.specs.Cards.{IsRising, RisingFrom, rank_of}
use Rattle.rank_high.specs.High.{count_of_rank}

-- the first of some cards, and its rank or 13
abbrev pub Yields : List ℕ → Option ℕ → List ℕ → Type 0
Yields rest o left = MatchOption o ((rest ≡ []) × (left ≡ [])) (λ x. rest ≡ x ∷ left)

abbrev pub HasRank : Option ℕ → ℕ → Type 0
HasRank o n = MatchOption o (n ≡ 13) (λ x. n ≡ rank_of x)

step : (rest : List ℕ) (o : Option ℕ) (left : List ℕ) (n r k : ℕ) → Yields rest o left → HasRank o n → r < 13 → length rest ≤ suc k → (count_of_rank rest r ≡ cond (n == r) 1 0 + count_of_rank left r) × (length left ≤ k)
step rest None left n r k y h l few =
    let f : (n == r) ≡ false = grind arith in
    (rw (f, y.0, y.1) refl, (let z : length left ≡ 0 = ap length y.1 in omega arith))
step rest (Some x) left n r k y h l few =
    (ap (λ cards. count_of_rank cards r) y ∙ sum_by-cons (λ c. cond (rank_of c == r) 1 0) x left ∙ ap (λ m. cond (m == r) 1 0 + count_of_rank left r) (sym h), (let z : length rest ≡ suc (length left) = ap length y in omega arith))

none_of : (cards : List ℕ) (r : ℕ) → length cards ≤ 0 → count_of_rank cards r ≡ 0
none_of [] r h = refl
none_of (c ∷ cards) r h = absurd (omega arith)

pub three_ranks : (cards a b c : List ℕ) (x y z : Option ℕ) (f s t r : ℕ) → length cards ≤ 3 → Yields cards x a → Yields a y b → Yields b z c → HasRank x f → HasRank y s → HasRank z t → r < 13
    → 0 + cond (f == r) 1 0 + cond (s == r) 1 0 + cond (t == r) 1 0 ≡ count_of_rank cards r
three_ranks cards a b c x y z f s t r few p q w hf hs ht l =
    let one = step cards x a f r 2 p hf l few in
    let two = step a y b s r 1 q hs l one.1 in
    let three = step b z c t r 0 w ht l two.1 in
    let none = none_of c r three.1 in
    omega (arith, one.0, two.0, three.0, none)

pub zeros : (n place : ℕ) → slice_index (replicate n 0) place ≡ 0
zeros zero place = refl
zeros (suc n) zero = refl
zeros (suc n) (suc place) = zeros n place

-- a card after others is above the last of them
last_below : (low : ℕ) (cards : List ℕ) (card last : ℕ) (more : List ℕ) → RisingFrom low (cards ++ card ∷ more) → slice_get cards (length cards - 1) ≡ Some last → last < card
last_below low [] card last more r e = cc
last_below low (c ∷ []) card last more r e = let same : c ≡ last = cc in let up = r.2.0 in omega arith
last_below low (c ∷ d ∷ cards) card last more r e =
    let at : suc (suc (length cards)) - 1 ≡ suc (length cards) = omega arith in
    let at' : suc (length cards) - 1 ≡ length cards = omega arith in
    let e' : slice_get (d ∷ cards) (length cards) ≡ Some last = (rw at at e) in
    last_below (c + 1) (d ∷ cards) card last more r.2 (rw at' e')

pub rank_behind : (cards : List ℕ) (card last : ℕ) (more : List ℕ) → IsRising (cards ++ card ∷ more) → slice_get cards (length cards - 1) ≡ Some last → rank_of last ≤ rank_of card
rank_behind cards card last more r e = let l : last < card = last_below 0 cards card last more r e in omega arith
