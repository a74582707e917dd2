-- Counts that grow by one listing after another.
use Rattle.std.proofs.Common.{◌≡◌, ℕ, ◌+◌, ◌≤◌, ◌==◌, List, ◌++◌, length, sym, arith, cond}
use Rattle.std.specs.List.{count_by}
use Rattle.std.proofs.lemmas.List.Sums.{sum_by-append, count_by-le-length}
use Rattle.showdown_tally.specs.Showdown.{Showdown}
use Rattle.showdown_tally.specs.SideCounts.{CountsFit, CountsGrow, count_at, count_place}

three_sums : (old one two a b all : ℕ) → one ≡ old + a → two ≡ one + b → a + b ≡ all → two ≡ old + all
three_sums old one two a b all p q r = omega arith

pub grow_more : (deal : Showdown) (xs ys : List (List (List ℕ))) (a b c : List (List ℕ)) → CountsGrow deal xs a b → CountsGrow deal ys b c → CountsGrow deal (xs ++ ys) a c
grow_more deal xs ys a b c p q = λ pot place side l h m.
    three_sums (count_at a pot side place) (count_at b pot side place) (count_at c pot side place)
    (count_by (λ runout. count_place deal pot side runout == place) xs) (count_by (λ runout. count_place deal pot side runout == place) ys) (count_by (λ runout. count_place deal pot side runout == place) (xs ++ ys))
    (p pot place side l h m) (q pot place side l h m) (sym (sum_by-append (λ runout. cond (count_place deal pot side runout == place) 1 0) xs ys))

-- room for fewer runouts
pub room_less : (deal : Showdown) (a : List (List ℕ)) (most few : ℕ) → few ≤ most → CountsFit deal a most → CountsFit deal a few
room_less deal a most few less fits = λ pot place side l h m. let f = fits pot place side l h m in omega arith

-- and for those that are left when some were counted
pub room_left : (deal : Showdown) (xs : List (List (List ℕ))) (a b : List (List ℕ)) (most few : ℕ) → length xs + few ≤ most → CountsFit deal a most → CountsGrow deal xs a b → CountsFit deal b few
room_left deal xs a b most few less fits grown = λ pot place side l h m.
    let f = fits pot place side l h m in
    let g = grown pot place side l h m in
    let t = count_by-le-length (λ runout. count_place deal pot side runout == place) xs in
    omega arith
