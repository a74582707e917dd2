-- The fives that a game allows are sets of five cards.
use Rattle.std.proofs.Common.{◌≡◌, ℕ, ◌+◌, List, [], ◌∷◌, ◌++◌, arith, Bool, true, false, cond, length, map}
use Rattle.std.specs.Prelude.{filter}
use Rattle.std.specs.List.{flat_map}
use Rattle.card_sets.specs.Cards.{IsCardSet, union}
use Rattle.card_sets.specs.Choose.{choose}
use Rattle.card_sets.specs.Disjoint.{apart}
use Rattle.card_sets.specs.Games.{allowed}
use Rattle.card_sets.specs.declared.games.Game.{Game}
use Rattle.card_sets.specs.declared.games.Game.TheVariants.{Holdem, Omaha, Omaha8, Stud, Stud8, Razz, Draw5, Lowball27, Triple27}
use Rattle.card_sets.proofs.CallerLemmas.{IsPart, AreParts, AreParts-choose, Apart, Apart-apart, length-union, set-part, Apart-parts, union-IsCardSet}
use Rattle.hand_choice.specs.AllowedFives.{AreFives}

pub AreFives-append : (ls ms : List (List ℕ)) → AreFives ls → AreFives ms → AreFives (ls ++ ms)
AreFives-append [] ms p q = q
AreFives-append (l ∷ ls) ms p q = (p.0, p.1, AreFives-append ls ms p.2 q)

parts-AreFives : (xs : List ℕ) (ls : List (List ℕ)) → IsCardSet xs → AreParts 5 xs ls → AreFives ls
parts-AreFives xs [] set p = tt
parts-AreFives xs (l ∷ ls) set p = (set-part l xs p.1 set, p.0, parts-AreFives xs ls set p.2)

choose-AreFives : (xs : List ℕ) → IsCardSet xs → AreFives (choose 5 xs)
choose-AreFives xs set = parts-AreFives xs (choose 5 xs) set (AreParts-choose 5 xs)

-- two own cards with each three of the board
with_threes : (own board two : List ℕ) (ls : List (List ℕ)) → IsCardSet own → IsCardSet board → Apart own board → length two ≡ 2 → IsPart two own → AreParts 3 board ls → AreFives (map (λ three. union two three) ls)
with_threes own board two [] x y h size inside p = tt
with_threes own board two (three ∷ ls) x y h size inside p =
    let whole : length (union two three) ≡ length two + length three = length-union two three (set-part two own inside x) (set-part three board p.1 y) (Apart-parts two own three board inside p.1 h) in
    (union-IsCardSet two three, omega (arith, whole, p.0), with_threes own board two ls x y h size inside p.2)

with_twos : (own board : List ℕ) (ls : List (List ℕ)) → IsCardSet own → IsCardSet board → Apart own board → AreParts 2 own ls → AreFives (flat_map (λ two. map (λ three. union two three) (choose 3 board)) ls)
with_twos own board [] x y h p = tt
with_twos own board (two ∷ ls) x y h p =
    AreFives-append (map (λ three. union two three) (choose 3 board)) (flat_map (λ two. map (λ three. union two three) (choose 3 board)) ls)
    (with_threes own board two (choose 3 board) x y h p.0 p.1 (AreParts-choose 3 board)) (with_twos own board ls x y h p.2)

pub allowed-AreFives : (game : Game) (own board : List ℕ) → IsCardSet own → IsCardSet board → apart own board ≡ true → AreFives (allowed game own board)
allowed-AreFives Holdem own board x y h = choose-AreFives (union own board) (union-IsCardSet own board)
allowed-AreFives Omaha own board x y h = with_twos own board (choose 2 own) x y (Apart-apart own board h) (AreParts-choose 2 own)
allowed-AreFives Omaha8 own board x y h = with_twos own board (choose 2 own) x y (Apart-apart own board h) (AreParts-choose 2 own)
allowed-AreFives Stud own board x y h = choose-AreFives (union own board) (union-IsCardSet own board)
allowed-AreFives Stud8 own board x y h = choose-AreFives (union own board) (union-IsCardSet own board)
allowed-AreFives Razz own board x y h = choose-AreFives (union own board) (union-IsCardSet own board)
allowed-AreFives Draw5 own board x y h = choose-AreFives (union own board) (union-IsCardSet own board)
allowed-AreFives Lowball27 own board x y h = choose-AreFives (union own board) (union-IsCardSet own board)
allowed-AreFives Triple27 own board x y h = choose-AreFives (union own board) (union-IsCardSet own board)

pub filter-AreFives : (p : List ℕ → Bool) (ls : List (List ℕ)) → AreFives ls → AreFives (filter p ls)
filter-AreFives p [] h = tt
filter-AreFives p (l ∷ ls) h = one (p l) (filter-AreFives p ls h.2)
  where
    one : (b : Bool) → AreFives (filter p ls) → AreFives (cond b (l ∷ filter p ls) (filter p ls))
    one true r = (h.0, h.1, r)
    one false r = r
