-- What a seat would have got with even luck.
use Rattle.std.proofs.Common.{◌≡◌, ℕ, zero, suc, List, [], ◌∷◌, refl, true, false, arith}
use Rattle.std.specs.Prelude.{None, Some}
use Rattle.std.specs.List.{sum_by}
use Rattle.std.specs.Option.{option_map_or}
use Rattle.std.proofs.lemmas.List.Sums.{sum_by-cons}
use Rattle.hand_verdict.specs.SeatSums.{got_by, got_of}
use Rattle.hand_verdict.specs.declared.settlement.PotLine.{PotLine}
use Rattle.hand_verdict.specs.declared.settlement.Settlement.{Settlement}
use Rattle.even_luck.specs.Figures.{gross_of, is_counted, paid_from}
use Rattle.even_luck.specs.EvenLuck.{even_got, known_even, shared_pots}
use Rattle.even_luck.specs.Seats.{hand_at}
use Rattle.showdown_tally.specs.Showdown.{Showdown}

-- out of a pot that isn't there nobody gets anything
nothing_got : (seats : List ℕ) → sum_by (λ seat. got_by [] seat) seats ≡ 0
nothing_got [] = refl
nothing_got (seat ∷ seats) = omega (arith, sum_by-cons (λ s. got_by [] s) seat seats, nothing_got seats)

-- what the players of some seats got out of a pot is what it holds as if it held that
pub got_shared : (seats : List ℕ) (pots : List PotLine) (k : ℕ) → sum_by (λ seat. got_by (paid_from pots k) seat) seats ≡ gross_of (shared_pots seats pots) k
got_shared seats [] k = nothing_got seats
got_shared seats (pot ∷ pots) zero = refl
got_shared seats (pot ∷ pots) (suc k) = got_shared seats pots k

-- where the names don't fit, or the all-in isn't counted, it isn't known
pub even_misfit : (s : Settlement) (seats : List ℕ) (deal : Showdown) (seat : ℕ) → s.fits ≡ false → None ≡ known_even s seats deal seat
unfolding known_even
even_misfit s seats deal seat misfit = rw misfit refl

pub even_refused : (s : Settlement) (seats : List ℕ) (deal : Showdown) (seat : ℕ) → s.fits ≡ true → is_counted deal ≡ false → None ≡ known_even s seats deal seat
unfolding known_even
even_refused s seats deal seat fits refused = rw (fits, refused) refl

-- else it is what the hand of the seat would have got, or what a seat without one did
pub even_counted : (s : Settlement) (seats : List ℕ) (deal : Showdown) (seat : ℕ) → s.fits ≡ true → is_counted deal ≡ true
    → Some (option_map_or (even_got s seats deal) (hand_at seats deal seat) (got_of s seat)) ≡ known_even s seats deal seat
unfolding known_even
even_counted s seats deal seat fits counted = rw (fits, counted) refl
