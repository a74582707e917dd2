use Rattle.std.proofs.Common.{◌≡◌, ◌+◌, ◌++◌, take, drop}
use Rattle.share_fractions.specs.Round.{last_digits}
use Rattle.share_fractions.proofs.put_places.Given as goal

abbrev pub invariant-loop-place : goal.invariant-loop-place
invariant-loop-place l = record {
  next : l.end + l.place ≡ l.fn.at + l.fn.places;
  written :
      take l.end l.out ++ last_digits l.place l.whole ≡ take l.fn.at l.fn.out ++ last_digits l.fn.places l.whole;
  behind : drop l.end l.out ≡ drop l.end l.fn.out;
}
