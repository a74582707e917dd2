use Rattle.hand_audit.proofs.lemmas.first_pass.SeatDigits.{Zeros}
use Rattle.hand_audit.proofs.first_pass.without_zeros.Given as goal

abbrev pub invariant-loop-first : goal.invariant-loop-first
invariant-loop-first l = record { left : Zeros l.digits l.first }
