use Rattle.std.specs.Prelude.{◌≡◌, ◌++◌, ◌-◌}
use Rattle.hand_audit.specs.PotNames.{counts_from}
use Rattle.hand_audit.specs.Settle.{payments_from}
use Rattle.hand_audit.specs.SettlementAnswers.{payment_by}
use Rattle.hand_audit.proofs.payments.payments.Given as goal

-- the payments so far and those of the seats that are left are all
abbrev pub invariant-loop-seat : goal.invariant-loop-seat
invariant-loop-seat l = l.pays.items ++ payments_from (payment_by l.dues (counts_from l.fn.source) l.all) l.seat (11 - l.seat) ≡ payments_from (payment_by l.dues (counts_from l.fn.source) l.all) 1 10
