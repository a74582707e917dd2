use Rattle.std.proofs.Common.{refl, arith}
use Rattle.hand_audit.proofs.lemmas.first_pass.PassSteps.{has_none}
use Rattle.hand_audit.proofs.lemmas.lines.ReadOnce.{no_reads}
use Rattle.hand_audit.proofs.first_pass.PlayerScan.new.Goals as goal

pub returns : goal.returns
returns c = record {
  passes = record { names = c.new.ensures; part = refl; players = c.empty.ensures; seats = has_none c.new-2.result c.new-2.ensures.empty; seated = λ k d l. absurd (omega (arith, l)) };
  reads = λ header bytes start within. no_reads _ header bytes start within c.new.ensures refl c.in_ok-with_capacity.ensures.items;
}
