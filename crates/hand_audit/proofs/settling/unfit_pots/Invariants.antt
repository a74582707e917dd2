use Rattle.std.specs.Prelude.{◌≡◌, [], map, take}
use Rattle.hand_audit.specs.Settle.{unfit_line}
use Rattle.hand_audit.proofs.settling.unfit_pots.Given as goal

abbrev pub invariant-loop-pot : goal.invariant-loop-pot
invariant-loop-pot l = record {
  lines : l.pots.lines.items ≡ map unfit_line (take l.pot-index l.layers);
  parts : l.pots.parts.items ≡ map (λ pot. []) (take l.pot-index l.layers);
}
