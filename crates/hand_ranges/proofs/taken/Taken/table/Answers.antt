use Rattle.std.proofs.Common.{◌-◌, take, ap, ◌∙◌}
use Rattle.card_sets.specs.Disjoint.{all_empty}
use Rattle.range_lines.proofs.CallerLemmas.{known_apart, known_fit, nones_empty}
use Rattle.hand_ranges.proofs.taken.Taken.table.Goals as goal

pub invariant_of-known-clause-disjoint : goal.invariant_of-known-clause-disjoint
invariant_of-known-clause-disjoint c =
    let t = c.args.self.now in
    known_apart c.args.board c.args.dead (take t.count t.hands) t.count c.padded.result c.requires.apart c.requires.hands c.facts.ensures.disjoint c.padded.ensures.front c.padded.ensures.back

pub invariant_of-known-clause-unused : goal.invariant_of-known-clause-unused
invariant_of-known-clause-unused c = ap all_empty c.padded.ensures.back ∙ nones_empty (10 - c.args.self.now.count)

pub invariant_of-known-clause-fitting : goal.invariant_of-known-clause-fitting
invariant_of-known-clause-fitting c =
    let t = c.args.self.now in
    known_fit c.args.board c.args.dead (take t.count t.hands) t.count c.padded.result c.requires.size c.requires.hands c.padded.ensures.front c.padded.ensures.back
