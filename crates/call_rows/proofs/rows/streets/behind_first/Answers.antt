use Rattle.runout_ranges.specs.Shapes.{runouts_of}
use Rattle.runout_ranges.specs.Walks.{HasMember-first}
use Rattle.call_rows.proofs.rows.streets.behind_first.Goals as goal

pub after_street-requires-clause-choice : goal.after_street-requires-clause-choice
after_street-requires-clause-choice c = HasMember-first (runouts_of c.args.step.now) c.first_runout.new.out c.first_runout.ensures
