use Rattle.range_lines.proofs.CallerLemmas.{light_all, light_three}
use Rattle.hand_ranges.proofs.taken.Taken.facts.Goals as goal

pub returns-clause-light : goal.returns-clause-light
returns-clause-light c = light_all c.args.self.now.count c.args.self.now.weight c.args.self.now.few c.args.self.now.light

pub returns-clause-three : goal.returns-clause-three
returns-clause-three c = λ l. light_three c.args.self.now.count c.args.self.now.weight l c.args.self.now.light
