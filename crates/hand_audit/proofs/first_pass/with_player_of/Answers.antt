use Rattle.std.proofs.Common.{◌∙◌, sym}
use Rattle.hand_audit.proofs.lemmas.first_pass.PassSteps.{noted_some, noted_none}
use Rattle.hand_audit.proofs.first_pass.with_player_of.Goals as goal

pub returns-in-Some : goal.returns-in-Some
returns-in-Some c h old = c.with.ensures ∙ noted_some c.args.players c.args.e.now h c.in-Some.seat (sym c.player_of.ensures.value ∙ c.in-Some.is) c.in-Some.ensures.few old

pub returns-in-None : goal.returns-in-None
returns-in-None c h old = noted_none c.args.players c.args.e.now h (sym c.player_of.ensures.value ∙ c.in-None.is) old
