use Rattle.std.proofs.Common.{◌∙◌, ap, sym, option_map}
use Rattle.hand_audit.proofs.lemmas.first_pass.PassSteps.{again_of}
use Rattle.hand_audit.proofs.first_pass.is_again.Goals as goal

pub returns-in-Some : goal.returns-in-Some
returns-in-Some c before number same has = c.contains.ensures ∙ again_of c.args.seats.now before c.in-Some.seat.now number (sym (ap (option_map (λ d. d.now)) c.in-Some.is) ∙ same) has
