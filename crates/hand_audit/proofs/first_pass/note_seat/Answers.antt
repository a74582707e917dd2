use Rattle.std.proofs.Common.{◌∙◌, ap, sym, option_map}
use Rattle.hand_audit.proofs.lemmas.first_pass.PassSteps.{noted_of}
use Rattle.hand_audit.proofs.first_pass.note_seat.Goals as goal

pub returns-in_ok-insert : goal.returns-in_ok-insert
returns-in_ok-insert c before number same has =
    noted_of c.args.seats.now c.insert.new.self before c.in-Some.seat.now number (sym (ap (option_map (λ d. d.now)) c.in-Some.is) ∙ same) c.in_ok-insert.ensures.updates has
