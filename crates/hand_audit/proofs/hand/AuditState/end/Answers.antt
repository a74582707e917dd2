use Rattle.std.proofs.Common.{◌≡◌, refl, true, false, arith}
use Rattle.hand_audit.proofs.lemmas.won_pots.DecidedPots.{decided}
use Rattle.hand_audit.proofs.lemmas.lines.LineSteps.{unfinished, settles}
use Rattle.hand_audit.proofs.hand.AuditState.end.Goals as goal

pub returns-then-not-self : goal.returns-then-not-self
returns-then-not-self c g players so_far k same = let none : c.args.self.now.total ≡ false = grind arith in (unfinished c.args.self.now g players so_far k none, refl)

pub returns : goal.returns
returns c g players so_far k same =
    let some : c.args.self.now.total ≡ true = grind arith in
    let decides = decided c.law_places_are_apart.ensures c.law_cards_belong.ensures c.law_whole_boards.ensures c.law_a_table_shows_each_seat.ensures c.law_a_folded_player_is_eligible_nowhere.ensures in
    settles c.args.self.now g players so_far c.args.game c.in_ok-settled.settled k same some decides (c.requires.sound.part some) c.in_ok-settled.ensures
