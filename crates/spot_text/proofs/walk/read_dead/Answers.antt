use Rattle.std.proofs.Common.{◌∙◌, ap, sym, drop}
use Rattle.spot_text.specs.Words.{words_left}
use Rattle.spot_text.specs.Parts.{cards_of, set_of}
use Rattle.spot_text.specs.Fronts.{from_mark}
use Rattle.spot_text.proofs.SeenCards.{seen_whole}
use Rattle.spot_text.proofs.FrontsByWord.{mark_end, dead_stand, dead_stops}
use Rattle.spot_text.proofs.walk.read_dead.Goals as goal

pub returns-in-End-clause-cards : goal.returns-in-End-clause-cards
returns-in-End-clause-cards c =
    let all = dead_stand (words_left c.args.words.now) (sym c.read_part-part.ensures.mark ∙ c.in-End.is) in
    (all.0, c.read_part-part.ensures.cards ∙ ap (λ part. set_of (cards_of part)) all.1)

pub returns-in-End-clause-twice : goal.returns-in-End-clause-twice
returns-in-End-clause-twice c all seen =
    let none = mark_end (from_mark (words_left c.args.words.now)) (sym c.read_part-part.ensures.mark ∙ c.in-End.is) in
    seen_whole _ _ all (c.read_part-part.ensures.seen all seen) (ap cards_of (c.read_part-part.ensures.rest ∙ ap (drop 1) none))

pub returns-in_default : goal.returns-in_default
returns-in_default c = record { cards = dead_stops (words_left c.args.words.now) (λ end. c.in_default.not-End (c.read_part-part.ensures.mark ∙ end)); twice = tt }
