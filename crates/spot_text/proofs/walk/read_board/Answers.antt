use Rattle.std.proofs.Common.{◌∙◌, ap, sym, drop}
use Rattle.spot_text.specs.Words.{words_left}
use Rattle.spot_text.specs.Parts.{cards_of, set_of}
use Rattle.spot_text.specs.Fronts.{from_mark}
use Rattle.spot_text.specs.Sections.{Dead, stands_from}
use Rattle.spot_text.proofs.CardsByWord.{set_of-nil}
use Rattle.spot_text.proofs.SeenCards.{seen_whole}
use Rattle.spot_text.proofs.FrontsByWord.{mark_end, board_stands, board_slash, board_stops}
use Rattle.spot_text.proofs.walk.read_board.Goals as goal

pub returns-in-End-clause-cards : goal.returns-in-End-clause-cards
returns-in-End-clause-cards c =
    let p = board_stands (words_left c.args.words.now) (sym c.read_part-part.ensures.mark ∙ c.in-End.is) in (
      p.0,
      c.read_part-part.ensures.cards ∙ ap (λ part. set_of (cards_of part)) (sym p.1),
      c.empty.ensures ∙ sym (ap (λ part. set_of (cards_of part)) p.2 ∙ set_of-nil),
    )

pub returns-in-End-clause-twice : goal.returns-in-End-clause-twice
returns-in-End-clause-twice c all seen =
    let none = mark_end (from_mark (words_left c.args.words.now)) (sym c.read_part-part.ensures.mark ∙ c.in-End.is) in
    seen_whole _ _ all (c.read_part-part.ensures.seen all seen) (ap cards_of (c.read_part-part.ensures.rest ∙ ap (drop 1) none))

pub returns-in-Some-clause-cards : goal.returns-in-Some-clause-cards
returns-in-Some-clause-cards c =
    let p = board_slash (words_left c.args.words.now) (sym c.read_part-part.ensures.mark ∙ c.in-Slash.is) in
    let rest = c.read_part-part.ensures.rest in (
      p.0 ∙ ap (stands_from Dead) (sym rest) ∙ c.in-Some.ensures.cards.0,
      c.read_part-part.ensures.cards ∙ ap (λ part. set_of (cards_of part)) (sym p.1),
      c.in-Some.ensures.cards.1 ∙ ap (λ part. set_of (cards_of part)) (rest ∙ sym p.2),
    )

pub returns-in_default-read_dead-clause-cards : goal.returns-in_default-read_dead-clause-cards
returns-in_default-read_dead-clause-cards c =
    let p = board_slash (words_left c.args.words.now) (sym c.read_part-part.ensures.mark ∙ c.in-Slash.is) in
    p.0 ∙ ap (stands_from Dead) (sym c.read_part-part.ensures.rest) ∙ c.in_default-read_dead.ensures.cards

pub returns-in_default : goal.returns-in_default
returns-in_default c = record {
  cards = board_stops (words_left c.args.words.now) (λ end. c.in_default.not-End (c.read_part-part.ensures.mark ∙ end))
      (λ slash. c.in_default.not-Slash (c.read_part-part.ensures.mark ∙ slash));
  twice = tt;
}
