use Rattle.std.proofs.Common.{◌∙◌, ap, sym, drop, refl}
use Rattle.spot_text.specs.Words.{words_left}
use Rattle.spot_text.specs.Parts.{cards_of}
use Rattle.spot_text.specs.Fronts.{front_cards, mark_of}
use Rattle.spot_text.proofs.CardsByWord.{gathered_none, gathered_all, gathered_card, cards_more, cards_passed}
use Rattle.spot_text.proofs.SeenCards.{seen_left}
use Rattle.spot_text.proofs.FrontsByWord.{front_more, front_ends, front_none}
use Rattle.spot_text.proofs.walk.read_part.Goals as goal

pub loop-word-init : goal.loop-word-init
loop-word-init c = record { more = tt; ends = tt; cards = gathered_none _ _ c.empty-cards.ensures; mark = refl; seen = λ all seen. seen }

pub loop-word-preserved : goal.loop-word-preserved
loop-word-preserved c =
    let front = front_more _ _ _ _ _ c.in-Some.ensures.steps c.card_of.ensures.value c.in-Some-card_of.is in
    record {
      more = tt;
      ends = tt;
      cards = gathered_card _ _ (front_cards (words_left c.next.new.self)) _ _ _ c.loop-word.invariant.cards (cards_more _ _ _ _ _ front.0 c.card_of.ensures.value c.in-Some-card_of.is) c.with-cards.ensures;
      mark = sym front.1 ∙ c.loop-word.invariant.mark;
      seen = λ all seen. c.add.ensures _ all
          (seen_left _ _ _ all (c.loop-word.invariant.seen all seen) (cards_more _ _ _ _ _ c.in-Some.ensures.steps c.card_of.ensures.value c.in-Some-card_of.is));
    }

pub returns-in_default-card_of-clause-cards : goal.returns-in_default-card_of-clause-cards
returns-in_default-card_of-clause-cards c =
    let front = front_ends _ _ _ _ c.in-Some.ensures.steps c.card_of.ensures.value c.in_default-card_of.is in
    gathered_all _ _ _ c.loop-word.invariant.cards (ap cards_of front.0)

pub returns-in_default-card_of-clause-mark : goal.returns-in_default-card_of-clause-mark
returns-in_default-card_of-clause-mark c =
    let front = front_ends _ _ _ _ c.in-Some.ensures.steps c.card_of.ensures.value c.in_default-card_of.is in
    c.of.ensures ∙ ap mark_of (sym front.1 ∙ c.loop-word.invariant.mark)

pub returns-in_default-card_of-clause-rest : goal.returns-in_default-card_of-clause-rest
returns-in_default-card_of-clause-rest c =
    let front = front_ends _ _ _ _ c.in-Some.ensures.steps c.card_of.ensures.value c.in_default-card_of.is in
    ap (drop 1) (sym front.1 ∙ c.loop-word.invariant.mark)

pub returns-in_default-card_of-clause-seen : goal.returns-in_default-card_of-clause-seen
returns-in_default-card_of-clause-seen c all seen =
    seen_left _ _ _ all (c.loop-word.invariant.seen all seen) (cards_passed _ _ _ _ c.in-Some.ensures.steps c.card_of.ensures.value c.in_default-card_of.is)

pub returns-clause-cards : goal.returns-clause-cards
returns-clause-cards c =
    let front = front_none _ c.in_default.ensures.steps.0 in
    gathered_all _ _ _ c.loop-word.invariant.cards (ap cards_of front.0)

pub returns-clause-mark : goal.returns-clause-mark
returns-clause-mark c =
    let front = front_none _ c.in_default.ensures.steps.0 in
    ap mark_of (sym front.1 ∙ c.loop-word.invariant.mark)

pub returns-clause-rest : goal.returns-clause-rest
returns-clause-rest c =
    let front = front_none _ c.in_default.ensures.steps.0 in
    c.in_default.ensures.steps.1 ∙ ap (drop 1) (sym front.1 ∙ c.loop-word.invariant.mark)

pub returns-clause-seen : goal.returns-clause-seen
returns-clause-seen c all seen = seen_left _ _ _ all (c.loop-word.invariant.seen all seen) (ap cards_of (c.in_default.ensures.steps.0 ∙ sym c.in_default.ensures.steps.1))
