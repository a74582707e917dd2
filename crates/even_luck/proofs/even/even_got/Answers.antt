use Rattle.std.proofs.Common.{List, ℕ, ap, ◌∙◌, arith}
use Rattle.hand_verdict.specs.declared.settlement.PotLine.{PotLine}
use Rattle.even_luck.specs.Figures.{expected_units, given_to, tally_figures}
use Rattle.even_luck.specs.Seats.{contenders}
use Rattle.even_luck.specs.EvenLuck.{shared_pots}
use Rattle.even_luck.proofs.TallyFacts.{whole_units, expected_full}
use Rattle.showdown_tally.specs.Deals.{deal_of}
use Rattle.even_luck.proofs.even.even_got.Goals as goal

pub even_units-requires-clause-small : goal.even_units-requires-clause-small
even_units-requires-clause-small c = λ k p. whole_units (deal_of c.args.table.now) c.args.tally.now k c.args.hand c.requires.full p c.requires.hand

pub returns-clause-value : goal.returns-clause-value
returns-clause-value c =
    let deal = deal_of c.args.table.now in
    let s = c.args.settlement.now in
    let sums = c.args.tally.now in
    let hand = c.args.hand in
    let few = c.pot_count.ensures.few in
    let count = c.pot_count.ensures.value in
    let units = λ (seats : List ℕ) (pots : List PotLine) (n : ℕ). expected_units sums.runouts (given_to (shared_pots seats pots) (tally_figures sums) hand n) in
    c.even_units.ensures.value ∙ ap (λ pots. units c.contenders.result.now pots c.pot_count.result) c.items.ensures.items
    ∙ ap (λ seats. units seats s.pots c.pot_count.result) c.contenders.ensures.value
    ∙ ap (λ n. units (contenders c.args.seats.now deal) s.pots n) count
    ∙ expected_full (record s { pots = shared_pots (contenders c.args.seats.now deal) s.pots }) deal sums hand c.requires.full c.requires.hand (omega (arith, few, count))
