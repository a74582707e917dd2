use Rattle.std.proofs.Common.{sym, take, ◌∙◌, arith}
use Rattle.std.proofs.lemmas.List.{length-take}
use Rattle.card_sets.specs.State.{state_of}
use Rattle.even_luck.specs.Figures.{full_figures, tally_figures}
use Rattle.even_luck.proofs.CallerLemmas.{Agree-full, few_units}
use Rattle.hand_blocks.proofs.EquityFacts.{all_in_counted, all_in_empty, all_in_same}
use Rattle.showdown_tally.specs.Deals.{deal_of}
use Rattle.hand_blocks.proofs.hand_equities.full_all_in.Goals as goal

pub returns-then-runouts-eq0 : goal.returns-then-runouts-eq0
returns-then-runouts-eq0 c =
    let shown = c.args.shown.now in
    rw (← all_in_empty c.args.sheet.now.form shown.settlement.now shown.names.now shown.seats.now c.args.street (deal_of shown.table.now) c.args.tally.now c.requires.full (sym c.runouts.ensures ∙ c.if-runouts-eq0.true))
    c.deck_short.ensures

pub counted_all_in-requires-clause-small : goal.counted_all_in-requires-clause-small
counted_all_in-requires-clause-small c = λ k hand p h. few_units (deal_of c.args.shown.now.table.now) c.args.tally.now k hand c.requires.full p h

pub returns : goal.returns
returns c =
    let shown = c.args.shown.now in
    let table = shown.table.now in
    let few = table.few_pots in
    let few_hands = table.known.few in
    let same = all_in_same c.args.sheet.now.form shown.settlement.now shown.names.now shown.seats.now c.args.street (state_of table.known) (take table.pots table.eligible) (tally_figures c.args.tally.now) (full_figures (deal_of table))
    (omega (arith, length-take table.pots table.eligible)) (omega (arith, length-take table.known.count table.known.hands)) (Agree-full (deal_of table) c.args.tally.now c.requires.full.counts) in
    let counted = all_in_counted c.args.sheet.now.form shown.settlement.now shown.names.now shown.seats.now c.args.street (deal_of table) c.args.tally.now c.requires.full (omega arith) in
    rw (← (same ∙ counted)) c.counted_all_in.ensures
