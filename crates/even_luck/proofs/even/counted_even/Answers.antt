use Rattle.std.proofs.Common.{ap, ◌∙◌}
use Rattle.std.specs.Option.{option_map_or}
use Rattle.std.specs.Prelude.{Some}
use Rattle.hand_verdict.specs.SeatSums.{got_of}
use Rattle.even_luck.specs.EvenLuck.{even_got}
use Rattle.even_luck.proofs.EvenFacts.{even_counted}
use Rattle.even_luck.proofs.CountedFacts.{counted_some}
use Rattle.showdown_tally.specs.Deals.{deal_of}
use Rattle.even_luck.proofs.even.counted_even.Goals as goal

pub returns-in-Some-clause-value : goal.returns-in-Some-clause-value
returns-in-Some-clause-value c =
    let deal = deal_of c.args.table.now in
    let s = c.args.settlement.now in
    ap (λ n. Some n) c.even_got.ensures.value ∙ ap (λ hand. Some (option_map_or (even_got s c.args.seats.now deal) hand (got_of s c.args.seat))) c.in-Some.ensures.value
    ∙ even_counted s c.args.seats.now deal c.args.seat c.requires.fits (counted_some deal c.args.tally.now c.requires.full c.requires.some)

pub returns-in-None-clause-value : goal.returns-in-None-clause-value
returns-in-None-clause-value c =
    let deal = deal_of c.args.table.now in
    let s = c.args.settlement.now in
    ap (λ n. Some n) c.got_of.ensures.value ∙ ap (λ hand. Some (option_map_or (even_got s c.args.seats.now deal) hand (got_of s c.args.seat))) c.in-None.ensures.value
    ∙ even_counted s c.args.seats.now deal c.args.seat c.requires.fits (counted_some deal c.args.tally.now c.requires.full c.requires.some)
