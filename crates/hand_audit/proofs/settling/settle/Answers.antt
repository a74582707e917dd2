use Rattle.std.proofs.Common.{◌≡◌, ◌∙◌, ap, ◌++◌, refl, true, false, length, map, arith}
use Rattle.hand_audit.specs.Parts.{part_shares}
use Rattle.hand_audit.specs.PotNames.{fits}
use Rattle.hand_audit.specs.declared.pot_names.Source.TheVariants.{Any}
use Rattle.hand_audit.specs.Settle.{pot_lines}
use Rattle.hand_audit.proofs.lemmas.splits.SettledPots.{unfit_hand, fit_hand, each_of_fits, unknown_payments}
use Rattle.hand_audit.proofs.settling.settle.Goals as goal

pub returns-then-not-fits : goal.returns-then-not-fits
returns-then-not-fits c s t d same are =
    let no : fits c.args.layers.now c.args.all.now ≡ false = grind (arith, c.fits.ensures, c.if-not-fits.true) in
    unfit_hand s c.args.layers.now c.args.all.now _ same are no refl (c.of.ensures ∙ c.in_ok-pots.ensures.lines) c.in_ok-pots.ensures.parts (c.of-then-not-fits.ensures ∙ c.in_ok-paid.ensures ∙ unknown_payments c.unknown.result Any c.args.all.now c.unknown.ensures.checked) refl

pub settle_pots-requires-clause-each : goal.settle_pots-requires-clause-each
settle_pots-requires-clause-each c =
    let some : fits c.args.layers.now c.args.all.now ≡ true = grind (arith, c.fits.ensures, c.if-not-fits.false) in
    each_of_fits c.args.layers.now c.args.all.now some

pub returns : goal.returns
returns c s t d same are =
    let some : fits c.args.layers.now c.args.all.now ≡ true = grind (arith, c.fits.ensures, c.if-not-fits.false) in
    let made = c.in_ok-beyond.ensures.settled s t d same in
    let lines = pot_lines s (length c.args.layers.now) 0 c.args.layers.now in
    fit_hand s c.args.layers.now c.args.all.now _ same are some refl
    (c.of-2.ensures ∙ made.lines ∙ ap (λ xs. xs ++ lines) c.no_pots-pots.ensures.lines) (made.parts ∙ ap (λ xs. xs ++ map (part_shares s) lines) c.no_pots-pots.ensures.parts)
    (c.of-3.ensures ∙ c.new.ensures.items) made.beyond
