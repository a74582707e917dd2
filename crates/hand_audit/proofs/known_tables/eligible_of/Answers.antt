use Rattle.std.proofs.Common.{◌∙◌, ap, set}
use Rattle.card_sets.specs.PlayerSets.{seats_in}
use Rattle.hand_audit.specs.KnownTables.{places_in}
use Rattle.hand_verdict.specs.declared.settlement.PotLine.{PotLine}
use Rattle.hand_audit.proofs.lemmas.seats.TenPlaces.{ten_none, fill_next}
use Rattle.hand_audit.proofs.known_tables.eligible_of.Goals as goal

pub loop-number-init : goal.loop-number-init
loop-number-init c = ten_none 0

pub loop-number-preserved : goal.loop-number-preserved
loop-number-preserved c =
    ap (λ x. set c.loop-number.all c.loop-number.number x) (c.bits.ensures ∙ c.places_in.ensures ∙ ap (places_in (seats_in c.args.seats)) c.of.ensures)
    ∙ ap (λ (pot : PotLine). set c.loop-number.all c.loop-number.number (places_in (seats_in c.args.seats) pot.eligible)) c.index-pots-number.is
    ∙ fill_next 0 (λ (pot : PotLine). places_in (seats_in c.args.seats) pot.eligible) c.args.pots.now c.loop-number.number c.index-pots-number.result c.loop-number.all c.requires c.loop-number-test.true c.loop-number.invariant
