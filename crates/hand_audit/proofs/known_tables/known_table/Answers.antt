use Rattle.std.proofs.Common.{◌≡◌, ◌∙◌, List, ap, refl, false, length, arith}
use Rattle.hand_verdict.specs.declared.settlement.PotLine.{PotLine}
use Rattle.hand_audit.specs.AllIns.{bare_of}
use Rattle.hand_audit.specs.PotSeats.{eligible_of}
use Rattle.hand_audit.specs.KnownTables.{Bare, holds, table_from}
use Rattle.hand_audit.proofs.lemmas.tables.TableFacts.{is_table, no_table}
use Rattle.card_sets.specs.PlayerSets.{seats_in}
use Rattle.hand_audit.proofs.lemmas.seats.SeatSets.{few_seats}
use Rattle.hand_audit.proofs.lemmas.tables.PointTable.{same_bare}
use Rattle.hand_audit.proofs.known_tables.known_table.Goals as goal

pub holds-requires : goal.holds-requires
holds-requires c = let long : c.count-count.result ≡ length (seats_in c.args.point.now.contenders) = c.count-count.ensures.value ∙ ap length c.seats.ensures.seats in omega (arith, long, few_seats c.args.point.now.contenders)

pub returns-then-not-holds : goal.returns-then-not-holds
returns-then-not-holds c =
    let b : Bare = record { game = c.args.point.now.game; count = c.count-count.result; hands = c.hands_of-hands.result; board = c.args.point.now.board; dead = c.args.point.now.dead; pots = length c.items-pots.result.now; eligible = c.eligible_of-eligible.result } in
    let fails : holds b ≡ false = grind (arith, c.holds.ensures, c.if-not-holds.true) in
    no_table b fails ∙ ap table_from (same_bare c.args.point.now c.items-pots.result.now b refl (c.count-count.ensures.value ∙ ap length c.seats.ensures.seats) c.hands_of-hands.ensures refl refl refl c.eligible_of-eligible.ensures)
    ∙ ap (λ (ps : List PotLine). table_from (bare_of c.args.point.now (eligible_of ps))) c.items-pots.ensures.items

pub returns : goal.returns
returns c = is_table _ _ (same_bare c.args.point.now c.items-pots.result.now _ refl (c.count-count.ensures.value ∙ ap length c.seats.ensures.seats) c.hands_of-hands.ensures refl refl refl c.eligible_of-eligible.ensures)
    ∙ ap (λ (ps : List PotLine). table_from (bare_of c.args.point.now (eligible_of ps))) c.items-pots.ensures.items
