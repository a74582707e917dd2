use Rattle.std.proofs.Common.{◌∙◌, sym, subst, refl, ap}
use Rattle.std.specs.Prelude.{Result}
use Rattle.hand_events.specs.declared.events.Event.{Event}
use Rattle.hand_events.specs.declared.events.TextFault.{TextFault}
use Rattle.hand_audit.specs.Keeping.{IsRead}
use Rattle.hand_audit.specs.Lines.{seat_at}
use Rattle.hand_audit.specs.Passing.{with_read}
use Rattle.hand_audit.proofs.lemmas.first_pass.PassSteps.{took_again, took_fault, took_event}
use Rattle.hand_audit.proofs.first_pass.PlayerScan.take.Goals as goal

pub seat_name-requires : goal.seat_name-requires
seat_name-requires c = (subst (IsRead c.args.self.now.names c.args.header.now c.args.self.now.part c.args.line.now) c.in-Ok.is c.read-said.ensures).name

pub with_player_of-self-requires : goal.with_player_of-self-requires
with_player_of-self-requires c = (subst (IsRead c.args.self.now.names c.args.header.now c.args.self.now.part c.args.line.now) c.in-Ok.is c.read-said.ensures).is.fits

pub returns-then-is_again : goal.returns-then-is_again
returns-then-is_again c = record {
  took = λ so_far seats k. took_again c.args.self.now c.args.header.now so_far seats c.args.line.now k
      (sym (c.is_again.ensures seats (seat_at c.args.self.now.part c.args.line.now) c.seat_at-seat.ensures k.seats) ∙ c.if-is_again.true);
  notes = (refl, refl, refl);
}

pub returns-in_ok-keep_read-in-Err : goal.returns-in_ok-keep_read-in-Err
returns-in_ok-keep_read-in-Err c =
    let said = subst (IsRead c.args.self.now.names c.args.header.now c.args.self.now.part c.args.line.now) c.in-Err.is c.read-said.ensures in
    record {
      took = λ so_far seats k. took_fault c.args.self.now _ c.args.header.now so_far seats c.args.line.now _ k
          (sym (c.is_again.ensures seats (seat_at c.args.self.now.part c.args.line.now) c.seat_at-seat.ensures k.seats) ∙ c.if-is_again.false)
          (c.in_ok-note_seat.ensures seats (seat_at c.args.self.now.part c.args.line.now) c.seat_at-seat.ensures k.seats) refl refl refl (sym said.value);
      notes = record { said = _; is = said; names = refl; part = refl; reads = c.in_ok-keep_read-in-Err.ensures ∙ ap (λ (s : Result Event TextFault). with_read c.args.self.now.reads.items s) c.in-Err.is };
    }

pub returns-in_ok-keep_read-in-Ok : goal.returns-in_ok-keep_read-in-Ok
returns-in_ok-keep_read-in-Ok c =
    let said = subst (IsRead c.args.self.now.names c.args.header.now c.args.self.now.part c.args.line.now) c.in-Ok.is c.read-said.ensures in
    record {
      took = λ so_far seats k. took_event c.args.self.now _ c.args.header.now so_far seats c.args.line.now c.in-Ok.e k
          (sym (c.is_again.ensures seats (seat_at c.args.self.now.part c.args.line.now) c.seat_at-seat.ensures k.seats) ∙ c.if-is_again.false)
          (c.in_ok-note_seat.ensures seats (seat_at c.args.self.now.part c.args.line.now) c.seat_at-seat.ensures k.seats) c.in_ok-seat_name-in-Ok.ensures c.part_after-self.ensures c.with_player_of-self.ensures
          said.is.fits.seats (sym said.value);
      notes = record { said = _; is = said; names = c.in_ok-seat_name-in-Ok.ensures; part = c.part_after-self.ensures; reads = c.in_ok-keep_read-in-Ok.ensures ∙ ap (λ (s : Result Event TextFault). with_read c.args.self.now.reads.items s) c.in-Ok.is };
    }
