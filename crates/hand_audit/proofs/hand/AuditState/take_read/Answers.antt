use Rattle.std.proofs.Common.{◌≡◌, ◌∙◌, ◌++◌, ap, sym, subst, ◌||◌, arith}
use Rattle.std.specs.Prelude.{Ok}
use Rattle.hand_events.specs.declared.events.Event.{Event}
use Rattle.betting_replay.specs.CardLaws.{MarkerFits}
use Rattle.betting_replay.specs.Limits.{Fits}
use Rattle.betting_replay.specs.Later.{listed}
use Rattle.hand_audit.specs.Departs.{is_total}
use Rattle.hand_audit.proofs.lemmas.lines.LineSteps.{goes_text, goes_bet, goes_total, goes_on, goes_remark}
use Rattle.hand_audit.proofs.lemmas.lines.ReadOnce.{ok_of}
use Rattle.hand_audit.proofs.lemmas.lines.KeptInvariant.{sound_more}
use Rattle.hand_audit.proofs.hand.AuditState.take_read.Goals as goal
use Rattle.hand_audit.proofs.hand.AuditState.take_read.Goals.{then-is_total, else-is_total}

pub step-requires-clause-seats : goal.step-requires-clause-seats
step-requires-clause-seats c = (ok_of _ _ _ c.in-Ok.is c.requires.said.fits).seats

pub step-requires-clause-amounts : goal.step-requires-clause-amounts
step-requires-clause-amounts c = (ok_of _ _ _ c.in-Ok.is c.requires.said.fits).amounts

pub returns-in-Err : goal.returns-in-Err
returns-in-Err c = record { sound = c.requires.sound; goes = λ players so_far line k said. goes_text _ c.args.self.now c.args.header.now players so_far line c.in-Err.fault k (sym said ∙ c.in-Err.is) }

pub returns-in-Remark : goal.returns-in-Remark
returns-in-Remark c =
    record {
      sound = c.requires.sound;
      goes = λ players so_far line k said.
          goes_remark c.args.self.now c.args.header.now players so_far line k (sym said ∙ c.in-Ok.is ∙ ap (λ (e : Event). Ok e) c.in-Remark.is)
          (subst (λ (e : Event). Fits e) c.in-Remark.is (ok_of _ _ _ c.in-Ok.is c.requires.said.fits))
          (subst (λ (e : Event). MarkerFits c.args.header.now.game e) c.in-Remark.is (ok_of _ _ _ c.in-Ok.is c.requires.said.cards));
    }

pub returns-in-Err-step : goal.returns-in-Err-step
returns-in-Err-step c = record {
  sound = record { part = c.requires.sound.part; room = c.requires.sound.room };
  goes = λ players so_far line k said.
      goes_bet _ c.args.self.now c.args.header.now players so_far line c.in-Ok.e c.in-Err-step.fault k (sym said ∙ c.in-Ok.is)
      (sym (c.step.ensures.verdict c.args.header.now players so_far.events k.stands) ∙ c.in-Err-step.is);
}

pub returns-in-Some : goal.returns-in-Some
returns-in-Some c = record {
  sound = record { part = c.requires.sound.part; room = c.requires.sound.room };
  goes = λ players so_far line k said.
      goes_total _ c.args.self.now c.args.header.now players so_far line c.in-Ok.e _ c.in-Some.cause k (sym said ∙ c.in-Ok.is)
      (sym (c.step.ensures.verdict c.args.header.now players so_far.events k.stands) ∙ c.in_default-step.is) (sym c.total_cause-amiss.ensures ∙ c.in-Some.is);
}

pub returns : goal.returns
returns c =
    let total : c.if-is_total.self ≡ (is_total c.in-Ok.e || c.args.self.now.total) = elim c.if-is_total.branch [
      | then-is_total w ↦ grind (arith, w.self-is, w.if-is_total.true, c.is_total.ensures)
      | else-is_total w ↦ grind (arith, w.self-is, w.if-is_total.false, c.is_total.ensures)
    ] in
    record {
      sound = sound_more _ c.args.self.now c.in-Ok.e _ c.requires.sound (ok_of _ _ _ c.in-Ok.is c.requires.said.stands) (ok_of _ _ _ c.in-Ok.is c.requires.said.fits) (sym c.total_cause-amiss.ensures ∙ c.in_default-amiss.is)
          c.part_after-self.ensures c.in_ok-collect.ensures total;
      goes = λ players so_far line k said.
          goes_on _ c.args.self.now c.args.header.now players so_far line c.in-Ok.e _ k (sym said ∙ c.in-Ok.is)
          (sym (c.step.ensures.verdict c.args.header.now players so_far.events k.stands) ∙ c.in_default-step.is) (sym c.total_cause-amiss.ensures ∙ c.in_default-amiss.is)
          (ok_of _ _ _ c.in-Ok.is c.requires.said.fits) (ok_of _ _ _ c.in-Ok.is c.requires.said.cards) (c.in_default-step.ensures.ok c.args.header.now players so_far.events k.stands) c.part_after-self.ensures c.in_ok-collect.ensures
          (c.in_ok-note.ensures ∙ ap (λ o. c.args.self.now.streets.items ++ listed o) c.later_begun-begun.ensures) c.rake_by-self.ensures total;
    }
