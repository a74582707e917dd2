-- What each kept state has, whatever the hand, it has after a line more.
use Rattle.std.proofs.Common.{◌≡◌, ℕ, ◌+◌, ◌^◌, ◌<◌, ◌≤◌, [], ◌++◌, refl, sym, ap, ◌∙◌, subst, Bool, true, false, ◌||◌, arith, append-nil}
use Rattle.std.specs.Prelude.{None}
use Rattle.hand_events.specs.declared.events.Event.{Event}
use Rattle.hand_events.specs.declared.events.Event.TheVariants.{Button, Total, SeatCards, Remark}
use Rattle.hand_events.specs.declared.events.Part.{Part}
use Rattle.hand_events.specs.declared.events.Part.TheVariants.{Summary as SummaryPart}
use Rattle.history_text.specs.Within.{stands_in}
use Rattle.betting_replay.specs.Events.{button_after}
use Rattle.betting_replay.specs.Limits.{Fits}
use Rattle.hand_audit.specs.declared.hand.AuditState.{AuditState}
use Rattle.hand_audit.specs.Lines.{part_after}
use Rattle.hand_audit.specs.Collections.{collected_by, taken}
use Rattle.hand_audit.specs.Departs.{is_total, total_cause}
use Rattle.hand_audit.specs.Keeping.{IsSound}
use Rattle.hand_audit.proofs.lemmas.lines.AcceptedLines.{total_even, total_part, stays}

pub button_few : (e : Event) (before : ℕ) → Fits e → before ≤ 10 → button_after e before ≤ 10
button_few (Button seat) before fits few = fits.seats.1
button_few _ before fits few = few

-- an event of the summary collects nothing
none_collected : (e : Event) → stands_in SummaryPart e ≡ true → collected_by e ≡ []
none_collected (Total units rake) is = refl
none_collected (SeatCards seat cards) is = refl
none_collected Remark is = refl
none_collected _ is = cc

total_small : (e : Event) (p c : ℕ) → Fits e → is_total e ≡ true → total_cause p c e ≡ None → c < 10 ^ 15
total_small (Total units rake) p c fits is none = let small : units < 10 ^ 15 = fits.amounts.0 in let even : units ≡ c + rake = total_even p c units rake none in omega (arith, small, even)
total_small _ p c fits is none = cc

in_summary : (hand : AuditState) (e : Event) → IsSound hand → stands_in hand.part e ≡ true → (a b : Bool) → is_total e ≡ a → hand.total ≡ b → (a || b) ≡ true → hand.part ≡ SummaryPart
in_summary hand e s is true b ea eb h = total_part hand.part e is ea
in_summary hand e s is false true ea eb h = s.part eb
in_summary hand e s is false false ea eb h = cc

small_more : (hand : AuditState) (e : Event) (p : ℕ) → IsSound hand → Fits e → total_cause p (taken hand.collections.items) e ≡ None → (a b : Bool) → is_total e ≡ a → hand.total ≡ b → (a || b) ≡ true → taken hand.collections.items < 10 ^ 15
small_more hand e p s fits none true b ea eb h = total_small e p (taken hand.collections.items) fits ea none
small_more hand e p s fits none false true ea eb h = s.room eb
small_more hand e p s fits none false false ea eb h = cc

pub sound_more : (new hand : AuditState) (e : Event) (p : ℕ) → IsSound hand → stands_in hand.part e ≡ true → Fits e → total_cause p (taken hand.collections.items) e ≡ None
    → new.part ≡ part_after e hand.part → new.collections.items ≡ hand.collections.items ++ collected_by e → new.total ≡ (is_total e || hand.total) → IsSound new
sound_more new hand e p s is fits none part' all' total' = record {
  part = λ some.
      let summary : hand.part ≡ SummaryPart = in_summary hand e s is (is_total e) hand.total refl refl (sym total' ∙ some) in
      let kind : stands_in SummaryPart e ≡ true = subst (λ (q : Part). stands_in q e ≡ true) summary is in part' ∙ ap (part_after e) summary ∙ stays e kind;
  room = λ some.
      let summary : hand.part ≡ SummaryPart = in_summary hand e s is (is_total e) hand.total refl refl (sym total' ∙ some) in
      let kind : stands_in SummaryPart e ≡ true = subst (λ (q : Part). stands_in q e ≡ true) summary is in
      let same : new.collections.items ≡ hand.collections.items = all' ∙ ap (λ xs. hand.collections.items ++ xs) (none_collected e kind) ∙ append-nil hand.collections.items in
      let small : taken hand.collections.items < 10 ^ 15 = small_more hand e p s fits none (is_total e) hand.total refl refl (sym total' ∙ some) in
      rw same small;
}
