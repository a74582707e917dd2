-- The last draw by the events before its street began, and by those since.
use Rattle.std.proofs.Common.{◌≡◌, ℕ, List, [], ◌∷◌, ◌++◌, refl, ap, ◌∙◌, Bool, true, false, not, ◌||◌, ◌&&◌, ◌==◌}
use Rattle.std.specs.Prelude.{if◌then◌else◌}
use Rattle.card_sets.specs.Cards.{union}
use Rattle.hand_events.specs.declared.events.Header.{Header}
use Rattle.hand_events.specs.declared.events.Event.{Event}
use Rattle.betting_replay.specs.Dealing.{gathered, marked, hides, stands_pat, discards_five, is_late, held_before, thrown_late, marked_before, marked_late}
use Rattle.betting_replay.specs.Events.{seat_of}
use Rattle.betting_replay.specs.Hands.{held, held_after}
use Rattle.hand_laws.specs.LastDrawLaws.{TellsLastDraw}
use Rattle.betting_replay.specs.Places.{thrown_by}
use Rattle.betting_replay.specs.Sums.{last_begun}
use Rattle.std.proofs.lemmas.Bool.{or_right}

-- before the last street begins all that is told is of the events so far
not_either : (a b : Bool) → (a || b) ≡ false → b ≡ false
not_either true b e = cc
not_either false b e = e

early_held : (g : Header) (h : List Event) (p : ℕ) → last_begun g h ≡ false → held_before g h p ≡ held h p
early_held g [] p early = refl
early_held g (e ∷ h) p early = by (seat_of e == p) (is_late g h e) early (early_held g h p (not_either _ _ early))
  where
    by : (b late : Bool) → late ≡ false → held_before g h p ≡ held h p → (if b && not late then held_after e (held_before g h p) else held_before g h p) ≡ (if b then held_after e (held h p) else held h p)
    by true false is same = ap (held_after e) same
    by true true is same = cc
    by false late is same = same

early_marked : (test : Event → Bool) (g : Header) (h : List Event) (p : ℕ) → last_begun g h ≡ false → marked_before test g h p ≡ marked test h p
early_marked test g [] p early = refl
early_marked test g (e ∷ h) p early = by (seat_of e == p) (is_late g h e) (test e) early (early_marked test g h p (not_either _ _ early))
  where
    by : (b late y : Bool) → late ≡ false → marked_before test g h p ≡ marked test h p → ((b && not late && y) || marked_before test g h p) ≡ ((b && y) || marked test h p)
    by true false y is same = ap (λ m. y || m) same
    by true true y is same = cc
    by false late y is same = same

early_none : (test : Event → Bool) (g : Header) (h : List Event) (p : ℕ) → last_begun g h ≡ false → marked_late test g h p ≡ false
early_none test g [] p early = refl
early_none test g (e ∷ h) p early = by (seat_of e == p) (is_late g h e) (test e) early (early_none test g h p (not_either _ _ early))
  where
    by : (b late y : Bool) → late ≡ false → marked_late test g h p ≡ false → ((b && late && y) || marked_late test g h p) ≡ false
    by true false y is none = none
    by true true y is none = cc
    by false late y is none = none

early_thrown : (g : Header) (h : List Event) (p : ℕ) → last_begun g h ≡ false → thrown_late g h p ≡ []
early_thrown g [] p early = refl
early_thrown g (e ∷ h) p early = by (seat_of e == p) (is_late g h e) early (early_thrown g h p (not_either _ _ early))
  where
    by : (b late : Bool) → late ≡ false → thrown_late g h p ≡ [] → (if b && late then union (thrown_late g h p) (thrown_by e) else thrown_late g h p) ≡ []
    by true false is none = none
    by true true is none = cc
    by false late is none = none

-- from then on what was held then stays, and what comes is of the events since
late_held : (g : Header) (e : Event) (h : List Event) (p : ℕ) → is_late g h e ≡ true → held_before g (e ∷ h) p ≡ held_before g h p
late_held g e h p late = by (seat_of e == p) (is_late g h e) late
  where
    by : (b late : Bool) → late ≡ true → (if b && not late then held_after e (held_before g h p) else held_before g h p) ≡ held_before g h p
    by true true is = refl
    by true false is = cc
    by false late is = refl

late_before : (test : Event → Bool) (g : Header) (e : Event) (h : List Event) (p : ℕ) → is_late g h e ≡ true → marked_before test g (e ∷ h) p ≡ marked_before test g h p
late_before test g e h p late = by (seat_of e == p) (is_late g h e) (test e) late
  where
    by : (b late y : Bool) → late ≡ true → ((b && not late && y) || marked_before test g h p) ≡ marked_before test g h p
    by true true y is = refl
    by true false y is = cc
    by false late y is = refl

late_marked : (test : Event → Bool) (g : Header) (e : Event) (h since : List Event) (p : ℕ) → is_late g h e ≡ true → marked_late test g h p ≡ marked test since p → marked_late test g (e ∷ h) p ≡ marked test (e ∷ since) p
late_marked test g e h since p late same = by (seat_of e == p) (is_late g h e) (test e) late
  where
    by : (b late y : Bool) → late ≡ true → ((b && late && y) || marked_late test g h p) ≡ ((b && y) || marked test since p)
    by true true y is = ap (λ m. y || m) same
    by true false y is = cc
    by false late y is = same

late_thrown : (g : Header) (e : Event) (h since : List Event) (p : ℕ) → is_late g h e ≡ true → thrown_late g h p ≡ gathered thrown_by since p → thrown_late g (e ∷ h) p ≡ gathered thrown_by (e ∷ since) p
late_thrown g e h since p late same = by (seat_of e == p) (is_late g h e) late
  where
    by : (b late : Bool) → late ≡ true → (if b && late then union (thrown_late g h p) (thrown_by e) else thrown_late g h p) ≡ (if b then union (gathered thrown_by since p) (thrown_by e) else gathered thrown_by since p)
    by true true is = ap (λ cards. union cards (thrown_by e)) same
    by true false is = cc
    by false late is = same

all_late : (g : Header) (later : List Event) (e : Event) (before : List Event) → last_begun g (e ∷ before) ≡ true → last_begun g (later ++ e ∷ before) ≡ true
all_late g [] e before begun = begun
all_late g (x ∷ later) e before begun = or_right _ _ (all_late g later e before begun)

pub tells : (g : Header) (later : List Event) (e : Event) (before : List Event) (p : ℕ) → last_begun g before ≡ false → last_begun g (e ∷ before) ≡ true → TellsLastDraw g (later ++ e ∷ before) (later ++ e ∷ []) before p
tells g [] e before p early begun = record {
  held_then = late_held g e before p begun ∙ early_held g before p early;
  hidden_then = late_before hides g e before p begun ∙ early_marked hides g before p early;
  thrown_since = late_thrown g e before [] p begun (early_thrown g before p early);
  hidden_since = late_marked hides g e before [] p begun (early_none hides g before p early);
  pat_since = late_marked stands_pat g e before [] p begun (early_none stands_pat g before p early);
  five_since = late_marked discards_five g e before [] p begun (early_none discards_five g before p early);
}
tells g (x ∷ later) e before p early begun =
    let told = tells g later e before p early begun in
    let late : last_begun g (x ∷ (later ++ e ∷ before)) ≡ true = all_late g (x ∷ later) e before begun in
    record {
      held_then = late_held g x (later ++ e ∷ before) p late ∙ told.held_then;
      hidden_then = late_before hides g x (later ++ e ∷ before) p late ∙ told.hidden_then;
      thrown_since = late_thrown g x (later ++ e ∷ before) (later ++ e ∷ []) p late told.thrown_since;
      hidden_since = late_marked hides g x (later ++ e ∷ before) (later ++ e ∷ []) p late told.hidden_since;
      pat_since = late_marked stands_pat g x (later ++ e ∷ before) (later ++ e ∷ []) p late told.pat_since;
      five_since = late_marked discards_five g x (later ++ e ∷ before) (later ++ e ∷ []) p late told.five_since;
    }
