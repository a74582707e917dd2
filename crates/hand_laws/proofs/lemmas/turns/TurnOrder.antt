-- The walk around the table finds the nearest who owes an act.
use Rattle.std.proofs.Common.{◌≡◌, ℕ, zero, suc, ◌+◌, ◌-◌, ◌<◌, ◌≤◌, ◌==◌, List, [], ◌∷◌, refl, sym, ap, ◌∙◌, Bool, true, false, arith}
use Rattle.std.specs.Prelude.{Option, Some, None, nat_lt, if◌then◌else◌}
use Rattle.std.proofs.lemmas.Bool.Decides.{nat_tests}
use mathlib.Core.Bool.{true≢false}
use Rattle.hand_events.specs.declared.events.Header.{Header}
use Rattle.hand_events.specs.declared.events.Event.{Event}
use Rattle.hand_events.specs.declared.events.Event.TheVariants.{Act}
use Rattle.hand_events.specs.declared.events.Act.{Act as Deed}
use Rattle.hand_events.specs.declared.events.Act.TheVariants.{Fold, Check, Call, Bet, Raise}
use Rattle.hand_events.specs.declared.faults.BetFault.{BetFault}
use Rattle.hand_events.specs.declared.faults.BetFault.TheVariants.{NotInHand, OutOfTurn, NothingOwed, AboveStack, AllInWord, CardTwice, TooManyCards}
use Rattle.betting_replay.specs.Accepted.{IsAccepted}
use Rattle.betting_replay.specs.Events.{seat_of, is_act}
use Rattle.betting_replay.specs.Faults.{legal, fault_at, first_fault, fault_if, fault_with, not_in_hand, out_of_turn, nothing_owed, act_amiss, amount_amiss, above_stack, all_in_word, street_early, street_order, uncalled_amiss, card_twice, post_late, seat_twice, too_many_cards}
use Rattle.betting_replay.specs.Limits.{Fits}
use Rattle.betting_replay.specs.Seats.{first_from, first_between, or_else}
use Rattle.betting_replay.specs.Sums.{last_actor, is_later_by}
use Rattle.betting_replay.specs.TableAfter.{ReplayState, table_of}
use Rattle.hand_laws.specs.TurnLaws.{way, IsBetween, IsNearest, PassesOver}
use Rattle.betting_replay.specs.Turns.{owes, owes_before, owes_before_by}
use Rattle.betting_replay.proofs.CallerLemmas.{none_from, passed}

-- the first that passes is in its range, and none before it passes
record IsFirst (test : ℕ → Bool) (p n s : ℕ) : Type 0 where
  pub low : p ≤ s
  pub high : s < p + n
  pub passes : test s ≡ true
  pub none : (q : ℕ) → p ≤ q → q < s → test q ≡ false

first_here : (test : ℕ → Bool) (p n s : ℕ) → p ≡ s → test p ≡ true → IsFirst test p (suc n) s
first_here test p n s is here = record { low = omega (arith, is); high = omega (arith, is); passes = ap test (sym is) ∙ here; none = λ q from to. absurd (let none : q < p = (let less : q < s = to in omega (arith, is, less)) in let some : p ≤ q = from in omega (arith, none, some)) }

first_is : (test : ℕ → Bool) (p n s : ℕ) → first_from test p n ≡ Some s → IsFirst test p n s
first_is test p zero s h = cc
first_is test p (suc n) s h = by (test p) refl h (first_is test (p + 1) n s)
  where
    by : (b : Bool) → test p ≡ b → (if b then Some p else first_from test (p + 1) n) ≡ Some s → (first_from test (p + 1) n ≡ Some s → IsFirst test (p + 1) n s) → IsFirst test p (suc n) s
    by true e h go = first_here test p n s (let is : p ≡ s = cc in is) e
    by false e h go =
        let rest : IsFirst test (p + 1) n s = go h in
        record { low = (let l : p + 1 ≤ s = rest.low in omega (arith, l)); high = (let l : s < p + 1 + n = rest.high in omega (arith, l)); passes = rest.passes; none = λ q low high. here q (p == q) refl low high rest }
      where
        here : (q : ℕ) (b : Bool) → (p == q) ≡ b → p ≤ q → q < s → IsFirst test (p + 1) n s → test q ≡ false
        here q true is low high rest = (let same : p ≡ q = grind arith in ap test (sym same) ∙ e)
        here q false is low high rest = rest.none q (let more : p + 1 ≤ q = grind arith in more) high

-- what a way is, where the seat is above the first and where it isn't
above_way : (from to : ℕ) → from < to → way from to ≡ to - from
above_way from to l = (let t : nat_lt from to ≡ true = grind (arith, nat_tests) in rw t refl)

around_way : (from to : ℕ) → to ≤ from → way from to ≡ 10 + to - from
around_way from to l = (let t : nat_lt from to ≡ false = grind (arith, nat_tests) in rw t refl)

split_or : (a b : Option ℕ) → or_else a b ≡ None → (a ≡ None) × (b ≡ None)
split_or None b h = (refl, h)
split_or (Some x) b h = cc

-- where the walk between two seats finds nobody, nobody who stands between passes
pub none_between : (test : ℕ → Bool) (from to : ℕ) → from ≤ 10 → 1 ≤ to → to ≤ 10 → first_between test from to ≡ None → (seat : ℕ) → IsBetween from seat to → test seat ≡ false
none_between test from to few some small h seat is = by (nat_lt from to) refl h (nat_lt from seat) refl
  where
    by : (b : Bool) → nat_lt from to ≡ b → (if b then first_from test (from + 1) (to - (from + 1)) else or_else (first_from test (from + 1) (10 - from)) (first_from test 1 (to - 1))) ≡ None
        → (c : Bool) → nat_lt from seat ≡ c → test seat ≡ false
    by true e h true d = (let up : from < to = grind (arith, nat_tests) in let over : from < seat = grind (arith, nat_tests) in
        let sooner : way from seat < way from to = is.sooner in
        none_from test (from + 1) (to - (from + 1)) seat h (omega (arith, over)) (omega (arith, over, up, sooner, above_way from seat over, above_way from to up)))
    by true e h false d = absurd (let up : from < to = grind (arith, nat_tests) in let under : seat ≤ from = grind (arith, nat_tests) in
        let sooner : way from seat < way from to = is.sooner in
        omega (arith, up, under, small, is.first, sooner, around_way from seat under, above_way from to up))
    by false e h true d = (let over : from < seat = grind (arith, nat_tests) in let last : seat ≤ 10 = is.last in
        none_from test (from + 1) (10 - from) seat (split_or _ _ h).0 (omega (arith, over)) (omega (arith, over, last)))
    by false e h false d = (let down : to ≤ from = grind (arith, nat_tests) in let under : seat ≤ from = grind (arith, nat_tests) in
        let sooner : way from seat < way from to = is.sooner in
        none_from test 1 (to - 1) seat (split_or _ _ h).1 is.first (omega (arith, down, under, few, some, sooner, around_way from seat under, around_way from to down)))

-- and whom it finds is the nearest
pub found_between : (test : ℕ → Bool) (from to : ℕ) → from ≤ 10 → 1 ≤ to → to ≤ 10 → (seat : ℕ) → first_between test from to ≡ Some seat → IsNearest test from seat to
found_between test from to few some small seat h = by (nat_lt from to) refl h
  where
    straight : (n : ℕ) → IsFirst test (from + 1) n seat → from + 1 + n ≤ 11 → way from seat < way from to → IsNearest test from seat to
    straight n is end sooner =
        let low : from + 1 ≤ seat = is.low in
        let high : seat < from + 1 + n = is.high in
        record {
          between = record { first = omega (arith, low); last = omega (arith, high, end); sooner = sooner };
          owing = is.passes;
          nobody = λ other b. before other b (nat_lt from other) refl;
        }
      where
        before : (other : ℕ) → IsBetween from other seat → (c : Bool) → nat_lt from other ≡ c → test other ≡ false
        before other b true d = (let over : from < other = grind (arith, nat_tests) in let up : from < seat = (let low : from + 1 ≤ seat = is.low in omega (arith, low)) in
            let nearer : way from other < way from seat = b.sooner in
            is.none other (omega (arith, over)) (omega (arith, nearer, over, up, above_way from other over, above_way from seat up)))
        before other b false d = absurd (let under : other ≤ from = grind (arith, nat_tests) in let up : from < seat = (let low : from + 1 ≤ seat = is.low in omega (arith, low)) in
            let nearer : way from other < way from seat = b.sooner in
            let end_of : seat < from + 1 + n = is.high in
            omega (arith, nearer, under, up, b.first, end, end_of, around_way from other under, above_way from seat up))

    by : (b : Bool) → nat_lt from to ≡ b → (if b then first_from test (from + 1) (to - (from + 1)) else or_else (first_from test (from + 1) (10 - from)) (first_from test 1 (to - 1))) ≡ Some seat → IsNearest test from seat to
    by true e h =
        let up : from < to = grind (arith, nat_tests) in
        let is : IsFirst test (from + 1) (to - (from + 1)) seat = first_is test (from + 1) (to - (from + 1)) seat h in
        let low : from + 1 ≤ seat = is.low in
        let high : seat < from + 1 + (to - (from + 1)) = is.high in
        straight (to - (from + 1)) is (omega (arith, up, small)) (omega (arith, low, high, up, above_way from seat (omega (arith, low)), above_way from to up))
    by false e h =
        let down : to ≤ from = grind (arith, nat_tests) in
        halves (first_from test (from + 1) (10 - from)) refl h
      where
        halves : (o : Option ℕ) → first_from test (from + 1) (10 - from) ≡ o → or_else o (first_from test 1 (to - 1)) ≡ Some seat → IsNearest test from seat to
        halves (Some s) is h =
            let down : to ≤ from = grind (arith, nat_tests) in
            let same : s ≡ seat = cc in
            let found : IsFirst test (from + 1) (10 - from) seat = first_is test (from + 1) (10 - from) seat (is ∙ ap (λ q. Some q) same) in
            let low : from + 1 ≤ seat = found.low in
            let high : seat < from + 1 + (10 - from) = found.high in
            straight (10 - from) found (omega (arith, few)) (omega (arith, low, high, few, some, above_way from seat (omega (arith, low)), around_way from to down))
        halves None is h =
            let down : to ≤ from = grind (arith, nat_tests) in
            let found : IsFirst test 1 (to - 1) seat = first_is test 1 (to - 1) seat h in
            let low : 1 ≤ seat = found.low in
            let high : seat < 1 + (to - 1) = found.high in
            record {
              between = record { first = low; last = omega (arith, high, small); sooner = omega (arith, low, high, few, down, around_way from seat (omega (arith, high, down)), around_way from to down) };
              owing = found.passes;
              nobody = λ other b. before other b (nat_lt from other) refl found down;
            }
          where
            before : (other : ℕ) → IsBetween from other seat → (c : Bool) → nat_lt from other ≡ c → IsFirst test 1 (to - 1) seat → to ≤ from → test other ≡ false
            before other b true d found down = (let over : from < other = grind (arith, nat_tests) in let last : other ≤ 10 = b.last in
                none_from test (from + 1) (10 - from) other is (omega (arith, over)) (omega (arith, over, last)))
            before other b false d found down =
                let under : other ≤ from = grind (arith, nat_tests) in
                let high : seat < 1 + (to - 1) = found.high in
                let nearer : way from other < way from seat = b.sooner in
                found.none other b.first (omega (arith, nearer, under, few, down, high, around_way from other under, around_way from seat (omega (arith, high, down))))

-- the last actor is a seat of the table
abbrev InTable : Option ℕ → Type 0
InTable None = Unit {0}
InTable (Some seat) = seat ≤ 10

actor_now : (header : Header) (h : List Event) (e : Event) → Fits e → InTable (last_actor header h) → InTable (if is_act e then Some (seat_of e) else last_actor header h)
actor_now header h (Act seat act all_in shown) fits before = fits.seats.1
actor_now header h _ fits before = before

actor_in : (header : Header) (players : ℕ) (h : List Event) → IsAccepted header players h → InTable (last_actor header h)
actor_in header players [] ok = tt
actor_in header players (e ∷ h) ok = by (is_later_by header h e) (actor_now header h e ok.0 (actor_in header players h ok.2))
  where
    by : (b : Bool) → InTable (if is_act e then Some (seat_of e) else last_actor header h) → InTable (if b then None else (if is_act e then Some (seat_of e) else last_actor header h))
    by true now = tt
    by false now = now

actor_small : (o : Option ℕ) (from : ℕ) → InTable o → o ≡ Some from → from ≤ 10
actor_small None from small is = cc
actor_small (Some seat) from small is = (let same : seat ≡ from = cc in omega (arith, small, same))

pub nobody_passed : (header : Header) (players : ℕ) (h : List Event) (to : ℕ) (act : Deed) (all_in : Bool) (shown : List ℕ)
    → IsAccepted header players (Act to act all_in shown ∷ h) → (from : ℕ) → last_actor header h ≡ Some from
    → (seat : ℕ) → IsBetween from seat to → owes (table_of header players h) seat ≡ false
unfolding out_of_turn
nobody_passed header players h to act all_in shown ok from last seat is =
    let t : ReplayState = table_of header players h in
    let free : fault_with OutOfTurn (owes_before t to) ≡ None = (passed t (Act to act all_in shown) ok.1).in_turn in
    none_between (owes t) from to (actor_small (last_actor header h) from (actor_in header players h ok.2) last) ok.0.seats.0 ok.0.seats.1 (nobody (last_actor header h) last (owes_before t to) refl free) seat is
  where
    nobody : (o : Option ℕ) → o ≡ Some from → (r : Option ℕ) → r ≡ owes_before_by o (owes (table_of header players h)) to → fault_with OutOfTurn r ≡ None → first_between (owes (table_of header players h)) from to ≡ None
    nobody None last r is free = cc
    nobody (Some a) last None is free = (let same : a ≡ from = cc in ap (λ q. first_between (owes (table_of header players h)) q to) (sym same) ∙ sym is)
    nobody (Some a) last (Some s) is free = cc

-- a fault says that an act is out of turn
abbrev turns : Option BetFault → Bool
turns None = false
turns (Some (OutOfTurn seat)) = true
turns (Some _) = false

calm : (b : Bool) (f : BetFault) → turns (Some f) ≡ false → turns (fault_if b f) ≡ false
calm true f h = h
calm false f h = refl

-- no other test of an act does
calm_amount : (t : ReplayState) (seat : ℕ) (act : Deed) → turns (act_amiss t seat act) ≡ false
unfolding act_amiss
calm_amount t seat Fold = refl
calm_amount t seat Check = calm _ _ refl
calm_amount t seat (Call units) = calm _ _ refl
calm_amount t seat (Bet units) = calm _ _ refl
calm_amount t seat (Raise by to) = calm _ _ refl

calm_with : (f : ℕ → BetFault) (o : Option ℕ) → ((n : ℕ) → turns (Some (f n)) ≡ false) → turns (fault_with f o) ≡ false
calm_with f None h = refl
calm_with f (Some n) h = h n

calm_if : (b c : Bool) (f : BetFault) → turns (Some f) ≡ false → turns (if b then None else fault_if c f) ≡ false
calm_if true c f h = refl
calm_if false c f h = calm c f h

abbrev AllCalm : List (Option BetFault) → Type 0
AllCalm [] = Unit {0}
AllCalm (o ∷ os) = (turns o ≡ false) × AllCalm os

calm_first : (os : List (Option BetFault)) → AllCalm os → turns (first_fault os) ≡ false
calm_first [] h = refl
calm_first (None ∷ os) h = calm_first os h.1
calm_first (Some f ∷ os) h = h.0

second_test : (a b : Option BetFault) (os : List (Option BetFault)) (seat : ℕ) → turns a ≡ false → AllCalm os → first_fault (a ∷ b ∷ os) ≡ Some (OutOfTurn seat) → b ≡ Some (OutOfTurn seat)
second_test None None os seat first rest h = absurd (true≢false (ap turns (sym h) ∙ calm_first os rest))
second_test None (Some f) os seat first rest h = h
second_test (Some f) b os seat first rest h = absurd (true≢false (ap turns (sym h) ∙ first))

turn_told : (t : ReplayState) (to : ℕ) (act : Deed) (all_in : Bool) (shown : List ℕ) (seat : ℕ) → fault_at t (Act to act all_in shown) ≡ Some (OutOfTurn seat) → fault_with OutOfTurn (owes_before t to) ≡ Some (OutOfTurn seat)
unfolding fault_at not_in_hand out_of_turn nothing_owed amount_amiss above_stack all_in_word street_early street_order uncalled_amiss card_twice post_late seat_twice too_many_cards
turn_told t to act all_in shown seat h = second_test _ _ _ seat (calm _ NotInHand refl)
    (calm _ NothingOwed refl, (calm_amount t to act, (calm _ (AboveStack _) refl, (calm _ AllInWord refl, (refl, (refl, (refl, (calm_with CardTwice _ (λ n. refl), (refl, (refl, (calm_if _ _ (TooManyCards _) refl, tt))))))))))) h

pub passes_over : (header : Header) (players : ℕ) (h : List Event) (to : ℕ) (act : Deed) (all_in : Bool) (shown : List ℕ)
    → IsAccepted header players h → Fits (Act to act all_in shown) → (seat : ℕ) → legal header players h (Act to act all_in shown) ≡ Some (OutOfTurn seat)
    → PassesOver header players h seat to
passes_over header players h to act all_in shown ok fits seat refused =
    found (last_actor header h) refl (owes_before (table_of header players h) to) refl (turn_told (table_of header players h) to act all_in shown seat refused)
  where
    found : (o : Option ℕ) → last_actor header h ≡ o → (r : Option ℕ) → r ≡ owes_before_by o (owes (table_of header players h)) to → fault_with OutOfTurn r ≡ Some (OutOfTurn seat) → PassesOver header players h seat to
    found o last None is told = cc
    found None last (Some s) is told = cc
    found (Some from) last (Some s) is told = (let same : s ≡ seat = cc in record {
      from = from;
      acted = last;
      nearest = found_between (owes (table_of header players h)) from to (actor_small (last_actor header h) from (actor_in header players h ok) last) fits.seats.0 fits.seats.1 seat (sym is ∙ ap (λ q. Some q) same);
    })
