-- Accepted events keep each seat's chips.
use Rattle.std.proofs.Common.{◌≡◌, ℕ, ◌+◌, ◌<◌, ◌≤◌, List, [], ◌∷◌, refl, sym, ap, ◌∙◌, Bool, true, false, arith, subst, ◌||◌, ◌&&◌, ◌==◌, ◌^◌}
use Rattle.std.specs.Prelude.{None, if◌then◌else◌}
use Rattle.hand_events.specs.declared.events.Header.{Header}
use Rattle.hand_events.specs.declared.events.Event.{Event}
use Rattle.hand_events.specs.declared.events.Event.TheVariants.{Seat}
use Rattle.betting_replay.specs.declared.seats.Chips.{Chips}
use Rattle.betting_replay.specs.Events.{seat_of, bought, returned, ante_in, live_in, dead_in, is_seat_line}
use Rattle.betting_replay.specs.Limits.{InLimits, Affords, Fits}
use Rattle.betting_replay.specs.Counting.{chips_after, cleared_chips}
use Rattle.betting_replay.specs.Sums.{small_posted, is_later_by, stack, paid, dead}
use Rattle.betting_replay.specs.TableAfter.{table_of, point, chips_of, chips_at}
use Rattle.betting_replay.specs.Faults.{legal, seat_twice}
use Rattle.betting_replay.specs.Accepted.{IsAccepted, opening}
use Rattle.betting_replay.proofs.lemmas.steps.PassedTests.{passed, not_failed}
use Rattle.betting_replay.proofs.lemmas.chips.AffordedChips.{affords}
use Rattle.betting_replay.proofs.lemmas.seats.SeatStates.{chips_are}
use Rattle.betting_replay.proofs.lemmas.steps.NextTable.{seat_below, chips_case, cleared_where}

-- all that a seat has before it and has put in
abbrev total : Chips → ℕ
total c = c.stack + c.paid + c.dead

none_bought : (e : Event) → is_seat_line e ≡ false → bought e ≡ 0
none_bought (Seat seat units first end) h = cc
none_bought _ h = refl

neither : (a b : Bool) → (a || b) ≡ false → (a ≡ false) × (b ≡ false)
neither true b h = cc
neither false b h = (refl, h)

-- an event whose chips are there adds what its seat line gives
total_after : (big : ℕ) (posted : Bool) (e : Event) (c : Chips) → Affords big posted e c → total (chips_after big posted e c) ≡ bought e + total c
total_after big posted e c a =
    let low : ante_in e + live_in big posted c.live e + dead_in big posted e ≤ c.stack = a.stack in
    let back : returned e ≤ c.paid = a.back in
    omega (arith, low, back)

limits_after : (big : ℕ) (posted : Bool) (e : Event) (c : Chips) → InLimits c → Affords big posted e c → InLimits (chips_after big posted e c)
limits_after big posted e c h a = record {
  sum = (let t : total (chips_after big posted e c) ≡ bought e + total c = total_after big posted e c a in let room : bought e + total c < 10 ^ 15 = a.room in rw t room);
  live = (let l : c.live ≤ c.paid = h.live in omega (arith, l));
  empty = (λ no.
      let both : (is_seat_line e ≡ false) × (c.seated ≡ false) = neither (is_seat_line e) c.seated no in
      let none : bought e ≡ 0 = none_bought e both.0 in
      let before : total c ≡ 0 = h.empty both.1 in
      let t : total (chips_after big posted e c) ≡ bought e + total c = total_after big posted e c a in
      omega (arith, none, before, t));
}

-- a seat's chips are within their limits, and are together what its line gave
record IsKept (c : Chips) (given : ℕ) : Type 0 where
  limits : InLimits c
  same : total c ≡ given

cleared_kept : (later : Bool) (c : Chips) (given : ℕ) → IsKept c given → IsKept (cleared_where later cleared_chips c) given
cleared_kept true c given k = record { limits = record { sum = k.limits.sum; live = omega arith; empty = k.limits.empty }; same = k.same }
cleared_kept false c given k = k

-- the event is about the seat
here_kept : (big : ℕ) (posted : Bool) (e : Event) (c : Chips) (given : ℕ) (b : Bool) → is_seat_line e ≡ b → (is_seat_line e ≡ true → c.seated ≡ false) → IsKept c given → Affords big posted e c
    → IsKept (chips_after big posted e c) (if b then bought e else given)
here_kept big posted e c given true is free k a = record {
  limits = limits_after big posted e c k.limits a;
  same = (let none : total c ≡ 0 = k.limits.empty (free is) in let t : total (chips_after big posted e c) ≡ bought e + total c = total_after big posted e c a in omega (arith, none, t));
}
here_kept big posted e c given false is free k a = record {
  limits = limits_after big posted e c k.limits a;
  same = (let none : bought e ≡ 0 = none_bought e is in let before : total c ≡ given = k.same in let t : total (chips_after big posted e c) ≡ bought e + total c = total_after big posted e c a in omega (arith, none, before, t));
}

-- a seat line that may stand is the first of its seat
first_line : (header : Header) (players : ℕ) (h : List Event) (e : Event) → legal header players h e ≡ None → is_seat_line e ≡ true → (chips_at (table_of header players h) (seat_of e)).seated ≡ false
unfolding seat_twice
first_line header players h (Seat seat units first end) ok is = not_failed _ _ (passed (table_of header players h) (Seat seat units first end) ok).seat
first_line header players h _ ok is = cc

next_kept : (header : Header) (players : ℕ) (h : List Event) (e : Event) (p : ℕ) → Fits e → legal header players h e ≡ None → (here : Bool) → (seat_of e == p) ≡ here → IsKept (chips_of header h p) (opening h p)
    → IsKept (if here then chips_after header.big (small_posted h) e (chips_of header h p) else chips_of header h p) (if here && is_seat_line e then bought e else opening h p)
next_kept header players h e p fits ok false is k = k
next_kept header players h e p fits ok true is k =
    let same : seat_of e ≡ p = grind arith in
    let at : chips_at (table_of header players h) (seat_of e) ≡ chips_of header h (seat_of e) = chips_are header players h (point header players h) (seat_of e) (seat_below e fits.seats) in
    let at_p : chips_at (table_of header players h) (seat_of e) ≡ chips_of header h p = at ∙ ap (chips_of header h) same in
    let limits : InLimits (chips_at (table_of header players h) (seat_of e)) = subst InLimits (sym at_p) k.limits in
    let affordable : Affords header.big (small_posted h) e (chips_of header h p) = subst (λ (c : Chips). Affords header.big (small_posted h) e c) at_p (affords (table_of header players h) e fits.amounts limits ok) in
    here_kept header.big (small_posted h) e (chips_of header h p) (opening h p) (is_seat_line e) refl (λ line. sym (ap (λ c. c.seated) at_p) ∙ first_line header players h e ok line) k affordable

kept : (header : Header) (players : ℕ) (h : List Event) (p : ℕ) → IsAccepted header players h → IsKept (chips_of header h p) (opening h p)
kept header players [] p ok = record { limits = record { sum = omega arith; live = omega arith; empty = λ no. refl }; same = refl }
kept header players (e ∷ h) p ok =
    let before : IsKept (chips_of header h p) (opening h p) = kept header players h p ok.2 in
    let now : IsKept (if seat_of e == p then chips_after header.big (small_posted h) e (chips_of header h p) else chips_of header h p) (opening (e ∷ h) p) = next_kept header players h e p ok.0 ok.1 (seat_of e == p) refl before in
    subst (λ (c : Chips). IsKept c (opening (e ∷ h) p)) (sym (chips_case header h e p (is_later_by header h e) (seat_of e == p))) (cleared_kept (is_later_by header h e) _ _ now)

pub chips_stay : (header : Header) (players : ℕ) (h : List Event) (p : ℕ) → IsAccepted header players h → stack header h p + paid header h p + dead header h p ≡ opening h p
chips_stay header players h p ok = (kept header players h p ok).same
