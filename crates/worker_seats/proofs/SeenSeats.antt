-- What all seats together are seen as, at the start and after the work.
use Rattle.std.proofs.Common.{◌≡◌, ◌+◌, ◌<◌, ◌≤◌, ℕ, Bool, true, false, List, [], ◌∷◌, length, get_or, map, replicate, sym, refl, ap, ◌∙◌, arith}
use Rattle.std.specs.List.{sum_by, list_any, range_with_len}
use Rattle.std.proofs.lemmas.Bool.{true≢false}
use Rattle.std.proofs.lemmas.List.FromFn.{get_or-range_with_len, length-range_with_len}
use Rattle.std.proofs.lemmas.List.Sums.{sum_by-append, sum_by-cons}
use Rattle.tally_book.specs.Parts.{Hand, is_handed}
use Rattle.worker_seats.specs.Claims.{one_at, times}
use Rattle.worker_seats.specs.Lanes.{blocks_to, is_in}
use Rattle.worker_seats.specs.Joined.{notes_of, pushed_at, HasTold, HasShared, IsStarted}
use Rattle.worker_seats.specs.Starting.{IsSeating}
use Rattle.worker_seats.specs.Sittings.{pushed_on, taken_by, has_ended, hand_of, IsFreshSitting, IsShared, ends_of, sitting_of, IsSitting}
use Rattle.worker_seats.specs.declared.lanes.Lane.{Lane}
use Rattle.worker_seats.specs.declared.seat.Seat.{Seat}
use Rattle.worker_seats.proofs.JoinedPasses.{get_or-map_at, same_parts}
use Rattle.worker_seats.proofs.LaneFacts.{marks_none}
use Rattle.worker_seats.proofs.MadeSeats.{seating_done}
use Rattle.worker_seats.proofs.ToldPasses.{told_lanes}

member : {X : Type 0} (xs : List X) → 0 < length xs → X
member [] none = absurd (omega arith)
member (x ∷ xs) some = x

pub sum_map : {X Y : Type 0} (f : Y → ℕ) (g : X → Y) (xs : List X) → sum_by f (map g xs) ≡ sum_by (λ x. f (g x)) xs
sum_map f g [] = refl
sum_map f g (x ∷ xs) = let ih = sum_map f g xs in omega (arith, sum_by-cons f (g x) (map g xs), sum_by-cons (λ y. f (g y)) x xs)

module _ {N C : Type 0} where
  pub seen_taken : (worked : Bool) (seats : List (Seat N C)) (w d : ℕ) (x : Seat N C) (y : Lane N) → w < length seats → d < length (get_or seats w x).lanes.items → taken_by (sitting_of worked seats) w d ≡ (get_or (get_or seats w x).lanes.items d y).taken.items
  seen_taken worked seats w d x y low at =
      ap (λ l. get_or l d []) (get_or-map_at notes_of seats w x [] low) ∙ get_or-map_at (λ (l : Lane N). l.taken.items) (get_or seats w x).lanes.items d y [] at

  pub seen_ended : (worked : Bool) (seats : List (Seat N C)) (w d : ℕ) (x : Seat N C) (y : Lane N) → w < length seats → d < length (get_or seats w x).lanes.items → has_ended (sitting_of worked seats) w d ≡ (get_or (get_or seats w x).lanes.items d y).ended
  seen_ended worked seats w d x y low at =
      ap (λ l. get_or l d false) (get_or-map_at ends_of seats w x [] low) ∙ get_or-map_at (λ (l : Lane N). l.ended) (get_or seats w x).lanes.items d y false at

  seen_pushed : (worked : Bool) (seats : List (Seat N C)) (d : ℕ) → d < length seats → pushed_on (sitting_of worked seats) d ≡ pushed_at seats d
  seen_pushed worked seats d low =
      let z : 0 + d ≡ d = omega arith in
      get_or-map_at (pushed_at seats) (range_with_len 0 (length seats)) d 0 [] (let n = length-range_with_len 0 (length seats) in omega arith)
      ∙ ap (pushed_at seats) (get_or-range_with_len 0 (length seats) d 0 low ∙ z)

  seen_hand : (worked : Bool) (seats : List (Seat N C)) (w : ℕ) (x : Seat N C) → w < length seats → hand_of (sitting_of worked seats) w ≡ (get_or seats w x).desk.part
  seen_hand worked seats w x low = get_or-map_at (λ (s : Seat N C). s.desk.part) seats w x (record { parts = 0; amount = 0; words = [] }) low

  told_started : (workers blocks d : ℕ) (seats : List (Seat N C)) → IsStarted workers blocks seats → d < workers → HasTold workers blocks d seats
  told_started workers blocks d seats started low =
      let x : Seat N C = member seats (let c = started.count in omega arith) in
      let y : Lane N = member (get_or seats 0 x).lanes.items (let c = started.count in let f = (started.fresh 0 x (omega arith)).count in omega arith) in
      told_lanes workers blocks d seats y low started.count (λ w z at. (let f = started.fresh w z (let c = started.count in omega arith) in (f.count, f.lanes d y low)))

  -- seats that may start keep what seats keep
  pub sitting_starts : (workers blocks parts : ℕ) (seats : List (Seat N C)) (rest : Hand) → 0 < workers → workers ≤ 16 → IsStarted workers blocks seats → rest.amount ≡ 0
      → rest.parts + sum_by (λ (s : Seat N C). s.desk.part.parts) seats ≡ parts → IsSitting workers blocks parts false seats rest
  sitting_starts workers blocks parts seats rest some few started none shares = record {
    few = (some, few);
    count = started.count;
    sized = λ w x low. (started.fresh w x (let c = started.count in omega arith)).count;
    told = λ d low. told_started workers blocks d seats started low;
    started = λ _. started;
    rest = none;
    shares = shares;
  }

  pub sitting_fresh : (workers blocks : ℕ) (seats : List (Seat N C)) → 0 < workers → IsSeating workers blocks workers seats → IsFreshSitting workers blocks (sitting_of false seats)
  sitting_fresh workers blocks seats some seating =
      let started = seating_done workers blocks seats seating in
      let x : Seat N C = member seats (let c = started.count in omega arith) in
      let y : Lane N = member (get_or seats 0 x).lanes.items (let c = started.count in let f = (started.fresh 0 x (omega arith)).count in omega arith) in
      record {
        worked = refl;
        pushed = λ d low. seen_pushed false seats d (let c = started.count in omega arith) ∙ (told_started workers blocks d seats started low).pushed;
        taken = λ w d at low.
            (let f = started.fresh w x (let c = started.count in omega arith) in
            let u = f.untouched d y low in (
              seen_taken false seats w d x y (let c = started.count in omega arith) (let c = f.count in omega arith) ∙ u.taken,
              seen_ended false seats w d x y (let c = started.count in omega arith) (let c = f.count in omega arith) ∙ u.ended,
            ));
        hands = λ w at.
            (let h = seen_hand false seats w x (let c = started.count in omega arith) in (
              ap (λ (k : Hand). k.amount) (h ∙ (seating.each w x at).part),
              λ b low. ap (λ k. is_handed k b) h ∙ (started.fresh w x (let c = started.count in omega arith)).handed b low,
            ));
      }

  -- after the work
  pub sitting_worked : (workers blocks parts : ℕ) (old new : List (Seat N C)) (rest : Hand) → IsSitting workers blocks parts false old rest → HasShared workers blocks old new
      → ((w : ℕ) (x : Seat N C) → w < workers → length (get_or new w x).lanes.items ≡ workers) → ((d : ℕ) → d < workers → HasTold workers blocks d new) → IsSitting workers blocks parts true new rest
  sitting_worked workers blocks parts old new rest before shared sized told = record {
    few = before.few;
    count = shared.count;
    sized = sized;
    told = told;
    started = λ e. absurd (true≢false e);
    rest = before.rest;
    shares = (let s = same_parts workers blocks old new before.count shared in let p = before.shares in omega arith);
  }

  pub sitting_shared : (workers blocks parts : ℕ) (old new : List (Seat N C)) (rest : Hand) → IsSitting workers blocks parts false old rest → HasShared workers blocks old new
      → ((w : ℕ) (x : Seat N C) → w < workers → length (get_or new w x).lanes.items ≡ workers) → ((d : ℕ) → d < workers → HasTold workers blocks d new) → IsShared workers blocks (sitting_of false old) (sitting_of true new)
  sitting_shared workers blocks parts old new rest before shared sized told =
      let x : Seat N C = member new (let c = shared.count in let f = before.few in omega arith) in
      let y : Lane N = member (get_or new 0 x).lanes.items (let s = sized 0 x before.few.0 in let f = before.few in omega arith) in
      record {
        worked = refl;
        pushed = λ d low. seen_pushed true new d (let c = shared.count in omega arith) ∙ (told d low).pushed ∙ sym (seen_pushed false old d (let c = before.count in omega arith) ∙ (before.told d low).pushed);
        once = λ d b low below.
            (let a = shared.all d low (one_at b) in
            let m = sum_map (λ (l : List (List ℕ)). times b (get_or l d [])) notes_of new in
            let p = ap (times b) (seen_pushed true new d (let c = shared.count in omega arith) ∙ (told d low).pushed) in
            let q = sum_by-append (one_at b) (blocks_to workers blocks d) (replicate workers blocks) in
            let r = marks_none b blocks workers (λ e. absurd (omega arith)) in
            omega arith);
        weighed = λ d weight low. sum_map (λ (l : List (List ℕ)). sum_by weight (get_or l d [])) notes_of new ∙ shared.all d low weight;
        ended = λ w d at low. seen_ended true new w d x y (let c = shared.count in omega arith) (let s = sized w x at in omega arith) ∙ shared.ended w d x y at low;
        handed = λ w b at low. ap (λ k. is_handed k b) (seen_hand true new w x (let c = shared.count in omega arith)) ∙ shared.handed w b x at low
            ∙ ap (list_any (λ taken. is_in b taken)) (sym (get_or-map_at notes_of new w x [] (let c = shared.count in omega arith)));
      }
