-- Seats are made, and ways to one deque after another are added to them.
use Rattle.std.proofs.Common.{◌≡◌, ◌≢◌, ◌+◌, ◌/◌, ◌%◌, ◌<◌, ◌≤◌, ℕ, suc, false, eqb, List, [], ◌∷◌, ◌++◌, length, length-append, length-set, get_or, set, sym, refl, ap, ◌∙◌, subst, ⊎_elim, arith}
use Rattle.std.specs.List.{sum_by}
use Rattle.std.specs.Int.{bit_at}
use Rattle.std.specs.Global.{Global}
use Rattle.std.proofs.lemmas.Bool.{cases_eq, cases_lt}
use Rattle.std.proofs.lemmas.List.{get_or_append_left, get_or-set_same, get_or-set_other, get_or-replicate}
use Rattle.std.proofs.lemmas.List.Sums.{sum_by-cons}
use Rattle.std.proofs.lemmas.Nat.Bits.{bit_at-zero}
use Rattle.std.proofs.Math.Seq.{get_or-append_seam}
use Rattle.atomic_blocks.specs.Lent.{RowsId}
use Rattle.tally_book.specs.Parts.{Hand, is_handed, no_blocks}
use Rattle.tally_book.specs.declared.limits.TheConstants.{BLOCKS_MAX, WORDS}
use Rattle.worker_seats.specs.Claims.{claim}
use Rattle.worker_seats.specs.Reaches.{claim_of, IsOwn, IsOther, IsOpen}
use Rattle.worker_seats.specs.Lanes.{IsLane, noted, pushed_to}
use Rattle.worker_seats.specs.Seating.{IsUntouched}
use Rattle.worker_seats.specs.Starting.{IsSeated, IsSeating, HasOneMore}
use Rattle.worker_seats.specs.Joined.{IsStarted}
use Rattle.worker_seats.specs.declared.claims.Claim.{Claim}
use Rattle.worker_seats.specs.declared.reaches.Reach.{Reach}
use Rattle.worker_seats.specs.declared.lanes.Lane.{Lane}
use Rattle.worker_seats.specs.declared.seat.Seat.{Seat}
use Rattle.worker_seats.proofs.JoinedPasses.{get_or_any}

-- a member at the end, and those before it
snoc_here : {X : Type 0} (xs : List X) (y d : X) (n : ℕ) → length xs ≡ n → get_or (xs ++ y ∷ []) n d ≡ y
snoc_here xs y d n is = ap (λ k. get_or (xs ++ y ∷ []) k d) (sym is) ∙ get_or-append_seam xs y [] d

-- a part in which nothing is handed
none_handed : (b : ℕ) (hand : Hand) → hand ≡ record { parts = 1; amount = 0; words = no_blocks } → b < BLOCKS_MAX → is_handed hand b ≡ false
none_handed b hand is low =
    let word : get_or no_blocks (b / 64) 0 ≡ 0 = get_or-replicate WORDS (b / 64) 0 0 (omega arith) in
    ap (λ h. is_handed h b) is ∙ ap (λ w. eqb (bit_at w (b % 64)) 1) word ∙ ap (λ n. eqb n 1) (bit_at-zero (b % 64))

module _ {N C : Type 0} where
  -- a seat has a way to this deque too, of this kind
  pub record IsDealt (workers blocks deque : ℕ) (P : Reach N → Type 0) (old new : Seat N C) : Type 0 where
    pub seated : IsSeated workers blocks (deque + 1) new
    pub before : (d : ℕ) (y : Lane N) → d < deque → get_or new.lanes.items d y ≡ get_or old.lanes.items d y
    pub way : (y : Lane N) → P (get_or new.lanes.items deque y).reach

  pub dealt_seat : (workers blocks deque room : ℕ) (P : Reach N → Type 0) (old new : Seat N C) (reach : Reach N) → IsSeated workers blocks deque old → HasOneMore old new reach room
      → IsOpen reach → claim_of reach ≡ claim 1 (pushed_to workers blocks deque) [] → length (pushed_to workers blocks deque) ≤ room → P reach → IsDealt workers blocks deque P old new
  dealt_seat workers blocks deque room P old new reach seated more opened is enough kind =
      let lane = more.lane in
      let here : (y : Lane N) → get_or new.lanes.items deque y ≡ lane = λ y. ap (λ l. get_or l deque y) more.lanes ∙ snoc_here old.lanes.items lane y deque seated.count in
      let there : (d : ℕ) (y : Lane N) → d < deque → get_or new.lanes.items d y ≡ get_or old.lanes.items d y =
      (λ d y low. ap (λ l. get_or l d y) more.lanes ∙ get_or_append_left old.lanes.items (lane ∷ []) y d (let c = seated.count in omega arith)) in
      let is_lane : IsLane workers blocks deque lane = record {
        open_way = subst IsOpen (sym more.reach) opened;
        one = ap (λ (r : Reach N). (claim_of r).stands_for) more.reach ∙ ap (λ (c : Claim). c.stands_for) is;
        pushed = ap (λ (r : Reach N). (claim_of r).pushed) more.reach ∙ ap (λ (c : Claim). c.pushed) is;
        taken = ap (λ (r : Reach N). (claim_of r).taken) more.reach ∙ ap (λ (c : Claim). c.taken) is
            ∙ sym (ap (λ t. noted blocks t lane.ended) more.untouched.taken ∙ ap (noted blocks []) more.untouched.ended);
        room = (let r = more.room in omega arith);
      } in
      let each : (Q : ℕ → Lane N → Type 0) → Q deque lane → ((d : ℕ) (y : Lane N) → d < deque → Q d (get_or old.lanes.items d y)) → (d : ℕ) (y : Lane N) → d < deque + 1 → Q d (get_or new.lanes.items d y) =
      (λ Q now was d y low. ⊎_elim (λ (l : d < deque). subst (Q d) (sym (there d y l)) (was d y l))
      (λ (h : deque ≤ d). let e : d ≡ deque = omega arith in subst (λ k. Q k (get_or new.lanes.items k y)) (sym e) (subst (Q deque) (sym (here y)) now)) (cases_lt d deque)) in
      record {
        seated = record {
          count = ap length more.lanes ∙ length-append old.lanes.items (lane ∷ []) ∙ ap (λ n. n + 1) seated.count;
          room = (let m = more.more in let r = seated.room in omega arith);
          lanes = each (λ d l. IsLane workers blocks d l) is_lane seated.lanes;
          untouched = each (λ d l. IsUntouched l) more.untouched seated.untouched;
          part = more.part ∙ seated.part;
        };
        before = there;
        way = λ y. subst (λ (l : Lane N). P l.reach) (sym (here y)) (subst P (sym more.reach) kind);
      }

  -- the seats below one have a way to this deque too, but for its owner's
  pub record IsDealing (workers blocks deque w : ℕ) (id : RowsId × Global) (old now : List (Seat N C)) : Type 0 where
    pub count : length now ≡ length old
    pub dealt : (v : ℕ) (x : Seat N C) → v < w → v < workers → v ≢ deque → IsDealt workers blocks deque (IsOther id) (get_or old v x) (get_or now v x)
    pub later : (v : ℕ) (x : Seat N C) → w ≤ v → get_or now v x ≡ get_or old v x
    pub own : (x : Seat N C) → get_or now deque x ≡ get_or old deque x

  pub dealing_starts : (workers blocks deque : ℕ) (id : RowsId × Global) (seats : List (Seat N C)) → IsDealing workers blocks deque 0 id seats seats
  dealing_starts workers blocks deque id seats = record { count = refl; dealt = λ v x low at ne. absurd (omega arith); later = λ v x high. refl; own = λ x. refl }

  -- past the owner's seat
  pub dealing_past : (workers blocks deque : ℕ) (id : RowsId × Global) (old now : List (Seat N C)) → IsDealing workers blocks deque deque id old now → IsDealing workers blocks deque (deque + 1) id old now
  dealing_past workers blocks deque id old now d = record {
    count = d.count;
    dealt = λ v x low at ne. d.dealt v x (before v deque ne low) at ne;
    later = λ v x high. d.later v x (omega arith);
    own = d.own;
  }
    where
      before : (v k : ℕ) → v ≢ k → v < k + 1 → v < k
      before v k ne low = ⊎_elim (λ (l : v < k). l) (λ (h : k ≤ v). absurd (ne (omega arith))) (cases_lt v k)

  pub dealing_more : (workers blocks deque w : ℕ) (id : RowsId × Global) (old now : List (Seat N C)) (seat seat' : Seat N C) → length old ≡ workers → IsDealing workers blocks deque w id old now → w < workers → w ≢ deque
      → seat ≡ get_or now w seat → IsDealt workers blocks deque (IsOther id) seat seat' → IsDealing workers blocks deque (w + 1) id old (set now w seat')
  dealing_more workers blocks deque w id old now seat seat' count d low ne is dealt =
      let at : w < length now = (let c = d.count in omega arith) in
      let was : (x : Seat N C) → seat ≡ get_or old w x = λ x. is ∙ get_or_any now w seat x at ∙ d.later w x (omega arith) in
      record {
        count = length-set now w seat' ∙ d.count;
        dealt = λ v x below in_range apart. ⊎_elim
            (λ (e : v ≡ w). subst (λ k. IsDealt workers blocks deque (IsOther id) (get_or old k x) (get_or (set now w seat') k x)) (sym e)
            (subst (λ s. IsDealt workers blocks deque (IsOther id) (get_or old w x) s) (sym (get_or-set_same now w seat' x at)) (subst (λ s. IsDealt workers blocks deque (IsOther id) s seat') (was x) dealt)))
            (λ (n : v ≡ w → ⊥). subst (IsDealt workers blocks deque (IsOther id) (get_or old v x)) (sym (get_or-set_other now w v seat' x n)) (d.dealt v x (before v w n below) in_range apart))
            (cases_eq v w);
        later = λ v x high. get_or-set_other now w v seat' x (λ e. absurd (omega arith)) ∙ d.later v x (omega arith);
        own = λ x. get_or-set_other now w deque seat' x (λ e. ne (sym e)) ∙ d.own x;
      }
    where
      before : (v k : ℕ) → v ≢ k → v < k + 1 → v < k
      before v k ne low = ⊎_elim (λ (l : v < k). l) (λ (h : k ≤ v). absurd (ne (omega arith))) (cases_lt v k)

  -- with the owner's way all have one
  pub dealing_ends : (workers blocks deque : ℕ) (id : RowsId × Global) (old now : List (Seat N C)) (seat seat' : Seat N C) → IsSeating workers blocks deque old → deque < workers
      → IsDealing workers blocks deque workers id old now → seat ≡ get_or now deque seat → IsDealt workers blocks deque (IsOwn id) seat seat' → IsSeating workers blocks (deque + 1) (set now deque seat')
  dealing_ends workers blocks deque id old now seat seat' seating low d is own =
      let at : deque < length now = (let c = d.count in let n = seating.count in omega arith) in
      let was : (x : Seat N C) → seat ≡ get_or old deque x = λ x. is ∙ get_or_any now deque seat x at ∙ d.own x in
      let here : (x : Seat N C) → get_or (set now deque seat') deque x ≡ seat' = λ x. get_or-set_same now deque seat' x at in
      let other : (w : ℕ) (x : Seat N C) → w < workers → w ≢ deque → IsDealt workers blocks deque (IsOther id) (get_or old w x) (get_or (set now deque seat') w x) =
      (λ w x in_range ne. subst (IsDealt workers blocks deque (IsOther id) (get_or old w x)) (sym (get_or-set_other now deque w seat' x ne)) (d.dealt w x in_range in_range ne)) in
      let before : (w k : ℕ) (x : Seat N C) (y : Lane N) → w < workers → k < deque → get_or (get_or (set now deque seat') w x).lanes.items k y ≡ get_or (get_or old w x).lanes.items k y =
      (λ w k x y in_range below. ⊎_elim
      (λ (e : w ≡ deque). subst (λ v. get_or (get_or (set now deque seat') v x).lanes.items k y ≡ get_or (get_or old v x).lanes.items k y) (sym e)
      (ap (λ (s : Seat N C). get_or s.lanes.items k y) (here x) ∙ own.before k y below ∙ ap (λ (s : Seat N C). get_or s.lanes.items k y) (was x)))
      (λ (n : w ≡ deque → ⊥). (other w x in_range n).before k y below) (cases_eq w deque)) in
      record {
        count = length-set now deque seat' ∙ d.count ∙ seating.count;
        each = λ w x in_range. ⊎_elim
            (λ (e : w ≡ deque). subst (λ v. IsSeated workers blocks (deque + 1) (get_or (set now deque seat') v x)) (sym e) (subst (IsSeated workers blocks (deque + 1)) (sym (here x)) own.seated))
            (λ (n : w ≡ deque → ⊥). (other w x in_range n).seated) (cases_eq w deque);
        ways = λ k below. ⊎_elim
            (λ (l : k < deque). (
              (seating.ways k l).0,
              λ w x y in_range. (
                (λ e. subst (λ (m : Lane N). IsOwn (seating.ways k l).0 m.reach) (sym (before w k x y in_range l)) (((seating.ways k l).1 w x y in_range).0 e)),
                (λ ne. subst (λ (m : Lane N). IsOther (seating.ways k l).0 m.reach) (sym (before w k x y in_range l)) (((seating.ways k l).1 w x y in_range).1 ne)),
              ),
            ))
            (λ (h : deque ≤ k). let e : k ≡ deque = omega arith in subst (λ j. (i : RowsId × Global) × ((w : ℕ) (x : Seat N C) (y : Lane N) → w < workers
            → (w ≡ j → IsOwn i (get_or (get_or (set now deque seat') w x).lanes.items j y).reach) × ((w ≡ j → ⊥) → IsOther i (get_or (get_or (set now deque seat') w x).lanes.items j y).reach))) (sym e) (
              id,
              λ w x y in_range. (
                (λ same. subst (λ v. IsOwn id (get_or (get_or (set now deque seat') v x).lanes.items deque y).reach) (sym same) (subst (λ (s : Seat N C). IsOwn id (get_or s.lanes.items deque y).reach) (sym (here x)) (own.way y))),
                (λ ne. (other w x in_range ne).way y),
              ),
            ))
            (cases_lt k deque);
      }

  -- before the first deque it doesn't matter how many blocks there are
  pub seating_any : (workers blocks : ℕ) (seats : List (Seat N C)) → IsSeating workers 0 0 seats → IsSeating workers blocks 0 seats
  seating_any workers blocks seats s = record {
    count = s.count;
    each = λ w x low. (let seat = s.each w x low in record { count = seat.count; room = seat.room; lanes = λ d y at. absurd (omega arith); untouched = seat.untouched; part = seat.part });
    ways = λ d low. absurd (omega arith);
  }

  -- seats with all their ways may start
  pub seating_done : (workers blocks : ℕ) (seats : List (Seat N C)) → IsSeating workers blocks workers seats → IsStarted workers blocks seats
  seating_done workers blocks seats s = record {
    count = s.count;
    fresh = λ w x low.
        (let seat = s.each w x (let c = s.count in omega arith) in
        record {
          count = seat.count;
          lanes = seat.lanes;
          untouched = seat.untouched;
          handed = λ b at. none_handed b (get_or seats w x).desk.part seat.part at;
        });
    ways = s.ways;
  }

  all_ones : (f : Seat N C → ℕ) (seats : List (Seat N C)) → ((w : ℕ) (x : Seat N C) → w < length seats → f (get_or seats w x) ≡ 1) → sum_by f seats ≡ length seats
  all_ones f [] one = refl
  all_ones f (s ∷ ss) one =
      let ih = all_ones f ss (λ w x low. one (suc w) x (omega arith)) in
      let o = one 0 s (omega arith) in
      omega (arith, sum_by-cons f s ss)

  -- a part of the ledger for each seat
  pub seating_parts : (workers blocks made : ℕ) (seats : List (Seat N C)) → IsSeating workers blocks made seats → sum_by (λ (s : Seat N C). s.desk.part.parts) seats ≡ workers
  seating_parts workers blocks made seats s =
      all_ones (λ (x : Seat N C). x.desk.part.parts) seats (λ w x low. ap (λ (h : Hand). h.parts) (s.each w x (let c = s.count in omega arith)).part) ∙ s.count

  -- one seat more at the end
  pub seats_more : (workers blocks made n : ℕ) (seats : List (Seat N C)) (seat : Seat N C) → length seats ≡ n → ((w : ℕ) (x : Seat N C) → w < n → IsSeated workers blocks made (get_or seats w x)) → IsSeated workers blocks made seat
      → (w : ℕ) (x : Seat N C) → w < n + 1 → IsSeated workers blocks made (get_or (seats ++ seat ∷ []) w x)
  seats_more workers blocks made n seats seat count each new w x low = ⊎_elim
      (λ (l : w < n). subst (IsSeated workers blocks made) (sym (get_or_append_left seats (seat ∷ []) x w (omega arith))) (each w x l))
      (λ (h : n ≤ w). let e : w ≡ n = omega arith in subst (λ k. IsSeated workers blocks made (get_or (seats ++ seat ∷ []) k x)) (sym e) (subst (IsSeated workers blocks made) (sym (snoc_here seats seat x n count)) new))
      (cases_lt w n)
