-- The passes of a deque are joined, one seat after another.
use Rattle.std.proofs.Common.{◌≡◌, ◌≢◌, ◌+◌, ◌-◌, ◌*◌, ◌<◌, ◌≤◌, ℕ, zero, suc, Bool, true, false, cond, ltb, ◌||◌, List, [], ◌∷◌, ◌++◌, length, length-set, get_or, set, take, map, replicate, sym, refl, ap, ◌∙◌, subst, ⊎_elim, arith}
use Rattle.std.specs.List.{sum_by, list_any}
use Rattle.tally_book.specs.Parts.{Hand, is_handed}
use Rattle.worker_seats.specs.Seating.{AllHaveWorked}
use Rattle.std.specs.Global.{Global}
use Rattle.std.proofs.lemmas.Bool.{cases_eq, cases_lt, lt-ltb, le-ltb}
use Rattle.std.proofs.lemmas.List.{get_or-set_same, get_or-set_other, take_all}
use Rattle.std.proofs.lemmas.List.Sums.{sum_by-append, sum_by-cons, sum_by_more}
use Rattle.atomic_blocks.specs.Lent.{RowsId}
use Rattle.crossbeam_deque.specs.Handles.{IsPassOf}
use Rattle.worker_seats.specs.Claims.{claim, Knows, one_at}
use Rattle.worker_seats.specs.Reaches.{claim_of, IsOwn, IsOther, IsOpen}
use Rattle.worker_seats.specs.Lanes.{IsLane, is_in, noted, pushed_to, blocks_to}
use Rattle.worker_seats.specs.Joined.{notes_of, taken_at, left_of, IsOut, IsReady, IsJoinable, SameBeside, SameNotes, HasAll, ShowsSame, IsStarted, HasShared, MayJoin, joined_claim}
use Rattle.worker_seats.proofs.LaneFacts.{at_same}
use Rattle.worker_seats.proofs.EmptyDeques.{settled}
use Rattle.worker_seats.specs.declared.claims.Claim.{Claim}
use Rattle.worker_seats.specs.declared.claims.OneDeque.{OneDeque}
use Rattle.crossbeam_deque.specs.declared.handles.Worker.{Worker}
use Rattle.worker_seats.specs.declared.reaches.Reach.{Reach}
use Rattle.worker_seats.specs.declared.reaches.Reach.TheVariants.{Own, Other, Left}
use Rattle.worker_seats.specs.declared.lanes.Lane.{Lane}
use Rattle.worker_seats.specs.declared.seat.Seat.{Seat}

map_set : {X Y : Type 0} (f : X → Y) (xs : List X) (i : ℕ) (y : X) → map f (set xs i y) ≡ set (map f xs) i (f y)
map_set f [] i y = refl
map_set f (x ∷ xs) zero y = refl
map_set f (x ∷ xs) (suc i) y = ap (λ l. f x ∷ l) (map_set f xs i y)

set_same : {X : Type 0} (xs : List X) (i : ℕ) (d : X) → set xs i (get_or xs i d) ≡ xs
set_same [] i d = refl
set_same (x ∷ xs) zero d = refl
set_same (x ∷ xs) (suc i) d = ap (λ l. x ∷ l) (set_same xs i d)

pub get_or-map_at : {X Y : Type 0} (f : X → Y) (xs : List X) (i : ℕ) (x : X) (y : Y) → i < length xs → get_or (map f xs) i y ≡ f (get_or xs i x)
get_or-map_at f [] i x y low = absurd (omega arith)
get_or-map_at f (z ∷ zs) zero x y low = refl
get_or-map_at f (z ∷ zs) (suc i) x y low = get_or-map_at f zs i x y (omega arith)

pub get_or_any : {X : Type 0} (xs : List X) (k : ℕ) (x y : X) → k < length xs → get_or xs k x ≡ get_or xs k y
get_or_any [] k x y at = absurd (omega arith)
get_or_any (z ∷ zs) zero x y at = refl
get_or_any (z ∷ zs) (suc k) x y at = get_or_any zs k x y (omega arith)

pub set_map_same : {X Y : Type 0} (f : X → Y) (xs : List X) (i : ℕ) (x y : X) → i < length xs → f y ≡ f (get_or xs i x) → map f (set xs i y) ≡ map f xs
set_map_same f [] i x y low is = absurd (omega arith)
set_map_same f (z ∷ zs) zero x y low is = ap (λ t. t ∷ map f zs) is
set_map_same f (z ∷ zs) (suc i) x y low is = ap (λ l. f z ∷ l) (set_map_same f zs i x y (omega arith) is)

sum_plus : {X : Type 0} (f : X → ℕ) (c : ℕ) (xs : List X) → sum_by (λ x. f x + c) xs ≡ sum_by f xs + length xs * c
sum_plus f c [] = omega arith
sum_plus f c (x ∷ xs) = let ih = sum_plus f c xs in omega (arith, sum_by-cons (λ y. f y + c) x xs, sum_by-cons f x xs)

step_none : (deque k : ℕ) → deque ≢ k → ltb deque (k + 1) ≡ ltb deque k
step_none d k ne = ⊎_elim (λ (low : d < k). rw (lt-ltb d k low, lt-ltb d (k + 1) (omega arith)) refl) (λ (high : k ≤ d). rw (le-ltb d k high, le-ltb d (k + 1) (apart d k ne high)) refl) (cases_lt d k)
  where
    apart : (d k : ℕ) → d ≢ k → k ≤ d → k + 1 ≤ d
    apart d k ne high = ⊎_elim (λ (low : d < k + 1). absurd (ne (omega arith))) (λ (h : k + 1 ≤ d). h) (cases_lt d (k + 1))

pub first : {X : Type 0} (xs : List X) → 0 < length xs → X
first [] low = absurd (omega arith)
first (x ∷ xs) low = x

any_map : {X Y : Type 0} (p : Y → Bool) (f : X → Y) (xs : List X) → list_any (λ x. p (f x)) xs ≡ list_any p (map f xs)
any_map p f [] = refl
any_map p f (x ∷ xs) = ap (λ t. p (f x) || t) (any_map p f xs)

module _ {N : Type 0} where
  -- a pass that may be joined
  pub may_join : (id : RowsId × Global) (r : Reach N) → IsOther id r → IsOpen r → MayJoin id r
  may_join id (Own owner) other way = absurd other
  may_join id (Other thief pass) other way = subst (λ i. IsPassOf i pass) other way.0
  may_join id Left other way = absurd other

  joined_other : (id : RowsId × Global) (v : Claim) (r : Reach N) → IsOther id r → joined_claim v r ≡ claim (v.stands_for + (claim_of r).stands_for) v.pushed (v.taken ++ (claim_of r).taken)
  joined_other id v (Own owner) other = absurd other
  joined_other id v (Other thief pass) other = refl
  joined_other id v Left other = absurd other

  joined_left : (id : RowsId × Global) (v : Claim) (r : Reach N) → r ≡ Left → (joined_claim v r ≡ v) × MayJoin id r
  joined_left id v r is = subst (λ (s : Reach N). (joined_claim v s ≡ v) × MayJoin id s) (sym is) (refl, tt)

  pub not_own : (id : RowsId × Global) (r : Reach N) → IsOwn id r → ((owner : Worker ℕ Global Claim (OneDeque N)) → r ≡ Own owner → ⊥) → ⊥
  not_own id (Own owner) own no_owner = no_owner owner refl
  not_own id (Other thief pass) own no_owner = own
  not_own id Left own no_owner = own

module _ {N C : Type 0} where
  -- the weight of what a seat noted of a deque, with its end mark
  abbrev pub noted_weight : (h : ℕ → ℕ) (blocks deque : ℕ) → Seat N C → ℕ
  noted_weight h blocks deque seat = sum_by h (taken_at deque seat) + h blocks

  -- the seats below k are joined, and that of the deque itself
  pub record IsJoining (workers blocks deque : ℕ) (id : RowsId × Global) (k : ℕ) (old now : List (Seat N C)) (view : Claim) : Type 0 where
    pub count : length now ≡ length old
    pub notes : (w : ℕ) (x : Seat N C) → w < length old → notes_of (get_or now w x) ≡ notes_of (get_or old w x)
    pub beside : (w : ℕ) (x : Seat N C) → w < length old → SameBeside deque (get_or old w x) (get_or now w x)
    pub sized : (w : ℕ) (x : Seat N C) → w < length old → length (get_or now w x).lanes.items ≡ workers
    pub waiting : (w : ℕ) (x : Seat N C) → k ≤ w → w < length old → w ≢ deque → IsReady workers blocks deque id w (get_or now w x)
    pub gone : (x : Seat N C) (y : Lane N) → (get_or (get_or now deque x).lanes.items deque y).reach ≡ Left
    pub left : (w : ℕ) (x : Seat N C) (y : Lane N) → w < k → w < length old → (get_or (get_or now w x).lanes.items deque y).reach ≡ Left
    pub pushed : view.pushed ≡ pushed_to workers blocks deque
    pub stands : view.stands_for + cond (ltb deque k) 1 0 ≡ 1 + k
    pub taken : (h : ℕ → ℕ) (x : Seat N C) → sum_by h view.taken + cond (ltb deque k) (noted_weight h blocks deque (get_or old deque x)) 0
        ≡ noted_weight h blocks deque (get_or old deque x) + sum_by (noted_weight h blocks deque) (take k old)

  -- taking a way out keeps the notes
  out_notes : (deque : ℕ) (old new : Seat N C) (way : Reach N) (x : Lane N) → deque < length old.lanes.items → IsOut deque old new way → notes_of new ≡ notes_of old
  out_notes deque old new way x low out = ap (map (λ (l : Lane N). l.taken.items)) (out.lanes x) ∙ set_map_same (λ (l : Lane N). l.taken.items) old.lanes.items deque x (left_of (get_or old.lanes.items deque x)) low refl

  out_beside : (deque : ℕ) (old new : Seat N C) (way : Reach N) (x : Lane N) → deque < length old.lanes.items → IsOut deque old new way → SameBeside deque old new
  out_beside deque old new way x low out = record {
    count = ap length (out.lanes x) ∙ length-set old.lanes.items deque (left_of (get_or old.lanes.items deque x));
    lanes = λ e y ne. ap (λ l. get_or l e y) (out.lanes y) ∙ get_or-set_other old.lanes.items deque e (left_of (get_or old.lanes.items deque y)) y ne;
    ended = λ e y. ⊎_elim
        (λ (s : e ≡ deque). ap (λ l. (get_or l e y).ended) (out.lanes y) ∙ ap (λ i. (get_or (set old.lanes.items deque (left_of (get_or old.lanes.items deque y))) i y).ended) s
        ∙ ap (λ (l : Lane N). l.ended) (get_or-set_same old.lanes.items deque (left_of (get_or old.lanes.items deque y)) y low) ∙ ap (λ i. (get_or old.lanes.items i y).ended) (sym s))
        (λ (ne : e ≡ deque → ⊥). ap (λ (l : Lane N). l.ended) (ap (λ l. get_or l e y) (out.lanes y) ∙ get_or-set_other old.lanes.items deque e (left_of (get_or old.lanes.items deque y)) y ne)) (cases_eq e deque);
    part = out.part;
  }

  pub beside_on : (deque : ℕ) (a b c : Seat N C) → SameBeside deque a b → SameBeside deque b c → SameBeside deque a c
  beside_on deque a b c one two = record {
    count = two.count ∙ one.count;
    lanes = λ e y ne. two.lanes e y ne ∙ one.lanes e y ne;
    ended = λ e y. two.ended e y ∙ one.ended e y;
    part = two.part ∙ one.part;
  }

  beside_self : (deque : ℕ) (a : Seat N C) → SameBeside deque a a
  beside_self deque a = record { count = refl; lanes = λ e y ne. refl; ended = λ e y. refl; part = refl }

  out_gone : (deque : ℕ) (old new : Seat N C) (way : Reach N) (y : Lane N) → deque < length old.lanes.items → IsOut deque old new way → (get_or new.lanes.items deque y).reach ≡ Left
  out_gone deque old new way y low out = ap (λ l. (get_or l deque y).reach) (out.lanes y) ∙ ap (λ (l : Lane N). l.reach) (get_or-set_same old.lanes.items deque (left_of (get_or old.lanes.items deque y)) y low)

  out_size : (deque : ℕ) (old new : Seat N C) (way : Reach N) (x : Lane N) → IsOut deque old new way → length new.lanes.items ≡ length old.lanes.items
  out_size deque old new way x out = ap length (out.lanes x) ∙ length-set old.lanes.items deque (left_of (get_or old.lanes.items deque x))

  -- a pass's weight is that of what is noted
  lane_weight : (h : ℕ → ℕ) (workers blocks deque : ℕ) (id : RowsId × Global) (w : ℕ) (seat : Seat N C) (x : Lane N) → deque < workers → IsReady workers blocks deque id w seat
      → sum_by h (claim_of (get_or seat.lanes.items deque x).reach).taken ≡ noted_weight h blocks deque seat
  lane_weight h workers blocks deque id w seat x low ready =
      let lane = get_or seat.lanes.items deque x in
      let is = (ready.lane x).taken in
      let m : noted blocks lane.taken.items lane.ended ≡ lane.taken.items ++ blocks ∷ [] = ap (noted blocks lane.taken.items) (ready.ended x) in
      let t : taken_at deque seat ≡ lane.taken.items = get_or-map_at (λ (l : Lane N). l.taken.items) seat.lanes.items deque x [] (let c = ready.count in omega arith) in
      let a = sum_by-append h lane.taken.items (blocks ∷ []) in
      let b = sum_by-cons h blocks [] in
      ap (sum_by h) (is ∙ m) ∙ a ∙ (let e = ap (sum_by h) t in omega arith)

  pub joining_starts : (workers blocks deque : ℕ) (id : RowsId × Global) (old : List (Seat N C)) (seat seat' : Seat N C) (way : Reach N) (x : Lane N)
      → length old ≡ workers → deque < workers → ((w : ℕ) (x : Seat N C) → w < length old → IsReady workers blocks deque id w (get_or old w x)) → seat ≡ get_or old deque seat → IsOut deque seat seat' way
      → IsJoining workers blocks deque id 0 old (set old deque seat') (claim_of way)
  joining_starts workers blocks deque id old seat seat' way x count low ready is out =
      let at : deque < length old = omega arith in
      let mine : IsReady workers blocks deque id deque seat = subst (IsReady workers blocks deque id deque) (sym is) (ready deque seat at) in
      let room : deque < length seat.lanes.items = (let c = mine.count in omega arith) in
      let same : (y : Seat N C) → get_or old deque y ≡ seat = λ y. get_or_any old deque y seat at ∙ sym is in
      let here : (y : Seat N C) → get_or (set old deque seat') deque y ≡ seat' = λ y. get_or-set_same old deque seat' y at in
      let each : (P : ℕ → Seat N C → Type 0) → P deque seat' → ((w : ℕ) (y : Seat N C) → w < length old → w ≢ deque → P w (get_or old w y)) → (w : ℕ) (y : Seat N C) → w < length old → P w (get_or (set old deque seat') w y) =
      (λ P new kept w y a. ⊎_elim (λ (e : w ≡ deque). subst (λ k. P k (get_or (set old deque seat') k y)) (sym e) (subst (P deque) (sym (here y)) new))
      (λ (ne : w ≡ deque → ⊥). subst (P w) (sym (get_or-set_other old deque w seat' y ne)) (kept w y a ne)) (cases_eq w deque)) in
      record {
        count = length-set old deque seat';
        notes = λ w y a. each (λ k s. notes_of s ≡ notes_of (get_or old k y)) (out_notes deque seat seat' way x room out ∙ ap notes_of (sym (same y))) (λ k z b ne. ap notes_of (get_or_any old k z y b)) w y a;
        beside = λ w y a. each (λ k s. SameBeside deque (get_or old k y) s) (subst (λ s. SameBeside deque s seat') (sym (same y)) (out_beside deque seat seat' way x room out))
            (λ k z b ne. subst (λ s. SameBeside deque s (get_or old k z)) (get_or_any old k z y b) (beside_self deque (get_or old k z))) w y a;
        sized = each (λ k s. length s.lanes.items ≡ workers) (out_size deque seat seat' way x out ∙ mine.count) (λ k z b ne. (ready k z b).count);
        waiting = λ w y _ a ne. subst (IsReady workers blocks deque id w) (sym (get_or-set_other old deque w seat' y ne)) (ready w y a);
        gone = λ y z. ap (λ (s : Seat N C). (get_or s.lanes.items deque z).reach) (here y) ∙ out_gone deque seat seat' way z room out;
        left = λ w y z none. absurd (omega arith);
        pushed = ap (λ (r : Reach N). (claim_of r).pushed) (out.way x) ∙ (mine.lane x).pushed;
        stands = (let one = ap (λ (r : Reach N). (claim_of r).stands_for) (out.way x) ∙ (mine.lane x).one in let z = ap (λ (b : Bool). cond {A = ℕ} b 1 0) (le-ltb deque 0 (omega arith)) in omega arith);
        taken = λ h y.
            (let t = ap (λ (r : Reach N). sum_by h (claim_of r).taken) (out.way x) ∙ lane_weight h workers blocks deque id deque seat x low mine in
            let z = ap (λ (b : Bool). cond {A = ℕ} b (noted_weight h blocks deque (get_or old deque y)) 0) (le-ltb deque 0 (omega arith)) in
            let s = ap (noted_weight h blocks deque) (same y) in
            omega arith);
      }

  -- one seat more, whose pass was joined
  pub joining_on : (workers blocks deque : ℕ) (id : RowsId × Global) (k : ℕ) (old now : List (Seat N C)) (view : Claim) (seat seat' : Seat N C) (way : Reach N) (x : Lane N)
      → length old ≡ workers → deque < workers → IsJoining workers blocks deque id k old now view → k < workers → seat ≡ get_or now k seat → IsOut deque seat seat' way
      → (view' : Claim) → view'.pushed ≡ view.pushed
      → view'.stands_for ≡ view.stands_for + cond (ltb deque k) 1 0 + 1 - cond (ltb deque (k + 1)) 1 0
      → ((h : ℕ → ℕ) (y : Seat N C) → sum_by h view'.taken + cond (ltb deque (k + 1)) (noted_weight h blocks deque (get_or old deque y)) 0
      ≡ sum_by h view.taken + cond (ltb deque k) (noted_weight h blocks deque (get_or old deque y)) 0 + noted_weight h blocks deque (get_or old k y))
      → IsJoining workers blocks deque id (k + 1) old (set now k seat') view'
  joining_on workers blocks deque id k old now view seat seat' way x count low j at is out view' pushed stands taken =
      let in_now : k < length now = (let c = j.count in omega arith) in
      let in_old : k < length old = omega arith in
      let same : (y : Seat N C) → get_or now k y ≡ seat = λ y. get_or_any now k y seat in_now ∙ sym is in
      let size : length seat.lanes.items ≡ workers = ap (λ (s : Seat N C). length s.lanes.items) is ∙ j.sized k seat in_old in
      let room : deque < length seat.lanes.items = omega arith in
      let here : (y : Seat N C) → get_or (set now k seat') k y ≡ seat' = λ y. get_or-set_same now k seat' y in_now in
      let each : (P : ℕ → Seat N C → Type 0) → P k seat' → ((w : ℕ) (y : Seat N C) → w < length old → w ≢ k → P w (get_or now w y)) → (w : ℕ) (y : Seat N C) → w < length old → P w (get_or (set now k seat') w y) =
      (λ P new kept w y a. ⊎_elim (λ (e : w ≡ k). subst (λ i. P i (get_or (set now k seat') i y)) (sym e) (subst (P k) (sym (here y)) new))
      (λ (ne : w ≡ k → ⊥). subst (P w) (sym (get_or-set_other now k w seat' y ne)) (kept w y a ne)) (cases_eq w k)) in
      record {
        count = length-set now k seat' ∙ j.count;
        notes = λ w y a. each (λ i s. notes_of s ≡ notes_of (get_or old i y)) (out_notes deque seat seat' way x room out ∙ ap notes_of (sym (same y)) ∙ j.notes k y in_old) (λ i z b ne. j.notes i z b ∙ ap notes_of (get_or_any old i z y b)) w y a;
        beside = λ w y a. each (λ i s. SameBeside deque (get_or old i y) s) (beside_on deque (get_or old k y) seat seat' (subst (λ s. SameBeside deque (get_or old k y) s) (same y) (j.beside k y in_old)) (out_beside deque seat seat' way x room out))
            (λ i z b ne. subst (λ s. SameBeside deque s (get_or now i z)) (get_or_any old i z y b) (j.beside i z b)) w y a;
        sized = each (λ i s. length s.lanes.items ≡ workers) (out_size deque seat seat' way x out ∙ size) (λ i z b ne. j.sized i z b);
        waiting = λ w y from a ne. subst (IsReady workers blocks deque id w) (sym (get_or-set_other now k w seat' y (λ e. absurd (omega arith)))) (j.waiting w y (omega arith) a ne);
        gone = λ y z. ⊎_elim (λ (e : deque ≡ k). ap (λ (s : Seat N C). (get_or s.lanes.items deque z).reach) (ap (λ i. get_or (set now k seat') i y) e ∙ here y) ∙ out_gone deque seat seat' way z room out)
            (λ (ne : deque ≡ k → ⊥). ap (λ (s : Seat N C). (get_or s.lanes.items deque z).reach) (get_or-set_other now k deque seat' y ne) ∙ j.gone y z) (cases_eq deque k);
        left = λ w y z below a. each (λ i s. i < k + 1 → (get_or s.lanes.items deque z).reach ≡ Left) (λ b. out_gone deque seat seat' way z room out) (λ i x' b ne c. j.left i x' z (before i k ne c) b) w y a below;
        pushed = pushed ∙ j.pushed;
        stands = (let s = j.stands in let c = small (ltb deque (k + 1)) in omega arith);
        taken = λ h y.
            (let t = taken h y in
            let i = j.taken h y in
            let m = sum_by_more (noted_weight h blocks deque) old k y in_old in
            omega arith);
      }
    where
      before : (i j : ℕ) → i ≢ j → i < j + 1 → i < j
      before i j ne c = ⊎_elim (λ (l : i < j). l) (λ (h : j ≤ i). absurd (ne (omega arith))) (cases_lt i j)

      small : (b : Bool) → cond {A = ℕ} b 1 0 ≤ 1
      small true = omega arith
      small false = omega arith

  -- all are joined
  pub joined : (workers blocks deque : ℕ) (id : RowsId × Global) (old now : List (Seat N C)) (view : Claim) (items : List ℕ) → length old ≡ workers → deque < workers → IsJoining workers blocks deque id workers old now view
      → Knows view items → Seat N C → HasAll workers blocks deque old × SameNotes deque old now × ((h : ℕ → ℕ) → sum_by h view.taken ≡ sum_by (noted_weight h blocks deque) old)
  joined workers blocks deque id old now view items count low j knows some =
      let on : ltb deque workers ≡ true = lt-ltb deque workers low in
      let sums : (h : ℕ → ℕ) → sum_by h view.taken ≡ sum_by (λ seat. sum_by h (taken_at deque seat)) old + length old * h blocks =
      (λ h. let t = j.taken h some in
      let c = ap (λ (b : Bool). cond {A = ℕ} b (noted_weight h blocks deque (get_or old deque some)) 0) on in
      let all = ap (sum_by (noted_weight h blocks deque)) (take_all workers old (omega arith)) in
      let p = sum_plus (λ (seat : Seat N C). sum_by h (taken_at deque seat)) (h blocks) old in
      omega arith) in
      let marks : workers ≤ sum_by (one_at blocks) view.taken =
      (let s = sums (one_at blocks) in let one = at_same blocks in let m : length old * one_at blocks blocks ≡ workers = ap (λ n. length old * n) one ∙ omega arith in omega arith) in
      let all = settled workers blocks deque view items (omega arith) j.pushed knows marks in (
        (λ h. let a = all h in let s = sums h in let b = sum_by-append h (blocks_to workers blocks deque) (replicate workers blocks) in let c = marks_weight h workers blocks in let e : length old * h blocks ≡ workers * h blocks = ap (λ n. n * h blocks) count in omega arith),
        record { count = j.count; beside = j.beside; notes = j.notes },
        (λ h.
            let t = j.taken h some in
            let c = ap (λ (b : Bool). cond {A = ℕ} b (noted_weight h blocks deque (get_or old deque some)) 0) on in
            let all = ap (sum_by (noted_weight h blocks deque)) (take_all workers old (omega arith)) in
            omega arith),
      )
    where
      marks_weight : (h : ℕ → ℕ) (n blocks : ℕ) → sum_by h (replicate n blocks) ≡ n * h blocks
      marks_weight h zero blocks = omega arith
      marks_weight h (suc n) blocks = let ih = marks_weight h n blocks in omega (arith, sum_by-cons h blocks (replicate n blocks))

  -- the way of the next seat may be joined
  pub next_way : (workers blocks deque : ℕ) (id : RowsId × Global) (k : ℕ) (old now : List (Seat N C)) (view : Claim) (seat : Seat N C) → length old ≡ workers → deque < workers → IsJoining workers blocks deque id k old now view → k < workers → seat ≡ get_or now k seat
      → (deque < length seat.lanes.items) × ((x : Lane N) → MayJoin id (get_or seat.lanes.items deque x).reach)
  next_way workers blocks deque id k old now view seat count low j at is =
      let size : length seat.lanes.items ≡ workers = ap (λ (s : Seat N C). length s.lanes.items) is ∙ j.sized k seat (omega arith) in (
        omega arith,
        λ x. ⊎_elim
            (λ (e : k ≡ deque).
            let g : (get_or seat.lanes.items deque x).reach ≡ Left = ap (λ (s : Seat N C). (get_or s.lanes.items deque x).reach) (is ∙ ap (λ i. get_or now i seat) e) ∙ j.gone seat x in
            (joined_left id view (get_or seat.lanes.items deque x).reach g).1)
            (λ (ne : k ≡ deque → ⊥).
            let ready : IsReady workers blocks deque id k seat = subst (IsReady workers blocks deque id k) (sym is) (j.waiting k seat (omega arith) (omega arith) ne) in
            may_join id (get_or seat.lanes.items deque x).reach (ready.other x ne) (ready.lane x).open_way)
            (cases_eq k deque),
      )

  pub joining_next : (workers blocks deque : ℕ) (id : RowsId × Global) (k : ℕ) (old now : List (Seat N C)) (view view' : Claim) (seat seat' : Seat N C) (x : Lane N) → length old ≡ workers → deque < workers → IsJoining workers blocks deque id k old now view → k < workers → seat ≡ get_or now k seat
      → IsOut deque seat seat' (get_or seat.lanes.items deque x).reach → view' ≡ joined_claim view (get_or seat.lanes.items deque x).reach
      → IsJoining workers blocks deque id (k + 1) old (set now k seat') view'
  joining_next workers blocks deque id k old now view view' seat seat' x count low j at is out joins = ⊎_elim
      (λ (e : k ≡ deque).
      let g : (get_or seat.lanes.items deque x).reach ≡ Left = ap (λ (s : Seat N C). (get_or s.lanes.items deque x).reach) (is ∙ ap (λ i. get_or now i seat) e) ∙ j.gone seat x in
      let v : view' ≡ view = joins ∙ (joined_left id view (get_or seat.lanes.items deque x).reach g).0 in
      let off : ltb deque k ≡ false = le-ltb deque k (omega arith) in
      let on : ltb deque (k + 1) ≡ true = lt-ltb deque (k + 1) (omega arith) in
      joining_on workers blocks deque id k old now view seat seat' (get_or seat.lanes.items deque x).reach x count low j at is out view' (ap (λ (c : Claim). c.pushed) v)
      (rw (off, on) (let n = ap (λ (c : Claim). c.stands_for) v in omega arith))
      (λ h y. rw (off, on) (let n = ap (λ (c : Claim). sum_by h c.taken) v in let m = ap (λ i. noted_weight h blocks deque (get_or old i y)) e in omega arith)))
      (λ (ne : k ≡ deque → ⊥).
      let ready : IsReady workers blocks deque id k seat = subst (IsReady workers blocks deque id k) (sym is) (j.waiting k seat (omega arith) (omega arith) ne) in
      let r = (get_or seat.lanes.items deque x).reach in
      let v : view' ≡ claim (view.stands_for + (claim_of r).stands_for) view.pushed (view.taken ++ (claim_of r).taken) = joins ∙ joined_other id view r (ready.other x ne) in
      let same = step_none deque k (λ e. ne (sym e)) in
      joining_on workers blocks deque id k old now view seat seat' r x count low j at is out view' (ap (λ (c : Claim). c.pushed) v)
      (rw same (let n = ap (λ (c : Claim). c.stands_for) v in let one = (ready.lane x).one in omega arith))
      (λ h y. rw same
      (let n = ap (λ (c : Claim). sum_by h c.taken) v in
      let a = sum_by-append h view.taken (claim_of r).taken in
      let w = lane_weight h workers blocks deque id k seat x low ready in
      let m : noted_weight h blocks deque seat ≡ noted_weight h blocks deque (get_or old k y) =
      ap (λ l. sum_by h (get_or l deque []) + h blocks) (ap notes_of is ∙ j.notes k seat (omega arith) ∙ ap notes_of (get_or_any old k seat y (omega arith))) in
      omega arith)))
      (cases_eq k deque)

  same_sums : (f : Seat N C → ℕ) (xs ys : List (Seat N C)) → length xs ≡ length ys → ((w : ℕ) (x : Seat N C) → w < length ys → f (get_or xs w x) ≡ f (get_or ys w x)) → sum_by f xs ≡ sum_by f ys
  same_sums f [] [] len same = refl
  same_sums f [] (y ∷ ys) len same = absurd (omega arith)
  same_sums f (x ∷ xs) [] len same = absurd (omega arith)
  same_sums f (x ∷ xs) (y ∷ ys) len same =
      let ih = same_sums f xs ys (omega arith) (λ w z low. same (suc w) z (omega arith)) in
      let one = same 0 x (omega arith) in
      omega (arith, sum_by-cons f x xs, sum_by-cons f y ys)

  -- where the notes are the same, so are the sums
  pub still_all : (workers blocks deque other : ℕ) (old new : List (Seat N C)) → SameNotes other old new → HasAll workers blocks deque old → HasAll workers blocks deque new
  still_all workers blocks deque other old new same all h = same_sums (λ seat. sum_by h (taken_at deque seat)) new old same.count (λ w x low. ap (λ l. sum_by h (get_or l deque [])) (same.notes w x low)) ∙ all h

  -- the other deques may still be joined
  pub still_joinable : (workers blocks deque other : ℕ) (old new : List (Seat N C)) → deque < workers → deque ≢ other → SameNotes other old new → IsJoinable workers blocks deque old → IsJoinable workers blocks deque new
  still_joinable workers blocks deque other old new low apart same joinable = (
    joinable.0,
    λ w x at.
        (let before : w < length old = (let c = same.count in omega arith) in
        let b = same.beside w x before in
        let ready = joinable.1 w x before in
        let lane : (y : Lane N) → get_or (get_or new w x).lanes.items deque y ≡ get_or (get_or old w x).lanes.items deque y = (λ y. b.lanes deque y apart) in
        record {
          count = b.count ∙ ready.count;
          lane = λ y. subst (IsLane workers blocks deque) (sym (lane y)) (ready.lane y);
          ended = λ y. b.ended deque y ∙ ready.ended y;
          own = λ y e. subst (λ (l : Lane N). IsOwn joinable.0 l.reach) (sym (lane y)) (ready.own y e);
          other = λ y ne. subst (λ (l : Lane N). IsOther joinable.0 l.reach) (sym (lane y)) (ready.other y ne);
        }),
  )

  pub shows_on : (other : ℕ) (first old new : List (Seat N C)) → ShowsSame first old → SameNotes other old new → ShowsSame first new
  shows_on other first old new shows same = record {
    count = same.count ∙ shows.count;
    notes = λ w x low. same.notes w x (let c = shows.count in omega arith) ∙ shows.notes w x low;
    ended = λ w x low e y. (same.beside w x (let c = shows.count in omega arith)).ended e y ∙ shows.ended w x low e y;
    parts = λ w x low. (same.beside w x (let c = shows.count in omega arith)).part ∙ shows.parts w x low;
  }

  pub shows_self : (seats : List (Seat N C)) → ShowsSame seats seats
  shows_self seats = record { count = refl; notes = λ w x low. refl; ended = λ w x low e y. refl; parts = λ w x low. refl }

  -- after the work each deque may be joined
  pub worked_joinable : (workers blocks : ℕ) (old new : List (Seat N C)) → IsStarted workers blocks old → AllHaveWorked workers blocks old new → length new ≡ length old → (d : ℕ) → d < workers → IsJoinable workers blocks d new
  worked_joinable workers blocks old new started worked len d low = (
    (started.ways d low).0,
    λ w x at.
        (let before : w < length old = omega arith in
        let in_range : w < workers = (let c = started.count in omega arith) in
        let work = worked w x before in
        record {
          count = work.count;
          lane = λ y. work.lanes d y low;
          ended = λ y. work.ended d y low;
          own = λ y e. (work.stays d y low).own (started.ways d low).0 (((started.ways d low).1 w x y in_range).0 e);
          other = λ y ne. (work.stays d y low).other (started.ways d low).0 (((started.ways d low).1 w x y in_range).1 ne);
        }),
  )

  pub shared : (workers blocks : ℕ) (old mid new : List (Seat N C)) → IsStarted workers blocks old → AllHaveWorked workers blocks old mid → length mid ≡ length old → ShowsSame mid new → ((d : ℕ) → d < workers → HasAll workers blocks d new) → HasShared workers blocks old new
  shared workers blocks old mid new started worked len shows all = record {
    count = shows.count ∙ len ∙ started.count;
    all = all;
    ended = λ w d x y low at. shows.ended w x (let c = started.count in omega arith) d y ∙ (worked w x (let c = started.count in omega arith)).ended d y at;
    handed = λ w b x low at.
        ap (λ hand. is_handed hand b) (shows.parts w x (let c = started.count in omega arith))
        ∙ (worked w x (let c = started.count in omega arith)).handed b at
        ∙ any_map (is_in b) (λ (l : Lane N). l.taken.items) (get_or mid w x).lanes.items
        ∙ ap (list_any (is_in b)) (sym (shows.notes w x (let c = started.count in omega arith)));
    parts = λ w x low. ap (λ (h : Hand). h.parts) (shows.parts w x (let c = started.count in omega arith)) ∙ (worked w x (let c = started.count in omega arith)).parts;
  }

  -- so the parts of all seats are as many as before
  pub same_parts : (workers blocks : ℕ) (old new : List (Seat N C)) → length old ≡ workers → HasShared workers blocks old new → sum_by (λ (s : Seat N C). s.desk.part.parts) new ≡ sum_by (λ (s : Seat N C). s.desk.part.parts) old
  same_parts workers blocks old new count shared = same_sums (λ (s : Seat N C). s.desk.part.parts) new old (shared.count ∙ sym count) (λ w x low. shared.parts w x (omega arith))
