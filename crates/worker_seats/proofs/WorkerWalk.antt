-- A worker that goes from deque to deque.
use Rattle.std.proofs.Common.{◌≡◌, ◌≢◌, ◌+◌, ◌<◌, ◌≤◌, ℕ, zero, suc, Bool, true, false, ◌||◌, ◌&&◌, leb, ltb, List, [], ◌∷◌, length, length-set, get_or, set, sym, refl, ap, ◌∙◌, subst, ⊎_elim, arith}
use Rattle.std.specs.List.{list_any}
use Rattle.std.proofs.lemmas.Bool.{cases_eq, cases_lt, lt-ltb, le-ltb, le-leb, lt-leb, true≢false}
use Rattle.std.proofs.lemmas.List.{get_or-set_same, get_or-set_other}
use Rattle.tally_book.specs.Parts.{Hand, is_handed}
use Rattle.tally_book.specs.declared.limits.TheConstants.{BLOCKS_MAX}
use Rattle.worker_seats.specs.Reaches.{StaysOf}
use Rattle.worker_seats.specs.Lanes.{IsLane, StaysLane, is_in}
use Rattle.worker_seats.specs.Seating.{IsUntouched, IsFresh, HasWorked}
use Rattle.worker_seats.specs.declared.lanes.Lane.{Lane}
use Rattle.worker_seats.specs.declared.seat.Seat.{Seat}

or_swap : (a b : Bool) → (a || b) ≡ (b || a)
or_swap true true = refl
or_swap true false = refl
or_swap false true = refl
or_swap false false = refl

or_assoc : (a b c : Bool) → (a || (b || c)) ≡ ((a || b) || c)
or_assoc true b c = refl
or_assoc false b c = refl

any_set : {X : Type 0} (p : X → Bool) (xs : List X) (i : ℕ) (y d : X) → i < length xs → p (get_or xs i d) ≡ false → list_any p (set xs i y) ≡ (list_any p xs || p y)
any_set p [] i y d low is = absurd (omega arith)
any_set p (x ∷ xs) zero y d low is = or_swap (p y) (list_any p xs) ∙ ap (λ t. (t || list_any p xs) || p y) (sym is)
any_set p (x ∷ xs) (suc i) y d low is = ap (λ t. p x || t) (any_set p xs i y d (omega arith) is) ∙ or_assoc (p x) (list_any p xs) (p y)

any_none : {X : Type 0} (p : X → Bool) (xs : List X) → ((i : ℕ) (d : X) → i < length xs → p (get_or xs i d) ≡ false) → list_any p xs ≡ false
any_none p [] none = refl
any_none p (x ∷ xs) none = rw (none 0 x (omega arith)) (any_none p xs (λ i d low. none (suc i) d (omega arith)))

module _ {N : Type 0} where
  -- of the deques that were seen it has an end mark, and from the others it took nothing
  pub record IsWorking (workers blocks : ℕ) (seen : ℕ → Bool) (old now : List (Lane N)) (first hand : Hand) : Type 0 where
    pub count : length now ≡ workers
    pub lanes : (d : ℕ) (x : Lane N) → d < workers → IsLane workers blocks d (get_or now d x)
    pub ended : (d : ℕ) (x : Lane N) → d < workers → seen d ≡ true → (get_or now d x).ended ≡ true
    pub untouched : (d : ℕ) (x : Lane N) → d < workers → seen d ≡ false → IsUntouched (get_or now d x)
    pub stays : (d : ℕ) (x : Lane N) → d < workers → StaysOf (get_or old d x).reach (get_or now d x).reach
    pub handed : (b : ℕ) → b < BLOCKS_MAX → is_handed hand b ≡ list_any (λ (lane : Lane N). is_in b lane.taken.items) now
    pub parts : hand.parts ≡ first.parts

  pub working_same : (workers blocks : ℕ) (seen seen' : ℕ → Bool) (old now : List (Lane N)) (first hand : Hand) → IsWorking workers blocks seen old now first hand → ((d : ℕ) → d < workers → seen' d ≡ seen d)
      → IsWorking workers blocks seen' old now first hand
  working_same workers blocks seen seen' old now first hand w same = record {
    count = w.count;
    lanes = w.lanes;
    ended = λ d x low is. w.ended d x low (sym (same d low) ∙ is);
    untouched = λ d x low is. w.untouched d x low (sym (same d low) ∙ is);
    stays = w.stays;
    handed = w.handed;
    parts = w.parts;
  }

  pub working_on : (workers blocks : ℕ) (seen seen' : ℕ → Bool) (old now : List (Lane N)) (first hand hand' : Hand) (deque : ℕ) (lane lane' : Lane N) → IsWorking workers blocks seen old now first hand
      → deque < workers → seen deque ≡ false → seen' deque ≡ true → ((d : ℕ) → d < workers → d ≢ deque → seen' d ≡ seen d)
      → lane ≡ get_or now deque lane → StaysLane workers blocks lane lane' → lane'.ended ≡ true → StaysOf lane.reach lane'.reach
      → ((b : ℕ) → b < BLOCKS_MAX → is_handed hand' b ≡ (is_handed hand b || is_in b lane'.taken.items)) → hand'.parts ≡ hand.parts
      → IsWorking workers blocks seen' old (set now deque lane') first hand'
  working_on workers blocks seen seen' old now first hand hand' deque lane lane' w low out in' others is kept ended stays handed parts =
      let room : deque < length now = (let c = w.count in omega arith) in
      let here : (x : Lane N) → get_or (set now deque lane') deque x ≡ lane' = λ x. get_or-set_same now deque lane' x room in
      let there : (d : ℕ) (x : Lane N) → d ≢ deque → get_or (set now deque lane') d x ≡ get_or now d x = λ d x ne. get_or-set_other now deque d lane' x ne in
      let each : (P : ℕ → Lane N → Type 0) → P deque lane' → ((d : ℕ) (x : Lane N) → d < workers → d ≢ deque → P d (get_or now d x)) → (d : ℕ) (x : Lane N) → d < workers → P d (get_or (set now deque lane') d x) =
      (λ P new kept d x at. ⊎_elim (λ (e : d ≡ deque). subst (λ k. P k (get_or (set now deque lane') k x)) (sym e) (subst (P deque) (sym (here x)) new))
      (λ (ne : d ≡ deque → ⊥). subst (P d) (sym (there d x ne)) (kept d x at ne)) (cases_eq d deque)) in
      record {
        count = length-set now deque lane' ∙ w.count;
        lanes = each (λ d l. IsLane workers blocks d l) (kept deque (subst (IsLane workers blocks deque) (sym is) (w.lanes deque lane low))) (λ d x at ne. w.lanes d x at);
        ended = each (λ d l. seen' d ≡ true → l.ended ≡ true) (λ _. ended) (λ d x at ne s. w.ended d x at (sym (others d at ne) ∙ s));
        untouched = each (λ d l. seen' d ≡ false → IsUntouched l) (λ s. absurd (true≢false (sym in' ∙ s))) (λ d x at ne s. w.untouched d x at (sym (others d at ne) ∙ s));
        stays = λ d x at. each (λ k l. StaysOf (get_or old k x).reach l.reach)
            (let before = subst (λ l. StaysOf (get_or old deque x).reach l.reach) (same_default x) (w.stays deque x low) in
            record { own = λ id o. stays.own id (before.own id o); other = λ id o. stays.other id (before.other id o) })
            (λ k y a ne. subst (λ l. StaysOf (get_or old k x).reach l.reach) (get_or_any now k x y (let c = w.count in omega arith)) (w.stays k x a)) d x at;
        handed = λ b at. handed b at ∙ ap (λ t. t || is_in b lane'.taken.items) (w.handed b at)
            ∙ sym (any_set (λ (l : Lane N). is_in b l.taken.items) now deque lane' lane room (ap (is_in b) (w.untouched deque lane low out).taken));
        parts = parts ∙ w.parts;
      }
    where
      get_or_any : {X : Type 0} (xs : List X) (k : ℕ) (x y : X) → k < length xs → get_or xs k x ≡ get_or xs k y
      get_or_any [] k x y at = absurd (omega arith)
      get_or_any (z ∷ zs) zero x y at = refl
      get_or_any (z ∷ zs) (suc k) x y at = get_or_any zs k x y (omega arith)

      same_default : (x : Lane N) → get_or now deque x ≡ lane
      same_default x = get_or_any now deque x lane (let c = w.count in omega arith) ∙ sym is

module _ {N C : Type 0} where
  pub working_starts : (workers blocks : ℕ) (seen : ℕ → Bool) (seat : Seat N C) → IsFresh workers blocks seat → ((d : ℕ) → seen d ≡ false) → IsWorking workers blocks seen seat.lanes.items seat.lanes.items seat.desk.part seat.desk.part
  working_starts workers blocks seen seat fresh none = record {
    count = fresh.count;
    lanes = fresh.lanes;
    ended = λ d x low is. absurd (true≢false (sym is ∙ none d));
    untouched = λ d x low is. fresh.untouched d x low;
    stays = λ d x low. record { own = λ deque is. is; other = λ deque is. is };
    handed = λ b low. fresh.handed b low ∙ sym (any_none (λ (lane : Lane N). is_in b lane.taken.items) seat.lanes.items (λ i d at. ap (is_in b) (fresh.untouched i d (let c = fresh.count in omega arith)).taken));
    parts = refl;
  }

  pub has_worked : (workers blocks : ℕ) (seen : ℕ → Bool) (old new : Seat N C) → IsWorking workers blocks seen old.lanes.items new.lanes.items old.desk.part new.desk.part → ((d : ℕ) → d < workers → seen d ≡ true) → HasWorked workers blocks old new
  has_worked workers blocks seen old new w all = record {
    count = w.count;
    lanes = w.lanes;
    ended = λ d x low. w.ended d x low (all d low);
    stays = w.stays;
    handed = w.handed;
    parts = w.parts;
  }

-- the deques from the worker's own up to one, and those below one with all from the own on
abbrev pub from_own : ℕ → ℕ → ℕ → Bool
from_own worker k d = leb worker d && ltb d k

abbrev pub and_below : ℕ → ℕ → ℕ → Bool
and_below worker k d = leb worker d || ltb d k

pub none_from_own : (worker d : ℕ) → from_own worker worker d ≡ false
none_from_own worker d = ⊎_elim (λ (low : d < worker). rw (lt-leb worker d low) refl) (λ (high : worker ≤ d). rw (le-leb worker d high, le-ltb d worker high) refl) (cases_lt d worker)

pub not_yet_from_own : (worker k : ℕ) → from_own worker k k ≡ false
not_yet_from_own worker k = rw (le-ltb k k (omega arith)) (and_false (leb worker k))
  where
    and_false : (b : Bool) → (b && false) ≡ false
    and_false true = refl
    and_false false = refl

pub now_from_own : (worker k : ℕ) → worker ≤ k → from_own worker (k + 1) k ≡ true
now_from_own worker k high = rw (le-leb worker k high, lt-ltb k (k + 1) (omega arith)) refl

next_below : (d k : ℕ) → d ≢ k → ltb d (k + 1) ≡ ltb d k
next_below d k ne = ⊎_elim (λ (low : d < k). rw (lt-ltb d k low, lt-ltb d (k + 1) (omega arith)) refl) (λ (high : k ≤ d). rw (le-ltb d k high, le-ltb d (k + 1) (apart d k ne high)) refl) (cases_lt d k)
  where
    apart : (d k : ℕ) → d ≢ k → k ≤ d → k + 1 ≤ d
    apart d k ne high = ⊎_elim (λ (low : d < k + 1). absurd (ne (omega arith))) (λ (h : k + 1 ≤ d). h) (cases_lt d (k + 1))

pub others_from_own : (worker k d : ℕ) → d ≢ k → from_own worker (k + 1) d ≡ from_own worker k d
others_from_own worker k d ne = ap (λ t. leb worker d && t) (next_below d k ne)

pub others_and_below : (worker k d : ℕ) → d ≢ k → and_below worker (k + 1) d ≡ and_below worker k d
others_and_below worker k d ne = ap (λ t. leb worker d || t) (next_below d k ne)

pub not_yet_and_below : (worker k : ℕ) → k < worker → and_below worker k k ≡ false
not_yet_and_below worker k low = rw (lt-leb worker k low, le-ltb k k (omega arith)) refl

pub now_and_below : (worker k : ℕ) → and_below worker (k + 1) k ≡ true
now_and_below worker k = rw (lt-ltb k (k + 1) (omega arith)) (or_true (leb worker k))
  where
    or_true : (b : Bool) → (b || true) ≡ true
    or_true true = refl
    or_true false = refl

pub turn : (workers worker d : ℕ) → d < workers → and_below worker 0 d ≡ from_own worker workers d
turn workers worker d low = rw (lt-ltb d workers low, le-ltb d 0 (omega arith)) (both (leb worker d))
  where
    both : (b : Bool) → (b || false) ≡ (b && true)
    both true = refl
    both false = refl

pub all_seen : (worker d : ℕ) → and_below worker worker d ≡ true
all_seen worker d = ⊎_elim (λ (low : d < worker). rw (lt-leb worker d low, lt-ltb d worker low) refl) (λ (high : worker ≤ d). rw (le-leb worker d high) refl) (cases_lt d worker)
