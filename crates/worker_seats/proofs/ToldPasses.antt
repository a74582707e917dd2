-- What the seats show is what their passes hold.
use Rattle.std.proofs.Common.{◌≡◌, ◌≢◌, ◌<◌, ℕ, zero, suc, true, List, [], ◌∷◌, ◌++◌, length, length-set, get_or, set, map, sym, refl, ap, ◌∙◌, subst, ⊎_elim, arith}
use Rattle.std.specs.List.{sum_by}
use Rattle.std.specs.Global.{Global}
use Rattle.std.proofs.lemmas.Bool.{cases_eq}
use Rattle.std.proofs.lemmas.List.{get_or-set_same, get_or-set_other}
use Rattle.std.proofs.lemmas.List.Sums.{sum_by-append, sum_by-cons}
use Rattle.atomic_blocks.specs.Lent.{RowsId}
use Rattle.worker_seats.specs.Reaches.{claim_of}
use Rattle.worker_seats.specs.Lanes.{IsLane, noted}
use Rattle.worker_seats.specs.Joined.{notes_of, taken_at, marks_of, claims_of, pushes_of, IsBack, IsReady, SameBeside, SameNotes, HasTold}
use Rattle.worker_seats.specs.declared.claims.Claim.{Claim}
use Rattle.worker_seats.specs.declared.reaches.Reach.{Reach}
use Rattle.worker_seats.specs.declared.lanes.Lane.{Lane}
use Rattle.worker_seats.specs.declared.seat.Seat.{Seat}
use Rattle.worker_seats.proofs.JoinedPasses.{noted_weight, first, get_or_any, get_or-map_at, set_map_same, beside_on, IsJoining}

module _ {N C : Type 0} where
  -- two sums over seats, one by one the same
  sums_alike : (f g : Seat N C → ℕ) (xs ys : List (Seat N C)) → length xs ≡ length ys → ((w : ℕ) (x : Seat N C) → w < length ys → f (get_or xs w x) ≡ g (get_or ys w x)) → sum_by f xs ≡ sum_by g ys
  sums_alike f g [] [] len same = refl
  sums_alike f g [] (y ∷ ys) len same = absurd (omega arith)
  sums_alike f g (x ∷ xs) [] len same = absurd (omega arith)
  sums_alike f g (x ∷ xs) (y ∷ ys) len same =
      let ih = sums_alike f g xs ys (omega arith) (λ w z low. same (suc w) z (omega arith)) in
      let one = same 0 x (omega arith) in
      omega (arith, sum_by-cons f x xs, sum_by-cons g y ys)

  -- a sum in which one seat has all
  sum_none : (f : Seat N C → ℕ) (xs : List (Seat N C)) → ((w : ℕ) (x : Seat N C) → w < length xs → f (get_or xs w x) ≡ 0) → sum_by f xs ≡ 0
  sum_none f [] none = refl
  sum_none f (x ∷ xs) none =
      let ih = sum_none f xs (λ w z low. none (suc w) z (omega arith)) in
      let one = none 0 x (omega arith) in
      omega (arith, sum_by-cons f x xs)

  sum_one : (f : Seat N C → ℕ) (xs : List (Seat N C)) (k : ℕ) (d : Seat N C) → k < length xs → ((w : ℕ) (x : Seat N C) → w < length xs → w ≢ k → f (get_or xs w x) ≡ 0) → sum_by f xs ≡ f (get_or xs k d)
  sum_one f [] k d low none = absurd (omega arith)
  sum_one f (x ∷ xs) zero d low none =
      let rest = sum_none f xs (λ w z at. none (suc w) z (omega arith) (λ e. absurd (omega arith))) in
      omega (arith, sum_by-cons f x xs)
  sum_one f (x ∷ xs) (suc k) d low none =
      let ih = sum_one f xs k d (omega arith) (λ w z at ne. none (suc w) z (omega arith) (λ e. ne (omega arith))) in
      let one = none 0 x (omega arith) (λ e. absurd (omega arith)) in
      omega (arith, sum_by-cons f x xs)

  -- the owner's way put back, nothing else is changed
  back_beside : (deque : ℕ) (old new : Seat N C) (way : Reach N) (x : Lane N) → deque < length old.lanes.items → IsBack deque old new way → SameBeside deque old new × (notes_of new ≡ notes_of old) × ((y : Lane N) → (get_or new.lanes.items deque y).reach ≡ way)
  back_beside deque old new way x low back =
      let here : (y : Lane N) → get_or new.lanes.items deque y ≡ record { reach = way; taken = (get_or old.lanes.items deque y).taken; ended = (get_or old.lanes.items deque y).ended } =
      (λ y. ap (λ l. get_or l deque y) (back.lanes y) ∙ get_or-set_same old.lanes.items deque (record { reach = way; taken = (get_or old.lanes.items deque y).taken; ended = (get_or old.lanes.items deque y).ended }) y low) in
      let there : (e : ℕ) (y : Lane N) → e ≢ deque → get_or new.lanes.items e y ≡ get_or old.lanes.items e y =
      (λ e y ne. ap (λ l. get_or l e y) (back.lanes y) ∙ get_or-set_other old.lanes.items deque e (record { reach = way; taken = (get_or old.lanes.items deque y).taken; ended = (get_or old.lanes.items deque y).ended }) y ne) in (
        record {
          count = ap length (back.lanes x) ∙ length-set old.lanes.items deque (record { reach = way; taken = (get_or old.lanes.items deque x).taken; ended = (get_or old.lanes.items deque x).ended });
          lanes = λ e y ne. there e y ne;
          ended = λ e y. ⊎_elim (λ (s : e ≡ deque). subst (λ i. (get_or new.lanes.items i y).ended ≡ (get_or old.lanes.items i y).ended) (sym s) (ap (λ (l : Lane N). l.ended) (here y)))
              (λ (ne : e ≡ deque → ⊥). ap (λ (l : Lane N). l.ended) (there e y ne)) (cases_eq e deque);
          part = back.part;
        },
        ap (map (λ (l : Lane N). l.taken.items)) (back.lanes x)
            ∙ set_map_same (λ (l : Lane N). l.taken.items) old.lanes.items deque x (record { reach = way; taken = (get_or old.lanes.items deque x).taken; ended = (get_or old.lanes.items deque x).ended }) low refl,
        λ y. ap (λ (l : Lane N). l.reach) (here y),
      )

  -- the notes with the owner's way put back
  pub same_back : (deque : ℕ) (old now : List (Seat N C)) (seat seat' : Seat N C) (way : Reach N) (x : Lane N) → deque < length old → SameNotes deque old now → seat ≡ get_or now deque seat → deque < length seat.lanes.items → IsBack deque seat seat' way
      → SameNotes deque old (set now deque seat')
  same_back deque old now seat seat' way x low same is room back =
      let b = back_beside deque seat seat' way x room back in
      let at : deque < length now = (let c = same.count in omega arith) in
      let was : (y : Seat N C) → get_or now deque y ≡ seat = λ y. get_or_any now deque y seat at ∙ sym is in
      let each : (P : ℕ → Seat N C → Type 0) → P deque seat' → ((w : ℕ) (y : Seat N C) → w < length old → w ≢ deque → P w (get_or now w y)) → (w : ℕ) (y : Seat N C) → w < length old → P w (get_or (set now deque seat') w y) =
      (λ P new kept w y a. ⊎_elim (λ (e : w ≡ deque). subst (λ i. P i (get_or (set now deque seat') i y)) (sym e) (subst (P deque) (sym (get_or-set_same now deque seat' y at)) new))
      (λ (ne : w ≡ deque → ⊥). subst (P w) (sym (get_or-set_other now deque w seat' y ne)) (kept w y a ne)) (cases_eq w deque)) in
      record {
        count = length-set now deque seat' ∙ same.count;
        beside = λ w y a. each (λ i s. SameBeside deque (get_or old i y) s)
            (beside_on deque (get_or old deque y) seat seat' (subst (λ s. SameBeside deque (get_or old deque y) s) (was y) (same.beside deque y low)) b.0)
            (λ i z c ne. subst (λ s. SameBeside deque s (get_or now i z)) (get_or_any old i z y c) (same.beside i z c)) w y a;
        notes = λ w y a. each (λ i s. notes_of s ≡ notes_of (get_or old i y)) (b.1 ∙ ap notes_of (sym (was y)) ∙ same.notes deque y low) (λ i z c ne. same.notes i z c ∙ ap notes_of (get_or_any old i z y c)) w y a;
      }

  -- what was joined is told
  pub told_joined : (workers blocks deque : ℕ) (id before : RowsId × Global) (old now : List (Seat N C)) (view : Claim) (seat seat' : Seat N C) (way : Reach N) (x : Lane N) → length old ≡ workers → deque < workers
      → ((w : ℕ) (y : Seat N C) → w < length old → IsReady workers blocks deque before w (get_or old w y)) → IsJoining workers blocks deque id workers old now view
      → ((h : ℕ → ℕ) → sum_by h view.taken ≡ sum_by (noted_weight h blocks deque) old) → seat ≡ get_or now deque seat → IsBack deque seat seat' way → claim_of way ≡ view
      → SameNotes deque old (set now deque seat') → HasTold workers blocks deque (set now deque seat')
  told_joined workers blocks deque id before old now view seat seat' way x count low ready j sums is back claims same =
      let new : List (Seat N C) = set now deque seat' in
      let at : deque < length now = (let c = j.count in omega arith) in
      let size : length seat.lanes.items ≡ workers = ap (λ (s : Seat N C). length s.lanes.items) is ∙ j.sized deque seat (omega arith) in
      let b = back_beside deque seat seat' way x (omega arith) back in
      let here : (y : Seat N C) → get_or new deque y ≡ seat' = λ y. get_or-set_same now deque seat' y at in
      let size' : length seat'.lanes.items ≡ workers = b.0.count ∙ size in
      let marks : (h : ℕ → ℕ) (w : ℕ) (y : Seat N C) → w < length old → sum_by h (get_or (marks_of blocks (get_or new w y)) deque []) ≡ noted_weight h blocks deque (get_or old w y) =
      (λ h w y a.
      let s = get_or new w y in
      let r = ready w y a in
      let room : deque < length s.lanes.items = (let c = (same.beside w y a).count in let d = r.count in omega arith) in
      let lane = get_or s.lanes.items deque x in
      let m : get_or (marks_of blocks s) deque [] ≡ noted blocks lane.taken.items lane.ended = get_or-map_at (λ (l : Lane N). noted blocks l.taken.items l.ended) s.lanes.items deque x [] room in
      let t : get_or (notes_of s) deque [] ≡ lane.taken.items = get_or-map_at (λ (l : Lane N). l.taken.items) s.lanes.items deque x [] room in
      let n : lane.taken.items ≡ taken_at deque (get_or old w y) = sym t ∙ ap (λ l. get_or l deque []) (same.notes w y a) in
      let e : lane.ended ≡ true = (same.beside w y a).ended deque x ∙ r.ended x in
      let whole : get_or (marks_of blocks s) deque [] ≡ taken_at deque (get_or old w y) ++ blocks ∷ [] = m ∙ ap (noted blocks lane.taken.items) e ∙ ap (λ l. l ++ blocks ∷ []) n in
      let p = ap (sum_by h) whole in
      omega (arith, sum_by-append h (taken_at deque (get_or old w y)) (blocks ∷ []), sum_by-cons h blocks [])) in
      let other : (h : ℕ → ℕ) (w : ℕ) (y : Seat N C) → w < length new → w ≢ deque → sum_by h (get_or (claims_of (get_or new w y)) deque []) ≡ 0 =
      (λ h w y a ne.
      let in_old : w < length old = (let c = j.count in let d = length-set now deque seat' in omega arith) in
      let s = get_or now w y in
      let eq : get_or new w y ≡ s = get_or-set_other now deque w seat' y ne in
      let room : deque < length s.lanes.items = (let z = j.sized w y in_old in omega arith) in
      let m : get_or (claims_of s) deque [] ≡ (claim_of (get_or s.lanes.items deque x).reach).taken = get_or-map_at (λ (l : Lane N). (claim_of l.reach).taken) s.lanes.items deque x [] room in
      let g : get_or (claims_of s) deque [] ≡ [] = m ∙ ap (λ (r : Reach N). (claim_of r).taken) (j.left w y x (omega arith) in_old) in
      ap (λ (q : Seat N C). sum_by h (get_or (claims_of q) deque [])) eq ∙ ap (sum_by h) g) in
      let owned : (h : ℕ → ℕ) (y : Seat N C) → sum_by h (get_or (claims_of (get_or new deque y)) deque []) ≡ sum_by h view.taken =
      (λ h y.
      let m : get_or (claims_of seat') deque [] ≡ (claim_of (get_or seat'.lanes.items deque x).reach).taken = get_or-map_at (λ (l : Lane N). (claim_of l.reach).taken) seat'.lanes.items deque x [] (omega arith) in
      ap (λ (q : Seat N C). sum_by h (get_or (claims_of q) deque [])) (here y) ∙ ap (sum_by h) (m ∙ ap (λ (r : Reach N). (claim_of r).taken) (b.2 x) ∙ ap (λ (c : Claim). c.taken) claims)) in
      record {
        told = λ h.
            (let left = sums_alike (λ s. sum_by h (get_or (marks_of blocks s) deque [])) (noted_weight h blocks deque) new old same.count (marks h) in
            let right = sum_one (λ s. sum_by h (get_or (claims_of s) deque [])) new deque seat (let d = length-set now deque seat' in omega arith) (other h) in
            let o = owned h seat in
            let s = sums h in
            omega arith);
        pushed =
            (let p : get_or (map pushes_of new) deque [] ≡ pushes_of (get_or new deque seat) = get_or-map_at pushes_of new deque seat [] (let d = length-set now deque seat' in omega arith) in
            let q : get_or (pushes_of seat') deque [] ≡ (claim_of (get_or seat'.lanes.items deque x).reach).pushed = get_or-map_at (λ (l : Lane N). (claim_of l.reach).pushed) seat'.lanes.items deque x [] (omega arith) in
            ap (λ l. get_or l deque []) (p ∙ ap pushes_of (here seat)) ∙ q ∙ ap (λ (r : Reach N). (claim_of r).pushed) (b.2 x) ∙ ap (λ (c : Claim). c.pushed) claims ∙ j.pushed);
      }

  -- seats whose passes are all their own tell what these hold
  pub told_lanes : (workers blocks deque : ℕ) (seats : List (Seat N C)) (x : Lane N) → deque < workers → length seats ≡ workers
      → ((w : ℕ) (y : Seat N C) → w < workers → (length (get_or seats w y).lanes.items ≡ workers) × IsLane workers blocks deque (get_or (get_or seats w y).lanes.items deque x)) → HasTold workers blocks deque seats
  told_lanes workers blocks deque seats x low count each = record {
    told = λ h. sums_alike (λ s. sum_by h (get_or (marks_of blocks s) deque [])) (λ s. sum_by h (get_or (claims_of s) deque [])) seats seats refl
        (λ w y a.
        let s = get_or seats w y in
        let e = each w y (omega arith) in
        let room : deque < length s.lanes.items = (let n = e.0 in omega arith) in
        let m = get_or-map_at (λ (l : Lane N). noted blocks l.taken.items l.ended) s.lanes.items deque x [] room in
        let c = get_or-map_at (λ (l : Lane N). (claim_of l.reach).taken) s.lanes.items deque x [] room in
        ap (sum_by h) (m ∙ sym e.1.taken ∙ sym c));
    pushed =
        (let s : Seat N C = own_seat seats (omega arith) in
        let e = each deque s low in
        let p : get_or (map pushes_of seats) deque [] ≡ pushes_of (get_or seats deque s) = get_or-map_at pushes_of seats deque s [] (omega arith) in
        let q : get_or (pushes_of (get_or seats deque s)) deque [] ≡ (claim_of (get_or (get_or seats deque s).lanes.items deque x).reach).pushed =
        get_or-map_at (λ (l : Lane N). (claim_of l.reach).pushed) (get_or seats deque s).lanes.items deque x [] (let n = e.0 in omega arith) in
        ap (λ l. get_or l deque []) p ∙ q ∙ e.1.pushed);
  }
    where
      own_seat : (xs : List (Seat N C)) → 0 < length xs → Seat N C
      own_seat [] none = absurd (omega arith)
      own_seat (y ∷ ys) some = y

  -- of another deque it stays told
  pub still_told : (workers blocks deque other : ℕ) (old new : List (Seat N C)) → deque < workers → deque ≢ other → length old ≡ workers → ((w : ℕ) (y : Seat N C) → w < workers → length (get_or old w y).lanes.items ≡ workers)
      → SameNotes other old new → HasTold workers blocks deque old → HasTold workers blocks deque new
  still_told workers blocks deque other old new low apart count sized same has =
      let s : Seat N C = own_seat old (omega arith) in
      let x : Lane N = first (get_or old 0 s).lanes.items (let z = sized 0 s (omega arith) in omega arith) in
      let alike : (f : Lane N → List ℕ) (w : ℕ) (y : Seat N C) → w < length old → get_or (map f (get_or new w y).lanes.items) deque [] ≡ get_or (map f (get_or old w y).lanes.items) deque [] =
      (λ f w y a.
      let b = same.beside w y a in
      let room : deque < length (get_or old w y).lanes.items = (let z = sized w y (omega arith) in omega arith) in
      let room' : deque < length (get_or new w y).lanes.items = (let c = b.count in omega arith) in
      get_or-map_at f (get_or new w y).lanes.items deque x [] room' ∙ ap f (b.lanes deque x apart) ∙ sym (get_or-map_at f (get_or old w y).lanes.items deque x [] room)) in
      record {
        told = λ h.
            (let left = sums_alike (λ t. sum_by h (get_or (marks_of blocks t) deque [])) (λ t. sum_by h (get_or (marks_of blocks t) deque [])) new old same.count (λ w y a. ap (sum_by h) (alike (λ l. noted blocks l.taken.items l.ended) w y a)) in
            let right = sums_alike (λ t. sum_by h (get_or (claims_of t) deque [])) (λ t. sum_by h (get_or (claims_of t) deque [])) new old same.count (λ w y a. ap (sum_by h) (alike (λ l. (claim_of l.reach).taken) w y a)) in
            let t = has.told h in
            omega arith);
        pushed =
            (let p : get_or (map pushes_of new) deque [] ≡ pushes_of (get_or new deque s) = get_or-map_at pushes_of new deque s [] (let c = same.count in omega arith) in
            let q : get_or (map pushes_of old) deque [] ≡ pushes_of (get_or old deque s) = get_or-map_at pushes_of old deque s [] (omega arith) in
            ap (λ l. get_or l deque []) p ∙ alike (λ l. (claim_of l.reach).pushed) deque s (omega arith) ∙ ap (λ l. get_or l deque []) (sym q) ∙ has.pushed);
      }
    where
      own_seat : (xs : List (Seat N C)) → 0 < length xs → Seat N C
      own_seat [] none = absurd (omega arith)
      own_seat (y ∷ ys) some = y
