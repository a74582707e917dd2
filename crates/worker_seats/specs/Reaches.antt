-- One worker's way to one deque.
use Rattle.std.specs.Prelude.{◌≡◌, [], ⊤}
use Rattle.std.specs.Global.{Global}
use Rattle.atomic_blocks.specs.Lent.{RowsId}
use Rattle.crossbeam_deque.specs.Handles.{view, IsPassOf, worker_deque, stealer_deque, worker_view, worker_flavor, stealer_flavor}
use Rattle.worker_seats.specs.Claims.{claim}
use Rattle.worker_seats.specs.declared.claims.Claim.{Claim}
use Rattle.worker_seats.specs.declared.reaches.Reach.{Reach}
use Rattle.worker_seats.specs.declared.reaches.Reach.TheVariants.{Own, Other, Left}

module _ {N : Type 0} where
  -- what its pass knows
  abbrev pub claim_of : Reach N → Claim
  claim_of (Own owner) = worker_view owner
  claim_of (Other thief pass) = view pass
  claim_of Left = claim 0 [] []

  -- it leads to this deque, as its owner or as another worker
  abbrev pub IsOwn : RowsId × Global → Reach N → Type 0
  IsOwn deque (Own owner) = worker_deque owner ≡ deque
  IsOwn deque (Other thief pass) = ⊥
  IsOwn deque Left = ⊥

  abbrev pub IsOther : RowsId × Global → Reach N → Type 0
  IsOther deque (Own owner) = ⊥
  IsOther deque (Other thief pass) = stealer_deque thief ≡ deque
  IsOther deque Left = ⊥

  -- it leads to the same deque in the same way
  pub record StaysOf (old new : Reach N) : Type 0 where
    pub own : (deque : RowsId × Global) → IsOwn deque old → IsOwn deque new
    pub other : (deque : RowsId × Global) → IsOther deque old → IsOther deque new

  -- tasks leave at the front, and a pass is one of this deque
  abbrev pub IsOpen : Reach N → Type 0
  IsOpen (Own owner) = worker_flavor owner ≡ 0
  IsOpen (Other thief pass) = IsPassOf (stealer_deque thief) pass × (stealer_flavor thief ≡ 0)
  IsOpen Left = ⊤
