-- A call of an end in memory does to the known bytes what a call of any end does.
use Rattle.std.proofs.Common.{ℕ, List, Option, Some, None, ap}
use Rattle.byte_ends.specs.Ends.{CountsFault, GivesFirst, TakesMore}
use Rattle.byte_ends.specs.Memory.{ReadsMemory, SinkState, SourceState, WritesMemory}

pub read_tells : (old new : SourceState) (read : Option (List ℕ)) → ReadsMemory old new read
    → GivesFirst (Some old.left) (Some new.left) read × CountsFault old.faults new.faults read
read_tells old new None r = (ap (λ (s : SourceState). Some s.left) r.2, r.1)
read_tells old new (Some bytes) r =
    ((r.1, ap (λ (s : SourceState). Some s.left) r.3, r.2.first, r.2.some), ap (λ (s : SourceState). s.faults) r.3)

pub write_tells : (old new : SinkState) (write : Option (List ℕ)) → WritesMemory old new write
    → TakesMore (Some old.taken) (Some new.taken) write × CountsFault old.faults new.faults write
write_tells old new None w = (ap (λ (s : SinkState). Some s.taken) w.2, w.1)
write_tells old new (Some bytes) w = (ap (λ (s : SinkState). Some s.taken) w.3, ap (λ (s : SinkState). s.faults) w.3)
