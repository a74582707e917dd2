-- The blocks of the units that were handed out: the first are written, and the others are gathered to be written together.
use Rattle.std.proofs.Common.{◌≡◌, ℕ, ◌+◌, ◌<◌, ◌≤◌, Bool, false, List, [], ◌∷◌, ◌++◌, Option, Some, None, Result, Ok, Err, inl, inr, refl, sym, ap, subst, ◌∙◌, arith, append_assoc, append-nil}
use Rattle.std.specs.List.{concat}
use Rattle.byte_ends.specs.Ends.{WritesOut}
use Rattle.card_sets.specs.declared.Memory.{Memory as NoMemory}
use Rattle.byte_ends.specs.declared.Failed.{Failed as Fault}
use Rattle.hand_cuts.specs.Units.{UnitLines}
use Rattle.hand_cuts.specs.CutterState.{CutterState}
use Rattle.hand_cuts.specs.Cutters.{seen}
use Rattle.hand_cuts.specs.declared.units.Unit.{Unit as UnitPlace}
use Rattle.hand_cuts.specs.declared.units.CutKind.{CutKind}
use Rattle.run_loop.specs.Cutting.{Cuts, PullsOne}
use Rattle.run_loop.specs.Gathering.{AsksOne, Gathers, WritesRest}
use Rattle.run_loop.specs.Headline.{written_status}
use Rattle.run_loop.specs.Order.{GoesOn, IsFront, due}
use Rattle.run_loop.specs.Reading.{reported}
use Rattle.run_loop.specs.Report.{rejects}
use Rattle.run_loop.specs.Reporting.{told_status}
use Rattle.run_loop.specs.UnitBlocks.{before, is_rejected_unit, block_kind_in, listed_kind, place_after, place_behind, rejected_units, unit_block, unit_blocks}
use Rattle.run_loop.specs.Units.{IsUnit, left_over, started}
use Rattle.run_loop.specs.Writing.{one_if}
use Rattle.command_words.specs.declared.command.Command.{Command}
use Rattle.run_loop.specs.declared.block_kinds.BlockKind.{BlockKind}
use Rattle.run_loop.specs.declared.reading.Ending.{Ending}
use Rattle.run_loop.specs.declared.reading.Ending.TheVariants.{Open}
use Rattle.run_loop.specs.declared.reading.Input.{Input}
use Rattle.run_loop.specs.declared.write_fault.WriteFault.{WriteFault}
use Rattle.run_loop.specs.declared.write_fault.WriteFault.TheVariants.{Failed, Memory}
use Rattle.run_loop.proofs.CuttingFacts.{cuts_start}
use Rattle.run_loop.proofs.InputPieces.{with}
use Rattle.run_loop.proofs.OrderFacts.{Leads, begins_before, begins_so_far, block_before, block_fails, front_of, reads_before, short_of, text, text_more, written_all}
use Rattle.run_loop.proofs.UnitFacts.{blocks-append, place-more, rejected-more, rejects_by_units}
use Rattle.run_loop.proofs.WriteFacts.{one_small}

-- of the blocks of the units that were handed out some first bytes are written and the rest is gathered, and what was done so far
-- is in order
pub record Gathered {S K : Type 0} (reads : S → S → Option (List ℕ) → Type 0) (writes : K → K → Option (List ℕ) → Type 0)
    (limit : ℕ) (asked : Command) (listed : BlockKind) (s0 : S) (k0 : K) (s : S) (k : K) (input : Input) (place rejected : ℕ) (ready : List ℕ) : Type 0 where
  pub bytes : List ℕ
  pub done : List UnitLines
  pub cuts : Cuts limit (listed_kind listed) input bytes done
  pub place_is : place ≡ place_after asked.form listed 1 done
  pub count : rejected ≡ rejected_units listed done
  pub room : place + left_over limit input ≤ limit + 1
  pub fewer : rejected < place
  pub wrote : List ℕ
  pub whole : text asked listed done ≡ wrote ++ ready
  pub leads : Leads reads writes limit asked s0 k0 input.ending bytes wrote s k

pub gathered_start : {S K : Type 0} (reads : S → S → Option (List ℕ) → Type 0) (writes : K → K → Option (List ℕ) → Type 0) (limit : ℕ) (asked : Command) (listed : BlockKind) (s : S) (k : K) (ready : List ℕ)
    → ready ≡ [] → Gathered reads writes limit asked listed s k s k (started (listed_kind listed)) 1 0 ready
gathered_start reads writes limit asked listed s k ready none = record {
  bytes = [];
  done = [];
  cuts = cuts_start limit (listed_kind listed);
  place_is = refl;
  count = refl;
  room = omega arith;
  fewer = omega arith;
  wrote = [];
  whole = sym none;
  leads = λ status s' k' g. g;
}

-- what is gathered is due
due_rest : {S K : Type 0} (reads : S → S → Option (List ℕ) → Type 0) (writes : K → K → Option (List ℕ) → Type 0) (limit : ℕ) (asked : Command) (listed : BlockKind) (s0 : S) (k0 : K) (s : S) (k : K) (input : Input) (place rejected : ℕ) (ready : List ℕ)
    → block_kind_in asked.mode ≡ Some listed → (o : Gathered reads writes limit asked listed s0 k0 s k input place rejected ready) → IsFront (o.wrote ++ ready) (due asked input.ending o.bytes)
due_rest reads writes limit asked listed s0 k0 s k input place rejected ready is o =
    subst (λ (xs : List ℕ). IsFront xs (due asked input.ending o.bytes)) o.whole
    (front_of asked listed input.ending o.bytes o.done is (begins_so_far limit (listed_kind listed) input o.bytes o.done o.cuts))

-- it is written, and the run goes on from there
rest_written : {S K : Type 0} (reads : S → S → Option (List ℕ) → Type 0) (writes : K → K → Option (List ℕ) → Type 0) (limit : ℕ) (asked : Command) (listed : BlockKind) (s0 : S) (k0 : K) (s : S) (k now : K) (input : Input) (place rejected : ℕ) (ready : List ℕ)
    → block_kind_in asked.mode ≡ Some listed → (o : Gathered reads writes limit asked listed s0 k0 s k input place rejected ready) → WritesOut writes k now ready (Ok tt)
    → (status : ℕ) (s' : S) (k' : K) → GoesOn reads writes limit asked input.ending o.bytes (text asked listed o.done) s now status s' k' → GoesOn reads writes limit asked Open [] [] s0 k0 status s' k'
rest_written {S} {K} reads writes limit asked listed s0 k0 s k now input place rejected ready is o written status s' k' g =
    let front = due_rest reads writes limit asked listed s0 k0 s k input place rejected ready is o in
    o.leads status s' k' (block_before reads writes limit asked input.ending o.bytes o.wrote ready s k now status s' k' front written
    (subst (λ (xs : List ℕ). GoesOn reads writes limit asked input.ending o.bytes xs s now status s' k') o.whole g))

-- a unit was handed out, whose block isn't made yet
pub record Taken {S K : Type 0} (reads : S → S → Option (List ℕ) → Type 0) (writes : K → K → Option (List ℕ) → Type 0)
    (limit : ℕ) (asked : Command) (listed : BlockKind) (s0 : S) (k0 : K) (s : S) (k : K) (input input' : Input) (place rejected : ℕ) (unit : UnitPlace) (ready : List ℕ) : Type 0 where
  pub bytes : List ℕ
  pub done : List UnitLines
  pub unit_is : IsUnit limit (listed_kind listed) input'.cutter.held unit
  pub cuts : Cuts limit (listed_kind listed) input' bytes (done ++ seen input'.cutter.held unit ∷ [])
  pub less : left_over limit input' < left_over limit input
  pub place_is : place ≡ place_after asked.form listed 1 done
  pub count : rejected ≡ rejected_units listed done
  pub room : place + left_over limit input' ≤ limit
  pub fewer : rejected < place
  pub wrote : List ℕ
  pub whole : text asked listed done ≡ wrote ++ ready
  pub leads : Leads reads writes limit asked s0 k0 input'.ending bytes wrote s k

taken : {S K : Type 0} (reads : S → S → Option (List ℕ) → Type 0) (writes : K → K → Option (List ℕ) → Type 0) (limit : ℕ) (asked : Command) (listed : BlockKind) (s0 : S) (k0 : K) (s new : S) (k now : K) (input input' : Input) (place rejected : ℕ)
    (unit : UnitPlace) (ready ready' : List ℕ) → block_kind_in asked.mode ≡ Some listed → (o : Gathered reads writes limit asked listed s0 k0 s k input place rejected ready)
    → AsksOne reads writes limit s new k now (listed_kind listed) input input' o.bytes o.done ready ready' (Ok (Some unit))
    → Taken reads writes limit asked listed s0 k0 new now input input' place rejected unit ready'
taken {S} {K} reads writes limit asked listed s0 k0 s new k now input input' place rejected unit ready ready' is o (inl h) =
    let over = h.4 in
    record {
      bytes = o.bytes;
      done = o.done;
      unit_is = over.unit_is;
      cuts = over.cuts;
      less = over.fewer;
      place_is = o.place_is;
      count = o.count;
      room = (let r = o.room in let f = over.fewer in omega arith);
      fewer = o.fewer;
      wrote = o.wrote;
      whole = o.whole ∙ ap (λ xs. o.wrote ++ xs) (sym h.2);
      leads = λ status s' k' g.
          let a = subst (λ (e : Ending). GoesOn reads writes limit asked e o.bytes o.wrote new now status s' k') h.3 g in
          let b = subst (λ (m : S). GoesOn reads writes limit asked input.ending o.bytes o.wrote m now status s' k') h.0 a in
          o.leads status s' k' (subst (λ (m : K). GoesOn reads writes limit asked input.ending o.bytes o.wrote s m status s' k') h.1 b);
    }
taken {S} {K} reads writes limit asked listed s0 k0 s new k now input input' place rejected unit ready ready' is o (inr r) =
    let p = r.2 in
    let over = p.hands.1 in
    record {
      bytes = p.behind;
      done = o.done;
      unit_is = over.unit_is;
      cuts = over.cuts;
      less = over.fewer;
      place_is = o.place_is;
      count = o.count;
      room = (let m = o.room in let f = over.fewer in omega arith);
      fewer = o.fewer;
      wrote = text asked listed o.done;
      whole = sym (append-nil (text asked listed o.done)) ∙ ap (λ xs. text asked listed o.done ++ xs) (sym r.1);
      leads = λ status s' k' g.
          let a = subst (λ (e : Ending). GoesOn reads writes limit asked e p.behind (text asked listed o.done) new now status s' k') p.hands.0 g in
          rest_written reads writes limit asked listed s0 k0 s k now input place rejected ready is o r.0 status s' k'
          (reads_before reads writes limit asked listed o.done is s input.ending o.bytes p.made new p.ending p.behind now status s' k' p.order a);
    }

-- what was gathered is written, and then a unit is read for
pub asks_read : {S K : Type 0} (reads : S → S → Option (List ℕ) → Type 0) (writes : K → K → Option (List ℕ) → Type 0) (limit : ℕ) (s new : S) (k now : K) (kind : CutKind) (input input' : Input) (bytes : List ℕ) (done : List UnitLines)
    (ready ready' : List ℕ) (next : Option UnitPlace) → ready' ≡ [] → WritesOut writes k now ready (Ok tt) → PullsOne reads limit s new kind input input' bytes done (Ok next)
    → AsksOne reads writes limit s new k now kind input input' bytes done ready ready' (Ok next)
asks_read reads writes limit s new k now kind input input' bytes done ready ready' None none written p = (written, p)
asks_read reads writes limit s new k now kind input input' bytes done ready ready' (Some unit) none written p = inr (written, none, p)

-- an input whose cutter was asked in vain is as it was
pub pulls_same : {S : Type 0} (reads : S → S → Option (List ℕ) → Type 0) (limit : ℕ) (old new : S) (kind : CutKind) (input after : Input) (cutter : CutterState) (bytes : List ℕ) (done : List UnitLines) (result : Result (Option UnitPlace) NoMemory) → cutter ≡ input.cutter
    → Cuts limit kind input bytes done → (Cuts limit kind (with cutter input.ending) bytes done → PullsOne reads limit old new kind (with cutter input.ending) after bytes done result) → PullsOne reads limit old new kind input after bytes done result
pulls_same reads limit old new kind input after cutter bytes done result same s pulls =
    subst (λ (c : CutterState). Cuts limit kind (with c input.ending) bytes done → PullsOne reads limit old new kind (with c input.ending) after bytes done result) same pulls s

-- what was gathered is written, and memory runs out when a unit is read for
pub asks_short : {S K : Type 0} (reads : S → S → Option (List ℕ) → Type 0) (writes : K → K → Option (List ℕ) → Type 0) (limit : ℕ) (s new : S) (k now : K) (kind : CutKind) (input input' : Input) (bytes : List ℕ) (done : List UnitLines)
    (ready ready' : List ℕ) (why : NoMemory) → WritesOut writes k now ready (Ok tt) → PullsOne reads limit s new kind input input' bytes done (Err why)
    → AsksOne reads writes limit s new k now kind input input' bytes done ready ready' (Err Memory)
asks_short reads writes limit s new k now kind input input' bytes done ready ready' why written p = (p.made, p.ending, p.behind, written, p.order, p.hands)

-- the same of a unit that was asked for
pub taken_next : {S K : Type 0} (reads : S → S → Option (List ℕ) → Type 0) (writes : K → K → Option (List ℕ) → Type 0) (limit : ℕ) (asked : Command) (listed : BlockKind) (s0 : S) (k0 : K) (s new : S) (k now : K) (input input' : Input) (place rejected : ℕ)
    (next : Option UnitPlace) (unit : UnitPlace) (ready ready' : List ℕ) → block_kind_in asked.mode ≡ Some listed → (o : Gathered reads writes limit asked listed s0 k0 s k input place rejected ready) → next ≡ Some unit
    → AsksOne reads writes limit s new k now (listed_kind listed) input input' o.bytes o.done ready ready' (Ok next) → Taken reads writes limit asked listed s0 k0 new now input input' place rejected unit ready'
taken_next reads writes limit asked listed s0 k0 s new k now input input' place rejected next unit ready ready' is o came asks =
    taken reads writes limit asked listed s0 k0 s new k now input input' place rejected unit ready ready' is o (rw came at asks)

-- the unit has no block
pub taken_passed : {S K : Type 0} (reads : S → S → Option (List ℕ) → Type 0) (writes : K → K → Option (List ℕ) → Type 0) (limit : ℕ) (asked : Command) (listed : BlockKind) (s0 : S) (k0 : K) (s : S) (k : K) (input input' : Input) (place rejected : ℕ)
    (unit : UnitPlace) (ready : List ℕ) → (t : Taken reads writes limit asked listed s0 k0 s k input input' place rejected unit ready)
    → unit_block asked.form listed place (seen input'.cutter.held unit) ≡ None → is_rejected_unit listed (seen input'.cutter.held unit) ≡ false
    → Gathered reads writes limit asked listed s0 k0 s k input' place rejected ready
taken_passed reads writes limit asked listed s0 k0 s k input input' place rejected unit ready t made fine =
    let u = seen input'.cutter.held unit in
    let form = asked.form in
    let none : unit_blocks form listed 1 (t.done ++ u ∷ []) ≡ unit_blocks form listed 1 t.done =
    blocks-append form listed 1 t.done (u ∷ []) ∙ ap (λ n. unit_blocks form listed 1 t.done ++ before (unit_block form listed n u) []) (sym t.place_is) ∙ ap (λ b. unit_blocks form listed 1 t.done ++ before b []) made ∙ append-nil (unit_blocks form listed 1 t.done) in
    record {
      bytes = t.bytes;
      done = t.done ++ u ∷ [];
      cuts = t.cuts;
      place_is = sym (place-more form listed 1 t.done u ∙ ap (λ n. place_behind n (unit_block form listed n u)) (sym t.place_is) ∙ ap (place_behind place) made);
      count = t.count ∙ sym (rejected-more listed t.done u ∙ ap (λ b. rejected_units listed t.done + one_if b) fine ∙ (let e : rejected_units listed t.done + 0 ≡ rejected_units listed t.done = omega arith in e));
      room = (let r = t.room in omega arith);
      fewer = t.fewer;
      wrote = t.wrote;
      whole = ap concat none ∙ t.whole;
      leads = t.leads;
    }

-- the block of the unit is made: with what is gathered it is the rest of what its units say, and due
block_whole : {S K : Type 0} (reads : S → S → Option (List ℕ) → Type 0) (writes : K → K → Option (List ℕ) → Type 0) (limit : ℕ) (asked : Command) (listed : BlockKind) (s0 : S) (k0 : K) (s : S) (k : K) (input input' : Input) (place rejected : ℕ)
    (unit : UnitPlace) (ready block : List ℕ) → (t : Taken reads writes limit asked listed s0 k0 s k input input' place rejected unit ready)
    → unit_block asked.form listed place (seen input'.cutter.held unit) ≡ Some block
    → text asked listed (t.done ++ seen input'.cutter.held unit ∷ []) ≡ t.wrote ++ (ready ++ block)
block_whole reads writes limit asked listed s0 k0 s k input input' place rejected unit ready block t made =
    text_more asked listed t.done (seen input'.cutter.held unit) place block t.place_is made ∙ ap (λ xs. xs ++ block) t.whole ∙ append_assoc t.wrote ready block

block_due : {S K : Type 0} (reads : S → S → Option (List ℕ) → Type 0) (writes : K → K → Option (List ℕ) → Type 0) (limit : ℕ) (asked : Command) (listed : BlockKind) (s0 : S) (k0 : K) (s : S) (k : K) (input input' : Input) (place rejected : ℕ)
    (unit : UnitPlace) (ready block : List ℕ) → block_kind_in asked.mode ≡ Some listed → (t : Taken reads writes limit asked listed s0 k0 s k input input' place rejected unit ready)
    → unit_block asked.form listed place (seen input'.cutter.held unit) ≡ Some block → IsFront (t.wrote ++ (ready ++ block)) (due asked input'.ending t.bytes)
block_due reads writes limit asked listed s0 k0 s k input input' place rejected unit ready block is t made =
    let done = t.done ++ seen input'.cutter.held unit ∷ [] in
    subst (λ (xs : List ℕ). IsFront xs (due asked input'.ending t.bytes)) (block_whole reads writes limit asked listed s0 k0 s k input input' place rejected unit ready block t made)
    (front_of asked listed input'.ending t.bytes done is (begins_so_far limit (listed_kind listed) input' t.bytes done t.cuts))

-- it is gathered, or written with what was
pub taken_more : {S K : Type 0} (reads : S → S → Option (List ℕ) → Type 0) (writes : K → K → Option (List ℕ) → Type 0) (limit : ℕ) (asked : Command) (listed : BlockKind) (s0 : S) (k0 : K) (s : S) (k now : K) (input input' : Input) (place rejected : ℕ)
    (unit : UnitPlace) (ready ready' block : List ℕ) (told : Bool) → block_kind_in asked.mode ≡ Some listed → (t : Taken reads writes limit asked listed s0 k0 s k input input' place rejected unit ready)
    → unit_block asked.form listed place (seen input'.cutter.held unit) ≡ Some block → is_rejected_unit listed (seen input'.cutter.held unit) ≡ told
    → Gathers writes k now block ready ready' (Ok tt)
    → Gathered reads writes limit asked listed s0 k0 s now input' (place + 1) (rejected + one_if told) ready'
taken_more {S} {K} reads writes limit asked listed s0 k0 s k now input input' place rejected unit ready ready' block told is t made is_told (inl w) =
    let u = seen input'.cutter.held unit in
    let form = asked.form in
    record {
      bytes = t.bytes;
      done = t.done ++ u ∷ [];
      cuts = t.cuts;
      place_is = sym (place-more form listed 1 t.done u ∙ ap (λ n. place_behind n (unit_block form listed n u)) (sym t.place_is) ∙ ap (place_behind place) made);
      count = ap (λ n. n + one_if told) t.count ∙ sym (rejected-more listed t.done u ∙ ap (λ b. rejected_units listed t.done + one_if b) is_told);
      room = (let r = t.room in omega arith);
      fewer = (let small : one_if told ≤ 1 = one_small told in let f = t.fewer in omega arith);
      wrote = t.wrote;
      whole = block_whole reads writes limit asked listed s0 k0 s k input input' place rejected unit ready block t made ∙ ap (λ xs. t.wrote ++ xs) (sym w.1);
      leads = λ status s' k' g. t.leads status s' k' (subst (λ (m : K). GoesOn reads writes limit asked input'.ending t.bytes t.wrote s m status s' k') w.0 g);
    }
taken_more {S} {K} reads writes limit asked listed s0 k0 s k now input input' place rejected unit ready ready' block told is t made is_told (inr w) =
    let u = seen input'.cutter.held unit in
    let form = asked.form in
    let all = text asked listed (t.done ++ u ∷ []) in
    record {
      bytes = t.bytes;
      done = t.done ++ u ∷ [];
      cuts = t.cuts;
      place_is = sym (place-more form listed 1 t.done u ∙ ap (λ n. place_behind n (unit_block form listed n u)) (sym t.place_is) ∙ ap (place_behind place) made);
      count = ap (λ n. n + one_if told) t.count ∙ sym (rejected-more listed t.done u ∙ ap (λ b. rejected_units listed t.done + one_if b) is_told);
      room = (let r = t.room in omega arith);
      fewer = (let small : one_if told ≤ 1 = one_small told in let f = t.fewer in omega arith);
      wrote = all;
      whole = sym (append-nil all) ∙ ap (λ xs. all ++ xs) (sym w.1);
      leads = λ status s' k' g.
          let front = block_due reads writes limit asked listed s0 k0 s k input input' place rejected unit ready block is t made in
          let same = block_whole reads writes limit asked listed s0 k0 s k input input' place rejected unit ready block t made in
          t.leads status s' k' (block_before reads writes limit asked input'.ending t.bytes t.wrote (ready ++ block) s k now status s' k' front w.0
          (subst (λ (xs : List ℕ). GoesOn reads writes limit asked input'.ending t.bytes xs s now status s' k') same g));
    }

-- or a write fails
pub taken_failed : {S K : Type 0} (reads : S → S → Option (List ℕ) → Type 0) (writes : K → K → Option (List ℕ) → Type 0) (limit : ℕ) (asked : Command) (listed : BlockKind) (s0 : S) (k0 : K) (s : S) (k now : K) (input input' : Input) (place rejected : ℕ)
    (unit : UnitPlace) (ready block : List ℕ) (fault : Fault) → block_kind_in asked.mode ≡ Some listed → (t : Taken reads writes limit asked listed s0 k0 s k input input' place rejected unit ready)
    → unit_block asked.form listed place (seen input'.cutter.held unit) ≡ Some block → WritesOut writes k now (ready ++ block) (Err fault)
    → GoesOn reads writes limit asked Open [] [] s0 k0 4 s now
taken_failed reads writes limit asked listed s0 k0 s k now input input' place rejected unit ready block fault is t made written =
    let front = block_due reads writes limit asked listed s0 k0 s k input input' place rejected unit ready block is t made in
    t.leads 4 s now (block_fails reads writes limit asked input'.ending t.bytes t.wrote (ready ++ block) s k now fault front written)

-- or memory ran out for it, and the rest of what was gathered is written
pub taken_short : {S K : Type 0} (reads : S → S → Option (List ℕ) → Type 0) (writes : K → K → Option (List ℕ) → Type 0) (limit : ℕ) (asked : Command) (listed : BlockKind) (s0 : S) (k0 : K) (s : S) (k now : K) (input input' : Input) (place rejected : ℕ)
    (unit : UnitPlace) (ready : List ℕ) (ending : Ending) (short : WriteFault) → block_kind_in asked.mode ≡ Some listed → (t : Taken reads writes limit asked listed s0 k0 s k input input' place rejected unit ready)
    → WritesRest writes k now ready short → GoesOn reads writes limit asked Open [] [] s0 k0 (told_status ending (Err short)) s now
taken_short {S} {K} reads writes limit asked listed s0 k0 s k now input input' place rejected unit ready ending Memory is t written =
    let u = seen input'.cutter.held unit in
    let b = begins_before (listed_kind listed) input'.ending t.bytes t.done u (begins_so_far limit (listed_kind listed) input' t.bytes (t.done ++ u ∷ []) t.cuts) in
    let front = subst (λ (xs : List ℕ). IsFront xs (due asked input'.ending t.bytes)) t.whole (front_of asked listed input'.ending t.bytes t.done is b) in
    let last = short_of reads writes limit asked listed s now input'.ending t.bytes t.done is b in
    t.leads 6 s now (block_before reads writes limit asked input'.ending t.bytes t.wrote ready s k now 6 s now front written
    (subst (λ (xs : List ℕ). GoesOn reads writes limit asked input'.ending t.bytes xs s now 6 s now) t.whole last))
taken_short {S} {K} reads writes limit asked listed s0 k0 s k now input input' place rejected unit ready ending Failed is t written =
    let u = seen input'.cutter.held unit in
    let b = begins_before (listed_kind listed) input'.ending t.bytes t.done u (begins_so_far limit (listed_kind listed) input' t.bytes (t.done ++ u ∷ []) t.cuts) in
    let front = subst (λ (xs : List ℕ). IsFront xs (due asked input'.ending t.bytes)) t.whole (front_of asked listed input'.ending t.bytes t.done is b) in
    t.leads 4 s now (block_fails reads writes limit asked input'.ending t.bytes t.wrote ready s k now written.0 front written.1)

-- no unit is left, and the reading has ended
pub gathered_ended : {S K : Type 0} (reads : S → S → Option (List ℕ) → Type 0) (writes : K → K → Option (List ℕ) → Type 0) (limit : ℕ) (asked : Command) (listed : BlockKind) (s0 : S) (k0 : K) (s new : S) (k now : K) (input input' : Input) (place rejected : ℕ) (ready ready' : List ℕ)
    → block_kind_in asked.mode ≡ Some listed → (o : Gathered reads writes limit asked listed s0 k0 s k input place rejected ready)
    → AsksOne reads writes limit s new k now (listed_kind listed) input input' o.bytes o.done ready ready' (Ok None)
    → GoesOn reads writes limit asked Open [] [] s0 k0 (written_status input'.ending rejected) new now
unfolding rejects
gathered_ended {S} {K} reads writes limit asked listed s0 k0 s new k now input input' place rejected ready ready' is o a =
    let p = a.1 in
    let status = written_status input'.ending rejected in
    let all : rejects asked (reported asked.mode p.ending p.behind) ≡ rejected = rejects_by_units asked asked.mode listed p.ending p.behind is ∙ ap (rejected_units listed) p.hands.2 ∙ sym o.count in
    let same : status ≡ written_status p.ending (rejects asked (reported asked.mode p.ending p.behind)) = ap (λ (e : Ending). written_status e rejected) p.hands.0 ∙ ap (written_status p.ending) (sym all) in
    let c : GoesOn reads writes limit asked p.ending p.behind (text asked listed o.done) new now status new now = record {
      events = [];
      went = (refl, refl);
      follows = inl (p.hands.1, written_all asked listed p.ending p.behind o.done is p.hands.2, same);
    } in
    rest_written reads writes limit asked listed s0 k0 s k now input place rejected ready is o a.0 status new now
    (reads_before reads writes limit asked listed o.done is s input.ending o.bytes p.made new p.ending p.behind now status new now p.order c)

-- a write of what was gathered fails, or memory runs out when it is written
pub gathered_stops : {S K : Type 0} (reads : S → S → Option (List ℕ) → Type 0) (writes : K → K → Option (List ℕ) → Type 0) (limit : ℕ) (asked : Command) (listed : BlockKind) (s0 : S) (k0 : K) (s new : S) (k now : K) (input input' : Input) (place rejected : ℕ) (ready ready' : List ℕ)
    (ending : Ending) (why : WriteFault) → block_kind_in asked.mode ≡ Some listed → (o : Gathered reads writes limit asked listed s0 k0 s k input place rejected ready)
    → AsksOne reads writes limit s new k now (listed_kind listed) input input' o.bytes o.done ready ready' (Err why)
    → GoesOn reads writes limit asked Open [] [] s0 k0 (told_status ending (Err why)) new now
gathered_stops {S} {K} reads writes limit asked listed s0 k0 s new k now input input' place rejected ready ready' ending Failed is o a =
    let front = due_rest reads writes limit asked listed s0 k0 s k input place rejected ready is o in
    subst (λ (m : S). GoesOn reads writes limit asked Open [] [] s0 k0 4 m now) (sym a.1)
    (o.leads 4 s now (block_fails reads writes limit asked input.ending o.bytes o.wrote ready s k now a.0 front a.2))
gathered_stops {S} {K} reads writes limit asked listed s0 k0 s new k now input input' place rejected ready ready' ending Memory is o a =
    rest_written reads writes limit asked listed s0 k0 s k now input place rejected ready is o a.3 6 new now
    (reads_before reads writes limit asked listed o.done is s input.ending o.bytes a.0 new a.1 a.2 now 6 new now a.4
    (short_of reads writes limit asked listed new now a.1 a.2 o.done is a.5))
