-- A run between ends over memory of which no call is listed to fail.
use Rattle.std.proofs.Common.{◌≡◌, ℕ, ◌+◌, ◌-◌, ◌<◌, ◌≤◌, ◌==◌, Bool, true, false, cond, List, [], ◌∷◌, ◌++◌, length, take, Option, Some, None, inl, inr, ◌⊎◌, refl, sym, ap, subst, ◌∙◌, arith, append_assoc, append-nil, length-append}
use mathlib.Core.Bool.{true≢false}
use Rattle.std.specs.List.{concat}
use Rattle.std.proofs.lemmas.List.{take_all, take-append-le}
use Rattle.byte_ends.specs.Ends.{one_more}
use Rattle.byte_ends.specs.Memory.{IsListed, ReadsMemory, SinkState, SourceState, WritesMemory}
use Rattle.command_words.specs.Command.{reads_input, usage_line}
use Rattle.command_words.specs.declared.command.Command.{Command}
use Rattle.command_words.specs.declared.command.Mode.{Mode}
use Rattle.run_loop.specs.Headline.{written_status}
use Rattle.run_loop.specs.Laws.{has_blocks}
use Rattle.run_loop.specs.Order.{Comes, Event, Follows, FollowsUsage, IsBefore, Went, begun, due, with_read}
use Rattle.run_loop.specs.Order.Event.{Reading, Writing}
use Rattle.run_loop.specs.Closed.{closed}
use Rattle.run_loop.specs.Report.{blocks_in, report}
use Rattle.run_loop.specs.declared.reading.Ending.{Ending}
use Rattle.run_loop.specs.declared.reading.Ending.TheVariants.{Whole, Failed, TooLong, Open}
use Rattle.run_loop.proofs.RunFacts.{closed_stays, made_mode}
use Rattle.run_loop.specs.MemoryRuns.{IsCutShort, IsMemoryRun, MemoryRuns, ReadsSo, report_on}

-- no call is listed in an empty list
not_listed : (fails : List ℕ) (call : ℕ) → fails ≡ [] → IsListed fails call → ⊥
not_listed fails call none l = let low = l.1.1 in omega (arith, low, ap length none)

-- where the source stands, by what was read
abbrev Stands : ℕ → List ℕ → List ℕ → List ℕ → Ending → Type 0
Stands limit input left bytes Open = (length bytes ≤ limit) × (input ≡ bytes ++ left)
Stands limit input left bytes Whole = (length input ≤ limit) × (bytes ≡ input)
Stands limit input left bytes TooLong = (limit < length input) × (bytes ≡ take limit input)
Stands limit input left bytes Failed = ⊥

so_read : (limit : ℕ) (input left bytes : List ℕ) (ending : Ending) → Stands limit input left bytes ending → ReadsSo limit input bytes ending
so_read limit input left bytes Open st = (st.0, (left, st.1))
so_read limit input left bytes Whole st = st
so_read limit input left bytes TooLong st = st
so_read limit input left bytes Failed st = st

-- one read more
reads_one : (limit : ℕ) (input left more rest bytes : List ℕ) (how : Ending) → Stands limit input left bytes Open → left ≡ more ++ rest → (more ≡ [] → left ≡ [])
    → Comes limit bytes (Some more) how → Stands limit input rest (take limit (bytes ++ more)) how
reads_one limit input left more rest bytes Whole st first some comes =
    let all : input ≡ bytes = st.1 ∙ ap (λ xs. bytes ++ xs) (some comes) ∙ append-nil bytes in
    let same : take limit (bytes ++ more) ≡ bytes = ap (λ xs. take limit (bytes ++ xs)) comes ∙ ap (take limit) (append-nil bytes) ∙ take_all limit bytes st.0 in
    (subst (λ (xs : List ℕ). length xs ≤ limit) (sym all) st.0, same ∙ sym all)
reads_one limit input left more rest bytes TooLong st first some comes =
    let whole : input ≡ (bytes ++ more) ++ rest = st.1 ∙ ap (λ xs. bytes ++ xs) first ∙ sym (append_assoc bytes more rest) in
    let over = comes.1 in
    let long : limit < length input = omega (arith, over, ap length whole, length-append (bytes ++ more) rest) in
    (long, sym (take-append-le limit (bytes ++ more) rest (omega (arith, over))) ∙ ap (take limit) (sym whole))
reads_one limit input left more rest bytes Open st first some comes =
    let small = comes.2 in
    let same : take limit (bytes ++ more) ≡ bytes ++ more = take_all limit (bytes ++ more) small in
    rw same (small, st.1 ∙ ap (λ xs. bytes ++ xs) first ∙ sym (append_assoc bytes more rest))
reads_one limit input left more rest bytes Failed st first some comes = absurd comes

-- where a run stands between such ends, and what room the sink had
record StandsSo (limit room : ℕ) (asked : Command) (input : List ℕ) (faults : ℕ) (s : SourceState) (k : SinkState) (ending : Ending) (bytes wrote : List ℕ) : Type 0 where
  pub no_reads : s.fails ≡ []
  pub no_writes : k.fails ≡ []
  pub calm : s.faults ≡ faults
  pub taken : k.taken ≡ wrote
  pub rest : length wrote + k.room ≡ room
  pub opens : ending ≡ Open → reads_input asked.mode ≡ true
  pub reads : reads_input asked.mode ≡ true → Stands limit input s.left bytes ending

-- how it ends
record EndsSo (limit room : ℕ) (asked : Option Command) (input : List ℕ) (faults status : ℕ) (s : SourceState) (k : SinkState) : Type 0 where
  pub calm : s.faults ≡ faults
  pub within : length k.taken ≤ room
  pub full : status ≡ 4 → (length k.taken ≡ room) × IsCutShort limit asked input k.taken

not_full : (ending : Ending) (rejected : ℕ) → written_status ending rejected ≡ 4 → ⊥
not_full Whole rejected e = by_count (rejected == 0) e
  where
    by_count : (b : Bool) → ◌≡◌ {A = ℕ} (cond b 0 1) 4 → ⊥
    by_count true e = omega arith
    by_count false e = omega arith
not_full Failed rejected e = omega arith
not_full TooLong rejected e = omega arith
not_full Open rejected e = omega arith

ends_so : (limit room : ℕ) (asked : Command) (input : List ℕ) (faults status : ℕ) (s : SourceState) (k : SinkState) (ending : Ending) (bytes wrote : List ℕ) → StandsSo limit room asked input faults s k ending bytes wrote
    → (status ≡ 4 → ⊥) → EndsSo limit room (Some asked) input faults status s k
ends_so limit room asked input faults status s k ending bytes wrote st isnt = record {
  calm = st.calm;
  within = (let r = st.rest in omega (arith, r, ap length st.taken));
  full = λ is. absurd (isnt is);
}

-- what is left to do is done, from where a run stands
run_ends : (limit room : ℕ) (asked : Command) (input : List ℕ) (faults status : ℕ) (s' : SourceState) (k' : SinkState) (events : List Event) (ending : Ending) (bytes wrote : List ℕ) (s : SourceState) (k : SinkState)
    → StandsSo limit room asked input faults s k ending bytes wrote → Went ReadsMemory WritesMemory s k events s' k' → Follows limit asked ending bytes wrote events status
    → EndsSo limit room (Some asked) input faults status s' k'
run_ends limit room asked input faults status s' k' [] ending bytes wrote s k st went (inl f) =
    rw (went.0, went.1) (ends_so limit room asked input faults status s k ending bytes wrote st (λ is. not_full ending _ (sym f.2 ∙ is)))
run_ends limit room asked input faults status s' k' [] ending bytes wrote s k st went (inr f) =
    rw (went.0, went.1) (ends_so limit room asked input faults status s k ending bytes wrote st (λ is. (let six = f.0 in omega (arith, six, is))))
run_ends limit room asked input faults status s' k' (Reading None ∷ later) ending bytes wrote s k st went f =
    absurd (not_listed s.fails s.calls st.no_reads went.1.0)
run_ends limit room asked input faults status s' k' (Reading (Some more) ∷ later) ending bytes wrote s k st went f =
    let has = st.opens f.0 in
    let here = subst (λ (e : Ending). Stands limit input s.left bytes e) f.0 (st.reads has) in
    let given = went.1.2 in
    let next : went.0 ≡ record s { left = went.1.1; calls = one_more s.calls } = went.1.3 in
    let after = reads_one limit input s.left more went.1.1 bytes f.2 here given.first given.some f.3 in
    run_ends limit room asked input faults status s' k' later f.2 (with_read limit bytes (Some more)) wrote went.0 k (record {
      no_reads = ap (λ (x : SourceState). x.fails) next ∙ st.no_reads;
      no_writes = st.no_writes;
      calm = ap (λ (x : SourceState). x.faults) next ∙ st.calm;
      taken = st.taken;
      rest = st.rest;
      opens = λ _. has;
      reads = λ _. subst (λ (xs : List ℕ). Stands limit input xs (with_read limit bytes (Some more)) f.2) (sym (ap (λ (x : SourceState). x.left) next)) after;
    }) went.2 f.4
run_ends limit room asked input faults status s' k' (Writing (Some more) ∷ later) ending bytes wrote s k st went f =
    let few = went.1.2 in
    let next : went.0 ≡ record k { taken = k.taken ++ more; room = k.room - length more; calls = one_more k.calls } = went.1.3 in
    let less : length more ≤ k.room = omega (arith, few) in
    let r = st.rest in
    run_ends limit room asked input faults status s' k' later ending bytes (wrote ++ more) s went.0 (record {
      no_reads = st.no_reads;
      no_writes = ap (λ (x : SinkState). x.fails) next ∙ st.no_writes;
      calm = st.calm;
      taken = ap (λ (x : SinkState). x.taken) next ∙ ap (λ xs. xs ++ more) st.taken;
      rest = omega (arith, r, less, length-append wrote more, ap (λ (x : SinkState). x.room) next);
      opens = st.opens;
      reads = st.reads;
    }) went.2 f.2
run_ends limit room asked input faults status s' k' (Writing None ∷ later) ending bytes wrote s k st went f =
    let last : (s' ≡ s) × (k' ≡ went.0) = subst (λ (es : List Event). Went ReadsMemory WritesMemory s went.0 es s' k') f.1 went.2 in
    let same : k'.taken ≡ wrote = ap (λ (x : SinkState). x.taken) (last.1 ∙ went.1.2) ∙ st.taken in
    let none = no_room (went.1.0) in
    let r = st.rest in
    record {
      calm = ap (λ (x : SourceState). x.faults) last.0 ∙ st.calm;
      within = omega (arith, r, ap length same);
      full = λ _. (
        omega (arith, r, none, ap length same),
        (bytes, ending, (λ has. so_read limit input s.left bytes ending (st.reads has)), subst (λ (xs : List ℕ). IsBefore xs (due asked ending bytes)) (sym same) f.0),
      );
    }
  where
    no_room : (IsListed k.fails k.calls ⊎ (k.room ≡ 0)) → k.room ≡ 0
    no_room (inl listed) = absurd (not_listed k.fails k.calls st.no_writes listed)
    no_room (inr is) = is

-- the usage line
usage_ends : (limit room : ℕ) (input : List ℕ) (faults status : ℕ) (s' : SourceState) (k' : SinkState) (events : List Event) (wrote : List ℕ) (s : SourceState) (k : SinkState)
    → k.fails ≡ [] → s.faults ≡ faults → k.taken ≡ wrote → length wrote + k.room ≡ room → Went ReadsMemory WritesMemory s k events s' k' → FollowsUsage wrote events status
    → EndsSo limit room None input faults status s' k'
usage_ends limit room input faults status s' k' [] wrote s k none calm taken rest went (inl f) =
    rw (went.0, went.1) (record { calm = calm; within = omega (arith, rest, ap length taken); full = λ is. absurd (let two = f.1 in omega (arith, two, is)) })
usage_ends limit room input faults status s' k' [] wrote s k none calm taken rest went (inr f) =
    rw (went.0, went.1) (record { calm = calm; within = omega (arith, rest, ap length taken); full = λ is. absurd (let six = f.1 in omega (arith, six, is)) })
usage_ends limit room input faults status s' k' (Reading read ∷ later) wrote s k none calm taken rest went f = absurd f
usage_ends limit room input faults status s' k' (Writing (Some more) ∷ later) wrote s k none calm taken rest went f =
    let few = went.1.2 in
    let next : went.0 ≡ record k { taken = k.taken ++ more; room = k.room - length more; calls = one_more k.calls } = went.1.3 in
    let less : length more ≤ k.room = omega (arith, few) in
    usage_ends limit room input faults status s' k' later (wrote ++ more) s went.0 (ap (λ (x : SinkState). x.fails) next ∙ none) calm
    (ap (λ (x : SinkState). x.taken) next ∙ ap (λ xs. xs ++ more) taken) (omega (arith, rest, less, length-append wrote more, ap (λ (x : SinkState). x.room) next)) went.2 f.2
usage_ends limit room input faults status s' k' (Writing None ∷ later) wrote s k none calm taken rest went f =
    let last : (s' ≡ s) × (k' ≡ went.0) = subst (λ (es : List Event). Went ReadsMemory WritesMemory s went.0 es s' k') f.1 went.2 in
    let same : k'.taken ≡ wrote = ap (λ (x : SinkState). x.taken) (last.1 ∙ went.1.2) ∙ taken in
    let empty = no_room (went.1.0) in
    record {
      calm = ap (λ (x : SourceState). x.faults) last.0 ∙ calm;
      within = omega (arith, rest, ap length same);
      full = λ _. (omega (arith, rest, empty, ap length same), subst (λ (xs : List ℕ). IsBefore xs usage_line) (sym same) f.0);
    }
  where
    no_room : (IsListed k.fails k.calls ⊎ (k.room ≡ 0)) → k.room ≡ 0
    no_room (inl listed) = absurd (not_listed k.fails k.calls none listed)
    no_room (inr is) = is

-- what is due is no longer than the whole report, where the input is within the limit
due_small : (limit : ℕ) (asked : Command) (input bytes : List ℕ) (ending : Ending) → length input ≤ limit → ReadsSo limit input bytes ending → length (due asked ending bytes) ≤ length (report asked input)
due_small limit asked input bytes Whole small so = rw so.1 (omega arith)
due_small limit asked input bytes TooLong small so = absurd (let over = so.0 in omega (arith, over, small))
due_small limit asked input bytes Failed small so = absurd so
due_small limit asked input bytes Open small so = by_blocks (has_blocks asked.mode) refl
  where
    by_blocks : (has : Bool) → has_blocks asked.mode ≡ has → length (due asked Open bytes) ≤ length (report asked input)
    by_blocks true has =
        let stays = closed_stays asked bytes so.1.0 has in
        let whole : report asked input ≡ report asked (closed asked.mode bytes) ++ stays.0 = ap (report asked) so.1.1 ∙ stays.1 in
        rw has (omega (arith, ap length whole, length-append (report asked (closed asked.mode bytes)) stays.0))
    by_blocks false has = rw has (omega arith)

-- of hands that are made it is the report of no input
made_blocks : (m : Mode) (asked : Command) (bytes : List ℕ) → reads_input m ≡ false → blocks_in m asked bytes ≡ blocks_in m asked []
made_blocks m asked bytes none = ap (λ (m : Mode). blocks_in m asked bytes) (made_mode m none) ∙ sym (ap (λ (m : Mode). blocks_in m asked []) (made_mode m none))

made_report : (asked : Command) (bytes : List ℕ) → reads_input asked.mode ≡ false → report asked bytes ≡ report asked []
unfolding report
made_report asked bytes none = ap concat (made_blocks asked.mode asked bytes none)

made_small : (asked : Command) (ending : Ending) (bytes : List ℕ) → reads_input asked.mode ≡ false → length (due asked ending bytes) ≤ length (report asked [])
made_small asked Whole bytes none = rw (made_report asked bytes none) (omega arith)
made_small asked TooLong bytes none = rw (made_report asked (closed asked.mode bytes) none) (omega arith)
made_small asked Failed bytes none = rw (made_report asked (closed asked.mode bytes) none) (omega arith)
made_small asked Open bytes none = by_blocks (has_blocks asked.mode) refl
  where
    by_blocks : (has : Bool) → has_blocks asked.mode ≡ has → length (due asked Open bytes) ≤ length (report asked [])
    by_blocks true has = rw has (rw (made_report asked (closed asked.mode bytes) none) (omega arith))
    by_blocks false has = rw has (omega arith)

-- so where it fits into the room nothing is cut short
no_cut : (limit : ℕ) (asked : Option Command) (input room : List ℕ) → length input ≤ limit → length (report_on asked input) ≤ length room → IsCutShort limit asked input room → ⊥
no_cut limit None input room small fits cut = let some = cut.1 in omega (arith, some, fits, ap length cut.2, length-append room cut.0)
no_cut limit (Some asked) input room small fits cut = by_reads (reads_input asked.mode) refl
  where
    by_reads : (b : Bool) → reads_input asked.mode ≡ b → ⊥
    by_reads true has =
        let few = due_small limit asked input cut.0 cut.1 small (cut.2 has) in
        let room_is : length (report asked input) ≤ length room = rw has at fits in
        let more = cut.3 in
        let some = more.1 in
        omega (arith, few, room_is, some, ap length more.2, length-append room more.0)
    by_reads false none =
        let few = made_small asked cut.1 cut.0 none in
        let room_is : length (report asked []) ≤ length room = rw none at fits in
        let more = cut.3 in
        let some = more.1 in
        omega (arith, few, room_is, some, ap length more.2, length-append room more.0)

-- each run that is in order is such a run
begins : (limit : ℕ) (asked : Command) (s : SourceState) (k : SinkState) → s.fails ≡ [] → k.fails ≡ [] → k.taken ≡ [] → (b : Bool) → reads_input asked.mode ≡ b
    → StandsSo limit k.room asked s.left s.faults s k (begun asked.mode) [] []
begins limit asked s k no_reads no_writes empty true has =
    let is : begun asked.mode ≡ Open = rw has refl in
    record {
      no_reads = no_reads;
      no_writes = no_writes;
      calm = refl;
      taken = empty;
      rest = omega arith;
      opens = λ _. has;
      reads = λ _. subst (λ (e : Ending). Stands limit s.left s.left [] e) (sym is) (omega arith, refl);
    }
begins limit asked s k no_reads no_writes empty false none =
    let is : begun asked.mode ≡ Whole = rw none refl in
    record {
      no_reads = no_reads;
      no_writes = no_writes;
      calm = refl;
      taken = empty;
      rest = omega arith;
      opens = λ e. absurd (let both : Whole ≡ Open = sym is ∙ e in cc);
      reads = λ has. absurd (true≢false (sym has ∙ none));
    }

is_run : (limit : ℕ) (asked : Option Command) (status : ℕ) (s : SourceState) (k : SinkState) (s' : SourceState) (k' : SinkState) → EndsSo limit k.room asked s.left s.faults status s' k' → IsMemoryRun limit asked status s k s' k'
is_run limit asked status s k s' k' e = record {
  calm = e.calm;
  within = e.within;
  full = e.full;
  fits = λ small few is. (let f = e.full is in no_cut limit asked s.left k'.taken small (let size = f.0 in omega (arith, size, few)) f.1);
}

pub memory_runs : MemoryRuns
memory_runs limit None status s k s' k' no_reads no_writes empty o =
    is_run limit None status s k s' k' (usage_ends limit k.room s.left s.faults status s' k' o.0 [] s k no_writes refl empty (omega arith) o.1 o.2)
memory_runs limit (Some asked) status s k s' k' no_reads no_writes empty o =
    is_run limit (Some asked) status s k s' k'
    (run_ends limit k.room asked s.left s.faults status s' k' o.events (begun asked.mode) [] [] s k (begins limit asked s k no_reads no_writes empty (reads_input asked.mode) refl) o.went o.follows)
