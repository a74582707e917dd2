-- A run that is in order is a run: what its events do to both ends is what the ends tell.
use Rattle.std.proofs.Common.{◌≡◌, ℕ, ◌+◌, ◌<◌, ◌≤◌, ◌==◌, Bool, true, false, cond, List, [], ◌∷◌, ◌++◌, length, take, Option, Some, None, inl, inr, ◌⊎◌, refl, sym, ap, subst, ◌∙◌, arith, append_assoc, append-nil, length-append}
use mathlib.Core.Bool.{true≢false}
use Rattle.std.specs.List.{concat}
use Rattle.std.proofs.lemmas.List.{take_all}
use Rattle.std.proofs.Math.Seq.{take-append_seam}
use Rattle.byte_ends.specs.Ends.{CountsFault, GivesFirst, Rises, TakesMore, WritesAll, WritesFront}
use Rattle.command_words.specs.Command.{reads_input}
use Rattle.run_loop.specs.Headline.{Ends, IsMemoryShort, IsRun, written_status, ends_of}
use Rattle.run_loop.specs.Laws.{has_blocks}
use Rattle.run_loop.specs.Order.{Comes, Event, Follows, FollowsUsage, IsBefore, IsInOrder, Went, begun, due, with_read}
use Rattle.run_loop.specs.Order.Event.{Reading, Writing}
use Rattle.run_loop.specs.Reading.{Counted, EndsSo, ReadWhole, Takes, piece, reported}
use Rattle.run_loop.specs.Report.{blocks, report, rejects}
use Rattle.command_words.specs.declared.command.Command.{Command}
use Rattle.run_loop.specs.declared.reading.Ending.{Ending}
use Rattle.run_loop.specs.declared.reading.Ending.TheVariants.{Whole, Failed, TooLong, Open}
use Rattle.run_loop.proofs.RunEnds.{run_finished, run_memory, run_usage, run_usage_fault, run_usage_short, run_write_fault}
use Rattle.run_loop.proofs.RunFacts.{counts_none, run_written, takes_none, zero_or_one}
use Rattle.run_loop.proofs.WriteFacts.{writes_join, writes_none}

-- what was taken so far, and what one more read gave
takes_more : (old mid new : Option (List ℕ)) (so_far more : List ℕ) → Takes old mid so_far → GivesFirst mid new (Some more) → Takes old new (so_far ++ more)
takes_more None None new so_far more t g = g
takes_more None (Some left) new so_far more t g = cc
takes_more (Some all) None new so_far more t g = let e = t.1 in cc
takes_more (Some all) (Some left) new so_far more t g =
    let same : left ≡ t.0 = (let e = t.1 in cc) in
    (g.0, g.1, t.2 ∙ ap (λ rest. so_far ++ rest) (sym same ∙ g.2) ∙ sym (append_assoc so_far more g.0))

-- a read that failed
stays : (mid new : Option (List ℕ)) → GivesFirst mid new None → new ≡ mid
stays None new g = g
stays (Some left) new g = g

-- the end of the input
takes_whole : (limit : ℕ) (old mid new : Option (List ℕ)) (so_far more : List ℕ) → Takes old mid so_far → GivesFirst mid new (Some more) → more ≡ [] → length so_far ≤ limit → ReadWhole limit old new so_far
takes_whole limit None None new so_far more t g none small = g
takes_whole limit None (Some left) new so_far more t g none small = cc
takes_whole limit (Some all) None new so_far more t g none small = let e = t.1 in cc
takes_whole limit (Some all) (Some left) new so_far more t g none small =
    let same : left ≡ t.0 = (let e = t.1 in cc) in
    let empty : left ≡ [] = g.3 none in
    let rest : g.0 ≡ [] = ap (λ front. front ++ g.0) (sym none) ∙ sym g.2 ∙ empty in
    let whole : all ≡ so_far = t.2 ∙ ap (λ left. so_far ++ left) (sym same ∙ empty) ∙ append-nil so_far in
    (sym whole, g.1 ∙ ap Some rest, rw whole small)

-- how the reading stands, as the ends tell it
record ReadSo (limit : ℕ) (old : Ends) (left : Option (List ℕ)) (faults : ℕ) (bytes : List ℕ) (ending : Ending) : Type 0 where
  pub counted : Counted limit old.left left bytes
  pub ends : EndsSo limit old.left left old.read_faults faults bytes ending

-- one read more
read_more : (limit : ℕ) (old : Ends) (left left' : Option (List ℕ)) (faults faults' : ℕ) (bytes : List ℕ) (read : Option (List ℕ)) (how : Ending) → ReadSo limit old left faults bytes Open
    → GivesFirst left left' read → CountsFault faults faults' read → Comes limit bytes read how → ReadSo limit old left' faults' (with_read limit bytes read) how
read_more limit old left left' faults faults' bytes None Failed r gives counts comes =
    let same = stays left left' gives in
    let now : Takes old.left left' bytes = rw same r.ends.0.takes in
    let small = r.ends.0.within in
    record {
      counted = (bytes, now, sym (take_all limit bytes small), omega (arith, small));
      ends = (record { takes = now; within = small }, subst (λ (n : ℕ). Rises n faults') r.ends.1 counts);
    }
read_more limit old left left' faults faults' bytes None Whole r gives counts comes = absurd (cc)
read_more limit old left left' faults faults' bytes None TooLong r gives counts comes = absurd (cc)
read_more limit old left left' faults faults' bytes None Open r gives counts comes = absurd (cc)
read_more limit old left left' faults faults' bytes (Some more) Failed r gives counts comes = absurd comes
read_more limit old left left' faults faults' bytes (Some more) Whole r gives counts comes =
    let small = r.ends.0.within in
    let same : take limit (bytes ++ more) ≡ bytes = ap (λ front. take limit (bytes ++ front)) comes ∙ ap (take limit) (append-nil bytes) ∙ take_all limit bytes small in
    let size : length more ≡ 0 = ap length comes in
    record {
      counted = (bytes ++ more, takes_more old.left left left' bytes more r.ends.0.takes gives, refl, omega (arith, length-append bytes more, small, size));
      ends = rw same (takes_whole limit old.left left left' bytes more r.ends.0.takes gives comes small, counts ∙ r.ends.1);
    }
read_more limit old left left' faults faults' bytes (Some more) TooLong r gives counts comes =
    let small = r.ends.0.within in
    let takes = takes_more old.left left left' bytes more r.ends.0.takes gives in
    let short = comes.0 in
    let near : length (bytes ++ more) ≤ limit + piece = omega (arith, length-append bytes more, small, short) in
    record {
      counted = (bytes ++ more, takes, refl, near);
      ends = (record { taken = bytes ++ more; takes = takes; over = comes.1; near = near; first = refl }, counts ∙ r.ends.1);
    }
read_more limit old left left' faults faults' bytes (Some more) Open r gives counts comes =
    let takes = takes_more old.left left left' bytes more r.ends.0.takes gives in
    let small = comes.2 in
    let same : take limit (bytes ++ more) ≡ bytes ++ more = take_all limit (bytes ++ more) small in
    record {
      counted = (bytes ++ more, takes, refl, omega (arith, small));
      ends = rw same (record { takes = takes; within = small }, counts ∙ r.ends.1);
    }

-- what was taken so far, and what one more write took
writes_more : (mid new : Option (List ℕ)) (more : List ℕ) → TakesMore mid new (Some more) → WritesAll mid new more
writes_more None new more t = t
writes_more (Some taken) new more t = t

writes_nothing : (old new : Option (List ℕ)) → WritesAll old new [] → new ≡ old
writes_nothing None new w = w
writes_nothing (Some taken) new w = w ∙ ap Some (append-nil taken)

keeps : (mid new : Option (List ℕ)) → TakesMore mid new None → new ≡ mid
keeps None new t = t
keeps (Some taken) new t = t

-- what was taken is a front of what stands before more
writes_front : (old new : Option (List ℕ)) (front more : List ℕ) → WritesAll old new front → WritesFront old new (front ++ more)
writes_front None new front more w = w
writes_front (Some taken) new front more w = (length front, omega (arith, length-append front more), w ∙ ap (λ xs. Some (taken ++ xs)) (sym (take-append_seam front more)))

-- what is due, where there is some
due_some : (asked : Command) (ending : Ending) (bytes wrote more : List ℕ) → 0 < length more → due asked ending bytes ≡ wrote ++ more → (due asked ending bytes ≡ report asked (reported asked.mode ending bytes)) × (ending ≡ Open → has_blocks asked.mode ≡ true)
due_some asked Whole bytes wrote more some same = (refl, λ e. absurd (cc))
due_some asked Failed bytes wrote more some same = (refl, λ e. absurd (cc))
due_some asked TooLong bytes wrote more some same = (refl, λ e. absurd (cc))
due_some asked Open bytes wrote more some same = by_blocks (has_blocks asked.mode) refl
  where
    by_blocks : (has : Bool) → has_blocks asked.mode ≡ has → (due asked Open bytes ≡ report asked (reported asked.mode Open bytes)) × (Open ≡ Open → has_blocks asked.mode ≡ true)
    by_blocks true has = (rw has refl, λ _. has)
    by_blocks false has =
        let none : [] ≡ wrote ++ more = rw has at same in
        absurd (omega (arith, some, ap length none, length-append wrote more))

due_ended : (asked : Command) (ending : Ending) (bytes : List ℕ) → (ending ≡ Open → ⊥) → due asked ending bytes ≡ report asked (reported asked.mode ending bytes)
due_ended asked Whole bytes e = refl
due_ended asked Failed bytes e = refl
due_ended asked TooLong bytes e = refl
due_ended asked Open bytes e = absurd (e refl)

-- where nothing is due while the reading goes on, nothing is written
abbrev pub IsQuiet : Command → Ending → List ℕ → Type 0
IsQuiet asked ending wrote = ending ≡ Open → has_blocks asked.mode ≡ false → wrote ≡ []

-- where a run stands that has read some bytes and written some, as the ends tell it
record StandsSo (limit : ℕ) (asked : Command) (old now : Ends) (ending : Ending) (bytes wrote : List ℕ) : Type 0 where
  pub reads : reads_input asked.mode ≡ true → ReadSo limit old now.left now.read_faults bytes ending
  pub counted : Counted limit old.left now.left bytes
  pub unread : reads_input asked.mode ≡ false → (now.left ≡ old.left) × (now.read_faults ≡ old.read_faults) × (ending ≡ Whole)
  pub open_reads : ending ≡ Open → reads_input asked.mode ≡ true
  pub quiet : IsQuiet asked ending wrote
  pub written : WritesAll old.taken now.taken wrote
  pub calm : now.write_faults ≡ old.write_faults

-- one read and one write do to what is told what they do at any end
abbrev pub ReadsTell : {S : Type 0} → (S → S → Option (List ℕ) → Type 0) → (S → Option (List ℕ)) → (S → ℕ) → Type 0
ReadsTell {S} reads left faults = (old new : S) (read : Option (List ℕ)) → reads old new read → GivesFirst (left old) (left new) read × CountsFault (faults old) (faults new) read

abbrev pub WritesTell : {K : Type 0} → (K → K → Option (List ℕ) → Type 0) → (K → Option (List ℕ)) → (K → ℕ) → Type 0
WritesTell {K} writes taken bad = (old new : K) (write : Option (List ℕ)) → writes old new write → TakesMore (taken old) (taken new) write × CountsFault (bad old) (bad new) write

-- the report was written
written_told : (limit : ℕ) (asked : Command) (old now : Ends) (ending : Ending) (bytes wrote : List ℕ) → StandsSo limit asked old now ending bytes wrote → (ending ≡ Open → ⊥) → wrote ≡ due asked ending bytes
    → IsRun limit (Some asked) (written_status ending (rejects asked (reported asked.mode ending bytes))) old now
written_told limit asked old now ending bytes wrote st ended all = by_mode (reads_input asked.mode) refl
  where
    by_mode : (b : Bool) → reads_input asked.mode ≡ b → IsRun limit (Some asked) (written_status ending (rejects asked (reported asked.mode ending bytes))) old now
    by_mode true has =
        let r = st.reads has in
        run_written limit asked ending (rejects asked (reported asked.mode ending bytes)) old now has (record {
          ended = ended;
          bytes = bytes;
          counted = r.counted;
          ends = r.ends;
          written = subst (λ (xs : List ℕ). WritesAll old.taken now.taken xs) (all ∙ due_ended asked ending bytes ended) st.written;
          count = refl;
          fine = st.calm;
        })
    by_mode false none =
        let u = st.unread none in
        let text : wrote ≡ report asked bytes = all ∙ ap (λ (e : Ending). due asked e bytes) u.2 in
        subst (λ (e : Ending). IsRun limit (Some asked) (written_status e (rejects asked (reported asked.mode e bytes))) old now) (sym u.2)
        (run_finished limit asked (cond (rejects asked bytes == 0) 0 1) old now (zero_or_one (rejects asked bytes)) (λ _. (u.0, u.1)) (record {
          bytes = bytes;
          read = λ some. absurd (true≢false (sym some ∙ none));
          written = subst (λ (xs : List ℕ). WritesAll old.taken now.taken xs) text st.written;
          status_is = refl;
          no_read_fault = u.1;
          no_write_fault = st.calm;
        }))

is_open : (e : Ending) → (e ≡ Open) ⊎ (e ≡ Open → ⊥)
is_open Whole = inr (λ e. absurd (cc))
is_open Failed = inr (λ e. absurd (cc))
is_open TooLong = inr (λ e. absurd (cc))
is_open Open = inl refl

-- memory ran out
short_told : (limit : ℕ) (asked : Command) (old now : Ends) (ending : Ending) (bytes wrote : List ℕ) (count : ℕ) → StandsSo limit asked old now ending bytes wrote
    → wrote ≡ concat (take count (blocks asked (reported asked.mode ending bytes))) → (has : Bool) → has_blocks asked.mode ≡ has → (ending ≡ Open) ⊎ (ending ≡ Open → ⊥) → IsMemoryShort limit asked old now
short_told limit asked old now ending bytes wrote count st same true has which = record {
  bytes = bytes;
  counted = st.counted;
  ending = ending;
  count = count;
  ended = λ some _. (st.reads some).ends;
  written = subst (λ (xs : List ℕ). WritesAll old.taken now.taken xs) same st.written;
  going = λ _ _ _. has;
}
short_told limit asked old now ending bytes wrote count st same false none (inl is) = record {
  bytes = bytes;
  counted = st.counted;
  ending = ending;
  count = 0;
  ended = λ _ some. absurd (omega (arith, some));
  written = subst (λ (xs : List ℕ). WritesAll old.taken now.taken xs) (st.quiet is none) st.written;
  going = λ _ some _. absurd (omega (arith, some));
}
short_told limit asked old now ending bytes wrote count st same false none (inr isnt) = record {
  bytes = bytes;
  counted = st.counted;
  ending = ending;
  count = count;
  ended = λ some _. (st.reads some).ends;
  written = subst (λ (xs : List ℕ). WritesAll old.taken now.taken xs) same st.written;
  going = λ _ _ e. absurd (isnt e);
}

memory_told : (limit : ℕ) (asked : Command) (old now : Ends) (ending : Ending) (bytes wrote : List ℕ) (count : ℕ) → StandsSo limit asked old now ending bytes wrote
    → wrote ≡ concat (take count (blocks asked (reported asked.mode ending bytes))) → IsRun limit (Some asked) 6 old now
memory_told limit asked old now ending bytes wrote count st same =
    run_memory limit asked old now (λ none. (let u = st.unread none in (u.0, u.1))) (short_told limit asked old now ending bytes wrote count st same (has_blocks asked.mode) refl (is_open ending)) st.calm

-- a write failed
fault_told : (limit : ℕ) (asked : Command) (old now : Ends) (taken : Option (List ℕ)) (bad : ℕ) (ending : Ending) (bytes wrote : List ℕ) → StandsSo limit asked old now ending bytes wrote
    → IsBefore wrote (due asked ending bytes) → TakesMore now.taken taken None → Rises now.write_faults bad
    → IsRun limit (Some asked) 4 old (record { left = now.left; read_faults = now.read_faults; taken = taken; write_faults = bad })
fault_told limit asked old now taken bad ending bytes wrote st before takes rises =
    let d = due_some asked ending bytes wrote before.0 before.1 before.2 in
    let same : taken ≡ now.taken = keeps now.taken taken takes in
    let front : WritesAll old.taken taken wrote = rw same st.written in
    run_write_fault limit asked old _ (λ none. (let u = st.unread none in (u.0, u.1))) (record {
      rises = subst (λ (n : ℕ). Rises n bad) st.calm rises;
      bytes = bytes;
      counted = st.counted;
      ending = ending;
      ended = λ some. (st.reads some).ends;
      written = subst (λ (xs : List ℕ). WritesFront old.taken taken xs) (sym before.2 ∙ d.0) (writes_front old.taken taken wrote before.0 front);
      going = λ _ e. d.1 e;
    })

-- what is left to do is done, from where a run stands
run_told : {S K : Type 0} (reads : S → S → Option (List ℕ) → Type 0) (writes : K → K → Option (List ℕ) → Type 0) (left : S → Option (List ℕ)) (faults : S → ℕ) (taken : K → Option (List ℕ)) (bad : K → ℕ)
    (reads_tell : ReadsTell reads left faults) (writes_tell : WritesTell writes taken bad) (limit : ℕ) (asked : Command) (old : Ends) (status : ℕ) (s' : S) (k' : K) (events : List Event) (ending : Ending) (bytes wrote : List ℕ) (s : S) (k : K)
    → StandsSo limit asked old (ends_of left faults taken bad s k) ending bytes wrote → Went reads writes s k events s' k' → Follows limit asked ending bytes wrote events status → IsRun limit (Some asked) status old (ends_of left faults taken bad s' k')
run_told {S} {K} reads writes left faults taken bad reads_tell writes_tell limit asked old status s' k' [] ending bytes wrote s k st went (inl f) =
    let a = subst (λ (m : S). StandsSo limit asked old (ends_of left faults taken bad m k) ending bytes wrote) (sym went.0) st in
    let b = subst (λ (m : K). StandsSo limit asked old (ends_of left faults taken bad s' m) ending bytes wrote) (sym went.1) a in
    rw f.2 (written_told limit asked old _ ending bytes wrote b f.0 f.1)
run_told {S} {K} reads writes left faults taken bad reads_tell writes_tell limit asked old status s' k' [] ending bytes wrote s k st went (inr f) =
    let a = subst (λ (m : S). StandsSo limit asked old (ends_of left faults taken bad m k) ending bytes wrote) (sym went.0) st in
    let b = subst (λ (m : K). StandsSo limit asked old (ends_of left faults taken bad s' m) ending bytes wrote) (sym went.1) a in
    rw f.0 (memory_told limit asked old _ ending bytes wrote f.1 b f.2)
run_told {S} {K} reads writes left faults taken bad reads_tell writes_tell limit asked old status s' k' (Reading read ∷ later) ending bytes wrote s k st went f =
    let has = st.open_reads f.0 in
    let r = subst (λ (e : Ending). ReadSo limit old (left s) (faults s) bytes e) f.0 (st.reads has) in
    let told = reads_tell s went.0 read went.1 in
    let next = read_more limit old (left s) (left went.0) (faults s) (faults went.0) bytes read f.2 r told.0 told.1 f.3 in
    run_told reads writes left faults taken bad reads_tell writes_tell limit asked old status s' k' later f.2 (with_read limit bytes read) wrote went.0 k (record {
      reads = λ _. next;
      counted = next.counted;
      unread = λ none. absurd (true≢false (sym has ∙ none));
      open_reads = λ _. has;
      quiet = λ _ none. rw none at f.1;
      written = st.written;
      calm = st.calm;
    }) went.2 f.4
run_told {S} {K} reads writes left faults taken bad reads_tell writes_tell limit asked old status s' k' (Writing (Some more) ∷ later) ending bytes wrote s k st went f =
    let told = writes_tell k went.0 (Some more) went.1 in
    let some : 0 < length (more ++ f.1.0) = (let m = f.0 in omega (arith, length-append more f.1.0)) in
    let d = due_some asked ending bytes wrote (more ++ f.1.0) some (f.1.1 ∙ append_assoc wrote more f.1.0) in
    run_told reads writes left faults taken bad reads_tell writes_tell limit asked old status s' k' later ending bytes (wrote ++ more) s went.0 (record {
      reads = st.reads;
      counted = st.counted;
      unread = st.unread;
      open_reads = st.open_reads;
      quiet = λ e none. absurd (true≢false (sym (d.1 e) ∙ none));
      written = writes_join old.taken (taken k) (taken went.0) wrote more st.written (writes_more (taken k) (taken went.0) more told.0);
      calm = told.1 ∙ st.calm;
    }) went.2 f.2
run_told {S} {K} reads writes left faults taken bad reads_tell writes_tell limit asked old status s' k' (Writing None ∷ later) ending bytes wrote s k st went f =
    let told = writes_tell k went.0 None went.1 in
    let last : (s' ≡ s) × (k' ≡ went.0) = subst (λ (es : List Event). Went reads writes s went.0 es s' k') f.1 went.2 in
    rw (last.0, last.1, f.2) (fault_told limit asked old (ends_of left faults taken bad s k) (taken went.0) (bad went.0) ending bytes wrote st f.0 told.0 told.1)

-- the usage line
usage_told : {S K : Type 0} (reads : S → S → Option (List ℕ) → Type 0) (writes : K → K → Option (List ℕ) → Type 0) (left : S → Option (List ℕ)) (faults : S → ℕ) (taken : K → Option (List ℕ)) (bad : K → ℕ)
    (writes_tell : WritesTell writes taken bad) (limit : ℕ) (old : Ends) (status : ℕ) (s' : S) (k' : K) (events : List Event) (wrote : List ℕ) (s : S) (k : K)
    → left s ≡ old.left → faults s ≡ old.read_faults → WritesAll old.taken (taken k) wrote → bad k ≡ old.write_faults → Went reads writes s k events s' k' → FollowsUsage wrote events status → IsRun limit None status old (ends_of left faults taken bad s' k')
usage_told reads writes left faults taken bad writes_tell limit old status s' k' [] wrote s k unread same written calm went (inl f) =
    let all = subst (λ (xs : List ℕ). WritesAll old.taken (taken k) xs) f.0 written in
    rw (went.0, went.1, f.1) (run_usage limit old (ends_of left faults taken bad s k) all unread same calm)
usage_told reads writes left faults taken bad writes_tell limit old status s' k' [] wrote s k unread same written calm went (inr f) =
    let none = subst (λ (xs : List ℕ). WritesAll old.taken (taken k) xs) f.0 written in
    rw (went.0, went.1, f.1) (run_usage_short limit old (ends_of left faults taken bad s k) unread same (writes_nothing old.taken (taken k) none) calm)
usage_told reads writes left faults taken bad writes_tell limit old status s' k' (Reading read ∷ later) wrote s k unread same written calm went f = absurd f
usage_told reads writes left faults taken bad writes_tell limit old status s' k' (Writing (Some more) ∷ later) wrote s k unread same written calm went f =
    let told = writes_tell k went.0 (Some more) went.1 in
    usage_told reads writes left faults taken bad writes_tell limit old status s' k' later (wrote ++ more) s went.0 unread same
    (writes_join old.taken (taken k) (taken went.0) wrote more written (writes_more (taken k) (taken went.0) more told.0)) (told.1 ∙ calm) went.2 f.2
usage_told {S} {K} reads writes left faults taken bad writes_tell limit old status s' k' (Writing None ∷ later) wrote s k unread same written calm went f =
    let told = writes_tell k went.0 None went.1 in
    let last : (s' ≡ s) × (k' ≡ went.0) = subst (λ (es : List Event). Went reads writes s went.0 es s' k') f.1 went.2 in
    let kept : taken went.0 ≡ taken k = keeps (taken k) (taken went.0) told.0 in
    let front = writes_front old.taken (taken went.0) wrote f.0.0 (rw kept written) in
    rw (last.0, last.1, f.2) (run_usage_fault limit old (ends_of left faults taken bad s went.0) (subst (λ (n : ℕ). Rises n (bad went.0)) calm told.1)
    (subst (λ (xs : List ℕ). WritesFront old.taken (taken went.0) xs) (sym f.0.2) front) unread same)

-- nothing was read or written yet
stands_first : (limit : ℕ) (asked : Command) (old : Ends) (b : Bool) → reads_input asked.mode ≡ b → StandsSo limit asked old old (begun asked.mode) [] []
stands_first limit asked old true has =
    let is : begun asked.mode ≡ Open = rw has refl in
    subst (λ (e : Ending). StandsSo limit asked old old e [] []) (sym is) (record {
      reads = λ _. record { counted = counts_none limit old.left; ends = (record { takes = takes_none old.left old.left refl; within = omega arith }, refl) };
      counted = counts_none limit old.left;
      unread = λ none. absurd (true≢false (sym has ∙ none));
      open_reads = λ _. has;
      quiet = λ _ _. refl;
      written = writes_none old.taken;
      calm = refl;
    })
stands_first limit asked old false none =
    let is : begun asked.mode ≡ Whole = rw none refl in
    subst (λ (e : Ending). StandsSo limit asked old old e [] []) (sym is) (record {
      reads = λ some. absurd (true≢false (sym some ∙ none));
      counted = counts_none limit old.left;
      unread = λ _. (refl, refl, refl);
      open_reads = λ e. absurd (cc);
      quiet = λ _ _. refl;
      written = writes_none old.taken;
      calm = refl;
    })

-- so it is of any run
pub order_told : {S K : Type 0} (reads : S → S → Option (List ℕ) → Type 0) (writes : K → K → Option (List ℕ) → Type 0) (left : S → Option (List ℕ)) (faults : S → ℕ) (taken : K → Option (List ℕ)) (bad : K → ℕ)
    (reads_tell : ReadsTell reads left faults) (writes_tell : WritesTell writes taken bad) (limit : ℕ) (asked : Option Command) (status : ℕ) (s : S) (k : K) (s' : S) (k' : K)
    → IsInOrder reads writes limit asked status s k s' k' → IsRun limit asked status (ends_of left faults taken bad s k) (ends_of left faults taken bad s' k')
order_told reads writes left faults taken bad reads_tell writes_tell limit None status s k s' k' o =
    usage_told reads writes left faults taken bad writes_tell limit _ status s' k' o.0 [] s k refl refl (writes_none (taken k)) refl o.1 o.2
order_told reads writes left faults taken bad reads_tell writes_tell limit (Some asked) status s k s' k' o =
    run_told reads writes left faults taken bad reads_tell writes_tell limit asked _ status s' k' o.events (begun asked.mode) [] [] s k
    (stands_first limit asked _ (reads_input asked.mode) refl) o.went o.follows
