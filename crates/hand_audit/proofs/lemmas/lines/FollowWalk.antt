-- The walk of `follow` over the lines: the first that departs, or what is kept at their end.
use Rattle.std.proofs.Common.{◌≡◌, ℕ, ◌+◌, ◌≤◌, List, [], ◌∷◌, refl, sym, ap, ◌∙◌, subst, arith, length}
use Rattle.std.specs.Prelude.{Some, None, Result, Ok, Err, drop}
use Rattle.line_text.specs.Lines.{lines}
use Rattle.hand_events.specs.declared.events.Part.{Part}
use Rattle.hand_events.specs.declared.events.Header.{Header}
use Rattle.hand_events.specs.declared.events.Event.{Event}
use Rattle.hand_events.specs.declared.events.TextFault.{TextFault}
use Rattle.hand_verdict.specs.declared.cause.Cause.{Cause}
use Rattle.hand_verdict.specs.declared.cause.Cause.TheVariants.{Text}
use Rattle.hand_audit.specs.declared.hand.AuditState.{AuditState}
use Rattle.hand_audit.specs.Lines.{SoFar, nothing, read_at, with_event, with_line, with_line_by}
use Rattle.hand_audit.specs.Departs.{departs_from}
use Rattle.hand_audit.specs.Verdict.{read_all}
use Rattle.hand_audit.specs.Keeping.{Keeps, Goes, IsFound, IsRead, AreReads, Follows, names_by, names_after}
use Rattle.hand_audit.specs.declared.follow.Followed.TheVariants.{Departs}
use Rattle.hand_audit.proofs.lemmas.lines.LineSteps.{goes_no_split}
use Rattle.hand_audit.proofs.lemmas.lines.ReadOnce.{first_said, goes_by, others_left, names_left}

-- after so many of the lines, with those that are left: what is kept stands for them, and the rest decides, whatever the number of the line before them
pub record Going (state : AuditState) (g : Header) (players : ℕ) (all left : List (List ℕ)) (count : ℕ) : Type 0 where
  pub so_far : SoFar
  pub keeps : Keeps state g players so_far
  pub same : (number : ℕ) → departs_from g players number nothing all ≡ departs_from g players (number + count) so_far left
  pub read : read_all g nothing all ≡ read_all g so_far left

-- before the first
pub going_none : (state : AuditState) (g : Header) (players : ℕ) (all : List (List ℕ)) → Keeps state g players nothing → Going state g players all all 0
going_none state g players all k = record {
  so_far = nothing;
  keeps = k;
  same = λ number. let none : number ≡ number + 0 = omega arith in ap (λ n. departs_from g players n nothing all) none;
  read = refl;
}

-- the numbers of the lines count on
counts_on : (number count : ℕ) → (number + count) + 1 ≡ number + (count + 1)
counts_on number count = omega arith

-- one line more
pub going_more : (state new : AuditState) (g : Header) (players : ℕ) (all : List (List ℕ)) (line : List ℕ) (left left' : List (List ℕ)) (count : ℕ) (r : Going state g players all left' count) → left' ≡ line ∷ left
    → Goes new g players r.so_far line (read_at g r.so_far line) None → Going new g players all left (count + 1)
going_more state new g players all line left left' count r is goes = record {
  so_far = with_line g r.so_far line;
  keeps = (by_read (read_at g r.so_far line) refl goes).0;
  same = λ number. r.same number ∙ ap (departs_from g players (number + count) r.so_far) is ∙ (by_read (read_at g r.so_far line) refl goes).1 number;
  read = r.read ∙ ap (read_all g r.so_far) is;
}
  where
    by_read : (o : Result Event TextFault) → read_at g r.so_far line ≡ o → Goes new g players r.so_far line o None
        → Keeps new g players (with_line g r.so_far line) × ((number : ℕ) → departs_from g players (number + count) r.so_far (line ∷ left) ≡ departs_from g players (number + (count + 1)) (with_line g r.so_far line) left)
    by_read (Err f) e h = cc
    by_read (Ok ev) e h =
        let same : with_line g r.so_far line ≡ with_event line ev r.so_far = ap (with_line_by line r.so_far) e in (
          rw same h.1,
          λ number.
              let here : departs_from g players (number + count) r.so_far (line ∷ left) ≡ departs_from g players ((number + count) + 1) (with_event line ev r.so_far) left = rw (e, h.0) refl in
              here ∙ ap (departs_from g players ((number + count) + 1) (with_event line ev r.so_far)) refl ∙ ap (λ n. departs_from g players n (with_event line ev r.so_far) left) (counts_on number count)
              ∙ ap (λ (t : SoFar). departs_from g players (number + (count + 1)) t left) (sym same),
        )

-- a line that departs
pub going_departs : (state new : AuditState) (g : Header) (players : ℕ) (all : List (List ℕ)) (line : List ℕ) (left left' : List (List ℕ)) (count : ℕ) (c : Cause) (r : Going state g players all left' count) → left' ≡ line ∷ left
    → count + length left' ≡ length all → Goes new g players r.so_far line (read_at g r.so_far line) (Some c) → Follows g players all (Departs (count + 1) c)
going_departs state new g players all line left left' count c r is counted goes = (
  (let some : length left' ≡ length (line ∷ left) = ap length is in omega (arith, some, counted)),
  λ number. r.same number ∙ ap (departs_from g players (number + count) r.so_far) is ∙ by_read number (read_at g r.so_far line) refl goes ∙ ap (λ n. Some (n, c)) (counts_on number count),
  goes_no_split new g players r.so_far line (read_at g r.so_far line) c goes,
)
  where
    by_read : (number : ℕ) (o : Result Event TextFault) → read_at g r.so_far line ≡ o → Goes new g players r.so_far line o (Some c) → departs_from g players (number + count) r.so_far (line ∷ left) ≡ Some ((number + count) + 1, c)
    by_read number (Err f) e h = let same : c ≡ Text f = cc in rw (e, same) refl
    by_read number (Ok ev) e h = rw (e, h) refl

-- over the lines that were read: what is left was said by the first of the lines that are left, these are the names after them, and the
-- lines after those begin at a place
pub record AmongReads (state : AuditState) (g : Header) (players : ℕ) (all : List (List ℕ)) (bytes : List ℕ) (reads : List (Result Event TextFault)) (names : List (ℕ × List ℕ)) (next count : ℕ) : Type 0 where
  pub left : List (List ℕ)
  pub going : Going state g players all left count
  pub ahead : AreReads g going.so_far.names state.part reads left
  pub named : names ≡ names_after going.so_far.names reads left
  pub rest : lines (drop next bytes) ≡ drop (length reads) left
  pub counted : count + length left ≡ length all
  pub few : count + length reads ≤ next

pub reads_none : (state : AuditState) (g : Header) (players : ℕ) (bytes : List ℕ) (start : ℕ) (reads : List (Result Event TextFault)) (names : List (ℕ × List ℕ)) (next : ℕ) → Keeps state g players nothing
    → IsFound g bytes start reads names next → AmongReads state g players (lines (drop start bytes)) bytes reads names next 0
unfolding going_none
reads_none state g players bytes start reads names next k found = record {
  left = lines (drop start bytes);
  going = going_none state g players (lines (drop start bytes)) k;
  ahead = subst (λ (p : Part). AreReads g [] p reads (lines (drop start bytes))) (sym k.part) found.are;
  named = found.named;
  rest = found.left;
  counted = omega arith;
  few = (let f = found.few in omega (arith, f));
}

-- what the first of them says is what its line says
pub record IsNext (state : AuditState) (g : Header) (players : ℕ) (all : List (List ℕ)) (bytes : List ℕ) (said : Result Event TextFault) (reads : List (Result Event TextFault)) (names : List (ℕ × List ℕ)) (next count : ℕ) : Type 0 where
  pub line : List ℕ
  pub left : List (List ℕ)
  pub going : Going state g players all (line ∷ left) count
  pub ahead : AreReads g going.so_far.names state.part (said ∷ reads) (line ∷ left)
  pub named : names ≡ names_after going.so_far.names (said ∷ reads) (line ∷ left)
  pub rest : lines (drop next bytes) ≡ drop (length reads) left
  pub counted : count + length (line ∷ left) ≡ length all
  pub few : count + length (said ∷ reads) ≤ next

pub next_read : (state : AuditState) (g : Header) (players : ℕ) (all : List (List ℕ)) (bytes : List ℕ) (said : Result Event TextFault) (reads : List (Result Event TextFault)) (names : List (ℕ × List ℕ)) (next count : ℕ)
    → AmongReads state g players all bytes (said ∷ reads) names next count → IsNext state g players all bytes said reads names next count
next_read state g players all bytes said reads names next count r = by r.left r.going r.ahead r.named r.rest r.counted
  where
    by : (left : List (List ℕ)) (going : Going state g players all left count) → AreReads g going.so_far.names state.part (said ∷ reads) left → names ≡ names_after going.so_far.names (said ∷ reads) left
        → lines (drop next bytes) ≡ drop (length (said ∷ reads)) left → count + length left ≡ length all → IsNext state g players all bytes said reads names next count
    by [] going ahead named rest counted = absurd ahead
    by (line ∷ left) going ahead named rest counted = record { line = line; left = left; going = going; ahead = ahead; named = named; rest = rest; counted = counted; few = r.few }

pub next_is_said : (state : AuditState) (g : Header) (players : ℕ) (all : List (List ℕ)) (bytes : List ℕ) (said : Result Event TextFault) (reads : List (Result Event TextFault)) (names : List (ℕ × List ℕ)) (next count : ℕ)
    → (r : IsNext state g players all bytes said reads names next count) → said ≡ read_at g r.going.so_far r.line
next_is_said state g players all bytes said reads names next count r = first_said g r.going.so_far state.part r.line said r.ahead.0 r.going.keeps.part

pub reads_on : (state new : AuditState) (g : Header) (players : ℕ) (all : List (List ℕ)) (bytes : List ℕ) (said : Result Event TextFault) (reads : List (Result Event TextFault)) (names : List (ℕ × List ℕ)) (next count : ℕ)
    → (r : IsNext state g players all bytes said reads names next count) → Goes new g players r.going.so_far r.line (read_at g r.going.so_far r.line) None
    → AmongReads new g players all bytes reads names next (count + 1)
unfolding going_more
reads_on state new g players all bytes said reads names next count r goes = record {
  left = r.left;
  going = going_more state new g players all r.line r.left (r.line ∷ r.left) count r.going refl goes;
  ahead = others_left state new g players r.going.so_far said reads r.line r.left r.ahead r.going.keeps goes;
  named = r.named ∙ names_left state new g players r.going.so_far said reads r.line r.left r.ahead r.going.keeps goes;
  rest = r.rest;
  counted = (let c = r.counted in omega (arith, c));
  few = (let f = r.few in omega (arith, f));
}

-- over the others: these are the names so far
pub record AmongOthers (state : AuditState) (g : Header) (players : ℕ) (all left : List (List ℕ)) (names : List (ℕ × List ℕ)) (count : ℕ) : Type 0 where
  pub going : Going state g players all left count
  pub named : names ≡ going.so_far.names

pub others_none : (state : AuditState) (g : Header) (players : ℕ) (all : List (List ℕ)) (bytes : List ℕ) (reads : List (Result Event TextFault)) (names : List (ℕ × List ℕ)) (next count : ℕ) → AmongReads state g players all bytes reads names next count
    → length reads ≡ 0 → AmongOthers state g players all (lines (drop next bytes)) names count
others_none state g players all bytes [] names next count r none = by (lines (drop next bytes)) r.left r.rest r.going r.named
  where
    by : (rest left : List (List ℕ)) → rest ≡ left → (going : Going state g players all left count) → names ≡ going.so_far.names → AmongOthers state g players all rest names count
    by rest left is going named = rw is (record { going = going; named = named })
others_none state g players all bytes (said ∷ reads) names next count r none = absurd (omega (arith, none))

pub none_counted : (state : AuditState) (g : Header) (players : ℕ) (all : List (List ℕ)) (bytes : List ℕ) (reads : List (Result Event TextFault)) (names : List (ℕ × List ℕ)) (next count : ℕ) → AmongReads state g players all bytes reads names next count
    → length reads ≡ 0 → (count ≤ next) × (count + length (lines (drop next bytes)) ≡ length all)
none_counted state g players all bytes [] names next count r none = ((let f = r.few in omega (arith, f)), (let c = r.counted in let s : length (lines (drop next bytes)) ≡ length r.left = ap length r.rest in omega (arith, c, s)))
none_counted state g players all bytes (said ∷ reads) names next count r none = absurd (omega (arith, none))

pub other_is_said : (state : AuditState) (g : Header) (players : ℕ) (all left : List (List ℕ)) (names : List (ℕ × List ℕ)) (count : ℕ) (line : List ℕ) (said : Result Event TextFault)
    → (r : AmongOthers state g players all left names count) → IsRead names g state.part line said → said ≡ read_at g r.going.so_far line
other_is_said state g players all left names count line said r is =
    first_said g r.going.so_far state.part line said (subst (λ (n : List (ℕ × List ℕ)). IsRead n g state.part line said) r.named is) r.going.keeps.part

pub others_on : (state new : AuditState) (g : Header) (players : ℕ) (all : List (List ℕ)) (line : List ℕ) (left left' : List (List ℕ)) (names names' : List (ℕ × List ℕ)) (count : ℕ) (said : Result Event TextFault)
    → (r : AmongOthers state g players all left' names count) → left' ≡ line ∷ left → IsRead names g state.part line said → names' ≡ names_by said line names
    → Goes new g players r.going.so_far line (read_at g r.going.so_far line) None → AmongOthers new g players all left names' (count + 1)
unfolding going_more
others_on state new g players all line left left' names names' count said r is read named goes =
    let same : read_at g r.going.so_far line ≡ said = sym (other_is_said state g players all left' names count line said r read) in
    let moved = goes_by state new g players r.going.so_far line said r.going.keeps same (subst (λ (o : Result Event TextFault). Goes new g players r.going.so_far line o None) same goes) in
    record {
      going = going_more state new g players all line left left' count r.going is goes;
      named = named ∙ ap (names_by said line) r.named ∙ sym moved.0;
    }
