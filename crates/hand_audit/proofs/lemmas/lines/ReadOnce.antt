-- What was read in the first pass is read no second time.
use Rattle.std.proofs.Common.{◌≡◌, ℕ, ◌+◌, ◌<◌, ◌≤◌, List, [], ◌∷◌, ◌++◌, refl, sym, ap, ◌∙◌, subst, Bool, true, false, arith, length, length-append}
use Rattle.std.proofs.lemmas.List.{drop-drop}
use Rattle.std.specs.Prelude.{drop, slice_range, None, Result, Ok, Err, IfOk, nat_lt, if◌then◌else◌}
use Rattle.line_text.specs.declared.lines.Line.{Line}
use Rattle.line_text.specs.Lines.{lines}
use Rattle.line_text.specs.Places.{IsWithin}
use Rattle.hand_events.specs.declared.events.Header.{Header}
use Rattle.hand_events.specs.declared.events.Event.{Event}
use Rattle.hand_events.specs.declared.events.Part.{Part}
use Rattle.hand_events.specs.declared.events.Part.TheVariants.{Preamble}
use Rattle.hand_events.specs.declared.events.TextFault.{TextFault}
use Rattle.history_text.specs.Lines.{line_event}
use Rattle.hand_audit.specs.declared.first_pass.PlayerScan.{PlayerScan}
use Rattle.hand_audit.specs.declared.hand.AuditState.{AuditState}
use Rattle.hand_audit.specs.Lines.{SoFar, part_of, read_at, with_line, with_line_by}
use Rattle.hand_audit.specs.Keeping.{Keeps, Goes, IsRead, AreReads, names_by, names_after, part_by, parts_after}
use Rattle.hand_audit.specs.Passing.{HasReads, Notes, READS_MAX, with_read}

pub ok_of : (r : Result Event TextFault) (P : Event → Type 0) (e : Event) → r ≡ Ok e → IfOk r P → P e
ok_of r P e is holds = subst (λ (o : Result Event TextFault). IfOk o P) is holds

-- what a line that goes on makes of the names and of the part
pub goes_by : (hand new : AuditState) (g : Header) (players : ℕ) (so_far : SoFar) (line : List ℕ) (said : Result Event TextFault) → Keeps hand g players so_far → read_at g so_far line ≡ said → Goes new g players so_far line said None
    → ((with_line g so_far line).names ≡ names_by said line so_far.names) × (new.part ≡ part_by said hand.part)
goes_by hand new g players so_far line (Err f) k is goes = cc
goes_by hand new g players so_far line (Ok e) k is goes = (ap (λ (r : Result Event TextFault). (with_line_by line so_far r).names) is, goes.1.part ∙ ap (λ part. part_by (Ok e) part) (sym k.part))

-- the first of the reads that are left says what the line there says
pub first_said : (g : Header) (so_far : SoFar) (part : Part) (line : List ℕ) (said : Result Event TextFault) → IsRead so_far.names g part line said → part ≡ part_of so_far.events → said ≡ read_at g so_far line
unfolding read_at
first_said g so_far part line said is same = is.value ∙ ap (λ p. line_event so_far.names g p line) same

-- after its line the others are left
pub others_left : (hand new : AuditState) (g : Header) (players : ℕ) (so_far : SoFar) (said : Result Event TextFault) (others : List (Result Event TextFault)) (line : List ℕ) (left : List (List ℕ))
    → AreReads g so_far.names hand.part (said ∷ others) (line ∷ left) → Keeps hand g players so_far → Goes new g players so_far line (read_at g so_far line) None
    → AreReads g (with_line g so_far line).names new.part others left
others_left hand new g players so_far said others line left are k goes =
    let same : read_at g so_far line ≡ said = sym (first_said g so_far hand.part line said are.0 k.part) in
    let moved = goes_by hand new g players so_far line said k same (subst (λ (o : Result Event TextFault). Goes new g players so_far line o None) same goes) in
    rw (moved.0, moved.1) are.1

-- and their names
pub names_left : (hand new : AuditState) (g : Header) (players : ℕ) (so_far : SoFar) (said : Result Event TextFault) (others : List (Result Event TextFault)) (line : List ℕ) (left : List (List ℕ))
    → AreReads g so_far.names hand.part (said ∷ others) (line ∷ left) → Keeps hand g players so_far → Goes new g players so_far line (read_at g so_far line) None
    → names_after so_far.names (said ∷ others) (line ∷ left) ≡ names_after (with_line g so_far line).names others left
names_left hand new g players so_far said others line left are k goes =
    let same : read_at g so_far line ≡ said = sym (first_said g so_far hand.part line said are.0 k.part) in
    let moved = goes_by hand new g players so_far line said k same (subst (λ (o : Result Event TextFault). Goes new g players so_far line o None) same goes) in
    ap (λ names. names_after names others left) (sym moved.0)

-- with one read more, of the line after those of the others
parts_more : (part : Part) (reads : List (Result Event TextFault)) (said : Result Event TextFault) → parts_after part (reads ++ said ∷ []) ≡ part_by said (parts_after part reads)
parts_more part [] said = refl
parts_more part (first ∷ reads) said = parts_more (part_by first part) reads said

names_more : (g : Header) (names : List (ℕ × List ℕ)) (part : Part) (reads : List (Result Event TextFault)) (all : List (List ℕ)) (line : List ℕ) (rest : List (List ℕ)) (said : Result Event TextFault)
    → AreReads g names part reads all → drop (length reads) all ≡ line ∷ rest → names_after names (reads ++ said ∷ []) all ≡ names_by said line (names_after names reads all)
names_more g names part [] [] line rest said are is = cc
names_more g names part [] (first ∷ all) line rest said are is = let same : first ≡ line = cc in ap (λ l. names_by said l names) same
names_more g names part (read ∷ reads) [] line rest said are is = absurd are
names_more g names part (read ∷ reads) (first ∷ all) line rest said are is = names_more g (names_by read first names) (part_by read part) reads all line rest said are.1 is

reads_more : (g : Header) (names : List (ℕ × List ℕ)) (part : Part) (reads : List (Result Event TextFault)) (all : List (List ℕ)) (line : List ℕ) (rest : List (List ℕ)) (said : Result Event TextFault)
    → AreReads g names part reads all → drop (length reads) all ≡ line ∷ rest → IsRead (names_after names reads all) g (parts_after part reads) line said → AreReads g names part (reads ++ said ∷ []) all
reads_more g names part [] [] line rest said are is read = cc
reads_more g names part [] (first ∷ all) line rest said are is read = let same : line ≡ first = cc in (subst (λ (l : List ℕ). IsRead names g part l said) same read, _)
reads_more g names part (one ∷ reads) [] line rest said are is read = absurd are
reads_more g names part (one ∷ reads) (first ∷ all) line rest said are is read = (are.0, reads_more g (names_by one first names) (part_by one part) reads all line rest said are.1 is read)

left_more : (n : ℕ) (all : List (List ℕ)) (line : List ℕ) (rest : List (List ℕ)) → drop n all ≡ line ∷ rest → drop (n + 1) all ≡ rest
left_more n all line rest is = sym (drop-drop 1 n all) ∙ ap (drop 1) is

-- before the first line nothing was read
pub no_reads : (pass : PlayerScan) (g : Header) (bytes : List ℕ) (start : ℕ) → start ≤ length bytes → pass.names ≡ [] → pass.part ≡ Preamble → pass.reads.items ≡ [] → HasReads pass g bytes start start
no_reads pass g bytes start within names part none = record {
  found = λ few. record { are = rw none _; named = names ∙ ap (λ xs. names_after [] xs (lines (drop start bytes))) (sym none); left = ap (λ xs. drop (length xs) (lines (drop start bytes))) (sym none); within = within; few = rw none (omega arith) };
  part = λ few. part ∙ ap (parts_after Preamble) (sym none);
}

-- the pass goes on by a line
with_one : (reads : List (Result Event TextFault)) (said : Result Event TextFault) (b : Bool) → nat_lt (length reads) READS_MAX ≡ b → with_read reads said ≡ (if b then reads ++ said ∷ [] else reads)
with_one reads said b is = rw is refl

pub pass_more : (old new : PlayerScan) (g : Header) (bytes : List ℕ) (start at : ℕ) (line : Line) → IsWithin at (length bytes) line → lines (drop at bytes) ≡ slice_range bytes line.first line.end ∷ lines (drop line.next bytes)
    → HasReads old g bytes start at → Notes old new g (slice_range bytes line.first line.end) false → HasReads new g bytes start line.next
pass_more old new g bytes start at line within texts has noted = by (nat_lt (length old.reads.items) READS_MAX) refl
  where
    by : (b : Bool) → nat_lt (length old.reads.items) READS_MAX ≡ b → HasReads new g bytes start line.next
    by true room =
        let text = slice_range bytes line.first line.end in
        let all = lines (drop start bytes) in
        let kept : new.reads.items ≡ old.reads.items ++ noted.said ∷ [] = noted.reads ∙ with_one old.reads.items noted.said true room in
        let low : length old.reads.items < READS_MAX = grind arith in
        let f = has.found low in
        let here : drop (length old.reads.items) all ≡ text ∷ lines (drop line.next bytes) = sym f.left ∙ texts in
        let long : length new.reads.items ≡ length old.reads.items + 1 = ap length kept ∙ length-append old.reads.items (noted.said ∷ []) in
        record {
          found = λ few. record {
            are = subst (λ (xs : List (Result Event TextFault)). AreReads g [] Preamble xs all) (sym kept)
                (reads_more g [] Preamble old.reads.items all text (lines (drop line.next bytes)) noted.said f.are here (rw (← f.named, ← has.part low) noted.is));
            named = noted.names ∙ ap (names_by noted.said text) f.named ∙ sym (names_more g [] Preamble old.reads.items all text (lines (drop line.next bytes)) noted.said f.are here) ∙ ap (λ xs. names_after [] xs all) (sym kept);
            left = sym (left_more (length old.reads.items) all text (lines (drop line.next bytes)) here) ∙ ap (λ n. drop n all) (sym long);
            within = within.inside;
            few = (let o = f.few in omega (arith, long, o, within.forward));
          };
          part = λ few. noted.part ∙ ap (part_by noted.said) (has.part low) ∙ sym (parts_more Preamble old.reads.items noted.said) ∙ ap (parts_after Preamble) (sym kept);
        }
    by false full =
        let kept : new.reads.items ≡ old.reads.items = noted.reads ∙ with_one old.reads.items noted.said false full in
        let none : nat_lt (length new.reads.items) READS_MAX ≡ false = ap (λ xs. nat_lt (length xs) READS_MAX) kept ∙ full in record {
          found = λ few. absurd (grind (arith, none, few));
          part = λ few. absurd (grind (arith, none, few));
        }

-- the pass ends by a line
pub pass_end : (old new : PlayerScan) (g : Header) (bytes : List ℕ) (start at : ℕ) (line : List ℕ) → HasReads old g bytes start at → Notes old new g line true → HasReads new g bytes start at
pass_end old new g bytes start at line has same = record {
  found = rw (same.0, same.1) has.found;
  part = rw (same.0, same.2) has.part;
}
