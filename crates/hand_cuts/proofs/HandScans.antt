-- Hands that a later header line closes.
use Rattle.std.proofs.Common.{◌≡◌, ℕ, ◌+◌, ◌≤◌, Bool, true, false, List, [], ◌∷◌, ◌++◌, length, drop, inl, Option, Some, None, refl, sym, ap, subst, ◌∙◌, arith, append_assoc, append-nil, length-append}
use Rattle.std.specs.Prelude.{slice_range}
use Rattle.history_text.specs.Headers.{is_header}
use Rattle.line_text.specs.Lines.{lines, closed, has_newline}
use Rattle.line_text.specs.Laws.{EndsInNewline}
use Rattle.hand_cuts.specs.Units.{UnitLines, units_in, closed_units, lines_in, up_to_header, hands_from, without_last}
use Rattle.hand_cuts.specs.Cutters.{MayFollow}
use Rattle.hand_cuts.specs.Scans.{LineAt, IsScan, IsHead, HeadIs, Finds, HandsOut, NoUnit, begun}
use Rattle.hand_cuts.specs.declared.scan.Head.{Head}
use Rattle.hand_cuts.specs.declared.scan.Scan.{Scan}
use Rattle.hand_cuts.specs.declared.units.CutKind.TheVariants.{Hands}
use Rattle.hand_cuts.specs.declared.units.Unit.{Unit as UnitPlace}
use Rattle.hand_cuts.proofs.LineParts.{lines-split, lines_in-split, closed-none, ends-append, slice-join, slice-rest}
use Rattle.hand_cuts.proofs.ScanSteps.{head_of}
use Rattle.hand_cuts.proofs.HandLists.{hand_with, stops-at, hands-passed, hands-between, hands-begin, without_last-cons}

pub lines_by_line : (whole : Bool) (bytes more : List ℕ) (looked next : ℕ) (text : List ℕ) → LineAt bytes looked next text
    → lines_in whole (drop looked bytes ++ more) ≡ text ∷ lines_in whole (drop next bytes ++ more)
lines_by_line whole bytes more looked next text l =
    let cut : drop looked bytes ++ more ≡ slice_range bytes looked next ++ (drop next bytes ++ more) =
    ap (λ xs. xs ++ more) (slice-rest bytes looked next (let s = l.some in omega arith)) ∙ append_assoc (slice_range bytes looked next) (drop next bytes) more in
    ap (lines_in whole) cut ∙ lines_in-split whole (slice_range bytes looked next) (drop next bytes ++ more) l.ends
    ∙ ap (λ ls. ls ++ lines_in whole (drop next bytes ++ more)) l.one

-- the lines from `at` on are those before the header line, those of the hand so far, and those from `looked` on
pub lines_by_head : (whole : Bool) (bytes more : List ℕ) (at line looked : ℕ) (h : Head) → IsHead bytes at line looked h
    → (i : IsHead bytes at line looked h) → lines_in whole (drop at bytes ++ more) ≡ (lines (slice_range bytes at h.at) ++ i.text ∷ i.later) ++ lines_in whole (drop looked bytes ++ more)
lines_by_head whole bytes more at line looked h _ i =
    let join : slice_range bytes at looked ≡ slice_range bytes at h.at ++ slice_range bytes h.at looked = slice-join bytes at h.at looked i.after (let b = i.before in omega arith) in
    let ends : EndsInNewline (slice_range bytes at looked) = rw join (ends-append (slice_range bytes at h.at) (slice_range bytes h.at looked) i.front i.whole) in
    let cut : drop at bytes ++ more ≡ slice_range bytes at looked ++ (drop looked bytes ++ more) =
    ap (λ xs. xs ++ more) (slice-rest bytes at looked (let a = i.after in let b = i.before in omega arith)) ∙ append_assoc (slice_range bytes at looked) (drop looked bytes) more in
    let both : lines (slice_range bytes at looked) ≡ lines (slice_range bytes at h.at) ++ i.text ∷ i.later =
    ap lines join ∙ lines-split (slice_range bytes at h.at) (slice_range bytes h.at looked) i.front ∙ ap (λ ls. lines (slice_range bytes at h.at) ++ ls) i.texts in
    ap (lines_in whole) cut ∙ lines_in-split whole (slice_range bytes at looked) (drop looked bytes ++ more) ends
    ∙ ap (λ ls. ls ++ lines_in whole (drop looked bytes ++ more)) both

-- the lines from `at` on are those that were looked at and the others
pub lines_by_scan : (whole : Bool) (bytes more : List ℕ) (at looked : ℕ) → at ≤ looked → EndsInNewline (slice_range bytes at looked)
    → lines_in whole (drop at bytes ++ more) ≡ lines (slice_range bytes at looked) ++ lines_in whole (drop looked bytes ++ more)
lines_by_scan whole bytes more at looked onward ends =
    let cut : drop at bytes ++ more ≡ slice_range bytes at looked ++ (drop looked bytes ++ more) =
    ap (λ xs. xs ++ more) (slice-rest bytes at looked onward) ∙ append_assoc (slice_range bytes at looked) (drop looked bytes) more in
    ap (lines_in whole) cut ∙ lines_in-split whole (slice_range bytes at looked) (drop looked bytes ++ more) ends

closed_cons : (whole : Bool) (u v : UnitLines) (us hs : List UnitLines) → hs ≡ v ∷ us → closed_units Hands whole (u ∷ hs) ≡ u ∷ closed_units Hands whole hs
closed_cons true u v us hs e = refl
closed_cons false u v us hs e = without_last-cons u v us hs e

-- the line from `looked` on, whatever may follow
abbrev pub Begins : Bool → List ℕ → ℕ → List ℕ → Type 0
Begins closed_now bytes looked text = (whole : Bool) (more : List ℕ) → MayFollow closed_now whole more → (z : List (List ℕ)) × (lines_in whole (drop looked bytes ++ more) ≡ text ∷ z)

pub begins_by_line : (closed_now : Bool) (bytes : List ℕ) (looked next : ℕ) (text : List ℕ) → LineAt bytes looked next text → Begins closed_now bytes looked text
begins_by_line closed_now bytes looked next text l = λ whole more _. (lines_in whole (drop next bytes ++ more), lines_by_line whole bytes more looked next text l)

-- a later header line closes the hand
pub hands_out_later : (closed_now : Bool) (bytes : List ℕ) (s s' : Scan) (text : List ℕ) (h : Head) (unit : UnitPlace) → s.number ≡ s.line + length (lines (slice_range bytes s.at s.looked))
    → s.looked ≤ length bytes → IsHead bytes s.at s.line s.looked h → Begins closed_now bytes s.looked text → is_header text ≡ true
    → s'.at ≡ s.looked → s'.line ≡ s.number → unit ≡ record { first = h.at; end = s.looked; first_line = h.line } → HandsOut Hands closed_now bytes s s' unit
unfolding units_in
hands_out_later closed_now bytes s s' text h unit counted inside i begin header at line place =
    subst (λ (u : UnitPlace). HandsOut Hands closed_now bytes s s' u) (sym place) (record {
      behind = i.after;
      some = i.before;
      within = inside;
      begins = i.front;
      ends = inl i.whole;
      at = at;
      line = line ∙ counted;
      counted =
          let total : lines (slice_range bytes s.at s.looked) ≡ lines (slice_range bytes s.at h.at) ++ lines (slice_range bytes h.at s.looked) =
          ap lines (slice-join bytes s.at h.at s.looked i.after (let b = i.before in omega arith)) ∙ lines-split (slice_range bytes s.at h.at) (slice_range bytes h.at s.looked) i.front in
          let size : length (lines (slice_range bytes s.at s.looked)) ≡ length (lines (slice_range bytes s.at h.at)) + length (lines (slice_range bytes h.at s.looked)) =
          ap length total ∙ length-append (lines (slice_range bytes s.at h.at)) (lines (slice_range bytes h.at s.looked)) in
          line ∙ (let n = i.number in let e : s.number ≡ h.line + length (lines (slice_range bytes h.at s.looked)) = omega arith in e);
      stays = λ whole more may.
          let later = lines_in whole (drop s.looked bytes ++ more) in
          let z = (begin whole more may).0 in
          let begins : later ≡ text ∷ z = (begin whole more may).1 in
          let stops : up_to_header later ≡ [] = ap up_to_header begins ∙ stops-at text z header in
          let total : lines (slice_range bytes s.at s.looked) ≡ lines (slice_range bytes s.at h.at) ++ i.text ∷ i.later =
          ap lines (slice-join bytes s.at h.at s.looked i.after (let b = i.before in omega arith)) ∙ lines-split (slice_range bytes s.at h.at) (slice_range bytes h.at s.looked) i.front ∙ ap (λ ls. lines (slice_range bytes s.at h.at) ++ ls) i.texts in
          let size : length (lines (slice_range bytes s.at s.looked)) ≡ length (lines (slice_range bytes s.at h.at)) + length (i.text ∷ i.later) = ap length total ∙ length-append (lines (slice_range bytes s.at h.at)) (i.text ∷ i.later) in
          let u = hand_with h.line (lines (slice_range bytes h.at s.looked)) in
          let hands : hands_from s.line (lines_in whole (drop s.at bytes ++ more)) ≡ u ∷ hands_from s.number later =
          ap (hands_from s.line) (lines_by_head whole bytes more s.at s.line s.looked h i i)
          ∙ hands-between s.line h.line s.number (lines (slice_range bytes s.at h.at)) i.text i.later later i.passed i.number i.header i.one (let n = i.number in omega arith)
          ∙ ap (λ ls. hand_with h.line (i.text ∷ (i.later ++ ls)) ∷ hands_from s.number later) stops
          ∙ ap (λ ls. hand_with h.line (i.text ∷ ls) ∷ hands_from s.number later) (append-nil i.later)
          ∙ ap (λ ls. hand_with h.line ls ∷ hands_from s.number later) (sym i.texts) in
          ap (closed_units Hands whole) hands
          ∙ closed_cons whole u (hand_with s.number (text ∷ up_to_header z)) (hands_from (s.number + 1) z) (hands_from s.number later) (ap (hands_from s.number) begins ∙ hands-begin s.number text z header)
          ∙ ap (λ n. u ∷ closed_units Hands whole (hands_from n later)) (sym line)
          ∙ ap (λ n. u ∷ closed_units Hands whole (hands_from s'.line (lines_in whole (drop n bytes ++ more)))) (sym at);
    })

-- what is handed out depends on the place and the number of its line alone
pub out_from : (closed_now : Bool) (bytes : List ℕ) (old s new : Scan) (unit : UnitPlace) → s.at ≡ old.at → s.line ≡ old.line → HandsOut Hands closed_now bytes s new unit → HandsOut Hands closed_now bytes old new unit
out_from closed_now bytes old s new unit at line out = record {
  behind = (let b = out.behind in omega arith);
  some = out.some;
  within = out.within;
  begins = subst (λ (n : ℕ). EndsInNewline (slice_range bytes n unit.first)) at out.begins;
  ends = out.ends;
  at = out.at;
  counted = out.counted;
  line = out.line ∙ ap (λ n. n + length (lines (slice_range bytes s.at unit.end))) line ∙ ap (λ n. old.line + length (lines (slice_range bytes n unit.end))) at;
  stays = λ whole more may. sym (ap (λ n. units_in Hands whole n (drop s.at bytes ++ more)) line ∙ ap (λ n. units_in Hands whole old.line (drop n bytes ++ more)) at) ∙ out.stays whole more may;
}

-- without a header line no hand is there
pub no_hands : (n : ℕ) (xs : List (List ℕ)) → up_to_header xs ≡ xs → hands_from n xs ≡ []
no_hands n xs passed = ap (hands_from n) (sym (append-nil xs)) ∙ hands-passed n (n + length xs) xs [] passed refl

pub open_lines : (bytes : List ℕ) (looked : ℕ) → has_newline (drop looked bytes) ≡ false → lines_in false (drop looked bytes ++ []) ≡ []
open_lines bytes looked none = ap (λ xs. lines (closed xs)) (append-nil (drop looked bytes)) ∙ ap lines (closed-none (drop looked bytes) none)

only_hand : (n h : ℕ) (before : List (List ℕ)) (text : List ℕ) (later ys : List (List ℕ)) → ys ≡ [] → up_to_header before ≡ before → h ≡ n + length before → is_header text ≡ true → up_to_header later ≡ later
    → without_last (hands_from n ((before ++ text ∷ later) ++ ys)) ≡ []
only_hand n h before text later ys none passed at header one =
    ap without_last (ap (λ zs. hands_from n ((before ++ text ∷ later) ++ zs)) none ∙ hands-between n h (h + 1 + length later) before text later [] passed at header one refl)

open_by_head : (bytes : List ℕ) (at line looked : ℕ) (head : Option Head) → at ≤ looked → EndsInNewline (slice_range bytes at looked) → HeadIs bytes at line looked head → has_newline (drop looked bytes) ≡ false
    → without_last (hands_from line (lines_in false (drop at bytes ++ []))) ≡ []
open_by_head bytes at line looked None onward ends h none =
    let all : lines_in false (drop at bytes ++ []) ≡ lines (slice_range bytes at looked) = lines_by_scan false bytes [] at looked onward ends ∙ ap (λ ls. lines (slice_range bytes at looked) ++ ls) (open_lines bytes looked none) ∙ append-nil (lines (slice_range bytes at looked)) in
    ap (λ ls. without_last (hands_from line ls)) all ∙ ap without_last (no_hands line (lines (slice_range bytes at looked)) h)
open_by_head bytes at line looked (Some head) onward ends i none =
    ap (λ ls. without_last (hands_from line ls)) (lines_by_head false bytes [] at line looked head i i)
    ∙ only_hand line head.line (lines (slice_range bytes at head.at)) i.text i.later (lines_in false (drop looked bytes ++ [])) (open_lines bytes looked none) i.passed i.number i.header i.one

-- where all was looked at, no hand is closed
pub none_open : (bytes : List ℕ) (s : Scan) → IsScan bytes s → has_newline (drop s.looked bytes) ≡ false → units_in Hands false s.line (drop s.at bytes) ≡ []
unfolding units_in
none_open bytes s scan none =
    ap (λ xs. without_last (hands_from s.line (lines_in false xs))) (sym (append-nil (drop s.at bytes)))
    ∙ open_by_head bytes s.at s.line s.looked s.head scan.onward scan.whole scan.head none

-- a hand is handed out where the next header line is found
pub hands_out_found : (closed_now : Bool) (bytes : List ℕ) (old s new : Scan) (h head : Head) → s.at ≡ old.at → s.line ≡ old.line → s.head ≡ Some h → Finds bytes s new head
    → HandsOut Hands closed_now bytes old (begun head new) (record { first = h.at; end = head.at; first_line = h.line })
hands_out_found closed_now bytes old s new h head at line is f =
    let b = f.between in
    let scan = f.scan in
    let i = head_of bytes b.at b.line b.looked b.head h (f.same ∙ is) scan.head in
    out_from closed_now bytes old b (begun head new) _ (f.at ∙ at) (f.line ∙ line)
    (hands_out_later closed_now bytes b (begun head new) f.text h _ scan.counted (let a = scan.ahead in let w = scan.within in omega arith) i
    (begins_by_line closed_now bytes b.looked f.next f.text f.found) f.header (ap (λ (x : Head). x.at) f.here) (ap (λ (x : Head). x.line) f.here)
    (ap (λ (x : Head). (let u : UnitPlace = record { first = h.at; end = x.at; first_line = h.line } in u)) f.here))
