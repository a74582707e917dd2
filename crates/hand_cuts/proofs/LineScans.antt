-- The steps of a scan over lines, each of which is handed out at once.
use Rattle.std.proofs.Common.{◌≡◌, ℕ, ◌+◌, ◌<◌, Bool, true, false, cond, List, [], ◌∷◌, ◌++◌, length, drop, inl, inr, refl, sym, ap, ◌∙◌, arith, append-nil, length-drop}
use Rattle.std.specs.Prelude.{slice_range}
use Rattle.std.proofs.lemmas.Bool.{lt-ltb}
use Rattle.std.proofs.lemmas.List.{drop_all}
use Rattle.line_text.specs.Lines.{lines, closed, text_of, has_newline}
use Rattle.hand_cuts.specs.Units.{UnitLines, units_in, lines_in, each_from}
use Rattle.hand_cuts.specs.Scans.{LineAt, IsScan, HandsOut, passed, gone_on, finished, number_at_end}
use Rattle.hand_cuts.specs.declared.units.CutKind.TheVariants.{Lines}
use Rattle.hand_cuts.specs.declared.scan.Scan.{Scan}
use Rattle.hand_cuts.proofs.LineParts.{closed-none, no_slice, slice-all, lines-open}
use Rattle.hand_cuts.proofs.ScanSteps.{nothing_passed, nothing_searched, empty_slice}
use Rattle.hand_cuts.proofs.HandScans.{lines_by_line}

same_number : (bytes : List ℕ) (s : Scan) → IsScan bytes s → s.looked ≡ s.at → s.number ≡ s.line
same_number bytes s scan same =
    let none : length (lines (slice_range bytes s.at s.looked)) ≡ 0 = ap (λ n. length (lines (slice_range bytes s.at n))) same ∙ ap length (empty_slice bytes s.at) in
    let c = scan.counted in
    omega arith

pub line_out : (closed_now : Bool) (bytes : List ℕ) (s : Scan) (next : ℕ) (text : List ℕ) → IsScan bytes s → s.looked ≡ s.at → LineAt bytes s.looked next text
    → HandsOut Lines closed_now bytes s (gone_on (passed next s)) (record { first = s.looked; end = next; first_line = s.number })
unfolding units_in
line_out closed_now bytes s next text scan same l =
    let number : s.number ≡ s.line = same_number bytes s scan same in
    let one : lines (slice_range bytes s.at next) ≡ text ∷ [] = ap (λ n. lines (slice_range bytes n next)) (sym same) ∙ l.one in
    record {
      behind = scan.onward;
      some = l.some;
      within = l.within;
      begins = scan.whole;
      ends = inl l.ends;
      at = refl;
      line = (let n = ap length one in omega arith);
      counted = (let n = ap length l.one in omega arith);
      stays = λ whole more _.
          ap (λ n. each_from s.line (lines_in whole (drop n bytes ++ more))) (sym same)
          ∙ ap (each_from s.line) (lines_by_line whole bytes more s.looked next text l)
          ∙ ap (λ n. (let u : UnitLines = record { first = n; lines = text ∷ [] } in u) ∷ each_from (n + 1) (lines_in whole (drop next bytes ++ more))) (sym number)
          ∙ ap (λ ls. (let u : UnitLines = record { first = s.number; lines = ls } in u) ∷ each_from (s.number + 1) (lines_in whole (drop next bytes ++ more))) (sym l.one);
    }

nothing_behind : (bytes : List ℕ) (n : ℕ) → each_from n (lines (drop (length bytes) bytes ++ [])) ≡ []
nothing_behind bytes n = ap (λ xs. each_from n (lines xs)) (append-nil (drop (length bytes) bytes) ∙ drop_all (length bytes) bytes (omega arith))

alone : (n n' : ℕ) (u : UnitLines) (xs ys : List ℕ) (whole : Bool) (more : List ℕ) → (whole ≡ true) × (more ≡ []) → each_from n (lines (xs ++ [])) ≡ u ∷ each_from n' (lines (ys ++ []))
    → each_from n (lines_in whole (xs ++ more)) ≡ u ∷ each_from n' (lines_in whole (ys ++ more))
alone n n' u xs ys whole more e h = rw (e.0, e.1) h

-- the last line, which has no newline
pub line_out_last : (bytes : List ℕ) (s : Scan) → IsScan bytes s → s.looked ≡ s.at → has_newline (drop s.looked bytes) ≡ false → s.looked < length bytes
    → HandsOut Lines true bytes s (finished (length bytes) s) (record { first = s.looked; end = length bytes; first_line = s.number })
unfolding units_in
line_out_last bytes s scan same none some =
    let text = text_of (drop s.looked bytes) in
    let number : s.number ≡ s.line = same_number bytes s scan same in
    let one : lines (drop s.looked bytes) ≡ text ∷ [] = lines-open (drop s.looked bytes) none (omega (arith, length-drop s.looked bytes)) in
    let told : lines (slice_range bytes s.looked (length bytes)) ≡ text ∷ [] = ap lines (slice-all bytes s.looked) ∙ one in
    let up : number_at_end (length bytes) s ≡ s.number + 1 = ap (λ v. cond v (s.number + 1) s.number) (lt-ltb s.looked (length bytes) some) in
    let size : length (lines (slice_range bytes s.at (length bytes))) ≡ 1 = ap (λ n. length (lines (slice_range bytes n (length bytes)))) (sym same) ∙ ap length told in
    let u : UnitLines = record { first = s.number; lines = lines (slice_range bytes s.looked (length bytes)) } in
    let hands : each_from s.line (lines (drop s.at bytes ++ [])) ≡ u ∷ each_from (number_at_end (length bytes) s) (lines (drop (length bytes) bytes ++ [])) =
    ap (λ xs. each_from s.line (lines xs)) (append-nil (drop s.at bytes)) ∙ ap (λ n. each_from s.line (lines (drop n bytes))) (sym same) ∙ ap (each_from s.line) one
    ∙ ap (λ n. (let v : UnitLines = record { first = n; lines = text ∷ [] } in v) ∷ []) (sym number)
    ∙ ap (λ ls. (let v : UnitLines = record { first = s.number; lines = ls } in v) ∷ []) (sym told)
    ∙ ap (λ hs. u ∷ hs) (sym (nothing_behind bytes (number_at_end (length bytes) s))) in
    record {
      behind = scan.onward;
      some = some;
      within = omega arith;
      begins = scan.whole;
      ends = inr refl;
      at = refl;
      counted = up ∙ (let n = ap length told in let e : s.number + 1 ≡ s.number + length (lines (slice_range bytes s.looked (length bytes))) = omega arith in e);
      line = up ∙ (let e : s.number + 1 ≡ s.line + length (lines (slice_range bytes s.at (length bytes))) = omega arith in e);
      stays = λ whole more may. alone s.line (number_at_end (length bytes) s) u (drop s.at bytes) (drop (length bytes) bytes) whole more (may refl) hands;
    }

-- no line is closed
pub line_open : (bytes : List ℕ) (s : Scan) → s.looked ≡ s.at → has_newline (drop s.looked bytes) ≡ false → units_in Lines false s.line (drop s.at bytes) ≡ []
unfolding units_in
line_open bytes s same none = ap (λ n. each_from s.line (lines (closed (drop n bytes)))) (sym same) ∙ ap (λ xs. each_from s.line (lines xs)) (closed-none (drop s.looked bytes) none)

-- no line is left
pub line_none : (closed_now : Bool) (bytes : List ℕ) (s : Scan) → s.looked ≡ s.at → s.looked ≡ length bytes → units_in Lines closed_now s.line (drop s.at bytes) ≡ []
unfolding units_in
line_none closed_now bytes s same all =
    let none : drop s.at bytes ≡ [] = drop_all s.at bytes (omega arith) in
    ap (λ xs. each_from s.line (lines_in closed_now xs)) none ∙ empty_step closed_now
  where
    empty_step : (v : Bool) → each_from s.line (lines_in v []) ≡ []
    empty_step true = refl
    empty_step false = refl
