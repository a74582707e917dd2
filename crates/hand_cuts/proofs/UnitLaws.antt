-- The law of units: those that are closed stay the first, whatever bytes follow.
use Rattle.std.proofs.Common.{◌≡◌, ℕ, ◌+◌, Bool, true, false, cond, List, [], ◌∷◌, ◌++◌, length, refl, sym, ap, ◌∙◌, arith, append_assoc}
use Rattle.history_text.specs.Headers.{is_header}
use Rattle.line_text.specs.Lines.{lines, closed, unclosed}
use Rattle.line_text.proofs.CallerLemmas.{all_close_lines}
use Rattle.hand_cuts.specs.Units.{UnitLines, units_in, closed_units, lines_in, up_to_header, hands_from, each_from, without_last}
use Rattle.hand_cuts.specs.Laws.{ClosedUnitsStay}
use Rattle.hand_cuts.specs.declared.units.CutKind.TheVariants.{Hands, Lines}
use Rattle.hand_cuts.proofs.LineParts.{lines_in-split}
use Rattle.hand_cuts.proofs.HandLists.{hand_with, without_last-cons}

each-append : (n : ℕ) (xs ys : List (List ℕ)) → each_from n (xs ++ ys) ≡ each_from n xs ++ each_from (n + length xs) ys
each-append n [] ys = ap (λ k. each_from k ys) (let e : n ≡ n + 0 = omega arith in e)
each-append n (x ∷ xs) ys =
    let later : each_from (n + 1) (xs ++ ys) ≡ each_from (n + 1) xs ++ each_from (n + length (x ∷ xs)) ys =
    each-append (n + 1) xs ys ∙ ap (λ k. each_from (n + 1) xs ++ each_from k ys) (let e : n + 1 + length xs ≡ n + length (x ∷ xs) = omega arith in e) in
    ap (λ us. (let u : UnitLines = record { first = n; lines = x ∷ [] } in u) ∷ us) later

-- where a hand begins among some lines, one begins among these and others after them, and the lines before it are the same
record Found (n : ℕ) (xs ys : List (List ℕ)) : Type 0 where
  pub hand : UnitLines
  pub hands : List UnitLines
  pub all : hands_from n (xs ++ ys) ≡ hand ∷ hands
  pub before : up_to_header (xs ++ ys) ≡ up_to_header xs

found_step : (n : ℕ) (x : List ℕ) (xs ys : List (List ℕ)) (v : Bool) (h : UnitLines) (hs : List UnitLines)
    → (hands_from (n + 1) xs ≡ h ∷ hs → Found (n + 1) xs ys)
    → cond v (hand_with n (x ∷ up_to_header xs) ∷ hands_from (n + 1) xs) (hands_from (n + 1) xs) ≡ h ∷ hs
    → (hand : UnitLines) × (hands : List UnitLines) × (cond v (hand_with n (x ∷ up_to_header (xs ++ ys)) ∷ hands_from (n + 1) (xs ++ ys)) (hands_from (n + 1) (xs ++ ys)) ≡ hand ∷ hands)
    × (cond v [] (x ∷ up_to_header (xs ++ ys)) ≡ cond v [] (x ∷ up_to_header xs))
found_step n x xs ys true h hs later e = (hand_with n (x ∷ up_to_header (xs ++ ys)), hands_from (n + 1) (xs ++ ys), refl, refl)
found_step n x xs ys false h hs later e = let f = later e in (f.hand, f.hands, f.all, ap (λ ls. x ∷ ls) f.before)

found : (n : ℕ) (xs ys : List (List ℕ)) (h : UnitLines) (hs : List UnitLines) → hands_from n xs ≡ h ∷ hs → Found n xs ys
found n [] ys h hs e = absurd (cc)
found n (x ∷ xs) ys h hs e =
    let s = found_step n x xs ys (is_header x) h hs (found (n + 1) xs ys h hs) e in
    record { hand = s.0; hands = s.1; all = s.2; before = s.3 }

-- the hands but the last come first, whatever lines follow
record Fronts (n : ℕ) (whole : Bool) (xs ys : List (List ℕ)) : Type 0 where
  pub more : List UnitLines
  pub split : closed_units Hands whole (hands_from n (xs ++ ys)) ≡ without_last (hands_from n xs) ++ more

cons_step : (whole : Bool) (u v : UnitLines) (us hs : List UnitLines) → hs ≡ v ∷ us → closed_units Hands whole (u ∷ hs) ≡ u ∷ closed_units Hands whole hs
cons_step true u v us hs e = refl
cons_step false u v us hs e = without_last-cons u v us hs e

hand_step : (n : ℕ) (whole : Bool) (x : List ℕ) (xs ys : List (List ℕ)) (later : List UnitLines) → hands_from (n + 1) xs ≡ later → Fronts (n + 1) whole xs ys
    → (more : List UnitLines) × (closed_units Hands whole (hand_with n (x ∷ up_to_header (xs ++ ys)) ∷ hands_from (n + 1) (xs ++ ys)) ≡ without_last (hand_with n (x ∷ up_to_header xs) ∷ later) ++ more)
hand_step n whole x xs ys [] e f = (closed_units Hands whole (hand_with n (x ∷ up_to_header (xs ++ ys)) ∷ hands_from (n + 1) (xs ++ ys)), refl)
hand_step n whole x xs ys (h ∷ hs) e f =
    let g = found (n + 1) xs ys h hs e in
    let u = hand_with n (x ∷ up_to_header xs) in (
      f.more,
      ap (λ ls. closed_units Hands whole (hand_with n (x ∷ ls) ∷ hands_from (n + 1) (xs ++ ys))) g.before
          ∙ cons_step whole u g.hand g.hands (hands_from (n + 1) (xs ++ ys)) g.all ∙ ap (λ us. u ∷ us) f.split ∙ ap (λ us. u ∷ (without_last us ++ f.more)) e,
    )

fronts_step : (n : ℕ) (whole : Bool) (x : List ℕ) (xs ys : List (List ℕ)) (v : Bool) → Fronts (n + 1) whole xs ys
    → (more : List UnitLines) × (closed_units Hands whole (cond v (hand_with n (x ∷ up_to_header (xs ++ ys)) ∷ hands_from (n + 1) (xs ++ ys)) (hands_from (n + 1) (xs ++ ys)))
    ≡ without_last (cond v (hand_with n (x ∷ up_to_header xs) ∷ hands_from (n + 1) xs) (hands_from (n + 1) xs)) ++ more)
fronts_step n whole x xs ys true f = hand_step n whole x xs ys (hands_from (n + 1) xs) refl f
fronts_step n whole x xs ys false f = (f.more, f.split)

fronts : (n : ℕ) (whole : Bool) (xs ys : List (List ℕ)) → Fronts n whole xs ys
fronts n whole [] ys = record { more = closed_units Hands whole (hands_from n ys); split = refl }
fronts n whole (x ∷ xs) ys = let s = fronts_step n whole x xs ys (is_header x) (fronts (n + 1) whole xs ys) in record { more = s.0; split = s.1 }

split_lines : (whole : Bool) (bytes rest : List ℕ) → lines_in whole (bytes ++ rest) ≡ lines (closed bytes) ++ lines_in whole (unclosed bytes ++ rest)
split_lines whole bytes rest =
    let law = all_close_lines bytes in
    ap (λ xs. lines_in whole (xs ++ rest)) (sym law.parts) ∙ ap (lines_in whole) (append_assoc (closed bytes) (unclosed bytes) rest)
    ∙ lines_in-split whole (closed bytes) (unclosed bytes ++ rest) law.ends

pub closed_units_stay : ClosedUnitsStay
unfolding units_in
closed_units_stay Hands whole number bytes rest =
    let f = fronts number whole (lines (closed bytes)) (lines_in whole (unclosed bytes ++ rest)) in
    (f.more, ap (λ ls. closed_units Hands whole (hands_from number ls)) (split_lines whole bytes rest) ∙ f.split)
closed_units_stay Lines whole number bytes rest =
    let later = lines_in whole (unclosed bytes ++ rest) in
    (each_from (number + length (lines (closed bytes))) later, ap (each_from number) (split_lines whole bytes rest) ∙ each-append number (lines (closed bytes)) later)
