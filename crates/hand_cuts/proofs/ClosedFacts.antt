-- The bytes of the closed hands, line by line.
use Rattle.std.proofs.Common.{◌≡◌, ℕ, suc, zero, ◌+◌, ◌<◌, ◌≤◌, ◌&&◌, ◌||◌, Bool, true, false, cond, List, [], ◌∷◌, ◌++◌, length, refl, sym, ap, ◌∙◌, arith, append_assoc}
use mathlib.Core.Bool.{true≢false}
use Rattle.std.specs.List.{list_any}
use Rattle.std.proofs.lemmas.Bool.{eqb-true}
use Rattle.history_text.specs.Headers.{is_header}
use Rattle.line_text.specs.Lines.{lines, closed, text_of, front_line, behind_line, has_newline, is_newline}
use Rattle.hand_cuts.specs.Units.{UnitLines, up_to_header, hands_from, without_last, units_in}
use Rattle.hand_cuts.specs.ClosedBytes.{begins_header, holds_header, closed_hands, ClosedHandsByBytes}
use Rattle.hand_cuts.proofs.LineParts.{front_closed, closed-newline, lines-newline, closed-none, behind_none, front_text}
use Rattle.hand_cuts.proofs.HandLists.{hand_with, without_last-cons}

-- the lines before the last header line
abbrev before_last : List (List ℕ) → List (List ℕ)
before_last [] = []
before_last (l ∷ ls) = cond (list_any is_header ls) (l ∷ before_last ls) []

-- list by list: the hands of the lines before the last header line are all hands but the last
up_step : (l : List ℕ) (ls : List (List ℕ)) (v w : Bool) → is_header l ≡ v → list_any is_header ls ≡ w → (w ≡ true → up_to_header (before_last ls) ≡ up_to_header ls)
    → (v || w) ≡ true → up_to_header (cond w (l ∷ before_last ls) []) ≡ cond v [] (l ∷ up_to_header ls)
up_step l ls true true header any later some = ap (λ v. cond v [] (l ∷ up_to_header (before_last ls))) header
up_step l ls true false header any later some = refl
up_step l ls false true header any later some = ap (λ v. cond v [] (l ∷ up_to_header (before_last ls))) header ∙ ap (λ r. l ∷ r) (later refl)
up_step l ls false false header any later some = absurd (true≢false (sym some))

up_before : (ls : List (List ℕ)) → list_any is_header ls ≡ true → up_to_header (before_last ls) ≡ up_to_header ls
up_before [] some = absurd (true≢false (sym some))
up_before (l ∷ ls) some = up_step l ls (is_header l) (list_any is_header ls) refl refl (up_before ls) some

none_step : (n : ℕ) (l : List ℕ) (ls : List (List ℕ)) (v w : Bool) → is_header l ≡ v → (w ≡ false → hands_from (n + 1) ls ≡ []) → (v || w) ≡ false
    → cond v (hand_with n (l ∷ up_to_header ls) ∷ hands_from (n + 1) ls) (hands_from (n + 1) ls) ≡ []
none_step n l ls true w header later none = absurd (true≢false none)
none_step n l ls false w header later none = later none

no_header_no_hand : (n : ℕ) (ls : List (List ℕ)) → list_any is_header ls ≡ false → hands_from n ls ≡ []
no_header_no_hand n [] none = refl
no_header_no_hand n (l ∷ ls) none = none_step n l ls (is_header l) (list_any is_header ls) refl (no_header_no_hand (n + 1) ls) none

record Some (n : ℕ) (ls : List (List ℕ)) : Type 0 where
  pub hand : UnitLines
  pub hands : List UnitLines
  pub all : hands_from n ls ≡ hand ∷ hands

some_step : (n : ℕ) (l : List ℕ) (ls : List (List ℕ)) (v w : Bool) → (w ≡ true → Some (n + 1) ls) → (v || w) ≡ true
    → (hand : UnitLines) × (hands : List UnitLines) × (cond v (hand_with n (l ∷ up_to_header ls) ∷ hands_from (n + 1) ls) (hands_from (n + 1) ls) ≡ hand ∷ hands)
some_step n l ls true w later some = (hand_with n (l ∷ up_to_header ls), hands_from (n + 1) ls, refl)
some_step n l ls false w later some = let s = later some in (s.hand, s.hands, s.all)

header_hand : (n : ℕ) (ls : List (List ℕ)) → list_any is_header ls ≡ true → Some n ls
header_hand n [] some = absurd (true≢false (sym some))
header_hand n (l ∷ ls) some = let s = some_step n l ls (is_header l) (list_any is_header ls) (header_hand (n + 1) ls) some in record { hand = s.0; hands = s.1; all = s.2 }

but_last_step : (n : ℕ) (l : List ℕ) (ls : List (List ℕ)) (v w : Bool) → is_header l ≡ v → list_any is_header ls ≡ w → hands_from (n + 1) (before_last ls) ≡ without_last (hands_from (n + 1) ls)
    → hands_from n (cond w (l ∷ before_last ls) []) ≡ without_last (cond v (hand_with n (l ∷ up_to_header ls) ∷ hands_from (n + 1) ls) (hands_from (n + 1) ls))
but_last_step n l ls true true header any later =
    let s = header_hand (n + 1) ls any in
    ap (λ v. cond v (hand_with n (l ∷ up_to_header (before_last ls)) ∷ hands_from (n + 1) (before_last ls)) (hands_from (n + 1) (before_last ls))) header
    ∙ ap (λ us. hand_with n (l ∷ us) ∷ hands_from (n + 1) (before_last ls)) (up_before ls any)
    ∙ ap (λ hs. hand_with n (l ∷ up_to_header ls) ∷ hs) later
    ∙ sym (without_last-cons (hand_with n (l ∷ up_to_header ls)) s.hand s.hands (hands_from (n + 1) ls) s.all)
but_last_step n l ls true false header any later = ap (λ hs. without_last (hand_with n (l ∷ up_to_header ls) ∷ hs)) (sym (no_header_no_hand (n + 1) ls any))
but_last_step n l ls false true header any later =
    ap (λ v. cond v (hand_with n (l ∷ up_to_header (before_last ls)) ∷ hands_from (n + 1) (before_last ls)) (hands_from (n + 1) (before_last ls))) header ∙ later
but_last_step n l ls false false header any later = ap without_last (sym (no_header_no_hand (n + 1) ls any))

pub hands_but_last : (n : ℕ) (ls : List (List ℕ)) → hands_from n (before_last ls) ≡ without_last (hands_from n ls)
hands_but_last n [] = refl
hands_but_last n (l ∷ ls) = but_last_step n l ls (is_header l) (list_any is_header ls) refl refl (hands_but_last (n + 1) ls)

-- the lines that have their newline, one by one
ended_front : (xs : List ℕ) → has_newline xs ≡ true → lines (closed xs) ≡ text_of (front_line xs) ∷ lines (closed (behind_line xs))
ended_front xs some =
    let cut : xs ≡ (front_line xs ++ 10 ∷ []) ++ behind_line xs = front_closed xs some ∙ sym (append_assoc (front_line xs) (10 ∷ []) (behind_line xs)) in
    ap (λ ys. lines (closed ys)) cut ∙ ap lines (closed-newline (front_line xs) (behind_line xs)) ∙ lines-newline (front_line xs) (closed (behind_line xs))
    ∙ ap (λ ls. ls ++ lines (closed (behind_line xs))) (front_text xs)

-- within a line only what stands after it counts
behind_step : (rest : List ℕ) (v : Bool) → holds_header false rest ≡ holds_header true (behind_line rest) → holds_header v rest ≡ holds_header true (cond v rest (behind_line rest))
behind_step rest true later = refl
behind_step rest false later = later

holds_in_line : (xs : List ℕ) → holds_header false xs ≡ holds_header true (behind_line xs)
holds_in_line [] = refl
holds_in_line (b ∷ rest) = behind_step rest (is_newline b) (holds_in_line rest)

holds_front : (xs : List ℕ) → holds_header true xs ≡ (begins_header xs || holds_header true (behind_line xs))
holds_front [] = refl
holds_front (b ∷ rest) = ap (λ v. begins_header (b ∷ rest) || v) (behind_step rest (is_newline b) (holds_in_line rest))

-- the front line is before the last closed header line where one stands after it
front_step : (b : ℕ) (rest : List ℕ) (v : Bool) → closed_hands rest ≡ cond (holds_header true (behind_line rest)) (front_line rest ++ 10 ∷ closed_hands (behind_line rest)) []
    → is_newline b ≡ v → cond (holds_header v rest) (b ∷ closed_hands rest) [] ≡ cond (holds_header true (cond v rest (behind_line rest))) (cond v [] (b ∷ front_line rest) ++ 10 ∷ closed_hands (cond v rest (behind_line rest))) []
front_step b rest true later e = ap (λ x. cond (holds_header true rest) (x ∷ closed_hands rest) []) (eqb-true b 10 e)
front_step b rest false later e = ap (λ h. cond h (b ∷ closed_hands rest) []) (holds_in_line rest) ∙ keep (holds_header true (behind_line rest)) later
  where
    keep : (h : Bool) → closed_hands rest ≡ cond h (front_line rest ++ 10 ∷ closed_hands (behind_line rest)) [] → cond h (b ∷ closed_hands rest) [] ≡ cond h (b ∷ (front_line rest ++ 10 ∷ closed_hands (behind_line rest))) []
    keep true same = ap (λ r. b ∷ r) same
    keep false same = refl

pub closed_front : (xs : List ℕ) → closed_hands xs ≡ cond (holds_header true (behind_line xs)) (front_line xs ++ 10 ∷ closed_hands (behind_line xs)) []
closed_front [] = refl
closed_front (b ∷ rest) = front_step b rest (is_newline b) (closed_front rest) refl

-- both, for all bytes up to a length
record Agrees (xs : List ℕ) : Type 0 where
  pub holds : holds_header true xs ≡ list_any is_header (lines (closed xs))
  pub hands : lines (closed_hands xs) ≡ before_last (lines (closed xs))

behind_less : (xs : List ℕ) → 0 < length xs → length (behind_line xs) < length xs
behind_less [] some = absurd (omega arith)
behind_less (x ∷ xs) some = less_step (is_newline x)
  where
    shorter : (ys : List ℕ) → length (behind_line ys) ≤ length ys
    shorter [] = omega arith
    shorter (y ∷ ys) = short_step (is_newline y) (shorter ys)
      where
        short_step : (v : Bool) → length (behind_line ys) ≤ length ys → length (cond v ys (behind_line ys)) ≤ suc (length ys)
        short_step true l = omega arith
        short_step false l = omega arith

    less_step : (v : Bool) → length (cond v xs (behind_line xs)) < suc (length xs)
    less_step true = omega arith
    less_step false = let s = shorter xs in omega arith

agrees_step : (xs : List ℕ) (v : Bool) → has_newline xs ≡ v → Agrees (behind_line xs) → Agrees xs
agrees_step xs true some later =
    let front = ended_front xs some in
    record {
      holds = holds_front xs ∙ ap (λ a. (a && is_header (text_of (front_line xs))) || holds_header true (behind_line xs)) some
          ∙ ap (λ h. is_header (text_of (front_line xs)) || h) later.holds ∙ sym (ap (list_any is_header) front);
      hands = ap lines (closed_front xs) ∙ ap (λ h. lines (cond h (front_line xs ++ 10 ∷ closed_hands (behind_line xs)) [])) later.holds
          ∙ hands_step (list_any is_header (lines (closed (behind_line xs)))) later.hands ∙ sym (ap before_last front);
    }
  where
    hands_step : (h : Bool) → lines (closed_hands (behind_line xs)) ≡ before_last (lines (closed (behind_line xs)))
        → lines (cond h (front_line xs ++ 10 ∷ closed_hands (behind_line xs)) []) ≡ cond h (text_of (front_line xs) ∷ before_last (lines (closed (behind_line xs)))) []
    hands_step true same = ap lines (sym (append_assoc (front_line xs) (10 ∷ []) (closed_hands (behind_line xs)))) ∙ lines-newline (front_line xs) (closed_hands (behind_line xs))
        ∙ ap (λ ls. ls ++ lines (closed_hands (behind_line xs))) (front_text xs) ∙ ap (λ ls. text_of (front_line xs) ∷ ls) same
    hands_step false same = refl
agrees_step xs false none later =
    let behind : behind_line xs ≡ [] = behind_none xs none in
    let nothing : closed xs ≡ [] = closed-none xs none in
    record {
      holds = holds_front xs ∙ ap (λ a. (a && is_header (text_of (front_line xs))) || holds_header true (behind_line xs)) none ∙ ap (holds_header true) behind ∙ sym (ap (λ ys. list_any is_header (lines ys)) nothing);
      hands = ap lines (closed_front xs) ∙ ap (λ ys. lines (cond (holds_header true ys) (front_line xs ++ 10 ∷ closed_hands (behind_line xs)) [])) behind ∙ sym (ap (λ ys. before_last (lines ys)) nothing);
    }

agrees_up_to : (k : ℕ) (xs : List ℕ) → length xs ≤ k → Agrees xs
agrees_up_to k [] small = record { holds = refl; hands = refl }
agrees_up_to zero (x ∷ xs) small = absurd (omega arith)
agrees_up_to (suc k) (x ∷ xs) small = agrees_step (x ∷ xs) (has_newline (x ∷ xs)) refl (agrees_up_to k (behind_line (x ∷ xs)) (let l = behind_less (x ∷ xs) (omega arith) in omega arith))

pub closed_hands_by_bytes : ClosedHandsByBytes
unfolding units_in
closed_hands_by_bytes number bytes =
    let a = agrees_up_to (length bytes) bytes (omega arith) in
    sym (hands_but_last number (lines (closed bytes))) ∙ ap (hands_from number) (sym a.hands)
