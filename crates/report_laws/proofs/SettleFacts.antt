-- The lines of what players are still to get, or to give back, add up to nothing.
use Rattle.std.proofs.Common.{◌≡◌, ℕ, ◌+◌, List, [], ◌∷◌, ◌++◌, refl, sym, ap, ◌∙◌, Bool, true, false, ◌==◌, ◌&&◌, ◌||◌, not, arith}
use Rattle.std.specs.Prelude.{filter, if◌then◌else◌, sum_by}
use Rattle.std.specs.List.{flat_map}
use Rattle.std.proofs.lemmas.List.Sums.{sum_by-cons}
use Rattle.card_sets.specs.PlayerSets.{seats_in}
use Rattle.hand_verdict.specs.SeatSums.{PlayersAreDue, due_of, got_of}
use Rattle.hand_verdict.specs.declared.settlement.Settlement.{Settlement}
use Rattle.even_luck.specs.Seats.{Seated}
use Rattle.report_sheet.specs.Lines.{line_in}
use Rattle.report_laws.specs.SettleLaws.{SettlesUp, is_one_of}
use Rattle.hand_blocks.specs.Settles.{are_checked, settle_line, settle_lines, settle_lines_of}
use Rattle.report_sheet.specs.declared.form.Form.{Form}

-- who is among those of some seats that pass a test
among : (f : ℕ → Bool) (xs : List ℕ) (p : ℕ) → is_one_of (filter f xs) p ≡ (is_one_of xs p && f p)
among f [] p = refl
among f (x ∷ xs) p = by (f x) (x == p) refl refl (among f xs p)
  where
    off : (b : Bool) → (b && false) ≡ false
    off true = refl
    off false = refl

    by : (a b : Bool) → f x ≡ a → (x == p) ≡ b → is_one_of (filter f xs) p ≡ (is_one_of xs p && f p) → is_one_of (if a then x ∷ filter f xs else filter f xs) p ≡ ((b || is_one_of xs p) && f p)
    by true true ea eb rest =
        let same : x ≡ p = grind (arith, eb) in
        let here : f p ≡ true = sym (ap f same) ∙ ea in
        rw (eb, here) refl
    by true false ea eb rest = rw eb rest
    by false true ea eb rest =
        let same : x ≡ p = grind (arith, eb) in
        let here : f p ≡ false = sym (ap f same) ∙ ea in
        rest ∙ rw here (off (is_one_of xs p))
    by false false ea eb rest = rest

-- the lines of some seats are those of the seats that aren't even
lines_of : (form : Form) (s : Settlement) (names : Seated) (seats : List ℕ) → flat_map (settle_lines_of form s names) seats
    ≡ flat_map (λ seat. line_in form (settle_line s.hundredths names (due_of s seat) (got_of s seat) seat)) (filter (λ seat. not (due_of s seat == got_of s seat)) seats)
unfolding settle_lines_of
lines_of form s names [] = refl
lines_of form s names (p ∷ seats) = by (due_of s p == got_of s p) (lines_of form s names seats)
  where
    one : List ℕ
    one = line_in form (settle_line s.hundredths names (due_of s p) (got_of s p) p)

    later : List ℕ
    later = filter (λ seat. not (due_of s seat == got_of s seat)) seats

    write : ℕ → List ℕ
    write seat = line_in form (settle_line s.hundredths names (due_of s seat) (got_of s seat) seat)

    by : (b : Bool) → flat_map (settle_lines_of form s names) seats ≡ flat_map write later → (if b then [] else one) ++ flat_map (settle_lines_of form s names) seats ≡ flat_map write (if not b then p ∷ later else later)
    by true rest = rest
    by false rest = ap (λ xs. one ++ xs) rest

-- who is even adds as much to what is due as to what was got
even_out : (s : Settlement) (seats : List ℕ) →
    sum_by (due_of s) (filter (λ seat. not (due_of s seat == got_of s seat)) seats) + sum_by (got_of s) seats
    ≡ sum_by (got_of s) (filter (λ seat. not (due_of s seat == got_of s seat)) seats) + sum_by (due_of s) seats
even_out s [] = refl
even_out s (p ∷ seats) = by (due_of s p == got_of s p) refl (even_out s seats)
  where
    later : List ℕ
    later = filter (λ seat. not (due_of s seat == got_of s seat)) seats

    by : (b : Bool) → (due_of s p == got_of s p) ≡ b → sum_by (due_of s) later + sum_by (got_of s) seats ≡ sum_by (got_of s) later + sum_by (due_of s) seats
        → sum_by (due_of s) (if not b then p ∷ later else later) + sum_by (got_of s) (p ∷ seats) ≡ sum_by (got_of s) (if not b then p ∷ later else later) + sum_by (due_of s) (p ∷ seats)
    by true e rest =
        let same : due_of s p ≡ got_of s p = grind (arith, e) in
        omega (arith, rest, same, sum_by-cons (due_of s) p seats, sum_by-cons (got_of s) p seats)
    by false e rest = omega (arith, rest, sum_by-cons (due_of s) p seats, sum_by-cons (got_of s) p seats, sum_by-cons (due_of s) p later, sum_by-cons (got_of s) p later)

pub settles_up : (s : Settlement) (players : ℕ) → PlayersAreDue s players → SettlesUp s players
unfolding settle_lines
settles_up s players due = record {
  lines = λ form names. written form names (are_checked s.pots);
  one = λ seat. one_by seat (are_checked s.pots);
  whole = whole_by (are_checked s.pots);
}
  where
    uneven : List ℕ
    uneven = filter (λ seat. not (due_of s seat == got_of s seat)) (seats_in players)

    written : (form : Form) (names : Seated) (b : Bool) → (if b then flat_map (settle_lines_of form s names) (seats_in players) else [])
        ≡ flat_map (λ seat. line_in form (settle_line s.hundredths names (due_of s seat) (got_of s seat) seat)) (if b then uneven else [])
    written form names true = lines_of form s names (seats_in players)
    written form names false = refl

    one_by : (seat : ℕ) (b : Bool) → is_one_of (if b then uneven else []) seat ≡ (b && is_one_of (seats_in players) seat && not (due_of s seat == got_of s seat))
    one_by seat true = among (λ seat. not (due_of s seat == got_of s seat)) (seats_in players) seat
    one_by seat false = refl

    whole_by : (b : Bool) → sum_by (due_of s) (if b then uneven else []) ≡ sum_by (got_of s) (if b then uneven else [])
    whole_by true = let both = even_out s (seats_in players) in omega (arith, both, due)
    whole_by false = refl
