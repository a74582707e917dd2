-- A seat wins as many sides of a pot as sets of winners have it: `law_sides_won_are_sets_of_winners`.
use Rattle.std.proofs.Common.{◌≡◌, ℕ, zero, suc, ◌+◌, ◌<◌, ◌≤◌, ◌==◌, Bool, true, false, cond, List, [], ◌∷◌, ◌++◌, refl, sym, ap, ◌∙◌, arith}
use Rattle.std.specs.Prelude.{count_by, if◌then◌else◌}
use Rattle.std.proofs.lemmas.List.Sums.{sum_by-cons, sum_by-append}
use Rattle.card_sets.specs.PlayerSets.{has_player}
use Rattle.pot_layers.specs.declared.paid.Pot.{Pot}
use Rattle.pot_layers.specs.declared.paid.Share.{Share}
use Rattle.pot_layers.specs.Split.{high_half, low_half, shares, shares_from, side_share, sides_won}
use Rattle.hand_audit.specs.declared.pot_names.Source.{Source}
use Rattle.hand_audit.specs.Settle.{Showing, Part, first_side, first_winners, is_alone, is_checked, net_of, order_of, parts_of, second_side, second_winners, shares_among, shares_by, shares_if, shares_of_parts, shares_of_pot, sides_of_seat}
use Rattle.hand_laws.specs.SideLaws.{SidesAreSets, winners_by_side}

abbrev share_of : ℕ → ℕ → ℕ → List ℕ → List ℕ → ℕ → Share
share_of units high low ho lo seat = record {
  seat = seat;
  units = side_share (high_half units low) ho seat + side_share (low_half units low) lo seat;
  sides = sides_won high low seat;
}

-- one seat of the walk
step : (units high low : ℕ) (ho lo : List ℕ) (p seat n : ℕ) → sides_of_seat p (shares_from units high low ho lo seat (suc n))
    ≡ (if seat == p then sides_won high low seat else 0) + sides_of_seat p (shares_from units high low ho lo (seat + 1) n)
step units high low ho lo p seat n = by (sides_won high low seat == 0) refl
  where
    later : List Share
    later = shares_from units high low ho lo (seat + 1) n

    nothing : (b : Bool) → sides_won high low seat ≡ 0 → sides_of_seat p later ≡ (if b then sides_won high low seat else 0) + sides_of_seat p later
    nothing true none = omega (arith, none)
    nothing false none = omega arith

    by : (b : Bool) → (sides_won high low seat == 0) ≡ b → sides_of_seat p (if b then later else share_of units high low ho lo seat ∷ later)
        ≡ (if seat == p then sides_won high low seat else 0) + sides_of_seat p later
    by true e = let none : sides_won high low seat ≡ 0 = grind arith in nothing (seat == p) none
    by false e = sum_by-cons (λ (x : Share). if x.seat == p then x.sides else 0) (share_of units high low ho lo seat) later

past : (units high low : ℕ) (ho lo : List ℕ) (p seat n : ℕ) → p < seat → sides_of_seat p (shares_from units high low ho lo seat n) ≡ 0
past units high low ho lo p seat zero l = refl
past units high low ho lo p seat (suc n) l =
    let other : (seat == p) ≡ false = grind arith in
    let one : (if seat == p then sides_won high low seat else 0) ≡ 0 = ap (λ b. if b then sides_won high low seat else 0) other in
    let rest = past units high low ho lo p (seat + 1) n (omega (arith, l)) in
    step units high low ho lo p seat n ∙ omega (arith, one, rest)

within : (units high low : ℕ) (ho lo : List ℕ) (p seat n : ℕ) → seat ≤ p → p < seat + n → sides_of_seat p (shares_from units high low ho lo seat n) ≡ sides_won high low p
within units high low ho lo p seat zero low_end far = absurd (omega (arith, low_end, far))
within units high low ho lo p seat (suc n) low_end far = by (seat == p) refl (λ later. within units high low ho lo p (seat + 1) n later (omega (arith, far)))
  where
    by : (b : Bool) → (seat == p) ≡ b → (seat + 1 ≤ p → sides_of_seat p (shares_from units high low ho lo (seat + 1) n) ≡ sides_won high low p)
        → sides_of_seat p (shares_from units high low ho lo seat (suc n)) ≡ sides_won high low p
    by true e go =
        let same : seat ≡ p = grind arith in
        let one : (if seat == p then sides_won high low seat else 0) ≡ sides_won high low seat = ap (λ b. if b then sides_won high low seat else 0) e in
        let rest = past units high low ho lo p (seat + 1) n (omega (arith, same)) in
        let here : sides_won high low seat ≡ sides_won high low p = ap (sides_won high low) same in
        step units high low ho lo p seat n ∙ omega (arith, one, rest, here)
    by false e go =
        let later : seat + 1 ≤ p = grind arith in
        let one : (if seat == p then sides_won high low seat else 0) ≡ 0 = ap (λ b. if b then sides_won high low seat else 0) e in
        let rest = go later in
        step units high low ho lo p seat n ∙ omega (arith, one, rest)

-- a part, and some parts
of_part : (s : Showing) (eligible seat : ℕ) (part : Part) → 1 ≤ seat → seat ≤ 10
    → sides_of_seat seat (shares_by s part (first_winners s part.board eligible) (second_winners s part.board eligible))
    ≡ sides_won (first_winners s part.board eligible) (second_winners s part.board eligible) seat
unfolding shares_by shares
of_part s eligible seat part low high =
    let first = first_winners s part.board eligible in
    let second = second_winners s part.board eligible in
    within part.units first second (order_of (first_side s.game) s part.board first) (order_of (second_side s.game) s part.board second) seat 1 10 low (omega (arith, high))

of_parts : (s : Showing) (eligible seat : ℕ) (parts : List Part) → is_alone eligible ≡ false → 1 ≤ seat → seat ≤ 10
    → sides_of_seat seat (shares_of_parts s eligible parts) ≡ count_by (λ winners. has_player winners seat) (winners_by_side s eligible parts)
of_parts s eligible seat [] shared low high = refl
of_parts s eligible seat (part ∷ parts) shared low high =
    let first = first_winners s part.board eligible in
    let second = second_winners s part.board eligible in
    let some = shares_among (is_alone eligible) s eligible part in
    let whole = sum_by-append (λ (x : Share). if x.seat == seat then x.sides else 0) some (shares_of_parts s eligible parts) in
    let one : sides_of_seat seat some ≡ sides_won first second seat = ap (λ b. sides_of_seat seat (shares_among b s eligible part)) shared ∙ of_part s eligible seat part low high in
    let rest = of_parts s eligible seat parts shared low high in
    let two = sum_by-cons (λ (winners : ℕ). cond (has_player winners seat) 1 0) first (second ∷ winners_by_side s eligible parts) in
    let last = sum_by-cons (λ (winners : ℕ). cond (has_player winners seat) 1 0) second (winners_by_side s eligible parts) in
    omega (arith, whole, one, rest, two, last)

pub sides_are_sets : SidesAreSets
unfolding shares_of_pot
sides_are_sets s source pot seat known shared low high =
    ap (λ b. sides_of_seat seat (shares_if b s pot.eligible (parts_of s (net_of s source)))) known
    ∙ of_parts s pot.eligible seat (parts_of s (net_of s source)) shared low high
