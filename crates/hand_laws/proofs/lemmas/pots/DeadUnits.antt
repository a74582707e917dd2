-- Dead chips are in the first pot, and what folded players put in above the highest level in the last:
-- `law_dead_chips_are_in_the_first_pot`.
use Rattle.std.proofs.Common.{◌≡◌, ℕ, ◌+◌, ◌-◌, min, List, [], ◌∷◌, ◌++◌, refl, sym, ap, ◌∙◌, arith, subst}
use Rattle.std.specs.List.{sum_by}
use Rattle.std.proofs.lemmas.List.Sums.{sum_by-cons}
use Rattle.pot_layers.specs.declared.paid.Paid.{Paid}
use Rattle.pot_layers.specs.declared.paid.Pot.{Pot}
use Rattle.pot_layers.specs.Pots.{above, all_dead, between, highest, levels, more_first, more_in, more_last, or_one, pot_between, pots, pots_from}
use Rattle.hand_laws.specs.DeadChips.{DeadChipsAreFirst, HoldDeadAndFolded}

-- what is below a level and the dead chips, added up at once
together : (ps : List Paid) (level : ℕ) → between ps 0 level + all_dead ps ≡ sum_by (λ p. min p.live level + p.dead) ps
together [] level = refl
together (p ∷ ps) level =
    let rest = together ps level in
    omega (arith, rest, sum_by-cons (λ (q : Paid). min q.live level - min q.live 0) p ps, sum_by-cons (λ (q : Paid). q.dead) p ps, sum_by-cons (λ (q : Paid). min q.live level + q.dead) p ps)

-- more in the last of some pots, the last alone
more_in_last : (units : ℕ) (front : List Pot) (pot : Pot) → more_last units (front ++ pot ∷ []) ≡ front ++ more_in units pot ∷ []
more_in_last units [] pot = refl
more_in_last units (first ∷ []) pot = refl
more_in_last units (first ∷ next ∷ front) pot = ap (λ xs. first ∷ xs) (more_in_last units (next ∷ front) pot)

-- the pots of some levels end with that of the last two
ends_with : (ps : List Paid) (low : ℕ) (lower : List ℕ) (below level : ℕ) → (first : Pot) × (front : List Pot) × (pots_from ps low (lower ++ below ∷ level ∷ []) ≡ (first ∷ front) ++ pot_between ps below level ∷ [])
ends_with ps low [] below level = (pot_between ps low below, [], refl)
ends_with ps low (x ∷ lower) below level =
    let later = ends_with ps x lower below level in
    (pot_between ps low x, later.0 ∷ later.1, ap (λ xs. pot_between ps low x ∷ xs) later.2)

first_of : (ps : List Paid) (level next : ℕ) (higher : List ℕ) → levels ps ≡ level ∷ next ∷ higher
    → (pot : Pot) × (later : List Pot) × (pots ps ≡ pot ∷ later) × (pot.units ≡ sum_by (λ p. min p.live level + p.dead) ps)
unfolding pots
first_of ps level next higher are = (
  more_in (all_dead ps) (pot_between ps 0 level),
  more_last (above ps (highest ps)) (pots_from ps level (next ∷ higher)),
  ap (λ ls. more_first (all_dead ps) (more_last (above ps (highest ps)) (or_one ps (pots_from ps 0 ls)))) are,
  together ps level,
)

last_of : (ps : List Paid) (lower : List ℕ) (below level : ℕ) → levels ps ≡ lower ++ below ∷ level ∷ []
    → (earlier : List Pot) × (pot : Pot) × (pots ps ≡ earlier ++ pot ∷ [])
    × (pot.units ≡ sum_by (λ p. min p.live level - min p.live below) ps + sum_by (λ p. p.live - highest ps) ps)
unfolding pots
last_of ps lower below level are =
    let all = ends_with ps 0 lower below level in
    let more = above ps (highest ps) in
    let last = pot_between ps below level in (
      more_in (all_dead ps) all.0 ∷ all.1,
      more_in more last,
      ap (λ ls. more_first (all_dead ps) (more_last more (or_one ps (pots_from ps 0 ls)))) are
          ∙ ap (λ xs. more_first (all_dead ps) (more_last more (or_one ps xs))) all.2
          ∙ ap (more_first (all_dead ps)) (more_in_last more (all.0 ∷ all.1) last),
      refl,
    )

pub dead_chips_are_first : DeadChipsAreFirst
dead_chips_are_first ps = record { first = first_of ps; last = last_of ps }
