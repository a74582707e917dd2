-- Who may win which pot.
use Rattle.std.proofs.Common.{◌≡◌, ℕ, zero, suc, ◌<◌, ◌≤◌, List, [], ◌∷◌, refl, ◌∙◌, Bool, true, false, ◌==◌, ◌&&◌, ◌||◌, arith, All}
use Rattle.std.specs.Prelude.{if◌then◌else◌, nat_le, nat_lt}
use Rattle.card_sets.specs.PlayerSets.{has_player}
use Rattle.card_sets.specs.PlayerSetLaws.{players_where-small, has_player-where, has_player-above}
use Rattle.pot_layers.specs.declared.paid.Paid.{Paid}
use Rattle.pot_layers.specs.declared.paid.Pot.{Pot}
use Rattle.pot_layers.specs.Pots.{reaches, reaching, pots_from, pots, or_one, more_first, more_last, levels, all_dead, above, highest, any_contender}
use Rattle.pot_layers.specs.Eligible.{is_contender}

-- a seat is eligible exactly where it is of a contender who reaches the level
pub eligible : (ps : List Paid) (level seat : ℕ) → seat < 11 → has_player (reaching ps level) seat ≡ reaches ps level seat
eligible ps level seat h = has_player-where (reaches ps level) 11 seat h

-- a seat without a contender reaches no level
reaches_none : (ps : List Paid) (level seat : ℕ) → is_contender ps seat ≡ false → reaches ps level seat ≡ false
reaches_none [] level seat h = refl
reaches_none (p ∷ ps) level seat h = one ((p.seat == seat) && p.contender) (nat_le level p.live) (is_contender ps seat) (reaches ps level seat) h (reaches_none ps level seat)
  where
    one : (a l c r : Bool) → (a || c) ≡ false → (c ≡ false → r ≡ false) → ((a && l) || r) ≡ false
    one true l c r h go = cc
    one false l c r h go = go h

out_of : (ps : List Paid) (level seat : ℕ) → is_contender ps seat ≡ false → has_player (reaching ps level) seat ≡ false
out_of ps level seat h = one (nat_lt seat 11) refl
  where
    one : (b : Bool) → nat_lt seat 11 ≡ b → has_player (reaching ps level) seat ≡ false
    one true e = let low : seat < 11 = grind arith in eligible ps level seat low ∙ reaches_none ps level seat h
    one false e = let high : 11 ≤ seat = grind arith in has_player-above (reaching ps level) 11 seat (players_where-small (reaches ps level) 11) high

abbrev IsOut : ℕ → Pot → Type 0
IsOut seat pot = has_player pot.eligible seat ≡ false

out_levels : (ps : List Paid) (seat : ℕ) → is_contender ps seat ≡ false → (low : ℕ) (ls : List ℕ) → All (IsOut seat) (pots_from ps low ls)
out_levels ps seat h low [] k d l = absurd (omega arith)
out_levels ps seat h low (level ∷ ls) zero d l = out_of ps level seat h
out_levels ps seat h low (level ∷ ls) (suc k) d l = out_levels ps seat h level ls k d (omega arith)

out_first : (seat units : ℕ) (all : List Pot) → All (IsOut seat) all → All (IsOut seat) (more_first units all)
out_first seat units [] h k d l = absurd (omega arith)
out_first seat units (pot ∷ all) h zero d l = h 0 d (omega arith)
out_first seat units (pot ∷ all) h (suc k) d l = h (suc k) d (omega arith)

out_last : (seat units : ℕ) (all : List Pot) → All (IsOut seat) all → All (IsOut seat) (more_last units all)
out_last seat units [] h k d l = absurd (omega arith)
out_last seat units (pot ∷ []) h zero d l = h 0 d (omega arith)
out_last seat units (pot ∷ []) h (suc k) d l = absurd (omega arith)
out_last seat units (pot ∷ next ∷ all) h zero d l = h 0 d (omega arith)
out_last seat units (pot ∷ next ∷ all) h (suc k) d l = out_last seat units (next ∷ all) (λ j c m. h (suc j) c (omega arith)) k d (omega arith)

out_one : (ps : List Paid) (seat : ℕ) → is_contender ps seat ≡ false → (all : List Pot) → All (IsOut seat) all → All (IsOut seat) (or_one ps all)
out_one ps seat h [] out = some (any_contender ps)
  where
    some : (b : Bool) → All (IsOut seat) (if b then record { units = 0; eligible = reaching ps 0 } ∷ [] else [])
    some true zero d l = out_of ps 0 seat h
    some true (suc k) d l = absurd (omega arith)
    some false k d l = absurd (omega arith)
out_one ps seat h (pot ∷ all) out = out

pub excludes_folded : (ps : List Paid) (seat : ℕ) → is_contender ps seat ≡ false → All (IsOut seat) (pots ps)
unfolding pots
excludes_folded ps seat h = out_first seat (all_dead ps) _ (out_last seat (above ps (highest ps)) _ (out_one ps seat h _ (out_levels ps seat h 0 (levels ps))))
