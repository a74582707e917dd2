-- In the pot of a level exactly those contenders are eligible who have paid up to it: `law_eligible_players_reach_the_level`.
use Rattle.std.proofs.Common.{ℕ, List, [], ◌∷◌}
use Rattle.pot_layers.specs.declared.paid.Paid.{Paid}
use Rattle.pot_layers.specs.declared.paid.Pot.{Pot}
use Rattle.pot_layers.specs.Pots.{pots_from, pots, or_one, more_first, more_last, levels, all_dead, above, highest}
use Rattle.hand_laws.specs.Eligible.{EligibleBy}
use Rattle.pot_layers.proofs.CallerLemmas.{eligible}

by_levels : (ps : List Paid) (low : ℕ) (ls : List ℕ) → EligibleBy ps ls (pots_from ps low ls)
by_levels ps low [] = tt
by_levels ps low (level ∷ ls) = ((λ seat h. eligible ps level seat h), by_levels ps level ls)

by_first : (ps : List Paid) (ls : List ℕ) (units : ℕ) (all : List Pot) → EligibleBy ps ls all → EligibleBy ps ls (more_first units all)
by_first ps [] units all h = tt
by_first ps (level ∷ ls) units [] h = h
by_first ps (level ∷ ls) units (pot ∷ all) h = h

by_last : (ps : List Paid) (ls : List ℕ) (units : ℕ) (all : List Pot) → EligibleBy ps ls all → EligibleBy ps ls (more_last units all)
by_last ps [] units all h = tt
by_last ps (level ∷ ls) units [] h = h
by_last ps (level ∷ ls) units (pot ∷ []) h = h
by_last ps (level ∷ ls) units (pot ∷ next ∷ all) h = (h.0, by_last ps ls units (next ∷ all) h.1)

by_one : (ps : List Paid) (ls : List ℕ) (all : List Pot) → EligibleBy ps ls all → EligibleBy ps ls (or_one ps all)
by_one ps [] all h = tt
by_one ps (level ∷ ls) [] h = absurd h
by_one ps (level ∷ ls) (pot ∷ all) h = h

pub reaches_levels : (ps : List Paid) → EligibleBy ps (levels ps) (pots ps)
unfolding pots
reaches_levels ps = by_first ps (levels ps) (all_dead ps) _ (by_last ps (levels ps) (above ps (highest ps)) _ (by_one ps (levels ps) _ (by_levels ps 0 (levels ps))))
