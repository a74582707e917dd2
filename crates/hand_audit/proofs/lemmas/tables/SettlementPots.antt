-- The pots of a settlement are those of the hand.
use Rattle.std.proofs.Common.{◌≡◌, ℕ, ◌+◌, List, [], ◌∷◌, refl, ap, Bool, true, false, length, map}
use Rattle.hand_events.specs.declared.events.Header.{Header}
use Rattle.hand_events.specs.declared.events.Event.{Event}
use Rattle.pot_layers.specs.declared.paid.Pot.{Pot}
use Rattle.pot_layers.specs.Pots.{pots}
use Rattle.betting_replay.specs.TableAfter.{table_of}
use Rattle.hand_audit.specs.PotNames.{fits}
use Rattle.hand_audit.specs.Settle.{Showing, settled, settled_of, pot_lines, unfit_line}
use Rattle.hand_audit.specs.Showings.{paid_in, showing_at, showing_of}
use Rattle.hand_audit.specs.PotSeats.{eligible_of}
use Rattle.hand_audit.specs.AllIns.{eligible_in}

-- the pots of a settlement are those of the hand
unfit_same : (all : List Pot) → eligible_of (map unfit_line all) ≡ eligible_in all
unfit_same [] = refl
unfit_same (pot ∷ all) = ap (λ xs. pot.eligible ∷ xs) (unfit_same all)

fit_same : (s : Showing) (count k : ℕ) (all : List Pot) → eligible_of (pot_lines s count k all) ≡ eligible_in all
fit_same s count k [] = refl
fit_same s count k (pot ∷ all) = ap (λ xs. pot.eligible ∷ xs) (fit_same s count (k + 1) all)

lines_same : (b : Bool) (s : Showing) (all : List Pot) → eligible_of (settled_of b s all).pots ≡ eligible_in all
lines_same true s all = fit_same s (length all) 0 all
lines_same false s all = unfit_same all

pub settled_same : (s : Showing) → eligible_of (settled s).pots ≡ eligible_in (pots s.paid)
unfolding settled
settled_same s = lines_same (fits (pots s.paid) s.collections) s (pots s.paid)

pub paid_shown : (g : Header) (players : ℕ) (h : List Event) → (showing_of g players h).paid ≡ paid_in (table_of g players h)
unfolding showing_of showing_at
paid_shown g players h = refl
