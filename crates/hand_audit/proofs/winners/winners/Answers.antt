use Rattle.std.proofs.Common.{◌≡◌, ℕ, List, sym, refl, subst, rules}
use Rattle.std.specs.Prelude.{Option, false}
use Rattle.hand_audit.specs.Orders.{OfSeats}
use Rattle.hand_audit.specs.Winning.{wins, winners_by}
use Rattle.hand_audit.proofs.lemmas.seats.SeatSets.{of_seats}
use Rattle.hand_audit.proofs.winners.winners.Goals as goal

none_at_zero : (values : List (Option ℕ)) (seats : ℕ) → wins values seats 0 ≡ false
unfolding wins
none_at_zero values seats = refl

pub returns-clause-value : goal.returns-clause-value
unfolding winners_by
returns-clause-value c = c.passing.ensures (wins c.args.values.now c.args.seats) (λ p pass inside post. search rules)

pub returns-clause-seats : goal.returns-clause-seats
returns-clause-seats c =
    subst OfSeats (sym (c.passing.ensures (wins c.args.values.now c.args.seats) (λ p pass inside post. search rules))) (of_seats (wins c.args.values.now c.args.seats) (none_at_zero c.args.values.now c.args.seats))
