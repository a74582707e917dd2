-- What the contenders of an all-in would have got with even luck adds up to what they got.
use Rattle.std.proofs.Common.{◌≡◌, ℕ, ◌*◌, List, length, sym, ap, ◌∙◌}
use Rattle.std.specs.List.{sum_by}
use Rattle.hand_verdict.specs.SeatSums.{got_by}
use Rattle.hand_verdict.specs.declared.settlement.PotLine.{PotLine}
use Rattle.report_laws.specs.ExpectLaws.{EvenAddsUp, GivesAll, got_of_all, held_by_all}
use Rattle.even_luck.specs.Figures.{every_pot, gross_of, paid_from}
use Rattle.even_luck.specs.Seats.{contenders}
use Rattle.even_luck.specs.EvenLuck.{shared_pots}
use Rattle.report_laws.proofs.ExpectFacts.{sum_swap}
use Rattle.even_luck.proofs.CallerLemmas.{got_shared, sums_same}
use Rattle.showdown_tally.specs.Showdown.{Showdown}
use Rattle.showdown_tally.specs.Tallies.{runouts_after}

-- what pots would hold that hold what some seats got out of them is what these seats got out of all
held_is_got : (pots : List PotLine) (seats : List ℕ) (deal : Showdown) → held_by_all (shared_pots seats pots) deal ≡ sum_by (λ seat. got_of_all pots deal seat) seats
held_is_got pots seats deal =
    sums_same (λ k. gross_of (shared_pots seats pots) k) (λ k. sum_by (λ seat. got_by (paid_from pots k) seat) seats) (length deal.pots) (λ k below. sym (got_shared seats pots k))
    ∙ sum_swap (λ k seat. got_by (paid_from pots k) seat) (every_pot (length deal.pots)) seats

pub even_adds_up : (pots : List PotLine) (seats : List ℕ) (deal : Showdown) → GivesAll (shared_pots (contenders seats deal) pots) deal → EvenAddsUp pots seats deal
even_adds_up pots seats deal all = all ∙ ap (λ n. n * (5040 * length (runouts_after deal.state))) (held_is_got pots (contenders seats deal) deal)
