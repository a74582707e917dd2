-- A loop that adds up the whole counts after each choice of the next street's cards: where it stands, and that its tally fits.
use Rattle.std.proofs.Common.{◌≡◌, ℕ, ◌+◌, ◌*◌, ◌<◌, ◌≤◌, ◌^◌, List, [], ◌∷◌, ◌++◌, length, sym, ap, ◌∙◌, arith, subst, inl, inr}
use Rattle.std.specs.List.{sum_by}
use Rattle.std.proofs.lemmas.Bool.{cases_lt}
use Rattle.std.proofs.lemmas.List.Sums.{sum_by-cons, sum_by-append, sum_by_push, count_by-le-length}
use Rattle.std.proofs.Math.Nat.{mul-le-mul_left}
use Rattle.card_sets.specs.declared.games.Side.{Side}
use Rattle.runout_ranges.specs.Runouts.{Follows, Ends, Begins, HasMember}
use Rattle.runout_ranges.specs.Walks.{walk_more, walk_all}
use Rattle.showdown_tally.specs.Cells.{Sums, IsSum, CellFits, cell_plus, cell_at, units_at, no_runout}
use Rattle.showdown_tally.specs.CountLaws.{units_small}
use Rattle.showdown_tally.specs.Showdown.{Showdown, wins, ties, loses, units}
use Rattle.showdown_tally.specs.Tallies.{Counts, runouts_after}
use Rattle.runout_ranges.specs.declared.limits.TheConstants.{RUNOUT_MAX}
use Rattle.street_walk.specs.Streets.{choices_of, after, divisions}
use Rattle.street_walk.specs.StreetSums.{deal_after, full_runouts, full_cell, full_units, IsStreetLaw, IsSumOver, IsDivided, AreTooMany}

-- the loop stands at a choice of the street's cards, and those before it are in the tally
pub record IsStreetWalk (deal : Showdown) (at : List (List ℕ)) (sums : Sums) : Type 0 where
  pub done : List (List (List ℕ))
  pub todo : List (List (List ℕ))
  pub split : choices_of deal.state ≡ done ++ at ∷ todo
  pub so_far : IsSumOver deal done sums

pub street_begins : (deal : Showdown) (at : List (List ℕ)) (sums : Sums) → Begins (choices_of deal.state) at → sums.runouts ≡ 0
    → ((pot hand : ℕ) (side : Side) → pot < 10 → hand < 10 → cell_at sums pot hand side ≡ no_runout) → ((pot hand : ℕ) → pot < 10 → hand < 10 → units_at sums pot hand ≡ 0) → IsStreetWalk deal at sums
street_begins deal at sums b none cells units = record {
  done = [];
  todo = b.0;
  split = b.1;
  so_far = record {
    runouts = none;
    wins = λ p h s l m. ap (λ c. c.win) (cells p h s l m);
    ties = λ p h s l m. ap (λ c. c.tie) (cells p h s l m);
    losses = λ p h s l m. ap (λ c. c.lose) (cells p h s l m);
    units = units;
  };
}

-- one choice more
pub sum_more : (deal : Showdown) (done : List (List (List ℕ))) (at : List (List ℕ)) (old tally new : Sums) → IsSumOver deal done old → Counts (deal_after deal at) (runouts_after (after deal.state at)) tally → IsSum old tally new
    → IsSumOver deal (done ++ at ∷ []) new
sum_more deal done at old tally new a b sum = record {
  runouts = sum.runouts ∙ ap (λ n. n + tally.runouts) a.runouts ∙ ap (λ n. sum_by (λ sets. full_runouts (deal_after deal sets)) done + n) b.runouts ∙ sym (sum_by_push (λ sets. full_runouts (deal_after deal sets)) done at);
  wins = λ p h s l m. ap (λ c. c.win) (sum.cells p h s l m) ∙ ap (λ n. n + (cell_at tally p h s).win) (a.wins p h s l m)
      ∙ ap (λ c. sum_by (λ sets. (full_cell (deal_after deal sets) p h s).win) done + c.win) (b.cells p h s l m) ∙ sym (sum_by_push (λ sets. (full_cell (deal_after deal sets) p h s).win) done at);
  ties = λ p h s l m. ap (λ c. c.tie) (sum.cells p h s l m) ∙ ap (λ n. n + (cell_at tally p h s).tie) (a.ties p h s l m)
      ∙ ap (λ c. sum_by (λ sets. (full_cell (deal_after deal sets) p h s).tie) done + c.tie) (b.cells p h s l m) ∙ sym (sum_by_push (λ sets. (full_cell (deal_after deal sets) p h s).tie) done at);
  losses = λ p h s l m. ap (λ c. c.lose) (sum.cells p h s l m) ∙ ap (λ n. n + (cell_at tally p h s).lose) (a.losses p h s l m)
      ∙ ap (λ c. sum_by (λ sets. (full_cell (deal_after deal sets) p h s).lose) done + c.lose) (b.cells p h s l m) ∙ sym (sum_by_push (λ sets. (full_cell (deal_after deal sets) p h s).lose) done at);
  units = λ p h l m. sum.units p h l m ∙ ap (λ n. n + units_at tally p h) (a.units p h l m) ∙ ap (λ n. sum_by (λ sets. full_units (deal_after deal sets) p h) done + n) (b.units p h l m)
      ∙ sym (sum_by_push (λ sets. full_units (deal_after deal sets) p h) done at);
}

-- a part of the choices adds up to no more than all
part_le : (f : List (List ℕ) → ℕ) (all done todo : List (List (List ℕ))) (at : List (List ℕ)) → all ≡ done ++ at ∷ todo → sum_by f done + f at ≤ sum_by f all
part_le f all done todo at e = let s : sum_by f all ≡ sum_by f done + sum_by f (at ∷ todo) = ap (sum_by f) e ∙ sum_by-append f done (at ∷ todo) in omega (arith, s, sum_by-cons f at todo)

-- what isn't above is at most
pub not_less : (a b : ℕ) → ¬ (a < b) → b ≤ a
not_less a b h = elim (cases_lt a b) [ inl l ↦ absurd (h l) | inr g ↦ g ]

-- after a choice there are no more runouts than after all
pub few_after : (deal : Showdown) (now : List (List ℕ)) → IsStreetLaw deal → ¬ AreTooMany deal.state → HasMember (choices_of deal.state) now → length (runouts_after (after deal.state now)) ≤ RUNOUT_MAX
few_after deal now law few m =
    let f : List (List ℕ) → ℕ = λ sets. full_runouts (deal_after deal sets) in
    let part : sum_by f m.0 + f now ≤ sum_by f (choices_of deal.state) = part_le f (choices_of deal.state) m.0 m.1 now m.2 in
    let all : sum_by f (choices_of deal.state) ≡ divisions deal.state * full_runouts deal = law.runouts in
    let most : divisions deal.state * full_runouts deal ≤ RUNOUT_MAX = not_less RUNOUT_MAX (divisions deal.state * full_runouts deal) few in
    omega arith

sum_small : {X : Type 0} (f : X → ℕ) (xs : List X) → ((x : X) → f x ≤ 10080) → sum_by f xs ≤ 10080 * length xs
sum_small f [] h = omega arith
sum_small f (x ∷ xs) h =
    let ih : sum_by f xs ≤ 10080 * length xs = sum_small f xs h in
    rw (sum_by-cons f x xs) (omega (arith, h x))

-- by the law, what is added up fits
pub street_cells_fit : (deal : Showdown) (at : List (List ℕ)) (old tally : Sums) (walk : IsStreetWalk deal at old) → IsStreetLaw deal → divisions deal.state * full_runouts deal ≤ RUNOUT_MAX
    → Counts (deal_after deal at) (runouts_after (after deal.state at)) tally → (p h : ℕ) (s : Side) → p < 10 → h < 10 → CellFits (cell_plus (cell_at old p h s) (cell_at tally p h s))
street_cells_fit deal at old tally walk law few b p h s l m =
    let c = b.cells p h s l m in (
      fits (λ sets. (full_cell (deal_after deal sets) p h s).win) (full_cell deal p h s).win (law.wins p h s) (count_by-le-length (wins deal p h s) (runouts_after deal.state)) (walk.so_far.wins p h s l m) (ap (λ c. c.win) c),
      fits (λ sets. (full_cell (deal_after deal sets) p h s).tie) (full_cell deal p h s).tie (law.ties p h s) (count_by-le-length (ties deal p h s) (runouts_after deal.state)) (walk.so_far.ties p h s l m) (ap (λ c. c.tie) c),
      fits (λ sets. (full_cell (deal_after deal sets) p h s).lose) (full_cell deal p h s).lose (law.losses p h s) (count_by-le-length (loses deal p h s) (runouts_after deal.state)) (walk.so_far.losses p h s l m) (ap (λ c. c.lose) c),
    )
  where
    fits : {a b : ℕ} (f : List (List ℕ) → ℕ) (full : ℕ) → sum_by f (choices_of deal.state) ≡ divisions deal.state * full → full ≤ full_runouts deal → a ≡ sum_by f walk.done → b ≡ f at → a + b < 2 ^ 64
    fits f full e most x y =
        let part = part_le f (choices_of deal.state) walk.done walk.todo at walk.split in
        let bound : divisions deal.state * full ≤ divisions deal.state * full_runouts deal = mul-le-mul_left (divisions deal.state) most in
        omega arith

pub street_units_fit : (deal : Showdown) (at : List (List ℕ)) (old tally : Sums) (walk : IsStreetWalk deal at old) → IsStreetLaw deal → divisions deal.state * full_runouts deal ≤ RUNOUT_MAX
    → Counts (deal_after deal at) (runouts_after (after deal.state at)) tally → (p h : ℕ) → p < 10 → h < 10 → units_at old p h + units_at tally p h < 2 ^ 64
street_units_fit deal at old tally walk law few b p h l m =
    let f : List (List ℕ) → ℕ = λ sets. full_units (deal_after deal sets) p h in
    let part = part_le f (choices_of deal.state) walk.done walk.todo at walk.split in
    let most : full_units deal p h ≤ 10080 * full_runouts deal = sum_small (units deal p h) (runouts_after deal.state) (units_small deal p h) in
    let bound : divisions deal.state * full_units deal p h ≤ divisions deal.state * (10080 * full_runouts deal) = mul-le-mul_left (divisions deal.state) most in
    let e = law.units p h in
    let x = walk.so_far.units p h l m in
    let y = b.units p h l m in
    omega arith

pub street_runouts_fit : (deal : Showdown) (at : List (List ℕ)) (old tally : Sums) (walk : IsStreetWalk deal at old) → IsStreetLaw deal → divisions deal.state * full_runouts deal ≤ RUNOUT_MAX
    → Counts (deal_after deal at) (runouts_after (after deal.state at)) tally → old.runouts + tally.runouts ≤ RUNOUT_MAX
street_runouts_fit deal at old tally walk law few b =
    let f : List (List ℕ) → ℕ = λ sets. full_runouts (deal_after deal sets) in
    let part = part_le f (choices_of deal.state) walk.done walk.todo at walk.split in
    let e = law.runouts in
    let x = walk.so_far.runouts in
    let y = b.runouts in
    omega arith

pub street_goes_on : (deal : Showdown) (at next : List (List ℕ)) (old tally new : Sums) → IsStreetWalk deal at old → Counts (deal_after deal at) (runouts_after (after deal.state at)) tally → IsSum old tally new → Follows (choices_of deal.state) at next → IsStreetWalk deal next new
street_goes_on deal at next old tally new walk b sum follows =
    let more = walk_more (choices_of deal.state) walk.done walk.todo at next walk.split follows in
    record { done = walk.done ++ at ∷ []; todo = more.0; split = more.1; so_far = sum_more deal walk.done at old tally new walk.so_far b sum }

pub street_ends : (deal : Showdown) (at : List (List ℕ)) (old tally new : Sums) → IsStreetWalk deal at old → Counts (deal_after deal at) (runouts_after (after deal.state at)) tally → IsSum old tally new → Ends (choices_of deal.state) at → IsSumOver deal (choices_of deal.state) new
street_ends deal at old tally new walk b sum ends =
    subst (λ some. IsSumOver deal some new) (sym (walk_all (choices_of deal.state) walk.done walk.todo at walk.split ends)) (sum_more deal walk.done at old tally new walk.so_far b sum)

-- what adds up is what the law says
pub street_divided : (deal : Showdown) (sums : Sums) → IsStreetLaw deal → IsSumOver deal (choices_of deal.state) sums → IsDivided deal sums
street_divided deal sums law sum = record {
  runouts = sum.runouts ∙ law.runouts;
  wins = λ p h s l m. sum.wins p h s l m ∙ law.wins p h s;
  ties = λ p h s l m. sum.ties p h s l m ∙ law.ties p h s;
  losses = λ p h s l m. sum.losses p h s l m ∙ law.losses p h s;
  units = λ p h l m. sum.units p h l m ∙ law.units p h;
}
