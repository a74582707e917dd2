use Rattle.std.proofs.Common.{◌+◌, ℕ, List, [], refl, ◌∙◌, arith, ap}
use Rattle.std.specs.Prelude.{slice_index_or}
use Rattle.std.proofs.lemmas.Option.{slice_get-get_or}
use Rattle.board_runouts.specs.Fields.{end_of, ends_of}
use Rattle.board_runouts.proofs.CodeSets.{ends_count, ends_get}
use Rattle.board_runouts.proofs.PackedSums.{fields_from, from_end, from_first, from_next, none_from}
use Rattle.board_runouts.proofs.packed.put_sum.Goals as goal

pub loop-outcome-init : goal.loop-outcome-init
loop-outcome-init c = record {
  grown = λ pot place side p has l. omega (arith, from_first (ends_of pot side c.args.codes.now.ends) c.args.sum place);
  same = refl;
}

pub put_outcome-requires-clause-fits : goal.put_outcome-requires-clause-fits
put_outcome-requires-clause-fits c = λ pot place side p has l.
    let ends : List (List ℕ) = c.args.codes.now.ends in
    let outcome : List ℕ = slice_index_or ends c.loop-outcome.outcome-index [] in
    let there = ends_get pot side ends c.loop-outcome.outcome-index outcome (slice_get-get_or ends c.loop-outcome.outcome-index [] c.loop-outcome-test.true) in
    let step = from_next (ends_of pot side ends) c.loop-outcome.outcome-index (c.loop-outcome.outcome-index + 1) (end_of pot side outcome) c.loop-outcome.rest place (omega arith) there in
    let was = c.loop-outcome.invariant.grown pot place side p has l in
    let fits = c.requires.fits pot place side p has l in
    omega (arith, step, was, fits)

pub loop-outcome-preserved : goal.loop-outcome-preserved
loop-outcome-preserved c = record {
  grown = λ pot place side p has l.
      let ends : List (List ℕ) = c.args.codes.now.ends in
      let outcome : List ℕ = slice_index_or ends c.loop-outcome.outcome-index [] in
      let there = ends_get pot side ends c.loop-outcome.outcome-index outcome (slice_get-get_or ends c.loop-outcome.outcome-index [] c.loop-outcome-test.true) in
      let step = from_next (ends_of pot side ends) c.loop-outcome.outcome-index (c.loop-outcome.outcome-index + 1) (end_of pot side outcome) c.loop-outcome.rest place (omega arith) there in
      let was = c.loop-outcome.invariant.grown pot place side p has l in
      let new = c.put_outcome.ensures.counts pot place side p has l in
      omega (arith, step, was, new);
  same = c.put_outcome.ensures.same ∙ c.loop-outcome.invariant.same;
}

pub returns-clause-counts : goal.returns-clause-counts
returns-clause-counts c = λ pot place side p has l.
    let ends : List (List ℕ) = c.args.codes.now.ends in
    let none = from_end (ends_of pot side ends) c.loop-outcome.outcome-index c.loop-outcome.rest place (let n = ends_count pot side ends in let t = c.loop-outcome-test.false in omega arith) in
    let was = c.loop-outcome.invariant.grown pot place side p has l in
    omega (arith, none, was)

pub returns-then-rest-eq0-clause-counts : goal.returns-then-rest-eq0-clause-counts
returns-then-rest-eq0-clause-counts c = λ pot place side p has l.
    let ends : List ℕ = ends_of pot side c.args.codes.now.ends in
    let none = ap (λ k. fields_from ends c.loop-outcome.outcome-index k place) c.if-rest-eq0.true ∙ none_from ends c.loop-outcome.outcome-index place in
    let was = c.loop-outcome.invariant.grown pot place side p has l in
    omega (arith, none, was)
