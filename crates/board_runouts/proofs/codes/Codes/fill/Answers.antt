use Rattle.std.proofs.Common.{◌≡◌, ◌+◌, ◌*◌, ℕ, refl, sym, ap, ◌∙◌, arith, inl, inr, length}
use Rattle.std.specs.Prelude.{slice_index}
use Rattle.std.proofs.Math.ListN.{length-set}
use mathlib.Core.Bool.{true≢false}
use Rattle.std.proofs.lemmas.Bool.{cases_lt}
use Rattle.std.proofs.lemmas.List.{get_or-set_other}
use Rattle.std.proofs.lemmas.Grind.{get_or-set_at}
use Rattle.board_runouts.specs.Fields.{end_of}
use Rattle.board_runouts.specs.KeptRows.{row_place}
use Rattle.board_runouts.proofs.codes.Codes.fill.Goals as goal

pub loop-low-init : goal.loop-low-init
loop-low-init c = record {
  ranks = refl;
  least = refl;
  places = c.all_places.ensures;
  not_yet = refl;
  codes = λ k lt least order. absurd (omega arith);
}

pub loop-high-init : goal.loop-high-init
loop-high-init c =
    let was = c.loop-low.invariant in
    record {
      ranks = was.ranks;
      least = was.least;
      places = was.places;
      not_yet = was.not_yet;
      codes = λ k lt least order. was.codes k (omega arith) least order;
    }

pub loop-low-preserved : goal.loop-low-preserved
loop-low-preserved c =
    let was = c.loop-high.invariant in
    record {
      ranks = was.ranks;
      least = was.least;
      places = was.places;
      not_yet = was.not_yet;
      codes = λ k lt least order. was.codes k (omega arith) least order;
    }

pub loop-high-preserved : goal.loop-high-preserved
loop-high-preserved c =
    let was = c.loop-high.invariant in
    let e = c.in-Some.ensures in
    let code : ℕ = c.in-Some.code in
    let place : ℕ = 13 * c.from.result + c.from-in-loop-high.result in
    let here : place ≡ 13 * c.loop-low.low + c.loop-high.high = (let f = c.from.ensures in let g = c.from-in-loop-high.ensures in omega arith) in
    record {
      ranks = e.ranks ∙ was.ranks;
      least = e.least ∙ was.least;
      places = rw length-set (ap length e.adds ∙ was.places);
      not_yet = e.enough ∙ was.not_yet;
      codes = λ k lt least order. elim (cases_lt k (13 * c.loop-low.low + c.loop-high.high)) [
        | inl under ↦
            let before = was.codes k under least order in (
              before.0,
              (let l = before.1 in let m = e.more in omega arith),
              record {
                inside = before.2.inside;
                add_is = get_or-set_other c.code_for.new.self.adds place k c.one_in.result 0 (λ s. omega arith) ∙ ap (λ adds. slice_index adds k) e.adds ∙ before.2.add_is;
                end_is = λ pot side row at. ap (end_of pot side) (e.kept before.0 before.1) ∙ before.2.end_is pot side row at;
              },
            )
        | inr ge ↦
            let same : k ≡ place = omega arith in (
              code,
              e.code.0,
              record {
                inside = (let l = e.code.0 in let f = c.code_for.new.self.few in omega arith);
                add_is = get_or-set_at c.code_for.new.self.adds place k c.one_in.result 0 same (let t = c.loop-high-test.true in let u = c.loop-low-test.true in let n : length c.code_for.new.self.adds ≡ 169 = ap length e.adds ∙ was.places in omega arith) ∙ c.one_in.ensures;
                end_is = λ pot side row at. ap (end_of pot side) e.code.1 ∙ c.outcome_at-outcome.ensures.outcome pot side row at ∙ ap (row_place row side) (sym same);
              },
            )
      ];
    }

pub returns-in_default-clause-codes : goal.returns-in_default-clause-codes
returns-in_default-clause-codes c = λ is. absurd (true≢false (sym is ∙ c.in_default.ensures.enough ∙ c.loop-high.invariant.not_yet))
