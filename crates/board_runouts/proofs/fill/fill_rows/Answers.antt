use Rattle.std.proofs.Common.{◌≡◌, ◌+◌, ◌*◌, ◌/◌, ◌%◌, ℕ, List, sym, ◌∙◌, arith, subst, inl, inr}
use Rattle.std.proofs.lemmas.Bool.{cases_lt}
use Rattle.card_sets.specs.Cards.{union}
use Rattle.card_sets.specs.State.{State, state_of}
use Rattle.showdown_tally.specs.Deals.{deal_of}
use Rattle.showdown_tally.specs.Showdown.{Showdown}
use Rattle.board_runouts.specs.HandRanks.{AreHandRanks}
use Rattle.board_runouts.specs.KeptRows.{IsBestAt}
use Rattle.board_runouts.specs.SideRows.{IsDealtWith}
use Rattle.board_runouts.proofs.BoardDealt.{worths_after}
use Rattle.board_runouts.proofs.RowSets.{best_other}
use Rattle.board_runouts.proofs.fill.fill_rows.Goals as goal

pub loop-low-init : goal.loop-low-init
loop-low-init c = record {
  places = c.name_rows.ensures.places;
  names = c.name_rows.ensures.names;
  rows = λ pot k row runout lt at less least order dealt. absurd (omega arith);
  away = c.name_rows.ensures.away;
}

pub loop-high-init : goal.loop-high-init
loop-high-init c =
    let was = c.loop-low.invariant in
    record {
      places = was.places;
      names = was.names;
      rows = λ pot k row runout lt at less least order dealt. was.rows pot k row runout lt at (omega arith) least order dealt;
      away = was.away;
    }

pub worths_with-requires-clause-ranks : goal.worths_with-requires-clause-ranks
worths_with-requires-clause-ranks c =
    let st : State = state_of c.args.start.now.spot.now.table.known in
    let P : List ℕ → Type 0 = λ board. AreHandRanks st board c.hand_ranks-held.result in
    c.add_rank.ensures (union st.board c.args.start.now.taken) (subst P c.union-board.ensures c.hand_ranks-held.ensures)

pub loop-high-preserved : goal.loop-high-preserved
loop-high-preserved c =
    let st : State = state_of c.args.start.now.spot.now.table.known in
    let deal : Showdown = deal_of c.args.start.now.spot.now.table in
    let was = c.loop-high.invariant in
    let e = c.put_ends.ensures in
    let low : ℕ = c.loop-low.low in
    let high : ℕ = c.loop-high.high in
    let place : ℕ = 13 * c.from.result + c.from-in-loop-high.result in
    let here : place ≡ 13 * low + high = (let f = c.from.ensures in let g = c.from-in-loop-high.ensures in omega arith) in
    record {
      places = e.places ∙ was.places;
      names = λ pot row lt at.
          let before = e.others (c.args.base + pot) row at in
          let named = was.names pot before.0 lt before.1 in
          record { pot_is = before.2.pot_is ∙ named.pot_is; ranks_are = before.2.ranks_are ∙ named.ranks_are; least_is = before.2.least_is ∙ named.least_is };
      rows = λ pot k row runout lt at less least order dealt. elim (cases_lt k (13 * low + high)) [
        | inl under ↦
            let before = e.others (c.args.base + pot) row at in
            best_other deal pot k place runout before.0 row before.2 (λ s. omega arith) (was.rows pot k before.0 runout lt before.1 under least order dealt)
        | inr ge ↦
            let same : k ≡ place = omega arith in
            let first : k / 13 ≡ low = omega arith in
            let second : k % 13 ≡ high = omega arith in
            let P : ℕ → Type 0 = λ i. IsDealtWith st c.args.start.now.ranks i (k % 13) runout in
            let R : ℕ → Type 0 = λ i. IsDealtWith st c.args.start.now.ranks low i runout in
            let Q : ℕ → Type 0 = λ i. IsBestAt deal pot runout row i in
            let dealt' : IsDealtWith st c.args.start.now.ranks low high runout = subst R second (subst P first dealt) in
            subst Q (sym same) (e.here pot row runout lt at
            (worths_after st c.args.start.now.taken c.args.start.now.ranks low high runout c.worths_with.new.worths c.args.start.now.spot.now.dealt c.rising.ensures.set c.rising-2.ensures.set c.args.start.now.first c.args.start.now.ranks_are dealt' c.worths_with.ensures.highs c.worths_with.ensures.lows))
      ];
      away = λ i away. e.away i away ∙ was.away i away;
    }

pub loop-low-preserved : goal.loop-low-preserved
loop-low-preserved c =
    let was = c.loop-high.invariant in
    record {
      places = was.places;
      names = was.names;
      rows = λ pot k row runout lt at less least order dealt. was.rows pot k row runout lt at (omega arith) least order dealt;
      away = was.away;
    }

pub returns-clause-rows : goal.returns-clause-rows
returns-clause-rows c = λ pot row lt at place runout l least order dealt. c.loop-low.invariant.rows pot place row runout lt at (omega arith) least order dealt
