use Rattle.std.proofs.Common.{◌≡◌, sym, subst}
use Rattle.card_sets.specs.State.{state_of}
use Rattle.runout_ranges.specs.Slots.{slots}
use Rattle.showdown_tally.specs.declared.table.Table.{Table}
use Rattle.board_runouts.specs.Boards.{board_lacks}
use Rattle.board_runouts.proofs.RiverFacts.{lacks_one, no_rank}
use Rattle.board_runouts.proofs.rivers.Rivers.of.Goals as goal

pub invariant_of-result : goal.invariant_of-result
invariant_of-result c =
    let P : Table → Type 0 = λ t. board_lacks (slots (state_of t.known)) ≡ 1 in
    record {
      same = c.of.ensures;
      one = subst P (sym c.of.ensures) (lacks_one c.args.table.now c.args.shape.now (state_of c.args.table.now.known) c.requires.rivers c.requires.shape.lacking);
      kept = λ pot card l none member. absurd (no_rank c.of.result card none member);
    }
