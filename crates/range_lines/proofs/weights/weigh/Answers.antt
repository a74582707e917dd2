use Rattle.std.proofs.Common.{◌≡◌, ℕ, ◌*◌, ◌<◌, get_or, sym, ap, ◌∙◌, false, length, refl, rules, arith}
use Rattle.std.specs.List.{list_all}
use Rattle.range_lines.specs.Hands.{all_pairs, has_room}
use Rattle.range_lines.specs.Texts.{texts_left, texts_of}
use Rattle.range_lines.specs.Weights.{pairs_in}
use Rattle.range_lines.proofs.ItemWeights.{cleared_all, weighing_none, weighing_full, weighing_more}
use Rattle.range_lines.proofs.WeightTables.{none_table, none_pairs, table_added, table_room, table_heavy}
use Rattle.range_lines.proofs.weights.weigh.Goals as goal

pub loop-text-init : goal.loop-text-init
loop-text-init c =
    let first : texts_left c.into_iter-text-iterator.result ≡ texts_of c.args.word.now = ap texts_left c.into_iter-text-iterator.ensures.into_iter_gives ∙ c.of-text-items.ensures in
    let room : length c.fill.new.self ≡ 52 * 52 = omega (arith, c.fill.ensures.len, c.requires.room) in
    let none : (i : ℕ) → i < 52 * 52 → get_or c.fill.new.self i 0 ≡ 0 = λ i h. c.fill.ensures.clones i 0 (omega (arith, h, c.requires.room)) refl in
    record { more = tt; ends = tt; table = none_table c.fill.new.self room none; state = weighing_none c.args.word.now all_pairs (pairs_in c.fill.new.self) _ cleared_all (none_pairs c.fill.new.self none) first }

pub returns-then-not-add-clause-value : goal.returns-then-not-add-clause-value
returns-then-not-add-clause-value c =
    let full : list_all (has_room c.in-Some-entry_of.entry) (pairs_in c.loop-text.cells) ≡ false = table_heavy _ _ (c.add.ensures.heavy (search rules)) in
    weighing_full _ _ _ _ _ c.in-Some-entry_of.entry c.loop-text.invariant.state c.in-Some.ensures.steps (sym c.entry_of.ensures.value ∙ c.in-Some-entry_of.is) full

pub loop-text-preserved : goal.loop-text-preserved
loop-text-preserved c =
    let more = c.add.ensures.added (search rules) in
    record {
      more = tt;
      ends = tt;
      table = c.add.ensures.table;
      state = weighing_more _ _ _ _ _ _ c.in-Some-entry_of.entry c.loop-text.invariant.state c.in-Some.ensures.steps (sym c.entry_of.ensures.value ∙ c.in-Some-entry_of.is)
          (table_room _ _ _ more c.add.ensures.table) (table_added _ _ _ more);
    }
