use Rattle.std.proofs.Common.{ℕ, ◌+◌, ◌<◌, ◌%◌, ◌∷◌, ◌++◌, [], length, slice_index_or, sym, ap, ◌∙◌, arith}
use Rattle.std.proofs.lemmas.List.{take_more_set}
use Rattle.std.proofs.Math.ListN.{length-set}
use Rattle.byte_ends.proofs.Repeats.{repeated-more}
use Rattle.byte_ends.proofs.repeat.fill.Goals as goal

pub bytes-preserved : goal.bytes-preserved
bytes-preserved c =
    let byte : ℕ = slice_index_or c.args.line.now ((c.args.from + c.bytes.at) % 64) 0 in
    let less : c.bytes.at < length c.bytes.piece = c.bytes-test.true in
    let size = length-set c.bytes.piece c.bytes.at byte in
    record {
      within = omega (arith, less, size);
      same = size ∙ c.bytes.invariant.same;
      filled = take_more_set c.bytes.piece c.bytes.at byte less ∙ ap (λ xs. xs ++ byte ∷ []) c.bytes.invariant.filled ∙ sym (repeated-more c.args.line.now c.args.from c.bytes.at);
    }
