use Rattle.std.proofs.Common.{◌≡◌, ◌<◌, ◌≤◌, true, subst, ◌∙◌, ⊎_elim, arith}
use Rattle.std.proofs.lemmas.Bool.{cases_lt}
use Rattle.tally_book.specs.Pages.{is_marked}
use Rattle.steal_pool.proofs.alone.count_alone.Goals as goal

pub loop-block-preserved : goal.loop-block-preserved
loop-block-preserved g c =
    let k = c.loop-block.block in
    let inv = c.loop-block.invariant in (
      c.post_block.ensures.count ∙ inv.0,
      c.post_block.ensures.parts ∙ inv.1,
      λ b low. ⊎_elim (λ (l : b < k). c.post_block.ensures.kept b (inv.2 b l))
          (λ (h : k ≤ b). let e : k ≡ b = omega arith in subst (λ i. is_marked c.post_block.new.book i ≡ true) e c.post_block.ensures.marked) (cases_lt b k),
    )
