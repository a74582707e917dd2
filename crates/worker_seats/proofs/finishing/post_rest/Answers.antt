use Rattle.std.proofs.Common.{◌≡◌, ◌<◌, ◌≤◌, true, subst, ◌∙◌, ⊎_elim, arith}
use Rattle.std.proofs.lemmas.Bool.{cases_lt}
use Rattle.tally_book.specs.Pages.{is_marked}
use Rattle.worker_seats.proofs.finishing.post_rest.Goals as goal

pub loop-block-preserved : goal.loop-block-preserved
loop-block-preserved g c =
    let k = c.loop-block.block in
    let inv = c.loop-block.invariant in
    let one = c.post_unmarked-own.ensures in (
      one.count ∙ inv.0,
      (λ b low. ⊎_elim (λ (l : b < k). one.kept b (inv.1 b l))
          (λ (h : k ≤ b). let e : k ≡ b = omega arith in subst (λ i. is_marked c.post_unmarked-own.new.book i ≡ true) e one.marked) (cases_lt b k)),
      one.parts ∙ inv.2,
      (let o = one.own in let i = inv.3 in omega arith),
      (let m = one.most in let i = inv.4 in omega arith),
      one.desk ∙ inv.5,
    )
