use Rattle.std.proofs.Common.{ℕ, zero, suc, ◌<◌, [], ◌∷◌, length, ap, ◌∙◌, arith}
use Rattle.std.specs.Prelude.{slice_index}
use Rattle.rank_high.specs.High.{count_of_rank}
use Rattle.board_runouts.proofs.FirstRanks.{three_ranks}
use Rattle.board_runouts.proofs.row.ranks_of.Goals as goal

pub returns-clause-ranks : goal.returns-clause-ranks
returns-clause-ranks c = λ r l.
    three_ranks c.iter-rest.result.rest c.next.new.self.rest c.next-2.new.self.rest c.next-3.new.self.rest c.next.result c.next-2.result c.next-3.result c.rank_or_none-first.result c.rank_or_none-second.result c.rank_or_none-third.result r (omega (arith, ap length c.iter-rest.ensures.cards, c.requires)) c.next.ensures.steps c.next-2.ensures.steps c.next-3.ensures.steps
    c.rank_or_none-first.ensures.rank c.rank_or_none-second.ensures.rank c.rank_or_none-third.ensures.rank l ∙ ap (λ cards. count_of_rank cards r) c.iter-rest.ensures.cards

below : (a b d place : ℕ) → a < 14 → b < 14 → d < 14 → slice_index (a ∷ b ∷ d ∷ []) place < 14
below a b d zero x y z = x
below a b d (suc zero) x y z = y
below a b d (suc (suc zero)) x y z = z
below a b d (suc (suc (suc n))) x y z = omega arith

pub returns-clause-bounds : goal.returns-clause-bounds
returns-clause-bounds c = λ place. below _ _ _ place c.rank_or_none-first.ensures.bound c.rank_or_none-second.ensures.bound c.rank_or_none-third.ensures.bound
