use Rattle.std.proofs.Common.{◌≡◌, ℕ, zero, suc, ◌+◌, ◌<◌, [], ◌∷◌, ap, arith}
use Rattle.std.specs.Prelude.{slice_index}
use Rattle.rank_high.specs.Parts.{count_of_suit}
use Rattle.board_ranks.specs.HighParts.{flush_part}
use Rattle.board_ranks.proofs.suits.flush_counts.Goals as goal

four : (f : ℕ → ℕ) (w x y z s : ℕ) → s < 4 → w ≡ f 0 → x ≡ f 1 → y ≡ f 2 → z ≡ f 3 → slice_index (w ∷ x ∷ y ∷ z ∷ []) s ≡ f s
four f w x y z zero l a b c d = a
four f w x y z (suc zero) l a b c d = b
four f w x y z (suc (suc zero)) l a b c d = c
four f w x y z (suc (suc (suc zero))) l a b c d = d
four f w x y z (suc (suc (suc (suc n)))) l a b c d = absurd (omega arith)

pub returns-clause-value : goal.returns-clause-value
returns-clause-value c = λ s l. four (λ s. flush_part c.args.game (count_of_suit c.args.own s) + slice_index c.args.board s) _ _ _ _ s l
    (ap (λ n. n + slice_index c.args.board 0) c.flush_part.ensures.value)
    (ap (λ n. n + slice_index c.args.board 1) c.flush_part-2.ensures.value)
    (ap (λ n. n + slice_index c.args.board 2) c.flush_part-3.ensures.value)
    (ap (λ n. n + slice_index c.args.board 3) c.flush_part-4.ensures.value)
