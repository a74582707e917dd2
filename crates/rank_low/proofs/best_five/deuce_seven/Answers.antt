use Rattle.std.proofs.Common.{◌≡◌, ◌<◌, ◌^◌, ◌∙◌, ap, sym, arith, cond, true, false}
use Rattle.rank_high.specs.High.{value_of, is_flush}
use Rattle.rank_high.specs.Parts.{best_plain, as_flush}
use Rattle.rank_high.proofs.CallerLemmas.{as_flush-low, as_flush-high, plain-small}
use Rattle.rank_low.specs.Wheel.{without_wheel}
use Rattle.rank_low.proofs.DeuceRanks.{deuce-by_ranks, without_wheel-lt}
use Rattle.rank_low.proofs.best_five.deuce_seven.Goals as goal

pub returns-then-not-is_flush : goal.returns-then-not-is_flush
returns-then-not-is_flush c =
    let plain : c.without_wheel-plain.result ≡ without_wheel (value_of (best_plain c.args.s)) = c.without_wheel-plain.ensures ∙ ap without_wheel (c.number.ensures ∙ c.high_by_ranks.ensures) in
    let mixed : is_flush c.args.s ≡ false = sym c.is_flush.ensures ∙ c.if-not-is_flush.true in
    c.numbered.ensures ∙ plain
    ∙ sym (deuce-by_ranks c.args.s c.rising.ensures.rising c.requires ∙ ap (λ b. cond b (as_flush (without_wheel (value_of (best_plain c.args.s)))) (without_wheel (value_of (best_plain c.args.s)))) mixed)

pub returns-then-plain-lt-ONE_PAIR : goal.returns-then-plain-lt-ONE_PAIR
returns-then-plain-lt-ONE_PAIR c =
    let plain : c.without_wheel-plain.result ≡ without_wheel (value_of (best_plain c.args.s)) = c.without_wheel-plain.ensures ∙ ap without_wheel (c.number.ensures ∙ c.high_by_ranks.ensures) in
    let flush : is_flush c.args.s ≡ true = sym c.is_flush.ensures ∙ c.if-not-is_flush.false in
    c.numbered-then-plain-lt-ONE_PAIR.ensures ∙ sym (as_flush-low c.without_wheel-plain.result c.if-plain-lt-ONE_PAIR.true) ∙ ap as_flush plain
    ∙ sym (deuce-by_ranks c.args.s c.rising.ensures.rising c.requires ∙ ap (λ b. cond b (as_flush (without_wheel (value_of (best_plain c.args.s)))) (without_wheel (value_of (best_plain c.args.s)))) flush)

pub returns-else-plain-lt-ONE_PAIR : goal.returns-else-plain-lt-ONE_PAIR
returns-else-plain-lt-ONE_PAIR c =
    let plain : c.without_wheel-plain.result ≡ without_wheel (value_of (best_plain c.args.s)) = c.without_wheel-plain.ensures ∙ ap without_wheel (c.number.ensures ∙ c.high_by_ranks.ensures) in
    let flush : is_flush c.args.s ≡ true = sym c.is_flush.ensures ∙ c.if-not-is_flush.false in
    c.numbered-else-plain-lt-ONE_PAIR.ensures ∙ sym (as_flush-high c.without_wheel-plain.result c.if-plain-lt-ONE_PAIR.false) ∙ ap as_flush plain
    ∙ sym (deuce-by_ranks c.args.s c.rising.ensures.rising c.requires ∙ ap (λ b. cond b (as_flush (without_wheel (value_of (best_plain c.args.s)))) (without_wheel (value_of (best_plain c.args.s)))) flush)

pub overflow_add-plain-else-plain-lt-ONE_PAIR : goal.overflow_add-plain-else-plain-lt-ONE_PAIR
overflow_add-plain-else-plain-lt-ONE_PAIR c =
    let plain : c.without_wheel-plain.result ≡ without_wheel (value_of (best_plain c.args.s)) = c.without_wheel-plain.ensures ∙ ap without_wheel (c.number.ensures ∙ c.high_by_ranks.ensures) in
    let small : without_wheel (value_of (best_plain c.args.s)) < 16 ^ 6 = without_wheel-lt (value_of (best_plain c.args.s)) (plain-small c.args.s) in
    let low : c.without_wheel-plain.result < 16777216 = omega arith in
    omega arith
