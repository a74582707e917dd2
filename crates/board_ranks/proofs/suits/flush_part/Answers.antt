use Rattle.std.proofs.Common.{◌≡◌, ◌∙◌, ap, sym, arith, length}
use Rattle.rank_high.specs.Parts.{count_of_suit}
use Rattle.board_ranks.proofs.HighCalls.{any_part, none_part, two_part, not_omaha}
use Rattle.board_ranks.proofs.SuitParts.{suit_count}
use Rattle.board_ranks.proofs.suits.flush_part.Goals as goal

pub returns-then-count-lt2-clause-value : goal.returns-then-count-lt2-clause-value
returns-then-count-lt2-clause-value c =
    let size : c.count-count.result ≡ count_of_suit c.args.own c.args.suit = c.count-count.ensures.value ∙ ap length c.of_suit.ensures ∙ suit_count c.args.own c.args.suit in
    sym (none_part c.args.game (count_of_suit c.args.own c.args.suit) c.in-Omaha.is (omega (arith, size, c.if-count-lt2.true)))

pub returns-else-count-lt2-clause-value : goal.returns-else-count-lt2-clause-value
returns-else-count-lt2-clause-value c =
    let size : c.count-count.result ≡ count_of_suit c.args.own c.args.suit = c.count-count.ensures.value ∙ ap length c.of_suit.ensures ∙ suit_count c.args.own c.args.suit in
    sym (two_part c.args.game (count_of_suit c.args.own c.args.suit) c.in-Omaha.is (omega (arith, size, c.if-count-lt2.false)))

pub returns-in-Holdem : goal.returns-in-Holdem
returns-in-Holdem c =
    let size : c.count-count.result ≡ count_of_suit c.args.own c.args.suit = c.count-count.ensures.value ∙ ap length c.of_suit.ensures ∙ suit_count c.args.own c.args.suit in
    record {
      value = size ∙ sym (any_part c.args.game (count_of_suit c.args.own c.args.suit) (not_omaha c.args.game c.in-Holdem.is));
      bound = c.count-count.ensures.bound;
    }
