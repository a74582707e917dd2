use Rattle.std.proofs.Common.{◌<◌, ap, arith, length}
use Rattle.rank_high.specs.Parts.{of_suit}
use Rattle.showdown_tally.proofs.CallerLemmas.{only-suit}
use Rattle.board_runouts.proofs.suited.suit_of_three.Goals as goal

pub returns-then-count-gt2 : goal.returns-then-count-gt2
returns-then-count-gt2 c =
    let many : 2 < length (of_suit c.args.board c.args.first) = omega (arith, ap length c.of_suit.ensures, c.count.ensures.value, c.if-count-gt2.true) in
    only-suit c.args.board c.args.first c.requires.board c.requires.first many
