use Rattle.rank_high.proofs.by_ranks.plain_value.Goals as goal

pub returns : goal.returns
returns c = c.ranks_value.ensures c.args.s (record {
  set = c.rising.ensures.set;
  five = c.requires.five;
  counted = record {
    one = c.by_rank-ranks.ensures.one;
    two = c.by_rank-ranks.ensures.two;
    three = c.by_rank-ranks.ensures.three;
    four = c.by_rank-ranks.ensures.four;
  };
})
