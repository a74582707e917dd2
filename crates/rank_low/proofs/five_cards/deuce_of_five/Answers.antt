use Rattle.std.proofs.Common.{◌≡◌, ◌∷◌, ap, ◌∙◌, arith, slice_index}
use Rattle.rank_high.specs.High.{value_of}
use Rattle.rank_high.proofs.CallerLemmas.{each_group, few_groups, few_pairs, value_of-lt}
use Rattle.rank_low.specs.Low.{low_27}
use Rattle.rank_low.proofs.CountsAndGroups.{made-deuce, low_27-IsHighList}
use Rattle.rank_low.proofs.five_cards.deuce_of_five.Goals as goal

pub value-requires : goal.value-requires
value-requires c =
    let list : c.category-category.result ∷ c.deref-3.result.now ≡ low_27 c.args.s =
    made-deuce (slice_index c.rank_counts.result) c.args.s c.rank_counts.ensures c.is_run.result c.is_flush.result _ _ _ _ c.group_ranks-groups.result.ranks.items c.deref.result.now c.deref-2.result.now _ c.deref-3.result.now
    c.group_ranks-groups.ensures.ranks (cc) c.is_run.ensures c.is_flush.ensures c.group_ranks-groups.ensures.fours c.group_ranks-groups.ensures.threes c.group_ranks-groups.ensures.pairs c.category-category.ensures (cc) c.raised.ensures (cc) in
    rw list (value_of-lt (low_27 c.args.s) (low_27-IsHighList c.args.s (omega arith)))

pub returns : goal.returns
returns c =
    let list : c.category-category.result ∷ c.deref-3.result.now ≡ low_27 c.args.s =
    made-deuce (slice_index c.rank_counts.result) c.args.s c.rank_counts.ensures c.is_run.result c.is_flush.result _ _ _ _ c.group_ranks-groups.result.ranks.items c.deref.result.now c.deref-2.result.now _ c.deref-3.result.now
    c.group_ranks-groups.ensures.ranks (cc) c.is_run.ensures c.is_flush.ensures c.group_ranks-groups.ensures.fours c.group_ranks-groups.ensures.threes c.group_ranks-groups.ensures.pairs c.category-category.ensures (cc) c.raised.ensures (cc) in
    c.numbered.ensures ∙ c.number.ensures ∙ c.value.ensures ∙ ap value_of list

pub category-category-requires : goal.category-category-requires
category-category-requires c = omega (arith, c.group_ranks-groups.ensures.pairs, few_pairs (slice_index c.rank_counts.result) c.args.s c.rank_counts.ensures)

pub raised-requires-clause-thirteen : goal.raised-requires-clause-thirteen
raised-requires-clause-thirteen c = each_group (slice_index c.rank_counts.result) c.deref-2.result.now (cc)

pub group_ranks-groups-requires : goal.group_ranks-groups-requires
group_ranks-groups-requires c = omega (arith, few_groups (slice_index c.rank_counts.result) c.args.s c.rank_counts.ensures)
