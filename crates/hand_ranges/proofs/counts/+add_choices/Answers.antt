use Rattle.std.proofs.Common.{rules, ◌≡◌, ◌≤◌, ◌+◌, ◌-◌, ◌*◌, ◌^◌, ◌∙◌, ◌&&◌, ◌∷◌, ◌++◌, [], true, false, sym, ap, subst, length, take, drop, get_or, arith}
use Rattle.std.specs.List.{list_all}
use Rattle.card_sets.specs.Disjoint.{apart}
use Rattle.runout_ranges.specs.declared.limits.TheConstants.{RUNOUT_MAX}
use Rattle.range_lines.specs.Choices.{is_disjoint, most_choices, walked}
use Rattle.range_lines.specs.RangeSpot.{ranges_in}
use Rattle.hand_ranges.specs.Taken.{chosen}
use Rattle.range_lines.specs.Walks.{Choices, IsWalk, number_in, added_by}
use Rattle.range_lines.proofs.CallerLemmas.{split_first, walk_step, most_none}
use Rattle.range_lines.proofs.CallerLemmas.{disjoint_push, and_true}
use Rattle.hand_ranges.proofs.WalkSums.{first_all, room_left, few_next, few_skip, walk_more, walk_skip}
use Rattle.hand_ranges.proofs.counts.+add_choices.Goals as goal
use Rattle.hand_ranges.proofs.counts.+add_choices.Goals.{then-is_apart, else-is_apart}

pub returns-in_default-clause-few : goal.returns-in_default-clause-few
returns-in_default-clause-few t c =
    let one = c.add_choice.ensures.grows Choices in
    let most = most_none c.args.ranges.now c.in_default.len_below in
    omega (arith, one, most)

pub add_choices-requires : goal.add_choices-requires
add_choices-requires t c =
    let spot = ranges_in c.args.spot.now in
    let ranges = c.args.ranges.now in
    let hands = c.hands-hands.result.now in
    let others = take (length ranges - 1) (drop 1 ranges) in
    let taken = chosen c.args.taken.now in
    let w = c.w-item.result in
    let i = c.loop-w.w-index in
    let split : ranges ≡ hands ∷ others = split_first ranges c.range-item.result hands (omega arith) c.range-item.is c.hands-hands.ensures in
    let step : IsWalk spot others (taken ++ get_or hands i w ∷ []) = walk_step spot hands others taken i w (subst (λ rs. IsWalk spot rs taken) split c.requires.walk) c.loop-w-test.true in
    let more : taken ++ get_or hands i w ∷ [] ≡ chosen c.with-more.result = ap (λ v. taken ++ v ∷ []) (sym c.w-item.is) ∙ sym c.with-more.ensures.hands in
    let product : most_choices ranges ≡ length hands * most_choices others = ap most_choices split in
    let room : c.args.total.now.choices + length hands * most_choices others ≤ RUNOUT_MAX = omega (arith, product, c.requires.few) in
    (search rules, (subst (IsWalk spot others) more step, (room_left c.args.total.now.choices c.loop-w.total.choices i (length hands) (most_choices others) RUNOUT_MAX c.loop-w.invariant.few c.loop-w-test.true room, c.loop-w.invariant.within)))

pub loop-w-preserved : goal.loop-w-preserved
loop-w-preserved t c =
    let spot = ranges_in c.args.spot.now in
    let ranges = c.args.ranges.now in
    let hands = c.hands-hands.result.now in
    let others = take (length ranges - 1) (drop 1 ranges) in
    let taken = chosen c.args.taken.now in
    let v = c.w-item.result in
    let i = c.loop-w.w-index in
    let old = c.args.total.now in
    let pushed : is_disjoint (taken ++ v ∷ []) ≡ (is_disjoint taken && list_all (λ h. apart h.hand v.hand) taken) = disjoint_push taken v in
    elim c.if-is_apart.branch [
      | then-is_apart w ↦
          let new = w.add_choices.new.total in
          let disjoint : is_disjoint (taken ++ v ∷ []) ≡ true = pushed ∙ and_true _ _ c.facts.ensures.disjoint (sym c.is_apart.ensures ∙ w.if-is_apart.true) in
          record {
            grows = λ column. ap (λ s. number_in s column) w.total-is
                ∙ walk_more old c.loop-w.total new spot hands others taken (chosen w.with-more.result) i v c.loop-w-test.true (sym c.w-item.is) w.with-more.ensures.hands disjoint c.loop-w.invariant.grows w.add_choices.ensures.grows column;
            within = λ column. subst (λ s. number_in s column ≤ s.choices * 2 ^ 96) (sym w.total-is) (w.add_choices.ensures.within column);
            few = subst (λ s. s.choices ≤ old.choices + (i + 1) * most_choices others) (sym w.total-is) (few_next old.choices c.loop-w.total.choices new.choices i (most_choices others) c.loop-w.invariant.few w.add_choices.ensures.few);
          }
      | else-is_apart w ↦
          let disjoint : is_disjoint (taken ++ v ∷ []) ≡ false = pushed ∙ ap (λ b. b && list_all (λ h. apart h.hand v.hand) taken) c.facts.ensures.disjoint ∙ sym c.is_apart.ensures ∙ w.if-is_apart.false in
          record {
            grows = λ column. ap (λ s. number_in s column) w.total-is ∙ walk_skip old c.loop-w.total spot hands others taken i v c.loop-w-test.true (sym c.w-item.is) disjoint c.loop-w.invariant.grows column;
            within = λ column. subst (λ s. number_in s column ≤ s.choices * 2 ^ 96) (sym w.total-is) (c.loop-w.invariant.within column);
            few = subst (λ s. s.choices ≤ old.choices + (i + 1) * most_choices others) (sym w.total-is) (few_skip old.choices c.loop-w.total.choices i (most_choices others) c.loop-w.invariant.few);
          }
    ]

pub returns-clause-grows : goal.returns-clause-grows
returns-clause-grows t c = λ column.
    let spot = ranges_in c.args.spot.now in
    let ranges = c.args.ranges.now in
    let hands = c.hands-hands.result.now in
    let others = take (length ranges - 1) (drop 1 ranges) in
    let taken = chosen c.args.taken.now in
    let split : ranges ≡ hands ∷ others = split_first ranges c.range-item.result hands (omega arith) c.range-item.is c.hands-hands.ensures in
    c.loop-w.invariant.grows column
    ∙ ap (λ n. number_in c.args.total.now column + n) (first_all hands others taken c.loop-w.w-index (added_by spot column) c.loop-w-test.false ∙ ap (λ rs. walked rs taken (added_by spot column)) (sym split))
