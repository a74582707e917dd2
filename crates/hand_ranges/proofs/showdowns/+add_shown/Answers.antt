use Rattle.std.proofs.Common.{rules, ◌≡◌, ◌≤◌, ◌<◌, ◌+◌, ◌-◌, ◌*◌, ◌^◌, ◌∙◌, ◌&&◌, ◌∷◌, ◌++◌, [], true, false, sym, ap, subst, length, length-append, map, take, drop, set, arith}
use Rattle.std.specs.Prelude.{Some}
use Rattle.std.specs.List.{list_all}
use Rattle.card_sets.specs.Disjoint.{apart}
use Rattle.hand_ranges.specs.Boards.{AllShown, AreEndsWithin, IsShown, adds_beside, ranges_shown, weighted_in, worth}
use Rattle.range_lines.specs.Choices.{is_disjoint, most_choices, walked}
use Rattle.hand_ranges.specs.Taken.{AreValues, chosen}
use Rattle.hand_ranges.proofs.FullBoards.{values_push}
use Rattle.hand_ranges.proofs.ShownChoices.{length_shown, most_shown, shown_at, shown_more, shown_skip, split_shown}
use Rattle.range_lines.proofs.CallerLemmas.{disjoint_push, and_true}
use Rattle.hand_ranges.proofs.WalkSums.{first_all, room_left, few_next, few_skip}
use Rattle.hand_ranges.proofs.showdowns.+add_shown.Goals as goal
use Rattle.hand_ranges.proofs.showdowns.+add_shown.Goals.{then-is_apart, else-is_apart}

pub add_shown-requires : goal.add_shown-requires
add_shown-requires t c =
    let full = c.args.full in
    let lists = c.args.lists.now in
    let hands = c.hands-hands.result.now in
    let others = take (length lists - 1) (drop 1 lists) in
    let taken = chosen c.args.taken.now in
    let s = c.shown-item.result in
    let w = weighted_in s in
    let i = c.loop-shown.shown-index in
    let split : lists ≡ hands ∷ others = split_shown lists c.list-item.result hands c.requires.some c.list-item.is c.hands-hands.ensures.value in
    let long : length lists ≡ length others + 1 = ap length split ∙ omega arith in
    let shown : AllShown full (hands ∷ others) = subst (AllShown full) split c.requires.shown in
    let here : IsShown full s = subst (IsShown full) (sym c.shown-item.is) (shown_at full hands i s shown.0 c.loop-shown-test.true) in
    let most : most_choices (ranges_shown lists) ≡ length hands * most_choices (ranges_shown others) = ap (λ l. most_choices (ranges_shown l)) split ∙ most_shown hands others in
    let some : 0 < length others = search rules in
    let more : taken ++ w ∷ [] ≡ chosen c.with-more.result = sym c.with-more.ensures.hands in
    let longer : length (chosen c.with-more.result) ≡ length taken + 1 = ap length c.with-more.ensures.hands ∙ length-append taken (w ∷ []) in
    let four : length (chosen c.with-more.result) + length others ≤ 4 = omega (arith, longer, long, c.requires.four) in
    let room : c.args.ends.now.choices + length hands * most_choices (ranges_shown others) ≤ 2 ^ 80 = omega (arith, most, c.requires.few) in
    let worth : AreValues full (taken ++ w ∷ []) (set c.args.taken.now.values (length taken) (Some s.value)) =
    values_push full taken w c.args.taken.now.values (Some s.value) (omega (arith, c.facts.ensures.count, c.facts.ensures.values, c.requires.four, long, some)) c.requires.values (λ five. here.value) in
    let place : set c.args.taken.now.values (length taken) (Some s.value) ≡ c.with-more.result.values = ap (λ n. set c.args.taken.now.values n (Some s.value)) c.facts.ensures.count ∙ sym c.with-more.ensures.values in
    let values : AreValues full (chosen c.with-more.result) c.with-more.result.values =
    subst (λ t. AreValues full t c.with-more.result.values) more (subst (AreValues full (taken ++ w ∷ [])) place worth) in
    (search rules, (c.requires.five, (some, (four, (values, (shown.1, (room_left c.args.ends.now.choices c.loop-shown.ends.choices i (length hands) (most_choices (ranges_shown others)) (2 ^ 80) c.loop-shown.invariant.few c.loop-shown-test.true room, c.loop-shown.invariant.within)))))))

pub loop-shown-preserved : goal.loop-shown-preserved
loop-shown-preserved t c =
    let full = c.args.full in
    let lists = c.args.lists.now in
    let hands = c.hands-hands.result.now in
    let others = take (length lists - 1) (drop 1 lists) in
    let taken = chosen c.args.taken.now in
    let s = c.shown-item.result in
    let i = c.loop-shown.shown-index in
    let old = c.args.ends.now in
    let pushed : is_disjoint (taken ++ weighted_in s ∷ []) ≡ (is_disjoint taken && list_all (λ h. apart h.hand s.hand) taken) = disjoint_push taken (weighted_in s) in
    elim c.if-is_apart.branch [
      | then-is_apart w ↦
          let new = w.add_shown.new.ends in
          let disjoint : is_disjoint (taken ++ weighted_in s ∷ []) ≡ true = pushed ∙ and_true _ _ c.facts.ensures.disjoint (sym c.is_apart.ensures ∙ w.if-is_apart.true) in
          record {
            grows = λ by_set each. ap (λ e. worth e by_set each) w.ends-is
                ∙ shown_more hands (ranges_shown others) taken (chosen w.with-more.result) i s (adds_beside full by_set each) (worth old by_set each) (worth c.loop-shown.ends by_set each) (worth new by_set each)
                c.loop-shown-test.true c.shown-item.is w.with-more.ensures.hands disjoint (c.loop-shown.invariant.grows by_set each) (w.add_shown.ensures.grows by_set each);
            within = subst AreEndsWithin (sym w.ends-is) w.add_shown.ensures.within;
            few = subst (λ e. e.choices ≤ old.choices + (i + 1) * most_choices (ranges_shown others)) (sym w.ends-is) (few_next old.choices c.loop-shown.ends.choices new.choices i (most_choices (ranges_shown others)) c.loop-shown.invariant.few w.add_shown.ensures.few);
          }
      | else-is_apart w ↦
          let disjoint : is_disjoint (taken ++ weighted_in s ∷ []) ≡ false = pushed ∙ ap (λ b. b && list_all (λ h. apart h.hand s.hand) taken) c.facts.ensures.disjoint ∙ sym c.is_apart.ensures ∙ w.if-is_apart.false in
          record {
            grows = λ by_set each. ap (λ e. worth e by_set each) w.ends-is
                ∙ shown_skip hands (ranges_shown others) taken i s (adds_beside full by_set each) (worth old by_set each) (worth c.loop-shown.ends by_set each)
                c.loop-shown-test.true c.shown-item.is disjoint (c.loop-shown.invariant.grows by_set each);
            within = subst AreEndsWithin (sym w.ends-is) c.loop-shown.invariant.within;
            few = subst (λ e. e.choices ≤ old.choices + (i + 1) * most_choices (ranges_shown others)) (sym w.ends-is) (few_skip old.choices c.loop-shown.ends.choices i (most_choices (ranges_shown others)) c.loop-shown.invariant.few);
          }
    ]

pub returns-clause-grows : goal.returns-clause-grows
returns-clause-grows t c = λ by_set each.
    let lists = c.args.lists.now in
    let hands = c.hands-hands.result.now in
    let others = take (length lists - 1) (drop 1 lists) in
    let taken = chosen c.args.taken.now in
    let number = adds_beside c.args.full by_set each in
    let split : lists ≡ hands ∷ others = split_shown lists c.list-item.result hands c.requires.some c.list-item.is c.hands-hands.ensures.value in
    c.loop-shown.invariant.grows by_set each
    ∙ ap (λ n. worth c.args.ends.now by_set each + n)
    (first_all (map weighted_in hands) (ranges_shown others) taken c.loop-shown.shown-index number (omega (arith, length_shown hands, c.loop-shown-test.false)) ∙ ap (λ l. walked (ranges_shown l) taken number) (sym split))
