use Rattle.std.proofs.Common.{◌≡◌, sym, ap, ◌∙◌, true, false, [], ◌∷◌, ◌++◌, length, map, append_assoc, append-nil, rules}
use Rattle.std.specs.List.{list_all, filter_map}
use Rattle.card_sets.proofs.CallerLemmas.{and_first, and_second}
use Rattle.spot_text.specs.Parts.{is_dash}
use Rattle.spot_text.specs.Words.{words_left}
use Rattle.range_lines.specs.Hands.{is_range, hand_of, hands_of}
use Rattle.range_lines.specs.RangeSpot.{range_words}
use Rattle.range_lines.proofs.RangeWords.{ranges_end, ranges_all, ranges_dash, ranges_word}
use Rattle.range_lines.proofs.walks.ranges_of.Goals as goal
use Rattle.range_lines.proofs.walks.ranges_of.Goals.{else-not-is_dash-via-then-not-is_dash+else-weigh, else-not-is_dash-via-else-not-is_dash}

pub returns-then-ends_hands : goal.returns-then-ends_hands
returns-then-ends_hands c =
    let hands = hands_of c.args.board c.args.dead in
    sym (append-nil c.loop-word.ranges.items) ∙ sym (ap (λ ws. c.loop-word.ranges.items ++ map hands ws) (ranges_end _ _ _ c.in-Some.ensures.steps (sym c.ends_hands.ensures ∙ c.if-ends_hands.true))) ∙ c.loop-word.invariant.made

pub loop-word-preserved-then-weigh : goal.loop-word-preserved-then-weigh
loop-word-preserved-then-weigh c =
    let hands = hands_of c.args.board c.args.dead in
    let word = c.in-Some.word.now in
    let rest = range_words (words_left c.next.new.self) in
    let dash : is_dash word ≡ false = sym c.is_dash.ensures ∙ search rules in
    let step = ranges_word _ _ _ c.in-Some.ensures.steps (sym c.ends_hands.ensures ∙ c.if-ends_hands.false) dash in
    let here : c.in_ok-range_of.field-0 ≡ hands word = c.in_ok-range_of.ensures ∙ ap (filter_map (hand_of c.args.board c.args.dead)) (c.weigh.ensures.weights (search rules)) in
    record {
      more = tt;
      ends = tt;
      room = c.weigh.ensures.room;
      all = and_second (is_range word) (list_all is_range rest) (sym (ap (list_all is_range) step) ∙ c.loop-word.invariant.all);
      made = ap (λ l. l ++ map hands rest) c.in_ok-push.ensures.items ∙ append_assoc c.loop-word.ranges.items (c.in_ok-range_of.field-0 ∷ []) (map hands rest)
          ∙ ap (λ h. c.loop-word.ranges.items ++ h ∷ map hands rest) here ∙ sym (ap (λ ws. c.loop-word.ranges.items ++ map hands ws) step) ∙ c.loop-word.invariant.made;
    }

pub loop-word-preserved : goal.loop-word-preserved
loop-word-preserved c =
    let hands = hands_of c.args.board c.args.dead in
    let word = c.in-Some.word.now in
    let rest = range_words (words_left c.next.new.self) in
    elim c.else-not-is_dash.branch [
      | else-not-is_dash-via-then-not-is_dash+else-weigh w ↦
          let dash : is_dash word ≡ false = sym c.is_dash.ensures ∙ search rules in
          let step = ranges_word _ _ _ c.in-Some.ensures.steps (sym c.ends_hands.ensures ∙ c.if-ends_hands.false) dash in
          let good : is_range word ≡ true = and_first (is_range word) (list_all is_range rest) (sym (ap (list_all is_range) step) ∙ c.loop-word.invariant.all) in
          let bad : is_range word ≡ false = sym w.weigh.ensures.value ∙ search rules in
          absurd (cc (sym good ∙ bad))
      | else-not-is_dash-via-else-not-is_dash w ↦
          let dash : is_dash word ≡ true = sym c.is_dash.ensures ∙ search rules in
          let step = ranges_dash _ _ _ c.in-Some.ensures.steps (sym c.ends_hands.ensures ∙ c.if-ends_hands.false) dash in
          record {
            more = tt;
            ends = tt;
            room = ap length w.cells-is ∙ c.loop-word.invariant.room;
            all = sym (ap (list_all is_range) step) ∙ c.loop-word.invariant.all;
            made = sym (ap (λ ws. c.loop-word.ranges.items ++ map hands ws) step) ∙ c.loop-word.invariant.made;
          }
    ]

pub returns : goal.returns
returns c =
    let hands = hands_of c.args.board c.args.dead in
    sym (append-nil c.loop-word.ranges.items) ∙ sym (ap (λ ws. c.loop-word.ranges.items ++ map hands ws) (ranges_all _ c.in-None.ensures.steps.0)) ∙ c.loop-word.invariant.made
