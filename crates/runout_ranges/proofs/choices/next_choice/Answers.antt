use Rattle.std.proofs.Common.{◌≡◌, List, ℕ, ◌++◌, ◌∷◌, length, take, sym, ap, ◌∙◌, subst, arith}
use Rattle.card_sets.specs.Cards.{IsRising, cards_above, with_card, without_card, union}
use Rattle.card_sets.specs.Choose.{choose}
use Rattle.runout_ranges.specs.Runouts.{HasMember, Follows, Ends}
use Rattle.runout_ranges.specs.Ways.{Within}
use Rattle.runout_ranges.proofs.NextChoice.{choose_within}
use Rattle.runout_ranges.proofs.MovedUp.{behind_fits, moved_up, nothing_free, all_at_top}
use Rattle.runout_ranges.proofs.choices.next_choice.Goals as goal

-- what the loop knows of the cards, the choice, what is left of both, and the top, in the form that the lemmas take
record Known (cards chosen low left top : List ℕ) : Type 0 where
  pub cards_rise : IsRising (low ++ top)
  pub chosen_rise : IsRising (left ++ top)
  pub within : Within (left ++ top) (low ++ top)

known : (cards chosen low left top : List ℕ) → IsRising cards → IsRising chosen → HasMember (choose (length chosen) cards) chosen → low ++ top ≡ cards → left ++ top ≡ chosen → Known cards chosen low left top
known cards chosen low left top rc rl m e f =
    let P : List ℕ → Type 0 = λ l. IsRising l in
    let Q : List ℕ → Type 0 = λ l. Within l cards in
    let R : List ℕ → Type 0 = λ l. Within (left ++ top) l in
    record {
      cards_rise = subst P (sym e) rc;
      chosen_rise = subst P (sym f) rl;
      within = subst R (sym e) (subst Q (sym f) (choose_within (length chosen) cards chosen m.0 m.1 m.2));
    }

pub least-requires : goal.least-requires
least-requires c =
    let top = c.loop-last.invariant.0 in
    let e = c.loop-last.invariant.1 in
    let f = c.loop-last.invariant.2 in
    let k = known c.args.cards c.args.chosen c.loop-last.low c.loop-last.left top c.rising.ensures.rising c.rising-2.ensures.rising c.requires e f in
    let fits = behind_fits c.loop-last.low c.loop-last.left top c.in-Some.last c.in-Some-after.next k.cards_rise k.chosen_rise k.within (sym c.last.ensures.value ∙ c.in-Some.is) (sym c.after.ensures ∙ c.in-Some-after.is) in
    omega (arith, c.count-behind.ensures.value, ap length c.above.ensures, ap length c.above-in-Some-after.ensures, fits, ap (λ l. length (cards_above l c.in-Some.last)) f, ap (λ l. length (cards_above l c.in-Some-after.next)) e)

pub returns-in-Some-after : goal.returns-in-Some-after
returns-in-Some-after c =
    let top = c.loop-last.invariant.0 in
    let e = c.loop-last.invariant.1 in
    let f = c.loop-last.invariant.2 in
    let k = known c.args.cards c.args.chosen c.loop-last.low c.loop-last.left top c.rising.ensures.rising c.rising-2.ensures.rising c.requires e f in
    let follows = moved_up c.loop-last.low c.loop-last.left top c.in-Some.last c.in-Some-after.next k.cards_rise k.chosen_rise k.within (sym c.last.ensures.value ∙ c.in-Some.is) (sym c.after.ensures ∙ c.in-Some-after.is) in
    let P : List ℕ → Type 0 = λ l. Follows (choose (length (c.loop-last.left ++ top)) l) (c.loop-last.left ++ top) (union (with_card (without_card c.loop-last.left c.in-Some.last) c.in-Some-after.next) (take (length (cards_above (c.loop-last.left ++ top) c.in-Some.last)) (cards_above l c.in-Some-after.next))) in
    let Q : List ℕ → Type 0 = λ l. Follows (choose (length l) c.args.cards) l (union (with_card (without_card c.loop-last.left c.in-Some.last) c.in-Some-after.next) (take (length (cards_above l c.in-Some.last)) (cards_above c.args.cards c.in-Some-after.next))) in
    let R : List ℕ → Type 0 = λ l. Follows (choose (length c.args.chosen) c.args.cards) c.args.chosen l in
    let behind : c.count-behind.result ≡ length (cards_above c.args.chosen c.in-Some.last) = c.count-behind.ensures.value ∙ ap length c.above.ensures in
    let least : c.least.result ≡ take (length (cards_above c.args.chosen c.in-Some.last)) (cards_above c.args.cards c.in-Some-after.next) = c.least.ensures ∙ ap (λ n. take n c.above-in-Some-after.result) behind ∙ ap (λ l. take (length (cards_above c.args.chosen c.in-Some.last)) l) c.above-in-Some-after.ensures in
    let moved : c.with-moved.result ≡ with_card (without_card c.loop-last.left c.in-Some.last) c.in-Some-after.next = c.with-moved.ensures ∙ ap (λ l. with_card l c.in-Some-after.next) c.without.ensures in
    let next : c.union.result ≡ union (with_card (without_card c.loop-last.left c.in-Some.last) c.in-Some-after.next) (take (length (cards_above c.args.chosen c.in-Some.last)) (cards_above c.args.cards c.in-Some-after.next)) =
    c.union.ensures ∙ ap (λ l. union l c.least.result) moved ∙ ap (λ l. union (with_card (without_card c.loop-last.left c.in-Some.last) c.in-Some-after.next) l) least in
    subst R (sym next) (subst Q f (subst P e follows))

pub loop-last-smaller : goal.loop-last-smaller
loop-last-smaller c =
    let top = c.loop-last.invariant.0 in
    let k = known c.args.cards c.args.chosen c.loop-last.low c.loop-last.left top c.rising.ensures.rising c.rising-2.ensures.rising c.requires c.loop-last.invariant.1 c.loop-last.invariant.2 in
    let n = nothing_free c.loop-last.low c.loop-last.left top c.in-Some.last k.cards_rise k.chosen_rise k.within (sym c.last.ensures.value ∙ c.in-Some.is) (sym c.after.ensures ∙ c.in_default-after.is) in
    omega (arith, ap length c.without-left.ensures, n.2)

pub loop-last-preserved : goal.loop-last-preserved
loop-last-preserved c =
    let top = c.loop-last.invariant.0 in
    let e = c.loop-last.invariant.1 in
    let f = c.loop-last.invariant.2 in
    let k = known c.args.cards c.args.chosen c.loop-last.low c.loop-last.left top c.rising.ensures.rising c.rising-2.ensures.rising c.requires e f in
    let n = nothing_free c.loop-last.low c.loop-last.left top c.in-Some.last k.cards_rise k.chosen_rise k.within (sym c.last.ensures.value ∙ c.in-Some.is) (sym c.after.ensures ∙ c.in_default-after.is) in
    (c.in-Some.last ∷ top, ap (λ l. l ++ c.in-Some.last ∷ top) c.without-low.ensures ∙ n.0 ∙ e, ap (λ l. l ++ c.in-Some.last ∷ top) c.without-left.ensures ∙ n.1 ∙ f)

pub returns : goal.returns
returns c =
    let top = c.loop-last.invariant.0 in
    let e = c.loop-last.invariant.1 in
    let f = c.loop-last.invariant.2 in
    let k = known c.args.cards c.args.chosen c.loop-last.low c.loop-last.left top c.rising.ensures.rising c.rising-2.ensures.rising c.requires e f in
    let ends = all_at_top c.loop-last.low c.loop-last.left top k.cards_rise (sym c.last.ensures.value ∙ c.in_default.is) in
    let P : List ℕ → Type 0 = λ l. Ends (choose (length (c.loop-last.left ++ top)) l) (c.loop-last.left ++ top) in
    let Q : List ℕ → Type 0 = λ l. Ends (choose (length l) c.args.cards) l in
    subst Q f (subst P e ends)
