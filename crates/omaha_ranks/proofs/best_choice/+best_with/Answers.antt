use Rattle.std.proofs.Common.{◌≡◌, ◌+◌, ◌-◌, ◌∙◌, ap, sym, arith, length}
use Rattle.card_sets.specs.Cards.{union, with_card, without_card}
use Rattle.hand_choice.proofs.CallerLemmas.{nothing}
use Rattle.omaha_ranks.specs.Worth.{worth, best_with}
use Rattle.omaha_ranks.proofs.ValuesBeside.{AreSets, TakesFirst, takes_first, length-sets, bound-most, best_with-all, best_with-none, best_with-next, union_step}
use Rattle.omaha_ranks.proofs.best_choice.+best_with.Goals as goal

pub returns-then-bound-best : goal.returns-then-bound-best
returns-then-bound-best t c =
    let sets : AreSets c.args.kept c.args.rest = record { kept_cards = c.rising.ensures.set; rest_cards = c.rising-2.ensures.set; apart = c.requires.apart } in
    omega (arith, bound-most c.args.side c.args.kept c.args.rest c.args.missing sets c.requires.five, c.requires.bound, c.if-bound-best.true)

pub returns-then-count-missing : goal.returns-then-count-missing
returns-then-count-missing t c =
    omega (arith, best_with-all c.args.side c.args.kept c.args.rest c.args.missing (omega (arith, c.count.ensures.value, c.if-count-missing.true, c.requires.enough)), c.requires.bound, c.if-bound-best.false)

pub returns-then-missing-eq0 : goal.returns-then-missing-eq0
returns-then-missing-eq0 t c =
    omega (arith, best_with-none c.args.side c.args.kept c.args.rest c.args.missing c.rising.ensures.set c.if-missing-eq0.true, c.max.ensures, c.worth.ensures)

pub returns-in_default : goal.returns-in_default
returns-in_default t c =
    absurd (omega (arith, ap length (nothing c.args.rest (sym c.first.ensures.value ∙ c.in_default.is)), c.count.ensures.value, c.if-count-missing.false))

pub worth-fewer-requires-clause-least : goal.worth-fewer-requires-clause-least
worth-fewer-requires-clause-least t c =
    let sets : AreSets c.args.kept c.args.rest = record { kept_cards = c.rising.ensures.set; rest_cards = c.rising-2.ensures.set; apart = c.requires.apart } in
    let step : TakesFirst c.args.kept c.args.rest c.in-Some.card = takes_first c.args.kept c.args.rest c.in-Some.card sets (sym c.first.ensures.value ∙ c.in-Some.is) in
    let size : length c.union.result ≡ length c.args.kept + length (without_card c.args.rest c.in-Some.card) = ap length c.union.ensures ∙ ap (λ l. length (union c.args.kept l)) c.without-others.ensures ∙ length-sets c.args.kept c.args.rest (without_card c.args.rest c.in-Some.card) sets step.part in
    omega (arith, size, step.shorter, c.count.ensures.value, c.if-count-missing.false, c.requires.five)

pub worth-fewer-requires-clause-most : goal.worth-fewer-requires-clause-most
worth-fewer-requires-clause-most t c =
    let sets : AreSets c.args.kept c.args.rest = record { kept_cards = c.rising.ensures.set; rest_cards = c.rising-2.ensures.set; apart = c.requires.apart } in
    let step : TakesFirst c.args.kept c.args.rest c.in-Some.card = takes_first c.args.kept c.args.rest c.in-Some.card sets (sym c.first.ensures.value ∙ c.in-Some.is) in
    let size : length c.union.result ≡ length c.args.kept + length (without_card c.args.rest c.in-Some.card) = ap length c.union.ensures ∙ ap (λ l. length (union c.args.kept l)) c.without-others.ensures ∙ length-sets c.args.kept c.args.rest (without_card c.args.rest c.in-Some.card) sets step.part in
    omega (arith, size, step.shorter, c.requires.most)

pub best_with-left_out-requires : goal.best_with-left_out-requires
best_with-left_out-requires t c =
    let sets : AreSets c.args.kept c.args.rest = record { kept_cards = c.rising.ensures.set; rest_cards = c.rising-2.ensures.set; apart = c.requires.apart } in
    let step : TakesFirst c.args.kept c.args.rest c.in-Some.card = takes_first c.args.kept c.args.rest c.in-Some.card sets (sym c.first.ensures.value ∙ c.in-Some.is) in
    let left : length c.without-others.result ≡ length (without_card c.args.rest c.in-Some.card) = ap length c.without-others.ensures in (
      omega (arith, left, step.shorter),
      (
        c.requires.five,
        (
          omega (arith, left, step.shorter, c.count.ensures.value, c.if-count-missing.false),
          (
            omega (arith, left, step.shorter, c.requires.most),
            (rw c.without-others.ensures step.apart_without, c.worth-fewer.ensures ∙ ap (worth c.args.side) c.union.ensures),
          ),
        ),
      ),
    )

pub best_with-requires : goal.best_with-requires
best_with-requires t c =
    let sets : AreSets c.args.kept c.args.rest = record { kept_cards = c.rising.ensures.set; rest_cards = c.rising-2.ensures.set; apart = c.requires.apart } in
    let step : TakesFirst c.args.kept c.args.rest c.in-Some.card = takes_first c.args.kept c.args.rest c.in-Some.card sets (sym c.first.ensures.value ∙ c.in-Some.is) in
    let left : length c.without-others.result ≡ length (without_card c.args.rest c.in-Some.card) = ap length c.without-others.ensures in
    let longer : length c.with.result ≡ length c.args.kept + 1 = ap length c.with.ensures ∙ step.longer in (
      omega (arith, left, step.shorter),
      (
        omega (arith, longer, c.requires.five, c.if-missing-eq0.false),
        (
          omega (arith, left, step.shorter, c.count.ensures.value, c.if-count-missing.false),
          (
            omega (arith, left, longer, step.shorter, c.requires.most),
            (
              rw (c.with.ensures, c.without-others.ensures) step.apart_with,
              c.requires.bound
                  ∙ ap (λ l. worth c.args.side (union c.args.kept l)) step.first
                  ∙ ap (worth c.args.side) (union_step c.args.kept (without_card c.args.rest c.in-Some.card) c.in-Some.card)
                  ∙ ap (λ w. worth c.args.side (union w (without_card c.args.rest c.in-Some.card))) (sym c.with.ensures)
                  ∙ ap (λ o. worth c.args.side (union c.with.result o)) (sym c.without-others.ensures),
            ),
          ),
        ),
      ),
    )

pub returns : goal.returns
returns t c =
    let sets : AreSets c.args.kept c.args.rest = record { kept_cards = c.rising.ensures.set; rest_cards = c.rising-2.ensures.set; apart = c.requires.apart } in
    let step : TakesFirst c.args.kept c.args.rest c.in-Some.card = takes_first c.args.kept c.args.rest c.in-Some.card sets (sym c.first.ensures.value ∙ c.in-Some.is) in
    let next = best_with-next c.args.side c.args.kept c.args.rest (without_card c.args.rest c.in-Some.card) c.in-Some.card c.args.missing c.if-missing-eq0.false step.first in
    omega (
      arith,
      next,
      c.best_with.ensures,
      c.best_with-left_out.ensures,
      ap (λ w. best_with c.args.side w (c.args.missing - 1) c.without-others.result) c.with.ensures,
      ap (λ o. best_with c.args.side (with_card c.args.kept c.in-Some.card) (c.args.missing - 1) o) c.without-others.ensures,
      ap (λ o. best_with c.args.side c.args.kept c.args.missing o) c.without-others.ensures,
    )
