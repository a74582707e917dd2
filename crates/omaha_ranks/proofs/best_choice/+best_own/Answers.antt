use Rattle.std.proofs.Common.{◌≡◌, ◌+◌, ◌-◌, ◌∙◌, ap, sym, arith, length}
use Rattle.card_sets.specs.Cards.{with_card, without_card}
use Rattle.hand_choice.proofs.CallerLemmas.{nothing}
use Rattle.omaha_ranks.specs.Worth.{best_own}
use Rattle.omaha_ranks.proofs.ValuesBeside.{AreSets, TakesFirst, takes_first, length-sets, self_part, part_apart, with_apart, best_own-none, best_own-short, best_own-next}
use Rattle.omaha_ranks.proofs.best_choice.+best_own.Goals as goal

pub worth-bound-requires-clause-least : goal.worth-bound-requires-clause-least
worth-bound-requires-clause-least t c =
    let sets : AreSets c.args.taken c.args.board = record { kept_cards = c.rising.ensures.set; rest_cards = c.rising-3.ensures.set; apart = c.requires.own } in
    omega (arith, ap length c.union.ensures, length-sets c.args.taken c.args.board c.args.board sets (self_part c.args.board), c.requires.two, c.requires.least, c.if-missing-eq0.true)

pub worth-bound-requires-clause-most : goal.worth-bound-requires-clause-most
worth-bound-requires-clause-most t c =
    let sets : AreSets c.args.taken c.args.board = record { kept_cards = c.rising.ensures.set; rest_cards = c.rising-3.ensures.set; apart = c.requires.own } in
    omega (arith, ap length c.union.ensures, length-sets c.args.taken c.args.board c.args.board sets (self_part c.args.board), c.requires.two, c.requires.most)

pub returns-then-missing-eq0 : goal.returns-then-missing-eq0
returns-then-missing-eq0 t c = omega (arith, c.best_with.ensures, best_own-none c.args.side c.args.taken c.args.rest c.args.board c.args.missing c.rising.ensures.set c.if-missing-eq0.true)

pub returns-in_default : goal.returns-in_default
returns-in_default t c =
    omega (arith, best_own-short c.args.side c.args.taken c.args.rest c.args.board c.args.missing c.if-missing-eq0.false (nothing c.args.rest (sym c.first.ensures.value ∙ c.in_default.is)))

pub best_own-left_out-requires : goal.best_own-left_out-requires
best_own-left_out-requires t c =
    let sets : AreSets c.args.taken c.args.rest = record { kept_cards = c.rising.ensures.set; rest_cards = c.rising-2.ensures.set; apart = c.requires.apart } in
    let step : TakesFirst c.args.taken c.args.rest c.in-Some.card = takes_first c.args.taken c.args.rest c.in-Some.card sets (sym c.first.ensures.value ∙ c.in-Some.is) in
    let left : length c.without-others.result ≡ length (without_card c.args.rest c.in-Some.card) = ap length c.without-others.ensures in (
      omega (arith, left, step.shorter),
      (
        c.requires.two,
        (
          c.requires.least,
          (
            c.requires.most,
            (
              rw c.without-others.ensures step.apart_without,
              (c.requires.own, rw c.without-others.ensures (part_apart (without_card c.args.rest c.in-Some.card) c.args.rest c.args.board step.part c.requires.others)),
            ),
          ),
        ),
      ),
    )

pub best_own-requires : goal.best_own-requires
best_own-requires t c =
    let sets : AreSets c.args.taken c.args.rest = record { kept_cards = c.rising.ensures.set; rest_cards = c.rising-2.ensures.set; apart = c.requires.apart } in
    let step : TakesFirst c.args.taken c.args.rest c.in-Some.card = takes_first c.args.taken c.args.rest c.in-Some.card sets (sym c.first.ensures.value ∙ c.in-Some.is) in
    let left : length c.without-others.result ≡ length (without_card c.args.rest c.in-Some.card) = ap length c.without-others.ensures in
    let longer : length c.with.result ≡ length c.args.taken + 1 = ap length c.with.ensures ∙ step.longer in (
      omega (arith, left, step.shorter),
      (
        omega (arith, longer, c.requires.two, c.if-missing-eq0.false),
        (
          c.requires.least,
          (
            c.requires.most,
            (
              rw (c.with.ensures, c.without-others.ensures) step.apart_with,
              (
                rw c.with.ensures (with_apart c.args.taken c.args.rest c.args.board c.in-Some.card step c.requires.own c.requires.others),
                rw c.without-others.ensures (part_apart (without_card c.args.rest c.in-Some.card) c.args.rest c.args.board step.part c.requires.others),
              ),
            ),
          ),
        ),
      ),
    )

pub returns : goal.returns
returns t c =
    let sets : AreSets c.args.taken c.args.rest = record { kept_cards = c.rising.ensures.set; rest_cards = c.rising-2.ensures.set; apart = c.requires.apart } in
    let step : TakesFirst c.args.taken c.args.rest c.in-Some.card = takes_first c.args.taken c.args.rest c.in-Some.card sets (sym c.first.ensures.value ∙ c.in-Some.is) in
    let next = best_own-next c.args.side c.args.taken c.args.rest (without_card c.args.rest c.in-Some.card) c.args.board c.in-Some.card c.args.missing c.if-missing-eq0.false step.first in
    omega (
      arith,
      next,
      c.best_own.ensures,
      c.best_own-left_out.ensures,
      ap (λ w. best_own c.args.side w (c.args.missing - 1) c.without-others.result c.args.board) c.with.ensures,
      ap (λ o. best_own c.args.side (with_card c.args.taken c.in-Some.card) (c.args.missing - 1) o c.args.board) c.without-others.ensures,
      ap (λ o. best_own c.args.side c.args.taken c.args.missing o c.args.board) c.without-others.ensures,
    )
