use Rattle.std.proofs.Common.{◌≡◌, ◌∷◌, ◌++◌, [], sym, ap, ◌∙◌, arith, length, take, append-nil}
use Rattle.std.proofs.Math.ListN.{length-set}
use Rattle.card_sets.specs.Bits.{first_rest}
use Rattle.runout_walk.proofs.CardLists.{none_there, put_card}
use Rattle.runout_walk.proofs.card_list.put_cards.Goals as goal

pub loop-card-smaller : goal.loop-card-smaller
loop-card-smaller c =
    let first : c.loop-card.rest ≡ c.in-Some.card ∷ c.without-rest.result = first_rest c.loop-card.rest c.in-Some.card c.first.ensures.set (sym c.first.ensures.value ∙ c.in-Some.is) ∙ ap (λ l. c.in-Some.card ∷ l) (sym c.without-rest.ensures) in
    omega (arith, ap length first)

pub loop-card-preserved : goal.loop-card-preserved
loop-card-preserved c =
    let first : c.loop-card.rest ≡ c.in-Some.card ∷ c.without-rest.result = first_rest c.loop-card.rest c.in-Some.card c.first.ensures.set (sym c.first.ensures.value ∙ c.in-Some.is) ∙ ap (λ l. c.in-Some.card ∷ l) (sym c.without-rest.ensures) in
    let inv = c.loop-card.invariant in
    record {
      used = (let u = inv.used in omega (arith, ap length first));
      places = rw length-set inv.places;
      cards = put_card c.loop-card.cards c.args.set c.loop-card.rest c.without-rest.result c.loop-card.used c.in-Some.card (let u = inv.used in let p = inv.places in let r = c.requires in omega (arith, ap length first)) first inv.cards;
    }

pub returns : goal.returns
returns c =
    let none : c.loop-card.rest ≡ [] = none_there c.loop-card.rest (sym c.first.ensures.value ∙ c.in_default.is) in
    let u = c.loop-card.invariant.used in
    let all : length c.args.set ≡ c.loop-card.used = omega (arith, ap length none) in
    ap (λ n. take n c.loop-card.cards) all ∙ sym (append-nil (take c.loop-card.used c.loop-card.cards)) ∙ ap (λ l. take c.loop-card.used c.loop-card.cards ++ l) (sym none) ∙ c.loop-card.invariant.cards
