use Rattle.std.proofs.Common.{◌≡◌, ◌∙◌, ◌++◌, ◌∷◌, [], sym, ap, length, length-append, slice_set, arith}
use Rattle.spot_text.specs.Collected.{spread}
use Rattle.spot_text.proofs.HandsByPart.{spread_more, spread_full, fit_more}
use Rattle.spot_text.proofs.walk.ReadHands.add_hand.Goals as goal

pub returns-then-self-ge10 : goal.returns-then-self-ge10
returns-then-self-ge10 c hands hand are is = record {
  count = omega (arith, are.count, length-append hands (hand ∷ []), c.if-self-ge10.true);
  sets = are.sets ∙ spread_full 10 hands hand (omega (arith, are.count, c.if-self-ge10.true));
  fit = fit_more c.args.game hands hand _ _ _ _ are.fit is c.count.ensures.value c.all_fit-self.ensures;
}

pub returns : goal.returns
returns c hands hand are is =
    let place : c.from.result ≡ length hands = omega (arith, c.from.ensures, are.count, c.if-self-ge10.false) in
    record {
      count = omega (arith, are.count, length-append hands (hand ∷ []), c.if-self-ge10.false);
      sets = ap (λ sets. slice_set sets c.from.result c.args.cards) are.sets ∙ ap (λ n. slice_set (spread 10 hands) n c.args.cards) place
          ∙ ap (slice_set (spread 10 hands) (length hands)) is ∙ spread_more 10 hands hand (omega (arith, are.count, c.if-self-ge10.false));
      fit = fit_more c.args.game hands hand _ _ _ _ are.fit is c.count.ensures.value c.all_fit-self.ensures;
    }
