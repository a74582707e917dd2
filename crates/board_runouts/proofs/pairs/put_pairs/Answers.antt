use Rattle.std.proofs.Common.{◌≡◌, ◌<◌, ◌+◌, ◌∷◌, [], ◌++◌, ℕ, List, map, sym, ap, ◌∙◌, arith, length, take, drop, append-nil, set}
use Rattle.std.proofs.Math.ListN.{length-set}
use Rattle.board_runouts.specs.Pairs.{cards_of_pair}
use Rattle.board_runouts.proofs.PairListing.{first_left, none_left, put_one}
use Rattle.board_runouts.proofs.pairs.put_pairs.Goals as goal

pub loop-at-preserved : goal.loop-at-preserved
loop-at-preserved c =
    let inv = c.loop-at.invariant in
    let others : List ℕ = c.args.others.now in
    let at : ℕ = c.loop-at.at in
    let inside : c.args.used + at < length c.loop-at.pairs = (let r = c.requires in let s = inv.same in let t = c.loop-at-test.true in omega arith) in
    let next : c.args.used + (at + 1) ≡ c.args.used + at + 1 = omega arith in
    record {
      same = length-set c.loop-at.pairs (c.args.used + at) c.of.result ∙ inv.same;
      pairs = ap (λ n. map cards_of_pair (take n (set c.loop-at.pairs (c.args.used + at) c.of.result)) ++ map (λ high. c.args.low ∷ high ∷ []) (drop (at + 1) others)) next
          ∙ put_one c.loop-at.pairs (c.args.used + at) c.args.low c.index-others-at.result (drop at others) (drop (at + 1) others) c.of.result _ inside
          (ap (λ l. l ∷ c.of.result.high ∷ []) c.of.ensures.low ∙ ap (λ h. c.args.low ∷ h ∷ []) c.of.ensures.high) (first_left others at c.index-others-at.result c.loop-at-test.true c.index-others-at.is) inv.pairs;
    }

pub returns-clause-pairs : goal.returns-clause-pairs
returns-clause-pairs c =
    let others : List ℕ = c.args.others.now in
    let at : ℕ = c.loop-at.at in
    let none : drop at others ≡ [] = none_left others at c.loop-at-test.false in
    let all : at ≡ length others = (let e = c.loop-at.auto.at-end in let t = c.loop-at-test.false in omega arith) in
    sym (append-nil (map cards_of_pair (take (c.args.used + length others) c.loop-at.pairs)))
    ∙ ap (λ n. map cards_of_pair (take (c.args.used + n) c.loop-at.pairs) ++ []) (sym all)
    ∙ ap (λ l. map cards_of_pair (take (c.args.used + at) c.loop-at.pairs) ++ map (λ high. c.args.low ∷ high ∷ []) l) (sym none)
    ∙ c.loop-at.invariant.pairs
