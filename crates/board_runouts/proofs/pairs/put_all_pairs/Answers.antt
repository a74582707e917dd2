use Rattle.std.proofs.Common.{◌≡◌, ◌≤◌, ◌+◌, ◌-◌, ◌∷◌, ◌++◌, [], ℕ, List, map, refl, sym, ap, ◌∙◌, arith, length, take, drop, append-nil}
use Rattle.card_sets.specs.Choose.{choose}
use Rattle.board_runouts.specs.Pairs.{cards_of_pair}
use Rattle.board_runouts.proofs.PairListing.{all_left, few_pairs, first_left, none_left, put_all}
use Rattle.runout_walk.proofs.CallerLemmas.{two-first-length}
use Rattle.board_runouts.proofs.pairs.put_all_pairs.Goals as goal

pub loop-place-init : goal.loop-place-init
loop-place-init c = record { same = c.requires.room; few = (let f : length (choose 2 c.args.cards.now) ≤ 1326 = few_pairs c.args.cards.now c.requires.deck in omega arith); pairs = refl }

pub put_pairs-used-requires : goal.put_pairs-used-requires
put_pairs-used-requires c =
    let cards : List ℕ = c.args.cards.now in
    let place : ℕ = c.loop-place.place in
    let first : drop place cards ≡ c.index-cards-place.result ∷ drop (place + 1) cards = first_left cards place c.index-cards-place.result c.loop-place-test.true c.index-cards-place.is in
    let few = c.loop-place.invariant.few in
    let same = c.loop-place.invariant.same in
    omega (arith, two-first-length c.index-cards-place.result (drop place cards) (drop (place + 1) cards) first, ap length (all_left cards (place + 1)))

pub loop-place-preserved : goal.loop-place-preserved
loop-place-preserved c =
    let cards : List ℕ = c.args.cards.now in
    let place : ℕ = c.loop-place.place in
    let left : List ℕ = take (length cards - (place + 1)) (drop (place + 1) cards) in
    let first : drop place cards ≡ c.index-cards-place.result ∷ drop (place + 1) cards = first_left cards place c.index-cards-place.result c.loop-place-test.true c.index-cards-place.is in
    let put = c.put_pairs-used.ensures.pairs ∙ ap (λ l. map cards_of_pair (take c.loop-place.used c.loop-place.pairs) ++ map (λ high. c.index-cards-place.result ∷ high ∷ []) l) (all_left cards (place + 1)) in
    record {
      same = c.put_pairs-used.ensures.same ∙ c.loop-place.invariant.same;
      few = (let few = c.loop-place.invariant.few in let used = c.put_pairs-used.ensures.used in omega (arith, two-first-length c.index-cards-place.result (drop place cards) (drop (place + 1) cards) first, ap length (all_left cards (place + 1))));
      pairs = put_all (map cards_of_pair (take c.loop-place.used c.loop-place.pairs)) (map cards_of_pair (take c.put_pairs-used.result c.put_pairs-used.new.pairs)) (choose 2 cards) c.index-cards-place.result (drop place cards) (drop (place + 1) cards) first put c.loop-place.invariant.pairs;
    }

pub returns-clause-pairs : goal.returns-clause-pairs
returns-clause-pairs c =
    let cards : List ℕ = c.args.cards.now in
    let none : drop c.loop-place.place cards ≡ [] = none_left cards c.loop-place.place c.loop-place-test.false in
    sym (append-nil (map cards_of_pair (take c.loop-place.used c.loop-place.pairs))) ∙ ap (λ l. map cards_of_pair (take c.loop-place.used c.loop-place.pairs) ++ choose 2 l) (sym none) ∙ c.loop-place.invariant.pairs
