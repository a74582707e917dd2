use Rattle.std.proofs.Common.{◌≡◌, ◌+◌, ◌-◌, ◌≤◌, ℕ, List, sym, ap, ◌∙◌, arith, length, take, map}
use Rattle.std.specs.List.{slice_range}
use Rattle.std.proofs.lemmas.List.{length-take-le}
use Rattle.board_runouts.specs.Pairs.{cards_of_pair}
use Rattle.board_ranks.specs.declared.pair.Pair.{Pair}
use Rattle.card_sets.specs.Choose.{choose}
use Rattle.runout_ranges.specs.Ways.{binomial}
use Rattle.runout_ranges.proofs.CallerLemmas.{length_choose, enough_for}
use Rattle.board_runouts.proofs.PairListing.{stretch_is, stretch_fits}
use Rattle.board_runouts.proofs.pairs.Pairs.stretch.Goals as goal

pub last_pairs-requires-clause-two : goal.last_pairs-requires-clause-two
last_pairs-requires-clause-two c =
    let enough : 2 ≤ length c.args.rest = enough_for (length c.args.rest) 2 c.args.lo (omega (arith, length_choose 2 c.args.rest, c.requires.order, c.requires.inside)) in
    omega (arith, c.count.ensures.value, enough)

pub last_pairs-requires-clause-enough : goal.last_pairs-requires-clause-enough
last_pairs-requires-clause-enough c =
    let all : List Pair = take c.args.self.now.used c.args.self.now.pairs.items in
    let size : length all ≡ c.args.self.now.used = length-take-le c.args.self.now.used c.args.self.now.pairs.items (let f = c.args.self.now.few in let s = c.args.self.now.sized in omega arith) in
    let fits = stretch_fits all c.args.self.now.cards c.requires.end.0 c.args.rest c.requires.end.1 c.args.self.now.listed in
    let few : binomial c.count.result 2 ≡ length (choose 2 c.args.rest) = ap (λ n. binomial n 2) c.count.ensures.value ∙ sym (length_choose 2 c.args.rest) in
    omega (arith, fits, few, size)

pub last_pairs-requires-clause-inside : goal.last_pairs-requires-clause-inside
last_pairs-requires-clause-inside c =
    let few : binomial c.count.result 2 ≡ length (choose 2 c.args.rest) = ap (λ n. binomial n 2) c.count.ensures.value ∙ sym (length_choose 2 c.args.rest) in
    omega (arith, few, c.requires.inside)

pub returns-clause-inside : goal.returns-clause-inside
returns-clause-inside c =
    let all : List Pair = take c.args.self.now.used c.args.self.now.pairs.items in
    let size : length all ≡ c.args.self.now.used = length-take-le c.args.self.now.used c.args.self.now.pairs.items (let f = c.args.self.now.few in let s = c.args.self.now.sized in omega arith) in
    let fits = stretch_fits all c.args.self.now.cards c.requires.end.0 c.args.rest c.requires.end.1 c.args.self.now.listed in
    let few : binomial c.count.result 2 ≡ length (choose 2 c.args.rest) = ap (λ n. binomial n 2) c.count.ensures.value ∙ sym (length_choose 2 c.args.rest) in
    let e = c.last_pairs.ensures.end in
    omega (arith, fits, few, size, c.requires.inside)

pub returns-clause-pairs : goal.returns-clause-pairs
returns-clause-pairs c =
    let all : List Pair = take c.args.self.now.used c.args.self.now.pairs.items in
    let most : ℕ = binomial c.count.result 2 in
    let size : length all ≡ c.args.self.now.used = length-take-le c.args.self.now.used c.args.self.now.pairs.items (let f = c.args.self.now.few in let s = c.args.self.now.sized in omega arith) in
    let few : most ≡ length (choose 2 c.args.rest) = ap (λ n. binomial n 2) c.count.ensures.value ∙ sym (length_choose 2 c.args.rest) in
    let start : c.last_pairs.result.start ≡ (length all - most) + c.args.lo = c.last_pairs.ensures.start ∙ ap (λ n. (n - most) + c.args.lo) (sym size) in
    let end : c.last_pairs.result.end ≡ (length all - most) + c.args.hi = c.last_pairs.ensures.end ∙ ap (λ n. (n - most) + c.args.hi) (sym size) in
    ap (λ n. map cards_of_pair (slice_range all n c.last_pairs.result.end)) start
    ∙ ap (λ n. map cards_of_pair (slice_range all ((length all - most) + c.args.lo) n)) end
    ∙ stretch_is all c.args.self.now.cards c.requires.end.0 c.args.rest most c.args.lo c.args.hi c.requires.end.1 c.args.self.now.listed few
