use Rattle.std.proofs.Common.{◌≡◌, ◌+◌, ◌*◌, ◌<◌, ◌++◌, List, ℕ, length, ap, ◌∙◌, sym, arith}
use Rattle.std.specs.Prelude.{slice_get}
use Rattle.std.proofs.lemmas.Option.{slice_get-get_or}
use Rattle.card_sets.specs.Cards.{suit_of}
use Rattle.card_sets.specs.State.{State, state_of}
use Rattle.board_runouts.specs.Pairs.{cards_of_pair}
use Rattle.board_ranks.specs.Suits.{IsShortWith}
use Rattle.board_runouts.proofs.BoardDealt.{IsScene, scene_of, unflagged}
use Rattle.board_runouts.proofs.BoardRunouts.{pair_rises}
use Rattle.board_runouts.proofs.suited.suited_part.Goals as goal

pub returns-then-first-gt3 : goal.returns-then-first-gt3
returns-then-first-gt3 c =
    let st : State = state_of c.args.front.now.spot.now.table.known in
    let set : List ℕ = c.args.front.now.taken ++ cards_of_pair c.args.pair.now in
    let scene : IsScene st set = scene_of c.args.front.now.spot.now set c.requires.member in
    let rises = pair_rises st c.args.front.now.taken c.args.pair.now.low c.args.pair.now.high c.args.front.now.spot.now.alone c.requires.member in
    let up : c.args.pair.now.low < c.args.pair.now.high = rises.0 in
    let top : c.args.pair.now.high < 52 = rises.1 in
    let inside : c.from.result < length c.args.front.now.suits.now = (let n = c.args.front.now.places in let k = c.args.pair.now.by_suit in omega (arith, c.from.ensures)) in
    let k : c.from.result ≡ 4 * suit_of c.args.pair.now.low + suit_of c.args.pair.now.high = c.from.ensures ∙ c.args.pair.now.by_suit in
    let short : IsShortWith c.args.front.now.spot.now.most c.args.front.now.taken (suit_of c.args.pair.now.low) (suit_of c.args.pair.now.high) = c.args.front.now.fives (suit_of c.args.pair.now.low) (suit_of c.args.pair.now.high) _ (omega arith) (omega arith)
    (ap (slice_get c.args.front.now.suits.now) (sym k) ∙ slice_get-get_or c.args.front.now.suits.now c.from.result _ inside) c.if-first-gt3.true in
    unflagged st c.args.front.now.taken c.args.front.now.spot.now.most c.args.pair.now.low c.args.pair.now.high scene c.args.front.now.spot.now.greatest short
