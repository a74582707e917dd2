use Rattle.std.proofs.Common.{◌<◌, ◌==◌, ◌∙◌, ap, sym, refl, arith, length, ◌≡◌, ℕ, List}
use Rattle.card_sets.specs.Cards.{suit_of, union}
use Rattle.rank_high.specs.Parts.{of_suit}
use Rattle.card_sets.proofs.CallerLemmas.{Apart-apart, length-union}
use Rattle.omaha_ranks.specs.Omaha.{ArePlaced, omaha_high}
use Rattle.omaha_ranks.proofs.BestFives.{fewer, few_own, few_board, fives-are, placed-passing, only-five}
use Rattle.omaha_ranks.proofs.omaha.omaha_suited_value.Goals as goal

pub returns-then-count-lt2 : goal.returns-then-count-lt2
returns-then-count-lt2 c =
    let few : length (of_suit c.args.own c.args.suit) < 2 = omega (arith, ap length c.of_suit-own.ensures, c.count.ensures.value, c.if-count-lt2.true) in
    sym (few_own (of_suit c.args.own c.args.suit) (of_suit c.args.board c.args.suit) few)

pub returns-then-count-lt3 : goal.returns-then-count-lt3
returns-then-count-lt3 c =
    let few : length (of_suit c.args.board c.args.suit) < 3 = omega (arith, ap length c.of_suit-board.ensures, c.count-2.ensures.value, c.if-count-lt3.true) in
    sym (few_board (of_suit c.args.own c.args.suit) (of_suit c.args.board c.args.suit) few)

pub two_and_three-requires-clause-own : goal.two_and_three-requires-clause-own
two_and_three-requires-clause-own c = omega (arith, ap length c.of_suit-own.ensures, fewer (λ card. suit_of card == c.args.suit) c.args.own, c.requires.own)

pub two_and_three-requires-clause-board : goal.two_and_three-requires-clause-board
two_and_three-requires-clause-board c = omega (arith, ap length c.of_suit-board.ensures, fewer (λ card. suit_of card == c.args.suit) c.args.board, c.requires.board)

pub best_high-requires : goal.best_high-requires
best_high-requires c =
    let placed : ArePlaced c.args.own c.args.board = record { own_cards = c.rising.ensures.set; board_cards = c.rising-2.ensures.set; apart = c.requires.apart } in
    rw (c.two_and_three.ensures, c.of_suit-own.ensures, c.of_suit-board.ensures) (fives-are (of_suit c.args.own c.args.suit) (of_suit c.args.board c.args.suit) (placed-passing (λ card. suit_of card == c.args.suit) c.args.own c.args.board placed))

pub returns : goal.returns
unfolding omaha_high
returns c = c.best_high.ensures ∙ rw (c.two_and_three.ensures, c.of_suit-own.ensures, c.of_suit-board.ensures) refl

size : (own board o b u : List ℕ) (suit : ℕ) → ArePlaced own board → o ≡ of_suit own suit → b ≡ of_suit board suit → u ≡ union o b → length o ≡ 2 → length b ≡ 3 → length u ≡ 5
size own board o b u suit placed e f g two three =
    let part = placed-passing (λ card. suit_of card == suit) own board placed in
    ap length g ∙ ap (λ l. length (union l b)) e ∙ ap (λ l. length (union (of_suit own suit) l)) f ∙ length-union (of_suit own suit) (of_suit board suit) part.own_cards part.board_cards (Apart-apart (of_suit own suit) (of_suit board suit) part.apart)
    ∙ omega (arith, ap length (sym e), ap length (sym f), two, three)

pub high_of_set-requires-clause-least : goal.high_of_set-requires-clause-least
high_of_set-requires-clause-least c =
    let placed : ArePlaced c.args.own c.args.board = record { own_cards = c.rising.ensures.set; board_cards = c.rising-2.ensures.set; apart = c.requires.apart } in
    omega (arith, size c.args.own c.args.board c.of_suit-own.result c.of_suit-board.result c.union.result c.args.suit placed c.of_suit-own.ensures c.of_suit-board.ensures c.union.ensures (omega (arith, c.count-3.ensures.value, c.if-count-eq2.true)) (omega (arith, c.count-then-count-eq2.ensures.value, c.if-count-eq3.true)))

pub high_of_set-requires-clause-most : goal.high_of_set-requires-clause-most
high_of_set-requires-clause-most c =
    let placed : ArePlaced c.args.own c.args.board = record { own_cards = c.rising.ensures.set; board_cards = c.rising-2.ensures.set; apart = c.requires.apart } in
    omega (arith, size c.args.own c.args.board c.of_suit-own.result c.of_suit-board.result c.union.result c.args.suit placed c.of_suit-own.ensures c.of_suit-board.ensures c.union.ensures (omega (arith, c.count-3.ensures.value, c.if-count-eq2.true)) (omega (arith, c.count-then-count-eq2.ensures.value, c.if-count-eq3.true)))

pub returns-then-count-eq3 : goal.returns-then-count-eq3
returns-then-count-eq3 c =
    let placed : ArePlaced c.args.own c.args.board = record { own_cards = c.rising.ensures.set; board_cards = c.rising-2.ensures.set; apart = c.requires.apart } in
    let two : length (of_suit c.args.own c.args.suit) ≡ 2 = omega (arith, ap length c.of_suit-own.ensures, c.count-3.ensures.value, c.if-count-eq2.true) in
    let three : length (of_suit c.args.board c.args.suit) ≡ 3 = omega (arith, ap length c.of_suit-board.ensures, c.count-then-count-eq2.ensures.value, c.if-count-eq3.true) in
    c.number.ensures ∙ c.high_of_set.ensures ∙ rw (c.union.ensures, c.of_suit-own.ensures, c.of_suit-board.ensures) (only-five (of_suit c.args.own c.args.suit) (of_suit c.args.board c.args.suit) (placed-passing (λ card. suit_of card == c.args.suit) c.args.own c.args.board placed) two three)
