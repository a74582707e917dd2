use Rattle.std.proofs.Common.{◌≡◌, ℕ, ◌-◌, ◌<◌, ◌∙◌, ap, sym, arith, length, [], List, max, map}
use Rattle.std.specs.Prelude.{filter}
use Rattle.card_sets.specs.declared.games.Side.TheVariants.{Low}
use Rattle.card_sets.proofs.CallerLemmas.{greatest}
use Rattle.rank_low.proofs.CallerLemmas.{eight_turned}
use Rattle.omaha_ranks.specs.Omaha.{ArePlaced, is_low, fives, eight_number}
use Rattle.omaha_ranks.specs.Worth.{best_own}
use Rattle.omaha_ranks.proofs.BestFives.{fewer, fives-are, placed-passing, no-five}
use Rattle.omaha_ranks.proofs.BestNumbers.{no-eight, some-eight}
use Rattle.omaha_ranks.proofs.TwoParts.{own-is}
use Rattle.omaha_ranks.proofs.omaha.omaha_low.Goals as goal

pub returns-then-count-lt3 : goal.returns-then-count-lt3
returns-then-count-lt3 c =
    let placed : ArePlaced c.args.own c.args.board = record { own_cards = c.rising.ensures.set; board_cards = c.rising-2.ensures.set; apart = c.requires.apart } in
    let few : length (filter is_low c.args.board) < 3 = omega (arith, ap length c.low_cards-low_board.ensures, c.count.ensures.value, c.if-count-lt3.true) in
    sym (c.law_only_low_cards.ensures c.args.own c.args.board placed ∙ ap eight_number (no-five (filter is_low c.args.own) (filter is_low c.args.board) few))

-- the number that the call answers is the greatest of the fives
worth_is : (own board none low_own low_board : List ℕ) (result : ℕ) → ArePlaced own board → none ≡ [] → low_own ≡ filter is_low own → low_board ≡ filter is_low board → result ≡ max 0 (best_own Low none 2 low_own low_board)
    → result ≡ greatest (map eight_turned (fives (filter is_low own) (filter is_low board)))
worth_is own board none low_own low_board result placed e f g h =
    let own_low = own-is Low (filter is_low own) (filter is_low board) (placed-passing is_low own board placed) in
    let same : best_own Low none 2 low_own low_board ≡ best_own Low [] 2 (filter is_low own) (filter is_low board) =
    ap (λ l. best_own Low l 2 low_own low_board) e ∙ ap (λ l. best_own Low [] 2 l low_board) f ∙ ap (λ l. best_own Low [] 2 (filter is_low own) l) g in
    omega (arith, h, same, own_low)

pub returns-then-worth-eq0 : goal.returns-then-worth-eq0
returns-then-worth-eq0 c =
    let placed : ArePlaced c.args.own c.args.board = record { own_cards = c.rising.ensures.set; board_cards = c.rising-2.ensures.set; apart = c.requires.apart } in
    let worth = worth_is c.args.own c.args.board c.empty.result c.low_cards.result c.low_cards-low_board.result c.best_own-worth.result placed c.empty.ensures c.low_cards.ensures c.low_cards-low_board.ensures c.best_own-worth.ensures in
    no-eight (fives (filter is_low c.args.own) (filter is_low c.args.board)) (fives-are (filter is_low c.args.own) (filter is_low c.args.board) (placed-passing is_low c.args.own c.args.board placed)) (omega (arith, worth, c.if-worth-eq0.true))
    ∙ sym (c.law_only_low_cards.ensures c.args.own c.args.board placed)

pub returns : goal.returns
returns c =
    let placed : ArePlaced c.args.own c.args.board = record { own_cards = c.rising.ensures.set; board_cards = c.rising-2.ensures.set; apart = c.requires.apart } in
    let worth = worth_is c.args.own c.args.board c.empty.result c.low_cards.result c.low_cards-low_board.result c.best_own-worth.result placed c.empty.ensures c.low_cards.ensures c.low_cards-low_board.ensures c.best_own-worth.ensures in
    some-eight (fives (filter is_low c.args.own) (filter is_low c.args.board)) (4294967295 - c.best_own-worth.result) (fives-are (filter is_low c.args.own) (filter is_low c.args.board) (placed-passing is_low c.args.own c.args.board placed)) (omega (arith, c.if-worth-eq0.false, c.best_own-worth.type_inv)) (omega (arith, worth, c.best_own-worth.type_inv))
    ∙ sym (c.law_only_low_cards.ensures c.args.own c.args.board placed)

pub best_own-worth-requires-clause-most : goal.best_own-worth-requires-clause-most
best_own-worth-requires-clause-most c = omega (arith, ap length c.low_cards-low_board.ensures, fewer is_low c.args.board, c.requires.most)

pub best_own-worth-requires-clause-others : goal.best_own-worth-requires-clause-others
best_own-worth-requires-clause-others c =
    let placed : ArePlaced c.args.own c.args.board = record { own_cards = c.rising.ensures.set; board_cards = c.rising-2.ensures.set; apart = c.requires.apart } in
    let low = placed-passing is_low c.args.own c.args.board placed in
    rw (c.low_cards.ensures, c.low_cards-low_board.ensures) low.apart
