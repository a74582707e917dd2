use Rattle.std.proofs.Common.{◌≡◌, ◌+◌, ◌∙◌, ap, sym, arith, length, max, None, Some, Option, ℕ, subst}
use Rattle.card_sets.specs.Cards.{union}
use Rattle.rank_high.specs.High.{value_of, best_high}
use Rattle.rank_high.specs.Parts.{best_plain, suited}
use Rattle.card_sets.proofs.CallerLemmas.{length-union, Apart-apart}
use Rattle.showdown_tally.specs.Flushes.{IsOnlySuit}
use Rattle.showdown_tally.proofs.OnlySuits.{AreOwnAndBoard, high-plain, high-one_suit}
use Rattle.showdown_tally.proofs.values.high_beside.Goals as goal

pub high_by_ranks-requires : goal.high_by_ranks-requires
high_by_ranks-requires c =
    let size : length (union c.args.own c.args.board) ≡ length c.args.own + length c.args.board = length-union c.args.own c.args.board c.rising.ensures.set c.rising-2.ensures.set (Apart-apart c.args.own c.args.board c.requires.apart) in
    omega (arith, size, ap length c.union-all.ensures, c.requires.own, c.requires.board)

pub returns-in-Some : goal.returns-in-Some
unfolding best_high
returns-in-Some c =
    let are : AreOwnAndBoard c.args.own c.args.board = record { own_cards = c.rising.ensures.set; board_cards = c.rising-2.ensures.set; apart = c.requires.apart; two = omega (arith, c.requires.own) } in
    let P : Option ℕ → Type 0 = λ o. IsOnlySuit c.args.board o in
    let only : IsOnlySuit c.args.board (Some c.in-Some.suit) = subst P c.in-Some.is c.requires.suit in
    let plain : c.number-plain.result ≡ value_of (best_plain (union c.args.own c.args.board)) = c.number-plain.ensures ∙ c.high_by_ranks.ensures ∙ ap (λ s. value_of (best_plain s)) c.union-all.ensures in
    let flush : c.number.result ≡ suited (union c.args.own c.args.board) c.in-Some.suit = c.number.ensures ∙ c.high_of_suit.ensures ∙ ap (λ s. suited s c.in-Some.suit) c.union-all.ensures in
    c.max.ensures ∙ ap (λ n. max n c.number.result) plain ∙ ap (λ n. max (value_of (best_plain (union c.args.own c.args.board))) n) flush ∙ sym (high-one_suit c.args.own c.args.board c.in-Some.suit are only)

pub returns-in-None : goal.returns-in-None
unfolding best_high
returns-in-None c =
    let are : AreOwnAndBoard c.args.own c.args.board = record { own_cards = c.rising.ensures.set; board_cards = c.rising-2.ensures.set; apart = c.requires.apart; two = omega (arith, c.requires.own) } in
    let P : Option ℕ → Type 0 = λ o. IsOnlySuit c.args.board o in
    let only : IsOnlySuit c.args.board None = subst P c.in-None.is c.requires.suit in
    c.number-plain.ensures ∙ c.high_by_ranks.ensures ∙ ap (λ s. value_of (best_plain s)) c.union-all.ensures ∙ sym (high-plain c.args.own c.args.board are only)
