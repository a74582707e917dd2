-- The best high of two own cards and three of the board is the best by ranks alone, or the best of one suit.
use Rattle.std.proofs.Common.{◌≡◌, ℕ, suc, ◌≤◌, ◌<◌, ◌==◌, List, ◌∷◌, [], refl, ap, ◌∙◌, sym, arith, Bool, true, false, length, map, max, subst}
use Rattle.std.specs.Prelude.{slice_index}
use Rattle.card_sets.specs.Cards.{suit_of, rank_of, union, IsCardSet}
use Rattle.card_sets.specs.Choose.{choose}
use Rattle.card_sets.specs.declared.games.Side.{Side}
use Rattle.rank_high.specs.High.{value_of, is_flush, count_of_rank}
use Rattle.rank_high.specs.Parts.{of_suit, plain_high}
use Rattle.omaha_ranks.specs.Omaha.{fives, omaha_high, omaha_plain, omaha_suited, ArePlaced, IsByRanksOrSuit, RanksDecide}
use Rattle.omaha_ranks.specs.Worth.{worth, best_with, best_own}
use Rattle.omaha_ranks.proofs.TwoAndThree.{AreTwoAndThree, allowed_most, allowed_least, with_two, greatest-flat}
use Rattle.omaha_ranks.proofs.ValuesBeside.{five_worth, worth-five, same_greatest, none-union}
use Rattle.card_sets.proofs.CallerLemmas.{greatest, IsPart, passing_part, part_of_passing, part_of_image, image_of_part, greatest_most, greatest_least, set-part, Apart-parts, all-union, union-IsCardSet, Apart-apart, length-union}
use Rattle.rank_high.proofs.CallerLemmas.{groups_counted-same, ranks_counted-same, number, plain_number, plain-less, plain-same, flush_suit, one_of_four, same-rank_lists, times-ranks, times, count-union}
use Rattle.omaha_ranks.proofs.BestFives.{high-number, plain-five, suit-number}

-- two own cards and three of the board are five
five : (own board two three : List ℕ) → ArePlaced own board → AreTwoAndThree own board two three → length (union two three) ≡ 5
five own board two three placed a =
    let size = length-union two three (set-part two own a.of_own placed.own_cards) (set-part three board a.of_board placed.board_cards) (Apart-parts two own three board a.of_own a.of_board (Apart-apart own board placed.apart)) in
    omega (arith, a.two_cards, a.three_cards)

suited-less : (own board : List ℕ) (suit : ℕ) → ArePlaced own board → omaha_suited own board suit ≤ value_of (omaha_high own board)
suited-less own board suit placed =
    let test : ℕ → Bool = λ c. suit_of c == suit in
    let all : greatest (map number (fives (of_suit own suit) (of_suit board suit))) ≤ greatest (map number (fives own board)) =
    allowed_most (of_suit own suit) (of_suit board suit) number (greatest (map number (fives own board))) (λ two three a. allowed_least own board number two three (record { two_cards = a.two_cards; of_own = part_of_passing test two own a.of_own; three_cards = a.three_cards; of_board = part_of_passing test three board a.of_board })) in
    omega (arith, high-number own board placed, suit-number own board suit placed)

pub ranks_or_a_suit : IsByRanksOrSuit
ranks_or_a_suit own board placed =
    let most : greatest (map number (fives own board)) ≤ max (value_of (omaha_plain own board)) (max (max (omaha_suited own board 0) (omaha_suited own board 1)) (max (omaha_suited own board 2) (omaha_suited own board 3))) =
    allowed_most own board number _ each in
    let plain : value_of (omaha_plain own board) ≤ greatest (map number (fives own board)) =
    (let bound : greatest (map plain_number (fives own board)) ≤ greatest (map number (fives own board)) = allowed_most own board plain_number (greatest (map number (fives own board))) (λ two three a.
    let less : plain_number (union two three) ≤ number (union two three) = plain-less (union two three) (five own board two three placed a) in
    let at : number (union two three) ≤ greatest (map number (fives own board)) = allowed_least own board number two three a in omega arith) in omega (arith, plain-five own board placed)) in
    omega (arith, high-number own board placed, suited-less own board 0 placed, suited-less own board 1 placed, suited-less own board 2 placed, suited-less own board 3 placed)
  where
    each : (two three : List ℕ) → AreTwoAndThree own board two three → number (union two three) ≤ max (value_of (omaha_plain own board)) (max (max (omaha_suited own board 0) (omaha_suited own board 1)) (max (omaha_suited own board 2) (omaha_suited own board 3)))
    each two three a = elim (is_flush (union two three)) as (λ b. is_flush (union two three) ≡ b → number (union two three) ≤ max (value_of (omaha_plain own board)) (max (max (omaha_suited own board 0) (omaha_suited own board 1)) (max (omaha_suited own board 2) (omaha_suited own board 3)))) [
      | true ↦ λ flush.
          let suit : ℕ = suit_of (slice_index (union two three) 0) in
          let all = all-union (λ c. suit_of c == suit_of (slice_index (union two three) 0)) two three (set-part two own a.of_own placed.own_cards) (set-part three board a.of_board placed.board_cards) (flush_suit (union two three) flush) in
          let at : number (union two three) ≤ greatest (map number (fives (of_suit own suit) (of_suit board suit))) =
          allowed_least (of_suit own suit) (of_suit board suit) number two three (record { two_cards = a.two_cards; of_own = passing_part (λ c. suit_of c == suit) two own all.0 a.of_own; three_cards = a.three_cards; of_board = passing_part (λ c. suit_of c == suit) three board all.1 a.of_board }) in
          let four : omaha_suited own board suit ≤ max (max (omaha_suited own board 0) (omaha_suited own board 1)) (max (omaha_suited own board 2) (omaha_suited own board 3)) = one_of_four (omaha_suited own board) suit (omega arith) in
          omega (arith, suit-number own board suit placed)
      | false ↦ λ plain.
          let at : plain_number (union two three) ≤ greatest (map plain_number (fives own board)) = allowed_least own board plain_number two three a in
          omega (arith, plain-same (union two three) plain, plain-five own board placed)
    ] refl

-- fives with the same ranks are worth the same by them
plain-same_ranks : (a b : List ℕ) → ((rank : ℕ) → rank < 13 → count_of_rank a rank ≡ count_of_rank b rank) → plain_number a ≡ plain_number b
unfolding plain_high
plain-same_ranks a b same =
    rw (groups_counted-same (count_of_rank a) (count_of_rank b) same, ranks_counted-same (count_of_rank a) (count_of_rank b) 4 same, ranks_counted-same (count_of_rank a) (count_of_rank b) 3 same, ranks_counted-same (count_of_rank a) (count_of_rank b) 2 same) refl

length-ranks : (cards : List ℕ) → length (map rank_of cards) ≡ length cards
length-ranks [] = refl
length-ranks (c ∷ cards) = ap suc (length-ranks cards)

-- a part of one list has a part of the other with the same ranks
pub record HasTwin (part others : List ℕ) : Type 0 where
  pub twin : List ℕ
  pub inside : IsPart twin others
  pub size : length twin ≡ length part
  pub ranks : (rank : ℕ) → count_of_rank twin rank ≡ count_of_rank part rank

pub twin_of : (part cards others : List ℕ) → IsPart part cards → map rank_of cards ≡ map rank_of others → HasTwin part others
twin_of part cards others p e =
    let P : List ℕ → Type 0 = λ l. IsPart (map rank_of part) l in
    let image : IsPart (map rank_of part) (map rank_of others) = subst P e (image_of_part rank_of part cards p) in
    let back = part_of_image rank_of (map rank_of part) others image in
    record {
      twin = back.0;
      inside = back.1;
      size = sym (length-ranks back.0) ∙ ap length back.2 ∙ length-ranks part;
      ranks = λ rank. times-ranks back.0 rank ∙ ap (λ l. times l rank) back.2 ∙ sym (times-ranks part rank);
    }

decide-most : (own board o b : List ℕ) → ArePlaced own board → ArePlaced o b → map rank_of own ≡ map rank_of o → map rank_of board ≡ map rank_of b → greatest (map plain_number (fives own board)) ≤ greatest (map plain_number (fives o b))
decide-most own board o b placed others e f = allowed_most own board plain_number (greatest (map plain_number (fives o b))) (λ two three a.
    let x = twin_of two own o a.of_own e in
    let y = twin_of three board b a.of_board f in
    let at : plain_number (union x.twin y.twin) ≤ greatest (map plain_number (fives o b)) = allowed_least o b plain_number x.twin y.twin (record { two_cards = x.size ∙ a.two_cards; of_own = x.inside; three_cards = y.size ∙ a.three_cards; of_board = y.inside }) in
    let same : plain_number (union two three) ≡ plain_number (union x.twin y.twin) = plain-same_ranks (union two three) (union x.twin y.twin) (λ rank l.
    let mine = count-union two three rank (set-part two own a.of_own placed.own_cards) (set-part three board a.of_board placed.board_cards) (Apart-parts two own three board a.of_own a.of_board (Apart-apart own board placed.apart)) in
    let theirs = count-union x.twin y.twin rank (set-part x.twin o x.inside others.own_cards) (set-part y.twin b y.inside others.board_cards) (Apart-parts x.twin o y.twin b x.inside y.inside (Apart-apart o b others.apart)) in
    omega (arith, x.ranks rank, y.ranks rank)) in
    omega arith)

pub ranks_decide : RanksDecide
ranks_decide own board o b placed others same_own same_board =
    let e : map rank_of own ≡ map rank_of o = same-rank_lists own o placed.own_cards others.own_cards same_own in
    let f : map rank_of board ≡ map rank_of b = same-rank_lists board b placed.board_cards others.board_cards same_board in
    omega (arith, plain-five own board placed, plain-five o b others, decide-most own board o b placed others e f, decide-most o b own board others placed (sym e) (sym f))

-- the choices of so many have the same greatest number where each has the same number
pub greatest-parts : (k : ℕ) (xs : List ℕ) (f g : List ℕ → ℕ) → ((part : List ℕ) → length part ≡ k → IsPart part xs → f part ≡ g part) → greatest (map f (choose k xs)) ≡ greatest (map g (choose k xs))
greatest-parts k xs f g h =
    let less : greatest (map f (choose k xs)) ≤ greatest (map g (choose k xs)) = greatest_most k xs f (greatest (map g (choose k xs))) (λ part e p. omega (arith, h part e p, greatest_least k xs g part e p)) in
    let more : greatest (map g (choose k xs)) ≤ greatest (map f (choose k xs)) = greatest_most k xs g (greatest (map f (choose k xs))) (λ part e p. omega (arith, h part e p, greatest_least k xs f part e p)) in
    omega arith

-- two own cards are worth with the best three of the board what the best of their fives is
two-is : (side : Side) (own board two : List ℕ) → ArePlaced own board → length two ≡ 2 → IsPart two own → best_with side (union [] two) 3 board ≡ with_two (five_worth side) board two
unfolding best_with
two-is side own board two placed e p =
    let set : IsCardSet two = set-part two own p placed.own_cards in
    ap (λ l. best_with side l 3 board) (none-union two set)
    ∙ same_greatest (map (λ three. worth side (union two three)) (choose 3 board))
    ∙ greatest-parts 3 board (λ three. worth side (union two three)) (λ three. five_worth side (union two three)) (λ three d q. worth-five side (union two three) (union-IsCardSet two three) (five own board two three placed (record { two_cards = e; of_own = p; three_cards = d; of_board = q })))

-- and so are all own cards
pub own-is : (side : Side) (own board : List ℕ) → ArePlaced own board → best_own side [] 2 own board ≡ greatest (map (five_worth side) (fives own board))
unfolding best_own
own-is side own board placed =
    same_greatest (map (λ two. best_with side (union [] two) 3 board) (choose 2 own))
    ∙ greatest-parts 2 own (λ two. best_with side (union [] two) 3 board) (with_two (five_worth side) board) (λ two e p. two-is side own board two placed e p)
    ∙ sym (greatest-flat (five_worth side) board (choose 2 own))
