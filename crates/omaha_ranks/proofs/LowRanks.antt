-- Own cards and boards with the same ranks have the same low.
use Rattle.std.proofs.Common.{◌≡◌, ℕ, zero, suc, ◌≤◌, ◌<◌, ◌==◌, List, [], ◌∷◌, ◌++◌, refl, sym, ap, ◌∙◌, arith, cond, map, inl, inr, false, ◌+◌, ◌%◌}
use Rattle.std.proofs.lemmas.Bool.{cases_lt}
use Rattle.card_sets.specs.Cards.{rank_of, union, IsCardSet}
use Rattle.rank_high.specs.High.{count_of_rank}
use Rattle.rank_low.specs.Low.{ace_low, count_of_low, low_groups, low_a5, qualifies}
use Rattle.card_sets.proofs.CallerLemmas.{greatest, set-part, Apart-parts, union-IsCardSet, Apart-apart}
use Rattle.rank_high.proofs.CallerLemmas.{groups_counted-same, count_of_rank-cons, same-rank_lists, count-union}
use Rattle.rank_low.proofs.CallerLemmas.{eight_turned, low-high, high_rank, ace_turned}
use Rattle.omaha_ranks.specs.Omaha.{fives, ArePlaced, LowRanksDecide}
use Rattle.omaha_ranks.proofs.TwoAndThree.{allowed_most, allowed_least}
use Rattle.omaha_ranks.proofs.BestFives.{fives-are}
use Rattle.omaha_ranks.proofs.BestNumbers.{eight-by}
use Rattle.omaha_ranks.proofs.TwoParts.{twin_of}

-- no card has a rank above twelve
none_above : (cards : List ℕ) (rank : ℕ) → 13 ≤ rank → count_of_low cards rank ≡ 0
none_above [] rank h = refl
none_above (c ∷ cards) rank h =
    let small : rank_of (ace_low c) < 13 = (let m : (c + 4) % 52 < 52 = omega arith in omega arith) in
    let f : (rank_of (ace_low c) == rank) ≡ false = grind arith in
    let other : cond {A = ℕ} (rank_of (ace_low c) == rank) 1 0 ≡ 0 = ap (λ b. cond {A = ℕ} b 1 0) f in
    omega (arith, count_of_rank-cons (ace_low c) (map ace_low cards) rank, other, none_above cards rank h)

high_rank-small : (rank : ℕ) → rank < 13 → high_rank rank < 13
high_rank-small zero h = omega arith
high_rank-small (suc rank) h = omega arith

same_low : (a b : List ℕ) → IsCardSet a → IsCardSet b → ((rank : ℕ) → rank < 13 → count_of_rank a rank ≡ count_of_rank b rank) → (rank : ℕ) → count_of_low a rank ≡ count_of_low b rank
same_low a b p q same rank = elim (cases_lt rank 13) [
  | inl l ↦ low-high a rank p l ∙ same (high_rank rank) (high_rank-small rank l) ∙ sym (low-high b rank q l)
  | inr ge ↦ none_above a rank ge ∙ sym (none_above b rank ge)
]

map_same : (f g : ℕ → ℕ) → ((n : ℕ) → f n ≡ g n) → (ns : List ℕ) → map f ns ≡ map g ns
map_same f g h [] = refl
map_same f g h (n ∷ ns) = ap (λ m. m ∷ map f ns) (h n) ∙ ap (λ ms. g n ∷ ms) (map_same f g h ns)

same_groups : (a b : List ℕ) → ((rank : ℕ) → count_of_low a rank ≡ count_of_low b rank) → low_groups a ≡ low_groups b
same_groups a b h = groups_counted-same (count_of_low a) (count_of_low b) (λ k l. h k)

same_qualifies : (a b : List ℕ) → ((rank : ℕ) → count_of_low a rank ≡ count_of_low b rank) → qualifies a ≡ qualifies b
unfolding qualifies
same_qualifies a b h = rw (same_groups a b h) refl

same_list : (a b : List ℕ) → ((rank : ℕ) → count_of_low a rank ≡ count_of_low b rank) → low_a5 a ≡ low_a5 b
unfolding low_a5
same_list a b h = ap (λ l. l ++ map (λ r. r + 1) (low_groups a)) (map_same (count_of_low a) (count_of_low b) h (low_groups a)) ∙ ap (λ l. map (count_of_low b) l ++ map (λ r. r + 1) l) (same_groups a b h)

-- fives with the same ranks have the same low
same_five : (a b : List ℕ) → IsCardSet a → IsCardSet b → ((rank : ℕ) → rank < 13 → count_of_rank a rank ≡ count_of_rank b rank) → eight_turned a ≡ eight_turned b
same_five a b p q same =
    let low = same_low a b p q same in
    ap (λ t. cond t (ace_turned (low_a5 a)) 0) (same_qualifies a b low) ∙ ap (λ l. cond (qualifies b) (ace_turned l) 0) (same_list a b low)

low-most : (own board o b : List ℕ) → ArePlaced own board → ArePlaced o b → map rank_of own ≡ map rank_of o → map rank_of board ≡ map rank_of b → greatest (map eight_turned (fives own board)) ≤ greatest (map eight_turned (fives o b))
low-most own board o b placed others e f = allowed_most own board eight_turned (greatest (map eight_turned (fives o b))) (λ two three a.
    let x = twin_of two own o a.of_own e in
    let y = twin_of three board b a.of_board f in
    let at : eight_turned (union x.twin y.twin) ≤ greatest (map eight_turned (fives o b)) = allowed_least o b eight_turned x.twin y.twin (record { two_cards = x.size ∙ a.two_cards; of_own = x.inside; three_cards = y.size ∙ a.three_cards; of_board = y.inside }) in
    let same : eight_turned (union two three) ≡ eight_turned (union x.twin y.twin) = same_five (union two three) (union x.twin y.twin) (union-IsCardSet two three) (union-IsCardSet x.twin y.twin) (λ rank l.
    let mine = count-union two three rank (set-part two own a.of_own placed.own_cards) (set-part three board a.of_board placed.board_cards) (Apart-parts two own three board a.of_own a.of_board (Apart-apart own board placed.apart)) in
    let theirs = count-union x.twin y.twin rank (set-part x.twin o x.inside others.own_cards) (set-part y.twin b y.inside others.board_cards) (Apart-parts x.twin o y.twin b x.inside y.inside (Apart-apart o b others.apart)) in
    omega (arith, x.ranks rank, y.ranks rank)) in
    omega arith)

pub low_ranks_decide : LowRanksDecide
low_ranks_decide own board o b placed others same_own same_board =
    let e : map rank_of own ≡ map rank_of o = same-rank_lists own o placed.own_cards others.own_cards same_own in
    let f : map rank_of board ≡ map rank_of b = same-rank_lists board b placed.board_cards others.board_cards same_board in
    let less : greatest (map eight_turned (fives own board)) ≤ greatest (map eight_turned (fives o b)) = low-most own board o b placed others e f in
    let more : greatest (map eight_turned (fives o b)) ≤ greatest (map eight_turned (fives own board)) = low-most o b own board others placed (sym e) (sym f) in
    eight-by (fives own board) (fives o b) (fives-are own board placed) (fives-are o b others) (omega arith)
