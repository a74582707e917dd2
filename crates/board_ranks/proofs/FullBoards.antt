-- Full boards of given ranks beside own cards.
use Rattle.std.proofs.Common.{◌≡◌, ℕ, zero, suc, ◌+◌, ◌/◌, ◌<◌, ◌≤◌, ◌==◌, ◌||◌, List, length, refl, sym, ap, ◌∙◌, Bool, true, false, arith, inl, inr, Option, None, subst}
use Rattle.std.proofs.lemmas.Bool.{cases_eq}
use mathlib.Core.Bool.{true≢false}
use Rattle.card_sets.specs.Cards.{has_card, union, with_card, rank_of, ranks_over, IsCardSet, cards_of_rank}
use Rattle.card_sets.specs.Bits.{cards_where_same, has-cards_where, IsCardSet-cards_where}
use Rattle.card_sets.specs.Disjoint.{apart}
use Rattle.card_sets.specs.Games.{has_board, own_size}
use Rattle.card_sets.specs.RankCounts.{AreCounted, counted_over, one_more}
use Rattle.card_sets.specs.Rising.{IsCardSet-rising}
use Rattle.card_sets.specs.declared.games.Game.{Game}
use Rattle.card_sets.specs.declared.sets.ByRank.{ByRank}
use Rattle.rank_high.specs.ByRanks.{HaveRanks}
use Rattle.rank_high.specs.High.{count_of_rank, value_of}
use Rattle.rank_high.specs.Parts.{best_plain}
use Rattle.card_sets.proofs.CallerLemmas.{Apart, Apart-apart, apart-Apart, has_card-bound, has_union, union-IsCardSet}
use Rattle.rank_high.proofs.CallerLemmas.{count-union, total, total-all, InDeck-rising}
use Rattle.omaha_ranks.specs.Omaha.{ArePlaced}
use Rattle.board_ranks.specs.BoardWith.{AreRanksAnd, AreRanksWith, AreWorthWith, HasNoBoard, IsBoardWith, low_number}
use Rattle.board_ranks.specs.HighParts.{plain_number}
use Rattle.board_ranks.specs.Values.{one_of}
use Rattle.board_ranks.proofs.HighCalls.{any_plain, together, two_own}
use Rattle.board_ranks.proofs.HighLaws.{holdem_alone, is_omaha, same_plain, same_low}
use Rattle.board_ranks.proofs.RankCounts.{few_of_rank, with_of_rank, length-with}

pub same_one : (rank : ℕ) → one_of rank rank ≡ 1
same_one rank = let t : (rank == rank) ≡ true = grind arith in rw t refl

both_counts : (own board : List ℕ) (r : ℕ) → IsCardSet own → IsCardSet board → apart own board ≡ true → cards_of_rank (union own board) r ≡ cards_of_rank own r + cards_of_rank board r
both_counts own board r p q a = count-union own board r p q (Apart-apart own board a)

pub most_counts : (own full : List ℕ) (r : ℕ) → IsCardSet own → r < 13 → IsCardSet full → apart own full ≡ true → cards_of_rank own r + cards_of_rank full r < 5
most_counts own full r p h q a = omega (arith, both_counts own full r p q a, few_of_rank (union own full) r (union-IsCardSet own full) h)

-- where no card of the lower rank is left, no full board has these ranks
pub none_low : (own board : List ℕ) (low high : ℕ) → IsCardSet own → IsCardSet board → apart own board ≡ true → low < 13 → cards_of_rank (union own board) low ≡ 4 → HasNoBoard own board low high
none_low own board low high p q a h four full is =
    let many : count_of_rank full low ≡ count_of_rank board low + one_of low low + one_of high low = is.ranks low h in
    omega (arith, many, both_counts own board low p q a, most_counts own full low p h is.cards is.apart, same_one low)

pub none_high : (own board all : List ℕ) (card low high : ℕ) → IsCardSet own → IsCardSet board → apart own board ≡ true → high < 13 → all ≡ union own board → has_card all card ≡ false → rank_of card ≡ low → cards_of_rank (with_card all card) high ≡ 4
    → HasNoBoard own board low high
none_high own board all card low high p q a h u free rank four full is =
    let many : count_of_rank full high ≡ count_of_rank board high + one_of low high + one_of high high = is.ranks high h in
    let set : IsCardSet all = (let P : List ℕ → Type 0 = λ l. IsCardSet l in subst P (sym u) (union-IsCardSet own board)) in
    let more : cards_of_rank (with_card all card) high ≡ cards_of_rank all high + one_of low high = with_of_rank all card high set h free ∙ ap (λ k. cards_of_rank all high + one_of k high) rank in
    let here : cards_of_rank all high ≡ cards_of_rank (union own board) high = ap (λ l. cards_of_rank l high) u in
    omega (arith, many, both_counts own board high p q a, most_counts own full high p h is.cards is.apart, same_one high, more, here)

left-false : (a b : Bool) → (a || b) ≡ false → a ≡ false
left-false true b e = e
left-false false b e = refl

right-false : (a b : Bool) → (a || b) ≡ false → b ≡ false
right-false true b e = absurd (true≢false e)
right-false false b e = e

-- a card that neither of two sets has
free_of : (a b : List ℕ) (k : ℕ) → k < 52 → has_card (union a b) k ≡ false → (has_card a k ≡ false) × (has_card b k ≡ false)
free_of a b k l free =
    let either : (has_card a k || has_card b k) ≡ false = sym (has_union a b k l) ∙ free in
    (left-false (has_card a k) (has_card b k) either, right-false (has_card a k) (has_card b k) either)

has_with : (cards : List ℕ) (card k : ℕ) → k < 52 → has_card (with_card cards card) k ≡ ((k == card) || has_card cards k)
has_with cards card k l = has-cards_where (λ k. (k == card) || has_card cards k) k l

pub apart_with : (own board : List ℕ) (card : ℕ) → IsCardSet own → Apart own board → has_card own card ≡ false → Apart own (with_card board card)
apart_with own board card p a free = λ k x y. elim (cases_eq k card) [
  | inl same ↦ true≢false (sym x ∙ ap (has_card own) same ∙ free)
  | inr ne ↦
      let l : k < 52 = has_card-bound 0 own k (IsCardSet-rising own p) x in
      let f : (k == card) ≡ false = grind arith in
      a k x (ap (λ b. b || has_card board k) (sym f) ∙ sym (has_with board card k l) ∙ y)
]

-- a board with two cards more, which neither it nor the own cards have
pub some_board : (own board all more longer full : List ℕ) (first second low high : ℕ) → IsCardSet own → IsCardSet board → apart own board ≡ true → IsCardSet longer → first < 52 → second < 52
    → all ≡ union own board → more ≡ with_card all first → longer ≡ with_card board first → full ≡ with_card longer second
    → rank_of first ≡ low → has_card all first ≡ false → rank_of second ≡ high → has_card more second ≡ false
    → IsBoardWith own board low high full × (length full ≡ length board + 2)
some_board own board all more longer full first second low high p q a long_set fl sl u m w f low_is low_free high_is high_free =
    let out = free_of own board first fl (ap (λ l. has_card l first) (sym u) ∙ low_free) in
    let either : ((second == first) || has_card all second) ≡ false = sym (has_with all first second sl) ∙ ap (λ l. has_card l second) (sym m) ∙ high_free in
    let out' = free_of own board second sl (ap (λ l. has_card l second) (sym u) ∙ right-false (second == first) (has_card all second) either) in
    let long_free : has_card longer second ≡ false = ap (λ l. has_card l second) w ∙ has_with board first second sl ∙ ap (λ b. b || has_card board second) (left-false (second == first) (has_card all second) either) ∙ out'.1 in
    let one : length longer ≡ length board + 1 = ap length w ∙ length-with board first q fl out.1 in
    let two : length full ≡ length longer + 1 = ap length f ∙ length-with longer second long_set sl long_free in
    let away : Apart own longer = (let P : List ℕ → Type 0 = λ l. Apart own l in subst P (sym w) (apart_with own board first p (Apart-apart own board a) out.0)) in
    let away' : Apart own full = (let P : List ℕ → Type 0 = λ l. Apart own l in subst P (sym f) (apart_with own longer second p away out'.0)) in
    let set : IsCardSet full = (let P : List ℕ → Type 0 = λ l. IsCardSet l in subst P (sym f) (IsCardSet-cards_where _)) in (
      record {
        cards = set;
        apart = apart-Apart own full away';
        ranks = λ r h.
            let x : cards_of_rank longer r ≡ cards_of_rank board r + one_of low r = ap (λ l. cards_of_rank l r) w ∙ with_of_rank board first r q h out.1 ∙ ap (λ k. cards_of_rank board r + one_of k r) low_is in
            let y : cards_of_rank full r ≡ cards_of_rank longer r + one_of high r = ap (λ l. cards_of_rank l r) f ∙ with_of_rank longer second r long_set h long_free ∙ ap (λ k. cards_of_rank longer r + one_of k r) high_is in
            omega (arith, x, y);
      },
      omega (arith, one, two),
    )

-- what own cards are worth with one such board they are worth with each
pub worth_of_all : (game : Game) (own board full : List ℕ) (low high value : ℕ) (turned : Option ℕ) → has_board game ≡ true → IsCardSet own → IsBoardWith own board low high full → value ≡ plain_number game own full → turned ≡ low_number game own full
    → AreWorthWith game own board low high value turned
worth_of_all game own board full low high value turned is own_set at v t =
    let here : ArePlaced own full = record { own_cards = own_set; board_cards = at.cards; apart = at.apart } in
    record {
      as_high = λ other also. v ∙ same_plain game own full other is here (record { own_cards = own_set; board_cards = also.cards; apart = also.apart }) (λ r l. at.ranks r l ∙ sym (also.ranks r l));
      as_low = λ other also. t ∙ same_low game own full other is here (record { own_cards = own_set; board_cards = also.cards; apart = also.apart }) (λ r l. at.ranks r l ∙ sym (also.ranks r l));
    }

pub worth_of_none : (game : Game) (own board : List ℕ) (low high value : ℕ) (turned : Option ℕ) → HasNoBoard own board low high → AreWorthWith game own board low high value turned
worth_of_none game own board low high value turned none = record { as_high = λ full is. absurd (none full is); as_low = λ full is. absurd (none full is) }

-- the ranks of own cards and a board, as a call makes them
pub ranks_of_both : (own board all : List ℕ) (ranks : ByRank) → all ≡ union own board → ranks.one ≡ ranks_over 0 all → ranks.two ≡ ranks_over 1 all → ranks.three ≡ ranks_over 2 all → ranks.four ≡ ranks_over 3 all → AreRanksWith own board ranks
ranks_of_both own board all ranks u one two three four = record {
  one = one ∙ ap (ranks_over 0) u;
  two = two ∙ ap (ranks_over 1) u;
  three = three ∙ ap (ranks_over 2) u;
  four = four ∙ ap (ranks_over 3) u;
}

over_same : (n : ℕ) (f g : ℕ → ℕ) → ((r : ℕ) → r < 13 → f r ≡ g r) → counted_over n f ≡ counted_over n g
over_same n f g same = cards_where_same _ _ (λ k l. let e : f (k / 4) ≡ g (k / 4) = same (k / 4) (omega arith) in rw e refl)

counted_same : (f g : ℕ → ℕ) (ranks : ByRank) → ((r : ℕ) → r < 13 → f r ≡ g r) → AreCounted ranks f → AreCounted ranks g
counted_same f g ranks same are = record {
  one = are.one ∙ over_same 0 f g same;
  two = are.two ∙ over_same 1 f g same;
  three = are.three ∙ over_same 2 f g same;
  four = are.four ∙ over_same 3 f g same;
}

total-less : (f g : ℕ → ℕ) (n : ℕ) → ((k : ℕ) → k < n → f k ≤ g k) → total f n ≤ total g n
total-less f g zero less = omega arith
total-less f g (suc n) less =
    let ih : total f n ≤ total g n = total-less f g n (λ k l. less k (omega arith)) in
    let top : f n ≤ g n = less n (omega arith) in
    omega arith

-- a set that has no less of each rank has no fewer cards
no_fewer : (a b : List ℕ) → IsCardSet a → IsCardSet b → ((r : ℕ) → r < 13 → count_of_rank a r ≤ count_of_rank b r) → length a ≤ length b
no_fewer a b p q less =
    omega (arith, total-all a (InDeck-rising 0 a (IsCardSet-rising a p)), total-all b (InDeck-rising 0 b (IsCardSet-rising b q)), total-less (count_of_rank a) (count_of_rank b) 13 less)

-- own cards and a full board of given ranks have the ranks of the own cards and the board, and one card of each of two ranks more
with_both : (own board full : List ℕ) (low high r : ℕ) → IsCardSet own → IsCardSet board → apart own board ≡ true → IsBoardWith own board low high full → r < 13
    → one_more high (one_more low (count_of_rank (union own board))) r ≡ count_of_rank (union own full) r
with_both own board full low high r p q a at l = omega (arith, both_counts own board r p q a, both_counts own full r p at.cards at.apart, at.ranks r l)

-- what a hand is worth by the ranks, where any five make a hand
value_of_ranks : (game : Game) (own board full : List ℕ) (low high value : ℕ) (ranks : ByRank) → has_board game ≡ true → is_omaha game ≡ false → IsCardSet own → IsCardSet board → length own ≡ own_size game → length board ≡ 3 → apart own board ≡ true
    → AreCounted ranks (one_more high (one_more low (count_of_rank (union own board)))) → ((s : List ℕ) → HaveRanks s ranks → value ≡ value_of (best_plain s)) → IsBoardWith own board low high full → value ≡ plain_number game own full
value_of_ranks game own board full low high value ranks is not p q size three a counted v at =
    let same : (r : ℕ) → r < 13 → one_more high (one_more low (count_of_rank (union own board))) r ≡ count_of_rank (union own full) r = λ r l. with_both own board full low high r p q a at l in
    let more : (r : ℕ) → r < 13 → count_of_rank (union own board) r ≤ count_of_rank (union own full) r = λ r l. (let e = same r l in omega arith) in
    let whole : length (union own board) ≤ length (union own full) = no_fewer (union own board) (union own full) (union-IsCardSet own board) (union-IsCardSet own full) more in
    let five : 5 ≤ length (union own full) = omega (arith, whole, together own board (record { own_cards = p; board_cards = q; apart = a }), size, three, two_own game is not) in
    v (union own full) (record { set = union-IsCardSet own full; five = five; counted = counted_same _ _ ranks same counted }) ∙ sym (any_plain game own full is not)

-- there is no low there
no_low : (game : Game) (own full : List ℕ) → has_board game ≡ true → is_omaha game ≡ false → None ≡ low_number game own full
no_low game own full = holdem_alone (λ g. None ≡ low_number g own full) refl game

pub worth_of_ranks : (game : Game) (own board : List ℕ) (low high value : ℕ) (one two : ByRank) → has_board game ≡ true → is_omaha game ≡ false → IsCardSet own → IsCardSet board → length own ≡ own_size game → length board ≡ 3 → apart own board ≡ true
    → AreRanksAnd own board low one → ((count : ℕ → ℕ) → AreCounted one count → AreCounted two (one_more high count))
    → ((s : List ℕ) → HaveRanks s two → value ≡ value_of (best_plain s)) → AreWorthWith game own board low high value None
worth_of_ranks game own board low high value one two is not p q size three a counted second v =
    let both : AreCounted two (one_more high (one_more low (count_of_rank (union own board)))) = second (one_more low (count_of_rank (union own board))) counted in
    record {
      as_high = λ full at. value_of_ranks game own board full low high value two is not p q size three a both v at;
      as_low = λ full at. no_low game own full is not;
    }
