-- Three cards of given ranks beside own cards, and the numbers of a table for them.
use Rattle.std.proofs.Common.{◌≡◌, ℕ, ◌+◌, ◌*◌, ◌/◌, ◌%◌, ◌<◌, ◌≤◌, List, [], ◌∷◌, length, refl, sym, ap, ◌∙◌, arith, true, false, max, Option, Some, None, subst, inl, inr}
use Rattle.std.specs.Prelude.{◌==◌, if◌then◌else◌, MatchOption, slice_index}
use Rattle.std.specs.Option.{option_map}
use Rattle.std.proofs.lemmas.Bool.{cases_eq}
use mathlib.Core.Bool.{true≢false}
use Rattle.card_sets.specs.Cards.{has_card, with_card, rank_of, IsCardSet, RisingFrom, cards_of_rank}
use Rattle.card_sets.specs.Disjoint.{apart}
use Rattle.card_sets.specs.Rising.{IsCardSet-rising}
use Rattle.card_sets.specs.declared.games.Game.{Game}
use Rattle.card_sets.specs.declared.games.Game.TheVariants.{Omaha8}
use Rattle.card_sets.specs.declared.games.Side.{Side}
use Rattle.card_sets.specs.declared.games.Side.TheVariants.{High, Low}
use Rattle.rank_high.specs.High.{count_of_rank}
use Rattle.card_sets.proofs.CallerLemmas.{Apart, apart-Apart}
use Rattle.omaha_ranks.specs.Omaha.{ArePlaced, best_three, eight_number, fives}
use Rattle.omaha_ranks.specs.Worth.{low_worth}
use Rattle.omaha_ranks.proofs.CallerLemmas.{placed-part, best_by_threes, low_ranks_decide, low_threes_decide, no_low, ranks_decide, some_low, threes_decide}
use Rattle.board_ranks.specs.BoardWith.{HasNoBoard, IsBoardWith, low_number, turned}
use Rattle.board_ranks.specs.Threes.{AreThrees, HasNoThree, IsThree, IsThreeWorth, three_number, three_place, two_own_worth}
use Rattle.board_ranks.specs.Values.{one_of}
use Rattle.board_ranks.proofs.FullBoards.{apart_with, most_counts, same_one}
use Rattle.board_ranks.proofs.RankCounts.{length-with, with_of_rank}

-- where own cards have all four of the lowest rank there are no three
pub no_three : (own : List ℕ) (low mid high : ℕ) → IsCardSet own → low < 13 → cards_of_rank own low ≡ 4 → HasNoThree own low mid high
no_three own low mid high set l four three is =
    let some : count_of_rank three low ≡ one_of low low + one_of mid low + one_of high low = is.ranks low l in
    omega (arith, some, same_one low, most_counts own three low set l is.placed.board_cards is.placed.apart, four)

-- nobody has a card of none
none_has : (none : List ℕ) (card : ℕ) → none ≡ [] → has_card none card ≡ false
none_has none card e = ap (λ l. has_card l card) e

-- a card that isn't an own card is apart from them
pub one_apart : (own none one : List ℕ) (card : ℕ) → IsCardSet own → none ≡ [] → one ≡ with_card none card → has_card own card ≡ false → apart own one ≡ true
one_apart own none one card set e f free =
    let away : Apart own none = λ k x y. true≢false (sym y ∙ none_has none k e) in
    let more : Apart own (with_card none card) = apart_with own none card set away free in
    let P : List ℕ → Type 0 = λ l. Apart own l in
    apart-Apart own one (subst P (sym f) more)

one_counts : (none one : List ℕ) (card low r : ℕ) → IsCardSet none → none ≡ [] → one ≡ with_card none card → rank_of card ≡ low → r < 13 → count_of_rank one r ≡ one_of low r
one_counts none one card low r set e f rank l =
    let whole : count_of_rank one r ≡ cards_of_rank (with_card none card) r = ap (λ cards. count_of_rank cards r) f in
    let more : cards_of_rank (with_card none card) r ≡ cards_of_rank none r + one_of (rank_of card) r = with_of_rank none card r set l (none_has none card e) in
    let zero_here : cards_of_rank none r ≡ 0 = ap (λ cards. cards_of_rank cards r) e in
    let same : one_of (rank_of card) r ≡ one_of low r = ap (λ k. one_of k r) rank in
    omega (arith, whole, more, zero_here, same)

-- a card of the lowest rank and two more are three
pub three_of : (own none one : List ℕ) (card low mid high : ℕ) (o : Option (List ℕ)) → IsCardSet own → IsCardSet none → none ≡ [] → one ≡ with_card none card → card < 52 → rank_of card ≡ low
    → MatchOption o (HasNoBoard own one mid high) (λ full. IsBoardWith own one mid high full × (length full ≡ length one + 2))
    → MatchOption o (HasNoThree own low mid high) (λ three. IsThree own low mid high three × (length three ≡ 3))
three_of own none one card low mid high None own_set none_set e f l rank h = λ three is. h three (record {
  cards = is.placed.board_cards;
  apart = is.placed.apart;
  ranks = λ r b. omega (arith, is.ranks r b, one_counts none one card low r none_set e f rank b);
})
three_of own none one card low mid high (Some full) own_set none_set e f l rank h =
    let more : length (with_card none card) ≡ length none + 1 = length-with none card none_set l (none_has none card e) in (
      record {
        placed = record { own_cards = own_set; board_cards = h.0.cards; apart = h.0.apart };
        ranks = λ r b. omega (arith, h.0.ranks r b, one_counts none one card low r none_set e f rank b);
      },
      omega (arith, h.1, ap length f, more, ap length e),
    )

-- what own cards are worth with three cards they are worth with any three of these ranks
pub three_worth : (side : Side) (own three : List ℕ) (low mid high worth : ℕ) → IsThree own low mid high three → worth ≡ two_own_worth side own three → IsThreeWorth side own low mid high worth
three_worth High own three low mid high worth is e = λ other also. e ∙ ranks_decide own three own other is.placed also.placed (λ rank l. refl) (λ r l. is.ranks r l ∙ sym (also.ranks r l))
three_worth Low own three low mid high worth is e = λ other also.
    e ∙ ap low_worth (low_ranks_decide own three own other is.placed also.placed (λ rank l. refl) (λ r l. is.ranks r l ∙ sym (also.ranks r l)))

-- the ranks at a place
first_at : (low mid high : ℕ) → mid < 13 → high < 13 → three_place low mid high / 169 ≡ low
first_at low mid high m h = omega arith

last_at : (low mid high : ℕ) → high < 13 → three_place low mid high % 13 ≡ high
last_at low mid high h = omega arith

middle_at : (low mid high : ℕ) → mid < 13 → high < 13 → three_place low mid high / 13 % 13 ≡ mid
middle_at low mid high m h =
    let without : three_place low mid high / 13 ≡ 13 * low + mid = omega arith in
    let rest : (13 * low + mid) % 13 ≡ mid = omega arith in
    ap (λ k. k % 13) without ∙ rest

inside_at : (low mid high : ℕ) → low < 13 → mid < 13 → high < 13 → three_place low mid high < 2197
inside_at low mid high l m h = omega arith

-- a table that is right at each place has the numbers of all three ranks
pub threes_from : (side : Side) (own values : List ℕ) → ((k : ℕ) → k < 2197 → k / 169 ≤ k / 13 % 13 → k / 13 % 13 ≤ k % 13 → IsThreeWorth side own (k / 169) (k / 13 % 13) (k % 13) (slice_index values k)) → AreThrees side own values
threes_from side own values right four low mid high order also h =
    let m : mid < 13 = omega arith in
    let l : low < 13 = omega arith in
    let first : three_place low mid high / 169 ≡ low = first_at low mid high m h in
    let middle : three_place low mid high / 13 % 13 ≡ mid = middle_at low mid high m h in
    let last : three_place low mid high % 13 ≡ high = last_at low mid high h in
    let here : IsThreeWorth side own (three_place low mid high / 169) (three_place low mid high / 13 % 13) (three_place low mid high % 13) (slice_index values (three_place low mid high)) =
    right (three_place low mid high) (inside_at low mid high l m h) (in_order (three_place low mid high / 169) (three_place low mid high / 13 % 13) low mid first middle order)
    (in_order (three_place low mid high / 13 % 13) (three_place low mid high % 13) mid high middle last also) in
    let P : ℕ → Type 0 = λ n. IsThreeWorth side own n (three_place low mid high / 13 % 13) (three_place low mid high % 13) (slice_index values (three_place low mid high)) in
    let Q : ℕ → Type 0 = λ n. IsThreeWorth side own low n (three_place low mid high % 13) (slice_index values (three_place low mid high)) in
    let R : ℕ → Type 0 = λ n. IsThreeWorth side own low mid n (slice_index values (three_place low mid high)) in
    subst R last (subst Q middle (subst P first here))
  where
    in_order : (a b c d : ℕ) → a ≡ c → b ≡ d → c ≤ d → a ≤ b
    in_order a b c d x y z = omega arith

from_zero : (x y z : ℕ) → 0 + x + y + z ≡ x + y + z
from_zero x y z = omega arith

-- the number of three cards of a board is what own cards are worth with them
pub number_is : (side : Side) (own values three : List ℕ) → AreThrees side own values → length own ≡ 4 → ArePlaced own three → length three ≡ 3 → three_number values three ≡ two_own_worth side own three
number_is side own values [] right four placed e = absurd (omega (arith, e))
number_is side own values (p ∷ []) right four placed e = absurd (omega (arith, e))
number_is side own values (p ∷ q ∷ []) right four placed e = absurd (omega (arith, e))
number_is side own values (p ∷ q ∷ r ∷ s ∷ more) right four placed e = absurd (omega (arith, e))
number_is side own values (p ∷ q ∷ r ∷ []) right four placed e =
    let rises : RisingFrom 0 (p ∷ q ∷ r ∷ []) = IsCardSet-rising (p ∷ q ∷ r ∷ []) placed.board_cards in
    let up : p + 1 ≤ q = rises.2.0 in
    let over : q + 1 ≤ r = rises.2.2.0 in
    let top : r < 52 = rises.2.2.1 in
    right four (rank_of p) (rank_of q) (rank_of r) (omega arith) (omega arith) (omega arith) (p ∷ q ∷ r ∷ []) (record { placed = placed; ranks = λ k b. from_zero (one_of (rank_of p) k) (one_of (rank_of q) k) (one_of (rank_of r) k) })

-- own cards are worth with a board what they are worth with the best three of its cards
decided : (side : Side) (own board : List ℕ) → ArePlaced own board → two_own_worth side own board ≡ best_three (two_own_worth side own) board
decided High own board placed = threes_decide own board placed
decided Low own board placed = low_threes_decide own board placed

-- so the greatest number of all three cards is right
pub best_is : (side : Side) (own values board : List ℕ) → AreThrees side own values → length own ≡ 4 → ArePlaced own board → best_three (three_number values) board ≡ two_own_worth side own board
best_is side own values board right four placed =
    best_by_threes (three_number values) (two_own_worth side own) board (λ three e part. number_is side own values three right four (placed-part own board three placed part) e)
    ∙ sym (decided side own board placed)

-- what a low is worth tells the low
pub low_from : (game : Game) (own board : List ℕ) (worth : ℕ) → game ≡ Omaha8 → ArePlaced own board → worth ≡ two_own_worth Low own board → (if worth == 0 then None else Some worth) ≡ low_number game own board
low_from game own board worth is placed e = elim (cases_eq worth 0) [
  | inl none ↦
      let t : (worth == 0) ≡ true = grind arith in
      rw t (low_is None (no_low own board placed (sym none ∙ e)))
  | inr some ↦
      let f : (worth == 0) ≡ false = grind arith in
      let low = some_low own board worth placed e some in
      rw f (ap Some low.2 ∙ low_is (Some low.0) low.1)
]
  where
    low_is : (low : Option ℕ) → low ≡ eight_number (fives own board) → option_map turned low ≡ low_number game own board
    low_is low same = ap (option_map turned) same ∙ ap (λ g. low_number g own board) (sym is)

three_more : (x y z r : ℕ) → max (max x (max y z)) r ≡ max x (max y (max z r))
three_more x y z r = omega arith

alone : (n : ℕ) → n ≡ max n 0
alone n = omega arith

-- the ten threes of five cards
pub ten_threes : (f : List ℕ → ℕ) (a b c d e low first second high : ℕ)
    → low ≡ max (f (a ∷ b ∷ c ∷ [])) (max (f (a ∷ b ∷ d ∷ [])) (f (a ∷ b ∷ e ∷ [])))
    → first ≡ max (f (a ∷ c ∷ d ∷ [])) (max (f (a ∷ c ∷ e ∷ [])) (f (a ∷ d ∷ e ∷ [])))
    → second ≡ max (f (b ∷ c ∷ d ∷ [])) (max (f (b ∷ c ∷ e ∷ [])) (f (b ∷ d ∷ e ∷ [])))
    → high ≡ f (c ∷ d ∷ e ∷ [])
    → max low (max first (max second high)) ≡ best_three f (a ∷ b ∷ c ∷ d ∷ e ∷ [])
ten_threes f a b c d e low first second high x y z w =
    let last : high ≡ max (f (c ∷ d ∷ e ∷ [])) 0 = w ∙ alone (f (c ∷ d ∷ e ∷ [])) in
    let third : max second high ≡ max (f (b ∷ c ∷ d ∷ [])) (max (f (b ∷ c ∷ e ∷ [])) (max (f (b ∷ d ∷ e ∷ [])) high)) = ap (λ n. max n high) z ∙ three_more (f (b ∷ c ∷ d ∷ [])) (f (b ∷ c ∷ e ∷ [])) (f (b ∷ d ∷ e ∷ [])) high in
    let next : max first (max second high) ≡ max (f (a ∷ c ∷ d ∷ [])) (max (f (a ∷ c ∷ e ∷ [])) (max (f (a ∷ d ∷ e ∷ [])) (max second high))) = ap (λ n. max n (max second high)) y ∙ three_more (f (a ∷ c ∷ d ∷ [])) (f (a ∷ c ∷ e ∷ [])) (f (a ∷ d ∷ e ∷ [])) (max second high) in
    ap (λ n. max n (max first (max second high))) x
    ∙ three_more (f (a ∷ b ∷ c ∷ [])) (f (a ∷ b ∷ d ∷ [])) (f (a ∷ b ∷ e ∷ [])) (max first (max second high))
    ∙ ap (λ n. max (f (a ∷ b ∷ c ∷ [])) (max (f (a ∷ b ∷ d ∷ [])) (max (f (a ∷ b ∷ e ∷ [])) n))) (next
    ∙ ap (λ n. max (f (a ∷ c ∷ d ∷ [])) (max (f (a ∷ c ∷ e ∷ [])) (max (f (a ∷ d ∷ e ∷ [])) n))) (third
    ∙ ap (λ n. max (f (b ∷ c ∷ d ∷ [])) (max (f (b ∷ c ∷ e ∷ [])) (max (f (b ∷ d ∷ e ∷ [])) n))) last))
