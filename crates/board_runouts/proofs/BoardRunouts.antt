-- Runouts that deal the board alone.
use Rattle.std.proofs.Common.{◌≡◌, ℕ, zero, suc, ◌+◌, ◌-◌, ◌<◌, ◌≤◌, ◌==◌, List, [], ◌∷◌, ◌++◌, length, map, refl, sym, ap, ◌∙◌, Bool, true, false, cond, arith, ◌||◌, subst, append_assoc}
use Rattle.std.specs.List.{count_by, slice_range}
use Rattle.std.proofs.lemmas.List.{length-map}
use Rattle.std.proofs.lemmas.List.Sums.{sum_by-append}
use Rattle.std.proofs.lemmas.List.Folds.{list_any-append}
use Rattle.card_sets.specs.Bits.{IsCardSet-cards_where}
use Rattle.card_sets.specs.Cards.{cards_where, cards_below, has_card, union, with_card, IsCardSet, IsRising, RisingFrom}
use Rattle.card_sets.specs.Choose.{choose}
use Rattle.card_sets.specs.Rising.{IsRising-cards_where, rising_front, with_card-push}
use Rattle.card_sets.specs.State.{State}
use Rattle.runout_ranges.specs.Runouts.{HasMember}
use Rattle.runout_ranges.specs.Slots.{counts_of, slots, unseen, dealt}
use Rattle.runout_ranges.specs.Ways.{Within}
use Rattle.runout_ranges.specs.declared.shapes.Receiver.TheVariants.{Board, Hand}
use Rattle.showdown_tally.specs.Laws.{IsFull}
use Rattle.showdown_tally.specs.Showdown.{own_after, board_after}
use Rattle.showdown_tally.specs.Tallies.{runouts_after}
use Rattle.card_sets.proofs.CallerLemmas.{Apart}
use Rattle.showdown_tally.proofs.CallerLemmas.{Deals, IsChoice, runout_deals, hand_of, Sound, unseen_free, any-index, full_own, full_board, full_apart}
use Rattle.board_runouts.specs.Boards.{IsBoardAlone, board_lacks}
use Rattle.board_runouts.specs.Pairs.{cards_of_pair}
use Rattle.board_ranks.specs.declared.pair.Pair.{Pair}
use Rattle.runout_walk.proofs.CallerLemmas.{in_range, length-range, member-map, union-none}

one-or : (f : ℕ → Bool) (p q : Bool) (n : ℕ) → (p ≡ true → q ≡ true → ⊥) → count_by f (cond (p || q) (n ∷ []) []) ≡ count_by f (cond p (n ∷ []) []) + count_by f (cond q (n ∷ []) [])
one-or f true true n h = absurd (h refl refl)
one-or f true false n h = omega arith
one-or f false true n h = omega arith
one-or f false false n h = refl

count-or : (f p q : ℕ → Bool) (n : ℕ) → ((k : ℕ) → p k ≡ true → q k ≡ true → ⊥) → count_by f (cards_below (λ k. p k || q k) n) ≡ count_by f (cards_below p n) + count_by f (cards_below q n)
count-or f p q zero h = refl
count-or f p q (suc n) h =
    omega (
      arith,
      count-or f p q n h,
      one-or f (p n) (q n) n (h n),
      sum_by-append (λ x. cond (f x) 1 0) (cards_below (λ k. p k || q k) n) (cond (p n || q n) (n ∷ []) []),
      sum_by-append (λ x. cond (f x) 1 0) (cards_below p n) (cond (p n) (n ∷ []) []),
      sum_by-append (λ x. cond (f x) 1 0) (cards_below q n) (cond (q n) (n ∷ []) []),
    )

-- two sets that share no card have as many that pass a test as both together
pub count-union : (f : ℕ → Bool) (a b : List ℕ) → IsCardSet a → IsCardSet b → Apart a b → count_by f (union a b) ≡ count_by f a + count_by f b
unfolding cards_where
count-union f a b x y h = omega (arith, count-or f (has_card a) (has_card b) 52 h, ap (count_by f) x, ap (count_by f) y)

pub union-set : (a b : List ℕ) → IsCardSet (union a b)
union-set a b = IsCardSet-cards_where _

-- a runout that deals the board alone
pub own_alone : (st : State) (set : List ℕ) (h : ℕ) → IsBoardAlone st → IsCardSet (hand_of st h) → own_after st (set ∷ []) h ≡ hand_of st h
own_alone st set h alone is = ap (λ l. union (hand_of st h) (dealt l (set ∷ []) (Hand h))) alone ∙ union-none (hand_of st h) is

pub board_alone : (st : State) (set : List ℕ) → IsBoardAlone st → board_after st (set ∷ []) ≡ union st.board set
board_alone st set alone = ap (λ l. union st.board (dealt l (set ∷ []) Board)) alone

-- unseen cards are apart from the known ones
pub board_apart : (st : State) (set : List ℕ) → Within set (unseen st) → Apart st.board set
board_apart st set w = λ k x y. (unseen_free st k (w k y)).0 x

pub hand_apart : (st : State) (set : List ℕ) (h : ℕ) → Within set (unseen st) → Apart (hand_of st h) set
hand_apart st set h w = λ k x y. (unseen_free st k (w k y)).1 (any-index k st.hands h x)

-- a pair of a stretch is a choice of two
pub stretch-member : (stretch : List Pair) (rest : List ℕ) (lo hi : ℕ) (pair : Pair) → map cards_of_pair stretch ≡ slice_range (choose 2 rest) lo hi → HasMember stretch pair → HasMember (choose 2 rest) (cards_of_pair pair)
stretch-member stretch rest lo hi pair e m =
    let P : List (List ℕ) → Type 0 = λ l. HasMember l (cards_of_pair pair) in
    in_range (choose 2 rest) lo hi (cards_of_pair pair) (subst P e (member-map cards_of_pair stretch pair m))

pub stretch-length : (stretch : List Pair) (rest : List ℕ) (lo hi : ℕ) → map cards_of_pair stretch ≡ slice_range (choose 2 rest) lo hi → lo < hi → hi ≤ length (choose 2 rest) → length stretch ≡ hi - lo
stretch-length stretch rest lo hi e h k = sym (length-map stretch cards_of_pair) ∙ ap length e ∙ length-range (choose 2 rest) lo hi (omega arith) k

-- what the only set of a runout is
pub set_of_member : (st : State) (set : List ℕ) → IsBoardAlone st → HasMember (runouts_after st) (set ∷ []) → IsChoice (board_lacks (slots st)) 0 (unseen st) set
set_of_member st set alone member =
    let deals : Deals (unseen st) (counts_of (slots st)) (set ∷ []) = runout_deals (unseen st) (counts_of (slots st)) (set ∷ []) (IsRising-cards_where _) member in
    let P : List ℕ → Type 0 = λ counts. Deals (unseen st) counts (set ∷ []) in
    let one : Deals (unseen st) (board_lacks (slots st) ∷ []) (set ∷ []) = subst P (ap counts_of alone) deals in
    one.0

pub full_after : (st : State) (runout : List (List ℕ)) (h : ℕ) → Sound st → HasMember (runouts_after st) runout → h < length st.hands → IsCardSet (hand_of st h) → IsCardSet st.board → IsFull st.game (own_after st runout h) (board_after st runout)
full_after st runout h sound member l hand board =
    let deals : Deals (unseen st) (counts_of (slots st)) runout = runout_deals (unseen st) (counts_of (slots st)) runout (IsRising-cards_where _) member in
    record {
      own_cards = union-set _ _;
      board_cards = union-set _ _;
      own_size = full_own st runout h sound deals l hand;
      board_size = full_board st runout sound deals board;
      apart = full_apart st runout h sound deals l;
    }

-- the set of first cards and a pair
pub set_with_pair : (st : State) (taken with both : List ℕ) (low high : ℕ) → IsBoardAlone st → HasMember (runouts_after st) ((taken ++ low ∷ high ∷ []) ∷ []) → with ≡ with_card taken low → both ≡ with_card with high → both ≡ taken ++ low ∷ high ∷ []
set_with_pair st taken with both low high alone member w b =
    let choice = set_of_member st (taken ++ low ∷ high ∷ []) alone member in
    let first : with ≡ taken ++ low ∷ [] = w ∙ with_card-push taken low (rising_front 0 taken low (high ∷ []) choice.1) in
    let split : taken ++ low ∷ high ∷ [] ≡ (taken ++ low ∷ []) ++ high ∷ [] = sym (append_assoc taken (low ∷ []) (high ∷ [])) in
    let P : List ℕ → Type 0 = λ l. IsRising l in
    b ∙ ap (λ l. with_card l high) first ∙ with_card-push (taken ++ low ∷ []) high (subst P split choice.1) ∙ sym split

last_two : (from : ℕ) (taken : List ℕ) (low high : ℕ) → RisingFrom from (taken ++ low ∷ high ∷ []) → (low < high) × (high < 52)
last_two from [] low high r = (let up = r.2.0 in omega arith, let top = r.2.1 in omega arith)
last_two from (x ∷ taken) low high r = last_two (x + 1) taken low high r.2

-- the last two cards rise
pub pair_rises : (st : State) (taken : List ℕ) (low high : ℕ) → IsBoardAlone st → HasMember (runouts_after st) ((taken ++ low ∷ high ∷ []) ∷ []) → (low < high) × (high < 52)
pair_rises st taken low high alone member = last_two 0 taken low high (set_of_member st (taken ++ low ∷ high ∷ []) alone member).1

pub front-has : (front back : List ℕ) (k : ℕ) → has_card front k ≡ true → has_card (front ++ back) k ≡ true
front-has front back k h = list_any-append (λ c. c == k) front back ∙ go (has_card front k) (has_card back k) h
  where
    go : (a b : Bool) → a ≡ true → (a || b) ≡ true
    go true b e = refl
    go false b e = cc
