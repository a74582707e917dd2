-- What receivers lack, hand by hand.
use Rattle.std.proofs.Common.{◌≡◌, ℕ, zero, suc, ◌+◌, ◌-◌, ◌<◌, ◌≤◌, List, [], ◌∷◌, ◌++◌, refl, sym, ap, ◌∙◌, append_assoc, length, take, get_or, arith, Bool, true, false, ◌||◌, ◌&&◌, not, length-append}
use Rattle.std.specs.List.{list_any}
use Rattle.std.proofs.lemmas.List.{take_more, length-take-le, get_or_default}
use Rattle.std.proofs.lemmas.List.Folds.{list_any-append}
use Rattle.card_sets.specs.Cards.{has_card, cards_where, minus, deck}
use Rattle.card_sets.specs.Bits.{cards_where_same, has-cards_where}
use Rattle.runout_ranges.specs.Slots.{slot_of, hand_slots}
use Rattle.runout_ranges.specs.declared.shapes.Receiver.{Receiver}
use Rattle.runout_ranges.specs.declared.shapes.Receiver.TheVariants.{Hand}
use Rattle.runout_ranges.specs.declared.shapes.Slot.{Slot}

hand_slots-append : (size number : ℕ) (xs ys : List (List ℕ)) → hand_slots size number (xs ++ ys) ≡ hand_slots size number xs ++ hand_slots size (number + length xs) ys
hand_slots-append size number [] ys =
    let none : number + 0 ≡ number = omega arith in
    ap (λ n. hand_slots size n ys) (sym none)
hand_slots-append size number (x ∷ xs) ys =
    let over : (number + 1) + length xs ≡ number + suc (length xs) = omega arith in
    ap (λ l. slot_of (Hand number) (size - length x) ++ l) (hand_slots-append size (number + 1) xs ys ∙ ap (λ n. hand_slots size (number + 1) xs ++ hand_slots size n ys) over)
    ∙ sym (append_assoc (slot_of (Hand number) (size - length x)) (hand_slots size (number + 1) xs) (hand_slots size (number + suc (length xs)) ys))

append_none : (slots : List Slot) → slots ++ [] ≡ slots
append_none [] = refl
append_none (s ∷ slots) = ap (λ l. s ∷ l) (append_none slots)

-- the slots of one hand more
pub hand_slots_more : (size i : ℕ) (hands : List (List ℕ)) → i < length hands → hand_slots size 0 (take (i + 1) hands) ≡ hand_slots size 0 (take i hands) ++ slot_of (Hand i) (size - length (get_or hands i []))
hand_slots_more size i hands h =
    let long : length (take i hands) ≡ i = length-take-le i hands (omega arith) in
    let at : 0 + length (take i hands) ≡ i = omega arith in
    ap (λ l. hand_slots size 0 l) (take_more hands i [] h)
    ∙ hand_slots-append size 0 (take i hands) (get_or hands i [] ∷ [])
    ∙ ap (λ n. hand_slots size 0 (take i hands) ++ hand_slots size n (get_or hands i [] ∷ [])) at
    ∙ ap (λ l. hand_slots size 0 (take i hands) ++ l) (append_none (slot_of (Hand i) (size - length (get_or hands i []))))

-- a receiver has at most one slot
pub one_slot : (receiver : Receiver) (n : ℕ) → length (slot_of receiver n) ≤ 1
one_slot receiver zero = omega arith
one_slot receiver (suc n) = omega arith

-- the cards that a set leaves of those that pass a test
minus_where : (p : ℕ → Bool) (b : List ℕ) → minus (cards_where p) b ≡ cards_where (λ k. p k && not (has_card b k))
minus_where p b = cards_where_same _ _ (λ k h. ap (λ t. t && not (has_card b k)) (has-cards_where p k h))

pub none_dealt : (board dead all left left' : List ℕ) → all ≡ deck → left ≡ minus all board → left' ≡ minus left dead
    → left' ≡ cards_where (λ c. not (has_card board c) && not (has_card dead c) && not (list_any (λ hand. has_card hand c) []))
none_dealt board dead all left left' a b c =
    c ∙ ap (λ l. minus l dead) (b ∙ ap (λ l. minus l board) a ∙ minus_where (λ k. true) board) ∙ minus_where (λ k. true && not (has_card board k)) dead
    ∙ cards_where_same _ _ (λ k h. plain (not (has_card board k)) (not (has_card dead k)))
  where
    plain : (a b : Bool) → ((true && a) && b) ≡ (a && b && not false)
    plain true true = refl
    plain true false = refl
    plain false true = refl
    plain false false = refl

pub one_more_dealt : (board dead hand left left' : List ℕ) (hands : List (List ℕ)) (i : ℕ) → i < length hands → hand ≡ get_or hands i hand
    → left ≡ cards_where (λ c. not (has_card board c) && not (has_card dead c) && not (list_any (λ hand. has_card hand c) (take i hands))) → left' ≡ minus left hand
    → left' ≡ cards_where (λ c. not (has_card board c) && not (has_card dead c) && not (list_any (λ hand. has_card hand c) (take (i + 1) hands)))
one_more_dealt board dead hand left left' hands i h e a b =
    b ∙ ap (λ l. minus l hand) a ∙ minus_where (λ c. not (has_card board c) && not (has_card dead c) && not (list_any (λ hand. has_card hand c) (take i hands))) hand
    ∙ cards_where_same _ _ (λ k l.
    let more : list_any (λ hand. has_card hand k) (take (i + 1) hands) ≡ (list_any (λ hand. has_card hand k) (take i hands) || (has_card hand k || false)) =
    ap (λ l. list_any (λ hand. has_card hand k) l) (take_more hands i hand h) ∙ list_any-append (λ hand. has_card hand k) (take i hands) (get_or hands i hand ∷ []) ∙ ap (λ s. list_any (λ hand. has_card hand k) (take i hands) || (has_card s k || false)) (sym e) in
    regroup (not (has_card board k)) (not (has_card dead k)) (list_any (λ hand. has_card hand k) (take i hands)) (has_card hand k)
    ∙ ap (λ t. not (has_card board k) && not (has_card dead k) && not t) (sym more))
  where
    regroup : (a b c d : Bool) → ((a && b && not c) && not d) ≡ (a && b && not (c || (d || false)))
    regroup true true true d = refl
    regroup true true false true = refl
    regroup true true false false = refl
    regroup true false c d = refl
    regroup false true c d = refl
    regroup false false c d = refl

-- the slots with those of one hand more
pub lacks_more : (board before after : List Slot) (size count n i : ℕ) (hands : List (List ℕ)) (d : List ℕ) → i < length hands → n ≡ length (get_or hands i d) → count ≡ size - n
    → before ≡ board ++ hand_slots size 0 (take i hands) → after ≡ before ++ slot_of (Hand i) count → after ≡ board ++ hand_slots size 0 (take (i + 1) hands)
lacks_more board before after size count n i hands d h many lacks a b =
    let count' : count ≡ size - length (get_or hands i []) = lacks ∙ ap (λ k. size - k) (many ∙ ap length (get_or_default hands i d [] h)) in
    b ∙ ap (λ l. l ++ slot_of (Hand i) count) a ∙ append_assoc board (hand_slots size 0 (take i hands)) (slot_of (Hand i) count)
    ∙ ap (λ k. board ++ (hand_slots size 0 (take i hands) ++ slot_of (Hand i) k)) count' ∙ ap (λ l. board ++ l) (sym (hand_slots_more size i hands h))

pub few_more : (before after : List Slot) (receiver : Receiver) (count n : ℕ) → length before ≤ n → after ≡ before ++ slot_of receiver count → length after ≤ n + 1
few_more before after receiver count n h e = omega (arith, ap length e, length-append before (slot_of receiver count), one_slot receiver count)
