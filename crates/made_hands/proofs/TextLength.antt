-- How long the text of made hands is.
use Rattle.std.proofs.Common.{◌≡◌, ℕ, zero, suc, ◌+◌, ◌-◌, ◌*◌, ◌<◌, ◌≤◌, Bool, true, false, nat_le, nat_lt, if◌then◌else◌, List, [], ◌∷◌, ◌++◌, length, take, drop, length-append, refl, arith}
use Rattle.std.specs.Prelude.{codes, decimal}
use Rattle.std.specs.List.{flat_map, join_by}
use Rattle.std.specs.declared.cmp.Ordering.{Ordering}
use Rattle.std.specs.declared.cmp.Ordering.TheVariants.{Less, Equal, Greater}
use Rattle.std.proofs.lemmas.Fmt.{length-decimal-le}
use Rattle.std.proofs.lemmas.List.{length-take}
use Rattle.card_sets.specs.CardText.{text_of_card}
use Rattle.made_hands.specs.declared.deals.Deal.{Deal}
use Rattle.made_hands.specs.Generator.{state_after}
use Rattle.made_hands.specs.Deals.{IsWhole, deal_of}
use Rattle.made_hands.specs.Lines.{betting_text, blind_lines, board_lines, call_line, cards_text, collected_line, collected_lines, compared, ending_text, flop_lines, hand_text, return_line, seat_lines, shown_lines, staked, summary_lines, title_lines}
use Rattle.made_hands.specs.Made.{hands_text}
use Rattle.made_hands.proofs.DrawnNumbers.{whole-deal_of}

three_digits : (n : ℕ) → n < 1000 → length (decimal n) ≤ 3
three_digits n h = length-decimal-le 3 n (omega arith) (omega arith) (omega arith)

five_digits : (n : ℕ) → n < 100000 → length (decimal n) ≤ 5
five_digits n h = length-decimal-le 5 n (omega arith) (omega arith) (omega arith)

two_letters : (card : ℕ) → length (text_of_card card) ≡ 2
unfolding text_of_card
two_letters card = refl

later_cards : (cards : List ℕ) → length (flat_map (λ card. codes " " ++ text_of_card card) cards) ≡ 3 * length cards
later_cards [] = refl
later_cards (card ∷ cards) =
    omega (arith, length-append (codes " " ++ text_of_card card) (flat_map (λ card. codes " " ++ text_of_card card) cards), length-append (codes " ") (text_of_card card), two_letters card, later_cards cards)

joined : (cards : List ℕ) → length (join_by text_of_card (codes " ") cards) ≤ 3 * length cards
joined [] = omega arith
joined (card ∷ cards) =
    omega (arith, length-append (text_of_card card) (flat_map (λ card. codes " " ++ text_of_card card) cards), two_letters card, later_cards cards)

cards_short : (cards : List ℕ) (n : ℕ) → length cards ≤ n → length (cards_text cards) ≤ 3 * n + 2
unfolding cards_text
cards_short cards n h = simp length-append (omega (arith, joined cards))

title_short : (n : ℕ) → n < 100000 → length (title_lines n) ≤ 120
unfolding title_lines
title_short n h = simp length-append (omega (arith, five_digits n h))

seats_short : (d : Deal) → IsWhole d → length (seat_lines d) ≤ 80
unfolding seat_lines
seats_short d w =
    let one = three_digits d.first_stack (omega arith) in
    let other = three_digits d.second_stack (omega arith) in
    simp length-append (omega (arith, one, other))

blinds_short : length blind_lines ≤ 120
unfolding blind_lines
blinds_short = omega arith

flop_short : (d : Deal) → IsWhole d → length (flop_lines d) ≤ 80
unfolding flop_lines
flop_short d w =
    let digits = three_digits (d.second_stack - 1) (omega arith) in
    let flop = cards_short (take 3 d.board) 3 (omega (arith, length-take 3 d.board)) in
    simp length-append (omega (arith, digits, flop))

call_end : (b : Bool) → length (if b then codes " and is all-in\n" else codes "\n") ≤ 20
call_end true = omega arith
call_end false = omega arith

call_short : (d : Deal) → IsWhole d → length (call_line d) ≤ 40
unfolding call_line
call_short d w =
    let digits = three_digits (staked d - 1) (omega arith) in
    simp length-append (omega (arith, digits, call_end (nat_le d.first_stack d.second_stack)))

return_short : (d : Deal) → IsWhole d → length (return_line d) ≤ 60
unfolding return_line
return_short d w = either (nat_lt d.first_stack d.second_stack)
  where
    text : List ℕ
    text = codes "Uncalled bet ($" ++ decimal (d.second_stack - d.first_stack) ++ codes ") returned to B\n"

    either : (b : Bool) → length (if b then text else []) ≤ 60
    either true = let digits = three_digits (d.second_stack - d.first_stack) (omega arith) in simp length-append (omega (arith, digits))
    either false = omega arith

board_short : (d : Deal) → length (board_lines d) ≤ 120
unfolding board_lines
board_short d =
    let flop = cards_short (take 3 d.board) 3 (omega (arith, length-take 3 d.board)) in
    let turn = cards_short (take 1 (drop 3 d.board)) 1 (omega (arith, length-take 1 (drop 3 d.board))) in
    let four = cards_short (take 4 d.board) 4 (omega (arith, length-take 4 d.board)) in
    let river = cards_short (take 1 (drop 4 d.board)) 1 (omega (arith, length-take 1 (drop 4 d.board))) in
    simp length-append (omega (arith, flop, turn, four, river))

shown_short : (d : Deal) → length d.first ≤ 2 → length d.second ≤ 2 → length (shown_lines d) ≤ 80
unfolding shown_lines
shown_short d two two' =
    let one = cards_short d.first 2 two in
    let other = cards_short d.second 2 two' in
    simp length-append (omega (arith, one, other))

line_short : (name : List ℕ) (dollars : ℕ) → length name ≤ 1 → dollars < 1000 → length (collected_line name dollars) ≤ 40
unfolding collected_line
line_short name dollars one few =
    let digits = three_digits dollars few in
    simp length-append (omega (arith, digits))

payments_short : (o : Ordering) (stake : ℕ) → stake ≤ 200 → length (collected_lines o stake) ≤ 80
unfolding collected_lines
payments_short Greater stake few = omega (arith, line_short (codes "A") (2 * stake) (omega arith) (omega arith))
payments_short Less stake few = omega (arith, line_short (codes "B") (2 * stake) (omega arith) (omega arith))
payments_short Equal stake few =
    let one = line_short (codes "A") stake (omega arith) (omega arith) in
    let other = line_short (codes "B") stake (omega arith) (omega arith) in
    simp length-append (omega (arith, one, other))

summary_short : (stake : ℕ) → stake ≤ 200 → length (summary_lines stake) ≤ 60
unfolding summary_lines
summary_short stake few =
    let digits = three_digits (2 * stake) (omega arith) in
    simp length-append (omega (arith, digits))

betting_short : (n : ℕ) (d : Deal) → n < 100000 → IsWhole d → length (betting_text n d) ≤ 500
unfolding betting_text
betting_short n d h w =
    simp length-append (omega (arith, title_short n h, seats_short d w, blinds_short, flop_short d w, call_short d w, return_short d w))

ending_short : (d : Deal) → IsWhole d → length d.first ≤ 2 → length d.second ≤ 2 → length (ending_text d) ≤ 340
unfolding ending_text
ending_short d w two two' =
    let few : staked d ≤ 200 = omega arith in
    simp length-append (omega (arith, board_short d, shown_short d two two', payments_short (compared d) (staked d) few, summary_short (staked d) few))

two_first : (x : ℕ) → length (deal_of x).first ≤ 2
unfolding deal_of
two_first x = omega arith

two_second : (x : ℕ) → length (deal_of x).second ≤ 2
unfolding deal_of
two_second x = omega arith

hand_short : (n x : ℕ) → n < 100000 → length (hand_text n (deal_of x)) ≤ 1000
unfolding hand_text
hand_short n x h =
    let w = whole-deal_of x in
    simp length-append (omega (arith, betting_short n (deal_of x) h w, ending_short (deal_of x) w (two_first x) (two_second x)))

-- so many hands have at most 1000 bytes each
pub hands_short : (number x n : ℕ) → number + n < 100000 → length (hands_text number x n) ≤ 1000 * n
unfolding hands_text
hands_short number x zero h = omega arith
hands_short number x (suc n) h =
    omega (arith, length-append (hand_text number (deal_of x)) (hands_text (number + 1) (state_after 11 x) n), hand_short number x (omega arith), hands_short (number + 1) (state_after 11 x) n (omega arith))
