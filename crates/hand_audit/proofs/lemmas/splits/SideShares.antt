-- What the winners of the sides of a pot's parts get, by what is kept of the final cards.
use Rattle.std.proofs.Common.{◌≡◌, ℕ, ◌/◌, ◌≤◌, List, [], ◌++◌, refl, sym, ap, ◌∙◌, true, map, length, append-nil, append_assoc, arith}
use Rattle.std.specs.Prelude.{Option, Some, None}
use Rattle.card_sets.specs.PlayerSets.{seats_in}
use Rattle.card_sets.specs.declared.games.Side.{Side}
use Rattle.pot_layers.specs.Split.{shares, first_half, second_half, high_half, low_half}
use Rattle.hand_verdict.specs.declared.parts.PartShare.{PartShare}
use Rattle.hand_audit.specs.declared.worths.OnBoard.{OnBoard}
use Rattle.hand_audit.specs.Parts.{part_share, side_parts, both_sides, shares_on, shares_on_boards, is_contested}
use Rattle.hand_audit.specs.Settle.{Showing, Part, parts_by, parts_of, first_side, second_side, first_winners, second_winners, order_of}
use Rattle.hand_audit.specs.Winning.{Decides, winners_by}
use Rattle.hand_audit.proofs.lemmas.splits.PartShares.{nobody_shares}
use Rattle.hand_audit.proofs.lemmas.splits.Winners.{side_told}

-- nobody gets anything of a side that nobody wins, or that the game hasn't
pub none_win : (board winners units : ℕ) (side : Option Side) (order : List ℕ) (all : List PartShare) → winners ≡ 0 → all ≡ all ++ side_parts board side winners order units
none_win board winners units None order all none = sym (append-nil all)
none_win board winners units (Some side) order all none =
    let no : shares units winners 0 order [] ≡ [] = ap (λ w. shares units w 0 order []) none ∙ nobody_shares units order [] in
    sym (append-nil all) ∙ ap (λ xs. all ++ map (part_share board side (units / length order)) xs) (sym no)

-- who wins the two sides by what is kept of a board
pub first_wins : (w : OnBoard) (s : Showing) (board : List ℕ) (eligible : ℕ) → Decides w s board eligible → 2 ≤ length (seats_in eligible) → winners_by w.first.values eligible ≡ first_winners s board eligible
unfolding first_winners
first_wins w s board eligible d more = side_told (first_side s.game) w.first.values s board eligible (d more).tells.first.ranks

pub second_wins : (w : OnBoard) (s : Showing) (board : List ℕ) (eligible : ℕ) → Decides w s board eligible → 2 ≤ length (seats_in eligible) → winners_by w.second.values eligible ≡ second_winners s board eligible
unfolding second_winners
second_wins w s board eligible d more = side_told (second_side s.game) w.second.values s board eligible (d more).tells.second.ranks

-- the shares of a part are those of its sides
pub part_is : (s : Showing) (eligible board units : ℕ) (cards : List ℕ) (first second high low : ℕ) (side other : Option Side) (order other_order : List ℕ) (all mid new : List PartShare)
    → side ≡ first_side s.game → other ≡ second_side s.game → first ≡ first_winners s cards eligible → second ≡ second_winners s cards eligible
    → order ≡ order_of (first_side s.game) s cards first → other_order ≡ order_of (second_side s.game) s cards second → high ≡ high_half units second → low ≡ low_half units second
    → mid ≡ all ++ side_parts board side first order high → new ≡ mid ++ side_parts board other second other_order low
    → new ≡ all ++ shares_on s eligible board (record { units = units; board = cards })
part_is s eligible board units cards first second high low side other order other_order all mid new a b f g o p h l grown more =
    let part : Part = record { units = units; board = cards } in
    let one : side_parts board side first order high ≡ side_parts board (first_side s.game) first (order_of (first_side s.game) s cards first) (high_half units second) = rw (a, o, h) refl in
    let two : side_parts board other second other_order low ≡ side_parts board (second_side s.game) second (order_of (second_side s.game) s cards second) (low_half units second) = rw (b, p, l) refl in
    more ∙ ap (λ xs. xs ++ side_parts board other second other_order low) grown ∙ append_assoc all (side_parts board side first order high) (side_parts board other second other_order low)
    ∙ ap (λ xs. all ++ (xs ++ side_parts board other second other_order low)) one
    ∙ ap (λ xs. all ++ (side_parts board (first_side s.game) first (order_of (first_side s.game) s cards first) (high_half units second) ++ xs)) two
    ∙ ap (λ n. all ++ both_sides s board part n second) f ∙ ap (λ n. all ++ both_sides s board part (first_winners s cards eligible) n) g

-- those of a pot of a hand that was run twice
pub twice_is : (s : Showing) (eligible units up down : ℕ) (board : List ℕ) (all mid new : List PartShare) → s.second ≡ Some board → up ≡ first_half units → down ≡ second_half units
    → mid ≡ all ++ shares_on s eligible 1 (record { units = up; board = s.board }) → new ≡ mid ++ shares_on s eligible 2 (record { units = down; board = board })
    → new ≡ all ++ shares_on_boards s eligible 1 (parts_of s units)
twice_is s eligible units up down board all mid new twice u d one two =
    let first = λ (n : ℕ). shares_on s eligible 1 (record { units = n; board = s.board }) in
    let second = λ (n : ℕ). shares_on s eligible 2 (record { units = n; board = board }) in
    two ∙ ap (λ xs. xs ++ second down) one ∙ append_assoc all (first up) (second down) ∙ ap (λ n. all ++ (first n ++ second down)) u
    ∙ ap (λ xs. all ++ (first (first_half units) ++ xs)) (ap second d ∙ sym (append-nil (second (second_half units))))
    ∙ ap (λ (o : Option (List ℕ)). all ++ shares_on_boards s eligible 1 (parts_by o s.board units)) (sym twice)

-- two players or more may win a pot that is contested
pub contested_more : (eligible : ℕ) → is_contested eligible ≡ true → 2 ≤ length (seats_in eligible)
contested_more eligible more = grind (arith, more)
