-- Each share names its board.
use Rattle.std.proofs.Common.{◌≡◌, ℕ, ◌-◌, ◌/◌, ◌&&◌, Bool, true, false, List, [], ◌∷◌, ◌++◌, map, length, Option, Some, None, refl, ap, append-nil, ◌∙◌}
use Rattle.card_sets.specs.declared.games.Side.{Side}
use Rattle.pot_layers.specs.declared.paid.Share.{Share}
use Rattle.pot_layers.specs.Split.{shares, high_half, low_half}
use Rattle.hand_verdict.specs.declared.parts.PartShare.{PartShare}
use Rattle.hand_verdict.specs.declared.settlement.PotLine.{PotLine}
use Rattle.hand_audit.specs.Settle.{Showing, Part, parts_of, first_side, second_side, first_winners, second_winners, order_of}
use Rattle.hand_audit.specs.Parts.{is_contested, part_share, part_shares, part_shares_if, shares_on, shares_on_boards, side_parts}
use Rattle.hand_laws.specs.BoardLaws.{BoardsAreNamed, OnBoard, SharesNameTheirBoards}

joined : (board : ℕ) (some others : List PartShare) → OnBoard board some → OnBoard board others → OnBoard board (some ++ others)
joined board [] others a b = b
joined board (share ∷ some) others a b = (a.0, joined board some others a.1 b)

of_shares : (board : ℕ) (side : Side) (each : ℕ) (given : List Share) → OnBoard board (map (part_share board side each) given)
of_shares board side each [] = tt
of_shares board side each (share ∷ given) = (refl, of_shares board side each given)

of_side : (board : ℕ) (side : Option Side) (winners : ℕ) (order : List ℕ) (units : ℕ) → OnBoard board (side_parts board side winners order units)
of_side board None winners order units = tt
of_side board (Some side) winners order units = of_shares board side (units / length order) (shares units winners 0 order [])

of_part : (s : Showing) (eligible board : ℕ) (part : Part) → OnBoard board (shares_on s eligible board part)
of_part s eligible board part =
    let first = first_winners s part.board eligible in
    let second = second_winners s part.board eligible in
    let one = side_parts board (first_side s.game) first (order_of (first_side s.game) s part.board first) (high_half part.units second) in
    let two = side_parts board (second_side s.game) second (order_of (second_side s.game) s part.board second) (low_half part.units second) in
    joined board one two (of_side board (first_side s.game) first (order_of (first_side s.game) s part.board first) (high_half part.units second))
    (of_side board (second_side s.game) second (order_of (second_side s.game) s part.board second) (low_half part.units second))

one_part : (b : Bool) (s : Showing) (eligible units : ℕ) (part : Part) → parts_of s units ≡ part ∷ [] → OnBoard 1 (part_shares_if b s eligible units)
one_part false s eligible units part is = tt
one_part true s eligible units part is = rw is (joined 1 (shares_on s eligible 1 part) [] (of_part s eligible 1 part) tt)

two_parts : (s : Showing) (eligible units : ℕ) (first second : Part) → parts_of s units ≡ first ∷ second ∷ []
    → part_shares_if true s eligible units ≡ shares_on s eligible 1 first ++ shares_on s eligible 2 second
two_parts s eligible units first second is =
    ap (shares_on_boards s eligible 1) is ∙ ap (λ xs. shares_on s eligible 1 first ++ xs) (append-nil (shares_on s eligible 2 second))

pub boards_are_named : BoardsAreNamed
unfolding part_shares
boards_are_named s pot = record {
  once = λ part is. one_part (pot.checked && is_contested pot.eligible) s pot.eligible (pot.gross - pot.rake) part is;
  twice = λ first second is known. ap (λ b. part_shares_if b s pot.eligible (pot.gross - pot.rake)) known ∙ two_parts s pot.eligible (pot.gross - pot.rake) first second is;
  named = λ board part. of_part s pot.eligible board part;
  unseen = λ e. ap (λ b. part_shares_if (b && is_contested pot.eligible) s pot.eligible (pot.gross - pot.rake)) e;
}
