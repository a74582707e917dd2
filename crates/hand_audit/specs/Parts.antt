-- What the winners of each side of each part of a pot get.
use Rattle.std.specs.Prelude.{ℕ, ◌+◌, ◌-◌, ◌/◌, ◌==◌, ◌&&◌, if◌then◌else◌, nat_lt, sum_by, Bool, true, false, List, [], ◌∷◌, ◌++◌, map, length, Option, Some, None}
use Rattle.card_sets.specs.PlayerSets.{seats_in}
use Rattle.card_sets.specs.declared.games.Side.{Side}
use Rattle.pot_layers.specs.declared.paid.Share.{Share}
use Rattle.pot_layers.specs.Split.{shares, high_half, low_half}
use Rattle.hand_verdict.specs.declared.parts.PartShare.{PartShare}
use Rattle.hand_verdict.specs.declared.settlement.PotLine.{PotLine}
use Rattle.hand_audit.specs.Settle.{Showing, Part, parts_of, first_side, second_side, first_winners, second_winners, order_of, settled}

-- a share of a side, whose winners get so much each and some of them an odd unit more
abbrev pub part_share : ℕ → Side → ℕ → Share → PartShare
part_share board side each share = record { board = board; side = side; seat = share.seat; units = share.units; odd = nat_lt each share.units }

-- those of a side: its winners share what it gets as they would a pot that is played for it alone
abbrev pub side_parts : ℕ → Option Side → ℕ → List ℕ → ℕ → List PartShare
side_parts board None winners order units = []
side_parts board (Some side) winners order units = map (part_share board side (units / length order)) (shares units winners 0 order [])

-- those of the two sides of a part that goes by a board, the first side before the second
abbrev pub both_sides : Showing → ℕ → Part → ℕ → ℕ → List PartShare
both_sides s board part first second =
    side_parts board (first_side s.game) first (order_of (first_side s.game) s part.board first) (high_half part.units second)
    ++ side_parts board (second_side s.game) second (order_of (second_side s.game) s part.board second) (low_half part.units second)

abbrev pub shares_on : Showing → ℕ → ℕ → Part → List PartShare
shares_on s eligible board part = both_sides s board part (first_winners s part.board eligible) (second_winners s part.board eligible)

-- those of some parts, by the boards from a number on
abbrev pub shares_on_boards : Showing → ℕ → ℕ → List Part → List PartShare
shares_on_boards s eligible board [] = []
shares_on_boards s eligible board (part ∷ parts) = shares_on s eligible board part ++ shares_on_boards s eligible (board + 1) parts

-- two players or more may win it
abbrev pub is_contested : ℕ → Bool
is_contested eligible = nat_lt 1 (length (seats_in eligible))

-- those of a pot: none where it isn't known who wins it, or one player alone may
abbrev pub part_shares_if : Bool → Showing → ℕ → ℕ → List PartShare
part_shares_if true s eligible units = shares_on_boards s eligible 1 (parts_of s units)
part_shares_if false s eligible units = []

unfoldable pub part_shares : Showing → PotLine → List PartShare
part_shares s pot = part_shares_if (pot.checked && is_contested pot.eligible) s pot.eligible (pot.gross - pot.rake)

-- those of the pots of a hand, pot by pot
abbrev pub hand_parts : Showing → List (List PartShare)
hand_parts s = map (part_shares s) (settled s).pots

-- what some shares give a seat, how many of them are a seat's, and what they give all
abbrev pub units_of : ℕ → List PartShare → ℕ
units_of p shares = sum_by (λ share. if share.seat == p then share.units else 0) shares

abbrev pub sides_in : ℕ → List PartShare → ℕ
sides_in p shares = sum_by (λ share. if share.seat == p then 1 else 0) shares

abbrev pub units_in_all : List PartShare → ℕ
units_in_all shares = sum_by (λ share. share.units) shares
