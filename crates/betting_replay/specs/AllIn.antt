-- The moment after which a hand is played out without acts, and the cards that are dead there. Source: the usual rules
-- of poker.
use Rattle.std.specs.Prelude.{ℕ, zero, suc, ◌&&◌, not, Bool, if◌then◌else◌, List, [], Option, Some, None, is_none, nat_lt, nat_le}
use Rattle.card_sets.specs.Cards.{union}
use Rattle.card_sets.specs.declared.streets.Street.{Street as StreetName}
use Rattle.betting_replay.specs.declared.points.Point.{Point}
use Rattle.card_sets.specs.PlayerSets.{has_player}
use Rattle.betting_replay.specs.Seats.{count_seats}
use Rattle.betting_replay.specs.Table.{ReplayState, own_at}
use Rattle.betting_replay.specs.Turns.{is_contender, contender_count, has_chips, next_to_act}
use Rattle.betting_replay.specs.Accounts.{contenders}

-- the number of contenders with chips left
unfoldable pub funded_count : ReplayState → ℕ
funded_count t = count_seats (λ p. is_contender t p && has_chips t p)

-- nobody can bet any more: the first street has begun, two or more contenders are left, at most one of them has chips,
-- nobody owes an act, and the last street is to come
unfoldable pub is_point : ReplayState → Bool
is_point t = t.course.opened && nat_le 2 (contender_count t) && nat_le (funded_count t) 1 && is_none (next_to_act t) && not t.course.last_begun

-- a point on a street, with the contenders there
abbrev pub point_on : Option StreetName → ℕ → Option Point
point_on None seats = None
point_on (Some street) seats = Some (record { street = street; contenders = seats })

-- the all-in point of this moment, if it is one
unfoldable pub point_now : ReplayState → Option Point
point_now t = if is_point t then point_on t.course.street (contenders t) else None

-- the street of a point, and its contenders
abbrev pub point_street : Option Point → Option StreetName
point_street None = None
point_street (Some point) = Some point.street

abbrev pub point_contenders : Option Point → ℕ
point_contenders None = 0
point_contenders (Some point) = point.contenders

-- the player had folded at a point; number 0 is no seat
abbrev pub had_folded : ℕ → Point → ℕ → Bool
had_folded players point p = nat_lt 0 p && has_player players p && not (has_player point.contenders p)

-- the cards of the seats below n that pass a test
abbrev pub cards_of_seats : (ℕ → Bool) → (ℕ → List ℕ) → ℕ → List ℕ
cards_of_seats test own zero = []
cards_of_seats test own (suc n) = if test n then union (cards_of_seats test own n) (own n) else cards_of_seats test own n

-- the cards that are dead at a point: all cards discarded face up, and the cards of all players who had folded; none if
-- there is no point
abbrev pub dead_by : ℕ → Option Point → (ℕ → List ℕ) → List ℕ → List ℕ
dead_by players None own thrown = []
dead_by players (Some point) own thrown = union thrown (cards_of_seats (had_folded players point) own 11)

unfoldable pub dead_at : ReplayState → List ℕ
dead_at t = dead_by t.players t.point (own_at t) t.thrown
