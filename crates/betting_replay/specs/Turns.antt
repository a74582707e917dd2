-- Who owes an act, who may act, and whose turn it is.
use Rattle.std.specs.Prelude.{ℕ, ◌-◌, ◌==◌, ◌&&◌, ◌||◌, not, Bool, Option, Some, None, nat_lt, nat_le}
use Rattle.card_sets.specs.PlayerSets.{has_player}
use Rattle.betting_replay.specs.Seats.{greatest_of, count_seats, first_between, first_after}
use Rattle.betting_replay.specs.Streets.{is_first}
use Rattle.betting_replay.specs.declared.points.Showdowns.{Showdowns}
use Rattle.betting_replay.specs.Table.{ReplayState, chips_at, acts_at}

-- the chips that a seat has put in live on the street, and the greatest such sum
abbrev pub live_at : ReplayState → ℕ → ℕ
live_at t p = (chips_at t p).live

unfoldable pub greatest : ReplayState → ℕ
greatest t = greatest_of (live_at t)

-- a player who hasn't folded
unfoldable pub is_contender : ReplayState → ℕ → Bool
is_contender t p = has_player t.players p && not (acts_at t p).folded

unfoldable pub contender_count : ReplayState → ℕ
contender_count t = count_seats (is_contender t)

abbrev pub has_chips : ReplayState → ℕ → Bool
has_chips t p = nat_lt 0 (chips_at t p).stack

-- there was a showdown marker, of any board
abbrev pub any_shown : Showdowns → Bool
any_shown s = s.plain || s.first || s.second

-- betting is open from the marker of the first street to the first showdown marker
abbrev pub is_open : ReplayState → Bool
is_open t = t.course.opened && not (any_shown t.course.showdowns)

-- the number of other contenders with chips left
unfoldable pub rivals : ReplayState → ℕ → ℕ
rivals t p = count_seats (λ q. not (q == p) && is_contender t q && has_chips t q)

-- the seat is below the greatest live sum, or has neither acted nor brought in on the street while another contender
-- has chips left
unfoldable pub is_pending : ReplayState → ℕ → Bool
is_pending t p =
    nat_lt (live_at t p) (greatest t)
    || (not (acts_at t p).acted && not (acts_at t p).brought_in && nat_lt 0 (rivals t p))

-- betting is open, and two players are in the hand; otherwise nobody owes an act
abbrev pub is_played : ReplayState → Bool
is_played t = is_open t && nat_le 2 (contender_count t)

-- the seat owes an act
unfoldable pub owes : ReplayState → ℕ → Bool
owes t p = is_open t && nat_le 2 (contender_count t) && is_contender t p && has_chips t p && is_pending t p

-- the seat may act
unfoldable pub may_act : ReplayState → ℕ → Bool
may_act t p = is_open t && is_contender t p && has_chips t p && (owes t p || not (acts_at t p).acted)

-- the first seat that owes an act strictly between the last actor and the seat
abbrev pub owes_before_by : Option ℕ → (ℕ → Bool) → ℕ → Option ℕ
owes_before_by None test p = None
owes_before_by (Some a) test p = first_between test a p

abbrev pub owes_before : ReplayState → ℕ → Option ℕ
owes_before t p = owes_before_by t.course.last_actor (owes t) p

-- the next seat that owes an act, after the last actor
abbrev pub next_to_act : ReplayState → Option ℕ
next_to_act t = first_after (owes t) t.course.last_actor

-- the units that a seat owes
abbrev pub due : ReplayState → ℕ → ℕ
due t p = greatest t - live_at t p

-- on the first street the stated big blind, if it is above the greatest live sum
abbrev pub has_level : ReplayState → Bool
has_level t = is_first t.course.street && nat_lt (greatest t) t.header.big

-- the units that a seat owes up to the stated big blind
abbrev pub due_to_level : ReplayState → ℕ → ℕ
due_to_level t p = t.header.big - live_at t p

-- a call of n units is allowed: they are the amount due, or the amount due up to the big blind, or the whole stack if
-- it is less than one of these
unfoldable pub call_fits : ReplayState → ℕ → ℕ → Bool
call_fits t p units =
    ((units == due t p) && nat_lt 0 (due t p))
    || (has_level t && (units == due_to_level t p))
    || ((units == (chips_at t p).stack) && (nat_lt units (due t p) || (has_level t && nat_lt units (due_to_level t p))))

-- a raise by some units to some units is allowed
unfoldable pub raise_fits : ReplayState → ℕ → ℕ → Bool
raise_fits t by to =
    nat_lt (greatest t) to
    && ((by == to - greatest t) || (has_level t && nat_lt t.header.big to && (by == to - t.header.big)))
