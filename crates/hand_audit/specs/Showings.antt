-- What a settlement looks at, after the events of a hand.
use Rattle.std.specs.Prelude.{ℕ, zero, suc, ◌+◌, if◌then◌else◌, Bool, true, false, List, [], ◌∷◌, unwrap_or, Option, Some, None}
use Rattle.card_sets.specs.PlayerSets.{has_player}
use Rattle.card_sets.specs.declared.games.Game.{Game}
use Rattle.hand_events.specs.declared.events.Header.{Header}
use Rattle.hand_events.specs.declared.events.Event.{Event}
use Rattle.hand_events.specs.declared.events.Event.TheVariants.{Total}
use Rattle.pot_layers.specs.declared.paid.Paid.{Paid}
use Rattle.betting_replay.specs.Accounts.{paid_by}
use Rattle.betting_replay.specs.Seats.{by_seat}
use Rattle.betting_replay.specs.TableAfter.{ReplayState, table_of, own_at, final_at, is_twice, second_board_at}
use Rattle.hand_audit.specs.declared.collections.Collection.{Collection}
use Rattle.hand_audit.specs.Collections.{collections}
use Rattle.hand_audit.specs.Settle.{Showing}

-- what each player among the seats from one on has put in, by rising seat
abbrev pub paid_from : ReplayState → ℕ → ℕ → List Paid
paid_from t p zero = []
paid_from t p (suc n) = if has_player t.players p then paid_by t p ∷ paid_from t (p + 1) n else paid_from t (p + 1) n

unfoldable pub paid_in : ReplayState → List Paid
paid_in t = paid_from t 1 10

-- the second board of a hand that was run twice: with no card where none of its markers stood
abbrev pub second_if : Bool → Option (List ℕ) → Option (List ℕ)
second_if false second = None
second_if true second = Some (unwrap_or second [])

abbrev pub second_at : ReplayState → Option (List ℕ)
second_at t = second_if (is_twice t) (second_board_at t)

-- what a settlement looks at of a table, with the game and the collections
unfoldable pub showing_at : Game → ReplayState → List Collection → Showing
showing_at game t all = record {
  game = game;
  paid = paid_in t;
  collections = all;
  button = t.button;
  hands = by_seat (final_at t);
  board = own_at t 0;
  second = second_at t;
}

unfoldable pub showing_of : Header → ℕ → List Event → Showing
showing_of header players h = showing_at header.game (table_of header players h) (collections h)

-- the stated rake, that of the last total line
abbrev pub rake_by : Event → ℕ → ℕ
rake_by (Total units rake) before = rake
rake_by e before = before

abbrev pub rake : List Event → ℕ
rake [] = 0
rake (e ∷ h) = rake_by e (rake h)
