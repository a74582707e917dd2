-- A player of a game with one draw still holds in the end what he kept.
use Rattle.std.specs.Prelude.{◌≡◌, ◌≤◌, ℕ, false, List, length, Some, None}
use Rattle.card_sets.specs.Cards.{minus}
use Rattle.card_sets.specs.Games.{family_of}
use Rattle.card_sets.specs.declared.games.Family.TheVariants as family
use Rattle.hand_events.specs.declared.events.Header.{Header}
use Rattle.hand_events.specs.declared.events.Event.{Event}
use Rattle.card_sets.specs.declared.streets.Street.TheVariants.{First}
use Rattle.betting_replay.specs.Accepted.{IsAccepted}
use Rattle.betting_replay.specs.CardLaws.{Among}
use Rattle.betting_replay.specs.Hands.{shown}
use Rattle.betting_replay.specs.Known.{holding_of, final_cards, cards_at, draws_openly}
use Rattle.betting_replay.specs.Places.{owned, thrown}

-- what a player of a game with one draw kept is a part of his final cards where one of three holds: he showed no whole hand after his last
-- discard; of the cards that belong to him five at the most weren't thrown away; or what he kept isn't told by five dealt cards and
-- the discards, since he stands pat or discards five
pub record StillHolds (header : Header) (h : List Event) (p : ℕ) (kept final : List ℕ) : Type 0 where
  pub not_shown : shown header h p ≡ None → Among kept final
  pub five_left : length (minus (owned header.game h p) (thrown h)) ≤ 5 → Among kept final
  pub not_openly : draws_openly (holding_of header h p) ≡ false → Among kept final

abbrev pub HoldsKept : Type 0
HoldsKept = (header : Header) (players : ℕ) (h : List Event) → IsAccepted header players h
    → family_of header.game ≡ family.Draw
    → (p : ℕ) (kept final : List ℕ) → cards_at header h p First ≡ Some kept
    → final_cards header h p ≡ Some final
    → StillHolds header h p kept final
