-- What clauses see of the game and the stakes that the code finds in a header.
use Rattle.std.specs.Prelude.{ℕ, ◌+◌, ◌||◌, Option, option_map, Result}
use Rattle.card_sets.specs.declared.games.Game.{Game}
use Rattle.line_text.specs.declared.amounts.WrittenAmount.{WrittenAmount}
use Rattle.line_text.specs.Amounts.{Written}
use Rattle.line_text.specs.Capped.{capped, kept_units}
use Rattle.history_text.specs.declared.header.NamedGame.{NamedGame}
use Rattle.history_text.specs.Headers.{Named, Found, staked}
use Rattle.hand_events.specs.declared.events.Header.{Header}
use Rattle.hand_events.specs.declared.events.Limit.{Limit}
use Rattle.hand_events.specs.declared.events.TextFault.{TextFault}

abbrev pub seen_named : NamedGame → Named
seen_named game = record { game = game.game; limit = game.limit; rest = game.rest.now }

abbrev pub seen_found : ℕ × NamedGame → Found
seen_found found = record { place = found.0; named = seen_named found.1 }

-- what is found, with its place increased by n bytes
abbrev pub places_on : ℕ → Option Found → Option Found
places_on places found = option_map (λ f. record { place = places + f.place; named = f.named }) found

-- two stakes
abbrev pub capped_stakes : Written × Written → WrittenAmount × WrittenAmount
capped_stakes stakes = (capped stakes.0, capped stakes.1)

-- the header of two stakes as they are kept
abbrev pub kept_header : Game → Limit → WrittenAmount × WrittenAmount → Result Header TextFault
kept_header game limit stakes =
    let hundredths = stakes.0.marked || stakes.1.marked in
    staked game limit hundredths (kept_units hundredths stakes.0) (kept_units hundredths stakes.1)
