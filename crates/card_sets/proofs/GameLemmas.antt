-- What holds of each of some games holds of a game that is one of them.
use Rattle.std.specs.Prelude.{◌≡◌, true}
use Rattle.std.proofs.Common.{sym}
use mathlib.Core.Bool.{true≢false}
use Rattle.card_sets.specs.Games.{has_board}
use Rattle.card_sets.specs.declared.games.Game.{Game}
use Rattle.card_sets.specs.declared.games.Game.TheVariants.{Holdem, Omaha, Omaha8, Stud, Stud8, Razz, Draw5, Lowball27, Triple27}

-- what holds of hold'em, Omaha and Omaha Hi/Lo holds of each game with a board
pub board_games : (P : Game → Type 0) → P Holdem → P Omaha → P Omaha8 → (game : Game) → has_board game ≡ true → P game
board_games P holdem omaha omaha8 Holdem is = holdem
board_games P holdem omaha omaha8 Omaha is = omaha
board_games P holdem omaha omaha8 Omaha8 is = omaha8
board_games P holdem omaha omaha8 Stud is = absurd (true≢false (sym is))
board_games P holdem omaha omaha8 Stud8 is = absurd (true≢false (sym is))
board_games P holdem omaha omaha8 Razz is = absurd (true≢false (sym is))
board_games P holdem omaha omaha8 Draw5 is = absurd (true≢false (sym is))
board_games P holdem omaha omaha8 Lowball27 is = absurd (true≢false (sym is))
board_games P holdem omaha omaha8 Triple27 is = absurd (true≢false (sym is))
