use Rattle.text_laws.proofs.WrittenRanges.{ranges_are_read, wrong_boards_are_refused, wrong_players_are_refused, short_decks_are_refused}
use Rattle.text_laws.proofs.ranges.law_written_ranges_are_read.Goals as goal

pub returns-clause-read : goal.returns-clause-read
returns-clause-read c = ranges_are_read

pub returns-clause-board : goal.returns-clause-board
returns-clause-board c = wrong_boards_are_refused

pub returns-clause-players : goal.returns-clause-players
returns-clause-players c = wrong_players_are_refused

pub returns-clause-deck : goal.returns-clause-deck
returns-clause-deck c = short_decks_are_refused
