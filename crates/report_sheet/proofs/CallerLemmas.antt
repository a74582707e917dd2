-- The lemmas on sheets that crates above may cite.
use Rattle.std.proofs.Common.{append_assoc}
-- Words after words, and no words.
pub use Rattle.report_sheet.proofs.SheetFacts.{no_words, then_words, words_more}
-- Words that end make a line, with a name or without.
pub use Rattle.report_sheet.proofs.SheetFacts.{line_ends, named_line, plain_line}
-- Lines after lines, none, and a first line after other bytes. After whole lines the next one has no word.
pub use Rattle.report_sheet.proofs.SheetFacts.{first_line, lines_more, no_lines, still_between, then_lines}
-- Of some that are left the first is written, and so is one more after those that were.
pub use Rattle.report_sheet.proofs.SheetFacts.{each_more, left_more}
-- The lines of each hand or pot where those of each are the same.
pub use Rattle.report_sheet.proofs.EveryHand.{every_same}

-- What joins words, and words and lines.
pub ruleset word_steps = (words_more, no_words)

pub ruleset sheet_steps = (words_more, no_words, plain_line, named_line, append_assoc)
