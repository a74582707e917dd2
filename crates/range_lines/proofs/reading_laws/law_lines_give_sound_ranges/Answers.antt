use Rattle.range_lines.proofs.SoundLines.{line_sound}
use Rattle.range_lines.proofs.reading_laws.law_lines_give_sound_ranges.Goals as goal

pub returns : goal.returns
returns c = line_sound
