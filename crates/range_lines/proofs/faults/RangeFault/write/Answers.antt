use Rattle.range_lines.specs.Blocks.{fault_words}
use Rattle.range_lines.proofs.faults.RangeFault.write.Goals as goal

pub returns-in-UnknownWord : goal.returns-in-UnknownWord
unfolding fault_words
returns-in-UnknownWord c = rw c.in-UnknownWord.is c.text.ensures

pub returns-in-PlayerCount : goal.returns-in-PlayerCount
unfolding fault_words
returns-in-PlayerCount c = rw c.in-PlayerCount.is c.text-in-PlayerCount.ensures
