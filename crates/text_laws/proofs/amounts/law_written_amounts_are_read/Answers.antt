use Rattle.text_laws.proofs.WrittenAmounts.{chips_are_read, hundredths_are_read, whole_money_is_read}
use Rattle.text_laws.proofs.amounts.law_written_amounts_are_read.Goals as goal

pub returns : goal.returns
returns c = record { chips = chips_are_read; hundredths = hundredths_are_read; whole_money = whole_money_is_read }
