use Rattle.text_laws.proofs.LongestNames.{all_are_longest}
use Rattle.text_laws.proofs.histories.law_the_longest_name_counts.Goals as goal

pub returns : goal.returns
returns c = all_are_longest
