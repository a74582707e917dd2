use Rattle.betting_replay.proofs.CallerLemmas.{second_runs}
use Rattle.hand_laws.proofs.lemmas.cards.TwoBoards.{run_twice}
use Rattle.hand_laws.proofs.cards.law_two_boards.Goals as goal

pub returns : goal.returns
returns c = record { twice = run_twice; second = second_runs }
