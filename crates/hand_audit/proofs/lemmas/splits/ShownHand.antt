-- What a settlement looks at, after the lines so far.
use Rattle.std.proofs.Common.{◌≡◌, List, refl}
use Rattle.card_sets.specs.declared.games.Game.{Game}
use Rattle.pot_layers.specs.Pots.{pots}
use Rattle.betting_replay.specs.TableAfter.{ReplayState}
use Rattle.hand_audit.specs.declared.collections.Collection.{Collection}
use Rattle.hand_audit.specs.Showings.{showing_at, paid_in}

pub collections_shown : (game : Game) (t : ReplayState) (all : List Collection) → (showing_at game t all).collections ≡ all
unfolding showing_at
collections_shown game t all = refl

pub pots_shown : (game : Game) (t : ReplayState) (all : List Collection) → pots (showing_at game t all).paid ≡ pots (paid_in t)
unfolding showing_at
pots_shown game t all = refl
