-- How high a card counts by which odd units are given.
use Rattle.std.specs.Prelude.{◌≡◌, ℕ, ◌+◌, ◌<◌}
use Rattle.card_sets.specs.Cards.{rank_of}
use Rattle.card_sets.specs.declared.games.Side.TheVariants.{High, Low}
use Rattle.hand_audit.specs.Marks.{height}

-- on the low side an ace counts below all other cards, which keep their order; on the high side each card counts as it is numbered
pub record HeightsAreUsual : Type 0 where
  pub ace_low : (card : ℕ) → card < 52 → rank_of card ≡ 12 → height Low card < 4
  pub others : (card : ℕ) → rank_of card < 12 → height Low card ≡ card + 4
  pub high : (card : ℕ) → height High card ≡ card
