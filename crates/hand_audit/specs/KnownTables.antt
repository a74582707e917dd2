-- The table of an all-in: the known cards, and which hands may win which pot.
use Rattle.std.specs.Prelude.{◌≡◌, ◌≤◌, ℕ, ◌-◌, ◌&&◌, Bool, true, false, IsTrue, nat_le, List, ◌∷◌, ◌++◌, drop, length, refl, replicate, slice_index_or, Option, Some, None}
use Rattle.std.proofs.Common.{arith}
use Rattle.card_sets.specs.PlayerSets.{all_within, has_player, players_where}
use Rattle.card_sets.specs.Disjoint.{all_apart, all_empty}
use Rattle.card_sets.specs.Games.{all_fit}
use Rattle.card_sets.specs.declared.games.Game.{Game}
use Rattle.showdown_tally.specs.declared.table.Table.{Table}

-- ten places: those of a list, and the same in each place after them
unfoldable pub ten : {A : Type 0} → A → List A → List A
ten none xs = xs ++ replicate (10 - length xs) none

-- which of some seats are in a set: bit i for the i-th of them
unfoldable pub places_in : List ℕ → ℕ → ℕ
places_in seats set = players_where (λ i. has_player set (slice_index_or seats i 0)) (length seats)

-- what a table has
pub record Bare : Type 0 where
  pub game : Game
  pub count : ℕ
  pub hands : List (List ℕ)
  pub board : List ℕ
  pub dead : List ℕ
  pub pots : ℕ
  pub eligible : List ℕ

-- what holds of every table: there are at most ten hands and ten pots, no card is in two places, after the hands there are no
-- cards, no set is larger than its place in the game allows, and no hand is eligible that there isn't
pub record Holds (b : Bare) : Type 0 where
  pub few : b.count ≤ 10
  pub disjoint : IsTrue (all_apart (b.board ∷ b.dead ∷ b.hands))
  pub unused : IsTrue (all_empty (drop b.count b.hands))
  pub fitting : IsTrue (all_fit b.game b.board b.hands)
  pub few_pots : b.pots ≤ 10
  pub in_hands : IsTrue (all_within b.count b.eligible)

abbrev pub holds : Bare → Bool
holds b = nat_le b.count 10 && all_apart (b.board ∷ b.dead ∷ b.hands) && all_empty (drop b.count b.hands) && all_fit b.game b.board b.hands && nat_le b.pots 10 && all_within b.count b.eligible

pub all_hold : (b : Bare) → holds b ≡ true → Holds b
all_hold b e = by (nat_le b.count 10) (all_apart (b.board ∷ b.dead ∷ b.hands)) (all_empty (drop b.count b.hands)) (all_fit b.game b.board b.hands) (nat_le b.pots 10) (all_within b.count b.eligible) refl refl refl refl refl refl e
  where
    by : (few disjoint unused fitting few_pots in_hands : Bool)
        → nat_le b.count 10 ≡ few → all_apart (b.board ∷ b.dead ∷ b.hands) ≡ disjoint → all_empty (drop b.count b.hands) ≡ unused
        → all_fit b.game b.board b.hands ≡ fitting → nat_le b.pots 10 ≡ few_pots → all_within b.count b.eligible ≡ in_hands
        → (few && disjoint && unused && fitting && few_pots && in_hands) ≡ true → Holds b
    by true true true true true true f d u g n w e = record { few = grind (arith, f); disjoint = d; unused = u; fitting = g; few_pots = grind (arith, n); in_hands = w }
    by true true true true true false f d u g n w e = cc
    by true true true true false in_hands f d u g n w e = cc
    by true true true false few_pots in_hands f d u g n w e = cc
    by true true false fitting few_pots in_hands f d u g n w e = cc
    by true false unused fitting few_pots in_hands f d u g n w e = cc
    by false disjoint unused fitting few_pots in_hands f d u g n w e = cc

-- what holds of it makes it a table
unfoldable pub with_facts : (b : Bare) → Holds b → Table
with_facts b h = record {
  known = record { game = b.game; count = b.count; hands = b.hands; board = b.board; dead = b.dead; few = h.few; disjoint = h.disjoint; unused = h.unused; fitting = h.fitting };
  pots = b.pots;
  eligible = b.eligible;
  few_pots = h.few_pots;
  in_hands = h.in_hands;
}

abbrev pub table_if : (b : Bare) (known : Bool) → holds b ≡ known → Option Table
table_if b true is = Some (with_facts b (all_hold b is))
table_if b false is = None

-- the table, where there can be one
unfoldable pub table_from : Bare → Option Table
table_from b = table_if b (holds b) refl
