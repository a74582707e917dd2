-- What the collected parts of a spot say of it.
use Rattle.std.proofs.Common.{◌≡◌, ℕ, ◌<◌, ◌≤◌, Bool, true, false, cond, ◌&&◌, List, [], ◌∷◌, ◌++◌, length, take, drop, refl, sym, ap, ◌∙◌, inl, inr, None, Err, Ok, ◌↔◌, IsNone, arith}
use Rattle.std.specs.Prelude.{Option, is_some, is_none, min, nat_lt, nat_le}
use Rattle.std.specs.List.{list_all}
use Rattle.std.proofs.lemmas.Bool.{cases_lt, leb-true}
use mathlib.Core.Bool.{true≢false}
use Rattle.card_sets.specs.Disjoint.{all_apart, all_empty}
use Rattle.card_sets.specs.Games.{all_fit}
use Rattle.card_sets.specs.declared.games.Game.{Game}
use Rattle.card_sets.specs.State.{State}
use Rattle.card_sets.proofs.CallerLemmas.{and_first, and_second}
use Rattle.spot_text.specs.declared.faults.SpotFault.TheVariants.{BadCard, HandSize, BoardSize, PlayerCount, DeckShort}
use Rattle.spot_text.specs.declared.walk.Collected.{Collected}
use Rattle.spot_text.specs.Parts.{hand_words, board_words, dead_words, all_cards, in_form, cards_of, set_of}
use Rattle.spot_text.specs.Games.{hand_fits, board_fits}
use Rattle.spot_text.specs.Spot.{all_differ, hands_fit, players_fit, players_within, repeated_after, state_of_words, is_short, unless_short, spot_of_sizes, unless_repeated, spot_behind}
use Rattle.spot_text.specs.Collected.{IsCollected, sets_fit}
use Rattle.spot_text.proofs.SetSizes.{length-set_whole, cards_named}
use Rattle.spot_text.proofs.RepeatedCard.{none_repeated}
use Rattle.spot_text.proofs.KnownCards.{hands_cards, cards_split, differ_append, known_state, known_apart, known_unused, known_fit}

-- a set has as many cards as the part has words
part_size : (part : List (List ℕ)) → all_cards part ≡ true → all_differ (cards_of part) ≡ true → length (set_of (cards_of part)) ≡ length part
part_size part form differ = let n = cards_named part form in length-set_whole (cards_of part) differ n.1 ∙ n.0

all_sizes : (game : Game) (hands : List (List (List ℕ))) → list_all all_cards hands ≡ true → all_differ (hands_cards hands) ≡ true → sets_fit game hands ≡ hands_fit game hands
all_sizes game [] form differ = refl
all_sizes game (hand ∷ hands) form differ =
    let d = differ_append (cards_of hand) (hands_cards hands) differ in
    let size = part_size hand (and_first (all_cards hand) (list_all all_cards hands) form) d.0 in
    ap (λ n. hand_fits game n && sets_fit game hands) size
    ∙ ap (λ b. hand_fits game (length hand) && b) (all_sizes game hands (and_second (all_cards hand) (list_all all_cards hands) form) d.1)

-- where no card stands twice, the sizes of the sets are those of the parts
record AllDiffer (others : List (List ℕ)) : Type 0 where
  in_hands : all_differ (hands_cards (hand_words others)) ≡ true
  on_board : all_differ (cards_of (board_words others)) ≡ true

parts_differ : (others : List (List ℕ)) → repeated_after [] (cards_of others) ≡ None → AllDiffer others
parts_differ others once =
    let hands = hands_cards (hand_words others) in
    let board = cards_of (board_words others) in
    let dead = cards_of (dead_words others) in
    let all : all_differ (hands ++ (board ++ dead)) ≡ true =
    ap all_differ (sym (cards_split others)) ∙ sym (none_repeated (cards_of others)) ∙ ap is_none once in
    let d = differ_append hands (board ++ dead) all in
    record { in_hands = d.0; on_board = (differ_append board dead d.1).0 }

own_sizes : (game : Game) (others : List (List ℕ)) (parts : Collected) → IsCollected game others parts → parts.twice ≡ None → parts.hands.fit ≡ hands_fit game (hand_words others)
own_sizes game others parts h once =
    let hands = hand_words others in
    let formed = and_first (list_all all_cards hands) (all_cards (board_words others) && all_cards (dead_words others)) h.form in
    h.hands.fit ∙ all_sizes game hands formed (parts_differ others (sym h.twice ∙ once)).in_hands

pub table_size : (game : Game) (others : List (List ℕ)) (parts : Collected) → IsCollected game others parts → parts.twice ≡ None →
    board_fits game (length parts.board) ≡ board_fits game (length (board_words others))
table_size game others parts h once =
    let formed = and_second (list_all all_cards (hand_words others)) (all_cards (board_words others) && all_cards (dead_words others)) h.form in
    let size = part_size (board_words others) (and_first (all_cards (board_words others)) (all_cards (dead_words others)) formed)
    (parts_differ others (sym h.twice ∙ once)).on_board in
    ap (λ b. board_fits game (length b)) h.board ∙ ap (board_fits game) size

-- the faults in their order
in_order : (game : Game) (others : List (List ℕ)) → in_form others ≡ true → spot_behind game others ≡ unless_repeated (repeated_after [] (cards_of others)) game others
in_order game others h = ap (λ b. cond b (unless_repeated (repeated_after [] (cards_of others)) game others) (Err BadCard)) h

once_each : (game : Game) (others : List (List ℕ)) → in_form others ≡ true → repeated_after [] (cards_of others) ≡ None →
    spot_behind game others ≡ spot_of_sizes game others
once_each game others form once = in_order game others form ∙ ap (λ o. unless_repeated o game others) once

hand_wrong : (game : Game) (others : List (List ℕ)) → hands_fit game (hand_words others) ≡ false → spot_of_sizes game others ≡ Err HandSize
hand_wrong game others own = rw own refl

board_wrong : (game : Game) (others : List (List ℕ)) → hands_fit game (hand_words others) ≡ true → board_fits game (length (board_words others)) ≡ false →
    spot_of_sizes game others ≡ Err BoardSize
board_wrong game others own table = rw (own, table) refl

players_wrong : (game : Game) (others : List (List ℕ)) → hands_fit game (hand_words others) ≡ true → board_fits game (length (board_words others)) ≡ true →
    players_fit (length (hand_words others)) ≡ false → spot_of_sizes game others ≡ Err PlayerCount
players_wrong game others own table players = rw (own, table, players) refl

sizes_right : (game : Game) (others : List (List ℕ)) → hands_fit game (hand_words others) ≡ true → board_fits game (length (board_words others)) ≡ true →
    players_fit (length (hand_words others)) ≡ true → spot_of_sizes game others ≡ unless_short (state_of_words game others)
sizes_right game others own table players = rw (own, table, players) refl

-- a number that is counted up to more than the most is within the bounds exactly where the number is
and_false : (b : Bool) → (b && false) ≡ false
and_false true = refl
and_false false = refl

pub within_least : (most cap n : ℕ) → most < cap → players_within most (min cap n) ≡ players_within most n
within_least most cap n l = elim (cases_lt n cap) [
  | inl less ↦ let same : min cap n ≡ n = omega (arith, less) in ap (players_within most) same
  | inr more ↦
      let a : nat_le (min cap n) most ≡ false = (let above : most < min cap n = omega (arith, l, more) in grind arith) in
      let b : nat_le n most ≡ false = (let above : most < n = omega (arith, l, more) in grind arith) in
      ap (λ x. nat_le 2 (min cap n) && x) a ∙ and_false (nat_le 2 (min cap n)) ∙ sym (ap (λ x. nat_le 2 n && x) b ∙ and_false (nat_le 2 n))
]

pub within_two : (most n : ℕ) → players_within most n ≡ true → 2 ≤ n
within_two most n h = leb-true 2 n (and_first (nat_le 2 n) (nat_le n most) h)

pub within_most : (most n : ℕ) → players_within most n ≡ true → n ≤ most
within_most most n h = leb-true n most (and_second (nat_le 2 n) (nat_le n most) h)

-- where there are at most ten hands, their number is known
pub few_hands : (count n : ℕ) → count ≡ min 11 n → players_within 10 count ≡ true → count ≡ n
few_hands count n is fit = let few = within_most 10 count fit in omega (arith, is, few)

-- the state of the collected parts
abbrev pub parts_state : Game → Collected → State
parts_state game parts = record { game = game; hands = take parts.hands.count parts.hands.sets; board = parts.board; dead = parts.dead }

-- the first fault of collected parts, or their state
pub record SizesFit (game : Game) (others : List (List ℕ)) (parts : Collected) : Type 0 where
  pub collected : IsCollected game others parts
  pub once : parts.twice ≡ None

abbrev table_fits : Game → Collected → Bool
table_fits game parts = board_fits game (length parts.board)

pub table_is : (game : Game) (parts : Collected) (count : ℕ) (tested fit : Bool) → count ≡ length parts.board → tested ≡ board_fits game count → tested ≡ fit →
    table_fits game parts ≡ fit
table_is game parts count tested fit is test done = ap (board_fits game) (sym is) ∙ sym test ∙ done

by_sizes : (game : Game) (others : List (List ℕ)) (parts : Collected) → SizesFit game others parts → spot_behind game others ≡ spot_of_sizes game others
by_sizes game others parts h = once_each game others h.collected.form (sym h.collected.twice ∙ h.once)

own_is : (game : Game) (others : List (List ℕ)) (parts : Collected) (fit : Bool) → SizesFit game others parts → parts.hands.fit ≡ fit → hands_fit game (hand_words others) ≡ fit
own_is game others parts fit h own = sym (own_sizes game others parts h.collected h.once) ∙ own

board_is : (game : Game) (others : List (List ℕ)) (parts : Collected) (fit : Bool) → SizesFit game others parts → table_fits game parts ≡ fit → board_fits game (length (board_words others)) ≡ fit
board_is game others parts fit h table = sym (table_size game others parts h.collected h.once) ∙ table

players_are : (game : Game) (others : List (List ℕ)) (parts : Collected) (fit : Bool) → SizesFit game others parts → players_within 10 parts.hands.count ≡ fit → players_fit (length (hand_words others)) ≡ fit
players_are game others parts fit h players = sym (within_least 10 11 (length (hand_words others)) (omega arith)) ∙ ap (players_within 10) (sym h.collected.hands.count) ∙ players

pub own_fault : (game : Game) (others : List (List ℕ)) (parts : Collected) → SizesFit game others parts → parts.hands.fit ≡ false → spot_behind game others ≡ Err HandSize
own_fault game others parts h own = by_sizes game others parts h ∙ hand_wrong game others (own_is game others parts false h own)

pub table_fault : (game : Game) (others : List (List ℕ)) (parts : Collected) → SizesFit game others parts → parts.hands.fit ≡ true → table_fits game parts ≡ false →
    spot_behind game others ≡ Err BoardSize
table_fault game others parts h own table =
    by_sizes game others parts h ∙ board_wrong game others (own_is game others parts true h own) (board_is game others parts false h table)

pub count_fault : (game : Game) (others : List (List ℕ)) (parts : Collected) → SizesFit game others parts → parts.hands.fit ≡ true → table_fits game parts ≡ true →
    players_within 10 parts.hands.count ≡ false → spot_behind game others ≡ Err PlayerCount
count_fault game others parts h own table players =
    by_sizes game others parts h
    ∙ players_wrong game others (own_is game others parts true h own) (board_is game others parts true h table) (players_are game others parts false h players)

pub no_fault : (game : Game) (others : List (List ℕ)) (parts : Collected) → SizesFit game others parts → parts.hands.fit ≡ true → table_fits game parts ≡ true →
    players_within 10 parts.hands.count ≡ true → spot_behind game others ≡ unless_short (parts_state game parts)
no_fault game others parts h own table players =
    let read = h.collected.hands in
    by_sizes game others parts h
    ∙ sizes_right game others (own_is game others parts true h own) (board_is game others parts true h table) (players_are game others parts true h players)
    ∙ ap unless_short (sym (known_state game parts.hands.count parts.board parts.dead parts.hands.sets others (few_hands parts.hands.count (length (hand_words others)) read.count players)
    (within_most 10 parts.hands.count players) h.collected.board h.collected.dead read.sets))

-- what the known cards of collected parts keep
pub record Keeps (game : Game) (parts : Collected) : Type 0 where
  pub few : parts.hands.count ≤ 10
  pub disjoint : all_apart (parts.board ∷ parts.dead ∷ parts.hands.sets) ≡ true
  pub unused : all_empty (drop parts.hands.count parts.hands.sets) ≡ true
  pub fitting : all_fit game parts.board parts.hands.sets ≡ true

pub keeps : (game : Game) (others : List (List ℕ)) (parts : Collected) → SizesFit game others parts → parts.hands.fit ≡ true → table_fits game parts ≡ true →
    players_within 10 parts.hands.count ≡ true → Keeps game parts
keeps game others parts h own table players =
    let read = h.collected.hands in
    let few = within_most 10 parts.hands.count players in
    record {
      few = few;
      disjoint = known_apart _ _ _ _ h.collected.board h.collected.dead read.sets (sym h.collected.twice ∙ h.once);
      unused = known_unused _ _ _ read.sets (few_hands parts.hands.count (length (hand_words others)) read.count players) few;
      fitting = known_fit game _ _ _ h.collected.board read.sets (own_is game others parts true h own) (board_is game others parts true h table);
    }

pub deck_short : (state : State) → is_short state ≡ true → unless_short state ≡ Err DeckShort
deck_short state short = rw short refl

pub deck_lasts : (state : State) → is_short state ≡ false → unless_short state ≡ Ok state
deck_lasts state enough = rw enough refl

-- a shape that there is not, and one that there is
pub none_short : {X : Type 0} (o : Option X) (a b : ℕ) → (IsNone o ↔ (a < b)) → is_some o ≡ false → nat_lt a b ≡ true
none_short o a b h e = let less : a < b = h.0 e in grind arith

pub some_lasts : {X : Type 0} (o : Option X) (a b : ℕ) → (IsNone o ↔ (a < b)) → is_some o ≡ true → nat_lt a b ≡ false
some_lasts o a b h e = elim (cases_lt a b) [
  | inl less ↦ absurd (true≢false (sym e ∙ h.1 less))
  | inr more ↦ grind arith
]
