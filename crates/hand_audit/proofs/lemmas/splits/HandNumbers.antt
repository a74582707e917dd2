-- The numbers of full hands tell which is better, as their values do.
use Rattle.std.proofs.Common.{◌≡◌, ℕ, ◌<◌, List, refl, ap, ◌∙◌, sym, Bool, true, false, ◌&&◌, ◌==◌, arith}
use Rattle.std.specs.Prelude.{Option, Some, None, is_some, IfSome, length, slice_index_or}
use Rattle.std.specs.Option.{option_map}
use Rattle.card_sets.specs.Cards.{IsCardSet}
use Rattle.card_sets.specs.Disjoint.{apart}
use Rattle.card_sets.specs.Games.{own_size, board_size}
use Rattle.card_sets.specs.declared.games.Game.{Game}
use Rattle.card_sets.specs.declared.games.Side.{Side}
use Rattle.showdown_tally.specs.Laws.{IsFull, KeepOrder}
use Rattle.showdown_tally.specs.Numbers.{side_number}
use Rattle.showdown_tally.specs.Settling.{number_of}
use Rattle.showdown_tally.specs.Showdown.{best, is_beaten_by}
use Rattle.hand_audit.specs.Settle.{value_on, value_of_hand}
use Rattle.hand_audit.specs.Winning.{Ranks, is_beaten, beaten_on, number_on, is_full, full_with}

-- the law on full hands
abbrev pub KeepsOrder : Type 0
KeepsOrder = (side : Side) (game : Game) (own board value rival_own rival_board rival_value : List ℕ)
    → IsFull game own board → best side game own board ≡ Some value
    → IsFull game rival_own rival_board → best side game rival_own rival_board ≡ Some rival_value
    → KeepOrder side game value rival_value

by_value : (side : Side) (game : Game) (v w : Option (List ℕ)) → ((a b : List ℕ) → v ≡ Some a → w ≡ Some b → KeepOrder side game b a)
    → is_beaten (option_map (side_number side game) v) (option_map (side_number side game) w) ≡ is_beaten_by side v w
by_value side game None w keep = refl
by_value side game (Some a) None keep = refl
by_value side game (Some a) (Some b) keep = sym (keep a b refl refl)

some_of : (f : List ℕ → ℕ) (v : Option (List ℕ)) → is_some (option_map f v) ≡ is_some v
some_of f None = refl
some_of f (Some a) = refl

-- what a hand must be to be ranked
abbrev IsRanked : Game → List ℕ → Option (List ℕ) → Type 0
IsRanked game board own = IfSome own (λ cards. is_full game board cards ≡ true) × IfSome own (λ cards. IsCardSet cards)

split_full : (a b c : Bool) → (a && b && c) ≡ true → (a ≡ true) × (b ≡ true) × (c ≡ true)
split_full true true true e = (refl, refl, refl)
split_full true true false e = cc
split_full true false c e = cc
split_full false b c e = cc

pub full_of : (game : Game) (own board : List ℕ) → IsCardSet own → IsCardSet board → is_full game board own ≡ true → IsFull game own board
full_of game own board own_set board_set full =
    let parts = split_full (length own == own_size game) (length board == board_size game) (apart own board) full in
    record { own_cards = own_set; board_cards = board_set; own_size = (let h = parts.0 in grind arith); board_size = (let h = parts.1 in grind arith); apart = parts.2 }

both_ranked : KeepsOrder → (side : Side) (game : Game) (board : List ℕ) → IsCardSet board → (o q : Option (List ℕ)) → IsRanked game board o → IsRanked game board q
    → (a b : List ℕ) → value_of_hand side game board o ≡ Some a → value_of_hand side game board q ≡ Some b → KeepOrder side game b a
both_ranked law side game board set None q ro rq a b ea eb = cc
both_ranked law side game board set (Some own) None ro rq a b ea eb = cc
both_ranked law side game board set (Some own) (Some rival) ro rq a b ea eb =
    law side game rival board b own board a (full_of game rival board rq.1 set rq.0) eb (full_of game own board ro.1 set ro.0) ea

on_side : KeepsOrder → (side : Option Side) (game : Game) (board : List ℕ) → IsCardSet board → (o q : Option (List ℕ)) → IsRanked game board o → IsRanked game board q
    → is_beaten (option_map (number_on side game) (value_on side game board o)) (option_map (number_on side game) (value_on side game board q))
    ≡ beaten_on side (value_on side game board o) (value_on side game board q)
on_side law None game board set o q ro rq = refl
on_side law (Some side) game board set o q ro rq =
    by_value side game (value_of_hand side game board o) (value_of_hand side game board q) (both_ranked law side game board set o q ro rq)

pub ranked : KeepsOrder → (side : Option Side) (game : Game) (board : List ℕ) (hands : List (Option (List ℕ))) (values : List (Option ℕ)) → IsCardSet board
    → ((p : ℕ) → p < 11 → IfSome (slice_index_or hands p None) (λ own. is_full game board own ≡ true))
    → ((p : ℕ) → p < 11 → IfSome (slice_index_or hands p None) (λ own. IsCardSet own))
    → ((p : ℕ) → p < 11 → number_of values p ≡ option_map (number_on side game) (value_on side game board (slice_index_or hands p None)))
    → Ranks side values (λ p. value_on side game board (slice_index_or hands p None))
ranked law side game board hands values set full sets numbers = record {
  some = λ p l. ap is_some (numbers p l) ∙ some_of (number_on side game) (value_on side game board (slice_index_or hands p None));
  order = λ p q l m. rw (numbers p l, numbers q m)
      (on_side law side game board set (slice_index_or hands p None) (slice_index_or hands q None) (full p l, sets p l) (full q m, sets q m));
}

-- the same of values that are equal seat by seat
pub same_ranks : (side : Option Side) (values : List (Option ℕ)) (v w : ℕ → Option (List ℕ)) → ((p : ℕ) → p < 11 → v p ≡ w p) → Ranks side values v → Ranks side values w
same_ranks side values v w same r = record {
  some = λ p l. r.some p l ∙ ap is_some (same p l);
  order = λ p q l m. r.order p q l m ∙ ap (λ x. beaten_on side x (v q)) (same p l) ∙ ap (λ x. beaten_on side (w p) x) (same q m);
}

-- cards that can be shown down pass the test
pub full_from : (game : Game) (own board : List ℕ) → IsFull game own board → is_full game board own ≡ true
full_from game own board full =
    let o = full.own_size in
    let b = full.board_size in
    let own_full : (length own == own_size game) ≡ true = grind (arith, o) in
    let board_full : (length board == board_size game) ≡ true = grind (arith, b) in
    rw (own_full, board_full, full.apart) refl

pub same_full : (game : Game) (board : List ℕ) (x : Option (List ℕ)) → IfSome x (λ own. IsFull game own board) → full_with game board x ≡ x
same_full game board None full = refl
same_full game board (Some own) full = rw (full_from game own board full) refl
