-- Who wins the high of a game with a board: the hands with the greatest number, by ranks alone or as flushes.
use Rattle.std.proofs.Common.{◌≡◌, ℕ, ◌<◌, ◌==◌, List, [], ◌∷◌, refl, map, ap, ◌∙◌, true, false, cond, max, arith, inl, inr, Some, nat_lt}
use Rattle.std.specs.Prelude.{filter, is_some}
use Rattle.std.proofs.lemmas.Bool.{cases_eq}
use Rattle.card_sets.specs.State.{State}
use Rattle.card_sets.specs.declared.games.Game.{Game}
use Rattle.card_sets.specs.Games.{allowed, has_board}
use Rattle.card_sets.specs.declared.games.Side.{Side}
use Rattle.card_sets.specs.declared.games.Side.TheVariants.{High}
use Rattle.card_sets.proofs.CallerLemmas.{board_games}
use Rattle.rank_high.specs.High.{greatest_of, high}
use Rattle.showdown_tally.specs.Laws.{IsFull, KeepOrder}
use Rattle.card_sets.specs.PlayerSets.{AreBelow, set_of_players}
use Rattle.showdown_tally.specs.Showdown.{Showdown, best, is_beaten_by, own_after, board_after, value_after, eligible_in}
use Rattle.showdown_tally.specs.Sides.{side_outcome}
use Rattle.runout_walk.specs.Bests.{best_value, best_set}
use Rattle.runout_walk.proofs.CallerLemmas.{ordered_outcome}
use Rattle.board_ranks.specs.HighParts.{high_number}
use Rattle.board_runouts.specs.Highs.{high_of}

-- a test of the greater of two numbers
max_is : (a b t : ℕ) → b < t → (max a b == t) ≡ (a == t)
max_is a b t l = elim (cases_eq a t) [
  | inl e ↦
      let m : max a b ≡ t = omega arith in
      let x : (max a b == t) ≡ true = grind arith in
      let y : (a == t) ≡ true = grind arith in
      rw (x, y) refl
  | inr ne ↦
      let m : max a b ≡ t → ⊥ = λ e. ne (omega arith) in
      let x : (max a b == t) ≡ false = grind arith in
      let y : (a == t) ≡ false = grind arith in
      rw (x, y) refl
]

-- what keeps the order of values
abbrev pub Keeps : Type 0
Keeps = (side : Side) (game : Game) (own board value rival_own rival_board rival_value : List ℕ) → IsFull game own board → best side game own board ≡ Some value → IsFull game rival_own rival_board → best side game rival_own rival_board ≡ Some rival_value → KeepOrder side game value rival_value

abbrev best_five : Game → List ℕ → List ℕ → List ℕ
best_five game own board = greatest_of (map high (allowed game own board))

best_is : (game : Game) (own board : List ℕ) → has_board game ≡ true → best High game own board ≡ Some (best_five game own board)
best_is game own board = board_games (λ g. best High g own board ≡ Some (best_five g own board)) refl refl refl game

beaten : (st : State) (runout : List (List ℕ)) (n i j : ℕ) → Keeps → has_board st.game ≡ true → ((h : ℕ) → h < n → IsFull st.game (own_after st runout h) (board_after st runout)) → i < n → j < n
    → is_beaten_by High (value_after High st runout i) (value_after High st runout j) ≡ nat_lt (high_of st runout i) (high_of st runout j)
unfolding high_number
beaten st runout n i j keeps game full l m =
    let a = best_is st.game (own_after st runout i) (board_after st runout) game in
    let b = best_is st.game (own_after st runout j) (board_after st runout) game in
    ap (λ o. is_beaten_by High o (value_after High st runout j)) a ∙ ap (λ o. is_beaten_by High (Some (best_five st.game (own_after st runout i) (board_after st runout))) o) b
    ∙ keeps High st.game (own_after st runout j) (board_after st runout) (best_five st.game (own_after st runout j) (board_after st runout)) (own_after st runout i) (board_after st runout) (best_five st.game (own_after st runout i) (board_after st runout)) (full j m) b (full i l) a

-- the winners of the high are the hands with the greatest number
pub outcome_best : (deal : Showdown) (pot n : ℕ) (runout : List (List ℕ)) → Keeps → has_board deal.state.game ≡ true → ((h : ℕ) → h < n → IsFull deal.state.game (own_after deal.state runout h) (board_after deal.state runout)) → AreBelow n (eligible_in deal pot)
    → side_outcome High deal pot runout ≡ best_set (high_of deal.state runout) (eligible_in deal pot)
outcome_best deal pot n runout keeps game full below =
    let st : State = deal.state in
    ordered_outcome High deal pot n runout (high_of st runout) (record {
      some = λ h l. ap is_some (best_is st.game (own_after st runout h) (board_after st runout) game);
      order = λ i j l m. beaten st runout n i j keeps game full l m;
    }) below

-- the greater of two numbers of each hand
max_value : (v p f : ℕ → ℕ) (n : ℕ) (hands : List ℕ) → AreBelow n hands → ((h : ℕ) → h < n → v h ≡ max (p h) (f h)) → best_value v hands ≡ max (best_value p hands) (best_value f hands)
max_value v p f n [] below e = refl
max_value v p f n (h ∷ hands) below e =
    let ih : best_value v hands ≡ max (best_value p hands) (best_value f hands) = max_value v p f n hands below.1 e in
    let here : v h ≡ max (p h) (f h) = e h below.0 in
    omega (arith, ih, here)

max_filter : (v p f : ℕ → ℕ) (n t : ℕ) (hands : List ℕ) → AreBelow n hands → ((h : ℕ) → h < n → v h ≡ max (p h) (f h)) → best_value f hands < t → filter (λ h. v h == t) hands ≡ filter (λ h. p h == t) hands
max_filter v p f n t [] below e l = refl
max_filter v p f n t (h ∷ hands) below e l =
    let less : f h < t = omega arith in
    let rest : best_value f hands < t = omega arith in
    ap (λ b. cond b (h ∷ filter (λ h. v h == t) hands) (filter (λ h. v h == t) hands)) (ap (λ m. m == t) (e h below.0) ∙ max_is (p h) (f h) t less)
    ∙ ap (λ l. cond (p h == t) (h ∷ l) l) (max_filter v p f n t hands below.1 e rest)

-- where the one has the greatest of all, its best are the best of both
pub first_wins : (v p f : ℕ → ℕ) (n : ℕ) (hands : List ℕ) → AreBelow n hands → ((h : ℕ) → h < n → v h ≡ max (p h) (f h)) → best_value f hands < best_value p hands → best_set v hands ≡ best_set p hands
first_wins v p f n hands below e l =
    let top : best_value v hands ≡ best_value p hands = max_value v p f n hands below e ∙ omega arith in
    ap (λ t. set_of_players (filter (λ h. v h == t) hands)) top ∙ ap set_of_players (max_filter v p f n (best_value p hands) hands below e l)

pub second_wins : (v p f : ℕ → ℕ) (n : ℕ) (hands : List ℕ) → AreBelow n hands → ((h : ℕ) → h < n → v h ≡ max (p h) (f h)) → best_value p hands < best_value f hands → best_set v hands ≡ best_set f hands
second_wins v p f n hands below e l = first_wins v f p n hands below (λ h k. e h k ∙ omega arith) l
