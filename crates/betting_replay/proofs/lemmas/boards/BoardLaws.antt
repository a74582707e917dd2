-- After accepted events whose markers have their cards, each board has the cards of its streets.
use Rattle.std.proofs.Common.{◌≡◌, ℕ, ◌+◌, ◌≤◌, List, [], ◌∷◌, refl, sym, ap, ◌∙◌, Bool, true, false, arith, length}
use Rattle.std.specs.Prelude.{Option, Some, None, is_some, if◌then◌else◌}
use mathlib.Core.Bool.{true≢false}
use Rattle.card_sets.specs.Cards.{union}
use Rattle.card_sets.specs.declared.games.Game.{Game}
use Rattle.card_sets.specs.Games.{family_of, has_board, board_size}
use Rattle.hand_events.specs.declared.events.Header.{Header}
use Rattle.hand_events.specs.declared.events.Event.{Event}
use Rattle.hand_events.specs.declared.events.Event.TheVariants.{Street}
use Rattle.card_sets.specs.declared.streets.Street.{Street as StreetName}
use Rattle.card_sets.specs.declared.streets.Street.TheVariants.{First, Flop, Turn}
use Rattle.betting_replay.specs.Accepted.{IsAccepted}
use Rattle.betting_replay.specs.Boards.{board_up_to, shared, second_own, second_by, second_board}
use Rattle.betting_replay.specs.CardLaws.{MarkersFit, sum_up_to, board_then, HasBoard}
use Rattle.card_sets.specs.Streets.{is_street, streets_of, cards_of_street, board_count}
use Rattle.betting_replay.specs.Sums.{is_last_of, second_street, second_begun}
use Rattle.card_sets.proofs.CallerLemmas.{no_more}
use Rattle.betting_replay.proofs.lemmas.streets.GameFamilies.{no_board}
use Rattle.betting_replay.proofs.lemmas.boards.BoardSizes.{Sizes, quiet_sizes, bare_sizes, nothing_owned}
use Rattle.betting_replay.proofs.lemmas.boards.BegunStreets.{Phase, at_last, few_cards, come_size, board_is, then_is, last_is, ends_board, size_on, size_last, size_few}
use Rattle.betting_replay.proofs.lemmas.boards.TwoBoards.{second_runs, twice_board}
use Rattle.betting_replay.proofs.lemmas.boards.BoardProgress.{Reached, reached}

-- the second board, where it has come to a street
pub second_is : (o : Option StreetName) (both own second : List ℕ) → second_by o both own ≡ Some second → (s : StreetName) × (o ≡ Some s) × (union both own ≡ second)
second_is None both own second is = cc
second_is (Some s) both own second is = (s, refl, (let same : union both own ≡ second = cc in same))

second_size : (g : Header) (players : ℕ) (h : List Event) (n : Phase) (second : List ℕ) → Reached g players h n → second_board h ≡ Some second → (s : StreetName) × (second_street h ≡ Some s) × (length second ≡ size_on s)
second_size g players h n second x is = (let w = second_is (second_street h) (shared h) (second_own h) second is in (w.0, w.1, ap length (sym w.2) ∙ x.twice.size w.0 w.1))

second_small : (g : Header) (players : ℕ) (h : List Event) (n : Phase) (second : List ℕ) → Reached g players h n → second_board h ≡ Some second → length second ≤ 5
second_small g players h n second x is = (let w = second_size g players h n second x is in let l : size_on w.0 ≤ 5 = size_few w.0 in let e : length second ≡ size_on w.0 = w.2 in omega (arith, l, e))

second_whole : (g : Header) (players : ℕ) (h : List Event) (n : Phase) (second : List ℕ) → has_board g.game ≡ true → Reached g players h n → second_begun g h ≡ true → second_board h ≡ Some second → length second ≡ 5
second_whole g players h n second b x over is =
    let w = second_size g players h n second x is in
    let last : ends_board w.0 ≡ true = sym (last_is g.game w.0 b) ∙ ap (is_last_of g.game) (sym w.1) ∙ over in
    w.2 ∙ size_last w.0 last

pub on_board : (g : Header) (players : ℕ) (h : List Event) → IsAccepted g players h → MarkersFit g.game h → has_board g.game ≡ true → HasBoard g players h
on_board g players h ok fit b =
    let x = reached g players h ok fit b in
    let size : board_size g.game ≡ 5 = board_is g.game b in
    record {
      last = λ over. x.1.sizes.own ∙ at_last x.0 (sym x.1.begun ∙ over) ∙ sym size;
      few = λ s. (let l : length (board_up_to h s) ≤ 5 = few_cards g.game h x.0 s x.1.sizes in omega (arith, l, size));
      second_last = λ over second is. second_whole g players h x.0 second b x.1 over is ∙ sym size;
      second_few = λ second is. (let l : length second ≤ 5 = second_small g players h x.0 second x.1 is in omega (arith, l, size));
      at_point = λ found is. come_size g.game h x.0 found.street x.1.sizes (x.1.pointed found is) ∙ sym (then_is g.game found.street b);
    }

-- in the other games no card comes to a board
no_size : (game : Game) (s : StreetName) → has_board game ≡ false → board_count game s ≡ 0
no_size game s b = ap (λ board. if board then cards_of_street s else 0) b

none_up_to : (many : StreetName → ℕ) → ((t : StreetName) → many t ≡ 0) → (s : StreetName) (ls : List StreetName) → sum_up_to many s ls ≡ 0
none_up_to many none s [] = refl
none_up_to many none s (t ∷ ls) = by (is_street s t) (none_up_to many none s ls)
  where
    by : (b : Bool) → sum_up_to many s ls ≡ 0 → many t + (if b then 0 else sum_up_to many s ls) ≡ 0
    by true rest = omega (arith, none t)
    by false rest = omega (arith, none t, rest)

none_then : (game : Game) (s : StreetName) → has_board game ≡ false → board_then game s ≡ 0
none_then game s b = none_up_to (board_count game) (λ t. no_size game t b) s (streets_of game)

bare_board : (g : Header) (players : ℕ) (h : List Event) → IsAccepted g players h → MarkersFit g.game h → has_board g.game ≡ false → Sizes g.game h 0 0 0
bare_board g players [] ok fit b = record { one = refl; two = ap length no_more; all = rw no_more (ap length no_more); own = ap length (nothing_owned g.game) }
bare_board g players (Street s number cards ∷ h) ok fit b = bare_sizes g players s number cards h 0 0 0 ok (fit.0.many ∙ no_size g.game s b) (bare_board g players h ok.2 fit.1 b)
bare_board g players (e ∷ h) ok fit b = quiet_sizes g players e h 0 0 0 ok refl (bare_board g players h ok.2 fit.1 b)

bare_few : (game : Game) (h : List Event) (s : StreetName) → Sizes game h 0 0 0 → length (board_up_to h s) ≡ 0
bare_few game h First x = refl
bare_few game h Flop x = x.one
bare_few game h Turn x = x.two
bare_few game h _ x = x.all

-- nor is there a second board
no_second : (g : Header) (players : ℕ) (h : List Event) (second : List ℕ) → IsAccepted g players h → has_board g.game ≡ false → second_board h ≡ Some second → ⊥
no_second g players h second ok b is =
    let w = second_is (second_street h) (shared h) (second_own h) second is in
    true≢false (sym (twice_board g players h ok (second_runs g players h ok (ap is_some w.1))) ∙ b)

pub on_no_board : (g : Header) (players : ℕ) (h : List Event) → IsAccepted g players h → MarkersFit g.game h → has_board g.game ≡ false → HasBoard g players h
on_no_board g players h ok fit b =
    let x : Sizes g.game h 0 0 0 = bare_board g players h ok fit b in
    record {
      last = λ over. x.own ∙ sym (no_board (family_of g.game) b);
      few = λ s. (let none : length (board_up_to h s) ≡ 0 = bare_few g.game h s x in omega (arith, none));
      second_last = λ over second is. absurd (no_second g players h second ok b is);
      second_few = λ second is. absurd (no_second g players h second ok b is);
      at_point = λ found is. bare_few g.game h found.street x ∙ sym (none_then g.game found.street b);
    }

pub whole_board : (g : Header) (players : ℕ) (h : List Event) → IsAccepted g players h → MarkersFit g.game h → HasBoard g players h
whole_board g players h ok fit = one (has_board g.game) refl
  where
    one : (b : Bool) → has_board g.game ≡ b → HasBoard g players h
    one true b = on_board g players h ok fit b
    one false b = on_no_board g players h ok fit b
