-- The streets of a board that have begun, and how many cards it has then.
use Rattle.std.proofs.Common.{◌≡◌, ℕ, ◌≤◌, List, refl, sym, ap, ◌∙◌, Bool, true, false, arith, length}
use Rattle.std.specs.Prelude.{slice_get, Option, Some, None, if◌then◌else◌}
use mathlib.Core.Bool.{true≢false}
use Rattle.card_sets.specs.Cards.{union}
use Rattle.card_sets.specs.declared.games.Game.{Game}
use Rattle.card_sets.specs.declared.games.Family.TheVariants as family
use Rattle.card_sets.specs.Games.{family_of, is_board as is_board_family, has_board, board_size_by, board_size}
use Rattle.hand_events.specs.declared.events.Event.{Event}
use Rattle.card_sets.specs.declared.streets.Street.{Street as StreetName}
use Rattle.card_sets.specs.declared.streets.Street.TheVariants.{First, Flop, Turn, Fourth, Fifth, Sixth, River, Draw, FirstDraw, SecondDraw, ThirdDraw, ShowDown, Summary}
use Rattle.betting_replay.specs.Boards.{board_on, board_up_to, shared_by, shared}
use Rattle.betting_replay.specs.CardLaws.{sum_up_to, board_then}
use Rattle.card_sets.specs.Streets.{streets_by, street_after, next_street, is_last_of, is_last, cards_of_street, board_count}
use Rattle.betting_replay.specs.Streets.{same_street, is_later}
use Rattle.betting_replay.specs.Sums.{twice_from}
use Rattle.betting_replay.proofs.lemmas.streets.GameFamilies.{board_family}
use Rattle.betting_replay.proofs.lemmas.boards.BoardSizes.{Sizes}

-- the streets of a board that have begun
pub data Phase : Type 0 where
  Before : Phase
  OnFirst : Phase
  OnFlop : Phase
  OnTurn : Phase
  OnRiver : Phase

abbrev pub street_at : Phase → Option StreetName
street_at Before = None
street_at OnFirst = Some First
street_at OnFlop = Some Flop
street_at OnTurn = Some Turn
street_at OnRiver = Some River

abbrev pub is_over : Phase → Bool
is_over OnRiver = true
is_over _ = false

-- how many cards the flop, the streets up to the turn, and all streets have
abbrev pub one_size : Phase → ℕ
one_size Before = 0
one_size OnFirst = 0
one_size _ = 3

abbrev pub two_size : Phase → ℕ
two_size Before = 0
two_size OnFirst = 0
two_size OnFlop = 3
two_size _ = 4

abbrev pub all_size : Phase → ℕ
all_size Before = 0
all_size OnFirst = 0
all_size OnFlop = 3
all_size OnTurn = 4
all_size OnRiver = 5

-- a street before the last
abbrev goes_on : StreetName → Bool
goes_on First = true
goes_on Flop = true
goes_on Turn = true
goes_on _ = false

-- such a street has begun
abbrev pub has_come : Phase → StreetName → Bool
has_come OnFirst First = true
has_come OnFlop First = true
has_come OnFlop Flop = true
has_come OnTurn street = goes_on street
has_come OnRiver street = goes_on street
has_come _ _ = false

-- a street after the first
abbrev after_first : StreetName → Bool
after_first Flop = true
after_first Turn = true
after_first River = true
after_first _ = false

-- such a street has begun
abbrev pub has_begun : Phase → StreetName → Bool
has_begun OnFlop Flop = true
has_begun OnTurn Flop = true
has_begun OnTurn Turn = true
has_begun OnRiver street = after_first street
has_begun _ _ = false

-- a street of a board comes before another
abbrev pub is_before : StreetName → StreetName → Bool
is_before First street = after_first street
is_before Flop Turn = true
is_before Flop River = true
is_before Turn River = true
is_before _ _ = false

-- the street after one on a board
abbrev pub next_board : Option StreetName → Option StreetName
next_board None = Some First
next_board (Some s) = street_after s (streets_by family.Board)

pub next_is : (game : Game) (o : Option StreetName) → has_board game ≡ true → next_street game o ≡ next_board o
next_is game None b = ap (λ f. slice_get (streets_by f) 0) (board_family (family_of game) b)
next_is game (Some s) b = ap (λ f. street_after s (streets_by f)) (board_family (family_of game) b)

-- it is a flop, a turn or a river
pub next_in : (test : Option StreetName → Bool) → test (Some Flop) ≡ false → test (Some Turn) ≡ false → test (Some River) ≡ false → test None ≡ false → (t : StreetName) → test (next_board (Some t)) ≡ false
next_in test f t r n First = f
next_in test f t r n Flop = t
next_in test f t r n Turn = r
next_in test f t r n River = n
next_in test f t r n _ = n

pub size_is : (game : Game) (s : StreetName) → has_board game ≡ true → board_count game s ≡ cards_of_street s
size_is game s b = ap (λ board. if board then cards_of_street s else 0) b

-- only the river is the last street of a board
abbrev pub ends_board : StreetName → Bool
ends_board s = is_last_of s (streets_by family.Board)

pub last_is : (game : Game) (s : StreetName) → has_board game ≡ true → is_last game s ≡ ends_board s
last_is game s b = ap (λ f. is_last_of s (streets_by f)) (board_family (family_of game) b)

pub last_phase : (n : Phase) (s : StreetName) → Some s ≡ street_at n → ends_board s ≡ true → is_over n ≡ true
last_phase OnRiver s e last = refl
last_phase Before s e last = cc
last_phase OnFirst s e last = (let is : s ≡ First = cc in absurd (true≢false (sym last ∙ ap ends_board is)))
last_phase OnFlop s e last = (let is : s ≡ Flop = cc in absurd (true≢false (sym last ∙ ap ends_board is)))
last_phase OnTurn s e last = (let is : s ≡ Turn = cc in absurd (true≢false (sym last ∙ ap ends_board is)))

-- what holds in no phase
pub by_phase : (test : Phase → Bool) → test Before ≡ false → test OnFirst ≡ false → test OnFlop ≡ false → test OnTurn ≡ false → test OnRiver ≡ false → (n : Phase) → test n ≡ true → ⊥
by_phase test a b c d e Before is = true≢false (sym is ∙ a)
by_phase test a b c d e OnFirst is = true≢false (sym is ∙ b)
by_phase test a b c d e OnFlop is = true≢false (sym is ∙ c)
by_phase test a b c d e OnTurn is = true≢false (sym is ∙ d)
by_phase test a b c d e OnRiver is = true≢false (sym is ∙ e)

-- a phase has all streets of those before it
pub first_more : (t : StreetName) → has_come OnFirst t ≡ true → has_come OnFlop t ≡ true
first_more First is = refl
first_more _ is = cc

pub flop_more : (t : StreetName) → has_come OnFlop t ≡ true → has_come OnTurn t ≡ true
flop_more First is = refl
flop_more Flop is = refl
flop_more _ is = cc

pub turn_more : (t : StreetName) → has_come OnTurn t ≡ true → has_come OnRiver t ≡ true
turn_more First is = refl
turn_more Flop is = refl
turn_more Turn is = refl
turn_more _ is = cc

pub flop_begun : (t : StreetName) → has_begun OnFlop t ≡ true → has_begun OnTurn t ≡ true
flop_begun Flop is = refl
flop_begun _ is = cc

pub turn_begun : (t : StreetName) → has_begun OnTurn t ≡ true → has_begun OnRiver t ≡ true
turn_begun Flop is = refl
turn_begun Turn is = refl
turn_begun _ is = cc

-- and all of them before the next
pub first_early : (t : StreetName) → has_come OnFirst t ≡ true → is_before t Flop ≡ true
first_early First is = refl
first_early _ is = cc

pub flop_early : (t : StreetName) → has_come OnFlop t ≡ true → is_before t Turn ≡ true
flop_early First is = refl
flop_early Flop is = refl
flop_early _ is = cc

pub turn_early : (t : StreetName) → has_come OnTurn t ≡ true → is_before t River ≡ true
turn_early First is = refl
turn_early Flop is = refl
turn_early Turn is = refl
turn_early _ is = cc

pub begun_later : (n : Phase) (s : StreetName) → has_begun n s ≡ true → is_later s ≡ true
begun_later n First is = absurd (by_phase (λ n. has_begun n First) refl refl refl refl refl n is)
begun_later n ShowDown is = absurd (by_phase (λ n. has_begun n ShowDown) refl refl refl refl refl n is)
begun_later n Summary is = absurd (by_phase (λ n. has_begun n Summary) refl refl refl refl refl n is)
begun_later n _ is = refl

-- what the sizes of a phase say
pub size_small : (n : Phase) → (one_size n ≤ 5) × (two_size n ≤ 5) × (all_size n ≤ 5)
size_small Before = (omega arith, omega arith, omega arith)
size_small OnFirst = (omega arith, omega arith, omega arith)
size_small OnFlop = (omega arith, omega arith, omega arith)
size_small OnTurn = (omega arith, omega arith, omega arith)
size_small OnRiver = (omega arith, omega arith, omega arith)

pub at_last : (n : Phase) → is_over n ≡ true → all_size n ≡ 5
at_last OnRiver over = refl
at_last Before over = cc
at_last OnFirst over = cc
at_last OnFlop over = cc
at_last OnTurn over = cc

pub few_cards : (game : Game) (h : List Event) (n : Phase) (s : StreetName) → Sizes game h (one_size n) (two_size n) (all_size n) → length (board_up_to h s) ≤ 5
few_cards game h n First x = omega arith
few_cards game h n Flop x = (let is : length (board_on Flop h) ≡ one_size n = x.one in let l : one_size n ≤ 5 = (size_small n).0 in omega arith)
few_cards game h n Turn x = (let is : length (union (board_on Flop h) (board_on Turn h)) ≡ two_size n = x.two in let l : two_size n ≤ 5 = (size_small n).1 in omega arith)
few_cards game h n _ x = (let is : length (union (union (board_on Flop h) (board_on Turn h)) (board_on River h)) ≡ all_size n = x.all in let l : all_size n ≤ 5 = (size_small n).2 in omega arith)

pub flop_come : (n : Phase) → has_come n Flop ≡ true → one_size n ≡ 3
flop_come OnFlop is = refl
flop_come OnTurn is = refl
flop_come OnRiver is = refl
flop_come Before is = cc
flop_come OnFirst is = cc

pub turn_come : (n : Phase) → has_come n Turn ≡ true → two_size n ≡ 4
turn_come OnTurn is = refl
turn_come OnRiver is = refl
turn_come Before is = cc
turn_come OnFirst is = cc
turn_come OnFlop is = cc

-- how many cards a board has on a street
abbrev pub size_on : StreetName → ℕ
size_on s = sum_up_to cards_of_street s (streets_by family.Board)

pub come_size : (game : Game) (h : List Event) (n : Phase) (s : StreetName) → Sizes game h (one_size n) (two_size n) (all_size n) → has_come n s ≡ true → length (board_up_to h s) ≡ size_on s
come_size game h n First x is = refl
come_size game h n Flop x is = x.one ∙ flop_come n is
come_size game h n Turn x is = x.two ∙ turn_come n is
come_size game h n Fourth x is = absurd (by_phase (λ n. has_come n Fourth) refl refl refl refl refl n is)
come_size game h n Fifth x is = absurd (by_phase (λ n. has_come n Fifth) refl refl refl refl refl n is)
come_size game h n Sixth x is = absurd (by_phase (λ n. has_come n Sixth) refl refl refl refl refl n is)
come_size game h n River x is = absurd (by_phase (λ n. has_come n River) refl refl refl refl refl n is)
come_size game h n Draw x is = absurd (by_phase (λ n. has_come n Draw) refl refl refl refl refl n is)
come_size game h n FirstDraw x is = absurd (by_phase (λ n. has_come n FirstDraw) refl refl refl refl refl n is)
come_size game h n SecondDraw x is = absurd (by_phase (λ n. has_come n SecondDraw) refl refl refl refl refl n is)
come_size game h n ThirdDraw x is = absurd (by_phase (λ n. has_come n ThirdDraw) refl refl refl refl refl n is)
come_size game h n ShowDown x is = absurd (by_phase (λ n. has_come n ShowDown) refl refl refl refl refl n is)
come_size game h n Summary x is = absurd (by_phase (λ n. has_come n Summary) refl refl refl refl refl n is)

pub board_is : (game : Game) → has_board game ≡ true → board_size game ≡ 5
board_is game b = ap board_size_by (board_family (family_of game) b)

pub then_is : (game : Game) (s : StreetName) → has_board game ≡ true → board_then game s ≡ size_on s
then_is game s b = ap (λ f. sum_up_to (λ t. if is_board_family f then cards_of_street t else 0) s (streets_by f)) (board_family (family_of game) b)

-- how many cards a board has before a street, and the street after one adds its own
abbrev pub size_before : StreetName → ℕ
size_before Turn = 3
size_before River = 4
size_before _ = 0

pub shared_size : (game : Game) (h : List Event) (n : Phase) (from : StreetName) → Sizes game h (one_size n) (two_size n) (all_size n) → twice_from h ≡ Some from → has_begun n from ≡ true → length (shared h) ≡ size_before from
shared_size game h n from x is begun = ap (λ o. length (shared_by o (board_on Flop h) (board_on Turn h) (board_on River h))) is ∙ by n from x begun
  where
    by : (n : Phase) (s : StreetName) → Sizes game h (one_size n) (two_size n) (all_size n) → has_begun n s ≡ true → length (shared_by (Some s) (board_on Flop h) (board_on Turn h) (board_on River h)) ≡ size_before s
    by OnFlop Flop x b = refl
    by OnTurn Flop x b = refl
    by OnRiver Flop x b = refl
    by OnTurn Turn x b = x.one
    by OnRiver Turn x b = x.one
    by OnRiver River x b = x.two
    by _ _ x b = cc

pub next_flop : (t : StreetName) → same_street Flop (next_board (Some t)) ≡ true → size_on t ≡ 0
next_flop First is = refl
next_flop Flop is = cc
next_flop Turn is = cc
next_flop River is = cc
next_flop _ is = cc

pub next_turn : (t : StreetName) → same_street Turn (next_board (Some t)) ≡ true → size_on t ≡ 3
next_turn Flop is = refl
next_turn First is = cc
next_turn Turn is = cc
next_turn River is = cc
next_turn _ is = cc

pub next_river : (t : StreetName) → same_street River (next_board (Some t)) ≡ true → size_on t ≡ 4
next_river Turn is = refl
next_river First is = cc
next_river Flop is = cc
next_river River is = cc
next_river _ is = cc

pub size_last : (s : StreetName) → ends_board s ≡ true → size_on s ≡ 5
size_last River last = refl
size_last _ last = cc

pub size_few : (s : StreetName) → size_on s ≤ 5
size_few First = omega arith
size_few Flop = omega arith
size_few Turn = omega arith
size_few _ = omega arith
