-- What a line with ranges says, test by test.
use Rattle.std.proofs.Common.{◌≡◌, ℕ, Bool, true, false, cond, ◌&&◌, List, [], ◌∷◌, length, map, refl, sym, ap, ◌∙◌, Some, None, arith}
use Rattle.std.specs.Prelude.{Ok, Err, min}
use Rattle.std.specs.List.{list_all}
use Rattle.std.specs.Str.{bytes_eq}
use Rattle.std.proofs.lemmas.List.{length-map}
use Rattle.card_sets.specs.Games.{game_word}
use Rattle.card_sets.specs.declared.games.Game.TheVariants.{Holdem}
use Rattle.spot_text.specs.Games.{board_fits}
use Rattle.spot_text.specs.declared.walk.Collected.{Collected}
use Rattle.spot_text.specs.Collected.{IsCollected}
use Rattle.spot_text.specs.Parts.{hand_words, board_words, dead_words, all_cards, cards_of, set_of}
use Rattle.spot_text.specs.Spot.{players_within, repeated_after}
use Rattle.spot_text.specs.Words.{words}
use Rattle.range_lines.specs.declared.faults.RangeFault.TheVariants.{UnknownWord, TwiceCard, BoardSize, PlayerCount, DeckShort}
use Rattle.range_lines.specs.declared.spot.Weighted.{Weighted}
use Rattle.range_lines.specs.Hands.{is_range, hands_of}
use Rattle.spot_text.proofs.CallerLemmas.{table_size, within_least, within_most}
use Rattle.range_lines.proofs.RangeWords.{table_form, table_repeats}
use Rattle.range_lines.proofs.SoundLines.{one_each}
use Rattle.range_lines.specs.RangeSpot.{Ranges, IsBehindRanges, is_one_word, is_form, range_words, table_cards, are_few, ranges_of_words, unless_dealt_out, ranges_of_sizes, ranges_behind, ranges_of_line_words, ranges_of, is_dealt_out}

pub line_none : (line : List ℕ) → words line ≡ [] → ranges_of line ≡ Err UnknownWord
line_none line none = ap ranges_of_line_words none

pub line_game : (line word : List ℕ) (others : List (List ℕ)) → words line ≡ word ∷ others → bytes_eq word (game_word Holdem) ≡ true → ranges_of line ≡ ranges_behind others
line_game line word others first game = ap ranges_of_line_words first ∙ ap (λ b. cond b (ranges_behind others) (Err UnknownWord)) game

pub form_of : (others : List (List ℕ)) → list_all is_one_word (hand_words others) ≡ true → (all_cards (board_words others) && all_cards (dead_words others)) ≡ true → is_form others ≡ true
form_of others hands table = rw (hands, table) refl

pub card_twice : (others : List (List ℕ)) (card : ℕ) → is_form others ≡ true → list_all is_range (range_words others) ≡ true → repeated_after [] (table_cards others) ≡ Some card →
    ranges_behind others ≡ Err (TwiceCard card)
card_twice others card form ranges twice = rw (form, ranges, twice) refl

pub behind_sizes : (others : List (List ℕ)) → is_form others ≡ true → list_all is_range (range_words others) ≡ true → repeated_after [] (table_cards others) ≡ None →
    ranges_behind others ≡ ranges_of_sizes others
behind_sizes others form ranges once = rw (form, ranges, once) refl

pub bad_board : (others : List (List ℕ)) → board_fits Holdem (length (board_words others)) ≡ false → ranges_of_sizes others ≡ Err BoardSize
bad_board others bad = rw bad refl

pub bad_count : (others : List (List ℕ)) → board_fits Holdem (length (board_words others)) ≡ true → are_few (length (hand_words others)) ≡ false → ranges_of_sizes others ≡ Err PlayerCount
bad_count others board bad = rw (board, bad) refl

pub sizes_fit : (others : List (List ℕ)) → board_fits Holdem (length (board_words others)) ≡ true → are_few (length (hand_words others)) ≡ true →
    ranges_of_sizes others ≡ unless_dealt_out (ranges_of_words others)
sizes_fit others board few = rw (board, few) refl

pub dealt_out : (spot : Ranges) → is_dealt_out (length spot.board) (length spot.dead) (length spot.ranges) ≡ true → unless_dealt_out spot ≡ Err DeckShort
dealt_out spot short = rw short refl

pub dealt : (spot : Ranges) → is_dealt_out (length spot.board) (length spot.dead) (length spot.ranges) ≡ false → unless_dealt_out spot ≡ Ok spot
dealt spot enough = rw enough refl

-- a line whose words have their form and whose ranges are ranges, and its words from the first mark after the ranges on
pub record Passed (line word : List ℕ) (all others : List (List ℕ)) (table : Collected) : Type 0 where
  pub first : words line ≡ word ∷ all
  pub game : bytes_eq word (game_word Holdem) ≡ true
  pub behind : IsBehindRanges all others
  pub collected : IsCollected Holdem others table
  pub ranges : list_all is_range (range_words all) ≡ true

passed_form : (line word : List ℕ) (all others : List (List ℕ)) (table : Collected) → Passed line word all others table → is_form all ≡ true
passed_form line word all others table p = form_of all p.behind.one (sym (table_form others all p.behind.hands p.behind.board p.behind.dead) ∙ p.collected.form)

passed_cards : (line word : List ℕ) (all others : List (List ℕ)) (table : Collected) → Passed line word all others table → repeated_after [] (table_cards all) ≡ table.twice
passed_cards line word all others table p = sym (table_repeats others all p.behind.hands p.behind.board p.behind.dead) ∙ sym p.collected.twice

pub passed_twice : (line word : List ℕ) (all others : List (List ℕ)) (table : Collected) (card : ℕ) → Passed line word all others table → table.twice ≡ Some card → ranges_of line ≡ Err (TwiceCard card)
passed_twice line word all others table card p twice =
    line_game line word all p.first p.game
    ∙ card_twice all card (passed_form line word all others table p) p.ranges (passed_cards line word all others table p ∙ twice)

passed_sizes : (line word : List ℕ) (all others : List (List ℕ)) (table : Collected) → Passed line word all others table → table.twice ≡ None → ranges_of line ≡ ranges_of_sizes all
passed_sizes line word all others table p once =
    line_game line word all p.first p.game
    ∙ behind_sizes all (passed_form line word all others table p) p.ranges (passed_cards line word all others table p ∙ once)

fits_of : (line word : List ℕ) (all others : List (List ℕ)) (table : Collected) (fits : Bool) → Passed line word all others table → table.twice ≡ None → board_fits Holdem (length table.board) ≡ fits → board_fits Holdem (length (board_words all)) ≡ fits
fits_of line word all others table fits p once is = ap (λ ws. board_fits Holdem (length ws)) (sym p.behind.board) ∙ sym (table_size Holdem others table p.collected once) ∙ is

pub passed_board : (line word : List ℕ) (all others : List (List ℕ)) (table : Collected) → Passed line word all others table → table.twice ≡ None → board_fits Holdem (length table.board) ≡ false → ranges_of line ≡ Err BoardSize
passed_board line word all others table p once bad = passed_sizes line word all others table p once ∙ bad_board all (fits_of line word all others table false p once bad)

-- a line whose board fits too, and its ranges counted up to five
pub record Sized (line word : List ℕ) (all others : List (List ℕ)) (table : Collected) (count : ℕ) : Type 0 where
  pub passed : Passed line word all others table
  pub once : table.twice ≡ None
  pub fits : board_fits Holdem (length table.board) ≡ true
  pub counted : count ≡ min 5 (length (range_words all))

few_of : (line word : List ℕ) (all others : List (List ℕ)) (table : Collected) (count : ℕ) (few : Bool) → Sized line word all others table count → players_within 4 count ≡ few → are_few (length (hand_words all)) ≡ few
few_of line word all others table count few s is =
    ap are_few (sym (one_each (hand_words all) s.passed.behind.one)) ∙ sym (within_least 4 5 (length (range_words all)) (omega arith)) ∙ ap (players_within 4) (sym s.counted) ∙ is

pub sized_count : (line word : List ℕ) (all others : List (List ℕ)) (table : Collected) (count : ℕ) → Sized line word all others table count → players_within 4 count ≡ false → ranges_of line ≡ Err PlayerCount
sized_count line word all others table count s many =
    passed_sizes line word all others table s.passed s.once
    ∙ bad_count all (fits_of line word all others table true s.passed s.once s.fits) (few_of line word all others table count false s many)

sized_all : (line word : List ℕ) (all others : List (List ℕ)) (table : Collected) (count : ℕ) → Sized line word all others table count → players_within 4 count ≡ true →
    ranges_of line ≡ unless_dealt_out (record { board = table.board; dead = table.dead; ranges = map (hands_of table.board table.dead) (range_words all) })
sized_all line word all others table count s few =
    let board = table.board in
    let dead = table.dead in
    let on_board : board ≡ set_of (cards_of (board_words all)) = s.passed.collected.board ∙ ap (λ ws. set_of (cards_of ws)) s.passed.behind.board in
    let among_dead : dead ≡ set_of (cards_of (dead_words all)) = s.passed.collected.dead ∙ ap (λ ws. set_of (cards_of ws)) s.passed.behind.dead in
    passed_sizes line word all others table s.passed s.once
    ∙ sizes_fit all (fits_of line word all others table true s.passed s.once s.fits) (few_of line word all others table count true s few)
    ∙ ap (λ b. unless_dealt_out (record { board = b; dead = set_of (cards_of (dead_words all)); ranges = map (hands_of b (set_of (cards_of (dead_words all)))) (range_words all) })) (sym on_board)
    ∙ ap (λ d. unless_dealt_out (record { board = board; dead = d; ranges = map (hands_of board d) (range_words all) })) (sym among_dead)

sized_players : (line word : List ℕ) (all others : List (List ℕ)) (table : Collected) (count : ℕ) → Sized line word all others table count → players_within 4 count ≡ true →
    count ≡ length (map (hands_of table.board table.dead) (range_words all))
sized_players line word all others table count s few =
    let four = within_most 4 count few in
    let same : count ≡ length (range_words all) = omega (arith, four, s.counted) in
    same ∙ sym (length-map (range_words all) (hands_of table.board table.dead))

-- the last test, by the numbers of cards and of ranges
pub last_test : (a b count board dead : ℕ) (tested : Bool) → a ≡ board → b ≡ dead → tested ≡ is_dealt_out a b count → is_dealt_out board dead count ≡ tested
last_test a b count board dead tested e f is = ap (λ n. is_dealt_out n dead count) (sym e) ∙ ap (λ n. is_dealt_out a n count) (sym f) ∙ sym is

pub sized_short : (line word : List ℕ) (all others : List (List ℕ)) (table : Collected) (count : ℕ) → Sized line word all others table count → players_within 4 count ≡ true →
    is_dealt_out (length table.board) (length table.dead) count ≡ true → ranges_of line ≡ Err DeckShort
sized_short line word all others table count s few short =
    sized_all line word all others table count s few
    ∙ dealt_out (record { board = table.board; dead = table.dead; ranges = map (hands_of table.board table.dead) (range_words all) })
    (ap (is_dealt_out (length table.board) (length table.dead)) (sym (sized_players line word all others table count s few)) ∙ short)

pub sized_ok : (line word : List ℕ) (all others : List (List ℕ)) (table : Collected) (count : ℕ) (ranges : List (List Weighted)) → Sized line word all others table count → players_within 4 count ≡ true →
    is_dealt_out (length table.board) (length table.dead) count ≡ false → ranges ≡ map (hands_of table.board table.dead) (range_words all) →
    ranges_of line ≡ Ok (record { board = table.board; dead = table.dead; ranges = ranges })
sized_ok line word all others table count ranges s few enough is =
    sized_all line word all others table count s few
    ∙ dealt (record { board = table.board; dead = table.dead; ranges = map (hands_of table.board table.dead) (range_words all) })
    (ap (is_dealt_out (length table.board) (length table.dead)) (sym (sized_players line word all others table count s few)) ∙ enough)
    ∙ ap (λ l. Ok (record { board = table.board; dead = table.dead; ranges = l })) (sym is)
