use Rattle.betting_replay.specs.TableAfter.{point, dead_cards}
use Rattle.betting_replay.specs.Places.{owned}
use Rattle.betting_replay.specs.Boards.{board_up_to}
use Rattle.std.proofs.Common.{refl}
use Rattle.card_sets.proofs.CallerLemmas.{apart-Apart}
use Rattle.betting_replay.proofs.lemmas.places.AmongSets.{apart_among}
use Rattle.betting_replay.proofs.lemmas.places.CardsBelong.{up_to_among, places_apart}
use Rattle.betting_replay.proofs.lemmas.known.KnownCards.{all_among, final_holds, known_holds}
use Rattle.betting_replay.proofs.lemmas.places.DeadCards.{dead_is_set, dead_not_board, dead_not_known}
use Rattle.betting_replay.proofs.lemmas.boards.SecondBoardCards.{second_apart}
use Rattle.betting_replay.proofs.laws.law_cards_belong.Goals as goal

pub returns : goal.returns
returns c header players h ok = record {
  final = λ p cards is. (final_holds header players h p cards header.game refl ok is).among;
  whole = λ p cards is. (final_holds header players h p cards header.game refl ok is).many;
  final_and_board = λ p other cards is. apart_among cards (owned header.game h 0) (owned header.game h p) (owned header.game h 0) (final_holds header players h p cards header.game refl ok is).among (all_among header.game h 0) (places_apart header.game h p 0 other);
  known = λ p street cards is. (known_holds header players h p cards street header.game refl ok is).among;
  few = λ p street cards is. (known_holds header players h p cards street header.game refl ok is).few;
  two_seats = λ p q other street some others is are. apart_among some others (owned header.game h p) (owned header.game h q) (known_holds header players h p some street header.game refl ok is).among (known_holds header players h q others street header.game refl ok are).among (places_apart header.game h p q other);
  board = λ street. up_to_among header players street h ok;
  seat_and_board = λ p other street shown cards is. apart_among cards (board_up_to h shown) (owned header.game h p) (owned header.game h 0) (known_holds header players h p cards street header.game refl ok is).among (up_to_among header players shown h ok) (places_apart header.game h p 0 other);
  second_set = λ second is. (second_apart header players h ok second is).set;
  final_and_second = λ p other small cards second is come. (second_apart header players h ok second come).seat p other small cards (final_holds header players h p cards header.game refl ok is).among;
  seat_and_second = λ p other small street cards second is come. (second_apart header players h ok second come).seat p other small cards (known_holds header players h p cards street header.game refl ok is).among;
  dead_set = dead_is_set header.game players h (point header players h);
  dead_and_board = apart-Apart (dead_cards header players h) (owned header.game h 0) (λ k x y. dead_not_board header players h k ok x y);
  dead_and_shown = λ street. apart-Apart (dead_cards header players h) (board_up_to h street) (λ k x y. dead_not_board header players h k ok x ((up_to_among header players street h ok).each k y));
  dead_and_second = λ second come. apart-Apart (dead_cards header players h) second (λ k x y. (second_apart header players h ok second come).living k x y);
  dead_and_known = λ found at p is_in street cards is. apart-Apart (dead_cards header players h) cards (λ k x y. dead_not_known header players h found p street cards k ok at is_in is (known_holds header players h p cards street header.game refl ok is).among.each x y);
}
