-- A hand that is run twice has a board, and its boards share the cards of the streets before: `law_two_boards`.
use Rattle.std.proofs.Common.{◌≡◌, ℕ, List, sym, ap, ◌∙◌, true, arith, inl, inr}
use Rattle.std.specs.Prelude.{Some, is_some}
use mathlib.Core.Bool.{true≢false}
use Rattle.card_sets.specs.Cards.{has_card, union}
use Rattle.card_sets.specs.Games.{has_board}
use Rattle.hand_events.specs.declared.events.Header.{Header}
use Rattle.hand_events.specs.declared.events.Event.{Event}
use Rattle.card_sets.specs.declared.streets.Street.{Street as StreetName}
use Rattle.card_sets.specs.declared.streets.Street.TheVariants.{First, Flop, Turn, River}
use Rattle.betting_replay.specs.Accepted.{IsAccepted}
use Rattle.betting_replay.specs.Boards.{board_on, board_up_to, board_before, shared_by, shared, second_own, second_board}
use Rattle.betting_replay.specs.CardLaws.{MarkersFit}
use Rattle.betting_replay.specs.Sums.{twice_from, second_street}
use Rattle.hand_laws.specs.TwiceLaws.{ShareBoards, IsRunTwice}
use Rattle.card_sets.proofs.CallerLemmas.{in_union, union_left, of_deck}
use Rattle.betting_replay.proofs.CallerLemmas.{board_among, one_place, before_among, shared_among, second_among, is_before, begun_later, twice_board, reached, second_is}

-- the two boards share the cards of the streets before
boards_share : (g : Header) (players : ℕ) (h : List Event) (from : StreetName) (second : List ℕ) → IsAccepted g players h → twice_from h ≡ Some from → second_board h ≡ Some second → ShareBoards g h from second
boards_share g players h from second ok is come = record {
  before = λ card mine there. elim (in_union (shared h) (second_own h) card (ap (λ cards. has_card cards card) same ∙ there)).1 [
    | inl both ↦ ap (λ cards. has_card cards card) (sym whole) ∙ both
    | inr own ↦ (let one : 0 ≡ 11 = one_place g.game h 0 11 card mine ((second_among g players h ok).each card own) in absurd (omega (arith, one)))
  ];
  first = λ card has. (before_among g players from h ok).each card has;
  second = λ card has. (let both : has_card (shared h) card ≡ true = ap (λ cards. has_card cards card) whole ∙ has in
      ap (λ cards. has_card cards card) (sym same) ∙ union_left (shared h) (second_own h) card (of_deck (shared h) card (shared_among g players h ok).set both) both);
}
  where
    same : union (shared h) (second_own h) ≡ second
    same = (second_is (second_street h) (shared h) (second_own h) second come).2

    whole : shared h ≡ board_before h from
    whole = ap (λ o. shared_by o (board_on Flop h) (board_on Turn h) (board_on River h)) is

-- what lies on the board at the point is among them
known_before : (g : Header) (players : ℕ) (h : List Event) (t from : StreetName) (k : ℕ) → IsAccepted g players h → is_before t from ≡ true → has_card (board_up_to h t) k ≡ true → has_card (board_before h from) k ≡ true
known_before g players h First from k ok early has = absurd (true≢false (sym has))
known_before g players h Flop Turn k ok early has = has
known_before g players h Flop River k ok early has = union_left (board_on Flop h) (board_on Turn h) k (of_deck (board_on Flop h) k (board_among g players Flop h ok).set has) has
known_before g players h Turn River k ok early has = has
known_before g players h _ _ k ok early has = cc

pub run_twice : (g : Header) (players : ℕ) (h : List Event) → IsAccepted g players h → MarkersFit g.game h → (from : StreetName) → twice_from h ≡ Some from → IsRunTwice g players h from
run_twice g players h ok fit from is =
    let some : is_some (twice_from h) ≡ true = ap is_some is in
    let b : has_board g.game ≡ true = twice_board g players h ok some in
    let x = reached g players h ok fit b in
    record {
      board = b;
      later = begun_later x.0 from (x.1.twice.begun from is);
      all_in = x.1.twice.found some;
      known = λ found at card has. known_before g players h found.street from card ok (x.1.twice.early from found is at) has;
      share = λ second come. boards_share g players h from second ok is come;
    }
