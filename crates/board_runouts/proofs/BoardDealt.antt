-- Hands and boards where the board alone is dealt, in any game with a board.
use Rattle.std.proofs.Common.{◌≡◌, ℕ, ◌+◌, ◌*◌, ◌/◌, ◌%◌, ◌<◌, ◌≤◌, ◌==◌, List, [], ◌∷◌, ◌++◌, length, length-append, sym, ap, ◌∙◌, cond, arith, Some, None, Option, true, Bool, max}
use Rattle.std.specs.Prelude.{slice_index}
use Rattle.std.specs.List.{count_by}
use Rattle.std.proofs.lemmas.List.Sums.{sum_by-append}
use Rattle.card_sets.specs.Cards.{union, IsCardSet, IsRising, rank_of, suit_of}
use Rattle.card_sets.specs.Disjoint.{apart}
use Rattle.card_sets.specs.Games.{has_board, own_size}
use Rattle.card_sets.specs.Rising.{rising-IsCardSet, IsRising-cards_where}
use Rattle.card_sets.specs.State.{State, state_of}
use Rattle.card_sets.specs.declared.games.Side.TheVariants.{High, Low}
use Rattle.omaha_ranks.specs.Omaha.{ArePlaced}
use Rattle.rank_high.specs.High.{count_of_rank}
use Rattle.rank_high.specs.Parts.{of_suit, count_of_suit}
use Rattle.runout_ranges.specs.Runouts.{HasMember}
use Rattle.runout_ranges.specs.Slots.{slots, unseen, counts_of}
use Rattle.showdown_tally.specs.Flushes.{IsOnlySuit}
use Rattle.showdown_tally.specs.Laws.{IsFull}
use Rattle.showdown_tally.specs.Settling.{number_of}
use Rattle.showdown_tally.specs.Showdown.{Showdown, own_after, board_after, eligible_in}
use Rattle.showdown_tally.specs.SideCounts.{count_place, low_mark}
use Rattle.showdown_tally.specs.Sides.{side_outcome}
use Rattle.showdown_tally.specs.Tallies.{runouts_after}
use Rattle.card_sets.proofs.CallerLemmas.{length-union, apart-Apart, Apart-apart, Apart-sym, Apart-union}
use Rattle.showdown_tally.proofs.CallerLemmas.{Deals, IsChoice, filtered, runout_deals, hand_of, known_sound, Sound, full_board}
use Rattle.runout_walk.specs.Bests.{best_set, best_value}
use Rattle.board_runouts.specs.Highs.{IsBoardFor, plain_of, high_of, flush_of}
use Rattle.board_runouts.specs.Boards.{IsBoardAlone, AreFirst, board_lacks}
use Rattle.board_ranks.specs.BoardWith.{IsBoardWith, low_number}
use Rattle.board_ranks.specs.HighParts.{flush_part, high_number, plain_number, suited_number}
use Rattle.board_runouts.specs.KeptRows.{AreWorthsAfter, HasNoFlush, IsFlushPart, IsRowFor}
use Rattle.board_runouts.specs.SideRows.{AreRanksOf, IsBestOf, IsDealtWith}
use Rattle.board_ranks.specs.Suits.{AreMost, IsShortWith}
use Rattle.board_ranks.specs.Values.{one_of}
use Rattle.board_runouts.specs.declared.row.Row.{Row}
use Rattle.board_runouts.specs.declared.sides.Worths.{Worths}
use Rattle.board_runouts.specs.declared.spot.BoardSpot.{BoardSpot}
use Rattle.card_sets.specs.PlayerSets.{AreBelow}
use Rattle.board_runouts.proofs.HighWinners.{Keeps, outcome_best, first_wins, second_wins}
use Rattle.runout_walk.proofs.CallerLemmas.{set-same}
use Rattle.board_runouts.proofs.BoardRunouts.{board_alone, board_apart, count-union, front-has, full_after, hand_apart, own_alone, pair_rises, set_of_member}
use Rattle.board_ranks.proofs.CallerLemmas.{board_is_five, high_of_few, suit_fewer, suited_again}
use Rattle.board_runouts.proofs.HighNumbers.{high_no_suit, high_one_suit, low_is}

-- what is known of a table after a runout of one set
pub record IsScene (st : State) (set : List ℕ) : Type 0 where
  pub sound : Sound st
  pub alone : IsBoardAlone st
  pub game : has_board st.game ≡ true
  pub member : HasMember (runouts_after st) (set ∷ [])
  pub hands : (h : ℕ) → h < length st.hands → IsCardSet (hand_of st h)
  pub board : IsCardSet st.board

pub full_of : (st : State) (set : List ℕ) (h : ℕ) → IsScene st set → h < length st.hands → IsFull st.game (own_after st (set ∷ []) h) (board_after st (set ∷ []))
full_of st set h s l = full_after st (set ∷ []) h s.sound s.member l (s.hands h l) s.board

placed : (st : State) (set : List ℕ) (h : ℕ) → IsScene st set → h < length st.hands → ArePlaced (own_after st (set ∷ []) h) (board_after st (set ∷ []))
placed st set h s l = let full = full_of st set h s l in record { own_cards = full.own_cards; board_cards = full.board_cards; apart = full.apart }

-- each hand has all its own cards, where there is a runout that deals the board alone
pub own_of : (st : State) (set : List ℕ) (h : ℕ) → IsScene st set → h < length st.hands → length (hand_of st h) ≡ own_size st.game
own_of st set h s l = ap length (sym (own_alone st set h s.alone (s.hands h l))) ∙ (full_of st set h s l).own_size

-- the board has five cards then
pub board_five : (st : State) (set : List ℕ) → IsScene st set → length (board_after st (set ∷ [])) ≡ 5
board_five st set s =
    let deals : Deals (unseen st) (counts_of (slots st)) (set ∷ []) = runout_deals (unseen st) (counts_of (slots st)) (set ∷ []) (IsRising-cards_where _) s.member in
    full_board st (set ∷ []) s.sound deals s.board ∙ board_is_five st.game s.game

-- cards that are taken where a runout goes on from them with two more are first cards
pub first_cards : (st : State) (taken more : List ℕ) → IsScene st (taken ++ more) → length more ≡ 2 → AreFirst st taken
first_cards st taken more s two =
    let choice : IsChoice (board_lacks (slots st)) 0 (unseen st) (taken ++ more) = set_of_member st (taken ++ more) s.alone s.member in
    let is : length (board_after st ((taken ++ more) ∷ [])) ≡ length st.board + length (taken ++ more) = ap length (board_alone st (taken ++ more) s.alone) ∙ length-union st.board (taken ++ more) s.board (rising-IsCardSet (taken ++ more) choice.1) (board_apart st (taken ++ more) choice.2) in
    record {
      unseen = λ card e. choice.2 card (front-has taken more card e);
      size = omega (arith, is, board_five st (taken ++ more) s, length-append taken more, two);
    }

-- how many cards of the board pass a test after a runout
board-count : (f : ℕ → Bool) (st : State) (taken : List ℕ) (low high : ℕ) → IsBoardAlone st → HasMember (runouts_after st) ((taken ++ low ∷ high ∷ []) ∷ []) → IsCardSet st.board
    → count_by f (board_after st ((taken ++ low ∷ high ∷ []) ∷ [])) ≡ count_by f st.board + (count_by f taken + cond (f low) 1 0 + cond (f high) 1 0)
board-count f st taken low high alone member board =
    let set : List ℕ = taken ++ low ∷ high ∷ [] in
    let choice : IsChoice (board_lacks (slots st)) 0 (unseen st) set = set_of_member st set alone member in
    let both : count_by f (union st.board set) ≡ count_by f st.board + count_by f set = count-union f st.board set board (rising-IsCardSet set choice.1) (board_apart st set choice.2) in
    let two : count_by f set ≡ count_by f taken + (0 + cond (f low) 1 0 + cond (f high) 1 0) = sum_by-append (λ x. cond (f x) 1 0) taken (low ∷ high ∷ []) in
    let there : count_by f (board_after st (set ∷ [])) ≡ count_by f (union st.board set) = ap (count_by f) (board_alone st set alone) in
    omega (arith, both, two, there)

-- a runout of first cards and two more is dealt with their ranks
pub dealt_with : (st : State) (taken ranks : List ℕ) (low high : ℕ) → IsScene st (taken ++ low ∷ high ∷ []) → AreRanksOf ranks taken → IsDealtWith st ranks (rank_of low) (rank_of high) ((taken ++ low ∷ high ∷ []) ∷ [])
dealt_with st taken ranks low high s are =
    let set : List ℕ = taken ++ low ∷ high ∷ [] in
    record {
      full = λ h l. full_of st set h s l;
      own = λ h l. own_alone st set h s.alone (s.hands h l);
      counts = λ r b.
          let all = board-count (λ c. rank_of c == r) st taken low high s.alone s.member s.board in
          let same : count_by (λ k. k == r) ranks ≡ count_of_rank taken r = are r b in
          omega (arith, all, same);
    }

-- two cards whose suits aren't flagged make nobody a flush
pub unflagged : (st : State) (taken most : List ℕ) (low high : ℕ) → IsScene st (taken ++ low ∷ high ∷ []) → AreMost st most → IsShortWith most taken (suit_of low) (suit_of high) → HasNoFlush st ((taken ++ low ∷ high ∷ []) ∷ [])
unflagged st taken most low high s greatest short h l =
    let set : List ℕ = taken ++ low ∷ high ∷ [] in
    high_of_few st.game (own_after st (set ∷ []) h) (board_after st (set ∷ [])) s.game (full_of st set h s l).own_size (placed st set h s l) (λ suit b.
    let own : flush_part st.game (count_of_suit (own_after st (set ∷ []) h) suit) ≡ flush_part st.game (count_of_suit (hand_of st h) suit) = ap (λ cards. flush_part st.game (count_of_suit cards suit)) (own_alone st set h s.alone (s.hands h l)) in
    let most_h : flush_part st.game (count_of_suit (hand_of st h) suit) + count_of_suit st.board suit ≤ slice_index most suit = greatest h suit l b in
    let less : slice_index most suit + count_of_suit taken suit + one_of (suit_of low) suit + one_of (suit_of high) suit ≤ 4 = short suit b in
    let all = board-count (λ c. suit_of c == suit) st taken low high s.alone s.member s.board in
    omega (arith, own, all, most_h, less))

-- nor does a board that has no three cards of a suit
pub no_suit : (st : State) (set board : List ℕ) → IsScene st set → board ≡ union st.board set → IsOnlySuit board None → HasNoFlush st (set ∷ [])
no_suit st set board s b only h l =
    let there : board ≡ board_after st (set ∷ []) = b ∙ sym (board_alone st set s.alone) in
    let few : IsOnlySuit (board_after st (set ∷ [])) None = λ t m. (let x : length (of_suit board t) ≤ 2 = only t m in let y : length (of_suit board t) ≡ length (of_suit (board_after st (set ∷ [])) t) = ap (λ l. length (of_suit l t)) there in omega arith) in
    high_no_suit st.game (own_after st (set ∷ []) h) (board_after st (set ∷ [])) s.game (full_of st set h s l).own_size (placed st set h s l) few

-- with the cards of the only suit that has three a hand has its ranks or its flush
pub with_suit : (st : State) (set board cards : List ℕ) (suit : ℕ) → IsScene st set → board ≡ union st.board set → IsOnlySuit board (Some suit) → cards ≡ of_suit board suit → IsFlushPart st (set ∷ []) board cards suit
with_suit st set board cards suit s b only c =
    let there : board ≡ board_after st (set ∷ []) = b ∙ sym (board_alone st set s.alone) in
    let few : IsOnlySuit (board_after st (set ∷ [])) (Some suit) = (only.0, (λ t m ne. (let x : length (of_suit board t) ≤ 2 = only.1 t m ne in let y : length (of_suit board t) ≡ length (of_suit (board_after st (set ∷ [])) t) = ap (λ l. length (of_suit l t)) there in omega arith)), (let x : 2 < length (of_suit board suit) = only.2 in let y : length (of_suit board suit) ≡ length (of_suit (board_after st (set ∷ [])) suit) = ap (λ l. length (of_suit l suit)) there in omega arith)) in
    record {
      inside = only.0;
      five = omega (arith, ap length c, suit_fewer board suit, ap length there, board_five st set s);
      board_is = there;
      away = λ h l. suit_away st set board cards suit h s there c l;
      high = λ h l.
          high_one_suit st.game (own_after st (set ∷ []) h) (board_after st (set ∷ [])) suit s.game (full_of st set h s l).own_size (placed st set h s l) few
          ∙ ap (λ n. max (plain_of st (set ∷ []) h) n) (ap (λ own. suited_number st.game own (board_after st (set ∷ [])) suit) (own_alone st set h s.alone (s.hands h l))
          ∙ ap (λ full. suited_number st.game (hand_of st h) full suit) (sym there) ∙ sym (suited_again st.game (hand_of st h) board suit) ∙ ap (λ part. suited_number st.game (hand_of st h) part suit) (sym c));
    }
  where
    suit_away : (st : State) (set board cards : List ℕ) (suit h : ℕ) → IsScene st set → board ≡ board_after st (set ∷ []) → cards ≡ of_suit board suit → h < length st.hands → apart (hand_of st h) cards ≡ true
    suit_away st set board cards suit h s there c l =
        let full = full_of st set h s l in
        let away : apart (hand_of st h) board ≡ true = ap (λ o. apart o board) (sym (own_alone st set h s.alone (s.hands h l))) ∙ ap (apart (own_after st (set ∷ []) h)) there ∙ full.apart in
        ap (apart (hand_of st h)) c ∙ apart-Apart (hand_of st h) (of_suit board suit) (λ k x y. Apart-apart (hand_of st h) board away k x (filtered (λ c. suit_of c == suit) board k y).0)

-- with first cards the board has three cards, and a hand is apart from it
pub first_board : (st : State) (taken : List ℕ) → IsCardSet st.board → IsCardSet taken → AreFirst st taken → length (union st.board taken) ≡ 3
first_board st taken board is first =
    let size = first.size in
    omega (arith, length-union st.board taken board is (board_apart st taken first.unseen), size)

pub first_apart : (st : State) (taken : List ℕ) (h : ℕ) → Sound st → h < length st.hands → AreFirst st taken → apart (hand_of st h) (union st.board taken) ≡ true
first_apart st taken h sound l first =
    apart-Apart (hand_of st h) (union st.board taken) (Apart-sym (union st.board taken) (hand_of st h) (Apart-union st.board taken (hand_of st h) (Apart-sym (hand_of st h) st.board (sound.apart h l)) (Apart-sym (hand_of st h) taken (hand_apart st taken h first.unseen))))

-- the board of a runout is a full one of these ranks
pub board_is : (st : State) (taken ranks : List ℕ) (low high h : ℕ) (runout : List (List ℕ)) → IsCardSet st.board → IsCardSet taken → AreFirst st taken → AreRanksOf ranks taken → h < length st.hands → IsDealtWith st ranks low high runout
    → IsBoardWith (hand_of st h) (union st.board taken) low high (board_after st runout)
board_is st taken ranks low high h runout board is first are l dealt =
    let full = dealt.full h l in
    record {
      cards = full.board_cards;
      apart = ap (λ own. apart own (board_after st runout)) (sym (dealt.own h l)) ∙ full.apart;
      ranks = λ r b.
          let all = dealt.counts r b in
          let same : count_by (λ k. k == r) ranks ≡ count_of_rank taken r = are r b in
          let both : count_of_rank (union st.board taken) r ≡ count_of_rank st.board r + count_of_rank taken r = count-union (λ c. rank_of c == r) st.board taken board is (board_apart st taken first.unseen) in
          omega (arith, all, same, both);
    }

-- what the hands are worth with each full board of given ranks, as highs by ranks alone and as lows
abbrev pub ArePlain : State → List ℕ → ℕ → ℕ → List ℕ → Type 0
ArePlain st taken low high values = (h : ℕ) (full : List ℕ) → h < length st.hands → IsBoardWith (hand_of st h) (union st.board taken) low high full → slice_index values h ≡ plain_number st.game (hand_of st h) full

abbrev pub AreLows : State → List ℕ → ℕ → ℕ → List (Option ℕ) → Type 0
AreLows st taken low high values = (h : ℕ) (full : List ℕ) → h < length st.hands → IsBoardWith (hand_of st h) (union st.board taken) low high full → number_of values h ≡ low_number st.game (hand_of st h) full

-- that is what they are worth after a runout that is dealt with these ranks
pub worths_after : (st : State) (taken ranks : List ℕ) (low high : ℕ) (runout : List (List ℕ)) (worths : Worths) → has_board st.game ≡ true → IsCardSet st.board → IsCardSet taken → AreFirst st taken → AreRanksOf ranks taken → IsDealtWith st ranks low high runout
    → ArePlain st taken low high worths.highs → AreLows st taken low high worths.lows → AreWorthsAfter st runout worths
worths_after st taken ranks low high runout worths game board is first are dealt plain lows = record {
  as_highs = λ h l. plain h (board_after st runout) l (board_is st taken ranks low high h runout board is first are l dealt) ∙ ap (λ own. plain_number st.game own (board_after st runout)) (sym (dealt.own h l));
  as_lows = record {
    numbers = λ h l. lows h (board_after st runout) l (board_is st taken ranks low high h runout board is first are l dealt) ∙ ap (λ own. low_number st.game own (board_after st runout)) (sym (dealt.own h l)) ∙ low_is st.game (own_after st runout h) (board_after st runout) game;
    full = dealt.full;
  };
}

-- the ranks of a pair rise, and aren't below the least
pub ranks_there : (st : State) (taken : List ℕ) (low high place least : ℕ) → IsScene st (taken ++ low ∷ high ∷ []) → ((card : ℕ) (more : List ℕ) → IsRising (taken ++ card ∷ more) → least ≤ rank_of card) → place ≡ 13 * rank_of low + rank_of high → (least ≤ place / 13) × (place / 13 ≤ place % 13)
ranks_there st taken low high place least s from at =
    let rises = pair_rises st taken low high s.alone s.member in
    let q : place / 13 ≡ rank_of low = omega (arith, rises.0, rises.1) in
    let r : place % 13 ≡ rank_of high = omega (arith, rises.0, rises.1) in
    let choice = set_of_member st (taken ++ low ∷ high ∷ []) s.alone s.member in
    let under : least ≤ rank_of low = from low (high ∷ []) choice.1 in
    (omega arith, omega (arith, rises.0))

pub dealt_there : (st : State) (taken ranks : List ℕ) (low high place : ℕ) → IsScene st (taken ++ low ∷ high ∷ []) → AreRanksOf ranks taken → place ≡ 13 * rank_of low + rank_of high → IsDealtWith st ranks (place / 13) (place % 13) ((taken ++ low ∷ high ∷ []) ∷ [])
dealt_there st taken ranks low high place s of_ranks at =
    let rises = pair_rises st taken low high s.alone s.member in
    let q : place / 13 ≡ rank_of low = omega (arith, rises.0, rises.1) in
    let r : place % 13 ≡ rank_of high = omega (arith, rises.0, rises.1) in
    rw (q, r) (dealt_with st taken ranks low high s of_ranks)

pub outcome_of : (deal : Showdown) (pot : ℕ) (set : List ℕ) → Keeps → IsScene deal.state set → AreBelow (length deal.state.hands) (eligible_in deal pot) → side_outcome High deal pot (set ∷ []) ≡ best_set (high_of deal.state (set ∷ [])) (eligible_in deal pot)
outcome_of deal pot set keeps s below = outcome_best deal pot (length deal.state.hands) (set ∷ []) keeps s.game (λ h l. full_of deal.state set h s l) below

-- the row's place is right where suits don't count
pub plain_main : (deal : Showdown) (pot : ℕ) (set : List ℕ) (main low top : ℕ) → Keeps → IsScene deal.state set → AreBelow (length deal.state.hands) (eligible_in deal pot) → IsBestOf deal pot (set ∷ []) main low top → HasNoFlush deal.state (set ∷ [])
    → main ≡ count_place deal pot High (set ∷ [])
plain_main deal pot set main low top keeps s below best plain =
    best.main_set
    ∙ ap (λ n. n + low_mark (side_outcome Low deal pot (set ∷ []))) (sym (outcome_of deal pot set keeps s below ∙ set-same (high_of deal.state (set ∷ [])) (plain_of deal.state (set ∷ [])) (length deal.state.hands) (eligible_in deal pot) below plain))

-- and where the best by ranks alone is greater than the best flush
pub less_main : (deal : Showdown) (pot : ℕ) (set board cards : List ℕ) (suit main low top : ℕ) → Keeps → IsScene deal.state set → AreBelow (length deal.state.hands) (eligible_in deal pot) → IsBestOf deal pot (set ∷ []) main low top → IsFlushPart deal.state (set ∷ []) board cards suit
    → best_value (flush_of deal.state cards suit) (eligible_in deal pot) < top → main ≡ count_place deal pot High (set ∷ [])
less_main deal pot set board cards suit main low top keeps s below best part less =
    let st = deal.state in
    best.main_set
    ∙ ap (λ n. n + low_mark (side_outcome Low deal pot (set ∷ []))) (sym (outcome_of deal pot set keeps s below ∙ first_wins (high_of deal.state (set ∷ [])) (plain_of deal.state (set ∷ [])) (flush_of deal.state cards suit) (length deal.state.hands) (eligible_in deal pot) below part.high (let t = best.best in omega arith)))

-- the best flush wins where it is the greater
pub flush_main : (deal : Showdown) (pot : ℕ) (set board cards : List ℕ) (suit main low top won mark : ℕ) → Keeps → IsScene deal.state set → AreBelow (length deal.state.hands) (eligible_in deal pot) → IsBestOf deal pot (set ∷ []) main low top → IsFlushPart deal.state (set ∷ []) board cards suit
    → top < best_value (flush_of deal.state cards suit) (eligible_in deal pot) → won ≡ best_set (flush_of deal.state cards suit) (eligible_in deal pot) → mark ≡ low_mark low → won + mark ≡ count_place deal pot High (set ∷ [])
flush_main deal pot set board cards suit main low top won mark keeps s below best part less w m =
    ap (λ n. n + mark) (w ∙ sym (outcome_of deal pot set keeps s below ∙ second_wins (high_of deal.state (set ∷ [])) (plain_of deal.state (set ∷ [])) (flush_of deal.state cards suit) (length deal.state.hands) (eligible_in deal pot) below part.high (let t = best.best in omega arith)))
    ∙ ap (λ n. side_outcome High deal pot (set ∷ []) + n) (m ∙ ap low_mark best.low_set)

-- and hand by hand it is right in any case
pub each_main : (deal : Showdown) (pot : ℕ) (set : List ℕ) (main low top won mark : ℕ) → Keeps → IsScene deal.state set → AreBelow (length deal.state.hands) (eligible_in deal pot) → IsBestOf deal pot (set ∷ []) main low top
    → won ≡ best_set (high_of deal.state (set ∷ [])) (eligible_in deal pot) → mark ≡ low_mark low → won + mark ≡ count_place deal pot High (set ∷ [])
each_main deal pot set main low top won mark keeps s below best w m =
    ap (λ n. n + mark) (w ∙ sym (outcome_of deal pot set keeps s below)) ∙ ap (λ n. side_outcome High deal pot (set ∷ []) + n) (m ∙ ap low_mark best.low_set)

-- a hand's high with the board of a runout
pub high_with : (st : State) (set board : List ℕ) (h : ℕ) → IsScene st set → board ≡ board_after st (set ∷ []) → h < length st.hands → high_number st.game (hand_of st h) board ≡ high_of st (set ∷ []) h
high_with st set board h s b l = ap (λ own. high_number st.game own board) (sym (own_alone st set h s.alone (s.hands h l))) ∙ ap (high_number st.game (own_after st (set ∷ []) h)) b

-- so it is a full board for each hand
pub board_for : (st : State) (set board : List ℕ) → IsScene st set → board ≡ board_after st (set ∷ []) → IsBoardFor st board
board_for st set board s b = record {
  dealt = s.game;
  own = λ h l. own_of st set h s l;
  five = ap length b ∙ board_five st set s;
  away = λ h l. ap (λ own. apart own board) (sym (own_alone st set h s.alone (s.hands h l))) ∙ ap (apart (own_after st (set ∷ []) h)) b ∙ (full_of st set h s l).apart;
}

-- what a table and a runout of it give
pub scene_of : (spot : BoardSpot) (set : List ℕ) → HasMember (runouts_after (state_of spot.table.known)) (set ∷ []) → IsScene (state_of spot.table.known) set
scene_of spot set member = record {
  sound = known_sound spot.table.known.game spot.table.known.count spot.table.known.hands spot.table.known.board spot.table.known.dead spot.table.known.disjoint spot.table.known.fitting;
  alone = spot.alone;
  game = spot.dealt;
  member = member;
  hands = spot.hands;
  board = spot.board;
}

-- the place of a pair in a row
pub pair_inside : (st : State) (taken : List ℕ) (low high place : ℕ) → IsScene st (taken ++ low ∷ high ∷ []) → place ≡ 13 * rank_of low + rank_of high → place < 169
pair_inside st taken low high place s at =
    let rises = pair_rises st taken low high s.alone s.member in
    omega (arith, rises.0, rises.1)

-- a row has who is best with a pair
pub row_there : (deal : Showdown) (pot : ℕ) (taken : List ℕ) (low high place : ℕ) (row : Row) → IsScene deal.state (taken ++ low ∷ high ∷ []) → IsRowFor deal pot taken row → place ≡ 13 * rank_of low + rank_of high
    → IsBestOf deal pot ((taken ++ low ∷ high ∷ []) ∷ []) (slice_index row.mains place) (slice_index row.lows place) (slice_index row.tops place)
row_there deal pot taken low high place row s of_row at =
    let ranks = ranks_there deal.state taken low high place row.least s of_row.from_least at in
    of_row.right place ((taken ++ low ∷ high ∷ []) ∷ []) (pair_inside deal.state taken low high place s at) ranks.0 ranks.1 (dealt_there deal.state taken row.ranks low high place s of_row.of_ranks at)
