-- How far each board has come, after accepted events whose markers have their cards.
use Rattle.std.proofs.Common.{◌≡◌, ℕ, ◌+◌, ◌<◌, ◌≤◌, List, [], ◌∷◌, refl, sym, ap, ◌∙◌, Bool, true, false, not, ◌||◌, ◌⊎◌, inl, inr, arith, length}
use Rattle.std.specs.Prelude.{Option, Some, None, is_some, if◌then◌else◌, nat_lt, nat_le}
use Rattle.std.proofs.lemmas.Bool.Decides.{nat_tests}
use mathlib.Core.Bool.{true≢false}
use Rattle.card_sets.specs.Cards.{has_card, union}
use Rattle.card_sets.specs.declared.games.Game.{Game}
use Rattle.card_sets.specs.Games.{has_board}
use Rattle.hand_events.specs.declared.events.Header.{Header}
use Rattle.hand_events.specs.declared.events.BoardNumber.{BoardNumber}
use Rattle.hand_events.specs.declared.events.BoardNumber.TheVariants as board
use Rattle.hand_events.specs.declared.events.Event.{Event}
use Rattle.hand_events.specs.declared.events.Event.TheVariants.{Street, Discard, Pat}
use Rattle.card_sets.specs.declared.streets.Street.{Street as StreetName}
use Rattle.card_sets.specs.declared.streets.Street.TheVariants.{First, Flop, Turn, Fourth, Fifth, Sixth, River, Draw, FirstDraw, SecondDraw, ThirdDraw, ShowDown, Summary}
use Rattle.betting_replay.specs.declared.points.Point.{Point}
use Rattle.betting_replay.specs.Accepted.{IsAccepted}
use Rattle.betting_replay.specs.AllIn.{is_point, point_on, point_now}
use Rattle.betting_replay.specs.Accounts.{contenders}
use Rattle.betting_replay.specs.Boards.{is_second, cards_if, named_second, board_on, second_on, shared, second_own}
use Rattle.betting_replay.specs.CardLaws.{HasCards, MarkersFit, is_end_of, Among}
use Rattle.betting_replay.specs.Faults.{may_part, next_only, next_first, next_second, next_on}
use Rattle.betting_replay.specs.Places.{named, is_board}
use Rattle.betting_replay.specs.Seats.{or_else}
use Rattle.card_sets.specs.Streets.{next_street, is_last, cards_of_street}
use Rattle.betting_replay.specs.Streets.{begins, begins_on, is_end, same_street}
use Rattle.betting_replay.specs.Sums.{street, is_last_of, last_begun, twice_from, second_street, marker_board}
use Rattle.betting_replay.specs.TableAfter.{table_of, table_with, point}
use Rattle.betting_replay.specs.Turns.{contender_count}
use Rattle.card_sets.proofs.CallerLemmas.{union-nil, no_more}
use Rattle.std.proofs.lemmas.Bool.{and_parts, or_right}
use Rattle.betting_replay.proofs.lemmas.places.CardsBelong.{union_among, shared_among, second_among}
use Rattle.betting_replay.proofs.lemmas.streets.GameFamilies.{no_draw, none_begun, none_after_end, no_last_end}
use Rattle.betting_replay.proofs.lemmas.streets.EndedHands.{played_at, marked_end, SameBoards, no_more_boards, marker_ends, or_none}
use Rattle.betting_replay.proofs.lemmas.boards.BoardGrowth.{named_grows, among_named, same_on, none_on, none_second, same_second}
use Rattle.betting_replay.proofs.lemmas.boards.BoardSizes.{Sizes, quiet_sizes, bare_sizes, second_sizes, flop_sizes, turn_sizes, river_sizes, nothing_owned, no_cards_on, no_length, mid, far}
use Rattle.betting_replay.proofs.lemmas.boards.BegunStreets.{Phase, Before, OnFirst, OnFlop, OnTurn, OnRiver, street_at, is_over, one_size, two_size, all_size, has_come, has_begun, next_board, next_is, next_in, size_is, ends_board, last_is, last_phase, by_phase, first_more, flop_more, turn_more, flop_begun, turn_begun, is_before, first_early, flop_early, turn_early, size_on, size_before, shared_size, next_flop, next_turn, next_river}
use Rattle.betting_replay.proofs.lemmas.boards.TwoBoards.{stands_on, never_none, opened_some, point_more, point_kept, point_made}

-- the hand is on a street of the first board, of the second, or over
pub record FirstBoard (g : Header) (h : List Event) (n : Phase) : Type 0 where
  pub at : street g h ≡ street_at n
  pub marker : is_second (marker_board h) ≡ false
  pub none : second_street h ≡ None

pub record SecondBoard (g : Header) (h : List Event) (n : Phase) : Type 0 where
  pub last : StreetName
  pub at : street g h ≡ Some last
  pub marker : is_second (marker_board h) ≡ true
  pub come : second_street h ≡ Some last
  pub over : is_over n ≡ true

abbrev pub Stands : Header → List Event → Phase → Type 0
Stands g h n = FirstBoard g h n ⊎ (SecondBoard g h n ⊎ (is_end_of (street g h) ≡ true))

-- how far the second board has come
pub record Doubled (g : Header) (players : ℕ) (h : List Event) (n : Phase) : Type 0 where
  pub begun : (from : StreetName) → twice_from h ≡ Some from → has_begun n from ≡ true
  pub found : is_some (twice_from h) ≡ true → is_some (point g players h) ≡ true
  pub early : (from : StreetName) (found : Point) → twice_from h ≡ Some from → point g players h ≡ Some found → is_before found.street from ≡ true
  pub runs : is_some (second_street h) ≡ true → is_some (twice_from h) ≡ true
  pub over : is_some (second_street h) ≡ true → is_over n ≡ true
  pub none : second_street h ≡ None → second_own h ≡ []
  pub size : (s : StreetName) → second_street h ≡ Some s → length (union (shared h) (second_own h)) ≡ size_on s

pub record Reached (g : Header) (players : ℕ) (h : List Event) (n : Phase) : Type 0 where
  pub at : Stands g h n
  pub begun : last_begun g h ≡ is_over n
  pub sizes : Sizes g.game h (one_size n) (two_size n) (all_size n)
  pub pointed : (found : Point) → point g players h ≡ Some found → has_come n found.street ≡ true
  pub twice : Doubled g players h n

-- the point lies on a street that has begun
on_phase : (n : Phase) (o : Option StreetName) (seats : ℕ) (found : Point) → o ≡ street_at n → is_over n ≡ false → point_on o seats ≡ Some found → has_come n found.street ≡ true
on_phase Before o seats found e early is = (let no_one : None ≡ Some found = ap (λ (x : Option StreetName). point_on x seats) (sym e) ∙ is in cc)
on_phase OnFirst o seats found e early is = (let p : Some (record { street = First; contenders = seats }) ≡ Some found = ap (λ (x : Option StreetName). point_on x seats) (sym e) ∙ is in let s : record { street = First; contenders = seats } ≡ found = cc in ap (λ (x : Point). has_come OnFirst x.street) (sym s))
on_phase OnFlop o seats found e early is = (let p : Some (record { street = Flop; contenders = seats }) ≡ Some found = ap (λ (x : Option StreetName). point_on x seats) (sym e) ∙ is in let s : record { street = Flop; contenders = seats } ≡ found = cc in ap (λ (x : Point). has_come OnFlop x.street) (sym s))
on_phase OnTurn o seats found e early is = (let p : Some (record { street = Turn; contenders = seats }) ≡ Some found = ap (λ (x : Option StreetName). point_on x seats) (sym e) ∙ is in let s : record { street = Turn; contenders = seats } ≡ found = cc in ap (λ (x : Point). has_come OnTurn x.street) (sym s))
on_phase OnRiver o seats found e early is = cc

flipped : (b : Bool) → not b ≡ true → b ≡ false
flipped true h = cc
flipped false h = refl

clash : (b : Bool) (n : ℕ) → not b ≡ true → nat_le 2 n ≡ true → (b || nat_lt n 2) ≡ true → ⊥
clash true n h two few = true≢false (sym h)
clash false n h two few = absurd (let low : 2 ≤ n = grind (arith, nat_tests) in let high : n < 2 = grind (arith, nat_tests) in omega arith)

where_at : (g : Header) (players : ℕ) (h : List Event) (x : Option Point) (n : Phase) (found : Point) → IsAccepted g players h → last_begun g h ≡ is_over n → not (last_begun g h) ≡ true → nat_le 2 (contender_count (table_with g players h x)) ≡ true
    → Stands g h n → point_on (street g h) (contenders (table_with g players h x)) ≡ Some found → has_come n found.street ≡ true
where_at g players h x n found ok begun last two (inl e) is = on_phase n (street g h) (contenders (table_with g players h x)) found e.at (sym begun ∙ flipped (last_begun g h) last) is
where_at g players h x n found ok begun last two (inr (inl y)) is = absurd (true≢false (sym y.over ∙ sym begun ∙ flipped (last_begun g h) last))
where_at g players h x n found ok begun last two (inr (inr over)) is =
    let played : (last_begun g h || nat_lt (contender_count (table_with g players h x)) 2) ≡ true = played_at g players h x ok (marked_end g h over) in
    absurd (clash (last_begun g h) (contender_count (table_with g players h x)) last two played)

point_here : (g : Header) (players : ℕ) (h : List Event) (x : Option Point) (n : Phase) (found : Point) → IsAccepted g players h → Stands g h n → last_begun g h ≡ is_over n
    → point_now (table_with g players h x) ≡ Some found → has_come n found.street ≡ true
unfolding point_now is_point
point_here g players h x n found ok at begun is = one (is_point (table_with g players h x)) refl is
  where
    one : (b : Bool) → is_point (table_with g players h x) ≡ b → (if b then point_on (street g h) (contenders (table_with g players h x)) else None) ≡ Some found → has_come n found.street ≡ true
    one false p is = cc
    one true p is = where_at g players h x n found ok begun ((and_parts _ _ p).1) ((and_parts _ _ (and_parts _ _ (and_parts _ _ (and_parts _ _ p).0).0).0).1) at is

-- the point of more events
point_after : (g : Header) (players : ℕ) (e : Event) (h : List Event) (n m : Phase) → IsAccepted g players (e ∷ h) → Stands g (e ∷ h) m → last_begun g (e ∷ h) ≡ is_over m
    → ((found : Point) → point g players h ≡ Some found → has_come n found.street ≡ true) → ((s : StreetName) → has_come n s ≡ true → has_come m s ≡ true) → (found : Point) → point g players (e ∷ h) ≡ Some found → has_come m found.street ≡ true
unfolding point
point_after g players e h n m ok at begun old more found is = one (point g players h) refl (point_now (table_with g players (e ∷ h) None)) is (λ here. point_here g players (e ∷ h) None m found ok at begun here)
  where
    one : (o : Option Point) → point g players h ≡ o → (now : Option Point) → or_else o now ≡ Some found → (now ≡ Some found → has_come m found.street ≡ true) → has_come m found.street ≡ true
    one None was now is here = here is
    one (Some x) was now is here = more found.street (old found (was ∙ is))

-- before the first event
at_first : (g : Header) (players : ℕ) → Reached g players [] Before
unfolding point
at_first g players = record {
  at = inl (record { at = refl; marker = refl; none = refl });
  begun = refl;
  sizes = record { one = refl; two = ap length no_more; all = rw no_more (ap length no_more); own = ap length (nothing_owned g.game) };
  pointed = λ found is. cc;
  twice = record {
    begun = λ from is. cc;
    found = λ some. absurd (true≢false (sym some));
    early = λ from found is at. cc;
    runs = λ some. absurd (true≢false (sym some));
    over = λ some. absurd (true≢false (sym some));
    none = λ is. rw no_more no_more;
    size = λ s is. cc;
  };
}

-- an event that leaves the boards that there are, with what the second shares and has
doubled_same : (g : Header) (players : ℕ) (e : Event) (h : List Event) (n m : Phase) → SameBoards e h → ((t : StreetName) → has_begun n t ≡ true → has_begun m t ≡ true) → (is_over n ≡ true → is_over m ≡ true)
    → second_own (e ∷ h) ≡ second_own h → (is_some (second_street h) ≡ true → shared (e ∷ h) ≡ shared h) → Doubled g players h n → Doubled g players (e ∷ h) m
doubled_same g players e h n m same more over own share x = record {
  begun = λ from is. more from (x.begun from (sym same.twice ∙ is));
  found = λ some. point_more g players e h (x.found (ap is_some (sym same.twice) ∙ some));
  early = λ from found is at. (let was : twice_from h ≡ Some from = sym same.twice ∙ is in x.early from found was (sym (point_kept g players e h (x.found (ap is_some was))) ∙ at));
  runs = λ some. ap is_some same.twice ∙ x.runs (ap is_some (sym same.second) ∙ some);
  over = λ some. over (x.over (ap is_some (sym same.second) ∙ some));
  none = λ is. own ∙ x.none (sym same.second ∙ is);
  size = λ s is. (let was : second_street h ≡ Some s = sym same.second ∙ is in
      let alike : union (shared (e ∷ h)) (second_own (e ∷ h)) ≡ union (shared h) (second_own h) = rw (share (ap is_some was), own) refl in
      ap length alike ∙ x.size s was);
}

same_own : (e : Event) (h : List Event) → ((s : StreetName) → named_second s e ≡ []) → second_own (e ∷ h) ≡ second_own h
same_own e h none = rw (same_second Flop e h (none Flop), same_second Turn e h (none Turn), same_second River e h (none River)) refl

same_shared : (e : Event) (h : List Event) → twice_from (e ∷ h) ≡ twice_from h → ((s : StreetName) → board_on s (e ∷ h) ≡ board_on s h) → shared (e ∷ h) ≡ shared h
same_shared e h twice on = rw (twice, on Flop, on Turn, on River) refl

-- an event that is no marker begins no street
no_street : (game : Game) (o : Option StreetName) (e : Event) → has_board game ≡ true → is_board e ≡ false → begins game o e ≡ None
no_street game o (Street s number cards) b plain = cc
no_street game o (Discard seat count cards) b plain = none_begun game o (no_draw game b)
no_street game o (Pat seat) b plain = none_begun game o (no_draw game b)
no_street game o _ b plain = refl

no_board_begun : (n : BoardNumber) (e : Event) → is_board e ≡ false → begins_on n e ≡ None
no_board_begun n (Street s number cards) plain = cc
no_board_begun n _ plain = refl

same_marker : (e : Event) (h : List Event) → is_board e ≡ false → marker_board (e ∷ h) ≡ marker_board h
same_marker (Street s number cards) h plain = cc
same_marker _ h plain = refl

quiet : (g : Header) (players : ℕ) (e : Event) (h : List Event) (n : Phase) → IsAccepted g players (e ∷ h) → has_board g.game ≡ true → is_board e ≡ false → Reached g players h n → Reached g players (e ∷ h) n
quiet g players e h n ok b plain x =
    let none : begins g.game (street g h) e ≡ None = no_street g.game (street g h) e b plain in
    let s : street g (e ∷ h) ≡ street g h = rw none refl in
    let l : last_begun g (e ∷ h) ≡ last_begun g h = rw none refl in
    let same : SameBoards e h = no_more_boards e h (no_board_begun board.First e plain) (no_board_begun board.Second e plain) in
    let begun : last_begun g (e ∷ h) ≡ is_over n = l ∙ x.begun in
    let at : Stands g (e ∷ h) n = stay s same x.at in
    record {
      at = at;
      begun = begun;
      sizes = quiet_sizes g players e h _ _ _ ok plain x.sizes;
      pointed = point_after g players e h n n ok at begun x.pointed (λ t is. is);
      twice = doubled_same g players e h n n same (λ t is. is) (λ is. is) (same_own e h (λ s. none_second s e plain)) (λ some. same_shared e h same.twice (λ s. same_on g players s e h ok.2 (none_on s e plain))) x.twice;
    }
  where
    stay : street g (e ∷ h) ≡ street g h → SameBoards e h → Stands g h n → Stands g (e ∷ h) n
    stay s same (inl y) = inl (record { at = s ∙ y.at; marker = ap is_second (same_marker e h plain) ∙ y.marker; none = same.second ∙ y.none })
    stay s same (inr (inl y)) = inr (inl (record { last = y.last; at = s ∙ y.at; marker = ap is_second (same_marker e h plain) ∙ y.marker; come = same.second ∙ y.come; over = y.over }))
    stay s same (inr (inr over)) = inr (inr (ap is_end_of s ∙ over))

-- a showdown's marker or the summary's
no_second_cards : (s m : StreetName) (number : BoardNumber) (cards : List ℕ) → cards ≡ [] → named_second s (Street m number cards) ≡ []
no_second_cards s m number cards none = by (is_second number) (same_street m (Some s))
  where
    by : (a b : Bool) → (if a then cards_if b cards else []) ≡ []
    by true true = none
    by true false = refl
    by false b = refl

ended : (g : Header) (players : ℕ) (s : StreetName) (number : BoardNumber) (cards : List ℕ) (h : List Event) (n : Phase) → IsAccepted g players (Street s number cards ∷ h) → is_end s ≡ true → is_last g.game s ≡ false → length cards ≡ 0 → Reached g players h n → Reached g players (Street s number cards ∷ h) n
ended g players s number cards h n ok over other none x =
    let e : Event = Street s number cards in
    let begun : last_begun g (e ∷ h) ≡ is_over n = rw other x.begun in
    let same : SameBoards e h = marker_ends s number cards h over in
    let empty : cards ≡ [] = no_length cards none in
    record {
      at = inr (inr over);
      begun = begun;
      sizes = bare_sizes g players s number cards h _ _ _ ok none x.sizes;
      pointed = point_after g players e h n n ok (inr (inr over)) begun x.pointed (λ t is. is);
      twice = doubled_same g players e h n n same (λ t is. is) (λ is. is) (same_own e h (λ t. no_second_cards t s number cards empty)) (λ some. same_shared e h same.twice (λ t. same_on g players t e h ok.2 (no_cards_on t s number cards empty))) x.twice;
    }

-- a marker of the only board or of the first: the next street of the board; and the boards stay, or there are two from here on
record Parts (g : Header) (players : ℕ) (s : StreetName) (number : BoardNumber) (cards : List ℕ) (h : List Event) : Type 0 where
  twice : twice_from (Street s number cards ∷ h) ≡ Some s
  second : second_street (Street s number cards ∷ h) ≡ second_street h
  may : may_part (table_of g players h) ≡ true

record Comes (g : Header) (players : ℕ) (s : StreetName) (number : BoardNumber) (cards : List ℕ) (h : List Event) (n : Phase) : Type 0 where
  first : is_second number ≡ false
  here : FirstBoard g h n
  next : same_street s (next_board (street_at n)) ≡ true
  parts : SameBoards (Street s number cards) h ⊎ Parts g players s number cards h

first_at : (g : Header) (h : List Event) (n : Phase) (s : StreetName) → has_board g.game ≡ true → Stands g h n → (SecondBoard g h n → ⊥) → same_street s (next_street g.game (street g h)) ≡ true → FirstBoard g h n
first_at g h n s b (inl x) never stands = x
first_at g h n s b (inr (inl y)) never stands = absurd (never y)
first_at g h n s b (inr (inr over)) never stands = absurd (never_none s (ap (same_street s) (sym (none_after_end g.game (street g h) over)) ∙ stands))

next_at : (g : Header) (h : List Event) (n : Phase) (s : StreetName) → has_board g.game ≡ true → FirstBoard g h n → same_street s (next_street g.game (street g h)) ≡ true → same_street s (next_board (street_at n)) ≡ true
next_at g h n s b x stands = ap (same_street s) (ap next_board (sym x.at) ∙ sym (next_is g.game (street g h) b)) ∙ stands

only_comes : (g : Header) (players : ℕ) (s : StreetName) (cards : List ℕ) (h : List Event) (n : Phase) → has_board g.game ≡ true → Reached g players h n → (o : Option StreetName) → twice_from h ≡ o → same_street s (next_only o (next_street g.game (street g h))) ≡ true
    → Comes g players s board.Only cards h n
only_comes g players s cards h n b x (Some from) is stands = absurd (never_none s stands)
only_comes g players s cards h n b x None is stands =
    let never : SecondBoard g h n → ⊥ = (λ y. true≢false (sym (x.twice.runs (ap is_some y.come)) ∙ ap is_some is)) in
    let on : FirstBoard g h n = first_at g h n s b x.at never stands in
    record { first = refl; here = on; next = next_at g h n s b on stands; parts = inl (no_more_boards (Street s board.Only cards) h refl refl) }

first_comes : (g : Header) (players : ℕ) (s : StreetName) (cards : List ℕ) (h : List Event) (n : Phase) → has_board g.game ≡ true → is_end s ≡ false → Reached g players h n → (may : Bool) → may_part (table_of g players h) ≡ may → (o : Option StreetName) → twice_from h ≡ o
    → (m : BoardNumber) → marker_board h ≡ m → same_street s (next_first may o m (next_street g.game (street g h))) ≡ true → Comes g players s board.First cards h n
first_comes g players s cards h n b plain x true may None is m on stands =
    let never : SecondBoard g h n → ⊥ = (λ y. true≢false (sym (x.twice.runs (ap is_some y.come)) ∙ ap is_some is)) in
    let at : FirstBoard g h n = first_at g h n s b x.at never stands in
    record { first = refl; here = at; next = next_at g h n s b at stands; parts = inr (record { twice = rw (is, plain) refl; second = refl; may = may }) }
first_comes g players s cards h n b plain x false may None is m on stands = absurd (never_none s stands)
first_comes g players s cards h n b plain x may is_may (Some from) is board.Only on stands = absurd (never_none s stands)
first_comes g players s cards h n b plain x may is_may (Some from) is board.Second on stands = absurd (never_none s stands)
first_comes g players s cards h n b plain x may is_may (Some from) is board.First on stands =
    let never : SecondBoard g h n → ⊥ = (λ y. true≢false (sym y.marker ∙ ap is_second on)) in
    let at : FirstBoard g h n = first_at g h n s b x.at never stands in
    record { first = refl; here = at; next = next_at g h n s b at stands; parts = inl (record { twice = rw is refl; second = refl }) }

comes : (g : Header) (players : ℕ) (s : StreetName) (number : BoardNumber) (cards : List ℕ) (h : List Event) (n : Phase) → has_board g.game ≡ true → is_end s ≡ false → is_second number ≡ false → Reached g players h n → same_street s (next_on (table_of g players h) number) ≡ true
    → Comes g players s number cards h n
comes g players s board.Only cards h n b plain first x stands = only_comes g players s cards h n b x (twice_from h) refl stands
comes g players s board.First cards h n b plain first x stands = first_comes g players s cards h n b plain x (may_part (table_of g players h)) refl (twice_from h) refl (marker_board h) refl stands
comes g players s board.Second cards h n b plain first x stands = cc

no_second_of : (t s : StreetName) (number : BoardNumber) (cards : List ℕ) → is_second number ≡ false → named_second t (Street s number cards) ≡ []
no_second_of t s number cards first = ap (λ a. if a then cards_if (same_street s (Some t)) cards else []) first

doubled_first : (g : Header) (players : ℕ) (s : StreetName) (number : BoardNumber) (cards : List ℕ) (h : List Event) (n m : Phase) → IsAccepted g players (Street s number cards ∷ h) → is_end s ≡ false → is_over n ≡ false → ((t : StreetName) → has_begun n t ≡ true → has_begun m t ≡ true)
    → (may_part (table_of g players h) ≡ true → has_begun m s ≡ true) → ((t : StreetName) → has_come n t ≡ true → is_before t s ≡ true) → Reached g players h n → Comes g players s number cards h n → Doubled g players (Street s number cards ∷ h) m
doubled_first g players s number cards h n m ok plain before more here soon x c = by c.parts
  where
    e : Event
    e = Street s number cards

    no_second : is_some (second_street h) ≡ true → ⊥
    no_second some = true≢false (sym some ∙ ap is_some c.here.none)

    own : second_own (e ∷ h) ≡ second_own h
    own = same_own e h (λ t. no_second_of t s number cards c.first)

    by : SameBoards e h ⊎ Parts g players s number cards h → Doubled g players (e ∷ h) m
    by (inl same) = doubled_same g players e h n m same more (λ over. absurd (true≢false (sym over ∙ before))) own (λ some. absurd (no_second some)) x.twice
    by (inr p) = record {
      begun = λ from is. (let one : Some s ≡ Some from = sym p.twice ∙ is in let same : s ≡ from = cc in ap (has_begun m) (sym same) ∙ here p.may);
      found = λ some. point_more g players e h (point_made g players s number cards h ok plain p.may (x.begun ∙ before));
      early = λ from found is at. (let one : Some s ≡ Some from = sym p.twice ∙ is in let same : s ≡ from = cc in
          let was : point g players h ≡ Some found = sym (point_kept g players e h (point_made g players s number cards h ok plain p.may (x.begun ∙ before))) ∙ at in
          ap (is_before found.street) (sym same) ∙ soon found.street (x.pointed found was));
      runs = λ some. absurd (no_second (ap is_some (sym p.second) ∙ some));
      over = λ some. absurd (no_second (ap is_some (sym p.second) ∙ some));
      none = λ is. own ∙ x.twice.none c.here.none;
      size = λ t is. absurd (no_second (ap is_some (sym p.second ∙ is)));
    }

-- the next street begins
begins_at : (g : Header) (players : ℕ) (s : StreetName) (number : BoardNumber) (cards : List ℕ) (h : List Event) (n m : Phase) → IsAccepted g players (Street s number cards ∷ h) → has_board g.game ≡ true → is_end s ≡ false → Some s ≡ street_at m → ends_board s ≡ is_over m → is_over n ≡ false
    → Sizes g.game (Street s number cards ∷ h) (one_size m) (two_size m) (all_size m) → ((t : StreetName) → has_come n t ≡ true → has_come m t ≡ true) → ((t : StreetName) → has_begun n t ≡ true → has_begun m t ≡ true) → (may_part (table_of g players h) ≡ true → has_begun m s ≡ true)
    → ((t : StreetName) → has_come n t ≡ true → is_before t s ≡ true) → Reached g players h n → Comes g players s number cards h n → Reached g players (Street s number cards ∷ h) m
begins_at g players s number cards h n m ok b plain here over before sizes more begun_more begun_here soon x c =
    let e : Event = Street s number cards in
    let begun : last_begun g (e ∷ h) ≡ is_over m = rw (last_is g.game s b, x.begun, before) (off (ends_board s) ∙ over) in
    let at : Stands g (e ∷ h) m = inl (record { at = here; marker = c.first; none = still c.parts ∙ c.here.none }) in
    record { at = at; begun = begun; sizes = sizes; pointed = point_after g players e h n m ok at begun x.pointed more; twice = doubled_first g players s number cards h n m ok plain before begun_more begun_here soon x c }
  where
    off : (b : Bool) → (b || false) ≡ b
    off true = refl
    off false = refl

    still : SameBoards (Street s number cards) h ⊎ Parts g players s number cards h → second_street (Street s number cards ∷ h) ≡ second_street h
    still (inl same) = same.second
    still (inr p) = p.second

many : (g : Header) (s : StreetName) (cards : List ℕ) (n : ℕ) → has_board g.game ≡ true → HasCards g.game s cards → cards_of_street s ≡ n → length cards ≡ n
many g s cards n b x size = x.many ∙ size_is g.game s b ∙ size

-- the first street can't have two boards
unopened : (g : Header) (players : ℕ) (h : List Event) → street g h ≡ None → may_part (table_of g players h) ≡ true → ⊥
unfolding may_part
unopened g players h none may = true≢false (sym (opened_some g h (and_parts _ _ (and_parts _ _ may).0).1) ∙ ap is_some none)

first_step : (g : Header) (players : ℕ) (number : BoardNumber) (cards : List ℕ) (h : List Event) (n : Phase) → IsAccepted g players (Street First number cards ∷ h) → has_board g.game ≡ true → HasCards g.game First cards → Reached g players h n → Comes g players First number cards h n → same_street First (next_board (street_at n)) ≡ true
    → (m : Phase) × Reached g players (Street First number cards ∷ h) m
first_step g players number cards h Before ok b fits x c next = (
  OnFirst,
  begins_at g players First number cards h Before OnFirst ok b refl refl refl refl (bare_sizes g players First number cards h 0 0 0 ok (many g First cards 0 b fits refl) x.sizes)
      (λ t is. absurd (true≢false (sym is))) (λ t is. absurd (true≢false (sym is))) (λ may. absurd (unopened g players h c.here.at may)) (λ t is. absurd (true≢false (sym is))) x c,
)
first_step g players number cards h OnFirst ok b fits x c next = cc
first_step g players number cards h OnFlop ok b fits x c next = cc
first_step g players number cards h OnTurn ok b fits x c next = cc
first_step g players number cards h OnRiver ok b fits x c next = cc

sized : (game : Game) (h : List Event) (a b c a' b' c' : ℕ) → a ≡ a' → b ≡ b' → c ≡ c' → Sizes game h a b c → Sizes game h a' b' c'
sized game h a b c a' b' c' e f i x = record { one = x.one ∙ e; two = x.two ∙ f; all = x.all ∙ i; own = x.own ∙ i }

flop_step : (g : Header) (players : ℕ) (number : BoardNumber) (cards : List ℕ) (h : List Event) (n : Phase) → IsAccepted g players (Street Flop number cards ∷ h) → has_board g.game ≡ true → HasCards g.game Flop cards → Reached g players h n → Comes g players Flop number cards h n → same_street Flop (next_board (street_at n)) ≡ true
    → (m : Phase) × Reached g players (Street Flop number cards ∷ h) m
flop_step g players number cards h OnFirst ok b fits x c next =
    let three : length cards ≡ 3 = many g Flop cards 3 b fits refl in
    (OnFlop, begins_at g players Flop number cards h OnFirst OnFlop ok b refl refl refl refl (sized g.game _ _ _ _ 3 3 3 (omega arith) (omega arith) (omega arith) (flop_sizes g players number cards h 0 0 0 ok c.first fits.deck x.sizes)) first_more (λ t is. absurd (true≢false (sym is))) (λ may. refl) first_early x c)
flop_step g players number cards h Before ok b fits x c next = cc
flop_step g players number cards h OnFlop ok b fits x c next = cc
flop_step g players number cards h OnTurn ok b fits x c next = cc
flop_step g players number cards h OnRiver ok b fits x c next = cc

turn_step : (g : Header) (players : ℕ) (number : BoardNumber) (cards : List ℕ) (h : List Event) (n : Phase) → IsAccepted g players (Street Turn number cards ∷ h) → has_board g.game ≡ true → HasCards g.game Turn cards → Reached g players h n → Comes g players Turn number cards h n → same_street Turn (next_board (street_at n)) ≡ true
    → (m : Phase) × Reached g players (Street Turn number cards ∷ h) m
turn_step g players number cards h OnFlop ok b fits x c next =
    let one : length cards ≡ 1 = many g Turn cards 1 b fits refl in
    (OnTurn, begins_at g players Turn number cards h OnFlop OnTurn ok b refl refl refl refl (sized g.game _ _ _ _ 3 4 4 refl (omega arith) (omega arith) (turn_sizes g players number cards h 3 3 3 ok c.first fits.deck x.sizes)) flop_more flop_begun (λ may. refl) flop_early x c)
turn_step g players number cards h Before ok b fits x c next = cc
turn_step g players number cards h OnFirst ok b fits x c next = cc
turn_step g players number cards h OnTurn ok b fits x c next = cc
turn_step g players number cards h OnRiver ok b fits x c next = cc

river_step : (g : Header) (players : ℕ) (number : BoardNumber) (cards : List ℕ) (h : List Event) (n : Phase) → IsAccepted g players (Street River number cards ∷ h) → has_board g.game ≡ true → HasCards g.game River cards → Reached g players h n → Comes g players River number cards h n → same_street River (next_board (street_at n)) ≡ true
    → (m : Phase) × Reached g players (Street River number cards ∷ h) m
river_step g players number cards h OnTurn ok b fits x c next =
    let one : length cards ≡ 1 = many g River cards 1 b fits refl in
    (OnRiver, begins_at g players River number cards h OnTurn OnRiver ok b refl refl refl refl (sized g.game _ _ _ _ 3 4 5 refl refl (omega arith) (river_sizes g players number cards h 3 4 4 ok c.first fits.deck x.sizes)) turn_more turn_begun (λ may. refl) turn_early x c)
river_step g players number cards h Before ok b fits x c next = cc
river_step g players number cards h OnFirst ok b fits x c next = cc
river_step g players number cards h OnFlop ok b fits x c next = cc
river_step g players number cards h OnRiver ok b fits x c next = cc

-- a marker of the second board: the street from which on there are two, or the next
record Starts (h : List Event) (s : StreetName) : Type 0 where
  from : StreetName
  is : twice_from h ≡ Some from
  none : second_street h ≡ None
  same : same_street s (Some from) ≡ true

record Follows (h : List Event) (s : StreetName) : Type 0 where
  last : StreetName
  come : second_street h ≡ Some last
  next : same_street s (next_board (Some last)) ≡ true

record Again (g : Header) (h : List Event) (n : Phase) (s : StreetName) : Type 0 where
  runs : is_some (twice_from h) ≡ true
  over : is_over n ≡ true
  grows : Starts h s ⊎ Follows h s

last_at : (g : Header) (h : List Event) (n : Phase) → has_board g.game ≡ true → Stands g h n → (SecondBoard g h n → ⊥) → is_last_of g.game (street g h) ≡ true → FirstBoard g h n × (is_over n ≡ true)
last_at g h n b (inl x) never last = (x, by (street g h) x.at last)
  where
    by : (o : Option StreetName) → o ≡ street_at n → is_last_of g.game o ≡ true → is_over n ≡ true
    by None e last = cc
    by (Some s) e last = last_phase n s e (sym (last_is g.game s b) ∙ last)
last_at g h n b (inr (inl y)) never last = absurd (never y)
last_at g h n b (inr (inr over)) never last = absurd (true≢false (sym last ∙ no_last_end g.game (street g h) over))

again_next : (g : Header) (players : ℕ) (h : List Event) (n : Phase) (s : StreetName) → has_board g.game ≡ true → Reached g players h n → Stands g h n → is_some (twice_from h) ≡ true → is_second (marker_board h) ≡ true → same_street s (next_street g.game (street g h)) ≡ true → Again g h n s
again_next g players h n s b x (inl y) runs on stands = absurd (true≢false (sym on ∙ y.marker))
again_next g players h n s b x (inr (inl y)) runs on stands = record {
  runs = runs;
  over = y.over;
  grows = inr (record { last = y.last; come = y.come; next = ap (same_street s) (ap next_board (sym y.at) ∙ sym (next_is g.game (street g h) b)) ∙ stands });
}
again_next g players h n s b x (inr (inr over)) runs on stands = absurd (never_none s (ap (same_street s) (sym (none_after_end g.game (street g h) over)) ∙ stands))

again : (g : Header) (players : ℕ) (h : List Event) (n : Phase) (s : StreetName) → has_board g.game ≡ true → Reached g players h n → (o : Option StreetName) → twice_from h ≡ o → (m : BoardNumber) → marker_board h ≡ m → (last : Bool) → is_last_of g.game (street g h) ≡ last
    → same_street s (next_second o m last (next_street g.game (street g h))) ≡ true → Again g h n s
again g players h n s b x None is m on last ends stands = absurd (never_none s stands)
again g players h n s b x (Some from) is board.Only on last ends stands = absurd (never_none s stands)
again g players h n s b x (Some from) is board.First on false ends stands = absurd (never_none s stands)
again g players h n s b x (Some from) is board.First on true ends stands =
    let w = last_at g h n b x.at (λ y. true≢false (sym y.marker ∙ ap is_second on)) ends in
    record { runs = ap is_some is; over = w.1; grows = inl (record { from = from; is = is; none = w.0.none; same = stands }) }
again g players h n s b x (Some from) is board.Second on last ends stands = again_next g players h n s b x x.at (ap is_some is) (ap is_second on) stands

-- then it has that street's cards too
named_part : (g : Header) (players : ℕ) (h : List Event) → IsAccepted g players h → Among (union (shared h) (second_own h)) (named g.game h)
named_part g players h ok = union_among _ _ _ (among_named g.game h 0 (shared h) (shared_among g players h ok)) (among_named g.game h 11 (second_own h) (second_among g players h ok))

base_size : (g : Header) (players : ℕ) (h : List Event) (n : Phase) (from : StreetName) → IsAccepted g players h → Reached g players h n → twice_from h ≡ Some from → second_street h ≡ None → length (union (shared h) (second_own h)) ≡ size_before from
base_size g players h n from ok x is none =
    ap length (ap (union (shared h)) (x.twice.none none) ∙ union-nil (shared h) (shared_among g players h ok).set)
    ∙ shared_size g.game h n from x.sizes is (x.twice.begun from is)

second_step : (g : Header) (players : ℕ) (s : StreetName) (cards : List ℕ) (h : List Event) (n : Phase) (old : ℕ) → IsAccepted g players (Street s board.Second cards ∷ h) → has_board g.game ≡ true → is_end s ≡ false → ((k : ℕ) → has_card cards k ≡ true → k < 52)
    → second_own (Street s board.Second cards ∷ h) ≡ union (second_own h) cards → length (union (shared h) (second_own h)) ≡ old → old + length cards ≡ size_on s → Reached g players h n → Again g h n s → Reached g players (Street s board.Second cards ∷ h) n
second_step g players s cards h n old ok b plain deck own was grown x a =
    let e : Event = Street s board.Second cards in
    let twice : twice_from (e ∷ h) ≡ twice_from h = or_none (twice_from h) in
    let come : second_street (e ∷ h) ≡ Some s = rw plain refl in
    let share : shared (e ∷ h) ≡ shared h = same_shared e h twice (λ t. same_on g players t e h ok.2 refl) in
    let begun : last_begun g (e ∷ h) ≡ is_over n = or_right (is_last g.game s) (last_begun g h) (x.begun ∙ a.over) ∙ sym a.over in
    let at : Stands g (e ∷ h) n = inr (inl (record { last = s; at = refl; marker = refl; come = come; over = a.over })) in
    let both_own : union (shared (e ∷ h)) (second_own (e ∷ h)) ≡ union (union (shared h) (second_own h)) cards = rw (share, own) (far (shared h) (second_own h) cards) in
    let size : length (union (shared (e ∷ h)) (second_own (e ∷ h))) ≡ size_on s = ap length both_own ∙ named_grows g players s board.Second cards h _ ok deck (named_part g players h ok.2) ∙ ap (λ k. k + length cards) was ∙ grown in
    record {
      at = at;
      begun = begun;
      sizes = second_sizes g players s cards h _ _ _ ok x.sizes;
      pointed = point_after g players e h n n ok at begun x.pointed (λ t is. is);
      twice = record {
        begun = λ from is. x.twice.begun from (sym twice ∙ is);
        found = λ some. point_more g players e h (x.twice.found (ap is_some (sym twice) ∙ some));
        early = λ from found is at. x.twice.early from found (sym twice ∙ is) (sym (point_kept g players e h (x.twice.found a.runs)) ∙ at);
        runs = λ some. ap is_some twice ∙ a.runs;
        over = λ some. a.over;
        none = λ is. (let never : Some s ≡ None = sym come ∙ is in cc);
        size = λ t is. (let one : Some s ≡ Some t = sym come ∙ is in let same : s ≡ t = cc in size ∙ ap size_on same);
      };
    }

own_flop : (cards : List ℕ) (h : List Event) → second_own (Street Flop board.Second cards ∷ h) ≡ union (second_own h) cards
own_flop cards h =
    let e : Event = Street Flop board.Second cards in
    let t : second_on Turn (e ∷ h) ≡ second_on Turn h = same_second Turn e h refl in
    let r : second_on River (e ∷ h) ≡ second_on River h = same_second River e h refl in
    let two : union (second_on Flop (e ∷ h)) (second_on Turn (e ∷ h)) ≡ union (union (second_on Flop h) (second_on Turn h)) cards = ap (union (union (second_on Flop h) cards)) t ∙ mid (second_on Flop h) (second_on Turn h) cards in
    rw (two, r) (mid (union (second_on Flop h) (second_on Turn h)) (second_on River h) cards)

own_turn : (cards : List ℕ) (h : List Event) → second_own (Street Turn board.Second cards ∷ h) ≡ union (second_own h) cards
own_turn cards h =
    let e : Event = Street Turn board.Second cards in
    let f : second_on Flop (e ∷ h) ≡ second_on Flop h = same_second Flop e h refl in
    let r : second_on River (e ∷ h) ≡ second_on River h = same_second River e h refl in
    let two : union (second_on Flop (e ∷ h)) (second_on Turn (e ∷ h)) ≡ union (union (second_on Flop h) (second_on Turn h)) cards = rw f (far (second_on Flop h) (second_on Turn h) cards) in
    rw (two, r) (mid (union (second_on Flop h) (second_on Turn h)) (second_on River h) cards)

own_river : (cards : List ℕ) (h : List Event) → second_own (Street River board.Second cards ∷ h) ≡ union (second_own h) cards
own_river cards h =
    let e : Event = Street River board.Second cards in
    let f : second_on Flop (e ∷ h) ≡ second_on Flop h = same_second Flop e h refl in
    let t : second_on Turn (e ∷ h) ≡ second_on Turn h = same_second Turn e h refl in
    rw (f, t) (far (union (second_on Flop h) (second_on Turn h)) (second_on River h) cards)

flop_only : (t : StreetName) → same_street Flop (Some t) ≡ true → size_before t ≡ 0
flop_only Flop is = refl
flop_only _ is = cc

turn_only : (t : StreetName) → same_street Turn (Some t) ≡ true → size_before t ≡ 3
turn_only Turn is = refl
turn_only _ is = cc

river_only : (t : StreetName) → same_street River (Some t) ≡ true → size_before t ≡ 4
river_only River is = refl
river_only _ is = cc

again_size : (g : Header) (players : ℕ) (h : List Event) (n : Phase) (s : StreetName) (old : ℕ) → IsAccepted g players h → Reached g players h n → ((t : StreetName) → same_street s (Some t) ≡ true → size_before t ≡ old) → ((t : StreetName) → same_street s (next_board (Some t)) ≡ true → size_on t ≡ old)
    → Again g h n s → length (union (shared h) (second_own h)) ≡ old
again_size g players h n s old ok x from next a = by a.grows
  where
    by : Starts h s ⊎ Follows h s → length (union (shared h) (second_own h)) ≡ old
    by (inl w) = base_size g players h n w.from ok x w.is w.none ∙ from w.from w.same
    by (inr w) = x.twice.size w.last w.come ∙ next w.last w.next

-- no other street comes on a board
stray : (g : Header) (players : ℕ) (s : StreetName) (number : BoardNumber) (cards : List ℕ) (h : List Event) (n : Phase) → ((n : Phase) → same_street s (next_board (street_at n)) ≡ true → ⊥) → Comes g players s number cards h n → ⊥
stray g players s number cards h n never c = never n c.next

stray_again : (g : Header) (players : ℕ) (h : List Event) (n : Phase) (s : StreetName) → Reached g players h n → ((t : StreetName) → same_street s (Some t) ≡ true → has_begun n t ≡ true → ⊥) → ((t : StreetName) → same_street s (next_board (Some t)) ≡ false) → Again g h n s → ⊥
stray_again g players h n s x from next a = by a.grows
  where
    by : Starts h s ⊎ Follows h s → ⊥
    by (inl w) = from w.from w.same (x.twice.begun w.from w.is)
    by (inr w) = true≢false (sym w.next ∙ next w.last)

-- a marker of any board
by_board : (P : BoardNumber → Type 0) → P board.Second → ((number : BoardNumber) → is_second number ≡ false → P number) → (number : BoardNumber) → P number
by_board P second first board.Only = first board.Only refl
by_board P second first board.First = first board.First refl
by_board P second first board.Second = second

abbrev Next : Header → ℕ → StreetName → List ℕ → List Event → BoardNumber → Type 0
Next g players s cards h number = IsAccepted g players (Street s number cards ∷ h) → (m : Phase) × Reached g players (Street s number cards ∷ h) m

again_at : (g : Header) (players : ℕ) (s : StreetName) (cards : List ℕ) (h : List Event) (n : Phase) → has_board g.game ≡ true → is_end s ≡ false → Reached g players h n → IsAccepted g players (Street s board.Second cards ∷ h) → Again g h n s
again_at g players s cards h n b plain x ok = again g players h n s b x (twice_from h) refl (marker_board h) refl (is_last_of g.game (street g h)) refl (stands_on g players s board.Second cards h ok plain).0

comes_at : (g : Header) (players : ℕ) (s : StreetName) (number : BoardNumber) (cards : List ℕ) (h : List Event) (n : Phase) → has_board g.game ≡ true → is_end s ≡ false → is_second number ≡ false → Reached g players h n → IsAccepted g players (Street s number cards ∷ h) → Comes g players s number cards h n
comes_at g players s number cards h n b plain first x ok = comes g players s number cards h n b plain first x (stands_on g players s number cards h ok plain).0

flop_next : (g : Header) (players : ℕ) (cards : List ℕ) (h : List Event) (n : Phase) → has_board g.game ≡ true → HasCards g.game Flop cards → Reached g players h n → (number : BoardNumber) → Next g players Flop cards h number
flop_next g players cards h n b fits x = by_board (Next g players Flop cards h)
    (λ ok. (let a : Again g h n Flop = again_at g players Flop cards h n b refl x ok in let three : length cards ≡ 3 = many g Flop cards 3 b fits refl in
    (n, second_step g players Flop cards h n 0 ok b refl fits.deck (own_flop cards h) (again_size g players h n Flop 0 ok.2 x flop_only next_flop a) (ap (λ k. 0 + k) three) x a)))
    (λ number first ok. (let c = comes_at g players Flop number cards h n b refl first x ok in flop_step g players number cards h n ok b fits x c c.next))

turn_next : (g : Header) (players : ℕ) (cards : List ℕ) (h : List Event) (n : Phase) → has_board g.game ≡ true → HasCards g.game Turn cards → Reached g players h n → (number : BoardNumber) → Next g players Turn cards h number
turn_next g players cards h n b fits x = by_board (Next g players Turn cards h)
    (λ ok. (let a : Again g h n Turn = again_at g players Turn cards h n b refl x ok in let one : length cards ≡ 1 = many g Turn cards 1 b fits refl in
    (n, second_step g players Turn cards h n 3 ok b refl fits.deck (own_turn cards h) (again_size g players h n Turn 3 ok.2 x turn_only next_turn a) (ap (λ k. 3 + k) one) x a)))
    (λ number first ok. (let c = comes_at g players Turn number cards h n b refl first x ok in turn_step g players number cards h n ok b fits x c c.next))

river_next : (g : Header) (players : ℕ) (cards : List ℕ) (h : List Event) (n : Phase) → has_board g.game ≡ true → HasCards g.game River cards → Reached g players h n → (number : BoardNumber) → Next g players River cards h number
river_next g players cards h n b fits x = by_board (Next g players River cards h)
    (λ ok. (let a : Again g h n River = again_at g players River cards h n b refl x ok in let one : length cards ≡ 1 = many g River cards 1 b fits refl in
    (n, second_step g players River cards h n 4 ok b refl fits.deck (own_river cards h) (again_size g players h n River 4 ok.2 x river_only next_river a) (ap (λ k. 4 + k) one) x a)))
    (λ number first ok. (let c = comes_at g players River number cards h n b refl first x ok in river_step g players number cards h n ok b fits x c c.next))

first_next : (g : Header) (players : ℕ) (cards : List ℕ) (h : List Event) (n : Phase) → has_board g.game ≡ true → HasCards g.game First cards → Reached g players h n → (number : BoardNumber) → Next g players First cards h number
first_next g players cards h n b fits x = by_board (Next g players First cards h)
    (λ ok. absurd (stray_again g players h n First x only (next_in (same_street First) refl refl refl refl) (again_at g players First cards h n b refl x ok)))
    (λ number first ok. (let c = comes_at g players First number cards h n b refl first x ok in first_step g players number cards h n ok b fits x c c.next))
  where
    only : (t : StreetName) → same_street First (Some t) ≡ true → has_begun n t ≡ true → ⊥
    only First is begun = by_phase (λ n. has_begun n First) refl refl refl refl refl n begun
    only _ is begun = cc

other_next : (g : Header) (players : ℕ) (s : StreetName) (cards : List ℕ) (h : List Event) (n : Phase) → has_board g.game ≡ true → is_end s ≡ false → ((n : Phase) → same_street s (next_board (street_at n)) ≡ true → ⊥)
    → ((t : StreetName) → same_street s (Some t) ≡ true → has_begun n t ≡ true → ⊥) → ((t : StreetName) → same_street s (next_board (Some t)) ≡ false) → Reached g players h n → (number : BoardNumber) → Next g players s cards h number
other_next g players s cards h n b plain never only none x = by_board (Next g players s cards h)
    (λ ok. absurd (stray_again g players h n s x only none (again_at g players s cards h n b plain x ok)))
    (λ number first ok. absurd (stray g players s number cards h n never (comes_at g players s number cards h n b plain first x ok)))

fourth_only : (n : Phase) (t : StreetName) → same_street Fourth (Some t) ≡ true → has_begun n t ≡ true → ⊥
fourth_only n Fourth is begun = by_phase (λ n. has_begun n Fourth) refl refl refl refl refl n begun
fourth_only n _ is begun = cc

fifth_only : (n : Phase) (t : StreetName) → same_street Fifth (Some t) ≡ true → has_begun n t ≡ true → ⊥
fifth_only n Fifth is begun = by_phase (λ n. has_begun n Fifth) refl refl refl refl refl n begun
fifth_only n _ is begun = cc

sixth_only : (n : Phase) (t : StreetName) → same_street Sixth (Some t) ≡ true → has_begun n t ≡ true → ⊥
sixth_only n Sixth is begun = by_phase (λ n. has_begun n Sixth) refl refl refl refl refl n begun
sixth_only n _ is begun = cc

draw_only : (n : Phase) (t : StreetName) → same_street Draw (Some t) ≡ true → has_begun n t ≡ true → ⊥
draw_only n Draw is begun = by_phase (λ n. has_begun n Draw) refl refl refl refl refl n begun
draw_only n _ is begun = cc

first_draw_only : (n : Phase) (t : StreetName) → same_street FirstDraw (Some t) ≡ true → has_begun n t ≡ true → ⊥
first_draw_only n FirstDraw is begun = by_phase (λ n. has_begun n FirstDraw) refl refl refl refl refl n begun
first_draw_only n _ is begun = cc

second_draw_only : (n : Phase) (t : StreetName) → same_street SecondDraw (Some t) ≡ true → has_begun n t ≡ true → ⊥
second_draw_only n SecondDraw is begun = by_phase (λ n. has_begun n SecondDraw) refl refl refl refl refl n begun
second_draw_only n _ is begun = cc

third_draw_only : (n : Phase) (t : StreetName) → same_street ThirdDraw (Some t) ≡ true → has_begun n t ≡ true → ⊥
third_draw_only n ThirdDraw is begun = by_phase (λ n. has_begun n ThirdDraw) refl refl refl refl refl n begun
third_draw_only n _ is begun = cc

pub reached : (g : Header) (players : ℕ) (h : List Event) → IsAccepted g players h → MarkersFit g.game h → has_board g.game ≡ true → (n : Phase) × Reached g players h n
reached g players [] ok fit b = (Before, at_first g players)
reached g players (Street First number cards ∷ h) ok fit b = (let x = reached g players h ok.2 fit.1 b in first_next g players cards h x.0 b fit.0 x.1 number ok)
reached g players (Street Flop number cards ∷ h) ok fit b = (let x = reached g players h ok.2 fit.1 b in flop_next g players cards h x.0 b fit.0 x.1 number ok)
reached g players (Street Turn number cards ∷ h) ok fit b = (let x = reached g players h ok.2 fit.1 b in turn_next g players cards h x.0 b fit.0 x.1 number ok)
reached g players (Street River number cards ∷ h) ok fit b = (let x = reached g players h ok.2 fit.1 b in river_next g players cards h x.0 b fit.0 x.1 number ok)
reached g players (Street ShowDown number cards ∷ h) ok fit b = (let x = reached g players h ok.2 fit.1 b in (x.0, ended g players ShowDown number cards h x.0 ok refl (last_is g.game ShowDown b) (many g ShowDown cards 0 b fit.0 refl) x.1))
reached g players (Street Summary number cards ∷ h) ok fit b = (let x = reached g players h ok.2 fit.1 b in (x.0, ended g players Summary number cards h x.0 ok refl (last_is g.game Summary b) (many g Summary cards 0 b fit.0 refl) x.1))
reached g players (Street Fourth number cards ∷ h) ok fit b = (let x = reached g players h ok.2 fit.1 b in other_next g players Fourth cards h x.0 b refl (by_phase (λ n. same_street Fourth (next_board (street_at n))) refl refl refl refl refl) (fourth_only x.0) (next_in (same_street Fourth) refl refl refl refl) x.1 number ok)
reached g players (Street Fifth number cards ∷ h) ok fit b = (let x = reached g players h ok.2 fit.1 b in other_next g players Fifth cards h x.0 b refl (by_phase (λ n. same_street Fifth (next_board (street_at n))) refl refl refl refl refl) (fifth_only x.0) (next_in (same_street Fifth) refl refl refl refl) x.1 number ok)
reached g players (Street Sixth number cards ∷ h) ok fit b = (let x = reached g players h ok.2 fit.1 b in other_next g players Sixth cards h x.0 b refl (by_phase (λ n. same_street Sixth (next_board (street_at n))) refl refl refl refl refl) (sixth_only x.0) (next_in (same_street Sixth) refl refl refl refl) x.1 number ok)
reached g players (Street Draw number cards ∷ h) ok fit b = (let x = reached g players h ok.2 fit.1 b in other_next g players Draw cards h x.0 b refl (by_phase (λ n. same_street Draw (next_board (street_at n))) refl refl refl refl refl) (draw_only x.0) (next_in (same_street Draw) refl refl refl refl) x.1 number ok)
reached g players (Street FirstDraw number cards ∷ h) ok fit b = (let x = reached g players h ok.2 fit.1 b in other_next g players FirstDraw cards h x.0 b refl (by_phase (λ n. same_street FirstDraw (next_board (street_at n))) refl refl refl refl refl) (first_draw_only x.0) (next_in (same_street FirstDraw) refl refl refl refl) x.1 number ok)
reached g players (Street SecondDraw number cards ∷ h) ok fit b = (let x = reached g players h ok.2 fit.1 b in other_next g players SecondDraw cards h x.0 b refl (by_phase (λ n. same_street SecondDraw (next_board (street_at n))) refl refl refl refl refl) (second_draw_only x.0) (next_in (same_street SecondDraw) refl refl refl refl) x.1 number ok)
reached g players (Street ThirdDraw number cards ∷ h) ok fit b = (let x = reached g players h ok.2 fit.1 b in other_next g players ThirdDraw cards h x.0 b refl (by_phase (λ n. same_street ThirdDraw (next_board (street_at n))) refl refl refl refl refl) (third_draw_only x.0) (next_in (same_street ThirdDraw) refl refl refl refl) x.1 number ok)
reached g players (e ∷ h) ok fit b = (let x = reached g players h ok.2 fit.1 b in (x.0, quiet g players e h x.0 ok b refl x.1))
