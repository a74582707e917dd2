-- An event that moves no card leaves the cards and draws of each seat, and what lies open, as they are.
use Rattle.std.proofs.Common.{◌≡◌, ℕ, List, [], ◌∷◌, refl, ap, ◌∙◌, Bool, true, false, ◌==◌, length}
use Rattle.std.specs.Prelude.{Option, Some, None, if◌then◌else◌}
use mathlib.Core.Bool.{true≢false}
use Rattle.card_sets.specs.declared.games.Game.{Game}
use Rattle.card_sets.specs.declared.games.Game.TheVariants.{Holdem}
use Rattle.card_sets.specs.declared.streets.Street.{Street as StreetName}
use Rattle.card_sets.specs.Bits.{IsCardSet-cards_where}
use Rattle.card_sets.specs.Cards.{union, minus, IsCardSet}
use Rattle.card_sets.specs.Games.{own_size}
use Rattle.card_sets.proofs.CallerLemmas.{union-nil, minus-nil, no_cards}
use Rattle.hand_events.specs.declared.events.Header.{Header}
use Rattle.hand_events.specs.declared.events.Event.{Event}
use Rattle.hand_events.specs.declared.events.Event.TheVariants.{Deal, Street, Act, Show, SeatCards, Discard, Pat}
use Rattle.betting_replay.specs.declared.boards.Board.{Board}
use Rattle.betting_replay.specs.declared.seats.Chips.{Chips}
use Rattle.betting_replay.specs.declared.seats.Acts.{Acts}
use Rattle.betting_replay.specs.declared.seats.Deals.{Deals}
use Rattle.betting_replay.specs.declared.seats.SeatDraws.{SeatDraws}
use Rattle.betting_replay.specs.declared.seats.LastDraw.{LastDraw}
use Rattle.betting_replay.specs.declared.seats.SeatState.{SeatState}
use Rattle.betting_replay.specs.Boards.{board_after, second_after}
use Rattle.betting_replay.specs.Counting.{moves_cards, seat_dealt}
use Rattle.betting_replay.specs.Dealing.{counts_on, dealt_on, up_by, given_by, deals_three, hides, stands_pat, discards_five, deals_after, draws_after, last_draw_after}
use Rattle.betting_replay.specs.Events.{cards_named}
use Rattle.betting_replay.specs.Hands.{dealt_by, held_after, shown_by, if_many, whole, is_discard, shown_after, row_by}
use Rattle.betting_replay.specs.Places.{cards_given, thrown_by, lost_by, with_given, is_at, place}
use Rattle.betting_replay.specs.Seats.{or_else}
use Rattle.betting_replay.specs.TableAfter.{seat_state}
use Rattle.betting_replay.proofs.lemmas.places.CardSets.{dealt_set, then_set, gathered_set, held_set, before_set, late_set}
use Rattle.betting_replay.proofs.lemmas.places.NextPlaces.{lost_none}
use Rattle.card_sets.specs.declared.streets.Street.TheVariants.{First, Fourth, Fifth, Sixth}

-- an event that names no card, and says nothing of a draw
pub record IsBare (e : Event) : Type 0 where
  pub named : cards_named e ≡ []
  pub given : cards_given e ≡ []
  pub dealt : dealt_by e ≡ []
  pub thrown : thrown_by e ≡ []
  pub shown : shown_by e ≡ []
  pub whole : given_by e ≡ []
  pub discard : is_discard e ≡ false
  pub hides : hides e ≡ false
  pub pat : stands_pat e ≡ false
  pub five : discards_five e ≡ false

pub is_bare : (e : Event) → moves_cards e ≡ false → IsBare e
is_bare (Deal seat cards drawn) m = absurd (true≢false m)
is_bare (Street s number cards) m = absurd (true≢false m)
is_bare (Act seat act all_in (card ∷ cards)) m = absurd (true≢false m)
is_bare (Show seat cards) m = absurd (true≢false m)
is_bare (SeatCards seat cards) m = absurd (true≢false m)
is_bare (Discard seat count cards) m = absurd (true≢false m)
is_bare (Pat seat) m = absurd (true≢false m)
is_bare _ m = record { named = refl; given = refl; dealt = refl; thrown = refl; shown = refl; whole = refl; discard = refl; hides = refl; pat = refl; five = refl }

pub same_board : (e : Event) (b : Board) → moves_cards e ≡ false → board_after e b ≡ b
same_board (Street s number cards) b m = absurd (true≢false m)
same_board _ b m = refl

pub same_second : (e : Event) (b : Board) → moves_cards e ≡ false → second_after e b ≡ b
same_second (Street s number cards) b m = absurd (true≢false m)
same_second _ b m = refl

-- the cards of a seat are sets
pub record AreSets (s : SeatState) : Type 0 where
  pub own : IsCardSet s.own
  pub dealt : IsCardSet s.dealt
  pub held : IsCardSet s.held
  pub first : IsCardSet s.deals.first
  pub fourth : IsCardSet s.deals.fourth
  pub fifth : IsCardSet s.deals.fifth
  pub sixth : IsCardSet s.deals.sixth
  pub up : IsCardSet s.deals.up
  pub given : IsCardSet s.deals.given
  pub before : IsCardSet s.last_draw.held
  pub late : IsCardSet s.last_draw.thrown

pub are_sets : (g : Header) (h : List Event) (p : ℕ) → AreSets (seat_state g h p)
are_sets g h p = record {
  own = IsCardSet-cards_where (λ card. is_at p (place g.game h card));
  dealt = dealt_set h p;
  held = held_set h p;
  first = then_set g First h p;
  fourth = then_set g Fourth h p;
  fifth = then_set g Fifth h p;
  sixth = then_set g Sixth h p;
  up = gathered_set up_by h p;
  given = gathered_set given_by h p;
  before = before_set g h p;
  late = late_set g h p;
}

-- nothing joins a set, and nothing leaves it
more_none : (cards by : List ℕ) → IsCardSet cards → by ≡ [] → union cards by ≡ cards
more_none cards by set none = ap (union cards) none ∙ union-nil cards set

pub less_none : (cards by gone : List ℕ) → IsCardSet cards → by ≡ [] → gone ≡ [] → minus (union cards by) gone ≡ cards
less_none cards by gone set none lost = ap (λ c. minus c gone) (more_none cards by set none) ∙ ap (minus cards) lost ∙ minus-nil cards set

held_same : (e : Event) (cards : List ℕ) → IsBare e → IsCardSet cards → held_after e cards ≡ cards
held_same e cards b set = less_none cards (dealt_by e) (thrown_by e) set b.dealt b.thrown

-- no game has a hand of no cards
some_size : (game : Game) → (0 == own_size game) ≡ false
some_size Holdem = refl
some_size _ = refl

whole_none : (game : Game) → whole game [] ≡ None
whole_none game = ap (if_many (own_size game)) (union-nil [] no_cards) ∙ ap (λ b. if b then Some [] else None) (some_size game)

shown_same : (game : Game) (e : Event) (before : Option (List ℕ)) → IsBare e → shown_after game e before ≡ before
shown_same game e before b =
    ap (λ d. if d then None else or_else (whole game (shown_by e)) before) b.discard
    ∙ ap (λ cards. or_else (whole game cards) before) b.shown
    ∙ ap (λ o. or_else o before) (whole_none game)

row_same : (e : Event) (before : Option (List ℕ)) → IsBare e → or_else (row_by e) before ≡ before
row_same e before b = ap (λ cards. or_else (if_many 7 cards) before) b.shown

on_none : (e : Event) (s : StreetName) (now : Option StreetName) → IsBare e → dealt_on s now e ≡ []
on_none e s now b = by (counts_on s now)
  where
    by : (c : Bool) → (if c then dealt_by e else []) ≡ []
    by true = b.dealt
    by false = refl

deals_same : (now : Option StreetName) (e : Event) (d : Deals) → IsBare e → IsCardSet d.first → IsCardSet d.fourth → IsCardSet d.fifth → IsCardSet d.sixth → IsCardSet d.up → IsCardSet d.given → deals_after now e d ≡ d
deals_same now e d b first fourth fifth sixth up given =
    let one : union d.first (dealt_on First now e) ≡ d.first = more_none d.first (dealt_on First now e) first (on_none e First now b) in
    let two : union d.fourth (dealt_on Fourth now e) ≡ d.fourth = more_none d.fourth (dealt_on Fourth now e) fourth (on_none e Fourth now b) in
    let three : union d.fifth (dealt_on Fifth now e) ≡ d.fifth = more_none d.fifth (dealt_on Fifth now e) fifth (on_none e Fifth now b) in
    let four : union d.sixth (dealt_on Sixth now e) ≡ d.sixth = more_none d.sixth (dealt_on Sixth now e) sixth (on_none e Sixth now b) in
    let alone : union d.up (up_by e) ≡ d.up = more_none d.up (up_by e) up (ap (λ cards. if length cards == 1 then cards else []) b.dealt) in
    let plain : union d.given (given_by e) ≡ d.given = more_none d.given (given_by e) given b.whole in
    let down : deals_three e ≡ false = ap (λ cards. length cards == 3) b.dealt in
    rw (one, two, three, four, alone, plain, down) refl

draws_same : (e : Event) (d : SeatDraws) → IsBare e → draws_after e d ≡ d
draws_same e d b = rw (b.hides, b.pat, b.five) refl

last_same : (late : Bool) (e : Event) (d : LastDraw) → IsBare e → IsCardSet d.held → IsCardSet d.thrown → last_draw_after late e d ≡ d
last_same true e d b before late = rw (more_none d.thrown (thrown_by e) late b.thrown, b.hides, b.pat, b.five) refl
last_same false e d b before late = rw (held_same e d.held b before, b.hides) refl

-- so a seat has the same cards, and drew in the same way
pub same_cards : (game : Game) (now : Option StreetName) (late : Bool) (e : Event) (s : SeatState) (chips : Chips) (acts : Acts) → IsBare e → AreSets s
    → seat_dealt game now late e (record s { chips = chips; acts = acts }) ≡ record s { chips = chips; acts = acts }
same_cards game now late e s chips acts b sets =
    let own : with_given game e (cards_given e) s.own ≡ s.own = less_none s.own (cards_given e) (lost_by game e) sets.own b.given (lost_none game e b.thrown) in
    let dealt : union s.dealt (dealt_by e) ≡ s.dealt = more_none s.dealt (dealt_by e) sets.dealt b.dealt in
    let held : held_after e s.held ≡ s.held = held_same e s.held b sets.held in
    let shown : shown_after game e s.shown ≡ s.shown = shown_same game e s.shown b in
    let deals : deals_after now e s.deals ≡ s.deals = deals_same now e s.deals b sets.first sets.fourth sets.fifth sets.sixth sets.up sets.given in
    let row : or_else (row_by e) s.seven_shown ≡ s.seven_shown = row_same e s.seven_shown b in
    let draws : draws_after e s.draws ≡ s.draws = draws_same e s.draws b in
    let last : last_draw_after late e s.last_draw ≡ s.last_draw = last_same late e s.last_draw b sets.before sets.late in
    put own dealt held shown deals row draws last
  where
    put : {a b c : List ℕ} {d : Option (List ℕ)} {f : Deals} {g : Option (List ℕ)} {i : SeatDraws} {j : LastDraw}
        → a ≡ s.own → b ≡ s.dealt → c ≡ s.held → d ≡ s.shown → f ≡ s.deals → g ≡ s.seven_shown → i ≡ s.draws → j ≡ s.last_draw
        → ◌≡◌ {A = SeatState}
        (record { chips = chips; acts = acts; own = a; dealt = b; held = c; shown = d; deals = f; seven_shown = g; draws = i; last_draw = j })
        (record { chips = chips; acts = acts; own = s.own; dealt = s.dealt; held = s.held; shown = s.shown; deals = s.deals; seven_shown = s.seven_shown; draws = s.draws; last_draw = s.last_draw })
    put a b c d f g i j = cc
