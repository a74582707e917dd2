-- The places of cards, after an event whose cards are free.
use Rattle.std.proofs.Common.{◌≡◌, ℕ, List, [], ◌∷◌, refl, sym, ap, ◌∙◌, Bool, true, false, not, arith, ◌||◌, ◌&&◌, ◌==◌, ◌<◌}
use Rattle.std.specs.Prelude.{Option, Some, None, is_some, if◌then◌else◌}
use mathlib.Core.Bool.{true≢false}
use Rattle.hand_events.specs.declared.events.Event.{Event}
use Rattle.hand_events.specs.declared.events.Event.TheVariants.{Street, Discard}
use Rattle.card_sets.specs.Cards.{has_card, with_card, union, minus, IsCardSet}
use Rattle.card_sets.specs.declared.streets.Street.{Street as StreetName}
use Rattle.hand_events.specs.declared.events.BoardNumber.{BoardNumber}
use Rattle.card_sets.proofs.CallerLemmas.{union-nil, minus-nil}
use Rattle.card_sets.specs.Games.{may_come_again}
use Rattle.card_sets.specs.declared.games.Game.{Game}
use Rattle.card_sets.specs.Bits.{cards_where_same, has-cards_where, IsCardSet-cards_where}
use Rattle.betting_replay.specs.Seats.{or_else}
use Rattle.betting_replay.specs.Events.{seat_of, cards_named}
use Rattle.betting_replay.specs.Places.{place_of, place, is_at, owned, named, thrown_by, lost_by, with_given, is_board, is_free, first_twice}

-- each card of a bracket with no fault is free
pub all_free : (free : ℕ → Bool) (cards before : List ℕ) (k : ℕ) → first_twice free before cards ≡ None → has_card cards k ≡ true → free k ≡ true
all_free free [] before k h has = cc
all_free free (card ∷ cards) before k h has =
    one (has_card before card) (free card) (card == k) refl refl refl (λ more rest. all_free free cards (with_card before card) k more rest)
  where
    one : (b f s : Bool) → has_card before card ≡ b → free card ≡ f → (card == k) ≡ s → (first_twice free (with_card before card) cards ≡ None → has_card cards k ≡ true → free k ≡ true) → free k ≡ true
    one true f s eb ef es go = let no : first_twice free before (card ∷ cards) ≡ Some card = rw eb refl in cc
    one false false s eb ef es go = let no : first_twice free before (card ∷ cards) ≡ Some card = rw (eb, ef) refl in cc
    one false true true eb ef es go = let e : card ≡ k = grind arith in ap free (sym e) ∙ ef
    one false true false eb ef es go =
        let more : first_twice free before (card ∷ cards) ≡ first_twice free (with_card before card) cards = rw (eb, ef) refl in
        let rest : has_card (card ∷ cards) k ≡ has_card cards k = rw es refl in
        go (sym more ∙ h) (sym rest ∙ has)

-- what an event loses it throws away, and so names
pub lost_thrown : (game : Game) (e : Event) (k : ℕ) → has_card (lost_by game e) k ≡ true → has_card (thrown_by e) k ≡ true
lost_thrown game e k has = by (may_come_again game) has
  where
    by : (b : Bool) → has_card (if b then thrown_by e else []) k ≡ true → has_card (thrown_by e) k ≡ true
    by true has = has
    by false has = cc

thrown_is_named : (e : Event) (k : ℕ) → has_card (thrown_by e) k ≡ true → has_card (cards_named e) k ≡ true
thrown_is_named (Discard seat count cards) k has = has
thrown_is_named _ k has = cc

pub lost_named : (game : Game) (e : Event) (k : ℕ) → has_card (lost_by game e) k ≡ true → has_card (cards_named e) k ≡ true
lost_named game e k has = thrown_is_named e k (lost_thrown game e k has)

-- where no card comes again nothing is lost
pub nothing_lost : (game : Game) (e : Event) → may_come_again game ≡ false → lost_by game e ≡ []
nothing_lost game e stays = rw stays refl

-- an event that names no card loses none, and a marker loses none
thrown_none : (e : Event) → cards_named e ≡ [] → thrown_by e ≡ []
thrown_none (Discard seat count cards) none = none
thrown_none _ none = refl

pub lost_none : (game : Game) (e : Event) → thrown_by e ≡ [] → lost_by game e ≡ []
lost_none game e none = by (may_come_again game)
  where
    by : (b : Bool) → (if b then thrown_by e else []) ≡ []
    by true = none
    by false = refl

pub marker_given : (game : Game) (s : StreetName) (number : BoardNumber) (cards given own : List ℕ) → with_given game (Street s number cards) given own ≡ union own given
marker_given game s number cards given own =
    ap (minus (union own given)) (lost_none game (Street s number cards) refl) ∙ minus-nil (union own given) (IsCardSet-cards_where (λ k. has_card own k || has_card given k))

pub nothing_given : (game : Game) (e : Event) (own : List ℕ) → IsCardSet own → cards_named e ≡ [] → with_given game e (cards_named e) own ≡ own
nothing_given game e own set none =
    ap (λ given. minus (union own given) (lost_by game e)) none ∙ ap (minus (union own [])) (lost_none game e (thrown_none e none)) ∙ ap (λ cards. minus cards []) (union-nil own set) ∙ minus-nil own set

no_place : (x : Bool) → false ≡ (x && false)
no_place true = refl
no_place false = refl

named_one : (lost : Bool) (o : Option ℕ) (has : Bool) (s : ℕ) → is_some (if lost then None else or_else o (if has then Some s else None)) ≡ ((is_some o || has) && not lost)
named_one true o has s = no_place (is_some o || has)
named_one false None true s = refl
named_one false None false s = refl
named_one false (Some q) has s = refl

pub named_after : (game : Game) (e : Event) (h : List Event) → named game (e ∷ h) ≡ with_given game e (cards_named e) (named game h)
named_after game e h = cards_where_same _ _ (λ k l.
    named_one (has_card (lost_by game e) k) (place game h k) (has_card (cards_named e) k) (place_of e)
    ∙ rw (has-cards_where (λ j. has_card (named game h) j || has_card (cards_named e) j) k l, has-cards_where (λ card. is_some (place game h card)) k l) refl)

-- a card for another place: what the event loses wasn't that place's
other_one : (lost : Bool) (o : Option ℕ) (has : Bool) (s p : ℕ) → (s == p) ≡ false → (lost ≡ true → is_at p o ≡ false) → is_at p (if lost then None else or_else o (if has then Some s else None)) ≡ is_at p o
other_one true o has s p e gone = sym (gone refl)
other_one false None true s p e gone = e
other_one false None false s p e gone = refl
other_one false (Some q) has s p e gone = refl

pub owned_other : (game : Game) (e : Event) (h : List Event) (p : ℕ) → (place_of e == p) ≡ false → ((k : ℕ) → k < 52 → has_card (lost_by game e) k ≡ true → is_at p (place game h k) ≡ false) → owned game (e ∷ h) p ≡ owned game h p
owned_other game e h p ne gone = cards_where_same _ _ (λ k l. other_one (has_card (lost_by game e) k) (place game h k) (has_card (cards_named e) k) (place_of e) p ne (gone k l))

-- a card for the place, which is free
own_one : (lost : Bool) (o : Option ℕ) (has : Bool) (s : ℕ) → (has ≡ true → is_some o ≡ true → is_at s o ≡ true) → is_at s (if lost then None else or_else o (if has then Some s else None)) ≡ ((is_at s o || has) && not lost)
own_one true o has s f = no_place (is_at s o || has)
own_one false None true s f = grind arith
own_one false None false s f = refl
own_one false (Some q) true s f = let t : (q == s) ≡ true = f refl refl in rw t refl
own_one false (Some q) false s f = either (q == s)
  where
    either : (b : Bool) → b ≡ ((b || false) && true)
    either true = refl
    either false = refl

-- an event that gives no board its cards gives them to its seat
pub place_seat : (e : Event) → is_board e ≡ false → place_of e ≡ seat_of e
place_seat (Street street number cards) plain = cc
place_seat _ plain = refl

-- a named card is free for a seat that has it, and for no board
freed : (n o : Bool) → (not n || (not false && o)) ≡ true → n ≡ true → o ≡ true
freed true o h n = h
freed false o h n = cc

closed : (n o : Bool) → (not n || (not true && o)) ≡ true → n ≡ true → ⊥
closed true o h n = cc
closed false o h n = cc

pub owned_here : (game : Game) (e : Event) (h : List Event) (before : List ℕ) → first_twice (is_free (named game h) (owned game h (seat_of e)) (is_board e)) before (cards_named e) ≡ None
    → owned game (e ∷ h) (place_of e) ≡ with_given game e (cards_named e) (owned game h (place_of e))
owned_here game e h before none = cards_where_same _ _ (λ k l.
    let hn : has_card (named game h) k ≡ is_some (place game h k) = has-cards_where (λ card. is_some (place game h card)) k l in
    let ho : has_card (owned game h (place_of e)) k ≡ is_at (place_of e) (place game h k) = has-cards_where (λ card. is_at (place_of e) (place game h card)) k l in
    own_one (has_card (lost_by game e) k) (place game h k) (has_card (cards_named e) k) (place_of e) (λ has some. sym ho ∙ mine (is_board e) refl k (all_free _ (cards_named e) before k none has) (hn ∙ some))
    ∙ rw (has-cards_where (λ j. has_card (owned game h (place_of e)) j || has_card (cards_named e) j) k l, ho) refl)
  where
    mine : (b : Bool) → is_board e ≡ b → (k : ℕ) → is_free (named game h) (owned game h (seat_of e)) b k ≡ true → has_card (named game h) k ≡ true → has_card (owned game h (place_of e)) k ≡ true
    mine true is k free some = absurd (closed (has_card (named game h) k) (has_card (owned game h (seat_of e)) k) free some)
    mine false is k free some = ap (λ q. has_card (owned game h q) k) (place_seat e is) ∙ freed (has_card (named game h) k) (has_card (owned game h (seat_of e)) k) free some

-- what an event loses belongs to its place or to none, since it names it
pub lost_elsewhere : (game : Game) (e : Event) (h : List Event) (before : List ℕ) (p k : ℕ) → first_twice (is_free (named game h) (owned game h (seat_of e)) (is_board e)) before (cards_named e) ≡ None
    → (place_of e == p) ≡ false → k < 52 → has_card (lost_by game e) k ≡ true → is_at p (place game h k) ≡ false
lost_elsewhere game e h before p k none other l lost = by (place game h k) refl
  where
    by : (o : Option ℕ) → place game h k ≡ o → is_at p o ≡ false
    by None is = refl
    by (Some q) is = at (q == p) refl
      where
        at : (b : Bool) → (q == p) ≡ b → b ≡ false
        at false other_place = refl
        at true taken =
            let some : has_card (named game h) k ≡ true = has-cards_where (λ card. is_some (place game h card)) k l ∙ ap is_some is in
            let free = all_free _ (cards_named e) before k none (lost_named game e k lost) in
            absurd (stolen (is_board e) refl free some)
          where
            stolen : (b : Bool) → is_board e ≡ b → is_free (named game h) (owned game h (seat_of e)) b k ≡ true → has_card (named game h) k ≡ true → ⊥
            stolen true is_b free some = closed (has_card (named game h) k) (has_card (owned game h (seat_of e)) k) free some
            stolen false is_b free some =
                let mine : has_card (owned game h (seat_of e)) k ≡ true = freed (has_card (named game h) k) (has_card (owned game h (seat_of e)) k) free some in
                let at_seat : is_at (seat_of e) (place game h k) ≡ true = sym (has-cards_where (λ card. is_at (seat_of e) (place game h card)) k l) ∙ mine in
                let same : (q == seat_of e) ≡ true = ap (is_at (seat_of e)) (sym is) ∙ at_seat in
                let a : q ≡ seat_of e = grind arith in
                let b : q ≡ p = grind arith in
                let c : (seat_of e == p) ≡ false = ap (λ s. s == p) (sym (place_seat e is_b)) ∙ other in
                let d : (seat_of e == p) ≡ true = grind arith in
                true≢false (sym d ∙ c)
