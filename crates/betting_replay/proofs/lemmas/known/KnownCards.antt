-- After accepted events: known cards are of their seat, and are as many as they must be.
use Rattle.std.proofs.Common.{◌≡◌, ℕ, zero, suc, ◌<◌, ◌≤◌, List, [], ◌∷◌, refl, sym, ap, ◌∙◌, Bool, true, false, not, ◌||◌, ◌&&◌, ◌==◌, inl, inr, arith, length, subst}
use Rattle.std.specs.Prelude.{Option, Some, None, if◌then◌else◌}
use Rattle.card_sets.specs.Cards.{has_card, union, minus}
use Rattle.card_sets.specs.Bits.{IsCardSet-cards_where}
use Rattle.card_sets.specs.Disjoint.{apart}
use Rattle.card_sets.specs.declared.games.Game.{Game}
use Rattle.card_sets.specs.declared.games.Family.{Family}
use Rattle.card_sets.specs.declared.games.Family.TheVariants as family
use Rattle.card_sets.specs.Games.{family_of, own_size, may_come_again, deals_again}
use Rattle.hand_events.specs.declared.events.Header.{Header}
use Rattle.hand_events.specs.declared.events.Event.{Event}
use Rattle.card_sets.specs.declared.streets.Street.{Street as StreetName}
use Rattle.card_sets.specs.declared.streets.Street.TheVariants.{First, Fourth, Fifth, Sixth, FirstDraw, SecondDraw}
use Rattle.betting_replay.specs.Accepted.{IsAccepted}
use Rattle.betting_replay.specs.CardLaws.{Among}
use Rattle.betting_replay.specs.Dealing.{gathered, given_by, deals_of, draws_of, held_before, thrown_late, last_draw_of}
use Rattle.betting_replay.specs.Events.{seat_of}
use Rattle.betting_replay.specs.Hands.{dealt, held, shown, shown_by, shown_after, whole, is_discard, if_many, row, row_by}
use Rattle.betting_replay.specs.Known.{holding_of, final_drawn, final_held, final_in, final_by, first_outside, with_down, with_first, so_many, known_stud, draws_openly, kept, known_drawn, draws_last_openly, kept_last, known_triple, known_in, known_by}
use Rattle.betting_replay.specs.Places.{owned, thrown, is_at, place}
use Rattle.betting_replay.specs.Seats.{or_else}
use Rattle.betting_replay.proofs.lemmas.streets.GameFamilies.{seven_own, five_own, five_triple}
use Rattle.card_sets.proofs.CallerLemmas.{in_union, in_minus, no_cards, length-minus, or_either}
use Rattle.std.proofs.lemmas.Bool.{or_left, or_right, and_parts}
use Rattle.betting_replay.proofs.lemmas.places.CardsBelong.{IsLeft, kept_left, stays_left, own_more, own_here, dealt_among, then_among, given_among, union_among, shown_named, no_card}
use Rattle.betting_replay.proofs.lemmas.known.HeldByText.{held_among, left_among, other_left, only_discards}
use Rattle.betting_replay.proofs.lemmas.places.CardSets.{before_set}

-- cards of a seat, so many of them
pub record Holds (n : ℕ) (cards own : List ℕ) : Type 0 where
  pub among : Among cards own
  pub many : length cards ≡ n

-- so many cards, where there are as many
pub if_many_is : (n : ℕ) (xs cards : List ℕ) → if_many n xs ≡ Some cards → (xs ≡ cards) × (length cards ≡ n)
if_many_is n xs cards h = one (length xs == n) refl h
  where
    one : (b : Bool) → (length xs == n) ≡ b → (if b then Some xs else None) ≡ Some cards → (xs ≡ cards) × (length cards ≡ n)
    one true is h = (let same : xs ≡ cards = cc in (same, ap length (sym same) ∙ (let e : length xs ≡ n = grind arith in e)))
    one false is h = cc

if_many_holds : (n : ℕ) (xs own cards : List ℕ) → Among xs own → if_many n xs ≡ Some cards → Holds n cards own
if_many_holds n xs own cards a h = (let s = if_many_is n xs cards h in subst (λ (ys : List ℕ). Holds n ys own) s.0 (record { among = a; many = ap length s.0 ∙ s.1 }))

more : (g : Header) (players : ℕ) (e : Event) (h : List Event) (p n : ℕ) (cards : List ℕ) → IsAccepted g players (e ∷ h) → ((k : ℕ) → IsLeft g e p k) → Holds n cards (owned g.game h p) → Holds n cards (owned g.game (e ∷ h) p)
more g players e h p n cards ok left x = record { among = record { set = x.among.set; each = (λ k has. own_more g players e h p k ok (left k) (x.among.each k has)) }; many = x.many }

-- a whole bracket of a seat's own event
-- a seat loses nothing by an event of its own that is no discard
undiscarded : (g : Header) (e : Event) (p k : ℕ) → is_discard e ≡ false → IsLeft g e p k
undiscarded g e p k idle = kept_left g e p k (λ here gone. only_discards e k idle gone)

whole_here : (g : Header) (players : ℕ) (e : Event) (h : List Event) (p : ℕ) (cards : List ℕ) → IsAccepted g players (e ∷ h) → is_discard e ≡ false → (seat_of e == p) ≡ true → whole g.game (shown_by e) ≡ Some cards → Holds (own_size g.game) cards (owned g.game (e ∷ h) p)
whole_here g players e h p cards ok idle here is =
    if_many_holds (own_size g.game) (union [] (shown_by e)) (owned g.game (e ∷ h) p) cards
    (record { set = IsCardSet-cards_where (λ k. has_card [] k || has_card (shown_by e) k); each = (λ k has. let w = in_union [] (shown_by e) k has in elim w.1 [ inl l ↦ absurd (no_card k l) | inr r ↦ own_here g players e h p k ok here w.0 (undiscarded g e p k idle) (shown_named e k r) ]) })
    is

-- the last whole hand shown
pub shown_holds : (g : Header) (players : ℕ) (h : List Event) (p : ℕ) (cards : List ℕ) → IsAccepted g players h → shown g h p ≡ Some cards → Holds (own_size g.game) cards (owned g.game h p)
shown_holds g players [] p cards ok is = cc
shown_holds g players (e ∷ h) p cards ok is = at (λ before. shown_holds g players h p cards ok.2 before) (seat_of e == p) refl is
  where
    last : (shown g h p ≡ Some cards → Holds (own_size g.game) cards (owned g.game h p)) → (seat_of e == p) ≡ true → is_discard e ≡ false → (o : Option (List ℕ)) → whole g.game (shown_by e) ≡ o → or_else o (shown g h p) ≡ Some cards → Holds (own_size g.game) cards (owned g.game (e ∷ h) p)
    last ih here idle None w is = more g players e h p (own_size g.game) cards ok (λ k. undiscarded g e p k idle) (ih is)
    last ih here idle (Some xs) w is = whole_here g players e h p cards ok idle here (w ∙ is)

    kept_by : (shown g h p ≡ Some cards → Holds (own_size g.game) cards (owned g.game h p)) → (seat_of e == p) ≡ true → (b : Bool) → is_discard e ≡ b → (if b then None else or_else (whole g.game (shown_by e)) (shown g h p)) ≡ Some cards → Holds (own_size g.game) cards (owned g.game (e ∷ h) p)
    kept_by ih here true idle is = cc
    kept_by ih here false idle is = last ih here idle (whole g.game (shown_by e)) refl is

    at : (shown g h p ≡ Some cards → Holds (own_size g.game) cards (owned g.game h p)) → (b : Bool) → (seat_of e == p) ≡ b → (if b then shown_after g.game e (shown g h p) else shown g h p) ≡ Some cards → Holds (own_size g.game) cards (owned g.game (e ∷ h) p)
    at ih true here is = kept_by ih here (is_discard e) refl is
    at ih false here is = more g players e h p (own_size g.game) cards ok (λ k. other_left g e p k here) (ih is)

-- the last bracket of seven
pub row_own : (g : Header) (players : ℕ) (h : List Event) (p : ℕ) (cards : List ℕ) (k : ℕ) → may_come_again g.game ≡ false → IsAccepted g players h → row h p ≡ Some cards → k < 52 → has_card cards k ≡ true → has_card (owned g.game h p) k ≡ true
row_own g players [] p cards k stays ok is l has = cc
row_own g players (e ∷ h) p cards k stays ok is l has = at (λ before. row_own g players h p cards k stays ok.2 before l has) (seat_of e == p) refl is
  where
    last : (row h p ≡ Some cards → has_card (owned g.game h p) k ≡ true) → (seat_of e == p) ≡ true → (o : Option (List ℕ)) → row_by e ≡ o → or_else o (row h p) ≡ Some cards → has_card (owned g.game (e ∷ h) p) k ≡ true
    last ih here None w is = own_more g players e h p k ok (stays_left g e p k stays) (ih is)
    last ih here (Some xs) w is = (let same : shown_by e ≡ cards = (if_many_is 7 (shown_by e) cards (w ∙ is)).0 in own_here g players e h p k ok here l (stays_left g e p k stays) (shown_named e k (ap (λ xs. has_card xs k) same ∙ has)))

    at : (row h p ≡ Some cards → has_card (owned g.game h p) k ≡ true) → (b : Bool) → (seat_of e == p) ≡ b → (if b then or_else (row_by e) (row h p) else row h p) ≡ Some cards → has_card (owned g.game (e ∷ h) p) k ≡ true
    at ih true here is = last ih here (row_by e) refl is
    at ih false here is = own_more g players e h p k ok (stays_left g e p k stays) (ih is)

-- the first cards of a row that aren't among others are of the row
outside_of : (n : ℕ) (others cards : List ℕ) (k : ℕ) → has_card (first_outside n others cards) k ≡ true → has_card cards k ≡ true
outside_of zero others cards k h = absurd (no_card k h)
outside_of (suc n) others [] k h = absurd (no_card k h)
outside_of (suc n) others (card ∷ cards) k h = one (has_card others card) h (outside_of (suc n) others cards k) (outside_of n others cards k)
  where
    one : (b : Bool) → has_card (if b then first_outside (suc n) others cards else card ∷ first_outside n others cards) k ≡ true
        → (has_card (first_outside (suc n) others cards) k ≡ true → has_card cards k ≡ true) → (has_card (first_outside n others cards) k ≡ true → has_card cards k ≡ true) → has_card (card ∷ cards) k ≡ true
    one true h x y = or_right (card == k) (has_card cards k) (x h)
    one false h x y = elim (or_either (card == k) (has_card (first_outside n others cards) k) h) [
      | inl here ↦ or_left (card == k) (has_card cards k) here
      | inr rest ↦ or_right (card == k) (has_card cards k) (y rest)
    ]

-- dealt cards with those face down
down_holds : (g : Header) (players : ℕ) (h : List Event) (p n : ℕ) (x up cards : List ℕ) (o : Option (List ℕ)) → may_come_again g.game ≡ false → IsAccepted g players h → row h p ≡ o → Among x (owned g.game h p) → so_many n (with_down x up o) ≡ Some cards → Holds n cards (owned g.game h p)
down_holds g players h p n x up cards None stays ok r a is = cc
down_holds g players h p n x up cards (Some xs) stays ok r a is =
    if_many_holds n (union x (first_outside 2 up xs)) (owned g.game h p) cards
    (record { set = IsCardSet-cards_where (λ k. has_card x k || has_card (first_outside 2 up xs) k); each = (λ k has. let w = in_union x (first_outside 2 up xs) k has in elim w.1 [ inl l ↦ a.each k l | inr r' ↦ row_own g players h p xs k stays ok r w.0 (outside_of 2 up xs k r') ]) })
    is

first_holds : (g : Header) (players : ℕ) (h : List Event) (p n : ℕ) (x cards : List ℕ) → may_come_again g.game ≡ false → IsAccepted g players h → Among x (owned g.game h p) → so_many n (with_first (holding_of g h p) x) ≡ Some cards → Holds n cards (owned g.game h p)
first_holds g players h p n x cards stays ok a is = one (deals_of g h p).down is
  where
    one : (b : Bool) → so_many n (if b then Some x else with_down x (deals_of g h p).up (row h p)) ≡ Some cards → Holds n cards (owned g.game h p)
    one true is = if_many_holds n x (owned g.game h p) cards a is
    one false is = down_holds g players h p n x (deals_of g h p).up cards (row h p) stays ok refl a is

pub all_among : (game : Game) (h : List Event) (p : ℕ) → Among (owned game h p) (owned game h p)
all_among game h p = record { set = IsCardSet-cards_where (λ card. is_at p (place game h card)); each = (λ k has. has) }

minus_among : (a b own : List ℕ) → Among a own → Among (minus a b) own
minus_among a b own x = record { set = IsCardSet-cards_where (λ k. has_card a k && not (has_card b k)); each = (λ k has. x.each k (in_minus a b k has).1) }

-- the last whole hand shown, or else other cards
or_holds : (g : Header) (players : ℕ) (h : List Event) (p n : ℕ) (xs : List ℕ) (cards : List ℕ) (o : Option (List ℕ)) → IsAccepted g players h → own_size g.game ≡ n → shown g h p ≡ o → Among xs (owned g.game h p) → or_else o (if_many n xs) ≡ Some cards → Holds n cards (owned g.game h p)
or_holds g players h p n xs cards None ok size s a is = if_many_holds n xs (owned g.game h p) cards a is
or_holds g players h p n xs cards (Some ys) ok size s a is = subst (λ (m : ℕ). Holds m cards (owned g.game h p)) size (shown_holds g players h p cards ok (s ∙ is))

drawn_holds : (g : Header) (players : ℕ) (h : List Event) (p : ℕ) (cards : List ℕ) → may_come_again g.game ≡ false → IsAccepted g players h → own_size g.game ≡ 5 → final_drawn (holding_of g h p) ≡ Some cards → Holds 5 cards (owned g.game h p)
drawn_holds g players h p cards stays ok size is = one (draws_of h p).hidden (shown g h p) refl is
  where
    one : (b : Bool) (o : Option (List ℕ)) → shown g h p ≡ o → or_else o (if b then None else if_many 5 (minus (dealt h p) (thrown h))) ≡ Some cards → Holds 5 cards (owned g.game h p)
    one true None s is = cc
    one true (Some xs) s is = subst (λ (m : ℕ). Holds m cards (owned g.game h p)) size (shown_holds g players h p cards ok (s ∙ is))
    one false o s is = or_holds g players h p 5 (minus (dealt h p) (thrown h)) cards o ok size s (minus_among (dealt h p) (thrown h) (owned g.game h p) (dealt_among g players h p stays ok)) is

-- with several draws the last whole hand shown, or else what he holds
held_holds : (g : Header) (players : ℕ) (h : List Event) (p : ℕ) (cards : List ℕ) → IsAccepted g players h → own_size g.game ≡ 5 → final_held (holding_of g h p) ≡ Some cards → Holds 5 cards (owned g.game h p)
held_holds g players h p cards ok size is = one (draws_of h p).hidden (shown g h p) refl is
  where
    one : (b : Bool) (o : Option (List ℕ)) → shown g h p ≡ o → or_else o (if b then None else if_many 5 (held h p)) ≡ Some cards → Holds 5 cards (owned g.game h p)
    one true None s is = cc
    one true (Some xs) s is = subst (λ (m : ℕ). Holds m cards (owned g.game h p)) size (shown_holds g players h p cards ok (s ∙ is))
    one false o s is = or_holds g players h p 5 (held h p) cards o ok size s (held_among g players h p ok) is

-- the final cards of each game
pub final_holds : (g : Header) (players : ℕ) (h : List Event) (p : ℕ) (cards : List ℕ) (game : Game) → g.game ≡ game → IsAccepted g players h → final_by game (holding_of g h p) ≡ Some cards → Holds (own_size game) cards (owned g.game h p)
final_holds g players h p cards game same ok is = by (family_of game) refl is
  where
    by : (f : Family) → family_of game ≡ f → final_in f (own_size game) (holding_of g h p) ≡ Some cards → Holds (own_size game) cards (owned g.game h p)
    by family.Board e is = or_holds g players h p (own_size game) (dealt h p) cards (shown g h p) ok (ap own_size same) refl (dealt_among g players h p (ap may_come_again same ∙ ap deals_again e) ok) is
    by family.Stud e is = subst (λ (n : ℕ). Holds n cards (owned g.game h p)) (sym (seven_own game e)) (if_many_holds 7 (owned g.game h p) (owned g.game h p) cards (all_among g.game h p) is)
    by family.Draw e is = subst (λ (n : ℕ). Holds n cards (owned g.game h p)) (sym (five_own game e)) (drawn_holds g players h p cards (ap may_come_again same ∙ ap deals_again e) ok (ap own_size same ∙ five_own game e) is)
    by family.TripleDraw e is = subst (λ (n : ℕ). Holds n cards (owned g.game h p)) (sym (five_triple game e)) (held_holds g players h p cards ok (ap own_size same ∙ five_triple game e) is)

-- cards of a seat, at most so many
pub record Fewer (n : ℕ) (cards own : List ℕ) : Type 0 where
  pub among : Among cards own
  pub few : length cards ≤ n

fewer : (m n : ℕ) (cards own : List ℕ) → m ≤ n → Holds m cards own → Fewer n cards own
fewer m n cards own l x = record { among = x.among; few = (let many : length cards ≡ m = x.many in omega arith) }

stud_known : (g : Header) (players : ℕ) (h : List Event) (p : ℕ) (cards : List ℕ) (s : StreetName) → may_come_again g.game ≡ false → IsAccepted g players h → known_stud (holding_of g h p) s ≡ Some cards → Fewer 7 cards (owned g.game h p)
stud_known g players h p cards First stays ok is = fewer 3 7 cards (owned g.game h p) (omega arith) (first_holds g players h p 3 _ cards stays ok (then_among g players First h p stays ok) is)
stud_known g players h p cards Fourth stays ok is = fewer 4 7 cards (owned g.game h p) (omega arith) (first_holds g players h p 4 _ cards stays ok (union_among _ _ _ (then_among g players First h p stays ok) (then_among g players Fourth h p stays ok)) is)
stud_known g players h p cards Fifth stays ok is = fewer 5 7 cards (owned g.game h p) (omega arith) (first_holds g players h p 5 _ cards stays ok (union_among _ _ _ (union_among _ _ _ (then_among g players First h p stays ok) (then_among g players Fourth h p stays ok)) (then_among g players Fifth h p stays ok)) is)
stud_known g players h p cards Sixth stays ok is = fewer 6 7 cards (owned g.game h p) (omega arith) (first_holds g players h p 6 _ cards stays ok (union_among _ _ _ (union_among _ _ _ (union_among _ _ _ (then_among g players First h p stays ok) (then_among g players Fourth h p stays ok)) (then_among g players Fifth h p stays ok)) (then_among g players Sixth h p stays ok)) is)
stud_known g players h p cards _ stays ok is = fewer 7 7 cards (owned g.game h p) (omega arith) (if_many_holds 7 (owned g.game h p) (owned g.game h p) cards (all_among g.game h p) is)

kept_known : (g : Header) (players : ℕ) (h : List Event) (p : ℕ) (cards : List ℕ) → may_come_again g.game ≡ false → IsAccepted g players h → own_size g.game ≡ 5 → kept (holding_of g h p) ≡ Some cards → Fewer 5 cards (owned g.game h p)
kept_known g players h p cards stays ok size is = one (draws_openly (holding_of g h p)) refl ((draws_of h p).pat && apart (owned g.game h p) (thrown h)) (draws_of h p).five is
  where
    five : draws_openly (holding_of g h p) ≡ true → length (gathered given_by h p) ≡ 5
    five shows = (let b : (length (gathered given_by h p) == 5) ≡ true = (and_parts _ _ (and_parts _ _ shows).0).0 in grind arith)

    one : (a : Bool) → draws_openly (holding_of g h p) ≡ a → (b c : Bool) → (if a then Some (minus (gathered given_by h p) (thrown h)) else (if b then final_drawn (holding_of g h p) else (if c then Some [] else None))) ≡ Some cards → Fewer 5 cards (owned g.game h p)
    one true shows b c is =
        let same : minus (gathered given_by h p) (thrown h) ≡ cards = cc in
        let less : length (minus (gathered given_by h p) (thrown h)) ≤ length (gathered given_by h p) = length-minus (gathered given_by h p) (thrown h) (given_among g players h p stays ok).set in
        subst (λ (xs : List ℕ). Fewer 5 xs (owned g.game h p)) same (record { among = minus_among (gathered given_by h p) (thrown h) (owned g.game h p) (given_among g players h p stays ok); few = omega (arith, less, five shows) })
    one false shows true c is = fewer 5 5 cards (owned g.game h p) (omega arith) (drawn_holds g players h p cards stays ok size is)
    one false shows false true is = (let same : [] ≡ cards = cc in subst (λ (xs : List ℕ). Fewer 5 xs (owned g.game h p)) same (record { among = record { set = no_cards; each = λ k has. absurd (no_card k has) }; few = omega arith }))
    one false shows false false is = cc

drawn_known : (g : Header) (players : ℕ) (h : List Event) (p : ℕ) (cards : List ℕ) (s : StreetName) → may_come_again g.game ≡ false → IsAccepted g players h → own_size g.game ≡ 5 → known_drawn (holding_of g h p) s ≡ Some cards → Fewer 5 cards (owned g.game h p)
drawn_known g players h p cards First stays ok size is = kept_known g players h p cards stays ok size is
drawn_known g players h p cards _ stays ok size is = fewer 5 5 cards (owned g.game h p) (omega arith) (drawn_holds g players h p cards stays ok size is)

-- what is kept on the last of several draws: final cards, nothing, or what was held before it less what was thrown away on it
last_known : (g : Header) (players : ℕ) (h : List Event) (p : ℕ) (cards : List ℕ) → IsAccepted g players h → own_size g.game ≡ 5 → kept_last (holding_of g h p) ≡ Some cards → Fewer 5 cards (owned g.game h p)
last_known g players h p cards ok size is = one (last_draw_of g h p).pat (last_draw_of g h p).five (draws_last_openly (last_draw_of g h p)) refl is
  where
    left : List ℕ
    left = minus (held_before g h p) (thrown_late g h p)

    one : (a b c : Bool) → draws_last_openly (last_draw_of g h p) ≡ c → (if a then final_held (holding_of g h p) else (if b then Some [] else (if c then Some left else None))) ≡ Some cards → Fewer 5 cards (owned g.game h p)
    one true b c openly is = fewer 5 5 cards (owned g.game h p) (omega arith) (held_holds g players h p cards ok size is)
    one false true c openly is = (let same : [] ≡ cards = cc in subst (λ (xs : List ℕ). Fewer 5 xs (owned g.game h p)) same (record { among = record { set = no_cards; each = λ k has. absurd (no_card k has) }; few = omega arith }))
    one false false true openly is =
        let same : left ≡ cards = cc in
        let five : length (held_before g h p) ≡ 5 = (let b : (length (held_before g h p) == 5) ≡ true = (and_parts _ _ (and_parts _ _ openly).0).0 in grind arith) in
        let less : length left ≤ length (held_before g h p) = length-minus (held_before g h p) (thrown_late g h p) (before_set g h p) in
        subst (λ (xs : List ℕ). Fewer 5 xs (owned g.game h p)) same (record { among = left_among g players h p ok; few = omega (arith, less, five) })
    one false false false openly is = cc

triple_known : (g : Header) (players : ℕ) (h : List Event) (p : ℕ) (cards : List ℕ) (s : StreetName) → IsAccepted g players h → own_size g.game ≡ 5 → known_triple (holding_of g h p) s ≡ Some cards → Fewer 5 cards (owned g.game h p)
triple_known g players h p cards First ok size is = cc
triple_known g players h p cards FirstDraw ok size is = cc
triple_known g players h p cards SecondDraw ok size is = last_known g players h p cards ok size is
triple_known g players h p cards _ ok size is = fewer 5 5 cards (owned g.game h p) (omega arith) (held_holds g players h p cards ok size is)

-- the cards of a street of each game
pub known_holds : (g : Header) (players : ℕ) (h : List Event) (p : ℕ) (cards : List ℕ) (s : StreetName) (game : Game) → g.game ≡ game → IsAccepted g players h → known_by game (holding_of g h p) s ≡ Some cards → Fewer (own_size game) cards (owned g.game h p)
known_holds g players h p cards s game same ok is = by (family_of game) refl is
  where
    by : (f : Family) → family_of game ≡ f → known_in f (own_size game) (holding_of g h p) s ≡ Some cards → Fewer (own_size game) cards (owned g.game h p)
    by family.Board e is = fewer (own_size game) (own_size game) cards (owned g.game h p) (omega arith) (or_holds g players h p (own_size game) (dealt h p) cards (shown g h p) ok (ap own_size same) refl (dealt_among g players h p (ap may_come_again same ∙ ap deals_again e) ok) is)
    by family.Stud e is = subst (λ (n : ℕ). Fewer n cards (owned g.game h p)) (sym (seven_own game e)) (stud_known g players h p cards s (ap may_come_again same ∙ ap deals_again e) ok is)
    by family.Draw e is = subst (λ (n : ℕ). Fewer n cards (owned g.game h p)) (sym (five_own game e)) (drawn_known g players h p cards s (ap may_come_again same ∙ ap deals_again e) ok (ap own_size same ∙ five_own game e) is)
    by family.TripleDraw e is = subst (λ (n : ℕ). Fewer n cards (owned g.game h p)) (sym (five_triple game e)) (triple_known g players h p cards s ok (ap own_size same ∙ five_triple game e) is)
