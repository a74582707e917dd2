-- A mark is a card of its player: `law_a_mark_is_a_card_of_its_player`.
use Rattle.std.proofs.Common.{◌≡◌, ℕ, zero, suc, ◌+◌, ◌<◌, ◌≤◌, List, [], ◌∷◌, refl, sym, ap, ◌∙◌, subst, Bool, true, false, ◌==◌, ◌&&◌, not, inl, inr, arith, length, map}
use Rattle.std.specs.Prelude.{Option, Some, None, is_some, IfSome, Contains, filter, nat_le, slice_index_or, if◌then◌else◌, Ok}
use Rattle.std.specs.Int.{bit_at}
use Rattle.std.specs.List.{list_all, list_any}
use Rattle.std.proofs.lemmas.Nat.Bits.{bit_at-zero}
use mathlib.Core.Bool.{true≢false}
use Rattle.card_sets.specs.PlayerSetLaws.{has_player-where}
use Rattle.card_sets.specs.PlayerSets.{has_player, seats_in}
use Rattle.card_sets.specs.Cards.{has_card, union}
use Rattle.card_sets.specs.Choose.{choose}
use Rattle.card_sets.specs.Games.{allowed}
use Rattle.card_sets.specs.declared.games.Game.{Game}
use Rattle.card_sets.specs.declared.games.Game.TheVariants.{Stud, Stud8, Razz}
use Rattle.card_sets.specs.declared.games.Side.{Side}
use Rattle.card_sets.specs.declared.games.Side.TheVariants.{High, Low}
use Rattle.hand_events.specs.declared.events.Header.{Header}
use Rattle.history_text.specs.Headers.{header_of}
use Rattle.hand_choice.specs.AllowedFives.{AreFives, AllowsFives}
use Rattle.pot_layers.specs.Pots.{pots}
use Rattle.pot_layers.specs.Eligible.{ExcludesFolded}
use Rattle.pot_layers.specs.declared.paid.Paid.{Paid}
use Rattle.card_sets.proofs.CallerLemmas.{has-part, length-union, Apart-apart, IsPart, AreParts, AreParts-choose, in_union, or_either}
use Rattle.rank_low.proofs.CallerLemmas.{some-choice}
use Rattle.std.proofs.lemmas.Bool.{and_parts, or_left, or_right}
use Rattle.betting_replay.specs.Accepted.{ShowsSeats}
use Rattle.betting_replay.specs.CardLaws.{PlacesAreApart, CardsBelongAfter, WholeBoards}
use Rattle.showdown_tally.specs.Laws.{IsFull}
use Rattle.showdown_tally.specs.Showdown.{beats, is_beaten_by, winners_of}
use Rattle.hand_audit.specs.Marks.{worth_of_five, best_fives, height, highest, top_card, mark_among, mark_of}
use Rattle.hand_laws.specs.MarkLaws.{IsMarkOf, MarksIn, MarksAreCards}
use Rattle.hand_audit.specs.MarkNumbers.{number_of_five, top_number}
use Rattle.hand_audit.specs.Settle.{Showing, hand_of, mark_at, value_on, worth_on, side_winners, first_side, first_winners}
use Rattle.hand_audit.specs.Winning.{AreFullOn, AreDecided}
use Rattle.hand_verdict.specs.declared.verdicts.AllIn.{AllIn}
use Rattle.hand_verdict.specs.declared.verdicts.HandAudit.TheVariants.{Accepted}
use Rattle.hand_verdict.specs.declared.settlement.Settlement.{Settlement}
use Rattle.hand_audit.specs.Lines.{nothing}
use Rattle.hand_audit.specs.Showings.{showing_of}
use Rattle.hand_audit.specs.Verdict.{audit_of, events_of}
use Rattle.hand_audit.proofs.CallerLemmas.{among_filter, best_below, sound_all, start, has_total, decided, paid_shown, accepted_is}
use Rattle.hand_laws.proofs.lemmas.splits.PotsWon.{decided_at}

-- the first item, and those after it
here : {A : Type 0} (x : A) (xs : List A) → Contains (x ∷ xs) x
here x xs = (zero, omega arith, refl)

behind : {A : Type 0} (x y : A) (xs : List A) → Contains xs y → Contains (x ∷ xs) y
behind x y xs at = (suc at.0, (let l : at.0 < length xs = at.1 in omega (arith, l)), at.2)

-- an item whose number is the greatest
record Greatest {A : Type 0} (f : A → ℕ) (xs : List A) : Type 0 where
  item : A
  among : Contains xs item
  is : f item ≡ highest (map f xs)

greatest_of : {A : Type 0} (f : A → ℕ) (x : A) (xs : List A) → Greatest f (x ∷ xs)
greatest_of f x [] = record { item = x; among = here x []; is = omega arith }
greatest_of f x (y ∷ ys) = by (greatest_of f y ys) (nat_le (f (greatest_of f y ys).item) (f x)) refl
  where
    by : (g : Greatest f (y ∷ ys)) (b : Bool) → nat_le (f g.item) (f x) ≡ b → Greatest f (x ∷ y ∷ ys)
    by g true e = (let l : f g.item ≤ f x = grind arith in record { item = x; among = here x (y ∷ ys); is = omega (arith, l, g.is) })
    by g false e = (let l : f x < f g.item = grind arith in record { item = g.item; among = behind x g.item (y ∷ ys) g.among; is = omega (arith, l, g.is) })

greatest_in : {A : Type 0} (f : A → ℕ) (xs : List A) (y : A) → Contains xs y → Greatest f xs
greatest_in f [] y at = (let l : at.0 < 0 = at.1 in absurd (omega (arith, l)))
greatest_in f (x ∷ xs) y at = greatest_of f x xs

-- no item has a greater one
no_greater : {A : Type 0} (f : A → ℕ) (xs : List A) (y : A) (k : ℕ) → k < length xs → slice_index_or xs k y ≡ y → f y ≤ highest (map f xs)
no_greater f [] y k l e = absurd (omega arith)
no_greater f (x ∷ xs) y zero l e = (let same : f x ≡ f y = ap f e in omega (arith, same))
no_greater f (x ∷ xs) y (suc k) l e = (let rest = no_greater f xs y k (omega (arith, l)) e in omega (arith, rest))

-- what passes is kept, and what is kept was there
kept : {A : Type 0} (p : A → Bool) (xs : List A) (y : A) (k : ℕ) → k < length xs → slice_index_or xs k y ≡ y → p y ≡ true → Contains (filter p xs) y
kept p [] y k l e pass = absurd (omega arith)
kept p (x ∷ xs) y zero l e pass = subst (λ (z : _). Contains (filter p (x ∷ xs)) z) e (let passes : p x ≡ true = ap p e ∙ pass in rw passes (here x (filter p xs)))
kept p (x ∷ xs) y (suc k) l e pass = by (p x) (kept p xs y k (omega (arith, l)) e pass)
  where
    by : (b : Bool) → Contains (filter p xs) y → Contains (if b then x ∷ filter p xs else filter p xs) y
    by true at = behind x y (filter p xs) at
    by false at = at

kept_was : {A : Type 0} (p : A → Bool) (xs : List A) (y : A) → Contains (filter p xs) y → Contains xs y
kept_was p [] y at = at
kept_was p (x ∷ xs) y at = by (p x) at (kept_was p xs y)
  where
    by : (b : Bool) → Contains (if b then x ∷ filter p xs else filter p xs) y → (Contains (filter p xs) y → Contains xs y) → Contains (x ∷ xs) y
    by true (zero, l, e) later = (zero, omega arith, e)
    by true (suc k, l, e) later = behind x y xs (later (k, omega (arith, l), e))
    by false found later = behind x y xs (later found)

-- the cards of a list
card_in : (cards : List ℕ) (card k : ℕ) → k < length cards → slice_index_or cards k card ≡ card → has_card cards card ≡ true
card_in [] card k l e = absurd (omega arith)
card_in (c ∷ cards) card zero l e = (let same : (c == card) ≡ true = grind arith in or_left (c == card) (has_card cards card) same)
card_in (c ∷ cards) card (suc k) l e = or_right (c == card) (has_card cards card) (card_in cards card k (omega (arith, l)) e)

card_at : (cards : List ℕ) (card : ℕ) → has_card cards card ≡ true → Contains cards card
card_at [] card has = absurd (true≢false (sym has))
card_at (c ∷ cards) card has = elim (or_either (c == card) (has_card cards card) has) [
  | inl e ↦ (let same : c ≡ card = grind arith in subst (λ (x : ℕ). Contains (c ∷ cards) x) same (here c cards))
  | inr rest ↦ behind c card cards (card_at cards card rest)
]

-- a five of some, and a part
five_at : (fives : List (List ℕ)) (five : List ℕ) (k : ℕ) → AreFives fives → k < length fives → slice_index_or fives k five ≡ five → length five ≡ 5
five_at [] five k are l e = absurd (omega arith)
five_at (first ∷ fives) five zero are l e = ap length (sym e) ∙ are.1
five_at (first ∷ fives) five (suc k) are l e = five_at fives five k are.2 (omega (arith, l)) e

part_at : (xs : List ℕ) (parts : List (List ℕ)) (part : List ℕ) (k : ℕ) → AreParts 5 xs parts → k < length parts → slice_index_or parts k part ≡ part → IsPart part xs
part_at xs [] part k are l e = absurd (omega arith)
part_at xs (first ∷ parts) part zero are l e = subst (λ (x : List ℕ). IsPart x xs) e are.1
part_at xs (first ∷ parts) part (suc k) are l e = part_at xs parts part k are.2 (omega (arith, l)) e

-- some five is of best value
best_some : (side : Side) (fives : List (List ℕ)) → AreFives fives → 0 < length fives → (five : List ℕ) × Contains (best_fives side fives) five
unfolding best_fives
best_some side [] are some = absurd (omega arith)
best_some side (first ∷ fives) are some =
    let g = greatest_of (number_of_five side) first fives in
    let top : (number_of_five side g.item == top_number side (first ∷ fives)) ≡ true = (let is : number_of_five side g.item ≡ top_number side (first ∷ fives) = g.is in grind arith) in
    let passing = kept (λ five. number_of_five side five == top_number side (first ∷ fives)) (first ∷ fives) g.item g.among.0 g.among.1 g.among.2 top in
    (g.item, subst (λ (xs : List (List ℕ)). Contains xs g.item) (sym (best_below side (first ∷ fives) (first ∷ fives) are are (omega arith))) passing)

best_was : (side : Side) (fives : List (List ℕ)) (five : List ℕ) → Contains (best_fives side fives) five → Contains fives five
unfolding best_fives
best_was side fives five at = kept_was (λ five. list_all (λ other. not (beats side (worth_of_five side other) (worth_of_five side five))) fives) fives five at

five_top : (side : Side) (five : List ℕ) → length five ≡ 5 → Greatest (height side) five
five_top side [] size = absurd (omega arith)
five_top side (card ∷ five) size = greatest_of (height side) card five

counts_as : (side : Side) (five : List ℕ) (card mark : ℕ) → height side card ≡ highest (map (height side) five) → top_card side five ≡ mark → height side card ≡ mark
counts_as side five card mark is top = is ∙ top

-- the mark among fives of some cards, all of which are own ones
mark_card : (side : Side) (cards own : List ℕ) (fives : List (List ℕ)) → fives ≡ choose 5 cards → AreFives fives → 5 ≤ length cards → ((k : ℕ) → has_card cards k ≡ true → has_card own k ≡ true) → IsMarkOf side fives own (mark_among side fives)
unfolding mark_among
mark_card side cards own fives is are enough part =
    let many : 0 < length fives = (let some = some-choice 5 cards enough in omega (arith, some, ap length is)) in
    let some = best_some side fives are many in
    let g = greatest_in (top_card side) (best_fives side fives) some.0 some.1 in
    let at = best_was side fives g.item g.among in
    let t = five_top side g.item (five_at fives g.item at.0 are at.1 at.2) in
    let in_five : has_card g.item t.item ≡ true = card_in g.item t.item t.among.0 t.among.1 t.among.2 in
    let parts : AreParts 5 cards fives = subst (λ (xs : List (List ℕ)). AreParts 5 cards xs) (sym is) (AreParts-choose 5 cards) in
    record {
      five = g.item;
      card = t.item;
      best = g.among;
      in_five = in_five;
      in_own = part t.item (has-part g.item cards t.item (part_at cards fives g.item at.0 parts at.1 at.2) in_five);
      counts = counts_as side g.item t.item (mark_among side fives) t.is g.is;
      above = λ other among k has. (
          let c = card_at other k has in
          let low = no_greater (height side) other k c.0 c.1 c.2 in
          let most = no_greater (top_card side) (best_fives side fives) other among.0 among.1 among.2 in
          omega (arith, low, most));
    }

-- without a board all are own ones
no_board : (own board : List ℕ) (k : ℕ) → length board ≡ 0 → has_card (union own board) k ≡ true → has_card own k ≡ true
no_board own [] k none has = elim (in_union own [] k has).1 [ inl mine ↦ mine | inr other ↦ absurd (true≢false (sym other)) ]
no_board own (card ∷ board) k none has = absurd (omega arith)

own_mark : (side : Side) (fives : List (List ℕ)) (own board : List ℕ) → fives ≡ choose 5 (union own board) → AreFives fives → length own ≡ 7 → length board ≡ 0 → length (union own board) ≡ length own + length board → IsMarkOf side fives own (mark_among side fives)
own_mark side fives own board is are seven none size = mark_card side (union own board) own fives is are (omega (arith, size, seven, none)) (λ k has. no_board own board k none has)

full_mark : AllowsFives → (game : Game) (own board : List ℕ) → IsFull game own board → AreFives (allowed game own board) × (length (union own board) ≡ length own + length board)
full_mark law game own board full = (law game own board full.own_cards full.board_cards full.apart, length-union own board full.own_cards full.board_cards (Apart-apart own board full.apart))

stud_mark : AllowsFives → (own board : List ℕ) → IsFull Stud own board → IsMarkOf High (allowed Stud own board) own (mark_of (Some High) Stud board (Some own))
stud_mark law own board full = (let f = full_mark law Stud own board full in own_mark High (allowed Stud own board) own board refl f.0 full.own_size full.board_size f.1)

high8_mark : AllowsFives → (own board : List ℕ) → IsFull Stud8 own board → IsMarkOf High (allowed Stud8 own board) own (mark_of (Some High) Stud8 board (Some own))
high8_mark law own board full = (let f = full_mark law Stud8 own board full in own_mark High (allowed Stud8 own board) own board refl f.0 full.own_size full.board_size f.1)

low8_mark : AllowsFives → (own board : List ℕ) → IsFull Stud8 own board → IsMarkOf Low (allowed Stud8 own board) own (mark_of (Some Low) Stud8 board (Some own))
low8_mark law own board full = (let f = full_mark law Stud8 own board full in own_mark Low (allowed Stud8 own board) own board refl f.0 full.own_size full.board_size f.1)

razz_mark : AllowsFives → (own board : List ℕ) → IsFull Razz own board → IsMarkOf Low (allowed Razz own board) own (mark_of (Some Low) Razz board (Some own))
razz_mark law own board full = (let f = full_mark law Razz own board full in own_mark Low (allowed Razz own board) own board refl f.0 full.own_size full.board_size f.1)

-- in each pot
marks_in : (game : Game) (side : Side) (s : Showing) → AreDecided s (pots s.paid) → ((own board : List ℕ) → IsFull game own board → IsMarkOf side (allowed game own board) own (mark_of (Some side) game board (Some own))) → MarksIn game side s
marks_in game side s decided each is number pot at more board on p l own known =
    let full : AreFullOn s board = decided_at s (pots s.paid) number pot decided at more board on in
    let mine : IsFull s.game own board = subst (λ (o : Option (List ℕ)). IfSome o (λ own. IsFull s.game own board)) known (full p l) in
    let mark : mark_at (Some side) s board p ≡ mark_of (Some side) game board (Some own) = ap (λ o. mark_of (Some side) s.game board o) known ∙ ap (λ g. mark_of (Some side) g board (Some own)) is in
    subst (λ (n : ℕ). IsMarkOf side (allowed game own board) own n) (sym mark) (each own board (subst (λ (g : Game). IsFull g own board) is mine))

-- whoever wins has known final cards
has_hand : (side : Side) (s : Showing) (board : List ℕ) (p : ℕ) → is_some (worth_on (Some side) s board p) ≡ true → is_some (hand_of s p) ≡ true
has_hand side s board p worth = by (hand_of s p) worth
  where
    by : (o : Option (List ℕ)) → is_some (value_on (Some side) s.game board o) ≡ true → is_some o ≡ true
    by None worth = worth
    by (Some own) worth = refl

winner_known : (side : Option Side) (s : Showing) (board : List ℕ) (eligible p : ℕ) → p < 11 → has_player (side_winners side s board eligible) p ≡ true → is_some (hand_of s p) ≡ true
winner_known None s board eligible p l won = (let none : bit_at 0 p ≡ 0 = bit_at-zero p in absurd (true≢false (sym won ∙ ap (λ bit. bit == 1) none)))
winner_known (Some side) s board eligible p l won =
    let worth = λ (q : ℕ). worth_on (Some side) s board q in
    let unbeaten = λ (q : ℕ). list_all (λ j. not (is_beaten_by side (worth q) (worth j))) (seats_in eligible) in
    let among : list_any (λ q. q == p) (winners_of side (worth_on (Some side) s board) (seats_in eligible)) ≡ true
    = sym (has_player-where (λ p. list_any (λ q. q == p) (winners_of side (worth_on (Some side) s board) (seats_in eligible))) 11 p l) ∙ won in
    let passes = and_parts (list_any (λ q. q == p) (seats_in eligible)) (is_some (worth p) && unbeaten p) (sym (among_filter (λ q. is_some (worth q) && unbeaten q) (seats_in eligible) p) ∙ among) in
    has_hand side s board p (and_parts (is_some (worth p)) (unbeaten p) passes.1).0

winners_known : (s : Showing) (board : List ℕ) (eligible p : ℕ) → p < 11 → has_player (first_winners s board eligible) p ≡ true → is_some (hand_of s p) ≡ true
unfolding first_winners
winners_known s board eligible p l won = winner_known (first_side s.game) s board eligible p l won

pub marks_are_cards : AllowsFives → (s : Showing) → AreDecided s (pots s.paid) → MarksAreCards s
marks_are_cards law s decided = record {
  stud = marks_in Stud High s decided (stud_mark law);
  stud8_high = marks_in Stud8 High s decided (high8_mark law);
  stud8_low = marks_in Stud8 Low s decided (low8_mark law);
  razz = marks_in Razz Low s decided (razz_mark law);
  winners = winners_known s;
}

-- of a hand that is accepted
pub accepted_marks : AllowsFives → PlacesAreApart → CardsBelongAfter → WholeBoards → ShowsSeats → ExcludesFolded → (number : ℕ) (line : List ℕ) (lines : List (List ℕ)) (g : Header) → header_of line ≡ Ok g
    → (settlement : Settlement) (all_in : AllIn) (names : List (ℕ × List ℕ)) (players : ℕ)
    → audit_of number (line ∷ lines) ≡ Some (Accepted settlement all_in names players) → MarksAreCards (showing_of g players (events_of g lines))
accepted_marks fives apart belong boards shows folded number line lines g read settlement all_in names players is =
    let a = accepted_is number line lines g settlement all_in names players read is in
    let end = sound_all g players number lines nothing (start g players) a.none in
    let h = events_of g lines in
    let all = decided apart belong boards shows folded g players h end.0.accepted end.0.markers (end.0.part (has_total g players h end.1)) in
    marks_are_cards fives (showing_of g players h) (subst (λ (paid : List Paid). AreDecided (showing_of g players h) (pots paid)) (sym (paid_shown g players h)) all)
