-- What holds of every event that a line says.
use Rattle.std.proofs.Common.{◌≡◌, sym, subst, ℕ, suc, ◌+◌, ◌-◌, ◌<◌, ◌≤◌, ◌^◌, List, [], ◌∷◌, refl, Bool, true, false, ◌==◌, ◌&&◌, ◌||◌, not, arith, length, drop, take, codes}
use Rattle.std.specs.Prelude.{Option, Some, None, Result, Ok, Err, All, nat_le, nat_lt, is_some, if◌then◌else◌, option_map, option_and_then, IfOk}
use Rattle.std.specs.List.{starts_with}
use Rattle.std.specs.Str.{bytes_eq}
use Rattle.std.proofs.lemmas.List.{length-drop, length-take}
use Rattle.std.specs.Prelude.{nat_eq, min}
use Rattle.card_sets.specs.declared.games.Game.{Game}
use Rattle.line_text.specs.declared.amounts.AmountFault.TheVariants.{NotAmount, TooLarge}
use Rattle.line_text.specs.Amounts.{Written, written, greatest, units_of, counted, digit_count, number_of}
use Rattle.hand_events.specs.declared.events.Header.{Header}
use Rattle.hand_events.specs.declared.events.BoardNumber.{BoardNumber}
use Rattle.hand_events.specs.declared.events.Event.{Event}
use Rattle.hand_events.specs.declared.events.Event.TheVariants as event
use Rattle.hand_events.specs.declared.events.Act.TheVariants.{Fold, Check, Call, Bet, Raise}
use Rattle.hand_events.specs.declared.events.Part.{Part}
use Rattle.hand_events.specs.declared.events.Part.TheVariants.{Preamble, Play, Summary as SummaryPart}
use Rattle.hand_events.specs.declared.events.PostKind.{PostKind}
use Rattle.hand_events.specs.declared.events.PotName.{PotName}
use Rattle.card_sets.specs.declared.streets.Street.{Street}
use Rattle.hand_events.specs.declared.events.TextFault.{TextFault}
use Rattle.hand_events.specs.declared.events.TextFault.TheVariants.{Cancelled, BadMarker, BadAction, BadCards}
use Rattle.history_text.specs.declared.verbs.Verb.{Verb}
use Rattle.history_text.specs.declared.verbs.Verb.TheVariants.{PostsSmall, PostsBig, PostsBoth, PostsAnte, BringsIn, Folds, Checks, Calls, Bets, Raises, Shows, Mucks, DoesntShow, Discards, StandsPat, SitsOut, IsSittingOut}
use Rattle.history_text.specs.Texts.{behind, cut_at, cut_last, last_place}
use Rattle.history_text.specs.Reading.{◌>>=◌, ◌otherwise◌, or_fault, is_end, money, money_of, some_money, follows, all_in_end, seat_of, seat_front}
use Rattle.history_text.specs.Names.{Fit, fit, longer, longest, front_name}
use Rattle.hand_events.specs.Names.{seat_named, is_taken, is_seated}
use Rattle.card_sets.specs.Games.{has_bring_in, has_draw}
use Rattle.card_sets.specs.Streets.{board_count}
use Rattle.history_text.specs.Acts.{post, call, bet, raise, fold, show, discard, discard_behind, is_discarded, pat, verb_event, act_event, at_end, perhaps_cards, behind_card}
use Rattle.history_text.specs.Brackets.{closed, counted_cards, shown_cards, shown_counts}
use Rattle.history_text.specs.Plays.{act_line, deal_line, deal, deal_cards, deal_once, deal_again, deal_end, deal_nothing, dealt_counts, drawn_counts, give_back, return_line, collect, collect_line, pot_of, cancel_line, play_event}
use Rattle.history_text.specs.Markers.{street_event, marker_event, marker_line, marker_of}
use Rattle.history_text.specs.Seats.{seat_opening, free_name, seat_event, seat_line, button_event, button_end, button_line, preamble_event}
use Rattle.history_text.specs.Totals.{total_event, total_line, seat_among, last_shown, seat_cards, show_line, summary_event}
use Rattle.history_text.specs.Lines.{line_event}
use Rattle.history_text.specs.Within.{IsWithin, IsSeated, stands_in}

-- what holds of what is read, of what may be there, and of what a kind of line says
abbrev Reads : {A : Type 0} → (A → Type 0) → Result A TextFault → Type 0
Reads P (Ok x) = P x
Reads P (Err f) = Unit {0}

abbrev Has : {A : Type 0} → (A → Type 0) → Option A → Type 0
Has P (Some x) = P x
Has P None = Unit {0}

abbrev Says : (Event → Type 0) → Option (Result Event TextFault) → Type 0
Says Q (Some r) = Reads Q r
Says Q None = Unit {0}

bind : {A B : Type 0} (P : A → Type 0) (Q : B → Type 0) (r : Result A TextFault) (f : A → Result B TextFault) → Reads P r → ((x : A) → P x → Reads Q (f x)) → Reads Q (r >>= f)
bind P Q (Ok x) f h g = g x h
bind P Q (Err e) f h g = tt

next : {A B : Type 0} (Q : B → Type 0) (r : Result A TextFault) (f : A → Result B TextFault) → ((x : A) → Reads Q (f x)) → Reads Q (r >>= f)
next Q (Ok x) f g = g x
next Q (Err e) f g = tt

or_reads : {A : Type 0} (P : A → Type 0) (f : TextFault) (o : Option A) → Has P o → Reads P (or_fault f o)
or_reads P f (Some x) h = h
or_reads P f None h = tt

either : {A : Type 0} (Q : A → Type 0) (b : Bool) (x y : Result A TextFault) → Reads Q x → Reads Q y → Reads Q (if b then x else y)
either Q true x y h k = h
either Q false x y h k = k

otherwise_says : (Q : Event → Type 0) (o : Option (Result Event TextFault)) (y : Result Event TextFault) → Says Q o → Reads Q y → Reads Q (o otherwise y)
otherwise_says Q (Some r) y h k = h
otherwise_says Q None y h k = k

says_map : {A : Type 0} (P : A → Type 0) (Q : Event → Type 0) (f : A → Result Event TextFault) (o : Option A) → Has P o → ((x : A) → P x → Reads Q (f x)) → Says Q (option_map f o)
says_map P Q f (Some x) h g = g x h
says_map P Q f None h g = tt

says_any : {A : Type 0} (Q : Event → Type 0) (f : A → Result Event TextFault) (o : Option A) → ((x : A) → Reads Q (f x)) → Says Q (option_map f o)
says_any Q f (Some x) g = g x
says_any Q f None g = tt

-- amounts
small_limited : (text : List ℕ) (at : ℕ) (hundredths : Bool) (w : Written) (b c : Bool) → nat_le (units_of hundredths w) greatest ≡ c
    → Reads (λ (m : ℕ × List ℕ). m.0 < 10 ^ 15) (money_of text (if b then Err NotAmount else (if c then Ok (record { units = units_of hundredths w; next = at + w.length; marked = w.marked }) else Err TooLarge)))
small_limited text at hundredths w true c e = tt
small_limited text at hundredths w false true e = let l : units_of hundredths w ≤ greatest = grind arith in omega (arith, l)
small_limited text at hundredths w false false e = tt

small_counted : (text : List ℕ) (hundredths : Bool) (o : Option Written) → Reads (λ (m : ℕ × List ℕ). m.0 < 10 ^ 15) (money_of text (counted 0 hundredths o))
small_counted text hundredths None = tt
small_counted text hundredths (Some w) = small_limited text 0 hundredths w (w.pointed && not hundredths) (nat_le (units_of hundredths w) greatest) refl

money_small : (hundredths : Bool) (text : List ℕ) → Reads (λ (m : ℕ × List ℕ). m.0 < 10 ^ 15) (money hundredths text)
unfolding money
money_small hundredths text = small_counted text hundredths (written (drop 0 text))

some_small : (hundredths : Bool) (text : List ℕ) → Reads (λ (m : ℕ × List ℕ). m.0 < 10 ^ 15) (some_money hundredths text)
unfolding some_money
some_small hundredths text = bind (λ (m : ℕ × List ℕ). m.0 < 10 ^ 15) _ (money hundredths text) _ (money_small hundredths text) (λ m h. either (λ (m : ℕ × List ℕ). m.0 < 10 ^ 15) (m.0 == 0) _ _ tt h)

-- an event of a line, in a part
abbrev Good : Part → List ℕ → Event → Type 0
Good part line e = IsWithin line e × (stands_in part e ≡ true)

abbrev InSeats : ℕ → Type 0
InSeats seat = (1 ≤ seat) × (seat ≤ 10)

-- lines of an actor
post_good : (line : List ℕ) (header : Header) (seat : ℕ) (kind : PostKind) (text : List ℕ) → InSeats seat → Reads (Good Play line) (post header seat kind text)
unfolding post
post_good line header seat kind text s = bind (λ (m : ℕ × List ℕ). m.0 < 10 ^ 15) (Good Play line) _ _ (some_small header.hundredths text) (λ (paid : ℕ × List ℕ) h. next (Good Play line) (all_in_end paid.1) (λ x'. Ok (event.Post seat kind paid.0 x')) (λ (all_in : Bool). let g : Good Play line (event.Post seat kind paid.0 all_in) = ((s.0, s.1, h), refl) in g))

call_good : (line : List ℕ) (header : Header) (seat : ℕ) (text : List ℕ) → InSeats seat → Reads (Good Play line) (call header seat text)
unfolding call
call_good line header seat text s = bind (λ (m : ℕ × List ℕ). m.0 < 10 ^ 15) (Good Play line) _ _ (some_small header.hundredths text) (λ (paid : ℕ × List ℕ) h. next (Good Play line) (all_in_end paid.1) (λ x'. Ok (event.Act seat (Call paid.0) x' [])) (λ (all_in : Bool). let g : Good Play line (event.Act seat (Call paid.0) all_in []) = ((s.0, s.1, h), refl) in g))

bet_good : (line : List ℕ) (header : Header) (seat : ℕ) (text : List ℕ) → InSeats seat → Reads (Good Play line) (bet header seat text)
unfolding bet
bet_good line header seat text s = bind (λ (m : ℕ × List ℕ). m.0 < 10 ^ 15) (Good Play line) _ _ (some_small header.hundredths text) (λ (paid : ℕ × List ℕ) h. next (Good Play line) (all_in_end paid.1) (λ x'. Ok (event.Act seat (Bet paid.0) x' [])) (λ (all_in : Bool). let g : Good Play line (event.Act seat (Bet paid.0) all_in []) = ((s.0, s.1, h), refl) in g))

raise_good : (line : List ℕ) (header : Header) (seat : ℕ) (text : List ℕ) → InSeats seat → Reads (Good Play line) (raise header seat text)
unfolding raise
raise_good line header seat text s =
    bind (λ (m : ℕ × List ℕ). m.0 < 10 ^ 15) (Good Play line) _ _ (some_small header.hundredths text) (λ (by : ℕ × List ℕ) h.
    next (Good Play line) _ _ (λ (rest : List ℕ). bind (λ (m : ℕ × List ℕ). m.0 < 10 ^ 15) (Good Play line) _ _ (some_small header.hundredths rest) (λ (to : ℕ × List ℕ) k.
    next (Good Play line) (all_in_end to.1) (λ x'. Ok (event.Act seat (Raise by.0 to.0) x' [])) (λ (all_in : Bool). let g : Good Play line (event.Act seat (Raise by.0 to.0) all_in []) = ((s.0, s.1, (h, k)), refl) in g))))

fold_good : (line : List ℕ) (seat : ℕ) (text : List ℕ) → InSeats seat → Reads (Good Play line) (fold seat text)
unfolding fold
fold_good line seat text s = next (Good Play line) (perhaps_cards shown_counts text) (λ x'. Ok (event.Act seat Fold false x')) (λ (cards : List ℕ). let g : Good Play line (event.Act seat Fold false cards) = ((s.0, s.1, tt), refl) in g)

show_good : (line : List ℕ) (seat : ℕ) (text : List ℕ) → InSeats seat → Reads (Good Play line) (show seat text)
unfolding show
show_good line seat text s = next (Good Play line) (shown_cards text) (λ cards. Ok (event.Show seat cards)) (λ (cards : List ℕ). let g : Good Play line (event.Show seat cards) = ((s.0, s.1), refl) in g)

discard_good : (line : List ℕ) (seat : ℕ) (text : List ℕ) → InSeats seat → Reads (Good Play line) (discard seat text)
unfolding discard discard_behind
discard_good line seat [] s = tt
discard_good line seat (digit ∷ text) s =
    either (Good Play line) (is_discarded digit) _ _
    (next (Good Play line) (or_fault BadAction (behind_card text)) (λ x'. ◌>>=◌ {B = Event} (perhaps_cards ((digit - 48) ∷ []) x') (λ x''. Ok (event.Discard seat (digit - 48) x''))) (λ (rest : List ℕ). next (Good Play line) (perhaps_cards ((digit - 48) ∷ []) rest) (λ x'. Ok (event.Discard seat (digit - 48) x')) (λ (cards : List ℕ). let g : Good Play line (event.Discard seat (digit - 48) cards) = ((s.0, s.1), refl) in g))) tt

pat_good : (line : List ℕ) (seat : ℕ) (text : List ℕ) → InSeats seat → Reads (Good Play line) (pat seat text)
unfolding pat
pat_good line seat text s =
    let g : Good Play line (event.Pat seat) = ((s.0, s.1), refl) in
    either (Good Play line) (is_end text) _ _ g (next (Good Play line) (or_fault BadAction (behind (codes " on ") text)) (λ x'. Ok (event.Pat seat)) (λ (rest : List ℕ). g))

at_end_good : (line : List ℕ) (e : Event) (text : List ℕ) → Good Play line e → Reads (Good Play line) (at_end e text)
at_end_good line e text g = either (Good Play line) (is_end text) _ _ g tt

verb_event_good : (line : List ℕ) (header : Header) (seat : ℕ) (verb : Verb) (text : List ℕ) → InSeats seat → Reads (Good Play line) (verb_event header seat verb text)
unfolding verb_event
verb_event_good line header seat PostsSmall text s = post_good line header seat _ text s
verb_event_good line header seat PostsBig text s = post_good line header seat _ text s
verb_event_good line header seat PostsBoth text s = post_good line header seat _ text s
verb_event_good line header seat PostsAnte text s = post_good line header seat _ text s
verb_event_good line header seat BringsIn text s = either (Good Play line) (has_bring_in header.game) _ _ (post_good line header seat _ text s) tt
verb_event_good line header seat Folds text s = fold_good line seat text s
verb_event_good line header seat Checks text s = at_end_good line (event.Act seat Check false []) text ((s.0, s.1, tt), refl)
verb_event_good line header seat Calls text s = call_good line header seat text s
verb_event_good line header seat Bets text s = bet_good line header seat text s
verb_event_good line header seat Raises text s = raise_good line header seat text s
verb_event_good line header seat Shows text s = show_good line seat text s
verb_event_good line header seat Mucks text s = at_end_good line (event.Muck seat) text ((s.0, s.1), refl)
verb_event_good line header seat DoesntShow text s = at_end_good line (event.Muck seat) text ((s.0, s.1), refl)
verb_event_good line header seat Discards text s = either (Good Play line) (has_draw header.game) _ _ (discard_good line seat text s) tt
verb_event_good line header seat StandsPat text s = either (Good Play line) (has_draw header.game) _ _ (pat_good line seat text s) tt
verb_event_good line header seat SitsOut text s = at_end_good line event.Remark text (tt, refl)
verb_event_good line header seat IsSittingOut text s = at_end_good line event.Remark text (tt, refl)

act_good : (line : List ℕ) (header : Header) (seat : ℕ) (text : List ℕ) → InSeats seat → Reads (Good Play line) (act_event header seat text)
unfolding act_event
act_good line header seat text s = next (Good Play line) _ _ (λ (verb : Verb × List ℕ). verb_event_good line header seat verb.0 verb.1 s)

-- the names are of seats
head_of : (who : ℕ × List ℕ) (names : List (ℕ × List ℕ)) → All IsSeated (who ∷ names) → IsSeated who
head_of who names all = all 0 who (omega arith)

tail_of : (who : ℕ × List ℕ) (names : List (ℕ × List ℕ)) → All IsSeated (who ∷ names) → All IsSeated names
tail_of who names all k d l = all (suc k) d (omega arith)

abbrev FitSeats : Fit → Type 0
FitSeats f = InSeats f.seat

longer_has : (a b : Option Fit) → Has FitSeats a → Has FitSeats b → Has FitSeats (longer a b)
longer_has None b ha hb = hb
longer_has (Some x) None ha hb = ha
longer_has (Some x) (Some y) ha hb = by (nat_lt x.length y.length)
  where
    by : (c : Bool) → Has FitSeats (if c then Some y else Some x)
    by true = hb
    by false = ha

fit_has : (mark text : List ℕ) (who : ℕ × List ℕ) → IsSeated who → Has FitSeats (fit mark text who)
fit_has mark text who s = by (option_and_then (λ tail. behind mark tail) (behind (who.1) text))
  where
    by : (o : Option (List ℕ)) → Has FitSeats (option_map (λ rest. record { seat = who.0; length = length who.1; rest = rest }) o)
    by None = tt
    by (Some rest) = s

longest_has : (mark text : List ℕ) (names : List (ℕ × List ℕ)) (best : Option Fit) → All IsSeated names → Has FitSeats best → Has FitSeats (longest best mark text names)
longest_has mark text [] best all h = h
longest_has mark text (who ∷ names) best all h = longest_has mark text names (longer best (fit mark text who)) (tail_of who names all) (longer_has best (fit mark text who) h (fit_has mark text who (head_of who names all)))

front_has : (mark text : List ℕ) (names : List (ℕ × List ℕ)) → All IsSeated names → Has FitSeats (front_name mark text names)
unfolding front_name
front_has mark text names all = longest_has mark text names None all tt

named_has : (text : List ℕ) (names : List (ℕ × List ℕ)) → All IsSeated names → Has InSeats (seat_named text names)
named_has text [] all = tt
named_has text (who ∷ names) all = by (bytes_eq who.1 text) (head_of who names all) (named_has text names (tail_of who names all))
  where
    by : (b : Bool) → IsSeated who → Has InSeats (seat_named text names) → Has InSeats (if b then Some who.0 else seat_named text names)
    by true here rest = here
    by false here rest = rest

-- lines of play
act_line_good : (line : List ℕ) (names : List (ℕ × List ℕ)) (header : Header) → All IsSeated names → Says (Good Play line) (act_line names header line)
unfolding act_line
act_line_good line names header all = says_map FitSeats (Good Play line) _ _ (front_has (codes ": ") line names all) (λ who s. act_good line header who.seat who.rest s)

end_good : (line : List ℕ) (seat : ℕ) (drawn : Bool) (cards text : List ℕ) → InSeats seat → Good Play line (deal_end seat drawn cards text)
end_good line seat drawn cards text s = by (is_end text)
  where
    by : (b : Bool) → Good Play line (if b then event.Deal seat cards drawn else event.Remark)
    by true = ((s.0, s.1), refl)
    by false = (tt, refl)

deal_good : (line : List ℕ) (game : Game) (seat : ℕ) (inside : List ℕ) → InSeats seat → Reads (Good Play line) (deal_cards game seat inside)
unfolding deal_cards deal_once deal_again
deal_good line game seat inside s = next (Good Play line) (closed inside) (λ x'. option_map {T = List ℕ} {U = Result Event TextFault} (λ x''. ◌>>=◌ {B = Event} (closed x'') (λ x3. ◌>>=◌ {B = Event} (counted_cards (drawn_counts game) x3.0) (λ x4. Ok (deal_end seat true x4 x3.1)))) (behind (codes " [") x'.1) otherwise ◌>>=◌ {B = Event} (counted_cards (dealt_counts game) x'.0) (λ x''. Ok (deal_end seat false x'' x'.1))) (λ (cut : List ℕ × List ℕ).
    otherwise_says (Good Play line) (option_map {T = List ℕ} {U = Result Event TextFault} (λ x'. ◌>>=◌ {B = Event} (closed x') (λ x''. ◌>>=◌ {B = Event} (counted_cards (drawn_counts game) x''.0) (λ x3. Ok (deal_end seat true x3 x''.1)))) (behind (codes " [") cut.1)) (◌>>=◌ {B = Event} (counted_cards (dealt_counts game) cut.0) (λ x'. Ok (deal_end seat false x' cut.1)))
    (says_any (Good Play line) (λ x'. ◌>>=◌ {B = Event} (closed x') (λ x''. ◌>>=◌ {B = Event} (counted_cards (drawn_counts game) x''.0) (λ x3. Ok (deal_end seat true x3 x''.1)))) (behind (codes " [") cut.1) (λ (second : List ℕ). next (Good Play line) (closed second) (λ x'. ◌>>=◌ {B = Event} (counted_cards (drawn_counts game) x'.0) (λ x''. Ok (deal_end seat true x'' x'.1))) (λ (more : List ℕ × List ℕ). next (Good Play line) (counted_cards (drawn_counts game) more.0) (λ x'. Ok (deal_end seat true x' more.1)) (λ (cards : List ℕ). end_good line seat true cards more.1 s))))
    (next (Good Play line) (counted_cards (dealt_counts game) cut.0) (λ x'. Ok (deal_end seat false x' cut.1)) (λ (cards : List ℕ). end_good line seat false cards cut.1 s)))

nothing_good : (line : List ℕ) (names : List (ℕ × List ℕ)) (text : List ℕ) → Reads (Good Play line) (deal_nothing names text)
nothing_good line names text = either (Good Play line) (is_some (seat_named text names)) _ _ (tt, refl) tt

deal_line_good : (line : List ℕ) (names : List (ℕ × List ℕ)) (header : Header) → All IsSeated names → Says (Good Play line) (deal_line names header line)
unfolding deal_line deal
deal_line_good line names header all = says_any (Good Play line) _ _ (λ text.
    otherwise_says (Good Play line) _ _ (says_map FitSeats (Good Play line) _ _ (front_has (codes " [") text names all) (λ who s. deal_good line header.game who.seat who.rest s)) (nothing_good line names text))

return_line_good : (line : List ℕ) (names : List (ℕ × List ℕ)) (header : Header) → All IsSeated names → Says (Good Play line) (return_line names header line)
unfolding return_line give_back
return_line_good line names header all = says_any (Good Play line) _ _ (λ (text : List ℕ).
    bind (λ (m : ℕ × List ℕ). m.0 < 10 ^ 15) (Good Play line) _ _ (some_small header.hundredths text) (λ (back : ℕ × List ℕ) h.
    next (Good Play line) _ _ (λ (name : List ℕ). bind InSeats (Good Play line) _ _ (or_reads InSeats _ _ (named_has name names all)) (λ (seat : ℕ) s. let g : Good Play line (event.Uncalled seat back.0) = ((s.0, s.1, h), refl) in g))))

collect_line_good : (line : List ℕ) (names : List (ℕ × List ℕ)) (header : Header) → All IsSeated names → Says (Good Play line) (collect_line names header line)
unfolding collect_line collect
collect_line_good line names header all = says_map FitSeats (Good Play line) _ _ (front_has (codes " collected ") line names all) (λ (who : Fit) s.
    bind (λ (m : ℕ × List ℕ). m.0 < 10 ^ 15) (Good Play line) _ _ (some_small header.hundredths who.rest) (λ (won : ℕ × List ℕ) h.
    next (Good Play line) (follows (codes " from ") won.1) (λ x'. ◌>>=◌ {B = Event} (or_fault BadAction (pot_of x')) (λ x''. Ok (event.Collect who.seat won.0 x''))) (λ (rest : List ℕ). next (Good Play line) (or_fault BadAction (pot_of rest)) (λ x'. Ok (event.Collect who.seat won.0 x')) (λ (pot : PotName). let g : Good Play line (event.Collect who.seat won.0 pot) = ((s.0, s.1, h), refl) in g))))

street_good : (line : List ℕ) (game : Game) (number : BoardNumber) (street : Street) (text : List ℕ) → Reads (Good Play line) (street_event game number street text)
unfolding street_event
street_good line game number street text =
    either (Good Play line) (board_count game street == 0) _ _ (tt, refl)
    (next (Good Play line) (or_fault BadCards (cut_last (codes "[") text)) (λ x'. ◌>>=◌ {B = Event} (closed x'.1) (λ x''. ◌>>=◌ {B = Event} (counted_cards (board_count game street ∷ []) x''.0) (λ x3. Ok (event.Street street number x3)))) (λ (last : List ℕ × List ℕ). next (Good Play line) (closed last.1) (λ x'. ◌>>=◌ {B = Event} (counted_cards (board_count game street ∷ []) x'.0) (λ x''. Ok (event.Street street number x''))) (λ (cut : List ℕ × List ℕ). next (Good Play line) (counted_cards (board_count game street ∷ []) cut.0) (λ x'. Ok (event.Street street number x')) (λ (cards : List ℕ). let g : Good Play line (event.Street street number cards) = (tt, refl) in g))))

marker_line_good : (line : List ℕ) (header : Header) → Says (Good Play line) (marker_line header line)
unfolding marker_line marker_event
marker_line_good line header = says_any (Good Play line) _ (behind (codes "*** ") line) (λ (text : List ℕ).
    next (Good Play line) (or_fault BadMarker (marker_of header.game text)) _ (λ (marker : (BoardNumber × Street) × List ℕ). street_good line header.game marker.0.0 marker.0.1 marker.1))

cancel_line_good : (line : List ℕ) → Says (Good Play line) (cancel_line line)
unfolding cancel_line
cancel_line_good line = by (bytes_eq line (codes "Hand cancelled") || bytes_eq line (codes "Hand canceled"))
  where
    by : (b : Bool) → Says (Good Play line) (if b then Some (Err Cancelled) else None)
    by true = tt
    by false = tt

play_good : (line : List ℕ) (names : List (ℕ × List ℕ)) (header : Header) → All IsSeated names → Reads (Good Play line) (play_event names header line)
unfolding play_event
play_good line names header all =
    otherwise_says (Good Play line) _ _ (act_line_good line names header all)
    (otherwise_says (Good Play line) _ _ (deal_line_good line names header all)
    (otherwise_says (Good Play line) _ _ (return_line_good line names header all)
    (otherwise_says (Good Play line) _ _ (collect_line_good line names header all)
    (otherwise_says (Good Play line) _ _ (marker_line_good line header)
    (otherwise_says (Good Play line) _ _ (cancel_line_good line) (tt, refl))))))

-- lines of the summary
among_has : (names : List (ℕ × List ℕ)) (o : Option ℕ) → Has InSeats o → Has InSeats (seat_among names o)
among_has names None h = tt
among_has names (Some seat) h = by (is_seated seat names)
  where
    by : (b : Bool) → Has InSeats (if b then Some seat else None)
    by true = h
    by false = tt

-- a text after a front is no longer, nor is a part of one
behind_short : (front text : List ℕ) → Has (λ (rest : List ℕ). length rest ≤ length text) (behind front text)
unfolding behind
behind_short front text = by (starts_with nat_eq text front)
  where
    by : (b : Bool) → Has (λ (rest : List ℕ). length rest ≤ length text) (if b then Some (drop (length front) text) else None)
    by true = let e : length (drop (length front) text) ≡ length text - length front = length-drop (length front) text in omega (arith, e)
    by false = tt

seat_of_has : (n : ℕ) → Has InSeats (seat_of n)
seat_of_has n = by (nat_le 1 n) (nat_le n 10) refl refl
  where
    by : (a b : Bool) → nat_le 1 n ≡ a → nat_le n 10 ≡ b → Has InSeats (if a && b then Some n else None)
    by true true ea eb = let l : 1 ≤ n = grind arith in let m : n ≤ 10 = grind arith in (l, m)
    by true false ea eb = tt
    by false b ea eb = tt

-- a seat, and a text that is no longer than another
abbrev Opens : List ℕ → Option ℕ × List ℕ → Type 0
Opens line opening = Has InSeats opening.0 × (length opening.1 ≤ length line)

front_opens : (text : List ℕ) → Has (Opens text) (seat_front text)
unfolding seat_front
front_opens text = by (digit_count text == 0)
  where
    by : (b : Bool) → Has (Opens text) (option_map (λ (front : List ℕ × List ℕ). (seat_of (number_of front.0), front.1)) (if b then None else Some (take (digit_count text) text, drop (digit_count text) text)))
    by true = tt
    by false = (seat_of_has (number_of (take (digit_count text) text)), (let e : length (drop (digit_count text) text) ≡ length text - digit_count text = length-drop (digit_count text) text in omega (arith, e)))

opening_has : (line : List ℕ) → Has (Opens line) (seat_opening line)
unfolding seat_opening
opening_has line = by_seat (behind (codes "Seat ") line) (behind_short (codes "Seat ") line)
  where
    by_mark : (seat : Option ℕ) (text : List ℕ) (o : Option (List ℕ)) → Has InSeats seat → length text ≤ length line → Has (λ (rest : List ℕ). length rest ≤ length text) o → Has (Opens line) (option_map (λ rest. (seat, rest)) o)
    by_mark seat text None s l h = tt
    by_mark seat text (Some rest) s l h = (s, omega (arith, l, h))

    by_front : (text : List ℕ) (o : Option (Option ℕ × List ℕ)) → length text ≤ length line → Has (Opens text) o
        → Has (Opens line) (option_and_then (λ number. option_map (λ rest. (number.0, rest)) (behind (codes ": ") number.1)) o)
    by_front text None l h = tt
    by_front text (Some number) l h = by_mark number.0 number.1 (behind (codes ": ") number.1) h.0 (let m = h.1 in omega (arith, l, m)) (behind_short (codes ": ") number.1)

    by_seat : (o : Option (List ℕ)) → Has (λ (rest : List ℕ). length rest ≤ length line) o
        → Has (Opens line) (option_and_then (λ number. option_map (λ rest. (number.0, rest)) (behind (codes ": ") number.1)) (option_and_then (λ text. seat_front text) o))
    by_seat None h = tt
    by_seat (Some text) h = by_front text (seat_front text) h (front_opens text)

-- what stands before a cut is no longer than the text
cut_short : (mark text : List ℕ) → Has (λ (cut : List ℕ × List ℕ). length cut.0 ≤ length text) (cut_last mark text)
unfolding cut_last
cut_short mark text = by (last_place mark text)
  where
    by : (o : Option ℕ) → Has (λ (cut : List ℕ × List ℕ). length cut.0 ≤ length text) (cut_at mark text o)
    by None = tt
    by (Some place) = let e : length (take place text) ≡ min place (length text) = length-take place text in omega (arith, e)

-- the line of a seat
abbrev Short : List ℕ → List ℕ → Type 0
Short text name = length name ≤ length text

free_short : (names : List (ℕ × List ℕ)) (seat : ℕ) (text name : List ℕ) → Short text name → Reads (Short text) (free_name names seat name)
free_short names seat text name h = either (Short text) (is_end name || is_taken seat name names) _ _ tt h

seat_good : (line : List ℕ) (names : List (ℕ × List ℕ)) (header : Header) (number : Option ℕ) (text before : List ℕ) → Has InSeats number → length text ≤ length line → length before ≤ length text
    → Reads (Good Preamble line) (seat_event names header (length line - length text) number text before)
unfolding seat_event
seat_good line names header number text before s l m =
    bind InSeats (Good Preamble line) _ _ (or_reads InSeats _ _ s) (λ (seat : ℕ) t.
    bind (λ (cut : List ℕ × List ℕ). length cut.0 ≤ length before) (Good Preamble line) _ _ (or_reads (λ (cut : List ℕ × List ℕ). length cut.0 ≤ length before) _ _ (cut_short (codes " (") before)) (λ (cut : List ℕ × List ℕ) n.
    bind (Short before) (Good Preamble line) _ _ (free_short names seat before cut.0 n) (λ (name : List ℕ) k.
    bind (λ (m : ℕ × List ℕ). m.0 < 10 ^ 15) (Good Preamble line) _ _ (money_small header.hundredths (drop (length name + 2) text)) (λ (stack : ℕ × List ℕ) h.
    next (Good Preamble line) (follows (codes " in chips") stack.1) (λ x'. Ok (event.Seat seat stack.0 (length {A = ℕ} line - length {A = ℕ} text) (length {A = ℕ} line - length {A = ℕ} text + length {A = ℕ} name))) (λ (rest : List ℕ).
    let g : Good Preamble line (event.Seat seat stack.0 (length line - length text) (length line - length text + length name)) = ((t.0, t.1, h, omega arith, omega (arith, l, m, k)), refl) in g)))))

seat_line_good : (line : List ℕ) (names : List (ℕ × List ℕ)) (header : Header) → Says (Good Preamble line) (seat_line names header line)
unfolding seat_line
seat_line_good line names header = by_opening (seat_opening line) (opening_has line)
  where
    by_cut : (number : Option ℕ) (text : List ℕ) (o : Option (List ℕ × List ℕ)) → Has InSeats number → length text ≤ length line → Has (λ (cut : List ℕ × List ℕ). length cut.0 ≤ length text) o
        → Says (Good Preamble line) (option_map (λ cut. seat_event names header (length line - length text) number text cut.0) o)
    by_cut number text None s l h = tt
    by_cut number text (Some cut) s l h = seat_good line names header number text cut.0 s l h

    by_opening : (o : Option (Option ℕ × List ℕ)) → Has (Opens line) o
        → Says (Good Preamble line) (option_and_then (λ opening. option_map (λ cut. seat_event names header (length line - length opening.1) opening.0 opening.1 cut.0) (cut_last (codes " in chips") opening.1)) o)
    by_opening None h = tt
    by_opening (Some opening) h = by_cut opening.0 opening.1 (cut_last (codes " in chips") opening.1) h.0 h.1 (cut_short (codes " in chips") opening.1)

button_good : (line text : List ℕ) (number : Option ℕ × List ℕ) → Has InSeats number.0 → Says (Good Preamble line) (button_end number)
button_good line text number s = by (bytes_eq number.1 (codes " is the button"))
  where
    by_number : (o : Option ℕ) → Has InSeats o → Good Preamble line (button_event o)
    by_number (Some seat) t = ((t.0, t.1), refl)
    by_number None t = (tt, refl)

    by : (b : Bool) → Says (Good Preamble line) (if b then Some (Ok (button_event number.0)) else None)
    by true = by_number number.0 s
    by false = tt

button_line_good : (line : List ℕ) → Says (Good Preamble line) (button_line line)
unfolding button_line
button_line_good line = by_text (behind (codes "Table '") line)
  where
    by_number : (text : List ℕ) (o : Option (Option ℕ × List ℕ)) → Has (Opens text) o → Says (Good Preamble line) (option_and_then (λ number. button_end number) o)
    by_number text None h = tt
    by_number text (Some number) h = button_good line text number h.0

    by_cut : (o : Option (List ℕ × List ℕ)) → Says (Good Preamble line) (option_and_then (λ number. button_end number) (option_and_then (λ cut. seat_front cut.1) o))
    by_cut None = tt
    by_cut (Some cut) = by_number cut.1 (seat_front cut.1) (front_opens cut.1)

    by_text : (o : Option (List ℕ)) → Says (Good Preamble line) (option_and_then (λ number. button_end number) (option_and_then (λ cut. seat_front cut.1) (option_and_then (λ text. cut_last (codes "Seat #") text) o)))
    by_text None = tt
    by_text (Some text) = by_cut (cut_last (codes "Seat #") text)

preamble_good : (line : List ℕ) (names : List (ℕ × List ℕ)) (header : Header) → All IsSeated names → Reads (Good Preamble line) (preamble_event names header line)
unfolding preamble_event
preamble_good line names header all =
    otherwise_says (Good Preamble line) _ _ (seat_line_good line names header)
    (otherwise_says (Good Preamble line) _ _ (button_line_good line) (play_good line names header all))

total_good : (line : List ℕ) (header : Header) → Says (Good SummaryPart line) (total_line header line)
unfolding total_line total_event
total_good line header = says_any (Good SummaryPart line) _ _ (λ (text : List ℕ).
    bind (λ (m : ℕ × List ℕ). m.0 < 10 ^ 15) (Good SummaryPart line) _ _ (money_small header.hundredths text) (λ (pot : ℕ × List ℕ) h.
    next (Good SummaryPart line) _ _ (λ (cut : List ℕ × List ℕ).
    bind (λ (m : ℕ × List ℕ). m.0 < 10 ^ 15) (Good SummaryPart line) _ _ (money_small header.hundredths cut.1) (λ (rake : ℕ × List ℕ) k.
    let g : Good SummaryPart line (event.Total pot.0 rake.0) = ((h, k), refl) in g))))

cards_good : (line : List ℕ) (seat : ℕ) (inside : List ℕ) → InSeats seat → Reads (Good SummaryPart line) (seat_cards seat inside)
unfolding seat_cards
cards_good line seat inside s =
    next (Good SummaryPart line) (shown_cards inside) (λ cards. Ok (event.SeatCards seat cards)) (λ (cards : List ℕ). let g : Good SummaryPart line (event.SeatCards seat cards) = ((s.0, s.1), refl) in g)

show_line_good : (line : List ℕ) (names : List (ℕ × List ℕ)) → Says (Good SummaryPart line) (show_line names line)
unfolding show_line
show_line_good line names = by_opening (seat_opening line) (opening_has line)
  where
    by_cut : (seat : ℕ) (o : Option (List ℕ × List ℕ)) → InSeats seat → Says (Good SummaryPart line) (option_map (λ cut. seat_cards seat cut.1) o)
    by_cut seat o s = says_any (Good SummaryPart line) (λ (cut : List ℕ × List ℕ). seat_cards seat cut.1) o (λ (cut : List ℕ × List ℕ). cards_good line seat cut.1 s)

    by_seat : (text : List ℕ) (o : Option ℕ) → Has InSeats o → Says (Good SummaryPart line) (option_and_then (λ seat. option_map (λ cut. seat_cards seat cut.1) (last_shown text)) o)
    by_seat text None s = tt
    by_seat text (Some seat) s = by_cut seat (last_shown text) s

    by_opening : (o : Option (Option ℕ × List ℕ)) → Has (Opens line) o
        → Says (Good SummaryPart line) (option_and_then (λ opening. option_and_then (λ seat. option_map (λ cut. seat_cards seat cut.1) (last_shown opening.1)) (seat_among names opening.0)) o)
    by_opening None h = tt
    by_opening (Some opening) h = by_seat opening.1 (seat_among names opening.0) (among_has names opening.0 h.0)

summary_good : (line : List ℕ) (names : List (ℕ × List ℕ)) (header : Header) → Reads (Good SummaryPart line) (summary_event names header line)
unfolding summary_event
summary_good line names header =
    otherwise_says (Good SummaryPart line) _ _ (total_good line header)
    (otherwise_says (Good SummaryPart line) _ _ (show_line_good line names) (tt, refl))

-- of any line
line_good : (line : List ℕ) (names : List (ℕ × List ℕ)) (header : Header) (part : Part) → All IsSeated names → Reads (Good part line) (line_event names header part line)
line_good line names header Preamble all = preamble_good line names header all
line_good line names header Play all = play_good line names header all
line_good line names header SummaryPart all = summary_good line names header

pub within : (line : List ℕ) (names : List (ℕ × List ℕ)) (header : Header) (part : Part) (r : Result Event TextFault) → r ≡ line_event names header part line → All IsSeated names
    → IfOk r (λ e. IsWithin line e)
within line names header part r is all = subst (λ (x : Result Event TextFault). IfOk x (λ e. IsWithin line e)) (sym is) (by (line_event names header part line) (line_good line names header part all))
  where
    by : (x : Result Event TextFault) → Reads (Good part line) x → IfOk x (λ e. IsWithin line e)
    by (Ok e) g = g.0
    by (Err f) g = tt

pub stands : (line : List ℕ) (names : List (ℕ × List ℕ)) (header : Header) (part : Part) (r : Result Event TextFault) → r ≡ line_event names header part line → All IsSeated names
    → IfOk r (λ e. stands_in part e ≡ true)
stands line names header part r is all = subst (λ (x : Result Event TextFault). IfOk x (λ e. stands_in part e ≡ true)) (sym is) (by (line_event names header part line) (line_good line names header part all))
  where
    by : (x : Result Event TextFault) → Reads (Good part line) x → IfOk x (λ e. stands_in part e ≡ true)
    by (Ok e) g = g.1
    by (Err f) g = tt
