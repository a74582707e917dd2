-- Where no line departs the first pass reads every line, so whoever put in chips is a player.
use Rattle.std.proofs.Common.{◌≡◌, ℕ, ◌+◌, ◌-◌, ◌<◌, ◌≤◌, List, [], ◌∷◌, refl, sym, ap, ◌∙◌, subst, Bool, true, false, ◌==◌, ◌&&◌, ◌||◌, length, take, drop, codes, arith}
use Rattle.std.specs.Prelude.{nat_le, Option, Some, None, Result, Ok, Err, if◌then◌else◌}
use Rattle.std.specs.List.{list_any}
use Rattle.std.proofs.lemmas.List.Folds.{list_any-append}
use Rattle.card_sets.specs.PlayerSetLaws.{has_player-where}
use Rattle.card_sets.specs.PlayerSets.{has_player}
use Rattle.hand_events.specs.declared.events.Header.{Header}
use Rattle.hand_events.specs.declared.events.Event.{Event}
use Rattle.hand_events.specs.declared.events.Event.TheVariants.{Seat, Post, Act}
use Rattle.hand_events.specs.declared.events.Part.{Part}
use Rattle.hand_events.specs.declared.events.Part.TheVariants.{Preamble, Play, Summary as SummaryPart}
use Rattle.hand_events.specs.declared.events.TextFault.{TextFault}
use Rattle.hand_events.specs.declared.events.TextFault.TheVariants.{BadHeader}
use Rattle.history_text.specs.Lines.{line_event}
use Rattle.line_text.specs.Amounts.{digit_count, number_of}
use Rattle.history_text.specs.Reading.{◌>>=◌, or_fault, money, follows, seat_front, seat_of as seat_in_text}
use Rattle.history_text.specs.Seats.{seat_digits, seat_opening, seat_line, seat_event, free_name, preamble_event}
use Rattle.history_text.specs.Texts.{behind, cut_last}
use Rattle.betting_replay.specs.Events.{seat_of, SeatFits, is_seat_line, ante_in, live_in, dead_in, returned}
use Rattle.betting_replay.specs.Sums.{seated, paid, dead, live, small_posted}
use Rattle.betting_replay.specs.TableAfter.{table_of, point, chips_at, chips_of}
use Rattle.betting_replay.specs.Faults.{legal, seat_twice}
use Rattle.hand_events.specs.declared.faults.BetFault.TheVariants.{SeatTwice}
use Rattle.betting_replay.proofs.CallerLemmas.{passed, not_failed, chips_are, seat_below}
use Rattle.hand_audit.specs.Departs.{departs_from, departs_by, event_cause}
use Rattle.hand_audit.specs.Lines.{SoFar, nothing, read_at, part_of, with_event, with_line, with_line_by, seat_number, seat_at, is_again, with_seat, makes_player, plays, players_in, players_of, read_events}
use Rattle.hand_audit.specs.Verdict.{read_all, events_of}
use Rattle.hand_audit.proofs.CallerLemmas.{Sound, start, sound_more, fits_of, no_fault, no_bet}

-- a seat line in form seats its number
seat_event_is : (names : List (ℕ × List ℕ)) (g : Header) (first s : ℕ) (text before : List ℕ) (e : Event) → seat_event names g first (Some s) text before ≡ Ok e → (is_seat_line e ≡ true) × (seat_of e ≡ s)
unfolding seat_event
seat_event_is names g first s text before e h = by_cut (cut_last (codes " (") before) h
  where
    by_end : (name : List ℕ) (stack : ℕ × List ℕ) (rest : Result (List ℕ) TextFault) → (rest >>= λ r. Ok (Seat s stack.0 first (first + length name))) ≡ Ok e → (is_seat_line e ≡ true) × (seat_of e ≡ s)
    by_end name stack (Err f) h = cc
    by_end name stack (Ok r) h = let same : Seat s stack.0 first (first + length name) ≡ e = cc in (sym (ap is_seat_line same), sym (ap seat_of same))

    by_stack : (name : List ℕ) (stack : Result (ℕ × List ℕ) TextFault) → (stack >>= λ x. follows (codes " in chips") x.1 >>= λ r. Ok (Seat s x.0 first (first + length name))) ≡ Ok e → (is_seat_line e ≡ true) × (seat_of e ≡ s)
    by_stack name (Err f) h = cc
    by_stack name (Ok x) h = by_end name x (follows (codes " in chips") x.1) h

    by_name : (name : Result (List ℕ) TextFault)
        → (name >>= λ n. money g.hundredths (drop (length n + 2) text) >>= λ x. follows (codes " in chips") x.1 >>= λ r. Ok (Seat s x.0 first (first + length n))) ≡ Ok e → (is_seat_line e ≡ true) × (seat_of e ≡ s)
    by_name (Err f) h = cc
    by_name (Ok n) h = by_stack n (money g.hundredths (drop (length n + 2) text)) h

    by_cut : (cut : Option (List ℕ × List ℕ))
        → (or_fault BadHeader cut >>= λ c. free_name names s c.0 >>= λ n. money g.hundredths (drop (length n + 2) text) >>= λ x. follows (codes " in chips") x.1 >>= λ r. Ok (Seat s x.0 first (first + length n))) ≡ Ok e
        → (is_seat_line e ≡ true) × (seat_of e ≡ s)
    by_cut None h = cc
    by_cut (Some c) h = by_name (free_name names s c.0) h

-- a number that is a seat is that seat, and is kept as it is
seat_of_number : (n s : ℕ) → seat_in_text n ≡ Some s → (s ≡ n) × (n ≤ 10)
seat_of_number n s is = by (nat_le 1 n) (nat_le n 10) refl is
  where
    by : (a b : Bool) → nat_le n 10 ≡ b → (if a && b then Some n else None) ≡ Some s → (s ≡ n) × (n ≤ 10)
    by true true few h = let same : Some n ≡ Some s = h in (cc, grind (arith, few))
    by true false few h = cc
    by false b few h = cc

-- the number that the digits at the front of a text say
abbrev front_number : List ℕ → ℕ
front_number text = number_of (take (digit_count text) text)

preamble_seat : (names : List (ℕ × List ℕ)) (g : Header) (line : List ℕ) (s : ℕ) (e : Event) → seat_number line ≡ Some s → preamble_event names g line ≡ Ok e → (is_seat_line e ≡ true) × (seat_of e ≡ s)
unfolding preamble_event seat_line seat_digits seat_number seat_opening seat_front seat_event
preamble_seat names g line s e is read = by_word (behind (codes "Seat ") line) refl
  where
    by_seat : (text rest before : List ℕ) (first : ℕ) (o : Option ℕ) → seat_in_text (number_of (take (digit_count text) text)) ≡ o → front_number text ≡ s → seat_event names g first o rest before ≡ Ok e → (is_seat_line e ≡ true) × (seat_of e ≡ s)
    by_seat text rest before first None seat number event = let no : seat_event names g first None rest before ≡ Err BadHeader = refl in cc
    by_seat text rest before first (Some n) seat number event =
        let small = seat_of_number (number_of (take (digit_count text) text)) n seat in
        let both = seat_event_is names g first n rest before e event in
        (both.0, both.1 ∙ small.0 ∙ number)

    by_cut : (text rest : List ℕ) (cut : Option (List ℕ × List ℕ)) → behind (codes "Seat ") line ≡ Some text → (digit_count text == 0) ≡ false → behind (codes ": ") (drop (digit_count text) text) ≡ Some rest → cut_last (codes " in chips") rest ≡ cut → (is_seat_line e ≡ true) × (seat_of e ≡ s)
    by_cut text rest None et ed er ec = let no : seat_number line ≡ None = rw (et, ed, er, ec) refl in cc
    by_cut text rest (Some cut) et ed er ec =
        let some : seat_number line ≡ Some (front_number text) = rw (et, ed, er, ec) refl in
        let number : front_number text ≡ s = (let same : Some (front_number text) ≡ Some s = sym some ∙ is in cc) in
        let event : preamble_event names g line ≡ seat_event names g (length line - length rest) (seat_in_text (number_of (take (digit_count text) text))) rest cut.0 = rw (et, ed, er, ec) refl in
        by_seat text rest cut.0 (length line - length rest) (seat_in_text (number_of (take (digit_count text) text))) refl number (sym event ∙ read)

    by_rest : (text : List ℕ) (o : Option (List ℕ)) → behind (codes "Seat ") line ≡ Some text → (digit_count text == 0) ≡ false → behind (codes ": ") (drop (digit_count text) text) ≡ o → (is_seat_line e ≡ true) × (seat_of e ≡ s)
    by_rest text None et ed er = let no : seat_number line ≡ None = rw (et, ed, er) refl in cc
    by_rest text (Some rest) et ed er = by_cut text rest (cut_last (codes " in chips") rest) et ed er refl

    by_digits : (text : List ℕ) (b : Bool) → behind (codes "Seat ") line ≡ Some text → (digit_count text == 0) ≡ b → (is_seat_line e ≡ true) × (seat_of e ≡ s)
    by_digits text true et ed = let no : seat_number line ≡ None = rw (et, ed) refl in cc
    by_digits text false et ed = by_rest text (behind (codes ": ") (drop (digit_count text) text)) et ed refl

    by_word : (o : Option (List ℕ)) → behind (codes "Seat ") line ≡ o → (is_seat_line e ≡ true) × (seat_of e ≡ s)
    by_word None et = let no : seat_number line ≡ None = rw et refl in cc
    by_word (Some text) et = by_digits text (digit_count text == 0) et refl

seat_read : (names : List (ℕ × List ℕ)) (g : Header) (part : Part) (line : List ℕ) (s : ℕ) (e : Event) → seat_at part line ≡ Some s → line_event names g part line ≡ Ok e → (is_seat_line e ≡ true) × (seat_of e ≡ s)
seat_read names g Preamble line s e at read = preamble_seat names g line s e at read
seat_read names g Play line s e at read = cc
seat_read names g SummaryPart line s e at read = cc

seat_line_read : (g : Header) (so_far : SoFar) (line : List ℕ) (s : ℕ) (e : Event) → seat_at (part_of so_far.events) line ≡ Some s → read_at g so_far line ≡ Ok e → (is_seat_line e ≡ true) × (seat_of e ≡ s)
unfolding read_at
seat_line_read g so_far line s e at read = seat_read so_far.names g (part_of so_far.events) line s e at read

-- a second line of a seat departs
seat_first : (g : Header) (players : ℕ) (h : List Event) (e : Event) → SeatFits e → legal g players h e ≡ None → is_seat_line e ≡ true → seated h (seat_of e) ≡ false
unfolding seat_twice
seat_first g players h (Seat seat units first end) fits none is =
    let t = table_of g players h in
    let p = passed t (Seat seat units first end) none in
    let at : chips_at t seat ≡ chips_of g h seat = chips_are g players h (point g players h) seat (seat_below (Seat seat units first end) fits) in
    sym (ap (λ c. c.seated) at) ∙ not_failed ((chips_at t seat).seated) SeatTwice p.seat
seat_first g players h _ fits none is = cc

-- the seats whose lines stood are seated
record Tracks (h : List Event) (seats : List ℕ) : Type 0 where
  each : (s : ℕ) → list_any (λ q. q == s) seats ≡ true → seated h s ≡ true

not_again : (h : List Event) (seats : List ℕ) (o : Option ℕ) → Tracks h seats → ((s : ℕ) → o ≡ Some s → seated h s ≡ false) → is_again seats o ≡ false
not_again h seats None t new = refl
not_again h seats (Some s) t new = by (list_any (λ q. q == s) seats) refl
  where
    by : (b : Bool) → list_any (λ q. q == s) seats ≡ b → list_any (λ q. q == s) seats ≡ false
    by false e = e
    by true e = let a : seated h s ≡ true = t.each s e in let b : seated h s ≡ false = new s refl in cc

or_left : (a b : Bool) → b ≡ true → (a || b) ≡ true
or_left true b h = refl
or_left false b h = h

tracks_more : (h : List Event) (seats : List ℕ) (e : Event) (o : Option ℕ) → Tracks h seats → ((s : ℕ) → o ≡ Some s → (is_seat_line e ≡ true) × (seat_of e ≡ s)) → Tracks (e ∷ h) (with_seat seats o)
tracks_more h seats e None t is = record { each = λ s among. or_left ((seat_of e == s) && is_seat_line e) (seated h s) (t.each s among) }
tracks_more h seats e (Some q) t is = record { each = λ s among. by s (list_any (λ r. r == s) seats) (q == s) refl refl (sym (list_any-append (λ r. r == s) seats (q ∷ [])) ∙ among) }
  where
    by : (s : ℕ) (a b : Bool) → list_any (λ r. r == s) seats ≡ a → (q == s) ≡ b → (a || (b || false)) ≡ true → seated (e ∷ h) s ≡ true
    by s true b ea eb among = or_left ((seat_of e == s) && is_seat_line e) (seated h s) (t.each s ea)
    by s false true ea eb among =
        let both = is q refl in
        let here : (seat_of e == s) ≡ true = ap (λ x. x == s) both.1 ∙ eb in
        rw (here, both.0) refl
    by s false false ea eb among = cc

-- so the first pass reads all
reads_all : (g : Header) (players number : ℕ) (lines : List (List ℕ)) (so_far : SoFar) (seats : List ℕ) → Sound g players so_far → Tracks so_far.events seats → departs_from g players number so_far lines ≡ None
    → read_events g so_far seats lines ≡ (read_all g so_far lines).events
reads_all g players number [] so_far seats s t none = refl
reads_all g players number (line ∷ lines) so_far seats s t none =
    by (read_at g so_far line) refl (λ next more u v r. reads_all g players (number + 1) lines next more u v r) none
  where
    o : Option ℕ
    o = seat_at (part_of so_far.events) line

    by : (r : Result Event TextFault) → read_at g so_far line ≡ r
        → ((next : SoFar) (more : List ℕ) → Sound g players next → Tracks next.events more → departs_from g players (number + 1) next lines ≡ None → read_events g next more lines ≡ (read_all g next lines).events)
        → departs_by g players (number + 1) so_far.events r (λ e. departs_from g players (number + 1) (with_event line e so_far) lines) ≡ None
        → read_events g so_far seats (line ∷ lines) ≡ (read_all g so_far (line ∷ lines)).events
    by (Err f) is go h = cc
    by (Ok e) is go h =
        let both = no_bet (number + 1) (event_cause g players so_far.events e) _ h in
        let fits = fits_of g players so_far line e s is in
        let seat : (q : ℕ) → o ≡ Some q → (is_seat_line e ≡ true) × (seat_of e ≡ q) = (λ q at. seat_line_read g so_far line q e at is) in
        let first : (q : ℕ) → o ≡ Some q → seated so_far.events q ≡ false =
        (λ q at. subst (λ (x : ℕ). seated so_far.events x ≡ false) (seat q at).1 (seat_first g players so_far.events e fits.seats (no_fault g players so_far.events e both.0) (seat q at).0)) in
        let again : is_again seats o ≡ false = not_again so_far.events seats o t first in
        let next : with_line g so_far line ≡ with_event line e so_far = ap (with_line_by line so_far) is in
        let here : read_events g so_far seats (line ∷ lines) ≡ read_events g (with_line g so_far line) (with_seat seats o) lines = rw again refl in
        let rest = go (with_event line e so_far) (with_seat seats o) (sound_more g players so_far line e s is both.0) (tracks_more so_far.events seats e o t seat) both.1 in
        here ∙ ap (λ n. read_events g n (with_seat seats o) lines) next ∙ rest ∙ ap (λ n. (read_all g n lines).events) (sym next)

-- who isn't made a player puts in nothing
idle_event : (big : ℕ) (posted : Bool) (l : ℕ) (e : Event) (p : ℕ) → makes_player p e ≡ false → (seat_of e == p) ≡ true → (ante_in e + live_in big posted l e ≡ 0) × (dead_in big posted e ≡ 0)
idle_event big posted l (Post seat kind units all_in) p none is = cc
idle_event big posted l (Act seat act all_in shown) p none is = cc
idle_event big posted l _ p none is = (refl, refl)

both_false : (a b : Bool) → (a || b) ≡ false → (a ≡ false) × (b ≡ false)
both_false true b h = cc
both_false false b h = (refl, h)

idle_more : (mine : Bool) (p d add back dies : ℕ) → p + d ≡ 0 → (mine ≡ true → (add ≡ 0) × (dies ≡ 0)) → (if mine then p + add - back else p) + (if mine then d + dies else d) ≡ 0
idle_more true p d add back dies h none = let both = none refl in let a = both.0 in let b = both.1 in omega (arith, h, a, b)
idle_more false p d add back dies h none = h

idle : (g : Header) (h : List Event) (p : ℕ) → plays h p ≡ false → paid g h p + dead g h p ≡ 0
idle g [] p none = refl
idle g (e ∷ h) p none =
    let both = both_false (makes_player p e) (plays h p) none in
    idle_more (seat_of e == p) (paid g h p) (dead g h p) (ante_in e + live_in g.big (small_posted h) (live g h p) e) (returned e) (dead_in g.big (small_posted h) e) (idle g h p both.1)
    (λ is. idle_event g.big (small_posted h) (live g h p) e p both.0 is)

pub others_idle : (g : Header) (number : ℕ) (lines : List (List ℕ)) → departs_from g (players_of g lines) number nothing lines ≡ None → (p : ℕ) → p < 11 → has_player (players_of g lines) p ≡ false → paid g (events_of g lines) p + dead g (events_of g lines) p ≡ 0
unfolding players_of
others_idle g number lines none p l other =
    let all : read_events g nothing [] lines ≡ events_of g lines = reads_all g (players_of g lines) number lines nothing [] (start g (players_of g lines)) (record { each = λ s among. cc }) none in
    let bit : has_player (players_of g lines) p ≡ plays (events_of g lines) p = ap (λ h. has_player (players_in h) p) all ∙ has_player-where (plays (events_of g lines)) 11 p l in
    idle g (events_of g lines) p (sym bit ∙ other)
