-- A written seat line is read as what was meant.
use Rattle.std.proofs.Common.{◌≡◌, ℕ, suc, ◌+◌, ◌-◌, ◌/◌, ◌%◌, ◌≤◌, inl, inr, Bool, true, false, not, ◌&&◌, ◌||◌, List, [], ◌∷◌, ◌++◌, length, take, drop, refl, ap, sym, ◌∙◌, arith, eqb, leb, Some, None, Ok, append_assoc}
use Rattle.std.specs.Prelude.{codes, decimal}
use Rattle.std.specs.List.{list_all}
use Rattle.std.specs.Char.{is_ascii_digit}
use Rattle.std.specs.Str.{bytes_eq}
use Rattle.std.proofs.lemmas.Bool.{le-leb, eq-eqb, and_parts, and_from}
use Rattle.std.proofs.lemmas.List.{take_at, drop_at, length-append}
use Rattle.std.proofs.lemmas.Slice.Eq.{bytes_eq-Decides}
use Rattle.line_text.specs.Amounts.{digit_count, greatest}
use Rattle.text_laws.specs.WrittenAmounts.{Sign, NoSign, Dollar, Euro, Pound, Writes, sign_text, two_digits}
use Rattle.text_laws.proofs.WrittenAmounts.{decimal_numeral, digits_in_front, written_amount_is_read}
use Rattle.hand_events.specs.declared.events.Header.{Header}
use Rattle.hand_events.specs.declared.events.Event.TheVariants as event
use Rattle.history_text.specs.Texts.{behind, last_place, one_later, cut_at, cut_last}
use Rattle.hand_events.specs.Names.{is_taken}
use Rattle.history_text.specs.Reading.{money, money_of, follows, seat_front}
use Rattle.history_text.specs.Seats.{seat_opening, free_name, seat_event, seat_line, preamble_event}
use Rattle.text_laws.specs.WrittenLines.{IsOneOf, MayBeSeated, SeatsAreRead}

-- a mark that is last in a text is last after a front too
last_later : (mark front text : List ℕ) (place : ℕ) → last_place mark text ≡ Some place → last_place mark (front ++ text) ≡ Some (length front + place)
unfolding last_place
last_later mark [] text place h = h ∙ ap (λ (p : ℕ). Some p) (omega arith)
last_later mark (byte ∷ front) text place h =
    let later : last_place mark (front ++ text) ≡ Some (length front + place) = last_later mark front text place h in
    let next : suc (length front + place) ≡ suc (length front) + place = omega arith in
    ap (one_later mark (byte ∷ (front ++ text))) later ∙ ap (λ (p : ℕ). Some p) next

-- so a text is cut there
cut_there : (mark front rest : List ℕ) → last_place mark (mark ++ rest) ≡ Some 0 → cut_last mark (front ++ (mark ++ rest)) ≡ Some (front, rest)
unfolding cut_last
cut_there mark front rest h =
    let before : take (length front + 0) (front ++ (mark ++ rest)) ≡ front = take_at front (mark ++ rest) (length front + 0) (omega arith) in
    let far : length (front ++ mark) ≡ length front + 0 + length mark = omega (arith, length-append front mark) in
    let back : drop (length front + 0 + length mark) (front ++ (mark ++ rest)) ≡ rest =
    ap (drop (length front + 0 + length mark)) (sym (append_assoc front mark rest)) ∙ drop_at (front ++ mark) rest (length front + 0 + length mark) far in
    ap (cut_at mark (front ++ (mark ++ rest))) (last_later mark front (mark ++ rest) 0 h) ∙ rw (before, back) refl

-- the last chips of a line
chips_last : (rest : List ℕ) → last_place (codes " in chips") rest ≡ None → last_place (codes " in chips") (codes " in chips" ++ rest) ≡ Some 0
unfolding last_place
chips_last rest none = rw none refl

-- an amount has no space
no_space : List ℕ → Bool
no_space text = list_all (λ byte. not (eqb 32 byte)) text

no_space_append : (xs ys : List ℕ) → no_space xs ≡ true → no_space ys ≡ true → no_space (xs ++ ys) ≡ true
unfolding no_space
no_space_append [] ys h k = k
no_space_append (x ∷ xs) ys h k =
    let p = and_parts (not (eqb 32 x)) (no_space xs) h in
    and_from (not (eqb 32 x)) (no_space (xs ++ ys)) p.0 (no_space_append xs ys p.1 k)

no_space_digits : (ds : List ℕ) → list_all is_ascii_digit ds ≡ true → no_space ds ≡ true
unfolding no_space
no_space_digits [] h = refl
no_space_digits (d ∷ ds) h =
    let p = and_parts (is_ascii_digit d) (list_all is_ascii_digit ds) h in
    let here : is_ascii_digit d ≡ true = p.0 in
    let other : eqb 32 d ≡ false = grind arith in
    rw other (no_space_digits ds p.1)

no_space_sign : (sign : Sign) → no_space (sign_text sign) ≡ true
unfolding no_space
no_space_sign NoSign = refl
no_space_sign Dollar = refl
no_space_sign Euro = refl
no_space_sign Pound = refl

no_space_cents : (cents : ℕ) → no_space (codes "." ++ two_digits cents) ≡ true
unfolding no_space
no_space_cents cents =
    let tens : eqb 32 (48 + cents / 10) ≡ false = grind arith in
    let ones : eqb 32 (48 + cents % 10) ≡ false = grind arith in
    rw (tens, ones) refl

no_space_amount : (hundredths : Bool) (units : ℕ) (text : List ℕ) → Writes hundredths units text → units ≤ greatest → no_space text ≡ true
no_space_amount false units text (sign, is) fits =
    rw is (no_space_append (sign_text sign) (decimal units) (no_space_sign sign) (no_space_digits (decimal units) (decimal_numeral units (omega arith)).digits))
no_space_amount true units text (inl (sign, is)) fits =
    rw is
    (no_space_append (sign_text sign) (decimal (units / 100) ++ (codes "." ++ two_digits (units % 100))) (no_space_sign sign)
    (no_space_append (decimal (units / 100)) (codes "." ++ two_digits (units % 100))
    (no_space_digits (decimal (units / 100)) (decimal_numeral (units / 100) (omega arith)).digits) (no_space_cents (units % 100))))
no_space_amount true units text (inr (sign, number, same, is)) fits =
    rw is (no_space_append (sign_text sign) (decimal number) (no_space_sign sign) (no_space_digits (decimal number) (decimal_numeral number (omega arith)).digits))

-- so no bracket opens in it
no_bracket : (text : List ℕ) → no_space text ≡ true → last_place (codes " (") text ≡ None
unfolding last_place no_space
no_bracket [] h = refl
no_bracket (byte ∷ text) h =
    let p = and_parts (not (eqb 32 byte)) (no_space text) h in
    let later : last_place (codes " (") text ≡ None = no_bracket text p.1 in
    let other : eqb 32 byte ≡ false = out (eqb 32 byte) p.0 in
    ap (one_later (codes " (") (byte ∷ text)) later ∙ rw other refl
  where
    out : (b : Bool) → not b ≡ true → b ≡ false
    out true e = cc
    out false e = refl

bracket_last : (amount : List ℕ) → no_space amount ≡ true → last_place (codes " (") (codes " (" ++ amount) ≡ Some 0
unfolding last_place
bracket_last amount h = let none = no_bracket amount h in rw none refl

-- the number of a seat
seat_read : (seat : ℕ) (text : List ℕ) → 1 ≤ seat → seat ≤ 10 → seat_front (decimal seat ++ (codes ": " ++ text)) ≡ Some (Some seat, codes ": " ++ text)
unfolding seat_front
seat_read seat text low high =
    let is = decimal_numeral seat (omega arith) in
    let count : digit_count (decimal seat ++ (codes ": " ++ text)) ≡ length (decimal seat) =
    digits_in_front (decimal seat) (codes ": " ++ text) is.digits refl in
    let some : eqb (length (decimal seat)) 0 ≡ false = grind (arith, is.some) in
    let front : take (length (decimal seat)) (decimal seat ++ (codes ": " ++ text)) ≡ decimal seat = take_at (decimal seat) (codes ": " ++ text) (length (decimal seat)) refl in
    let back : drop (length (decimal seat)) (decimal seat ++ (codes ": " ++ text)) ≡ codes ": " ++ text = drop_at (decimal seat) (codes ": " ++ text) (length (decimal seat)) refl in
    let value = is.value in
    let above : leb 1 seat ≡ true = le-leb 1 seat low in
    let below : leb seat 10 ≡ true = le-leb seat 10 high in
    rw (count, some, front, back, value, above, below) refl

opening_read : (seat : ℕ) (text : List ℕ) → 1 ≤ seat → seat ≤ 10 →
    seat_opening (codes "Seat " ++ (decimal seat ++ (codes ": " ++ text))) ≡ Some (Some seat, text)
unfolding seat_opening behind
opening_read seat text low high = let read = seat_read seat text low high in rw read refl

-- a name that is nobody else's isn't taken
not_taken : (seat : ℕ) (name : List ℕ) (names : List (ℕ × List ℕ)) → ((other : ℕ) → IsOneOf (other, name) names → other ≡ seat) →
    is_taken seat name names ≡ false
not_taken seat name [] free = refl
not_taken seat name (first ∷ names) free =
    let later : is_taken seat name names ≡ false = not_taken seat name names (λ other among. free other (inr among)) in
    here (bytes_eq first.1 name) refl later
  where
    here : (b : Bool) → bytes_eq first.1 name ≡ b → is_taken seat name names ≡ false →
        ((b && not (eqb first.0 seat)) || is_taken seat name names) ≡ false
    here true e later =
        let same : first.1 ≡ name = (bytes_eq-Decides first.1 name).0 e in
        let own : first.0 ≡ seat = free first.0 (inl (ap (λ (n : List ℕ). let w : ℕ × List ℕ = (first.0, n) in w) same)) in
        let test : eqb first.0 seat ≡ true = eq-eqb first.0 seat own in
        rw (test, later) refl
    here false e later = rw later refl

free_to_seat : (names : List (ℕ × List ℕ)) (seat : ℕ) (name : List ℕ) → MayBeSeated names seat name → free_name names seat name ≡ Ok name
free_to_seat names seat name may =
    let some : eqb (length name) 0 ≡ false = grind (arith, may.some) in
    let free : is_taken seat name names ≡ false = not_taken seat name names may.free in
    rw (some, free) refl

-- the stack
stack_read : (header : Header) (units : ℕ) (amount rest : List ℕ) → Writes header.hundredths units amount → units ≤ greatest →
    money header.hundredths (amount ++ (codes " in chips" ++ rest)) ≡ Ok (units, codes " in chips" ++ rest)
unfolding money
stack_read header units amount rest writes fits =
    let read = written_amount_is_read header.hundredths units amount [] (codes " in chips" ++ rest) writes fits refl refl in
    let back : drop (0 + length amount) (amount ++ (codes " in chips" ++ rest)) ≡ codes " in chips" ++ rest =
    drop_at amount (codes " in chips" ++ rest) (0 + length amount) (omega arith) in
    ap (money_of (amount ++ (codes " in chips" ++ rest))) read.1 ∙ rw back refl

-- what stands after the number of the seat
abbrev place_text : List ℕ → List ℕ → List ℕ → List ℕ
place_text name amount rest = name ++ (codes " (" ++ (amount ++ (codes " in chips" ++ rest)))

seat_said : (names : List (ℕ × List ℕ)) (header : Header) (first seat units : ℕ) (name amount rest : List ℕ) → MayBeSeated names seat name →
    units ≤ greatest → Writes header.hundredths units amount →
    seat_event names header first (Some seat) (place_text name amount rest) (name ++ (codes " (" ++ amount))
    ≡ Ok (event.Seat seat units first (first + length name))
unfolding seat_event follows behind
seat_said names header first seat units name amount rest may fits writes =
    let cut : cut_last (codes " (") (name ++ (codes " (" ++ amount)) ≡ Some (name, amount) =
    cut_there (codes " (") name amount (bracket_last amount (no_space_amount header.hundredths units amount writes fits)) in
    let free = free_to_seat names seat name may in
    let far : length (name ++ codes " (") ≡ length name + 2 = length-append name (codes " (") in
    let at : drop (length name + 2) (place_text name amount rest) ≡ amount ++ (codes " in chips" ++ rest) =
    ap (drop (length name + 2)) (sym (append_assoc name (codes " (") (amount ++ (codes " in chips" ++ rest))))
    ∙ drop_at (name ++ codes " (") (amount ++ (codes " in chips" ++ rest)) (length name + 2) far in
    let stack = stack_read header units amount rest writes fits in
    rw (cut, free, at, stack) refl

places : (seat : ℕ) (text : List ℕ) → length (codes "Seat " ++ (decimal seat ++ (codes ": " ++ text))) - length text ≡ 7 + length (decimal seat)
places seat text = omega (arith, length-append (decimal seat) (codes ": " ++ text))

pub seats_are_read : SeatsAreRead
unfolding preamble_event seat_line
seats_are_read names header seat name amount rest units may fits writes none =
    let text = place_text name amount rest in
    let opening = opening_read seat (place_text name amount rest) may.at_table.0 may.at_table.1 in
    let apart : place_text name amount rest ≡ (name ++ (codes " (" ++ amount)) ++ (codes " in chips" ++ rest) =
    sym (append_assoc name (codes " (" ++ amount) (codes " in chips" ++ rest)) in
    let cut : cut_last (codes " in chips") (place_text name amount rest) ≡ Some (name ++ (codes " (" ++ amount), rest) =
    ap (cut_last (codes " in chips")) apart ∙ cut_there (codes " in chips") (name ++ (codes " (" ++ amount)) rest (chips_last rest none) in
    let first = places seat (place_text name amount rest) in
    let said = seat_said names header (7 + length (decimal seat)) seat units name amount rest may fits writes in
    rw (opening, cut, first) said
