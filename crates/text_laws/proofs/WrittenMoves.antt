-- Written acts, posts, returns and collections are read as what was meant.
use Rattle.std.proofs.Common.{◌≡◌, ℕ, ◌+◌, ◌-◌, ◌⊎◌, inl, inr, Bool, true, false, cond, List, [], ◌∷◌, ◌++◌, length, refl, ap, ◌∙◌, arith, leb, Option, Some, None, Ok}
use Rattle.std.specs.Prelude.{codes, option_map, option_and_then}
use Rattle.std.specs.Str.{bytes_eq}
use Rattle.std.proofs.lemmas.Bool.{both_ways}
use Rattle.std.proofs.lemmas.Slice.Eq.{bytes_eq-Decides}
use Rattle.line_text.specs.Amounts.{number_of}
use Rattle.hand_events.specs.declared.events.Header.{Header}
use Rattle.hand_events.specs.declared.events.Part.{Part}
use Rattle.hand_events.specs.declared.events.Part.TheVariants.{Preamble, Play, Summary}
use Rattle.hand_events.specs.declared.events.PotName.{PotName}
use Rattle.hand_events.specs.declared.events.PotName.TheVariants.{Only, Main, Side, SideNumber}
use Rattle.hand_events.specs.declared.events.Event.TheVariants as event
use Rattle.history_text.specs.Texts.{behind, cut_last}
use Rattle.history_text.specs.Reading.{follows, digits_front, seat_front, seat_of}
use Rattle.hand_events.specs.Names.{seat_named}
use Rattle.history_text.specs.Acts.{act_event}
use Rattle.history_text.specs.Plays.{act_line, deal_line, return_line, give_back, collect_line, collect, pot_of, play_event}
use Rattle.history_text.specs.Seats.{seat_opening, seat_digits, seat_event, seat_line, preamble_event}
use Rattle.history_text.specs.Lines.{line_event}
use Rattle.text_laws.specs.WrittenLines.{IsOneOf, IsNamed, IsLongest, IsNobodysLine, StandsInPlay, IsPaid, ActsAreRead, PostsAreRead, IsPot, pot_text, return_text, won_text, collection_text, ReturnsAreRead, CollectionsAreRead}
use Rattle.text_laws.proofs.WrittenLines.{name_counts, none_counts, paid_is_read, act_read, posted}

-- a line that stands in the play is read as a line of play
no_seat : (names : List (ℕ × List ℕ)) (header : Header) (line : List ℕ) → seat_digits line ≡ None → seat_line names header line ≡ None
unfolding seat_digits seat_line seat_opening seat_front
no_seat names header line h = by_word (behind (codes "Seat ") line) h
  where
    by_cut : (digits text : List ℕ) (cut : Option (List ℕ × List ℕ)) →
        option_map (λ (c : List ℕ × List ℕ). digits) cut ≡ None →
        option_map (λ (c : List ℕ × List ℕ). seat_event names header (length line - length text) (seat_of (number_of digits)) text c.0) cut ≡ None
    by_cut digits text None e = refl
    by_cut digits text (Some cut) e = absurd (cc)

    by_mark : (digits : List ℕ) (o : Option (List ℕ)) →
        option_and_then (λ (text : List ℕ). option_map (λ (c : List ℕ × List ℕ). digits) (cut_last (codes " in chips") text)) o ≡ None →
        option_and_then (λ (opening : Option ℕ × List ℕ).
        option_map (λ (c : List ℕ × List ℕ). seat_event names header (length line - length opening.1) opening.0 opening.1 c.0) (cut_last (codes " in chips") opening.1))
        (option_map (λ (rest : List ℕ). (seat_of (number_of digits), rest)) o)
        ≡ None
    by_mark digits None e = refl
    by_mark digits (Some text) e = by_cut digits text (cut_last (codes " in chips") text) e

    by_front : (o : Option (List ℕ × List ℕ)) →
        option_and_then (λ (front : List ℕ × List ℕ).
        option_and_then (λ (text : List ℕ). option_map (λ (c : List ℕ × List ℕ). front.0) (cut_last (codes " in chips") text)) (behind (codes ": ") front.1)) o
        ≡ None →
        option_and_then (λ (opening : Option ℕ × List ℕ).
        option_map (λ (c : List ℕ × List ℕ). seat_event names header (length line - length opening.1) opening.0 opening.1 c.0) (cut_last (codes " in chips") opening.1))
        (option_and_then (λ (number : Option ℕ × List ℕ). option_map (λ (rest : List ℕ). (number.0, rest)) (behind (codes ": ") number.1))
        (option_map (λ (front : List ℕ × List ℕ). (seat_of (number_of front.0), front.1)) o))
        ≡ None
    by_front None e = refl
    by_front (Some front) e = by_mark front.0 (behind (codes ": ") front.1) e

    by_word : (o : Option (List ℕ)) →
        option_and_then (λ (front : List ℕ × List ℕ).
        option_and_then (λ (text : List ℕ). option_map (λ (c : List ℕ × List ℕ). front.0) (cut_last (codes " in chips") text)) (behind (codes ": ") front.1))
        (option_and_then (λ (text : List ℕ). digits_front text) o)
        ≡ None →
        option_and_then (λ (opening : Option ℕ × List ℕ).
        option_map (λ (c : List ℕ × List ℕ). seat_event names header (length line - length opening.1) opening.0 opening.1 c.0) (cut_last (codes " in chips") opening.1))
        (option_and_then (λ (number : Option ℕ × List ℕ). option_map (λ (rest : List ℕ). (number.0, rest)) (behind (codes ": ") number.1))
        (option_and_then (λ (text : List ℕ). seat_front text) o))
        ≡ None
    by_word None e = refl
    by_word (Some text) e = by_front (digits_front text) e

pub read_in_play : (names : List (ℕ × List ℕ)) (header : Header) (part : Part) (line : List ℕ) → StandsInPlay part line →
    line_event names header part line ≡ play_event names header line
unfolding preamble_event
read_in_play names header Preamble line (no_digits, no_button) =
    let apart : seat_line names header line ≡ None = no_seat names header line no_digits in
    rw (apart, no_button) refl
read_in_play names header Play line stands = refl
read_in_play names header Summary line stands = absurd stands

-- the line of a player
player_acts : (names : List (ℕ × List ℕ)) (header : Header) (seat : ℕ) (name text : List ℕ) → IsNamed names seat name →
    IsLongest names (codes ": ") name text → play_event names header (name ++ (codes ": " ++ text)) ≡ act_event header seat text
unfolding play_event act_line
player_acts names header seat name text named longest =
    let counts = name_counts names (codes ": ") seat name text named longest in
    rw counts refl

pub acts_are_read : ActsAreRead
acts_are_read names header part seat name text act all_in named longest stands says =
    read_in_play names header part (name ++ (codes ": " ++ text)) stands
    ∙ player_acts names header seat name text named longest
    ∙ act_read header seat act all_in text says

pub posts_are_read : PostsAreRead
posts_are_read names header part seat name text kind units all_in named longest stands of_game says =
    read_in_play names header part (name ++ (codes ": " ++ text)) stands
    ∙ player_acts names header seat name text named longest
    ∙ posted header seat kind units all_in text of_game says

-- nobody's line is no act
no_act : (names : List (ℕ × List ℕ)) (header : Header) (line : List ℕ) → IsNobodysLine names line → act_line names header line ≡ None
unfolding act_line
no_act names header line nobody =
    let none = none_counts names (codes ": ") line nobody in
    rw none refl

-- the seat of a name: of the first seat, or else of a later one
named_first : (seat : ℕ) (name : List ℕ) (first : ℕ × List ℕ) (names : List (ℕ × List ℕ)) (b : Bool) → bytes_eq first.1 name ≡ b →
    (first ≡ (seat, name)) ⊎ IsOneOf (seat, name) names → ((other : ℕ) → IsOneOf (other, name) (first ∷ names) → other ≡ seat) →
    (IsOneOf (seat, name) names → seat_named name names ≡ Some seat) → cond b (Some first.0) (seat_named name names) ≡ Some seat
named_first seat name first names true e one alone later =
    let same : first.1 ≡ name = (bytes_eq-Decides first.1 name).0 e in
    ap (λ (s : ℕ). Some s) (alone first.0 (inl (ap (λ (n : List ℕ). let w : ℕ × List ℕ = (first.0, n) in w) same)))
named_first seat name first names false e (inl is) alone later =
    absurd (both_ways (bytes_eq first.1 name) e ((bytes_eq-Decides first.1 name).1 (ap (λ (w : ℕ × List ℕ). w.1) is)))
named_first seat name first names false e (inr h) alone later = later h

named_seat : (seat : ℕ) (name : List ℕ) (names : List (ℕ × List ℕ)) → IsOneOf (seat, name) names →
    ((other : ℕ) → IsOneOf (other, name) names → other ≡ seat) → seat_named name names ≡ Some seat
named_seat seat name [] one alone = absurd one
named_seat seat name (first ∷ names) one alone =
    named_first seat name first names (bytes_eq first.1 name) refl one alone
    (λ h. named_seat seat name names h (λ other among. alone other (inr among)))

returned_read : (names : List (ℕ × List ℕ)) (header : Header) (seat : ℕ) (name amount : List ℕ) (units : ℕ) → IsNamed names seat name →
    IsPaid header units amount →
    give_back names header (amount ++ (codes ") returned to " ++ name)) ≡ Ok (event.Uncalled seat units)
unfolding give_back follows behind
returned_read names header seat name amount units named paid =
    let read = paid_is_read header units amount (codes ") returned to " ++ name) paid refl refl in
    let whose = named_seat seat name names named.seated named.alone in
    rw (read, whose) refl

return_played : (names : List (ℕ × List ℕ)) (header : Header) (name amount : List ℕ) → IsNobodysLine names (return_text amount name) →
    play_event names header (return_text amount name) ≡ give_back names header (amount ++ (codes ") returned to " ++ name))
unfolding play_event deal_line return_line behind
return_played names header name amount nobody =
    let apart = no_act names header (return_text amount name) nobody in
    rw apart refl

pub returns_are_read : ReturnsAreRead
returns_are_read names header part seat name amount units named paid nobody stands =
    read_in_play names header part (return_text amount name) stands
    ∙ return_played names header name amount nobody
    ∙ returned_read names header seat name amount units named paid

-- the pot of a collection
pot_read : (pot : PotName) → IsPot pot → pot_of (pot_text pot) ≡ Some pot
unfolding pot_of behind
pot_read Only is = refl
pot_read Main is = refl
pot_read Side is = refl
pot_read (SideNumber number) is =
    let low : leb 49 (48 + number) ≡ true = grind (arith, is.0) in
    let high : leb (48 + number) 57 ≡ true = grind (arith, is.1) in
    let back : 48 + number - 48 ≡ number = omega arith in
    rw (low, high, back) refl

won_read : (header : Header) (seat : ℕ) (amount : List ℕ) (units : ℕ) (pot : PotName) → IsPot pot → IsPaid header units amount →
    collect header seat (won_text amount pot) ≡ Ok (event.Collect seat units pot)
unfolding collect follows behind
won_read header seat amount units pot is paid =
    let read = paid_is_read header units amount (codes " from " ++ pot_text pot) paid refl refl in
    let which = pot_read pot is in
    rw (read, which) refl

collection_played : (names : List (ℕ × List ℕ)) (header : Header) (seat : ℕ) (name amount : List ℕ) (pot : PotName) → IsNamed names seat name →
    IsLongest names (codes " collected ") name (won_text amount pot) → IsNobodysLine names (collection_text name amount pot) →
    behind (codes "Dealt to ") (collection_text name amount pot) ≡ None → behind (codes "Uncalled bet (") (collection_text name amount pot) ≡ None →
    play_event names header (collection_text name amount pot) ≡ collect header seat (won_text amount pot)
unfolding play_event deal_line return_line collect_line
collection_played names header seat name amount pot named longest nobody no_deal no_return =
    let apart = no_act names header (collection_text name amount pot) nobody in
    let counts = name_counts names (codes " collected ") seat name (won_text amount pot) named longest in
    rw (apart, no_deal, no_return, counts) refl

pub collections_are_read : CollectionsAreRead
collections_are_read names header part seat name amount units pot named longest is paid nobody no_deal no_return stands =
    read_in_play names header part (collection_text name amount pot) stands
    ∙ collection_played names header seat name amount pot named longest nobody no_deal no_return
    ∙ won_read header seat amount units pot is paid
