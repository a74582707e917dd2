-- The players of a hand, seat line by seat line.
use Rattle.std.proofs.Common.{◌≡◌, ℕ, ◌+◌, ◌<◌, ◌≤◌, Bool, true, false, cond, ◌&&◌, List, [], ◌∷◌, ◌++◌, get_or, length, map, take, drop, Option, Some, None, is_some, refl, sym, ap, subst, ◌∙◌, zero, suc, add-one, append-nil, inl, inr, arith}
use Rattle.std.specs.Prelude.{◌==◌, slice_get, is_none, option_and_then, option_map, if◌then◌else◌}
use Rattle.std.specs.Bool.{beq}
use Rattle.std.specs.Int.{bit_at}
use Rattle.std.specs.List.{AllByRecursion, IsDistinct, list_any}
use Rattle.std.specs.Map.{keys_of}
use Rattle.std.specs.Option.{option_map_or}
use Rattle.std.specs.Cmp.Lexicographic.{bytes_decides}
use Rattle.std.specs.Str.{bytes_eq}
use Rattle.std.proofs.lemmas.Bool.{cases_Bool}
use Rattle.std.proofs.lemmas.List.{length-map, length-take, map_push, take-append-drop, take-append-le}
use Rattle.std.proofs.lemmas.List.Elements.{filter-append}
use Rattle.std.proofs.lemmas.Option.{slice_get-map, slice_get_read, slice_get_within}
use Rattle.hand_events.specs.Names.{seat_named}
use Rattle.hand_events.specs.Seated.{pair}
use Rattle.hand_events.specs.declared.names.Seated.{Seated as Seat}
use Rattle.even_luck.specs.Seats.{Seated}
use Rattle.player_totals.specs.SumsSeen.{AllAreOf, AreSums, seated_share, with_given, with_more, with_player, with_players}
use Rattle.player_totals.specs.Totals.{Player, playing, same_player}
use Rattle.player_totals.proofs.NameFacts.{names_congr, same_name}
use Rattle.player_totals.specs.TotalsSeen.{first_at, has_name, named_player, player_at, player_of}
use Rattle.player_totals.specs.declared.player_key.PlayerKey.{PlayerKey}

-- one element more
pub taken : {A : Type 0} (xs : List A) (i : ℕ) (x : A) → slice_get xs i ≡ Some x → take (suc i) xs ≡ take i xs ++ x ∷ []
taken [] i x at = cc
taken (y ∷ ys) zero x at = let same : y ≡ x = cc in ap (λ z. z ∷ []) same
taken (y ∷ ys) (suc i) x at = ap (λ later. y ∷ later) (taken ys i x at)

-- none after the last
pub none_taken : {A : Type 0} (xs : List A) (i : ℕ) → slice_get xs i ≡ None → take (suc i) xs ≡ take i xs
none_taken [] zero at = refl
none_taken [] (suc i) at = refl
none_taken (y ∷ ys) zero at = cc
none_taken (y ∷ ys) (suc i) at = ap (λ later. y ∷ later) (none_taken ys i at)

-- a seat line that plays, by its place
at_parts : (names : Seated) (players place : ℕ) (who : ℕ × List ℕ) → player_at names players place ≡ Some who →
    (slice_get names place ≡ Some who) × ((bit_at players who.0 == 1) ≡ true)
at_parts names players place who = by (slice_get names place)
  where
    bit : (b : Bool) (line : ℕ × List ℕ) → (bit_at players line.0 == 1) ≡ b → cond b (Some line) None ≡ Some who → (line ≡ who) × ((bit_at players who.0 == 1) ≡ true)
    bit true line plays at = let same : line ≡ who = cc in (same, subst (λ (l : ℕ × List ℕ). (bit_at players l.0 == 1) ≡ true) same plays)
    bit false line plays at = cc

    by : (found : Option (ℕ × List ℕ)) → option_and_then (λ line. if bit_at players line.0 == 1 then Some line else None) found ≡ Some who → (found ≡ Some who) × ((bit_at players who.0 == 1) ≡ true)
    by None at = cc
    by (Some line) at = let both = bit (bit_at players line.0 == 1) line refl at in (ap Some both.0, both.1)

-- one player more
pub playing_more : (names : Seated) (players place : ℕ) (who : ℕ × List ℕ) → player_at names players place ≡ Some who →
    playing (take (place + 1) names) players ≡ playing (take place names) players ++ who ∷ []
playing_more names players place who at =
    let parts = at_parts names players place who at in
    ap (λ n. playing (take n names) players) (add-one place)
    ∙ ap (λ lines. playing lines players) (taken names place who parts.0)
    ∙ filter-append (λ line. bit_at players line.0 == 1) (take place names) (who ∷ [])
    ∙ ap (λ b. playing (take place names) players ++ cond b (who ∷ []) []) parts.1

-- or as many as before
pub playing_same : (names : Seated) (players place : ℕ) → player_at names players place ≡ None →
    playing (take (place + 1) names) players ≡ playing (take place names) players
playing_same names players place none = ap (λ n. playing (take n names) players) (add-one place) ∙ by (slice_get names place) refl none
  where
    bit : (b : Bool) (line : ℕ × List ℕ) → (bit_at players line.0 == 1) ≡ b → slice_get names place ≡ Some line → cond b (Some line) None ≡ None →
        playing (take (suc place) names) players ≡ playing (take place names) players
    bit true line plays at absent = cc
    bit false line plays at absent =
        ap (λ lines. playing lines players) (taken names place line at) ∙ filter-append (λ l. bit_at players l.0 == 1) (take place names) (line ∷ [])
        ∙ ap (λ b. playing (take place names) players ++ cond b (line ∷ []) []) plays ∙ append-nil (playing (take place names) players)

    by : (found : Option (ℕ × List ℕ)) → slice_get names place ≡ found → option_and_then (λ line. if bit_at players line.0 == 1 then Some line else None) found ≡ None →
        playing (take (suc place) names) players ≡ playing (take place names) players
    by None at absent = ap (λ lines. playing lines players) (none_taken names place at)
    by (Some line) at absent = bit (bit_at players line.0 == 1) line refl at absent

-- the seat of a name, with one player more
pub named_other : (text : List ℕ) (seated : Seated) (who : ℕ × List ℕ) → bytes_eq who.1 text ≡ false → seat_named text (seated ++ who ∷ []) ≡ seat_named text seated
named_other text [] who other = rw other refl
named_other text (first ∷ seated) who other = ap (λ later. cond (bytes_eq first.1 text) (Some first.0) later) (named_other text seated who other)

pub named_before : (text : List ℕ) (seated : Seated) (who : ℕ × List ℕ) → is_some (seat_named text seated) ≡ true → seat_named text (seated ++ who ∷ []) ≡ seat_named text seated
named_before text [] who = λ there. cc
named_before text (first ∷ seated) who = by (bytes_eq first.1 text) (named_before text seated who)
  where
    by : (b : Bool) → (is_some (seat_named text seated) ≡ true → seat_named text (seated ++ who ∷ []) ≡ seat_named text seated) →
        is_some (cond b (Some first.0) (seat_named text seated)) ≡ true → cond b (Some first.0) (seat_named text (seated ++ who ∷ [])) ≡ cond b (Some first.0) (seat_named text seated)
    by true later there = refl
    by false later there = later there

pub named_own : (text : List ℕ) (seated : Seated) (who : ℕ × List ℕ) → seat_named text seated ≡ None → bytes_eq who.1 text ≡ true → seat_named text (seated ++ who ∷ []) ≡ Some who.0
named_own text [] who = λ none own. rw own refl
named_own text (first ∷ seated) who = by (bytes_eq first.1 text) (named_own text seated who)
  where
    by : (b : Bool) → (seat_named text seated ≡ None → bytes_eq who.1 text ≡ true → seat_named text (seated ++ who ∷ []) ≡ Some who.0) →
        cond b (Some first.0) (seat_named text seated) ≡ None → bytes_eq who.1 text ≡ true → cond b (Some first.0) (seat_named text (seated ++ who ∷ [])) ≡ Some who.0
    by true later none own = cc
    by false later none own = later none own

named_behind : (text : List ℕ) (first : ℕ × List ℕ) (later : Seated) → is_some (seat_named text later) ≡ true → is_some (seat_named text (first ∷ later)) ≡ true
named_behind text first later = by (bytes_eq first.1 text)
  where
    by : (b : Bool) → is_some (seat_named text later) ≡ true → is_some (cond b (Some first.0) (seat_named text later)) ≡ true
    by true there = refl
    by false there = there

behind_line : (text : List ℕ) (players : ℕ) (first : ℕ × List ℕ) (later : Seated) → is_some (seat_named text (playing later players)) ≡ true →
    is_some (seat_named text (playing (first ∷ later) players)) ≡ true
behind_line text players first later = by (bit_at players first.0 == 1)
  where
    by : (b : Bool) → is_some (seat_named text (playing later players)) ≡ true → is_some (seat_named text (cond b (first ∷ playing later players) (playing later players))) ≡ true
    by true = named_behind text first (playing later players)
    by false = λ there. there

line_before : (text : List ℕ) (players : ℕ) (who : ℕ × List ℕ) → (bit_at players who.0 == 1) ≡ true → bytes_eq who.1 text ≡ true →
    (names : Seated) (place earlier : ℕ) → earlier < place → slice_get names earlier ≡ Some who → is_some (seat_named text (playing (take place names) players)) ≡ true
line_before text players who plays own [] place earlier before at = cc
line_before text players who plays own (first ∷ names) zero earlier before at = absurd (omega arith)
line_before text players who plays own (first ∷ names) (suc place) zero before at = let same : first ≡ who = cc in rw (same, plays, own) refl
line_before text players who plays own (first ∷ names) (suc place) (suc earlier) before at =
    behind_line text players first (take place names) (line_before text players who plays own names place earlier (omega arith) at)

-- a seat line that plays and has the name is found among those before a later place
pub found_before : (text : List ℕ) (names : Seated) (players place earlier : ℕ) → earlier < place → has_name text (player_at names players earlier) ≡ true →
    is_some (seat_named text (playing (take place names) players)) ≡ true
found_before text names players place earlier before = by (player_at names players earlier) refl
  where
    by : (found : Option (ℕ × List ℕ)) → player_at names players earlier ≡ found → has_name text found ≡ true → is_some (seat_named text (playing (take place names) players)) ≡ true
    by None at own = cc
    by (Some who) at own = let parts = at_parts names players earlier who at in line_before text players who parts.1 own names place earlier before parts.0

-- a line more that has another name, or that doesn't play, doesn't have the name
pub named_none : (text : List ℕ) (names : Seated) (players place : ℕ) → seat_named text (playing (take place names) players) ≡ None →
    has_name text (player_at names players place) ≡ false → seat_named text (playing (take (place + 1) names) players) ≡ None
named_none text names players place none = by (player_at names players place) refl
  where
    by : (found : Option (ℕ × List ℕ)) → player_at names players place ≡ found → has_name text found ≡ false → seat_named text (playing (take (place + 1) names) players) ≡ None
    by None at other = ap (seat_named text) (playing_same names players place at) ∙ none
    by (Some who) at other = ap (seat_named text) (playing_more names players place who at) ∙ named_other text (playing (take place names) players) who other ∙ none

-- the first line of a name, or a line that isn't
pub first_parts : (names : Seated) (players place : ℕ) (who : ℕ × List ℕ) → first_at names players place ≡ Some who →
    (player_at names players place ≡ Some who) × (seat_named who.1 (playing (take place names) players) ≡ None)
first_parts names players place who = by (player_at names players place)
  where
    seated : Seated
    seated = playing (take place names) players

    empty : {A : Type 0} (found : Option A) → is_none found ≡ true → found ≡ None
    empty None is = refl
    empty (Some x) is = cc

    new : (b : Bool) (line : ℕ × List ℕ) → is_none (seat_named line.1 seated) ≡ b → cond b (Some line) None ≡ Some who → (line ≡ who) × (seat_named who.1 seated ≡ None)
    new true line is at = let same : line ≡ who = cc in (same, subst (λ (l : ℕ × List ℕ). seat_named l.1 seated ≡ None) same (empty (seat_named line.1 seated) is))
    new false line is at = cc

    by : (found : Option (ℕ × List ℕ)) → option_and_then (λ line. if is_none (seat_named line.1 seated) then Some line else None) found ≡ Some who →
        (found ≡ Some who) × (seat_named who.1 seated ≡ None)
    by None at = cc
    by (Some line) at = let both = new (is_none (seat_named line.1 seated)) line refl at in (ap Some both.0, both.1)

pub not_first : (text : List ℕ) (names : Seated) (players place : ℕ) → first_at names players place ≡ None →
    seat_named text (playing (take (place + 1) names) players) ≡ seat_named text (playing (take place names) players)
not_first text names players place = by (player_at names players place) refl
  where
    seated : Seated
    seated = playing (take place names) players

    there : {A : Type 0} (found : Option A) → is_none found ≡ false → is_some found ≡ true
    there None is = cc
    there (Some x) is = refl

    own : (line : ℕ × List ℕ) → is_some (seat_named line.1 seated) ≡ true → (b : Bool) → bytes_eq line.1 text ≡ b → seat_named text (seated ++ line ∷ []) ≡ seat_named text seated
    own line before true same = named_before text seated line (subst (λ (name : List ℕ). is_some (seat_named name seated) ≡ true) ((bytes_decides line.1 text).0 same) before)
    own line before false other = named_other text seated line other

    old : (b : Bool) (line : ℕ × List ℕ) → player_at names players place ≡ Some line → is_none (seat_named line.1 seated) ≡ b → cond b (Some line) None ≡ None →
        seat_named text (playing (take (place + 1) names) players) ≡ seat_named text seated
    old true line at is absent = cc
    old false line at is absent = ap (seat_named text) (playing_more names players place line at) ∙ own line (there (seat_named line.1 seated) is) (bytes_eq line.1 text) refl

    by : (found : Option (ℕ × List ℕ)) → player_at names players place ≡ found → option_and_then (λ line. if is_none (seat_named line.1 seated) then Some line else None) found ≡ None →
        seat_named text (playing (take (place + 1) names) players) ≡ seat_named text seated
    by None at absent = ap (seat_named text) (playing_same names players place at)
    by (Some line) at absent = old (is_none (seat_named line.1 seated)) line at refl absent

-- one element more of a slice
next : {A : Type 0} (xs : List A) (i : ℕ) (x : A) → i < length xs → x ≡ get_or xs i x → take (suc i) xs ≡ take i xs ++ x ∷ []
next [] i x below read = absurd (omega arith)
next (y ∷ ys) zero x below read = ap (λ z. z ∷ []) (sym read)
next (y ∷ ys) (suc i) x below read = ap (λ later. y ∷ later) (next ys i x (omega arith) read)

-- the players of some seats, with their names
abbrev pub of_seats : Bool → List Seat → List Player
of_seats hundredths seats = map (λ line. named_player hundredths line.1) (map pair seats)

-- one key more of the names
pub keys_more : (hundredths : Bool) (seats : List Seat) (place : ℕ) (who : Seat) (was : List PlayerKey) (key : PlayerKey) → place < length seats → who ≡ get_or seats place who →
    player_of key ≡ named_player hundredths who.name.items → map player_of was ≡ of_seats hundredths (take place seats) →
    map player_of (was ++ key ∷ []) ≡ of_seats hundredths (take (place + 1) seats)
keys_more hundredths seats place who was key below read own before =
    map_push player_of was key ∙ (λ i. before i ++ own i ∷ []) ∙ sym (map_push (λ line. named_player hundredths line.1) (map pair (take place seats)) (pair who))
    ∙ ap (map (λ line. named_player hundredths line.1)) (sym (map_push pair (take place seats) who))
    ∙ ap (of_seats hundredths) (sym (next seats place who below read))
    ∙ ap (λ n. of_seats hundredths (take n seats)) (sym (add-one place))

-- the key at the place of the line of a player is his
pub player_key : (hundredths : Bool) (names : Seated) (players place : ℕ) (who : ℕ × List ℕ) (keys : List PlayerKey) (key : PlayerKey) →
    map player_of keys ≡ map (λ line. named_player hundredths line.1) names → player_at names players place ≡ Some who → key ≡ get_or keys place key →
    player_of key ≡ named_player hundredths who.1
player_key hundredths names players place who keys key all plays read =
    let line = (at_parts names players place who plays).0 in
    let long : length keys ≡ length names =
    sym (length-map keys player_of) ∙ ap length all ∙ length-map names (λ other. named_player hundredths other.1) in
    let at = slice_get_read keys (length names) place key (sym long) (slice_get_within names place who line) read in
    let found : Some (player_of key) ≡ Some (named_player hundredths who.1) =
    sym (ap (option_map player_of) at) ∙ sym (slice_get-map player_of keys place) ∙ ap (λ some. slice_get some place) all
    ∙ slice_get-map (λ other. named_player hundredths other.1) names place ∙ ap (option_map (λ other. named_player hundredths other.1)) line in
    cc

pub first_key : (hundredths : Bool) (names : Seated) (players place : ℕ) (who : ℕ × List ℕ) (keys : List PlayerKey) (key : PlayerKey) →
    map player_of keys ≡ map (λ line. named_player hundredths line.1) names → first_at names players place ≡ Some who → key ≡ get_or keys place key →
    player_of key ≡ named_player hundredths who.1
first_key hundredths names players place who keys key all first read =
    player_key hundredths names players place who keys key all (first_parts names players place who first).0 read

-- what was kept of what was kept
pub kept_both : {A : Type 0} (a b c : List A) → take (length a) b ≡ a → take (length b) c ≡ b → take (length a) c ≡ a
kept_both a b c first second =
    let front : c ≡ b ++ drop (length b) c = sym (take-append-drop (length b) c) ∙ ap (λ xs. xs ++ drop (length b) c) second in
    let short : length a ≤ length b = omega (arith, ap length first, length-take (length a) b) in
    ap (take (length a)) front ∙ take-append-le (length a) b (drop (length b) c) short ∙ first

module _ {S : Type 0} {nothing : S} {plus : S → S → S} {AreOf : ℕ → S → Type 0} (laws : AreSums nothing plus AreOf) where
  -- one player more, at the end of some
  pub players_push : (entries : List (Player × S)) (players : List Player) (player : Player) → with_players nothing entries (players ++ player ∷ []) ≡ with_player nothing (with_players nothing entries players) player
  players_push entries [] player = refl
  players_push entries (first ∷ players) player = players_push (with_player nothing entries first) players player

  -- equal givings give the same sums
  given_same : (entries : List (Player × S)) (player : Player) (f g : Player → S) → AllByRecursion (λ other. same_player player other ≡ false) (keys_of entries) →
      ((other : Player) → same_player player other ≡ false → f other ≡ g other) → with_given plus f entries ≡ with_given plus g entries
  given_same [] player f g apart same = refl
  given_same (entry ∷ entries) player f g apart same =
      let first = same entry.0 apart.0 in
      let later = given_same entries player f g apart.1 same in
      λ i. (entry.0, plus entry.1 (first i)) ∷ later i

  -- those who are not the same as one are not the same as another who is the same
  apart_along : (player one : Player) (others : List Player) → same_player player one ≡ true → AllByRecursion (λ other. same_player one other ≡ false) others →
      AllByRecursion (λ other. same_player player other ≡ false) others
  apart_along player one [] same apart = tt
  apart_along player one (other ∷ others) same apart =
      (names_congr player.hundredths one.hundredths other.hundredths player.name one.name other.name same ∙ apart.0, apart_along player one others same apart.1)

  -- more for one player, where all are given something
  pub more_given : (entries : List (Player × S)) (player : Player) (more : S) (f g : Player → S) → IsDistinct same_player (keys_of entries) →
      ((other : Player) → same_player player other ≡ false → f other ≡ g other) → ((other : Player) → same_player player other ≡ true → plus (f other) more ≡ g other) →
      with_more plus (with_given plus f entries) player more ≡ with_given plus g entries
  unfolding IsDistinct
  more_given [] player more f g distinct others own = refl
  more_given (entry ∷ entries) player more f g distinct others own =
      by (same_player player entry.0) refl (more_given entries player more f g distinct.1 others own)
    where
      by : (b : Bool) → same_player player entry.0 ≡ b → with_more plus (with_given plus f entries) player more ≡ with_given plus g entries →
          cond b ((entry.0, plus (plus entry.1 (f entry.0)) more) ∷ with_given plus f entries) ((entry.0, plus entry.1 (f entry.0)) ∷ with_more plus (with_given plus f entries) player more)
          ≡ (entry.0, plus entry.1 (g entry.0)) ∷ with_given plus g entries
      by true same later =
          let first = laws.joined entry.1 (f entry.0) more ∙ ap (plus entry.1) (own entry.0 same) in
          let rest = given_same entries player f g (apart_along player entry.0 (keys_of entries) same distinct.0) others in
          λ i. (entry.0, first i) ∷ rest i
      by false other later =
          let first = others entry.0 other in
          λ i. (entry.0, plus entry.1 (first i)) ∷ later i

  -- who isn't the player is given what he was given before
  pub given_other : (hundredths : Bool) (each : ℕ → S) (seated : Seated) (who : ℕ × List ℕ) (player : Player) → same_player (named_player hundredths who.1) player ≡ false →
      seated_share nothing hundredths each seated player ≡ seated_share nothing hundredths each (seated ++ who ∷ []) player
  given_other hundredths each seated who player = by hundredths player.hundredths
    where
      by : (b c : Bool) → (beq b c && bytes_eq who.1 player.name) ≡ false →
          cond (beq c b) (option_map_or each (seat_named player.name seated) nothing) nothing
          ≡ cond (beq c b) (option_map_or each (seat_named player.name (seated ++ who ∷ [])) nothing) nothing
      by true true other = ap (λ found. option_map_or each found nothing) (sym (named_other player.name seated who other))
      by false false other = ap (λ found. option_map_or each found nothing) (sym (named_other player.name seated who other))
      by true false other = refl
      by false true other = refl

  -- and the player what his first seat is given, where he had none before
  pub given_own : (hundredths : Bool) (each : ℕ → S) (seated : Seated) (who : ℕ × List ℕ) (player : Player) → same_player (named_player hundredths who.1) player ≡ true → seat_named who.1 seated ≡ None →
      (seated_share nothing hundredths each seated player ≡ nothing) × (seated_share nothing hundredths each (seated ++ who ∷ []) player ≡ each who.0)
  given_own hundredths each seated who player same none =
      let parts = same_name hundredths player.hundredths who.1 player.name same in
      let unit : beq player.hundredths hundredths ≡ true = ap (λ b. beq b hundredths) (sym parts.0) ∙ itself hundredths in
      let before : seat_named player.name seated ≡ None = subst (λ (name : List ℕ). seat_named name seated ≡ None) parts.1 none in
      let now = named_own player.name seated who before ((bytes_decides who.1 player.name).1 parts.1) in
      (rw (unit, before) refl, rw (unit, now) refl)
    where
      itself : (b : Bool) → beq b b ≡ true
      itself true = refl
      itself false = refl

  pub plus_own : (hundredths : Bool) (each : ℕ → S) (seated : Seated) (who : ℕ × List ℕ) (more : S) (player : Player) → same_player (named_player hundredths who.1) player ≡ true →
      seat_named who.1 seated ≡ None → more ≡ each who.0 → plus (seated_share nothing hundredths each seated player) more ≡ seated_share nothing hundredths each (seated ++ who ∷ []) player
  plus_own hundredths each seated who more player same none is =
      let both = given_own hundredths each seated who player same none in
      ap (λ sums. plus sums more) both.0 ∙ laws.before more ∙ is ∙ sym both.1

  -- what a player is given stays small
  pub given_small : (hundredths : Bool) (each : ℕ → S) (seated : Seated) (who : ℕ × List ℕ) (more : S) → seat_named who.1 seated ≡ None → more ≡ each who.0 → AreOf 1 more →
      ((player : Player) → AreOf 1 (seated_share nothing hundredths each seated player)) → (player : Player) → AreOf 1 (seated_share nothing hundredths each (seated ++ who ∷ []) player)
  given_small hundredths each seated who more none is small before player = elim (cases_Bool (same_player (named_player hundredths who.1) player)) [
    | inl same ↦ subst (AreOf 1) (is ∙ sym (given_own hundredths each seated who player same none).1) small
    | inr other ↦ subst (AreOf 1) (given_other hundredths each seated who player other) (before player)
  ]

  pub all_small : (count : ℕ) (given : Player → S) (entries : List (Player × S)) → AllAreOf AreOf count entries → ((player : Player) → AreOf 1 (given player)) →
      AllAreOf AreOf (count + 1) (with_given plus given entries)
  all_small count given [] small one = tt
  all_small count given (entry ∷ entries) small one = (laws.one count entry.1 (given entry.0) small.0 (one entry.0), all_small count given entries small.1 one)

  -- with no seat nobody is given anything
  given_nobody : (hundredths : Bool) (each : ℕ → S) (player : Player) → seated_share nothing hundredths each [] player ≡ nothing
  given_nobody hundredths each player = by (beq player.hundredths hundredths)
    where
      by : (b : Bool) → cond b nothing nothing ≡ nothing
      by true = refl
      by false = refl

  pub given_none : (given : Player → S) (entries : List (Player × S)) → ((player : Player) → given player ≡ nothing) → entries ≡ with_given plus given entries
  given_none given [] none = refl
  given_none given (entry ∷ entries) none =
      let first = sym (laws.behind entry.1) ∙ ap (plus entry.1) (sym (none entry.0)) in
      let later = given_none given entries none in
      λ i. (entry.0, first i) ∷ later i

  pub given_first : (hundredths : Bool) (each : ℕ → S) (entries : List (Player × S)) → entries ≡ with_given plus (seated_share nothing hundredths each []) entries
  given_first hundredths each entries = given_none (seated_share nothing hundredths each []) entries (given_nobody hundredths each)

  pub nobody_small : (hundredths : Bool) (each : ℕ → S) (player : Player) → AreOf 1 (seated_share nothing hundredths each [] player)
  nobody_small hundredths each player =
      subst (AreOf 1) (sym (given_nobody hundredths each player)) (laws.none 1)

  -- a line that isn't the first of a player gives nothing more
  pub given_kept : (hundredths : Bool) (each : ℕ → S) (names : Seated) (players place : ℕ) → first_at names players place ≡ None →
      seated_share nothing hundredths each (playing (take place names) players) ≡ seated_share nothing hundredths each (playing (take (place + 1) names) players)
  given_kept hundredths each names players place none =
      λ i player. cond (beq player.hundredths hundredths) (option_map_or each (sym (not_first player.name names players place none) i) nothing) nothing

  -- what is given changes no player
  keys_given : (given : Player → S) (entries : List (Player × S)) → keys_of (with_given plus given entries) ≡ keys_of entries
  keys_given given [] = refl
  keys_given given (entry ∷ entries) = ap (λ later. entry.0 ∷ later) (keys_given given entries)

  -- the first line of a player gives him more
  pub given_more : (hundredths : Bool) (each : ℕ → S) (names : Seated) (players place : ℕ) (who : ℕ × List ℕ) (more : S) (entries was now : List (Player × S)) →
      first_at names players place ≡ Some who → more ≡ each who.0 → IsDistinct same_player (keys_of was) →
      was ≡ with_given plus (seated_share nothing hundredths each (playing (take place names) players)) entries → now ≡ with_more plus was (named_player hundredths who.1) more →
      now ≡ with_given plus (seated_share nothing hundredths each (playing (take (place + 1) names) players)) entries
  given_more hundredths each names players place who more entries was now at is distinct before written =
      let parts = first_parts names players place who at in
      let seated = playing (take place names) players in
      let given = seated_share nothing hundredths each seated in
      let apart = subst (IsDistinct same_player) (ap keys_of before ∙ keys_given given entries) distinct in
      written ∙ ap (λ some. with_more plus some (named_player hundredths who.1) more) before
      ∙ more_given entries (named_player hundredths who.1) more given (seated_share nothing hundredths each (seated ++ who ∷ [])) apart
      (λ other. given_other hundredths each seated who other) (λ other same. plus_own hundredths each seated who more other same parts.1 is)
      ∙ ap (λ all. with_given plus (seated_share nothing hundredths each all) entries) (sym (playing_more names players place who parts.0))

  pub more_small : (hundredths : Bool) (each : ℕ → S) (names : Seated) (players place : ℕ) (who : ℕ × List ℕ) (more : S) →
      first_at names players place ≡ Some who → more ≡ each who.0 → AreOf 1 more →
      ((player : Player) → AreOf 1 (seated_share nothing hundredths each (playing (take place names) players) player)) →
      (player : Player) → AreOf 1 (seated_share nothing hundredths each (playing (take (place + 1) names) players) player)
  more_small hundredths each names players place who more at is small before player =
      let parts = first_parts names players place who at in
      subst (λ (seated : Seated). AreOf 1 (seated_share nothing hundredths each seated player)) (sym (playing_more names players place who parts.0))
      (given_small hundredths each (playing (take place names) players) who more parts.1 is small before player)

  -- one seat line more of those who get sums
  pub added_more : (hundredths : Bool) (names : Seated) (players place : ℕ) (who : ℕ × List ℕ) (entries was now : List (Player × S)) → player_at names players place ≡ Some who →
      was ≡ with_players nothing entries (map (λ line. named_player hundredths line.1) (playing (take place names) players)) → now ≡ with_player nothing was (named_player hundredths who.1) →
      now ≡ with_players nothing entries (map (λ line. named_player hundredths line.1) (playing (take (place + 1) names) players))
  added_more hundredths names players place who entries was now at before written =
      let seated = playing (take place names) players in
      written ∙ ap (λ some. with_player nothing some (named_player hundredths who.1)) before
      ∙ sym (players_push entries (map (λ line. named_player hundredths line.1) seated) (named_player hundredths who.1))
      ∙ ap (with_players nothing entries) (sym (map_push (λ line. named_player hundredths line.1) seated who))
      ∙ ap (λ all. with_players nothing entries (map (λ line. named_player hundredths line.1) all)) (sym (playing_more names players place who at))

  pub added_same : (hundredths : Bool) (names : Seated) (players place : ℕ) (entries was : List (Player × S)) → player_at names players place ≡ None →
      was ≡ with_players nothing entries (map (λ line. named_player hundredths line.1) (playing (take place names) players)) →
      was ≡ with_players nothing entries (map (λ line. named_player hundredths line.1) (playing (take (place + 1) names) players))
  added_same hundredths names players place entries was at before =
      before ∙ ap (λ all. with_players nothing entries (map (λ line. named_player hundredths line.1) all)) (sym (playing_same names players place at))

  small_push : (count : ℕ) (entries : List (Player × S)) (player : Player) → AllAreOf AreOf count entries → AllAreOf AreOf count (entries ++ (player, nothing) ∷ [])
  small_push count [] player small = (laws.none count, tt)
  small_push count (entry ∷ entries) player small = (small.0, small_push count entries player small.1)

  -- sums of no hand are small
  pub players_small : (count : ℕ) (entries : List (Player × S)) (players : List Player) → AllAreOf AreOf count entries → AllAreOf AreOf count (with_players nothing entries players)
  players_small count entries [] small = small
  players_small count entries (player ∷ players) small = players_small count (with_player nothing entries player) players (by (list_any (λ entry. same_player player entry.0) entries))
    where
      by : (b : Bool) → AllAreOf AreOf count (cond b entries (entries ++ (player, nothing) ∷ []))
      by true = small
      by false = small_push count entries player small

  pub small_more : (count most : ℕ) (entries : List (Player × S)) → count ≤ most → AllAreOf AreOf count entries → AllAreOf AreOf most entries
  small_more count most [] few small = tt
  small_more count most (entry ∷ entries) few small = (laws.more count most entry.1 few small.0, small_more count most entries few small.1)
