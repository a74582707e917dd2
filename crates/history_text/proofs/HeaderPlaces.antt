-- The game and the stakes of a header, looked for place by place, and the header that they make.
use Rattle.std.proofs.Common.{◌≡◌, ℕ, suc, ◌+◌, ◌-◌, ◌*◌, ◌<◌, ◌^◌, ◌==◌, min, Bool, true, false, List, ◌∷◌, length, drop, get_or, Option, Some, None, refl, ap, sym, ◌∙◌, arith, add-one}
use Rattle.std.specs.Prelude.{option_map}
use Rattle.std.proofs.Math.Seq.{drop-cons}
use Rattle.line_text.specs.declared.amounts.WrittenAmount.{WrittenAmount}
use Rattle.line_text.specs.Amounts.{Written, units_of, greatest}
use Rattle.line_text.specs.Capped.{capped, kept_units}
use Rattle.std.proofs.Common.{eqb, ltb, ◌||◌, inl, inr}
use Rattle.std.proofs.Math.Bool.{or-true}
use Rattle.std.proofs.lemmas.Bool.{cases_lt, ne_eqb, lt-ltb}
use Rattle.std.proofs.lemmas.Bool.Decides.{nat_tests}
use Rattle.card_sets.specs.declared.games.Game.{Game}
use Rattle.hand_events.specs.declared.events.Limit.{Limit}
use Rattle.hand_events.specs.declared.events.TextFault.TheVariants.{BadHeader}
use Rattle.history_text.specs.Texts.{behind}
use Rattle.history_text.specs.Reading.{◌otherwise◌, ◌>>=◌, or_fault}
use Rattle.card_sets.specs.Games.{all_games}
use Rattle.history_text.specs.Headers.{Named, Found, found_first, first_game, first_stakes, game_at, one_on, stakes_at, staked, with_stakes, header_behind}
use Rattle.history_text.specs.Games.{places_on, capped_stakes, kept_header}

-- a text from a place on is its byte there and what stands after
from_place : (text : List ℕ) (place : ℕ) → place < length text → drop place text ≡ get_or text place 0 ∷ drop (place + 1) text
from_place text place h = rw (add-one, drop-cons text place 0) refl

-- no game's name begins with another byte
all_false : (h o seven r five s t : Bool) → (h || o || seven || r || five || s || t) ≡ false
    → (h ≡ false) × (o ≡ false) × (seven ≡ false) × (r ≡ false) × (five ≡ false) × (s ≡ false) × (t ≡ false)
all_false true o seven r five s t none = cc
all_false false true seven r five s t none = cc
all_false false false true r five s t none = cc
all_false false false false true five s t none = cc
all_false false false false false true s t none = cc
all_false false false false false false true t none = cc
all_false false false false false false false true none = cc
all_false false false false false false false false none = (refl, refl, refl, refl, refl, refl, refl)

turned : (byte letter : ℕ) → (byte == letter) ≡ false → (letter == byte) ≡ false
turned byte letter other = grind (arith, nat_tests)

abbrev begins_name : ℕ → Bool
begins_name byte = byte == 72 || byte == 79 || byte == 55 || byte == 82 || byte == 53 || byte == 83 || byte == 84

no_name : (byte : ℕ) (text : List ℕ) → begins_name byte ≡ false → game_at all_games (byte ∷ text) ≡ None
unfolding behind
no_name byte text none =
    let apart = all_false (byte == 72) (byte == 79) (byte == 55) (byte == 82) (byte == 53) (byte == 83) (byte == 84) none in
    rw (turned byte 72 apart.0, turned byte 79 apart.1, turned byte 55 apart.2, turned byte 82 apart.3, turned byte 53 apart.4, turned byte 83 apart.5, turned byte 84 apart.6) refl

-- a game that stands at the front
game_first : (byte : ℕ) (text : List ℕ) (game : Named) → game_at all_games (byte ∷ text) ≡ Some game
    → first_game (byte ∷ text) ≡ Some (record { place = 0; named = game })
game_first byte text game h = ap (λ g. option_map found_first g otherwise one_on (first_game text)) h

game_later : (byte : ℕ) (text : List ℕ) → game_at all_games (byte ∷ text) ≡ None → first_game (byte ∷ text) ≡ one_on (first_game text)
game_later byte text h = ap (λ g. option_map found_first g otherwise one_on (first_game text)) h

later_place : (place : ℕ) (found : Option Found) → places_on place (one_on found) ≡ places_on (place + 1) found
later_place place None = refl
later_place place (Some found) =
    let e : place + suc found.place ≡ place + 1 + found.place = omega arith in
    ap (λ n. Some (let f : Found = record { place = n; named = found.named } in f)) e

pub game_here : (text : List ℕ) (place : ℕ) (game : Named) → place < length text
    → Some game ≡ game_at all_games (drop place text)
    → Some (let f : Found = record { place = place; named = game } in f) ≡ places_on place (first_game (drop place text))
game_here text place game within found =
    let cut : drop place text ≡ get_or text place 0 ∷ drop (place + 1) text = from_place text place within in
    let here : first_game (get_or text place 0 ∷ drop (place + 1) text) ≡ Some (record { place = 0; named = game }) =
    game_first _ _ game (sym (found ∙ ap (game_at all_games) cut)) in
    let none : place ≡ place + 0 = omega arith in
    ap (λ n. Some (let f : Found = record { place = n; named = game } in f)) none
    ∙ sym (ap (places_on place) (ap first_game cut ∙ here))

pub game_on : (text : List ℕ) (place : ℕ) → place < length text → None ≡ game_at all_games (drop place text)
    → places_on (place + 1) (first_game (drop (place + 1) text)) ≡ places_on place (first_game (drop place text))
game_on text place within none =
    let cut : drop place text ≡ get_or text place 0 ∷ drop (place + 1) text = from_place text place within in
    let later : first_game (get_or text place 0 ∷ drop (place + 1) text) ≡ one_on (first_game (drop (place + 1) text)) =
    game_later _ _ (sym (none ∙ ap (game_at all_games) cut)) in
    sym (ap (places_on place) (ap first_game cut ∙ later) ∙ later_place place (first_game (drop (place + 1) text)))

pub game_past : (text : List ℕ) (place : ℕ) → place < length text → begins_name (get_or text place 0) ≡ false
    → places_on (place + 1) (first_game (drop (place + 1) text)) ≡ places_on place (first_game (drop place text))
game_past text place within none =
    game_on text place within
    (sym (ap (game_at all_games) (from_place text place within) ∙ no_name (get_or text place 0) (drop (place + 1) text) none))

-- the same of stakes
pub stakes_here : (text : List ℕ) (place : ℕ) → place < length text → (read : Option (Written × Written)) → read ≡ stakes_at (drop place text)
    → first_stakes (drop place text) ≡ option_map (λ stakes. Some stakes) read otherwise first_stakes (drop (place + 1) text)
stakes_here text place within read found =
    let cut : drop place text ≡ get_or text place 0 ∷ drop (place + 1) text = from_place text place within in
    ap first_stakes cut ∙ ap (λ r. option_map (λ stakes. Some stakes) r otherwise first_stakes (drop (place + 1) text)) (sym (found ∙ ap stakes_at cut))

stakes_read : (text : List ℕ) (place : ℕ) → place < length text → (kept : WrittenAmount × WrittenAmount)
    → (read : Option (Written × Written)) → read ≡ stakes_at (drop place text)
    → Some kept ≡ option_map capped_stakes read → Some kept ≡ option_map capped_stakes (first_stakes (drop place text))
stakes_read text place within kept None found e = absurd (cc)
stakes_read text place within kept (Some stakes) found e =
    e ∙ sym (ap (option_map capped_stakes) (stakes_here text place within (Some stakes) found))

pub stakes_found : (text : List ℕ) (place : ℕ) → place < length text → (kept : WrittenAmount × WrittenAmount)
    → Some kept ≡ option_map capped_stakes (stakes_at (drop place text)) → Some kept ≡ option_map capped_stakes (first_stakes (drop place text))
stakes_found text place within kept e = stakes_read text place within kept (stakes_at (drop place text)) refl e

stakes_none : (text : List ℕ) (place : ℕ) → place < length text → (read : Option (Written × Written)) → read ≡ stakes_at (drop place text)
    → None ≡ option_map capped_stakes read → first_stakes (drop (place + 1) text) ≡ first_stakes (drop place text)
stakes_none text place within None found e = sym (stakes_here text place within None found)
stakes_none text place within (Some stakes) found e = absurd (cc)

pub stakes_on : (text : List ℕ) (place : ℕ) → place < length text → None ≡ option_map capped_stakes (stakes_at (drop place text))
    → first_stakes (drop (place + 1) text) ≡ first_stakes (drop place text)
stakes_on text place within e = stakes_none text place within (stakes_at (drop place text)) refl e

-- what is kept of an amount's units
pub units_kept : (hundredths : Bool) (w : Written) → kept_units hundredths (capped w) ≡ min (units_of hundredths w) (2 ^ 64 - 1)
units_kept true w = kept w.whole w.cents (2 ^ 64 - 1)
  where
    kept : (whole cents most : ℕ) → min (min (min whole most * 100) most + cents) most ≡ min (whole * 100 + cents) most
    kept whole cents most = omega arith
units_kept false w = refl

-- units past the greatest of 64 bits are past the greatest amount too
first_past : (game : Game) (limit : Limit) (h : Bool) (u v : ℕ) → 2 ^ 64 - 1 < u
    → staked game limit h (2 ^ 64 - 1) v ≡ staked game limit h u v
first_past game limit h u v past =
    let some : eqb u 0 ≡ false = ne_eqb u 0 (λ e. omega arith) in
    let large : ltb greatest u ≡ true = lt-ltb greatest u (omega arith) in
    rw (some, large) refl

second_past : (game : Game) (limit : Limit) (h : Bool) (u v : ℕ) → 2 ^ 64 - 1 < v
    → staked game limit h u (2 ^ 64 - 1) ≡ staked game limit h u v
second_past game limit h u v past =
    let some : eqb v 0 ≡ false = ne_eqb v 0 (λ e. omega arith) in
    let large : ltb greatest v ≡ true = lt-ltb greatest v (omega arith) in
    rw (some, large) (simp or-true)

first_kept : (game : Game) (limit : Limit) (h : Bool) (u v : ℕ) → staked game limit h (min u (2 ^ 64 - 1)) v ≡ staked game limit h u v
first_kept game limit h u v = elim (cases_lt (2 ^ 64 - 1) u) [
  | inl past ↦ let e : min u (2 ^ 64 - 1) ≡ 2 ^ 64 - 1 = omega arith in rw e (first_past game limit h u v past)
  | inr within ↦ let e : min u (2 ^ 64 - 1) ≡ u = omega arith in rw e refl
]

second_kept : (game : Game) (limit : Limit) (h : Bool) (u v : ℕ) → staked game limit h u (min v (2 ^ 64 - 1)) ≡ staked game limit h u v
second_kept game limit h u v = elim (cases_lt (2 ^ 64 - 1) v) [
  | inl past ↦ let e : min v (2 ^ 64 - 1) ≡ 2 ^ 64 - 1 = omega arith in rw e (second_past game limit h u v past)
  | inr within ↦ let e : min v (2 ^ 64 - 1) ≡ v = omega arith in rw e refl
]

pub kept_same : (game : Game) (limit : Limit) (stakes : Written × Written)
    → kept_header game limit (capped_stakes stakes) ≡ with_stakes game limit stakes
unfolding with_stakes
kept_same game limit stakes =
    let h : Bool = stakes.0.marked || stakes.1.marked in
    ap (λ n. staked game limit h n (kept_units h (capped stakes.1))) (units_kept h stakes.0)
    ∙ first_kept game limit h (units_of h stakes.0) (kept_units h (capped stakes.1))
    ∙ ap (λ n. staked game limit h (units_of h stakes.0) n) (units_kept h stakes.1)
    ∙ second_kept game limit h (units_of h stakes.0) (units_of h stakes.1)

-- the header by the stakes that were found
header_read : (game : Game) (limit : Limit) (read : Option (Written × Written)) (kept : WrittenAmount × WrittenAmount)
    → Some kept ≡ option_map capped_stakes read
    → kept_header game limit kept ≡ (or_fault BadHeader read >>= (λ stakes. with_stakes game limit stakes))
header_read game limit None kept e = absurd (cc)
header_read game limit (Some stakes) kept e =
    let same : kept ≡ capped_stakes stakes = cc in
    ap (kept_header game limit) same ∙ kept_same game limit stakes

pub header_found : (game : Game) (limit : Limit) (text : List ℕ) (kept : WrittenAmount × WrittenAmount)
    → Some kept ≡ option_map capped_stakes (first_stakes text) → kept_header game limit kept ≡ header_behind game limit text
unfolding header_behind
header_found game limit text kept e = header_read game limit (first_stakes text) kept e
