-- How clauses see players with sums of some kind, and how a hand changes them.
use Rattle.std.specs.Prelude.{ℕ, ◌≡◌, ◌+◌, ◌≤◌, Bool, if◌then◌else◌, List, [], ◌∷◌, ◌++◌, map}
use Rattle.std.specs.Bool.{beq}
use Rattle.std.specs.List.{AllByRecursion, flat_map, list_any}
use Rattle.std.specs.Option.{option_map_or}
use Rattle.hand_events.specs.Names.{seat_named}
use Rattle.even_luck.specs.Seats.{Seated}
use Rattle.report_sheet.specs.Lines.{Line, line_in}
use Rattle.player_totals.specs.Totals.{Player, same_player}
use Rattle.report_sheet.specs.declared.form.Form.{Form}

-- a kind of sums: those of no hand, those of two parts of the hands, and whether a number of hands may give some sums
pub record AreSums {S : Type 0} (nothing : S) (plus : S → S → S) (AreOf : ℕ → S → Type 0) : Type 0 where
  pub before : (a : S) → plus nothing a ≡ a
  pub behind : (a : S) → plus a nothing ≡ a
  pub joined : (a b c : S) → plus (plus a b) c ≡ plus a (plus b c)
  pub none : (count : ℕ) → AreOf count nothing
  pub one : (count : ℕ) (a b : S) → AreOf count a → AreOf 1 b → AreOf (count + 1) (plus a b)
  pub more : (count most : ℕ) (a : S) → count ≤ most → AreOf count a → AreOf most a

-- the sums of each player are those that a number of hands may give
abbrev pub AllAreOf : {S : Type 0} → (ℕ → S → Type 0) → ℕ → List (Player × S) → Type 0
AllAreOf AreOf count entries = AllByRecursion (λ entry. AreOf count entry.1) entries

-- the sums, with those of no hand for a player at the end where he has none yet
abbrev pub with_player : {S : Type 0} → S → List (Player × S) → Player → List (Player × S)
with_player nothing entries player =
    if list_any (λ entry. same_player player entry.0) entries then entries
    else entries ++ (player, nothing) ∷ []

-- the same for some players, one after the other
abbrev pub with_players : {S : Type 0} → S → List (Player × S) → List Player → List (Player × S)
with_players nothing entries [] = entries
with_players nothing entries (player ∷ later) =
    with_players nothing (with_player nothing entries player) later

-- the sums, with more for a player where he has some
abbrev pub with_more : {S : Type 0} → (S → S → S) → List (Player × S) → Player → S → List (Player × S)
with_more plus [] player more = []
with_more plus (entry ∷ entries) player more =
    if same_player player entry.0 then (entry.0, plus entry.1 more) ∷ entries
    else entry ∷ with_more plus entries player more

-- the sums, with what each player is given
abbrev pub with_given : {S : Type 0} → (S → S → S) → (Player → S) → List (Player × S) →
    List (Player × S)
with_given plus given entries = map (λ entry. (entry.0, plus entry.1 (given entry.0))) entries

-- what a hand of a unit gives a player who has one of these seats, and nothing where he has none
abbrev pub seated_share : {S : Type 0} → S → Bool → (ℕ → S) → Seated → Player → S
seated_share nothing hundredths each seated player =
    if beq player.hundredths hundredths
    then option_map_or each (seat_named player.name seated) nothing else nothing

-- the lines of some players
abbrev pub lines_of : {S : Type 0} → (Player → S → Line) → Form → List (Player × S) → List ℕ
lines_of line form players = flat_map (λ entry. line_in form (line entry.0 entry.1)) players
