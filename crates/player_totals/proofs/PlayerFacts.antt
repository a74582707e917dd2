-- The players of a run: one more, and their lines.
use Rattle.std.proofs.Common.{◌≡◌, ℕ, ◌+◌, true, false, List, [], ◌∷◌, ◌++◌, take, Some, None, refl, sym, ap, ◌∙◌, add-one}
use Rattle.std.specs.Prelude.{slice_get}
use Rattle.std.specs.List.{list_any}
use Rattle.std.proofs.lemmas.List.{flat_map_more}
use Rattle.player_totals.proofs.LineupFacts.{none_taken, taken}
use Rattle.report_sheet.specs.Lines.{Line, line_in}
use Rattle.player_totals.specs.SumsSeen.{lines_of, with_player}
use Rattle.player_totals.specs.Totals.{Player, same_player}
use Rattle.report_sheet.specs.declared.form.Form.{Form}

-- a player who has sums gets none, and another gets those of no hand at the end
pub player_there : {S : Type 0} (nothing : S) (player : Player) (entries : List (Player × S)) → list_any (λ entry. same_player player entry.0) entries ≡ true → entries ≡ with_player nothing entries player
player_there nothing player entries there = rw there refl

pub player_new : {S : Type 0} (nothing : S) (player : Player) (entries : List (Player × S)) → list_any (λ entry. same_player player entry.0) entries ≡ false →
    entries ++ (player, nothing) ∷ [] ≡ with_player nothing entries player
player_new nothing player entries new = rw new refl

-- the lines of one player more
pub lines_more : {S : Type 0} (line : Player → S → Line) (form : Form) (entries : List (Player × S)) (place : ℕ) (entry : Player × S) (was now : List ℕ) → slice_get entries place ≡ Some entry →
    now ≡ (was ++ lines_of line form (take place entries)) ++ line_in form (line entry.0 entry.1) →
    now ≡ was ++ lines_of line form (take (place + 1) entries)
lines_more line form entries place entry was now at written =
    written ∙ flat_map_more (λ player. line_in form (line player.0 player.1)) was (take place entries) entry
    ∙ ap (λ some. was ++ lines_of line form some) (sym (taken entries place entry at))
    ∙ ap (λ n. was ++ lines_of line form (take n entries)) (sym (add-one place))

-- where there is none, the lines are as they were
pub lines_same : {S : Type 0} (line : Player → S → Line) (form : Form) (entries : List (Player × S)) (place : ℕ) (was now : List ℕ) → slice_get entries place ≡ None →
    now ≡ was ++ lines_of line form (take place entries) → now ≡ was ++ lines_of line form (take (place + 1) entries)
lines_same line form entries place was now at before =
    before ∙ ap (λ some. was ++ lines_of line form some) (sym (none_taken entries place at))
    ∙ ap (λ n. was ++ lines_of line form (take n entries)) (sym (add-one place))
