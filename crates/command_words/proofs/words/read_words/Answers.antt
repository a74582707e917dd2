use Rattle.std.proofs.Common.{rules, ◌≡◌, ◌∙◌, ap, sym, subst, List, [], map, string_bytes, inl, inr}
use Rattle.clap.specs.Matches.{first_value, found_of}
use Rattle.clap.specs.Walk.{Text, first_of}
use Rattle.clap.specs.Simple.{App, app_of, is_simple, matches_of}
use Rattle.clap.specs.Faults.{fault_of, is_simple_and_free}
use Rattle.clap.specs.Kinds.{IsAmong}
use Rattle.clap.proofs.WalkLemmas.{first_value-rows}
use Rattle.command_words.specs.CommandLine.{line_app}
use Rattle.command_words.specs.Command.{command, value_in}
use Rattle.command_words.specs.declared.words.WordFault.TheVariants.{Usage}
use Rattle.command_words.proofs.LineFaults.{value_is}
use Rattle.command_words.proofs.LineWords.{all_text, gives, refused, command_is, ok_of, err_of}
use Rattle.command_words.proofs.words.read_words.Goals as goal

-- the command of the values that were found
found : (c : goal.Joined-given) → command (map string_bytes c.args.words.now) ≡ c.command_of.result
found c =
    let words : List Text = map string_bytes c.args.words.now in
    let line_is : app_of c.in-Ok.line ≡ line_app = search rules in
    let fine : fault_of line_app words ≡ [] = sym (ap (λ (a : App). fault_of a words) line_is) ∙ c.in-Ok-try_get_matches_from.ensures.kinds (ap is_simple_and_free line_is) in
    let g = gives words (all_text c.args.words.now) fine in
    let rows = (c.in-Ok-try_get_matches_from.ensures.matches (ap is_simple line_is)).0 ∙ ap (λ (a : App). matches_of a words) line_is ∙ g.rows_are in
    let value : (name : Text) → first_value (found_of c.in-Ok-try_get_matches_from.given) name ≡ value_in name g.given =
    λ name. first_value-rows (found_of c.in-Ok-try_get_matches_from.given) name ∙ ap (first_of name) rows ∙ value_is name g.given in
    command_is words g ∙ sym (c.command_of.ensures.value g.given value)

pub returns-in-Ok-try_get_matches_from-clause-command :
    goal.returns-in-Ok-try_get_matches_from-clause-command
returns-in-Ok-try_get_matches_from-clause-command c = ok_of (map string_bytes c.args.words.now) c.command_of.result c.ok_or.result c.ok_or.ensures.value (found c)

pub returns-in-Ok-try_get_matches_from-clause-usage :
    goal.returns-in-Ok-try_get_matches_from-clause-usage
returns-in-Ok-try_get_matches_from-clause-usage c = err_of (map string_bytes c.args.words.now) c.command_of.result c.ok_or.result c.ok_or.ensures.value (found c)

pub returns-in-Err-clause-usage : goal.returns-in-Err-clause-usage
returns-in-Err-clause-usage c =
    let words : List Text = map string_bytes c.args.words.now in
    let line_is : app_of c.in-Ok.line ≡ line_app = search rules in
    let kinds = c.in-Err.ensures.kinds (ap is_simple_and_free line_is) in
    elim kinds [
      | inl memory ↦ λ x. (let usage : c.refusal.result ≡ Usage = cc in absurd (c.refusal.ensures usage (c.kind.ensures ∙ memory)))
      | inr among ↦ λ x. refused words (all_text c.args.words.now) c.in-Err.error.kind (subst (λ (a : App). IsAmong c.in-Err.error.kind (fault_of a words)) line_is among)
    ]
