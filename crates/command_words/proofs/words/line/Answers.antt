use Rattle.std.proofs.Common.{rules, ◌≡◌, ◌∙◌, ap, ap₂, codes, true}
use Rattle.std.proofs.lemmas.Result.{IfOk-weaker}
use Rattle.clap.specs.Walk.{rule_of}
use Rattle.clap.specs.Simple.{App, app_of, app_of_fields, new_app, on_top, with_rule}
use Rattle.clap.specs.declared.builder.command.Command.{Command}
use Rattle.clap.specs.declared.builder.command.Command.TheOpen.{Command-F}
use Rattle.command_words.specs.CommandLine.{mode_rule}
use Rattle.command_words.proofs.words.line.Goals as goal

abbrev bare : App
bare = on_top (λ s. record s { no_binary_name = true; disable_help_flag = true }) (new_app (codes "equity"))

pub returns : goal.returns
returns c =
    let set = λ (f : Command-F Command). app_of_fields (record f { no_binary_name = true; disable_help_flag = true }) in
    let bare_is : app_of c.disable_help_flag-bare.result ≡ bare =
    ap app_of_fields (c.disable_help_flag-bare.ensures ∙ ap (λ (f : Command-F Command). record f { disable_help_flag = true }) c.no_binary_name.ensures)
    ∙ ap (on_top (λ s. record s { no_binary_name = true; disable_help_flag = true })) c.new-2.ensures.app in
    let mode_is : rule_of c.action-mode.result ≡ mode_rule = search rules in
    let first = IfOk-weaker c.arg-line.result _ _ (λ line added. added.shape (search rules) ∙ ap₂ with_rule bare_is mode_is) c.arg-line.ensures in
    c.with_option.ensures _ (c.with_option-line-3.ensures _ (c.with_option-line-2.ensures _ (c.with_option-line.ensures _ first)))
