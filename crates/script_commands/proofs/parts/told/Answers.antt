use Rattle.std.proofs.Common.{rules, true, ap, ap₂, ◌∙◌}
use Rattle.clap.specs.Simple.{app_of_fields, on_top, with_rule}
use Rattle.script_commands.proofs.parts.told.Goals as goal

pub returns : goal.returns
returns c =
    let bare_is = ap app_of_fields c.disable_help_flag-command.ensures
    ∙ ap (on_top (λ s. record s { disable_help_flag = true })) (ap app_of_fields c.no_binary_name.ensures ∙ ap (on_top (λ s. record s { no_binary_name = true })) c.new.ensures.app) in
    c.in_ok-arg.ensures.shape (search rules)
    ∙ ap₂ with_rule (c.in_ok-command-2.ensures.shape (search rules)
    ∙ ap₂ with_rule (c.in_ok-command.ensures.shape (search rules)
    ∙ ap₂ with_rule bare_is c.json.ensures.rule) c.workers.ensures.rule) c.others.ensures.rule
