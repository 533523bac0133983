use Rattle.std.proofs.Common.{rules, ◌≡◌, Some, ap, ◌∙◌}
use Rattle.clap.specs.Walk.{rule_of}
use Rattle.script_commands.specs.Told.{json_rule}
use Rattle.script_commands.proofs.Texts.{range_is}
use Rattle.script_commands.proofs.parts.json.Goals as goal

pub returns-clause-rule : goal.returns-clause-rule
returns-clause-rule c =
    let range = range_is c.num_args.result.num_vals 0 0 c.num_args.ensures.1 in
    let args : c.num_args.result ≡ record c.action.result { num_vals = Some (record { start_inclusive = 0; end_inclusive = 0 }) } = c.num_args.ensures.0 ∙ ap (λ n. record c.action.result { num_vals = n }) range in
    let json_is : rule_of c.default_missing_value.result ≡ json_rule = search rules in
    json_is
