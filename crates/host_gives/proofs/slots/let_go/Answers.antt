use Rattle.std.proofs.Common.{ap, is_some, rules, ◌∙◌}
use Rattle.std.proofs.lemmas.Fn.{filter_same}
use Rattle.host_gives.specs.Slots.{held_in}
use Rattle.host_gives.proofs.Emptied.{held_all}
use Rattle.host_gives.proofs.slots.let_go.Goals as goal

pub returns : goal.returns
returns c =
    ap held_in (filter_same _ is_some _ (λ x b f' k. search rules) _ _ c.retain.ensures) ∙ held_all c.args.slots.now
