use Rattle.std.proofs.Common.{subst, ◌∙◌}
use Rattle.std.proofs.lemmas.Result.{on_ok_weaker}
use Rattle.host_leaves.specs.Giving.{Drops}
use Rattle.run_rules.specs.declared.applied.Why.TheVariants.{Stopped}
use Rattle.host_manager.proofs.closing.go_down.Goals as goal

pub returns : goal.returns
returns c =
    on_ok_weaker c.say_down.result (λ h. record {
      dropped = c.drop_all.new.draft;
      drops = subst (λ ts. Drops c.args.tables.now c.args.draft.now ts Stopped c.drop_all.new.tables
          c.drop_all.new.draft) (c.as_slice.ensures ∙ c.in_ok-tokens.ensures) c.in_ok-drop_all.ensures;
      says = h;
    }) c.say_down.ensures
