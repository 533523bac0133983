-- What a command that runs a script does with the disks.
use Rattle.std.proofs.Common.{◌≡◌, ◌⊎◌, List, Ok, inl, inr, refl, ap, ◌∙◌}
use Rattle.std.specs.Prelude.{false}
use Rattle.base_types.specs.View.{View}
use Rattle.script_lines.specs.declared.script.Script.{Script}
use Rattle.script_commands.specs.declared.command.Play.{Play}
use Rattle.service_run.specs.Disks.{RanOver, RunsOver}
use Rattle.service_run.specs.Outcomes.{has_reached}
use Rattle.service_run.specs.Scripts.{IsRead}
use Rattle.service_run.specs.World.{World}
use Rattle.service_run.specs.declared.outcome.Outcome.{Outcome}
use Rattle.service_run.specs.declared.outcome.Status.{Status}
use Rattle.service_run.specs.declared.outcome.Status.TheVariants.{NoScript, NoMemory}

module _ {D reads writes : Type 0} (tells : Type 0) (view : D → View) (play : Play) (outcome : Outcome) (before after : World reads writes) where
  -- none was called
  pub none_called : (disks : List D) (wanted : Status) → has_reached wanted ≡ false → outcome.status ≡ wanted → RunsOver tells view play outcome disks disks before after
  none_called disks wanted not is = inl (ap has_reached is ∙ not, refl)

  pub none_for_it : (disks : List D) → ((outcome.status ≡ NoScript) ⊎ (outcome.status ≡ NoMemory)) → RunsOver tells view play outcome disks disks before after
  none_for_it disks (inl is) = inl (ap has_reached is, refl)
  none_for_it disks (inr is) = inl (ap has_reached is, refl)

  -- a script was to run over them
  pub was_to_run : (script : Script) (olds news : List D) → IsRead before.source play (Ok script) → RanOver tells view script outcome olds news before.sink after.sink → RunsOver tells view play outcome olds news before after
  was_to_run script olds news read over = inr (record { script = script; read = read; over = over })
