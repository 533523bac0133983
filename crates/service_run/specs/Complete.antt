-- What a run comes to where nothing outside fails.
use Rattle.std.specs.Prelude.{
  ◌≡◌,
  ◌<◌,
  ◌⊎◌,
  ◌+◌,
  ℕ,
  Bool,
  true,
  false,
  List,
  length,
  take,
  slice_get,
  Some,
  None,
  Ok,
}
use Rattle.base_types.specs.View.{View}
use Rattle.base_types.specs.declared.limits.TheConstants.{SCRIPT_BYTES}
use Rattle.disk_image.specs.Aggregate.{is_blank}
use Rattle.disk_image.specs.Refused.{refused_at}
use Rattle.script_commands.specs.declared.command.Play.{Play}
use Rattle.script_lines.specs.declared.script.Script.{Script}
use Rattle.service_starts.specs.Fitting.{misfit}
use Rattle.service_starts.specs.declared.told.Told.{Told}
use Rattle.service_run.specs.Courses.{IsTold}
use Rattle.service_run.specs.Disks.{AreFound, RunsOver, images}
use Rattle.service_run.specs.Outcomes.{EndsSo}
use Rattle.service_run.specs.Scripts.{script_for}
use Rattle.service_run.specs.World.{Shown, World}
use Rattle.service_run.specs.declared.outcome.Outcome.{Outcome}
use Rattle.service_run.specs.declared.outcome.Status.{Status}
use Rattle.service_run.specs.declared.outcome.Status.TheVariants.{Done, NoMemory, Stuck}

-- a count of faults stayed, and could have risen
abbrev pub IsCalm : ℕ → ℕ → Type 0
IsCalm before after = (after ≡ before) × (before < 18446744073709551615)

-- nothing failed: not the source, not the sink, and no disk
pub record NothingFails {D reads writes : Type 0} (view : D → View) (old new : List D)
    (before after : World reads writes) : Type 0 where
  pub source : IsCalm before.source.faults after.source.faults
  pub sink : IsCalm before.sink.faults after.sink.faults
  pub disks : (k : ℕ) (was is : D) → slice_get old k ≡ Some was → slice_get new k ≡ Some is
      → IsCalm (view was).faults (view is).faults

-- A command has a script that can run over these disks: it is what the bytes of the source say, or the generated one;
-- each disk is blank, or can be mounted as its server's; and they fit one another.
pub record CanRun {D reads : Type 0} (view : D → View) (play : Play) (disks : List D) (source : Shown reads)
    : Type 0 where
  pub script : Script
  pub says : script_for play (take SCRIPT_BYTES source.bytes) ≡ Ok script
  pub sound : (k : ℕ) (disk : D) → slice_get disks k ≡ Some disk
      → (is_blank (view disk).image ≡ true)
      ⊎ (refused_at (k + 1) (length script.roster.capacity) (view disk).image ≡ None)
  pub all : List Told
  pub found : AreFound script.roster (images view disks) all
  pub fit : misfit all ≡ None

-- a script ran to its end and the output is whole, or hosts and servers came to no end, or memory ran out
abbrev pub is_complete : Status → Bool
is_complete Done = true
is_complete Stuck = true
is_complete NoMemory = true
is_complete _ = false

-- So a run ends that can go over disks that tell their bytes, from a source that tells its own, where nothing fails.
abbrev pub RunsAreComplete : {D : Type 0} → Type 0 → Type 0 → Type 0 → (D → View) → Type 0
RunsAreComplete {D = D} tells reads writes view =
    (play : Play) (outcome : Outcome) (old new : List D) (before after : World reads writes)
    → tells → reads → CanRun view play old before.source → NothingFails view old new before after
    → EndsSo (IsTold tells old) play outcome before after → RunsOver tells view play outcome old new before after
    → is_complete outcome.status ≡ true
