-- What a script that ran has written.
use Rattle.std.proofs.Common.{◌≡◌, ◌⊎◌, ℕ, List, ◌++◌, inl, inr, ⊎_elim, refl, sym, subst, ap, ◌∙◌}
use Rattle.std.specs.Prelude.{true}
use Rattle.base_types.specs.Faults.{RoseBy}
use Rattle.base_io.specs.Whole.{IsAppendedInPart}
use Rattle.script_lines.specs.declared.script.Script.{Script}
use Rattle.script_commands.specs.declared.command.Play.{Play}
use Rattle.service_run.specs.Courses.{HasBeenHosted, HasRunSo, IsPrintable}
use Rattle.service_run.specs.Outcomes.{IsToldSo, RanSo, has_run, is_end_of_run}
use Rattle.service_run.specs.Output.{output_of}
use Rattle.service_run.specs.World.{Shown}
use Rattle.service_run.specs.declared.outcome.Course.{Course}
use Rattle.service_run.specs.declared.outcome.Course.TheVariants.{Empty, Hosted, Played}
use Rattle.service_run.specs.declared.outcome.Outcome.{Outcome}
use Rattle.service_run.specs.declared.outcome.Status.{Status}
use Rattle.service_run.specs.declared.outcome.Status.TheVariants.{Done, NoCommand, NoScript, NoInput, NoOutput}
use Rattle.service_run.specs.declared.outcome.Status.TheVariants.{NoDisk, NoAggregate, NoMemory, HasFaults, Stuck}

pub ran_whole : (told : Type 0) (before after : Shown told) (play : Play) (script : Script) (course : Course)
    (piece : List ℕ) → piece ≡ output_of play script course →
    (told → after.bytes ≡ before.bytes ++ piece) → IsToldSo play script course
    (record { status = Done; course = course; lines = script }) before after
ran_whole told before after play script course piece e w = record {
  ends = inl refl;
  own = λ _. refl;
  lines = λ _. refl;
  printed = record {
    all = λ t _. w t ∙ ap (λ l. before.bytes ++ l) e;
    part = λ t q. absurd (cc);
    nothing = λ t q.
        absurd (cc);
    failed = λ q. absurd (cc);
  };
  empty = λ q. absurd (cc);
}

pub ran_part : (told : Type 0) (before after : Shown told) (play : Play) (script : Script) (course : Course)
    (piece : List ℕ) → piece ≡ output_of play script course →
    (told → IsAppendedInPart before.bytes piece after.bytes) → RoseBy 1 before.faults after.faults → IsToldSo play
    script course (record { status = NoOutput; course = course; lines = script }) before after
ran_part told before after play script course piece e w r = record {
  ends = inl refl;
  own = λ _. refl;
  lines = λ _. refl;
  printed = record {
    all = λ t q. absurd (cc);
    part = λ t _. subst (λ l. IsAppendedInPart before.bytes l after.bytes)
        e (w t);
    nothing = λ t q. absurd (cc);
    failed = λ _. r;
  };
  empty = λ q. absurd (cc);
}

-- where more is known of what stores keep
pub runs_so : (less more : Type 0) (script : Script) (course : Course) → (more → less) → HasRunSo less script course
    → HasRunSo more script course
runs_so less more script Empty f so = so
runs_so less more script (Hosted journal) f so = (
  record {
    start = so.0.start;
    starts = so.0.starts;
    planned = so.0.planned;
    run = λ t. so.0.run (f t);
    promises =
        λ t. so.0.promises (f t);
  },
  so.1,
)
runs_so less more script (Played played) f so = so

pub printable : (tells : Type 0) (script : Script) (course : Course) → HasRunSo tells script course → IsPrintable
    script course
printable tells script Empty so = so
printable tells script (Hosted journal) so = (so.0.start, so.0.starts)
printable tells script (Played played) so = so.0

run_ends : (status : Status) → has_run status ≡ true → is_end_of_run status ≡ true
run_ends Done h = refl
run_ends NoCommand h = cc
run_ends NoScript h = cc
run_ends NoInput h = cc
run_ends NoOutput h = refl
run_ends NoDisk h = cc
run_ends NoAggregate h = cc
run_ends NoMemory h = cc
run_ends HasFaults h = cc
run_ends Stuck h = cc

-- a script that ran, and was told
pub ran_told : {told : Type 0} (tells : Type 0) (play : Play) (script : Script) (course : Course) (outcome : Outcome)
    (before after : Shown told) → HasRunSo tells script course → IsToldSo play script course outcome before after
    → RanSo tells play script outcome before after
ran_told tells play script course outcome before after so is = record {
  ends = ⊎_elim (λ ran. run_ends outcome.status ran) (λ (starved : outcome.status ≡ NoMemory). ap is_end_of_run
      starved) is.ends;
  lines = is.lines;
  went = λ ran. subst (λ (s : Script). HasRunSo tells s outcome.course) (sym (is.lines ran))
      (subst (HasRunSo tells script) (sym (is.own ran)) so);
  printed = is.printed;
  empty = is.empty;
}
