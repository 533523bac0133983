-- What came of a check of disks.
use Rattle.std.proofs.Common.{◌≡◌, ◌⊎◌, ℕ, Bool, true, false, List, map, refl, sym, subst, ◌∙◌, inl, inr, Some}
use Rattle.base_types.specs.View.{View}
use Rattle.disk_report.specs.Disks.{AreQuiet, IsFailing}
use Rattle.disk_report.specs.Report.{report_of}
use Rattle.disk_report.specs.Text.{failed_line}
use Rattle.disk_report.specs.declared.report.Report.{Report}
use Rattle.service_run.specs.Checks.{TellsSo, ChecksSo}
use Rattle.script_commands.specs.declared.command.Command.TheVariants.{Check}
use Rattle.service_run.specs.Outcomes.{may_end, is_end_of_report, is_end_of_check, IsEmpty, RefusedSo}
use Rattle.service_run.specs.World.{Shown}
use Rattle.service_run.specs.declared.outcome.Outcome.{Outcome}
use Rattle.service_run.specs.declared.outcome.Status.{Status}
use Rattle.service_run.specs.declared.outcome.Status.TheVariants.{Done, NoCommand, NoScript, NoInput, NoOutput, NoDisk, NoAggregate}
use Rattle.service_run.specs.declared.outcome.Status.TheVariants.{NoMemory, HasFaults, Stuck}

ends_check : (status : Status) → is_end_of_report status ≡ true → is_end_of_check status ≡ true
ends_check Done h = refl
ends_check NoCommand h = cc
ends_check NoScript h = cc
ends_check NoInput h = cc
ends_check NoOutput h = refl
ends_check NoDisk h = refl
ends_check NoAggregate h = cc
ends_check NoMemory h = refl
ends_check HasFaults h = refl
ends_check Stuck h = cc

-- all disks were looked at
pub checks_told : {D writes : Type 0} (tells : Type 0) (view : D → View) (outcome : Outcome) (old new : List D) (before after : Shown writes) (reports : List Report) →
    is_end_of_report outcome.status ≡ true → IsEmpty outcome → AreQuiet view old new → (tells → reports ≡ map (λ disk. report_of (view disk).image) old) → TellsSo reports outcome.status before after →
    ChecksSo tells view outcome old new before after
checks_told tells view outcome old new before after reports ends empty quiet had told = record {
  ends = ends_check outcome.status ends;
  empty = empty;
  quiet = quiet;
  reports = reports;
  had = had;
  told = told;
  refused = λ e. let bad : is_end_of_report NoDisk ≡ true = subst (λ (s : Status). is_end_of_report s ≡ true) e ends in absurd (cc);
}

-- whether nothing is told of disks
abbrev pub is_untold : Status → Bool
is_untold NoDisk = true
is_untold NoMemory = true
is_untold _ = false

untold : (status : Status) → ((status ≡ NoDisk) ⊎ (status ≡ NoMemory)) → is_untold status ≡ true
untold status (inl e) = rw e refl
untold status (inr e) = rw e refl

nothing_told : {told : Type 0} (reports : List Report) (status : Status) (before after : Shown told) → is_untold status ≡ true → (told → status ≡ NoMemory → after.bytes ≡ before.bytes) → TellsSo reports status before after
nothing_told reports Done before after h n = absurd (cc)
nothing_told reports NoCommand before after h n = absurd (cc)
nothing_told reports NoScript before after h n = absurd (cc)
nothing_told reports NoInput before after h n = absurd (cc)
nothing_told reports NoOutput before after h n = absurd (cc)
nothing_told reports HasFaults before after h n = absurd (cc)
nothing_told reports Stuck before after h n = absurd (cc)
nothing_told reports NoAggregate before after h n = absurd (cc)
nothing_told reports NoDisk before after h n = record { sound = λ e. absurd (cc); faulty = λ e. absurd (cc); all = λ t e. absurd (cc); part = λ t e. absurd (cc); failed = λ e. absurd (cc); nothing = n }
nothing_told reports NoMemory before after h n = record { sound = λ e. absurd (cc); faulty = λ e. absurd (cc); all = λ t e. absurd (cc); part = λ t e. absurd (cc); failed = λ e. absurd (cc); nothing = n }

ends_untold : (status : Status) → is_untold status ≡ true → is_end_of_check status ≡ true
ends_untold Done h = refl
ends_untold NoCommand h = cc
ends_untold NoScript h = cc
ends_untold NoInput h = cc
ends_untold NoOutput h = refl
ends_untold NoDisk h = refl
ends_untold NoAggregate h = cc
ends_untold NoMemory h = refl
ends_untold HasFaults h = refl
ends_untold Stuck h = cc

-- a disk failed twice
pub checks_refused : {D writes : Type 0} (tells : Type 0) (view : D → View) (outcome : Outcome) (old new : List D) (before after : Shown writes) (number : ℕ) →
    AreQuiet view old new → IsFailing view old new number → RefusedSo NoDisk (failed_line number) outcome before after →
    ChecksSo tells view outcome old new before after
checks_refused tells view outcome old new before after number quiet failing refused =
    let none = untold outcome.status refused.ends in
    record {
      ends = ends_untold outcome.status none;
      empty = refused.empty;
      quiet = quiet;
      reports = map (λ disk. report_of (view disk).image) old;
      had = λ _. refl;
      told = nothing_told (map (λ disk. report_of (view disk).image) old) outcome.status before after none refused.nothing;
      refused = λ e. record { number = number; failing = failing; wrote = λ t. refused.wrote t e };
    }

-- memory ran out before anything was written
pub checks_stopped : {D writes : Type 0} (tells : Type 0) (view : D → View) (outcome : Outcome) (old new : List D) (before after : Shown writes) →
    outcome.status ≡ NoMemory → IsEmpty outcome → AreQuiet view old new → (writes → after.bytes ≡ before.bytes) →
    ChecksSo tells view outcome old new before after
checks_stopped tells view outcome old new before after is empty quiet same =
    let none = untold outcome.status (inr is) in
    record {
      ends = ends_untold outcome.status none;
      empty = empty;
      quiet = quiet;
      reports = map (λ disk. report_of (view disk).image) old;
      had = λ _. refl;
      told = nothing_told (map (λ disk. report_of (view disk).image) old) outcome.status before after none (λ t e. same t);
      refused = λ e. let bad : NoMemory ≡ NoDisk = sym is ∙ e in absurd (cc);
    }

-- disks that were lent
pub checks_back : {D writes : Type 0} (tells : Type 0) (view : D → View) (outcome : Outcome) (olds lent news back : List D) (before after : Shown writes) → ChecksSo tells view outcome lent news before after → lent ≡ olds → back ≡ news →
    ChecksSo tells view outcome olds back before after
checks_back tells view outcome olds lent news back before after so was is = rw is (subst (λ (l : List _). ChecksSo tells view outcome l news before after) was so)

-- how a check ends goes with its words
pub check_may_end : (workers : ℕ) (status : Status) → is_end_of_check status ≡ true → may_end (Some (Check workers)) status ≡ true
check_may_end workers Done h = refl
check_may_end workers NoCommand h = cc
check_may_end workers NoScript h = cc
check_may_end workers NoInput h = cc
check_may_end workers NoOutput h = refl
check_may_end workers NoDisk h = refl
check_may_end workers NoAggregate h = cc
check_may_end workers NoMemory h = refl
check_may_end workers HasFaults h = refl
check_may_end workers Stuck h = cc

pub check_has_words : (status : Status) → is_end_of_check status ≡ true → status ≡ NoCommand → ⊥
check_has_words status h e = let bad : is_end_of_check NoCommand ≡ true = subst (λ (s : Status). is_end_of_check s ≡ true) e h in absurd (cc)
