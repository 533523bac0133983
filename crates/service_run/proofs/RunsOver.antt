-- What became of the disks of a run.
use Rattle.std.proofs.Common.{◌≡◌, ◌<◌, ◌+◌, ◌⊎◌, ℕ, List, length, inl, inr, ⊎_elim, Ok, Err, Some, refl, sym, ap}
use Rattle.std.proofs.Common.{subst, ◌∙◌}
use Rattle.std.specs.Prelude.{Bool, true, false, slice_get, Option, Result, IfOk, OnOk, OnErr}
use Rattle.std.proofs.lemmas.Bool.{false≢true}
use Rattle.base_types.specs.View.{View as DiskView}
use Rattle.disk_image.specs.Aggregate.{header_number}
use Rattle.disk_layout.specs.Places.{page_start}
use Rattle.disk_aggregate.specs.declared.refused.MountRefused.TheVariants as mount
use Rattle.disk_report.specs.Disks.{IsFailing}
use Rattle.disk_report.specs.Text.{failed_line}
use Rattle.service_hosts.specs.Runs.{nodes_of}
use Rattle.service_plain.specs.declared.played.Played.{Played as WasPlayed}
use Rattle.script_lines.specs.declared.script.Script.{Script}
use Rattle.service_disks.specs.Stores.{disks_of, AreOpen, AreBack as AreUnopened, IsFirstRefused}
use Rattle.service_disks.specs.Stores.{IsStopped as IsUnopened}
use Rattle.service_disks.specs.View.{store_view}
use Rattle.service_disks.specs.declared.disks.StoresRefused.{StoresRefused}
use Rattle.service_disks.specs.declared.disks.StoresRefused.TheVariants as opening
use Rattle.service_disks.specs.declared.stores.ServerStore.{ServerStore}
use Rattle.service_moves.specs.Doing.{acts_at}
use Rattle.service_moves.specs.Plans.{behind, states_at}
use Rattle.service_moves.specs.Stopping.{IsStopped}
use Rattle.service_moves.specs.Stores.{AreSame}
use Rattle.service_moves.specs.declared.stopped.RunStopped.{RunStopped}
use Rattle.service_moves.specs.declared.stopped.RunStopped.TheVariants as running
use Rattle.service_moves.proofs.Whole.{AreIn, behind_in, moves_in}
use Rattle.service_starts.specs.declared.told.Told.{Told}
use Rattle.service_stores.specs.Plans.{AreOfHistory, IsBeginning}
use Rattle.service_stores.specs.Starting.{told_by, start_from}
use Rattle.store_state.specs.declared.state.StoreState.{StoreState}
use Rattle.script_commands.specs.declared.command.Play.{Play}
use Rattle.service_run.proofs.Lists.{get_middle}
use Rattle.service_run.proofs.Gone.{kept_in, planned_in}
use Rattle.service_run.proofs.Opened.{are_found, begins_in, has_done, has_left, has_served, states_in, are_kept}
use Rattle.service_run.proofs.Opened.{are_kept_so_far, are_rested}
use Rattle.service_run.proofs.Opened.{are_durable, are_still, are_back, is_failing, unopened_back, open_count}
use Rattle.service_run.specs.Checks.{IsDiskRefused}
use Rattle.service_run.specs.Courses.{IsTold, last_in, start_in}
use Rattle.service_run.specs.Disks.{found_at, images, AreBack, BeginsIn, GoByHosts, GoBySteps, IsAggregateRefused}
use Rattle.service_run.specs.Disks.{AreRested, IsKeptSoFar, IsStuckTold, RanOver, IsUnfit, IsStartOf, AreStill, AreKept}
use Rattle.service_run.specs.Disks.{AreDurable}
use Rattle.service_run.specs.Lines.{no_aggregate_line, stuck_line}
use Rattle.service_run.specs.Outcomes.{has_run, is_end_of_run, IsEmpty, IsToldSo, RanSo, RefusedSo}
use Rattle.service_run.specs.Steps.{AreAsPlaced, HaveGone, IsKeptBy, IsOpeningRefused, IsRunRefused, IsRunOf, IsRunOn}
use Rattle.service_run.specs.Steps.{HaveServed, IsPlaced, IsRestStop, IsStopRefused, IsWithoutMemory}
use Rattle.service_run.specs.World.{Shown}
use Rattle.service_run.specs.declared.disks.Stopped.{Stopped}
use Rattle.service_run.specs.declared.disks.Stopped.TheVariants.{Run, Stuck}
use Rattle.service_run.specs.declared.outcome.Course.{Course}
use Rattle.service_run.specs.declared.outcome.Course.TheVariants.{Hosted, Played}
use Rattle.service_run.specs.declared.outcome.Outcome.{Outcome}
use Rattle.service_run.specs.declared.outcome.Status.{Status}
use Rattle.service_run.specs.declared.outcome.Status.TheVariants.{Done, NoCommand, NoScript, NoInput, NoOutput}
use Rattle.service_run.specs.declared.outcome.Status.TheVariants.{NoDisk, NoAggregate, NoMemory, HasFaults}
use Rattle.service_run.specs.declared.outcome.Status.TheVariants.{Stuck as IsStuck}

-- whether nothing ran, and why
abbrev pub is_refusal : Status → Bool
is_refusal NoDisk = true
is_refusal NoAggregate = true
is_refusal NoMemory = true
is_refusal IsStuck = true
is_refusal _ = false

refusal_ends : (status : Status) → is_refusal status ≡ true → is_end_of_run status ≡ true
refusal_ends Done h = cc
refusal_ends NoCommand h = cc
refusal_ends NoScript h = cc
refusal_ends NoInput h = cc
refusal_ends NoOutput h = cc
refusal_ends NoDisk h = refl
refusal_ends NoAggregate h = refl
refusal_ends NoMemory h = refl
refusal_ends HasFaults h = cc
refusal_ends IsStuck h = refl

refusal_runs_not : (status : Status) → is_refusal status ≡ true → has_run status ≡ false
refusal_runs_not Done h = cc
refusal_runs_not NoCommand h = refl
refusal_runs_not NoScript h = refl
refusal_runs_not NoInput h = refl
refusal_runs_not NoOutput h = cc
refusal_runs_not NoDisk h = refl
refusal_runs_not NoAggregate h = refl
refusal_runs_not NoMemory h = refl
refusal_runs_not HasFaults h = refl
refusal_runs_not IsStuck h = refl

refused_is : (status wanted : Status) → is_refusal wanted ≡ true → ((status ≡ wanted) ⊎ (status ≡ NoMemory))
    → is_refusal status ≡ true
refused_is status wanted h (inl e) = ap is_refusal e ∙ h
refused_is status wanted h (inr e) = ap is_refusal e

never_ran : {X : Type 0} (status : Status) → has_run status ≡ false → has_run status ≡ true → X
never_ran status idle ran = absurd (false≢true (sym idle ∙ ran))

not_done : (status : Status) → is_refusal status ≡ true → status ≡ Done → ⊥
not_done status h e = (let bad : is_refusal Done ≡ true = ap is_refusal (sym e) ∙ h in cc)

not_part : (status : Status) → is_refusal status ≡ true → status ≡ NoOutput → ⊥
not_part status h e = (let bad : is_refusal NoOutput ≡ true = ap is_refusal (sym e) ∙ h in cc)

-- nothing ran, and nothing was written of a run
module _ {told : Type 0} (tells : Type 0) (play : Play) (script : Script) (outcome : Outcome)
    (before after : Shown told) where
  ran_not : is_refusal outcome.status ≡ true → IsEmpty outcome
      → (told → outcome.status ≡ NoMemory → after.bytes ≡ before.bytes) → RanSo tells play script outcome before after
  ran_not h empty nothing = record {
    ends = refusal_ends outcome.status h;
    lines = λ ran. never_ran outcome.status (refusal_runs_not outcome.status h) ran;
    went = λ ran. never_ran outcome.status (refusal_runs_not outcome.status h) ran;
    printed = record {
      all = λ t e. absurd (not_done outcome.status h e);
      part = λ t e. absurd (not_part outcome.status h e);
      nothing = nothing;
      failed = λ e. absurd (not_part outcome.status h e);
    };
    empty = λ _. empty;
  }

  ran_refused : (wanted : Status) (line : List ℕ) → is_refusal wanted ≡ true → RefusedSo wanted line outcome before
      after → RanSo tells play script outcome before after
  ran_refused wanted line h r = ran_not (refused_is outcome.status wanted h r.ends) r.empty r.nothing

  ran_starved : IsWithoutMemory outcome before after → RanSo tells play script outcome before after
  ran_starved r = ran_not (ap is_refusal r.ends) r.empty (λ t _. r.nothing t)

  pub ran_unopened : (refused : StoresRefused) → IsOpeningRefused refused outcome before after → RanSo tells play
      script outcome before after
  ran_unopened (opening.Refused number (mount.NotAggregate place)) r = ran_refused NoAggregate
      (no_aggregate_line number place) refl r
  ran_unopened (opening.Refused number mount.Failed) r = ran_refused NoDisk (failed_line number) refl r
  ran_unopened (opening.Refused number mount.Memory) r = ran_starved r
  ran_unopened opening.Memory r = ran_starved r

  ran_stopped : (stopped : RunStopped) → IsRunRefused stopped outcome before after → RanSo tells play script
      outcome before after
  ran_stopped (running.Failed server) r = ran_refused NoDisk (failed_line server.0) refl r
  ran_stopped (running.Unfit disk slot) r = ran_refused NoAggregate
      (no_aggregate_line disk (page_start (header_number slot))) refl r
  ran_stopped running.Memory r = ran_starved r

  ran_stuck : (place : ℕ) (next : Option ℕ) → RefusedSo IsStuck (stuck_line script place next) outcome before
      after → RanSo tells play script outcome before after
  ran_stuck place next r = ran_refused IsStuck (stuck_line script place next) refl r

  pub ran_ended : (stopped : Stopped) → IsStopRefused script stopped outcome before after → RanSo tells play script
      outcome before after
  ran_ended (Run stopped) r = ran_stopped stopped r
  ran_ended (Stuck place next) r = ran_stuck place next r

-- one of two statuses isn't a third
two_not : (status one wanted : Status) → ((status ≡ one) ⊎ (status ≡ NoMemory)) → status ≡ wanted
    → (one ≡ wanted → ⊥) → (NoMemory ≡ wanted → ⊥) → ⊥
two_not status one wanted (inl p) q not other = not (sym p ∙ q)
two_not status one wanted (inr p) q not other = other (sym p ∙ q)

told_not : (status wanted : Status) → ((has_run status ≡ true) ⊎ (status ≡ NoMemory)) → status ≡ wanted → has_run
    wanted ≡ false → (NoMemory ≡ wanted → ⊥) → ⊥
told_not status wanted (inl p) q not other = false≢true (sym not ∙ ap has_run (sym q) ∙ p)
told_not status wanted (inr p) q not other = other (sym p ∙ q)

module _ {D writes : Type 0} (tells : Type 0) (view : D → DiskView) (script : Script) (outcome : Outcome)
    (before after : Shown writes) where
  -- what became of the disks, however a run ended
  abbrev Ended : List D → List D → Type 0
  Ended olds news =
      (tells → GoBySteps view script outcome olds news ⊎ GoByHosts view script outcome olds news)
      ⊎ ((has_run outcome.status ≡ false) × AreUnopened tells view script.roster 1 olds news)

  -- a run that didn't go, by why it didn't
  record WhyNot (olds news : List D) : Type 0 where
    pub failed : outcome.status ≡ NoDisk → IsDiskRefused view olds news before after
    pub refused : outcome.status ≡ NoAggregate → IsAggregateRefused tells view script.roster olds news before after
    pub stuck : outcome.status ≡ IsStuck → IsStuckTold script before after

  over_not : (olds news : List D) → AreBack view olds news → Ended olds news → is_refusal outcome.status ≡ true
      → WhyNot olds news → RanOver tells view script outcome olds news before after
  over_not olds news back ended h why =
      (let idle = refusal_runs_not outcome.status h in
      record {
        back = back;
        start = λ t ran. never_ran outcome.status idle ran;
        epochs = λ t ran. never_ran outcome.status idle ran;
        kept = λ t ran. never_ran outcome.status idle ran;
        durable = λ t ran. never_ran outcome.status idle ran;
        failed = why.failed;
        refused = why.refused;
        stuck = why.stuck;
        goes = ended;
      })

  -- the ways in which nothing ran
  over_refused : (olds news : List D) (number place : ℕ) → AreBack view olds news → Ended olds news
      → (IsFirstRefused tells view script.roster number (mount.NotAggregate place) olds news
      ⊎ (tells → IsUnfit script.roster (images view olds) number place × AreStill script.roster (images view olds)
      (images view news)))
      → RefusedSo NoAggregate (no_aggregate_line number place) outcome before after → RanOver tells view script
      outcome olds news before after
  over_refused olds news number place back ended cause r =
      over_not olds news back ended (refused_is outcome.status NoAggregate refl r.ends)
      (record {
        failed = λ e. absurd (two_not outcome.status NoAggregate NoDisk r.ends e (λ q. cc) (λ q. cc));
        refused = λ e. record { number = number; place = place; cause = cause; wrote = λ t. r.wrote t e };
        stuck = λ e. absurd (two_not outcome.status NoAggregate IsStuck r.ends e (λ q. cc) (λ q. cc));
      })

  over_failed : (olds news : List D) (number : ℕ) → AreBack view olds news → Ended olds news
      → IsFailing view olds news number → RefusedSo NoDisk (failed_line number) outcome before after → RanOver tells
      view script outcome olds news before after
  over_failed olds news number back ended failing r =
      over_not olds news back ended (refused_is outcome.status NoDisk refl r.ends)
      (record {
        failed = λ e. record { number = number; failing = failing; wrote = λ t. r.wrote t e };
        refused = λ e. absurd (two_not outcome.status NoDisk NoAggregate r.ends e (λ q. cc) (λ q. cc));
        stuck = λ e. absurd (two_not outcome.status NoDisk IsStuck r.ends e (λ q. cc) (λ q. cc));
      })

  over_starved : (olds news : List D) → AreBack view olds news → Ended olds news
      → IsWithoutMemory outcome before after → RanOver tells view script outcome olds news before after
  over_starved olds news back ended r =
      over_not olds news back ended (ap is_refusal r.ends)
      (record {
        failed = λ e. absurd (two_not outcome.status NoMemory NoDisk (inr r.ends) e (λ q. cc) (λ q. cc));
        refused = λ e. absurd (two_not outcome.status NoMemory NoAggregate (inr r.ends) e (λ q. cc) (λ q. cc));
        stuck = λ e. absurd (two_not outcome.status NoMemory IsStuck (inr r.ends) e (λ q. cc) (λ q. cc));
      })

  over_stuck : (olds news : List D) (place : ℕ) (next : Option ℕ) → AreBack view olds news → Ended olds news
      → place < length (nodes_of script) → RefusedSo IsStuck (stuck_line script place next) outcome before after
      → RanOver tells view script outcome olds news before after
  over_stuck olds news place next back ended within r =
      over_not olds news back ended (refused_is outcome.status IsStuck refl r.ends)
      (record {
        failed = λ e. absurd (two_not outcome.status IsStuck NoDisk r.ends e (λ q. cc) (λ q. cc));
        refused = λ e. absurd (two_not outcome.status IsStuck NoAggregate r.ends e (λ q. cc) (λ q. cc));
        stuck = λ e. record { place = place; next = next; within = within; wrote = λ t. r.wrote t e };
      })

  -- the disk that failed is where it was
  unopened_fails : (olds news : List D) (number : ℕ) → IsFirstRefused tells view script.roster number mount.Failed
      olds news → IsFailing view olds news number
  unopened_fails olds news number first =
      (let k = length first.front in
      let count : k ≡ length (disks_of first.stores) = sym (open_count tells view script.roster 1 first.front
      first.stores first.opened) in
      record {
        k = k;
        numbered = first.numbered;
        before = first.before;
        after = first.after;
        was = ap (λ (l : List D). slice_get l k) first.was ∙ get_middle first.front first.behind first.before k refl;
        is = ap (λ (l : List D). slice_get l k) first.is ∙ get_middle (disks_of first.stores) first.behind
            first.after k count;
        twice = first.refused.cause.0;
        last = first.refused.cause.1;
      })

  -- where they weren't opened
  pub over_unopened : (olds news : List D) (refused : StoresRefused) → AreUnopened tells view script.roster 1 olds
      news → IsUnopened tells view script.roster refused olds news → IsOpeningRefused refused outcome before after
      → RanOver tells view script outcome olds news before after
  over_unopened olds news refused are is r = by refused is r
    where
      back : AreBack view olds news
      back = unopened_back tells view script.roster olds news are

      idle : (wanted : Status) → is_refusal wanted ≡ true → ((outcome.status ≡ wanted) ⊎ (outcome.status ≡ NoMemory))
          → Ended olds news
      idle wanted h ends = inr (refusal_runs_not outcome.status (refused_is outcome.status wanted h ends), are)

      by : (refused : StoresRefused) → IsUnopened tells view script.roster refused olds news → IsOpeningRefused
          refused outcome before after → RanOver tells view script outcome olds news before after
      by (opening.Refused number (mount.NotAggregate place)) is r = over_refused olds news number place back
          (idle NoAggregate refl r.ends) (inl is) r
      by (opening.Refused number mount.Failed) is r = over_failed olds news number back (idle NoDisk refl r.ends)
          (unopened_fails olds news number is) r
      by (opening.Refused number mount.Memory) is r = over_starved olds news back (idle NoMemory refl (inr r.ends)) r
      by opening.Memory is r = over_starved olds news back (idle NoMemory refl (inr r.ends)) r

  -- `told`: what is known of what the stores keep
  module _ (told : Type 0) (olds news : List D) (so : IsTold tells olds → told) (stores left : List (ServerStore D))
      (are : AreOpen tells view script.roster 1 olds stores)
      (count : length stores ≡ length script.roster.capacity) (closed : news ≡ disks_of left)
      (placed : AreAsPlaced stores left) (same : AreSame (store_view tells view) stores left) where
    back_is : AreBack view olds news
    back_is = subst (λ (l : List D). AreBack view olds l) (sym closed)
        (are_back tells view script.roster olds stores left are placed same)

    abbrev few : ℕ → Option StoreState
    few = states_at (store_view tells view) stores

    abbrev more : ℕ → Option StoreState
    more = found_at script.roster (images view olds)

    are_in : tells → AreIn few more
    are_in t = states_in tells view script.roster olds stores (λ _. t) are

    abbrev all : List Told
    all = told_by (store_view tells view) (length olds) stores

    -- by the steps of their stores
    module _ (result : Result Course Stopped) (t : tells) (gone : HaveGone (store_view tells view) script
        (length olds) result stores left)
        (own : has_run outcome.status ≡ true → IfOk result (λ run. outcome.course ≡ run) × (OnErr result ⊥)) where
      whole_so : (result : Result Course Stopped) → OnOk result (gone.does.cut ≡ length gone.steps) → IfOk result
          (λ run. outcome.course ≡ run) × (OnErr result ⊥) → gone.does.cut ≡ length gone.steps
      whole_so (Ok run) made own = made
      whole_so (Err why) made own = absurd own.1

      history_so : (result : Result Course Stopped) (played : WasPlayed) → IfOk result
          (IsKeptBy (behind few gone.planned.begins) gone.planned.keeps) → IfOk result (λ run. outcome.course ≡ run)
          × (OnErr result ⊥)
          → outcome.course ≡ Played played → AreOfHistory played.start played.history
          (behind more gone.planned.begins) gone.planned.keeps
      history_so (Ok run) played kept own is =
          kept_in (behind few gone.planned.begins) (behind more gone.planned.begins) gone.planned.keeps
          (Played played) (behind_in few more gone.planned.begins (are_in t))
          (subst (IsKeptBy (behind few gone.planned.begins) gone.planned.keeps) (sym own.0 ∙ is) kept)
      history_so (Err why) played kept own is = absurd own.1

      goes : GoBySteps view script outcome olds news
      goes = record {
        all = all;
        found = are_found tells view script.roster olds stores (λ _. t) are count;
        steps = gone.steps;
        planned = planned_in script all few more gone.steps (are_in t) gone.planned;
        cut = gone.does.cut;
        within = gone.does.within;
        whole = λ ran. whole_so result gone.does.all (own ran);
        history = λ played ran is. history_so result played gone.ran (own ran) is;
        kept = λ k old new was is.
            has_done tells view script.roster olds stores left are placed same t k old new was
            (ap (λ (l : List D). slice_get l k) (sym closed) ∙ is) result gone.steps gone.does;
        leaves = λ k old new was is.
            has_left tells view script.roster olds stores left are placed same t k old new was
            (ap (λ (l : List D). slice_get l k) (sym closed) ∙ is) result gone.steps gone.does;
      }

    -- or hosts and servers had begun to run it
    hosted_so : (result : Result Course Stopped) → tells
        → HaveServed (store_view tells view) script (length olds) result stores left
        → (outcome.status ≡ IsStuck → IsRestStop result) → GoByHosts view script outcome olds news
    hosted_so result t served rests = record {
      start = start_from script.roster all;
      starts = record {
        all = all;
        found = are_found tells view script.roster olds stores (λ _. t) are count;
        fit =
            served.fit;
        tree = refl;
      };
      may = served.may;
      begins = served.begins;
      beginning = moves_in IsBeginning few more served.begins (are_in t) served.beginning;
      each = λ k old new was is.
          has_served tells view script.roster olds stores left are placed same t k old new was
          (ap (λ (l : List D). slice_get l k) (sym closed) ∙ is) (acts_at k served.begins) (served.each k);
      so_far =
          (let h = served.so_far in
          record {
            journal = h.journal;
            starts = h.starts;
            epochs = begins_in tells view script.roster olds stores (λ _. t) are (Hosted h.journal) h.epochs_are;
            planned = h.planned;
            run = h.run;
            dutiful = h.dutiful;
            kept = subst (λ (l : List D). (k : ℕ) (disk : D) → slice_get l k ≡ Some disk
                → IsKeptSoFar script (start_from script.roster all) h.journal (k + 1) (view disk)) (sym closed)
                (are_kept_so_far tells view script.roster olds stores left are placed same t script refl
                (start_from script.roster all) h.journal h.kept);
            rested = λ is. subst (λ (l : List D). AreRested view (start_from script.roster all) h.journal l)
                (sym closed) (are_rested tells view script.roster olds stores left are placed same t
                (start_from script.roster all) h.journal (h.rested (rests is)));
          });
    }

    ended_so : (result : Result Course Stopped) → (told → HaveGone (store_view tells view) script (length olds)
        result stores left ⊎ HaveServed (store_view tells view) script (length olds) result stores left)
        → (has_run outcome.status ≡ true → IfOk result (λ run. outcome.course ≡ run) × (OnErr result ⊥))
        → (outcome.status ≡ IsStuck → IsRestStop result) → Ended olds news
    ended_so result gone own rests =
        inl (λ t. ⊎_elim (λ (steps : HaveGone (store_view tells view) script (length olds) result stores left). inl
        (goes result t steps own))
        (λ (served : HaveServed (store_view tells view) script (length olds) result stores left).
        inr (hosted_so result t served rests))
        (gone (so (λ _. t))))

    -- where it stopped
    ended : (stopped : Stopped) (wanted : Status) → is_refusal wanted ≡ true
        → ((outcome.status ≡ wanted) ⊎ (outcome.status ≡ NoMemory))
        → (told → HaveGone (store_view tells view) script (length olds) (Err stopped) stores left
        ⊎ HaveServed (store_view tells view) script (length olds) (Err stopped) stores left)
        → (outcome.status ≡ IsStuck → IsRestStop (Err stopped)) → Ended olds news
    ended stopped wanted h ends gone rests =
        ended_so (Err stopped) gone (λ ran. never_ran outcome.status
        (refusal_runs_not outcome.status (refused_is outcome.status wanted h ends)) ran) rests

    not_stuck : (wanted : Status) → (wanted ≡ IsStuck → ⊥)
        → ((outcome.status ≡ wanted) ⊎ (outcome.status ≡ NoMemory)) → outcome.status ≡ IsStuck → ⊥
    not_stuck wanted other (inl e) is = other (sym e ∙ is)
    not_stuck wanted other (inr e) is = (let clash : NoMemory ≡ IsStuck = sym e ∙ is in absurd (cc))

    over_halted : (stopped : RunStopped) → IsStopped told (store_view tells view) all stores left stopped
        → (told → HaveGone (store_view tells view) script (length olds) (Err (Run stopped)) stores left
        ⊎ HaveServed (store_view tells view) script (length olds) (Err (Run stopped)) stores left)
        → IsRunRefused stopped outcome before after → RanOver tells view script outcome olds news before after
    over_halted (running.Failed server) is gone r =
        over_failed olds news server.0 back_is (ended (Run (running.Failed server)) NoDisk refl r.ends gone
        (not_stuck NoDisk (λ e. cc) r.ends))
        (subst (λ (l : List D). IsFailing view olds l server.0) (sym closed)
        (is_failing tells view script.roster olds stores left server.0 are placed is)) r
    over_halted (running.Unfit disk slot) is gone r =
        over_refused olds news disk (page_start (header_number slot)) back_is
        (ended (Run (running.Unfit disk slot)) NoAggregate refl r.ends gone
        (not_stuck NoAggregate (λ e. cc) r.ends))
        (inr (λ t.
        (let stop = is (so (λ _. t)) in
        let unfit = stop.0 in
        let at = unfit.0 in (
          record {
            all = all;
            at = at;
            found = are_found tells view script.roster olds stores (λ _. t) are count;
            first = unfit.1;
            disk = unfit.2;
            header = ap (λ i. page_start (header_number i)) unfit.3;
          },
          subst (λ (l : List D). AreStill script.roster (images view olds) (images view l)) (sym closed)
              (are_still tells view script.roster olds stores left are placed same t stop.1),
        )))) r
    over_halted running.Memory is gone r = over_starved olds news back_is
        (ended (Run running.Memory) NoMemory refl (inr r.ends) gone
        (not_stuck NoMemory (λ e. cc) (inr r.ends))) r

    over_waits : (place : ℕ) (next : Option ℕ) → place < length (nodes_of script)
        → (told → HaveGone (store_view tells view) script (length olds) (Err (Stuck place next)) stores left
        ⊎ HaveServed (store_view tells view) script (length olds) (Err (Stuck place next)) stores left)
        → RefusedSo IsStuck (stuck_line script place next) outcome before after → RanOver tells view script outcome
        olds news before after
    over_waits place next within gone r = over_stuck olds news place next back_is
        (ended (Stuck place next) IsStuck refl r.ends gone (λ s. tt)) within r

    over_went : (play : Play) (run : Course) → IsRunOf told (store_view tells view) script (length olds) (Ok run)
        stores left → IsToldSo play script run outcome before after
        → RanOver tells view script outcome olds news before after
    over_went play run is so_told = record {
      back = back_is;
      start = λ any ran.
          (let made : IsStartOf script.roster (images view olds) (start_in run) = record {
            all = all;
            found = are_found tells view script.roster olds stores any are count;
            fit = is.ran.fit (so any);
            tree = is.ran.start (so any);
          } in
          subst (λ (s : Script). IsStartOf s.roster (images view olds) (start_in outcome.course))
          (sym (so_told.lines ran))
          (subst (λ (c : Course). IsStartOf script.roster (images view olds) (start_in c)) (sym (so_told.own ran))
          made));
      epochs = λ any ran.
          subst (λ (s : Script). BeginsIn s.roster (images view olds) outcome.course) (sym (so_told.lines ran))
          (subst (λ (c : Course). BeginsIn script.roster (images view olds) c) (sym (so_told.own ran))
          (begins_in tells view script.roster olds stores any are run (is.ran.epochs (so any))));
      kept = λ t ran. subst (λ (c : Course). AreKept (last_in c) (images view news)) (sym (so_told.own ran))
          (kept_so t);
      durable = λ t ran.
          subst (λ (c : Course). AreDurable view (last_in c) news) (sym (so_told.own ran))
          (subst (λ (l : List D). AreDurable view (last_in run) l) (sym closed)
          (are_durable tells view script.roster olds stores left are placed same is.ran.ready (last_in run)
          (are_kept tells view script.roster olds stores left are placed same t (last_in run)
          (is.ran.kept (so (λ _. t))))));
      failed = λ e. absurd (told_not outcome.status NoDisk so_told.ends e refl (λ q. cc));
      refused = λ e. absurd (told_not outcome.status NoAggregate so_told.ends e refl (λ q. cc));
      stuck = λ e. absurd (told_not outcome.status IsStuck so_told.ends e refl (λ q. cc));
      goes = ended_so (Ok run) is.goes (λ ran. (so_told.own ran, tt))
          (λ e. absurd (told_not outcome.status IsStuck so_told.ends e refl (λ q. cc)));
    }
      where
        kept_so : tells → AreKept (last_in run) (images view news)
        kept_so t =
            subst (λ (l : List D). AreKept (last_in run) (images view l)) (sym closed)
            (are_kept tells view script.roster olds stores left are placed same t (last_in run)
            (is.ran.kept (so (λ _. t))))

  module _ (told : Type 0) (olds news : List D) (so : IsTold tells olds → told) (stores : List (ServerStore D))
      (are : AreOpen tells view script.roster 1 olds stores) (count : length stores ≡ length script.roster.capacity)
    where
      -- a run on them stopped
      over_stopped : (stopped : RunStopped) → IsRunOn told tells view script (length olds) (Err (Run stopped))
          stores news → IsRunRefused stopped outcome before after → RanOver tells view script outcome olds news before
          after
      over_stopped stopped on r = over_halted told olds news so stores on.left are count on.closed on.placed
          on.over.same stopped on.over.stopped on.over.goes r

      -- or came to no end
      over_waited : (place : ℕ) (next : Option ℕ) → IsRunOn told tells view script (length olds)
          (Err (Stuck place next)) stores news → RefusedSo IsStuck (stuck_line script place next) outcome before after
          → RanOver tells view script outcome olds news before after
      over_waited place next on r = over_waits told olds news so stores on.left are count on.closed on.placed
          on.over.same place next on.over.stopped on.over.goes r

      pub over_ended : (stopped : Stopped) → IsRunOn told tells view script (length olds) (Err stopped) stores news
          → IsStopRefused script stopped outcome before after → RanOver tells view script outcome olds news before after
      over_ended (Run stopped) on r = over_stopped stopped on r
      over_ended (Stuck place next) on r = over_waited place next on r

      -- or went, and was told
      pub over_told : (play : Play) (run : Course) → IsRunOn told tells view script (length olds) (Ok run) stores news
          → IsToldSo play script run outcome before after → RanOver tells view script outcome olds news before after
      over_told play run on is = over_went told olds news so stores on.left are count on.closed on.placed on.over.same
          play run on.over is

-- the node at which a run came to no end is one of the script's
pub placed_so : {D : Type 0} (told tells : Type 0) (view : D → DiskView) (script : Script) (count : ℕ)
    (stopped : Stopped) (stores : List (ServerStore D)) (news : List D)
    → IsRunOn told tells view script count (Err stopped) stores news → IsPlaced script stopped
placed_so told tells view script count (Run stopped) stores news on = tt
placed_so told tells view script count (Stuck place next) stores news on = on.over.stopped
