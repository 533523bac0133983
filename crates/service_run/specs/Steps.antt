-- The steps in which a script runs over the stores of its servers.
use Rattle.std.specs.Prelude.{◌≡◌, ◌<◌, ◌⊎◌, ⊤, ℕ, ◌+◌, List, [], ◌∷◌, ◌++◌, true, None, Option, length, map}
use Rattle.std.specs.Prelude.{Result, Some, slice_get, Ok, Err, IfOk, IfErr, OnOk}
use Rattle.base_types.specs.View.{View as DiskView}
use Rattle.message_types.specs.Soundness.{Each}
use Rattle.store_acts.specs.Acts.{state_after}
use Rattle.store_acts.specs.Sound.{IsAct}
use Rattle.store_acts.specs.declared.act.Act.{Act}
use Rattle.store_memory.specs.Views.{View, Leaves}
use Rattle.disk_aggregate.specs.declared.refused.MountRefused.TheVariants as mount
use Rattle.disk_aggregate.specs.declared.refused.MountRefused.TheVariants.{NotAggregate}
use Rattle.disk_image.specs.Aggregate.{header_number}
use Rattle.disk_layout.specs.Places.{page_start}
use Rattle.disk_report.specs.Text.{failed_line}
use Rattle.service_starts.specs.Fitting.{misfit}
use Rattle.service_hosts.specs.Runs.{nodes_of}
use Rattle.tree_answers.specs.declared.tree.Tree.{Tree}
use Rattle.run_rules.specs.declared.journal.Journal.{Journal}
use Rattle.service_hosts.specs.Homes.{may_host}
use Rattle.service_hosts.specs.Hosting.{HasKept, kept_so_far}
use Rattle.store_laws.specs.TreeKeeping.{KeepsOf}
use Rattle.run_rules.specs.Plans.{IsPlanned}
use Rattle.run_rules.specs.Runs.{IsDutiful, IsRun}
use Rattle.service_hosts.specs.declared.running.HostsStopped.{HostsStopped}
use Rattle.service_hosts.specs.declared.running.HostsStopped.TheVariants as hosts
use Rattle.service_plain.specs.Played.{IsPlayed}
use Rattle.service_plain.specs.declared.played.Played.{Played as WasPlayed}
use Rattle.store_state.specs.declared.state.StoreState.{StoreState}
use Rattle.service_starts.specs.declared.told.Told.{Told}
use Rattle.service_run.specs.Courses.{HasRunSo, KeepTree, last_in, start_in}
use Rattle.service_run.specs.declared.disks.Stopped.{Stopped}
use Rattle.service_run.specs.declared.disks.Stopped.TheVariants.{Run, Stuck}
use Rattle.service_run.specs.declared.outcome.Course.{Course}
use Rattle.service_run.specs.declared.outcome.Course.TheVariants.{Hosted, Played}
use Rattle.script_lines.specs.declared.script.Script.{Script}
use Rattle.service_disks.specs.Stores.{disks_of}
use Rattle.service_disks.specs.View.{store_view}
use Rattle.service_disks.specs.declared.disks.StoresRefused.{StoresRefused}
use Rattle.service_disks.specs.declared.disks.StoresRefused.TheVariants as opening
use Rattle.service_disks.specs.declared.stores.ServerStore.{ServerStore}
use Rattle.service_disks.specs.declared.stores.ServerStore.TheVariants.{Disk, Memory}
use Rattle.service_moves.specs.Doing.{Step, DoSteps, acts_at}
use Rattle.service_moves.specs.Plans.{behind, states_at}
use Rattle.service_moves.specs.Stopping.{IsStopped}
use Rattle.service_moves.specs.Stores.{AreSame, states_of}
use Rattle.service_moves.specs.declared.stopped.RunStopped.{RunStopped}
use Rattle.service_moves.specs.declared.stopped.RunStopped.TheVariants as running
use Rattle.service_stores.specs.Plans.{AreBeginning, AreOfHistory, KeepsHistory}
use Rattle.service_stores.specs.Starting.{told_by, start_from}
use Rattle.service_stores.specs.Steps.{MayBeAsked}
use Rattle.service_watch.specs.Gone.{HaveGone as HaveWorked, IsLeftOf}
use Rattle.service_run.specs.Disks.{ArePlanned}
use Rattle.service_run.specs.Lines.{no_aggregate_line, stuck_line}
use Rattle.service_run.specs.Outcomes.{IsEmpty, RefusedSo}
use Rattle.service_run.specs.World.{Shown}
use Rattle.service_run.specs.declared.outcome.Outcome.{Outcome}
use Rattle.service_run.specs.declared.outcome.Status.TheVariants.{NoDisk, NoAggregate, NoMemory, Stuck as IsStuck}

-- the epochs of a run by hosts and servers are those of the stores of its servers
abbrev pub RunsIn : List ℕ → Course → Type 0
RunsIn epochs (Hosted journal) = journal.epochs ≡ epochs
RunsIn epochs _ = Unit {0}

-- A script ran from a tree over stores that have begun the run, in their epochs; each keeps its server's part of what
-- came of it, and may be asked.
pub record HasRunFrom {S : Type 0} (tells : Type 0) (view : S → View) (script : Script) (start : Tree)
    (old new : List S) (run : Course) : Type 0 where
  pub went : HasRunSo tells script run
  pub start_is : start_in run ≡ start
  pub epochs : tells → RunsIn (map (λ state. state.epoch) (states_of view old)) run
  pub kept : tells → KeepTree (last_in run) (states_of view new)
  pub ready : MayBeAsked view new

-- Stores kept the history of a script that ran on the tree alone from this tree, or the first part of it; where it ran,
-- all of it.
pub record KeepsPlayed {S : Type 0} (view : S → View) (script : Script) (start : Tree) (result : Result Course Stopped)
    (old new : List S) : Type 0 where
  pub played : WasPlayed
  pub starts : played.start ≡ start
  pub goes : IsPlayed script played
  pub keeps : KeepsHistory view result played.start played.history old new
  pub ran : IfOk result (λ run. run ≡ Played played)

-- or it didn't run, and they did nothing
abbrev pub HaveKept : {S : Type 0} → (S → View) → Script → Tree → Result Course Stopped → List S → List S → Type 0
HaveKept view script start result old new =
    (OnOk result ⊥ × DoSteps view result [] old new) ⊎ KeepsPlayed view script start result old new

-- how a script ran that hosts and servers ran, or why it didn't
abbrev pub course_of : Result Journal HostsStopped → Result Course Stopped
course_of (Ok journal) = Ok (Hosted journal)
course_of (Err (hosts.Failed server)) = Err (Run (running.Failed server))
course_of (Err (hosts.Stuck waiting)) = Err (Stuck waiting.node waiting.line)
course_of (Err hosts.Memory) = Err (Run running.Memory)

-- why a script didn't run over stores to its end
abbrev pub IsStoppedSo : {S : Type 0} → Type 0 → (S → View) → Script → List Told → List S → List S → Stopped → Type 0
IsStoppedSo tells view script all old new (Run stopped) = IsStopped tells view all old new stopped
IsStoppedSo tells view script all old new (Stuck place next) = place < length (nodes_of script)

-- whether all hosts and servers came to rest
abbrev pub IsRestStop : Result Course Stopped → Type 0
IsRestStop (Err (Stuck place next)) = ⊤
IsRestStop _ = ⊥

-- a store may be asked, and keeps a tree
pub record KeepsWhole (tree : Tree) (view : View) : Type 0 where
  pub ready : view.ready
  pub keeps : KeepsOf tree view.state

-- A run by hosts and servers, so far: there is a journal, of which each store keeps what its server acknowledged;
-- where all came to rest, no more.
pub record HaveKeptSoFar {S : Type 0} (view : S → View) (script : Script) (start : Tree) (epochs : List ℕ)
    (result : Result Course Stopped) (stores : List S) : Type 0 where
  pub journal : Journal
  pub starts : journal.start ≡ start ∷ []
  pub epochs_are : journal.epochs ≡ epochs
  pub planned : IsPlanned script journal
  pub run : IsRun script journal
  pub dutiful : IsDutiful script journal
  pub kept : (k : ℕ) (store : S) → slice_get stores k ≡ Some store
      → HasKept script start journal (record { 0 = k + 1 }) (view store)
  pub rested : IsRestStop result → (k : ℕ) (store : S) → slice_get stores k ≡ Some store
      → KeepsWhole (kept_so_far start journal (record { 0 = k + 1 })) (view store)

-- hosts and servers can run the script from this tree; the stores did acts since they were seen so; and however the
-- run ended, each keeps what its server acknowledged
pub record HaveHosted {S : Type 0} (from : ℕ → View) (view : S → View) (script : Script) (start : Tree)
    (epochs : List ℕ) (result : Result Course Stopped) (stores : List S) : Type 0 where
  pub may : may_host script start ≡ true
  pub worked : HaveWorked from view stores
  pub so_far : HaveKeptSoFar view script start epochs result stores

-- A script ran from a tree over stores that have begun the run, or why it didn't; each is still that of its server.
-- Either it ran on the tree alone, or this holds of the stores.
pub record IsRunFrom {S : Type 0} (tells : Type 0) (view : S → View) (hosted : List S → Type 0) (script : Script)
    (start : Tree) (result : Result Course Stopped) (old new : List S) : Type 0 where
  pub same : AreSame view old new
  pub ran : IfOk result (HasRunFrom tells view script start old new)
  pub stopped : IfErr result (IsStoppedSo tells view script [] old new)
  pub goes : tells → hosted new ⊎ HaveKept view script start result old new

-- the stores are closed then: these are the disks
pub record IsClosedFrom {S D : Type 0} (tells : Type 0) (view : S → View) (hosted : List S → Type 0)
    (disks_in : List S → List D) (script : Script) (start : Tree) (result : Result Course Stopped) (stores : List S)
    (empty disks : List D) : Type 0 where
  pub left : List S
  pub closed : disks ≡ disks_in left ++ empty
  pub over : IsRunFrom tells view hosted script start result stores left

-- A script ran from the tree that stores kept, of which so many in front are on disks: each began one run more, keeps
-- its server's part of what came of it, and may be asked.
pub record HasRunOver {S : Type 0} (tells : Type 0) (view : S → View) (script : Script) (disks : ℕ) (old new : List S)
    (run : Course) : Type 0 where
  pub went : HasRunSo tells script run
  pub fit : tells → misfit (told_by view disks old) ≡ None
  pub start : tells → start_in run ≡ start_from script.roster (told_by view disks old)
  pub epochs : tells → RunsIn (map (λ state. state.epoch + 1) (states_of view old)) run
  pub kept : tells → KeepTree (last_in run) (states_of view new)
  pub ready : MayBeAsked view new

-- the stores keep what was played
abbrev pub IsKeptBy : (ℕ → Option StoreState) → List Step → Course → Type 0
IsKeptBy states keeps (Played run) = AreOfHistory run.start run.history states keeps
IsKeptBy states keeps _ = Unit {0}

-- Stores did the first steps of a run of the script on the tree alone, up to one and the same for all: where it ran,
-- all steps, and they are those of its history.
pub record HaveGone {S : Type 0} (view : S → View) (script : Script) (disks : ℕ) (result : Result Course Stopped)
    (old new : List S) : Type 0 where
  pub steps : List Step
  pub planned : ArePlanned script (told_by view disks old) (states_at view old) steps
  pub does : DoSteps view result steps old new
  pub ran : IfOk result (IsKeptBy (behind (states_at view old) planned.begins) planned.keeps)

-- A store did the acts with which it began a run, and then some more that its server may do. A crash at any moment
-- leaves what the first of these made, and perhaps some of one batch more.
pub record HasWorked (begins : List Act) (old new : View) : Type 0 where
  pub acts : List Act
  pub each : Each (IsAct old.state.roster old.state.server) acts
  pub state : new.state ≡ state_after old.state (begins ++ acts)
  pub leaves : Leaves (IsLeftOf old.state (begins ++ acts)) old new

-- or hosts and servers can run it from the tree that they kept, and they began to
pub record HaveServed {S : Type 0} (view : S → View) (script : Script) (disks : ℕ) (result : Result Course Stopped)
    (old new : List S) : Type 0 where
  pub fit : misfit (told_by view disks old) ≡ None
  pub may : may_host script (start_from script.roster (told_by view disks old)) ≡ true
  pub begins : List Step
  pub beginning : AreBeginning (states_at view old) begins
  pub each : (k : ℕ) (before after : S) → slice_get old k ≡ Some before → slice_get new k ≡ Some after
      → ∥ HasWorked (acts_at k begins) (view before) (view after) ∥₁
  pub so_far : HaveKeptSoFar view script (start_from script.roster (told_by view disks old))
      (map (λ state. state.epoch + 1) (states_of view old)) result new

-- A script ran over stores, or why it didn't; each is still that of its server.
pub record IsRunOf {S : Type 0} (tells : Type 0) (view : S → View) (script : Script) (disks : ℕ)
    (result : Result Course Stopped) (old new : List S) : Type 0 where
  pub same : AreSame view old new
  pub ran : IfOk result (HasRunOver tells view script disks old new)
  pub stopped : IfErr result (IsStoppedSo tells view script (told_by view disks old) old new)
  pub goes : tells → HaveGone view script disks result old new ⊎ HaveServed view script disks result old new

-- each of these stores is on a disk where the other is
abbrev pub AreAsPlaced : {D : Type 0} → List (ServerStore D) → List (ServerStore D) → Type 0
AreAsPlaced (Disk old ∷ olds) (Disk new ∷ news) = AreAsPlaced olds news
AreAsPlaced (Memory old ∷ olds) (Memory new ∷ news) = AreAsPlaced olds news
AreAsPlaced [] [] = ⊤
AreAsPlaced _ _ = ⊥

-- A script ran over the stores of servers, of which so much is told, and which are closed then: these are their disks.
pub record IsRunOn {D : Type 0} (told tells : Type 0) (view : D → DiskView) (script : Script) (count : ℕ)
    (result : Result Course Stopped) (stores : List (ServerStore D)) (disks : List D) : Type 0 where
  pub left : List (ServerStore D)
  pub closed : disks ≡ disks_of left
  pub placed : AreAsPlaced stores left
  pub over : IsRunOf told (store_view tells view) script count result stores left

-- memory ran out before anything was written
pub record IsWithoutMemory {told : Type 0} (outcome : Outcome) (before after : Shown told) : Type 0 where
  pub ends : outcome.status ≡ NoMemory
  pub empty : IsEmpty outcome
  pub nothing : told → after.bytes ≡ before.bytes

-- the disks weren't opened, and a line says why
abbrev pub IsOpeningRefused : {told : Type 0} → StoresRefused → Outcome → Shown told → Shown told → Type 0
IsOpeningRefused (opening.Refused number (NotAggregate place)) outcome before after =
    RefusedSo NoAggregate (no_aggregate_line number place) outcome before after
IsOpeningRefused (opening.Refused number mount.Failed) outcome before after =
    RefusedSo NoDisk (failed_line number) outcome before after
IsOpeningRefused (opening.Refused number mount.Memory) outcome before after = IsWithoutMemory outcome before after
IsOpeningRefused opening.Memory outcome before after = IsWithoutMemory outcome before after

-- the run over them stopped, and a line says why
abbrev pub IsRunRefused : {told : Type 0} → RunStopped → Outcome → Shown told → Shown told → Type 0
IsRunRefused (running.Failed server) outcome before after = RefusedSo NoDisk (failed_line server.0) outcome before after
IsRunRefused (running.Unfit disk slot) outcome before after =
    RefusedSo NoAggregate (no_aggregate_line disk (page_start (header_number slot))) outcome before after
IsRunRefused running.Memory outcome before after = IsWithoutMemory outcome before after

-- the place of a node at which a run came to no end is one of the script's
abbrev pub IsPlaced : Script → Stopped → Type 0
IsPlaced script (Run stopped) = Unit {0}
IsPlaced script (Stuck place next) = place < length (nodes_of script)

-- a run over stores stopped, or came to no end, and a line says why
abbrev pub IsStopRefused : {told : Type 0} → Script → Stopped → Outcome → Shown told → Shown told → Type 0
IsStopRefused script (Run stopped) outcome before after = IsRunRefused stopped outcome before after
IsStopRefused script (Stuck place next) outcome before after =
    RefusedSo IsStuck (stuck_line script place next) outcome before after
