-- What a run finds on the disks of its servers, and what it leaves there.
use Rattle.std.specs.Prelude.{
  ◌≡◌,
  ◌≤◌,
  ◌<◌,
  ◌⊎◌,
  ℕ,
  ◌+◌,
  true,
  false,
  List,
  [],
  ◌∷◌,
  ◌++◌,
  length,
  map,
  take,
  slice_get,
  Option,
  Some,
  None,
  Ok,
}
use Rattle.std.specs.Option.{option_map}
use Rattle.base_types.specs.Image.{AreBytes}
use Rattle.base_types.specs.View.{View}
use Rattle.base_types.specs.declared.ids.ServerId.{ServerId}
use Rattle.base_types.specs.declared.limits.TheConstants.{BATCH_ACTS_MAX}
use Rattle.base_outside.specs.Runs.{LeavesOnly}
use Rattle.tree_calls.specs.declared.roster.Roster.{Roster}
use Rattle.tree_answers.specs.declared.tree.Tree.{Tree}
use Rattle.disk_aggregate.specs.declared.refused.MountRefused.TheVariants.{NotAggregate}
use Rattle.disk_aggregate.specs.Records.{HasSameRecord}
use Rattle.disk_image.specs.Aggregate.{header_number, is_blank}
use Rattle.disk_layout.specs.Half.{HasNoLog}
use Rattle.disk_layout.specs.Places.{page_start}
use Rattle.disk_records.specs.Record.{record_in}
use Rattle.service_moves.specs.Doing.{Step, acts_at}
use Rattle.service_moves.specs.Plans.{behind}
use Rattle.service_plain.specs.Played.{IsPlayed}
use Rattle.service_plain.specs.declared.played.Played.{Played as WasPlayed}
use Rattle.service_starts.specs.Fitting.{misfit}
use Rattle.service_starts.specs.Told.{Placed}
use Rattle.message_types.specs.Soundness.{Each}
use Rattle.service_starts.specs.declared.told.Told.{Told}
use Rattle.script_lines.specs.declared.script.Script.{Script}
use Rattle.service_disks.specs.Opening.{new_store, store_on}
use Rattle.service_disks.specs.Stores.{server_of, IsFirstRefused, AreBack as AreUnopened}
use Rattle.service_stores.specs.Plans.{AreBeginning, AreOfHistory}
use Rattle.service_stores.specs.Starting.{told_of, start_from}
use Rattle.service_watch.specs.Gone.{IsLeftOf}
use Rattle.store_acts.specs.Acts.{state_after}
use Rattle.store_acts.specs.declared.act.Act.{Act}
use Rattle.store_acts.specs.Sound.{IsAct}
use Rattle.store_memory.specs.Views.{IsFirstOf}
use Rattle.store_state.specs.declared.state.StoreState.{StoreState}
use Rattle.store_laws.specs.TreeKeeping.{KeepsOf}
use Rattle.script_commands.specs.declared.command.Play.{Play}
use Rattle.service_run.specs.Checks.{IsDiskRefused}
use Rattle.service_hosts.specs.Runs.{nodes_of}
use Rattle.service_hosts.specs.Homes.{may_host}
use Rattle.service_hosts.specs.Hosting.{HasComeFrom, KeepsMore, kept_so_far}
use Rattle.run_rules.specs.Plans.{IsPlanned}
use Rattle.run_rules.specs.Runs.{IsDutiful, IsRun}
use Rattle.run_rules.specs.declared.journal.Journal.{Journal}
use Rattle.service_run.specs.Lines.{no_aggregate_line, stuck_line}
use Rattle.service_run.specs.Courses.{IsTold, last_in, start_in, history_in}
use Rattle.service_run.specs.Outcomes.{has_run, has_reached}
use Rattle.service_run.specs.Output.{Wrote}
use Rattle.service_run.specs.Scripts.{IsRead}
use Rattle.service_run.specs.World.{Shown, World}
use Rattle.service_run.specs.declared.outcome.Outcome.{Outcome}
use Rattle.service_run.specs.declared.outcome.Course.{Course}
use Rattle.service_run.specs.declared.outcome.Course.TheVariants.{Hosted, Played}
use Rattle.service_run.specs.declared.outcome.Status.{Status}
use Rattle.service_run.specs.declared.outcome.Status.TheVariants.{NoDisk, NoAggregate, Stuck}

-- What the store of the server of a number keeps: the one on its disk, a new one where that is blank; a new one in
-- memory, where it has no disk. Nothing where the disk has no record of it.
abbrev pub kept_at : Roster → ℕ → Option (List ℕ) → Option StoreState
kept_at roster number (Some image) = store_on roster (server_of number) image
kept_at roster number None = Some (new_store roster (server_of number))

-- and what it tells
abbrev pub told_at : Roster → ℕ → Option (List ℕ) → Option Told
told_at roster number (Some image) = option_map (told_of true) (store_on roster (server_of number) image)
told_at roster number None = Some (told_of false (new_store roster (server_of number)))

-- what all stores keep, by their places, where these are the bytes of the disks in front
abbrev pub found_at : Roster → List (List ℕ) → ℕ → Option StoreState
found_at roster images place = kept_at roster (place + 1) (slice_get images place)

-- this is what all servers of a roster tell where these are the bytes of the disks in front
pub record AreFound (roster : Roster) (images : List (List ℕ)) (all : List Told) : Type 0 where
  pub count : length all ≡ length roster.capacity
  pub each : (k : ℕ) (told : Told)
      → slice_get all k ≡ Some told → told_at roster (k + 1) (slice_get images k) ≡ Some told

-- the bytes of disks
abbrev pub images : {D : Type 0} → (D → View) → List D → List (List ℕ)
images view disks = map (λ disk. (view disk).image) disks

-- the tree of disks with these bytes, which fit one another: that of what the servers tell, once the moves that an
-- earlier run left unfinished are settled, and those that go on have ended
pub record IsStartOf (roster : Roster) (images : List (List ℕ)) (start : Tree) : Type 0 where
  pub all : List Told
  pub found : AreFound roster images all
  pub fit : misfit all ≡ None
  pub tree : start ≡ start_from roster all

-- the bytes of the disk of a server have the record of a store that keeps the server's part of a tree
pub record IsKept (tree : Tree) (number : ℕ) (image : List ℕ) : Type 0 where
  pub state : StoreState
  pub found : record_in tree.roster (server_of number) image ≡ Some state
  pub keeps : KeepsOf tree state

-- so it is of each disk
abbrev pub AreKept : Tree → List (List ℕ) → Type 0
AreKept tree images =
    (k : ℕ) (image : List ℕ) → slice_get images k ≡ Some image → IsKept tree (k + 1) image

-- so it is of whatever a crash right after leaves of each disk
pub record AreDurable {D : Type 0} (view : D → View) (tree : Tree) (disks : List D) : Type 0 where
  pub each : (k : ℕ) (disk : D) (c : List ℕ)
      → slice_get disks k ≡ Some disk → (view disk).may_leave c → IsKept tree (k + 1) c

-- each disk has the record of the store that was on it, or of a new one where it was blank
abbrev pub AreStill : Roster → List (List ℕ) → List (List ℕ) → Type 0
AreStill roster olds news = (k : ℕ) (old new : List ℕ) → slice_get olds k ≡ Some old → slice_get news k ≡ Some new
    → record_in roster (server_of (k + 1)) new ≡ store_on roster (server_of (k + 1)) old

-- the steps in which stores that keep this keep a run of the script from the tree that the servers told, or the first
-- part of its history
pub record IsKeptHistory (script : Script) (all : List Told) (states : ℕ → Option StoreState) (steps : List Step) :
    Type 0 where
  pub played : WasPlayed
  pub start : played.start ≡ start_from script.roster all
  pub goes : IsPlayed script played
  pub count : ℕ
  pub keeps : AreOfHistory played.start (take count played.history) states steps

-- The steps of a run over stores that keep this and tell that, in the order in which they are done: first what an
-- earlier run left of moves is settled and finished, and each server begins the run; and then, where the script ran on
-- the tree alone, the steps of its history, one that may happen from the tree that was told.
pub record ArePlanned (script : Script) (all : List Told) (states : ℕ → Option StoreState) (steps : List Step) :
    Type 0 where
  pub begins : List Step
  pub keeps : List Step
  pub are : steps ≡ begins ++ keeps
  pub beginning : AreBeginning states begins
  pub keeping : (keeps ≡ []) ⊎ IsKeptHistory script all (behind states begins) keeps

-- What a crash at any moment of a run may leave on a server's disk that held these bytes: on a blank one no log,
-- refused at place 0; on another one the record that it had, or none as it; or, of what are bytes, a record of which P
-- says how it came of the one that it had, or of a new one where it was blank.
abbrev pub IsLeftBy : Roster → ServerId → (StoreState → Option StoreState → Type 0) → List ℕ → List ℕ → Type 0
IsLeftBy roster server P old c =
    ((is_blank old ≡ true) × HasNoLog 0 c) ⊎ ((is_blank old ≡ false) × HasSameRecord roster server old c)
    ⊎ (AreBytes c → (from : StoreState) × (store_on roster server old ≡ Some from)
    × P from (record_in roster server c))

-- the first of its server's acts made it
abbrev pub IsLeftBySteps : Roster → ServerId → List Act → List ℕ → List ℕ → Type 0
IsLeftBySteps roster server acts = IsLeftBy roster server (λ from found. IsFirstOf from acts found)

-- so they did, and perhaps some of one batch more, of which nobody heard
abbrev pub IsLeftByHosts : Roster → ServerId → List Act → List ℕ → List ℕ → Type 0
IsLeftByHosts roster server acts = IsLeftBy roster server (λ from found. IsLeftOf from acts found)

-- A server's disk has the record that some acts made of the one that it had, or of a new one where it was blank.
pub record HasDone (roster : Roster) (server : ServerId) (acts : List Act) (old new : List ℕ) : Type 0 where
  pub from : StoreState
  pub was : store_on roster server old ≡ Some from
  pub now : record_in roster server new ≡ Some (state_after from acts)

-- What became of disks in the steps of a run. Each has the record that its server's acts among the first steps made, up
-- to one and the same step for all: where the script ran, all steps, and they are those of its history. A crash at any
-- moment leaves of each the record that the first of its acts made, or what is said above; and none of these acts lies
-- more than a batch behind that step, so that what was durable once is there in the end.
pub record GoBySteps {D : Type 0} (view : D → View) (script : Script) (outcome : Outcome) (olds news : List D) :
    Type 0 where
  pub all : List Told
  pub found : AreFound script.roster (images view olds) all
  pub steps : List Step
  pub planned : ArePlanned script all (found_at script.roster (images view olds)) steps
  pub cut : ℕ
  pub within : cut ≤ length steps
  pub whole : has_run outcome.status ≡ true → cut ≡ length steps
  pub history : (played : WasPlayed) → has_run outcome.status ≡ true → outcome.course ≡ Played played
      → AreOfHistory played.start played.history
      (behind (found_at script.roster (images view olds)) planned.begins) planned.keeps
  pub kept : (k : ℕ) (old new : D) → slice_get olds k ≡ Some old → slice_get news k ≡ Some new
      → HasDone script.roster (server_of (k + 1)) (acts_at k (take cut steps)) (view old).image (view new).image
  pub leaves : (k : ℕ) (old new : D) → slice_get olds k ≡ Some old → slice_get news k ≡ Some new
      → LeavesOnly (IsLeftBySteps script.roster (server_of (k + 1)) (acts_at k (take (cut + BATCH_ACTS_MAX) steps))
      (view old).image) (view old) (view new)

-- What became of a server's disk in a run by hosts and servers: it has the record that the acts with which the server
-- began the run, and some more that it may do, made of the one that it had. A crash at any moment leaves of it the
-- record that the first of these made, and perhaps some of one batch more; or what is said above.
pub record HasServed (roster : Roster) (server : ServerId) (begins : List Act) (old new : View) : Type 0 where
  pub acts : List Act
  pub each : Each (IsAct roster server) acts
  pub done : HasDone roster server (begins ++ acts) old.image new.image
  pub leaves : LeavesOnly (IsLeftByHosts roster server (begins ++ acts) old.image) old new

-- a server begins a run by hosts and servers in the epoch that its store then has, one more than it had
abbrev pub BeginsIn : Roster → List (List ℕ) → Course → Type 0
BeginsIn roster images (Hosted journal) = (k epoch : ℕ) (state : StoreState)
    → slice_get journal.epochs k ≡ Some epoch → found_at roster images k ≡ Some state → epoch ≡ state.epoch + 1
BeginsIn roster images _ = Unit {0}

-- the bytes of a server's disk have a record, of which this holds
pub record HasRecordSo (roster : Roster) (number : ℕ) (P : StoreState → Type 0) (image : List ℕ) : Type 0 where
  pub state : StoreState
  pub found : record_in roster (server_of number) image ≡ Some state
  pub so : P state

-- A server's disk has a record in which is each change that the server acknowledged in a journal from this tree: it
-- keeps what the server keeps by the rules after all its steps there, and perhaps some more, and so does whatever a
-- crash right after leaves; or, as where the server failed while it made more, it keeps those, and then acts for
-- requests that the server hasn't answered there, or by which it begins a newer epoch.
abbrev pub IsKeptSoFar : Script → Tree → Journal → ℕ → View → Type 0
IsKeptSoFar script start journal number disk =
    ((c : List ℕ) → (c ≡ disk.image) ⊎ disk.may_leave c
    → HasRecordSo script.roster number (KeepsMore script start journal (server_of number)) c)
    ⊎ HasRecordSo script.roster number (HasComeFrom script start journal (server_of number)) disk.image

-- each disk keeps what its server keeps by the rules after all its steps in a journal from this tree, and no more; and
-- so does whatever a crash right after leaves of it
pub record AreRested {D : Type 0} (view : D → View) (start : Tree) (journal : Journal) (disks : List D) : Type 0 where
  pub kept : (k : ℕ) (disk : D) → slice_get disks k ≡ Some disk
      → IsKept (kept_so_far start journal (server_of (k + 1))) (k + 1) (view disk).image
  pub durable : (k : ℕ) (disk : D) (c : List ℕ) → slice_get disks k ≡ Some disk → (view disk).may_leave c
      → IsKept (kept_so_far start journal (server_of (k + 1))) (k + 1) c

-- A run by hosts and servers, so far: there is a journal, which starts from the tree, in the epochs that the stores
-- then have, and keeps to the plan of the script; it is a run of the script, in which what is due is done; and each
-- disk has what its server acknowledged in it. Where all came to rest it has no more, durably.
pub record HasGoneSoFar {D : Type 0} (view : D → View) (script : Script) (status : Status) (start : Tree)
    (olds news : List D) : Type 0 where
  pub journal : Journal
  pub starts : journal.start ≡ start ∷ []
  pub epochs : BeginsIn script.roster (images view olds) (Hosted journal)
  pub planned : IsPlanned script journal
  pub run : IsRun script journal
  pub dutiful : IsDutiful script journal
  pub kept : (k : ℕ) (disk : D) → slice_get news k ≡ Some disk
      → IsKeptSoFar script start journal (k + 1) (view disk)
  pub rested : status ≡ Stuck → AreRested view start journal news

-- What became of disks over which hosts and servers ran a script, or began to: they can from the tree that the disks
-- held. What an earlier run left of moves was settled and finished, each server began the run, and then it did some
-- acts of its own (there are such acts, which ∥ ∥₁ says). What they come to is told by what happened so far, however
-- the run ended, and also where memory ran out; and where it went to its end, by the tree that the disks keep then.
pub record GoByHosts {D : Type 0} (view : D → View) (script : Script) (outcome : Outcome) (olds news : List D)
    : Type 0 where
  pub start : Tree
  pub starts : IsStartOf script.roster (images view olds) start
  pub may : may_host script start ≡ true
  pub begins : List Step
  pub beginning : AreBeginning (found_at script.roster (images view olds)) begins
  pub each : (k : ℕ) (old new : D) → slice_get olds k ≡ Some old → slice_get news k ≡ Some new
      → ∥ HasServed script.roster (server_of (k + 1)) (acts_at k begins) (view old) (view new) ∥₁
  pub so_far : HasGoneSoFar view script outcome.status start olds news

-- there are as many disks as before, and the count of faults of none fell
pub record AreBack {D : Type 0} (view : D → View) (old new : List D) : Type 0 where
  pub count : length new ≡ length old
  pub counted : (k : ℕ) (before after : D) → slice_get old k ≡ Some before → slice_get new k ≡ Some after
      → (view before).faults ≤ (view after).faults

-- a disk doesn't fit the others: the first slot that doesn't is on it, and its header is at this place
pub record IsUnfit (roster : Roster) (images : List (List ℕ)) (number place : ℕ) : Type 0 where
  pub all : List Told
  pub at : Placed
  pub found : AreFound roster images all
  pub first : misfit all ≡ Some at
  pub disk : number ≡ at.server.0
  pub header : place ≡ page_start (header_number at.slot.at)

-- The disk of a number is the first that isn't blank and has no aggregate of its server that can be mounted, which the
-- place shows; or it is the first that doesn't fit, and then each disk keeps what it kept. A line says so.
pub record IsAggregateRefused {D writes : Type 0} (tells : Type 0) (view : D → View) (roster : Roster)
    (old new : List D) (before after : Shown writes) : Type 0 where
  pub number : ℕ
  pub place : ℕ
  pub cause : IsFirstRefused tells view roster number (NotAggregate place) old new
      ⊎ (tells → IsUnfit roster (images view old) number place × AreStill roster (images view old) (images view new))
  pub wrote : writes → Wrote (no_aggregate_line number place) before after

-- Hosts and servers came to no end: a node is named, with the last of its lines that went.
pub record IsStuckTold {writes : Type 0} (script : Script) (before after : Shown writes) : Type 0 where
  pub place : ℕ
  pub next : Option ℕ
  pub within : place < length (nodes_of script)
  pub wrote : writes → Wrote (stuck_line script place next) before after

-- What became of disks that are handed back, the same ones in their order, where a script was to run over them; of
-- what they hold, where they tell it. A script that ran did so from the tree that they held, and they hold what it
-- left, also where a crash comes right after. Where one failed it did so twice, the second time at its last call;
-- and one that is no aggregate is the first. However it ended, they went by the steps of the run, or hosts and servers
-- had begun to run it; or nothing ran, since not all could be opened, and each that wasn't blank has the record that it
-- had.
pub record RanOver {D writes : Type 0} (tells : Type 0) (view : D → View) (script : Script) (outcome : Outcome)
    (old new : List D) (before after : Shown writes) : Type 0 where
  pub back : AreBack view old new
  pub start : IsTold tells old → has_run outcome.status ≡ true
      → IsStartOf outcome.lines.roster (images view old) (start_in outcome.course)
  pub epochs : IsTold tells old → has_run outcome.status ≡ true
      → BeginsIn outcome.lines.roster (images view old) outcome.course
  pub kept : tells → has_run outcome.status ≡ true → AreKept (last_in outcome.course) (images view new)
  pub durable : tells → has_run outcome.status ≡ true → AreDurable view (last_in outcome.course) new
  pub failed : outcome.status ≡ NoDisk → IsDiskRefused view old new before after
  pub refused : outcome.status ≡ NoAggregate → IsAggregateRefused tells view script.roster old new before after
  pub stuck : outcome.status ≡ Stuck → IsStuckTold script before after
  pub goes : (tells → GoBySteps view script outcome old new ⊎ GoByHosts view script outcome old new)
      ⊎ ((has_run outcome.status ≡ false) × AreUnopened tells view script.roster 1 old new)

-- the script that was read, or generated, was to run over the disks
pub record IsRunOver {D reads writes : Type 0} (tells : Type 0) (view : D → View) (play : Play) (outcome : Outcome)
    (old new : List D) (before after : World reads writes) : Type 0 where
  pub script : Script
  pub read : IsRead before.source play (Ok script)
  pub over : RanOver tells view script outcome old new before.sink after.sink

-- What a command that runs a script does with the disks: without a script it calls none; and without memory for one.
abbrev pub RunsOver : {D reads writes : Type 0} → Type 0 → (D → View) → Play → Outcome
    → List D → List D → World reads writes → World reads writes → Type 0
RunsOver tells view play outcome old new before after =
    ((has_reached outcome.status ≡ false) × (new ≡ old))
    ⊎ IsRunOver tells view play outcome old new before after
