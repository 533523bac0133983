-- How a script ran: by hosts and servers, or on the file tree alone.
use Rattle.std.specs.Prelude.{List, [], Some, false, slice_get, true, unwrap_or, length, ℕ, ◌<◌, ◌∷◌, ◌≡◌}
use Rattle.tree_answers.specs.Histories.{after_history}
use Rattle.tree_answers.specs.declared.tree.Tree.{Tree}
use Rattle.tree_calls.specs.declared.entry.Entry.{Entry}
use Rattle.tree_calls.specs.declared.roster.Roster.{Roster}
use Rattle.script_lines.specs.declared.script.Script.{Script}
use Rattle.service_hosts.specs.Runs.{HasRun, Promises}
use Rattle.run_rules.specs.Plans.{IsPlanned}
use Rattle.run_rules.specs.Runs.{history_of}
use Rattle.run_rules.specs.declared.journal.Journal.{Journal}
use Rattle.store_laws.specs.TreeKeeping.{KeepsOf}
use Rattle.store_state.specs.declared.state.StoreState.{StoreState}
use Rattle.service_hosts.specs.Homes.{may_host}
use Rattle.service_plain.specs.Played.{IsPlayed}
use Rattle.service_run.specs.declared.outcome.Course.{Course}
use Rattle.service_run.specs.declared.outcome.Course.TheVariants.{Empty, Hosted, Played}

abbrev pub no_roster : Roster
no_roster = record { users = []; hosts = []; capacity = [] }

abbrev pub no_tree : Tree
no_tree = record { roster = no_roster; servers = []; filesets = []; away = []; locks = []; opens = [] }

-- the tree from which a script ran, and what happened on it
abbrev pub start_in : Course → Tree
start_in Empty = no_tree
start_in (Hosted journal) = unwrap_or (slice_get journal.start 0) no_tree
start_in (Played played) = played.start

abbrev pub history_in : Course → List Entry
history_in Empty = []
history_in (Hosted journal) = history_of journal.steps
history_in (Played played) = played.history

-- and the tree that it left
abbrev pub last_in : Course → Tree
last_in course = after_history (start_in course) (history_in course)

-- each of these stores keeps its server's part of a tree
abbrev pub KeepTree : Tree → List StoreState → Type 0
KeepTree tree states = (k : ℕ) (state : StoreState) → slice_get states k ≡ Some state → KeepsOf tree state

-- what can be printed of a script that ran
abbrev pub IsPrintable : Script → Course → Type 0
IsPrintable script Empty = ⊥
IsPrintable script (Hosted journal) = (start : Tree) × (journal.start ≡ start ∷ [])
IsPrintable script (Played played) = IsPlayed script played

-- what stores keep is known where disks, if there are any, tell their bytes
abbrev pub IsTold : {D : Type 0} → Type 0 → List D → Type 0
IsTold tells disks = 0 < length disks → tells

-- Hosts and servers ran a script: the journal starts from one tree, and keeps to the plan of the script; where it is
-- known what stores keep it is a run of the script to its end, in which what is due is done, and keeps what runs
-- promise.
pub record HasBeenHosted (tells : Type 0) (script : Script) (journal : Journal) : Type 0 where
  pub start : Tree
  pub starts : journal.start ≡ start ∷ []
  pub planned : IsPlanned script journal
  pub run : tells → HasRun script journal
  pub promises : tells → Promises script journal start

-- A script ran: by hosts and servers where they can run it from its start tree, and else on the tree alone.
abbrev pub HasRunSo : Type 0 → Script → Course → Type 0
HasRunSo tells script Empty = ⊥
HasRunSo tells script (Hosted journal) =
    HasBeenHosted tells script journal × (may_host script (start_in (Hosted journal)) ≡ true)
HasRunSo tells script (Played played) = IsPlayed script played × (may_host script played.start ≡ false)
