-- The numbers of Changes and give-backs: which acts a store does now, and how numbers go on in a run.
use Rattle.std.specs.Prelude.{List, Option, Some, ℕ, is_some, true, ◌<◌, ◌≡◌}
use Rattle.base_types.specs.declared.ids.Fid.{Fid}
use Rattle.base_types.specs.declared.ids.FilesetId.{FilesetId}
use Rattle.base_types.specs.declared.ids.HostId.{HostId}
use Rattle.base_types.specs.declared.ids.ServerId.{ServerId}
use Rattle.message_types.specs.declared.giving.Give.{Give as GiveOf}
use Rattle.script_lines.specs.declared.script.Script.{Script}
use Rattle.tree_calls.specs.declared.call.Call.{Call}
use Rattle.tree_calls.specs.declared.part.Piece.{Piece}
use Rattle.tree_calls.specs.declared.reply.Refusal.{Refusal}
use Rattle.tree_calls.specs.declared.ship.Record.{Record}
use Rattle.store_acts.specs.Acts.{act_done}
use Rattle.store_acts.specs.declared.act.Act.{Act}
use Rattle.store_acts.specs.declared.act.Act.TheVariants.{Do, Give, Refuse}
use Rattle.store_memory.specs.Reading.{last_of}
use Rattle.store_state.specs.Rows.{numbered_id, numbered_name}
use Rattle.store_state.specs.State.{records_of}
use Rattle.store_state.specs.declared.state.StoreState.{StoreState}
use Rattle.run_rules.specs.Doings.{Doing, WasWritten, doings_of}
use Rattle.run_rules.specs.Doings.Doing.{WritesDown}
use Rattle.run_rules.specs.Past.{Always}
use Rattle.run_rules.specs.Runs.{IsRun, firsts_of, past_of}
use Rattle.run_rules.specs.declared.applied.Written.{Written}
use Rattle.run_rules.specs.declared.journal.Journal.{Journal}
use Rattle.run_tokens.specs.TokenLaws.{Applies, WasApplied}

-- Under an id something is kept of requests, and a number is above the last of the host there.
abbrev pub IsNext : StoreState → HostId → FilesetId → (Record → ℕ) → ℕ → Type 0
IsNext state host id last number = (is_some (records_of state id) ≡ true) × (last_of state host id last < number)

-- the store does the act now
abbrev pub IsFresh : StoreState → Act → Type 0
IsFresh state act = (act_done state act).done.fresh ≡ true

-- A Change or a give-back is done now just where its number is the next: a Change under the fileset that the store
-- finds by the name in its call, a give-back under the fileset of its file.
pub record NumbersAreTold : Type 0 where
  pub changes : (state : StoreState) (host : HostId) (number : ℕ) (call : Call) (id : FilesetId)
      → numbered_id state (numbered_name call) ≡ Some id
      → IsNext state host id (λ kept. kept.change) number → IsFresh state (Do host number call)
  pub changed : (state : StoreState) (host : HostId) (number : ℕ) (call : Call) → IsFresh state (Do host number call)
      → (id : FilesetId) × (numbered_id state (numbered_name call) ≡ Some id)
      × IsNext state host id (λ kept. kept.change) number
  pub refusals : (state : StoreState) (host : HostId) (number : ℕ) (id : FilesetId) (refusal : Refusal)
      → IsNext state host id (λ kept. kept.change) number → IsFresh state (Refuse host id number refusal)
  pub refused : (state : StoreState) (host : HostId) (number : ℕ) (id : FilesetId) (refusal : Refusal)
      → IsFresh state (Refuse host id number refusal) → IsNext state host id (λ kept. kept.change) number
  pub gives : (state : StoreState) (host : HostId) (number : ℕ) (fid : Fid) (pieces : List Piece) (given : Option ℕ)
      → IsNext state host fid.fileset (λ kept. kept.give) number
      → IsFresh state (Give host number fid pieces given)
  pub given : (state : StoreState) (host : HostId) (number : ℕ) (fid : Fid) (pieces : List Piece) (given : Option ℕ)
      → IsFresh state (Give host number fid pieces given)
      → IsNext state host fid.fileset (λ kept. kept.give) number

-- The numbers under which a server writes down a host's Changes of a fileset rise.
abbrev pub ChangesRise : List Doing → Type 0
ChangesRise doings = Always (λ before a. (w : Written) → a ≡ WritesDown w
    → (number : ℕ) → WasWritten before w.answer.host w.fileset number → number < w.number) doings

-- So do those of a host's give-backs of a fileset that it applies.
abbrev pub GivesRise : ServerId → List Doing → Type 0
GivesRise server doings = Always (λ before a. (host : HostId) (give : GiveOf) → Applies server before a host give
    → (number : ℕ) → WasApplied server before host (record { fileset = give.fid.fileset; number = number })
    → number < give.number) doings

-- in each run, over all epochs
pub record NumbersRise : Type 0 where
  pub changes : (script : Script) (journal : Journal) (server : ServerId) → IsRun script journal
      → ChangesRise (doings_of (firsts_of journal server) server (past_of journal))
  pub gives : (script : Script) (journal : Journal) (server : ServerId) → IsRun script journal
      → GivesRise server (doings_of (firsts_of journal server) server (past_of journal))
