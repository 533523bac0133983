-- The acts that are given to a server's store while a step is made, and what the store keeps then.
use Rattle.std.specs.Prelude.{Bool, List, Option, Some, [], false, true, ℕ, ◌+◌, ◌++◌, ◌<◌, ◌≡◌, ◌≤◌, ◌∷◌}
use Rattle.base_types.specs.declared.ids.Fid.{Fid}
use Rattle.base_types.specs.declared.ids.FilesetId.{FilesetId}
use Rattle.base_types.specs.declared.ids.HostId.{HostId}
use Rattle.base_types.specs.declared.span.Span.{Span}
use Rattle.tree_calls.specs.declared.call.Call.{Call}
use Rattle.tree_calls.specs.declared.part.Piece.{Piece}
use Rattle.tree_calls.specs.declared.reply.Refusal.{Refusal}
use Rattle.tree_calls.specs.declared.ship.Record.{Record}
use Rattle.tree_answers.specs.declared.tree.Tree.{Tree}
use Rattle.message_types.specs.Soundness.{PiecesRise}
use Rattle.need_laws.specs.Known.{IsAt}
use Rattle.store_acts.specs.Acts.{act_done}
use Rattle.store_acts.specs.Sound.{HasName, IsAct}
use Rattle.store_acts.specs.declared.act.Act.{Act}
use Rattle.store_acts.specs.declared.act.Act.TheVariants.{Boot, Do, Epoch, Give, Host, Refuse}
use Rattle.store_memory.specs.Reading.{last_of}
use Rattle.store_state.specs.Outcomes.{now_done}
use Rattle.store_state.specs.Rows.{itself, numbered_id, numbered_name}
use Rattle.store_state.specs.State.{held_at, record_of}
use Rattle.store_state.specs.declared.state.Holding.{Holding}
use Rattle.store_state.specs.declared.state.HostState.{HostState}
use Rattle.store_state.specs.declared.state.StoreState.{StoreState}
use Rattle.store_laws.specs.Calls.{IsNewChange}
use Rattle.store_laws.specs.KeptGives.{IsNewGive}
use Rattle.run_rules.specs.Kept.{filesets_kept, filesets_through, is_refusal, pieces_in}
use Rattle.run_rules.specs.ServerDecides.{kept_reply}
use Rattle.run_rules.specs.declared.applied.Applied.{Applied}
use Rattle.run_rules.specs.declared.applied.Applied.TheVariants.{Done, Stored}
use Rattle.run_rules.specs.declared.applied.Written.{Written}
use Rattle.run_rules.specs.declared.step.Cause.{Cause}
use Rattle.run_rules.specs.declared.step.Step.{Step}
use Rattle.base_types.specs.declared.ids.ServerId.{ServerId}
use Rattle.run_stores.specs.Keeping.{StandsFor}

-- # A step in the making

-- The store keeps what the server keeps after what the step has applied so far.
abbrev pub KeepsSo : Cause → Tree → List Applied → StoreState → Type 0
KeepsSo cause tree applied state = StandsFor (filesets_through cause applied tree) state

-- whether what is applied leaves what the server keeps: all but what is stored, and a Change with effect
abbrev pub leaves_kept : Applied → Bool
leaves_kept (Done written) = is_refusal written.answer.reply
leaves_kept (Stored host fid spans given) = false
leaves_kept _ = true

-- a call that a store may be given now, under a number, and that isn't refused on what the server keeps
pub record MayDo (tree : Tree) (state : StoreState) (host : HostId) (number : ℕ) (call : Call) : Type 0 where
  pub own : IsAt state.server call
  pub act : IsAct state.roster state.server (Do host number call)
  pub name : HasName call
  pub accepted : is_refusal (kept_reply tree host call) ≡ false
  pub new : (id : FilesetId) → numbered_id state (numbered_name call) ≡ Some id → IsNewChange state id host number

-- where the store does it, it is done by the rules too
pub record DraftsStand : Type 0 where
  -- nothing is applied at first, and at the end of the step it is what the server keeps after it
  pub none : (cause : Cause) (tree : Tree) (state : StoreState) → StandsFor tree state → KeepsSo cause tree [] state
  pub all : (start : Tree) (server : ServerId) (steps : List Step) (step : Step) (state : StoreState)
      → KeepsSo step.cause (filesets_kept start server steps) step.applied state
      → StandsFor (filesets_kept start server (step ∷ steps)) state
  -- what leaves what is kept takes no act
  pub idle : (cause : Cause) (tree : Tree) (applied : List Applied) (state : StoreState) (x : Applied)
      → leaves_kept x ≡ true → KeepsSo cause tree applied state → KeepsSo cause tree (applied ++ x ∷ []) state
  -- a Change that isn't refused
  pub done : (cause : Cause) (tree : Tree) (applied : List Applied) (state : StoreState) (number : ℕ)
      (written : Written)
      → KeepsSo cause tree applied state
      → MayDo (filesets_through cause applied tree) state written.answer.host number written.answer.call
      → is_refusal written.answer.reply ≡ false
      → KeepsSo cause tree (applied ++ Done written ∷ [])
      (act_done state (Do written.answer.host number written.answer.call)).state
  pub replied : (tree : Tree) (state : StoreState) (host : HostId) (number : ℕ) (call : Call) → StandsFor tree state
      → MayDo tree state host number call
      → (act_done state (Do host number call)).done ≡ now_done (kept_reply tree host call)
  -- under which fileset it is numbered, and what is its next number
  pub numbered : (tree : Tree) (state : StoreState) (host : HostId) (call : Call) → StandsFor tree state
      → IsAt state.server call → is_refusal (kept_reply tree host call) ≡ false
      → (id : FilesetId) × (numbered_id state (numbered_name call) ≡ Some id)
  pub next : (state : StoreState) (id : FilesetId) (host : HostId)
      → IsNewChange state id host (last_of state host id (λ kept. kept.change) + 1)
  -- a Change that is refused is noted under any fileset and number
  pub refused : (cause : Cause) (tree : Tree) (applied : List Applied) (state : StoreState) (host : HostId)
      (id : FilesetId) (number : ℕ) (refusal : Refusal)
      → KeepsSo cause tree applied state → IsAct state.roster state.server (Refuse host id number refusal)
      → KeepsSo cause tree applied (act_done state (Refuse host id number refusal)).state
  -- what a give-back brings is stored
  pub given : (cause : Cause) (tree : Tree) (applied : List Applied) (state : StoreState) (host : HostId) (number : ℕ)
      (fid : Fid) (spans : List Span) (pieces : List Piece) (given : Option ℕ)
      → KeepsSo cause tree applied state → pieces_in cause ≡ pieces → PiecesRise pieces
      → IsNewGive state fid.fileset host number → IsAct state.roster state.server (Give host number fid pieces given)
      → KeepsSo cause tree (applied ++ Stored host fid spans given ∷ [])
      (act_done state (Give host number fid pieces given)).state
  -- what is known of hosts and epochs
  pub host : (cause : Cause) (tree : Tree) (applied : List Applied) (state : StoreState) (host : HostId)
      (known : HostState)
      → KeepsSo cause tree applied state → IsAct state.roster state.server (Host host known)
      → KeepsSo cause tree applied (act_done state (Host host known)).state
  pub epoch : (cause : Cause) (tree : Tree) (applied : List Applied) (state : StoreState)
      → KeepsSo cause tree applied state → KeepsSo cause tree applied (act_done state Epoch).state

-- # The numbers of requests that the store keeps

-- this holds of each number that a store keeps, by the fileset and the host
pub record KeepsNotes (Q : FilesetId → HostId → Record → Type 0) (state : StoreState) : Type 0 where
  pub own : (host : HostId) → Q itself host (record_of state.records host)
  pub held : (slot : ℕ) (holding : Holding) → held_at state.slots slot ≡ Some holding
      → (host : HostId) → Q holding.fileset.id host (record_of holding.records host)

-- no give-back of a host and a fileset has a number above this
abbrev pub GivesBelow : (HostId → FilesetId → ℕ) → StoreState → Type 0
GivesBelow last state = KeepsNotes (λ id host kept. kept.give ≤ last host id) state

-- no Change has a number above this
abbrev pub ChangesBelow : ℕ → StoreState → Type 0
ChangesBelow last state = KeepsNotes (λ id host kept. kept.change ≤ last) state

-- an act of a step that isn't a give-back: it notes no number of a Change above this
abbrev pub NotesBelow : ℕ → Act → Type 0
NotesBelow last (Do host number call) = number ≤ last
NotesBelow last (Refuse host id number refusal) = number ≤ last
NotesBelow last (Host host known) = Unit {0}
NotesBelow last Epoch = Unit {0}
NotesBelow last _ = ⊥

pub record NumbersStay : Type 0 where
  -- once the run has begun in the store it keeps none
  pub booted : (state : StoreState) → GivesBelow (λ host id. 0) (act_done state Boot).state
      × ChangesBelow 0 (act_done state Boot).state
  pub new : (last : HostId → FilesetId → ℕ) (state : StoreState) (id : FilesetId) (host : HostId) (number : ℕ)
      → GivesBelow last state → last host id < number → IsNewGive state id host number
  -- what the store tells of the last Change is below as well
  pub told : (last : ℕ) (state : StoreState) (id : FilesetId) (host : HostId) → ChangesBelow last state
      → last_of state host id (λ kept. kept.change) ≤ last
  pub gives : (last : HostId → FilesetId → ℕ) (some : ℕ) (state : StoreState) (act : Act) → NotesBelow some act
      → GivesBelow last state → GivesBelow last (act_done state act).state
  pub given : (last next : HostId → FilesetId → ℕ) (state : StoreState) (host : HostId) (number : ℕ) (fid : Fid)
      (pieces : List Piece) (given : Option ℕ)
      → GivesBelow last state → ((h : HostId) (i : FilesetId) → last h i ≤ next h i) → number ≤ next host fid.fileset
      → GivesBelow next (act_done state (Give host number fid pieces given)).state
  pub changes : (last next : ℕ) (state : StoreState) (act : Act) → last ≤ next → NotesBelow next act
      → ChangesBelow last state → ChangesBelow next (act_done state act).state
  pub changes_given : (last : ℕ) (state : StoreState) (host : HostId) (number : ℕ) (fid : Fid) (pieces : List Piece)
      (given : Option ℕ) → ChangesBelow last state
      → ChangesBelow last (act_done state (Give host number fid pieces given)).state
