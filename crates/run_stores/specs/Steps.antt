-- Which acts of its store a server's step takes, and what they keep.
use Rattle.std.specs.List.{filter}
use Rattle.std.specs.Prelude.{Bool, List, Option, [], false, true, ℕ, ◌∷◌, ◌≡◌, ◌≤◌}
use Rattle.base_types.specs.declared.ids.Fid.{Fid}
use Rattle.base_types.specs.declared.ids.FilesetId.{FilesetId}
use Rattle.base_types.specs.declared.ids.HostId.{HostId}
use Rattle.tree_calls.specs.declared.reply.Reply.{Reply}
use Rattle.tree_calls.specs.declared.reply.Reply.TheVariants.{Refused}
use Rattle.tree_answers.specs.Answers.{answer_to}
use Rattle.tree_answers.specs.declared.tree.Tree.{Tree}
use Rattle.message_types.specs.declared.message.Body.{Body}
use Rattle.message_types.specs.declared.message.Body.TheVariants.{GiveBack}
use Rattle.message_types.specs.Soundness.{Each, PiecesRise}
use Rattle.store_acts.specs.Acts.{act_done, dones_of, state_after}
use Rattle.store_acts.specs.Sound.{HasName, IsAct}
use Rattle.store_acts.specs.declared.act.Act.{Act}
use Rattle.store_acts.specs.declared.act.Act.TheVariants.{Boot, Do, Epoch, Give, Host, Refuse}
use Rattle.store_state.specs.declared.state.StoreState.{StoreState}
use Rattle.store_laws.specs.Calls.{IsNewChange}
use Rattle.store_laws.specs.KeptGives.{IsNewGive}
use Rattle.store_laws.specs.TreeKeeping.{KeepsOf}
use Rattle.run_contents.specs.Gives.{IsKept}
use Rattle.script_lines.specs.declared.script.Script.{Script}
use Rattle.run_rules.specs.Kept.{filesets_after, filesets_kept, filesets_through, is_refusal, pieces_in}
use Rattle.run_rules.specs.Runs.{IsEnded, IsRun, past_of}
use Rattle.run_tokens.specs.Pasts.{tree_at}
use Rattle.run_rules.specs.Steps.{steps_of_server}
use Rattle.run_rules.specs.declared.applied.Applied.TheVariants.{Done, IsDown, Moves as IsMoved, Replied, Stored, Wants}
use Rattle.run_rules.specs.declared.journal.Journal.{Journal}
use Rattle.run_rules.specs.declared.applied.Applied.{Applied}
use Rattle.run_rules.specs.declared.applied.Written.{Written}
use Rattle.run_rules.specs.declared.step.Cause.{Cause}
use Rattle.run_rules.specs.declared.step.Cause.TheVariants.{Message as Came}
use Rattle.run_rules.specs.declared.step.Step.{Step}
use Rattle.run_stores.specs.Keeping.{StandsFor}

-- the number of the give-back that came
abbrev pub number_given : Body → ℕ
number_given (GiveBack give) = give.number
number_given _ = 0

abbrev pub number_in : Cause → ℕ
number_in (Came m) = number_given m.body
number_in _ = 0

-- a Change is done or refused, under its number
abbrev pub change_act : Reply → Written → Act
change_act (Refused refusal) written = Refuse written.answer.host written.fileset written.number refusal
change_act _ written = Do written.answer.host written.number written.answer.call

-- what a give-back brings is given
abbrev pub give_act : Cause → HostId → Fid → Option ℕ → Act
give_act cause host fid given = Give host (number_in cause) fid (pieces_in cause) given

-- what is applied takes these acts
abbrev pub acts_of : Cause → List Applied → List Act
acts_of cause [] = []
acts_of cause (Done written ∷ applied) = change_act written.answer.reply written ∷ acts_of cause applied
acts_of cause (Stored host fid spans given ∷ applied) = give_act cause host fid given ∷ acts_of cause applied
acts_of cause (Replied answer ∷ applied) = acts_of cause applied
acts_of cause (IsDown host ∷ applied) = acts_of cause applied
acts_of cause (IsMoved move ∷ applied) = acts_of cause applied
acts_of cause (Wants wanted ∷ applied) = acts_of cause applied

-- whether an act changes more than what is known of epochs and hosts
abbrev pub is_of_filesets : Act → Bool
is_of_filesets Epoch = false
is_of_filesets (Host host known) = false
is_of_filesets act = true

-- A Change that isn't refused isn't refused by what is kept just before it, and a fileset that it makes gets a name.
abbrev pub IsDecidedSo : Tree → Applied → Type 0
IsDecidedSo tree (Done written) = is_refusal written.answer.reply ≡ false
    → (is_refusal (answer_to tree written.answer.host written.answer.call).reply ≡ false)
    × HasName written.answer.call
IsDecidedSo tree _ = Unit {0}

abbrev pub AreDecidedSo : Cause → Tree → List Applied → Type 0
AreDecidedSo cause tree [] = Unit {0}
AreDecidedSo cause tree (x ∷ applied) = IsDecidedSo tree x × AreDecidedSo cause (filesets_after cause tree x) applied

-- In a step a store does some acts: it may be given each, and does it now. Beside acts that tell of epochs and hosts
-- these are those that what is applied takes, in their order. The pieces of a give-back rise, as they do in each sound
-- message.
pub record Fits (cause : Cause) (applied : List Applied) (acts : List Act) (tree : Tree) (state : StoreState)
    : Type 0 where
  pub rise : PiecesRise (pieces_in cause)
  pub decided : AreDecidedSo cause tree applied
  pub takes : filter is_of_filesets acts ≡ acts_of cause applied
  pub acts_are : Each (IsAct state.roster state.server) acts
  pub fresh : Each (λ done. done.fresh ≡ true) (dones_of state acts)

-- A store that stands for what its server keeps does so after such acts.
abbrev pub StepsAreKept : Type 0
StepsAreKept =
    (cause : Cause) (applied : List Applied) (acts : List Act) (tree : Tree) (state : StoreState)
    → StandsFor tree state → Fits cause applied acts tree state
    → StandsFor (filesets_through cause applied tree) (state_after state acts)

-- the store after the acts of some steps, those of the newest step first
abbrev pub store_after : StoreState → List (List Act) → StoreState
store_after state [] = state
store_after state (acts ∷ given) = state_after (store_after state given) acts

-- those of each step fit it
abbrev pub PastFits : Tree → StoreState → List Step → List (List Act) → Type 0
PastFits start state [] [] = Unit {0}
PastFits start state (s ∷ past) (acts ∷ given) =
    PastFits start state past given
    × Fits s.cause s.applied acts (filesets_kept start state.server past) (store_after state given)
PastFits start state _ _ = ⊥

-- A store that keeps its part of the start tree stands for what its server keeps after all its steps.
abbrev pub StoresStand : Type 0
StoresStand =
    (start : Tree) (state : StoreState) (past : List Step) (given : List (List Act)) → IsKept start → start.away ≡ []
    → KeepsOf start state → PastFits start state past given
    → StandsFor (filesets_kept start state.server past) (store_after state given)

-- So once a run is ended, a store that kept its part of the tree from which the run started keeps its part of the tree
-- that the history of the run makes.
abbrev pub StoresEnd : Type 0
StoresEnd =
    (script : Script) (journal : Journal) (run : IsRun script journal) → IsEnded script journal
    → (state : StoreState) (given : List (List Act)) → KeepsOf run.start state
    → PastFits run.start state (steps_of_server state.server (past_of journal)) given
    → KeepsOf (tree_at run.start (past_of journal)) (store_after state given)

-- the store once a run has begun in it: what it kept of requests is forgotten
abbrev pub begun : StoreState → StoreState
begun state = (act_done state Boot).state

-- What is said above holds of a store in which the run begins, whose steps begin with none of what it kept of requests:
-- it stands for what its server keeps after all its steps, and at the end it keeps its part of the tree.
pub record BegunStoresEnd : Type 0 where
  pub new : (state : StoreState) (id : FilesetId) (host : HostId) (number : ℕ) → 1 ≤ number
      → IsNewChange (begun state) id host number × IsNewGive (begun state) id host number
  pub stand : (start : Tree) (state : StoreState) (past : List Step) (given : List (List Act)) → IsKept start
      → start.away ≡ [] → KeepsOf start state → PastFits start (begun state) past given
      → StandsFor (filesets_kept start state.server past) (store_after (begun state) given)
  pub end : (script : Script) (journal : Journal) (run : IsRun script journal) → IsEnded script journal
      → (state : StoreState) (given : List (List Act)) → KeepsOf run.start state
      → PastFits run.start (begun state) (steps_of_server state.server (past_of journal)) given
      → KeepsOf (tree_at run.start (past_of journal)) (store_after (begun state) given)
