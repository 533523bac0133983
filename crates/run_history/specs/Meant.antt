-- What becomes of the Changes that a server writes down. Doings have the newest first.
use Rattle.std.specs.Prelude.{List, false, nat_le, true, ℕ, ◌≡◌}
use Rattle.base_types.specs.declared.ids.HostId.{HostId}
use Rattle.base_types.specs.declared.ids.Node.TheVariants.{Server}
use Rattle.base_types.specs.declared.ids.ServerId.{ServerId}
use Rattle.base_types.specs.declared.limits.TheConstants.{LABELS_MAX}
use Rattle.tree_calls.specs.declared.call.Call.{Call}
use Rattle.tree_calls.specs.declared.call.Call.TheVariants.{Lock, OpenFile}
use Rattle.need_host.specs.Questions.{is_change}
use Rattle.tree_answers.specs.Locks.{has_lock, lock_count}
use Rattle.tree_answers.specs.Opens.{has_open, open_count}
use Rattle.tree_answers.specs.Uses.{is_used}
use Rattle.tree_answers.specs.declared.tree.Tree.{Tree}
use Rattle.script_lines.specs.declared.script.Script.{Script}
use Rattle.need_laws.specs.Known.{IsAt}
use Rattle.token_types.specs.declared.token.Token.{Token}
use Rattle.run_rules.specs.Doings.{Doing, Pinned, after_cause, doings_of}
use Rattle.run_rules.specs.Kept.{filesets_kept, filesets_through, is_refusal}
use Rattle.run_rules.specs.Past.{Always}
use Rattle.run_rules.specs.Runs.{IsRun, firsts_of, past_of}
use Rattle.run_rules.specs.ServerDecides.{by_cause, decisions}
use Rattle.run_rules.specs.Steps.{steps_of_server}
use Rattle.run_history.specs.Changes.{AgreesKept, EachChange, IsLegalChange}
use Rattle.run_rules.specs.declared.journal.Journal.{Journal}
use Rattle.run_rules.specs.declared.applied.Written.{Written}
use Rattle.run_rules.specs.declared.step.Cause.{Cause}
use Rattle.run_rules.specs.declared.step.Step.{Step}

-- the label of a lock or an open is free in a tree, and its host may have one more
abbrev pub LabelIsFree : Tree → HostId → Call → Type 0
LabelIsFree tree_is host (Lock label place writing from len) =
    (has_lock tree_is.locks host label ≡ false) × (nat_le LABELS_MAX (lock_count tree_is.locks host) ≡ false)
LabelIsFree tree_is host (OpenFile label place kind) =
    (has_open tree_is.opens host label ≡ false) × (nat_le LABELS_MAX (open_count tree_is.opens host) ≡ false)
LabelIsFree tree_is host _ = Unit {0}

-- the file of each pinned token is in use
abbrev pub PinnedAreUsed : ServerId → List Doing → Tree → Type 0
PinnedAreUsed v past tree_is = (t : Token) → Pinned v past t → is_used tree_is.locks tree_is.opens t.fid ≡ true

-- A Change that is written down has a call that servers decide, about filesets of this server alone; or, where it only
-- enters a fileset or moves one, it is refused, and legally so in each tree that agrees.
pub data MeantSo (v : ServerId) (cause : Cause) (past : List Doing) (kept_is : Tree) (x : Written) : Type 0 where
  Decides : is_change x.answer.call ≡ true → IsAt v x.answer.call → MeantSo v cause past kept_is x
  Refuses : is_refusal x.answer.reply ≡ true
      → ((tree_is : Tree) → AgreesKept v past kept_is tree_is → LabelIsFree tree_is x.answer.host x.answer.call
      → PinnedAreUsed v past tree_is → IsLegalChange v cause kept_is x tree_is) → MeantSo v cause past kept_is x

abbrev pub DecidesMeant : Tree → (ServerId → ℕ) → List Step → Step → Type 0
DecidesMeant start firsts past s =
    (v : ServerId) → s.node ≡ Server v
    → EachChange (MeantSo v s.cause) s.cause
    (filesets_through s.cause (by_cause s.applied) (filesets_kept start v (steps_of_server v past)))
    (after_cause s.cause (doings_of (firsts v) v past)) (decisions s.applied)

abbrev pub ChangesAreMeant : Type 0
ChangesAreMeant =
    (script : Script) (journal : Journal) (run : IsRun script journal)
    → Always (DecidesMeant run.start (firsts_of journal)) (past_of journal)
