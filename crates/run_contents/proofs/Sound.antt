-- What nodes said is sound, and what servers took was said.
use Rattle.std.proofs.Common.{Bool, ◌==◌, if◌then◌else◌, ◌≡◌, ℕ, true, false, List, [], ◌∷◌, inl, inr, sym, ◌∙◌}
use Rattle.std.proofs.Common.{subst, refl}
use Rattle.std.proofs.lemmas.Bool.{false≢true}
use Rattle.base_types.specs.declared.ids.HostId.{HostId}
use Rattle.base_types.specs.declared.ids.Node.{Node}
use Rattle.base_types.specs.declared.ids.Node.TheVariants.{Host, Server}
use Rattle.base_types.specs.declared.ids.ServerId.{ServerId}
use Rattle.tree_calls.specs.Limits.{keeps_limit}
use Rattle.tree_calls.specs.declared.call.Call.{Call}
use Rattle.tree_calls.specs.declared.call.Call.TheVariants.{NewFileset, Create, MakeDir, Remove, Rename, Truncate}
use Rattle.tree_calls.specs.declared.call.Call.TheVariants.{SetAcl, CloneFileset, Lock, OpenFile, MoveFileset}
use Rattle.need_host.specs.Questions.{is_change}
use Rattle.tree_answers.specs.declared.tree.Tree.{Tree}
use Rattle.message_types.specs.Soundness.{IsBody, IsChange, IsDecided, IsSound}
use Rattle.message_types.specs.declared.asking.Change.{Change as ChangeOf}
use Rattle.message_types.specs.declared.message.Body.{Body}
use Rattle.message_types.specs.declared.message.Body.TheVariants.{Change}
use Rattle.message_types.specs.declared.message.Message.{Message}
use Rattle.script_lines.specs.declared.script.Script.{Script}
use Rattle.run_rules.specs.Messages.{Said}
use Rattle.run_rules.specs.Past.{In}
use Rattle.run_rules.specs.Runs.{StepsMeet}
use Rattle.run_rules.specs.Steps.{steps_of_host}
use Rattle.run_tokens.proofs.Words.{own_after}
use Rattle.run_rules.specs.declared.step.Step.{Step}

-- a sound message with a body
pub record Sound (script : Script) (v : ServerId) (b : Body) : Type 0 where
  pub message : Message
  pub sound : IsSound script.roster message
  pub server : message.server ≡ v
  pub body : message.body ≡ b

module _ (script : Script) (start : Tree) (firsts : ServerId → ℕ) (h : HostId) (v : ServerId) (e n : ℕ) (b : Body) where
  at_node : (k : Node) (s : Step) (A : List Step) → ((m : Message) → In m s.sent → IsSound script.roster m)
      → (Said A v e n b → Sound script v b) → Said (own_after h k s A) v e n b → Sound script v b
  at_node (Server k) s A sound old said = old said
  at_node (Host k) s A sound old said = go (k.0 == h.0) said
    where
      go : (t : Bool) → Said (if t then s ∷ A else A) v e n b → Sound script v b
      go false q = old q
      go true (inr q) = old q
      go true (inl (m, i, server, epoch, moves, body)) =
          record { message = m; sound = sound m i; server = server; body = body }

  pub said_sound : (past : List Step) → StepsMeet script start firsts past → Said (steps_of_host h past) v e n b
      → Sound script v b
  said_sound [] run said = elim said [ ]
  said_sound (s ∷ past) run said =
      at_node s.node s (steps_of_host h past) (λ m i. (run.1.3 m i).1) (said_sound past run.0) said

-- what a sound Change says
pub change_sound : (script : Script) (v : ServerId) (c : ChangeOf) → Sound script v (Change c)
    → (keeps_limit c.call ≡ true) × (c.enter ≡ false → is_change c.call ≡ true)
change_sound script v c k = (
  m.call.objects,
  λ e. elim m.decided [
    | inl enters ↦ absurd (false≢true (sym e ∙ enters))
    | inr decided ↦ decides c.call decided
  ],
)
  where
    m : IsChange script.roster k.message c
    m = subst (λ (b : Body). IsBody script.roster k.message b) k.body k.sound.body

    decides : (call : Call) → IsDecided k.message.server call → is_change call ≡ true
    decides (NewFileset at name objects owner) d = refl
    decides (Create place) d = refl
    decides (MakeDir place) d = refl
    decides (Remove place) d = refl
    decides (Rename from to) d = refl
    decides (Truncate place len) d = refl
    decides (SetAcl place which list) d = refl
    decides (CloneFileset at name new) d = refl
    decides (Lock label place writing from len) d = refl
    decides (OpenFile label place kind) d = refl
    decides (MoveFileset at name to) d = refl
    decides _ d = elim d [ ]
