-- Wants are served in the order in which they were made.
use Rattle.std.specs.Prelude.{IsTrue, List, ℕ, ◌∷◌, ◌≡◌}
use Rattle.base_types.specs.declared.ids.HostId.{HostId}
use Rattle.base_types.specs.declared.ids.ServerId.{ServerId}
use Rattle.tree_calls.specs.declared.reply.Refusal.{Refusal}
use Rattle.tree_calls.specs.declared.reply.Reply.{Reply}
use Rattle.tree_answers.specs.declared.tree.Tree.{Tree}
use Rattle.message_types.specs.declared.asking.Change.{Change as ChangeOf}
use Rattle.message_types.specs.declared.telling.Grant.{Grant as GrantOf}
use Rattle.token_types.specs.Conflicts.{wants_conflict}
use Rattle.run_rules.specs.Doings.{Doing}
use Rattle.run_rules.specs.Doings.Doing.{MakesWant}
use Rattle.run_rules.specs.ServerDecides.{DecidedSo, RefusedOn}
use Rattle.run_rules.specs.ServerMay.{GrantsSo}
use Rattle.run_rules.specs.Wants.{CanDecide, Decides, IsBehind, IsQueued, IsQueuedBefore, Unwants, asker}
use Rattle.run_rules.specs.declared.applied.Wanted.{Wanted}

pub record ServedInTurn : Type 0 where
  -- a want that is made while another waits, with which it conflicts, is behind that one, and not the other way round
  pub behind : (past : List Doing) (w v : Wanted) → IsQueued past w → (Unwants past (MakesWant v) w → ⊥)
      → IsTrue (wants_conflict (asker v) v.needs (asker w) w.needs) → IsBehind (MakesWant v ∷ past) v
  pub ahead : (past : List Doing) (w v : Wanted) → (v ≡ w → ⊥) → (IsQueuedBefore past v w → ⊥)
      → IsQueuedBefore (MakesWant v ∷ past) v w → ⊥
  pub alone : (past : List Doing) (w : Wanted) → ((v : Wanted) → IsQueuedBefore past v w → ⊥) → IsBehind past w → ⊥
  -- it stays there until the other is decided, and no longer
  pub until : (past : List Doing) (a : Doing) (w v : Wanted) → IsQueuedBefore past w v → (Unwants past a w → ⊥)
      → (Unwants past a v → ⊥) → IsQueuedBefore (a ∷ past) w v
  pub decided : (past : List Doing) (a : Doing) (w v : Wanted) → Decides a w.host w.request
      → IsQueuedBefore (a ∷ past) w v → ⊥
  -- meanwhile it could not be decided: it isn't granted, and a Change of it is written down only where the call table
  -- refuses it
  pub waits : (server : ServerId) (past : List Doing) (w : Wanted) → IsBehind past w → CanDecide server past w → ⊥
  pub granted : (server : ServerId) (tree : Tree) (past : List Doing) (h : HostId) (n : ℕ) (g : GrantOf)
      (k : GrantsSo server tree past h n g) → IsBehind past k.w → ⊥
  pub written : (server : ServerId) (tree : Tree) (past : List Doing) (w : Wanted) (c : ChangeOf) (reply : Reply)
      → DecidedSo server tree past w c reply → IsBehind past w → (refusal : Refusal) × RefusedOn tree w.host c refusal
