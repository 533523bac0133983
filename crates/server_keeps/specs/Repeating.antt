-- An act that was done changes nothing when it is given once more, as where a disk failed.
use Rattle.std.specs.Prelude.{Option, ℕ, ◌<◌, ◌≡◌, ◌≤◌}
use Rattle.base_types.specs.declared.ids.Fid.{Fid}
use Rattle.base_types.specs.declared.ids.FilesetId.{FilesetId}
use Rattle.base_types.specs.declared.ids.HostId.{HostId}
use Rattle.base_types.specs.declared.limits.TheConstants.{HOSTS_MAX}
use Rattle.std.specs.Prelude.{List}
use Rattle.tree_calls.specs.declared.call.Call.{Call}
use Rattle.tree_calls.specs.declared.part.Piece.{Piece}
use Rattle.tree_calls.specs.declared.reply.Refusal.{Refusal}
use Rattle.tree_calls.specs.declared.ship.Record.{Record}
use Rattle.store_acts.specs.Acts.{act_done}
use Rattle.store_acts.specs.Sound.{KeepsLimits}
use Rattle.store_acts.specs.declared.act.Act.{Act}
use Rattle.store_acts.specs.declared.act.Act.TheVariants.{Do, Give, Refuse}
use Rattle.store_state.specs.Laws.{told_right}
use Rattle.store_state.specs.Outcomes.{change_decided}
use Rattle.store_state.specs.Replies.{kept_reply}
use Rattle.store_state.specs.Rows.{answer_to}
use Rattle.store_state.specs.declared.state.StoreState.{StoreState}

-- it leaves the same when it is given again, with the same reply
pub record IsSteady (state : StoreState) (act : Act) : Type 0 where
  pub state_same : (act_done (act_done state act).state act).state ≡ (act_done state act).state
  pub reply_same : (act_done (act_done state act).state act).done.reply ≡ (act_done state act).done.reply

-- So is each act that a host asks for under a number. The reply to a call is that which is kept of it, as one that is
-- accepted is, and a refusal whose right is below 64.
pub record ActsAreSteady : Type 0 where
  pub done : (state : StoreState) (host : HostId) (number : ℕ) (call : Call) → KeepsLimits state → host.0 ≤ HOSTS_MAX
      → ((kept : Record) → kept_reply (change_decided number (answer_to state host call).reply kept)
      ≡ (answer_to state host call).reply)
      → IsSteady state (Do host number call)
  pub refused : (state : StoreState) (host : HostId) (number : ℕ) (id : FilesetId) (refusal : Refusal)
      → KeepsLimits state → host.0 ≤ HOSTS_MAX → told_right refusal < 64
      → IsSteady state (Refuse host id number refusal)
  -- whatever its right, the state is the same
  pub refused_state : (state : StoreState) (host : HostId) (number : ℕ) (id : FilesetId) (refusal : Refusal)
      → KeepsLimits state → host.0 ≤ HOSTS_MAX
      → (act_done (act_done state (Refuse host id number refusal)).state (Refuse host id number refusal)).state
      ≡ (act_done state (Refuse host id number refusal)).state
  pub given : (state : StoreState) (host : HostId) (number : ℕ) (fid : Fid) (pieces : List Piece) (given : Option ℕ)
      → KeepsLimits state → host.0 ≤ HOSTS_MAX → IsSteady state (Give host number fid pieces given)
