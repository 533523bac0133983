-- What the store keeps once a Change was written down as refused.
use Rattle.std.proofs.Common.{◌≡◌, ◌<◌, ◌≤◌, List, [], ◌∷◌, ◌++◌, sym, ap, subst}
use Rattle.base_types.specs.declared.ids.FilesetId.{FilesetId}
use Rattle.base_types.specs.declared.ids.HostId.{HostId}
use Rattle.base_types.specs.declared.limits.TheConstants.{HOSTS_MAX}
use Rattle.tree_answers.specs.declared.tree.Tree.{Tree}
use Rattle.tree_calls.specs.declared.reply.Refusal.{Refusal}
use Rattle.tree_calls.specs.declared.reply.Reply.TheVariants.{Refused}
use Rattle.message_types.specs.Soundness.{IsHost}
use Rattle.run_rules.specs.Kept.{is_refusal}
use Rattle.run_rules.specs.declared.applied.Applied.{Applied}
use Rattle.run_rules.specs.declared.applied.Applied.TheVariants.{Done}
use Rattle.run_rules.specs.declared.applied.Written.{Written}
use Rattle.run_rules.specs.declared.step.Cause.{Cause}
use Rattle.store_acts.specs.Acts.{act_done}
use Rattle.store_acts.specs.Sound.{KeepsLimits}
use Rattle.store_state.specs.Laws.{told_right}
use Rattle.store_state.specs.declared.state.StoreState.{StoreState}
use Rattle.server_decides.specs.Acting.{KeepsSo}
use Rattle.server_decides.proofs.Acting.{drafts_stand}
use Rattle.server_decides.proofs.Repeating.{acts_are_steady}
use Rattle.server_decides.specs.Acts.{IsRepeatable, next_number, refusing}

-- the store may be told twice of a refusal whose right is one
pub refusal_again : (st : StoreState) (host : HostId) (id : FilesetId) (refusal : Refusal) → KeepsLimits st
    → host.0 ≤ HOSTS_MAX → told_right refusal < 64 → IsRepeatable st (refusing st host id refusal)
refusal_again st host id refusal limits few right =
    let s = acts_are_steady.refused st host (next_number st host id) id refusal limits few right in record {
      fits = tt;
      fits_again = tt;
      state_same = s.state_same;
      reply_same = s.reply_same;
    }

pub refused_stored : (cause : Cause) (tree : Tree) (applied : List Applied) (st next : StoreState) (host : HostId)
    (id : FilesetId) (refusal : Refusal) (v : Written) → KeepsSo cause tree applied st → IsHost st.roster host
    → v.answer.reply ≡ Refused refusal → IsRepeatable st (refusing st host id refusal)
    → (IsRepeatable st (refusing st host id refusal) → next ≡ (act_done st (refusing st host id refusal)).state)
    → KeepsSo cause tree (applied ++ Done v ∷ []) next
refused_stored cause tree applied st next host id refusal v keeps known reply again stored =
    drafts_stand.idle cause tree applied next (Done v) (ap is_refusal reply)
    (subst (KeepsSo cause tree applied) (sym (stored again))
    (drafts_stand.refused cause tree applied st host id (next_number st host id) refusal keeps known))
