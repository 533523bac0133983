-- Acts that a store does for the first time.
use Rattle.std.proofs.Common.{◌≡◌, ◌≤◌, ℕ, true, List, [], ◌∷◌, length, None, refl, sym, subst}
use Rattle.std.specs.Prelude.{IsTrue}
use Rattle.std.proofs.lemmas.Bool.{leb-true}
use Rattle.base_types.specs.declared.ids.HostId.{HostId}
use Rattle.base_types.specs.declared.ids.ServerId.{ServerId}
use Rattle.base_types.specs.declared.limits.TheConstants.{HOSTS_MAX}
use Rattle.tree_calls.specs.Limits.{keeps_limits}
use Rattle.tree_calls.specs.declared.entry.Entry.{Entry}
use Rattle.tree_calls.specs.declared.reply.Reply.TheVariants.{Ok as Accepted}
use Rattle.tree_calls.specs.declared.roster.Roster.{Roster}
use Rattle.tree_objects.proofs.Observed.{and_left, and_right}
use Rattle.tree_answers.specs.declared.tree.Tree.{Tree}
use Rattle.store_laws.specs.Acts.{acts_of}
use Rattle.store_laws.specs.HistoryLaws.{Happens, IsBehind}
use Rattle.store_laws.proofs.Whole.{histories_are_kept}
use Rattle.message_types.specs.Soundness.{Each}
use Rattle.store_acts.specs.Acts.{act_done, dones_of}
use Rattle.store_acts.specs.Sound.{AllFit}
use Rattle.store_acts.specs.declared.act.Act.{Act}
use Rattle.service_moves.specs.Again.{AreFresh, AreNew}
use Rattle.store_state.specs.Outcomes.{now_done}
use Rattle.store_state.specs.declared.done.Done.{Done}
use Rattle.store_state.specs.declared.state.StoreState.{StoreState}
use Rattle.store_laws.specs.TreeKeeping.{KeepsOf}
use Rattle.service_stores.proofs.Sound.{acts_numbered}

all_fresh : (acts : List Act) (state : StoreState) →
    Each (λ (done : Done). done ≡ now_done Accepted) (dones_of state acts) → AreFresh state acts
all_fresh [] state h = tt
all_fresh (act ∷ acts) state h = (
  subst (λ (done : Done). IsTrue done.fresh) (sym h.0) refl,
  all_fresh acts (act_done state act).state h.1,
)

few_hosts : (roster : Roster) → keeps_limits roster ≡ true → length roster.hosts ≤ HOSTS_MAX
few_hosts roster k =
    leb-true (length roster.hosts) HOSTS_MAX (and_right _ _ (and_left _ _ (and_left _ _ (and_left _ _ k))))

pub few_servers : (roster : Roster) → keeps_limits roster ≡ true → length roster.capacity ≤ 4
few_servers roster k =
    leb-true (length roster.capacity) 4
    (and_right _ _ (and_left _ _ (and_left _ _ (and_left _ _ (and_left _ _ k)))))

-- what it takes for a store to do the acts of a history
pub record MayDoAll (server : ServerId) (tree : Tree) (history : List Entry) (state : StoreState) : Type 0 where
  pub fit : AllFit state (acts_of server tree None history)
  pub new : AreNew state (acts_of server tree None history)

own_acts : (next : HostId → ℕ) (tree : Tree) (history : List Entry) (state : StoreState) → Happens next tree history →
    KeepsOf tree state → IsBehind next state → MayDoAll state.server tree history state
own_acts next tree history state h k b =
    let does = histories_are_kept next tree history state h k b in
    record {
      fit = does.fit;
      new = record {
        keeps = record {
          limits = k.storable.limits;
          hosts = subst (λ (r : Roster). length r.hosts ≤ HOSTS_MAX) (sym k.roster) (few_hosts tree.roster h.formed.roster);
          given = λ slot holding e. (k.storable.each slot holding e).id.given;
        };
        sound = does.each;
        numbered = acts_numbered state.server history tree None;
        fresh = all_fresh (acts_of state.server tree None history) state does.done;
      };
    }

pub may_do_all : (next : HostId → ℕ) (server : ServerId) (tree : Tree) (history : List Entry) (state : StoreState) →
    state.server ≡ server → Happens next tree history → KeepsOf tree state → IsBehind next state →
    MayDoAll server tree history state
may_do_all next server tree history state e h k b =
    subst (λ (s : ServerId). MayDoAll s tree history state) e (own_acts next tree history state h k b)
