-- A store that does acts, one after the other.
use Rattle.std.proofs.Common.{◌≡◌, ℕ, Bool, true, false, List, [], ◌∷◌, ◌++◌, Option, Some, None, refl, sym, ap, ◌∙◌, subst}
use Rattle.std.specs.Prelude.{if◌then◌else◌, option_and_then}
use Rattle.base_types.specs.declared.ids.FilesetId.{FilesetId}
use Rattle.base_types.specs.declared.ids.HostId.{HostId}
use Rattle.tree_calls.specs.declared.reply.Reply.TheVariants.{Ok as Accepted}
use Rattle.tree_calls.specs.declared.ship.Record.{Record}
use Rattle.tree_answers.specs.declared.tree.Tree.{Tree}
use Rattle.message_types.specs.Soundness.{Each}
use Rattle.store_acts.specs.Acts.{act_done, dones_of, state_after}
use Rattle.store_acts.specs.Sound.{AllFit, Fits, IsAct, KeepsLimits}
use Rattle.store_acts.specs.declared.act.Act.{Act}
use Rattle.store_acts.proofs.Next.{act_next}
use Rattle.store_state.specs.Outcomes.{now_done}
use Rattle.store_state.specs.State.{held_so, is_gone, is_of, is_server, records_of, slot_so, unless_gone}
use Rattle.store_state.specs.declared.done.Done.{Done}
use Rattle.store_state.specs.declared.state.Holding.{Holding}
use Rattle.store_state.specs.declared.state.StoreState.{StoreState}
use Rattle.store_laws.specs.Calls.{DoesKeep}
use Rattle.store_laws.specs.TreeKeeping.{KeepsOf}
use Rattle.store_laws.specs.Acts.{act_if}
use Rattle.store_laws.specs.HistoryLaws.{AreBelow, Does, IsBehind}

-- a store does acts, and its server and roster stay
pub record Goes (later : HostId → ℕ) (tree : Tree) (state : StoreState) (acts : List Act) : Type 0 where
  pub does : Does later tree state acts
  pub server : (state_after state acts).server ≡ state.server
  pub roster : (state_after state acts).roster ≡ state.roster

pub each_append : {X : Type 0} (P : X → Type 0) (xs ys : List X) → Each P xs → Each P ys → Each P (xs ++ ys)
each_append P [] ys h k = k
each_append P (x ∷ xs) ys h k = (h.0, each_append P xs ys h.1 k)

state_append : (state : StoreState) (xs ys : List Act) →
    state_after state (xs ++ ys) ≡ state_after (state_after state xs) ys
state_append state [] ys = refl
state_append state (x ∷ xs) ys = state_append (act_done state x).state xs ys

fit_append : (state : StoreState) (xs ys : List Act) → AllFit state xs → AllFit (state_after state xs) ys →
    AllFit state (xs ++ ys)
fit_append state [] ys h k = k
fit_append state (x ∷ xs) ys h k = (h.0, fit_append (act_done state x).state xs ys h.1 k)

abbrev IsNow : Done → Type 0
IsNow done = done ≡ now_done Accepted

done_append : (state : StoreState) (xs ys : List Act) → Each IsNow (dones_of state xs) →
    Each IsNow (dones_of (state_after state xs) ys) → Each IsNow (dones_of state (xs ++ ys))
done_append state [] ys h k = k
done_append state (x ∷ xs) ys h k = (h.0, done_append (act_done state x).state xs ys h.1 k)

pub goes_then : (middle later : HostId → ℕ) (old new : Tree) (state : StoreState) (xs ys : List Act) →
    Goes middle old state xs → Goes later new (state_after state xs) ys → Goes later new state (xs ++ ys)
goes_then middle later old new state xs ys h k =
    let same = state_append state xs ys in
    record {
      does = record {
        keeps = subst (KeepsOf new) (sym same) k.does.keeps;
        each =
            each_append (IsAct state.roster state.server) xs ys h.does.each
            (subst (λ r. Each (IsAct r state.server) ys) h.roster
            (subst (λ s. Each (IsAct (state_after state xs).roster s) ys) h.server k.does.each));
        fit = fit_append state xs ys h.does.fit k.does.fit;
        done = done_append state xs ys h.does.done k.does.done;
        behind = subst (IsBehind later) (sym same) k.does.behind;
      };
      server = ap (λ (s : StoreState). s.server) same ∙ k.server ∙ h.server;
      roster = ap (λ (s : StoreState). s.roster) same ∙ k.roster ∙ h.roster;
    }

pub goes_none : (later : HostId → ℕ) (tree : Tree) (state : StoreState) → KeepsOf tree state → IsBehind later state →
    Goes later tree state []
goes_none later tree state k h =
    record { does = record { keeps = k; each = tt; fit = tt; done = tt; behind = h }; server = refl; roster = refl }

pub goes_one : (later : HostId → ℕ) (tree : Tree) (state : StoreState) (act : Act) → KeepsLimits state →
    DoesKeep tree state act → IsAct state.roster state.server act → Fits state act →
    IsBehind later (act_done state act).state → Goes later tree state (act ∷ [])
goes_one later tree state act limits d k f h =
    let next = act_next state act limits k in
    record {
      does = record { keeps = d.keeps; each = (k, tt); fit = (f, tt); done = (d.done, tt); behind = h };
      server = next.server;
      roster = next.roster;
    }

pub goes_if : (later : HostId → ℕ) (tree : Tree) (state : StoreState) (act : Act) (b : Bool) →
    (b ≡ true → Goes later tree state (act ∷ [])) → (b ≡ false → Goes later tree state []) →
    Goes later tree state (act_if b act)
goes_if later tree state act true held other = held refl
goes_if later tree state act false held other = other refl

-- what is kept of requests under an id
pub behind_records : (next : HostId → ℕ) (state : StoreState) (id : FilesetId) (records : List Record) →
    IsBehind next state → records_of state id ≡ Some records → AreBelow next records
behind_records next state id records h = by (is_server id)
  where
    kept : (gone : Bool) (holding : Holding) → AreBelow next holding.records →
        (if gone then None else Some holding.records) ≡ Some records → AreBelow next records
    kept true holding low e = absurd (cc)
    kept false holding low e = let same : holding.records ≡ records = cc in subst (AreBelow next) same low

    found : (holding : Option Holding) → held_so (is_of id) state.slots ≡ holding →
        option_and_then unless_gone holding ≡ Some records → AreBelow next records
    found None f e = absurd (cc)
    found (Some holding) f e =
        kept (is_gone holding.stay) holding (h.held (slot_so (is_of id) state.slots) holding f) e

    by : (b : Bool) → (if b then Some state.records else option_and_then unless_gone (held_so (is_of id) state.slots))
        ≡ Some records → AreBelow next records
    by true e = let same : state.records ≡ records = cc in subst (AreBelow next) same h.own
    by false e = found (held_so (is_of id) state.slots) refl e
