-- What each act makes of a store, and answers.
use Rattle.std.specs.Prelude.{ℕ, ◌+◌, List, [], ◌∷◌, map, slice_set}
use Rattle.std.specs.Option.{option_map, option_map_or}
use Rattle.base_types.specs.declared.ids.FilesetId.{FilesetId}
use Rattle.base_types.specs.declared.ids.HostId.{HostId}
use Rattle.tree_calls.specs.declared.call.Call.{Call}
use Rattle.tree_calls.specs.declared.reply.Refusal.{Refusal}
use Rattle.tree_calls.specs.declared.reply.Refusal.TheVariants.{NoFileset}
use Rattle.tree_calls.specs.declared.reply.Reply.TheVariants.{Ok as Accepted, Refused}
use Rattle.store_acts.specs.declared.act.Act.{Act}
use Rattle.store_acts.specs.declared.act.Act.TheVariants.{
  Boot,
  Epoch,
  Host,
  Do,
  Refuse,
  Give,
  Leave,
  Back,
  Left,
  Settle,
  Part,
}
use Rattle.store_state.specs.declared.done.Done.{Done}
use Rattle.store_state.specs.declared.state.HostState.TheVariants.{Unknown}
use Rattle.store_state.specs.declared.state.Holding.{Holding}
use Rattle.store_state.specs.declared.state.StoreState.{StoreState}
use Rattle.store_state.specs.State.{forgotten, no_ship, with_record}
use Rattle.store_state.specs.Outcomes.{Outcome, fresh, stale, decided, decided_once, change_decided}
use Rattle.store_state.specs.Rows.{answer_to, numbered_id, numbered_name}
use Rattle.store_state.specs.Giving.{give_outcome}
use Rattle.store_acts.specs.Moving.{leave_outcome, back_outcome, left_outcome, settle_outcome, part_outcome}

-- a holding without what earlier runs requested
abbrev pub held_booted : Holding → Holding
held_booted holding = record holding { records = forgotten holding.records }

-- Boot: the epoch rises; hosts, numbers of requests and ships taken are forgotten
abbrev pub booted : StoreState → StoreState
booted state = record state {
  slots = map (option_map held_booted) state.slots;
  records = forgotten state.records;
  hosts = map (λ known. Unknown) state.hosts;
  epoch = state.epoch + 1;
  taken = map (λ ship. no_ship) state.taken;
}

-- Do: a call is decided once under its number; where its fileset isn't here, no number counts
unfoldable pub do_outcome : StoreState → HostId → ℕ → Call → Outcome
do_outcome state host number call =
    option_map_or (λ id. decided_once state id host number (decided id host number (answer_to state host call)))
    (numbered_id state (numbered_name call)) (stale (Refused NoFileset) state)

-- Refuse: a call is refused once under its number
unfoldable pub refuse_outcome : StoreState → HostId → ℕ → FilesetId → Refusal → Outcome
refuse_outcome state host number id refusal =
    decided_once state id host number (
    fresh (Refused refusal) (with_record state id host (change_decided number (Refused refusal))))

-- what one act makes of a store, and answers
unfoldable pub act_done : StoreState → Act → Outcome
act_done state Boot = fresh Accepted (booted state)
act_done state Epoch = fresh Accepted (record state { epoch = state.epoch + 1 })
act_done state (Host host known) = fresh Accepted (record state { hosts = slice_set state.hosts host.0 known })
act_done state (Do host number call) = do_outcome state host number call
act_done state (Refuse host id number refusal) = refuse_outcome state host number id refusal
act_done state (Give host number fid pieces given) = give_outcome state host number fid pieces given
act_done state (Leave id to) = leave_outcome state id to
act_done state (Back host number id refusal) = back_outcome state host number id refusal
act_done state (Left id) = left_outcome state id
act_done state (Settle id) = settle_outcome state id
act_done state (Part from ship id moves at part) = part_outcome state from ship id moves at part

-- what some acts made, one after the other
abbrev pub state_after : StoreState → List Act → StoreState
state_after state [] = state
state_after state (act ∷ acts) = state_after (act_done state act).state acts

-- and answered
abbrev pub dones_of : StoreState → List Act → List Done
dones_of state [] = []
dones_of state (act ∷ acts) = (act_done state act).done ∷ dones_of (act_done state act).state acts
