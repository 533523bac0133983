-- What acts leave of a store's record that a disk can have.
use Rattle.std.specs.Prelude.{◌≤◌, ℕ, length}
use Rattle.base_types.specs.declared.ids.ServerId.{ServerId}
use Rattle.base_types.specs.declared.limits.TheConstants.{SERVERS_MAX}
use Rattle.tree_calls.specs.declared.roster.Roster.{Roster}
use Rattle.store_acts.specs.Acts.{act_done}
use Rattle.store_acts.specs.Sound.{Fits, IsAct}
use Rattle.store_acts.specs.declared.act.Act.{Act}
use Rattle.store_state.specs.State.{new_state}
use Rattle.store_state.specs.declared.state.StoreState.{StoreState}
use Rattle.store_records.specs.Stored.{IsStorable}

-- acts that fit leave a record that a disk can have
abbrev pub ActsKeepStorable : Type 0
ActsKeepStorable = (state : StoreState) (act : Act) → IsStorable state → IsAct state.roster state.server act
    → Fits state act → IsStorable (act_done state act).state

-- and a new store has one
abbrev pub NewIsStorable : Type 0
NewIsStorable = (server : ServerId) (capacity : ℕ) (roster : Roster) → 1 ≤ server.0 → server.0 ≤ SERVERS_MAX
    → length roster.capacity ≤ SERVERS_MAX → IsStorable (new_state server capacity roster)
