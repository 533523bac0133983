-- What acts leave of a store's tables.
use Rattle.std.specs.Prelude.{◌≡◌, false}
use Rattle.store_acts.specs.Acts.{act_done}
use Rattle.store_acts.specs.Sound.{IsAct}
use Rattle.store_acts.specs.declared.act.Act.{Act}
use Rattle.store_state.specs.declared.state.StoreState.{StoreState}
use Rattle.disk_acts.specs.Records.{HasTables}

-- acts keep the sizes of a store's tables
abbrev pub ActsKeepTables : Type 0
ActsKeepTables = (state : StoreState) (act : Act) → HasTables state → IsAct state.roster state.server act
    → HasTables (act_done state act).state

-- and an act that isn't done now leaves all as it is
abbrev pub StaleActsChangeNothing : Type 0
StaleActsChangeNothing = (state : StoreState) (act : Act) → (act_done state act).done.fresh ≡ false
    → (act_done state act).state ≡ state
