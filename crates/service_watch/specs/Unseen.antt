-- What is seen of a store of which nothing is known.
use Rattle.std.specs.Prelude.{false, [], None}
use Rattle.store_memory.specs.Views.{View}
use Rattle.store_state.specs.declared.state.StoreState.{StoreState}

abbrev pub no_state : StoreState
no_state = record {
  server = record { 0 = 0 };
  roster = record { users = []; hosts = []; capacity = [] };
  capacity = 0;
  next = 0;
  slots = [];
  records = [];
  hosts = [];
  epoch = 0;
  ship = 0;
  taken = [];
}

abbrev pub unseen : View
unseen = record {
  state = no_state;
  ready = ⊥;
  mendable = ⊥;
  wear = 0;
  faults = 0;
  last_failed = false;
  moment = 0;
  left_since = λ moment bytes. ⊥;
  found_on = λ bytes. None;
}
