-- A machine works on where it answered.
use Rattle.std.proofs.Common.{◌≡◌, ◌∙◌, ℕ, List, [], Ok, is_some, subst, sym, true, arith}
use Rattle.base_types.specs.declared.ids.HostId.{HostId}
use Rattle.base_types.specs.declared.ids.ServerId.{ServerId}
use Rattle.tree_calls.specs.Rosters.{user_of}
use Rattle.tree_calls.specs.declared.roster.Roster.{Roster}
use Rattle.message_types.specs.Soundness.{Each, IsHost}
use Rattle.store_acts.specs.declared.act.Act.{Act}
use Rattle.store_memory.specs.MapStores.{kept_in, map_view}
use Rattle.store_memory.specs.Views.{IsSameStore, View}
use Rattle.store_memory.specs.declared.map_store.MapStore.{MapStore}
use Rattle.store_state.specs.declared.state.StoreState.{StoreState}
use Rattle.server_tables.specs.declared.pending.Pending.{Pending}
use Rattle.server_tables.specs.declared.tables.Tables.{Tables}
use Rattle.server_looks.specs.Keepers.{HasTried, IsFit}
use Rattle.server_looks.specs.declared.keeper.Keeper.{Keeper}
use Rattle.server_exporter.specs.Gathering.{AreGives}
use Rattle.server_exporter.specs.Machines.{IsNew}
use Rattle.server_exporter.specs.Serving.{CameSo, IsServed}
use Rattle.server_exporter.specs.declared.exporter.Exporter.{Exporter}
use Rattle.server_exporter_tests.specs.Serving.{HasTwo, IsKept, Works}
use Rattle.server_exporter_tests.specs.declared.machine.Machine.{Machine}
use Rattle.server_exporter_tests.proofs.Users.{users_known}

-- the store was tried, and answered
pub works_tried : {T : Type 0} (value : T) (x : Exporter) (old new : Keeper MapStore) (waiting : List Act)
    → HasTried (Ok value) (map_view old.store) (map_view new.store) new.left
    → IsServed x.tables (map_view new.store).state → AreGives (map_view new.store).state waiting
    → Works (record { exporter = x; keeper = new; waiting = waiting })
works_tried value x old new waiting tried served gives = record {
  served = served;
  gives = gives;
  fit = record { ready = tried.ready; mendable = tried.mendable; wear = tried.wear };
}

-- nothing waits
pub none_wait : (state : StoreState) (waiting : List Act) → waiting ≡ [] → AreGives state waiting
none_wait state waiting none =
    subst (λ (l : List Act). AreGives state l) (sym none) (record { few = omega arith; gives = tt; each = tt })

-- what waited was stored: the store is its tables' still
pub served_still : (x : Tables) (old new : View) → IsServed x old.state → IsSameStore old new → IsServed x new.state
served_still x old new s same = record {
  store = record { server = same.server ∙ s.store.server; roster = same.roster ∙ s.store.roster };
  users = s.users;
  counted = s.counted;
  asked = s.asked;
}

-- and may be asked
pub stored_kept : {T : Type 0} (value : T) (m : Machine) (new : Keeper MapStore) → Works m
    → HasTried (Ok value) (map_view m.keeper.store) (map_view new.store) new.left → IsKept m.exporter.tables new
stored_kept value m new works tried = record {
  of = (served_still m.exporter.tables (map_view m.keeper.store) (map_view new.store) works.served tried.same).store;
  fit = record { ready = tried.ready; mendable = tried.mendable; wear = tried.wear };
}

-- and was asked
pub kept_works : (x : Exporter) (state : StoreState) (new : Keeper MapStore) (waiting : List Act)
    → IsServed x.tables state → IsKept x.tables new → waiting ≡ []
    → Works (record { exporter = x; keeper = new; waiting = waiting })
kept_works x state new waiting served kept none = record {
  served = record { store = kept.of; users = served.users; counted = served.counted; asked = served.asked };
  gives = none_wait (map_view new.store).state waiting none;
  fit = kept.fit;
}

-- a new one
pub works_new : (x : Exporter) (k : Keeper MapStore) (waiting : List Act) (server : ServerId) (epoch : ℕ)
    (roster : Roster) → IsNew x server epoch roster → (kept_in k.store).server ≡ server
    → (kept_in k.store).roster ≡ roster → IsFit (map_view k.store) k.left → waiting ≡ [] → HasTwo roster
    → Works (record { exporter = x; keeper = k; waiting = waiting })
works_new x k waiting server epoch roster new s r fit none two = record {
  served = record {
    store = record { server = s ∙ sym new.server_is; roster = r ∙ sym new.roster_is };
    users = subst (λ (z : Roster). (host : HostId) → IsHost z host → is_some (user_of z host) ≡ true)
        (sym new.roster_is) (users_known roster two);
    counted = new.counted;
    asked = subst (Each (λ (p : Pending). CameSo x.tables.server x.tables.roster p.wanted)) (sym new.pending) tt;
  };
  gives = none_wait (map_view k.store).state waiting none;
  fit = fit;
}
