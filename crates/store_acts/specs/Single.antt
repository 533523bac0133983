-- Each fact on the limits of a store has one proof at most, so that a store may hold it.
use Rattle.std.specs.Prelude.{◌≡◌, ◌≤◌, ◌<◌, ℕ, ◌+◌, List, [], ◌∷◌, length, Option, Some, None, IfSome, refl}
use denote.Struct.Props.{props}
use Rattle.base_types.specs.declared.ids.ServerId.{ServerId}
use Rattle.base_types.specs.declared.limits.TheConstants.{HOSTS_MAX, FILESETS_MAX, OBJECTS_MAX}
use Rattle.tree_calls.specs.declared.roster.Roster.{Roster}
use Rattle.tree_calls.specs.declared.ship.Record.{Record}
use Rattle.message_types.specs.Soundness.{Each, IsServer, IsKept}
use Rattle.store_state.specs.declared.state.Holding.{Holding}
use Rattle.store_state.specs.declared.state.Stay.{Stay}
use Rattle.store_state.specs.declared.state.Stay.TheVariants.{Writable, Clone, Leaving, Arriving, Gone}
use Rattle.store_state.specs.declared.state.StoreState.{StoreState}
use Rattle.store_acts.specs.Sound.{AreRecords, IsStay, IsHolding, KeepsLimits}

pub Each-prop : {X : Type 0} (P : X → Type 0) → ((x : X) → IsProp (P x)) → (xs : List X) → IsProp (Each P xs)
Each-prop P k [] x y = refl
Each-prop P k (z ∷ zs) x y = λ i. (k z x.0 y.0 i, Each-prop P k zs x.1 y.1 i)

pub IsKept-prop : (kept : Record) → IsProp (IsKept kept)
IsKept-prop kept x y =
    let code_prop : IsProp (kept.code ≤ 21) = hlevel props in
    let rights_prop : IsProp (kept.right < 64) = hlevel props in
    λ i. record { code = code_prop x.code y.code i; rights = rights_prop x.rights y.rights i }

pub AreRecords-prop : (records : List Record) → IsProp (AreRecords records)
AreRecords-prop records x y =
    let count_prop : IsProp (length records ≡ HOSTS_MAX + 1) = hlevel props in
    λ i. record { count = count_prop x.count y.count i; each = Each-prop IsKept IsKept-prop records x.each y.each i }

pub IsServer-prop : (roster : Roster) (server : ServerId) → IsProp (IsServer roster server)
IsServer-prop roster server x y =
    let first_prop : IsProp (1 ≤ server.0) = hlevel props in
    let last_prop : IsProp (server.0 ≤ length roster.capacity) = hlevel props in
    λ i. record { first = first_prop x.first y.first i; last = last_prop x.last y.last i }

pub IsStay-prop : (roster : Roster) (stay : Stay) → IsProp (IsStay roster stay)
IsStay-prop roster Writable x y = refl
IsStay-prop roster Clone x y = refl
IsStay-prop roster (Leaving to ship) x y = IsServer-prop roster to x y
IsStay-prop roster (Arriving from ship parts) x y = IsServer-prop roster from x y
IsStay-prop roster (Gone to) x y = IsServer-prop roster to x y

pub IsHolding-prop : (roster : Roster) (holding : Holding) → IsProp (IsHolding roster holding)
IsHolding-prop roster holding x y =
    let least_prop : IsProp (1 ≤ holding.fileset.objects) = hlevel props in
    let most_prop : IsProp (holding.fileset.objects ≤ OBJECTS_MAX) = hlevel props in
    λ i. record {
      stay = IsStay-prop roster holding.stay x.stay y.stay i;
      least = least_prop x.least y.least i;
      most = most_prop x.most y.most i;
      records = AreRecords-prop holding.records x.records y.records i;
    }

slot_prop : (roster : Roster) (slot : Option Holding) → IsProp (IfSome slot (IsHolding roster))
slot_prop roster None x y = refl
slot_prop roster (Some holding) x y = IsHolding-prop roster holding x y

pub KeepsLimits-prop : (state : StoreState) → IsProp (KeepsLimits state)
KeepsLimits-prop state x y =
    let table_prop : IsProp (length state.slots ≡ FILESETS_MAX) = hlevel props in
    λ i. record {
      table = table_prop x.table y.table i;
      records = AreRecords-prop state.records x.records y.records i;
      slots =
          Each-prop (λ slot. IfSome slot (IsHolding state.roster)) (slot_prop state.roster) state.slots x.slots y.slots
          i;
    }
