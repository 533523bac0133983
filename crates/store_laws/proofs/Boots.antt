-- A store that keeps its part of a tree, when a run begins and while who is there changes.
use Rattle.std.proofs.Common.{◌≡◌, ℕ, zero, suc, ◌-◌, ◌≤◌, ◌<◌, ◌||◌, Bool, true, false, cond, List, [], ◌∷◌, map, subst, Option, Some, None, refl, sym, ap, ◌∙◌, arith, rules}
use Rattle.std.specs.Prelude.{slice_get, if◌then◌else◌, option_and_then, unwrap_or}
use Rattle.std.specs.List.{find}
use Rattle.std.specs.Option.{option_map}
use Rattle.base_types.specs.declared.ids.FilesetId.{FilesetId}
use Rattle.base_types.specs.declared.ids.HostId.{HostId}
use Rattle.base_types.specs.declared.ids.ServerId.{ServerId}
use Rattle.tree_calls.specs.declared.ship.Record.{Record}
use Rattle.tree_answers.specs.declared.tree.Tree.{Tree}
use Rattle.store_records.proofs.Acts.{acts_keep_storable}
use Rattle.store_laws.specs.Boots.{BootsAreKept}
use Rattle.store_laws.specs.HistoryLaws.{AreBelow, IsBehind}
use Rattle.store_acts.specs.Acts.{act_done, held_booted, booted}
use Rattle.store_acts.specs.Moving.{taken_from}
use Rattle.store_acts.specs.Sound.{IsAct}
use Rattle.store_acts.specs.declared.act.Act.TheVariants.{Boot, Epoch, Host}
use Rattle.store_state.specs.State.{forgotten, held_at, held_so, is_here, is_gone, is_of, is_server, is_used_so, no_record, no_ship, record_of, records_of, unless_gone}
use Rattle.store_state.specs.declared.state.Holding.{Holding}
use Rattle.store_state.specs.declared.state.HostState.{HostState}
use Rattle.store_state.specs.declared.state.StoreState.{StoreState}
use Rattle.store_state.specs.declared.state.TakenShip.{TakenShip}
use Rattle.store_laws.proofs.Slots.{Table, found_is}
use Rattle.store_laws.specs.Calls.{DoesKeep, IsNewChange}
use Rattle.store_laws.specs.KeptGives.{IsNewGive}
use Rattle.store_laws.specs.TreeKeeping.{KeepsOf, if_here, if_gone}

-- what is found once a run has begun
boot_found : (id : FilesetId) (slots : Table) → option_and_then (λ slot. slot) (find (is_used_so (is_of id)) (map (option_map held_booted) slots))
    ≡ option_map held_booted (option_and_then (λ slot. slot) (find (is_used_so (is_of id)) slots))
boot_found id [] = refl
boot_found id (None ∷ slots) = boot_found id slots
boot_found id (Some holding ∷ slots) = choice (is_of id holding) (boot_found id slots)
  where
    choice : (b : Bool) → option_and_then (λ slot. slot) (find (is_used_so (is_of id)) (map (option_map held_booted) slots)) ≡ option_map held_booted (option_and_then (λ slot. slot) (find (is_used_so (is_of id)) slots))
        → option_and_then (λ slot. slot) (cond b (Some (Some (held_booted holding))) (find (is_used_so (is_of id)) (map (option_map held_booted) slots)))
        ≡ option_map held_booted (option_and_then (λ slot. slot) (cond b (Some (Some holding)) (find (is_used_so (is_of id)) slots)))
    choice true rest = refl
    choice false rest = rest

boot_held : (id : FilesetId) (slots : Table) → held_so (is_of id) (map (option_map held_booted) slots) ≡ option_map held_booted (held_so (is_of id) slots)
boot_held id slots = found_is (is_of id) (map (option_map held_booted) slots) ∙ boot_found id slots ∙ sym (ap (option_map held_booted) (found_is (is_of id) slots))

here_same : (o : Option Holding) → option_and_then if_here (option_map held_booted o) ≡ option_and_then if_here o
here_same None = refl
here_same (Some holding) = refl

gone_same : (server : ServerId) (o : Option Holding) → option_and_then (if_gone server) (option_map held_booted o) ≡ option_and_then (if_gone server) o
gone_same server None = refl
gone_same server (Some holding) = refl

-- what is held was held before
was_held : (id : FilesetId) (slots : Table) (holding : Holding) → held_so (is_of id) (map (option_map held_booted) slots) ≡ Some holding → (old : Holding) × (held_so (is_of id) slots ≡ Some old) × (holding ≡ held_booted old)
was_held id slots holding e = choice (held_so (is_of id) slots) refl (sym (boot_held id slots) ∙ e)
  where
    choice : (o : Option Holding) → held_so (is_of id) slots ≡ o → option_map held_booted o ≡ Some holding → (old : Holding) × (held_so (is_of id) slots ≡ Some old) × (holding ≡ held_booted old)
    choice None k h = absurd (search (rules, h))
    choice (Some old) k h = let same : held_booted old ≡ holding = cc in (old, k, sym same)

boots : (tree : Tree) (state : StoreState) → KeepsOf tree state → KeepsOf tree (act_done state Boot).state
unfolding act_done
boots tree state k = record {
  storable = acts_keep_storable state Boot k.storable tt tt;
  roster = k.roster;
  room = k.room;
  filesets = λ id. ap (option_and_then if_here) (boot_held id state.slots) ∙ here_same (held_so (is_of id) state.slots) ∙ k.filesets id;
  records = λ id.
      ap (option_and_then (if_gone state.server)) (boot_held id state.slots) ∙ gone_same state.server (held_so (is_of id) state.slots) ∙ k.records id;
  still = λ id holding e.
      let w = was_held id state.slots holding e in ap (λ one. is_here one.stay || is_gone one.stay) w.2 ∙ k.still id w.0 w.1;
  older = λ id holding fileset e gone there.
      let w = was_held id state.slots holding e in
      let less = k.older id w.0 fileset w.1 (ap (λ one. is_gone one.stay) (sym w.2) ∙ gone) there in
      let same : holding.fileset.moves ≡ w.0.fileset.moves = ap (λ one. one.fileset.moves) w.2 in
      omega (arith, less, same);
}

boot_does : (tree : Tree) (state : StoreState) → KeepsOf tree state → DoesKeep tree state Boot
unfolding act_done
boot_does tree state k = record { done = refl; keeps = boots tree state k }

epoch_does : (tree : Tree) (state : StoreState) → KeepsOf tree state → DoesKeep tree state Epoch
unfolding act_done
epoch_does tree state k = record {
  done = refl;
  keeps = record {
    storable = acts_keep_storable state Epoch k.storable tt tt;
    roster = k.roster;
    room = k.room;
    filesets = k.filesets;
    records = k.records;
    still = k.still;
    older = k.older;
  };
}

host_does : (tree : Tree) (state : StoreState) (host : HostId) (known : HostState) → KeepsOf tree state → IsAct state.roster state.server (Host host known) → DoesKeep tree state (Host host known)
unfolding act_done
host_does tree state host known k may = record {
  done = refl;
  keeps = record {
    storable = acts_keep_storable state (Host host known) k.storable may tt;
    roster = k.roster;
    room = k.room;
    filesets = k.filesets;
    records = k.records;
    still = k.still;
    older = k.older;
  };
}

-- what was requested is forgotten
forgotten_all : (records : List Record) (at : ℕ) → unwrap_or (slice_get (forgotten records) at) no_record ≡ no_record
forgotten_all [] at = refl
forgotten_all (x ∷ records) zero = refl
forgotten_all (x ∷ records) (suc at) = forgotten_all records at

boot_records : (state : StoreState) (id : FilesetId) (host : HostId) (records : List Record) → records_of (booted state) id ≡ Some records → record_of records host ≡ no_record
boot_records state id host records e = choice (is_server id) e
  where
    same : (old : List Record) → Some (forgotten old) ≡ Some records → record_of records host ≡ no_record
    same old k = let is : forgotten old ≡ records = cc in ap (λ those. record_of those host) (sym is) ∙ forgotten_all old host.0

    unless : (old : Holding) (b : Bool) → (if b then None else Some (forgotten old.records)) ≡ Some records → record_of records host ≡ no_record
    unless old true k = absurd (search (rules, k))
    unless old false k = same old.records k

    found : (o : Option Holding) → option_and_then unless_gone (option_map held_booted o) ≡ Some records → record_of records host ≡ no_record
    found None k = absurd (search (rules, k))
    found (Some old) k = unless old (is_gone old.stay) k

    choice : (b : Bool) → (if b then Some (forgotten state.records) else option_and_then unless_gone (held_so (is_of id) (booted state).slots)) ≡ Some records → record_of records host ≡ no_record
    choice true k = same state.records k
    choice false k = found (held_so (is_of id) state.slots) (sym (ap (option_and_then unless_gone) (boot_held id state.slots)) ∙ k)

changes_new : (state : StoreState) (id : FilesetId) (host : HostId) (number : ℕ) → 1 ≤ number → IsNewChange (act_done state Boot).state id host number
unfolding act_done
changes_new state id host number least records e =
    let none : (record_of records host).change ≡ 0 = ap (λ kept. kept.change) (boot_records state id host records e) in omega (arith, none, least)

gives_new : (state : StoreState) (id : FilesetId) (host : HostId) (number : ℕ) → 1 ≤ number → IsNewGive (act_done state Boot).state id host number
unfolding act_done
gives_new state id host number least records e =
    let none : (record_of records host).give ≡ 0 = ap (λ kept. kept.give) (boot_records state id host records e) in omega (arith, none, least)

all_below : (records : List Record) → AreBelow (λ host. 1) (forgotten records)
all_below records = λ host. subst (λ (r : Record). (r.change < 1) × (r.give < 1)) (sym (forgotten_all records host.0))
    (omega arith, omega arith)

held_below : (slots : List (Option Holding)) (at : ℕ) (holding : Holding) →
    held_at (map (option_map held_booted) slots) at ≡ Some holding → AreBelow (λ host. 1) holding.records
held_below [] at holding e = absurd (cc)
held_below (None ∷ slots) zero holding e = absurd (cc)
held_below (Some x ∷ slots) zero holding e =
    let same : held_booted x ≡ holding = cc in
    subst (λ (h : Holding). AreBelow (λ host. 1) h.records) same (all_below x.records)
held_below (slot ∷ slots) (suc at) holding e = held_below slots at holding e

behind_so : (state : StoreState) → IsBehind (λ host. 1) (act_done state Boot).state
unfolding act_done
behind_so state = record { own = all_below state.records; held = held_below state.slots }

-- and so are the ships that were taken
ships_forgotten : (taken : List TakenShip) (at : ℕ) → unwrap_or (slice_get (map (λ ship. no_ship) taken) at) no_ship ≡ no_ship
ships_forgotten [] at = refl
ships_forgotten (x ∷ taken) zero = refl
ships_forgotten (x ∷ taken) (suc at) = ships_forgotten taken at

ships_new : (state : StoreState) (from : ServerId) (ship : ℕ) → 1 ≤ ship → (taken_from (act_done state Boot).state from).ship < ship
unfolding act_done
ships_new state from ship least =
    let none : (taken_from (booted state) from).ship ≡ 0 = ap (λ taken. taken.ship) (ships_forgotten state.taken (from.0 - 1)) in omega (arith, none, least)

pub boots_are_kept : BootsAreKept
boots_are_kept =
    record { boot = boot_does; behind = behind_so; epoch = epoch_does; host = host_does; changes = changes_new; gives = gives_new; ships = ships_new }
