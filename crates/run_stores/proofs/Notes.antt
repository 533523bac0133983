-- What is noted of a request changes nothing that a store keeps of a tree.
use Rattle.std.proofs.Common.{◌≡◌, ℕ, zero, suc, ◌<◌, ◌∷◌, [], Bool, true, false, ◌||◌, List, Option, Some, None, refl, sym, ap, ◌∙◌, subst}
use Rattle.std.specs.Prelude.{if◌then◌else◌}
use Rattle.std.specs.Option.{option_map}
use Rattle.base_types.specs.Lists.{changed_at}
use Rattle.base_types.specs.declared.ids.FilesetId.{FilesetId}
use Rattle.base_types.specs.declared.ids.HostId.{HostId}
use Rattle.base_types.specs.declared.ids.ServerId.{ServerId}
use Rattle.tree_calls.specs.declared.reply.Refusal.{Refusal}
use Rattle.tree_calls.specs.declared.reply.Reply.TheVariants.{Refused}
use Rattle.tree_calls.specs.declared.ship.Record.{Record}
use Rattle.tree_answers.specs.declared.tree.Tree.{Tree}
use Rattle.store_records.specs.Stored.{IsStorable}
use Rattle.store_records.proofs.Acts.{acts_keep_storable}
use Rattle.store_acts.specs.Acts.{act_done, refuse_outcome}
use Rattle.store_acts.specs.declared.act.Act.TheVariants.{Refuse}
use Rattle.store_state.specs.Outcomes.{Outcome, change_decided, decided_before, fresh, unless_before}
use Rattle.store_state.specs.State.{held_at, held_noted, held_so, is_gone, is_here, is_of, is_server, slot_so, with_record}
use Rattle.store_state.specs.declared.done.Done.{Done}
use Rattle.store_state.specs.declared.state.Holding.{Holding}
use Rattle.store_state.specs.declared.state.StoreState.{StoreState}
use Rattle.store_laws.specs.TreeKeeping.{KeepsOf}
use Rattle.store_laws.proofs.Slots.{Table, changes_one}
use Rattle.store_laws.proofs.KeptSteps.{IsPart, SameAt, keeps_parts, part_of, parts_step, same_found}
use Rattle.run_stores.specs.Keeping.{RefusalsAreKept}

-- where nothing is held nothing changes
pub none_held : (slots : Table) (at : ℕ) (f : Holding → Holding) → held_at slots at ≡ None →
    changed_at slots at (option_map f) ≡ slots
none_held [] at f e = refl
none_held (None ∷ slots) zero f e = refl
none_held (Some holding ∷ slots) zero f e = absurd (cc)
none_held (slot ∷ slots) (suc at) f e = ap (λ ys. slot ∷ ys) (none_held slots at f e)

-- a store whose records of requests on filesets themselves differ
pub other_records : (tree : Tree) (state : StoreState) (records : List Record) → KeepsOf tree state →
    IsStorable (record state { records = records }) → KeepsOf tree (record state { records = records })
other_records tree state records k storable = record {
  storable = storable;
  roster = k.roster;
  room = k.room;
  filesets = k.filesets;
  records = k.records;
  still = k.still;
  older = k.older;
}

pub part_noted : (tree : Tree) (server : ServerId) (id : FilesetId) (host : HostId) (change : Record → Record)
    (holding : Holding) → IsPart tree server id (Some holding) →
    IsPart tree server id (Some (held_noted host change holding))
part_noted tree server id host change holding p = record {
  fileset = p.fileset;
  gone = p.gone;
  still = λ next e. (let same : held_noted host change holding ≡ next = cc in
      ap (λ (h : Holding). is_here h.stay || is_gone h.stay) (sym same) ∙ p.still holding refl);
  older = λ next fileset e gone there.
      (let same : held_noted host change holding ≡ next = cc in
      subst (λ (h : Holding). h.fileset.moves < fileset.moves) same
      (p.older holding fileset refl (ap (λ (h : Holding). is_gone h.stay) same ∙ gone) there));
}

same_tree_at : (tree : Tree) (server : ServerId) (id : FilesetId) → SameAt tree tree server id
same_tree_at tree server id =
    record { fileset = refl; record_is = refl; moves = λ after e. same_found tree tree id refl after e }

pub slots_noted : (tree : Tree) (state : StoreState) (id : FilesetId) (host : HostId) (change : Record → Record) →
    KeepsOf tree state →
    let slots = changed_at state.slots (slot_so (is_of id) state.slots) (option_map (held_noted host change)) in
    IsStorable (record state { slots = slots }) → KeepsOf tree (record state { slots = slots })
slots_noted tree state id host change k storable = by (held_so (is_of id) state.slots) refl
  where
    slots : Table
    slots = changed_at state.slots (slot_so (is_of id) state.slots) (option_map (held_noted host change))

    by : (found : Option Holding) → held_so (is_of id) state.slots ≡ found → KeepsOf tree (record state { slots = slots })
    by None e =
        subst (λ (t : Table). KeepsOf tree (record state { slots = t }))
        (sym (none_held state.slots (slot_so (is_of id) state.slots) (held_noted host change) e)) k
    by (Some holding) e =
        let changes = changes_one state.slots id holding (held_noted host change) (λ any h. refl) e in
        let part = subst (IsPart tree state.server id) e (part_of tree state id k) in
        keeps_parts tree (record state { slots = slots }) storable k.roster k.room
        (parts_step tree tree state.server state.slots slots id _ (λ any. part_of tree state any k) changes
        (λ other apart. same_tree_at tree state.server other) (part_noted tree state.server id host change holding part))

abbrev noted_if : Bool → StoreState → FilesetId → HostId → (Record → Record) → StoreState
noted_if b state id host change =
    if b then record state { records = changed_at state.records host.0 change }
    else record state {
      slots = changed_at state.slots (slot_so (is_of id) state.slots) (option_map (held_noted host change));
    }

pub record_noted : (tree : Tree) (state : StoreState) (id : FilesetId) (host : HostId) (change : Record → Record) →
    KeepsOf tree state → IsStorable (with_record state id host change) → KeepsOf tree (with_record state id host change)
record_noted tree state id host change k = by (is_server id)
  where
    by : (b : Bool) → IsStorable (noted_if b state id host change) → KeepsOf tree (noted_if b state id host change)
    by true storable = other_records tree state (changed_at state.records host.0 change) k storable
    by false storable = slots_noted tree state id host change k storable

abbrev refused_now : StoreState → HostId → ℕ → FilesetId → Refusal → Outcome
refused_now state host number id refusal =
    fresh (Refused refusal) (with_record state id host (change_decided number (Refused refusal)))

pub refusals_are_kept : RefusalsAreKept
unfolding act_done refuse_outcome
refusals_are_kept tree state host id number refusal k fits =
    by (decided_before state id host number)
    (acts_keep_storable state (Refuse host id number refusal) k.storable fits tt)
  where
    by : (before : Option Done) →
        IsStorable (unless_before before state (refused_now state host number id refusal)).state →
        KeepsOf tree (unless_before before state (refused_now state host number id refusal)).state
    by (Some done) storable = k
    by None storable = record_noted tree state id host (change_decided number (Refused refusal)) k storable
