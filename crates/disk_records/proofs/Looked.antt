-- What a log holds is held once it was looked at, and the table is read slot by slot.
use Rattle.std.proofs.Common.{◌≡◌, ◌<◌, ℕ, ◌+◌, List, [], ◌∷◌, ◌++◌, length, map, take, get_or, sym, ◌∙◌, ap, subst, arith}
use Rattle.std.specs.Prelude.{Option, Some, None, slice_get}
use Rattle.std.specs.Option.{option_and_then}
use Rattle.std.proofs.lemmas.List.{take_more, map-append}
use Rattle.std.proofs.lemmas.Option.{slice_get-get_or}
use Rattle.base_types.specs.View.{View}
use Rattle.store_state.specs.State.{held_at}
use Rattle.store_state.specs.declared.state.Holding.{Holding}
use Rattle.store_state.specs.declared.state.StoreState.{StoreState}
use Rattle.store_state.specs.declared.state.TakenShip.{TakenShip}
use Rattle.disk_pages.specs.declared.server.TakenShip.{TakenShip as TakenFrom}
use Rattle.disk_records.specs.Record.{ship_taken}
use Rattle.disk_log.specs.Contents.{contents_of, page_in}
use Rattle.disk_log.specs.Log.{disk_of, state_of}
use Rattle.disk_log.specs.Puts.{page_of}
use Rattle.disk_log.specs.declared.log.Log.{Log}
use Rattle.disk_fileset.specs.Slots.{Keeps}
use Rattle.disk_fileset.proofs.Looking.{look_held}
use Rattle.tree_objects.specs.declared.content.Anode.{Anode}
use Rattle.disk_objects.specs.Objects.{KeepsNow}
use Rattle.disk_records.specs.Stored.{SaysRecord}
use Rattle.disk_records.specs.Loading.{KeepsRecord}
use Rattle.base_types.specs.Crash.{IsQuiet}

module _ {D : Type 0} (tells : Type 0) (view : D → View) (old new : Log D) (same : state_of new ≡ state_of old) (quiet : IsQuiet (view (disk_of old)) (view (disk_of new))) where
  -- the pages are the same
  pub page_same : (p : ℕ) → page_in (contents_of view new) p ≡ page_in (contents_of view old) p
  page_same p = λ i. page_of (same i).entries (same i).puts (quiet.image i) p

  pub slots_still : (slots : ℕ → List Anode) → Keeps view slots old → Keeps view slots new
  slots_still slots keeps = look_held tells view old new same quiet KeepsNow slots keeps

  pub record_still : (state : StoreState) → KeepsRecord view state old → KeepsRecord view state new
  record_still state keeps = record {
    slots = keeps.slots;
    keeps = slots_still keeps.slots keeps.keeps;
    says = subst (λ (pages : ℕ → List ℕ). SaysRecord state keeps.slots pages) (sym (λ i p. page_same p i)) keeps.says;
    storable = keeps.storable;
  }

-- one more slot of the table
pub slot_more : (slots made : List (Option Holding)) (s : ℕ) (held : Option Holding) → length slots ≡ 16 → s < 16 → made ≡ take s slots → held ≡ held_at slots s → made ++ held ∷ [] ≡ take (s + 1) slots
slot_more slots made s held full lt before is =
    let there : slice_get slots s ≡ Some (get_or slots s None) = slice_get-get_or slots s None (omega (arith, full, lt)) in
    let same : held ≡ get_or slots s None = is ∙ ap (option_and_then (λ slot. slot)) there in
    (λ i. before i ++ same i ∷ []) ∙ sym (take_more slots s None (omega (arith, full, lt)))

-- one more ship
pub ship_more : (taken : List TakenFrom) (ships : List TakenShip) (i : ℕ) → i < length taken → ships ≡ map ship_taken (take i taken)
    → ships ++ ship_taken (get_or taken i (record { ship = 0; code = 0 })) ∷ [] ≡ map ship_taken (take (i + 1) taken)
ship_more taken ships i lt before =
    (λ j. before j ++ ship_taken (get_or taken i (record { ship = 0; code = 0 })) ∷ [])
    ∙ sym (map-append ship_taken (take i taken) (get_or taken i (record { ship = 0; code = 0 }) ∷ [])) ∙ ap (map ship_taken) (sym (take_more taken i (record { ship = 0; code = 0 }) lt))
