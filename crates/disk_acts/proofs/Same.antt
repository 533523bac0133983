-- A record that pages say, over other pages that say the same.
use Rattle.std.proofs.Common.{◌≡◌, ◌<◌, ℕ, ◌+◌, ◌*◌, List, refl, sym, subst, arith}
use Rattle.store_state.specs.State.{held_at}
use Rattle.store_state.specs.declared.state.StoreState.{StoreState}
use Rattle.tree_objects.specs.declared.content.Anode.{Anode}
use Rattle.disk_layout.specs.Places.{pages_of}
use Rattle.disk_anode.specs.Anode.{Anode as Node}
use Rattle.disk_pages.specs.Puts.{SaysFacts, SaysNumbers}
use Rattle.disk_objects.specs.Holds.{Holds}
use Rattle.disk_objects.proofs.Staying.{holds_kept}
use Rattle.disk_objects.specs.Objects.{kept_anodes}
use Rattle.disk_records.specs.Said.{facts_said}
use Rattle.disk_records.specs.Stored.{SaysSlot, SaysRecord}
use Rattle.disk_acts.specs.Records.{HasRecord}

pub slot_same : (state : StoreState) (slots : ℕ → List Anode) (old new : ℕ → List ℕ) (s : ℕ)
    → new (2 + 66 * s) ≡ old (2 + 66 * s) → new (3 + 66 * s) ≡ old (3 + 66 * s)
    → SaysSlot (held_at state.slots s) (slots s) (old (2 + 66 * s)) (old (3 + 66 * s))
    → SaysSlot (held_at state.slots s) (slots s) (new (2 + 66 * s)) (new (3 + 66 * s))
slot_same state slots old new s header numbers says =
    subst (λ (page : List ℕ). SaysSlot (held_at state.slots s) (slots s) page (new (3 + 66 * s))) (sym header)
    (subst (λ (page : List ℕ). SaysSlot (held_at state.slots s) (slots s) (old (2 + 66 * s)) page) (sym numbers) says)

pub says_same : (state : StoreState) (slots : ℕ → List Anode) (old new : ℕ → List ℕ) → ((p : ℕ) → p < 1058 → new p ≡ old p)
    → SaysRecord state slots old → SaysRecord state slots new
says_same state slots old new same says = record {
  facts = subst (SaysFacts (facts_said state)) (sym (same 0 (omega arith))) says.facts;
  numbers = subst (SaysNumbers state.records) (sym (same 1 (omega arith))) says.numbers;
  slot = λ s lt. slot_same state slots old new s (same (2 + 66 * s) (omega (arith, lt))) (same (3 + 66 * s) (omega (arith, lt))) (says.slot s lt);
}

pub record_with : (state : StoreState) (blocks : ℕ) (old new : ℕ → List ℕ) (before after : List ℕ) → ((p : ℕ) → p < 1058 → new p ≡ old p)
    → ((anodes : ℕ → Node) → Holds anodes blocks old before → Holds anodes blocks new after)
    → HasRecord state blocks old before → HasRecord state blocks new after
record_with state blocks old new before after same holds has =
    let slots : ℕ → List Anode = has.0 in
    (slots, record { held = holds (kept_anodes slots) has.1.held; each = has.1.each; says = says_same state slots old new same has.1.says })

pub record_same : (state : StoreState) (blocks : ℕ) (old new : ℕ → List ℕ) (image : List ℕ) → ((p : ℕ) → p < pages_of blocks → new p ≡ old p)
    → HasRecord state blocks old image → HasRecord state blocks new image
record_same state blocks old new image same has =
    record_with state blocks old new image image (λ p lt. same p (omega (arith, lt)))
    (λ anodes held. holds_kept anodes blocks old new image image held same (λ b lt some k below. refl)) has
