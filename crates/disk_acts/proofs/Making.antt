-- What the pages say once an act was put.
use Rattle.std.proofs.Common.{◌≡◌, ◌≢◌, ◌<◌, ◌≤◌, ◌⊎◌, ℕ, ◌+◌, ◌*◌, List, length, take, inl, inr, refl, sym, ◌∙◌, ap, subst, arith, Option, Some, None}
use Rattle.std.specs.Prelude.{Bool, true, false, not, ◌&&◌, ◌||◌, nat_le, nat_lt}
use Rattle.std.proofs.lemmas.Bool.{cases_eq}
use Rattle.std.proofs.lemmas.Bool.Decides.{nat_tests}
use Rattle.base_types.specs.View.{View}
use Rattle.tree_objects.specs.declared.content.Anode.{Anode}
use Rattle.store_state.specs.State.{held_at}
use Rattle.store_state.specs.declared.state.Holding.{Holding}
use Rattle.store_state.specs.declared.state.StoreState.{StoreState}
use Rattle.disk_log.specs.Contents.{contents_of, page_in}
use Rattle.disk_log.specs.Log.{disk_of, state_of}
use Rattle.disk_log.specs.declared.log.Log.{Log}
use Rattle.disk_pages.specs.Puts.{SaysFacts, SaysHeader, SaysNumbers}
use Rattle.disk_fileset.specs.Slots.{slot_pages}
use Rattle.disk_records.specs.Said.{header_said, facts_said}
use Rattle.disk_records.specs.Stored.{AreHeld, SaysSlot, SaysRecord}
use Rattle.disk_acts.specs.Records.{HasNow}
use Rattle.disk_acts.specs.Steps.{ServerIsSaid, HeldIsSaid, SlotIsPut, SlotAnodes, HoldsAnodes}
use Rattle.disk_acts.proofs.Saying.{slot_stays}
use Rattle.disk_acts.proofs.Touching.{SameAnodes, Touches}

-- the anodes of a record
slot_anodes : (held : Option Holding) (list : List Anode) (header numbers : List ℕ) → SaysSlot held list header numbers → SlotAnodes held list
slot_anodes None list header numbers says = says.anodes_unused
slot_anodes (Some holding) list header numbers says = says.anodes_are

pub holds_anodes : (state : StoreState) (slots : ℕ → List Anode) (pages : ℕ → List ℕ) → SaysRecord state slots pages → HoldsAnodes state slots
holds_anodes state slots pages says = λ s lt. slot_anodes (held_at state.slots s) (slots s) (pages (2 + 66 * s)) (pages (3 + 66 * s)) (says.slot s lt)

-- pages that aren't those of a slot's anodes
and_off : (a b : Bool) → (a ≡ true → b ≡ true → ⊥) → (a && b) ≡ false
and_off true true apart = absurd (apart refl refl)
and_off true false apart = refl
and_off false b apart = refl

beside_slot : (slot p : ℕ) → p < 1058 → ((4 + 66 * slot ≤ p) → (p < 68 + 66 * slot) → ⊥) → not (slot_pages slot p) ≡ true
beside_slot slot p low apart =
    let first : (nat_le (4 + 66 * slot) p && nat_lt p (68 + 66 * slot)) ≡ false =
    and_off (nat_le (4 + 66 * slot) p) (nat_lt p (68 + 66 * slot)) (λ a b. apart (grind (arith, nat_tests, a)) (grind (arith, nat_tests, b))) in
    let second : nat_le 1058 p ≡ false = grind (arith, nat_tests, low) in
    λ i. not (first i || second i)

header_beside : (slot s : ℕ) → s < 16 → not (slot_pages slot (2 + 66 * s)) ≡ true
header_beside slot s lt = beside_slot slot (2 + 66 * s) (omega (arith, lt)) (λ a b. omega (arith, a, b))

numbers_beside : (slot s : ℕ) → s < 16 → not (slot_pages slot (3 + 66 * s)) ≡ true
numbers_beside slot s lt = beside_slot slot (3 + 66 * s) (omega (arith, lt)) (λ a b. omega (arith, a, b))

server_beside : (slot p : ℕ) → p < 2 → not (slot_pages slot p) ≡ true
server_beside slot p lt = beside_slot slot p (omega (arith, lt)) (λ a b. omega (arith, a, lt))

-- the same anodes
held_same : (was is : Holding) (list : List Anode) → is.fileset.anodes ≡ was.fileset.anodes → AreHeld was list → AreHeld is list
held_same was is list anodes are = record {
  front = (λ i. take (length (anodes i)) list) ∙ are.front ∙ sym anodes;
  rest = λ anode above few. are.rest anode (let e = ap length anodes in omega (arith, e, above)) few;
}

module _ {D : Type 0} (view : D → View) (tells : Bool) (slot other : ℕ) (old next : StoreState) (slots : ℕ → List Anode) (l0 l1 l2 l3 l4 : Log D)
    (touches : Touches tells slot other old.slots next.slots) (says : SaysRecord old slots (λ p. page_in (contents_of view l0) p))
    (server : ServerIsSaid view next l0 l1) (beside : HeldIsSaid view other (held_at next.slots other) l1 l2) (here : HeldIsSaid view slot (held_at next.slots slot) l2 l3)
    (put : SlotIsPut view slot (held_at next.slots slot) slots l3 l4) where
  abbrev at : Log D → ℕ → List ℕ
  at log p = page_in (contents_of view log) p

  -- a page of another slot
  page_stays : (p : ℕ) → 2 ≤ p → p < 1058 → not (slot_pages slot p) ≡ true → p ≢ 2 + 66 * slot → p ≢ 3 + 66 * slot → p ≢ 2 + 66 * other → p ≢ 3 + 66 * other → at l4 p ≡ at l0 p
  page_stays p from low off a b c d = put.pages p low off ∙ here.others p low a b ∙ beside.others p low c d ∙ server.others p from low

  server_page : (p : ℕ) → p < 2 → at l4 p ≡ at l1 p
  server_page p lt = put.pages p (omega (arith, lt)) (server_beside slot p lt)
      ∙ here.others p (omega (arith, lt)) (λ e. absurd (omega (arith, e, lt))) (λ e. absurd (omega (arith, e, lt)))
      ∙ beside.others p (omega (arith, lt)) (λ e. absurd (omega (arith, e, lt))) (λ e. absurd (omega (arith, e, lt)))

  -- the slot whose anodes were put
  here_says : slot < 16 → (held : Option Holding) → held_at next.slots slot ≡ held → SaysSlot held (put.after slot) (at l4 (2 + 66 * slot)) (at l4 (3 + 66 * slot))
  here_says lt (Some holding) is = record {
    header_says = subst (SaysHeader (header_said holding)) (sym (put.pages (2 + 66 * slot) (omega (arith, lt)) (header_beside slot slot lt))) (here.header holding is);
    numbers_say = subst (SaysNumbers holding.records) (sym (put.pages (3 + 66 * slot) (omega (arith, lt)) (numbers_beside slot slot lt))) (here.numbers holding is);
    anodes_are = put.here holding is;
  }
  here_says lt None is =
      let was : SaysSlot (held_at old.slots slot) (slots slot) (at l0 (2 + 66 * slot)) (at l0 (3 + 66 * slot)) = says.slot slot lt in
      let free : SaysSlot None (slots slot) (at l0 (2 + 66 * slot)) (at l0 (3 + 66 * slot)) = subst (λ (h : Option Holding). SaysSlot h (slots slot) (at l0 (2 + 66 * slot)) (at l0 (3 + 66 * slot))) (touches.there is) was in
      let header : at l4 (2 + 66 * slot) ≡ at l0 (2 + 66 * slot) = stay (2 + 66 * slot) (inl refl) (omega arith) (omega (arith, lt)) (header_beside slot slot lt) in
      let numbers : at l4 (3 + 66 * slot) ≡ at l0 (3 + 66 * slot) = stay (3 + 66 * slot) (inr refl) (omega arith) (omega (arith, lt)) (numbers_beside slot slot lt) in
      subst (λ (a : List Anode). SaysSlot None a (at l4 (2 + 66 * slot)) (at l4 (3 + 66 * slot))) (sym (put.free is))
      (subst (λ (page : List ℕ). SaysSlot None (slots slot) page (at l4 (3 + 66 * slot))) (sym header)
      (subst (λ (page : List ℕ). SaysSlot None (slots slot) (at l0 (2 + 66 * slot)) page) (sym numbers) free))
    where
      other_stays : (p : ℕ) → (p ≡ 2 + 66 * slot) ⊎ (p ≡ 3 + 66 * slot) → p < 1058 → (other ≡ slot) ⊎ (other ≢ slot) → at l2 p ≡ at l1 p
      other_stays p which low (inl same) = beside.free ((λ i. held_at next.slots (same i)) ∙ is) p low
      other_stays p (inl e) low (inr apart) = beside.others p low (λ f. apart (omega (arith, e, f))) (λ f. absurd (omega (arith, e, f)))
      other_stays p (inr e) low (inr apart) = beside.others p low (λ f. absurd (omega (arith, e, f))) (λ f. apart (omega (arith, e, f)))

      stay : (p : ℕ) → (p ≡ 2 + 66 * slot) ⊎ (p ≡ 3 + 66 * slot) → 2 ≤ p → p < 1058 → not (slot_pages slot p) ≡ true → at l4 p ≡ at l0 p
      stay p which from low off = put.pages p low off ∙ here.free is p low ∙ other_stays p which low (cases_eq other slot) ∙ server.others p from low

  -- the other slot
  beside_says : other < 16 → other ≢ slot → (was held : Option Holding) → held_at old.slots other ≡ was → held_at next.slots other ≡ held → SameAnodes was held
      → SaysSlot was (slots other) (at l0 (2 + 66 * other)) (at l0 (3 + 66 * other)) → SaysSlot held (put.after other) (at l4 (2 + 66 * other)) (at l4 (3 + 66 * other))
  beside_says lt apart None (Some is) e f same says = absurd same
  beside_says lt apart (Some was) None e f same says = absurd same
  beside_says lt apart None None e f same says =
      let low : 3 + 66 * other < 1058 = omega (arith, lt) in
      let header : at l4 (2 + 66 * other) ≡ at l0 (2 + 66 * other) =
      put.pages (2 + 66 * other) (omega (arith, low)) (header_beside slot other lt) ∙ here.others (2 + 66 * other) (omega (arith, low)) (λ e. apart (omega (arith, e))) (λ e. absurd (omega (arith, e)))
      ∙ beside.free f (2 + 66 * other) (omega (arith, low)) ∙ server.others (2 + 66 * other) (omega arith) (omega (arith, low)) in
      let numbers : at l4 (3 + 66 * other) ≡ at l0 (3 + 66 * other) =
      put.pages (3 + 66 * other) low (numbers_beside slot other lt) ∙ here.others (3 + 66 * other) low (λ e. absurd (omega (arith, e))) (λ e. apart (omega (arith, e)))
      ∙ beside.free f (3 + 66 * other) low ∙ server.others (3 + 66 * other) (omega arith) low in
      subst (λ (a : List Anode). SaysSlot None a (at l4 (2 + 66 * other)) (at l4 (3 + 66 * other))) (sym (put.others other apart))
      (subst (λ (page : List ℕ). SaysSlot None (slots other) page (at l4 (3 + 66 * other))) (sym header)
      (subst (λ (page : List ℕ). SaysSlot None (slots other) (at l0 (2 + 66 * other)) page) (sym numbers) says))
  beside_says lt apart (Some was) (Some is) e f same says =
      let low : 3 + 66 * other < 1058 = omega (arith, lt) in
      let header : at l4 (2 + 66 * other) ≡ at l2 (2 + 66 * other) =
      put.pages (2 + 66 * other) (omega (arith, low)) (header_beside slot other lt) ∙ here.others (2 + 66 * other) (omega (arith, low)) (λ e. apart (omega (arith, e))) (λ e. absurd (omega (arith, e))) in
      let numbers : at l4 (3 + 66 * other) ≡ at l2 (3 + 66 * other) =
      put.pages (3 + 66 * other) low (numbers_beside slot other lt) ∙ here.others (3 + 66 * other) low (λ e. absurd (omega (arith, e))) (λ e. apart (omega (arith, e))) in
      record {
        header_says = subst (SaysHeader (header_said is)) (sym header) (beside.header is f);
        numbers_say = subst (SaysNumbers is.records) (sym numbers) (beside.numbers is f);
        anodes_are = subst (AreHeld is) (sym (put.others other apart)) (held_same was is (slots other) same says.anodes_are);
      }

  -- all slots
  slot_says : (s : ℕ) → s < 16 → (s ≡ slot) ⊎ (s ≢ slot) → (s ≡ other) ⊎ (s ≢ other) → SaysSlot (held_at next.slots s) (put.after s) (at l4 (2 + 66 * s)) (at l4 (3 + 66 * s))
  slot_says s lt (inl is) which = subst (λ (t : ℕ). SaysSlot (held_at next.slots t) (put.after t) (at l4 (2 + 66 * t)) (at l4 (3 + 66 * t))) (sym is)
      (here_says (subst (λ (t : ℕ). t < 16) is lt) (held_at next.slots slot) refl)
  slot_says s lt (inr apart) (inl is) =
      let low : other < 16 = subst (λ (t : ℕ). t < 16) is lt in
      let off : other ≢ slot = (λ e. apart (is ∙ e)) in
      subst (λ (t : ℕ). SaysSlot (held_at next.slots t) (put.after t) (at l4 (2 + 66 * t)) (at l4 (3 + 66 * t))) (sym is)
      (beside_says low off (held_at old.slots other) (held_at next.slots other) refl refl (touches.beside off) (says.slot other low))
  slot_says s lt (inr apart) (inr off) = slot_stays old next slots put.after (at l0) (at l4) s (touches.others s apart off) (put.others s apart)
      (page_stays (2 + 66 * s) (omega arith) (omega (arith, lt)) (header_beside slot s lt) (λ e. apart (omega (arith, e))) (λ e. absurd (omega (arith, e))) (λ e. off (omega (arith, e))) (λ e. absurd (omega (arith, e))))
      (page_stays (3 + 66 * s) (omega arith) (omega (arith, lt)) (numbers_beside slot s lt) (λ e. absurd (omega (arith, e))) (λ e. apart (omega (arith, e))) (λ e. absurd (omega (arith, e))) (λ e. off (omega (arith, e))))
      (says.slot s lt)

  pub made_says : SaysRecord next put.after (at l4)
  made_says = record {
    facts = subst (SaysFacts (facts_said next)) (sym (server_page 0 (omega arith))) server.facts;
    numbers = subst (SaysNumbers next.records) (sym (server_page 1 (omega arith))) server.numbers;
    slot = λ s lt. slot_says s lt (cases_eq s slot) (cases_eq s other);
  }

  pub made_now : HasNow next (state_of l4) (view (disk_of l4)).image
  made_now = (put.after, record { held = put.keeps.held; each = put.keeps.each; says = made_says })
