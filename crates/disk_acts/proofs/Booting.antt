-- What the pages say once a boot was put.
use Rattle.std.proofs.Common.{◌≡◌, ◌≢◌, ◌<◌, ◌⊎◌, ℕ, ◌+◌, ◌*◌, List, inl, inr, refl, sym, ◌∙◌, ap, subst, arith, Option, Some, None}
use Rattle.std.specs.Option.{option_map}
use Rattle.std.proofs.lemmas.Bool.{cases_eq}
use Rattle.base_types.specs.View.{View}
use Rattle.tree_objects.specs.declared.content.Anode.{Anode}
use Rattle.store_acts.specs.Acts.{booted, held_booted}
use Rattle.store_state.specs.State.{held_at}
use Rattle.store_state.specs.declared.state.Holding.{Holding}
use Rattle.store_state.specs.declared.state.StoreState.{StoreState}
use Rattle.store_records.proofs.Tables.{held_mapped}
use Rattle.disk_log.specs.Contents.{contents_of, page_in}
use Rattle.disk_log.specs.Log.{disk_of, state_of}
use Rattle.disk_log.specs.declared.log.Log.{Log}
use Rattle.disk_pages.specs.Puts.{SaysFacts, SaysHeader, SaysNumbers}
use Rattle.disk_records.specs.Said.{header_said, facts_said}
use Rattle.disk_records.specs.Stored.{SaysSlot, SaysRecord}
use Rattle.disk_acts.specs.Records.{HasNow}
use Rattle.disk_acts.specs.Steps.{ServerIsSaid, HeldIsSaid, AllSaid}

pub all_none : {D : Type 0} (view : D → View) (state : StoreState) (log : Log D) → AllSaid view 0 state log log
all_none view state log = record {
  header = λ s holding lt is. absurd (omega (arith, lt));
  numbers = λ s holding lt is. absurd (omega (arith, lt));
  free = λ s lt is. (refl, refl);
  server = λ p lt. refl;
  anodes = λ slots keeps. keeps;
}

module _ {D : Type 0} (view : D → View) (n : ℕ) (state : StoreState) (old mid new : Log D) (low : n < 16) (all : AllSaid view n state old mid) (here : HeldIsSaid view n (held_at state.slots n) mid new) where
  header_stays : (s : ℕ) → s < 16 → s ≢ n → page_in (contents_of view new) (2 + 66 * s) ≡ page_in (contents_of view mid) (2 + 66 * s)
  header_stays s lt apart = here.others (2 + 66 * s) (omega (arith, lt)) (λ e. apart (omega (arith, e))) (λ e. absurd (omega (arith, e)))

  numbers_stay : (s : ℕ) → s < 16 → s ≢ n → page_in (contents_of view new) (3 + 66 * s) ≡ page_in (contents_of view mid) (3 + 66 * s)
  numbers_stay s lt apart = here.others (3 + 66 * s) (omega (arith, lt)) (λ e. absurd (omega (arith, e))) (λ e. apart (omega (arith, e)))

  header_next : (s : ℕ) (holding : Holding) → s < n + 1 → held_at state.slots s ≡ Some holding → (s ≡ n) ⊎ (s ≢ n) → SaysHeader (header_said holding) (page_in (contents_of view new) (2 + 66 * s))
  header_next s holding lt is (inl same) = subst (λ (t : ℕ). SaysHeader (header_said holding) (page_in (contents_of view new) (2 + 66 * t))) (sym same) (here.header holding ((λ i. held_at state.slots (sym same i)) ∙ is))
  header_next s holding lt is (inr apart) = subst (SaysHeader (header_said holding)) (sym (header_stays s (omega (arith, lt, low)) apart)) (all.header s holding (omega (arith, lt, apart)) is)

  numbers_next : (s : ℕ) (holding : Holding) → s < n + 1 → held_at state.slots s ≡ Some holding → (s ≡ n) ⊎ (s ≢ n) → SaysNumbers holding.records (page_in (contents_of view new) (3 + 66 * s))
  numbers_next s holding lt is (inl same) = subst (λ (t : ℕ). SaysNumbers holding.records (page_in (contents_of view new) (3 + 66 * t))) (sym same) (here.numbers holding ((λ i. held_at state.slots (sym same i)) ∙ is))
  numbers_next s holding lt is (inr apart) = subst (SaysNumbers holding.records) (sym (numbers_stay s (omega (arith, lt, low)) apart)) (all.numbers s holding (omega (arith, lt, apart)) is)

  free_next : (s : ℕ) → s < 16 → held_at state.slots s ≡ None → (s ≡ n) ⊎ (s ≢ n)
      → (page_in (contents_of view new) (2 + 66 * s) ≡ page_in (contents_of view old) (2 + 66 * s)) × (page_in (contents_of view new) (3 + 66 * s) ≡ page_in (contents_of view old) (3 + 66 * s))
  free_next s lt is (inl same) =
      let none : held_at state.slots n ≡ None = (λ i. held_at state.slots (sym same i)) ∙ is in
      let was = all.free s lt is in
      (here.free none (2 + 66 * s) (omega (arith, lt)) ∙ was.0, here.free none (3 + 66 * s) (omega (arith, lt)) ∙ was.1)
  free_next s lt is (inr apart) = let was = all.free s lt is in (header_stays s lt apart ∙ was.0, numbers_stay s lt apart ∙ was.1)

  pub all_more : AllSaid view (n + 1) state old new
  all_more = record {
    header = λ s holding lt is. header_next s holding lt is (cases_eq s n);
    numbers = λ s holding lt is. numbers_next s holding lt is (cases_eq s n);
    free = λ s lt is. free_next s lt is (cases_eq s n);
    server = λ p lt. here.others p (omega (arith, lt)) (λ e. absurd (omega (arith, e, lt))) (λ e. absurd (omega (arith, e, lt))) ∙ all.server p lt;
    anodes = λ slots keeps. here.anodes slots (all.anodes slots keeps);
  }

-- the record of a boot
module _ {D : Type 0} (view : D → View) (old next : StoreState) (l0 l1 l2 : Log D) (made : next ≡ booted old) (has : HasNow old (state_of l0) (view (disk_of l0)).image)
    (server : ServerIsSaid view next l0 l1) (all : AllSaid view 16 next l1 l2) where
  abbrev slots : ℕ → List Anode
  slots = has.0

  held_next : (s : ℕ) → held_at next.slots s ≡ option_map held_booted (held_at old.slots s)
  held_next s = (λ i. held_at (made i).slots s) ∙ held_mapped old.slots s held_booted

  slot_says : (s : ℕ) → s < 16 → (was : Option Holding) → held_at old.slots s ≡ was → SaysSlot was (slots s) (page_in (contents_of view l0) (2 + 66 * s)) (page_in (contents_of view l0) (3 + 66 * s))
      → SaysSlot (option_map held_booted was) (slots s) (page_in (contents_of view l2) (2 + 66 * s)) (page_in (contents_of view l2) (3 + 66 * s))
  slot_says s lt None is says =
      let none = all.free s lt (held_next s ∙ ap (option_map held_booted) is) in
      subst (λ (page : List ℕ). SaysSlot None (slots s) page (page_in (contents_of view l2) (3 + 66 * s))) (sym (none.0 ∙ server.others (2 + 66 * s) (omega arith) (omega (arith, lt))))
      (subst (λ (page : List ℕ). SaysSlot None (slots s) (page_in (contents_of view l0) (2 + 66 * s)) page) (sym (none.1 ∙ server.others (3 + 66 * s) (omega arith) (omega (arith, lt)))) says)
  slot_says s lt (Some was) is says = record {
    header_says = all.header s (held_booted was) lt (held_next s ∙ ap (option_map held_booted) is);
    numbers_say = all.numbers s (held_booted was) lt (held_next s ∙ ap (option_map held_booted) is);
    anodes_are = record { front = says.anodes_are.front; rest = says.anodes_are.rest };
  }

  boot_says : SaysRecord next slots (λ p. page_in (contents_of view l2) p)
  boot_says = record {
    facts = subst (SaysFacts (facts_said next)) (sym (all.server 0 (omega arith))) server.facts;
    numbers = subst (SaysNumbers next.records) (sym (all.server 1 (omega arith))) server.numbers;
    slot = λ s lt. subst (λ (o : Option Holding). SaysSlot o (slots s) (page_in (contents_of view l2) (2 + 66 * s)) (page_in (contents_of view l2) (3 + 66 * s))) (sym (held_next s))
        (slot_says s lt (held_at old.slots s) refl (has.1.says.slot s lt));
  }

  pub boot_now : HasNow next (state_of l2) (view (disk_of l2)).image
  boot_now =
      let keeps = all.anodes slots (server.anodes slots (record { held = has.1.held; each = has.1.each })) in
      (slots, record { held = keeps.held; each = keeps.each; says = boot_says })
