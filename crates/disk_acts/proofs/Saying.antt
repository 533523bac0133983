-- What pages say of the next record, where one of them was put.
use Rattle.std.proofs.Common.{◌≡◌, ◌≢◌, ◌<◌, ℕ, ◌+◌, ◌*◌, List, length, take, refl, sym, ◌∙◌, ap, subst, arith, Option, Some, None}
use Rattle.std.specs.Prelude.{Result, OnOk}
use Rattle.std.proofs.lemmas.Result.{on_ok_weaker}
use Rattle.std.proofs.lemmas.Bool.{cases_eq}
use Rattle.std.specs.Prelude.{◌⊎◌}
use Rattle.std.proofs.Common.{inl, inr}
use Rattle.base_types.specs.View.{View}
use Rattle.tree_calls.specs.declared.ship.Record.{Record}
use Rattle.tree_objects.specs.declared.content.Anode.{Anode}
use Rattle.store_state.specs.State.{held_at}
use Rattle.store_state.specs.declared.state.Holding.{Holding}
use Rattle.store_state.specs.declared.state.StoreState.{StoreState}
use Rattle.disk_pages.specs.declared.header.SlotHeader.{SlotHeader}
use Rattle.disk_pages.specs.declared.server.ServerFacts.{ServerFacts}
use Rattle.disk_log.specs.Contents.{contents_of, page_in}
use Rattle.disk_log.specs.declared.log.Log.{Log}
use Rattle.disk_anode.specs.declared.fault.NodeFault.{NodeFault}
use Rattle.disk_pages.specs.Puts.{SaysFacts, SaysHeader, SaysNumbers}
use Rattle.disk_records.specs.Said.{header_said, facts_said}
use Rattle.disk_records.specs.Stored.{AreHeld, SaysHolding, SaysSlot, SaysRecord}
use Rattle.disk_acts.specs.Steps.{IsSaid, SaysPage, SaysNext, ServerIsSaid, SlotIsSaid, HeldIsSaid}

-- a slot of which nothing changed
pub slot_stays : (state next : StoreState) (slots after : ℕ → List Anode) (old new : ℕ → List ℕ) (s : ℕ) → held_at next.slots s ≡ held_at state.slots s → after s ≡ slots s
    → new (2 + 66 * s) ≡ old (2 + 66 * s) → new (3 + 66 * s) ≡ old (3 + 66 * s)
    → SaysSlot (held_at state.slots s) (slots s) (old (2 + 66 * s)) (old (3 + 66 * s)) → SaysSlot (held_at next.slots s) (after s) (new (2 + 66 * s)) (new (3 + 66 * s))
slot_stays state next slots after old new s held anodes header numbers says =
    subst (λ (h : Option Holding). SaysSlot h (after s) (new (2 + 66 * s)) (new (3 + 66 * s))) (sym held)
    (subst (λ (a : List Anode). SaysSlot (held_at state.slots s) a (new (2 + 66 * s)) (new (3 + 66 * s))) (sym anodes)
    (subst (λ (page : List ℕ). SaysSlot (held_at state.slots s) (slots s) page (new (3 + 66 * s))) (sym header)
    (subst (λ (page : List ℕ). SaysSlot (held_at state.slots s) (slots s) (old (2 + 66 * s)) page) (sym numbers) says)))

-- what is said of a slot that has a fileset
pub says_of : (state : StoreState) (slots : ℕ → List Anode) (pages : ℕ → List ℕ) (slot : ℕ) (holding : Holding) → slot < 16 → held_at state.slots slot ≡ Some holding
    → SaysRecord state slots pages → SaysHolding holding (slots slot) (pages (2 + 66 * slot)) (pages (3 + 66 * slot))
says_of state slots pages slot holding low held says = subst (λ (h : Option Holding). SaysSlot h (slots slot) (pages (2 + 66 * slot)) (pages (3 + 66 * slot))) held (says.slot slot low)

-- what differs in one slot
pub record DiffersAt (slot : ℕ) (state next : StoreState) : Type 0 where
  pub facts : facts_said next ≡ facts_said state
  pub records : next.records ≡ state.records
  pub others : (s : ℕ) → s ≢ slot → held_at next.slots s ≡ held_at state.slots s

-- the pages and anodes of the other slots stay
pub record StaysBeside (slot : ℕ) (slots after : ℕ → List Anode) (old new : ℕ → List ℕ) : Type 0 where
  pub anodes : (s : ℕ) → s ≢ slot → after s ≡ slots s
  pub pages : (p : ℕ) → p < 1058 → p ≢ 2 + 66 * slot → p ≢ 3 + 66 * slot → (s : ℕ) → (p ≡ 2 + 66 * s) ⊎ (p ≡ 3 + 66 * s) → new p ≡ old p
  pub facts : new 0 ≡ old 0
  pub numbers : new 1 ≡ old 1

pub says_one : (slot : ℕ) (state next : StoreState) (slots after : ℕ → List Anode) (old new : ℕ → List ℕ) → DiffersAt slot state next → StaysBeside slot slots after old new
    → (slot < 16 → SaysSlot (held_at next.slots slot) (after slot) (new (2 + 66 * slot)) (new (3 + 66 * slot))) → SaysRecord state slots old → SaysRecord next after new
says_one slot state next slots after old new differs stays here says = record {
  facts = subst (λ (f : ServerFacts). SaysFacts f (new 0)) (sym differs.facts) (subst (SaysFacts (facts_said state)) (sym stays.facts) says.facts);
  numbers = subst (λ (r : List Record). SaysNumbers r (new 1)) (sym differs.records) (subst (SaysNumbers state.records) (sym stays.numbers) says.numbers);
  slot = λ s lt. by s lt (cases_eq s slot);
}
  where
    by : (s : ℕ) → s < 16 → (s ≡ slot) ⊎ (s ≢ slot) → SaysSlot (held_at next.slots s) (after s) (new (2 + 66 * s)) (new (3 + 66 * s))
    by s lt (inl same) = subst (λ (t : ℕ). SaysSlot (held_at next.slots t) (after t) (new (2 + 66 * t)) (new (3 + 66 * t))) (sym same) (here (subst (λ (t : ℕ). t < 16) same lt))
    by s lt (inr other) = slot_stays state next slots after old new s (differs.others s other) (stays.anodes s other)
        (stays.pages (2 + 66 * s) (omega (arith, lt)) (λ e. other (omega (arith, e))) (λ e. (absurd (omega (arith, e)))) s (inl refl))
        (stays.pages (3 + 66 * s) (omega (arith, lt)) (λ e. (absurd (omega (arith, e)))) (λ e. other (omega (arith, e))) s (inr refl))
        (says.slot s lt)

module _ {D T : Type 0} (tells : Type 0) (view : D → View) (state next : StoreState) (result : Result T NodeFault) (old new : Log D) where
  abbrev before : ℕ → List ℕ
  before p = page_in (contents_of view old) p

  abbrev after : ℕ → List ℕ
  after p = page_in (contents_of view new) p

  -- where one page was put
  next_by : (page : ℕ) (P : List ℕ → Type 0) → ((slots : ℕ → List Anode) → IsSaid view page P old new → SaysRecord state slots before → SaysRecord next slots after)
      → SaysPage tells view page P result old new → SaysNext tells view state next result old new
  next_by page P says put told has = on_ok_weaker result
      (λ (said : IsSaid view page P old new).
      (let slots : ℕ → List Anode = has.0 in
      let keeps = said.anodes slots (record { held = has.1.held; each = has.1.each }) in
      (slots, record { held = keeps.held; each = keeps.each; says = says slots said has.1.says })))
      (put told)

  pub facts_next : (facts : ServerFacts) → next.slots ≡ state.slots → next.records ≡ state.records → facts_said next ≡ facts → SaysPage tells view 0 (SaysFacts facts) result old new
      → SaysNext tells view state next result old new
  facts_next facts same records is = next_by 0 (SaysFacts facts) (λ slots said says. record {
    facts = subst (λ (f : ServerFacts). SaysFacts f (after 0)) (sym is) said.here;
    numbers = subst (λ (r : List Record). SaysNumbers r (after 1)) (sym records) (subst (SaysNumbers state.records) (sym (said.others 1 (omega arith) (λ e. absurd (omega (arith, e))))) says.numbers);
    slot = λ s lt. slot_stays state next slots slots before after s (λ i. held_at (same i) s) refl
        (said.others (2 + 66 * s) (omega (arith, lt)) (λ e. absurd (omega (arith, e)))) (said.others (3 + 66 * s) (omega (arith, lt)) (λ e. absurd (omega (arith, e)))) (says.slot s lt);
  })

  pub own_next : (records : List Record) → facts_said next ≡ facts_said state → next.slots ≡ state.slots → next.records ≡ records → SaysPage tells view 1 (SaysNumbers records) result old new
      → SaysNext tells view state next result old new
  own_next records facts same is = next_by 1 (SaysNumbers records) (λ slots said says. record {
    facts = subst (λ (f : ServerFacts). SaysFacts f (after 0)) (sym facts) (subst (SaysFacts (facts_said state)) (sym (said.others 0 (omega arith) (λ e. absurd (omega (arith, e))))) says.facts);
    numbers = subst (λ (r : List Record). SaysNumbers r (after 1)) (sym is) said.here;
    slot = λ s lt. slot_stays state next slots slots before after s (λ i. held_at (same i) s) refl
        (said.others (2 + 66 * s) (omega (arith, lt)) (λ e. absurd (omega (arith, e)))) (said.others (3 + 66 * s) (omega (arith, lt)) (λ e. absurd (omega (arith, e)))) (says.slot s lt);
  })

  -- a fileset of which the header changes, or what is kept of hosts' requests
  module _ (slot : ℕ) (was is : Holding) (low : slot < 16) (there : held_at state.slots slot ≡ Some was) (then_is : held_at next.slots slot ≡ Some is) (differs : DiffersAt slot state next)
      (anodes : is.fileset.anodes ≡ was.fileset.anodes) where
    held_still : (list : List Anode) → AreHeld was list → AreHeld is list
    held_still list are = record {
      front = (λ i. take (length (anodes i)) list) ∙ are.front ∙ sym anodes;
      rest = λ anode above few. are.rest anode (let e = ap length anodes in omega (arith, e, above)) few;
    }

    pub header_next : is.records ≡ was.records → SaysPage tells view (2 + 66 * slot) (SaysHeader (header_said is)) result old new → SaysNext tells view state next result old new
    header_next records = next_by (2 + 66 * slot) (SaysHeader (header_said is)) (λ slots said says.
        says_one slot state next slots slots before after differs (record {
          anodes = λ s other. refl;
          pages = λ p lt apart other s of. said.others p lt apart;
          facts = said.others 0 (omega arith) (λ e. absurd (omega (arith, e)));
          numbers = said.others 1 (omega arith) (λ e. absurd (omega (arith, e)));
        })
        (λ low_2. (let one = says_of state slots before slot was low there says in
        subst (λ (h : Option Holding). SaysSlot h (slots slot) (after (2 + 66 * slot)) (after (3 + 66 * slot))) (sym then_is) (record {
          header_says = said.here;
          numbers_say = subst (λ (r : List Record). SaysNumbers r (after (3 + 66 * slot))) (sym records)
              (subst (SaysNumbers was.records) (sym (said.others (3 + 66 * slot) (omega (arith, low)) (λ e. absurd (omega (arith, e))))) one.numbers_say);
          anodes_are = held_still (slots slot) one.anodes_are;
        }))) says)

    pub numbers_next : header_said is ≡ header_said was → SaysPage tells view (3 + 66 * slot) (SaysNumbers is.records) result old new → SaysNext tells view state next result old new
    numbers_next header = next_by (3 + 66 * slot) (SaysNumbers is.records) (λ slots said says.
        says_one slot state next slots slots before after differs (record {
          anodes = λ s other. refl;
          pages = λ p lt other apart s of. said.others p lt apart;
          facts = said.others 0 (omega arith) (λ e. absurd (omega (arith, e)));
          numbers = said.others 1 (omega arith) (λ e. absurd (omega (arith, e)));
        })
        (λ low_2. (let one = says_of state slots before slot was low there says in
        subst (λ (h : Option Holding). SaysSlot h (slots slot) (after (2 + 66 * slot)) (after (3 + 66 * slot))) (sym then_is) (record {
          header_says = subst (λ (h : SlotHeader). SaysHeader h (after (2 + 66 * slot))) (sym header)
              (subst (SaysHeader (header_said was)) (sym (said.others (2 + 66 * slot) (omega (arith, low)) (λ e. absurd (omega (arith, e))))) one.header_says);
          numbers_say = said.here;
          anodes_are = held_still (slots slot) one.anodes_are;
        }))) says)

-- the pages of the server, one after the other
pub server_said : {D T : Type 0} (tells : Type 0) (view : D → View) (state : StoreState) (facts : ServerFacts) (records : List Record) (result : Result T NodeFault) (old mid new : Log D)
    → facts ≡ facts_said state → records ≡ state.records → (tells → IsSaid view 0 (SaysFacts facts) old mid) → SaysPage tells view 1 (SaysNumbers records) result mid new
    → tells → OnOk result (ServerIsSaid view state old new)
server_said tells view state facts records result old mid new is are one two told = on_ok_weaker result
    (λ (said : IsSaid view 1 (SaysNumbers records) mid new).
    (let first = one told in record {
      facts = subst (SaysFacts (facts_said state)) (sym (said.others 0 (omega arith) (λ e. absurd (omega (arith, e))))) (subst (λ (f : ServerFacts). SaysFacts f (page_in (contents_of view mid) 0)) is first.here);
      numbers = subst (λ (r : List Record). SaysNumbers r (page_in (contents_of view new) 1)) are said.here;
      others = λ p from low. said.others p low (λ e. absurd (omega (arith, e, from))) ∙ first.others p low (λ e. absurd (omega (arith, e, from)));
      anodes = λ slots keeps. said.anodes slots (first.anodes slots keeps);
    })) (two told)

-- and those of a slot
pub slot_said : {D T : Type 0} (tells : Type 0) (view : D → View) (slot : ℕ) (holding : Holding) (header : SlotHeader) (records : List Record) (result : Result T NodeFault) (old mid new : Log D)
    → slot < 16 → header ≡ header_said holding → records ≡ holding.records → (tells → IsSaid view (2 + 66 * slot) (SaysHeader header) old mid) → SaysPage tells view (3 + 66 * slot) (SaysNumbers records) result mid new
    → tells → OnOk result (SlotIsSaid view slot holding old new)
slot_said tells view slot holding header records result old mid new lt is are one two told = on_ok_weaker result
    (λ (said : IsSaid view (3 + 66 * slot) (SaysNumbers records) mid new).
    (let first = one told in record {
      header = subst (SaysHeader (header_said holding)) (sym (said.others (2 + 66 * slot) (omega (arith, lt)) (λ e. absurd (omega (arith, e)))))
          (subst (λ (h : SlotHeader). SaysHeader h (page_in (contents_of view mid) (2 + 66 * slot))) is first.here);
      numbers = subst (λ (r : List Record). SaysNumbers r (page_in (contents_of view new) (3 + 66 * slot))) are said.here;
      others = λ p low a b. said.others p low b ∙ first.others p low a;
      anodes = λ slots keeps. said.anodes slots (first.anodes slots keeps);
    })) (two told)

some_same : (a b : Holding) → ◌≡◌ {A = Option Holding} (Some a) (Some b) → b ≡ a
some_same a b e = cc

pub held_said : {D T : Type 0} (tells : Type 0) (view : D → View) (slot : ℕ) (held : Option Holding) (holding : Holding) (result : Result T NodeFault) (old new : Log D) → held ≡ Some holding
    → (tells → OnOk result (SlotIsSaid view slot holding old new)) → tells → OnOk result (HeldIsSaid view slot held old new)
held_said tells view slot held holding result old new is says told = on_ok_weaker result
    (λ (said : SlotIsSaid view slot holding old new). record {
      header = λ h e. subst (λ (x : Holding). SaysHeader (header_said x) (page_in (contents_of view new) (2 + 66 * slot))) (sym (some_same holding h (sym is ∙ e))) said.header;
      numbers = λ h e. subst (λ (x : Holding). SaysNumbers x.records (page_in (contents_of view new) (3 + 66 * slot))) (sym (some_same holding h (sym is ∙ e))) said.numbers;
      free = λ e. (let both : None ≡ Some holding = sym e ∙ is in absurd (cc));
      others = said.others;
      anodes = said.anodes;
    }) (says told)

pub none_said : {D : Type 0} (view : D → View) (slot : ℕ) (held : Option Holding) (log : Log D) → held ≡ None → HeldIsSaid view slot held log log
none_said view slot held log is = record {
  header = λ h e. (let both : None ≡ Some h = sym is ∙ e in absurd (cc));
  numbers = λ h e. (let both : None ≡ Some h = sym is ∙ e in absurd (cc));
  free = λ e p low. refl;
  others = λ p low a b. refl;
  anodes = λ slots keeps. keeps;
}
