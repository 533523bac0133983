-- A stortolds record that a disk can have, but for its limits; and what leaves it one.
use Rattle.std.proofs.Common.{◌≡◌, ◌≢◌, ◌≤◌, ◌⊎◌, ℕ, ◌+◌, List, length, map, set, inl, inr, refl, sym, subst, ◌∙◌, ap, arith}
use Rattle.std.specs.Prelude.{Bool, true, false, Option, Some, None}
use Rattle.std.specs.Option.{option_map}
use Rattle.std.proofs.lemmas.Bool.{cases_eq, false≢true}
use Rattle.base_types.specs.Lists.{changed_at}
use Rattle.base_types.specs.Name.{same_name}
use Rattle.base_types.specs.declared.ids.FilesetId.{FilesetId}
use Rattle.base_types.specs.declared.ids.ServerId.{ServerId}
use Rattle.base_types.specs.declared.limits.TheConstants.{SERVERS_MAX, HOSTS_MAX, FILESET_NUMBER_MAX}
use Rattle.tree_calls.specs.declared.roster.Roster.{Roster}
use Rattle.tree_filesets.specs.declared.fileset.Fileset.{Fileset}
use Rattle.message_types.specs.Soundness.{Each}
use Rattle.store_acts.proofs.Limits.{length_set}
use Rattle.store_acts.specs.Sound.{IsAllowed}
use Rattle.store_state.proofs.Slots.{held_changed, held_inside, held_set}
use Rattle.store_state.specs.Founding.{held_promise, promised}
use Rattle.store_state.specs.State.{held_at, is_leaving}
use Rattle.store_state.specs.declared.state.Holding.{Holding}
use Rattle.store_state.specs.declared.state.Stay.{Stay}
use Rattle.store_state.specs.declared.state.Stay.TheVariants.{Writable, Clone, Leaving, Arriving, Gone}
use Rattle.store_state.specs.declared.state.StoreState.{StoreState}
use Rattle.store_state.specs.declared.state.TakenShip.{TakenShip}
use Rattle.store_records.specs.Stored.{IsOther, StaysRight, IsStored, AreTwo, IsStorable}
use Rattle.store_records.proofs.Tables.{held_set_other, held_changed_other, held_mapped, promised_set, promised_changed, promised_mapped, names_apart}

abbrev pub AreTaken : List TakenShip → Type 0
AreTaken taken = (length taken ≡ SERVERS_MAX) × Each (λ (ship : TakenShip). ship.code ≤ 21) taken

abbrev pub EachStored : StoreState → Type 0
EachStored state = (slot : ℕ) (holding : Holding) → held_at state.slots slot ≡ Some holding → IsStored state holding

abbrev pub AllApart : StoreState → Type 0
AllApart state = (s t : ℕ) (a b : Holding) → s ≢ t → held_at state.slots s ≡ Some a → held_at state.slots t ≡ Some b → AreTwo a b

pub record IsFit (state : StoreState) : Type 0 where
  pub servers : length state.roster.capacity ≤ SERVERS_MAX
  pub first : 1 ≤ state.server.0
  pub last : state.server.0 ≤ SERVERS_MAX
  pub next : (1 ≤ state.next) × (state.next ≤ FILESET_NUMBER_MAX + 1)
  pub hosts : length state.hosts ≡ HOSTS_MAX + 1
  pub taken : AreTaken state.taken
  pub each : EachStored state
  pub apart : AllApart state
  pub room : promised state.slots ≤ state.capacity

pub fit_of : (state : StoreState) → IsStorable state → IsFit state
fit_of state h = record {
  servers = h.servers;
  first = h.first;
  last = h.last;
  next = h.next;
  hosts = h.hosts;
  taken = h.taken;
  each = h.each;
  apart = h.apart;
  room = h.room;
}

-- the same store, with other slots
pub record IsStill (old new : StoreState) : Type 0 where
  pub server : new.server ≡ old.server
  pub roster : new.roster ≡ old.roster
  pub capacity : new.capacity ≡ old.capacity
  pub next : old.next ≤ new.next
  pub last : new.next ≤ FILESET_NUMBER_MAX + 1
  pub ship : old.ship ≤ new.ship
  pub hosts : length new.hosts ≡ HOSTS_MAX + 1
  pub taken : AreTaken new.taken

pub still_slots : (state : StoreState) (slots : List (Option Holding)) → IsFit state → IsStill state (record state { slots = slots })
still_slots state slots h = record {
  server = refl;
  roster = refl;
  capacity = refl;
  next = omega arith;
  last = h.next.1;
  ship = omega arith;
  hosts = h.hosts;
  taken = h.taken;
}

pub assembled : (old new : StoreState) → IsFit old → IsStill old new → EachStored new → AllApart new → promised new.slots ≤ new.capacity → IsFit new
assembled old new h k each apart room = record {
  servers = let e = ap (λ (r : Roster). length r.capacity) k.roster in let l = h.servers in omega (arith, e, l);
  first = let e = ap (λ (s : ServerId). s.0) k.server in let l = h.first in omega (arith, e, l);
  last = let e = ap (λ (s : ServerId). s.0) k.server in let l = h.last in omega (arith, e, l);
  next = ((let n = k.next in let l = h.next.0 in omega (arith, n, l)), k.last);
  hosts = k.hosts;
  taken = k.taken;
  each = each;
  apart = apart;
  room = room;
}

-- what is held stays right
pub stays_on : (old new : StoreState) (fileset : Fileset) (stay : Stay) → IsStill old new → StaysRight old fileset stay → StaysRight new fileset stay
stays_on old new fileset Writable k h = h
stays_on old new fileset Clone k h = h
stays_on old new fileset (Leaving to ship) k h =
    (h.0, h.1, subst (λ own. IsOther own to) (sym k.server) h.2, (let most = h.3 in let s = k.ship in omega (arith, most, s)))
stays_on old new fileset (Arriving from ship parts) k h = (h.0, h.1, subst (λ own. IsOther own from) (sym k.server) h.2)
stays_on old new fileset (Gone to) k h = (h.0, h.1, subst (λ own. IsOther own to) (sym k.server) h.2)

pub allowed_on : (old new : StoreState) (id : FilesetId) → IsStill old new → IsAllowed old id → IsAllowed new id
allowed_on old new id k h = record {
  first = h.first;
  last = h.last;
  number = h.number;
  given = λ own. (let below = h.given (own ∙ ap (λ (s : ServerId). s.0) k.server) in let n = k.next in omega (arith, below, n));
}

pub stored_on : (old new : StoreState) (holding : Holding) → IsStill old new → IsStored old holding → IsStored new holding
stored_on old new holding k h = record {
  server = h.server ∙ sym k.server;
  id = allowed_on old new holding.fileset.id k h.id;
  name = h.name;
  rest = h.rest;
  stay = stays_on old new holding.fileset holding.stay k h.stay;
}

-- a holding that is changed leaves only if none was leaving
abbrev pub LeavesAlone : List (Option Holding) → Holding → Holding → Type 0
LeavesAlone slots before after =
    (is_leaving after.stay ≡ true → is_leaving before.stay ≡ true)
    ⊎ ((t : ℕ) (b : Holding) → held_at slots t ≡ Some b → is_leaving b.stay ≡ false)

pub record IsChanged (old new : StoreState) (before after : Holding) : Type 0 where
  pub id : after.fileset.id ≡ before.fileset.id
  pub name : after.fileset.name ≡ before.fileset.name
  pub stored : IsStored new after
  pub promise : held_promise (Some after) ≤ held_promise (Some before)
  pub leaving : LeavesAlone old.slots before after

not_new : (p q : Bool) → (p ≡ true → q ≡ true) → q ≡ false → p ≡ false
not_new true q k e = absurd (false≢true (sym e ∙ k refl))
not_new false q k e = refl

two_left : (old new : StoreState) (before after b : Holding) (t : ℕ) → IsChanged old new before after → AreTwo before b → held_at old.slots t ≡ Some b → AreTwo after b
two_left old new before after b t c two e = record {
  ids = λ k. two.ids (sym c.id ∙ k);
  names = ap (λ n. same_name n b.fileset.name) c.name ∙ two.names;
  leaving = by c.leaving two.leaving;
}
  where
    by : LeavesAlone old.slots before after → (is_leaving before.stay ≡ false) ⊎ (is_leaving b.stay ≡ false) → (is_leaving after.stay ≡ false) ⊎ (is_leaving b.stay ≡ false)
    by (inr none) k = inr (none t b e)
    by (inl keeps) (inl off) = inl (not_new _ _ keeps off)
    by (inl keeps) (inr off) = inr off

two_right : (old new : StoreState) (before after a : Holding) (s : ℕ) → IsChanged old new before after → AreTwo a before → held_at old.slots s ≡ Some a → AreTwo a after
two_right old new before after a s c two e = record {
  ids = λ k. two.ids (k ∙ c.id);
  names = ap (λ n. same_name a.fileset.name n) c.name ∙ two.names;
  leaving = by c.leaving two.leaving;
}
  where
    by : LeavesAlone old.slots before after → (is_leaving a.stay ≡ false) ⊎ (is_leaving before.stay ≡ false) → (is_leaving a.stay ≡ false) ⊎ (is_leaving after.stay ≡ false)
    by (inr none) k = inl (none s a e)
    by (inl keeps) (inl off) = inl off
    by (inl keeps) (inr off) = inr (not_new _ _ keeps off)

-- what is held was held, or was changed
abbrev WasHeld : StoreState → ℕ → (Holding → Holding) → ℕ → Holding → Type 0
WasHeld old at f s b = ((s ≢ at) × (held_at old.slots s ≡ Some b)) ⊎ ((s ≡ at) × ((a : Holding) × (held_at old.slots at ≡ Some a) × (b ≡ f a)))

-- one slot is changed
pub in_place : (old new : StoreState) (at : ℕ) (f : Holding → Holding) → IsFit old → IsStill old new → new.slots ≡ changed_at old.slots at (option_map f)
    → ((a : Holding) → held_at old.slots at ≡ Some a → IsStored old a → IsChanged old new a (f a)) → IsFit new
in_place old new at f h k slots change = assembled old new h k each apart room
  where
    here : (o : Option Holding) (b : Holding) → held_at old.slots at ≡ o → option_map f o ≡ Some b → (a : Holding) × (held_at old.slots at ≡ Some a) × (b ≡ f a)
    here None b is e = absurd (cc)
    here (Some a) b is e = (a, is, (let same : b ≡ f a = cc in same))

    was : (s : ℕ) (b : Holding) → held_at new.slots s ≡ Some b → WasHeld old at f s b
    was s b e = by (cases_eq s at)
      where
        by : (s ≡ at) ⊎ (s ≢ at) → WasHeld old at f s b
        by (inl same) =
            inr (
              same,
              here (held_at old.slots at) b refl
                  (sym (held_changed old.slots at f) ∙ ap (λ xs. held_at xs at) (sym slots) ∙ ap (held_at new.slots) (sym same) ∙ e),
            )
        by (inr apart) = inl (apart, sym (held_changed_other old.slots at s f apart) ∙ ap (λ xs. held_at xs s) (sym slots) ∙ e)

    turned : (a : Holding) → held_at old.slots at ≡ Some a → IsChanged old new a (f a)
    turned a there = change a there (h.each at a there)

    each : EachStored new
    each s b e = by (was s b e)
      where
        by : WasHeld old at f s b → IsStored new b
        by (inl (apart, before)) = stored_on old new b k (h.each s b before)
        by (inr (same, (a, there, is))) = subst (IsStored new) (sym is) (turned a there).stored

    apart : AllApart new
    apart s t a b ne ea eb = by (was s a ea) (was t b eb)
      where
        by : WasHeld old at f s a → WasHeld old at f t b → AreTwo a b
        by (inl (off, wa)) (inl (far, wb)) = h.apart s t a b ne wa wb
        by (inl (off, wa)) (inr (same, (c, there, is))) =
            subst (λ x. AreTwo a x) (sym is) (two_right old new c (f c) a s (turned c there) (h.apart s at a c off wa there) wa)
        by (inr (same, (c, there, is))) (inl (off, wb)) =
            subst (λ x. AreTwo x b) (sym is)
            (two_left old new c (f c) b t (turned c there) (h.apart at t c b (λ e. off (sym e)) there wb) wb)
        by (inr (same, (c, there, is))) (inr (also, (d, y, z))) = absurd (ne (same ∙ sym also))

    room : promised new.slots ≤ new.capacity
    room =
        let less = promised_changed old.slots at f (λ a there. (turned a there).promise) in
        let e = ap promised slots in let c = k.capacity in let r = h.room in
        omega (arith, less, e, c, r)

-- all slots are changed alike, and none leaves
pub in_all : (old new : StoreState) (f : Holding → Holding) → IsFit old → IsStill old new → new.slots ≡ map (option_map f) old.slots
    → ((a : Holding) → IsStored old a → IsChanged old new a (f a)) → ((a : Holding) → (f a).stay ≡ a.stay)
    → ((a : Holding) → held_promise (Some (f a)) ≤ held_promise (Some a)) → IsFit new
in_all old new f h k slots change stays promise = assembled old new h k each apart room
  where
    here : (o : Option Holding) (b : Holding) (s : ℕ) → held_at old.slots s ≡ o → option_map f o ≡ Some b → (a : Holding) × (held_at old.slots s ≡ Some a) × (b ≡ f a)
    here None b s is e = absurd (cc)
    here (Some a) b s is e = (a, is, (let same : b ≡ f a = cc in same))

    was : (s : ℕ) (b : Holding) → held_at new.slots s ≡ Some b → (a : Holding) × (held_at old.slots s ≡ Some a) × (b ≡ f a)
    was s b e = here (held_at old.slots s) b s refl (sym (held_mapped old.slots s f) ∙ ap (λ xs. held_at xs s) (sym slots) ∙ e)

    each : EachStored new
    each s b e = let (a, there, is) = was s b e in subst (IsStored new) (sym is) (change a (h.each s a there)).stored

    off : (a : Holding) → is_leaving a.stay ≡ false → is_leaving (f a).stay ≡ false
    off a e = ap is_leaving (stays a) ∙ e

    two : (a b : Holding) → IsStored old a → IsStored old b → AreTwo a b → AreTwo (f a) (f b)
    two a b x y apart = record {
      ids = λ e. apart.ids (sym (change a x).id ∙ e ∙ (change b y).id);
      names =
          ap (λ n. same_name n (f b).fileset.name) (change a x).name
          ∙ ap (λ n. same_name a.fileset.name n) (change b y).name ∙ apart.names;
      leaving = by apart.leaving;
    }
      where
        by : (is_leaving a.stay ≡ false) ⊎ (is_leaving b.stay ≡ false) → (is_leaving (f a).stay ≡ false) ⊎ (is_leaving (f b).stay ≡ false)
        by (inl e) = inl (off a e)
        by (inr e) = inr (off b e)

    apart : AllApart new
    apart s t a b ne ea eb =
        let (c, x, is) = was s a ea in
        let (d, y, alike) = was t b eb in
        subst (λ z. AreTwo z b) (sym is) (subst (λ z. AreTwo (f c) z) (sym alike) (two c d (h.each s c x) (h.each t d y) (h.apart s t c d ne x y)))

    room : promised new.slots ≤ new.capacity
    room =
        let less = promised_mapped old.slots f promise in
        let e = ap promised slots in let c = k.capacity in let r = h.room in
        omega (arith, less, e, c, r)

-- one slot is new
abbrev IsNew : StoreState → ℕ → Holding → ℕ → Holding → Type 0
IsNew old at holding s b = ((s ≢ at) × (held_at old.slots s ≡ Some b)) ⊎ ((s ≡ at) × (b ≡ holding))

pub in_slot : (old new : StoreState) (at : ℕ) (holding : Holding) → IsFit old → IsStill old new → new.slots ≡ set old.slots at (Some holding)
    → IsStored new holding → is_leaving holding.stay ≡ false
    → ((t : ℕ) (b : Holding) → t ≢ at → held_at old.slots t ≡ Some b → (b.fileset.id ≢ holding.fileset.id) × (same_name b.fileset.name holding.fileset.name ≡ false))
    → promised old.slots + held_promise (Some holding) ≤ old.capacity → IsFit new
in_slot old new at holding h k slots stored stays others fits = assembled old new h k each apart room
  where
    was : (s : ℕ) (b : Holding) → held_at new.slots s ≡ Some b → IsNew old at holding s b
    was s b e = by (cases_eq s at)
      where
        told : held_at (set old.slots at (Some holding)) s ≡ Some b
        told = ap (λ xs. held_at xs s) (sym slots) ∙ e

        by : (s ≡ at) ⊎ (s ≢ at) → IsNew old at holding s b
        by (inl same) =
            let inside = held_inside (set old.slots at (Some holding)) s b told in
            let long = length_set old.slots at (Some holding) in
            let there = held_set old.slots at holding (omega (arith, inside, long, same)) in
            let found : held_at (set old.slots at (Some holding)) at ≡ Some b = ap (held_at (set old.slots at (Some holding))) (sym same) ∙ told in
            inr (same, (let is : b ≡ holding = cc in is))
        by (inr apart) = inl (apart, sym (held_set_other old.slots at s holding apart) ∙ told)

    each : EachStored new
    each s b e = by (was s b e)
      where
        by : IsNew old at holding s b → IsStored new b
        by (inl (apart, before)) = stored_on old new b k (h.each s b before)
        by (inr (same, is)) = subst (IsStored new) (sym is) stored

    apart : AllApart new
    apart s t a b ne ea eb = by (was s a ea) (was t b eb)
      where
        by : IsNew old at holding s a → IsNew old at holding t b → AreTwo a b
        by (inl (off, wa)) (inl (far, wb)) = h.apart s t a b ne wa wb
        by (inl (off, wa)) (inr (same, is)) =
            let other = others s a off wa in
            subst (λ x. AreTwo a x) (sym is) (record { ids = other.0; names = other.1; leaving = inr stays })
        by (inr (same, is)) (inl (off, wb)) =
            let other = others t b off wb in
            subst (λ x. AreTwo x b) (sym is)
            (record { ids = λ e. other.0 (sym e); names = names_apart holding.fileset.name b.fileset.name other.1; leaving = inl stays })
        by (inr (same, is)) (inr (also, alike)) = absurd (ne (same ∙ sym also))

    room : promised new.slots ≤ new.capacity
    room =
        let less = promised_set old.slots at holding in
        let e = ap promised slots in let c = k.capacity in
        omega (arith, less, e, c, fits)
