-- The numbers of requests that a store keeps, where a fileset leaves it or comes to it.
use Rattle.store_laws.proofs.HistoryNumbers.{above_none}
use Rattle.std.proofs.Common.{◌≡◌, ◌≤◌, ◌<◌, ℕ, zero, suc, ◌+◌, ◌==◌, Bool, true, false, List, [], ◌∷◌, map, set, Option, Some, None, unwrap_or, refl, sym, ap, ◌∙◌, subst, arith}
use Rattle.std.specs.Prelude.{if◌then◌else◌, slice_get}
use Rattle.std.specs.Option.{option_map}
use Rattle.base_types.specs.Lists.{changed_at}
use Rattle.base_types.specs.declared.ids.HostId.{HostId}
use Rattle.base_types.specs.declared.ids.ServerId.{ServerId}
use Rattle.tree_calls.specs.declared.reply.Reply.TheVariants.{Ok as Accepted}
use Rattle.tree_calls.specs.declared.ship.Mover.{Mover}
use Rattle.tree_calls.specs.declared.ship.Record.{Record}
use Rattle.store_acts.specs.Moving.{held_left, received}
use Rattle.store_state.specs.Outcomes.{change_decided}
use Rattle.store_state.specs.State.{forgotten, held_at, no_record, with_held}
use Rattle.store_state.specs.declared.state.Holding.{Holding}
use Rattle.store_state.specs.declared.state.StoreState.{StoreState}
use Rattle.store_laws.proofs.Keys.{same_key}
use Rattle.store_laws.specs.HistoryLaws.{AreBelow, IsBehind}
use Rattle.store_laws.proofs.HistoryNumbers.{HaveRisen, IsLow, same_host}
use Rattle.store_laws.specs.MovedLaws.{move_entry, numbers_after}

-- what is known of each record
record_mapped : (P : Record → Type 0) (f : Record → Record) (records : List Record) (i : ℕ) →
    P no_record → ((r : Record) → P r → P (f r)) → P (unwrap_or (slice_get records i) no_record) →
    P (unwrap_or (slice_get (map f records) i) no_record)
record_mapped P f [] i n k h = h
record_mapped P f (r ∷ records) zero n k h = k r h
record_mapped P f (r ∷ records) (suc i) n k h = record_mapped P f records i n k h

record_changed : (records : List Record) (i j : ℕ) (f : Record → Record) (P Q : Record → Type 0) →
    ((r : Record) → P r → Q r) → (i ≡ j → (r : Record) → P r → Q (f r)) →
    P (unwrap_or (slice_get records j) no_record) → Q (unwrap_or (slice_get (changed_at records i f) j) no_record)
record_changed [] i j f P Q a b h = a no_record h
record_changed (r ∷ records) zero zero f P Q a b h = b refl r h
record_changed (r ∷ records) zero (suc j) f P Q a b h = a _ h
record_changed (r ∷ records) (suc i) zero f P Q a b h = a r h
record_changed (r ∷ records) (suc i) (suc j) f P Q a b h = record_changed records i j f P Q a (λ e. b (ap suc e)) h

-- the numbers behind a move
abbrev pub later_of : (HostId → ℕ) → HostId → ServerId → List ℕ → ServerId → HostId → ℕ
later_of next host server name to = numbers_after next (move_entry host (next host) server name to ∷ [])

pub later_risen : (next : HostId → ℕ) (host : HostId) (server : ServerId) (name : List ℕ) (to : ServerId) →
    HaveRisen next (later_of next host server name to)
later_risen next host server name to any = by (host.0 == any.0)
  where
    by : (b : Bool) → next any ≤ (if b then next any + 1 else next any)
    by true = omega arith
    by false = omega arith

pub later_own : (next : HostId → ℕ) (host : HostId) (server : ServerId) (name : List ℕ) (to : ServerId) →
    later_of next host server name to host ≡ next host + 1
later_own next host server name to = ap (λ b. if b then next host + 1 else next host) (same_key host.0)

-- the records that come with a fileset
low_more : (n m : ℕ) (r : Record) → n ≤ m → IsLow n r → IsLow m r
low_more n m r l h = let a = h.0 in let b = h.1 in (omega (arith, l, a), omega (arith, l, b))

below_received : (next : HostId → ℕ) (records : List Record) → ((host : HostId) → 0 < next host) →
    AreBelow next records → AreBelow next (map received records)
below_received next records some h host =
    record_mapped (IsLow (next host)) received records host.0 (some host, some host) (λ r low. low) (h host)

pub below_moved : (next later : HostId → ℕ) (records : List Record) (mover : Mover) → HaveRisen next later →
    ((host : HostId) → 0 < next host) → mover.number < later mover.host → AreBelow next records →
    AreBelow later (changed_at (map received records) mover.host.0 (change_decided mover.number Accepted))
below_moved next later records mover risen some new h any =
    record_changed (map received records) mover.host.0 any.0 (change_decided mover.number Accepted) (IsLow (next any))
    (IsLow (later any)) (λ r. low_more (next any) (later any) r (risen any))
    (λ e r low.
    (let number : mover.number < later any = subst (λ (one : HostId). mover.number < later one)
    (same_host mover.host any e) new in
    let give = low.1 in let more = risen any in
    (number, omega (arith, give, more))))
    (below_received next records some h any)

below_forgotten : (next : HostId → ℕ) (records : List Record) → ((host : HostId) → 0 < next host) →
    AreBelow next records → AreBelow next (forgotten records)
below_forgotten next records some h host =
    record_mapped (IsLow (next host)) (λ kept. no_record) records host.0 (some host, some host)
    (λ r low. (some host, some host)) (h host)

-- a table with one slot changed, or put
changed_holding : (slots : List (Option Holding)) (i j : ℕ) (f : Holding → Holding) (P : Holding → Type 0) →
    ((h : Holding) → P h → P (f h)) → ((h : Holding) → held_at slots j ≡ Some h → P h) → (h : Holding) →
    held_at (changed_at slots i (option_map f)) j ≡ Some h → P h
changed_holding [] i j f P b k h e = absurd (cc)
changed_holding (slot ∷ slots) zero (suc j) f P b k h e = k h e
changed_holding (slot ∷ slots) (suc i) zero f P b k h e = k h e
changed_holding (slot ∷ slots) (suc i) (suc j) f P b k h e = changed_holding slots i j f P b k h e
changed_holding (None ∷ slots) zero zero f P b k h e = absurd (cc)
changed_holding (Some x ∷ slots) zero zero f P b k h e =
    let same : f x ≡ h = cc in subst P same (b x (k x refl))

put_holding : (slots : List (Option Holding)) (i j : ℕ) (new : Holding) (P : Holding → Type 0) → P new →
    ((h : Holding) → held_at slots j ≡ Some h → P h) → (h : Holding) →
    held_at (set slots i (Some new)) j ≡ Some h → P h
put_holding [] i j new P n k h e = absurd (cc)
put_holding (slot ∷ slots) zero zero new P n k h e = let same : new ≡ h = cc in subst P same n
put_holding (slot ∷ slots) zero (suc j) new P n k h e = k h e
put_holding (slot ∷ slots) (suc i) zero new P n k h e = k h e
put_holding (slot ∷ slots) (suc i) (suc j) new P n k h e = put_holding slots i j new P n k h e

-- a store in which one holding has changed, and its records are still below
pub behind_changed : (next : HostId → ℕ) (state : StoreState) (at : ℕ) (f : Holding → Holding) →
    ((h : Holding) → AreBelow next h.records → AreBelow next (f h).records) → IsBehind next state →
    IsBehind next (with_held state at f)
behind_changed next state at f k h = record {
  own = h.own;
  held = λ slot. changed_holding state.slots at slot f (λ x. AreBelow next x.records) k (h.held slot);
}

-- and one in which one has come
pub behind_put : (next : HostId → ℕ) (old new : StoreState) (slot : ℕ) (holding : Holding) →
    new.records ≡ old.records → new.slots ≡ set old.slots slot (Some holding) → AreBelow next holding.records →
    IsBehind next old → IsBehind next new
behind_put next old new slot holding records slots k h = record {
  own = subst (AreBelow next) (sym records) h.own;
  held = λ at any e. put_holding old.slots slot at holding (λ x. AreBelow next x.records) k (h.held at) any
      (ap (λ xs. held_at xs at) (sym slots) ∙ e);
}

-- a store that a fileset has left
pub behind_left : (next : HostId → ℕ) (state : StoreState) (at : ℕ) → IsBehind next state →
    IsBehind next (with_held state at held_left)
behind_left next state at h =
    behind_changed next state at held_left (λ x k. below_forgotten next x.records (above_none next state h) k) h
