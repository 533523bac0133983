-- The stores of servers, looked at one after the other.
use Rattle.service_stores.proofs.Lists.{get_other, get_same, size_kept}
use Rattle.std.proofs.Common.{◌≡◌, ◌≤◌, ◌<◌, ◌+◌, ◌⊎◌, ℕ, zero, suc, inl, inr, List, [], ◌∷◌, length, slice_get, Some, refl, sym, ap, ◌∙◌, subst, arith}
use Rattle.std.proofs.Math.ListN.{set}
use Rattle.std.proofs.lemmas.Bool.{cases_lt}
use Rattle.std.proofs.lemmas.Option.{same_Some}
use Rattle.base_types.specs.Faults.{RoseBy}
use Rattle.tree_calls.specs.declared.roster.Roster.{Roster}
use Rattle.store_memory.specs.Views.{IsSameStore, View}
use Rattle.service_moves.specs.Stopping.{IsStopped}
use Rattle.service_moves.specs.Stores.{AreSame, AreStores, IsStore}
use Rattle.service_stores.specs.Steps.{MayBeAsked}
use Rattle.service_moves.specs.declared.stopped.RunStopped.{RunStopped}
use Rattle.service_moves.specs.declared.stopped.RunStopped.TheVariants.{Failed, Unfit, Memory}

-- one of the stores
pub store_at : {S : Type 0} (view : S → View) (roster : Roster) (worn number : ℕ) (stores : List S) (k : ℕ) (store : S) →
    AreStores view roster worn number stores → slice_get stores k ≡ Some store →
    IsStore roster worn (number + k) (view store)
store_at view roster worn number [] k store h e = absurd (cc)
store_at view roster worn number (other ∷ stores) zero store h e =
    let same : other ≡ store = cc in
    let n : number ≡ number + 0 = omega arith in
    subst (λ i. IsStore roster worn i (view store)) n (subst (λ s. IsStore roster worn number (view s)) same h.0)
store_at view roster worn number (other ∷ stores) (suc k) store h e =
    let n : (number + 1) + k ≡ number + suc k = omega arith in
    subst (λ i. IsStore roster worn i (view store)) n (store_at view roster worn (number + 1) stores k store h.1 e)

pub are_stores : {S : Type 0} (view : S → View) (roster : Roster) (worn number : ℕ) (stores : List S) →
    ((k : ℕ) (store : S) → slice_get stores k ≡ Some store → IsStore roster worn (number + k) (view store)) →
    AreStores view roster worn number stores
are_stores view roster worn number [] h = tt
are_stores view roster worn number (store ∷ stores) h =
    let n : number + 0 ≡ number = omega arith in (
      subst (λ i. IsStore roster worn i (view store)) n (h 0 store refl),
      are_stores view roster worn (number + 1) stores
          (λ k other e. (let n : number + suc k ≡ (number + 1) + k = omega arith in
          subst (λ i. IsStore roster worn i (view other)) n (h (suc k) other e))),
    )

worn_more : (roster : Roster) (worn more number : ℕ) (store : View) → worn ≤ more → IsStore roster worn number store →
    IsStore roster more number store
worn_more roster worn more number store le h = record {
  server = h.server;
  roster_is = h.roster_is;
  ready = h.ready;
  mendable = h.mendable;
  wear = (let low = h.wear in omega (arith, le, low));
}

pub stores_more : {S : Type 0} (view : S → View) (roster : Roster) (worn more number : ℕ) (stores : List S) →
    worn ≤ more → AreStores view roster worn number stores → AreStores view roster more number stores
stores_more view roster worn more number [] le h = tt
stores_more view roster worn more number (store ∷ stores) le h =
    (worn_more roster worn more number (view store) le h.0, stores_more view roster worn more (number + 1) stores le h.1)

-- such stores may be asked
asked_at : {S : Type 0} (view : S → View) (roster : Roster) (worn number : ℕ) (stores : List S) → AreStores view roster worn number stores
    → (k : ℕ) (store : S) → slice_get stores k ≡ Some store → (view store).ready
asked_at view roster worn number [] are k store e = absurd (cc)
asked_at view roster worn number (x ∷ stores) are zero store e = subst (λ s. (view s).ready) (same_Some x store e) are.0.ready
asked_at view roster worn number (x ∷ stores) are (suc k) store e = asked_at view roster worn (number + 1) stores are.1 k store e

pub stores_asked : {S : Type 0} (view : S → View) (roster : Roster) (worn number : ℕ) (stores : List S) → AreStores view roster worn number stores → MayBeAsked view stores
stores_asked view roster worn number stores are = record { each = asked_at view roster worn number stores are }

-- a store is that of the same server as before
pub record StaysSame (old new : View) : Type 0 where
  pub same : IsSameStore old new
  pub mendable : new.mendable
  pub counted : old.faults ≤ new.faults

pub are_same : {S : Type 0} (view : S → View) (olds news : List S) → length news ≡ length olds →
    ((k : ℕ) (old new : S) → slice_get olds k ≡ Some old → slice_get news k ≡ Some new → StaysSame (view old) (view new)) →
    AreSame view olds news
are_same view [] [] n h = tt
are_same view [] (new ∷ news) n h = absurd (omega (arith, n))
are_same view (old ∷ olds) [] n h = absurd (omega (arith, n))
are_same view (old ∷ olds) (new ∷ news) n h =
    let here = h 0 old new refl refl in (
      here.same,
      here.mendable,
      here.counted,
      are_same view olds news (omega (arith, n)) (λ k a b was is. h (suc k) a b was is),
    )

pub stays_same : (view : View) → view.mendable → StaysSame view view
stays_same view m = record { same = record { server = refl; roster = refl }; mendable = m; counted = omega arith }

pub same_stores : {S : Type 0} (view : S → View) (roster : Roster) (worn number : ℕ) (stores : List S) →
    AreStores view roster worn number stores → AreSame view stores stores
same_stores view roster worn number [] h = tt
same_stores view roster worn number (store ∷ stores) h = (
  record { server = refl; roster = refl },
  h.0.mendable,
  omega arith,
  same_stores view roster worn (number + 1) stores h.1,
)

pub same_then : {S : Type 0} (view : S → View) (first second third : List S) → AreSame view first second →
    AreSame view second third → AreSame view first third
same_then view [] [] [] h k = tt
same_then view [] [] (c ∷ third) h k = absurd k
same_then view [] (b ∷ second) third h k = absurd h
same_then view (a ∷ first) [] third h k = absurd h
same_then view (a ∷ first) (b ∷ second) [] h k = absurd k
same_then view (a ∷ first) (b ∷ second) (c ∷ third) h k = (
  record { server = k.0.server ∙ h.0.server; roster = k.0.roster ∙ h.0.roster },
  k.1,
  (let low = h.2 in let high = k.2 in omega (arith, low, high)),
  same_then view first second third h.3 k.3,
)

pub same_count : {S : Type 0} (view : S → View) (olds news : List S) → AreSame view olds news →
    length news ≡ length olds
same_count view [] [] h = refl
same_count view [] (new ∷ news) h = absurd h
same_count view (old ∷ olds) [] h = absurd h
same_count view (old ∷ olds) (new ∷ news) h = ap suc (same_count view olds news h.3)

-- the store of a server before
was_there : {S : Type 0} (view : S → View) (olds news : List S) (k : ℕ) (new : S) → AreSame view olds news →
    slice_get news k ≡ Some new → (old : S) × (slice_get olds k ≡ Some old) × ((view old).faults ≤ (view new).faults)
was_there view [] [] k new h e = absurd (cc)
was_there view [] (n ∷ news) k new h e = absurd h
was_there view (o ∷ olds) [] k new h e = absurd h
was_there view (o ∷ olds) (n ∷ news) zero new h e =
    let same : n ≡ new = cc in (o, refl, subst (λ s. (view o).faults ≤ (view s).faults) same h.2)
was_there view (o ∷ olds) (n ∷ news) (suc k) new h e = was_there view olds news k new h.3 e

rose_since : (n a b c : ℕ) → a ≤ b → RoseBy n b c → RoseBy n a c
rose_since n a b c le h = omega (arith, le, h)

-- what stopped a later part stopped the whole
pub stopped_then : {S : Type 0} (tells : Type 0) (view : S → View) (first second third : List S) (why : RunStopped) →
    AreSame view first second → IsStopped tells view [] second third why → IsStopped tells view [] first third why
stopped_then tells view first second third Memory same h = h
stopped_then tells view first second third (Unfit disk slot) same h = λ told. (let no = (h told).0.1 in absurd (cc))
stopped_then tells view first second third (Failed server) same h =
    let (old, was, le) = was_there view first second h.k h.before same h.was in
    record {
      k = h.k;
      numbered = h.numbered;
      before = old;
      after = h.after;
      was = was;
      is = h.is;
      twice = rose_since 2 (view old).faults (view h.before).faults (view h.after).faults le h.twice;
      last = h.last;
    }

-- the first k stores went through something, and nothing was asked of the others
pub record Passed {S : Type 0} (Goes : ℕ → S → S → Type 0) (k : ℕ) (olds news : List S) : Type 0 where
  pub count : length news ≡ length olds
  pub seen : (j : ℕ) (old new : S) → j < k → slice_get olds j ≡ Some old → slice_get news j ≡ Some new → Goes j old new
  pub rest : (j : ℕ) → k ≤ j → slice_get news j ≡ slice_get olds j

pub none_passed : {S : Type 0} (Goes : ℕ → S → S → Type 0) (stores : List S) → Passed Goes 0 stores stores
none_passed Goes stores =
    record { count = refl; seen = λ j old new lt. absurd (omega (arith, lt)); rest = λ j le. refl }

-- one more
pub one_passed : {S : Type 0} (Goes : ℕ → S → S → Type 0) (k : ℕ) (olds now : List S) (store after : S) →
    k < length now → Passed Goes k olds now → slice_get now k ≡ Some store → Goes k store after →
    Passed Goes (k + 1) olds (set now k after)
one_passed {S = S} Goes k olds now store after lt p at goes = record {
  count = size_kept now k after ∙ p.count;
  seen = λ j old new below was is. by j old new (cases_lt j k) below was is;
  rest = λ j le. get_other now k j after (λ e. omega (arith, le, e)) ∙ p.rest j (omega (arith, le));
}
  where
    here : (old new : S) → slice_get olds k ≡ Some old → slice_get (set now k after) k ≡ Some new → Goes k old new
    here old new was is =
        let this : store ≡ old = same_Some store old (sym at ∙ p.rest k (omega arith) ∙ was) in
        let that : after ≡ new = same_Some after new (sym (get_same now k after lt) ∙ is) in
        subst (λ y. Goes k old y) that (subst (λ x. Goes k x after) this goes)

    by : (j : ℕ) (old new : S) → ((j < k) ⊎ (k ≤ j)) → j < k + 1 → slice_get olds j ≡ Some old →
        slice_get (set now k after) j ≡ Some new → Goes j old new
    by j old new (inl less) below was is =
        p.seen j old new less was (sym (get_other now k j after (λ e. omega (arith, less, e))) ∙ is)
    by j old new (inr more) below was is =
        let e : k ≡ j = omega (arith, more, below) in
        subst (λ i. slice_get olds i ≡ Some old → slice_get (set now k after) i ≡ Some new → Goes i old new) e (here old new) was is

-- a fact of each store that went through it, and of each that didn't
pub at_each : {S : Type 0} (Goes Is : ℕ → S → S → Type 0) (k : ℕ) (olds news : List S) → Passed Goes k olds news →
    ((j : ℕ) (old new : S) → slice_get olds j ≡ Some old → Goes j old new → Is j old new) →
    ((j : ℕ) (old : S) → slice_get olds j ≡ Some old → Is j old old) →
    (j : ℕ) (old new : S) → slice_get olds j ≡ Some old → slice_get news j ≡ Some new → Is j old new
at_each Goes Is k olds news p gone stayed j old new was is = by (cases_lt j k)
  where
    by : ((j < k) ⊎ (k ≤ j)) → Is j old new
    by (inl less) = gone j old new was (p.seen j old new less was is)
    by (inr more) =
        subst (λ y. Is j old y) (same_Some old new (sym was ∙ sym (p.rest j more) ∙ is)) (stayed j old was)
