-- What becomes of the stores of all servers, each of which does its acts.
use Rattle.std.proofs.Common.{◌≡◌, ◌≤◌, ◌<◌, ◌+◌, ◌*◌, ℕ, suc, inl, inr, List, [], ◌∷◌, length, map, slice_get, Some, None, refl, sym, ap, ◌∙◌, subst, arith}
use Rattle.std.specs.Option.{option_map}
use Rattle.std.proofs.Math.ListN.{set}
use Rattle.std.proofs.lemmas.Option.{slice_get-map, slice_get_cases, slice_get_within}
use Rattle.base_types.specs.declared.ids.HostId.{HostId}
use Rattle.base_types.specs.declared.ids.ServerId.{ServerId}
use Rattle.tree_calls.specs.declared.entry.Entry.{Entry}
use Rattle.tree_calls.specs.declared.roster.Roster.{Roster}
use Rattle.store_memory.specs.Views.{View}
use Rattle.tree_answers.specs.declared.tree.Tree.{Tree}
use Rattle.tree_answers.specs.Histories.{after_history}
use Rattle.store_laws.specs.Acts.{acts_of}
use Rattle.store_laws.specs.HistoryLaws.{Happens, IsBehind}
use Rattle.store_laws.specs.MoveKeeping.{KeepAll}
use Rattle.store_laws.specs.MovedLaws.{numbers_after}
use Rattle.store_laws.proofs.Pieces.{pieces_are_kept}
use Rattle.store_acts.specs.Acts.{state_after}
use Rattle.service_moves.specs.Batches.{batch_wear}
use Rattle.service_moves.specs.Stopping.{IsStopped}
use Rattle.service_moves.specs.Stores.{AreSame, AreStores, IsStore, states_of}
use Rattle.service_moves.specs.declared.stopped.RunStopped.{RunStopped}
use Rattle.service_moves.specs.declared.stopped.RunStopped.TheVariants.{Failed, Unfit, Memory}
use Rattle.store_state.specs.declared.state.StoreState.{StoreState}
use Rattle.store_laws.specs.TreeKeeping.{KeepsOf}
use Rattle.service_stores.specs.Stopping.{IsStoppedAt}
use Rattle.service_stores.proofs.KeepStores.{Passed, StaysSame, are_same, are_stores, at_each, one_passed, stays_same, store_at}
use Rattle.service_stores.proofs.Lists.{get_same}

-- the store of a server did its acts of a history
pub record DidPart (tells : Type 0) (tree : Tree) (history : List Entry) (k : ℕ) (old new : View) : Type 0 where
  pub stays : StaysSame old new
  pub ready : new.ready
  pub wear : new.wear ≤ old.wear + batch_wear * length history
  pub state : tells → (next : HostId → ℕ) → Happens next tree history → KeepsOf tree old.state
      → IsBehind next old.state
      → new.state ≡ state_after old.state (acts_of (record { 0 = k + 1 }) tree None history)

abbrev pub did : {S : Type 0} → Type 0 → (S → View) → Tree → List Entry → ℕ → S → S → Type 0
did tells view tree history k old new = DidPart tells tree history k (view old) (view new)

abbrev stays : {S : Type 0} → (S → View) → ℕ → S → S → Type 0
stays view k old new = StaysSame (view old) (view new)

only_stays : {S : Type 0} (tells : Type 0) (view : S → View) (tree : Tree) (history : List Entry) (k : ℕ)
    (olds news : List S) → Passed (did tells view tree history) k olds news → Passed (stays view) k olds news
only_stays tells view tree history k olds news p = record {
  count = p.count;
  seen = λ j old new lt was is. (p.seen j old new lt was is).stays;
  rest = p.rest;
}

-- so far
passed_same : {S : Type 0} (view : S → View) (roster : Roster) (worn k : ℕ) (olds news : List S) →
    AreStores view roster worn 1 olds → Passed (stays view) k olds news → AreSame view olds news
passed_same view roster worn k olds news stores p =
    are_same view olds news p.count
    (at_each (stays view) (stays view) k olds news p (λ j old new was goes. goes)
    (λ j old was. stays_same (view old) (store_at view roster worn 1 olds j old stores was).mendable))

pub parts_same : {S : Type 0} (tells : Type 0) (view : S → View) (tree : Tree) (history : List Entry) (roster : Roster)
    (worn k : ℕ) (olds news : List S) → AreStores view roster worn 1 olds →
    Passed (did tells view tree history) k olds news → AreSame view olds news
parts_same tells view tree history roster worn k olds news stores p =
    passed_same view roster worn k olds news stores (only_stays tells view tree history k olds news p)

-- up to one at which it stopped
pub stopped_same : {S : Type 0} (tells : Type 0) (view : S → View) (tree : Tree) (history : List Entry)
    (roster : Roster) (worn k : ℕ) (olds now : List S) (store after : S) → AreStores view roster worn 1 olds →
    k < length now → Passed (did tells view tree history) k olds now → slice_get now k ≡ Some store →
    StaysSame (view store) (view after) → AreSame view olds (set now k after)
stopped_same tells view tree history roster worn k olds now store after stores lt p at goes =
    passed_same view roster worn (k + 1) olds (set now k after) stores
    (one_passed (stays view) k olds now store after lt (only_stays tells view tree history k olds now p) at goes)

pub stopped_at_one : {S : Type 0} (tells : Type 0) (view : S → View) (tree : Tree) (history : List Entry) (k : ℕ)
    (olds now : List S) (store after : S) (why : RunStopped) → k < length now →
    Passed (did tells view tree history) k olds now → slice_get now k ≡ Some store →
    IsStoppedAt (record { 0 = k + 1 }) (view store) (view after) why →
    IsStopped tells view [] olds (set now k after) why
stopped_at_one tells view tree history k olds now store after Memory lt p at h = h
stopped_at_one tells view tree history k olds now store after (Unfit disk slot) lt p at h = absurd h
stopped_at_one tells view tree history k olds now store after (Failed server) lt p at h = record {
  k = k;
  numbered = ap (λ (s : ServerId). s.0) h.0;
  before = store;
  after = after;
  was = sym (p.rest k (omega arith)) ∙ at;
  is = get_same now k after lt;
  twice = h.1;
  last = h.2;
}

-- the next one
pub next_store : {S : Type 0} (tells : Type 0) (view : S → View) (tree : Tree) (history : List Entry) (roster : Roster)
    (worn k : ℕ) (olds now : List S) (store : S) → AreStores view roster worn 1 olds →
    Passed (did tells view tree history) k olds now → slice_get now k ≡ Some store →
    IsStore roster worn (k + 1) (view store)
next_store tells view tree history roster worn k olds now store stores p at =
    let n : 1 + k ≡ k + 1 = omega arith in
    subst (λ i. IsStore roster worn i (view store)) n
    (store_at view roster worn 1 olds k store stores (sym (p.rest k (omega arith)) ∙ at))

-- all of them
was_one : {S : Type 0} (olds news : List S) (k : ℕ) (new : S) → length news ≡ length olds →
    slice_get news k ≡ Some new → (old : S) × (slice_get olds k ≡ Some old)
was_one olds news k new n e = elim (slice_get_cases olds k).1 [
  | inl h ↦ (h.0, h.2)
  | inr h ↦ (let lt = slice_get_within news k new e in let past = h.0 in absurd (omega (arith, lt, past, n)))
]

pub parts_stores : {S : Type 0} (tells : Type 0) (view : S → View) (tree : Tree) (history : List Entry)
    (roster : Roster) (worn k : ℕ) (olds news : List S) → length news ≤ k →
    Passed (did tells view tree history) k olds news → AreStores view roster worn 1 olds →
    AreStores view roster (worn + 2048 * length history) 1 news
parts_stores {S = S} tells view tree history roster worn k olds news all p stores =
    are_stores view roster (worn + 2048 * length history) 1 news by
  where
    by : (j : ℕ) (new : S) → slice_get news j ≡ Some new →
        IsStore roster (worn + 2048 * length history) (1 + j) (view new)
    by j new is =
        let (old, was) = was_one olds news j new p.count is in
        let lt = slice_get_within news j new is in
        let before = store_at view roster worn 1 olds j old stores was in
        let part = p.seen j old new (omega (arith, lt, all)) was is in
        record {
          server = part.stays.same.server ∙ before.server;
          roster_is = part.stays.same.roster ∙ before.roster_is;
          ready = part.ready;
          mendable = part.stays.mendable;
          wear = (let low = part.wear in let had = before.wear in omega (arith, low, had));
        }

states_go : {S : Type 0} (view : S → View) (f : StoreState → StoreState) (olds news : List S) →
    length news ≡ length olds →
    ((k : ℕ) (old new : S) → slice_get olds k ≡ Some old → slice_get news k ≡ Some new →
    (view new).state ≡ f (view old).state) →
    states_of view news ≡ map f (states_of view olds)
states_go view f [] [] n h = refl
states_go view f [] (new ∷ news) n h = absurd (omega (arith, n))
states_go view f (old ∷ olds) [] n h = absurd (omega (arith, n))
states_go view f (old ∷ olds) (new ∷ news) n h =
    ap (λ state. state ∷ states_of view news) (h 0 old new refl refl)
    ∙ ap (λ states. f (view old).state ∷ states)
    (states_go view f olds news (omega (arith, n)) (λ k a b was is. h (suc k) a b was is))

pub parts_kept : {S : Type 0} (tells : Type 0) (view : S → View) (tree : Tree) (history : List Entry) (k : ℕ)
    (olds news : List S) → length news ≤ k → Passed (did tells view tree history) k olds news → tells →
    (next : HostId → ℕ) → Happens next tree history → KeepAll next tree (states_of view olds) →
    KeepAll (numbers_after next history) (after_history tree history) (states_of view news)
parts_kept {S = S} tells view tree history k olds news all p told next happens keep =
    subst (KeepAll (numbers_after next history) (after_history tree history))
    (sym (states_go view (λ state. state_after state (acts_of state.server tree None history)) olds news p.count each))
    (pieces_are_kept next tree history (states_of view olds) happens keep)
  where
    each : (j : ℕ) (old new : S) → slice_get olds j ≡ Some old → slice_get news j ≡ Some new →
        (view new).state ≡ state_after (view old).state (acts_of (view old).state.server tree None history)
    each j old new was is =
        let lt = slice_get_within news j new is in
        let there : slice_get (states_of view olds) j ≡ Some (view old).state =
        slice_get-map (λ store. (view store).state) olds j ∙ ap (λ o. option_map (λ store. (view store).state) o) was in
        (p.seen j old new (omega (arith, lt, all)) was is).state told next happens
        (keep.keeps j (view old).state there) (keep.behind j (view old).state there)
        ∙ ap (λ server. state_after (view old).state (acts_of server tree None history))
        (sym (keep.own j (view old).state there))
