-- What a step of a start does to the stores of servers.
use Rattle.std.proofs.Common.{◌≡◌, ℕ, zero, suc, ◌+◌, ◌<◌, ◌≤◌, List, [], ◌∷◌, map, length, inl, inr, refl, sym, subst, ap, ◌∙◌, arith}
use Rattle.std.specs.Prelude.{slice_get, Some, IsTrue, Result, Err}
use Rattle.std.proofs.Math.ListN.{set}
use Rattle.std.proofs.lemmas.Bool.{cases_lt}
use Rattle.std.proofs.lemmas.Option.{slice_get_within}
use Rattle.base_types.specs.Faults.{RoseBy}
use Rattle.base_types.specs.declared.ids.ServerId.{ServerId}
use Rattle.tree_calls.specs.declared.roster.Roster.{Roster}
use Rattle.store_memory.specs.Views.{View, IsSameStore}
use Rattle.store_memory.specs.declared.store.StoreFault.{StoreFault}
use Rattle.store_memory.specs.declared.store.StoreFault.TheVariants as faults
use Rattle.service_starts.specs.Fitting.{IsRefused}
use Rattle.service_starts.specs.declared.fitting.FitRefused.TheVariants as fit
use Rattle.service_starts.specs.declared.told.Told.{Told}
use Rattle.service_moves.specs.Batches.{IsBlamedTwice}
use Rattle.service_moves.specs.Causes.{stopped_at}
use Rattle.service_moves.specs.Stores.{states_of, AreStores, AreSame}
use Rattle.service_moves.specs.Stopping.{HasFailed, IsStopped}
use Rattle.service_moves.specs.declared.stopped.RunStopped.{RunStopped}
use Rattle.service_moves.specs.declared.stopped.RunStopped.TheVariants.{Failed, Unfit, Memory}
use Rattle.store_state.specs.declared.state.StoreState.{StoreState}
use Rattle.service_stores.proofs.Lists.{AllAre, get_same, are_self, are_weaker, are_put, are_behind}
use Rattle.service_starts.proofs.CheckFormed.{get_some}
use Rattle.service_stores.specs.Steps.{IsReady, AreReady, IsStill}

-- so it is of all
abbrev pub Still : {S : Type 0} → (S → View) → ℕ → S → S → Type 0
Still view j a b = IsStill (view a) (view b)

pub same_of : {S : Type 0} (view : S → View) (old new : List S) → AllAre (Still view) old new → AreSame view old new
same_of view [] [] h = tt
same_of view [] (b ∷ new) h = let size = h.count in absurd (omega (arith, size))
same_of view (a ∷ old) [] h = let size = h.count in absurd (omega (arith, size))
same_of view (a ∷ old) (b ∷ new) h =
    let still : IsStill (view a) (view b) = h.each 0 a b refl refl in
    (still.same, still.mendable, still.faults, same_of view old new (are_behind (Still view) a b old new h))

pub same_then : {S : Type 0} (view : S → View) (old middle new : List S) → AreSame view old middle → AreSame view middle new → AreSame view old new
same_then view [] [] [] h k = tt
same_then view [] [] (c ∷ new) h k = k
same_then view [] (b ∷ middle) new h k = absurd h
same_then view (a ∷ old) [] new h k = absurd h
same_then view (a ∷ old) (b ∷ middle) [] h k = absurd k
same_then view (a ∷ old) (b ∷ middle) (c ∷ new) h k =
    let less = h.2 in
    let more = k.2 in (
      record { server = k.0.server ∙ h.0.server; roster = k.0.roster ∙ h.0.roster },
      k.1,
      omega (arith, less, more),
      same_then view old middle new h.3 k.3,
    )

pub still_self : (store : View) → store.mendable → IsStill store store
still_self store mendable = record { same = record { server = refl; roster = refl }; mendable = mendable; faults = omega arith }

pub still_then : (a b c : View) → IsStill a b → IsStill b c → IsStill a c
still_then a b c h k = record {
  same = record { server = k.same.server ∙ h.same.server; roster = k.same.roster ∙ h.same.roster };
  mendable = k.mendable;
  faults = let less = h.faults in let more = k.faults in omega (arith, less, more);
}

pub same_self : {S : Type 0} (view : S → View) (worn : ℕ) (stores : List S) → AreReady view worn stores → AreSame view stores stores
same_self view worn stores h = same_of view stores stores (are_self (Still view) stores (λ j a is. still_self (view a) (h.each j a is).mendable))

-- stores of servers may be asked, and stay such stores
pub ready_of : {S : Type 0} (view : S → View) (roster : Roster) (worn number : ℕ) (stores : List S) → AreStores view roster worn number stores → AreReady view worn stores
ready_of {S = S} view roster worn number stores h = record { each = each stores number h }
  where
    each : (stores : List S) (number : ℕ) → AreStores view roster worn number stores → (k : ℕ) (store : S) → slice_get stores k ≡ Some store → IsReady worn (view store)
    each [] number h k store is = cc
    each (one ∷ stores) number h zero store is =
        let same : one ≡ store = cc in
        subst (λ (s : S). IsReady worn (view s)) same (record { ready = h.0.ready; mendable = h.0.mendable; wear = h.0.wear })
    each (one ∷ stores) number h (suc k) store is = each stores (number + 1) h.1 k store is

pub stores_then : {S : Type 0} (view : S → View) (roster : Roster) (worn later number : ℕ) (old new : List S) → AreStores view roster worn number old → AreSame view old new → AreReady view later new
    → AreStores view roster later number new
stores_then view roster worn later number [] [] h same ready = tt
stores_then view roster worn later number [] (b ∷ new) h same ready = absurd same
stores_then view roster worn later number (a ∷ old) [] h same ready = absurd same
stores_then view roster worn later number (a ∷ old) (b ∷ new) h same ready =
    let here : IsReady later (view b) = ready.each 0 b refl in (
      record {
        server = same.0.server ∙ h.0.server;
        roster_is = same.0.roster ∙ h.0.roster_is;
        ready = here.ready;
        mendable = here.mendable;
        wear = here.wear;
      },
      stores_then view roster worn later (number + 1) old new h.1 same.3 (record { each = λ k store is. ready.each (suc k) store is }),
    )

-- what they keep
pub states_map : {S : Type 0} (view : S → View) (f : StoreState → StoreState) (old new : List S) → AllAre (λ j a b. (view b).state ≡ f (view a).state) old new
    → states_of view new ≡ map f (states_of view old)
states_map view f [] [] h = refl
states_map view f [] (b ∷ new) h = let size = h.count in absurd (omega (arith, size))
states_map view f (a ∷ old) [] h = let size = h.count in absurd (omega (arith, size))
states_map view f (a ∷ old) (b ∷ new) h =
    let one : (view b).state ≡ f (view a).state = h.each 0 a b refl refl in
    let rest = states_map view f old new (are_behind (λ j x y. (view y).state ≡ f (view x).state) a b old new h) in
    ap (λ s. s ∷ states_of view new) one ∙ ap (λ those. f (view a).state ∷ those) rest

pub states_same : {S : Type 0} (view : S → View) (old new : List S) → AllAre (λ j a b. (view b).state ≡ (view a).state) old new → states_of view new ≡ states_of view old
states_same view [] [] h = refl
states_same view [] (b ∷ new) h = let size = h.count in absurd (omega (arith, size))
states_same view (a ∷ old) [] h = let size = h.count in absurd (omega (arith, size))
states_same view (a ∷ old) (b ∷ new) h =
    let one : (view b).state ≡ (view a).state = h.each 0 a b refl refl in
    let rest = states_same view old new (are_behind (λ j x y. (view y).state ≡ (view x).state) a b old new h) in
    ap (λ s. s ∷ states_of view new) one ∙ ap (λ those. (view a).state ∷ those) rest

-- a disk that failed twice
rose_later : (a b c : ℕ) → a ≤ b → RoseBy 2 b c → RoseBy 2 a c
rose_later a b c le rose = omega (arith, le, rose)

pub failed_at : {S : Type 0} (view : S → View) (old now : List S) (i : ℕ) (x y : S) → i < length now → slice_get now i ≡ Some x → AllAre (Still view) old now
    → RoseBy 2 (view x).faults (view y).faults → IsTrue (view y).last_failed → HasFailed view old (set now i y) (i + 1)
failed_at view old now i x y lt at all twice last =
    let size = all.count in
    let before = get_some old i (omega (arith, lt, size)) in
    let still : IsStill (view before.0) (view x) = all.each i before.0 x before.1 at in
    record {
      k = i;
      numbered = refl;
      before = before.0;
      after = y;
      was = before.1;
      is = get_same now i y lt;
      twice = rose_later (view before.0).faults (view x).faults (view y).faults still.faults twice;
      last = last;
    }

pub failed_later : {S : Type 0} (view : S → View) (old middle new : List S) (number : ℕ) → AreSame view old middle → HasFailed view middle new number → HasFailed view old new number
failed_later {S = S} view old middle new number same h =
    let before = earlier old middle same h.k h.before h.was in
    record {
      k = h.k;
      numbered = h.numbered;
      before = before.0;
      after = h.after;
      was = before.1;
      is = h.is;
      twice = rose_later (view before.0).faults (view h.before).faults (view h.after).faults before.2 h.twice;
      last = h.last;
    }
  where
    earlier : (old middle : List S) → AreSame view old middle → (k : ℕ) (b : S) → slice_get middle k ≡ Some b → (a : S) × (slice_get old k ≡ Some a) × ((view a).faults ≤ (view b).faults)
    earlier [] [] same k b is = cc
    earlier [] (y ∷ middle) same k b is = absurd same
    earlier (x ∷ old) [] same k b is = absurd same
    earlier (x ∷ old) (y ∷ middle) same zero b is =
        let one : y ≡ b = cc in (x, refl, subst (λ (s : S). (view x).faults ≤ (view s).faults) one same.2)
    earlier (x ∷ old) (y ∷ middle) same (suc k) b is = earlier old middle same.3 k b is

-- what stops a step that looks at no disks stops all
never_unfit : (disk slot : ℕ) → IsRefused [] (fit.Unfit disk slot) → ⊥
never_unfit disk slot h = let none = h.1 in absurd (cc)

pub stopped_later : {S : Type 0} (tells : Type 0) (view : S → View) (all : List Told) (old middle new : List S) (why : RunStopped) → AreSame view old middle → IsStopped tells view [] middle new why
    → IsStopped tells view all old new why
stopped_later tells view all old middle new (Failed server) same h = failed_later view old middle new server.0 same h
stopped_later tells view all old middle new (Unfit disk slot) same h = λ t. absurd (never_unfit disk slot (h t).0)
stopped_later tells view all old middle new Memory same h = tt

-- Stores are changed one after the other, from the first on: the first so many were, and are this ready then.
pub record Past {S : Type 0} (view : S → View) (tells : Type 0) (first later : ℕ) (f : StoreState → StoreState) (k j : ℕ) (a b : S) : Type 0 where
  pub still : IsStill (view a) (view b)
  pub done : j < k → IsReady later (view b) × (tells → (view b).state ≡ f (view a).state)
  pub rest : k ≤ j → IsReady first (view b) × (tells → (view b).state ≡ (view a).state)

pub past_start : {S : Type 0} (view : S → View) (tells : Type 0) (first later : ℕ) (f : StoreState → StoreState) (stores : List S) → AreReady view first stores
    → AllAre (Past view tells first later f 0) stores stores
past_start view tells first later f stores ready = are_self (Past view tells first later f 0) stores (λ j a is. record {
  still = still_self (view a) (ready.each j a is).mendable;
  done = λ lt. absurd (omega (arith, lt));
  rest = λ le. (ready.each j a is, λ t. refl);
})

pub past_still : {S : Type 0} (view : S → View) (tells : Type 0) (first later : ℕ) (f : StoreState → StoreState) (k : ℕ) (old now : List S) → AllAre (Past view tells first later f k) old now
    → AllAre (Still view) old now
past_still view tells first later f k old now h = are_weaker (Past view tells first later f k) (Still view) old now h (λ j a b was is p. p.still)

-- one more
pub past_next : {S : Type 0} (view : S → View) (tells : Type 0) (first later : ℕ) (f : StoreState → StoreState) (k : ℕ) (old now : List S) (x y : S) → AllAre (Past view tells first later f k) old now
    → k < length now → slice_get now k ≡ Some x → IsStill (view x) (view y) → IsReady later (view y) → (tells → (view y).state ≡ f (view x).state)
    → AllAre (Past view tells first later f (k + 1)) old (set now k y)
past_next view tells first later f k old now x y all lt at still ready state =
    are_put (Past view tells first later f k) (Past view tells first later f (k + 1)) old now k x y lt at all (λ a was p. record {
      still = still_then (view a) (view x) (view y) p.still still;
      done = λ less. (ready, λ t. state t ∙ ap f ((p.rest (omega arith)).1 t));
      rest = λ more. absurd (omega (arith, more));
    }) (λ j a b ne p. record {
      still = p.still;
      done = λ less. p.done (before j ne less);
      rest = λ more. p.rest (omega (arith, more));
    })
  where
    before : (j : ℕ) → (j ≡ k → ⊥) → j < k + 1 → j < k
    before j ne less = elim (cases_lt j k) [ inl lower ↦ lower | inr higher ↦ absurd (ne (omega (arith, less, higher))) ]

-- at one they stop
pub still_put : {S : Type 0} (view : S → View) (old now : List S) (i : ℕ) (x y : S) → AllAre (Still view) old now → i < length now → slice_get now i ≡ Some x → IsStill (view x) (view y)
    → AreSame view old (set now i y)
still_put view old now i x y all lt at still =
    same_of view old (set now i y) (are_put (Still view) (Still view) old now i x y lt at all
    (λ a was p. still_then (view a) (view x) (view y) p still) (λ j a b ne p. p))

-- all of them
pub past_ready : {S : Type 0} (view : S → View) (tells : Type 0) (first later : ℕ) (f : StoreState → StoreState) (k : ℕ) (old new : List S) → AllAre (Past view tells first later f k) old new
    → length new ≤ k → AreReady view later new
past_ready {S = S} view tells first later f k old new h le = record { each = each }
  where
    each : (j : ℕ) (b : S) → slice_get new j ≡ Some b → IsReady later (view b)
    each j b is =
        let lt = slice_get_within new j b is in
        let size = h.count in
        let before = get_some old j (omega (arith, lt, size)) in
        ((h.each j before.0 b before.1 is).done (omega (arith, lt, le))).0

pub past_states : {S : Type 0} (view : S → View) (tells : Type 0) (first later : ℕ) (f : StoreState → StoreState) (k : ℕ) (old new : List S) → AllAre (Past view tells first later f k) old new
    → length new ≤ k → tells → AllAre (λ j a b. (view b).state ≡ f (view a).state) old new
past_states view tells first later f k old new h le t =
    are_weaker (Past view tells first later f k) (λ j a b. (view b).state ≡ f (view a).state) old new h (λ j a b was is p.
    let lt = slice_get_within new j b is in
    (p.done (omega (arith, lt, le))).1 t)

-- the next one is as it was
pub past_here : {S : Type 0} (view : S → View) (tells : Type 0) (first later : ℕ) (f : StoreState → StoreState) (k : ℕ) (old now : List S) (x : S) → AllAre (Past view tells first later f k) old now
    → k < length now → slice_get now k ≡ Some x → IsReady first (view x) × (tells → (a : S) → slice_get old k ≡ Some a → (view x).state ≡ (view a).state)
past_here view tells first later f k old now x all lt at =
    let size = all.count in
    let before = get_some old k (omega (arith, lt, size)) in (
      ((all.each k before.0 x before.1 at).rest (omega arith)).0,
      λ t a was. ((all.each k a x was at).rest (omega arith)).1 t,
    )

-- a store that was called
pub still_of : {T : Type 0} (result : Result T StoreFault) (old new : View) → IsSameStore old new → new.mendable → IsBlamedTwice result old new → IsStill old new
still_of result old new same mendable blame = record { same = same; mendable = mendable; faults = blame.counted }

-- its fault stops the run
pub stopped_put : {S : Type 0} {T : Type 0} (tells : Type 0) (view : S → View) (all : List Told) (old now : List S) (i : ℕ) (x y : S) (server : ServerId) (result : Result T StoreFault) (fault : StoreFault) (why : RunStopped)
    → i < length now → slice_get now i ≡ Some x → AllAre (Still view) old now → server.0 ≡ i + 1 → IsBlamedTwice result (view x) (view y) → result ≡ Err fault → why ≡ stopped_at server fault
    → IsStopped tells view all old (set now i y) why
stopped_put {S = S} tells view all old now i x y server result faults.Failed why lt at still place blame is e =
    let cause = blame.cause is in
    let failed = failed_at view old now i x y lt at still cause.0 cause.1 in
    subst (λ (w : RunStopped). IsStopped tells view all old (set now i y) w) (sym e) (subst (λ (n : ℕ). HasFailed view old (set now i y) n) (sym place) failed)
stopped_put {S = S} tells view all old now i x y server result faults.Memory why lt at still place blame is e =
    subst (λ (w : RunStopped). IsStopped tells view all old (set now i y) w) (sym e) tt

pub ready_more : {S : Type 0} (view : S → View) (worn later : ℕ) (stores : List S) → worn ≤ later → AreReady view worn stores → AreReady view later stores
ready_more view worn later stores le h =
    record { each = λ k store is. let one = h.each k store is in record { ready = one.ready; mendable = one.mendable; wear = let wear = one.wear in omega (arith, wear, le) } }

-- stores that were asked keep what they kept
past_unchanged : {S : Type 0} (view : S → View) (tells : Type 0) (first later k : ℕ) (old now : List S) → AllAre (Past view tells first later (λ state. state) k) old now → tells
    → AllAre (λ j a b. (view b).state ≡ (view a).state) old now
past_unchanged view tells first later k old now h t =
    are_weaker (Past view tells first later (λ state. state) k) (λ j a b. (view b).state ≡ (view a).state) old now h (λ j a b was is p.
    elim (cases_lt j k) [ inl lower ↦ (p.done lower).1 t | inr higher ↦ (p.rest higher).1 t ])

pub states_put : {S : Type 0} (view : S → View) (tells : Type 0) (first later k : ℕ) (old now : List S) (x y : S) → AllAre (Past view tells first later (λ state. state) k) old now → k < length now
    → slice_get now k ≡ Some x → tells → (view y).state ≡ (view x).state → states_of view (set now k y) ≡ states_of view old
states_put view tells first later k old now x y all lt at t same =
    states_same view old (set now k y)
    (are_put (λ j a b. (view b).state ≡ (view a).state) (λ j a b. (view b).state ≡ (view a).state) old now k x y lt at (past_unchanged view tells first later k old now all t) (λ a was p. same ∙ p) (λ j a b ne p. p))
