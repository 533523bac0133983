-- The stores settle their unfinished moves.
use Rattle.service_starts.proofs.SettledMoves.{acts_both, append_none}
use Rattle.std.proofs.Common.{◌≡◌, ℕ, zero, suc, ◌+◌, ◌-◌, ◌*◌, ◌^◌, ◌<◌, ◌≤◌, ◌==◌, true, List, [], ◌∷◌, ◌++◌, map, take, length, inl, inr, refl, sym, subst, ap, ◌∙◌, arith, add-zero}
use Rattle.std.specs.Prelude.{slice_get, filter, Some}
use Rattle.std.proofs.Math.ListN.{set}
use Rattle.std.proofs.lemmas.Bool.Decides.{eqb_tells}
use Rattle.std.proofs.lemmas.Grind.{common_steps}
use Rattle.std.proofs.lemmas.List.{map-append}
use Rattle.std.proofs.lemmas.List.Elements.{filter-append}
use Rattle.std.proofs.lemmas.Option.{slice_get_within}
use Rattle.store_memory.specs.Views.{View}
use Rattle.service_starts.specs.FinishLaws.{settled_stores}
use Rattle.service_starts.specs.declared.fitting.Settling.{Settling}
use Rattle.store_records.proofs.Acts.{acts_keep_storable}
use Rattle.store_records.specs.Stored.{IsStorable}
use Rattle.message_types.specs.Soundness.{Each}
use Rattle.service_starts.specs.Settles.{acts_at}
use Rattle.store_acts.specs.Acts.{act_done, state_after}
use Rattle.store_acts.specs.Sound.{Fits}
use Rattle.store_acts.specs.declared.act.Act.{Act}
use Rattle.store_acts.specs.declared.act.Act.TheVariants.{Settle}
use Rattle.service_moves.proofs.Again.{after_append}
use Rattle.service_moves.proofs.Repeats.{moves_repeat}
use Rattle.service_moves.specs.Again.{IsRepeatable}
use Rattle.service_moves.specs.Stores.{states_of}
use Rattle.store_state.specs.declared.state.StoreState.{StoreState}
use Rattle.service_stores.proofs.Lists.{AllAre, are_self, are_weaker, are_put, are_behind, take_next}
use Rattle.service_starts.proofs.CheckFormed.{get_some}
use Rattle.service_stores.proofs.Stores.{Still, still_self, still_then}
use Rattle.service_stores.specs.Steps.{IsReady, AreReady, IsStill, IsOneOf}

-- Each store has done its acts of the first so many.
pub record Settled {S : Type 0} (view : S → View) (tells : Type 0) (settlings : List Settling) (i j : ℕ) (a b : S) : Type 0 where
  pub still : IsStill (view a) (view b)
  pub ready : IsReady (54 + 27 * i) (view b)
  pub state : tells → IsStorable (view a).state → (view b).state ≡ state_after (view a).state (acts_at (j + 1) (take i settlings))

pub settled_start : {S : Type 0} (view : S → View) (tells : Type 0) (settlings : List Settling) (stores : List S) → AreReady view 54 stores → AllAre (Settled view tells settlings 0) stores stores
settled_start view tells settlings stores ready = are_self (Settled view tells settlings 0) stores (λ j a is. record {
  still = still_self (view a) (ready.each j a is).mendable;
  ready = ready.each j a is;
  state = λ t storable. refl;
})

pub settled_still : {S : Type 0} (view : S → View) (tells : Type 0) (settlings : List Settling) (i : ℕ) (old now : List S) → AllAre (Settled view tells settlings i) old now → AllAre (Still view) old now
settled_still view tells settlings i old now h = are_weaker (Settled view tells settlings i) (Still view) old now h (λ j a b was is p. p.still)

acts_next : (server : ℕ) (settlings : List Settling) (i : ℕ) (settling : Settling) → slice_get settlings i ≡ Some settling
    → acts_at server (take (i + 1) settlings) ≡ acts_at server (take i settlings) ++ acts_at server (settling ∷ [])
acts_next server settlings i settling e = ap (acts_at server) (take_next settlings i settling e) ∙ acts_both server (take i settlings) (settling ∷ [])

acts_own : (server : ℕ) (settling : Settling) → settling.server.0 ≡ server → acts_at server (settling ∷ []) ≡ Settle settling.fileset ∷ []
acts_own server settling e = let test : (settling.server.0 == server) ≡ true = grind (arith, common_steps, e) in rw test refl

acts_other : (server : ℕ) (settling : Settling) → (settling.server.0 ≡ server → ⊥) → acts_at server (settling ∷ []) ≡ []
acts_other server settling ne = elim (eqb_tells settling.server.0 server) as (λ _. acts_at server (settling ∷ []) ≡ []) [
  | inl (t, e) ↦ absurd (ne e)
  | inr (t, n) ↦ rw t refl
]

-- what they settle leaves records that a disk can have
pub settles_storable : (settlings : List Settling) (state : StoreState) → IsStorable state → IsStorable (state_after state (map (λ (one : Settling). Settle one.fileset) settlings))
settles_storable [] state h = h
settles_storable (one ∷ settlings) state h = settles_storable settlings (act_done state (Settle one.fileset)).state (acts_keep_storable state (Settle one.fileset) h tt tt)

pub repeatable : (state : StoreState) (settling : Settling) → IsStorable state → IsRepeatable state (Settle settling.fileset)
repeatable state settling h = moves_repeat state (Settle settling.fileset) (λ s t a b n x y. (h.apart s t a b n x y).ids) tt

-- a store settles one
abbrev pub Settles : View → View → Settling → Type 0 → Type 0
Settles old new settling tells =
    tells → Fits old.state (Settle settling.fileset) → IsRepeatable old.state (Settle settling.fileset) → new.state ≡ (act_done old.state (Settle settling.fileset)).state

state_next : (j : ℕ) (settlings : List Settling) (i : ℕ) (settling : Settling) (a x y : StoreState) → slice_get settlings i ≡ Some settling → settling.server.0 ≡ j + 1 → IsStorable a
    → x ≡ state_after a (acts_at (j + 1) (take i settlings)) → (IsRepeatable x (Settle settling.fileset) → y ≡ (act_done x (Settle settling.fileset)).state)
    → y ≡ state_after a (acts_at (j + 1) (take (i + 1) settlings))
state_next j settlings i settling a x y at own storable before does =
    let acts = acts_at (j + 1) (take i settlings) in
    let stored : IsStorable (state_after a acts) = settles_storable (filter (λ one. one.server.0 == j + 1) (take i settlings)) a storable in
    let here : IsStorable x = subst IsStorable (sym before) stored in
    let done : y ≡ (act_done x (Settle settling.fileset)).state = does (repeatable x settling here) in
    let all : acts_at (j + 1) (take (i + 1) settlings) ≡ acts ++ Settle settling.fileset ∷ [] =
    acts_next (j + 1) settlings i settling at ∙ ap (λ more. acts ++ more) (acts_own (j + 1) settling own) in
    done ∙ ap (λ s. (act_done s (Settle settling.fileset)).state) before ∙ sym (after_append acts (Settle settling.fileset ∷ []) a) ∙ ap (state_after a) (sym all)

acts_stay : (j : ℕ) (settlings : List Settling) (i : ℕ) (settling : Settling) → slice_get settlings i ≡ Some settling → (settling.server.0 ≡ j + 1 → ⊥)
    → acts_at (j + 1) (take i settlings) ≡ acts_at (j + 1) (take (i + 1) settlings)
acts_stay j settlings i settling at ne =
    sym (acts_next (j + 1) settlings i settling at ∙ ap (λ more. acts_at (j + 1) (take i settlings) ++ more) (acts_other (j + 1) settling ne) ∙ append_none (acts_at (j + 1) (take i settlings)))

pub settled_next : {S : Type 0} (view : S → View) (tells : Type 0) (settlings : List Settling) (i : ℕ) (settling : Settling) (k : ℕ) (old now : List S) (x y : S) → AllAre (Settled view tells settlings i) old now
    → k < length now → slice_get now k ≡ Some x → slice_get settlings i ≡ Some settling → settling.server.0 ≡ k + 1 → IsStill (view x) (view y) → (view y).ready → (view y).wear ≤ (view x).wear + 27
    → Settles (view x) (view y) settling tells → AllAre (Settled view tells settlings (i + 1)) old (set now k y)
settled_next view tells settlings i settling k old now x y all lt there at own still ready wear does =
    are_put (Settled view tells settlings i) (Settled view tells settlings (i + 1)) old now k x y lt there all (λ a was p. record {
      still = still_then (view a) (view x) (view y) p.still still;
      ready = record { ready = ready; mendable = still.mendable; wear = let worn = p.ready.wear in omega (arith, worn, wear) };
      state = λ t storable. state_next k settlings i settling (view a).state (view x).state (view y).state at own storable (p.state t storable) (λ again. does t tt again);
    }) (λ j a b ne p. record {
      still = p.still;
      ready = record { ready = p.ready.ready; mendable = p.ready.mendable; wear = let worn = p.ready.wear in omega (arith, worn) };
      state = λ t storable. p.state t storable ∙ ap (state_after (view a).state) (acts_stay j settlings i settling at (λ e. ne (omega (arith, e, own))));
    })

-- all of them
pub settled_ready : {S : Type 0} (view : S → View) (tells : Type 0) (settlings : List Settling) (i : ℕ) (old new : List S) → AllAre (Settled view tells settlings i) old new → i ≤ 64 → AreReady view (2 ^ 16) new
settled_ready {S = S} view tells settlings i old new h le = record { each = each }
  where
    each : (j : ℕ) (b : S) → slice_get new j ≡ Some b → IsReady (2 ^ 16) (view b)
    each j b is =
        let lt = slice_get_within new j b is in
        let size = h.count in
        let before = get_some old j (omega (arith, lt, size)) in
        let ready = (h.each j before.0 b before.1 is).ready in
        let worn = ready.wear in
        record { ready = ready.ready; mendable = ready.mendable; wear = omega (arith, worn, le) }

pub stored_at : {S : Type 0} (view : S → View) (stores : List S) (j : ℕ) (a : S) → Each IsStorable (states_of view stores) → slice_get stores j ≡ Some a → IsStorable (view a).state
stored_at view [] j a h is = cc
stored_at {S = S} view (one ∷ stores) zero a h is = let same : one ≡ a = cc in subst (λ (s : S). IsStorable (view s).state) same h.0
stored_at view (one ∷ stores) (suc j) a h is = stored_at view stores j a h.1 is

states_settled : {S : Type 0} (view : S → View) (number : ℕ) (settlings : List Settling) (old new : List S)
    → AllAre (λ j a b. (view b).state ≡ state_after (view a).state (acts_at (number + j) settlings)) old new → states_of view new ≡ settled_stores number settlings (states_of view old)
states_settled view number settlings [] [] h = refl
states_settled view number settlings [] (b ∷ new) h = let size = h.count in absurd (omega (arith, size))
states_settled view number settlings (a ∷ old) [] h = let size = h.count in absurd (omega (arith, size))
states_settled {S = S} view number settlings (a ∷ old) (b ∷ new) h =
    let first : (view b).state ≡ state_after (view a).state (acts_at (number + 0) settlings) = h.each 0 a b refl refl in
    let one : (view b).state ≡ state_after (view a).state (acts_at number settlings) = first ∙ ap (λ (n : ℕ). state_after (view a).state (acts_at n settlings)) (add-zero number) in
    let behind = are_behind (λ j x y. (view y).state ≡ state_after (view x).state (acts_at (number + j) settlings)) a b old new h in
    let later : AllAre (λ (j : ℕ) (x y : S). (view y).state ≡ state_after (view x).state (acts_at (number + 1 + j) settlings)) old new =
    are_weaker (λ j x y. (view y).state ≡ state_after (view x).state (acts_at (number + suc j) settlings)) _ old new behind (λ j x y was is p.
    let next : number + suc j ≡ number + 1 + j = omega arith in p ∙ ap (λ (n : ℕ). state_after (view x).state (acts_at n settlings)) next) in
    ap (λ s. s ∷ states_of view new) one ∙ ap (λ those. state_after (view a).state (acts_at number settlings) ∷ those) (states_settled view (number + 1) settlings old new later)

pub take_all : {X : Type 0} (xs : List X) (i : ℕ) → length xs ≤ i → take i xs ≡ xs
take_all [] zero le = refl
take_all [] (suc i) le = refl
take_all (x ∷ xs) zero le = absurd (omega (arith, le))
take_all (x ∷ xs) (suc i) le = ap (λ ys. x ∷ ys) (take_all xs i (omega (arith, le)))

pub settled_states : {S : Type 0} (view : S → View) (tells : Type 0) (settlings : List Settling) (i : ℕ) (old new : List S) → AllAre (Settled view tells settlings i) old new → length settlings ≤ i
    → tells → Each IsStorable (states_of view old) → states_of view new ≡ settled_stores 1 settlings (states_of view old)
settled_states view tells settlings i old new h le t storable =
    let whole = take_all settlings i le in
    states_settled view 1 settlings old new (are_weaker (Settled view tells settlings i) (λ j a b. (view b).state ≡ state_after (view a).state (acts_at (1 + j) settlings)) old new h (λ j a b was is p.
    let number : j + 1 ≡ 1 + j = omega arith in
    p.state t (stored_at view old j a storable was) ∙ ap (λ (those : List Settling). state_after (view a).state (acts_at (j + 1) those)) whole ∙ ap (λ (n : ℕ). state_after (view a).state (acts_at n settlings)) number))

-- one of those that are in range
pub each_at : {X : Type 0} (P : X → Type 0) (xs : List X) (i : ℕ) (x : X) → Each P xs → slice_get xs i ≡ Some x → P x
each_at P [] i x h is = cc
each_at P (one ∷ xs) zero x h is = let same : one ≡ x = cc in subst P same h.0
each_at P (one ∷ xs) (suc i) x h is = each_at P xs i x h.1 is

pub settles_of : (old new : View) (settling : Settling) (tells : Type 0) (act : Act) → act ≡ Settle settling.fileset
    → (tells → Fits old.state act → IsRepeatable old.state act → new.state ≡ (act_done old.state act).state) → Settles old new settling tells
settles_of old new settling tells act e h =
    subst (λ (a : Act). tells → Fits old.state a → IsRepeatable old.state a → new.state ≡ (act_done old.state a).state) e h

-- the store that it is given to
pub settled_here : {S : Type 0} (view : S → View) (tells : Type 0) (settlings : List Settling) (i k : ℕ) (old now : List S) (x : S) → AllAre (Settled view tells settlings i) old now → k < length now
    → slice_get now k ≡ Some x → IsReady (54 + 27 * i) (view x)
settled_here view tells settlings i k old now x all lt at =
    let size = all.count in
    let before = get_some old k (omega (arith, lt, size)) in
    (all.each k before.0 x before.1 at).ready

-- its place
pub record Place (count : ℕ) (settling : Settling) : Type 0 where
  pub own : settling.server.0 ≡ settling.server.0 - 1 + 1
  pub there : settling.server.0 - 1 < count

pub place_of : (count now : ℕ) (settlings : List Settling) (i : ℕ) (settling : Settling) → slice_get settlings i ≡ Some settling → Each (λ (one : Settling). IsOneOf count one.server) settlings → now ≡ count
    → Place now settling
place_of count now settlings i settling at all e =
    let one = each_at (λ (one : Settling). IsOneOf count one.server) settlings i settling all at in
    let least = one.least in
    let most = one.most in
    record { own = omega (arith, least); there = omega (arith, least, most, e) }
