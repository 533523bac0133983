-- What stores do, one run of calls after another.
use Rattle.std.proofs.Common.{◌≡◌, ◌≤◌, ◌+◌, ◌++◌, ◌∙◌, ℕ, zero, suc, List, [], ◌∷◌, length, take, inl, inr, ⊎_elim, refl, sym, subst, ap, arith, length-append}
use Rattle.std.specs.Prelude.{Option, Some, Result, Ok, Err, OnOk}
use Rattle.std.proofs.lemmas.List.{take-append-le}
use Rattle.std.proofs.Math.Seq.{take-append-add, take-length}
use Rattle.base_types.specs.declared.limits.TheConstants.{BATCH_ACTS_MAX}
use Rattle.store_acts.specs.Acts.{act_done, state_after}
use Rattle.store_acts.specs.declared.act.Act.{Act}
use Rattle.store_state.specs.declared.state.StoreState.{StoreState}
use Rattle.store_memory.specs.MapStores.{map_view}
use Rattle.store_memory.specs.Views.{View, Leaves, IsFirstOf, DoesActs}
use Rattle.store_memory.specs.declared.map_store.MapStore.{MapStore}

-- one run and then another
pub leaves_then : {P : Option StoreState → Type 0} {old mid new : View} → Leaves P old mid → Leaves P mid new → Leaves P old new
leaves_then {P = P} first second = record {
  later = omega (arith, first.later, second.later);
  finds = λ c. second.finds c ∙ first.finds c;
  each = λ t c le left. ⊎_elim (first.each t c le) (λ has. inr (subst P (first.finds c) has)) (second.each t c (omega (arith, le, first.later)) left);
}

-- what has P has Q
pub leaves_weaker : {P Q : Option StoreState → Type 0} {old new : View} → Leaves P old new → ((found : Option StoreState) → P found → Q found) → Leaves Q old new
leaves_weaker {old = old} run so = record {
  later = run.later;
  finds = run.finds;
  each = λ t c le left. ⊎_elim (λ earlier. inl earlier) (λ has. inr (so (old.found_on c) has)) (run.each t c le left);
}

-- where nothing is done
pub leaves_none : (P : Option StoreState → Type 0) (view : View) → Leaves P view view
leaves_none P view = record { later = omega arith; finds = λ c. refl; each = λ t c le left. inl left }

-- no crash leaves a store in memory
pub map_leaves : (P : Option StoreState → Type 0) (old new : MapStore) → Leaves P (map_view old) (map_view new)
map_leaves P old new = record { later = omega arith; finds = λ c. refl; each = λ t c le left. absurd left }

-- acts, and others behind them
pub after_append : (acts more : List Act) (state : StoreState) → state_after state (acts ++ more) ≡ state_after (state_after state acts) more
after_append [] more state = refl
after_append (act ∷ acts) more state = after_append acts more (act_done state act).state

-- the first of some acts are the first of these and others
pub first_more : (state : StoreState) (acts more : List Act) (found : Option StoreState) → IsFirstOf state acts found → IsFirstOf state (acts ++ more) found
first_more state acts more found first =
    (let size = length-append acts more in
    let few = first.1 in (first.0, omega (arith, size, few), first.2 ∙ ap (λ (l : List Act). Some (state_after state l)) (sym (take-append-le first.0 acts more few))))

-- and the first of those behind them are too
pub first_then : (state : StoreState) (acts more : List Act) (found : Option StoreState) → IsFirstOf (state_after state acts) more found → IsFirstOf state (acts ++ more) found
first_then state acts more found first =
    (let size = length-append acts more in
    let few = first.1 in (
      length acts + first.0,
      omega (arith, size, few),
      first.2 ∙ ap (λ (s : StoreState). Some s) (sym (after_append acts (take first.0 more) state))
          ∙ ap (λ (l : List Act). Some (state_after state l)) (sym (take-append-add acts more first.0)),
    ))

-- the first of few are the first of more
take_parts : (a b : ℕ) (acts : List Act) → a ≤ b → (more : List Act) × (take b acts ≡ take a acts ++ more)
take_parts zero b acts le = (take b acts, refl)
take_parts (suc a) zero acts le = absurd (omega (arith, le))
take_parts (suc a) (suc b) [] le = ([], refl)
take_parts (suc a) (suc b) (act ∷ acts) le = (let rest = take_parts a b acts (omega (arith, le)) in (rest.0, ap (λ (l : List Act). act ∷ l) rest.1))

pub first_take : (state : StoreState) (a b : ℕ) (acts : List Act) (found : Option StoreState) → a ≤ b → IsFirstOf state (take a acts) found → IsFirstOf state (take b acts) found
first_take state a b acts found le first =
    (let parts = take_parts a b acts le in
    subst (λ (l : List Act). IsFirstOf state l found) (sym parts.1) (first_more state (take a acts) parts.0 found first))

take_front : (n : ℕ) (acts more : List Act) → (rest : List Act) × (take n (acts ++ more) ≡ take n acts ++ rest)
take_front zero acts more = ([], refl)
take_front (suc n) [] more = (take (suc n) more, refl)
take_front (suc n) (act ∷ acts) more = (let rest = take_front n acts more in (rest.0, ap (λ (l : List Act). act ∷ l) rest.1))

pub first_front : (state : StoreState) (n : ℕ) (acts more : List Act) (found : Option StoreState) → IsFirstOf state (take n acts) found → IsFirstOf state (take n (acts ++ more)) found
first_front state n acts more found first =
    (let parts = take_front n acts more in
    subst (λ (l : List Act). IsFirstOf state l found) (sym parts.1) (first_more state (take n acts) parts.0 found first))

on_ok_then : {T E : Type 0} (result : Result T E) (P Q : Type 0) → (P → Q) → OnOk result P → OnOk result Q
on_ok_then (Ok value) P Q so p = so p
on_ok_then (Err error) P Q so p = tt

-- nothing was to be done
pub does_none : {T E : Type 0} (result : Result T E) (view : View) → DoesActs result [] view view
does_none (Ok value) view = record { done = 0; within = omega arith; all = refl; state = refl; leaves = leaves_none _ view }
does_none (Err error) view = record { done = 0; within = omega arith; all = tt; state = refl; leaves = leaves_none _ view }

-- some acts, and then others
pub does_then : {T U E : Type 0} (value : T) (result : Result U E) (acts more : List Act) (old mid new : View)
    → DoesActs {E = E} (Ok value) acts old mid → DoesActs result more mid new → DoesActs result (acts ++ more) old new
does_then value result acts more old mid new first second =
    (let size = length-append acts more in
    let few = second.within in
    let made : mid.state ≡ state_after old.state acts = first.state ∙ ap (λ (n : ℕ). state_after old.state (take n acts)) first.all ∙ ap (state_after old.state) (take-length acts) in
    let all : List Act = acts ++ more in
    let cut : ℕ = length acts + second.done in
    let far : first.done + BATCH_ACTS_MAX ≤ cut + BATCH_ACTS_MAX = (let e = first.all in omega (arith, e)) in
    record {
      done = cut;
      within = omega (arith, size, few);
      all = on_ok_then result (second.done ≡ length more) (cut ≡ length all) (λ e. omega (arith, size, e)) second.all;
      state =
          second.state ∙ ap (λ (s : StoreState). state_after s (take second.done more)) made ∙ sym (after_append acts (take second.done more) old.state)
          ∙ ap (state_after old.state) (sym (take-append-add acts more second.done));
      leaves =
          leaves_then
          (leaves_weaker first.leaves
          (λ found is.
          first_take old.state (first.done + BATCH_ACTS_MAX) (cut + BATCH_ACTS_MAX) all found far (first_front old.state (first.done + BATCH_ACTS_MAX) acts more found is)))
          (leaves_weaker second.leaves
          (λ found is.
          (let here : IsFirstOf (state_after old.state acts) (take (second.done + BATCH_ACTS_MAX) more) found = subst (λ (s : StoreState). IsFirstOf s (take (second.done + BATCH_ACTS_MAX) more) found) made is in
          let sum : length acts + (second.done + BATCH_ACTS_MAX) ≡ cut + BATCH_ACTS_MAX = omega arith in
          let both : acts ++ take (second.done + BATCH_ACTS_MAX) more ≡ take (cut + BATCH_ACTS_MAX) all = sym (take-append-add acts more (second.done + BATCH_ACTS_MAX)) ∙ ap (λ (n : ℕ). take n all) sum in
          subst (λ (l : List Act). IsFirstOf old.state l found) both (first_then old.state acts (take (second.done + BATCH_ACTS_MAX) more) found here))));
    })

-- where some acts failed, others behind them weren't begun
pub does_stop : {T U E F : Type 0} (result : Result T E) (error : F) (acts more : List Act) (old new : View) → DoesActs result acts old new → DoesActs {T = U} (Err error) (acts ++ more) old new
does_stop result error acts more old new first =
    (let size = length-append acts more in
    let few = first.within in
    record {
      done = first.done;
      within = omega (arith, size, few);
      all = tt;
      state = first.state ∙ ap (state_after old.state) (sym (take-append-le first.done acts more few));
      leaves = leaves_weaker first.leaves (λ found is. first_front old.state (first.done + BATCH_ACTS_MAX) acts more found is);
    })
