-- How stores go on.
use Rattle.std.proofs.Common.{◌≡◌, ◌≤◌, ◌+◌, ◌++◌, ◌∙◌, ℕ, zero, suc, List, [], ◌∷◌, length, take, refl, sym, subst}
use Rattle.std.proofs.Common.{ap, arith}
use Rattle.std.proofs.Common.{◌⊎◌, ⊎_elim, inl, inr, length-append}
use Rattle.std.specs.Prelude.{◌-◌, Option, Some, Result, Ok, Err, OnOk, OnErr, slice_get}
use Rattle.std.proofs.lemmas.List.{append_assoc, take-append-le}
use Rattle.std.proofs.Math.Logic.{∥∥₁_map}
use Rattle.std.proofs.Math.Seq.{take-append-add, take-length}
use Rattle.base_types.specs.declared.ids.ServerId.{ServerId}
use Rattle.base_types.specs.declared.limits.TheConstants.{BATCH_ACTS_MAX}
use Rattle.tree_calls.specs.declared.roster.Roster.{Roster}
use Rattle.message_types.specs.Soundness.{Each}
use Rattle.store_acts.specs.Acts.{state_after}
use Rattle.store_acts.specs.Sound.{AreActs, IsAct}
use Rattle.store_acts.specs.declared.act.Act.{Act}
use Rattle.store_memory.proofs.Doing.{after_append, leaves_none, leaves_then, leaves_weaker}
use Rattle.store_memory.specs.Views.{View, DoesActs, IsAsked, IsFirstOf, IsSameStore, Leaves}
use Rattle.store_memory.specs.declared.store.StoreFault.{StoreFault}
use Rattle.store_state.specs.declared.state.StoreState.{StoreState}
use Rattle.service_watch.specs.Gone.{HasGone, HaveGone, IsLeftOf}
use Rattle.service_watch.specs.Unseen.{unseen}

each_append : {X : Type 0} (P : X → Type 0) (xs ys : List X) → Each P xs → Each P ys → Each P (xs ++ ys)
each_append P [] ys front back = back
each_append P (x ∷ xs) ys front back = (front.0, each_append P xs ys front.1 back)

each_take : {X : Type 0} (P : X → Type 0) (k : ℕ) (xs : List X) → Each P xs → Each P (take k xs)
each_take P zero xs each = tt
each_take P (suc k) [] each = tt
each_take P (suc k) (x ∷ xs) each = (each.0, each_take P k xs each.1)

take_few : {X : Type 0} (k : ℕ) (xs : List X) → length (take k xs) ≤ length xs
take_few zero xs = omega arith
take_few (suc k) [] = omega arith
take_few (suc k) (x ∷ xs) = (let rest = take_few k xs in omega (arith, rest))

pub acts_take : (roster : Roster) (server : ServerId) (k : ℕ) (acts : List Act) → AreActs roster server acts
    → AreActs roster server (take k acts)
acts_take roster server k acts are = record {
  few = (let fewer = take_few k acts in let few = are.few in omega (arith, fewer, few));
  each = each_take (IsAct roster server) k acts are.each;
}

no_acts : (roster : Roster) (server : ServerId) → AreActs roster server []
no_acts roster server = record { few = omega arith; each = tt }

-- what is left of the first of some acts is left of these and others
pub left_more : (from : StoreState) (acts more : List Act) (found : Option StoreState) → IsLeftOf from acts found
    → IsLeftOf from (acts ++ more) found
left_more from acts more found left =
    (let size = length-append acts more in
    let few = left.2 in (
      left.0,
      left.1,
      omega (arith, size, few),
      left.3,
      left.4 ∙ ap (λ (l : List Act). Some (state_after from (l ++ left.1))) (sym (take-append-le left.0 acts more few)),
    ))

-- and so is what is left of those behind them
pub left_then : (from mid : StoreState) (acts more : List Act) (found : Option StoreState) → mid ≡ state_after from
    acts → mid.roster ≡ from.roster → mid.server ≡ from.server
    → IsLeftOf mid more found → IsLeftOf from (acts ++ more) found
left_then from mid acts more found made roster server left =
    (let size = length-append acts more in
    let few = left.2 in
    let extra : List Act = left.1 in
    let front : List Act = take left.0 more in (
      length acts + left.0,
      extra,
      omega (arith, size, few),
      subst (λ (r : Roster). AreActs r from.server extra) roster
          (subst (λ (s : ServerId). AreActs mid.roster s extra) server left.3),
      left.4
          ∙ ap (λ (s : StoreState). Some (state_after s (front ++ extra))) made
          ∙ ap (λ (s : StoreState). Some s) (sym (after_append acts (front ++ extra) from))
          ∙ ap (λ (l : List Act). Some (state_after from l)) (sym (append_assoc acts front extra))
          ∙ ap (λ (l : List Act). Some (state_after from (l ++ extra))) (sym (take-append-add acts more left.0)),
    ))

-- what the first of some acts made is left of them
pub left_first : (from : StoreState) (acts : List Act) (found : Option StoreState) → IsFirstOf from acts found
    → IsLeftOf from acts found
left_first from acts found first = (
  first.0,
  [],
  first.1,
  no_acts from.roster from.server,
  first.2 ∙ ap (λ (l : List Act). Some (state_after from l)) (sym (append_none (take first.0 acts))),
)
  where
    append_none : (xs : List Act) → xs ++ [] ≡ xs
    append_none [] = refl
    append_none (x ∷ xs) = ap (λ (l : List Act). x ∷ l) (append_none xs)

-- a store that was only seen
pub gone_none : (view : View) → HasGone view view
gone_none view = record {
  acts = [];
  each = tt;
  same = record { server = refl; roster = refl };
  state = refl;
  leaves
      = leaves_none _ view;
}

-- one that went on, and then went on
pub gone_then : (from mid now : View) → HasGone from mid → HasGone mid now → HasGone from now
gone_then from mid now first second = record {
  acts = first.acts ++ second.acts;
  each =
      each_append (IsAct from.state.roster from.state.server) first.acts second.acts first.each
      (subst (λ (r : Roster). Each (IsAct r from.state.server) second.acts) first.same.roster
      (subst (λ (s : ServerId). Each (IsAct mid.state.roster s) second.acts) first.same.server second.each));
  same = record { server = second.same.server ∙ first.same.server; roster = second.same.roster ∙ first.same.roster };
  state = second.state ∙ ap (λ (s : StoreState). state_after s second.acts) first.state ∙ sym
      (after_append first.acts second.acts from.state);
  leaves =
      leaves_then (leaves_weaker first.leaves (λ found left. left_more from.state first.acts second.acts found left))
      (leaves_weaker second.leaves
      (λ found left. left_then from.state mid.state first.acts second.acts found first.state first.same.roster
      first.same.server left));
}

-- one that did nothing
pub gone_idle : (old new : View) → IsSameStore old new → new.state ≡ old.state → Leaves (IsFirstOf old.state []) old
    new → HasGone old new
gone_idle old new same state leaves = record {
  acts = [];
  each = tt;
  same = same;
  state = state;
  leaves = leaves_weaker leaves (λ found first. left_first old.state [] found first);
}

-- one that did the first of a batch
pub gone_done : (old new : View) (batch : List Act) (k : ℕ) → AreActs old.state.roster old.state.server batch
    → IsSameStore old new → new.state ≡ state_after old.state (take k batch)
    → Leaves (IsFirstOf old.state batch) old new → HasGone old new
gone_done old new batch k are same state leaves = record {
  acts = take k batch;
  each = each_take (IsAct old.state.roster old.state.server) k batch are.each;
  same = same;
  state = state;
  leaves =
      leaves_weaker leaves
      (λ found first. (
        0,
        take first.0 batch,
        omega arith,
        acts_take old.state.roster old.state.server first.0 batch
            are,
        first.2,
      ));
}

-- what the first of some acts, and of a batch behind them, made is left of them
le_tells : (a b : ℕ) → (a ≤ b) ⊎ ((i : ℕ) × (a ≡ b + i))
le_tells zero b = inl (omega arith)
le_tells (suc a) zero = inr (suc a, omega arith)
le_tells (suc a) (suc b) = ⊎_elim (λ le. inl (omega (arith, le)))
    (λ more. inr (more.0, (let e = more.1 in omega (arith, e)))) (le_tells a b)

pub left_near : (from : StoreState) (acts more : List Act) (found : Option StoreState) → AreActs from.roster
    from.server more → IsFirstOf from (acts ++ more) found → IsLeftOf from acts found
left_near from acts more found are first = ⊎_elim within beyond (le_tells first.0 (length acts))
  where
    within : first.0 ≤ length acts → IsLeftOf from acts found
    within le = left_first from acts found (
      first.0,
      le,
      first.2 ∙ ap (λ (l : List Act). Some (state_after from l))
          (take-append-le first.0 acts more le),
    )

    beyond : (i : ℕ) × (first.0 ≡ length acts + i) → IsLeftOf from acts found
    beyond b = (
      length acts,
      take b.0 more,
      omega arith,
      acts_take from.roster from.server b.0 more are,
      first.2
          ∙ ap (λ (n : ℕ). Some (state_after from (take n (acts ++ more)))) b.1
          ∙ ap (λ (l : List Act). Some (state_after from l)) (take-append-add acts more b.0)
          ∙ ap (λ (l : List Act). Some (state_after from (l ++ take b.0 more))) (sym (take-length acts)),
    )

-- so many acts, and a batch behind them
record IsParted (P : Act → Type 0) (a b : ℕ) (acts : List Act) : Type 0 where
  pub more : List Act
  pub few : length more ≤ b
  pub each : Each P more
  pub are : take (a + b) acts ≡ take a acts ++ more

take_most : (b : ℕ) (acts : List Act) → length (take b acts) ≤ b
take_most zero acts = omega arith
take_most (suc b) [] = omega arith
take_most (suc b) (act ∷ acts) = (let rest = take_most b acts in omega (arith, rest))

parted : (P : Act → Type 0) (a b : ℕ) (acts : List Act) → Each P acts → IsParted P a b acts
parted P zero b acts each = record {
  more = take b acts;
  few = take_most b acts;
  each = each_take P b acts each;
  are = (let same : 0 + b ≡ b = omega arith in ap (λ (n : ℕ). take n acts) same);
}
parted P (suc a) b [] each = record {
  more = [];
  few = omega arith;
  each = tt;
  are = (let same : suc a + b ≡ suc (a + b) = omega arith in ap (λ (n : ℕ). take n []) same);
}
parted P (suc a) b (act ∷ acts) each =
    (let rest = parted P a b acts each.1 in
    let same : suc a + b ≡ suc (a + b) = omega arith in
    record {
      more = rest.more;
      few = rest.few;
      each = rest.each;
      are = ap (λ (n : ℕ). take n (act ∷ acts)) same ∙ ap (λ (l : List Act). act ∷ l) rest.are;
    })

-- one that did acts as stores do
pub gone_acts : {T E : Type 0} (result : Result T E) (acts : List Act) (old new : View) → Each
    (IsAct old.state.roster old.state.server) acts → IsSameStore old new
    → DoesActs result acts old new → HasGone old new
gone_acts result acts old new each same does =
    (let state = old.state in
    let part = parted (IsAct state.roster state.server) does.done BATCH_ACTS_MAX acts each in
    record {
      acts = take does.done acts;
      each = each_take (IsAct state.roster state.server) does.done acts each;
      same = same;
      state = does.state;
      leaves =
          leaves_weaker does.leaves
          (λ found first.
          left_near state (take does.done acts) part.more found (record { few = part.few; each = part.each })
          (subst (λ (l : List Act). IsFirstOf state l found) part.are first));
    })

-- what is watched of a store goes on as it does
module _ (tells : Type 0) (from : ℕ → View) where
  pub went_on : (old new : View) → (tells → ∥ HasGone (from old.state.server.0) old ∥₁) → IsSameStore old new
      → (tells → HasGone old new) → tells → ∥ HasGone (from new.state.server.0) new ∥₁
  went_on old new went same gone told =
      subst (λ (s : ServerId). ∥ HasGone (from s.0) new ∥₁) (sym same.server)
      (∥∥₁_map (went told) (λ before. gone_then (from old.state.server.0) old new before (gone told)))

  -- where it was asked
  pub went_asked : {T : Type 0} (result : Result T StoreFault) (old new : View)
      → (tells → ∥ HasGone (from old.state.server.0) old ∥₁) → IsAsked tells result old new
      → tells → ∥ HasGone (from new.state.server.0) new ∥₁
  went_asked result old new went asked = went_on old new went asked.same
      (λ told. gone_idle old new asked.same (asked.state told) (asked.leaves told))

  -- where it was opened anew
  pub went_anew : (old new : View) → (tells → ∥ HasGone (from old.state.server.0) old ∥₁) → IsSameStore old new
      → (tells → new.state ≡ old.state)
      → (tells → Leaves (IsFirstOf old.state []) old new) → tells → ∥ HasGone (from new.state.server.0) new ∥₁
  went_anew old new went same state leaves = went_on old new went same
      (λ told. gone_idle old new same (state told) (leaves told))

  -- where a batch was given
  pub went_done : {T : Type 0} (result : Result T StoreFault) (old new : View) (batch : List Act)
      → (tells → ∥ HasGone (from old.state.server.0) old ∥₁)
      → AreActs old.state.roster old.state.server batch → IsSameStore old new
      → (tells → OnOk result (new.state ≡ state_after old.state batch))
      → (tells → OnErr result ((k : ℕ) × (k ≤ length batch) × (new.state ≡ state_after old.state (take k batch))))
      → (tells → Leaves (IsFirstOf old.state batch) old new)
      → tells → ∥ HasGone (from new.state.server.0) new ∥₁
  went_done {T = T} result old new batch went are same state fault leaves =
      went_on old new went same (λ told. (let done = batch_done result (state told) (fault told) in gone_done old new
      batch done.0 are same done.1 (leaves told)))
    where
      batch_done : (result : Result T StoreFault) → OnOk result (new.state ≡ state_after old.state batch)
          → OnErr result ((k : ℕ) × (k ≤ length batch) × (new.state ≡ state_after old.state (take k batch)))
          → (k : ℕ) × (new.state ≡ state_after old.state (take k batch))
      batch_done (Ok dones) ok err = (length batch, ok ∙ ap (state_after old.state) (sym (take-length batch)))
      batch_done (Err error) ok err = (err.0, err.2)

-- what is seen of the one of these stores that has this place, where there is one
abbrev pub view_at : {S : Type 0} → (S → View) → List S → ℕ → View
view_at view [] place = unseen
view_at view (store ∷ stores) zero = view store
view_at view (store ∷ stores) (suc place) = view_at view stores place

-- what is seen first of the stores of servers, which have their numbers from 1 on
abbrev pub first_views : {S : Type 0} → (S → View) → List S → ℕ → View
first_views view stores number = view_at view stores (number - 1)

-- stores that are seen first
pub gone_first : {S : Type 0} (view : S → View) (stores : List S)
    → ((k : ℕ) (store : S) → slice_get stores k ≡ Some store → (view store).state.server.0 ≡ k + 1)
    → HaveGone (first_views view stores) view stores
gone_first {S = S} view stores numbered = from_place stores 0
    (λ place store is. (let same : place ≡ 0 + place = omega arith in subst
    (λ (n : ℕ). slice_get stores n ≡ Some store) same is))
  where
    seen : (all : List S) (k : ℕ) (store : S) → slice_get all k ≡ Some store → HasGone (view_at view all k) (view store)
    seen [] k store is = absurd (cc)
    seen (s ∷ all) zero store is = (let same : s ≡ store = cc in subst (λ (x : S). HasGone (view s) (view x)) same
        (gone_none (view s)))
    seen (s ∷ all) (suc k) store is = seen all k store is

    from_place : (rest : List S) (at : ℕ) → ((place : ℕ) (store : S) → slice_get rest place ≡ Some store → slice_get
        stores (at + place) ≡ Some store)
        → HaveGone (first_views view stores) view rest
    from_place [] at are = tt
    from_place (store ∷ rest) at are =
        (let here : slice_get stores (at + 0) ≡ Some store = are 0 store refl in
        let number : (view store).state.server.0 ≡ at + 0 + 1 = numbered (at + 0) store here in
        let place : at + 0 ≡ (view store).state.server.0 - 1 = omega (arith, number) in (
          subst (λ (n : ℕ). ∥ HasGone (view_at view stores n) (view store) ∥₁) place ∣ seen stores (at + 0) store
              here ∣₁,
          from_place rest (at + 1)
              (λ next s is. (let same : at + suc next ≡ at + 1 + next = omega arith in subst
              (λ (n : ℕ). slice_get stores n ≡ Some s) same (are (suc next) s is))),
        ))
