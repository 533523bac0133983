-- Stores that began a run, and then did acts of their own.
use Rattle.std.proofs.Common.{◌≡◌, ◌+◌, ◌-◌, ◌++◌, ◌∙◌, ℕ, zero, suc, List, [], ◌∷◌, length, take, Some, Ok, refl, sym}
use Rattle.std.proofs.Common.{subst, ap, arith}
use Rattle.std.specs.Prelude.{slice_get, true, None}
use Rattle.std.proofs.Math.Seq.{take-length}
use Rattle.base_types.specs.declared.ids.ServerId.{ServerId}
use Rattle.tree_calls.specs.declared.roster.Roster.{Roster}
use Rattle.tree_answers.specs.declared.tree.Tree.{Tree}
use Rattle.message_types.specs.Soundness.{Each}
use Rattle.script_lines.specs.declared.script.Script.{Script}
use Rattle.store_acts.specs.Acts.{state_after}
use Rattle.store_acts.specs.Sound.{IsAct}
use Rattle.store_acts.specs.declared.act.Act.{Act}
use Rattle.base_types.specs.declared.limits.TheConstants.{BATCH_ACTS_MAX}
use Rattle.store_memory.proofs.Doing.{after_append, leaves_then, leaves_weaker}
use Rattle.store_memory.specs.Views.{View, IsFirstOf, IsSameStore, Leaves}
use Rattle.store_state.specs.declared.state.StoreState.{StoreState}
use Rattle.service_hosts.specs.Homes.{may_host}
use Rattle.service_moves.specs.Doing.{Step, DoSteps, acts_at}
use Rattle.service_moves.specs.Plans.{states_at}
use Rattle.service_moves.specs.Stores.{AreSame, AreStores}
use Rattle.service_starts.specs.Fitting.{misfit}
use Rattle.service_stores.specs.Plans.{AreBeginning}
use Rattle.service_stores.specs.Starting.{told_by, start_from}
use Rattle.std.proofs.Math.Logic.{∥∥₁_map}
use Rattle.service_watch.proofs.Going.{first_views, gone_first, left_first, left_more, left_then, view_at}
use Rattle.service_watch.specs.Gone.{HasGone, HaveGone as HaveWorked, IsLeftOf}
use Rattle.service_moves.specs.Stores.{states_of}
use Rattle.std.specs.Prelude.{Result, map}
use Rattle.service_run.specs.Steps.{HasWorked, HaveKeptSoFar, HaveServed}
use Rattle.service_run.specs.declared.disks.Stopped.{Stopped}
use Rattle.service_run.specs.declared.outcome.Course.{Course}

-- the acts with which a store began, and those that it did then
pub worked_on : (begins : List Act) (old mid new : View) → mid.state ≡ state_after old.state begins → IsSameStore old
    mid → Leaves (IsFirstOf old.state begins) old mid → HasGone mid new → HasWorked begins old new
worked_on begins old mid new made same first gone = record {
  acts = gone.acts;
  each =
      subst (λ (r : Roster). Each (IsAct r old.state.server) gone.acts) same.roster
      (subst (λ (s : ServerId). Each (IsAct mid.state.roster s) gone.acts) same.server gone.each);
  state = gone.state ∙ ap (λ (s : StoreState). state_after s gone.acts) made ∙ sym
      (after_append begins gone.acts old.state);
  leaves =
      leaves_then
      (leaves_weaker first (λ found is. left_more old.state begins gone.acts found
      (left_first old.state begins found is)))
      (leaves_weaker gone.leaves (λ found left. left_then old.state mid.state begins gone.acts found made same.roster
      same.server left));
}

module _ {S : Type 0} (view : S → View) where
  -- what was seen first of a store
  seen_here : (stores : List S) (k : ℕ) (x : S) (now : View) → slice_get stores k ≡ Some x → HasGone
      (view_at view stores k) now → HasGone (view x) now
  seen_here [] k x now is gone = absurd (cc)
  seen_here (s ∷ stores) zero x now is gone = (let same : s ≡ x = cc in subst (λ (y : S). HasGone (view y) now) same
      gone)
  seen_here (s ∷ stores) (suc k) x now is gone = seen_here stores k x now is gone

  -- the store at a place of a list
  pub store_at : (roster : Roster) (worn n k : ℕ) (stores : List S) (x : S) → AreStores view roster worn n stores
      → slice_get stores k ≡ Some x → (view x).state.server.0 ≡ n + k
  store_at roster worn n k [] x are is = absurd (cc)
  store_at roster worn n zero (s ∷ stores) x are is =
      (let same : s ≡ x = cc in
      let e : (view s).state.server.0 ≡ n = ap (λ (i : ServerId). i.0) are.0.server in
      subst (λ (y : S). (view y).state.server.0 ≡ n + 0) same (omega (arith, e)))
  store_at roster worn n (suc k) (s ∷ stores) x are is =
      (let e = store_at roster worn (n + 1) k stores x are.1 is in omega (arith, e))

  -- those that begin to be watched
  pub watched_first : (roster : Roster) (worn : ℕ) (stores : List S) → AreStores view roster worn 1 stores
      → HaveWorked (first_views view stores) view stores
  watched_first roster worn stores are =
      gone_first view stores (λ k x is. (let e = store_at roster worn 1 k stores x are is in omega (arith, e)))

  -- and went on
  worked_at : (from : ℕ → View) (stores : List S) (k : ℕ) (x : S) → HaveWorked from view stores → slice_get stores k
      ≡ Some x → ∥ HasGone (from (view x).state.server.0) (view x) ∥₁
  worked_at from [] k x worked is = absurd (cc)
  worked_at from (s ∷ stores) zero x worked is =
      (let same : s ≡ x = cc in
      subst (λ (y : S). ∥ HasGone (from (view y).state.server.0) (view y) ∥₁) same worked.0)
  worked_at from (s ∷ stores) (suc k) x worked is = worked_at from stores k x worked.1 is

  -- the store behind one
  record Behind (olds : List S) (k : ℕ) (new : S) : Type 0 where
    pub from : S
    pub was : slice_get olds k ≡ Some from
    pub same : IsSameStore (view from) (view new)

  behind_at : (olds news : List S) (k : ℕ) (new : S) → AreSame view olds news → slice_get news k ≡ Some new → Behind
      olds k new
  behind_at [] [] k new same is = absurd (cc)
  behind_at [] (y ∷ news) k new same is = absurd same
  behind_at (x ∷ olds) [] k new same is = absurd same
  behind_at (x ∷ olds) (y ∷ news) zero new same is = (let e : y ≡ new = cc in record
      { from = x; was = refl; same = subst (λ (z : S). IsSameStore (view x) (view z)) e same.0 })
  behind_at (x ∷ olds) (y ∷ news) (suc k) new same is = (let b = behind_at olds news k new same.3 is in record
      { from = b.from; was = b.was; same = b.same })

  pub have_served : {E : Type 0} (script : Script) (disks worn : ℕ) (olds mids news : List S) (start : Tree)
      (result : Result Course Stopped)
      → AreStores view script.roster worn 1 mids → AreSame view olds mids → AreSame view mids news
      → misfit (told_by view disks olds) ≡ None → may_host script (start_from script.roster
      (told_by view disks olds)) ≡ true
      → (steps : List Step) × AreBeginning (states_at view olds) steps × DoSteps {T = Tree} {E = E} view (Ok start)
      steps olds mids → HaveWorked (first_views view mids) view news
      → HaveKeptSoFar view script (start_from script.roster (told_by view disks olds))
      (map (λ (state : StoreState). state.epoch + 1) (states_of view olds)) result news
      → HaveServed view script disks result olds news
  have_served script disks worn olds mids news start result are first then fit may began worked so_far = record {
    fit = fit;
    may = may;
    begins = began.0;
    beginning = began.1;
    each = λ k before after was is.
        (let m = behind_at mids news k after then is in
        let o = behind_at olds mids k m.from first m.was in
        let same : o.from ≡ before = (let p = o.was in cc) in
        let same_store : IsSameStore (view before) (view m.from) = subst
        (λ (z : S). IsSameStore (view z) (view m.from)) same o.same in
        let number : (view m.from).state.server.0 ≡ 1 + k = store_at script.roster worn 1 k mids m.from are m.was in
        let its : (view after).state.server.0 ≡ (view m.from).state.server.0 = ap (λ (i : ServerId). i.0)
        m.same.server in
        let place : (view after).state.server.0 - 1 ≡ k = omega (arith, number, its) in
        let went = worked_at (first_views view mids) news k after worked is in
        let does = began.2 in
        let all : take does.cut began.0 ≡ began.0 = ap (λ (n : ℕ). take n began.0) does.all ∙ take-length began.0 in
        let made : (view m.from).state ≡ state_after (view before).state (acts_at k began.0) =
        does.states k before m.from was m.was ∙ ap
        (λ (l : List Step). state_after (view before).state (acts_at k l)) all in
        let far : take (does.cut + BATCH_ACTS_MAX) began.0 ≡ began.0 =
        ap (λ (n : ℕ). take (n + BATCH_ACTS_MAX) began.0) does.all ∙ take_beyond began.0 BATCH_ACTS_MAX in
        let left : Leaves (IsFirstOf (view before).state (acts_at k began.0)) (view before) (view m.from) = subst
        (λ (l : List Step). Leaves (IsFirstOf (view before).state (acts_at k l)) (view before) (view m.from)) far
        (does.leaves k before m.from was m.was) in
        ∥∥₁_map went (λ gone. worked_on (acts_at k began.0) (view before) (view m.from) (view after) made same_store
        left
        (seen_here mids k m.from (view after) m.was
        (subst (λ (j : ℕ). HasGone (view_at view mids j) (view after)) place gone))));
    so_far = so_far;
  }
    where
      take_nil : (n : ℕ) → take {A = Step} n [] ≡ []
      take_nil zero = refl
      take_nil (suc n) = refl

      take_beyond : (steps : List Step) (n : ℕ) → take (length steps + n) steps ≡ steps
      take_beyond [] n = take_nil (0 + n)
      take_beyond (step ∷ steps) n =
          (let e : length (step ∷ steps) + n ≡ suc (length steps + n) = omega arith in
          ap (λ (m : ℕ). take m (step ∷ steps)) e ∙ ap (λ (l : List Step). step ∷ l) (take_beyond steps n))
