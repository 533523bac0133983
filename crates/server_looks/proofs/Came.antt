-- What a store keeps goes on by acts of its server.
use Rattle.std.proofs.Common.{◌≡◌, ◌≤◌, ◌∙◌, ℕ, zero, suc, List, [], ◌∷◌, ◌++◌, length, take, arith}
use Rattle.std.proofs.Common.{refl, sym, ap, subst}
use Rattle.base_types.specs.declared.ids.ServerId.{ServerId}
use Rattle.tree_calls.specs.declared.roster.Roster.{Roster}
use Rattle.message_types.specs.Soundness.{Each}
use Rattle.message_types.specs.declared.message.Message.{Message}
use Rattle.store_acts.specs.Acts.{state_after}
use Rattle.store_acts.specs.Sound.{AllFit, AreActs, IsAct}
use Rattle.store_acts.specs.declared.act.Act.{Act}
use Rattle.store_memory.proofs.Doing.{after_append}
use Rattle.store_memory.specs.Views.{IsSameStore, View}
use Rattle.store_state.specs.declared.state.StoreState.{StoreState}
use Rattle.server_looks.specs.Keepers.{GoesOn, HasCome, IsDoneFor}
use Rattle.server_looks.proofs.Again.{take_all}

each_append : {X : Type 0} (P : X → Type 0) (xs ys : List X) → Each P xs → Each P ys → Each P (xs ++ ys)
each_append P [] ys front back = back
each_append P (x ∷ xs) ys front back = (front.0, each_append P xs ys front.1 back)

each_take : {X : Type 0} (P : X → Type 0) (k : ℕ) (xs : List X) → Each P xs → Each P (take k xs)
each_take P zero xs each = tt
each_take P (suc k) [] each = tt
each_take P (suc k) (x ∷ xs) each = (each.0, each_take P k xs each.1)

-- it has come from itself
pub come_none : (came : List Message) (state : StoreState) → HasCome came state state
come_none came state = record { acts = []; each = tt; done_for = tt; server = refl; roster = refl; state = refl }

-- a store that was only asked goes on
pub goes_idle : (came : List Message) (old new : View) → new.state ≡ old.state → GoesOn came old new
goes_idle came old new same = λ from h. subst (λ (s : StoreState). HasCome came from s) (sym same) h

-- and so does one that did the first of some acts
pub goes_done : (came : List Message) (old new : View) (batch : List Act) (k : ℕ) → IsSameStore old new
    → AreActs old.state.roster old.state.server batch → Each (IsDoneFor came) batch
    → new.state ≡ state_after old.state (take k batch) → GoesOn came old new
goes_done came old new batch k same are done made = λ from h. record {
  acts = h.acts ++ take k batch;
  each = each_append (IsAct from.roster from.server) h.acts (take k batch) h.each
      (subst (λ (r : Roster). Each (IsAct r from.server) (take k batch)) h.roster
      (subst (λ (s : ServerId). Each (IsAct old.state.roster s) (take k batch)) h.server
      (each_take (IsAct old.state.roster old.state.server) k batch are.each)));
  done_for = each_append (IsDoneFor came) h.acts (take k batch) h.done_for (each_take (IsDoneFor came) k batch done);
  server = same.server ∙ h.server;
  roster = same.roster ∙ h.roster;
  state = made ∙ ap (λ (s : StoreState). state_after s (take k batch)) h.state
      ∙ sym (after_append h.acts (take k batch) from);
}

-- # As the store's calls say it

-- a store was only asked, or opened anew
pub went_idle : (tells : Type 0) (came : List Message) (old new : View) → (tells → new.state ≡ old.state) → tells
    → GoesOn came old new
went_idle tells came old new still t = goes_idle came old new (still t)

-- nothing was asked of it
pub went_kept : {S : Type 0} (view : S → View) (came : List Message) (old new : S) → new ≡ old
    → GoesOn came (view old) (view new)
went_kept {S} view came old new same = λ from h. subst (λ (s : S). HasCome came from (view s).state) (sym same) h

module _ {S : Type 0} (tells : Type 0) (view : S → View) (old spent new : S) (is : spent ≡ old) (batch : List Act)
    (are : AreActs (view old).state.roster (view old).state.server batch)
    (fits : (state : StoreState) → AllFit state batch) where
  -- the first of a batch was done
  pub went_first : IsSameStore (view spent) (view new)
      → (tells → AllFit (view spent).state batch → (k : ℕ) × (k ≤ length batch)
      × ((view new).state ≡ state_after (view spent).state (take k batch))) → tells → (came : List Message)
      → Each (IsDoneFor came) batch → GoesOn came (view old) (view new)
  went_first same made t came done =
      let first = made t (fits (view spent).state) in
      subst (λ (s : S). GoesOn came (view s) (view new)) is (goes_done came (view spent) (view new) batch first.0 same
      (subst (λ (s : S). AreActs (view s).state.roster (view s).state.server batch) (sym is) are) done first.2)

  -- or all of it
  pub went_all : IsSameStore (view spent) (view new)
      → (tells → AllFit (view spent).state batch → (view new).state ≡ state_after (view spent).state batch)
      → tells → (came : List Message) → Each (IsDoneFor came) batch → GoesOn came (view old) (view new)
  went_all same made = went_first same (λ t f.
      (length batch, omega arith, made t f ∙ ap (state_after (view spent).state) (sym (take_all batch))))

-- and then something else
pub went_then : (came : List Message) (a b c : View) → GoesOn came a b → GoesOn came b c → GoesOn came a c
went_then came a b c x y = λ from h. y from (x from h)
