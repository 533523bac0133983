-- The end's step, where there is one.
use Rattle.base_types.specs.declared.ids.Node.TheVariants.{Host}
use Rattle.host_gives.specs.Giving.{IsSound as IsSoundGives}
use Rattle.host_labels.specs.Labels.{IsSound as IsSoundUses}
use Rattle.host_cache.specs.Holding.{IsOnce}
use Rattle.host_manager.proofs.EndsDue.{end_due}
use Rattle.host_manager.proofs.NextEnds.{end_none, end_some}
use Rattle.host_manager.proofs.Owned.{ends_own}
use Rattle.host_manager.specs.Closing.{EndsNext, MayEnd}
use Rattle.host_manager.specs.Due.{EndDue, IsOwn}
use Rattle.host_manager.specs.Spoken.{IsFree}
use Rattle.host_tables.specs.Drafts.{no_draft, step_of}
use Rattle.host_manager.specs.Running.{EndRight}
use Rattle.host_tables.specs.declared.draft.Draft.{Draft}
use Rattle.host_tables.specs.declared.tables.Tables.{Tables}
use Rattle.run_rules.specs.declared.step.Cause.TheVariants.{End}
use Rattle.run_rules.specs.declared.step.Step.{Step}
use Rattle.std.proofs.Common.{Bool, Err, IfOk, None, Ok, Option, Result, Some, false, if◌then◌else◌, refl, subst, sym}
use Rattle.std.proofs.Common.{true, ◌≡◌}
use Rattle.std.specs.Prelude.{IfSome, IsOk, MatchOption, OnOk, ◌≢◌}

-- what an answer is, where something was made or not
made_so : {A E : Type 0} (made : Result Bool E) (result : Result (Option A) E) (step : A) (P : Bool → Type 0)
    (Q : Option A → Type 0) → IfOk made P → OnOk result (IsOk made)
    → IfOk result (λ answer. IfOk made (λ some. answer ≡ (if some then Some step else None)))
    → (P true → Q (Some step)) → (P false → Q None) → IfOk result Q
made_so made (Err e) step P Q p ok is f g = tt
made_so (Err e) (Ok a) step P Q p ok is f g = absurd (let z = ok in cc)
made_so (Ok true) (Ok a) step P Q p ok is f g = subst Q (sym is) (f p)
made_so (Ok false) (Ok a) step P Q p ok is f g = subst Q (sym is) (g p)

module _ {E : Type 0} (m new : Tables) (after : Draft) (made : Result Bool E) (result : Result (Option Step) E)
    (step : Step) (step_is : step ≡ step_of (Host m.host) End after) (its : IfOk made (EndsNext m no_draft new after))
    (ok : OnOk result (IsOk made))
    (is : IfOk result (λ answer. IfOk made (λ some. answer ≡ (if some then Some step else None)))) where
  pub end_right : IsFree m → IsOnce m.cache.held → IsSoundUses m.uses → IsSoundGives m.gives → IsSoundGives new.gives
      → IfOk result (λ answer. MatchOption answer (new ≡ m) (λ step. EndRight m new step))
  end_right free once uses sound sound_new = made_so made result step (EndsNext m no_draft new after)
      (λ answer. MatchOption answer (new ≡ m) (λ step. EndRight m new step)) its ok is
      (λ ends. subst (EndRight m new) (sym step_is) (end_some m new after true refl free once uses sound sound_new
      ends))
      (λ ends. (end_none m new after false refl ends).0)

  pub end_there : IfOk result (λ answer. MayEnd m → answer ≢ None)
  end_there = made_so made result step (EndsNext m no_draft new after) (λ answer. MayEnd m → answer ≢ None) its ok is
      (λ ends may e. let z = e in cc) (λ ends may. absurd ((end_none m new after false refl ends).1 may))

  pub end_own : IfOk result (λ answer. IfSome answer (IsOwn m))
  end_own = made_so made result step (EndsNext m no_draft new after) (λ answer. IfSome answer (IsOwn m)) its ok is
      (λ ends. subst (IsOwn m) (sym step_is) (ends_own m new after true ends)) (λ ends. tt)

  pub end_is_due : IsFree m → IsOnce m.cache.held → IsSoundUses m.uses → IsSoundGives m.gives
      → IsSoundGives new.gives → IfOk result (λ answer. IfSome answer (EndDue m))
  end_is_due free once uses sound sound_new = made_so made result step (EndsNext m no_draft new after)
      (λ answer. IfSome answer (EndDue m)) its ok is
      (λ ends. subst (EndDue m) (sym step_is) (end_due m new after true refl
      free once uses sound sound_new ends))
      (λ ends. tt)
