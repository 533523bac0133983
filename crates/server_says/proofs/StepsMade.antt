-- A step that was made, if it could be.
use Rattle.std.proofs.Common.{◌≡◌, sym, ap, subst}
use Rattle.std.specs.Prelude.{IfOk, OnOk, Result, Ok, Err}
use Rattle.run_rules.specs.declared.step.Cause.{Cause}
use Rattle.run_rules.specs.declared.step.Step.{Step}
use Rattle.base_types.specs.declared.ids.ServerId.{ServerId}
use Rattle.server_takes.specs.Drafts.{step_of}
use Rattle.server_takes.specs.declared.draft.Draft.{Draft}
use Rattle.server_says.specs.Running.{step_if}

module _ {T E : Type 0} (made : Result T E) (s : Step) (result : Result Step E) (is : result ≡ step_if made s) where
  -- what held where it could be made holds of the result
  pub if_made : (P : Type 0) → OnOk made P → OnOk result P
  if_made P p = subst (λ (r : Result Step E). OnOk r P) (sym is) (by made p)
    where
      by : (m : Result T E) → OnOk m P → OnOk (step_if m s) P
      by (Ok value) p = p
      by (Err error) p = tt

  -- and so it is with what is said of the step
  pub step_made : (P : Step → Type 0) → OnOk made (P s) → IfOk result P
  step_made P p = subst (λ (r : Result Step E). IfOk r P) (sym is) (by made p)
    where
      by : (m : Result T E) → OnOk m (P s) → IfOk (step_if m s) P
      by (Ok value) p = p
      by (Err error) p = tt

pub draft_made : {T E : Type 0} (made : Result T E) (server : ServerId) (cause : Cause) (d e : Draft)
    → OnOk made (d ≡ e) → OnOk made (step_of server cause d ≡ step_of server cause e)
draft_made (Ok value) server cause d e p = ap (λ (z : Draft). step_of server cause z) p
draft_made (Err error) server cause d e p = tt
