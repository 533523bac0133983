-- The step of the end in which the use of the first label ends.
use Rattle.base_types.specs.declared.ids.Node.TheVariants.{Host}
use Rattle.host_asks.specs.Asking.{doing}
use Rattle.host_asks.specs.Going.{Goes, left_open}
use Rattle.host_calls.specs.Looking.{ending_of}
use Rattle.host_gives.specs.Giving.{IsSound as IsSoundGives}
use Rattle.host_labels.specs.Labels.{IsSound as IsSoundUses, is_lock}
use Rattle.host_labels.specs.declared.uses.Labelled.{Labelled as UseOf}
use Rattle.host_manager.proofs.Freed.{end_is}
use Rattle.host_manager.proofs.GivesStep.{no_sync}
use Rattle.host_manager.proofs.GoesDue.{by_end, goes_due}
use Rattle.host_manager.proofs.TurnOf.{end_turn}
use Rattle.host_manager.proofs.Turned.{turn_runs}
use Rattle.host_manager.proofs.Turns.{at_turn, turn_draft}
use Rattle.host_manager.specs.Closing.{BeginsIt, first_end}
use Rattle.host_manager.specs.Due.{EndDue}
use Rattle.host_manager.specs.Running.{EndRight, IsRunning, RunsOn}
use Rattle.host_manager.specs.Spoken.{IsFree as IsFreePair}
use Rattle.host_tables.specs.Drafts.{no_draft, step_of}
use Rattle.host_tables.specs.Stands.{Stands}
use Rattle.host_tables.specs.Tables.{labelled}
use Rattle.host_tables.specs.declared.draft.Draft.{Draft}
use Rattle.host_tables.specs.declared.tables.Tables.{Tables}
use Rattle.run_rules.specs.HostDue.{HostDue}
use Rattle.run_rules.specs.HostMay.{TakenBefore}
use Rattle.run_rules.specs.Past.{In}
use Rattle.run_rules.specs.Steps.{lines_gone, lines_of}
use Rattle.run_rules.specs.Tokens.{LabelInUse, end_of}
use Rattle.run_rules.specs.declared.step.Asked.{Asked}
use Rattle.run_rules.specs.declared.step.Cause.TheVariants.{End}
use Rattle.run_rules.specs.declared.step.Labelled.{Labelled}
use Rattle.run_rules.specs.declared.step.Step.{Step}
use Rattle.script_lines.specs.declared.script.Script.{Script}
use Rattle.std.proofs.Common.{List, Option, Some, [], ap, if◌then◌else◌, inl, length, refl, subst, sym, true, ℕ, ◌+◌}
use Rattle.std.proofs.Common.{◌∙◌, ◌∷◌, ◌≡◌}
use Rattle.tree_calls.specs.declared.call.Call.{Call}

-- the label that was taken first
pub taken_first : (script : Script) (m : Tables) (past : List Step) (stands : Stands script m past) (used : UseOf)
    (behind : List UseOf) → m.uses.labels ≡ used ∷ behind → (other : Labelled) → LabelInUse past other
    → TakenBefore past other (labelled used) → ⊥
taken_first script m past stands used behind is other o t =
    stands.uses.order [] behind used (record { label = other.label; token = other.token }) is
    (subst (λ (us : List UseOf). In (record { label = other.label; token = other.token }) us) is
    (stands.uses.labels other o)) t

module _ (m new : Tables) (after : Draft) (used : UseOf) (behind : List UseOf)
    (labels_is : m.uses.labels ≡ used ∷ behind) (free : IsFreePair m) (sound : IsSoundUses m.uses)
    (sound_m : IsSoundGives m.gives) (sound_new : IsSoundGives new.gives)
    (its : BeginsIt m no_draft (ending_of (is_lock used.token.kind) used.label) new after) (script : Script)
    (past : List Step) (running : IsRunning script m past)
    (gone : lines_gone past ≡ length (lines_of script (Host m.host))) where
  stands : Stands script m past
  stands = running.rests.stands

  within : In used m.uses.labels
  within = subst (λ (us : List UseOf). In used us) (sym labels_is) (inl refl)

  call_is : ending_of (is_lock used.token.kind) used.label ≡ end_of (labelled used)
  call_is = sym (end_is used.token.kind used.label (stands.uses.kinds (labelled used) (stands.uses.used used within)))

  abbrev k : ℕ
  k = m.begun + 1

  -- the implied call is begun
  goes : Goes k (end_of (labelled used)) true (doing (at_turn m true) (turn_draft [] [])) its.begins.gone
      its.begins.answered
  goes = subst (λ (q : Call × Option Asked). Goes k q.0 true
      (doing (record m { call = q.1; begun = k; lost = [] }) no_draft) its.begins.gone its.begins.answered)
      (λ i. (call_is i, free.0 i)) its.begins.goes

  after_is : doing new its.begun ≡ (if its.begins.answered then its.begins.gone
      else left_open (record { k = k; call = end_of (labelled used) }) its.begins.gone)
  after_is = its.begins.after ∙ ap (λ (c : Call). if its.begins.answered then its.begins.gone
      else left_open (record { k = k; call = c }) its.begins.gone) call_is

  pub label_runs : RunsOn script m new past (step_of (Host m.host) End after)
      × ((step_of (Host m.host) End after).cause ≡ End)
  label_runs = (
    turn_runs script m m past End [] [] (record { k = k; call = end_of (labelled used) }) true
        (end_turn script m past running (record { none_open = free.0; few = free.1 }) gone (labelled used)
        (stands.uses.used used within) (taken_first script m past stands used behind labels_is)) sound_m sound new
        its.begun after its.sends sound_new its.begins.gone its.begins.answered goes after_is,
    refl,
  )

  -- what is due of it
  pub label_due : HostDue script m.host past (step_of (Host m.host) End after)
  label_due =
      goes_due script m m past End [] [] (record { k = k; call = end_of (labelled used) }) true
      (end_turn script m past running (record { none_open = free.0; few = free.1 }) gone (labelled used)
      (stands.uses.used used within) (taken_first script m past stands used behind labels_is)) sound_m sound
      (by_end m past) new its.begun after its.sends label_runs.0 sound_new
      (λ place e fid left leaves. absurd (no_sync used.token.kind used.label place e)) its.begins.gone
      its.begins.answered goes after_is

pub first_label_ends : (m new : Tables) (after : Draft) (call : Call) → first_end m.uses.labels ≡ Some call
    → BeginsIt m no_draft call new after → IsFreePair m → IsSoundUses m.uses → IsSoundGives m.gives
    → IsSoundGives new.gives → EndRight m new (step_of (Host m.host) End after)
first_label_ends m new after call first its free sound sound_m sound_new = by_labels m.uses.labels refl first
  where
    by_labels : (us : List UseOf) → m.uses.labels ≡ us → first_end us ≡ Some call
        → EndRight m new (step_of (Host m.host) End after)
    by_labels [] e f = absurd (cc)
    by_labels (used ∷ behind) e f =
        let q : ending_of (is_lock used.token.kind) used.label ≡ call = cc in
        λ script past running gone. label_runs m new after used behind e free sound sound_m sound_new
        (subst (λ (c : Call). BeginsIt m no_draft c new after) (sym q) its) script past running gone

pub first_label_due : (m new : Tables) (after : Draft) (call : Call) → first_end m.uses.labels ≡ Some call
    → BeginsIt m no_draft call new after → IsFreePair m → IsSoundUses m.uses → IsSoundGives m.gives
    → IsSoundGives new.gives → EndDue m (step_of (Host m.host) End after)
first_label_due m new after call first its free sound sound_m sound_new = by_labels m.uses.labels refl first
  where
    by_labels : (us : List UseOf) → m.uses.labels ≡ us → first_end us ≡ Some call
        → EndDue m (step_of (Host m.host) End after)
    by_labels [] e f = absurd (cc)
    by_labels (used ∷ behind) e f =
        let q : ending_of (is_lock used.token.kind) used.label ≡ call = cc in
        λ script past running gone. label_due m new after used behind e free sound sound_m sound_new
        (subst (λ (c : Call). BeginsIt m no_draft c new after) (sym q) its) script past running gone
