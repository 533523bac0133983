-- What is due of the next step of the end.
use Rattle.base_types.specs.declared.ids.Node.TheVariants.{Host}
use Rattle.host_cache.specs.Holding.{IsOnce}
use Rattle.host_gives.specs.Giving.{IsSound as IsSoundGives}
use Rattle.host_labels.specs.Labels.{IsSound as IsSoundUses}
use Rattle.host_manager.proofs.EndDue.{all_due, byes_due}
use Rattle.host_manager.proofs.EndLabel.{first_label_due}
use Rattle.host_manager.specs.Closing.{EndsNext}
use Rattle.host_manager.specs.Closing.EndsNext.{Awaits, EndsLabel, LeavesAll, Parts}
use Rattle.host_manager.specs.Due.{EndDue}
use Rattle.host_manager.specs.Spoken.{IsFree}
use Rattle.host_tables.specs.Drafts.{no_draft, step_of}
use Rattle.host_tables.specs.declared.draft.Draft.{Draft}
use Rattle.host_tables.specs.declared.tables.Tables.{Tables}
use Rattle.run_rules.specs.declared.step.Cause.TheVariants.{End}
use Rattle.std.proofs.Common.{Bool, ap, subst, sym, true, ◌∙◌, ◌≡◌}

pub end_due : (m new : Tables) (after : Draft) (b : Bool) → b ≡ true → IsFree m → IsOnce m.cache.held
    → IsSoundUses m.uses → IsSoundGives m.gives → IsSoundGives new.gives → EndsNext m no_draft new after b
    → EndDue m (step_of (Host m.host) End after)
end_due m new after _ e free once uses sound sound_new (EndsLabel call first begins) =
    first_label_due m new after call first begins free uses sound sound_new
end_due m new after _ e free once uses sound sound_new (LeavesAll labels some leaves) =
    all_due m new after free once sound sound_new labels some leaves
end_due m new after _ e free once uses sound sound_new (Awaits labels held given same is) = absurd (cc)
end_due m new after _ e free once uses sound sound_new (Parts some labels held given tables is said) =
    subst (λ (d : Draft). EndDue m (step_of (Host m.host) End d)) (sym is)
    (byes_due m free held given (λ empty. said.0 e (ap (λ (d : Draft). d.sent) is ∙ empty)))
