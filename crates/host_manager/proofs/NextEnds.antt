-- The steps of the end, and when there is none.
use Rattle.base_types.specs.declared.ids.Node.TheVariants.{Host}
use Rattle.host_gives.specs.Giving.{IsSound as IsSoundGives}
use Rattle.host_leaves.specs.Sending.{message_to, saying}
use Rattle.host_labels.specs.Labels.{IsSound as IsSoundUses}
use Rattle.host_cache.specs.Holding.{IsOnce}
use Rattle.host_manager.proofs.AllEnds.{all_right}
use Rattle.host_manager.proofs.EndLabel.{first_label_ends}
use Rattle.host_manager.proofs.Folding.{fold_said, saying_said, where_keeps}
use Rattle.host_manager.proofs.Parting.{byes_run}
use Rattle.host_manager.specs.Closing.{EndsNext, MayEnd, has_parted_from, is_to_part, parting}
use Rattle.host_manager.specs.Closing.EndsNext.{Awaits, EndsLabel, LeavesAll, Parts}
use Rattle.host_manager.specs.Spoken.{IsFree}
use Rattle.host_tables.proofs.Lists.{by_test}
use Rattle.host_tables.specs.Drafts.{no_draft, step_of}
use Rattle.host_manager.specs.Running.{EndRight}
use Rattle.host_tables.specs.declared.draft.Draft.{Draft}
use Rattle.host_tables.specs.declared.sites.Site.{Site}
use Rattle.host_tables.specs.declared.tables.Tables.{Tables}
use Rattle.message_types.specs.declared.message.Body.TheVariants.{Bye}
use Rattle.message_types.specs.declared.message.Message.{Message}
use Rattle.run_rules.specs.Past.{In}
use Rattle.run_rules.specs.declared.step.Cause.TheVariants.{End}
use Rattle.std.proofs.Common.{Bool, List, [], ap, false, fold}
use Rattle.std.proofs.Common.{if◌then◌else◌, inl, inr, map, not, refl, subst, sym}
use Rattle.std.proofs.Common.{true, ◌&&◌, ◌||◌, ◌∙◌, ◌∷◌, ◌≡◌}
use Rattle.std.specs.Prelude.{IsTrue, ◌≢◌}

-- # Byes
pub bye_said : (m : Tables) (site : Site) → In site m.sites → is_to_part site ≡ true
    → In (message_to m site.server Bye) (fold (parting m) no_draft m.sites).sent
bye_said m site i t = fold_said (parting m) (λ d x y j. where_keeps m (λ x. Bye) is_to_part d x y j) site
    (message_to m site.server Bye)
    (λ d. subst (λ (b : Bool). In (message_to m site.server Bye) (if b then saying m site.server Bye d else d).sent)
    (sym t) (saying_said m site.server Bye d)) no_draft m.sites i

stays_parted : (site : Site) → is_to_part site ≡ false → has_parted_from site ≡ site
stays_parted site e = by_both site.said_bye site.greeted refl refl e
  where
    by_both : (b g : Bool) → site.said_bye ≡ b → site.greeted ≡ g → is_to_part site ≡ false
        → has_parted_from site ≡ site
    by_both true g p q f = (λ i. record site { said_bye = (p i || site.greeted) })
        ∙ (λ i. record site { said_bye = (sym p) i })
    by_both false false p q f = (λ i. record site { said_bye = (p i || q i) })
        ∙ (λ i. record site { said_bye = (sym p) i })
    by_both false true p q f = absurd (
        let r : is_to_part site ≡ true = λ i. q i && not (p i) in let z : true ≡ false = sym r ∙ f in cc)

all_parted : (sites : List Site) → ((site : Site) → In site sites → is_to_part site ≡ false)
    → map has_parted_from sites ≡ sites
all_parted [] none = refl
all_parted (site ∷ sites) none =
    let first = stays_parted site (none site (inl refl)) in
    let rest = all_parted sites (λ x i. none x (inr i)) in
    λ i. first i ∷ rest i

nothing_in : {A : Type 0} (xs : List A) → (xs ≢ [] → ⊥) → xs ≡ []
nothing_in [] n = refl
nothing_in (x ∷ xs) n = absurd (n (λ e. let p = e in cc))

none_sent : (m : Tables) → (fold (parting m) no_draft m.sites).sent ≡ [] → (site : Site) → In site m.sites
    → is_to_part site ≡ false
none_sent m e site i = elim (by_test (is_to_part site)) [
  | inl t ↦ absurd (elim (subst (λ (ys : List Message). In (message_to m site.server Bye) ys) e (bye_said m site i t))
      [ ])
  | inr f ↦ f
]

-- # There is no step to make now
pub end_none : (m new : Tables) (after : Draft) (b : Bool) → b ≡ false → EndsNext m no_draft new after b
    → (new ≡ m) × (MayEnd m → ⊥)
end_none m new after _ e (EndsLabel call first begins) = absurd (cc)
end_none m new after _ e (LeavesAll labels some leaves) = absurd (cc)
end_none m new after _ e (Awaits labels held given same is) = (
  same,
  λ may. elim may [ inl some ↦ absurd (some held) | inr r ↦ absurd (given r.0) ],
)
end_none m new after _ e (Parts some labels held given tables is said) =
    let none_true : IsTrue some → ⊥ = λ t. let p : some ≡ true = t in let q : true ≡ false = sym p ∙ e in cc in
    let empty : after.sent ≡ [] = nothing_in after.sent (λ n. none_true (said.1 n)) in
    let quiet = none_sent m (sym (ap (λ (d : Draft). d.sent) is) ∙ empty) in (
      tables ∙ ap (λ (sites : List Site). record m { sites = sites }) (all_parted m.sites quiet),
      λ may. elim may [
        | inl some ↦ absurd (some held)
        | inr r ↦ absurd (let f = quiet r.1.0 r.1.1 in let p : true ≡ false = sym r.1.2 ∙ f in cc)
      ],
    )

-- # The next step

pub end_some : (m new : Tables) (after : Draft) (b : Bool) → b ≡ true → IsFree m → IsOnce m.cache.held
    → IsSoundUses m.uses → IsSoundGives m.gives → IsSoundGives new.gives → EndsNext m no_draft new after b
    → EndRight m new (step_of (Host m.host) End after)
end_some m new after _ e free once uses sound sound_new (EndsLabel call first begins) =
    first_label_ends m new after call first begins free uses sound sound_new
end_some m new after _ e free once uses sound sound_new (LeavesAll labels some leaves) =
    all_right m new after free once sound sound_new labels some leaves
end_some m new after _ e free once uses sound sound_new (Awaits labels held given same is) = absurd (cc)
end_some m new after _ e free once uses sound sound_new (Parts some labels held given tables is said) =
    subst (λ (q : Tables × Draft). EndRight m q.0 (step_of (Host m.host) End q.1)) (λ i. (sym tables i, sym is i))
    (byes_run m free held given)
