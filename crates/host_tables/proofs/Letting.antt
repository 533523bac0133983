-- A step in which tokens leave.
use Rattle.host_tables.proofs.Assembling.{may_assembled}
use Rattle.host_tables.specs.Answering.{AnswersNone}
use Rattle.host_tables.specs.Causes.{CauseMay}
use Rattle.host_tables.specs.Giving.{GivesBack}
use Rattle.host_tables.specs.Half.{half}
use Rattle.host_tables.specs.Letting.{Keeping, LeavesMay, Sending}
use Rattle.host_tables.specs.Sending.{Moderate}
use Rattle.host_tables.specs.Stands.{Stands}
use Rattle.host_tables.specs.Tables.{held_of, own_of}
use Rattle.host_tables.specs.declared.tables.Tables.{Tables}
use Rattle.run_rules.specs.HostTokens.{MayLeave}
use Rattle.run_rules.specs.HostMay.{HostMay}
use Rattle.run_rules.specs.Past.{In}
use Rattle.run_rules.specs.Steps.{limit_of}
use Rattle.run_rules.specs.Tokens.{Held as HeldBy, Owns}
use Rattle.run_rules.specs.Views.{Stance}
use Rattle.run_rules.specs.declared.applied.Leave.{Leave}
use Rattle.run_rules.specs.declared.step.Step.{Step}
use Rattle.script_lines.specs.declared.script.Script.{Script}
use Rattle.std.proofs.Common.{List, ap, arith, inl, inr, refl, sym, ◌∙◌, ◌∷◌, ◌≡◌, ◌⊎◌}
use Rattle.token_types.specs.declared.token.Token.{Token}
use Rattle.host_tables.proofs.Answered as answered
use Rattle.host_tables.proofs.Giving as giving
use Rattle.host_tables.proofs.Standing as standing
use Rattle.host_tables.proofs.Unanswered as unanswered

module _ (script : Script) (m : Tables) (past : List Step) (s : Step) (learnt : Stands script m (half s ∷ past))
    (kept : List Token) (keeping : Keeping m past s kept) (gives : GivesBack m past s kept)
    (none : AnswersNone m past s)
    (cause : CauseMay script m.host past s)
    (leaves : (l : Leave) → In l s.dropped → MayLeave script.roster m.host (limit_of script.roster m.host) past s l.why
    l.token)
    (sending : (stance : Stance script.roster m.host past s) → stance.kept ≡ kept → stance.held ≡ held_of m
    → stance.own ≡ own_of m → stance.user ≡ m.user → Sending script m.host past s stance) where
  keeps : (t : Token) → In t kept → HeldBy (s ∷ past) t
  keeps t i = (standing.hand_of script m past s learnt t (keeping.were t i), (keeping.stay t i).1)

  cached : (t : Token) → HeldBy (s ∷ past) t → In t kept
  cached t h = elim (keeping.gone t (standing.of_hand script m past s learnt t h.0)) [
    | inl i ↦ i
    | inr x ↦ absurd (h.1 x.1)
  ]

  -- what is owned once tokens were taken
  owned_half : (t : Token) → In t s.taken ⊎ Owns past t → In t (held_of m)
  owned_half t o = learnt.cache.owns t (o, λ l. elim l [ inl x ↦ elim x.1 [ ] | inr r ↦ elim r.4.1 [ ] ])

  owns : (t : Token) → In t kept → Owns (s ∷ past) t
  owns t i = ((learnt.cache.owned t (keeping.were t i)).0, (keeping.stay t i).0)

  owned : (t : Token) → Owns (s ∷ past) t → In t kept
  owned t o = elim (keeping.gone t (owned_half t o.0)) [ inl i ↦ i | inr x ↦ absurd (o.1 x.0) ]

  abbrev its : Stance script.roster m.host past s
  its = standing.stance script m past s learnt kept keeps cached

  sent : Sending script m.host past s its
  sent = sending its refl refl refl refl

  moderate : Moderate script.roster m.host past s its
  moderate = record {
    live = cause.live;
    sends = sent.may;
    asks = sent.asks;
    takes = cause.takes;
    drops = λ t h l. elim (keeping.gone t (standing.of_hand script m past s learnt t h)) [
      | inl i ↦
          absurd ((keeping.stay t i).0 l)
      | inr x ↦ x.1
    ];
    drops_only = λ t d. elim (keeping.gone t (keeping.dropped t d)) [
      | inl i ↦ absurd ((keeping.stay t i).1 d)
      | inr x ↦ x.0
    ];
    makes = λ g i j k. let r = gives.ids g i j k in (r.0, standing.hand_of script m past s learnt r.0 r.1, r.2, r.3);
    makes_once = λ g k i a b p q.
        let x = gives.ids g i a p in let y = gives.ids k i b q in
        let same : x.0 ≡ y.0 = learnt.cache.once x.0 y.0 x.1 y.1 (x.2 ∙ sym y.2) in
        gives.one g k a b (sym x.3 ∙ (ap (λ (t : Token). t.fid) same ∙ y.3));
    makes_from = λ g i. let a = gives.above g i in omega (arith, a);
    makes_apart = gives.apart;
    makes_new = giving.made_new script m past s learnt kept owns owned gives;
    one_fetch = sent.one_fetch;
    one_change = sent.one_change;
    one_of_both = sent.one_of_both;
  }

  pub meets : HostMay script m.host past s
  meets = may_assembled script m.host past s its moderate cause.takes_all
      (unanswered.answers script m past s learnt kept keeps cached none)
      (giving.gives script m past s learnt kept owns owned gives)
      (record { leaves = leaves })
      cause.lines

pub leaves_may : LeavesMay
leaves_may script m past s learnt kept keeping gives none cause leaves sending =
    meets script m past s learnt kept keeping gives none cause leaves sending
