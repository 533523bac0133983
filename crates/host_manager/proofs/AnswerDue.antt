-- What is due of an answer: a message that is neither a Restarted nor a Reclaimed, and no Revoke, where nothing is said
-- again and no give-back became due.
use Rattle.base_types.specs.declared.ids.ServerId.{ServerId}
use Rattle.host_manager.proofs.HeardDue.{IsHeardDue, heard_step}
use Rattle.host_manager.proofs.TurnDue.{IsTurnDue}
use Rattle.host_tables.proofs.Lists.{none_in}
use Rattle.host_tables.specs.Half.{learning}
use Rattle.host_tables.specs.Stands.{IsAtRest}
use Rattle.host_tables.specs.declared.draft.Draft.{Draft}
use Rattle.host_tables.specs.declared.tables.Tables.{Tables}
use Rattle.message_types.specs.declared.giving.Reclaimed.{Reclaimed as ReclaimedOf}
use Rattle.message_types.specs.declared.message.Body.{Body}
use Rattle.message_types.specs.declared.message.Body.TheVariants.{Reclaimed, Restarted, Revoke}
use Rattle.message_types.specs.declared.message.Message.{Message}
use Rattle.message_types.specs.declared.tokens.Revoke.{Revoke as RevokeOf}
use Rattle.run_rules.specs.Messages.{ComesIn}
use Rattle.run_rules.specs.Past.{EachOnce}
use Rattle.run_rules.specs.declared.step.Cause.TheVariants.{Message as Came}
use Rattle.run_rules.specs.declared.step.Step.{Step}
use Rattle.std.proofs.Common.{List, [], ap, false, refl, subst, sym, ℕ, ◌∙◌, ◌≡◌}

module _ (m : Tables) (past : List Step) (message : Message) (d : Draft) (none_sent : d.sent ≡ [])
    (none_due : d.due ≡ []) (once : EachOnce d.taken) (no_restart : message.body ≡ Restarted → ⊥)
    (no_revoke : (r : RevokeOf) → message.body ≡ Revoke r → ⊥)
    (no_reclaimed : (a : ReclaimedOf) → message.body ≡ Reclaimed a → ⊥) where
  body_is : (s : Step) → s.cause ≡ Came message → (c : Body) (v : ServerId) (k n : ℕ) → ComesIn s v k n c
      → message.body ≡ c
  body_is s is c v k n z =
      let p : Came message ≡ Came z.0 = sym is ∙ z.1 in
      let q : message ≡ z.0 = cc in ap (λ (y : Message). y.body) q ∙ z.5

  pub answer_is_due : IsAtRest m past → IsHeardDue m past message d
  answer_is_due rest = record {
    rest = rest;
    no_restart = λ v l. no_restart (body_is (heard_step m message d) refl Restarted _ _ _ l.2.2);
    no_revoke = λ r z. no_revoke r (body_is (heard_step m message d) refl (Revoke r) _ _ _ z);
    once_taken = once;
    once_sent = subst EachOnce (sym none_sent) tt;
    once_due = subst EachOnce (sym none_due) tt;
    plain = λ y i. absurd (none_in d.sent none_sent y i);
    fresh = λ fs i. absurd (none_in d.due none_due fs i);
    again = λ y i. absurd (none_in d.sent none_sent y i);
    bye = λ y i. absurd (none_in d.sent none_sent y i);
    reclaims = λ v n a c z. absurd (no_reclaimed a (body_is (heard_step m message d) refl (Reclaimed a) _ _ _ z));
  }

  pub answer_turn : IsTurnDue m past (Came message) d.taken d.due false
  answer_turn = record {
    no_lapse = λ q. cc;
    no_evict = λ q. cc;
    ends_first = λ q. absurd (cc);
    no_restart = λ v l. no_restart (body_is (learning m.host (Came message) d.taken) refl Restarted _ _ _ l.2.2);
    no_revoke = λ r z. no_revoke r (body_is (learning m.host (Came message) d.taken) refl (Revoke r) _ _ _ z);
    reclaimed = λ s is v n a c z plain u still. no_reclaimed a (body_is s is (Reclaimed a) _ _ _ z);
    fresh = λ g first i o. none_in d.due none_due g.fid.fileset i;
    once_came = once;
    once_dues = subst EachOnce (sym none_due) tt;
  }
