-- What is due of a Gone after which nothing is made of the open call: none is open, or a request is outstanding.
use Rattle.base_types.specs.declared.ids.ServerId.{ServerId}
use Rattle.host_asks.specs.Asking.{doing}
use Rattle.host_gives.specs.Giving.{IsSound as IsSoundGives}
use Rattle.host_manager.proofs.Forgotten.{none_forgotten}
use Rattle.host_manager.proofs.ForgottenDue.{AreDue, none_due, one_due}
use Rattle.host_manager.proofs.GoneOn.{has_heard}
use Rattle.host_manager.proofs.Heard.{comes_so}
use Rattle.host_manager.proofs.HeardDue.{IsHeardDue, heard_due, heard_step}
use Rattle.host_manager.proofs.TurnDue.{IsTurnDue}
use Rattle.host_manager.specs.Learning.{learning_given}
use Rattle.host_manager.specs.Running.{IsRunning}
use Rattle.host_tables.specs.Drafts.{no_draft}
use Rattle.host_tables.specs.Stands.{IsAtRest, Stands}
use Rattle.host_tables.specs.Tables.{site_at}
use Rattle.host_tables.specs.declared.draft.Draft.{Draft}
use Rattle.host_tables.specs.declared.tables.Tables.{Tables}
use Rattle.message_types.specs.Soundness.{IsSound}
use Rattle.message_types.specs.declared.giving.AppliedGive.{AppliedGive}
use Rattle.message_types.specs.declared.message.Body.{Body}
use Rattle.message_types.specs.declared.message.Body.TheVariants.{Gone, Reclaimed, Restarted, Revoke}
use Rattle.message_types.specs.declared.message.Direction.TheVariants.{ToHost}
use Rattle.message_types.specs.declared.message.Message.{Message}
use Rattle.run_rules.specs.HostDue.{HostDue}
use Rattle.run_rules.specs.Messages.{ComesIn}
use Rattle.run_rules.specs.declared.step.Cause.TheVariants.{Message as Came}
use Rattle.run_rules.specs.declared.step.Step.{Step}
use Rattle.script_lines.specs.declared.script.Script.{Script}
use Rattle.std.proofs.Common.{List, [], ap, false, refl, sym, ℕ, ◌∙◌, ◌≡◌}
use Rattle.host_tables.proofs.Saying as saying_of

module _ (script : Script) (m : Tables) (past : List Step) (message : Message) (running : IsRunning script m past)
    (sound : IsSound script.roster message) (host_is : message.host ≡ m.host) (way : message.direction ≡ ToHost)
    (n : AppliedGive) (b : message.body ≡ Gone n) (present : (site_at m.sites message.server).epoch ≡ message.epoch)
    (none_moved : message.moves ≡ 0) (gives : IsSoundGives m.gives) where
  stands : Stands script m past
  stands = running.rests.stands

  abbrev x : Tables
  x = (learning_given n (doing m no_draft)).tables

  abbrev e : Draft
  e = (learning_given n (doing m no_draft)).draft

  abbrev d : Draft
  d = record no_draft { due = e.due }

  dues : AreDue m x e
  dues = one_due script m past stands no_draft [] n m no_draft (none_forgotten m no_draft gives)
      (none_due m no_draft refl)

  not_other : (c : Body) → (Gone n ≡ c → ⊥) → (v : ServerId) (k l : ℕ) → ComesIn (heard_step x message d) v k l c → ⊥
  not_other c other v k l z =
      other (comes_so m.host message past (Gone n) b host_is way v k l c (z.0, z.1, z.2, z.3, z.4, z.5))

  pub gone_is_due : IsAtRest x past → IsHeardDue x past message d
  gone_is_due rest = record {
    rest = rest;
    no_restart = λ v l. not_other Restarted (λ q. absurd (cc)) _ _ _ l.2.2;
    no_revoke = λ r a. not_other (Revoke r) (λ q. absurd (cc)) _ _ _ a;
    once_taken = tt;
    once_sent = tt;
    once_due = dues.once;
    plain = λ y i. elim i [ ];
    fresh = λ fs i g first same o. dues.fresh fs i g first same (saying_of.out_first m.gives past stands.gives g o);
    again = λ y i. elim i [ ];
    bye = λ y i. elim i [ ];
    reclaims = λ v k a c comes. absurd (not_other (Reclaimed a) (λ q. absurd (cc)) _ _ _ comes);
  }

  pub gone_turn : IsTurnDue x past (Came message) [] e.due false
  gone_turn = record {
    no_lapse = λ q. cc;
    no_evict = λ q. cc;
    ends_first = λ q. absurd (cc);
    no_restart = λ v l. not_other Restarted (λ q. absurd (cc)) _ _ _ l.2.2;
    no_revoke = λ r a. not_other (Revoke r) (λ q. absurd (cc)) _ _ _ a;
    reclaimed = λ s is v k a c comes plain was still.
        let p : Came message ≡ Came comes.0 = sym is ∙ comes.1 in
        let q : message ≡ comes.0 = cc in
        let r : Gone n ≡ Reclaimed a = sym b ∙ (ap (λ (y : Message). y.body) q ∙ comes.5) in absurd (cc);
    fresh = λ g first i o. dues.fresh g.fid.fileset i g first refl
        (saying_of.out_first m.gives past stands.gives g o);
    once_came = tt;
    once_dues = dues.once;
  }

  pub gone_due : IsAtRest x past → HostDue script m.host past (heard_step x message d)
  gone_due rest = heard_due script m x past message d
      (has_heard script m past message running sound host_is way n b present none_moved gives) (gone_is_due rest)
