-- What is due of a step by a message that teaches nothing: it is ignored, told to others, or answers no request.
use Rattle.base_types.specs.declared.ids.ServerId.{ServerId}
use Rattle.host_manager.proofs.Heard.{comes_so, half_by, hears_is}
use Rattle.host_manager.specs.Running.{IsRunning}
use Rattle.host_tables.specs.Answering.{GivesForCall}
use Rattle.host_tables.specs.Heeding.{IsForOthers, IsIgnored}
use Rattle.host_tables.specs.Learning.{TeachesNothing}
use Rattle.host_tables.specs.Stands.{Stands}
use Rattle.host_tables.specs.Tables.{held_of}
use Rattle.host_tables.specs.declared.tables.Tables.{Tables}
use Rattle.message_types.specs.declared.giving.Reclaimed.{Reclaimed as ReclaimedOf}
use Rattle.message_types.specs.declared.message.Body.TheVariants.{Reclaimed, Restarted, Revoke}
use Rattle.message_types.specs.declared.message.Direction.TheVariants.{ToHost}
use Rattle.message_types.specs.declared.message.Message.{Message}
use Rattle.message_types.specs.declared.tokens.Revoke.{Revoke as RevokeOf}
use Rattle.run_rules.specs.HostDue.{HostDue}
use Rattle.run_rules.specs.HostMay.{LearnsRestart}
use Rattle.run_rules.specs.Messages.{About, Comes}
use Rattle.run_rules.specs.Past.{In}
use Rattle.run_rules.specs.Tokens.{HasCall, Held as HeldBy, end_of}
use Rattle.run_rules.specs.declared.step.Step.{Step}
use Rattle.script_lines.specs.declared.script.Script.{Script}
use Rattle.std.proofs.Common.{List, Some, arith, inl, inr, refl, subst, sym, ℕ, ◌∷◌, ◌≡◌}
use Rattle.token_types.specs.declared.token.Token.{Token}
use Rattle.tree_calls.specs.declared.call.Call.{Call}
use Rattle.tree_calls.specs.declared.call.Call.TheVariants.{Sync}
use Rattle.host_tables.proofs.Heeding as heeding
use Rattle.host_tables.proofs.Standing as standing
use Rattle.host_tables.proofs.Unanswered as unanswered

module _ (script : Script) (m : Tables) (past : List Step) (message : Message) (running : IsRunning script m past)
    (learnt : Stands script m (half_by m.host message ∷ past))
    (no_restart : (v : ServerId) → LearnsRestart past (half_by m.host message) v → ⊥)
    (no_revoke : (r : RevokeOf) → About past (half_by m.host message) r.fid.fileset (Revoke r) → ⊥)
    (no_reclaimed : (v : ServerId) (a : ReclaimedOf) → Comes past (half_by m.host message) v (Reclaimed a) → ⊥) where
  abbrev s : Step
  s = half_by m.host message

  stands : Stands script m past
  stands = running.rests.stands

  open_call : (k : ℕ) (call : Call) → HasCall past s k call → m.call ≡ Some (record { k = k; call = call })
  open_call k call (inl (inl e)) = absurd (let p = e in cc)
  open_call k call (inl (inr b)) = elim b.1 [ ]
  open_call k call (inr g) = stands.call.asked (record { k = k; call = call }) g.0

  -- the open call has nothing to give back
  none_for_call : GivesForCall m past s
  none_for_call = record {
    syncs = λ k place fid t turn finds i at d. absurd (running.rests.rest.synced (record { k = k; call = Sync place })
        place fid t (open_call k (Sync place) turn) refl finds i at d);
    frees = λ k u turn f. absurd (running.rests.rest.freed (record { k = k; call = end_of u }) u
        (open_call k (end_of u) turn) refl f);
  }

  keeps : (t : Token) → In t (held_of m) → HeldBy (s ∷ past) t
  keeps t i = (inr (stands.cache.held t i), λ d. elim d.1 [ ])

  cached : (t : Token) → HeldBy (s ∷ past) t → In t (held_of m)
  cached t h = elim h.0 [ inl n ↦ elim n [ ] | inr i ↦ stands.cache.cached t i ]

  pub quiet_due : HostDue script m.host past s
  quiet_due = record {
    stance = standing.stance script m past s learnt (held_of m) keeps cached;
    calls = record {
      syncs = unanswered.syncs script m past s learnt (held_of m) keeps cached none_for_call;
      frees = none_for_call.frees;
      greets = λ v e n x. elim x.1 [ ];
    };
    revokes = λ r i a j. absurd (no_revoke r a);
    repeats = record {
      lapse_all = λ v n b c u. absurd (let p = c in cc);
      lapse_claims = λ v c w. absurd (let p = c in cc);
      lapse_only = λ v e n b c x. absurd (let p = c in cc);
      lapse_quiet = λ c. absurd (let p = c in cc);
      restarted_gives = λ v n g l. absurd (no_restart v l);
      restarted_claims = λ v l. absurd (no_restart v l);
      reclaimed_all = λ v n answer b c. absurd (no_reclaimed v answer c);
      again_only = λ v e n b x u. elim x.1 [ ];
      bye_again = λ v x said had. elim x.2.1 [ ];
      gives_only = λ v e n g x. elim x.1 [ ];
    };
    leaves = record {
      held = λ l i. elim i [ ];
      evicts = λ e. absurd (let p = e in cc);
      ends = λ e. absurd (let p = e in cc);
      ends_all = λ l e. absurd (let p = e in cc);
    };
    once = tt;
    once_taken = tt;
    once_dropped = tt;
    once_made = tt;
  }

-- by what it teaches
teaches_due : (script : Script) (m : Tables) (past : List Step) (message : Message) → IsRunning script m past
    → Stands script m (half_by m.host message ∷ past) → TeachesNothing past (half_by m.host message)
    → HostDue script m.host past (half_by m.host message)
teaches_due script m past message running learnt teaches = quiet_due script m past message running learnt
    (λ v l. let e = teaches.epochs v in let r = l.1 in omega (arith, e, r))
    (λ r a. teaches.none_revoked r.fid.fileset r a)
    teaches.none_reclaimed

pub ignored_due : (script : Script) (m : Tables) (past : List Step) (message : Message) → IsRunning script m past
    → message.host ≡ m.host → message.direction ≡ ToHost
    → IsIgnored m message.server message.epoch message.moves message.body
    → HostDue script m.host past (half_by m.host message)
ignored_due script m past message running e d ignored =
    let is = hears_is m.host message e d in
    let stands : Stands script m past = running.rests.stands in
    teaches_due script m past message running
    (subst (λ (s : Step). Stands script m (s ∷ past)) (sym is)
    (heeding.ignored_stands script m past message.server message.epoch message.moves message.body stands ignored))
    (subst (TeachesNothing past) (sym is) (heeding.ignored_teaches script m past message.server message.epoch
    message.moves message.body stands ignored))

pub others_due : (script : Script) (m : Tables) (past : List Step) (message : Message) → IsRunning script m past
    → message.host ≡ m.host → message.direction ≡ ToHost → IsForOthers message.body
    → HostDue script m.host past (half_by m.host message)
others_due script m past message running e d for_others =
    let is = hears_is m.host message e d in
    let stands : Stands script m past = running.rests.stands in
    teaches_due script m past message running
    (subst (λ (s : Step). Stands script m (s ∷ past)) (sym is)
    (heeding.others_stands script m past message.server message.epoch message.moves message.body stands for_others))
    (subst (TeachesNothing past) (sym is) (heeding.others_teach m past message.server message.epoch message.moves
    message.body for_others))

-- a Grant or a Done that answers no request
pub late_due : (script : Script) (m : Tables) (past : List Step) (message : Message) → IsRunning script m past
    → message.host ≡ m.host → message.direction ≡ ToHost → Stands script m (half_by m.host message ∷ past)
    → (message.body ≡ Restarted → ⊥) → ((r : RevokeOf) → message.body ≡ Revoke r → ⊥)
    → ((a : ReclaimedOf) → message.body ≡ Reclaimed a → ⊥) → HostDue script m.host past (half_by m.host message)
late_due script m past message running e d learnt no_restart no_revoke no_reclaimed = quiet_due script m past message
    running learnt
    (λ v l. no_restart (comes_so m.host message past message.body refl e d _ _ _ Restarted l.2.2))
    (λ r a. no_revoke r (comes_so m.host message past message.body refl e d _ _ _ (Revoke r) a))
    (λ v a c. no_reclaimed a (comes_so m.host message past message.body refl e d _ _ _ (Reclaimed a) c))
