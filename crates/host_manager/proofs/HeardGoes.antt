-- What is due once a message is heard, whatever becomes of the open call.
use Rattle.base_types.specs.declared.ids.Fid.{Fid}
use Rattle.base_types.specs.declared.ids.Node.TheVariants.{Host}
use Rattle.host_asks.specs.Asking.{Doing, doing}
use Rattle.host_asks.specs.Going.{Goes, GoesOn}
use Rattle.host_gives.specs.Giving.{IsSound as IsSoundGives}
use Rattle.host_labels.specs.Labels.{IsSound as IsSoundUses}
use Rattle.host_leaves.specs.Giving.{LeavesDirty}
use Rattle.host_leaves.specs.Sending.{sending_due}
use Rattle.host_manager.proofs.GoesDue.{goes_due}
use Rattle.host_manager.proofs.HeardDue.{IsHeardDue, IsTurned, heard_cases, heard_due}
use Rattle.host_manager.proofs.HeardOn.{HasHeard, draft_is, goes_runs, step_is, turn}
use Rattle.host_manager.proofs.TurnDue.{IsTurnDue}
use Rattle.host_manager.proofs.Turns.{at_turn, turn_draft}
use Rattle.host_tables.specs.Drafts.{step_of}
use Rattle.host_tables.specs.Stands.{IsAtRest}
use Rattle.host_tables.specs.declared.draft.Draft.{Draft}
use Rattle.host_tables.specs.declared.tables.Tables.{Tables}
use Rattle.message_types.specs.declared.message.Message.{Message}
use Rattle.run_rules.specs.HostDue.{HostDue}
use Rattle.run_rules.specs.Past.{EachOnce}
use Rattle.run_rules.specs.declared.step.Asked.{Asked}
use Rattle.run_rules.specs.declared.step.Cause.TheVariants.{Message as Came}
use Rattle.run_rules.specs.declared.step.Step.{Step}
use Rattle.script_lines.specs.declared.script.Script.{Script}
use Rattle.std.proofs.Common.{List, None, Some, false, inl, inr, refl, subst, sym, ◌≡◌}

module _ (script : Script) (old m : Tables) (past : List Step) (message : Message) (d : Draft)
    (it : HasHeard script old m past message d) (due : IsAtRest m past → IsHeardDue m past message d)
    (by : (c : Asked) → m.call ≡ Some c → m.request ≡ None → IsTurnDue m past (Came message) d.taken d.due false)
    (uses : IsSoundUses m.uses)
    -- no token leaves twice by a Sync
    (once : (fid : Fid) (gone : Doing)
    (leaves : LeavesDirty (at_turn m false) (turn_draft d.taken d.due) fid gone.tables gone.draft)
    → EachOnce leaves.tokens)
    (at : Doing) (left : IsSoundGives at.tables.gives) where
  abbrev pub Due : Doing → Type 0
  Due z = HostDue script old.host past (step_of (Host m.host) (Came message) (sending_due z.tables z.draft))

  stays_due : IsAtRest m past → Due (doing m d)
  stays_due rest = subst (HostDue script old.host past) (sym (step_is script old m past message d it))
      (heard_due script old m past message d it (due rest))

  turned_due : IsTurned m d at → Due at
  turned_due t = goes_due script old m past (Came message) d.taken d.due t.c false
      (turn script old m past message d it t.c t.open_is t.idle) it.gives uses (by t.c t.open_is t.idle) at.tables
      at.draft (sending_due at.tables at.draft) refl
      (goes_runs script old m past message d it t.c t.open_is t.idle uses t.gone t.answered t.goes at t.is left) left
      (λ place sync fid gone leaves. once fid gone leaves)
      t.gone t.answered
      (subst (λ (z : Draft). Goes t.c.k t.c.call false (doing (record m { call = None }) z) t.gone t.answered)
      (draft_is script old m past message d it t.c t.open_is t.idle) t.goes)
      t.is

  pub heard_all_due : GoesOn (doing m d) at → Due at
  heard_all_due goes = elim (heard_cases script old m past message d it at goes) [
    | inl r ↦ subst Due (sym r.1) (stays_due r.0)
    | inr t ↦ turned_due t
  ]
