-- A Gone comes, whatever is open: what the host has learnt by it.
use Rattle.host_asks.specs.Asking.{Doing, doing}
use Rattle.host_asks.specs.Going.{GoesOn}
use Rattle.host_gives.specs.Giving.{IsSound as IsSoundGives}
use Rattle.host_labels.specs.Labels.{IsSound as IsSoundUses}
use Rattle.host_leaves.specs.Sending.{sending_due}
use Rattle.base_types.specs.declared.ids.HostId.{HostId}
use Rattle.base_types.specs.declared.ids.Node.TheVariants.{Host}
use Rattle.host_manager.proofs.Forgotten.{HasForgotten, none_forgotten, one_forgotten}
use Rattle.host_manager.proofs.Heard.{comes_so, half_by, hears_is, no_use, stays_here, takes_none}
use Rattle.host_manager.proofs.HeardOn.{HasHeard, heard_on}
use Rattle.host_manager.specs.Learning.{learning_given}
use Rattle.host_tables.proofs.Heeding.{gone_stands}
use Rattle.host_tables.specs.Drafts.{no_draft, step_of}
use Rattle.host_tables.specs.Hearing.{hears}
use Rattle.host_manager.specs.Running.{IsRunning, RunsOn}
use Rattle.host_tables.specs.Stands.{Stands}
use Rattle.host_tables.specs.Tables.{site_at}
use Rattle.host_tables.specs.Tidy.{IsTidy}
use Rattle.host_tables.specs.declared.draft.Draft.{Draft}
use Rattle.host_tables.specs.declared.sites.Site.{Site}
use Rattle.host_tables.specs.declared.tables.Tables.{Tables}
use Rattle.message_types.specs.Soundness.{IsBody, IsSound}
use Rattle.message_types.specs.declared.giving.AppliedGive.{AppliedGive}
use Rattle.message_types.specs.declared.message.Body.TheVariants.{Done, Gone, Grant}
use Rattle.message_types.specs.declared.message.Direction.TheVariants.{ToHost}
use Rattle.message_types.specs.declared.message.Message.{Message}
use Rattle.run_rules.specs.Messages.{stay_of}
use Rattle.run_rules.specs.declared.step.Cause.TheVariants.{Message as Came}
use Rattle.run_rules.specs.declared.step.Step.{Step}
use Rattle.script_lines.specs.declared.script.Script.{Script}
use Rattle.std.proofs.Common.{List, [], ap, inl, inr, refl, subst, sym, ◌∙◌, ◌∷◌, ◌≡◌}
use Rattle.host_manager.proofs.Closed as closed_of

module _ (script : Script) (m : Tables) (past : List Step) (message : Message) (running : IsRunning script m past)
    (sound : IsSound script.roster message) (host_is : message.host ≡ m.host) (way : message.direction ≡ ToHost)
    (n : AppliedGive) (b : message.body ≡ Gone n) (present : (site_at m.sites message.server).epoch ≡ message.epoch)
    (none_moved : message.moves ≡ 0) (gives : IsSoundGives m.gives) where
  stands : Stands script m past
  stands = running.rests.stands

  abbrev learnt : Doing
  learnt = learning_given n (doing m no_draft)

  abbrev x : Tables
  x = learnt.tables

  abbrev e : Draft
  e = learnt.draft

  pub it : HasForgotten m no_draft (n ∷ []) x e
  it = one_forgotten script m past stands no_draft [] n m no_draft (none_forgotten m no_draft gives)

  is : half_by m.host message ≡ hears m.host message.server message.epoch message.moves (Gone n)
  is = hears_is m.host message host_is way ∙ ap (hears m.host message.server message.epoch message.moves) b

  stay_is : stay_of past n.fileset ≡ record { server = message.server; moves = message.moves }
  stay_is = stays_here past message n.fileset (subst (IsBody script.roster message) b sound.body) none_moved

  learnt_stands : Stands script x (half_by m.host message ∷ past)
  learnt_stands = subst (λ (z : Tables). Stands script z (half_by m.host message ∷ past)) (sym it.tables)
      (subst (λ (s : Step). Stands script (record m {
        lengths = x.lengths;
        gives = x.gives;
        leaving = x.leaving;
        ending = x.ending;
        call = x.call;
      }) (s ∷ past)) (sym is)
      (gone_stands script m past message.server message.epoch message.moves n x.lengths x.gives x.leaving x.ending
      x.call stands stay_is present it.forgets it.closes))

  same_sites : x ≡ record x { sites = x.sites; floors = x.floors }
  same_sites = refl

  sites_are : x.sites ≡ m.sites
  sites_are = ap (λ (z : Tables). z.sites) it.tables

  host_same : m.host ≡ x.host
  host_same = sym (ap (λ (z : Tables). z.host) it.tables)

  half_is : half_by m.host message ≡ half_by x.host message
  half_is = ap (λ (h : HostId). half_by h message) host_same

  pub has_heard : HasHeard script m x past message (record no_draft { due = e.due })
  has_heard = record {
    running = running;
    host = host_same;
    learnt = subst (λ (z : Step). Stands script x (z ∷ past)) half_is learnt_stands;
    tidy = closed_of.tidy_now script m past running no_draft (n ∷ []) x e it x same_sites running.tidy
        (subst (λ (z : Tables). IsTidy script.roster (record m { sites = z.sites; floors = z.floors })) (sym it.tables)
        running.tidy);
    gives = it.sound;
    draft = refl;
    takes = takes_none past (half_by x.host message) refl (λ w u. no_use x.host message past (Gone n) b
        (host_is ∙ host_same) way (λ g q. absurd (cc)) (λ d q. absurd (cc)) w u.0);
    byes = λ v. ap (λ (sites : List Site). (site_at sites v).said_bye) sites_are;
    grants = λ fs g a. absurd (let p = comes_so x.host message past (Gone n) b (host_is ∙ host_same) way _ _ _ (Grant g)
        a in cc);
    changes = λ v d a. absurd (elim a [
      | inl z ↦ (let p = comes_so x.host message past (Gone n) b (host_is ∙ host_same) way _ _ _ (Done d) z.1 in cc)
      | inr z ↦ (let p = comes_so x.host message past (Gone n) b (host_is ∙ host_same) way _ _ _ (Done d) z in cc)
    ]);
    says = λ z y i. elim i [ ];
    due = it.due;
    ending = closed_of.ending_now script m past running no_draft (n ∷ []) x e it x same_sites;
    asking = closed_of.asking_now script m past running no_draft (n ∷ []) x e it x same_sites;
    idle = closed_of.idle_now script m past running no_draft (n ∷ []) x e it x same_sites;
    silent = λ c q r. refl;
  }

  pub gone_goes : IsSoundUses m.uses → (at : Doing) → GoesOn learnt at → IsSoundGives at.tables.gives
      → RunsOn script m at.tables past (step_of (Host m.host) (Came message) (sending_due at.tables at.draft))
  gone_goes uses at goes left =
      subst (λ (h : HostId). RunsOn script m at.tables past
      (step_of (Host h) (Came message) (sending_due at.tables at.draft))) (sym host_same)
      (heard_on script m x past message (record no_draft { due = e.due }) has_heard
      (subst IsSoundUses (sym (ap (λ (z : Tables). z.uses) it.tables)) uses) at
      (subst (λ (z : Draft). GoesOn (doing x z) at) it.draft goes) left)
