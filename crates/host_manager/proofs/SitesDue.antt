-- What is due of a Bye, and of a Restarted of a server that wasn't greeted.
use Rattle.base_types.specs.declared.ids.ServerId.{ServerId}
use Rattle.host_gives.specs.Giving.{IsSound as IsSoundGives}
use Rattle.host_manager.proofs.Heard.{byes_same, comes_so, half_by, hears_is, no_use, renewed_changes, renewed_floors}
use Rattle.host_manager.proofs.Heard.{renewed_site, renewed_stands, takes_none, told_of, told_tidy}
use Rattle.host_manager.proofs.HeardDue.{heard_due}
use Rattle.host_manager.proofs.HeardOn.{HasHeard}
use Rattle.host_manager.specs.Running.{IsRunning}
use Rattle.host_manager.specs.Taking.{parted_by}
use Rattle.host_tables.proofs.Declared.{site_number, site_put}
use Rattle.host_tables.proofs.Heeding.{bye_stands}
use Rattle.host_tables.proofs.Lists.{in_filter, true_false}
use Rattle.host_tables.proofs.RestingOn.{rest_with}
use Rattle.host_tables.specs.Drafts.{no_draft}
use Rattle.host_tables.specs.Hearing.{ChangesSite, hears}
use Rattle.host_tables.specs.Stands.{Stands}
use Rattle.host_tables.specs.Tables.{site_at}
use Rattle.host_tables.specs.Updates.{home_at, with_site}
use Rattle.host_tables.specs.declared.files.Floor.{Floor}
use Rattle.host_tables.specs.declared.sites.Site.{Site}
use Rattle.host_tables.specs.declared.tables.Tables.{Tables}
use Rattle.message_types.specs.Soundness.{IsServer, IsSound}
use Rattle.message_types.specs.declared.message.Body.{Body}
use Rattle.message_types.specs.declared.message.Body.TheVariants.{Bye, Done, Grant, Reclaimed, Restarted, Revoke}
use Rattle.message_types.specs.declared.message.Direction.TheVariants.{ToHost}
use Rattle.message_types.specs.declared.message.Message.{Message}
use Rattle.run_rules.specs.HostDue.{HostDue}
use Rattle.run_rules.specs.HostMay.{LearnsRestart}
use Rattle.run_rules.specs.Messages.{ComesIn}
use Rattle.run_rules.specs.Past.{In}
use Rattle.run_rules.specs.declared.step.Step.{Step}
use Rattle.script_lines.specs.declared.script.Script.{Script}
use Rattle.std.proofs.Common.{List, ap, false, inl, inr, not, refl, subst, sym, true, ℕ, ◌<◌, ◌==◌, ◌∙◌, ◌∷◌, ◌≡◌}

-- it is neither an answer nor a Revoke
abbrev IsOfSites : Body → Type 0
IsOfSites (Grant g) = ⊥
IsOfSites (Done d) = ⊥
IsOfSites (Revoke r) = ⊥
IsOfSites (Reclaimed a) = ⊥
IsOfSites _ = Unit {0}

-- # What is known of one server changes, and nothing is said
module _ (script : Script) (m : Tables) (past : List Step) (message : Message) (running : IsRunning script m past)
    (host_is : message.host ≡ m.host) (way : message.direction ≡ ToHost) (gives : IsSoundGives m.gives)
    (body : Body) (b : message.body ≡ body) (site : Site) (floors : List Floor)
    (fewer : (f : Floor) → In f floors → In f m.floors)
    (changes : ChangesSite m.sites (with_site site m.sites) message.server site)
    (said_bye : site.said_bye ≡ (site_at m.sites message.server).said_bye)
    (learnt : Stands script (told_of m (with_site site m.sites) floors) (half_by m.host message ∷ past))
    (not_grant : (c : Body) → body ≡ c → IsOfSites c)
    (no_restart : (v : ServerId) → LearnsRestart past (half_by m.host message) v → ⊥) where
  abbrev new : Tables
  new = told_of m (with_site site m.sites) floors

  comes_is : (c : Body) (v : ServerId) (k n : ℕ) → ComesIn (half_by m.host message) v k n c → body ≡ c
  comes_is c v k n z = comes_so m.host message past body b host_is way v k n c (z.0, z.1, z.2, z.3, z.4, z.5)

  other : (c : Body) (v : ServerId) (k n : ℕ) → (IsOfSites c → ⊥) → ComesIn (half_by m.host message) v k n c → ⊥
  other c v k n none z = none (not_grant c (comes_is c v k n z))

  heard : HasHeard script m new past message no_draft
  heard = record {
    running = running;
    host = refl;
    learnt = learnt;
    tidy = told_tidy script.roster m site floors running.tidy fewer;
    gives = gives;
    draft = refl;
    takes = takes_none past (half_by m.host message) refl (λ w u. no_use m.host message past body b host_is way
        (λ g q. not_grant (Grant g) q) (λ d q. not_grant (Done d) q) w u.0);
    byes = byes_same m.sites (with_site site m.sites) message.server site changes said_bye;
    grants = λ fs g z at. absurd (other (Grant g) _ _ _ (λ k. k) z);
    changes = λ v d z. absurd (elim z [
      | inl k ↦ other (Done d) _ _ _ (λ q. q) k.1
      | inr k ↦ other (Done d) _ _ _ (λ q. q) k
    ]);
    says = λ s y i. elim i [ ];
    due = λ g first fresh. absurd (fresh first);
    ending = running.ending;
    asking = running.asking;
    idle = running.rests.rest.alone;
    silent = λ c e q. refl;
  }

  pub told_due : HostDue script m.host past (half_by m.host message)
  told_due = heard_due script m new past message no_draft heard (record {
    rest = rest_with m (with_site site m.sites) floors past running.rests.rest;
    no_restart = no_restart;
    no_revoke = λ r z. other (Revoke r) _ _ _ (λ k. k) z;
    once_taken = tt;
    once_sent = tt;
    once_due = tt;
    plain = λ y i. elim i [ ];
    fresh = λ fs i. elim i [ ];
    again = λ y i. elim i [ ];
    bye = λ y i. elim i [ ];
    reclaims = λ v n a c z. absurd (other (Reclaimed a) _ _ _ (λ k. k) z);
  })

pub bye_due : (script : Script) (m : Tables) (past : List Step) (message : Message) → IsRunning script m past
    → IsSound script.roster message → message.host ≡ m.host → message.direction ≡ ToHost → IsSoundGives m.gives
    → message.body ≡ Bye → HostDue script m.host past (half_by m.host message)
bye_due script m past message running sound e way gives b =
    let site : Site = record (site_at m.sites message.server) { has_bye = true } in
    let at : site.server ≡ message.server = site_number m.sites message.server in
    let changes : ChangesSite m.sites (with_site site m.sites) message.server site =
    subst (λ (v : ServerId). ChangesSite m.sites (with_site site m.sites) v site) at
    (site_put script.roster m running.tidy site (subst (IsServer script.roster) (sym at) sound.server)) in
    let is : half_by m.host message ≡ hears m.host message.server message.epoch message.moves Bye =
    hears_is m.host message e way ∙ ap (hears m.host message.server message.epoch message.moves) b in
    told_due script m past message running e way gives Bye b site m.floors (λ f i. i) changes refl
    (subst (λ (s : Step). Stands script (parted_by message.server m) (s ∷ past)) (sym is)
    (bye_stands script m past message.server message.epoch message.moves (with_site site m.sites)
    running.rests.stands changes))
    (λ c q. subst IsOfSites q tt)
    (λ v l. let p = comes_so m.host message past Bye b e way _ _ _ Restarted l.2.2 in absurd (cc))

pub renewed_due : (script : Script) (m : Tables) (past : List Step) (message : Message)
    (running : IsRunning script m past) (sound : IsSound script.roster message) (e : message.host ≡ m.host)
    (way : message.direction ≡ ToHost) → IsSoundGives m.gives → (b : message.body ≡ Restarted)
    (up : (site_at m.sites message.server).epoch < message.epoch)
    → (site_at m.sites message.server).greeted ≡ false → HostDue script m.host past (half_by m.host message)
renewed_due script m past message running sound e way gives b up not_greeted =
    told_due script m past message running e way gives Restarted b
    (renewed_site script m past message running sound e way b up)
    (renewed_floors script m past message running sound e way b up)
    (λ f i. (in_filter (λ (floor : Floor). not ((home_at floor.fid.fileset).0 == message.server.0)) m.floors f i).0)
    (renewed_changes script m past message running sound e way b up) refl
    (renewed_stands script m past message running sound e way b up)
    (λ c q. subst IsOfSites q tt)
    (λ v l.
    let z = l.2.2 in
    let p : message ≡ z.0 = cc in
    let at : v ≡ message.server = sym (ap (λ (y : Message). y.server) p ∙ z.2) in
    let greeted = (running.rests.stands.sites v).greeted.1 l.0 in
    true_false (site_at m.sites message.server).greeted
    (subst (λ (w : ServerId). (site_at m.sites w).greeted ≡ true) at greeted) not_greeted)
