-- Messages of which no token is taken, after which nothing is made of the open call: what is ignored, what no host is
-- told, late answers, a Bye; a Restarted.
use Rattle.base_types.specs.declared.ids.FilesetId.{FilesetId}
use Rattle.base_types.specs.declared.ids.HostId.{HostId}
use Rattle.base_types.specs.declared.ids.ServerId.{ServerId}
use Rattle.host_manager.proofs.Running.{gone_on, runs_on}
use Rattle.host_manager.specs.Learning.{renewed}
use Rattle.host_manager.specs.Taking.{parted_by}
use Rattle.host_tables.proofs.Declared.{floors_renew, home_is, same_servers, site_number, site_put}
use Rattle.host_tables.proofs.HeardDone.{unasked_done_stands}
use Rattle.host_tables.proofs.Heeding.{bye_stands, ignored_stands, others_stands, restarted_stands}
use Rattle.host_tables.proofs.Heeding.{unasked_grant_stands}
use Rattle.host_tables.proofs.Lists.{in_filter, none_in}
use Rattle.host_tables.proofs.RestingOn.{rest_with}
use Rattle.host_tables.proofs.Tidy.{home_number, tidy_stays}
use Rattle.host_tables.proofs.WholeSteps.{heard_right, rest_on}
use Rattle.host_tables.specs.Half.{learning}
use Rattle.host_tables.specs.Hearing.{ChangesSite, hears, saying as saying_of}
use Rattle.host_tables.specs.Heeding.{AnswersNoChange, AnswersNoFetch, IsForOthers, IsIgnored, IsOfServer}
use Rattle.host_tables.specs.Learning.{TeachesNothing}
use Rattle.host_tables.specs.Quiet.{IsQuiet}
use Rattle.host_manager.specs.Running.{IsRunning, RunsOn}
use Rattle.host_tables.specs.Stands.{Stands}
use Rattle.host_tables.specs.Tables.{site_at}
use Rattle.host_tables.specs.Tidy.{IsTidy}
use Rattle.host_tables.specs.Updates.{home_at, with_site}
use Rattle.host_tables.specs.WholeSteps.{TakesRight}
use Rattle.host_tables.specs.declared.files.Floor.{Floor}
use Rattle.host_tables.specs.declared.sites.Site.{Site}
use Rattle.host_tables.specs.declared.tables.Tables.{Tables}
use Rattle.message_types.specs.Soundness.{IsBody, IsDone, IsHome, IsServer, IsSound}
use Rattle.message_types.specs.declared.giving.AppliedGive.{AppliedGive}
use Rattle.message_types.specs.declared.giving.Reclaimed.{Reclaimed as ReclaimedOf}
use Rattle.message_types.specs.declared.message.Body.{Body}
use Rattle.message_types.specs.declared.message.Body.TheVariants.{Bye, Done, Gone, Grant, Reclaimed, Restarted}
use Rattle.message_types.specs.declared.message.Direction.TheVariants.{ToHost}
use Rattle.message_types.specs.declared.message.Message.{Message}
use Rattle.message_types.specs.declared.telling.Bring.{Bring}
use Rattle.message_types.specs.declared.telling.Done.{Done as DoneOf}
use Rattle.message_types.specs.declared.telling.Grant.{Grant as GrantOf}
use Rattle.run_rules.specs.Messages.{ComesIn, IsWelcome, home, stay_of}
use Rattle.run_rules.specs.Past.{In}
use Rattle.run_rules.specs.Tokens.{AnswersRequest, Learns, Uses}
use Rattle.run_rules.specs.declared.step.Cause.TheVariants.{Message as Came}
use Rattle.run_rules.specs.declared.step.Step.{Step}
use Rattle.script_lines.specs.declared.script.Script.{Script}
use Rattle.std.proofs.Common.{List, [], ap, false, filter, inl, inr, not, refl, subst, sym, true, ℕ}
use Rattle.std.proofs.Common.{◌<◌, ◌==◌, ◌∙◌, ◌∷◌, ◌≡◌}
use Rattle.tree_calls.specs.declared.roster.Roster.{Roster}
use Rattle.host_tables.proofs.Heeding as heeding
use Rattle.host_tables.proofs.HeardDone as done_of
use Rattle.host_tables.proofs.HearingParts as parts

-- a message to the host, by its parts
pub message_is : (host : HostId) (message : Message) → message.host ≡ host → message.direction ≡ ToHost
    → message ≡ saying_of host message.server message.epoch message.moves message.body
message_is host message e d = λ i. record message { host = e i; direction = d i }

-- the fileset of a sound message is its server's, where it hasn't moved
pub stays_here : (past : List Step) (message : Message) (fs : FilesetId) → IsHome message fs → message.moves ≡ 0
    → stay_of past fs ≡ record { server = message.server; moves = message.moves }
stays_here past message fs at none =
    let p = sym (home_number fs) ∙ at none in
    let q : home fs ≡ message.server = λ i. record { 0 = p i } in
    λ i. record { server = q i; moves = (sym none) i }

-- the half of the step by it
abbrev pub half_by : HostId → Message → Step
half_by host message = learning host (Came message) []

pub hears_is : (host : HostId) (message : Message) → message.host ≡ host → message.direction ≡ ToHost
    → half_by host message ≡ hears host message.server message.epoch message.moves message.body
hears_is host message e d = ap (half_by host) (message_is host message e d)

-- nothing is taken
pub takes_none : (past : List Step) (s : Step) → s.taken ≡ [] → ((w : Bring) → Uses past s w → ⊥)
    → TakesRight past s
takes_none past s none unused = record {
  takes = λ t i. absurd (none_in s.taken none t i);
  takes_all = record {
    all = λ w t u. absurd (unused w u);
    once = λ t u i. absurd (none_in s.taken none t i);
  };
}

-- nothing is sent
pub quiet_by : (host : HostId) (message : Message) → IsQuiet (half_by host message)
quiet_by host message = record {
  answers = refl;
  wrote = refl;
  begun = refl;
  made = refl;
  dropped = refl;
  keeps = λ i k. elim k.4.1 [ ];
  no_stop = λ k. elim k.3.1 [ ];
}

-- # Nothing changes
module _ (script : Script) (m : Tables) (past : List Step) (message : Message) (running : IsRunning script m past)
    (learnt : Stands script m (half_by m.host message ∷ past))
    (none_used : (w : Bring) → AnswersRequest past (half_by m.host message) w → ⊥)
    (none_learnt : (n : AppliedGive) → Learns past (half_by m.host message) n → ⊥)
    (welcomes : (v : ServerId) → IsWelcome (half_by m.host message ∷ past) v → IsWelcome past v) where
  pub stays_silent : RunsOn script m m past (half_by m.host message)
  stays_silent =
      let s : Step = half_by m.host message in
      let stands : Stands script m past = running.rests.stands in
      runs_on script m m past s
      (heard_right script m m past message [] [] stands refl learnt
      (takes_none past s refl (λ w u. none_used w u.0)) (λ y i. elim i [ ]) (λ y i. elim i [ ])
      (λ g first fresh. absurd (fresh first))
      (rest_on script m past s stands running.rests.rest (quiet_by m.host message) refl none_learnt welcomes))
      refl running.tidy running.ending running.asking (gone_on script m past s running refl) (λ y i. elim i [ ])

-- where the cause teaches nothing
pub taught_nothing : (script : Script) (m : Tables) (past : List Step) (message : Message) → IsRunning script m past
    → Stands script m (half_by m.host message ∷ past) → TeachesNothing past (half_by m.host message)
    → RunsOn script m m past (half_by m.host message)
taught_nothing script m past message running learnt teaches =
    stays_silent script m past message running learnt teaches.none_used teaches.none_learnt teaches.welcomes

pub ignored_runs : (script : Script) (m : Tables) (past : List Step) (message : Message) → IsRunning script m past
    → message.host ≡ m.host → message.direction ≡ ToHost
    → IsIgnored m message.server message.epoch message.moves message.body
    → RunsOn script m m past (half_by m.host message)
ignored_runs script m past message running e d ignored =
    let is = hears_is m.host message e d in
    let stands : Stands script m past = running.rests.stands in
    taught_nothing script m past message running
    (subst (λ (s : Step). Stands script m (s ∷ past)) (sym is)
    (ignored_stands script m past message.server message.epoch message.moves message.body stands ignored))
    (subst (TeachesNothing past) (sym is) (heeding.ignored_teaches script m past message.server message.epoch
    message.moves message.body stands ignored))

pub others_run : (script : Script) (m : Tables) (past : List Step) (message : Message) → IsRunning script m past
    → message.host ≡ m.host → message.direction ≡ ToHost → IsForOthers message.body
    → RunsOn script m m past (half_by m.host message)
others_run script m past message running e d for_others =
    let is = hears_is m.host message e d in
    let stands : Stands script m past = running.rests.stands in
    taught_nothing script m past message running
    (subst (λ (s : Step). Stands script m (s ∷ past)) (sym is)
    (others_stands script m past message.server message.epoch message.moves message.body stands for_others))
    (subst (TeachesNothing past) (sym is) (heeding.others_teach m past message.server message.epoch message.moves
    message.body for_others))

-- # Late answers

-- a Grant that answers no request
pub late_grant_runs : (script : Script) (m : Tables) (past : List Step) (message : Message) (g : GrantOf)
    → IsRunning script m past → message.host ≡ m.host → message.direction ≡ ToHost → message.body ≡ Grant g
    → AnswersNoFetch m g → RunsOn script m m past (half_by m.host message)
late_grant_runs script m past message g running e d is_grant unasked =
    let is : half_by m.host message ≡ hears m.host message.server message.epoch message.moves (Grant g) =
    hears_is m.host message e d ∙ ap (hears m.host message.server message.epoch message.moves) is_grant in
    let stands : Stands script m past = running.rests.stands in
    stays_silent script m past message running
    (subst (λ (s : Step). Stands script m (s ∷ past)) (sym is)
    (unasked_grant_stands script m past message.server message.epoch message.moves g stands unasked))
    (subst (λ (s : Step). (w : Bring) → AnswersRequest past s w → ⊥) (sym is)
    (heeding.none_used_g script m past message.server message.epoch message.moves g stands unasked))
    (subst (λ (s : Step). (n : AppliedGive) → Learns past s n → ⊥) (sym is)
    (heeding.none_learnt_g script m past message.server message.epoch message.moves g stands))
    (subst (λ (s : Step). (v : ServerId) → IsWelcome (s ∷ past) v → IsWelcome past v) (sym is) (λ v w. elim w [
      | inl x ↦ absurd (
          let p = (parts.comes_of m.host message.server message.epoch message.moves (Grant g) past v _ 0
          (Reclaimed x.1.0) x.1.1).3 in cc
          )
      | inr x ↦ x
    ]))

-- the fileset of a sound Done is its server's
pub done_of_server : (roster : Roster) (message : Message) (d : DoneOf) → IsSound roster message
    → message.body ≡ Done d → message.moves ≡ 0 → IsOfServer message.server d
done_of_server roster message d sound is no_moves =
    let body : IsDone roster message d = subst (IsBody roster message) is sound.body in
    record {
      declared = sound.server.first;
      numbered = elim body.fileset [
        | inl z ↦ inl z
        | inr h ↦ inr (let p = sym (home_number d.fileset) ∙ h no_moves in λ i. record { 0 = p i })
      ];
    }

pub late_done_runs : (script : Script) (m : Tables) (past : List Step) (message : Message) (d : DoneOf)
    → IsRunning script m past → IsSound script.roster message → message.host ≡ m.host → message.direction ≡ ToHost
    → message.body ≡ Done d → message.moves ≡ 0 → AnswersNoChange m message.server d
    → RunsOn script m m past (half_by m.host message)
late_done_runs script m past message d running sound e way is_done no_moves unasked =
    let is : half_by m.host message ≡ hears m.host message.server message.epoch message.moves (Done d) =
    hears_is m.host message e way ∙ ap (hears m.host message.server message.epoch message.moves) is_done in
    let stands : Stands script m past = running.rests.stands in
    let of = done_of_server script.roster message d sound is_done no_moves in
    stays_silent script m past message running
    (subst (λ (s : Step). Stands script m (s ∷ past)) (sym is)
    (unasked_done_stands script m past message.server message.epoch message.moves d stands of unasked))
    (subst (λ (s : Step). (w : Bring) → AnswersRequest past s w → ⊥) (sym is)
    (done_of.none_used script m past message.server message.epoch message.moves d stands of unasked))
    (subst (λ (s : Step). (n : AppliedGive) → Learns past s n → ⊥) (sym is)
    (done_of.none_learnt script m past message.server message.epoch message.moves d stands))
    (subst (λ (s : Step). (v : ServerId) → IsWelcome (s ∷ past) v → IsWelcome past v) (sym is) (λ v w. elim w [
      | inl x ↦ absurd (
          let p = (parts.comes_of m.host message.server message.epoch message.moves (Done d) past v _ 0
          (Reclaimed x.1.0) x.1.1).3 in cc
          )
      | inr x ↦ x
    ]))

-- # A Bye, and a Restarted

-- what is heard of a server
abbrev pub told_of : Tables → List Site → List Floor → Tables
told_of m sites floors = record m { sites = sites; floors = floors }

-- a change of one site keeps the tables tidy, and so does one of floors to fewer
pub told_tidy : (roster : Roster) (m : Tables) (site : Site) (floors : List Floor) → IsTidy roster m
    → ((f : Floor) → In f floors → In f m.floors) → IsTidy roster (told_of m (with_site site m.sites) floors)
told_tidy roster m site floors tidy fewer = tidy_stays roster m (told_of m (with_site site m.sites) floors) tidy
    (record {
      host_is = refl;
      servers = same_servers site m.sites;
      held = λ t i. inl i;
      sizes = λ fid. inl refl;
      leaving = λ y i. inl i;
      gives = λ y g i e. inl i;
      fetch = λ f e. inl e;
      change = λ v c e. inl e;
      call = λ c e. inl e;
      homes = λ h i. inl i;
      floors = λ f i. inl (fewer f i);
    })

-- of no server more a Bye was said
pub byes_same : (sites new : List Site) (v : ServerId) (site : Site) → ChangesSite sites new v site
    → site.said_bye ≡ (site_at sites v).said_bye → (w : ServerId)
    → (site_at new w).said_bye ≡ (site_at sites w).said_bye
byes_same sites new v site changes same w = elim (parts.server_cases w v) [
  | inl e ↦ subst (λ (x : ServerId). (site_at new x).said_bye ≡ (site_at sites x).said_bye) (sym e)
      (ap (λ (z : Site). z.said_bye) changes.here ∙ same)
  | inr n ↦ ap (λ (z : Site). z.said_bye) (changes.others w n)
]

module _ (script : Script) (m : Tables) (past : List Step) (message : Message) (running : IsRunning script m past)
    (site : Site) (floors : List Floor) (fewer : (f : Floor) → In f floors → In f m.floors)
    (changes : ChangesSite m.sites (with_site site m.sites) message.server site)
    (said_bye : site.said_bye ≡ (site_at m.sites message.server).said_bye)
    (learnt : Stands script (told_of m (with_site site m.sites) floors) (half_by m.host message ∷ past))
    (none_used : (w : Bring) → AnswersRequest past (half_by m.host message) w → ⊥)
    (none_learnt : (n : AppliedGive) → Learns past (half_by m.host message) n → ⊥)
    (welcomes : (v : ServerId) → IsWelcome (half_by m.host message ∷ past) v → IsWelcome past v) where
  -- what is learnt of a server, with nothing said
  pub told_silent : RunsOn script m (told_of m (with_site site m.sites) floors) past (half_by m.host message)
  told_silent =
      let s : Step = half_by m.host message in
      let new : Tables = told_of m (with_site site m.sites) floors in
      let stands : Stands script m past = running.rests.stands in
      runs_on script m new past s
      (heard_right script m new past message [] [] stands refl learnt
      (takes_none past s refl (λ w u. none_used w u.0)) (λ y i. elim i [ ]) (λ y i. elim i [ ])
      (λ g first fresh. absurd (fresh first))
      (rest_with m (with_site site m.sites) floors (s ∷ past)
      (rest_on script m past s stands running.rests.rest (quiet_by m.host message) refl none_learnt welcomes)))
      refl (told_tidy script.roster m site floors running.tidy fewer) running.ending running.asking
      (λ v e. gone_on script m past s running refl v
      (sym (byes_same m.sites (with_site site m.sites) message.server site changes said_bye v) ∙ e))
      (λ y i. elim i [ ])

module _ (host : HostId) (message : Message) (past : List Step) (body : Body) (b : message.body ≡ body)
    (host_is : message.host ≡ host) (way : message.direction ≡ ToHost) where
  -- what comes in the step is this body
  pub comes_so : (v : ServerId) (e n : ℕ) (c : Body) → ComesIn (half_by host message) v e n c → body ≡ c
  comes_so v e n c x =
      let k = subst (λ (s : Step). ComesIn s v e n c) (hears_is host message host_is way) x in
      sym b ∙ (parts.comes_of host message.server message.epoch message.moves message.body past v e n c k).3

  pub no_use : ((g : GrantOf) → body ≡ Grant g → ⊥) → ((d : DoneOf) → body ≡ Done d → ⊥) → (w : Bring)
      → AnswersRequest past (half_by host message) w → ⊥
  no_use no_grant no_done w (inl x) = no_grant x.0 (comes_so _ _ _ (Grant x.0) x.1)
  no_use no_grant no_done w (inr x) = no_done x.0 (comes_so _ _ _ (Done x.0) x.1)

  pub no_learning : ((n : AppliedGive) → body ≡ Gone n → ⊥) → ((a : ReclaimedOf) → body ≡ Reclaimed a → ⊥)
      → (n : AppliedGive) → Learns past (half_by host message) n → ⊥
  no_learning no_gone no_answer n l = elim l.1 [
    | inl x ↦ no_gone n (comes_so _ _ _ (Gone n) x)
    | inr x ↦ no_answer x.1 (comes_so _ _ _ (Reclaimed x.1) x.2)
  ]

  pub no_welcome : ((a : ReclaimedOf) → body ≡ Reclaimed a → ⊥) → (v : ServerId)
      → IsWelcome (half_by host message ∷ past) v → IsWelcome past v
  no_welcome no_answer v w = elim w [
    | inl x ↦ absurd (no_answer x.1.0 (comes_so _ _ _ (Reclaimed x.1.0) x.1.1))
    | inr x ↦ x
  ]

pub bye_runs : (script : Script) (m : Tables) (past : List Step) (message : Message) → IsRunning script m past
    → IsSound script.roster message → message.host ≡ m.host → message.direction ≡ ToHost → message.body ≡ Bye
    → RunsOn script m (parted_by message.server m) past (half_by m.host message)
bye_runs script m past message running sound e way b =
    let site : Site = record (site_at m.sites message.server) { has_bye = true } in
    let at : site.server ≡ message.server = site_number m.sites message.server in
    let changes : ChangesSite m.sites (with_site site m.sites) message.server site =
    subst (λ (v : ServerId). ChangesSite m.sites (with_site site m.sites) v site) at
    (site_put script.roster m running.tidy site (subst (IsServer script.roster) (sym at) sound.server)) in
    let is : half_by m.host message ≡ hears m.host message.server message.epoch message.moves Bye =
    hears_is m.host message e way ∙ ap (hears m.host message.server message.epoch message.moves) b in
    told_silent script m past message running site m.floors (λ f i. i) changes refl
    (subst (λ (s : Step). Stands script (parted_by message.server m) (s ∷ past)) (sym is)
    (bye_stands script m past message.server message.epoch message.moves (with_site site m.sites)
    running.rests.stands changes))
    (no_use m.host message past Bye b e way (λ g q. absurd (cc)) (λ d q. absurd (cc)))
    (no_learning m.host message past Bye b e way (λ n q. absurd (cc)) (λ a q. absurd (cc)))
    (no_welcome m.host message past Bye b e way (λ a q. absurd (cc)))

-- # A Restarted, of a server that wasn't greeted
module _ (script : Script) (m : Tables) (past : List Step) (message : Message) (running : IsRunning script m past)
    (sound : IsSound script.roster message) (e : message.host ≡ m.host) (way : message.direction ≡ ToHost)
    (b : message.body ≡ Restarted) (up : (site_at m.sites message.server).epoch < message.epoch) where
  abbrev pub renewed_site : Site
  renewed_site = record (site_at m.sites message.server) { epoch = message.epoch; claimed = false }

  abbrev pub renewed_floors : List Floor
  renewed_floors =
      filter (λ (floor : Floor). not ((home_at floor.fid.fileset).0 == message.server.0)) m.floors

  pub renewed_changes : ChangesSite m.sites (with_site renewed_site m.sites) message.server renewed_site
  renewed_changes =
      let at : renewed_site.server ≡ message.server = site_number m.sites message.server in
      subst (λ (v : ServerId). ChangesSite m.sites (with_site renewed_site m.sites) v renewed_site) at
      (site_put script.roster m running.tidy renewed_site (subst (IsServer script.roster) (sym at) sound.server))

  pub renewed_stands : Stands script (renewed message.server message.epoch m) (half_by m.host message ∷ past)
  renewed_stands =
      let is : half_by m.host message ≡ hears m.host message.server message.epoch message.moves Restarted =
      hears_is m.host message e way ∙ ap (hears m.host message.server message.epoch message.moves) b in
      subst (λ (s : Step). Stands script (renewed message.server message.epoch m) (s ∷ past)) (sym is)
      (restarted_stands script m past message.server message.epoch message.moves (with_site renewed_site m.sites)
      renewed_floors running.rests.stands up renewed_changes
      (floors_renew message.server m.floors
      (λ f i. home_is script.roster m running.tidy f.fid.fileset (running.tidy.floors f i))))

  pub renewed_runs : RunsOn script m (renewed message.server message.epoch m) past (half_by m.host message)
  renewed_runs = told_silent script m past message running renewed_site renewed_floors
      (λ f i. (in_filter (λ (floor : Floor). not ((home_at floor.fid.fileset).0 == message.server.0)) m.floors f i).0)
      renewed_changes refl renewed_stands
      (no_use m.host message past Restarted b e way (λ g q. absurd (cc)) (λ d q. absurd (cc)))
      (no_learning m.host message past Restarted b e way (λ n q. absurd (cc)) (λ a q. absurd (cc)))
      (no_welcome m.host message past Restarted b e way (λ a q. absurd (cc)))
