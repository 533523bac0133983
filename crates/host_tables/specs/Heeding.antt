-- What each kind of message that brings no token teaches a host, by the tables.
use Rattle.base_types.specs.declared.ids.ServerId.{ServerId}
use Rattle.host_gives.specs.Giving.{Giving, is_of_file}
use Rattle.host_tables.specs.Hearing.{ChangesSite, ClosesCall, ForgetsGives, RenewsFloors, heard_of, hears}
use Rattle.host_tables.specs.Hearing.{with_heard}
use Rattle.host_tables.specs.Stands.{Stands}
use Rattle.host_tables.specs.Tables.{floor_of, site_at}
use Rattle.host_gives.specs.declared.leavings.Leaving.{Leaving}
use Rattle.host_tables.specs.declared.calls.Request.TheVariants.{Change as AChange, Fetch as AFetch}
use Rattle.host_tables.specs.declared.files.Floor.{Floor}
use Rattle.host_lengths.specs.declared.given.Given.{Given}
use Rattle.host_tables.specs.declared.sites.Site.{Site}
use Rattle.host_tables.specs.declared.tables.Tables.{Tables}
use Rattle.message_types.specs.declared.asking.Change.{Change as ChangeOf}
use Rattle.message_types.specs.declared.asking.Fetch.{Fetch as FetchOf}
use Rattle.message_types.specs.declared.giving.AppliedGive.{AppliedGive}
use Rattle.message_types.specs.declared.giving.Reclaimed.{Reclaimed as ReclaimedOf}
use Rattle.message_types.specs.declared.message.Body.{Body}
use Rattle.message_types.specs.declared.message.Body.TheVariants.{Bye, Done, Gone, Grant, Reclaimed, Restarted}
use Rattle.message_types.specs.declared.message.Body.TheVariants.{Revoke}
use Rattle.message_types.specs.declared.telling.Done.{Done as DoneOf}
use Rattle.message_types.specs.declared.telling.Grant.{Grant as GrantOf}
use Rattle.run_rules.specs.Messages.{home, stay_of}
use Rattle.run_rules.specs.declared.step.Asked.{Asked}
use Rattle.run_rules.specs.declared.step.Labelled.{Labelled}
use Rattle.run_rules.specs.declared.step.Step.{Step}
use Rattle.script_lines.specs.declared.script.Script.{Script}
use Rattle.std.specs.List.{list_any}
use Rattle.std.specs.Prelude.{List, None, Option, Some, [], false, true, ℕ, ◌<◌, ◌||◌, ◌∷◌, ◌≡◌, ◌≤◌, ◌⊎◌}

-- # What is ignored, or answers nothing

-- It is of another epoch than the present one, or of another stay than the first, where it is no Bye, no Restarted of
-- a higher epoch, and no Reclaimed of a server whose epoch isn't known.
pub data IsIgnored (m : Tables) (server : ServerId) (epoch moves : ℕ) : Body → Type 0 where
  OfOther : (body : Body) → ((site_at m.sites server).epoch ≡ epoch → moves ≡ 0 → ⊥) → (body ≡ Bye → ⊥)
      → (body ≡ Restarted → ⊥) → ((a : ReclaimedOf) → body ≡ Reclaimed a → ⊥) → IsIgnored m server epoch moves body
  OfOld : epoch ≤ (site_at m.sites server).epoch → IsIgnored m server epoch moves Restarted
  OfOthers : (a : ReclaimedOf) → ((site_at m.sites server).epoch ≡ 0 → ⊥) → ((site_at m.sites server).epoch ≡ epoch → ⊥)
      → IsIgnored m server epoch moves (Reclaimed a)

abbrev pub IgnoredStands : Type 0
IgnoredStands = (script : Script) (m : Tables) (past : List Step) (server : ServerId) (epoch moves : ℕ) (body : Body)
    → Stands script m past → IsIgnored m server epoch moves body
    → Stands script m (hears m.host server epoch moves body ∷ past)

-- the Grant doesn't answer the request
abbrev pub AnswersNoFetch : Tables → GrantOf → Type 0
AnswersNoFetch m g = (f : FetchOf) → m.request ≡ Some (AFetch f) → f.fid.fileset ≡ g.bring.fid.fileset
    → f.number ≡ g.bring.number → ⊥

abbrev pub UnaskedGrantStands : Type 0
UnaskedGrantStands = (script : Script) (m : Tables) (past : List Step) (server : ServerId) (epoch moves : ℕ)
    (g : GrantOf)
    → Stands script m past → AnswersNoFetch m g
    → Stands script m (hears m.host server epoch moves (Grant g) ∷ past)

-- the Done doesn't answer the request
abbrev pub AnswersNoChange : Tables → ServerId → DoneOf → Type 0
AnswersNoChange m server d = (v : ServerId) (c : ChangeOf) → m.request ≡ Some (AChange v c) → v ≡ server
    → c.fileset ≡ d.fileset → c.number ≡ d.bring.number → ⊥

-- it is numbered under a fileset that is at its server, which is declared, or under none: so each sound Done is
pub record IsOfServer (server : ServerId) (d : DoneOf) : Type 0 where
  pub declared : 1 ≤ server.0
  pub numbered : (d.fileset.0 ≡ 0) ⊎ (home d.fileset ≡ server)

abbrev pub UnaskedDoneStands : Type 0
UnaskedDoneStands = (script : Script) (m : Tables) (past : List Step) (server : ServerId) (epoch moves : ℕ) (d : DoneOf)
    → Stands script m past → IsOfServer server d → AnswersNoChange m server d
    → Stands script m (hears m.host server epoch moves (Done d) ∷ past)

-- it says nothing to a host
abbrev pub IsForOthers : Body → Type 0
IsForOthers (Grant g) = ⊥
IsForOthers (Done d) = ⊥
IsForOthers (Revoke r) = ⊥
IsForOthers (Gone n) = ⊥
IsForOthers (Reclaimed a) = ⊥
IsForOthers Restarted = ⊥
IsForOthers Bye = ⊥
IsForOthers _ = Unit {0}

abbrev pub OthersStands : Type 0
OthersStands = (script : Script) (m : Tables) (past : List Step) (server : ServerId) (epoch moves : ℕ) (body : Body)
    → Stands script m past → IsForOthers body → Stands script m (hears m.host server epoch moves body ∷ past)

-- # A Grant that answers the request, and isn't used

pub record AnswersUnused (m : Tables) (past : List Step) (server : ServerId) (epoch moves : ℕ) (g : GrantOf) : Type 0
  where
    pub place_is : stay_of past g.bring.fid.fileset ≡ record { server = server; moves = moves }
    pub present : (site_at m.sites server).epoch ≡ epoch
    pub fetch : FetchOf
    pub asked : m.request ≡ Some (AFetch fetch)
    pub of_fileset : fetch.fid.fileset ≡ g.bring.fid.fileset
    pub number : fetch.number ≡ g.bring.number
    pub unused : (g.bring.stamp ≤ floor_of m.floors g.bring.fid)
        ⊎ (list_any (is_of_file g.bring.fid) m.gives.gives ≡ true)

abbrev pub UnusedGrantStands : Type 0
UnusedGrantStands = (script : Script) (m : Tables) (past : List Step) (server : ServerId) (epoch moves : ℕ)
    (g : GrantOf)
    → Stands script m past → AnswersUnused m past server epoch moves g
    → Stands script (with_heard m (record (heard_of m) { request = None })) (hears m.host server epoch moves (Grant g)
    ∷ past)

-- # Servers: Bye, Restarted, Reclaimed

abbrev pub ByeStands : Type 0
ByeStands = (script : Script) (m : Tables) (past : List Step) (server : ServerId) (epoch moves : ℕ) (sites : List Site)
    → Stands script m past → ChangesSite m.sites sites server (record (site_at m.sites server) { has_bye = true })
    → Stands script (with_heard m (record (heard_of m) { sites = sites })) (hears m.host server epoch moves Bye ∷ past)

-- the server restarted: its epoch is higher than the one that the host knows
abbrev pub RestartedStands : Type 0
RestartedStands = (script : Script) (m : Tables) (past : List Step) (server : ServerId) (epoch moves : ℕ)
    (sites : List Site) (floors : List Floor) → Stands script m past → (site_at m.sites server).epoch < epoch
    → ChangesSite m.sites sites server (record (site_at m.sites server) { epoch = epoch; claimed = false })
    → RenewsFloors m.floors floors server
    → Stands script (with_heard m (record (heard_of m) { sites = sites; floors = floors }))
    (hears m.host server epoch moves Restarted ∷ past)

-- what a server that hears the host is known as
abbrev pub hearing : Site → ℕ → Site
hearing site epoch = record site { epoch = epoch; welcome = site.welcome || site.greeted; claimed = false }

-- the first Reclaimed of a server tells its epoch
abbrev pub FirstReclaimedStands : Type 0
FirstReclaimedStands = (script : Script) (m : Tables) (past : List Step) (server : ServerId) (epoch : ℕ)
    (a : ReclaimedOf)
    (sites : List Site) (floors : List Floor) → Stands script m past → (site_at m.sites server).epoch ≡ 0 → 0 < epoch
    → ChangesSite m.sites sites server (hearing (site_at m.sites server) epoch) → RenewsFloors m.floors floors server
    → Stands script (with_heard m (record (heard_of m) { sites = sites; floors = floors }))
    (hears m.host server epoch 0 (Reclaimed a) ∷ past)

-- one of the present epoch also tells which give-backs are applied
abbrev pub ReclaimedStands : Type 0
ReclaimedStands = (script : Script) (m : Tables) (past : List Step) (server : ServerId) (epoch : ℕ) (a : ReclaimedOf)
    (sites : List Site) (lengths : List Given) (gives : Giving) (leaving : List Leaving) (ending : Option Labelled)
    (call : Option Asked) → Stands script m past → (site_at m.sites server).epoch ≡ epoch
    → ChangesSite m.sites sites server (hearing (site_at m.sites server) epoch)
    → ForgetsGives m lengths gives leaving ending a.applied → ClosesCall m call a.applied
    → Stands script (with_heard m (record (heard_of m) {
      sites = sites;
      lengths = lengths;
      gives = gives;
      leaving = leaving;
      ending = ending;
      call = call;
    })) (hears m.host server epoch 0 (Reclaimed a) ∷ past)

-- # A give-back is applied

abbrev pub GoneStands : Type 0
GoneStands = (script : Script) (m : Tables) (past : List Step) (server : ServerId) (epoch moves : ℕ) (n : AppliedGive)
    (lengths : List Given) (gives : Giving) (leaving : List Leaving) (ending : Option Labelled) (call : Option Asked)
    → Stands script m past → stay_of past n.fileset ≡ record { server = server; moves = moves }
    → (site_at m.sites server).epoch ≡ epoch
    → ForgetsGives m lengths gives leaving ending (n ∷ []) → ClosesCall m call (n ∷ [])
    → Stands script (with_heard m (record (heard_of m) {
      lengths = lengths;
      gives = gives;
      leaving = leaving;
      ending = ending;
      call = call;
    })) (hears m.host server epoch moves (Gone n) ∷ past)
