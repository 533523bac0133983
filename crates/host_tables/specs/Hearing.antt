-- What a message of which no token is taken leaves of the tables: the parts that it may change, and how those stand.
use Rattle.base_types.specs.declared.ids.Fid.{Fid}
use Rattle.base_types.specs.declared.ids.HostId.{HostId}
use Rattle.base_types.specs.declared.ids.ServerId.{ServerId}
use Rattle.host_gives.specs.Giving.{Giving}
use Rattle.host_tables.specs.Half.{learning}
use Rattle.host_tables.specs.Stands.{CallStands, FloorsStand, GivesStand, HomesStand, LeavingStands, LengthsStand}
use Rattle.host_tables.specs.Stands.{RequestStands, SitesStand, Stands}
use Rattle.host_tables.specs.Tables.{floor_of, length_given, site_at}
use Rattle.host_tables.specs.declared.calls.Home.{Home}
use Rattle.host_gives.specs.declared.leavings.Leaving.{Leaving}
use Rattle.host_tables.specs.declared.calls.Request.{Request}
use Rattle.host_tables.specs.declared.files.Floor.{Floor}
use Rattle.host_lengths.specs.declared.given.Given.{Given}
use Rattle.host_tables.specs.declared.sites.Site.{Site}
use Rattle.host_tables.specs.declared.tables.Tables.{Tables}
use Rattle.message_types.specs.declared.giving.AppliedGive.{AppliedGive}
use Rattle.message_types.specs.declared.giving.Ends.{Ends}
use Rattle.message_types.specs.declared.giving.Give.{Give}
use Rattle.message_types.specs.declared.message.Body.{Body}
use Rattle.message_types.specs.declared.message.Body.TheVariants.{GiveBack}
use Rattle.message_types.specs.declared.message.Direction.TheVariants.{ToHost}
use Rattle.message_types.specs.declared.message.Message.{Message}
use Rattle.run_rules.specs.Messages.{home}
use Rattle.run_rules.specs.Past.{In}
use Rattle.run_rules.specs.Tokens.{number_of}
use Rattle.run_rules.specs.declared.step.Asked.{Asked}
use Rattle.run_rules.specs.declared.step.Cause.{Cause}
use Rattle.run_rules.specs.declared.step.Cause.TheVariants.{Message as Came}
use Rattle.run_rules.specs.declared.step.Labelled.{Labelled}
use Rattle.run_rules.specs.declared.step.Step.{Step}
use Rattle.script_lines.specs.declared.script.Script.{Script}
use Rattle.std.specs.Prelude.{List, None, Option, Some, [], if◌then◌else◌, true, ℕ, ◌==◌, ◌↔◌, ◌∷◌, ◌≡◌, ◌⊎◌}

-- what comes from a server, and the half of the step in which the host hears it
abbrev pub saying : HostId → ServerId → ℕ → ℕ → Body → Message
saying host server epoch moves body =
    record { direction = ToHost; host = host; server = server; epoch = epoch; moves = moves; body = body }

abbrev pub hears : HostId → ServerId → ℕ → ℕ → Body → Step
hears host server epoch moves body = learning host (Came (saying host server epoch moves body)) []

-- what may change
pub record Heard : Type 0 where
  pub lengths : List Given
  pub gives : Giving
  pub leaving : List Leaving
  pub ending : Option Labelled
  pub floors : List Floor
  pub sites : List Site
  pub request : Option Request
  pub homes : List Home
  pub call : Option Asked

abbrev pub with_heard : Tables → Heard → Tables
with_heard m x = record m {
  lengths = x.lengths;
  gives = x.gives;
  leaving = x.leaving;
  ending = x.ending;
  floors = x.floors;
  sites = x.sites;
  request = x.request;
  homes = x.homes;
  call = x.call;
}

-- nothing changes
abbrev pub heard_of : Tables → Heard
heard_of m = record {
  lengths = m.lengths;
  gives = m.gives;
  leaving = m.leaving;
  ending = m.ending;
  floors = m.floors;
  sites = m.sites;
  request = m.request;
  homes = m.homes;
  call = m.call;
}

-- each part stands; a request, a call, and the end of a label are as they were, or no more
pub record HearsRight (m : Tables) (x : Heard) (past : List Step) : Type 0 where
  pub lengths : LengthsStand x.lengths past
  pub gives : GivesStand x.gives past
  pub leaving : LeavingStands x.leaving x.ending past
  pub ending : (x.ending ≡ m.ending) ⊎ (x.ending ≡ None)
  pub floors : FloorsStand x.floors past
  pub sites : SitesStand x.sites past
  pub request : RequestStands x.request past
  pub request_kept : (x.request ≡ m.request) ⊎ (x.request ≡ None)
  pub homes : HomesStand x.homes past
  pub call : CallStands x.call m.begun past
  pub call_kept : (x.call ≡ m.call) ⊎ (x.call ≡ None)

-- then all tables stand
abbrev pub HearingStands : Type 0
HearingStands = (script : Script) (m : Tables) (x : Heard) (past : List Step) (cause : Cause)
    → Stands script m past → HearsRight m x (learning m.host cause [] ∷ past)
    → Stands script (with_heard m x) (learning m.host cause [] ∷ past)

-- # Give-backs that become known as applied

-- a give-back that isn't known yet has one of these numbers
pub record IsLearnt (gives : List Message) (numbers : List AppliedGive) (g : Give) : Type 0 where
  pub message : Message
  pub within : In message gives
  pub body : message.body ≡ GiveBack g
  pub number : In (number_of g) numbers

-- those leave the tables, with what is kept of them: their tokens, and the label whose use one ends
pub record ForgetsGives (m : Tables) (lengths : List Given) (gives : Giving) (leaving : List Leaving)
    (ending : Option Labelled) (numbers : List AppliedGive) : Type 0 where
  pub gives_from : (y : Message) → In y gives.gives
      → In y m.gives.gives × ((g : Give) → y.body ≡ GiveBack g → In (number_of g) numbers → ⊥)
  pub gives_old : (y : Message) (g : Give) → In y m.gives.gives → y.body ≡ GiveBack g
      → (In (number_of g) numbers → ⊥) → In y gives.gives
  pub counters_are : gives.counters ≡ m.gives.counters
  pub leaving_from : (y : Leaving) → In y leaving → In y m.leaving × ((g : Give)
      → IsLearnt m.gives.gives numbers g → g.fid.fileset ≡ y.fileset → g.number ≡ y.number → ⊥)
  pub leaving_old : (y : Leaving) → In y m.leaving → ((g : Give) → IsLearnt m.gives.gives numbers g
      → g.fid.fileset ≡ y.fileset → g.number ≡ y.number → ⊥) → In y leaving
  pub length_some : (fid : Fid) (given : Given) → length_given m.lengths fid ≡ Some given
      → (new : Given) × (length_given lengths fid ≡ Some new) × (new.number ≡ given.number)
      × (new.length ≡ given.length) × ((new.known ≡ true) ↔ ((given.known ≡ true)
      ⊎ ((g : Give) × IsLearnt m.gives.gives numbers g × (g.fid.fileset ≡ fid.fileset) × (g.number ≡ given.number))))
  pub length_none : (fid : Fid) → length_given m.lengths fid ≡ None → length_given lengths fid ≡ None
  pub ending_is : ((ending ≡ m.ending)
      × ((g : Give) (ends : Ends) → IsLearnt m.gives.gives numbers g → g.ends ≡ Some ends → ⊥))
      ⊎ ((ending ≡ None) × ((g : Give) × (ends : Ends) × IsLearnt m.gives.gives numbers g × (g.ends ≡ Some ends)))

-- and the open call that one of them ends is answered
pub record ClosesCall (m : Tables) (call : Option Asked) (numbers : List AppliedGive) : Type 0 where
  pub some : (c : Asked) → m.call ≡ Some c → ((call ≡ Some c) × ((g : Give) (ends : Ends)
      → IsLearnt m.gives.gives numbers g → g.ends ≡ Some ends → ends.k ≡ c.k → ⊥))
      ⊎ ((call ≡ None) × ((g : Give) × (ends : Ends) × IsLearnt m.gives.gives numbers g × (g.ends ≡ Some ends)
      × (ends.k ≡ c.k)))
  pub none : m.call ≡ None → call ≡ None

-- # Servers

-- what is known of one server changes
pub record ChangesSite (old new : List Site) (v : ServerId) (site : Site) : Type 0 where
  pub here : site_at new v ≡ site
  pub others : (w : ServerId) → (w ≡ v → ⊥) → site_at new w ≡ site_at old w

-- the floors of the files of a server begin anew
abbrev pub RenewsFloors : List Floor → List Floor → ServerId → Type 0
RenewsFloors old new v = (fid : Fid) → floor_of new fid ≡ (if (home fid.fileset).0 == v.0 then 0 else floor_of old fid)
