-- What becomes of the tables of requests, numbers and the call by what a quiet step says and begins.
use Rattle.base_types.specs.declared.ids.Fid.{Fid}
use Rattle.base_types.specs.declared.ids.FilesetId.{FilesetId}
use Rattle.base_types.specs.declared.ids.ServerId.{ServerId}
use Rattle.host_gives.specs.Giving.{is_of_file}
use Rattle.host_tables.specs.Asking.{FetchFrom}
use Rattle.host_tables.specs.AsksByLine.{CountsFetch}
use Rattle.host_tables.specs.Half.{half}
use Rattle.host_tables.specs.Quiet.{IsQuiet, Moved}
use Rattle.host_tables.specs.QuietStep.{IsOfTables}
use Rattle.host_tables.specs.Sending.{MayChange, MayFetch}
use Rattle.host_tables.specs.Stands.{AsksFrom, IsLack, NumbersStand, RequestStands, Stands}
use Rattle.host_tables.specs.Tables.{home_of, last_change, last_fetch, site_at}
use Rattle.host_tables.specs.declared.calls.Request.TheVariants.{Change as AChange, Fetch as AFetch}
use Rattle.host_tables.specs.declared.numbers.Changed.{Changed}
use Rattle.host_tables.specs.declared.numbers.Fetched.{Fetched}
use Rattle.host_tables.specs.declared.tables.Tables.{Tables}
use Rattle.message_types.specs.declared.asking.Change.{Change as ChangeOf}
use Rattle.message_types.specs.declared.asking.Fetch.{Fetch as FetchOf}
use Rattle.message_types.specs.declared.message.Body.{Body}
use Rattle.message_types.specs.declared.message.Body.TheVariants.{Bye, Change, Fetch, Grant}
use Rattle.message_types.specs.declared.message.Message.{Message}
use Rattle.message_types.specs.declared.telling.Done.{Done as DoneOf}
use Rattle.message_types.specs.declared.telling.Grant.{Grant as GrantOf}
use Rattle.need_host.specs.Questions.{Question, fileset_of, numbered_under}
use Rattle.run_rules.specs.HostAsks.{HasLost}
use Rattle.run_rules.specs.Messages.{About, DoneComes, HasSaid, IsDecidedAt, Says, home}
use Rattle.run_rules.specs.Past.{In}
use Rattle.run_rules.specs.Tokens.{IsOpen, IsUseKind}
use Rattle.run_rules.specs.Views.{Stance, is_entering, stay_asked}
use Rattle.run_rules.specs.declared.step.Asked.{Asked}
use Rattle.run_rules.specs.declared.step.Step.{Step}
use Rattle.script_lines.specs.declared.script.Script.{Script}
use Rattle.std.specs.List.{list_any}
use Rattle.std.specs.Prelude.{List, None, Some, [], false, true, ℕ, ◌+◌, ◌↔◌, ◌∷◌, ◌≡◌, ◌≤◌, ◌⊎◌}
use Rattle.token_types.specs.declared.token.Need.{Need}

-- # The call

-- a step begins this call, and none was open
abbrev pub moved_by : Moved → Asked → Moved
moved_by x c = record x { call = Some c; begun = c.k; lost = [] }

-- # Requests

-- it is no request
abbrev pub IsNoRequest : Body → Type 0
IsNoRequest (Fetch f) = ⊥
IsNoRequest (Change c) = ⊥
IsNoRequest _ = Unit {0}

-- the numbers with a new one
pub record CountsChange (old new : List Changed) (v : ServerId) (c : ChangeOf) : Type 0 where
  pub at : (w : ServerId) → (c.fileset.0 ≡ 0 → w ≡ v) → last_change new w c.fileset ≡ c.number
  pub up : (w : ServerId) (fs : FilesetId) → last_change old w fs ≤ last_change new w fs
  pub other : (w : ServerId) (fs : FilesetId) → (last_change new w fs ≡ last_change old w fs)
      ⊎ ((c.fileset ≡ fs) × (c.fileset.0 ≡ 0 → w ≡ v))

-- A new Change is sent, and no other request; none was outstanding.
pub record SendsChangeNew (m : Tables) (past : List Step) (s : Step) (v : ServerId) (c : ChangeOf) : Type 0 where
  pub idle : m.request ≡ None
  pub there : Says s v (Change c)
  pub only : (y : Message) → In y s.sent → ((y.server ≡ v) × (y.body ≡ Change c)) ⊎ IsNoRequest y.body
  pub number : c.number ≡ last_change m.changed v c.fileset + 1
  pub decided : IsDecidedAt past c.fileset v 0
  pub welcome : (site_at m.sites v).welcome ≡ true
  -- its number isn't that of the message that came
  pub fresh : (d : DoneOf) → DoneComes past s v d → d.fileset ≡ c.fileset → d.bring.number ≡ c.number → ⊥
  pub enters : (w : ServerId) (name : List ℕ) → c.enter ≡ true → fileset_of c.call ≡ Some (w, name)
      → (w ≡ v) × (home_of m.homes w name ≡ None)

-- A new Fetch is sent, and no other request; none was outstanding.
pub record SendsFetchNew (m : Tables) (past : List Step) (s : Step) (f : FetchOf) : Type 0 where
  pub idle : m.request ≡ None
  pub there : Says s (home f.fid.fileset) (Fetch f)
  pub only : (y : Message) → In y s.sent → (y.body ≡ Fetch f) ⊎ IsNoRequest y.body
  pub number : f.number ≡ last_fetch m.fetched f.fid.fileset + 1
  pub welcome : (site_at m.sites (home f.fid.fileset)).welcome ≡ true
  pub fresh : (g : GrantOf) → About past s f.fid.fileset (Grant g) → g.bring.fid.fileset ≡ f.fid.fileset
      → g.bring.number ≡ f.number → ⊥

-- what is sent is no request, or the one that is outstanding
pub record SendsNoNew (m : Tables) (s : Step) : Type 0 where
  pub only : (y : Message) → In y s.sent → IsNoRequest y.body
      ⊎ (((f : FetchOf) × (m.request ≡ Some (AFetch f)) × (y.body ≡ Fetch f))
      ⊎ ((c : ChangeOf) × (m.request ≡ Some (AChange y.server c)) × (y.body ≡ Change c)))

-- then they stand
abbrev pub RequestMoves : Type 0
RequestMoves = (script : Script) (m : Tables) (past : List Step) (s : Step) → Stands script m (half s ∷ past)
    → SendsNoNew m s
    → RequestStands m.request (s ∷ past) × NumbersStand m.fetched m.changed (s ∷ past)

abbrev pub ChangeMoves : Type 0
ChangeMoves = (script : Script) (m : Tables) (past : List Step) (s : Step) (v : ServerId) (c : ChangeOf)
    (changed : List Changed)
    → Stands script m (half s ∷ past) → SendsChangeNew m past s v c → CountsChange m.changed changed v c
    → RequestStands (Some (AChange v c)) (s ∷ past) × NumbersStand m.fetched changed (s ∷ past)

abbrev pub FetchMoves : Type 0
FetchMoves = (script : Script) (m : Tables) (past : List Step) (s : Step) (f : FetchOf) (fetched : List Fetched)
    → Stands script m (half s ∷ past) → SendsFetchNew m past s f → CountsFetch m.fetched fetched f
    → RequestStands (Some (AFetch f)) (s ∷ past) × NumbersStand fetched m.changed (s ∷ past)

-- # A new Change may be sent

-- it asks about the open call
pub record AsksNew (m : Tables) (past : List Step) (s : Step) (v : ServerId) (c : ChangeOf) : Type 0 where
  pub is_open : IsOpen (s ∷ past) (record { k = c.k; call = c.call })
  pub question : Question
  pub asks : AsksFrom m c.call question c.fid
  pub enters : c.enter ≡ is_entering question
  pub numbered : c.fileset ≡ numbered_under question
  pub goes : stay_asked past question ≡ record { server = v; moves = 0 }
  pub no_bye : (w : ServerId) → HasSaid past w Bye → ⊥

abbrev pub NewChangeMay : Type 0
NewChangeMay = (script : Script) (m : Tables) (past : List Step) (s : Step) (v : ServerId) (c : ChangeOf)
    → Stands script m (half s ∷ past) → SendsChangeNew m past s v c → AsksNew m past s v c
    → (stance : Stance script.roster m.host past s) → IsOfTables script.roster m past s stance
    → MayChange script.roster m.host past s stance v 0 c

-- # A new Fetch may be sent

-- it asks for what the open call lacks first
pub record FetchesNew (m : Tables) (past : List Step) (s : Step) (c : Asked) (f : FetchOf) : Type 0 where
  pub is_open : IsOpen (s ∷ past) c
  pub need : Need
  pub lack : IsLack m c.call need
  pub kind : IsUseKind need.kind → ⊥
  pub file : need.fid ≡ f.fid
  pub no_give : list_any (is_of_file f.fid) m.gives.gives ≡ false
  pub no_bye : (w : ServerId) → HasSaid past w Bye → ⊥
  pub lost : List Fid
  pub lost_is : (fid : Fid) → In fid lost ↔ HasLost (s ∷ past) fid
  pub needs : FetchFrom m lost c.call f.fid f.needs

abbrev pub NewFetchMay : Type 0
NewFetchMay = (script : Script) (m : Tables) (past : List Step) (s : Step) (c : Asked) (f : FetchOf)
    → Stands script m (half s ∷ past) → IsQuiet s → SendsFetchNew m past s f → FetchesNew m past s c f
    → (stance : Stance script.roster m.host past s) → IsOfTables script.roster m past s stance
    → MayFetch script.roster m.host past s stance (home f.fid.fileset) 0 f
