-- What a host may say again, or says of what it has, by the tables.
use Rattle.base_types.specs.declared.ids.ServerId.{ServerId}
use Rattle.host_gives.specs.Giving.{Giving}
use Rattle.host_tables.specs.Half.{half}
use Rattle.host_tables.specs.Quiet.{IsQuiet, Moved, MovesRight}
use Rattle.host_tables.specs.QuietStep.{IsOfTables}
use Rattle.host_tables.specs.Sending.{MaySend}
use Rattle.host_tables.specs.Stands.{Stands}
use Rattle.host_tables.specs.Tables.{held_of, site_at}
use Rattle.host_gives.specs.declared.leavings.Leaving.{Leaving}
use Rattle.host_tables.specs.declared.calls.Request.TheVariants.{Change as AChange, Fetch as AFetch}
use Rattle.host_tables.specs.declared.tables.Tables.{Tables}
use Rattle.message_types.specs.declared.asking.Change.{Change as ChangeOf}
use Rattle.message_types.specs.declared.asking.Fetch.{Fetch as FetchOf}
use Rattle.message_types.specs.declared.giving.Give.{Give}
use Rattle.message_types.specs.declared.giving.Outstanding.{Outstanding}
use Rattle.message_types.specs.declared.giving.Reclaim.{Reclaim as ReclaimOf}
use Rattle.message_types.specs.declared.message.Body.{Body}
use Rattle.message_types.specs.declared.message.Body.TheVariants.{Bye, Change, Fetch, GiveBack, Hello, Reclaim}
use Rattle.message_types.specs.declared.message.Message.{Message}
use Rattle.run_rules.specs.Doings.{epoch}
use Rattle.run_rules.specs.HostMay.{LearnsRestart}
use Rattle.run_rules.specs.Messages.{home}
use Rattle.run_rules.specs.Past.{In}
use Rattle.run_rules.specs.Views.{Stance}
use Rattle.run_rules.specs.declared.step.Cause.TheVariants.{Lapse}
use Rattle.run_rules.specs.declared.step.Step.{Step}
use Rattle.script_lines.specs.declared.script.Script.{Script}
use Rattle.std.specs.Prelude.{List, Some, true, ℕ, ◌<◌, ◌∷◌, ◌≡◌, ◌⊎◌}
use Rattle.token_types.specs.declared.token.Token.{Token}
use Rattle.token_types.specs.declared.token.TokenId.{TokenId}

-- the give-back is the first of its fileset among those that aren't known as applied
pub record IsFirst (gives : Giving) (g : Give) : Type 0 where
  pub message : Message
  pub within : In message gives.gives
  pub body : message.body ≡ GiveBack g
  pub least : (other : Message) (k : Give) → In other gives.gives → other.body ≡ GiveBack k
      → k.fid.fileset ≡ g.fid.fileset → k.number < g.number → ⊥

-- the token can be claimed of a server in this epoch
abbrev pub IsOld : ServerId → ℕ → TokenId → Type 0
IsOld v epoch id = (id.server ≡ v) × (id.epoch < epoch)

-- The claim of what a host holds and has in give-backs, of a server in its present epoch.
pub record ClaimFrom (m : Tables) (v : ServerId) (claim : ReclaimOf) : Type 0 where
  pub held : (t : Token) → In t (held_of m) → IsOld v (site_at m.sites v).epoch t.id → In t claim.tokens
  pub given : (y : Leaving) → In y m.leaving → IsOld v (site_at m.sites v).epoch y.token.id → In y.token claim.tokens
  pub only : (t : Token) → In t claim.tokens → IsOld v (site_at m.sites v).epoch t.id
      × (In t (held_of m) ⊎ ((y : Leaving) × In y m.leaving × (y.token ≡ t)))
  -- each of their filesets, once
  pub numbers : (t : Token) → In t claim.tokens → (o : Outstanding) × In o claim.numbers × (o.fileset ≡ t.fid.fileset)
  pub moves : (o : Outstanding) → In o claim.numbers → o.moves ≡ 0
  pub gives : (o : Outstanding) → In o claim.numbers → 0 < o.give
      → (g : Give) × IsFirst m.gives g × (g.fid.fileset ≡ o.fileset) × (g.number ≡ o.give)
  pub gives_all : (o : Outstanding) (g : Give) → In o claim.numbers → IsFirst m.gives g → g.fid.fileset ≡ o.fileset
      → o.give ≡ g.number
  pub changes : (o : Outstanding) → In o claim.numbers → 0 < o.change
      → (w : ServerId) × (c : ChangeOf) × (m.request ≡ Some (AChange w c)) × (c.fileset ≡ o.fileset)
      × (c.number ≡ o.change) × (o.fileset.0 ≡ 0 → w ≡ v)
  pub changes_all : (o : Outstanding) (w : ServerId) (c : ChangeOf) → In o claim.numbers
      → m.request ≡ Some (AChange w c)
      → c.fileset ≡ o.fileset → (o.fileset.0 ≡ 0 → w ≡ v) → o.change ≡ c.number

-- What is said in a quiet step: a Hello, what is outstanding, a claim, a Bye again. New requests are apart.
pub data SaysAgain (m : Tables) (x : Moved) (past : List Step) (s : Step) (v : ServerId) : Body → Type 0 where
  OfHello : SaysAgain m x past s v Hello
  OfGive : (g : Give) → IsFirst m.gives g → home g.fid.fileset ≡ v → SaysAgain m x past s v (GiveBack g)
  OfFetch : (f : FetchOf) → m.request ≡ Some (AFetch f) → home f.fid.fileset ≡ v → SaysAgain m x past s v (Fetch f)
  OfChange : (c : ChangeOf) → m.request ≡ Some (AChange v c) → SaysAgain m x past s v (Change c)
  OfClaim : (claim : ReclaimOf) → ClaimFrom m v claim → x.request ≡ m.request
      → LearnsRestart past s v ⊎ ((s.cause ≡ Lapse) × ((site_at m.sites v).claimed ≡ true))
      → SaysAgain m x past s v (Reclaim claim)
  OfBye : (site_at m.sites v).said_bye ≡ true → SaysAgain m x past s v Bye

abbrev pub AgainMay : Type 0
AgainMay = (script : Script) (m : Tables) (x : Moved) (past : List Step) (s : Step) → Stands script m (half s ∷ past)
    → IsQuiet s → MovesRight m x past s → (stance : Stance script.roster m.host past s)
    → IsOfTables script.roster m past s stance → (y : Message) → y.epoch ≡ (site_at m.sites y.server).epoch
    → y.moves ≡ 0
    → SaysAgain m x past s y.server y.body → MaySend script.roster m.host past s stance y
