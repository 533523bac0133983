-- The last steps of a host: it says Bye; or it stops.
use Rattle.base_types.specs.declared.ids.HostId.{HostId}
use Rattle.base_types.specs.declared.ids.Node.TheVariants.{Host}
use Rattle.base_types.specs.declared.ids.ServerId.{ServerId}
use Rattle.host_tables.specs.AtOnce.{IsFree}
use Rattle.host_tables.specs.Half.{learning}
use Rattle.host_tables.specs.Machine.{Rests, StepRight}
use Rattle.host_tables.specs.Quiet.{Moved, with_moved}
use Rattle.host_tables.specs.Tables.{held_of, site_at}
use Rattle.host_tables.specs.WholeSteps.{moved_of}
use Rattle.host_tables.specs.declared.sites.Site.{Site}
use Rattle.host_tables.specs.declared.tables.Tables.{Tables}
use Rattle.message_types.specs.declared.message.Body.TheVariants.{Bye, Down}
use Rattle.message_types.specs.declared.message.Message.{Message}
use Rattle.run_rules.specs.HostMay.{HostMay}
use Rattle.run_rules.specs.HostTokens.{MayEvict}
use Rattle.run_rules.specs.Past.{In}
use Rattle.run_rules.specs.Steps.{IsNextLine, limit_of, lines_gone, lines_of, servers_of}
use Rattle.run_rules.specs.declared.applied.Leave.{Leave}
use Rattle.run_rules.specs.declared.applied.Why.TheVariants.{Stopped}
use Rattle.run_rules.specs.declared.step.Cause.TheVariants.{End, Line as LineOf}
use Rattle.run_rules.specs.declared.step.Step.{Step}
use Rattle.script_lines.specs.declared.script.Deed.TheVariants.{Stop}
use Rattle.script_lines.specs.declared.script.Line.{Line}
use Rattle.script_lines.specs.declared.script.Script.{Script}
use Rattle.std.specs.Prelude.{List, None, [], length, true, ℕ, ◌≡◌, ◌⊎◌}
use Rattle.token_types.specs.declared.token.Token.{Token}

-- all that it had has left: it says Bye to servers that it greeted
abbrev pub says_bye : HostId → List Message → Step
says_bye host sent = record (learning host End []) { sent = sent }

abbrev pub parted_from : Tables → List Site → Moved
parted_from m sites = record (moved_of m) { sites = sites }

pub record ByesFrom (m : Tables) (sites : List Site) (sent : List Message) : Type 0 where
  pub each : (y : Message) → In y sent → (y.epoch ≡ (site_at m.sites y.server).epoch) × (y.moves ≡ 0) × (y.body ≡ Bye)
      × ((site_at m.sites y.server).greeted ≡ true)
  -- and notes it
  pub noted : (v : ServerId) → site_at sites v ≡ site_at m.sites v
      ⊎ ((site_at sites v ≡ record (site_at m.sites v) { said_bye = true })
      × ((y : Message) × In y sent × (y.server ≡ v)))
  pub all : (y : Message) → In y sent → (site_at sites y.server).said_bye ≡ true

abbrev pub ByesRight : Type 0
ByesRight = (script : Script) (m : Tables) (sites : List Site) (past : List Step) (sent : List Message)
    → Rests script m past
    → m.call ≡ None → lines_gone past ≡ length (lines_of script (Host m.host))
    → (MayEvict past (limit_of script.roster m.host) → ⊥) → m.cache.held ≡ [] → m.gives.gives ≡ []
    → ByesFrom m sites sent
    → StepRight script m (with_moved m (parted_from m sites)) past (says_bye m.host sent)

-- it drops all that it holds, and says Down to each server
abbrev pub goes_down : HostId → ℕ → List Leave → List Message → Step
goes_down host line dropped sent = record (learning host (LineOf line) []) { dropped = dropped; sent = sent }

pub record DownFrom (script : Script) (m : Tables) (dropped : List Leave) (sent : List Message) : Type 0 where
  pub each : (y : Message) → In y sent → (y.epoch ≡ (site_at m.sites y.server).epoch) × (y.body ≡ Down)
  pub all : (v : ServerId) → In v (servers_of script.roster) → (y : Message) × In y sent × (y.server ≡ v)
  pub some : (y : Message) × In y sent
  pub drops : (d : Leave) → In d dropped → (d.why ≡ Stopped) × In d.token (held_of m)
  pub drops_all : (t : Token) → In t (held_of m) → (d : Leave) × In d dropped × (d.token ≡ t)

abbrev pub StopMay : Type 0
StopMay = (script : Script) (m : Tables) (past : List Step) (number : ℕ) (dropped : List Leave) (sent : List Message)
    → Rests script m past → IsFree m → (line : Line) → IsNextLine (lines_of script (Host m.host)) past number line
    → line.deed ≡ Stop → DownFrom script m dropped sent
    → HostMay script m.host past (goes_down m.host number dropped sent)
