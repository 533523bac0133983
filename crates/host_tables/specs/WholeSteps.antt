-- Whole steps in which all tokens stay: by a message, at a lapse, and by a line that begins a call.
use Rattle.base_types.specs.declared.ids.HostId.{HostId}
use Rattle.base_types.specs.declared.ids.ServerId.{ServerId}
use Rattle.host_tables.specs.AsksByLine.{begun_call}
use Rattle.host_tables.specs.AtOnce.{IsFree, IsNextCall}
use Rattle.host_tables.specs.Half.{half, learning}
use Rattle.host_tables.specs.Lapsing.{lapses}
use Rattle.host_tables.specs.Learning.{TeachesNothing}
use Rattle.host_tables.specs.Machine.{Rests, StepRight}
use Rattle.host_tables.specs.Quiet.{IsQuiet, Moved, with_moved}
use Rattle.host_tables.specs.QuietStep.{IsOfTables}
use Rattle.host_tables.specs.Saying.{IsFirst, SaysAgain}
use Rattle.host_tables.specs.Sending.{MaySend}
use Rattle.host_tables.specs.Stands.{IsAtRest, NumbersStand, RequestStands, Stands}
use Rattle.host_tables.specs.Tables.{held_of, site_at}
use Rattle.host_tables.specs.declared.tables.Tables.{Tables}
use Rattle.message_types.specs.declared.giving.Give.{Give}
use Rattle.message_types.specs.declared.giving.Reclaim.{Reclaim as ReclaimOf}
use Rattle.message_types.specs.declared.giving.Reclaimed.{Reclaimed as ReclaimedOf}
use Rattle.message_types.specs.declared.message.Body.TheVariants.{Bye, GiveBack, Hello, Reclaim, Reclaimed}
use Rattle.message_types.specs.declared.message.Message.{Message}
use Rattle.message_types.specs.declared.telling.Bring.{Bring}
use Rattle.run_rules.specs.HostMay.{ClaimsAt}
use Rattle.run_rules.specs.HostTokens.{HostTakes}
use Rattle.run_rules.specs.Messages.{Comes, ReturnsToken, Says, SendsTo, stay_of}
use Rattle.run_rules.specs.Past.{In}
use Rattle.run_rules.specs.Tokens.{HoldsId, Uses}
use Rattle.run_rules.specs.Views.{Stance}
use Rattle.run_rules.specs.declared.step.Cause.TheVariants.{Line as LineOf, Message as Came}
use Rattle.run_rules.specs.declared.step.Step.{Step}
use Rattle.script_lines.specs.declared.script.Script.{Script}
use Rattle.std.specs.Prelude.{List, None, Some, [], true, ℕ, ◌+◌, ◌↔◌, ◌∷◌, ◌≡◌, ◌⊎◌}
use Rattle.token_types.specs.declared.token.Token.{Token}
use Rattle.tree_calls.specs.declared.call.Call.{Call}

-- what becomes of what is known of servers, and said to them
pub record SitesMove (m : Tables) (x : Moved) (past : List Step) (s : Step) : Type 0 where
  pub epoch : (v : ServerId) → (site_at x.sites v).epoch ≡ (site_at m.sites v).epoch
  pub welcome : (v : ServerId) → (site_at x.sites v).welcome ≡ (site_at m.sites v).welcome
  pub has_bye : (v : ServerId) → (site_at x.sites v).has_bye ≡ (site_at m.sites v).has_bye
  pub greeted : (v : ServerId) → (site_at x.sites v).greeted ≡ true
      ↔ (((site_at m.sites v).greeted ≡ true) ⊎ Says s v Hello)
  pub said_bye : (v : ServerId) → (site_at x.sites v).said_bye ≡ true
      ↔ (((site_at m.sites v).said_bye ≡ true) ⊎ Says s v Bye)
  pub claimed : (v : ServerId) → (site_at x.sites v).claimed ≡ true
      ↔ (((site_at m.sites v).claimed ≡ true) ⊎ ClaimsAt s v)
  pub claims_apart : (v : ServerId) (a : ReclaimedOf) → ClaimsAt s v → Comes past s v (Reclaimed a) → ⊥
  -- a Bye is said again alone, and after one nothing is asked
  pub bye_again : (v : ServerId) → Says s v Bye → (site_at m.sites v).said_bye ≡ true
  pub bye_idle : (v : ServerId) → (site_at m.sites v).said_bye ≡ true → x.request ≡ None

-- the step is a host's by a message, and begins no call
pub record ByMessage (old m : Tables) (x : Moved) (past : List Step) (s : Step) (message : Message) : Type 0 where
  pub cause : s.cause ≡ Came message
  pub asked : s.asked ≡ None
  pub applies_none : (s.applied ≡ []) × (s.admitted ≡ []) × (s.reserved ≡ [])
  pub call : x.call ≡ m.call
  pub begun : x.begun ≡ m.begun
  pub lost : x.lost ≡ m.lost
  pub takes : (t : Token) → In t s.taken
      → (w : Bring) × Uses past s w × In t w.tokens × (t.fid ≡ w.fid) × (HoldsId past t.id → ⊥)
  pub takes_all : HostTakes past s
  -- a give-back that became the first of its fileset is sent
  pub due : (g : Give) → IsFirst m.gives g → (IsFirst old.gives g → ⊥)
      → SendsTo s (stay_of (s ∷ past) g.fid.fileset) (GiveBack g)

-- what each message of the step owes
abbrev pub SentMay : Script → Tables → List Step → Step → Type 0
SentMay script m past s = (stance : Stance script.roster m.host past s) → IsOfTables script.roster m past s stance
    → (y : Message) → In y s.sent → MaySend script.roster m.host past s stance y

abbrev pub MessageRight : Type 0
MessageRight = (script : Script) (old m : Tables) (x : Moved) (past : List Step) (s : Step) (message : Message)
    → Stands script old past → old.host ≡ m.host → Stands script m (half s ∷ past) → IsQuiet s
    → ByMessage old m x past s message → SitesMove m x past s
    → RequestStands x.request (s ∷ past) → NumbersStand x.fetched x.changed (s ∷ past)
    → ((t : Token) → In t (held_of m) → ReturnsToken s t.id → ⊥) → SentMay script m past s
    → IsAtRest (with_moved m x) (s ∷ past) → StepRight script old (with_moved m x) past s

-- all that is outstanding is said again, and nothing changes
abbrev pub moved_of : Tables → Moved
moved_of m = record {
  sites = m.sites;
  request = m.request;
  fetched = m.fetched;
  changed = m.changed;
  lost = m.lost;
  call = m.call;
  begun = m.begun;
}

pub record RepeatsFrom (m : Tables) (past : List Step) (s : Step) (y : Message) : Type 0 where
  pub epoch : y.epoch ≡ (site_at m.sites y.server).epoch
  pub no_moves : y.moves ≡ 0
  pub why : SaysAgain m (moved_of m) past s y.server y.body
  -- a Hello goes again where the host has greeted
  pub greeted : y.body ≡ Hello → (site_at m.sites y.server).greeted ≡ true

abbrev pub LapseRight : Type 0
LapseRight = (script : Script) (m : Tables) (past : List Step) (sent : List Message) → Rests script m past
    → ((y : Message) → In y sent → RepeatsFrom m past (lapses m.host sent) y)
    → StepRight script m m past (lapses m.host sent)

-- By a message, after which the host only says again what is outstanding, and claims nothing: whatever it learns and
-- takes by the message.
abbrev pub hears_says : HostId → Message → List Token → List Message → Step
hears_says host message taken sent = record (learning host (Came message) taken) { sent = sent }

pub record TakesRight (past : List Step) (s : Step) : Type 0 where
  pub takes : (t : Token) → In t s.taken
      → (w : Bring) × Uses past s w × In t w.tokens × (t.fid ≡ w.fid) × (HoldsId past t.id → ⊥)
  pub takes_all : HostTakes past s

abbrev pub HeardRight : Type 0
HeardRight = (script : Script) (old m : Tables) (past : List Step) (message : Message) (taken : List Token)
    (sent : List Message) → Stands script old past → old.host ≡ m.host
    → Stands script m (learning m.host (Came message) taken ∷ past)
    → TakesRight past (hears_says m.host message taken sent)
    → ((y : Message) → In y sent → RepeatsFrom m past (hears_says m.host message taken sent) y)
    → ((y : Message) → In y sent → (c : ReclaimOf) → y.body ≡ Reclaim c → ⊥)
    → ((g : Give) → IsFirst m.gives g → (IsFirst old.gives g → ⊥)
    → SendsTo (hears_says m.host message taken sent)
    (stay_of (hears_says m.host message taken sent ∷ past) g.fid.fileset) (GiveBack g))
    → IsAtRest m (hears_says m.host message taken sent ∷ past)
    → StepRight script old m past (hears_says m.host message taken sent)

-- a line begins a call, which is left open
abbrev pub begins_line : Tables → ℕ → Call → List Message → Step
begins_line m line call sent = record (learning m.host (LineOf line) []) {
  asked = Some (begun_call m call);
  sent = sent;
}

pub record BeginsOpen (m : Tables) (x : Moved) (call : Call) : Type 0 where
  pub open_is : x.call ≡ Some (begun_call m call)
  pub begun : x.begun ≡ m.begun + 1
  pub lost : x.lost ≡ []

abbrev pub LineBeginsRight : Type 0
LineBeginsRight = (script : Script) (m : Tables) (x : Moved) (past : List Step) (line : ℕ) (call : Call)
    (sent : List Message)
    → Rests script m past → IsFree m → IsNextCall script m.host past line call → BeginsOpen m x call
    → IsQuiet (begins_line m line call sent) → SitesMove m x past (begins_line m line call sent)
    → ((v : ServerId) → (site_at m.sites v).said_bye ≡ true → ⊥)
    → RequestStands x.request (begins_line m line call sent ∷ past)
    → NumbersStand x.fetched x.changed (begins_line m line call sent ∷ past)
    → ((t : Token) → In t (held_of m) → ReturnsToken (begins_line m line call sent) t.id → ⊥)
    → SentMay script m past (begins_line m line call sent)
    → IsAtRest (with_moved m x) (begins_line m line call sent ∷ past)
    → StepRight script m (with_moved m x) past (begins_line m line call sent)

-- a host at rest rests on, where nothing is learnt and done
abbrev pub RestStays : Type 0
RestStays = (script : Script) (m : Tables) (past : List Step) (s : Step) → Stands script m past → IsAtRest m past
    → IsQuiet s
    → s.asked ≡ None → TeachesNothing past s → IsAtRest m (s ∷ past)
