-- Whole steps in which tokens leave: any; and those of a host that evicts, or ends, with no call open.
use Rattle.base_types.specs.declared.ids.Fid.{Fid}
use Rattle.base_types.specs.declared.ids.HostId.{HostId}
use Rattle.base_types.specs.declared.ids.Node.TheVariants.{Host}
use Rattle.base_types.specs.declared.ids.ServerId.{ServerId}
use Rattle.host_cache.specs.Holding.{tokens_of}
use Rattle.host_cache.specs.declared.held.Held.{Held}
use Rattle.host_gives.specs.Giving.{names}
use Rattle.host_tables.specs.Causes.{CauseMay}
use Rattle.host_tables.specs.Giving.{GivesBack}
use Rattle.host_tables.specs.Half.{half, learning}
use Rattle.host_tables.specs.LeavingSteps.{IsSilent, LeavesRight, Left, with_left}
use Rattle.host_tables.specs.Letting.{IsAsked, Keeping}
use Rattle.host_tables.specs.Machine.{Rests, StepRight}
use Rattle.host_tables.specs.Quiet.{Moved, MovesRight, with_moved}
use Rattle.host_tables.specs.Saying.{IsFirst}
use Rattle.host_tables.specs.Sending.{MaySend}
use Rattle.host_tables.specs.Stands.{CanReply, GivesStand, IsAtRest, Stands}
use Rattle.host_tables.specs.Tables.{held_of, own_of, site_at}
use Rattle.host_tables.specs.declared.tables.Tables.{Tables}
use Rattle.message_types.specs.declared.giving.Ends.{Ends}
use Rattle.message_types.specs.declared.giving.Give.{Give}
use Rattle.message_types.specs.declared.message.Body.{Body}
use Rattle.message_types.specs.declared.message.Body.TheVariants.{GiveBack, Returned}
use Rattle.message_types.specs.declared.message.Message.{Message}
use Rattle.message_types.specs.declared.tokens.Named.{Named}
use Rattle.run_rules.specs.HostTokens.{IsOldest, IsUnused, MayEvict, MayLeave, OwnsUpdate}
use Rattle.run_rules.specs.Messages.{SendsTo, home, stay_of}
use Rattle.run_rules.specs.Past.{In}
use Rattle.run_rules.specs.Steps.{limit_of, lines_gone, lines_of}
use Rattle.run_rules.specs.Tokens.{HasCall, NoneUsed}
use Rattle.run_rules.specs.Views.{Stance, is_dirty}
use Rattle.run_rules.specs.declared.applied.Leave.{Leave}
use Rattle.run_rules.specs.declared.applied.Why.TheVariants.{Ended, Evicted}
use Rattle.run_rules.specs.declared.step.Cause.{Cause}
use Rattle.run_rules.specs.declared.step.Cause.TheVariants.{End, Evict}
use Rattle.run_rules.specs.declared.step.Step.{Step}
use Rattle.script_lines.specs.declared.script.Script.{Script}
use Rattle.std.specs.List.{list_any}
use Rattle.std.specs.Prelude.{List, None, Some, [], false, length, true, ℕ, ◌∷◌, ◌≡◌}
use Rattle.token_types.specs.declared.token.Token.{Token}
use Rattle.token_types.specs.declared.token.TokenId.{TokenId}
use Rattle.tree_calls.specs.declared.call.Call.{Call}

abbrev pub LeavingRight : Type 0
LeavingRight = (script : Script) (old m : Tables) (l : Left) (x : Moved) (past : List Step) (s : Step)
    → old.host ≡ m.host
    → ((fid : Fid) (at : ℕ) → is_dirty past fid at ≡ true → OwnsUpdate past fid at)
    → Stands script m (half s ∷ past) → IsSilent s → LeavesRight m l past s
    → Keeping m past s (tokens_of l.cache.held) → GivesBack m past s (tokens_of l.cache.held) → MovesRight m x past s
    → ((k : ℕ) (call : Call) → HasCall past s k call → CanReply m call → ⊥) → CauseMay script m.host past s
    → ((d : Leave) → In d s.dropped → MayLeave script.roster m.host (limit_of script.roster m.host) past s d.why
    d.token)
    → ((stance : Stance script.roster m.host past s) → stance.kept ≡ tokens_of l.cache.held → stance.held ≡ held_of m
    → stance.own ≡ own_of m → stance.user ≡ m.user
    → ((y : Message) → In y s.sent → MaySend script.roster m.host past s stance y)
    × IsAsked script.roster m.host past s stance)
    → IsAtRest (with_moved (with_left m l) x) (s ∷ past) → StepRight script old (with_moved (with_left m l) x) past s

-- the give-backs stand after the step
abbrev pub GivesAfter : Type 0
GivesAfter = (script : Script) (m : Tables) (l : Left) (past : List Step) (s : Step) → Stands script m (half s ∷ past)
    → LeavesRight m l past s → GivesBack m past s (tokens_of l.cache.held) → GivesStand l.gives (s ∷ past)

-- # With no call open

-- a token with this number is held and not in use
abbrev pub IsIdleHere : Tables → TokenId → Type 0
IsIdleHere m i = (h : Held) × In h m.cache.held × (h.token.id ≡ i) × (h.in_use ≡ false)

-- what is said of tokens that leave: those that aren't given back are returned, by files; and what is outstanding then
pub data SaysLeft (m : Tables) (l : Left) (s : Step) (v : ServerId) : Body → Type 0 where
  OfReturned : (w : Named) → home w.fid.fileset ≡ v
      → ((i : TokenId) → In i w.ids → IsIdleHere m i × (list_any (names i) m.gives.gives ≡ false)
      × ((g : Give) → In g s.made → In i g.ids → ⊥))
      → ((t : Token) → In t (held_of m) → In t.id w.ids → t.fid ≡ w.fid) → SaysLeft m l s v (Returned w)
  OfGiven : (g : Give) → IsFirst l.gives g → home g.fid.fileset ≡ v → SaysLeft m l s v (GiveBack g)

abbrev pub leaves_own : HostId → Cause → List Give → List Leave → List Message → Step
leaves_own host cause made dropped sent =
    record (learning host cause []) { made = made; dropped = dropped; sent = sent }

-- why a host makes such a step: it evicts, or it ends
pub data OwnReason (script : Script) (m : Tables) (past : List Step) (dropped : List Leave) : Cause → Type 0 where
  ToEvict : ((d : Leave) → In d dropped → (d.why ≡ Evicted) × MayEvict past (limit_of script.roster m.host)
      × IsUnused past d.token × IsOldest script.roster m.host past d.token) → OwnReason script m past dropped Evict
  ToEnd : lines_gone past ≡ length (lines_of script (Host m.host)) → (MayEvict past (limit_of script.roster m.host) → ⊥)
      → NoneUsed past → ((d : Leave) → In d dropped → d.why ≡ Ended) → OwnReason script m past dropped End

abbrev pub OwnLeavesRight : Type 0
OwnLeavesRight = (script : Script) (m : Tables) (l : Left) (past : List Step) (cause : Cause) (made : List Give)
    (dropped : List Leave) (sent : List Message) → let s = leaves_own m.host cause made dropped sent in
    Rests script m past → m.call ≡ None → OwnReason script m past dropped cause
    → LeavesRight m l past s → Keeping m past s (tokens_of l.cache.held) → GivesBack m past s (tokens_of l.cache.held)
    → ((g : Give) (ends : Ends) → In g made → g.ends ≡ Some ends → ⊥)
    → ((y : Message) → In y sent → (y.epoch ≡ (site_at m.sites y.server).epoch) × (y.moves ≡ 0)
    × SaysLeft m l s y.server y.body)
    → ((g : Give) → IsFirst l.gives g → (IsFirst m.gives g → ⊥) → SendsTo s (stay_of (s ∷ past) g.fid.fileset)
    (GiveBack g))
    → ((v : ServerId) → (site_at m.sites v).said_bye ≡ true → ⊥)
    → StepRight script m (with_left m l) past s
