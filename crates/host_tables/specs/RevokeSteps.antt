-- Whole steps by a Revoke, whatever tokens it names: those in use are kept, and any other that is held leaves, each
-- under
-- its own file; what is in a give-back is given again, and all others are returned.
use Rattle.base_types.specs.Ids.{same_fid}
use Rattle.base_types.specs.declared.ids.Fid.{Fid}
use Rattle.base_types.specs.declared.ids.ServerId.{ServerId}
use Rattle.host_cache.specs.Holding.{tokens_of}
use Rattle.host_cache.specs.declared.held.Held.{Held}
use Rattle.host_tables.specs.Giving.{GivesBack}
use Rattle.host_tables.specs.Hearing.{hears}
use Rattle.host_tables.specs.LeavingSteps.{LeavesRight, Left, with_left}
use Rattle.host_tables.specs.Letting.{IsAsked, Keeping}
use Rattle.host_tables.specs.Machine.{Rests, StepRight}
use Rattle.host_tables.specs.Quiet.{with_moved}
use Rattle.host_tables.specs.Revoking.{InUseHere, Returnable, revokes}
use Rattle.host_tables.specs.Saying.{IsFirst}
use Rattle.host_tables.specs.Stands.{IsAtRest, LostStands, Stands}
use Rattle.host_tables.specs.Tables.{floor_of, held_of, own_of, site_at}
use Rattle.host_tables.specs.WholeSteps.{moved_of}
use Rattle.host_tables.specs.declared.files.Floor.{Floor}
use Rattle.host_tables.specs.declared.tables.Tables.{Tables}
use Rattle.message_types.specs.declared.giving.Give.{Give}
use Rattle.message_types.specs.declared.message.Body.{Body}
use Rattle.message_types.specs.declared.message.Body.TheVariants.{GiveBack, Kept as KeptBody, Returned, Revoke}
use Rattle.message_types.specs.declared.message.Message.{Message}
use Rattle.message_types.specs.declared.tokens.Named.{Named}
use Rattle.message_types.specs.declared.tokens.Revoke.{Revoke as RevokeOf}
use Rattle.run_rules.specs.Messages.{SendsTo, home, stay_of}
use Rattle.run_rules.specs.Past.{In}
use Rattle.run_rules.specs.Views.{Stance}
use Rattle.run_rules.specs.declared.applied.Leave.{Leave}
use Rattle.run_rules.specs.declared.applied.Why.TheVariants.{Revoked}
use Rattle.run_rules.specs.declared.step.Step.{Step}
use Rattle.script_lines.specs.declared.script.Script.{Script}
use Rattle.std.specs.Prelude.{List, if◌then◌else◌, max, true, ℕ, ◌∷◌, ◌≡◌}
use Rattle.token_types.specs.declared.token.Token.{Token}
use Rattle.token_types.specs.declared.token.TokenId.{TokenId}

-- it counts: it is of the present epoch and stay of its file
pub record RevokeCounts (m : Tables) (past : List Step) (server : ServerId) (epoch moves : ℕ) (r : RevokeOf) : Type 0
  where
    pub place_is : stay_of past r.fid.fileset ≡ record { server = server; moves = moves }
    pub present : (site_at m.sites server).epoch ≡ epoch

abbrev pub Raises : List Floor → List Floor → RevokeOf → Type 0
Raises old new r = (fid : Fid) → floor_of new fid
    ≡ (if same_fid r.fid fid then max (floor_of old fid) r.stamp else floor_of old fid)

-- what a host has learnt by it: its floor
abbrev pub RevokeStands : Type 0
RevokeStands = (script : Script) (m : Tables) (past : List Step) (server : ServerId) (epoch moves : ℕ) (r : RevokeOf)
    (floors : List Floor) → Stands script m past → RevokeCounts m past server epoch moves r → Raises m.floors floors r
    → Stands script (record m { floors = floors }) (hears m.host server epoch moves (Revoke r) ∷ past)

-- what is said of the tokens that it names
pub data SaysRevoked (m : Tables) (l : Left) (r : RevokeOf) (made : List Give) (v : ServerId) : Body → Type 0 where
  BackReturned : (w : Named) → home w.fid.fileset ≡ v
      → ((i : TokenId) → In i w.ids → In i r.ids × Returnable m made i)
      → ((t : Token) → In t (held_of m) → In t.id w.ids → t.fid ≡ w.fid) → SaysRevoked m l r made v (Returned w)
  BackKept : (w : Named) → home w.fid.fileset ≡ v
      → ((i : TokenId) → In i w.ids → In i r.ids × ((h : Held) × In h m.cache.held × (h.token.id ≡ i)
      × (h.in_use ≡ true)
      × In h.token (tokens_of l.cache.held)))
      → ((t : Token) → In t (held_of m) → In t.id w.ids → t.fid ≡ w.fid) → SaysRevoked m l r made v (KeptBody w)
  BackGiven : (g : Give) → IsFirst l.gives g → home g.fid.fileset ≡ v → SaysRevoked m l r made v (GiveBack g)

abbrev pub RevokeStepRight : Type 0
RevokeStepRight = (script : Script) (old : Tables) (past : List Step) (server : ServerId) (epoch moves : ℕ)
    (r : RevokeOf)
    (made : List Give) (dropped : List Leave) (sent : List Message) (floors : List Floor) (l : Left) (lost : List Fid)
    → let s = revokes old.host server epoch moves r made dropped sent in let m : Tables =
    record old { floors = floors } in
    Rests script old past → RevokeCounts old past server epoch moves r → Raises old.floors floors r
    → LeavesRight m l past s → Keeping m past s (tokens_of l.cache.held) → GivesBack m past s (tokens_of l.cache.held)
    → ((d : Leave) → In d dropped → (d.why ≡ Revoked) × In d.token.id r.ids × (InUseHere old d.token.id → ⊥))
    → ((y : Message) → In y sent → (y.epoch ≡ (site_at old.sites y.server).epoch) × (y.moves ≡ 0)
    × SaysRevoked old l r made y.server y.body)
    → ((g : Give) → IsFirst l.gives g → (IsFirst old.gives g → ⊥) → SendsTo s (stay_of (s ∷ past) g.fid.fileset)
    (GiveBack g))
    → ((stance : Stance script.roster old.host past s) → stance.kept ≡ tokens_of l.cache.held → stance.held
    ≡ held_of old
    → stance.own ≡ own_of old → stance.user ≡ old.user → IsAsked script.roster old.host past s stance)
    → LostStands lost old.call (s ∷ past)
    → IsAtRest (with_moved (with_left m l) (record (moved_of m) { lost = lost })) (s ∷ past)
    → StepRight script old (with_moved (with_left m l) (record (moved_of m) { lost = lost })) past s
