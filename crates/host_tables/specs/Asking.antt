-- How a step asks for what the open call lacks, where all tokens stay.
use Rattle.std.specs.Prelude.{◌/◌, ◌↔◌, []}
use Rattle.std.specs.Prelude.{Bool}
use Rattle.run_rules.specs.Past.{In}
use Rattle.base_types.specs.declared.limits.TheConstants.{TOKEN_BYTES}
use Rattle.host_dirty.specs.Dirtiness.{is_dirty as is_dirty_in}
use Rattle.host_dirty.specs.declared.dirty.Dirty.{Dirty}
use Rattle.base_types.specs.declared.ids.Fid.{Fid}
use Rattle.base_types.specs.declared.ids.ServerId.{ServerId}
use Rattle.host_gives.specs.Giving.{is_of_file}
use Rattle.host_tables.specs.Answering.{AnswersNone}
use Rattle.host_tables.specs.Causes.{CauseMay}
use Rattle.host_tables.specs.Half.{half}
use Rattle.host_tables.specs.Stands.{IsLack, Stands, needs_from}
use Rattle.host_tables.specs.Tables.{content, held_of, last_fetch, site_at}
use Rattle.host_tables.specs.declared.tables.Tables.{Tables}
use Rattle.message_types.specs.declared.asking.Fetch.{Fetch as FetchOf}
use Rattle.message_types.specs.declared.message.Body.TheVariants.{Bye, Fetch, Grant}
use Rattle.message_types.specs.declared.message.Direction.TheVariants.{ToServer}
use Rattle.message_types.specs.declared.telling.Grant.{Grant as GrantOf}
use Rattle.need_host.specs.Walks.{root_of}
use Rattle.run_rules.specs.Messages.{About, HasSaid, stay_of}
use Rattle.run_rules.specs.HostMay.{HostMay}
use Rattle.run_rules.specs.HostAsks.{HasLost, NamesByte}
use Rattle.run_rules.specs.Tokens.{IsOpen, IsUseKind}
use Rattle.run_rules.specs.declared.step.Asked.{Asked}
use Rattle.run_rules.specs.declared.step.Step.{Step}
use Rattle.script_lines.specs.declared.script.Script.{Script}
use Rattle.std.specs.List.{list_any}
use Rattle.std.specs.Prelude.{List, None, Some, false, true, ℕ, ◌+◌, ◌∷◌, ◌≡◌}
use Rattle.token_types.specs.Covers.{Covers}
use Rattle.token_types.specs.declared.token.Kind.TheVariants.{Bytes, Status}
use Rattle.token_types.specs.declared.token.Need.{Need}
use Rattle.tree_calls.specs.declared.call.Call.{Call}
use Rattle.tree_laws.specs.Parts.{Nature}
use Rattle.tree_laws.specs.Parts.Part.{Traits}
use Rattle.tree_objects.specs.Spans.{whole}

-- something is dirty in the block of the position, by the tables
abbrev pub InDirtyBlockOf : Dirty → Fid → ℕ → Type 0
InDirtyBlockOf dirty fid at =
    (other : ℕ) × (other / TOKEN_BYTES ≡ at / TOKEN_BYTES) × (is_dirty_in dirty fid other ≡ true)

-- which status is asked of a file, where Revokes took the last token of that of these files
abbrev pub AsksStatusOf : List Fid → List Need → Fid → Bool → Type 0
AsksStatusOf lost needs fid true = In (record { fid = fid; kind = Status true }) needs
AsksStatusOf lost needs fid false = In fid lost × (In (record { fid = fid; kind = Status true }) needs → ⊥)

-- what is asked of a file whose status is held
pub record FileFrom (m : Tables) (lost : List Fid) (needs : List Need) (fid : Fid) (asked : List Need) : Type 0 where
  pub only : (n : Need) → In n asked → (n.fid ≡ fid) × (IsUseKind n.kind → ⊥)
  pub bytes : (update : Bool) (at : ℕ) → NamesByte asked fid update at
      → NamesByte needs fid update at × (InDirtyBlockOf m.dirty fid at → ⊥)
  pub bytes_all : (update : Bool) (at : ℕ) → NamesByte needs fid update at → (InDirtyBlockOf m.dirty fid at → ⊥)
      → NamesByte asked fid update at
  pub status : (update : Bool) → In (record { fid = fid; kind = Status update }) asked
      → AsksStatusOf lost needs fid update × (Covers (held_of m) (record { fid = fid; kind = Status true }) → ⊥)
  pub status_all : (update : Bool) → AsksStatusOf lost needs fid update
      → (Covers (held_of m) (record { fid = fid; kind = Status true }) → ⊥)
      → In (record { fid = fid; kind = Status update }) asked

-- what a Fetch asks for, by the tables
pub data FetchFrom (m : Tables) (lost : List Fid) (call : Call) (fid : Fid) (asked : List Need) : Type 0 where
  OfRoot : fid ≡ root_of fid.fileset
      → asked ≡ record { fid = fid; kind = Status false } ∷ record { fid = fid; kind = Bytes false whole } ∷ []
      → FetchFrom m lost call fid asked
  OfKnown : (nature : Nature) → Covers (held_of m) (record { fid = fid; kind = Status false })
      → content m.cache fid Traits ≡ Some nature → nature.dir ≡ true
      → asked ≡ record { fid = fid; kind = Status false } ∷ record { fid = fid; kind = Bytes false whole } ∷ []
      → FetchFrom m lost call fid asked
  OfNone : (fid ≡ root_of fid.fileset → ⊥) → (Covers (held_of m) (record { fid = fid; kind = Status false }) → ⊥)
      → asked ≡ record { fid = fid; kind = Status false } ∷ [] → FetchFrom m lost call fid asked
  OfPlain : (fid ≡ root_of fid.fileset → ⊥) → Covers (held_of m) (record { fid = fid; kind = Status false })
      → ((nature : Nature) → content m.cache fid Traits ≡ Some nature → nature.dir ≡ true → ⊥)
      → FileFrom m lost (needs_from m call) fid asked → FetchFrom m lost call fid asked

-- the open call asks for tokens by one Fetch
pub record AsksFetch (m : Tables) (past : List Step) (s : Step) (c : Asked) (v : ServerId) (n : ℕ) (f : FetchOf)
    : Type 0 where
  pub sent : s.sent ≡ record {
    direction = ToServer;
    host = m.host;
    server = v;
    epoch = (site_at m.sites v).epoch;
    moves = n;
    body = Fetch f;
  } ∷ []
  pub made : s.made ≡ []
  pub dropped : s.dropped ≡ []
  pub idle : m.request ≡ None
  pub is_open : IsOpen (s ∷ past) c
  pub only : (other : Asked) → IsOpen (s ∷ past) other → other ≡ c
  pub none : AnswersNone m past s
  pub number : f.number ≡ last_fetch m.fetched f.fid.fileset + 1
  pub need : Need
  pub lack : IsLack m c.call need
  pub kind : IsUseKind need.kind → ⊥
  pub file : need.fid ≡ f.fid
  pub no_give : list_any (is_of_file f.fid) m.gives.gives ≡ false
  pub place_is : stay_of past f.fid.fileset ≡ record { server = v; moves = n }
  pub welcome : (site_at m.sites v).welcome ≡ true
  pub no_bye : (w : ServerId) → HasSaid past w Bye → ⊥
  -- what Revokes took since the call was begun
  pub lost : List Fid
  pub lost_is : (fid : Fid) → In fid lost ↔ HasLost (s ∷ past) fid
  pub needs : FetchFrom m lost c.call f.fid f.needs
  -- its number isn't that of the message that came
  pub fresh : (g : GrantOf) → About past s f.fid.fileset (Grant g) → g.bring.number ≡ f.number → ⊥

abbrev pub FetchesMay : Type 0
FetchesMay = (script : Script) (m : Tables) (past : List Step) (s : Step) (learnt : Stands script m (half s ∷ past))
    (c : Asked) (v : ServerId) (n : ℕ) (f : FetchOf) → AsksFetch m past s c v n f → CauseMay script m.host past s
    → HostMay script m.host past s
