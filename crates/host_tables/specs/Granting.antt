-- What a Grant that is used leaves of the tables.
use Rattle.run_rules.specs.Tokens.{HoldsId}
use Rattle.base_types.specs.Ids.{same_fid}
use Rattle.base_types.specs.declared.ids.Fid.{Fid}
use Rattle.base_types.specs.declared.ids.HostId.{HostId}
use Rattle.base_types.specs.declared.ids.ServerId.{ServerId}
use Rattle.base_types.specs.declared.limits.TheConstants.{FILE_BYTES_MAX}
use Rattle.host_cache.specs.Holding.{is_status, tokens_of}
use Rattle.host_cache.specs.declared.held.Held.{Held}
use Rattle.host_gives.specs.Giving.{is_of_file}
use Rattle.host_tables.specs.Half.{learning}
use Rattle.host_tables.specs.Tables.{content, floor_of, length_given, site_at}
use Rattle.host_tables.specs.declared.calls.Request.TheVariants.{Fetch as AFetch}
use Rattle.host_tables.specs.declared.tables.Tables.{Tables}
use Rattle.message_types.specs.declared.asking.Fetch.{Fetch as FetchOf}
use Rattle.message_types.specs.declared.message.Body.TheVariants.{Grant}
use Rattle.message_types.specs.declared.message.Direction.TheVariants.{ToHost}
use Rattle.message_types.specs.declared.message.Message.{Message}
use Rattle.message_types.specs.declared.telling.Grant.{Grant as GrantOf}
use Rattle.run_rules.specs.Messages.{stay_of}
use Rattle.run_rules.specs.Past.{In}
use Rattle.run_rules.specs.Views.{TakesStatus, is_shown, part_told}
use Rattle.run_rules.specs.declared.step.Cause.TheVariants.{Message as Came}
use Rattle.run_rules.specs.declared.step.Step.{Step}
use Rattle.script_lines.specs.Judge.{taken}
use Rattle.std.specs.List.{list_any}
use Rattle.std.specs.Prelude.{List, None, Some, false, if◌then◌else◌, true, ℕ, ◌++◌, ◌<◌, ◌↔◌, ◌≡◌, ◌≤◌}
use Rattle.token_types.specs.declared.token.Token.{Token}
use Rattle.tree_laws.specs.Parts.{Part}
use Rattle.tree_laws.specs.Parts.Part.{ByteAt}

abbrev pub granting : HostId → ServerId → ℕ → ℕ → GrantOf → Message
granting host server epoch moves g =
    record { direction = ToHost; host = host; server = server; epoch = epoch; moves = moves; body = Grant g }

abbrev pub grants : HostId → ServerId → ℕ → ℕ → GrantOf → List Token → Step
grants host server epoch moves g taken = learning host (Came (granting host server epoch moves g)) taken

-- The Grant is used: it is of the present epoch and stay, answers the outstanding Fetch above the floor of its file,
-- and
-- no give-back of that is on its way.
pub record IsUsed (m : Tables) (past : List Step) (server : ServerId) (epoch moves : ℕ) (g : GrantOf) : Type 0 where
  pub place_is : stay_of past g.bring.fid.fileset ≡ record { server = server; moves = moves }
  pub present : (site_at m.sites server).epoch ≡ epoch
  pub fetch : FetchOf
  pub asked : m.request ≡ Some (AFetch fetch)
  pub of_fileset : fetch.fid.fileset ≡ g.bring.fid.fileset
  pub number : fetch.number ≡ g.bring.number
  pub above : floor_of m.floors g.bring.fid < g.bring.stamp
  pub no_give : list_any (is_of_file g.bring.fid) m.gives.gives ≡ false

-- What is known of the tokens of a Grant that is sound: they are of its file, and below what a file can have; and which
-- of them are taken.
pub record BringsAnew (past : List Step) (g : GrantOf) (taken : List Token) : Type 0 where
  pub file : (t : Token) → In t g.bring.tokens → t.fid ≡ g.bring.fid
  pub zero : (at : ℕ) → FILE_BYTES_MAX ≤ at → part_told g (ByteAt at) ≡ 0
  -- those are taken whose numbers aren't held, and of one number one
  pub from : (t : Token) → In t taken → In t g.bring.tokens
  pub anew : (t : Token) → In t taken → HoldsId past t.id → ⊥
  pub all : (t : Token) → In t g.bring.tokens → (HoldsId past t.id → ⊥) → (u : Token) × In u taken × (u.id ≡ t.id)
  pub one : (t u : Token) → In t taken → In u taken → t.id ≡ u.id → t ≡ u

-- what becomes of the tables
pub record AfterGrant (m new : Tables) (g : GrantOf) (taken : List Token) (past : List Step) (s : Step) : Type 0 where
  pub host : new.host ≡ m.host
  pub user : new.user ≡ m.user
  pub limit : new.limit ≡ m.limit
  pub held : List Held
  pub front : new.cache.held ≡ held ++ m.cache.held
  pub taken_is : (t : Token) → In t (tokens_of held) ↔ In t taken
  pub unused : (h : Held) → In h held → (h.in_use ≡ false) × (is_status h.token.kind ≡ true → h.tells ≡ true)
  pub content_is : (fid : Fid) (part : Part)
      → content new.cache fid part ≡ (if is_shown s fid part then part_told g part else content m.cache fid part)
  pub dirty : new.dirty ≡ m.dirty
  -- a length that was given back counts no more where a token for update of the status is taken
  pub lengths : (fid : Fid) → (TakesStatus s fid → ⊥) → length_given new.lengths fid ≡ length_given m.lengths fid
  pub forgotten : (fid : Fid) → TakesStatus s fid → length_given new.lengths fid ≡ None
  pub uses : new.uses ≡ m.uses
  pub gives : new.gives ≡ m.gives
  pub leaving : new.leaving ≡ m.leaving
  pub ending : new.ending ≡ m.ending
  pub floors : (fid : Fid) → floor_of new.floors fid
      ≡ (if same_fid g.bring.fid fid then g.bring.stamp else floor_of m.floors fid)
  pub sites : new.sites ≡ m.sites
  pub request : new.request ≡ None
  pub fetched : new.fetched ≡ m.fetched
  pub changed : new.changed ≡ m.changed
  pub homes : new.homes ≡ m.homes
  pub call : new.call ≡ m.call
  pub lost : new.lost ≡ m.lost
  pub begun : new.begun ≡ m.begun
