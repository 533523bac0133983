-- What a Done that is used leaves of the tables: it brings tokens of locks and open files.
use Rattle.base_types.specs.Ids.{same_fid}
use Rattle.base_types.specs.declared.ids.Fid.{Fid}
use Rattle.base_types.specs.declared.ids.ServerId.{ServerId}
use Rattle.host_cache.specs.Holding.{tokens_of}
use Rattle.host_cache.specs.declared.held.Held.{Held}
use Rattle.host_gives.specs.Giving.{is_of_file}
use Rattle.host_tables.specs.Half.{learning}
use Rattle.host_tables.specs.HeardDone.{AnswersChange, NotesHome, call_after}
use Rattle.host_tables.specs.Hearing.{saying}
use Rattle.host_tables.specs.Stands.{Stands}
use Rattle.host_tables.specs.Tables.{content, floor_of}
use Rattle.host_tables.specs.declared.tables.Tables.{Tables}
use Rattle.message_types.specs.declared.message.Body.TheVariants.{Done}
use Rattle.message_types.specs.declared.telling.Bring.{Bring}
use Rattle.message_types.specs.declared.telling.Done.{Done as DoneOf}
use Rattle.run_rules.specs.Messages.{home}
use Rattle.run_rules.specs.Past.{In}
use Rattle.run_rules.specs.Tokens.{BringsUses, HoldsId}
use Rattle.run_rules.specs.declared.step.Cause.TheVariants.{Message as Came}
use Rattle.run_rules.specs.declared.step.Step.{Step}
use Rattle.script_lines.specs.declared.script.Script.{Script}
use Rattle.std.specs.List.{list_any}
use Rattle.std.specs.Prelude.{List, None, false, if◌then◌else◌, ℕ, ◌++◌, ◌<◌, ◌↔◌, ◌∷◌, ◌≡◌}
use Rattle.token_types.specs.declared.token.Token.{Token}
use Rattle.tree_laws.specs.Parts.{Part}

-- The Done is used: it brings such tokens alone, on a file at its server, is above the floor of the file, and no
-- give-back
-- of that is on its way.
pub record UsesDone (m : Tables) (server : ServerId) (w : Bring) : Type 0 where
  pub kinds : BringsUses w
  pub at : home w.fid.fileset ≡ server
  pub above : floor_of m.floors w.fid < w.stamp
  pub no_give : list_any (is_of_file w.fid) m.gives.gives ≡ false

-- Its tokens are of its file, as those of a sound Done are. Those are taken whose numbers aren't held, and of one
-- number
-- one.
pub record TakesAnew (past : List Step) (w : Bring) (taken : List Token) : Type 0 where
  pub file : (t : Token) → In t w.tokens → t.fid ≡ w.fid
  pub from : (t : Token) → In t taken → In t w.tokens
  pub anew : (t : Token) → In t taken → HoldsId past t.id → ⊥
  pub all : (t : Token) → In t w.tokens → (HoldsId past t.id → ⊥) → (u : Token) × In u taken × (u.id ≡ t.id)
  pub one : (t u : Token) → In t taken → In u taken → t.id ≡ u.id → t ≡ u

-- what becomes of the tables
pub record AfterDone (m new : Tables) (d : DoneOf) (taken : List Token) : Type 0 where
  pub host : new.host ≡ m.host
  pub user : new.user ≡ m.user
  pub limit : new.limit ≡ m.limit
  pub held : List Held
  pub front : new.cache.held ≡ held ++ m.cache.held
  pub taken_is : (t : Token) → In t (tokens_of held) ↔ In t taken
  pub unused : (h : Held) → In h held → h.in_use ≡ false
  pub content_is : (fid : Fid) (part : Part) → content new.cache fid part ≡ content m.cache fid part
  pub dirty : new.dirty ≡ m.dirty
  pub lengths : new.lengths ≡ m.lengths
  pub uses : new.uses ≡ m.uses
  pub gives : new.gives ≡ m.gives
  pub leaving : new.leaving ≡ m.leaving
  pub ending : new.ending ≡ m.ending
  pub floors : (fid : Fid) → floor_of new.floors fid
      ≡ (if same_fid d.bring.fid fid then d.bring.stamp else floor_of m.floors fid)
  pub sites : new.sites ≡ m.sites
  pub request : new.request ≡ None
  pub fetched : new.fetched ≡ m.fetched
  pub changed : new.changed ≡ m.changed
  pub call : new.call ≡ call_after d.outcome m.call
  pub lost : new.lost ≡ m.lost
  pub begun : new.begun ≡ m.begun

abbrev pub UsedDoneStands : Type 0
UsedDoneStands = (script : Script) (m new : Tables) (past : List Step) (server : ServerId) (epoch moves : ℕ)
    (d : DoneOf)
    (taken : List Token) → Stands script m past → (answers : AnswersChange m server epoch moves d)
    → NotesHome m.homes new.homes answers.change d.outcome → UsesDone m server d.bring → TakesAnew past d.bring taken
    → AfterDone m new d taken
    → Stands script new (learning m.host (Came (saying m.host server epoch moves (Done d))) taken ∷ past)
