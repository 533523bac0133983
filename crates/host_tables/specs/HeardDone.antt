-- What a Done that answers the outstanding Change leaves of the tables.
use Rattle.base_types.specs.declared.ids.FilesetId.{FilesetId}
use Rattle.base_types.specs.declared.ids.ServerId.{ServerId}
use Rattle.host_gives.specs.Giving.{is_of_file}
use Rattle.host_tables.specs.Hearing.{heard_of, hears, with_heard}
use Rattle.host_tables.specs.Stands.{Stands}
use Rattle.host_tables.specs.Tables.{floor_of, home_of, site_at}
use Rattle.host_tables.specs.declared.calls.Home.{Home}
use Rattle.host_tables.specs.declared.calls.Request.TheVariants.{Change as AChange}
use Rattle.host_tables.specs.declared.tables.Tables.{Tables}
use Rattle.message_types.specs.declared.asking.Change.{Change as ChangeOf}
use Rattle.message_types.specs.declared.message.Body.TheVariants.{Done}
use Rattle.message_types.specs.declared.telling.Bring.{Bring}
use Rattle.message_types.specs.declared.telling.Done.{Done as DoneOf}
use Rattle.message_types.specs.declared.telling.DoneIs.{DoneIs}
use Rattle.message_types.specs.declared.telling.DoneIs.TheVariants.{Known as IsFileset, Reply as HasReply}
use Rattle.need_host.specs.Questions.{fileset_of}
use Rattle.run_rules.specs.Messages.{home}
use Rattle.run_rules.specs.Tokens.{BringsUses}
use Rattle.run_rules.specs.declared.step.Asked.{Asked}
use Rattle.run_rules.specs.declared.step.Step.{Step}
use Rattle.script_lines.specs.declared.script.Script.{Script}
use Rattle.std.specs.List.{list_any}
use Rattle.std.specs.Prelude.{List, None, Option, Some, false, true, ℕ, ◌<◌, ◌∷◌, ◌≡◌}

pub record AnswersChange (m : Tables) (server : ServerId) (epoch moves : ℕ) (d : DoneOf) : Type 0 where
  pub present : (site_at m.sites server).epoch ≡ epoch
  pub no_moves : moves ≡ 0
  pub change : ChangeOf
  pub asked : m.request ≡ Some (AChange server change)
  pub of_fileset : change.fileset ≡ d.fileset
  pub number : change.number ≡ d.bring.number

-- the number of the fileset that the Change enters is noted
pub data NotesHome (old new : List Home) (c : ChangeOf) (outcome : DoneIs) : Type 0 where
  NotesNone : ((w : ServerId) (name : List ℕ) (id : FilesetId) → c.enter ≡ true → fileset_of c.call ≡ Some (w, name)
      → outcome ≡ IsFileset id → ⊥) → new ≡ old → NotesHome old new c outcome
  NotesOne : (w : ServerId) (name : List ℕ) (id : FilesetId) → c.enter ≡ true → fileset_of c.call ≡ Some (w, name)
      → outcome ≡ IsFileset id → home_of new w name ≡ Some id
      → ((v : ServerId) (other : List ℕ) → (v ≡ w → other ≡ name → ⊥) → home_of new v other ≡ home_of old v other)
      → NotesHome old new c outcome

-- the call is answered by a reply
abbrev pub call_after : DoneIs → Option Asked → Option Asked
call_after (HasReply reply) call = None
call_after _ call = call

-- it isn't used: it brings other tokens than those of locks and open files, or isn't above the floor, or a give-back of
-- the file is on its way; or its file is elsewhere
pub record BringsNothing (m : Tables) (server : ServerId) (w : Bring) : Type 0 where
  pub unused : BringsUses w → home w.fid.fileset ≡ server → floor_of m.floors w.fid < w.stamp
      → list_any (is_of_file w.fid) m.gives.gives ≡ false → ⊥

abbrev pub UnusedDoneStands : Type 0
UnusedDoneStands = (script : Script) (m : Tables) (past : List Step) (server : ServerId) (epoch moves : ℕ) (d : DoneOf)
    (homes : List Home) → Stands script m past → (answers : AnswersChange m server epoch moves d)
    → NotesHome m.homes homes answers.change d.outcome → BringsNothing m server d.bring
    → Stands script (with_heard m (record (heard_of m) {
      request = None;
      homes = homes;
      call = call_after d.outcome m.call;
    })) (hears m.host server epoch moves (Done d) ∷ past)
