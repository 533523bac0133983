-- What holds of each journal in a program, by the types of its fields: as of messages.
use Rattle.std.specs.Prelude.{IfSome}
use Rattle.base_types.specs.declared.ids.Node.{Node}
use Rattle.base_types.specs.declared.ids.Node.TheVariants.{Host, Server}
use Rattle.message_types.specs.Soundness.{Each}
use Rattle.run_reading.specs.Messages.{
  IsByte,
  IsWhole,
  TypedAccessEntry,
  TypedCall,
  TypedChange,
  TypedDirEntry,
  TypedFetch,
  TypedFid,
  TypedGive,
  TypedMessage,
  TypedMover,
  TypedNeed,
  TypedReply,
  TypedShip,
  TypedToken,
  TypedUser,
}
use Rattle.run_rules.specs.declared.applied.Admission.{Admission}
use Rattle.run_rules.specs.declared.applied.Answer.{Answer}
use Rattle.run_rules.specs.declared.applied.Applied.{Applied}
use Rattle.run_rules.specs.declared.applied.Applied.TheVariants.{Done, IsDown, Moves, Replied, Stored, Wants}
use Rattle.run_rules.specs.declared.applied.Head.{Head}
use Rattle.run_rules.specs.declared.applied.Leave.{Leave}
use Rattle.run_rules.specs.declared.applied.Move.{Move}
use Rattle.run_rules.specs.declared.applied.Move.TheVariants as moves
use Rattle.run_rules.specs.declared.applied.Request.{Request}
use Rattle.run_rules.specs.declared.applied.Wanted.{Wanted}
use Rattle.run_rules.specs.declared.applied.Written.{Written}
use Rattle.run_rules.specs.declared.journal.Journal.{Journal}
use Rattle.run_rules.specs.declared.step.Asked.{Asked}
use Rattle.run_rules.specs.declared.step.Cause.{Cause}
use Rattle.run_rules.specs.declared.step.Labelled.{Labelled}
use Rattle.run_rules.specs.declared.step.Step.{Step}
use Rattle.tree_answers.specs.declared.tree.Away.{Away}
use Rattle.tree_answers.specs.declared.tree.LockUse.{LockUse}
use Rattle.tree_answers.specs.declared.tree.OpenUse.{OpenUse}
use Rattle.tree_answers.specs.declared.tree.ServerRoom.{ServerRoom}
use Rattle.tree_answers.specs.declared.tree.Tree.{Tree}
use Rattle.tree_calls.specs.declared.roster.HostLine.{HostLine}
use Rattle.tree_calls.specs.declared.roster.Roster.{Roster}
use Rattle.tree_filesets.specs.declared.fileset.Fileset.{Fileset}
use Rattle.tree_objects.specs.declared.content.Anode.{Anode}
use Rattle.tree_objects.specs.declared.content.Content.{Content}
use Rattle.tree_objects.specs.declared.content.Content.TheVariants.{Dir, File}
use Rattle.tree_objects.specs.declared.content.Object.{Object}
use Rattle.tree_objects.specs.declared.content.Unsaved.{Unsaved}
use Rattle.tree_objects.specs.declared.content.UnsavedLength.{UnsavedLength}
use Rattle.run_rules.specs.declared.step.Cause.TheVariants as causes
use Rattle.run_rules.specs.declared.applied.Request.TheVariants as requests

abbrev pub TypedHostLine : HostLine → Type 0
TypedHostLine x = IsWhole x.user × IsWhole x.limit

abbrev pub TypedRoster : Roster → Type 0
TypedRoster x = Each TypedUser x.users × Each TypedHostLine x.hosts × Each IsWhole x.capacity

abbrev pub TypedUnsaved : Unsaved → Type 0
TypedUnsaved x = IsWhole x.at × IsWhole x.value × IsWhole x.writer.0

abbrev pub TypedUnsavedLength : UnsavedLength → Type 0
TypedUnsavedLength x = IsWhole x.length × IsWhole x.writer.0

abbrev pub TypedContent : Content → Type 0
TypedContent (Dir entries lists) = Each TypedDirEntry entries × Each (Each TypedAccessEntry) lists
TypedContent (File entries kept unsaved len) =
    Each TypedAccessEntry entries × Each IsByte kept × Each TypedUnsaved unsaved × IfSome len TypedUnsavedLength

abbrev pub TypedObject : Object → Type 0
TypedObject x = Each IsByte x.owner × Each IsByte x.group × TypedContent x.content

abbrev pub TypedAnode : Anode → Type 0
TypedAnode x = IsWhole x.unique × IfSome x.object TypedObject

abbrev pub TypedFileset : Fileset → Type 0
TypedFileset x =
    IsWhole x.server.0 × IsWhole x.id.0 × Each IsByte x.name × IsWhole x.objects × IsWhole x.moves
    × Each TypedAnode x.anodes

abbrev pub TypedServerRoom : ServerRoom → Type 0
TypedServerRoom x = IsWhole x.capacity × IsWhole x.next

abbrev pub TypedLockUse : LockUse → Type 0
TypedLockUse x = IsWhole x.host.0 × Each IsByte x.label × TypedFid x.fid

abbrev pub TypedOpenUse : OpenUse → Type 0
TypedOpenUse x = IsWhole x.host.0 × Each IsByte x.label × TypedFid x.fid

abbrev pub TypedAway : Away → Type 0
TypedAway x = IsWhole x.server.0 × IsWhole x.fileset.0 × Each IsByte x.name × IsWhole x.to.0

abbrev pub TypedTree : Tree → Type 0
TypedTree x =
    TypedRoster x.roster × Each TypedServerRoom x.servers × Each TypedFileset x.filesets × Each TypedAway x.away
    × Each TypedLockUse x.locks × Each TypedOpenUse x.opens

abbrev pub TypedNode : Node → Type 0
TypedNode (Host it) = IsWhole it.0
TypedNode (Server it) = IsWhole it.0

abbrev pub TypedCause : Cause → Type 0
TypedCause (causes.Line it) = IsWhole it
TypedCause (causes.Restart it) = IsWhole it
TypedCause (causes.Message it) = TypedMessage it
TypedCause (causes.Freight it) = TypedMessage it
TypedCause _ = Unit {0}

abbrev pub TypedAsked : Asked → Type 0
TypedAsked x = IsWhole x.k × TypedCall x.call

abbrev pub TypedAnswer : Answer → Type 0
TypedAnswer x = IsWhole x.host.0 × IsWhole x.k × TypedCall x.call × TypedReply x.reply

abbrev pub TypedLabelled : Labelled → Type 0
TypedLabelled x = Each IsByte x.label × TypedToken x.token

abbrev pub TypedLeave : Leave → Type 0
TypedLeave x = TypedToken x.token

abbrev pub TypedRequest : Request → Type 0
TypedRequest (requests.Fetch it) = TypedFetch it
TypedRequest (requests.Change it) = TypedChange it

abbrev pub TypedWanted : Wanted → Type 0
TypedWanted x = IsWhole x.host.0 × TypedRequest x.request × IsWhole x.moves × Each TypedNeed x.needs

abbrev pub TypedWritten : Written → Type 0
TypedWritten x = IsWhole x.fileset.0 × IsWhole x.number × TypedAnswer x.answer

abbrev pub TypedHead : Head → Type 0
TypedHead x = IsWhole x.from.0 × IsWhole x.moves × TypedShip x.ship × TypedWritten x.written

abbrev pub TypedMove : Move → Type 0
TypedMove (moves.Leaves fileset to ship mover) =
    IsWhole fileset.0 × IsWhole to.0 × IsWhole ship × TypedMover mover
TypedMove (moves.Arrives it) = TypedHead it
TypedMove (moves.Part fileset last) = IsWhole fileset.0
TypedMove (moves.Back it) = TypedWritten it
TypedMove (moves.Left fileset to) = IsWhole fileset.0 × IsWhole to.0

abbrev pub TypedApplied : Applied → Type 0
TypedApplied (Stored host fid spans len) = IsWhole host.0 × TypedFid fid × IfSome len IsWhole
TypedApplied (Replied it) = TypedAnswer it
TypedApplied (IsDown it) = IsWhole it.0
TypedApplied (Wants it) = TypedWanted it
TypedApplied (Done it) = TypedWritten it
TypedApplied (Moves it) = TypedMove it

abbrev pub TypedAdmission : Admission → Type 0
TypedAdmission x = IsWhole x.host.0 × Each TypedToken x.tokens

abbrev pub TypedStep : Step → Type 0
TypedStep x =
    TypedNode x.node × TypedCause x.cause × IfSome x.asked TypedAsked × Each TypedToken x.taken
    × Each TypedAnswer x.answers × IfSome x.wrote TypedFid × Each TypedLabelled x.begun × Each TypedGive x.made
    × Each TypedLeave x.dropped × Each TypedApplied x.applied × Each TypedAdmission x.admitted
    × Each TypedMessage x.sent × Each TypedMessage x.shipped × Each TypedToken x.reserved

abbrev pub TypedJournal : Journal → Type 0
TypedJournal x = Each TypedTree x.start × Each IsWhole x.epochs × Each TypedStep x.steps
