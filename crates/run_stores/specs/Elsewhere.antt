-- A call that names a fileset of another server.
use Rattle.std.specs.Prelude.{Option, Some, None, false, ◌==◌, ◌≡◌}
use Rattle.base_types.specs.declared.ids.HostId.{HostId}
use Rattle.base_types.specs.declared.ids.ServerId.{ServerId}
use Rattle.base_types.specs.declared.user.User.{User}
use Rattle.tree_calls.specs.Rosters.{user_of}
use Rattle.tree_calls.specs.declared.call.Call.{Call}
use Rattle.tree_calls.specs.declared.call.Call.TheVariants.{
  NewFileset,
  Create,
  MakeDir,
  Remove,
  Rename,
  Truncate,
  SetAcl,
  CloneFileset,
  Read,
  Write,
  List as ListNames,
  Stat,
  GetAcl,
  Sync,
  Lock,
  Unlock,
  OpenFile,
  CloseFile,
  MoveFileset,
}
use Rattle.tree_calls.specs.declared.reply.Refusal.TheVariants.{NoFileset}
use Rattle.tree_calls.specs.declared.reply.Reply.TheVariants.{Refused}
use Rattle.tree_answers.specs.Answers.{answer_to}
use Rattle.tree_answers.specs.declared.tree.Tree.{Tree}
use Rattle.run_stores.specs.Keeping.{IsOf}

-- the server at which a call that is no move names a fileset that is there
abbrev pub named_at : Call → Option ServerId
named_at (NewFileset server name objects owner) = None
named_at (Create place) = Some place.server
named_at (MakeDir place) = Some place.server
named_at (Remove place) = Some place.server
named_at (Rename from to) = Some from.server
named_at (Truncate place len) = Some place.server
named_at (SetAcl place which list) = Some place.server
named_at (CloneFileset server source new) = Some server
named_at (Read place from len) = Some place.server
named_at (Write place from bytes) = Some place.server
named_at (ListNames place) = Some place.server
named_at (Stat place) = Some place.server
named_at (GetAcl place which) = Some place.server
named_at (Sync place) = Some place.server
named_at (Lock label place writing from len) = Some place.server
named_at (Unlock label) = None
named_at (OpenFile label place kind) = Some place.server
named_at (CloseFile label) = None
named_at (MoveFileset server name to) = None

-- A store asks by name alone, so it isn't to be asked about such a call: by the rules no such fileset is kept.
abbrev pub OthersAreRefused : Type 0
OthersAreRefused =
    (server other : ServerId) (tree : Tree) (host : HostId) (user : User) (call : Call)
    → IsOf server tree → named_at call ≡ Some other → (other.0 == server.0) ≡ false
    → user_of tree.roster host ≡ Some user → (answer_to tree host call).reply ≡ Refused NoFileset
