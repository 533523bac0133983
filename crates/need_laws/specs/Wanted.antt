-- What is wanted for a call hangs on what its server knows.
use Rattle.std.specs.Prelude.{◌≡◌}
use Rattle.base_types.specs.declared.ids.ServerId.{ServerId}
use Rattle.base_types.specs.declared.user.User.{User}
use Rattle.tree_calls.specs.declared.call.Call.{Call}
use Rattle.tree_answers.specs.declared.tree.Tree.{Tree}
use Rattle.need_server.specs.Wants.{want}
use Rattle.need_laws.specs.Known.{IsAt, SameAt}

abbrev pub WantsHangOnTheirServer : Type 0
WantsHangOnTheirServer =
    (a b : Tree) (server : ServerId) (user : User) (call : Call) →
    SameAt server a b → IsAt server call → want a user call ≡ want b user call
