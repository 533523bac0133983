-- Changes that a server decides on what it keeps.
use Rattle.std.specs.Prelude.{◌≡◌, true, false, [], Some}
use Rattle.base_types.specs.declared.ids.HostId.{HostId}
use Rattle.base_types.specs.declared.ids.ServerId.{ServerId}
use Rattle.base_types.specs.declared.user.User.{User}
use Rattle.tree_calls.specs.Rosters.{user_of}
use Rattle.tree_calls.specs.declared.call.Call.{Call}
use Rattle.tree_calls.specs.declared.reply.Refusal.{Refusal}
use Rattle.tree_calls.specs.declared.reply.Reply.TheVariants.{Refused}
use Rattle.need_host.specs.Questions.{is_change}
use Rattle.tree_answers.specs.Answers.{answer_to}
use Rattle.tree_answers.specs.WellFormed.{IsWellFormed, ids_rise}
use Rattle.tree_answers.specs.declared.tree.Tree.{Tree}
use Rattle.need_server.specs.Kept.{kept_tree}
use Rattle.need_server.specs.Laws.{NothingUnsaved}
use Rattle.need_server.specs.Wants.{want}
use Rattle.need_laws.specs.Idle.{minds_uses}
use Rattle.need_laws.specs.Known.{IsAt, SameAt}

-- A Change at a server that looks at no use, and under whose want nothing is unsaved, has on what the server keeps the
-- tree's reply, and leaves there what is kept of what it leaves of the tree.
abbrev pub ServersDecideAlike : Type 0
ServersDecideAlike =
    (server : ServerId) (kept tree : Tree) (host : HostId) (user : User) (call : Call) →
    IsWellFormed tree → ids_rise kept.filesets ≡ true → SameAt server kept (kept_tree tree) → kept.locks ≡ [] →
    kept.opens ≡ [] → user_of tree.roster host ≡ Some user → is_change call ≡ true → IsAt server call →
    minds_uses call ≡ false → NothingUnsaved tree (want kept user call) →
    ((answer_to kept host call).reply ≡ (answer_to tree host call).reply)
    × SameAt server (answer_to kept host call).tree (kept_tree (answer_to tree host call).tree)

-- One that the server refuses on what it keeps the tree refuses alike, whatever is unsaved.
abbrev pub ServersRefuseAlike : Type 0
ServersRefuseAlike =
    (server : ServerId) (kept tree : Tree) (host : HostId) (user : User) (call : Call) (refusal : Refusal) →
    IsWellFormed tree → ids_rise kept.filesets ≡ true → SameAt server kept (kept_tree tree) → kept.locks ≡ [] →
    kept.opens ≡ [] → user_of tree.roster host ≡ Some user → is_change call ≡ true → IsAt server call →
    minds_uses call ≡ false → (answer_to kept host call).reply ≡ Refused refusal →
    (answer_to tree host call).reply ≡ Refused refusal
