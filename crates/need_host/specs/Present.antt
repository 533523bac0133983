-- What a host's answers leave of what readers see.
use Rattle.std.specs.Prelude.{◌≡◌, Bool, true, false, List, is_some}
use Rattle.base_types.specs.declared.ids.HostId.{HostId}
use Rattle.base_types.specs.declared.ids.Fid.{Fid}
use Rattle.base_types.specs.declared.user.User.{User}
use Rattle.tree_calls.specs.declared.call.Call.{Call}
use Rattle.tree_calls.specs.declared.call.Call.TheVariants.{Read, List as ListNames, Stat, GetAcl, Sync}
use Rattle.tree_calls.specs.declared.call.Call.TheVariants.{Lock, Unlock, OpenFile, CloseFile}
use Rattle.tree_calls.specs.declared.place.Place.{Place}
use Rattle.tree_answers.specs.declared.tree.Tree.{Tree}
use Rattle.tree_answers.specs.Answers.{answer_to}
use Rattle.tree_answers.specs.WellFormed.{IsWellFormed}
use Rattle.tree_laws.specs.Fates.{is_of}
use Rattle.tree_laws.specs.Parts.{Part, cell_at}
use Rattle.token_types.specs.declared.token.Token.{Token}
use Rattle.need_host.specs.Looks.{View, outcome, tree_view, IsCovered}
use Rattle.need_host.specs.Calls.{Own, call_look, reply_now, view_after}
use Rattle.need_host.specs.Laws.{AgreeUnder, Stands}

-- whether a call changes no object: it is told something, or it is about a label
abbrev pub changes_nothing : Call → Bool
changes_nothing (Read place from len) = true
changes_nothing (ListNames place) = true
changes_nothing (Stat place) = true
changes_nothing (GetAcl place which) = true
changes_nothing (Lock label place writing from len) = true
changes_nothing (Unlock label) = true
changes_nothing (OpenFile label place kind) = true
changes_nothing (CloseFile label) = true
changes_nothing _ = false

-- what such a call leaves
abbrev pub AnswersLeaveAll : Type 0
AnswersLeaveAll =
    (tree : Tree) (host : HostId) (call : Call) (fid : Fid) (part : Part) →
    IsWellFormed tree → changes_nothing call ≡ true →
    cell_at (answer_to tree host call).tree fid part ≡ cell_at tree fid part

-- a Sync leaves an object as it is of which nothing of the host is unsaved
abbrev pub SyncsOfNothing : Type 0
SyncsOfNothing =
    (tree : Tree) (host : HostId) (place : Place) (fid : Fid) (part : Part) → IsWellFormed tree →
    ((each : Part) → is_of host (cell_at tree fid each).unsaved ≡ false) →
    cell_at (answer_to tree host (Sync place)).tree fid part ≡ cell_at tree fid part

-- What a host answers at once from a view that agrees with the tree under its tokens: the view then agrees with the
-- tree after the call, under the same tokens.
abbrev pub AnswersLeaveAlike : Type 0
AnswersLeaveAlike =
    (tree : Tree) (host : HostId) (user : User) (own : Own) (held : List Token) (view : View) (call : Call) →
    Stands tree host user own held view →
    let look = call_look own host user call in
    IsCovered held view look → is_some (reply_now (outcome view look)) ≡ true →
    AgreeUnder held (view_after (outcome view look) view) (tree_view (answer_to tree host call).tree)
