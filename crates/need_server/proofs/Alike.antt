-- Each Change that is decided on what is kept is the tree's.
use Rattle.std.proofs.Common.{◌≡◌, true, refl, sym, subst}
use Rattle.base_types.specs.declared.ids.HostId.{HostId}
use Rattle.base_types.specs.declared.user.User.{User}
use Rattle.tree_calls.specs.declared.call.Call.{Call}
use Rattle.tree_calls.specs.declared.call.Call.TheVariants.{NewFileset, Create, MakeDir, Remove, Rename, Truncate, SetAcl, CloneFileset, Read, Write, List as ListNames, Stat, GetAcl, Sync, Lock, Unlock, OpenFile, CloseFile, MoveFileset}
use Rattle.tree_calls.specs.Rosters.{user_of}
use Rattle.tree_answers.specs.declared.tree.Tree.{Tree}
use Rattle.tree_answers.specs.Answers.{for_user, answer_for, answer_to}
use Rattle.tree_answers.specs.WellFormed.{IsWellFormed}
use Rattle.tree_laws.proofs.Steps.{no_file}
use Rattle.need_server.specs.Kept.{kept_tree, kept_answer}
use Rattle.need_server.specs.Wants.{want}
use Rattle.need_host.specs.Questions.{is_change}
use Rattle.need_server.specs.Laws.{is_of_names, NothingUnsaved, NamesChangeAlike, ChangesAreAlike}
use Rattle.need_server.proofs.KeptFiles.{kept_truncate}
use Rattle.need_server.proofs.KeptFounds.{kept_new, kept_clone, kept_move}
use Rattle.need_server.proofs.KeptTree.{kept_names, kept_user}
use Rattle.need_server.proofs.KeptUses.{kept_locked, kept_opened}

names_for : (tree : Tree) (host : HostId) (user : User) (call : Call) → IsWellFormed tree → is_of_names call ≡ true → answer_for (kept_tree tree) host call user ≡ kept_answer (answer_for tree host call user)
names_for tree host user (Create place) w h = kept_names tree host user (Create place) refl
names_for tree host user (MakeDir place) w h = kept_names tree host user (MakeDir place) refl
names_for tree host user (Remove place) w h = kept_names tree host user (Remove place) refl
names_for tree host user (Rename from to) w h = kept_names tree host user (Rename from to) refl
names_for tree host user (SetAcl place which list) w h = kept_names tree host user (SetAcl place which list) refl
names_for tree host user (NewFileset server name objects owner) w h = kept_new tree host user server name objects owner w
names_for tree host user (Lock label place writing from len) w h = kept_locked tree host user label place writing from len
names_for tree host user (OpenFile label place kind) w h = kept_opened tree host user label place kind
names_for tree host user (Read place from len) w h = no_file h
names_for tree host user (Write place from bytes) w h = no_file h
names_for tree host user (ListNames place) w h = no_file h
names_for tree host user (Stat place) w h = no_file h
names_for tree host user (GetAcl place which) w h = no_file h
names_for tree host user (Sync place) w h = no_file h
names_for tree host user (Unlock label) w h = no_file h
names_for tree host user (CloseFile label) w h = no_file h
names_for tree host user (Truncate place len) w h = no_file h
names_for tree host user (CloneFileset server source new) w h = no_file h
names_for tree host user (MoveFileset server name to) w h = no_file h

pub names_change_alike : NamesChangeAlike
unfolding answer_to
names_change_alike tree host call w h = kept_user tree host call (user_of tree.roster host) (λ user e. names_for tree host user call w h)

changes_for : (tree : Tree) (host : HostId) (user : User) (call : Call) → IsWellFormed tree → is_change call ≡ true → NothingUnsaved tree (want tree user call) → answer_for (kept_tree tree) host call user ≡ kept_answer (answer_for tree host call user)
changes_for tree host user (Create place) w h nothing = names_for tree host user (Create place) w refl
changes_for tree host user (MakeDir place) w h nothing = names_for tree host user (MakeDir place) w refl
changes_for tree host user (Remove place) w h nothing = names_for tree host user (Remove place) w refl
changes_for tree host user (Rename from to) w h nothing = names_for tree host user (Rename from to) w refl
changes_for tree host user (SetAcl place which list) w h nothing = names_for tree host user (SetAcl place which list) w refl
changes_for tree host user (NewFileset server name objects owner) w h nothing = names_for tree host user (NewFileset server name objects owner) w refl
changes_for tree host user (Lock label place writing from len) w h nothing = names_for tree host user (Lock label place writing from len) w refl
changes_for tree host user (OpenFile label place kind) w h nothing = names_for tree host user (OpenFile label place kind) w refl
changes_for tree host user (Truncate place len) w h nothing = kept_truncate tree host user place len w nothing
changes_for tree host user (CloneFileset server source new) w h nothing = kept_clone tree host user server source new w nothing
changes_for tree host user (MoveFileset server name to) w h nothing = kept_move tree host user server name to w nothing
changes_for tree host user (Read place from len) w h nothing = no_file h
changes_for tree host user (Write place from bytes) w h nothing = no_file h
changes_for tree host user (ListNames place) w h nothing = no_file h
changes_for tree host user (Stat place) w h nothing = no_file h
changes_for tree host user (GetAcl place which) w h nothing = no_file h
changes_for tree host user (Sync place) w h nothing = no_file h
changes_for tree host user (Unlock label) w h nothing = no_file h
changes_for tree host user (CloseFile label) w h nothing = no_file h

pub changes_are_alike : ChangesAreAlike
unfolding answer_to
changes_are_alike tree host user call w is_user h nothing =
    subst (λ found. for_user (kept_tree tree) found (answer_for (kept_tree tree) host call) ≡ kept_answer (for_user tree found (answer_for tree host call))) (sym is_user) (changes_for tree host user call w h nothing)
