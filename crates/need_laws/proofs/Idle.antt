-- Which answers don't hang on what is in use.
use Rattle.std.proofs.Common.{◌≡◌, ℕ, false, Option, Some, None, Result, Ok, Err, refl, ap}
use Rattle.std.specs.Prelude.{slice_get}
use Rattle.base_types.specs.Outcomes.{either}
use Rattle.base_types.specs.declared.ids.HostId.{HostId}
use Rattle.base_types.specs.declared.user.User.{User}
use Rattle.tree_calls.specs.Rosters.{user_of}
use Rattle.tree_calls.specs.declared.call.Call.{Call}
use Rattle.tree_calls.specs.declared.call.Call.TheVariants.{NewFileset, Create, MakeDir, Remove, Rename, Truncate, SetAcl, CloneFileset, Read, Write, List as ListNames, Stat, GetAcl, Sync, Lock, Unlock, OpenFile, CloseFile, MoveFileset}
use Rattle.tree_calls.specs.declared.reply.Refusal.{Refusal}
use Rattle.tree_calls.specs.declared.reply.Reply.TheVariants.{Ok as Done}
use Rattle.tree_filesets.specs.declared.fileset.Fileset.{Fileset}
use Rattle.tree_filesets.specs.Answers.{Answered}
use Rattle.tree_filesets.specs.Founding.{cloned, new_fileset}
use Rattle.tree_filesets.specs.Rows.{fileset_answer}
use Rattle.tree_answers.specs.Answers.{answer_at, answer_for, answer_to, deciding_place, fileset_row, for_user}
use Rattle.tree_answers.specs.Finding.{Answer, fileset_named, fileset_place, refuse}
use Rattle.tree_answers.specs.Founding.{clone_answer, clone_source, clone_target, new_fileset_answer, new_fileset_target, next_id, room_for, with_fileset}
use Rattle.tree_answers.specs.Uses.{is_used}
use Rattle.tree_answers.specs.declared.tree.Tree.{Tree}
use Rattle.tree_laws.proofs.Steps.{no_dir}
use Rattle.need_laws.specs.Idle.{OthersMindNoUses, idle, idle_answer, minds_uses}

module _ (tree : Tree) where
  checked : {A : Type 0} (c : Result A Refusal) (after other : A → Tree) → ((found : A) → other found ≡ idle (after found)) →
      either c (λ found. let answer : Answer = record { reply = Done; tree = other found } in answer) (refuse (idle tree))
      ≡ idle_answer (either c (λ found. let answer : Answer = record { reply = Done; tree = after found } in answer) (refuse tree))
  checked (Ok found) after other same = ap (λ t. let answer : Answer = record { reply = Done; tree = t } in answer) (same found)
  checked (Err refusal) after other same = refl

  one_row : (decided : Result ℕ Refusal) (ask : Fileset → Answered) →
      either decided (λ place. answer_at (idle tree) place (slice_get tree.filesets place) ask) (refuse (idle tree))
      ≡ idle_answer (either decided (λ place. answer_at tree place (slice_get tree.filesets place) ask) (refuse tree))
  one_row (Err refusal) ask = refl
  one_row (Ok place) ask = at (slice_get tree.filesets place)
    where
      at : (o : Option Fileset) → answer_at (idle tree) place o ask ≡ idle_answer (answer_at tree place o ask)
      at None = refl
      at (Some fileset) = refl

  others : (host : HostId) (user : User) (call : Call) → minds_uses call ≡ false → answer_for (idle tree) host call user ≡ idle_answer (answer_for tree host call user)
  unfolding answer_for fileset_row fileset_place fileset_answer new_fileset_answer new_fileset_target clone_answer clone_target clone_source fileset_named room_for
  others host user (NewFileset server name objects owner) e =
      checked (new_fileset_target tree server name objects) (λ room. with_fileset tree server room (new_fileset server (next_id server room) name objects owner))
      (λ room. with_fileset (idle tree) server room (new_fileset server (next_id server room) name objects owner)) (λ room. refl)
  others host user (CloneFileset server source new) e =
      checked (clone_target tree user server source new) (λ found. with_fileset tree server found.1 (cloned found.0 (next_id server found.1) new))
      (λ found. with_fileset (idle tree) server found.1 (cloned found.0 (next_id server found.1) new)) (λ found. refl)
  others host user (Create place) e = one_row (deciding_place tree (Create place)) (λ fileset. fileset_answer fileset (is_used tree.locks tree.opens) host user (Create place))
  others host user (MakeDir place) e = one_row (deciding_place tree (MakeDir place)) (λ fileset. fileset_answer fileset (is_used tree.locks tree.opens) host user (MakeDir place))
  others host user (Rename from to) e = one_row (deciding_place tree (Rename from to)) (λ fileset. fileset_answer fileset (is_used tree.locks tree.opens) host user (Rename from to))
  others host user (Truncate place len) e = one_row (deciding_place tree (Truncate place len)) (λ fileset. fileset_answer fileset (is_used tree.locks tree.opens) host user (Truncate place len))
  others host user (SetAcl place which list) e = one_row (deciding_place tree (SetAcl place which list)) (λ fileset. fileset_answer fileset (is_used tree.locks tree.opens) host user (SetAcl place which list))
  others host user (Read place from len) e = one_row (deciding_place tree (Read place from len)) (λ fileset. fileset_answer fileset (is_used tree.locks tree.opens) host user (Read place from len))
  others host user (Write place from bytes) e = one_row (deciding_place tree (Write place from bytes)) (λ fileset. fileset_answer fileset (is_used tree.locks tree.opens) host user (Write place from bytes))
  others host user (ListNames place) e = one_row (deciding_place tree (ListNames place)) (λ fileset. fileset_answer fileset (is_used tree.locks tree.opens) host user (ListNames place))
  others host user (Stat place) e = one_row (deciding_place tree (Stat place)) (λ fileset. fileset_answer fileset (is_used tree.locks tree.opens) host user (Stat place))
  others host user (GetAcl place which) e = one_row (deciding_place tree (GetAcl place which)) (λ fileset. fileset_answer fileset (is_used tree.locks tree.opens) host user (GetAcl place which))
  others host user (Sync place) e = one_row (deciding_place tree (Sync place)) (λ fileset. fileset_answer fileset (is_used tree.locks tree.opens) host user (Sync place))
  others host user (Remove place) e = no_dir e
  others host user (Lock label place writing from len) e = no_dir e
  others host user (Unlock label) e = no_dir e
  others host user (OpenFile label place kind) e = no_dir e
  others host user (CloseFile label) e = no_dir e
  others host user (MoveFileset server name to) e = no_dir e

pub others_mind_no_uses : OthersMindNoUses
unfolding answer_to
others_mind_no_uses tree host call e = by_user (user_of tree.roster host)
  where
    by_user : (user : Option User) → for_user (idle tree) user (answer_for (idle tree) host call) ≡ idle_answer (for_user tree user (answer_for tree host call))
    by_user None = refl
    by_user (Some user) = others tree host user call e
