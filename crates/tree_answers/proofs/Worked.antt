-- The worked replies, each by computation.
use Rattle.std.specs.Prelude.{refl}
use Rattle.tree_filesets.specs.Changing.{write_target, write_answer, truncate_answer, sync_answer, set_access_target, set_access_answer}
use Rattle.tree_filesets.specs.Creation.{create_target, create_answer}
use Rattle.tree_filesets.specs.Founding.{new_fileset, control_check, cloned}
use Rattle.tree_filesets.specs.Removal.{remove_target, remove_answer}
use Rattle.tree_filesets.specs.Renaming.{rename_target, rename_answer}
use Rattle.tree_filesets.specs.Rows.{fileset_answer}
use Rattle.tree_filesets.specs.Telling.{read_reply, list_target, list_reply, stat_reply, access_reply}
use Rattle.tree_filesets.specs.Updates.{updated}
use Rattle.tree_filesets.specs.Uses.{use_target}
use Rattle.tree_filesets.specs.Walk.{step, target, file_target, permitted_file, parent_target, insert_target, entry_target}
use Rattle.tree_answers.specs.Answers.{fileset_row, answer_for, answer_to}
use Rattle.tree_answers.specs.Finding.{fileset_place, fileset_named}
use Rattle.tree_answers.specs.Founding.{room_for, new_fileset_target, new_fileset_answer, clone_source, clone_target, clone_answer}
use Rattle.tree_answers.specs.Locks.{lock_check, lock_answer, unlock_answer}
use Rattle.tree_answers.specs.Losses.{losses_of}
use Rattle.tree_answers.specs.Opens.{open_check, open_answer, close_answer}
use Rattle.tree_answers.specs.Worked.{WorkedReplies}

pub worked_replies : WorkedReplies
unfolding answer_to answer_for room_for fileset_place fileset_named fileset_row fileset_answer new_fileset_answer new_fileset_target new_fileset clone_answer clone_target clone_source control_check cloned lock_answer lock_check unlock_answer open_answer open_check close_answer use_target losses_of create_answer create_target remove_answer remove_target rename_answer rename_target write_answer write_target truncate_answer sync_answer set_access_answer set_access_target access_reply read_reply list_reply list_target stat_reply updated step target file_target permitted_file parent_target insert_target entry_target
worked_replies = record {
  read_back = refl;
  gap = refl;
  too_big = refl;
  denied = refl;
  granted = refl;
  told = refl;
  truncated = refl;
  exists = refl;
  not_empty = refl;
  moves = refl;
  clone = refl;
  locked = refl;
  open_conflict = refl;
  too_many = refl;
  no_room = (refl, refl);
  lost = refl;
  lost_other = refl;
  nothing_lost = refl;
}
