-- The worked looks, each by computation.
use Rattle.std.specs.Prelude.{refl}
use Rattle.tree_filesets.specs.Changing.{write_target, write_answer, set_access_target, set_access_answer}
use Rattle.tree_filesets.specs.Creation.{create_target, create_answer}
use Rattle.tree_filesets.specs.Founding.{new_fileset, control_check, moved}
use Rattle.tree_filesets.specs.Rows.{fileset_answer}
use Rattle.tree_filesets.specs.Updates.{updated}
use Rattle.tree_filesets.specs.Walk.{step, target, file_target, permitted_file, parent_target, insert_target}
use Rattle.tree_answers.specs.Answers.{fileset_row, answer_for, answer_to}
use Rattle.tree_answers.specs.Founding.{room_for, new_fileset_target, new_fileset_answer}
use Rattle.tree_answers.specs.Finding.{fileset_place, fileset_named}
use Rattle.tree_answers.specs.Moving.{move_source, leave_check, move_room, move_target, move_answer}
use Rattle.need_host.specs.Calls.{read_look, write_look, list_look, stat_look, access_look, sync_look, lock_look, open_look, call_look}
use Rattle.need_host.specs.Worked.{WorkedLooks}

pub worked_looks : WorkedLooks
unfolding write_target write_answer set_access_target set_access_answer create_target create_answer new_fileset control_check moved fileset_answer updated step target file_target permitted_file parent_target insert_target
    fileset_place fileset_named fileset_row answer_for answer_to room_for new_fileset_target new_fileset_answer move_source leave_check move_room move_target move_answer read_look write_look list_look stat_look access_look sync_look lock_look open_look call_look
worked_looks = record {
  reads = refl;
  read_needs = refl;
  end_needs = refl;
  within_needs = refl;
  beyond_needs = refl;
  no_bytes = refl;
  no_bytes_needs = refl;
  lists = refl;
  list_needs = refl;
  stat_needs = refl;
  access = refl;
  access_needs = refl;
  missing = refl;
  missing_needs = refl;
  syncs = refl;
  synced = refl;
  sync_needs = refl;
  denied = refl;
  denied_needs = refl;
  locks = refl;
  lock_needs = refl;
  big = refl;
  open_needs = refl;
  used = refl;
  used_needs = refl;
  overlaps = refl;
  frees = refl;
  gives = refl;
  unlock_needs = refl;
  unused = refl;
  asks = refl;
  enters = refl;
  enter_needs = refl;
  clones = refl;
  moves = refl;
  moved = refl;
}
