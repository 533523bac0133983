-- The worked wants, each by computation.
use Rattle.std.specs.Prelude.{refl}
use Rattle.tree_filesets.specs.Changing.{write_target, write_answer, set_access_target, set_access_answer}
use Rattle.tree_filesets.specs.Creation.{create_target, create_answer}
use Rattle.tree_filesets.specs.Founding.{new_fileset, control_check, moved}
use Rattle.tree_filesets.specs.Rows.{fileset_answer}
use Rattle.tree_filesets.specs.Updates.{updated}
use Rattle.tree_filesets.specs.Walk.{step, target, file_target, permitted_file, parent_target, insert_target, entry_target}
use Rattle.tree_answers.specs.Answers.{fileset_row, answer_for, answer_to}
use Rattle.tree_answers.specs.Founding.{room_for, new_fileset_target, new_fileset_answer}
use Rattle.tree_answers.specs.Finding.{fileset_place, fileset_named}
use Rattle.tree_answers.specs.Moving.{move_source, leave_check, move_room, move_target, move_answer}
use Rattle.tree_filesets.specs.Removal.{remove_target}
use Rattle.tree_filesets.specs.Renaming.{rename_target}
use Rattle.tree_filesets.specs.Uses.{use_target}
use Rattle.tree_answers.specs.Founding.{clone_source}
use Rattle.need_server.specs.Wants.{want_in, want}
use Rattle.need_server.specs.Worked.{WorkedWants}

pub worked_wants : WorkedWants
unfolding write_target write_answer set_access_target set_access_answer create_target create_answer new_fileset control_check moved fileset_answer updated step target file_target permitted_file parent_target insert_target fileset_place fileset_named fileset_row answer_for answer_to room_for new_fileset_target new_fileset_answer move_source leave_check move_room move_target move_answer remove_target rename_target entry_target use_target clone_source want_in want
worked_wants = record {
  creates = refl;
  makes = refl;
  removes = refl;
  renames = refl;
  truncates = refl;
  lists = refl;
  clones = refl;
  moves = refl;
  locks = refl;
  opens = refl;
  founds = refl;
  writes = refl;
  denied = refl;
  crossing = refl;
  moved = refl;
}
