use Rattle.need_host.proofs.Asking.{questions_are_about_filesets}
use Rattle.need_host.proofs.Replies.{covered_answers, looks_end_in_replies}
use Rattle.need_host.proofs.laws.look_law.Goals as goal

pub returns : goal.returns
returns c = record { tree = looks_end_in_replies; covered = covered_answers; questions = questions_are_about_filesets }
