use Rattle.run_answered.proofs.Printed.{each_line_is_told, runs_tell_replies}
use Rattle.run_answered.proofs.laws.runs_tell_replies.Goals as goal

pub returns : goal.returns
returns c = record { replies = runs_tell_replies; lines = each_line_is_told }
