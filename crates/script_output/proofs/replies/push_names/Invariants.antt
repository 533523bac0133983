use Rattle.std.proofs.Common.{◌≡◌, ◌++◌, drop}
use Rattle.script_output.specs.Replies.{names_text}
use Rattle.script_output.proofs.replies.push_names.Given as goal

-- the names so far, and those that are left
abbrev pub invariant-loop-name : goal.invariant-loop-name
invariant-loop-name l = l.out ++ names_text (drop l.name-index l.name-items) ≡ l.fn.out ++ names_text l.names
