-- What the hub follows of each node: which of its lines raise flags and wait for them, and how many have gone.
use Rattle.std.specs.List.{filter, filter_map, position_or_len}
use Rattle.std.specs.Option.{option_and_then}
use Rattle.std.specs.Prelude.{Bool, List, None, Option, Some, count_by, drop, false, if◌then◌else◌, is_some, length}
use Rattle.std.specs.Prelude.{map, min}
use Rattle.std.specs.Prelude.{slice_get, take, true, ℕ, ◌+◌, ◌-◌, ◌==◌}
use Rattle.base_types.specs.Lists.{changed_at}
use Rattle.base_types.specs.Name.{same_name}
use Rattle.base_types.specs.declared.ids.Node.{Node}
use Rattle.base_types.specs.declared.ids.Node.TheVariants.{Host}
use Rattle.script_lines.specs.Sound.{same_node}
use Rattle.script_lines.specs.declared.script.Deed.{Deed}
use Rattle.script_lines.specs.declared.script.Deed.TheVariants.{Raise as RaiseLine, Await as AwaitLine}
use Rattle.script_lines.specs.declared.script.Line.{Line}
use Rattle.script_lines.specs.declared.script.Script.{Script}
use Rattle.run_rules.specs.declared.step.Cause.{Cause}
use Rattle.run_rules.specs.declared.step.Cause.TheVariants.{Line as LineOf, Restart}
use Rattle.run_rules.specs.declared.step.Step.{Step}
use Rattle.hub_board.specs.declared.follow.Follow.{Follow}
use Rattle.hub_board.specs.declared.follow.Mark.{Mark}
use Rattle.hub_board.specs.declared.follow.Mark.TheVariants.{Plain, Raise, Await, Raised, Told}

abbrev pub mark_of : Deed → Mark
mark_of (RaiseLine flag) = Raise flag
mark_of (AwaitLine flag) = Await flag
mark_of _ = Plain

abbrev pub setup_node : Node
setup_node = Host (record { 0 = 0 })

-- a node's lines, in order; those of the setup host make the filesets
abbrev pub lines_of : Script → Node → List Line
lines_of script node =
    if same_node node setup_node then script.setup else filter (λ line. same_node line.node node) script.lines

-- a node at the start
abbrev pub follow_of : Script → Node → Follow
follow_of script node = record {
  node = node;
  marks = map (λ line. mark_of line.deed) (lines_of script node);
  gone = 0;
  begun = false;
}

-- whether a line of the node goes in a step with such a cause
abbrev pub goes : Cause → Bool
goes (LineOf line) = true
goes (Restart line) = true
goes _ = false

abbrev pub gone_in : List Step → ℕ
gone_in steps = count_by (λ s. goes s.cause) steps

-- the flag that a line raises
abbrev pub raise_of : Mark → Option (List ℕ)
raise_of (Raise flag) = Some flag
raise_of _ = None

-- the flags that the next so many lines raise, in order
abbrev pub flags_next : ℕ → Follow → List (List ℕ)
flags_next n f = filter_map raise_of (take n (drop f.gone f.marks))

-- so many more of its lines have gone, where there are so many
abbrev pub with_gone : ℕ → Follow → Follow
with_gone n f = record f { gone = f.gone + min n (length f.marks - f.gone) }

-- whether a line waits for a flag
abbrev pub waits_for : List ℕ → Mark → Bool
waits_for flag (Await name) = same_name name flag
waits_for flag _ = false

abbrev pub raised_mark : Mark → Mark
raised_mark (Await flag) = Raised flag
raised_mark mark = mark

abbrev pub mark_raised : List ℕ → Mark → Mark
mark_raised flag mark = if waits_for flag mark then raised_mark mark else mark

abbrev pub with_raised : List ℕ → Follow → Follow
with_raised flag f = record f { marks = map (mark_raised flag) f.marks }

-- the node was told of the flag of its next line
abbrev pub told : Mark → Mark
told mark = Told

abbrev pub with_told : Follow → Follow
with_told f = record f { marks = changed_at f.marks f.gone told }

abbrev pub with_begun : Follow → Follow
with_begun f = record f { begun = true }

-- the flag for which a line waits and which was raised, of which the node wasn't told
abbrev pub flag_in : Mark → Option (List ℕ)
flag_in (Raised flag) = Some flag
flag_in _ = None

abbrev pub flag_for : Follow → Option (List ℕ)
flag_for f = option_and_then flag_in (slice_get f.marks f.gone)

-- a node that is told so, where there is something to tell
abbrev pub if_flag : Follow → Follow
if_flag f = if is_some (flag_for f) then with_told f else f

-- all its lines have gone
abbrev pub is_through : Follow → Bool
is_through f = f.gone == length f.marks

-- where a node stands among those that are followed; past them where it isn't there
abbrev pub place_of : List Follow → Node → ℕ
place_of follows node = position_or_len (λ f. same_node f.node node) follows
