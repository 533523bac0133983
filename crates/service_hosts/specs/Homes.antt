-- What hosts and servers can run.
use Rattle.std.specs.List.{list_all}
use Rattle.std.specs.Prelude.{Bool, [], false, length, not, true, ◌&&◌, ◌==◌, ◌≡◌}
use Rattle.std.specs.List.{list_any}
use Rattle.tree_answers.specs.declared.tree.Tree.{Tree}
use Rattle.tree_calls.specs.declared.call.Call.TheVariants.{MoveFileset}
use Rattle.tree_filesets.specs.declared.fileset.Fileset.{Fileset}
use Rattle.script_lines.specs.declared.script.Deed.{Deed}
use Rattle.script_lines.specs.declared.script.Deed.TheVariants.{Call}
use Rattle.script_lines.specs.declared.script.Line.{Line}
use Rattle.script_lines.specs.declared.script.Script.{Script}
use Rattle.run_rules.specs.Messages.{home}
use Rattle.run_rules.specs.Past.{In}

-- whether a line moves a fileset
abbrev pub is_move : Deed → Bool
is_move (Call (MoveFileset server fileset to)) = true
is_move _ = false

-- whether a fileset is where it was made, and has never moved
abbrev pub is_home : Fileset → Bool
is_home fileset = (fileset.server.0 == (home fileset.id).0) && (fileset.moves == 0)

-- Hosts and servers can run a script from a tree: no line of it moves a fileset, and none of the tree has moved.
abbrev pub may_host : Script → Tree → Bool
may_host script start =
    not (list_any (λ (line : Line). is_move line.deed) script.lines)
    && (list_all is_home start.filesets && (length start.away == 0))

-- no line of a script moves a fileset
abbrev pub MovesNone : Script → Type 0
MovesNone script = (line : Line) → In line script.lines → is_move line.deed ≡ false

-- hosts and servers can run a script that moves none from each tree without filesets, as that of blank disks is
abbrev pub UnmovedMayHost : Type 0
UnmovedMayHost = (script : Script) (start : Tree) → MovesNone script → start.filesets ≡ [] → start.away ≡ []
    → may_host script start ≡ true
