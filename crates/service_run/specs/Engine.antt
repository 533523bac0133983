-- How a script that runs goes.
use Rattle.std.specs.Prelude.{◌≡◌}
use Rattle.tree_answers.specs.declared.tree.Tree.{Tree}
use Rattle.script_lines.specs.declared.script.Script.{Script}
use Rattle.service_plain.specs.Played.{IsPlayed}
use Rattle.service_plain.specs.declared.played.Played.{Played}

-- a script was run, from this tree on
pub record HasPlayed (script : Script) (from : Tree) (run : Played) : Type 0 where
  pub start : run.start ≡ from
  pub played : IsPlayed script run
