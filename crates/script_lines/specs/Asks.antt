-- Which lines ask a host for a call.
use Rattle.std.specs.Prelude.{ℕ, ◌==◌, ◌&&◌, Bool, true, false, ◌++◌, count_by}
use Rattle.base_types.specs.declared.ids.Node.{Node}
use Rattle.base_types.specs.declared.ids.Node.TheVariants.{Host, Server}
use Rattle.script_lines.specs.declared.script.Deed.{Deed}
use Rattle.script_lines.specs.declared.script.Deed.TheVariants.{Call}
use Rattle.script_lines.specs.declared.script.Line.{Line}
use Rattle.script_lines.specs.declared.script.Script.{Script}

-- whether a node is the host of this number
abbrev pub is_host : ℕ → Node → Bool
is_host host (Host id) = id.0 == host
is_host host (Server id) = false

-- whether a deed is a call
abbrev pub is_call : Deed → Bool
is_call (Call call) = true
is_call _ = false

-- whether a line asks a host for a call
abbrev pub is_call_of : ℕ → Line → Bool
is_call_of host line = is_host host line.node && is_call line.deed

-- how many lines of a script ask a host for a call; those that ask the setup host make the filesets
unfoldable pub call_lines : Script → ℕ → ℕ
call_lines script host = count_by (is_call_of host) (script.setup ++ script.lines)
