-- Access lists in blocks.
use Rattle.std.specs.Prelude.{ℕ, ◌==◌, List, Option, Some, None, Result, Ok, Err, if◌then◌else◌}
use Rattle.std.specs.List.{list_all}
use Rattle.base_types.specs.declared.access.AccessEntry.{AccessEntry}
use Rattle.message_parts.specs.Access.{access_at}

-- the list at the front of a block, spelled as in messages, where all behind it is zero
abbrev pub list_before : Result (List AccessEntry × List ℕ) ℕ → Option (List AccessEntry)
list_before (Ok read) = if list_all (λ byte. byte == 0) read.1 then Some read.0 else None
list_before (Err left) = None

unfoldable pub list_in : List ℕ → Option (List AccessEntry)
list_in block = list_before (access_at block)
