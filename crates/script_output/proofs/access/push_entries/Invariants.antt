use Rattle.std.proofs.Common.{◌≡◌, ◌++◌, drop}
use Rattle.std.specs.Prelude.{codes}
use Rattle.std.specs.List.{flat_map}
use Rattle.script_output.specs.Access.{entry_text}
use Rattle.script_output.proofs.access.push_entries.Given as goal

-- the entries so far, and those that are left
abbrev pub invariant-loop-entry : goal.invariant-loop-entry
invariant-loop-entry l =
    l.out ++ flat_map (λ entry. codes "," ++ entry_text entry) (drop l.entry-index l.rest)
    ≡ l.initial.out ++ flat_map (λ entry. codes "," ++ entry_text entry) l.rest
