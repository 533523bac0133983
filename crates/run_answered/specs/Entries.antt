-- The calls of a host in a history. Lists of steps have the newest first.
use Rattle.std.specs.Prelude.{if◌then◌else◌, List, [], ◌∷◌, ◌++◌, ◌==◌}
use Rattle.base_types.specs.declared.ids.HostId.{HostId}
use Rattle.tree_calls.specs.declared.entry.Entry.{Entry}
use Rattle.tree_calls.specs.declared.entry.Entry.TheVariants.{Call as Called}
use Rattle.run_due.specs.Begun.{asked_as}
use Rattle.run_rules.specs.declared.step.Asked.{Asked}

-- the call of an entry, where it is the host's
abbrev pub entry_as : HostId → Entry → List Asked
entry_as host (Called by k call reply) = if by.0 == host.0 then asked_as k call ∷ [] else []
entry_as host _ = []

-- the calls of a host in a history, in its order
abbrev pub entered : HostId → List Entry → List Asked
entered host [] = []
entered host (e ∷ es) = entry_as host e ++ entered host es
