-- By what wants that wait are known, and which Changes can be answered.
use Rattle.std.specs.Prelude.{◌==◌, Bool, false, ◌&&◌, ◌||◌, not, is_none, List}
use Rattle.std.specs.List.{list_any}
use Rattle.base_types.specs.declared.ids.HostId.{HostId}
use Rattle.message_types.specs.declared.asking.Change.{Change as ChangeOf}
use Rattle.need_host.specs.Questions.{fileset_of}
use Rattle.run_rules.specs.Wants.{is_use, locks_nothing}
use Rattle.run_rules.specs.declared.applied.Request.{Request}
use Rattle.run_rules.specs.declared.applied.Request.TheVariants.{Change as Changes, Fetch as Asks}
use Rattle.server_tables.specs.declared.pending.Pending.{Pending}

-- two requests of a host can't both wait
abbrev pub is_same_number : Request → Request → Bool
is_same_number (Asks f) (Asks g) = (f.fid.fileset.0 == g.fid.fileset.0) && (f.number == g.number)
is_same_number (Changes c) (Changes d) = c.fileset.0 == d.fileset.0
is_same_number _ _ = false

abbrev pub is_for : Pending → HostId → Request → Bool
is_for p host request = (p.wanted.host.0 == host.0) && is_same_number p.wanted.request request

abbrev pub is_meant_so : ChangeOf → Bool
is_meant_so change = not (change.enter && is_none (fileset_of change.call))
    && ((not (is_use change.call) || (change.fid.fileset.0 == change.fileset.0)) && not (locks_nothing change.call))

-- a want of a host waits that is known by the same number
abbrev pub is_waiting : List Pending → HostId → Request → Bool
is_waiting pendings host request = list_any (λ p. is_for p host request) pendings
