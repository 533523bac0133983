use Rattle.std.proofs.Common.{◌≡◌, ◌*◌}
use Rattle.disk_pages.specs.Numbers.{record_at}
use Rattle.disk_image.specs.Joined.{listed}
use Rattle.disk_records.proofs.server.records_in.Given as goal

abbrev pub invariant-loop-host : goal.invariant-loop-host
invariant-loop-host l = l.records ≡ listed (λ host. record_at (24 * host) l.page) l.host
