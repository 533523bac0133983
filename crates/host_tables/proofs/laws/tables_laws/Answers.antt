use Rattle.host_tables.proofs.Assembling.{may_assembled}
use Rattle.host_tables.proofs.Fetching.{fetches_may}
use Rattle.host_tables.proofs.Giving.{gives_are_right}
use Rattle.host_tables.proofs.Letting.{leaves_may}
use Rattle.host_tables.proofs.Quiet.{quiet_settles}
use Rattle.host_tables.proofs.Replying.{replies_may}
use Rattle.host_tables.proofs.Settling.{settles_right}
use Rattle.host_tables.proofs.laws.tables_laws.Goals as goal

pub returns : goal.returns
returns c = record {
  may = may_assembled;
  replies = replies_may;
  fetches = fetches_may;
  gives = gives_are_right;
  leaves = leaves_may;
  settles = settles_right;
  quiet = quiet_settles;
}
