use Rattle.disk_records.proofs.Mounted.{faultless_is_storable}
use Rattle.disk_records.proofs.Held.{faultless_says}
use Rattle.disk_records.proofs.Unrefused.{unrefused_is_mounted}
use Rattle.disk_records.proofs.mount_laws.mount_law.Goals as goal

pub returns-clause-storable : goal.returns-clause-storable
returns-clause-storable c = faultless_is_storable

pub returns-clause-says : goal.returns-clause-says
returns-clause-says c = faultless_says

pub returns-clause-mounted : goal.returns-clause-mounted
returns-clause-mounted c = unrefused_is_mounted
