use Rattle.disk_records.proofs.Read.{record_is_read}
use Rattle.disk_records.proofs.Right.{record_has_no_faults}
use Rattle.disk_records.proofs.There.{record_is_there}
use Rattle.disk_records.proofs.laws.read_law.Goals as goal

pub returns-clause-record : goal.returns-clause-record
returns-clause-record c = record_is_read

pub returns-clause-faults : goal.returns-clause-faults
returns-clause-faults c = record_has_no_faults

pub returns-clause-there : goal.returns-clause-there
returns-clause-there c = record_is_there
