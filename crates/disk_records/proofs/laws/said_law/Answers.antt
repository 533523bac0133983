use Rattle.disk_records.proofs.Stated.{stays_are_said, headers_are_said, facts_are_said}
use Rattle.disk_records.proofs.laws.said_law.Goals as goal

pub returns-clause-stays : goal.returns-clause-stays
returns-clause-stays c = stays_are_said

pub returns-clause-headers : goal.returns-clause-headers
returns-clause-headers c = headers_are_said

pub returns-clause-facts : goal.returns-clause-facts
returns-clause-facts c = facts_are_said
