use Rattle.disk_acts.proofs.Outcomes.{keeps_tables, keeps_stale}
use Rattle.disk_acts.proofs.laws.tables_law.Goals as goal

pub returns-clause-tables : goal.returns-clause-tables
returns-clause-tables c = λ state act tables is. keeps_tables state act tables is

pub returns-clause-stale : goal.returns-clause-stale
returns-clause-stale c = λ state act e. keeps_stale state act e
