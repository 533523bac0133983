use Rattle.token_table.proofs.Numbering.{grants_each_need, grants_to_the_host, grants_the_next_numbers}
use Rattle.token_table.proofs.Numbering.{grants_new_numbers}
use Rattle.token_table.proofs.laws.next_tokens_law.Goals as goal

pub returns-clause-each : goal.returns-clause-each
returns-clause-each c = grants_each_need

pub returns-clause-host : goal.returns-clause-host
returns-clause-host c = grants_to_the_host

pub returns-clause-next : goal.returns-clause-next
returns-clause-next c = grants_the_next_numbers

pub returns-clause-new : goal.returns-clause-new
returns-clause-new c = grants_new_numbers
