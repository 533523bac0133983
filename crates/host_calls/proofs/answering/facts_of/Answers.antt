use Rattle.host_calls.proofs.Replied.{facts_so}
use Rattle.host_calls.proofs.answering.facts_of.Goals as goal

pub returns-in_ok-copy-in-Some : goal.returns-in_ok-copy-in-Some
returns-in_ok-copy-in-Some c =
    facts_so c.args.tables.now.cache c.args.tables.now.user c.args.fid c.in-Some.status.now c.length_of.result
    c.in_ok-copy-in-Some.field-0 c.rights_on.result c.in-Some.ensures c.length_of.ensures c.length_of.type_inv
    c.in_ok-copy-in-Some.ensures c.rights_on.ensures
