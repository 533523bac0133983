use Rattle.server_decides.proofs.Parts.{compared_is}
use Rattle.server_decides.proofs.deciding.judged.Goals as goal

pub returns-clause-due : goal.returns-clause-due
returns-clause-due c = (
  record {
    same = c.are_same_needs-same.result;
    is = compared_is c.are_same_needs-same.result _ _ c.args.found.needs c.args.needs.now
        c.are_same_needs-same.ensures c.as_slice.ensures c.as_slice-2.ensures;
  },
  c.decision_by.ensures.due,
)
