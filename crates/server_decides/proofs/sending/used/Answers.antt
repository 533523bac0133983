use Rattle.server_decides.proofs.Parts.{compared_is}
use Rattle.server_decides.proofs.sending.used.Goals as goal

pub returns : goal.returns
returns c = (
  record {
    same = c.are_same_needs-same.result;
    is = compared_is c.are_same_needs-same.result _ _ c.args.found.now.needs c.args.needs.now
        c.are_same_needs-same.ensures c.as_slice.ensures c.as_slice-2.ensures;
  },
  c.using_by.ensures,
)
