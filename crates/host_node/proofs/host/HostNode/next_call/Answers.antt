use Rattle.std.proofs.Common.{sym}
use Rattle.host_node.proofs.host.HostNode.next_call.Goals as goal

pub returns-in-Call-clause-can : goal.returns-in-Call-clause-can
returns-in-Call-clause-can c =
    let may = c.may_call.ensures.0 c.if-not-may_call.false in
    record {
      begun = may.0;
      live = may.1;
      free = may.2;
      line = c.in_ok-line.line.now;
      next = sym c.in_ok-line.ensures;
      makes = c.in-Call.is;
    }
