use Rattle.std.proofs.Common.{◌∙◌, sym}
use Rattle.service_stores.proofs.Called.{named_err, named_ok}
use Rattle.service_stores.proofs.acts.leads_to.Goals as goal

pub returns-in-Ok : goal.returns-in-Ok
returns-in-Ok c =
    c.eq.ensures ∙ sym (named_ok c.args.server c.args.tree.now c.args.place.now c.in-Ok.fileset.now c.in-Ok.ensures)

pub returns-in-Err : goal.returns-in-Err
returns-in-Err c = sym (named_err c.args.server c.args.tree.now c.args.place.now c.in-Err.field-0 c.in-Err.ensures)
