use Rattle.std.proofs.Common.{◌∙◌, ◌+◌, ◌-◌, arith, get_or}
use Rattle.disk_fileset.proofs.Read.{text_slice}
use Rattle.disk_fileset.proofs.reading.name_in.Goals as goal

pub returns-in-Ok-clause-name : goal.returns-in-Ok-clause-name
returns-in-Ok-clause-name c =
    let page = c.args.page.now in
    let at = c.args.at in
    c.in-Ok.ensures.ok ∙ text_slice page (at + 1) (get_or page at 0) (at + 1 + get_or page at 0 - (at + 1)) (omega arith) (omega arith)
