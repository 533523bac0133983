use Rattle.std.proofs.Common.{List, ap}
use Rattle.base_types.specs.declared.ids.Fid.{Fid}
use Rattle.host_tells.proofs.at_once.answer_counted.Goals as goal

pub returns-in_err-count : goal.returns-in_err-count
returns-in_err-count c =
    rw c.from_residual.ensures c.in_err-count.ensures

pub returns : goal.returns
returns c =
    let marked = c.answer_along.new.tables in (
      marked,
      c.in_ok-count.ensures,
      ap (λ (lost : List Fid). record marked { begun = c.args.begun; lost = lost })
          c.truncate.ensures,
    )
