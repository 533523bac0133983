use Rattle.std.proofs.Common.{◌∙◌, ◌+◌, arith}
use Rattle.disk_pages.proofs.Kept.{number_kept}
use Rattle.disk_pages.proofs.fields.put_taken.Goals as goal

pub returns-clause-taken : goal.returns-clause-taken
returns-clause-taken c =
    let ship = number_kept 8 c.args.at (c.args.at + 8) c.put_u64.new.bytes c.put_byte.new.page (omega arith)
    c.put_byte.ensures.rest.before ∙ c.put_u64.ensures.number in
    let code = c.put_byte.ensures.byte in
    λ i. record { ship = ship i; code = code i }
