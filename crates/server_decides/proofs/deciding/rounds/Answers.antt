use Rattle.std.proofs.Common.{◌≤◌, ◌*◌, arith}
use Rattle.std.proofs.lemmas.Nat.{mul-le}
use Rattle.server_decides.proofs.deciding.rounds.Goals as goal

pub returns : goal.returns
returns c =
    let more = c.saturating_add-more.result in
    let is = c.saturating_add-more.ensures in
    let some : 1 ≤ more = omega (arith, is) in
    let square : more * 1 ≤ more * more = mul-le more 1 more more (omega arith) some in
    omega (arith, is, square, c.saturating_mul.ensures)
