use Rattle.std.proofs.Common.{◌≡◌, ◌<◌, ◌≤◌, length, get_or, arith, ap}
use Rattle.service_plain.proofs.Steps.{along_next, along_all}
use Rattle.service_plain.proofs.play.Play.go_through.Goals as goal

pub loop-line-preserved : goal.loop-line-preserved
loop-line-preserved c =
    let i = c.loop-line.line-index in
    let same : length c.as_slice-line-items.result.now ≡ length c.args.lines.now = ap length c.as_slice-line-items.ensures in
    let w : i < length c.args.lines.now = omega arith in
    let item : c.line-item.result ≡ get_or c.args.lines.now i c.line-item.result = rw c.as_slice-line-items.ensures at c.line-item.is in
    record { goes = along_next c.args.lines.now i c.line-item.result _ _ _ w item c.loop-line.invariant.goes c.in_ok-go.ensures.goes; fit = c.in_ok-go.ensures.fit }

pub returns-clause-goes : goal.returns-clause-goes
returns-clause-goes c =
    let same : length c.as_slice-line-items.result.now ≡ length c.args.lines.now = ap length c.as_slice-line-items.ensures in
    let w : length c.args.lines.now ≤ c.loop-line.line-index = omega arith in
    along_all c.args.lines.now c.loop-line.line-index _ _ w c.loop-line.invariant.goes
