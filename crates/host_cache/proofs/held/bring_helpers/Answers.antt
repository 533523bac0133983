use Rattle.std.proofs.Common.{◌+◌, ◌-◌, ap, sym, ◌∙◌, arith}
use Rattle.host_cache.specs.Holding.{helps_cover}
use Rattle.host_cache.proofs.Parting.{step_yes, step_no}
use Rattle.host_cache.proofs.held.bring_helpers.Goals.{then-helps_cover, else-helps_cover}
use Rattle.host_cache.proofs.held.bring_helpers.Goals as goal

pub loop-index-preserved : goal.loop-index-preserved
loop-index-preserved c =
    let need = c.args.need.now in
    let old = c.args.tokens.now in
    let cur = c.loop-index.tokens in
    let i = c.loop-index.index in
    let front = c.loop-index.front in
    let x = c.index-tokens-index.result in
    let inv = c.loop-index.invariant in
    let helps = ap (helps_cover need) c.index-tokens-index.is ∙ sym c.helps_cover.ensures in
    elim c.if-helps_cover.branch [
      | then-helps_cover w ↦
          let h = step_yes (helps_cover need) old cur i front x c.loop-index-test.true inv.0 inv.1
          c.index-tokens-index.is
          (helps ∙ w.if-helps_cover.true) (i + 1 - front) w.rotate_right.new.self (omega arith)
          w.rotate_right.ensures.after in
          (w.tokens-is ∙ h.0, w.front-is ∙ h.1)
      | else-helps_cover w ↦
          let h = step_no (helps_cover need) old cur i front x c.loop-index-test.true inv.0 inv.1
          c.index-tokens-index.is
          (helps ∙ w.if-helps_cover.false) in
          (w.tokens-is ∙ h.0, w.front-is ∙ h.1)
    ]
