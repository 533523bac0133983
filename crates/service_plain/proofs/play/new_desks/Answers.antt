use Rattle.std.proofs.Common.{◌≡◌, ◌∷◌, [], length, arith, sym, ap, subst, length-append}
use Rattle.service_plain.specs.Underway.{AreNew}
use Rattle.service_plain.proofs.Steps.{new_more}
use Rattle.service_plain.proofs.play.new_desks.Goals as goal

pub loop-host-preserved : goal.loop-host-preserved
loop-host-preserved c =
    let made : c.push.new.self ≡ _ = c.in_ok-push.ensures.ok in
    let len = length-append c.loop-host.desks (c.new_desk.result ∷ []) in
    let all = ap length made in
    record {
      count = let n = c.loop-host.invariant.count in omega arith;
      each = subst (AreNew c.args.script.now) (sym made) (new_more c.args.script.now c.loop-host.desks _ c.new_desk.result c.loop-host.invariant.each c.loop-host.invariant.count c.new_desk.ensures);
    }
