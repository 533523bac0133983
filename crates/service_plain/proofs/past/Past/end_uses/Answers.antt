use Rattle.std.proofs.Common.{◌≡◌, ◌+◌, ◌<◌, length, get_or, take, arith, sym, ap, subst}
use Rattle.std.proofs.lemmas.List.{length-take}
use Rattle.service_plain.specs.Underway.{Ends}
use Rattle.service_plain.proofs.Ending.{ends_more, take_next}
use Rattle.service_plain.proofs.past.Past.end_uses.Goals as goal

pub loop-used-preserved : goal.loop-used-preserved
loop-used-preserved c =
    let i = c.loop-used.used-index in
    let same : length c.as_slice-used-items.result.now ≡ length c.args.uses.now = ap length c.as_slice-used-items.ensures in
    let w : i < length c.args.uses.now = omega arith in
    let item : c.used-item.result ≡ get_or c.args.uses.now i c.used-item.result = rw c.as_slice-used-items.ensures at c.used-item.is in
    let len = length-take i c.args.uses.now in
    let next : c.in_ok-k.k ≡ c.loop-used.k + 1 = c.in_ok-k.ensures in
    record {
      ends = subst (λ list. Ends c.args.host c.args.calls list c.args.self.now c.end_use.new.self) (sym (take_next c.args.uses.now i c.used-item.result w item))
          (ends_more c.args.host c.args.calls c.in_ok-k.k (take i c.args.uses.now) c.used-item.result c.in_ok-end_use.field-0 c.args.self.now c.loop-used.self c.end_use.new.self c.loop-used.invariant.ends c.in_ok-end_use.ensures
          (let n = c.loop-used.invariant.number in omega arith));
      number = let n = c.loop-used.invariant.number in omega arith;
    }
