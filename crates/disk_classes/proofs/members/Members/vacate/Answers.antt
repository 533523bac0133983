use Rattle.std.proofs.Common.{arith}
use Rattle.disk_classes.proofs.Vacating.{vacate_more, vacated_all, vacated_put, vacated_kept}
use Rattle.disk_classes.proofs.members.Members.vacate.Goals as goal

pub loop-number-preserved : goal.loop-number-preserved
loop-number-preserved c =
    let inv = c.loop-number.invariant in
    let next = vacate_more c.args.class c.args.self.now.noted c.args.self.now.values c.loop-number.number c.loop-number.self.noted c.loop-number.self.values c.vacate_one.new.self.noted c.vacate_one.new.self.values
    (let lt = c.loop-number-test.true in let e = c.len-number-end.ensures in omega (arith, lt, e))
    (record { size = inv.size; past = inv.past; ahead = inv.ahead; put = inv.put; kept = inv.kept }) c.vacate_one.ensures.gone c.vacate_one.ensures.stays in
    record { size = next.size; past = next.past; ahead = next.ahead; put = next.put; kept = next.kept }

pub returns-clause-noted : goal.returns-clause-noted
returns-clause-noted c =
    let inv = c.loop-number.invariant in
    vacated_all c.args.class c.args.self.now.noted c.args.self.now.values c.loop-number.number c.loop-number.self.noted c.loop-number.self.values
    (let past = c.loop-number-test.false in let e = c.len-number-end.ensures in omega (arith, past, e))
    (record { size = inv.size; past = inv.past; ahead = inv.ahead; put = inv.put; kept = inv.kept })

pub returns-clause-put : goal.returns-clause-put
returns-clause-put c =
    let inv = c.loop-number.invariant in
    vacated_put c.args.class c.args.self.now.noted c.args.self.now.values c.loop-number.number c.loop-number.self.noted c.loop-number.self.values
    (let past = c.loop-number-test.false in let e = c.len-number-end.ensures in omega (arith, past, e))
    (record { size = inv.size; past = inv.past; ahead = inv.ahead; put = inv.put; kept = inv.kept })

pub returns-clause-kept : goal.returns-clause-kept
returns-clause-kept c =
    let inv = c.loop-number.invariant in
    vacated_kept c.args.class c.args.self.now.noted c.args.self.now.values c.loop-number.number c.loop-number.self.noted c.loop-number.self.values
    (record { size = inv.size; past = inv.past; ahead = inv.ahead; put = inv.put; kept = inv.kept })
