use Rattle.std.proofs.Common.{None, Some, ap, arith, refl, sym}
use Rattle.host_calls.proofs.Judged.{write_backed, write_finds, write_stops}
use Rattle.host_calls.specs.declared.looking.Verdict.TheVariants.{Does, Writes}
use Rattle.host_walk.specs.Views.{held_by, view_of}
use Rattle.need_host.specs.Calls.Verdict.{Writes as WritesIt}
use Rattle.host_calls.proofs.looking.written.Goals as goal

pub returns-in-Ok-Some-clause-judged : goal.returns-in-Ok-Some-clause-judged
returns-in-Ok-Some-clause-judged c =
    let kept = c.args.sight.cache.now in
    let user = c.args.sight.user.now in
    let fid = c.in-Ok-Some.fid in
    let found = rw c.in-Ok-Some.field-0-is at c.in-Ok-Some.ensures in
    λ call is. write_finds kept user c.args.root c.args.path.now call c.args.from c.args.bytes.now
    (Writes fid c.args.from c.end_of.result) (Some fid) found (ap (λ b. WritesIt fid c.args.from b) (sym is))

pub returns-in-Ok-Some-clause-covers : goal.returns-in-Ok-Some-clause-covers
returns-in-Ok-Some-clause-covers c =
    let kept = c.args.sight.cache.now in
    let user = c.args.sight.user.now in
    let fid = c.in-Ok-Some.fid in
    let found = rw c.in-Ok-Some.field-0-is at c.in-Ok-Some.ensures in
    let b = write_backed (view_of kept) (held_by kept) user c.args.root c.args.path.now c.args.from c.args.bytes.now
    fid found in
    let fits = b.0 in
    (refl, omega (arith, fits), λ at low high. b.1 at low (omega (arith, fits, high)))

pub returns-in-Ok-None-clause-judged : goal.returns-in-Ok-None-clause-judged
returns-in-Ok-None-clause-judged c =
    let kept = c.args.sight.cache.now in
    let user = c.args.sight.user.now in
    let found = rw c.in-Ok-None.field-0-is at c.in-Ok-None.ensures in
    λ call is. write_finds kept user c.args.root c.args.path.now call c.args.from c.args.bytes.now Does None found refl

pub returns-in-Err-clause-judged : goal.returns-in-Err-clause-judged
returns-in-Err-clause-judged c =
    let kept = c.args.sight.cache.now in
    let user = c.args.sight.user.now in
    λ call is. write_stops kept user c.args.root c.args.path.now call c.args.from c.args.bytes.now c.in-Err.stop
    c.in-Err.ensures
