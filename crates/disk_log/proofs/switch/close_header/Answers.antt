use Rattle.std.proofs.Common.{◌≡◌, List, ℕ, subst, arith}
use Rattle.std.proofs.lemmas.Result.{on_ok_weaker}
use Rattle.base_types.specs.Image.{byte_at, Torn}
use Rattle.base_outside.proofs.Image.{byte_at-holds}
use Rattle.base_outside.proofs.Runs.{then, quiet, weaker}
use Rattle.disk_layout.proofs.Switch.{gate_torn}
use Rattle.disk_log.proofs.switch.close_header.Goals as goal

pub returns-clause-closed : goal.returns-clause-closed
returns-clause-closed g c = λ told.
    on_ok_weaker c.write_through.result (λ holds is. absurd (let e = byte_at-holds _ _ _ holds in omega (arith, e, is))) (c.write_through.ensures.written told)

pub returns-clause-same : goal.returns-clause-same
returns-clause-same g c = λ told.
    let old = (g.D.Disk.view c.args.disk.now).image in
    let opened : byte_at old c.args.other ≡ 1 = let read = c.in_ok-read_byte.ensures.byte told in grind (arith, read) in
    let torn = subst (λ (image : List ℕ). Torn c.args.other 1 image (g.D.Disk.view c.write_through.new.disk).image) c.read_byte.ensures.quiet.image (c.write_through.ensures.torn told) in
    (torn, gate_torn _ _ _ _ c.requires.sides (c.requires.ahead told) opened torn)

pub returns-clause-crash : goal.returns-clause-crash
returns-clause-crash g c = λ told.
    let old = (g.D.Disk.view c.args.disk.now).image in
    let opened : byte_at old c.args.other ≡ 1 = let read = c.in_ok-read_byte.ensures.byte told in grind (arith, read) in
    then (quiet _ c.read_byte.ensures.quiet)
    (weaker c.write_through.ensures.crash
    (λ d left. let torn = subst (λ (image : List ℕ). Torn c.args.other 1 image d) c.read_byte.ensures.quiet.image left in
    (torn, gate_torn _ _ _ _ c.requires.sides (c.requires.ahead told) opened torn)))
