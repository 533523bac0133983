use Rattle.std.proofs.Common.{◌≡◌, ◌∙◌, List, ℕ, ap, arith}
use Rattle.std.proofs.lemmas.Result.{on_ok_weaker}
use Rattle.base_types.specs.Image.{byte_at}
use Rattle.base_outside.proofs.Image.{byte_at-holds}
use Rattle.base_outside.proofs.Runs.{then, quiet}
use Rattle.service_disks.proofs.Gate.{gate_leaves}
use Rattle.service_disks.proofs.formatting.shut_gate.Goals as goal

pub returns-clause-shut : goal.returns-clause-shut
returns-clause-shut g c = λ told.
    on_ok_weaker c.write_through.result (λ holds is. absurd (let e = byte_at-holds _ _ _ holds in omega (arith, e, is))) (c.write_through.ensures.written told)

pub returns-clause-crash : goal.returns-clause-crash
returns-clause-crash g c = λ told.
    (let opened : byte_at (g.D.Disk.view c.args.disk.now).image 0 ≡ 1 = let read = c.in_ok-read_byte.ensures.byte told in grind (arith, read) in
    let still = ap (λ (l : List ℕ). byte_at l 0) (c.sync.ensures.quiet.image ∙ c.read_byte.ensures.quiet.image) in
    then (quiet _ c.read_byte.ensures.quiet)
    (then (quiet _ c.sync.ensures.quiet)
    (gate_leaves (g.D.Disk.view c.sync.new.self) (g.D.Disk.view c.write_through.new.disk) (g.met.D.Disk.reads_one c.sync.new.self told) (still ∙ opened) c.write_through.ensures.crash)))
