use Rattle.std.proofs.Common.{◌≡◌, ◌+◌, ℕ, length, refl, subst, arith}
use Rattle.std.proofs.lemmas.Result.{on_ok_weaker}
use Rattle.base_types.specs.Image.{Torn}
use Rattle.base_outside.proofs.Runs.{weaker}
use Rattle.disk_layout.proofs.Switch.{generation_torn}
use Rattle.disk_log.proofs.Mounting.{number_put}
use Rattle.disk_log.proofs.switch.write_generation.Goals as goal

pub returns-clause-written : goal.returns-clause-written
returns-clause-written g c = λ told. on_ok_weaker c.write_through.result (λ holds. number_put 8 (c.args.other + 8) c.args.generation c.put_u64.new.bytes _ (omega arith) c.put_u64.ensures.number holds) (c.write_through.ensures.written told)

pub returns-clause-same : goal.returns-clause-same
returns-clause-same g c = λ told.
    let size : length c.put_u64.new.bytes ≡ 8 = omega arith in
    let torn = subst (λ (n : ℕ). Torn (c.args.other + 8) n (g.D.Disk.view c.args.disk.now).image (g.D.Disk.view c.write_through.new.disk).image) size (c.write_through.ensures.torn told) in
    (torn, generation_torn _ _ 8 _ _ refl c.requires.sides (c.requires.ahead told) (c.requires.closed told) torn)

pub returns-clause-crash : goal.returns-clause-crash
returns-clause-crash g c = λ told.
    let size : length c.put_u64.new.bytes ≡ 8 = omega arith in
    weaker c.write_through.ensures.crash
    (λ d left. let torn = subst (λ (n : ℕ). Torn (c.args.other + 8) n (g.D.Disk.view c.args.disk.now).image d) size left in
    (torn, generation_torn _ _ 8 _ _ refl c.requires.sides (c.requires.ahead told) (c.requires.closed told) torn))
