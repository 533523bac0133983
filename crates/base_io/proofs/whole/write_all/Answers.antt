use Rattle.std.proofs.Common.{arith}
use Rattle.std.proofs.lemmas.Grind.{common_steps}
use Rattle.std.proofs.Math.Seq.{take-add}
use Rattle.base_io.proofs.whole.write_all.Goals as goal

pub loop-done-preserved : goal.loop-done-preserved
loop-done-preserved g c = record {
  written = λ told. grind (arith, common_steps, take-add c.loop-done.done c.in_ok-n.n c.args.piece.now, c.in_ok-n.ensures.appended told, c.loop-done.invariant.written told);
  within = grind (arith, common_steps);
  counted = omega arith;
}
