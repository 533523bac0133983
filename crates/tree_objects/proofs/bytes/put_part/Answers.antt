use Rattle.std.proofs.Common.{arith}
use Rattle.tree_objects.proofs.Taken.{replaced_in}
use Rattle.tree_objects.proofs.bytes.put_part.Goals as goal

pub returns : goal.returns
returns c = replaced_in c.args.bytes.now c.args.part.now c.args.at _ _ (omega arith) c.copy_from_slice.ensures.after
