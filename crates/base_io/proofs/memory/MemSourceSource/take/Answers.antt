use Rattle.std.proofs.Common.{arith, drop}
use Rattle.std.proofs.lemmas.Grind.{common_steps}
use Rattle.std.proofs.lemmas.List.{drop-drop, take-append-drop}
use Rattle.base_io.proofs.memory.MemSourceSource.take.Goals as goal

-- what was moved and what is left make up what was left before
pub returns-clause-moved : goal.returns-clause-moved
returns-clause-moved c = λ _.
    let bytes = c.args.self.now.bytes in
    let at = c.args.self.now.taken in
    let n = c.copied-n.result in
    grind (arith, common_steps, take-append-drop n (drop at bytes), drop-drop n at bytes)
