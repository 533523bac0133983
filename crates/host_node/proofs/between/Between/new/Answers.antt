use Rattle.host_node.proofs.Waiting.{none_kept}
use Rattle.std.proofs.Common.{[], rules}
use Rattle.host_node.proofs.between.Between.new.Goals as goal

pub returns : goal.returns
returns c = λ lines host. none_kept lines host [] _ _ _ (search rules) (search rules) (search rules)
