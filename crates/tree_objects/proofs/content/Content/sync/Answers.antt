use Rattle.std.proofs.Common.{sym}
use Rattle.tree_objects.proofs.content.Content.sync.Goals as goal

pub returns-clause-ok : goal.returns-clause-ok
returns-clause-ok c = rw (sym c.own_length-length.ensures) c.store.ensures.ok
