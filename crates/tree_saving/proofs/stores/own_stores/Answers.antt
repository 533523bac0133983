use Rattle.tree_saving.proofs.Reached.{few_anodes}
use Rattle.tree_saving.proofs.stores.own_stores.Goals as goal

pub push_stores-requires : goal.push_stores-requires
push_stores-requires c = few_anodes c.args.tree.now c.as_slice-fileset-items.result.now c.loop-fileset.fileset-index c.fileset-item.result c.requires c.as_slice-fileset-items.ensures c.loop-fileset-test.true c.fileset-item.is
