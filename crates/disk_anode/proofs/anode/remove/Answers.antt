use Rattle.disk_log.specs.Log.{state_of}
use Rattle.disk_anode.proofs.Changing.{freed_changed, counted_names, wrote_names}
use Rattle.disk_anode.proofs.anode.remove.Goals as goal

pub free_node-requires-clause-named : goal.free_node-requires-clause-named
free_node-requires-clause-named g c = λ told. counted_names c.args.page c.in_ok-node.node (state_of c.args.log.now) (state_of c.load_names.new.log) _ _ c.load_names.ensures.state c.load_names.ensures.quiet.image (c.in_ok-node.ensures.names told) (c.requires.named told)

pub returns-in_err-free_node-clause-wrote : goal.returns-in_err-free_node-clause-wrote
returns-in_err-free_node-clause-wrote g c = λ told. wrote_names c.args.page c.in_ok-node.node (state_of c.args.log.now) (state_of c.load_names.new.log) _ _ _ c.load_names.ensures.state c.load_names.ensures.quiet (c.in_ok-node.ensures.names told) (c.free_node.ensures.wrote told)

pub returns-clause-wrote : goal.returns-clause-wrote
returns-clause-wrote g c = λ told. wrote_names c.args.page c.in_ok-node.node (state_of c.args.log.now) (state_of c.load_names.new.log) _ _ _ c.load_names.ensures.state c.load_names.ensures.quiet (c.in_ok-node.ensures.names told) (c.free_node.ensures.wrote told)

pub returns-clause-changed : goal.returns-clause-changed
returns-clause-changed g c = λ told.
    freed_changed c.args.page c.in_ok-node.node (state_of c.args.log.now) (state_of c.load_names.new.log) (state_of c.free_node.new.log) _ _ _ c.load_names.ensures.state c.load_names.ensures.quiet.image
    (c.in_ok-node.ensures.page told) (c.in_ok-node.ensures.names told) (c.in_ok-free_node.ensures.turned told) (c.in_ok-free_node.ensures.bare told)
