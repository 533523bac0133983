use Rattle.service_hosts.proofs.running.stopped_by.Goals as goal

pub overflow_sub-result : goal.overflow_sub-result
overflow_sub-result c = (c.requires c.in-Store.node c.in-Store.is).0
