use Rattle.run_history.proofs.UseHostLaw.{hosts_know, hosts_leave, labels_are_of_uses, labels_begin}
use Rattle.run_history.proofs.use_laws.hosts_keep_labels.Goals as goal

pub returns : goal.returns
returns c = record { same = labels_are_of_uses; start = labels_begin; known = hosts_know; after = hosts_leave }
