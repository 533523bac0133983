use Rattle.run_history.proofs.IdleLaw.{answers_leave_idle, idle_hosts_have_labels, labels_are_the_runs}
use Rattle.run_history.proofs.past_laws.hosts_have_their_labels.Goals as goal

pub returns : goal.returns
returns c = record { labels = labels_are_the_runs; tree = idle_hosts_have_labels; idle = answers_leave_idle }
