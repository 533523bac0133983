use Rattle.service_run.proofs.Complete.{complete}
use Rattle.service_run.proofs.laws.complete_law.Goals as goal

pub returns : goal.returns
returns g c = λ play outcome old new before after told read can calm ends over.
    complete g.D.Disk.tells g.D.Disk.view play outcome old new before after told read can calm ends over
