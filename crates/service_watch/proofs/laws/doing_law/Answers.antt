use Rattle.service_watch.proofs.Going.{gone_acts}
use Rattle.service_watch.proofs.laws.doing_law.Goals as goal

pub returns : goal.returns
returns g c = λ result acts old new each same does. gone_acts result acts (g.S.Store.view old) (g.S.Store.view new)
    each same does
