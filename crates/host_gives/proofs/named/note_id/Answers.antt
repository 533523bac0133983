use Rattle.std.proofs.Common.{◌≡◌, subst, sym, true}
use Rattle.host_gives.specs.Named.{has_id}
use Rattle.host_gives.proofs.Naming.{keeps_put}
use Rattle.host_gives.proofs.named.note_id.Goals as goal

pub returns-clause-keeps : goal.returns-clause-keeps
returns-clause-keeps c id e =
    keeps_put c.named.inside.ids.keys c.insert.new.self.keys c.id_key.result c.in_ok-insert.ensures.updates.0 id
    (subst (λ named. has_id named id ≡ true) (sym c.named.view_is) e)
