use Rattle.server_node.proofs.Turns.{all_taken, none_left}
use Rattle.server_node.proofs.server.ServerNode.make_room.Goals as goal

pub returns-clause-theirs : goal.returns-clause-theirs
returns-clause-theirs g c =
    all_taken c.take_kept.result c.take_kept.new.self.exporter.tables c.take_kept.new.self.inbox
    c.take_kept.ensures.inbox

pub returns-clause-works : goal.returns-clause-works
returns-clause-works g c = λ part past came lapses so.
    none_left g.S.Store.tells g.S.Store.view part past c.take_kept.result c.take_kept.new.self
    c.take_kept.new.steps.steps came lapses c.take_kept.ensures.inbox
    (c.take_kept.ensures.works part past came lapses so)
