use Rattle.store_memory.specs.MapStores.{map_view}
use Rattle.server_exporter_tests.proofs.Working.{none_wait, served_still, works_tried}
use Rattle.server_exporter_tests.proofs.machine.restart.Goals as goal

pub restart-requires-clause-served : goal.restart-requires-clause-served
restart-requires-clause-served c =
    served_still c.args.machine.now.exporter.tables (map_view c.args.machine.now.keeper.store)
    (map_view c.store_all.new.keeper.store) c.requires.served c.in_ok-store_all.ensures.tried.same

pub returns : goal.returns
returns c = works_tried _ c.restart.new.self c.store_all.new.keeper c.restart.new.keeper c.store_all.new.waiting
    c.in_ok-step.ensures.tried c.in_ok-step.ensures.served
    (none_wait (map_view c.restart.new.keeper.store).state c.store_all.new.waiting c.in_ok-store_all.ensures.none)
