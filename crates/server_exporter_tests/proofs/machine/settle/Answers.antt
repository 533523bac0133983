use Rattle.store_memory.specs.MapStores.{map_view}
use Rattle.server_exporter_tests.proofs.Working.{none_wait, served_still, works_tried}
use Rattle.server_exporter_tests.proofs.machine.settle.Goals as goal

pub settle-requires-clause-served : goal.settle-requires-clause-served
settle-requires-clause-served c =
    served_still c.args.machine.now.exporter.tables (map_view c.args.machine.now.keeper.store)
    (map_view c.store_all.new.keeper.store) c.requires.served c.in_ok-store_all.ensures.tried.same

pub returns : goal.returns
returns c = works_tried _ c.settle.new.self c.store_all.new.keeper c.settle.new.keeper c.store_all.new.waiting
    c.in_ok-step.ensures.tried c.in_ok-step.ensures.served
    (none_wait (map_view c.settle.new.keeper.store).state c.store_all.new.waiting c.in_ok-store_all.ensures.none)
