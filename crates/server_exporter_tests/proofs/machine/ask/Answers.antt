use Rattle.std.proofs.lemmas.Result.{on_ok_weaker}
use Rattle.store_memory.specs.MapStores.{kept_in}
use Rattle.server_exporter_tests.proofs.Working.{kept_works, stored_kept}
use Rattle.server_exporter_tests.proofs.machine.ask.Goals as goal

pub look-requires : goal.look-requires
look-requires c =
    stored_kept _ c.args.machine.now c.store_all.new.keeper c.requires c.in_ok-store_all.ensures.tried

pub returns : goal.returns
returns c = on_ok_weaker c.look.result (λ k. kept_works c.args.machine.now.exporter
    (kept_in c.args.machine.now.keeper.store) c.look.new.keeper c.store_all.new.waiting c.requires.served k
    c.in_ok-store_all.ensures.none) c.look.ensures
