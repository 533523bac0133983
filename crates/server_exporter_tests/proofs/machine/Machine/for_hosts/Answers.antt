use Rattle.std.proofs.Common.{◌∙◌, ap, sym}
use Rattle.store_memory.specs.MapStores.{kept_in}
use Rattle.store_memory.specs.declared.map_store.MapStore.{MapStore}
use Rattle.store_state.specs.declared.state.StoreState.{StoreState}
use Rattle.server_exporter_tests.proofs.Working.{works_new}
use Rattle.server_exporter_tests.proofs.machine.Machine.for_hosts.Goals as goal

pub returns : goal.returns
returns c =
    let kept = ap kept_in c.new-3.ensures.store ∙ c.in_ok-store.ensures in
    works_new c.in_ok-exporter.exporter c.new-3.result c.new-4.result _ _ _ c.in_ok-exporter.ensures
    (ap (λ (s : StoreState). s.server) kept) (ap (λ (s : StoreState). s.roster) kept) c.new-3.ensures.fit
    c.new-4.ensures c.requires
