use Rattle.message_types.specs.Soundness.{Each}
use Rattle.store_memory.specs.Sound.{IsSlot}
use Rattle.std.proofs.Common.{◌≡◌, sym, subst}
use Rattle.std.specs.Prelude.{IfOk}
use Rattle.store_memory.specs.Reading.{slots_from}
use Rattle.store_state.specs.declared.state.StoreState.{StoreState}
use Rattle.disk_aggregate.specs.Stands.{disk_in}
use Rattle.disk_aggregate.proofs.Asked.{asked_still}
use Rattle.disk_aggregate.proofs.Seen.{seen_open}
use Rattle.disk_aggregate.proofs.store.AggregateStore.slots.Goals as goal

pub returns-clause-slots : goal.returns-clause-slots
returns-clause-slots g c = λ told. subst (λ (s : StoreState). IfOk c.slots.result (λ slots. slots ≡ slots_from 0 s.slots)) (sym (seen_open g.D.Disk.view c.args.self.now c.requires.ready.0)) (c.slots.ensures.slots tt)

pub returns-clause-asked : goal.returns-clause-asked
returns-clause-asked g c =
    asked_still g.D.Disk.tells g.D.Disk.view c.args.self.now c.requires.ready (λ told. g.met.D.Disk.has_bytes (disk_in c.args.self.now) told) c.slots.result c.slots.new.self c.slots.ensures.asked

pub returns-clause-sound : goal.returns-clause-sound
returns-clause-sound g c = subst (λ (s : StoreState). IfOk c.slots.result (λ slots. Each (IsSlot s.roster) slots)) (sym (seen_open g.D.Disk.view c.args.self.now c.requires.ready.0)) c.slots.ensures.sound
