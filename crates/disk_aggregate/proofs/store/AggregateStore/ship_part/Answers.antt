use Rattle.std.proofs.Common.{◌≡◌, sym, subst}
use Rattle.std.specs.Prelude.{IfOk}
use Rattle.message_types.specs.Soundness.{IsPart}
use Rattle.store_memory.specs.Reading.{shipped}
use Rattle.store_memory.specs.Sound.{IsLeavingOf, IsMover}
use Rattle.store_state.specs.declared.state.StoreState.{StoreState}
use Rattle.disk_aggregate.specs.Stands.{disk_in}
use Rattle.disk_aggregate.proofs.Asked.{asked_none, asked_still}
use Rattle.disk_aggregate.proofs.Seen.{seen_open}
use Rattle.disk_aggregate.proofs.store.AggregateStore.ship_part.Goals as goal

pub returns-then-not-tells_part-clause-asked : goal.returns-then-not-tells_part-clause-asked
returns-then-not-tells_part-clause-asked g c = asked_none g.D.Disk.tells g.D.Disk.view c.args.self.now c.requires.ready (λ told. g.met.D.Disk.has_bytes (disk_in c.args.self.now) told)

pub ship_part-requires-clause-leaving : goal.ship_part-requires-clause-leaving
ship_part-requires-clause-leaving g c = λ told. subst (λ (s : StoreState). IsLeavingOf s c.args.fileset c.args.at) c.state.ensures.kept (c.tells_part.ensures.is c.if-not-tells_part.false)

pub ship_part-requires-clause-mover : goal.ship_part-requires-clause-mover
ship_part-requires-clause-mover g c = subst (λ (s : StoreState). IsMover s.roster c.args.mover.now) (seen_open g.D.Disk.view c.args.self.now c.requires.ready.0) c.requires.mover

pub returns-clause-part : goal.returns-clause-part
returns-clause-part g c = λ told. subst (λ (s : StoreState). IfOk c.ship_part.result (λ part. part ≡ shipped s c.args.fileset c.args.at c.args.mover.now)) (sym (seen_open g.D.Disk.view c.args.self.now c.requires.ready.0)) (c.ship_part.ensures.part tt)

pub returns-clause-sound : goal.returns-clause-sound
returns-clause-sound g c = subst (λ (s : StoreState). IfOk c.ship_part.result (λ part. IsPart s.roster c.args.at part)) (sym (seen_open g.D.Disk.view c.args.self.now c.requires.ready.0)) c.ship_part.ensures.sound

pub returns-clause-asked : goal.returns-clause-asked
returns-clause-asked g c =
    asked_still g.D.Disk.tells g.D.Disk.view c.args.self.now c.requires.ready (λ told. g.met.D.Disk.has_bytes (disk_in c.args.self.now) told) c.ship_part.result c.ship_part.new.self c.ship_part.ensures.asked
