use Rattle.message_types.specs.Soundness.{IsHost, IsCall}
use Rattle.store_acts.specs.Sound.{IsFor}
use Rattle.std.proofs.Common.{◌≡◌, sym, subst}
use Rattle.std.specs.Prelude.{IfOk}
use Rattle.store_state.specs.Rows.{answer_to}
use Rattle.store_state.specs.declared.state.StoreState.{StoreState}
use Rattle.disk_aggregate.specs.Stands.{disk_in}
use Rattle.disk_aggregate.proofs.Asked.{asked_still}
use Rattle.disk_aggregate.proofs.Seen.{seen_open}
use Rattle.disk_aggregate.proofs.store.AggregateStore.would.Goals as goal

pub returns-clause-reply : goal.returns-clause-reply
returns-clause-reply g c = λ told. subst (λ (s : StoreState). IfOk c.would.result (λ reply. reply ≡ (answer_to s c.args.host c.args.call.now).reply)) (sym (seen_open g.D.Disk.view c.args.self.now c.requires.ready.0)) (c.would.ensures.reply tt)

pub returns-clause-asked : goal.returns-clause-asked
returns-clause-asked g c =
    asked_still g.D.Disk.tells g.D.Disk.view c.args.self.now c.requires.ready (λ told. g.met.D.Disk.has_bytes (disk_in c.args.self.now) told) c.would.result c.would.new.self c.would.ensures.asked

pub would-requires-clause-host : goal.would-requires-clause-host
would-requires-clause-host g c = subst (λ (s : StoreState). IsHost s.roster c.args.host) (seen_open g.D.Disk.view c.args.self.now c.requires.ready.0) c.requires.host

pub would-requires-clause-call : goal.would-requires-clause-call
would-requires-clause-call g c = subst (λ (s : StoreState). IsCall s.roster c.args.call.now) (seen_open g.D.Disk.view c.args.self.now c.requires.ready.0) c.requires.call

pub would-requires-clause-own : goal.would-requires-clause-own
would-requires-clause-own g c = subst (λ (s : StoreState). IsFor s.server c.args.call.now) (seen_open g.D.Disk.view c.args.self.now c.requires.ready.0) c.requires.own
