use Rattle.std.proofs.Common.{◌∙◌, sym, subst}
use Rattle.store_state.specs.declared.state.StoreState.{StoreState}
use Rattle.disk_aggregate.specs.Opening.{HoldsStore}
use Rattle.disk_aggregate.specs.StoreView.{kept_state}
use Rattle.disk_aggregate.proofs.Asked.{blamed, blamed_ok}
use Rattle.disk_aggregate.proofs.Records.{reopened_leaves}
use Rattle.disk_aggregate.proofs.Seen.{holds_left, open_holds, seen_same, seen_open, shut_holds, shut_seen}
use Rattle.disk_aggregate.proofs.store.AggregateStore.reopen.Goals as goal

pub returns-in-Ok-clause-state : goal.returns-in-Ok-clause-state
returns-in-Ok-clause-state g c = λ told.
    seen_open g.D.Disk.view c.open_again.new.self c.in-Ok.ensures.open ∙ c.in-Ok.ensures.state told (kept_state g.D.Disk.view c.args.self.now) (c.requires.mendable told)

pub returns-in-Ok-clause-same : goal.returns-in-Ok-clause-same
returns-in-Ok-clause-same g c = seen_same g.D.Disk.view c.args.self.now c.open_again.new.self c.in-Ok.ensures.server c.in-Ok.ensures.roster g.D.Disk.tells

pub returns-in-Ok-clause-ready : goal.returns-in-Ok-clause-ready
returns-in-Ok-clause-ready g c = c.in-Ok.ensures.stands (λ told. (kept_state g.D.Disk.view c.args.self.now, c.requires.mendable told))

pub returns-in-Ok-clause-mendable : goal.returns-in-Ok-clause-mendable
returns-in-Ok-clause-mendable g c = λ told.
    (let view = g.D.Disk.view in
    let old = c.args.self.now in
    let new = c.open_again.new.self in
    let state = kept_state view old in
    let made = c.in-Ok.ensures in
    open_holds view new made.open
    (subst (λ (s : StoreState). HoldsStore view s new) (sym (made.state told state (c.requires.mendable told)))
    (holds_left view old new made.server made.roster state (c.requires.mendable told) (made.left told state (c.requires.mendable told)))))

pub returns-in-Ok-clause-blame : goal.returns-in-Ok-clause-blame
returns-in-Ok-clause-blame g c = blamed_ok g.D.Disk.tells g.D.Disk.view c.args.self.now c.open_again.new.self c.in-Ok.ensures.counted _

pub returns-in-Err-clause-state : goal.returns-in-Err-clause-state
returns-in-Err-clause-state g c = λ told.
    (let view = g.D.Disk.view in
    let old = c.args.self.now in
    let new = c.open_again.new.self in
    let state = kept_state view old in
    let made = c.in-Err.ensures in
    shut_seen view new made.shut state (holds_left view old new made.server made.roster state (c.requires.mendable told) (made.left told state (c.requires.mendable told))))

pub returns-in-Err-clause-same : goal.returns-in-Err-clause-same
returns-in-Err-clause-same g c = seen_same g.D.Disk.view c.args.self.now c.open_again.new.self c.in-Err.ensures.server c.in-Err.ensures.roster g.D.Disk.tells

pub returns-in-Err-clause-mendable : goal.returns-in-Err-clause-mendable
returns-in-Err-clause-mendable g c = λ told.
    (let view = g.D.Disk.view in
    let old = c.args.self.now in
    let new = c.open_again.new.self in
    let state = kept_state view old in
    let made = c.in-Err.ensures in
    shut_holds view new made.shut state (holds_left view old new made.server made.roster state (c.requires.mendable told) (made.left told state (c.requires.mendable told))))

pub returns-in-Err-clause-blame : goal.returns-in-Err-clause-blame
returns-in-Err-clause-blame g c =
    blamed g.D.Disk.tells g.D.Disk.view c.args.self.now c.open_again.new.self c.in-Err.ensures.counted c.in-Err.fault c.store_fault.result c.store_fault.ensures c.in-Err.ensures.only

pub returns-in-Ok-clause-crash : goal.returns-in-Ok-clause-crash
returns-in-Ok-clause-crash g c = λ told. c.in-Ok.ensures.crash told (kept_state g.D.Disk.view c.args.self.now) (c.requires.mendable told)

pub returns-in-Err-clause-crash : goal.returns-in-Err-clause-crash
returns-in-Err-clause-crash g c = λ told. c.in-Err.ensures.crash told (kept_state g.D.Disk.view c.args.self.now) (c.requires.mendable told)

pub returns-in-Ok-clause-leaves : goal.returns-in-Ok-clause-leaves
returns-in-Ok-clause-leaves g c = λ told.
    (let made = c.in-Ok.ensures in
    reopened_leaves g.D.Disk.tells g.D.Disk.view c.args.self.now c.open_again.new.self made.server made.roster (made.crash told (kept_state g.D.Disk.view c.args.self.now) (c.requires.mendable told)))

pub returns-in-Err-clause-leaves : goal.returns-in-Err-clause-leaves
returns-in-Err-clause-leaves g c = λ told.
    (let made = c.in-Err.ensures in
    reopened_leaves g.D.Disk.tells g.D.Disk.view c.args.self.now c.open_again.new.self made.server made.roster (made.crash told (kept_state g.D.Disk.view c.args.self.now) (c.requires.mendable told)))
