use Rattle.std.proofs.Common.{◌≡◌, ◌*◌, [], length, sym, subst, ◌∙◌, rules}
use Rattle.service_starts.specs.FinishLaws.{settled_stores}
use Rattle.service_starts.specs.UnderWay.{KeepUnderWay}
use Rattle.service_starts.specs.Fitting.{settlings_of}
use Rattle.service_starts.specs.Starting.{start_of}
use Rattle.store_laws.specs.MoveKeeping.{KeepAll}
use Rattle.message_types.specs.Soundness.{Each}
use Rattle.service_moves.specs.Batches.{batch_wear}
use Rattle.service_moves.specs.Stores.{states_of}
use Rattle.service_moves.specs.Stopping.{IsStopped}
use Rattle.service_moves.specs.declared.stopped.RunStopped.TheVariants.{Memory}
use Rattle.service_moves.proofs.Doing.{steps_ok}
use Rattle.service_moves.proofs.Twice.{never_ok}
use Rattle.service_stores.proofs.Doing.{begin_failed, begin_none}
use Rattle.service_stores.proofs.Lists.{err_map}
use Rattle.service_stores.proofs.Starts.{they_are_there, under_way, unfit_stops, memory_stops}
use Rattle.service_stores.proofs.Stores.{ready_of, same_self, stopped_later}
use Rattle.service_stores.proofs.start.start_told.Goals as goal
use Rattle.service_stores.specs.Steps.{IsOneOf, IsUnfit}

pub returns-in_err-settlings-clause-same : goal.returns-in_err-settlings-clause-same
returns-in_err-settlings-clause-same g c = same_self g.S.Store.view (2 * batch_wear) c.args.stores.now (ready_of g.S.Store.view c.args.roster.now (2 * batch_wear) 1 c.args.stores.now c.requires.stores)

pub returns-in_err-settlings-clause-stopped : goal.returns-in_err-settlings-clause-stopped
returns-in_err-settlings-clause-stopped g c =
    err_map c.from_residual.result (IsUnfit c.args.all.now) (IsStopped g.S.Store.tells g.S.Store.view c.args.all.now c.args.stores.now c.args.stores.now) (search rules)
    (λ why h. unfit_stops g.S.Store.tells g.S.Store.view c.args.all.now c.args.stores.now why h)

pub returns-in_err-tree-clause-same : goal.returns-in_err-tree-clause-same
returns-in_err-tree-clause-same g c = same_self g.S.Store.view (2 * batch_wear) c.args.stores.now (ready_of g.S.Store.view c.args.roster.now (2 * batch_wear) 1 c.args.stores.now c.requires.stores)

pub returns-in_err-tree-clause-stopped : goal.returns-in_err-tree-clause-stopped
returns-in_err-tree-clause-stopped g c =
    err_map c.from_residual-in_err-tree.result (λ why. why ≡ Memory) (IsStopped g.S.Store.tells g.S.Store.view c.args.all.now c.args.stores.now c.args.stores.now) (search rules)
    (λ why h. memory_stops g.S.Store.tells g.S.Store.view c.args.all.now c.args.stores.now why h)

pub begin-requires-clause-there : goal.begin-requires-clause-there
begin-requires-clause-there g c =
    let size : length c.args.all.now ≡ length c.args.stores.now = c.requires.told ∙ sym c.requires.count in
    let are : c.as_slice.result.now ≡ settlings_of c.args.all.now = c.as_slice.ensures ∙ c.in_ok-settlings.ensures.settlings in
    subst (Each (λ settling. IsOneOf (length c.args.stores.now) settling.server)) (sym are) (they_are_there (length c.args.stores.now) c.args.all.now size)

pub returns-in_err-begin-clause-stopped : goal.returns-in_err-begin-clause-stopped
returns-in_err-begin-clause-stopped g c =
    let same = same_self g.S.Store.view (2 * batch_wear) c.args.stores.now (ready_of g.S.Store.view c.args.roster.now (2 * batch_wear) 1 c.args.stores.now c.requires.stores) in
    err_map c.from_residual-in_err-begin.result (IsStopped g.S.Store.tells g.S.Store.view [] c.args.stores.now c.begin.new.stores) (IsStopped g.S.Store.tells g.S.Store.view c.args.all.now c.args.stores.now c.begin.new.stores) (search rules)
    (λ why h. stopped_later g.S.Store.tells g.S.Store.view c.args.all.now c.args.stores.now c.args.stores.now c.begin.new.stores why same h)

pub returns-clause-kept : goal.returns-clause-kept
returns-clause-kept g c t disks told storable =
    let are : c.as_slice.result.now ≡ settlings_of c.args.all.now = c.as_slice.ensures ∙ c.in_ok-settlings.ensures.settlings in
    let under =
    under_way g.S.Store.view c.args.roster.now (2 * batch_wear) disks c.args.all.now c.args.stores.now c.requires.stores storable c.requires.told told c.in_ok-settlings.ensures.fits in
    let kept = c.in_ok-begin.ensures.kept t storable (start_of c.args.roster.now c.args.all.now)
    (subst (λ those. KeepUnderWay (start_of c.args.roster.now c.args.all.now) (settled_stores 1 those (states_of g.S.Store.view c.args.stores.now))) (sym are) under) in
    subst (λ tree. KeepAll (λ host. 1) tree (states_of g.S.Store.view c.begin.new.stores)) (sym c.in_ok-tree.ensures.tree) kept

pub returns-in_err-settlings-clause-does : goal.returns-in_err-settlings-clause-does
returns-in_err-settlings-clause-does g c t disks told storable = begin_none g.S.Store.view _ c.args.stores.now

pub returns-in_err-tree-clause-does : goal.returns-in_err-tree-clause-does
returns-in_err-tree-clause-does g c t disks told storable = begin_none g.S.Store.view _ c.args.stores.now

pub returns-in_err-begin-clause-does : goal.returns-in_err-begin-clause-does
returns-in_err-begin-clause-does g c t disks told storable =
    let are : c.as_slice.result.now ≡ settlings_of c.args.all.now = c.as_slice.ensures ∙ c.in_ok-settlings.ensures.settlings in
    let under =
    under_way g.S.Store.view c.args.roster.now (2 * batch_wear) disks c.args.all.now c.args.stores.now c.requires.stores storable c.requires.told told c.in_ok-settlings.ensures.fits in
    let d = c.in_err-begin.ensures.does t storable (start_of c.args.roster.now c.args.all.now)
    (subst (λ those. KeepUnderWay (start_of c.args.roster.now c.args.all.now) (settled_stores 1 those (states_of g.S.Store.view c.args.stores.now))) (sym are) under) in
    begin_failed g.S.Store.view _ c.from_residual-in_err-begin.result c.args.stores.now c.begin.new.stores (never_ok c.from_residual-in_err-begin.result _ c.from_residual-in_err-begin.ensures.1) d

pub returns-clause-does : goal.returns-clause-does
returns-clause-does g c t disks told storable =
    let are : c.as_slice.result.now ≡ settlings_of c.args.all.now = c.as_slice.ensures ∙ c.in_ok-settlings.ensures.settlings in
    let under =
    under_way g.S.Store.view c.args.roster.now (2 * batch_wear) disks c.args.all.now c.args.stores.now c.requires.stores storable c.requires.told told c.in_ok-settlings.ensures.fits in
    let d = c.in_ok-begin.ensures.does t storable (start_of c.args.roster.now c.args.all.now)
    (subst (λ those. KeepUnderWay (start_of c.args.roster.now c.args.all.now) (settled_stores 1 those (states_of g.S.Store.view c.args.stores.now))) (sym are) under) in
    (d.0, d.1, steps_ok g.S.Store.view _ _ d.0 c.args.stores.now c.begin.new.stores d.2)

pub returns-clause-begun : goal.returns-clause-begun
returns-clause-begun g c t disks told storable =
    let are : c.as_slice.result.now ≡ settlings_of c.args.all.now = c.as_slice.ensures ∙ c.in_ok-settlings.ensures.settlings in
    let under =
    under_way g.S.Store.view c.args.roster.now (2 * batch_wear) disks c.args.all.now c.args.stores.now c.requires.stores storable c.requires.told told c.in_ok-settlings.ensures.fits in
    c.in_ok-begin.ensures.begun t storable (start_of c.args.roster.now c.args.all.now)
    (subst (λ those. KeepUnderWay (start_of c.args.roster.now c.args.all.now) (settled_stores 1 those (states_of g.S.Store.view c.args.stores.now))) (sym are) under)
