use Rattle.std.proofs.Common.{◌≡◌, ◌*◌, List, [], None, sym, subst, ◌∙◌, rules, IfOk, OnOk}
use Rattle.service_starts.specs.Fitting.{misfit}
use Rattle.store_records.specs.Stored.{IsStorable}
use Rattle.message_types.specs.Soundness.{Each}
use Rattle.service_moves.specs.Batches.{batch_wear}
use Rattle.service_moves.specs.Stopping.{IsStopped}
use Rattle.service_moves.specs.Plans.{states_at}
use Rattle.service_moves.proofs.Doing.{steps_nothing}
use Rattle.service_moves.proofs.Whole.{moves_none}
use Rattle.service_stores.specs.Plans.{IsBeginning}
use Rattle.service_stores.proofs.Doing.{begin_then}
use Rattle.service_stores.proofs.Lists.{err_map}
use Rattle.service_stores.proofs.Starts.{stopped_told}
use Rattle.service_stores.proofs.Stores.{ready_of, same_self, same_then, stores_then, stopped_later}
use Rattle.service_stores.proofs.Telling.{told_same}
use Rattle.service_stores.proofs.start.start_on.Goals as goal
use Rattle.service_moves.specs.Stores.{states_of}
use Rattle.store_state.specs.declared.state.StoreState.{StoreState}
use Rattle.service_stores.specs.Starting.{told_by, start_from, HaveBegunAnew}

pub all_told-requires-clause-ready : goal.all_told-requires-clause-ready
all_told-requires-clause-ready g c = ready_of g.S.Store.view c.args.roster.now 0 1 c.args.stores.now c.requires.stores

pub start_told-requires-clause-stores : goal.start_told-requires-clause-stores
start_told-requires-clause-stores g c =
    stores_then g.S.Store.view c.args.roster.now 0 (2 * batch_wear) 1 c.args.stores.now c.all_told.new.stores c.requires.stores c.all_told.ensures.same c.in_ok-all.ensures.ready

pub returns-in_err-all-clause-stopped : goal.returns-in_err-all-clause-stopped
returns-in_err-all-clause-stopped g c =
    let same = same_self g.S.Store.view 0 c.args.stores.now (ready_of g.S.Store.view c.args.roster.now 0 1 c.args.stores.now c.requires.stores) in
    let told = told_by g.S.Store.view c.args.disks c.args.stores.now in
    err_map c.from_residual.result (IsStopped g.S.Store.tells g.S.Store.view [] c.args.stores.now c.all_told.new.stores) (IsStopped g.S.Store.tells g.S.Store.view told c.args.stores.now c.all_told.new.stores) (search rules)
    (λ why h. stopped_later g.S.Store.tells g.S.Store.view told c.args.stores.now c.args.stores.now c.all_told.new.stores why same h)

pub returns-clause-fit : goal.returns-clause-fit
returns-clause-fit g c t =
    let same : c.as_slice.result.now ≡ told_by g.S.Store.view c.args.disks c.args.stores.now = c.as_slice.ensures ∙ c.in_ok-all.ensures.told t in
    subst (λ those. OnOk c.start_told.result (misfit those ≡ None)) same c.start_told.ensures.fit

pub returns-clause-tree : goal.returns-clause-tree
returns-clause-tree g c t =
    let same : c.as_slice.result.now ≡ told_by g.S.Store.view c.args.disks c.args.stores.now = c.as_slice.ensures ∙ c.in_ok-all.ensures.told t in
    subst (λ those. IfOk c.start_told.result (λ tree. tree ≡ start_from c.args.roster.now those)) same c.start_told.ensures.tree

pub returns-clause-kept : goal.returns-clause-kept
returns-clause-kept g c t =
    let same : c.as_slice.result.now ≡ told_by g.S.Store.view c.args.disks c.args.stores.now = c.as_slice.ensures ∙ c.in_ok-all.ensures.told t in
    let states = c.all_told.ensures.states t in
    c.start_told.ensures.kept t c.args.disks (same ∙ sym (told_same g.S.Store.view c.args.disks c.args.stores.now c.all_told.new.stores states)) (subst (Each IsStorable) (sym states) (c.requires.storable t))

pub returns-clause-same : goal.returns-clause-same
returns-clause-same g c =
    same_then g.S.Store.view c.args.stores.now c.all_told.new.stores c.start_told.new.stores c.all_told.ensures.same c.start_told.ensures.same

pub returns-clause-stopped : goal.returns-clause-stopped
returns-clause-stopped g c =
    let told = told_by g.S.Store.view c.args.disks c.args.stores.now in
    err_map c.start_told.result (IsStopped g.S.Store.tells g.S.Store.view c.as_slice.result.now c.all_told.new.stores c.start_told.new.stores) (IsStopped g.S.Store.tells g.S.Store.view told c.args.stores.now c.start_told.new.stores)
    c.start_told.ensures.stopped (λ why h.
    stopped_told g.S.Store.tells g.S.Store.view c.as_slice.result.now told c.args.stores.now c.all_told.new.stores c.start_told.new.stores why c.all_told.ensures.same (λ t. c.as_slice.ensures ∙ c.in_ok-all.ensures.told t)
    (λ t. c.all_told.ensures.states t) h)

pub returns-in_err-all-clause-does : goal.returns-in_err-all-clause-does
returns-in_err-all-clause-does g c t =
    ([], moves_none IsBeginning (states_at g.S.Store.view c.args.stores.now), steps_nothing g.S.Store.view _ _ c.args.stores.now c.all_told.new.stores (c.in_err-all.ensures.does t))

pub returns-clause-does : goal.returns-clause-does
returns-clause-does g c t =
    let same : c.as_slice.result.now ≡ told_by g.S.Store.view c.args.disks c.args.stores.now = c.as_slice.ensures ∙ c.in_ok-all.ensures.told t in
    let states = c.all_told.ensures.states t in
    begin_then g.S.Store.view _ _ c.args.stores.now c.all_told.new.stores c.start_told.new.stores
    ([], moves_none IsBeginning (states_at g.S.Store.view c.args.stores.now), c.in_ok-all.ensures.does t)
    (c.start_told.ensures.does t c.args.disks (same ∙ sym (told_same g.S.Store.view c.args.disks c.args.stores.now c.all_told.new.stores states)) (subst (Each IsStorable) (sym states) (c.requires.storable t)))

pub returns-clause-begun : goal.returns-clause-begun
returns-clause-begun g c t =
    let same : c.as_slice.result.now ≡ told_by g.S.Store.view c.args.disks c.args.stores.now = c.as_slice.ensures ∙ c.in_ok-all.ensures.told t in
    let states = c.all_told.ensures.states t in
    subst (λ (olds : List StoreState). OnOk c.start_told.result (HaveBegunAnew olds (states_of g.S.Store.view c.start_told.new.stores))) states
    (c.start_told.ensures.begun t c.args.disks (same ∙ sym (told_same g.S.Store.view c.args.disks c.args.stores.now c.all_told.new.stores states)) (subst (Each IsStorable) (sym states) (c.requires.storable t)))
