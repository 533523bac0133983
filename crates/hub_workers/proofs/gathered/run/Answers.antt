use Rattle.std.proofs.Common.{sym, subst, ◌∙◌}
use Rattle.hub_cell.specs.Passes.{AreAllPasses}
use Rattle.hub_workers.proofs.Owns.{workers_done, all_passes, gathered_by}
use Rattle.hub_workers.proofs.gathered.run.Goals as goal

pub close-requires-after_bounds : goal.close-requires-after_bounds
close-requires-after_bounds g c κs =
    let cell = c.in_ok-cell.cell in
    let done = c.in_ok-done.ensures in
    let jobs = c.in_ok-jobs.ensures in
    let worked = workers_done cell.id _ c.args.turns c.in_ok-jobs.jobs.items c.in_ok-done.done.items jobs done.len
    done.each in
    let count = done.len ∙ jobs.count ∙ sym c.in_ok-cell.ensures.0 in
    subst (AreAllPasses cell) (sym c.in_ok-passes.ensures.passes) (all_passes cell c.args.turns c.in_ok-done.done.items
    worked count)

pub returns : goal.returns
returns g c =
    let cell = c.in_ok-cell.cell in
    let done = c.in_ok-done.ensures in
    let jobs = c.in_ok-jobs.ensures in
    let worked = workers_done cell.id _ c.args.turns c.in_ok-jobs.jobs.items c.in_ok-done.done.items jobs done.len
    done.each in
    let closed = c.in-Ok.ensures.1 in
    gathered_by cell.id c.args.workers c.args.turns c.in_ok-done.done.items c.in-Ok.log c.in_ok-passes.passes.items _
    worked (done.len ∙ jobs.count) c.in_ok-passes.ensures.passes closed.made c.into_entries.ensures
    c.in_ok-passes.ensures.counts
