use Rattle.host_manager.proofs.First.{first_runs}
use Rattle.host_tables.specs.Beginning.{new_tables}
use Rattle.host_manager.specs.Running.{IsRunning}
use Rattle.host_tables.specs.declared.tables.Tables.{Tables}
use Rattle.std.proofs.Common.{Some, [], arith, subst, sym, ◌∙◌, ◌≡◌}
use Rattle.tree_calls.specs.Rosters.{user_of}
use Rattle.host_manager.proofs.machine.Machine.new.Goals as goal

pub returns-clause-rests : goal.returns-clause-rests
returns-clause-rests c script same =
    let cache = c.in_ok-cache.cache in
    let dirty = c.new-dirty.result in
    let user : user_of c.args.roster.now c.args.host ≡ Some c.in-Some.user =
    (let a = c.in_ok-user.ensures in let b = c.in-Some.is in cc) in
    subst (λ (m : Tables). IsRunning script m [])
    (sym (c.new_tables-tables.ensures
    ∙ (λ i. new_tables c.args.alloc c.args.host c.in-Some.user (c.limit_of-limit.ensures i) cache dirty
    (c.in_ok-sites.ensures i))))
    (first_runs script c.args.roster.now c.args.host c.in-Some.user cache dirty c.args.alloc c.in_ok-servers.servers
    same c.in_ok-servers.ensures.0 c.in_ok-servers.ensures.1 c.in_ok-servers.ensures.2 c.in_ok-cache.ensures
    c.new-dirty.ensures user)

pub returns-clause-servers : goal.returns-clause-servers
returns-clause-servers c =
    let is = c.in_ok-servers.ensures.0 in
    let low = c.in_ok-servers.ensures.1 in
    let high = c.in_ok-servers.ensures.2 in
    (omega (arith, is, low), omega (arith, is, high))
