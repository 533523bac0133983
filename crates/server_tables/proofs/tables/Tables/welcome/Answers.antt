use Rattle.std.proofs.Common.{sym, subst}
use Rattle.server_tables.specs.declared.hosts.Hosts.{Hosts}
use Rattle.server_tables.specs.Counting.{AreCounted}
use Rattle.server_tables.specs.Listing.{no_grace}
use Rattle.server_tables.proofs.Counted.{counted_welcome}
use Rattle.server_tables.proofs.tables.Tables.welcome.Goals as goal

pub returns-clause-counted : goal.returns-clause-counted
returns-clause-counted c h =
    let x = c.args.self.now in
    subst (λ (y : Hosts). AreCounted (no_grace y) x.tokens.asked x.tokens.latest x.pending x.next)
    (sym c.in_ok-list.ensures)
    (counted_welcome x c.args.host h)
