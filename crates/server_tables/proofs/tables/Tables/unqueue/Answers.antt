use Rattle.std.proofs.Common.{List, sym, subst}
use Rattle.token_manager.specs.Managers.{Manager}
use Rattle.server_tables.specs.declared.pending.Pending.{Pending}
use Rattle.server_tables.specs.Counting.{AreCounted}
use Rattle.server_tables.specs.Listing.{no_grace}
use Rattle.server_tables.proofs.Counted.{counted_unqueued}
use Rattle.server_tables.proofs.tables.Tables.unqueue.Goals as goal

pub returns-clause-counted : goal.returns-clause-counted
returns-clause-counted c =
    let x = c.args.self.now in
    let counted = counted_unqueued x c.args.at c.remove-pending.result.number c.requires.place c.requires.counted in
    let left = subst (λ (ps : List Pending). AreCounted (no_grace x.hosts) x.tokens.asked x.tokens.latest ps x.next)
    (sym c.remove-pending.ensures.rest) counted in
    subst (λ (m : Manager). AreCounted (no_grace x.hosts) m.asked m.latest c.remove-pending.new.self x.next)
    (sym c.give_up.ensures) left
