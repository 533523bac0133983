use Rattle.std.proofs.Common.{◌+◌, List, [], ◌∷◌, ◌++◌, sym, subst}
use Rattle.server_tables.specs.declared.pending.Pending.{Pending}
use Rattle.server_tables.specs.declared.tables.Tables.{Tables}
use Rattle.server_tables.specs.Counting.{AreCounted}
use Rattle.server_tables.specs.Listing.{no_grace}
use Rattle.server_tables.proofs.Counted.{counted_enqueued}
use Rattle.server_tables.proofs.tables.Tables.enqueue.Goals as goal

pub returns-clause-counted : goal.returns-clause-counted
returns-clause-counted c =
    let x = c.args.self.now in
    let y = c.ask-asked.new.self in
    let p : Pending = record { number = x.next; wanted = c.args.wanted } in
    let counted = counted_enqueued x c.args.wanted c.in_ok-asked.ensures.left c.in_ok-asked.ensures.small
    c.requires.counted in
    let asked = subst (λ (z : Tables). AreCounted (no_grace z.hosts) z.tokens.asked z.tokens.latest
    (z.pending ++ p ∷ []) (z.next + 1))
    (sym c.in_ok-asked.ensures.after) counted in
    subst (λ (ps : List Pending). AreCounted (no_grace y.hosts) y.tokens.asked y.tokens.latest ps (y.next + 1))
    (sym c.in_ok-pushed.ensures.ok) asked
