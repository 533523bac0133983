use Rattle.std.proofs.Common.{◌≡◌, Bool, rules, sym, subst}
use Rattle.server_tables.specs.declared.tables.Tables.{Tables}
use Rattle.server_tables.specs.Counting.{AreCounted, IsCounted}
use Rattle.server_tables.specs.Listing.{no_grace}
use Rattle.server_tables.specs.Updates.{gone_away}
use Rattle.server_tables.proofs.Counted.{counted_gone, counted_left}
use Rattle.server_tables.proofs.tables.Tables.go_away.Goals as goal

pub open_queue-requires : goal.open_queue-requires
open_queue-requires c =
    let x = c.args.self.now in
    let d = c.drop_wants.new.self in
    let left = subst (λ (z : Tables). AreCounted (no_grace x.hosts) z.tokens.asked z.tokens.latest z.pending z.next)
    (sym c.drop_wants.ensures) (counted_left x c.args.host c.requires.counted) in
    subst (λ (b : Bool). AreCounted b d.tokens.asked d.tokens.latest d.pending d.next)
    (sym c.no_grace-over.ensures) left

pub returns-clause-counted : goal.returns-clause-counted
returns-clause-counted c =
    let same : c.open_queue.new.self ≡ gone_away c.args.self.now c.args.host = search rules in
    subst IsCounted (sym same) (counted_gone c.args.self.now c.args.host c.requires.counted)
