use Rattle.std.proofs.Common.{◌≡◌, rules, sym, subst}
use Rattle.server_tables.specs.Counting.{IsCounted}
use Rattle.server_tables.specs.Updates.{reclaimed_by}
use Rattle.server_tables.proofs.Counted.{counted_reclaimed}
use Rattle.server_tables.proofs.tables.Tables.reclaim.Goals as goal

pub returns-clause-counted : goal.returns-clause-counted
returns-clause-counted c =
    let same : c.open_queue.new.self ≡ reclaimed_by c.args.self.now c.args.host = search rules in
    subst IsCounted (sym same) (counted_reclaimed c.args.self.now c.args.host c.requires.counted)
