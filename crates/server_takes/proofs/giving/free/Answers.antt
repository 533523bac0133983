use Rattle.std.proofs.Common.{◌≡◌, ◌∙◌, true, false, sym}
use Rattle.std.proofs.lemmas.Result.{on_ok_weaker}
use Rattle.server_tables.specs.Listing.{has_host}
use Rattle.server_takes.proofs.Parts.{counted_so, freed_back, freed_counted, freed_noted}
use Rattle.server_takes.specs.Taking.{freed}
use Rattle.server_takes.proofs.giving.free.Goals as goal

pub returns-then-has_reclaimed-clause-tables : goal.returns-then-has_reclaimed-clause-tables
returns-then-has_reclaimed-clause-tables c =
    freed_back c.args.tables.now c.args.host c.args.ids.now c.return_all.new.tokens c.return_all.ensures (cc)

pub returns-clause-tables : goal.returns-clause-tables
returns-clause-tables c =
    let x = c.args.tables.now in
    let out : has_host x.hosts.reclaimed c.args.host ≡ false = cc in
    on_ok_weaker c.note_given_up.result
    (λ e. freed_noted x c.args.host c.args.ids.now c.return_all.new.tokens c.note_given_up.new.self
    c.return_all.ensures out e) c.note_given_up.ensures

pub returns-then-has_reclaimed-clause-counted : goal.returns-then-has_reclaimed-clause-counted
returns-then-has_reclaimed-clause-counted c =
    let x = c.args.tables.now in
    let host = c.args.host in
    let ids = c.args.ids.now in
    counted_so (record x { tokens = c.return_all.new.tokens }) (freed x host ids)
    (freed_back x host ids c.return_all.new.tokens c.return_all.ensures (cc))
    (freed_counted x host ids c.requires.counted)

pub returns-clause-counted : goal.returns-clause-counted
returns-clause-counted c =
    let x = c.args.tables.now in
    let host = c.args.host in
    let ids = c.args.ids.now in
    let out : has_host x.hosts.reclaimed host ≡ false = cc in
    on_ok_weaker c.note_given_up.result
    (λ e. counted_so (record x { tokens = c.return_all.new.tokens; recovering = c.note_given_up.new.self })
    (freed x host ids)
    (freed_noted x host ids c.return_all.new.tokens c.note_given_up.new.self c.return_all.ensures out e)
    (freed_counted x host ids c.requires.counted)) c.note_given_up.ensures
