use Rattle.std.proofs.Common.{◌≡◌, ◌∙◌, ap, true, false, sym}
use Rattle.std.proofs.lemmas.Result.{on_ok_weaker}
use Rattle.message_types.specs.declared.giving.AppliedGive.{AppliedGive}
use Rattle.server_tables.specs.Claims.{taking_one}
use Rattle.server_tables.specs.Listing.{has_host}
use Rattle.server_takes.proofs.Parts.{noted_back, noted_taken}
use Rattle.server_takes.proofs.giving.note_number.Goals as goal

pub returns-then-has_reclaimed-clause-tables : goal.returns-then-has_reclaimed-clause-tables
returns-then-has_reclaimed-clause-tables c =
    noted_back c.args.tables.now c.args.host c.args.give.now c.note_first.new.tables c.in_ok-note_first.ensures (cc)

pub returns-clause-tables : goal.returns-clause-tables
returns-clause-tables c =
    let x = c.args.tables.now in
    let host = c.args.host in
    let mid = c.note_first.new.tables in
    let out : has_host mid.hosts.reclaimed host ≡ false = cc in
    on_ok_weaker c.note_taken.result
    (λ e. noted_taken x host c.args.give.now mid c.note_taken.new.self c.in_ok-note_first.ensures out
    (e ∙ ap (λ (n : AppliedGive). record mid.recovering { taken = taking_one mid.recovering.taken host n })
    c.number_of.ensures)) c.note_taken.ensures
