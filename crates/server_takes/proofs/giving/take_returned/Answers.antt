use Rattle.std.proofs.Common.{◌≡◌, ◌∙◌, List, true, false, ap}
use Rattle.token_types.specs.declared.token.TokenId.{TokenId}
use Rattle.server_takes.specs.Taking.{freed}
use Rattle.std.proofs.lemmas.Result.{on_ok_weaker}
use Rattle.server_tables.specs.Places.{is_of}
use Rattle.server_takes.proofs.Parts.{returned_elsewhere, returned_here}
use Rattle.server_takes.proofs.giving.take_returned.Goals as goal

pub returns-then-not-is_here-clause-tables : goal.returns-then-not-is_here-clause-tables
returns-then-not-is_here-clause-tables c = returned_elsewhere c.args.tables.now c.args.host c.args.named.now (cc)

pub returns-clause-tables : goal.returns-clause-tables
returns-clause-tables c =
    let here : is_of c.args.tables.now.server c.args.named.now.fid.fileset ≡ true = cc in
    on_ok_weaker c.free.result (λ e. e ∙ ap
    (λ (ids : List TokenId). freed c.args.tables.now c.args.host ids) c.as_slice.ensures
    ∙ returned_here c.args.tables.now c.args.host c.args.named.now here) c.free.ensures.tables
