use Rattle.std.proofs.Common.{◌≡◌, ◌∙◌, List, ap}
use Rattle.token_manager.specs.Managers.{Manager}
use Rattle.token_types.specs.declared.token.TokenId.{TokenId}
use Rattle.server_takes.proofs.Parts.{counted_so, kept_counted}
use Rattle.server_takes.specs.Taking.{all_kept, kept_tables}
use Rattle.server_takes.proofs.giving.take_kept.Goals as goal

pub returns-clause-counted : goal.returns-clause-counted
returns-clause-counted c =
    let x = c.args.tables.now in
    let host = c.args.host in
    counted_so (record x { tokens = c.keep_all.new.tokens }) (kept_tables x host c.args.named.now)
    (ap (λ (m : Manager). record x { tokens = m })
    (c.keep_all.ensures ∙ ap (λ (ids : List TokenId). all_kept x.tokens host ids) c.as_slice.ensures))
    (kept_counted x host c.args.named.now c.requires.counted)
