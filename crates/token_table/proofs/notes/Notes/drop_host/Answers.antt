use Rattle.std.proofs.Common.{◌==◌, not, rules}
use Rattle.token_table.proofs.Shelving.{pairs_filtered}
use Rattle.token_table.proofs.Reading.{host_dropped}
use Rattle.token_table.proofs.notes.Notes.drop_host.Goals as goal

pub returns : goal.returns
returns c =
    let left = pairs_filtered _ _ (λ e. not (e.1.host.0 == c.args.host.0)) (λ k v b w f' t. search rules) _ _
    c.retain.ensures.filtered in
    host_dropped c.self.inside.notes c.retain.new.self c.args.self.now c.args.host c.self.view_is
    c.retain.ensures.was_ordered left
