use Rattle.std.proofs.Common.{None, cond, ap, ◌∙◌}
use Rattle.std.specs.BTreeMap.{get, is_at}
use Rattle.token_table.specs.Marks.{key_cmp}
use Rattle.token_table.proofs.Reading.{removed}
use Rattle.token_table.proofs.notes.Notes.remove.Goals as goal

pub returns : goal.returns
returns c =
    let notes = c.self.inside.notes in
    removed notes c.remove.new.self c.args.self.now c.self.view_is c.args.id (λ q.
    c.remove.ensures.updates.0 q
    ∙ ap (λ k. cond (is_at (key_cmp k) q) None (get key_cmp notes q)) c.key_of.ensures)
