use Rattle.std.proofs.Common.{Some, cond, ap, ◌∙◌}
use Rattle.std.specs.BTreeMap.{get, is_at}
use Rattle.token_table.specs.Marks.{key_cmp}
use Rattle.token_table.proofs.Reading.{inserted}
use Rattle.token_table.proofs.notes.Notes.insert.Goals as goal

pub returns-clause-after : goal.returns-clause-after
returns-clause-after c =
    let notes = c.self.inside.notes in
    inserted notes c.insert.new.self c.args.self.now c.self.view_is c.args.id c.args.note (λ q.
    c.in_ok-insert.ensures.updates.0 q
    ∙ ap (λ k. cond (is_at (key_cmp k) q) (Some c.args.note) (get key_cmp notes q)) c.key_of.ensures)
