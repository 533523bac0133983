use Rattle.std.proofs.Common.{Some, cond, ap, sym, ◌∙◌}
use Rattle.std.specs.BTreeMap.{get, is_at}
use Rattle.token_table.specs.Marks.{key_cmp, key_of, note_at}
use Rattle.token_table.proofs.Reading.{inserted, read_old, only_ok, not_none}
use Rattle.token_table.proofs.notes.Notes.put.Goals as goal

pub returns : goal.returns
returns c =
    let notes = c.self.inside.notes in
    let updates = only_ok c.insert-before.result c.insert-before.ensures.updates c.insert-before.ensures.absent (λ none.
    not_none (note_at c.args.self.now c.args.id) c.requires
    (sym (read_old notes notes c.args.self.now c.self.view_is (key_of c.args.id))
    ∙ ap (get key_cmp notes) (sym c.key_of.ensures) ∙ none)) in
    inserted notes c.insert-before.new.self c.args.self.now c.self.view_is c.args.id c.args.note (λ q.
    updates.0 q
    ∙ ap (λ k. cond (is_at (key_cmp k) q) (Some c.args.note) (get key_cmp notes q)) c.key_of.ensures)
