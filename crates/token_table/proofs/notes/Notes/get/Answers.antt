use Rattle.std.proofs.Common.{ap, ◌∙◌}
use Rattle.std.specs.BTreeMap.{get}
use Rattle.token_table.specs.Marks.{key_cmp, key_of}
use Rattle.token_table.proofs.Reading.{read_old}
use Rattle.token_table.proofs.notes.Notes.get.Goals as goal

pub returns : goal.returns
returns c =
    let notes = c.self.inside.notes in
    c.copied.ensures ∙ c.get.ensures.value ∙ ap (get key_cmp notes) c.key_of.ensures
    ∙ read_old notes notes c.args.self.now c.self.view_is (key_of c.args.id)
