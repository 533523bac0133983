use Rattle.std.proofs.Common.{◌≡◌, None, ap, sym, subst, ◌∙◌}
use Rattle.std.specs.Prelude.{All}
use Rattle.token_table.specs.Tables.{next_tokens}
use Rattle.token_table.specs.Marks.{note_at, without_each}
use Rattle.token_table.proofs.Reading.{undone}
use Rattle.token_manager.proofs.grants.Grants.grant.Goals as goal

pub returns-in-Err-clause-err : goal.returns-in-Err-clause-err
returns-in-Err-clause-err c =
    let now = c.args.self.now in
    let list = c.as_slice-list.result.now in
    let fresh = subst (λ ts. All (λ token. note_at now.notes token.id ≡ None) ts)
    (sym (c.as_slice-list.ensures ∙ c.in_ok-tokens.ensures
    ∙ ap (next_tokens now.table c.args.want.now.host) c.as_slice-needs.ensures)) c.requires.fresh in
    λ i. record {
      table = c.in-Err.ensures.err i;
      notes = (c.remove_each.ensures ∙ ap (λ m. without_each m list) c.in_ok-insert_each.ensures.after
          ∙ undone now.notes list c.note_of-note.result fresh) i;
    }
