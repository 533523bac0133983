use Rattle.std.proofs.Common.{◌≡◌, false, ap, sym, ◌∙◌}
use Rattle.token_table.specs.Tables.{has_id, with_tokens, without_id}
use Rattle.token_table.specs.Marks.{with_note}
use Rattle.token_manager.specs.Grants.{is_earlier}
use Rattle.token_manager.proofs.Lawful.{one_of, earlier_past}
use Rattle.token_manager.proofs.Noting.{without_placed}
use Rattle.token_manager.proofs.grants.Grants.claim.Goals as goal

pub insert-requires-clause-past : goal.insert-requires-clause-past
insert-requires-clause-past c =
    let table = c.args.self.now.table in
    let id = c.args.token.now.id in
    earlier_past table id (one_of (is_earlier table id) (has_id table.tokens id) c.requires
    (sym c.is_granted.ensures ∙ c.if-is_granted.false))

pub returns-in-Ok-clause-after : goal.returns-in-Ok-clause-after
returns-in-Ok-clause-after c =
    let notes = c.args.self.now.notes in
    let id = c.args.token.now.id in
    let absent : has_id c.args.self.now.table.tokens id ≡ false = sym c.is_granted.ensures ∙ c.if-is_granted.false in
    rw absent (λ i. record {
      table = c.in_ok-insert.ensures.after i;
      notes = (c.in-Ok.ensures.after ∙ ap (with_note notes id) c.note_of.ensures) i;
    })

pub returns-in-Err-clause-err : goal.returns-in-Err-clause-err
returns-in-Err-clause-err c =
    let table = c.args.self.now.table in
    let token = c.args.token.now in
    let absent : has_id table.tokens token.id ≡ false = sym c.is_granted.ensures ∙ c.if-is_granted.false in
    λ i. record {
      table = (c.drop_id.ensures.after
          ∙ ap (λ t. with_tokens t (without_id t.tokens token.id)) c.in_ok-insert.ensures.after
          ∙ (λ j. record table { tokens = without_placed table.server table.epoch token table.tokens absent j })) i;
      notes = c.in-Err.ensures.err i;
    }
