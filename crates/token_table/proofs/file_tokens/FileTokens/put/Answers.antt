use Rattle.std.proofs.Common.{length, take, sym, ap, subst, ◌∙◌}
use Rattle.token_table.specs.Parts.{IsParted}
use Rattle.token_table.specs.Tables.{of_host}
use Rattle.token_table.proofs.Parting.{own_put}
use Rattle.token_table.proofs.file_tokens.FileTokens.put.Goals as goal

pub invariant_of-self-in-Ok : goal.invariant_of-self-in-Ok
invariant_of-self-in-Ok c =
    let s = c.self.inside in
    let after = c.note.new.parts in
    subst (λ tokens. IsParted tokens after) (sym c.in_ok-insert.ensures.ok)
    (own_put s.tokens s.parts after c.args.index c.args.own c.args.token c.self.invariant
    (c.requires.own ∙ ap (λ tokens. length (of_host (take c.args.index tokens) c.args.token.host)) (sym c.self.view_is))
    c.in-Ok.ensures.own (c.in-Ok.ensures.barred c.self.invariant.barred))
