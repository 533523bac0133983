use Rattle.token_table.proofs.Parting.{parted_less}
use Rattle.token_table.proofs.file_tokens.FileTokens.drop_id.Goals as goal

pub invariant_of-self : goal.invariant_of-self
invariant_of-self c =
    let s = c.self.inside in
    rw c.drop_id.ensures
    (parted_less s.tokens s.parts c.drop_own.new.parts c.args.host c.args.id c.self.invariant
    (rw c.self.view_is c.requires) c.drop_own.ensures.own (c.drop_own.ensures.barred c.self.invariant.barred))
