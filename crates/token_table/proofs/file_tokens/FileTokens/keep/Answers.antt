use Rattle.token_table.specs.Shelves.{keeps}
use Rattle.token_table.proofs.Parting.{parted_passing}
use Rattle.token_table.proofs.file_tokens.FileTokens.keep.Goals as goal

pub invariant_of-self : goal.invariant_of-self
invariant_of-self c =
    let s = c.self.inside in
    rw (c.keep_tokens.ensures, c.keep_each.ensures)
    (parted_passing s.tokens s.parts (keeps c.args.server c.args.epoch c.args.kept) c.self.invariant)
