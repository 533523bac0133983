use Rattle.token_table.proofs.Sound.{sound_filter}
use Rattle.token_table.proofs.table.TokenTable.drop_host.Goals as goal

pub invariant_of-self : goal.invariant_of-self
invariant_of-self c = rw c.keep.ensures (sound_filter _ _ c.self.invariant)
