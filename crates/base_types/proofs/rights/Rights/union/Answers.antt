use Rattle.std.proofs.lemmas.Nat.{or_lt}
use Rattle.base_types.proofs.rights.Rights.union.Goals as goal

-- six bits or six bits are six bits
pub invariant_of-result : goal.invariant_of-result
invariant_of-result c = or_lt 6 c.self.inside.bits c.other.inside.bits c.self.invariant c.other.invariant
