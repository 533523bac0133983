use Rattle.std.proofs.Common.{◌≡◌, map, take}
use Rattle.host_leaves.specs.Revoking.{of_file}
use Rattle.host_leaves.proofs.revoking.ids_at.Given as goal

abbrev pub invariant-loop-token : goal.invariant-loop-token
invariant-loop-token l = l.ids ≡ map (λ token. token.id) (of_file l.fid (take l.token-index l.tokens))
