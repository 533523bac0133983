use Rattle.std.proofs.Common.{◌≡◌, []}
use Rattle.hub_drive.specs.Seats.{EachAt}
use Rattle.hub_drive.proofs.dealing.empty_bundles.Given as goal

abbrev pub invariant-loop : goal.invariant-loop
invariant-loop g l = EachAt (λ b. b.items ≡ []) l.bundles.items
