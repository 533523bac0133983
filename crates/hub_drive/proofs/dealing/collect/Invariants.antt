use Rattle.std.proofs.Common.{◌≡◌, ◌≤◌, ◌+◌, List, length, map}
use Rattle.std.specs.Prelude.{vec_capacity}
use Rattle.hub_drive.specs.Dealt.{AreDealt, worker_at}
use Rattle.hub_drive.proofs.Dealt.{SoFar}
use Rattle.hub_drive.proofs.dealing.collect.Given as goal

abbrev pub invariant-loop-place : goal.invariant-loop-place
invariant-loop-place g l = record {
  many : length l.bundles ≡ length l.initial.bundles;
  room : l.count ≤ vec_capacity l.all;
  so_far : (rest : List g.row.T.Denot)
      → AreDealt (worker_at l.hosts (length l.initial.bundles)) (length l.initial.all.items) rest
      (map (λ b. b.items) l.initial.bundles)
      → length l.initial.all.items + length rest ≡ l.count
      → SoFar (λ b. b.items) (worker_at l.hosts (length l.initial.bundles)) l.initial.all.items rest l.place
      l.all.items l.bundles;
}
