use Rattle.std.proofs.Common.{◌≡◌, ◌++◌, List, length, map}
use Rattle.std.specs.Prelude.{vec_capacity}
use Rattle.hub_drive.specs.Dealt.{AreDealt, worker_at}
use Rattle.hub_drive.proofs.dealing.deal.Given as goal

abbrev pub invariant-loop : goal.invariant-loop
invariant-loop g l = record {
  many : length l.bundles ≡ length l.initial.bundles;
  room : vec_capacity l.all ≡ vec_capacity l.initial.all;
  rest : List g.row.T.Denot;
  whole : l.initial.all.items ≡ l.all.items ++ rest;
  dealt : AreDealt (worker_at l.hosts (length l.initial.bundles)) (length l.all.items) rest
      (map (λ b. b.items) l.bundles);
}
