use Rattle.std.proofs.Common.{◌≡◌, drop}
use Rattle.server_says.proofs.Hailed.{hailed_all}
use Rattle.server_says.proofs.hailing.hail_all.Given as goal

abbrev pub invariant-loop-host : goal.invariant-loop-host
invariant-loop-host l =
    hailed_all l.tables l.draft (drop l.host-index l.host-items) ≡ hailed_all l.tables l.initial.draft l.host-items
