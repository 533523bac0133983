use Rattle.std.proofs.Common.{◌≡◌, drop}
use Rattle.disk_log.specs.Puts.{overlaid}
use Rattle.disk_log.proofs.over.overlay.Given as goal

abbrev pub invariant-loop-put : goal.invariant-loop-put
invariant-loop-put l = overlaid (drop l.put-index l.puts) (λ q. l.out) l.page ≡ overlaid l.puts (λ q. l.initial.out) l.page
