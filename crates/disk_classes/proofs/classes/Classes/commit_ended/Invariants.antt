use Rattle.std.proofs.Common.{◌≡◌, ◌≤◌, ℕ, List, length}
use Rattle.disk_classes.proofs.Forcing.{Below}
use Rattle.disk_classes.proofs.classes.Classes.commit_ended.Given as goal

-- the classes whose least members stand below were committed
abbrev pub invariant-loop-number : goal.invariant-loop-number
invariant-loop-number g l = (least : List ℕ) × Below g.D.Disk.tells g.D.Disk.view l.fn.self l.number least l.self × (l.count ≡ length least) × (l.count ≤ l.number)
