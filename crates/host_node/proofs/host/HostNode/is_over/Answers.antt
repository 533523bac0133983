use Rattle.std.proofs.Common.{◌≡◌, ◌≤◌, ⊎_elim, inr, length, true}
use Rattle.host_manager.specs.Spoken.{tables_of}
use Rattle.host_tables.specs.Machine.{IsParted}
use Rattle.host_node.proofs.host.HostNode.is_over.Goals as goal

pub returns-then-are_gone : goal.returns-then-are_gone
returns-then-are_gone c =
    let n = c.args.self.now in (
      (λ parted. inr (c.are_gone.ensures.0 c.if-are_gone.true, c.has_parted.ensures.0 parted)),
      (λ over.
          ⊎_elim (λ (stopped : n.stopped ≡ true). let no = c.if-self.false in absurd (cc))
          (λ (p : (length n.lines.lines ≤ n.lines.gone) × IsParted (tables_of n.manager).sites).
          c.has_parted.ensures.1 p.1)
          over),
    )
