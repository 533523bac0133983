use Rattle.std.proofs.Common.{◌≤◌, ℕ, List, length, ap, arith}
use Rattle.std.specs.Prelude.{⊤, is_none}
use Rattle.tree_objects.specs.declared.content.Anode.{Anode}
use Rattle.tree_objects.specs.Changes.{anode_freed}
use Rattle.disk_objects.specs.Objects.{with_anode, KeepsNow}
use Rattle.disk_fileset.specs.Slots.{IsVacant}
use Rattle.disk_fileset.proofs.Changing.{may_after, turned_then, turned_as, changes_then}
use Rattle.disk_fileset.proofs.Twice.{anode_twice, anode_here}
use Rattle.disk_acts.proofs.anodes.replace.Goals as goal

freed : (slots : ℕ → List Anode) (slot n : ℕ) → 1 ≤ n → n ≤ length (slots slot) → IsVacant slot n (with_anode slot n anode_freed slots)
freed slots slot n some few = ap (λ (a : Anode). is_none a.object) (anode_here slots slot n anode_freed some few)

pub put_anode-requires-clause-may : goal.put_anode-requires-clause-may
put_anode-requires-clause-may g c =
    may_after g.D.Disk.tells g.D.Disk.view c.args.slot 0 72 72 (omega arith) _ c.args.log.now c.vacate.new.log c.args.tx.now c.vacate.new.tx c.in_ok-vacate.ensures.changes
    KeepsNow (λ slots. ⊤) (λ slots. ⊤) (IsVacant c.args.slot c.args.anode) (with_anode c.args.slot c.args.anode anode_freed) c.requires.may c.in_ok-vacate.ensures.kept
    (λ slots held is. (tt, freed slots c.args.slot c.args.anode c.requires.first (let count = (held.each c.args.slot c.requires.slot).count in let last = c.requires.last in omega (arith, count, last))))

pub returns-clause-kept : goal.returns-clause-kept
returns-clause-kept g c =
    turned_as KeepsNow g.D.Disk.tells g.D.Disk.view (λ slots. ⊤) (λ slots. with_anode c.args.slot c.args.anode (λ free. c.args.kept.now) (with_anode c.args.slot c.args.anode anode_freed slots)) (with_anode c.args.slot c.args.anode (λ was. c.args.kept.now)) c.put_anode.result c.args.log.now c.put_anode.new.log
    (λ slots is. anode_twice slots c.args.slot c.args.anode (λ free. c.args.kept.now) anode_freed)
    (turned_then KeepsNow g.D.Disk.tells g.D.Disk.view (λ slots. ⊤) (λ slots. ⊤) (IsVacant c.args.slot c.args.anode) (with_anode c.args.slot c.args.anode anode_freed) (with_anode c.args.slot c.args.anode (λ free. c.args.kept.now)) c.put_anode.result c.args.log.now c.vacate.new.log c.put_anode.new.log
    (λ slots held is. (tt, freed slots c.args.slot c.args.anode c.requires.first (let count = (held.each c.args.slot c.requires.slot).count in let last = c.requires.last in omega (arith, count, last))))
    c.in_ok-vacate.ensures.kept c.put_anode.ensures.kept)

pub returns-clause-changes : goal.returns-clause-changes
returns-clause-changes g c =
    changes_then g.D.Disk.tells g.D.Disk.view c.args.slot 0 72 72 (omega arith) _ c.args.log.now c.vacate.new.log c.args.tx.now c.vacate.new.tx c.in_ok-vacate.ensures.changes c.put_anode.result c.put_anode.new.log c.put_anode.new.tx c.put_anode.ensures.changes
