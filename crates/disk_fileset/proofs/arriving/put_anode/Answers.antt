use Rattle.std.proofs.Common.{◌≡◌, subst, arith}
use Rattle.std.specs.Prelude.{true, Option, IfSome}
use Rattle.tree_objects.specs.declared.content.Object.{Object}
use Rattle.disk_objects.specs.Objects.{KeepsNow}
use Rattle.disk_fileset.specs.Slots.{IsVacant, is_whole}
use Rattle.disk_fileset.proofs.Changing.{may_less}
use Rattle.disk_fileset.proofs.arriving.put_anode.Goals as goal

pub put_object-requires-clause-whole : goal.put_object-requires-clause-whole
put_object-requires-clause-whole g c = subst (λ (o : Option Object). IfSome o (λ object. is_whole object.content ≡ true)) c.in-Some.is c.requires.whole

pub put_number-requires-clause-may : goal.put_number-requires-clause-may
put_number-requires-clause-may g c = may_less KeepsNow g.D.Disk.tells g.D.Disk.view (IsVacant c.args.slot c.args.anode) (IsVacant c.args.slot c.args.anode) c.args.slot 0 72 c.args.log.now c.args.tx.now (omega arith) (λ slots is. is) c.requires.may
