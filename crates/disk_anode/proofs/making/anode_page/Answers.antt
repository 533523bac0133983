use Rattle.std.proofs.Common.{refl}
use Rattle.disk_anode.proofs.Plain.{page_is, behind_first}
use Rattle.disk_anode.proofs.making.anode_page.Goals as goal

pub returns : goal.returns
returns c = page_is c.args.kind c.args.unique c.args.owner.now c.args.group.now _ c.put_u32.new.bytes c.put_text.new.page c.put_text-2.new.page c.requires.owner refl (behind_first c.args.kind) c.put_u32.ensures.number c.put_u32.ensures.rest c.put_text.ensures.size c.put_text.ensures.text c.put_text.ensures.rest c.put_text-2.ensures.size c.put_text-2.ensures.text c.put_text-2.ensures.rest
