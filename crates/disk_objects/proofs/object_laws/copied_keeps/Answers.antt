use Rattle.std.proofs.Common.{refl}
use Rattle.disk_objects.specs.Objects.{page_for, anode_at}
use Rattle.disk_objects.proofs.Keeping.{keeps_copied}
use Rattle.disk_objects.proofs.object_laws.copied_keeps.Goals as goal

pub returns : goal.returns
returns c = λ slots from one slot n old new before after from_low first last low some few apart keeps rest free makes shares writes clear.
    keeps_copied slots slot n low some few (page_for slot n) refl (λ free. anode_at (slots from) one) old new before after rest keeps ((keeps.each from from_low).each one first last) from one (page_for from one) refl from_low first last apart free makes shares writes clear refl
