use Rattle.std.proofs.Common.{refl}
use Rattle.disk_objects.specs.Objects.{page_for}
use Rattle.disk_objects.proofs.Keeping.{keeps_changed}
use Rattle.disk_objects.proofs.object_laws.changed_keeps.Goals as goal

pub returns : goal.returns
returns c = λ slots slot n update change old new before after low some few keeps rest changed writes is bare fits.
    keeps_changed slots slot n low some few (page_for slot n) refl change old new before after rest keeps fits update changed writes is bare
