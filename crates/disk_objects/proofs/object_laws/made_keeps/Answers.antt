use Rattle.std.proofs.Common.{refl}
use Rattle.disk_objects.specs.Objects.{page_for}
use Rattle.disk_objects.proofs.Keeping.{keeps_made}
use Rattle.disk_objects.proofs.object_laws.made_keeps.Goals as goal

pub returns : goal.returns
returns c = λ slots slot n made change old new before after low some few keeps rest free quiet makes bare is fits.
    keeps_made slots slot n low some few (page_for slot n) refl change old new before after rest keeps fits made free quiet makes bare is
