use Rattle.host_manager.proofs.Tests.{parted_is}
use Rattle.host_manager.specs.Spoken.{tables_of}
use Rattle.std.proofs.Common.{ap, ◌∙◌}
use Rattle.std.specs.List.{list_any}
use Rattle.host_manager.specs.Closing.{awaits_bye}
use Rattle.host_manager.proofs.machine.Machine.has_parted.Goals as goal

pub returns : goal.returns
returns c =
    parted_is (tables_of c.args.self.now).sites c.awaits_bye.result
    (c.awaits_bye.ensures ∙ ap (list_any awaits_bye) c.as_slice.ensures)
