-- What a host sends at a lapse.
use Rattle.base_types.specs.declared.ids.HostId.{HostId}
use Rattle.host_tables.specs.Half.{learning}
use Rattle.message_types.specs.declared.message.Message.{Message}
use Rattle.run_rules.specs.declared.step.Cause.TheVariants.{Lapse}
use Rattle.run_rules.specs.declared.step.Step.{Step}
use Rattle.std.specs.Prelude.{List, []}

abbrev pub lapses : HostId → List Message → Step
lapses host sent = record (learning host Lapse []) { sent = sent }
