-- The half of a step in which its node learns: the cause, and the tokens that are taken. What a host knows and has when
-- it answers is what it knows and has after that half.
use Rattle.base_types.specs.declared.ids.HostId.{HostId}
use Rattle.base_types.specs.declared.ids.Node.TheVariants.{Host}
use Rattle.run_rules.specs.Steps.{bare}
use Rattle.run_rules.specs.declared.step.Cause.{Cause}
use Rattle.run_rules.specs.declared.step.Step.{Step}
use Rattle.script_lines.specs.Judge.{taken}
use Rattle.std.specs.Prelude.{List}
use Rattle.token_types.specs.declared.token.Token.{Token}

abbrev pub half : Step → Step
half s = record (bare s.node s.cause) { taken = s.taken }

-- the half of a host's step by this cause
abbrev pub learning : HostId → Cause → List Token → Step
learning host cause taken = record (bare (Host host) cause) { taken = taken }
