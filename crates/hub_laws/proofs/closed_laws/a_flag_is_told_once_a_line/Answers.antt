use Rattle.hub_laws.proofs.Flags.{flag_once_a_line}
use Rattle.hub_laws.proofs.closed_laws.a_flag_is_told_once_a_line.Goals as goal

pub returns : goal.returns
returns c = flag_once_a_line
