use Rattle.service_starts.proofs.Begun.{moves_begin}
use Rattle.service_starts.proofs.finish_laws.begun_law.Goals as goal

pub returns : goal.returns
returns c = moves_begin
