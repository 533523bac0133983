use Rattle.need_laws.proofs.Elsewhere.{calls_stay_at_their_server, others_stay, parts_are_same}
use Rattle.need_laws.proofs.Same.{calls_hang_on_their_server}
use Rattle.need_laws.proofs.Wanted.{wants_hang_on_their_server}
use Rattle.need_laws.proofs.laws.server_law.Goals as goal

pub returns : goal.returns
returns c = record {
  same = calls_hang_on_their_server;
  stays = calls_stay_at_their_server;
  others = others_stay;
  wants = wants_hang_on_their_server;
  parts = parts_are_same;
}
