use Rattle.std.proofs.lemmas.Result.{on_ok_weaker}
use Rattle.service_plain.proofs.play.Play.go_all.Goals as goal

pub returns : goal.returns
returns c = on_ok_weaker c.follow.result (λ rest. record { between = c.go_through.new.self; setup = c.in_ok-go_through.ensures.goes; rest = rest }) c.follow.ensures
