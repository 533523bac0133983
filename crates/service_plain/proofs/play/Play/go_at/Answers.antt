use Rattle.std.proofs.Common.{◌++◌, ◌∷◌, [], subst}
use Rattle.std.specs.Prelude.{OnOk}
use Rattle.std.specs.Option.{option_map_or}
use Rattle.service_plain.specs.Underway.{GoesAlong}
use Rattle.service_plain.proofs.play.Play.go_at.Goals as goal

pub returns-in-Some-clause-goes : goal.returns-in-Some-clause-goes
returns-in-Some-clause-goes c =
    subst (λ found. OnOk c.go.result (GoesAlong (option_map_or (λ line. line ∷ []) found [] ++ []) c.args.self.now c.go.new.self)) c.in-Some.ensures c.go.ensures.goes
