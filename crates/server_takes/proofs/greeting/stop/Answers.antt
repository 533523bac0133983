use Rattle.std.proofs.Common.{◌≡◌, ◌∙◌}
use Rattle.std.proofs.lemmas.Result.{on_ok_weaker}
use Rattle.server_takes.proofs.Parts.{stopped_counted, stopped_goes}
use Rattle.server_takes.proofs.greeting.stop.Goals as goal

pub go_away-requires : goal.go_away-requires
go_away-requires c = record {
  counted =
      stopped_counted c.args.tables.now c.args.host c.stop.new.self c.in_ok-stop.ensures c.requires.counted;
}

pub returns-clause-tables : goal.returns-clause-tables
returns-clause-tables c =
    on_ok_weaker c.go_away.result (λ e. e
    ∙ stopped_goes c.args.tables.now c.args.host c.stop.new.self c.in_ok-stop.ensures) c.go_away.ensures.after
