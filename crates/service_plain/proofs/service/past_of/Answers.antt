use Rattle.std.proofs.Common.{subst, sym}
use Rattle.service_plain.specs.Played.{IsPlayed}
use Rattle.service_plain.specs.Underway.{played_so}
use Rattle.service_plain.specs.declared.past.Past.{Past}
use Rattle.service_plain.proofs.Whole.{all_played, fit_first}
use Rattle.service_plain.proofs.service.past_of.Goals as goal

pub returns-in-Ok : goal.returns-in-Ok
returns-in-Ok c =
    let went = c.in-Ok.ensures in
    subst (λ (past : Past). IsPlayed c.args.script.now (played_so c.args.start past c.args.order.now)) (sym c.into_past.ensures)
    (all_played c.args.script.now c.args.start c.args.order.now c.in_ok-play.play went.between c.go_all.new.self c.requires.places c.requires.order c.requires.start c.in_ok-play.ensures went.setup went.rest)

pub go_all-requires-clause-fit : goal.go_all-requires-clause-fit
go_all-requires-clause-fit c = fit_first c.args.script.now c.args.start c.in_ok-play.play c.requires.start c.in_ok-play.ensures
