use Rattle.std.proofs.Common.{◌≡◌, ◌∙◌, Err, List, ◌∷◌, ◌++◌, ap, sym, subst}
use Rattle.hub_board.specs.declared.given.Turned.TheVariants.{Ended, Idle}
use Rattle.hub_laws.specs.Keeping.{Round, lapse_in, message_in}
use Rattle.run_rules.specs.declared.step.Step.{Step}
use Rattle.server_node.proofs.Broken.{broken_by}
use Rattle.server_node.proofs.Standing.{begins}
use Rattle.server_node.proofs.Turns.{given_if, is_done, none_of, not_done, was_given}
use Rattle.server_node.specs.Standing.{StandsSo, latest_first}
use Rattle.server_node.proofs.server.ServerNodeNode.work.Goals as goal

pub take_turn-requires-clause-ready : goal.take_turn-requires-clause-ready
take_turn-requires-clause-ready g c = c.requires.stands.1.1.1.0.ready

pub take_turn-requires-clause-rested : goal.take_turn-requires-clause-rested
take_turn-requires-clause-rested g c = c.requires.stands.1.1.1.0.rested

pub take_turn-requires-clause-theirs : goal.take_turn-requires-clause-theirs
take_turn-requires-clause-theirs g c = c.requires.stands.1.1.1.0.theirs

pub take_turn-requires-clause-given : goal.take_turn-requires-clause-given
take_turn-requires-clause-given g c =
    let s = c.requires.stands in
    given_if g.S.Store.tells g.S.Store.view s.0 c.args.self.now s.1.0 s.1.1.0 s.1.1.1.0 c.args.given s.1.1.1.1

pub returns-in-Ok-clause-works : goal.returns-in-Ok-clause-works
returns-in-Ok-clause-works g c = λ part past made st to.
    let tells = g.S.Store.tells in let view = g.S.Store.view in
    let round : Round = record { steps = made; given = c.args.given } in
    let at : StandsSo tells view part c.args.self.now (round ∷ past) c.args.steps.now.steps
    (message_in c.args.given ++ latest_first c.args.self.now.inbox) (lapse_in c.args.given) =
    subst (λ (l : List Step). StandsSo tells view part c.args.self.now (round ∷ past) l
    (message_in c.args.given ++ latest_first c.args.self.now.inbox) (lapse_in c.args.given)) (sym c.requires.none)
    (begins tells view part c.args.self.now past made c.args.given st) in
    record {
      ready = c.in-Ok.ensures.ready;
      rested = c.in-Ok.ensures.rested;
      theirs = c.in-Ok.ensures.theirs;
      so = c.in-Ok.ensures.works part (round ∷ past) at (was_given past made c.args.given);
    }

pub returns-in-Ok-clause-quiet : goal.returns-in-Ok-clause-quiet
returns-in-Ok-clause-quiet g c = λ idle.
    let quiet = c.turned.ensures.quiet idle in (none_of c.args.given (sym c.is_some-came.ensures ∙ quiet.0), quiet.1)

pub returns-in-Ok-clause-done : goal.returns-in-Ok-clause-done
returns-in-Ok-clause-done g c = λ part past made st to e knows.
    let tells = g.S.Store.tells in let view = g.S.Store.view in
    let round : Round = record { steps = made; given = c.args.given } in
    let at : StandsSo tells view part c.args.self.now (round ∷ past) c.args.steps.now.steps
    (message_in c.args.given ++ latest_first c.args.self.now.inbox) (lapse_in c.args.given) =
    subst (λ (l : List Step). StandsSo tells view part c.args.self.now (round ∷ past) l
    (message_in c.args.given ++ latest_first c.args.self.now.inbox) (lapse_in c.args.given)) (sym c.requires.none)
    (begins tells view part c.args.self.now past made c.args.given st) in
    let same : c.turned.result ≡ Ended = cc in
    is_done tells view part c.take_turn.new.self (round ∷ past) c.take_turn.new.steps.steps
    (latest_first c.take_turn.new.self.inbox)
    (c.in-Ok.ensures.works part (round ∷ past) at (was_given past made c.args.given))
    (c.turned.ensures.quiet (λ worked. let clash = sym worked ∙ same in absurd (cc))).1 knows
    (c.turned.ensures.gone same) (c.turned.ensures.alone same)

pub returns-in-Ok-clause-undone : goal.returns-in-Ok-clause-undone
returns-in-Ok-clause-undone g c = λ part past made st to e knows done.
    let tells = g.S.Store.tells in let view = g.S.Store.view in
    let round : Round = record { steps = made; given = c.args.given } in
    let at : StandsSo tells view part c.args.self.now (round ∷ past) c.args.steps.now.steps
    (message_in c.args.given ++ latest_first c.args.self.now.inbox) (lapse_in c.args.given) =
    subst (λ (l : List Step). StandsSo tells view part c.args.self.now (round ∷ past) l
    (message_in c.args.given ++ latest_first c.args.self.now.inbox) (lapse_in c.args.given)) (sym c.requires.none)
    (begins tells view part c.args.self.now past made c.args.given st) in
    let same : c.turned.result ≡ Idle = cc in
    not_done tells view part c.take_turn.new.self (round ∷ past) c.take_turn.new.steps.steps
    (latest_first c.take_turn.new.self.inbox)
    (c.in-Ok.ensures.works part (round ∷ past) at (was_given past made c.args.given))
    (c.turned.ensures.quiet (λ worked. let clash = sym worked ∙ same in absurd (cc))).1 knows
    (c.turned.ensures.undone same) done

pub returns-in-Ok-clause-stays : goal.returns-in-Ok-clause-stays
returns-in-Ok-clause-stays g c = c.take_turn.ensures.stays

pub returns-in-Err-clause-failed : goal.returns-in-Err-clause-failed
returns-in-Err-clause-failed g c = record {
  served = c.take_turn.ensures.stays;
  store = λ is. c.take_turn.ensures.failed (c.in-Err.is ∙ ap (λ e. Err e) is);
}

pub returns-in-Err-clause-broken : goal.returns-in-Err-clause-broken
returns-in-Err-clause-broken g c = λ part past made st to.
    broken_by g.S.Store.tells g.S.Store.view part c.args.self.now c.take_turn.new.self past made c.args.given st
    c.take_turn.ensures.went
