use Rattle.std.proofs.Common.{◌≡◌, ◌∙◌, sym, ◌∷◌}
use Rattle.hub_board.specs.declared.given.Turned.TheVariants.{Ended, Idle}
use Rattle.host_node.proofs.Turns.{ends, is_done, none_of, not_done}
use Rattle.host_node.proofs.host.HostNodeNode.work.Goals as goal

pub returns-clause-works : goal.returns-clause-works
returns-clause-works c = λ part past made st to.
    ends part c.take_turn.new.self (record { steps = made; given = c.args.given } ∷ past) c.take_turn.new.steps.steps
    (c.in-Ok.ensures part past made st to)

pub returns-clause-quiet : goal.returns-clause-quiet
returns-clause-quiet c = λ idle.
    let quiet = c.turned.ensures.quiet idle in (none_of c.args.given (sym c.is_some-came.ensures ∙ quiet.0), quiet.1)

pub returns-clause-done : goal.returns-clause-done
returns-clause-done c = λ part past made st to e knows.
    let same : c.turned.result ≡ Ended = cc in
    is_done part c.take_turn.new.self (record { steps = made; given = c.args.given } ∷ past) c.take_turn.new.steps.steps
    (c.in-Ok.ensures part past made st to) (c.turned.ensures.quiet (λ worked. let clash = sym worked ∙ same in absurd
    (cc))).1 (c.turned.ensures.gone same)
    (c.turned.ensures.over same)

pub returns-clause-undone : goal.returns-clause-undone
returns-clause-undone c = λ part past made st to e knows done.
    let same : c.turned.result ≡ Idle = cc in
    not_done part c.take_turn.new.self (record { steps = made; given = c.args.given } ∷ past)
    c.take_turn.new.steps.steps (c.in-Ok.ensures part past made st to)
    (c.turned.ensures.quiet (λ worked. let clash = sym worked ∙ same in absurd (cc))).1 (c.turned.ensures.undone same)
    done
