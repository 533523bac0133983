use Rattle.std.proofs.Common.{◌≡◌, ◌∙◌, sym}
use Rattle.hub_board.specs.declared.given.Turned.TheVariants.{Idle}
use Rattle.hub_drive_tests.proofs.Stubs.{is_done, none_given, stands_on, still_none}
use Rattle.hub_drive_tests.proofs.stub.StubNode.work.Goals as goal

pub returns-clause-works : goal.returns-clause-works
returns-clause-works c = λ part past made st to.
    stands_on part c.args.self.now _ past made c.args.steps.now.steps c.args.given st c.act.ensures c.requires.none

pub returns-clause-quiet : goal.returns-clause-quiet
returns-clause-quiet c = λ idle.
    (none_given c.args.given (sym c.is_some-came.ensures ∙ c.turned.ensures.quiet idle), c.requires.none)

pub returns-clause-done : goal.returns-clause-done
returns-clause-done c = λ part past made st to e knows.
    is_done part.run part.node _ (still_none past made c.args.given st.nothing st.none) st.setup st.lines knows

pub returns-clause-undone : goal.returns-clause-undone
returns-clause-undone c = λ part past made st to e knows done.
    let same : c.turned.result ≡ Idle = cc in
    st.server (c.rests-rests.ensures (c.turned.ensures.idle same)) knows
