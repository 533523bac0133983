use Rattle.std.proofs.Common.{ap, sym, ◌∙◌}
use Rattle.std.proofs.lemmas.Result.{on_ok_weaker}
use Rattle.host_asks.specs.Asking.{changing, coming_to, doing, may_ask, next_change}
use Rattle.message_types.specs.Soundness.{no_fid}
use Rattle.host_asks.proofs.Asked.{asked_not, asked_on}
use Rattle.host_asks.proofs.asking.ask_question.Goals as goal

pub returns-then-not-branch : goal.returns-then-not-branch
returns-then-not-branch c =
    let old = (doing c.args.tables.now c.args.draft.now) in
    let server = c.server_of-server.ensures in
    asked_not c.args.question c.args.current.k c.args.current.call.now old (doing c.may_ask.new.tables
    c.may_ask.new.draft)
    (c.in_ok-may_ask.ensures.after ∙ ap (λ s. coming_to s old) server)
    (sym (ap (λ s. may_ask s old) server) ∙ sym c.in_ok-may_ask.ensures.may ∙ c.if-not-branch.true)

pub returns : goal.returns
returns c =
    let old = (doing c.args.tables.now c.args.draft.now) in
    let mid = doing c.may_ask.new.tables c.may_ask.new.draft in
    let server = c.server_of-server.ensures in
    let fileset = c.fileset_of-fileset.ensures in
    let enters = c.is_entering-enters.ensures in
    on_ok_weaker c.change.result
    (λ e. asked_on c.args.question c.args.current.k c.args.current.call.now old mid (doing c.change.new.tables
    c.change.new.draft)
    (c.in_ok-may_ask.ensures.after ∙ ap (λ s. coming_to s old) server)
    (sym (ap (λ s. may_ask s old) server) ∙ sym c.in_ok-may_ask.ensures.may ∙ c.if-not-branch.false)
    (e ∙ (λ i. changing (server i)
    (next_change mid.tables (server i) (fileset i) no_fid (enters i) c.args.current.k c.args.current.call.now) mid)))
    c.change.ensures
