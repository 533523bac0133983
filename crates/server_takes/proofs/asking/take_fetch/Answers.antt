use Rattle.std.proofs.Common.{sym, ◌≡◌, ◌∙◌, ap, true, false}
use Rattle.std.proofs.lemmas.Result.{on_ok_weaker}
use Rattle.server_takes.proofs.Parts.{fetch_dropped, fetch_wanted}
use Rattle.server_takes.specs.Taking.{Made, takes_fetch}
use Rattle.server_takes.proofs.asking.take_fetch.Goals as goal

pub returns-then-not-branch-clause-tables : goal.returns-then-not-branch-clause-tables
returns-then-not-branch-clause-tables c = ap (λ (m : Made). m.tables)
    (fetch_dropped c.args.tables.now c.args.draft.now c.args.host c.args.fetch.now
    (sym c.in_ok-takes_fetch.ensures ∙ c.if-not-branch.true))

pub returns-then-not-branch-clause-draft : goal.returns-then-not-branch-clause-draft
returns-then-not-branch-clause-draft c = ap (λ (m : Made). m.draft)
    (fetch_dropped c.args.tables.now c.args.draft.now c.args.host c.args.fetch.now
    (sym c.in_ok-takes_fetch.ensures ∙ c.if-not-branch.true))

pub returns-clause-tables : goal.returns-clause-tables
returns-clause-tables c =
    let takes : takes_fetch c.args.tables.now c.args.host c.args.fetch.now ≡ true = sym c.in_ok-takes_fetch.ensures
    ∙ c.if-not-branch.false in
    on_ok_weaker c.want_fetch.result
    (λ e. e ∙ ap (λ (m : Made). m.tables)
    (fetch_wanted c.args.tables.now c.args.draft.now c.args.host c.args.fetch.now takes))
    c.want_fetch.ensures.tables

pub returns-clause-draft : goal.returns-clause-draft
returns-clause-draft c =
    let takes : takes_fetch c.args.tables.now c.args.host c.args.fetch.now ≡ true = sym c.in_ok-takes_fetch.ensures
    ∙ c.if-not-branch.false in
    on_ok_weaker c.want_fetch.result
    (λ e. e ∙ ap (λ (m : Made). m.draft)
    (fetch_wanted c.args.tables.now c.args.draft.now c.args.host c.args.fetch.now takes)) c.want_fetch.ensures.draft
