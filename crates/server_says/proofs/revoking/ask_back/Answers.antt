use Rattle.std.proofs.Common.{◌∙◌, List, sym, ap}
use Rattle.token_types.specs.declared.token.Token.{Token}
use Rattle.server_takes.specs.Drafts.{saying}
use Rattle.server_takes.specs.Taking.{Made}
use Rattle.server_says.specs.Revoking.{asked, asking_of, revoking}
use Rattle.server_says.proofs.Asked.{ask_less, ask_none, ask_on, none_first}
use Rattle.server_says.proofs.revoking.ask_back.Goals as goal

pub loop-first-preserved : goal.loop-first-preserved
loop-first-preserved c =
    let t = c.loop-first.tables in
    let d = c.loop-first.draft in
    let left = c.loop-first.left in
    let first = c.in-Some.first in
    ask_on t c.ask_for.new.tables d c.ask_for.new.draft first left c.drop_beside.new.left
    (sym c.first_of.ensures ∙ c.in-Some.is)
    (c.in_ok-ask_for.ensures.tables ∙ ap (λ (ts : List Token). asked t (asking_of t.stamp first ts).revoke)
    c.as_slice.ensures)
    (c.in_ok-ask_for.ensures.draft ∙ ap (λ (ts : List Token). saying d (revoking t (asking_of t.stamp first ts)))
    c.as_slice.ensures)
    c.drop_beside.ensures ∙ c.loop-first.invariant

pub loop-first-smaller : goal.loop-first-smaller
loop-first-smaller c =
    ask_less c.in-Some.first c.loop-first.left c.drop_beside.new.left (sym c.first_of.ensures ∙ c.in-Some.is)
    c.drop_beside.ensures

pub returns-clause-tables : goal.returns-clause-tables
returns-clause-tables c =
    ap (λ (m : Made). m.tables)
    (sym (ask_none c.loop-first.tables c.loop-first.draft c.loop-first.left
    (none_first c.loop-first.left c.first_of.result c.first_of.ensures c.in_default.not-Some)) ∙ c.loop-first.invariant)

pub returns-clause-draft : goal.returns-clause-draft
returns-clause-draft c =
    ap (λ (m : Made). m.draft)
    (sym (ask_none c.loop-first.tables c.loop-first.draft c.loop-first.left
    (none_first c.loop-first.left c.first_of.result c.first_of.ensures c.in_default.not-Some)) ∙ c.loop-first.invariant)
