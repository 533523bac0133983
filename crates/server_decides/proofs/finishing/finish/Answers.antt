use Rattle.token_manager.specs.Managers.{wanted}
use Rattle.server_says.specs.Revoking.{not_asked}
use Rattle.server_decides.proofs.Brings.{finished_brought}
use Rattle.server_decides.proofs.Finished.{admits_served, back_served, finished_so, none_by}
use Rattle.server_decides.proofs.Onward.{admits_says, back_says}
use Rattle.server_decides.proofs.Saying.{says_then}
use Rattle.server_decides.proofs.Steps.{served_asked}
use Rattle.server_decides.proofs.finishing.finish.Goals as goal

pub send_all-requires-clause-served : goal.send_all-requires-clause-served
send_all-requires-clause-served g c =
    admits_served c.decide_all.new.tables c.admit_all.new.tables c.decide_all.new.draft c.admit_all.new.draft
    (g.S.Store.view c.decide_all.new.keeper.store) c.in_ok-admit_all.ensures.goes c.in_ok-admit_all.ensures.counted
    c.in_ok-decide_all.ensures.served

pub next_due-requires-clause-served : goal.next_due-requires-clause-served
next_due-requires-clause-served g c =
    back_served (g.S.Store.view c.send_all.new.keeper.store).state c.send_all.new.tables c.revoke_all.new.tables
    c.send_all.new.draft (not_asked (wanted c.send_all.new.tables.tokens)) c.in_ok-revoke_all.ensures.tables
    c.in_ok-send_all.ensures.served

pub returns-clause-finished : goal.returns-clause-finished
returns-clause-finished g c tells =
    finished_so c.args.tables.now c.revoke_all.new.tables c.args.draft.now c.revoke_all.new.draft
    (g.S.Store.view c.args.keeper.now.store).state (g.S.Store.view c.next_due.new.keeper.store).state
    c.decide_all.new.tables c.admit_all.new.tables c.send_all.new.tables c.decide_all.new.draft c.admit_all.new.draft
    c.send_all.new.draft (g.S.Store.view c.decide_all.new.keeper.store).state
    (g.S.Store.view c.send_all.new.keeper.store).state c.in_ok-next_due.field-0 c.is_none.result
    (c.in_ok-decide_all.ensures.goes tells) (c.in_ok-decide_all.ensures.none tells) c.in_ok-admit_all.ensures.goes
    c.in_ok-admit_all.ensures.none
    (admits_served c.decide_all.new.tables c.admit_all.new.tables c.decide_all.new.draft c.admit_all.new.draft
    (g.S.Store.view c.decide_all.new.keeper.store) c.in_ok-admit_all.ensures.goes c.in_ok-admit_all.ensures.counted
    c.in_ok-decide_all.ensures.served) (c.in_ok-send_all.ensures.sent tells)
    (c.in_ok-send_all.ensures.asked.state tells) c.laws.ensures c.in_ok-revoke_all.ensures.tables
    c.in_ok-revoke_all.ensures.draft (c.in_ok-next_due.ensures.asked.state tells)
    (c.in_ok-next_due.ensures.due tells) (none_by c.in_ok-next_due.field-0 c.is_none.result c.is_none.ensures)

pub returns-clause-served : goal.returns-clause-served
returns-clause-served g c =
    served_asked c.revoke_all.new.tables (g.S.Store.view c.send_all.new.keeper.store)
    (g.S.Store.view c.next_due.new.keeper.store)
    (back_served (g.S.Store.view c.send_all.new.keeper.store).state c.send_all.new.tables c.revoke_all.new.tables
    c.send_all.new.draft (not_asked (wanted c.send_all.new.tables.tokens)) c.in_ok-revoke_all.ensures.tables
    c.in_ok-send_all.ensures.served)
    c.in_ok-next_due.ensures.asked.tried.same

pub returns-clause-says : goal.returns-clause-says
returns-clause-says g c sound =
    let x = c.args.tables.now in
    let t = c.decide_all.new.tables in
    let u = c.admit_all.new.tables in
    let v = c.send_all.new.tables in
    let y = c.revoke_all.new.tables in
    let d = c.args.draft.now in
    let a = c.decide_all.new.draft in
    let b = c.admit_all.new.draft in
    let k = c.send_all.new.draft in
    let e = c.revoke_all.new.draft in
    let decided = c.in_ok-decide_all.ensures.says sound in
    let admitted = admits_says t u a b c.in_ok-admit_all.ensures.goes decided.sound in
    let sent = c.in_ok-send_all.ensures.says admitted.sound in
    let asked = back_says v y k e c.in_ok-revoke_all.ensures.tables c.in_ok-revoke_all.ensures.draft sent.sound in
    says_then x t y d a e decided (says_then t u y a b e admitted (says_then u v y b k e sent asked))

pub returns-clause-brought : goal.returns-clause-brought
returns-clause-brought g c tells came all =
    finished_brought came c.args.tables.now c.revoke_all.new.tables c.args.draft.now c.revoke_all.new.draft
    (g.S.Store.view c.args.keeper.now.store).state (g.S.Store.view c.next_due.new.keeper.store).state c.is_none.result
    (returns-clause-finished g c tells) all
