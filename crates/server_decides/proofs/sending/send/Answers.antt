use Rattle.std.proofs.Common.{ap, subst, sym}
use Rattle.std.proofs.lemmas.Result.{on_ok_weaker}
use Rattle.server_decides.specs.Sending.{said_made, sent_made, use_made}
use Rattle.server_decides.proofs.Parts.{made_same}
use Rattle.server_decides.proofs.Saying.{made_says, said_says, use_says}
use Rattle.server_decides.specs.Saying.{MaySay}
use Rattle.server_decides.proofs.sending.send.Goals as goal

pub returns-in-Grant-clause-made : goal.returns-in-Grant-clause-made
returns-in-Grant-clause-made g c tells p place =
    let x = c.args.tables.now in
    let d = c.args.draft.now in
    let st = (g.S.Store.view c.args.keeper.now.store).state in
    on_ok_weaker c.send_grant.result (λ m. made_same x d x d c.send_grant.new.tables c.send_grant.new.draft _ _
    (ap (sent_made x d st c.args.at p) (sym c.in-Grant.is)) m) (c.send_grant.ensures.made tells p place)

pub returns-in_ok-send_use-in-Use-clause-made : goal.returns-in_ok-send_use-in-Use-clause-made
returns-in_ok-send_use-in-Use-clause-made g c tells p place =
    let x = c.args.tables.now in
    let d = c.args.draft.now in
    let st = (g.S.Store.view c.args.keeper.now.store).state in
    made_same x d x d c.send_use.new.tables c.send_use.new.draft _ _
    (ap (sent_made x d st c.args.at p) (sym c.in-Use.is)) (c.in_ok-send_use-in-Use.ensures.made p place)

pub returns-in_ok-say_done-in-Say-clause-made : goal.returns-in_ok-say_done-in-Say-clause-made
returns-in_ok-say_done-in-Say-clause-made g c tells p place =
    let x = c.args.tables.now in
    let d = c.args.draft.now in
    let st = (g.S.Store.view c.args.keeper.now.store).state in
    made_same x d x d c.say_done.new.tables c.say_done.new.draft _ _
    (ap (sent_made x d st c.args.at p) (sym c.in-Say.is)) (c.in_ok-say_done-in-Say.ensures.made p place)

pub returns-in-Grant-clause-says : goal.returns-in-Grant-clause-says
returns-in-Grant-clause-says g c p place may =
    c.send_grant.ensures.says p place (subst (MaySay c.args.tables.now p) c.in-Grant.is may)

pub returns-in_ok-send_use-in-Use-clause-says : goal.returns-in_ok-send_use-in-Use-clause-says
returns-in_ok-send_use-in-Use-clause-says g c p place may =
    let x = c.args.tables.now in
    let d = c.args.draft.now in
    let so = c.in_ok-send_use-in-Use.ensures in
    made_says x d c.send_use.new.tables c.send_use.new.draft
    (use_made x d c.args.at p c.in-Use.fileset c.in-Use.number) (so.made p place)
    (use_says x d c.args.at p c.in-Use.fileset c.in-Use.number (subst (MaySay x p) c.in-Use.is may)
    (so.brought p place))

pub returns-in_ok-say_done-in-Say-clause-says : goal.returns-in_ok-say_done-in-Say-clause-says
returns-in_ok-say_done-in-Say-clause-says g c p place may =
    let x = c.args.tables.now in
    let d = c.args.draft.now in
    made_says x d c.say_done.new.tables c.say_done.new.draft
    (said_made x d c.args.at p c.in-Say.fileset c.in-Say.number c.in-Say.outcome)
    (c.in_ok-say_done-in-Say.ensures.made p place)
    (said_says x d c.args.at p c.in-Say.fileset c.in-Say.number c.in-Say.outcome (subst (MaySay x p) c.in-Say.is may))
