use Rattle.std.proofs.Common.{sym, subst, refl, ap}
use Rattle.std.proofs.lemmas.Result.{on_ok_weaker}
use Rattle.server_tables.specs.declared.pending.Pending.{Pending}
use Rattle.server_tables.specs.declared.tables.Tables.{Tables}
use Rattle.server_decides.specs.Deciding.{MayBeDone}
use Rattle.server_decides.specs.Serving.{CameSo}
use Rattle.server_decides.proofs.Parts.{at_place_is, decided_so}
use Rattle.server_decides.proofs.Brings.{brought_at}
use Rattle.server_decides.proofs.Saying.{says_then, unqueued_says}
use Rattle.server_decides.proofs.Served.{came_at, served_less}
use Rattle.server_decides.proofs.deciding.decide.Goals as goal

pub make-requires-clause-may : goal.make-requires-clause-may
make-requires-clause-may g c =
    let due = c.requires.due in
    subst (λ (q : Pending). MayBeDone c.args.due.decision q.wanted.request)
    (sym (at_place_is c.args.tables.now.pending c.args.due.at c.unqueue-pending.result due.0
    c.unqueue-pending.ensures.value due.1))
    due.2

pub make-requires-clause-came : goal.make-requires-clause-came
make-requires-clause-came g c =
    let x = c.args.tables.now in
    let p = c.unqueue-pending.result in
    subst (λ (z : Tables). CameSo z.server z.roster p.wanted) (sym c.unqueue-pending.ensures.after)
    (came_at x (g.S.Store.view c.args.keeper.now.store).state c.requires.served c.args.due.at p
    (c.requires.due.1.0, sym c.unqueue-pending.ensures.value))

pub make-requires-clause-served : goal.make-requires-clause-served
make-requires-clause-served g c =
    let view = g.S.Store.view c.args.keeper.now.store in
    let e = c.unqueue-pending.ensures.after in
    served_less c.args.tables.now c.unqueue-pending.new.self view view c.requires.served
    (record { server = refl; roster = refl })
    (ap (λ (z : Tables). z.server) e) (ap (λ (z : Tables). z.roster) e) c.unqueue-pending.ensures.counted c.args.due.at
    (ap (λ (z : Tables). z.pending) e)

pub returns-clause-decided : goal.returns-clause-decided
returns-clause-decided g c tells =
    on_ok_weaker c.make.result (λ h. decided_so c.args.tables.now c.unqueue-pending.new.self c.make.new.tables
    c.args.draft.now c.make.new.draft (g.S.Store.view c.args.keeper.now.store).state
    (g.S.Store.view c.make.new.keeper.store).state c.args.due c.unqueue-pending.result c.requires.due.1.0
    c.unqueue-pending.ensures.value c.unqueue-pending.ensures.after h) (c.make.ensures.decided tells)

pub returns-clause-says : goal.returns-clause-says
returns-clause-says g c sound =
    let x = c.args.tables.now in
    let d = c.args.draft.now in
    let u = c.unqueue-pending.new.self in
    let so = unqueued_says x u d c.args.due.at c.unqueue-pending.result.number c.unqueue-pending.ensures.after sound in
    on_ok_weaker c.make.result (λ more. says_then x u c.make.new.tables d d c.make.new.draft so more)
    (c.make.ensures.says so.sound)

pub returns-clause-went : goal.returns-clause-went
returns-clause-went g c tells came all =
    c.make.ensures.went tells came (brought_at came c.args.tables.now.pending c.args.due.at c.unqueue-pending.result
    (c.requires.due.1.0, sym c.unqueue-pending.ensures.value) all)
