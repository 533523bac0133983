use Rattle.std.proofs.Common.{refl}
use Rattle.server_says.specs.Writing.{written_made}
use Rattle.server_decides.proofs.Brings.{change_brought}
use Rattle.server_decides.proofs.Saying.{made_says, says_none, written_says}
use Rattle.server_decides.proofs.Served.{change_here, host_hears}
use Rattle.server_decides.proofs.Parts.{done_none, done_now, store_call, store_host, store_may, written_served}
use Rattle.server_decides.proofs.deciding.do_now.Goals as goal

pub returns-in_default-clause-done : goal.returns-in_default-clause-done
returns-in_default-clause-done g c tells =
    done_none c.args.tables.now c.args.draft.now (g.S.Store.view c.args.keeper.now.store).state
    c.args.wanted.now.host c.args.wanted.now.request c.in_default.not-Change

pub do_call-requires-clause-host : goal.do_call-requires-clause-host
do_call-requires-clause-host g c = store_host c.args.tables.now (g.S.Store.view c.args.keeper.now.store).state
    c.args.wanted.now c.requires.served.store c.requires.came

pub do_call-requires-clause-call : goal.do_call-requires-clause-call
do_call-requires-clause-call g c = store_call c.args.tables.now (g.S.Store.view c.args.keeper.now.store).state
    c.args.wanted.now c.requires.served.store c.requires.came c.in-Change.change c.in-Change.is

pub do_call-requires-clause-decided : goal.do_call-requires-clause-decided
do_call-requires-clause-decided g c =
    let may = store_may c.args.tables.now (g.S.Store.view c.args.keeper.now.store).state c.args.wanted.now
    c.requires.served.store c.requires.came c.in-Change.change c.in-Change.is c.requires.may in may.0

pub do_call-requires-clause-own : goal.do_call-requires-clause-own
do_call-requires-clause-own g c =
    let may = store_may c.args.tables.now (g.S.Store.view c.args.keeper.now.store).state c.args.wanted.now
    c.requires.served.store c.requires.came c.in-Change.change c.in-Change.is c.requires.may in may.1

pub returns-clause-done : goal.returns-clause-done
returns-clause-done g c tells =
    done_now c.args.tables.now c.write_down.new.tables c.args.draft.now c.write_down.new.draft
    (g.S.Store.view c.args.keeper.now.store).state (g.S.Store.view c.do_call.new.keeper.store).state
    c.args.wanted.now.host c.in-Change.change c.args.wanted.now.request c.in-Change.is c.in_ok-reply.reply
    c.in_ok-write_down.ensures.tables c.in_ok-write_down.ensures.draft c.in_ok-reply.ensures.named
    (c.in_ok-reply.ensures.reply tells) (c.in_ok-reply.ensures.state tells)

pub returns-clause-served : goal.returns-clause-served
returns-clause-served g c =
    written_served c.args.tables.now c.write_down.new.tables c.args.draft.now c.write_down.new.draft
    (g.S.Store.view c.args.keeper.now.store).state (g.S.Store.view c.do_call.new.keeper.store).state
    c.args.wanted.now.host c.in-Change.change c.args.wanted.now.request c.in-Change.is c.in_ok-reply.reply
    c.in_ok-write_down.ensures.tables c.in_ok-write_down.ensures.draft (g.S.Store.view c.args.keeper.now.store)
    (g.S.Store.view c.do_call.new.keeper.store) c.requires.served c.in_ok-reply.ensures.tried.same

pub returns-in_default-clause-says : goal.returns-in_default-clause-says
returns-in_default-clause-says g c sound = says_none c.args.tables.now c.args.draft.now sound

pub returns-clause-says : goal.returns-clause-says
returns-clause-says g c sound =
    let x = c.args.tables.now in
    let d = c.args.draft.now in
    let w = c.args.wanted.now in
    let change = c.in-Change.change in
    let made = c.in_ok-write_down.ensures in
    made_says x d c.write_down.new.tables c.write_down.new.draft (written_made x d w.host change c.in_ok-reply.reply)
    (record { tables = made.tables; draft = made.draft })
    (written_says x d w.host change c.in_ok-reply.reply sound (host_hears x.server x.roster w c.requires.came)
    (change_here x.server x.roster w c.requires.came change c.in-Change.is) c.in_ok-reply.ensures.sound)

pub returns-in_err-reply-clause-went : goal.returns-in_err-reply-clause-went
returns-in_err-reply-clause-went g c tells came its =
    c.in_err-reply.ensures.went tells came c.in-Change.change
    (change_brought came c.args.wanted.now c.in-Change.change c.in-Change.is its) refl

pub returns-in_err-write_down-clause-went : goal.returns-in_err-write_down-clause-went
returns-in_err-write_down-clause-went g c tells came its =
    c.in_ok-reply.ensures.went tells came c.in-Change.change
    (change_brought came c.args.wanted.now c.in-Change.change c.in-Change.is its) refl

pub returns-clause-went : goal.returns-clause-went
returns-clause-went g c tells came its =
    c.in_ok-reply.ensures.went tells came c.in-Change.change
    (change_brought came c.args.wanted.now c.in-Change.change c.in-Change.is its) refl
