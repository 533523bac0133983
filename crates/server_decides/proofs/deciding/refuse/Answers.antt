use Rattle.std.proofs.Common.{refl, sym, subst}
use Rattle.message_types.specs.Soundness.{IsReply}
use Rattle.server_says.specs.Writing.{written_made}
use Rattle.server_decides.proofs.Brings.{change_brought}
use Rattle.server_decides.proofs.Saying.{made_says, says_none, written_says}
use Rattle.server_decides.proofs.Served.{change_here, host_hears}
use Rattle.server_decides.proofs.Parts.{refused_none, refused_now, store_host, written_served}
use Rattle.server_decides.proofs.deciding.refuse.Goals as goal

pub returns-in_default-clause-refused : goal.returns-in_default-clause-refused
returns-in_default-clause-refused g c tells =
    refused_none c.args.tables.now c.args.draft.now (g.S.Store.view c.args.keeper.now.store).state
    c.args.wanted.now.host c.args.refusal c.args.wanted.now.request c.in_default.not-Change

pub refuse_call-requires-clause-host : goal.refuse_call-requires-clause-host
refuse_call-requires-clause-host g c = store_host c.args.tables.now (g.S.Store.view c.args.keeper.now.store).state
    c.args.wanted.now c.requires.served.store c.requires.came

pub returns-clause-refused : goal.returns-clause-refused
returns-clause-refused g c tells =
    refused_now c.args.tables.now c.write_down.new.tables c.args.draft.now c.write_down.new.draft
    (g.S.Store.view c.args.keeper.now.store).state (g.S.Store.view c.refuse_call.new.keeper.store).state
    c.args.wanted.now.host c.in-Change.change c.args.wanted.now.request c.in-Change.is c.in_ok-reply.reply
    c.in_ok-write_down.ensures.tables c.in_ok-write_down.ensures.draft c.args.refusal c.in_ok-reply.ensures.reply
    (c.in_ok-reply.ensures.state tells)

pub returns-clause-served : goal.returns-clause-served
returns-clause-served g c =
    written_served c.args.tables.now c.write_down.new.tables c.args.draft.now c.write_down.new.draft
    (g.S.Store.view c.args.keeper.now.store).state (g.S.Store.view c.refuse_call.new.keeper.store).state
    c.args.wanted.now.host c.in-Change.change c.args.wanted.now.request c.in-Change.is c.in_ok-reply.reply
    c.in_ok-write_down.ensures.tables c.in_ok-write_down.ensures.draft (g.S.Store.view c.args.keeper.now.store)
    (g.S.Store.view c.refuse_call.new.keeper.store) c.requires.served c.in_ok-reply.ensures.tried.same

pub returns-in_default-clause-says : goal.returns-in_default-clause-says
returns-in_default-clause-says g c sound = says_none c.args.tables.now c.args.draft.now sound

pub returns-clause-says : goal.returns-clause-says
returns-clause-says g c sound =
    let x = c.args.tables.now in
    let d = c.args.draft.now in
    let w = c.args.wanted.now in
    let change = c.in-Change.change in
    let made = c.in_ok-write_down.ensures in
    made_says x d c.write_down.new.tables c.write_down.new.draft (written_made x d w.host change c.in_ok-reply.reply)
    (record { tables = made.tables; draft = made.draft })
    (written_says x d w.host change c.in_ok-reply.reply sound (host_hears x.server x.roster w c.requires.came)
    (change_here x.server x.roster w c.requires.came change c.in-Change.is)
    (subst IsReply (sym c.in_ok-reply.ensures.reply) tt))

pub returns-in_err-reply-clause-went : goal.returns-in_err-reply-clause-went
returns-in_err-reply-clause-went g c tells came its =
    c.in_err-reply.ensures.went tells came c.in-Change.change
    (change_brought came c.args.wanted.now c.in-Change.change c.in-Change.is its) refl

pub returns-in_err-write_down-clause-went : goal.returns-in_err-write_down-clause-went
returns-in_err-write_down-clause-went g c tells came its =
    c.in_ok-reply.ensures.went tells came c.in-Change.change
    (change_brought came c.args.wanted.now c.in-Change.change c.in-Change.is its) refl

pub returns-clause-went : goal.returns-clause-went
returns-clause-went g c tells came its =
    c.in_ok-reply.ensures.went tells came c.in-Change.change
    (change_brought came c.args.wanted.now c.in-Change.change c.in-Change.is its) refl
