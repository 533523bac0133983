use Rattle.std.proofs.Common.{◌∙◌, ap}
use Rattle.token_manager.specs.Managers.{Manager, after_decide}
use Rattle.server_tables.specs.declared.pending.Pending.{Pending}
use Rattle.server_decides.specs.Sending.{granted_tokens, tokens_of}
use Rattle.server_decides.proofs.Parts.{at_place_is}
use Rattle.server_decides.proofs.Saying.{granted_test}
use Rattle.server_decides.proofs.sending.granted.Goals as goal

pub returns-clause-tokens : goal.returns-clause-tokens
returns-clause-tokens c p place =
    let x = c.args.tables.now in
    let same = at_place_is x.pending c.args.at c.get-pending.result.now p c.get-pending.ensures place in
    c.tokens_of-tokens.ensures ∙ ap tokens_of c.in_ok-ready.ensures.answer
    ∙ ap (λ (q : Pending). granted_tokens x.tokens q.number) same

pub returns-clause-tables : goal.returns-clause-tables
returns-clause-tables c p place =
    let x = c.args.tables.now in
    let same = at_place_is x.pending c.args.at c.get-pending.result.now p c.get-pending.ensures place in
    ap (λ (m : Manager). record x { tokens = m })
    (c.in_ok-ready.ensures.after ∙ ap (λ (q : Pending). after_decide x.tokens q.number) same)

pub returns-clause-brought : goal.returns-clause-brought
returns-clause-brought c p place =
    let x = c.args.tables.now in
    let same = at_place_is x.pending c.args.at c.get-pending.result.now p c.get-pending.ensures place in
    granted_test x.server x.hosts.epoch c.get-pending.result.now p c.args.fid c.file_for.result c.as_slice.result.now
    c.tokens_of-tokens.result (granted_tokens x.tokens p.number) c.are_brought.result (cc) c.are_brought.ensures
    c.as_slice.ensures (returns-clause-tokens c p place) c.file_for.ensures same
