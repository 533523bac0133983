use Rattle.std.proofs.Common.{◌≡◌, ◌∙◌, true}
use Rattle.std.proofs.lemmas.Result.{IfOk-weaker}
use Rattle.server_keeps.specs.Asking.{is_own, move_told, refusal_told, server_of}
use Rattle.server_looks.proofs.Looked.{moved_told}
use Rattle.server_looks.proofs.refusing.refusal_on.Goals as goal

pub returns-in-MoveFileset-clause-refusal : goal.returns-in-MoveFileset-clause-refusal
returns-in-MoveFileset-clause-refusal g c tells user known =
    let state = (g.S.Store.view c.args.keeper.now.store).state in
    let host = c.args.host in
    let call = c.args.call.now in
    let own : is_own c.args.server (server_of call) ≡ true = cc in
    IfOk-weaker c.move_refusal.result
    (λ refusal. refusal ≡ move_told state user c.in-MoveFileset.fileset c.in-MoveFileset.to)
    (λ refusal. refusal ≡ refusal_told state host user call)
    (λ refusal e. e ∙ moved_told state c.args.server _ _ host user call _ c.requires.of own c.in-MoveFileset.is)
    (c.move_refusal.ensures.refusal tells user known)
