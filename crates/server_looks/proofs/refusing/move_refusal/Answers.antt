use Rattle.std.proofs.Common.{◌≡◌, ◌∙◌, ap, sym}
use Rattle.std.specs.Prelude.{Some}
use Rattle.base_types.specs.declared.ids.Fid.{Fid}
use Rattle.store_memory.specs.Reading.{status_told}
use Rattle.server_looks.proofs.Looked.{moved_if}
use Rattle.server_looks.proofs.refusing.move_refusal.Goals as goal

pub returns-clause-refusal : goal.returns-clause-refusal
returns-clause-refusal g c tells user known =
    let state = (g.S.Store.view c.args.keeper.now.store).state in
    let later = (g.S.Store.view c.find.new.self.store).state in
    let other = c.in-Some-2.user in
    let same : Some other ≡ Some user = sym c.in-Some-2.is ∙ c.in_ok-user.ensures ∙ known in
    c.move_refused.ensures ∙ moved_if state later c.args.server c.args.to user other c.args.name.now
    c.in_ok-fileset.field-0 c.in-Some.fileset c.in_ok-status.status
    c.requires.of (c.in_ok-fileset.ensures.asked.state tells) (c.in_ok-fileset.ensures.found tells) c.in-Some.is same
    (c.in_ok-status.ensures.status tells ∙ ap (λ (fid : Fid). status_told later fid) c.root_of.ensures)
