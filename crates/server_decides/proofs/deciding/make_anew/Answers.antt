use Rattle.std.proofs.Common.{◌∙◌, ap}
use Rattle.run_rules.specs.declared.applied.Request.{Request}
use Rattle.server_says.specs.Draft.{Draft}
use Rattle.server_says.specs.Taking.{want_made, wanted_for}
use Rattle.server_decides.specs.Deciding.{still_fresh}
use Rattle.server_decides.proofs.deciding.make_anew.Goals as goal

pub returns-clause-draft : goal.returns-clause-draft
returns-clause-draft c =
    c.keep_fresh.ensures ∙ ap (λ (d : Draft). still_fresh c.args.draft.now.fresh c.args.pending.number d)
    (c.in_ok-enqueue.ensures.draft ∙ ap (λ (r : Request).
    (want_made c.args.tables.now c.args.draft.now (wanted_for c.args.pending.wanted.host r c.args.needs)).draft)
    c.into_request.ensures)
