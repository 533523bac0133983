use Rattle.base_types.specs.declared.ids.Node.TheVariants.{Host}
use Rattle.host_manager.proofs.Tests.{when_so}
use Rattle.host_manager.specs.Spoken.{answered_step, tables_of}
use Rattle.host_tables.specs.Drafts.{step_of}
use Rattle.host_tables.specs.declared.draft.Draft.{Draft}
use Rattle.run_rules.specs.declared.step.Cause.TheVariants.{Line as LineOf}
use Rattle.std.proofs.Common.{[], ap, true, ◌++◌, ◌∙◌, ◌∷◌, ◌≡◌}
use Rattle.host_manager.proofs.machine.Machine.answered_step.Goals as goal

pub returns : goal.returns
returns c =
    let m = tables_of c.args.self.now in
    when_so c.push-noted.result c.when.result c.step.result _ (λ step. step
    ≡ answered_step m.host c.args.line c.args.k c.args.call c.args.reply) c.push-noted.ensures.ok c.when.ensures.done
    c.when.ensures.step
    (λ grown. c.step.ensures ∙ (λ i. step_of (Host m.host) (LineOf c.args.line) (record (c.new-draft.ensures i) {
      answers = (grown ∙ ap (λ (d : Draft). d.answers ++ record {
        host = m.host;
        k = c.args.k;
        call = c.args.call;
        reply = c.args.reply;
        first = true;
      } ∷ []) c.new-draft.ensures) i;
    })))
