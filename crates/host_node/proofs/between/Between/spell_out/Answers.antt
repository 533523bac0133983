use Rattle.std.proofs.Common.{refl}
use Rattle.host_manager.specs.Spoken.{tables_of}
use Rattle.host_node.proofs.Waiting.{same_kept}
use Rattle.host_node.proofs.between.Between.spell_out.Goals as goal

pub returns-clause-steps : goal.returns-clause-steps
returns-clause-steps c = λ steps kept.
    let b = c.args.self.now in
    c.spell_each-done.ensures steps
    (same_kept c.args.lines.now.lines (tables_of c.args.manager.now).host steps b.steps.items b.steps.items
    b.entries.items c.as_slice.result.now b.spelled c.as_slice-2.result.now refl c.as_slice.ensures.value
    c.as_slice-2.ensures kept)
