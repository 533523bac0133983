use Rattle.std.proofs.Common.{◌∙◌, List, [], ◌∷◌, ◌++◌, ap}
use Rattle.std.proofs.lemmas.Result.{on_ok_weaker}
use Rattle.run_rules.specs.declared.applied.Applied.{Applied}
use Rattle.run_rules.specs.declared.applied.Applied.TheVariants.{Done as IsWritten}
use Rattle.run_rules.specs.declared.applied.Written.{Written}
use Rattle.server_says.proofs.writing.note_written.Goals as goal

pub returns : goal.returns
returns c =
    let d = c.args.draft.now in
    on_ok_weaker c.push.result
    (λ e. ap (λ (l : List Applied). record d { applied = l })
    (e ∙ ap (λ (w : Written). d.applied ++ IsWritten w ∷ []) c.in_ok-written.ensures)) c.push.ensures.ok
