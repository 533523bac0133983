use Rattle.std.proofs.Common.{◌++◌, ◌∙◌, ◌∷◌, [], refl, sym, take}
use Rattle.host_node.proofs.Turns.{on_ok}
use Rattle.host_node.proofs.Waiting.{noted, same_kept}
use Rattle.host_node.specs.Between.{entry_of, step_of}
use Rattle.host_node.proofs.between.Between.note.Goals as goal

pub returns : goal.returns
returns c = λ lines said host steps is place k bytes holds.
    let b = c.args.self.now in
    let front = take c.args.count c.args.out.now in
    on_ok c.extend.result _ _
    (λ at. same_kept lines host (steps ++ step_of host said ∷ []) b.steps.items b.steps.items
    (b.entries.items ++ entry_of said ∷ []) c.push.new.self.items (b.spelled ++ front) c.extend.new.self refl
    (c.in_ok-push.ensures.items ∙ (λ i. b.entries.items ++ record { place = sym place i; k = sym k i } ∷ [])) at
    (noted lines host steps b.steps.items b.entries.items b.spelled said (entry_of said) front refl bytes is holds))
    c.extend.ensures.ok
