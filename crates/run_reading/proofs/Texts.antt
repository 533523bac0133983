-- The text of a journal tells the journal.
use Rattle.std.proofs.Common.{◌≡◌, ◌∙◌, List, [], ◌∷◌, refl, sym, ap, ap₂, arith}
use Rattle.std.specs.List.{flat_map}
use Rattle.message_types.specs.Soundness.{Each}
use Rattle.message_json.specs.Values.{list, whole}
use Rattle.run_rules.specs.declared.journal.Journal.{Journal}
use Rattle.run_rules.specs.declared.step.Step.{Step}
use Rattle.run_journal.specs.Steps.{step_json}
use Rattle.run_journal.specs.Text.{head_json, journal_text, step_text}
use Rattle.run_journal.specs.Trees.{tree_json}
use Rattle.run_reading.specs.Journals.{TypedJournal, TypedStep, TypedTree}
use Rattle.run_reading.specs.Laws.{OneTextOneJournal}
use Rattle.run_reading.specs.Messages.{IsWhole}
use Rattle.run_reading.proofs.Forms.{Good, IsRead, list_is, list_of, part, whole_is, whole_of}
use Rattle.run_reading.proofs.Lines.{line_same, line_some}
use Rattle.run_reading.proofs.Steps.{step_is, step_of}
use Rattle.run_reading.proofs.Trees.{tree_is, tree_of}

step_same : (a b : Step) → TypedStep a → TypedStep b → step_json a ≡ step_json b → a ≡ b
step_same a b p q e = sym (step_is a p).0 ∙ ap step_of e ∙ (step_is b q).0

steps_same : (xs ys : List Step) → Each TypedStep xs → Each TypedStep ys → flat_map step_text xs ≡ flat_map step_text ys → xs ≡ ys
steps_same [] [] p q e = refl
steps_same [] (y ∷ ys) p q e = absurd (line_some (step_json y) (flat_map step_text ys) (sym e))
steps_same (x ∷ xs) [] p q e = absurd (line_some (step_json x) (flat_map step_text xs) e)
steps_same (x ∷ xs) (y ∷ ys) p q e =
    let t = line_same (step_json x) (step_json y) (flat_map step_text xs) (flat_map step_text ys) (step_is x p.0).1 (step_is y q.0).1 e in
    ap₂ (λ a rest. a ∷ rest) (step_same x y p.0 q.0 t.0) (steps_same xs ys p.1 q.1 t.1)

trees_is : (x : Journal) → TypedJournal x → IsRead (list_of tree_of) (list tree_json) x.start
trees_is x t = list_is TypedTree tree_of tree_json tree_is x.start t.0

epochs_is : (x : Journal) → TypedJournal x → IsRead (list_of whole_of) (list whole) x.epochs
epochs_is x t = list_is IsWhole whole_of whole whole_is x.epochs t.1

head_good : (x : Journal) → TypedJournal x → Good (head_json x)
unfolding head_json
head_good x t = ((whole_is 1 (omega arith)).1, ((trees_is x t).1, ((epochs_is x t).1, tt)))

starts_same : (a b : Journal) → TypedJournal a → TypedJournal b → head_json a ≡ head_json b → a.start ≡ b.start
unfolding head_json
starts_same a b p q e = sym (trees_is a p).0 ∙ ap (λ j. list_of tree_of (part 1 j)) e ∙ (trees_is b q).0

epochs_same : (a b : Journal) → TypedJournal a → TypedJournal b → head_json a ≡ head_json b → a.epochs ≡ b.epochs
unfolding head_json
epochs_same a b p q e = sym (epochs_is a p).0 ∙ ap (λ j. list_of whole_of (part 2 j)) e ∙ (epochs_is b q).0

pub one_journal : OneTextOneJournal
unfolding journal_text
one_journal a b p q e =
    let t = line_same (head_json a) (head_json b) (flat_map step_text a.steps) (flat_map step_text b.steps) (head_good a p) (head_good b q) e in
    let x = starts_same a b p q t.0 in
    let y = epochs_same a b p q t.0 in
    let z = steps_same a.steps b.steps p.2 q.2 t.1 in
    λ i. record { start = x i; epochs = y i; steps = z i }
