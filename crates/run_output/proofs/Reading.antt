-- A read leaves the tree as it is.
use Rattle.std.proofs.Common.{◌≡◌, ℕ, Option, Some, None, Result, Ok, Err, set, refl, sym, ap, ◌∙◌}
use Rattle.std.specs.Prelude.{slice_get}
use Rattle.base_types.specs.Outcomes.{either}
use Rattle.base_types.specs.declared.ids.HostId.{HostId}
use Rattle.base_types.specs.declared.user.User.{User}
use Rattle.tree_calls.specs.declared.place.Place.{Place}
use Rattle.tree_calls.specs.declared.call.Call.{Call}
use Rattle.tree_calls.specs.declared.call.Call.TheVariants.{Read}
use Rattle.tree_calls.specs.declared.reply.Refusal.{Refusal}
use Rattle.tree_calls.specs.Rosters.{user_of}
use Rattle.tree_filesets.specs.declared.fileset.Fileset.{Fileset}
use Rattle.tree_filesets.specs.Answers.{Answered}
use Rattle.tree_filesets.specs.Rows.{fileset_answer}
use Rattle.tree_answers.specs.declared.tree.Tree.{Tree}
use Rattle.tree_answers.specs.Finding.{refuse}
use Rattle.tree_answers.specs.Uses.{is_used}
use Rattle.tree_answers.specs.Answers.{for_user, answer_at, deciding_place, fileset_row, answer_for, answer_to}
use Rattle.tree_answers.proofs.Refusals.{set_same}

-- a fileset answers without a change
same_at : (tree : Tree) (place : ℕ) (found : Option Fileset) (ask : Fileset → Answered) → ((fileset : Fileset) → (ask fileset).fileset ≡ fileset) → found ≡ slice_get tree.filesets place
    → (answer_at tree place found ask).tree ≡ tree
same_at tree place None ask same e = refl
same_at tree place (Some fileset) ask same e =
    ap (λ filesets. record tree { filesets = filesets }) (ap (λ next. set tree.filesets place next) (same fileset) ∙ set_same tree.filesets place fileset e)

same_by : (tree : Tree) (deciding : Result ℕ Refusal) (ask : Fileset → Answered) → ((fileset : Fileset) → (ask fileset).fileset ≡ fileset)
    → (either deciding (λ place. answer_at tree place (slice_get tree.filesets place) ask) (refuse tree)).tree ≡ tree
same_by tree (Ok place) ask same = same_at tree place (slice_get tree.filesets place) ask same refl
same_by tree (Err refusal) ask same = refl

read_same : (tree : Tree) (host : HostId) (place : Place) (from len : ℕ) → (answer_to tree host (Read place from len)).tree ≡ tree
unfolding answer_to answer_for fileset_row fileset_answer
read_same tree host place from len = by_user (user_of tree.roster host)
  where
    by_user : (user : Option User) → (for_user tree user (answer_for tree host (Read place from len))).tree ≡ tree
    by_user None = refl
    by_user (Some user) =
        same_by tree (deciding_place tree (Read place from len)) (λ fileset. fileset_answer fileset (is_used tree.locks tree.opens) host user (Read place from len)) (λ fileset. refl)

pub read_stays : (tree : Tree) (host : HostId) (call : Call) (place : Place) (from len : ℕ) → call ≡ Read place from len → tree ≡ (answer_to tree host call).tree
read_stays tree host call place from len e = sym (ap (λ asked. (answer_to tree host asked).tree) e ∙ read_same tree host place from len)
