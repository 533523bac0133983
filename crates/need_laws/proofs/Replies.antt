-- The reply to a call that checks let through.
use Rattle.std.proofs.Common.{◌≡◌, Result, Ok, Err, refl}
use Rattle.base_types.specs.Outcomes.{either}
use Rattle.tree_calls.specs.declared.reply.Refusal.{Refusal}
use Rattle.tree_calls.specs.declared.reply.Reply.{Reply}
use Rattle.tree_calls.specs.declared.reply.Reply.TheVariants.{Ok as Done, Refused}
use Rattle.tree_answers.specs.Finding.{Answer, refuse}
use Rattle.tree_answers.specs.declared.tree.Tree.{Tree}

-- a reply to what checks let through
abbrev pub reply_for : {A : Type 0} → Result A Refusal → Reply
reply_for (Ok found) = Done
reply_for (Err refusal) = Refused refusal

pub replied : {A : Type 0} (tree : Tree) (c : Result A Refusal) (after : A → Tree) → (either c (λ found. let answer : Answer = record { reply = Done; tree = after found } in answer) (refuse tree)).reply ≡ reply_for c
replied tree (Ok found) after = refl
replied tree (Err refusal) after = refl
