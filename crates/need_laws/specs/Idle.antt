-- What is in use, and the answers that hang on it.
use Rattle.std.specs.Prelude.{◌≡◌, ◌==◌, Bool, true, false, List, [], ℕ}
use Rattle.std.specs.List.{list_all}
use Rattle.base_types.specs.declared.ids.HostId.{HostId}
use Rattle.base_types.specs.declared.ids.ServerId.{ServerId}
use Rattle.tree_calls.specs.declared.call.Call.{Call}
use Rattle.tree_calls.specs.declared.call.Call.TheVariants.{Remove, Lock, Unlock, OpenFile, CloseFile, MoveFileset}
use Rattle.tree_calls.specs.declared.reply.Refusal.{Refusal}
use Rattle.tree_calls.specs.declared.reply.Refusal.TheVariants.{NoRoom, TooMany}
use Rattle.tree_calls.specs.declared.reply.Reply.TheVariants.{Refused}
use Rattle.tree_answers.specs.Answers.{answer_to}
use Rattle.tree_answers.specs.Finding.{Answer}
use Rattle.tree_answers.specs.declared.tree.Tree.{Tree}
use Rattle.need_laws.specs.Known.{SameAt}

-- a tree with nothing in use, as servers keep theirs
abbrev pub idle : Tree → Tree
idle tree = record tree { locks = []; opens = [] }

abbrev pub idle_answer : Answer → Answer
idle_answer answer = record { reply = answer.reply; tree = idle answer.tree }

-- whether a call looks at what is in use
abbrev pub minds_uses : Call → Bool
minds_uses (Remove place) = true
minds_uses (Lock label place writing from len) = true
minds_uses (Unlock label) = true
minds_uses (OpenFile label place kind) = true
minds_uses (CloseFile label) = true
minds_uses (MoveFileset server name to) = true
minds_uses _ = false

-- any other is answered in the idle tree as in the tree
abbrev pub OthersMindNoUses : Type 0
OthersMindNoUses =
    (tree : Tree) (host : HostId) (call : Call) → minds_uses call ≡ false →
    answer_to (idle tree) host call ≡ idle_answer (answer_to tree host call)

-- a tree in which a server has all filesets, nothing is in use and nothing moved: what a server keeps
pub record IsOfServer (server : ServerId) (tree : Tree) : Type 0 where
  pub filesets : list_all (λ fileset. fileset.server.0 == server.0) tree.filesets ≡ true
  pub away : tree.away ≡ []
  pub locks : tree.locks ≡ []
  pub opens : tree.opens ≡ []

-- a move that a server refuses on what it keeps is refused alike wherever the same is kept of the server, but for want
-- of room
abbrev pub MovesAreRefusedAlike : Type 0
MovesAreRefusedAlike =
    (a b : Tree) (server : ServerId) (host : HostId) (name : List ℕ) (to : ServerId) (refusal : Refusal) →
    SameAt server a b → IsOfServer server a → (refusal ≡ TooMany → ⊥) → (refusal ≡ NoRoom → ⊥) →
    (answer_to a host (MoveFileset server name to)).reply ≡ Refused refusal →
    (answer_to b host (MoveFileset server name to)).reply ≡ Refused refusal
