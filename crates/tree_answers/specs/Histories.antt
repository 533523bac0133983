-- Histories of a tree.
use Rattle.std.specs.Prelude.{◌≡◌, IsTrue, List, [], ◌∷◌, ◌++◌}
use Rattle.tree_calls.specs.declared.entry.Entry.{Entry}
use Rattle.tree_calls.specs.declared.entry.Entry.TheVariants.{Call, Stored, Down, Left}
use Rattle.tree_calls.specs.declared.entry.Loss.{Loss}
use Rattle.tree_answers.specs.declared.tree.Tree.{Tree}
use Rattle.tree_answers.specs.Answers.{answer_to}
use Rattle.tree_answers.specs.Stores.{may_store, stored_tree}
use Rattle.tree_answers.specs.Losses.{down_tree, losses_of}
use Rattle.tree_answers.specs.Away.{is_room_kept}
use Rattle.tree_answers.specs.Moving.{left_tree}

-- an entry that may come next: the reply to a call is the tree's answer, a host stores what it may, and a server that
-- keeps room for a fileset learns that it has arrived elsewhere
abbrev pub IsLegal : Tree → Entry → Type 0
IsLegal tree (Call host k call reply) = reply ≡ (answer_to tree host call).reply
IsLegal tree (Stored host fid spans stored) = IsTrue (may_store tree host fid spans stored)
IsLegal tree (Down host server) = Unit {0}
IsLegal tree (Left server id) = IsTrue (is_room_kept tree.away server id)

-- the tree after an entry
abbrev pub after_entry : Tree → Entry → Tree
after_entry tree (Call host k call reply) = (answer_to tree host call).tree
after_entry tree (Stored host fid spans stored) = stored_tree tree host fid spans stored
after_entry tree (Down host server) = down_tree tree host server
after_entry tree (Left server id) = left_tree tree server id

-- a history that may happen from a tree on
abbrev pub IsHistory : Tree → List Entry → Type 0
IsHistory tree [] = Unit {0}
IsHistory tree (entry ∷ entries) = IsLegal tree entry × IsHistory (after_entry tree entry) entries

-- the tree after a history
abbrev pub after_history : Tree → List Entry → Tree
after_history tree [] = tree
after_history tree (entry ∷ entries) = after_history (after_entry tree entry) entries

-- what is lost at an entry
abbrev pub lost_at : Tree → Entry → List Loss
lost_at tree (Call host k call reply) = []
lost_at tree (Stored host fid spans stored) = []
lost_at tree (Down host server) = losses_of tree host server
lost_at tree (Left server id) = []

-- the losses of a history as they come
abbrev pub lost_in : Tree → List Entry → List Loss
lost_in tree [] = []
lost_in tree (entry ∷ entries) = lost_at tree entry ++ lost_in (after_entry tree entry) entries
