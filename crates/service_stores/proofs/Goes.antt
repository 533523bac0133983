-- What the stores keep of a history, move by move.
use Rattle.std.proofs.Common.{◌≡◌, ◌≤◌, ◌+◌, ℕ, zero, suc, List, [], ◌∷◌, length, take, drop, slice_get, Some, sym, ap, ◌∙◌, subst, arith}
use Rattle.std.specs.List.{position}
use Rattle.std.proofs.lemmas.List.{drop-drop, length-drop}
use Rattle.std.proofs.lemmas.Option.{same_Some}
use Rattle.base_types.specs.declared.ids.HostId.{HostId}
use Rattle.base_types.specs.declared.ids.ServerId.{ServerId}
use Rattle.tree_calls.specs.declared.entry.Entry.{Entry}
use Rattle.tree_filesets.specs.declared.fileset.Fileset.{Fileset}
use Rattle.tree_answers.specs.declared.tree.Tree.{Tree}
use Rattle.tree_answers.specs.Histories.{IsHistory, after_entry, after_history}
use Rattle.tree_answers.specs.WellFormed.{IsWellFormed}
use Rattle.store_laws.specs.HistoryLaws.{Happens}
use Rattle.store_laws.specs.Happening.{MayHappen}
use Rattle.store_laws.specs.MoveKeeping.{KeepAll}
use Rattle.store_laws.specs.MovedLaws.{move_entry, moves_one, numbers_after}
use Rattle.store_state.specs.declared.state.StoreState.{StoreState}
use Rattle.store_laws.specs.KeptMoves.{Moves, after_move}
use Rattle.service_stores.proofs.Histories.{after_both, has_two, may_go_on, moves_at, numbers_at, numbers_both}

-- a first part of a history may happen
pub legal_take : (n : ℕ) (history : List Entry) (tree : Tree) → IsHistory tree history → IsHistory tree (take n history)
legal_take zero history tree h = tt
legal_take (suc n) [] tree h = tt
legal_take (suc n) (entry ∷ history) tree h = (h.0, legal_take n history (after_entry tree entry) h.1)

-- what a piece makes of what stores keep, and what a move does
abbrev pub QuietKeeps : (HostId → ℕ) → Tree → List Entry → List StoreState → List StoreState → Type 0
QuietKeeps next tree history before after =
    Happens next tree history → KeepAll next tree before
    → KeepAll (numbers_after next history) (after_history tree history) after

abbrev pub MoveKeeps : (HostId → ℕ) → Tree → Entry → List StoreState → List StoreState → Type 0
MoveKeeps next tree entry before after =
    (host : HostId) (k : ℕ) (server : ServerId) (name : List ℕ) (to : ServerId) (fileset : Fileset)
    → entry ≡ move_entry host k server name to → IsWellFormed tree → KeepAll next tree before
    → Moves tree host server name to fileset → k ≡ next host
    → KeepAll (numbers_after next (entry ∷ [])) (after_move tree host server name to fileset) after

-- both
pub kept_to : (next : HostId → ℕ) (tree middle last : Tree) (history : List Entry) (place : ℕ) (entry : Entry)
    (first second third : List StoreState) → MayHappen next tree history → position moves_one history ≡ Some place →
    slice_get history place ≡ Some entry → middle ≡ after_history tree (take place history) →
    last ≡ after_history middle (take 2 (drop place history)) →
    QuietKeeps next tree (take place history) first second →
    MoveKeeps (numbers_after next (take place history)) middle entry second third →
    KeepAll next tree first → KeepAll (numbers_after next (take (place + 2) history)) last third
kept_to next tree middle last history place entry first second third may at there e f quiet moved keep =
    let m = moves_at next tree history place may at in
    let two = has_two next tree history place m in
    let move = move_entry m.host m.k m.server m.name m.to in
    let is : entry ≡ move = same_Some entry move (sym there ∙ two.first) in
    let then_numbers = numbers_after next (take place history) in
    let formed = subst IsWellFormed (sym e) m.splits.formed in
    let kept = subst (λ t. KeepAll then_numbers t second) (sym e) (quiet m.splits.happens keep) in
    let moves = subst (λ t. Moves t m.host m.server m.name m.to m.splits.fileset) (sym e) m.splits.moves in
    let out = moved m.host m.k m.server m.name m.to m.splits.fileset is formed kept moves m.splits.number in
    let trees : last ≡ after_move middle m.host m.server m.name m.to m.splits.fileset =
    f ∙ ap (after_history middle) two.both in
    let numbers : numbers_after next (take (place + 2) history) ≡ numbers_after then_numbers (entry ∷ []) =
    numbers_at next tree history place m ∙ ap (λ x. numbers_after then_numbers (x ∷ [])) (sym is) in
    subst (λ n. KeepAll n last third) (sym numbers)
    (subst (λ t. KeepAll (numbers_after then_numbers (entry ∷ [])) t third) (sym trees) out)

pub tree_to : (tree middle last : Tree) (history : List Entry) (place : ℕ) →
    middle ≡ after_history tree (take place history) → last ≡ after_history middle (take 2 (drop place history)) →
    last ≡ after_history tree (take (place + 2) history)
tree_to tree middle last history place e f =
    f ∙ ap (λ t. after_history t (take 2 (drop place history))) e ∙ sym (after_both tree place 2 history)

pub two_there : (next : HostId → ℕ) (tree : Tree) (history : List Entry) (place : ℕ) → MayHappen next tree history →
    position moves_one history ≡ Some place → place + 2 ≤ length history
two_there next tree history place may at = (has_two next tree history place (moves_at next tree history place may at)).within

-- one move more
pub goes_tree : (start tree now : Tree) (history : List Entry) (from more : ℕ) →
    tree ≡ after_history start (take from history) → now ≡ after_history tree (take more (drop from history)) →
    now ≡ after_history start (take (from + more) history)
goes_tree start tree now history from more e f =
    f ∙ ap (λ t. after_history t (take more (drop from history))) e ∙ sym (after_both start from more history)

pub goes_within : (next : HostId → ℕ) (tree : Tree) (history : List Entry) (from place : ℕ) → from ≤ length history →
    MayHappen next tree (drop from history) → position moves_one (drop from history) ≡ Some place →
    from + (place + 2) ≤ length history
goes_within next tree history from place low may at =
    let n = length-drop from history in
    let two = two_there next tree (drop from history) place may at in
    omega (arith, n, two, low)

pub goes_may : (next : HostId → ℕ) (tree now : Tree) (history : List Entry) (from place : ℕ) →
    MayHappen (numbers_after next (take from history)) tree (drop from history) →
    position moves_one (drop from history) ≡ Some place →
    now ≡ after_history tree (take (place + 2) (drop from history)) →
    MayHappen (numbers_after next (take (from + (place + 2)) history)) now (drop (from + (place + 2)) history)
goes_may next tree now history from place may at e =
    subst (λ n. MayHappen n now (drop (from + (place + 2)) history)) (sym (numbers_both next from (place + 2) history))
    (subst (λ t. MayHappen (numbers_after (numbers_after next (take from history)) (take (place + 2) (drop from history))) t (drop (from + (place + 2)) history))
    (sym e)
    (subst (MayHappen (numbers_after (numbers_after next (take from history)) (take (place + 2) (drop from history)))
    (after_history tree (take (place + 2) (drop from history)))) (drop-drop (place + 2) from history)
    (may_go_on (numbers_after next (take from history)) tree (drop from history) place may at)))
