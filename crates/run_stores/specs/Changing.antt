-- A Change in what a server keeps by the rules, and in its store.
use Rattle.std.specs.Prelude.{Some, false, ℕ, ◌≡◌}
use Rattle.base_types.specs.declared.ids.FilesetId.{FilesetId}
use Rattle.base_types.specs.declared.ids.HostId.{HostId}
use Rattle.tree_calls.specs.declared.call.Call.{Call}
use Rattle.tree_answers.specs.Answers.{answer_to}
use Rattle.tree_answers.specs.declared.tree.Tree.{Tree}
use Rattle.need_laws.specs.Known.{IsAt}
use Rattle.store_acts.specs.Sound.{HasName, IsAct}
use Rattle.store_acts.specs.declared.act.Act.TheVariants.{Do}
use Rattle.store_state.specs.Rows.{answer_to as store_answer, numbered_id, numbered_name}
use Rattle.store_state.specs.declared.state.StoreState.{StoreState}
use Rattle.store_laws.specs.Calls.{DoesKeep, IsNewChange}
use Rattle.run_rules.specs.Kept.{is_refusal}
use Rattle.run_stores.specs.Keeping.{StandsFor}

-- A Change that is done: it names the server's filesets alone, and its number is new to the fileset under which the
-- store numbers it.
abbrev pub ChangesAreKept : Type 0
ChangesAreKept =
    (tree : Tree) (state : StoreState) (host : HostId) (number : ℕ) (call : Call) (id : FilesetId)
    → StandsFor tree state → IsAt state.server call → IsAct state.roster state.server (Do host number call)
    → HasName call → numbered_id state (numbered_name call) ≡ Some id → IsNewChange state id host number
    → is_refusal (answer_to tree host call).reply ≡ false
    → DoesKeep (answer_to tree host call).tree state (Do host number call)

-- What the store would reply to any call but a move, which names the server's filesets alone, is what the rules reply;
-- also where it is refused.
abbrev pub RepliesAreKept : Type 0
RepliesAreKept =
    (tree : Tree) (state : StoreState) (host : HostId) (call : Call)
    → StandsFor tree state → IsAt state.server call
    → (store_answer state host call).reply ≡ (answer_to tree host call).reply
