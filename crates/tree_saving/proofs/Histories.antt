-- Entries that are no calls.
use Rattle.std.proofs.Common.{◌≡◌, Bool, true, false, List, [], ◌∷◌, ◌++◌, refl, ◌∙◌, rules}
use Rattle.std.specs.List.{list_all}
use Rattle.base_types.specs.declared.ids.HostId.{HostId}
use Rattle.tree_calls.specs.declared.entry.Entry.{Entry}
use Rattle.tree_calls.specs.declared.entry.Entry.TheVariants.{Call, Stored, Down, Left}
use Rattle.tree_objects.proofs.Observed.{and_left, and_right}
use Rattle.tree_answers.specs.declared.tree.Tree.{Tree}
use Rattle.tree_answers.specs.Histories.{after_entry, IsHistory, after_history}
use Rattle.tree_answers.specs.WellFormed.{IsWellFormed, is_limited}
use Rattle.tree_answers.proofs.Kept.{formed_entry}
use Rattle.tree_saving.specs.Unsaved.{all_contents, is_by_one, writes_alone, is_write_by}
use Rattle.tree_saving.specs.Saving.{LeadsTo}
use Rattle.tree_saving.proofs.Apart.{stays_apart, stays_saved, roster_stays}

-- whether an entry is no call
abbrev pub is_no_call : Entry → Bool
is_no_call (Call host k call reply) = false
is_no_call (Stored host fid spans stored) = true
is_no_call (Down host server) = true
is_no_call (Left server id) = true

no_call_limited : (entry : Entry) → is_no_call entry ≡ true → is_limited entry ≡ true
no_call_limited (Call host k call reply) h = absurd (search (rules, h))
no_call_limited (Stored host fid spans stored) h = refl
no_call_limited (Down host server) h = refl
no_call_limited (Left server id) h = refl

no_call_alone : (tree : Tree) (entry : Entry) → is_no_call entry ≡ true → writes_alone tree entry ≡ true
no_call_alone tree (Call host k call reply) h = absurd (search (rules, h))
no_call_alone tree (Stored host fid spans stored) h = refl
no_call_alone tree (Down host server) h = refl
no_call_alone tree (Left server id) h = refl

no_call_no_write : (host : HostId) (entry : Entry) → is_no_call entry ≡ true → is_write_by host entry ≡ false
no_call_no_write host (Call writer k call reply) h = absurd (search (rules, h))
no_call_no_write host (Stored writer fid spans stored) h = refl
no_call_no_write host (Down writer server) h = refl
no_call_no_write host (Left server id) h = refl

-- two histories, one after the other
pub history_append : (tree : Tree) (first second : List Entry) → IsHistory tree first → IsHistory (after_history tree first) second → IsHistory tree (first ++ second)
history_append tree [] second h k = k
history_append tree (entry ∷ first) second h k = (h.0, history_append (after_entry tree entry) first second h.1 k)

pub after_append : (tree : Tree) (first second : List Entry) → after_history tree (first ++ second) ≡ after_history (after_history tree first) second
after_append tree [] second = refl
after_append tree (entry ∷ first) second = after_append (after_entry tree entry) first second

-- what such entries lead to
pub leads_to : (tree : Tree) (entries : List Entry) → list_all is_no_call entries ≡ true → IsWellFormed tree → all_contents is_by_one tree ≡ true → IsHistory tree entries → LeadsTo tree entries (after_history tree entries)
leads_to tree [] q w one h = record { legal = tt; tree = refl; formed = w; roster = refl; apart = one; saved = λ host k. k }
leads_to tree (entry ∷ entries) q w one h =
    let quiet = and_left _ _ q in
    let rest = leads_to (after_entry tree entry) entries (and_right _ _ q) (formed_entry tree entry w h.0 (no_call_limited entry quiet)) (stays_apart tree entry h.0 one (no_call_alone tree entry quiet)) h.1 in
    record {
      legal = h;
      tree = refl;
      formed = rest.formed;
      roster = rest.roster ∙ roster_stays tree entry;
      apart = rest.apart;
      saved = λ host k. rest.saved host (stays_saved tree entry host k (no_call_no_write host entry quiet));
    }
