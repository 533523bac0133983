-- What becomes of a tree along two histories, one after the other.
use Rattle.std.proofs.Common.{◌≡◌, ◌<◌, ◌+◌, ℕ, List, [], ◌∷◌, ◌++◌, length, drop, get_or, flat_map, map, refl, ap, append_assoc, sym, ◌∙◌}
use Rattle.std.proofs.lemmas.List.{append-nil, drop_more}
use Rattle.base_types.specs.declared.ids.HostId.{HostId}
use Rattle.base_types.specs.declared.ids.Node.{Node}
use Rattle.base_types.specs.declared.ids.Node.TheVariants.{Host, Server}
use Rattle.base_types.specs.declared.ids.ServerId.{ServerId}
use Rattle.tree_calls.specs.declared.entry.Entry.{Entry}
use Rattle.tree_calls.specs.declared.entry.Loss.{Loss}
use Rattle.tree_answers.specs.declared.tree.Tree.{Tree}
use Rattle.tree_answers.specs.Histories.{after_entry, after_history, lost_at, lost_in}
use Rattle.run_rules.specs.declared.applied.Answer.{Answer}
use Rattle.run_rules.specs.declared.applied.Applied.{Applied}
use Rattle.run_rules.specs.declared.step.Step.{Step}
use Rattle.run_rules.specs.Runs.{applied_entries, call_entry, entries_in, entries_of}

pub after_append : (tree : Tree) (first second : List Entry) → after_history tree (first ++ second) ≡ after_history (after_history tree first) second
after_append tree [] second = refl
after_append tree (entry ∷ first) second = after_append (after_entry tree entry) first second

pub lost_append : (tree : Tree) (first second : List Entry) → lost_in tree (first ++ second) ≡ lost_in tree first ++ lost_in (after_history tree first) second
lost_append tree [] second = refl
lost_append tree (entry ∷ first) second =
    ap (λ lost. lost_at tree entry ++ lost) (lost_append (after_entry tree entry) first second)
    ∙ sym (append_assoc (lost_at tree entry) (lost_in (after_entry tree entry) first) (lost_in (after_history (after_entry tree entry) first) second))

-- what a host answers loses nothing
none_told : (tree : Tree) (answers : List Answer) → lost_in tree (map call_entry answers) ≡ []
none_told tree [] = refl
none_told tree (answer ∷ answers) = none_told (after_entry tree (call_entry answer)) answers

pub none_by_host : (tree : Tree) (answers : List Answer) (applied : List Applied) (node : Node) (host : HostId) → node ≡ Host host → (losses : List Loss)
    → losses ≡ losses ++ lost_in tree (map call_entry answers ++ applied_entries node applied)
none_by_host tree answers applied node host e losses =
    sym (append-nil losses)
    ∙ ap (λ lost. losses ++ lost)
    (sym (ap (λ at. lost_in tree (map call_entry answers ++ applied_entries at applied)) e
    ∙ lost_append tree (map call_entry answers) []
    ∙ ap (λ lost. lost ++ []) (none_told tree answers)))

-- a server's step loses what it applies
pub lost_by_server : (tree between : Tree) (answers : List Answer) (applied : List Applied) (node : Node) (server : ServerId)
    → node ≡ Server server → between ≡ after_history tree (map call_entry answers) → (losses : List Loss)
    → losses ++ lost_in between (flat_map (entries_in server) applied) ≡ losses ++ lost_in tree (map call_entry answers ++ applied_entries node applied)
lost_by_server tree between answers applied node server e t losses =
    ap (λ (lost : List Loss). losses ++ lost)
    (ap (λ (at : Tree). lost_in at (flat_map (entries_in server) applied)) t
    ∙ ap (λ (lost : List Loss). lost ++ lost_in (after_history tree (map call_entry answers)) (flat_map (entries_in server) applied)) (sym (none_told tree answers))
    ∙ sym (lost_append tree (map call_entry answers) (flat_map (entries_in server) applied))
    ∙ ap (λ (at : Node). lost_in tree (map call_entry answers ++ applied_entries at applied)) (sym e))

-- one step more
next_step : (steps : List Step) (i : ℕ) (s : Step) → i < length steps → s ≡ get_or steps i s → drop i steps ≡ s ∷ drop (i + 1) steps
next_step steps i s lt e = drop_more steps i s lt ∙ ap (λ (x : Step). x ∷ drop (i + 1) steps) (sym e)

pub lost_next : (tree next : Tree) (steps : List Step) (i : ℕ) (s : Step) (whole lost more : List Loss) → i < length steps → s ≡ get_or steps i s
    → more ≡ lost ++ lost_in tree (entries_of s) → next ≡ after_history tree (entries_of s)
    → lost ++ lost_in tree (flat_map entries_of (drop i steps)) ≡ whole
    → more ++ lost_in next (flat_map entries_of (drop (i + 1) steps)) ≡ whole
lost_next tree next steps i s whole lost more lt e m n h =
    ap (λ (front : List Loss). front ++ lost_in next (flat_map entries_of (drop (i + 1) steps))) m
    ∙ ap (λ (t : Tree). (lost ++ lost_in tree (entries_of s)) ++ lost_in t (flat_map entries_of (drop (i + 1) steps))) n
    ∙ append_assoc lost (lost_in tree (entries_of s)) (lost_in (after_history tree (entries_of s)) (flat_map entries_of (drop (i + 1) steps)))
    ∙ ap (λ (behind : List Loss). lost ++ behind) (sym (lost_append tree (entries_of s) (flat_map entries_of (drop (i + 1) steps))))
    ∙ sym (ap (λ (ss : List Step). lost ++ lost_in tree (flat_map entries_of ss)) (next_step steps i s lt e))
    ∙ h

pub tree_next : (tree next : Tree) (steps : List Step) (i : ℕ) (s : Step) (whole : Tree) → i < length steps → s ≡ get_or steps i s
    → next ≡ after_history tree (entries_of s) → after_history tree (flat_map entries_of (drop i steps)) ≡ whole
    → after_history next (flat_map entries_of (drop (i + 1) steps)) ≡ whole
tree_next tree next steps i s whole lt e n h =
    ap (λ (t : Tree). after_history t (flat_map entries_of (drop (i + 1) steps))) n
    ∙ sym (after_append tree (entries_of s) (flat_map entries_of (drop (i + 1) steps)))
    ∙ sym (ap (λ (ss : List Step). after_history tree (flat_map entries_of ss)) (next_step steps i s lt e))
    ∙ h

pub ruleset along = (after_append, lost_append)
