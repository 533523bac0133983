-- What is reached where a host is down at each server.
use Rattle.std.proofs.Common.{◌≡◌, ◌≢◌, ℕ, zero, suc, ◌+◌, ◌-◌, ◌<◌, ◌≤◌, ◌==◌, nat_le, nat_lt, Bool, true, false, ◌&&◌, ◌||◌, cond, List, [], ◌∷◌, ◌++◌, length, Option, Some, None, refl, sym, ap, ◌∙◌, subst, arith, inl, inr}
use Rattle.std.specs.Prelude.{if◌then◌else◌}
use Rattle.std.specs.List.{list_all}
use Rattle.std.specs.Option.{option_map_or}
use Rattle.std.proofs.lemmas.Grind.{common_steps}
use Rattle.std.proofs.lemmas.Bool.Decides.{eqb_tells}
use Rattle.std.proofs.lemmas.List.{append_assoc}
use Rattle.base_types.specs.declared.ids.HostId.{HostId}
use Rattle.tree_calls.specs.declared.entry.Entry.{Entry}
use Rattle.tree_calls.specs.declared.entry.Entry.TheVariants.{Down}
use Rattle.tree_objects.specs.declared.content.Object.{Object}
use Rattle.tree_objects.specs.declared.content.Anode.{Anode}
use Rattle.tree_objects.specs.Changes.{content_forgotten}
use Rattle.tree_objects.proofs.Observed.{and_left, and_right}
use Rattle.tree_objects.proofs.Rising.{and_both, all_implied}
use Rattle.tree_filesets.specs.declared.fileset.Fileset.{Fileset}
use Rattle.tree_answers.specs.declared.tree.Tree.{Tree}
use Rattle.tree_answers.specs.Histories.{IsHistory, after_history}
use Rattle.tree_answers.specs.Losses.{fileset_forgotten, down_tree}
use Rattle.tree_answers.specs.WellFormed.{is_declared, IsWellFormed}
use Rattle.tree_saving.specs.Unsaved.{anode_content, fileset_contents, all_contents, has_saved, is_by_one}
use Rattle.tree_saving.specs.Saving.{downs_from, DownsAll}
use Rattle.tree_saving.proofs.Contents.{down_saved}
use Rattle.tree_saving.proofs.Histories.{is_no_call, leads_to}
use Rattle.tree_saving.proofs.Kept.{fileset_mapped}
use Rattle.tree_saving.proofs.Lists.{all_mapped, or_left, or_right}

-- one server more
downs_next : (host : HostId) (server n : ℕ) → server < n → downs_from host (server + 1) (n - server) ≡ Down host (record { 0 = server + 1 }) ∷ downs_from host (server + 1 + 1) (n - (server + 1))
downs_next host server n h = let e : n - server ≡ suc (n - (server + 1)) = omega (arith, h) in rw e refl

pub downs_pushed : (host : HostId) (server n : ℕ) (before pushed : List Entry) → server < n → pushed ≡ before ++ Down host (record { 0 = server + 1 }) ∷ [] → before ++ downs_from host (server + 1) (n - server) ≡ downs_from host 1 n →
    pushed ++ downs_from host (server + 1 + 1) (n - (server + 1)) ≡ downs_from host 1 n
downs_pushed host server n before pushed h e k =
    let rest : List Entry = downs_from host (server + 1 + 1) (n - (server + 1)) in
    ap (λ entries. entries ++ rest) e ∙ append_assoc before (Down host (record { 0 = server + 1 }) ∷ []) rest ∙ ap (λ entries. before ++ entries) (sym (downs_next host server n h)) ∙ k

-- it may be told at any time
downs_legal : (host : HostId) (server n : ℕ) (tree : Tree) → IsHistory tree (downs_from host server n)
downs_legal host server zero tree = tt
downs_legal host server (suc n) tree = (tt, downs_legal host (server + 1) n (down_tree tree host (record { 0 = server })))

downs_no_calls : (host : HostId) (server n : ℕ) → list_all is_no_call (downs_from host server n) ≡ true
downs_no_calls host server zero = refl
downs_no_calls host server (suc n) = downs_no_calls host (server + 1) n

-- whether a fileset is at one of so many servers from one on
abbrev pub is_among : ℕ → ℕ → Fileset → Bool
is_among server n fileset = nat_le server fileset.server.0 && nat_lt fileset.server.0 (server + n)

-- whether a host has saved all in a fileset, or is to be told to be down at its server
abbrev pub is_left : HostId → ℕ → ℕ → Fileset → Bool
is_left host server n fileset = fileset_contents (has_saved host) fileset || is_among server n fileset

left_none : (host : HostId) (server : ℕ) (fileset : Fileset) → is_left host server zero fileset ≡ true → fileset_contents (has_saved host) fileset ≡ true
left_none host server fileset =
    elim (fileset_contents (has_saved host) fileset) as (λ t. (t || is_among server zero fileset) ≡ true → t ≡ true) [
      | true ↦ λ h. refl
      | false ↦ λ h.
          let low : nat_le server fileset.server.0 ≡ true = and_left (nat_le server fileset.server.0) (nat_lt fileset.server.0 (server + 0)) h in
          let high : nat_lt fileset.server.0 (server + 0) ≡ true = and_right (nat_le server fileset.server.0) (nat_lt fileset.server.0 (server + 0)) h in
          let a : server ≤ fileset.server.0 = grind (arith, common_steps, low) in
          let b : fileset.server.0 < server + 0 = grind (arith, common_steps, high) in
          absurd (omega (arith, a, b))
    ]

-- one server fewer
left_fewer : (server n : ℕ) (saved : Bool) (fileset : Fileset) → fileset.server.0 ≢ server → (saved || is_among server (suc n) fileset) ≡ true → (saved || is_among (server + 1) n fileset) ≡ true
left_fewer server n true fileset e h = refl
left_fewer server n false fileset e h =
    let low : nat_le server fileset.server.0 ≡ true = and_left (nat_le server fileset.server.0) (nat_lt fileset.server.0 (server + suc n)) h in
    let high : nat_lt fileset.server.0 (server + suc n) ≡ true = and_right (nat_le server fileset.server.0) (nat_lt fileset.server.0 (server + suc n)) h in
    let a : server ≤ fileset.server.0 = grind (arith, common_steps, low) in
    let b : fileset.server.0 < server + suc n = grind (arith, common_steps, high) in
    let c : server + 1 ≤ fileset.server.0 = omega (arith, a, e) in
    let d : fileset.server.0 < server + 1 + n = omega (arith, b) in
    let f : nat_le (server + 1) fileset.server.0 ≡ true = grind (arith, common_steps, c) in
    let g : nat_lt fileset.server.0 (server + 1 + n) ≡ true = grind (arith, common_steps, d) in
    and_both _ _ f g

-- what each content passes
any : (anodes : List Anode) → list_all (anode_content (λ content. true)) anodes ≡ true
any [] = refl
any (anode ∷ anodes) = and_both _ _ (any_object anode.object) (any anodes)
  where
    any_object : (o : Option Object) → option_map_or (λ object. true) o true ≡ true
    any_object None = refl
    any_object (Some object) = refl

left_down : (host : HostId) (server n : ℕ) (fileset : Fileset) → is_left host server (suc n) fileset ≡ true → is_left host (server + 1) n (if fileset.server.0 == server then fileset_forgotten host fileset else fileset) ≡ true
left_down host server n fileset h =
    elim (eqb_tells fileset.server.0 server) as (λ _. is_left host (server + 1) n (if fileset.server.0 == server then fileset_forgotten host fileset else fileset) ≡ true) [
      | inl (e, same) ↦
          let saved : fileset_contents (has_saved host) (fileset_forgotten host fileset) ≡ true =
          fileset_mapped (λ content. true) (has_saved host) (content_forgotten host) (λ content m. down_saved host content) fileset.anodes (any fileset.anodes) in
          ap (λ t. is_left host (server + 1) n (cond t (fileset_forgotten host fileset) fileset)) e ∙ or_left _ _ saved
      | inr (e, other) ↦ ap (λ t. is_left host (server + 1) n (cond t (fileset_forgotten host fileset) fileset)) e ∙ left_fewer server n (fileset_contents (has_saved host) fileset) fileset other h
    ]

downs_save : (host : HostId) (server n : ℕ) (tree : Tree) → list_all (is_left host server n) tree.filesets ≡ true → all_contents (has_saved host) (after_history tree (downs_from host server n)) ≡ true
unfolding down_tree
downs_save host server zero tree h = all_implied (is_left host server zero) (fileset_contents (has_saved host)) (left_none host server) tree.filesets h
downs_save host server (suc n) tree h =
    downs_save host (server + 1) n (down_tree tree host (record { 0 = server }))
    (all_mapped (is_left host server (suc n)) (is_left host (server + 1) n) (λ fileset. if fileset.server.0 == server then fileset_forgotten host fileset else fileset) (left_down host server n) tree.filesets h)

-- all filesets are at one of the servers
declared_left : (host : HostId) (servers : ℕ) (fileset : Fileset) → is_declared servers fileset.server ≡ true → is_left host 1 servers fileset ≡ true
declared_left host servers fileset h =
    let low : nat_le 1 fileset.server.0 ≡ true = and_left (nat_le 1 fileset.server.0) (nat_le fileset.server.0 servers) h in
    let high : nat_le fileset.server.0 servers ≡ true = and_right (nat_le 1 fileset.server.0) (nat_le fileset.server.0 servers) h in
    let b : fileset.server.0 ≤ servers = grind (arith, common_steps, high) in
    let c : fileset.server.0 < 1 + servers = omega (arith, b) in
    let d : nat_lt fileset.server.0 (1 + servers) ≡ true = grind (arith, common_steps, c) in
    or_right _ _ (and_both _ _ low d)

pub downs_all : (host : HostId) (before : Tree) (entries : List Entry) (after : Tree) → entries ≡ downs_from host 1 (length before.roster.capacity) → after ≡ after_history before entries → IsWellFormed before → all_contents is_by_one before ≡ true →
    DownsAll host before entries after
downs_all host before entries after e f w one =
    let n = length before.roster.capacity in
    let all : List Entry = downs_from host 1 n in
    let declared : list_all (λ fileset. is_declared n fileset.server) before.filesets ≡ true = subst (λ m. list_all (λ fileset. is_declared m fileset.server) before.filesets ≡ true) w.servers w.declared in
    let left = all_implied (λ fileset. is_declared n fileset.server) (is_left host 1 n) (declared_left host n) before.filesets declared in
    let whole : DownsAll host before all (after_history before all) =
    record { leads = leads_to before all (downs_no_calls host 1 n) w one (downs_legal host 1 n before); downs = refl; saved = downs_save host 1 n before left } in
    subst (λ t. DownsAll host before entries t) (sym f) (subst (λ es. DownsAll host before es (after_history before es)) (sym e) whole)
