-- The filesets of a tree that names and ids find.
use Rattle.std.proofs.Common.{◌≡◌, ℕ, suc, ◌+◌, nat_lt, Bool, true, false, not, cond, List, [], ◌∷◌, length, Some, None, Ok, sym, ap, ◌∙◌, arith, rules}
use Rattle.std.specs.Prelude.{slice_get}
use Rattle.std.specs.List.{find, position, prefix_len}
use Rattle.std.proofs.lemmas.Grind.{common_steps}
use Rattle.base_types.specs.Outcomes.{either}
use Rattle.base_types.specs.declared.ids.ServerId.{ServerId}
use Rattle.base_types.specs.declared.ids.FilesetId.{FilesetId}
use Rattle.base_types.specs.declared.ids.Fid.{Fid}
use Rattle.tree_calls.specs.declared.reply.Refusal.TheVariants.{NoFileset}
use Rattle.tree_filesets.specs.declared.fileset.Fileset.{Fileset}
use Rattle.tree_filesets.specs.Answers.{Answered}
use Rattle.tree_filesets.specs.Walk.{object_at, unique_at}
use Rattle.tree_filesets.specs.WellFormed.{IsWellFormed as IsWellFormedFileset}
use Rattle.tree_answers.specs.declared.tree.Tree.{Tree}
use Rattle.tree_answers.specs.Finding.{refuse, found_or, leads_to, has_id, fileset_place, fileset_named}
use Rattle.tree_answers.specs.Answers.{answer_at}
use Rattle.tree_answers.specs.WellFormed.{IsWellFormed}
use Rattle.tree_answers.proofs.Places.{found_by_id}
use Rattle.tree_answers.proofs.Places.{place_found}
use Rattle.need_host.specs.Walks.{root_of}
use Rattle.tree_laws.proofs.Steps.{same_number, named_ok, formed_found}
use Rattle.need_host.proofs.Walking.{ShowsFileset}
use Rattle.tree_laws.specs.Losses.{use_of}
use Rattle.tree_laws.specs.Parts.{present, cell_found, cell_in, object_in}
use Rattle.need_host.specs.Looks.{tree_view}

pub found_below : {X : Type 0} (p : X → Bool) (xs : List X) (x : X) → find p xs ≡ Some x → nat_lt (prefix_len (λ x. not (p x)) xs) (length xs) ≡ true
found_below p [] x h = absurd (search (rules, h))
found_below p (y ∷ ys) x h =
    elim (p y) as (λ t. cond t (Some y) (find p ys) ≡ Some x → nat_lt (cond (not t) (1 + prefix_len (λ x. not (p x)) ys) 0) (suc (length ys)) ≡ true) [
      | true ↦ λ k. grind (arith, common_steps)
      | false ↦ λ k. let rest = found_below p ys x k in grind (arith, common_steps, rest)
    ] h

pub position_found : {X : Type 0} (p : X → Bool) (xs : List X) (x : X) → find p xs ≡ Some x → position p xs ≡ Some (prefix_len (λ x. not (p x)) xs)
position_found p xs x h = ap (λ t. cond t (Some (prefix_len (λ x. not (p x)) xs)) None) (found_below p xs x h)

-- a present use of an anode
pub object_used : (fileset : Fileset) (at : ℕ) → object_in fileset (use_of fileset at) ≡ object_at fileset.anodes at
object_used fileset at = ap (λ t. cond t (object_at fileset.anodes at) None) (same_number (unique_at fileset.anodes at))

-- the view of a tree shows its filesets
pub tree_shows : (tree : Tree) (fileset : Fileset) → find (has_id fileset.id) tree.filesets ≡ Some fileset → ShowsFileset (tree_view tree) fileset
tree_shows tree fileset found at part =
    ap (λ o. present (cell_in o (use_of fileset at) part)) found ∙ ap (λ o. present (cell_found fileset.read_only o part)) (object_used fileset at)

-- what is known of a fileset that a host has seen
pub record IsHome (tree : Tree) (server : ServerId) (name : List ℕ) (id : FilesetId) (fileset : Fileset) : Type 0 where
  pub found : find (leads_to tree server name) tree.filesets ≡ Some fileset
  pub by_id : find (has_id fileset.id) tree.filesets ≡ Some fileset
  pub formed : IsWellFormedFileset fileset
  pub root : use_of fileset 1 ≡ root_of id

pub home_known : (tree : Tree) (server : ServerId) (name : List ℕ) (id : FilesetId) (fileset : Fileset) → IsWellFormed tree → fileset_named tree server name ≡ Ok fileset → fileset.id ≡ id →
    IsHome tree server name id fileset
unfolding fileset_named
home_known tree server name id fileset w named same =
    let found = named_ok (find (leads_to tree server name) tree.filesets) fileset named in
    let formed = formed_found (leads_to tree server name) tree.filesets fileset w.filesets found in
    record {
      found = found;
      by_id = found_by_id (leads_to tree server name) tree.filesets fileset found w.ordered;
      formed = formed;
      root = ap (λ n. let fid : Fid = record { fileset = fileset.id; anode = 1; unique = n } in fid) formed.first ∙ ap root_of same;
    }

-- the reply of the fileset that decides
pub row_reply : (tree : Tree) (server : ServerId) (name : List ℕ) (fileset : Fileset) (ask : Fileset → Answered) → find (leads_to tree server name) tree.filesets ≡ Some fileset →
    (either (fileset_place tree server name) (λ place. answer_at tree place (slice_get tree.filesets place) ask) (refuse tree)).reply ≡ (ask fileset).reply
unfolding fileset_place
row_reply tree server name fileset ask found =
    let place = prefix_len (λ x. not (leads_to tree server name x)) tree.filesets in
    ap (λ o. (either (found_or o NoFileset) (λ place. answer_at tree place (slice_get tree.filesets place) ask) (refuse tree)).reply) (position_found (leads_to tree server name) tree.filesets fileset found)
    ∙ ap (λ o. (answer_at tree place o ask).reply) (sym (place_found (leads_to tree server name) tree.filesets) ∙ found)
