-- Where the fileset of a call is.
use Rattle.std.proofs.Common.{◌≡◌, ◌==◌, inl, inr, ℕ, Bool, true, false, ◌&&◌, cond, List, length, Some, None, Result, Ok, Err, refl, sym, ap, ◌∙◌}
use Rattle.std.specs.Prelude.{nat_lt, not, slice_get}
use Rattle.std.specs.List.{position_or_len}
use Rattle.std.specs.Option.{option_map_or}
use Rattle.std.proofs.lemmas.Bool.{lt-ltb, le-ltb}
use Rattle.std.proofs.lemmas.List.Folds.{find_at}
use Rattle.std.proofs.lemmas.Option.{slice_get_cases}
use Rattle.base_types.specs.Outcomes.{and_then, either}
use Rattle.base_types.specs.declared.ids.ServerId.{ServerId}
use Rattle.tree_calls.specs.declared.call.Call.TheVariants.{Create, Rename}
use Rattle.tree_calls.specs.declared.place.Place.{Place}
use Rattle.tree_calls.specs.declared.reply.Refusal.{Refusal}
use Rattle.tree_calls.specs.declared.reply.Refusal.TheVariants.{CrossFileset, NoFileset}
use Rattle.tree_filesets.specs.Checks.{unless}
use Rattle.tree_filesets.specs.declared.fileset.Fileset.{Fileset}
use Rattle.tree_answers.specs.declared.tree.Tree.{Tree}
use Rattle.tree_answers.specs.Finding.{fileset_named, fileset_place, found_or, leads_to, same_fileset}
use Rattle.store_laws.specs.Acts.{is_decided_at}

abbrev told : {A : Type 0} → (A → Bool) → Result A Refusal → Bool
told there found = either found there (λ refusal. false)

abbrev in_place : (Fileset → Bool) → List Fileset → ℕ → Bool
in_place there filesets place = option_map_or there (slice_get filesets place) false

found_there : (there : Fileset → Bool) (filesets : List Fileset) (n : ℕ) →
    told (in_place there filesets) (found_or (cond (nat_lt n (length filesets)) (Some n) None) NoFileset)
    ≡ told there (found_or (slice_get filesets n) NoFileset)
found_there there filesets n = elim (slice_get_cases filesets n).1 [
  | inl h ↦ ap (λ b. told (in_place there filesets) (found_or (cond b (Some n) None) NoFileset)) (lt-ltb n (length filesets) h.1)
      ∙ ap (λ o. option_map_or there o false) h.2
      ∙ ap (λ o. told there (found_or o NoFileset)) (sym h.2)
  | inr h ↦ ap (λ b. told (in_place there filesets) (found_or (cond b (Some n) None) NoFileset)) (le-ltb n (length filesets) h.0)
      ∙ ap (λ o. told there (found_or o NoFileset)) (sym h.1)
]

-- the fileset that a name leads to is that in the place
named_at : (server : ServerId) (tree : Tree) (place : Place) →
    is_decided_at server tree (Create place)
    ≡ either (fileset_named tree place.server place.fileset) (λ fileset. fileset.server.0 == server.0) (λ refusal. false)
unfolding fileset_named fileset_place
named_at server tree place =
    let test = leads_to tree place.server place.fileset in
    found_there (λ fileset. fileset.server.0 == server.0) tree.filesets (position_or_len test tree.filesets)
    ∙ ap (λ o. told (λ (fileset : Fileset). fileset.server.0 == server.0) (found_or o NoFileset))
    (sym (find_at test tree.filesets))

pub named_ok : (server : ServerId) (tree : Tree) (place : Place) (fileset : Fileset) →
    fileset_named tree place.server place.fileset ≡ Ok fileset →
    is_decided_at server tree (Create place) ≡ (fileset.server.0 == server.0)
named_ok server tree place fileset e =
    named_at server tree place ∙ ap (told (λ (fileset : Fileset). fileset.server.0 == server.0)) e

pub named_err : (server : ServerId) (tree : Tree) (place : Place) (refusal : Refusal) →
    fileset_named tree place.server place.fileset ≡ Err refusal → is_decided_at server tree (Create place) ≡ false
named_err server tree place refusal e =
    named_at server tree place ∙ ap (told (λ (fileset : Fileset). fileset.server.0 == server.0)) e

-- a move within a server's filesets
within : (found : Result ℕ Refusal) (same : Bool) (there : ℕ → Bool) →
    told there (and_then found (λ place. unless (not same) CrossFileset (Ok place))) ≡ (same && told there found)
within (Ok place) true there = refl
within (Ok place) false there = refl
within (Err refusal) true there = refl
within (Err refusal) false there = refl

pub renamed_at : (server : ServerId) (tree : Tree) (from to : Place) →
    is_decided_at server tree (Rename from to) ≡ (same_fileset from to && is_decided_at server tree (Create from))
renamed_at server tree from to =
    within (fileset_place tree from.server from.fileset) (same_fileset from to)
    (in_place (λ fileset. fileset.server.0 == server.0) tree.filesets)
