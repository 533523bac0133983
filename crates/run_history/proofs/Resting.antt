-- A tree at no part of which anything is unsaved is at rest.
use Rattle.std.proofs.Common.{Bool, List, None, Option, Some, ap, arith, false, refl, suc, sym, true, ℕ, ◌-◌, ◌==◌}
use Rattle.std.proofs.Common.{◌∙◌, ◌∷◌, ◌≡◌}
use Rattle.std.proofs.lemmas.Grind.{common_steps}
use Rattle.std.specs.List.{find, list_all}
use Rattle.std.specs.Option.{option_and_then, option_map, option_map_or}
use Rattle.std.specs.Prelude.{[], if◌then◌else◌, slice_get}
use Rattle.base_types.specs.declared.access.AccessEntry.{AccessEntry}
use Rattle.base_types.specs.declared.ids.Fid.{Fid}
use Rattle.tree_filesets.specs.Walk.{object_at, unique_at}
use Rattle.tree_filesets.specs.WellFormed.{is_at_rest, is_settled}
use Rattle.tree_filesets.specs.declared.fileset.Fileset.{Fileset}
use Rattle.tree_objects.specs.Files.{unsaved_at}
use Rattle.tree_objects.specs.declared.content.Anode.{Anode}
use Rattle.tree_objects.specs.declared.content.Content.{Content}
use Rattle.tree_objects.specs.declared.content.Content.TheVariants.{Dir, File}
use Rattle.tree_objects.specs.declared.content.Object.{Object}
use Rattle.tree_objects.specs.declared.content.Unsaved.{Unsaved}
use Rattle.tree_objects.specs.declared.content.UnsavedLength.{UnsavedLength}
use Rattle.tree_answers.specs.Finding.{has_id}
use Rattle.tree_answers.specs.WellFormed.{ids_rise}
use Rattle.tree_answers.specs.declared.tree.Tree.{Tree}
use Rattle.tree_laws.proofs.Steps.{same_number}
use Rattle.tree_laws.specs.Parts.{Part, byte_cell, cell_at, cell_found, cell_in, cell_of, object_in, size_cell}
use Rattle.tree_laws.specs.Parts.{written_byte, written_length}
use Rattle.tree_laws.specs.Parts.Part.{ByteAt, Size}
use Rattle.run_history.proofs.Keeping.{found_in}
use Rattle.run_history.proofs.PastLists.{all_in, all_placed}

-- a file that shows no unsaved byte, and has no unsaved length
settled_file : (list : List AccessEntry) (kept : List ℕ) (unsaved : List Unsaved) (len : Option UnsavedLength)
    → ((at : ℕ) → option_map written_byte (unsaved_at unsaved at) ≡ None) → option_map written_length len ≡ None
    → is_settled (File list kept unsaved len) ≡ true
settled_file list kept [] None bytes size = refl
settled_file list kept [] (Some n) bytes size = absurd (let q : Some (written_length n) ≡ None = size in cc)
settled_file list kept (u ∷ us) len bytes size = absurd (let q : Some (written_byte u) ≡ None = first in cc)
  where
    first : Some (written_byte u) ≡ None
    first =
        ap (λ (b : Bool). option_map written_byte (if b then Some u else find (λ byte. byte.at == u.at) us))
        (sym (same_number u.at))
        ∙ bytes u.at

settled_content : (c : Content) → ((at : ℕ) → (byte_cell c at).unsaved ≡ None) → (size_cell c).unsaved ≡ None
    → is_settled c ≡ true
settled_content (Dir entries lists) bytes size = refl
settled_content (File list kept unsaved len) bytes size = settled_file list kept unsaved len bytes size

module _ (t : Tree) (rise : ids_rise t.filesets ≡ true)
    (none : (f : Fid) (p : Part) → (cell_at t f p).unsaved ≡ None) where
  anode_rests : (x : Fileset) → find (has_id x.id) t.filesets ≡ Some x → (n : ℕ) (a : Anode)
      → slice_get x.anodes n ≡ Some a → option_map_or (λ object. is_settled object.content) a.object true ≡ true
  anode_rests x found n a at = go a.object refl
    where
      f : Fid
      f = record { fileset = x.id; anode = suc n; unique = a.unique }

      not_zero : (suc n == 0) ≡ false
      not_zero = grind (arith, common_steps)

      back : suc n - 1 ≡ n
      back = omega arith

      there : slice_get x.anodes (suc n - 1) ≡ Some a
      there = ap (λ k. slice_get x.anodes k) back ∙ at

      used : unique_at x.anodes (suc n) ≡ a.unique
      used = ap (λ (o : Option Anode). option_map_or (λ y. y.unique) o 0) there

      go : (o : Option Object) → a.object ≡ o → option_map_or (λ object. is_settled object.content) o true ≡ true
      go None e = refl
      go (Some object) e = settled_content object.content (λ b. is (ByteAt b)) (is Size)
        where
          stands : object_at x.anodes (suc n) ≡ Some object
          stands =
              ap (λ (b : Bool). if b then None else option_and_then (λ y. y.object) (slice_get x.anodes (suc n - 1)))
              not_zero
              ∙ (ap (λ (o : Option Anode). option_and_then (λ y. y.object) o) there ∙ e)

          its : object_in x f ≡ Some object
          its =
              ap (λ (k : ℕ). if k == a.unique then object_at x.anodes (suc n) else None) used
              ∙ (ap (λ (b : Bool). if b then object_at x.anodes (suc n) else None) (same_number a.unique) ∙ stands)

          is : (p : Part) → (cell_of x.read_only object p).unsaved ≡ None
          is p =
              ap (λ (o : Option Object). (cell_found x.read_only o p).unsaved) (sym its)
              ∙ (ap (λ (o : Option Fileset). (cell_in o f p).unsaved) (sym found) ∙ none f p)

  pub all_rest : list_all is_at_rest t.filesets ≡ true
  all_rest =
      all_in is_at_rest t.filesets (λ x i.
      all_placed (λ (a : Anode). option_map_or (λ object. is_settled object.content) a.object true) x.anodes
      (anode_rests x (found_in x.id t.filesets x rise i (same_number x.id.0))))
