-- The list of dirty files.
use Rattle.std.proofs.Common.{◌≡◌, Bool, true, false, ◌&&◌, ◌||◌, not, cond, List, []}
use Rattle.std.proofs.Common.{◌∷◌, map, Option, Some, None, is_some, unwrap_or, refl, sym, ap, ◌∙◌}
use Rattle.std.specs.List.{filter, list_any, AllByRecursion}
use Rattle.std.specs.List.Sorted.{IsStrictlySortedBy}
use Rattle.std.specs.declared.cmp.Ordering.TheVariants.{Less}
use Rattle.std.specs.BTreeMap.{get, keys, is_at, IsOrdered}
use Rattle.std.proofs.lemmas.Map.Made.{is_some-lookup}
use Rattle.std.proofs.lemmas.Map.Views.{any-filter_same}
use Rattle.base_types.specs.Ids.{same_fid}
use Rattle.base_types.specs.declared.ids.Fid.{Fid}
use Rattle.host_dirty.specs.Files.{FileKey, key_of, fid_of, key_cmp, clean, is_clean}
use Rattle.host_dirty.specs.Dirtiness.{file_at}
use Rattle.host_dirty.specs.FileLaws.{FilesRise, FilesAreDirty}
use Rattle.host_dirty.specs.declared.dirty.Dirty.{Dirty}
use Rattle.host_dirty.specs.declared.file.DirtyFile.{DirtyFile}
use Rattle.host_dirty.proofs.Changing.{same_key, one_fid}

all_left : (p : Fid → Bool) (P : FileKey → Type 0) (ks : List FileKey) → AllByRecursion P ks →
    AllByRecursion P (map key_of (filter p (map fid_of ks)))
all_left p P [] h = h
all_left p P (k ∷ ks) h =
    elim (p (fid_of k)) as (λ t. AllByRecursion P
    (map key_of (cond t (fid_of k ∷ filter p (map fid_of ks)) (filter p (map fid_of ks))))) [
      | true ↦ (h.0, all_left p P ks h.1)
      | false ↦ all_left p P ks h.1
    ]

rise_left : (p : Fid → Bool) (ks : List FileKey) → IsStrictlySortedBy key_cmp ks →
    IsStrictlySortedBy key_cmp (map key_of (filter p (map fid_of ks)))
unfolding IsStrictlySortedBy
rise_left p [] h = h
rise_left p (k ∷ ks) h =
    elim (p (fid_of k)) as (λ t. IsStrictlySortedBy key_cmp
    (map key_of (cond t (fid_of k ∷ filter p (map fid_of ks)) (filter p (map fid_of ks))))) [
      | true ↦ (all_left p (λ y. key_cmp k y ≡ Less) ks h.0, rise_left p ks h.1)
      | false ↦ rise_left p ks h.1
    ]

pub files_rise : (dirty : Dirty) → IsOrdered key_cmp dirty.files → FilesRise dirty
files_rise dirty order = rise_left (λ fid. not (is_clean (file_at dirty fid))) (keys dirty.files) order

same_any : (fid : Fid) (ks : List FileKey) →
    list_any (same_fid fid) (map fid_of ks) ≡ list_any (is_at (key_cmp (key_of fid))) ks
same_any fid [] = refl
same_any fid (k ∷ ks) =
    ap (λ b. b || list_any (same_fid fid) (map fid_of ks)) (sym (same_key fid (fid_of k)))
    ∙ ap (λ b. is_at (key_cmp (key_of fid)) k || b) (same_any fid ks)

pub files_are_dirty : (dirty : Dirty) → FilesAreDirty dirty
files_are_dirty dirty fid =
    let p : Fid → Bool = λ f. not (is_clean (file_at dirty f)) in
    any-filter_same (same_fid fid) p (p fid) (λ k same. ap p (sym (one_fid fid k same))) (map fid_of (keys dirty.files))
    ∙ ap (λ b. p fid && b) (same_any fid (keys dirty.files)
    ∙ sym (is_some-lookup (is_at (key_cmp (key_of fid))) dirty.files.entries))
    ∙ known (get key_cmp dirty.files (key_of fid))
  where
    and_true : (b : Bool) → (b && true) ≡ b
    and_true true = refl
    and_true false = refl

    known : (o : Option DirtyFile) →
        (not (is_clean (unwrap_or o clean)) && is_some o) ≡ not (is_clean (unwrap_or o clean))
    known None = refl
    known (Some file) = and_true (not (is_clean file))
