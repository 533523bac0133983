-- What changes of an anode are to the object that it keeps.
use Rattle.std.proofs.Common.{◌≡◌, ◌≢◌, ◌<◌, ◌≤◌, ◌⊎◌, ℕ, zero, suc, ◌-◌, List, [], ◌∷◌, length, set, get_or, refl, sym, ◌∙◌, inl, inr, arith}
use Rattle.std.specs.Prelude.{Bool, true, false, ◌==◌, if◌then◌else◌, nat_lt, min, Some, None, slice_get, replicate}
use Rattle.std.specs.Option.{option_map, option_map_or}
use Rattle.std.proofs.lemmas.Bool.{cases_eq}
use Rattle.std.proofs.lemmas.Bool.Decides.{nat_tests}
use Rattle.std.proofs.lemmas.List.{get_or_past}
use Rattle.std.proofs.lemmas.Option.{slice_get-get_or}
use Rattle.base_types.specs.declared.access.AccessEntry.{AccessEntry}
use Rattle.tree_calls.specs.declared.place.Which.{Which}
use Rattle.tree_objects.specs.declared.content.Content.{Content}
use Rattle.tree_objects.specs.declared.content.Content.TheVariants.{Dir, File}
use Rattle.tree_objects.specs.declared.content.Object.{Object}
use Rattle.tree_objects.specs.Changes.{content_truncated}
use Rattle.tree_objects.specs.Files.{resized, bytes_over}
use Rattle.tree_objects.specs.Objects.{list_index, content_with_list}
use Rattle.tree_objects.proofs.Lawful.{over_itself}
use Rattle.tree_objects.proofs.Observed.{length_resized}
use Rattle.tree_filesets.specs.Laws.{lists_in}
use Rattle.tree_filesets.proofs.Places.{get-changed_here, get-changed_other}
use Rattle.tree_filesets.proofs.Updates.{set_changed}
use Rattle.disk_anode.specs.Anode.{Anode as Kept, with_length, with_list}
use Rattle.disk_lists.specs.Lists.{list_bytes}
use Rattle.disk_lists.specs.Entries.{IsDirectory}
use Rattle.disk_anode.specs.Anode.{freed}
use Rattle.tree_objects.specs.declared.content.Anode.{Anode}
use Rattle.tree_objects.specs.Changes.{anode_freed}
use Rattle.std.specs.Prelude.{Option, is_none}
use Rattle.std.proofs.Common.{length-set}
use Rattle.tree_calls.specs.declared.part.DirEntry.{DirEntry}
use Rattle.disk_objects.specs.Holds.{no_anode}
use Rattle.disk_objects.specs.Objects.{list_byte, object_kept, kept_of, FitsList, EachList, FitsContent}

same_test : (a b : ℕ) → a ≡ b → (a == b) ≡ true
same_test a b e = grind (arith, nat_tests, e)

other_test : (a b : ℕ) → a ≢ b → (a == b) ≡ false
other_test a b apart = grind (arith, nat_tests, apart)

-- the block of a list that was set, and those of the others
get_set_here : {X : Type 0} (xs : List X) (i : ℕ) (x : X) → i < length xs → slice_get (set xs i x) i ≡ Some x
get_set_here xs i x lt =
    (λ j. slice_get (set_changed xs i x j) i) ∙ get-changed_here xs i (λ old. x)
    ∙ (λ j. option_map (λ old. x) (slice_get-get_or xs i x lt j))

get_set_other : {X : Type 0} (xs : List X) (i j : ℕ) (x : X) → j ≢ i → slice_get (set xs i x) j ≡ slice_get xs j
get_set_other xs i j x apart = (λ k. slice_get (set_changed xs i x k) j) ∙ get-changed_other xs i j (λ old. x) apart

pub list_byte_set : (lists : List (List AccessEntry)) (w : ℕ) (list : List AccessEntry) → w < length lists → (v k : ℕ)
    → (if v == w then (if nat_lt k 1024 then get_or (list_bytes list) k 0 else 0) else list_byte lists v k) ≡ list_byte (set lists w list) v k
list_byte_set lists w list lt v k = at (cases_eq v w)
  where
    at : (v ≡ w) ⊎ (v ≢ w) → (if v == w then (if nat_lt k 1024 then get_or (list_bytes list) k 0 else 0) else list_byte lists v k) ≡ list_byte (set lists w list) v k
    at (inl e) =
        let on = same_test v w e in
        let here : slice_get (set lists w list) v ≡ Some list = (λ i. slice_get (set lists w list) (e i)) ∙ get_set_here lists w list lt in
        (λ i. if on i then (if nat_lt k 1024 then get_or (list_bytes list) k 0 else 0) else list_byte lists v k)
        ∙ (λ i. if nat_lt k 1024 then get_or (option_map_or list_bytes (sym here i) []) k 0 else 0)
    at (inr apart) =
        let off = other_test v w apart in
        let there = get_set_other lists w v list apart in
        (λ i. if off i then (if nat_lt k 1024 then get_or (list_bytes list) k 0 else 0) else list_byte lists v k)
        ∙ (λ i. if nat_lt k 1024 then get_or (option_map_or list_bytes (sym there i) []) k 0 else 0)

-- a list that was saved is the object's
lists_set : (which : Which) (list : List AccessEntry) (content : Content) → list_index which < length (lists_in content) → set (lists_in content) (list_index which) list ≡ lists_in (content_with_list which list content)
lists_set which list (Dir entries lists) lt = refl
lists_set which list (File old kept unsaved len) lt =
    let e : list_index which ≡ 0 = omega (arith, lt) in
    λ i. set (old ∷ []) (e i) list

pub with_list_kept : (which : Which) (list : List AccessEntry) (unique : ℕ) (owner group : List ℕ) (content : Content) → list_index which < length (lists_in content)
    → with_list (list_index which) (list_bytes list) (object_kept unique (record { owner = owner; group = group; content = content }))
    ≡ object_kept unique (record { owner = owner; group = group; content = content_with_list which list content })
with_list_kept which list unique owner group content lt = by content lt
  where
    same : (content : Content) → list_index which < length (lists_in content) → (v k : ℕ)
        → (if v == list_index which then (if nat_lt k 1024 then get_or (list_bytes list) k 0 else 0) else list_byte (lists_in content) v k) ≡ list_byte (lists_in (content_with_list which list content)) v k
    same content lt v k = list_byte_set (lists_in content) (list_index which) list lt v k ∙ (λ i. list_byte (lists_set which list content lt i) v k)

    by : (content : Content) → list_index which < length (lists_in content)
        → with_list (list_index which) (list_bytes list) (object_kept unique (record { owner = owner; group = group; content = content }))
        ≡ object_kept unique (record { owner = owner; group = group; content = content_with_list which list content })
    by (Dir entries lists) lt =
        let base : Kept = object_kept unique (record { owner = owner; group = group; content = Dir entries lists }) in
        λ i. record base { lists = λ v k. same (Dir entries lists) lt v k i }
    by (File old kept unsaved len) lt =
        let base : Kept = object_kept unique (record { owner = owner; group = group; content = File old kept unsaved len }) in
        λ i. record base { lists = λ v k. same (File old kept unsaved len) lt v k i }

-- bytes of a file with a length
zeros : (n k : ℕ) → get_or (replicate n 0) k zero ≡ zero
zeros zero k = refl
zeros (suc n) zero = refl
zeros (suc n) (suc k) = zeros n k

below : (xs : List ℕ) (n k : ℕ) → k < n → get_or (resized xs n) k 0 ≡ get_or xs k 0
below [] zero k lt = absurd (omega (arith, lt))
below [] (suc n) k lt = zeros (suc n - zero) k
below (x ∷ xs) zero k lt = absurd (omega (arith, lt))
below (x ∷ xs) (suc n) zero lt = refl
below (x ∷ xs) (suc n) (suc k) lt = let e : suc n - suc (length xs) ≡ n - length xs = omega arith in rw e (below xs n k (omega (arith, lt)))

pub resized_byte : (xs : List ℕ) (n k : ℕ) → (if nat_lt k n then get_or xs k 0 else 0) ≡ get_or (resized xs n) k 0
resized_byte xs n k = by (nat_lt k n) refl
  where
    by : (a : Bool) → nat_lt k n ≡ a → (if a then get_or xs k 0 else 0) ≡ get_or (resized xs n) k 0
    by true e = sym (below xs n k (grind (arith, nat_tests, e)))
    by false e =
        let high : n ≤ k = grind (arith, nat_tests, e) in
        let size = length_resized xs n in
        sym (get_or_past (resized xs n) k 0 (omega (arith, size, high)))

pub with_length_kept : (n unique : ℕ) (owner group : List ℕ) (list : List AccessEntry) (kept : List ℕ) → n ≤ 65536
    → with_length n (object_kept unique (record { owner = owner; group = group; content = File list kept [] None }))
    ≡ object_kept unique (record { owner = owner; group = group; content = content_truncated n (File list kept [] None) })
with_length_kept n unique owner group list kept few =
    let base : Kept = object_kept unique (record { owner = owner; group = group; content = File list kept [] None }) in
    let whole = over_itself kept in
    let size : n ≡ length (resized kept n) = sym (length_resized kept n) in
    let least : min n 65536 ≡ n = omega (arith, few) in
    (λ i. record base { length = size i; content = λ k. ((λ j. if nat_lt k (least j) then get_or kept k 0 else 0) ∙ resized_byte kept n k) i })
    ∙ (λ i. record base { length = length (resized (sym whole i) n); content = λ k. get_or (resized (sym whole i) n) k 0 })

-- a directory that is kept is one of its entries
pub directory_kept : (unique : ℕ) (owner group : List ℕ) (entries : List DirEntry) (lists : List (List AccessEntry)) → FitsContent (Dir entries lists)
    → IsDirectory entries (object_kept unique (record { owner = owner; group = group; content = Dir entries lists }))
directory_kept unique owner group entries lists fits = record {
  kind = refl;
  length_is = refl;
  few = fits.0;
  content = λ k. refl;
  each = fits.1;
  rise = fits.2;
}

-- a list among others that can be kept
each_set : (lists : List (List AccessEntry)) (i : ℕ) (list : List AccessEntry) → EachList lists → FitsList list → EachList (set lists i list)
each_set [] i list each fits = each
each_set (first ∷ lists) zero list each fits = (fits, each.1)
each_set (first ∷ lists) (suc i) list each fits = (each.0, each_set lists i list each.1 fits)

pub list_fits : (which : Which) (list : List AccessEntry) (content : Content) → FitsContent content → FitsList list → FitsContent (content_with_list which list content)
list_fits which list (Dir entries lists) fits new =
    let three = fits.3 in
    (fits.0, fits.1, fits.2, length-set lists (list_index which) list ∙ three, each_set lists (list_index which) list fits.4 new)
list_fits which list (File old kept unsaved len) fits new = (fits.0, fits.1, fits.2, new)

-- a file of another length
pub truncated_fits : (n : ℕ) (list : List AccessEntry) (kept : List ℕ) → n ≤ 65536 → FitsList list → FitsContent (content_truncated n (File list kept [] None))
truncated_fits n list kept few fits =
    let size = length_resized (bytes_over kept [] 0 (length kept)) n in
    (omega (arith, size, few), refl, refl, fits)

-- a free anode
unique_kept : (anode : Anode) (o : Option Object) → (option_map_or (object_kept anode.unique) o (record no_anode { unique = anode.unique })).unique ≡ anode.unique
unique_kept anode None = refl
unique_kept anode (Some object) = refl

pub freed_kept : (anode : Anode) → freed (kept_of anode) ≡ kept_of (anode_freed anode)
freed_kept anode = (let e = unique_kept anode anode.object in λ i. record no_anode { unique = e i })

pub vacant_kind : (anode : Anode) → is_none anode.object ≡ true → (kept_of anode).kind ≡ 0
vacant_kind anode is = by anode.object is
  where
    by : (o : Option Object) → is_none o ≡ true → (option_map_or (object_kept anode.unique) o (record no_anode { unique = anode.unique })).kind ≡ 0
    by None is = refl
    by (Some object) is = absurd (grind (arith, is))
