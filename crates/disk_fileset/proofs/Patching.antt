-- What give-backs make of what a slot keeps.
use Rattle.std.proofs.Common.{◌≡◌, ◌≢◌, ◌<◌, ◌≤◌, ◌⊎◌, ℕ, zero, suc, ◌+◌, ◌-◌, List, [], ◌∷◌, length, refl, sym, ◌∙◌, ap, subst, inl, inr, arith}
use Rattle.std.specs.Prelude.{true, false, ◌==◌, if◌then◌else◌, max, Option, Some, None, unwrap_or, Result, OnOk, IfSome}
use Rattle.std.specs.Option.{option_map, option_map_or}
use Rattle.std.proofs.lemmas.Bool.{cases_eq}
use Rattle.std.proofs.lemmas.Bool.Decides.{nat_tests}
use Rattle.std.proofs.lemmas.Result.{on_ok_weaker}
use Rattle.base_types.specs.Lists.{changed_at}
use Rattle.base_types.specs.declared.access.AccessEntry.{AccessEntry}
use Rattle.tree_calls.specs.declared.part.Piece.{Piece}
use Rattle.tree_objects.specs.declared.content.Anode.{Anode}
use Rattle.tree_objects.specs.declared.content.Content.{Content}
use Rattle.tree_objects.specs.declared.content.Content.TheVariants.{Dir, File}
use Rattle.tree_objects.specs.declared.content.Object.{Object}
use Rattle.tree_objects.specs.Changes.{content_changed, anode_changed, content_truncated}
use Rattle.tree_objects.specs.Files.{bytes_over, resized}
use Rattle.tree_objects.proofs.Lawful.{over_itself, all_resized}
use Rattle.tree_objects.proofs.Observed.{length_resized}
use Rattle.store_state.specs.Giving.{put_pieces, content_given}
use Rattle.disk_log.specs.State.{State}
use Rattle.disk_anode.specs.Anode.{anode_in, written}
use Rattle.disk_anode.specs.Changes.{own_names, WritesLoose, Changed}
use Rattle.disk_anode.specs.Node.{node_in}
use Rattle.disk_anode.specs.declared.fault.NodeFault.{NodeFault}
use Rattle.disk_objects.specs.Objects.{page_for, anode_at, with_slot, with_anode, FitsContent, FitsObject, KeepsNow}
use Rattle.disk_objects.proofs.Keeping.{content_there, anode_there, keeps_content}
use Rattle.disk_fileset.specs.Giving.{LieIn, ArePatched, content_patched, is_long, IsLong}
use Rattle.disk_fileset.specs.Slots.{is_file, IsFile}
use Rattle.disk_fileset.proofs.Pieces.{length_pieces, patched_kept, nothing_patched}
use Rattle.disk_fileset.proofs.Twice.{anode_twice, anode_where, anode_here}

-- nothing changed
same_at : {X : Type 0} (xs : List X) (i : ℕ) → changed_at xs i (λ x. x) ≡ xs
same_at [] i = refl
same_at (x ∷ xs) zero = refl
same_at (x ∷ xs) (suc i) = ap (λ ys. x ∷ ys) (same_at xs i)

pub anode_same : (slots : ℕ → List Anode) (slot n : ℕ) (f : Anode → Anode) → f (anode_at (slots slot) n) ≡ anode_at (slots slot) n → with_anode slot n f slots ≡ slots
anode_same slots slot n f same =
    anode_where slots slot n f (λ a. a) same
    ∙ (λ i. with_slot slot (same_at (slots slot) (n - 1) i) slots)
    ∙ (λ i s. by s (cases_eq s slot) i)
  where
    by : (s : ℕ) → (s ≡ slot) ⊎ (s ≢ slot) → with_slot slot (slots slot) slots s ≡ slots s
    by s (inl e) = let on : (s == slot) ≡ true = grind (arith, nat_tests, e) in (λ i. if on i then slots slot else slots s) ∙ (λ i. slots (sym e i))
    by s (inr apart) = let off : (s == slot) ≡ false = grind (arith, nat_tests, apart) in λ i. if off i then slots slot else slots s

module _ (slots : ℕ → List Anode) (slot n : ℕ) (low : slot < 16) (some : 1 ≤ n) (few : n ≤ 64) (each : IfSome (anode_at (slots slot) n).object FitsObject) where
  -- a file, of which nothing is unsaved
  pub file_is : IsFile slot n slots → (owner : List ℕ) × (group : List ℕ) × (list : List AccessEntry) × (kept : List ℕ)
      × ((anode_at (slots slot) n).object ≡ Some (record { owner = owner; group = group; content = File list kept [] None })) × FitsContent (File list kept [] None)
  file_is file = let found = content_there (anode_at (slots slot) n) is_file file in by found.0 found.1 found.2 found.3 found.4
    where
      by : (owner group : List ℕ) (content : Content) → (anode_at (slots slot) n).object ≡ Some (record { owner = owner; group = group; content = content }) → is_file content ≡ true
          → (owner : List ℕ) × (group : List ℕ) × (list : List AccessEntry) × (kept : List ℕ)
          × ((anode_at (slots slot) n).object ≡ Some (record { owner = owner; group = group; content = File list kept [] None })) × FitsContent (File list kept [] None)
      by owner group (Dir entries lists) is file = absurd (grind (arith, file))
      by owner group (File list kept unsaved len) is file =
          let fits = (subst (λ (o : Option Object). IfSome o FitsObject) is each).content in
          let none : unsaved ≡ [] = fits.1 in
          let same : len ≡ None = fits.2 in
          (owner, group, list, kept, is ∙ (λ i. Some (record { owner = owner; group = group; content = File list kept (none i) (same i) })), (fits.0, refl, refl, fits.3))

  long_file : (size : ℕ) → IsLong slot n size slots → IsFile slot n slots
  long_file size long = by (anode_at (slots slot) n).object long
    where
      at : (content : Content) → is_long size content ≡ true → is_file content ≡ true
      at (Dir entries lists) is = is
      at (File list kept unsaved len) is = refl

      by : (o : Option Object) → option_map_or (λ (object : Object). is_long size object.content) o false ≡ true → option_map_or (λ (object : Object). is_file object.content) o false ≡ true
      by None is = is
      by (Some object) is = at object.content is

  -- and of so many bytes
  pub long_is : (size : ℕ) → IsLong slot n size slots → (owner : List ℕ) × (group : List ℕ) × (list : List AccessEntry) × (kept : List ℕ)
      × ((anode_at (slots slot) n).object ≡ Some (record { owner = owner; group = group; content = File list kept [] None })) × FitsContent (File list kept [] None) × (length kept ≡ size)
  long_is size long =
      let found = file_is (long_file size long) in
      let test : (length found.3 == size) ≡ true = (λ i. option_map_or (λ (object : Object). is_long size object.content) (sym found.4 i) false) ∙ long in
      (found.0, found.1, found.2, found.3, found.4, found.5, grind (arith, nat_tests, test))

  -- where no piece has a byte below the end
  pub nothing_turns : (pieces : List Piece) (size from to : ℕ) → IsLong slot n size slots → LieIn pieces from to size → to ≤ from → with_anode slot n (anode_changed (content_patched pieces)) slots ≡ slots
  nothing_turns pieces size from to long lie none =
      let found = long_is size long in
      let same = nothing_patched pieces found.3 from to (subst (λ (m : ℕ). LieIn pieces from to m) (sym found.6) lie) none in
      anode_same slots slot n (anode_changed (content_patched pieces)) (λ i. record {
        unique = (anode_at (slots slot) n).unique;
        object = ((λ j. option_map (content_changed (content_patched pieces)) (found.4 j)) ∙ (λ j. Some (record { owner = found.0; group = found.1; content = File found.2 (same j) [] None })) ∙ sym found.4) i;
      })

  -- a length, and then pieces
  pub given_turns : (pieces : List Piece) (given : Option ℕ) (size : ℕ) → IsFile slot n slots → size ≡ unwrap_or given 0
      → ((owner group : List ℕ) (list : List AccessEntry) (kept : List ℕ) → (anode_at (slots slot) n).object ≡ Some (record { owner = owner; group = group; content = File list kept [] None }) → length kept < size)
      → with_anode slot n (anode_changed (content_patched pieces)) (with_anode slot n (anode_changed (content_truncated size)) slots) ≡ with_anode slot n (anode_changed (content_given pieces given)) slots
  given_turns pieces given size file is longer =
      let found = file_is file in
      let less = longer found.0 found.1 found.2 found.3 found.4 in
      let most : size ≡ max (unwrap_or given 0) (length found.3) = omega (arith, is, less) in
      let whole = over_itself found.3 in
      anode_twice slots slot n (anode_changed (content_patched pieces)) (anode_changed (content_truncated size))
      ∙ anode_where slots slot n (λ a. anode_changed (content_patched pieces) (anode_changed (content_truncated size) a)) (anode_changed (content_given pieces given)) (λ i. record {
        unique = (anode_at (slots slot) n).unique;
        object = ((λ j. option_map (content_changed (content_patched pieces)) (option_map (content_changed (content_truncated size)) (found.4 j)))
            ∙ (λ j. Some (record { owner = found.0; group = found.1; content = File found.2 (put_pieces (resized (whole j) (most j)) pieces) [] None }))
            ∙ (λ j. option_map (content_changed (content_given pieces given)) (sym found.4 j))) i;
      })

  pub given_same : (pieces : List Piece) (given : Option ℕ) → IsFile slot n slots
      → ((owner group : List ℕ) (list : List AccessEntry) (kept : List ℕ) → (anode_at (slots slot) n).object ≡ Some (record { owner = owner; group = group; content = File list kept [] None }) → unwrap_or given 0 ≤ length kept)
      → with_anode slot n (anode_changed (content_patched pieces)) slots ≡ with_anode slot n (anode_changed (content_given pieces given)) slots
  given_same pieces given file shorter =
      let found = file_is file in
      let less = shorter found.0 found.1 found.2 found.3 found.4 in
      let most : length found.3 ≡ max (unwrap_or given 0) (length found.3) = omega (arith, less) in
      let whole = all_resized found.3 in
      anode_where slots slot n (anode_changed (content_patched pieces)) (anode_changed (content_given pieces given)) (λ i. record {
        unique = (anode_at (slots slot) n).unique;
        object = ((λ j. option_map (content_changed (content_patched pieces)) (found.4 j))
            ∙ (λ j. Some (record { owner = found.0; group = found.1; content = File found.2 (put_pieces (sym whole j) pieces) [] None }))
            ∙ (λ j. Some (record { owner = found.0; group = found.1; content = File found.2 (put_pieces (resized found.3 (most j)) pieces) [] None }))
            ∙ (λ j. option_map (content_changed (content_given pieces given)) (sym found.4 j))) i;
      })

  -- a file with a length has it
  pub long_truncated : (size : ℕ) → n ≤ length (slots slot) → IsFile slot n slots → IsLong slot n size (with_anode slot n (anode_changed (content_truncated size)) slots)
  long_truncated size there file =
      let found = file_is file in
      let e = length_resized (bytes_over found.3 [] 0 (length found.3)) size in
      let test : (length (resized (bytes_over found.3 [] 0 (length found.3)) size) == size) ≡ true = grind (arith, nat_tests, e) in
      (λ i. option_map_or (λ (object : Object). is_long size object.content) (anode_here slots slot n (anode_changed (content_truncated size)) some there i).object false)
      ∙ (λ i. option_map_or (λ (object : Object). is_long size object.content) (option_map (content_changed (content_truncated size)) (found.4 i)) false)
      ∙ test

  pub long_here : (size : ℕ) → IsFile slot n slots
      → ((owner group : List ℕ) (list : List AccessEntry) (kept : List ℕ) → (anode_at (slots slot) n).object ≡ Some (record { owner = owner; group = group; content = File list kept [] None }) → length kept ≤ 65536 → length kept ≡ size)
      → IsLong slot n size slots
  long_here size file same =
      let found = file_is file in
      let fits = found.5 in
      let e = same found.0 found.1 found.2 found.3 found.4 fits.0 in
      let test : (length found.3 == size) ≡ true = grind (arith, nat_tests, e) in
      (λ i. option_map_or (λ (object : Object). is_long size object.content) (found.4 i) false) ∙ test

-- the length of a file that is kept
pub length_there : (slots : ℕ → List Anode) (slot n : ℕ) → slot < 16 → 1 ≤ n → n ≤ 64 → (page : ℕ) → page ≡ page_for slot n → (state : State) (image : List ℕ) → KeepsNow slots state image
    → (owner group : List ℕ) (list : List AccessEntry) (kept : List ℕ) → (anode_at (slots slot) n).object ≡ Some (record { owner = owner; group = group; content = File list kept [] None })
    → (anode_in state image page).length ≡ length kept
length_there slots slot n low some few page at state image keeps owner group list kept is =
    λ i. (anode_there slots slot n low some few page at (λ content. content) state state image image refl keeps _ is i).length

-- pieces that were written over a file
pub patch_turns : (slots : ℕ → List Anode) (slot n : ℕ) (low : slot < 16) (some : 1 ≤ n) (few : n ≤ 64) (page : ℕ) (at : page ≡ page_for slot n)
    (old new : State) (before after : List ℕ) (rest : new ≡ record old { puts = new.puts }) (keeps : KeepsNow slots old before)
    (result : Result (Unit {0}) NodeFault) (pieces : List Piece) (from to size : ℕ) (bytes : List ℕ) → IsLong slot n size slots → LieIn pieces from to size → to ≤ size → from < to
    → ArePatched pieces from to (anode_in old before page).content bytes → WritesLoose (own_names old before (node_in old before page)) old before before after
    → OnOk result (Changed page (written from bytes) old before new after) → OnOk result (KeepsNow (with_anode slot n (anode_changed (content_patched pieces)) slots) new after)
patch_turns slots slot n low some few page at old new before after rest keeps result pieces from to size bytes long lie within behind patched writes changed =
    let found = long_is slots slot n low some few ((keeps.each slot low).each n some few) size long in
    let full = found.6 in
    let fits = found.5 in
    let there = anode_there slots slot n low some few page at (content_patched pieces) old new before after rest keeps _ found.4 in
    let longer = length_pieces found.3 pieces in
    on_ok_weaker result (λ (c : Changed page (written from bytes) old before new after).
    keeps_content slots slot n low some few page at (content_patched pieces) old new before after rest keeps _ found.4 (written from bytes) c writes
    (patched_kept (anode_at (slots slot) n).unique found.0 found.1 found.2 found.3 patched.base bytes from to pieces
    (subst (λ (m : ℕ). LieIn pieces from to m) (sym full) lie) behind (omega (arith, within, full)) patched.size
    (λ k lt. patched.same k lt ∙ (λ i. (there i).content (from + k))) patched.over)
    (let most = fits.0 in omega (arith, longer, most), refl, refl, fits.3))
    changed

-- what was read, after a call that only reads
pub patched_after : (pieces : List Piece) (from to page : ℕ) (old new : State) (before after bytes bytes_2 : List ℕ) → new ≡ old → after ≡ before → bytes_2 ≡ bytes
    → ArePatched pieces from to (anode_in old before page).content bytes → ArePatched pieces from to (anode_in new after page).content bytes_2
patched_after pieces from to page old new before after bytes bytes_2 same quiet is patched = record {
  base = patched.base;
  size = patched.size;
  same = λ k lt. patched.same k lt ∙ (λ i. (anode_in (sym same i) (sym quiet i) page).content (from + k));
  over = is ∙ patched.over;
}
