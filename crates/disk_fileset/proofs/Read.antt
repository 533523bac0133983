-- What a slot keeps, as it is read.
use Rattle.std.proofs.Common.{◌≡◌, ◌<◌, ◌≤◌, ℕ, zero, suc, ◌+◌, ◌-◌, List, [], ◌∷◌, ◌++◌, length, take, drop, get_or, refl, sym, ◌∙◌, subst, arith, zero-add}
use Rattle.std.specs.Prelude.{Bool, true, false, ◌==◌, if◌then◌else◌, nat_lt, min, Option, Some, None, IfSome, Result, Ok, Err, slice_get, unwrap_or}
use Rattle.std.specs.Option.{option_map_or}
use Rattle.std.proofs.lemmas.Bool.Decides.{nat_tests}
use Rattle.std.proofs.lemmas.List.{take_more, take_all, ext_get_or, length-drop, length-take-le}
use Rattle.std.proofs.lemmas.Option.{slice_get-get_or, unwrap_or-slice_get}
use Rattle.base_types.specs.Image.{bytes_from}
use Rattle.base_types.specs.View.{View}
use Rattle.base_types.specs.declared.access.AccessEntry.{AccessEntry}
use Rattle.tree_calls.specs.declared.part.DirEntry.{DirEntry}
use Rattle.base_outside.proofs.Runs.{quiet_then}
use Rattle.tree_filesets.specs.Founding.{unused_anode}
use Rattle.tree_filesets.specs.Laws.{lists_in}
use Rattle.tree_objects.specs.declared.content.Anode.{Anode}
use Rattle.tree_objects.specs.declared.content.Content.{Content}
use Rattle.tree_objects.specs.declared.content.Content.TheVariants.{Dir, File}
use Rattle.tree_objects.specs.declared.content.Object.{Object}
use Rattle.tree_objects.specs.Objects.{is_dir}
use Rattle.disk_log.specs.Log.{disk_of, IsSoundLog}
use Rattle.disk_layout.proofs.Words.{piece_bytes}
use Rattle.disk_log.specs.Puts.{page_of}
use Rattle.disk_log.specs.State.{State}
use Rattle.disk_log.specs.declared.log.Log.{Log}
use Rattle.disk_log.proofs.Mounting.{quiet_none}
use Rattle.disk_anode.specs.Anode.{Anode as Stored, anode_in, text_at}
use Rattle.disk_anode.specs.declared.fault.NodeFault.{NodeFault}
use Rattle.disk_anode.specs.declared.fault.NodeFault.TheVariants.{Memory}
use Rattle.disk_lists.specs.Lists.{list_bytes, HoldsList}
use Rattle.disk_lists.specs.Entries.{IsDirectory}
use Rattle.disk_objects.specs.Holds.{no_anode}
use Rattle.disk_objects.specs.Objects.{bytes_kept, object_kept, kept_of, page_for, anode_at, FitsList, EachList, FitsContent, FitsObject, AreKept, KeepsNow}
use Rattle.disk_objects.proofs.Contents.{directory_kept}
use Rattle.disk_objects.proofs.Keeping.{in_page}
use Rattle.disk_fileset.specs.Slots.{Keeps}
use Rattle.disk_fileset.specs.Reading.{Looks}
use Rattle.disk_fileset.proofs.Changing.{blame_result}
use Rattle.disk_fileset.proofs.Looking.{look_held}

module _ {D : Type 0} (tells : Type 0) (view : D → View) where
  -- nothing was read yet
  pub looks_none : {T : Type 0} (value : T) (log : Log D) → IsSoundLog tells view log → Looks tells view (Ok value) log log
  looks_none value log sound = record { sound = sound; state = refl; quiet = quiet_none (view (disk_of log)); counted = omega arith; only = tt }

  -- one reading after another
  pub looks_then : {T U : Type 0} (value : T) (result : Result U NodeFault) (old mid new : Log D) → Looks tells view (Ok value) old mid → Looks tells view result mid new → Looks tells view result old new
  looks_then value result old mid new one two = record {
    sound = two.sound;
    state = two.state ∙ one.state;
    quiet = quiet_then one.quiet two.quiet;
    counted = (let e = one.counted in let f = two.counted in omega (arith, e, f));
    only = blame_result result (view (disk_of old)) (view (disk_of mid)) (view (disk_of new)) one.counted two.only;
  }

  -- one that answers something else
  pub looks_value : {T U : Type 0} (value : T) (other : U) (old new : Log D) → Looks tells view (Ok value) old new → Looks tells view (Ok other) old new
  looks_value value other old new one = record { sound = one.sound; state = one.state; quiet = one.quiet; counted = one.counted; only = tt }

  -- and one that failed
  pub looks_failed : {T U : Type 0} (fault : NodeFault) (result : Result U NodeFault) (old new : Log D) → result ≡ Err fault → Looks {T = T} tells view (Err fault) old new → Looks tells view result old new
  looks_failed {U = U} fault result old new is one =
      let failed : Looks {T = U} tells view (Err fault) old new = record { sound = one.sound; state = one.state; quiet = one.quiet; counted = one.counted; only = one.only } in
      subst (λ (r : Result U NodeFault). Looks tells view r old new) (sym is) failed

  pub looks_memory : {T U : Type 0} (value : T) (old new : Log D) → Looks tells view (Ok value) old new → Looks {T = U} tells view (Err Memory) old new
  looks_memory value old new one = record { sound = one.sound; state = one.state; quiet = one.quiet; counted = one.counted; only = tt }

  -- what is kept is kept then
  pub keeps_still : {T : Type 0} (result : Result T NodeFault) (old new : Log D) (slots : ℕ → List Anode) → Looks tells view result old new → Keeps view slots old → Keeps view slots new
  keeps_still result old new slots looks keeps = look_held tells view old new looks.state looks.quiet KeepsNow slots keeps

-- a list of an object that can be kept
list_in_each : (lists : List (List AccessEntry)) (w : ℕ) (list : List AccessEntry) → EachList lists → slice_get lists w ≡ Some list → FitsList list
list_in_each [] w list each is = absurd (cc)
list_in_each (first ∷ lists) zero list each is = let e : first ≡ list = (cc) in subst (λ (l : List AccessEntry). FitsList l) e each.0
list_in_each (first ∷ lists) (suc w) list each is = list_in_each lists w list each.1 is

list_in_content : (content : Content) (w : ℕ) (list : List AccessEntry) → FitsContent content → slice_get (lists_in content) w ≡ Some list → FitsList list
list_in_content (Dir entries lists) w list fits is = list_in_each lists w list fits.4 is
list_in_content (File own kept unsaved len) w list fits is = list_in_each (own ∷ []) w list (fits.3, tt) is

-- one more of the lists of a directory
lists_are : (content : Content) → FitsContent content → is_dir content ≡ true → length (lists_in content) ≡ 3
lists_are (Dir entries lists) fits dir = fits.3
lists_are (File own kept unsaved len) fits dir = absurd (grind (arith, dir))

pub list_more : (content : Content) (made : List (List AccessEntry)) (w : ℕ) (list : List AccessEntry) → FitsContent content → is_dir content ≡ true → w < 3 → made ≡ take w (lists_in content)
    → ((entries : List AccessEntry) → slice_get (lists_in content) w ≡ Some entries → list ≡ entries) → made ++ list ∷ [] ≡ take (w + 1) (lists_in content)
list_more content made w list fits dir lt before is =
    let three = lists_are content fits dir in
    let there : w < length (lists_in content) = omega (arith, three, lt) in
    let same = is (get_or (lists_in content) w []) (slice_get-get_or (lists_in content) w [] there) in
    (λ i. before i ++ same i ∷ []) ∙ sym (take_more (lists_in content) w [] there)

pub lists_all : (content : Content) (made : List (List AccessEntry)) (w : ℕ) → FitsContent content → is_dir content ≡ true → 3 ≤ w → made ≡ take w (lists_in content) → made ≡ lists_in content
lists_all content made w fits dir le is = is ∙ take_all w (lists_in content) (let three = lists_are content fits dir in omega (arith, three, le))

-- and of the anodes of a slot
pub anode_more : (anodes made : List Anode) (i : ℕ) (anode : Anode) → AreKept anodes → i < 64 → made ≡ take i anodes → anode ≡ anode_at anodes (i + 1) → made ++ anode ∷ [] ≡ take (i + 1) anodes
anode_more anodes made i anode are lt before is =
    let full = are.count in
    let e : i + 1 - 1 ≡ i = omega arith in
    let same : anode ≡ get_or anodes i unused_anode = is ∙ (λ j. unwrap_or (slice_get anodes (e j)) unused_anode) ∙ unwrap_or-slice_get anodes i unused_anode in
    (λ j. before j ++ same j ∷ []) ∙ sym (take_more anodes i unused_anode (omega (arith, full, lt)))

-- the kind of an anode with an object
not_free : (dir : Bool) → ◌≡◌ {A = ℕ} (if dir then 1 else 2) 0 → ⊥
not_free true e = absurd (omega (arith, e))
not_free false e = absurd (omega (arith, e))

dir_kind : (dir : Bool) (kind : ℕ) → kind ≡ (if dir then 1 else 2) → dir ≡ (kind == 1)
dir_kind true kind e = let f : (kind == 1) ≡ true = grind (arith, nat_tests, e) in sym f
dir_kind false kind e = let f : (kind == 1) ≡ false = grind (arith, nat_tests, e) in sym f

-- a name behind its length
pub text_slice : (page : List ℕ) (at n m : ℕ) → at + n ≤ length page → m ≡ n → take m (drop at page) ≡ bytes_from page at n
text_slice page at n m le same =
    let size : length (take m (drop at page)) ≡ n = length-take-le m (drop at page) (let e = length-drop at page in omega (arith, e, le, same)) ∙ same in
    piece_bytes page (take m (drop at page)) at n m refl size (omega (arith, same))

-- a directory, and a file
pub dir_read : (content : Content) (found : List DirEntry) (lists : List (List AccessEntry)) → is_dir content ≡ true → lists ≡ lists_in content
    → ((entries : List DirEntry) (others : List (List AccessEntry)) → content ≡ Dir entries others → found ≡ entries) → Dir found lists ≡ content
dir_read (Dir entries others) found lists dir same is = (let e = is entries others refl in λ i. Dir (e i) (same i))
dir_read (File own kept unsaved len) found lists dir same is = absurd (grind (arith, dir))

pub file_read : (content : Content) (list : List AccessEntry) (kept : List ℕ) → is_dir content ≡ false → FitsContent content → kept ≡ bytes_kept content
    → ((entries : List AccessEntry) → slice_get (lists_in content) 0 ≡ Some entries → list ≡ entries) → File list kept [] None ≡ content
file_read (Dir entries lists) list kept file fits same is = absurd (grind (arith, file))
file_read (File own bytes unsaved len) list kept file fits same is =
    let none : unsaved ≡ [] = fits.1 in
    let still : len ≡ None = fits.2 in
    let e = is own refl in
    λ i. File (e i) (same i) (sym none i) (sym still i)

-- an object that is kept can be
pub fits_of : (slots : ℕ → List Anode) (slot n : ℕ) → slot < 16 → 1 ≤ n → n ≤ 64 → (state : State) (image : List ℕ) → KeepsNow slots state image
    → (object : Object) → (anode_at (slots slot) n).object ≡ Some object → FitsObject object
fits_of slots slot n low some few state image keeps object there = subst (λ (o : Option Object). IfSome o FitsObject) there ((keeps.each slot low).each n some few)

module _ (slots : ℕ → List Anode) (slot n : ℕ) (low : slot < 16) (some : 1 ≤ n) (few : n ≤ 64) (page : ℕ) (at : page ≡ page_for slot n) (state : State) (image : List ℕ) (keeps : KeepsNow slots state image) where
  -- the anode in its page
  pub anode_there : anode_in state image page ≡ kept_of (anode_at (slots slot) n)
  anode_there = (λ i. anode_in state image (at i)) ∙ in_page slots slot n low some few state image keeps.held

  -- and its object
  module _ (object : Object) (there : (anode_at (slots slot) n).object ≡ Some object) where
    pub object_there : anode_in state image page ≡ object_kept (anode_at (slots slot) n).unique object
    object_there = anode_there ∙ (λ i. option_map_or (object_kept (anode_at (slots slot) n).unique) (there i) (record no_anode { unique = (anode_at (slots slot) n).unique }))

    object_fits : FitsObject object
    object_fits = fits_of slots slot n low some few state image keeps object there

    pub list_held : (w : ℕ) (list : List AccessEntry) → slice_get (lists_in object.content) w ≡ Some list → HoldsList list ((anode_in state image page).lists w)
    list_held w list is =
        let fits = list_in_content object.content w list object_fits.content is in
        record {
          bytes = λ k lt. (let on : nat_lt k 1024 ≡ true = grind (arith, nat_tests, lt) in (λ i. (object_there i).lists w k) ∙ (λ i. if on i then get_or (option_map_or list_bytes (is i) []) k 0 else 0));
          list = fits.0;
          each = fits.1;
        }

    pub entries_held : (entries : List DirEntry) (lists : List (List AccessEntry)) → object.content ≡ Dir entries lists → IsDirectory entries (anode_in state image page)
    entries_held entries lists is =
        subst (λ (a : Stored). IsDirectory entries a)
        (sym (object_there ∙ (λ i. object_kept (anode_at (slots slot) n).unique (record { owner = object.owner; group = object.group; content = is i }))))
        (directory_kept (anode_at (slots slot) n).unique object.owner object.group entries lists (subst (λ (c : Content). FitsContent c) is object_fits.content))

    kind_there : (anode_in state image page).kind ≡ (if is_dir object.content then 1 else 2)
    kind_there = λ i. (object_there i).kind

    -- the bytes of a file
    pub bytes_held : is_dir object.content ≡ false → (length_is : ℕ) → length_is ≡ (anode_in state image page).length → (least : ℕ) → least ≡ min length_is 65536
        → (bytes : List ℕ) → length bytes ≡ least → ((k : ℕ) → k < length bytes → get_or bytes k 0 ≡ (anode_in state image page).content (0 + k)) → bytes ≡ bytes_kept object.content
    bytes_held file length_is number least is bytes size each = by object.content refl
      where
        by : (content : Content) → object.content ≡ content → bytes ≡ bytes_kept content
        by (Dir entries lists) e = absurd (let f : is_dir (Dir entries lists) ≡ false = (λ i. is_dir (sym e i)) ∙ file in grind (arith, f))
        by (File own kept unsaved len) e =
            let fits : FitsContent (File own kept unsaved len) = subst (λ (c : Content). FitsContent c) e object_fits.content in
            let le = fits.0 in
            let here = object_there ∙ (λ i. object_kept (anode_at (slots slot) n).unique (record { owner = object.owner; group = object.group; content = e i })) in
            let long : (anode_in state image page).length ≡ length kept = (λ i. (here i).length) in
            ext_get_or 0 bytes kept (omega (arith, size, is, number, long, le))
            (λ k lt. each k lt ∙ (λ i. (here i).content (zero-add k i)))

  -- an anode whose page says that it is free
  pub free_there : (head : List ℕ) → head ≡ page_of state.entries state.puts image page → get_or head 0 0 ≡ 0 → (anode_at (slots slot) n).object ≡ None
  free_there head is zeroth = by (anode_at (slots slot) n).object refl
    where
      by : (o : Option Object) → (anode_at (slots slot) n).object ≡ o → o ≡ None
      by None e = refl
      by (Some object) e = absurd (not_free (is_dir object.content) (sym (kind_there object e) ∙ (λ i. get_or (sym is i) 0 0) ∙ zeroth))

  -- and one that says that it has an object
  pub object_read : (head : List ℕ) → head ≡ page_of state.entries state.puts image page → (get_or head 0 0 ≡ 0 → ⊥) → (owner group : List ℕ) (content : Content)
      → owner ≡ text_at head 76 → group ≡ text_at head 137
      → ((object : Object) → (anode_at (slots slot) n).object ≡ Some object → is_dir object.content ≡ (get_or head 0 0 == 1) → content ≡ object.content)
      → Some (record { owner = owner; group = group; content = content }) ≡ (anode_at (slots slot) n).object
  object_read head is some_kind owner group content owner_is group_is content_is = by (anode_at (slots slot) n).object refl
    where
      by : (o : Option Object) → (anode_at (slots slot) n).object ≡ o → Some (record { owner = owner; group = group; content = content }) ≡ o
      by None e = absurd (some_kind ((λ i. get_or (is i) 0 0) ∙ (λ i. (anode_there i).kind) ∙ (λ i. (option_map_or (object_kept (anode_at (slots slot) n).unique) (e i) (record no_anode { unique = (anode_at (slots slot) n).unique })).kind)))
      by (Some object) e =
          let kind : get_or head 0 0 ≡ (if is_dir object.content then 1 else 2) = (λ i. get_or (is i) 0 0) ∙ kind_there object e in
          let same = content_is object e (dir_kind (is_dir object.content) (get_or head 0 0) kind) in
          let owner_too : owner ≡ object.owner = owner_is ∙ (λ i. text_at (is i) 76) ∙ (λ i. (object_there object e i).owner) in
          let group_too : group ≡ object.group = group_is ∙ (λ i. text_at (is i) 137) ∙ (λ i. (object_there object e i).group) in
          λ i. Some (record { owner = owner_too i; group = group_too i; content = same i })
