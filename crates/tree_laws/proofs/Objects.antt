-- What rows of one fileset leave of its objects, part by part.
use Rattle.std.proofs.Common.{◌≡◌, ◌≢◌, ◌≤◌, ℕ, ◌==◌, Bool, true, false, ◌&&◌, ◌||◌, cond, List, length, Option, Some, None, Result, Ok, Err, refl, sym, ap, ◌∙◌, subst, inl, inr, rules}
use Rattle.std.specs.Prelude.{if◌then◌else◌}
use Rattle.std.specs.Option.{option_map}
use Rattle.std.proofs.lemmas.Bool.Decides.{eqb_tells}
use Rattle.base_types.specs.declared.ids.Fid.{Fid}
use Rattle.tree_calls.specs.declared.part.DirEntry.{DirEntry}
use Rattle.tree_calls.specs.declared.reply.Refusal.{Refusal}
use Rattle.tree_objects.specs.declared.content.Content.{Content}
use Rattle.tree_objects.specs.declared.content.Object.{Object}
use Rattle.tree_objects.specs.Changes.{content_changed, anode_changed, anode_freed}
use Rattle.tree_objects.specs.Entries.{content_with_entry, content_without_entry}
use Rattle.tree_objects.specs.Objects.{is_dir}
use Rattle.tree_filesets.specs.declared.fileset.Fileset.{Fileset}
use Rattle.tree_filesets.specs.Answers.{answered}
use Rattle.tree_filesets.specs.Creation.{occupied}
use Rattle.tree_filesets.specs.Updates.{updated, changed}
use Rattle.tree_filesets.specs.Walk.{object_at, unique_at}
use Rattle.tree_filesets.proofs.Observations.{object_not_zero, object_changed_here, object_updated_other, object_freed_here, object_occupied_here, unique_occupied_here, unique_changed, unique_updated_same, unique_updated_other}
use Rattle.tree_laws.specs.Parts.{Part, Nature, settled, cell_of, no_cell, cell_found, object_in}
use Rattle.tree_laws.specs.Parts.Part.{ByteAt, Size, Traits, Entries}
use Rattle.tree_laws.specs.Fates.{Fate, Cells, after_fate, names_use, if_reached, no_values, new_values, create_fate, remove_fate, rename_fate}
use Rattle.tree_laws.specs.Fates.Fate.{Stays, Turns, Becomes}
use Rattle.tree_laws.proofs.Contents.{turned_parts}

-- the object at anode 0
pub nothing_at_zero : (fileset : Fileset) (fid : Fid) → fid.anode ≡ 0 → object_in fileset fid ≡ None
nothing_at_zero fileset fid z =
    let none : object_at fileset.anodes fid.anode ≡ None = ap (λ n. object_at fileset.anodes n) z in
    ap (λ o. cond (unique_at fileset.anodes fid.anode == fid.unique) o None) none ∙ either_none (unique_at fileset.anodes fid.anode == fid.unique)
  where
    either_none : (b : Bool) → ◌≡◌ {A = Option Object} (cond b None None) None
    either_none true = refl
    either_none false = refl

-- a fid that names the present use of an anode names what stands there
pub use_named : (fileset : Fileset) (anode : ℕ) (fid : Fid) → names_use fileset anode fid ≡ true → object_in fileset fid ≡ object_at fileset.anodes anode
use_named fileset anode fid h =
    elim (eqb_tells anode fid.anode) as (λ _. object_in fileset fid ≡ object_at fileset.anodes anode) [
      | inl (e, k) ↦
          let is_it : (unique_at fileset.anodes anode == fid.unique) ≡ true = subst (λ t. (t && (unique_at fileset.anodes anode == fid.unique)) ≡ true) e h in
          let its : (unique_at fileset.anodes fid.anode == fid.unique) ≡ true = subst (λ n. (unique_at fileset.anodes n == fid.unique) ≡ true) k is_it in
          ap (λ t. cond t (object_at fileset.anodes fid.anode) None) its ∙ ap (λ n. object_at fileset.anodes n) (sym k)
      | inr (e, k) ↦ let wrong : false ≡ true = subst (λ t. (t && (unique_at fileset.anodes anode == fid.unique)) ≡ true) e h in absurd (search (rules, wrong))
    ]

map_choice : (b : Bool) (f : Object → Object) (o : Option Object) → cond b (option_map f o) None ≡ option_map f (cond b o None)
map_choice true f o = refl
map_choice false f o = refl

choice_none : (b : Bool) (f : Object → Object) (o : Option Object) → option_map f (cond b o None) ≡ cond b (option_map f (cond b o None)) (cond b o None)
choice_none true f o = refl
choice_none false f o = refl

-- the object that a fid names, where the content at an anode changed
pub use_changed : (fileset : Fileset) (anode : ℕ) (change : Content → Content) (fid : Fid) → anode ≢ 0 →
    object_in (changed fileset anode change) fid ≡ (if names_use fileset anode fid then option_map (content_changed change) (object_in fileset fid) else object_in fileset fid)
use_changed fileset anode change fid z =
    let is_it = unique_at fileset.anodes fid.anode == fid.unique in
    ap (λ u. cond (u == fid.unique) (object_at (changed fileset anode change).anodes fid.anode) None) (unique_changed fileset anode change fid.anode)
    ∙ elim (eqb_tells anode fid.anode) as (λ _. cond is_it (object_at (changed fileset anode change).anodes fid.anode) None
    ≡ (if names_use fileset anode fid then option_map (content_changed change) (object_in fileset fid) else object_in fileset fid)) [
      | inl (e, k) ↦
          let P : ℕ → Type 0 = λ n. object_at (changed fileset anode change).anodes n ≡ option_map (content_changed change) (object_at fileset.anodes n) in
          let here : object_at (changed fileset anode change).anodes fid.anode ≡ option_map (content_changed change) (object_at fileset.anodes fid.anode) = subst P k (object_changed_here fileset anode change z) in
          let names : names_use fileset anode fid ≡ is_it = ap (λ t. t && (unique_at fileset.anodes anode == fid.unique)) e ∙ ap (λ n. unique_at fileset.anodes n == fid.unique) k in
          ap (λ o. cond is_it o None) here ∙ map_choice is_it (content_changed change) (object_at fileset.anodes fid.anode)
          ∙ choice_none is_it (content_changed change) (object_at fileset.anodes fid.anode)
          ∙ ap (λ t. cond t (option_map (content_changed change) (object_in fileset fid)) (object_in fileset fid)) (sym names)
      | inr (e, k) ↦
          let apart : fid.anode ≢ anode = λ same. k (sym same) in
          let names : names_use fileset anode fid ≡ false = ap (λ t. t && (unique_at fileset.anodes anode == fid.unique)) e in
          ap (λ o. cond is_it o None) (object_updated_other fileset anode (anode_changed change) fid.anode z apart)
          ∙ ap (λ t. cond t (option_map (content_changed change) (object_in fileset fid)) (object_in fileset fid)) (sym names)
    ]

-- whether a fid names a use is the same after a change of content
pub names_changed : (fileset : Fileset) (anode : ℕ) (change : Content → Content) (at : ℕ) (fid : Fid) → names_use (changed fileset anode change) at fid ≡ names_use fileset at fid
names_changed fileset anode change at fid = ap (λ u. (at == fid.anode) && (u == fid.unique)) (unique_changed fileset anode change at)

-- where an object is put at an anode
pub use_occupied : (fileset : Fileset) (anode unique : ℕ) (object : Object) (fid : Fid) → anode ≢ 0 → anode ≤ length fileset.anodes →
    object_in (updated fileset anode (occupied unique object)) fid
    ≡ (if anode == fid.anode then (if unique == fid.unique then Some object else None) else object_in fileset fid)
use_occupied fileset anode unique object fid z within =
    let new = updated fileset anode (occupied unique object) in
    elim (eqb_tells anode fid.anode) as (λ _. object_in new fid ≡ (if anode == fid.anode then (if unique == fid.unique then Some object else None) else object_in fileset fid)) [
      | inl (e, k) ↦
          let P : ℕ → Type 0 = λ n. object_at new.anodes n ≡ Some object in
          let Q : ℕ → Type 0 = λ n. unique_at new.anodes n ≡ unique in
          rw e (ap (λ u. cond (u == fid.unique) (object_at new.anodes fid.anode) None) (subst Q k (unique_occupied_here fileset anode unique object z within))
          ∙ ap (λ o. cond (unique == fid.unique) o None) (subst P k (object_occupied_here fileset anode unique object z within)))
      | inr (e, k) ↦
          let apart : fid.anode ≢ anode = λ same. k (sym same) in
          rw e (elim (eqb_tells fid.anode 0) as (λ _. object_in new fid ≡ object_in fileset fid) [
            | inl (f, none) ↦ nothing_at_zero new fid none ∙ sym (nothing_at_zero fileset fid none)
            | inr (f, some) ↦
                ap (λ u. cond (u == fid.unique) (object_at new.anodes fid.anode) None) (unique_updated_other fileset anode (occupied unique object) fid.anode z some apart)
                ∙ ap (λ o. cond (unique_at fileset.anodes fid.anode == fid.unique) o None) (object_updated_other fileset anode (occupied unique object) fid.anode z apart)
          ])
    ]

-- where the object at an anode goes
pub use_freed : (fileset : Fileset) (anode : ℕ) (fid : Fid) → anode ≢ 0 → object_in (updated fileset anode anode_freed) fid ≡ (if anode == fid.anode then None else object_in fileset fid)
use_freed fileset anode fid z =
    let new = updated fileset anode anode_freed in
    let is_it = unique_at fileset.anodes fid.anode == fid.unique in
    ap (λ u. cond (u == fid.unique) (object_at new.anodes fid.anode) None) (unique_updated_same fileset anode anode_freed fid.anode (λ a. refl))
    ∙ elim (eqb_tells anode fid.anode) as (λ _. cond is_it (object_at new.anodes fid.anode) None ≡ (if anode == fid.anode then None else object_in fileset fid)) [
      | inl (e, k) ↦
          let P : ℕ → Type 0 = λ n. object_at new.anodes n ≡ None in
          rw e (ap (λ o. cond is_it o None) (subst P k (object_freed_here fileset anode z)) ∙ either_none is_it)
      | inr (e, k) ↦ let apart : fid.anode ≢ anode = λ same. k (sym same) in rw e (ap (λ o. cond is_it o None) (object_updated_other fileset anode anode_freed fid.anode z apart))
    ]
  where
    either_none : (b : Bool) → ◌≡◌ {A = Option Object} (cond b None None) None
    either_none true = refl
    either_none false = refl

-- the parts of the object that a fid names
abbrev pub parts_in : Fileset → Fid → Cells
parts_in fileset fid part = cell_found fileset.read_only (object_in fileset fid) part

-- a change at an anode, where an object is
pub changed_parts : (fileset : Fileset) (anode : ℕ) (change : Content → Content) (becomes : Fate) (object : Object) (fid : Fid) (part : Part) → object_at fileset.anodes anode ≡ Some object →
    ((part : Part) → cell_of fileset.read_only (content_changed change object) part ≡ after_fate becomes (λ part. cell_of fileset.read_only object part) part) →
    cell_found fileset.read_only (object_in (changed fileset anode change) fid) part ≡ after_fate (if names_use fileset anode fid then becomes else Stays) (parts_in fileset fid) part
changed_parts fileset anode change becomes object fid part there same =
    ap (λ o. cell_found fileset.read_only o part) (use_changed fileset anode change fid (object_not_zero fileset.anodes anode object there))
    ∙ elim (names_use fileset anode fid) as (λ t. names_use fileset anode fid ≡ t → cell_found fileset.read_only (if t then option_map (content_changed change) (object_in fileset fid) else object_in fileset fid) part ≡ after_fate (if t then becomes else Stays) (parts_in fileset fid) part) [
      | true ↦ λ e.
          let its : object_in fileset fid ≡ Some object = use_named fileset anode fid e ∙ there in
          ap (λ o. cell_found fileset.read_only (option_map (content_changed change) o) part) its ∙ same part ∙ ap (λ o. after_fate becomes (λ part. cell_found fileset.read_only o part) part) (sym its)
      | false ↦ λ e. refl
    ] refl

-- a row that changes one content
pub row_parts : (fileset : Fileset) (change : Content → Content) (becomes : Fate) (fid : Fid) (part : Part) (checks : Result ℕ Refusal) →
    ((anode : ℕ) → checks ≡ Ok anode → (object : Object) × (object_at fileset.anodes anode ≡ Some object) × ((part : Part) → cell_of fileset.read_only (content_changed change object) part ≡ after_fate becomes (λ part. cell_of fileset.read_only object part) part)) →
    cell_found fileset.read_only (object_in (answered fileset checks (λ anode. changed fileset anode change)).fileset fid) part ≡ after_fate (if_reached fileset fid becomes checks) (parts_in fileset fid) part
row_parts fileset change becomes fid part (Ok anode) reached = let (object, there, same) = reached anode refl in changed_parts fileset anode change becomes object fid part there same
row_parts fileset change becomes fid part (Err refusal) reached = refl

-- an object comes at an anode
becomes_new : (read_only : Bool) (nature : Nature) (object : Object) (b : Bool) → ((part : Part) → cell_of read_only object part ≡ settled (new_values nature part)) → (part : Part) →
    cell_found read_only (Some object) part ≡ settled (new_values nature part)
becomes_new read_only nature object b same part = same part

no_part : (part : Part) → no_cell part ≡ settled (no_values part)
no_part (ByteAt at) = refl
no_part Size = refl
no_part Traits = refl
no_part Entries = refl

-- what a new object, put where none was, and its entry, leave
pub created_parts : (fileset : Fileset) (parent : ℕ) (directory : Object) (entry : DirEntry) (new : Object) (nature : Nature) (fid : Fid) (part : Part) →
    object_at fileset.anodes parent ≡ Some directory → is_dir directory.content ≡ true → object_at fileset.anodes entry.anode ≡ None → entry.anode ≢ 0 → entry.anode ≤ length fileset.anodes →
    ((part : Part) → cell_of fileset.read_only new part ≡ settled (new_values nature part)) → length (changed fileset parent (content_with_entry entry)).anodes ≡ length fileset.anodes →
    cell_found fileset.read_only (object_in (updated (changed fileset parent (content_with_entry entry)) entry.anode (occupied entry.unique new)) fid) part
    ≡ after_fate (create_fate fileset fid (Ok (parent, entry, nature))) (parts_in fileset fid) part
created_parts fileset parent directory entry new nature fid part there dir vacant place within same long =
    let mid = changed fileset parent (content_with_entry entry) in
    ap (λ o. cell_found fileset.read_only o part) (use_occupied mid entry.anode entry.unique new fid place (subst (λ n. entry.anode ≤ n) (sym long) within))
    ∙ elim (eqb_tells entry.anode fid.anode) as (λ _. cell_found fileset.read_only (if entry.anode == fid.anode then (if entry.unique == fid.unique then Some new else None) else object_in mid fid) part
    ≡ after_fate (create_fate fileset fid (Ok (parent, entry, nature))) (parts_in fileset fid) part) [
      | inl (e, k) ↦
          let apart : (parent == fid.anode) ≡ false = parent_apart k in
          let gone : object_in fileset fid ≡ None = no_object k in
          rw (e, apart) (by_unique (entry.unique == fid.unique) gone)
      | inr (e, k) ↦ rw e (changed_parts fileset parent (content_with_entry entry) (Turns (Some entry) None) directory fid part there
          (λ part. turned_parts fileset.read_only directory.owner directory.group (Some entry) None directory.content part dir))
    ]
  where
    parent_apart : entry.anode ≡ fid.anode → (parent == fid.anode) ≡ false
    parent_apart k =
        elim (eqb_tells parent fid.anode) as (λ _. (parent == fid.anode) ≡ false) [
          | inl (e, l) ↦
              let P : ℕ → Type 0 = λ n. object_at fileset.anodes n ≡ None in
              let wrong : None ≡ Some directory = sym (subst P (k ∙ sym l) vacant) ∙ there in absurd (search (rules, wrong))
          | inr (e, l) ↦ e
        ]

    no_object : entry.anode ≡ fid.anode → object_in fileset fid ≡ None
    no_object k =
        let P : ℕ → Type 0 = λ n. object_at fileset.anodes n ≡ None in
        ap (λ o. cond (unique_at fileset.anodes fid.anode == fid.unique) o None) (subst P k vacant) ∙ either_none (unique_at fileset.anodes fid.anode == fid.unique)
      where
        either_none : (b : Bool) → ◌≡◌ {A = Option Object} (cond b None None) None
        either_none true = refl
        either_none false = refl

    by_unique : (b : Bool) → object_in fileset fid ≡ None → cell_found fileset.read_only (if b then Some new else None) part ≡ after_fate (if b then Becomes (new_values nature) else Stays) (parts_in fileset fid) part
    by_unique true gone = same part
    by_unique false gone = sym (ap (λ o. cell_found fileset.read_only o part) gone)

-- what the end of an object and its entry leave
pub removed_parts : (fileset : Fileset) (parent : ℕ) (directory : Object) (name : List ℕ) (anode : ℕ) (fid : Fid) (part : Part) →
    object_at fileset.anodes parent ≡ Some directory → is_dir directory.content ≡ true → anode ≢ 0 →
    cell_found fileset.read_only (object_in (updated (changed fileset parent (content_without_entry name)) anode anode_freed) fid) part
    ≡ after_fate (remove_fate fileset fid (Ok (parent, name, anode))) (parts_in fileset fid) part
removed_parts fileset parent directory name anode fid part there dir place =
    let mid = changed fileset parent (content_without_entry name) in
    ap (λ o. cell_found fileset.read_only o part) (use_freed mid anode fid place)
    ∙ elim (eqb_tells anode fid.anode) as (λ _. cell_found fileset.read_only (if anode == fid.anode then None else object_in mid fid) part ≡ after_fate (remove_fate fileset fid (Ok (parent, name, anode))) (parts_in fileset fid) part) [
      | inl (e, k) ↦ rw e (by_unique (unique_at fileset.anodes anode == fid.unique) refl k)
      | inr (e, k) ↦ rw e (changed_parts fileset parent (content_without_entry name) (Turns None (Some name)) directory fid part there
          (λ part. turned_parts fileset.read_only directory.owner directory.group None (Some name) directory.content part dir))
    ]
  where
    other_use : anode ≡ fid.anode → (unique_at fileset.anodes anode == fid.unique) ≡ false → names_use fileset parent fid ≡ false
    other_use k u =
        elim (eqb_tells parent fid.anode) as (λ _. names_use fileset parent fid ≡ false) [
          | inl (e, l) ↦ ap (λ t. t && (unique_at fileset.anodes parent == fid.unique)) e ∙ ap (λ n. unique_at fileset.anodes n == fid.unique) (l ∙ sym k) ∙ u
          | inr (e, l) ↦ ap (λ t. t && (unique_at fileset.anodes parent == fid.unique)) e
        ]

    gone : anode ≡ fid.anode → (unique_at fileset.anodes anode == fid.unique) ≡ false → object_in fileset fid ≡ None
    gone k u = ap (λ t. cond t (object_at fileset.anodes fid.anode) None) (ap (λ n. unique_at fileset.anodes n == fid.unique) (sym k) ∙ u)

    by_unique : (b : Bool) → (unique_at fileset.anodes anode == fid.unique) ≡ b → anode ≡ fid.anode →
        no_cell part ≡ after_fate (if b then Becomes no_values else if names_use fileset parent fid then Turns None (Some name) else Stays) (parts_in fileset fid) part
    by_unique true u k = no_part part
    by_unique false u k = rw (other_use k u) (sym (ap (λ o. cell_found fileset.read_only o part) (gone k u)))

-- what an entry that moves leaves
pub moved_parts : (fileset : Fileset) (to from : ℕ) (into out : Object) (entry : DirEntry) (name : List ℕ) (fid : Fid) (part : Part) →
    object_at fileset.anodes to ≡ Some into → is_dir into.content ≡ true → object_at fileset.anodes from ≡ Some out → is_dir out.content ≡ true →
    cell_found fileset.read_only (object_in (changed (changed fileset to (content_with_entry entry)) from (content_without_entry name)) fid) part
    ≡ after_fate (rename_fate fileset fid (Ok (to, entry, from, name))) (parts_in fileset fid) part
moved_parts fileset to from into out entry name fid part into_there into_dir out_there out_dir =
    let mid = changed fileset to (content_with_entry entry) in
    let leaves = content_changed (content_without_entry name) in
    ap (λ o. cell_found fileset.read_only o part)
    (use_changed mid from (content_without_entry name) fid (object_not_zero fileset.anodes from out out_there)
    ∙ ap (λ t. if t then option_map leaves (object_in mid fid) else object_in mid fid) (names_changed fileset to (content_with_entry entry) from fid)
    ∙ ap (λ o. if names_use fileset from fid then option_map leaves o else o) (use_changed fileset to (content_with_entry entry) fid (object_not_zero fileset.anodes to into into_there)))
    ∙ by_tests (names_use fileset to fid) (names_use fileset from fid) refl refl
  where
    by_tests : (t f : Bool) → names_use fileset to fid ≡ t → names_use fileset from fid ≡ f →
        cell_found fileset.read_only
        (if f then option_map (content_changed (content_without_entry name)) (if t then option_map (content_changed (content_with_entry entry)) (object_in fileset fid) else object_in fileset fid)
        else (if t then option_map (content_changed (content_with_entry entry)) (object_in fileset fid) else object_in fileset fid)) part
        ≡ after_fate (if t || f then Turns (if t then Some entry else None) (if f then Some name else None) else Stays) (parts_in fileset fid) part
    by_tests true true e g =
        let its : object_in fileset fid ≡ Some into = use_named fileset to fid e ∙ into_there in
        ap (λ o. cell_found fileset.read_only (option_map (content_changed (content_without_entry name)) (option_map (content_changed (content_with_entry entry)) o)) part) its
        ∙ turned_parts fileset.read_only into.owner into.group (Some entry) (Some name) into.content part into_dir
        ∙ ap (λ o. after_fate (Turns (Some entry) (Some name)) (λ part. cell_found fileset.read_only o part) part) (sym its)
    by_tests true false e g =
        let its : object_in fileset fid ≡ Some into = use_named fileset to fid e ∙ into_there in
        ap (λ o. cell_found fileset.read_only (option_map (content_changed (content_with_entry entry)) o) part) its
        ∙ turned_parts fileset.read_only into.owner into.group (Some entry) None into.content part into_dir
        ∙ ap (λ o. after_fate (Turns (Some entry) None) (λ part. cell_found fileset.read_only o part) part) (sym its)
    by_tests false true e g =
        let its : object_in fileset fid ≡ Some out = use_named fileset from fid g ∙ out_there in
        ap (λ o. cell_found fileset.read_only (option_map (content_changed (content_without_entry name)) o) part) its
        ∙ turned_parts fileset.read_only out.owner out.group None (Some name) out.content part out_dir
        ∙ ap (λ o. after_fate (Turns None (Some name)) (λ part. cell_found fileset.read_only o part) part) (sym its)
    by_tests false false e g = refl
