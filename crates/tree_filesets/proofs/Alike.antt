-- A fileset whose objects keep their entries stays well formed.
use Rattle.std.proofs.Common.{◌≡◌, ◌≢◌, ℕ, true, false, List, length, Option, Some, None, is_some, inl, inr, refl, sym, ◌∙◌, subst, rules}
use Rattle.std.specs.Option.{option_and_then, option_map_or}
use Rattle.std.proofs.lemmas.Bool.Decides.{eqb_tells}
use Rattle.tree_calls.specs.declared.part.DirEntry.{DirEntry}
use Rattle.tree_objects.specs.declared.content.Content.{Content}
use Rattle.tree_objects.specs.declared.content.Object.{Object}
use Rattle.tree_objects.specs.Objects.{is_dir}
use Rattle.tree_objects.specs.Sound.{is_sound}
use Rattle.tree_filesets.specs.declared.fileset.Fileset.{Fileset}
use Rattle.tree_filesets.specs.Updates.{changed}
use Rattle.tree_filesets.specs.Walk.{object_at, unique_at}
use Rattle.tree_filesets.specs.WellFormed.{entry_in, entry_at, IsWellFormed}
use Rattle.tree_filesets.proofs.Leads.{leads_more}
use Rattle.tree_filesets.proofs.Observations.{object_changed_to, object_updated_other, unique_changed, length_updated, objects_updated}

-- another content with the same entries
pub record HasSameEntries (old new : Content) : Type 0 where
  pub entries : (name : List ℕ) → entry_in new name ≡ entry_in old name
  pub kind : is_dir new ≡ is_dir old

-- the same entries, and still well formed, where there is something
abbrev pub IsAlike : Option Object → Option Object → Type 0
IsAlike None None = Unit {0}
IsAlike None (Some new) = ⊥
IsAlike (Some old) None = ⊥
IsAlike (Some old) (Some new) = HasSameEntries old.content new.content × (is_sound old.content ≡ true → is_sound new.content ≡ true)

pub record AreAlike (old new : Fileset) : Type 0 where
  pub count : length new.anodes ≡ length old.anodes
  pub objects : new.objects ≡ old.objects
  pub unique : (at : ℕ) → unique_at new.anodes at ≡ unique_at old.anodes at
  pub each : (at : ℕ) → IsAlike (object_at old.anodes at) (object_at new.anodes at)

same_entry : (old new : Option Object) (name : List ℕ) → IsAlike old new → option_and_then (λ object. entry_in object.content name) new ≡ option_and_then (λ object. entry_in object.content name) old
same_entry None None name h = refl
same_entry None (Some new) name h = absurd h
same_entry (Some old) None name h = absurd h
same_entry (Some old) (Some new) name h = h.0.entries name

pub same_there : (old new : Option Object) → IsAlike old new → is_some new ≡ is_some old
same_there None None h = refl
same_there None (Some new) h = absurd h
same_there (Some old) None h = absurd h
same_there (Some old) (Some new) h = refl

pub same_kind : (old new : Option Object) → IsAlike old new → option_map_or (λ object. is_dir object.content) new false ≡ option_map_or (λ object. is_dir object.content) old false
same_kind None None h = refl
same_kind None (Some new) h = absurd h
same_kind (Some old) None h = absurd h
same_kind (Some old) (Some new) h = h.0.kind

-- what was there before
before : (old new : Option Object) (object : Object) → IsAlike old new → new ≡ Some object → (was : Object) × (old ≡ Some was) × (is_sound was.content ≡ true → is_sound object.content ≡ true)
before None None object h e = absurd (search (rules, e))
before None (Some new) object h e = absurd h
before (Some old) None object h e = absurd h
before (Some old) (Some new) object h e =
    let same : new ≡ object = cc in
    let P : Object → Type 0 = λ o. is_sound old.content ≡ true → is_sound o.content ≡ true in
    (old, refl, subst P same h.1)

pub well_formed_alike : (old new : Fileset) → IsWellFormed old → AreAlike old new → IsWellFormed new
well_formed_alike old new w a =
    let entries : (at : ℕ) (name : List ℕ) → entry_at new.anodes at name ≡ entry_at old.anodes at name = λ at name. same_entry _ _ name (a.each at) in
    let is_old : (at : ℕ) (name : List ℕ) (entry : DirEntry) → entry_at new.anodes at name ≡ Some entry → entry_at old.anodes at name ≡ Some entry = λ at name entry h. sym (entries at name) ∙ h in
    record {
      count = a.count ∙ w.count ∙ sym a.objects;
      limit = rw a.objects w.limit;
      first = a.unique 1 ∙ w.first;
      root = same_kind _ _ (a.each 1) ∙ w.root;
      sound = λ at object h. let (was, e, keeps) = before _ _ object (a.each at) h in keeps (w.sound at was e);
      named = λ at name entry h. let used = w.named at name entry (is_old at name entry h) in (same_there _ _ (a.each entry.anode) ∙ used.0, a.unique entry.anode ∙ used.1);
      once = λ at other m n e f h k same. w.once at other m n e f (is_old at m e h) (is_old other n f k) same;
      rootless = λ at name entry h. w.rootless at name entry (is_old at name entry h);
      reached = λ at object h.
          let (was, e, keeps) = before _ _ object (a.each at) h in
          let (path, way) = w.reached at was e in
          (path, leads_more old.anodes new.anodes (λ b name entry k. entries b name ∙ k) path 1 at way);
    }

itself : (o : Option Object) → IsAlike o o
itself None = tt
itself (Some object) = (record { entries = λ name. refl; kind = refl }, λ h. h)

-- one content is changed, and keeps its entries
pub alike_changed : (fileset : Fileset) (anode : ℕ) (object : Object) (change : Content → Content) → object_at fileset.anodes anode ≡ Some object →
    anode ≢ 0 → HasSameEntries object.content (change object.content) → (is_sound object.content ≡ true → is_sound (change object.content) ≡ true) → AreAlike fileset (changed fileset anode change)
alike_changed fileset anode object change h z same keeps = record {
  count = length_updated fileset anode _;
  objects = objects_updated fileset anode _;
  unique = λ at. unique_changed fileset anode change at;
  each = λ at. elim (eqb_tells at anode) as (λ _. IsAlike (object_at fileset.anodes at) (object_at (changed fileset anode change).anodes at)) [
    | inl (e, k) ↦
        let P : ℕ → Type 0 = λ n. IsAlike (object_at fileset.anodes n) (object_at (changed fileset anode change).anodes n) in
        subst P (sym k) (rw (h, object_changed_to fileset anode change object h) (same, keeps))
    | inr (e, k) ↦ rw (object_updated_other fileset anode _ at z k) (itself (object_at fileset.anodes at))
  ];
}

pub well_formed_changed : (fileset : Fileset) (anode : ℕ) (object : Object) (change : Content → Content) → IsWellFormed fileset → object_at fileset.anodes anode ≡ Some object →
    anode ≢ 0 → HasSameEntries object.content (change object.content) → (is_sound object.content ≡ true → is_sound (change object.content) ≡ true) → IsWellFormed (changed fileset anode change)
well_formed_changed fileset anode object change w h z same keeps = well_formed_alike fileset (changed fileset anode change) w (alike_changed fileset anode object change h z same keeps)
