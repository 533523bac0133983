-- What is found, and what is not.
use Rattle.std.proofs.Common.{◌≡◌, ℕ, true, false, List, Option, Some, None, is_some, refl, ap, rules}
use Rattle.std.specs.Option.{option_and_then}
use Rattle.tree_calls.specs.declared.part.DirEntry.{DirEntry}
use Rattle.tree_objects.specs.declared.content.Object.{Object}
use Rattle.tree_filesets.specs.declared.fileset.Fileset.{Fileset}
use Rattle.tree_filesets.specs.Walk.{object_at}
use Rattle.tree_filesets.specs.WellFormed.{entry_in, entry_at}

-- two objects at one place are one
pub same_object : (o : Option Object) (a b : Object) → o ≡ Some a → o ≡ Some b → a ≡ b
same_object o a b h k = cc

pub same_found : (o : Option DirEntry) (a b : DirEntry) → o ≡ Some a → o ≡ Some b → a ≡ b
same_found o a b h k = cc

-- something and nothing
pub none_some : {X : Type 0} {A : Type 0} (o : Option X) (x : X) → o ≡ None → o ≡ Some x → A
none_some None x h k = absurd (search (rules, k))
none_some (Some y) x h k = absurd (search (rules, h))

pub is_some_of : {X : Type 0} (o : Option X) (x : X) → o ≡ Some x → is_some o ≡ true
is_some_of o x h = ap is_some h

pub some_of : {X : Type 0} (o : Option X) → is_some o ≡ true → (x : X) × (o ≡ Some x)
some_of None h = absurd (search (rules, h))
some_of (Some x) h = (x, refl)

-- the entry of a name, where the object is known
pub entry_known : (fileset : Fileset) (at : ℕ) (object : Object) (name : List ℕ) → object_at fileset.anodes at ≡ Some object → entry_at fileset.anodes at name ≡ entry_in object.content name
entry_known fileset at object name h = ap (λ o. option_and_then (λ object. entry_in object.content name) o) h

pub entry_nowhere : (fileset : Fileset) (at : ℕ) (name : List ℕ) → object_at fileset.anodes at ≡ None → entry_at fileset.anodes at name ≡ None
entry_nowhere fileset at name h = ap (λ o. option_and_then (λ object. entry_in object.content name) o) h

pub none_of : {X : Type 0} (o : Option X) → is_some o ≡ false → o ≡ None
none_of None h = refl
none_of (Some x) h = absurd (search (rules, h))
