-- What the targets of calls tell, where they are found.
use Rattle.std.proofs.Common.{◌≡◌, ◌≢◌, ◌≤◌, ◌<◌, ℕ, zero, suc, ◌+◌, ◌-◌, ◌==◌, Bool, true, false, ◌&&◌, ◌||◌, cond, nat_lt, inl, inr, List, [], ◌∷◌, length, take, Option, Some, None, is_some, is_none, Result, Ok, Err, refl, sym, ap, ◌∙◌, subst, arith, rules}
use Rattle.std.specs.Prelude.{slice_get}
use Rattle.std.specs.Option.{option_and_then}
use Rattle.std.proofs.lemmas.Bool.Decides.{eqb_tells, leb_tells}
use Rattle.base_types.specs.Access.{allows}
use Rattle.base_types.specs.Outcomes.{and_then, either}
use Rattle.base_types.specs.declared.access.AccessEntry.{AccessEntry}
use Rattle.base_types.specs.declared.ids.Fid.{Fid}
use Rattle.base_types.specs.declared.limits.TheConstants.{FILE_BYTES_MAX, UNIQUE_MAX}
use Rattle.base_types.specs.declared.user.User.{User}
use Rattle.tree_calls.specs.declared.part.DirEntry.{DirEntry}
use Rattle.tree_calls.specs.declared.place.Which.{Which}
use Rattle.tree_calls.specs.declared.place.Which.TheVariants.{Files, Dirs}
use Rattle.tree_calls.specs.declared.reply.Refusal.{Refusal}
use Rattle.tree_calls.specs.declared.reply.Refusal.TheVariants.{IsDir, Exists, ReadOnly, TooBig, InUse, NotEmpty, Loop, Denied}
use Rattle.tree_objects.specs.declared.content.Content.{Content}
use Rattle.tree_objects.specs.declared.content.Content.TheVariants.{Dir, File}
use Rattle.tree_objects.specs.declared.content.Object.{Object}
use Rattle.tree_objects.specs.declared.content.Anode.{Anode}
use Rattle.tree_objects.specs.Entries.{entry_named}
use Rattle.tree_objects.specs.Objects.{is_dir, entered, searched, own_rights, access_of}
use Rattle.tree_objects.specs.Sound.{is_sound}
use Rattle.tree_filesets.specs.declared.creating.Creation.{Creation}
use Rattle.tree_filesets.specs.declared.creating.NewObject.{NewObject}
use Rattle.tree_filesets.specs.declared.creating.NewObject.TheVariants.{EmptyFile, EmptyDirectory}
use Rattle.tree_filesets.specs.declared.creating.Vacancy.{Vacancy}
use Rattle.tree_filesets.specs.declared.fileset.Fileset.{Fileset}
use Rattle.tree_filesets.specs.declared.renaming.Move.{Move}
use Rattle.tree_filesets.specs.Changing.{write_target, set_access_target}
use Rattle.tree_filesets.specs.Checks.{unless, permission, split_path}
use Rattle.tree_filesets.specs.Creation.{is_vacant, first_vacancy, vacancy, new_content, new_object, create_target}
use Rattle.tree_filesets.specs.Removal.{has_entries, fid_of, remove_target}
use Rattle.tree_filesets.specs.Renaming.{rename_target}
use Rattle.tree_filesets.specs.Rights.{write_right, control_right, insert_right, delete_right}
use Rattle.tree_filesets.specs.Walk.{object_at, entered_at, entry_or_none, step, walk, passes, found_at, target, file_target, permitted_file, parent_target, insert_target, entry_target}
use Rattle.tree_filesets.specs.WellFormed.{entry_in, entry_at, leads}
use Rattle.tree_filesets.proofs.Entering.{Takes}
use Rattle.tree_filesets.proofs.Leads.{leads_first}
use Rattle.tree_filesets.proofs.Found.{entry_known, same_found}
use Rattle.tree_filesets.proofs.Made.{IsNew}
use Rattle.tree_filesets.proofs.Observations.{object_from}
use Rattle.tree_filesets.proofs.Removed.{Goes}
use Rattle.tree_filesets.proofs.Renamed.{Avoids, Moves}

-- what was found by the first of two steps, and by the second
pub then_ok : {A B E : Type 0} (r : Result A E) (f : A → Result B E) (v : B) → and_then r f ≡ Ok v → (x : A) × (r ≡ Ok x) × (f x ≡ Ok v)
then_ok (Ok x) f v h = (x, refl, h)
then_ok (Err e) f v h = absurd (search (rules, h))

-- a check that didn't refuse
pub unless_ok : {A : Type 0} (b : Bool) (refusal : Refusal) (next : Result A Refusal) (v : A) → unless b refusal next ≡ Ok v → (b ≡ false) × (next ≡ Ok v)
unless_ok true refusal next v h = absurd (search (rules, h))
unless_ok false refusal next v h = (refl, h)

-- the same value
pub ok_is : {A E : Type 0} (a b : A) → ◌≡◌ {A = Result A E} (Ok a) (Ok b) → a ≡ b
ok_is a b h = cc

found_there : (anode : ℕ) (o : Option Object) (found : ℕ × Object) → found_at anode o ≡ Ok found → (anode ≡ found.0) × (o ≡ Some found.1)
found_there anode None found h = absurd (search (rules, h))
found_there anode (Some object) found h =
    let same : (anode, object) ≡ found = ok_is _ _ h in
    (ap (λ x. x.0) same, ap (λ x. Some x.1) same)

-- where a walk ended
pub record WalkedTo (fileset : Fileset) (user : User) (path : List (List ℕ)) (found : ℕ × Object) : Type 0 where
  pub way : walk fileset.anodes user 1 path ≡ Ok found.0
  pub there : object_at fileset.anodes found.0 ≡ Some found.1

pub target_ok : (fileset : Fileset) (user : User) (path : List (List ℕ)) (found : ℕ × Object) → target fileset user path ≡ Ok found → WalkedTo fileset user path found
unfolding target
target_ok fileset user path found h =
    let (anode, way, there) = then_ok (walk fileset.anodes user 1 path) (λ anode. found_at anode (object_at fileset.anodes anode)) found h in
    let (same, object) = found_there anode (object_at fileset.anodes anode) found there in
    let P : ℕ → Type 0 = λ n. object_at fileset.anodes n ≡ Some found.1 in
    record { way = way ∙ ap Ok same; there = subst P same object }

pub file_target_ok : (fileset : Fileset) (user : User) (path : List (List ℕ)) (found : ℕ × Object) → file_target fileset user path ≡ Ok found → WalkedTo fileset user path found
unfolding file_target
file_target_ok fileset user path found h =
    let (at, e, k) = then_ok (target fileset user path) _ found h in
    let (file, same) = unless_ok (is_dir at.1.content) IsDir (Ok at) found k in
    target_ok fileset user path found (e ∙ same)

pub file_target_file : (fileset : Fileset) (user : User) (path : List (List ℕ)) (found : ℕ × Object) → file_target fileset user path ≡ Ok found → is_dir found.1.content ≡ false
unfolding file_target
file_target_file fileset user path found h =
    let (at, e, k) = then_ok (target fileset user path) _ found h in
    let (file, same) = unless_ok (is_dir at.1.content) IsDir (Ok at) found k in
    let P : ℕ × Object → Type 0 = λ f. is_dir f.1.content ≡ false in
    subst P (ok_is at found same) file

pub permitted_file_file : (fileset : Fileset) (user : User) (path : List (List ℕ)) (right : ℕ) (found : ℕ × Object) → permitted_file fileset user path right ≡ Ok found → is_dir found.1.content ≡ false
unfolding permitted_file
permitted_file_file fileset user path right found h =
    let (at, e, k) = then_ok (file_target fileset user path) _ found h in
    let (allowed, p, same) = then_ok (permission at.1 user right) (λ _. Ok at) found k in
    file_target_file fileset user path found (e ∙ same)

pub permitted_file_ok : (fileset : Fileset) (user : User) (path : List (List ℕ)) (right : ℕ) (found : ℕ × Object) → permitted_file fileset user path right ≡ Ok found → WalkedTo fileset user path found
unfolding permitted_file
permitted_file_ok fileset user path right found h =
    let (at, e, k) = then_ok (file_target fileset user path) _ found h in
    let (allowed, p, same) = then_ok (permission at.1 user right) (λ _. Ok at) found k in
    file_target_ok fileset user path found (e ∙ same)

-- a file that is written, where it ends in time
pub record IsWritable (fileset : Fileset) (end anode : ℕ) : Type 0 where
  pub object : Object
  pub there : object_at fileset.anodes anode ≡ Some object
  pub is_file : is_dir object.content ≡ false
  pub within : end ≤ FILE_BYTES_MAX

not_above : (a b : ℕ) → nat_lt a b ≡ false → b ≤ a
not_above a b h = elim (leb_tells (suc a) b) as (λ _. b ≤ a) [ inl (e, k) ↦ absurd (search (rules, e, h)) | inr (e, k) ↦ omega (arith, k) ]

pub write_target_ok : (fileset : Fileset) (user : User) (path : List (List ℕ)) (end anode : ℕ) → write_target fileset user path end ≡ Ok anode → IsWritable fileset end anode
unfolding write_target
write_target_ok fileset user path end anode h =
    let (writable, k) = unless_ok fileset.read_only ReadOnly _ anode h in
    let (at, e, l) = then_ok (permitted_file fileset user path write_right) _ anode k in
    let (within, same) = unless_ok (nat_lt FILE_BYTES_MAX end) TooBig (Ok at.0) anode l in
    let walked = permitted_file_ok fileset user path write_right at e in
    let P : ℕ → Type 0 = λ n. object_at fileset.anodes n ≡ Some at.1 in
    record { object = at.1; there = subst P (ok_is at.0 anode same) walked.there; is_file = permitted_file_file fileset user path write_right at e; within = not_above FILE_BYTES_MAX end within }

pub set_access_target_ok : (fileset : Fileset) (user : User) (path : List (List ℕ)) (which : Which) (anode : ℕ) → set_access_target fileset user path which ≡ Ok anode → (object : Object) × (object_at fileset.anodes anode ≡ Some object)
unfolding set_access_target
set_access_target_ok fileset user path which anode h =
    let (writable, k) = unless_ok fileset.read_only ReadOnly _ anode h in
    let (at, e, l) = then_ok (target fileset user path) _ anode k in
    let (list, m, n) = then_ok (access_of which at.1.content) _ anode l in
    let (allowed, p, same) = then_ok (permission at.1 user control_right) (λ _. Ok at.0) anode n in
    let walked = target_ok fileset user path at e in
    let P : ℕ → Type 0 = λ n. object_at fileset.anodes n ≡ Some at.1 in
    (at.1, subst P (ok_is at.0 anode same) walked.there)

-- a directory that a user may search
pub searched_ok : (content : Content) (rights : ℕ) (entries : List DirEntry) → searched content rights ≡ Ok entries → (lists : List (List AccessEntry)) × (content ≡ Dir entries lists)
searched_ok (Dir there lists) rights entries h =
    elim (allows rights 4) as (λ t. cond t (Ok there) (Err (Denied 4)) ≡ Ok entries → (ls : List (List AccessEntry)) × (Dir there lists ≡ Dir entries ls))
    [ true ↦ λ k. (lists, ap (λ es. Dir es lists) (ok_is there entries k)) | false ↦ λ k. absurd (search (rules, k)) ] h
searched_ok (File list kept unsaved len) rights entries h = absurd (search (rules, h))

pub record IsParent (fileset : Fileset) (user : User) (front : List (List ℕ)) (parent : ℕ) (directory : Object) (entries : List DirEntry) : Type 0 where
  pub way : walk fileset.anodes user 1 front ≡ Ok parent
  pub there : object_at fileset.anodes parent ≡ Some directory
  pub lists : List (List AccessEntry)
  pub content : directory.content ≡ Dir entries lists

pub parent_target_ok : (fileset : Fileset) (user : User) (front : List (List ℕ)) (right : ℕ) (found : ℕ × Object × List DirEntry) → parent_target fileset user front right ≡ Ok found →
    IsParent fileset user front found.0 found.1 found.2
unfolding parent_target
parent_target_ok fileset user front right found h =
    let (at, e, k) = then_ok (target fileset user front) _ found h in
    let (entries, searched_there, l) = then_ok (entered at.1 user) _ found k in
    let (allowed, p, same) = then_ok (permission at.1 user right) (λ _. Ok (at.0, at.1, entries)) found l in
    let walked = target_ok fileset user front at e in
    let (lists, content) = searched_ok at.1.content (own_rights at.1 user) entries searched_there in
    let P : ℕ × Object × List DirEntry → Type 0 = λ f. IsParent fileset user front f.0 f.1 f.2 in
    subst P (ok_is (at.0, at.1, entries) found same) (record { way = walked.way; there = walked.there; lists = lists; content = content })

-- a directory that takes an entry of a new name
pub record IsOpen (fileset : Fileset) (user : User) (front : List (List ℕ)) (name : List ℕ) (parent : ℕ) (directory : Object) : Type 0 where
  pub way : walk fileset.anodes user 1 front ≡ Ok parent
  pub there : object_at fileset.anodes parent ≡ Some directory
  pub entries : List DirEntry
  pub lists : List (List AccessEntry)
  pub content : directory.content ≡ Dir entries lists
  pub fresh : entry_named entries name ≡ None

nothing_there : {X : Type 0} (o : Option X) → is_some o ≡ false → o ≡ None
nothing_there None h = refl
nothing_there (Some x) h = absurd (search (rules, h))

pub insert_target_ok : (fileset : Fileset) (user : User) (front : List (List ℕ)) (name : List ℕ) (found : ℕ × Object) → insert_target fileset user front name ≡ Ok found → IsOpen fileset user front name found.0 found.1
unfolding insert_target
insert_target_ok fileset user front name found h =
    let (at, e, k) = then_ok (parent_target fileset user front insert_right) _ found h in
    let (fresh, same) = unless_ok (is_some (entry_named at.2 name)) Exists (Ok (at.0, at.1)) found k in
    let parent = parent_target_ok fileset user front insert_right at e in
    let P : ℕ × Object → Type 0 = λ f. IsOpen fileset user front name f.0 f.1 in
    subst P (ok_is (at.0, at.1) found same) (record { way = parent.way; there = parent.there; entries = at.2; lists = parent.lists; content = parent.content; fresh = nothing_there _ fresh })

pub entry_or_none_ok : (o : Option DirEntry) (entry : DirEntry) → entry_or_none o ≡ Ok entry → o ≡ Some entry
entry_or_none_ok None entry h = absurd (search (rules, h))
entry_or_none_ok (Some e) entry h = ap Some (ok_is e entry h)

-- the entry of a name, in a directory whose content is known
entry_of_content : (fileset : Fileset) (at : ℕ) (directory : Object) (entries : List DirEntry) (lists : List (List AccessEntry)) (name : List ℕ) (entry : DirEntry) →
    object_at fileset.anodes at ≡ Some directory → directory.content ≡ Dir entries lists → entry_named entries name ≡ Some entry → entry_at fileset.anodes at name ≡ Some entry
entry_of_content fileset at directory entries lists name entry there content found = entry_known fileset at directory name there ∙ ap (λ c. entry_in c name) content ∙ found

pub entry_target_ok : (fileset : Fileset) (user : User) (front : List (List ℕ)) (name : List ℕ) (found : ℕ × DirEntry) → entry_target fileset user front name ≡ Ok found → entry_at fileset.anodes found.0 name ≡ Some found.1
unfolding entry_target
entry_target_ok fileset user front name found h =
    let (at, e, k) = then_ok (parent_target fileset user front delete_right) _ found h in
    let (entry, f, same) = then_ok (entry_or_none (entry_named at.2 name)) (λ entry. Ok (at.0, entry)) found k in
    let parent = parent_target_ok fileset user front delete_right at e in
    let P : ℕ × DirEntry → Type 0 = λ g. entry_at fileset.anodes g.0 name ≡ Some g.1 in
    subst P (ok_is (at.0, entry) found same) (entry_of_content fileset at.0 at.1 at.2 parent.lists name entry parent.there parent.content (entry_or_none_ok _ entry f))

-- one step of a walk
pub record Steps (anodes : List Anode) (at : ℕ) (name : List ℕ) (next : ℕ) : Type 0 where
  pub entry : DirEntry
  pub there : entry_at anodes at name ≡ Some entry
  pub leads_on : entry.anode ≡ next

pub entered_ok : (o : Option Object) (user : User) (entries : List DirEntry) → entered_at o user ≡ Ok entries → (name : List ℕ) → option_and_then (λ object. entry_in object.content name) o ≡ entry_named entries name
entered_ok None user entries h name = absurd (search (rules, h))
entered_ok (Some object) user entries h name =
    let (lists, content) = searched_ok object.content (own_rights object user) entries h in
    ap (λ c. entry_in c name) content

pub step_ok : (anodes : List Anode) (user : User) (at : ℕ) (name : List ℕ) (next : ℕ) → step anodes user at name ≡ Ok next → Steps anodes at name next
unfolding step
step_ok anodes user at name next h =
    let (entries, e, k) = then_ok (entered_at (object_at anodes at) user) _ next h in
    let (entry, f, same) = then_ok (entry_or_none (entry_named entries name)) (λ entry. Ok entry.anode) next k in
    record { entry = entry; there = entered_ok (object_at anodes at) user entries e name ∙ entry_or_none_ok _ entry f; leads_on = ok_is entry.anode next same }

-- names lead where a walk ends
pub walk_leads : (anodes : List Anode) (user : User) (path : List (List ℕ)) (at to : ℕ) → walk anodes user at path ≡ Ok to → leads anodes at path ≡ Some to
walk_leads anodes user [] at to h = ap Some (ok_is at to h)
walk_leads anodes user (name ∷ names) at to h =
    let (next, e, k) = then_ok (step anodes user at name) (λ next. walk anodes user next names) to h in
    let s = step_ok anodes user at name next e in
    let P : ℕ → Type 0 = λ n. leads anodes n names ≡ Some to in
    leads_first anodes at name names s.entry to s.there (subst P (sym s.leads_on) (walk_leads anodes user names next to k))

or_false : (a b : Bool) → (a || b) ≡ false → (a ≡ false) × (b ≡ false)
or_false true b h = absurd (search (rules, h))
or_false false b h = (refl, h)

differs : (a b : ℕ) → (a == b) ≡ false → a ≢ b
differs a b h = elim (eqb_tells a b) as (λ _. a ≢ b) [ inl (e, k) ↦ absurd (search (rules, e, h)) | inr (e, k) ↦ k ]

-- and avoid what a walk doesn't pass
pub walk_avoids : (anodes : List Anode) (user : User) (path : List (List ℕ)) (at to anode : ℕ) → walk anodes user at path ≡ Ok to → passes anodes user at path anode ≡ false → Avoids anodes at path anode
walk_avoids anodes user [] at to anode h away = differs at anode away
walk_avoids anodes user (name ∷ names) at to anode h away =
    let (next, e, k) = then_ok (step anodes user at name) (λ next. walk anodes user next names) to h in
    let s = step_ok anodes user at name next e in
    let (here, on) = or_false (at == anode) _ away in
    let rest : passes anodes user next names anode ≡ false = sym (ap (λ r. either r (λ next. passes anodes user next names anode) (λ refusal. false)) e) ∙ on in
    let follows = walk_avoids anodes user names next to anode k rest in
    let P : ℕ → Type 0 = λ n. Avoids anodes n names anode in
    (differs at anode here, λ entry there. subst P (sym (ap (λ x. x.anode) (same_found _ entry s.entry there s.there) ∙ s.leads_on)) follows)

-- an anode that takes a new object
pub record IsVacancy (start : ℕ) (anodes : List Anode) (vacancy : Vacancy) : Type 0 where
  pub place : ℕ
  pub anode : Anode
  pub number : vacancy.anode ≡ start + place
  pub within : place < length anodes
  pub there : slice_get anodes place ≡ Some anode
  pub free : anode.object ≡ None

vacant_is_free : (anode : Anode) → is_vacant anode ≡ true → anode.object ≡ None
vacant_is_free anode h =
    elim (anode.object) as (λ o. (is_none o && nat_lt anode.unique UNIQUE_MAX) ≡ true → o ≡ None)
    [ None ↦ λ k. refl | Some object ↦ λ k. absurd (search (rules, k)) ] h

pub first_vacancy_ok : (start : ℕ) (anodes : List Anode) (vacancy : Vacancy) → first_vacancy start anodes ≡ Ok vacancy → IsVacancy start anodes vacancy
first_vacancy_ok start [] vacancy h = absurd (search (rules, h))
first_vacancy_ok start (first ∷ anodes) vacancy h =
    elim (is_vacant first) as (λ t. is_vacant first ≡ t → cond t (Ok (record { anode = start; unique = first.unique + 1 })) (first_vacancy (start + 1) anodes) ≡ Ok vacancy → IsVacancy start (first ∷ anodes) vacancy) [
      | true ↦ λ e k.
          let same : record { anode = start; unique = first.unique + 1 } ≡ vacancy = ok_is _ vacancy k in
          record { place = 0; anode = first; number = sym (ap (λ v. v.anode) same) ∙ omega arith; within = omega arith; there = refl; free = vacant_is_free first e }
      | false ↦ λ e k.
          let rest = first_vacancy_ok (start + 1) anodes vacancy k in
          record { place = suc rest.place; anode = rest.anode; number = rest.number ∙ omega arith; within = omega (arith, rest.within); there = rest.there; free = rest.free }
    ] refl h

get_of_take : {X : Type 0} (xs : List X) (n i : ℕ) (x : X) → slice_get (take n xs) i ≡ Some x → slice_get xs i ≡ Some x
get_of_take [] zero i x h = h
get_of_take [] (suc n) i x h = h
get_of_take (y ∷ ys) zero i x h = absurd (search (rules, h))
get_of_take (y ∷ ys) (suc n) zero x h = h
get_of_take (y ∷ ys) (suc n) (suc i) x h = get_of_take ys n i x h

get_is_within : {X : Type 0} (xs : List X) (i : ℕ) (x : X) → slice_get xs i ≡ Some x → i < length xs
get_is_within [] i x h = absurd (search (rules, h))
get_is_within (y ∷ ys) zero x h = omega arith
get_is_within (y ∷ ys) (suc i) x h = omega (arith, get_is_within ys i x h)

pub record IsFree (fileset : Fileset) (anode : ℕ) : Type 0 where
  pub place : anode ≢ 0
  pub within : anode ≤ length fileset.anodes
  pub vacant : object_at fileset.anodes anode ≡ None

pub vacancy_ok : (fileset : Fileset) (found : Vacancy) → vacancy fileset ≡ Ok found → IsFree fileset found.anode
vacancy_ok fileset found h =
    let free = first_vacancy_ok 1 (take fileset.objects fileset.anodes) found h in
    let there = get_of_take fileset.anodes fileset.objects free.place free.anode free.there in
    let below = get_is_within fileset.anodes free.place free.anode there in
    let number = free.number in
    let place : found.anode ≢ 0 = λ e. (let one : 1 + free.place ≡ 0 = sym number ∙ e in omega (arith, one)) in
    let back : found.anode - 1 ≡ free.place = omega (arith, number) in
    record {
      place = place;
      within = omega (arith, number, below);
      vacant = object_from fileset.anodes found.anode place ∙ ap (λ i. option_and_then (λ a. a.object) (slice_get fileset.anodes i)) back ∙ ap (λ o. option_and_then (λ a. a.object) o) there ∙ free.free;
    }

-- a new object
pub record IsEmpty (object : Object) : Type 0 where
  pub sound : is_sound object.content ≡ true
  pub empty : (name : List ℕ) → entry_in object.content name ≡ None

abbrev IsEmptyContent : Content → Type 0
IsEmptyContent content = (is_sound content ≡ true) × ((name : List ℕ) → entry_in content name ≡ None)

new_content_ok : (kind : NewObject) (directory content : Content) → new_content kind directory ≡ Ok content → IsEmptyContent content
new_content_ok EmptyFile directory content h =
    let (files, e, same) = then_ok (access_of Files directory) (λ files. Ok (File files [] [] None)) content h in
    let P : Content → Type 0 = λ c. IsEmptyContent c in
    subst P (ok_is _ content same) (refl, λ name. refl)
new_content_ok EmptyDirectory directory content h =
    let (files, e, k) = then_ok (access_of Files directory) _ content h in
    let (dirs, f, same) = then_ok (access_of Dirs directory) (λ dirs. Ok (Dir [] (dirs ∷ files ∷ dirs ∷ []))) content k in
    let P : Content → Type 0 = λ c. IsEmptyContent c in
    subst P (ok_is _ content same) (refl, λ name. refl)

pub new_object_ok : (kind : NewObject) (user : User) (directory object : Object) → new_object kind user directory ≡ Ok object → IsEmpty object
new_object_ok kind user directory object h =
    let (content, e, same) = then_ok (new_content kind directory.content) _ object h in
    let (sound, empty) = new_content_ok kind directory.content content e in
    let P : Object → Type 0 = λ o. IsEmpty o in
    subst P (ok_is _ object same) (record { sound = sound; empty = empty })

-- Create, MakeDir
pub record Creates (fileset : Fileset) (creation : Creation) : Type 0 where
  pub directory : Object
  pub entries : List DirEntry
  pub lists : List (List AccessEntry)
  pub is_new : IsNew fileset creation directory entries lists

pub create_target_ok : (fileset : Fileset) (kind : NewObject) (user : User) (path : List (List ℕ)) (creation : Creation) → create_target fileset kind user path ≡ Ok creation → Creates fileset creation
unfolding create_target
create_target_ok fileset kind user path creation h =
    let (writable, a) = unless_ok fileset.read_only ReadOnly _ creation h in
    let (parts, b, c) = then_ok (split_path path Exists) _ creation a in
    let (at, d, e) = then_ok (insert_target fileset user parts.1 parts.0) _ creation c in
    let (free, f, g) = then_ok (vacancy fileset) _ creation e in
    let (object, i, same) = then_ok (new_object kind user at.1) _ creation g in
    let open_there = insert_target_ok fileset user parts.1 parts.0 at d in
    let place = vacancy_ok fileset free f in
    let made = new_object_ok kind user at.1 object i in
    let P : Creation → Type 0 = λ c. Creates fileset c in
    subst P (ok_is _ creation same) (record {
      directory = at.1;
      entries = open_there.entries;
      lists = open_there.lists;
      is_new = record {
        takes = record { there = open_there.there; content = open_there.content; fresh = open_there.fresh };
        vacant = place.vacant;
        place = place.place;
        within = place.within;
        sound = made.sound;
        empty = made.empty;
      };
    })

-- Remove
pub record Removes (fileset : Fileset) (in_use : Fid → Bool) (parent : ℕ) (name : List ℕ) (anode : ℕ) : Type 0 where
  pub entry : DirEntry
  pub object : Object
  pub goes : Goes fileset parent name entry object
  pub number : entry.anode ≡ anode
  pub unused : in_use (fid_of fileset entry) ≡ false

nothing_in : (content : Content) → has_entries content ≡ false → (name : List ℕ) → entry_in content name ≡ None
nothing_in (Dir [] lists) h name = refl
nothing_in (Dir (entry ∷ entries) lists) h name = absurd (search (rules, h))
nothing_in (File list kept unsaved len) h name = refl

pub remove_target_ok : (fileset : Fileset) (in_use : Fid → Bool) (user : User) (path : List (List ℕ)) (found : ℕ × List ℕ × ℕ) → remove_target fileset in_use user path ≡ Ok found → Removes fileset in_use found.0 found.1 found.2
unfolding remove_target
remove_target_ok fileset in_use user path found h =
    let (writable, a) = unless_ok fileset.read_only ReadOnly _ found h in
    let (parts, b, c) = then_ok (split_path path InUse) _ found a in
    let (at, d, e) = then_ok (entry_target fileset user parts.1 parts.0) _ found c in
    let (there, f, g) = then_ok (found_at at.1.anode (object_at fileset.anodes at.1.anode)) _ found e in
    let (empty, i) = unless_ok (has_entries there.1.content) NotEmpty _ found g in
    let (unused, same) = unless_ok (in_use (fid_of fileset at.1)) InUse (Ok (at.0, parts.0, there.0)) found i in
    let (number, object) = found_there at.1.anode (object_at fileset.anodes at.1.anode) there f in
    let P : ℕ × List ℕ × ℕ → Type 0 = λ x. Removes fileset in_use x.0 x.1 x.2 in
    subst P (ok_is (at.0, parts.0, there.0) found same) (record {
      entry = at.1;
      object = there.1;
      goes = record { entry_there = entry_target_ok fileset user parts.1 parts.0 at d; object_there = object; empty = nothing_in there.1.content empty };
      number = number;
      unused = unused;
    })

-- Rename
pub record Renames (fileset : Fileset) (move : Move) : Type 0 where
  pub entry : DirEntry
  pub front : List (List ℕ)
  pub directory : Object
  pub entries : List DirEntry
  pub lists : List (List AccessEntry)
  pub takes : Takes fileset move.to move.entry directory entries lists
  pub moves : Moves fileset move.from move.name entry move.to move.entry front

pub rename_target_ok : (fileset : Fileset) (user : User) (from to : List (List ℕ)) (move : Move) → rename_target fileset user from to ≡ Ok move → Renames fileset move
unfolding rename_target
rename_target_ok fileset user from to move h =
    let (writable, a) = unless_ok fileset.read_only ReadOnly _ move h in
    let (old, b, c) = then_ok (split_path from Loop) _ move a in
    let (new, d, e) = then_ok (split_path to Exists) _ move c in
    let (at, f, g) = then_ok (entry_target fileset user old.1 old.0) _ move e in
    let (into, i, j) = then_ok (insert_target fileset user new.1 new.0) _ move g in
    let (away, same) = unless_ok (passes fileset.anodes user 1 new.1 at.1.anode) Loop _ move j in
    let open_there = insert_target_ok fileset user new.1 new.0 into i in
    let P : Move → Type 0 = λ m. Renames fileset m in
    subst P (ok_is _ move same) (record {
      entry = at.1;
      front = new.1;
      directory = into.1;
      entries = open_there.entries;
      lists = open_there.lists;
      takes = record { there = open_there.there; content = open_there.content; fresh = open_there.fresh };
      moves = record {
        entry_there = entry_target_ok fileset user old.1 old.0 at f;
        same_anode = refl;
        same_unique = refl;
        way = walk_leads fileset.anodes user new.1 1 into.0 open_there.way;
        avoids = walk_avoids fileset.anodes user new.1 1 into.0 at.1.anode open_there.way away;
      };
    })
