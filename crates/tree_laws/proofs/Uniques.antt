-- Unique numbers rise, and those of roots stay 1.
use Rattle.std.proofs.Common.{◌≡◌, ◌<◌, ◌≤◌, ◌⊎◌, ℕ, zero, suc, ◌+◌, ◌-◌, ◌==◌, Bool, true, false, not, cond, List, [], ◌∷◌, insert, take, length, Option, Some, None, Result, Ok, Err, refl, sym, ap, ◌∙◌, subst, inl, inr, rules, arith}
use Rattle.std.specs.Prelude.{slice_get, slice_set, map, if◌then◌else◌}
use Rattle.std.specs.List.{find}
use Rattle.std.specs.Option.{option_map, option_map_or, option_and_then}
use Rattle.base_types.specs.Lists.{changed_at}
use Rattle.base_types.specs.Outcomes.{either}
use Rattle.base_types.specs.declared.ids.HostId.{HostId}
use Rattle.base_types.specs.declared.ids.ServerId.{ServerId}
use Rattle.base_types.specs.declared.ids.FilesetId.{FilesetId}
use Rattle.base_types.specs.declared.ids.Fid.{Fid}
use Rattle.base_types.specs.declared.user.User.{User}
use Rattle.tree_calls.specs.declared.call.Call.{Call as CallOf}
use Rattle.tree_calls.specs.declared.call.Call.TheVariants.{NewFileset, Create, MakeDir, Remove, Rename, Truncate, SetAcl, CloneFileset, Read, Write, List as ListNames, Stat, GetAcl, Sync, Lock, Unlock, OpenFile, CloseFile, MoveFileset}
use Rattle.tree_calls.specs.declared.entry.Entry.{Entry}
use Rattle.tree_calls.specs.declared.entry.Entry.TheVariants.{Call, Stored, Down, Left}
use Rattle.tree_calls.specs.declared.reply.Refusal.{Refusal}
use Rattle.tree_calls.specs.declared.reply.Refusal.TheVariants.{Exists, ReadOnly}
use Rattle.tree_calls.specs.declared.reply.Reply.TheVariants.{Ok as Done}
use Rattle.tree_calls.specs.Rosters.{user_of}
use Rattle.tree_objects.specs.declared.content.Content.{Content}
use Rattle.tree_objects.specs.declared.content.Object.{Object}
use Rattle.tree_objects.specs.declared.content.Anode.{Anode}
use Rattle.tree_objects.specs.Changes.{content_changed, anode_changed, anode_freed, content_as_cloned, content_forgotten}
use Rattle.tree_objects.specs.Entries.{content_with_entry, content_without_entry}
use Rattle.tree_objects.specs.Stores.{content_stored}
use Rattle.tree_filesets.specs.declared.fileset.Fileset.{Fileset}
use Rattle.tree_filesets.specs.Answers.{answered}
use Rattle.tree_filesets.specs.Changing.{write_target, write_answer, truncate_answer, sync_answer, set_access_target, set_access_answer}
use Rattle.tree_filesets.specs.Checks.{split_path}
use Rattle.tree_filesets.specs.Creation.{is_vacant, first_vacancy, vacancy, new_object, create_target, create_answer, occupied, with_object}
use Rattle.tree_filesets.specs.Founding.{new_fileset, cloned, moved}
use Rattle.tree_filesets.specs.Promises.{new_promise, clone_promise}
use Rattle.tree_filesets.specs.Removal.{remove_target, remove_answer}
use Rattle.tree_filesets.specs.Renaming.{rename_target, rename_answer}
use Rattle.tree_filesets.specs.Rows.{fileset_answer}
use Rattle.tree_filesets.specs.Updates.{updated, changed}
use Rattle.tree_filesets.specs.Walk.{unique_at, file_target, insert_target}
use Rattle.tree_filesets.specs.WellFormed.{IsWellFormed as IsWellFormedFileset}
use Rattle.tree_filesets.proofs.Observations.{object_from, object_not_zero, unique_changed}
use Rattle.tree_filesets.proofs.Targets.{then_ok, unless_ok, ok_is}
use Rattle.tree_answers.specs.declared.tree.Tree.{Tree}
use Rattle.tree_answers.specs.declared.tree.ServerRoom.{ServerRoom}
use Rattle.tree_answers.specs.Answers.{for_user, answer_at, deciding_place, fileset_row, answer_for, answer_to}
use Rattle.tree_answers.specs.Finding.{Answer, refuse, has_id, is_taken}
use Rattle.tree_answers.specs.Founding.{next_id, room_for, clone_source, with_fileset, new_fileset_target, new_fileset_answer, clone_target, clone_answer}
use Rattle.tree_answers.specs.Histories.{after_entry}
use Rattle.tree_answers.specs.Locks.{lock_answer, lock_check, unlock_answer, has_lock}
use Rattle.tree_answers.specs.Losses.{fileset_forgotten, down_tree}
use Rattle.tree_answers.specs.Moving.{move_target, with_moved, move_answer, left_tree}
use Rattle.tree_answers.specs.Opens.{open_answer, open_check, close_answer, has_open}
use Rattle.tree_answers.specs.Stores.{stored_tree}
use Rattle.tree_answers.specs.Uses.{is_used}
use Rattle.tree_answers.specs.WellFormed.{IsWellFormed}
use Rattle.tree_answers.proofs.Inserted.{IsFresh, find_insert, fresh_id}
use Rattle.tree_answers.proofs.Kept.{room_ok}
use Rattle.tree_laws.specs.Uniques.{UniquesRise, AllUniquesRise, RootsAreFirst}
use Rattle.tree_laws.proofs.Steps.{formed_found}
use Rattle.tree_laws.proofs.TreeFates.{formed_at, fresh_none, move_ok}

-- one anode
pub record AnodeRises (old new : Anode) : Type 0 where
  pub number : old.unique ≤ new.unique
  pub above : (object : Object) → old.object ≡ None → new.object ≡ Some object → old.unique < new.unique

-- where nothing was, nothing is
keeps : (old new : Anode) → new.unique ≡ old.unique → (old.object ≡ None → new.object ≡ None) → AnodeRises old new
keeps old new same none = record {
  number = omega (arith, same);
  above = λ object n s. let wrong : None ≡ Some object = sym (none n) ∙ s in absurd (search (rules, wrong));
}

stays : (anode : Anode) → AnodeRises anode anode
stays anode = keeps anode anode refl (λ none. none)

through : (a b c : Anode) → AnodeRises a b → AnodeRises b c → AnodeRises a c
through a b c f g = record { number = let m = f.number in let n = g.number in omega (arith, m, n); above = λ object none some. by_mid object none some b.object refl }
  where
    by_mid : (object : Object) → a.object ≡ None → c.object ≡ Some object → (o : Option Object) → b.object ≡ o → a.unique < c.unique
    by_mid object none some None e = let m = f.number in let n = g.above object e some in omega (arith, m, n)
    by_mid object none some (Some mid) e = let m = f.above mid none e in let n = g.number in omega (arith, m, n)

-- the anodes of a fileset, one by one
abbrev AllRise : List Anode → List Anode → Type 0
AllRise [] [] = Unit {0}
AllRise [] (new ∷ news) = ⊥
AllRise (old ∷ olds) [] = ⊥
AllRise (old ∷ olds) (new ∷ news) = AnodeRises old new × AllRise olds news

all_stay : (anodes : List Anode) → AllRise anodes anodes
all_stay [] = tt
all_stay (anode ∷ anodes) = (stays anode, all_stay anodes)

all_through : (a b c : List Anode) → AllRise a b → AllRise b c → AllRise a c
all_through [] [] [] f g = tt
all_through [] [] (z ∷ zs) f g = absurd g
all_through [] (y ∷ ys) c f g = absurd f
all_through (x ∷ xs) [] c f g = absurd f
all_through (x ∷ xs) (y ∷ ys) [] f g = absurd g
all_through (x ∷ xs) (y ∷ ys) (z ∷ zs) f g = (through x y z f.0 g.0, all_through xs ys zs f.1 g.1)

all_changed : (anodes : List Anode) (i : ℕ) (change : Anode → Anode) → ((anode : Anode) → slice_get anodes i ≡ Some anode → AnodeRises anode (change anode)) →
    AllRise anodes (changed_at anodes i change)
all_changed [] i change rises = tt
all_changed (anode ∷ anodes) zero change rises = (rises anode refl, all_stay anodes)
all_changed (anode ∷ anodes) (suc i) change rises = (stays anode, all_changed anodes i change rises)

all_mapped : (change : Content → Content) (anodes : List Anode) → AllRise anodes (map (anode_changed change) anodes)
all_mapped change [] = tt
all_mapped change (anode ∷ anodes) = (content_rises change anode, all_mapped change anodes)
  where
    content_rises : (change : Content → Content) (anode : Anode) → AnodeRises anode (anode_changed change anode)
    content_rises change anode = keeps anode (anode_changed change anode) refl (λ none. ap (option_map (content_changed change)) none)

-- at one place
number_rises : (olds news : List Anode) (i : ℕ) → AllRise olds news →
    option_map_or (λ a. a.unique) (slice_get olds i) 0 ≤ option_map_or (λ a. a.unique) (slice_get news i) 0
number_rises [] [] i h = omega arith
number_rises [] (new ∷ news) i h = absurd h
number_rises (old ∷ olds) [] i h = absurd h
number_rises (old ∷ olds) (new ∷ news) zero h = h.0.number
number_rises (old ∷ olds) (new ∷ news) (suc i) h = number_rises olds news i h.1

new_rises : (olds news : List Anode) (i : ℕ) (object : Object) → AllRise olds news → option_and_then (λ a. a.object) (slice_get olds i) ≡ None →
    option_and_then (λ a. a.object) (slice_get news i) ≡ Some object → option_map_or (λ a. a.unique) (slice_get olds i) 0 < option_map_or (λ a. a.unique) (slice_get news i) 0
new_rises [] [] i object h none some = absurd (search (rules, some))
new_rises [] (new ∷ news) i object h none some = absurd h
new_rises (old ∷ olds) [] i object h none some = absurd h
new_rises (old ∷ olds) (new ∷ news) zero object h none some = h.0.above object none some
new_rises (old ∷ olds) (new ∷ news) (suc i) object h none some = new_rises olds news i object h.1 none some

-- one fileset
pub record Rises (old new : Fileset) : Type 0 where
  pub id : new.id ≡ old.id
  pub anodes : AllRise old.anodes new.anodes

uniques_rise : (old new : Fileset) → Rises old new → UniquesRise old new
uniques_rise old new rises = record {
  never_fall = λ anode. number_rises old.anodes new.anodes (anode - 1) rises.anodes;
  new_above = λ anode object none some.
      let place = object_not_zero new.anodes anode object some in
      new_rises old.anodes new.anodes (anode - 1) object rises.anodes (sym (object_from old.anodes anode place) ∙ none) (sym (object_from new.anodes anode place) ∙ some);
}

itself : (fileset : Fileset) → Rises fileset fileset
itself fileset = record { id = refl; anodes = all_stay fileset.anodes }

both : (a b c : Fileset) → Rises a b → Rises b c → Rises a c
both a b c f g = record { id = g.id ∙ f.id; anodes = all_through a.anodes b.anodes c.anodes f.anodes g.anodes }

content_changes : (fileset : Fileset) (anode : ℕ) (change : Content → Content) → Rises fileset (changed fileset anode change)
unfolding updated
content_changes fileset anode change = record {
  id = refl;
  anodes = all_changed fileset.anodes (anode - 1) (anode_changed change) (λ a e. keeps a (anode_changed change a) refl (λ none. ap (option_map (content_changed change)) none));
}

object_goes : (fileset : Fileset) (anode : ℕ) → Rises fileset (updated fileset anode anode_freed)
unfolding updated
object_goes fileset anode = record {
  id = refl;
  anodes = all_changed fileset.anodes (anode - 1) anode_freed (λ a e. keeps a (anode_freed a) refl (λ none. refl));
}

-- where an object comes, its number is above the one there
object_comes : (fileset : Fileset) (anode unique : ℕ) (object : Object) → unique_at fileset.anodes anode < unique → Rises fileset (updated fileset anode (occupied unique object))
unfolding updated
object_comes fileset anode unique object less = record {
  id = refl;
  anodes = all_changed fileset.anodes (anode - 1) (occupied unique object) (λ a e.
      let here : unique_at fileset.anodes anode ≡ a.unique = ap (λ o. option_map_or (λ a. a.unique) o 0) e in
      let above : a.unique < unique = omega (arith, less, here) in
      record { number = omega (arith, above); above = λ object none some. above });
}

get_of_take : {X : Type 0} (xs : List X) (n i : ℕ) (x : X) → slice_get (take n xs) i ≡ Some x → slice_get xs i ≡ Some x
get_of_take [] zero i x h = h
get_of_take [] (suc n) i x h = h
get_of_take (y ∷ ys) zero i x h = absurd (search (rules, h))
get_of_take (y ∷ ys) (suc n) zero x h = h
get_of_take (y ∷ ys) (suc n) (suc i) x h = get_of_take ys n i x h

-- the number of the next use of a vacant anode
next_use : (start : ℕ) (anodes : List Anode) (vacancy : _) → first_vacancy start anodes ≡ Ok vacancy →
    (place : ℕ) × (anode : Anode) × (vacancy.anode ≡ start + place) × (slice_get anodes place ≡ Some anode) × (vacancy.unique ≡ anode.unique + 1)
next_use start [] vacancy h = absurd (search (rules, h))
next_use start (first ∷ anodes) vacancy h =
    elim (is_vacant first) as (λ t. cond t (Ok (record { anode = start; unique = first.unique + 1 })) (first_vacancy (start + 1) anodes) ≡ Ok vacancy →
    (place : ℕ) × (anode : Anode) × (vacancy.anode ≡ start + place) × (slice_get (first ∷ anodes) place ≡ Some anode) × (vacancy.unique ≡ anode.unique + 1)) [
      | true ↦ λ k. let same = ok_is _ vacancy k in (0, first, sym (ap (λ v. v.anode) same) ∙ omega arith, refl, sym (ap (λ v. v.unique) same))
      | false ↦ λ k. let (place, anode, number, there, unique) = next_use (start + 1) anodes vacancy k in (suc place, anode, number ∙ omega arith, there, unique)
    ] h

module _ (fileset : Fileset) (user : User) (path : List (List ℕ)) where
  new_number : (kind : _) (made : _) → create_target fileset kind user path ≡ Ok made → unique_at fileset.anodes made.entry.anode < made.entry.unique
  unfolding create_target
  new_number kind made h =
      let (writable, a) = unless_ok fileset.read_only ReadOnly _ made h in
      let (parts, b, c) = then_ok (split_path path Exists) _ made a in
      let (at, d, e) = then_ok (insert_target fileset user parts.1 parts.0) _ made c in
      let (free, f, g) = then_ok (vacancy fileset) _ made e in
      let (object, i, same) = then_ok (new_object kind user at.1) _ made g in
      let (place, anode, number, there, unique) = next_use 1 (take fileset.objects fileset.anodes) free f in
      let back : free.anode - 1 ≡ place = omega (arith, number) in
      let here : unique_at fileset.anodes free.anode ≡ anode.unique
      = ap (λ i. option_map_or (λ a. a.unique) (slice_get fileset.anodes i) 0) back ∙ ap (λ o. option_map_or (λ a. a.unique) o 0) (get_of_take fileset.anodes fileset.objects place anode there) in
      let less : unique_at fileset.anodes free.anode < free.unique = omega (arith, here, unique) in
      subst (λ m. unique_at fileset.anodes m.entry.anode < m.entry.unique) (ok_is _ made same) less

  create_rises : (kind : _) → IsWellFormedFileset fileset → Rises fileset (create_answer fileset kind user path).fileset
  unfolding create_answer
  create_rises kind w = by_checks (create_target fileset kind user path) (λ made h. h)
    where
      by_checks : (checks : Result _ Refusal) → ((made : _) → checks ≡ Ok made → create_target fileset kind user path ≡ Ok made) → Rises fileset (answered fileset checks (λ made. with_object fileset made)).fileset
      by_checks (Err refusal) is_it = itself fileset
      by_checks (Ok made) is_it =
          let h = is_it made refl in
          let mid = changed fileset made.parent (content_with_entry made.entry) in
          let less : unique_at mid.anodes made.entry.anode < made.entry.unique = subst (λ n. n < made.entry.unique) (sym (unique_changed fileset made.parent (content_with_entry made.entry) made.entry.anode)) (new_number kind made h) in
          both fileset mid (with_object fileset made) (content_changes fileset made.parent (content_with_entry made.entry))
          (object_comes mid made.entry.anode made.entry.unique made.object less)

row : {A : Type 0} (fileset : Fileset) (checks : Result A Refusal) (effect : A → Fileset) → ((found : A) → Rises fileset (effect found)) → Rises fileset (answered fileset checks effect).fileset
row fileset (Ok found) effect rises = rises found
row fileset (Err refusal) effect rises = itself fileset

row_rises : (fileset : Fileset) (in_use : Fid → Bool) (host : HostId) (user : User) (call : CallOf) → IsWellFormedFileset fileset → Rises fileset (fileset_answer fileset in_use host user call).fileset
unfolding fileset_answer remove_answer rename_answer truncate_answer set_access_answer write_answer sync_answer
row_rises fileset in_use host user (Create place) w = create_rises fileset user place.path _ w
row_rises fileset in_use host user (MakeDir place) w = create_rises fileset user place.path _ w
row_rises fileset in_use host user (Remove place) w = row fileset (remove_target fileset in_use user place.path) _ (λ (parent, name, anode).
    let mid = changed fileset parent (content_without_entry name) in
    both fileset mid (updated mid anode anode_freed) (content_changes fileset parent (content_without_entry name)) (object_goes mid anode))
row_rises fileset in_use host user (Rename from to) w = row fileset (rename_target fileset user from.path to.path) _ (λ move.
    let mid = changed fileset move.to (content_with_entry move.entry) in
    both fileset mid (changed mid move.from (content_without_entry move.name)) (content_changes fileset move.to (content_with_entry move.entry)) (content_changes mid move.from (content_without_entry move.name)))
row_rises fileset in_use host user (Truncate place len) w = row fileset (write_target fileset user place.path len) _ (λ anode. content_changes fileset anode _)
row_rises fileset in_use host user (SetAcl place which list) w = row fileset (set_access_target fileset user place.path which) _ (λ anode. content_changes fileset anode _)
row_rises fileset in_use host user (Write place from bytes) w = row fileset (write_target fileset user place.path (from + length bytes)) _ (λ anode. content_changes fileset anode _)
row_rises fileset in_use host user (Sync place) w = row fileset (file_target fileset user place.path) _ (λ (anode, object). content_changes fileset anode _)
row_rises fileset in_use host user (Read place from len) w = itself fileset
row_rises fileset in_use host user (ListNames place) w = itself fileset
row_rises fileset in_use host user (Stat place) w = itself fileset
row_rises fileset in_use host user (GetAcl place which) w = itself fileset
row_rises fileset in_use host user (NewFileset server name objects owner) w = itself fileset
row_rises fileset in_use host user (CloneFileset server source new) w = itself fileset
row_rises fileset in_use host user (MoveFileset server name to) w = itself fileset
row_rises fileset in_use host user (Lock label place writing from len) w = itself fileset
row_rises fileset in_use host user (Unlock label) w = itself fileset
row_rises fileset in_use host user (OpenFile label place kind) w = itself fileset
row_rises fileset in_use host user (CloseFile label) w = itself fileset

-- the filesets of a tree, one by one
abbrev EachRises : List Fileset → List Fileset → Type 0
EachRises [] [] = Unit {0}
EachRises [] (new ∷ news) = ⊥
EachRises (old ∷ olds) [] = ⊥
EachRises (old ∷ olds) (new ∷ news) = Rises old new × EachRises olds news

each_itself : (filesets : List Fileset) → EachRises filesets filesets
each_itself [] = tt
each_itself (fileset ∷ filesets) = (itself fileset, each_itself filesets)

set_rises : (filesets : List Fileset) (place : ℕ) (old new : Fileset) → Some old ≡ slice_get filesets place → Rises old new → EachRises filesets (slice_set filesets place new)
set_rises [] place old new e rises = tt
set_rises (x ∷ xs) zero old new e rises = let same : old ≡ x = cc in (subst (λ o. Rises o new) same rises, each_itself xs)
set_rises (x ∷ xs) (suc place) old new e rises = (itself x, set_rises xs place old new e rises)

changed_rises : (filesets : List Fileset) (place : ℕ) (change : Fileset → Fileset) → ((old : Fileset) → Rises old (change old)) → EachRises filesets (changed_at filesets place change)
changed_rises [] place change rises = tt
changed_rises (x ∷ xs) zero change rises = (rises x, each_itself xs)
changed_rises (x ∷ xs) (suc place) change rises = (itself x, changed_rises xs place change rises)

map_rises : (change : Fileset → Fileset) → ((old : Fileset) → Rises old (change old)) → (filesets : List Fileset) → EachRises filesets (map change filesets)
map_rises change rises [] = tt
map_rises change rises (x ∷ xs) = (rises x, map_rises change rises xs)

-- or one comes
pub record Comes (olds news : List Fileset) : Type 0 where
  pub place : ℕ
  pub new : Fileset
  pub put : news ≡ insert olds place new
  pub fresh : IsFresh olds new.id

abbrev Grow : List Fileset → List Fileset → Type 0
Grow olds news = EachRises olds news ⊎ Comes olds news

found_rises : (id : FilesetId) (olds news : List Fileset) (old : Fileset) → EachRises olds news → find (has_id id) olds ≡ Some old → (new : Fileset) × (find (has_id id) news ≡ Some new) × UniquesRise old new
found_rises id [] [] old h e = absurd (search (rules, e))
found_rises id [] (new ∷ news) old h e = absurd h
found_rises id (x ∷ xs) [] old h e = absurd h
found_rises id (x ∷ xs) (y ∷ ys) old h e =
    let same : has_id id y ≡ has_id id x = ap (λ i. i.0 == id.0) h.0.id in
    elim (has_id id x) as (λ t. has_id id y ≡ t → cond t (Some x) (find (has_id id) xs) ≡ Some old → (new : Fileset) × (find (has_id id) (y ∷ ys) ≡ Some new) × UniquesRise old new) [
      | true ↦ λ f k. let its : x ≡ old = cc in (y, ap (λ t. cond t (Some y) (find (has_id id) ys)) f, subst (λ o. UniquesRise o y) its (uniques_rise x y h.0))
      | false ↦ λ f k. let (new, g, rises) = found_rises id xs ys old h.1 k in (new, ap (λ t. cond t (Some y) (find (has_id id) ys)) f ∙ g, rises)
    ] same e

-- what entries make of the filesets
grow_at : (tree : Tree) (place : ℕ) (found : Option Fileset) (host : HostId) (user : User) (call : CallOf) → found ≡ slice_get tree.filesets place → IsWellFormed tree →
    Grow tree.filesets (answer_at tree place found (λ fileset. fileset_answer fileset (is_used tree.locks tree.opens) host user call)).tree.filesets
grow_at tree place None host user call e w = inl (each_itself tree.filesets)
grow_at tree place (Some old) host user call e w =
    inl (set_rises tree.filesets place old (fileset_answer old (is_used tree.locks tree.opens) host user call).fileset e (row_rises old (is_used tree.locks tree.opens) host user call (formed_at tree place old e w)))

grow_place : (tree : Tree) (host : HostId) (user : User) (call : CallOf) (found : Result ℕ Refusal) → IsWellFormed tree →
    Grow tree.filesets (either found (λ place. answer_at tree place (slice_get tree.filesets place) (λ fileset. fileset_answer fileset (is_used tree.locks tree.opens) host user call)) (refuse tree)).tree.filesets
grow_place tree host user call (Ok place) w = grow_at tree place (slice_get tree.filesets place) host user call refl w
grow_place tree host user call (Err refusal) w = inl (each_itself tree.filesets)

grow_row : (tree : Tree) (host : HostId) (user : User) (call : CallOf) → IsWellFormed tree → Grow tree.filesets (fileset_row tree host user call).tree.filesets
unfolding fileset_row
grow_row tree host user call w = grow_place tree host user call (deciding_place tree call) w

grow_new : (tree : Tree) (server : ServerId) (name : List ℕ) (objects : ℕ) (owner : User) (checked : Result ServerRoom Refusal) → checked ≡ new_fileset_target tree server name objects → IsWellFormed tree →
    Grow tree.filesets (either checked (λ room. let answer : Answer = record { reply = Done; tree = with_fileset tree server room (new_fileset server (next_id server room) name objects owner) } in answer) (refuse tree)).tree.filesets
unfolding new_fileset_target new_fileset
grow_new tree server name objects owner (Ok room) e w =
    let (free, k) = unless_ok (is_taken tree server name) Exists (room_for tree server (new_promise objects)) room (sym e) in
    let is_room = room_ok tree server (new_promise objects) room k in
    inr (record { place = _; new = new_fileset server (next_id server room) name objects owner; put = refl; fresh = fresh_id tree.servers server room tree.filesets is_room.number is_room.there w.given })
grow_new tree server name objects owner (Err refusal) e w = inl (each_itself tree.filesets)

grow_clone : (tree : Tree) (user : User) (server : ServerId) (source new : List ℕ) (checked : Result (Fileset × ServerRoom) Refusal) → checked ≡ clone_target tree user server source new → IsWellFormed tree →
    Grow tree.filesets (either checked (λ (fileset, room). let answer : Answer = record { reply = Done; tree = with_fileset tree server room (cloned fileset (next_id server room) new) } in answer) (refuse tree)).tree.filesets
unfolding clone_target cloned
grow_clone tree user server source new (Ok found) e w =
    let (fileset, f, h2) = then_ok (clone_source tree user server source) _ found (sym e) in
    let (free, h3) = unless_ok (is_taken tree server new) Exists _ found h2 in
    let (room, g, h4) = then_ok (room_for tree server (clone_promise fileset)) _ found h3 in
    let is_room = room_ok tree server (clone_promise fileset) room g in
    let room_is : room ≡ found.1 = ap (λ x. x.1) (ok_is (fileset, room) found h4) in
    inr (record {
      place = _;
      new = cloned found.0 (next_id server found.1) new;
      put = refl;
      fresh = subst (λ room. IsFresh tree.filesets (next_id server room)) room_is (fresh_id tree.servers server room tree.filesets is_room.number is_room.there w.given);
    })
grow_clone tree user server source new (Err refusal) e w = inl (each_itself tree.filesets)

grow_move : (tree : Tree) (user : User) (server : ServerId) (name : List ℕ) (to : ServerId) (checked : Result (ℕ × Fileset) Refusal) → checked ≡ move_target tree user server name to →
    Grow tree.filesets (either checked (λ (place, fileset). let answer : Answer = record { reply = Done; tree = with_moved tree place fileset to } in answer) (refuse tree)).tree.filesets
unfolding moved
grow_move tree user server name to (Ok found) e =
    inl (set_rises tree.filesets found.0 found.1 (moved found.1 to) (move_ok tree user server name to found (sym e)) (record { id = refl; anodes = all_mapped content_as_cloned found.1.anodes }))
grow_move tree user server name to (Err refusal) e = inl (each_itself tree.filesets)

grow_checked : {A : Type 0} (tree : Tree) (checked : Result A Refusal) (after : A → Tree) → ((found : A) → (after found).filesets ≡ tree.filesets) →
    Grow tree.filesets (either checked (λ found. let answer : Answer = record { reply = Done; tree = after found } in answer) (refuse tree)).tree.filesets
grow_checked tree (Ok found) after same = inl (subst (λ filesets. EachRises tree.filesets filesets) (sym (same found)) (each_itself tree.filesets))
grow_checked tree (Err refusal) after same = inl (each_itself tree.filesets)

grow_freed : (b : Bool) (tree after : Tree) (refusal : Refusal) → after.filesets ≡ tree.filesets →
    Grow tree.filesets (if b then refuse tree refusal else (let answer : Answer = record { reply = Done; tree = after } in answer)).tree.filesets
grow_freed true tree after refusal same = inl (each_itself tree.filesets)
grow_freed false tree after refusal same = inl (subst (λ filesets. EachRises tree.filesets filesets) (sym same) (each_itself tree.filesets))

grow_for : (tree : Tree) (host : HostId) (call : CallOf) (user : User) → IsWellFormed tree → Grow tree.filesets (answer_for tree host call user).tree.filesets
unfolding answer_for new_fileset_answer clone_answer lock_answer unlock_answer open_answer close_answer move_answer
grow_for tree host (NewFileset server name objects owner) user w = grow_new tree server name objects owner (new_fileset_target tree server name objects) refl w
grow_for tree host (CloneFileset server source new) user w = grow_clone tree user server source new (clone_target tree user server source new) refl w
grow_for tree host (MoveFileset server name to) user w = grow_move tree user server name to (move_target tree user server name to) refl
grow_for tree host (Lock label place writing from len) user w = grow_checked tree (lock_check tree host user label place writing from len) _ (λ found. refl)
grow_for tree host (Unlock label) user w = grow_freed (not (has_lock tree.locks host label)) tree _ _ refl
grow_for tree host (OpenFile label place kind) user w = grow_checked tree (open_check tree host user label place kind) _ (λ found. refl)
grow_for tree host (CloseFile label) user w = grow_freed (not (has_open tree.opens host label)) tree _ _ refl
grow_for tree host (Create place) user w = grow_row tree host user (Create place) w
grow_for tree host (MakeDir place) user w = grow_row tree host user (MakeDir place) w
grow_for tree host (Remove place) user w = grow_row tree host user (Remove place) w
grow_for tree host (Rename from to) user w = grow_row tree host user (Rename from to) w
grow_for tree host (Truncate place len) user w = grow_row tree host user (Truncate place len) w
grow_for tree host (SetAcl place which list) user w = grow_row tree host user (SetAcl place which list) w
grow_for tree host (Read place from len) user w = grow_row tree host user (Read place from len) w
grow_for tree host (Write place from bytes) user w = grow_row tree host user (Write place from bytes) w
grow_for tree host (ListNames place) user w = grow_row tree host user (ListNames place) w
grow_for tree host (Stat place) user w = grow_row tree host user (Stat place) w
grow_for tree host (GetAcl place which) user w = grow_row tree host user (GetAcl place which) w
grow_for tree host (Sync place) user w = grow_row tree host user (Sync place) w

grow_user : (tree : Tree) (found : Option User) (host : HostId) (call : CallOf) → IsWellFormed tree → Grow tree.filesets (for_user tree found (answer_for tree host call)).tree.filesets
grow_user tree None host call w = inl (each_itself tree.filesets)
grow_user tree (Some user) host call w = grow_for tree host call user w

down_rises : (host : HostId) (server : ServerId) (fileset : Fileset) → Rises fileset (if fileset.server.0 == server.0 then fileset_forgotten host fileset else fileset)
down_rises host server fileset = by_test (fileset.server.0 == server.0)
  where
    by_test : (b : Bool) → Rises fileset (if b then fileset_forgotten host fileset else fileset)
    by_test true = record { id = refl; anodes = all_mapped (content_forgotten host) fileset.anodes }
    by_test false = itself fileset

grow : (tree : Tree) (entry : Entry) → IsWellFormed tree → Grow tree.filesets (after_entry tree entry).filesets
unfolding answer_to stored_tree down_tree left_tree
grow tree (Call host k call reply) w = grow_user tree (user_of tree.roster host) host call w
grow tree (Stored host fid spans stored) w = inl (changed_rises tree.filesets _ (λ fileset. changed fileset fid.anode (content_stored host spans stored)) (λ fileset. content_changes fileset fid.anode (content_stored host spans stored)))
grow tree (Down host server) w = inl (map_rises (λ fileset. if fileset.server.0 == server.0 then fileset_forgotten host fileset else fileset) (down_rises host server) tree.filesets)
grow tree (Left server id) w = inl (each_itself tree.filesets)

-- where one comes, another stays found
stays_found : (id : FilesetId) (olds news : List Fileset) (old : Fileset) → Comes olds news → find (has_id id) olds ≡ Some old → find (has_id id) news ≡ Some old
stays_found id olds news old comes e =
    ap (find (has_id id)) comes.put
    ∙ elim (has_id id comes.new) as (λ t. has_id id comes.new ≡ t → find (has_id id) (insert olds comes.place comes.new) ≡ Some old) [
      | true ↦ λ f. let wrong : None ≡ Some old = sym (fresh_none olds comes.new.id id comes.fresh f) ∙ e in absurd (search (rules, wrong))
      | false ↦ λ f. find_insert (has_id id) comes.new comes.place olds f ∙ e
    ] refl

pub all_uniques_rise : AllUniquesRise
all_uniques_rise tree entry w id old e = by_growth (grow tree entry w)
  where
    by_growth : Grow tree.filesets (after_entry tree entry).filesets → (new : Fileset) × (find (has_id id) (after_entry tree entry).filesets ≡ Some new) × UniquesRise old new
    by_growth (inl rises) = found_rises id tree.filesets (after_entry tree entry).filesets old rises e
    by_growth (inr comes) = (old, stays_found id tree.filesets (after_entry tree entry).filesets old comes e, uniques_rise old old (itself old))

pub roots_are_first : RootsAreFirst
roots_are_first tree id fileset w e = (formed_found (has_id id) tree.filesets fileset w.filesets e).first
