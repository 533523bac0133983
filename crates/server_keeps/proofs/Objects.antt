-- The objects of a fileset, and its root, as the store of its server tells them.
use Rattle.std.proofs.Common.{Bool, Err, List, None, Ok, Option, Result, Some, [], ap, cond, false, length, refl, subst}
use Rattle.std.proofs.Common.{suc, sym, true, ℕ, ◌+◌, ◌-◌, ◌==◌, ◌≢◌, ◌≤◌, ◌∙◌, ◌≡◌, ◌∷◌, arith, take_all}
use Rattle.std.proofs.lemmas.Grind.{common_steps}
use Rattle.std.specs.List.{filter, find}
use Rattle.std.specs.Option.{option_map, option_map_or}
use Rattle.std.specs.Prelude.{if◌then◌else◌, is_some, not, option_and_then, slice_get, take}
use Rattle.base_types.specs.Access.{allows, rights_of}
use Rattle.base_types.specs.declared.access.AccessEntry.{AccessEntry}
use Rattle.base_types.specs.Outcomes.{and_then}
use Rattle.base_types.specs.declared.ids.Fid.{Fid}
use Rattle.base_types.specs.declared.ids.FilesetId.{FilesetId}
use Rattle.base_types.specs.declared.limits.TheConstants.{OBJECTS_MAX}
use Rattle.base_types.specs.declared.user.User.{User}
use Rattle.tree_calls.specs.declared.part.Status.{Status}
use Rattle.tree_calls.specs.declared.reply.Refusal.{Refusal}
use Rattle.tree_calls.specs.declared.reply.Refusal.TheVariants.{Denied, ReadOnly}
use Rattle.tree_objects.specs.Objects.{is_dir, own_list, own_rights, rights_by}
use Rattle.tree_objects.specs.declared.content.Anode.{Anode}
use Rattle.tree_objects.specs.declared.content.Content.{Content}
use Rattle.tree_objects.specs.declared.content.Content.TheVariants.{Dir, File}
use Rattle.tree_objects.specs.declared.content.Object.{Object}
use Rattle.tree_filesets.proofs.Observations.{object_from}
use Rattle.tree_filesets.specs.Checks.{permission, unless}
use Rattle.tree_filesets.specs.Founding.{control_check}
use Rattle.tree_filesets.specs.Laws.{lists_in}
use Rattle.tree_filesets.specs.Rights.{control_right}
use Rattle.tree_filesets.specs.Walk.{found_at, object_at, target, unique_at}
use Rattle.tree_filesets.specs.declared.fileset.Fileset.{Fileset}
use Rattle.tree_answers.specs.Finding.{has_id}
use Rattle.tree_answers.specs.declared.tree.Tree.{Tree}
use Rattle.tree_laws.specs.Losses.{use_of}
use Rattle.need_host.specs.Walks.{root_of}
use Rattle.need_server.specs.Wants.{all_objects_of, files_of, objects_from}
use Rattle.store_acts.specs.Parts.{status_of}
use Rattle.store_memory.specs.Reading.{fids_from, status_told, files_of as objects_told}
use Rattle.store_state.specs.declared.state.StoreState.{StoreState}
use Rattle.run_stores.proofs.Tells.{formed_found, kept_found, status_is}
use Rattle.run_stores.specs.Keeping.{StandsFor}
use Rattle.server_keeps.specs.Asking.{has_right, is_file_told}

same_fid : (id : FilesetId) (at a b : ℕ) → a ≡ b
    → (let one : Fid = record { fileset = id; anode = at; unique = a } in one)
    ≡ (let other : Fid = record { fileset = id; anode = at; unique = b } in other)
same_fid id at a b e = ap (λ u. let fid : Fid = record { fileset = id; anode = at; unique = u } in fid) e

itself : (n : ℕ) → (n == n) ≡ true
itself n = grind (arith, common_steps)

abbrev any_fid : Fid → Bool
any_fid fid = true

abbrev any_object : Object → Bool
any_object object = true

abbrev is_file : Object → Bool
is_file object = not (is_dir object.content)

all_kept : (xs : List Fid) → filter any_fid xs ≡ xs
all_kept [] = refl
all_kept (x ∷ xs) = ap (λ ys. x ∷ ys) (all_kept xs)

module _ (tree : Tree) (state : StoreState) (f : Fileset) (s : StandsFor tree state)
    (known : find (has_id f.id) tree.filesets ≡ Some f) where
  -- what stands at an anode is told
  file_told : (at : ℕ) (anode : Anode) (object : Object) → object_at f.anodes at ≡ anode.object
      → unique_at f.anodes at ≡ anode.unique → anode.object ≡ Some object
      → is_file_told state (record { fileset = f.id; anode = at; unique = anode.unique }) ≡ is_file object
  file_told at anode object there unique some =
      ap (λ o. option_map_or (λ (status : Status). not status.dir) o false)
      (status_is tree state (record { fileset = f.id; anode = at; unique = anode.unique }) s
      ∙ ap (λ found. option_and_then (λ (fileset : Fileset). option_map (status_of fileset.read_only)
      (if unique_at fileset.anodes at == anode.unique then object_at fileset.anodes at else None)) found) known
      ∙ ap (λ b. option_map (status_of f.read_only) (if b then object_at f.anodes at else None))
      (ap (λ u. u == anode.unique) unique ∙ itself anode.unique)
      ∙ ap (option_map (status_of f.read_only)) (there ∙ some))

  abbrev Stands : ℕ → List Anode → Type 0
  Stands at rest = (i : ℕ) (anode : Anode) → slice_get rest i ≡ Some anode
      → (object_at f.anodes (at + i) ≡ anode.object) × (unique_at f.anodes (at + i) ≡ anode.unique)

  -- the objects that pass a test, told by another one
  module _ (told : Fid → Bool) (test : Object → Bool)
      (alike : (at : ℕ) (anode : Anode) (object : Object) → object_at f.anodes at ≡ anode.object
      → unique_at f.anodes at ≡ anode.unique → anode.object ≡ Some object
      → told (record { fileset = f.id; anode = at; unique = anode.unique }) ≡ test object) where
    some_from : (at : ℕ) (rest : List Anode) → Stands at rest
        → filter told (fids_from f.id at rest) ≡ objects_from test f at rest
    some_from at [] k = refl
    some_from at (anode ∷ rest) k =
        by anode.object refl (some_from (at + 1) rest (λ i a e.
        (let same : (at + 1) + i ≡ at + suc i = omega arith in
        subst (λ n. (object_at f.anodes n ≡ a.object) × (unique_at f.anodes n ≡ a.unique)) (sym same) (k (suc i) a e))))
      where
        here : (object_at f.anodes at ≡ anode.object) × (unique_at f.anodes at ≡ anode.unique)
        here =
            let same : at + 0 ≡ at = omega arith in
            subst (λ n. (object_at f.anodes n ≡ anode.object) × (unique_at f.anodes n ≡ anode.unique)) same
            (k 0 anode refl)

        more : List Fid
        more = objects_from test f (at + 1) rest

        by : (o : Option Object) → anode.object ≡ o → filter told (fids_from f.id (at + 1) rest) ≡ more
            → filter told (if is_some o
            then record { fileset = f.id; anode = at; unique = anode.unique } ∷ fids_from f.id (at + 1) rest
            else fids_from f.id (at + 1) rest)
            ≡ (if option_map_or test o false then use_of f at ∷ more else more)
        by None e rest_is = rest_is
        by (Some object) e rest_is =
            ap (λ b. cond b (record { fileset = f.id; anode = at; unique = anode.unique }
            ∷ filter told (fids_from f.id (at + 1) rest)) (filter told (fids_from f.id (at + 1) rest)))
            (alike at anode object here.0 here.1 e)
            ∙ ap (λ xs. cond (test object)
            (record { fileset = f.id; anode = at; unique = anode.unique } ∷ xs) xs) rest_is
            ∙ ap (λ fid. cond (test object) (fid ∷ more) more)
            (same_fid f.id at anode.unique (unique_at f.anodes at) (sym here.1))

    all_stand : Stands 1 f.anodes
    all_stand i anode e =
        let some : (1 + i) ≢ 0 = omega arith in
        let place : (1 + i) - 1 ≡ i = omega arith in
        let got : slice_get f.anodes ((1 + i) - 1) ≡ Some anode = ap (slice_get f.anodes) place ∙ e in (
          object_from f.anodes (1 + i) some ∙ ap (option_and_then (λ (a : Anode). a.object)) got,
          ap (λ o. option_map_or (λ (a : Anode). a.unique) o 0) got,
        )

    some_are : filter told (objects_told state f.id) ≡ objects_from test f 1 f.anodes
    some_are =
        let w = formed_found tree state f.id f s known in
        let count = w.count in
        let limit = w.limit in
        let few : length f.anodes ≤ OBJECTS_MAX = omega (arith, count, limit) in
        ap (λ found. filter told
        (option_map_or (λ (fileset : Fileset). fids_from f.id 1 (take OBJECTS_MAX fileset.anodes)) found []))
        (kept_found tree state f.id s ∙ known)
        ∙ ap (λ anodes. filter told (fids_from f.id 1 anodes)) (take_all OBJECTS_MAX f.anodes few)
        ∙ some_from 1 f.anodes all_stand

  pub files_are : filter (is_file_told state) (objects_told state f.id) ≡ files_of f
  files_are = some_are (is_file_told state) is_file file_told

  pub objects_are : objects_told state f.id ≡ all_objects_of f
  objects_are =
      sym (all_kept (objects_told state f.id)) ∙ some_are any_fid any_object (λ at anode object there unique some. refl)

  -- the root, which is there
  pub root_is : (root : Object) × (object_at f.anodes 1 ≡ Some root)
  root_is = by (object_at f.anodes 1) refl (formed_found tree state f.id f s known).root
    where
      by : (o : Option Object) → object_at f.anodes 1 ≡ o
          → option_map_or (λ (object : Object). is_dir object.content) o false ≡ true
          → (root : Object) × (object_at f.anodes 1 ≡ Some root)
      by None e h = absurd (cc)
      by (Some root) e h = (root, e)

  pub root_told : (root : Object) → object_at f.anodes 1 ≡ Some root
      → status_told state (root_of f.id) ≡ Some (status_of f.read_only root)
  root_told root there =
      status_is tree state (root_of f.id) s
      ∙ ap (λ found. option_and_then (λ (fileset : Fileset). option_map (status_of fileset.read_only)
      (if unique_at fileset.anodes 1 == 1 then object_at fileset.anodes 1 else None)) found) known
      ∙ ap (λ u. option_map (status_of f.read_only) (if u == 1 then object_at f.anodes 1 else None))
      (formed_found tree state f.id f s known).first
      ∙ ap (option_map (status_of f.read_only)) there

-- what its status tells of a right that nobody has without a list
pub right_told : (read_only : Bool) (object : Object) (user : User) (right : ℕ) → allows 0 right ≡ false
    → has_right (status_of read_only object) user right ≡ allows (own_rights object user) right
right_told read_only object user right none = by object.content
  where
    from : (o : Option (List AccessEntry))
        → option_map_or (λ list. allows (rights_of list object.owner object.group user) right) o false
        ≡ allows (rights_by o object user) right
    from None = sym none
    from (Some list) = refl

    by : (content : Content)
        → option_map_or (λ list. allows (rights_of list object.owner object.group user) right)
        (slice_get (lists_in content) 0) false
        ≡ allows (rights_by (own_list content) object user) right
    by (Dir entries lists) = from (slice_get lists 0)
    by (File list kept unsaved len) = refl

-- what the check of a clone or a move finds
abbrev pub control_found : Bool → Bool → Result (Unit {0}) Refusal
control_found read_only allowed =
    if read_only then Err ReadOnly else (if allowed then Ok tt else Err (Denied control_right))

pub control_is : (f : Fileset) (user : User) (root : Object) → object_at f.anodes 1 ≡ Some root
    → control_check f user ≡ control_found f.read_only (allows (own_rights root user) control_right)
unfolding control_check target
control_is f user root there =
    ap (λ o. unless f.read_only ReadOnly (and_then (found_at 1 o) (λ (anode, object).
    permission object user control_right))) there
    ∙ by f.read_only
  where
    by : (b : Bool) → unless b ReadOnly (permission root user control_right)
        ≡ control_found b (allows (own_rights root user) control_right)
    by true = refl
    by false = refl
