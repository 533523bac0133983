-- The want for a call is the same on what is kept.
use Rattle.std.proofs.Common.{◌≡◌, ℕ, ◌+◌, nat_lt, Bool, true, false, not, List, [], ◌∷◌, ◌++◌, Option, Some, None, Result, Ok, Err, refl, ap, ◌∙◌}
use Rattle.std.specs.Prelude.{map, if◌then◌else◌}
use Rattle.std.specs.List.{flat_map}
use Rattle.std.specs.Option.{option_map, option_map_or}
use Rattle.base_types.specs.Outcomes.{and_then}
use Rattle.base_types.specs.declared.ids.ServerId.{ServerId}
use Rattle.base_types.specs.declared.limits.TheConstants.{FILE_BYTES_MAX}
use Rattle.base_types.specs.declared.user.User.{User}
use Rattle.tree_calls.specs.declared.call.Call.{Call}
use Rattle.tree_calls.specs.declared.call.Call.TheVariants.{NewFileset, Create, MakeDir, Remove, Rename, Truncate, SetAcl, CloneFileset, Read, Write, List as ListNames, Stat, GetAcl, Sync, Lock, Unlock, OpenFile, CloseFile, MoveFileset}
use Rattle.tree_calls.specs.declared.reply.Refusal.{Refusal}
use Rattle.tree_calls.specs.declared.reply.Refusal.TheVariants.{TooBig}
use Rattle.tree_objects.specs.declared.content.Anode.{Anode}
use Rattle.tree_objects.specs.declared.content.Content.{Content}
use Rattle.tree_objects.specs.declared.content.Content.TheVariants.{Dir, File}
use Rattle.tree_objects.specs.declared.content.Object.{Object}
use Rattle.tree_objects.specs.Changes.{anode_changed}
use Rattle.tree_objects.specs.Objects.{is_dir}
use Rattle.tree_filesets.specs.declared.fileset.Fileset.{Fileset}
use Rattle.tree_filesets.specs.Checks.{unless}
use Rattle.tree_answers.specs.declared.tree.Tree.{Tree}
use Rattle.tree_answers.specs.Finding.{fileset_named, same_fileset}
use Rattle.tree_answers.specs.Founding.{clone_source}
use Rattle.tree_answers.specs.Moving.{move_source}
use Rattle.tree_laws.specs.Losses.{use_of}
use Rattle.token_types.specs.declared.token.Kind.TheVariants.{Status}
use Rattle.token_types.specs.declared.token.Need.{Need}
use Rattle.need_host.specs.Questions.{fileset_of}
use Rattle.need_server.specs.Kept.{content_settled, kept_fileset, kept_tree}
use Rattle.need_server.specs.Wants.{all_of, every_use_of, objects_from, files_of, all_objects_of, want_for, want_in, want_named, want}
use Rattle.need_server.specs.Laws.{WantsAreKept}
use Rattle.need_server.proofs.Kept.{settled_object, kept_use_of, kept_creation, kept_remove, kept_rename, kept_listed}
use Rattle.need_server.proofs.KeptFiles.{kept_write}
use Rattle.need_server.proofs.KeptFounds.{source_same, moving_same}
use Rattle.need_server.proofs.KeptTree.{same_named}
use Rattle.need_server.proofs.KeptUses.{kept_lock, kept_open}

-- the same checks, and the same needs for what they find
want_same : {A : Type 0} (checks other : Result A Refusal) (f g : A → List Need) → checks ≡ other → ((found : A) → f found ≡ g found) → want_for checks f ≡ want_for other g
want_same checks other f g same each = ap (λ r. want_for r f) same ∙ by_found other
  where
    by_found : (found : Result _ Refusal) → want_for found f ≡ want_for found g
    by_found (Ok value) = each value
    by_found (Err refusal) = refl

module _ (fileset : Fileset) (user : User) where
  all_same : (anode : ℕ) → all_of true (use_of (kept_fileset fileset) anode) ≡ all_of true (use_of fileset anode)
  all_same anode = ap (all_of true) (kept_use_of fileset anode)

  in_same : (call : Call) → want_in (kept_fileset fileset) user call ≡ want_in fileset user call
  unfolding want_in
  in_same (Create place) = want_same _ _ _ _ (kept_creation fileset user false place.path) (λ found. all_same found.0)
  in_same (MakeDir place) = want_same _ _ _ _ (kept_creation fileset user true place.path) (λ found. all_same found.0)
  in_same (Remove place) = want_same _ _ _ _ (kept_remove fileset user (λ fid. false) place.path) (λ found.
      ap (λ needs. needs ++ all_of true (use_of (kept_fileset fileset) found.2) ++ every_use_of (use_of (kept_fileset fileset) found.2)) (all_same found.0)
      ∙ ap (λ fid. all_of true (use_of fileset found.0) ++ all_of true fid ++ every_use_of fid) (kept_use_of fileset found.2))
  in_same (Rename from to) = ap (λ needs. if same_fileset from to then needs else []) (want_same _ _ _ _ (kept_rename fileset user from.path to.path) (λ move.
      ap (λ needs. needs ++ all_of true (use_of (kept_fileset fileset) move.to)) (all_same move.from) ∙ ap (λ needs. all_of true (use_of fileset move.from) ++ needs) (all_same move.to)))
  in_same (Truncate place len) = want_same _ _ _ _ (kept_write fileset user place.path len) (λ anode. all_same anode)
  in_same (SetAcl place which list) = want_same _ _ _ _ (kept_listed fileset user place.path which) (λ anode. ap (λ fid. let need : Need = record { fid = fid; kind = Status true } in need ∷ []) (kept_use_of fileset anode))
  in_same (Lock label place writing from len) =
      want_same _ _ _ _ (ap (λ found. and_then found (λ fid. unless (nat_lt FILE_BYTES_MAX (from + len)) TooBig (Ok fid))) (kept_lock fileset user place.path writing)) (λ fid. refl)
  in_same (OpenFile label place kind) = want_same _ _ _ _ (kept_open fileset user place.path kind) (λ fid. refl)
  in_same (NewFileset server name objects owner) = refl
  in_same (CloneFileset server source new) = refl
  in_same (MoveFileset server name to) = refl
  in_same (Read place from len) = refl
  in_same (Write place from bytes) = refl
  in_same (ListNames place) = refl
  in_same (Stat place) = refl
  in_same (GetAcl place which) = refl
  in_same (Sync place) = refl
  in_same (Unlock label) = refl
  in_same (CloseFile label) = refl

-- the objects of a fileset
objects_same : (test : Object → Bool) (fileset : Fileset) → ((object : Object) → test (settled_object object) ≡ test object) → (at : ℕ) (anodes : List Anode) →
    objects_from test (kept_fileset fileset) at (map (anode_changed content_settled) anodes) ≡ objects_from test fileset at anodes
objects_same test fileset same at [] = refl
objects_same test fileset same at (anode ∷ anodes) =
    ap (λ b. if b then use_of (kept_fileset fileset) at ∷ objects_from test (kept_fileset fileset) (at + 1) (map (anode_changed content_settled) anodes) else objects_from test (kept_fileset fileset) (at + 1) (map (anode_changed content_settled) anodes)) (tested anode.object)
    ∙ ap (λ rest. if option_map_or test anode.object false then use_of (kept_fileset fileset) at ∷ rest else rest) (objects_same test fileset same (at + 1) anodes)
    ∙ ap (λ fid. if option_map_or test anode.object false then fid ∷ objects_from test fileset (at + 1) anodes else objects_from test fileset (at + 1) anodes) (kept_use_of fileset at)
  where
    tested : (o : Option Object) → option_map_or test (option_map settled_object o) false ≡ option_map_or test o false
    tested None = refl
    tested (Some object) = same object

files_same : (fileset : Fileset) → files_of (kept_fileset fileset) ≡ files_of fileset
files_same fileset = objects_same (λ object. not (is_dir object.content)) fileset (λ object. ap not (by_content object.content)) 1 fileset.anodes
  where
    by_content : (content : Content) → is_dir (content_settled content) ≡ is_dir content
    by_content (Dir entries lists) = refl
    by_content (File list kept unsaved len) = refl

want_then : {A : Type 0} (checks : Result A Refusal) (change : A → A) (needs : A → List Need) → ((found : A) → needs (change found) ≡ needs found) → want_for (and_then checks (λ found. Ok (change found))) needs ≡ want_for checks needs
want_then (Ok value) change needs same = same value
want_then (Err refusal) change needs same = refl

named_same : (tree : Tree) (user : User) (call : Call) (o : Option (ServerId × List ℕ)) → want_named (kept_tree tree) user call o ≡ want_named tree user call o
named_same tree user call None = refl
named_same tree user call (Some (server, name)) =
    ap (λ found. want_for found (λ fileset. want_in fileset user call)) (same_named tree server name)
    ∙ want_then (fileset_named tree server name) kept_fileset (λ fileset. want_in fileset user call) (λ fileset. in_same fileset user call)

pub wants_are_kept : WantsAreKept
unfolding want
wants_are_kept tree user (CloneFileset server source new) =
    ap (λ found. want_for found (λ fileset. flat_map (all_of false) (files_of fileset))) (source_same tree user server source)
    ∙ want_then (clone_source tree user server source) kept_fileset (λ fileset. flat_map (all_of false) (files_of fileset)) (λ fileset. ap (flat_map (all_of false)) (files_same fileset))
wants_are_kept tree user (MoveFileset server name to) =
    ap (λ found. want_for found (λ found. flat_map (λ fid. all_of true fid ++ every_use_of fid) (all_objects_of found.1))) (moving_same tree user server name)
    ∙ want_then (move_source tree user server name) (λ found. (found.0, kept_fileset found.1)) (λ found. flat_map (λ fid. all_of true fid ++ every_use_of fid) (all_objects_of found.1))
    (λ found. ap (flat_map (λ fid. all_of true fid ++ every_use_of fid)) (objects_same (λ object. true) found.1 (λ object. refl) 1 found.1.anodes))
wants_are_kept tree user (NewFileset server name objects owner) = named_same tree user (NewFileset server name objects owner) (fileset_of (NewFileset server name objects owner))
wants_are_kept tree user (Create place) = named_same tree user (Create place) (fileset_of (Create place))
wants_are_kept tree user (MakeDir place) = named_same tree user (MakeDir place) (fileset_of (MakeDir place))
wants_are_kept tree user (Remove place) = named_same tree user (Remove place) (fileset_of (Remove place))
wants_are_kept tree user (Rename from to) = named_same tree user (Rename from to) (fileset_of (Rename from to))
wants_are_kept tree user (Truncate place len) = named_same tree user (Truncate place len) (fileset_of (Truncate place len))
wants_are_kept tree user (SetAcl place which list) = named_same tree user (SetAcl place which list) (fileset_of (SetAcl place which list))
wants_are_kept tree user (Read place from len) = named_same tree user (Read place from len) (fileset_of (Read place from len))
wants_are_kept tree user (Write place from bytes) = named_same tree user (Write place from bytes) (fileset_of (Write place from bytes))
wants_are_kept tree user (ListNames place) = named_same tree user (ListNames place) (fileset_of (ListNames place))
wants_are_kept tree user (Stat place) = named_same tree user (Stat place) (fileset_of (Stat place))
wants_are_kept tree user (GetAcl place which) = named_same tree user (GetAcl place which) (fileset_of (GetAcl place which))
wants_are_kept tree user (Sync place) = named_same tree user (Sync place) (fileset_of (Sync place))
wants_are_kept tree user (Lock label place writing from len) = named_same tree user (Lock label place writing from len) (fileset_of (Lock label place writing from len))
wants_are_kept tree user (Unlock label) = named_same tree user (Unlock label) (fileset_of (Unlock label))
wants_are_kept tree user (OpenFile label place kind) = named_same tree user (OpenFile label place kind) (fileset_of (OpenFile label place kind))
wants_are_kept tree user (CloseFile label) = named_same tree user (CloseFile label) (fileset_of (CloseFile label))
