-- What is kept of a tree answers a Lock and an OpenFile as the tree does.
use Rattle.std.proofs.Common.{◌≡◌, ℕ, nat_le, Bool, ◌&&◌, List, Ok, refl, ap, ◌∙◌}
use Rattle.std.specs.Prelude.{if◌then◌else◌}
use Rattle.base_types.specs.Outcomes.{and_then, either}
use Rattle.base_types.specs.declared.ids.Fid.{Fid}
use Rattle.base_types.specs.declared.ids.HostId.{HostId}
use Rattle.base_types.specs.declared.ids.OpenKind.{OpenKind}
use Rattle.base_types.specs.declared.limits.TheConstants.{LABELS_MAX}
use Rattle.base_types.specs.declared.span.Span.{Span}
use Rattle.base_types.specs.declared.user.User.{User}
use Rattle.tree_calls.specs.declared.call.Call.TheVariants.{Lock, OpenFile}
use Rattle.tree_calls.specs.declared.place.Place.{Place}
use Rattle.tree_calls.specs.declared.reply.Refusal.TheVariants.{ReadOnly, TooMany, AlreadyLocked, AlreadyOpened}
use Rattle.tree_calls.specs.declared.reply.Reply.TheVariants.{Ok as Done}
use Rattle.tree_filesets.specs.Rights.{read_right, write_right}
use Rattle.tree_filesets.specs.declared.fileset.Fileset.{Fileset}
use Rattle.tree_filesets.specs.Checks.{unless, permission}
use Rattle.tree_filesets.specs.Uses.{use_target, lock_target, open_target, is_changing, right_to_open}
use Rattle.tree_filesets.specs.Walk.{file_target}
use Rattle.tree_answers.specs.declared.tree.Tree.{Tree}
use Rattle.tree_answers.specs.declared.tree.LockUse.{LockUse}
use Rattle.tree_answers.specs.declared.tree.OpenUse.{OpenUse}
use Rattle.tree_answers.specs.Answers.{answer_for}
use Rattle.tree_answers.specs.Finding.{Answer, refuse, fileset_named}
use Rattle.tree_answers.specs.Locks.{has_lock, lock_count, lock_check, with_lock, lock_answer}
use Rattle.tree_answers.specs.Opens.{has_open, open_count, open_check, with_open, open_answer}
use Rattle.tree_laws.proofs.Steps.{then_same, then_then}
use Rattle.need_server.specs.Kept.{kept_fileset, kept_tree, kept_answer}
use Rattle.need_server.proofs.Kept.{then_first, settled_object, same_permit, kept_use_of}
use Rattle.need_server.proofs.KeptFiles.{kept_file}
use Rattle.need_server.proofs.KeptTree.{same_named, kept_checked}

-- a file to be used
kept_use : (fileset : Fileset) (user : User) (path : List (List ℕ)) (changing : Bool) (right : ℕ) → use_target (kept_fileset fileset) user path changing right ≡ use_target fileset user path changing right
unfolding use_target
kept_use fileset user path changing right =
    then_first _ _ _ (kept_file fileset user path)
    ∙ then_then (file_target fileset user path) (λ found. Ok (found.0, settled_object found.1)) _
    ∙ then_same (file_target fileset user path) _ _ (λ found h. ap (λ next. unless (changing && fileset.read_only) ReadOnly next)
    (then_first _ _ _ (same_permit found.1 user right) ∙ ap (λ fid. and_then (permission found.1 user right) (λ _. Ok fid)) (kept_use_of fileset found.0)))

pub kept_lock : (fileset : Fileset) (user : User) (path : List (List ℕ)) (writing : Bool) → lock_target (kept_fileset fileset) user path writing ≡ lock_target fileset user path writing
kept_lock fileset user path writing = kept_use fileset user path writing (if writing then write_right else read_right)

pub kept_open : (fileset : Fileset) (user : User) (path : List (List ℕ)) (kind : OpenKind) → open_target (kept_fileset fileset) user path kind ≡ open_target fileset user path kind
kept_open fileset user path kind = kept_use fileset user path (is_changing kind) (right_to_open kind)

-- Lock
check_kept : (tree : Tree) (host : HostId) (user : User) (label : List ℕ) (place : Place) (writing : Bool) (from len : ℕ) → lock_check (kept_tree tree) host user label place writing from len ≡ lock_check tree host user label place writing from len
unfolding lock_check
check_kept tree host user label place writing from len =
    ap (λ next. unless (has_lock tree.locks host label) AlreadyLocked (unless (nat_le LABELS_MAX (lock_count tree.locks host)) TooMany next))
    (then_first _ _ _ (same_named tree place.server place.fileset)
    ∙ then_then (fileset_named tree place.server place.fileset) (λ fileset. Ok (kept_fileset fileset)) _
    ∙ then_same (fileset_named tree place.server place.fileset) _ _ (λ fileset h. then_first _ _ _ (kept_lock fileset user place.path writing)))

pub kept_locked : (tree : Tree) (host : HostId) (user : User) (label : List ℕ) (place : Place) (writing : Bool) (from len : ℕ) → answer_for (kept_tree tree) host (Lock label place writing from len) user ≡ kept_answer (answer_for tree host (Lock label place writing from len) user)
unfolding answer_for lock_answer
kept_locked tree host user label place writing from len =
    let new = λ (found : Fid × Span). let lock : LockUse = record { host = host; label = label; fid = found.0; writing = writing; span = found.1 } in lock in
    ap (λ checked. either checked (λ found. let answer : Answer = record { reply = Done; tree = with_lock (kept_tree tree) (new found) } in answer) (refuse (kept_tree tree)))
    (check_kept tree host user label place writing from len)
    ∙ kept_checked tree (lock_check tree host user label place writing from len) (λ found. with_lock tree (new found)) (λ found. with_lock (kept_tree tree) (new found)) (λ found h. refl)

-- OpenFile
opens_kept : (tree : Tree) (host : HostId) (user : User) (label : List ℕ) (place : Place) (kind : OpenKind) → open_check (kept_tree tree) host user label place kind ≡ open_check tree host user label place kind
unfolding open_check
opens_kept tree host user label place kind =
    ap (λ next. unless (has_open tree.opens host label) AlreadyOpened (unless (nat_le LABELS_MAX (open_count tree.opens host)) TooMany next))
    (then_first _ _ _ (same_named tree place.server place.fileset)
    ∙ then_then (fileset_named tree place.server place.fileset) (λ fileset. Ok (kept_fileset fileset)) _
    ∙ then_same (fileset_named tree place.server place.fileset) _ _ (λ fileset h. then_first _ _ _ (kept_open fileset user place.path kind)))

pub kept_opened : (tree : Tree) (host : HostId) (user : User) (label : List ℕ) (place : Place) (kind : OpenKind) → answer_for (kept_tree tree) host (OpenFile label place kind) user ≡ kept_answer (answer_for tree host (OpenFile label place kind) user)
unfolding answer_for open_answer
kept_opened tree host user label place kind =
    let new = λ (fid : Fid). let opened : OpenUse = record { host = host; label = label; fid = fid; kind = kind } in opened in
    ap (λ checked. either checked (λ fid. let answer : Answer = record { reply = Done; tree = with_open (kept_tree tree) (new fid) } in answer) (refuse (kept_tree tree)))
    (opens_kept tree host user label place kind)
    ∙ kept_checked tree (open_check tree host user label place kind) (λ fid. with_open tree (new fid)) (λ fid. with_open (kept_tree tree) (new fid)) (λ fid h. refl)
