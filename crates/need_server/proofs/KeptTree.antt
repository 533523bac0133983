-- What is kept of a tree answers Changes of names and lists as the tree does.
use Rattle.std.proofs.Common.{◌≡◌, ℕ, zero, suc, ◌+◌, nat_lt, Bool, true, false, ◌||◌, not, cond, List, [], ◌∷◌, length, Option, Some, None, Result, Ok, Err, refl, ap, ◌∙◌}
use Rattle.std.specs.Prelude.{slice_get, slice_set, map, if◌then◌else◌}
use Rattle.std.specs.List.{find, position, prefix_len, list_any}
use Rattle.std.specs.Option.{option_map}
use Rattle.base_types.specs.Outcomes.{and_then, either}
use Rattle.base_types.specs.declared.ids.HostId.{HostId}
use Rattle.base_types.specs.declared.ids.FilesetId.{FilesetId}
use Rattle.base_types.specs.declared.ids.ServerId.{ServerId}
use Rattle.base_types.specs.declared.user.User.{User}
use Rattle.tree_calls.specs.declared.call.Call.{Call}
use Rattle.tree_calls.specs.declared.call.Call.TheVariants.{NewFileset, Create, MakeDir, Remove, Rename, Truncate, SetAcl, CloneFileset, Read, Write, List as ListNames, Stat, GetAcl, Sync, Lock, Unlock, OpenFile, CloseFile, MoveFileset}
use Rattle.tree_calls.specs.declared.reply.Refusal.{Refusal}
use Rattle.tree_calls.specs.declared.reply.Refusal.TheVariants.{NoFileset, CrossFileset}
use Rattle.tree_calls.specs.declared.reply.Reply.TheVariants.{Ok as Done}
use Rattle.tree_filesets.specs.Checks.{unless}
use Rattle.tree_filesets.specs.declared.fileset.Fileset.{Fileset}
use Rattle.tree_filesets.specs.Answers.{Answered}
use Rattle.tree_filesets.specs.Rows.{fileset_answer}
use Rattle.tree_answers.specs.declared.tree.Tree.{Tree}
use Rattle.tree_answers.specs.Away.{away_id}
use Rattle.tree_answers.specs.Finding.{Answer, refuse, found_or, is_named, is_here, has_this_id, leads_to, fileset_place, fileset_named, same_fileset}
use Rattle.tree_answers.specs.Answers.{for_user, answer_at, deciding_place, fileset_row, answer_for}
use Rattle.tree_answers.specs.Uses.{is_used}
use Rattle.tree_laws.proofs.Steps.{no_file, find_mapped}
use Rattle.need_server.proofs.Kept.{kept_answered, changes_names, row_kept}
use Rattle.need_server.specs.Kept.{kept_fileset, kept_tree, kept_answer}

-- lists in which each element is changed
pub length_mapped : {X Y : Type 0} (f : X → Y) (xs : List X) → length (map f xs) ≡ length xs
length_mapped f [] = refl
length_mapped f (x ∷ xs) = ap suc (length_mapped f xs)

pub prefix_mapped : {X : Type 0} (p : X → Bool) (f : X → X) → ((x : X) → p (f x) ≡ p x) → (xs : List X) → prefix_len (λ x. not (p x)) (map f xs) ≡ prefix_len (λ x. not (p x)) xs
prefix_mapped p f same [] = refl
prefix_mapped p f same (x ∷ xs) =
    ap (λ t. cond (not t) (1 + prefix_len (λ x. not (p x)) (map f xs)) 0) (same x) ∙ ap (λ n. cond (not (p x)) (1 + n) 0) (prefix_mapped p f same xs)

pub position_mapped : {X : Type 0} (p : X → Bool) (f : X → X) → ((x : X) → p (f x) ≡ p x) → (xs : List X) → position p (map f xs) ≡ position p xs
position_mapped p f same xs =
    ap (λ n. cond (nat_lt n (length (map f xs))) (Some n) None) (prefix_mapped p f same xs)
    ∙ ap (λ n. cond (nat_lt (prefix_len (λ x. not (p x)) xs) n) (Some (prefix_len (λ x. not (p x)) xs)) None) (length_mapped f xs)

pub get_mapped : {X Y : Type 0} (f : X → Y) (xs : List X) (i : ℕ) → slice_get (map f xs) i ≡ option_map f (slice_get xs i)
get_mapped f [] i = refl
get_mapped f (x ∷ xs) zero = refl
get_mapped f (x ∷ xs) (suc i) = get_mapped f xs i

pub set_mapped : {X Y : Type 0} (f : X → Y) (xs : List X) (i : ℕ) (x : X) → slice_set (map f xs) i (f x) ≡ map f (slice_set xs i x)
set_mapped f [] i x = refl
set_mapped f (y ∷ ys) zero x = refl
set_mapped f (y ∷ ys) (suc i) x = ap (λ zs. f y ∷ zs) (set_mapped f ys i x)

-- names lead to the same filesets
any_mapped : {X : Type 0} (p : X → Bool) (f : X → X) → ((x : X) → p (f x) ≡ p x) → (xs : List X) → list_any p (map f xs) ≡ list_any p xs
any_mapped p f same [] = refl
any_mapped p f same (x ∷ xs) = ap (λ t. t || list_any p (map f xs)) (same x) ∙ ap (λ t. p x || t) (any_mapped p f same xs)

pub here_kept : (filesets : List Fileset) (server : ServerId) (name : List ℕ) → is_here (map kept_fileset filesets) server name ≡ is_here filesets server name
here_kept filesets server name = any_mapped (is_named server name) kept_fileset (λ fileset. refl) filesets

leads_kept : (tree : Tree) (server : ServerId) (name : List ℕ) → leads_to (kept_tree tree) server name ≡ leads_to tree server name
leads_kept tree server name = ap (λ b. if b then is_named server name else has_this_id (away_id tree.away server name)) (here_kept tree.filesets server name)

this_kept : (o : Option FilesetId) (fileset : Fileset) → has_this_id o (kept_fileset fileset) ≡ has_this_id o fileset
this_kept None fileset = refl
this_kept (Some id) fileset = refl

leads_same : (tree : Tree) (server : ServerId) (name : List ℕ) (fileset : Fileset) → leads_to tree server name (kept_fileset fileset) ≡ leads_to tree server name fileset
leads_same tree server name fileset = by_test (is_here tree.filesets server name)
  where
    by_test : (b : Bool) → (if b then is_named server name else has_this_id (away_id tree.away server name)) (kept_fileset fileset) ≡ (if b then is_named server name else has_this_id (away_id tree.away server name)) fileset
    by_test true = refl
    by_test false = this_kept (away_id tree.away server name) fileset

-- the fileset that decides is at the same place
pub same_place : (tree : Tree) (server : ServerId) (name : List ℕ) → fileset_place (kept_tree tree) server name ≡ fileset_place tree server name
unfolding fileset_place
same_place tree server name =
    ap (λ p. found_or (position p (map kept_fileset tree.filesets)) NoFileset) (leads_kept tree server name)
    ∙ ap (λ o. found_or o NoFileset) (position_mapped (leads_to tree server name) kept_fileset (leads_same tree server name) tree.filesets)

-- and it is what is kept of it
option_found : (o : Option Fileset) → found_or (option_map kept_fileset o) NoFileset ≡ and_then (found_or o NoFileset) (λ fileset. Ok (kept_fileset fileset))
option_found None = refl
option_found (Some fileset) = refl

pub same_named : (tree : Tree) (server : ServerId) (name : List ℕ) → fileset_named (kept_tree tree) server name ≡ and_then (fileset_named tree server name) (λ fileset. Ok (kept_fileset fileset))
unfolding fileset_named
same_named tree server name =
    ap (λ p. found_or (find p (map kept_fileset tree.filesets)) NoFileset) (leads_kept tree server name)
    ∙ ap (λ o. found_or o NoFileset) (find_mapped (leads_to tree server name) kept_fileset (leads_same tree server name) tree.filesets)
    ∙ option_found (find (leads_to tree server name) tree.filesets)

deciding_kept : (tree : Tree) (call : Call) → changes_names call ≡ true → deciding_place (kept_tree tree) call ≡ deciding_place tree call
deciding_kept tree (Create place) is_change = same_place tree place.server place.fileset
deciding_kept tree (MakeDir place) is_change = same_place tree place.server place.fileset
deciding_kept tree (Remove place) is_change = same_place tree place.server place.fileset
deciding_kept tree (SetAcl place which list) is_change = same_place tree place.server place.fileset
deciding_kept tree (Rename from to) is_change = ap (λ found. and_then found (λ place. unless (not (same_fileset from to)) CrossFileset (Ok place))) (same_place tree from.server from.fileset)
deciding_kept tree (Truncate place len) is_change = no_file is_change
deciding_kept tree (Read place from len) is_change = no_file is_change
deciding_kept tree (Write place from bytes) is_change = no_file is_change
deciding_kept tree (ListNames place) is_change = no_file is_change
deciding_kept tree (Stat place) is_change = no_file is_change
deciding_kept tree (GetAcl place which) is_change = no_file is_change
deciding_kept tree (Sync place) is_change = no_file is_change
deciding_kept tree (NewFileset server name objects owner) is_change = no_file is_change
deciding_kept tree (CloneFileset server source new) is_change = no_file is_change
deciding_kept tree (MoveFileset server name to) is_change = no_file is_change
deciding_kept tree (Lock label place writing from len) is_change = no_file is_change
deciding_kept tree (Unlock label) is_change = no_file is_change
deciding_kept tree (OpenFile label place kind) is_change = no_file is_change
deciding_kept tree (CloseFile label) is_change = no_file is_change

kept_at : (tree : Tree) (place : ℕ) (ask : Fileset → Answered) (found : Option Fileset) → ((fileset : Fileset) → found ≡ Some fileset → ask (kept_fileset fileset) ≡ kept_answered (ask fileset)) →
    answer_at (kept_tree tree) place (option_map kept_fileset found) ask ≡ kept_answer (answer_at tree place found ask)
kept_at tree place ask None same = refl
kept_at tree place ask (Some fileset) same =
    ap (λ answered. let answer : Answer = record { reply = answered.reply; tree = record tree { filesets = slice_set (map kept_fileset tree.filesets) place answered.fileset } } in answer) (same fileset refl)
    ∙ ap (λ filesets. let answer : Answer = record { reply = (ask fileset).reply; tree = record tree { filesets = filesets } } in answer) (set_mapped kept_fileset tree.filesets place (ask fileset).fileset)

pub kept_place : (tree : Tree) (found : Result ℕ Refusal) (ask : Fileset → Answered) → ((place : ℕ) (fileset : Fileset) → found ≡ Ok place → slice_get tree.filesets place ≡ Some fileset → ask (kept_fileset fileset) ≡ kept_answered (ask fileset)) →
    either found (λ place. answer_at (kept_tree tree) place (slice_get (map kept_fileset tree.filesets) place) ask) (refuse (kept_tree tree))
    ≡ kept_answer (either found (λ place. answer_at tree place (slice_get tree.filesets place) ask) (refuse tree))
kept_place tree (Err refusal) ask same = refl
kept_place tree (Ok place) ask same =
    ap (λ o. answer_at (kept_tree tree) place o ask) (get_mapped kept_fileset tree.filesets place) ∙ kept_at tree place ask (slice_get tree.filesets place) (λ fileset h. same place fileset refl h)

kept_fileset_row : (tree : Tree) (host : HostId) (user : User) (call : Call) → changes_names call ≡ true → fileset_row (kept_tree tree) host user call ≡ kept_answer (fileset_row tree host user call)
unfolding fileset_row
kept_fileset_row tree host user call is_change =
    ap (λ found. either found (λ place. answer_at (kept_tree tree) place (slice_get (map kept_fileset tree.filesets) place) (λ fileset. fileset_answer fileset (is_used tree.locks tree.opens) host user call)) (refuse (kept_tree tree))) (deciding_kept tree call is_change)
    ∙ kept_place tree (deciding_place tree call) (λ fileset. fileset_answer fileset (is_used tree.locks tree.opens) host user call)
    (λ place fileset h k. row_kept fileset (is_used tree.locks tree.opens) host user call is_change)

pub kept_names : (tree : Tree) (host : HostId) (user : User) (call : Call) → changes_names call ≡ true → answer_for (kept_tree tree) host call user ≡ kept_answer (answer_for tree host call user)
unfolding answer_for
kept_names tree host user (Create place) is_change = kept_fileset_row tree host user (Create place) is_change
kept_names tree host user (MakeDir place) is_change = kept_fileset_row tree host user (MakeDir place) is_change
kept_names tree host user (Remove place) is_change = kept_fileset_row tree host user (Remove place) is_change
kept_names tree host user (Rename from to) is_change = kept_fileset_row tree host user (Rename from to) is_change
kept_names tree host user (SetAcl place which list) is_change = kept_fileset_row tree host user (SetAcl place which list) is_change
kept_names tree host user (Truncate place len) is_change = no_file is_change
kept_names tree host user (Read place from len) is_change = no_file is_change
kept_names tree host user (Write place from bytes) is_change = no_file is_change
kept_names tree host user (ListNames place) is_change = no_file is_change
kept_names tree host user (Stat place) is_change = no_file is_change
kept_names tree host user (GetAcl place which) is_change = no_file is_change
kept_names tree host user (Sync place) is_change = no_file is_change
kept_names tree host user (NewFileset server name objects owner) is_change = no_file is_change
kept_names tree host user (CloneFileset server source new) is_change = no_file is_change
kept_names tree host user (MoveFileset server name to) is_change = no_file is_change
kept_names tree host user (Lock label place writing from len) is_change = no_file is_change
kept_names tree host user (Unlock label) is_change = no_file is_change
kept_names tree host user (OpenFile label place kind) is_change = no_file is_change
kept_names tree host user (CloseFile label) is_change = no_file is_change

-- what is done where checks let it
pub kept_checked : {A : Type 0} (tree : Tree) (checked : Result A Refusal) (after other : A → Tree) → ((found : A) → checked ≡ Ok found → other found ≡ kept_tree (after found)) →
    either checked (λ found. let answer : Answer = record { reply = Done; tree = other found } in answer) (refuse (kept_tree tree))
    ≡ kept_answer (either checked (λ found. let answer : Answer = record { reply = Done; tree = after found } in answer) (refuse tree))
kept_checked tree (Ok found) after other same = ap (λ t. let answer : Answer = record { reply = Done; tree = t } in answer) (same found refl)
kept_checked tree (Err refusal) after other same = refl

-- for the host's user
pub kept_user : (tree : Tree) (host : HostId) (call : Call) (user : Option User) → ((its : User) → user ≡ Some its → answer_for (kept_tree tree) host call its ≡ kept_answer (answer_for tree host call its)) →
    for_user (kept_tree tree) user (answer_for (kept_tree tree) host call) ≡ kept_answer (for_user tree user (answer_for tree host call))
kept_user tree host call None same = refl
kept_user tree host call (Some user) same = same user refl
