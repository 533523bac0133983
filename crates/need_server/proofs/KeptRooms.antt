-- What servers have promised is the same on what is kept.
use Rattle.std.proofs.Common.{◌≡◌, ℕ, ◌+◌, ◌-◌, ◌==◌, nat_lt, nat_le, Bool, true, false, ◌&&◌, ◌||◌, not, List, [], ◌∷◌, length, zero, suc, Option, Some, None, Ok, refl, ap, ◌∙◌, subst}
use Rattle.std.specs.Prelude.{slice_set, map, insert, unwrap_or, if◌then◌else◌}
use Rattle.std.specs.List.{find, position, list_all, list_any}
use Rattle.std.specs.Option.{option_map, option_map_or}
use Rattle.base_types.specs.declared.ids.FilesetId.{FilesetId}
use Rattle.base_types.specs.declared.ids.ServerId.{ServerId}
use Rattle.base_types.specs.declared.limits.TheConstants.{FILESETS_MAX, FILESET_NUMBER_MAX}
use Rattle.tree_calls.specs.declared.reply.Refusal.TheVariants.{TooMany, NoRoom}
use Rattle.tree_objects.proofs.Observed.{and_left, and_right}
use Rattle.tree_filesets.specs.declared.fileset.Fileset.{Fileset}
use Rattle.tree_filesets.specs.Checks.{unless}
use Rattle.tree_filesets.specs.Promises.{promise, new_promise, clone_promise}
use Rattle.tree_filesets.specs.WellFormed.{is_at_rest}
use Rattle.tree_answers.specs.declared.tree.Away.{Away}
use Rattle.tree_answers.specs.declared.tree.ServerRoom.{ServerRoom}
use Rattle.tree_answers.specs.declared.tree.Tree.{Tree}
use Rattle.tree_answers.specs.Away.{is_away_named}
use Rattle.tree_answers.specs.Finding.{found_or, has_id, is_taken, id_place}
use Rattle.tree_answers.specs.Founding.{promised, away_promise, away_promised, promised_at, away_count, room_of, slot_for, blocks_for, room_for, with_fileset}
use Rattle.tree_answers.specs.WellFormed.{IsWellFormed, rests_if_clone}
use Rattle.tree_answers.proofs.Places.{find_all}
use Rattle.tree_laws.proofs.Counts.{count_map}
use Rattle.tree_laws.proofs.Steps.{find_mapped, then_same}
use Rattle.need_server.specs.Kept.{kept_fileset, kept_tree}
use Rattle.need_server.proofs.Kept.{then_first}
use Rattle.need_server.proofs.KeptTree.{length_mapped, position_mapped, here_kept}
use Rattle.need_server.proofs.Resting.{rest_fileset}

pub promise_kept : (fileset : Fileset) → rests_if_clone fileset ≡ true → promise (kept_fileset fileset) ≡ promise fileset
promise_kept fileset h = by_test fileset.read_only refl
  where
    by_test : (b : Bool) → fileset.read_only ≡ b → (if fileset.read_only then clone_promise (kept_fileset fileset) else new_promise fileset.objects) ≡ (if fileset.read_only then clone_promise fileset else new_promise fileset.objects)
    by_test true e = ap (λ f. if fileset.read_only then clone_promise f else new_promise fileset.objects) (rest_fileset fileset (subst (λ t. (not t || is_at_rest fileset) ≡ true) e h))
    by_test false e = rw e refl

promised_kept : (server : ServerId) (filesets : List Fileset) → list_all rests_if_clone filesets ≡ true → promised server (map kept_fileset filesets) ≡ promised server filesets
promised_kept server [] h = refl
promised_kept server (fileset ∷ filesets) h =
    ap (λ n. (if fileset.server.0 == server.0 then n else 0) + promised server (map kept_fileset filesets)) (promise_kept fileset (and_left _ _ h))
    ∙ ap (λ n. (if fileset.server.0 == server.0 then promise fileset else 0) + n) (promised_kept server filesets (and_right _ _ h))

option_promise : (o : Option Fileset) → ((fileset : Fileset) → o ≡ Some fileset → rests_if_clone fileset ≡ true) → option_map_or promise (option_map kept_fileset o) 0 ≡ option_map_or promise o 0
option_promise None rests = refl
option_promise (Some fileset) rests = promise_kept fileset (rests fileset refl)

away_kept : (filesets : List Fileset) (away : Away) → list_all rests_if_clone filesets ≡ true → away_promise (map kept_fileset filesets) away ≡ away_promise filesets away
away_kept filesets away h =
    ap (λ n. if away.room_kept then n else 0)
    (ap (λ o. option_map_or promise o 0) (find_mapped (has_id away.fileset) kept_fileset (λ fileset. refl) filesets)
    ∙ option_promise (find (has_id away.fileset) filesets) (λ fileset e. find_all (has_id away.fileset) rests_if_clone filesets fileset e h))

away_all_kept : (server : ServerId) (filesets : List Fileset) (records : List Away) → list_all rests_if_clone filesets ≡ true → away_promised server (map kept_fileset filesets) records ≡ away_promised server filesets records
away_all_kept server filesets [] h = refl
away_all_kept server filesets (away ∷ records) h =
    ap (λ n. (if away.server.0 == server.0 then n else 0) + away_promised server (map kept_fileset filesets) records) (away_kept filesets away h)
    ∙ ap (λ n. (if away.server.0 == server.0 then away_promise filesets away else 0) + n) (away_all_kept server filesets records h)

all_promised : (tree : Tree) (server : ServerId) → IsWellFormed tree → promised_at (kept_tree tree) server ≡ promised_at tree server
all_promised tree server w =
    ap (λ n. n + away_promised server (map kept_fileset tree.filesets) tree.away) (promised_kept server tree.filesets w.clones)
    ∙ ap (λ n. promised server tree.filesets + n) (away_all_kept server tree.filesets tree.away w.clones)

pub slot_kept : (tree : Tree) (server : ServerId) (is_recorded : Bool) → slot_for (kept_tree tree) server is_recorded ≡ slot_for tree server is_recorded
slot_kept tree server is_recorded =
    ap (λ n. unless (not is_recorded && nat_le FILESETS_MAX (n + away_count server tree.away)) TooMany (found_or (room_of tree.servers server) TooMany))
    (count_map (λ fileset. fileset.server.0 == server.0) kept_fileset tree.filesets)

pub blocks_kept : (tree : Tree) (server : ServerId) (room : ServerRoom) (blocks : ℕ) → IsWellFormed tree → blocks_for (kept_tree tree) server room blocks ≡ blocks_for tree server room blocks
blocks_kept tree server room blocks w = ap (λ n. unless (nat_lt room.capacity (n + blocks)) NoRoom (Ok room)) (all_promised tree server w)

pub room_kept : (tree : Tree) (server : ServerId) (blocks : ℕ) → IsWellFormed tree → room_for (kept_tree tree) server blocks ≡ room_for tree server blocks
unfolding room_for
room_kept tree server blocks w =
    then_first _ _ _ (slot_kept tree server false)
    ∙ then_same (slot_for tree server false) _ _ (λ room h. ap (λ next. unless (nat_lt FILESET_NUMBER_MAX room.next) TooMany next) (blocks_kept tree server room blocks w))

pub taken_kept : (tree : Tree) (server : ServerId) (name : List ℕ) → is_taken (kept_tree tree) server name ≡ is_taken tree server name
taken_kept tree server name = ap (λ b. b || list_any (is_away_named server name) tree.away) (here_kept tree.filesets server name)

-- where a fileset is put
insert_mapped : {X Y : Type 0} (f : X → Y) (xs : List X) (i : ℕ) (x : X) → insert (map f xs) i (f x) ≡ map f (insert xs i x)
insert_mapped f xs zero x = refl
insert_mapped f [] (suc i) x = refl
insert_mapped f (y ∷ ys) (suc i) x = ap (λ zs. f y ∷ zs) (insert_mapped f ys i x)

place_kept : (filesets : List Fileset) (id : FilesetId) → id_place (map kept_fileset filesets) id ≡ id_place filesets id
place_kept filesets id =
    ap (λ o. unwrap_or o (length (map kept_fileset filesets))) (position_mapped (λ fileset. nat_lt id.0 fileset.id.0) kept_fileset (λ fileset. refl) filesets)
    ∙ ap (λ n. unwrap_or (position (λ fileset. nat_lt id.0 fileset.id.0) filesets) n) (length_mapped kept_fileset filesets)

pub with_kept : (tree : Tree) (server : ServerId) (room : ServerRoom) (new other : Fileset) → other ≡ kept_fileset new → with_fileset (kept_tree tree) server room other ≡ kept_tree (with_fileset tree server room new)
with_kept tree server room new other same =
    let servers = slice_set tree.servers (server.0 - 1) (record room { next = room.next + 1 }) in
    ap (λ f. with_fileset (kept_tree tree) server room f) same
    ∙ ap (λ i. let t : Tree = record tree { servers = servers; filesets = insert (map kept_fileset tree.filesets) i (kept_fileset new) } in t) (place_kept tree.filesets new.id)
    ∙ ap (λ filesets. let t : Tree = record tree { servers = servers; filesets = filesets } in t) (insert_mapped kept_fileset tree.filesets (id_place tree.filesets new.id) new)
