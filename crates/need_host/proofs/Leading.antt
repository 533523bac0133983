-- A name that leads to a fileset leads to it for ever.
use Rattle.std.proofs.Common.{◌≡◌, ℕ, zero, suc, ◌<◌, ◌==◌, nat_lt, Bool, true, false, ◌&&◌, ◌||◌, not, cond, List, [], ◌∷◌, insert, filter, Option, Some, None, Result, Ok, Err, refl, sym, ap, ◌∙◌, subst, rules, arith}
use Rattle.std.specs.Prelude.{slice_get, slice_set, map, if◌then◌else◌}
use Rattle.std.specs.List.{find, prefix_len, list_any}
use Rattle.std.specs.Option.{option_map}
use Rattle.std.proofs.lemmas.Grind.{common_steps}
use Rattle.base_types.specs.Lists.{changed_at}
use Rattle.base_types.specs.Name.{same_name}
use Rattle.base_types.specs.Outcomes.{and_then, either}
use Rattle.base_types.specs.declared.ids.Fid.{Fid}
use Rattle.base_types.specs.declared.ids.FilesetId.{FilesetId}
use Rattle.base_types.specs.declared.ids.HostId.{HostId}
use Rattle.base_types.specs.declared.ids.ServerId.{ServerId}
use Rattle.base_types.specs.declared.user.User.{User}
use Rattle.tree_calls.specs.declared.call.Call.{Call as CallOf}
use Rattle.tree_calls.specs.declared.call.Call.TheVariants.{NewFileset, Create, MakeDir, Remove, Rename, Truncate, SetAcl, CloneFileset, Read, Write, List as ListNames, Stat, GetAcl, Sync, Lock, Unlock, OpenFile, CloseFile, MoveFileset}
use Rattle.tree_calls.specs.declared.entry.Entry.{Entry}
use Rattle.tree_calls.specs.declared.entry.Entry.TheVariants.{Call, Stored, Down, Left}
use Rattle.tree_calls.specs.declared.reply.Refusal.{Refusal}
use Rattle.tree_calls.specs.declared.reply.Refusal.TheVariants.{NoFileset, Exists}
use Rattle.tree_calls.specs.declared.reply.Reply.TheVariants.{Ok as Done}
use Rattle.tree_calls.specs.Rosters.{user_of}
use Rattle.tree_objects.proofs.Observed.{and_left, and_right}
use Rattle.tree_objects.proofs.Rising.{and_both}
use Rattle.tree_filesets.specs.Updates.{updated, changed}
use Rattle.tree_filesets.specs.declared.fileset.Fileset.{Fileset}
use Rattle.tree_filesets.specs.Founding.{new_fileset, control_check, cloned, moved}
use Rattle.tree_filesets.specs.Promises.{new_promise}
use Rattle.tree_filesets.specs.Rows.{fileset_answer}
use Rattle.tree_filesets.proofs.Names.{names_equal}
use Rattle.tree_filesets.proofs.Stays.{stays_itself}
use Rattle.tree_filesets.proofs.Targets.{unless_ok, ok_is}
use Rattle.tree_answers.specs.declared.tree.Away.{Away}
use Rattle.tree_answers.specs.declared.tree.ServerRoom.{ServerRoom}
use Rattle.tree_answers.specs.declared.tree.Tree.{Tree}
use Rattle.tree_answers.specs.Answers.{for_user, answer_at, deciding_place, fileset_row, answer_for, answer_to}
use Rattle.tree_answers.specs.Away.{is_away, is_away_named, away_id, away_place, with_away, without_away, room_freed}
use Rattle.tree_answers.specs.Finding.{Answer, refuse, found_or, is_named, has_id, is_here, has_this_id, leads_to, is_taken, fileset_place, fileset_named, id_place}
use Rattle.tree_answers.specs.Founding.{room_for, next_id, with_fileset, new_fileset_target, new_fileset_answer, clone_target, clone_answer}
use Rattle.tree_answers.specs.Histories.{after_entry}
use Rattle.tree_answers.specs.Locks.{has_lock, lock_check, lock_answer, unlock_answer}
use Rattle.tree_answers.specs.Losses.{fileset_forgotten, down_tree}
use Rattle.tree_answers.specs.Moving.{is_taken_by_other, left_by, move_source, leave_check, move_room, move_target, with_moved, move_answer, left_tree}
use Rattle.tree_answers.specs.Opens.{has_open, open_check, open_answer, close_answer}
use Rattle.tree_answers.specs.Stores.{stored_tree}
use Rattle.tree_answers.specs.Uses.{is_used}
use Rattle.tree_answers.specs.WellFormed.{ids_rise, names_differ, IsWellFormed}
use Rattle.tree_answers.proofs.AfterMove.{IsMove, same_server, moved_parts, get_none}
use Rattle.tree_answers.proofs.Inserted.{IsFresh, find_insert, fresh_id, eq_sym}
use Rattle.tree_answers.proofs.Kept.{room_ok, cloned_so, move_ok, named_is, forget_at_follows}
use Rattle.tree_answers.proofs.Moves.{moves_are_whole}
use Rattle.tree_answers.proofs.Places.{equal_is, get_all, found_by_id, find_all, find_at_place, found_passes, place_found, not_true}
use Rattle.tree_laws.proofs.Steps.{no_file, find_mapped, same_number}
use Rattle.need_host.specs.Laws.{NamesLeadOn}
use Rattle.need_host.proofs.Found.{position_found}

-- two filesets with one id, server and name
record SameName (old new : Fileset) : Type 0 where
  id : new.id ≡ old.id
  server : new.server ≡ old.server
  name : new.name ≡ old.name

itself : (fileset : Fileset) → SameName fileset fileset
itself fileset = record { id = refl; server = refl; name = refl }

abbrev AllSame : List Fileset → List Fileset → Type 0
AllSame [] [] = Unit {0}
AllSame (x ∷ xs) (y ∷ ys) = SameName x y × AllSame xs ys
AllSame _ _ = ⊥

all_itself : (xs : List Fileset) → AllSame xs xs
all_itself [] = tt
all_itself (x ∷ xs) = (itself x, all_itself xs)

set_same : (xs : List Fileset) (i : ℕ) (old new : Fileset) → Some old ≡ slice_get xs i → SameName old new → AllSame xs (slice_set xs i new)
set_same [] i old new h k = tt
set_same (x ∷ xs) zero old new h k = let same : old ≡ x = cc in (subst (λ f. SameName f new) same k, all_itself xs)
set_same (x ∷ xs) (suc i) old new h k = (itself x, set_same xs i old new h k)

changed_same : (xs : List Fileset) (i : ℕ) (change : Fileset → Fileset) → ((x : Fileset) → SameName x (change x)) → AllSame xs (changed_at xs i change)
changed_same [] i change each = tt
changed_same (x ∷ xs) zero change each = (each x, all_itself xs)
changed_same (x ∷ xs) (suc i) change each = (itself x, changed_same xs i change each)

map_same : (change : Fileset → Fileset) → ((x : Fileset) → SameName x (change x)) → (xs : List Fileset) → AllSame xs (map change xs)
map_same change each [] = tt
map_same change each (x ∷ xs) = (each x, map_same change each xs)

any_same : (p : Fileset → Bool) → ((x y : Fileset) → SameName x y → p y ≡ p x) → (xs ys : List Fileset) → AllSame xs ys → list_any p ys ≡ list_any p xs
any_same p each [] [] h = refl
any_same p each (x ∷ xs) (y ∷ ys) h = ap (λ t. t || list_any p ys) (each x y h.0) ∙ ap (λ t. p x || t) (any_same p each xs ys h.1)
any_same p each [] (y ∷ ys) h = absurd h
any_same p each (x ∷ xs) [] h = absurd h

find_same : (p : Fileset → Bool) → ((x y : Fileset) → SameName x y → p y ≡ p x) → (xs ys : List Fileset) → AllSame xs ys → (old : Fileset) → find p xs ≡ Some old → (new : Fileset) × (find p ys ≡ Some new) × (new.id ≡ old.id)
find_same p each [] [] h old e = absurd (search (rules, e))
find_same p each (x ∷ xs) (y ∷ ys) h old e = by_test (p x) e (each x y h.0) (find_same p each xs ys h.1 old)
  where
    by_test : (b : Bool) → cond b (Some x) (find p xs) ≡ Some old → p y ≡ b → (find p xs ≡ Some old → (new : Fileset) × (find p ys ≡ Some new) × (new.id ≡ old.id)) → (new : Fileset) × (find p (y ∷ ys) ≡ Some new) × (new.id ≡ old.id)
    by_test true e k rest = let same : x ≡ old = cc in (y, ap (λ t. cond t (Some y) (find p ys)) k, h.0.id ∙ ap (λ f. f.id) same)
    by_test false e k rest = let (new, found, same) = rest e in (new, ap (λ t. cond t (Some y) (find p ys)) k ∙ found, same)
find_same p each [] (y ∷ ys) h old e = absurd h
find_same p each (x ∷ xs) [] h old e = absurd h

named_same : (server : ServerId) (name : List ℕ) (x y : Fileset) → SameName x y → is_named server name y ≡ is_named server name x
named_same server name x y h = ap (λ s. (s.0 == server.0) && same_name y.name name) h.server ∙ ap (λ n. (x.server.0 == server.0) && same_name n name) h.name

this_same : (o : Option FilesetId) (x y : Fileset) → SameName x y → has_this_id o y ≡ has_this_id o x
this_same None x y h = refl
this_same (Some id) x y h = ap (λ i. i.0 == id.0) h.id

either_same : (b : Bool) (o : Option FilesetId) (server : ServerId) (name : List ℕ) (x y : Fileset) → SameName x y → (if b then is_named server name else has_this_id o) y ≡ (if b then is_named server name else has_this_id o) x
either_same true o server name x y h = named_same server name x y h
either_same false o server name x y h = this_same o x y h

-- a name leads on
module _ (tree : Tree) (server : ServerId) (name : List ℕ) where
  abbrev LeadsOn : Tree → Type 0
  LeadsOn new = (old : Fileset) → find (leads_to tree server name) tree.filesets ≡ Some old → (f : Fileset) × (find (leads_to new server name) new.filesets ≡ Some f) × (f.id ≡ old.id)

  same_leads : (new : Tree) → AllSame tree.filesets new.filesets → away_id new.away server name ≡ away_id tree.away server name → LeadsOn new
  same_leads new h k old e =
      let as_before : leads_to new server name ≡ leads_to tree server name
      = ap (λ b. if b then is_named server name else has_this_id (away_id new.away server name)) (any_same (is_named server name) (named_same server name) tree.filesets new.filesets h)
      ∙ ap (λ o. if is_here tree.filesets server name then is_named server name else has_this_id o) k in
      let (f, found, same) = find_same (leads_to tree server name) (either_same (is_here tree.filesets server name) (away_id tree.away server name) server name) tree.filesets new.filesets h old e in
      (f, ap (λ p. find p new.filesets) as_before ∙ found, same)

  stays : LeadsOn tree
  stays old e = (old, e, refl)

  checked_leads : {A : Type 0} (checked : Result A Refusal) (after : A → Tree) → ((found : A) → checked ≡ Ok found → LeadsOn (after found)) → LeadsOn (either checked (λ found. let answer : Answer = record { reply = Done; tree = after found } in answer) (refuse tree)).tree
  checked_leads (Ok found) after each = each found refl
  checked_leads (Err refusal) after each = stays

  freed_leads : (b : Bool) (after : Tree) (why : Refusal) → LeadsOn after → LeadsOn (cond {A = Answer} (not b) (refuse tree why) (record { reply = Done; tree = after })).tree
  freed_leads true after why k = k
  freed_leads false after why k = stays

  -- a call of one fileset
  row_leads : (host : HostId) (user : User) (call : CallOf) → LeadsOn (fileset_row tree host user call).tree
  unfolding fileset_row
  row_leads host user call = by_place (deciding_place tree call)
    where
      by_found : (place : ℕ) (o : Option Fileset) → o ≡ slice_get tree.filesets place → LeadsOn (answer_at tree place o (λ fileset. fileset_answer fileset (is_used tree.locks tree.opens) host user call)).tree
      by_found place None e = stays
      by_found place (Some fileset) e =
          let it = stays_itself fileset (is_used tree.locks tree.opens) host user call in
          same_leads (answer_at tree place (Some fileset) (λ fileset. fileset_answer fileset (is_used tree.locks tree.opens) host user call)).tree (set_same tree.filesets place fileset (fileset_answer fileset (is_used tree.locks tree.opens) host user call).fileset e (record { id = it.id; server = it.server; name = it.name })) refl

      by_place : (found : Result ℕ Refusal) → LeadsOn (either found (λ place. answer_at tree place (slice_get tree.filesets place) (λ fileset. fileset_answer fileset (is_used tree.locks tree.opens) host user call)) (refuse tree)).tree
      by_place (Ok place) = by_found place (slice_get tree.filesets place) refl
      by_place (Err refusal) = stays

  -- what leads somewhere is taken
  found_any : {X : Type 0} (p : X → Bool) (xs : List X) (x : X) → find p xs ≡ Some x → list_any p xs ≡ true
  found_any p [] x h = absurd (search (rules, h))
  found_any p (y ∷ ys) x h = by_test (p y) h (found_any p ys x)
    where
      by_test : (b : Bool) → cond b (Some y) (find p ys) ≡ Some x → (find p ys ≡ Some x → list_any p ys ≡ true) → (b || list_any p ys) ≡ true
      by_test true h rest = refl
      by_test false h rest = rest h

  or_later : (a b : Bool) → b ≡ true → (a || b) ≡ true
  or_later true b h = refl
  or_later false b h = h

  is_led : (old : Fileset) → find (leads_to tree server name) tree.filesets ≡ Some old → is_taken tree server name ≡ true
  is_led old e = by_here (is_here tree.filesets server name) (found_passes (leads_to tree server name) tree.filesets old e)
    where
      by_record : (o : Option Away) → find (is_away_named server name) tree.away ≡ o → has_this_id (option_map (λ away. away.fileset) o) old ≡ true → list_any (is_away_named server name) tree.away ≡ true
      by_record None k h = no_file h
      by_record (Some away) k h = found_any (is_away_named server name) tree.away away k

      by_here : (b : Bool) → (if b then is_named server name else has_this_id (away_id tree.away server name)) old ≡ true → (b || list_any (is_away_named server name) tree.away) ≡ true
      by_here true h = refl
      by_here false h = by_record (find (is_away_named server name) tree.away) refl h

  -- a fileset more
  any_insert_same : {X : Type 0} (p : X → Bool) (x : X) (i : ℕ) (xs : List X) → p x ≡ false → list_any p (insert xs i x) ≡ list_any p xs
  any_insert_same p x zero xs h = ap (λ t. t || list_any p xs) h
  any_insert_same p x (suc i) [] h = ap (λ t. t || false) h
  any_insert_same p x (suc i) (y ∷ ys) h = ap (λ t. p y || t) (any_insert_same p x i ys h)

  insert_leads : (at : ServerId) (room : ServerRoom) (new : Fileset) → IsFresh tree.filesets new.id → is_taken tree new.server new.name ≡ false → LeadsOn (with_fileset tree at room new)
  insert_leads at room new fresh free old e =
      let as_before : leads_to (with_fileset tree at room new) server name ≡ leads_to tree server name
      = ap (λ b. if b then is_named server name else has_this_id (away_id tree.away server name)) (any_insert_same (is_named server name) new (id_place tree.filesets new.id) tree.filesets other_name) in (
        old,
        ap (λ p. find p (insert tree.filesets (id_place tree.filesets new.id) new)) as_before
            ∙ find_insert (leads_to tree server name) new (id_place tree.filesets new.id) tree.filesets (not_led (is_here tree.filesets server name) (away_id tree.away server name) (found_passes (leads_to tree server name) tree.filesets old e)) ∙ e,
        refl,
      )
    where
      other_name : is_named server name new ≡ false
      other_name = by_test (is_named server name new) refl
        where
          by_test : (b : Bool) → is_named server name new ≡ b → b ≡ false
          by_test false k = refl
          by_test true k =
              let one : new.server ≡ server = same_server new.server server (and_left _ _ k) in
              let two : new.name ≡ name = names_equal new.name name (and_right _ _ k) in
              let taken : is_taken tree new.server new.name ≡ true = ap (λ s. is_taken tree s new.name) one ∙ ap (λ n. is_taken tree server n) two ∙ is_led old e in
              no_file (sym free ∙ taken)

      not_led : (b : Bool) (o : Option FilesetId) → (if b then is_named server name else has_this_id o) old ≡ true → (if b then is_named server name else has_this_id o) new ≡ false
      not_led true o h = other_name
      not_led false None h = no_file h
      not_led false (Some id) h =
          let apart = not_true _ (find_all (leads_to tree server name) (λ fileset. not (fileset.id.0 == new.id.0)) tree.filesets old e fresh) in
          eq_sym new.id.0 id.0 ∙ ap (λ n. n == new.id.0) (sym (equal_is old.id.0 id.0 h)) ∙ apart

  founded : (at : ServerId) (label : List ℕ) (objects : ℕ) (owner : User) → IsWellFormed tree → LeadsOn (new_fileset_answer tree at label objects owner).tree
  unfolding new_fileset_answer new_fileset_target new_fileset
  founded at label objects owner w = checked_leads (new_fileset_target tree at label objects) _ (λ room h.
      let (free, k) = unless_ok (is_taken tree at label) Exists (room_for tree at (new_promise objects)) room h in
      let is_room = room_ok tree at (new_promise objects) room k in
      insert_leads at room (new_fileset at (next_id at room) label objects owner) (fresh_id tree.servers at room tree.filesets is_room.number is_room.there w.given) free)

  copied : (user : User) (at : ServerId) (source label : List ℕ) → IsWellFormed tree → LeadsOn (clone_answer tree user at source label).tree
  unfolding clone_answer cloned
  copied user at source label w = checked_leads (clone_target tree user at source label) _ (λ found h.
      let so = cloned_so tree user at source label found h in
      insert_leads at found.1 (cloned found.0 (next_id at found.1) label) (fresh_id tree.servers at found.1 tree.filesets so.room.number so.room.there w.given) (ap (λ s. is_taken tree s label) so.at ∙ so.free))

  -- a move
  any_set_same : {X : Type 0} (p : X → Bool) (xs : List X) (i : ℕ) (old new : X) → Some old ≡ slice_get xs i → p new ≡ p old → list_any p (slice_set xs i new) ≡ list_any p xs
  any_set_same p [] i old new h k = refl
  any_set_same p (x ∷ xs) zero old new h k = let same : old ≡ x = cc in ap (λ t. t || list_any p xs) (k ∙ ap p same)
  any_set_same p (x ∷ xs) (suc i) old new h k = ap (λ t. p x || t) (any_set_same p xs i old new h k)

  find_set_other : {X : Type 0} (p : X → Bool) (xs : List X) (i : ℕ) (old new : X) → Some old ≡ slice_get xs i → p old ≡ false → p new ≡ false → find p (slice_set xs i new) ≡ find p xs
  find_set_other p [] i old new h k m = refl
  find_set_other p (x ∷ xs) zero old new h k m =
      let same : old ≡ x = cc in
      ap (λ t. cond t (Some new) (find p xs)) m ∙ ap (λ t. cond t (Some x) (find p xs)) (sym k ∙ ap p same)
  find_set_other p (x ∷ xs) (suc i) old new h k m = ap (λ o. cond (p x) (Some x) o) (find_set_other p xs i old new h k m)

  any_at : {X : Type 0} (p q : X → Bool) (xs : List X) (x : X) → find p xs ≡ Some x → q x ≡ true → list_any q xs ≡ true
  any_at p q [] x h k = absurd (search (rules, h))
  any_at p q (y ∷ ys) x h k = by_test (p y) h (any_at p q ys x)
    where
      by_test : (b : Bool) → cond b (Some y) (find p ys) ≡ Some x → (find p ys ≡ Some x → q x ≡ true → list_any q ys ≡ true) → (q y || list_any q ys) ≡ true
      by_test true h rest = let same : y ≡ x = cc in ap (λ z. q z || list_any q ys) same ∙ ap (λ t. t || list_any q ys) k
      by_test false h rest = or_later (q y) (list_any q ys) (rest h k)

  find_filter : {X : Type 0} (p q : X → Bool) (xs : List X) (x : X) → find p xs ≡ Some x → q x ≡ true → find p (filter q xs) ≡ Some x
  find_filter p q [] x h k = absurd (search (rules, h))
  find_filter {X = X} p q (y ∷ ys) x h k = by_tests (p y) (q y) refl refl h (find_filter p q ys x)
    where
      by_tests : (a b : Bool) → p y ≡ a → q y ≡ b → cond a (Some y) (find p ys) ≡ Some x → (find p ys ≡ Some x → q x ≡ true → find p (filter q ys) ≡ Some x) → find p (cond b (y ∷ filter q ys) (filter q ys)) ≡ Some x
      by_tests true true e f h rest = ap (λ t. cond t (Some y) (find p (filter q ys))) e ∙ h
      by_tests true false e f h rest = let same : y ≡ x = cc in no_file (sym f ∙ ap q same ∙ k)
      by_tests false true e f h rest = ap (λ t. cond t (Some y) (find p (filter q ys))) e ∙ rest h k
      by_tests false false e f h rest = rest h k

  -- one fileset of a name
  named_one : (xs : List Fileset) (i : ℕ) (old f : Fileset) → names_differ xs ≡ true → find (is_named server name) xs ≡ Some old → Some f ≡ slice_get xs i → is_named server name f ≡ true → f ≡ old
  named_one [] i old f w h k m = absurd (search (rules, h))
  named_one (x ∷ xs) i old f w h k m = by_test (is_named server name x) refl h i k (λ j e g. named_one xs j old f (and_right _ _ w) e g m)
    where
      by_place : (i : ℕ) → Some f ≡ slice_get (x ∷ xs) i → is_named server name x ≡ true → x ≡ old → f ≡ old
      by_place zero k e same = let its : f ≡ x = cc in its ∙ same
      by_place (suc j) k e same =
          let one : x.server ≡ server = same_server x.server server (and_left _ _ e) in
          let two : x.name ≡ name = names_equal x.name name (and_right _ _ e) in
          let none : list_any (is_named x.server x.name) xs ≡ false = not_true _ (and_left _ _ w) in
          let other : is_named x.server x.name f ≡ false = get_none (is_named x.server x.name) xs j f k none in
          no_file (sym other ∙ ap (λ s. is_named s x.name f) one ∙ ap (λ n. is_named server n f) two ∙ m)

      by_test : (b : Bool) → is_named server name x ≡ b → cond b (Some x) (find (is_named server name) xs) ≡ Some old → (i : ℕ) → Some f ≡ slice_get (x ∷ xs) i → ((j : ℕ) → find (is_named server name) xs ≡ Some old → Some f ≡ slice_get xs j → f ≡ old) → f ≡ old
      by_test true e h i k rest = let same : x ≡ old = cc in by_place i k e same
      by_test false e h zero k rest = let its : f ≡ x = cc in no_file (sym e ∙ ap (is_named server name) (sym its) ∙ m)
      by_test false e h (suc j) k rest = rest j h k

  other_leads : (place : ℕ) (f : Fileset) (to : ServerId) (old : Fileset) → IsWellFormed tree → IsMove tree place f to → find (leads_to tree server name) tree.filesets ≡ Some old → (old.id.0 == f.id.0) ≡ false →
      find (leads_to (with_moved tree place f to) server name) (slice_set tree.filesets place (moved f to)) ≡ Some old
  other_leads place f to old w m e apart = by_here (is_here tree.filesets server name) refl
    where
      parts : ((moved f to).id ≡ f.id) × ((moved f to).server ≡ to) × ((moved f to).name ≡ f.name)
      parts = moved_parts f to

      itself_number : f ≡ old → (old.id.0 == f.id.0) ≡ true
      itself_number same = ap (λ x. old.id.0 == x.id.0) same ∙ same_number old.id.0

      -- where a fileset is there under the name
      here_named : is_here tree.filesets server name ≡ true → find (is_named server name) tree.filesets ≡ Some old
      here_named h = ap (λ b. find (if b then is_named server name else has_this_id (away_id tree.away server name)) tree.filesets) (sym h) ∙ e

      unnamed : (b : Bool) → is_here tree.filesets server name ≡ b → is_named server name f ≡ false
      unnamed false h = get_none (is_named server name) tree.filesets place f m.there h
      unnamed true h = by_test (is_named server name f) refl
        where
          by_test : (t : Bool) → is_named server name f ≡ t → t ≡ false
          by_test false k = refl
          by_test true k = no_file (sym apart ∙ itself_number (named_one tree.filesets place old f w.named (here_named h) m.there k))

      -- the record of the name
      record_of : (o : Option Away) → find (is_away_named server name) tree.away ≡ o → has_this_id (option_map (λ away. away.fileset) o) old ≡ true → (away : Away) × (find (is_away_named server name) tree.away ≡ Some away) × (old.id.0 ≡ away.fileset.0)
      record_of None k h = no_file h
      record_of (Some away) k h = (away, k, equal_is old.id.0 away.fileset.0 h)

      recorded : is_here tree.filesets server name ≡ false → (away : Away) × (find (is_away_named server name) tree.away ≡ Some away) × (old.id.0 ≡ away.fileset.0)
      recorded h = record_of (find (is_away_named server name) tree.away) refl
          (ap (λ b. (if b then is_named server name else has_this_id (away_id tree.away server name)) old) (sym h) ∙ found_passes (leads_to tree server name) tree.filesets old e)

      -- the name isn't that of the fileset where it has gone
      unnamed_then : (b : Bool) → is_here tree.filesets server name ≡ b → is_named server name (moved f to) ≡ false
      unnamed_then b h = by_test (is_named server name (moved f to)) refl
        where
          taken : (b : Bool) → is_here tree.filesets server name ≡ b → to ≡ server → f.name ≡ name → is_taken_by_other tree to f ≡ true
          taken true h one two =
              ap (λ t. t || list_any (λ away. is_away_named to f.name away && not (away.fileset.0 == f.id.0)) tree.away) (ap (λ s. is_here tree.filesets s f.name) one ∙ ap (λ n. is_here tree.filesets server n) two ∙ h)
          taken false h one two =
              let (away, k, same) = recorded h in
              let passes : is_away_named to f.name away ≡ true = ap (λ s. is_away_named s f.name away) one ∙ ap (λ n. is_away_named server n away) two ∙ found_passes (is_away_named server name) tree.away away k in
              let other : not (away.fileset.0 == f.id.0) ≡ true = ap (λ n. not (n == f.id.0)) (sym same) ∙ ap not apart in
              or_later (is_here tree.filesets to f.name) _ (any_at (is_away_named server name) (λ away. is_away_named to f.name away && not (away.fileset.0 == f.id.0)) tree.away away k (and_both _ _ passes other))

          by_test : (t : Bool) → is_named server name (moved f to) ≡ t → t ≡ false
          by_test false k = refl
          by_test true k =
              let one : to ≡ server = sym parts.1 ∙ same_server (moved f to).server server (and_left _ _ k) in
              let two : f.name ≡ name = sym parts.2 ∙ names_equal (moved f to).name name (and_right _ _ k) in
              no_file (sym m.free ∙ taken b h one two)

      still_here : (b : Bool) → is_here tree.filesets server name ≡ b → is_here (slice_set tree.filesets place (moved f to)) server name ≡ b
      still_here b h = any_set_same (is_named server name) tree.filesets place f (moved f to) m.there (unnamed_then b h ∙ sym (unnamed b h)) ∙ h

      by_here : (b : Bool) → is_here tree.filesets server name ≡ b → find (leads_to (with_moved tree place f to) server name) (slice_set tree.filesets place (moved f to)) ≡ Some old
      by_here true h =
          ap (λ t. find (if t then is_named server name else has_this_id (away_id (with_moved tree place f to).away server name)) (slice_set tree.filesets place (moved f to))) (still_here true h)
          ∙ find_set_other (is_named server name) tree.filesets place f (moved f to) m.there (unnamed true h) (unnamed_then true h) ∙ here_named h
      by_here false h =
          let (away, k, same) = recorded h in
          let differs : (away.fileset.0 == f.id.0) ≡ false = ap (λ n. n == f.id.0) (sym same) ∙ apart in
          let kept : not (is_away to f.id away) ≡ true = ap not (and_second (away.server.0 == to.0) (away.fileset.0 == f.id.0) differs) in
          let after : find (is_away_named server name) (without_away (with_away tree.away (left_by f to)) to f.id) ≡ Some away
          = find_filter (is_away_named server name) (λ other. not (is_away to f.id other)) (with_away tree.away (left_by f to)) away
          (find_insert (is_away_named server name) (left_by f to) (away_place tree.away f.server f.id) tree.away (unnamed false h) ∙ k) kept in
          let not_f : has_id away.fileset f ≡ false = eq_sym f.id.0 away.fileset.0 ∙ differs in
          ap (λ t. find (if t then is_named server name else has_this_id (away_id (with_moved tree place f to).away server name)) (slice_set tree.filesets place (moved f to))) (still_here false h)
          ∙ ap (λ o. find (has_this_id (option_map (λ away. away.fileset) o)) (slice_set tree.filesets place (moved f to))) after
          ∙ find_set_other (has_id away.fileset) tree.filesets place f (moved f to) m.there not_f (ap (λ i. i.0 == away.fileset.0) parts.0 ∙ not_f)
          ∙ ap (λ o. find (has_this_id (option_map (λ away. away.fileset) o)) tree.filesets) (sym k)
          ∙ ap (λ t. find (if t then is_named server name else has_this_id (away_id tree.away server name)) tree.filesets) (sym h) ∙ e
        where
          and_second : (a b : Bool) → b ≡ false → (a && b) ≡ false
          and_second true b h = h
          and_second false b h = refl

-- no two places have one fileset
one_place : (filesets : List Fileset) (i j : ℕ) (a b : Fileset) → ids_rise filesets ≡ true → slice_get filesets i ≡ Some a → slice_get filesets j ≡ Some b → a.id.0 ≡ b.id.0 → i ≡ j
one_place [] i j a b r h k e = absurd (search (rules, h))
one_place (x ∷ xs) zero zero a b r h k e = refl
one_place (x ∷ xs) zero (suc j) a b r h k e =
    let same : x ≡ a = cc in
    let before : nat_lt x.id.0 b.id.0 ≡ true = get_all (λ other. nat_lt x.id.0 other.id.0) xs j b (sym k) (and_left _ _ r) in
    let less : x.id.0 < b.id.0 = grind (arith, common_steps, before) in
    let id : x.id.0 ≡ a.id.0 = ap (λ f. f.id.0) same in
    absurd (omega (arith, less, id, e))
one_place (x ∷ xs) (suc i) zero a b r h k e =
    let same : x ≡ b = cc in
    let before : nat_lt x.id.0 a.id.0 ≡ true = get_all (λ other. nat_lt x.id.0 other.id.0) xs i a (sym h) (and_left _ _ r) in
    let less : x.id.0 < a.id.0 = grind (arith, common_steps, before) in
    let id : x.id.0 ≡ b.id.0 = ap (λ f. f.id.0) same in
    absurd (omega (arith, less, id, e))
one_place (x ∷ xs) (suc i) (suc j) a b r h k e = ap suc (one_place xs i j a b (and_right _ _ r) h k e)

-- a move by one name is the move by each name that leads there
abbrev move_from : Tree → User → ServerId → Result ℕ Refusal → Result (ℕ × Fileset) Refusal
move_from tree user to placed =
    and_then (and_then placed (λ place.
    and_then (found_or (slice_get tree.filesets place) NoFileset) (λ fileset.
    and_then (control_check fileset user) (λ _. Ok (place, fileset))))) (λ (place, fileset).
    and_then (leave_check tree to fileset) (λ _. and_then (move_room tree to fileset) (λ _. Ok (place, fileset))))

move_by : (tree : Tree) (user : User) (server : ServerId) (name : List ℕ) (to : ServerId) → move_target tree user server name to ≡ move_from tree user to (fileset_place tree server name)
unfolding move_target move_source
move_by tree user server name to = refl

module _ (tree : Tree) (host : HostId) (user : User) (is_user : user_of tree.roster host ≡ Some user) (to : ServerId) (found : ℕ × Fileset) (w : IsWellFormed tree) (m : IsMove tree found.0 found.1 to) where
  -- the call by a name that leads there
  abbrev Moved : Answer
  Moved = record { reply = Done; tree = with_moved tree found.0 found.1 to }

  answer_by : (server : ServerId) (name : List ℕ) → move_target tree user server name to ≡ Ok found → answer_to tree host (MoveFileset server name to) ≡ Moved
  unfolding answer_to answer_for move_answer
  answer_by server name h =
      ap (λ u. for_user tree u (answer_for tree host (MoveFileset server name to))) is_user
      ∙ ap (λ checked. either checked (λ found. let answer : Answer = record { reply = Done; tree = with_moved tree found.0 found.1 to } in answer) (refuse tree)) h

  placed_at : (server : ServerId) (name : List ℕ) (old : Fileset) → find (leads_to tree server name) tree.filesets ≡ Some old → old ≡ found.1 → fileset_place tree server name ≡ Ok found.0
  unfolding fileset_place
  placed_at server name old e same =
      let place = prefix_len (λ x. not (leads_to tree server name x)) tree.filesets in
      let there : slice_get tree.filesets place ≡ Some old = sym (place_found (leads_to tree server name) tree.filesets) ∙ e in
      let one : place ≡ found.0 = one_place tree.filesets place found.0 old found.1 w.ordered there (sym m.there) (ap (λ f. f.id.0) same) in
      ap (λ o. found_or o NoFileset) (position_found (leads_to tree server name) tree.filesets old e) ∙ ap Ok one

  moved_leads : (first : ServerId) (label : List ℕ) → move_target tree user first label to ≡ Ok found → fileset_place tree first label ≡ Ok found.0 → (server : ServerId) (name : List ℕ) → LeadsOn tree server name (with_moved tree found.0 found.1 to)
  unfolding fileset_named
  moved_leads first label h placed server name old e = by_id (old.id.0 == found.1.id.0) refl
    where
      by_id : (b : Bool) → (old.id.0 == found.1.id.0) ≡ b → (f : Fileset) × (find (leads_to (with_moved tree found.0 found.1 to) server name) (slice_set tree.filesets found.0 (moved found.1 to)) ≡ Some f) × (f.id ≡ old.id)
      by_id false apart = (old, other_leads tree server name found.0 found.1 to old w m e apart, refl)
      by_id true k =
          let its : find (has_id found.1.id) tree.filesets ≡ Some found.1 = find_at_place found.1.id tree.filesets found.0 found.1 m.there w.ordered (same_number found.1.id.0) in
          let mine : find (has_id old.id) tree.filesets ≡ Some old = found_by_id (leads_to tree server name) tree.filesets old e w.ordered in
          let both : Some old ≡ Some found.1 = sym mine ∙ ap (λ n. find (λ other. other.id.0 == n) tree.filesets) (equal_is old.id.0 found.1.id.0 k) ∙ its in
          let same : old ≡ found.1 = cc in
          let target : move_target tree user server name to ≡ Ok found
          = move_by tree user server name to ∙ ap (move_from tree user to) (placed_at server name old e same ∙ sym placed) ∙ sym (move_by tree user first label to) ∙ h in
          let answer = answer_by server name target in
          let (was, named, after) = moves_are_whole.led tree host server name to w (ap (λ a. a.reply) answer) in
          let led = named_is (with_moved tree found.0 found.1 to) server name (moved was to) (ap (λ a. fileset_named a.tree server name) (sym answer) ∙ after) in
          let one : was ≡ old = ok_is was old (sym named ∙ ap (λ o. found_or o NoFileset) e) in
          (moved was to, led, (moved_parts was to).0 ∙ ap (λ f. f.id) one)

-- each call
module _ (tree : Tree) (host : HostId) (server : ServerId) (name : List ℕ) (w : IsWellFormed tree) where
  move_leads : (user : User) → user_of tree.roster host ≡ Some user → (first : ServerId) (label : List ℕ) (to : ServerId) → LeadsOn tree server name (move_answer tree user first label to).tree
  unfolding move_answer
  move_leads user is_user first label to = checked_leads tree server name (move_target tree user first label to) _ (λ found h.
      let (placed, m) = move_ok tree user first label to found h in
      moved_leads tree host user is_user to found w m first label h placed server name)

  call_leads : (user : User) → user_of tree.roster host ≡ Some user → (call : CallOf) → LeadsOn tree server name (answer_for tree host call user).tree
  unfolding answer_for lock_answer unlock_answer open_answer close_answer
  call_leads user is_user (NewFileset at label objects owner) = founded tree server name at label objects owner w
  call_leads user is_user (CloneFileset at source label) = copied tree server name user at source label w
  call_leads user is_user (MoveFileset first label to) = move_leads user is_user first label to
  call_leads user is_user (Lock label place writing from len) = checked_leads tree server name (lock_check tree host user label place writing from len) _ (λ found h. stays tree server name)
  call_leads user is_user (Unlock label) = freed_leads tree server name (has_lock tree.locks host label) _ _ (stays tree server name)
  call_leads user is_user (OpenFile label place kind) = checked_leads tree server name (open_check tree host user label place kind) _ (λ found h. stays tree server name)
  call_leads user is_user (CloseFile label) = freed_leads tree server name (has_open tree.opens host label) _ _ (stays tree server name)
  call_leads user is_user (Create place) = row_leads tree server name host user (Create place)
  call_leads user is_user (MakeDir place) = row_leads tree server name host user (MakeDir place)
  call_leads user is_user (Remove place) = row_leads tree server name host user (Remove place)
  call_leads user is_user (Rename from to) = row_leads tree server name host user (Rename from to)
  call_leads user is_user (Truncate place len) = row_leads tree server name host user (Truncate place len)
  call_leads user is_user (SetAcl place which list) = row_leads tree server name host user (SetAcl place which list)
  call_leads user is_user (Read place from len) = row_leads tree server name host user (Read place from len)
  call_leads user is_user (Write place from bytes) = row_leads tree server name host user (Write place from bytes)
  call_leads user is_user (ListNames place) = row_leads tree server name host user (ListNames place)
  call_leads user is_user (Stat place) = row_leads tree server name host user (Stat place)
  call_leads user is_user (GetAcl place which) = row_leads tree server name host user (GetAcl place which)
  call_leads user is_user (Sync place) = row_leads tree server name host user (Sync place)

  user_leads : (call : CallOf) (found : Option User) → user_of tree.roster host ≡ found → LeadsOn tree server name (for_user tree found (answer_for tree host call)).tree
  user_leads call None e = stays tree server name
  user_leads call (Some user) e = call_leads user e call

-- records whose room is freed
freed_id : (records : List Away) (at server : ServerId) (id : FilesetId) (name : List ℕ) → away_id (room_freed records at id) server name ≡ away_id records server name
freed_id records at server id name =
    ap (λ o. option_map (λ away. away.fileset) o) (find_mapped (is_away_named server name) freed (λ away. same_named (is_away at id away) away) records) ∙ same_option (find (is_away_named server name) records)
  where
    freed : Away → Away
    freed away = if is_away at id away then record away { room_kept = false } else away

    same_named : (b : Bool) (away : Away) → is_away_named server name (if b then record away { room_kept = false } else away) ≡ is_away_named server name away
    same_named true away = refl
    same_named false away = refl

    same_fileset : (b : Bool) (away : Away) → (if b then record away { room_kept = false } else away).fileset ≡ away.fileset
    same_fileset true away = refl
    same_fileset false away = refl

    same_option : (o : Option Away) → option_map (λ away. away.fileset) (option_map freed o) ≡ option_map (λ away. away.fileset) o
    same_option None = refl
    same_option (Some away) = ap Some (same_fileset (is_away at id away) away)

changed_name : (fileset : Fileset) (fid : Fid) (change : _) → SameName fileset (changed fileset fid.anode change)
unfolding updated
changed_name fileset fid change = record { id = refl; server = refl; name = refl }

down_name : (host : HostId) (server : ServerId) (fileset : Fileset) → SameName fileset (if fileset.server.0 == server.0 then fileset_forgotten host fileset else fileset)
down_name host server fileset = let it = (forget_at_follows (λ fid. false) host server fileset).same in record { id = it.id; server = it.server; name = it.name }

entry_leads : (tree : Tree) (entry : Entry) (server : ServerId) (name : List ℕ) → IsWellFormed tree → LeadsOn tree server name (after_entry tree entry)
unfolding answer_to stored_tree down_tree left_tree
entry_leads tree (Call host k call reply) server name w = user_leads tree host server name w call (user_of tree.roster host) refl
entry_leads tree (Stored host fid spans stored) server name w = same_leads tree server name (stored_tree tree host fid spans stored) (changed_same tree.filesets _ _ (λ fileset. changed_name fileset fid _)) refl
entry_leads tree (Down host at) server name w = same_leads tree server name (down_tree tree host at) (map_same _ (λ fileset. down_name host at fileset) tree.filesets) refl
entry_leads tree (Left at id) server name w = same_leads tree server name (left_tree tree at id) (all_itself tree.filesets) (freed_id tree.away at server id name)

pub names_lead_on : NamesLeadOn
unfolding fileset_named
names_lead_on tree entry server name old w named =
    let (f, found, same) = entry_leads tree entry server name w old (named_is tree server name old named) in
    (f, ap (λ o. found_or o NoFileset) found, same)
