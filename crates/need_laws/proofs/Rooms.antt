-- What a server has for further filesets hangs on what it knows.
use Rattle.std.proofs.Common.{◌≡◌, ◌≢◌, ℕ, ◌+◌, ◌-◌, ◌==◌, nat_lt, nat_le, Bool, true, false, List, [], ◌∷◌, Some, None, Ok, refl, sym, ap, ◌∙◌, arith}
use Rattle.std.specs.Prelude.{filter, insert, slice_get, slice_set, if◌then◌else◌}
use Rattle.std.specs.List.{list_any}
use Rattle.std.specs.Option.{option_map_or}
use Rattle.std.proofs.lemmas.Grind.{common_steps}
use Rattle.base_types.specs.Outcomes.{and_then}
use Rattle.base_types.specs.declared.ids.ServerId.{ServerId}
use Rattle.base_types.specs.declared.limits.TheConstants.{FILESETS_MAX, FILESET_NUMBER_MAX}
use Rattle.tree_calls.specs.declared.reply.Refusal.TheVariants.{TooMany, NoRoom}
use Rattle.tree_filesets.specs.declared.fileset.Fileset.{Fileset}
use Rattle.tree_filesets.specs.Checks.{unless}
use Rattle.tree_filesets.specs.Promises.{promise}
use Rattle.tree_filesets.proofs.Names.{find-filter_kept}
use Rattle.tree_answers.specs.Finding.{found_or, has_id, id_place}
use Rattle.tree_answers.specs.Founding.{away_count, away_promise, away_promised, blocks_for, count_at, fileset_count, promised, promised_at, room_for, room_of, slot_for, with_fileset}
use Rattle.tree_answers.specs.WellFormed.{ids_rise}
use Rattle.tree_answers.specs.declared.tree.Away.{Away}
use Rattle.tree_answers.specs.declared.tree.ServerRoom.{ServerRoom}
use Rattle.tree_answers.specs.declared.tree.Tree.{Tree}
use Rattle.tree_answers.proofs.Inserted.{promised_total, room_within, set_here, set_other}
use Rattle.tree_answers.proofs.Totals.{total}
use Rattle.tree_laws.proofs.Steps.{same_number}
use Rattle.need_laws.specs.Known.{SameAt, filesets_of, is_known, is_record_of, records_of}
use Rattle.need_laws.proofs.Lists.{Implies, count_kept, insert_kept, or_left, or_right, total_kept}

-- what is at a server it knows
pub at_known : (records : List Away) (server : ServerId) → Implies (λ fileset. fileset.server.0 == server.0) (is_known records server)
at_known records server fileset h = or_left _ _ h

-- what is promised to its filesets
promised_kept : (server : ServerId) (q : Fileset → Bool) (filesets : List Fileset) → Implies (λ fileset. fileset.server.0 == server.0) q → promised server (filter q filesets) ≡ promised server filesets
promised_kept server q filesets h =
    promised_total server (filter q filesets)
    ∙ total_kept (λ fileset. if fileset.server.0 == server.0 then promise fileset else 0) q filesets (λ fileset e. ap (λ t. if t then promise fileset else 0) (not_at fileset e))
    ∙ sym (promised_total server filesets)
  where
    not_at : (fileset : Fileset) → q fileset ≡ false → (fileset.server.0 == server.0) ≡ false
    not_at fileset e = Rattle.need_laws.proofs.Lists.not_passed (q fileset) (fileset.server.0 == server.0) e (h fileset)

-- to its records
away_total : (server : ServerId) (filesets : List Fileset) (records : List Away) → away_promised server filesets records ≡ total (λ away. if away.server.0 == server.0 then away_promise filesets away else 0) records
away_total server filesets [] = refl
away_total server filesets (away ∷ records) = ap (λ n. (if away.server.0 == server.0 then away_promise filesets away else 0) + n) (away_total server filesets records)

own_records : (server : ServerId) (filesets : List Fileset) (records : List Away) → away_promised server filesets (filter (is_record_of server) records) ≡ away_promised server filesets records
own_records server filesets records =
    away_total server filesets (filter (is_record_of server) records)
    ∙ total_kept (λ away. if away.server.0 == server.0 then away_promise filesets away else 0) (is_record_of server) records (λ away e. ap (λ t. if t then away_promise filesets away else 0) e)
    ∙ sym (away_total server filesets records)

known_records : (server : ServerId) (q : Fileset → Bool) (filesets : List Fileset) (records : List Away) → ((fileset : Fileset) → list_any (λ away. has_id away.fileset fileset) records ≡ true → q fileset ≡ true) →
    away_promised server (filter q filesets) records ≡ away_promised server filesets records
known_records server q filesets [] h = refl
known_records server q filesets (away ∷ records) h =
    ap (λ o. (if away.server.0 == server.0 then (if away.room_kept then option_map_or promise o 0 else 0) else 0) + away_promised server (filter q filesets) records)
    (find-filter_kept (has_id away.fileset) q filesets (λ fileset k. h fileset (or_left _ _ k)))
    ∙ ap (λ n. (if away.server.0 == server.0 then away_promise filesets away else 0) + n) (known_records server q filesets records (λ fileset k. h fileset (or_right _ _ k)))

promised_known : (tree : Tree) (server : ServerId) → promised server (filesets_of server tree) + away_promised server (filesets_of server tree) (records_of server tree) ≡ promised_at tree server
promised_known tree server =
    let q = is_known (records_of server tree) server in
    ap (λ n. n + away_promised server (filesets_of server tree) (records_of server tree)) (promised_kept server q tree.filesets (at_known (records_of server tree) server))
    ∙ ap (λ n. promised server tree.filesets + n) (known_records server q tree.filesets (records_of server tree) (λ fileset k. or_right _ _ k) ∙ own_records server tree.filesets tree.away)

count_known : (tree : Tree) (server : ServerId) → fileset_count server (filesets_of server tree) + away_count server (records_of server tree) ≡ count_at tree server
count_known tree server =
    ap (λ n. n + away_count server (records_of server tree)) (count_kept (λ fileset. fileset.server.0 == server.0) (is_known (records_of server tree) server) tree.filesets (at_known (records_of server tree) server))
    ∙ ap (λ n. fileset_count server tree.filesets + n) (count_kept (λ away. away.server.0 == server.0) (is_record_of server) tree.away (λ away h. h))

module _ (a b : Tree) (server : ServerId) (same : SameAt server a b) where
  same_count : count_at a server ≡ count_at b server
  same_count =
      sym (count_known a server) ∙ ap (λ filesets. fileset_count server filesets + away_count server (records_of server a)) same.filesets
      ∙ ap (λ records. fileset_count server (filesets_of server b) + away_count server records) same.records ∙ count_known b server

  same_promised : promised_at a server ≡ promised_at b server
  same_promised =
      sym (promised_known a server) ∙ ap (λ filesets. promised server filesets + away_promised server filesets (records_of server a)) same.filesets
      ∙ ap (λ records. promised server (filesets_of server b) + away_promised server (filesets_of server b) records) same.records ∙ promised_known b server

  same_slot : slot_for a server false ≡ slot_for b server false
  same_slot =
      ap (λ n. unless (nat_le FILESETS_MAX n) TooMany (found_or (room_of a.servers server) TooMany)) same_count
      ∙ ap (λ o. unless (nat_le FILESETS_MAX (count_at b server)) TooMany (found_or o TooMany)) same.room

  pub same_room : (blocks : ℕ) → room_for a server blocks ≡ room_for b server blocks
  unfolding room_for
  same_room blocks =
      ap (λ found. and_then found (λ room. unless (nat_lt FILESET_NUMBER_MAX room.next) TooMany (blocks_for a server room blocks))) same_slot
      ∙ ap (λ n. and_then (slot_for b server false) (λ room. unless (nat_lt FILESET_NUMBER_MAX room.next) TooMany (unless (nat_lt room.capacity (n + blocks)) NoRoom (Ok room)))) same_promised

  -- a fileset more
  pub same_with : ids_rise a.filesets ≡ true → ids_rise b.filesets ≡ true → (room : ServerRoom) (new : Fileset) → room_of a.servers server ≡ Some room → new.server ≡ server →
      SameAt server (with_fileset a server room new) (with_fileset b server room new)
  same_with ra rb room new there at = record {
    roster = same.roster;
    room = room_put a.servers there ∙ sym (room_put b.servers (sym same.room ∙ there));
    filesets =
        insert_kept (is_known (records_of server a) server) a.filesets new.id new ra (known (records_of server a))
        ∙ ap (λ filesets. insert filesets (id_place filesets new.id) new) same.filesets
        ∙ sym (insert_kept (is_known (records_of server b) server) b.filesets new.id new rb (known (records_of server b)));
    records = same.records;
  }
    where
      known : (records : List Away) → is_known records server new ≡ true
      known records = or_left _ _ (ap (λ id. id.0 == server.0) at ∙ same_number server.0)

      room_put : (rooms : List ServerRoom) → room_of rooms server ≡ Some room → room_of (slice_set rooms (server.0 - 1) (record room { next = room.next + 1 })) server ≡ Some (record room { next = room.next + 1 })
      room_put rooms h =
          let (some, there) = room_within rooms server room h in
          let off : (server.0 == 0) ≡ false = grind (arith, common_steps, some) in
          ap (λ t. if t then None else slice_get (slice_set rooms (server.0 - 1) (record room { next = room.next + 1 })) (server.0 - 1)) off
          ∙ set_here rooms (server.0 - 1) room (record room { next = room.next + 1 }) there

-- and of another server nothing changes
pub rooms_stay : (rooms : List ServerRoom) (server other : ServerId) (room new : ServerRoom) → room_of rooms server ≡ Some room → other ≢ server → room_of (slice_set rooms (server.0 - 1) new) other ≡ room_of rooms other
rooms_stay rooms server other room new h differ = by_test (other.0 == 0) refl
  where
    by_test : (b : Bool) → (other.0 == 0) ≡ b → (if b then None else slice_get (slice_set rooms (server.0 - 1) new) (other.0 - 1)) ≡ (if b then None else slice_get rooms (other.0 - 1))
    by_test true e = refl
    by_test false e =
        let (some, there) = room_within rooms server room h in
        set_other rooms (server.0 - 1) (other.0 - 1) new (λ k.
        let here : other.0 ≡ server.0 = grind (arith, common_steps, some, e, k) in
        differ (ap (λ n. let id : ServerId = record { 0 = n } in id) here))
