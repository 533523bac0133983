-- Calls, by their number in the order of the calls and then their fields in order.
use Rattle.std.specs.Prelude.{ℕ, ◌==◌, ◌||◌, Bool, if◌then◌else◌, List, Ok}
use Rattle.tree_calls.specs.declared.call.Call.{Call}
use Rattle.tree_calls.specs.declared.call.Call.TheVariants.{
  NewFileset,
  Create,
  MakeDir,
  Remove,
  Rename,
  Truncate,
  SetAcl,
  CloneFileset,
  Read,
  Write,
  List as ListNames,
  Stat,
  GetAcl,
  Sync,
  Lock,
  Unlock,
  OpenFile,
  CloseFile,
  MoveFileset,
}
use Rattle.message_parts.specs.Spelled.{Spelled, ◌&◌, number, one_byte}
use Rattle.message_parts.specs.Reading.{Reading, ◌>>=◌, number_at, byte_at}
use Rattle.message_parts.specs.Words.{
  spell_u32,
  u32_at,
  spell_flag,
  flag_at,
  spell_server,
  server_at,
  spell_name,
  name_at,
  spell_bytes,
  bytes_at,
}
use Rattle.message_parts.specs.Places.{spell_user, spell_place, spell_which, user_at, place_at, which_at}
use Rattle.message_parts.specs.Access.{spell_access, access_at}
use Rattle.message_parts.specs.Tokens.{spell_open, open_at}

abbrev pub call_tag : Call → ℕ
call_tag (NewFileset server name objects owner) = 1
call_tag (Create place) = 2
call_tag (MakeDir place) = 3
call_tag (Remove place) = 4
call_tag (Rename from to) = 5
call_tag (Truncate place len) = 6
call_tag (SetAcl place which list) = 7
call_tag (CloneFileset server fileset new) = 8
call_tag (Read place from len) = 9
call_tag (Write place from bytes) = 10
call_tag (ListNames place) = 11
call_tag (Stat place) = 12
call_tag (GetAcl place which) = 13
call_tag (Sync place) = 14
call_tag (Lock label place writing from len) = 15
call_tag (Unlock label) = 16
call_tag (OpenFile label place kind) = 17
call_tag (CloseFile label) = 18
call_tag (MoveFileset server fileset to) = 19

unfoldable pub call_fields : Call → Spelled
call_fields (NewFileset server name objects owner) =
    spell_server server & spell_name name & spell_u32 objects & spell_user owner
call_fields (Create place) = spell_place place
call_fields (MakeDir place) = spell_place place
call_fields (Remove place) = spell_place place
call_fields (Rename from to) = spell_place from & spell_place to
call_fields (Truncate place len) = spell_place place & spell_u32 len
call_fields (SetAcl place which list) = spell_place place & spell_which which & spell_access list
call_fields (CloneFileset server fileset new) = spell_server server & spell_name fileset & spell_name new
call_fields (Read place from len) = spell_place place & spell_u32 from & spell_u32 len
call_fields (Write place from bytes) = spell_place place & spell_u32 from & spell_bytes 4294967295 bytes
call_fields (ListNames place) = spell_place place
call_fields (Stat place) = spell_place place
call_fields (GetAcl place which) = spell_place place & spell_which which
call_fields (Sync place) = spell_place place
call_fields (Lock label place writing from len) =
    spell_name label & spell_place place & spell_flag writing & spell_u32 from & spell_u32 len
call_fields (Unlock label) = spell_name label
call_fields (OpenFile label place kind) = spell_name label & spell_place place & spell_open kind
call_fields (CloseFile label) = spell_name label
call_fields (MoveFileset server fileset to) = spell_server server & spell_name fileset & spell_server to

unfoldable pub call_new_fileset_at : List ℕ → Reading Call
call_new_fileset_at rest =
    server_at rest >>= λ server rest. name_at rest >>= λ name rest. u32_at rest >>= λ objects rest.
    user_at rest >>= λ owner rest. Ok (NewFileset server name objects owner, rest)

unfoldable pub call_create_at : List ℕ → Reading Call
call_create_at rest =
    place_at rest >>= λ place rest. Ok (Create place, rest)

unfoldable pub call_make_dir_at : List ℕ → Reading Call
call_make_dir_at rest =
    place_at rest >>= λ place rest. Ok (MakeDir place, rest)

unfoldable pub call_remove_at : List ℕ → Reading Call
call_remove_at rest =
    place_at rest >>= λ place rest. Ok (Remove place, rest)

unfoldable pub call_rename_at : List ℕ → Reading Call
call_rename_at rest =
    place_at rest >>= λ from rest. place_at rest >>= λ to rest. Ok (Rename from to, rest)

unfoldable pub call_truncate_at : List ℕ → Reading Call
call_truncate_at rest =
    place_at rest >>= λ place rest. u32_at rest >>= λ len rest. Ok (Truncate place len, rest)

unfoldable pub call_set_acl_at : List ℕ → Reading Call
call_set_acl_at rest =
    place_at rest >>= λ place rest. which_at rest >>= λ which rest. access_at rest >>= λ list rest.
    Ok (SetAcl place which list, rest)

unfoldable pub call_clone_fileset_at : List ℕ → Reading Call
call_clone_fileset_at rest =
    server_at rest >>= λ server rest. name_at rest >>= λ fileset rest. name_at rest >>= λ new rest.
    Ok (CloneFileset server fileset new, rest)

unfoldable pub call_read_at : List ℕ → Reading Call
call_read_at rest =
    place_at rest >>= λ place rest. u32_at rest >>= λ from rest. u32_at rest >>= λ len rest.
    Ok (Read place from len, rest)

unfoldable pub call_write_at : List ℕ → Reading Call
call_write_at rest =
    place_at rest >>= λ place rest. u32_at rest >>= λ from rest. bytes_at 4294967295 rest >>= λ bytes rest.
    Ok (Write place from bytes, rest)

unfoldable pub call_list_names_at : List ℕ → Reading Call
call_list_names_at rest =
    place_at rest >>= λ place rest. Ok (ListNames place, rest)

unfoldable pub call_stat_at : List ℕ → Reading Call
call_stat_at rest =
    place_at rest >>= λ place rest. Ok (Stat place, rest)

unfoldable pub call_get_acl_at : List ℕ → Reading Call
call_get_acl_at rest =
    place_at rest >>= λ place rest. which_at rest >>= λ which rest. Ok (GetAcl place which, rest)

unfoldable pub call_sync_at : List ℕ → Reading Call
call_sync_at rest =
    place_at rest >>= λ place rest. Ok (Sync place, rest)

unfoldable pub call_lock_at : List ℕ → Reading Call
call_lock_at rest =
    name_at rest >>= λ label rest. place_at rest >>= λ place rest. flag_at rest >>= λ writing rest.
    u32_at rest >>= λ from rest. u32_at rest >>= λ len rest. Ok (Lock label place writing from len, rest)

unfoldable pub call_unlock_at : List ℕ → Reading Call
call_unlock_at rest =
    name_at rest >>= λ label rest. Ok (Unlock label, rest)

unfoldable pub call_open_file_at : List ℕ → Reading Call
call_open_file_at rest =
    name_at rest >>= λ label rest. place_at rest >>= λ place rest. open_at rest >>= λ kind rest.
    Ok (OpenFile label place kind, rest)

unfoldable pub call_close_file_at : List ℕ → Reading Call
call_close_file_at rest =
    name_at rest >>= λ label rest. Ok (CloseFile label, rest)

unfoldable pub call_move_fileset_at : List ℕ → Reading Call
call_move_fileset_at rest =
    server_at rest >>= λ server rest. name_at rest >>= λ fileset rest. server_at rest >>= λ to rest.
    Ok (MoveFileset server fileset to, rest)

unfoldable pub call_of : ℕ → List ℕ → Reading Call
call_of tag rest =
    if tag == 1 then call_new_fileset_at rest
    else if tag == 2 then call_create_at rest
    else if tag == 3 then call_make_dir_at rest
    else if tag == 4 then call_remove_at rest
    else if tag == 5 then call_rename_at rest
    else if tag == 6 then call_truncate_at rest
    else if tag == 7 then call_set_acl_at rest
    else if tag == 8 then call_clone_fileset_at rest
    else if tag == 9 then call_read_at rest
    else if tag == 10 then call_write_at rest
    else if tag == 11 then call_list_names_at rest
    else if tag == 12 then call_stat_at rest
    else if tag == 13 then call_get_acl_at rest
    else if tag == 14 then call_sync_at rest
    else if tag == 15 then call_lock_at rest
    else if tag == 16 then call_unlock_at rest
    else if tag == 17 then call_open_file_at rest
    else if tag == 18 then call_close_file_at rest
    else call_move_fileset_at rest

unfoldable pub spell_call : Call → Spelled
spell_call x = number 1 1 19 (call_tag x) & call_fields x

unfoldable pub call_at : List ℕ → Reading Call
call_at rest = number_at 1 1 19 rest >>= λ tag rest. call_of tag rest

abbrev pub ends_use : ℕ → Bool
ends_use tag = (tag == 16) || (tag == 18)

-- a call that ends a lock or an open
unfoldable pub spell_ending : Call → Spelled
spell_ending call = one_byte ends_use (call_tag call) & call_fields call

unfoldable pub ending_at : List ℕ → Reading Call
ending_at rest = byte_at ends_use rest >>= λ tag rest. call_of tag rest
