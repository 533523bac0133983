-- Reading calls is right.
use Rattle.std.proofs.Common.{◌≡◌, ℕ, zero, suc, ◌≤◌, Bool, true, List, Ok, refl, arith, lit<}
use Rattle.std.specs.Prelude.{nat_lt, ◌==◌}
use Rattle.std.proofs.Common.{inl, inr}
use Rattle.std.proofs.lemmas.Bool.{and_parts, or_cases, eqb-true}
use Rattle.base_types.specs.declared.user.User.{User}
use Rattle.base_types.specs.declared.access.AccessEntry.{AccessEntry}
use Rattle.base_types.specs.declared.ids.ServerId.{ServerId}
use Rattle.tree_calls.specs.declared.place.Place.{Place}
use Rattle.tree_calls.specs.declared.place.Which.{Which}
use Rattle.base_types.specs.declared.ids.OpenKind.{OpenKind}
use Rattle.tree_calls.specs.declared.call.Call.{Call}
use Rattle.tree_calls.specs.declared.call.Call.TheVariants.{NewFileset, Create, MakeDir, Remove, Rename, Truncate, SetAcl, CloneFileset, Read, Write, List as ListNames, Stat, GetAcl, Sync, Lock, Unlock, OpenFile, CloseFile, MoveFileset}
use Rattle.message_parts.specs.Spelled.{◌&◌, number, one_byte}
use Rattle.message_parts.specs.Reading.{◌>>=◌, number_at, byte_at}
use Rattle.message_parts.specs.Words.{spell_u32, u32_at, spell_flag, flag_at, spell_server, server_at, spell_name, name_at, spell_bytes, bytes_at}
use Rattle.message_parts.proofs.More.{more_right}
use Rattle.message_parts.proofs.Parts.{last_right, mapped, byte_right}
use Rattle.message_parts.proofs.Numbers.{number_right}
use Rattle.message_parts.proofs.Right.{Right, Any, same, IsRight}
use Rattle.message_parts.proofs.Words.{u32_right, variant_right, flag_right, server_right, code_bounds, name_right, bytes_right}
use Rattle.message_parts.specs.Places.{spell_user, spell_place, spell_which, user_at, place_at, which_at}
use Rattle.message_parts.specs.Access.{spell_access, access_at}
use Rattle.message_parts.specs.Tokens.{spell_open, open_at}
use Rattle.message_calls.specs.Calls.{call_tag, call_fields, call_of, spell_call, call_at, call_new_fileset_at, call_create_at, call_make_dir_at, call_remove_at, call_rename_at, call_truncate_at, call_set_acl_at, call_clone_fileset_at, call_read_at, call_write_at, call_list_names_at, call_stat_at, call_get_acl_at, call_sync_at, call_lock_at, call_unlock_at, call_open_file_at, call_close_file_at, call_move_fileset_at, ends_use, spell_ending, ending_at}
use Rattle.message_parts.proofs.Places.{user_right, place_right, which_right}
use Rattle.message_parts.proofs.Access.{access_right}
use Rattle.message_parts.proofs.Tokens.{open_right}

abbrev pub made_call_new_fileset : (ServerId × List ℕ × ℕ × User) → Call
made_call_new_fileset t = NewFileset t.0 t.1 t.2 t.3

pub call_new_fileset_parts : Right Any (λ t. call_fields (made_call_new_fileset t)) made_call_new_fileset call_new_fileset_at
unfolding call_fields call_new_fileset_at
call_new_fileset_parts =
    more_right (λ (t : (ServerId × List ℕ × ℕ × User)). Any t) spell_server (λ t. spell_name t.1 & spell_u32 t.2 & spell_user t.3) (λ t. t.0) made_call_new_fileset server_at
    (λ a0 rest. name_at rest >>= λ a1 rest. u32_at rest >>= λ a2 rest. user_at rest >>= λ a3 rest. Ok (NewFileset a0 a1 a2 a3, rest)) server_right
    (λ a0 f0. more_right (λ (t : (ServerId × List ℕ × ℕ × User)). (Any t × (t.0 ≡ a0))) spell_name (λ t. spell_u32 t.2 & spell_user t.3) (λ t. t.1) made_call_new_fileset name_at
    (λ a1 rest. u32_at rest >>= λ a2 rest. user_at rest >>= λ a3 rest. Ok (NewFileset a0 a1 a2 a3, rest)) name_right
    (λ a1 f1. more_right (λ (t : (ServerId × List ℕ × ℕ × User)). ((Any t × (t.0 ≡ a0)) × (t.1 ≡ a1))) spell_u32 (λ t. spell_user t.3) (λ t. t.2) made_call_new_fileset u32_at
    (λ a2 rest. user_at rest >>= λ a3 rest. Ok (NewFileset a0 a1 a2 a3, rest)) u32_right
    (λ a2 f2. last_right (λ (t : (ServerId × List ℕ × ℕ × User)). (((Any t × (t.0 ≡ a0)) × (t.1 ≡ a1)) × (t.2 ≡ a2))) Any spell_user (λ t. t.3) made_call_new_fileset (λ z. NewFileset a0 a1 a2 z) user_at (λ z any. ((a0, a1, a2, z), (((tt, refl), refl), refl), refl)) (λ t c. (tt, cc)) user_right)))

is_call_new_fileset : (x : Call) → call_tag x ≡ 1 → (t : (ServerId × List ℕ × ℕ × User)) × (made_call_new_fileset t ≡ x)
is_call_new_fileset (NewFileset server name objects owner) e = ((server, name, objects, owner), refl)
is_call_new_fileset _ e = absurd (omega (arith, e))

abbrev pub made_call_create : Place → Call
made_call_create t = Create t

pub call_create_parts : Right Any (λ t. call_fields (made_call_create t)) made_call_create call_create_at
unfolding call_fields call_create_at
call_create_parts =
    mapped Any spell_place same made_call_create place_at place_right

is_call_create : (x : Call) → call_tag x ≡ 2 → (t : Place) × (made_call_create t ≡ x)
is_call_create (Create place) e = (place, refl)
is_call_create _ e = absurd (omega (arith, e))

abbrev pub made_call_make_dir : Place → Call
made_call_make_dir t = MakeDir t

pub call_make_dir_parts : Right Any (λ t. call_fields (made_call_make_dir t)) made_call_make_dir call_make_dir_at
unfolding call_fields call_make_dir_at
call_make_dir_parts =
    mapped Any spell_place same made_call_make_dir place_at place_right

is_call_make_dir : (x : Call) → call_tag x ≡ 3 → (t : Place) × (made_call_make_dir t ≡ x)
is_call_make_dir (MakeDir place) e = (place, refl)
is_call_make_dir _ e = absurd (omega (arith, e))

abbrev pub made_call_remove : Place → Call
made_call_remove t = Remove t

pub call_remove_parts : Right Any (λ t. call_fields (made_call_remove t)) made_call_remove call_remove_at
unfolding call_fields call_remove_at
call_remove_parts =
    mapped Any spell_place same made_call_remove place_at place_right

is_call_remove : (x : Call) → call_tag x ≡ 4 → (t : Place) × (made_call_remove t ≡ x)
is_call_remove (Remove place) e = (place, refl)
is_call_remove _ e = absurd (omega (arith, e))

abbrev pub made_call_rename : (Place × Place) → Call
made_call_rename t = Rename t.0 t.1

pub call_rename_parts : Right Any (λ t. call_fields (made_call_rename t)) made_call_rename call_rename_at
unfolding call_fields call_rename_at
call_rename_parts =
    more_right (λ (t : (Place × Place)). Any t) spell_place (λ t. spell_place t.1) (λ t. t.0) made_call_rename place_at
    (λ a0 rest. place_at rest >>= λ a1 rest. Ok (Rename a0 a1, rest)) place_right
    (λ a0 f0. last_right (λ (t : (Place × Place)). (Any t × (t.0 ≡ a0))) Any spell_place (λ t. t.1) made_call_rename (λ z. Rename a0 z) place_at (λ z any. ((a0, z), (tt, refl), refl)) (λ t c. (tt, cc)) place_right)

is_call_rename : (x : Call) → call_tag x ≡ 5 → (t : (Place × Place)) × (made_call_rename t ≡ x)
is_call_rename (Rename from to) e = ((from, to), refl)
is_call_rename _ e = absurd (omega (arith, e))

abbrev pub made_call_truncate : (Place × ℕ) → Call
made_call_truncate t = Truncate t.0 t.1

pub call_truncate_parts : Right Any (λ t. call_fields (made_call_truncate t)) made_call_truncate call_truncate_at
unfolding call_fields call_truncate_at
call_truncate_parts =
    more_right (λ (t : (Place × ℕ)). Any t) spell_place (λ t. spell_u32 t.1) (λ t. t.0) made_call_truncate place_at
    (λ a0 rest. u32_at rest >>= λ a1 rest. Ok (Truncate a0 a1, rest)) place_right
    (λ a0 f0. last_right (λ (t : (Place × ℕ)). (Any t × (t.0 ≡ a0))) Any spell_u32 (λ t. t.1) made_call_truncate (λ z. Truncate a0 z) u32_at (λ z any. ((a0, z), (tt, refl), refl)) (λ t c. (tt, cc)) u32_right)

is_call_truncate : (x : Call) → call_tag x ≡ 6 → (t : (Place × ℕ)) × (made_call_truncate t ≡ x)
is_call_truncate (Truncate place len) e = ((place, len), refl)
is_call_truncate _ e = absurd (omega (arith, e))

abbrev pub made_call_set_acl : (Place × Which × List AccessEntry) → Call
made_call_set_acl t = SetAcl t.0 t.1 t.2

pub call_set_acl_parts : Right Any (λ t. call_fields (made_call_set_acl t)) made_call_set_acl call_set_acl_at
unfolding call_fields call_set_acl_at
call_set_acl_parts =
    more_right (λ (t : (Place × Which × List AccessEntry)). Any t) spell_place (λ t. spell_which t.1 & spell_access t.2) (λ t. t.0) made_call_set_acl place_at
    (λ a0 rest. which_at rest >>= λ a1 rest. access_at rest >>= λ a2 rest. Ok (SetAcl a0 a1 a2, rest)) place_right
    (λ a0 f0. more_right (λ (t : (Place × Which × List AccessEntry)). (Any t × (t.0 ≡ a0))) spell_which (λ t. spell_access t.2) (λ t. t.1) made_call_set_acl which_at
    (λ a1 rest. access_at rest >>= λ a2 rest. Ok (SetAcl a0 a1 a2, rest)) which_right
    (λ a1 f1. last_right (λ (t : (Place × Which × List AccessEntry)). ((Any t × (t.0 ≡ a0)) × (t.1 ≡ a1))) Any spell_access (λ t. t.2) made_call_set_acl (λ z. SetAcl a0 a1 z) access_at (λ z any. ((a0, a1, z), ((tt, refl), refl), refl)) (λ t c. (tt, cc)) access_right))

is_call_set_acl : (x : Call) → call_tag x ≡ 7 → (t : (Place × Which × List AccessEntry)) × (made_call_set_acl t ≡ x)
is_call_set_acl (SetAcl place which list) e = ((place, which, list), refl)
is_call_set_acl _ e = absurd (omega (arith, e))

abbrev pub made_call_clone_fileset : (ServerId × List ℕ × List ℕ) → Call
made_call_clone_fileset t = CloneFileset t.0 t.1 t.2

pub call_clone_fileset_parts : Right Any (λ t. call_fields (made_call_clone_fileset t)) made_call_clone_fileset call_clone_fileset_at
unfolding call_fields call_clone_fileset_at
call_clone_fileset_parts =
    more_right (λ (t : (ServerId × List ℕ × List ℕ)). Any t) spell_server (λ t. spell_name t.1 & spell_name t.2) (λ t. t.0) made_call_clone_fileset server_at
    (λ a0 rest. name_at rest >>= λ a1 rest. name_at rest >>= λ a2 rest. Ok (CloneFileset a0 a1 a2, rest)) server_right
    (λ a0 f0. more_right (λ (t : (ServerId × List ℕ × List ℕ)). (Any t × (t.0 ≡ a0))) spell_name (λ t. spell_name t.2) (λ t. t.1) made_call_clone_fileset name_at
    (λ a1 rest. name_at rest >>= λ a2 rest. Ok (CloneFileset a0 a1 a2, rest)) name_right
    (λ a1 f1. last_right (λ (t : (ServerId × List ℕ × List ℕ)). ((Any t × (t.0 ≡ a0)) × (t.1 ≡ a1))) Any spell_name (λ t. t.2) made_call_clone_fileset (λ z. CloneFileset a0 a1 z) name_at (λ z any. ((a0, a1, z), ((tt, refl), refl), refl)) (λ t c. (tt, cc)) name_right))

is_call_clone_fileset : (x : Call) → call_tag x ≡ 8 → (t : (ServerId × List ℕ × List ℕ)) × (made_call_clone_fileset t ≡ x)
is_call_clone_fileset (CloneFileset server fileset new) e = ((server, fileset, new), refl)
is_call_clone_fileset _ e = absurd (omega (arith, e))

abbrev pub made_call_read : (Place × ℕ × ℕ) → Call
made_call_read t = Read t.0 t.1 t.2

pub call_read_parts : Right Any (λ t. call_fields (made_call_read t)) made_call_read call_read_at
unfolding call_fields call_read_at
call_read_parts =
    more_right (λ (t : (Place × ℕ × ℕ)). Any t) spell_place (λ t. spell_u32 t.1 & spell_u32 t.2) (λ t. t.0) made_call_read place_at
    (λ a0 rest. u32_at rest >>= λ a1 rest. u32_at rest >>= λ a2 rest. Ok (Read a0 a1 a2, rest)) place_right
    (λ a0 f0. more_right (λ (t : (Place × ℕ × ℕ)). (Any t × (t.0 ≡ a0))) spell_u32 (λ t. spell_u32 t.2) (λ t. t.1) made_call_read u32_at
    (λ a1 rest. u32_at rest >>= λ a2 rest. Ok (Read a0 a1 a2, rest)) u32_right
    (λ a1 f1. last_right (λ (t : (Place × ℕ × ℕ)). ((Any t × (t.0 ≡ a0)) × (t.1 ≡ a1))) Any spell_u32 (λ t. t.2) made_call_read (λ z. Read a0 a1 z) u32_at (λ z any. ((a0, a1, z), ((tt, refl), refl), refl)) (λ t c. (tt, cc)) u32_right))

is_call_read : (x : Call) → call_tag x ≡ 9 → (t : (Place × ℕ × ℕ)) × (made_call_read t ≡ x)
is_call_read (Read place from len) e = ((place, from, len), refl)
is_call_read _ e = absurd (omega (arith, e))

abbrev pub made_call_write : (Place × ℕ × List ℕ) → Call
made_call_write t = Write t.0 t.1 t.2

pub call_write_parts : Right Any (λ t. call_fields (made_call_write t)) made_call_write call_write_at
unfolding call_fields call_write_at
call_write_parts =
    more_right (λ (t : (Place × ℕ × List ℕ)). Any t) spell_place (λ t. spell_u32 t.1 & spell_bytes 4294967295 t.2) (λ t. t.0) made_call_write place_at
    (λ a0 rest. u32_at rest >>= λ a1 rest. bytes_at 4294967295 rest >>= λ a2 rest. Ok (Write a0 a1 a2, rest)) place_right
    (λ a0 f0. more_right (λ (t : (Place × ℕ × List ℕ)). (Any t × (t.0 ≡ a0))) spell_u32 (λ t. spell_bytes 4294967295 t.2) (λ t. t.1) made_call_write u32_at
    (λ a1 rest. bytes_at 4294967295 rest >>= λ a2 rest. Ok (Write a0 a1 a2, rest)) u32_right
    (λ a1 f1. last_right (λ (t : (Place × ℕ × List ℕ)). ((Any t × (t.0 ≡ a0)) × (t.1 ≡ a1))) Any (spell_bytes 4294967295) (λ t. t.2) made_call_write (λ z. Write a0 a1 z) (bytes_at 4294967295) (λ z any. ((a0, a1, z), ((tt, refl), refl), refl)) (λ t c. (tt, cc)) (bytes_right 4294967295 (lit< tt))))

is_call_write : (x : Call) → call_tag x ≡ 10 → (t : (Place × ℕ × List ℕ)) × (made_call_write t ≡ x)
is_call_write (Write place from bytes) e = ((place, from, bytes), refl)
is_call_write _ e = absurd (omega (arith, e))

abbrev pub made_call_list_names : Place → Call
made_call_list_names t = ListNames t

pub call_list_names_parts : Right Any (λ t. call_fields (made_call_list_names t)) made_call_list_names call_list_names_at
unfolding call_fields call_list_names_at
call_list_names_parts =
    mapped Any spell_place same made_call_list_names place_at place_right

is_call_list_names : (x : Call) → call_tag x ≡ 11 → (t : Place) × (made_call_list_names t ≡ x)
is_call_list_names (ListNames place) e = (place, refl)
is_call_list_names _ e = absurd (omega (arith, e))

abbrev pub made_call_stat : Place → Call
made_call_stat t = Stat t

pub call_stat_parts : Right Any (λ t. call_fields (made_call_stat t)) made_call_stat call_stat_at
unfolding call_fields call_stat_at
call_stat_parts =
    mapped Any spell_place same made_call_stat place_at place_right

is_call_stat : (x : Call) → call_tag x ≡ 12 → (t : Place) × (made_call_stat t ≡ x)
is_call_stat (Stat place) e = (place, refl)
is_call_stat _ e = absurd (omega (arith, e))

abbrev pub made_call_get_acl : (Place × Which) → Call
made_call_get_acl t = GetAcl t.0 t.1

pub call_get_acl_parts : Right Any (λ t. call_fields (made_call_get_acl t)) made_call_get_acl call_get_acl_at
unfolding call_fields call_get_acl_at
call_get_acl_parts =
    more_right (λ (t : (Place × Which)). Any t) spell_place (λ t. spell_which t.1) (λ t. t.0) made_call_get_acl place_at
    (λ a0 rest. which_at rest >>= λ a1 rest. Ok (GetAcl a0 a1, rest)) place_right
    (λ a0 f0. last_right (λ (t : (Place × Which)). (Any t × (t.0 ≡ a0))) Any spell_which (λ t. t.1) made_call_get_acl (λ z. GetAcl a0 z) which_at (λ z any. ((a0, z), (tt, refl), refl)) (λ t c. (tt, cc)) which_right)

is_call_get_acl : (x : Call) → call_tag x ≡ 13 → (t : (Place × Which)) × (made_call_get_acl t ≡ x)
is_call_get_acl (GetAcl place which) e = ((place, which), refl)
is_call_get_acl _ e = absurd (omega (arith, e))

abbrev pub made_call_sync : Place → Call
made_call_sync t = Sync t

pub call_sync_parts : Right Any (λ t. call_fields (made_call_sync t)) made_call_sync call_sync_at
unfolding call_fields call_sync_at
call_sync_parts =
    mapped Any spell_place same made_call_sync place_at place_right

is_call_sync : (x : Call) → call_tag x ≡ 14 → (t : Place) × (made_call_sync t ≡ x)
is_call_sync (Sync place) e = (place, refl)
is_call_sync _ e = absurd (omega (arith, e))

abbrev pub made_call_lock : (List ℕ × Place × Bool × ℕ × ℕ) → Call
made_call_lock t = Lock t.0 t.1 t.2 t.3 t.4

pub call_lock_parts : Right Any (λ t. call_fields (made_call_lock t)) made_call_lock call_lock_at
unfolding call_fields call_lock_at
call_lock_parts =
    more_right (λ (t : (List ℕ × Place × Bool × ℕ × ℕ)). Any t) spell_name (λ t. spell_place t.1 & spell_flag t.2 & spell_u32 t.3 & spell_u32 t.4) (λ t. t.0) made_call_lock name_at
    (λ a0 rest. place_at rest >>= λ a1 rest. flag_at rest >>= λ a2 rest. u32_at rest >>= λ a3 rest. u32_at rest >>= λ a4 rest. Ok (Lock a0 a1 a2 a3 a4, rest)) name_right
    (λ a0 f0. more_right (λ (t : (List ℕ × Place × Bool × ℕ × ℕ)). (Any t × (t.0 ≡ a0))) spell_place (λ t. spell_flag t.2 & spell_u32 t.3 & spell_u32 t.4) (λ t. t.1) made_call_lock place_at
    (λ a1 rest. flag_at rest >>= λ a2 rest. u32_at rest >>= λ a3 rest. u32_at rest >>= λ a4 rest. Ok (Lock a0 a1 a2 a3 a4, rest)) place_right
    (λ a1 f1. more_right (λ (t : (List ℕ × Place × Bool × ℕ × ℕ)). ((Any t × (t.0 ≡ a0)) × (t.1 ≡ a1))) spell_flag (λ t. spell_u32 t.3 & spell_u32 t.4) (λ t. t.2) made_call_lock flag_at
    (λ a2 rest. u32_at rest >>= λ a3 rest. u32_at rest >>= λ a4 rest. Ok (Lock a0 a1 a2 a3 a4, rest)) flag_right
    (λ a2 f2. more_right (λ (t : (List ℕ × Place × Bool × ℕ × ℕ)). (((Any t × (t.0 ≡ a0)) × (t.1 ≡ a1)) × (t.2 ≡ a2))) spell_u32 (λ t. spell_u32 t.4) (λ t. t.3) made_call_lock u32_at
    (λ a3 rest. u32_at rest >>= λ a4 rest. Ok (Lock a0 a1 a2 a3 a4, rest)) u32_right
    (λ a3 f3. last_right (λ (t : (List ℕ × Place × Bool × ℕ × ℕ)). ((((Any t × (t.0 ≡ a0)) × (t.1 ≡ a1)) × (t.2 ≡ a2)) × (t.3 ≡ a3))) Any spell_u32 (λ t. t.4) made_call_lock (λ z. Lock a0 a1 a2 a3 z) u32_at (λ z any. ((a0, a1, a2, a3, z), ((((tt, refl), refl), refl), refl), refl)) (λ t c. (tt, cc)) u32_right))))

is_call_lock : (x : Call) → call_tag x ≡ 15 → (t : (List ℕ × Place × Bool × ℕ × ℕ)) × (made_call_lock t ≡ x)
is_call_lock (Lock label place writing from len) e = ((label, place, writing, from, len), refl)
is_call_lock _ e = absurd (omega (arith, e))

abbrev pub made_call_unlock : (List ℕ) → Call
made_call_unlock t = Unlock t

pub call_unlock_parts : Right Any (λ t. call_fields (made_call_unlock t)) made_call_unlock call_unlock_at
unfolding call_fields call_unlock_at
call_unlock_parts =
    mapped Any spell_name same made_call_unlock name_at name_right

is_call_unlock : (x : Call) → call_tag x ≡ 16 → (t : (List ℕ)) × (made_call_unlock t ≡ x)
is_call_unlock (Unlock label) e = (label, refl)
is_call_unlock _ e = absurd (omega (arith, e))

abbrev pub made_call_open_file : (List ℕ × Place × OpenKind) → Call
made_call_open_file t = OpenFile t.0 t.1 t.2

pub call_open_file_parts : Right Any (λ t. call_fields (made_call_open_file t)) made_call_open_file call_open_file_at
unfolding call_fields call_open_file_at
call_open_file_parts =
    more_right (λ (t : (List ℕ × Place × OpenKind)). Any t) spell_name (λ t. spell_place t.1 & spell_open t.2) (λ t. t.0) made_call_open_file name_at
    (λ a0 rest. place_at rest >>= λ a1 rest. open_at rest >>= λ a2 rest. Ok (OpenFile a0 a1 a2, rest)) name_right
    (λ a0 f0. more_right (λ (t : (List ℕ × Place × OpenKind)). (Any t × (t.0 ≡ a0))) spell_place (λ t. spell_open t.2) (λ t. t.1) made_call_open_file place_at
    (λ a1 rest. open_at rest >>= λ a2 rest. Ok (OpenFile a0 a1 a2, rest)) place_right
    (λ a1 f1. last_right (λ (t : (List ℕ × Place × OpenKind)). ((Any t × (t.0 ≡ a0)) × (t.1 ≡ a1))) Any spell_open (λ t. t.2) made_call_open_file (λ z. OpenFile a0 a1 z) open_at (λ z any. ((a0, a1, z), ((tt, refl), refl), refl)) (λ t c. (tt, cc)) open_right))

is_call_open_file : (x : Call) → call_tag x ≡ 17 → (t : (List ℕ × Place × OpenKind)) × (made_call_open_file t ≡ x)
is_call_open_file (OpenFile label place kind) e = ((label, place, kind), refl)
is_call_open_file _ e = absurd (omega (arith, e))

abbrev pub made_call_close_file : (List ℕ) → Call
made_call_close_file t = CloseFile t

pub call_close_file_parts : Right Any (λ t. call_fields (made_call_close_file t)) made_call_close_file call_close_file_at
unfolding call_fields call_close_file_at
call_close_file_parts =
    mapped Any spell_name same made_call_close_file name_at name_right

is_call_close_file : (x : Call) → call_tag x ≡ 18 → (t : (List ℕ)) × (made_call_close_file t ≡ x)
is_call_close_file (CloseFile label) e = (label, refl)
is_call_close_file _ e = absurd (omega (arith, e))

abbrev pub made_call_move_fileset : (ServerId × List ℕ × ServerId) → Call
made_call_move_fileset t = MoveFileset t.0 t.1 t.2

pub call_move_fileset_parts : Right Any (λ t. call_fields (made_call_move_fileset t)) made_call_move_fileset call_move_fileset_at
unfolding call_fields call_move_fileset_at
call_move_fileset_parts =
    more_right (λ (t : (ServerId × List ℕ × ServerId)). Any t) spell_server (λ t. spell_name t.1 & spell_server t.2) (λ t. t.0) made_call_move_fileset server_at
    (λ a0 rest. name_at rest >>= λ a1 rest. server_at rest >>= λ a2 rest. Ok (MoveFileset a0 a1 a2, rest)) server_right
    (λ a0 f0. more_right (λ (t : (ServerId × List ℕ × ServerId)). (Any t × (t.0 ≡ a0))) spell_name (λ t. spell_server t.2) (λ t. t.1) made_call_move_fileset name_at
    (λ a1 rest. server_at rest >>= λ a2 rest. Ok (MoveFileset a0 a1 a2, rest)) name_right
    (λ a1 f1. last_right (λ (t : (ServerId × List ℕ × ServerId)). ((Any t × (t.0 ≡ a0)) × (t.1 ≡ a1))) Any spell_server (λ t. t.2) made_call_move_fileset (λ z. MoveFileset a0 a1 z) server_at
    (λ z any. ((a0, a1, z), ((tt, refl), refl), refl)) (λ t c. (tt, cc)) server_right))

is_call_move_fileset : (x : Call) → call_tag x ≡ 19 → (t : (ServerId × List ℕ × ServerId)) × (made_call_move_fileset t ≡ x)
is_call_move_fileset (MoveFileset server fileset to) e = ((server, fileset, to), refl)
is_call_move_fileset _ e = absurd (omega (arith, e))

pub call_rest : (tag : ℕ) → 1 ≤ tag → tag ≤ 19 → Right (λ x. Any x × (call_tag x ≡ tag)) call_fields same (call_of tag)
unfolding call_of call_fields
call_rest zero l h = absurd (omega (arith, l))
call_rest (suc zero) l h = variant_right (λ x. Any x × (call_tag x ≡ 1)) call_fields made_call_new_fileset (call_of 1) (λ t. (tt, refl)) (λ a c. is_call_new_fileset a c.1) call_new_fileset_parts
call_rest (suc (suc zero)) l h = variant_right (λ x. Any x × (call_tag x ≡ 2)) call_fields made_call_create (call_of 2) (λ t. (tt, refl)) (λ a c. is_call_create a c.1) call_create_parts
call_rest (suc (suc (suc zero))) l h = variant_right (λ x. Any x × (call_tag x ≡ 3)) call_fields made_call_make_dir (call_of 3) (λ t. (tt, refl)) (λ a c. is_call_make_dir a c.1) call_make_dir_parts
call_rest (suc (suc (suc (suc zero)))) l h = variant_right (λ x. Any x × (call_tag x ≡ 4)) call_fields made_call_remove (call_of 4) (λ t. (tt, refl)) (λ a c. is_call_remove a c.1) call_remove_parts
call_rest (suc (suc (suc (suc (suc zero))))) l h = variant_right (λ x. Any x × (call_tag x ≡ 5)) call_fields made_call_rename (call_of 5) (λ t. (tt, refl)) (λ a c. is_call_rename a c.1) call_rename_parts
call_rest (suc (suc (suc (suc (suc (suc zero)))))) l h = variant_right (λ x. Any x × (call_tag x ≡ 6)) call_fields made_call_truncate (call_of 6) (λ t. (tt, refl)) (λ a c. is_call_truncate a c.1) call_truncate_parts
call_rest (suc (suc (suc (suc (suc (suc (suc zero))))))) l h = variant_right (λ x. Any x × (call_tag x ≡ 7)) call_fields made_call_set_acl (call_of 7) (λ t. (tt, refl)) (λ a c. is_call_set_acl a c.1) call_set_acl_parts
call_rest (suc (suc (suc (suc (suc (suc (suc (suc zero)))))))) l h = variant_right (λ x. Any x × (call_tag x ≡ 8)) call_fields made_call_clone_fileset (call_of 8) (λ t. (tt, refl)) (λ a c. is_call_clone_fileset a c.1) call_clone_fileset_parts
call_rest (suc (suc (suc (suc (suc (suc (suc (suc (suc zero))))))))) l h = variant_right (λ x. Any x × (call_tag x ≡ 9)) call_fields made_call_read (call_of 9) (λ t. (tt, refl)) (λ a c. is_call_read a c.1) call_read_parts
call_rest (suc (suc (suc (suc (suc (suc (suc (suc (suc (suc zero)))))))))) l h = variant_right (λ x. Any x × (call_tag x ≡ 10)) call_fields made_call_write (call_of 10) (λ t. (tt, refl)) (λ a c. is_call_write a c.1) call_write_parts
call_rest (suc (suc (suc (suc (suc (suc (suc (suc (suc (suc (suc zero))))))))))) l h = variant_right (λ x. Any x × (call_tag x ≡ 11)) call_fields made_call_list_names (call_of 11) (λ t. (tt, refl)) (λ a c. is_call_list_names a c.1) call_list_names_parts
call_rest (suc (suc (suc (suc (suc (suc (suc (suc (suc (suc (suc (suc zero)))))))))))) l h = variant_right (λ x. Any x × (call_tag x ≡ 12)) call_fields made_call_stat (call_of 12) (λ t. (tt, refl)) (λ a c. is_call_stat a c.1) call_stat_parts
call_rest (suc (suc (suc (suc (suc (suc (suc (suc (suc (suc (suc (suc (suc zero))))))))))))) l h = variant_right (λ x. Any x × (call_tag x ≡ 13)) call_fields made_call_get_acl (call_of 13) (λ t. (tt, refl)) (λ a c. is_call_get_acl a c.1) call_get_acl_parts
call_rest (suc (suc (suc (suc (suc (suc (suc (suc (suc (suc (suc (suc (suc (suc zero)))))))))))))) l h = variant_right (λ x. Any x × (call_tag x ≡ 14)) call_fields made_call_sync (call_of 14) (λ t. (tt, refl)) (λ a c. is_call_sync a c.1) call_sync_parts
call_rest (suc (suc (suc (suc (suc (suc (suc (suc (suc (suc (suc (suc (suc (suc (suc zero))))))))))))))) l h = variant_right (λ x. Any x × (call_tag x ≡ 15)) call_fields made_call_lock (call_of 15) (λ t. (tt, refl)) (λ a c. is_call_lock a c.1) call_lock_parts
call_rest (suc (suc (suc (suc (suc (suc (suc (suc (suc (suc (suc (suc (suc (suc (suc (suc zero)))))))))))))))) l h = variant_right (λ x. Any x × (call_tag x ≡ 16)) call_fields made_call_unlock (call_of 16) (λ t. (tt, refl)) (λ a c. is_call_unlock a c.1) call_unlock_parts
call_rest (suc (suc (suc (suc (suc (suc (suc (suc (suc (suc (suc (suc (suc (suc (suc (suc (suc zero))))))))))))))))) l h = variant_right (λ x. Any x × (call_tag x ≡ 17)) call_fields made_call_open_file (call_of 17) (λ t. (tt, refl)) (λ a c. is_call_open_file a c.1) call_open_file_parts
call_rest (suc (suc (suc (suc (suc (suc (suc (suc (suc (suc (suc (suc (suc (suc (suc (suc (suc (suc zero)))))))))))))))))) l h = variant_right (λ x. Any x × (call_tag x ≡ 18)) call_fields made_call_close_file (call_of 18) (λ t. (tt, refl)) (λ a c. is_call_close_file a c.1) call_close_file_parts
call_rest (suc (suc (suc (suc (suc (suc (suc (suc (suc (suc (suc (suc (suc (suc (suc (suc (suc (suc (suc zero))))))))))))))))))) l h = variant_right (λ x. Any x × (call_tag x ≡ 19)) call_fields made_call_move_fileset (call_of 19) (λ t. (tt, refl)) (λ a c. is_call_move_fileset a c.1) call_move_fileset_parts
call_rest (suc (suc (suc (suc (suc (suc (suc (suc (suc (suc (suc (suc (suc (suc (suc (suc (suc (suc (suc (suc n)))))))))))))))))))) l h = absurd (omega (arith, h))

pub call_right : IsRight spell_call call_at
unfolding spell_call call_at
call_right = more_right Any (number 1 1 19) call_fields call_tag same (number_at 1 1 19) (λ tag rest. call_of tag rest)
    (number_right 1 19 (omega arith) 1 (omega arith))
    (λ tag f. let b = code_bounds 1 19 tag f in call_rest tag b.0 b.1)

ends_tags : (tag : ℕ) → (one_byte ends_use tag).fits ≡ true → (1 ≤ tag) × (tag ≤ 19)
ends_tags tag f =
    let p = or_cases (tag == 16) (tag == 18) ((and_parts (nat_lt tag 256) (ends_use tag) f).1) in
    elim p [ inl e ↦ (omega (arith, eqb-true tag 16 e), omega (arith, eqb-true tag 16 e)) | inr e ↦ (omega (arith, eqb-true tag 18 e), omega (arith, eqb-true tag 18 e)) ]

pub ending_right : IsRight spell_ending ending_at
unfolding spell_ending ending_at
ending_right = more_right Any (one_byte ends_use) call_fields call_tag same (byte_at ends_use) (λ tag rest. call_of tag rest)
    (byte_right ends_use 16 (omega arith) refl)
    (λ tag f. let b = ends_tags tag f in call_rest tag b.0 b.1)
