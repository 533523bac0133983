-- Reading what goes between servers is right.
use Rattle.std.proofs.Common.{◌≡◌, ℕ, zero, suc, ◌≤◌, List, Ok, refl, arith}
use Rattle.std.specs.Prelude.{Option}
use Rattle.base_types.specs.declared.ids.ServerId.{ServerId}
use Rattle.base_types.specs.declared.ids.HostId.{HostId}
use Rattle.tree_calls.specs.declared.call.Call.{Call}
use Rattle.tree_calls.specs.declared.reply.Reply.{Reply}
use Rattle.tree_calls.specs.declared.part.Piece.{Piece}
use Rattle.tree_calls.specs.declared.part.DirEntry.{DirEntry}
use Rattle.tree_calls.specs.declared.part.Status.{Status}
use Rattle.tree_calls.specs.declared.ship.Mover.{Mover}
use Rattle.tree_calls.specs.declared.ship.Record.{Record}
use Rattle.tree_calls.specs.declared.ship.ShipPart.{ShipPart}
use Rattle.tree_calls.specs.declared.ship.ShipPart.TheVariants.{Head, Object}
use Rattle.message_types.specs.declared.moving.Shipped.{Shipped as ShippedOf}
use Rattle.message_parts.specs.Spelled.{◌&◌, number}
use Rattle.message_parts.specs.Reading.{◌>>=◌, number_at}
use Rattle.message_parts.specs.Words.{spell_u32, u32_at, spell_u64, u64_at, spell_host, host_at, spell_server, server_at, spell_name, name_at, short, short_at, spell_optional, optional_at}
use Rattle.message_parts.specs.Objects.{spell_pieces, pieces_at, spell_entry, entry_at, spell_status, status_at}
use Rattle.message_parts.specs.Requests.{spell_record, record_at}
use Rattle.message_calls.specs.Calls.{spell_call, call_at}
use Rattle.message_calls.specs.Replies.{spell_reply, reply_at}
use Rattle.message_spelling.specs.Bodies.{spell_mover, part_tag, part_fields, spell_part, spell_shipped}
use Rattle.message_spelling.specs.Readings.{mover_at, head_at, object_at, part_of, part_at, shipped_at}
use Rattle.message_parts.proofs.More.{more_right}
use Rattle.message_parts.proofs.Parts.{last_right}
use Rattle.message_parts.proofs.Numbers.{number_right}
use Rattle.message_parts.proofs.Right.{Right, Any, same, IsRight}
use Rattle.message_parts.proofs.Words.{u32_right, u64_right, variant_right, host_right, server_right, name_right, code_bounds, short_right, optional_right}
use Rattle.message_parts.proofs.Objects.{entry_right, status_right}
use Rattle.message_parts.proofs.Pieces.{pieces_right}
use Rattle.message_parts.proofs.Requests.{record_right}
use Rattle.message_calls.proofs.Calls.{call_right}
use Rattle.message_calls.proofs.Replies.{reply_right}

abbrev pub made_mover : (HostId × ℕ × ℕ × Call) → Mover
made_mover t = record { host = t.0; number = t.1; k = t.2; call = t.3 }

pub mover_parts : Right Any (λ t. spell_mover (made_mover t)) made_mover mover_at
unfolding spell_mover mover_at
mover_parts =
    more_right (λ (t : (HostId × ℕ × ℕ × Call)). Any t) spell_host (λ t. spell_u64 t.1 & spell_u32 t.2 & spell_call t.3) (λ t. t.0) made_mover host_at
    (λ a0 rest. u64_at rest >>= λ a1 rest. u32_at rest >>= λ a2 rest. call_at rest >>= λ a3 rest. Ok (record { host = a0; number = a1; k = a2; call = a3 }, rest)) host_right
    (λ a0 f0. more_right (λ (t : (HostId × ℕ × ℕ × Call)). (Any t × (t.0 ≡ a0))) spell_u64 (λ t. spell_u32 t.2 & spell_call t.3) (λ t. t.1) made_mover u64_at
    (λ a1 rest. u32_at rest >>= λ a2 rest. call_at rest >>= λ a3 rest. Ok (record { host = a0; number = a1; k = a2; call = a3 }, rest)) u64_right
    (λ a1 f1. more_right (λ (t : (HostId × ℕ × ℕ × Call)). ((Any t × (t.0 ≡ a0)) × (t.1 ≡ a1))) spell_u32 (λ t. spell_call t.3) (λ t. t.2) made_mover u32_at
    (λ a2 rest. call_at rest >>= λ a3 rest. Ok (record { host = a0; number = a1; k = a2; call = a3 }, rest)) u32_right
    (λ a2 f2. last_right (λ (t : (HostId × ℕ × ℕ × Call)). (((Any t × (t.0 ≡ a0)) × (t.1 ≡ a1)) × (t.2 ≡ a2))) Any spell_call (λ t. t.3) made_mover (λ z. record { host = a0; number = a1; k = a2; call = z }) call_at
    (λ z any. ((a0, a1, a2, z), (((tt, refl), refl), refl), refl)) (λ t c. (tt, cc)) call_right)))

pub mover_right : IsRight spell_mover mover_at
mover_right = variant_right Any spell_mover made_mover mover_at (λ t. tt) (λ a c. ((a.host, a.number, a.k, a.call), refl)) mover_parts

abbrev pub made_part_head : (List ℕ × ℕ × List Record × Mover) → ShipPart
made_part_head t = Head t.0 t.1 t.2 t.3

pub part_head_parts : Right Any (λ t. part_fields (made_part_head t)) made_part_head head_at
unfolding part_fields head_at
part_head_parts =
    more_right (λ (t : (List ℕ × ℕ × List Record × Mover)). Any t) spell_name (λ t. spell_u32 t.1 & short spell_record t.2 & spell_mover t.3) (λ t. t.0) made_part_head name_at
    (λ a0 rest. u32_at rest >>= λ a1 rest. short_at record_at rest >>= λ a2 rest. mover_at rest >>= λ a3 rest. Ok (Head a0 a1 a2 a3, rest)) name_right
    (λ a0 f0. more_right (λ (t : (List ℕ × ℕ × List Record × Mover)). (Any t × (t.0 ≡ a0))) spell_u32 (λ t. short spell_record t.2 & spell_mover t.3) (λ t. t.1) made_part_head u32_at
    (λ a1 rest. short_at record_at rest >>= λ a2 rest. mover_at rest >>= λ a3 rest. Ok (Head a0 a1 a2 a3, rest)) u32_right
    (λ a1 f1. more_right (λ (t : (List ℕ × ℕ × List Record × Mover)). ((Any t × (t.0 ≡ a0)) × (t.1 ≡ a1))) (short spell_record) (λ t. spell_mover t.3) (λ t. t.2) made_part_head (short_at record_at)
    (λ a2 rest. mover_at rest >>= λ a3 rest. Ok (Head a0 a1 a2 a3, rest)) (short_right spell_record record_at record_right)
    (λ a2 f2. last_right (λ (t : (List ℕ × ℕ × List Record × Mover)). (((Any t × (t.0 ≡ a0)) × (t.1 ≡ a1)) × (t.2 ≡ a2))) Any spell_mover (λ t. t.3) made_part_head (λ z. Head a0 a1 a2 z) mover_at
    (λ z any. ((a0, a1, a2, z), (((tt, refl), refl), refl), refl)) (λ t c. (tt, cc)) mover_right)))

is_part_head : (x : ShipPart) → part_tag x ≡ 0 → (t : (List ℕ × ℕ × List Record × Mover)) × (made_part_head t ≡ x)
is_part_head (Head name objects records mover) e = ((name, objects, records, mover), refl)
is_part_head _ e = absurd (omega (arith, e))

abbrev pub made_part_object : (ℕ × ℕ × Option Status × List Piece × List DirEntry) → ShipPart
made_part_object t = Object t.0 t.1 t.2 t.3 t.4

pub part_object_parts : Right Any (λ t. part_fields (made_part_object t)) made_part_object object_at
unfolding part_fields object_at
part_object_parts =
    more_right (λ (t : (ℕ × ℕ × Option Status × List Piece × List DirEntry)). Any t) spell_u32 (λ t. spell_u32 t.1 & spell_optional spell_status t.2 & spell_pieces t.3 & short spell_entry t.4) (λ t. t.0) made_part_object u32_at
    (λ a0 rest. u32_at rest >>= λ a1 rest. optional_at status_at rest >>= λ a2 rest. pieces_at rest >>= λ a3 rest. short_at entry_at rest >>= λ a4 rest. Ok (Object a0 a1 a2 a3 a4, rest)) u32_right
    (λ a0 f0. more_right (λ (t : (ℕ × ℕ × Option Status × List Piece × List DirEntry)). (Any t × (t.0 ≡ a0))) spell_u32 (λ t. spell_optional spell_status t.2 & spell_pieces t.3 & short spell_entry t.4) (λ t. t.1) made_part_object u32_at
    (λ a1 rest. optional_at status_at rest >>= λ a2 rest. pieces_at rest >>= λ a3 rest. short_at entry_at rest >>= λ a4 rest. Ok (Object a0 a1 a2 a3 a4, rest)) u32_right
    (λ a1 f1. more_right (λ (t : (ℕ × ℕ × Option Status × List Piece × List DirEntry)). ((Any t × (t.0 ≡ a0)) × (t.1 ≡ a1))) (spell_optional spell_status) (λ t. spell_pieces t.3 & short spell_entry t.4) (λ t. t.2) made_part_object (optional_at status_at)
    (λ a2 rest. pieces_at rest >>= λ a3 rest. short_at entry_at rest >>= λ a4 rest. Ok (Object a0 a1 a2 a3 a4, rest)) (optional_right spell_status status_at status_right)
    (λ a2 f2. more_right (λ (t : (ℕ × ℕ × Option Status × List Piece × List DirEntry)). (((Any t × (t.0 ≡ a0)) × (t.1 ≡ a1)) × (t.2 ≡ a2))) spell_pieces (λ t. short spell_entry t.4) (λ t. t.3) made_part_object pieces_at
    (λ a3 rest. short_at entry_at rest >>= λ a4 rest. Ok (Object a0 a1 a2 a3 a4, rest)) pieces_right
    (λ a3 f3. last_right (λ (t : (ℕ × ℕ × Option Status × List Piece × List DirEntry)). ((((Any t × (t.0 ≡ a0)) × (t.1 ≡ a1)) × (t.2 ≡ a2)) × (t.3 ≡ a3))) Any (short spell_entry) (λ t. t.4) made_part_object (λ z. Object a0 a1 a2 a3 z) (short_at entry_at)
    (λ z any. ((a0, a1, a2, a3, z), ((((tt, refl), refl), refl), refl), refl)) (λ t c. (tt, cc)) (short_right spell_entry entry_at entry_right)))))

is_part_object : (x : ShipPart) → part_tag x ≡ 1 → (t : (ℕ × ℕ × Option Status × List Piece × List DirEntry)) × (made_part_object t ≡ x)
is_part_object (Object anode unique status pieces entries) e = ((anode, unique, status, pieces, entries), refl)
is_part_object _ e = absurd (omega (arith, e))

part_rest : (tag : ℕ) → 0 ≤ tag → tag ≤ 1 → Right (λ x. Any x × (part_tag x ≡ tag)) part_fields same (part_of tag)
unfolding part_of part_fields
part_rest zero l h = variant_right (λ x. Any x × (part_tag x ≡ 0)) part_fields made_part_head (part_of 0) (λ t. (tt, refl)) (λ a c. is_part_head a c.1) part_head_parts
part_rest (suc zero) l h = variant_right (λ x. Any x × (part_tag x ≡ 1)) part_fields made_part_object (part_of 1) (λ t. (tt, refl)) (λ a c. is_part_object a c.1) part_object_parts
part_rest (suc (suc n)) l h = absurd (omega (arith, h))

pub part_right : IsRight spell_part part_at
unfolding spell_part part_at
part_right = more_right Any (number 1 0 1) part_fields part_tag same (number_at 1 0 1) (λ tag rest. part_of tag rest)
    (number_right 0 1 (omega arith) 1 (omega arith))
    (λ tag f. let b = code_bounds 0 1 tag f in part_rest tag b.0 b.1)

abbrev pub made_shipped : (ServerId × ℕ × ℕ × Reply) → ShippedOf
made_shipped t = record { to = t.0; ship = t.1; at = t.2; reply = t.3 }

pub shipped_parts : Right Any (λ t. spell_shipped (made_shipped t)) made_shipped shipped_at
unfolding spell_shipped shipped_at
shipped_parts =
    more_right (λ (t : (ServerId × ℕ × ℕ × Reply)). Any t) spell_server (λ t. spell_u64 t.1 & spell_u32 t.2 & spell_reply t.3) (λ t. t.0) made_shipped server_at
    (λ a0 rest. u64_at rest >>= λ a1 rest. u32_at rest >>= λ a2 rest. reply_at rest >>= λ a3 rest. Ok (record { to = a0; ship = a1; at = a2; reply = a3 }, rest)) server_right
    (λ a0 f0. more_right (λ (t : (ServerId × ℕ × ℕ × Reply)). (Any t × (t.0 ≡ a0))) spell_u64 (λ t. spell_u32 t.2 & spell_reply t.3) (λ t. t.1) made_shipped u64_at
    (λ a1 rest. u32_at rest >>= λ a2 rest. reply_at rest >>= λ a3 rest. Ok (record { to = a0; ship = a1; at = a2; reply = a3 }, rest)) u64_right
    (λ a1 f1. more_right (λ (t : (ServerId × ℕ × ℕ × Reply)). ((Any t × (t.0 ≡ a0)) × (t.1 ≡ a1))) spell_u32 (λ t. spell_reply t.3) (λ t. t.2) made_shipped u32_at
    (λ a2 rest. reply_at rest >>= λ a3 rest. Ok (record { to = a0; ship = a1; at = a2; reply = a3 }, rest)) u32_right
    (λ a2 f2. last_right (λ (t : (ServerId × ℕ × ℕ × Reply)). (((Any t × (t.0 ≡ a0)) × (t.1 ≡ a1)) × (t.2 ≡ a2))) Any spell_reply (λ t. t.3) made_shipped (λ z. record { to = a0; ship = a1; at = a2; reply = z }) reply_at
    (λ z any. ((a0, a1, a2, z), (((tt, refl), refl), refl), refl)) (λ t c. (tt, cc)) reply_right)))

pub shipped_right : IsRight spell_shipped shipped_at
shipped_right = variant_right Any spell_shipped made_shipped shipped_at (λ t. tt) (λ a c. ((a.to, a.ship, a.at, a.reply), refl)) shipped_parts
