-- Reading the numbers of requests is right.
use Rattle.std.proofs.Common.{◌≡◌, ℕ, Ok, refl}
use Rattle.base_types.specs.declared.ids.FilesetId.{FilesetId}
use Rattle.tree_calls.specs.declared.ship.Record.{Record}
use Rattle.message_types.specs.declared.giving.AppliedGive.{AppliedGive}
use Rattle.message_types.specs.declared.giving.Outstanding.{Outstanding}
use Rattle.message_parts.specs.Spelled.{◌&◌}
use Rattle.message_parts.specs.Reading.{◌>>=◌}
use Rattle.message_parts.specs.Words.{spell_u8, u8_at, spell_u32, u32_at, spell_u64, u64_at, spell_fileset, fileset_at}
use Rattle.message_parts.specs.Places.{spell_rights, rights_at}
use Rattle.message_parts.specs.Requests.{spell_outstanding, outstanding_at, spell_applied, applied_at, spell_record, record_at}
use Rattle.message_parts.proofs.More.{more_right}
use Rattle.message_parts.proofs.Parts.{last_right}
use Rattle.message_parts.proofs.Right.{Right, Any, IsRight}
use Rattle.message_parts.proofs.Words.{u8_right, u32_right, u64_right, variant_right, fileset_right}
use Rattle.message_parts.proofs.Places.{rights_right}

abbrev pub made_outstanding : (FilesetId × ℕ × ℕ × ℕ) → Outstanding
made_outstanding t = record { fileset = t.0; moves = t.1; give = t.2; change = t.3 }

pub outstanding_parts : Right Any (λ t. spell_outstanding (made_outstanding t)) made_outstanding outstanding_at
unfolding spell_outstanding outstanding_at
outstanding_parts =
    more_right (λ (t : (FilesetId × ℕ × ℕ × ℕ)). Any t) spell_fileset (λ t. spell_u32 t.1 & spell_u64 t.2 & spell_u64 t.3) (λ t. t.0) made_outstanding fileset_at
    (λ a0 rest. u32_at rest >>= λ a1 rest. u64_at rest >>= λ a2 rest. u64_at rest >>= λ a3 rest. Ok (record { fileset = a0; moves = a1; give = a2; change = a3 }, rest)) fileset_right
    (λ a0 f0. more_right (λ (t : (FilesetId × ℕ × ℕ × ℕ)). (Any t × (t.0 ≡ a0))) spell_u32 (λ t. spell_u64 t.2 & spell_u64 t.3) (λ t. t.1) made_outstanding u32_at
    (λ a1 rest. u64_at rest >>= λ a2 rest. u64_at rest >>= λ a3 rest. Ok (record { fileset = a0; moves = a1; give = a2; change = a3 }, rest)) u32_right
    (λ a1 f1. more_right (λ (t : (FilesetId × ℕ × ℕ × ℕ)). ((Any t × (t.0 ≡ a0)) × (t.1 ≡ a1))) spell_u64 (λ t. spell_u64 t.3) (λ t. t.2) made_outstanding u64_at
    (λ a2 rest. u64_at rest >>= λ a3 rest. Ok (record { fileset = a0; moves = a1; give = a2; change = a3 }, rest)) u64_right
    (λ a2 f2. last_right (λ (t : (FilesetId × ℕ × ℕ × ℕ)). (((Any t × (t.0 ≡ a0)) × (t.1 ≡ a1)) × (t.2 ≡ a2))) Any spell_u64 (λ t. t.3) made_outstanding (λ z. record { fileset = a0; moves = a1; give = a2; change = z }) u64_at
    (λ z any. ((a0, a1, a2, z), (((tt, refl), refl), refl), refl)) (λ t c. (tt, cc)) u64_right)))

pub outstanding_right : IsRight spell_outstanding outstanding_at
outstanding_right = variant_right Any spell_outstanding made_outstanding outstanding_at (λ t. tt) (λ a c. ((a.fileset, a.moves, a.give, a.change), refl)) outstanding_parts

abbrev pub made_applied : (FilesetId × ℕ) → AppliedGive
made_applied t = record { fileset = t.0; number = t.1 }

pub applied_parts : Right Any (λ t. spell_applied (made_applied t)) made_applied applied_at
unfolding spell_applied applied_at
applied_parts =
    more_right (λ (t : (FilesetId × ℕ)). Any t) spell_fileset (λ t. spell_u64 t.1) (λ t. t.0) made_applied fileset_at
    (λ a0 rest. u64_at rest >>= λ a1 rest. Ok (record { fileset = a0; number = a1 }, rest)) fileset_right
    (λ a0 f0. last_right (λ (t : (FilesetId × ℕ)). (Any t × (t.0 ≡ a0))) Any spell_u64 (λ t. t.1) made_applied (λ z. record { fileset = a0; number = z }) u64_at
    (λ z any. ((a0, z), (tt, refl), refl)) (λ t c. (tt, cc)) u64_right)

pub applied_right : IsRight spell_applied applied_at
applied_right = variant_right Any spell_applied made_applied applied_at (λ t. tt) (λ a c. ((a.fileset, a.number), refl)) applied_parts

abbrev pub made_record : (ℕ × ℕ × ℕ × ℕ) → Record
made_record t = record { change = t.0; give = t.1; code = t.2; right = t.3 }

pub record_parts : Right Any (λ t. spell_record (made_record t)) made_record record_at
unfolding spell_record record_at
record_parts =
    more_right (λ (t : (ℕ × ℕ × ℕ × ℕ)). Any t) spell_u64 (λ t. spell_u64 t.1 & spell_u8 t.2 & spell_rights t.3) (λ t. t.0) made_record u64_at
    (λ a0 rest. u64_at rest >>= λ a1 rest. u8_at rest >>= λ a2 rest. rights_at rest >>= λ a3 rest. Ok (record { change = a0; give = a1; code = a2; right = a3 }, rest)) u64_right
    (λ a0 f0. more_right (λ (t : (ℕ × ℕ × ℕ × ℕ)). (Any t × (t.0 ≡ a0))) spell_u64 (λ t. spell_u8 t.2 & spell_rights t.3) (λ t. t.1) made_record u64_at
    (λ a1 rest. u8_at rest >>= λ a2 rest. rights_at rest >>= λ a3 rest. Ok (record { change = a0; give = a1; code = a2; right = a3 }, rest)) u64_right
    (λ a1 f1. more_right (λ (t : (ℕ × ℕ × ℕ × ℕ)). ((Any t × (t.0 ≡ a0)) × (t.1 ≡ a1))) spell_u8 (λ t. spell_rights t.3) (λ t. t.2) made_record u8_at
    (λ a2 rest. rights_at rest >>= λ a3 rest. Ok (record { change = a0; give = a1; code = a2; right = a3 }, rest)) u8_right
    (λ a2 f2. last_right (λ (t : (ℕ × ℕ × ℕ × ℕ)). (((Any t × (t.0 ≡ a0)) × (t.1 ≡ a1)) × (t.2 ≡ a2))) Any spell_rights (λ t. t.3) made_record (λ z. record { change = a0; give = a1; code = a2; right = z }) rights_at
    (λ z any. ((a0, a1, a2, z), (((tt, refl), refl), refl), refl)) (λ t c. (tt, cc)) rights_right)))

pub record_right : IsRight spell_record record_at
record_right = variant_right Any spell_record made_record record_at (λ t. tt) (λ a c. ((a.change, a.give, a.code, a.right), refl)) record_parts
