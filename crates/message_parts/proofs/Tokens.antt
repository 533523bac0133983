-- Reading files, tokens and needs is right.
use Rattle.std.proofs.Common.{◌≡◌, ℕ, zero, suc, ◌≤◌, Bool, true, Ok, refl, sym, ◌∙◌, ap, arith, lit<, min}
use Rattle.std.proofs.lemmas.Bool.{and_parts}
use Rattle.base_types.specs.declared.ids.Fid.{Fid}
use Rattle.base_types.specs.declared.ids.FilesetId.{FilesetId}
use Rattle.base_types.specs.declared.ids.HostId.{HostId}
use Rattle.base_types.specs.declared.ids.ServerId.{ServerId}
use Rattle.base_types.specs.declared.ids.OpenKind.{OpenKind}
use Rattle.base_types.specs.declared.ids.OpenKind.TheVariants.{Reading as ForReading, Writing, Executing, Shared, Exclusive}
use Rattle.base_types.specs.declared.span.Span.{Span}
use Rattle.token_types.specs.declared.token.TokenId.{TokenId}
use Rattle.token_types.specs.declared.token.Kind.{Kind}
use Rattle.token_types.specs.declared.token.Kind.TheVariants.{Bytes, Status, Lock, Opening}
use Rattle.token_types.specs.declared.token.Token.{Token}
use Rattle.token_types.specs.declared.token.Need.{Need}
use Rattle.message_parts.specs.Spelled.{Spelled, ◌&◌, number}
use Rattle.message_parts.specs.Reading.{◌>>=◌, number_at}
use Rattle.message_parts.specs.Words.{spell_u32, u32_at, spell_u64, u64_at, spell_flag, flag_at, spell_host, host_at, spell_server, server_at, spell_fileset, fileset_at}
use Rattle.message_parts.proofs.More.{more_right}
use Rattle.message_parts.proofs.Parts.{moved, last_right, mapped}
use Rattle.message_parts.proofs.Numbers.{number_right}
use Rattle.message_parts.proofs.Right.{Right, Any, same, IsRight}
use Rattle.message_parts.proofs.Words.{u32_right, u64_right, coded_right, variant_right, flag_right, host_right, server_right, fileset_right, code_bounds, code4_bounds}
use Rattle.message_parts.specs.Tokens.{spell_fid, fid_at, spell_id, id_at, span_between, spell_span, span_at, open_code, open_of, spell_open, open_at, kind_tag, kind_fields, spell_kind, kind_of, kind_bytes_at, kind_status_at, kind_lock_at, kind_opening_at, kind_at, spell_need, need_at, spell_token, token_at}
use Rattle.message_parts.proofs.Spans.{span_is}

abbrev pub made_fid : (FilesetId × ℕ × ℕ) → Fid
made_fid t = record { fileset = t.0; anode = t.1; unique = t.2 }

pub fid_parts : Right Any (λ t. spell_fid (made_fid t)) made_fid fid_at
unfolding spell_fid fid_at
fid_parts =
    more_right (λ (t : (FilesetId × ℕ × ℕ)). Any t) spell_fileset (λ t. spell_u32 t.1 & spell_u32 t.2) (λ t. t.0) made_fid fileset_at
    (λ a0 rest. u32_at rest >>= λ a1 rest. u32_at rest >>= λ a2 rest. Ok (record { fileset = a0; anode = a1; unique = a2 }, rest)) fileset_right
    (λ a0 f0. more_right (λ (t : (FilesetId × ℕ × ℕ)). (Any t × (t.0 ≡ a0))) spell_u32 (λ t. spell_u32 t.2) (λ t. t.1) made_fid u32_at
    (λ a1 rest. u32_at rest >>= λ a2 rest. Ok (record { fileset = a0; anode = a1; unique = a2 }, rest)) u32_right
    (λ a1 f1. last_right (λ (t : (FilesetId × ℕ × ℕ)). ((Any t × (t.0 ≡ a0)) × (t.1 ≡ a1))) Any spell_u32 (λ t. t.2) made_fid (λ z. record { fileset = a0; anode = a1; unique = z }) u32_at (λ z any. ((a0, a1, z), ((tt, refl), refl), refl)) (λ t c. (tt, cc)) u32_right))

pub fid_right : IsRight spell_fid fid_at
fid_right = variant_right Any spell_fid made_fid fid_at (λ t. tt) (λ a c. ((a.fileset, a.anode, a.unique), refl)) fid_parts

abbrev pub made_id : (ServerId × ℕ × ℕ) → TokenId
made_id t = record { server = t.0; epoch = t.1; seq = t.2 }

pub id_parts : Right Any (λ t. spell_id (made_id t)) made_id id_at
unfolding spell_id id_at
id_parts =
    more_right (λ (t : (ServerId × ℕ × ℕ)). Any t) spell_server (λ t. spell_u64 t.1 & spell_u64 t.2) (λ t. t.0) made_id server_at
    (λ a0 rest. u64_at rest >>= λ a1 rest. u64_at rest >>= λ a2 rest. Ok (record { server = a0; epoch = a1; seq = a2 }, rest)) server_right
    (λ a0 f0. more_right (λ (t : (ServerId × ℕ × ℕ)). (Any t × (t.0 ≡ a0))) spell_u64 (λ t. spell_u64 t.2) (λ t. t.1) made_id u64_at
    (λ a1 rest. u64_at rest >>= λ a2 rest. Ok (record { server = a0; epoch = a1; seq = a2 }, rest)) u64_right
    (λ a1 f1. last_right (λ (t : (ServerId × ℕ × ℕ)). ((Any t × (t.0 ≡ a0)) × (t.1 ≡ a1))) Any spell_u64 (λ t. t.2) made_id (λ z. record { server = a0; epoch = a1; seq = z }) u64_at (λ z any. ((a0, a1, z), ((tt, refl), refl), refl)) (λ t c. (tt, cc)) u64_right))

pub id_right : IsRight spell_id id_at
id_right = variant_right Any spell_id made_id id_at (λ t. tt) (λ a c. ((a.server, a.epoch, a.seq), refl)) id_parts

abbrev pub ends_spelled : ℕ × ℕ → Spelled
ends_spelled t = number 4 0 65536 t.0 & number 4 t.0 65536 t.1

abbrev pub made_span : ℕ × ℕ → Span
made_span t = span_between t.0 t.1

second_end : (a : ℕ) → a ≤ 65536 → Right (λ (t : ℕ × ℕ). Any t × (t.0 ≡ a)) (λ t. number 4 t.0 65536 t.1) made_span (λ rest. number_at 4 a 65536 rest >>= λ to rest. Ok (span_between a to, rest))
second_end a le = moved (λ (t : ℕ × ℕ). Any t × (t.0 ≡ a)) (λ t. number 4 a 65536 t.1) made_span (λ (t : ℕ × ℕ). Any t × (t.0 ≡ a)) (λ t. number 4 t.0 65536 t.1) made_span
    (λ rest. number_at 4 a 65536 rest >>= λ to rest. Ok (span_between a to, rest))
    (λ t bytes s. let e = s.chosen.1 in (t, record { chosen = s.chosen; fits = ap (λ v. (number 4 v 65536 t.1).fits) e ∙ s.fits; whole = s.whole ∙ ap (λ v. (number 4 v 65536 t.1).bytes) (sym e) }, refl))
    (λ t bytes s. let e = s.chosen.1 in (t, record { chosen = s.chosen; fits = ap (λ v. (number 4 v 65536 t.1).fits) (sym e) ∙ s.fits; whole = s.whole ∙ ap (λ v. (number 4 v 65536 t.1).bytes) e }, refl))
    (last_right (λ (t : ℕ × ℕ). Any t × (t.0 ≡ a)) Any (number 4 a 65536) (λ t. t.1) made_span (λ z. span_between a z) (number_at 4 a 65536)
    (λ z any. ((a, z), (tt, refl), refl)) (λ t c. (tt, ap (λ v. span_between v t.1) (sym c.1))) (number_right a 65536 le 4 (lit< tt)))

ends_right : Right Any ends_spelled made_span span_at
unfolding span_at
ends_right = more_right Any (number 4 0 65536) (λ t. number 4 t.0 65536 t.1) (λ t. t.0) made_span (number_at 4 0 65536)
    (λ from rest. number_at 4 from 65536 rest >>= λ to rest. Ok (span_between from to, rest))
    (number_right 0 65536 (omega arith) 4 (lit< tt))
    (λ a f. second_end a ((code4_bounds 0 65536 a f).1))

ends_in_order : (t : ℕ × ℕ) → (ends_spelled t).fits ≡ true → (min t.0 (min t.1 65536) ≡ t.0) × (min t.1 65536 ≡ t.1)
ends_in_order t f =
    let p = and_parts (number 4 0 65536 t.0).fits (number 4 t.0 65536 t.1).fits f in
    let b = code4_bounds t.0 65536 t.1 p.1 in
    (omega (arith, b.0, b.1), omega (arith, b.0, b.1))

pub span_right : IsRight spell_span span_at
unfolding spell_span
span_right = moved Any ends_spelled made_span Any spell_span same span_at
    (λ t bytes s.
    let (e, f) = ends_in_order t s.fits in
    (made_span t, record { chosen = tt; fits = rw (e, f) s.fits; whole = rw (e, f) s.whole }, refl))
    (λ s bytes q. ((s.from, s.to), record { chosen = tt; fits = q.fits; whole = q.whole }, span_is s))
    ends_right

open_back : (x : OpenKind) → open_of (open_code x) ≡ x
open_back ForReading = refl
open_back Writing = refl
open_back Executing = refl
open_back Shared = refl
open_back Exclusive = refl

open_again : (n : ℕ) → 0 ≤ n → n ≤ 4 → open_code (open_of n) ≡ n
open_again zero l h = refl
open_again (suc zero) l h = refl
open_again (suc (suc zero)) l h = refl
open_again (suc (suc (suc zero))) l h = refl
open_again (suc (suc (suc (suc zero)))) l h = refl
open_again (suc (suc (suc (suc (suc n))))) l h = absurd (omega (arith, h))

pub open_right : IsRight spell_open open_at
open_right = coded_right 0 4 open_code open_of (omega arith) (omega arith) open_back open_again

abbrev pub made_kind_bytes : (Bool × Span) → Kind
made_kind_bytes t = Bytes t.0 t.1

pub kind_bytes_parts : Right Any (λ t. kind_fields (made_kind_bytes t)) made_kind_bytes kind_bytes_at
unfolding kind_fields kind_bytes_at
kind_bytes_parts =
    more_right (λ (t : (Bool × Span)). Any t) spell_flag (λ t. spell_span t.1) (λ t. t.0) made_kind_bytes flag_at
    (λ a0 rest. span_at rest >>= λ a1 rest. Ok (Bytes a0 a1, rest)) flag_right
    (λ a0 f0. last_right (λ (t : (Bool × Span)). (Any t × (t.0 ≡ a0))) Any spell_span (λ t. t.1) made_kind_bytes (λ z. Bytes a0 z) span_at (λ z any. ((a0, z), (tt, refl), refl)) (λ t c. (tt, cc)) span_right)

is_kind_bytes : (x : Kind) → kind_tag x ≡ 1 → (t : (Bool × Span)) × (made_kind_bytes t ≡ x)
is_kind_bytes (Bytes update span) e = ((update, span), refl)
is_kind_bytes _ e = absurd (omega (arith, e))

abbrev pub made_kind_status : Bool → Kind
made_kind_status t = Status t

pub kind_status_parts : Right Any (λ t. kind_fields (made_kind_status t)) made_kind_status kind_status_at
unfolding kind_fields kind_status_at
kind_status_parts =
    mapped Any spell_flag same made_kind_status flag_at flag_right

is_kind_status : (x : Kind) → kind_tag x ≡ 2 → (t : Bool) × (made_kind_status t ≡ x)
is_kind_status (Status update) e = (update, refl)
is_kind_status _ e = absurd (omega (arith, e))

abbrev pub made_kind_lock : (Bool × Span) → Kind
made_kind_lock t = Lock t.0 t.1

pub kind_lock_parts : Right Any (λ t. kind_fields (made_kind_lock t)) made_kind_lock kind_lock_at
unfolding kind_fields kind_lock_at
kind_lock_parts =
    more_right (λ (t : (Bool × Span)). Any t) spell_flag (λ t. spell_span t.1) (λ t. t.0) made_kind_lock flag_at
    (λ a0 rest. span_at rest >>= λ a1 rest. Ok (Lock a0 a1, rest)) flag_right
    (λ a0 f0. last_right (λ (t : (Bool × Span)). (Any t × (t.0 ≡ a0))) Any spell_span (λ t. t.1) made_kind_lock (λ z. Lock a0 z) span_at (λ z any. ((a0, z), (tt, refl), refl)) (λ t c. (tt, cc)) span_right)

is_kind_lock : (x : Kind) → kind_tag x ≡ 3 → (t : (Bool × Span)) × (made_kind_lock t ≡ x)
is_kind_lock (Lock writing span) e = ((writing, span), refl)
is_kind_lock _ e = absurd (omega (arith, e))

abbrev pub made_kind_opening : OpenKind → Kind
made_kind_opening t = Opening t

pub kind_opening_parts : Right Any (λ t. kind_fields (made_kind_opening t)) made_kind_opening kind_opening_at
unfolding kind_fields kind_opening_at
kind_opening_parts =
    mapped Any spell_open same made_kind_opening open_at open_right

is_kind_opening : (x : Kind) → kind_tag x ≡ 4 → (t : OpenKind) × (made_kind_opening t ≡ x)
is_kind_opening (Opening how) e = (how, refl)
is_kind_opening _ e = absurd (omega (arith, e))

pub kind_rest : (tag : ℕ) → 1 ≤ tag → tag ≤ 4 → Right (λ x. Any x × (kind_tag x ≡ tag)) kind_fields same (kind_of tag)
unfolding kind_of kind_fields
kind_rest zero l h = absurd (omega (arith, l))
kind_rest (suc zero) l h = variant_right (λ x. Any x × (kind_tag x ≡ 1)) kind_fields made_kind_bytes (kind_of 1) (λ t. (tt, refl)) (λ a c. is_kind_bytes a c.1) kind_bytes_parts
kind_rest (suc (suc zero)) l h = variant_right (λ x. Any x × (kind_tag x ≡ 2)) kind_fields made_kind_status (kind_of 2) (λ t. (tt, refl)) (λ a c. is_kind_status a c.1) kind_status_parts
kind_rest (suc (suc (suc zero))) l h = variant_right (λ x. Any x × (kind_tag x ≡ 3)) kind_fields made_kind_lock (kind_of 3) (λ t. (tt, refl)) (λ a c. is_kind_lock a c.1) kind_lock_parts
kind_rest (suc (suc (suc (suc zero)))) l h = variant_right (λ x. Any x × (kind_tag x ≡ 4)) kind_fields made_kind_opening (kind_of 4) (λ t. (tt, refl)) (λ a c. is_kind_opening a c.1) kind_opening_parts
kind_rest (suc (suc (suc (suc (suc n))))) l h = absurd (omega (arith, h))

pub kind_right : IsRight spell_kind kind_at
unfolding spell_kind kind_at
kind_right = more_right Any (number 1 1 4) kind_fields kind_tag same (number_at 1 1 4) (λ tag rest. kind_of tag rest)
    (number_right 1 4 (omega arith) 1 (omega arith))
    (λ tag f. let b = code_bounds 1 4 tag f in kind_rest tag b.0 b.1)

abbrev pub made_need : (Fid × Kind) → Need
made_need t = record { fid = t.0; kind = t.1 }

pub need_parts : Right Any (λ t. spell_need (made_need t)) made_need need_at
unfolding spell_need need_at
need_parts =
    more_right (λ (t : (Fid × Kind)). Any t) spell_fid (λ t. spell_kind t.1) (λ t. t.0) made_need fid_at
    (λ a0 rest. kind_at rest >>= λ a1 rest. Ok (record { fid = a0; kind = a1 }, rest)) fid_right
    (λ a0 f0. last_right (λ (t : (Fid × Kind)). (Any t × (t.0 ≡ a0))) Any spell_kind (λ t. t.1) made_need (λ z. record { fid = a0; kind = z }) kind_at (λ z any. ((a0, z), (tt, refl), refl)) (λ t c. (tt, cc)) kind_right)

pub need_right : IsRight spell_need need_at
need_right = variant_right Any spell_need made_need need_at (λ t. tt) (λ a c. ((a.fid, a.kind), refl)) need_parts

abbrev pub made_token : (TokenId × HostId × Fid × Kind) → Token
made_token t = record { id = t.0; host = t.1; fid = t.2; kind = t.3 }

pub token_parts : Right Any (λ t. spell_token (made_token t)) made_token token_at
unfolding spell_token token_at
token_parts =
    more_right (λ (t : (TokenId × HostId × Fid × Kind)). Any t) spell_id (λ t. spell_host t.1 & spell_fid t.2 & spell_kind t.3) (λ t. t.0) made_token id_at
    (λ a0 rest. host_at rest >>= λ a1 rest. fid_at rest >>= λ a2 rest. kind_at rest >>= λ a3 rest. Ok (record { id = a0; host = a1; fid = a2; kind = a3 }, rest)) id_right
    (λ a0 f0. more_right (λ (t : (TokenId × HostId × Fid × Kind)). (Any t × (t.0 ≡ a0))) spell_host (λ t. spell_fid t.2 & spell_kind t.3) (λ t. t.1) made_token host_at
    (λ a1 rest. fid_at rest >>= λ a2 rest. kind_at rest >>= λ a3 rest. Ok (record { id = a0; host = a1; fid = a2; kind = a3 }, rest)) host_right
    (λ a1 f1. more_right (λ (t : (TokenId × HostId × Fid × Kind)). ((Any t × (t.0 ≡ a0)) × (t.1 ≡ a1))) spell_fid (λ t. spell_kind t.3) (λ t. t.2) made_token fid_at
    (λ a2 rest. kind_at rest >>= λ a3 rest. Ok (record { id = a0; host = a1; fid = a2; kind = a3 }, rest)) fid_right
    (λ a2 f2. last_right (λ (t : (TokenId × HostId × Fid × Kind)). (((Any t × (t.0 ≡ a0)) × (t.1 ≡ a1)) × (t.2 ≡ a2))) Any spell_kind (λ t. t.3) made_token (λ z. record { id = a0; host = a1; fid = a2; kind = z }) kind_at (λ z any. ((a0, a1, a2, z), (((tt, refl), refl), refl), refl)) (λ t c. (tt, cc)) kind_right)))

pub token_right : IsRight spell_token token_at
token_right = variant_right Any spell_token made_token token_at (λ t. tt) (λ a c. ((a.id, a.host, a.fid, a.kind), refl)) token_parts
