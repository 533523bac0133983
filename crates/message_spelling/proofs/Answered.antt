-- Reading the answers to a Fetch and to a Change is right.
use Rattle.std.proofs.Common.{◌≡◌, ℕ, zero, suc, ◌≤◌, List, Ok, refl, sym, ap, arith}
use Rattle.std.specs.Prelude.{Option}
use Rattle.base_types.specs.declared.ids.FilesetId.{FilesetId}
use Rattle.base_types.specs.declared.ids.ServerId.{ServerId}
use Rattle.base_types.specs.declared.ids.Fid.{Fid}
use Rattle.tree_calls.specs.declared.reply.Reply.{Reply}
use Rattle.tree_calls.specs.declared.part.Piece.{Piece}
use Rattle.tree_calls.specs.declared.part.DirEntry.{DirEntry}
use Rattle.tree_calls.specs.declared.part.Status.{Status}
use Rattle.token_types.specs.declared.token.Token.{Token}
use Rattle.message_types.specs.declared.telling.Done.{Done as DoneOf}
use Rattle.message_types.specs.declared.telling.DoneIs.{DoneIs}
use Rattle.message_types.specs.declared.telling.DoneIs.TheVariants.{Reply as Replied, Known, Granted, Again, Elsewhere}
use Rattle.message_types.specs.declared.telling.Grant.{Grant as GrantOf}
use Rattle.message_parts.specs.Spelled.{◌&◌, number}
use Rattle.message_parts.specs.Reading.{◌>>=◌, number_at}
use Rattle.message_parts.specs.Words.{spell_u64, u64_at, spell_server, server_at, spell_fileset, fileset_at, short, short_at, long, long_at, spell_optional, optional_at}
use Rattle.message_parts.specs.Tokens.{spell_fid, fid_at, spell_token, token_at}
use Rattle.message_parts.specs.Objects.{spell_pieces, pieces_at, spell_entry, entry_at, spell_status, status_at}
use Rattle.message_calls.specs.Replies.{spell_reply, reply_at}
use Rattle.message_spelling.specs.Bodies.{spell_grant, outcome_tag, outcome_fields, spell_outcome, spell_done}
use Rattle.message_spelling.specs.Readings.{grant_at, outcome_reply_at, outcome_known_at, outcome_elsewhere_at, outcome_of, outcome_at, done_at}
use Rattle.message_parts.proofs.More.{more_right}
use Rattle.message_parts.proofs.Parts.{end_right, last_right, mapped}
use Rattle.message_parts.proofs.Numbers.{number_right}
use Rattle.message_parts.proofs.Right.{Right, Any, same, IsRight}
use Rattle.message_parts.proofs.Words.{u64_right, variant_right, server_right, fileset_right, code_bounds, short_right, long_right, optional_right}
use Rattle.message_parts.proofs.Tokens.{fid_right, token_right}
use Rattle.message_parts.proofs.Objects.{entry_right, status_right}
use Rattle.message_parts.proofs.Pieces.{pieces_right}
use Rattle.message_calls.proofs.Replies.{reply_right}

abbrev pub made_grant : (ℕ × Fid × ℕ × Option Status × List Token × List Piece × List DirEntry) → GrantOf
made_grant t = record { bring = record { number = t.0; fid = t.1; stamp = t.2; tokens = t.4 }; status = t.3; pieces = t.5; entries = t.6 }

pub grant_parts : Right Any (λ t. spell_grant (made_grant t)) made_grant grant_at
unfolding spell_grant grant_at
grant_parts =
    more_right (λ (t : (ℕ × Fid × ℕ × Option Status × List Token × List Piece × List DirEntry)). Any t) spell_u64 (λ t. spell_fid t.1 & spell_u64 t.2 & spell_optional spell_status t.3 & long spell_token t.4 & spell_pieces t.5 & short spell_entry t.6) (λ t. t.0) made_grant u64_at
    (λ a0 rest. fid_at rest >>= λ a1 rest. u64_at rest >>= λ a2 rest. optional_at status_at rest >>= λ a3 rest. long_at token_at rest >>= λ a4 rest. pieces_at rest >>= λ a5 rest. short_at entry_at rest >>= λ a6 rest. Ok (record { bring = record { number = a0; fid = a1; stamp = a2; tokens = a4 }; status = a3; pieces = a5; entries = a6 }, rest)) u64_right
    (λ a0 f0. more_right (λ (t : (ℕ × Fid × ℕ × Option Status × List Token × List Piece × List DirEntry)). (Any t × (t.0 ≡ a0))) spell_fid (λ t. spell_u64 t.2 & spell_optional spell_status t.3 & long spell_token t.4 & spell_pieces t.5 & short spell_entry t.6) (λ t. t.1) made_grant fid_at
    (λ a1 rest. u64_at rest >>= λ a2 rest. optional_at status_at rest >>= λ a3 rest. long_at token_at rest >>= λ a4 rest. pieces_at rest >>= λ a5 rest. short_at entry_at rest >>= λ a6 rest. Ok (record { bring = record { number = a0; fid = a1; stamp = a2; tokens = a4 }; status = a3; pieces = a5; entries = a6 }, rest)) fid_right
    (λ a1 f1. more_right (λ (t : (ℕ × Fid × ℕ × Option Status × List Token × List Piece × List DirEntry)). ((Any t × (t.0 ≡ a0)) × (t.1 ≡ a1))) spell_u64 (λ t. spell_optional spell_status t.3 & long spell_token t.4 & spell_pieces t.5 & short spell_entry t.6) (λ t. t.2) made_grant u64_at
    (λ a2 rest. optional_at status_at rest >>= λ a3 rest. long_at token_at rest >>= λ a4 rest. pieces_at rest >>= λ a5 rest. short_at entry_at rest >>= λ a6 rest. Ok (record { bring = record { number = a0; fid = a1; stamp = a2; tokens = a4 }; status = a3; pieces = a5; entries = a6 }, rest)) u64_right
    (λ a2 f2. more_right (λ (t : (ℕ × Fid × ℕ × Option Status × List Token × List Piece × List DirEntry)). (((Any t × (t.0 ≡ a0)) × (t.1 ≡ a1)) × (t.2 ≡ a2))) (spell_optional spell_status) (λ t. long spell_token t.4 & spell_pieces t.5 & short spell_entry t.6) (λ t. t.3) made_grant (optional_at status_at)
    (λ a3 rest. long_at token_at rest >>= λ a4 rest. pieces_at rest >>= λ a5 rest. short_at entry_at rest >>= λ a6 rest. Ok (record { bring = record { number = a0; fid = a1; stamp = a2; tokens = a4 }; status = a3; pieces = a5; entries = a6 }, rest)) (optional_right spell_status status_at status_right)
    (λ a3 f3. more_right (λ (t : (ℕ × Fid × ℕ × Option Status × List Token × List Piece × List DirEntry)). ((((Any t × (t.0 ≡ a0)) × (t.1 ≡ a1)) × (t.2 ≡ a2)) × (t.3 ≡ a3))) (long spell_token) (λ t. spell_pieces t.5 & short spell_entry t.6) (λ t. t.4) made_grant (long_at token_at)
    (λ a4 rest. pieces_at rest >>= λ a5 rest. short_at entry_at rest >>= λ a6 rest. Ok (record { bring = record { number = a0; fid = a1; stamp = a2; tokens = a4 }; status = a3; pieces = a5; entries = a6 }, rest)) (long_right spell_token token_at token_right)
    (λ a4 f4. more_right (λ (t : (ℕ × Fid × ℕ × Option Status × List Token × List Piece × List DirEntry)). (((((Any t × (t.0 ≡ a0)) × (t.1 ≡ a1)) × (t.2 ≡ a2)) × (t.3 ≡ a3)) × (t.4 ≡ a4))) spell_pieces (λ t. short spell_entry t.6) (λ t. t.5) made_grant pieces_at
    (λ a5 rest. short_at entry_at rest >>= λ a6 rest. Ok (record { bring = record { number = a0; fid = a1; stamp = a2; tokens = a4 }; status = a3; pieces = a5; entries = a6 }, rest)) pieces_right
    (λ a5 f5. last_right (λ (t : (ℕ × Fid × ℕ × Option Status × List Token × List Piece × List DirEntry)). ((((((Any t × (t.0 ≡ a0)) × (t.1 ≡ a1)) × (t.2 ≡ a2)) × (t.3 ≡ a3)) × (t.4 ≡ a4)) × (t.5 ≡ a5))) Any (short spell_entry) (λ t. t.6) made_grant (λ z. record { bring = record { number = a0; fid = a1; stamp = a2; tokens = a4 }; status = a3; pieces = a5; entries = z }) (short_at entry_at)
    (λ z any. ((a0, a1, a2, a3, a4, a5, z), ((((((tt, refl), refl), refl), refl), refl), refl), refl)) (λ t c. (tt, cc)) (short_right spell_entry entry_at entry_right)))))))

pub grant_right : IsRight spell_grant grant_at
grant_right = variant_right Any spell_grant made_grant grant_at (λ t. tt) (λ a c. ((a.bring.number, a.bring.fid, a.bring.stamp, a.status, a.bring.tokens, a.pieces, a.entries), refl)) grant_parts

abbrev pub made_outcome_reply : Reply → DoneIs
made_outcome_reply t = Replied t

pub outcome_reply_parts : Right Any (λ t. outcome_fields (made_outcome_reply t)) made_outcome_reply outcome_reply_at
unfolding outcome_fields outcome_reply_at
outcome_reply_parts =
    mapped Any spell_reply same made_outcome_reply reply_at reply_right

is_outcome_reply : (x : DoneIs) → outcome_tag x ≡ 0 → (t : Reply) × (made_outcome_reply t ≡ x)
is_outcome_reply (Replied y) e = (y, refl)
is_outcome_reply _ e = absurd (omega (arith, e))

abbrev pub made_outcome_known : FilesetId → DoneIs
made_outcome_known t = Known t

pub outcome_known_parts : Right Any (λ t. outcome_fields (made_outcome_known t)) made_outcome_known outcome_known_at
unfolding outcome_fields outcome_known_at
outcome_known_parts =
    mapped Any spell_fileset same made_outcome_known fileset_at fileset_right

is_outcome_known : (x : DoneIs) → outcome_tag x ≡ 1 → (t : FilesetId) × (made_outcome_known t ≡ x)
is_outcome_known (Known y) e = (y, refl)
is_outcome_known _ e = absurd (omega (arith, e))

is_outcome_granted : (x : DoneIs) → outcome_tag x ≡ 2 → Granted ≡ x
is_outcome_granted Granted e = refl
is_outcome_granted _ e = absurd (omega (arith, e))

is_outcome_again : (x : DoneIs) → outcome_tag x ≡ 3 → Again ≡ x
is_outcome_again Again e = refl
is_outcome_again _ e = absurd (omega (arith, e))

abbrev pub made_outcome_elsewhere : ServerId → DoneIs
made_outcome_elsewhere t = Elsewhere t

pub outcome_elsewhere_parts : Right Any (λ t. outcome_fields (made_outcome_elsewhere t)) made_outcome_elsewhere outcome_elsewhere_at
unfolding outcome_fields outcome_elsewhere_at
outcome_elsewhere_parts =
    mapped Any spell_server same made_outcome_elsewhere server_at server_right

is_outcome_elsewhere : (x : DoneIs) → outcome_tag x ≡ 4 → (t : ServerId) × (made_outcome_elsewhere t ≡ x)
is_outcome_elsewhere (Elsewhere y) e = (y, refl)
is_outcome_elsewhere _ e = absurd (omega (arith, e))

outcome_rest : (tag : ℕ) → 0 ≤ tag → tag ≤ 4 → Right (λ x. Any x × (outcome_tag x ≡ tag)) outcome_fields same (outcome_of tag)
unfolding outcome_of outcome_fields
outcome_rest zero l h = variant_right (λ x. Any x × (outcome_tag x ≡ 0)) outcome_fields made_outcome_reply (outcome_of 0) (λ t. (tt, refl)) (λ a c. is_outcome_reply a c.1) outcome_reply_parts
outcome_rest (suc zero) l h = variant_right (λ x. Any x × (outcome_tag x ≡ 1)) outcome_fields made_outcome_known (outcome_of 1) (λ t. (tt, refl)) (λ a c. is_outcome_known a c.1) outcome_known_parts
outcome_rest (suc (suc zero)) l h = end_right (λ x. Any x × (outcome_tag x ≡ 2)) outcome_fields same Granted Granted (tt, refl) refl (λ x c f. (sym (is_outcome_granted x c.1), ap (λ v. (outcome_fields v).bytes) (sym (is_outcome_granted x c.1))))
outcome_rest (suc (suc (suc zero))) l h = end_right (λ x. Any x × (outcome_tag x ≡ 3)) outcome_fields same Again Again (tt, refl) refl (λ x c f. (sym (is_outcome_again x c.1), ap (λ v. (outcome_fields v).bytes) (sym (is_outcome_again x c.1))))
outcome_rest (suc (suc (suc (suc zero)))) l h = variant_right (λ x. Any x × (outcome_tag x ≡ 4)) outcome_fields made_outcome_elsewhere (outcome_of 4) (λ t. (tt, refl)) (λ a c. is_outcome_elsewhere a c.1) outcome_elsewhere_parts
outcome_rest (suc (suc (suc (suc (suc n))))) l h = absurd (omega (arith, h))

pub outcome_right : IsRight spell_outcome outcome_at
unfolding spell_outcome outcome_at
outcome_right = more_right Any (number 1 0 4) outcome_fields outcome_tag same (number_at 1 0 4) (λ tag rest. outcome_of tag rest)
    (number_right 0 4 (omega arith) 1 (omega arith))
    (λ tag f. let b = code_bounds 0 4 tag f in outcome_rest tag b.0 b.1)

abbrev pub made_done : (ℕ × FilesetId × DoneIs × Fid × ℕ × List Token) → DoneOf
made_done t = record { fileset = t.1; outcome = t.2; bring = record { number = t.0; fid = t.3; stamp = t.4; tokens = t.5 } }

pub done_parts : Right Any (λ t. spell_done (made_done t)) made_done done_at
unfolding spell_done done_at
done_parts =
    more_right (λ (t : (ℕ × FilesetId × DoneIs × Fid × ℕ × List Token)). Any t) spell_u64 (λ t. spell_fileset t.1 & spell_outcome t.2 & spell_fid t.3 & spell_u64 t.4 & long spell_token t.5) (λ t. t.0) made_done u64_at
    (λ a0 rest. fileset_at rest >>= λ a1 rest. outcome_at rest >>= λ a2 rest. fid_at rest >>= λ a3 rest. u64_at rest >>= λ a4 rest. long_at token_at rest >>= λ a5 rest. Ok (record { fileset = a1; outcome = a2; bring = record { number = a0; fid = a3; stamp = a4; tokens = a5 } }, rest)) u64_right
    (λ a0 f0. more_right (λ (t : (ℕ × FilesetId × DoneIs × Fid × ℕ × List Token)). (Any t × (t.0 ≡ a0))) spell_fileset (λ t. spell_outcome t.2 & spell_fid t.3 & spell_u64 t.4 & long spell_token t.5) (λ t. t.1) made_done fileset_at
    (λ a1 rest. outcome_at rest >>= λ a2 rest. fid_at rest >>= λ a3 rest. u64_at rest >>= λ a4 rest. long_at token_at rest >>= λ a5 rest. Ok (record { fileset = a1; outcome = a2; bring = record { number = a0; fid = a3; stamp = a4; tokens = a5 } }, rest)) fileset_right
    (λ a1 f1. more_right (λ (t : (ℕ × FilesetId × DoneIs × Fid × ℕ × List Token)). ((Any t × (t.0 ≡ a0)) × (t.1 ≡ a1))) spell_outcome (λ t. spell_fid t.3 & spell_u64 t.4 & long spell_token t.5) (λ t. t.2) made_done outcome_at
    (λ a2 rest. fid_at rest >>= λ a3 rest. u64_at rest >>= λ a4 rest. long_at token_at rest >>= λ a5 rest. Ok (record { fileset = a1; outcome = a2; bring = record { number = a0; fid = a3; stamp = a4; tokens = a5 } }, rest)) outcome_right
    (λ a2 f2. more_right (λ (t : (ℕ × FilesetId × DoneIs × Fid × ℕ × List Token)). (((Any t × (t.0 ≡ a0)) × (t.1 ≡ a1)) × (t.2 ≡ a2))) spell_fid (λ t. spell_u64 t.4 & long spell_token t.5) (λ t. t.3) made_done fid_at
    (λ a3 rest. u64_at rest >>= λ a4 rest. long_at token_at rest >>= λ a5 rest. Ok (record { fileset = a1; outcome = a2; bring = record { number = a0; fid = a3; stamp = a4; tokens = a5 } }, rest)) fid_right
    (λ a3 f3. more_right (λ (t : (ℕ × FilesetId × DoneIs × Fid × ℕ × List Token)). ((((Any t × (t.0 ≡ a0)) × (t.1 ≡ a1)) × (t.2 ≡ a2)) × (t.3 ≡ a3))) spell_u64 (λ t. long spell_token t.5) (λ t. t.4) made_done u64_at
    (λ a4 rest. long_at token_at rest >>= λ a5 rest. Ok (record { fileset = a1; outcome = a2; bring = record { number = a0; fid = a3; stamp = a4; tokens = a5 } }, rest)) u64_right
    (λ a4 f4. last_right (λ (t : (ℕ × FilesetId × DoneIs × Fid × ℕ × List Token)). (((((Any t × (t.0 ≡ a0)) × (t.1 ≡ a1)) × (t.2 ≡ a2)) × (t.3 ≡ a3)) × (t.4 ≡ a4))) Any (long spell_token) (λ t. t.5) made_done (λ z. record { fileset = a1; outcome = a2; bring = record { number = a0; fid = a3; stamp = a4; tokens = z } }) (long_at token_at)
    (λ z any. ((a0, a1, a2, a3, a4, z), (((((tt, refl), refl), refl), refl), refl), refl)) (λ t c. (tt, cc)) (long_right spell_token token_at token_right))))))

pub done_right : IsRight spell_done done_at
done_right = variant_right Any spell_done made_done done_at (λ t. tt) (λ a c. ((a.bring.number, a.fileset, a.outcome, a.bring.fid, a.bring.stamp, a.bring.tokens), refl)) done_parts
