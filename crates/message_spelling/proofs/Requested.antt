-- Reading requests, names of tokens, give-backs and claims is right.
use Rattle.std.proofs.Common.{◌≡◌, ℕ, Bool, List, Ok, refl}
use Rattle.std.specs.Prelude.{Option}
use Rattle.base_types.specs.declared.ids.FilesetId.{FilesetId}
use Rattle.base_types.specs.declared.ids.Fid.{Fid}
use Rattle.tree_calls.specs.declared.call.Call.{Call}
use Rattle.tree_calls.specs.declared.part.Piece.{Piece}
use Rattle.token_types.specs.declared.token.TokenId.{TokenId}
use Rattle.token_types.specs.declared.token.Token.{Token}
use Rattle.token_types.specs.declared.token.Need.{Need}
use Rattle.message_types.specs.declared.asking.Change.{Change as ChangeOf}
use Rattle.message_types.specs.declared.asking.Fetch.{Fetch as FetchOf}
use Rattle.message_types.specs.declared.giving.AppliedGive.{AppliedGive}
use Rattle.message_types.specs.declared.giving.Ends.{Ends}
use Rattle.message_types.specs.declared.giving.Give.{Give}
use Rattle.message_types.specs.declared.giving.Outstanding.{Outstanding}
use Rattle.message_types.specs.declared.giving.Reclaim.{Reclaim as ReclaimOf}
use Rattle.message_types.specs.declared.giving.Reclaimed.{Reclaimed as ReclaimedOf}
use Rattle.message_types.specs.declared.tokens.Named.{Named}
use Rattle.message_types.specs.declared.tokens.Revoke.{Revoke as RevokeOf}
use Rattle.message_parts.specs.Spelled.{◌&◌}
use Rattle.message_parts.specs.Reading.{◌>>=◌}
use Rattle.message_parts.specs.Words.{spell_u32, u32_at, spell_u64, u64_at, spell_flag, flag_at, spell_fileset, fileset_at, short, short_at, long, long_at, spell_optional, optional_at}
use Rattle.message_parts.specs.Tokens.{spell_fid, fid_at, spell_id, id_at, spell_need, need_at, spell_token, token_at}
use Rattle.message_parts.specs.Objects.{spell_pieces, pieces_at}
use Rattle.message_parts.specs.Requests.{spell_outstanding, outstanding_at, spell_applied, applied_at}
use Rattle.message_calls.specs.Calls.{spell_call, call_at, spell_ending, ending_at}
use Rattle.message_spelling.specs.Bodies.{spell_fetch, spell_change, spell_revoke, spell_named, spell_ends, spell_give, spell_gone, spell_reclaim, spell_reclaimed}
use Rattle.message_spelling.specs.Readings.{fetch_at, change_at, revoke_at, named_at, ends_at, give_at, gone_at, reclaim_at, reclaimed_at}
use Rattle.message_parts.proofs.More.{more_right}
use Rattle.message_parts.proofs.Parts.{last_right}
use Rattle.message_parts.proofs.Right.{Right, Any, IsRight}
use Rattle.message_parts.proofs.Words.{u32_right, u64_right, variant_right, flag_right, fileset_right, short_right, long_right, optional_right}
use Rattle.message_parts.proofs.Tokens.{fid_right, id_right, need_right, token_right}
use Rattle.message_parts.proofs.Pieces.{pieces_right}
use Rattle.message_parts.proofs.Requests.{outstanding_right, applied_right}
use Rattle.message_calls.proofs.Calls.{call_right, ending_right}

abbrev pub made_fetch : (ℕ × Fid × List Need) → FetchOf
made_fetch t = record { number = t.0; fid = t.1; needs = t.2 }

pub fetch_parts : Right Any (λ t. spell_fetch (made_fetch t)) made_fetch fetch_at
unfolding spell_fetch fetch_at
fetch_parts =
    more_right (λ (t : (ℕ × Fid × List Need)). Any t) spell_u64 (λ t. spell_fid t.1 & short spell_need t.2) (λ t. t.0) made_fetch u64_at
    (λ a0 rest. fid_at rest >>= λ a1 rest. short_at need_at rest >>= λ a2 rest. Ok (record { number = a0; fid = a1; needs = a2 }, rest)) u64_right
    (λ a0 f0. more_right (λ (t : (ℕ × Fid × List Need)). (Any t × (t.0 ≡ a0))) spell_fid (λ t. short spell_need t.2) (λ t. t.1) made_fetch fid_at
    (λ a1 rest. short_at need_at rest >>= λ a2 rest. Ok (record { number = a0; fid = a1; needs = a2 }, rest)) fid_right
    (λ a1 f1. last_right (λ (t : (ℕ × Fid × List Need)). ((Any t × (t.0 ≡ a0)) × (t.1 ≡ a1))) Any (short spell_need) (λ t. t.2) made_fetch (λ z. record { number = a0; fid = a1; needs = z }) (short_at need_at)
    (λ z any. ((a0, a1, z), ((tt, refl), refl), refl)) (λ t c. (tt, cc)) (short_right spell_need need_at need_right)))

pub fetch_right : IsRight spell_fetch fetch_at
fetch_right = variant_right Any spell_fetch made_fetch fetch_at (λ t. tt) (λ a c. ((a.number, a.fid, a.needs), refl)) fetch_parts

abbrev pub made_change : (ℕ × FilesetId × Fid × Bool × ℕ × Call) → ChangeOf
made_change t = record { number = t.0; fileset = t.1; fid = t.2; enter = t.3; k = t.4; call = t.5 }

pub change_parts : Right Any (λ t. spell_change (made_change t)) made_change change_at
unfolding spell_change change_at
change_parts =
    more_right (λ (t : (ℕ × FilesetId × Fid × Bool × ℕ × Call)). Any t) spell_u64 (λ t. spell_fileset t.1 & spell_fid t.2 & spell_flag t.3 & spell_u32 t.4 & spell_call t.5) (λ t. t.0) made_change u64_at
    (λ a0 rest. fileset_at rest >>= λ a1 rest. fid_at rest >>= λ a2 rest. flag_at rest >>= λ a3 rest. u32_at rest >>= λ a4 rest. call_at rest >>= λ a5 rest. Ok (record { number = a0; fileset = a1; fid = a2; enter = a3; k = a4; call = a5 }, rest)) u64_right
    (λ a0 f0. more_right (λ (t : (ℕ × FilesetId × Fid × Bool × ℕ × Call)). (Any t × (t.0 ≡ a0))) spell_fileset (λ t. spell_fid t.2 & spell_flag t.3 & spell_u32 t.4 & spell_call t.5) (λ t. t.1) made_change fileset_at
    (λ a1 rest. fid_at rest >>= λ a2 rest. flag_at rest >>= λ a3 rest. u32_at rest >>= λ a4 rest. call_at rest >>= λ a5 rest. Ok (record { number = a0; fileset = a1; fid = a2; enter = a3; k = a4; call = a5 }, rest)) fileset_right
    (λ a1 f1. more_right (λ (t : (ℕ × FilesetId × Fid × Bool × ℕ × Call)). ((Any t × (t.0 ≡ a0)) × (t.1 ≡ a1))) spell_fid (λ t. spell_flag t.3 & spell_u32 t.4 & spell_call t.5) (λ t. t.2) made_change fid_at
    (λ a2 rest. flag_at rest >>= λ a3 rest. u32_at rest >>= λ a4 rest. call_at rest >>= λ a5 rest. Ok (record { number = a0; fileset = a1; fid = a2; enter = a3; k = a4; call = a5 }, rest)) fid_right
    (λ a2 f2. more_right (λ (t : (ℕ × FilesetId × Fid × Bool × ℕ × Call)). (((Any t × (t.0 ≡ a0)) × (t.1 ≡ a1)) × (t.2 ≡ a2))) spell_flag (λ t. spell_u32 t.4 & spell_call t.5) (λ t. t.3) made_change flag_at
    (λ a3 rest. u32_at rest >>= λ a4 rest. call_at rest >>= λ a5 rest. Ok (record { number = a0; fileset = a1; fid = a2; enter = a3; k = a4; call = a5 }, rest)) flag_right
    (λ a3 f3. more_right (λ (t : (ℕ × FilesetId × Fid × Bool × ℕ × Call)). ((((Any t × (t.0 ≡ a0)) × (t.1 ≡ a1)) × (t.2 ≡ a2)) × (t.3 ≡ a3))) spell_u32 (λ t. spell_call t.5) (λ t. t.4) made_change u32_at
    (λ a4 rest. call_at rest >>= λ a5 rest. Ok (record { number = a0; fileset = a1; fid = a2; enter = a3; k = a4; call = a5 }, rest)) u32_right
    (λ a4 f4. last_right (λ (t : (ℕ × FilesetId × Fid × Bool × ℕ × Call)). (((((Any t × (t.0 ≡ a0)) × (t.1 ≡ a1)) × (t.2 ≡ a2)) × (t.3 ≡ a3)) × (t.4 ≡ a4))) Any spell_call (λ t. t.5) made_change (λ z. record { number = a0; fileset = a1; fid = a2; enter = a3; k = a4; call = z }) call_at
    (λ z any. ((a0, a1, a2, a3, a4, z), (((((tt, refl), refl), refl), refl), refl), refl)) (λ t c. (tt, cc)) call_right)))))

pub change_right : IsRight spell_change change_at
change_right = variant_right Any spell_change made_change change_at (λ t. tt) (λ a c. ((a.number, a.fileset, a.fid, a.enter, a.k, a.call), refl)) change_parts

abbrev pub made_revoke : (Fid × ℕ × List TokenId) → RevokeOf
made_revoke t = record { fid = t.0; stamp = t.1; ids = t.2 }

pub revoke_parts : Right Any (λ t. spell_revoke (made_revoke t)) made_revoke revoke_at
unfolding spell_revoke revoke_at
revoke_parts =
    more_right (λ (t : (Fid × ℕ × List TokenId)). Any t) spell_fid (λ t. spell_u64 t.1 & long spell_id t.2) (λ t. t.0) made_revoke fid_at
    (λ a0 rest. u64_at rest >>= λ a1 rest. long_at id_at rest >>= λ a2 rest. Ok (record { fid = a0; stamp = a1; ids = a2 }, rest)) fid_right
    (λ a0 f0. more_right (λ (t : (Fid × ℕ × List TokenId)). (Any t × (t.0 ≡ a0))) spell_u64 (λ t. long spell_id t.2) (λ t. t.1) made_revoke u64_at
    (λ a1 rest. long_at id_at rest >>= λ a2 rest. Ok (record { fid = a0; stamp = a1; ids = a2 }, rest)) u64_right
    (λ a1 f1. last_right (λ (t : (Fid × ℕ × List TokenId)). ((Any t × (t.0 ≡ a0)) × (t.1 ≡ a1))) Any (long spell_id) (λ t. t.2) made_revoke (λ z. record { fid = a0; stamp = a1; ids = z }) (long_at id_at)
    (λ z any. ((a0, a1, z), ((tt, refl), refl), refl)) (λ t c. (tt, cc)) (long_right spell_id id_at id_right)))

pub revoke_right : IsRight spell_revoke revoke_at
revoke_right = variant_right Any spell_revoke made_revoke revoke_at (λ t. tt) (λ a c. ((a.fid, a.stamp, a.ids), refl)) revoke_parts

abbrev pub made_named : (Fid × List TokenId) → Named
made_named t = record { fid = t.0; ids = t.1 }

pub named_parts : Right Any (λ t. spell_named (made_named t)) made_named named_at
unfolding spell_named named_at
named_parts =
    more_right (λ (t : (Fid × List TokenId)). Any t) spell_fid (λ t. long spell_id t.1) (λ t. t.0) made_named fid_at
    (λ a0 rest. long_at id_at rest >>= λ a1 rest. Ok (record { fid = a0; ids = a1 }, rest)) fid_right
    (λ a0 f0. last_right (λ (t : (Fid × List TokenId)). (Any t × (t.0 ≡ a0))) Any (long spell_id) (λ t. t.1) made_named (λ z. record { fid = a0; ids = z }) (long_at id_at)
    (λ z any. ((a0, z), (tt, refl), refl)) (λ t c. (tt, cc)) (long_right spell_id id_at id_right))

pub named_right : IsRight spell_named named_at
named_right = variant_right Any spell_named made_named named_at (λ t. tt) (λ a c. ((a.fid, a.ids), refl)) named_parts

abbrev pub made_ends : (ℕ × Call) → Ends
made_ends t = record { k = t.0; call = t.1 }

pub ends_parts : Right Any (λ t. spell_ends (made_ends t)) made_ends ends_at
unfolding spell_ends ends_at
ends_parts =
    more_right (λ (t : (ℕ × Call)). Any t) spell_u32 (λ t. spell_ending t.1) (λ t. t.0) made_ends u32_at
    (λ a0 rest. ending_at rest >>= λ a1 rest. Ok (record { k = a0; call = a1 }, rest)) u32_right
    (λ a0 f0. last_right (λ (t : (ℕ × Call)). (Any t × (t.0 ≡ a0))) Any spell_ending (λ t. t.1) made_ends (λ z. record { k = a0; call = z }) ending_at
    (λ z any. ((a0, z), (tt, refl), refl)) (λ t c. (tt, cc)) ending_right)

pub ends_right : IsRight spell_ends ends_at
ends_right = variant_right Any spell_ends made_ends ends_at (λ t. tt) (λ a c. ((a.k, a.call), refl)) ends_parts

abbrev pub made_give : (ℕ × Fid × List TokenId × List Piece × Option ℕ × Option Ends) → Give
made_give t = record { number = t.0; fid = t.1; ids = t.2; pieces = t.3; length = t.4; ends = t.5 }

pub give_parts : Right Any (λ t. spell_give (made_give t)) made_give give_at
unfolding spell_give give_at
give_parts =
    more_right (λ (t : (ℕ × Fid × List TokenId × List Piece × Option ℕ × Option Ends)). Any t) spell_u64 (λ t. spell_fid t.1 & long spell_id t.2 & spell_pieces t.3 & spell_optional spell_u32 t.4 & spell_optional spell_ends t.5) (λ t. t.0) made_give u64_at
    (λ a0 rest. fid_at rest >>= λ a1 rest. long_at id_at rest >>= λ a2 rest. pieces_at rest >>= λ a3 rest. optional_at u32_at rest >>= λ a4 rest. optional_at ends_at rest >>= λ a5 rest. Ok (record { number = a0; fid = a1; ids = a2; pieces = a3; length = a4; ends = a5 }, rest)) u64_right
    (λ a0 f0. more_right (λ (t : (ℕ × Fid × List TokenId × List Piece × Option ℕ × Option Ends)). (Any t × (t.0 ≡ a0))) spell_fid (λ t. long spell_id t.2 & spell_pieces t.3 & spell_optional spell_u32 t.4 & spell_optional spell_ends t.5) (λ t. t.1) made_give fid_at
    (λ a1 rest. long_at id_at rest >>= λ a2 rest. pieces_at rest >>= λ a3 rest. optional_at u32_at rest >>= λ a4 rest. optional_at ends_at rest >>= λ a5 rest. Ok (record { number = a0; fid = a1; ids = a2; pieces = a3; length = a4; ends = a5 }, rest)) fid_right
    (λ a1 f1. more_right (λ (t : (ℕ × Fid × List TokenId × List Piece × Option ℕ × Option Ends)). ((Any t × (t.0 ≡ a0)) × (t.1 ≡ a1))) (long spell_id) (λ t. spell_pieces t.3 & spell_optional spell_u32 t.4 & spell_optional spell_ends t.5) (λ t. t.2) made_give (long_at id_at)
    (λ a2 rest. pieces_at rest >>= λ a3 rest. optional_at u32_at rest >>= λ a4 rest. optional_at ends_at rest >>= λ a5 rest. Ok (record { number = a0; fid = a1; ids = a2; pieces = a3; length = a4; ends = a5 }, rest)) (long_right spell_id id_at id_right)
    (λ a2 f2. more_right (λ (t : (ℕ × Fid × List TokenId × List Piece × Option ℕ × Option Ends)). (((Any t × (t.0 ≡ a0)) × (t.1 ≡ a1)) × (t.2 ≡ a2))) spell_pieces (λ t. spell_optional spell_u32 t.4 & spell_optional spell_ends t.5) (λ t. t.3) made_give pieces_at
    (λ a3 rest. optional_at u32_at rest >>= λ a4 rest. optional_at ends_at rest >>= λ a5 rest. Ok (record { number = a0; fid = a1; ids = a2; pieces = a3; length = a4; ends = a5 }, rest)) pieces_right
    (λ a3 f3. more_right (λ (t : (ℕ × Fid × List TokenId × List Piece × Option ℕ × Option Ends)). ((((Any t × (t.0 ≡ a0)) × (t.1 ≡ a1)) × (t.2 ≡ a2)) × (t.3 ≡ a3))) (spell_optional spell_u32) (λ t. spell_optional spell_ends t.5) (λ t. t.4) made_give (optional_at u32_at)
    (λ a4 rest. optional_at ends_at rest >>= λ a5 rest. Ok (record { number = a0; fid = a1; ids = a2; pieces = a3; length = a4; ends = a5 }, rest)) (optional_right spell_u32 u32_at u32_right)
    (λ a4 f4. last_right (λ (t : (ℕ × Fid × List TokenId × List Piece × Option ℕ × Option Ends)). (((((Any t × (t.0 ≡ a0)) × (t.1 ≡ a1)) × (t.2 ≡ a2)) × (t.3 ≡ a3)) × (t.4 ≡ a4))) Any (spell_optional spell_ends) (λ t. t.5) made_give (λ z. record { number = a0; fid = a1; ids = a2; pieces = a3; length = a4; ends = z }) (optional_at ends_at)
    (λ z any. ((a0, a1, a2, a3, a4, z), (((((tt, refl), refl), refl), refl), refl), refl)) (λ t c. (tt, cc)) (optional_right spell_ends ends_at ends_right))))))

pub give_right : IsRight spell_give give_at
give_right = variant_right Any spell_give made_give give_at (λ t. tt) (λ a c. ((a.number, a.fid, a.ids, a.pieces, a.length, a.ends), refl)) give_parts

abbrev pub made_gone : (ℕ × FilesetId) → AppliedGive
made_gone t = record { number = t.0; fileset = t.1 }

pub gone_parts : Right Any (λ t. spell_gone (made_gone t)) made_gone gone_at
unfolding spell_gone gone_at
gone_parts =
    more_right (λ (t : (ℕ × FilesetId)). Any t) spell_u64 (λ t. spell_fileset t.1) (λ t. t.0) made_gone u64_at
    (λ a0 rest. fileset_at rest >>= λ a1 rest. Ok (record { number = a0; fileset = a1 }, rest)) u64_right
    (λ a0 f0. last_right (λ (t : (ℕ × FilesetId)). (Any t × (t.0 ≡ a0))) Any spell_fileset (λ t. t.1) made_gone (λ z. record { number = a0; fileset = z }) fileset_at
    (λ z any. ((a0, z), (tt, refl), refl)) (λ t c. (tt, cc)) fileset_right)

pub gone_right : IsRight spell_gone gone_at
gone_right = variant_right Any spell_gone made_gone gone_at (λ t. tt) (λ a c. ((a.number, a.fileset), refl)) gone_parts

abbrev pub made_reclaim : (List Token × List Outstanding) → ReclaimOf
made_reclaim t = record { tokens = t.0; numbers = t.1 }

pub reclaim_parts : Right Any (λ t. spell_reclaim (made_reclaim t)) made_reclaim reclaim_at
unfolding spell_reclaim reclaim_at
reclaim_parts =
    more_right (λ (t : (List Token × List Outstanding)). Any t) (long spell_token) (λ t. long spell_outstanding t.1) (λ t. t.0) made_reclaim (long_at token_at)
    (λ a0 rest. long_at outstanding_at rest >>= λ a1 rest. Ok (record { tokens = a0; numbers = a1 }, rest)) (long_right spell_token token_at token_right)
    (λ a0 f0. last_right (λ (t : (List Token × List Outstanding)). (Any t × (t.0 ≡ a0))) Any (long spell_outstanding) (λ t. t.1) made_reclaim (λ z. record { tokens = a0; numbers = z }) (long_at outstanding_at)
    (λ z any. ((a0, z), (tt, refl), refl)) (λ t c. (tt, cc)) (long_right spell_outstanding outstanding_at outstanding_right))

pub reclaim_right : IsRight spell_reclaim reclaim_at
reclaim_right = variant_right Any spell_reclaim made_reclaim reclaim_at (λ t. tt) (λ a c. ((a.tokens, a.numbers), refl)) reclaim_parts

abbrev pub made_reclaimed : (List AppliedGive × List TokenId) → ReclaimedOf
made_reclaimed t = record { applied = t.0; left_out = t.1 }

pub reclaimed_parts : Right Any (λ t. spell_reclaimed (made_reclaimed t)) made_reclaimed reclaimed_at
unfolding spell_reclaimed reclaimed_at
reclaimed_parts =
    more_right (λ (t : (List AppliedGive × List TokenId)). Any t) (long spell_applied) (λ t. long spell_id t.1) (λ t. t.0) made_reclaimed (long_at applied_at)
    (λ a0 rest. long_at id_at rest >>= λ a1 rest. Ok (record { applied = a0; left_out = a1 }, rest)) (long_right spell_applied applied_at applied_right)
    (λ a0 f0. last_right (λ (t : (List AppliedGive × List TokenId)). (Any t × (t.0 ≡ a0))) Any (long spell_id) (λ t. t.1) made_reclaimed (λ z. record { applied = a0; left_out = z }) (long_at id_at)
    (λ z any. ((a0, z), (tt, refl), refl)) (λ t c. (tt, cc)) (long_right spell_id id_at id_right))

pub reclaimed_right : IsRight spell_reclaimed reclaimed_at
reclaimed_right = variant_right Any spell_reclaimed made_reclaimed reclaimed_at (λ t. tt) (λ a c. ((a.applied, a.left_out), refl)) reclaimed_parts
