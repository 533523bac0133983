use Rattle.std.proofs.Common.{ap, subst, sym, ◌∙◌, ◌∷◌, ◌≡◌, [], ℕ}
use Rattle.std.proofs.lemmas.Result.{IfOk-weaker}
use Rattle.host_asks.specs.Fetching.{AreFetchable, AsksFile}
use Rattle.host_tables.specs.Asking.{FetchFrom}
use Rattle.host_tables.specs.Stands.{IsLack}
use Rattle.host_tables.specs.Tables.{held_of}
use Rattle.host_walk.specs.Trying.{status_need, whole_need}
use Rattle.run_rules.specs.Tokens.{IsUseKind}
use Rattle.token_types.specs.Covers.{Covers}
use Rattle.token_types.specs.declared.token.Need.{Need}
use Rattle.host_asks.proofs.Gone.{both_not}
use Rattle.host_asks.proofs.Fetched.{fetch_known, fetch_plain, fetch_unknown, fetch_whole}
use Rattle.host_asks.proofs.Sound.{status_sound, whole_sound}
use Rattle.host_asks.proofs.asking.needs_to_fetch.Goals as goal

pub returns-then-is_root-clause-asks : goal.returns-then-is_root-clause-asks
returns-then-is_root-clause-asks c =
    IfOk-weaker c.whole_needs.result (λ needs. needs ≡ status_need c.args.fid ∷ whole_need c.args.fid ∷ [])
    (λ needs. (need : Need) → IsLack c.args.tables.now c.args.call.now need → need.fid ≡ c.args.fid →
    (IsUseKind need.kind → ⊥) → FetchFrom c.args.tables.now c.args.tables.now.lost c.args.call.now c.args.fid needs)
    (λ needs is need lack file plain. fetch_whole c.args.tables.now c.args.call.now c.args.fid needs
    (c.is_root.ensures.0 c.if-is_root.true) is) c.whole_needs.ensures

pub returns-then-not-covers-clause-asks : goal.returns-then-not-covers-clause-asks
returns-then-not-covers-clause-asks c =
    let status = c.status_need-then-not-covers in
    IfOk-weaker c.one_need.result (λ needs. needs ≡ status.result ∷ [])
    (λ needs. (need : Need) → IsLack c.args.tables.now c.args.call.now need → need.fid ≡ c.args.fid →
    (IsUseKind need.kind → ⊥) → FetchFrom c.args.tables.now c.args.tables.now.lost c.args.call.now c.args.fid needs)
    (λ needs is need lack file plain. fetch_unknown c.args.tables.now c.args.call.now c.args.fid needs
    (λ e. both_not c.is_root.result (c.is_root.ensures.1 e) c.if-is_root.false)
    (λ h. both_not c.covers.result (c.covers.ensures.1
    (subst (λ (n : Need). Covers (held_of c.args.tables.now) n) (sym c.status_need.ensures) h)) c.if-not-covers.true)
    (is ∙ ap (λ (n : Need). n ∷ []) status.ensures)) c.one_need.ensures

pub returns-then-is_directory-clause-asks : goal.returns-then-is_directory-clause-asks
returns-then-is_directory-clause-asks c =
    IfOk-weaker c.whole_needs-then-is_directory.result
    (λ needs. needs ≡ status_need c.args.fid ∷ whole_need c.args.fid ∷ [])
    (λ needs. (need : Need) → IsLack c.args.tables.now c.args.call.now need → need.fid ≡ c.args.fid →
    (IsUseKind need.kind → ⊥) → FetchFrom c.args.tables.now c.args.tables.now.lost c.args.call.now c.args.fid needs)
    (λ needs is need lack file plain. fetch_known c.args.tables.now c.args.call.now c.args.fid needs
    (subst (λ (n : Need). Covers (held_of c.args.tables.now) n) c.status_need.ensures (c.covers.ensures.0
    c.if-not-covers.false))
    (sym c.is_directory.ensures ∙ c.if-is_directory.true) is) c.whole_needs-then-is_directory.ensures

pub returns-clause-asks : goal.returns-clause-asks
returns-clause-asks c =
    IfOk-weaker c.file_needs.result (λ needs. AsksFile c.args.tables.now c.args.call.now c.args.fid
    c.length_seen.result needs)
    (λ needs. (need : Need) → IsLack c.args.tables.now c.args.call.now need → need.fid ≡ c.args.fid →
    (IsUseKind need.kind → ⊥) → FetchFrom c.args.tables.now c.args.tables.now.lost c.args.call.now c.args.fid needs)
    (λ needs asks. fetch_plain c.args.tables.now c.args.call.now c.args.fid needs
    (λ e. both_not c.is_root.result (c.is_root.ensures.1 e) c.if-is_root.false)
    (subst (λ (n : Need). Covers (held_of c.args.tables.now) n) c.status_need.ensures (c.covers.ensures.0
    c.if-not-covers.false))
    (sym c.is_directory.ensures ∙ c.if-is_directory.false)
    (subst (λ (n : ℕ). AsksFile c.args.tables.now c.args.call.now c.args.fid n needs) c.length_seen.ensures asks))
    c.file_needs.ensures.asks

pub returns-then-is_root-clause-sound : goal.returns-then-is_root-clause-sound
returns-then-is_root-clause-sound c =
    IfOk-weaker c.whole_needs.result (λ needs. needs ≡ status_need c.args.fid ∷ whole_need c.args.fid ∷ [])
    (λ needs. AreFetchable needs) (whole_sound c.args.fid) c.whole_needs.ensures

pub returns-then-not-covers-clause-sound : goal.returns-then-not-covers-clause-sound
returns-then-not-covers-clause-sound c =
    let status = c.status_need-then-not-covers in
    IfOk-weaker c.one_need.result (λ needs. needs ≡ status.result ∷ []) (λ needs. AreFetchable needs)
    (λ needs is. status_sound c.args.fid needs (is ∙ ap (λ (n : Need). n ∷ []) status.ensures)) c.one_need.ensures

pub returns-then-is_directory-clause-sound : goal.returns-then-is_directory-clause-sound
returns-then-is_directory-clause-sound c =
    IfOk-weaker c.whole_needs-then-is_directory.result
    (λ needs. needs ≡ status_need c.args.fid ∷ whole_need c.args.fid ∷ [])
    (λ needs. AreFetchable needs) (whole_sound c.args.fid) c.whole_needs-then-is_directory.ensures

pub returns-clause-sound : goal.returns-clause-sound
returns-clause-sound c = c.file_needs.ensures.sound
