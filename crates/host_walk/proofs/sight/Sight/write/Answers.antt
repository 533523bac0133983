use Rattle.std.proofs.Common.{◌≡◌, ◌+◌, ℕ, length, min, subst, sym, ap, ◌∙◌, None, Some}
use Rattle.std.proofs.lemmas.Result.{err_from_is_err_and}
use Rattle.need_host.specs.Looks.{CoverAll, IsFirstLack}
use Rattle.tree_laws.specs.Parts.Part.{Size}
use Rattle.host_walk.specs.Bytes.{write_needs}
use Rattle.host_walk.specs.Trying.{Finds, IsStopped}
use Rattle.host_walk.specs.Views.{held_by, view_of}
use Rattle.host_walk.proofs.Writing.{end_is, none_of, nothing_written, same_target, some_of, write_found, write_lacks}
use Rattle.host_walk.proofs.Writing.{write_untargeted}
use Rattle.host_walk.proofs.sight.Sight.write.Goals as goal

pub returns-in_err-fid : goal.returns-in_err-fid
returns-in_err-fid c =
    let kept = c.args.self.now.cache.now in
    let bytes = c.args.bytes.now in
    let end : c.end_of-to.result ≡ min (c.args.from + length bytes) 4294967295 =
    c.end_of-to.ensures in
    let p = err_from_is_err_and c.from_residual.result c.from_residual.ensures.1 in
    rw (p.1, p.2) (
    write_untargeted (held_by kept) (view_of kept) c.args.self.now.user.now c.args.root c.args.path.now c.args.from
    bytes c.in_err-fid.field-0.0
    (subst (λ look. IsStopped (held_by kept) (view_of kept) look c.in_err-fid.field-0.0)
    (same_target (held_by kept) (view_of kept) c.args.self.now.user.now c.args.root c.args.path.now
    (c.args.from + length bytes) c.end_of-to.result end) c.in_err-fid.ensures.tried))

pub returns-then-is_empty : goal.returns-then-is_empty
returns-then-is_empty c =
    let kept = c.args.self.now.cache.now in
    let bytes = c.args.bytes.now in
    let end : c.end_of-to.result ≡ min (c.args.from + length bytes) 4294967295 =
    c.end_of-to.ensures in
    nothing_written (held_by kept) (view_of kept) c.args.self.now.user.now c.args.root c.args.path.now c.args.from bytes
    c.in_ok-fid.fid
    (subst (λ look. Finds (held_by kept) (view_of kept) look c.in_ok-fid.fid)
    (same_target (held_by kept) (view_of kept) c.args.self.now.user.now c.args.root c.args.path.now
    (c.args.from + length bytes) c.end_of-to.result end) c.in_ok-fid.ensures.tried)
    (none_of bytes (sym c.is_empty.ensures ∙ c.if-is_empty.true))

pub returns-in_err-writable : goal.returns-in_err-writable
returns-in_err-writable c =
    let kept = c.args.self.now.cache.now in
    let bytes = c.args.bytes.now in
    let fid = c.in_ok-fid.fid in
    let end : c.end_of-to.result ≡ min (c.args.from + length bytes) 4294967295 =
    c.end_of-to.ensures in
    let to_is = end_is c.args.from (length bytes) c.end_of-to.result end c.in_ok-fid.ensures.fits in
    let needs_are : write_needs fid c.args.from c.end_of-to.result c.in_ok-fid.status.now.length
    ≡ write_needs fid c.args.from (c.args.from + length bytes) (view_of kept fid Size) =
    (λ i. write_needs fid c.args.from (to_is i) (sym c.in_ok-fid.ensures.size i)) in
    let lack = c.in_err-writable.ensures in
    let p = err_from_is_err_and c.from_residual-in_err-writable.result c.from_residual-in_err-writable.ensures.1 in
    rw (p.1, p.2) (
    write_lacks (held_by kept) (view_of kept) c.args.self.now.user.now c.args.root c.args.path.now c.args.from bytes fid
    (subst (λ look. Finds (held_by kept) (view_of kept) look fid)
    (same_target (held_by kept) (view_of kept) c.args.self.now.user.now c.args.root c.args.path.now
    (c.args.from + length bytes) c.end_of-to.result end) c.in_ok-fid.ensures.tried)
    (some_of bytes (sym c.is_empty.ensures ∙ c.if-is_empty.false)) c.in_ok-fid.ensures.covered lack.0
    (subst (λ needs. IsFirstLack (held_by kept) needs lack.0) needs_are lack.1) c.in_err-writable.field-0.0 lack.2)

pub returns : goal.returns
returns c =
    let kept = c.args.self.now.cache.now in
    let bytes = c.args.bytes.now in
    let fid = c.in_ok-fid.fid in
    let end : c.end_of-to.result ≡ min (c.args.from + length bytes) 4294967295 =
    c.end_of-to.ensures in
    let to_is = end_is c.args.from (length bytes) c.end_of-to.result end c.in_ok-fid.ensures.fits in
    let needs_are : write_needs fid c.args.from c.end_of-to.result c.in_ok-fid.status.now.length
    ≡ write_needs fid c.args.from (c.args.from + length bytes) (view_of kept fid Size) =
    (λ i. write_needs fid c.args.from (to_is i) (sym c.in_ok-fid.ensures.size i)) in
    write_found (held_by kept) (view_of kept) c.args.self.now.user.now c.args.root c.args.path.now c.args.from bytes fid
    (subst (λ look. Finds (held_by kept) (view_of kept) look fid)
    (same_target (held_by kept) (view_of kept) c.args.self.now.user.now c.args.root c.args.path.now
    (c.args.from + length bytes) c.end_of-to.result end) c.in_ok-fid.ensures.tried)
    (some_of bytes (sym c.is_empty.ensures ∙ c.if-is_empty.false)) c.in_ok-fid.ensures.covered
    (subst (CoverAll (held_by kept)) needs_are c.in_ok-writable.ensures)
