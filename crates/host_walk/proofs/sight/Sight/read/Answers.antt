use Rattle.std.proofs.lemmas.Result.{err_from_is_err_and}
use Rattle.std.proofs.Common.{◌≡◌, ◌+◌, ap, sym, ◌∙◌}
use Rattle.base_types.specs.declared.span.Span.{Span}
use Rattle.tree_laws.specs.Parts.Part.{Size}
use Rattle.tree_objects.specs.Spans.{span_between}
use Rattle.host_walk.specs.Bytes.{read_count}
use Rattle.host_walk.specs.Views.{held_by, view_of, nature_told}
use Rattle.host_walk.proofs.Reading.{read_unfound, read_lacks, read_found, blocks_from_span, lack_in_span, span_covered}
use Rattle.host_walk.proofs.Steps.{size_found}
use Rattle.host_walk.proofs.sight.Sight.read.Goals as goal

pub returns-in_err-fid-clause-tried : goal.returns-in_err-fid-clause-tried
returns-in_err-fid-clause-tried c =
    let kept = c.args.self.now.cache.now in
    let p = err_from_is_err_and c.from_residual.result c.from_residual.ensures.1 in
    rw (p.1, p.2) (
    read_unfound (held_by kept) (view_of kept) c.args.self.now.user.now c.args.root c.args.path.now c.args.from
    c.args.len c.in_err-fid.field-0.0 c.in_err-fid.ensures.tried)

pub returns-in_err-blocks-clause-tried : goal.returns-in_err-blocks-clause-tried
returns-in_err-blocks-clause-tried c =
    let kept = c.args.self.now.cache.now in
    let p = err_from_is_err_and c.from_residual-in_err-blocks.result c.from_residual-in_err-blocks.ensures.1 in
    rw (p.1, p.2) (
    let count = read_count c.args.from c.args.len (view_of kept c.in_ok-fid.fid Size) in
    let is : c.bytes_to_read-span.result ≡ span_between c.args.from (c.args.from + count) =
    c.bytes_to_read-span.ensures
    ∙ ap (λ size. span_between c.args.from (c.args.from + read_count c.args.from c.args.len size))
    (sym (size_found kept c.in_ok-fid.fid c.in_ok-fid.status.now c.in_ok-fid.ensures.seen)) in
    read_lacks (held_by kept) (view_of kept) c.args.self.now.user.now c.args.root c.args.path.now c.args.from
    c.args.len c.in_ok-fid.fid (nature_told c.in_ok-fid.status.now) c.in_ok-fid.ensures.tried
    c.in_ok-fid.ensures.covered c.in_err-blocks.ensures.0
    (lack_in_span (held_by kept) c.in_ok-fid.fid c.args.from count c.bytes_to_read-span.result is
    c.in_err-blocks.ensures.0 c.in_err-blocks.ensures.1)
    c.in_err-blocks.field-0.0 c.in_err-blocks.ensures.2)

pub returns-clause-tried : goal.returns-clause-tried
returns-clause-tried c =
    let kept = c.args.self.now.cache.now in
    let count = read_count c.args.from c.args.len (view_of kept c.in_ok-fid.fid Size) in
    let is : c.bytes_to_read-span.result ≡ span_between c.args.from (c.args.from + count) =
    c.bytes_to_read-span.ensures
    ∙ ap (λ size. span_between c.args.from (c.args.from + read_count c.args.from c.args.len size))
    (sym (size_found kept c.in_ok-fid.fid c.in_ok-fid.status.now c.in_ok-fid.ensures.seen)) in
    read_found (held_by kept) (view_of kept) c.args.self.now.user.now c.args.root c.args.path.now c.args.from
    c.args.len c.in_ok-fid.fid (nature_told c.in_ok-fid.status.now) c.in_ok-fid.ensures.tried
    c.in_ok-fid.ensures.covered
    (blocks_from_span (held_by kept) c.in_ok-fid.fid c.args.from count c.bytes_to_read-span.result is
    c.in_ok-blocks.ensures)

pub returns-clause-span : goal.returns-clause-span
returns-clause-span c =
    let kept = c.args.self.now.cache.now in
    c.bytes_to_read-span.ensures
    ∙ ap (λ size. span_between c.args.from (c.args.from + read_count c.args.from c.args.len size))
    (sym (size_found kept c.in_ok-fid.fid c.in_ok-fid.status.now c.in_ok-fid.ensures.seen))

pub returns-clause-covered : goal.returns-clause-covered
returns-clause-covered c =
    let kept = c.args.self.now.cache.now in
    let count = read_count c.args.from c.args.len (view_of kept c.in_ok-fid.fid Size) in
    let is : c.bytes_to_read-span.result ≡ span_between c.args.from (c.args.from + count) =
    c.bytes_to_read-span.ensures
    ∙ ap (λ size. span_between c.args.from (c.args.from + read_count c.args.from c.args.len size))
    (sym (size_found kept c.in_ok-fid.fid c.in_ok-fid.status.now c.in_ok-fid.ensures.seen)) in
    span_covered (held_by kept) c.in_ok-fid.fid c.args.from count c.bytes_to_read-span.result is
    c.in_ok-blocks.ensures
