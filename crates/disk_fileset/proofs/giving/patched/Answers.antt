use Rattle.std.proofs.Common.{◌≡◌, ◌∙◌, ◌-◌, length, get_or, arith}
use Rattle.std.specs.Prelude.{Err}
use Rattle.std.proofs.lemmas.Result.{err_from_is_err_and}
use Rattle.disk_log.specs.Log.{disk_of}
use Rattle.disk_fileset.specs.Giving.{shifted}
use Rattle.disk_fileset.proofs.Looking.{memory_blame}
use Rattle.disk_fileset.proofs.Pieces.{length_pieces, taken}
use Rattle.disk_fileset.proofs.giving.patched.Goals as goal

pub returns-in_err-bytes-clause-only : goal.returns-in_err-bytes-clause-only
returns-in_err-bytes-clause-only g c =
    let p = err_from_is_err_and c.from_residual.result c.from_residual.ensures.1 in
    memory_blame c.from_residual.result (g.D.Disk.view (disk_of c.args.log.now)) (p.1 ∙ (λ i. Err (p.2 i)) ∙ (λ i. Err (c.in_err-bytes.ensures.only i)))

pub returns-clause-size : goal.returns-clause-size
returns-clause-size g c =
    let full : length c.read_at.new.out ≡ c.args.span.to - c.args.span.from = c.read_at.auto.out ∙ c.deref_mut.ensures.len ∙ c.in_ok-bytes.ensures.size ∙ c.len.ensures in
    let base = c.from_vec-bytes.ensures ∙ taken c.in_ok-bytes.bytes.len c.read_at.new.out _ (c.read_at.auto.out ∙ c.deref_mut.ensures.len) in
    (λ i. length (c.put_pieces.ensures i)) ∙ length_pieces c.from_vec-bytes.result (shifted c.args.span.from c.args.pieces.now) ∙ (λ i. length (base i)) ∙ full

pub returns-clause-bytes : goal.returns-clause-bytes
returns-clause-bytes g c = λ told.
    (let full : length c.read_at.new.out ≡ c.args.span.to - c.args.span.from = c.read_at.auto.out ∙ c.deref_mut.ensures.len ∙ c.in_ok-bytes.ensures.size ∙ c.len.ensures in
    let base = c.from_vec-bytes.ensures ∙ taken c.in_ok-bytes.bytes.len c.read_at.new.out _ (c.read_at.auto.out ∙ c.deref_mut.ensures.len) in
    record {
      base = c.from_vec-bytes.result;
      size = (λ i. length (base i)) ∙ full;
      same = λ k lt. (λ i. get_or (base i) k 0) ∙ c.in_ok-read_at.ensures.bytes told k (omega (arith, lt, full));
      over = c.put_pieces.ensures;
    })
