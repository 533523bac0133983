use Rattle.std.proofs.Common.{◌≡◌, ◌≤◌, ℕ, List, length, ap, sym, ◌∙◌, subst}
use Rattle.base_types.specs.Spans.{has_byte}
use Rattle.host_cache.specs.Parts.{Parts}
use Rattle.host_cache.proofs.Learning.{kept_bytes, bytes_learnt}
use Rattle.host_cache.proofs.file.File.learn_bytes.Goals as goal

pub lay-requires : goal.lay-requires
lay-requires c =
    let same : c.self.inside.bytes ≡ c.args.self.now.bytes =
    ap (λ (p : Parts). p.bytes) c.self.view_is ∙ ap (λ (p : Parts). p.bytes) c.in_ok-put_told.ensures.ok
    ∙ kept_bytes c.args.token c.args.entries.now c.args.self.now (has_byte c.args.span 0) in
    subst (λ (l : List ℕ). c.args.span.to ≤ length l) (sym same) c.requires.room

pub returns-clause-ok : goal.returns-clause-ok
returns-clause-ok c =
    let s = c.self.inside in
    let mid : Parts = record { tokens = s.tokens.items; status = s.status; entries = s.entries; bytes = s.bytes } in
    bytes_learnt c.args.token c.args.span c.args.pieces.now c.args.entries.now c.args.self.now mid c.lay.new.bytes
    c.requires.kind (c.self.view_is ∙ c.in_ok-put_told.ensures.ok) c.lay.ensures
