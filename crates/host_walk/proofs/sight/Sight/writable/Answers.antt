use Rattle.std.proofs.Common.{true, ◌≡◌, [], ◌∷◌, subst, sym, ap, ◌∙◌, arith}
use Rattle.token_types.specs.declared.token.Kind.TheVariants.{Bytes}
use Rattle.host_walk.specs.Bytes.{TriesNeeds}
use Rattle.host_walk.specs.Trying.{length_need}
use Rattle.host_walk.specs.Views.{held_by}
use Rattle.host_walk.proofs.Trying.{tries_one}
use Rattle.host_walk.proofs.Writing.{blocks_need, needs_longer, needs_within}
use Rattle.host_walk.proofs.sight.Sight.writable.Goals as goal

pub returns-then-length-to : goal.returns-then-length-to
returns-then-length-to c =
    let blocks = c.bytes_need-blocks.ensures
    ∙ ap (λ s. record { fid = c.args.fid; kind = Bytes true s }) c.bytes_to_write.ensures in
    subst (λ needs. TriesNeeds (held_by c.args.self.now.cache.now) needs c.both.result)
    (ap (λ n. n ∷ c.bytes_need-blocks.result ∷ []) c.length_need.ensures
    ∙ ap (λ n. length_need c.args.fid ∷ n ∷ []) blocks
    ∙ sym (needs_longer c.args.fid c.args.from c.args.to c.args.length (omega arith)))
    c.both.ensures

pub returns : goal.returns
returns c =
    let blocks = c.bytes_need-blocks.ensures
    ∙ ap (λ s. record { fid = c.args.fid; kind = Bytes true s }) c.bytes_to_write.ensures in
    subst (λ needs. TriesNeeds (held_by c.args.self.now.cache.now) needs c.covered.result)
    (ap (λ n. n ∷ []) blocks ∙ sym (needs_within c.args.fid c.args.from c.args.to c.args.length (omega arith)))
    (tries_one c.args.self.now.cache.now c.bytes_need-blocks.result c.covered.result c.covered.ensures)
