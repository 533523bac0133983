use Rattle.std.proofs.Common.{subst}
use Rattle.base_types.specs.declared.ids.Fid.{Fid}
use Rattle.host_cache.specs.Holding.{tokens_of, AreAlike, AreAlikeFor}
use Rattle.host_cache.specs.Files.{file_key}
use Rattle.host_cache.specs.Seen.{of_key}
use Rattle.host_cache.proofs.Alike.{alike_held, one_fid}
use Rattle.host_cache.proofs.cache.Cache.is_alike_at.Goals as goal

pub returns-then-eq : goal.returns-then-eq
returns-then-eq c = λ yes.
    let one = c.args.one.now in
    let other = c.args.other.now in
    let held = c.args.self.now.held in
    let own : AreAlikeFor one.kind other.kind (tokens_of (of_key (file_key one.fid) held)) =
    subst (AreAlikeFor one.kind other.kind) c.tokens_at.ensures (c.are_alike_for.ensures yes) in
    subst (λ (f : Fid). AreAlike one (record { fid = f; kind = other.kind }) held)
    (one_fid one.fid other.fid c.if-eq.ensures)
    (alike_held one.fid one.kind other.kind held own)
