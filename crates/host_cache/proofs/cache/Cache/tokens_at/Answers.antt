use Rattle.std.proofs.Common.{ap, sym, ◌∙◌}
use Rattle.host_cache.specs.Holding.{tokens_of}
use Rattle.host_cache.specs.Files.{file_key}
use Rattle.host_cache.specs.Parts.{Parts}
use Rattle.host_cache.specs.Seen.{Kept, of_key}
use Rattle.host_cache.proofs.Filing.{found_at, absent_at}
use Rattle.host_cache.proofs.cache.Cache.tokens_at.Goals as goal

pub returns-in-Some : goal.returns-in-Some
returns-in-Some c =
    let s = c.self.inside in
    let h = found_at s.files.entries (file_key c.args.fid) c.file_key.result c.file_key.ensures c.in-Some.file.now
    c.in-Some.ensures.value in
    c.tokens.ensures ∙ ap (λ (p : Parts). p.tokens) (sym h) ∙ c.self.invariant.tokens (file_key c.args.fid)
    ∙ ap (λ (k : Kept). tokens_of (of_key (file_key c.args.fid) k.held)) c.self.view_is

pub returns-in-None : goal.returns-in-None
returns-in-None c =
    let s = c.self.inside in
    let h = absent_at s.files.entries (file_key c.args.fid) c.file_key.result c.file_key.ensures
    c.in-None.ensures.value in
    ap (λ (p : Parts). p.tokens) (sym h) ∙ c.self.invariant.tokens (file_key c.args.fid)
    ∙ ap (λ (k : Kept). tokens_of (of_key (file_key c.args.fid) k.held)) c.self.view_is
