use Rattle.std.proofs.Common.{sym, ◌∙◌, subst}
use Rattle.host_cache.specs.Files.{file_key, HasRoom}
use Rattle.host_cache.specs.Parts.{Parts}
use Rattle.host_cache.proofs.Filing.{lent_at, found_at, put_elsewhere, put_same, on_err_then}
use Rattle.host_cache.proofs.cache.learn.Goals as goal

pub learn-requires-clause-room : goal.learn-requires-clause-room
learn-requires-clause-room c =
    let h = found_at c.args.files.now.entries (file_key c.args.token.fid) c.file_key.result c.file_key.ensures
    c.in-Some.file.now c.in-Some.ensures.value in
    subst (λ (p : Parts). HasRoom c.args.token.kind p.bytes) h c.requires.room

pub returns-in-Some-clause-others : goal.returns-in-Some-clause-others
returns-in-Some-clause-others c =
    let old = c.args.files.now.entries in
    let key = file_key c.args.token.fid in
    let w = c.learn.new.self in
    let new = (c.get_mut.follows.lender w).entries in
    let h = lent_at old key c.file_key.result c.file_key.ensures new c.in-Some.file.now w c.in-Some.ensures.value
    (λ some. ((c.get_mut.follows.holds w).3 some).0) in
    put_elsewhere old new key w h.0

pub returns-in-Some-clause-err : goal.returns-in-Some-clause-err
returns-in-Some-clause-err c =
    let old = c.args.files.now.entries in
    let key = file_key c.args.token.fid in
    let w = c.learn.new.self in
    let new = (c.get_mut.follows.lender w).entries in
    let h = lent_at old key c.file_key.result c.file_key.ensures new c.in-Some.file.now w c.in-Some.ensures.value
    (λ some. ((c.get_mut.follows.holds w).3 some).0) in
    on_err_then c.learn.result c.learn.ensures.err (λ same. put_same old new key w h.0 (same ∙ sym h.1))
