use Rattle.std.proofs.Common.{List, None, arith, inl, subst, ◌∷◌, ◌++◌, ◌-◌, [], ℕ}
use Rattle.host_tells.specs.Spoken.{Puts}
use Rattle.host_tells.proofs.Room.{put_fails, puts_then}
use Rattle.host_tables.specs.Tables.{content}
use Rattle.host_walk.specs.Bytes.{bytes_seen}
use Rattle.message_parts.specs.Words.{spell_u32}
use Rattle.host_tells.proofs.Fits.{bytes_spelled}
use Rattle.host_tells.proofs.Spelled.{bytes_told}
use Rattle.host_tells.proofs.at_once.spell_bytes.Goals as goal

pub put_bytes-requires-clause-room : goal.put_bytes-requires-clause-room
put_bytes-requires-clause-room c =
    let p = c.in_ok-at.ensures in
    let low = p.1 in
    let same = p.2 in
    omega (arith, low, same)

pub returns-in_err-at : goal.returns-in_err-at
returns-in_err-at c =
    rw c.from_residual.ensures (inl (subst (λ (bytes : List ℕ). Puts bytes 0 c.args.out.now c.put_byte.new.out None)
    (bytes_told (content c.args.tables.now.cache) c.args.fid c.args.span.from (c.args.span.to - c.args.span.from))
    (put_fails (1 ∷ []) ((spell_u32 (c.args.span.to - c.args.span.from)).bytes ++ bytes_seen (content
    c.args.tables.now.cache) c.args.fid c.args.span.from (c.args.span.to - c.args.span.from)) 0 c.args.out.now
    c.put_byte.new.out c.put_byte.new.out
    c.in_err-at.ensures)))

pub returns : goal.returns
returns c =
    let bytes = bytes_seen (content c.args.tables.now.cache) c.args.fid c.args.span.from
    (c.args.span.to - c.args.span.from) in
    bytes_spelled bytes c.args.out.now c.put_bytes.new.out c.put_bytes.result
    (subst (λ (bytes : List ℕ). Puts bytes 0 c.args.out.now c.put_bytes.new.out c.put_bytes.result)
    (bytes_told (content c.args.tables.now.cache) c.args.fid c.args.span.from (c.args.span.to - c.args.span.from))
    (puts_then (1 ∷ []) ((spell_u32 (c.args.span.to - c.args.span.from)).bytes ++ bytes_seen (content
    c.args.tables.now.cache) c.args.fid c.args.span.from (c.args.span.to - c.args.span.from)) 0 c.args.out.now
    c.put_byte.new.out c.put_bytes.new.out
    c.in_ok-at.at c.put_bytes.result c.in_ok-at.ensures c.put_bytes.ensures.puts)) c.put_bytes.ensures.fits

pub put_bytes-requires-clause-covered : goal.put_bytes-requires-clause-covered
put_bytes-requires-clause-covered c = c.requires
