use Rattle.std.proofs.Common.{List, None, ap, arith, subst, ◌++◌, ◌-◌, ℕ}
use Rattle.host_tells.specs.Spoken.{Puts}
use Rattle.host_tells.proofs.Room.{put_fails, puts_then}
use Rattle.host_tables.specs.Tables.{content}
use Rattle.host_walk.specs.Bytes.{bytes_seen}
use Rattle.message_parts.specs.Words.{spell_u32}
use Rattle.host_tells.proofs.Fits.{small_fits}
use Rattle.host_tells.proofs.Spelled.{seen_length}
use Rattle.host_tells.proofs.at_once.put_bytes.Goals as goal

pub put_content-requires-clause-room : goal.put_content-requires-clause-room
put_content-requires-clause-room c =
    let p = c.in_ok-at.ensures in
    let low = p.1 in
    let same = p.2 in
    omega (arith, low, same)

pub returns-in_err-at-clause-puts : goal.returns-in_err-at-clause-puts
returns-in_err-at-clause-puts c =
    rw c.from_residual.ensures (subst (λ (bytes : List ℕ). Puts bytes c.args.at c.args.out.now c.put_number.new.out
    None)
    (ap (λ (n : ℕ). (spell_u32 n).bytes ++ bytes_seen (content c.args.tables.now.cache) c.args.fid c.args.span.from
    (c.args.span.to - c.args.span.from)) c.len.ensures)
    (put_fails ((spell_u32 c.len.result).bytes) (bytes_seen (content c.args.tables.now.cache) c.args.fid
    c.args.span.from (c.args.span.to - c.args.span.from)) c.args.at c.args.out.now c.put_number.new.out
    c.put_number.new.out
    c.in_err-at.ensures))

pub returns-clause-puts : goal.returns-clause-puts
returns-clause-puts c =
    subst (λ (bytes : List ℕ). Puts bytes c.args.at c.args.out.now c.put_content.new.out c.put_content.result)
    (ap (λ (n : ℕ). (spell_u32 n).bytes ++ bytes_seen (content c.args.tables.now.cache) c.args.fid c.args.span.from
    (c.args.span.to - c.args.span.from)) c.len.ensures)
    (puts_then ((spell_u32 c.len.result).bytes) (bytes_seen (content c.args.tables.now.cache) c.args.fid
    c.args.span.from (c.args.span.to - c.args.span.from)) c.args.at c.args.out.now c.put_number.new.out
    c.put_content.new.out
    c.in_ok-at.at c.put_content.result c.in_ok-at.ensures c.put_content.ensures.puts)

pub put_content-requires-clause-covered : goal.put_content-requires-clause-covered
put_content-requires-clause-covered c = c.requires.covered

pub returns-in_err-at-clause-fits : goal.returns-in_err-at-clause-fits
returns-in_err-at-clause-fits c = rw c.from_residual.ensures tt

pub returns-clause-fits : goal.returns-clause-fits
returns-clause-fits c =
    let n = c.args.span.to - c.args.span.from in
    let bytes = bytes_seen (content c.args.tables.now.cache) c.args.fid c.args.span.from n in
    let long = seen_length (content c.args.tables.now.cache) c.args.fid c.args.span.from n in
    let is = c.len.ensures in
    let low = c.len.type_inv in
    small_fits bytes (omega (arith, long, is, low)) c.put_content.result c.put_content.ensures.small
