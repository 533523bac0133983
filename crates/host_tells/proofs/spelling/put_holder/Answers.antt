use Rattle.std.proofs.Common.{arith}
use Rattle.host_tells.proofs.Room.{put_fails, puts_then}
use Rattle.message_parts.specs.Access.{spell_who_name}
use Rattle.message_parts.specs.Places.{spell_rights}
use Rattle.host_tells.proofs.spelling.put_holder.Goals as goal

pub put_rights-requires : goal.put_rights-requires
put_rights-requires c =
    let p = c.in_ok-at.ensures in
    let low = p.1 in
    let same = p.2 in
    omega (arith, low, same)

pub returns-in_err-at : goal.returns-in_err-at
returns-in_err-at c =
    rw c.from_residual.ensures (put_fails ((spell_who_name c.args.entry.now.who).bytes) ((spell_rights
    c.args.entry.now.rights).bytes) c.args.at c.args.out.now c.put_who.new.out c.put_who.new.out
    c.in_err-at.ensures)

pub returns : goal.returns
returns c =
    puts_then ((spell_who_name c.args.entry.now.who).bytes) ((spell_rights c.args.entry.now.rights).bytes) c.args.at
    c.args.out.now c.put_who.new.out c.put_rights.new.out c.in_ok-at.at c.put_rights.result
    c.in_ok-at.ensures c.put_rights.ensures
