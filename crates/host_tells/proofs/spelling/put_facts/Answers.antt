use Rattle.std.proofs.Common.{arith, min, ◌++◌}
use Rattle.host_tells.proofs.Room.{put_fails, puts_then}
use Rattle.need_host.specs.Walks.{rights_on}
use Rattle.host_walk.specs.Views.{nature_told}
use Rattle.message_parts.specs.Places.{spell_rights}
use Rattle.message_parts.specs.Words.{spell_flag, spell_name, spell_u32}
use Rattle.host_tells.proofs.spelling.put_facts.Goals as goal

pub put_sized-requires : goal.put_sized-requires
put_sized-requires c =
    let p = c.in_ok-at.ensures in
    let low = p.1 in
    let same = p.2 in
    omega (arith, low, same)

pub returns-in_err-at : goal.returns-in_err-at
returns-in_err-at c =
    rw c.from_residual.ensures (put_fails ((spell_flag c.args.status.now.dir).bytes) ((spell_u32 (min
    c.args.status.now.length 4294967295)).bytes ++ ((spell_name c.args.status.now.owner).bytes ++ (spell_rights
    (rights_on (nature_told c.args.status.now) c.args.user.now)).bytes)) c.args.at c.args.out.now
    c.put_flag.new.out c.put_flag.new.out
    c.in_err-at.ensures)

pub returns : goal.returns
returns c =
    puts_then ((spell_flag c.args.status.now.dir).bytes) ((spell_u32 (min c.args.status.now.length 4294967295)).bytes
    ++ ((spell_name c.args.status.now.owner).bytes ++ (spell_rights (rights_on (nature_told c.args.status.now)
    c.args.user.now)).bytes)) c.args.at c.args.out.now c.put_flag.new.out c.put_sized.new.out
    c.in_ok-at.at c.put_sized.result c.in_ok-at.ensures c.put_sized.ensures
