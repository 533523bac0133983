use Rattle.std.proofs.Common.{List, ap, arith, subst, ◌++◌, ℕ}
use Rattle.host_tells.specs.Spoken.{Puts}
use Rattle.host_tells.proofs.Room.{put_fails, puts_then}
use Rattle.need_host.specs.Walks.{rights_on}
use Rattle.host_walk.specs.Views.{nature_told}
use Rattle.message_parts.specs.Places.{spell_rights}
use Rattle.message_parts.specs.Words.{spell_name}
use Rattle.host_tells.proofs.spelling.put_owned.Goals as goal

pub put_rights-requires : goal.put_rights-requires
put_rights-requires c =
    let p = c.in_ok-at.ensures in
    let low = p.1 in
    let same = p.2 in
    omega (arith, low, same)

pub returns-in_err-at : goal.returns-in_err-at
returns-in_err-at c =
    rw c.from_residual.ensures (put_fails ((spell_name c.args.status.now.owner).bytes)
    ((spell_rights (rights_on (nature_told c.args.status.now) c.args.user.now)).bytes) c.args.at c.args.out.now
    c.put_name.new.out c.put_name.new.out c.in_err-at.ensures)

pub returns : goal.returns
returns c =
    subst (λ (bytes : List ℕ). Puts bytes c.args.at c.args.out.now c.put_rights.new.out c.put_rights.result) (ap (λ (r
    : ℕ). (spell_name c.args.status.now.owner).bytes ++ (spell_rights r).bytes) c.rights_on.ensures)
    (puts_then ((spell_name c.args.status.now.owner).bytes) ((spell_rights c.rights_on.result).bytes) c.args.at
    c.args.out.now c.put_name.new.out c.put_rights.new.out c.in_ok-at.at c.put_rights.result
    c.in_ok-at.ensures c.put_rights.ensures)
