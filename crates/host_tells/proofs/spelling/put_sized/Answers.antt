use Rattle.std.proofs.Common.{List, None, ap, arith, subst, ◌++◌, ℕ}
use Rattle.host_tells.specs.Spoken.{Puts}
use Rattle.host_tells.proofs.Room.{put_fails, puts_then}
use Rattle.need_host.specs.Walks.{rights_on}
use Rattle.host_walk.specs.Views.{nature_told}
use Rattle.message_parts.specs.Places.{spell_rights}
use Rattle.message_parts.specs.Words.{spell_name, spell_u32}
use Rattle.host_tells.proofs.Spelled.{long_min}
use Rattle.host_tells.proofs.spelling.put_sized.Goals as goal

pub put_owned-requires : goal.put_owned-requires
put_owned-requires c =
    let p = c.in_ok-at.ensures in
    let low = p.1 in
    let same = p.2 in
    omega (arith, low, same)

pub returns-in_err-at : goal.returns-in_err-at
returns-in_err-at c =
    rw c.from_residual.ensures (subst (λ (bytes : List ℕ). Puts bytes c.args.at c.args.out.now c.put_number.new.out
    None)
    (ap (λ (n : ℕ). (spell_u32 n).bytes ++ ((spell_name c.args.status.now.owner).bytes ++ (spell_rights (rights_on
    (nature_told c.args.status.now) c.args.user.now)).bytes))
    (long_min c.length_of.result c.args.status.now.length c.length_of.ensures c.length_of.type_inv))
    (put_fails ((spell_u32 c.length_of.result).bytes) ((spell_name c.args.status.now.owner).bytes ++ (spell_rights
    (rights_on (nature_told c.args.status.now) c.args.user.now)).bytes) c.args.at c.args.out.now
    c.put_number.new.out c.put_number.new.out
    c.in_err-at.ensures))

pub returns : goal.returns
returns c =
    subst (λ (bytes : List ℕ). Puts bytes c.args.at c.args.out.now c.put_owned.new.out c.put_owned.result)
    (ap (λ (n : ℕ). (spell_u32 n).bytes ++ ((spell_name c.args.status.now.owner).bytes ++ (spell_rights (rights_on
    (nature_told c.args.status.now) c.args.user.now)).bytes))
    (long_min c.length_of.result c.args.status.now.length c.length_of.ensures c.length_of.type_inv))
    (puts_then ((spell_u32 c.length_of.result).bytes) ((spell_name c.args.status.now.owner).bytes ++ (spell_rights
    (rights_on (nature_told c.args.status.now) c.args.user.now)).bytes) c.args.at c.args.out.now
    c.put_number.new.out c.put_owned.new.out
    c.in_ok-at.at c.put_owned.result c.in_ok-at.ensures c.put_owned.ensures)
