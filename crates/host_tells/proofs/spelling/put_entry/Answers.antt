use Rattle.std.proofs.Common.{List, None, ap, arith, subst, ◌∙◌, ◌∷◌, ◌++◌, [], ℕ}
use Rattle.host_tells.specs.Spoken.{Puts}
use Rattle.host_tells.proofs.Room.{put_fails, puts_then}
use Rattle.message_parts.specs.Access.{spell_who_name, who_tag}
use Rattle.message_parts.specs.Places.{spell_rights}
use Rattle.host_tells.proofs.Room.{byte_is}
use Rattle.host_tells.proofs.Spelled.{entry_is}
use Rattle.host_tells.proofs.spelling.put_entry.Goals as goal

pub put_holder-requires : goal.put_holder-requires
put_holder-requires c =
    let p = c.in_ok-at.ensures in
    let low = p.1 in
    let same = p.2 in
    omega (arith, low, same)

pub returns-in_err-at : goal.returns-in_err-at
returns-in_err-at c =
    rw c.from_residual.ensures (subst (λ (bytes : List ℕ). Puts bytes c.args.at c.args.out.now c.put_byte.new.out None)
    (ap (λ (front : List ℕ). front ++ ((spell_who_name c.args.entry.now.who).bytes ++ (spell_rights
    c.args.entry.now.rights).bytes)) (ap (λ t. t ∷ []) c.tag_of.ensures
    ∙ byte_is (who_tag c.args.entry.now.who) (omega (arith, c.tag_of.ensures, c.tag_of.type_inv)))
    ∙ entry_is c.args.entry.now)
    (put_fails (c.tag_of.result ∷ []) ((spell_who_name c.args.entry.now.who).bytes ++ (spell_rights
    c.args.entry.now.rights).bytes) c.args.at c.args.out.now c.put_byte.new.out c.put_byte.new.out
    c.in_err-at.ensures))

pub returns : goal.returns
returns c =
    subst (λ (bytes : List ℕ). Puts bytes c.args.at c.args.out.now c.put_holder.new.out c.put_holder.result)
    (ap (λ (front : List ℕ). front ++ ((spell_who_name c.args.entry.now.who).bytes ++ (spell_rights
    c.args.entry.now.rights).bytes)) (ap (λ t. t ∷ []) c.tag_of.ensures
    ∙ byte_is (who_tag c.args.entry.now.who) (omega (arith, c.tag_of.ensures, c.tag_of.type_inv)))
    ∙ entry_is c.args.entry.now)
    (puts_then (c.tag_of.result ∷ []) ((spell_who_name c.args.entry.now.who).bytes ++ (spell_rights
    c.args.entry.now.rights).bytes) c.args.at c.args.out.now c.put_byte.new.out c.put_holder.new.out
    c.in_ok-at.at c.put_holder.result c.in_ok-at.ensures c.put_holder.ensures)
