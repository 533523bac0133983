use Rattle.std.proofs.Common.{List, None, ap, arith, length, subst, ◌∙◌, ◌∷◌, ◌%◌, ◌++◌, [], ℕ}
use Rattle.host_tells.specs.Spoken.{Puts}
use Rattle.host_tells.proofs.Room.{put_fails, puts_then}
use Rattle.message_parts.specs.Spelled.{items}
use Rattle.message_parts.specs.Access.{spell_access_entry}
use Rattle.host_tells.proofs.Room.{last_byte}
use Rattle.host_tells.proofs.Spelled.{access_is}
use Rattle.host_tells.proofs.spelling.put_access.Goals as goal

pub put_entries-requires : goal.put_entries-requires
put_entries-requires c =
    let p = c.in_ok-at.ensures in
    let low = p.1 in
    let same = p.2 in
    omega (arith, low, same)

pub returns-in_err-at : goal.returns-in_err-at
returns-in_err-at c =
    rw c.from_residual.ensures (subst (λ (bytes : List ℕ). Puts bytes c.args.at c.args.out.now c.put_byte.new.out None)
    ((λ i. (length (c.as_slice-entries.ensures.value i) % 256)
    ∷ (items spell_access_entry (c.as_slice-entries.ensures.value i)).bytes)
    ∙ ap (λ (front : List ℕ). front ++ (items spell_access_entry c.args.list.now).bytes) (last_byte (length
    c.args.list.now)) ∙ access_is c.args.list.now)
    (put_fails ((length c.as_slice-entries.result.now % 256) ∷ []) ((items spell_access_entry
    c.as_slice-entries.result.now).bytes) c.args.at c.args.out.now c.put_byte.new.out c.put_byte.new.out
    c.in_err-at.ensures))

pub returns : goal.returns
returns c =
    subst (λ (bytes : List ℕ). Puts bytes c.args.at c.args.out.now c.put_entries.new.out c.put_entries.result)
    ((λ i. (length (c.as_slice-entries.ensures.value i) % 256)
    ∷ (items spell_access_entry (c.as_slice-entries.ensures.value i)).bytes)
    ∙ ap (λ (front : List ℕ). front ++ (items spell_access_entry c.args.list.now).bytes) (last_byte (length
    c.args.list.now)) ∙ access_is c.args.list.now)
    (puts_then ((length c.as_slice-entries.result.now % 256) ∷ []) ((items spell_access_entry
    c.as_slice-entries.result.now).bytes) c.args.at c.args.out.now c.put_byte.new.out c.put_entries.new.out
    c.in_ok-at.at c.put_entries.result c.in_ok-at.ensures c.put_entries.ensures)
