use Rattle.std.proofs.Common.{List, None, ap, arith, length, subst, ◌∙◌, ◌%◌, ◌++◌, ℕ}
use Rattle.host_tells.specs.Spoken.{Puts}
use Rattle.host_tells.proofs.Room.{put_fails, puts_then}
use Rattle.message_parts.specs.Spelled.{big_endian, items}
use Rattle.message_parts.specs.Words.{spell_name}
use Rattle.tree_objects.specs.Entries.{names_of}
use Rattle.host_tells.proofs.Room.{last_bytes}
use Rattle.host_tells.proofs.Spelled.{names_are}
use Rattle.host_tells.proofs.spelling.put_names.Goals as goal

pub put_each-requires : goal.put_each-requires
put_each-requires c =
    let p = c.in_ok-at.ensures in
    let low = p.1 in
    let same = p.2 in
    omega (arith, low, same)

pub returns-in_err-at : goal.returns-in_err-at
returns-in_err-at c =
    rw c.from_residual.ensures (subst (λ (bytes : List ℕ). Puts bytes c.args.at c.args.out.now c.put_short.new.out
    None) (ap (λ (front : List ℕ). front ++ (items spell_name (names_of c.args.entries.now)).bytes)
    (last_bytes (length c.args.entries.now)) ∙ names_are c.args.entries.now)
    (put_fails (big_endian 2 ((length c.args.entries.now) % 65536)) ((items spell_name (names_of
    c.args.entries.now)).bytes) c.args.at c.args.out.now c.put_short.new.out c.put_short.new.out
    c.in_err-at.ensures))

pub returns : goal.returns
returns c =
    subst (λ (bytes : List ℕ). Puts bytes c.args.at c.args.out.now c.put_each.new.out c.put_each.result) (ap (λ (front
    : List ℕ). front ++ (items spell_name (names_of c.args.entries.now)).bytes)
    (last_bytes (length c.args.entries.now)) ∙ names_are c.args.entries.now)
    (puts_then (big_endian 2 ((length c.args.entries.now) % 65536)) ((items spell_name (names_of
    c.args.entries.now)).bytes) c.args.at c.args.out.now c.put_short.new.out c.put_each.new.out c.in_ok-at.at
    c.put_each.result
    c.in_ok-at.ensures c.put_each.ensures)
