use Rattle.std.proofs.Common.{List, None, Some, arith, subst, ◌∙◌, ap, ℕ}
use Rattle.std.specs.List.{flat_map}
use Rattle.tree_calls.specs.declared.part.DirEntry.{DirEntry}
use Rattle.host_tells.specs.Spoken.{Puts}
use Rattle.host_tells.proofs.Room.{each_fails, each_then, puts_none}
use Rattle.message_parts.specs.Words.{spell_name}
use Rattle.host_tells.proofs.Spelled.{names_each}
use Rattle.host_tells.proofs.Room.{take_all}
use Rattle.host_tells.proofs.spelling.put_each.Goals as goal

pub loop-entry-init : goal.loop-entry-init
loop-entry-init c =
    puts_none c.args.at c.args.out.now c.requires

pub put_name-requires : goal.put_name-requires
put_name-requires c =
    let p = c.loop-entry.invariant in
    let low = p.1 in
    let same = p.2 in
    omega (arith, low, same)

pub returns-in_err-end : goal.returns-in_err-end
returns-in_err-end c =
    rw c.from_residual.ensures (subst (λ (bytes : List ℕ). Puts bytes c.args.at c.args.out.now c.put_name.new.out
    None) (names_each c.args.entries.now)
    (each_fails (λ (entry : DirEntry). (spell_name entry.name).bytes) c.args.entries.now c.loop-entry.entry-index
    c.entry-item.result c.loop-entry-test.true c.entry-item.is
    c.args.at c.args.out.now c.loop-entry.out c.put_name.new.out c.loop-entry.end c.loop-entry.invariant
    c.in_err-end.ensures))

pub loop-entry-preserved : goal.loop-entry-preserved
loop-entry-preserved c =
    each_then (λ (entry : DirEntry). (spell_name entry.name).bytes) c.args.entries.now c.loop-entry.entry-index
    c.entry-item.result c.loop-entry-test.true c.entry-item.is
    c.args.at c.args.out.now c.loop-entry.out c.put_name.new.out c.loop-entry.end c.loop-entry.invariant (Some
    c.in_ok-end.end)
    c.in_ok-end.ensures

pub returns : goal.returns
returns c =
    subst (λ (bytes : List ℕ). Puts bytes c.args.at c.args.out.now c.loop-entry.out (Some c.loop-entry.end))
    (ap (flat_map (λ (entry : DirEntry). (spell_name entry.name).bytes)) (take_all c.args.entries.now
    c.loop-entry.entry-index c.loop-entry-test.false) ∙ names_each c.args.entries.now)
    c.loop-entry.invariant
