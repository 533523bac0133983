use Rattle.std.proofs.Common.{List, None, Some, arith, subst, ◌∙◌, ap, ℕ}
use Rattle.std.specs.List.{flat_map}
use Rattle.base_types.specs.declared.access.AccessEntry.{AccessEntry}
use Rattle.host_tells.specs.Spoken.{Puts}
use Rattle.host_tells.proofs.Room.{each_fails, each_then, puts_none}
use Rattle.message_parts.specs.Access.{spell_access_entry}
use Rattle.host_tells.proofs.Spelled.{entries_each}
use Rattle.host_tells.proofs.Room.{take_all}
use Rattle.host_tells.proofs.spelling.put_entries.Goals as goal

pub loop-entry-init : goal.loop-entry-init
loop-entry-init c =
    puts_none c.args.at c.args.out.now c.requires

pub put_entry-requires : goal.put_entry-requires
put_entry-requires c =
    let p = c.loop-entry.invariant in
    let low = p.1 in
    let same = p.2 in
    omega (arith, low, same)

pub returns-in_err-end : goal.returns-in_err-end
returns-in_err-end c =
    rw c.from_residual.ensures (subst (λ (bytes : List ℕ). Puts bytes c.args.at c.args.out.now c.put_entry.new.out
    None) (entries_each c.args.entries.now)
    (each_fails (λ (entry : AccessEntry). (spell_access_entry entry).bytes) c.args.entries.now
    c.loop-entry.entry-index c.entry-item.result c.loop-entry-test.true c.entry-item.is
    c.args.at c.args.out.now c.loop-entry.out c.put_entry.new.out c.loop-entry.end c.loop-entry.invariant
    c.in_err-end.ensures))

pub loop-entry-preserved : goal.loop-entry-preserved
loop-entry-preserved c =
    each_then (λ (entry : AccessEntry). (spell_access_entry entry).bytes) c.args.entries.now c.loop-entry.entry-index
    c.entry-item.result c.loop-entry-test.true c.entry-item.is
    c.args.at c.args.out.now c.loop-entry.out c.put_entry.new.out c.loop-entry.end c.loop-entry.invariant (Some
    c.in_ok-end.end)
    c.in_ok-end.ensures

pub returns : goal.returns
returns c =
    subst (λ (bytes : List ℕ). Puts bytes c.args.at c.args.out.now c.loop-entry.out (Some c.loop-entry.end))
    (ap (flat_map (λ (entry : AccessEntry). (spell_access_entry entry).bytes)) (take_all c.args.entries.now
    c.loop-entry.entry-index c.loop-entry-test.false) ∙ entries_each c.args.entries.now)
    c.loop-entry.invariant
