use Rattle.std.proofs.Common.{◌≡◌, ◌∙◌, ◌∷◌, [], List, length, get_or, sym, subst, arith}
use Rattle.std.specs.Prelude.{IsTrue}
use Rattle.std.proofs.lemmas.Result.{err_from_is_err_and}
use Rattle.std.proofs.lemmas.List.{length-append}
use Rattle.base_types.specs.declared.access.AccessEntry.{AccessEntry}
use Rattle.disk_lists.proofs.AclLaid.{Stands, Left, stands_none, stands_next, left_first, left_stands, left_step, count_is, read_err, block_of, new_holds, holds_list}
use Rattle.disk_lists.proofs.acl_bytes.list_from.Goals as goal

pub loop-i-init : goal.loop-i-init
loop-i-init c =
    let bytes = c.args.bytes.now in
    let none = c.new-entries.ensures in
    record {
      low = omega arith;
      count = (λ j. length (none j));
      stands = subst (λ (l : List AccessEntry). Stands bytes l 1) (sym none) (stands_none bytes);
      left = λ entries is. subst (λ (l : List AccessEntry). Left bytes entries l 1) (sym none) (left_first bytes entries is);
    }

pub loop-i-preserved : goal.loop-i-preserved
loop-i-preserved c =
    let bytes = c.args.bytes.now in
    let inv = c.loop-i.invariant in
    let push = c.in-Ok.ensures.ok in
    let entry = c.in_ok-entry.entry in
    record {
      low = (let few = c.who_size.ensures.few in let low = inv.low in omega (arith, few, low));
      count = (λ j. length (push j)) ∙ length-append c.loop-i.entries (entry ∷ []) ∙ (let e = inv.count in omega (arith, e));
      stands = stands_next bytes c.loop-i.entries c.push.new.self c.loop-i.at c.who_size.result entry inv.stands c.in_ok-entry.ensures.ok push c.who_size.ensures.size;
      left = λ entries is.
          (let count = inv.count in let test = c.loop-i-test.true in let size = count_is bytes entries is in
          left_step bytes entries c.loop-i.entries c.push.new.self c.loop-i.at c.who_size.result entry (inv.left entries is) (omega (arith, count, test, size)) c.in_ok-entry.ensures.read push c.who_size.ensures.size);
    }

pub returns-in_err-entry-clause-read : goal.returns-in_err-entry-clause-read
returns-in_err-entry-clause-read c = λ entries is.
    let bytes = c.args.bytes.now in
    let inv = c.loop-i.invariant in
    let count = inv.count in
    let test = c.loop-i-test.true in
    let size = count_is bytes entries is in
    let found = left_stands bytes entries c.loop-i.entries c.loop-i.at (inv.left entries is) (omega (arith, count, test, size)) in
    let p = err_from_is_err_and c.from_residual.result c.from_residual.ensures.1 in
    rw (p.1, p.2) (read_err found.0 entries c.in_err-entry.field-0.0 (c.in_err-entry.ensures.read found.0 found.1))

pub returns-clause-ok : goal.returns-clause-ok
returns-clause-ok c =
    let bytes = c.args.bytes.now in
    let inv = c.loop-i.invariant in
    let zero : IsTrue c.is_zero_from.result = (let e = c.if-not-is_zero_from.false in grind (arith, e)) in
    let count : get_or bytes 0 0 ≡ length c.loop-i.entries = (let n = inv.count in let test = c.loop-i-test.false in let end = c.loop-i.auto.i-end in omega (arith, n, test, end)) in
    new_holds c.new.result c.as_slice.result.now c.loop-i.entries (block_of bytes) c.new.ensures.ok c.as_slice.ensures c.new.ensures.bad
    (holds_list bytes c.loop-i.entries c.loop-i.at inv.stands count (c.is_zero_from.ensures.0 zero))
