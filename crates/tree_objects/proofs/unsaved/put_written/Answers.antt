use Rattle.std.proofs.Common.{◌≡◌, ◌≤◌, ◌+◌, length, set, get_or, sym, subst, ap, ◌∙◌, arith}
use Rattle.std.proofs.lemmas.Result.{on_ok_weaker}
use Rattle.tree_objects.specs.Cuts.{IsCut}
use Rattle.tree_objects.specs.Stretches.{written_in}
use Rattle.tree_objects.proofs.Observed.{and_left}
use Rattle.tree_objects.proofs.Cuts.{cut_later}
use Rattle.tree_objects.proofs.Taken.{Lone, lone_inside, lone_of, taken_bytes, taken_each}
use Rattle.tree_objects.proofs.unsaved.put_written.Goals as goal

pub get_mut-requires : goal.get_mut-requires
get_mut-requires c =
    let ss = c.as_slice-list.result.now in
    let inside = (lone_inside ss c.cut_at-near.result.from c.cut_at-near.result.to _ c.cut_at-near.ensures.ordered
    c.cut_at-near.ensures.inside (sym c.takes.ensures ∙ c.if-takes.true)).1 in
    let long = ap length c.as_slice-list.ensures in
    omega (arith, inside, long)

pub write_in-requires-clause-begun : goal.write_in-requires-clause-begun
write_in-requires-clause-begun c =
    let ss = c.as_slice-list.result.now in let x = c.get_mut.result.now in let i = c.cut_at-near.result.from in
    let lone = lone_of ss c.args.host c.args.from _ i c.cut_at-near.result.to x c.cut_at-near.ensures.ordered
    c.cut_at-near.ensures.inside (sym c.takes.ensures ∙ c.if-takes.true) in
    let is : x ≡ get_or ss i x = c.get_mut.ensures.value ∙ ap (λ xs. get_or xs i x) (sym c.as_slice-list.ensures) in
    subst (λ s. s.from ≤ c.args.from) (sym is) lone.begun

pub write_in-requires-clause-reached : goal.write_in-requires-clause-reached
write_in-requires-clause-reached c =
    let ss = c.as_slice-list.result.now in let x = c.get_mut.result.now in let i = c.cut_at-near.result.from in
    let lone = lone_of ss c.args.host c.args.from _ i c.cut_at-near.result.to x c.cut_at-near.ensures.ordered
    c.cut_at-near.ensures.inside (sym c.takes.ensures ∙ c.if-takes.true) in
    let is : x ≡ get_or ss i x = c.get_mut.ensures.value ∙ ap (λ xs. get_or xs i x) (sym c.as_slice-list.ensures) in
    subst (λ s. c.args.from ≤ s.from + length s.bytes) (sym is) lone.reached

pub returns-then-takes-clause-ok : goal.returns-then-takes-clause-ok
returns-then-takes-clause-ok c =
    let host = c.args.host in let from = c.args.from in let bytes = c.args.bytes.now in let i =
    c.cut_at-near.result.from in let k = c.cut_at-near.result.to in
    let ss = c.args.stretches.now in let x = c.get_mut.result.now in
    let lone : Lone ss host from i k x = subst (λ xs. Lone xs host from i k x) c.as_slice-list.ensures
    (lone_of c.as_slice-list.result.now host from _ i k x c.cut_at-near.ensures.ordered c.cut_at-near.ensures.inside
    (sym c.takes.ensures ∙ c.if-takes.true)) in
    let low : c.saturating_sub.result ≤ from = omega (arith, c.saturating_sub.ensures) in
    let cut : IsCut ss from (from + length bytes) i k
    = cut_later ss c.saturating_sub.result from (from + length bytes) i k low
    (subst (λ xs. IsCut xs c.saturating_sub.result (from + length bytes) i k) c.as_slice-list.ensures
    c.cut_at-near.ensures) in
    on_ok_weaker c.write_in.result (λ put. taken_bytes ss _ host from bytes i k x cut lone
    (ap (λ s. set ss i s) (put ∙ ap (λ s. written_in s from bytes) c.get_mut.ensures.value))) c.write_in.ensures.ok

pub returns-then-takes-clause-each : goal.returns-then-takes-clause-each
returns-then-takes-clause-each c =
    let host = c.args.host in let from = c.args.from in let bytes = c.args.bytes.now in let i =
    c.cut_at-near.result.from in let k = c.cut_at-near.result.to in
    let ss = c.args.stretches.now in let x = c.get_mut.result.now in
    let lone : Lone ss host from i k x = subst (λ xs. Lone xs host from i k x) c.as_slice-list.ensures
    (lone_of c.as_slice-list.result.now host from _ i k x c.cut_at-near.ensures.ordered c.cut_at-near.ensures.inside
    (sym c.takes.ensures ∙ c.if-takes.true)) in
    on_ok_weaker c.write_in.result (λ put. taken_each ss _ host from bytes i k x (and_left _ _ c.requires.stand)
    c.requires.within lone
    (ap (λ s. set ss i s) (put ∙ ap (λ s. written_in s from bytes) c.get_mut.ensures.value))) c.write_in.ensures.ok
