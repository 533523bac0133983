use Rattle.std.proofs.Common.{◌≡◌, ◌∙◌, ◌<◌, length, get_or, sym, ap, subst, arith, Option, Some, None}
use Rattle.std.specs.Prelude.{IfSome}
use Rattle.std.proofs.lemmas.List.{get_or_read}
use Rattle.disk_classes.specs.declared.member.Noted.{Noted as Kept}
use Rattle.disk_classes.specs.declared.members.Value.{Value}
use Rattle.disk_classes.proofs.Ended.{read_at}
use Rattle.disk_classes.proofs.members.Members.join_page.Goals as goal

pub join_smaller-requires-clause-one : goal.join_smaller-requires-clause-one
join_smaller-requires-clause-one c =
    let e = ap (λ (n : Kept). n.class) (read_at c.args.self.now.noted c.args.member c.get-2.result.now c.requires.member c.get-2.ensures) in
    let lt = c.requires.classes c.args.member c.requires.member in
    omega (arith, e, lt)

pub join_smaller-requires-clause-other : goal.join_smaller-requires-clause-other
join_smaller-requires-clause-other c =
    let is : get_or c.args.self.now.values c.args.page None ≡ Some c.in-Some.value = sym (get_or_read c.args.self.now.values c.args.page c.get.result.now c.requires.page c.get.ensures None) ∙ c.in-Some.is in
    let within : c.in-Some.value.member < length c.args.self.now.noted = subst (λ (o : Option Value). IfSome o (λ (value : Value). value.member < length c.args.self.now.noted)) is (c.requires.values c.args.page) in
    let e = ap (λ (n : Kept). n.class) (read_at c.args.self.now.noted c.in-Some.value.member c.get-3.result.now within c.get-3.ensures) in
    let lt = c.requires.classes c.in-Some.value.member within in
    omega (arith, e, lt)
