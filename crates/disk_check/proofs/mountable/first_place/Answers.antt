use Rattle.std.proofs.Common.{◌≡◌, ◌∙◌, [], ap, sym, get_or}
use Rattle.std.specs.Prelude.{true, false, Some}
use Rattle.disk_image.specs.Refused.{are_worn, is_worn}
use Rattle.disk_judge.specs.Metadata.{over}
use Rattle.disk_pages.specs.Server.{server_of}
use Rattle.disk_check.proofs.Refusing.{at_fault, at_header, at_log, at_facts, facts_worn}
use Rattle.disk_check.proofs.mountable.first_place.Goals as goal

pub returns-in-Some : goal.returns-in-Some
returns-in-Some c = λ image half gen are. sym (at_fault c.args.servers half (over c.args.metadata.now image) c.in-Some.fault (sym c.in-Some.is ∙ are))

pub returns-in-Some-undeclared : goal.returns-in-Some-undeclared
returns-in-Some-undeclared c = λ image half gen are.
    sym (at_header c.args.servers half (over c.args.metadata.now image) (sym c.in_default.is ∙ are) c.in-Some-undeclared.place (sym c.in-Some-undeclared.is ∙ c.undeclared.ensures image))

pub returns-then-is_worn : goal.returns-then-is_worn
returns-then-is_worn c = λ image half gen are.
    sym (at_log c.args.servers half (over c.args.metadata.now image) (sym c.in_default.is ∙ are) (sym c.in_default-undeclared.is ∙ c.undeclared.ensures image) (ap is_worn gen ∙ sym c.is_worn.ensures ∙ c.if-is_worn.true))

pub returns-then-are_worn : goal.returns-then-are_worn
returns-then-are_worn c = λ image half gen are.
    (let facts : are_worn (server_of (get_or c.args.metadata.now.pages.items 0 [])) ≡ true = facts_worn _ _ c.page.ensures _ c.server_of.ensures _ c.are_worn.ensures ∙ c.if-are_worn.true in
    ap Some c.page_place.ensures
    ∙ sym (at_facts c.args.servers half (over c.args.metadata.now image) (sym c.in_default.is ∙ are) (sym c.in_default-undeclared.is ∙ c.undeclared.ensures image) (ap is_worn gen ∙ sym c.is_worn.ensures ∙ c.if-is_worn.false) true facts))

pub returns : goal.returns
returns c = λ image half gen are.
    (let facts : are_worn (server_of (get_or c.args.metadata.now.pages.items 0 [])) ≡ false = facts_worn _ _ c.page.ensures _ c.server_of.ensures _ c.are_worn.ensures ∙ c.if-are_worn.false in
    sym (at_facts c.args.servers half (over c.args.metadata.now image) (sym c.in_default.is ∙ are) (sym c.in_default-undeclared.is ∙ c.undeclared.ensures image) (ap is_worn gen ∙ sym c.is_worn.ensures ∙ c.if-is_worn.false) false facts))
