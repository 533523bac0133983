use Rattle.std.proofs.Common.{◌≡◌, ◌++◌, ◌∙◌, ◌∷◌, List, [], ap, subst, sym}
use Rattle.std.specs.Prelude.{IfOk, OnOk}
use Rattle.base_types.specs.declared.ids.HostId.{HostId}
use Rattle.host_manager.specs.Spoken.{tables_of}
use Rattle.host_node.proofs.Calls.{answered_then, asked_then, none_told, running, still_free}
use Rattle.host_node.proofs.Turns.{next_below}
use Rattle.host_node.specs.Between.{Holds}
use Rattle.hub_node.specs.Lines.{LinesView}
use Rattle.run_rules.specs.Past.{appended}
use Rattle.script_lines.specs.declared.script.Line.{Line}
use Rattle.hub_laws.specs.Keeping.{steps_in}
use Rattle.host_node.proofs.host.HostNode.call.Goals as goal

pub go-requires : goal.go-requires
go-requires c = next_below c.args.self.now.lines c.requires.can.line c.requires.can.next

pub answer_into-requires : goal.answer_into-requires
answer_into-requires c = c.requires.can.free

pub returns-in-Some-answer_into : goal.returns-in-Some-answer_into
returns-in-Some-answer_into c = λ part past made st.
    let n = c.args.self.now in
    let can = c.requires.can in
    let call = c.args.call.now in
    let own = appended (made ++ st.waiting) (steps_in past) in
    rw c.go.ensures (answered_then part n past made st call can c.answer_into.new.self c.answer_into.new.out
    c.in-Some-answer_into.count
    (c.in-Some-answer_into.ensures part.run.script own (running part n past made st call can)) c.note-noted.new.self
    c.answered.result c.note-noted.result c.answered.ensures.noted c.answered.ensures.count c.begun.result
    c.begun.ensures
    (λ said host steps is place_is k_is bytes holds.
    c.note-noted.ensures n.lines.lines said host steps is (place_is ∙ sym c.gone-place.ensures) k_is bytes holds))

pub call-made-requires : goal.call-made-requires
call-made-requires c =
    let st = c.requires.stands in
    let part = st.0 in let past = st.1.0 in let made = st.1.1.0 in let stands = st.1.1.1 in
    let n = c.args.self.now in
    let can = c.requires.can in
    let call = c.args.call.now in
    still_free part n past made stands call can (tables_of c.answer_into.new.self)
    (none_told c.answer_into.result (tables_of c.answer_into.new.self ≡ tables_of n.manager) _ _
    c.in_default-answer_into.not-Some
    (c.answer_into.ensures part.run.script (appended (made ++ stands.waiting) (steps_in past))
    (running part n past made stands call can)))

pub returns : goal.returns
returns c = λ part past made st.
    let n = c.args.self.now in
    let can = c.requires.can in
    let call = c.args.call.now in
    let same : tables_of c.answer_into.new.self ≡ tables_of n.manager =
    none_told c.answer_into.result (tables_of c.answer_into.new.self ≡ tables_of n.manager) _ _
    c.in_default-answer_into.not-Some
    (c.answer_into.ensures part.run.script (appended (made ++ st.waiting) (steps_in past))
    (running part n past made st call can)) in
    let lines_same : c.go.new.self.lines ≡ n.lines.lines = ap (λ (l : LinesView). l.lines) c.go.ensures in
    let host : HostId = (tables_of c.call-made.new.self).host in
    rw c.go.ensures (asked_then part n past made st call can (tables_of c.answer_into.new.self) same
    c.call-made.new.self c.call-made.result c.in-Some.line (sym c.waiting.ensures ∙ c.in-Some.is)
    c.call-made.ensures.right c.call-made.ensures.own c.call-made.ensures.due c.push_made.new.self c.push_made.result
    c.push_made.ensures.made
    (λ steps holds.
    subst (λ (ls : List Line). IfOk c.call-made.result
    (λ s. OnOk c.push_made.result (Holds c.push_made.new.self ls host (steps ++ s ∷ [])))) lines_same
    (c.push_made.ensures.holds steps
    (subst (λ (ls : List Line). Holds n.between ls host steps) (sym lines_same) holds)))
    c.push_made.new.out c.push_made.ensures.told)
