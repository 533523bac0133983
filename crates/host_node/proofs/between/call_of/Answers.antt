use Rattle.std.proofs.Common.{◌≡◌, ◌∙◌, Some, ap, slice_get, sym}
use Rattle.std.specs.Option.{option_copied}
use Rattle.script_lines.specs.declared.script.Deed.TheVariants.{Call as MakesCall}
use Rattle.script_lines.specs.declared.script.Line.{Line}
use Rattle.host_node.proofs.between.call_of.Goals as goal

pub returns : goal.returns
returns c = λ said is place_is.
    let lines = c.args.lines.now.lines in
    let some : Some c.in-Some.line.now ≡ Some said.line =
    sym (sym c.at.ensures ∙ ap option_copied c.in-Some.is) ∙ ap (slice_get lines) place_is ∙ is.at in
    let line_is : c.in-Some.line.now ≡ said.line = cc in
    let deeds : MakesCall c.in-Call.call ≡ MakesCall said.call =
    sym c.in-Call.is ∙ ap (λ (l : Line). l.deed) line_is ∙ is.makes in
    let call_is : c.in-Call.call ≡ said.call = cc in
    (ap (λ (l : Line). l.number) line_is, c.in_ok-call.ensures ∙ call_is)
