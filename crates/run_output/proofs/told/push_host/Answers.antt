use Rattle.std.proofs.Common.{◌++◌, ◌∙◌, List, Bor, ap, sym}
use Rattle.std.proofs.lemmas.List.{append-nil}
use Rattle.script_lines.specs.Asks.{call_lines}
use Rattle.run_rules.specs.declared.applied.Answer.{Answer}
use Rattle.run_output.proofs.Sorting.{no_list, told_by}
use Rattle.run_output.proofs.told.push_host.Goals as goal

pub returns-in-None : goal.returns-in-None
returns-in-None c =
    sym (ap (λ (own : List (Bor Answer)). c.args.answers.now ++ told_by c.args.host (call_lines c.args.script.now c.args.host) own)
    (no_list c.args.sorted.now c.args.host c.in-None.ensures)
    ∙ append-nil c.args.answers.now)
