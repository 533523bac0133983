use Rattle.std.proofs.Common.{◌≡◌, ◌∙◌, ap, sym, List, []}
use Rattle.std.specs.Option.{option_copied}
use Rattle.host_node.proofs.Turns.{next_below, pushed, went_then}
use Rattle.host_node.specs.Standing.{IsInTurn}
use Rattle.host_node.specs.declared.host.HostNode.{HostNode}
use Rattle.run_rules.specs.declared.step.Step.{Step}
use Rattle.script_lines.specs.declared.script.Deed.TheVariants.{Restart}
use Rattle.host_node.proofs.host.HostNode.go_next.Goals as goal

pub deed_step-made-requires-clause-deed : goal.deed_step-made-requires-clause-deed
deed_step-made-requires-clause-deed c = λ e.
    let is = c.is_restart.ensures.1 e in let no = c.if-is_restart.false in absurd (cc)

pub go-requires : goal.go-requires
go-requires c = next_below c.args.self.now.lines c.in-Some.line.now (sym c.next.ensures ∙ ap option_copied c.in-Some.is)

pub returns : goal.returns
returns c = λ part past turn.
    let no_restart : c.in-Some.line.now.deed ≡ Restart → ⊥ =
    (λ e. let is = c.is_restart.ensures.1 e in let no = c.if-is_restart.false in absurd (cc)) in
    let now : HostNode = record c.args.self.now {
      manager = c.deed_step-made.new.manager;
      lines = c.go.new.self;
      stopped = c.is_stop-stops.result;
    } in
    pushed c.deed_step-made.result c.push_one.result c.args.steps.now.steps c.push_one.new.steps.steps
    (λ (l : List Step). IsInTurn part now past l [] 0) c.push_one.ensures.made c.push_one.ensures.ok
    (rw c.go.ensures (rw c.is_stop-stops.ensures (went_then part c.args.self.now past c.args.steps.now.steps
    c.requires.live turn c.in-Some.line.now (sym c.next.ensures
    ∙ ap option_copied c.in-Some.is) c.requires.begun c.deed_step-made.new.manager
    c.deed_step-made.result c.deed_step-made.ensures no_restart)))
