use Rattle.std.proofs.Common.{◌≡◌, rules, None, sym, subst, arith}
use Rattle.script_lines.specs.Sound.{IsSound}
use Rattle.script_lines.specs.declared.script.Script.{Script}
use Rattle.script_reader.specs.Walk.{stuck_at}
use Rattle.script_generator.specs.Workload.{generated}
use Rattle.script_generator.proofs.Workload.{generated_sound, generated_goes}
use Rattle.script_generator.proofs.script.generate.Goals as goal

pub returns-clause-sound : goal.returns-clause-sound
unfolding generated
returns-clause-sound c =
    let script : Script = record { servers = 1; roster = c.in_ok-roster_of.field-0; setup = c.in_ok-setup_of.field-0; plan = c.new.result; net = None; lines = c.in_ok-lines_of.field-0 } in
    let e : script ≡ generated c.args.seed c.args.hosts c.args.calls = search rules in
    subst IsSound (sym e) (generated_sound c.args.seed c.args.hosts c.args.calls (omega arith) (omega arith) (omega arith))

pub returns-clause-goes : goal.returns-clause-goes
unfolding generated
returns-clause-goes c =
    let script : Script = record { servers = 1; roster = c.in_ok-roster_of.field-0; setup = c.in_ok-setup_of.field-0; plan = c.new.result; net = None; lines = c.in_ok-lines_of.field-0 } in
    let e : script ≡ generated c.args.seed c.args.hosts c.args.calls = search rules in
    subst (λ script. stuck_at script.lines ≡ None) (sym e) (generated_goes c.args.seed c.args.hosts c.args.calls)
