use Rattle.std.proofs.Common.{List, [], None, sym, ap, ◌∙◌, subst}
use Rattle.base_types.specs.declared.ids.Node.TheVariants.{Server}
use Rattle.run_rules.specs.Steps.{lines_of}
use Rattle.script_lines.specs.declared.script.Script.{Script}
use Rattle.server_exporter.specs.Machines.{IsNew}
use Rattle.server_node.proofs.Turns.{fresh}
use Rattle.hub_node.specs.Nodes.{part_of}
use Rattle.message_types.specs.declared.message.Message.{Message}
use Rattle.server_node.specs.Standing.{CanServe, Stands}
use Rattle.store_memory.specs.Views.{View}
use Rattle.server_node.proofs.server.ServerNode.new.Goals as goal

pub returns-in-Ok-clause-stands : goal.returns-in-Ok-clause-stands
returns-in-Ok-clause-stands g c = λ run is can.
    let tells = g.S.Store.tells in let view = g.S.Store.view in
    let x = c.in-Ok.exporter in let epoch = c.epoch-epoch.result in
    let at = ap view c.new.ensures.store in
    subst (λ (l : List Message). Stands tells view (part_of run (Server c.args.server))
    (record { exporter = x; keeper = c.new.result; lines = c.in-Ok.lines; inbox = l }) [] []) (sym c.new-inbox.ensures)
    (fresh tells view run c.args.server x c.new.result c.in-Ok.lines epoch
    (subst (λ (w : View). CanServe tells run c.args.server w) (sym at) can)
    (subst (λ (s : Script). IsNew x c.args.server epoch s.roster) (sym is) c.in-Ok.ensures.machine)
    (c.in-Ok.ensures.lines
    ∙ ap (λ (s : Script). record { lines = lines_of s (Server c.args.server); gone = 0; told = None }) (sym is))
    (λ t. c.epoch-epoch.ensures t ∙ ap (λ (w : View). w.state.epoch) (sym at))
    c.new.ensures.fit)
