use Rattle.std.proofs.Common.{ap, refl, sym, ◌∙◌}
use Rattle.std.specs.Option.{option_copied}
use Rattle.server_node.specs.Laws.{stays_so}
use Rattle.server_node.proofs.server.ServerNode.go.Goals as goal

pub returns-in_default-clause-stays : goal.returns-in_default-clause-stays
returns-in_default-clause-stays g c = stays_so g.S.Store.tells g.S.Store.view c.args.self.now

pub restart-requires-clause-next : goal.restart-requires-clause-next
restart-requires-clause-next g c = (
  c.in-Some.line.now,
  sym c.next.ensures ∙ ap option_copied c.in-Some.is,
  refl,
  c.is_restart.ensures.0 c.if-is_restart.true,
)

pub pass-requires-clause-next : goal.pass-requires-clause-next
pass-requires-clause-next g c = (
  c.in-Some.line.now,
  sym c.next.ensures ∙ ap option_copied c.in-Some.is,
  refl,
  (λ e. let is = c.is_restart.ensures.1 e in let no = c.if-is_restart.false in absurd (cc)),
)
