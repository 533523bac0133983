use Rattle.host_node.proofs.host.HostNode.make_step.Goals as goal

pub evict-requires : goal.evict-requires
evict-requires c = record {
  live = (λ over. let is = c.is_over.ensures.1 over in let no = c.if-is_over.false in absurd (cc));
}

pub end-requires-clause-live : goal.end-requires-clause-live
end-requires-clause-live c = λ over. let is = c.is_over.ensures.1 over in let no = c.if-is_over.false in absurd (cc)

pub end-requires-clause-free : goal.end-requires-clause-free
end-requires-clause-free c = c.is_free.ensures.0 c.if-is_free.true

pub end-requires-clause-gone : goal.end-requires-clause-gone
end-requires-clause-gone c = c.are_gone.ensures.0 c.if-are_gone.true

pub go-requires-clause-live : goal.go-requires-clause-live
go-requires-clause-live c = λ over. let is = c.is_over.ensures.1 over in let no = c.if-is_over.false in absurd (cc)

pub go-requires-clause-free : goal.go-requires-clause-free
go-requires-clause-free c = c.is_free.ensures.0 c.if-is_free.true
