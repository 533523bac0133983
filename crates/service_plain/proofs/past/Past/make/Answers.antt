use Rattle.std.proofs.Common.{◌∙◌, ◌++◌, ◌∷◌, [], sym, ap}
use Rattle.tree_calls.specs.declared.call.Call.{Call as CallOf}
use Rattle.tree_calls.specs.declared.entry.Entry.TheVariants.{Call as Called}
use Rattle.service_plain.proofs.Arrivals.{made_by, made_writing, call_formed, call_apart}
use Rattle.service_plain.proofs.past.Past.make.Goals as goal

pub save-requires-clause-formed : goal.save-requires-clause-formed
save-requires-clause-formed c =
    rw c.in_ok-reply.ensures.tree (call_formed c.args.self.now.tree c.args.host c.args.k c.args.call.now c.in_ok-reply.reply c.requires.formed c.requires.limit c.in_ok-reply.ensures.reply)

pub save-requires-clause-apart : goal.save-requires-clause-apart
save-requires-clause-apart c = rw c.in_ok-reply.ensures.tree (call_apart c.args.self.now.tree c.args.host c.args.k c.args.call.now c.in_ok-reply.reply c.requires.rest c.in_ok-reply.ensures.reply)

pub returns-in_ok-save : goal.returns-in_ok-save
returns-in_ok-save c =
    made_writing c.args.host c.args.k c.args.call.now c.in_ok-reply.reply c.is_done-done.result c.args.self.now _ _ _ (sym c.is_write.ensures ∙ c.if-is_write.true) c.requires.rest c.requires.rooms c.in_ok-reply.ensures.reply c.in_ok-reply.ensures.tree
    (c.in_ok-push.ensures.ok ∙ ap (λ (call : CallOf). c.args.self.now.history ++ Called c.args.host c.args.k call c.in_ok-reply.reply ∷ []) c.in_ok-copy.ensures) c.is_done-done.ensures c.in_ok-save.ensures

pub returns-in_ok-arrive : goal.returns-in_ok-arrive
returns-in_ok-arrive c =
    made_by c.args.host c.args.k c.args.call.now c.in_ok-reply.reply c.is_done-done.result c.args.self.now _ _ _ (sym c.is_write.ensures ∙ c.if-is_write.false) c.requires.formed c.requires.rest c.requires.rooms c.requires.limit c.in_ok-reply.ensures.reply c.in_ok-reply.ensures.tree
    (c.in_ok-push.ensures.ok ∙ ap (λ (call : CallOf). c.args.self.now.history ++ Called c.args.host c.args.k call c.in_ok-reply.reply ∷ []) c.in_ok-copy.ensures) c.is_done-done.ensures c.in_ok-arrive.ensures
