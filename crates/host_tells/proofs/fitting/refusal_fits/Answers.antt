use Rattle.std.proofs.Common.{ap, sym, ◌∙◌}
use Rattle.host_tells.proofs.Fits.{denied_fits, plain_fits}
use Rattle.message_calls.specs.Replies.{spell_refusal}
use Rattle.tree_calls.specs.declared.reply.Refusal.{Refusal}
use Rattle.host_tells.proofs.fitting.refusal_fits.Goals as goal

pub returns-in-Denied : goal.returns-in-Denied
returns-in-Denied c =
    c.rights_fit.ensures ∙ denied_fits c.in-Denied.rights
    ∙ ap (λ (r : Refusal). (spell_refusal r).fits) (sym c.in-Denied.is)

pub returns-in_default : goal.returns-in_default
returns-in_default c = plain_fits c.args.refusal.now c.in_default.not-Denied
