use Rattle.std.proofs.Common.{List, Some, subst, sym, ℕ}
use Rattle.host_tells.specs.Spoken.{Puts}
use Rattle.host_tells.proofs.Room.{puts_none}
use Rattle.message_calls.specs.Replies.{refusal_fields}
use Rattle.host_tells.proofs.Spelled.{denied_is, no_fields}
use Rattle.tree_calls.specs.declared.reply.Refusal.{Refusal}
use Rattle.host_tells.proofs.spelling.put_denied.Goals as goal

pub returns-in-Denied : goal.returns-in-Denied
returns-in-Denied c =
    subst (λ (r : Refusal). Puts (refusal_fields r).bytes c.args.at c.args.out.now c.put_rights.new.out
    c.put_rights.result)
    (sym c.in-Denied.is) (subst (λ (bytes : List ℕ). Puts bytes c.args.at c.args.out.now c.put_rights.new.out
    c.put_rights.result) (denied_is c.in-Denied.rights) c.put_rights.ensures)

pub returns-in_default : goal.returns-in_default
returns-in_default c =
    subst (λ (bytes : List ℕ). Puts bytes c.args.at c.args.out.now c.args.out.now (Some c.args.at))
    (no_fields c.args.refusal.now c.in_default.not-Denied) (puts_none c.args.at c.args.out.now c.requires)
