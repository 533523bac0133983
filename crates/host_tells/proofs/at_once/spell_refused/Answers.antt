use Rattle.std.proofs.Common.{List, None, arith, inl, inr, subst, sym, ◌∙◌, ◌∷◌, [], ℕ}
use Rattle.host_tells.specs.Spoken.{Puts}
use Rattle.host_tells.proofs.Room.{put_fails, puts_then}
use Rattle.host_tells.proofs.Spelled.{refused_is}
use Rattle.message_calls.specs.Replies.{spell_refusal}
use Rattle.host_tells.proofs.Fits.{refused_fits, spelled}
use Rattle.tree_calls.specs.declared.reply.Reply.TheVariants.{Refused}
use Rattle.host_tells.proofs.at_once.spell_refused.Goals as goal

pub put_refusal-requires : goal.put_refusal-requires
put_refusal-requires c =
    let p = c.in_ok-at.ensures in
    let low = p.1 in
    let same = p.2 in
    omega (arith, low, same)

pub returns-in_err-at : goal.returns-in_err-at
returns-in_err-at c =
    rw c.from_residual.ensures (inl (subst (λ (bytes : List ℕ). Puts bytes 0 c.args.out.now c.put_byte.new.out None)
    (refused_is c.args.refusal)
    (put_fails (5 ∷ []) ((spell_refusal c.args.refusal).bytes) 0 c.args.out.now c.put_byte.new.out c.put_byte.new.out
    c.in_err-at.ensures)))

pub returns-then-not-refusal_fits : goal.returns-then-not-refusal_fits
returns-then-not-refusal_fits c =
    inr (sym (refused_fits c.args.refusal) ∙ sym c.refusal_fits.ensures ∙ c.if-not-refusal_fits.true)

pub returns : goal.returns
returns c =
    spelled (Refused c.args.refusal) c.args.out.now c.put_refusal.new.out c.put_refusal.result
    (subst (λ (bytes : List ℕ). Puts bytes 0 c.args.out.now c.put_refusal.new.out c.put_refusal.result)
    (refused_is c.args.refusal)
    (puts_then (5 ∷ []) ((spell_refusal c.args.refusal).bytes) 0 c.args.out.now c.put_byte.new.out c.put_refusal.new.out
    c.in_ok-at.at c.put_refusal.result c.in_ok-at.ensures c.put_refusal.ensures))
    (sym (refused_fits c.args.refusal) ∙ sym c.refusal_fits.ensures ∙ c.if-not-refusal_fits.false)
