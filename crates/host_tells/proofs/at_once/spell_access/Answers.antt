use Rattle.std.proofs.Common.{List, None, arith, inl, inr, subst, sym, ◌∙◌, ◌∷◌, [], ℕ}
use Rattle.host_tells.specs.Spoken.{Puts}
use Rattle.host_tells.proofs.Room.{put_fails, puts_then}
use Rattle.message_parts.specs.Access.{spell_access}
use Rattle.host_tells.proofs.Spelled.{shown_is}
use Rattle.host_tells.proofs.Fits.{shown_fits, spelled}
use Rattle.tree_calls.specs.declared.reply.Reply.TheVariants.{Access}
use Rattle.host_tells.proofs.at_once.spell_access.Goals as goal

pub put_access-requires : goal.put_access-requires
put_access-requires c =
    let p = c.in_ok-at.ensures in
    let low = p.1 in
    let same = p.2 in
    omega (arith, low, same)

pub returns-in_err-at : goal.returns-in_err-at
returns-in_err-at c =
    rw c.from_residual.ensures (inl (subst (λ (bytes : List ℕ). Puts bytes 0 c.args.out.now c.put_byte.new.out None)
    (shown_is c.args.list.now)
    (put_fails (4 ∷ []) ((spell_access c.args.list.now).bytes) 0 c.args.out.now c.put_byte.new.out c.put_byte.new.out
    c.in_err-at.ensures)))

pub returns-then-not-access_fits : goal.returns-then-not-access_fits
returns-then-not-access_fits c =
    inr (sym (shown_fits c.args.list.now) ∙ sym c.access_fits.ensures ∙ c.if-not-access_fits.true)

pub returns : goal.returns
returns c =
    spelled (Access c.args.list.now) c.args.out.now c.put_access.new.out c.put_access.result
    (subst (λ (bytes : List ℕ). Puts bytes 0 c.args.out.now c.put_access.new.out c.put_access.result)
    (shown_is c.args.list.now)
    (puts_then (4 ∷ []) ((spell_access c.args.list.now).bytes) 0 c.args.out.now c.put_byte.new.out c.put_access.new.out
    c.in_ok-at.at c.put_access.result c.in_ok-at.ensures c.put_access.ensures))
    (sym (shown_fits c.args.list.now) ∙ sym c.access_fits.ensures ∙ c.if-not-access_fits.false)
