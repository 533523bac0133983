use Rattle.std.proofs.Common.{List, None, arith, inl, inr, min, subst, sym, ◌∙◌, ◌∷◌, ◌++◌, [], ℕ}
use Rattle.host_tells.specs.Spoken.{Puts}
use Rattle.host_tells.proofs.Room.{put_fails, puts_then}
use Rattle.need_host.specs.Walks.{rights_on}
use Rattle.host_walk.specs.Views.{nature_told}
use Rattle.message_parts.specs.Places.{spell_rights}
use Rattle.message_parts.specs.Words.{spell_flag, spell_name, spell_u32}
use Rattle.host_tells.proofs.Spelled.{facts_are}
use Rattle.host_tells.specs.Spoken.{facts_told}
use Rattle.host_tells.proofs.Fits.{told_fits, spelled}
use Rattle.tree_calls.specs.declared.reply.Reply.TheVariants.{Facts as FactsOf}
use Rattle.host_tells.proofs.at_once.spell_told.Goals as goal

pub put_facts-requires : goal.put_facts-requires
put_facts-requires c =
    let p = c.in_ok-at.ensures in
    let low = p.1 in
    let same = p.2 in
    omega (arith, low, same)

pub returns-in_err-at : goal.returns-in_err-at
returns-in_err-at c =
    rw c.from_residual.ensures (inl (subst (λ (bytes : List ℕ). Puts bytes 0 c.args.out.now c.put_byte.new.out None)
    (facts_are (facts_told c.args.status.now c.args.user.now))
    (put_fails (3 ∷ []) ((spell_flag c.args.status.now.dir).bytes ++ ((spell_u32 (min c.args.status.now.length
    4294967295)).bytes ++ ((spell_name c.args.status.now.owner).bytes ++ (spell_rights (rights_on (nature_told
    c.args.status.now) c.args.user.now)).bytes))) 0 c.args.out.now c.put_byte.new.out c.put_byte.new.out
    c.in_err-at.ensures)))

pub returns-then-not-facts_fit : goal.returns-then-not-facts_fit
returns-then-not-facts_fit c =
    let facts = facts_told c.args.status.now c.args.user.now in
    inr (sym (told_fits facts) ∙ sym c.facts_fit.ensures ∙ c.if-not-facts_fit.true)

pub returns : goal.returns
returns c =
    let facts = facts_told c.args.status.now c.args.user.now in
    spelled (FactsOf facts) c.args.out.now c.put_facts.new.out c.put_facts.result
    (subst (λ (bytes : List ℕ). Puts bytes 0 c.args.out.now c.put_facts.new.out c.put_facts.result)
    (facts_are (facts_told c.args.status.now c.args.user.now))
    (puts_then (3 ∷ []) ((spell_flag c.args.status.now.dir).bytes ++ ((spell_u32 (min c.args.status.now.length
    4294967295)).bytes ++ ((spell_name c.args.status.now.owner).bytes ++ (spell_rights (rights_on (nature_told
    c.args.status.now) c.args.user.now)).bytes))) 0 c.args.out.now c.put_byte.new.out c.put_facts.new.out
    c.in_ok-at.at c.put_facts.result c.in_ok-at.ensures c.put_facts.ensures))
    (sym (told_fits facts) ∙ sym c.facts_fit.ensures ∙ c.if-not-facts_fit.false)
