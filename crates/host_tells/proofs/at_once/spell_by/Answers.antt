use Rattle.std.proofs.Common.{List, None, Ok, Option, refl, subst, sym, ℕ}
use Rattle.host_calls.specs.Looking.{CanRead, meant}
use Rattle.host_calls.specs.declared.looking.Verdict.{Verdict}
use Rattle.host_tells.proofs.Speaking.{done_else}
use Rattle.host_tells.proofs.Fits.{done_fits, spelled}
use Rattle.host_tells.proofs.Spelled.{done_is}
use Rattle.host_tells.specs.Spoken.{Puts, Spells}
use Rattle.need_host.specs.Calls.{reply_now}
use Rattle.tree_calls.specs.declared.reply.Reply.{Reply}
use Rattle.tree_calls.specs.declared.reply.Reply.TheVariants.{Ok as Done}
use Rattle.host_tells.proofs.at_once.spell_by.Goals as goal

pub spell_bytes-requires : goal.spell_bytes-requires
spell_bytes-requires c =
    subst (λ (v : Verdict). CanRead c.args.tables.now (Ok v)) c.in-Reads.is c.requires

pub returns-in-Reads : goal.returns-in-Reads
returns-in-Reads c call =
    subst (λ (v : Verdict). Spells (reply_now (meant c.args.tables.now call (Ok v))) c.args.out.now
    c.spell_bytes.new.out c.spell_bytes.result)
    (sym c.in-Reads.is) c.spell_bytes.ensures

pub returns-in-Lists : goal.returns-in-Lists
returns-in-Lists c call =
    subst (λ (v : Verdict). Spells (reply_now (meant c.args.tables.now call (Ok v))) c.args.out.now
    c.spell_names.new.out c.spell_names.result)
    (sym c.in-Lists.is) c.spell_names.ensures

pub returns-in-Tells : goal.returns-in-Tells
returns-in-Tells c call =
    subst (λ (v : Verdict). Spells (reply_now (meant c.args.tables.now call (Ok v))) c.args.out.now
    c.spell_facts.new.out c.spell_facts.result)
    (sym c.in-Tells.is) c.spell_facts.ensures

pub returns-in-Shows : goal.returns-in-Shows
returns-in-Shows c call =
    subst (λ (v : Verdict). Spells (reply_now (meant c.args.tables.now call (Ok v))) c.args.out.now
    c.spell_list.new.out c.spell_list.result)
    (sym c.in-Shows.is) c.spell_list.ensures

pub returns-in-Syncs : goal.returns-in-Syncs
returns-in-Syncs c call =
    subst (λ (v : Verdict). Spells (reply_now (meant c.args.tables.now call (Ok v))) c.args.out.now c.args.out.now
    None) (sym c.in-Syncs.is) refl

pub returns-in-Gives : goal.returns-in-Gives
returns-in-Gives c call =
    subst (λ (v : Verdict). Spells (reply_now (meant c.args.tables.now call (Ok v))) c.args.out.now c.args.out.now
    None) (sym c.in-Gives.is) refl

pub returns-in-Asks : goal.returns-in-Asks
returns-in-Asks c call =
    subst (λ (v : Verdict). Spells (reply_now (meant c.args.tables.now call (Ok v))) c.args.out.now c.args.out.now
    None) (sym c.in-Asks.is) refl

pub returns-in_default : goal.returns-in_default
returns-in_default c call =
    let d = c.in_default in
    let done = done_else c.args.tables.now call c.args.verdict d.not-Reads d.not-Lists d.not-Tells d.not-Shows
    d.not-Syncs
    d.not-Gives d.not-Asks in
    subst (λ (r : Option Reply). Spells r c.args.out.now c.put_byte.new.out c.put_byte.result) (sym done)
    (spelled Done c.args.out.now c.put_byte.new.out c.put_byte.result (subst (λ (bytes : List ℕ). Puts bytes 0
    c.args.out.now c.put_byte.new.out c.put_byte.result) done_is c.put_byte.ensures) done_fits)
