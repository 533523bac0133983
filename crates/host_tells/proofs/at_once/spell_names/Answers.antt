use Rattle.std.proofs.Common.{List, None, ap, arith, inl, inr, subst, sym, ◌∙◌, ◌∷◌, [], ℕ}
use Rattle.host_tells.specs.Spoken.{Puts}
use Rattle.host_tells.proofs.Room.{put_fails, puts_then}
use Rattle.host_tables.specs.Tables.{content}
use Rattle.host_tells.proofs.Spelled.{listed_is}
use Rattle.message_parts.specs.Words.{short, spell_name}
use Rattle.tree_calls.specs.declared.part.DirEntry.{DirEntry}
use Rattle.tree_laws.specs.Parts.Part.{Entries}
use Rattle.tree_objects.specs.Entries.{names_of}
use Rattle.host_tells.proofs.Fits.{listed_fits, spelled}
use Rattle.tree_calls.specs.declared.reply.Reply.TheVariants.{Names}
use Rattle.host_tells.proofs.at_once.spell_names.Goals as goal

pub put_names-requires : goal.put_names-requires
put_names-requires c =
    let p = c.in_ok-at.ensures in
    let low = p.1 in
    let same = p.2 in
    omega (arith, low, same)

pub returns-in_err-at : goal.returns-in_err-at
returns-in_err-at c =
    let names = names_of (content c.args.tables.now.cache c.args.fid Entries) in
    rw c.from_residual.ensures (inl (subst (λ (bytes : List ℕ). Puts bytes 0 c.args.out.now c.put_byte.new.out None)
    (listed_is names) (put_fails (2 ∷ []) ((short spell_name names).bytes) 0 c.args.out.now c.put_byte.new.out
    c.put_byte.new.out c.in_err-at.ensures)))

pub returns-then-not-names_fit : goal.returns-then-not-names_fit
returns-then-not-names_fit c =
    let names = names_of (content c.args.tables.now.cache c.args.fid Entries) in
    let told_is = ap (λ (es : List DirEntry). (short spell_name (names_of es)).fits) c.entries-told.ensures in
    inr (sym (listed_fits names) ∙ sym told_is ∙ sym c.names_fit.ensures ∙ c.if-not-names_fit.true)

pub returns : goal.returns
returns c =
    let names = names_of (content c.args.tables.now.cache c.args.fid Entries) in
    let told_is = ap (λ (es : List DirEntry). (short spell_name (names_of es)).fits) c.entries-told.ensures in
    spelled (Names names) c.args.out.now c.put_names.new.out c.put_names.result
    (subst (λ (bytes : List ℕ). Puts bytes 0 c.args.out.now c.put_names.new.out c.put_names.result)
    (ap (λ (es : List DirEntry). 2 ∷ (short spell_name (names_of es)).bytes) c.entries-told.ensures ∙ listed_is names)
    (puts_then (2 ∷ []) ((short spell_name (names_of c.entries-told.result.now)).bytes) 0 c.args.out.now
    c.put_byte.new.out c.put_names.new.out c.in_ok-at.at c.put_names.result c.in_ok-at.ensures c.put_names.ensures))
    (sym (listed_fits names) ∙ sym told_is ∙ sym c.names_fit.ensures ∙ c.if-not-names_fit.false)
