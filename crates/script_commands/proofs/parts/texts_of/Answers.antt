use Rattle.std.proofs.Common.{map, option_map, ◌∙◌, arith}
use Rattle.std.proofs.lemmas.Grind.{common_steps}
use Rattle.clap.specs.Matches.{found_of}
use Rattle.script_commands.proofs.Texts.{raw_values_at}
use Rattle.script_commands.proofs.parts.texts_of.Goals as goal

pub returns-in_default : goal.returns-in_default
returns-in_default c =
    let e = raw_values_at (found_of c.args.matches.now) c.args.id.now (option_map (λ s. map (λ v. v.now) s.now) c.get_raw.result) c.get_raw.ensures in
    c.new-texts.ensures ∙ (rw c.in_default.is at e)

pub returns : goal.returns
returns c =
    let e = raw_values_at (found_of c.args.matches.now) c.args.id.now (option_map (λ s. map (λ v. v.now) s.now) c.get_raw.result) c.get_raw.ensures in
    let known = rw c.in-Some.is at e in
    grind (arith, common_steps, known)
