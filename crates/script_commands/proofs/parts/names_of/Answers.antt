use Rattle.std.proofs.Common.{ap, ◌∙◌, map, option_map, codes, arith}
use Rattle.std.specs.String.{string_bytes}
use Rattle.std.proofs.lemmas.Grind.{common_steps}
use Rattle.clap.specs.Matches.{found_of}
use Rattle.script_commands.specs.declared.parts.Parts.{Parts}
use Rattle.script_commands.proofs.Texts.{raw_values_at}
use Rattle.script_commands.proofs.parts.names_of.Goals as goal

pub returns-in_default : goal.returns-in_default
returns-in_default c =
    let e = raw_values_at (found_of c.in_ok-matches.matches) (codes "others") (option_map (λ s. map (λ v. v.now) s.now) c.get_raw.result) c.get_raw.ensures in
    let same = ap (λ (p : Parts). p.others) c.in_ok-matches.ensures in
    ap (map string_bytes) c.new-names.ensures.items ∙ ((rw c.in_default.is at e) ∙ same)

pub returns : goal.returns
returns c =
    let e = raw_values_at (found_of c.in_ok-matches.matches) (codes "others") (option_map (λ s. map (λ v. v.now) s.now) c.get_raw.result) c.get_raw.ensures in
    let same = ap (λ (p : Parts). p.others) c.in_ok-matches.ensures in
    let known = (rw c.in-Some.is at e) ∙ same in
    grind (arith, common_steps, known)
