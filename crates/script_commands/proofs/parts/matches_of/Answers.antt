use Rattle.std.proofs.Common.{rules, ◌≡◌, ap, ◌∙◌, map}
use Rattle.std.specs.String.{string_bytes}
use Rattle.clap.specs.Simple.{app_of, is_simple, matches_of}
use Rattle.clap.specs.Matches.{found_of}
use Rattle.clap.specs.Walk.{rows_of}
use Rattle.clap.specs.Takes.{takes}
use Rattle.script_commands.specs.Told.{told}
use Rattle.script_commands.proofs.Walked.{vals}
use Rattle.script_commands.proofs.Taken.{plain_taken, plain_parts}
use Rattle.script_commands.proofs.parts.matches_of.Goals as goal

pub unreachable-requires : goal.unreachable-requires
unreachable-requires c =
    let known : app_of c.in_ok-told.field-0 ≡ told = search rules in
    let kind = c.in-Err.ensures.passes (ap (λ a. takes a (map string_bytes c.args.words.now)) known ∙ plain_taken (map string_bytes c.args.words.now) c.requires) in
    c.in_default.not-OutOfMemory (c.kind.ensures ∙ kind)

pub returns-in-Ok : goal.returns-in-Ok
returns-in-Ok c =
    let words = map string_bytes c.args.words.now in
    let known : app_of c.in_ok-told.field-0 ≡ told = search rules in
    let rows : rows_of (found_of c.in-Ok.matches) ≡ matches_of told words = (c.in-Ok.ensures.matches (ap is_simple known)).0 ∙ ap (λ a. matches_of a words) known in
    ap vals rows ∙ plain_parts words c.requires
