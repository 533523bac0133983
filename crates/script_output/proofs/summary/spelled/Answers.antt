use Rattle.std.proofs.Common.{◌∙◌, ap, [], ◌++◌, arith}
use Rattle.script_words.specs.Spelling.{spelled_bytes}
use Rattle.script_output.proofs.Spelled.{spelled_utf8}
use Rattle.script_output.proofs.summary.spelled.Goals as goal

pub unreachable-requires : goal.unreachable-requires
unreachable-requires c =
    let e = c.into_vec.ensures ∙ c.in_ok-push_spelled.ensures ∙ ap (λ front. front ++ spelled_bytes c.args.bytes.now []) c.new-text.ensures in
    let h = c.in-Err.ensures.succeeds (spelled_utf8 c.args.bytes.now c.into_vec.result.items (λ i. omega (arith, c.type_inv.bytes i)) e) in
    cc
