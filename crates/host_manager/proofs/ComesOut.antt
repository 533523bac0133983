-- What the code makes of a call's look is how the look ends.
use Rattle.base_types.specs.declared.ids.Fid.{Fid}
use Rattle.host_calls.specs.Looking.{AreSized, IsVerdictOf, Walked, meant, path_look}
use Rattle.host_calls.specs.declared.looking.Verdict.{Verdict}
use Rattle.host_tables.specs.Tables.{content, held_of}
use Rattle.host_tables.specs.declared.tables.Tables.{Tables}
use Rattle.host_walk.specs.declared.sight.Stop.{Stop}
use Rattle.host_walk.specs.declared.sight.Stop.TheVariants.{Lacks, Refused}
use Rattle.need_host.specs.Looks.{IsCovered, outcome}
use Rattle.std.proofs.Common.{Err, List, Ok, Result, ap, sym, ℕ, ◌∙◌, ◌≡◌}
use Rattle.tree_calls.specs.declared.call.Call.{Call}
use Rattle.tree_calls.specs.declared.reply.Refusal.{Refusal}

pub comes_out : (m : Tables) (call : Call) (root : Fid) (path : List (List ℕ)) → AreSized m.cache
    → (made : Result Verdict Stop) → Walked m call root path made → (verdict : Result Verdict Refusal)
    → IsVerdictOf made verdict
    → IsCovered (held_of m) (content m.cache) (path_look m call root path)
    × (outcome (content m.cache) (path_look m call root path) ≡ meant m call verdict)
comes_out m call root path sized (Ok v) w verdict is =
    (w.0, w.1 sized ∙ ap (λ (x : Result Verdict Refusal). meant m call x) (sym is))
comes_out m call root path sized (Err (Refused refusal)) w verdict is =
    (w.0, w.1 ∙ ap (λ (x : Result Verdict Refusal). meant m call x) (sym is))
comes_out m call root path sized (Err (Lacks need)) w verdict is = elim is [ ]
