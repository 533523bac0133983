use Rattle.std.proofs.Common.{◌∙◌, ◌≡◌, ℕ, List, arith, Option, None, replicate}
use Rattle.disk_layout.specs.Pages.{redone}
use Rattle.disk_log.specs.Recovered.{blank_page}
use Rattle.disk_log.proofs.Recovering.{recovered_kept, never_there, none_first}
use Rattle.disk_log.proofs.recover.recovered.Goals as goal

pub returns-clause-recovered : goal.returns-clause-recovered
returns-clause-recovered c =
    let entries = c.args.entries.now in
    let table = c.in_ok-table.table in
    let first : table ≡ replicate {A = Option (List ℕ)} c.args.pages None = c.in_ok-table.ensures in
    let blank : ℕ → List ℕ = λ q. blank_page in
    record {
      kept = recovered_kept entries c.undo.new.pages (c.undo.ensures.kept (redone entries blank) (c.keep.ensures.kept blank (never_there table c.args.pages first blank)));
      named = λ p lt named. c.undo.ensures.held p (c.keep.ensures.named p (omega (arith, lt, c.undo.ensures.size, c.keep.ensures.size)) named);
      others = λ p out. c.undo.ensures.others p out ∙ c.keep.ensures.others p out ∙ none_first table c.args.pages first p;
    }
