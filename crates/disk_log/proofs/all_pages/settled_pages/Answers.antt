use Rattle.std.proofs.Common.{◌∙◌, ◌≡◌, ℕ, List, Option, length, ap, subst}
use Rattle.std.proofs.lemmas.Result.{IfOk-weaker}
use Rattle.disk_layout.specs.declared.entry.Entry.{Entry}
use Rattle.disk_layout.specs.Entry.{entries}
use Rattle.disk_log.specs.Recovered.{AreOver, AreRecovered}
use Rattle.disk_log.proofs.Gathered.{all_settled, both_of}
use Rattle.disk_log.proofs.all_pages.settled_pages.Goals as goal

pub returns-clause-pages : goal.returns-clause-pages
returns-clause-pages g c = λ told.
    let half = c.in_ok-half.half in
    let image = (g.D.Disk.view c.args.disk.now).image in
    let table = c.in_ok-table.table in
    let same : (g.D.Disk.view c.read_entries.new.disk).image ≡ image = c.read_entries.ensures.quiet.image ∙ c.found_log.ensures.quiet.image in
    let held = c.deref.ensures.value ∙ c.in_ok-entries.ensures.entries told ∙ ap (entries half) c.found_log.ensures.quiet.image in
    let are = subst (λ (l : List Entry). AreRecovered l table) held c.in_ok-table.ensures.recovered in
    IfOk-weaker c.settled_by.result _ _
    (λ pages both. all_settled _ half image table pages.items (c.in_ok-half.ensures.log told) c.in_ok-half.ensures.placed.0 c.in_ok-table.ensures.size are
    (both.0 ∙ ap length c.as_slice.ensures)
    (subst (λ (l : List ℕ). AreOver table l (length table) pages.items) same
    (subst (λ (t : List (Option (List ℕ))). AreOver t (g.D.Disk.view c.read_entries.new.disk).image (length t) pages.items) c.as_slice.ensures both.1)))
    (both_of c.settled_by.result _ _ c.settled_by.ensures.size (c.settled_by.ensures.pages told))
