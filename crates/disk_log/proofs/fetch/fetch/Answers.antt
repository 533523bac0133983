use Rattle.std.proofs.Common.{◌∙◌, ℕ, List, None, Option, subst, sym}
use Rattle.std.proofs.lemmas.List.{get_or_default}
use Rattle.disk_layout.specs.Pages.{redone}
use Rattle.disk_layout.specs.Places.{in_place}
use Rattle.disk_layout.proofs.Pages.{redone_at}
use Rattle.disk_log.specs.Pages.{AreKept, HoldsPages}
use Rattle.disk_log.proofs.Reading.{kept_read}
use Rattle.disk_log.proofs.fetch.fetch.Goals as goal

pub returns-in-Some-clause-bytes : goal.returns-in-Some-clause-bytes
returns-in-Some-clause-bytes g c = λ told.
    c.requires.pages told c.args.page c.in-Some.bytes
    (get_or_default c.args.pages.now c.args.page None c.get.result.now c.requires.page ∙ sym c.get.ensures ∙ c.in-Some.is)

pub returns-clause-bytes : goal.returns-clause-bytes
returns-clause-bytes g c = λ told.
    c.redo.ensures
    ∙ redone_at c.args.held.now (λ (q : ℕ). c.read_page.new.out) (λ (q : ℕ). in_place (g.D.Disk.view c.args.disk.now).image q) c.args.page (c.in_ok-read_page.ensures.bytes told)

pub returns-clause-pages : goal.returns-clause-pages
returns-clause-pages g c = λ told.
    let image = (g.D.Disk.view c.args.disk.now).image in
    subst (λ (l : List ℕ). HoldsPages c.set.new.self c.args.held.now l) (sym c.read_page.ensures.quiet.image)
    (subst (λ (l : List (Option (List ℕ))). AreKept l (redone c.args.held.now (in_place image))) (sym c.set.ensures)
    (kept_read c.args.pages.now c.args.page c.redo.new.out (redone c.args.held.now (in_place image)) (c.requires.pages told) (returns-clause-bytes g c told)))
