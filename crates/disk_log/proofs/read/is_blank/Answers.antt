use Rattle.std.proofs.Common.{◌≡◌, ◌∙◌, ℕ, List, inr, refl, ap, sym, subst}
use Rattle.std.proofs.lemmas.Bool.{false≢true}
use Rattle.base_types.specs.Image.{bytes_from}
use Rattle.disk_layout.specs.Superblock.{IsMarked}
use Rattle.disk_layout.proofs.Words.{marked_read, marked_reads}
use Rattle.disk_log.proofs.Zeros.{blank_by_look}
use Rattle.disk_log.proofs.read.is_blank.Goals as goal

pub returns-then-is_marked-clause-blank : goal.returns-then-is_marked-clause-blank
returns-then-is_marked-clause-blank g c = λ told.
    let image = (g.D.Disk.view c.args.disk.now).image in
    let read = c.in_ok-read.ensures.bytes told in
    (λ yes. inr (marked_read image (subst (λ (l : List ℕ). IsMarked l) read (c.is_marked.ensures.0 c.if-is_marked.true))), λ blank. refl)

pub returns-clause-blank : goal.returns-clause-blank
returns-clause-blank g c = λ told.
    let image = (g.D.Disk.view c.args.disk.now).image in
    let read = c.in_ok-read.ensures.bytes told in
    blank_by_look c.is_untouched.result image _ c.read.ensures.quiet.image
    (λ marked. false≢true (sym c.if-is_marked.false ∙ c.is_marked.ensures.1 (subst (λ (l : List ℕ). IsMarked l) (sym read) (marked_reads image marked))))
    (c.is_untouched.ensures.untouched told)
