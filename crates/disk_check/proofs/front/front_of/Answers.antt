use Rattle.std.proofs.Common.{rules, ◌∙◌, sym, subst, List, ℕ}
use Rattle.std.proofs.lemmas.Bool.{false≢true}
use Rattle.disk_layout.specs.Superblock.{IsSuperblock}
use Rattle.disk_layout.specs.declared.superblock.Superblock.{Superblock}
use Rattle.disk_check.proofs.Fronts.{blank_front, no_front}
use Rattle.disk_check.proofs.front.front_of.Goals as goal

pub returns-then-blank-clause-faults : goal.returns-then-blank-clause-faults
returns-then-blank-clause-faults g c = λ told.
    blank_front (g.D.Disk.view c.args.disk.now).image ((c.in_ok-blank.ensures.blank told).0 (search rules))

pub returns-in-None-clause-faults : goal.returns-in-None-clause-faults
returns-in-None-clause-faults g c = λ told.
    let image = (g.D.Disk.view c.args.disk.now).image in
    let none : (superblock : Superblock) → IsSuperblock superblock (g.D.Disk.view c.is_blank.new.disk).image → ⊥ = rw c.in-None.is at (c.in_ok-found.ensures.front told) in
    no_front image (λ blank. absurd (false≢true (sym c.if-blank.false ∙ (c.in_ok-blank.ensures.blank told).1 blank)))
    (λ superblock is first last some. none superblock (subst (λ (i : List ℕ). IsSuperblock superblock i) (sym c.is_blank.ensures.quiet.image) is))
