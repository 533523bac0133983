use Rattle.std.proofs.Common.{◌≡◌, ◌∙◌, List, sym, subst, ⊎_elim}
use Rattle.std.specs.Prelude.{false, Bool}
use Rattle.std.proofs.lemmas.Bool.{false≢true}
use Rattle.disk_image.specs.Counts.{uses_of}
use Rattle.disk_image.specs.declared.found.Use.{Use}
use Rattle.disk_judge.specs.Metadata.{over}
use Rattle.disk_judge.specs.Marks.{AreMarks}
use Rattle.disk_judge.specs.Judged.{AreCountsJudged}
use Rattle.disk_judge.specs.declared.counts.Mark.{Mark}
use Rattle.disk_check.proofs.Looking.{all_uses, all_faults}
use Rattle.disk_check.proofs.shared.faults_shared.Goals as goal

pub returns-clause-faults : goal.returns-clause-faults
returns-clause-faults g c = λ told.
    let metadata = c.args.metadata.now in
    let image = (g.D.Disk.view c.args.disk.now).image in
    let disk = over metadata image in
    let found = c.in_ok-found.found in
    let has = c.in_ok-found.ensures.found told in
    let whole : has.slots ≡ 16 = ⊎_elim (λ e. e) (λ both. absurd (false≢true both.0)) has.all in
    let uses = c.as_slice-2.ensures.value ∙ all_uses disk false found has whole in
    let marks = subst (λ (l : List Mark). AreMarks (uses_of disk) metadata.blocks l) (sym c.as_slice-3.ensures.value)
    (subst (λ (l : List Use). AreMarks l metadata.blocks c.in_ok-marks.marks.items) uses c.in_ok-marks.ensures) in
    let counts = subst (λ (l : List Bool). AreCountsJudged disk l) (sym c.as_slice-4.ensures.value) (c.in_ok-counts.ensures.each image marks) in
    all_faults disk false found has whole _ (c.in_ok-faults.ensures image counts)
