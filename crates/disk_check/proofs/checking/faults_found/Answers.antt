use Rattle.std.proofs.Common.{◌≡◌, ◌∙◌, List, sym, ap, subst, length, ⊎_elim}
use Rattle.std.specs.Prelude.{nat_lt, slice_get, Bool}
use Rattle.std.proofs.lemmas.Bool.{and_parts, and_from, ltb-true, lt-ltb, false≢true}
use Rattle.disk_image.specs.Counts.{uses_of}
use Rattle.disk_image.specs.declared.found.Use.{Use}
use Rattle.disk_image.specs.declared.fault.Fault.{Fault}
use Rattle.disk_judge.specs.Metadata.{over}
use Rattle.disk_judge.specs.Marks.{AreMarks}
use Rattle.disk_judge.specs.Judged.{AreCountsJudged}
use Rattle.disk_judge.specs.declared.counts.Mark.{Mark}
use Rattle.disk_check.proofs.Looking.{first_is, all_uses, all_faults}
use Rattle.disk_check.proofs.checking.faults_found.Goals as goal

pub returns-then-is_done-clause-faults : goal.returns-then-is_done-clause-faults
returns-then-is_done-clause-faults g c = λ told.
    let disk = over c.args.metadata.now (g.D.Disk.view c.args.disk.now).image in
    let has = c.in_ok-found.ensures.found told in
    let faults = c.in_ok-found.found.faults.items in
    let parts = and_parts c.args.stops (nat_lt 0 (length faults)) (sym c.is_done.ensures ∙ c.if-is_done.true) in
    record {
      are = λ off. absurd (false≢true (sym off ∙ parts.0));
      first = first_is disk c.args.stops c.in_ok-found.found has (ltb-true 0 (length faults) parts.1);
    }

pub returns-clause-faults : goal.returns-clause-faults
returns-clause-faults g c = λ told.
    let metadata = c.args.metadata.now in
    let image = (g.D.Disk.view c.args.disk.now).image in
    let disk = over metadata image in
    let stops = c.args.stops in
    let found = c.in_ok-found.found in
    let has = c.in_ok-found.ensures.found told in
    let fails = sym c.is_done.ensures ∙ c.if-is_done.false in
    let whole : has.slots ≡ 16 =
    ⊎_elim (λ e. e) (λ both. absurd (false≢true (sym fails ∙ and_from stops (nat_lt 0 (length found.faults.items)) both.0 (lt-ltb 0 (length found.faults.items) both.1)))) has.all in
    let uses = c.as_slice-2.ensures.value ∙ all_uses disk stops found has whole in
    let marks = subst (λ (l : List Mark). AreMarks (uses_of disk) metadata.blocks l) (sym c.as_slice-3.ensures.value)
    (subst (λ (l : List Use). AreMarks l metadata.blocks c.in_ok-marks.marks.items) uses c.in_ok-marks.ensures) in
    let counts = subst (λ (l : List Bool). AreCountsJudged disk l) (sym c.as_slice-4.ensures.value) (c.in_ok-counts.ensures.each image marks) in
    let all = all_faults disk stops found has whole _ (c.in_ok-faults.ensures image counts) in
    record { are = λ off. all; first = ap (λ (l : List Fault). slice_get l 0) all }
