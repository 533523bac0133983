use Rattle.std.proofs.Common.{◌∙◌, ◌≤◌, ◌+◌, length, take, drop, List, subst, arith}
use Rattle.std.proofs.lemmas.List.{take-append-drop}
use Rattle.base_outside.proofs.Runs.{then, weaker, wider_changes, changes_settled, changes_leave}
use Rattle.disk_layout.specs.declared.entry.Entry.{Entry}
use Rattle.disk_layout.specs.Half.{IsLog}
use Rattle.disk_layout.proofs.Left.{start_high, behind_gates, at_gates, all_there}
use Rattle.disk_log.proofs.Pieces.{both_size, entries_as, gates_as, stand_as, open_as}
use Rattle.disk_log.proofs.Opening.{open_all, open_some}
use Rattle.disk_log.proofs.append.append.Goals as goal

pub returns-in_err-write_behind-clause-crash : goal.returns-in_err-write_behind-clause-crash
returns-in_err-write_behind-clause-crash g c = λ told superblock many is.
    let all = c.args.all.now in
    let fits : length (take c.args.forced all) + length (drop c.args.forced all) ≤ 2048 = let e = both_size all c.args.forced c.requires.forced in omega arith in
    changes_leave (wider_changes c.write_behind.ensures.crash (λ a b step. entries_as all c.args.forced c.requires.forced _ a b step))
    (behind_gates _ _ _ _ fits (c.requires.log told) (c.requires.whole told) superblock many is _ (c.requires.settled told))

pub returns-clause-crash : goal.returns-clause-crash
returns-clause-crash g c = λ told superblock many is.
    let all = c.args.all.now in
    let fits : length (take c.args.forced all) + length (drop c.args.forced all) ≤ 2048 = let e = both_size all c.args.forced c.requires.forced in omega arith in
    let staged = c.in_ok-write_behind.ensures in
    then (changes_leave (wider_changes c.write_behind.ensures.crash (λ a b step. entries_as all c.args.forced c.requires.forced _ a b step))
    (behind_gates _ _ _ _ fits (c.requires.log told) (c.requires.whole told) superblock many is _ (c.requires.settled told)))
    (weaker (changes_settled _ staged.settled c.open_first.ensures.crash)
    (λ d gates. at_gates _ _ _ _ fits (c.requires.log told) (c.requires.whole told) _ (entries_as all c.args.forced c.requires.forced _ _ _ (staged.same told)) (stand_as all c.args.forced c.requires.forced _ _ (staged.written told)) d
    (gates_as all c.args.forced c.requires.forced _ _ d gates) superblock many is _ (g.met.D.Disk.reads_one c.args.disk.now told)))

pub returns-clause-log : goal.returns-clause-log
returns-clause-log g c = λ told.
    let all = c.args.all.now in
    let fits : length (take c.args.forced all) + length (drop c.args.forced all) ≤ 2048 = let e = both_size all c.args.forced c.requires.forced in omega arith in
    let staged = c.in_ok-write_behind.ensures in
    open_some c.open_first.result (c.open_first.ensures.opened told)
    (λ opened. subst (λ (held : List Entry). IsLog c.args.half.now held (g.D.Disk.view c.open_first.new.disk).image) (take-append-drop c.args.forced all)
    (all_there _ _ _ _ fits (c.requires.log told) (c.requires.whole told) _ (entries_as all c.args.forced c.requires.forced _ _ _ (staged.same told)) (stand_as all c.args.forced c.requires.forced _ _ (staged.written told)) _
    (gates_as all c.args.forced c.requires.forced _ _ _ (c.open_first.ensures.same told)) (open_as all c.args.forced c.requires.forced c.args.half.now _
    (open_all c.args.half.now c.args.forced _ _ _ (staged.opened told) (c.open_first.ensures.above told) opened))))

pub returns-in_err-write_behind-clause-front : goal.returns-in_err-write_behind-clause-front
returns-in_err-write_behind-clause-front g c = λ told at lt.
    (c.write_behind.ensures.same told).below at (let e = start_high c.args.half.now (c.requires.log told).place in omega arith)

pub returns-clause-front : goal.returns-clause-front
returns-clause-front g c = λ told at lt.
    let e = start_high c.args.half.now (c.requires.log told).place in
    (c.open_first.ensures.same told).below at (omega arith) ∙ (c.write_behind.ensures.same told).below at (omega arith)
