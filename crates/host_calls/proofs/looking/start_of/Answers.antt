use Rattle.std.proofs.Common.{Some, [], ap, false, inl, inr, subst, sym, true, ◌≡◌}
use Rattle.host_calls.proofs.Starting.{at_pathless, freed_backed, freed_pathless, label_backed, label_pathless}
use Rattle.host_calls.proofs.Starting.{starts_clone, starts_close, starts_in, starts_lock}
use Rattle.host_calls.proofs.Starting.{place_of, starts_move, starts_new, starts_open, starts_unlock}
use Rattle.host_calls.specs.Looking.{IsPathless, taken_label}
use Rattle.host_calls.proofs.looking.start_of.Goals as goal

pub returns-in-MoveFileset-clause-starts : goal.returns-in-MoveFileset-clause-starts
returns-in-MoveFileset-clause-starts c =
    rw c.in-MoveFileset.is (starts_move c.args.tables.now c.in-MoveFileset.server c.in-MoveFileset.fileset
    c.in-MoveFileset.to c.from_root.result c.from_root.ensures)

pub returns-in-Unlock-clause-starts : goal.returns-in-Unlock-clause-starts
returns-in-Unlock-clause-starts c =
    rw (c.in-Unlock.is, c.freed.ensures) (starts_unlock c.args.tables.now c.in-Unlock.label)

pub returns-in-Unlock-clause-backed : goal.returns-in-Unlock-clause-backed
returns-in-Unlock-clause-backed c =
    rw c.freed.ensures (freed_backed c.args.tables.now true c.in-Unlock.label c.args.call.now c.in-Unlock.is)

pub returns-in-CloseFile-clause-starts : goal.returns-in-CloseFile-clause-starts
returns-in-CloseFile-clause-starts c =
    rw (c.in-CloseFile.is, c.freed-in-CloseFile.ensures) (starts_close c.args.tables.now c.in-CloseFile.label)

pub returns-in-CloseFile-clause-backed : goal.returns-in-CloseFile-clause-backed
returns-in-CloseFile-clause-backed c =
    rw c.freed-in-CloseFile.ensures
    (freed_backed c.args.tables.now false c.in-CloseFile.label c.args.call.now c.in-CloseFile.is)

pub returns-in-Lock-clause-starts : goal.returns-in-Lock-clause-starts
returns-in-Lock-clause-starts c =
    rw c.in-Lock.is (starts_lock c.args.tables.now c.in-Lock.label c.in-Lock.place c.in-Lock.writing c.in-Lock.from
    c.in-Lock.len c.labelled.result c.labelled.ensures)

pub returns-in-Lock-clause-backed : goal.returns-in-Lock-clause-backed
returns-in-Lock-clause-backed c =
    label_backed c.args.tables.now c.args.call.now true c.in-Lock.label c.in-Lock.place c.labelled.result
    (ap taken_label c.in-Lock.is) c.labelled.ensures

pub returns-in-OpenFile-clause-starts : goal.returns-in-OpenFile-clause-starts
returns-in-OpenFile-clause-starts c =
    rw c.in-OpenFile.is (starts_open c.args.tables.now c.in-OpenFile.label c.in-OpenFile.place c.in-OpenFile.kind
    c.labelled-in-OpenFile.result c.labelled-in-OpenFile.ensures)

pub returns-in-OpenFile-clause-backed : goal.returns-in-OpenFile-clause-backed
returns-in-OpenFile-clause-backed c =
    label_backed c.args.tables.now c.args.call.now false c.in-OpenFile.label c.in-OpenFile.place
    c.labelled-in-OpenFile.result (ap taken_label c.in-OpenFile.is) c.labelled-in-OpenFile.ensures

pub returns-in-Create-clause-starts : goal.returns-in-Create-clause-starts
returns-in-Create-clause-starts c =
    let m = c.args.tables.now in
    let place_is : place_of m c.args.call.now ≡ Some c.in-Create.place =
    elim (c.in-Create.is) [
      | inl e0 ↦ ap (place_of m) e0
      | inr r1 ↦ elim (r1) [
        | inl e1 ↦ ap (place_of m) e1
        | inr
            r2 ↦ elim (r2) [
              | inl e2 ↦ ap (place_of m) e2
              | inr r3 ↦ elim (r3) [
                | inl e3 ↦ ap (place_of m) e3.1
                | inr r4 ↦
                    elim (r4) [
                      | inl e4 ↦ ap (place_of m) e4.1
                      | inr r5 ↦ elim (r5) [
                        | inl e5 ↦ ap (place_of m) e5.2
                        | inr r6 ↦
                            elim (r6) [
                              | inl e6 ↦ ap (place_of m) e6.2
                              | inr r7 ↦ elim (r7) [
                                | inl e7 ↦ ap (place_of m) e7.2
                                | inr r8 ↦
                                    elim (r8) [
                                      | inl e8 ↦ ap (place_of m) e8
                                      | inr r9 ↦ elim (r9) [
                                        | inl e9 ↦ ap (place_of m) e9
                                        | inr r10 ↦ elim
                                            (r10) [ inl e10 ↦ ap (place_of m) e10.1 | inr r11 ↦ ap (place_of m) r11 ]
                                      ]
                                    ]
                              ]
                            ]
                      ]
                    ]
              ]
            ]
      ]
    ]
    in
    starts_in m c.args.call.now c.in-Create.place place_is c.in_place.result c.in_place.ensures

pub returns-in-NewFileset-clause-starts : goal.returns-in-NewFileset-clause-starts
returns-in-NewFileset-clause-starts c =
    let m = c.args.tables.now in
    let call = c.args.call.now in
    let server = c.in-NewFileset.server in
    elim c.in-NewFileset.is [
      | inl e ↦ starts_new m call server e.0 e.1 e.2 e.3
      | inr e ↦ starts_clone m call server e.0 e.1 e.2
    ]

pub returns-in-MoveFileset-clause-pathless : goal.returns-in-MoveFileset-clause-pathless
returns-in-MoveFileset-clause-pathless c =
    at_pathless c.args.tables.now c.in-MoveFileset.server c.in-MoveFileset.fileset [] c.from_root.result
    c.from_root.ensures

pub returns-in-Unlock-clause-pathless : goal.returns-in-Unlock-clause-pathless
returns-in-Unlock-clause-pathless c =
    subst IsPathless (sym c.freed.ensures) (freed_pathless c.args.tables.now true c.in-Unlock.label)

pub returns-in-CloseFile-clause-pathless : goal.returns-in-CloseFile-clause-pathless
returns-in-CloseFile-clause-pathless c =
    subst IsPathless (sym c.freed-in-CloseFile.ensures) (freed_pathless c.args.tables.now false c.in-CloseFile.label)

pub returns-in-Lock-clause-pathless : goal.returns-in-Lock-clause-pathless
returns-in-Lock-clause-pathless c =
    label_pathless c.args.tables.now true c.in-Lock.label c.in-Lock.place c.labelled.result c.labelled.ensures

pub returns-in-OpenFile-clause-pathless : goal.returns-in-OpenFile-clause-pathless
returns-in-OpenFile-clause-pathless c =
    label_pathless c.args.tables.now false c.in-OpenFile.label c.in-OpenFile.place c.labelled-in-OpenFile.result
    c.labelled-in-OpenFile.ensures

pub returns-in-Create-clause-pathless : goal.returns-in-Create-clause-pathless
returns-in-Create-clause-pathless c =
    let place = c.in-Create.place in
    at_pathless c.args.tables.now place.server place.fileset place.path c.in_place.result c.in_place.ensures
