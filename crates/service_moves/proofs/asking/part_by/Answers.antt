use Rattle.service_moves.proofs.Twice.{asked_again, still_leaves}
use Rattle.service_moves.proofs.asking.part_by.Goals as goal

pub returns-in_ok-reopen-in-Err-Failed-clause-leaves : goal.returns-in_ok-reopen-in-Err-Failed-clause-leaves
returns-in_ok-reopen-in-Err-Failed-clause-leaves g c tells =
    let first = c.in-Err-Failed.ensures.asked in
    let opened = c.in_ok-reopen-in-Err-Failed.ensures in
    let second = c.ship_part-in-Err-Failed.ensures.asked in
    asked_again (g.S.Store.view c.args.store.now) (g.S.Store.view c.ship_part.new.self) (g.S.Store.view c.reopen.new.self) (g.S.Store.view c.ship_part-in-Err-Failed.new.self)
    (first.state tells) (opened.state tells) (first.leaves tells) (opened.leaves tells) (second.leaves tells)

pub returns-in_err-reopen-in-Err-Failed-clause-leaves : goal.returns-in_err-reopen-in-Err-Failed-clause-leaves
returns-in_err-reopen-in-Err-Failed-clause-leaves g c tells =
    let first = c.in-Err-Failed.ensures.asked in
    still_leaves (g.S.Store.view c.args.store.now) (g.S.Store.view c.ship_part.new.self) (g.S.Store.view c.reopen.new.self)
    (first.state tells) (first.leaves tells) (c.in_err-reopen-in-Err-Failed.ensures.leaves tells)
