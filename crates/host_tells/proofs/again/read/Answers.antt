use Rattle.host_tells.proofs.Placing.{kept_again, kept_so}
use Rattle.host_tells.proofs.again.read.Goals as goal

pub read_known-requires-clause-known : goal.read_known-requires-clause-known
read_known-requires-clause-known c =
    c.requires.last c.in-Some.known c.in-Some.ensures.known c.args.place.now c.in-Some.ensures.place

pub returns-in-Some-clause-last : goal.returns-in-Some-clause-last
returns-in-Some-clause-last c =
    kept_again c.read_known.new.tables c.args.last.now c.args.place.now c.in-Some.known c.read_known.ensures.known
    c.in-Some.ensures.known c.in-Some.ensures.place

pub returns-in_ok-count-in-Some-found-clause-last : goal.returns-in_ok-count-in-Some-found-clause-last
returns-in_ok-count-in-Some-found-clause-last c =
    kept_so c.read_found.new.tables c.keep.new.self c.args.place.now c.in-Some-found.known
    c.in_ok-count-in-Some-found.ensures.known c.keep.ensures
