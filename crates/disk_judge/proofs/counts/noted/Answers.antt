use Rattle.disk_judge.proofs.Marking.{marked}
use Rattle.disk_judge.proofs.counts.noted.Goals as goal

pub returns : goal.returns
returns c = λ uses block is here. marked uses c.args.one.now block c.args.mark.now is _ here c.more.ensures c.more_in.ensures c.either.ensures c.either-2.ensures
