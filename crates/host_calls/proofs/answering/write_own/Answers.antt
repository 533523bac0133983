use Rattle.std.proofs.Common.{List, ap, refl, subst, sym, ℕ}
use Rattle.std.proofs.lemmas.Result.{on_ok_weaker}
use Rattle.host_calls.specs.Answering.{WritesBytes}
use Rattle.host_calls.specs.Answering.ChangesOwn.{WritesIt}
use Rattle.host_calls.specs.Looking.{bytes_of}
use Rattle.host_calls.proofs.answering.write_own.Goals as goal

pub returns : goal.returns
returns c =
    on_ok_weaker c.write.result
    (λ w. WritesIt c.args.fid c.args.from c.args.to (subst (λ (b : List ℕ). WritesBytes c.args.tables.now c.args.fid
    c.args.from c.args.to b c.write.new.tables) (sym (ap bytes_of c.in-Write.is)) w) refl) c.write.ensures
