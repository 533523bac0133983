use Rattle.std.proofs.Common.{ap, false, true}
use Rattle.std.proofs.lemmas.Result.{on_ok_weaker}
use Rattle.host_calls.proofs.Replied.{taken_is}
use Rattle.host_calls.specs.Answering.ChangesOwn.{UsesIt}
use Rattle.host_calls.specs.Looking.{taken_label}
use Rattle.host_labels.specs.Labels.{is_lock}
use Rattle.host_calls.proofs.answering.use_own.Goals as goal

pub returns-in-Lock : goal.returns-in-Lock
returns-in-Lock c =
    let taken = taken_is (taken_label c.args.call.now) (is_lock c.args.kind) true c.requires.label c.in-Lock.label
    c.requires.taken (ap taken_label c.in-Lock.is) in
    on_ok_weaker c.begin_use.result (λ b. UsesIt c.args.fid c.args.kind c.in-Lock.label taken b) c.begin_use.ensures

pub returns-in-OpenFile : goal.returns-in-OpenFile
returns-in-OpenFile c =
    let taken = taken_is (taken_label c.args.call.now) (is_lock c.args.kind) false c.requires.label
    c.in-OpenFile.label c.requires.taken (ap taken_label c.in-OpenFile.is) in
    on_ok_weaker c.begin_use-in-OpenFile.result
    (λ b. UsesIt c.args.fid c.args.kind c.in-OpenFile.label taken b) c.begin_use-in-OpenFile.ensures
