use Rattle.std.proofs.Common.{Ok, Some, ap, sym, ◌∙◌, ◌-◌}
use Rattle.host_calls.proofs.Replied.{bytes_same}
use Rattle.host_calls.specs.Looking.{meant}
use Rattle.host_calls.specs.declared.looking.Verdict.{Verdict}
use Rattle.need_host.specs.Calls.{reply_now}
use Rattle.tree_calls.specs.declared.reply.Reply.TheVariants.{Bytes}
use Rattle.host_calls.proofs.answering.reply_of.Goals as goal

pub returns-in_ok-bytes_of-in-Reads : goal.returns-in_ok-bytes_of-in-Reads
returns-in_ok-bytes_of-in-Reads c =
    let m = c.args.tables.now in
    let fid = c.in-Reads.fid in
    let span = c.in-Reads.span in
    let same = c.in_ok-bytes_of-in-Reads.ensures ∙ bytes_same m fid span.from (span.to - span.from) in
    λ call. ap (λ (v : Verdict). reply_now (meant m call (Ok v))) c.in-Reads.is ∙ ap (λ b. Some (Bytes b)) (sym same)
