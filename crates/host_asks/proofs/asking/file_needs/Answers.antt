use Rattle.std.proofs.Common.{List, subst, sym, ◌∙◌}
use Rattle.std.proofs.lemmas.Result.{IfOk-weaker}
use Rattle.host_asks.specs.Fetching.{AddsClean, AreFetchable, AsksFile}
use Rattle.host_asks.proofs.Fetched.{asks_bytes, asks_status}
use Rattle.host_asks.proofs.Sound.{bytes_sound, front_sound}
use Rattle.token_types.specs.declared.token.Need.{Need}
use Rattle.host_asks.proofs.asking.file_needs.Goals as goal

pub returns-in-Some-clause-asks : goal.returns-in-Some-clause-asks
returns-in-Some-clause-asks c =
    let front = c.in_ok-needs.ensures in
    IfOk-weaker c.with_clean.result
    (λ all. AddsClean c.args.tables.now c.args.fid c.in-Some.update c.in-Some.span c.in_ok-needs.needs all)
    (λ all. AsksFile c.args.tables.now c.args.call.now c.args.fid c.args.length all)
    (λ all adds. asks_bytes c.args.tables.now c.args.fid c.args.call.now c.args.length front.0 front.2
    c.in-Some.update c.in-Some.span
    (sym c.wanted_bytes.ensures ∙ c.in-Some.is) all
    (subst (λ (needs : List Need). AddsClean c.args.tables.now c.args.fid c.in-Some.update c.in-Some.span needs all)
    front.1 adds))
    c.with_clean.ensures

pub returns-in-None-clause-asks : goal.returns-in-None-clause-asks
returns-in-None-clause-asks c =
    let front = c.in_ok-needs.ensures in
    subst (AsksFile c.args.tables.now c.args.call.now c.args.fid c.args.length) (sym front.1)
    (asks_status c.args.tables.now c.args.fid c.args.call.now c.args.length front.0 front.2 (sym
    c.wanted_bytes.ensures ∙ c.in-None.is))

pub returns-in-Some-clause-sound : goal.returns-in-Some-clause-sound
returns-in-Some-clause-sound c =
    let m = c.args.tables.now in
    let fid = c.args.fid in
    let front = c.in_ok-needs.ensures in
    IfOk-weaker c.with_clean.result
    (λ all. AddsClean m fid c.in-Some.update c.in-Some.span c.in_ok-needs.needs all)
    (λ all. AreFetchable all)
    (λ all adds. bytes_sound m c.args.call.now fid c.args.length front.0 front.2 c.in-Some.update c.in-Some.span all
    (subst (λ (needs : List Need). AddsClean m fid c.in-Some.update c.in-Some.span needs all) front.1 adds))
    c.with_clean.ensures

pub returns-in-None-clause-sound : goal.returns-in-None-clause-sound
returns-in-None-clause-sound c =
    let front = c.in_ok-needs.ensures in
    subst (λ (needs : List Need). AreFetchable needs) (sym front.1)
    (front_sound c.args.tables.now c.args.call.now c.args.fid c.args.length front.0 front.2)
