use Rattle.std.proofs.Common.{Bool, Err, Ok, false, subst, sym, true, ◌≡◌}
use Rattle.std.proofs.lemmas.Result.{IfOk-weaker}
use Rattle.host_asks.specs.Asking.{AsksFor, doing}
use Rattle.host_asks.specs.Going.{Goes, SettlesOn}
use Rattle.host_asks.specs.Going.Goes.{Finds, IsRefused, LacksIt}
use Rattle.host_calls.specs.Looking.{Walked}
use Rattle.host_walk.specs.declared.sight.Stop.{Stop}
use Rattle.host_asks.proofs.going.walk.Goals as goal

pub returns-in-Err-Lacks : goal.returns-in-Err-Lacks
returns-in-Err-Lacks c =
    let old = (doing c.args.tables.now c.args.draft.now) in
    let new = (doing c.lack.new.tables c.lack.new.draft) in
    let need = c.in-Err-Lacks.need in
    let walked = subst (λ (s : Stop). Walked c.args.tables.now c.args.current.call.now c.args.root c.args.path.now
    (Err s)) c.in-Err-Lacks.field-0-is c.in-Err-Lacks.ensures.walked in
    IfOk-weaker c.lack.result
    (λ answered. (answered ≡ false) × AsksFor need c.args.current.k c.args.current.call.now old new)
    (λ answered. Goes c.args.current.k c.args.current.call.now c.args.current.first old new answered)
    (λ answered p. subst (λ (b : Bool). Goes c.args.current.k c.args.current.call.now c.args.current.first old new b)
    (sym p.0)
    (LacksIt c.requires.idle c.args.root c.args.path.now c.requires.walks need walked p.1))
    c.lack.ensures

pub returns-in-Err-Refused : goal.returns-in-Err-Refused
returns-in-Err-Refused c =
    let old = (doing c.args.tables.now c.args.draft.now) in
    let new = (doing c.refuse.new.tables c.refuse.new.draft) in
    let refusal = c.in-Err-Refused.refusal in
    let walked = subst (λ (s : Stop). Walked c.args.tables.now c.args.current.call.now c.args.root c.args.path.now
    (Err s)) c.in-Err-Refused.field-0-is c.in-Err-Refused.ensures.walked in
    IfOk-weaker c.refuse.result
    (λ answered. (answered ≡ true) × SettlesOn c.args.current.k c.args.current.call.now c.args.current.first
    c.args.root c.args.path.now (Err refusal) old new true)
    (λ answered. Goes c.args.current.k c.args.current.call.now c.args.current.first old new answered)
    (λ answered p. subst (λ (b : Bool). Goes c.args.current.k c.args.current.call.now c.args.current.first old new b)
    (sym p.0)
    (IsRefused c.requires.idle c.args.root c.args.path.now c.requires.walks refusal walked p.1.marked p.1.marks
    p.1.settles))
    c.refuse.ensures

pub find-requires : goal.find-requires
find-requires c = c.in-Ok.ensures.backed c.requires.fresh

pub returns-in-Ok : goal.returns-in-Ok
returns-in-Ok c =
    let old = (doing c.args.tables.now c.args.draft.now) in
    let new = (doing c.find.new.tables c.find.new.draft) in
    IfOk-weaker c.find.result
    (λ answered. SettlesOn c.args.current.k c.args.current.call.now c.args.current.first c.args.root c.args.path.now
    (Ok c.in-Ok.verdict) old new answered)
    (λ answered. Goes c.args.current.k c.args.current.call.now c.args.current.first old new answered)
    (λ answered s. Finds c.requires.idle c.args.root c.args.path.now c.requires.walks c.in-Ok.verdict
    c.in-Ok.ensures.walked c.in-Ok.ensures.leads s.marked s.marks answered s.settles)
    c.find.ensures
