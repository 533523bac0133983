use Rattle.std.proofs.Common.{None, Some, subst, ◌∷◌, ◌≡◌, []}
use Rattle.std.proofs.lemmas.Result.{IfOk-weaker}
use Rattle.host_asks.specs.Fetching.{AsksStatus, StatusAsked}
use Rattle.host_asks.proofs.asking.status_needs.Goals as goal

pub returns-in-Some : goal.returns-in-Some
returns-in-Some c =
    IfOk-weaker c.one_need.result (λ needs. needs ≡ c.in-Some.need ∷ [])
    (AsksStatus c.args.tables.now c.args.call.now c.args.fid c.args.length)
    (λ needs is. (
      Some c.in-Some.need,
      is,
      subst (StatusAsked c.args.tables.now c.args.call.now c.args.fid c.args.length) c.in-Some.is
          c.status_to_fetch.ensures,
    )) c.one_need.ensures

pub returns-in-None : goal.returns-in-None
returns-in-None c = (
  None,
  c.new.ensures,
  subst (StatusAsked c.args.tables.now c.args.call.now c.args.fid c.args.length) c.in-None.is
      c.status_to_fetch.ensures,
)
