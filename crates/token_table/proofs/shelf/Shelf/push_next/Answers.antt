use Rattle.std.proofs.Common.{[], ◌∷◌, ◌++◌, ap, sym, ◌∙◌, arith}
use Rattle.std.specs.List.{filter}
use Rattle.token_table.specs.declared.places.Kept.TheVariants.{UpTo}
use Rattle.token_table.specs.Places.{ShelfView}
use Rattle.token_table.specs.Shelves.{keeps}
use Rattle.token_table.specs.Tables.{token_for}
use Rattle.token_table.proofs.Running.{run_starts, run_more}
use Rattle.token_table.proofs.shelf.Shelf.push_next.Goals as goal

pub loop-need-init : goal.loop-need-init
loop-need-init c =
    ((omega arith), run_starts c.args.self.now c.args.last c.args.host c.args.needs.now c.requires.up_to)

pub returns-in-Err-clause-err : goal.returns-in-Err-clause-err
returns-in-Err-clause-err c =
    let start = c.args.self.now in
    let last = c.args.last in
    let now = c.loop-need.self in
    let run = c.loop-need.invariant.1 in
    c.keep.ensures
    ∙ ap (λ (v : ShelfView). record v { tokens = filter (keeps v.server v.epoch (UpTo last)) v.tokens })
    c.in-Err.ensures.err
    ∙ (λ i. record {
      server = run.server i;
      epoch = run.epoch i;
      tokens = filter (keeps (run.server i) (run.epoch i) (UpTo last)) now.tokens;
    })
    ∙ (λ i. record { server = start.server; epoch = start.epoch; tokens = run.back i })

pub loop-need-preserved : goal.loop-need-preserved
loop-need-preserved c =
    let start = c.args.self.now in
    let now = c.loop-need.self in
    let i = c.loop-need.invariant in
    let run = i.1 in
    let need = c.need-item.result in
    let server = ap (λ (v : ShelfView). v.server) c.self.view_is ∙ run.server in
    let epoch = ap (λ (v : ShelfView). v.epoch) c.self.view_is ∙ run.epoch in
    let token = c.token_for-token.ensures ∙ (λ j. token_for (server j) (epoch j) (i.0 j) c.args.host need) in (
      (let e = i.0 in omega arith),
      run_more start c.args.last c.args.host c.args.needs.now c.loop-need.need-index now run need c.push.new.self
          c.loop-need-test.true (sym c.need-item.is)
          (c.in_default.ensures.after ∙ ap (λ t. record now { tokens = now.tokens ++ t ∷ [] }) token),
    )
