use Rattle.std.proofs.Common.{List, None, ap, subst, sym, ◌≡◌}
use Rattle.std.proofs.lemmas.Result.{on_ok_weaker}
use Rattle.host_calls.proofs.Owned.{exact_is, exact_there}
use Rattle.host_labels.specs.Labels.{InUse, is_lock, use_of}
use Rattle.run_rules.specs.declared.step.Labelled.{Labelled}
use Rattle.token_types.specs.declared.token.Kind.{Kind}
use Rattle.host_calls.proofs.answering.begin_use.Goals as goal

pub returns-in_default : goal.returns-in_default
returns-in_default c =
    absurd (exact_there c.args.tables.now c.args.fid c.args.kind c.requires.kind c.requires.covered
    (sym c.in_default.ensures))

pub take-requires : goal.take-requires
take-requires c =
    let e = exact_is c.args.tables.now c.args.fid c.args.kind c.in-Some.token (sym c.in-Some.ensures) in
    subst (λ (k : Kind). use_of c.args.tables.now.uses (is_lock k) c.args.label.now ≡ None) (sym e.2) c.requires.unused

pub returns : goal.returns
returns c =
    let m = c.args.tables.now in
    let e = exact_is m c.args.fid c.args.kind c.in-Some.token (sym c.in-Some.ensures) in
    on_ok_weaker c.push.result (λ p. record {
      begun = record { label = c.in_ok-label.label; token = c.in-Some.token };
      takes = record {
        label_is = c.in_ok-label.ensures;
        is_held = e.0;
        file = e.1;
        exact = e.2;
        shown = c.set_use.ensures;
        tables = ap (λ (u : InUse). record m { cache = c.set_use.new.self; uses = u }) c.in_ok-take.ensures.after;
      };
      draft_is = ap (λ (b : List Labelled). record c.args.draft.now { begun = b }) p;
    }) c.push.ensures.ok
