use Rattle.std.proofs.Common.{List, ◌++◌, ap, append-nil, append_assoc, map, sym, ◌∙◌}
use Rattle.token_types.specs.declared.token.Token.{Token}
use Rattle.host_gives.specs.Leavings.{GiveKey, leaving_at, leaving_in}
use Rattle.host_gives.specs.declared.leavings.Leaving.{Leaving}
use Rattle.host_gives.proofs.Left.{in_push}
use Rattle.host_gives.proofs.leavings.Leavings.to_items.Goals as goal

pub loop-key-init : goal.loop-key-init
loop-key-init c =
    ap (λ (l : List Leaving). l ++ leaving_in c.iter-gives.result) c.new-all.ensures
    ∙ ap (λ (es : List (GiveKey × List Token)). leaving_in es) c.iter-gives.ensures.rest ∙ c.self.view_is

pub loop-key-preserved : goal.loop-key-preserved
loop-key-preserved c =
    let left = leaving_in c.next_back.new.self in
    let key = c.in-Some.key.now in
    let tokens = c.in-Some.tokens.now in
    ap (λ (l : List Leaving). l ++ left) c.in_ok-push_all.ensures
    ∙ ap (λ (ts : List Token). (c.loop-key.all ++ map (leaving_at key) ts) ++ left) c.as_slice.ensures
    ∙ append_assoc c.loop-key.all (map (leaving_at key) tokens) left
    ∙ ap (λ (l : List Leaving). c.loop-key.all ++ l) (sym (in_push c.next_back.new.self key tokens))
    ∙ ap (λ (es : List (GiveKey × List Token)). c.loop-key.all ++ leaving_in es) (sym c.in-Some.ensures.steps)
    ∙ c.loop-key.invariant

pub returns : goal.returns
returns c =
    sym (append-nil c.loop-key.all)
    ∙ ap (λ (es : List (GiveKey × List Token)). c.loop-key.all ++ leaving_in es) (sym c.in_default.ensures.steps.0)
    ∙ c.loop-key.invariant
