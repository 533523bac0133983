-- A turn goes on with what the turns before it have come to.
use Rattle.std.proofs.Common.{◌≡◌, ℕ, ◌+◌, ◌-◌, min, Bool, true, false, cond, List, [], ◌∷◌, ◌++◌, length, Option}
use Rattle.std.proofs.Common.{None, Some, refl, sym, ap, subst, ◌∙◌, arith}
use Rattle.std.specs.Option.{option_map_or}
use Rattle.base_types.specs.Lists.{changed_at}
use Rattle.base_types.specs.declared.ids.Node.{Node}
use Rattle.script_lines.specs.Sound.{same_node}
use Rattle.run_rules.specs.declared.step.Step.{Step}
use Rattle.hub_board.specs.Follows.{flags_next, place_of, setup_node, with_gone}
use Rattle.hub_board.specs.Hubs.{AreGiven, Hubbed, after, follow_at, gift_for, noted, with_steps, with_turn, without}
use Rattle.hub_board.specs.Laws.{GoesOn}
use Rattle.hub_board.specs.Turning.{IsOf, Posted, entered}
use Rattle.hub_board.specs.declared.follow.Follow.{Follow}
use Rattle.hub_board.specs.declared.given.Gift.{Gift}
use Rattle.hub_board.specs.declared.given.Turn.{Turn}
use Rattle.hub_board.specs.declared.tie.Tie.{Tie}
use Rattle.hub_board.proofs.Giving.{no_change, same_change}

append_none : {X : Type 0} (xs : List X) → xs ++ [] ≡ xs
append_none [] = refl
append_none (x ∷ xs) = ap (λ ys. x ∷ ys) (append_none xs)

after_append : (hub : Hubbed) (turns : List Turn) (t : Turn) → after hub (turns ++ t ∷ []) ≡ with_turn
    (after hub turns) t
after_append hub [] t = refl
after_append hub (x ∷ turns) t = after_append (with_turn hub x) turns t

given_append : (hub : Hubbed) (turns : List Turn) (t : Turn) → AreGiven hub turns
    → t.gift ≡ gift_for (with_steps (after hub turns) t.node t.steps) t.node → AreGiven hub (turns ++ t ∷ [])
given_append hub [] t h e = (e, tt)
given_append hub (x ∷ turns) t h e = (h.0, given_append (with_turn hub x) turns t h.1 e)

-- no steps change nothing
none_gone : (f : Follow) → with_gone 0 f ≡ f
none_gone f =
    let e : f.gone + min 0 (length f.marks - f.gone) ≡ f.gone = omega arith in
    ap (λ (n : ℕ). record f { gone = n }) e

none_raised : (o : Option Follow) → option_map_or (flags_next 0) o [] ≡ []
none_raised None = refl
none_raised (Some f) = refl

either : {X : Type 0} (b : Bool) (x : X) → cond b x x ≡ x
either true x = refl
either false x = refl

pub nothing_handed : (hub : Hubbed) (node : Node) → with_steps hub node [] ≡ hub
nothing_handed hub node =
    let gone : changed_at hub.follows (place_of hub.follows node) (with_gone 0) ≡ hub.follows =
    same_change (with_gone 0) (λ x. x) hub.follows (place_of hub.follows node) (λ x at. none_gone x)
    ∙ no_change hub.follows (place_of hub.follows node) in
    ap (λ flags. noted hub node [] flags) (none_raised (follow_at hub node))
    ∙ ap (λ (fs : List Follow). record hub {
      follows = fs;
      ties = cond (same_node node setup_node) hub.ties hub.ties;
    }) gone
    ∙ ap (λ (ts : List Tie). record hub { ties = ts }) (either (same_node node setup_node) hub.ties)

module _ (first : Hubbed) (before now : Posted) (o : IsOf first before) where
  one_more : (t : Turn) → t.gift ≡ gift_for (with_steps before.hub t.node t.steps) t.node
      → now.turns ≡ before.turns ++ t ∷ [] → now.hub ≡ with_turn before.hub t → IsOf first now
  one_more t g turns hub = record {
    hub = hub ∙ ap (λ (h : Hubbed). with_turn h t) o.hub ∙ sym (after_append first before.turns t) ∙ ap (after first)
        (sym turns);
    given = subst (AreGiven first) (sym turns) (given_append first before.turns t o.given
        (g ∙ ap (λ (h : Hubbed). gift_for (with_steps h t.node t.steps) t.node) o.hub));
  }

  no_more : (node : Node) → now.turns ≡ before.turns ++ [] → now.hub ≡ with_steps before.hub node [] → IsOf first now
  no_more node turns hub =
      let same = turns ∙ append_none before.turns in
      record {
        hub = hub ∙ nothing_handed before.hub node ∙ o.hub ∙ ap (after first) (sym same);
        given = subst (AreGiven first) (sym same) o.given;
      }

  by_entry : (node : Node) (steps : List Step) (gift : Option Gift) → gift ≡ gift_for
      (with_steps before.hub node steps) node
      → now.turns ≡ before.turns ++ entered node steps gift
      → now.hub ≡ without gift node (with_steps before.hub node steps) → IsOf first now
  by_entry node [] None g turns hub = no_more node turns hub
  by_entry node [] (Some gift) g turns hub = one_more (record { node = node; steps = []; gift = Some gift }) g turns hub
  by_entry node (s ∷ steps) gift g turns hub =
      one_more (record { node = node; steps = s ∷ steps; gift = gift }) g turns hub

pub goes_on : GoesOn
goes_on first before now node steps given o h = by_entry first before now o node steps h.gift_is h.first h.turns h.hub
