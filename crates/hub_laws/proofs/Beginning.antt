-- Each host is told once that the setup host has ended.
use Rattle.std.proofs.Common.{◌≡◌, ℕ, ◌≤◌, Bool, true, false, ◌&&◌, not, cond, List, [], ◌∷◌, ◌++◌, map, Option, None}
use Rattle.std.proofs.Common.{Some, is_some, refl, sym, ap, ◌∙◌, subst, arith}
use Rattle.std.specs.Prelude.{slice_get}
use Rattle.std.specs.List.{count_by}
use Rattle.std.specs.Option.{option_map, option_map_or}
use Rattle.std.proofs.lemmas.List.Sums.{sum_by-cons}
use Rattle.base_types.specs.Lists.{changed_at}
use Rattle.base_types.specs.declared.ids.Node.{Node}
use Rattle.script_lines.specs.Sound.{same_node}
use Rattle.run_rules.specs.declared.step.Step.{Step}
use Rattle.hub_wire.specs.Networks.{lapse_place, next_copy}
use Rattle.hub_board.specs.Follows.{gone_in, place_of, with_begun, with_gone, with_raised, with_told}
use Rattle.hub_board.specs.Hubs.{AreGiven, Hubbed, after, all_raised, begins, flag_of, flags_of, follow_at, gift_for}
use Rattle.hub_board.specs.Hubs.{has_ended, may_begin, with_steps, with_turn, without}
use Rattle.hub_board.specs.declared.follow.Follow.{Follow}
use Rattle.hub_board.specs.declared.given.Gift.{Gift}
use Rattle.hub_board.specs.declared.given.Gift.TheVariants.{Message, Begun, Raised, Lapse}
use Rattle.hub_board.specs.declared.given.Turn.{Turn}
use Rattle.hub_laws.specs.Laws.{GivenIsBegun, is_begun}
use Rattle.hub_laws.proofs.Followed.{at_all, at_changed}
use Rattle.hub_laws.proofs.Nodes.{node_same}

-- whether a node was told
abbrev told : Option Follow → Bool
told o = option_map_or (λ (f : Follow). f.begun) o false

same_told : (change : Follow → Follow) → ((f : Follow) → (change f).begun ≡ f.begun) → (o : Option Follow)
    → told (option_map change o) ≡ told o
same_told change keeps None = refl
same_told change keeps (Some f) = keeps f

either_told : (change : Follow → Follow) → ((f : Follow) → (change f).begun ≡ f.begun) → (b : Bool) (o : Option Follow)
    → told (cond b (option_map change o) o) ≡ told o
either_told change keeps true o = same_told change keeps o
either_told change keeps false o = refl

raised_told : (n : Node) (flags : List (List ℕ)) (follows : List Follow)
    → told (slice_get (all_raised flags follows) (place_of (all_raised flags follows) n))
    ≡ told (slice_get follows (place_of follows n))
raised_told n [] follows = refl
raised_told n (flag ∷ flags) follows =
    raised_told n flags (map (with_raised flag) follows)
    ∙ ap told (at_all (with_raised flag) (λ f. refl) follows n)
    ∙ same_told (with_raised flag) (λ f. refl) (slice_get follows (place_of follows n))

handed_told : (hub : Hubbed) (r n : Node) (steps : List Step)
    → told (follow_at (with_steps hub r steps) n) ≡ told (follow_at hub n)
handed_told hub r n steps =
    raised_told n (flags_of hub r steps) (changed_at hub.follows (place_of hub.follows r) (with_gone (gone_in steps)))
    ∙ ap told (at_changed (with_gone (gone_in steps)) (λ f. refl) r hub.follows n)
    ∙ either_told (with_gone (gone_in steps)) (λ f. refl) (same_node r n) (follow_at hub n)

-- no other gift changes it
given_told : (hub : Hubbed) (r n : Node) (gift : Option Gift) → (same_node r n && is_begun gift) ≡ false
    → told (follow_at (without gift r hub) n) ≡ told (follow_at hub n)
given_told hub r n None e = refl
given_told hub r n (Some Message) e = refl
given_told hub r n (Some Lapse) e = refl
given_told hub r n (Some Raised) e =
    ap told (at_changed with_told (λ f. refl) r hub.follows n)
    ∙ either_told with_told (λ f. refl) (same_node r n) (follow_at hub n)
given_told hub r n (Some Begun) e =
    ap told (at_changed with_begun (λ f. refl) r hub.follows n) ∙ by_test (same_node r n) e
  where
    by_test : (b : Bool) → (b && true) ≡ false → told (cond b (option_map with_begun (follow_at hub n))
        (follow_at hub n)) ≡ told (follow_at hub n)
    by_test true e = absurd (cc)
    by_test false e = refl

is_first : (a b c d : Bool) → Some Begun ≡ cond a (Some Message)
    (cond b (Some Begun) (cond c (Some Raised) (cond d (Some Lapse) None)))
    → b ≡ true
is_first true b c d e = absurd (cc)
is_first false true c d e = refl
is_first false false true d e = absurd (cc)
is_first false false false true e = absurd (cc)
is_first false false false false e = absurd (cc)

both_true : (a b : Bool) → (a && b) ≡ true → (a ≡ true) × (b ≡ true)
both_true true true e = (refl, refl)
both_true true false e = absurd (cc)
both_true false b e = absurd (cc)

begun_is : (gift : Option Gift) → is_begun gift ≡ true → gift ≡ Some Begun
begun_is (Some Begun) e = refl
begun_is None e = absurd (cc)
begun_is (Some Message) e = absurd (cc)
begun_is (Some Raised) e = absurd (cc)
begun_is (Some Lapse) e = absurd (cc)

-- where it is given, the setup host has ended, and the node was not told
given_when : (hub : Hubbed) (r : Node) (gift : Option Gift) → gift ≡ gift_for hub r → is_begun gift ≡ true
    → (may_begin r ≡ true) × (has_ended hub ≡ true) × (told (follow_at hub r) ≡ false)
given_when hub r gift e b =
    let there = is_first (is_some (next_copy hub.net r)) (may_begin r && begins hub r) (is_some (flag_of hub r))
    (is_some (lapse_place hub.net r)) (sym (begun_is gift b) ∙ e) in
    let one = both_true (may_begin r) (begins hub r) there in
    let two = both_true (has_ended hub) (option_map_or (λ (f : Follow). not f.begun) (follow_at hub r) false) one.1 in
    (one.0, two.0, untold (follow_at hub r) two.1)
  where
    negated : (b : Bool) → not b ≡ true → b ≡ false
    negated true e = absurd (cc)
    negated false e = refl

    untold : (o : Option Follow) → option_map_or (λ (f : Follow). not f.begun) o false ≡ true → told o ≡ false
    untold None e = refl
    untold (Some f) e = negated f.begun e

told_then : (hub : Hubbed) (r n : Node) → same_node r n ≡ true → told (follow_at hub n) ≡ false
    → option_map_or (λ (f : Follow). not f.begun) (follow_at hub n) false ≡ true
    → told (follow_at (without (Some Begun) r hub) n) ≡ true
told_then hub r n e was_not some =
    ap told (at_changed with_begun (λ f. refl) r hub.follows n)
    ∙ ap (λ b. told (cond b (option_map with_begun (follow_at hub n)) (follow_at hub n))) e ∙ by_follow
    (follow_at hub n) some
  where
    by_follow : (o : Option Follow) → option_map_or (λ (f : Follow). not f.begun) o false ≡ true
        → told (option_map with_begun o) ≡ true
    by_follow None h = absurd (cc)
    by_follow (Some f) h = refl

module _ (node : Node) where
  abbrev tells : Turn → Bool
  tells t = same_node t.node node && is_begun t.gift

  abbrev one_of : Turn → ℕ
  one_of t = cond (tells t) 1 0

  -- once told, a node is told no more; else once at most
  counted : (turns : List Turn) (hub : Hubbed) → AreGiven hub turns
      → (told (follow_at hub node) ≡ true → count_by tells turns ≡ 0) × (count_by tells turns ≤ 1)
  counted [] hub g = ((λ e. refl), omega arith)
  counted (t ∷ turns) hub g = by_test (tells t) refl (counted turns (with_turn hub t) g.1)
    where
      by_test : (b : Bool) → tells t ≡ b
          → (told (follow_at (with_turn hub t) node) ≡ true → count_by tells turns ≡ 0) × (count_by tells turns ≤ 1)
          → (told (follow_at hub node) ≡ true → count_by tells (t ∷ turns) ≡ 0) × (count_by tells (t ∷ turns) ≤ 1)
      by_test true e again =
          let b = both_true (same_node t.node node) (is_begun t.gift) e in
          let r = node_same t.node node b.0 in
          let hub2 = with_steps hub t.node t.steps in
          let when = given_when hub2 t.node t.gift g.0 b.1 in
          let there = is_first (is_some (next_copy hub2.net t.node)) (may_begin t.node && begins hub2 t.node)
          (is_some (flag_of hub2 t.node)) (is_some (lapse_place hub2.net t.node)) (sym (begun_is t.gift b.1) ∙ g.0) in
          let some = (both_true (has_ended hub2) (option_map_or (λ (f : Follow). not f.begun) (follow_at hub2 t.node)
          false)
          (both_true (may_begin t.node) (begins hub2 t.node) there).1).1 in
          let was_not : told (follow_at hub2 node) ≡ false = subst (λ n. told (follow_at hub2 n) ≡ false) r when.2 in
          let now : told (follow_at (with_turn hub t) node) ≡ true =
          ap (λ (g : Option Gift). told (follow_at (without g t.node hub2) node)) (begun_is t.gift b.1)
          ∙ told_then hub2 t.node node b.0 was_not
          (subst (λ n. option_map_or (λ (f : Follow). not f.begun) (follow_at hub2 n) false ≡ true) r some) in
          let none = again.0 now in
          let c = sum_by-cons one_of t turns in
          let one : cond {A = ℕ} (tells t) 1 0 ≡ 1 = ap (λ b. cond b 1 0) e in (
            (λ was. let clash : true ≡ false = sym was ∙ sym (handed_told hub t.node node t.steps) ∙ was_not in
                absurd (cc)),
            omega arith,
          )
      by_test false e again =
          let hub2 = with_steps hub t.node t.steps in
          let same = given_told hub2 t.node node t.gift e ∙ handed_told hub t.node node t.steps in
          let c = sum_by-cons one_of t turns in
          let z : cond {A = ℕ} (tells t) 1 0 ≡ 0 = ap (λ b. cond b 1 0) e in
          let few = again.1 in (
            (λ was. let none = again.0 (same ∙ was) in omega arith),
            omega arith,
          )

given_at : (earlier later : List Turn) (t : Turn) (first : Hubbed) → AreGiven first (earlier ++ t ∷ later)
    → t.gift ≡ gift_for (with_steps (after first earlier) t.node t.steps) t.node
given_at [] later t first g = g.0
given_at (x ∷ earlier) later t first g = given_at earlier later t (with_turn first x) g.1

pub given_is_begun : GivenIsBegun
given_is_begun first turns given = record {
  once = (λ node. (counted node turns first given).1);
  ended = (λ earlier later t e b.
      let g = given_at earlier later t first (subst (AreGiven first) e given) in
      let w = given_when (with_steps (after first earlier) t.node t.steps) t.node t.gift g b in
      (w.0, w.1));
}
