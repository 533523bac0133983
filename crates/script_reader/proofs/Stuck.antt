-- Lines are stuck exactly where they go in no order.
use Rattle.std.proofs.Common.{◌≡◌, ℕ, zero, suc, ◌+◌, ◌≤◌, List, [], ◌∷◌, ◌++◌, length, filter, Bool, true, false, not, cond, ◌||◌, ◌==◌, Option, Some, None, is_some, slice_get, inl, inr, refl, ap, ◌∙◌, arith, length-append}
use Rattle.std.specs.List.{cons_option}
use Rattle.std.proofs.lemmas.Bool.{and_parts, or_cases, or_parts, eqb-true, eqb-false}
use Rattle.std.proofs.lemmas.List.Folds.{list_any-append}
use Rattle.std.proofs.lemmas.List.Elements.{filter-append}
use Rattle.base_types.specs.declared.ids.Node.{Node}
use Rattle.script_lines.specs.Sound.{same_node, is_of}
use Rattle.script_lines.specs.declared.script.Line.{Line}
use Rattle.script_reader.specs.Walk.{is_blocked, can_go, gone, stepped, stepped_at, walk_of, pass_from, count_up, rounds, number_of, first_number, stuck_at}
use Rattle.script_reader.specs.Orders.{flags_of, flags_met, IsOrder, stands}
use Rattle.script_reader.specs.Laws.{StuckWithoutOrder}
use Rattle.script_reader.specs.declared.walk.Walk.{Walk}
use Rattle.script_reader.proofs.Ahead.{same_itself, none_left}
use Rattle.script_reader.proofs.Passes.{node_is, lines_at, are_there, none_of, at_push, gone_is, IsWalked, after_a_pass, at_start, some_order}

-- lines of which the first can't go
abbrev pub holds : List (List ℕ) → List Line → Bool
holds flags [] = false
holds flags (line ∷ lines) = not (can_go flags line.deed)

pub holds_more : (flags : List (List ℕ)) (lines more : List Line) → holds flags lines ≡ true → holds flags (lines ++ more) ≡ true
holds_more flags [] more h = absurd (cc)
holds_more flags (line ∷ lines) more h = h

pub stands_held : (flags : List (List ℕ)) (lines : List Line) → holds flags lines ≡ true → stands flags lines ≡ true
stands_held flags [] h = refl
stands_held flags (line ∷ lines) h = h

-- each node that is blocked stands at a line that is left
abbrev pub AllHeld : List Line → Walk → Type 0
AllHeld lines walk = (node : Node) → is_blocked walk.blocked node ≡ true → holds walk.flags (filter (is_of node) (lines_at lines walk.left)) ≡ true

-- a pass leaves at most what it had
pub gone_left : (walk : Walk) (place : ℕ) (line : Line) → length (stepped walk place line).left ≤ length walk.left + 1
gone_left walk place line = by_test (is_blocked walk.blocked line.node) (can_go walk.flags line.deed)
  where
    long : length (walk.left ++ place ∷ []) ≤ length walk.left + 1
    long = omega (arith, length-append walk.left (place ∷ []))

    by_test : (blocked goes : Bool) → length (cond blocked (record walk { left = walk.left ++ place ∷ [] }) (cond goes (gone walk line.deed) (record walk { left = walk.left ++ place ∷ []; blocked = walk.blocked ++ line.node ∷ [] }))).left ≤ length walk.left + 1
    by_test true goes = long
    by_test false false = long
    by_test false true = rw (gone_is walk line.deed) (omega arith)

pub step_left : (walk : Walk) (place : ℕ) (found : Option Line) → length (stepped_at walk place found).left ≤ length walk.left + 1
step_left walk place None = omega arith
step_left walk place (Some line) = gone_left walk place line

pub pass_left : (lines : List Line) (walk : Walk) (places : List ℕ) → length (pass_from lines walk places).left ≤ length walk.left + length places
pass_left lines walk [] = omega arith
pass_left lines walk (place ∷ places) = omega (arith, pass_left lines (stepped_at walk place (slice_get lines place)) places, step_left walk place (slice_get lines place))

-- what a pass that moves nothing keeps
pub record IsResting (lines : List Line) (walk : Walk) (flags : List (List ℕ)) : Type 0 where
  pub flags_are : walk.flags ≡ flags
  pub held : AllHeld lines walk
  pub apart : (node : Node) → is_blocked walk.blocked node ≡ false → filter (is_of node) (lines_at lines walk.left) ≡ []

pub filter_push : (lines : List Line) (left : List ℕ) (place : ℕ) (line : Line) (node : Node) → slice_get lines place ≡ Some line → filter (is_of node) (lines_at lines (left ++ place ∷ [])) ≡ filter (is_of node) (lines_at lines left) ++ filter (is_of node) (line ∷ [])
filter_push lines left place line node e = ap (λ ls. filter (is_of node) ls) (at_push lines left place line e) ∙ filter-append (is_of node) (lines_at lines left) (line ∷ [])

pub blocked_rests : (lines : List Line) (walk : Walk) (place : ℕ) (line : Line) (flags : List (List ℕ)) → slice_get lines place ≡ Some line → is_blocked walk.blocked line.node ≡ true → IsResting lines walk flags → IsResting lines (record walk { left = walk.left ++ place ∷ [] }) flags
blocked_rests lines walk place line flags e b h = record {
  flags_are = h.flags_are;
  held = λ node k. rw (filter_push lines walk.left place line node e) (holds_more walk.flags (filter (is_of node) (lines_at lines walk.left)) (filter (is_of node) (line ∷ [])) (h.held node k));
  apart = λ node k. rw (filter_push lines walk.left place line node e, h.apart node k) (other node (is_of node line) refl k);
}
  where
    other : (node : Node) (mine : Bool) → is_of node line ≡ mine → is_blocked walk.blocked node ≡ false → filter (is_of node) (line ∷ []) ≡ []
    other node false o k = none_of node line o
    other node true o k = let held : is_blocked walk.blocked node ≡ true = rw (← node_is line.node node o) b in absurd (cc)

pub newly_rests : (lines : List Line) (walk : Walk) (place : ℕ) (line : Line) (flags : List (List ℕ)) → slice_get lines place ≡ Some line → is_blocked walk.blocked line.node ≡ false → can_go walk.flags line.deed ≡ false → IsResting lines walk flags → IsResting lines (record walk { left = walk.left ++ place ∷ []; blocked = walk.blocked ++ line.node ∷ [] }) flags
newly_rests lines walk place line flags e b g h = record {
  flags_are = h.flags_are;
  held = λ node k. rw (filter_push lines walk.left place line node e) (elim (or_cases (is_blocked walk.blocked node) (is_of node line || false) (rw (list_any-append (λ other. same_node other node) walk.blocked (line.node ∷ [])) at k)) [
    | inl old ↦ holds_more walk.flags (filter (is_of node) (lines_at lines walk.left)) (filter (is_of node) (line ∷ [])) (h.held node old)
    | inr new ↦ held_now node (or_true (is_of node line) new)
  ]);
  apart = λ node k.
      let parts = or_parts (is_blocked walk.blocked node) (is_of node line || false) (rw (list_any-append (λ other. same_node other node) walk.blocked (line.node ∷ [])) at k) in
      rw (filter_push lines walk.left place line node e, h.apart node parts.0) (none_of node line (or_parts (is_of node line) false parts.1).0);
}
  where
    or_true : (v : Bool) → (v || false) ≡ true → v ≡ true
    or_true true k = refl
    or_true false k = absurd (cc)

    held_now : (node : Node) → is_of node line ≡ true → holds walk.flags (filter (is_of node) (lines_at lines walk.left) ++ filter (is_of node) (line ∷ [])) ≡ true
    held_now node o =
        let same : line.node ≡ node = node_is line.node node o in
        let none : filter (is_of node) (lines_at lines walk.left) ≡ [] = h.apart node (rw (← same) b) in
        rw (none, o, g) refl

pub pass_rests : (lines : List Line) (walk : Walk) (places : List ℕ) (flags : List (List ℕ)) → are_there lines places ≡ true → length (pass_from lines walk places).left ≡ length walk.left + length places → IsResting lines walk flags → IsResting lines (pass_from lines walk places) flags
pass_rests lines walk [] flags there long h = h
pass_rests lines walk (place ∷ places) flags there long h =
    let parts = and_parts (is_some (slice_get lines place)) (are_there lines places) there in
    by_line (slice_get lines place) refl parts.0
    (pass_left lines (stepped_at walk place (slice_get lines place)) places) long
    (λ l r. pass_rests lines (stepped_at walk place (slice_get lines place)) places flags parts.1 l r)
  where
    step : Option Line → Walk
    step found = stepped_at walk place found

    by_tests : (line : Line) (blocked goes : Bool) → slice_get lines place ≡ Some line → is_blocked walk.blocked line.node ≡ blocked → can_go walk.flags line.deed ≡ goes
        → length walk.left + 1 ≤ length (cond blocked (record walk { left = walk.left ++ place ∷ [] }) (cond goes (gone walk line.deed) (record walk { left = walk.left ++ place ∷ []; blocked = walk.blocked ++ line.node ∷ [] }))).left
        → IsResting lines (cond blocked (record walk { left = walk.left ++ place ∷ [] }) (cond goes (gone walk line.deed) (record walk { left = walk.left ++ place ∷ []; blocked = walk.blocked ++ line.node ∷ [] }))) flags
    by_tests line true goes e b g l = blocked_rests lines walk place line flags e b h
    by_tests line false false e b g l = newly_rests lines walk place line flags e b g h
    by_tests line false true e b g l = let short : length walk.left + 1 ≤ length walk.left = rw (gone_is walk line.deed) at l in absurd (omega arith)

    by_line : (found : Option Line) → slice_get lines place ≡ found → is_some found ≡ true
        → length (pass_from lines (stepped_at walk place found) places).left ≤ length (stepped_at walk place found).left + length places
        → length (pass_from lines (stepped_at walk place found) places).left ≡ length walk.left + length (place ∷ places)
        → (length (pass_from lines (stepped_at walk place found) places).left ≡ length (stepped_at walk place found).left + length places → IsResting lines (stepped_at walk place found) flags → IsResting lines (pass_from lines (stepped_at walk place found) places) flags)
        → IsResting lines (pass_from lines (stepped_at walk place found) places) flags
    by_line None e some most long rest = absurd (cc)
    by_line (Some line) e some most long rest =
        let one = gone_left walk place line in
        rest (omega arith) (by_tests line (is_blocked walk.blocked line.node) (can_go walk.flags line.deed) e refl refl (omega arith))

-- lines went in some order until no node could go on
pub record IsAtRest (lines : List Line) (places : List ℕ) : Type 0 where
  pub went : List Line
  pub met : flags_met [] went ≡ true
  pub each : (node : Node) → filter (is_of node) went ++ filter (is_of node) (lines_at lines places) ≡ filter (is_of node) lines
  pub stand : (node : Node) → stands (flags_of went) (filter (is_of node) (lines_at lines places)) ≡ true

pub rests_after : (lines : List Line) (flags : List (List ℕ)) (places : List ℕ) → length (pass_from lines (walk_of flags) places).left ≡ length places → IsWalked lines flags places → IsAtRest lines (pass_from lines (walk_of flags) places).left
rests_after lines flags places long h =
    let after : IsWalked lines (pass_from lines (walk_of flags) places).flags (pass_from lines (walk_of flags) places).left = after_a_pass lines flags places h in
    let resting : IsResting lines (pass_from lines (walk_of flags) places) flags = pass_rests lines (walk_of flags) places flags h.there (omega arith) (record { flags_are = refl; held = λ node k. absurd (cc); apart = λ node k. refl }) in
    record {
      went = after.went;
      met = after.met;
      each = after.each;
      stand = λ node. rw after.flags_are (by_blocked node (is_blocked (pass_from lines (walk_of flags) places).blocked node) refl resting);
    }
  where
    by_blocked : (node : Node) (v : Bool) → is_blocked (pass_from lines (walk_of flags) places).blocked node ≡ v → IsResting lines (pass_from lines (walk_of flags) places) flags → stands (pass_from lines (walk_of flags) places).flags (filter (is_of node) (lines_at lines (pass_from lines (walk_of flags) places).left)) ≡ true
    by_blocked node true b r = stands_held (pass_from lines (walk_of flags) places).flags (filter (is_of node) (lines_at lines (pass_from lines (walk_of flags) places).left)) (r.held node b)
    by_blocked node false b r = rw (r.apart node b) refl

pub rounds_rest : (n : ℕ) (lines : List Line) (flags : List (List ℕ)) (places : List ℕ) → length places ≤ n → IsWalked lines flags places → IsAtRest lines (rounds n lines flags places)
rounds_rest zero lines flags [] few h = record { went = h.went; met = h.met; each = h.each; stand = λ node. refl }
rounds_rest zero lines flags (place ∷ places) few h = absurd (omega arith)
rounds_rest (suc n) lines flags places few h =
    by_test (length (pass_from lines (walk_of flags) places).left == length places) refl (pass_left lines (walk_of flags) places)
    (λ l. rounds_rest n lines (pass_from lines (walk_of flags) places).flags (pass_from lines (walk_of flags) places).left l (after_a_pass lines flags places h))
  where
    by_test : (same : Bool) → (length (pass_from lines (walk_of flags) places).left == length places) ≡ same → length (pass_from lines (walk_of flags) places).left ≤ 0 + length places
        → (length (pass_from lines (walk_of flags) places).left ≤ n → IsAtRest lines (rounds n lines (pass_from lines (walk_of flags) places).flags (pass_from lines (walk_of flags) places).left))
        → IsAtRest lines (cond same (pass_from lines (walk_of flags) places).left (rounds n lines (pass_from lines (walk_of flags) places).flags (pass_from lines (walk_of flags) places).left))
    by_test true e most rest = rests_after lines flags places (eqb-true (length (pass_from lines (walk_of flags) places).left) (length places) e) h
    by_test false e most rest = rest (omega (arith, eqb-false (length (pass_from lines (walk_of flags) places).left) (length places) e))

-- counted places are as many as they say
pub length-count_up : (n : ℕ) → length (count_up n) ≡ n
length-count_up zero = refl
length-count_up (suc n) = length-append (count_up n) (n ∷ []) ∙ omega (arith, length-count_up n)

pub none_filtered : (lines : List Line) → ((node : Node) → filter (is_of node) lines ≡ []) → lines ≡ []
none_filtered [] h = refl
none_filtered (line ∷ lines) h = let none : filter (is_of line.node) (line ∷ lines) ≡ [] = h line.node in let some : line ∷ filter (is_of line.node) lines ≡ [] = rw (same_itself line.node) at none in absurd (cc)

pub none_first : (lines : List Line) (places : List ℕ) → lines_at lines places ≡ [] → first_number lines places ≡ None
none_first lines [] e = refl
none_first lines (place ∷ places) e = by_line (slice_get lines place) e
  where
    by_line : (found : Option Line) → cons_option found (lines_at lines places) ≡ [] → number_of found ≡ None
    by_line None k = refl
    by_line (Some line) k = absurd (cc)

-- lines that go in some order aren't stuck
pub order_goes : (lines order : List Line) → IsOrder lines order → stuck_at lines ≡ None
unfolding stuck_at
order_goes lines order whole =
    let rest : IsAtRest lines (rounds (length lines) lines [] (count_up (length lines))) = rounds_rest (length lines) lines [] (count_up (length lines)) (omega (arith, length-count_up (length lines))) (at_start lines) in
    none_first lines (rounds (length lines) lines [] (count_up (length lines)))
    (none_filtered (lines_at lines (rounds (length lines) lines [] (count_up (length lines))))
    (λ node. none_left lines rest.went order (λ n. filter (is_of n) (lines_at lines (rounds (length lines) lines [] (count_up (length lines))))) (record { each = rest.each; met = rest.met }) whole rest.stand node))

pub stuck_without_order : StuckWithoutOrder
stuck_without_order lines = (some_order lines, λ whole. order_goes lines whole.0 whole.1)
