-- Lines that are stuck are told by the least number of a line at which a node stands.
use Rattle.std.proofs.Common.{◌≡◌, ℕ, zero, suc, ◌<◌, ◌≤◌, List, [], ◌∷◌, ◌++◌, length, filter, Bool, true, false, cond, ◌==◌, nat_lt, Option, Some, None, slice_get, refl, sym, ap, ◌∙◌, arith, append_assoc, append-nil, take_all, le_refl}
use Rattle.std.specs.List.{cons_option}
use Rattle.std.proofs.lemmas.Bool.{and_parts, and_from, ltb-true, lt-ltb}
use Rattle.base_types.specs.declared.ids.Node.{Node}
use Rattle.script_lines.specs.Sound.{is_of, numbers_rise}
use Rattle.script_lines.specs.declared.script.Line.{Line}
use Rattle.script_reader.specs.Walk.{is_blocked, can_go, gone, stepped, stepped_at, walk_of, pass_from, count_up, rounds, number_of, first_number, stuck_at}
use Rattle.script_reader.specs.Orders.{IsBegun, AllStand, stands, flags_of}
use Rattle.script_reader.specs.Laws.{StandsAt, StuckNamesLeast}
use Rattle.script_reader.specs.declared.walk.Walk.{Walk}
use Rattle.script_reader.proofs.Ahead.{same_itself, same_left}
use Rattle.script_reader.proofs.Passes.{lines_at, at_push, gone_is, at_start, at_count}
use Rattle.script_reader.proofs.Stuck.{IsAtRest, length-count_up, rounds_rest}

-- numbers that rise, also without a line
pub rise_lower : (low number : ℕ) (lines : List Line) → low < number → numbers_rise number lines ≡ true → numbers_rise low lines ≡ true
rise_lower low number [] less h = refl
rise_lower low number (line ∷ lines) less h =
    let parts = and_parts (nat_lt number line.number) (numbers_rise line.number lines) h in
    let more = ltb-true number line.number parts.0 in
    and_from (nat_lt low line.number) (numbers_rise line.number lines) (lt-ltb low line.number (omega arith)) parts.1

pub rise_less : (low : ℕ) (lines : List Line) (line : Line) (more : List Line) → numbers_rise low (lines ++ line ∷ more) ≡ true → numbers_rise low (lines ++ more) ≡ true
rise_less low [] line more h = let parts = and_parts (nat_lt low line.number) (numbers_rise line.number more) h in rise_lower low line.number more (ltb-true low line.number parts.0) parts.1
rise_less low (first ∷ lines) line more h =
    let parts = and_parts (nat_lt low first.number) (numbers_rise first.number (lines ++ line ∷ more)) h in
    and_from (nat_lt low first.number) (numbers_rise first.number (lines ++ more)) parts.0 (rise_less first.number lines line more parts.1)

-- a pass leaves lines in their order
pub step_rises : (lines : List Line) (walk : Walk) (place : ℕ) (line : Line) (more : List Line) → slice_get lines place ≡ Some line → numbers_rise 0 (lines_at lines walk.left ++ line ∷ more) ≡ true → numbers_rise 0 (lines_at lines (stepped walk place line).left ++ more) ≡ true
step_rises lines walk place line more e h = by_tests (is_blocked walk.blocked line.node) (can_go walk.flags line.deed)
  where
    stays : numbers_rise 0 (lines_at lines (walk.left ++ place ∷ []) ++ more) ≡ true
    stays = rw (at_push lines walk.left place line e, append_assoc) h

    by_tests : (blocked goes : Bool) → numbers_rise 0 (lines_at lines (cond blocked (record walk { left = walk.left ++ place ∷ [] }) (cond goes (gone walk line.deed) (record walk { left = walk.left ++ place ∷ []; blocked = walk.blocked ++ line.node ∷ [] }))).left ++ more) ≡ true
    by_tests true goes = stays
    by_tests false false = stays
    by_tests false true = rw (gone_is walk line.deed) (rise_less 0 (lines_at lines walk.left) line more h)

pub step_at_rises : (lines : List Line) (walk : Walk) (place : ℕ) (found : Option Line) (more : List Line) → slice_get lines place ≡ found → numbers_rise 0 (lines_at lines walk.left ++ cons_option found more) ≡ true → numbers_rise 0 (lines_at lines (stepped_at walk place found).left ++ more) ≡ true
step_at_rises lines walk place None more e h = h
step_at_rises lines walk place (Some line) more e h = step_rises lines walk place line more e h

pub pass_rises : (lines : List Line) (walk : Walk) (places : List ℕ) → numbers_rise 0 (lines_at lines walk.left ++ lines_at lines places) ≡ true → numbers_rise 0 (lines_at lines (pass_from lines walk places).left) ≡ true
pass_rises lines walk [] h = rw (append-nil (lines_at lines walk.left)) at h
pass_rises lines walk (place ∷ places) h = pass_rises lines (stepped_at walk place (slice_get lines place)) places (step_at_rises lines walk place (slice_get lines place) (lines_at lines places) refl h)

pub rounds_rise : (n : ℕ) (lines : List Line) (flags : List (List ℕ)) (places : List ℕ) → numbers_rise 0 (lines_at lines places) ≡ true → numbers_rise 0 (lines_at lines (rounds n lines flags places)) ≡ true
rounds_rise zero lines flags places h = h
rounds_rise (suc n) lines flags places h =
    by_test (length (pass_from lines (walk_of flags) places).left == length places) (pass_rises lines (walk_of flags) places h)
    (λ k. rounds_rise n lines (pass_from lines (walk_of flags) places).flags (pass_from lines (walk_of flags) places).left k)
  where
    by_test : (same : Bool) → numbers_rise 0 (lines_at lines (pass_from lines (walk_of flags) places).left) ≡ true
        → (numbers_rise 0 (lines_at lines (pass_from lines (walk_of flags) places).left) ≡ true → numbers_rise 0 (lines_at lines (rounds n lines (pass_from lines (walk_of flags) places).flags (pass_from lines (walk_of flags) places).left)) ≡ true)
        → numbers_rise 0 (lines_at lines (cond same (pass_from lines (walk_of flags) places).left (rounds n lines (pass_from lines (walk_of flags) places).flags (pass_from lines (walk_of flags) places).left))) ≡ true
    by_test true k rest = k
    by_test false k rest = rest k

-- the line that is named comes first of those that are left
pub record IsNamed (lines : List Line) (places : List ℕ) (number : ℕ) : Type 0 where
  pub line : Line
  pub more : List Line
  pub first : lines_at lines places ≡ line ∷ more
  pub is : line.number ≡ number

pub named : (lines : List Line) (places : List ℕ) (number : ℕ) → first_number lines places ≡ Some number → IsNamed lines places number
named lines [] number e = absurd (cc)
named lines (place ∷ places) number e = by_line (slice_get lines place) refl e
  where
    by_line : (found : Option Line) → slice_get lines place ≡ found → number_of found ≡ Some number → IsNamed lines (place ∷ places) number
    by_line None k n = absurd (cc)
    by_line (Some line) k n = record { line = line; more = lines_at lines places; first = ap (λ o. cons_option o (lines_at lines places)) k; is = cc }

-- the first of some lines comes after the number that they rise from
pub first_above : (low : ℕ) (test : Line → Bool) (lines : List Line) (line : Line) (more : List Line) → numbers_rise low lines ≡ true → filter test lines ≡ line ∷ more → low < line.number
first_above low test [] line more h e = absurd (cc)
first_above low test (first ∷ lines) line more h e =
    by_test (test first) e (λ k. first_above first.number test lines line more (and_parts (nat_lt low first.number) (numbers_rise first.number lines) h).1 k)
  where
    above : low < first.number
    above = ltb-true low first.number (and_parts (nat_lt low first.number) (numbers_rise first.number lines) h).0

    by_test : (v : Bool) → cond v (first ∷ filter test lines) (filter test lines) ≡ line ∷ more → (filter test lines ≡ line ∷ more → first.number < line.number) → low < line.number
    by_test true k rest = let same : first ≡ line = cc in rw same at above
    by_test false k rest = let later = rest k in let here = above in omega arith

abbrev left_over : List Line → List ℕ
left_over lines = rounds (length lines) lines [] (count_up (length lines))

pub all_rise : (lines : List Line) → numbers_rise 0 lines ≡ true → numbers_rise 0 (lines_at lines (left_over lines)) ≡ true
all_rise lines h =
    let whole : lines_at lines (count_up (length lines)) ≡ lines = (at_count lines (length lines) (le_refl (length lines))).0 ∙ take_all (length lines) lines (le_refl (length lines)) in
    rounds_rise (length lines) lines [] (count_up (length lines)) (rw whole h)

pub stuck_names_least : StuckNamesLeast
unfolding stuck_at
stuck_names_least lines went left number rise begun stand stuck =
    let rest : IsAtRest lines (left_over lines) = rounds_rest (length lines) lines [] (count_up (length lines)) (omega (arith, length-count_up (length lines))) (at_start lines) in
    least (named lines (left_over lines) number stuck) (all_rise lines rise)
    (λ node. same_left lines went rest.went left (λ n. filter (is_of n) (lines_at lines (left_over lines))) begun (record { each = rest.each; met = rest.met }) stand rest.stand node)
  where
    least : IsNamed lines (left_over lines) number → numbers_rise 0 (lines_at lines (left_over lines)) ≡ true → ((node : Node) → left node ≡ filter (is_of node) (lines_at lines (left_over lines)))
        → StandsAt left number × ((node : Node) (line : Line) (more : List Line) → left node ≡ line ∷ more → number ≤ line.number)
    least h rises same = (
      record {
        node = h.line.node;
        line = h.line;
        more = filter (is_of h.line.node) h.more;
        stands = same h.line.node ∙ ap (λ ls. filter (is_of h.line.node) ls) h.first ∙ (rw (same_itself h.line.node) refl);
        is = h.is;
      },
      λ node line more e. at_least node line more (sym (ap (λ ls. filter (is_of node) ls) h.first) ∙ (sym (same node) ∙ e)),
    )
      where
        at_least : (node : Node) (line : Line) (more : List Line) → filter (is_of node) (h.line ∷ h.more) ≡ line ∷ more → number ≤ line.number
        at_least node line more e = by_test (is_of node h.line) e
          where
            later : numbers_rise h.line.number h.more ≡ true
            later = (and_parts (nat_lt 0 h.line.number) (numbers_rise h.line.number h.more) (rw h.first at rises)).1

            by_test : (v : Bool) → cond v (h.line ∷ filter (is_of node) h.more) (filter (is_of node) h.more) ≡ line ∷ more → number ≤ line.number
            by_test true k = let one : h.line ≡ line = cc in let its : h.line.number ≡ number = h.is in let moved : line.number ≡ number = rw one at its in omega arith
            by_test false k = let above = first_above h.line.number (is_of node) h.more line more later k in let its : h.line.number ≡ number = h.is in omega arith
