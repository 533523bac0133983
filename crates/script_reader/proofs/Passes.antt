-- The passes behind `stuck_at` are an order in which lines go.
use Rattle.std.proofs.Common.{◌≡◌, ℕ, zero, suc, ◌≤◌, List, [], ◌∷◌, ◌++◌, length, take, drop, take-append-drop, filter, filter_map, Bool, true, false, cond, ◌||◌, ◌==◌, Option, Some, None, is_some, slice_get, refl, sym, ap, ◌∙◌, arith, append_assoc, append-nil, take_all, le_refl}
use Rattle.std.specs.List.{list_all, cons_option}
use Rattle.std.proofs.lemmas.Bool.{and_parts, and_from, or_parts, eqb-true}
use Rattle.std.proofs.lemmas.List.Folds.{list_any-append, list_all-append}
use Rattle.std.proofs.lemmas.List.Elements.{filter-append, filter_map-append}
use Rattle.base_types.specs.declared.ids.Node.{Node}
use Rattle.base_types.specs.declared.ids.Node.TheVariants.{Host, Server}
use Rattle.script_lines.specs.Sound.{same_node, is_of}
use Rattle.script_lines.specs.declared.script.Line.{Line}
use Rattle.script_lines.specs.declared.script.Deed.{Deed}
use Rattle.script_lines.specs.declared.script.Deed.TheVariants.{Call, Raise, Await, Stop, Restart}
use Rattle.script_reader.specs.Walk.{is_blocked, can_go, gone, stepped, stepped_at, walk_of, pass_from, count_up, after_pass, rounds, number_of, first_number, stuck_at}
use Rattle.script_reader.specs.Orders.{flags_after, flags_from, flags_of, flags_met, IsOrder}
use Rattle.script_reader.specs.Laws.{AllLinesGo}
use Rattle.script_reader.specs.declared.walk.Walk.{Walk}
use Rattle.script_reader.proofs.Ahead.{none_left}

-- nodes that are the same by the test are the same
pub node_is : (a b : Node) → same_node a b ≡ true → a ≡ b
node_is (Host a) (Host b) e = ap (λ (n : ℕ). Host (record { 0 = n })) (eqb-true a.0 b.0 e)
node_is (Server a) (Server b) e = ap (λ (n : ℕ). Server (record { 0 = n })) (eqb-true a.0 b.0 e)
node_is (Host a) (Server b) e = absurd (cc)
node_is (Server a) (Host b) e = absurd (cc)

pub flags_push : (flags : List (List ℕ)) (went : List Line) (line : Line) → flags_from flags (went ++ line ∷ []) ≡ flags_after (flags_from flags went) line.deed
flags_push flags [] line = refl
flags_push flags (first ∷ went) line = flags_push (flags_after flags first.deed) went line

pub met_push : (flags : List (List ℕ)) (went : List Line) (line : Line) → flags_met flags went ≡ true → can_go (flags_from flags went) line.deed ≡ true → flags_met flags (went ++ line ∷ []) ≡ true
met_push flags [] line met goes = and_from (can_go flags line.deed) true goes refl
met_push flags (first ∷ went) line met goes =
    let parts = and_parts (can_go flags first.deed) (flags_met (flags_after flags first.deed) went) met in
    and_from (can_go flags first.deed) (flags_met (flags_after flags first.deed) (went ++ line ∷ [])) parts.0 (met_push (flags_after flags first.deed) went line parts.1 goes)

-- the lines at places
abbrev pub lines_at : List Line → List ℕ → List Line
lines_at lines places = filter_map (slice_get lines) places

abbrev pub are_there : List Line → List ℕ → Bool
are_there lines places = list_all (λ place. is_some (slice_get lines place)) places

-- what a pass keeps that has these lines before it
pub record IsPassing (lines : List Line) (walk : Walk) (more : List Line) : Type 0 where
  pub went : List Line
  pub flags : flags_of went ≡ walk.flags
  pub met : flags_met [] went ≡ true
  pub each : (node : Node) → filter (is_of node) went ++ (filter (is_of node) (lines_at lines walk.left) ++ filter (is_of node) more) ≡ filter (is_of node) lines
  pub apart : (node : Node) → is_blocked walk.blocked node ≡ false → filter (is_of node) (lines_at lines walk.left) ≡ []
  pub there : are_there lines walk.left ≡ true

-- a line of another node isn't kept by a filter
pub none_of : (node : Node) (line : Line) → is_of node line ≡ false → filter (is_of node) (line ∷ []) ≡ []
none_of node line e = rw e refl

pub split_first : (node : Node) (line : Line) (more : List Line) → filter (is_of node) (line ∷ more) ≡ filter (is_of node) (line ∷ []) ++ filter (is_of node) more
split_first node line more = filter-append (is_of node) (line ∷ []) more

pub at_push : (lines : List Line) (left : List ℕ) (place : ℕ) (line : Line) → slice_get lines place ≡ Some line → lines_at lines (left ++ place ∷ []) ≡ lines_at lines left ++ line ∷ []
at_push lines left place line e = filter_map-append (slice_get lines) left (place ∷ []) ∙ ap (λ o. lines_at lines left ++ cons_option o []) e

pub there_push : (lines : List Line) (left : List ℕ) (place : ℕ) (line : Line) → slice_get lines place ≡ Some line → are_there lines left ≡ true → are_there lines (left ++ place ∷ []) ≡ true
there_push lines left place line e h =
    rw (list_all-append (λ p. is_some (slice_get lines p)) left (place ∷ [])) (and_from (are_there lines left) (are_there lines (place ∷ [])) h (and_from (is_some (slice_get lines place)) true (ap is_some e) refl))

-- a line stays
pub line_stays : (lines more : List Line) (walk : Walk) (place : ℕ) (line : Line) (blocked : List Node) → slice_get lines place ≡ Some line
    → ((node : Node) → is_blocked blocked node ≡ false → (is_blocked walk.blocked node ≡ false) × (is_of node line ≡ false))
    → IsPassing lines walk (line ∷ more) → IsPassing lines (record walk { left = walk.left ++ place ∷ []; blocked = blocked }) more
line_stays lines more walk place line blocked e free h = record {
  went = h.went;
  flags = h.flags;
  met = h.met;
  each = λ node.
      rw (at_push lines walk.left place line e, filter-append (is_of node) (lines_at lines walk.left) (line ∷ []), append_assoc, ← split_first node line more) (h.each node);
  apart = λ node f.
      rw (at_push lines walk.left place line e, filter-append (is_of node) (lines_at lines walk.left) (line ∷ []), h.apart node (free node f).0, none_of node line (free node f).1) refl;
  there = there_push lines walk.left place line e h.there;
}

-- a line goes
pub one_goes : (lines more : List Line) (walk : Walk) (line : Line) → is_blocked walk.blocked line.node ≡ false → can_go walk.flags line.deed ≡ true
    → IsPassing lines walk (line ∷ more) → IsPassing lines (record walk { flags = flags_after walk.flags line.deed }) more
one_goes lines more walk line free goes h = record {
  went = h.went ++ line ∷ [];
  flags = flags_push [] h.went line ∙ ap (λ f. flags_after f line.deed) h.flags;
  met = met_push [] h.went line h.met (rw h.flags goes);
  each = λ node. went_each node (is_of node line) refl;
  apart = h.apart;
  there = h.there;
}
  where
    went_each : (node : Node) (mine : Bool) → is_of node line ≡ mine → filter (is_of node) (h.went ++ line ∷ []) ++ (filter (is_of node) (lines_at lines walk.left) ++ filter (is_of node) more) ≡ filter (is_of node) lines
    went_each node true e =
        let same : line.node ≡ node = node_is line.node node e in
        let none : filter (is_of node) (lines_at lines walk.left) ≡ [] = h.apart node (rw (← same) free) in
        let was : filter (is_of node) h.went ++ ([] ++ filter (is_of node) (line ∷ more)) ≡ filter (is_of node) lines = rw none at (h.each node) in
        rw (none, filter-append (is_of node) h.went (line ∷ []), append_assoc, ← split_first node line more) was
    went_each node false e =
        rw (filter-append (is_of node) h.went (line ∷ []), none_of node line e, append-nil (filter (is_of node) h.went)) (rw (split_first node line more, none_of node line e) at (h.each node))

pub gone_is : (walk : Walk) (deed : Deed) → gone walk deed ≡ record walk { flags = flags_after walk.flags deed }
gone_is walk (Raise flag) = refl
gone_is walk (Call call) = refl
gone_is walk (Await flag) = refl
gone_is walk Stop = refl
gone_is walk Restart = refl

pub step_keeps : (lines more : List Line) (walk : Walk) (place : ℕ) (line : Line) → slice_get lines place ≡ Some line → IsPassing lines walk (line ∷ more) → IsPassing lines (stepped walk place line) more
step_keeps lines more walk place line e h = by_test (is_blocked walk.blocked line.node) (can_go walk.flags line.deed) refl refl
  where
    by_test : (blocked goes : Bool) → is_blocked walk.blocked line.node ≡ blocked → can_go walk.flags line.deed ≡ goes
        → IsPassing lines (cond blocked (record walk { left = walk.left ++ place ∷ [] }) (cond goes (gone walk line.deed) (record walk { left = walk.left ++ place ∷ []; blocked = walk.blocked ++ line.node ∷ [] }))) more
    by_test true goes b g = line_stays lines more walk place line walk.blocked e (λ node f. (f, not_his node (is_of node line) refl f)) h
      where
        not_his : (node : Node) (mine : Bool) → is_of node line ≡ mine → is_blocked walk.blocked node ≡ false → mine ≡ false
        not_his node false o f = refl
        not_his node true o f = let held : is_blocked walk.blocked node ≡ true = rw (← node_is line.node node o) b in absurd (cc)
    by_test false true b g = rw (gone_is walk line.deed) (one_goes lines more walk line b g h)
    by_test false false b g = line_stays lines more walk place line (walk.blocked ++ line.node ∷ []) e free h
      where
        free : (node : Node) → is_blocked (walk.blocked ++ line.node ∷ []) node ≡ false → (is_blocked walk.blocked node ≡ false) × (is_of node line ≡ false)
        free node f =
            let parts = or_parts (is_blocked walk.blocked node) (is_of node line || false) (rw (list_any-append (λ other. same_node other node) walk.blocked (line.node ∷ [])) at f) in
            (parts.0, (or_parts (is_of node line) false parts.1).0)

pub step_at_keeps : (lines more : List Line) (walk : Walk) (place : ℕ) (found : Option Line) → slice_get lines place ≡ found → IsPassing lines walk (cons_option found more) → IsPassing lines (stepped_at walk place found) more
step_at_keeps lines more walk place None e h = h
step_at_keeps lines more walk place (Some line) e h = step_keeps lines more walk place line e h

pub pass_keeps : (lines : List Line) (walk : Walk) (places : List ℕ) → IsPassing lines walk (lines_at lines places) → IsPassing lines (pass_from lines walk places) []
pass_keeps lines walk [] h = h
pass_keeps lines walk (place ∷ places) h = pass_keeps lines (stepped_at walk place (slice_get lines place)) places (step_at_keeps lines (lines_at lines places) walk place (slice_get lines place) refl h)

-- lines went in some order, and these are left
pub record IsWalked (lines : List Line) (flags : List (List ℕ)) (places : List ℕ) : Type 0 where
  pub went : List Line
  pub flags_are : flags_of went ≡ flags
  pub met : flags_met [] went ≡ true
  pub each : (node : Node) → filter (is_of node) went ++ filter (is_of node) (lines_at lines places) ≡ filter (is_of node) lines
  pub there : are_there lines places ≡ true

pub after_a_pass : (lines : List Line) (flags : List (List ℕ)) (places : List ℕ) → IsWalked lines flags places → IsWalked lines (pass_from lines (walk_of flags) places).flags (pass_from lines (walk_of flags) places).left
after_a_pass lines flags places h =
    let passed : IsPassing lines (pass_from lines (walk_of flags) places) [] = pass_keeps lines (walk_of flags) places (record {
      went = h.went;
      flags = h.flags_are;
      met = h.met;
      each = h.each;
      apart = λ node f. refl;
      there = refl;
    }) in
    record {
      went = passed.went;
      flags_are = passed.flags;
      met = passed.met;
      each = λ node. rw (append-nil (filter (is_of node) (lines_at lines (pass_from lines (walk_of flags) places).left))) at (passed.each node);
      there = passed.there;
    }

pub rounds_keep : (n : ℕ) (lines : List Line) (flags : List (List ℕ)) (places : List ℕ) → IsWalked lines flags places → (raised : List (List ℕ)) × IsWalked lines raised (rounds n lines flags places)
rounds_keep zero lines flags places h = (flags, h)
rounds_keep (suc n) lines flags places h = by_test (length (pass_from lines (walk_of flags) places).left == length places) (λ k. rounds_keep n lines (pass_from lines (walk_of flags) places).flags (pass_from lines (walk_of flags) places).left k)
  where
    by_test : (same : Bool)
        → (IsWalked lines (pass_from lines (walk_of flags) places).flags (pass_from lines (walk_of flags) places).left → (raised : List (List ℕ)) × IsWalked lines raised (rounds n lines (pass_from lines (walk_of flags) places).flags (pass_from lines (walk_of flags) places).left))
        → (raised : List (List ℕ)) × IsWalked lines raised (cond same (pass_from lines (walk_of flags) places).left (rounds n lines (pass_from lines (walk_of flags) places).flags (pass_from lines (walk_of flags) places).left))
    by_test true rest = ((pass_from lines (walk_of flags) places).flags, after_a_pass lines flags places h)
    by_test false rest = rest (after_a_pass lines flags places h)

-- counting up, all lines are there
pub take_one : (lines : List Line) (n : ℕ) → suc n ≤ length lines → (line : Line) × (slice_get lines n ≡ Some line) × (take (suc n) lines ≡ take n lines ++ line ∷ [])
take_one [] n h = absurd (omega arith)
take_one (line ∷ lines) zero h = (line, refl, refl)
take_one (line ∷ lines) (suc n) h = let one = take_one lines n (omega arith) in (one.0, one.1, ap (λ t. line ∷ t) one.2)

pub at_count : (lines : List Line) (n : ℕ) → n ≤ length lines → (lines_at lines (count_up n) ≡ take n lines) × (are_there lines (count_up n) ≡ true)
at_count lines zero h = (refl, refl)
at_count lines (suc n) h =
    let one = take_one lines n h in
    let before = at_count lines n (omega arith) in
    (at_push lines (count_up n) n one.0 one.1 ∙ ap (λ t. t ++ one.0 ∷ []) before.0 ∙ sym one.2, there_push lines (count_up n) n one.0 one.1 before.1)

pub at_start : (lines : List Line) → IsWalked lines [] (count_up (length lines))
at_start lines = record {
  went = [];
  flags_are = refl;
  met = refl;
  each = λ node. ap (λ ls. filter (is_of node) ls) ((at_count lines (length lines) (le_refl (length lines))).0 ∙ take_all (length lines) lines (le_refl (length lines)));
  there = (at_count lines (length lines) (le_refl (length lines))).1;
}

pub none_there : (lines : List Line) (places : List ℕ) → are_there lines places ≡ true → first_number lines places ≡ None → places ≡ []
none_there lines [] there none = refl
none_there lines (place ∷ places) there none = by_line (slice_get lines place) (and_parts (is_some (slice_get lines place)) (are_there lines places) there).0 none
  where
    by_line : (found : Option Line) → is_some found ≡ true → number_of found ≡ None → place ∷ places ≡ []
    by_line None h e = absurd (cc)
    by_line (Some line) h e = absurd (cc)

-- lines that aren't stuck go in some order
pub some_order : (lines : List Line) → stuck_at lines ≡ None → (order : List Line) × IsOrder lines order
unfolding stuck_at
some_order lines e =
    let walked : (raised : List (List ℕ)) × IsWalked lines raised (rounds (length lines) lines [] (count_up (length lines))) = rounds_keep (length lines) lines [] (count_up (length lines)) (at_start lines) in
    let none : rounds (length lines) lines [] (count_up (length lines)) ≡ [] = none_there lines (rounds (length lines) lines [] (count_up (length lines))) walked.1.there e in (
      walked.1.went,
      record {
        each = λ node. sym (append-nil (filter (is_of node) walked.1.went)) ∙ (rw none at (walked.1.each node));
        met = walked.1.met;
      },
    )

-- where lines aren't stuck, none is left in any order
pub all_go : AllLinesGo
all_go lines went left e begun stand node =
    let order : (order : List Line) × IsOrder lines order = some_order lines e in
    none_left lines went order.0 left begun order.1 stand node

-- lines that can go in the order in which they stand aren't stuck
pub pass-append : (lines : List Line) (walk : Walk) (a b : List ℕ) → pass_from lines walk (a ++ b) ≡ pass_from lines (pass_from lines walk a) b
pass-append lines walk [] b = refl
pass-append lines walk (place ∷ a) b = pass-append lines (stepped_at walk place (slice_get lines place)) a b

pub met_front : (flags : List (List ℕ)) (a b : List Line) → flags_met flags (a ++ b) ≡ true → flags_met flags a ≡ true
met_front flags [] b h = refl
met_front flags (line ∷ a) b h =
    let parts = and_parts (can_go flags line.deed) (flags_met (flags_after flags line.deed) (a ++ b)) h in
    and_from (can_go flags line.deed) (flags_met (flags_after flags line.deed) a) parts.0 (met_front (flags_after flags line.deed) a b parts.1)

pub met_last : (flags : List (List ℕ)) (a : List Line) (line : Line) → flags_met flags (a ++ line ∷ []) ≡ true → can_go (flags_from flags a) line.deed ≡ true
met_last flags [] line h = (and_parts (can_go flags line.deed) true h).0
met_last flags (first ∷ a) line h = met_last (flags_after flags first.deed) a line (and_parts (can_go flags first.deed) (flags_met (flags_after flags first.deed) (a ++ line ∷ [])) h).1

abbrev pub gone_to : List Line → Walk
gone_to went = record { flags = flags_of went; left = []; blocked = [] }

pub step_goes : (went : List Line) (place : ℕ) (line : Line) → can_go (flags_of went) line.deed ≡ true → stepped (gone_to went) place line ≡ gone_to (went ++ line ∷ [])
step_goes went place line goes = rw goes (gone_is (gone_to went) line.deed ∙ ap (λ (f : List (List ℕ)). record (gone_to went) { flags = f }) (sym (flags_push [] went line)))

pub whole_pass : (lines : List Line) (n : ℕ) → n ≤ length lines → flags_met [] lines ≡ true → pass_from lines (walk_of []) (count_up n) ≡ gone_to (take n lines)
whole_pass lines zero h met = refl
whole_pass lines (suc n) h met =
    let one = take_one lines n h in
    let front : flags_met [] (take n lines ++ one.0 ∷ []) ≡ true = rw one.2 at (met_front [] (take (suc n) lines) (drop (suc n) lines) (rw (take-append-drop (suc n) lines) met)) in
    pass-append lines (walk_of []) (count_up n) (n ∷ [])
    ∙ ap (λ w. pass_from lines w (n ∷ [])) (whole_pass lines n (omega arith) met)
    ∙ ap (λ o. stepped_at (gone_to (take n lines)) n o) one.1
    ∙ step_goes (take n lines) n one.0 (met_last [] (take n lines) one.0 front)
    ∙ ap gone_to (sym one.2)

pub rounds_of_none : (n : ℕ) (lines : List Line) (flags : List (List ℕ)) → rounds n lines flags [] ≡ []
rounds_of_none zero lines flags = refl
rounds_of_none (suc n) lines flags = refl

pub round_ends : (lines : List Line) (n count : ℕ) (went : List Line) → after_pass count (gone_to went) (λ walk. rounds n lines walk.flags walk.left) ≡ []
round_ends lines n count went = elim (0 == count) as (λ v. cond v [] (rounds n lines (flags_of went) []) ≡ []) [
  | true ↦ refl
  | false ↦ rounds_of_none n lines (flags_of went)
]

pub rounds_leave_none : (lines : List Line) → flags_met [] lines ≡ true → rounds (length lines) lines [] (count_up (length lines)) ≡ []
rounds_leave_none [] met = refl
rounds_leave_none (line ∷ more) met =
    ap (λ w. after_pass (length (count_up (length (line ∷ more)))) w (λ walk. rounds (length more) (line ∷ more) walk.flags walk.left)) (whole_pass (line ∷ more) (length (line ∷ more)) (le_refl (length (line ∷ more))) met)
    ∙ round_ends (line ∷ more) (length more) (length (count_up (length (line ∷ more)))) (take (length (line ∷ more)) (line ∷ more))

pub ordered_goes : (lines : List Line) → flags_met [] lines ≡ true → stuck_at lines ≡ None
unfolding stuck_at
ordered_goes lines met = ap (first_number lines) (rounds_leave_none lines met)
