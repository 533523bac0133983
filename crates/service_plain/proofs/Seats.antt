-- Where each node stands while lines go.
use Rattle.std.proofs.Common.{◌≡◌, ◌≢◌, ℕ, zero, suc, ◌+◌, ◌-◌, ◌<◌, ◌≤◌, nat_le, nat_lt, ◌&&◌, not, Bool, true, false, List, [], ◌∷◌, ◌++◌, length, drop, get_or, set, Option, Some, None, refl, sym, ap, subst, append_assoc, ◌∙◌, arith, rules, ◌⊎◌, inl, inr}
use Rattle.std.specs.Prelude.{filter, slice_get, IsPermutation}
use Rattle.std.proofs.lemmas.List.Sorted.{IsPermutation-refl, IsPermutation-trans, IsPermutation-append_right}
use Rattle.std.specs.List.{list_all}
use Rattle.std.proofs.lemmas.Bool.{eqb-true, eq-eqb}
use Rattle.std.proofs.lemmas.Bool.Decides.{eqb_tells}
use Rattle.std.proofs.lemmas.Option.{slice_get_within, slice_get_read, slice_get_past}
use Rattle.std.proofs.lemmas.Grind.{common_steps, flat_map-append}
use Rattle.std.proofs.lemmas.List.Elements.{filter-append}
use Rattle.std.proofs.lemmas.List.{append-nil}
use Rattle.std.proofs.Math.ListN.{length-set}
use native.Mathlib.Numerals.{unary_clauses}
use Rattle.base_types.specs.declared.ids.Node.{Node}
use Rattle.base_types.specs.declared.ids.Node.TheVariants.{Host, Server}
use Rattle.base_types.specs.declared.limits.TheConstants.{HOSTS_MAX, SERVERS_MAX}
use Rattle.script_lines.specs.declared.script.Line.{Line}
use Rattle.script_lines.specs.Sound.{same_node, is_of}
use Rattle.script_reader.specs.Walk.{can_go}
use Rattle.script_reader.specs.Orders.{IsOrder, flags_of, flags_met, flags_from, flags_after, stands, AllStand}
use Rattle.service_plain.specs.Seats.{seat_of, is_seated, next_of, lines_at, left_at, to_go, is_head, all_places, has_gone, places_left, AreHeads, AreAtFirst, AreFirst, IsStanding, can_go_at, is_ready}
use Rattle.service_plain.specs.declared.order.Order.{Order}
use Rattle.script_reader.specs.Walk.{stuck_at}
use Rattle.script_reader.proofs.Passes.{all_go}
use Rattle.service_plain.proofs.Places.{lt_true, lt_false, lt_tells, none_between, filter_range, none_in_range, one_less}

pub same_eq : (a b : Node) → same_node a b ≡ true → a ≡ b
same_eq (Host a) (Host b) h = ap (λ n. Host (record { 0 = n })) (eqb-true a.0 b.0 h)
same_eq (Host a) (Server b) h = cc
same_eq (Server a) (Host b) h = cc
same_eq (Server a) (Server b) h = ap (λ n. Server (record { 0 = n })) (eqb-true a.0 b.0 h)

pub drop_line : (lines : List Line) (place : ℕ) (line : Line) → slice_get lines place ≡ Some line → drop place lines ≡ line ∷ drop (place + 1) lines
drop_line [] place line h = cc
drop_line (first ∷ lines) zero line h = cc
drop_line (first ∷ lines) (suc place) line h = simp unary_clauses (simp unary_clauses at (drop_line lines place line h))

pub drop_none : (lines : List Line) (place : ℕ) → slice_get lines place ≡ None → drop place lines ≡ []
drop_none [] place h = grind (arith, common_steps)
drop_none (first ∷ lines) zero h = cc
drop_none (first ∷ lines) (suc place) h = drop_none lines place h

-- the first of a list passes a test, or not
pub filter_yes : (test : Line → Bool) (line : Line) (lines : List Line) → test line ≡ true → filter test (line ∷ lines) ≡ line ∷ filter test lines
filter_yes test line lines h = rw h refl

pub filter_no : (test : Line → Bool) (line : Line) (lines : List Line) → test line ≡ false → filter test (line ∷ lines) ≡ filter test lines
filter_no test line lines h = rw h refl

-- a line of another node is passed over
pub skip : (lines : List Line) (node : Node) (place : ℕ) (line : Line) → slice_get lines place ≡ Some line → is_of node line ≡ false →
    filter (is_of node) (drop (place + 1) lines) ≡ filter (is_of node) (drop place lines)
skip lines node place line h e = rw (drop_line lines place line h) (sym (filter_no (is_of node) line (drop (place + 1) lines) e))

-- the line at which a node stands is the first that it has left
pub first_left : (lines : List Line) (node : Node) (place : ℕ) (line : Line) → slice_get lines place ≡ Some line → is_of node line ≡ true →
    filter (is_of node) (drop place lines) ≡ line ∷ filter (is_of node) (drop (place + 1) lines)
first_left lines node place line h e = rw (drop_line lines place line h) (filter_yes (is_of node) line (drop (place + 1) lines) e)

pub drop_end : (lines : List Line) → drop (length lines) lines ≡ []
drop_end [] = refl
drop_end (line ∷ lines) = drop_end lines

pub place_line : (lines : List Line) (place : ℕ) → place < length lines → (line : Line) × (slice_get lines place ≡ Some line)
place_line [] place h = absurd (omega arith)
place_line (line ∷ lines) zero h = (line, refl)
place_line (line ∷ lines) (suc place) h = place_line lines place (omega arith)

pub line_within : (lines : List Line) (place : ℕ) (line : Line) → slice_get lines place ≡ Some line → place < length lines
line_within [] place line h = cc
line_within (first ∷ lines) zero line h = omega arith
line_within (first ∷ lines) (suc place) line h = let k = line_within lines place line h in omega arith

pub head_here : (lines : List Line) (node : Node) (place : ℕ) (line : Line) → slice_get lines place ≡ Some line → is_of node line ≡ true → is_head lines node place ≡ true
head_here lines node place line h e = rw h e

pub head_end : (lines : List Line) (node : Node) → is_head lines node (length lines) ≡ true
head_end [] node = refl
head_end (line ∷ lines) node = head_end lines node

pub skip_at : (lines : List Line) (node : Node) (place : ℕ) (line : Line) → place < length lines → line ≡ get_or lines place line → is_of node line ≡ false →
    filter (is_of node) (drop (place + 1) lines) ≡ filter (is_of node) (drop place lines)
skip_at lines node place line h k e = skip lines node place line (slice_get_read lines (length lines) place line refl h k) e

pub head_at : (lines : List Line) (node : Node) (place : ℕ) (line : Line) → place < length lines → line ≡ get_or lines place line → is_of node line ≡ true → is_head lines node place ≡ true
head_at lines node place line h k e = head_here lines node place line (slice_get_read lines (length lines) place line refl h k) e

-- two nodes are one, or differ
pub node_tells : (a b : Node) → (a ≡ b) ⊎ (same_node a b ≡ false)
node_tells (Host a) (Host b) = elim (eqb_tells a.0 b.0) as (λ _. (Host a ≡ Host b) ⊎ (same_node (Host a) (Host b) ≡ false)) [
  | inl (h, e) ↦ inl (ap (λ n. Host (record { 0 = n })) e)
  | inr (h, e) ↦ inr h
]
node_tells (Host a) (Server b) = inr refl
node_tells (Server a) (Host b) = inr refl
node_tells (Server a) (Server b) = elim (eqb_tells a.0 b.0) as (λ _. (Server a ≡ Server b) ⊎ (same_node (Server a) (Server b) ≡ false)) [
  | inl (h, e) ↦ inl (ap (λ n. Server (record { 0 = n })) e)
  | inr (h, e) ↦ inr h
]

pub same_self : (a : Node) → same_node a a ≡ true
same_self (Host a) = eq-eqb a.0 a.0 refl
same_self (Server a) = eq-eqb a.0 a.0 refl

-- nodes that differ have other seats
pub seats_differ : (a b : Node) → is_seated a ≡ true → is_seated b ≡ true → same_node a b ≡ false → seat_of a ≢ seat_of b
seats_differ (Host a) (Host b) p q h e = absurd (search (rules, h, eq-eqb a.0 b.0 e))
seats_differ (Host a) (Server b) p q h e = grind (arith, common_steps)
seats_differ (Server a) (Host b) p q h e = grind (arith, common_steps)
seats_differ (Server a) (Server b) p q h e = grind (arith, common_steps)

-- a place that no node has is that of some node
abbrev node_by : Bool → ℕ → Node
node_by true seat = Host (record { 0 = seat })
node_by false seat = Server (record { 0 = seat - HOSTS_MAX })

seat_by : (low : Bool) (seat : ℕ) → nat_le seat HOSTS_MAX ≡ low → seat < HOSTS_MAX + SERVERS_MAX + 1 → (seat_of (node_by low seat) ≡ seat) × (is_seated (node_by low seat) ≡ true)
seat_by true seat e h = (refl, e)
seat_by false seat e h = grind (arith, common_steps)

-- what stands at a seat is a line of its node
pub seat_known : (lines : List Line) (next : List ℕ) (seat place : ℕ) (line : Line) → AreHeads lines next → slice_get next seat ≡ Some place → slice_get lines place ≡ Some line →
    (seat_of line.node ≡ seat) × (is_seated line.node ≡ true)
seat_known lines next seat place line h e k =
    let w : seat < HOSTS_MAX + SERVERS_MAX + 1 = let m = slice_get_within next seat place e in omega (arith, h.seats) in
    let b = nat_le seat HOSTS_MAX in
    let (s, t) = seat_by b seat refl w in
    let n : next_of lines next (node_by b seat) ≡ place = rw (t, s, e) refl in
    let g : is_of (node_by b seat) line ≡ true = (sym (rw (n, k) refl)) ∙ h.head (node_by b seat) t in
    let q = same_eq line.node (node_by b seat) g in
    rw q (s, t)

-- the places after one of them changed
pub place_here : {X : Type 0} (next : List X) (seat : ℕ) (old new : X) → slice_get next seat ≡ Some old → slice_get (set next seat new) seat ≡ Some new
place_here [] seat old new h = cc
place_here (x ∷ xs) zero old new h = refl
place_here (x ∷ xs) (suc seat) old new h = place_here xs seat old new h

pub place_other : {X : Type 0} (next : List X) (i j : ℕ) (new : X) → j ≢ i → slice_get (set next i new) j ≡ slice_get next j
place_other [] i j new h = refl
place_other (x ∷ xs) zero zero new h = absurd (h refl)
place_other (x ∷ xs) zero (suc j) new h = refl
place_other (x ∷ xs) (suc i) zero new h = refl
place_other (x ∷ xs) (suc i) (suc j) new h = place_other xs i j new (λ e. h (ap suc e))

next_here : (lines : List Line) (next : List ℕ) (node : Node) (old new : ℕ) → is_seated node ≡ true → slice_get next (seat_of node) ≡ Some old → next_of lines (set next (seat_of node) new) node ≡ new
next_here lines next node old new s h = rw (s, place_here next (seat_of node) old new h) refl

next_other : (lines : List Line) (next : List ℕ) (node other : Node) (new : ℕ) → is_seated node ≡ true → same_node node other ≡ false → next_of lines (set next (seat_of node) new) other ≡ next_of lines next other
next_other lines next node other new s d = next_by (is_seated other) refl
  where
    next_by : (b : Bool) → is_seated other ≡ b → next_of lines (set next (seat_of node) new) other ≡ next_of lines next other
    next_by true e = rw (e, place_other next (seat_of node) (seat_of other) new (λ q. seats_differ node other s e d (sym q))) refl
    next_by false e = rw e refl

next_was : (lines : List Line) (next : List ℕ) (node : Node) (old : ℕ) → is_seated node ≡ true → slice_get next (seat_of node) ≡ Some old → next_of lines next node ≡ old
next_was lines next node old s h = rw (s, h) refl

-- both parts of a test
both_left : (a b : Bool) → (a && b) ≡ true → a ≡ true
both_left true b h = refl
both_left false b h = cc

both_right : (a b : Bool) → (a && b) ≡ true → b ≡ true
both_right true b h = h
both_right false b h = cc

both : (a b : Bool) → a ≡ true → b ≡ true → (a && b) ≡ true
both a b h k = rw (h, k) refl

-- one line more
pub met_more : (flags : List (List ℕ)) (lines : List Line) (line : Line) → flags_met flags lines ≡ true → can_go (flags_from flags lines) line.deed ≡ true → flags_met flags (lines ++ line ∷ []) ≡ true
met_more flags [] line h e = both _ _ e refl
met_more flags (first ∷ lines) line h e = both _ _ (both_left _ _ h) (met_more (flags_after flags first.deed) lines line (both_right _ _ h) e)

pub flags_more : (flags : List (List ℕ)) (lines : List Line) (line : Line) → flags_from flags (lines ++ line ∷ []) ≡ flags_after (flags_from flags lines) line.deed
flags_more flags [] line = refl
flags_more flags (first ∷ lines) line = flags_more (flags_after flags first.deed) lines line

pub lines_more : (lines : List Line) (went : List ℕ) (place : ℕ) (line : Line) → slice_get lines place ≡ Some line → lines_at lines (went ++ place ∷ []) ≡ lines_at lines went ++ line ∷ []
lines_more lines went place line h = flat_map-append _ went (place ∷ []) ∙ rw h refl

-- the node of a line that goes has it no longer left
each_same : (lines : List Line) (went next : List ℕ) (place new : ℕ) (line : Line) → filter (is_of line.node) (lines_at lines went) ++ left_at lines next line.node ≡ filter (is_of line.node) lines →
    is_seated line.node ≡ true → slice_get next (seat_of line.node) ≡ Some place → slice_get lines place ≡ Some line →
    filter (is_of line.node) (drop new lines) ≡ filter (is_of line.node) (drop (place + 1) lines) →
    filter (is_of line.node) (lines_at lines (went ++ place ∷ [])) ++ left_at lines (set next (seat_of line.node) new) line.node ≡ filter (is_of line.node) lines
each_same lines went next place new line h t e k f =
    let node = line.node in
    let was : left_at lines next node ≡ line ∷ filter (is_of node) (drop (place + 1) lines) = rw (next_was lines next node place t e) (first_left lines node place line k (same_self node)) in
    let now : left_at lines (set next (seat_of node) new) node ≡ filter (is_of node) (drop (place + 1) lines) = rw (next_here lines next node place new t e) f in
    let more : filter (is_of node) (lines_at lines (went ++ place ∷ [])) ≡ filter (is_of node) (lines_at lines went) ++ line ∷ [] =
    rw (lines_more lines went place line k) (filter-append (is_of node) (lines_at lines went) (line ∷ []) ∙ ap (λ one. filter (is_of node) (lines_at lines went) ++ one) (filter_yes (is_of node) line [] (same_self node))) in
    rw (more, now) (append_assoc (filter (is_of node) (lines_at lines went)) (line ∷ []) _ ∙ (rw (sym was) h))

-- other nodes have the same left
each_other : (lines : List Line) (went next : List ℕ) (place new : ℕ) (line : Line) (node : Node) → filter (is_of node) (lines_at lines went) ++ left_at lines next node ≡ filter (is_of node) lines →
    is_seated line.node ≡ true → slice_get lines place ≡ Some line → same_node line.node node ≡ false →
    filter (is_of node) (lines_at lines (went ++ place ∷ [])) ++ left_at lines (set next (seat_of line.node) new) node ≡ filter (is_of node) lines
each_other lines went next place new line node h t k d =
    let more : filter (is_of node) (lines_at lines (went ++ place ∷ [])) ≡ filter (is_of node) (lines_at lines went) =
    rw (lines_more lines went place line k) (filter-append (is_of node) (lines_at lines went) (line ∷ []) ∙ (ap (λ one. filter (is_of node) (lines_at lines went) ++ one) (filter_no (is_of node) line [] d) ∙ append-nil _)) in
    rw (more, next_other lines next line.node node new t d) h

head_by : (lines : List Line) (next : List ℕ) (place new : ℕ) (line : Line) (node : Node) → is_seated line.node ≡ true → slice_get next (seat_of line.node) ≡ Some place → is_head lines line.node new ≡ true →
    is_head lines node (next_of lines next node) ≡ true → (line.node ≡ node) ⊎ (same_node line.node node ≡ false) → is_head lines node (next_of lines (set next (seat_of line.node) new) node) ≡ true
head_by lines next place new line node t e n h (inl q) = subst (λ other. is_head lines other (next_of lines (set next (seat_of line.node) new) other) ≡ true) q (rw (next_here lines next line.node place new t e) n)
head_by lines next place new line node t e n h (inr d) = rw (next_other lines next line.node node new t d) h

each_by : (lines : List Line) (went next : List ℕ) (place new : ℕ) (line : Line) (node : Node) → ((other : Node) → filter (is_of other) (lines_at lines went) ++ left_at lines next other ≡ filter (is_of other) lines) →
    is_seated line.node ≡ true → slice_get next (seat_of line.node) ≡ Some place → slice_get lines place ≡ Some line →
    filter (is_of line.node) (drop new lines) ≡ filter (is_of line.node) (drop (place + 1) lines) → (line.node ≡ node) ⊎ (same_node line.node node ≡ false) →
    filter (is_of node) (lines_at lines (went ++ place ∷ [])) ++ left_at lines (set next (seat_of line.node) new) node ≡ filter (is_of node) lines
each_by lines went next place new line node h t e k f (inl q) =
    subst (λ other. filter (is_of other) (lines_at lines (went ++ place ∷ [])) ++ left_at lines (set next (seat_of line.node) new) other ≡ filter (is_of other) lines) q (each_same lines went next place new line (h line.node) t e k f)
each_by lines went next place new line node h t e k f (inr d) = each_other lines went next place new line node (h node) t k d

-- what else has gone is the same
gone_else : (lines : List Line) (next : List ℕ) (place new k : ℕ) (line : Line) → is_seated line.node ≡ true → slice_get next (seat_of line.node) ≡ Some place → slice_get lines place ≡ Some line →
    filter (is_of line.node) (drop new lines) ≡ filter (is_of line.node) (drop (place + 1) lines) → place < new → k ≢ place → has_gone lines next k ≡ has_gone lines (set next (seat_of line.node) new) k
gone_else lines next place new k line t e l f n d = by (slice_get lines k) refl
  where
    own : (other : Line) → slice_get lines k ≡ Some other → is_of line.node other ≡ true → (k < place) ⊎ (place ≤ k) → (k < new) ⊎ (new ≤ k) → nat_lt k place ≡ nat_lt k new
    own other g s (inl a) b = let c : k < new = omega arith in lt_true k place a ∙ sym (lt_true k new c)
    own other g s (inr a) (inl b) = let no : is_of line.node other ≡ false = none_between (is_of line.node) lines (place + 1) new k other f (omega arith) b g in cc
    own other g s (inr a) (inr b) = lt_false k place a ∙ sym (lt_false k new b)

    to : (other : Line) → slice_get lines k ≡ Some other → (line.node ≡ other.node) ⊎ (same_node line.node other.node ≡ false) → nat_lt k (next_of lines next other.node) ≡ nat_lt k (next_of lines (set next (seat_of line.node) new) other.node)
    to other g (inl q) =
        let here : is_of line.node other ≡ true = subst (λ node. same_node node line.node ≡ true) q (same_self line.node) in
        subst (λ node. nat_lt k (next_of lines next node) ≡ nat_lt k (next_of lines (set next (seat_of line.node) new) node)) q
        (rw (next_was lines next line.node place t e, next_here lines next line.node place new t e) (own other g here (lt_tells k place) (lt_tells k new)))
    to other g (inr q) = ap (nat_lt k) (sym (next_other lines next line.node other.node new t q))

    by : (found : Option Line) → slice_get lines k ≡ found → has_gone lines next k ≡ has_gone lines (set next (seat_of line.node) new) k
    by None g = rw g refl
    by (Some other) g = rw g (to other g (node_tells line.node other.node))

-- one place less is left
places_on : (lines : List Line) (went next : List ℕ) (place new : ℕ) (line : Line) → IsPermutation (all_places lines) (went ++ places_left lines next) →
    is_seated line.node ≡ true → slice_get next (seat_of line.node) ≡ Some place → slice_get lines place ≡ Some line →
    filter (is_of line.node) (drop new lines) ≡ filter (is_of line.node) (drop (place + 1) lines) → place < new →
    IsPermutation (all_places lines) ((went ++ place ∷ []) ++ places_left lines (set next (seat_of line.node) new))
places_on lines went next place new line p t e l f n =
    let after : List ℕ = set next (seat_of line.node) new in
    let was : not (has_gone lines next place) ≡ true = rw (l, next_was lines next line.node place t e, lt_false place place (omega arith)) refl in
    let now : not (has_gone lines after place) ≡ false = rw (l, next_here lines next line.node place new t e, lt_true place new n) refl in
    let one : IsPermutation (places_left lines next) (place ∷ places_left lines after) =
    one_less (λ place. not (has_gone lines next place)) (λ place. not (has_gone lines after place)) place 0 (length lines) (omega arith) (let w = line_within lines place line l in omega arith) was now (λ k d. ap not (gone_else lines next place new k line t e l f n d)) in
    rw (append_assoc went (place ∷ []) (places_left lines after)) (IsPermutation-trans _ _ _ p (IsPermutation-append_right went _ _ one))

-- a node makes its next line
pub gone_on : (lines : List Line) (order : Order) (seat place new : ℕ) (line : Line) → IsStanding lines order → slice_get order.next seat ≡ Some place → slice_get lines place ≡ Some line →
    can_go order.flags line.deed ≡ true → filter (is_of line.node) (drop new lines) ≡ filter (is_of line.node) (drop (place + 1) lines) → is_head lines line.node new ≡ true → place + 1 ≤ new →
    IsStanding lines (record { went = order.went ++ place ∷ []; next = set order.next seat new; flags = flags_after order.flags line.deed })
gone_on lines order seat place new line h e k g f n w =
    let (s, t) = seat_known lines order.next seat place line h.heads e k in
    let e' : slice_get order.next (seat_of line.node) ≡ Some place = rw s e in
    let goes : can_go (flags_of (lines_at lines order.went)) line.deed ≡ true = subst (λ flags. can_go flags line.deed ≡ true) h.flags g in
    rw (← s) (record {
      begun = record {
        each = λ node. each_by lines order.went order.next place new line node h.begun.each t e' k f (node_tells line.node node);
        met = rw (lines_more lines order.went place line k) (met_more [] (lines_at lines order.went) line h.begun.met goes);
      };
      heads = record {
        seats = length-set order.next (seat_of line.node) new ∙ h.heads.seats;
        head = λ node u. head_by lines order.next place new line node t e' n (h.heads.head node u) (node_tells line.node node);
      };
      flags = rw (lines_more lines order.went place line k) (ap (λ flags. flags_after flags line.deed) h.flags ∙ sym (flags_more [] (lines_at lines order.went) line));
      places = places_on lines order.went order.next place new line h.places t e' k f (omega arith);
    })

goes_at : (lines : List Line) (flags : List (List ℕ)) (place : ℕ) (line : Line) → slice_get lines place ≡ Some line → can_go_at lines flags place ≡ true → can_go flags line.deed ≡ true
goes_at lines flags place line h k = sym (rw h refl) ∙ k

pub gone_to : (lines : List Line) (order : Order) (seat place new : ℕ) (line : Line) (went next : List ℕ) (flags : List (List ℕ)) → IsStanding lines order → slice_get order.next seat ≡ Some place →
    slice_get lines place ≡ Some line → can_go_at lines order.flags place ≡ true → filter (is_of line.node) (drop new lines) ≡ filter (is_of line.node) (drop (place + 1) lines) → is_head lines line.node new ≡ true → place + 1 ≤ new →
    went ≡ order.went ++ place ∷ [] → next ≡ set order.next seat new → flags ≡ flags_after order.flags line.deed → IsStanding lines (record { went = went; next = next; flags = flags })
gone_to lines order seat place new line went next flags h e k g f n w a b c = rw (a, b, c) (gone_on lines order seat place new line h e k (goes_at lines order.flags place line k g) f n w)

-- then there is less to go
pub less_to_go : (lines : List Line) (next : List ℕ) (seat place new : ℕ) → slice_get next seat ≡ Some place → place < length lines → place < new → to_go lines (set next seat new) < to_go lines next
less_to_go lines [] seat place new h k l = cc
less_to_go lines (x ∷ xs) zero place new h k l = grind (arith, common_steps)
less_to_go lines (x ∷ xs) (suc seat) place new h k l = let m = less_to_go lines xs seat place new h k l in omega arith

-- nobody is ready behind the last seat
pub none_behind : (lines : List Line) (order : Order) (seat : ℕ) → length order.next ≤ seat → is_ready lines order seat ≡ false
none_behind lines order seat h = rw (slice_get_past order.next seat h) refl

-- where no seat is ready all nodes stand
stand_by : (lines : List Line) (order : Order) (node : Node) (place : Option ℕ) (line : Option Line) → slice_get order.next (seat_of node) ≡ place → is_seated node ≡ true → AreHeads lines order.next → is_ready lines order (seat_of node) ≡ false →
    slice_get lines (next_of lines order.next node) ≡ line → stands order.flags (left_at lines order.next node) ≡ true
stand_by lines order node None line e t h r k = let n : next_of lines order.next node ≡ length lines = rw (t, e) refl in rw (n, drop_end lines) refl
stand_by lines order node (Some place) None e t h r k =
    let n : next_of lines order.next node ≡ place = rw (t, e) refl in
    let d : drop (next_of lines order.next node) lines ≡ [] = drop_none lines _ k in
    rw d refl
stand_by lines order node (Some place) (Some line) e t h r k =
    let n : next_of lines order.next node ≡ place = next_was lines order.next node place t e in
    let k' : slice_get lines place ≡ Some line = rw (← n) k in
    let own : is_of node line ≡ true = sym (rw k refl) ∙ h.head node t in
    let no : can_go order.flags line.deed ≡ false = sym (rw (e, k') refl) ∙ r in
    let f : left_at lines order.next node ≡ line ∷ filter (is_of node) (drop (next_of lines order.next node + 1) lines) = first_left lines node _ line k own in
    rw (f, no) refl

unseated : (lines : List Line) (order : Order) (node : Node) → is_seated node ≡ false → stands order.flags (left_at lines order.next node) ≡ true
unseated lines order node t = let n : next_of lines order.next node ≡ length lines = rw t refl in rw (n, drop_end lines) refl

pub all_stand : (lines : List Line) (order : Order) → IsStanding lines order → ((seat : ℕ) → is_ready lines order seat ≡ false) → AllStand (lines_at lines order.went) (left_at lines order.next)
all_stand lines order h r node = subst (λ flags. stands flags (left_at lines order.next node) ≡ true) h.flags (by (is_seated node) refl)
  where
    by : (b : Bool) → is_seated node ≡ b → stands order.flags (left_at lines order.next node) ≡ true
    by true t = stand_by lines order node _ _ refl t h.heads (r (seat_of node)) refl
    by false t = unseated lines order node t

-- a place more
pub get_more : {X : Type 0} (next : List X) (new : X) (seat : ℕ) (place : X) → slice_get (next ++ new ∷ []) seat ≡ Some place → (slice_get next seat ≡ Some place) ⊎ ((seat ≡ length next) × (place ≡ new))
get_more [] new zero place h = inr (refl, cc)
get_more [] new (suc seat) place h = absurd (search (rules, h))
get_more (x ∷ xs) new zero place h = inl h
get_more (x ∷ xs) new (suc seat) place h = elim (get_more xs new seat place h) as (λ _. (slice_get (x ∷ xs) (suc seat) ≡ Some place) ⊎ ((suc seat ≡ length (x ∷ xs)) × (place ≡ new))) [
  | inl k ↦ inl k
  | inr (k, e) ↦ inr (omega arith, e)
]

pub first_more : (lines : List Line) (next : List ℕ) (node : Node) (new : ℕ) → AreAtFirst lines next → is_seated node ≡ true → seat_of node ≡ length next →
    filter (is_of node) (drop new lines) ≡ filter (is_of node) (drop 0 lines) → is_head lines node new ≡ true → AreAtFirst lines (next ++ new ∷ [])
first_more lines next node new h t s f n other place u g = by (get_more next new (seat_of other) place g) (node_tells node other)
  where
    by : (slice_get next (seat_of other) ≡ Some place) ⊎ ((seat_of other ≡ length next) × (place ≡ new)) → (node ≡ other) ⊎ (same_node node other ≡ false) →
        (filter (is_of other) (drop place lines) ≡ filter (is_of other) lines) × (is_head lines other place ≡ true)
    by (inl k) d = h other place u k
    by (inr (k, e)) (inl q) = subst (λ it. (filter (is_of it) (drop place lines) ≡ filter (is_of it) lines) × (is_head lines it place ≡ true)) q (rw e (f, n))
    by (inr (k, e)) (inr d) = absurd (seats_differ node other t u d (s ∙ sym k))

-- each node that has a seat has a place
seat_below : (node : Node) → is_seated node ≡ true → seat_of node < HOSTS_MAX + SERVERS_MAX + 1
seat_below (Host host) t = grind (arith, common_steps)
seat_below (Server server) t = grind (arith, common_steps)

place_within : (next : List ℕ) (seat : ℕ) → seat < length next → (place : ℕ) × (slice_get next seat ≡ Some place)
place_within [] seat h = absurd (omega arith)
place_within (x ∷ xs) zero h = (x, refl)
place_within (x ∷ xs) (suc seat) h = place_within xs seat (omega arith)

pub all_first : (lines : List Line) (next : List ℕ) → AreAtFirst lines next → length next ≡ HOSTS_MAX + SERVERS_MAX + 1 → AreFirst lines next
all_first lines next h n = record {
  heads = record {
    seats = n;
    head = λ node t. let w = seat_below node t in let (place, e) = place_within next (seat_of node) (omega arith) in let (f, k) = h node place t e in rw (next_was lines next node place t e) k;
  };
  all = λ node t. let w = seat_below node t in let (place, e) = place_within next (seat_of node) (omega arith) in let (f, k) = h node place t e in rw (next_was lines next node place t e) f;
}

pub first_none : (lines : List Line) → AreAtFirst lines []
first_none lines node place t h = cc

pub host_seated : (host : ℕ) → host < HOSTS_MAX + 1 → is_seated (Host (record { 0 = host })) ≡ true
host_seated host h = grind (arith, common_steps)

pub server_seated : (server : ℕ) → 1 ≤ server → server < SERVERS_MAX + 1 → is_seated (Server (record { 0 = server })) ≡ true
server_seated server h k = grind (arith, common_steps)

-- no line is a node's that has no seat
no_lines : (lines : List Line) (node : Node) → list_all (λ line. is_seated line.node) lines ≡ true → is_seated node ≡ false → filter (is_of node) lines ≡ []
no_lines [] node h t = refl
no_lines (line ∷ lines) node h t = filter_no (is_of node) line lines (other (node_tells line.node node)) ∙ no_lines lines node (both_right _ _ h) t
  where
    other : (line.node ≡ node) ⊎ (same_node line.node node ≡ false) → is_of node line ≡ false
    other (inl q) = let e : is_seated node ≡ true = rw (← q) (both_left _ _ h) in cc
    other (inr d) = d

-- before the first line all are left
first_left_all : (lines : List Line) (next : List ℕ) → list_all (λ line. is_seated line.node) lines ≡ true → AreFirst lines next → places_left lines next ≡ all_places lines
first_left_all lines next h f = filter_range (λ place. not (has_gone lines next place)) 0 (length lines) (λ place a b. let (line, l) = place_line lines place (omega arith) in by place line l (lt_tells place (next_of lines next line.node)))
  where
    seated_at : (lines : List Line) (place : ℕ) (line : Line) → list_all (λ line. is_seated line.node) lines ≡ true → slice_get lines place ≡ Some line → is_seated line.node ≡ true
    seated_at [] place line h l = cc
    seated_at (first ∷ lines) zero line h l = let q : first ≡ line = cc in subst (λ one. is_seated one.node ≡ true) q (both_left _ _ h)
    seated_at (first ∷ lines) (suc place) line h l = seated_at lines place line (both_right _ _ h) l

    by : (place : ℕ) (line : Line) → slice_get lines place ≡ Some line → (place < next_of lines next line.node) ⊎ (next_of lines next line.node ≤ place) → not (has_gone lines next place) ≡ true
    by place line l (inl w) = let no : is_of line.node line ≡ false = none_between (is_of line.node) lines 0 (next_of lines next line.node) place line (f.all line.node (seated_at lines place line h l)) (omega arith) w l in let yes = same_self line.node in cc
    by place line l (inr w) = rw (l, lt_false place (next_of lines next line.node) w) refl

-- where all nodes have none left, none is left
none_left : (lines : List Line) (next : List ℕ) → ((node : Node) → left_at lines next node ≡ []) → places_left lines next ≡ []
none_left lines next h = none_in_range (λ place. not (has_gone lines next place)) 0 (length lines) (λ place a b. let (line, l) = place_line lines place (omega arith) in by place line l (lt_tells place (next_of lines next line.node)))
  where
    by : (place : ℕ) (line : Line) → slice_get lines place ≡ Some line → (place < next_of lines next line.node) ⊎ (next_of lines next line.node ≤ place) → not (has_gone lines next place) ≡ false
    by place line l (inl w) = rw (l, lt_true place (next_of lines next line.node) w) refl
    by place line l (inr w) =
        let end : filter (is_of line.node) (drop (length lines) lines) ≡ filter (is_of line.node) (drop (next_of lines next line.node) lines) = ap (filter (is_of line.node)) (drop_end lines) ∙ sym (h line.node) in
        let no : is_of line.node line ≡ false = none_between (is_of line.node) lines (next_of lines next line.node) (length lines) place line end w (line_within lines place line l) l in
        let yes = same_self line.node in
        cc

pub started : (lines : List Line) (next : List ℕ) → list_all (λ line. is_seated line.node) lines ≡ true → AreFirst lines next → IsStanding lines (record { went = []; next = next; flags = [] })
started lines next h f = record {
  begun = record { each = λ node. by node (is_seated node) refl; met = refl };
  heads = f.heads;
  flags = refl;
  places = rw (first_left_all lines next h f) (IsPermutation-refl (all_places lines));
}
  where
    by : (node : Node) (b : Bool) → is_seated node ≡ b → left_at lines next node ≡ filter (is_of node) lines
    by node true t = f.all node t
    by node false t = let n : next_of lines next node ≡ length lines = rw t refl in rw (n, drop_end lines) (sym (no_lines lines node h t))

-- all places have gone where no node is ready
pub all_went : (lines : List Line) (order : Order) → stuck_at lines ≡ None → IsStanding lines order → ((seat : ℕ) → is_ready lines order seat ≡ false) → IsPermutation (all_places lines) order.went
all_went lines order n h r =
    let none : places_left lines order.next ≡ [] = none_left lines order.next (all_go lines (lines_at lines order.went) (left_at lines order.next) n h.begun (all_stand lines order h r)) in
    subst (IsPermutation (all_places lines)) (ap (λ left. order.went ++ left) none ∙ append-nil order.went) h.places

-- all lines have gone where no node is ready
pub all_gone : (lines : List Line) (order : Order) → stuck_at lines ≡ None → IsStanding lines order → ((seat : ℕ) → is_ready lines order seat ≡ false) → IsOrder lines (lines_at lines order.went)
all_gone lines order n h r = record {
  each = λ node. let e = all_go lines (lines_at lines order.went) (left_at lines order.next) n h.begun (all_stand lines order h r) node in sym (append-nil (filter (is_of node) (lines_at lines order.went))) ∙ (ap (λ rest. filter (is_of node) (lines_at lines order.went) ++ rest) (sym e) ∙ h.begun.each node);
  met = h.begun.met;
}

pub less_by : (lines : List Line) (next after : List ℕ) (seat place new : ℕ) (line : Line) → slice_get next seat ≡ Some place → slice_get lines place ≡ Some line → place + 1 ≤ new → after ≡ set next seat new → to_go lines after < to_go lines next
less_by lines next after seat place new line h k l e = rw e (less_to_go lines next seat place new h (line_within lines place line k) (omega arith))

pub ruleset steps = (started, all_gone, all_went, all_first, first_none, first_more, host_seated, server_seated, skip_at, drop_end, head_at, head_end, none_behind, line_within)
