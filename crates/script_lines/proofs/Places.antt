-- The table of servers tells where clones are placed.
use Rattle.std.proofs.Common.{◌≡◌, ◌≢◌, ℕ, zero, suc, ◌+◌, ◌-◌, ◌<◌, ◌≤◌, List, [], ◌∷◌, length, map, replicate, Bool, true, false, ◌&&◌, cond, nat_lt, get_or, slice_get, slice_set, find, position, Option, Some, None, is_some, unwrap_or, option_map, option_and_then, refl, sym, ap, ◌∙◌, arith, add-one}
use Rattle.std.specs.List.{position_or_len}
use Rattle.std.specs.Cmp.Lexicographic.{same_text}
use Rattle.std.proofs.lemmas.Bool.{ltb-true, ltb-false}
use Rattle.std.proofs.lemmas.List.Folds.{find_at}
use Rattle.std.proofs.lemmas.Grind.{get_or-set_at}
use Rattle.std.proofs.lemmas.List.{get_or-set_other, length-replicate, length-set, length-map}
use Rattle.std.proofs.lemmas.List.Quantifiers.{position-Some}
use Rattle.std.proofs.lemmas.Option.{slice_get_past, unwrap_or-slice_get}
use Rattle.base_types.specs.Name.{same_name}
use Rattle.base_types.specs.declared.ids.ServerId.{ServerId}
use Rattle.script_lines.specs.Context.{find_placed, server_of}
use Rattle.script_lines.specs.Clones.{found_server, by_source, places, place_by, most_steps, clone_place}
use Rattle.script_lines.specs.Ways.{way_by, way_of, route_of, routes_of, server_in, server_by, first_of, put_first, stage_from, unknown, stage, stages}
use Rattle.script_lines.specs.declared.clones.CloneLine.{CloneLine}
use Rattle.script_lines.specs.declared.clones.Route.{Route}
use Rattle.script_lines.specs.declared.clones.Way.{Way}
use Rattle.script_lines.specs.declared.clones.Way.TheVariants.{At, Clone, Nowhere}
use Rattle.script_lines.specs.declared.context.Placed.{Placed}

-- after a stage that changes nothing no other does
pub stage_more : (n : ℕ) (routes : List Route) → stages (n + 1) routes ≡ stage routes (stages n routes)
stage_more n routes = rw add-one refl

pub stays_settled : (n round : ℕ) (routes : List Route) → round < n → stage routes (stages round routes) ≡ stages round routes → stages n routes ≡ stages round routes
stays_settled zero round routes h e = absurd (omega arith)
stays_settled (suc n) round routes h e = by_test (nat_lt round n) refl (λ less. stays_settled n round routes less e)
  where
    by_test : (v : Bool) → nat_lt round n ≡ v → (round < n → stages n routes ≡ stages round routes) → stage routes (stages n routes) ≡ stages round routes
    by_test true k rest = ap (stage routes) (rest (ltb-true round n k)) ∙ e
    by_test false k rest = let most = ltb-false round n k in let same : n ≡ round = omega arith in rw same e

-- places in a table
pub in_set : (table : List (Option ServerId)) (place : ℕ) (server : Option ServerId) → place < length table → server_in (slice_set table place server) place ≡ server
in_set table place server h = unwrap_or-slice_get (slice_set table place server) place None ∙ get_or-set_at table place place server None refl h

pub in_other : (table : List (Option ServerId)) (place other : ℕ) (server : Option ServerId) → other ≢ place → server_in (slice_set table place server) other ≡ server_in table other
in_other table place other server h = unwrap_or-slice_get (slice_set table place server) other None ∙ get_or-set_other table place other server None h ∙ sym (unwrap_or-slice_get table other None)

pub in_unknown : (n place : ℕ) → server_in (unknown n) place ≡ None
in_unknown zero place = refl
in_unknown (suc n) zero = refl
in_unknown (suc n) (suc place) = in_unknown n place

pub put_long : (table : List (Option ServerId)) (way : Way) (server : Option ServerId) → length (put_first table way server) ≡ length table
put_long table (At s) server = refl
put_long table (Clone place) server = length-set table place (first_of (server_in table place) server)
put_long table Nowhere server = refl

-- the first of three
pub first_none : (server : Option ServerId) → first_of server None ≡ server
first_none None = refl
first_none (Some s) = refl

pub first_next : (server next : Option ServerId) (clone : CloneLine) (found : Option CloneLine) (by : List ℕ → Option ServerId) → by clone.source ≡ next
    → first_of (first_of server next) (by_source found by) ≡ first_of server (by_source (cond (is_some (by clone.source)) (Some clone) found) by)
first_next (Some s) next clone found by e = refl
first_next None (Some s) clone found by e = rw e (sym e)
first_next None None clone found by e = rw e refl

-- names by places
pub find_by_place : {X : Type 0} (test : X → Bool) (xs : List X) → find test xs ≡ option_and_then (λ i. slice_get xs i) (position test xs)
find_by_place test xs = by_test (nat_lt (position_or_len test xs) (length xs)) refl
  where
    by_test : (v : Bool) → nat_lt (position_or_len test xs) (length xs) ≡ v → find test xs ≡ option_and_then (λ i. slice_get xs i) (cond v (Some (position_or_len test xs)) None)
    by_test true e = find_at test xs
    by_test false e = find_at test xs ∙ slice_get_past xs (position_or_len test xs) (ltb-false (position_or_len test xs) (length xs) e)

pub finds_less : {X : Type 0} (test also : X → Bool) (xs : List X) → find test xs ≡ None → find (λ x. test x && also x) xs ≡ None
finds_less test also [] e = refl
finds_less test also (x ∷ xs) e = by_test (test x) e (finds_less test also xs)
  where
    by_test : (v : Bool) → cond v (Some x) (find test xs) ≡ None → (find test xs ≡ None → find (λ x. test x && also x) xs ≡ None) → cond (v && also x) (Some x) (find (λ x. test x && also x) xs) ≡ None
    by_test true k rest = absurd (cc)
    by_test false k rest = rest k

abbrev pub place_of : List CloneLine → List ℕ → Option ℕ
place_of clones name = position (λ clone. same_name clone.new name) clones

pub other_place : (clones : List CloneLine) (a b : List ℕ) (p q : ℕ) → place_of clones a ≡ Some p → place_of clones b ≡ Some q → same_name b a ≡ false → p ≢ q
other_place clones a b p q e f differ same =
    let d : CloneLine = record { source = []; new = [] } in
    let at_p = (position-Some (λ (clone : CloneLine). same_name clone.new a) clones p d e).1 in
    let at_q = (position-Some (λ (clone : CloneLine). same_name clone.new b) clones q d f).1 in
    let moved : same_name (get_or clones p d).new b ≡ true = rw same at_q in
    let is_b : (get_or clones p d).new ≡ b = same_text (get_or clones p d).new b (sym moved) in
    let wrong : same_name b a ≡ true = rw is_b at at_p in
    absurd (cc)

-- what a stage tells of a name that no header places
pub stage_tells : (placed : List Placed) (clones : List CloneLine) (server : List ℕ → Option ServerId) (old table : List (Option ServerId)) (rest : List CloneLine) (name : List ℕ) (p : ℕ)
    → ((source : List ℕ) → server_by old (way_of placed clones source) ≡ server source)
    → find_placed placed name ≡ None → place_of clones name ≡ Some p → p < length table
    → server_in (stage_from old table (map (route_of placed clones) rest)) p ≡ first_of (server_in table p) (by_source (find (places server name) rest) server)
unfolding way_of
stage_tells placed clones server old table [] name p told free at within = sym (first_none (server_in table p))
stage_tells placed clones server old table (clone ∷ rest) name p told free at within =
    stage_tells placed clones server old (put_first table (way_of placed clones clone.new) (server_by old (way_of placed clones clone.source))) rest name p told free at (rw (put_long table (way_of placed clones clone.new) (server_by old (way_of placed clones clone.source))) within)
    ∙ by_name (same_name clone.new name) refl
  where
    mine : same_name clone.new name ≡ true → server_in (put_first table (way_of placed clones clone.new) (server_by old (way_of placed clones clone.source))) p ≡ first_of (server_in table p) (server_by old (way_of placed clones clone.source))
    mine e =
        let is_name : clone.new ≡ name = same_text clone.new name (sym e) in
        rw (is_name, free, at) (in_set table p (first_of (server_in table p) (server_by old (way_of placed clones clone.source))) within)

    others : same_name clone.new name ≡ false → (found : Option Placed) (place : Option ℕ) → place_of clones clone.new ≡ place → server_in (put_first table (way_by found place) (server_by old (way_of placed clones clone.source))) p ≡ server_in table p
    others e (Some found) place k = refl
    others e None None k = refl
    others e None (Some q) k = in_other table q p (first_of (server_in table q) (server_by old (way_of placed clones clone.source))) (other_place clones name clone.new p q at k e)

    by_name : (v : Bool) → same_name clone.new name ≡ v → first_of (server_in (put_first table (way_of placed clones clone.new) (server_by old (way_of placed clones clone.source))) p) (by_source (find (places server name) rest) server) ≡ first_of (server_in table p) (by_source (cond (v && is_some (server clone.source)) (Some clone) (find (places server name) rest)) server)
    by_name true e = rw (mine e) (first_next (server_in table p) (server_by old (way_of placed clones clone.source)) clone (find (places server name) rest) server (sym (told clone.source)))
    by_name false e = ap (λ s. first_of s (by_source (find (places server name) rest) server)) (others e (find_placed placed clone.new) (place_of clones clone.new) refl)

unknown_long : (n : ℕ) → length (unknown n) ≡ n
unknown_long n = length-replicate n None

pub routes_long : (placed : List Placed) (clones : List CloneLine) → length (routes_of placed clones) ≡ length clones
unfolding routes_of
routes_long placed clones = length-map clones (route_of placed clones)

-- the table tells the server of each name
pub table_tells : (n : ℕ) (placed : List Placed) (clones : List CloneLine) (name : List ℕ) → server_by (stages n (routes_of placed clones)) (way_of placed clones name) ≡ place_by n placed clones name
unfolding way_of stage routes_of
table_tells zero placed clones name = by_found (find_placed placed name) (place_of clones name)
  where
    by_found : (found : Option Placed) (place : Option ℕ) → server_by (unknown (length (routes_of placed clones))) (way_by found place) ≡ option_map (λ p. p.server) found
    by_found (Some found) place = refl
    by_found None (Some place) = in_unknown (length (routes_of placed clones)) place
    by_found None None = refl
table_tells (suc n) placed clones name = by_found (find_placed placed name) refl (place_of clones name) refl (λ source. table_tells n placed clones source)
  where
    Told : Type 0
    Told = (source : List ℕ) → server_by (stages n (routes_of placed clones)) (way_of placed clones source) ≡ place_by n placed clones source

    by_stage : (p : ℕ) → find_placed placed name ≡ None → place_of clones name ≡ Some p → Told → server_in (stage (routes_of placed clones) (stages n (routes_of placed clones))) p ≡ by_source (find (places (λ source. place_by n placed clones source) name) clones) (λ source. place_by n placed clones source)
    by_stage p free at told =
        let here = (position-Some (λ (clone : CloneLine). same_name clone.new name) clones p (record { source = []; new = [] }) at).0 in
        let long = unknown_long (length (routes_of placed clones)) in
        let many = routes_long placed clones in
        stage_tells placed clones (λ source. place_by n placed clones source) (stages n (routes_of placed clones)) (unknown (length (routes_of placed clones))) clones name p told free at (omega (arith, long, many, here))
        ∙ ap (λ s. first_of s (by_source (find (places (λ source. place_by n placed clones source) name) clones) (λ source. place_by n placed clones source))) (in_unknown (length (routes_of placed clones)) p)

    by_found : (found : Option Placed) → find_placed placed name ≡ found → (place : Option ℕ) → place_of clones name ≡ place → Told → server_by (stages (suc n) (routes_of placed clones)) (way_by found place) ≡ found_server found (by_source (find (places (λ source. place_by n placed clones source) name) clones) (λ source. place_by n placed clones source))
    by_found (Some found) e place f told = refl
    by_found None e (Some p) f told = by_stage p e f told
    by_found None e None f told =
        let none : find (λ (clone : CloneLine). same_name clone.new name) clones ≡ None = find_by_place (λ (clone : CloneLine). same_name clone.new name) clones ∙ ap (option_and_then (λ i. slice_get clones i)) f in
        sym (ap (λ o. by_source o (λ source. place_by n placed clones source)) (finds_less (λ (clone : CloneLine). same_name clone.new name) (λ (clone : CloneLine). is_some (place_by n placed clones clone.source)) clones none))

pub place_told : (placed : List Placed) (clones : List CloneLine) (table : List (Option ServerId)) (name : List ℕ) → table ≡ stages most_steps (routes_of placed clones) → server_by table (way_of placed clones name) ≡ clone_place placed clones name
place_told placed clones table name e = ap (λ t. server_by t (way_of placed clones name)) e ∙ table_tells most_steps placed clones name

pub steps_are : (n : ℕ) (routes : List Route) → n ≡ 16384 → stages n routes ≡ stages most_steps routes
unfolding most_steps
steps_are n routes e = ap (λ k. stages k routes) e

pub settled_then : (round : ℕ) (routes : List Route) (table : List (Option ServerId)) → round < 16384 → table ≡ stages round routes → stage routes table ≡ table → table ≡ stages most_steps routes
unfolding most_steps
settled_then round routes table less e same = e ∙ sym (stays_settled 16384 round routes less (ap (stage routes) (sym e) ∙ (same ∙ e)))
