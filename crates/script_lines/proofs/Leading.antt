-- Where the sources of clones lead along first clones is where their names are placed.
use Rattle.std.proofs.Common.{◌≡◌, ℕ, zero, suc, ◌+◌, ◌<◌, ◌≤◌, List, [], ◌∷◌, ◌++◌, length, map, Bool, true, false, ◌&&◌, cond, nat_lt, slice_get, find, position, Option, Some, None, is_some, unwrap_or, option_and_then, option_map, refl, sym, ap, ◌∙◌, arith, add-one}
use Rattle.std.specs.List.{range_with_len}
use Rattle.std.proofs.lemmas.Bool.{ltb-true, ltb-false}
use Rattle.std.proofs.lemmas.List.FromFn.{map-range_with_len_more, length-map-range_with_len}
use Rattle.std.proofs.lemmas.Option.{slice_get_past, same_Some}
use Rattle.base_types.specs.Name.{same_name}
use Rattle.base_types.specs.declared.ids.ServerId.{ServerId}
use Rattle.script_lines.specs.Context.{find_placed, server_of}
use Rattle.script_lines.specs.Clones.{found_server, by_source, places, place_by, most_steps, clone_place}
use Rattle.script_lines.specs.Ways.{way_by, way_of}
use Rattle.script_lines.specs.Leads.{way_from, goes_on, leads, all_lead, steps_after, way_in, doubled, server_at_end}
use Rattle.script_lines.specs.declared.leads.TheConstants.{DOUBLINGS}
use Rattle.script_lines.specs.declared.clones.CloneLine.{CloneLine}
use Rattle.script_lines.specs.declared.clones.Way.{Way}
use Rattle.script_lines.specs.declared.clones.Way.TheVariants.{At, Clone, Nowhere}
use Rattle.script_lines.specs.declared.context.Placed.{Placed}
use Rattle.script_lines.proofs.Places.{place_of, find_by_place}
use Rattle.script_lines.proofs.Circles.{placed_still}

-- lists that are made by places
pub made_at : {X : Type 0} (make : ℕ → X) (a n i : ℕ) → i < n → slice_get (map make (range_with_len a n)) i ≡ Some (make (a + i))
made_at make a zero i h = absurd (omega arith)
made_at make a (suc n) zero h = ap (λ k. Some (make k)) (omega arith)
made_at make a (suc n) (suc i) h = let e : (a + 1) + i ≡ a + suc i = omega arith in made_at make (a + 1) n i (omega arith) ∙ ap (λ k. Some (make k)) e

-- the first steps, as far as they are made
unfoldable pub ways_to : ℕ → List Placed → List CloneLine → ℕ → List Way
ways_to steps placed clones n = map (leads steps placed clones) (range_with_len 0 n)

pub ways_start : (placed : List Placed) (clones : List CloneLine) → ways_to 0 placed clones 0 ≡ []
unfolding ways_to
ways_start placed clones = refl

pub ways_more : (placed : List Placed) (clones : List CloneLine) (n : ℕ) → ways_to 0 placed clones n ++ way_from placed clones (slice_get clones n) ∷ [] ≡ ways_to 0 placed clones (n + 1)
unfolding ways_to
ways_more placed clones n = sym (map-range_with_len_more (leads 0 placed clones) 0 n n (omega arith))

pub ways_end : (placed : List Placed) (clones : List CloneLine) (n : ℕ) → n ≡ length clones → ways_to 0 placed clones n ≡ all_lead 0 placed clones
unfolding ways_to all_lead
ways_end placed clones n e = ap (λ k. map (leads 0 placed clones) (range_with_len 0 k)) e

-- doubling, as far as it is done
unfoldable pub doubled_to : List Way → ℕ → List Way
doubled_to ways n = map (λ clone. goes_on (way_in ways clone) (way_in ways)) (range_with_len 0 n)

pub doubled_start : (ways : List Way) → doubled_to ways 0 ≡ []
unfolding doubled_to
doubled_start ways = refl

pub doubled_more : (ways : List Way) (n : ℕ) → doubled_to ways n ++ goes_on (way_in ways n) (way_in ways) ∷ [] ≡ doubled_to ways (n + 1)
unfolding doubled_to
doubled_more ways n = sym (map-range_with_len_more (λ clone. goes_on (way_in ways clone) (way_in ways)) 0 n n (omega arith))

pub doubled_end : (ways : List Way) (n : ℕ) → n ≡ length ways → doubled_to ways n ≡ doubled ways
unfolding doubled_to doubled
doubled_end ways n e = ap (λ k. map (λ clone. goes_on (way_in ways clone) (way_in ways)) (range_with_len 0 k)) e

-- past the clones nothing leads anywhere
pub leads_past : (steps : ℕ) (placed : List Placed) (clones : List CloneLine) (clone : ℕ) → length clones ≤ clone → leads steps placed clones clone ≡ Nowhere
leads_past zero placed clones clone h = ap (way_from placed clones) (slice_get_past clones clone h)
leads_past (suc steps) placed clones clone h = ap (λ o. goes_on (way_from placed clones o) (leads steps placed clones)) (slice_get_past clones clone h)

-- so a list of ways tells them all
pub way_told : (steps : ℕ) (placed : List Placed) (clones : List CloneLine) (clone : ℕ) → way_in (all_lead steps placed clones) clone ≡ leads steps placed clones clone
unfolding all_lead
way_told steps placed clones clone = by_test (nat_lt clone (length clones)) refl
  where
    by_test : (v : Bool) → nat_lt clone (length clones) ≡ v → way_in (all_lead steps placed clones) clone ≡ leads steps placed clones clone
    by_test true e = ap (λ o. unwrap_or o Nowhere) (made_at (leads steps placed clones) 0 (length clones) clone (ltb-true clone (length clones) e)) ∙ ap (leads steps placed clones) (omega arith)
    by_test false e =
        let past : length clones ≤ clone = ltb-false clone (length clones) e in
        let long = length-map-range_with_len (leads steps placed clones) 0 (length clones) in
        ap (λ o. unwrap_or o Nowhere) (slice_get_past (all_lead steps placed clones) clone (omega (arith, long))) ∙ sym (leads_past steps placed clones clone past)

-- steps and further steps
pub same_on : (way : Way) (next also : ℕ → Way) → ((clone : ℕ) → next clone ≡ also clone) → goes_on way next ≡ goes_on way also
same_on (At server) next also h = refl
same_on (Clone clone) next also h = h clone
same_on Nowhere next also h = refl

pub on_and_on : (way : Way) (next also : ℕ → Way) → goes_on (goes_on way next) also ≡ goes_on way (λ clone. goes_on (next clone) also)
on_and_on (At server) next also = refl
on_and_on (Clone clone) next also = refl
on_and_on Nowhere next also = refl

pub leads_add : (a b : ℕ) (placed : List Placed) (clones : List CloneLine) (clone : ℕ) → leads (a + b + 1) placed clones clone ≡ goes_on (leads a placed clones clone) (leads b placed clones)
leads_add zero b placed clones clone = let e : 0 + b + 1 ≡ suc b = omega arith in ap (λ k. leads k placed clones clone) e
leads_add (suc a) b placed clones clone =
    let e : suc a + b + 1 ≡ suc (a + b + 1) = omega arith in
    ap (λ k. leads k placed clones clone) e
    ∙ same_on (way_from placed clones (slice_get clones clone)) (leads (a + b + 1) placed clones) (λ next. goes_on (leads a placed clones next) (leads b placed clones)) (λ next. leads_add a b placed clones next)
    ∙ sym (on_and_on (way_from placed clones (slice_get clones clone)) (leads a placed clones) (leads b placed clones))

pub each_same : {X : Type 0} (f g : ℕ → X) (xs : List ℕ) → ((x : ℕ) → f x ≡ g x) → map f xs ≡ map g xs
each_same f g [] h = refl
each_same f g (x ∷ xs) h = ap (λ y. y ∷ map f xs) (h x) ∙ ap (λ ys. g x ∷ ys) (each_same f g xs h)

pub doubled_leads : (round : ℕ) (placed : List Placed) (clones : List CloneLine) → doubled (all_lead (steps_after round) placed clones) ≡ all_lead (steps_after (round + 1)) placed clones
unfolding doubled all_lead
doubled_leads round placed clones =
    let k : ℕ = steps_after round in
    let e : steps_after (round + 1) ≡ k + k + 1 = rw add-one refl in
    let long : length (all_lead k placed clones) ≡ length clones = length-map-range_with_len (leads k placed clones) 0 (length clones) in
    ap (λ n. map (λ clone. goes_on (way_in (all_lead k placed clones) clone) (way_in (all_lead k placed clones))) (range_with_len 0 n)) long
    ∙ each_same (λ clone. goes_on (way_in (all_lead k placed clones) clone) (way_in (all_lead k placed clones))) (leads (k + k + 1) placed clones) (range_with_len 0 (length clones))
    (λ clone. same_on (way_in (all_lead k placed clones) clone) (way_in (all_lead k placed clones)) (leads k placed clones) (way_told k placed clones)
    ∙ ap (λ w. goes_on w (leads k placed clones)) (way_told k placed clones clone) ∙ sym (leads_add k k placed clones clone))
    ∙ ap (λ n. map (leads n placed clones) (range_with_len 0 (length clones))) (sym e)

pub leads_at_none : (steps : ℕ) (placed : List Placed) (clones : List CloneLine) (i : ℕ) → slice_get clones i ≡ None → leads steps placed clones i ≡ Nowhere
leads_at_none zero placed clones i e = ap (way_from placed clones) e
leads_at_none (suc steps) placed clones i e = ap (λ o. goes_on (way_from placed clones o) (leads steps placed clones)) e

-- the first that passes one test passes both where it passes the other
pub finds_both : {X : Type 0} (test also : X → Bool) (xs : List X) (x : X) → find test xs ≡ Some x → also x ≡ true → find (λ y. test y && also y) xs ≡ Some x
finds_both test also [] x e f = absurd (cc)
finds_both test also (y ∷ xs) x e f = by_test (test y) e (finds_both test also xs x)
  where
    by_test : (v : Bool) → cond v (Some y) (find test xs) ≡ Some x → (find test xs ≡ Some x → also x ≡ true → find (λ y. test y && also y) xs ≡ Some x) → cond (v && also y) (Some y) (find (λ y. test y && also y) xs) ≡ Some x
    by_test true k rest = let same : y ≡ x = same_Some y x k in rw (same, f) refl
    by_test false k rest = rest k f

-- where the first clone of a name leads to a server, there its name is placed
abbrev pub LeadsThere : ℕ → List Placed → List CloneLine → Type 0
LeadsThere steps placed clones = (i : ℕ) (clone : CloneLine) (server : ServerId) → slice_get clones i ≡ Some clone → server_at_end (leads steps placed clones i) ≡ Some server → place_by steps placed clones clone.source ≡ Some server

pub way_places : (steps : ℕ) (placed : List Placed) (clones : List CloneLine) (name : List ℕ) (server : ServerId) → LeadsThere steps placed clones
    → server_at_end (goes_on (way_of placed clones name) (leads steps placed clones)) ≡ Some server → place_by (suc steps) placed clones name ≡ Some server
unfolding way_of
way_places steps placed clones name server there e = by_found (find_placed placed name) refl (place_of clones name) refl e
  where
    by_clone : (i : ℕ) (found : Option CloneLine) → slice_get clones i ≡ found → find (λ (clone : CloneLine). same_name clone.new name) clones ≡ found → server_at_end (leads steps placed clones i) ≡ Some server
        → by_source (find (places (λ source. place_by steps placed clones source) name) clones) (λ source. place_by steps placed clones source) ≡ Some server
    by_clone i None at first k = let none = leads_at_none steps placed clones i at in let wrong : server_at_end Nowhere ≡ Some server = rw none at k in absurd (cc)
    by_clone i (Some clone) at first k =
        let here : place_by steps placed clones clone.source ≡ Some server = there i clone server at k in
        rw (finds_both (λ (clone : CloneLine). same_name clone.new name) (λ (clone : CloneLine). is_some (place_by steps placed clones clone.source)) clones clone first (rw here refl)) here

    by_found : (found : Option Placed) → find_placed placed name ≡ found → (place : Option ℕ) → place_of clones name ≡ place → server_at_end (goes_on (way_by found place) (leads steps placed clones)) ≡ Some server
        → found_server found (by_source (find (places (λ source. place_by steps placed clones source) name) clones) (λ source. place_by steps placed clones source)) ≡ Some server
    by_found (Some found) f place g k = k
    by_found None f None g k = absurd (cc)
    by_found None f (Some i) g k = by_clone i (slice_get clones i) refl (find_by_place (λ (clone : CloneLine). same_name clone.new name) clones ∙ ap (option_and_then (λ i. slice_get clones i)) g) k

pub leads_there : (steps : ℕ) (placed : List Placed) (clones : List CloneLine) → LeadsThere steps placed clones
unfolding way_of
leads_there zero placed clones i clone server at e = by_found (find_placed placed clone.source) (place_of clones clone.source) (ap (λ o. server_at_end (way_from placed clones o)) (sym at) ∙ e)
  where
    by_found : (found : Option Placed) (place : Option ℕ) → server_at_end (way_by found place) ≡ Some server → option_map (λ p. p.server) found ≡ Some server
    by_found (Some found) place k = k
    by_found None (Some place) k = absurd (cc)
    by_found None None k = absurd (cc)
leads_there (suc steps) placed clones i clone server at e =
    way_places steps placed clones clone.source server (leads_there steps placed clones) (ap (λ o. server_at_end (goes_on (way_from placed clones o) (leads steps placed clones))) (sym at) ∙ e)

pub enough_steps : most_steps ≡ suc (steps_after DOUBLINGS)
unfolding most_steps
enough_steps = refl

-- so the ways tell a server, where there is one
pub way_tells : (placed : List Placed) (clones : List CloneLine) (ways : List Way) (name : List ℕ) (server : ServerId) → ways ≡ all_lead (steps_after DOUBLINGS) placed clones
    → server_at_end (goes_on (way_of placed clones name) (way_in ways)) ≡ Some server → clone_place placed clones name ≡ Some server
way_tells placed clones ways name server e k =
    let told : server_at_end (goes_on (way_of placed clones name) (leads (steps_after DOUBLINGS) placed clones)) ≡ Some server =
    ap server_at_end (sym (same_on (way_of placed clones name) (way_in (all_lead (steps_after DOUBLINGS) placed clones)) (leads (steps_after DOUBLINGS) placed clones) (way_told (steps_after DOUBLINGS) placed clones)))
    ∙ (rw e at k) in
    ap (λ n. place_by n placed clones name) enough_steps ∙ way_places (steps_after DOUBLINGS) placed clones name server (leads_there (steps_after DOUBLINGS) placed clones) told
