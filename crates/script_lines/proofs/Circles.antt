-- Which names clones place, and where.
use Rattle.std.proofs.Common.{◌≡◌, ℕ, zero, suc, ◌+◌, ◌-◌, ◌≤◌, List, [], ◌∷◌, ◌++◌, length, ◌==◌, nat_lt, Bool, true, false, ◌&&◌, ◌||◌, cond, find, Option, Some, None, is_some, option_map, refl, sym, ap, ◌∙◌, subst, inl, inr, arith, length-append}
use Rattle.std.specs.List.{AllByRecursion, list_any}
use Rattle.std.specs.Cmp.Lexicographic.{same_text}
use Rattle.std.proofs.lemmas.Bool.{and_parts, and_from, or_cases, eq-eqb, ltb-true, ltb-false}
use Rattle.base_types.specs.Name.{same_name}
use Rattle.base_types.specs.declared.ids.ServerId.{ServerId}
use Rattle.script_lines.specs.Context.{find_placed, server_of}
use Rattle.script_lines.specs.Clones.{found_server, by_source, places, place_by, most_steps, clone_place}
use Rattle.script_lines.specs.Laws.{AreCircular, CirclesPlaceNothing, is_one_of, leads_to, ChainsPlace, FirstClonePlaces}
use Rattle.script_lines.specs.declared.clones.CloneLine.{CloneLine}
use Rattle.script_lines.specs.declared.context.Placed.{Placed}

abbrev Server : Type 0
Server = List ℕ → Option ServerId

-- names that no header places
pub not_found : (found : Option Placed) → option_map (λ p. p.server) found ≡ None → found ≡ None
not_found None e = refl
not_found (Some p) e = absurd (cc)

-- no clone of a name whose source isn't placed places it
pub none_places : (among : List ℕ → Bool) (server : Server) (name : List ℕ) (clones : List CloneLine) → among name ≡ true
    → ((source : List ℕ) → among source ≡ true → server source ≡ None)
    → AllByRecursion (λ clone. among clone.new ≡ true → among clone.source ≡ true) clones
    → find (places server name) clones ≡ None
none_places among server name [] mine none closed = refl
none_places among server name (clone ∷ clones) mine none closed = by_name (same_name clone.new name) refl (none_places among server name clones mine none closed.1)
  where
    by_name : (v : Bool) → same_name clone.new name ≡ v → find (places server name) clones ≡ None → cond (v && is_some (server clone.source)) (Some clone) (find (places server name) clones) ≡ None
    by_name true e rest =
        let is_name : clone.new ≡ name = same_text clone.new name (sym e) in
        let unplaced : server clone.source ≡ None = none clone.source (closed.0 (ap among is_name ∙ mine)) in
        rw unplaced rest
    by_name false e rest = rest

none_placed : (n : ℕ) (placed : List Placed) (clones : List CloneLine) (among : List ℕ → Bool) (name : List ℕ) → AreCircular placed clones among → among name ≡ true → place_by n placed clones name ≡ None
none_placed zero placed clones among name h mine = h.headers name mine
none_placed (suc n) placed clones among name h mine =
    rw (not_found (find_placed placed name) (h.headers name mine))
    (ap (λ o. by_source o (λ source. place_by n placed clones source))
    (none_places among (λ source. place_by n placed clones source) name clones mine (λ source e. none_placed n placed clones among source h e) h.sources))

pub circles_place_nothing : CirclesPlaceNothing
circles_place_nothing placed clones among h name mine = none_placed most_steps placed clones among name h mine

-- a clone whose source is placed places its name
pub some_places : (server : Server) (name : List ℕ) (clones : List CloneLine) (clone : CloneLine) → is_one_of clones clone ≡ true → same_name clone.new name ≡ true → is_some (server clone.source) ≡ true → is_some (by_source (find (places server name) clones) server) ≡ true
some_places server name [] clone one same some = absurd (cc)
some_places server name (first ∷ clones) clone one same some = by_first (same_name first.new name && is_some (server first.source)) refl (λ later. some_places server name clones clone later same some)
  where
    is_first : (same_name first.source clone.source && same_name first.new clone.new) ≡ true → (same_name first.new name && is_some (server first.source)) ≡ true
    is_first e =
        let parts = and_parts (same_name first.source clone.source) (same_name first.new clone.new) e in
        let source : first.source ≡ clone.source = same_text first.source clone.source (sym parts.0) in
        let new : first.new ≡ clone.new = same_text first.new clone.new (sym parts.1) in
        rw (source, new, same, some) refl

    by_first : (v : Bool) → (same_name first.new name && is_some (server first.source)) ≡ v → (is_one_of clones clone ≡ true → is_some (by_source (find (places server name) clones) server) ≡ true) → is_some (by_source (cond v (Some first) (find (places server name) clones)) server) ≡ true
    by_first true e rest = (and_parts (same_name first.new name) (is_some (server first.source)) e).1
    by_first false e rest = elim (or_cases (same_name first.source clone.source && same_name first.new clone.new) (is_one_of clones clone) one) [
      | inl here ↦ let wrong = is_first here in absurd (cc)
      | inr later ↦ rest later
    ]

-- more steps place no less
pub more_places : (server more : Server) (name : List ℕ) (clones : List CloneLine) → ((source : List ℕ) → is_some (server source) ≡ true → is_some (more source) ≡ true)
    → is_some (by_source (find (places server name) clones) server) ≡ true → is_some (by_source (find (places more name) clones) more) ≡ true
more_places server more name [] f h = h
more_places server more name (clone ∷ clones) f h = by_tests (same_name clone.new name) (is_some (server clone.source)) refl (is_some (more clone.source)) refl (more_places server more name clones f) h
  where
    by_tests : (same old : Bool) → is_some (server clone.source) ≡ old → (new : Bool) → is_some (more clone.source) ≡ new
        → (is_some (by_source (find (places server name) clones) server) ≡ true → is_some (by_source (find (places more name) clones) more) ≡ true)
        → is_some (by_source (cond (same && old) (Some clone) (find (places server name) clones)) server) ≡ true
        → is_some (by_source (cond (same && new) (Some clone) (find (places more name) clones)) more) ≡ true
    by_tests true true e true g rest k = g
    by_tests true true e false g rest k = let some = f clone.source e in absurd (cc)
    by_tests true false e true g rest k = g
    by_tests true false e false g rest k = rest k
    by_tests false old e new g rest k = rest k

pub one_more : (n : ℕ) (placed : List Placed) (clones : List CloneLine) (name : List ℕ) → is_some (place_by n placed clones name) ≡ true → is_some (place_by (suc n) placed clones name) ≡ true
one_more zero placed clones name h = by_found (find_placed placed name) h
  where
    by_found : (found : Option Placed) → is_some (option_map (λ p. p.server) found) ≡ true → is_some (found_server found (by_source (find (places (λ source. server_of placed source) name) clones) (λ source. server_of placed source))) ≡ true
    by_found (Some found) k = refl
    by_found None k = absurd (cc)
one_more (suc n) placed clones name h = by_found (find_placed placed name) h (more_places (λ source. place_by n placed clones source) (λ source. place_by (suc n) placed clones source) name clones (λ source some. one_more n placed clones source some))
  where
    by_found : (found : Option Placed) → is_some (found_server found (by_source (find (places (λ source. place_by n placed clones source) name) clones) (λ source. place_by n placed clones source))) ≡ true
        → (is_some (by_source (find (places (λ source. place_by n placed clones source) name) clones) (λ source. place_by n placed clones source)) ≡ true → is_some (by_source (find (places (λ source. place_by (suc n) placed clones source) name) clones) (λ source. place_by (suc n) placed clones source)) ≡ true)
        → is_some (found_server found (by_source (find (places (λ source. place_by (suc n) placed clones source) name) clones) (λ source. place_by (suc n) placed clones source))) ≡ true
    by_found (Some found) k more = refl
    by_found None k more = more k

pub many_more : (most n : ℕ) (placed : List Placed) (clones : List CloneLine) (name : List ℕ) → n ≤ most → is_some (place_by n placed clones name) ≡ true → is_some (place_by most placed clones name) ≡ true
many_more zero n placed clones name few h = let none : n ≡ 0 = omega arith in rw none at h
many_more (suc most) n placed clones name few h = by_test (nat_lt n (suc most)) refl (λ less. one_more most placed clones name (many_more most n placed clones name less h))
  where
    by_test : (v : Bool) → nat_lt n (suc most) ≡ v → (n ≤ most → is_some (place_by (suc most) placed clones name) ≡ true) → is_some (place_by (suc most) placed clones name) ≡ true
    by_test true e rest = let less = ltb-true n (suc most) e in rest (omega arith)
    by_test false e rest = let more = ltb-false n (suc most) e in let same : n ≡ suc most = omega arith in rw same at h

pub found_too : (found : Option Placed) (other : Option ServerId) → is_some other ≡ true → is_some (found_server found other) ≡ true
found_too (Some found) other h = refl
found_too None other h = h

pub itself : (name : List ℕ) → same_name name name ≡ true
itself [] = refl
itself (byte ∷ name) = and_from (byte == byte) (same_name name name) (eq-eqb byte byte refl) (itself name)

chain_places : (n : ℕ) (placed : List Placed) (clones chain : List CloneLine) (from to : List ℕ) → is_some (place_by n placed clones from) ≡ true
    → AllByRecursion (λ clone. is_one_of clones clone ≡ true) chain → leads_to from chain to ≡ true → is_some (place_by (n + length chain) placed clones to) ≡ true
chain_places n placed clones [] from to some ones leads = let same : from ≡ to = same_text from to (sym leads) in rw (← same) (subst (λ k. is_some (place_by k placed clones from) ≡ true) (omega arith) some)
chain_places n placed clones (clone ∷ chain) from to some ones leads =
    let parts = and_parts (same_name clone.source from) (leads_to clone.new chain to) leads in
    let is_from : clone.source ≡ from = same_text clone.source from (sym parts.0) in
    let placed_new : is_some (place_by (suc n) placed clones clone.new) ≡ true = found_too (find_placed placed clone.new) _ (some_places (λ source. place_by n placed clones source) clone.new clones clone ones.0 (itself clone.new) (rw is_from some)) in
    subst (λ k. is_some (place_by k placed clones to) ≡ true) (omega arith) (chain_places (suc n) placed clones chain clone.new to placed_new ones.1 parts.1)

pub chains_place : ChainsPlace
chains_place placed clones chain from to some ones few leads =
    many_more most_steps (0 + length chain) placed clones to (omega arith) (chain_places 0 placed clones chain from to some ones leads)

-- the first clone of a name whose source is placed
pub first_found : (server : Server) (name : List ℕ) (before after : List CloneLine) (clone : CloneLine) → AllByRecursion (λ other. same_name other.new name ≡ true → server other.source ≡ None) before
    → same_name clone.new name ≡ true → is_some (server clone.source) ≡ true → find (places server name) (before ++ clone ∷ after) ≡ Some clone
first_found server name [] after clone none same some = rw (same, some) refl
first_found server name (other ∷ before) after clone none same some = by_name (same_name other.new name) refl (first_found server name before after clone none.1 same some)
  where
    by_name : (v : Bool) → same_name other.new name ≡ v → find (places server name) (before ++ clone ∷ after) ≡ Some clone → cond (v && is_some (server other.source)) (Some other) (find (places server name) (before ++ clone ∷ after)) ≡ Some clone
    by_name true e rest = rw (none.0 e) rest
    by_name false e rest = rest

pub not_more : (n : ℕ) (placed : List Placed) (clones : List CloneLine) (name : List ℕ) → place_by (suc n) placed clones name ≡ None → place_by n placed clones name ≡ None
not_more n placed clones name h = by_place (place_by n placed clones name) refl
  where
    by_place : (server : Option ServerId) → place_by n placed clones name ≡ server → server ≡ None
    by_place None e = refl
    by_place (Some server) e =
        let some : is_some (place_by (suc n) placed clones name) ≡ true = one_more n placed clones name (rw e refl) in
        let wrong : is_some {T = ServerId} None ≡ true = rw h at some in
        absurd (cc)

-- so it is where a header places the source
pub placed_still : (n : ℕ) (placed : List Placed) (clones : List CloneLine) (name : List ℕ) (server : ServerId) → server_of placed name ≡ Some server → place_by n placed clones name ≡ Some server
placed_still zero placed clones name server h = h
placed_still (suc n) placed clones name server h = by_found (find_placed placed name) h
  where
    by_found : (found : Option Placed) → option_map (λ p. p.server) found ≡ Some server → found_server found (by_source (find (places (λ source. place_by n placed clones source) name) clones) (λ source. place_by n placed clones source)) ≡ Some server
    by_found (Some found) k = k
    by_found None k = absurd (cc)

first_places : (n : ℕ) (placed : List Placed) (before after : List CloneLine) (clone : CloneLine) (server : ServerId) → server_of placed clone.new ≡ None
    → AllByRecursion (λ other. same_name other.new clone.new ≡ true → place_by (suc n) placed (before ++ clone ∷ after) other.source ≡ None) before
    → server_of placed clone.source ≡ Some server → place_by (suc n) placed (before ++ clone ∷ after) clone.new ≡ Some server
first_places n placed before after clone server free none at =
    let clones : List CloneLine = before ++ clone ∷ after in
    let here : place_by n placed clones clone.source ≡ Some server = placed_still n placed clones clone.source server at in
    rw (
      not_found (find_placed placed clone.new) free,
      first_found (λ source. place_by n placed clones source) clone.new before after clone (each_less before none) (itself clone.new) (rw here refl),
    ) here
  where
    each_less : (front : List CloneLine) → AllByRecursion (λ other. same_name other.new clone.new ≡ true → place_by (suc n) placed (before ++ clone ∷ after) other.source ≡ None) front → AllByRecursion (λ other. same_name other.new clone.new ≡ true → place_by n placed (before ++ clone ∷ after) other.source ≡ None) front
    each_less [] h = tt
    each_less (other ∷ front) h = (λ e. not_more n placed (before ++ clone ∷ after) other.source (h.0 e), each_less front h.1)

pub first_clone_places : FirstClonePlaces
unfolding most_steps
first_clone_places placed before after clone server free none at = first_places 16383 placed before after clone server free none at
