-- What entries change of what is told of a history.
use Rattle.std.proofs.Common.{◌≡◌, ℕ, zero, suc, ◌+◌, ◌==◌, ◌&&◌, not, Bool, true, false, List, [], ◌∷◌, ◌++◌, refl, sym, ap, subst}
use Rattle.std.specs.Prelude.{filter, if◌then◌else◌}
use Rattle.std.specs.List.{list_all}
use Rattle.std.proofs.lemmas.Grind.{flat_map-append}
use Rattle.base_types.specs.declared.ids.HostId.{HostId}
use Rattle.tree_calls.specs.declared.entry.Entry.{Entry}
use Rattle.tree_calls.specs.declared.entry.Entry.TheVariants.{Call as Called, Stored, Down, Left}
use Rattle.tree_saving.proofs.Lists.{filter_none}
use Rattle.tree_saving.specs.Saving.{downs_from}
use Rattle.script_lines.specs.declared.script.Script.{Script}
use Rattle.service_plain.specs.Calls.{Asks, Falls, is_asked, falls_from, acts_in}
use Rattle.service_plain.specs.declared.uses.Use.{Use}
use Rattle.service_plain.specs.Uses.{used_by, uses_from}
use Rattle.service_plain.specs.Played.{calls_in, is_own, has_number, next_number, are_numbered, is_implied}
use Rattle.service_plain.specs.Underway.{is_down, is_aside, next_from}

-- both parts of a test
pub fst_true : (a b : Bool) → (a && b) ≡ true → a ≡ true
fst_true true b h = refl
fst_true false b h = cc

pub snd_true : (a b : Bool) → (a && b) ≡ true → b ≡ true
snd_true true b h = h
snd_true false b h = cc

pub both_true : (a b : Bool) → a ≡ true → b ≡ true → (a && b) ≡ true
both_true a b h k = rw (h, k) refl

-- what holds of all where another holds of all
pub all_so : {X : Type 0} (p q : X → Bool) → ((x : X) → p x ≡ true → q x ≡ true) → (xs : List X) → list_all p xs ≡ true → list_all q xs ≡ true
all_so p q f [] h = refl
all_so p q f (x ∷ xs) h = both_true _ _ (f x (fst_true _ _ h)) (all_so p q f xs (snd_true _ _ h))

-- an entry that isn't a call of a host
abbrev pub is_foreign : HostId → Entry → Bool
is_foreign host entry = not (is_own host entry)

pub calls_append : (a b : List Entry) → calls_in (a ++ b) ≡ calls_in a ++ calls_in b
calls_append a b = flat_map-append _ a b

pub next_append : (host : HostId) (k : ℕ) (a b : List Entry) → next_from host k (a ++ b) ≡ next_from host (next_from host k a) b
next_append host k [] b = refl
next_append host k (entry ∷ a) b = next_append host (next_number host k entry) a b

pub numbered_append : (host : HostId) (k : ℕ) (a b : List Entry) → are_numbered host k a ≡ true → are_numbered host (next_from host k a) b ≡ true → are_numbered host k (a ++ b) ≡ true
numbered_append host k [] b h e = e
numbered_append host k (entry ∷ a) b h e = both_true _ _ (fst_true _ _ h) (numbered_append host (next_number host k entry) a b (snd_true _ _ h) e)

pub uses_append : (host : HostId) (uses : List Use) (a b : List Entry) → uses_from host uses (a ++ b) ≡ uses_from host (uses_from host uses a) b
uses_append host uses [] b = refl
uses_append host uses (entry ∷ a) b = uses_append host (used_by host uses entry) a b

-- entries of others
number_stays : (host : HostId) (k : ℕ) (entry : Entry) → is_foreign host entry ≡ true → (next_number host k entry ≡ k) × (has_number host k entry ≡ true)
number_stays host k (Called caller n call reply) h = let e : (caller.0 == host.0) ≡ false = flipped _ h in (rw e refl, rw e refl)
  where
    flipped : (a : Bool) → not a ≡ true → a ≡ false
    flipped true h = cc
    flipped false h = refl
number_stays host k (Stored by fid spans len) h = (refl, refl)
number_stays host k (Down by server) h = (refl, refl)
number_stays host k (Left server id) h = (refl, refl)

uses_stay : (host : HostId) (uses : List Use) (entry : Entry) → is_foreign host entry ≡ true → used_by host uses entry ≡ uses
uses_stay host uses (Called caller n call reply) h = let e : (caller.0 == host.0) ≡ false = flipped _ h in rw e refl
  where
    flipped : (a : Bool) → not a ≡ true → a ≡ false
    flipped true h = cc
    flipped false h = refl
uses_stay host uses (Stored by fid spans len) h = refl
uses_stay host uses (Down by server) h = refl
uses_stay host uses (Left server id) h = refl

pub next_foreign : (host : HostId) (k : ℕ) (entries : List Entry) → list_all (is_foreign host) entries ≡ true → next_from host k entries ≡ k
next_foreign host k [] h = refl
next_foreign host k (entry ∷ entries) h = let (e, _) = number_stays host k entry (fst_true _ _ h) in rw e (next_foreign host k entries (snd_true _ _ h))

pub numbered_foreign : (host : HostId) (k : ℕ) (entries : List Entry) → list_all (is_foreign host) entries ≡ true → are_numbered host k entries ≡ true
numbered_foreign host k [] h = refl
numbered_foreign host k (entry ∷ entries) h = let (e, f) = number_stays host k entry (fst_true _ _ h) in rw (f, e) (numbered_foreign host k entries (snd_true _ _ h))

pub uses_foreign : (host : HostId) (test : Entry → Bool) (uses : List Use) (entries : List Entry) → list_all (is_foreign host) entries ≡ true → uses_from host uses (filter test entries) ≡ uses
uses_foreign host test uses [] h = refl
uses_foreign host test uses (entry ∷ entries) h = by (test entry) (uses_foreign host test uses entries (snd_true _ _ h)) (uses_stay host uses entry (fst_true _ _ h))
  where
    by : (v : Bool) → uses_from host uses (filter test entries) ≡ uses → used_by host uses entry ≡ uses → uses_from host uses (if v then entry ∷ filter test entries else filter test entries) ≡ uses
    by true k e = subst (λ held. uses_from host held (filter test entries) ≡ uses) (sym e) k
    by false k e = k

pub implied_foreign : (script : Script) (host : HostId) (entries : List Entry) → list_all (is_foreign host) entries ≡ true → filter (is_implied script host) entries ≡ []
implied_foreign script host entries h = filter_none (is_foreign host) (is_implied script host) (λ entry e. by (is_own host entry) (not (is_asked script entry)) e) entries h
  where
    by : (a b : Bool) → not a ≡ true → (a && b) ≡ false
    by true b k = cc
    by false b k = refl

-- entries that say what became kept
pub stores_foreign : (host : HostId) (entries : List Entry) → list_all is_aside entries ≡ true → list_all (is_foreign host) entries ≡ true
stores_foreign host = all_so is_aside (is_foreign host) by
  where
    by : (entry : Entry) → is_aside entry ≡ true → is_foreign host entry ≡ true
    by (Called caller n call reply) h = cc
    by (Stored other fid spans len) h = refl
    by (Down other server) h = refl
    by (Left server id) h = refl

pub stores_no : (test : Entry → Bool) → ((host : HostId) → (entry : Entry) → is_aside entry ≡ true → test entry ≡ false) → (entries : List Entry) → list_all is_aside entries ≡ true → filter test entries ≡ []
stores_no test f entries h = filter_none is_aside test (f (record { 0 = 0 })) entries h

pub asked_store : (script : Script) (entry : Entry) → is_aside entry ≡ true → is_asked script entry ≡ false
asked_store script (Called caller n call reply) h = cc
asked_store script (Stored other fid spans len) h = refl
asked_store script (Down other server) h = cc
asked_store script (Left server id) h = refl

pub down_store : (entry : Entry) → is_aside entry ≡ true → is_down entry ≡ false
down_store (Called caller n call reply) h = cc
down_store (Stored other fid spans len) h = refl
down_store (Down other server) h = cc
down_store (Left server id) h = refl

-- entries that say that a host is down
abbrev pub is_down_entry : Entry → Bool
is_down_entry entry = is_down entry

pub downs_down : (host : HostId) (server n : ℕ) → list_all is_down (downs_from host server n) ≡ true
downs_down host server zero = refl
downs_down host server (suc n) = downs_down host (server + 1) n

pub downs_foreign : (host : HostId) (entries : List Entry) → list_all is_down entries ≡ true → list_all (is_foreign host) entries ≡ true
downs_foreign host = all_so is_down (is_foreign host) by
  where
    by : (entry : Entry) → is_down entry ≡ true → is_foreign host entry ≡ true
    by (Called caller n call reply) h = cc
    by (Stored other fid spans len) h = refl
    by (Down other server) h = refl
    by (Left server id) h = refl

pub downs_asked : (script : Script) (entries : List Entry) → list_all is_down entries ≡ true → filter (is_asked script) entries ≡ []
downs_asked script entries h = filter_none is_down (is_asked script) by entries h
  where
    by : (entry : Entry) → is_down entry ≡ true → is_asked script entry ≡ false
    by (Called caller n call reply) h = cc
    by (Stored other fid spans len) h = cc
    by (Down other server) h = refl
    by (Left server id) h = refl

-- what entries bring about
pub acts_append : (script : Script) (a b : List Entry) → acts_in script (a ++ b) ≡ acts_in script a ++ acts_in script b
acts_append script a b = flat_map-append _ a b

pub acts_none : (script : Script) (entries : List Entry) → filter (is_asked script) entries ≡ [] → filter is_down entries ≡ [] → acts_in script entries ≡ []
acts_none script [] h k = refl
acts_none script (Called caller n call reply ∷ entries) h k = by (is_asked script (Called caller n call reply)) refl h (λ g. acts_none script entries g k)
  where
    by : (v : Bool) → is_asked script (Called caller n call reply) ≡ v → (if v then Called caller n call reply ∷ filter (is_asked script) entries else filter (is_asked script) entries) ≡ [] →
        (filter (is_asked script) entries ≡ [] → acts_in script entries ≡ []) → (if v then Asks caller call ∷ [] else []) ++ acts_in script entries ≡ []
    by true e g more = cc
    by false e g more = more g
acts_none script (Stored by fid spans len ∷ entries) h k = acts_none script entries h k
acts_none script (Down by server ∷ entries) h k = cc
acts_none script (Left server id ∷ entries) h k = acts_none script entries h k

pub acts_downs : (script : Script) (host : HostId) (server n : ℕ) → acts_in script (downs_from host server n) ≡ falls_from host server n
acts_downs script host server zero = refl
acts_downs script host server (suc n) = ap (λ acts. Falls host (record { 0 = server }) ∷ acts) (acts_downs script host (server + 1) n)
