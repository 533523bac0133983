-- The replies and losses that are printed.
use Rattle.std.proofs.Common.{◌≡◌, ℕ, zero, suc, ◌+◌, ◌<◌, ◌≤◌, ◌==◌, nat_le, ◌&&◌, Bool, true, false, List, [], ◌∷◌, ◌++◌, length, take, Some, refl, sym, ap, subst, append_assoc, ◌∙◌, arith}
use Rattle.std.specs.Prelude.{map, filter, flat_map, slice_get, if◌then◌else◌}
use Rattle.std.specs.List.{list_all, range_with_len}
use Rattle.std.proofs.lemmas.Bool.{eqb-true, eq-eqb}
use Rattle.std.proofs.lemmas.Grind.{common_steps}
use Rattle.std.proofs.lemmas.List.{append-nil}
use Rattle.std.proofs.lemmas.List.Folds.{list_all-append}
use Rattle.base_types.specs.declared.ids.HostId.{HostId}
use Rattle.base_types.specs.declared.limits.TheConstants.{HOSTS_MAX, SERVERS_MAX}
use Rattle.tree_calls.specs.declared.entry.Entry.{Entry}
use Rattle.tree_calls.specs.declared.entry.Entry.TheVariants.{Call as Called, Stored, Down, Left}
use Rattle.tree_calls.specs.declared.entry.Loss.{Loss}
use Rattle.tree_answers.specs.declared.tree.Tree.{Tree}
use Rattle.tree_answers.specs.Histories.{after_entry, after_history, lost_at, lost_in}
use Rattle.script_lines.specs.Asks.{call_lines}
use Rattle.service_plain.specs.Played.{is_own, are_numbered}
use Rattle.script_output.specs.Reports.{answer_in, lost_by, by_host, all_hosts, all_servers}
use Rattle.service_run.specs.Laws.{reply_in, is_placed, RepliesFollowCalls, LossesAreTaken}

first : (a b : Bool) → (a && b) ≡ true → a ≡ true
first true b h = refl
first false b h = cc

second : (a b : Bool) → (a && b) ≡ true → b ≡ true
second true b h = h
second false b h = cc

both : (a b : Bool) → a ≡ true → b ≡ true → (a && b) ≡ true
both a b h k = rw (h, k) refl

le_of : (a b : ℕ) → nat_le a b ≡ true → a ≤ b
le_of a b h = grind (arith, common_steps, h)

le_true : (a b : ℕ) → a ≤ b → nat_le a b ≡ true
le_true a b h = grind (arith, common_steps)

le_false : (a b : ℕ) → b < a → nat_le a b ≡ false
le_false a b h = grind (arith, common_steps)

-- what is told of a host's calls, numbered from one on, up to another number
pub record Tells (host : HostId) (calls k left : ℕ) (entries : List Entry) : Type 0 where
  pub hosts : list_all (λ answer. answer.host.0 == host.0) (flat_map (answer_in host.0 calls) entries) ≡ true
  pub numbers : map (λ answer. answer.k) (flat_map (answer_in host.0 calls) entries) ≡ range_with_len k (length (flat_map (answer_in host.0 calls) entries))
  pub replies : map (λ answer. answer.reply) (flat_map (answer_in host.0 calls) entries) ≡ flat_map reply_in (take left (filter (is_own host) entries))

-- none has a lesser number
none_told : (host : HostId) (calls k : ℕ) (entries : List Entry) → calls < k → are_numbered host k entries ≡ true → flat_map (answer_in host.0 calls) entries ≡ []
unfolding answer_in
none_told host calls k [] l h = refl
none_told host calls k (Called by n call reply ∷ entries) l h = at (by.0 == host.0) refl (first _ _ h) (second _ _ h) (λ m w r. none_told host calls m entries w r)
  where
    at : (v : Bool) → (by.0 == host.0) ≡ v → (if v then n == k else true) ≡ true → are_numbered host (if v then k + 1 else k) entries ≡ true →
        ((m : ℕ) → calls < m → are_numbered host m entries ≡ true → flat_map (answer_in host.0 calls) entries ≡ []) → flat_map (answer_in host.0 calls) (Called by n call reply ∷ entries) ≡ []
    at true e q r more = let same : n ≡ k = eqb-true n k q in rw (e, le_false n calls (omega arith)) (more (k + 1) (omega arith) r)
    at false e q r more = rw e (more k l r)
none_told host calls k (Stored by fid spans len ∷ entries) l h = none_told host calls k entries l h
none_told host calls k (Down by server ∷ entries) l h = none_told host calls k entries l h
none_told host calls k (Left server id ∷ entries) l h = none_told host calls k entries l h

nothing_told : (host : HostId) (calls k : ℕ) (entries : List Entry) → flat_map (answer_in host.0 calls) entries ≡ [] → Tells host calls k 0 entries
nothing_told host calls k entries e = record { hosts = rw e refl; numbers = rw e refl; replies = rw e refl }

told : (host : HostId) (calls k left : ℕ) (entries : List Entry) → k + left ≡ calls + 1 → are_numbered host k entries ≡ true → Tells host calls k left entries
unfolding answer_in
told host calls k zero [] s h = record { hosts = refl; numbers = refl; replies = refl }
told host calls k (suc left) [] s h = record { hosts = refl; numbers = refl; replies = refl }
told host calls k zero (entry ∷ entries) s h = nothing_told host calls k (entry ∷ entries) (none_told host calls k (entry ∷ entries) (omega arith) h)
told host calls k (suc left) (Called by n call reply ∷ entries) s h = at (by.0 == host.0) refl (first _ _ h) (second _ _ h) (λ m rest w r. told host calls m rest entries w r)
  where
    at : (v : Bool) → (by.0 == host.0) ≡ v → (if v then n == k else true) ≡ true → are_numbered host (if v then k + 1 else k) entries ≡ true →
        ((m rest : ℕ) → m + rest ≡ calls + 1 → are_numbered host m entries ≡ true → Tells host calls m rest entries) →
        Tells host calls k (suc left) (Called by n call reply ∷ entries)
    at true e q r more =
        let same : n ≡ k = eqb-true n k q in
        let yes : nat_le n calls ≡ true = le_true n calls (omega arith) in
        let t : Tells host calls (k + 1) left entries = more (k + 1) left (omega arith) r in
        record {
          hosts = rw (e, yes) (both _ _ e t.hosts);
          numbers = rw (e, yes, same) (ap (λ l. k ∷ l) t.numbers);
          replies = rw (e, yes) (ap (λ l. reply ∷ l) t.replies);
        }
    at false e q r more =
        let t : Tells host calls k (suc left) entries = more k (suc left) s r in
        record { hosts = rw e t.hosts; numbers = rw e t.numbers; replies = rw e t.replies }
told host calls k (suc left) (Stored by fid spans len ∷ entries) s h = let t : Tells host calls k (suc left) entries = told host calls k (suc left) entries s h in record { hosts = t.hosts; numbers = t.numbers; replies = t.replies }
told host calls k (suc left) (Down by server ∷ entries) s h = let t : Tells host calls k (suc left) entries = told host calls k (suc left) entries s h in record { hosts = t.hosts; numbers = t.numbers; replies = t.replies }
told host calls k (suc left) (Left server id ∷ entries) s h = let t : Tells host calls k (suc left) entries = told host calls k (suc left) entries s h in record { hosts = t.hosts; numbers = t.numbers; replies = t.replies }

pub replies_follow : RepliesFollowCalls
replies_follow script played host p =
    let t : Tells host (call_lines script host.0) 1 (call_lines script host.0) played.history = told host (call_lines script host.0) 1 (call_lines script host.0) played.history (omega arith) (p.done.numbered host) in
    record { hosts = t.hosts; numbers = t.numbers; replies = t.replies }

-- what is lost by two lots of entries
lost_append : (tree : Tree) (a b : List Entry) → lost_in tree (a ++ b) ≡ lost_in tree a ++ lost_in (after_history tree a) b
lost_append tree [] b = refl
lost_append tree (entry ∷ a) b = ap (λ l. lost_at tree entry ++ l) (lost_append (after_entry tree entry) a b) ∙ sym (append_assoc (lost_at tree entry) (lost_in (after_entry tree entry) a) (lost_in (after_history (after_entry tree entry) a) b))

-- what holds of all of a list
all_filter : {X : Type 0} (p test : X → Bool) (xs : List X) → list_all p xs ≡ true → list_all p (filter test xs) ≡ true
all_filter p test [] h = refl
all_filter p test (x ∷ xs) h = by (test x) (all_filter p test xs (second _ _ h))
  where
    by : (v : Bool) → list_all p (filter test xs) ≡ true → list_all p (if v then x ∷ filter test xs else filter test xs) ≡ true
    by true m = both _ _ (first _ _ h) m
    by false m = m

all_flat : {X Y : Type 0} (p : Y → Bool) (f : X → List Y) → ((x : X) → list_all p (f x) ≡ true) → (xs : List X) → list_all p (flat_map f xs) ≡ true
all_flat p f h [] = refl
all_flat p f h (x ∷ xs) = list_all-append p (f x) (flat_map f xs) ∙ both _ _ (h x) (all_flat p f h xs)

all_printed : (test : Loss → Bool) (losses : List Loss) → list_all test losses ≡ true → list_all test (by_host losses) ≡ true
unfolding by_host
all_printed test losses h = all_flat test (λ host. flat_map (lost_by losses host) all_servers) (λ host. all_flat test (lost_by losses host) (λ server. all_filter test _ losses h) all_servers) all_hosts

-- what holds of all that comes of a range of numbers
of_range : {Y : Type 0} (p : Y → Bool) (f : ℕ → List Y) (from n at : ℕ) → from ≤ at → at < from + n → list_all p (flat_map f (range_with_len from n)) ≡ true → list_all p (f at) ≡ true
of_range p f from zero at a b h = absurd (omega arith)
of_range p f from (suc n) at a b h = by (from == at) refl (sym (list_all-append p (f from) (flat_map f (range_with_len (from + 1) n))) ∙ h) (λ w r. of_range p f (from + 1) n at w (omega arith) r)
  where
    by : (v : Bool) → (from == at) ≡ v → (list_all p (f from) && list_all p (flat_map f (range_with_len (from + 1) n))) ≡ true →
        (from + 1 ≤ at → list_all p (flat_map f (range_with_len (from + 1) n)) ≡ true → list_all p (f at) ≡ true) → list_all p (f at) ≡ true
    by true e k more = subst (λ n. list_all p (f n) ≡ true) (eqb-true from at e) (first _ _ k)
    by false e k more = more (grind (arith, common_steps, e, a)) (second _ _ k)

of_filter : {X : Type 0} (p test : X → Bool) (xs : List X) (i : ℕ) (x : X) → list_all p (filter test xs) ≡ true → slice_get xs i ≡ Some x → test x ≡ true → p x ≡ true
of_filter p test [] i x h g t = cc
of_filter p test (y ∷ xs) zero x h g t = let same : y ≡ x = cc in let here : test y ≡ true = subst (λ z. test z ≡ true) (sym same) t in subst (λ z. p z ≡ true) same (first _ _ (rw here at h))
of_filter p test (y ∷ xs) (suc i) x h g t = of_filter p test xs i x (rest (test y) h) g t
  where
    rest : (v : Bool) → list_all p (if v then y ∷ filter test xs else filter test xs) ≡ true → list_all p (filter test xs) ≡ true
    rest true k = second _ _ k
    rest false k = k

all_at : {X : Type 0} (p : X → Bool) (xs : List X) (i : ℕ) (x : X) → list_all p xs ≡ true → slice_get xs i ≡ Some x → p x ≡ true
all_at p [] i x h g = cc
all_at p (y ∷ xs) zero x h g = let same : y ≡ x = cc in subst (λ z. p z ≡ true) same (first _ _ h)
all_at p (y ∷ xs) (suc i) x h g = all_at p xs i x (second _ _ h) g

all_each : {X : Type 0} (p : X → Bool) (xs : List X) → ((i : ℕ) (x : X) → slice_get xs i ≡ Some x → p x ≡ true) → list_all p xs ≡ true
all_each p [] h = refl
all_each p (x ∷ xs) h = both _ _ (h 0 x refl) (all_each p xs (λ i y g. h (suc i) y g))

all_taken : (test : Loss → Bool) (losses : List Loss) → list_all is_placed losses ≡ true → list_all test (by_host losses) ≡ true → list_all test losses ≡ true
unfolding by_host
all_taken test losses placed h = all_each test losses (λ (i : ℕ) (loss : Loss) (g : slice_get losses i ≡ Some loss).
    let at : is_placed loss ≡ true = all_at is_placed losses i loss placed g in
    let host : loss.host.0 ≤ HOSTS_MAX = le_of loss.host.0 HOSTS_MAX (first _ _ (first _ _ at)) in
    let low : 1 ≤ loss.server.0 = le_of 1 loss.server.0 (second _ _ (first _ _ at)) in
    let high : loss.server.0 ≤ SERVERS_MAX = le_of loss.server.0 SERVERS_MAX (second _ _ at) in
    let one : list_all test (flat_map (lost_by losses loss.host.0) all_servers) ≡ true = of_range test (λ host. flat_map (lost_by losses host) all_servers) 0 (HOSTS_MAX + 1) loss.host.0 (omega arith) (omega arith) h in
    let two : list_all test (lost_by losses loss.host.0 loss.server.0) ≡ true = of_range test (lost_by losses loss.host.0) 1 SERVERS_MAX loss.server.0 low (omega arith) one in
    of_filter test _ losses i loss two g (both _ _ (eq-eqb loss.host.0 loss.host.0 refl) (eq-eqb loss.server.0 loss.server.0 refl)))

pub losses_taken : LossesAreTaken
losses_taken = record {
  down = λ start before host server. lost_append start before (Down host server ∷ []) ∙ ap (λ l. lost_in start before ++ l) (append-nil _);
  call = λ start before host k call reply. lost_append start before (Called host k call reply ∷ []) ∙ append-nil (lost_in start before);
  stored = λ start before host fid spans length. lost_append start before (Stored host fid spans length ∷ []) ∙ append-nil (lost_in start before);
  left = λ start before server id. lost_append start before (Left server id ∷ []) ∙ append-nil (lost_in start before);
  printed = all_printed;
  all = all_taken;
}
