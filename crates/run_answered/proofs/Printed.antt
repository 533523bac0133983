-- The lines that are printed of the replies to a host's calls.
use Rattle.std.proofs.Common.{Bool, List, [], ap, arith, false, length, map, nat_le, refl, subst, suc, sym, true, zero}
use Rattle.std.proofs.Common.{ℕ}
use Rattle.std.proofs.Common.{◌&&◌, ◌+◌, ◌++◌, ◌<◌, ◌==◌, ◌∙◌, ◌∷◌, ◌≡◌, ◌≤◌}
use Rattle.std.specs.List.{flat_map, list_all, range_with_len}
use Rattle.std.specs.Prelude.{if◌then◌else◌}
use Rattle.std.proofs.lemmas.Bool.{and_parts, eq-eqb, eqb-true, le-leb, lt-leb}
use Rattle.std.proofs.lemmas.List.{length-append, length-map}
use Rattle.base_types.specs.declared.ids.HostId.{HostId}
use Rattle.base_types.specs.declared.ids.Node.TheVariants.{Host}
use Rattle.tree_calls.specs.declared.entry.Entry.{Entry}
use Rattle.tree_calls.specs.declared.entry.Entry.TheVariants.{Call as Called, Down, Left, Stored}
use Rattle.script_lines.specs.Asks.{call_lines}
use Rattle.script_output.specs.Reports.{answer_in, answers_to}
use Rattle.store_laws.specs.Shape.{are_numbered}
use Rattle.run_rules.specs.Runs.{history_of}
use Rattle.run_rules.specs.Steps.{lines_of}
use Rattle.run_answered.proofs.Ended.{calls_are_answered}
use Rattle.run_answered.specs.Entries.{entered}
use Rattle.run_due.specs.Begun.{NumberedFrom, asked_as, calls_of}
use Rattle.run_answered.proofs.Lines.{lines_counted}
use Rattle.run_contents.proofs.Words.{both}
use Rattle.run_answered.specs.Printed.{EachLineIsTold, RunsTellReplies, first_calls, reply_in}

-- of calls numbered from one on, the first of those that are left are told
record Tells (host : HostId) (calls k left : ℕ) (entries : List Entry) : Type 0 where
  pub hosts : list_all (λ answer. answer.host.0 == host.0) (flat_map (answer_in host.0 calls) entries) ≡ true
  pub numbers : map (λ answer. answer.k) (flat_map (answer_in host.0 calls) entries)
      ≡ range_with_len k (length (flat_map (answer_in host.0 calls) entries))
  pub replies : map (λ answer. answer.reply) (flat_map (answer_in host.0 calls) entries)
      ≡ flat_map reply_in (first_calls host left entries)

-- none has a lesser number
none_told : (host : HostId) (calls k : ℕ) (entries : List Entry) → calls < k → are_numbered host k entries ≡ true
    → flat_map (answer_in host.0 calls) entries ≡ []
unfolding answer_in
none_told host calls k [] lt all = refl
none_told host calls k (Called by n call reply ∷ entries) lt all =
    at (by.0 == host.0) refl (and_parts _ _ all).0 (and_parts _ _ all).1 (λ m l r. none_told host calls m entries l r)
  where
    at : (v : Bool) → (by.0 == host.0) ≡ v → (if v then n == k else true) ≡ true
        → are_numbered host (if v then k + 1 else k) entries ≡ true
        → ((m : ℕ) → calls < m → are_numbered host m entries ≡ true → flat_map (answer_in host.0 calls) entries ≡ [])
        → flat_map (answer_in host.0 calls) (Called by n call reply ∷ entries) ≡ []
    at true e q r more =
        let same : n ≡ k = eqb-true n k q in rw (e, lt-leb n calls (omega arith)) (more (k + 1) (omega arith) r)
    at false e q r more = rw e (more k lt r)
none_told host calls k (Stored by fid spans len ∷ entries) lt all = none_told host calls k entries lt all
none_told host calls k (Down by server ∷ entries) lt all = none_told host calls k entries lt all
none_told host calls k (Left server id ∷ entries) lt all = none_told host calls k entries lt all

nothing_told : (host : HostId) (calls k : ℕ) (entries : List Entry) → flat_map (answer_in host.0 calls) entries ≡ []
    → Tells host calls k 0 entries
nothing_told host calls k entries e = record { hosts = rw e refl; numbers = rw e refl; replies = rw e refl }

-- an entry that is no call is passed over
passed : (host : HostId) (calls k left : ℕ) (entry : Entry) (entries : List Entry)
    → flat_map (answer_in host.0 calls) (entry ∷ entries) ≡ flat_map (answer_in host.0 calls) entries
    → first_calls host left (entry ∷ entries) ≡ first_calls host left entries → Tells host calls k left entries
    → Tells host calls k left (entry ∷ entries)
passed host calls k left entry entries e q t = record {
  hosts = rw e t.hosts;
  numbers = rw e t.numbers;
  replies = rw (e, q) t.replies;
}

told : (host : HostId) (calls k left : ℕ) (entries : List Entry) → k + left ≡ calls + 1
    → are_numbered host k entries ≡ true → Tells host calls k left entries
unfolding answer_in
told host calls k zero [] s all = record { hosts = refl; numbers = refl; replies = refl }
told host calls k (suc left) [] s all = record { hosts = refl; numbers = refl; replies = refl }
told host calls k zero (entry ∷ entries) s all =
    nothing_told host calls k (entry ∷ entries) (none_told host calls k (entry ∷ entries) (omega arith) all)
told host calls k (suc left) (Called by n call reply ∷ entries) s all =
    at (by.0 == host.0) refl (and_parts _ _ all).0 (and_parts _ _ all).1
    (λ m rest w r. told host calls m rest entries w r)
  where
    at : (v : Bool) → (by.0 == host.0) ≡ v → (if v then n == k else true) ≡ true
        → are_numbered host (if v then k + 1 else k) entries ≡ true
        → ((m rest : ℕ) → m + rest ≡ calls + 1 → are_numbered host m entries ≡ true → Tells host calls m rest entries)
        → Tells host calls k (suc left) (Called by n call reply ∷ entries)
    at true e q r more =
        let same : n ≡ k = eqb-true n k q in
        let yes : nat_le n calls ≡ true = le-leb n calls (omega arith) in
        let t : Tells host calls (k + 1) left entries = more (k + 1) left (omega arith) r in
        record {
          hosts = rw (e, yes) (both _ _ e t.hosts);
          numbers = rw (e, yes, same) (ap (λ l. k ∷ l) t.numbers);
          replies = rw (e, yes) (ap (λ l. reply ∷ l) t.replies);
        }
    at false e q r more =
        let t : Tells host calls k (suc left) entries = more k (suc left) s r in
        record { hosts = rw e t.hosts; numbers = rw e t.numbers; replies = rw e t.replies }
told host calls k (suc left) (Stored by fid spans len ∷ entries) s all =
    passed host calls k (suc left) (Stored by fid spans len) entries refl refl
    (told host calls k (suc left) entries s all)
told host calls k (suc left) (Down by server ∷ entries) s all =
    passed host calls k (suc left) (Down by server) entries refl refl (told host calls k (suc left) entries s all)
told host calls k (suc left) (Left server id ∷ entries) s all =
    passed host calls k (suc left) (Left server id) entries refl refl (told host calls k (suc left) entries s all)

-- calls whose numbers rise one by one are numbered
numbered : (host : HostId) (k : ℕ) (entries : List Entry) → NumberedFrom k (entered host entries)
    → are_numbered host k entries ≡ true
numbered host k [] all = refl
numbered host k (Called by m call reply ∷ entries) all =
    at (by.0 == host.0) (λ n r. numbered host n entries r) all
  where
    at : (v : Bool) → ((n : ℕ) → NumberedFrom n (entered host entries) → are_numbered host n entries ≡ true)
        → NumberedFrom k ((if v then asked_as m call ∷ [] else []) ++ entered host entries)
        → ((if v then m == k else true) && are_numbered host (if v then k + 1 else k) entries) ≡ true
    at false rest all = rest k all
    at true rest all =
        let next : suc k ≡ k + 1 = omega arith in
        both (m == k) (are_numbered host (k + 1) entries) (ap (λ n. n == k) all.0 ∙ eq-eqb k k refl)
        (rest (k + 1) (subst (λ n. NumberedFrom n (entered host entries)) next all.1))
numbered host k (Stored by fid spans len ∷ entries) all = numbered host k entries all
numbered host k (Down by server ∷ entries) all = numbered host k entries all
numbered host k (Left server id ∷ entries) all = numbered host k entries all

pub runs_tell_replies : RunsTellReplies
runs_tell_replies script journal run ended host part =
    let lines = call_lines script host.0 in
    let t : Tells host lines 1 lines (history_of journal.steps) =
    told host lines 1 lines (history_of journal.steps) (omega arith)
    (numbered host 1 (history_of journal.steps) (calls_are_answered script journal run ended host part).numbers) in
    record { hosts = t.hosts; numbers = t.numbers; replies = t.replies }

-- as many are told as are asked for, where the host has so many calls
replies_counted : (host : HostId) (n : ℕ) (entries : List Entry) → n ≤ length (entered host entries)
    → length (flat_map reply_in (first_calls host n entries)) ≡ n
replies_counted host zero entries le = refl
replies_counted host (suc n) [] le = absurd (omega (arith, le))
replies_counted host (suc n) (Called by k call reply ∷ entries) le =
    at (by.0 == host.0) refl (λ m l. replies_counted host m entries l) le
  where
    at : (v : Bool) → (by.0 == host.0) ≡ v
        → ((m : ℕ) → m ≤ length (entered host entries) → length (flat_map reply_in (first_calls host m entries)) ≡ m)
        → suc n ≤ length ((if v then asked_as k call ∷ [] else []) ++ entered host entries)
        → length (flat_map reply_in (first_calls host (suc n) (Called by k call reply ∷ entries))) ≡ suc n
    at true e rest le = rw e (ap suc (rest n (omega (arith, le))))
    at false e rest le = rw e (rest (suc n) le)
replies_counted host (suc n) (Stored by fid spans len ∷ entries) le = replies_counted host (suc n) entries le
replies_counted host (suc n) (Down by server ∷ entries) le = replies_counted host (suc n) entries le
replies_counted host (suc n) (Left server id ∷ entries) le = replies_counted host (suc n) entries le

pub each_line_is_told : EachLineIsTold
each_line_is_told script journal sound run ended host part =
    sym (length-map (answers_to script history host.0) (λ answer. answer.reply))
    ∙ (ap length (runs_tell_replies script journal run ended host part).replies
    ∙ replies_counted host (call_lines script host.0) history enough)
  where
    history : List Entry
    history = history_of journal.steps

    enough : call_lines script host.0 ≤ length (entered host (history_of journal.steps))
    enough =
        let answered = calls_are_answered script journal run ended host part in
        let lines = lines_counted script sound host in
        let all = sym (length-map (entered host (history_of journal.steps)) (λ asked. asked.call))
        ∙ (ap length answered.calls
        ∙ length-append (calls_of (lines_of script (Host host))) answered.implied) in
        omega (arith, lines, all)
