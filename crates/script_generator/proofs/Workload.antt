-- The generated script keeps the limits of the service, and its lines don't wait for one another.
use Rattle.std.proofs.Common.{◌≡◌, ℕ, zero, suc, ◌+◌, ◌-◌, ◌*◌, ◌/◌, ◌%◌, ◌<◌, ◌≤◌, List, [], ◌∷◌, ◌++◌, length, map, flat_map, replicate, Bool, true, false, not, cond, ◌&&◌, ◌==◌, nat_le, nat_lt, None, refl, sym, subst, ap, arith, append_assoc, append-nil, length-append}
use Rattle.std.specs.List.{list_all, list_any, range_with_len}
use Rattle.std.proofs.lemmas.Bool.{and_from, and_parts, le-leb, lt-ltb}
use Rattle.std.proofs.lemmas.List.{length-replicate}
use Rattle.std.proofs.lemmas.List.Folds.{list_all-append}
use Rattle.std.proofs.lemmas.List.FromFn.{length-map-range_with_len}
use Rattle.base_types.specs.declared.limits.TheConstants.{CACHED_TOKENS_DEFAULT, CACHED_TOKENS_MAX, CACHED_TOKENS_MIN, HOSTS_MAX}
use Rattle.tree_calls.specs.Limits.{is_between, keeps_limits}
use Rattle.tree_calls.specs.declared.roster.HostLine.{HostLine}
use Rattle.tree_calls.specs.declared.call.Call.TheVariants as calls
use Rattle.rand_pcg.specs.Lcg.{Lcg}
use Rattle.script_words.specs.Fields.{host_node}
use Rattle.script_lines.specs.Sound.{is_of, is_host_deed, is_sound_deed, is_sound_line, is_stop, stops_last, raised_by, raised_in, are_apart, numbers_rise, IsSound}
use Rattle.script_lines.specs.declared.script.Deed.{Deed}
use Rattle.script_lines.specs.declared.script.Deed.TheVariants.{Call, Raise, Await, Stop, Restart}
use Rattle.script_lines.specs.declared.script.Line.{Line}
use Rattle.script_reader.specs.Orders.{flags_after, flags_met}
use Rattle.script_reader.specs.Walk.{can_go, stuck_at}
use Rattle.script_reader.proofs.Passes.{ordered_goes}
use Rattle.script_generator.specs.Words.{generator, after_words, nth_word}
use Rattle.script_generator.specs.Workload.{Task, shared_file, own_file, text_of, call_of, create, creates, start, await_start, awaits, made_call, calls_by, calls_of, all_calls, first_tasks, tasks, numbered, roster_of, generated}
use Rattle.script_generator.proofs.Tasks.{length-numbered, numbered-append}

-- what holds of each element of lists that are made by places
pub each_made : {X : Type 0} (test : X → Bool) (make : ℕ → X) (a n : ℕ) → ((k : ℕ) → k < a + n → test (make k) ≡ true) → list_all test (map make (range_with_len a n)) ≡ true
each_made test make a zero h = refl
each_made test make a (suc n) h = and_from (test (make a)) (list_all test (map make (range_with_len (a + 1) n))) (h a (omega arith)) (each_made test make (a + 1) n (λ k below. h k (omega arith)))

pub each_joined : {X : Type 0} (test : X → Bool) (make : ℕ → List X) (a n : ℕ) → ((k : ℕ) → k < a + n → list_all test (make k) ≡ true) → list_all test (flat_map make (range_with_len a n)) ≡ true
each_joined test make a zero h = refl
each_joined test make a (suc n) h = rw (list_all-append test (make a) (flat_map make (range_with_len (a + 1) n))) (and_from (list_all test (make a)) (list_all test (flat_map make (range_with_len (a + 1) n))) (h a (omega arith)) (each_joined test make (a + 1) n (λ k below. h k (omega arith))))

pub each_copy : {X : Type 0} (test : X → Bool) (n : ℕ) (x : X) → test x ≡ true → list_all test (replicate n x) ≡ true
each_copy test zero x h = refl
each_copy test (suc n) x h = and_from (test x) (list_all test (replicate n x)) h (each_copy test n x h)

-- a task of a host that is declared, which doesn't stop
abbrev pub is_good : ℕ → Task → Bool
is_good hosts task = is_sound_deed 1 hosts task.node task.deed && not (is_stop task.deed)

pub good_host : (hosts host : ℕ) (deed : Deed) → 1 ≤ host → host ≤ hosts → is_host_deed 1 deed ≡ true → is_stop deed ≡ false → is_good hosts (record { node = host_node host; deed = deed }) ≡ true
good_host hosts host deed least most fits stays =
    and_from (is_between 1 hosts host && is_host_deed 1 deed) (not (is_stop deed))
    (and_from (is_between 1 hosts host) (is_host_deed 1 deed) (and_from (nat_le 1 host) (nat_le host hosts) (le-leb 1 host least) (le-leb host hosts most)) fits)
    (ap not stays)

pub call_fits : (host i word : ℕ) → is_host_deed 1 (Call (call_of host i word)) ≡ true
unfolding call_of
call_fits host i word = by_kind (word % 4 == 3) (word % 4 == 2)
  where
    by_kind : (shared read : Bool) → is_host_deed 1 (Call (cond shared (calls.Write shared_file (512 * (host - 1) + word / 4 % 480) (text_of host i)) (cond read (calls.Read (own_file host) (word / 4 % 60000) 64) (calls.Write (own_file host) (word / 4 % 60000) (text_of host i))))) ≡ true
    by_kind true read = refl
    by_kind false true = refl
    by_kind false false = refl

pub first_good : (hosts : ℕ) → 1 ≤ hosts → list_all (is_good hosts) (first_tasks hosts) ≡ true
unfolding creates awaits
first_good hosts some =
    and_from (is_good hosts (create shared_file)) (list_all (is_good hosts) (creates hosts ++ record { node = host_node 1; deed = Raise start } ∷ awaits hosts)) (good_host hosts 1 (Call (calls.Create shared_file)) (omega arith) some refl refl)
    (rw (list_all-append (is_good hosts) (creates hosts) (record { node = host_node 1; deed = Raise start } ∷ awaits hosts))
    (and_from (list_all (is_good hosts) (creates hosts)) (list_all (is_good hosts) (record { node = host_node 1; deed = Raise start } ∷ awaits hosts))
    (each_made (is_good hosts) (λ h. create (own_file (h + 1))) 0 hosts (λ k below. good_host hosts 1 (Call (calls.Create (own_file (k + 1)))) (omega arith) some refl refl))
    (and_from (is_good hosts (record { node = host_node 1; deed = Raise start })) (list_all (is_good hosts) (awaits hosts)) (good_host hosts 1 (Raise start) (omega arith) some refl refl)
    (each_made (is_good hosts) (λ h. await_start (h + 2)) 0 (hosts - 1) (λ k below. good_host hosts (k + 2) (Await start) (omega arith) (omega arith) refl refl)))))

pub calls_good : (hosts host calls : ℕ) (rng : Lcg) → 1 ≤ host → host ≤ hosts → list_all (is_good hosts) (calls_by rng host calls) ≡ true
unfolding calls_by
calls_good hosts host calls rng least most =
    each_made (is_good hosts) (λ i. made_call host (i + 1) (nth_word i rng)) 0 calls (λ k below. good_host hosts host (Call (call_of host (k + 1) (nth_word k rng))) least most (call_fits host (k + 1) (nth_word k rng)) refl)

pub all_good : (seed hosts calls : ℕ) → 1 ≤ hosts → list_all (is_good hosts) (tasks seed hosts calls) ≡ true
unfolding all_calls
all_good seed hosts calls some =
    rw (list_all-append (is_good hosts) (first_tasks hosts) (all_calls seed hosts calls))
    (and_from (list_all (is_good hosts) (first_tasks hosts)) (list_all (is_good hosts) (all_calls seed hosts calls)) (first_good hosts some)
    (each_joined (is_good hosts) (calls_of seed calls) 0 hosts (λ h below. calls_good hosts (h + 1) calls (after_words (h * calls) (generator seed)) (omega arith) (omega arith))))

-- so the lines are sound
pub lines_sound : (hosts number : ℕ) (tasks : List Task) → list_all (is_good hosts) tasks ≡ true → list_all (is_sound_line 1 hosts) (numbered number tasks) ≡ true
lines_sound hosts number [] h = refl
lines_sound hosts number (task ∷ tasks) h =
    let parts = and_parts (is_good hosts task) (list_all (is_good hosts) tasks) h in
    and_from (is_sound_deed 1 hosts task.node task.deed) (list_all (is_sound_line 1 hosts) (numbered (number + 1) tasks)) (and_parts (is_sound_deed 1 hosts task.node task.deed) (not (is_stop task.deed)) parts.0).0 (lines_sound hosts (number + 1) tasks parts.1)

pub none_stops : (hosts number : ℕ) (tasks : List Task) → list_all (is_good hosts) tasks ≡ true → stops_last (numbered number tasks) ≡ true
none_stops hosts number [] h = refl
none_stops hosts number (task ∷ tasks) h =
    let parts = and_parts (is_good hosts task) (list_all (is_good hosts) tasks) h in
    and_from (not (is_stop task.deed && list_any (is_of task.node) (numbered (number + 1) tasks))) (stops_last (numbered (number + 1) tasks))
    (by_stop (is_stop task.deed) (list_any (is_of task.node) (numbered (number + 1) tasks)) (and_parts (is_sound_deed 1 hosts task.node task.deed) (not (is_stop task.deed)) parts.0).1)
    (none_stops hosts (number + 1) tasks parts.1)
  where
    by_stop : (stop later : Bool) → not stop ≡ true → not (stop && later) ≡ true
    by_stop true later e = absurd (cc)
    by_stop false later e = refl

pub lines_rise : (low number : ℕ) (tasks : List Task) → low < number → numbers_rise low (numbered number tasks) ≡ true
lines_rise low number [] h = refl
lines_rise low number (task ∷ tasks) h = and_from (nat_lt low number) (numbers_rise number (numbered (number + 1) tasks)) (lt-ltb low number h) (lines_rise number (number + 1) tasks (omega arith))

pub calls_long : (seed calls a n : ℕ) → calls ≤ 400 → length (flat_map (calls_of seed calls) (range_with_len a n)) ≤ 400 * n
unfolding calls_by
calls_long seed calls a zero few = omega arith
calls_long seed calls a (suc n) few =
    let rest = calls_long seed calls (a + 1) n few in
    let one = length-map-range_with_len (λ i. made_call (a + 1) (i + 1) (nth_word i (after_words (a * calls) (generator seed)))) 0 calls in
    let both = length-append (calls_of seed calls a) (flat_map (calls_of seed calls) (range_with_len (a + 1) n)) in
    omega (arith, rest, one, both)

pub tasks_long : (seed hosts calls : ℕ) → 1 ≤ hosts → calls ≤ 400 → length (tasks seed hosts calls) ≤ 1 + (hosts + hosts) + 400 * hosts
unfolding creates awaits all_calls
tasks_long seed hosts calls some few =
    let rest = calls_long seed calls 0 hosts few in
    let made = length-map-range_with_len (λ h. create (own_file (h + 1))) 0 hosts in
    let waits = length-map-range_with_len (λ h. await_start (h + 2)) 0 (hosts - 1) in
    let first = length-append (creates hosts) (record { node = host_node 1; deed = Raise start } ∷ awaits hosts) in
    let both = length-append (first_tasks hosts) (all_calls seed hosts calls) in
    omega (arith, rest, made, waits, first, both)

abbrev host_line : HostLine
host_line = record { user = 0; limit = CACHED_TOKENS_DEFAULT }

pub roster_kept : (hosts : ℕ) → hosts ≤ 16 → keeps_limits (roster_of hosts) ≡ true
roster_kept hosts most =
    let long = length-replicate hosts host_line in
    let few : nat_le (length (replicate hosts host_line)) HOSTS_MAX ≡ true = le-leb (length (replicate hosts host_line)) 16 (omega (arith, long)) in
    rw few (each_copy (λ (line : HostLine). nat_lt line.user 1 && is_between CACHED_TOKENS_MIN CACHED_TOKENS_MAX line.limit) hosts host_line refl)

-- a deed that can go and raises no flag
abbrev pub raises_none : Deed → Bool
raises_none (Raise flag) = false
raises_none _ = true

abbrev pub is_steady : List (List ℕ) → Deed → Bool
is_steady flags deed = can_go flags deed && raises_none deed

pub same_flags : (flags : List (List ℕ)) (deed : Deed) → raises_none deed ≡ true → flags_after flags deed ≡ flags
same_flags flags (Raise flag) h = absurd (cc)
same_flags flags (Call call) h = refl
same_flags flags (Await flag) h = refl
same_flags flags Stop h = refl
same_flags flags Restart h = refl

-- such tasks keep flags met, and leave them as they are
pub steady_met : (flags : List (List ℕ)) (number : ℕ) (tasks : List Task) (more : List Line) → list_all (λ task. is_steady flags task.deed) tasks ≡ true → flags_met flags more ≡ true → flags_met flags (numbered number tasks ++ more) ≡ true
steady_met flags number [] more h met = met
steady_met flags number (task ∷ tasks) more h met =
    let parts = and_parts (is_steady flags task.deed) (list_all (λ (task : Task). is_steady flags task.deed) tasks) h in
    let own = and_parts (can_go flags task.deed) (raises_none task.deed) parts.0 in
    and_from (can_go flags task.deed) (flags_met (flags_after flags task.deed) (numbered (number + 1) tasks ++ more)) own.0
    (rw (same_flags flags task.deed own.1) (steady_met flags (number + 1) tasks more parts.1 met))

pub creates_steady : (hosts : ℕ) → list_all (λ task. is_steady [] task.deed) (create shared_file ∷ creates hosts) ≡ true
unfolding creates
creates_steady hosts = each_made (λ (task : Task). is_steady [] task.deed) (λ h. create (own_file (h + 1))) 0 hosts (λ k below. refl)

pub awaits_steady : (hosts : ℕ) → list_all (λ task. is_steady (start ∷ []) task.deed) (awaits hosts) ≡ true
unfolding awaits
awaits_steady hosts = each_made (λ (task : Task). is_steady (start ∷ []) task.deed) (λ h. await_start (h + 2)) 0 (hosts - 1) (λ k below. refl)

pub calls_steady : (seed hosts calls : ℕ) → list_all (λ task. is_steady (start ∷ []) task.deed) (all_calls seed hosts calls) ≡ true
unfolding all_calls calls_by
calls_steady seed hosts calls =
    each_joined (λ (task : Task). is_steady (start ∷ []) task.deed) (calls_of seed calls) 0 hosts
    (λ h below. each_made (λ (task : Task). is_steady (start ∷ []) task.deed) (λ i. made_call (h + 1) (i + 1) (nth_word i (after_words (h * calls) (generator seed)))) 0 calls (λ k less. refl))

-- the tasks up to the flag, and those after it
pub tasks_split : (seed hosts calls : ℕ) → tasks seed hosts calls ≡ (create shared_file ∷ creates hosts) ++ record { node = host_node 1; deed = Raise start } ∷ (awaits hosts ++ all_calls seed hosts calls)
tasks_split seed hosts calls = append_assoc (create shared_file ∷ creates hosts) (record { node = host_node 1; deed = Raise start } ∷ awaits hosts) (all_calls seed hosts calls)

pub tasks_met : (number seed hosts calls : ℕ) → flags_met [] (numbered number (tasks seed hosts calls)) ≡ true
tasks_met number seed hosts calls =
    let made : List Task = create shared_file ∷ creates hosts in
    let after : ℕ = number + length made in
    subst (λ all. flags_met [] (numbered number all) ≡ true) (sym (tasks_split seed hosts calls)) (subst (λ lines. flags_met [] lines ≡ true) (sym (numbered-append number made (record { node = host_node 1; deed = Raise start } ∷ (awaits hosts ++ all_calls seed hosts calls))))
    (steady_met [] number made (numbered after (record { node = host_node 1; deed = Raise start } ∷ (awaits hosts ++ all_calls seed hosts calls))) (creates_steady hosts)
    (rest_met (after + 1))))
  where
    rest_met : (n : ℕ) → flags_met (start ∷ []) (numbered n (awaits hosts ++ all_calls seed hosts calls)) ≡ true
    rest_met n =
        rw (← append-nil (numbered n (awaits hosts ++ all_calls seed hosts calls)))
        (steady_met (start ∷ []) n (awaits hosts ++ all_calls seed hosts calls) []
        (rw (list_all-append (λ (task : Task). is_steady (start ∷ []) task.deed) (awaits hosts) (all_calls seed hosts calls))
        (and_from (list_all (λ (task : Task). is_steady (start ∷ []) task.deed) (awaits hosts)) (list_all (λ (task : Task). is_steady (start ∷ []) task.deed) (all_calls seed hosts calls)) (awaits_steady hosts) (calls_steady seed hosts calls))) refl)

pub generated_goes : (seed hosts calls : ℕ) → stuck_at (generated seed hosts calls).lines ≡ None
unfolding generated
generated_goes seed hosts calls = ordered_goes (numbered (hosts + 5) (tasks seed hosts calls)) (tasks_met (hosts + 5) seed hosts calls)

-- one flag is raised, once
pub none_raised : (deed : Deed) → raises_none deed ≡ true → raised_by deed ≡ []
none_raised (Raise flag) h = absurd (cc)
none_raised (Call call) h = refl
none_raised (Await flag) h = refl
none_raised Stop h = refl
none_raised Restart h = refl

pub steady_raise : (flags : List (List ℕ)) (number : ℕ) (tasks : List Task) (more : List Line) → list_all (λ task. is_steady flags task.deed) tasks ≡ true → raised_in (numbered number tasks ++ more) ≡ raised_in more
steady_raise flags number [] more h = refl
steady_raise flags number (task ∷ tasks) more h =
    let parts = and_parts (is_steady flags task.deed) (list_all (λ (task : Task). is_steady flags task.deed) tasks) h in
    let own = and_parts (can_go flags task.deed) (raises_none task.deed) parts.0 in
    rw (none_raised task.deed own.1) (steady_raise flags (number + 1) tasks more parts.1)

pub tasks_raise : (number seed hosts calls : ℕ) → are_apart (raised_in (numbered number (tasks seed hosts calls))) ≡ true
tasks_raise number seed hosts calls =
    let made : List Task = create shared_file ∷ creates hosts in
    let after : ℕ = number + length made in
    subst (λ all. are_apart (raised_in (numbered number all)) ≡ true) (sym (tasks_split seed hosts calls)) (subst (λ lines. are_apart (raised_in lines) ≡ true) (sym (numbered-append number made (record { node = host_node 1; deed = Raise start } ∷ (awaits hosts ++ all_calls seed hosts calls))))
    (rw (steady_raise [] number made (numbered after (record { node = host_node 1; deed = Raise start } ∷ (awaits hosts ++ all_calls seed hosts calls))) (creates_steady hosts), rest_raise (after + 1)) refl))
  where
    rest_raise : (n : ℕ) → raised_in (numbered n (awaits hosts ++ all_calls seed hosts calls)) ≡ []
    rest_raise n =
        rw (← append-nil (numbered n (awaits hosts ++ all_calls seed hosts calls)))
        (steady_raise (start ∷ []) n (awaits hosts ++ all_calls seed hosts calls) []
        (rw (list_all-append (λ (task : Task). is_steady (start ∷ []) task.deed) (awaits hosts) (all_calls seed hosts calls))
        (and_from (list_all (λ (task : Task). is_steady (start ∷ []) task.deed) (awaits hosts)) (list_all (λ (task : Task). is_steady (start ∷ []) task.deed) (all_calls seed hosts calls)) (awaits_steady hosts) (calls_steady seed hosts calls))))

pub generated_sound : (seed hosts calls : ℕ) → 1 ≤ hosts → hosts ≤ 16 → calls ≤ 400 → IsSound (generated seed hosts calls)
unfolding generated
generated_sound seed hosts calls some most few = record {
  servers = refl;
  roster = roster_kept hosts most;
  setup = refl;
  lines = subst (λ n. list_all (is_sound_line 1 n) (numbered (hosts + 5) (tasks seed hosts calls)) ≡ true) (sym (length-replicate hosts host_line)) (lines_sound hosts (hosts + 5) (tasks seed hosts calls) (all_good seed hosts calls some));
  stops = none_stops hosts (hosts + 5) (tasks seed hosts calls) (all_good seed hosts calls some);
  flags = tasks_raise (hosts + 5) seed hosts calls;
  numbers = and_from (nat_lt 0 (hosts + 3)) (numbers_rise (hosts + 3) (numbered (hosts + 5) (tasks seed hosts calls))) (lt-ltb 0 (hosts + 3) (omega arith)) (lines_rise (hosts + 3) (hosts + 5) (tasks seed hosts calls) (omega arith));
  count = omega (arith, length-numbered (hosts + 5) (tasks seed hosts calls), tasks_long seed hosts calls some few);
  plan = refl;
  net = refl;
}
