-- What a generated script asks for can be said.
use Rattle.std.proofs.Common.{◌≤◌, ◌<◌, ℕ, zero, suc, ◌+◌, ◌-◌, ◌*◌, ◌/◌, ◌%◌, ◌==◌, cond, Bool, true, false, List, [], ◌∷◌, ◌++◌, length, map, flat_map, decimal, refl, arith, length-append}
use Rattle.std.specs.List.{range_with_len}
use Rattle.std.proofs.lemmas.Fmt.{length-decimal-le_succ}
use Rattle.tree_calls.specs.declared.call.Call.TheVariants as calls
use Rattle.message_types.specs.Soundness.{Each}
use Rattle.script_words.specs.Fields.{host_node}
use Rattle.script_lines.specs.declared.script.Deed.TheVariants.{Raise}
use Rattle.script_lines.specs.declared.script.Line.{Line}
use Rattle.script_generator.specs.Words.{after_words, generator, nth_word}
use Rattle.script_generator.specs.Workload.{
  Task,
  all_calls,
  await_start,
  awaits,
  call_of,
  calls_by,
  calls_of,
  create,
  creates,
  first_tasks,
  generated,
  made_call,
  numbered,
  own_file,
  setup_of,
  shared_file,
  start,
  tasks,
  text_of,
}
use Rattle.service_plain.specs.Calls.{asked_by}
use Rattle.service_stores.specs.Laws.{GeneratedIsSayable, IsSayable}
use Rattle.service_stores.proofs.Asked.{SaysWell}
use Rattle.service_stores.proofs.PlayedLists.{each_append, each_joined}

abbrev TaskSays : Task → Type 0
TaskSays task = Each (λ asked. IsSayable asked.call) (asked_by task.node task.deed)

lines_say : (number : ℕ) (tasks : List Task) → Each TaskSays tasks → Each SaysWell (numbered number tasks)
lines_say number [] h = tt
lines_say number (task ∷ tasks) h = (h.0, lines_say (number + 1) tasks h.1)

-- lists that are made by places
made_say : (make : ℕ → Task) (a n : ℕ) → ((k : ℕ) → k < a + n → TaskSays (make k)) →
    Each TaskSays (map make (range_with_len a n))
made_say make a zero h = tt
made_say make a (suc n) h = (h a (omega arith), made_say make (a + 1) n (λ k below. h k (omega (arith, below))))

joined_say : (make : ℕ → List Task) (a n : ℕ) → ((k : ℕ) → k < a + n → Each TaskSays (make k)) →
    Each TaskSays (flat_map make (range_with_len a n))
joined_say make a zero h = tt
joined_say make a (suc n) h =
    each_append TaskSays (make a) (flat_map make (range_with_len (a + 1) n)) (h a (omega arith))
    (joined_say make (a + 1) n (λ k below. h k (omega (arith, below))))

-- a text is short
text_short : (host i : ℕ) → host ≤ 16 → i ≤ 400 → length (text_of host i) ≤ 4294967295
text_short host i h k =
    let a = length-decimal-le_succ host (omega (arith, h)) in
    let b = length-decimal-le_succ i (omega (arith, k)) in
    omega (arith, h, k, a, b, length-append (decimal host) (45 ∷ decimal i))

call_says : (host i word : ℕ) → host ≤ 16 → i ≤ 400 → IsSayable (call_of host i word)
unfolding call_of
call_says host i word h k = by (word % 4 == 3) (word % 4 == 2)
  where
    text : length (text_of host i) ≤ 4294967295
    text = text_short host i h k

    by : (shared read : Bool) →
        IsSayable (cond shared (calls.Write shared_file (512 * (host - 1) + word / 4 % 480) (text_of host i))
        (cond read (calls.Read (own_file host) (word / 4 % 60000) 64)
        (calls.Write (own_file host) (word / 4 % 60000) (text_of host i))))
    by true read = record { named = tt; paths = (omega arith, tt); bytes = text }
    by false true = record { named = tt; paths = (omega arith, tt); bytes = tt }
    by false false = record { named = tt; paths = (omega arith, tt); bytes = text }

creates_say : (hosts : ℕ) → Each TaskSays (creates hosts)
unfolding creates
creates_say hosts =
    made_say (λ h. create (own_file (h + 1))) 0 hosts
    (λ k below. (record { named = tt; paths = (omega arith, tt); bytes = tt }, tt))

awaits_say : (hosts : ℕ) → Each TaskSays (awaits hosts)
unfolding awaits
awaits_say hosts = made_say (λ h. await_start (h + 2)) 0 (hosts - 1) (λ k below. tt)

calls_say : (seed hosts calls : ℕ) → hosts ≤ 16 → calls ≤ 400 → Each TaskSays (all_calls seed hosts calls)
unfolding all_calls calls_by
calls_say seed hosts calls few some =
    joined_say (calls_of seed calls) 0 hosts
    (λ h below.
    made_say (λ i. made_call (h + 1) (i + 1) (nth_word i (after_words (h * calls) (generator seed)))) 0 calls
    (λ i less. (
      call_says (h + 1) (i + 1) (nth_word i (after_words (h * calls) (generator seed)))
          (omega (arith, few, below)) (omega (arith, some, less)),
      tt,
    )))

tasks_say : (seed hosts calls : ℕ) → hosts ≤ 16 → calls ≤ 400 → Each TaskSays (tasks seed hosts calls)
tasks_say seed hosts calls few some =
    each_append TaskSays (first_tasks hosts) (all_calls seed hosts calls)
    (each_append TaskSays (create shared_file ∷ creates hosts)
    (record { node = host_node 1; deed = Raise start } ∷ awaits hosts)
    ((record { named = tt; paths = (omega arith, tt); bytes = tt }, tt), creates_say hosts) (tt, awaits_say hosts))
    (calls_say seed hosts calls few some)

pub generated_is_sayable : GeneratedIsSayable
unfolding generated
generated_is_sayable seed hosts calls few some =
    each_joined (λ asked. IsSayable asked.call) (λ (line : Line). asked_by line.node line.deed)
    (setup_of (hosts + 3) ++ numbered (hosts + 5) (tasks seed hosts calls))
    (each_append SaysWell (setup_of (hosts + 3)) (numbered (hosts + 5) (tasks seed hosts calls))
    ((record { named = refl; paths = tt; bytes = tt }, tt), tt)
    (lines_say (hosts + 5) (tasks seed hosts calls) (tasks_say seed hosts calls few some)))
