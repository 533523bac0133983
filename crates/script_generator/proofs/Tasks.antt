-- Lines that are added one by one are those of all tasks.
use Rattle.std.proofs.Common.{◌≡◌, ℕ, zero, suc, ◌+◌, ◌-◌, ◌*◌, ◌≤◌, List, [], ◌∷◌, ◌++◌, length, map, flat_map, refl, sym, ap, ◌∙◌, arith, append_assoc, append-nil, map-id, length-append, add-one}
use Rattle.std.specs.List.{range_with_len}
use Rattle.std.proofs.lemmas.List.FromFn.{map-range_with_len_more}
use Rattle.std.proofs.lemmas.List.Concat.{flat_map-append}
use Rattle.rand_pcg.specs.Lcg.{Lcg}
use Rattle.base_types.specs.declared.ids.Node.{Node}
use Rattle.script_words.specs.Fields.{host_node}
use Rattle.script_lines.specs.Judge.{line_of}
use Rattle.script_lines.specs.declared.script.Deed.{Deed}
use Rattle.script_lines.specs.declared.script.Deed.TheVariants.{Raise}
use Rattle.script_lines.specs.declared.script.Line.{Line}
use Rattle.script_generator.specs.Words.{generator, after_word, after_words, nth_word}
use Rattle.script_generator.specs.Workload.{Task, own_file, create, creates, shared_file, start, await_start, awaits, made_call, calls_by, calls_of, all_calls, first_tasks, tasks, numbered, with_tasks}

pub length-numbered : (number : ℕ) (tasks : List Task) → length (numbered number tasks) ≡ length tasks
length-numbered number [] = refl
length-numbered number (task ∷ tasks) = ap suc (length-numbered (number + 1) tasks)

pub numbered-append : (number : ℕ) (a b : List Task) → numbered number (a ++ b) ≡ numbered number a ++ numbered (number + length a) b
numbered-append number [] b = ap (λ n. numbered n b) (omega arith)
numbered-append number (task ∷ a) b =
    let e : (number + 1) + length a ≡ number + length (task ∷ a) = omega arith in
    ap (λ lines. line_of number task.node task.deed ∷ lines) (numbered-append (number + 1) a b ∙ ap (λ n. numbered (number + 1) a ++ numbered n b) e)

-- tasks that are added in two parts
pub parts_join : (first : ℕ) (lines : List Line) (a b : List Task) → with_tasks first (with_tasks first lines a) b ≡ with_tasks first lines (a ++ b)
unfolding with_tasks
parts_join first lines a b =
    let e : first + length (lines ++ numbered (first + length lines) a) ≡ (first + length lines) + length a = omega (arith, length-append lines (numbered (first + length lines) a), length-numbered (first + length lines) a) in
    rw (e, append_assoc, ← numbered-append (first + length lines) a b) refl

pub one_more : (first : ℕ) (lines : List Line) (node : Node) (deed : Deed) → lines ++ line_of (first + length lines) node deed ∷ [] ≡ with_tasks first lines (record { node = node; deed = deed } ∷ [])
unfolding with_tasks
one_more first lines node deed = refl

pub none_more : (first : ℕ) (lines : List Line) → with_tasks first lines [] ≡ lines
unfolding with_tasks
none_more first lines = append-nil lines

-- the files
pub creates_start : (first : ℕ) (lines : List Line) → with_tasks first lines (creates 0) ≡ lines
unfolding creates
creates_start first lines = none_more first lines

pub creates_more : (first : ℕ) (lines : List Line) (h : ℕ) → with_tasks first (with_tasks first lines (creates h)) (create (own_file (h + 1)) ∷ []) ≡ with_tasks first lines (creates (h + 1))
unfolding creates
creates_more first lines h = parts_join first lines (creates h) (create (own_file (h + 1)) ∷ []) ∙ ap (with_tasks first lines) (sym (map-range_with_len_more (λ h. create (own_file (h + 1))) 0 h h (omega arith)))

-- the awaits
pub awaits_start : (first : ℕ) (lines : List Line) → with_tasks first lines (awaits 1) ≡ lines
unfolding awaits
awaits_start first lines = none_more first lines

pub awaits_more : (first : ℕ) (lines : List Line) (host : ℕ) → 1 ≤ host → with_tasks first (with_tasks first lines (awaits host)) (await_start (host + 1) ∷ []) ≡ with_tasks first lines (awaits (host + 1))
unfolding awaits
awaits_more first lines host h =
    let one : (host + 1) - 1 ≡ (host - 1) + 1 = omega arith in
    let also : (host - 1) + 2 ≡ host + 1 = omega arith in
    let more : map (λ h. await_start (h + 2)) (range_with_len 0 ((host - 1) + 1)) ≡ map (λ h. await_start (h + 2)) (range_with_len 0 (host - 1)) ++ await_start ((host - 1) + 2) ∷ [] = map-range_with_len_more (λ h. await_start (h + 2)) 0 (host - 1) (host - 1) (omega arith) in
    parts_join first lines (awaits host) (await_start (host + 1) ∷ []) ∙ ap (with_tasks first lines) (sym (ap (λ n. map (λ h. await_start (h + 2)) (range_with_len 0 n)) one ∙ more ∙ ap (λ n. map (λ h. await_start (h + 2)) (range_with_len 0 (host - 1)) ++ await_start n ∷ []) also))

-- the calls of one host
pub words_more : (n : ℕ) (rng : Lcg) → after_words (n + 1) rng ≡ after_word (after_words n rng)
words_more n rng = rw add-one refl

pub calls_start : (first : ℕ) (lines : List Line) (rng : Lcg) (host : ℕ) → with_tasks first lines (calls_by rng host 0) ≡ lines
unfolding calls_by
calls_start first lines rng host = none_more first lines

pub calls_more : (first : ℕ) (lines : List Line) (rng : Lcg) (host i : ℕ) → with_tasks first (with_tasks first lines (calls_by rng host i)) (made_call host (i + 1) (nth_word i rng) ∷ []) ≡ with_tasks first lines (calls_by rng host (i + 1))
unfolding calls_by
calls_more first lines rng host i = parts_join first lines (calls_by rng host i) (made_call host (i + 1) (nth_word i rng) ∷ []) ∙ ap (with_tasks first lines) (sym (map-range_with_len_more (λ i. made_call host (i + 1) (nth_word i rng)) 0 i i (omega arith)))

-- the calls of all hosts
pub words_add : (m n : ℕ) (rng : Lcg) → after_words m (after_words n rng) ≡ after_words (n + m) rng
words_add zero n rng = ap (λ k. after_words k rng) (omega arith)
words_add (suc m) n rng =
    let e : suc (n + m) ≡ n + suc m = omega arith in
    ap after_word (words_add m n rng) ∙ ap (λ k. after_words k rng) e

pub words_on : (calls h : ℕ) (rng : Lcg) → after_words calls (after_words (h * calls) rng) ≡ after_words ((h + 1) * calls) rng
words_on calls h rng =
    let e : h * calls + calls ≡ (h + 1) * calls = omega arith in
    words_add calls (h * calls) rng ∙ ap (λ k. after_words k rng) e

pub words_none : (calls : ℕ) (rng : Lcg) → after_words (0 * calls) rng ≡ rng
words_none calls rng = let e : 0 * calls ≡ 0 = omega arith in rw e refl

pub range_push : (n : ℕ) → range_with_len 0 (n + 1) ≡ range_with_len 0 n ++ n ∷ []
range_push n = sym (map-id (range_with_len 0 (n + 1))) ∙ map-range_with_len_more (λ k. k) 0 n n (omega arith) ∙ ap (λ r. r ++ n ∷ []) (map-id (range_with_len 0 n))

pub all_calls_start : (first : ℕ) (lines : List Line) (seed calls : ℕ) → with_tasks first lines (all_calls seed 0 calls) ≡ lines
unfolding all_calls
all_calls_start first lines seed calls = none_more first lines

pub all_calls_more : (first : ℕ) (lines : List Line) (seed calls h : ℕ) → with_tasks first (with_tasks first lines (all_calls seed h calls)) (calls_by (after_words (h * calls) (generator seed)) (h + 1) calls) ≡ with_tasks first lines (all_calls seed (h + 1) calls)
unfolding all_calls
all_calls_more first lines seed calls h =
    parts_join first lines (all_calls seed h calls) (calls_of seed calls h) ∙ ap (with_tasks first lines)
    (sym (ap (λ r. flat_map (calls_of seed calls) r) (range_push h) ∙ flat_map-append (calls_of seed calls) (range_with_len 0 h) (h ∷ []) ∙ ap (λ t. flat_map (calls_of seed calls) (range_with_len 0 h) ++ t) (append-nil (calls_of seed calls h))))

-- all of them
pub first_more : (first hosts : ℕ) → with_tasks first (with_tasks first (with_tasks first (with_tasks first [] (create shared_file ∷ [])) (creates hosts)) (record { node = host_node 1; deed = Raise start } ∷ [])) (awaits hosts) ≡ with_tasks first [] (first_tasks hosts)
first_more first hosts =
    ap (λ ls. with_tasks first (with_tasks first ls (record { node = host_node 1; deed = Raise start } ∷ [])) (awaits hosts)) (parts_join first [] (create shared_file ∷ []) (creates hosts))
    ∙ ap (λ ls. with_tasks first ls (awaits hosts)) (parts_join first [] (create shared_file ∷ creates hosts) (record { node = host_node 1; deed = Raise start } ∷ []))
    ∙ parts_join first [] ((create shared_file ∷ creates hosts) ++ record { node = host_node 1; deed = Raise start } ∷ []) (awaits hosts)
    ∙ ap (with_tasks first []) (append_assoc (create shared_file ∷ creates hosts) (record { node = host_node 1; deed = Raise start } ∷ []) (awaits hosts))

pub all_more : (first seed hosts calls : ℕ) → with_tasks first (with_tasks first [] (first_tasks hosts)) (all_calls seed hosts calls) ≡ numbered first (tasks seed hosts calls)
unfolding with_tasks
all_more first seed hosts calls =
    let e : first + length {A = Line} [] ≡ first = omega arith in
    parts_join first [] (first_tasks hosts) (all_calls seed hosts calls) ∙ ap (λ n. numbered n (tasks seed hosts calls)) e
