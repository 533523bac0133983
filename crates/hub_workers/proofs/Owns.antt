-- From what each worker did to what each one's entries are of the whole list.
use Rattle.std.proofs.Common.{◌≡◌, ◌≢◌, ℕ, zero, suc, ◌+◌, ◌<◌, ◌≤◌, eqb, Bool, true, false, List, [], ◌∷◌, ◌++◌, map}
use Rattle.std.proofs.Common.{length, Some, refl, sym, ap, ◌∙◌, subst, arith, eq-eqb, ne_eqb}
use Rattle.std.specs.Prelude.{slice_get, slice_index, slice_index_or}
use Rattle.std.specs.List.{All, sum_by, filter}
use Rattle.std.proofs.lemmas.List.Sums.{sum_by-cons}
use Rattle.std.proofs.lemmas.List.{length-map}
use Rattle.hub_cell.specs.Lists.{entries, IsShuffle}
use Rattle.hub_cell.specs.Passes.{TableId, CellView, PassView, AreAllPasses, parts_of}
use Rattle.hub_cell.proofs.Gathering.{all_cons}
use Rattle.hub_cell.proofs.Shuffles.{FailsAll, PassesAll, own_part}
use Rattle.hub_workers.specs.declared.log.Entry.{Entry}
use Rattle.hub_workers.specs.declared.worker.Job.{Job}
use Rattle.hub_workers.specs.declared.worker.Done.{Done}
use Rattle.hub_workers.specs.declared.gathered.Gathered.{Gathered}
use Rattle.hub_workers.specs.Rows.{rows, job_of, IsDone, AreJobs, IsWorked, AreWorked, IsGathered}

abbrev is_of : ℕ → Entry → Bool
is_of worker e = eqb e.worker worker

passes_more : (p : Entry → Bool) (xs : List Entry) (e : Entry) → PassesAll p xs → p e ≡ true →
    PassesAll p (xs ++ e ∷ [])
passes_more p [] e h t = (t, tt)
passes_more p (x ∷ xs) e h t = (h.0, passes_more p xs e h.1 t)

fails_more : (p : Entry → Bool) (xs : List Entry) (e : Entry) → FailsAll p xs → p e ≡ false → FailsAll p (xs ++ e ∷ [])
fails_more p [] e h t = (t, tt)
fails_more p (x ∷ xs) e h t = (h.0, fails_more p xs e h.1 t)

rows_pass : (worker n : ℕ) → PassesAll (is_of worker) (rows worker n)
rows_pass worker zero = tt
rows_pass worker (suc n) = passes_more (is_of worker) (rows worker n) (record { worker = worker; number = n })
    (rows_pass worker n) (eq-eqb worker worker refl)

rows_fail : (worker other n : ℕ) → other ≢ worker → FailsAll (is_of worker) (rows other n)
rows_fail worker other zero apart = tt
rows_fail worker other (suc n) apart = fails_more (is_of worker) (rows other n) (record { worker = other; number = n })
    (rows_fail worker other n apart) (ne_eqb other worker apart)

-- what each worker did, by its number
pub all_worked : (cell : TableId) (turns from : ℕ) (ds : List Done) → ((k : ℕ) (d : Done) → k < length ds →
    IsWorked cell turns (from + k) (slice_index_or ds k d)) → AreWorked cell turns from ds
all_worked cell turns from [] h = tt
all_worked cell turns from (d ∷ ds) h = (
  subst (λ n. IsWorked cell turns n d) (let e : from + 0 ≡ from = omega arith in e) (h 0 d (omega arith)),
  all_worked cell turns (suc from) ds (λ k x lt. subst (λ n. IsWorked cell turns n (slice_index_or ds k x))
      (let e : from + suc k ≡ suc from + k = omega arith in e) (h (suc k) x (omega arith))),
)

pub one_worked : (cell : TableId) (workers turns : ℕ) (jobs : List Job) (k : ℕ) (x : Job) (done : Done) →
    AreJobs cell workers jobs → k < length jobs → IsDone (slice_index_or jobs k x) turns done → IsWorked cell turns k
    done
one_worked cell workers turns jobs k x done are lt h =
    let f = are.each k x lt in
    let job : Job = slice_index_or jobs k x in
    record {
      cell_is = h.cell ∙ f.1;
      spare = h.spare ∙ f.3;
      made = h.made ∙ ap (λ l. entries l ++ rows job.worker done.count) f.2 ∙ ap (λ n. rows n done.count) f.0;
      few = h.few;
    }

abbrev passes : List Done → List (PassView Entry)
passes ds = map (λ d. d.pass) ds

all_of_cell : (cell : TableId) (turns from : ℕ) (ds : List Done) → AreWorked cell turns from ds →
    All (λ (p : PassView Entry). p.cell ≡ cell) (passes ds)
all_of_cell cell turns from [] h = λ k d lt. absurd (omega arith)
all_of_cell cell turns from (d ∷ ds) h = all_cons (λ (p : PassView Entry). p.cell ≡ cell) d.pass (passes ds) h.0.cell_is
    (all_of_cell cell turns (suc from) ds h.1)

all_seats : (cell : TableId) (turns from : ℕ) (ds : List Done) → AreWorked cell turns from ds →
    sum_by (λ (p : PassView Entry). p.spare + 1) (passes ds) ≡ length ds
all_seats cell turns from [] h = refl
all_seats cell turns from (d ∷ ds) h =
    let s = sum_by-cons (λ (p : PassView Entry). p.spare + 1) d.pass (passes ds) in
    let again = all_seats cell turns (suc from) ds h.1 in
    let none = h.0.spare in omega arith

pub all_passes : {T : Type 0} (cell : CellView T) (turns : ℕ) (ds : List Done) → AreWorked cell.id turns 0 ds →
    length ds ≡ cell.seats → AreAllPasses cell (passes ds)
all_passes cell turns ds h count = record {
  of_cell = all_of_cell cell.id turns 0 ds h;
  all_seats = all_seats cell.id
      turns 0 ds h ∙ count;
}

part_at : (cell : TableId) (turns from : ℕ) (ds : List Done) → AreWorked cell turns from ds → (k : ℕ) → k < length ds
    → (d : Done) × (slice_get (parts_of (passes ds)) k ≡ Some (entries d.pass.made)) ×
    (slice_index (map (λ (x : Done). x.count) ds) k ≡ d.count) × IsWorked cell turns (from + k) d
part_at cell turns from [] h k lt = absurd (omega arith)
part_at cell turns from (d ∷ ds) h zero lt = (
  d,
  refl,
  refl,
  subst (λ n. IsWorked cell turns n d)
      (let e : from ≡ from + 0 = omega arith in e) h.0,
)
part_at cell turns from (d ∷ ds) h (suc k) lt =
    let again = part_at cell turns (suc from) ds h.1 k (omega arith) in (
      again.0,
      again.1,
      again.2,
      subst (λ n. IsWorked cell turns n again.0) (let e : suc from + k ≡ from + suc k = omega
          arith in e) again.3,
    )

part_is : (cell : TableId) (turns from : ℕ) (ds : List Done) → AreWorked cell turns from ds → (j : ℕ)
    (part : List Entry) → slice_get (parts_of (passes ds)) j ≡ Some part → (n : ℕ) × (part ≡ rows (from + j) n)
part_is cell turns from [] h j part e = absurd (cc)
part_is cell turns from (d ∷ ds) h zero part e =
    let same : entries d.pass.made ≡ part = cc in
    (d.count, sym same ∙ h.0.made ∙ ap (λ n. rows n d.count) (let e' : from ≡ from + 0 = omega arith in e'))
part_is cell turns from (d ∷ ds) h (suc j) part e =
    let again = part_is cell turns (suc from) ds h.1 j part e in
    (again.0, again.1 ∙ ap (λ n. rows n again.0) (let e' : suc from + j ≡ from + suc j = omega arith in e'))

-- each worker's entries in the whole list
pub own_rows : (cell : TableId) (turns : ℕ) (ds : List Done) (list : List Entry) → AreWorked cell turns 0 ds →
    IsShuffle list (parts_of (passes ds)) → (k : ℕ) → k < length ds
    → (filter (λ (e : Entry). eqb e.worker k) list ≡ rows k (slice_index (map (λ (x : Done). x.count) ds) k)) ×
    (slice_index (map (λ (x : Done). x.count) ds) k ≤ turns)
own_rows cell turns ds list h w k lt =
    let at = part_at cell turns 0 ds h k lt in
    let count = at.2 in
    let mine : entries at.0.pass.made ≡ rows k at.0.count = at.3.made ∙ ap (λ n. rows n at.0.count)
    (let e : 0 + k ≡ k = omega arith in e) in
    let found = own_part (is_of k) list (parts_of (passes ds)) k (rows k at.0.count) w (at.1 ∙ ap Some mine)
    (rows_pass k at.0.count)
    (λ j other apart e. let p = part_is cell turns 0 ds h j other e in
    subst (FailsAll (is_of k)) (sym (p.1 ∙ ap (λ n. rows n p.0) (let e' : 0 + j ≡ j = omega arith in e')))
    (rows_fail k j p.0 apart)) in
    (found ∙ ap (rows k) (sym count), (let few = at.3.few in omega arith))

-- all workers, from what each did with its job
pub workers_done : (cell : TableId) (workers turns : ℕ) (jobs : List Job) (ds : List Done) → AreJobs cell workers jobs →
    length ds ≡ length jobs
    → ((k : ℕ) (d : Done) → k < length jobs → IsDone (slice_index_or jobs k (job_of d)) turns (slice_index_or ds k d)) →
    AreWorked cell turns 0 ds
workers_done cell workers turns jobs ds are count h =
    all_worked cell turns 0 ds (λ k d lt. let below : k < length jobs = omega arith in
    subst (λ n. IsWorked cell turns n (slice_index_or ds k d)) (let e : k ≡ 0 + k = omega arith in
    e) (one_worked cell workers turns jobs k (job_of d) (slice_index_or ds k d) are below (h k d below)))

pub gathered_by : (cell : TableId) (workers turns : ℕ) (ds : List Done) (list : List Entry) (ps : List (PassView Entry))
    (gathered : Gathered) → AreWorked cell turns 0 ds → length ds ≡ workers → ps ≡ passes ds →
    IsShuffle list (parts_of ps)
    → gathered.entries.items ≡ list → gathered.counts.items ≡ map (λ (x : Done). x.count) ds → IsGathered workers turns
    gathered
gathered_by cell workers turns ds list ps gathered h count is w same counts = record {
  count = ap length counts ∙ length-map ds (λ (x : Done). x.count) ∙ count;
  each = (λ k lt.
      let own = own_rows cell turns ds list h (subst (λ l. IsShuffle list (parts_of l)) is w) k (omega arith) in
      let at = ap (λ l. slice_index l k) counts in (
        ap (filter (λ (e : Entry). eqb e.worker k)) same ∙ own.0 ∙ ap (rows k) (sym at),
        (let few = own.1 in omega arith),
      ));
}
