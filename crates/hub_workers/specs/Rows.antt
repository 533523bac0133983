-- What workers add to the list.
use Rattle.std.specs.Prelude.{◌≡◌, ℕ, zero, suc, ◌<◌, ◌≤◌, ◌==◌, List, [], ◌∷◌, ◌++◌, length, slice_index}
use Rattle.std.specs.Bool.{MatchBool}
use Rattle.std.specs.List.{filter, slice_index_or}
use Rattle.hub_cell.specs.Lists.{entries}
use Rattle.hub_cell.specs.Passes.{TableId}
use Rattle.hub_workers.specs.declared.log.Entry.{Entry}
use Rattle.hub_workers.specs.declared.log.Add.{Add}
use Rattle.hub_workers.specs.declared.worker.Job.{Job}
use Rattle.hub_workers.specs.declared.worker.Done.{Done}
use Rattle.hub_workers.specs.declared.gathered.Gathered.{Gathered}

-- the entry is the last, or nothing was added
abbrev pub Adds : Add → List Entry → Add → List Entry → Type 0
Adds work before work' after = MatchBool work'.added (after ≡ before ++ work.entry ∷ []) (after ≡ before)

-- the first entries of a worker
abbrev pub rows : ℕ → ℕ → List Entry
rows worker zero = []
rows worker (suc n) = rows worker n ++ record { worker = worker; number = n } ∷ []

-- the worker made its first entries, as many as it says, and its pass is otherwise as it was
pub record IsDone (job : Job) (turns : ℕ) (done : Done) : Type 0 where
  pub cell : done.pass.cell ≡ job.pass.cell
  pub spare : done.pass.spare ≡ job.pass.spare
  pub made : entries done.pass.made ≡ entries job.pass.made ++ rows job.worker done.count
  pub few : done.count ≤ turns

-- a job with the pass of this one
abbrev pub job_of : Done → Job
job_of done = record { worker = 0; pass = done.pass }

-- each worker did its job
abbrev pub AreDone : List Job → ℕ → List Done → Type 0
AreDone jobs turns done =
    (k : ℕ) (d : Done) → k < length jobs →
    IsDone (slice_index_or jobs k (job_of d)) turns (slice_index_or done k d)

-- a fresh pass for each worker
pub record AreJobs (cell : TableId) (workers : ℕ) (jobs : List Job) : Type 0 where
  pub count : length jobs ≡ workers
  pub each : (k : ℕ) (d : Job) → k < length jobs → (let job = slice_index_or jobs k d in
      (job.worker ≡ k) × (job.pass.cell ≡ cell) × (job.pass.made ≡ []) × (job.pass.spare ≡ 0))

-- each worker's entries in the list are its first ones, in order, as many as it made
pub record IsGathered (workers turns : ℕ) (gathered : Gathered) : Type 0 where
  pub count : length gathered.counts.items ≡ workers
  pub each : (k : ℕ) → k < workers → (filter (λ (e : Entry). e.worker == k) gathered.entries.items ≡ rows k
      (slice_index gathered.counts.items k)) × (slice_index gathered.counts.items k ≤ turns)

-- a worker with this number made its first entries, and its pass has no spare seat
pub record IsWorked (cell : TableId) (turns worker : ℕ) (done : Done) : Type 0 where
  pub cell_is : done.pass.cell ≡ cell
  pub spare : done.pass.spare ≡ 0
  pub made : entries done.pass.made ≡ rows worker done.count
  pub few : done.count ≤ turns

-- the workers from this number on
abbrev pub AreWorked : TableId → ℕ → ℕ → List Done → Type 0
AreWorked cell turns worker [] = Unit {0}
AreWorked cell turns worker (d ∷ ds) = IsWorked cell turns worker d × AreWorked cell turns (suc worker) ds
