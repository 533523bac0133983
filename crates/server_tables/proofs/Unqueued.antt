-- What is left once a want is taken out by its place among those that wait.
use Rattle.std.proofs.Common.{◌≡◌, ℕ, ◌<◌, ◌==◌, Bool, true, false, ◌&&◌, not, Option, Some, None, List, map, length}
use Rattle.std.proofs.Common.{refl, ◌∙◌, ap, eqb-true}
use Rattle.std.specs.Prelude.{remove, slice_index_or}
use Rattle.std.proofs.lemmas.Bool.{and_parts}
use Rattle.token_manager.specs.Managers.{Manager, after_decide, is_ready_at, queue_after, queue_decided, ready_at}
use Rattle.token_manager.specs.Wants.{without_want}
use Rattle.token_manager.specs.declared.want.Want.{Want as WantOf}
use Rattle.run_rules.specs.Doings.{Doing, NoGrace}
use Rattle.run_rules.specs.Past.{In}
use Rattle.server_tables.specs.declared.pending.Pending.{Pending}
use Rattle.server_tables.specs.declared.tables.Tables.{Tables}
use Rattle.server_tables.specs.Standing.{Stands, want_for}
use Rattle.server_tables.specs.Updates.{unqueued}
use Rattle.server_tables.proofs.Judged.{found_first}
use Rattle.server_tables.proofs.Numbered.{Rise, at_in, filter_twice, in_removed, not_removed, one_want, removed_other}
use Rattle.server_tables.proofs.Numbered.{removed_queue}
use Rattle.server_tables.proofs.Serving.{IsLess}

both_same : (b : Bool) → (b && b) ≡ b
both_same true = refl
both_same false = refl

without_twice : (queue : List WantOf) (n : ℕ) → without_want (without_want queue n) n ≡ without_want queue n
without_twice queue n = filter_twice (λ (w : WantOf). not (w.number == n)) (λ (w : WantOf). not (w.number == n))
    (λ (w : WantOf). not (w.number == n)) queue (λ w. both_same (not (w.number == n)))

-- a decision leaves out at most the want of its number
pub decided_queue : (m : Manager) (n : ℕ) → without_want (after_decide m n).queue n ≡ without_want m.queue n
unfolding queue_decided
decided_queue m n = go (ready_at m n) refl
  where
    go : (o : Option WantOf) → ready_at m n ≡ o → without_want (queue_after m.queue (ready_at m n)) n
        ≡ without_want m.queue n
    go None e = ap (λ (o : Option WantOf). without_want (queue_after m.queue o) n) e
    go (Some want) e =
        let f = found_first (is_ready_at m.grants m.queue n) m.queue want e in
        let k = eqb-true want.number n (and_parts (want.number == n) _ f.1).0 in
        ap (λ (o : Option WantOf). without_want (queue_after m.queue o) n) e
        ∙ ap (λ (i : ℕ). without_want (without_want m.queue i) n) k ∙ without_twice m.queue n

-- `p` is the want at this place
module _ (past : List Doing) (x : Tables) (s : Stands past x) (rise : Rise x.pending) (at : ℕ) (p : Pending)
    (inside : at < length x.pending) (is : slice_index_or x.pending at p ≡ p) where
  pub it_waits : In p x.pending
  it_waits = at_in x.pending at p inside is

  pub is_less : IsLess x.pending (remove x.pending at) p.wanted
  is_less = record {
    of = λ q i. let m = in_removed x.pending at q i in (
      m,
      λ e. removed_other x.pending at p q rise inside is i
          (ap (λ (z : Pending). z.number) (one_want s.wants rise q p m it_waits e)),
    );
    all = λ q i other. not_removed x.pending at p q is i (λ e. other (ap (λ (z : Pending). z.wanted) e));
  }

  -- the queue then, whether the want was decided before or not
  pub left_is : NoGrace past → (unqueued x at p.number).tokens.queue ≡ map want_for (remove x.pending at)
  left_is over = ap (λ (l : List WantOf). without_want l p.number) (s.queue.calm over)
      ∙ removed_queue x.pending at p rise inside is

  pub left_decided : NoGrace past
      → (unqueued (record x { tokens = after_decide x.tokens p.number }) at p.number).tokens.queue
      ≡ map want_for (remove x.pending at)
  left_decided over = decided_queue x.tokens p.number ∙ left_is over
