-- One answer of a step in the making: what it leaves of the tables, and why the rules let it be sent.
use Rattle.std.proofs.Common.{◌≡◌, ◌+◌, ◌==◌, ◌&&◌, ℕ, List, Option, None, Some}
use Rattle.std.proofs.Common.{refl, sym, ◌∙◌, ap, subst}
use Rattle.std.specs.Prelude.{remove}
use Rattle.token_manager.specs.Grants.{with_grant}
use Rattle.token_manager.specs.Managers.{after_decide, can_decide, decide_answer, grants_after}
use Rattle.token_manager.specs.Managers.{grants_decided, outlook_of, ready_at, ready_of}
use Rattle.token_manager.specs.Grants.{outlook_with, pinned_in_the_way}
use Rattle.token_manager.specs.declared.grants.Grants.{Grants}
use Rattle.token_manager.specs.declared.want.Outlook.TheVariants.{Granted as CanBeGranted}
use Rattle.token_manager.specs.declared.want.Want.{Want as WantOf}
use Rattle.token_table.specs.Tables.{next_tokens}
use Rattle.token_types.specs.declared.token.Token.{Token}
use Rattle.run_rules.specs.Doings.{Doing, NoGrace}
use Rattle.run_rules.specs.Past.{In}
use Rattle.server_tables.specs.Standing.{Stands, want_for}
use Rattle.server_tables.specs.Updates.{unqueued}
use Rattle.server_tables.specs.declared.pending.Pending.{Pending}
use Rattle.server_tables.specs.declared.tables.Tables.{Tables}
use Rattle.server_tables.proofs.Judged.{found_first}
use Rattle.server_tables.proofs.Numbered.{Rise, one_each}
use Rattle.server_tables.proofs.Settling.{of_map}
use Rattle.server_decides.specs.Deciding.{outlook_at}
use Rattle.server_decides.specs.Sending.{granted_out, granted_tokens, granting, tokens_of}
use Rattle.std.proofs.lemmas.Bool.{and_parts, eqb-true}

-- # What the manager decides of a want that can be granted

-- the want of a number that is ready
module _ (past : List Doing) (x : Tables) (z : Stands past x) (rise : Rise x.pending) (p : Pending)
    (i : In p x.pending) (over : NoGrace past) where
  single : (a b : Pending) → In a x.pending → In b x.pending → a.number ≡ b.number → a ≡ b
  single = one_each x.pending rise

  -- the one that is found is its own
  found_is : (u : WantOf) → ready_at x.tokens p.number ≡ Some u → u ≡ want_for p
  found_is u e =
      let f = found_first (λ (w : WantOf). (w.number == p.number) && can_decide x.tokens.grants x.tokens.queue w)
      x.tokens.queue u e in
      let q = of_map want_for u x.pending (subst (In u) (z.queue.calm over) f.0) in
      let n : u.number ≡ p.number = eqb-true u.number p.number
      (and_parts (u.number == p.number) (can_decide x.tokens.grants x.tokens.queue u) f.1).0 in
      sym q.2 ∙ ap want_for (single q.0 p q.1 i (ap (λ (w : WantOf). w.number) q.2 ∙ n))

  granted_by : (o : Option WantOf) → ready_at x.tokens p.number ≡ o
      → outlook_of x.tokens.grants o ≡ CanBeGranted
      → (tokens_of (ready_of x.tokens.grants o) ≡ next_tokens x.tokens.grants.table (want_for p).host p.wanted.needs)
      × (grants_after x.tokens.grants o ≡ with_grant x.tokens.grants (want_for p))
  granted_by None e q = absurd (cc)
  granted_by (Some u) e q = by (pinned_in_the_way x.tokens.grants u) refl q
    where
      by : (t : Option Token) → pinned_in_the_way x.tokens.grants u ≡ t → outlook_with t ≡ CanBeGranted
          → (tokens_of (ready_of x.tokens.grants (Some u))
          ≡ next_tokens x.tokens.grants.table (want_for p).host p.wanted.needs)
          × (grants_after x.tokens.grants (Some u) ≡ with_grant x.tokens.grants (want_for p))
      by (Some t) f r = absurd (cc)
      by None f r = (
        rw f (ap (λ (w : WantOf). next_tokens x.tokens.grants.table w.host w.needs) (found_is u e)),
        rw f (ap (with_grant x.tokens.grants) (found_is u e)),
      )

  granted : outlook_at x p.number ≡ CanBeGranted
      → (granted_tokens x.tokens p.number ≡ next_tokens x.tokens.grants.table (want_for p).host p.wanted.needs)
      × ((after_decide x.tokens p.number).grants ≡ with_grant x.tokens.grants (want_for p))
  unfolding decide_answer grants_decided
  granted e = granted_by (ready_at x.tokens p.number) refl e

  pub its_tokens : outlook_at x p.number ≡ CanBeGranted → granted_tokens x.tokens p.number
      ≡ next_tokens x.tokens.grants.table (want_for p).host p.wanted.needs
  its_tokens e = (granted e).0

  -- the tables once it is granted
  pub granted_out_is : outlook_at x p.number ≡ CanBeGranted → (at : ℕ) → granted_out x at p.number ≡ record x {
    tokens = record x.tokens {
      grants = with_grant x.tokens.grants (want_for p);
      queue = (unqueued (granting x p.number) at p.number).tokens.queue;
    };
    stamp = x.stamp + 1;
    pending = remove x.pending at;
  }
  granted_out_is e at = ap (λ (g : Grants). record x {
    tokens = record x.tokens { grants = g; queue = (unqueued (granting x p.number) at p.number).tokens.queue };
    stamp = x.stamp + 1;
    pending = remove x.pending at;
  }) (granted e).1
