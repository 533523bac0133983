-- A grace period ends: all wants that wait are asked at the token manager, in their order.
use Rattle.std.proofs.Common.{◌≡◌, Bool, true, false, ◌||◌, not, List, [], ◌∷◌, ◌++◌, map, if◌then◌else◌, inl, inr}
use Rattle.std.proofs.Common.{refl, ◌∙◌, ap}
use Rattle.std.proofs.lemmas.Bool.{cases_Bool}
use Rattle.token_manager.specs.Managers.{Manager, after_enqueue}
use Rattle.token_manager.specs.declared.want.Want.{Want as WantOf}
use Rattle.run_rules.specs.Doings.{Doing, NoGrace}
use Rattle.server_tables.specs.declared.pending.Pending.{Pending}
use Rattle.server_tables.specs.declared.tables.Tables.{Tables}
use Rattle.server_tables.specs.Listing.{no_grace}
use Rattle.server_tables.specs.Standing.{HostsStand, QueueStands, want_for}
use Rattle.server_tables.specs.Updates.{all_enqueued, opened, tokens_opened}
use Rattle.server_tables.proofs.Listed.{in_grace, over_is}

pub enqueued_grants : (m : Manager) (ps : List Pending) → (all_enqueued m ps).grants ≡ m.grants
enqueued_grants m [] = refl
enqueued_grants m (p ∷ ps) = enqueued_grants (after_enqueue m (want_for p)) ps

one_on : (xs ys : List WantOf) (w : WantOf) → (xs ++ w ∷ []) ++ ys ≡ xs ++ w ∷ ys
one_on [] ys w = refl
one_on (x ∷ xs) ys w = ap (λ (l : List WantOf). x ∷ l) (one_on xs ys w)

pub enqueued_queue : (m : Manager) (ps : List Pending) → (all_enqueued m ps).queue ≡ m.queue ++ map want_for ps
enqueued_queue m [] = none m.queue
  where
    none : (xs : List WantOf) → xs ≡ xs ++ []
    none [] = refl
    none (x ∷ xs) = ap (λ (l : List WantOf). x ∷ l) (none xs)
enqueued_queue m (p ∷ ps) = enqueued_queue (after_enqueue m (want_for p)) ps
    ∙ one_on m.queue (map want_for ps) (want_for p)

-- what the manager is when it lasts on, and when it ends
pub opened_same : (over : Bool) (x : Tables) → (over || not (no_grace x.hosts)) ≡ true → tokens_opened over x ≡ x.tokens
unfolding tokens_opened
opened_same over x e = ap (λ (b : Bool). if b then x.tokens else all_enqueued x.tokens x.pending) e

pub opened_anew : (over : Bool) (x : Tables) → (over || not (no_grace x.hosts)) ≡ false
    → tokens_opened over x ≡ all_enqueued x.tokens x.pending
unfolding tokens_opened
opened_anew over x e = ap (λ (b : Bool). if b then x.tokens else all_enqueued x.tokens x.pending) e

pub opened_grants : (over : Bool) (x : Tables) → (opened over x).tokens.grants ≡ x.tokens.grants
opened_grants over x = elim (cases_Bool (over || not (no_grace x.hosts))) [
  | inl e ↦ ap (λ (m : Manager). m.grants) (opened_same over x e)
  | inr e ↦ ap (λ (m : Manager). m.grants) (opened_anew over x e) ∙ enqueued_grants x.tokens x.pending
]

-- The queue is that of the wants out of a grace period, and empty in one; `over` says how it was before.
module _ (past : List Doing) (x : Tables) (s : HostsStand past x.hosts) where
  same_queue : (over : Bool) → (over || not (no_grace x.hosts)) ≡ true → (opened over x).tokens.queue ≡ x.tokens.queue
  same_queue over e = ap (λ (m : Manager). m.queue) (opened_same over x e)

  new_queue : (over : Bool) → (over || not (no_grace x.hosts)) ≡ false
      → (opened over x).tokens.queue ≡ x.tokens.queue ++ map want_for x.pending
  new_queue over e = ap (λ (m : Manager). m.queue) (opened_anew over x e) ∙ enqueued_queue x.tokens x.pending

  pub queue_opened : (over : Bool) → (over ≡ true → x.tokens.queue ≡ map want_for x.pending)
      → (over ≡ false → x.tokens.queue ≡ []) → (over ≡ true → NoGrace past)
      → QueueStands past (opened over x).tokens.queue x.pending
  queue_opened true was none stays = record {
    calm = λ g. same_queue true refl ∙ was refl;
    grace = λ g. absurd (g (stays refl));
  }
  queue_opened false was none stays = elim (cases_Bool (no_grace x.hosts)) [
    | inl e ↦ record {
      calm = λ g. new_queue false (ap not e) ∙ ap (λ (l : List WantOf). l ++ map want_for x.pending) (none refl);
      grace = λ g. absurd (g (over_is past x.hosts s e));
    }
    | inr e ↦ record {
      calm = λ g. absurd (in_grace past x.hosts s e g);
      grace = λ g. same_queue false (ap not e) ∙ none refl;
    }
  ]

-- how it was, where the queue stood
pub queue_was : (past : List Doing) (x : Tables) → HostsStand past x.hosts → QueueStands past x.tokens.queue x.pending
    → (no_grace x.hosts ≡ true → x.tokens.queue ≡ map want_for x.pending) × (no_grace x.hosts ≡ false
    → x.tokens.queue ≡ [])
queue_was past x s q = (λ e. q.calm (over_is past x.hosts s e), λ e. q.grace (in_grace past x.hosts s e))
