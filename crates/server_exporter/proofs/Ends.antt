-- What is so once nothing is due of any want, and once all that wait were looked at.
use Rattle.std.proofs.Common.{◌≡◌, ◌≤◌, ℕ, suc, true, List, [], ◌∷◌, Option, inl, inr, length, sym, ◌∙◌, ap}
use Rattle.std.proofs.Common.{subst}
use Rattle.std.proofs.Common.{arith}
use Rattle.base_types.specs.declared.ids.ServerId.{ServerId}
use Rattle.tree_answers.specs.declared.tree.Tree.{Tree}
use Rattle.tree_calls.specs.declared.reply.Refusal.{Refusal}
use Rattle.message_types.specs.declared.asking.Change.{Change as ChangeOf}
use Rattle.message_types.specs.declared.asking.Fetch.{Fetch as FetchOf}
use Rattle.run_rules.specs.Doings.{Doing, NoGrace, sending}
use Rattle.run_rules.specs.Past.{In, appended}
use Rattle.run_rules.specs.ServerDecides.{IsOfRow, NotRefused, RefusedOn}
use Rattle.run_rules.specs.Wants.{CanDecide, CanGrant, CanRefuse, IsQueued, is_use}
use Rattle.run_rules.specs.declared.applied.Request.TheVariants.{Change as Changes, Fetch as Asks}
use Rattle.run_rules.specs.declared.applied.Wanted.{Wanted}
use Rattle.run_rules.specs.declared.step.Step.{Step}
use Rattle.server_decides.specs.StoreKeeping.{StandsFor}
use Rattle.store_state.specs.declared.state.StoreState.{StoreState}
use Rattle.server_tables.specs.Standing.{Stands}
use Rattle.server_tables.specs.declared.pending.Pending.{Pending}
use Rattle.server_tables.specs.declared.tables.Tables.{Tables}
use Rattle.server_decides.specs.Deciding.{IsPlaced, NoneDue, is_fresh}
use Rattle.server_exporter.specs.Machines.{IsRested}
use Rattle.server_decides.specs.Serving.{IsServed}
use Rattle.server_decides.specs.Sending.{Looking}
use Rattle.server_exporter.proofs.Reasons.{none_effects, none_pinned, none_refused}
use Rattle.server_exporter.proofs.Sends.{IsOnTheWay}
use Rattle.server_exporter.proofs.Sent.{IsLeftSo}

-- # Nothing is due of any

module _ (past : List Doing) (x : Tables) (st : StoreState) (tree : Tree) (z : Stands past x) (s : IsServed x st)
    (k : StandsFor tree st) (fresh : Option ℕ) (none : NoneDue x st fresh x.pending) where
  -- so no Change that waits is to be decided
  pub none_rested : IsRested x.server tree past
  none_rested = record {
    refused = λ w c r u is on d. (let q = z.wants.pending_all w u in
        none_refused past x st tree z s k q.0 q.1 c (ap (λ (v : Wanted). v.request) q.2
        ∙ is) (is_fresh fresh q.0.number)
        (none q.0 q.1) r (subst (λ (v : Wanted). RefusedOn tree v.host c r) (sym q.2) on)
        (inl (subst (CanDecide x.server past) (sym q.2) d)));
    effects = λ w c u is effect n d. (let q = z.wants.pending_all w u in
        none_effects past x st tree z s k q.0 q.1 c (ap (λ (v : Wanted). v.request) q.2
        ∙ is) (is_fresh fresh q.0.number)
        (none q.0 q.1) effect (subst (CanDecide x.server past) (sym q.2) d));
    pinned = λ w c u is row n d. (let q = z.wants.pending_all w u in
        none_pinned past x st tree z s k q.0 q.1 c (ap (λ (v : Wanted). v.request) q.2 ∙ is) (is_fresh fresh q.0.number)
        (none q.0 q.1) (subst (λ (v : Wanted). IsOfRow tree v c) (sym q.2) row)
        (subst (CanRefuse x.server past) (sym q.2) d));
  }

  -- nor is one refused that has just come, out of a grace period
  pub none_fresh : (p : Pending) → In p x.pending → is_fresh fresh p.number ≡ true → (c : ChangeOf)
      → p.wanted.request ≡ Changes c → (r : Refusal) → RefusedOn tree p.wanted.host c r → NoGrace past → ⊥
  none_fresh p i is_new c is r on over =
      none_refused past x st tree z s k p i c is (is_fresh fresh p.number) (none p i) r on (inr (over, is_new))

-- # All were looked at

-- what stands in a list stands at a place
pub at_place : (ps : List Pending) (p : Pending) → In p ps → (i : ℕ) × IsPlaced ps i p
at_place [] p m = elim m [ ]
at_place (q ∷ ps) p (inl e) = (0, (omega arith, sym e))
at_place (q ∷ ps) p (inr m) =
    let r = at_place ps p m in let lt = r.1.0 in (suc r.0, (omega (arith, lt), r.1.1))

module _ (server : ServerId) (tree : Tree) (st : StoreState) (s : Step) (before : List Doing)
    (k : StandsFor tree st) (a : Looking) (g : IsOnTheWay server tree st s before k a)
    (all : length a.tables.pending ≤ a.at) where
  abbrev now : List Doing
  now = appended (sending a.draft.sent) before

  -- no want that waits can be answered
  left_all : (w : Wanted) → IsQueued now w → (p : Pending) × (p.wanted ≡ w) × IsLeftSo server tree now p
  left_all w u =
      let q = g.stands.wants.pending_all w u in
      let r = at_place a.tables.pending q.0 q.1 in
      let lt = r.1.0 in
      (q.0, q.2, g.left r.0 q.0 (omega (arith, lt, all)) r.1)

  pub all_grants : (w : Wanted) (f : FetchOf) → IsQueued now w → w.request ≡ Asks f → CanGrant server now w → ⊥
  all_grants w f u is c = let q = left_all w u in
      q.2.grants f (ap (λ (v : Wanted). v.request) q.1 ∙ is) (subst (CanGrant server now) (sym q.1) c)

  pub all_uses : (w : Wanted) (c : ChangeOf) → IsQueued now w → w.request ≡ Changes c → is_use c.call ≡ true
      → NotRefused tree w.host c → CanGrant server now w → ⊥
  all_uses w c u is label n g2 = let q = left_all w u in
      q.2.uses c (ap (λ (v : Wanted). v.request) q.1 ∙ is) label
      (subst (λ (v : Wanted). NotRefused tree v.host c) (sym q.1) n) (subst (CanGrant server now) (sym q.1) g2)

  pub all_others : (w : Wanted) (c : ChangeOf) → IsQueued now w → w.request ≡ Changes c → is_use c.call ≡ true
      → NotRefused tree w.host c → (IsOfRow tree w c → ⊥) → CanDecide server now w → ⊥
  all_others w c u is label n row d = let q = left_all w u in
      q.2.others c (ap (λ (v : Wanted). v.request) q.1 ∙ is) label
      (subst (λ (v : Wanted). NotRefused tree v.host c) (sym q.1) n)
      (λ r. row (subst (λ (v : Wanted). IsOfRow tree v c) q.1 r)) (subst (CanDecide server now) (sym q.1) d)

  pub all_enters : (w : Wanted) (c : ChangeOf) → IsQueued now w → w.request ≡ Changes c → c.enter ≡ true
      → NotRefused tree w.host c → CanGrant server now w → ⊥
  all_enters w c u is enters n g2 = let q = left_all w u in
      q.2.enters c (ap (λ (v : Wanted). v.request) q.1 ∙ is) enters
      (subst (λ (v : Wanted). NotRefused tree v.host c) (sym q.1) n) (subst (CanGrant server now) (sym q.1) g2)
