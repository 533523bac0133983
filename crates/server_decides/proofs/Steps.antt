-- What loops over wants go through: one more is decided, answered or passed over.
use Rattle.std.proofs.Common.{◌≡◌, ◌<◌, ◌≤◌, ◌+◌, ℕ, zero, suc, Bool}
use Rattle.std.proofs.Common.{List, [], ◌∷◌, Option, None, Some, length, inl, inr}
use Rattle.std.proofs.Common.{drop, get_or}
use Rattle.std.proofs.lemmas.List.{drop_all, drop_more}
use Rattle.std.proofs.Common.{refl, sym, ◌∙◌, ap, subst, arith}
use Rattle.std.specs.Prelude.{◌-◌, Ok, remove}
use Rattle.message_types.specs.declared.message.Message.{Message}
use Rattle.store_memory.specs.Views.{IsSameStore, View}
use Rattle.store_state.specs.declared.state.StoreState.{StoreState}
use Rattle.server_says.specs.Keepers.{GoesOn, HasAsked, HasCome, HasStayed, HasTried, IsFit}
use Rattle.server_says.specs.Running.{GoesTo}
use Rattle.server_says.proofs.Chains.{goes_more}
use Rattle.server_tables.specs.Updates.{unqueued}
use Rattle.server_tables.specs.declared.pending.Pending.{Pending}
use Rattle.server_tables.specs.declared.tables.Tables.{Tables}
use Rattle.server_says.specs.Taking.{IsMadeOf}
use Rattle.server_says.specs.Draft.{Draft}
use Rattle.server_decides.specs.Deciding.{Decides, IsDecided, IsDue, IsDueOf, IsMadeBy, IsNextDue, IsPlaced, NoneDue}
use Rattle.server_decides.specs.Deciding.{is_fresh}
use Rattle.server_decides.specs.declared.deciding.Decision.{Decision}
use Rattle.server_decides.specs.Serving.{IsServed}
use Rattle.server_decides.specs.Running.{Making, making}
use Rattle.server_decides.specs.Sending.{HasSentAll, IsSending, Looking, Sends, looking, sent_made}
use Rattle.server_decides.specs.declared.deciding.Due.{Due}
use Rattle.server_decides.specs.declared.sending.Sending.{Sending}
use Rattle.server_decides.proofs.Served.{placed_one, served_on}

-- # A store that was tried some times, and each time answered

pub record HasGoneOn (old new : View) : Type 0 where
  pub same : IsSameStore old new
  pub counted : old.faults ≤ new.faults

pub gone_none : (a : View) → HasGoneOn a a
gone_none a = record { same = record { server = refl; roster = refl }; counted = omega arith }

pub gone_tried : {T : Type 0} (v : T) (a b c : View) (left : ℕ) → HasGoneOn a b → HasTried (Ok v) b c left
    → HasGoneOn a c
gone_tried v a b c left x y = record {
  same = record { server = y.same.server ∙ x.same.server; roster = y.same.roster ∙ x.same.roster };
  counted = (let p = x.counted in let q = y.counted in omega (arith, p, q));
}

-- one that was only asked goes on
pub went_asked : (came : List Message) (old new : View) → new.state ≡ old.state → GoesOn came old new
went_asked came old new same = λ from h. subst (λ (s : StoreState). HasCome came from s) (sym same) h

pub stayed_none : (tells : Type 0) (a : View) → HasStayed tells a a
stayed_none tells a = record {
  same = record { server = refl; roster = refl };
  state = λ t. refl;
  counted = omega arith;
}

pub stayed_asked : {T : Type 0} (tells : Type 0) (v : T) (a b c : View) (left : ℕ) → HasStayed tells a b
    → HasAsked tells (Ok v) b c left → HasStayed tells a c
stayed_asked tells v a b c left x y = record {
  same = record {
    server = y.tried.same.server ∙ x.same.server;
    roster = y.tried.same.roster ∙ x.same.roster;
  };
  state = λ t. y.state t ∙ x.state t;
  counted = (let p = x.counted in let q = y.tried.counted in omega (arith, p, q));
}

pub fit_tried : {T : Type 0} (v : T) (a b : View) (left : ℕ) → HasTried (Ok v) a b left → IsFit b left
fit_tried v a b left x = record { ready = x.ready; mendable = x.mendable; wear = x.wear }

-- # Places

-- at each place stands a want
pub placed_some : (ps : List Pending) (at : ℕ) → at < length ps → (p : Pending) × IsPlaced ps at p
placed_some [] at l = absurd (omega (arith, l))
placed_some (p ∷ ps) zero l = (p, (l, refl))
placed_some (p ∷ ps) (suc at) l = let q = placed_some ps at (omega (arith, l)) in (q.0, (l, q.1.1))

-- one less stands behind a place
pub shorter : (ps : List Pending) (at : ℕ) → at < length ps → length (remove ps at) - at < length ps - at
shorter [] at l = absurd (omega (arith, l))
shorter (p ∷ ps) zero l = omega arith
shorter (p ∷ ps) (suc at) l = let q = shorter ps at (omega (arith, l)) in omega (arith, q)

pub none_when : {A : Type 0} (o : Option A) → ((x : A) → o ≡ Some x → ⊥) → o ≡ None
none_when None never = refl
none_when (Some x) never = absurd (never x refl)

-- # Wants that are looked at

module _ (st : StoreState) (start : Looking) (x : Tables) (d : Draft) (at : ℕ) (inside : at < length x.pending)
    (now : StoreState) (same : now ≡ st) (goes : GoesTo (Sends st) start (looking x d at)) where
  abbrev its : (p : Pending) × IsPlaced x.pending at p
  its = placed_some x.pending at inside

  -- one is passed over
  pub sends_passed : ((p : Pending) → IsPlaced x.pending at p → IsSending x now p None)
      → GoesTo (Sends st) start (looking x d (at + 1))
  sends_passed is = goes_more (Sends st) start (looking x d at) (looking x d (at + 1)) goes (record {
    p = its.0;
    place = its.1;
    sending = None;
    is = subst (λ (s : StoreState). IsSending x s its.0 None) same (is its.0 its.1);
    so = refl;
  })

  -- one is answered
  pub sends_more : (sending : Sending) (later : StoreState) → later ≡ st → (y : Tables) (e : Draft)
      → ((p : Pending) → IsPlaced x.pending at p → IsSending x now p (Some sending))
      → ((p : Pending) → IsPlaced x.pending at p → IsMadeOf x d y e (sent_made x d later at p sending))
      → GoesTo (Sends st) start (looking y e at)
  sends_more sending later still y e is made =
      let m : IsMadeOf x d y e (sent_made x d st at its.0 sending) =
      subst (λ (s : StoreState). IsMadeOf x d y e (sent_made x d s at its.0 sending)) still (made its.0 its.1) in
      goes_more (Sends st) start (looking x d at) (looking y e at) goes (record {
        p = its.0;
        place = its.1;
        sending = Some sending;
        is = subst (λ (s : StoreState). IsSending x s its.0 (Some sending)) same (is its.0 its.1);
        so = λ i. looking (m.tables i) (m.draft i) at;
      })

pub sent_all : (st : StoreState) (x y : Tables) (d e : Draft) (at : ℕ) → GoesTo (Sends st) (looking x d 0)
    (looking y e at) → length y.pending ≤ at → HasSentAll st x d y e
sent_all st x y d e at goes all =
    record { end = looking y e at; goes = goes; tables = refl; draft = refl; all = all }

-- what is known of the tables stays, where only the store was asked
pub served_asked : (x : Tables) (old new : View) → IsServed x old.state → IsSameStore old new → IsServed x new.state
served_asked x old new s same = served_on x x old new s same refl refl s.counted refl

-- # Wants that are decided

pub decides_one : (x y : Tables) (d e : Draft) (st later next : StoreState) (due : Due) → later ≡ st
    → IsNextDue x st d.fresh (Some due) → IsDecided x d later due y e next → IsServed y next
    → Decides (making x d st) (making y e next)
decides_one x y d e st later next due same n h served = record {
  due = due;
  p = h.0;
  place = h.1;
  is = subst (λ (q : Pending). IsDue x st d.fresh q (Some due.decision))
      (placed_one x.pending due.at n.0 h.0 n.1 h.1) n.2;
  so = subst (λ (s : StoreState). IsMadeBy (unqueued x due.at h.0.number) d s h.0 y e next due.decision) same h.2;
  served = served;
}

pub decides_more : (start : Making) (x y : Tables) (d e : Draft) (st later next : StoreState) (due : Due)
    → later ≡ st → GoesTo Decides start (making x d st) → IsNextDue x st d.fresh (Some due)
    → IsDecided x d later due y e next → IsServed y next → GoesTo Decides start (making y e next)
decides_more start x y d e st later next due same goes n h served =
    goes_more Decides start (making x d st) (making y e next) goes
    (decides_one x y d e st later next due same n h served)

pub decides_still : (start : Making) (x : Tables) (d : Draft) (st later : StoreState) → later ≡ st
    → GoesTo Decides start (making x d st) → GoesTo Decides start (making x d later)
decides_still start x d st later same = subst (λ (s : StoreState). GoesTo Decides start (making x d s)) (sym same)

pub due_so : (x : Tables) (st old : StoreState) (fresh : Option ℕ) (p : Pending) (b : Bool) (o d : Option Decision)
    → old ≡ st → b ≡ is_fresh fresh p.number → o ≡ d → IsDueOf x old p b o p.wanted.request → IsDue x st fresh p d
due_so x st old fresh p b o d e f h due =
    subst (λ (s : StoreState). IsDueOf x s p (is_fresh fresh p.number) d p.wanted.request) e
    (subst (λ (k : Bool). IsDueOf x old p k d p.wanted.request) f
    (subst (λ (k : Option Decision). IsDueOf x old p b k p.wanted.request) h due))

-- nothing is due of one more
pub none_due_more : (x : Tables) (st : StoreState) (fresh : Option ℕ) (p : Pending) (ps : List Pending)
    → IsDue x st fresh p None → NoneDue x st fresh ps → NoneDue x st fresh (p ∷ ps)
none_due_more x st fresh p ps h none q (inl e) = subst (λ (o : Pending). IsDue x st fresh o None) (sym e) h
none_due_more x st fresh p ps h none q (inr i) = none q i

-- nothing is due of one that was looked at
pub next_none : (x : Tables) (st : StoreState) (fresh : Option ℕ) (items : List Pending) (at : ℕ) (p : Pending)
    → at < length items → p ≡ get_or items at p → IsDue x st fresh p None
    → (NoneDue x st fresh (drop at items) → NoneDue x st fresh items)
    → NoneDue x st fresh (drop (at + 1) items) → NoneDue x st fresh items
next_none x st fresh items at p l is due on more =
    on (subst (NoneDue x st fresh) (sym (drop_more items at p l
    ∙ ap (λ (q : Pending). q ∷ drop (at + 1) items) (sym is)))
    (none_due_more x st fresh p (drop (at + 1) items) due more))

-- none is left
pub none_left : (x : Tables) (st : StoreState) (fresh : Option ℕ) (items : List Pending) (at : ℕ) → length items ≤ at
    → (NoneDue x st fresh (drop at items) → NoneDue x st fresh items) → NoneDue x st fresh items
none_left x st fresh items at l on =
    on (subst (NoneDue x st fresh) (sym (drop_all at items l)) (λ q i. elim i [ ]))
