-- The loop over the wants that wait: what it says is allowed, and no want that it passed over can be answered.
use Rattle.std.proofs.Common.{◌≡◌, ◌⊎◌, ◌<◌, ◌+◌, ℕ, zero, suc, true, List, [], ◌∷◌, ◌++◌, None}
use Rattle.std.proofs.Common.{inl, inr, refl, sym, ◌∙◌, ap, subst, arith}
use Rattle.std.specs.Prelude.{remove}
use Rattle.base_types.specs.declared.ids.HostId.{HostId}
use Rattle.base_types.specs.declared.ids.ServerId.{ServerId}
use Rattle.tree_answers.specs.declared.tree.Tree.{Tree}
use Rattle.message_types.specs.declared.asking.Change.{Change as ChangeOf}
use Rattle.message_types.specs.declared.asking.Fetch.{Fetch as FetchOf}
use Rattle.message_types.specs.declared.message.Body.TheVariants.{Done as IsDone, Grant as IsGrant}
use Rattle.message_types.specs.declared.message.Message.{Message}
use Rattle.message_types.specs.declared.telling.Done.{Done as DoneOf}
use Rattle.message_types.specs.declared.telling.Grant.{Grant as GrantOf}
use Rattle.run_rules.specs.Doings.{Doing, sending}
use Rattle.run_rules.specs.Doings.Doing.{Sent}
use Rattle.run_rules.specs.Past.{In, appended}
use Rattle.run_rules.specs.ServerMay.{MaySend}
use Rattle.run_rules.specs.ServerTokens.{ServerTokens}
use Rattle.run_rules.specs.Wants.{CanDecide, CanGrant, CannotBothWait, Decides, IsQueued}
use Rattle.run_rules.specs.declared.applied.Request.{Request}
use Rattle.run_rules.specs.declared.applied.Request.TheVariants.{Change as Changes, Fetch as Asks}
use Rattle.run_rules.specs.declared.applied.Wanted.{Wanted}
use Rattle.run_rules.specs.declared.step.Step.{Step}
use Rattle.server_decides.specs.StoreKeeping.{StandsFor}
use Rattle.store_state.specs.declared.state.StoreState.{StoreState}
use Rattle.server_tables.specs.Answers.{AreLastChanges}
use Rattle.server_tables.specs.Standing.{Stands}
use Rattle.server_tables.specs.declared.pending.Pending.{Pending}
use Rattle.server_tables.specs.declared.tables.Tables.{Tables}
use Rattle.server_tables.proofs.Numbered.{Rise, first_below, in_removed, rest_rise}
use Rattle.server_decides.specs.Drafts.{saying}
use Rattle.server_decides.specs.Draft.{Draft}
use Rattle.server_decides.specs.Deciding.{IsPlaced}
use Rattle.server_decides.specs.Serving.{IsServed}
use Rattle.server_decides.specs.Sending.{IsSending, Looking, looking}
use Rattle.server_exporter.proofs.Answered.{IsAnswered}
use Rattle.server_exporter.proofs.Earlier.{decide_was, grant_was}
use Rattle.server_exporter.proofs.Making.{as_sent}
use Rattle.server_exporter.proofs.Sent.{AreAllowed, IsLeftSo, allowed_more, passed_left, still_left}
use Rattle.server_decides.proofs.Served.{placed_in, placed_one}

-- # Places

-- what stands before a place does still, where the want at it went
pub place_was : (ps : List Pending) (at i : ℕ) (p : Pending) → i < at → IsPlaced (remove ps at) i p → IsPlaced ps i p
place_was [] zero i p l a = absurd (omega (arith, l))
place_was [] (suc at) i p l a = a
place_was (x ∷ xs) zero i p l a = absurd (omega (arith, l))
place_was (x ∷ xs) (suc at) zero p l a = (omega arith, a.1)
place_was (x ∷ xs) (suc at) (suc i) p l a =
    let lt = a.0 in
    let q = place_was xs at i p (omega (arith, l)) (omega (arith, lt), a.1) in
    let lt2 = q.0 in (omega (arith, lt2), q.1)

in_placed : (ps : List Pending) (at : ℕ) (p : Pending) → IsPlaced ps at p → In p ps
in_placed [] at p a = let lt = a.0 in absurd (omega (arith, lt))
in_placed (x ∷ xs) zero p a = inl (sym a.1)
in_placed (x ∷ xs) (suc at) p a = let lt = a.0 in inr (in_placed xs at p (omega (arith, lt), a.1))

-- numbers rise with the places
pub placed_rise : (ps : List Pending) → Rise ps → (i at : ℕ) (p q : Pending) → i < at → IsPlaced ps i p
    → IsPlaced ps at q → p.number < q.number
placed_rise [] r i at p q l a b = let lt = a.0 in absurd (omega (arith, lt))
placed_rise (x ∷ xs) r zero zero p q l a b = absurd (omega (arith, l))
placed_rise (x ∷ xs) r zero (suc at) p q l a b =
    let lt = b.0 in
    subst (λ (y : Pending). y.number < q.number) a.1
    (first_below x xs r q (in_placed xs at q (omega (arith, lt), b.1)))
placed_rise (x ∷ xs) r (suc i) zero p q l a b = absurd (omega (arith, l))
placed_rise (x ∷ xs) r (suc i) (suc at) p q l a b =
    let lt = a.0 in let lt2 = b.0 in
    placed_rise xs (rest_rise x xs r) i at p q (omega (arith, l)) (omega (arith, lt), a.1) (omega (arith, lt2), b.1)

-- # An answer decides the want that it is for, and no other

module _ (past : List Doing) (x : Tables) (z : Stands past x) (w : Wanted) (waits : IsQueued past w) (e n : ℕ) where
  pub grant_only : (f : FetchOf) → w.request ≡ Asks f → (g : GrantOf) → g.bring.fid.fileset ≡ f.fid.fileset
      → g.bring.number ≡ f.number → (v : Wanted) → IsQueued past v
      → Decides (Sent w.host e n (IsGrant g)) v.host v.request → v ≡ w
  grant_only f is g fileset number v q d = by v.request refl d
    where
      its_grant : (h : HostId) (k m : ℕ) (o : GrantOf) → Sent w.host e n (IsGrant g) ≡ Sent h k m (IsGrant o) → g ≡ o
      its_grant h k m o p = cc

      by : (r : Request) → v.request ≡ r → Decides (Sent w.host e n (IsGrant g)) v.host r → v ≡ w
      by (Asks o) r c =
          let s = its_grant v.host c.0 c.1 c.2 c.3 in
          let same : CannotBothWait v.request w.request =
          subst (λ (t : Request). CannotBothWait t w.request) (sym r)
          (subst (λ (t : Request). CannotBothWait (Asks o) t) (sym is) (
            sym c.4 ∙ ap (λ (y : GrantOf). y.bring.fid.fileset) (sym s) ∙ fileset,
            sym c.5 ∙ ap (λ (y : GrantOf). y.bring.number) (sym s) ∙ number,
          )) in
          z.wants.once v w q waits (let p = c.3 in cc) same
      by (Changes o) r (inl c) = absurd (let p = c.1 in cc)
      by (Changes o) r (inr c) = absurd (let p = c.3 in cc)

  pub done_only : (c : ChangeOf) → w.request ≡ Changes c → (d : DoneOf) → d.fileset ≡ c.fileset → (v : Wanted)
      → IsQueued past v → Decides (Sent w.host e n (IsDone d)) v.host v.request → v ≡ w
  done_only c is d fileset v q o = by v.request refl o
    where
      its_done : (h : HostId) (k m : ℕ) (u : DoneOf) → Sent w.host e n (IsDone d) ≡ Sent h k m (IsDone u) → d ≡ u
      its_done h k m u p = cc

      by : (r : Request) → v.request ≡ r → Decides (Sent w.host e n (IsDone d)) v.host r → v ≡ w
      by (Asks f) r t = absurd (let p = t.3 in cc)
      by (Changes f) r (inl t) = absurd (let p = t.1 in cc)
      by (Changes f) r (inr t) =
          let s = its_done v.host t.0 t.1 t.2 t.3 in
          let same : CannotBothWait v.request w.request =
          subst (λ (y : Request). CannotBothWait y w.request) (sym r)
          (subst (λ (y : Request). CannotBothWait (Changes f) y) (sym is)
          (sym t.4 ∙ ap (λ (y : DoneOf). y.fileset) (sym s) ∙ fileset)) in
          z.wants.once v w q waits (let p = t.3 in cc) same

-- # The loop

module _ (server : ServerId) (tree : Tree) (st : StoreState) (s : Step) (before : List Doing)
    (k : StandsFor tree st) where
  abbrev said : Draft → List Doing
  said d = appended (sending d.sent) before

  -- what holds while wants are looked at
  pub record IsOnTheWay (a : Looking) : Type 0 where
    pub server_is : a.tables.server ≡ server
    pub stands : Stands (said a.draft) a.tables
    pub served : IsServed a.tables st
    pub single : AreLastChanges a.tables.changes
    -- one that enters wants nothing
    pub enters : (p : Pending) (c : ChangeOf) → In p a.tables.pending → p.wanted.request ≡ Changes c
        → c.enter ≡ true → p.wanted.needs ≡ []
    pub allowed : AreAllowed server tree s before a.draft.sent
    pub left : (i : ℕ) (p : Pending) → i < a.at → IsPlaced a.tables.pending i p
        → IsLeftSo server tree (said a.draft) p

  below_or : (i n : ℕ) → i < n + 1 → (i < n) ⊎ (i ≡ n)
  below_or zero zero l = inr refl
  below_or zero (suc n) l = inl (omega arith)
  below_or (suc i) zero l = absurd (omega (arith, l))
  below_or (suc i) (suc n) l = elim (below_or i n (omega (arith, l))) [
    | inl m ↦ inl (omega (arith, m))
    | inr e ↦ inr (ap suc e)
  ]

  -- one is passed over
  pub way_passed : (a : Looking) → IsOnTheWay a → (p : Pending) → IsPlaced a.tables.pending a.at p
      → IsSending a.tables st p None → IsOnTheWay (looking a.tables a.draft (a.at + 1))
  way_passed a g p place h = record {
    server_is = g.server_is;
    stands = g.stands;
    served = g.served;
    single = g.single;
    enters = g.enters;
    allowed = g.allowed;
    left = λ i q l o. elim (below_or i a.at l) [
      | inl m ↦ g.left i q m o
      | inr e ↦ (let same : q ≡ p = placed_one a.tables.pending a.at q p
          (subst (λ (n : ℕ). IsPlaced a.tables.pending n q) e o) place in
          let i_p : In p a.tables.pending = placed_in a.tables.pending a.at p place in
          subst (IsLeftSo server tree (said a.draft)) (sym same)
          (subst (λ (v : ServerId). IsLeftSo v tree (said a.draft) p) g.server_is
          (passed_left (said a.draft) a.tables st tree g.stands g.served k p i_p
          (λ c is e. g.enters p c i_p is e) h)))
    ];
  }

  -- one is answered by this message, and these are the tables then
  pub way_answered : (a : Looking) → IsOnTheWay a → (p : Pending) → IsPlaced a.tables.pending a.at p → (m : Message)
      → (y : Tables) → IsAnswered (said a.draft) a.tables tree m y
      → ((v : Wanted) → IsQueued (said a.draft) v → Decides (as_sent m) v.host v.request → v ≡ p.wanted)
      → y.server ≡ a.tables.server → y.pending ≡ remove a.tables.pending a.at → IsServed y st
      → AreLastChanges y.changes → IsOnTheWay (looking y (saying a.draft m) a.at)
  way_answered a g p place m y w only server_same pending_is served single =
      let x = a.tables in
      let now = sent_end a.draft.sent m in
      let i_p : In p x.pending = placed_in x.pending a.at p place in
      let was : (q : Pending) → In q y.pending → In q x.pending =
      λ q i. in_removed x.pending a.at q (subst (In q) pending_is i) in
      record {
        server_is = server_same ∙ g.server_is;
        stands = subst (λ l. Stands l y) (sym now) w.stands;
        served = served;
        single = single;
        enters = λ q c i is e. g.enters q c (was q i) is e;
        allowed = allowed_more server tree s before a.draft.sent m g.allowed
            (subst (λ (v : ServerId). ServerTokens v (said a.draft) (as_sent m)) g.server_is w.tokens)
            (subst (λ (v : ServerId). MaySend v tree s (said a.draft) (as_sent m)) g.server_is (w.may s));
        left = λ i q l o.
            (let o2 : IsPlaced x.pending i q = place_was x.pending a.at i q l
            (subst (λ ps. IsPlaced ps i q) pending_is o) in
            let lower = placed_rise x.pending g.served.counted.rising i a.at q p l o2 place in
            let i_q = placed_in x.pending i q o2 in
            subst (λ l2. IsLeftSo server tree l2 q) (sym now)
            (still_left server tree (said a.draft) (as_sent m ∷ said a.draft) q
            (λ c. subst (λ (v : ServerId). CanGrant v (said a.draft) q.wanted) g.server_is
            (grant_was (said a.draft) x g.stands m q p i_q i_p lower only
            (subst (λ (v : ServerId). CanGrant v (as_sent m ∷ said a.draft) q.wanted) (sym g.server_is) c)))
            (λ c. subst (λ (v : ServerId). CanDecide v (said a.draft) q.wanted) g.server_is
            (decide_was (said a.draft) x g.stands m q p i_q i_p lower only
            (subst (λ (v : ServerId). CanDecide v (as_sent m ∷ said a.draft) q.wanted) (sym g.server_is) c)))
            (g.left i q l o2)));
      }
    where
      sent_end : (sent : List Message) (m : Message)
          → appended (sending (sent ++ m ∷ [])) before ≡ as_sent m ∷ appended (sending sent) before
      sent_end sent m = by sent before
        where
          by : (ns : List Message) (l : List Doing)
              → appended (sending (ns ++ m ∷ [])) l ≡ as_sent m ∷ appended (sending ns) l
          by [] l = refl
          by (o ∷ ns) l = by ns (as_sent o ∷ l)
