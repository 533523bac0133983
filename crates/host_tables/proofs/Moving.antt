-- How the tables of requests stand once a quiet step has said what it says, and that a new Change may be sent.
use Rattle.base_types.specs.declared.ids.FilesetId.{FilesetId}
use Rattle.base_types.specs.declared.ids.ServerId.{ServerId}
use Rattle.base_types.specs.declared.user.User.{User}
use Rattle.host_tables.specs.AsksByLine.{CountsFetch}
use Rattle.host_tables.specs.Half.{half}
use Rattle.host_tables.specs.Moving.{AsksNew, ChangeMoves, CountsChange, FetchMoves, IsNoRequest, NewChangeMay}
use Rattle.host_tables.specs.Moving.{RequestMoves, SendsChangeNew, SendsFetchNew, SendsNoNew}
use Rattle.host_tables.specs.QuietStep.{IsOfTables}
use Rattle.host_tables.specs.Sending.{MayChange}
use Rattle.host_tables.specs.Stands.{AsksFrom, NumbersStand, RequestStands, Stands}
use Rattle.host_tables.specs.Tables.{last_change, last_fetch}
use Rattle.host_tables.specs.declared.calls.Request.{Request}
use Rattle.host_tables.specs.declared.calls.Request.TheVariants.{Change as AChange, Fetch as AFetch}
use Rattle.host_tables.specs.declared.numbers.Changed.{Changed}
use Rattle.host_tables.specs.declared.numbers.Fetched.{Fetched}
use Rattle.host_tables.specs.declared.tables.Tables.{Tables}
use Rattle.message_types.specs.declared.asking.Change.{Change as ChangeOf}
use Rattle.message_types.specs.declared.asking.Fetch.{Fetch as FetchOf}
use Rattle.message_types.specs.declared.message.Body.{Body}
use Rattle.message_types.specs.declared.message.Body.TheVariants.{Change, Fetch}
use Rattle.need_host.specs.Calls.{Own, call_look}
use Rattle.need_host.specs.Calls.Verdict.{Asks}
use Rattle.need_host.specs.Looks.{IsCovered, IsFirstLack, needs_of, outcome}
use Rattle.need_host.specs.Questions.{Question, fileset_of}
use Rattle.need_host.specs.Questions.Question.{ChangeAt, ChangeIn, EnterAt}
use Rattle.run_rules.specs.HostAsks.{AsksServer, HasChanged, HasFetched, IsChangeNumber, IsNextNumber}
use Rattle.run_rules.specs.Messages.{Asking, Changing, IsDecidedAt, IsWelcome, Said, Sends, home}
use Rattle.run_rules.specs.Views.{Stance, sees, stay_asked}
use Rattle.run_rules.specs.declared.step.Step.{Step}
use Rattle.script_lines.specs.declared.script.Script.{Script}
use Rattle.std.proofs.Common.{List, None, Some, ap, arith, inl, inr, refl, subst, sym, ℕ, ◌∙◌, ◌∷◌, ◌≡◌, ◌⊎◌}
use Rattle.token_types.specs.declared.token.Token.{Token}
use Rattle.host_tables.proofs.Answered as answered

same_fetch : (f k : FetchOf) → Fetch f ≡ Fetch k → f ≡ k
same_fetch f k e = cc

same_change : (c k : ChangeOf) → Change c ≡ Change k → c ≡ k
same_change c k e = cc

not_fetch : (b : Body) (f : FetchOf) → b ≡ Fetch f → IsNoRequest b → ⊥
not_fetch b f e plain = subst IsNoRequest e plain

not_change : (b : Body) (c : ChangeOf) → b ≡ Change c → IsNoRequest b → ⊥
not_change b c e plain = subst IsNoRequest e plain

-- what the half step says is nothing
module _ (past : List Step) (s : Step) where
  pub fetched_half : (f : FetchOf) → HasFetched past f → HasFetched (half s ∷ past) f
  fetched_half f (v, e, n, p) = (v, e, n, inr p)

  pub half_fetched : (f : FetchOf) → HasFetched (half s ∷ past) f → HasFetched past f
  half_fetched f (v, e, n, inl p) = elim p.1 [ ]
  half_fetched f (v, e, n, inr p) = (v, e, n, p)

  pub changed_half : (v : ServerId) (c : ChangeOf) → HasChanged past v c → HasChanged (half s ∷ past) v c
  changed_half v c (w, e, n, p, q) = (w, e, n, inr p, q)

  pub half_changed : (v : ServerId) (c : ChangeOf) → HasChanged (half s ∷ past) v c → HasChanged past v c
  half_changed v c (w, e, n, inl p, q) = elim p.1 [ ]
  half_changed v c (w, e, n, inr p, q) = (w, e, n, p, q)

  asking_on : (fs : FilesetId) (n : ℕ) → Asking (half s ∷ past) fs n → Asking (s ∷ past) fs n
  asking_on fs n (inl x, ends) = elim x.1.3.1 [ ]
  asking_on fs n (inr a, ends) = (inr a, ends)

  changing_on : (v : ServerId) (fs : FilesetId) (n : ℕ) → Changing (half s ∷ past) v fs n → Changing (s ∷ past) v fs n
  changing_on v fs n (inl x, ends) = elim x.1.3.1 [ ]
  changing_on v fs n (inr a, ends) = (inr a, ends)

  said_on : (v : ServerId) (e n : ℕ) (b : Body) → Said (half s ∷ past) v e n b → Said (s ∷ past) v e n b
  said_on v e n b (inl p) = elim p.1 [ ]
  said_on v e n b (inr p) = inr p

module _ (script : Script) (m : Tables) (past : List Step) (s : Step) (learnt : Stands script m (half s ∷ past)) where
  -- # Nothing new is asked
  module _ (sends : SendsNoNew m s) where
    fetch_sent : (v : ServerId) (e n : ℕ) (f : FetchOf) → Sends s v e n (Fetch f) → m.request ≡ Some (AFetch f)
    fetch_sent v e n f p = elim (sends.only p.0 p.1) [
      | inl plain ↦ absurd (not_fetch p.0.body f p.5 plain)
      | inr z ↦ elim z [
        | inl k ↦ k.1 ∙ ap (λ (x : FetchOf). Some (AFetch x)) (same_fetch k.0 f (sym k.2 ∙ p.5))
        | inr k ↦ absurd (let q : Change k.0 ≡ Fetch f = sym k.2 ∙ p.5 in cc)
      ]
    ]

    change_sent : (v : ServerId) (e n : ℕ) (c : ChangeOf) → Sends s v e n (Change c) → m.request ≡ Some (AChange v c)
    change_sent v e n c p = elim (sends.only p.0 p.1) [
      | inl plain ↦ absurd (not_change p.0.body c p.5 plain)
      | inr z ↦ elim z [
        | inl k ↦ absurd (let q : Fetch k.0 ≡ Change c = sym k.2 ∙ p.5 in cc)
        | inr k ↦ subst (λ (x : ServerId × ChangeOf). m.request ≡ Some (AChange x.0 x.1))
            (λ i. (p.2 i, same_change k.0 c (sym k.2 ∙ p.5) i)) k.1
      ]
    ]

    fetched_before : (f : FetchOf) → HasFetched (s ∷ past) f → HasFetched (half s ∷ past) f
    fetched_before f (v, e, n, inl p) = (learnt.request.fetch f (fetch_sent v e n f p)).0
    fetched_before f (v, e, n, inr p) = (v, e, n, inr p)

    changed_before : (v : ServerId) (c : ChangeOf) → HasChanged (s ∷ past) v c → HasChanged (half s ∷ past) v c
    changed_before v c (w, e, n, inl p, at) =
        let h = (learnt.request.change w c (change_sent w e n c p)).0 in (h.0, h.1, h.2, h.3, λ z. h.4 z ∙ at z)
    changed_before v c (w, e, n, inr p, at) = (w, e, n, inr p, at)

    pub request_moves : RequestStands m.request (s ∷ past)
    request_moves = record {
      fetch = λ f e. let r = learnt.request.fetch f e in
          ((r.0.0, r.0.1, r.0.2, said_on past s _ _ _ _ r.0.3), asking_on past s f.fid.fileset f.number r.1, r.2);
      change = λ v c e. let r = learnt.request.change v c e in (
        (r.0.0, r.0.1, r.0.2, said_on past s _ _ _ _ r.0.3, r.0.4),
        changing_on past s v c.fileset c.number r.1,
        r.2,
        r.3,
      );
      asking = λ fs n a. elim a.0 [
        | inl x ↦ (x.0, fetch_sent x.1.0 x.1.1 x.1.2 x.0 x.1.3, x.2, x.3)
        | inr x ↦ learnt.request.asking fs n (inr x, a.1)
      ];
      changing = λ v fs n a. elim a.0 [
        | inl x ↦ (
          x.1.0,
          x.0,
          change_sent x.1.0 x.1.1 x.1.2 x.0 x.1.3,
          x.2,
          x.3,
          λ z. x.1.4 (ap (λ (f : FilesetId). f.0) x.2 ∙ z),
        )
        | inr x ↦ learnt.request.changing v fs n (inr x, a.1)
      ];
      one_fetch = λ f k a b. learnt.request.one_fetch f k (fetched_before f a) (fetched_before k b);
      one_change = λ v c d a b. learnt.request.one_change v c d (changed_before v c a) (changed_before v d b);
      entering = λ v c w name e enters is. let r = learnt.request.entering v c w name e enters is in
          (r.0, (r.1.0, r.1.1, said_on past s _ _ _ _ r.1.2), r.2);
    }

    pub numbers_move : NumbersStand m.fetched m.changed (s ∷ past)
    numbers_move = record {
      fetches = λ fs n x. learnt.numbers.fetches fs n (x.0, fetched_before x.0 x.1, x.2, x.3);
      fetch_last = λ fs. elim (learnt.numbers.fetch_last fs) [
        | inl e ↦ inl e
        | inr x ↦ inr (x.0, (x.1.0, x.1.1, x.1.2, said_on past s _ _ _ _ x.1.3), x.2, x.3)
      ];
      changes = λ v fs n x. learnt.numbers.changes v fs n (x.0, changed_before v x.0 x.1, x.2, x.3);
      change_last = λ v fs. elim (learnt.numbers.change_last v fs) [
        | inl e ↦ inl e
        | inr x ↦ inr (x.0, (x.1.0, x.1.1, x.1.2, said_on past s _ _ _ _ x.1.3, x.1.4), x.2, x.3)
      ];
    }

  none_asked : m.request ≡ None → (r : Request) → m.request ≡ Some r → ⊥
  none_asked idle r e = let p = sym idle ∙ e in absurd (cc)

  -- # A new Change
  module _ (v : ServerId) (c : ChangeOf) (changed : List Changed) (sends : SendsChangeNew m past s v c)
      (counts : CountsChange m.changed changed v c) where
    no_fetch : (w : ServerId) (e n : ℕ) (f : FetchOf) → Sends s w e n (Fetch f) → ⊥
    no_fetch w e n f p = elim (sends.only p.0 p.1) [
      | inl k ↦ absurd (let q : Change c ≡ Fetch f = sym k.1 ∙ p.5 in cc)
      | inr plain ↦ not_fetch p.0.body f p.5 plain
    ]

    it_is : (w : ServerId) (e n : ℕ) (k : ChangeOf) → Sends s w e n (Change k) → (v ≡ w) × (c ≡ k)
    it_is w e n k p = elim (sends.only p.0 p.1) [
      | inl z ↦ (sym z.0 ∙ p.2, same_change c k (sym z.1 ∙ p.5))
      | inr plain ↦ absurd (not_change p.0.body k p.5 plain)
    ]

    sent_it : HasChanged (s ∷ past) v c
    sent_it = (v, sends.there.0, sends.there.1, inl sends.there.2, λ z. refl)

    changing_it : Changing (s ∷ past) v c.fileset c.number
    changing_it = (
      inl (c, (v, sends.there.0, sends.there.1, sends.there.2, λ z. refl), refl, refl),
      λ d comes at number. sends.fresh d comes at number,
    )

    change_is : (w : ServerId) (k : ChangeOf) → HasChanged (s ∷ past) w k
        → ((c ≡ k) × (c.fileset.0 ≡ 0 → v ≡ w)) ⊎ HasChanged (half s ∷ past) w k
    change_is w k (u, e, n, inl p, at) =
        let q = it_is u e n k p in
        inl (q.1, λ z. q.0 ∙ at (ap (λ (x : ChangeOf). x.fileset.0) (sym q.1) ∙ z))
    change_is w k (u, e, n, inr p, at) = inr (u, e, n, inr p, at)

    -- its number is above all
    above : (w : ServerId) (k : ChangeOf) → (c.fileset.0 ≡ 0 → v ≡ w) → HasChanged (half s ∷ past) w k
        → k.fileset ≡ c.fileset → k.number ≡ c.number → ⊥
    above w k same h at number =
        let old : HasChanged (half s ∷ past) v k =
        (h.0, h.1, h.2, h.3, λ z. h.4 z ∙ sym (same (ap (λ (f : FilesetId). f.0) (sym at) ∙ z))) in
        let l = learnt.numbers.changes v c.fileset k.number (k, old, at, refl) in
        let e = sends.number in omega (arith, l, e, number)

    pub change_moves : RequestStands (Some (AChange v c)) (s ∷ past)
    change_moves = record {
      fetch = λ f e. absurd (cc);
      change = λ w k e. let q = asked_is w k e in
          subst (λ (x : ServerId × ChangeOf). HasChanged (s ∷ past) x.0 x.1
          × Changing (s ∷ past) x.0 x.1.fileset x.1.number
          × IsDecidedAt (s ∷ past) x.1.fileset x.0 0 × IsWelcome (s ∷ past) x.0) (λ i. (q.0 i, q.1 i))
          (sent_it, changing_it, sends.decided, (learnt.sites v).welcome.0 sends.welcome);
      asking = λ fs n a. elim a.0 [
        | inl x ↦ absurd (no_fetch x.1.0 x.1.1 x.1.2 x.0 x.1.3)
        | inr x ↦ absurd (let r = learnt.request.asking fs n (inr x, a.1) in none_asked sends.idle (AFetch r.0) r.1)
      ];
      changing = λ w fs n a. elim a.0 [
        | inl x ↦ (
            let q = it_is x.1.0 x.1.1 x.1.2 x.0 x.1.3 in (
              v,
              c,
              refl,
              ap (λ (k : ChangeOf). k.fileset) q.1 ∙ x.2,
              ap (λ (k : ChangeOf). k.number) q.1 ∙ x.3,
              λ z. q.0 ∙ x.1.4 (ap (λ (f : FilesetId). f.0) x.2 ∙ z),
            )
            )
        | inr x ↦ absurd (let r = learnt.request.changing w fs n (inr x, a.1) in
            none_asked sends.idle (AChange r.0 r.1) r.2)
      ];
      one_fetch = λ f k a b. learnt.request.one_fetch f k (fetch_before f a) (fetch_before k b);
      one_change = λ w k d a b at number. elim (change_is w k a) [
        | inl x ↦ elim (change_is w d b) [
          | inl y ↦ sym x.0 ∙ y.0
          | inr y ↦ absurd (above w d x.1 y (sym at ∙ ap (λ (z : ChangeOf). z.fileset) (sym x.0))
              (sym number ∙ ap (λ (z : ChangeOf). z.number) (sym x.0)))
        ]
        | inr x ↦ elim (change_is w d b) [
          | inl y ↦ absurd (above w k y.1 x (at ∙ ap (λ (z : ChangeOf). z.fileset) (sym y.0))
              (number ∙ ap (λ (z : ChangeOf). z.number) (sym y.0)))
          | inr y ↦ learnt.request.one_change w k d x y at number
        ]
      ];
      entering = λ w k u name e enters is.
          let q = asked_is w k e in
          let r = sends.enters u name (ap (λ (x : ChangeOf). x.enter) q.1 ∙ enters)
          (ap (λ (x : ChangeOf). fileset_of x.call) q.1 ∙ is) in (
            r.0 ∙ q.0,
            (
              sends.there.0,
              sends.there.1,
              inl (subst (λ (x : ServerId × ChangeOf). Sends s x.0 sends.there.0 sends.there.1 (Change x.1))
                  (λ i. (sym r.0 i, q.1 i)) sends.there.2),
            ),
            λ id z. let p = sym r.1 ∙ (learnt.homes.seen u name id).1 z in absurd (cc),
          );
    }
      where
        asked_is : (w : ServerId) (k : ChangeOf) → Some (AChange v c) ≡ Some (AChange w k) → (v ≡ w) × (c ≡ k)
        asked_is w k e = (cc, cc)

        fetch_before : (f : FetchOf) → HasFetched (s ∷ past) f → HasFetched (half s ∷ past) f
        fetch_before f (w, e, n, inl p) = absurd (no_fetch w e n f p)
        fetch_before f (w, e, n, inr p) = (w, e, n, inr p)

    pub change_counts : NumbersStand m.fetched changed (s ∷ past)
    change_counts = record {
      fetches = λ fs n x. learnt.numbers.fetches fs n (x.0, fetch_before x.0 x.1, x.2, x.3);
      fetch_last = λ fs. elim (learnt.numbers.fetch_last fs) [
        | inl e ↦ inl e
        | inr x ↦ inr (x.0, (x.1.0, x.1.1, x.1.2, said_on past s _ _ _ _ x.1.3), x.2, x.3)
      ];
      changes = λ w fs n x. elim (change_is w x.0 x.1) [
        | inl y ↦ (
            let at : c.fileset ≡ fs = ap (λ (k : ChangeOf). k.fileset) y.0 ∙ x.2 in
            let p = subst (λ (f : FilesetId). last_change changed w f ≡ c.number) at (counts.at w (λ z. sym (y.1 z))) in
            let q = ap (λ (k : ChangeOf). k.number) y.0 ∙ x.3 in omega (arith, p, q)
            )
        | inr h ↦ (let l = learnt.numbers.changes w fs n (x.0, h, x.2, x.3) in let u = counts.up w fs in
            omega (arith, l, u))
      ];
      change_last = λ w fs. elim (counts.other w fs) [
        | inl e ↦ elim (learnt.numbers.change_last w fs) [
          | inl z ↦ inl (e ∙ z)
          | inr x ↦ inr (x.0, (x.1.0, x.1.1, x.1.2, said_on past s _ _ _ _ x.1.3, x.1.4), x.2, x.3 ∙ sym e)
        ]
        | inr y ↦ inr (
          c,
          (v, sends.there.0, sends.there.1, inl sends.there.2, λ z. sym (y.1 z)),
          y.0,
          sym (subst (λ (f : FilesetId). last_change changed w f ≡ c.number) y.0 (counts.at w y.1)),
        )
      ];
    }
      where
        fetch_before : (f : FetchOf) → HasFetched (s ∷ past) f → HasFetched (half s ∷ past) f
        fetch_before f (w, e, n, inl p) = absurd (no_fetch w e n f p)
        fetch_before f (w, e, n, inr p) = (w, e, n, inr p)

  -- # A new Fetch
  module _ (f : FetchOf) (fetched : List Fetched) (sends : SendsFetchNew m past s f)
      (counts : CountsFetch m.fetched fetched f) where
    no_change : (w : ServerId) (e n : ℕ) (c : ChangeOf) → Sends s w e n (Change c) → ⊥
    no_change w e n c p = elim (sends.only p.0 p.1) [
      | inl k ↦ absurd (let q : Fetch f ≡ Change c = sym k ∙ p.5 in cc)
      | inr plain ↦ not_change p.0.body c p.5 plain
    ]

    that_is : (w : ServerId) (e n : ℕ) (k : FetchOf) → Sends s w e n (Fetch k) → f ≡ k
    that_is w e n k p = elim (sends.only p.0 p.1) [
      | inl z ↦ same_fetch f k (sym z ∙ p.5)
      | inr plain ↦ absurd (not_fetch p.0.body k p.5 plain)
    ]

    fetched_it : HasFetched (s ∷ past) f
    fetched_it = (home f.fid.fileset, sends.there.0, sends.there.1, inl sends.there.2)

    asking_it : Asking (s ∷ past) f.fid.fileset f.number
    asking_it = (
      inl (f, (home f.fid.fileset, sends.there.0, sends.there.1, sends.there.2), refl, refl),
      λ g about at number. sends.fresh g about at number,
    )

    fetch_is : (k : FetchOf) → HasFetched (s ∷ past) k → (f ≡ k) ⊎ HasFetched (half s ∷ past) k
    fetch_is k (w, e, n, inl p) = inl (that_is w e n k p)
    fetch_is k (w, e, n, inr p) = inr (w, e, n, inr p)

    change_before : (w : ServerId) (c : ChangeOf) → HasChanged (s ∷ past) w c → HasChanged (half s ∷ past) w c
    change_before w c (u, e, n, inl p, at) = absurd (no_change u e n c p)
    change_before w c (u, e, n, inr p, at) = (u, e, n, inr p, at)

    higher : (k : FetchOf) → HasFetched (half s ∷ past) k → k.fid.fileset ≡ f.fid.fileset → k.number ≡ f.number → ⊥
    higher k h at number =
        let l = learnt.numbers.fetches f.fid.fileset k.number (k, h, at, refl) in
        let e = sends.number in omega (arith, l, e, number)

    pub fetch_moves : RequestStands (Some (AFetch f)) (s ∷ past)
    fetch_moves = record {
      fetch = λ k e. subst (λ (x : FetchOf). HasFetched (s ∷ past) x × Asking (s ∷ past) x.fid.fileset x.number
          × IsWelcome (s ∷ past) (home x.fid.fileset)) (asked_is k e)
          (fetched_it, asking_it, (learnt.sites (home f.fid.fileset)).welcome.0 sends.welcome);
      change = λ v c e. absurd (cc);
      asking = λ fs n a. elim a.0 [
        | inl x ↦ (
            let q = that_is x.1.0 x.1.1 x.1.2 x.0 x.1.3 in
            (f, refl, ap (λ (k : FetchOf). k.fid.fileset) q ∙ x.2, ap (λ (k : FetchOf). k.number) q ∙ x.3)
            )
        | inr x ↦ absurd (let r = learnt.request.asking fs n (inr x, a.1) in none_asked sends.idle (AFetch r.0) r.1)
      ];
      changing = λ v fs n a. elim a.0 [
        | inl x ↦ absurd (no_change x.1.0 x.1.1 x.1.2 x.0 x.1.3)
        | inr x ↦ absurd (let r = learnt.request.changing v fs n (inr x, a.1) in
            none_asked sends.idle (AChange r.0 r.1) r.2)
      ];
      one_fetch = λ k j a b at number. elim (fetch_is k a) [
        | inl x ↦ elim (fetch_is j b) [
          | inl y ↦ sym x ∙ y
          | inr y ↦ absurd (higher j y (sym at ∙ ap (λ (z : FetchOf). z.fid.fileset) (sym x))
              (sym number ∙ ap (λ (z : FetchOf). z.number) (sym x)))
        ]
        | inr x ↦ elim (fetch_is j b) [
          | inl y ↦ absurd (higher k x (at ∙ ap (λ (z : FetchOf). z.fid.fileset) (sym y))
              (number ∙ ap (λ (z : FetchOf). z.number) (sym y)))
          | inr y ↦ learnt.request.one_fetch k j x y at number
        ]
      ];
      one_change = λ v c d a b. learnt.request.one_change v c d (change_before v c a) (change_before v d b);
      entering = λ v c w name e. absurd (cc);
    }
      where
        asked_is : (k : FetchOf) → Some (AFetch f) ≡ Some (AFetch k) → f ≡ k
        asked_is k e = cc

    pub fetch_counts : NumbersStand fetched m.changed (s ∷ past)
    fetch_counts = record {
      fetches = λ fs n x. elim (fetch_is x.0 x.1) [
        | inl e ↦ (
            let at = ap (λ (g : FetchOf). g.fid.fileset) e ∙ x.2 in
            let p = subst (λ (y : FilesetId). last_fetch fetched y ≡ f.number) at counts.at in
            let q = ap (λ (g : FetchOf). g.number) e ∙ x.3 in omega (arith, p, q)
            )
        | inr h ↦ (let l = learnt.numbers.fetches fs n (x.0, h, x.2, x.3) in let u = counts.up fs in
            omega (arith, l, u))
      ];
      fetch_last = λ fs. elim (counts.other fs) [
        | inl e ↦ elim (learnt.numbers.fetch_last fs) [
          | inl z ↦ inl (e ∙ z)
          | inr x ↦ inr (x.0, (x.1.0, x.1.1, x.1.2, said_on past s _ _ _ _ x.1.3), x.2, x.3 ∙ sym e)
        ]
        | inr at ↦ inr (
          f,
          fetched_it,
          at,
          sym (subst (λ (y : FilesetId). last_fetch fetched y ≡ f.number) at counts.at),
        )
      ];
      changes = λ v fs n x. learnt.numbers.changes v fs n (x.0, change_before v x.0 x.1, x.2, x.3);
      change_last = λ v fs. elim (learnt.numbers.change_last v fs) [
        | inl e ↦ inl e
        | inr x ↦ inr (x.0, (x.1.0, x.1.1, x.1.2, said_on past s _ _ _ _ x.1.3, x.1.4), x.2, x.3)
      ];
    }

  -- # A new Change may be sent
  module _ (v : ServerId) (c : ChangeOf) (sends : SendsChangeNew m past s v c) (asks : AsksNew m past s v c)
      (stance : Stance script.roster m.host past s) (from : IsOfTables script.roster m past s stance) where
    numbered_before : (k : ℕ) → IsChangeNumber past v c.fileset k → IsChangeNumber (half s ∷ past) v c.fileset k
    numbered_before k x = (x.0, changed_half past s v x.0 x.1, x.2, x.3)

    numbered_after : (k : ℕ) → IsChangeNumber (half s ∷ past) v c.fileset k → IsChangeNumber past v c.fileset k
    numbered_after k x = (x.0, half_changed past s v x.0 x.1, x.2, x.3)

    next : IsNextNumber (IsChangeNumber past v c.fileset) c.number
    next = record {
      above = λ k x.
          let e = sends.number in
          let l = learnt.numbers.changes v c.fileset k (numbered_before k x) in omega (arith, e, l);
      after = elim (learnt.numbers.change_last v c.fileset) [
        | inl z ↦ (let e = sends.number in inl (omega (arith, e, z)))
        | inr x ↦ (let e = sends.number in inr (
          last_change m.changed v c.fileset,
          numbered_after (last_change m.changed v c.fileset) x,
          omega (arith, e),
        ))
      ];
    }

    asks_there : AsksFrom m c.call asks.question c.fid → AsksServer script.roster m.host past s stance c.call
        asks.question c.fid
    asks_there (inl (verdict, covered, fid)) = inl (
      subst (λ (q : Own × User). outcome (sees past s) (call_look q.0 m.host q.1 c.call) ≡ Asks asks.question)
          (λ i. (sym from.own i, sym from.user i)) (sym (answered.verdict_is script m past s learnt c.call covered)
          ∙ verdict),
      subst (λ (q : List Token × Own × User). IsCovered q.0 (sees past s) (call_look q.1 m.host q.2 c.call))
          (λ i. (sym from.kept i, sym from.own i, sym from.user i))
          (answered.covered_there script m past s learnt c.call
          covered),
      fid,
    )
    asks_there (inr (need, lack, kind, fid, question)) = inr (
      need,
      subst (λ (q : List Token × Own × User). IsFirstLack q.0 (needs_of (sees past s) (call_look q.1 m.host q.2 c.call))
          need)
          (λ i. (sym from.kept i, sym from.own i, sym from.user i))
          (answered.lack_there script m past s learnt c.call need
          lack),
      kind,
      fid,
      question,
    )

    goes : (q : Question) → stay_asked past q ≡ record { server = v; moves = 0 }
        → stay_asked (s ∷ past) q ≡ record { server = v; moves = 0 }
    goes (EnterAt server) e = e
    goes (ChangeIn fileset) e = e
    goes (ChangeAt server) e = e

    pub new_change : MayChange script.roster m.host past s stance v 0 c
    new_change = record {
      place = sends.decided;
      no_bye = asks.no_bye;
      why = inr (record {
        next = next;
        is_open = asks.is_open;
        question = asks.question;
        asks = asks_there asks.asks;
        enters = asks.enters;
        numbered = asks.numbered;
        goes = goes asks.question asks.goes;
      });
      welcome = (learnt.sites v).welcome.0 sends.welcome;
    }

pub request_moves_right : RequestMoves
request_moves_right script m past s learnt sends =
    (request_moves script m past s learnt sends, numbers_move script m past s learnt sends)

pub change_moves_right : ChangeMoves
change_moves_right script m past s v c changed learnt sends counts = (
  change_moves script m past s learnt v c changed sends counts,
  change_counts script m past s learnt v c changed
      sends counts,
)

pub fetch_moves_right : FetchMoves
fetch_moves_right script m past s f fetched learnt sends counts = (
  fetch_moves script m past s learnt f fetched sends counts,
  fetch_counts script m past s learnt f fetched sends
      counts,
)

pub new_change_may : NewChangeMay
new_change_may script m past s v c learnt sends asks stance from =
    new_change script m past s learnt v c sends asks stance from
