-- A host's own step keeps what it shares with a server and the tree, at any part.
use Rattle.std.proofs.Common.{◌≡◌, ℕ, ◌<◌, ◌≤◌, ◌⊎◌, Option, Some, None, true, List, ◌∷◌}
use Rattle.std.proofs.Common.{inl, inr, sym, ◌∙◌, ap, subst, refl, arith}
use Rattle.std.proofs.lemmas.Bool.{and_parts, or_cases}
use Rattle.std.specs.Prelude.{is_some, not, unwrap_or, ◌||◌}
use Rattle.base_types.specs.declared.ids.HostId.{HostId}
use Rattle.base_types.specs.declared.ids.ServerId.{ServerId}
use Rattle.base_types.specs.declared.ids.Fid.{Fid}
use Rattle.token_types.specs.declared.token.Token.{Token}
use Rattle.token_types.specs.declared.token.Need.{Need}
use Rattle.token_types.specs.Conflicts.{need_of}
use Rattle.message_types.specs.declared.message.Body.{Body}
use Rattle.message_types.specs.declared.message.Body.TheVariants.{Grant, Done}
use Rattle.message_types.specs.declared.message.Message.{Message}
use Rattle.message_types.specs.declared.asking.Fetch.{Fetch as FetchOf}
use Rattle.message_types.specs.declared.telling.Grant.{Grant as GrantOf}
use Rattle.message_types.specs.declared.telling.Done.{Done as DoneOf}
use Rattle.message_types.specs.declared.giving.Give.{Give}
use Rattle.run_rules.specs.declared.step.Cause.{Cause}
use Rattle.run_rules.specs.declared.step.Cause.TheVariants.{Message as Came}
use Rattle.run_rules.specs.declared.step.Step.{Step}
use Rattle.run_rules.specs.Doings.{Doing, HasGoneAway, IsApplied, SentTo}
use Rattle.run_rules.specs.HostTokens.{HostTokens}
use Rattle.run_rules.specs.Messages.{Asking, ComesIn, RaisesEpoch, epoch_at, home as made_at}
use Rattle.run_rules.specs.Past.{In}
use Rattle.run_rules.specs.Tokens.{AboveFloor, AtHand, Made, Owns, number_of}
use Rattle.run_tokens.proofs.Owed.{Owed}
use Rattle.run_tokens.proofs.Words.{epoch_grows}
use Rattle.run_tokens.proofs.Invariant.{Served, Alone, Link, Brought}
use Rattle.tree_laws.specs.Parts.{Nature, Part, Seen, Written, Cell, present}
use Rattle.tree_laws.specs.Parts.Part.{ByteAt, Size, Traits, Entries}
use Rattle.need_host.specs.Shows.{shows}
use Rattle.run_parts.specs.Cells.{by, written}
use Rattle.run_parts.specs.Deeds.{Deed, acts_in}
use Rattle.run_parts.specs.Contents.{Contents, site, kept, view, sees, dirty, OwnsUpdate, TakesUpdate, Clean}
use Rattle.run_parts.specs.Contents.{SendsBack, HasSaid, IsWritable, Knows, KnowsFile}
use Rattle.run_parts.specs.Contents.{KnowsDirectory, HostShows, Pending}
use Rattle.run_parts.specs.Legal.{Cells}
use Rattle.run_parts.proofs.Cells.{option_cases, none_is, some_is, none_some, none_of, bool_cases, dirty_now}
use Rattle.run_parts.proofs.Cells.{dirty_on, by_same, some_value, value_is, value_none, unwritten, present_written}
use Rattle.run_parts.proofs.Invariant.{Alike, IsDirectory, Open, Leaving, Shown, Treed, Writes, conflict_at}
use Rattle.run_parts.proofs.Invariant.{applied_below, pending_owned}
use Rattle.run_parts.proofs.SeenStep.{was_asking}

-- one message isn't a Done and a Grant
message_of : (c : Cause) (m n : Message) → c ≡ Came m → c ≡ Came n → m ≡ n
message_of c m n p q = let r : Came m ≡ Came n = sym p ∙ q in cc

not_both : (s : Step) (v w : ServerId) (e d n k : ℕ) (x : DoneOf) (y : GrantOf) → ComesIn s v e n (Done x)
    → ComesIn s w d k (Grant y) → ⊥
not_both s v w e d n k x y a b =
    let q : Done x ≡ Grant y = sym a.5 ∙ (ap (λ (m : Message). m.body) (message_of s.cause a.0 b.0 a.1 b.1) ∙ b.5) in
    cc

-- the step and what is so before it
pub record Own (c : Contents) (h : HostId) (v : ServerId) (A : List Step) (s : Step) (cells : Cells)
    (D : List Deed) : Type 0 where
  pub served : Served v (acts_in D)
  pub alone : Alone A
  pub alone' : Alone (s ∷ A)
  pub link : Link h v A (acts_in D)
  pub link' : Link h v (s ∷ A) (acts_in D)
  pub seen : Alike c A
  pub seen' : Alike c (s ∷ A)
  pub shown : Shown c h A cells v D
  pub treed : Treed c cells v D
  -- what is unsaved, of any host
  pub writes : (p : Part) (f : Fid) (u : Written (Seen p)) → site f ≡ v → (cells f p).unsaved ≡ Some u
      → Writes v (acts_in D) u.writer f p
  pub may : HostTokens A s
  pub rules : HostShows c A s
  pub came : (e n : ℕ) (b : Body) → ComesIn s v e n b → SentTo (acts_in D) h e n b

module _ (c : Contents) (h : HostId) (v : ServerId) (A : List Step) (s : Step) (cells : Cells) (D : List Deed)
    (o : Own c h v A s cells D) where
  abbrev S : List Doing
  S = acts_in D

  abbrev pub cells' : Cells
  cells' f p = written h (c.wrote A s f p) (cells f p)

  -- where the step doesn't write, the part is as before
  pub same_cell : (p : Part) (f : Fid) → ((x : Seen p) → c.wrote A s f p ≡ Some x → ⊥) → cells f p ≡ cells' f p
  same_cell p f never = sym (unwritten h (c.wrote A s f p) (cells f p) (none_of (c.wrote A s f p) never))

  -- a host that owns a token after its step isn't away
  pub live : (t : Token) → Owns (s ∷ A) t → HasGoneAway S h → ⊥
  live t k w = elim (o.link.away w) [ inl d ↦ o.may.live d | inr b ↦ o.alone'.bye_held t v (b.0, b.1, inr b.2) k ]

  pub live_owner : (p : Part) (f : Fid) → OwnsUpdate (s ∷ A) f p → HasGoneAway S h → ⊥
  live_owner p f u = live u.token u.owned

  pub stays : (t : Token) → In t s.taken → Owns (s ∷ A) t
  stays t m = (inl m, o.rules.takes_stay t m)

  pub hand : (t : Token) → AtHand s A t → In t s.taken ⊎ Owns A t
  hand t (inl m) = inl m
  hand t (inr k) = inr (o.alone.owns t k)

  pub live_hand : (t : Token) → AtHand s A t → HasGoneAway S h → ⊥
  live_hand t (inl m) w = live t (stays t m) w
  live_hand t (inr k) w = elim (o.link.away w) [
    | inl d ↦ o.may.live d
    | inr b ↦ o.alone.bye_held t v b (o.alone.owns t k)
  ]

  -- no other host is owed a token over what is written
  pub foreign : (p : Part) (x : Seen p) (t : Token) → site t.fid ≡ v → Owed v S t → (t.host ≡ h → ⊥)
      → shows t.kind p ≡ true → c.wrote A s t.fid p ≡ Some x → ⊥
  foreign p x t home k two cov e =
      let u = o.rules.writes t.fid p x e in
      let y = o.link'.held u.token (o.seen'.owned_at u.token u.owned ∙ (ap site u.file ∙ home)) u.owned in
      o.served.apart t u.token k (y.owed (live_owner p t.fid u))
      (conflict_at p t u.token (λ q. two (q ∙ y.host)) (sym u.file) cov u.covers u.update)

  pub foreign_writer : (p : Part) (f : Fid) (j : HostId) (x : Seen p) → site f ≡ v → Writes v S j f p → (j ≡ h → ⊥)
      → c.wrote A s f p ≡ Some x → ⊥
  foreign_writer p f j x home w two e =
      foreign p x w.token (ap site w.file ∙ home) w.owed (λ q. two (sym w.host ∙ q)) w.covers
      (subst (λ g. c.wrote A s g p ≡ Some x) (sym w.file) e)

  -- what the step shows is present
  pub shown_is : (p : Part) (f : Fid) (x : Seen p) → site f ≡ v → (HasGoneAway S h → ⊥) → c.shown s f p ≡ Some x
      → x ≡ present (cells f p)
  shown_is p f x home up q =
      let r = o.rules.takes.shown_by f p x q in
      let at : site r.grant.bring.fid ≡ v = ap site r.file ∙ home in
      let sent : SentTo S h (epoch_at A v) 0 (Grant r.grant) =
      o.came (epoch_at A v) 0 (Grant r.grant)
      (subst (λ z. ComesIn s z (epoch_at A z) 0 (Grant r.grant)) at r.came) in
      let asking : Asking A r.grant.bring.fid.fileset r.grant.bring.number = elim r.uses.0 [
        | inl a ↦ a.3
        | inr a ↦ absurd (not_both s _ _ _ _ _ _ a.0 r.grant a.1 r.came)
      ] in
      let told = o.shown.flight (epoch_at A v) 0 p r.grant r.token at sent refl asking r.uses.1 r.brings r.covers up in
      sym r.tells ∙ (told ∙ ap (λ g. present (cells g p)) r.file)

  -- what the host sees in the step, before it writes
  pub sees_in : (p : Part) (t : Token) → site t.fid ≡ v → In t s.taken ⊎ Owns A t → shows t.kind p ≡ true
      → (HasGoneAway S h → ⊥) → sees c A s t.fid p ≡ present (cells t.fid p)
  sees_in p t home k cov up =
      elim (option_cases (c.shown s t.fid p)) [
        | inr x ↦ some_is (c.shown s t.fid p) (view c A t.fid p) x.0 x.1 ∙ shown_is p t.fid x.0 home up x.1
        | inl n ↦ elim k [
          | inl m ↦ elim (o.rules.takes.shows_all t p m cov) [
            | inl x ↦ absurd (none_some (c.shown s t.fid p) x.0 n x.1)
            | inr d ↦ absurd (o.shown.blind (epoch_at A v) 0 p d.0 t
                (o.came (epoch_at A v) 0 (Done d.0) (subst (λ z. ComesIn s z (epoch_at A z) 0 (Done d.0)) home d.1)) d.2
                cov)
          ]
          | inr b ↦ none_is (c.shown s t.fid p) (view c A t.fid p) n ∙ o.shown.cached p t home b cov up
        ]
      ]

  pub sees_at : (p : Part) (f : Fid) (t : Token) → t.fid ≡ f → site f ≡ v → In t s.taken ⊎ Owns A t
      → shows t.kind p ≡ true → (HasGoneAway S h → ⊥) → sees c A s f p ≡ present (cells f p)
  sees_at p f t file home k cov up =
      subst (λ g. sees c A s g p ≡ present (cells g p)) file (sees_in p t (ap site file ∙ home) k cov up)

  pub cached' : (p : Part) (t : Token) → site t.fid ≡ v → Owns (s ∷ A) t → shows t.kind p ≡ true → (HasGoneAway S h → ⊥)
      → view c (s ∷ A) t.fid p ≡ present (cells' t.fid p)
  cached' p t home k cov up = ap (λ y. unwrap_or (c.wrote A s t.fid p) y) (sees_in p t home k.0 cov up)
      ∙ sym (present_written h (c.wrote A s t.fid p) (cells t.fid p))

  -- what it sees under a token for update, before and in the step
  pub view_is : (p : Part) (f : Fid) → site f ≡ v → OwnsUpdate A f p → (HasGoneAway S h → ⊥)
      → view c A f p ≡ present (cells f p)
  view_is p f home u up = subst (λ g. view c A g p ≡ present (cells g p)) u.file
      (o.shown.cached p u.token (ap site u.file ∙ home) u.owned u.covers up)

  pub sees_on : (p : Part) (f : Fid) → site f ≡ v → OwnsUpdate A f p → (HasGoneAway S h → ⊥) → sees c A s f p ≡ view c A f p
  sees_on p f home u up = sees_at p f u.token u.file home (inr u.owned) u.covers up ∙ sym (view_is p f home u up)

  -- the traits that the host knows are kept
  pub known_kept : (f : Fid) (n : Nature) → site f ≡ v → Knows c A s f n → kept c D f Traits ≡ Some n
  known_kept f n home k =
      let now : sees c A s f Traits ≡ present (cells f Traits) =
      sees_at Traits f k.token k.file home (hand k.token k.held) k.covers (live_hand k.token k.held) in
      sym (o.treed.kept_is Traits f home)
      ∙ (sym (value_none (cells f Traits).unsaved (cells f Traits).kept (o.treed.plain Traits f home (λ z. z)))
      ∙ (sym now ∙ k.sees))

  pub known_file : (f : Fid) → site f ≡ v → KnowsFile c A s f → IsWritable (kept c D f Traits)
  known_file f home k =
      let n = k.0 in
      let g = k.1 in
      let a = known_kept f n.0 home n.1 in
      let at : site g.0 ≡ v = ap made_at g.2 ∙ home in
      let b = known_kept g.0 g.1 at g.3 in
      (n.0, a, n.2, o.treed.alike f g.0 n.0 g.1 home (sym g.2) a b ∙ g.4)

  pub flight' : (e n : ℕ) (p : Part) (w : GrantOf) (t : Token) → site w.bring.fid ≡ v → SentTo S h e n (Grant w)
      → e ≡ epoch_at (s ∷ A) v → Asking (s ∷ A) w.bring.fid.fileset w.bring.number
      → AboveFloor (s ∷ A) w.bring.fid w.bring.stamp → In t w.bring.tokens → shows t.kind p ≡ true → (HasGoneAway S h → ⊥)
      → c.tells w p ≡ present (cells' w.bring.fid p)
  flight' e n p w t home sent now asking above m cov up = go above
    where
      i : Brought S h e w.bring n t
      i = o.served.grants h e n w t sent m

      -- none was issued in an epoch that the host hadn't reached
      before : e ≡ epoch_at A v
      before = (let le = o.link.asked t (record { moves = n; stamp = w.bring.stamp }) i.issued i.host in
          let same = i.epoch_is in let more = epoch_grows A s v in omega (arith, le, same, more, now))

      was : Asking A w.bring.fid.fileset w.bring.number
      was =
          let x = o.shown.asked_for e n w sent in
          subst (λ (y : Fid × ℕ). Asking A y.0.fileset y.1) (λ j. (x.3 j, x.2 j))
          (was_asking c A s o.rules x.0 x.1
          (subst (λ (y : Fid × ℕ). Asking (s ∷ A) y.0.fileset y.1) (λ j. (sym x.3 j, sym x.2 j)) asking))

      go : AboveFloor (s ∷ A) w.bring.fid w.bring.stamp → c.tells w p ≡ present (cells' w.bring.fid p)
      go (inl (inl r, _)) = absurd (let lt : epoch_at A v < epoch_at (s ∷ A) v = subst (λ z. RaisesEpoch A s z) home r in
          let same = before in omega (arith, lt, same, now))
      go (inl (inr r, _)) = absurd (omega (arith, r))
      go (inr r) = o.shown.flight e n p w t home sent before was r.0 m cov up
          ∙ ap (λ (z : Cell (Seen p)). present z)
          (same_cell p w.bring.fid (λ x z.
          o.rules.grown.writes_alone w.bring.fid p x w.bring.fid.fileset w.bring.number z asking))

  pub asked_for' : (e n : ℕ) (w : GrantOf) → SentTo S h e n (Grant w) → (f : FetchOf) × HasSaid (s ∷ A) f
      × (f.number ≡ w.bring.number) × (f.fid ≡ w.bring.fid)
      × ((t : Token) → In t w.bring.tokens → In (need_of t) f.needs)
  asked_for' e n w sent = let x = o.shown.asked_for e n w sent in (x.0, said x.1, x.2, x.3, x.4)
    where
      said : {f : FetchOf} → HasSaid A f → HasSaid (s ∷ A) f
      said (u, d, k, q) = (u, d, k, inr q)

  -- a new give-back isn't applied
  pub not_applied : (g : Give) → In g s.made → IsApplied v S h (number_of g) → ⊥
  not_applied g m a = let q = o.link.applied_made (number_of g) a in
      absurd (let new : q.0.number < g.number = o.may.makes_new g q.0 m q.1 q.2 in
      let le : g.number ≤ q.0.number = q.3 in omega (arith, new, le))

  pub gave_byte : (q : ℕ) (f : Fid) (x : ℕ) (g : Give) → In g s.made → g.fid ≡ f → c.gives g (ByteAt q) ≡ Some x
      → OwnsUpdate A f (ByteAt q) × (sees c A s f (ByteAt q) ≡ x)
  gave_byte q f x g m file has = subst (λ j. OwnsUpdate A j (ByteAt q)
      × (sees c A s j (ByteAt q) ≡ x)) file (
        o.seen.dirty_owned q g.fid (o.rules.gives.gives_dirty g q x m has),
        o.rules.gives.gives_seen g q x m has,
      )

  -- a byte that is given back was the same before
  pub byte_was : (q : ℕ) (f : Fid) (x : ℕ) (g : Give) → site f ≡ v → (HasGoneAway S h → ⊥) → In g s.made → g.fid ≡ f
      → c.gives g (ByteAt q) ≡ Some x → view c A f (ByteAt q) ≡ x
  byte_was q f x g home up m file has =
      let gave = gave_byte q f x g m file has in sym (sees_on (ByteAt q) f home gave.0 up) ∙ gave.1

  pub gave_size : (f : Fid) (x : ℕ) (g : Give) → In g s.made → g.fid ≡ f → c.gives g Size ≡ Some x
      → (OwnsUpdate A f Size ⊎ TakesUpdate s f Size) × (sees c A s f Size ≡ x)
  gave_size f x g m file has = subst (λ j. (OwnsUpdate A j Size ⊎ TakesUpdate s j Size)
      × (sees c A s j Size ≡ x)) file (o.rules.gives.gives_own g x m has, o.rules.gives.gives_size g x m has)

  -- a size that is given back is present
  pub size_is : (f : Fid) (x : ℕ) → site f ≡ v → (HasGoneAway S h → ⊥) → (OwnsUpdate A f Size ⊎ TakesUpdate s f Size)
      × (sees c A s f Size ≡ x) → present (cells f Size) ≡ x
  size_is f x home up (inl u, e) = sym (sees_at Size f u.token u.file home (inr u.owned) u.covers up) ∙ e
  size_is f x home up (inr t, e) = sym (sees_at Size f t.0 t.2.file home (inl t.1) t.2.covers up) ∙ e

  -- what is on its way is in a new give-back, or was so before
  pub open_was : (p : Part) (f : Fid) (x : Seen p) (g : Give) → Open c (s ∷ A) v S h f p x g → In g s.made
      ⊎ Open c A v S h f p x g
  open_was p f x g k = go k.made
    where
      go : Made (s ∷ A) g → In g s.made ⊎ Open c A v S h f p x g
      go (inl m) = inl m
      go (inr m) = inr (record { made = m; file = k.file; has = k.has; not_applied = k.not_applied })

  pub open_on : (p : Part) (f : Fid) (x : Seen p) (g : Give) → Open c A v S h f p x g → Open c (s ∷ A) v S h f p x g
  open_on p f x g k = record { made = inr k.made; file = k.file; has = k.has; not_applied = k.not_applied }

  pub open_new : (p : Part) (f : Fid) (x : Seen p) (g : Give) → In g s.made → g.fid ≡ f → c.gives g p ≡ Some x
      → Open c (s ∷ A) v S h f p x g
  open_new p f x g m file has = record { made = inl m; file = file; has = has; not_applied = not_applied g m }

  -- the give-back by which a size is clean is applied
  clean_applied : (f : Fid) → site f ≡ v → (k : Clean c A s f) → IsApplied v S h (number_of k.give)
  clean_applied f home k = o.link'.known (number_of k.give) (ap site k.file ∙ home) k.known

  -- a clean size isn't unsaved
  pub clean_none : (f : Fid) → site f ≡ v → OwnsUpdate A f Size → Clean c A s f → (HasGoneAway S h → ⊥)
      → (cells f Size).unsaved ≡ None
  clean_none f home u k up = o.shown.settled f k.give home u k.since k.made k.file (k.has
      ∙ ap (λ z. Some z) (sees_on Size f home u up)) (clean_applied f home k) up

  pending_now : (p : Part) (f : Fid) (x : Seen p) → c.wrote A s f p ≡ Some x → Pending c (s ∷ A) f p
  pending_now (ByteAt q) f x e = dirty_now (c.wrote A s f (ByteAt q)) (dirty c A f q) (c.hands s f q) x e
      (o.rules.writes_kept f q x e)
  pending_now Size f x e = o.rules.writes f Size x e
  pending_now Traits f x e = elim (c.wrote_data A s f Traits x e) [ ]
  pending_now Entries f x e = elim (c.wrote_data A s f Entries x e) [ ]

  -- what is pending stays so, or a new give-back has it
  pending_on : (p : Part) (f : Fid) (x : Seen p) → site f ≡ v → (HasGoneAway S h → ⊥) → (cells f p).unsaved ≡ Some (by h x)
      → Pending c A f p → Pending c (s ∷ A) f p ⊎ ((g : Give) × Open c (s ∷ A) v S h f p x g)
  pending_on (ByteAt q) f x home up e d =
      elim (bool_cases (c.hands s f q)) [
        | inr n ↦ inl (dirty_on (c.wrote A s f (ByteAt q)) (dirty c A f q) (c.hands s f q) d n)
        | inl y ↦ (
            let g = o.rules.gives.hands f q y in
            let is : x ≡ g.1 = (by_same h h x (view c A f (ByteAt q)) (sym e ∙ o.shown.dirty_is q f home d up)).1
            ∙ byte_was q f g.1 g.0 home up g.2 g.3 g.4 in
            inr (g.0, open_new (ByteAt q) f x g.0 g.2 g.3 (g.4 ∙ ap (λ z. Some z) (sym is)))
            )
      ]
  pending_on Size f x home up e u =
      let never : Clean c A s f → ⊥ = λ k. none_some (cells f Size).unsaved (by h x) (clean_none f home u k up) e in
      elim (o.rules.gives.saves_size f u never) [
        | inl on ↦ inl on
        | inr b ↦ inr (
          b.give,
          open_new Size f x b.give b.made b.file (b.has
              ∙ ap (λ z. Some z) (sees_on Size f home u up
              ∙ (view_is Size f home u up ∙ value_is (cells f Size).unsaved (cells f Size).kept (by h x) e))),
        )
      ]
  pending_on Traits f x home up e d = elim d [ ]
  pending_on Entries f x home up e d = elim d [ ]

  pub mine' : (p : Part) (f : Fid) (x : Seen p) → site f ≡ v → (cells' f p).unsaved ≡ Some (by h x) → (HasGoneAway S h → ⊥)
      × (Pending c (s ∷ A) f p ⊎ ((g : Give) × Open c (s ∷ A) v S h f p x g))
  mine' p f x home = go (c.wrote A s f p) refl
    where
      go : (w : Option (Seen p)) → c.wrote A s f p ≡ w → (written h w (cells f p)).unsaved ≡ Some (by h x)
          → (HasGoneAway S h → ⊥) × (Pending c (s ∷ A) f p ⊎ ((g : Give) × Open c (s ∷ A) v S h f p x g))
      go (Some y) q e = (live_owner p f (o.rules.writes f p y q), inl (pending_now p f y q))
      go None q e =
          let old = o.shown.mine p f x home e in
          (old.0, elim old.1 [ inl d ↦ pending_on p f x home old.0 e d | inr k ↦ inr (k.0, open_on p f x k.0 k.1) ])

  -- a token for update of the status stays, or it leaves with what is on its way
  size_left : (f : Fid) (x : ℕ) (g : Give) → site f ≡ v → OwnsUpdate A f Size → Open c (s ∷ A) v S h f Size x g
      → OwnsUpdate (s ∷ A) f Size ⊎ Leaving (s ∷ A) v S h f Size g.number
  size_left f x g home u k = elim (o.rules.gives.saves_size f u (λ w. clean w (open_was Size f x g k)))
      [ inl on ↦ inl on | inr b ↦ inr (leaves b) ]
    where
      clean : Clean c A s f → In g s.made ⊎ Open c A v S h f Size x g → ⊥
      clean w (inr b) = k.not_applied
          (applied_below v S h (number_of w.give) (number_of g) (ap (λ (j : Fid). j.fileset) (k.file ∙ sym w.file))
          (w.last g x b.made b.file b.has) (clean_applied f home w))
      clean w (inl n) = o.rules.gives.gives_unclean g x n k.has (subst (Clean c A s) (sym k.file) w)

      leaves : SendsBack c A s f u.token → Leaving (s ∷ A) v S h f Size g.number
      leaves b =
          let i = o.link.held u.token (o.seen.owned_at u.token u.owned ∙ (ap site u.file ∙ home)) u.owned in
          record {
            give = b.give;
            token = u.token;
            mark = i.mark;
            made = inl b.made;
            same = b.file;
            not_applied = not_applied b.give b.made;
            issued = i.issued;
            names = b.names;
            file = u.file;
            covers = u.covers;
            update = u.update;
            later = later (open_was Size f x g k);
          }
        where
          later : In g s.made ⊎ Open c A v S h f Size x g → g.number ≤ b.give.number
          later (inl n) = let one : g ≡ b.give = o.rules.gives.gives_once g b.give n b.made (k.file ∙ sym b.file) in
              let same : g.number ≡ b.give.number = ap (λ (y : Give). y.number) one in omega (arith, same)
          later (inr n) = let lt : g.number < b.give.number =
              o.may.makes_new b.give g b.made n.made (ap (λ (j : Fid). j.fileset) (k.file ∙ sym b.file)) in
              omega (arith, lt)

  pub open_under' : (p : Part) (f : Fid) (x : Seen p) (g : Give) → site f ≡ v → Open c (s ∷ A) v S h f p x g
      → OwnsUpdate (s ∷ A) f p ⊎ Leaving (s ∷ A) v S h f p g.number
  open_under' p f x g home k = elim (open_was p f x g k) [
    | inl n ↦ new p x k n
    | inr b ↦ elim (o.shown.open_under p f x g home b) [
      | inl u ↦ owned p x k b u
      | inr l ↦ inr (record {
        give = l.give;
        token = l.token;
        mark = l.mark;
        made = inr l.made;
        same = l.same;
        not_applied = l.not_applied;
        issued = l.issued;
        names = l.names;
        file = l.file;
        covers = l.covers;
        update = l.update;
        later = l.later;
      })
    ]
  ]
    where
      new : (p : Part) (x : Seen p) → Open c (s ∷ A) v S h f p x g → In g s.made → OwnsUpdate (s ∷ A) f p
          ⊎ Leaving (s ∷ A) v S h f p g.number
      new (ByteAt q) x k n =
          let t = o.rules.gives.gives_under g q x n k.has in
          let was : Owns A t.0 = elim t.1 [
            | inl taken ↦ absurd (o.rules.takes_stay t.0 taken (inl (g, n, t.2)))
            | inr held ↦ o.alone.owns t.0 held
          ] in
          let i = o.link.held t.0 (o.seen.owned_at t.0 was ∙ (ap site (t.3.file ∙ k.file) ∙ home)) was in
          inr (record {
            give = g;
            token = t.0;
            mark = i.mark;
            made = inl n;
            same = k.file;
            not_applied = k.not_applied;
            issued = i.issued;
            names = t.2;
            file = t.3.file ∙ k.file;
            covers = t.3.covers;
            update = t.3.update;
            later = omega arith;
          })
      new Size x k n =
          elim (gave_size f x g n k.file k.has).0 [
            | inl u ↦ size_left f x g home u k
            | inr t ↦ inl (record {
              token = t.0;
              owned = stays t.0 t.1;
              file = t.2.file;
              covers = t.2.covers;
              update = t.2.update;
            })
          ]
      new Traits x k n = elim (c.gives_data g Traits x k.has) [ ]
      new Entries x k n = elim (c.gives_data g Entries x k.has) [ ]

      owned : (p : Part) (x : Seen p) → Open c (s ∷ A) v S h f p x g → Open c A v S h f p x g → OwnsUpdate A f p
          → OwnsUpdate (s ∷ A) f p ⊎ Leaving (s ∷ A) v S h f p g.number
      owned (ByteAt q) x k b u = absurd (o.shown.open_free q f x g home b u)
      owned Size x k b u = size_left f x g home u k
      owned Traits x k b u = elim (c.gives_data g Traits x k.has) [ ]
      owned Entries x k b u = elim (c.gives_data g Entries x k.has) [ ]

  -- one that was sent before asks for nothing of a file that may be unsaved after the step
  asked_on : (p : Part) (f : FetchOf) (k : Need) → site f.fid ≡ v → HasSaid A f → Asking A f.fid.fileset f.number
      → Asking (s ∷ A) f.fid.fileset f.number → In k f.needs → shows k.kind p ≡ true → Pending c (s ∷ A) f.fid p
      → (HasGoneAway S h → ⊥) → IsDirectory c D f.fid
  asked_on p f k home said was a m cov u up = go p cov u
    where
      go : (p : Part) → shows k.kind p ≡ true → Pending c (s ∷ A) f.fid p → IsDirectory c D f.fid
      go (ByteAt q) cov d =
          let wrote = is_some (c.wrote A s f.fid (ByteAt q)) in
          let r = and_parts (wrote || dirty c A f.fid q) (not (c.hands s f.fid q)) d in
          elim (or_cases wrote (dirty c A f.fid q) r.0) [
            | inl w ↦ (let x = some_value (c.wrote A s f.fid (ByteAt q)) w in
                absurd (o.rules.grown.writes_alone f.fid (ByteAt q) x.0 f.fid.fileset f.number x.1 a))
            | inr w ↦ o.shown.asked (ByteAt q) f k home said was m cov w up
          ]
      go Size cov u =
          elim u.owned.0 [
            | inl taken ↦
                absurd (o.rules.takes.takes_last u.token Size f.fid.fileset f.number taken u.covers a was)
            | inr old ↦ o.shown.asked Size f k home said was m cov
                (record { token = u.token; owned = old; file = u.file; covers = u.covers; update = u.update }) up
          ]
      go Traits cov d = elim d [ ]
      go Entries cov d = elim d [ ]

  -- what the host knows as a directory is one
  directory : (p : Part) (f : Fid) → site f ≡ v → OwnsUpdate (s ∷ A) f p → KnowsDirectory c A s f → IsDirectory c D f
  directory p f home u (inl root) =
      let good = o.link'.held u.token (o.seen'.owned_at u.token u.owned ∙ (ap site u.file ∙ home)) u.owned in
      let n = o.treed.there u.token (ap site u.file ∙ home) (good.owed (live_owner p f u)) in
      let here : kept c D f Traits ≡ Some n.0 = subst (λ j. kept c D j Traits ≡ Some n.0) u.file n.1 in
      (n.0, here, o.treed.roots f.fileset n.0 home (subst (λ j. kept c D j Traits ≡ Some n.0) root here))
  directory p f home u (inr k) = (k.0, known_kept f k.0 home k.1, k.2)

  pub asked' : (p : Part) (f : FetchOf) (k : Need) → site f.fid ≡ v → HasSaid (s ∷ A) f
      → Asking (s ∷ A) f.fid.fileset f.number → In k f.needs → shows k.kind p ≡ true → Pending c (s ∷ A) f.fid p
      → (HasGoneAway S h → ⊥) → IsDirectory c D f.fid
  asked' p f k home (w, e, n, inl q) a m cov u up =
      elim (o.rules.fetches f (w, e, n, q)) [
        | inl old ↦ asked_on p f k home old.0 old.1 a m cov u up
        | inr asks ↦ directory p f.fid home (pending_owned c (s ∷ A) o.seen' p f.fid u) (asks.free p k m cov u)
      ]
  asked' p f k home (w, e, n, inr q) a m cov u up =
      asked_on p f k home (w, e, n, q) (was_asking c A s o.rules f (w, e, n, q) a) a m cov u up

  -- one that was sent before asks for nothing of a file that is on its way after the step
  back_on : (p : Part) (f : FetchOf) (x : Seen p) (k : Need) (g : Give) → site f.fid ≡ v → HasSaid A f
      → Asking A f.fid.fileset f.number → Asking (s ∷ A) f.fid.fileset f.number → In k f.needs → shows k.kind p ≡ true
      → Open c (s ∷ A) v S h f.fid p x g → (HasGoneAway S h → ⊥) → IsDirectory c D f.fid
  back_on p f x k g home b was a m cov w up = elim (open_was p f.fid x g w) [
    | inl j ↦ new p x cov w j
    | inr j ↦ o.shown.asked_given p f x k g home b was m cov j up
  ]
    where
      new : (p : Part) (x : Seen p) → shows k.kind p ≡ true → Open c (s ∷ A) v S h f.fid p x g → In g s.made
          → IsDirectory c D f.fid
      new (ByteAt q) x cov w j = o.shown.asked (ByteAt q) f k home b was m cov
          (subst (λ i. dirty c A i q ≡ true) w.file (o.rules.gives.gives_dirty g q x j w.has)) up
      new Size x cov w j =
          elim (gave_size f.fid x g j w.file w.has).0 [
            | inl u ↦ o.shown.asked Size f k home b was m cov u up
            | inr t ↦ absurd (o.rules.takes.takes_last t.0 Size f.fid.fileset f.number t.1 t.2.covers a was)
          ]
      new Traits x cov w j = elim (c.gives_data g Traits x w.has) [ ]
      new Entries x cov w j = elim (c.gives_data g Entries x w.has) [ ]

  pub asked_given' : (p : Part) (f : FetchOf) (x : Seen p) (k : Need) (g : Give) → site f.fid ≡ v → HasSaid (s ∷ A) f
      → Asking (s ∷ A) f.fid.fileset f.number → In k f.needs → shows k.kind p ≡ true → Open c (s ∷ A) v S h f.fid p x g
      → (HasGoneAway S h → ⊥) → IsDirectory c D f.fid
  asked_given' p f x k g home (w, e, n, inl q) a m cov y up =
      elim (o.rules.fetches f (w, e, n, q)) [
        | inl old ↦ back_on p f x k g home old.0 old.1 a m cov y up
        | inr asks ↦ absurd (asks.back g y.made y.file
            (λ known. y.not_applied (o.link'.known (number_of g) (ap site y.file ∙ home) known)))
      ]
  asked_given' p f x k g home (w, e, n, inr q) a m cov y up =
      back_on p f x k g home (w, e, n, q) (was_asking c A s o.rules f (w, e, n, q) a) a m cov y up

  -- what the host sees under a token at hand is present
  pub hand_is : (p : Part) (t : Token) → site t.fid ≡ v → AtHand s A t → shows t.kind p ≡ true
      → sees c A s t.fid p ≡ present (cells t.fid p)
  hand_is p t home k cov = sees_in p t home (hand t k) cov (live_hand t k)
