-- In every run what is so at the parts of objects is kept, and the laws follow.
use Rattle.run_rules.specs.Doings.{Doing, HasGoneAway, IsApplied, SentTo, after_step, doings_of}
use Rattle.run_rules.specs.Doings.Doing.{BeginsEpoch}
use Rattle.run_rules.specs.Messages.{ComesIn, HasStopped}
use Rattle.run_rules.specs.Past.{EachInTurn, appended}
use Rattle.run_rules.specs.ServerTokens.{ServerStep}
use Rattle.run_rules.specs.Steps.{steps_of_host}
use Rattle.run_rules.specs.Tokens.{AtHand, Held, Owns, number_of}
use Rattle.run_tokens.specs.TokenLaws.{IsTokenRun, StepMay}
use Rattle.run_tokens.proofs.Words.{acts_after, own_after}
use Rattle.std.proofs.Common.{◌≡◌, ℕ, ◌==◌, ◌<◌, ◌≤◌, ◌⊎◌, true, false, Bool, if◌then◌else◌, Some, List, []}
use Rattle.std.proofs.Common.{◌∷◌, inl, inr, sym, ◌∙◌, ap, subst, refl, eqb-true}
use Rattle.base_types.specs.declared.ids.HostId.{HostId}
use Rattle.base_types.specs.declared.ids.ServerId.{ServerId}
use Rattle.base_types.specs.declared.ids.Fid.{Fid}
use Rattle.base_types.specs.declared.ids.Node.{Node}
use Rattle.base_types.specs.declared.ids.Node.TheVariants.{Host, Server}
use Rattle.token_types.specs.declared.token.Token.{Token}
use Rattle.message_types.specs.declared.message.Body.{Body}
use Rattle.message_types.specs.declared.giving.Give.{Give}
use Rattle.run_rules.specs.declared.step.Step.{Step}
use Rattle.run_tokens.proofs.Owed.{Owed}
use Rattle.run_tokens.proofs.Words.{made_at}
use Rattle.run_tokens.proofs.Invariant.{Alone, Link}
use Rattle.run_tokens.proofs.Law.{AtServer, Whole, always}
use Rattle.tree_laws.specs.Parts.{Part, Seen, Cell, present}
use Rattle.tree_laws.specs.Parts.Part.{ByteAt, Size, Traits}
use Rattle.need_host.specs.Shows.{shows}
use Rattle.run_parts.specs.Cells.{by, written}
use Rattle.run_parts.specs.Doings.{doings}
use Rattle.run_parts.specs.Deeds.{Deed, acts_in}
use Rattle.run_parts.specs.Contents.{AreAlike, Contents, HaveRoots, site, view, sees, OwnsUpdate, HostShows}
use Rattle.run_parts.specs.Contents.{ServerShows, IsWritable}
use Rattle.run_parts.specs.Legal.{Cells, cells_after, cells_served, first_deed, served, served_after, tree}
use Rattle.run_parts.specs.Legal.{tree_after, StepShows, ContentsRun, LegalDoings, LegalStep, Legal, SeesPresent}
use Rattle.run_parts.specs.Legal.{KeepsTree, IsOnItsWay, Unstored, LosesExactly, LiesInside}
use Rattle.run_parts.proofs.Words.{host_split, server_split}
use Rattle.run_parts.proofs.Cells.{by_same, value_is}
use Rattle.run_parts.proofs.Invariant.{Alike, Open, Shown, Treed, mine_writes}
use Rattle.run_parts.proofs.SeenStep.{seen_step}
use Rattle.run_parts.proofs.OwnStep.{Own, hand_is, foreign}
use Rattle.run_parts.proofs.OwnRest.{shown_own, treed_own}
use Rattle.run_parts.proofs.OtherStep.{shown_other}
use Rattle.run_parts.proofs.ActStep.{OneDoing, shown_act, treed_act, legal_act, kept_present}
use Rattle.run_tokens.specs.Unmoved.{MovesNone}
use Rattle.run_parts.proofs.Served.{Next, each_next, after_doings}

-- the token layer and the parts, at one server
pub record At (c : Contents) (own_of : HostId → List Step) (cells : Cells) (v : ServerId) (D : List Deed) : Type 0 where
  pub at : AtServer own_of v (acts_in D)
  pub shown : (h : HostId) → Shown c h (own_of h) cells v D
  pub treed : Treed c cells v D

-- what is so of some parts is so of equal ones
same_shown : (c : Contents) (h : HostId) (A : List Step) (v : ServerId) (D : List Deed) (old new : Cells)
    → ((f : Fid) (p : Part) → site f ≡ v → old f p ≡ new f p) → Shown c h A old v D → Shown c h A new v D
same_shown c h A v D old new same x = record {
  cached = λ p t home o cov live. x.cached p t home o cov live
      ∙ ap (λ (z : Cell (Seen p)). present z) (same t.fid p home);
  flight = λ e n p w t home sent now asking above m cov live. x.flight e n p w t home sent now asking above m cov live
      ∙ ap (λ (z : Cell (Seen p)). present z) (same w.bring.fid p home);
  mine = λ p f y home e. x.mine p f y home (ap (λ (z : Cell (Seen p)). z.unsaved) (same f p home) ∙ e);
  open_under = x.open_under;
  asked = x.asked;
  asked_given = x.asked_given;
  asked_for = x.asked_for;
  blind = x.blind;
  dirty_is = λ q f home d live. ap (λ (z : Cell ℕ). z.unsaved) (sym (same f (ByteAt q) home))
      ∙ x.dirty_is q f home d live;
  open_is = λ q f y g home o live. ap (λ (z : Cell ℕ). z.unsaved) (sym (same f (ByteAt q) home))
      ∙ x.open_is q f y g home o live;
  open_free = x.open_free;
  open_once = x.open_once;
  size_open = λ f y g home o live. subst (λ (z : Cell ℕ). (z.kept ≤ y)
      × (y ≤ present z)) (same f Size home) (x.size_open f y g home o live);
  open_order = x.open_order;
  since_le = x.since_le;
  settled = λ f g home u m made file has applied live. ap (λ (z : Cell ℕ). z.unsaved) (sym (same f Size home))
      ∙ x.settled f g home u m made file has applied live;
  open_below = λ q f y g home o live. elim (x.open_below q f y g home o live)
      [ inl lt ↦ inl (subst (λ (z : Cell ℕ). q < z.kept) (same f Size home) lt) | inr r ↦ inr r ];
}

same_treed : (c : Contents) (v : ServerId) (D : List Deed) (old new : Cells)
    → ((f : Fid) (p : Part) → site f ≡ v → old f p ≡ new f p) → Treed c old v D → Treed c new v D
same_treed c v D old new same x = record {
  kept_is = λ p f home. ap (λ (z : Cell (Seen p)). z.kept) (sym (same f p home)) ∙ x.kept_is p f home;
  plain = λ p f home free. ap (λ (z : Cell (Seen p)). z.unsaved) (sym (same f p home)) ∙ x.plain p f home free;
  alike = x.alike;
  roots = x.roots;
  there = x.there;
  writable = λ p f u home e. x.writable p f u home (ap (λ (z : Cell (Seen p)). z.unsaved) (same f p home) ∙ e);
  grown = λ f u home e. subst (λ y. y ≤ u.value) (ap (λ (z : Cell ℕ). z.kept) (same f Size home))
      (x.grown f u home (ap (λ (z : Cell ℕ). z.unsaved) (same f Size home) ∙ e));
  inside = λ q f u home e. subst (λ (z : Cell ℕ). q < present z) (same f Size home)
      (x.inside q f u home (ap (λ (z : Cell ℕ). z.unsaved) (same f (ByteAt q) home) ∙ e));
  apart = λ q f u w home e i two. subst (λ (z : Cell ℕ). q < z.kept) (same f Size home)
      (x.apart q f u w home (ap (λ (z : Cell ℕ). z.unsaved) (same f (ByteAt q) home) ∙ e)
      (ap (λ (z : Cell ℕ). z.unsaved) (same f Size home) ∙ i) two);
}

same_at : (c : Contents) (own_of : HostId → List Step) (v : ServerId) (D : List Deed) (old new : Cells)
    → ((f : Fid) (p : Part) → site f ≡ v → old f p ≡ new f p) → At c own_of old v D → At c own_of new v D
same_at c own_of v D old new same x =
    record {
      at = x.at;
      shown = λ h. same_shown c h (own_of h) v D old new same (x.shown h);
      treed = same_treed c v D old new same x.treed;
    }

-- a server's doings, one after the other
module _ (c : Contents) (own_of : HostId → List Step) (alone : (h : HostId) → Alone (own_of h)) (seen : (h : HostId)
    → Alike c (own_of h)) (v : ServerId) where
  serve : (more D : List Deed) (cells : Cells) → At c own_of cells v D → EachInTurn (Next own_of v) (acts_in more) (acts_in D)
      → EachInTurn (ServerShows c v) more D → At c own_of (cells_served more cells) v (appended more D)
      × LegalDoings c v more D cells
  serve [] D cells x may rules = (x, tt)
  serve (d ∷ more) D cells x may rules =
      let o : OneDoing c own_of cells v D d =
      record {
        at = x.at;
        alone = alone;
        seen = seen;
        shown = x.shown;
        treed = x.treed;
        may = may.0.may;
        rules = rules.0;
        heard = may.0.heard;
        next = may.0.next x.at;
      } in
      let next : At c own_of (cells_after d cells) v (d ∷ D) =
      record { at = o.next; shown = shown_act c own_of cells v D d o; treed = treed_act c own_of cells v D d o } in
      let rest = serve more (d ∷ D) (cells_after d cells) next may.1 rules.1 in
      (rest.0, (legal_act c own_of cells v D d o, kept_present c own_of cells v D d o, rest.1))

acts_after_deeds : (deeds D : List Deed) → acts_in (appended deeds D) ≡ appended (acts_in deeds) (acts_in D)
acts_after_deeds [] D = refl
acts_after_deeds (d ∷ deeds) D = acts_after_deeds deeds (d ∷ D)

-- a token is issued by the server of its file
owned_site : (own_of : HostId → List Step) (acts_of : ServerId → List Doing) → Whole own_of acts_of
    → (h : HostId) (t : Token) → Owns (own_of h) t → t.id.server ≡ site t.fid
owned_site own_of acts_of w h t k =
    let g = ((w.at t.id.server).link h).held t refl k in
    sym (made_at t.id.server (acts_of t.id.server) t.fid.fileset g.mark.moves (w.at t.id.server).served.put
    ((w.at t.id.server).served.at t g.mark g.issued))

module _ (c : Contents) (firsts : ServerId → ℕ) where
  abbrev deeds_at : List Step → ServerId → List Deed
  deeds_at past v = served c (firsts v) v past

  -- what is so after a run
  pub record Kept (past : List Step) : Type 0 where
    pub same : (v : ServerId) → acts_in (served c (firsts v) v past) ≡ doings_of (firsts v) v past
    pub whole : Whole (λ h. steps_of_host h past) (λ v. acts_in (served c (firsts v) v past))
    pub seen : (h : HostId) → Alike c (steps_of_host h past)
    pub at : (v : ServerId) → At c (λ h. steps_of_host h past) (tree c past) v (served c (firsts v) v past)

  -- a host's step, at one server
  module _ (past : List Step) (k : HostId) (s : Step) (old : Kept past)
      (next : Whole (λ h. own_after h (Host k) s (steps_of_host h past)) (λ v. acts_in (served c (firsts v) v past)))
      (may : StepMay firsts (Host k) past s) (rules : HostShows c (steps_of_host k past) s) where
    -- what is so of the host's own steps after it
    mine : (P : List Step → Type 0) → P (own_after k (Host k) s (steps_of_host k past)) → P (s ∷ steps_of_host k past)
    mine P x = subst P (host_split (λ L. L ≡ s ∷ steps_of_host k past) k k (s ∷ steps_of_host k past) (steps_of_host k past) (λ _. refl)
        (λ two. absurd (two refl))) x

    seen' : Alike c (s ∷ steps_of_host k past)
    seen' = seen_step c (steps_of_host k past) s rules (old.whole.alone k) may.0 (old.seen k)
        (mine (λ L. (t : Token) → Owns L t
        → t.id.server ≡ site t.fid) (owned_site (λ h. own_after h (Host k) s (steps_of_host h past))
        (λ v. acts_in (served c (firsts v) v past)) next k))

    came : (v : ServerId) (e n : ℕ) (b : Body) → ComesIn s v e n b
        → SentTo (acts_in (served c (firsts v) v past)) k e n b
    came v e n b (m, cause, at, epoch_is, moves, body) =
        subst (λ S. SentTo S k e n b) (sym (old.same v))
        (subst (λ (y : ServerId × ℕ × ℕ × Body). SentTo (doings_of (firsts y.0) y.0 past) k y.1 y.2 y.3)
        (λ i. (at i, epoch_is i, moves i, body i)) (may.1 m cause).2)

    its : (v : ServerId) → Own c k v (steps_of_host k past) s (tree c past) (served c (firsts v) v past)
    its v = record {
      served = (old.whole.at v).served;
      alone = old.whole.alone k;
      alone' = mine Alone (next.alone k);
      link = (old.whole.at v).link k;
      link' = mine (λ L. Link k v L (acts_in (served c (firsts v) v past))) ((next.at v).link k);
      seen = old.seen k;
      seen' = seen';
      shown = (old.at v).shown k;
      treed = (old.at v).treed;
      writes = λ p f u home e. mine_writes c u.writer (steps_of_host u.writer past) (tree c past) v (served c (firsts v) v past)
          (old.whole.at v).served ((old.whole.at v).link u.writer) (old.seen u.writer)
          ((old.at v).shown u.writer) p f u.value home e;
      may = may.0;
      rules = rules;
      came = came v;
    }

    abbrev new_cells : Cells
    new_cells f p = written k (c.wrote (steps_of_host k past) s f p) (tree c past f p)

    host_at : (v : ServerId) → At c (λ h. own_after h (Host k) s (steps_of_host h past)) new_cells v (served c (firsts v) v past)
    host_at v = record {
      at = next.at v;
      shown = λ h. host_split (λ L. Shown c h L new_cells v (served c (firsts v) v past)) k h (s ∷ steps_of_host h past)
          (steps_of_host h past)
          (λ e. subst (λ j. Shown c j (s ∷ steps_of_host j past) new_cells v (served c (firsts v) v past)) e
          (shown_own c k v (steps_of_host k past) s (tree c past) (served c (firsts v) v past) (its v)))
          (λ two. shown_other c h v (steps_of_host h past) k (λ f p. c.wrote (steps_of_host k past) s f p) (tree c past)
          (served c (firsts v) v past) (old.whole.at v).served ((old.whole.at v).link h) (old.seen h)
          ((old.at v).shown h) (λ q. two (sym q))
          (foreign c k v (steps_of_host k past) s (tree c past) (served c (firsts v) v past) (its v)));
      treed = treed_own c k v (steps_of_host k past) s (tree c past) (served c (firsts v) v past) (its v);
    }

    host_seen : (h : HostId) → Alike c (own_after h (Host k) s (steps_of_host h past))
    host_seen h = host_split (Alike c) k h (s ∷ steps_of_host h past) (steps_of_host h past)
        (λ e. subst (λ j. Alike c (s ∷ steps_of_host j past)) e seen') (λ _. old.seen h)

    host_legal : (t : Token) (p : Part) → AtHand s (steps_of_host k past) t → shows t.kind p ≡ true
        → sees c (steps_of_host k past) s t.fid p ≡ present (tree c past t.fid p)
    host_legal t p hand cov = hand_is c k (site t.fid) (steps_of_host k past) s (tree c past)
        (served c (firsts (site t.fid)) (site t.fid) past) (its (site t.fid)) p t refl hand cov

  -- what servers do in a step is what the step says
  same_step : (n : Node) (past : List Step) (s : Step) → Kept past → StepShows c firsts n past s → (v : ServerId)
      → acts_in (served_after c v n s past (served c (firsts v) v past)) ≡ acts_after v n s (doings_of (firsts v) v past)
  same_step (Host k) past s old rules v = old.same v
  same_step (Server k) past s old rules v = go (k.0 == v.0) refl
    where
      go : (b : Bool) → (k.0 == v.0) ≡ b
          → acts_in (if b then appended (c.deeds past s) (served c (firsts v) v past) else served c (firsts v) v past) ≡
          (if b then after_step s (doings_of (firsts v) v past) else doings_of (firsts v) v past)
      go false e = old.same v
      go true e =
          let one : k ≡ v = ap (λ (n : ℕ). record { 0 = n }) (eqb-true k.0 v.0 e) in
          let deeds : acts_in (c.deeds past s) ≡ doings s (acts_in (served c (firsts v) v past)) =
          subst (λ w. acts_in (c.deeds past s) ≡ doings s (acts_in (served c (firsts w) w past))) one rules.0 in
          acts_after_deeds (c.deeds past s) (served c (firsts v) v past)
          ∙ (ap (λ l. appended l (acts_in (served c (firsts v) v past))) deeds
          ∙ (after_doings s (acts_in (served c (firsts v) v past)) ∙ ap (λ S. after_step s S) (old.same v)))

  abbrev After : Node → List Step → Step → Type 0
  After n past s =
      ((h : HostId) → Alike c (own_after h n s (steps_of_host h past)))
      × ((v : ServerId) → At c (λ h. own_after h n s (steps_of_host h past)) (tree_after c n s past (tree c past)) v
      (served_after c v n s past (served c (firsts v) v past)))
      × LegalStep c firsts n s past

  step : (n : Node) (past : List Step) (s : Step) → Kept past
      → Whole (λ h. own_after h n s (steps_of_host h past))
      (λ v. acts_in (served_after c v n s past (served c (firsts v) v past))) → StepMay firsts n past s → MovesNone s
      → StepShows c firsts n past s → After n past s
  step (Host k) past s old next may none rules = (
    host_seen past k s old next may rules,
    host_at past k s old next may rules,
    host_legal past k s old next may rules,
  )
  step (Server k) past s old next may none rules = (old.seen, at', x.1)
    where
      each : EachInTurn (Next (λ h. steps_of_host h past) k) (acts_in (c.deeds past s)) (acts_in (served c (firsts k) k past))
      each = subst (λ l. EachInTurn (Next (λ h. steps_of_host h past) k) l (acts_in (served c (firsts k) k past))) (sym rules.0)
          (each_next (λ h. steps_of_host h past) old.whole.alone k s (acts_in (served c (firsts k) k past)) none
          (subst (λ S. ServerStep k S s) (sym (old.same k)) may.0) (λ m e. (may.1 m e).2))

      x : At c (λ h. steps_of_host h past) (cells_served (c.deeds past s) (tree c past)) k
          (appended (c.deeds past s) (served c (firsts k) k past))
          × LegalDoings c k (c.deeds past s) (served c (firsts k) k past) (tree c past)
      x = serve c (λ h. steps_of_host h past) old.whole.alone old.seen k (c.deeds past s) (served c (firsts k) k past)
          (tree c past) (old.at k) each rules.1

      -- the parts at this server, at another
      at_home : (f : Fid) (p : Part) → site f ≡ k
          → cells_served (c.deeds past s) (tree c past) f p ≡ tree_after c (Server k) s past (tree c past) f p
      at_home f p e = server_split (λ z. cells_served (c.deeds past s) (tree c past) f p ≡ z) k (site f)
          (cells_served (c.deeds past s) (tree c past) f p) (tree c past f p) (λ _. refl) (λ two. absurd (two (sym e)))

      elsewhere : (v : ServerId) → (k ≡ v → ⊥) → (f : Fid) (p : Part) → site f ≡ v
          → tree c past f p ≡ tree_after c (Server k) s past (tree c past) f p
      elsewhere v two f p e = server_split (λ z. tree c past f p ≡ z) k (site f)
          (cells_served (c.deeds past s) (tree c past) f p) (tree c past f p) (λ one. absurd (two (one ∙ e)))
          (λ _. refl)

      home : At c (λ h. steps_of_host h past) (tree_after c (Server k) s past (tree c past)) k
          (appended (c.deeds past s) (served c (firsts k) k past))
      home = same_at c (λ h. steps_of_host h past) k (appended (c.deeds past s) (served c (firsts k) k past))
          (cells_served (c.deeds past s) (tree c past)) (tree_after c (Server k) s past (tree c past)) at_home x.0

      at' : (v : ServerId) → At c (λ h. steps_of_host h past) (tree_after c (Server k) s past (tree c past)) v
          (served_after c v (Server k) s past (served c (firsts v) v past))
      at' v = server_split (λ l. At c (λ h. steps_of_host h past) (tree_after c (Server k) s past (tree c past)) v l) k v
          (appended (c.deeds past s) (served c (firsts v) v past)) (served c (firsts v) v past)
          (λ e. subst (λ w. At c (λ h. steps_of_host h past) (tree_after c (Server k) s past (tree c past)) w
          (appended (c.deeds past s) (served c (firsts w) w past))) e home)
          (λ two. same_at c (λ h. steps_of_host h past) v (served c (firsts v) v past) (tree c past)
          (tree_after c (Server k) s past (tree c past)) (elsewhere v two) (old.at v))

  -- at the start
  begins_sends : (n : ℕ) (h : HostId) (e k : ℕ) (b : Body) → SentTo (BeginsEpoch n ∷ []) h e k b → ⊥
  begins_sends n h e k b (inl q) = cc
  begins_sends n h e k b (inr q) = q

  begins_owes : (v : ServerId) (n : ℕ) (t : Token) → Owed v (BeginsEpoch n ∷ []) t → ⊥
  begins_owes v n t (inl (k, (h, e, w, b, m, q))) = elim b [ inl x ↦ (let z = x.1 in cc) | inr x ↦ (let z = x.1 in cc) ]
  begins_owes v n t (inr q) = q.0

  at_first : (v : ServerId) → AtServer (λ h. []) v (BeginsEpoch (firsts v) ∷ []) → AreAlike c v [] × HaveRoots c v []
      → At c (λ h. []) (tree c []) v (first_deed (firsts v) ∷ [])
  at_first v at facts = record {
    at = at;
    shown = λ h. record {
      cached = λ p t home o. elim o [ ];
      flight = λ e n p w t home x. absurd (begins_sends (firsts v) h e n _ x);
      mine = λ p f x home e. absurd (cc);
      open_under = λ p f x g home o. elim o.made [ ];
      asked = λ p f k home said. elim said.3 [ ];
      asked_given = λ p f x k g home said. elim said.3 [ ];
      asked_for = λ e n w x. absurd (begins_sends (firsts v) h e n _ x);
      blind = λ e n p w t x. absurd (begins_sends (firsts v) h e n _ x);
      dirty_is = λ q f home e. absurd (cc);
      open_is = λ q f x g home o. elim o.made [ ];
      open_free = λ q f x g home o. elim o.made [ ];
      open_once = λ q f x y g k home o. elim o.made [ ];
      size_open = λ f x g home o. elim o.made [ ];
      open_order = λ f x y g k home o. elim o.made [ ];
      since_le = λ f x g home u m. elim m [ ];
      settled = λ f g home u m. elim m [ ];
      open_below = λ q f x g home o. elim o.made [ ];
    };
    treed = record {
      kept_is = λ p f home. refl;
      plain = λ p f home free. refl;
      alike = facts.0;
      roots = facts.1;
      there = λ t home o. absurd (begins_owes v (firsts v) t o);
      writable = λ p f u home e. absurd (cc);
      grown = λ f u home e. absurd (cc);
      inside = λ q f u home e. absurd (cc);
      apart = λ q f u w home e. absurd (cc);
    };
  }

  pub coherent : (past : List Step) → IsTokenRun firsts past → ContentsRun c firsts past → Kept past
      × Legal c firsts past
  coherent [] run rules =
      let w = always firsts [] run in (
        record {
          same = λ v. refl;
          whole = w;
          seen = λ h. record {
            dirty_owned = λ q f e. absurd (cc);
            owned_at = λ t k. elim k [ ];
            bye_given = λ v g p x e. elim e.2 [ ];
          };
          at = λ v. at_first v (w.at v) (rules v);
        },
        tt,
      )
  coherent (s ∷ past) run rules =
      let old = coherent past run.0 rules.0 in
      let same = same_step s.node past s old.0 rules.1 in
      let w = always firsts (s ∷ past) run in
      let whole : Whole (λ h. own_after h s.node s (steps_of_host h past))
      (λ v. acts_in (served_after c v s.node s past (served c (firsts v) v past))) = record {
        alone = w.alone;
        at = λ v. subst (AtServer (λ h. own_after h s.node s (steps_of_host h past)) v) (sym (same v)) (w.at v);
      } in
      let x = step s.node past s old.0 whole run.1 run.3 rules.1 in
      (record { same = same; whole = whole; seen = x.0; at = x.1 }, (old.1, x.2))

  module _ (past : List Step) (run : IsTokenRun firsts past) (rules : ContentsRun c firsts past) where
    kept_now : Kept past
    kept_now = (coherent past run rules).0

    pub legal : Legal c firsts past
    legal = (coherent past run rules).1

    at : (f : Fid) (h : HostId) → Shown c h (steps_of_host h past) (tree c past) (site f)
        (served c (firsts (site f)) (site f) past)
    at f h = (kept_now.at (site f)).shown h

    -- a host that hasn't stopped and holds a token hasn't gone away
    here : (v : ServerId) (h : HostId) (t : Token) → (HasStopped (steps_of_host h past) → ⊥) → Held (steps_of_host h past) t
        → HasGoneAway (acts_in (served c (firsts v) v past)) h → ⊥
    here v h t up held away = elim (((kept_now.whole.at v).link h).away away) [
      | inl d ↦ up d
      | inr b ↦ (kept_now.whole.alone h).bye_held t v b ((kept_now.whole.alone h).owns t held)
    ]

    pub sees_present : SeesPresent c past
    sees_present h p t up held cov =
        (at t.fid h).cached p t refl ((kept_now.whole.alone h).owns t held) cov (here (site t.fid) h t up held)

    pub keeps_tree : KeepsTree c firsts past
    keeps_tree f p = (kept_now.at (site f)).treed.kept_is p f refl

    pub lies_inside : LiesInside c firsts past
    lies_inside = record {
      below = λ f q u e. (kept_now.at (site f)).treed.inside q f u refl e;
      writable = λ f p u e. subst IsWritable (sym (keeps_tree f Traits))
          ((kept_now.at (site f)).treed.writable p f u refl e);
    }

    -- in the words of the journal's doings
    gone : (f : Fid) (h : HostId) → HasGoneAway (acts_in (served c (firsts (site f)) (site f) past)) h
        → HasGoneAway (doings_of (firsts (site f)) (site f) past) h
    gone f h w = subst (λ S. HasGoneAway S h) (kept_now.same (site f)) w

    way : (h : HostId) (p : Part) (f : Fid) (x : Seen p) (g : Give)
        → Open c (steps_of_host h past) (site f) (acts_in (served c (firsts (site f)) (site f) past)) h f p x g
        → IsOnItsWay c firsts past h f p x
    way h p f x g o = (
      g,
      o.made,
      o.file,
      o.has,
      λ r. o.not_applied (subst (λ S. IsApplied (site f) S h (number_of g)) (sym (kept_now.same (site f))) r),
    )

    back : (h : HostId) (p : Part) (f : Fid) (x : Seen p) (y : IsOnItsWay c firsts past h f p x)
        → Open c (steps_of_host h past) (site f) (acts_in (served c (firsts (site f)) (site f) past)) h f p x y.0
    back h p f x y = record {
      made = y.1;
      file = y.2;
      has = y.3;
      not_applied = λ r. y.4 (subst (λ S. IsApplied (site f) S h (number_of y.0)) (kept_now.same (site f)) r);
    }

    pub loses_exactly : LosesExactly c firsts past
    loses_exactly = record {
      all = all';
      only = only';
      sizes = sizes';
      away = λ h p x f e w. ((at f h).mine p f x refl e).0 (subst (λ S. HasGoneAway S h) (sym (kept_now.same (site f))) w);
    }
      where
        all' : (h : HostId) (q x : ℕ) (f : Fid) → (tree c past f (ByteAt q)).unsaved ≡ Some (by h x)
            → Unstored c firsts past h f q x
        all' h q x f e =
            let m = (at f h).mine (ByteAt q) f x refl e in
            elim m.1 [
              | inl d ↦ inl (
                d,
                (by_same h h (view c (steps_of_host h past) f (ByteAt q)) x
                    (sym ((at f h).dirty_is q f refl d m.0) ∙ e)).1,
              )
              | inr o ↦ inr (way h (ByteAt q) f x o.0 o.1)
            ]

        only' : (h : HostId) (q x : ℕ) (f : Fid) → (HasGoneAway (doings_of (firsts (site f)) (site f) past) h → ⊥)
            → Unstored c firsts past h f q x → (tree c past f (ByteAt q)).unsaved ≡ Some (by h x)
        only' h q x f live (inl d) = (at f h).dirty_is q f refl d.0 (λ w. live (gone f h w))
            ∙ ap (λ z. Some (by h z)) d.1
        only' h q x f live (inr o) = (at f h).open_is q f x o.0 refl (back h (ByteAt q) f x o) (λ w. live (gone f h w))

        sizes' : (h : HostId) (x : ℕ) (f : Fid) → (tree c past f Size).unsaved ≡ Some (by h x)
            → (OwnsUpdate (steps_of_host h past) f Size × (view c (steps_of_host h past) f Size ≡ x)) ⊎ IsOnItsWay c firsts past h f Size x
        sizes' h x f e =
            let m = (at f h).mine Size f x refl e in
            elim m.1 [
              | inl u ↦ inl (
                u,
                subst (λ j. view c (steps_of_host h past) j Size ≡ present (tree c past j Size)) u.file
                    ((at u.token.fid h).cached Size u.token refl u.owned u.covers
                    (λ w. m.0 (subst (λ j. HasGoneAway (acts_in (served c (firsts (site j)) (site j) past)) h) u.file w)))
                    ∙ value_is (tree c past f Size).unsaved (tree c past f Size).kept (by h x) e,
              )
              | inr o ↦ inr (way h Size f x o.0 o.1)
            ]
