-- How the tables of servers, floors, requests, filesets and the call stand once a message is heard.
use Rattle.base_types.specs.declared.ids.Fid.{Fid}
use Rattle.base_types.specs.declared.ids.FilesetId.{FilesetId}
use Rattle.base_types.specs.declared.ids.HostId.{HostId}
use Rattle.base_types.specs.declared.ids.ServerId.{ServerId}
use Rattle.host_tables.proofs.Lists.{by_test, or_left, or_right, true_false}
use Rattle.host_tables.specs.Half.{learning}
use Rattle.host_tables.specs.Hearing.{ChangesSite, RenewsFloors, hears, saying}
use Rattle.host_tables.specs.Stands.{CallStands, FloorsStand, HomesStand, RequestStands, SiteStands, SitesStand}
use Rattle.host_tables.specs.Tables.{floor_of, site_at}
use Rattle.host_tables.specs.declared.calls.Home.{Home}
use Rattle.host_tables.specs.declared.calls.Request.{Request}
use Rattle.host_tables.specs.declared.calls.Request.TheVariants.{Change as AChange, Fetch as AFetch}
use Rattle.host_tables.specs.declared.files.Floor.{Floor}
use Rattle.host_tables.specs.declared.sites.Site.{Site}
use Rattle.message_types.specs.declared.asking.Change.{Change as ChangeOf}
use Rattle.message_types.specs.declared.asking.Fetch.{Fetch as FetchOf}
use Rattle.message_types.specs.declared.giving.Reclaimed.{Reclaimed as ReclaimedOf}
use Rattle.message_types.specs.declared.message.Body.{Body}
use Rattle.message_types.specs.declared.message.Body.TheVariants.{Bye, Done, Grant, Hello, Reclaimed, Restarted}
use Rattle.message_types.specs.declared.message.Body.TheVariants.{Revoke}
use Rattle.message_types.specs.declared.message.Message.{Message}
use Rattle.message_types.specs.declared.telling.Bring.{Bring}
use Rattle.message_types.specs.declared.telling.Done.{Done as DoneOf}
use Rattle.message_types.specs.declared.telling.Grant.{Grant as GrantOf}
use Rattle.message_types.specs.declared.tokens.Revoke.{Revoke as RevokeOf}
use Rattle.run_rules.specs.Messages.{About, Asking, Changing, Comes, ComesIn, DoneComes, HasSaid, RaisesEpoch, Renews}
use Rattle.run_rules.specs.Messages.{Said, epoch_at, epoch_raised_by, home}
use Rattle.run_rules.specs.Tokens.{AboveFloor, AnswersRequest, CauseEnds, GiveOpen}
use Rattle.run_rules.specs.Views.{Enters}
use Rattle.run_rules.specs.declared.step.Asked.{Asked}
use Rattle.run_rules.specs.declared.step.Cause.{Cause}
use Rattle.run_rules.specs.declared.step.Step.{Step}
use Rattle.std.proofs.Common.{Bool, List, None, Option, Some, [], ap, arith, eqb-true, false, if◌then◌else◌, inl, inr}
use Rattle.std.proofs.Common.{refl, subst, sym, true, ℕ, ◌<◌, ◌==◌, ◌||◌, ◌∙◌, ◌∷◌, ◌≡◌, ◌⊎◌}
use Rattle.std.proofs.lemmas.Bool.{eq-eqb, or_cases}

if_true : {A : Type 0} (b : Bool) (x y : A) → b ≡ true → (if b then x else y) ≡ x
if_true b x y e = rw e refl

if_false : {A : Type 0} (b : Bool) (x y : A) → b ≡ false → (if b then x else y) ≡ y
if_false b x y e = rw e refl

-- servers, one or two
pub server_is : (v w : ServerId) → (v.0 == w.0) ≡ true → v ≡ w
server_is v w e = let p = eqb-true v.0 w.0 e in λ i. record { 0 = p i }

pub server_cases : (v w : ServerId) → (v ≡ w) ⊎ (v ≡ w → ⊥)
server_cases v w = elim (by_test (v.0 == w.0)) [
  | inl e ↦ inl (server_is v w e)
  | inr n ↦ inr (λ e. true_false (v.0 == w.0) (eq-eqb v.0 w.0 (ap (λ (x : ServerId). x.0) e)) n)
]

pub servers_differ : (v w : ServerId) → (v ≡ w → ⊥) → (v.0 == w.0) ≡ false
servers_differ v w other = elim (by_test (v.0 == w.0)) [ inl e ↦ absurd (other (server_is v w e)) | inr n ↦ n ]

-- what is of one server leaves the epochs of others
epoch_other : (b : Body) (told now : ℕ) → epoch_raised_by b false told now ≡ now
epoch_other Restarted told now = refl
epoch_other (Reclaimed a) told now = refl
epoch_other _ told now = refl

module _ (host : HostId) (server : ServerId) (epoch moves : ℕ) (body : Body) (past : List Step) where
  abbrev s : Step
  s = hears host server epoch moves body

  pub comes_of : (v : ServerId) (e n : ℕ) (b : Body) → ComesIn s v e n b
      → (server ≡ v) × (epoch ≡ e) × (moves ≡ n) × (body ≡ b)
  comes_of v e n b c =
      let p = c.1 in
      let q : saying host server epoch moves body ≡ c.0 = cc in (
        ap (λ (x : Message). x.server) q ∙ c.2,
        ap (λ (x : Message). x.epoch) q ∙ c.3,
        ap (λ (x : Message). x.moves) q ∙ c.4,
        ap (λ (x : Message). x.body) q ∙ c.5,
      )

  said_before : (v : ServerId) (b : Body) → HasSaid (s ∷ past) v b → HasSaid past v b
  said_before v b (e, n, inl p) = elim p.1 [ ]
  said_before v b (e, n, inr p) = (e, n, p)

  said_after : (v : ServerId) (b : Body) → HasSaid past v b → HasSaid (s ∷ past) v b
  said_after v b (e, n, p) = (e, n, inr p)

  pub epoch_elsewhere : (w : ServerId) → (w ≡ server → ⊥) → epoch_at (s ∷ past) w ≡ epoch_at past w
  epoch_elsewhere w other =
      ap (λ (mine : Bool). epoch_raised_by body mine epoch (epoch_at past w))
      (servers_differ server w (λ e. other (sym e))) ∙ epoch_other body epoch (epoch_at past w)

  -- a server of which nothing is heard
  elsewhere : (v : ServerId) → (v ≡ server → ⊥) → (site : Site) → SiteStands site v past → SiteStands site v (s ∷ past)
  elsewhere v other site x = record {
    epoch = x.epoch ∙ sym (epoch_elsewhere v other);
    greeted = ((λ e. said_after v Hello (x.greeted.0 e)), λ g. x.greeted.1 (said_before v Hello g));
    welcome = (
      (λ e. inr (x.welcome.0 e)),
      λ w. x.welcome.1 (elim w [
        | inl y ↦ absurd (other (sym (comes_of v (epoch_at (s ∷ past) v) 0 (Reclaimed y.1.0) y.1.1).0))
        | inr y ↦ y
      ]),
    );
    claimed = (
      (λ e. (
        inr (x.claimed.0 e, λ r. let p = epoch_elsewhere v other in omega (arith, p, r)),
        λ a c. other (sym (comes_of v (epoch_at past v) 0 (Reclaimed a) c).0),
      )),
      λ c. x.claimed.1 (elim c.0 [ inl y ↦ elim y.3.1 [ ] | inr y ↦ y.0 ]),
    );
    said_bye = ((λ e. said_after v Bye (x.said_bye.0 e)), λ g. x.said_bye.1 (said_before v Bye g));
    has_bye = (
      (λ e. inr (x.has_bye.0 e)),
      λ w. x.has_bye.1 (elim w [ inl y ↦ absurd (other (sym (comes_of v y.0 y.1 Bye y.2).0)) | inr y ↦ y ]),
    );
  }

  pub sites_heard : (old new : List Site) (site : Site) → SitesStand old past → ChangesSite old new server site
      → SiteStands site server (s ∷ past) → SitesStand new (s ∷ past)
  sites_heard old new site stands changes here v = elim (server_cases v server) [
    | inl e ↦ subst (λ (w : ServerId). SiteStands (site_at new w) w (s ∷ past)) (sym e)
        (subst (λ (x : Site). SiteStands x server (s ∷ past)) (sym changes.here) here)
    | inr other ↦ subst (λ (x : Site). SiteStands x v (s ∷ past)) (sym (changes.others v other))
        (elsewhere v other (site_at old v) (stands v))
  ]

  -- the server itself, where its Bye came
  pub site_parted : (site : Site) → body ≡ Bye → SiteStands site server past
      → SiteStands (record site { has_bye = true }) server (s ∷ past)
  site_parted site is x = record {
    epoch = x.epoch ∙ sym same;
    greeted = ((λ e. said_after server Hello (x.greeted.0 e)), λ g. x.greeted.1 (said_before server Hello g));
    welcome = (
      (λ e. inr (x.welcome.0 e)),
      λ w. x.welcome.1 (elim w [
        | inl y ↦ absurd (let p = sym is ∙ (comes_of server (epoch_at (s ∷ past) server) 0 (Reclaimed y.1.0) y.1.1).3 in
            cc)
        | inr y ↦ y
      ]),
    );
    claimed = (
      (λ e. (
        inr (x.claimed.0 e, λ r. let p = same in omega (arith, p, r)),
        λ a c. let p = sym is ∙ (comes_of server (epoch_at past server) 0 (Reclaimed a) c).3 in absurd (cc),
      )),
      λ c. x.claimed.1 (elim c.0 [ inl y ↦ elim y.3.1 [ ] | inr y ↦ y.0 ]),
    );
    said_bye = ((λ e. said_after server Bye (x.said_bye.0 e)), λ g. x.said_bye.1 (said_before server Bye g));
    has_bye = ((λ e. inl (epoch, moves, (saying host server epoch moves body, refl, refl, refl, refl, is))), λ w. refl);
  }
    where
      same : epoch_at (s ∷ past) server ≡ epoch_at past server
      same = ap (λ (b : Body). epoch_raised_by b (server.0 == server.0) epoch (epoch_at past server)) is

  -- nothing is heard of any server
  pub site_same : (site : Site) → SiteStands site server past → epoch_at (s ∷ past) server ≡ epoch_at past server
      → ((a : ReclaimedOf) → body ≡ Reclaimed a → ⊥) → (body ≡ Bye → ⊥) → SiteStands site server (s ∷ past)
  site_same site x same no_answer no_bye = record {
    epoch = x.epoch ∙ sym same;
    greeted = ((λ e. said_after server Hello (x.greeted.0 e)), λ g. x.greeted.1 (said_before server Hello g));
    welcome = (
      (λ e. inr (x.welcome.0 e)),
      λ w. x.welcome.1 (elim w [
        | inl y ↦ absurd (no_answer y.1.0 (comes_of server (epoch_at (s ∷ past) server) 0 (Reclaimed y.1.0) y.1.1).3)
        | inr y ↦ y
      ]),
    );
    claimed = (
      (λ e. (
        inr (x.claimed.0 e, λ r. let p = same in omega (arith, p, r)),
        λ a c. no_answer a (comes_of server (epoch_at past server) 0 (Reclaimed a) c).3,
      )),
      λ c. x.claimed.1 (elim c.0 [ inl y ↦ elim y.3.1 [ ] | inr y ↦ y.0 ]),
    );
    said_bye = ((λ e. said_after server Bye (x.said_bye.0 e)), λ g. x.said_bye.1 (said_before server Bye g));
    has_bye = (
      (λ e. inr (x.has_bye.0 e)),
      λ w. x.has_bye.1 (elim w [ inl y ↦ absurd (no_bye (comes_of server y.0 y.1 Bye y.2).3) | inr y ↦ y ]),
    );
  }

  pub sites_same : (sites : List Site) → SitesStand sites past → epoch_at (s ∷ past) server ≡ epoch_at past server
      → ((a : ReclaimedOf) → body ≡ Reclaimed a → ⊥) → (body ≡ Bye → ⊥) → SitesStand sites (s ∷ past)
  sites_same sites stands same no_answer no_bye =
      sites_heard sites sites (site_at sites server) stands (record { here = refl; others = λ w other. refl })
      (site_same (site_at sites server) (stands server) same no_answer no_bye)

  -- the epoch rises, and a claim of an older one waits no more
  pub site_renewed : (site : Site) → SiteStands site server past → epoch_at past server < epoch
      → epoch_at (s ∷ past) server ≡ epoch → ((a : ReclaimedOf) → body ≡ Reclaimed a → ⊥) → (body ≡ Bye → ⊥)
      → SiteStands (record site { epoch = epoch; claimed = false }) server (s ∷ past)
  site_renewed site x up now no_answer no_bye = record {
    epoch = sym now;
    greeted = ((λ e. said_after server Hello (x.greeted.0 e)), λ g. x.greeted.1 (said_before server Hello g));
    welcome = (
      (λ e. inr (x.welcome.0 e)),
      λ w. x.welcome.1 (elim w [
        | inl y ↦ absurd (no_answer y.1.0 (comes_of server (epoch_at (s ∷ past) server) 0 (Reclaimed y.1.0) y.1.1).3)
        | inr y ↦ y
      ]),
    );
    claimed = (
      (λ e. absurd (cc)),
      λ c. absurd (elim c.0 [ inl y ↦ elim y.3.1 [ ] | inr y ↦ y.1 (let p = now in omega (arith, p, up)) ]),
    );
    said_bye = ((λ e. said_after server Bye (x.said_bye.0 e)), λ g. x.said_bye.1 (said_before server Bye g));
    has_bye = (
      (λ e. inr (x.has_bye.0 e)),
      λ w. x.has_bye.1 (elim w [ inl y ↦ absurd (no_bye (comes_of server y.0 y.1 Bye y.2).3) | inr y ↦ y ]),
    );
  }

  -- the server hears the host: it is welcome where it has greeted, and no claim waits
  pub site_hearing : (site : Site) (a : ReclaimedOf) → SiteStands site server past → body ≡ Reclaimed a → moves ≡ 0
      → epoch_at (s ∷ past) server ≡ epoch → (epoch_at past server < epoch) ⊎ (epoch_at past server ≡ epoch)
      → SiteStands (record site { epoch = epoch; welcome = site.welcome || site.greeted; claimed = false }) server
      (s ∷ past)
  site_hearing site a x is no_moves now up = record {
    epoch = sym now;
    greeted = ((λ e. said_after server Hello (x.greeted.0 e)), λ g. x.greeted.1 (said_before server Hello g));
    welcome = (
      (λ e. elim (or_cases site.welcome site.greeted e) [
        | inl w ↦ inr (x.welcome.0 w)
        | inr g ↦ inl (x.greeted.0 g, (a, (saying host server epoch moves body, refl, refl, sym now, no_moves, is)))
      ]),
      λ w. elim w [
        | inl y ↦ or_right site.welcome site.greeted (x.greeted.1 y.0)
        | inr y ↦ or_left site.welcome site.greeted (x.welcome.1 y)
      ],
    );
    claimed = (
      (λ e. absurd (cc)),
      λ c. absurd (elim up [
        | inl l ↦ elim c.0 [ inl y ↦ elim y.3.1 [ ] | inr y ↦ y.1 (let p = now in omega (arith, p, l)) ]
        | inr same ↦ c.1 a (saying host server epoch moves body, refl, refl, sym same, no_moves, is)
      ]),
    );
    said_bye = ((λ e. said_after server Bye (x.said_bye.0 e)), λ g. x.said_bye.1 (said_before server Bye g));
    has_bye = (
      (λ e. inr (x.has_bye.0 e)),
      λ w. x.has_bye.1 (elim w [
        | inl y ↦ absurd (let p = sym is ∙ (comes_of server y.0 y.1 Bye y.2).3 in cc)
        | inr y ↦ y
      ]),
    );
  }

-- what is heard, whatever it is
module _ (host : HostId) (cause : Cause) (past : List Step) where
  abbrev h : Step
  h = learning host cause []

  said_then : (v : ServerId) (e n : ℕ) (b : Body) → Said (h ∷ past) v e n b → Said past v e n b
  said_then v e n b (inl p) = elim p.1 [ ]
  said_then v e n b (inr p) = p

  -- floors
  pub floors_same : ((fs : FilesetId) → Renews past h fs → ⊥)
      → ((fs : FilesetId) (r : RevokeOf) → About past h fs (Revoke r) → ⊥)
      → ((w : Bring) → AnswersRequest past h w → AboveFloor past w.fid w.stamp → (GiveOpen past w.fid → ⊥) → ⊥)
      → (floors : List Floor) → FloorsStand floors past → FloorsStand floors (h ∷ past)
  floors_same no_renew none_revoked none_used floors stands = record {
    above = λ fid x a. inr (
      stands.above fid x a,
      (λ r c _. absurd (none_revoked fid.fileset r c)),
      λ w u up free _. absurd (none_used w u up free),
    );
    floor = λ fid x a. stands.floor fid x (elim a [ inl r ↦ absurd (no_renew fid.fileset r.0) | inr b ↦ b.0 ]);
  }

  pub floors_renewed : (server : ServerId) → RaisesEpoch past h server
      → ((v : ServerId) → (v ≡ server → ⊥) → RaisesEpoch past h v → ⊥)
      → ((fs : FilesetId) (r : RevokeOf) → About past h fs (Revoke r) → ⊥)
      → ((w : Bring) → AnswersRequest past h w → ⊥)
      → (old new : List Floor) → RenewsFloors old new server → FloorsStand old past → FloorsStand new (h ∷ past)
  floors_renewed server up others none_revoked none_used old new renews stands = record { above = above; floor = floor }
    where
      at : (fid : Fid) → ((home fid.fileset ≡ server) × (floor_of new fid ≡ 0))
          ⊎ ((home fid.fileset ≡ server → ⊥) × (floor_of new fid ≡ floor_of old fid))
      at fid = elim (by_test ((home fid.fileset).0 == server.0)) [
        | inl e ↦ inl (
          server_is (home fid.fileset) server e,
          renews fid ∙ if_true ((home fid.fileset).0 == server.0) 0 (floor_of old fid) e,
        )
        | inr n ↦ inr (
          (λ e. true_false ((home fid.fileset).0 == server.0)
              (eq-eqb (home fid.fileset).0 server.0 (ap (λ (x : ServerId). x.0) e)) n),
          renews fid ∙ if_false ((home fid.fileset).0 == server.0) 0 (floor_of old fid) n,
        )
      ]

      above : (fid : Fid) (stamp : ℕ) → floor_of new fid < stamp → AboveFloor (h ∷ past) fid stamp
      above fid x a = elim (at fid) [
        | inl y ↦ (let e = y.1 in inl (inl (subst (RaisesEpoch past h) (sym y.0) up), omega (arith, e, a)))
        | inr n ↦ (let e = n.1 in inr (
          stands.above fid x (omega (arith, e, a)),
          (λ r c _. absurd (none_revoked fid.fileset r c)),
          λ w u _ _ _. absurd (none_used w u),
        ))
      ]

      floor : (fid : Fid) (stamp : ℕ) → AboveFloor (h ∷ past) fid stamp → floor_of new fid < stamp
      floor fid x a = elim (at fid) [
        | inl y ↦ (let e = y.1 in elim a [
          | inl r ↦ (let l = r.1 in omega (arith, e, l))
          | inr b ↦ (let l = stands.floor fid x b.0 in omega (arith, e, l))
        ])
        | inr n ↦ (let e = n.1 in elim a [
          | inl r ↦ elim r.0 [ inl q ↦ absurd (others (home fid.fileset) n.0 q) | inr q ↦ absurd (omega (arith, q)) ]
          | inr b ↦ (let l = stands.floor fid x b.0 in omega (arith, e, l))
        ])
      ]

  -- the request
  pub request_same : (request : Option Request)
      → ((f : FetchOf) → request ≡ Some (AFetch f) → (g : GrantOf) → About past h f.fid.fileset (Grant g)
      → g.bring.fid.fileset ≡ f.fid.fileset → g.bring.number ≡ f.number → ⊥)
      → ((v : ServerId) (c : ChangeOf) → request ≡ Some (AChange v c) → (d : DoneOf) → DoneComes past h v d
      → d.fileset ≡ c.fileset → d.bring.number ≡ c.number → ⊥)
      → RequestStands request past → RequestStands request (h ∷ past)
  request_same request no_grant no_done stands = record {
    fetch = λ f e. let r = stands.fetch f e in (
      (r.0.0, r.0.1, r.0.2, inr r.0.3),
      (inr r.1, λ g c at number. no_grant f e g c at number),
      inr r.2,
    );
    change = λ v c e. let r = stands.change v c e in (
      (r.0.0, r.0.1, r.0.2, inr r.0.3, r.0.4),
      (inr r.1, λ d x at number. no_done v c e d x at number),
      r.2,
      inr r.3,
    );
    asking = λ fs n a. stands.asking fs n (elim a.0 [ inl f ↦ absurd (elim f.1.3.1 [ ]) | inr x ↦ x ]);
    changing = λ v fs n a. stands.changing v fs n (elim a.0 [ inl c ↦ absurd (elim c.1.3.1 [ ]) | inr x ↦ x ]);
    one_fetch = λ f k a b. stands.one_fetch f k (a.0, a.1, a.2, said_then _ _ _ _ a.3) (
      b.0,
      b.1,
      b.2,
      said_then _ _ _ _ b.3,
    );
    one_change = λ v c d a b. stands.one_change v c d (a.0, a.1, a.2, said_then _ _ _ _ a.3, a.4)
        (b.0, b.1, b.2, said_then _ _ _ _ b.3, b.4);
    entering = λ v c w name e enters is. let r = stands.entering v c w name e enters is in
        (r.0, (r.1.0, r.1.1, inr r.1.2), λ id z. elim z [ inl x ↦ not_entered w name id x | inr x ↦ r.2 id x ]);
  }
    where
      -- no Done counts
      not_entered : (w : ServerId) (name : List ℕ) (id : FilesetId) → Enters past h w name id → ⊥
      not_entered w name id x =
          let y = stands.changing w x.1.fileset x.1.bring.number x.7.1 in
          no_done y.0 y.1 y.2 x.1
          (elim x.7.0 [
            | inl z ↦ inl (z.0, subst (λ (v : ServerId). Comes past h v (Done x.1)) (sym (y.5 z.0)) z.1)
            | inr z ↦ inr z
          ]) (sym y.3) (sym y.4)

  pub request_gone : (request : Option Request) → RequestStands request past
      → ((fs : FilesetId) (n : ℕ) → Asking (h ∷ past) fs n → ⊥)
      → ((v : ServerId) (fs : FilesetId) (n : ℕ) → Changing (h ∷ past) v fs n → ⊥)
      → RequestStands None (h ∷ past)
  request_gone request stands none_asking none_changing = record {
    fetch = λ f e. absurd (cc);
    change = λ v c e. absurd (cc);
    asking = λ fs n a. absurd (none_asking fs n a);
    changing = λ v fs n a. absurd (none_changing v fs n a);
    one_fetch = λ f k a b. stands.one_fetch f k (a.0, a.1, a.2, said_then _ _ _ _ a.3) (
      b.0,
      b.1,
      b.2,
      said_then _ _ _ _ b.3,
    );
    one_change = λ v c d a b. stands.one_change v c d (a.0, a.1, a.2, said_then _ _ _ _ a.3, a.4)
        (b.0, b.1, b.2, said_then _ _ _ _ b.3, b.4);
    entering = λ v c w name e. absurd (cc);
  }

  -- filesets
  pub homes_same : ((v : ServerId) (name : List ℕ) (id : FilesetId) → Enters past h v name id → ⊥)
      → (homes : List Home) → HomesStand homes past → HomesStand homes (h ∷ past)
  homes_same none_entered homes stands = record {
    seen = λ v name id. (
      (λ e. inr ((stands.seen v name id).0 e)),
      λ e. (stands.seen v name id).1 (elim e [ inl x ↦ absurd (none_entered v name id x) | inr x ↦ x ]),
    );
  }

  -- the call
  pub call_same : (call : Option Asked) (count : ℕ) → ((c : Asked) → call ≡ Some c → CauseEnds past h c → ⊥)
      → CallStands call count past → CallStands call count (h ∷ past)
  call_same call count goes_on stands = record {
    is_open = λ c e. inr (stands.is_open c e, goes_on c e, λ a i. elim i [ ]);
    asked = λ c o. stands.asked c (elim o [ inl e ↦ absurd (cc) | inr x ↦ x.0 ]);
    begun = let b = stands.begun in omega (arith, b);
  }

  pub call_gone : (call : Option Asked) (count : ℕ) → ((c : Asked) → call ≡ Some c → CauseEnds past h c)
      → CallStands call count past → CallStands None count (h ∷ past)
  call_gone call count ends stands = record {
    is_open = λ c e. absurd (cc);
    asked = λ c o. elim o [ inl e ↦ absurd (cc) | inr x ↦ absurd (x.1 (ends c (stands.asked c x.0))) ];
    begun = let b = stands.begun in omega (arith, b);
  }
