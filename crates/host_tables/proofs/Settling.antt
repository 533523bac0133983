-- The tables after a step.
use Rattle.std.proofs.Common.{[]}
use Rattle.base_types.specs.Ids.{same_fid}
use Rattle.base_types.specs.declared.ids.Fid.{Fid}
use Rattle.base_types.specs.declared.ids.HostId.{HostId}
use Rattle.base_types.specs.declared.ids.ServerId.{ServerId}
use Rattle.base_types.specs.declared.limits.TheConstants.{FILE_BYTES_MAX}
use Rattle.base_types.specs.declared.user.User.{User}
use Rattle.host_dirty.specs.Dirtiness.{is_dirty as is_dirty_in}
use Rattle.host_tables.proofs.Lists.{any_in, by_test, fid_same, in_any, in_map, map_in, not_false, same_fid_is}
use Rattle.host_tables.proofs.Lists.{true_false}
use Rattle.host_tables.specs.Half.{half}
use Rattle.host_tables.specs.Settling.{Settled, SettlesRight}
use Rattle.host_tables.specs.Stands.{CacheStands, CallStands, ContentsStand, DirtyStands, FloorsStand, GivesStand}
use Rattle.host_tables.specs.Stands.{HomesStand, LengthsStand, SitesStand, Stands, TellsLength, UsesStand}
use Rattle.host_tables.specs.Tables.{content, held_of, is_shown_by, labelled, length_given}
use Rattle.host_tables.specs.declared.calls.Home.{Home}
use Rattle.host_tables.specs.declared.files.Floor.{Floor}
use Rattle.host_lengths.specs.declared.given.Given.{Given}
use Rattle.host_tables.specs.declared.tables.Tables.{Tables}
use Rattle.message_types.specs.declared.giving.AppliedGive.{AppliedGive}
use Rattle.message_types.specs.declared.giving.Give.{Give}
use Rattle.message_types.specs.declared.message.Body.{Body}
use Rattle.message_types.specs.declared.message.Body.TheVariants.{Bye, Hello}
use Rattle.need_host.specs.Looks.{View}
use Rattle.need_host.specs.Shows.{shows}
use Rattle.run_rules.specs.HostMay.{AwaitsReclaimed}
use Rattle.run_rules.specs.HostTokens.{GivesByte, OwnsUpdate}
use Rattle.run_rules.specs.Messages.{HasSaid, Says}
use Rattle.run_rules.specs.HostMay.{HostMay}
use Rattle.run_rules.specs.Past.{In}
use Rattle.run_rules.specs.Steps.{limit_of}
use Rattle.run_rules.specs.Tokens.{AtHand, EverHeld, Held as HeldBy, LabelInUse}
use Rattle.run_rules.specs.Views.{HasLength, IsLastLength, TakesStatus, after_answers, byte_of, changed_by_writes}
use Rattle.run_rules.specs.Views.{gives_at, is_dirty, sees, writes_at, writes_to}
use Rattle.run_rules.specs.declared.step.Labelled.{Labelled}
use Rattle.run_rules.specs.declared.step.Step.{Step}
use Rattle.script_lines.specs.declared.script.Script.{Script}
use Rattle.std.proofs.Common.{Bool, List, None, Option, Some, ap, arith, false, if◌then◌else◌, inl, inr, is_some}
use Rattle.std.proofs.Common.{map, not, refl, subst, sym, true, ℕ, ◌&&◌, ◌<◌, ◌||◌, ◌∙◌, ◌∷◌, ◌≡◌, ◌⊎◌}
use Rattle.std.proofs.lemmas.Bool.{and_from, and_parts, or_cases}
use Rattle.token_types.specs.Conflicts.{need_of}
use Rattle.token_types.specs.declared.token.Need.{Need}
use Rattle.token_types.specs.declared.token.Token.{Token}
use Rattle.tree_calls.specs.Rosters.{user_of}
use Rattle.tree_laws.specs.Parts.{Part}
use Rattle.tree_laws.specs.Parts.Part.{ByteAt}
use Rattle.host_tables.proofs.Standing as standing

and_right : (a b : Bool) → (a && b) ≡ true → b ≡ true
and_right a b e = (and_parts a b e).1

module _ (script : Script) (m new : Tables) (past : List Step) (s : Step) (learnt : Stands script m (half s ∷ past))
    (meets : HostMay script m.host past s) (so : Settled script m new past s) where
  hand : (t : Token) → In t (held_of m) → AtHand s past t
  hand t i = standing.hand_of script m past s learnt t i

  cache : CacheStands new.cache.held (s ∷ past)
  cache = record {
    held = λ t i. let x = so.stay t i in (hand t x.0, x.1);
    cached = λ t h. elim (so.all t (standing.of_hand script m past s learnt t h.0)) [
      | inl i ↦ i
      | inr d ↦ absurd (h.1 d)
    ];
    owned = λ t i. let x = so.stay t i in
        ((learnt.cache.owned t x.0).0, λ l. x.1 (meets.tokens.drops t (hand t x.0) l));
    owns = λ t o. elim (so.all t (learnt.cache.owns t (
      o.0,
      λ l. elim l [
        | inl x ↦ elim x.1 [ ]
        | inr r ↦ elim r.4.1 [ ]
      ],
    ))) [
      | inl i ↦ i
      | inr d ↦ absurd (elim (meets.tokens.drops_only t d) [ inl l ↦ o.1 l | inr x ↦ so.no_stop x ])
    ];
    once = λ t u i j e. learnt.cache.once t u (so.stay t i).0 (so.stay u j).0 e;
    marked = so.marked;
    unmarked = so.unmarked;
    tells = so.tells;
  }

  shown_before : (fid : Fid) (part : Part) → is_shown_by (held_of new) fid part ≡ true
      → is_shown_by (held_of m) fid part ≡ true
  shown_before fid part e =
      let r = in_any (λ (n : Need). same_fid n.fid fid && shows n.kind part) (map need_of (held_of new)) e in
      let x = in_map need_of (held_of new) r.0 r.1 in
      any_in (λ (n : Need). same_fid n.fid fid && shows n.kind part) (map need_of (held_of m)) (need_of x.0)
      (map_in need_of (held_of m) x.0 (so.stay x.0 x.1).0)
      (ap (λ (n : Need). same_fid n.fid fid && shows n.kind part) (sym x.2) ∙ r.2)

  written_same : (fid : Fid) (part : Part) (a b : View) → a fid part ≡ b fid part → changed_by_writes s a fid part
      ≡ changed_by_writes s b fid part
  written_same fid part a b e = ap (λ x. if writes_to s fid then after_answers s.answers part x else x) e

  contents : ContentsStand new.cache (s ∷ past)
  contents = record {
    agrees = λ fid part e. so.content_is fid part e ∙ written_same fid part (content m.cache) (sees past s)
        (learnt.contents.agrees fid part (shown_before fid part e));
    beyond = λ fid at far. so.beyond fid at far ∙ written_same fid (ByteAt at) (content m.cache) (sees past s)
        (learnt.contents.beyond fid at far);
    zero = so.zero;
  }

  dirty_is : (fid : Fid) (at : ℕ) → is_dirty_in m.dirty fid at ≡ is_dirty past fid at
  dirty_is fid at = learnt.dirty.bytes fid at ∙ standing.dirty_is script m past s learnt fid at

  dirty : DirtyStands new.dirty (s ∷ past)
  dirty = record {
    bytes = λ fid at. so.dirty fid at ∙ ap (λ (b : Bool). (writes_at s fid at || b) && not (gives_at s fid at))
        (dirty_is fid at);
    under = under;
    inside = inside;
  }
    where
      parts : (fid : Fid) (at : ℕ) → is_dirty (s ∷ past) fid at ≡ true
          → ((writes_at s fid at ≡ true) ⊎ (is_dirty past fid at ≡ true)) × (gives_at s fid at ≡ false)
      parts fid at d =
          let p = and_parts (writes_at s fid at || is_dirty past fid at) (not (gives_at s fid at)) d in
          (or_cases (writes_at s fid at) (is_dirty past fid at) p.0, not_false (gives_at s fid at) p.1)

      under : (fid : Fid) (at : ℕ) → is_dirty (s ∷ past) fid at ≡ true → OwnsUpdate (s ∷ past) fid at
      under fid at d =
          let p = parts fid at d in
          elim p.0 [
            | inl w ↦ (so.written fid at w).0
            | inr q ↦ elim (meets.gives.bytes_saved fid at q (so.dirty_before fid at q)) [
              | inl o ↦ o
              | inr g ↦ absurd (true_false (gives_at s fid at) (has_at g.0 fid at g.1 g.2) p.1)
            ]
          ]
        where
          has_at : (g : Give) (fid : Fid) (at : ℕ) → In g s.made → GivesByte g fid at → gives_at s fid at ≡ true
          has_at g fid at i h =
              any_in (λ (give : Give). same_fid give.fid fid && is_some (byte_of give.pieces at)) s.made g i
              (and_from (same_fid g.fid fid) (is_some (byte_of g.pieces at)) (fid_same g.fid fid h.0)
              (ap is_some h.1.1))

      inside : (fid : Fid) (at : ℕ) → is_dirty (s ∷ past) fid at ≡ true → at < FILE_BYTES_MAX
      inside fid at d = elim (parts fid at d).0 [
        | inl w ↦ (so.written fid at w).1
        | inr q ↦ learnt.dirty.inside fid at (standing.dirty_is script m past s learnt fid at ∙ q)
      ]

  -- lengths
  last_half : (fid : Fid) (g : Give) → IsLastLength past fid g → (TakesStatus s fid → ⊥)
      → IsLastLength (half s ∷ past) fid g
  last_half fid g l none = inr (l, none, λ other i. elim i [ ])

  tells_on : (given : Given) (g : Give) → TellsLength given g (half s ∷ past) → TellsLength given g (s ∷ past)
  tells_on given g t = record { number = t.number; length = t.length; known = t.known; unknown = t.unknown }

  -- the length of a file that the step gives back, if it does
  length_made : (fid : Fid) → ((g : Give) × In g s.made × HasLength g fid) ⊎ ((g : Give) → In g s.made → HasLength g fid
      → ⊥)
  length_made fid = go s.made
    where
      has : (g : Give) → HasLength g fid ⊎ (HasLength g fid → ⊥)
      has g = elim (by_test (same_fid g.fid fid)) [
        | inl y ↦ by_length g.length refl
        | inr n ↦ inr (λ h. true_false (same_fid g.fid fid) (fid_same g.fid fid h.0) n)
      ]
        where
          by_length : (o : Option ℕ) → g.length ≡ o → HasLength g fid ⊎ (HasLength g fid → ⊥)
          by_length None e = inr (λ h. let p = sym e ∙ h.1.1 in absurd (cc))
          by_length (Some n) e = elim (by_test (same_fid g.fid fid)) [
            | inl y ↦ inl (same_fid_is g.fid fid y, (n, e))
            | inr z ↦ inr (λ h. true_false (same_fid g.fid fid) (fid_same g.fid fid h.0) z)
          ]

      go : (gs : List Give) → ((g : Give) × In g gs × HasLength g fid) ⊎ ((g : Give) → In g gs → HasLength g fid → ⊥)
      go [] = inr (λ g i. elim i [ ])
      go (g ∷ gs) = elim (has g) [
        | inl h ↦ inl (g, inl refl, h)
        | inr n ↦ elim (go gs) [
          | inl r ↦ inl (r.0, inr r.1, r.2)
          | inr m ↦ inr (λ k i h. elim i [ inl e ↦ n (subst (λ (x : Give). HasLength x fid) e h) | inr j ↦ m k j h ])
        ]
      ]

  new_tells : (g : Give) (n : ℕ) → In g s.made → g.length ≡ Some n
      → TellsLength (record { fid = g.fid; number = g.number; length = n; known = false }) g (s ∷ past)
  new_tells g n i e = record { number = refl; length = e; known = λ k. absurd (cc); unknown = λ _ k. so.unknown g i k }

  lengths : LengthsStand new.lengths (s ∷ past)
  lengths = record { some = some; all = all }
    where
      some : (fid : Fid) (given : Given) → length_given new.lengths fid ≡ Some given → (g : Give)
          × IsLastLength (s ∷ past) fid g × TellsLength given g (s ∷ past)
      some fid given e = elim (length_made fid) [
        | inl r ↦ (
            let it = so.length_new r.0 r.2.1.0 r.1 r.2.1.1 in
            let p : Some (record { fid = r.0.fid; number = r.0.number; length = r.2.1.0; known = false }) ≡ Some given =
            sym it ∙ (ap (length_given new.lengths) r.2.0 ∙ e) in
            let q : record { fid = r.0.fid; number = r.0.number; length = r.2.1.0; known = false } ≡ given = cc in (
              r.0,
              inl (r.1, r.2),
              subst (λ (x : Given). TellsLength x r.0 (s ∷ past)) q
                  (new_tells r.0 r.2.1.0 r.1 r.2.1.1),
            )
            )
        | inr n ↦ (
            let r = learnt.lengths.some fid given (sym (so.length_old fid n) ∙ e) in
            (r.0, elim r.1 [ inl x ↦ elim x.0 [ ] | inr x ↦ inr (x.0, x.1, n) ], tells_on given r.0 r.2)
            )
      ]

      all : (fid : Fid) (g : Give) → IsLastLength (s ∷ past) fid g → (given : Given)
          × (length_given new.lengths fid ≡ Some given) × TellsLength given g (s ∷ past)
      all fid g (inl (i, h)) = (
        record { fid = g.fid; number = g.number; length = h.1.0; known = false },
        ap (length_given new.lengths) (sym h.0) ∙ so.length_new g h.1.0 i h.1.1,
        new_tells g h.1.0 i h.1.1,
      )
      all fid g (inr (l, none, n)) =
          let r = learnt.lengths.all fid g (last_half fid g l none) in (
            r.0,
            so.length_old fid n ∙ r.1,
            tells_on r.0 g r.2,
          )

  -- labels
  used_half : (u : Labelled) → LabelInUse past u → LabelInUse (half s ∷ past) u
  used_half u i = standing.used_after script m past s learnt u i

  uses : UsesStand new.uses (s ∷ past)
  uses = record {
    used = λ u i. elim (so.label_is u i) [
      | inl b ↦ inl b
      | inr x ↦ inr (standing.used_before script m past s learnt (labelled u) (learnt.uses.used u x.0), x.1, x.2)
    ];
    labels = λ u i. so.is_label (record { label = u.label; token = u.token }) (elim i [
      | inl b ↦ inl b
      | inr x ↦ inr (learnt.uses.labels u (used_half u x.0), x.1, x.2)
    ]);
    held = λ u i. elim i [
      | inl b ↦ cache.held u.token (so.begun_held u b).0
      | inr x ↦ ((learnt.uses.held u (used_half u x.0)).0, so.used_stay u (inr x))
    ];
    kinds = λ u i. elim i [ inl b ↦ (so.begun_held u b).1 | inr x ↦ learnt.uses.kinds u (used_half u x.0) ];
    pinned = so.pinned;
    kept = so.kept;
    kept_used = so.kept_used;
    anew = learnt.uses.anew;
    kept_ever = λ i k. elim k [
      | inl now ↦ (let h = (meets.revoked.keeps i now).0 in (h.0, ever (s ∷ past) h.0 h.1, h.2))
      | inr x ↦ (let r = learnt.uses.kept_ever i (inr x) in (r.0, r.1, r.2))
    ];
    order = so.label_order;
  }
    where
      ever : (past : List Step) (u : Token) → HeldBy past u → EverHeld past u
      ever [] u h = elim h [ ]
      ever (s ∷ past) u (inl i, _) = inl i
      ever (s ∷ past) u (inr h, _) = inr (ever past u h)

  -- give-backs
  gives : GivesStand new.gives (s ∷ past)
  gives = record {
    made = λ x i. elim (so.gives_from x i) [
      | inl j ↦ (let r = learnt.gives.made x j in (
        r.0,
        r.1,
        inr (standing.made_before script m past s learnt r.0 r.2),
        r.3,
      ))
      | inr g ↦ (g.0, g.1, inl g.2, so.unknown g.0 g.2)
    ];
    all = λ g i. elim i [
      | inl j ↦ inr (so.gives_new g j)
      | inr j ↦ elim (learnt.gives.all g (inr j)) [ inl k ↦ inl k | inr x ↦ inr (x.0, so.gives_old x.0 x.1, x.2) ]
    ];
    one = λ g k a b e. elim a [
      | inl i ↦ elim b [
        | inl j ↦ meets.tokens.makes_apart g k i j e
        | inr j ↦ absurd (let l = meets.tokens.makes_new g k i j (ap (λ (n : AppliedGive). n.fileset) (sym e)) in
            let q : g.number ≡ k.number = ap (λ (n : AppliedGive). n.number) e in omega (arith, l, q))
      ]
      | inr i ↦ elim b [
        | inl j ↦ absurd (let l = meets.tokens.makes_new k g j i (ap (λ (n : AppliedGive). n.fileset) e) in
            let q : g.number ≡ k.number = ap (λ (n : AppliedGive). n.number) e in omega (arith, l, q))
        | inr j ↦ learnt.gives.one g k (inr i) (inr j) e
      ]
    ];
    last = λ g i. elim i [
      | inl j ↦ so.last_new g j
      | inr j ↦ (let a = learnt.gives.last g (inr j) in let b = so.last_up g.fid.fileset in omega (arith, a, b))
    ];
    counted = λ fs. elim (so.last_is fs) [
      | inl e ↦ elim (learnt.gives.counted fs) [
        | inl z ↦ inl (e ∙ z)
        | inr r ↦ inr (r.0, inr (standing.made_before script m past s learnt r.0 r.1), r.2, r.3 ∙ sym e)
      ]
      | inr r ↦ inr (r.0, inl r.1, r.2, r.3)
    ];
  }

  floors : FloorsStand new.floors (s ∷ past)
  floors = subst (λ (x : List Floor). FloorsStand x (s ∷ past)) (sym so.floors) (record {
    above = learnt.floors.above;
    floor = learnt.floors.floor;
  })

  -- servers
  said_half : (v : ServerId) (b : Body) → HasSaid (half s ∷ past) v b → HasSaid past v b
  said_half v b (e, n, inl p) = elim p.1 [ ]
  said_half v b (e, n, inr p) = (e, n, p)

  half_said : (v : ServerId) (b : Body) → HasSaid past v b → HasSaid (half s ∷ past) v b
  half_said v b (e, n, p) = (e, n, inr p)

  says_or : (v : ServerId) (b : Body) → HasSaid (s ∷ past) v b → HasSaid past v b ⊎ Says s v b
  says_or v b (e, n, inl p) = inr (e, n, p)
  says_or v b (e, n, inr p) = inl (e, n, p)

  or_says : (v : ServerId) (b : Body) → HasSaid past v b ⊎ Says s v b → HasSaid (s ∷ past) v b
  or_says v b (inl (e, n, p)) = (e, n, inr p)
  or_says v b (inr (e, n, p)) = (e, n, inl p)

  sites : SitesStand new.sites (s ∷ past)
  sites v = let x = learnt.sites v in record {
    epoch = so.site_epoch v ∙ x.epoch;
    greeted = (
      λ e. or_says v Hello (elim ((so.site_greeted v).0 e) [
        | inl g ↦ inl (said_half v Hello (x.greeted.0 g))
        | inr g ↦ inr g
      ]),
      λ g. (so.site_greeted v).1 (elim (says_or v Hello g) [
        | inl y ↦ inl (x.greeted.1 (half_said v Hello y))
        | inr y ↦ inr y
      ]),
    );
    welcome = (λ e. x.welcome.0 (sym (so.site_welcome v) ∙ e), λ w. so.site_welcome v ∙ x.welcome.1 w);
    claimed = (
      λ e. elim ((so.site_claimed v).0 e) [
        | inl c ↦ claimed_on (x.claimed.0 c)
        | inr c ↦ (inl c, λ a y. so.claims_apart v a c y)
      ],
      λ c. (so.site_claimed v).1 (elim c.0 [ inl y ↦ inr y | inr y ↦ inl (x.claimed.1 (inr y, c.1)) ]),
    );
    said_bye = (
      λ e. or_says v Bye (elim ((so.site_said_bye v).0 e) [
        | inl g ↦ inl (said_half v Bye (x.said_bye.0 g))
        | inr g ↦ inr g
      ]),
      λ g. (so.site_said_bye v).1 (elim (says_or v Bye g) [
        | inl y ↦ inl (x.said_bye.1 (half_said v Bye y))
        | inr y ↦ inr y
      ]),
    );
    has_bye = (λ e. x.has_bye.0 (sym (so.site_has_bye v) ∙ e), λ w. so.site_has_bye v ∙ x.has_bye.1 w);
  }
    where
      claimed_on : AwaitsReclaimed (half s ∷ past) v → AwaitsReclaimed (s ∷ past) v
      claimed_on (inl c, _) = elim c.3.1 [ ]
      claimed_on (inr c, none) = (inr c, none)

  homes : HomesStand new.homes (s ∷ past)
  homes = subst (λ (x : List Home). HomesStand x (s ∷ past)) (sym so.homes) (record { seen = learnt.homes.seen })

  -- the call
  call : CallStands new.call new.begun (s ∷ past)
  call = record {
    is_open = λ c e. elim (so.call_from c e) [
      | inl a ↦ inl a
      | inr x ↦ elim (learnt.call.is_open c x.0) [ inl q ↦ absurd (cc) | inr o ↦ inr (o.0, o.1, x.1) ]
    ];
    asked = λ c o. elim o [
      | inl a ↦ so.call_asked c a
      | inr x ↦ so.call_stays c (learnt.call.asked c (inr (x.0, x.1, λ a i. elim i [ ]))) x.2
    ];
    begun = so.begun;
  }

  pub settled : Stands script new (s ∷ past)
  settled = record {
    user = subst (λ (x : HostId × User). user_of script.roster x.0 ≡ Some x.1) (λ i. (sym so.host i, sym so.user i))
        learnt.user;
    limit = so.limit ∙ (learnt.limit ∙ ap (limit_of script.roster) (sym so.host));
    live = λ d. elim d.3 [ inl p ↦ so.no_stop (d.0, d.1, d.2, p) | inr p ↦ meets.tokens.live (d.0, d.1, d.2, p) ];
    cache = cache;
    contents = contents;
    order = so.order;
    dirty = dirty;
    lengths = lengths;
    uses = uses;
    labels = so.labels;
    gives = gives;
    leaving = so.leaving;
    floors = floors;
    sites = sites;
    request = so.request;
    numbers = so.numbers;
    homes = homes;
    call = call;
    lost = so.lost;
    parted = so.parted;
  }

pub settles_right : SettlesRight
settles_right script m new past s learnt meets so = settled script m new past s learnt meets so
