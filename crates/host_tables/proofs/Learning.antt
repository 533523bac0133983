-- What tables say once a host has learnt, where the cause teaches nothing and no token is taken.
use Rattle.run_rules.specs.Tokens.{BeginsCall}
use Rattle.tree_calls.specs.declared.call.Call.{Call}
use Rattle.host_tables.specs.Stands.{LostStands}
use Rattle.std.proofs.Common.{[]}
use Rattle.run_rules.specs.Past.{In}
use Rattle.base_types.specs.declared.ids.Fid.{Fid}
use Rattle.base_types.specs.declared.ids.FilesetId.{FilesetId}
use Rattle.base_types.specs.declared.ids.HostId.{HostId}
use Rattle.base_types.specs.declared.ids.ServerId.{ServerId}
use Rattle.host_cache.specs.Seen.{Kept}
use Rattle.host_cache.specs.declared.held.Held.{Held}
use Rattle.host_dirty.specs.declared.dirty.Dirty.{Dirty}
use Rattle.host_gives.specs.Giving.{Giving}
use Rattle.host_labels.specs.Labels.{InUse as InUseOf}
use Rattle.host_labels.specs.declared.uses.Labelled.{Labelled as UseOf}
use Rattle.host_tables.specs.Half.{learning}
use Rattle.host_tables.specs.Learning.{IsOwnCause, TeachesLittle, TeachesNothing}
use Rattle.host_tables.specs.Stands.{CacheStands, CallStands, ContentsStand, DirtyStands, FloorsStand, GivesStand}
use Rattle.host_tables.specs.Stands.{HomesStand, LeavingStands, LengthsStand, NumbersStand, OrderStands}
use Rattle.host_tables.specs.Stands.{RequestStands, SitesStand, Stands, TellsLength, UsesStand}
use Rattle.host_tables.specs.Tables.{labelled}
use Rattle.host_tables.specs.declared.calls.Home.{Home}
use Rattle.host_gives.specs.declared.leavings.Leaving.{Leaving}
use Rattle.host_tables.specs.declared.calls.Request.{Request}
use Rattle.host_tables.specs.declared.files.Floor.{Floor}
use Rattle.host_lengths.specs.declared.given.Given.{Given}
use Rattle.host_tables.specs.declared.numbers.Changed.{Changed}
use Rattle.host_tables.specs.declared.numbers.Fetched.{Fetched}
use Rattle.host_tables.specs.declared.sites.Site.{Site}
use Rattle.host_tables.specs.declared.tables.Tables.{Tables}
use Rattle.message_types.specs.declared.asking.Change.{Change as ChangeOf}
use Rattle.message_types.specs.declared.asking.Fetch.{Fetch as FetchOf}
use Rattle.message_types.specs.declared.giving.Give.{Give}
use Rattle.message_types.specs.declared.message.Body.{Body}
use Rattle.message_types.specs.declared.message.Body.TheVariants.{Bye, Hello, Revoke}
use Rattle.message_types.specs.declared.tokens.Revoke.{Revoke as RevokeOf}
use Rattle.run_rules.specs.HostAsks.{HasChanged, HasFetched}
use Rattle.run_rules.specs.HostMay.{AwaitsReclaimed, TakenBefore}
use Rattle.run_rules.specs.HostTokens.{LastUsed, UsesToken}
use Rattle.run_rules.specs.Messages.{About, ComesIn, HasKeptToken, HasSaid, Renews, Said, epoch_at, epoch_raised}
use Rattle.run_rules.specs.Messages.{stay_of}
use Rattle.run_rules.specs.Tokens.{HasEndedUse}
use Rattle.run_rules.specs.Tokens.{CauseEnds, Held as HeldBy, IsKnown, LabelInUse, LeavesHost, Made, Owns, TokenInUse}
use Rattle.run_rules.specs.Tokens.{number_of}
use Rattle.run_rules.specs.Views.{IsLastLength, TakesStatus, is_dirty}
use Rattle.run_rules.specs.declared.step.Asked.{Asked}
use Rattle.run_rules.specs.declared.step.Cause.{Cause}
use Rattle.run_rules.specs.declared.step.Cause.TheVariants.{Message as Came}
use Rattle.run_rules.specs.declared.step.Labelled.{Labelled}
use Rattle.run_rules.specs.declared.step.Step.{Step}
use Rattle.script_lines.specs.declared.script.Script.{Script}
use Rattle.std.proofs.Common.{Bool, List, Option, arith, false, inl, inr, refl, subst, sym, true, ℕ, ◌&&◌, ◌||◌}
use Rattle.std.proofs.Common.{◌∙◌, ◌∷◌, ◌≡◌}
use Rattle.token_types.specs.declared.token.Token.{Token}
use Rattle.token_types.specs.declared.token.TokenId.{TokenId}
use Rattle.tree_calls.specs.declared.roster.Roster.{Roster}

-- by a line, at a lapse, to evict and at the end nothing is learnt
pub teaches_nothing : (past : List Step) (s : Step) → IsOwnCause s.cause → TeachesNothing past s
teaches_nothing past s own = record {
  epochs = λ v. epochs s.cause v (epoch_at past v) own;
  none_granted = λ fs g c. none _ _ _ _ c;
  none_settled = λ v d c. elim c [ inl x ↦ none _ _ _ _ x.1 | inr x ↦ none _ _ _ _ x ];
  none_used = λ w c. elim c [ inl x ↦ none _ _ _ _ x.1 | inr x ↦ none _ _ _ _ x.1 ];
  none_revoked = λ fs r c. none _ _ _ _ c;
  none_learnt = λ n c. elim c.1 [ inl x ↦ none _ _ _ _ x | inr x ↦ none _ _ _ _ x.2 ];
  none_reclaimed = λ v a c. none _ _ _ _ c;
  welcomes = λ v w. elim w [ inl x ↦ absurd (none _ _ _ _ x.1.1) | inr x ↦ x ];
  byes = λ v w. elim w [ inl x ↦ absurd (none _ _ _ _ x.2) | inr x ↦ x ];
}
  where
    none : (v : ServerId) (e n : ℕ) (b : Body) → ComesIn s v e n b → ⊥
    none v e n b c = subst IsOwnCause c.1 own

    epochs : (c : Cause) (v : ServerId) (n : ℕ) → IsOwnCause c → epoch_raised c v n ≡ n
    epochs (Came m) v n o = absurd o
    epochs _ v n o = refl

true_and : (b : Bool) → ((false || b) && true) ≡ b
true_and true = refl
true_and false = refl

-- the tables of tokens and labels, whatever is learnt
module _ (host : HostId) (cause : Cause) (past : List Step) where
  abbrev s : Step
  s = learning host cause []

  held_before : (t : Token) → HeldBy (s ∷ past) t → HeldBy past t
  held_before t (inl i, _) = elim i [ ]
  held_before t (inr h, _) = h

  held_after : (t : Token) → HeldBy past t → HeldBy (s ∷ past) t
  held_after t h = (inr h, λ d. elim d.1 [ ])

  no_leaves : (i : TokenId) → LeavesHost s i → ⊥
  no_leaves i (inl m) = elim m.1 [ ]
  no_leaves i (inr r) = elim r.4.1 [ ]

  owned_before : (t : Token) → Owns (s ∷ past) t → Owns past t
  owned_before t (inl i, _) = elim i [ ]
  owned_before t (inr o, _) = o

  owned_after : (t : Token) → Owns past t → Owns (s ∷ past) t
  owned_after t o = (inr o, no_leaves t.id)

  used_before : (u : Labelled) → LabelInUse (s ∷ past) u → LabelInUse past u
  used_before u (inl i) = elim i [ ]
  used_before u (inr i) = i.0

  used_after : (u : Labelled) → LabelInUse past u → LabelInUse (s ∷ past) u
  used_after u i = inr (i, λ e. elim e.1 [ ], λ g k. elim k [ ])

  used_id_before : (i : TokenId) → TokenInUse (s ∷ past) i → TokenInUse past i
  used_id_before i u = (u.0, used_before u.0 u.1, u.2)

  used_id_after : (i : TokenId) → TokenInUse past i → TokenInUse (s ∷ past) i
  used_id_after i u = (u.0, used_after u.0 u.1, u.2)

  kept_before : (i : TokenId) → HasKeptToken (s ∷ past) i → HasKeptToken past i
  kept_before i (inl k) = elim k.4.1 [ ]
  kept_before i (inr k) = k.0

  kept_after : (i : TokenId) → HasKeptToken past i → HasKeptToken (s ∷ past) i
  kept_after i k = inr (k, λ (w : (t : Token) × In t s.taken × (t.id ≡ i)). elim w.1 [ ])

  made_before : (g : Give) → Made (s ∷ past) g → Made past g
  made_before g (inl i) = elim i [ ]
  made_before g (inr i) = i

  ended_before : (g : Give) (u : Labelled) → HasEndedUse (s ∷ past) g u → HasEndedUse past g u
  ended_before g u (inl i) = elim i.0 [ ]
  ended_before g u (inr i) = i

  said_before : (v : ServerId) (e n : ℕ) (b : Body) → Said (s ∷ past) v e n b → Said past v e n b
  said_before v e n b (inl p) = elim p.1 [ ]
  said_before v e n b (inr p) = p

  has_said_before : (v : ServerId) (b : Body) → HasSaid (s ∷ past) v b → HasSaid past v b
  has_said_before v b (e, n, p) = (e, n, said_before v e n b p)

  pub cache_keeps : (kept : List Held) → CacheStands kept past → CacheStands kept (s ∷ past)
  cache_keeps kept stands = record {
    held = λ t i. held_after t (stands.held t i);
    cached = λ t h. stands.cached t (held_before t h);
    owned = λ t i. owned_after t (stands.owned t i);
    owns = λ t h. stands.owns t (owned_before t h);
    once = stands.once;
    marked = λ h i e. used_id_after h.token.id (stands.marked h i e);
    unmarked = λ h i e u. stands.unmarked h i e (used_id_before h.token.id u);
    tells = stands.tells;
  }

  pub contents_keep : (cache : Kept) → ContentsStand cache past → ContentsStand cache (s ∷ past)
  contents_keep cache stands = record { agrees = stands.agrees; beyond = stands.beyond; zero = stands.zero }

  unused : (roster : Roster) (t : Token) → UsesToken roster host past s t → ⊥
  unused roster t (inl i) = elim i [ ]
  unused roster t (inr u) = elim u.3 [ ]

  pub order_keeps : (roster : Roster) (held : List Held) → OrderStands roster host held past
      → OrderStands roster host held (s ∷ past)
  order_keeps roster held stands before behind late early e i n m a b =
      stands before behind late early e i n m (last late.token n a) (last early.token m b)
    where
      last : (t : Token) (k : ℕ) → LastUsed roster host (s ∷ past) t k → LastUsed roster host past t k
      last t k (inl x) = absurd (unused roster t x.0)
      last t k (inr x) = x.0

  dirty_is : (fid : Fid) (at : ℕ) → is_dirty (s ∷ past) fid at ≡ is_dirty past fid at
  dirty_is fid at = true_and (is_dirty past fid at)

  pub dirty_keeps : (dirty : Dirty) → DirtyStands dirty past → DirtyStands dirty (s ∷ past)
  dirty_keeps dirty stands = record {
    bytes = λ fid at. stands.bytes fid at ∙ sym (dirty_is fid at);
    under = λ fid at d. let o = stands.under fid at (sym (dirty_is fid at) ∙ d) in (o.0, owned_after o.0 o.1, o.2);
    inside = λ fid at d. stands.inside fid at (sym (dirty_is fid at) ∙ d);
  }

  pub uses_keep : (uses : InUseOf) → UsesStand uses past → UsesStand uses (s ∷ past)
  uses_keep uses stands = record {
    used = λ u i. used_after (labelled u) (stands.used u i);
    labels = λ u i. stands.labels u (used_before u i);
    held = λ u i. held_after u.token (stands.held u (used_before u i));
    kinds = λ u i. stands.kinds u (used_before u i);
    pinned = λ u i p. kept_after u.token.id (stands.pinned u (used_before u i) p);
    kept = λ u i k. stands.kept u (used_before u i) (kept_before u.token.id k);
    kept_used = λ i k h. used_id_after i (stands.kept_used i (kept_before i k) (h.0, held_before h.0 h.1, h.2));
    anew = λ t i. elim i [ ];
    kept_ever = λ i k. let r = stands.kept_ever i (kept_before i k) in (r.0, inr r.1, r.2);
    order = λ before behind first later e i t. stands.order before behind first later e i (taken_before later first t);
  }
    where
      taken_before : (later first : UseOf) → TakenBefore (s ∷ past) (labelled later) (labelled first)
          → TakenBefore past (labelled later) (labelled first)
      taken_before later first (inl x) = elim x.0 [ ]
      taken_before later first (inr x) = x.0

  -- nothing is lost by what is learnt, and no call is begun
  none_begins : (k : ℕ) (call : Call) → BeginsCall s k call → ⊥
  none_begins k call (inl e) = absurd (cc)
  none_begins k call (inr a) = elim a.1 [ ]

  pub lost_keeps : (lost : List Fid) (call : Option Asked) → LostStands lost call past → LostStands lost call (s ∷ past)
  lost_keeps lost call stands c e fid = (
    λ i. inr ((stands c e fid).0 i, λ b. none_begins b.0 b.1 b.2),
    λ h. (stands c e fid).1 (elim h [ inl x ↦ elim x.0.1 [ ] | inr x ↦ x.0 ]),
  )

  -- what is said
  pub numbers_keep : (fetched : List Fetched) (changed : List Changed) → NumbersStand fetched changed past
      → NumbersStand fetched changed (s ∷ past)
  numbers_keep fetched changed stands = record {
    fetches = λ fs n f. stands.fetches fs n (f.0, (f.1.0, f.1.1, f.1.2, said_before _ _ _ _ f.1.3), f.2, f.3);
    fetch_last = λ fs. elim (stands.fetch_last fs) [
      | inl e ↦ inl e
      | inr f ↦ inr (
        f.0,
        (f.1.0, f.1.1, f.1.2, inr f.1.3),
        f.2,
        f.3,
      )
    ];
    changes = λ v fs n c. stands.changes v fs n (
      c.0,
      (c.1.0, c.1.1, c.1.2, said_before _ _ _ _ c.1.3, c.1.4),
      c.2,
      c.3,
    );
    change_last = λ v fs. elim (stands.change_last v fs) [
      | inl e ↦ inl e
      | inr c ↦ inr (c.0, (c.1.0, c.1.1, c.1.2, inr c.1.3, c.1.4), c.2, c.3)
    ];
  }

  module _ (quiet : TeachesLittle past s) where
    known_before : (g : Give) → IsKnown (s ∷ past) g → IsKnown past g
    known_before g (inl l) = absurd (quiet.none_learnt (number_of g) l)
    known_before g (inr k) = k

    pub lengths_keep : (lengths : List Given) → LengthsStand lengths past → LengthsStand lengths (s ∷ past)
    lengths_keep lengths stands = record {
      some = λ fid given e. let r = stands.some fid given e in (
        r.0,
        inr (r.1, none_taken fid, λ other i. elim i [ ]),
        tells given r.0 r.2,
      );
      all = λ fid give l. let r = stands.all fid give (last fid give l) in (r.0, r.1, tells r.0 give r.2);
    }
      where
        none_taken : (fid : Fid) → TakesStatus s fid → ⊥
        none_taken fid t = elim t.1 [ ]

        tells : (given : Given) (give : Give) → TellsLength given give past → TellsLength given give (s ∷ past)
        tells given give t = record {
          number = t.number;
          length = t.length;
          known = λ e. inr (t.known e);
          unknown = λ e k. t.unknown e (known_before give k);
        }

        last : (fid : Fid) (give : Give) → IsLastLength (s ∷ past) fid give → IsLastLength past fid give
        last fid give (inl x) = elim x.0 [ ]
        last fid give (inr x) = x.0

    pub gives_keep : (gives : Giving) → GivesStand gives past → GivesStand gives (s ∷ past)
    gives_keep gives stands = record {
      made = λ m i. let r = stands.made m i in (r.0, r.1, inr r.2, λ k. r.3 (known_before r.0 k));
      all = λ g m. elim (stands.all g (made_before g m)) [ inl k ↦ inl (inr k) | inr x ↦ inr x ];
      one = λ g k a b. stands.one g k (made_before g a) (made_before k b);
      last = λ g m. stands.last g (made_before g m);
      counted = λ fs. elim (stands.counted fs) [ inl e ↦ inl e | inr r ↦ inr (r.0, inr r.1, r.2, r.3) ];
    }

    pub leaving_keeps : (leaving : List Leaving) (ending : Option Labelled) → LeavingStands leaving ending past
        → LeavingStands leaving ending (s ∷ past)
    leaving_keeps leaving ending stands = record {
      tokens = λ g i m j unknown. stands.tokens g i (made_before g m) j (λ k. unknown (inr k));
      from = λ x i. let r = stands.from x i in (
        inr r.0,
        (
          r.1.0,
          inr r.1.1,
          λ k. r.1.2 (known_before r.1.0 k),
          r.1.3,
          r.1.4,
          r.1.5,
          r.1.6,
        ),
      );
      ends = λ u e. let r = stands.ends u e in (r.0, (r.1.0, inr r.1.1, λ k. r.1.2 (known_before r.1.0 k)));
      ended = λ u g h unknown. stands.ended u g (ended_before g u h) (λ k. unknown (inr k));
      uses = λ g a x p u. let r = stands.uses g a (made_before g x) p (λ z. u (inr z)) in (r.0, inr r.1);
      one = λ g k a b x y p q u w. stands.one g k a b (made_before g x) (made_before k y) p q
          (λ z. u (inr z)) (λ z. w (inr z));
    }

    pub no_renew : (fs : FilesetId) → Renews past s fs → ⊥
    no_renew fs (inl r) = let e = quiet.epochs (stay_of past fs).server in omega (arith, e, r)
    no_renew fs (inr r) = omega (arith, r)

    pub floors_keep : ((fs : FilesetId) (r : RevokeOf) → About past s fs (Revoke r) → ⊥) → (floors : List Floor)
        → FloorsStand floors past → FloorsStand floors (s ∷ past)
    floors_keep none_revoked floors stands = record {
      above = λ fid x a. inr (
        stands.above fid x a,
        λ r c _. absurd (none_revoked fid.fileset r c),
        λ w u _ _ _. absurd (quiet.none_used w u),
      );
      floor = λ fid x a. stands.floor fid x (elim a [ inl r ↦ absurd (no_renew fid.fileset r.0) | inr b ↦ b.0 ]);
    }

    pub sites_keep : (sites : List Site) → SitesStand sites past → SitesStand sites (s ∷ past)
    sites_keep sites stands v = record {
      epoch = (stands v).epoch ∙ sym (quiet.epochs v);
      greeted = (
        λ e. let g = (stands v).greeted.0 e in (g.0, g.1, inr g.2),
        λ g. (stands v).greeted.1 (has_said_before v Hello g),
      );
      welcome = (λ e. inr ((stands v).welcome.0 e), λ w. (stands v).welcome.1 (quiet.welcomes v w));
      claimed = (λ e. claimed_after ((stands v).claimed.0 e), λ c. (stands v).claimed.1 (claimed_before c));
      said_bye = (
        λ e. let g = (stands v).said_bye.0 e in (g.0, g.1, inr g.2),
        λ g. (stands v).said_bye.1
            (has_said_before v Bye g),
      );
      has_bye = (λ e. inr ((stands v).has_bye.0 e), λ w. (stands v).has_bye.1 (quiet.byes v w));
    }
      where
        claimed_after : AwaitsReclaimed past v → AwaitsReclaimed (s ∷ past) v
        claimed_after c = (
          inr (c, λ r. let e = quiet.epochs v in omega (arith, e, r)),
          λ a x. quiet.none_reclaimed v a x,
        )

        claimed_before : AwaitsReclaimed (s ∷ past) v → AwaitsReclaimed past v
        claimed_before (inl c, _) = elim c.3.1 [ ]
        claimed_before (inr c, _) = c.0

    pub request_keeps : (request : Option Request) → RequestStands request past → RequestStands request (s ∷ past)
    request_keeps request stands = record {
      fetch = λ f e. let r = stands.fetch f e in
          (fetched_after f r.0, (inr r.1, λ g c _ _. quiet.none_granted f.fid.fileset g c), inr r.2);
      change = λ v c e. let r = stands.change v c e in
          (changed_after v c r.0, (inr r.1, λ d x _ _. quiet.none_settled v d x), r.2, inr r.3);
      asking = λ fs n a. stands.asking fs n (elim a.0 [ inl f ↦ absurd (elim f.1.3.1 [ ]) | inr x ↦ x ]);
      changing = λ v fs n a. stands.changing v fs n (elim a.0 [ inl c ↦ absurd (elim c.1.3.1 [ ]) | inr x ↦ x ]);
      one_fetch = λ f k a b. stands.one_fetch f k (fetched_before f a) (fetched_before k b);
      one_change = λ v c d a b. stands.one_change v c d (changed_before v c a) (changed_before v d b);
      entering = λ v c w name e enters is. let r = stands.entering v c w name e enters is in (
        r.0,
        (r.1.0, r.1.1, inr r.1.2),
        λ id z. elim z [
          | inl x ↦ quiet.none_settled w x.1 x.7.0
          | inr x ↦ r.2 id x
        ],
      );
    }
      where
        fetched_after : (f : FetchOf) → HasFetched past f → HasFetched (s ∷ past) f
        fetched_after f (v, e, n, p) = (v, e, n, inr p)

        fetched_before : (f : FetchOf) → HasFetched (s ∷ past) f → HasFetched past f
        fetched_before f (v, e, n, p) = (v, e, n, said_before v e n _ p)

        changed_after : (v : ServerId) (c : ChangeOf) → HasChanged past v c → HasChanged (s ∷ past) v c
        changed_after v c (w, e, n, p, q) = (w, e, n, inr p, q)

        changed_before : (v : ServerId) (c : ChangeOf) → HasChanged (s ∷ past) v c → HasChanged past v c
        changed_before v c (w, e, n, p, q) = (w, e, n, said_before w e n _ p, q)

    pub homes_keep : (homes : List Home) → HomesStand homes past → HomesStand homes (s ∷ past)
    homes_keep homes stands = record {
      seen = λ v name id. (
        λ e. inr ((stands.seen v name id).0 e),
        λ e. (stands.seen v name id).1
            (elim e [ inl x ↦ absurd (quiet.none_settled v x.1 x.7.0) | inr x ↦ x ]),
      );
    }

    not_ended : (c : Asked) → CauseEnds past s c → ⊥
    not_ended c (inl (v, d, r, k, _)) = quiet.none_settled v d k.0
    not_ended c (inr l) = quiet.none_learnt _ l.5

    pub call_keeps : (call : Option Asked) (count : ℕ) → CallStands call count past → CallStands call count (s ∷ past)
    call_keeps call count stands = record {
      is_open = λ c e. inr (stands.is_open c e, not_ended c, λ a i. elim i [ ]);
      asked = λ c o. stands.asked c (elim o [ inl e ↦ absurd (cc) | inr x ↦ x.0 ]);
      begun = let b = stands.begun in omega (arith, b);
    }

    -- all tables, with these floors
    pub moved : (script : Script) (m : Tables) (floors : List Floor) → m.host ≡ host → Stands script m past
        → FloorsStand floors (s ∷ past)
        → Stands script (record m { floors = floors }) (s ∷ past)
    moved script m floors mine stands risen = record {
      user = stands.user;
      limit = stands.limit;
      live = λ d. stands.live (d.0, d.1, d.2, said_before d.0 d.1 d.2 _ d.3);
      cache = cache_keeps m.cache.held stands.cache;
      contents = contents_keep m.cache stands.contents;
      order = subst (λ (h : HostId). OrderStands script.roster h m.cache.held (s ∷ past)) (sym mine)
          (order_keeps script.roster m.cache.held (subst (λ (h : HostId). OrderStands script.roster h m.cache.held past)
          mine stands.order));
      dirty = dirty_keeps m.dirty stands.dirty;
      lengths = lengths_keep m.lengths stands.lengths;
      uses = uses_keep m.uses stands.uses;
      labels = stands.labels;
      gives = gives_keep m.gives stands.gives;
      leaving = leaving_keeps m.leaving m.ending stands.leaving;
      floors = risen;
      sites = sites_keep m.sites stands.sites;
      request = request_keeps m.request stands.request;
      numbers = numbers_keep m.fetched m.changed stands.numbers;
      homes = homes_keep m.homes stands.homes;
      call = call_keeps m.call m.begun stands.call;
      lost = lost_keeps m.lost m.call stands.lost;
      parted = λ v b. let p = stands.parted v (has_said_before v Bye b) in record {
        greeted = let g = p.greeted in (g.0, g.1, inr g.2);
        none_asked = p.none_asked;
        none_open = p.none_open;
        none_owned = λ t o. p.none_owned t (owned_before t o);
        known = λ g m. inr (p.known g (made_before g m));
      };
    }

little : (past : List Step) (s : Step) → TeachesNothing past s → TeachesLittle past s
little past s q = record {
  epochs = q.epochs;
  none_granted = q.none_granted;
  none_settled = q.none_settled;
  none_used = q.none_used;
  none_learnt = q.none_learnt;
  none_reclaimed = q.none_reclaimed;
  welcomes = q.welcomes;
  byes = q.byes;
}

pub unmoved : (host : HostId) (cause : Cause) (past : List Step) → TeachesNothing past (learning host cause [])
    → (script : Script) (m : Tables) → m.host ≡ host → Stands script m past
    → Stands script m (learning host cause [] ∷ past)
unmoved host cause past quiet script m mine stands =
    let l = little past (learning host cause []) quiet in
    moved host cause past l script m m.floors mine stands (floors_keep host cause past l quiet.none_revoked m.floors
    stands.floors)
