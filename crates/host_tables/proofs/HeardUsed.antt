-- The tables once a Done was used.
use Rattle.base_types.specs.Ids.{same_fid}
use Rattle.base_types.specs.declared.ids.Fid.{Fid}
use Rattle.base_types.specs.declared.ids.FilesetId.{FilesetId}
use Rattle.base_types.specs.declared.ids.HostId.{HostId}
use Rattle.base_types.specs.declared.ids.ServerId.{ServerId}
use Rattle.base_types.specs.declared.user.User.{User}
use Rattle.host_cache.specs.Holding.{is_status, tokens_of}
use Rattle.host_cache.specs.declared.held.Held.{Held}
use Rattle.host_dirty.specs.declared.dirty.Dirty.{Dirty}
use Rattle.host_gives.specs.Giving.{Giving, given_in, is_of_file}
use Rattle.host_labels.specs.Labels.{InUse as InUseOf}
use Rattle.host_tables.proofs.Granted.{where_late}
use Rattle.host_tables.proofs.Lists.{any_false, any_in, by_test, fid_same, in_any, in_either, in_left, in_map}
use Rattle.host_tables.proofs.Lists.{in_right, map_in, same_fid_is, true_false}
use Rattle.host_tables.specs.Half.{learning}
use Rattle.host_tables.specs.HeardDone.{AnswersChange, NotesHome, call_after}
use Rattle.host_tables.specs.HeardUsed.{AfterDone, TakesAnew, UsedDoneStands, UsesDone}
use Rattle.host_tables.specs.Hearing.{saying}
use Rattle.host_tables.specs.Stands.{CacheStands, CallStands, ContentsStand, DirtyStands, FloorsStand, GivesStand}
use Rattle.host_tables.specs.Stands.{LabelsStand, LeavingStands, LengthsStand, LostStands, NumbersStand, OrderStands}
use Rattle.host_tables.specs.Stands.{PartedStands, RequestStands, SitesStand, Stands, TellsLength, UsesStand}
use Rattle.host_tables.specs.Tables.{floor_of, held_of, is_shown_by, labelled, labels_of, locks_under, ones}
use Rattle.host_tables.specs.Tables.{opens_under, own_of}
use Rattle.host_gives.specs.declared.leavings.Leaving.{Leaving}
use Rattle.host_lengths.specs.declared.given.Given.{Given}
use Rattle.host_tables.specs.declared.numbers.Changed.{Changed}
use Rattle.host_tables.specs.declared.numbers.Fetched.{Fetched}
use Rattle.host_tables.specs.declared.sites.Site.{Site}
use Rattle.host_tables.specs.declared.tables.Tables.{Tables}
use Rattle.message_types.specs.declared.giving.AppliedGive.{AppliedGive}
use Rattle.message_types.specs.declared.giving.Give.{Give}
use Rattle.message_types.specs.declared.giving.Reclaimed.{Reclaimed as ReclaimedOf}
use Rattle.message_types.specs.declared.message.Body.{Body}
use Rattle.message_types.specs.declared.message.Body.TheVariants.{Bye, Done, Gone, Grant, Reclaimed, Revoke}
use Rattle.message_types.specs.declared.message.Message.{Message}
use Rattle.message_types.specs.declared.telling.Bring.{Bring}
use Rattle.message_types.specs.declared.telling.Done.{Done as DoneOf}
use Rattle.message_types.specs.declared.tokens.Revoke.{Revoke as RevokeOf}
use Rattle.need_host.specs.Shows.{shows}
use Rattle.run_rules.specs.HostMay.{AwaitsReclaimed}
use Rattle.run_rules.specs.HostTokens.{HostTakes, LastUsed, UsesToken}
use Rattle.run_rules.specs.Messages.{About, Changing, Comes, ComesIn, HasKeptToken, HasSaid, Renews, Said, epoch_at}
use Rattle.run_rules.specs.Messages.{home}
use Rattle.run_rules.specs.Past.{EachOnce, In}
use Rattle.run_rules.specs.Steps.{limit_of}
use Rattle.run_rules.specs.Tokens.{AnswersRequest, GiveOpen, HasEndedUse, Held as HeldBy, HoldsId, IsKnown, IsUseKind}
use Rattle.run_rules.specs.Tokens.{LabelInUse, Learns, LeavesHost, Made, Owns, TokenInUse, Uses, number_of}
use Rattle.run_rules.specs.Views.{TakesStatus, is_dirty, is_shown, view}
use Rattle.run_rules.specs.declared.step.Asked.{Asked}
use Rattle.run_rules.specs.declared.step.Cause.{Cause}
use Rattle.run_rules.specs.declared.step.Cause.TheVariants.{Message as Came}
use Rattle.run_rules.specs.declared.step.Labelled.{Labelled}
use Rattle.run_rules.specs.declared.step.Step.{Step}
use Rattle.run_tokens.proofs.Evicting.{last_before}
use Rattle.script_lines.specs.Judge.{taken}
use Rattle.script_lines.specs.declared.script.Script.{Script}
use Rattle.std.proofs.Common.{Bool, List, Option, Some, ap, arith, false, flat_map, if◌then◌else◌, inl, inr, length}
use Rattle.std.proofs.Common.{map, refl, subst, suc, sym, true, ℕ, ◌&&◌, ◌++◌, ◌<◌, ◌||◌, ◌∙◌, ◌∷◌, ◌≡◌, ◌≤◌, ◌⊎◌}
use Rattle.std.proofs.lemmas.Bool.{and_parts}
use Rattle.std.proofs.lemmas.List.{map-append}
use Rattle.std.specs.Option.{option_map_or}
use Rattle.token_types.specs.Conflicts.{need_of}
use Rattle.token_types.specs.declared.token.Kind.{Kind}
use Rattle.token_types.specs.declared.token.Kind.TheVariants.{Bytes, Lock as LockToken, Opening, Status}
use Rattle.token_types.specs.declared.token.Need.{Need}
use Rattle.token_types.specs.declared.token.Token.{Token}
use Rattle.token_types.specs.declared.token.TokenId.{TokenId}
use Rattle.tree_calls.specs.Rosters.{user_of}
use Rattle.tree_laws.specs.Parts.{Part}
use Rattle.tree_laws.specs.Parts.Part.{ByteAt}
use Rattle.host_tables.proofs.HeardDone as done_of
use Rattle.host_tables.proofs.HearingParts as parts

true_and : (b : Bool) → ((false || b) && true) ≡ b
true_and true = refl
true_and false = refl

if_true : {A : Type 0} (b : Bool) (x y : A) → b ≡ true → (if b then x else y) ≡ x
if_true b x y e = rw e refl

if_false : {A : Type 0} (b : Bool) (x y : A) → b ≡ false → (if b then x else y) ≡ y
if_false b x y e = rw e refl

same_both : {A : Type 0} (b : Bool) (x : A) → (if b then x else x) ≡ x
same_both true x = refl
same_both false x = refl

-- a token of a lock or an open file shows nothing, and is no status
shows_nothing : (k : Kind) (part : Part) → IsUseKind k → shows k part ≡ true → ⊥
shows_nothing (Bytes update span) part u e = u
shows_nothing (Status update) part u e = u
shows_nothing (LockToken writing span) part u e = absurd (cc)
shows_nothing (Opening kind) part u e = absurd (cc)

no_status : (k : Kind) → IsUseKind k → is_status k ≡ true → ⊥
no_status (Bytes update span) u e = u
no_status (Status update) u e = u
no_status (LockToken writing span) u e = absurd (cc)
no_status (Opening kind) u e = absurd (cc)

no_update : (k : Kind) → IsUseKind k → k ≡ Status true → ⊥
no_update (Bytes update span) u e = u
no_update (Status update) u e = u
no_update (LockToken writing span) u e = absurd (cc)
no_update (Opening kind) u e = absurd (cc)

module _ (script : Script) (m new : Tables) (past : List Step) (server : ServerId) (epoch moves : ℕ) (d : DoneOf)
    (taken : List Token) (stands : Stands script m past) (answers : AnswersChange m server epoch moves d)
    (notes : NotesHome m.homes new.homes answers.change d.outcome) (usable : UsesDone m server d.bring)
    (brings : TakesAnew past d.bring taken) (after : AfterDone m new d taken) where
  abbrev came : Cause
  came = Came (saying m.host server epoch moves (Done d))

  abbrev s : Step
  s = learning m.host came taken

  comes_is : (v : ServerId) (e n : ℕ) (b : Body) → ComesIn s v e n b → Done d ≡ b
  comes_is v e n b c =
      let p = c.1 in
      let q : saying m.host server epoch moves (Done d) ≡ c.0 = cc in ap (λ (x : Message). x.body) q ∙ c.5

  about : About past s d.bring.fid.fileset (Done d)
  about = (
    saying m.host server epoch moves (Done d),
    refl,
    sym usable.at,
    sym answers.present ∙ ((stands.sites server).epoch ∙ ap (epoch_at past) (sym usable.at)),
    answers.no_moves,
    refl,
  )

  changing : Changing past (home d.bring.fid.fileset) d.fileset d.bring.number
  changing = subst (λ (v : ServerId). Changing past v d.fileset d.bring.number) (sym usable.at)
      (done_of.counts script m past server epoch moves d stands answers taken).1

  no_give : GiveOpen past d.bring.fid → ⊥
  no_give (give, made, at, unknown) =
      elim (stands.gives.all give made) [
        | inl k ↦ unknown k
        | inr x ↦ any_false (is_of_file d.bring.fid) m.gives.gives usable.no_give x.0 x.1
            (subst (λ (b : Body). option_map_or (λ (give : Give). same_fid give.fid d.bring.fid) (given_in b) false
            ≡ true)
            (sym x.2) (fid_same give.fid d.bring.fid at))
      ]

  pub uses : Uses past s d.bring
  uses = (
    inr (d, about, refl, changing, usable.kinds),
    stands.floors.above d.bring.fid d.bring.stamp usable.above,
    no_give,
  )

  same_done : (x : DoneOf) → Done d ≡ Done x → d ≡ x
  same_done x e = cc

  -- nothing else is used, and nothing else is learnt
  pub brings_is : (w : Bring) → AnswersRequest past s w → d.bring ≡ w
  brings_is w (inl (x, c, _, _)) = let p = comes_is _ _ _ (Grant x) c in absurd (cc)
  brings_is w (inr (x, c, e, _, _)) = ap (λ (y : DoneOf). y.bring) (same_done x (comes_is _ _ _ (Done x) c)) ∙ e

  pub none_learnt : (n : AppliedGive) → Learns past s n → ⊥
  none_learnt n l = elim l.1 [
    | inl x ↦ (let p = comes_is _ _ _ (Gone n) x in absurd (cc))
    | inr x ↦ (let p = comes_is _ _ _ (Reclaimed x.1) x.2 in absurd (cc))
  ]

  pub none_revoked : (f : FilesetId) (r : RevokeOf) → About past s f (Revoke r) → ⊥
  none_revoked f r c = let p = comes_is _ _ _ (Revoke r) c in absurd (cc)

  pub none_reclaimed : (v : ServerId) (a : ReclaimedOf) → Comes past s v (Reclaimed a) → ⊥
  none_reclaimed v a c = let p = comes_is _ _ _ (Reclaimed a) c in absurd (cc)

  known_before : (x : Give) → IsKnown (s ∷ past) x → IsKnown past x
  known_before x (inl l) = absurd (none_learnt (number_of x) l)
  known_before x (inr k) = k

  -- tokens
  new_id : (t u : Token) → In t taken → HeldBy past u → u.id ≡ t.id → ⊥
  new_id t u i h e = brings.anew t i (u, h, e)

  pub takes : (t : Token) → In t taken → (w : Bring) × Uses past s w × In t w.tokens × (t.fid ≡ w.fid)
      × (HoldsId past t.id → ⊥)
  takes t i = (d.bring, uses, brings.from t i, brings.file t (brings.from t i), brings.anew t i)

  pub takes_all : HostTakes past s
  takes_all = record {
    all = λ w t u i none. brings.all t (subst (λ (x : Bring). In t x.tokens) (sym (brings_is w u.0)) i) none;
    once = brings.one;
  }

  no_leaves : (i : TokenId) → LeavesHost s i → ⊥
  no_leaves i (inl x) = elim x.1 [ ]
  no_leaves i (inr r) = elim r.4.1 [ ]

  held_after : (t : Token) → In t taken ⊎ HeldBy past t → HeldBy (s ∷ past) t
  held_after t h = (h, λ d. elim d.1 [ ])

  owned_after : (t : Token) → In t taken ⊎ Owns past t → Owns (s ∷ past) t
  owned_after t o = (o, no_leaves t.id)

  abbrev tokens : List Token
  tokens = tokens_of new.cache.held

  tokens_are : tokens ≡ tokens_of after.held ++ held_of m
  tokens_are = ap tokens_of after.front ∙ map-append (λ (h : Held). h.token) after.held m.cache.held

  in_tokens : (t : Token) → In t tokens → In t taken ⊎ In t (held_of m)
  in_tokens t i = elim (in_either (tokens_of after.held) (held_of m) t (subst (In t) tokens_are i)) [
    | inl x ↦ inl ((after.taken_is t).0 x)
    | inr x ↦ inr x
  ]

  tokens_in : (t : Token) → In t taken ⊎ In t (held_of m) → In t tokens
  tokens_in t (inl i) =
      subst (In t) (sym tokens_are) (in_left (tokens_of after.held) (held_of m) t ((after.taken_is t).1 i))
  tokens_in t (inr i) = subst (In t) (sym tokens_are) (in_right (tokens_of after.held) (held_of m) t i)

  in_held : (h : Held) → In h new.cache.held → In h after.held ⊎ In h m.cache.held
  in_held h i = in_either after.held m.cache.held h (subst (In h) after.front i)

  used_before : (u : Labelled) → LabelInUse (s ∷ past) u → LabelInUse past u
  used_before u (inl i) = elim i [ ]
  used_before u (inr i) = i.0

  used_after : (u : Labelled) → LabelInUse past u → LabelInUse (s ∷ past) u
  used_after u i = inr (i, λ e. elim e.1 [ ], λ x k. elim k [ ])

  kept_before : (i : TokenId) → HasKeptToken (s ∷ past) i → HasKeptToken past i
  kept_before i (inl k) = elim k.4.1 [ ]
  kept_before i (inr k) = k.0

  made_before : (x : Give) → Made (s ∷ past) x → Made past x
  made_before x (inl i) = elim i [ ]
  made_before x (inr i) = i

  ended_before : (x : Give) (u : Labelled) → HasEndedUse (s ∷ past) x u → HasEndedUse past x u
  ended_before x u (inl i) = elim i.0 [ ]
  ended_before x u (inr i) = i

  said_before : (v : ServerId) (e n : ℕ) (b : Body) → Said (s ∷ past) v e n b → Said past v e n b
  said_before v e n b (inl p) = elim p.1 [ ]
  said_before v e n b (inr p) = p

  -- a taken token isn't in use
  taken_unused : (t : Token) → In t taken → TokenInUse (s ∷ past) t.id → ⊥
  taken_unused t i u = new_id t u.0.token i (stands.uses.held u.0 (used_before u.0 u.1)) u.2

  -- all that are taken are of locks and open files
  kind_of : (t : Token) → In t taken → IsUseKind t.kind
  kind_of t i = usable.kinds t (brings.from t i)

  of_held : (h : Held) → In h after.held → In h.token taken
  of_held h i = (after.taken_is h.token).0 (map_in (λ (h : Held). h.token) after.held h i)

  cache : CacheStands new.cache.held (s ∷ past)
  cache = record {
    held = λ t i. held_after t (elim (in_tokens t i) [ inl x ↦ inl x | inr x ↦ inr (stands.cache.held t x) ]);
    cached = λ t h. tokens_in t (elim h.0 [ inl x ↦ inl x | inr x ↦ inr (stands.cache.cached t x) ]);
    owned = λ t i. owned_after t (elim (in_tokens t i) [ inl x ↦ inl x | inr x ↦ inr (stands.cache.owned t x) ]);
    owns = λ t h. tokens_in t (elim h.0 [ inl x ↦ inl x | inr x ↦ inr (stands.cache.owns t x) ]);
    once = λ t u i j e. elim (in_tokens t i) [
      | inl x ↦ elim (in_tokens u j) [
        | inl y ↦ brings.one t u x y e
        | inr y ↦ absurd (new_id t u x (stands.cache.held u y) (sym e))
      ]
      | inr x ↦ elim (in_tokens u j) [
        | inl y ↦ absurd (new_id u t y (stands.cache.held t x) e)
        | inr y ↦ stands.cache.once t u x y e
      ]
    ];
    marked = λ h i e. elim (in_held h i) [
      | inl x ↦ absurd (true_false h.in_use e (after.unused h x))
      | inr x ↦ (let u = stands.cache.marked h x e in (u.0, used_after u.0 u.1, u.2))
    ];
    unmarked = λ h i e u. elim (in_held h i) [
      | inl x ↦ taken_unused h.token ((after.taken_is h.token).0 (map_in (λ (h : Held). h.token) after.held h x)) u
      | inr x ↦ stands.cache.unmarked h x e (u.0, used_before u.0 u.1, u.2)
    ];
    tells = λ h i e. elim (in_held h i) [
      | inl x ↦ absurd (no_status h.token.kind (kind_of h.token (of_held h x)) e)
      | inr x ↦ stands.cache.tells h x e
    ];
  }

  -- what is seen
  shown_before : (fid : Fid) (part : Part) → is_shown_by tokens fid part ≡ true → is_shown_by (held_of m) fid part
      ≡ true
  shown_before fid part e =
      let r = in_any (λ (n : Need). same_fid n.fid fid && shows n.kind part) (map need_of tokens) e in
      let x = in_map need_of tokens r.0 r.1 in
      let t : (same_fid x.0.fid fid && shows x.0.kind part) ≡ true =
      ap (λ (n : Need). same_fid n.fid fid && shows n.kind part) (sym x.2) ∙ r.2 in
      elim (in_tokens x.0 x.1) [
        | inl i ↦ absurd (shows_nothing x.0.kind part (kind_of x.0 i) (and_parts (same_fid x.0.fid fid)
            (shows x.0.kind part) t).1)
        | inr i ↦ any_in (λ (n : Need). same_fid n.fid fid && shows n.kind part) (map need_of (held_of m)) (need_of x.0)
            (map_in need_of (held_of m) x.0 i) t
      ]

  view_is : (fid : Fid) (part : Part) → view (s ∷ past) fid part ≡ view past fid part
  view_is fid part = same_both (is_shown s fid part) (view past fid part)

  contents : ContentsStand new.cache (s ∷ past)
  contents = record {
    agrees = λ fid part e. after.content_is fid part
        ∙ (stands.contents.agrees fid part (shown_before fid part e) ∙ sym (view_is fid part));
    beyond = λ fid at far. after.content_is fid (ByteAt at)
        ∙ (stands.contents.beyond fid at far ∙ sym (view_is fid (ByteAt at)));
    zero = λ fid at far. after.content_is fid (ByteAt at) ∙ stands.contents.zero fid at far;
  }

  -- dirty bytes and lengths
  dirty_is : (fid : Fid) (at : ℕ) → is_dirty (s ∷ past) fid at ≡ is_dirty past fid at
  dirty_is fid at = true_and (is_dirty past fid at)

  dirty : DirtyStands m.dirty (s ∷ past)
  dirty = record {
    bytes = λ fid at. stands.dirty.bytes fid at ∙ sym (dirty_is fid at);
    under = λ fid at d. let o = stands.dirty.under fid at (sym (dirty_is fid at) ∙ d) in
        (o.0, owned_after o.0 (inr o.1), o.2);
    inside = λ fid at d. stands.dirty.inside fid at (sym (dirty_is fid at) ∙ d);
  }

  tells : (given : Given) (give : Give) → TellsLength given give past → TellsLength given give (s ∷ past)
  tells given give t = record {
    number = t.number;
    length = t.length;
    known = λ e. inr (t.known e);
    unknown = λ e k. t.unknown e (known_before give k);
  }

  none_taken : (fid : Fid) → TakesStatus s fid → ⊥
  none_taken fid (t, i, k) = no_update t.kind (kind_of t i) k.1

  lengths : LengthsStand m.lengths (s ∷ past)
  lengths = record {
    some = λ fid given e.
        let r = stands.lengths.some fid given e in
        (r.0, inr (r.1, none_taken fid, λ other i. elim i [ ]), tells given r.0 r.2);
    all = λ fid give l. elim l [
      | inl x ↦ elim x.0 [ ]
      | inr x ↦ (let r = stands.lengths.all fid give x.0 in (r.0, r.1, tells r.0 give r.2))
    ];
  }

  -- labels
  uses_stand : UsesStand m.uses (s ∷ past)
  uses_stand = record {
    used = λ u i. used_after (labelled u) (stands.uses.used u i);
    labels = λ u i. stands.uses.labels u (used_before u i);
    held = λ u i. held_after u.token (inr (stands.uses.held u (used_before u i)));
    kinds = λ u i. stands.uses.kinds u (used_before u i);
    pinned = λ u i p. inr (
      stands.uses.pinned u (used_before u i) p,
      λ (w : (t : Token) × In t s.taken × (t.id ≡ u.token.id)). brings.anew w.0 w.1
          (u.token, stands.uses.held u (used_before u i), sym w.2),
    );
    kept = λ u i k. stands.uses.kept u (used_before u i) (kept_before u.token.id k);
    kept_used = λ i k h. elim k [
      | inl x ↦ elim x.4.1 [ ]
      | inr x ↦ elim h.1.0 [
        | inl y ↦ absurd (x.1 (h.0, y, h.2))
        | inr y ↦ (let u = stands.uses.kept_used i x.0 (h.0, y, h.2) in (u.0, used_after u.0 u.1, u.2))
      ]
    ];
    anew = λ t i. (brings.anew t i, λ u. brings.anew t i (u.0.token, stands.uses.held u.0 u.1, u.2));
    kept_ever = λ i k. let r = stands.uses.kept_ever i (kept_before i k) in (r.0, inr r.1, r.2);
    order = λ before behind first later e i t. stands.uses.order before behind first later e i
        (elim t [ inl x ↦ absurd (elim x.0 [ ]) | inr x ↦ x.0 ]);
  }

  gives : GivesStand m.gives (s ∷ past)
  gives = record {
    made = λ x i. let r = stands.gives.made x i in (r.0, r.1, inr r.2, λ k. r.3 (known_before r.0 k));
    all = λ x i. elim (stands.gives.all x (made_before x i)) [ inl k ↦ inl (inr k) | inr y ↦ inr y ];
    one = λ x k a b. stands.gives.one x k (made_before x a) (made_before k b);
    last = λ x i. stands.gives.last x (made_before x i);
    counted = λ f. elim (stands.gives.counted f) [ inl e ↦ inl e | inr r ↦ inr (r.0, inr r.1, r.2, r.3) ];
  }

  leaving : LeavingStands m.leaving m.ending (s ∷ past)
  leaving = record {
    tokens = λ x i k j unknown. stands.leaving.tokens x i (made_before x k) j (λ q. unknown (inr q));
    from = λ x i. let r = stands.leaving.from x i in (
      inr r.0,
      (
        r.1.0,
        inr r.1.1,
        λ k. r.1.2 (known_before r.1.0 k),
        r.1.3,
        r.1.4,
        r.1.5,
        r.1.6,
      ),
    );
    ends = λ u e. let r = stands.leaving.ends u e in (r.0, (r.1.0, inr r.1.1, λ k. r.1.2 (known_before r.1.0 k)));
    ended = λ u x h unknown. stands.leaving.ended u x (ended_before x u h) (λ q. unknown (inr q));
    uses = λ x a y p u. let r = stands.leaving.uses x a (made_before x y) p (λ i. u (inr i)) in (r.0, inr r.1);
    one = λ x k a b y z p q u w. stands.leaving.one x k a b (made_before x y) (made_before k z) p q
        (λ i. u (inr i)) (λ i. w (inr i));
  }

  -- floors
  no_raise : (v : ServerId) → epoch_at (s ∷ past) v ≡ epoch_at past v
  no_raise v = refl

  no_renew : (f : FilesetId) → Renews past s f → ⊥
  no_renew f (inl r) = omega (arith, r)
  no_renew f (inr r) = omega (arith, r)

  floors : FloorsStand new.floors (s ∷ past)
  floors = record {
    above = λ fid x a. inr (
      stands.floors.above fid x (elim (by_test (same_fid d.bring.fid fid)) [
        | inl y ↦ (
            let e = after.floors fid ∙ if_true (same_fid d.bring.fid fid) d.bring.stamp (floor_of m.floors fid) y in
            let q = same_fid_is d.bring.fid fid y in
            let b : floor_of m.floors fid < d.bring.stamp = subst (λ (f : Fid). floor_of m.floors f < d.bring.stamp) q
            usable.above in
            omega (arith, e, a, b)
            )
        | inr n ↦ (let e = after.floors fid ∙ if_false (same_fid d.bring.fid fid) d.bring.stamp (floor_of m.floors fid)
            n in omega (arith, e, a))
      ]),
      λ r c _. absurd (none_revoked fid.fileset r c),
      λ w answers _ _ same.
          let b = brings_is w answers in
          let y = fid_same d.bring.fid fid (ap (λ (w : Bring). w.fid) b ∙ same) in
          let e = after.floors fid ∙ if_true (same_fid d.bring.fid fid) d.bring.stamp (floor_of m.floors fid) y in
          let k : d.bring.stamp ≡ w.stamp = ap (λ (w : Bring). w.stamp) b in
          omega (arith, e, a, k),
    );
    floor = λ fid x a. elim a [
      | inl r ↦ absurd (no_renew fid.fileset r.0)
      | inr b ↦ elim (by_test (same_fid d.bring.fid fid)) [
        | inl y ↦ (
            let e = after.floors fid ∙ if_true (same_fid d.bring.fid fid) d.bring.stamp (floor_of m.floors fid) y in
            let k : d.bring.stamp < x = b.2 d.bring uses.0 uses.1 uses.2 (same_fid_is d.bring.fid fid y) in
            omega (arith, e, k)
            )
        | inr n ↦ (
            let e = after.floors fid ∙ if_false (same_fid d.bring.fid fid) d.bring.stamp (floor_of m.floors fid) n in
            let k = stands.floors.floor fid x b.0 in
            omega (arith, e, k)
            )
      ]
    ];
  }

  sites : SitesStand m.sites (s ∷ past)
  sites v = record {
    epoch = (stands.sites v).epoch;
    greeted = (
      λ e. let x = (stands.sites v).greeted.0 e in (x.0, x.1, inr x.2),
      λ x. (stands.sites v).greeted.1 (
        x.0,
        x.1,
        said_before v x.0 x.1 _ x.2,
      ),
    );
    welcome = (
      λ e. inr ((stands.sites v).welcome.0 e),
      λ w. (stands.sites v).welcome.1
          (elim w [ inl x ↦ absurd (let p = comes_is v _ 0 (Reclaimed x.1.0) x.1.1 in cc) | inr x ↦ x ]),
    );
    claimed = (
      λ e. (inr ((stands.sites v).claimed.0 e, λ r. omega (arith, r)), λ a c. none_reclaimed v a c),
      λ c. (stands.sites v).claimed.1 (claimed_before v c),
    );
    said_bye = (
      λ e. let x = (stands.sites v).said_bye.0 e in (x.0, x.1, inr x.2),
      λ x. (stands.sites v).said_bye.1
          (x.0, x.1, said_before v x.0 x.1 _ x.2),
    );
    has_bye = (
      λ e. inr ((stands.sites v).has_bye.0 e),
      λ w. (stands.sites v).has_bye.1
          (elim w [ inl x ↦ absurd (let p = comes_is v x.0 x.1 Bye x.2 in cc) | inr x ↦ x ]),
    );
  }
    where
      claimed_before : (v : ServerId) → AwaitsReclaimed (s ∷ past) v → AwaitsReclaimed past v
      claimed_before v (inl c, _) = elim c.3.1 [ ]
      claimed_before v (inr c, _) = c.0

  request : RequestStands new.request (s ∷ past)
  request = record {
    fetch = λ f e. absurd (let p = sym after.request ∙ e in cc);
    change = λ v c e. absurd (let p = sym after.request ∙ e in cc);
    asking = λ f n a. absurd (done_of.none_asking script m past server epoch moves d stands answers taken f n a);
    changing = λ v f n a. absurd (done_of.none_changing script m past server epoch moves d stands answers taken v f n
        a);
    one_fetch = λ f k a b. stands.request.one_fetch f k (a.0, a.1, a.2, said_before _ _ _ _ a.3) (
      b.0,
      b.1,
      b.2,
      said_before _ _ _ _ b.3,
    );
    one_change = λ v c d a b. stands.request.one_change v c d (a.0, a.1, a.2, said_before _ _ _ _ a.3, a.4) (
      b.0,
      b.1,
      b.2,
      said_before _ _ _ _ b.3,
      b.4,
    );
    entering = λ v c w name e. absurd (let p = sym after.request ∙ e in cc);
  }

  numbers : NumbersStand m.fetched m.changed (s ∷ past)
  numbers = record {
    fetches = λ f n x. stands.numbers.fetches f n (x.0, (x.1.0, x.1.1, x.1.2, said_before _ _ _ _ x.1.3), x.2, x.3);
    fetch_last = λ f. elim (stands.numbers.fetch_last f) [
      | inl e ↦ inl e
      | inr x ↦ inr (x.0, (x.1.0, x.1.1, x.1.2, inr x.1.3), x.2, x.3)
    ];
    changes = λ v f n x. stands.numbers.changes v f n (
      x.0,
      (x.1.0, x.1.1, x.1.2, said_before _ _ _ _ x.1.3, x.1.4),
      x.2,
      x.3,
    );
    change_last = λ v f. elim (stands.numbers.change_last v f) [
      | inl e ↦ inl e
      | inr x ↦ inr (x.0, (x.1.0, x.1.1, x.1.2, inr x.1.3, x.1.4), x.2, x.3)
    ];
  }

  call : CallStands (call_after d.outcome m.call) m.begun (s ∷ past)
  call = done_of.call_ended script m past server epoch moves d stands answers taken none_learnt

  call_before : (c : Asked) → call_after d.outcome m.call ≡ Some c → m.call ≡ Some c
  call_before c e = elim (done_of.call_kept script m past server epoch moves d stands answers taken) [
    | inl k ↦ sym k ∙ e
    | inr k ↦ absurd (let p = sym k ∙ e in cc)
  ]

  lost : LostStands m.lost (call_after d.outcome m.call) (s ∷ past)
  lost c e fid = let before = call_before c e in (
    (λ i. inr ((stands.lost c before fid).0 i, λ b. elim b.2 [ inl x ↦ absurd (cc) | inr a ↦ elim a.1 [ ] ])),
    λ h. (stands.lost c before fid).1 (elim h [ inl x ↦ elim x.0.1 [ ] | inr x ↦ x.0 ]),
  )

  -- the order of use
  uses_taken : (t : Token) → In t taken → UsesToken script.roster m.host past s t
  uses_taken t i = inl i

  uses_is : (t : Token) → UsesToken script.roster m.host past s t → In t taken
  uses_is t (inl i) = i
  uses_is t (inr u) = elim u.3 [ ]

  not_taken : (t : Token) → In t (held_of m) → In t taken → ⊥
  not_taken t i j = new_id t t j (stands.cache.held t i) refl

  last_old : (t : Token) (n : ℕ) → In t (held_of m) → LastUsed script.roster m.host (s ∷ past) t n
      → LastUsed script.roster m.host past t n
  last_old t n i (inl x) = absurd (not_taken t i (uses_is t x.0))
  last_old t n i (inr x) = x.0

  last_new : (t : Token) (n : ℕ) → In t taken → LastUsed script.roster m.host (s ∷ past) t n → n ≡ suc (length past)
  last_new t n i (inl x) = x.1
  last_new t n i (inr x) = absurd (x.1 (uses_taken t i))

  in_token : (h : Held) (held : List Held) → In h held → In h.token (tokens_of held)
  in_token h held i = map_in (λ (h : Held). h.token) held h i

  order : OrderStands script.roster m.host new.cache.held (s ∷ past)
  order before behind late early e i n k a b =
      elim (where_late after.held m.cache.held before behind late (sym after.front ∙ e)) [
        | inl x ↦ (
            let p = last_new late.token n ((after.taken_is late.token).0 (in_token late after.held x)) a in
            let q : k ≤ suc (length past) = last_before script.roster m.host (s ∷ past) early.token k b in
            omega (arith, p, q)
            )
        | inr x ↦ stands.order x.0 behind late early x.1 i n k
            (last_old late.token n (subst (λ (l : List Held). In late.token (tokens_of l)) (sym x.1)
            (in_token late (x.0 ++ late ∷ behind) (in_right x.0 (late ∷ behind) late (inl refl)))) a)
            (last_old early.token k (subst (λ (l : List Held). In early.token (tokens_of l)) (sym x.1)
            (in_token early (x.0 ++ late ∷ behind) (in_right x.0 (late ∷ behind) early (inr i)))) b)
      ]

  parted : (v : ServerId) → HasSaid (s ∷ past) v Bye → (call : Option Asked) → PartedStands new.request call v
      (s ∷ past)
  parted v b call =
      let p = stands.parted v (b.0, b.1, said_before v b.0 b.1 Bye b.2) in
      absurd (let q = sym answers.asked ∙ p.none_asked in cc)

  labels_same : labels_of new ≡ labels_of m
  labels_same i = map labelled (after.uses i).labels ++ ones (after.ending i)

  labels : LabelsStand (own_of new)
  labels = record {
    locks = subst (λ (x : HostId × List Labelled). EachOnce (flat_map (λ (u : Labelled). locks_under x.0 u.token.kind u)
        x.1)) (λ i. (sym after.host i, sym labels_same i)) stands.labels.locks;
    opens = subst (λ (x : HostId × List Labelled). EachOnce (flat_map (λ (u : Labelled). opens_under x.0 u.token.kind u)
        x.1)) (λ i. (sym after.host i, sym labels_same i)) stands.labels.opens;
  }

  pub learnt : Stands script new (s ∷ past)
  learnt = record {
    user = subst (λ (x : HostId × User). user_of script.roster x.0 ≡ Some x.1)
        (λ i. (sym after.host i, sym after.user i)) stands.user;
    limit = after.limit ∙ (stands.limit ∙ ap (limit_of script.roster) (sym after.host));
    live = λ d. stands.live (d.0, d.1, d.2, said_before d.0 d.1 d.2 _ d.3);
    cache = cache;
    contents = contents;
    order = subst (λ (h : HostId). OrderStands script.roster h new.cache.held (s ∷ past)) (sym after.host) order;
    dirty = subst (λ (x : Dirty). DirtyStands x (s ∷ past)) (sym after.dirty) dirty;
    lengths = subst (λ (x : List Given). LengthsStand x (s ∷ past)) (sym after.lengths) lengths;
    uses = subst (λ (x : InUseOf). UsesStand x (s ∷ past)) (sym after.uses) uses_stand;
    labels = labels;
    gives = subst (λ (x : Giving). GivesStand x (s ∷ past)) (sym after.gives) gives;
    leaving = subst (λ (x : List Leaving × Option Labelled). LeavingStands x.0 x.1 (s ∷ past))
        (λ i. (sym after.leaving i, sym after.ending i)) leaving;
    floors = floors;
    sites = subst (λ (x : List Site). SitesStand x (s ∷ past)) (sym after.sites) sites;
    request = request;
    numbers = subst (λ (x : List Fetched × List Changed). NumbersStand x.0 x.1 (s ∷ past))
        (λ i. (sym after.fetched i, sym after.changed i)) numbers;
    homes = done_of.homes_noted script m past server epoch moves d stands answers taken new.homes notes;
    call = subst (λ (x : Option Asked × ℕ). CallStands x.0 x.1 (s ∷ past)) (λ i. (sym after.call i, sym after.begun i))
        call;
    lost = subst (λ (x : List Fid × Option Asked). LostStands x.0 x.1 (s ∷ past))
        (λ i. (sym after.lost i, sym after.call i)) lost;
    parted = λ v b. parted v b new.call;
  }

pub used_done_stands : UsedDoneStands
used_done_stands script m new past server epoch moves d taken stands answers notes usable brings after =
    learnt script m new past server epoch moves d taken stands answers notes usable brings after
