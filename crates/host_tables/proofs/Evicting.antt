-- A whole step: a clean token that isn't in use is evicted.
use Rattle.base_types.specs.declared.ids.Fid.{Fid}
use Rattle.base_types.specs.declared.ids.FilesetId.{FilesetId}
use Rattle.base_types.specs.declared.ids.ServerId.{ServerId}
use Rattle.host_cache.specs.Holding.{is_idle, last_of}
use Rattle.host_cache.specs.Seen.{Kept}
use Rattle.host_cache.specs.declared.held.Held.{Held}
use Rattle.host_dirty.specs.Dirtiness.{is_dirty as is_dirty_in}
use Rattle.host_gives.specs.Giving.{given_in, names}
use Rattle.host_tables.proofs.Letting.{leaves_may}
use Rattle.host_tables.proofs.Lists.{any_false, any_in, by_test, filter_in, id_same, in_filter, in_map, map_in}
use Rattle.host_tables.proofs.Lists.{not_false, same_id_is, true_false, true_not}
use Rattle.host_tables.specs.Causes.{CauseMay}
use Rattle.host_tables.specs.Evicting.{EvictsRight, IsCleanToken, IsWithout, evicts_one, is_other, returned}
use Rattle.host_tables.specs.Giving.{GivesBack}
use Rattle.host_tables.specs.Half.{half}
use Rattle.host_tables.specs.Learning.{TeachesNothing}
use Rattle.host_tables.specs.Letting.{Keeping}
use Rattle.host_tables.specs.Machine.{Rests, StepRight}
use Rattle.host_tables.specs.Sending.{MayReturn, MaySend}
use Rattle.host_tables.specs.Settling.{Settled}
use Rattle.host_tables.specs.Stands.{OrderStands, PartedStands, Stands}
use Rattle.host_tables.specs.Tables.{content, held_of, is_length_clean, site_at, updates_status}
use Rattle.host_tables.specs.declared.calls.Request.{Request}
use Rattle.host_tables.specs.declared.calls.Request.TheVariants.{Change as AChange, Fetch as AFetch}
use Rattle.host_tables.specs.declared.tables.Tables.{Tables}
use Rattle.message_types.specs.declared.asking.Change.{Change as ChangeOf}
use Rattle.message_types.specs.declared.asking.Fetch.{Fetch as FetchOf}
use Rattle.message_types.specs.declared.giving.Give.{Give}
use Rattle.message_types.specs.declared.message.Body.{Body}
use Rattle.message_types.specs.declared.message.Body.TheVariants.{Bye, Change, Down, Fetch, Hello, Kept as KeptBody}
use Rattle.message_types.specs.declared.message.Body.TheVariants.{Reclaim, Returned}
use Rattle.message_types.specs.declared.message.Message.{Message}
use Rattle.message_types.specs.declared.tokens.Named.{Named}
use Rattle.run_rules.specs.HostAsks.{HasChanged, HasFetched}
use Rattle.run_rules.specs.HostMay.{HostMay}
use Rattle.run_rules.specs.HostTokens.{IsUnused, MayEvict, MayLeave}
use Rattle.run_rules.specs.Messages.{Asking, Changing, HasKeptToken, HasSaid, Sends, home}
use Rattle.run_rules.specs.Past.{EachOnce, In}
use Rattle.run_rules.specs.Steps.{limit_of}
use Rattle.run_rules.specs.Tokens.{Drops, HasCall, HoldsId, IsKnown, IsOutstanding, LabelInUse, LeavesHost, Made}
use Rattle.run_rules.specs.Tokens.{NoneOpen, number_of}
use Rattle.run_rules.specs.Views.{Stance, UpdatesByte}
use Rattle.run_rules.specs.declared.applied.Leave.{Leave}
use Rattle.run_rules.specs.declared.applied.Why.TheVariants.{Evicted}
use Rattle.run_rules.specs.declared.step.Asked.{Asked}
use Rattle.run_rules.specs.declared.step.Cause.TheVariants.{Evict}
use Rattle.run_rules.specs.declared.step.Labelled.{Labelled}
use Rattle.run_rules.specs.declared.step.Step.{Step}
use Rattle.script_lines.specs.declared.script.Script.{Script}
use Rattle.std.proofs.Common.{Bool, List, None, Some, [], ap, arith, filter, if◌then◌else◌, inl, inr, length, map}
use Rattle.std.proofs.Common.{refl, subst, suc, sym, true, zero, ℕ, ◌&&◌, ◌<◌, ◌∙◌, ◌∷◌, ◌≡◌, ◌≤◌, ◌⊎◌}
use Rattle.std.proofs.lemmas.List.{length-map}
use Rattle.std.specs.List.{list_any}
use Rattle.std.specs.Option.{option_map_or}
use Rattle.std.specs.Prelude.{false}
use Rattle.token_types.specs.Conflicts.{same_id}
use Rattle.token_types.specs.declared.token.Token.{Token}
use Rattle.token_types.specs.declared.token.TokenId.{TokenId}
use Rattle.tree_calls.specs.declared.call.Call.{Call}
use Rattle.host_tables.proofs.Learning as learning_of
use Rattle.host_tables.proofs.Settling as settling
use Rattle.host_tables.proofs.Standing as standing
use Rattle.host_tables.proofs.Using as using
use Rattle.host_tables.proofs.AtOnce as at_once

and_true : (b : Bool) → b ≡ (b && true)
and_true true = refl
and_true false = refl

-- so many elements of a list, each once
front : {A : Type 0} (n : ℕ) (xs : List A) → n ≤ length xs → EachOnce xs → (ys : List A) × (length ys ≡ n) × EachOnce ys
    × ((y : A) → In y ys → In y xs)
front zero xs le once = ([], refl, tt, λ y i. elim i [ ])
front (suc n) [] le once = absurd (omega (arith, le))
front (suc n) (x ∷ xs) le once =
    let r = front n xs (omega (arith, le)) once.1 in
    (x ∷ r.0, ap suc r.1, ((λ i. once.0 (r.3 x i)), r.2), λ y i. elim i [ inl e ↦ inl e | inr j ↦ inr (r.3 y j) ])

map_once_if : {A B : Type 0} (b : Bool) (f : A → B) (test : A → Bool) (x : A) (xs : List A)
    → (In (f x) (map f (filter test xs)) → ⊥) → EachOnce (map f (filter test xs))
    → EachOnce (map f (if b then x ∷ filter test xs else filter test xs))
map_once_if true f test x xs other once = (other, once)
map_once_if false f test x xs other once = once

map_within : {A B : Type 0} (f : A → B) (test : A → Bool) (xs : List A) (y : B) → In y (map f (filter test xs))
    → In y (map f xs)
map_within f test xs y i =
    let r = in_map f (filter test xs) y i in subst (λ z. In z (map f xs)) (sym r.2)
    (map_in f xs r.0 (in_filter test xs r.0 r.1).0)

map_once : {A B : Type 0} (f : A → B) (test : A → Bool) (xs : List A) → EachOnce (map f xs)
    → EachOnce (map f (filter test xs))
map_once f test [] once = tt
map_once f test (x ∷ xs) once = map_once_if (test x) f test x xs (λ i. once.0 (map_within f test xs (f x) i))
    (map_once f test xs once.1)

last_in : {A : Type 0} (xs : List A) (h : A) → last_of xs ≡ Some h → In h xs
last_in [] h e = absurd (cc)
last_in (x ∷ []) h e = inl (let q = e in cc)
last_in (x ∷ y ∷ xs) h e = inr (last_in (y ∷ xs) h e)

module _ (script : Script) (m : Tables) (past : List Step) (h : Held) (cache : Kept) (rests : Rests script m past)
    (free : m.call ≡ None)
    (many : m.limit < length (filter is_idle m.cache.held)) (once : EachOnce (held_of m))
    (last : last_of (filter is_idle m.cache.held) ≡ Some h)
    (clean : IsCleanToken m h.token) (without : IsWithout m.cache cache h.token.id) where
  abbrev t : Token
  t = h.token

  abbrev s : Step
  s = evicts_one m t

  abbrev new : Tables
  new = record m { cache = cache }

  stands : Stands script m past
  stands = rests.stands

  learnt : Stands script m (half s ∷ past)
  learnt = learning_of.unmoved m.host Evict past (learning_of.teaches_nothing past (half s) tt) script m refl stands

  quiet : TeachesNothing past s
  quiet = learning_of.teaches_nothing past s tt

  not_open : (d : Asked) → m.call ≡ Some d → ⊥
  not_open d e = let p = sym free ∙ e in absurd (cc)

  none_open : NoneOpen past
  none_open d o = not_open d (stands.call.asked d o)

  no_request : (r : Request) → m.request ≡ Some r → ⊥
  no_request r e = let p = sym (rests.rest.alone free) ∙ e in absurd (cc)

  no_turn : (k : ℕ) (call : Call) → HasCall past s k call → ⊥
  no_turn k call (inl (inl e)) = absurd (cc)
  no_turn k call (inl (inr b)) = elim b.1 [ ]
  no_turn k call (inr g) = none_open _ g.0

  body_is : (w : ServerId) (e n : ℕ) (b : Body) → Sends s w e n b → (returned m t).body ≡ b
  body_is w e n b (x, inl p, a1, a2, a3, q) = ap (λ (x : Message). x.body) (sym p) ∙ q
  body_is w e n b (x, inr i, a1, a2, a3, q) = elim i [ ]

  -- the token
  its_place : In h m.cache.held × (is_idle h ≡ true)
  its_place = in_filter is_idle m.cache.held h (last_in (filter is_idle m.cache.held) h last)

  its_held : In t (held_of m)
  its_held = map_in (λ (x : Held). x.token) m.cache.held h its_place.0

  idle_of : (x : Held) → In x m.cache.held → is_idle x ≡ true → IsUnused past x.token
  idle_of x i e = (
    stands.cache.held x.token (map_in (λ (y : Held). y.token) m.cache.held x i),
    stands.cache.unmarked x i (not_false x.in_use e),
  )

  its_idle : IsUnused past t
  its_idle = idle_of h its_place.0 its_place.1

  may_evict : MayEvict past (limit_of script.roster m.host)
  may_evict =
      let idle = filter is_idle m.cache.held in
      let tokens = map (λ (x : Held). x.token) idle in
      let l = length-map idle (λ (x : Held). x.token) in
      let lim = stands.limit in
      let r = front (suc (limit_of script.roster m.host)) tokens (omega (arith, l, many, lim))
      (map_once (λ (x : Held). x.token) is_idle m.cache.held once) in (
        none_open,
        (
          r.0,
          r.2,
          r.1,
          λ u i.
              let x = in_map (λ (x : Held). x.token) idle u (r.3 u i) in let f =
              in_filter is_idle m.cache.held x.0 x.1 in
              subst (IsUnused past) (sym x.2) (idle_of x.0 f.0 f.1),
        ),
      )

  -- what is left
  held_back : (x : Held) → In x cache.held → In x m.cache.held × (x.token.id ≡ t.id → ⊥)
  held_back x i =
      let r = in_filter (is_other t.id) m.cache.held x (subst (In x) without.held i) in (
        r.0,
        λ e. true_false (same_id x.token.id t.id) (id_same x.token.id t.id e)
            (not_false (same_id x.token.id t.id) r.1),
      )

  held_there : (x : Held) → In x m.cache.held → (x.token.id ≡ t.id → ⊥) → In x cache.held
  held_there x i other =
      subst (In x) (sym without.held) (filter_in (is_other t.id) m.cache.held x i (true_not (same_id x.token.id t.id)
      (λ e. other (same_id_is x.token.id t.id e))))

  were : (u : Token) → In u (held_of new) → In u (held_of m) × (u.id ≡ t.id → ⊥)
  were u i =
      let r = in_map (λ (x : Held). x.token) cache.held u i in let b = held_back r.0 r.1 in (
        subst (λ (x : Token). In x (held_of m)) (sym r.2) (map_in (λ (x : Held). x.token) m.cache.held r.0 b.0),
        λ e. b.1 (ap (λ (x : Token). x.id) (sym r.2) ∙ e),
      )

  stays : (u : Token) → In u (held_of m) → (u.id ≡ t.id → ⊥) → In u (held_of new)
  stays u i other =
      let r = in_map (λ (x : Held). x.token) m.cache.held u i in
      subst (λ (x : Token). In x (held_of new)) (sym r.2) (map_in (λ (x : Held). x.token) cache.held r.0
      (held_there r.0 r.1 (λ e. other (ap (λ (x : Token). x.id) r.2 ∙ e))))

  leaves_is : (i : TokenId) → LeavesHost s i → t.id ≡ i
  leaves_is i (inl x) = elim x.1 [ ]
  leaves_is i (inr (v, e, n, w, p, j)) =
      let q = body_is v e n (Returned w) p in
      let r : record { fid = t.fid; ids = t.id ∷ [] } ≡ w = cc in
      elim (subst (λ (x : Named). In i x.ids) (sym r) j) [ inl k ↦ sym k | inr k ↦ elim k [ ] ]

  it_leaves : LeavesHost s t.id
  it_leaves = inr (
    home t.fid.fileset,
    (site_at m.sites (home t.fid.fileset)).epoch,
    0,
    record {
      fid = t.fid;
      ids = t.id ∷ [];
    },
    (returned m t, inl refl, refl, refl, refl, refl),
    inl refl,
  )

  drops_is : (u : Token) → Drops s u → t ≡ u
  drops_is u (l, inl e, q) = ap (λ (x : Leave). x.token) (sym e) ∙ q
  drops_is u (l, inr i, q) = elim i [ ]

  keeping : Keeping m past s (held_of new)
  keeping = record {
    were = λ u i. (were u i).0;
    stay = λ u i. (
      (λ l. (were u i).1 (sym (leaves_is u.id l))),
      λ d. (were u i).1 (ap (λ (x : Token). x.id) (sym (drops_is u d))),
    );
    gone = λ u i. elim (by_test (same_id u.id t.id)) [
      | inl e ↦ (
          let same : t ≡ u = learnt.cache.once t u its_held i (sym (same_id_is u.id t.id e)) in
          inr (subst (λ (x : Token). LeavesHost s x.id × Drops s x) same (
            it_leaves,
            (record { token = t; why = Evicted }, inl refl, refl),
          )))
      | inr e ↦ inl (stays u i (λ p. true_false (same_id u.id t.id) (id_same u.id t.id p) e))
    ];
    dropped = λ u d. subst (λ (x : Token). In x (held_of m)) (drops_is u d) its_held;
  }

  none_new : (g : Give) → IsOutstanding (s ∷ past) g → IsOutstanding past g
  none_new g o = record {
    made = elim o.made [ inl i ↦ elim i [ ] | inr i ↦ i ];
    unknown = λ k. o.unknown (inr k);
    first = λ w. o.first (
      w.0,
      inr w.1,
      w.2,
      w.3,
      λ k. w.4 (elim k [ inl l ↦ absurd (quiet.none_learnt (number_of w.0) l) | inr q ↦ q ]),
    );
  }

  by_token : (u : Token) → In u (held_of m) → (t ≡ u) ⊎ In u (held_of new)
  by_token u i = elim (keeping.gone u i) [ inl j ↦ inr j | inr x ↦ inl (drops_is u x.1) ]

  gives : GivesBack m past s (held_of new)
  gives = record {
    names = λ g i. elim i [ ];
    rise = λ g i. elim i [ ];
    ids = λ g i j. elim j [ ];
    one = λ g k i. elim i [ ];
    above = λ g i. elim i [ ];
    next = λ g i. elim i [ ];
    apart = λ g k i. elim i [ ];
    has = λ g at x i. elim i [ ];
    saves = λ u fid at d i up. elim (by_token u i) [
      | inl e ↦ (
          let same = ap (λ (x : Token). x.fid) e ∙ updates_file u fid at up in
          let r = clean.bytes at (subst (λ (f : Fid). is_dirty_in m.dirty f at ≡ true) (sym same) d)
          (subst (λ (x : Token × Fid). UpdatesByte x.0 x.1 at) (λ k. (sym e k, sym same k)) up) in
          inl (r.0, stays r.0 r.1 r.2, subst (λ (f : Fid). UpdatesByte r.0 f at) same r.3))
      | inr j ↦ inl (u, j, up)
    ];
    length_is = λ g i. elim i [ ];
    saves_length = λ u i k e. elim (by_token u i) [
      | inl q ↦ absurd (true_false (is_length_clean m.lengths (content m.cache) u.fid)
          (subst (λ (x : Token). is_length_clean m.lengths (content m.cache) x.fid ≡ true) q
          (clean.length (subst (λ (x : Token). updates_status x.kind ≡ true) (sym q) k))) e)
      | inr j ↦ inl j
    ];
    ends = λ g e i. elim i [ ];
    ends_used = λ g u i. elim i [ ];
    sends = λ g o fresh. absurd (fresh (none_new g o));
  }
    where
      updates_file : (u : Token) (fid : Fid) (at : ℕ) → UpdatesByte u fid at → u.fid ≡ fid
      updates_file u fid at up = up.1

  cause : CauseMay script m.host past s
  cause = record {
    live = stands.live;
    takes = λ t i. elim i [ ];
    takes_all = record { all = λ w t u. absurd (quiet.none_used w u.0); once = λ t u i. elim i [ ] };
    new_gives = λ g o fresh. absurd (fresh (none_new g o));
    lines = record {
      next = λ n e. absurd (cc);
      free = λ n e. absurd (cc);
      begins = λ k c b. absurd (no_turn k c (inl b));
      no_server = (λ n d. cc, λ d. cc);
      applies_none = (refl, refl, refl);
      after = λ d. absurd (cc);
      implied = λ k d e. absurd (cc);
    };
  }

  none_asking : (fs : FilesetId) (n : ℕ) → Asking (s ∷ past) fs n → ⊥
  none_asking fs n (inl x, _) = let q = body_is x.1.0 x.1.1 x.1.2 (Fetch x.0) x.1.3 in absurd (cc)
  none_asking fs n (inr x, _) = let r = stands.request.asking fs n x in no_request (AFetch r.0) r.1

  none_changing : (v : ServerId) (fs : FilesetId) (n : ℕ) → Changing (s ∷ past) v fs n → ⊥
  none_changing v fs n (inl x, _) = let q = body_is x.1.0 x.1.1 x.1.2 (Change x.0) x.1.3 in absurd (cc)
  none_changing v fs n (inr x, _) = let r = stands.request.changing v fs n x in no_request (AChange r.0 r.1) r.2

  -- it is in no give-back that isn't known
  free_of : (g : Give) → Made (s ∷ past) g → In t.id g.ids → IsKnown (s ∷ past) g
  free_of g (inl i) j = elim i [ ]
  free_of g (inr x) j = elim (stands.gives.all g x) [
    | inl k ↦ inr k
    | inr y ↦ absurd (any_false (names t.id) m.gives.gives clean.unnamed y.0 y.1
        (subst (λ (b : Body). option_map_or (λ (give : Give). list_any (λ other. same_id other t.id) give.ids)
        (given_in b) false ≡ true) (sym y.2)
        (any_in (λ (other : TokenId). same_id other t.id) g.ids t.id j (id_same t.id t.id refl))))
  ]

  may : (stance : Stance script.roster m.host past s) (x : Message) → In x s.sent
      → MaySend script.roster m.host past s stance x
  may stance x (inr i) = elim i [ ]
  may stance x (inl e) = subst (MaySend script.roster m.host past s stance) (sym e) (record {
    epoch_is = (learnt.sites (home t.fid.fileset)).epoch;
    says = (
      record {
        place = refl;
        file = λ u a i. elim i [
          | inl e ↦
              ap (λ (x : Token). x.fid) (learnt.cache.once u t (standing.of_hand script m past s learnt u a) its_held e)
          | inr k ↦ elim k [ ]
        ];
      },
      λ i j. elim j [
        | inl e ↦ subst (MayReturn past s) (sym e)
            (record {
              from = inl (t, standing.hand_of script m past s learnt t its_held, refl);
              free = free_of;
              idle = its_idle.1;
            })
        | inr k ↦ elim k [ ]
      ],
    );
  })

  pub meets : HostMay script m.host past s
  meets = leaves_may script m past s learnt (held_of new) keeping gives
      (record {
        answers = refl;
        wrote = refl;
        begun = refl;
        stuck = λ k call x. absurd (no_turn k call x);
      })
      cause
      (λ l i. elim i [
        | inl e ↦ subst (λ (x : Leave). MayLeave script.roster m.host (limit_of script.roster m.host) past s x.why
            x.token) (sym e)
            (refl, may_evict, its_idle, using.oldest_is_oldest script m past stands h last)
        | inr k ↦ elim k [ ]
      ])
      (λ stance k a o u. record {
        may = may stance;
        asks = λ d x. absurd (elim x [ inl e ↦ (let p : None ≡ Some d = e in cc) | inr y ↦ none_open d y.0 ]);
        one_fetch = λ fs gs n k a. absurd (none_asking fs n a);
        one_change = λ v w fs gs n k a. absurd (none_changing v fs n a);
        one_of_both = λ v fs gs n k a b. none_asking fs n a;
      })

  used_there : (u : Labelled) → LabelInUse (half s ∷ past) u → LabelInUse (s ∷ past) u
  used_there u i = inr (standing.used_before script m past s learnt u i, (λ e. elim e.1 [ ]), λ g j. elim j [ ])

  used_back : (u : Labelled) → LabelInUse (s ∷ past) u → LabelInUse (half s ∷ past) u
  used_back u (inl i) = elim i [ ]
  used_back u (inr x) = standing.used_after script m past s learnt u x.0

  kept_there : (i : TokenId) → HasKeptToken (half s ∷ past) i → HasKeptToken (s ∷ past) i
  kept_there i (inl k) = elim k.4.1 [ ]
  kept_there i (inr k) = inr k

  kept_back : (i : TokenId) → HasKeptToken (s ∷ past) i → HasKeptToken (half s ∷ past) i
  kept_back i (inl k) = let p = body_is k.0 k.1 k.2 (KeptBody k.3) k.4 in absurd (cc)
  kept_back i (inr k) = inr k

  fetched_is : (g : FetchOf) → HasFetched (s ∷ past) g → HasFetched (half s ∷ past) g
  fetched_is g (v, e, n, inl p) = let q = body_is v e n (Fetch g) p in absurd (cc)
  fetched_is g (v, e, n, inr p) = (v, e, n, inr p)

  changed_is : (v : ServerId) (d : ChangeOf) → HasChanged (s ∷ past) v d → HasChanged (half s ∷ past) v d
  changed_is v d (w, e, n, inl p, k) = let q = body_is w e n (Change d) p in absurd (cc)
  changed_is v d (w, e, n, inr p, k) = (w, e, n, inr p, k)

  -- the rest of the order
  order : OrderStands script.roster m.host cache.held (s ∷ past)
  order before behind late early e i =
      let kept : OrderStands script.roster m.host m.cache.held (s ∷ past) = using.order_is_kept script m past s learnt
      (λ a i. elim i [ ]) meets.stance [] (λ need i. elim i [ ]) (λ a need i. elim i [ ]) in
      let p = using.before_parts m.cache.held late early (using.filter_before (is_other t.id) m.cache.held late early
      (subst (λ (xs : List Held). using.IsBefore xs late early) (sym e ∙ without.held)
      (using.parts_before before behind late early i))) in
      kept p.0 p.1 late early p.2 p.3

  -- no label is on it
  not_used : (u : Labelled) → LabelInUse (s ∷ past) u → Drops s u.token → ⊥
  not_used u (inl i) d = elim i [ ]
  not_used u (inr x) d = its_idle.1 (u, x.0, ap (λ (x : Token). x.id) (sym (drops_is u.token d)))

  holds_back : (i : TokenId) → HoldsId (s ∷ past) i → HoldsId (half s ∷ past) i
  holds_back i (u, x, e) = (u, (x.0, λ d. elim d.1 [ ]), e)

  settled : Settled script m new past s
  settled = record {
    host = refl;
    user = refl;
    limit = refl;
    no_stop = λ p. let q = body_is p.0 p.1 p.2 Down p.3 in absurd (cc);
    stay = λ u i. ((were u i).0, (keeping.stay u i).1);
    all = λ u i. elim (keeping.gone u i) [ inl j ↦ inl j | inr x ↦ inr x.1 ];
    marked = λ x i e. let r = learnt.cache.marked x (held_back x i).0 e in (r.0, used_there r.0 r.1, r.2);
    unmarked = λ x i e u. learnt.cache.unmarked x (held_back x i).0 e (u.0, used_back u.0 u.1, u.2);
    tells = λ x i e. learnt.cache.tells x (held_back x i).0 e;
    content_is = without.content_is;
    beyond = without.beyond;
    zero = λ fid at far. without.beyond fid at far ∙ learnt.contents.zero fid at far;
    order = order;
    dirty_before = stands.dirty.under;
    dirty = λ fid at. and_true (is_dirty_in m.dirty fid at);
    written = λ fid at e. absurd (cc);
    length_new = λ g n i. elim i [ ];
    length_old = λ fid none. refl;
    label_is = λ u i. inr (i, (λ e. elim e.1 [ ]), λ g j. elim j [ ]);
    is_label = λ u x. elim x [ inl i ↦ elim i [ ] | inr y ↦ y.0 ];
    begun_held = λ u i. elim i [ ];
    used_stay = not_used;
    pinned = λ u x e. kept_there u.token.id (learnt.uses.pinned u (used_back u x) e);
    kept = λ u x k. learnt.uses.kept u (used_back u x) (kept_back u.token.id k);
    kept_used = λ i k x. let r = learnt.uses.kept_used i (kept_back i k) (holds_back i x) in
        (r.0, used_there r.0 r.1, r.2);
    label_order = λ before behind first later e i x. learnt.uses.order before behind first later e i x;
    labels = record { locks = learnt.labels.locks; opens = learnt.labels.opens };
    gives_from = λ x i. inl i;
    gives_old = λ x i. i;
    gives_new = λ g i. elim i [ ];
    unknown = λ g i. elim i [ ];
    last_up = λ fs. omega arith;
    last_new = λ g i. elim i [ ];
    last_is = λ fs. inl refl;
    leaving = record {
      tokens = learnt.leaving.tokens;
      from = learnt.leaving.from;
      ends = learnt.leaving.ends;
      ended = learnt.leaving.ended;
      one = learnt.leaving.one;
      uses = learnt.leaving.uses;
    };
    floors = refl;
    site_epoch = λ v. refl;
    site_welcome = λ v. refl;
    site_has_bye = λ v. refl;
    site_greeted = λ v. (
      (λ e. inl e),
      λ x. elim x [
        | inl e ↦ e
        | inr p ↦ (let q = body_is v p.0 p.1 Hello p.2 in
            absurd (cc))
      ],
    );
    site_said_bye = λ v. (
      (λ e. inl e),
      λ x. elim x [
        | inl e ↦ e
        | inr p ↦ (let q = body_is v p.0 p.1 Bye p.2 in
            absurd (cc))
      ],
    );
    site_claimed = λ v. (
      (λ e. inl e),
      λ x. elim x [
        | inl e ↦ e
        | inr p ↦ (let q = body_is v p.0 p.1 (Reclaim p.2) p.3 in
            absurd (cc))
      ],
    );
    claims_apart = λ v a p. let q = body_is v p.0 p.1 (Reclaim p.2) p.3 in absurd (cc);
    request = record {
      fetch = λ g e. absurd (no_request (AFetch g) e);
      change = λ v d e. absurd (no_request (AChange v d) e);
      asking = λ fs n a. absurd (none_asking fs n a);
      changing = λ v fs n a. absurd (none_changing v fs n a);
      one_fetch = λ g k hg hk at number. learnt.request.one_fetch g k (fetched_is g hg) (fetched_is k hk) at number;
      entering = λ v d w name e. absurd (no_request (AChange v d) e);
      one_change = λ v d k hd hk at number. learnt.request.one_change v d k (changed_is v d hd) (changed_is v k hk) at
          number;
    };
    numbers = record {
      fetches = λ fs n x. learnt.numbers.fetches fs n (x.0, fetched_is x.0 x.1, x.2, x.3);
      fetch_last = λ fs. elim (stands.numbers.fetch_last fs) [
        | inl z ↦ inl z
        | inr x ↦ inr (x.0, (x.1.0, x.1.1, x.1.2, inr x.1.3), x.2, x.3)
      ];
      changes = λ v fs n x. learnt.numbers.changes v fs n (x.0, changed_is v x.0 x.1, x.2, x.3);
      change_last = λ v fs. elim (stands.numbers.change_last v fs) [
        | inl z ↦ inl z
        | inr x ↦ inr (x.0, (x.1.0, x.1.1, x.1.2, inr x.1.3, x.1.4), x.2, x.3)
      ];
    };
    homes = refl;
    call_from = λ d e. absurd (not_open d e);
    call_asked = λ d e. absurd (cc);
    call_stays = λ d e none. e;
    begun = let b = stands.call.begun in omega (arith, b);
    lost = λ d e. absurd (not_open d e);
    parted = λ v said. parted_none v said;
  }
    where
      parted_none : (v : ServerId) → HasSaid (s ∷ past) v Bye → PartedStands m.request m.call v (s ∷ past)
      parted_none v (e, n, inl p) = let q = body_is v e n Bye p in absurd (cc)
      parted_none v (e, n, inr p) = absurd ((stands.parted v (e, n, p)).none_owned t (stands.cache.owned t its_held))

  pub right : StepRight script m new past s
  right = record {
    may = meets;
    rests = record {
      stands = settling.settles_right script m new past s learnt meets settled;
      rest = record {
        stuck = λ d e. absurd (not_open d e);
        synced = λ d place fid x e. absurd (not_open d e);
        freed = λ d u e. absurd (not_open d e);
        waits = λ d e. absurd (not_open d e);
        alone = rests.rest.alone;
      };
    };
  }

pub evicts_right : EvictsRight
evicts_right script m past h cache rests free many once last clean without = right script m past h cache rests free many
    once last clean without
