-- The tables settle after a step in which a call is answered.
use Rattle.base_types.specs.Ids.{same_fid}
use Rattle.base_types.specs.declared.ids.Fid.{Fid}
use Rattle.base_types.specs.declared.ids.HostId.{HostId}
use Rattle.base_types.specs.declared.limits.TheConstants.{FILE_BYTES_MAX}
use Rattle.host_cache.specs.Holding.{is_status, tokens_of}
use Rattle.host_cache.specs.declared.held.Held.{Held}
use Rattle.host_dirty.specs.Dirtiness.{is_dirty as is_dirty_in}
use Rattle.host_labels.specs.Labels.{is_pinned}
use Rattle.host_labels.specs.declared.uses.Labelled.{Labelled as UseOf}
use Rattle.host_tables.proofs.Lists.{filter_in, in_either, in_filter, in_left, in_map, in_parts, in_right, map_in}
use Rattle.host_tables.proofs.Lists.{none_in, true_false}
use Rattle.host_tables.proofs.Settling.{settles_right}
use Rattle.host_tables.specs.AnswerSteps.{AnswerRight, AnswerSettles, AnswerStepRight, AnsweredBy, SaysMove}
use Rattle.host_tables.specs.AnswerSteps.{with_answered}
use Rattle.host_tables.specs.AnswerSteps.IsCallOf.{AtOnce, Later}
use Rattle.host_tables.specs.Half.{half}
use Rattle.host_tables.specs.Machine.{StepRight}
use Rattle.host_tables.specs.Quiet.{Moved, with_moved}
use Rattle.host_tables.specs.Settling.{Settled}
use Rattle.host_tables.specs.Stands.{LeavingStands, Stands}
use Rattle.host_tables.specs.Tables.{held_of, labelled}
use Rattle.host_tables.specs.declared.tables.Tables.{Tables}
use Rattle.message_types.specs.declared.giving.Give.{Give}
use Rattle.run_rules.specs.HostMay.{HostMay, TakenBefore}
use Rattle.run_rules.specs.HostTokens.{OwnsUpdate}
use Rattle.run_rules.specs.Messages.{HasKeptToken}
use Rattle.run_rules.specs.Past.{In}
use Rattle.run_rules.specs.Tokens.{Drops, EndsUse, HasEndedUse, HoldsId, LabelInUse, LeavesHost, Made, TokenInUse}
use Rattle.run_rules.specs.Tokens.{calls_begun}
use Rattle.run_rules.specs.Views.{byte_of, gives_at, is_dirty, writes_at}
use Rattle.run_rules.specs.declared.applied.Answer.{Answer as AnswerOf}
use Rattle.run_rules.specs.declared.step.Asked.{Asked}
use Rattle.run_rules.specs.declared.step.Labelled.{Labelled}
use Rattle.run_rules.specs.declared.step.Step.{Step}
use Rattle.script_lines.specs.declared.script.Script.{Script}
use Rattle.std.proofs.Common.{Bool, List, None, Option, Some, [], ap, arith, count_by, false, filter, if◌then◌else◌}
use Rattle.std.proofs.Common.{inl, inr, is_some, not, refl, subst, sym, true, ℕ, ◌&&◌, ◌++◌, ◌+◌, ◌<◌, ◌||◌, ◌∙◌, ◌∷◌}
use Rattle.std.proofs.Common.{◌≡◌, ◌⊎◌}
use Rattle.std.specs.List.{list_any}
use Rattle.token_types.specs.declared.token.Token.{Token}
use Rattle.token_types.specs.declared.token.TokenId.{TokenId}
use Rattle.tree_laws.specs.Parts.Part.{ByteAt}
use Rattle.host_tables.proofs.Standing as standing
use Rattle.host_tables.proofs.Using as using

and_true : (a b : Bool) → b ≡ false → a ≡ (a && not b)
and_true a b e = plain a ∙ ap (λ (x : Bool). a && not x) (sym e)
  where
    plain : (a : Bool) → a ≡ (a && true)
    plain true = refl
    plain false = refl

-- of two lists one after the other: a pair in order stands in the first, or its second in the other
before_both : {A : Type 0} (xs ys : List A) (a b : A) → using.IsBefore (xs ++ ys) a b
    → using.IsBefore xs a b ⊎ ((In a xs × In b ys) ⊎ using.IsBefore ys a b)
before_both [] ys a b r = inr (inr r)
before_both (x ∷ xs) ys a b (inl (e, i)) = elim (in_either xs ys b i) [
  | inl j ↦ inl (inl (e, j))
  | inr j ↦ inr (inl (inl (sym e), j))
]
before_both (x ∷ xs) ys a b (inr r) = elim (before_both xs ys a b r) [
  | inl j ↦ inl (inr j)
  | inr j ↦ elim j [ inl k ↦ inr (inl (inr k.0, k.1)) | inr k ↦ inr (inr k) ]
]

module _ (script : Script) (m : Tables) (w : AnsweredBy) (x : Moved) (past : List Step) (s : Step) (a : AnswerOf)
    (learnt : Stands script m (half s ∷ past)) (under : (fid : Fid) (at : ℕ) → is_dirty past fid at ≡ true
    → OwnsUpdate past fid at)
    (meets : HostMay script m.host past s) (right : AnswerRight script m w x past s a) (says : SaysMove m x past s)
  where
    none_made : (g : Give) → In g s.made → ⊥
    none_made g i = none_in s.made right.made g i

    none_dropped : (t : Token) → Drops s t → ⊥
    none_dropped t d = none_in s.dropped right.dropped d.0 d.1

    made_half : (g : Give) → Made (s ∷ past) g → Made (half s ∷ past) g
    made_half g (inl i) = absurd (none_made g i)
    made_half g (inr i) = inr i

    half_made : (g : Give) → Made (half s ∷ past) g → Made (s ∷ past) g
    half_made g (inl i) = elim i [ ]
    half_made g (inr i) = inr i

    ended_half : (g : Give) (u : Labelled) → HasEndedUse (s ∷ past) g u → HasEndedUse (half s ∷ past) g u
    ended_half g u (inl i) = absurd (none_made g i.0)
    ended_half g u (inr i) = inr i

    half_ended : (g : Give) (u : Labelled) → HasEndedUse (half s ∷ past) g u → HasEndedUse (s ∷ past) g u
    half_ended g u (inl i) = elim i.0 [ ]
    half_ended g u (inr i) = inr i

    -- labels in use, and those of the tables
    abbrev used_of : Labelled → UseOf
    used_of u = record { label = u.label; token = u.token }

    in_labels : (u : UseOf) → In u w.uses.labels → LabelInUse (s ∷ past) (labelled u)
    in_labels u i = elim (in_either (filter right.keeps_label m.uses.labels) right.taken_label u
        (subst (In u) right.labels_are i)) [
          | inl j ↦ (
              let r = in_filter right.keeps_label m.uses.labels u j in
              inr (
                standing.used_before script m past s learnt (labelled u) (learnt.uses.used u r.0),
                right.label_ended u r.1,
                λ g k. absurd (none_made g k),
              )
              )
          | inr j ↦ inl (right.is_taken u j)
        ]

    of_labels : (u : Labelled) → LabelInUse (s ∷ past) u → In (used_of u) w.uses.labels
    of_labels u (inl i) = subst (In (used_of u)) (sym right.labels_are)
        (in_right (filter right.keeps_label m.uses.labels) right.taken_label (used_of u) (right.begins u i).0)
    of_labels u (inr i) = subst (In (used_of u)) (sym right.labels_are)
        (in_left (filter right.keeps_label m.uses.labels) right.taken_label (used_of u)
        (filter_in right.keeps_label m.uses.labels (used_of u)
        (learnt.uses.labels u (standing.used_after script m past s learnt u i.0)) (right.label_kept (used_of u)
        (learnt.uses.labels u (standing.used_after script m past s learnt u i.0)) i.1)))

    token_there : (t : Token) → In t (held_of m) → In t (tokens_of w.cache.held)
    token_there t i =
        let r = in_map (λ (h : Held). h.token) m.cache.held t i in
        let k = right.held_to r.0 r.1 in
        subst (λ (z : Token). In z (tokens_of w.cache.held)) (k.2 ∙ sym r.2)
        (map_in (λ (h : Held). h.token) w.cache.held
        k.0 k.1)

    token_back : (t : Token) → In t (tokens_of w.cache.held) → In t (held_of m)
    token_back t i =
        let r = in_map (λ (h : Held). h.token) w.cache.held t i in
        let k = right.held_from r.0 r.1 in
        subst (λ (z : Token). In z (held_of m)) (k.2 ∙ sym r.2) (map_in (λ (h : Held). h.token) m.cache.held k.0 k.1)

    kept_half : (i : TokenId) → HasKeptToken (s ∷ past) i → HasKeptToken (half s ∷ past) i
    kept_half i (inl k) = absurd (right.none_kept i k)
    kept_half i (inr k) = inr k

    half_kept : (i : TokenId) → HasKeptToken (half s ∷ past) i → HasKeptToken (s ∷ past) i
    half_kept i (inl k) = elim k.4.1 [ ]
    half_kept i (inr k) = inr k

    holds_half : (i : TokenId) → HoldsId (s ∷ past) i → HoldsId (half s ∷ past) i
    holds_half i (t, h, e) = (t, (h.0, λ d. elim d.1 [ ]), e)

    -- a label of the tables whose use goes on
    on_of : (u : UseOf) → In u m.uses.labels → (EndsUse s (labelled u) → ⊥) → LabelInUse (s ∷ past) (labelled u)
    on_of u i on = inr (
      standing.used_before script m past s learnt (labelled u) (learnt.uses.used u i),
      on,
      λ g j. absurd (none_made g j),
    )

    kept_used : (i : TokenId) → HasKeptToken (s ∷ past) i → HoldsId (s ∷ past) i → TokenInUse (s ∷ past) i
    kept_used i k h =
        let r = learnt.uses.kept_used i (kept_half i k) (holds_half i h) in
        let there = learnt.uses.labels r.0 r.1 in
        let pin = learnt.uses.kept r.0 r.1 (subst (HasKeptToken (half s ∷ past)) (sym r.2) (kept_half i k)) in
        let z = right.frees (used_of r.0) there pin in
        (labelled z.0, on_of z.0 z.1 (right.label_ended z.0 z.2), z.3 ∙ r.2)

    pinned : (u : Labelled) → LabelInUse (s ∷ past) u → is_pinned w.uses u.token.id ≡ true
        → HasKeptToken (s ∷ past) u.token.id
    pinned u (inl i) e =
        let p = sym (right.pins u.token.id) ∙ e in
        let z = right.pinned_before u i p in
        half_kept u.token.id (subst (HasKeptToken (half s ∷ past)) z.2 (learnt.uses.pinned (labelled z.0)
        (learnt.uses.used z.0 z.1) (subst (λ (k : TokenId). is_pinned m.uses k ≡ true) (sym z.2) p)))
    pinned u (inr i) e = half_kept u.token.id (learnt.uses.pinned u (standing.used_after script m past s learnt u i.0)
        (sym (right.pins u.token.id) ∙ e))

    kept : (u : Labelled) → LabelInUse (s ∷ past) u → HasKeptToken (s ∷ past) u.token.id → is_pinned w.uses u.token.id
        ≡ true
    kept u (inl i) k =
        let h = standing.hand_of script m past s learnt u.token (right.begins u i).1 in
        let r = learnt.uses.kept_used u.token.id (kept_half u.token.id k) (u.token, (h, λ d. elim d.1 [ ]), refl) in
        right.pins u.token.id ∙ subst (λ (z : TokenId). is_pinned m.uses z ≡ true) r.2
        (learnt.uses.kept r.0 r.1 (subst (HasKeptToken (half s ∷ past)) (sym r.2) (kept_half u.token.id k)))
    kept u (inr i) k =
        right.pins u.token.id ∙ learnt.uses.kept u (standing.used_after script m past s learnt u i.0)
        (kept_half u.token.id k)

    -- one that is taken wasn't in use
    label_anew : (first : UseOf) → In first w.uses.labels → TakenBefore (s ∷ past) (labelled first) (labelled first) → ⊥
    label_anew first i t = elim t [
      | inl b ↦ right.fresh first b.0 (learnt.uses.labels (labelled first)
          (inr (b.1, (λ z. elim z.1 [ ]), λ g z. elim z [ ])))
      | inr b ↦ elim (in_either (filter right.keeps_label m.uses.labels) right.taken_label first
          (subst (In first) right.labels_are i)) [
            | inl j ↦
                let p = in_parts m.uses.labels first (in_filter right.keeps_label m.uses.labels first j).0 in
                learnt.uses.order p.0 p.1 first first p.2 (inl refl) (inr (b.0, λ z. elim z [ ]))
            | inr k ↦ b.1 (right.is_taken first k)
          ]
    ]

    label_later : (before behind : List UseOf) (first later : UseOf) → w.uses.labels ≡ before ++ first ∷ behind
        → In later behind → TakenBefore (s ∷ past) (labelled later) (labelled first) → ⊥
    label_later before behind first later e i t =
        elim (before_both (filter right.keeps_label m.uses.labels) right.taken_label first later
        (subst (λ (xs : List UseOf). using.IsBefore xs first later) (sym e ∙ right.labels_are)
        (using.parts_before before behind first later i))) [
          | inl r ↦ (
              let q = using.filter_before right.keeps_label m.uses.labels first later r in
              let p = using.before_parts m.uses.labels first later q in
              elim t [
                | inl b ↦ right.fresh first b.0 (first_in p.0 p.1 p.2)
                | inr b ↦ learnt.uses.order p.0 p.1 first later p.2 (inr p.3) (inr (b.0, λ z. elim z [ ]))
              ]
              )
          | inr z ↦ elim z [
            | inl k ↦ elim t [
              | inl b ↦ right.fresh first b.0 (in_filter right.keeps_label m.uses.labels first k.0).0
              | inr b ↦ b.1 (right.is_taken later k.1)
            ]
            | inr k ↦ (
                let p = using.before_parts right.taken_label first later k in
                right.one_taken first later p.0 p.1 p.2 p.3
                )
          ]
        ]
      where
        first_in : (us vs : List UseOf) → m.uses.labels ≡ us ++ first ∷ vs → In first m.uses.labels
        first_in us vs e = subst (In first) (sym e) (in_right us (first ∷ vs) first (inl refl))

    label_order : (before behind : List UseOf) (first later : UseOf) → w.uses.labels ≡ before ++ first ∷ behind
        → In later (first ∷ behind) → TakenBefore (s ∷ past) (labelled later) (labelled first) → ⊥
    label_order before behind first later e (inr i) t = label_later before behind first later e i t
    label_order before behind first later e (inl q) t =
        label_anew first (subst (In first) (sym e) (in_right before (first ∷ behind) first (inl refl)))
        (subst (λ (u : UseOf). TakenBefore (s ∷ past) (labelled u) (labelled first)) q t)

    -- the rest is as before
    leaving : LeavingStands m.leaving m.ending (s ∷ past)
    leaving = record {
      tokens = λ g i mk. learnt.leaving.tokens g i (made_half g mk);
      from = λ y i. let r = learnt.leaving.from y i in
          (r.0, (r.1.0, half_made r.1.0 r.1.1, r.1.2, r.1.3, r.1.4, r.1.5, r.1.6));
      ends = λ u e. let r = learnt.leaving.ends u e in (r.0, (r.1.0, half_ended r.1.0 u r.1.1, r.1.2));
      ended = λ u g h. learnt.leaving.ended u g (ended_half g u h);
      uses = λ g b y p u. let r = learnt.leaving.uses g b (made_half g y) p u in (r.0, half_ended g r.0 r.1);
      one = λ g k b c y z. learnt.leaving.one g k b c (made_half g y) (made_half k z);
    }

    gives_nothing : (fid : Fid) (at : ℕ) → gives_at s fid at ≡ false
    gives_nothing fid at =
        ap (list_any (λ (give : Give). same_fid give.fid fid && is_some (byte_of give.pieces at))) right.made

    written : (fid : Fid) (at : ℕ) → writes_at s fid at ≡ true → OwnsUpdate (s ∷ past) fid at × (at < FILE_BYTES_MAX)
    written fid at e =
        let r = right.written fid at e in
        let h = standing.hand_of script m past s learnt r.0.0 r.0.1 in
        ((r.0.0, ((learnt.cache.owned r.0.0 r.0.1).0, no_leaves r.0.0 r.0.1), r.0.2), r.1)
      where
        no_leaves : (t : Token) → In t (held_of m) → LeavesHost s t.id → ⊥
        no_leaves t i k = none_dropped t (meets.tokens.drops t (standing.hand_of script m past s learnt t i) k)

    -- the call
    answer_of : (b : AnswerOf) → In b s.answers → a ≡ b
    answer_of b i = elim (subst (In b) right.answers i) [ inl e ↦ sym e | inr k ↦ elim k [ ] ]

    in_answers : In a s.answers
    in_answers = subst (In a) (sym right.answers) (inl refl)

    call_none : x.call ≡ None
    call_none = elim right.is_call [ AtOnce e f c b ↦ c | Later d e k f c b ↦ c ]

    call_stays : (c : Asked) → m.call ≡ Some c → ((b : AnswerOf) → In b s.answers → b.k ≡ c.k → ⊥) → x.call ≡ Some c
    call_stays c e none = elim right.is_call [
      | AtOnce z f k b ↦ absurd (let p = sym z ∙ e in cc)
      | Later d z k f y b ↦ absurd (none a in_answers (k ∙ ap (λ (q : Asked). q.k) (some_asked d c (sym z ∙ e))))
    ]
      where
        some_asked : (d c : Asked) → Some d ≡ Some c → d ≡ c
        some_asked d c e = cc

    begun : x.begun ≡ calls_begun (s ∷ past)
    begun =
        let n : ℕ = if a.first then 1 else 0 in
        let r = counts n refl in
        let b = learnt.call.begun in
        elim right.is_call [
          | AtOnce e f c k ↦ (let q = first_is true f in omega (arith, r, b, k, q))
          | Later d e z f c k ↦ (let q = first_is false f in omega (arith, r, b, k, q))
        ]
      where
        first_is : (b : Bool) → a.first ≡ b → ◌≡◌ {A = ℕ} (if a.first then 1 else 0) (if b then 1 else 0)
        first_is b e = ap (λ (z : Bool). if z then 1 else 0) e

        count_one : (z : AnswerOf) (n : ℕ) → ◌≡◌ {A = ℕ} (if z.first then 1 else 0) n
            → count_by (λ (y : AnswerOf). y.first) (z ∷ []) ≡ n
        count_one z n e = by_first z.first refl ∙ e
          where
            by_first : (b : Bool) → z.first ≡ b
                → ◌≡◌ {A = ℕ} (count_by (λ (y : AnswerOf). y.first) (z ∷ [])) (if z.first then 1 else 0)
            by_first true p = rw p refl
            by_first false p = rw p refl

        counts : (n : ℕ) → ◌≡◌ {A = ℕ} (if a.first then 1 else 0) n → calls_begun (s ∷ past) ≡ n + calls_begun past
        counts n e =
            ap (λ (q : Option Asked × List AnswerOf). (if is_some q.0 then 1 else count_by (λ (y : AnswerOf). y.first)
            q.1)
            + calls_begun past) (λ i. (right.asked i, right.answers i))
            ∙ ap (λ (k : ℕ). k + calls_begun past) (count_one a n e)

    pub settled : Settled script m (with_moved (with_answered m w) x) past s
    settled = record {
      host = refl;
      user = refl;
      limit = refl;
      no_stop = right.no_stop;
      stay = λ t i. (token_back t i, none_dropped t);
      all = λ t i. inl (token_there t i);
      marked = λ h i e. let r = right.marked h i e in (labelled r.0, in_labels r.0 r.1, r.2);
      unmarked = λ h i e u. true_false h.in_use (right.marks h (used_of u.0) i (of_labels u.0 u.1) u.2) e;
      tells = λ h i e. let r = right.held_from h i in
          sym r.3 ∙ learnt.cache.tells r.0 r.1 (subst (λ (t : Token). is_status t.kind ≡ true) (sym r.2) e);
      content_is = λ fid part e. right.content_is fid part;
      beyond = λ fid at far. right.content_is fid (ByteAt at);
      zero = right.zero;
      order = right.order;
      dirty_before = under;
      dirty = λ fid at. right.dirty fid at ∙ and_true (writes_at s fid at || is_dirty_in m.dirty fid at)
          (gives_at s fid at) (gives_nothing fid at);
      written = written;
      length_new = λ g n i. absurd (none_made g i);
      length_old = λ fid none. refl;
      label_is = λ u i. elim (in_labels u i) [
        | inl b ↦ inl b
        | inr k ↦ inr (
          learnt.uses.labels (labelled u) (standing.used_after script m past s learnt (labelled u) k.0),
          k.1,
          k.2,
        )
      ];
      is_label = λ u y. elim y [
        | inl b ↦ of_labels (labelled u) (inl b)
        | inr k ↦ of_labels (labelled u) (inr (
          standing.used_before script m past s learnt (labelled u)
              (learnt.uses.used u k.0),
          k.1,
          k.2,
        ))
      ];
      begun_held = λ u i. let r = right.begins u i in (token_there u.token r.1, r.2);
      used_stay = λ u y. none_dropped u.token;
      pinned = pinned;
      kept = kept;
      kept_used = kept_used;
      label_order = label_order;
      labels = record { locks = right.labels.locks; opens = right.labels.opens };
      gives_from = λ y i. inl i;
      gives_old = λ y i. i;
      gives_new = λ g i. absurd (none_made g i);
      unknown = λ g i. absurd (none_made g i);
      last_up = λ fs. omega arith;
      last_new = λ g i. absurd (none_made g i);
      last_is = λ fs. inl refl;
      leaving = leaving;
      floors = refl;
      site_epoch = says.sites.epoch;
      site_welcome = says.sites.welcome;
      site_has_bye = says.sites.has_bye;
      site_greeted = says.sites.greeted;
      site_said_bye = says.sites.said_bye;
      site_claimed = says.sites.claimed;
      claims_apart = says.sites.claims_apart;
      request = says.request;
      numbers = says.numbers;
      homes = refl;
      call_from = λ c e. absurd (let p = sym call_none ∙ e in cc);
      call_asked = λ c e. absurd (let p = sym right.asked ∙ e in cc);
      call_stays = call_stays;
      begun = begun;
      lost = λ c e. absurd (let p = sym call_none ∙ e in cc);
      parted = λ v b. absurd (right.no_bye v b);
    }

    pub stepped : (old : Tables) → old.host ≡ m.host → x.request ≡ None
        → StepRight script old (with_moved (with_answered m w) x) past s
    stepped old same idle = record {
      may = subst (λ (h : HostId). HostMay script h past s) (sym same) meets;
      rests = record {
        stands = settles_right script m (with_moved (with_answered m w) x) past s learnt meets settled;
        rest = record {
          stuck = λ c e. absurd (let p = sym call_none ∙ e in cc);
          synced = λ c place fid t e. absurd (let p = sym call_none ∙ e in cc);
          freed = λ c u e. absurd (let p = sym call_none ∙ e in cc);
          waits = λ c e. absurd (let p = sym call_none ∙ e in cc);
          alone = λ e. idle;
        };
      };
    }

pub answer_settles : AnswerSettles
answer_settles script m w x past s a learnt under meets right says = settled script m w x past s a learnt under meets
    right says

pub answer_step_right : AnswerStepRight
answer_step_right script old m w x past s a same under learnt meets right says idle =
    stepped script m w x past s a learnt under meets right says old same idle
