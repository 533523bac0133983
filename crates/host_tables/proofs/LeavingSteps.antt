-- The tables settle after a step in which tokens leave.
use Rattle.base_types.specs.Ids.{same_fid}
use Rattle.base_types.specs.declared.ids.Fid.{Fid}
use Rattle.base_types.specs.declared.ids.FilesetId.{FilesetId}
use Rattle.host_cache.specs.Holding.{tokens_of, used}
use Rattle.host_cache.specs.declared.held.Held.{Held}
use Rattle.host_dirty.specs.Dirtiness.{is_dirty as is_dirty_in}
use Rattle.host_gives.specs.Counters.{last_of}
use Rattle.host_labels.specs.declared.uses.Labelled.{Labelled as UseOf}
use Rattle.host_tables.proofs.Answered.{its}
use Rattle.host_tables.proofs.Lists.{filter_in, in_filter, in_parts, in_right, map_in, none_in, true_false}
use Rattle.host_tables.specs.Evicting.{returned}
use Rattle.host_tables.specs.Giving.{GivesBack}
use Rattle.host_tables.specs.Half.{half}
use Rattle.host_tables.specs.LeavingSteps.{IsSilent, LeavesRight, LeavingSettles, Left, with_left}
use Rattle.host_tables.specs.LeavingSteps.EndsBy.{EndsNone, EndsOne}
use Rattle.host_tables.specs.Letting.{Keeping}
use Rattle.host_tables.specs.Quiet.{Moved, MovesRight, with_moved}
use Rattle.host_tables.specs.Settling.{Settled}
use Rattle.host_tables.specs.Stands.{LeavingStands, OrderStands, Stands}
use Rattle.host_tables.specs.Tables.{content, labelled}
use Rattle.host_gives.specs.declared.leavings.Leaving.{Leaving}
use Rattle.host_tables.specs.declared.tables.Tables.{Tables}
use Rattle.message_types.specs.declared.giving.AppliedGive.{AppliedGive}
use Rattle.message_types.specs.declared.giving.Ends.{Ends}
use Rattle.message_types.specs.declared.giving.Give.{Give}
use Rattle.run_rules.specs.HostMay.{HostMay, TakenBefore}
use Rattle.run_rules.specs.HostTokens.{LastUsed, OwnsUpdate, UsesToken}
use Rattle.run_rules.specs.Messages.{HasKeptToken}
use Rattle.run_rules.specs.Past.{In}
use Rattle.run_rules.specs.Tokens.{Drops, EndsUse, EverHeld, GivesUse, HasEndedUse, Held as HeldBy, HoldsId, IsKnown}
use Rattle.run_rules.specs.Tokens.{IsKnownNumber, IsUseKind, LabelInUse, LeavesHost, Made, TokenInUse, number_of}
use Rattle.run_rules.specs.Views.{after_answers, changed_by_writes, gives_at, is_dirty, writes_at, writes_byte}
use Rattle.run_rules.specs.Views.{writes_to}
use Rattle.run_rules.specs.declared.applied.Answer.{Answer as AnswerOf}
use Rattle.run_rules.specs.declared.step.Labelled.{Labelled}
use Rattle.run_rules.specs.declared.step.Step.{Step}
use Rattle.script_lines.specs.declared.script.Script.{Script}
use Rattle.std.proofs.Common.{None, Bool, List, Option, Some, [], ap, arith, false, if◌then◌else◌, inl, inr, not, refl}
use Rattle.std.proofs.Common.{subst, sym, true, ℕ, ◌&&◌, ◌++◌, ◌||◌, ◌∙◌, ◌∷◌, ◌≡◌, ◌≤◌, ◌⊎◌}
use Rattle.std.specs.List.{list_any}
use Rattle.std.specs.Option.{option_map_or}
use Rattle.token_types.specs.declared.token.Token.{Token}
use Rattle.token_types.specs.declared.token.TokenId.{TokenId}
use Rattle.tree_laws.specs.Parts.{Part}
use Rattle.tree_laws.specs.Parts.Part.{ByteAt}
use Rattle.host_tables.proofs.Standing as standing
use Rattle.host_tables.proofs.Using as using
use Rattle.host_tables.proofs.Hearing as hearing_of

and_true : (a b : Bool) → a ≡ false → ((a || b) ≡ b)
and_true a b e = ap (λ (x : Bool). x || b) e

-- a number that is known is that of a give-back that was made
pub known_made : (past : List Step) (n : AppliedGive) → IsKnownNumber past n → (g : Give) × Made past g
    × (number_of g ≡ n)
known_made [] n k = elim k [ ]
known_made (a ∷ past) n (inl l) = (l.0.0, inr l.0.1, l.0.2)
known_made (a ∷ past) n (inr k) = let r = known_made past n k in (r.0, inr r.1, r.2)

held_ever : (past : List Step) (t : Token) → HeldBy past t → EverHeld past t
held_ever [] t h = elim h [ ]
held_ever (a ∷ past) t (inl i, _) = inl i
held_ever (a ∷ past) t (inr h, _) = inr (held_ever past t h)

module _ (script : Script) (m : Tables) (l : Left) (x : Moved) (past : List Step) (s : Step)
    (learnt : Stands script m (half s ∷ past)) (meets : HostMay script m.host past s)
    (under : (fid : Fid) (at : ℕ) → is_dirty past fid at ≡ true → OwnsUpdate past fid at)
    (silent : IsSilent s) (right : LeavesRight m l past s) (keeping : Keeping m past s (tokens_of l.cache.held))
    (gives : GivesBack m past s (tokens_of l.cache.held)) (moves : MovesRight m x past s) where
  none_answered : (a : AnswerOf) → In a s.answers → ⊥
  none_answered = none_in s.answers silent.answers

  none_begun : (u : Labelled) → In u s.begun → ⊥
  none_begun u i = none_in s.begun silent.begun u i

  none_ends : (u : Labelled) → EndsUse s u → ⊥
  none_ends u e = none_answered e.0 e.1

  -- what is left was there
  held_back : (h : Held) → In h l.cache.held → In h m.cache.held
  held_back h i = (in_filter right.stays m.cache.held h (subst (In h) right.held_is i)).0

  token_of : (h : Held) → In h l.cache.held → In h.token (tokens_of l.cache.held)
  token_of h i = map_in (λ (k : Held). k.token) l.cache.held h i

  no_leaves : (h : Held) → In h l.cache.held → LeavesHost s h.token.id → ⊥
  no_leaves h i = (keeping.stay h.token (token_of h i)).0

  -- a label of a token that stays is in use as before
  used_on : (u : Labelled) → LabelInUse (half s ∷ past) u → (LeavesHost s u.token.id → ⊥) → LabelInUse (s ∷ past) u
  used_on u i stays = inr (
    standing.used_before script m past s learnt u i,
    none_ends u,
    λ g j e. stays (inl (g, j, e.3)),
  )

  used_back : (u : Labelled) → LabelInUse (s ∷ past) u → LabelInUse (half s ∷ past) u
  used_back u (inl i) = absurd (none_begun u i)
  used_back u (inr i) = standing.used_after script m past s learnt u i.0

  kept_there : (i : TokenId) → HasKeptToken (half s ∷ past) i → HasKeptToken (s ∷ past) i
  kept_there i (inl k) = elim k.4.1 [ ]
  kept_there i (inr k) = inr k

  made_half : (g : Give) → Made past g → Made (half s ∷ past) g
  made_half g i = inr i

  half_made : (g : Give) → Made (half s ∷ past) g → Made past g
  half_made g (inl i) = elim i [ ]
  half_made g (inr i) = i

  -- what is made now isn't known: its number is above all
  unknown : (g : Give) → In g s.made → IsKnown (s ∷ past) g → ⊥
  unknown g i k =
      let r : (y : Give) × Made past y × (number_of y ≡ number_of g) = elim k [
        | inl e ↦ e.0
        | inr e ↦ known_made past (number_of g) e
      ] in
      let same : r.0.fid.fileset ≡ g.fid.fileset = ap (λ (n : AppliedGive). n.fileset) r.2 in
      let number : r.0.number ≡ g.number = ap (λ (n : AppliedGive). n.number) r.2 in
      let low : r.0.number ≤ last_of m.gives.counters g.fid.fileset =
      subst (λ (f : FilesetId). r.0.number ≤ last_of m.gives.counters f) same
      (learnt.gives.last r.0 (made_half r.0 r.1)) in
      let up = gives.above g i in omega (arith, number, low, up)

  -- the order of use
  uses_half : (t : Token) → UsesToken script.roster m.host past s t → UsesToken script.roster m.host past (half s) t
  uses_half t (inl i) = inl i
  uses_half t (inr u) = absurd (none_answered u.1 u.3)

  half_uses : (t : Token) → UsesToken script.roster m.host past (half s) t → UsesToken script.roster m.host past s t
  half_uses t (inl i) = inl i
  half_uses t (inr u) = elim u.3 [ ]

  last_half : (t : Token) (n : ℕ) → LastUsed script.roster m.host (s ∷ past) t n
      → LastUsed script.roster m.host (half s ∷ past) t n
  last_half t n (inl u) = inl (uses_half t u.0, u.1)
  last_half t n (inr k) = inr (k.0, λ u. k.1 (half_uses t u))

  order : OrderStands script.roster m.host l.cache.held (s ∷ past)
  order before behind late early e i n k a b =
      let p = using.before_parts m.cache.held late early (using.filter_before right.stays m.cache.held late early
      (subst (λ (xs : List Held). using.IsBefore xs late early) (sym e ∙ right.held_is)
      (using.parts_before before behind late early i))) in
      learnt.order p.0 p.1 late early p.2 p.3 n k (last_half late.token n a) (last_half early.token k b)

  writes_none : (fid : Fid) → writes_to s fid ≡ false
  writes_none fid = ap (λ (o : Option Fid). option_map_or (λ (file : Fid). same_fid file fid) o false) silent.wrote

  writes_none_at : (fid : Fid) (at : ℕ) → writes_at s fid at ≡ false
  writes_none_at fid at =
      ap (λ (b : Bool). b && list_any (λ (a : AnswerOf). writes_byte a.call at) s.answers) (writes_none fid)

  unwritten : (fid : Fid) (part : Part) → content m.cache fid part ≡ changed_by_writes s (content m.cache) fid part
  unwritten fid part =
      ap (λ (b : Bool). if b then after_answers s.answers part (content m.cache fid part) else content m.cache fid part)
      (sym (writes_none fid))

  dirty : (fid : Fid) (at : ℕ) → is_dirty_in l.dirty fid at
      ≡ ((writes_at s fid at || is_dirty_in m.dirty fid at) && not (gives_at s fid at))
  dirty fid at =
      right.dirty fid at ∙ ap (λ (b : Bool). (b || is_dirty_in m.dirty fid at) && not (gives_at s fid at))
      (sym (writes_none_at fid at))

  -- a dropped token isn't in use
  used_stay : (u : Labelled) → LabelInUse (s ∷ past) u → Drops s u.token → ⊥
  used_stay u (inl i) d = none_begun u i
  used_stay u (inr i) d = elim (keeping.gone u.token (keeping.dropped u.token d)) [
    | inl k ↦ (keeping.stay u.token k).1 d
    | inr k ↦ elim k.0 [
      | inl makes ↦ i.2 makes.0 makes.1 (gives.ends_used makes.0 u makes.1 i.0 makes.2)
      | inr returned ↦ meets.revoked.returns_idle u.token.id returned (u, i.0, refl)
    ]
  ]

  holds_half : (i : TokenId) → HoldsId (s ∷ past) i → HoldsId (half s ∷ past) i
  holds_half i (t, h, e) = (t, (h.0, λ d. elim d.1 [ ]), e)

  -- a token that is held after the step doesn't leave
  stays_held : (t : Token) → HeldBy (s ∷ past) t → LeavesHost s t.id → ⊥
  stays_held t h = elim (keeping.gone t (standing.of_hand script m past s learnt t h.0)) [
    | inl i ↦ (keeping.stay t i).0
    | inr k ↦ absurd (h.1 k.1)
  ]

  kept_used : (i : TokenId) → HasKeptToken (s ∷ past) i → HoldsId (s ∷ past) i → TokenInUse (s ∷ past) i
  kept_used i (inl k) h = (meets.revoked.keeps i k).1
  kept_used i (inr k) h =
      let r = learnt.uses.kept_used i (inr k) (holds_half i h) in
      (r.0, used_on r.0 r.1 (λ z. stays_held h.0 h.1 (subst (LeavesHost s) (r.2 ∙ sym h.2) z)), r.2)

  label_is : (u : UseOf) → In u l.uses.labels → In (labelled u) s.begun
      ⊎ (In u m.uses.labels × (EndsUse s (labelled u) → ⊥) × ((g : Give) → In g s.made → GivesUse g (labelled u) → ⊥))
  label_is u i =
      let r = in_filter right.keeps_label m.uses.labels u (subst (In u) right.labels_are i) in
      inr (r.0, none_ends (labelled u), right.label_gone u r.1)

  is_label : (u : UseOf) → In (labelled u) s.begun
      ⊎ (In u m.uses.labels × (EndsUse s (labelled u) → ⊥) × ((g : Give) → In g s.made → GivesUse g (labelled u) → ⊥))
      → In u l.uses.labels
  is_label u (inl i) = absurd (none_begun (labelled u) i)
  is_label u (inr i) = subst (In u) (sym right.labels_are)
      (filter_in right.keeps_label m.uses.labels u i.0 (right.label_kept u i.0 i.2))

  label_there : (u : Labelled) → LabelInUse (s ∷ past) u
      → In (record { label = u.label; token = u.token }) l.uses.labels
  label_there u (inl i) = absurd (none_begun u i)
  label_there u (inr i) = is_label (record { label = u.label; token = u.token })
      (inr (learnt.uses.labels u (standing.used_after script m past s learnt u i.0), i.1, i.2))

  label_later : (before behind : List UseOf) (first later : UseOf) → l.uses.labels ≡ before ++ first ∷ behind
      → In later behind → TakenBefore (s ∷ past) (labelled later) (labelled first) → ⊥
  label_later before behind first later e i t =
      let p = using.before_parts m.uses.labels first later (using.filter_before right.keeps_label m.uses.labels first
      later
      (subst (λ (xs : List UseOf). using.IsBefore xs first later) (sym e ∙ right.labels_are)
      (using.parts_before before behind first later i))) in
      learnt.uses.order p.0 p.1 first later p.2 (inr p.3) (taken_half t)
    where
      taken_half : TakenBefore (s ∷ past) (labelled later) (labelled first)
          → TakenBefore (half s ∷ past) (labelled later) (labelled first)
      taken_half (inl b) = absurd (none_begun (labelled first) b.0)
      taken_half (inr b) = inr (b.0, λ z. elim z [ ])

  label_order : (before behind : List UseOf) (first later : UseOf) → l.uses.labels ≡ before ++ first ∷ behind
      → In later (first ∷ behind) → TakenBefore (s ∷ past) (labelled later) (labelled first) → ⊥
  label_order before behind first later e (inr i) t = label_later before behind first later e i t
  label_order before behind first later e (inl q) t =
      let here = subst (In first) right.labels_are
      (subst (In first) (sym e) (in_right before (first ∷ behind) first (inl refl))) in
      let p = in_parts m.uses.labels first (in_filter right.keeps_label m.uses.labels first here).0 in
      elim (subst (λ (u : UseOf). TakenBefore (s ∷ past) (labelled u) (labelled first)) q t) [
        | inl b ↦ absurd (none_begun (labelled first) b.0)
        | inr b ↦ learnt.uses.order p.0 p.1 first first p.2 (inl refl) (inr (b.0, λ z. elim z [ ]))
      ]

  -- the tokens of give-backs, and the label that one ends
  ended_half : (g : Give) (u : Labelled) → HasEndedUse past g u → HasEndedUse (half s ∷ past) g u
  ended_half g u h = inr h

  -- none that ends a call is on its way, where no label is being ended
  none_before : m.ending ≡ None → (k : Give) (a : Ends) → Made past k → k.ends ≡ Some a
      → (IsKnown (half s ∷ past) k → ⊥) → ⊥
  none_before idle k a made p fresh =
      let r = learnt.leaving.uses k a (inr made) p fresh in
      let q = sym idle ∙ learnt.leaving.ended r.0 k r.1 fresh in absurd (cc)

  leaving : LeavingStands l.leaving l.ending (s ∷ past)
  leaving = record { tokens = tokens; from = from; ends = ends; ended = ended; one = one; uses = uses }
    where
      tokens : (g : Give) (i : TokenId) → Made (s ∷ past) g → In i g.ids → (IsKnown (s ∷ past) g → ⊥)
          → (y : Leaving) × In y l.leaving × (y.token.id ≡ i) × (y.fileset ≡ g.fid.fileset) × (y.number ≡ g.number)
      tokens g i (inl made) j fresh = let r = gives.ids g i made j in (
        record { fileset = g.fid.fileset; number = g.number; token = r.0 },
        right.leaving_new g r.0 made r.1 (subst (λ (k : TokenId). In k g.ids) (sym r.2) j),
        r.2,
        refl,
        refl,
      )
      tokens g i (inr made) j fresh =
          let r = learnt.leaving.tokens g i (inr made) j fresh in (r.0, right.leaving_old r.0 r.1, r.2, r.3, r.4)

      from : (y : Leaving) → In y l.leaving → EverHeld (s ∷ past) y.token
          × ((g : Give) × Made (s ∷ past) g × (IsKnown (s ∷ past) g → ⊥) × In y.token.id g.ids × (y.token.fid ≡ g.fid)
          × (y.fileset ≡ g.fid.fileset) × (y.number ≡ g.number))
      from y i = elim (right.leaving_from y i) [
        | inl j ↦ (
            let r = learnt.leaving.from y j in
            (r.0, (r.1.0, inr (half_made r.1.0 r.1.1), r.1.2, r.1.3, r.1.4, r.1.5, r.1.6))
            )
        | inr k ↦ (
            let t = gives.ids k.0 y.token.id k.1 k.3 in
            let same : t.0 ≡ y.token = learnt.cache.once t.0 y.token t.1 k.2 t.2 in (
              held_ever (half s ∷ past) y.token (learnt.cache.held y.token k.2),
              (k.0, inl k.1, unknown k.0 k.1, k.3, ap (λ (z : Token). z.fid) (sym same) ∙ t.3, k.4, k.5),
            )
            )
      ]

      ends : (u : Labelled) → l.ending ≡ Some u → IsUseKind u.token.kind
          × ((g : Give) × HasEndedUse (s ∷ past) g u × (IsKnown (s ∷ past) g → ⊥))
      ends u e = elim right.ends [
        | EndsNone none same ↦ (
            let r = learnt.leaving.ends u (sym same ∙ e) in
            (r.0, (r.1.0, elim r.1.1 [ inl z ↦ elim z.0 [ ] | inr z ↦ inr z ], r.1.2))
            )
        | EndsOne g w made only used gives_it its idle now ↦ (
            let p : Some w ≡ Some u = sym now ∙ e in
            let q : w ≡ u = cc in
            subst (λ (z : Labelled). IsUseKind z.token.kind × ((k : Give) × HasEndedUse (s ∷ past) k z
            × (IsKnown (s ∷ past) k → ⊥))) q (
              learnt.uses.kinds w (standing.used_after script m past s learnt w used),
              (g, inl (made, used, gives_it), unknown g made),
            )
            )
      ]

      ended : (u : Labelled) (g : Give) → HasEndedUse (s ∷ past) g u → (IsKnown (s ∷ past) g → ⊥) → l.ending ≡ Some u
      ended u g (inl z) fresh = elim right.ends [
        | EndsNone none same ↦ absurd (none g z.2.0 z.0 z.2.1)
        | EndsOne k w made only used gives_it its idle now ↦
            now ∙ ap Some (sym (its u z.1 (subst (λ (y : Give). GivesUse y u) (sym (only g z.0)) z.2)))
      ]
      ended u g (inr z) fresh = elim right.ends [
        | EndsNone none same ↦ same ∙ learnt.leaving.ended u g (inr z) fresh
        | EndsOne k w made only used gives_it its idle now ↦
            absurd (let r = hearing_of.ended_gives past g u z in none_before idle g r.1.0 r.0 r.1.1 fresh)
      ]

      uses : (g : Give) (a : Ends) → Made (s ∷ past) g → g.ends ≡ Some a → (IsKnown (s ∷ past) g → ⊥)
          → (u : Labelled) × HasEndedUse (s ∷ past) g u
      uses g a (inl i) p fresh = elim right.ends [
        | EndsNone none same ↦ absurd (none g a i p)
        | EndsOne k w made only used gives_it its idle now ↦
            (w, inl (i, used, subst (λ (y : Give). GivesUse y w) (only g i) gives_it))
      ]
      uses g a (inr i) p fresh = let r = learnt.leaving.uses g a (inr i) p fresh in
          (r.0, elim r.1 [ inl z ↦ elim z.0 [ ] | inr z ↦ inr z ])

      one : (g k : Give) (a b : Ends) → Made (s ∷ past) g → Made (s ∷ past) k → g.ends ≡ Some a → k.ends ≡ Some b
          → (IsKnown (s ∷ past) g → ⊥) → (IsKnown (s ∷ past) k → ⊥) → g ≡ k
      one g k a b mg mk p q ug uk = elim right.ends [
        | EndsNone none same ↦ elim mg [
          | inl i ↦ absurd (none g a i p)
          | inr i ↦ elim mk [
            | inl j ↦ absurd (none k b j q)
            | inr j ↦ learnt.leaving.one g k a b (inr i)
                (inr j) p q ug uk
          ]
        ]
        | EndsOne y w made only used gives_it its idle now ↦ elim mg [
          | inl i ↦ elim mk [ inl j ↦ sym (only g i) ∙ only k j | inr j ↦ absurd (none_before idle k b j q uk) ]
          | inr i ↦ absurd (none_before idle g a i p ug)
        ]
      ]

  pub settled : Settled script m (with_moved (with_left m l) x) past s
  settled = record {
    host = refl;
    user = refl;
    limit = refl;
    no_stop = silent.no_stop;
    stay = λ t i. (keeping.were t i, (keeping.stay t i).1);
    all = λ t i. elim (keeping.gone t i) [ inl k ↦ inl k | inr k ↦ inr k.1 ];
    marked = λ h i e. let r = learnt.cache.marked h (held_back h i) e in
        (r.0, used_on r.0 r.1 (λ z. no_leaves h i (subst (LeavesHost s) r.2 z)), r.2);
    unmarked = λ h i e u. learnt.cache.unmarked h (held_back h i) e (u.0, used_back u.0 u.1, u.2);
    tells = λ h i e. learnt.cache.tells h (held_back h i) e;
    content_is = λ fid part e. right.content_is fid part e ∙ unwritten fid part;
    beyond = λ fid at far. right.beyond fid at far ∙ unwritten fid (ByteAt at);
    zero = λ fid at far. right.beyond fid at far ∙ learnt.contents.zero fid at far;
    order = order;
    dirty_before = under;
    dirty = dirty;
    written = λ fid at e. absurd (true_false (writes_at s fid at) e (writes_none_at fid at));
    length_new = right.length_new;
    length_old = right.length_old;
    label_is = label_is;
    is_label = is_label;
    begun_held = λ u i. absurd (none_begun u i);
    used_stay = used_stay;
    pinned = λ u y e. elim (right.pinned u.token.id e) [
      | inl p ↦ kept_there u.token.id (learnt.uses.pinned u (used_back u y) p)
      | inr k ↦ inl k
    ];
    kept = λ u y k. right.pins (record { label = u.label; token = u.token }) (label_there u y) (elim k [
      | inl now ↦ inr now
      | inr old ↦ inl (learnt.uses.kept u (used_back u y) (inr old))
    ]);
    kept_used = kept_used;
    label_order = label_order;
    labels = record { locks = right.labels.locks; opens = right.labels.opens };
    gives_from = right.gives_from;
    gives_old = right.gives_old;
    gives_new = right.gives_new;
    unknown = unknown;
    last_up = right.last_up;
    last_new = right.last_new;
    last_is = right.last_is;
    leaving = leaving;
    floors = refl;
    site_epoch = moves.site_epoch;
    site_welcome = moves.site_welcome;
    site_has_bye = moves.site_has_bye;
    site_greeted = moves.site_greeted;
    site_said_bye = moves.site_said_bye;
    site_claimed = moves.site_claimed;
    claims_apart = moves.claims_apart;
    request = moves.request;
    numbers = moves.numbers;
    homes = refl;
    call_from = λ c e. elim (moves.call_from c e) [
      | inl a ↦ inl a
      | inr o ↦ inr (o, λ a i. absurd (none_answered a i))
    ];
    call_asked = moves.call_asked;
    call_stays = λ c e none. moves.call_stays c e;
    begun = moves.begun;
    lost = moves.lost;
    parted = moves.parted;
  }

pub leaving_settles : LeavingSettles
leaving_settles script m l x past s learnt meets under silent right keeping gives moves =
    settled script m l x past s learnt meets under silent right keeping gives moves
