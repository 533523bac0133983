-- A call whose turn it is ends the use of a label, and is answered at once.
use Rattle.base_types.specs.Name.{same_name}
use Rattle.base_types.specs.declared.ids.Fid.{Fid}
use Rattle.base_types.specs.declared.ids.FilesetId.{FilesetId}
use Rattle.host_cache.specs.Holding.{is_id, with_use}
use Rattle.host_cache.specs.Seen.{Kept, Seen, after_set_use, seen}
use Rattle.host_cache.specs.declared.held.Held.{Held}
use Rattle.host_calls.specs.Answering.{still_used}
use Rattle.host_gives.specs.Giving.{IsSound as IsSoundGives}
use Rattle.host_labels.proofs.Finding.{dropped}
use Rattle.host_labels.specs.Labels.{InUse, IsSound as IsSoundUses, after_drop, has_id, is_labelled, is_lock}
use Rattle.host_labels.specs.Labels.{is_pinned}
use Rattle.host_labels.specs.declared.uses.Labelled.{Labelled as UseOf}
use Rattle.host_manager.proofs.Freed.{closes, closes_lock, end_is, filters_alike, map_parts, mode_same, once_filtered}
use Rattle.host_manager.proofs.Freed.{one_only, same_end}
use Rattle.host_manager.proofs.Turns.{IsTurn}
use Rattle.host_tables.proofs.Lists.{any_in, by_test, filter_in, id_same, in_any, in_filter, in_map, map_in}
use Rattle.host_tables.proofs.Lists.{name_same, not_true, same_id_is, true_false, true_not}
use Rattle.host_tables.proofs.Outstanding.{all_in}
use Rattle.host_tables.specs.AnswerSteps.{AnswerRight, AnsweredBy}
use Rattle.host_tables.specs.Answering.{BegunBy, wrote_by}
use Rattle.host_tables.specs.Half.{learning}
use Rattle.host_manager.specs.Running.{RunsOn}
use Rattle.host_tables.specs.Stands.{CanReply, IsCoveredFrom, OrderStands, Stands, UsedLater, needs_from}
use Rattle.host_tables.specs.Stands.{verdict_from}
use Rattle.host_tables.specs.Tables.{content, held_of, is_last_pinned, is_last_use, labelled, locks_under, ones}
use Rattle.host_tables.specs.Tables.{opens_under}
use Rattle.host_tables.specs.declared.tables.Tables.{Tables}
use Rattle.message_types.specs.declared.message.Message.{Message}
use Rattle.need_host.specs.Calls.{Verdict as Meant, reply_now}
use Rattle.need_host.specs.Calls.Verdict.{Frees as FreesOf}
use Rattle.need_host.specs.Looks.{CoverAll}
use Rattle.run_rules.specs.HostMay.{HostMay}
use Rattle.run_rules.specs.Past.{In}
use Rattle.run_rules.specs.Tokens.{EndsUse, IsUseKind, end_of}
use Rattle.run_rules.specs.Views.{nature_told}
use Rattle.run_rules.specs.declared.applied.Answer.{Answer as AnswerOf}
use Rattle.run_rules.specs.declared.step.Asked.{Asked}
use Rattle.run_rules.specs.declared.step.Cause.{Cause}
use Rattle.run_rules.specs.declared.step.Step.{Step}
use Rattle.script_lines.specs.declared.script.Script.{Script}
use Rattle.std.proofs.Common.{Bool, List, None, [], ap, append-nil, false, filter, if◌then◌else◌, inl, inr}
use Rattle.std.proofs.Common.{map, not, refl, subst, sym, true, unwrap_or, ℕ, ◌&&◌, ◌++◌, ◌∙◌, ◌∷◌, ◌≡◌}
use Rattle.std.proofs.lemmas.Bool.{and_from, and_parts}
use Rattle.std.specs.Bool.{beq}
use Rattle.std.specs.List.{list_any}
use Rattle.std.specs.Option.{option_map, option_map_or}
use Rattle.std.specs.Prelude.{IsTrue}
use Rattle.token_types.specs.Conflicts.{same_id}
use Rattle.token_types.specs.declared.token.Need.{Need}
use Rattle.token_types.specs.declared.token.Token.{Token}
use Rattle.token_types.specs.declared.token.TokenId.{TokenId}
use Rattle.tree_calls.specs.declared.part.Status.{Status as StatusOf}
use Rattle.tree_calls.specs.declared.reply.Reply.TheVariants.{Ok as Fine}
use Rattle.tree_laws.specs.Parts.{Part}
use Rattle.tree_laws.specs.Parts.Part.{ByteAt, Entries, Size, Traits}
use Rattle.host_manager.proofs.TurnAnswers as answers
use Rattle.host_manager.proofs.Turns as turns
use Rattle.host_tables.proofs.Ending as ending
use Rattle.host_tables.proofs.Using as using

module _ (script : Script) (old m : Tables) (past : List Step) (cause : Cause) (came : List Token)
    (dues : List FilesetId) (c : Asked) (first : Bool) (turn : IsTurn script old m past cause came dues c first)
    (sound_m : IsSoundGives m.gives) (sent : List Message)
    (alone : turns.DuesAlone script old m past cause came dues c first turn sent) (sound : IsSoundUses m.uses)
    (used : UseOf) (within : In used m.uses.labels) (not_last : is_last_pinned m.uses used ≡ false) (cache : Kept)
    (shown : seen cache ≡ (if still_used m (is_lock used.token.kind) used.label used then seen m.cache
    else after_set_use (seen m.cache) used.token.id false)) (call_is : c.call ≡ end_of (labelled used))
    (verdict : verdict_from m c.call ≡ FreesOf) where
  abbrev lock : Bool
  lock = is_lock used.token.kind

  abbrev label : List ℕ
  label = used.label

  abbrev id : TokenId
  id = used.token.id

  abbrev uses : InUse
  uses = after_drop m.uses lock label

  abbrev pub w : AnsweredBy
  w = record { cache = cache; dirty = m.dirty; uses = uses }

  stands : Stands script m (learning m.host cause came ∷ past)
  stands = turn.learnt

  kind_of : (u : UseOf) → In u m.uses.labels → IsUseKind u.token.kind
  kind_of u i = stands.uses.kinds (labelled u) (stands.uses.used u i)

  -- which label it is
  labelled_here : is_labelled lock label used ≡ true
  labelled_here = and_from (beq lock lock) (same_name label label) (mode_same lock lock refl) (name_same label)

  the_label : (u : UseOf) → In u m.uses.labels → is_labelled lock label u ≡ true → u ≡ used
  the_label u i e = one_only (filter (is_labelled lock label) m.uses.labels) u used (sound.once lock label)
      (filter_in (is_labelled lock label) m.uses.labels u i e)
      (filter_in (is_labelled lock label) m.uses.labels used within labelled_here)

  left_in : (u : UseOf) → In u uses.labels → In u m.uses.labels × (not (is_labelled lock label u) ≡ true)
  left_in u i = in_filter (λ u. not (is_labelled lock label u)) m.uses.labels u i

  stays_in : (u : UseOf) → In u m.uses.labels → is_labelled lock label u ≡ false → In u uses.labels
  stays_in u i n = filter_in (λ u. not (is_labelled lock label u)) m.uses.labels u i
      (true_not (is_labelled lock label u) (λ e. true_false (is_labelled lock label u) e n))

  -- a label of a pinned token stays
  other_label : is_pinned m.uses id ≡ true → has_id uses.labels id ≡ true
  other_label pinned = elim (by_test (is_last_use m.uses.labels used)) [
    | inl e ↦ absurd (true_false (is_last_pinned m.uses used)
        (and_from (is_last_use m.uses.labels used) (is_pinned m.uses id) e pinned) not_last)
    | inr n ↦
        let some : list_any (λ other. same_id other.token.id id && not (same_name other.label label)) m.uses.labels
        ≡ true = elim (by_test (list_any (λ other. same_id other.token.id id && not (same_name other.label label))
        m.uses.labels)) [
          | inl t ↦ t
          | inr f ↦ absurd (true_false (is_last_use m.uses.labels used) (ap not f) n)
        ] in
        let r = in_any (λ other. same_id other.token.id id && not (same_name other.label label)) m.uses.labels some in
        let p = and_parts (same_id r.0.token.id id) (not (same_name r.0.label label)) r.2 in
        any_in (λ u. same_id u.token.id id) uses.labels r.0
        (stays_in r.0 r.1 (elim (by_test (is_labelled lock label r.0)) [
          | inl t ↦ absurd (not_true (same_name r.0.label label) p.1
              (and_parts (beq (is_lock r.0.token.kind) lock) (same_name r.0.label label) t).1)
          | inr f ↦ f
        ])) p.0
  ]

  has_left : (i : TokenId) → is_pinned m.uses i ≡ true → has_id uses.labels i ≡ true
  has_left i pinned =
      let r = in_any (λ other. same_id other i) m.uses.pinned pinned in
      let t : has_id m.uses.labels r.0 ≡ true =
      all_in (λ (id : TokenId). IsTrue (has_id m.uses.labels id)) m.uses.pinned sound.pins r.0 r.1 in
      let at : r.0 ≡ i = same_id_is r.0 i r.2 in
      let u = in_any (λ u. same_id u.token.id i) m.uses.labels
      (subst (λ (z : TokenId). has_id m.uses.labels z ≡ true) at t) in
      elim (by_test (is_labelled lock label u.0)) [
        | inr n ↦ any_in (λ v. same_id v.token.id i) uses.labels u.0 (stays_in u.0 u.1 n) u.2
        | inl e ↦
            let same : u.0 ≡ used = the_label u.0 u.1 e in
            let is : id ≡ i = ap (λ (v : UseOf). v.token.id) (sym same) ∙ same_id_is u.0.token.id i u.2 in
            subst (λ (z : TokenId). has_id uses.labels z ≡ true) is
            (other_label (subst (λ (z : TokenId). is_pinned m.uses z ≡ true) (sym is) pinned))
      ]

  pins : (i : TokenId) → is_pinned uses i ≡ is_pinned m.uses i
  pins i = (dropped m.uses lock label).pins i ∙ by_pin (has_id uses.labels i) (is_pinned m.uses i) (has_left i)
    where
      by_pin : (a b : Bool) → (b ≡ true → a ≡ true) → (a && b) ≡ b
      by_pin true b e = refl
      by_pin false true e = absurd (let z = e refl in cc)
      by_pin false false e = refl

  -- # The marks
  abbrev mark : Held → Held
  mark h = if still_used m lock label used then h else with_use id false h

  map_same : (hs : List Held) → hs ≡ map (λ h. h) hs
  map_same [] = refl
  map_same (h ∷ hs) = ap (λ ys. h ∷ ys) (map_same hs)

  held_is : cache.held ≡ map mark m.cache.held
  held_is = ap (λ (s : Seen). s.held) shown ∙ by_still (still_used m lock label used)
    where
      by_still : (b : Bool) → (if b then seen m.cache else after_set_use (seen m.cache) id false).held
          ≡ map (λ h. if b then h else with_use id false h) m.cache.held
      by_still true = map_same m.cache.held
      by_still false = refl

  pub mark_token : (h : Held) → ((mark h).token ≡ h.token) × ((mark h).tells ≡ h.tells)
  mark_token h = by_both (still_used m lock label used) (is_id id h)
    where
      by_both : (b c : Bool)
          → ((if b then h else (if c then record h { in_use = false } else h)).token ≡ h.token)
          × ((if b then h else (if c then record h { in_use = false } else h)).tells ≡ h.tells)
      by_both true c = (refl, refl)
      by_both false true = (refl, refl)
      by_both false false = (refl, refl)

  -- one that is marked was, and another label is for it where this one was
  mark_on : (h : Held) → (mark h).in_use ≡ true → (h.in_use ≡ true)
      × (is_id id h ≡ true → still_used m lock label used ≡ true)
  mark_on h e = by_both (still_used m lock label used) (is_id id h) e
    where
      by_both : (b c : Bool) → (if b then h else (if c then record h { in_use = false } else h)).in_use ≡ true
          → (h.in_use ≡ true) × (c ≡ true → b ≡ true)
      by_both true c f = (f, λ z. refl)
      by_both false true f = absurd (cc)
      by_both false false f = (f, λ z. absurd (cc))

  mark_keeps : (h : Held) → h.in_use ≡ true → (is_id id h ≡ true → still_used m lock label used ≡ true)
      → (mark h).in_use ≡ true
  mark_keeps h e still = by_both (still_used m lock label used) (is_id id h) still
    where
      by_both : (b c : Bool) → (c ≡ true → b ≡ true)
          → (if b then h else (if c then record h { in_use = false } else h)).in_use ≡ true
      by_both true c f = e
      by_both false true f = absurd (let z = f refl in cc)
      by_both false false f = e

  pub from : (h : Held) → In h cache.held → (k : Held) × In k m.cache.held × (h ≡ mark k)
  from h i = in_map mark m.cache.held h (subst (λ (hs : List Held). In h hs) held_is i)

  to : (k : Held) → In k m.cache.held → In (mark k) cache.held
  to k i = subst (λ (hs : List Held). In (mark k) hs) (sym held_is) (map_in mark m.cache.held k i)

  marked : (h : Held) → In h cache.held → h.in_use ≡ true
      → (u : UseOf) × In u uses.labels × (u.token.id ≡ h.token.id)
  marked h i e =
      let r = from h i in
      let k : Held = r.0 in
      let token : h.token.id ≡ k.token.id = ap (λ (z : Held). z.token.id) r.2
      ∙ ap (λ t. t.id) (mark_token k).0 in
      let on = mark_on k (ap (λ (z : Held). z.in_use) (sym r.2) ∙ e) in
      let t = stands.cache.marked k r.1 on.0 in
      let v : UseOf = record { label = t.0.label; token = t.0.token } in
      let there = stands.uses.labels t.0 t.1 in
      elim (by_test (is_labelled lock label v)) [
        | inr n ↦ (v, stays_in v there n, t.2 ∙ sym token)
        | inl y ↦
            let same : v ≡ used = the_label v there y in
            let at : id ≡ k.token.id = ap (λ (z : UseOf). z.token.id) (sym same) ∙ t.2 in
            let still = on.1 (id_same k.token.id id (sym at)) in
            let q = in_any (λ u. same_id u.token.id id) uses.labels still in
            (q.0, q.1, same_id_is q.0.token.id id q.2 ∙ at ∙ sym token)
      ]

  marks : (h : Held) (u : UseOf) → In h cache.held → In u uses.labels → u.token.id ≡ h.token.id → h.in_use ≡ true
  marks h u i j e =
      let r = from h i in
      let k : Held = r.0 in
      let token : h.token.id ≡ k.token.id = ap (λ (z : Held). z.token.id) r.2
      ∙ ap (λ t. t.id) (mark_token k).0 in
      let was = left_in u j in
      let on : k.in_use ≡ true = elim (by_test k.in_use) [
        | inl t ↦ t
        | inr n ↦ absurd (stands.cache.unmarked k r.1 n
            (labelled u, stands.uses.used u was.0, e ∙ token))
      ] in
      ap (λ (z : Held). z.in_use) r.2
      ∙ mark_keeps k on (λ y. any_in (λ v. same_id v.token.id id) uses.labels u j
      (id_same u.token.id id (e ∙ token ∙ same_id_is k.token.id id y)))

  content_same : (b : Bool) → seen cache ≡ (if b then seen m.cache else after_set_use (seen m.cache) id false)
      → (fid : Fid) (part : Part) → content cache fid part ≡ content m.cache fid part
  content_same b e fid part = by_part b e part
    where
      by_part : (b : Bool) → seen cache ≡ (if b then seen m.cache else after_set_use (seen m.cache) id false)
          → (part : Part) → content cache fid part ≡ content m.cache fid part
      by_part true e (ByteAt at) = ap (λ (s : Seen). unwrap_or (s.bytes fid at) 0) e
      by_part false e (ByteAt at) = ap (λ (s : Seen). unwrap_or (s.bytes fid at) 0) e
      by_part true e Size = ap (λ (s : Seen). option_map_or (λ (t : StatusOf). t.length) (s.status fid) 0) e
      by_part false e Size = ap (λ (s : Seen). option_map_or (λ (t : StatusOf). t.length) (s.status fid) 0) e
      by_part true e Traits = ap (λ (s : Seen). option_map nature_told (s.status fid)) e
      by_part false e Traits = ap (λ (s : Seen). option_map nature_told (s.status fid)) e
      by_part true e Entries = ap (λ (s : Seen). s.entries fid) e
      by_part false e Entries = ap (λ (s : Seen). s.entries fid) e

  pub seen_same : (fid : Fid) (part : Part) → content cache fid part ≡ content m.cache fid part
  seen_same = content_same (still_used m lock label used) shown

  -- # The step
  abbrev pub s : Step
  s = answers.s script old m past cause came dues c first turn Fine None [] sent

  abbrev a_f : AnswerOf
  a_f = answers.answer script old m past cause came dues c first turn Fine

  needs_none : needs_from m c.call ≡ []
  needs_none = ap (needs_from m) call_is ∙ ending.end_needs m (labelled used)

  covered : IsCoveredFrom m c.call
  covered = subst (CoverAll (held_of m)) (sym needs_none) tt

  abbrev can : CanReply m c.call
  can = record { covered = covered; reply = Fine; settled = ap reply_now verdict }

  takes : BegunBy (held_of m) c.call (verdict_from m c.call) []
  takes = subst (λ (v : Meant). BegunBy (held_of m) c.call v []) (sym verdict) refl

  meets : HostMay script m.host past s
  meets = answers.meets script old m past cause came dues c first turn Fine None [] sent alone can refl
      (sym (ap wrote_by verdict)) takes

  the_answer : (a : AnswerOf) → In a s.answers → a ≡ a_f
  the_answer a (inl e) = e
  the_answer a (inr n) = elim n [ ]

  order_before : OrderStands script.roster m.host m.cache.held (s ∷ past)
  order_before = using.order_is_kept script m past s turn.learnt
      (λ a i. subst (λ (b : AnswerOf). IsCoveredFrom m b.call) (sym (the_answer a i)) covered)
      meets.stance [] (λ need i. elim i [ ])
      (λ a need i j. subst (λ (ns : List Need). In need ns)
      (ap (λ (b : AnswerOf). needs_from m b.call) (the_answer a i) ∙ needs_none) j)

  order : OrderStands script.roster m.host cache.held (s ∷ past)
  order before behind late early e i =
      let p = map_parts mark m.cache.held before late behind (sym held_is ∙ e) in
      let r = in_map mark p.2 early (subst (λ (hs : List Held). In early hs) p.5 i) in
      let o = order_before p.0 p.2 p.1 r.0 p.3 r.1 in
      subst (λ (q : Held × Held). UsedLater script.roster m.host (s ∷ past) q.0.token q.1.token)
      (λ z. (sym p.4 z, sym r.2 z))
      (subst (λ (q : Token × Token). UsedLater script.roster m.host (s ∷ past) q.0 q.1)
      (λ z. (sym (mark_token p.1).0 z, sym (mark_token r.0).0 z)) o)

  abbrev keeps : UseOf → Bool
  keeps u = not (beq (not (closes u.token.kind)) lock && same_name u.label label)

  keeps_is : (u : UseOf) → In u m.uses.labels → not (is_labelled lock label u) ≡ keeps u
  keeps_is u i = ap (λ (b : Bool). not (beq b lock && same_name u.label label))
      (sym (closes_lock u.token.kind (kind_of u i)))

  ends_it : (u : UseOf) → EndsUse s (labelled u) → (not (closes u.token.kind) ≡ lock) × (u.label ≡ label)
  ends_it u (a, i, e, fine) = same_end u.token.kind u.label lock label
      (sym e ∙ ap (λ (b : AnswerOf). b.call) (the_answer a i) ∙ call_is
      ∙ end_is used.token.kind label (kind_of used within))

  right : AnswerRight script m w (answers.moved script old m past cause came dues c first turn) past s a_f
  right = record {
    answers = refl;
    asked = refl;
    made = refl;
    dropped = refl;
    none_kept = answers.none_kept script old m past cause came dues c first turn Fine None [] sent alone;
    no_stop = answers.no_stop script old m past cause came dues c first turn Fine None [] sent alone;
    is_call = answers.is_call script old m past cause came dues c first turn Fine None [] sent alone;
    held_from = λ h i.
        let r = from h i in (
          r.0,
          r.1,
          sym (mark_token r.0).0 ∙ ap (λ (z : Held). z.token) (sym r.2),
          sym (mark_token r.0).1 ∙ ap (λ (z : Held). z.tells) (sym r.2),
        );
    held_to = λ k i. (mark k, to k i, (mark_token k).0);
    marked = marked;
    marks = marks;
    order = order;
    content_is = λ fid part. seen_same fid part;
    zero = λ fid at far. seen_same fid (ByteAt at) ∙ stands.contents.zero fid at far;
    dirty = λ fid at. refl;
    written = λ fid at e. absurd (cc);
    keeps_label = keeps;
    taken_label = [];
    labels_are = filters_alike (λ u. not (is_labelled lock label u)) keeps m.uses.labels keeps_is
        ∙ sym (append-nil (filter keeps m.uses.labels));
    label_kept = λ u i none. elim (by_test (keeps u)) [
      | inl t ↦ t
      | inr f ↦ absurd (
          let e : is_labelled lock label u ≡ true = elim (by_test (is_labelled lock label u)) [
            | inl t ↦ t
            | inr n ↦ absurd (true_false (keeps u) (sym (keeps_is u i) ∙ ap not n) f)
          ] in
          none (
            a_f,
            inl refl,
            call_is ∙ ap (λ (v : UseOf). end_of (labelled v)) (sym (the_label u i e)),
            refl,
          ))
    ];
    label_ended = λ u t ends.
        let r = ends_it u ends in
        not_true (beq (not (closes u.token.kind)) lock && same_name u.label label) t
        (and_from (beq (not (closes u.token.kind)) lock) (same_name u.label label)
        (mode_same (not (closes u.token.kind)) lock r.0)
        (subst (λ (l : List ℕ). same_name l label ≡ true) (sym r.1) (name_same label)));
    is_taken = λ u i. elim i [ ];
    begins = λ u i. elim i [ ];
    one_taken = λ u v us vs e. absurd (no_place us u vs e);
    fresh = λ u i. elim i [ ];
    pins = pins;
    pinned_before = λ u i. elim i [ ];
    frees = λ u i p.
        let q = in_any (λ v. same_id v.token.id u.token.id) uses.labels (has_left u.token.id p) in
        let k = left_in q.0 q.1 in
        (q.0, k.0, sym (keeps_is q.0 k.0) ∙ k.1, same_id_is q.0.token.id u.token.id q.2);
    labels = record {
      locks = once_filtered (λ u. locks_under m.host u.token.kind u) labelled
          (λ u. not (is_labelled lock label u)) (ones m.ending) m.uses.labels stands.labels.locks;
      opens = once_filtered (λ u. opens_under m.host u.token.kind u) labelled
          (λ u. not (is_labelled lock label u)) (ones m.ending) m.uses.labels stands.labels.opens;
    };
    no_bye = answers.no_bye script old m past cause came dues c first turn Fine None [] sent alone;
  }
    where
      no_place : (us : List UseOf) (u : UseOf) (vs : List UseOf) → [] ≡ us ++ u ∷ vs → ⊥
      no_place [] u vs e = cc
      no_place (z ∷ us) u vs e = cc

  pub freed_runs : RunsOn script old (answers.new script old m past cause came dues c first turn w) past s
  freed_runs = answers.answered_runs script old m past cause came dues c first turn Fine None [] sent alone can refl
      (sym (ap wrote_by verdict)) takes w right (λ f. inl (seen_same f Size))
