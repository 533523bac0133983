-- A Lock or an OpenFile that begins by a line is answered at once: its label is in use for its token.
use Rattle.base_types.specs.Name.{same_name}
use Rattle.base_types.specs.declared.ids.Fid.{Fid}
use Rattle.base_types.specs.declared.ids.FilesetId.{FilesetId}
use Rattle.base_types.specs.declared.ids.OpenKind.{OpenKind}
use Rattle.base_types.specs.declared.limits.TheConstants.{LABELS_MAX}
use Rattle.base_types.specs.declared.span.Span.{Span}
use Rattle.host_cache.specs.Holding.{is_id, with_use}
use Rattle.host_cache.specs.Seen.{Kept, Seen, after_set_use, seen}
use Rattle.host_cache.specs.declared.held.Held.{Held}
use Rattle.host_calls.proofs.Labels.{has_lock_is, has_open_is}
use Rattle.host_calls.specs.Looking.{AreUses, UsesKind, taken_label, used_by}
use Rattle.host_gives.specs.Giving.{IsSound as IsSoundGives}
use Rattle.host_labels.specs.Labels.{InUse, IsSound as IsSoundUses, after_take, has_id, is_labelled, is_lock}
use Rattle.host_labels.specs.Labels.{is_pinned}
use Rattle.host_labels.specs.declared.uses.Labelled.{Labelled as UseOf}
use Rattle.host_leaves.specs.Owning.{has_label}
use Rattle.host_manager.proofs.Freed.{map_parts, mode_same}
use Rattle.host_manager.proofs.Helped.{Helped}
use Rattle.host_manager.proofs.OnceSaid.{once_append}
use Rattle.host_manager.proofs.Ordered.{in_used, order_after, used_in}
use Rattle.host_manager.proofs.Turns.{IsTurn}
use Rattle.host_tables.proofs.Answered.{its}
use Rattle.host_tables.proofs.Lists.{any_in, by_test, id_same, in_any, in_either, in_flat, in_left, in_map, in_right}
use Rattle.host_tables.proofs.Lists.{map_in, name_same, none_in, or_left, same_id_is, true_false}
use Rattle.host_tables.proofs.Outstanding.{all_in}
use Rattle.host_tables.specs.AnswerSteps.{AnswerRight, AnsweredBy}
use Rattle.host_tables.specs.Answering.{BegunBy, TakesLabel, wrote_by}
use Rattle.host_tables.specs.Half.{half, learning}
use Rattle.host_manager.specs.Running.{RunsOn}
use Rattle.host_tables.specs.Stands.{CanReply, IsCoveredFrom, OrderStands, Stands, UsedLater, needs_from}
use Rattle.host_tables.specs.Stands.{verdict_from}
use Rattle.host_tables.specs.Tables.{content, ends_label, held_of, labelled, locks_under, ones, opens_under, own_of}
use Rattle.host_tables.specs.Using.{used_all}
use Rattle.host_tables.specs.declared.tables.Tables.{Tables}
use Rattle.message_types.specs.declared.message.Message.{Message}
use Rattle.need_host.specs.Calls.{Verdict as Meant, call_look, from_root, lock_look, open_look, refuse, reply_now}
use Rattle.need_host.specs.Calls.Verdict.{Gives as GivesOf, Locks, Opens}
use Rattle.need_host.specs.Looks.{outcome}
use Rattle.run_rules.specs.HostMay.{HostMay, IsExact}
use Rattle.run_rules.specs.Past.{EachOnce, In}
use Rattle.run_rules.specs.Tokens.{IsUseKind, end_call, end_of}
use Rattle.run_rules.specs.Views.{nature_told}
use Rattle.run_rules.specs.declared.applied.Answer.{Answer as AnswerOf}
use Rattle.run_rules.specs.declared.step.Asked.{Asked}
use Rattle.run_rules.specs.declared.step.Cause.{Cause}
use Rattle.run_rules.specs.declared.step.Labelled.{Labelled}
use Rattle.run_rules.specs.declared.step.Step.{Step}
use Rattle.script_lines.specs.declared.script.Script.{Script}
use Rattle.std.proofs.Common.{Bool, IsTrue, List, None, Option, Some, [], ap, append-nil, append_assoc, false, filter}
use Rattle.std.proofs.Common.{flat_map, if◌then◌else◌, inl, inr, map, nat_le, refl, subst, sym, true, unwrap_or}
use Rattle.std.proofs.Common.{ℕ, ◌++◌, ◌+◌, ◌↔◌, ◌∙◌, ◌∷◌, ◌≡◌, ◌⊎◌}
use Rattle.std.proofs.lemmas.Bool.{and_from}
use Rattle.std.specs.Bool.{beq}
use Rattle.std.specs.List.{list_any}
use Rattle.std.specs.Option.{option_map, option_map_or}
use Rattle.token_types.specs.Conflicts.{same_id}
use Rattle.token_types.specs.declared.token.Kind.{Kind}
use Rattle.token_types.specs.declared.token.Kind.TheVariants.{Bytes as BytesKind, Lock as LockKind}
use Rattle.token_types.specs.declared.token.Kind.TheVariants.{Opening as OpeningKind, Status as StatusKind}
use Rattle.token_types.specs.declared.token.Need.{Need}
use Rattle.token_types.specs.declared.token.Token.{Token}
use Rattle.token_types.specs.declared.token.TokenId.{TokenId}
use Rattle.tree_answers.specs.Locks.{has_lock, lock_count}
use Rattle.tree_answers.specs.Opens.{has_open, open_count}
use Rattle.tree_answers.specs.declared.tree.LockUse.{LockUse}
use Rattle.tree_answers.specs.declared.tree.OpenUse.{OpenUse}
use Rattle.tree_calls.specs.declared.call.Call.{Call}
use Rattle.tree_calls.specs.declared.call.Call.TheVariants.{Lock, OpenFile}
use Rattle.tree_calls.specs.declared.place.Place.{Place as NamedPlace}
use Rattle.tree_calls.specs.declared.reply.Refusal.TheVariants.{AlreadyLocked, AlreadyOpened, TooMany}
use Rattle.tree_calls.specs.declared.reply.Reply.TheVariants.{Ok as Fine}
use Rattle.tree_laws.specs.Parts.{Part}
use Rattle.tree_laws.specs.Parts.Part.{ByteAt, Entries, Size, Traits}
use Rattle.tree_objects.specs.Spans.{span_between}
use Rattle.host_manager.proofs.TurnAnswers as answers
use Rattle.host_manager.proofs.Turns as turns

-- # Lists
module _ {A B C : Type 0} (f : B → List C) (g : A → B) where
  flat_last : (xs : List A) (u : A) → flat_map f (map g (xs ++ u ∷ []) ++ [])
      ≡ flat_map f (map g xs ++ []) ++ f (g u)
  flat_last [] u = append-nil (f (g u))
  flat_last (x ∷ xs) u =
      ap (λ ys. f (g x) ++ ys) (flat_last xs u) ∙ sym (append_assoc (f (g x)) (flat_map f (map g xs ++ [])) (f (g u)))

  once_last : (xs : List A) (u : A) → EachOnce (flat_map f (map g xs ++ [])) → EachOnce (f (g u))
      → ((z : C) → In z (f (g u)) → In z (flat_map f (map g xs ++ [])) → ⊥)
      → EachOnce (flat_map f (map g (xs ++ u ∷ []) ++ []))
  once_last xs u a b apart = subst EachOnce (sym (flat_last xs u))
      (once_append (flat_map f (map g xs ++ [])) (f (g u)) a b (λ z i j. apart z j i))

  from_one : (xs : List A) (z : C) → In z (flat_map f (map g xs ++ [])) → (x : A) × In x xs × In z (f (g x))
  from_one xs z i =
      let r = in_flat f (map g xs ++ []) z i in
      let j = in_map g xs r.0 (elim (in_either (map g xs) [] r.0 r.1) [ inl k ↦ k | inr n ↦ elim n [ ] ]) in
      (j.0, j.1, subst (λ (b : B). In z (f b)) j.2 r.2)

last_one : {A : Type 0} (x u v : A) (us vs : List A) → x ∷ [] ≡ us ++ u ∷ vs → In v vs → ⊥
last_one x u v [] vs e i = none_in vs (let p = e in cc) v i
last_one x u v (w ∷ []) vs e i = cc
last_one x u v (w ∷ z ∷ us) vs e i = cc

-- # The label that a Lock or an OpenFile takes wasn't in use
locks_so : (m : Tables) (label : List ℕ) (place : NamedPlace) (writing : Bool) (from len : ℕ) (fid : Fid) (w : Bool)
    (s : Span) → verdict_from m (Lock label place writing from len) ≡ Locks fid w s
    → has_lock (own_of m).locks m.host label ≡ false
unfolding call_look
locks_so m label place writing from len fid w s e =
    by_tests (has_lock (own_of m).locks m.host label) (nat_le LABELS_MAX (lock_count (own_of m).locks m.host))
    ((own_of m).seen place.server place.fileset) e
  where
    by_tests : (has many : Bool) (id : Option FilesetId)
        → outcome (content m.cache) (if has then refuse AlreadyLocked else if many then refuse TooMany
        else from_root place.server id (λ root. lock_look (own_of m) m.host m.user root place.path writing from len))
        ≡ Locks fid w s → has ≡ false
    by_tests true many id e = absurd (cc)
    by_tests false many id e = refl

opens_so : (m : Tables) (label : List ℕ) (place : NamedPlace) (kind : OpenKind) (fid : Fid) (k : OpenKind)
    → verdict_from m (OpenFile label place kind) ≡ Opens fid k
    → has_open (own_of m).opens m.host label ≡ false
unfolding call_look
opens_so m label place kind fid k e =
    by_tests (has_open (own_of m).opens m.host label) (nat_le LABELS_MAX (open_count (own_of m).opens m.host))
    ((own_of m).seen place.server place.fileset) e
  where
    by_tests : (has many : Bool) (id : Option FilesetId)
        → outcome (content m.cache) (if has then refuse AlreadyOpened else if many then refuse TooMany
        else from_root place.server id (λ root. open_look m.user root place.path kind))
        ≡ Opens fid k → has ≡ false
    by_tests true many id e = absurd (cc)
    by_tests false many id e = refl

unused_by : (m : Tables) (lock : Bool) (label : List ℕ) → has_label m lock label ≡ false → (v : UseOf)
    → In v m.uses.labels → is_lock v.token.kind ≡ lock → v.label ≡ label → ⊥
unused_by m lock label none v i k l =
    true_false (has_label m lock label)
    (or_left (list_any (is_labelled lock label) m.uses.labels) (ends_label lock label m.ending)
    (any_in (is_labelled lock label) m.uses.labels v i
    (and_from (beq (is_lock v.token.kind) lock) (same_name v.label label) (mode_same (is_lock v.token.kind) lock k)
    (subst (λ (x : List ℕ). same_name x label ≡ true) (sym l) (name_same label))))) none

-- what the verdict on such a call tells: its token's kind, its label, and that this wasn't in use
pub record TakesLabelOf (m : Tables) (call : Call) (kind : Kind) : Type 0 where
  pub is_use : IsUseKind kind
  pub label : List ℕ
  pub taken : taken_label call ≡ Some (is_lock kind, label)
  pub exact : (u : Labelled) → u.label ≡ label → u.token.kind ≡ kind → IsExact call u
  pub fresh : (v : UseOf) → In v m.uses.labels → is_lock v.token.kind ≡ is_lock kind → v.label ≡ label → ⊥
  pub not_end : (u : Labelled) → call ≡ end_of u → ⊥

pub takes_label : (m : Tables) (call : Call) (fid : Fid) (kind : Kind) → AreUses m → UsesKind call kind
    → verdict_from m call ≡ used_by fid kind → TakesLabelOf m call kind
takes_label m (Lock label place writing from len) fid kind uses is verdict =
    let none = locks_so m label place writing from len fid writing (span_between from (from + len))
    (verdict ∙ ap (used_by fid) is) in
    subst (λ (k : Kind). TakesLabelOf m (Lock label place writing from len) k) (sym is) (record {
      is_use = tt;
      label = label;
      taken = refl;
      exact = λ u l k. (l, (span_between from (from + len), k));
      fresh = unused_by m true label (sym (has_lock_is m label) ∙ none);
      not_end = λ u. no_lock_end u.token.kind u.label;
    })
  where
    no_lock_end : (k : Kind) (l : List ℕ) → Lock label place writing from len ≡ end_call k l → ⊥
    no_lock_end (BytesKind update span) l e = cc
    no_lock_end (StatusKind update) l e = cc
    no_lock_end (LockKind w span) l e = cc
    no_lock_end (OpeningKind opening) l e = cc
takes_label m (OpenFile label place opening) fid kind uses is verdict =
    let none = opens_so m label place opening fid opening (verdict ∙ ap (used_by fid) is) in
    subst (λ (k : Kind). TakesLabelOf m (OpenFile label place opening) k) (sym is) (record {
      is_use = tt;
      label = label;
      taken = refl;
      exact = λ u l k. (l, k);
      fresh = unused_by m false label (sym (has_open_is m label uses) ∙ none);
      not_end = λ u. no_open_end u.token.kind u.label;
    })
  where
    no_open_end : (k : Kind) (l : List ℕ) → OpenFile label place opening ≡ end_call k l → ⊥
    no_open_end (BytesKind update span) l e = cc
    no_open_end (StatusKind update) l e = cc
    no_open_end (LockKind w span) l e = cc
    no_open_end (OpeningKind o) l e = cc
takes_label m call fid kind uses is verdict = elim is [ ]

-- # The step
module _ (script : Script) (old m : Tables) (past : List Step) (cause : Cause) (came : List Token)
    (dues : List FilesetId) (c : Asked) (first : Bool) (turn : IsTurn script old m past cause came dues c first)
    (sound_m : IsSoundGives m.gives) (sent : List Message)
    (alone : turns.DuesAlone script old m past cause came dues c first turn sent) (sound : IsSoundUses m.uses)
    (covered : IsCoveredFrom m c.call) (fid : Fid) (kind : Kind) (usable : IsUseKind kind) (label : List ℕ)
    (verdict : verdict_from m c.call ≡ used_by fid kind)
    (exact_call : (u : Labelled) → u.label ≡ label → u.token.kind ≡ kind → IsExact c.call u)
    (fresh : (v : UseOf) → In v m.uses.labels → is_lock v.token.kind ≡ is_lock kind → v.label ≡ label → ⊥)
    (not_end : (u : Labelled) → c.call ≡ end_of u → ⊥)
    (begun : Labelled) (label_is : begun.label ≡ label) (held : In begun.token (held_of m))
    (file : begun.token.fid ≡ fid) (exact : begun.token.kind ≡ kind)
    (marked cache : Kept) (needs : List Need)
    (told : seen marked ≡ record (seen m.cache) { held = used_all needs m.cache.held })
    (alike : (t : Token) → Helped needs t ↔ Helped (needs_from m c.call) t)
    (shown : seen cache ≡ after_set_use (seen marked) begun.token.id true) where
  abbrev t : Token
  t = begun.token

  abbrev taken : UseOf
  taken = record { label = label; token = t }

  abbrev uses : InUse
  uses = after_take m.uses label t

  abbrev pub w : AnsweredBy
  w = record { cache = cache; dirty = m.dirty; uses = uses }

  abbrev pub s_u : Step
  s_u = answers.s script old m past cause came dues c first turn Fine None (begun ∷ []) sent

  abbrev a_u : AnswerOf
  a_u = answers.answer script old m past cause came dues c first turn Fine

  stands : Stands script m (learning m.host cause came ∷ past)
  stands = turn.learnt

  use_t : IsUseKind t.kind
  use_t = subst IsUseKind (sym exact) usable

  taken_is : labelled taken ≡ begun
  taken_is = λ i. record { label = sym label_is i; token = t }

  replies_fine : reply_now (used_by fid kind) ≡ Some Fine
  replies_fine = by_kind kind usable
    where
      by_kind : (k : Kind) → IsUseKind k → reply_now (used_by fid k) ≡ Some Fine
      by_kind (LockKind writing span) u = refl
      by_kind (OpeningKind opening) u = refl
      by_kind (BytesKind update span) u = elim u [ ]
      by_kind (StatusKind update) u = elim u [ ]

  abbrev can : CanReply m c.call
  can = record { covered = covered; reply = Fine; settled = ap reply_now verdict ∙ replies_fine }

  wrote_is : None ≡ wrote_by (verdict_from m c.call)
  wrote_is = sym (ap wrote_by verdict ∙ wrote_none kind usable)
    where
      wrote_none : (k : Kind) → IsUseKind k → wrote_by (used_by fid k) ≡ None
      wrote_none (LockKind writing span) u = refl
      wrote_none (OpeningKind opening) u = refl
      wrote_none (BytesKind update span) u = elim u [ ]
      wrote_none (StatusKind update) u = elim u [ ]

  takes_it : BegunBy (held_of m) c.call (verdict_from m c.call) (begun ∷ [])
  takes_it = subst (λ (v : Meant). BegunBy (held_of m) c.call v (begun ∷ [])) (sym verdict)
      (begun_by kind usable refl)
    where
      takes : (k : Kind) → kind ≡ k → TakesLabel (held_of m) c.call fid k (begun ∷ [])
      takes k e = record {
        label = begun;
        alone = refl;
        exact = exact_call begun label_is exact;
        file = file;
        kind_is = exact ∙ e;
        is_held = held;
      }

      begun_by : (k : Kind) → IsUseKind k → kind ≡ k → BegunBy (held_of m) c.call (used_by fid k) (begun ∷ [])
      begun_by (LockKind writing span) u e = takes (LockKind writing span) e
      begun_by (OpeningKind opening) u e = takes (OpeningKind opening) e
      begun_by (BytesKind update span) u e = elim u [ ]
      begun_by (StatusKind update) u e = elim u [ ]

  pub meets : HostMay script m.host past s_u
  meets = answers.meets script old m past cause came dues c first turn Fine None (begun ∷ []) sent alone can refl
      wrote_is takes_it

  learnt : Stands script m (half s_u ∷ past)
  learnt = turn.learnt

  -- # The cache
  abbrev mark : Held → Held
  mark h = with_use t.id true h

  marked_is : marked.held ≡ used_all needs m.cache.held
  marked_is = ap (λ (z : Seen). z.held) told

  held_is : cache.held ≡ map mark (used_all needs m.cache.held)
  held_is = ap (λ (z : Seen). z.held) shown ∙ ap (map mark) marked_is

  mark_token : (h : Held) → ((mark h).token ≡ h.token) × ((mark h).tells ≡ h.tells)
  mark_token h = by_id (is_id t.id h)
    where
      by_id : (b : Bool) → ((if b then record h { in_use = true } else h).token ≡ h.token)
          × ((if b then record h { in_use = true } else h).tells ≡ h.tells)
      by_id true = (refl, refl)
      by_id false = (refl, refl)

  -- one is marked where it was, or is the token's
  mark_on : (h : Held) → (mark h).in_use ≡ true → (h.in_use ≡ true) ⊎ (h.token.id ≡ t.id)
  mark_on h e = by_id (is_id t.id h) refl e
    where
      by_id : (b : Bool) → is_id t.id h ≡ b → (if b then record h { in_use = true } else h).in_use ≡ true
          → (h.in_use ≡ true) ⊎ (h.token.id ≡ t.id)
      by_id true i f = inr (same_id_is h.token.id t.id i)
      by_id false i f = inl f

  mark_was : (h : Held) → (h.in_use ≡ true) ⊎ (h.token.id ≡ t.id) → (mark h).in_use ≡ true
  mark_was h why = by_id (is_id t.id h) refl why
    where
      by_id : (b : Bool) → is_id t.id h ≡ b → (h.in_use ≡ true) ⊎ (h.token.id ≡ t.id)
          → (if b then record h { in_use = true } else h).in_use ≡ true
      by_id true i f = refl
      by_id false i (inl f) = f
      by_id false i (inr f) = absurd (true_false (is_id t.id h) (id_same h.token.id t.id f) i)

  from : (h : Held) → In h cache.held → (k : Held) × In k m.cache.held × (h ≡ mark k)
  from h i =
      let r = in_map mark (used_all needs m.cache.held) h (subst (λ (hs : List Held). In h hs) held_is i) in
      (r.0, in_used needs m.cache.held r.0 r.1, r.2)

  to : (k : Held) → In k m.cache.held → In (mark k) cache.held
  to k i = subst (λ (hs : List Held). In (mark k) hs) (sym held_is)
      (map_in mark (used_all needs m.cache.held) k (used_in needs m.cache.held k i))

  there : (v : UseOf) → In v m.uses.labels → In v uses.labels
  there v i = in_left m.uses.labels (taken ∷ []) v i

  marked_so : (h : Held) → In h cache.held → h.in_use ≡ true
      → (u : UseOf) × In u uses.labels × (u.token.id ≡ h.token.id)
  marked_so h i e =
      let r = from h i in
      let k : Held = r.0 in
      let token : h.token.id ≡ k.token.id = ap (λ (z : Held). z.token.id) r.2 ∙ ap (λ (z : Token). z.id)
      (mark_token k).0 in
      elim (mark_on k (ap (λ (z : Held). z.in_use) (sym r.2) ∙ e)) [
        | inl was ↦
            let q = stands.cache.marked k r.1 was in
            let v : UseOf = record { label = q.0.label; token = q.0.token } in
            (v, there v (stands.uses.labels q.0 q.1), q.2 ∙ sym token)
        | inr its ↦ (taken, in_right m.uses.labels (taken ∷ []) taken (inl refl), sym its ∙ sym token)
      ]

  marks_so : (h : Held) (u : UseOf) → In h cache.held → In u uses.labels → u.token.id ≡ h.token.id → h.in_use ≡ true
  marks_so h u i j e =
      let r = from h i in
      let k : Held = r.0 in
      let token : h.token.id ≡ k.token.id = ap (λ (z : Held). z.token.id) r.2 ∙ ap (λ (z : Token). z.id)
      (mark_token k).0 in
      ap (λ (z : Held). z.in_use) r.2 ∙ mark_was k (elim (in_either m.uses.labels (taken ∷ []) u j) [
        | inl was ↦ inl (elim (by_test k.in_use) [
          | inl y ↦ y
          | inr n ↦ absurd (stands.cache.unmarked k r.1 n (labelled u, stands.uses.used u was, e ∙ token))
        ])
        | inr is ↦ elim is [
          | inl q ↦ inr (sym token ∙ sym e ∙ ap (λ (z : UseOf). z.token.id) q)
          | inr n ↦ elim n [ ]
        ]
      ])

  pub content_same : (f : Fid) (part : Part) → content cache f part ≡ content m.cache f part
  content_same f (ByteAt at) = ap (λ (z : Seen). unwrap_or (z.bytes f at) 0) shown
      ∙ ap (λ (z : Seen). unwrap_or (z.bytes f at) 0) told
  content_same f Size = ap (λ (z : Seen). option_map_or (λ status. status.length) (z.status f) 0) shown
      ∙ ap (λ (z : Seen). option_map_or (λ status. status.length) (z.status f) 0) told
  content_same f Traits = ap (λ (z : Seen). option_map nature_told (z.status f)) shown
      ∙ ap (λ (z : Seen). option_map nature_told (z.status f)) told
  content_same f Entries = ap (λ (z : Seen). z.entries f) shown ∙ ap (λ (z : Seen). z.entries f) told

  order : OrderStands script.roster m.host cache.held (s_u ∷ past)
  order before behind late early e i =
      let p = map_parts mark (used_all needs m.cache.held) before late behind (sym held_is ∙ e) in
      let r = in_map mark p.2 early (subst (λ (hs : List Held). In early hs) p.5 i) in
      let o = before_marks p.0 p.2 p.1 r.0 p.3 r.1 in
      subst (λ (q : Held × Held). UsedLater script.roster m.host (s_u ∷ past) q.0.token q.1.token)
      (λ z. (sym p.4 z, sym r.2 z))
      (subst (λ (q : Token × Token). UsedLater script.roster m.host (s_u ∷ past) q.0 q.1)
      (λ z. (sym (mark_token p.1).0 z, sym (mark_token r.0).0 z)) o)
    where
      before_marks : OrderStands script.roster m.host (used_all needs m.cache.held) (s_u ∷ past)
      before_marks = order_after script m past s_u learnt
          (λ b j. elim j [
            | inl q ↦ subst (λ (y : AnswerOf). IsCoveredFrom m y.call) (sym q) covered
            | inr n ↦ elim n [ ]
          ]) meets.stance needs
          (λ u h. (a_u, inl refl, (alike u).0 h))
          (λ u b j h. elim j [
            | inl q ↦ (alike u).1 (subst (λ (y : AnswerOf). Helped (needs_from m y.call) u) q h)
            | inr n ↦ elim n [ ]
          ])

  -- # Its label
  no_gives : verdict_from m c.call ≡ GivesOf → ⊥
  no_gives e = by_kind kind usable (sym verdict ∙ e)
    where
      by_kind : (k : Kind) → IsUseKind k → used_by fid k ≡ GivesOf → ⊥
      by_kind (LockKind writing span) u q = cc
      by_kind (OpeningKind opening) u q = cc
      by_kind (BytesKind update span) u q = elim u [ ]
      by_kind (StatusKind update) u q = elim u [ ]

  none_ending : m.ending ≡ None
  none_ending = by_ending m.ending refl
    where
      by_ending : (o : Option Labelled) → m.ending ≡ o → o ≡ None
      by_ending None e = refl
      by_ending (Some u) e = absurd (turns.none_ends script old m past cause came dues c first turn no_gives u e)

  locks_once : EachOnce (flat_map (λ u. locks_under m.host u.token.kind u) (map labelled uses.labels ++ ones m.ending))
  locks_once = subst (λ (o : Option Labelled). EachOnce (flat_map (λ u. locks_under m.host u.token.kind u)
      (map labelled uses.labels ++ ones o))) (sym none_ending)
      (once_last (λ u. locks_under m.host u.token.kind u) labelled m.uses.labels taken
      (subst (λ (o : Option Labelled). EachOnce (flat_map (λ u. locks_under m.host u.token.kind u)
      (map labelled m.uses.labels ++ ones o))) none_ending stands.labels.locks)
      (one_lock t.kind)
      (λ z i j.
      let r = from_one (λ u. locks_under m.host u.token.kind u) labelled m.uses.labels z j in
      let p = lock_of t.kind taken z i in
      let q = lock_of r.0.token.kind r.0 z r.2 in
      fresh r.0 r.1 (q.0 ∙ sym p.0 ∙ ap is_lock exact) (sym q.1 ∙ p.1)))
    where
      one_lock : (k : Kind) → EachOnce (locks_under m.host k (labelled taken))
      one_lock (LockKind writing span) = ((λ i. elim i [ ]), tt)
      one_lock (OpeningKind opening) = tt
      one_lock (BytesKind update span) = tt
      one_lock (StatusKind update) = tt

      lock_of : (k : Kind) (v : UseOf) (z : LockUse) → In z (locks_under m.host k (labelled v))
          → (is_lock k ≡ true) × (z.label ≡ v.label)
      lock_of (LockKind writing span) v z (inl e) = (refl, ap (λ (y : LockUse). y.label) e)
      lock_of (LockKind writing span) v z (inr n) = elim n [ ]
      lock_of (OpeningKind opening) v z i = elim i [ ]
      lock_of (BytesKind update span) v z i = elim i [ ]
      lock_of (StatusKind update) v z i = elim i [ ]

  opens_once : EachOnce (flat_map (λ u. opens_under m.host u.token.kind u) (map labelled uses.labels ++ ones m.ending))
  opens_once = subst (λ (o : Option Labelled). EachOnce (flat_map (λ u. opens_under m.host u.token.kind u)
      (map labelled uses.labels ++ ones o))) (sym none_ending)
      (once_last (λ u. opens_under m.host u.token.kind u) labelled m.uses.labels taken
      (subst (λ (o : Option Labelled). EachOnce (flat_map (λ u. opens_under m.host u.token.kind u)
      (map labelled m.uses.labels ++ ones o))) none_ending stands.labels.opens)
      (one_open t.kind)
      (λ z i j.
      let r = from_one (λ u. opens_under m.host u.token.kind u) labelled m.uses.labels z j in
      let p = open_of t.kind taken z i in
      let q = open_of r.0.token.kind r.0 z r.2 in
      fresh r.0 r.1 (q.0 ∙ sym p.0 ∙ ap is_lock exact) (sym q.1 ∙ p.1)))
    where
      one_open : (k : Kind) → EachOnce (opens_under m.host k (labelled taken))
      one_open (OpeningKind opening) = ((λ i. elim i [ ]), tt)
      one_open (LockKind writing span) = tt
      one_open (BytesKind update span) = tt
      one_open (StatusKind update) = tt

      open_of : (k : Kind) (v : UseOf) (z : OpenUse) → In z (opens_under m.host k (labelled v))
          → (is_lock k ≡ false) × (z.label ≡ v.label)
      open_of (OpeningKind opening) v z (inl e) = (refl, ap (λ (y : OpenUse). y.label) e)
      open_of (OpeningKind opening) v z (inr n) = elim n [ ]
      open_of (LockKind writing span) v z i = elim i [ ]
      open_of (BytesKind update span) v z i = elim i [ ]
      open_of (StatusKind update) v z i = elim i [ ]

  -- a pinned token has a label
  pinned_has : (i : TokenId) → is_pinned m.uses i ≡ true → (v : UseOf) × In v m.uses.labels × (v.token.id ≡ i)
  pinned_has i pinned =
      let r = in_any (λ other. same_id other i) m.uses.pinned pinned in
      let has : has_id m.uses.labels r.0 ≡ true =
      all_in (λ (id : TokenId). IsTrue (has_id m.uses.labels id)) m.uses.pinned sound.pins r.0 r.1 in
      let q = in_any (λ v. same_id v.token.id r.0) m.uses.labels has in
      (q.0, q.1, same_id_is q.0.token.id r.0 q.2 ∙ same_id_is r.0 i r.2)

  pub right : AnswerRight script m w (answers.moved script old m past cause came dues c first turn) past s_u a_u
  right = record {
    answers = refl;
    asked = refl;
    made = refl;
    dropped = refl;
    none_kept = answers.none_kept script old m past cause came dues c first turn Fine None (begun ∷ []) sent alone;
    no_stop = answers.no_stop script old m past cause came dues c first turn Fine None (begun ∷ []) sent alone;
    is_call = answers.is_call script old m past cause came dues c first turn Fine None (begun ∷ []) sent alone;
    held_from = λ h i.
        let r = from h i in (
          r.0,
          r.1,
          sym (mark_token r.0).0 ∙ ap (λ (z : Held). z.token) (sym r.2),
          sym (mark_token r.0).1 ∙ ap (λ (z : Held). z.tells) (sym r.2),
        );
    held_to = λ k i. (mark k, to k i, (mark_token k).0);
    marked = marked_so;
    marks = marks_so;
    order = order;
    content_is = content_same;
    zero = λ f at far. content_same f (ByteAt at) ∙ stands.contents.zero f at far;
    dirty = λ f at. refl;
    written = λ f at e. absurd (cc);
    keeps_label = λ v. true;
    taken_label = taken ∷ [];
    labels_are = ap (λ (vs : List UseOf). vs ++ taken ∷ []) (filter_same m.uses.labels);
    label_kept = λ v i none. refl;
    label_ended = λ v e ends. elim ends.1 [
      | inl q ↦ not_end (labelled v) (sym (ap (λ (z : AnswerOf). z.call) q) ∙ ends.2)
      | inr n ↦ elim n [ ]
    ];
    is_taken = λ v i. elim i [
      | inl q ↦ inl (ap labelled q ∙ taken_is)
      | inr n ↦ elim n [ ]
    ];
    begins = λ v i. elim i [
      | inl q ↦ subst (λ (z : Labelled). In (record { label = z.label; token = z.token }) (taken ∷ [])
          × In z.token (held_of m) × IsUseKind z.token.kind) (sym q)
          (inl (λ z. record { label = label_is z; token = t }), held, use_t)
      | inr n ↦ elim n [ ]
    ];
    one_taken = λ u v us vs e i. last_one taken u v us vs e i;
    fresh = λ v i j. elim i [
      | inl q ↦
          let l : v.label ≡ label = ap (λ (z : Labelled). z.label) q ∙ label_is in
          let k : v.token.kind ≡ kind = ap (λ (z : Labelled). z.token.kind) q ∙ exact in
          fresh v j (ap is_lock k) l
      | inr n ↦ elim n [ ]
    ];
    pins = λ i. refl;
    pinned_before = λ v i p. pinned_has v.token.id p;
    frees = λ v i p. (v, i, refl, refl);
    labels = record { locks = locks_once; opens = opens_once };
    no_bye = answers.no_bye script old m past cause came dues c first turn Fine None (begun ∷ []) sent alone;
  }
    where
      filter_same : (vs : List UseOf) → vs ≡ filter (λ (v : UseOf). true) vs
      filter_same [] = refl
      filter_same (v ∷ vs) = ap (λ (ys : List UseOf). v ∷ ys) (filter_same vs)

  pub uses_run : RunsOn script old (answers.new script old m past cause came dues c first turn w) past s_u
  uses_run = answers.answered_runs script old m past cause came dues c first turn Fine None (begun ∷ []) sent alone
      can refl wrote_is takes_it w right
      (λ f. inl (content_same f Size))
