-- A call is answered, and no label is taken or ends: what becomes of the tables, whatever the step's cause.
use Rattle.base_types.specs.Ids.{same_fid}
use Rattle.base_types.specs.Image.{byte_at}
use Rattle.base_types.specs.Spans.{has_byte}
use Rattle.base_types.specs.declared.ids.Fid.{Fid}
use Rattle.base_types.specs.declared.ids.ServerId.{ServerId}
use Rattle.base_types.specs.declared.limits.TheConstants.{FILE_BYTES_MAX}
use Rattle.base_types.specs.declared.span.Span.{Span}
use Rattle.host_cache.specs.Seen.{Kept, Seen, after_length, after_write, seen}
use Rattle.host_cache.specs.declared.held.Held.{Held}
use Rattle.host_dirty.specs.Dirtiness.{Adds, is_dirty as is_dirty_in}
use Rattle.host_dirty.specs.declared.dirty.Dirty.{Dirty}
use Rattle.host_labels.specs.declared.uses.Labelled.{Labelled as UseOf}
use Rattle.host_manager.proofs.Helped.{Helped}
use Rattle.host_manager.proofs.Ordered.{in_used, order_after, used_in}
use Rattle.host_tables.proofs.Lists.{by_test, in_any, none_in, same_fid_is}
use Rattle.host_tables.proofs.Writing.{writes_alike}
use Rattle.host_tables.specs.AnswerSteps.{AnswerRight, AnsweredBy, IsCallOf}
use Rattle.host_tables.specs.Half.{half}
use Rattle.host_tables.specs.Quiet.{Moved}
use Rattle.host_tables.specs.Stands.{IsCoveredFrom, OrderStands, Stands, needs_from}
use Rattle.host_tables.specs.Tables.{content, held_of, labelled}
use Rattle.host_tables.specs.Using.{used_all}
use Rattle.host_tables.specs.declared.tables.Tables.{Tables}
use Rattle.message_types.specs.declared.message.Body.TheVariants.{Bye}
use Rattle.need_host.specs.Calls.{written_value}
use Rattle.need_host.specs.Looks.{View}
use Rattle.run_rules.specs.Messages.{HasSaid, KeepsToken, Stops}
use Rattle.run_rules.specs.Past.{In}
use Rattle.run_rules.specs.Tokens.{EndsUse}
use Rattle.run_rules.specs.Views.{Stance, UpdatesByte, after_answers, after_call, changed_by_writes, writes_at}
use Rattle.run_rules.specs.Views.{writes_byte}
use Rattle.run_rules.specs.declared.applied.Answer.{Answer as AnswerOf}
use Rattle.run_rules.specs.declared.step.Step.{Step}
use Rattle.script_lines.specs.declared.script.Script.{Script}
use Rattle.std.proofs.Common.{Bool, IsTrue, List, None, Some, [], ap, arith, false, filter, if◌then◌else◌, inl, inr}
use Rattle.std.proofs.Common.{length, ltb-true, nat_le, nat_lt, refl, subst, sym, true, ℕ, ◌&&◌, ◌++◌, ◌+◌, ◌-◌, ◌<◌}
use Rattle.std.proofs.Common.{◌||◌, ◌↔◌, ◌∙◌, ◌∷◌, ◌≡◌, ◌≤◌}
use Rattle.std.proofs.lemmas.Bool.{and_parts, false_from_ne_true, leb-true}
use Rattle.std.specs.List.{list_any}
use Rattle.std.specs.Option.{option_map_or}
use Rattle.token_types.specs.Covers.{CoversBetween, covers_byte, kind_covers_byte}
use Rattle.token_types.specs.declared.token.Kind.{Kind}
use Rattle.token_types.specs.declared.token.Kind.TheVariants.{Bytes as BytesKind, Lock as LockKind}
use Rattle.token_types.specs.declared.token.Kind.TheVariants.{Opening as OpeningKind, Status as StatusKind}
use Rattle.token_types.specs.declared.token.Need.{Need}
use Rattle.token_types.specs.declared.token.Token.{Token}
use Rattle.token_types.specs.declared.token.TokenId.{TokenId}
use Rattle.tree_calls.specs.declared.call.Call.TheVariants.{Write}
use Rattle.tree_calls.specs.declared.place.Place.{Place as NamedPlace}
use Rattle.tree_laws.specs.Parts.{Nature, Part}
use Rattle.tree_laws.specs.Parts.Part.{ByteAt, Size, Traits}
use Rattle.tree_objects.specs.Spans.{span_between}

filter_all : {A : Type 0} (xs : List A) → xs ≡ filter (λ (x : A). true) xs ++ []
filter_all [] = refl
filter_all (x ∷ xs) = ap (λ ys. x ∷ ys) (filter_all xs)

no_place : {A : Type 0} (us : List A) (u : A) (vs : List A) → [] ≡ us ++ u ∷ vs → ⊥
no_place [] u vs e = cc
no_place (z ∷ us) u vs e = cc

module _ (script : Script) (m : Tables) (past : List Step) (s : Step) (learnt : Stands script m (half s ∷ past))
    (a : AnswerOf) (x : Moved) (is_call : IsCallOf m x a) (cache : Kept) (dirty : Dirty) (needs : List Need)
    (answers : s.answers ≡ a ∷ []) (asked : s.asked ≡ None) (made : s.made ≡ []) (dropped : s.dropped ≡ [])
    (begun : s.begun ≡ []) (none_kept : (i : TokenId) → KeepsToken s i → ⊥) (no_stop : Stops s → ⊥)
    (held_is : cache.held ≡ used_all needs m.cache.held)
    (covered : IsCoveredFrom m a.call)
    (alike : (t : Token) → Helped needs t ↔ Helped (needs_from m a.call) t)
    (stance : Stance script.roster m.host past s)
    (ends_none : (u : UseOf) → EndsUse s (labelled u) → ⊥)
    (content_is : (fid : Fid) (part : Part) → content cache fid part
    ≡ changed_by_writes s (content m.cache) fid part)
    (none_beyond : (fid : Fid) (at : ℕ) → FILE_BYTES_MAX ≤ at → content cache fid (ByteAt at) ≡ 0)
    (dirty_is : (fid : Fid) (at : ℕ) → is_dirty_in dirty fid at ≡ (writes_at s fid at || is_dirty_in m.dirty fid at))
    (written : (fid : Fid) (at : ℕ) → writes_at s fid at ≡ true
    → ((t : Token) × In t (held_of m) × UpdatesByte t fid at) × (at < FILE_BYTES_MAX))
    (no_bye : (v : ServerId) → HasSaid (s ∷ past) v Bye → ⊥) where
  abbrev pub w : AnsweredBy
  w = record { cache = cache; dirty = dirty; uses = m.uses }

  the_answer : (b : AnswerOf) → In b s.answers → b ≡ a
  the_answer b i = elim (subst (λ (bs : List AnswerOf). In b bs) answers i) [ inl e ↦ e | inr n ↦ elim n [ ] ]

  in_before : (h : Held) → In h cache.held → In h m.cache.held
  in_before h i = in_used needs m.cache.held h (subst (λ (hs : List Held). In h hs) held_is i)

  in_after : (h : Held) → In h m.cache.held → In h cache.held
  in_after h i = subst (λ (hs : List Held). In h hs) (sym held_is) (used_in needs m.cache.held h i)

  order : OrderStands script.roster m.host cache.held (s ∷ past)
  order = subst (λ (held : List Held). OrderStands script.roster m.host held (s ∷ past)) (sym held_is)
      (order_after script m past s learnt
      (λ b i. subst (λ (y : AnswerOf). IsCoveredFrom m y.call) (sym (the_answer b i)) covered) stance needs
      (λ t h. (a, subst (λ (bs : List AnswerOf). In a bs) (sym answers) (inl refl), (alike t).0 h))
      (λ t b i h. (alike t).1 (subst (λ (y : AnswerOf). Helped (needs_from m y.call) t) (the_answer b i) h)))

  pub answered_so : AnswerRight script m w x past s a
  answered_so = record {
    answers = answers;
    asked = asked;
    made = made;
    dropped = dropped;
    none_kept = none_kept;
    no_stop = no_stop;
    is_call = is_call;
    held_from = λ h i. (h, in_before h i, refl, refl);
    held_to = λ k i. (k, in_after k i, refl);
    marked = λ h i e.
        let t = learnt.cache.marked h (in_before h i) e in
        (record { label = t.0.label; token = t.0.token }, learnt.uses.labels t.0 t.1, t.2);
    marks = λ h u i j e. elim (by_test h.in_use) [
      | inl t ↦ t
      | inr n ↦ absurd (learnt.cache.unmarked h (in_before h i) n (labelled u, learnt.uses.used u j, e))
    ];
    order = order;
    content_is = content_is;
    zero = none_beyond;
    dirty = dirty_is;
    written = written;
    keeps_label = λ u. true;
    taken_label = [];
    labels_are = filter_all m.uses.labels;
    label_kept = λ u i none. refl;
    label_ended = λ u t ends. ends_none u ends;
    is_taken = λ u i. elim i [ ];
    begins = λ u i. absurd (none_in s.begun begun u i);
    one_taken = λ u v us vs e. absurd (no_place us u vs e);
    fresh = λ u i. absurd (none_in s.begun begun (labelled u) i);
    pins = λ i. refl;
    pinned_before = λ u i. absurd (none_in s.begun begun u i);
    frees = λ u i p. (u, i, refl, refl);
    labels = record { locks = learnt.labels.locks; opens = learnt.labels.opens };
    no_bye = no_bye;
  }

-- # A Write
module _ (s : Step) (a : AnswerOf) (answers : s.answers ≡ a ∷ []) (place : NamedPlace) (from : ℕ) (bytes : List ℕ)
    (call_is : a.call ≡ Write place from bytes) (fid : Fid) (wrote : s.wrote ≡ Some fid) where
  pub changed_is : (v : View) (f : Fid) (part : Part) → changed_by_writes s v f part
      ≡ (if same_fid fid f then written_value from bytes part (v f part) else v f part)
  changed_is v f part =
      (λ i. if option_map_or (λ (file : Fid). same_fid file f) (wrote i) false
      then after_answers (answers i) part (v f part) else v f part)
      ∙ (λ i. if same_fid fid f then after_call (call_is i) part (v f part) else v f part)

  pub writes_is : (f : Fid) (at : ℕ) → writes_at s f at
      ≡ (same_fid fid f && ((nat_le from at && nat_lt at (from + length bytes)) || false))
  writes_is f at =
      (λ i. option_map_or (λ (file : Fid). same_fid file f) (wrote i) false
      && list_any (λ (b : AnswerOf). writes_byte b.call at) (answers i))
      ∙ (λ i. same_fid fid f && (writes_byte (call_is i) at || false))

  module _ (end_fits : from + length bytes ≤ FILE_BYTES_MAX) where
    abbrev end : ℕ
    end = from + length bytes

    span_from : (span_between from end).from ≡ from
    span_from = omega (arith, end_fits)

    span_to : (span_between from end).to ≡ end
    span_to = omega (arith, end_fits)

    swap : (b c d : Bool) → (d || (b && c)) ≡ ((b && (c || false)) || d)
    swap true true true = refl
    swap true true false = refl
    swap true false d = or_none d
      where
        or_none : (d : Bool) → (d || false) ≡ d
        or_none true = refl
        or_none false = refl
    swap false c true = refl
    swap false c false = refl

    pub dirty_after : (old new : Dirty) → Adds old fid (span_between from end) new → (f : Fid) (at : ℕ)
        → is_dirty_in new f at ≡ (writes_at s f at || is_dirty_in old f at)
    dirty_after old new adds f at =
        adds.positions f at
        ∙ (λ i. is_dirty_in old f at || (same_fid fid f && (nat_le (span_from i) at && nat_lt at (span_to i))))
        ∙ swap (same_fid fid f) (nat_le from at && nat_lt at end) (is_dirty_in old f at)
        ∙ ap (λ (b : Bool). b || is_dirty_in old f at) (sym (writes_is f at))

    -- a written position
    pub position : (f : Fid) (at : ℕ) → writes_at s f at ≡ true → (fid ≡ f) × (from ≤ at) × (at < end)
    position f at e =
        let p = and_parts (same_fid fid f) ((nat_le from at && nat_lt at end) || false) (sym (writes_is f at) ∙ e) in
        let q = and_parts (nat_le from at) (nat_lt at end) (plain (nat_le from at && nat_lt at end) p.1) in
        (same_fid_is fid f p.0, leb-true from at q.0, ltb-true at end q.1)
      where
        plain : (b : Bool) → (b || false) ≡ true → b ≡ true
        plain true e = refl
        plain false e = e

    pub written_under : (held : List Token) → CoversBetween held fid true from end → (f : Fid) (at : ℕ)
        → writes_at s f at ≡ true → ((t : Token) × In t held × UpdatesByte t f at) × (at < FILE_BYTES_MAX)
    written_under held covers f at e =
        let p = position f at e in
        let low = p.1 in
        let high = p.2 in
        let c = in_any (covers_byte fid true at) held (covers at p.1 p.2) in
        let q = and_parts (same_fid c.0.fid fid) (kind_covers_byte true at c.0.kind) c.2 in
        let r = by_kind c.0.kind q.1 in (
          (c.0, c.1, (r.0, same_fid_is c.0.fid fid q.0 ∙ p.0, r.1, r.2)),
          omega (arith, high, end_fits),
        )
      where
        by_kind : (k : Kind) → kind_covers_byte true at k ≡ true
            → (span : Span) × (k ≡ BytesKind true span) × IsTrue (has_byte span at)
        by_kind (BytesKind true span) h = (span, refl, h)
        by_kind (BytesKind false span) h = absurd (cc)
        by_kind (StatusKind update) h = absurd (cc)
        by_kind (LockKind writing span) h = absurd (cc)
        by_kind (OpeningKind kind) h = absurd (cc)

-- what the code leaves of the cache, by the rules' words
module _ (old marked new : Kept) (fid : Fid) (from : ℕ) (bytes : List ℕ) (to : ℕ) (nature : Nature)
    (same : (f : Fid) (part : Part) → content marked f part ≡ content old f part)
    (known : content old fid Traits ≡ Some nature) (to_is : to ≡ from + length bytes)
    (shown : seen new ≡ (if nat_lt (content marked fid Size) to
    then after_length (after_write (seen marked) fid from bytes) fid to
    else after_write (seen marked) fid from bytes)) where
  pub content_after : (f : Fid) (part : Part) → content new f part
      ≡ (if same_fid fid f then written_value from bytes part (content old f part) else content old f part)
  content_after f part =
      writes_alike marked new (record { 0 = 0 }) 0 0 no_place_named fid from bytes nature
      (same fid Traits ∙ known)
      (shown ∙ ap (λ (n : ℕ). if nat_lt (content marked fid Size) n
      then after_length (after_write (seen marked) fid from bytes) fid n
      else after_write (seen marked) fid from bytes) to_is) f part
      ∙ ap (λ v. if same_fid fid f then written_value from bytes part v else v) (same f part)
    where
      no_place_named : NamedPlace
      no_place_named = record { server = record { 0 = 0 }; fileset = []; path = [] }

  pub held_after : new.held ≡ marked.held
  held_after = ap (λ (z : Seen). z.held) shown ∙ by_length (nat_lt (content marked fid Size) to)
    where
      by_length : (b : Bool) → (if b then after_length (after_write (seen marked) fid from bytes) fid to
          else after_write (seen marked) fid from bytes).held ≡ marked.held
      by_length true = refl
      by_length false = refl

  -- beyond what a file can have nothing is written
  pub zero_after : from + length bytes ≤ FILE_BYTES_MAX
      → ((f : Fid) (at : ℕ) → FILE_BYTES_MAX ≤ at → content old f (ByteAt at) ≡ 0) → (f : Fid) (at : ℕ)
      → FILE_BYTES_MAX ≤ at → content new f (ByteAt at) ≡ 0
  zero_after fits none f at far =
      content_after f (ByteAt at) ∙ by_file (same_fid fid f) (content old f (ByteAt at)) (none f at far)
    where
      beyond : nat_lt at (from + length bytes) ≡ false
      beyond = false_from_ne_true (nat_lt at (from + length bytes))
          (λ e. absurd (omega (arith, fits, far, ltb-true at (from + length bytes) e)))

      and_false : (b c : Bool) → c ≡ false → (b && c) ≡ false
      and_false true c e = e
      and_false false c e = refl

      by_file : (b : Bool) (v : ℕ) → v ≡ 0 → (if b then written_value from bytes (ByteAt at) v else v) ≡ 0
      by_file true v e =
          ap (λ (c : Bool). if c then byte_at bytes (at - from) else v)
          (and_false (nat_le from at) (nat_lt at (from + length bytes)) beyond) ∙ e
      by_file false v e = e
