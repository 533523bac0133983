-- What a host changes when it answers a Write, and under which tokens.
use Rattle.std.proofs.Common.{◌≡◌, ℕ, ◌<◌, ◌≤◌, ◌+◌, ◌-◌, ◌&&◌, Bool, true, false, if◌then◌else◌, nat_lt, nat_le}
use Rattle.std.proofs.Common.{Option, Some, None, List, [], ◌∷◌, length, min, inl, inr, sym, ◌∙◌, ap, subst, refl}
use Rattle.std.proofs.Common.{arith}
use Rattle.std.proofs.lemmas.Bool.{and_parts, false≢true}
use Rattle.std.proofs.lemmas.Grind.{common_steps}
use Rattle.std.specs.List.{list_any}
use Rattle.std.specs.Option.{option_map_or}
use Rattle.std.specs.Prelude.{is_some, unwrap_or}
use Rattle.base_types.specs.Ids.{same_fid}
use Rattle.base_types.specs.Image.{byte_at}
use Rattle.base_types.specs.Spans.{has_byte}
use Rattle.base_types.specs.declared.ids.Fid.{Fid}
use Rattle.base_types.specs.declared.ids.HostId.{HostId}
use Rattle.base_types.specs.declared.limits.TheConstants.{FILE_BYTES_MAX}
use Rattle.base_types.specs.declared.span.Span.{Span}
use Rattle.need_host.proofs.Updates.{rounded_has}
use Rattle.need_host.specs.Looks.{CoverAll, rounded}
use Rattle.need_host.specs.Shows.{is_update, shows}
use Rattle.message_types.specs.declared.giving.Give.{Give}
use Rattle.script_lines.specs.declared.script.Script.{Script}
use Rattle.token_types.specs.Covers.{Covers, covers_alone, covers_byte, kind_covers, kind_covers_byte}
use Rattle.token_types.specs.declared.token.Kind.{Kind}
use Rattle.token_types.specs.declared.token.Kind.TheVariants.{Bytes, Lock, Opening, Status}
use Rattle.token_types.specs.declared.token.Need.{Need}
use Rattle.token_types.specs.declared.token.Token.{Token}
use Rattle.tree_laws.proofs.Steps.{fid_is}
use Rattle.tree_laws.specs.Parts.{Nature, Part, Seen}
use Rattle.tree_laws.specs.Parts.Part.{ByteAt, Entries, Size, Traits}
use Rattle.run_rules.specs.HostMay.{HostMay}
use Rattle.run_rules.specs.Past.{In}
use Rattle.run_rules.specs.Tokens.{AtHand, Owns}
use Rattle.run_rules.specs.Views.{byte_of, gives_at, needs_in, sees as host_sees, writes_to}
use Rattle.run_parts.specs.Contents.{Contents, Knows, KnowsFile, Over, OwnsUpdate, sees, view}
use Rattle.run_contents.proofs.Calls.{gives_none, stays}
use Rattle.run_contents.proofs.Views.{one_alone, sees_same}
use Rattle.run_contents.proofs.Words.{any_in}
use Rattle.run_contents.proofs.WriteLooks.{WriteLook, of_write}
use Rattle.run_contents.specs.Steps.{HostRun, IsOfJournal, Written, written_at, written_by, written_in, wrote}
use Rattle.run_rules.specs.declared.applied.Answer.{Answer}
use Rattle.run_rules.specs.declared.step.Step.{Step}

-- what tokens cover of needs they cover of each
pub covered_in : (held : List Token) (needs : List Need) (n : Need) → CoverAll held needs → In n needs → Covers held n
covered_in held [] n c m = elim m [ ]
covered_in held (x ∷ xs) n c (inl e) = subst (Covers held) (sym e) c.0
covered_in held (x ∷ xs) n c (inr m) = covered_in held xs n c.1 m

-- what covers a status shows its parts; for update, it lets its host change the size
status_parts : (k : Kind) (u : Bool) → kind_covers k (Status u) ≡ true → (shows k Traits ≡ true) × (shows k Size ≡ true)
status_parts (Status w) u e = (refl, refl)
status_parts (Bytes w span) u e = absurd (false≢true e)
status_parts (Lock w span) u e = absurd (false≢true e)
status_parts (Opening w) u e = absurd (false≢true e)

status_update : (k : Kind) → kind_covers k (Status true) ≡ true → is_update k ≡ true
status_update (Status true) e = refl
status_update (Status false) e = absurd (false≢true e)
status_update (Bytes w span) e = absurd (false≢true e)
status_update (Lock w span) e = absurd (false≢true e)
status_update (Opening w) e = absurd (false≢true e)

byte_parts : (k : Kind) (at : ℕ) → kind_covers_byte true at k ≡ true
    → (shows k (ByteAt at) ≡ true) × (is_update k ≡ true)
byte_parts (Bytes true span) at e = (e, refl)
byte_parts (Bytes false span) at e = absurd (false≢true e)
byte_parts (Status w) at e = absurd (false≢true e)
byte_parts (Lock w span) at e = absurd (false≢true e)
byte_parts (Opening w) at e = absurd (false≢true e)

-- a byte of a span lies between its ends
byte_between : (span : Span) (at : ℕ) → has_byte span at ≡ true → (span.from ≤ at) × (at < span.to)
byte_between span at e =
    let p = and_parts (nat_le span.from at) (nat_lt at span.to) e in
    let a = p.0 in
    let b = p.1 in
    (grind (arith, common_steps, a), grind (arith, common_steps, b))

between : (from end at : ℕ) → (nat_le from at && nat_lt at end) ≡ true → (from ≤ at) × (at < end)
between from end at e =
    let p = and_parts (nat_le from at) (nat_lt at end) e in
    let a = p.0 in
    let b = p.1 in
    (grind (arith, common_steps, a), grind (arith, common_steps, b))

below_limit : (at end : ℕ) → at < end → nat_lt FILE_BYTES_MAX end ≡ false → nat_lt at FILE_BYTES_MAX ≡ true
below_limit at end lt e =
    let le : end ≤ 65536 = grind (arith, common_steps, e) in
    let l : at < 65536 = omega (arith, lt, le) in
    grind (arith, common_steps, l)

only_if : {X : Type 0} (b : Bool) (x y : X) → (if b then Some x else None) ≡ Some y → b ≡ true
only_if true x y e = refl
only_if false x y e = absurd (let k : None ≡ Some y = e in cc)

named : (f : Fid) (o : Option Fid) → option_map_or (λ file. same_fid file f) o false ≡ true → o ≡ Some f
named f None e = absurd (false≢true e)
named f (Some g) e = ap Some (fid_is g f e)

-- the one answer of a step
written_first : (xs : List Answer) (a : Answer) → length xs ≤ 1 → In a xs → written_in xs ≡ written_by a.call
written_first [] a le i = elim i [ ]
written_first (x ∷ xs) a le i =
    ap (λ (z : Answer). written_by z.call) (one_alone (x ∷ xs) le x a (inl refl) i)

-- the greater of what is seen and what is written
after_size : (at end size : ℕ) → at < end → at < unwrap_or (if nat_lt size end then Some end else None) size
after_size at end size lt = go (nat_lt size end) refl
  where
    go : (b : Bool) → nat_lt size end ≡ b → at < unwrap_or (if b then Some end else None) size
    go true e = lt
    go false e = let le : end ≤ size = grind (arith, common_steps, e) in omega (arith, lt, le)

module _ (c : Contents) (same : IsOfJournal c) (script : Script) (host : HostId) (past : List Step) (s : Step)
    (run : HostRun script host past) (m : HostMay script host past s) where
  stays' : (a : Answer) → In a s.answers → (t : Token) → AtHand s past t → Owns (s ∷ past) t
  stays' = stays script host past s run m

  -- the Write that a step answers, of a file
  pub record Writing (f : Fid) : Type 0 where
    pub answer : Answer
    pub answered : In answer s.answers
    pub from : ℕ
    pub bytes : List ℕ
    pub look : WriteLook (host_sees past s) (needs_in m.stance answer.call) f from bytes
    pub value : (p : Part) → wrote past s f p
        ≡ written_at (Some (record { from = from; bytes = bytes })) (host_sees past s f Size) p

  writing : (f : Fid) → writes_to s f ≡ true → Writing f
  writing f e =
      let (a, from, bytes, i, v) = m.answers.writes_only f (named f s.wrote e) in
      let w = of_write (host_sees past s) f from bytes m.stance.own host m.stance.user a.call v in
      let first : written_in s.answers ≡ Some (record { from = from; bytes = bytes }) =
      written_first s.answers a m.answers.answers_one i ∙ ap written_by w.is in
      record {
        answer = a;
        answered = i;
        from = from;
        bytes = bytes;
        look = w.look;
        value = λ p.
            ap (λ (b : Bool). if b then written_at (written_in s.answers) (host_sees past s f Size) p else None) e
            ∙ ap (λ (o : Option Written). written_at o (host_sees past s f Size) p) first;
      }

  pub wrote_so : (f : Fid) (p : Part) (x : Seen p) → c.wrote past s f p ≡ Some x → Writing f
  wrote_so f p x e = writing f (only_wrote (writes_to s f) (sym (same.wrote past s f p) ∙ e))
    where
      only_wrote : (b : Bool) → (if b then written_at (written_in s.answers) (host_sees past s f Size) p else None)
          ≡ Some x → b ≡ true
      only_wrote true e = refl
      only_wrote false e = absurd (let k : None ≡ Some x = e in cc)

  module _ (f : Fid) (w : Writing f) where
    covered : (n : Need) → In n (needs_in m.stance w.answer.call) → Covers m.stance.held n
    covered n i = covered_in m.stance.held (needs_in m.stance w.answer.call) n
        (m.answers.answers w.answer w.answered).2.covered i

    -- a token over the status, over a byte, that is at hand
    of_status : (g : Fid) (u : Bool) → In (record { fid = g; kind = Status u })
        (needs_in m.stance w.answer.call)
        → (t : Token) × AtHand s past t × (t.fid ≡ g) × (kind_covers t.kind (Status u) ≡ true)
    of_status g u i =
        let t = any_in (covers_alone g (Status u)) m.stance.held (covered (record { fid = g; kind = Status u }) i) in
        let q = and_parts (same_fid t.0.fid g) (kind_covers t.0.kind (Status u)) t.2 in
        (t.0, (m.stance.holds t.0).0 t.1, fid_is t.0.fid g q.0, q.1)

    of_byte : (span : Span) (at : ℕ) → In (record { fid = f; kind = Bytes true span })
        (needs_in m.stance w.answer.call) → has_byte span at ≡ true
        → (t : Token) × AtHand s past t × (t.fid ≡ f) × (kind_covers_byte true at t.kind ≡ true)
    of_byte span at i has =
        let (low, high) = byte_between span at has in
        let t = any_in (covers_byte f true at) m.stance.held
        (covered (record { fid = f; kind = Bytes true span }) i at low high) in
        let q = and_parts (same_fid t.0.fid f) (kind_covers_byte true at t.0.kind) t.2 in
        (t.0, (m.stance.holds t.0).0 t.1, fid_is t.0.fid f q.0, q.1)

    owns_size : nat_lt (host_sees past s f Size) (w.from + length w.bytes) ≡ true → OwnsUpdate (s ∷ past) f Size
    owns_size e =
        let t = of_status f true (w.look.takes.grows e).0 in
        record {
          token = t.0;
          owned = stays' w.answer w.answered t.0 t.1;
          file = t.2;
          covers = (status_parts t.0.kind true t.3).1;
          update = status_update t.0.kind t.3;
        }

    owns_byte : (at : ℕ) → w.from ≤ at → at < w.from + length w.bytes → OwnsUpdate (s ∷ past) f (ByteAt at)
    owns_byte at low high = go (nat_lt (host_sees past s f Size) (w.from + length w.bytes)) refl
      where
        can : nat_lt at FILE_BYTES_MAX ≡ true
        can = below_limit at (w.from + length w.bytes) high w.look.target.fits

        by : (span : Span) → In (record { fid = f; kind = Bytes true span })
            (needs_in m.stance w.answer.call) → has_byte span at ≡ true
            → OwnsUpdate (s ∷ past) f (ByteAt at)
        by span i has =
            let t = of_byte span at i has in
            let p = byte_parts t.0.kind at t.3 in
            record {
              token = t.0;
              owned = stays' w.answer w.answered t.0 t.1;
              file = t.2;
              covers = p.0;
              update = p.1;
            }

        go : (b : Bool) → nat_lt (host_sees past s f Size) (w.from + length w.bytes) ≡ b
            → OwnsUpdate (s ∷ past) f (ByteAt at)
        go true e =
            let least : min w.from (host_sees past s f Size) ≤ at = omega (arith, low) in
            by (rounded (min w.from (host_sees past s f Size)) (w.from + length w.bytes)) (w.look.takes.grows e).1
            (rounded_has (min w.from (host_sees past s f Size)) (w.from + length w.bytes) at least high can)
        go false e =
            by (rounded w.from (w.from + length w.bytes)) (w.look.takes.inside e)
            (rounded_has w.from (w.from + length w.bytes) at low high can)

    -- a byte that is written lies in what is written
    written_range : (at x : ℕ) → wrote past s f (ByteAt at) ≡ Some x
        → (w.from ≤ at) × (at < w.from + length w.bytes)
    written_range at x e =
        between w.from (w.from + length w.bytes) at
        (only_if (nat_le w.from at && nat_lt at (w.from + length w.bytes)) (byte_at w.bytes (at - w.from)) x
        (sym (w.value (ByteAt at)) ∙ e))

    writes_part : (p : Part) (x : Seen p) → wrote past s f p ≡ Some x → OwnsUpdate (s ∷ past) f p
    writes_part (ByteAt at) x e = let r = written_range at x e in owns_byte at r.0 r.1
    writes_part Size x e =
        owns_size (only_if (nat_lt (host_sees past s f Size) (w.from + length w.bytes)) (w.from + length w.bytes) x
        (sym (w.value Size) ∙ e))
    writes_part Traits x e = absurd (let k : None ≡ Some x = sym (w.value Traits) ∙ e in cc)
    writes_part Entries x e = absurd (let k : None ≡ Some x = sym (w.value Entries) ∙ e in cc)

    knows : (g : Fid) (n : Nature) → In (record { fid = g; kind = Status false })
        (needs_in m.stance w.answer.call) → host_sees past s g Traits ≡ Some n
        → Knows c past s g n
    knows g n i e =
        let t = of_status g false i in
        record {
          token = t.0;
          held = t.1;
          file = t.2;
          covers = (status_parts t.0.kind false t.3).0;
          sees = sees_same c same script host past run s g Traits ∙ e;
        }

    knows_file : KnowsFile c past s f
    knows_file =
        let t = w.look.target in (
          (t.nature, knows f t.nature t.status t.seen, t.is_file),
          (t.root, t.root_nature, t.fileset, knows t.root t.root_nature t.root_status t.root_seen, t.writable),
        )

    below : (at : ℕ) → at < w.from + length w.bytes → at < view c (s ∷ past) f Size
    below at high =
        subst (λ n. at < n)
        (sym (ap (λ (o : Option ℕ). unwrap_or o (sees c past s f Size)) (same.wrote past s f Size ∙ w.value Size)
        ∙ ap (λ n. unwrap_or (if nat_lt (host_sees past s f Size) (w.from + length w.bytes)
        then Some (w.from + length w.bytes) else None) n) (sees_same c same script host past run s f Size)))
        (after_size at (w.from + length w.bytes) (host_sees past s f Size) high)

    has_status : (t : Token) × Owns (s ∷ past) t × Over t f Size
    has_status =
        let t = of_status f false w.look.target.status in (
          t.0,
          stays' w.answer w.answered t.0 t.1,
          record { file = t.2; covers = (status_parts t.0.kind false t.3).1 },
        )

  pub writes' : (f : Fid) (p : Part) (x : Seen p) → c.wrote past s f p ≡ Some x → OwnsUpdate (s ∷ past) f p
  writes' f p x e = writes_part f (wrote_so f p x e) p x (sym (same.wrote past s f p) ∙ e)

  pub writes_file' : (f : Fid) (p : Part) (x : Seen p) → c.wrote past s f p ≡ Some x → KnowsFile c past s f
  writes_file' f p x e = knows_file f (wrote_so f p x e)

  pub writes_only' : (f : Fid) (q x y : ℕ) (g : Give) → c.wrote past s f (ByteAt q) ≡ Some x → In g s.made → g.fid ≡ f
      → c.gives g (ByteAt q) ≡ Some y → ⊥
  writes_only' f q x y g e i file has =
      let w = wrote_so f (ByteAt q) x e in gives_none script host past s run m w.answer w.answered g i

  pub writes_kept' : (f : Fid) (q x : ℕ) → c.wrote past s f (ByteAt q) ≡ Some x → c.hands s f q ≡ false
  writes_kept' f q x e =
      let w = wrote_so f (ByteAt q) x e in
      same.hands s f q ∙ none (m.answers.keeps w.answer w.answered).1
    where
      none : s.made ≡ [] → gives_at s f q ≡ false
      none made = ap (λ (gs : List Give).
          list_any (λ give. same_fid give.fid f && is_some (byte_of give.pieces q)) gs) made

  pub writes_below' : (f : Fid) (q x : ℕ) → c.wrote past s f (ByteAt q) ≡ Some x
      → (q < view c (s ∷ past) f Size) × ((t : Token) × Owns (s ∷ past) t × Over t f Size)
  writes_below' f q x e =
      let w = wrote_so f (ByteAt q) x e in
      let r = written_range f w q x (sym (same.wrote past s f (ByteAt q)) ∙ e) in
      (below f w q r.1, has_status f w)
