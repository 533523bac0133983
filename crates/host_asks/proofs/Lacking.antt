-- Where a call lacks something of a file whose status is held, what it needs of the file.
use Rattle.std.proofs.Common.{◌≡◌, ◌≤◌, ◌<◌, ◌+◌, ◌-◌, ◌&&◌, ◌++◌, ◌∙◌, ◌∷◌, ◌⊎◌, ◌↔◌, Bool, Err}
use Rattle.std.proofs.Common.{List}
use Rattle.std.proofs.Common.{None, Ok, Option, Result, Some, [], ap, arith, false, inl, inr, length, min, nat_le}
use Rattle.std.proofs.Common.{nat_lt}
use Rattle.std.proofs.Common.{not, refl, subst, suc, sym, true, zero, ℕ, if◌then◌else◌}
use Rattle.std.proofs.lemmas.Bool.{and_from, and_parts, le-leb, leb-true, lt-ltb, ltb-true}
use Rattle.std.specs.Bool.{beq}
use Rattle.base_types.specs.Outcomes.{either}
use Rattle.base_types.specs.Spans.{has_byte}
use Rattle.base_types.specs.declared.ids.Fid.{Fid}
use Rattle.base_types.specs.declared.ids.FilesetId.{FilesetId}
use Rattle.base_types.specs.declared.ids.HostId.{HostId}
use Rattle.base_types.specs.declared.ids.OpenKind.{OpenKind}
use Rattle.base_types.specs.declared.ids.ServerId.{ServerId}
use Rattle.base_types.specs.declared.limits.TheConstants.{FILE_BYTES_MAX, LABELS_MAX}
use Rattle.base_types.specs.declared.span.Span.{Span}
use Rattle.base_types.specs.declared.user.User.{User}
use Rattle.host_asks.proofs.Fronts.{IsFront, bytes_status, file_front, lack_either, no_byte, no_lack, no_update}
use Rattle.host_asks.proofs.Fronts.{permitted_front, two_apart}
use Rattle.host_asks.proofs.Fronts.{target_front, target_told, use_front, write_target_front}
use Rattle.host_asks.specs.Fetching.{is_wanted, lengthens}
use Rattle.host_calls.proofs.Judged.{fits}
use Rattle.host_tables.proofs.Lists.{in_either, in_right}
use Rattle.host_tables.specs.Plain.{IsDirIn}
use Rattle.host_walk.proofs.Blocks.{needs_end}
use Rattle.host_walk.specs.Bytes.{byte_need, read_count, written_blocks}
use Rattle.need_host.proofs.Updates.{needs_on}
use Rattle.need_host.specs.Calls.{Own, Verdict, access_look, bytes_look, call_look, change_look, entries_for, facts_for}
use Rattle.need_host.specs.Calls.{from_root, in_place, judged, list_for, list_look, lock_for, lock_look}
use Rattle.need_host.specs.Calls.{open_for, open_look, read_from, read_look, refuse, stat_look, sync_look, sync_verdict}
use Rattle.need_host.specs.Calls.{write_look, write_target_look, written_look}
use Rattle.need_host.specs.Calls.Verdict.{Frees, Gives, Locks, Opens, Replies, Writes}
use Rattle.need_host.specs.Looks.{IsFirstLack, Look, View, after_check, checked, needs_of, outcome, refuse_if, rounded}
use Rattle.need_host.specs.Looks.Look.{Ends, Looks, Takes}
use Rattle.need_host.specs.Walks.{file_look, permitted, permitted_look, rights_on, root_of, target_look}
use Rattle.need_host.specs.Walks.{use_look}
use Rattle.run_rules.specs.HostAsks.{NamesByte}
use Rattle.run_rules.specs.Past.{In}
use Rattle.run_rules.specs.Tokens.{IsUseKind}
use Rattle.token_types.specs.Covers.{Covers}
use Rattle.token_types.specs.declared.token.Kind.TheVariants.{Bytes, Lock as LockKind, Status}
use Rattle.token_types.specs.declared.token.Need.{Need}
use Rattle.token_types.specs.declared.token.Token.{Token}
use Rattle.tree_answers.specs.Locks.{has_lock, is_own_locked, lock_count}
use Rattle.tree_answers.specs.Opens.{has_open, open_count}
use Rattle.tree_calls.specs.declared.call.Call.{Call}
use Rattle.tree_calls.specs.declared.call.Call.TheVariants.{CloneFileset, CloseFile, Create, GetAcl}
use Rattle.tree_calls.specs.declared.call.Call.TheVariants.{List as ListNames, Lock, MakeDir, MoveFileset, NewFileset}
use Rattle.tree_calls.specs.declared.call.Call.TheVariants.{OpenFile, Read, Remove, Rename, SetAcl, Stat, Sync}
use Rattle.tree_calls.specs.declared.call.Call.TheVariants.{Truncate, Unlock, Write}
use Rattle.tree_calls.specs.declared.part.DirEntry.{DirEntry}
use Rattle.tree_calls.specs.declared.place.Place.{Place}
use Rattle.tree_calls.specs.declared.place.Which.{Which}
use Rattle.tree_calls.specs.declared.reply.Refusal.{Refusal}
use Rattle.tree_calls.specs.declared.reply.Refusal.TheVariants.{AlreadyLocked, AlreadyOpened, NotDir}
use Rattle.tree_calls.specs.declared.reply.Refusal.TheVariants.{NotLocked}
use Rattle.tree_calls.specs.declared.reply.Refusal.TheVariants.{Denied, NotOpened, TooBig, TooMany}
use Rattle.tree_calls.specs.declared.reply.Reply.TheVariants.{Access, Bytes as BytesReply, Facts, Names, Refused}
use Rattle.tree_filesets.specs.Rights.{read_right, write_right}
use Rattle.tree_filesets.specs.Uses.{is_changing, right_to_open}
use Rattle.base_types.specs.Access.{allows}
use Rattle.tree_laws.specs.Parts.{Nature}
use Rattle.tree_laws.specs.Parts.Part.{ByteAt, Entries, Size, Traits}
use Rattle.tree_objects.specs.Entries.{names_of}
use Rattle.tree_objects.specs.Spans.{span_between}

-- what a call needs of a file
pub record NeedsOf (call : Call) (needs : List Need) (fid : Fid) (size : ℕ) : Type 0 where
  pub bytes : (update : Bool) (at : ℕ) → NamesByte needs fid update at ↔ (is_wanted call size update at ≡ true)
  pub status : In (record { fid = fid; kind = Status true }) needs ↔ (lengthens call size ≡ true)

lack_in : (held : List Token) (needs : List Need) (need : Need) → IsFirstLack held needs need → In need needs
lack_in held [] need l = l
lack_in held (n ∷ needs) need (inl l) = inl (sym l.1)
lack_in held (n ∷ needs) need (inr l) = inr (lack_in held needs need l.1)

-- ---- the bytes of a read
bytes_at : (view : View) (fid : Fid) (n from : ℕ) (need : Need) → In need (needs_of view (bytes_look fid from n)) →
    (k : ℕ) × (from ≤ k) × (k < from + n) × (need ≡ byte_need fid k)
bytes_at view fid zero from need i = elim i [ ]
bytes_at view fid (suc n) from need i =
    by_case (bytes_at view fid n (suc from) need) (subst (In need) (ap (λ needs. byte_need fid from ∷ needs)
    (needs_end view (λ bytes. view fid (ByteAt from) ∷ bytes) (bytes_look fid (suc from) n))) i)
  where
    by_case : (In need (needs_of view (bytes_look fid (suc from) n)) →
        (k : ℕ) × (suc from ≤ k) × (k < suc from + n) × (need ≡ byte_need fid k)) →
        In need (byte_need fid from ∷ needs_of view (bytes_look fid (suc from) n)) →
        (k : ℕ) × (from ≤ k) × (k < from + suc n) × (need ≡ byte_need fid k)
    by_case go (inl e) = (from, omega arith, omega arith, e)
    by_case go (inr j) =
        let r = go j in
        let low = r.1 in
        let high = r.2 in
        (r.0, omega (arith, low), omega (arith, high), r.3)

at_bytes : (view : View) (fid : Fid) (n from k : ℕ) → from ≤ k → k < from + n →
    In (byte_need fid k) (needs_of view (bytes_look fid from n))
at_bytes view fid zero from k low high = absurd (omega (arith, low, high))
at_bytes view fid (suc n) from k low high =
    subst (In (byte_need fid k)) (sym (ap (λ needs. byte_need fid from ∷ needs)
    (needs_end view (λ bytes. view fid (ByteAt from) ∷ bytes) (bytes_look fid (suc from) n))))
    (by_case (λ h. at_bytes view fid n (suc from) k h (omega (arith, high))) (lower from k low))
  where
    lower : (a b : ℕ) → a ≤ b → (b ≡ a) ⊎ (suc a ≤ b)
    lower a b h = grind (arith, h)

    by_case : (suc from ≤ k → In (byte_need fid k) (needs_of view (bytes_look fid (suc from) n))) →
        (k ≡ from) ⊎ (suc from ≤ k) →
        In (byte_need fid k) (byte_need fid from ∷ needs_of view (bytes_look fid (suc from) n))
    by_case go (inl e) = inl (ap (byte_need fid) e)
    by_case go (inr h) = inr (go h)

has_parts : (s : Span) (at : ℕ) → has_byte s at ≡ true → (s.from ≤ at) × (at < s.to)
has_parts s at e =
    let p = and_parts (nat_le s.from at) (nat_lt at s.to) e in (leb-true s.from at p.0, ltb-true at s.to p.1)

parts_have : (s : Span) (at : ℕ) → s.from ≤ at → at < s.to → has_byte s at ≡ true
parts_have s at low high =
    and_from (nat_le s.from at) (nat_lt at s.to) (le-leb s.from at low) (lt-ltb at s.to high)

abbrev read_span : ℕ → ℕ → Span
read_span from n = span_between from (from + n)

abbrev read_blocks : ℕ → ℕ → Span
read_blocks from n = rounded (read_span from n).from (read_span from n).to

block_in : (from n k at : ℕ) → from ≤ k → k < from + n → has_byte (rounded k (k + 1)) at ≡ true →
    has_byte (read_blocks from n) at ≡ true
block_in from n k at low high e =
    let p = has_parts (rounded k (k + 1)) at e in
    let a = p.0 in
    let b = p.1 in
    parts_have (read_blocks from n) at (omega (arith, low, high, a, b)) (omega (arith, low, high, a, b))

in_block : (from n at : ℕ) → 0 < n → has_byte (read_blocks from n) at ≡ true →
    (k : ℕ) × (from ≤ k) × (k < from + n) × (has_byte (rounded k (k + 1)) at ≡ true)
in_block from n at some e = by_case (order at from) (order at (min (from + n) FILE_BYTES_MAX))
  where
    order : (a b : ℕ) → (a < b) ⊎ (b ≤ a)
    order a b = grind arith

    low : (read_blocks from n).from ≤ at
    low = (has_parts (read_blocks from n) at e).0

    high : at < (read_blocks from n).to
    high = (has_parts (read_blocks from n) at e).1

    by_case : (at < from) ⊎ (from ≤ at) →
        (at < min (from + n) FILE_BYTES_MAX) ⊎ (min (from + n) FILE_BYTES_MAX ≤ at) →
        (k : ℕ) × (from ≤ k) × (k < from + n) × (has_byte (rounded k (k + 1)) at ≡ true)
    by_case (inl h) x =
        let a = low in
        let b = high in (
          from,
          omega arith,
          omega (arith, some),
          parts_have (rounded from (from + 1)) at (omega (arith, h, a, b)) (omega (arith, h, a, b)),
        )
    by_case (inr h) (inl k) =
        let a = low in
        let b = high in
        (at, h, omega (arith, k), parts_have (rounded at (at + 1)) at (omega arith) (omega (arith, k)))
    by_case (inr h) (inr k) =
        let a = low in
        let b = high in
        let last = min (from + n) FILE_BYTES_MAX - 1 in (
          last,
          omega (arith, some, h, k, a, b),
          omega (arith, some, h, k, a, b),
          parts_have (rounded last (last + 1)) at (omega (arith, some, h, k, a, b)) (omega (arith, some, h, k, a, b)),
        )

beq_true : (u : Bool) → beq false u ≡ true → u ≡ false
beq_true true e = absurd (cc)
beq_true false e = refl

beq_update : (u : Bool) → beq true u ≡ true → u ≡ true
beq_update true e = refl
beq_update false e = absurd (cc)

module _ (m_held : List Token) (view : View) (need : Need) (plain : IsUseKind need.kind → ⊥)
    (covered : Covers m_held (record { fid = need.fid; kind = Status false })) (file : IsDirIn view need.fid → ⊥) where
  abbrev Lacks : {R : Type 0} → Look R → Type 0
  Lacks look = IsFirstLack m_held (needs_of view look) need

  abbrev Wants : {R : Type 0} → Call → Look R → Type 0
  Wants call look = NeedsOf call (needs_of view look) need.fid (view need.fid Size)

  -- the status isn't what lacks
  not_status : (fid : Fid) → (Covers m_held (record { fid = fid; kind = Status false }) → ⊥)
      × (record { fid = fid; kind = Status false } ≡ need) → ⊥
  not_status fid l =
      l.0 (subst (λ (f : Fid). Covers m_held (record { fid = f; kind = Status false }))
      (sym (ap (λ (n : Need). n.fid) l.1)) covered)

  -- what is needed behind the way
  module _ {A B : Type 0} (call : Call) (way : Look (Result A Refusal)) (front : IsFront view way)
      (next : A → Look (Result B Refusal)) (judge : B → Verdict)
      (tail : (value : A) → outcome view way ≡ Ok value → Lacks (next value) → Wants call (next value)) where
    abbrev rest : List Need
    rest = needs_of view (after_check next (outcome view way))

    all_are : needs_of view (judged (checked way next) judge) ≡ needs_of view way ++ rest
    all_are =
        needs_end view (λ found. either found judge (λ refusal. Replies (Refused refusal))) (checked way next)
        ∙ needs_on view way (after_check next)

    of_rest : (r : Result A Refusal) → outcome view way ≡ r →
        IsFirstLack m_held (needs_of view (after_check next r)) need →
        NeedsOf call (needs_of view (after_check next r)) need.fid (view need.fid Size)
    of_rest (Ok value) e l = tail value e l
    of_rest (Err refusal) e l = elim l [ ]

    of_all : NeedsOf call rest need.fid (view need.fid Size) →
        NeedsOf call (needs_of view way ++ rest) need.fid (view need.fid Size)
    of_all w = record {
      bytes = λ update at. (
        λ n. (w.bytes update at).0 (n.0, behind update n.0 n.1, n.2),
        λ e. let n = (w.bytes update at).1 e in (
          n.0,
          in_right (needs_of view way) rest
              (record { fid = need.fid; kind = Bytes update n.0 }) n.1,
          n.2,
        ),
      );
      status = (
        λ i. w.status.0 (update_behind i),
        λ e. in_right (needs_of view way) rest (record { fid = need.fid; kind = Status true }) (w.status.1 e),
      );
    }
      where
        behind : (update : Bool) (span : Span) →
            In (record { fid = need.fid; kind = Bytes update span }) (needs_of view way ++ rest) →
            In (record { fid = need.fid; kind = Bytes update span }) rest
        behind update span i =
            elim (in_either (needs_of view way) rest (record { fid = need.fid; kind = Bytes update span }) i) [
              | inl a ↦ absurd (no_byte view m_held need.fid file way front update span a)
              | inr b ↦ b
            ]

        update_behind : In (record { fid = need.fid; kind = Status true }) (needs_of view way ++ rest) →
            In (record { fid = need.fid; kind = Status true }) rest
        update_behind i =
            elim (in_either (needs_of view way) rest (record { fid = need.fid; kind = Status true }) i) [
              | inl a ↦ absurd (no_update view m_held need.fid file way front a)
              | inr b ↦ b
            ]

    behind_way : Lacks (judged (checked way next) judge) → Wants call (judged (checked way next) judge)
    behind_way l =
        subst (λ needs. NeedsOf call needs need.fid (view need.fid Size)) (sym all_are)
        (of_all (elim (lack_either m_held (needs_of view way) rest need
        (subst (λ needs. IsFirstLack m_held needs need) all_are l)) [
          | inl a ↦ absurd (no_lack view m_held need.fid file way front need refl covered a)
          | inr b ↦ of_rest (outcome view way) refl b
        ]))

  -- ---- nothing lacks on the way alone
  way_lacks : {A : Type 0} (call : Call) (way : Look (Result A Refusal)) → IsFront view way → (judge : A → Verdict) →
      Lacks (judged way judge) → Wants call (judged way judge)
  way_lacks call way front judge l =
      absurd (no_lack view m_held need.fid file way front need refl covered
      (subst (λ needs. IsFirstLack m_held needs need)
      (needs_end view (λ found. either found judge (λ refusal. Replies (Refused refusal))) way) l))

  -- ---- the ends of looks
  module _ (place : Place) (from len : ℕ) (fid : Fid) (nature : Nature) (l : Lacks (read_from from len (fid, nature)))
    where
      abbrev count : ℕ
      count = read_count from len (view fid Size)

      abbrev reading : Call
      reading = Read place from len

      abbrev all_read : List Need
      all_read = record { fid = fid; kind = Status false } ∷ needs_of view (bytes_look fid from count)

      read_ended : needs_of view (read_from from len (fid, nature)) ≡ all_read
      read_ended = ap (λ needs. record { fid = fid; kind = Status false } ∷ needs)
          (needs_end view (λ bytes. Ok bytes) (bytes_look fid from count))

      read_inside : In need (needs_of view (bytes_look fid from count))
      read_inside = elim (subst (λ needs. IsFirstLack m_held needs need) read_ended l) [
        | inl a ↦ absurd (not_status fid a)
        | inr b ↦ lack_in m_held (needs_of view (bytes_look fid from count)) need b.1
      ]

      read_fid : fid ≡ need.fid
      read_fid = let r = bytes_at view fid count from need read_inside in sym (ap (λ (k : Need). k.fid) r.3)

      read_some : 0 < count
      read_some =
          let r = bytes_at view fid count from need read_inside in
          let low = r.1 in
          let high = r.2 in
          omega (arith, low, high)

      bytes_are : (u : Bool) (x y : Span) → Bytes u x ≡ Bytes false y → (u ≡ false) × (x ≡ y)
      bytes_are u x y e = (cc, cc)

      status_differs : (x : Span) → Status true ≡ Bytes false x → ⊥
      status_differs x e = absurd (cc)

      read_named : (update : Bool) (at : ℕ) → NamesByte all_read fid update at →
          is_wanted reading (view fid Size) update at ≡ true
      read_named update at (span, inl e, h) = absurd (bytes_status update span false (ap (λ (k : Need). k.kind) e))
      read_named update at (span, inr i, h) =
          let r = bytes_at view fid count from (record { fid = fid; kind = Bytes update span }) i in
          let p = bytes_are update span (rounded r.0 (r.0 + 1)) (ap (λ (k : Need). k.kind) r.3) in
          and_from (beq false update) (has_byte (read_blocks from count) at) (ap (λ (u : Bool). beq false u) p.0)
          (block_in from count r.0 at r.1 r.2 (subst (λ (x : Span). has_byte x at ≡ true) p.1 h))

      read_names : (update : Bool) (at : ℕ) → is_wanted reading (view fid Size) update at ≡ true →
          NamesByte all_read fid update at
      read_names update at e =
          let p = and_parts (beq false update) (has_byte (read_blocks from count) at) e in
          let r = in_block from count at read_some p.1 in
          let u = beq_true update p.0 in (
            rounded r.0 (r.0 + 1),
            inr (subst (λ (b : Bool). In (record {
              fid = fid;
              kind = Bytes b (rounded r.0
                  (r.0 + 1));
            }) (needs_of view (bytes_look fid from count))) (sym u)
                (at_bytes view fid count from r.0 r.1 r.2)),
            r.3,
          )

      read_status : In (record { fid = fid; kind = Status true }) all_read → ⊥
      read_status (inl e) = two_apart (ap (λ (k : Need). k.kind) e)
      read_status (inr i) =
          let r = bytes_at view fid count from (record { fid = fid; kind = Status true }) i in
          status_differs (rounded r.0 (r.0 + 1)) (ap (λ (k : Need). k.kind) r.3)

      read_all_wants : NeedsOf reading (needs_of view (read_from from len (fid, nature))) fid (view fid Size)
      read_all_wants = subst (λ needs. NeedsOf reading needs fid (view fid Size)) (sym read_ended) (record {
        bytes = λ update at. (read_named update at, read_names update at);
        status = (λ i. absurd (read_status i), λ e. absurd (cc));
      })

  read_tail : (place : Place) (from len : ℕ) (found : Fid × Nature) → Lacks (read_from from len found) →
      Wants (Read place from len) (read_from from len found)
  read_tail place from len (fid, nature) l =
      subst (λ (f : Fid). NeedsOf (Read place from len) (needs_of view (read_from from len (fid, nature))) f
      (view f Size)) (read_fid place from len fid nature l) (read_all_wants place from len fid nature l)

  -- ---- a write
  abbrev write_all : ℕ → ℕ → ℕ → Fid → Bool → List Need
  write_all from end size fid true =
      record { fid = fid; kind = Status false } ∷ record { fid = fid; kind = Status true }
      ∷ record { fid = fid; kind = Bytes true (rounded (min from size) end) } ∷ []
  write_all from end size fid false =
      record { fid = fid; kind = Status false } ∷ record { fid = fid; kind = Bytes true (rounded from end) } ∷ []

  abbrev write_span : ℕ → ℕ → ℕ → Bool → Span
  write_span from end size b = if b then rounded (min from size) end else rounded from end

  write_named : (b : Bool) (from end size : ℕ) (fid : Fid) (update : Bool) (at : ℕ) →
      NamesByte (write_all from end size fid b) fid update at →
      (beq true update && has_byte (write_span from end size b) at) ≡ true
  write_named true from end size fid update at (span, inl e, h) =
      absurd (bytes_status update span false (ap (λ (k : Need). k.kind) e))
  write_named true from end size fid update at (span, inr (inl e), h) =
      absurd (bytes_status update span true (ap (λ (k : Need). k.kind) e))
  write_named true from end size fid update at (span, inr (inr (inl e)), h) =
      let p = bytes_are update span (rounded (min from size) end) (ap (λ (k : Need). k.kind) e) in
      and_from (beq true update) (has_byte (rounded (min from size) end) at)
      (ap (λ (u : Bool). beq true u) p.0) (subst (λ (s : Span). has_byte s at ≡ true) p.1 h)
    where
      bytes_are : (u : Bool) (s t : Span) → Bytes u s ≡ Bytes true t → (u ≡ true) × (s ≡ t)
      bytes_are u s t e = (cc, cc)
  write_named true from end size fid update at (span, inr (inr (inr i)), h) = elim i [ ]
  write_named false from end size fid update at (span, inl e, h) =
      absurd (bytes_status update span false (ap (λ (k : Need). k.kind) e))
  write_named false from end size fid update at (span, inr (inl e), h) =
      let p = bytes_are update span (rounded from end) (ap (λ (k : Need). k.kind) e) in
      and_from (beq true update) (has_byte (rounded from end) at)
      (ap (λ (u : Bool). beq true u) p.0) (subst (λ (s : Span). has_byte s at ≡ true) p.1 h)
    where
      bytes_are : (u : Bool) (s t : Span) → Bytes u s ≡ Bytes true t → (u ≡ true) × (s ≡ t)
      bytes_are u s t e = (cc, cc)
  write_named false from end size fid update at (span, inr (inr i), h) = elim i [ ]

  write_names : (b : Bool) (from end size : ℕ) (fid : Fid) (update : Bool) (at : ℕ) →
      (beq true update && has_byte (write_span from end size b) at) ≡ true →
      NamesByte (write_all from end size fid b) fid update at
  write_names true from end size fid update at e =
      let p = and_parts (beq true update) (has_byte (rounded (min from size) end) at) e in
      let u = beq_update update p.0 in (
        rounded (min from size) end,
        inr (inr (inl (ap (λ (x : Bool). record { fid = fid; kind = Bytes x (rounded (min from size) end) }) u))),
        p.1,
      )
  write_names false from end size fid update at e =
      let p = and_parts (beq true update) (has_byte (rounded from end) at) e in
      let u = beq_update update p.0 in
      (rounded from end, inr (inl (ap (λ (x : Bool). record { fid = fid; kind = Bytes x (rounded from end) }) u)), p.1)

  write_status : (b : Bool) (from end size : ℕ) (fid : Fid) →
      In (record { fid = fid; kind = Status true }) (write_all from end size fid b) ↔ (b ≡ true)
  write_status true from end size fid = (λ i. refl, λ e. inr (inl refl))
  write_status false from end size fid = (λ i. absurd (none i), λ e. absurd (cc))
    where
      none : In (record { fid = fid; kind = Status true }) (write_all from end size fid false) → ⊥
      none (inl e) = two_apart (ap (λ (k : Need). k.kind) e)
      none (inr (inl e)) = bytes_status true (rounded from end) true (sym (ap (λ (k : Need). k.kind) e))
      none (inr (inr i)) = elim i [ ]

  abbrev written : ℕ → List ℕ → Fid → Result Verdict Refusal
  written from bytes fid = Ok (Writes fid from bytes)

  takes_all : {R : Type 0} (b : Bool) (from end size : ℕ) (fid : Fid) (result : R) →
      record { fid = fid; kind = Status false } ∷ needs_of view (if b
      then Takes (record { fid = fid; kind = Status true })
      (Takes (record { fid = fid; kind = Bytes true (rounded (min from size) end) }) (Ends result))
      else Takes (record { fid = fid; kind = Bytes true (rounded from end) }) (Ends result))
      ≡ write_all from end size fid b
  takes_all true from end size fid result = refl
  takes_all false from end size fid result = refl

  at_fid : (b : Bool) (from end size : ℕ) (fid : Fid) (n : Need) → In n (write_all from end size fid b) → n.fid ≡ fid
  at_fid true from end size fid n (inl e) = ap (λ (k : Need). k.fid) e
  at_fid true from end size fid n (inr (inl e)) = ap (λ (k : Need). k.fid) e
  at_fid true from end size fid n (inr (inr (inl e))) = ap (λ (k : Need). k.fid) e
  at_fid true from end size fid n (inr (inr (inr i))) = elim i [ ]
  at_fid false from end size fid n (inl e) = ap (λ (k : Need). k.fid) e
  at_fid false from end size fid n (inr (inl e)) = ap (λ (k : Need). k.fid) e
  at_fid false from end size fid n (inr (inr i)) = elim i [ ]

  write_of : (place : Place) (from byte : ℕ) (bytes : List ℕ) (fid : Fid) (end : ℕ) (b : Bool) →
      end ≡ min (from + length (byte ∷ bytes)) 4294967295 → b ≡ nat_lt (view fid Size) end →
      NeedsOf (Write place from (byte ∷ bytes)) (write_all from end (view fid Size) fid b) fid (view fid Size)
  write_of place from byte bytes fid end b end_is e =
      let size = view fid Size in
      let span_is : write_span from end size b
      ≡ written_blocks from (min (from + length (byte ∷ bytes)) 4294967295) size
      = ap (λ (t : Bool). write_span from end size t) e ∙ ap (λ (k : ℕ). written_blocks from k size) end_is in
      record {
        bytes = λ update at. (
          λ n. subst (λ (x : Span). (beq true update && has_byte x at) ≡ true) span_is
              (write_named b from end size fid update at n),
          λ h. write_names b from end size fid update at
              (subst (λ (x : Span). (beq true update && has_byte x at) ≡ true) (sym span_is) h),
        );
        status = (
          λ i. sym (e ∙ ap (λ (k : ℕ). nat_lt size k) end_is) ∙ (write_status b from end size fid).0 i,
          λ h. (write_status b from end size fid).1 (e ∙ ap (λ (k : ℕ). nat_lt size k) end_is ∙ h),
        );
      }

  write_tail : (place : Place) (from : ℕ) (bytes : List ℕ) → from + length bytes ≤ FILE_BYTES_MAX → (fid : Fid) →
      Lacks (written_look from bytes fid) → Wants (Write place from bytes) (written_look from bytes fid)
  write_tail place from [] end_fits fid l = elim l [ ]
  write_tail place from (byte ∷ bytes) end_fits fid l =
      let end = from + length (byte ∷ bytes) in
      let size = view fid Size in
      let all_are = takes_all (nat_lt size end) from end size fid (written from (byte ∷ bytes) fid) in
      let end_is : end ≡ min end 4294967295 = omega (arith, end_fits) in
      let fid_is = sym (at_fid (nat_lt size end) from end size fid need (lack_in m_held
      (write_all from end size fid (nat_lt size end)) need (subst (λ needs. IsFirstLack m_held needs need) all_are l)))
      in
      subst (λ (f : Fid). NeedsOf (Write place from (byte ∷ bytes))
      (needs_of view (written_look from (byte ∷ bytes) fid)) f (view f Size)) fid_is
      (subst (λ needs. NeedsOf (Write place from (byte ∷ bytes)) needs fid size) (sym all_are)
      (write_of place from byte bytes fid end (nat_lt size end) end_is refl))

  -- ---- looks that lack nothing more of a file
  abbrev entries_look : Fid → Look (Result (List DirEntry) Refusal)
  entries_look fid = Looks fid Entries (λ entries. Ends (Ok entries))

  by_right : (b : Bool) (fid : Fid) (nature : Nature) → view fid Traits ≡ Some nature → nature.dir ≡ true →
      IsFirstLack m_held (needs_of view (refuse_if b (Denied read_right) (entries_look fid))) need → ⊥
  by_right true fid nature told d l = l
  by_right false fid nature told d (inl e) =
      file (subst (IsDirIn view) (ap (λ (n : Need). n.fid) e.1) (nature, told, d))
  by_right false fid nature told d (inr l) = l.1

  by_dir : (b : Bool) (user : User) (fid : Fid) (nature : Nature) → view fid Traits ≡ Some nature → nature.dir ≡ b →
      IsFirstLack m_held (needs_of view (refuse_if (not b) NotDir (permitted nature user read_right (entries_look
      fid))))
      need → ⊥
  by_dir true user fid nature told d l =
      by_right (not (allows (rights_on nature user) read_right)) fid nature told d l
  by_dir false user fid nature told d l = l

  list_tail : (call : Call) (user : User) (found : Fid × Nature) → view found.0 Traits ≡ Some found.1 →
      Lacks (entries_for user found) → Wants call (entries_for user found)
  list_tail call user (fid, nature) told l = absurd (by_dir nature.dir user fid nature told refl l)

  stat_tail : (call : Call) (user : User) (found : Fid × Nature) → Lacks (facts_for user found) →
      Wants call (facts_for user found)
  stat_tail call user (fid, nature) (inl l) = absurd (not_status fid l)
  stat_tail call user (fid, nature) (inr l) = elim l.1 [ ]

  access_tail : (call : Call) (which : Which) (found : Fid × Nature) → Lacks (list_for which found) →
      Wants call (list_for which found)
  access_tail call which (fid, nature) l = elim l [ ]

  abbrev taking : Bool → ℕ → ℕ → Fid → Look (Result Fid Refusal)
  taking writing from len fid =
      Takes (record { fid = fid; kind = LockKind writing (span_between from (from + len)) }) (Ends (Ok fid))

  by_size : (b c : Bool) (writing : Bool) (from len : ℕ) (fid : Fid) → IsFirstLack m_held
      (needs_of view (refuse_if b TooBig (refuse_if c AlreadyLocked (taking writing from len fid)))) need → ⊥
  by_size true c writing from len fid l = l
  by_size false true writing from len fid l = l
  by_size false false writing from len fid (inl e) = plain (subst (λ (n : Need). IsUseKind n.kind) e.1 tt)
  by_size false false writing from len fid (inr l) = l.1

  lock_tail : (call : Call) (own : Own) (host : HostId) (writing : Bool) (from len : ℕ) (fid : Fid) →
      Lacks (lock_for own host writing from len fid) → Wants call (lock_for own host writing from len fid)
  lock_tail call own host writing from len fid l =
      absurd (by_size (nat_lt FILE_BYTES_MAX (from + len))
      (is_own_locked own.locks host fid (span_between from (from + len))) writing from len fid l)

  open_tail : (call : Call) (kind : OpenKind) (fid : Fid) → Lacks (open_for kind fid) → Wants call (open_for kind fid)
  open_tail call kind fid (inl e) = absurd (plain (subst (λ (n : Need). IsUseKind n.kind) e.1 tt))
  open_tail call kind fid (inr l) = elim l.1 [ ]

  -- ---- of each call
  placed : (call : Call) (server : ServerId) (o : Option FilesetId) (look : Fid → Look Verdict) →
      ((root : Fid) → Lacks (look root) → Wants call (look root)) → Lacks (from_root server o look) →
      Wants call (from_root server o look)
  placed call server None look each l = elim l [ ]
  placed call server (Some id) look each l = each (root_of id) l

  changed : (call : Call) (root : Fid) → Lacks (change_look root) → Wants call (change_look root)
  changed call root l = elim l [ ]

  module _ (own : Own) (host : HostId) (user : User) where
    read_wants : (place : Place) (from len : ℕ) (root : Fid) → Lacks (read_look user root place.path from len) →
        Wants (Read place from len) (read_look user root place.path from len)
    unfolding read_look
    read_wants place from len root l =
        behind_way (Read place from len) (permitted_look user root place.path read_right)
        (permitted_front view user root place.path read_right) (read_from from len) (λ bytes. Replies (BytesReply
        bytes))
        (λ found e k. read_tail place from len found k) l

    write_wants : (place : Place) (from : ℕ) (bytes : List ℕ) (root : Fid) →
        Lacks (write_look user root place.path from bytes) →
        Wants (Write place from bytes) (write_look user root place.path from bytes)
    unfolding write_look
    write_wants place from bytes root l =
        behind_way (Write place from bytes) (write_target_look user root place.path (from + length bytes))
        (write_target_front view user root place.path (from + length bytes)) (written_look from bytes)
        (λ verdict. verdict)
        (λ fid e k. write_tail place from bytes
        (fits view user root place.path (from + length bytes) fid e) fid k) l

    list_wants : (call : Call) (root : Fid) (path : List (List ℕ)) → Lacks (list_look user root path) →
        Wants call (list_look user root path)
    unfolding list_look
    list_wants call root path l =
        behind_way call (target_look user root path) (target_front view user root path) (entries_for user)
        (λ entries. Replies (Names (names_of entries)))
        (λ found e k. list_tail call user found (target_told view user root path found e) k) l

    stat_wants : (call : Call) (root : Fid) (path : List (List ℕ)) → Lacks (stat_look user root path) →
        Wants call (stat_look user root path)
    unfolding stat_look
    stat_wants call root path l =
        behind_way call (target_look user root path) (target_front view user root path) (facts_for user)
        (λ facts. Replies (Facts facts)) (λ found e k. stat_tail call user found k) l

    access_wants : (call : Call) (root : Fid) (path : List (List ℕ)) (which : Which) →
        Lacks (access_look user root path which) → Wants call (access_look user root path which)
    unfolding access_look
    access_wants call root path which l =
        behind_way call (target_look user root path) (target_front view user root path) (list_for which)
        (λ list. Replies (Access list)) (λ found e k. access_tail call which found k) l

    sync_wants : (call : Call) (root : Fid) (path : List (List ℕ)) → Lacks (sync_look own user root path) →
        Wants call (sync_look own user root path)
    unfolding sync_look
    sync_wants call root path l =
        way_lacks call (file_look user root path) (file_front view user root path) (sync_verdict own) l

    lock_wants : (call : Call) (root : Fid) (path : List (List ℕ)) (writing : Bool) (from len : ℕ) →
        Lacks (lock_look own host user root path writing from len) →
        Wants call (lock_look own host user root path writing from len)
    unfolding lock_look
    lock_wants call root path writing from len l =
        behind_way call (use_look user root path writing (if writing then write_right else read_right))
        (use_front view user root path writing (if writing then write_right else read_right))
        (lock_for own host writing from len) (λ fid. Locks fid writing (span_between from (from + len)))
        (λ fid e k. lock_tail call own host writing from len fid k) l

    open_wants : (call : Call) (root : Fid) (path : List (List ℕ)) (kind : OpenKind) →
        Lacks (open_look user root path kind) → Wants call (open_look user root path kind)
    unfolding open_look
    open_wants call root path kind l =
        behind_way call (use_look user root path (is_changing kind) (right_to_open kind))
        (use_front view user root path (is_changing kind) (right_to_open kind))
        (open_for kind) (λ fid. Opens fid kind) (λ fid e k. open_tail call kind fid k) l

    labelled : (call : Call) (b c : Bool) (r : Refusal) (look : Look Verdict) → (Lacks look → Wants call look) →
        Lacks (if b then refuse r else if c then refuse TooMany else look) →
        Wants call (if b then refuse r else if c then refuse TooMany else look)
    labelled call true c r look each l = elim l [ ]
    labelled call false true r look each l = elim l [ ]
    labelled call false false r look each l = each l

    freed : (call : Call) (b : Bool) (r : Refusal) (v : Verdict) →
        Lacks (if not b then refuse r else Ends v) → Wants call (if not b then refuse r else Ends v)
    freed call true r v l = elim l [ ]
    freed call false r v l = elim l [ ]

    pub call_wants : (call : Call) → Lacks (call_look own host user call) → Wants call (call_look own host user call)
    unfolding call_look
    call_wants (NewFileset server name objects owner) l = elim l [ ]
    call_wants (CloneFileset server source new) l = elim l [ ]
    call_wants (MoveFileset server name to) l =
        placed (MoveFileset server name to) server (own.seen server name) change_look
        (changed (MoveFileset server name to)) l
    call_wants (Create p) l =
        placed (Create p) p.server (own.seen p.server p.fileset) change_look (changed (Create p)) l
    call_wants (MakeDir p) l =
        placed (MakeDir p) p.server (own.seen p.server p.fileset) change_look (changed (MakeDir p)) l
    call_wants (Remove p) l =
        placed (Remove p) p.server (own.seen p.server p.fileset) change_look (changed (Remove p)) l
    call_wants (Rename p to) l =
        placed (Rename p to) p.server (own.seen p.server p.fileset) change_look (changed (Rename p to)) l
    call_wants (Truncate p len) l =
        placed (Truncate p len) p.server (own.seen p.server p.fileset) change_look (changed (Truncate p len)) l
    call_wants (SetAcl p which list) l =
        placed (SetAcl p which list) p.server (own.seen p.server p.fileset) change_look (changed (SetAcl p which list))
        l
    call_wants (Read p from len) l =
        placed (Read p from len) p.server (own.seen p.server p.fileset) (λ root. read_look user root p.path from len)
        (λ root k. read_wants p from len root k) l
    call_wants (Write p from bytes) l =
        placed (Write p from bytes) p.server (own.seen p.server p.fileset)
        (λ root. write_look user root p.path from bytes) (λ root k. write_wants p from bytes root k) l
    call_wants (ListNames p) l =
        placed (ListNames p) p.server (own.seen p.server p.fileset) (λ root. list_look user root p.path)
        (λ root k. list_wants (ListNames p) root p.path k) l
    call_wants (Stat p) l =
        placed (Stat p) p.server (own.seen p.server p.fileset) (λ root. stat_look user root p.path)
        (λ root k. stat_wants (Stat p) root p.path k) l
    call_wants (GetAcl p which) l =
        placed (GetAcl p which) p.server (own.seen p.server p.fileset) (λ root. access_look user root p.path which)
        (λ root k. access_wants (GetAcl p which) root p.path which k) l
    call_wants (Sync p) l =
        placed (Sync p) p.server (own.seen p.server p.fileset) (λ root. sync_look own user root p.path)
        (λ root k. sync_wants (Sync p) root p.path k) l
    call_wants (Lock label p writing from len) l =
        labelled (Lock label p writing from len) (has_lock own.locks host label)
        (nat_le LABELS_MAX (lock_count own.locks host)) AlreadyLocked
        (in_place own p (λ root. lock_look own host user root p.path writing from len))
        (placed (Lock label p writing from len) p.server (own.seen p.server p.fileset)
        (λ root. lock_look own host user root p.path writing from len)
        (λ root k. lock_wants (Lock label p writing from len) root p.path writing from len k)) l
    call_wants (OpenFile label p kind) l =
        labelled (OpenFile label p kind) (has_open own.opens host label)
        (nat_le LABELS_MAX (open_count own.opens host)) AlreadyOpened
        (in_place own p (λ root. open_look user root p.path kind))
        (placed (OpenFile label p kind) p.server (own.seen p.server p.fileset)
        (λ root. open_look user root p.path kind)
        (λ root k. open_wants (OpenFile label p kind) root p.path kind k)) l
    call_wants (Unlock label) l =
        freed (Unlock label) (has_lock own.locks host label) NotLocked (if own.gives_lock label then Gives else Frees) l
    call_wants (CloseFile label) l =
        freed (CloseFile label) (has_open own.opens host label) NotOpened
        (if own.gives_open label then Gives else Frees) l
