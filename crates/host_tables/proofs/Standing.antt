-- Where a host stands in a step: what its tables show once it has learnt and taken.
use Rattle.base_types.specs.Ids.{same_fid}
use Rattle.base_types.specs.Name.{same_name}
use Rattle.base_types.specs.Spans.{has_byte, in_spans}
use Rattle.base_types.specs.declared.ids.Fid.{Fid}
use Rattle.base_types.specs.declared.ids.HostId.{HostId}
use Rattle.base_types.specs.declared.ids.OpenKind.{OpenKind}
use Rattle.base_types.specs.declared.span.Span.{Span}
use Rattle.host_dirty.specs.Dirtiness.{spans_of}
use Rattle.host_gives.specs.Giving.{given_in, is_of_file}
use Rattle.host_labels.specs.Labels.{is_labelled, is_lock, is_pinned}
use Rattle.host_labels.specs.declared.uses.Labelled.{Labelled as UseOf}
use Rattle.host_tables.proofs.Lists.{any_also, any_in, any_no, by_test, false_not, fid_same, flat_in, id_same, in_any}
use Rattle.host_tables.proofs.Lists.{in_either, in_flat, in_left, in_map, in_right, map_in, name_same, names_are}
use Rattle.host_tables.proofs.Lists.{no_any, not_true, or_left, or_right, same_fid_is, same_id_is, true_not}
use Rattle.host_tables.specs.Half.{half}
use Rattle.host_tables.specs.Stands.{Stands}
use Rattle.host_tables.specs.Tables.{content, ends_label, gives_label, has_dirty_byte, held_of, is_clean_file}
use Rattle.host_tables.specs.Tables.{is_last_pinned, is_last_use, is_length_clean, is_length_dirty, is_updating}
use Rattle.host_tables.specs.Tables.{labelled, labels_of, length_given, locks_under, ones, opens_under, own_of}
use Rattle.host_tables.specs.Tables.{updates_status}
use Rattle.host_lengths.specs.declared.given.Given.{Given}
use Rattle.host_tables.specs.declared.tables.Tables.{Tables}
use Rattle.message_types.specs.declared.giving.Give.{Give}
use Rattle.message_types.specs.declared.message.Body.{Body}
use Rattle.message_types.specs.declared.message.Body.TheVariants.{GiveBack}
use Rattle.message_types.specs.declared.message.Message.{Message}
use Rattle.need_host.specs.Shows.{shows}
use Rattle.run_rules.specs.Messages.{HasKeptToken}
use Rattle.run_rules.specs.Past.{In}
use Rattle.run_rules.specs.Tokens.{HasEndedUse, AtHand, FreesPinned, Held as HeldBy, IsUseKind, LabelInUse, Made}
use Rattle.run_rules.specs.Views.{HasLabel, IsClean, IsLastLength, IsLock, IsOpening, KnowsItself, LengthIsClean}
use Rattle.run_rules.specs.Views.{NeedsServer, Stance, TakesStatus, UpdatesByte, is_dirty, sees}
use Rattle.run_rules.specs.declared.step.Labelled.{Labelled}
use Rattle.run_rules.specs.declared.step.Step.{Step}
use Rattle.script_lines.specs.declared.script.Script.{Script}
use Rattle.std.proofs.Common.{Bool, List, None, Option, Some, ap, arith, eqb-true, false, inl, inr, map, nat_le}
use Rattle.std.proofs.Common.{nat_lt, not, refl, subst, sym, true, ℕ, ◌&&◌, ◌==◌, ◌||◌, ◌↔◌, ◌∙◌, ◌∷◌, ◌≡◌}
use Rattle.std.proofs.lemmas.Bool.{and_from, and_parts, eq-eqb, or_cases}
use Rattle.std.proofs.lemmas.Grind.{common_steps}
use Rattle.std.specs.Bool.{beq}
use Rattle.std.specs.List.{list_any}
use Rattle.std.specs.Option.{option_map_or}
use Rattle.token_types.specs.Conflicts.{need_of, same_id}
use Rattle.token_types.specs.declared.token.Kind.{Kind}
use Rattle.token_types.specs.declared.token.Kind.TheVariants.{Bytes, Lock as LockToken, Opening, Status}
use Rattle.token_types.specs.declared.token.Need.{Need}
use Rattle.token_types.specs.declared.token.Token.{Token}
use Rattle.token_types.specs.declared.token.TokenId.{TokenId}
use Rattle.tree_answers.specs.declared.tree.LockUse.{LockUse}
use Rattle.tree_answers.specs.declared.tree.OpenUse.{OpenUse}
use Rattle.tree_laws.specs.Parts.Part.{Size}

true_and : (b : Bool) → ((false || b) && true) ≡ b
true_and true = refl
true_and false = refl

-- a lock is listed where its label's token is for it
lock_in : (host : HostId) (u : Labelled) (k : Kind) → u.token.kind ≡ k → (lock : LockUse)
    → In lock (locks_under host k u) → IsLock host lock u
lock_in host u (Bytes update span) e lock m = elim m [ ]
lock_in host u (Status update) e lock m = elim m [ ]
lock_in host u (LockToken writing span) e lock (inl p) = (
  ap (λ (x : LockUse). x.host) p,
  ap (λ (x : LockUse). x.label) p,
  ap (λ (x : LockUse). x.fid) p,
  e
      ∙ (λ i. LockToken (sym p i).writing (sym p i).span),
)
lock_in host u (LockToken writing span) e lock (inr p) = elim p [ ]
lock_in host u (Opening kind) e lock m = elim m [ ]

in_lock : (host : HostId) (u : Labelled) (k : Kind) → u.token.kind ≡ k → (lock : LockUse) → IsLock host lock u
    → In lock (locks_under host k u)
in_lock host u (Bytes update span) e lock l = absurd (let p = sym e ∙ l.3 in cc)
in_lock host u (Status update) e lock l = absurd (let p = sym e ∙ l.3 in cc)
in_lock host u (LockToken writing span) e lock l =
    let p : LockToken writing span ≡ LockToken lock.writing lock.span = sym e ∙ l.3 in
    let w : lock.writing ≡ writing = cc in let x : lock.span ≡ span = cc in
    inl (λ i. record { host = l.0 i; label = l.1 i; fid = l.2 i; writing = w i; span = x i })
in_lock host u (Opening kind) e lock l = absurd (let p = sym e ∙ l.3 in cc)

opening_in : (host : HostId) (u : Labelled) (k : Kind) → u.token.kind ≡ k → (o : OpenUse) → In o (opens_under host k u)
    → IsOpening host o u
opening_in host u (Bytes update span) e o m = elim m [ ]
opening_in host u (Status update) e o m = elim m [ ]
opening_in host u (LockToken writing span) e o m = elim m [ ]
opening_in host u (Opening kind) e o (inl p) = (
  ap (λ (x : OpenUse). x.host) p,
  ap (λ (x : OpenUse). x.label) p,
  ap (λ (x : OpenUse). x.fid) p,
  e
      ∙ (λ i. Opening (sym p i).kind),
)
opening_in host u (Opening kind) e o (inr p) = elim p [ ]

in_opening : (host : HostId) (u : Labelled) (k : Kind) → u.token.kind ≡ k → (o : OpenUse) → IsOpening host o u
    → In o (opens_under host k u)
in_opening host u (Bytes update span) e o l = absurd (let p = sym e ∙ l.3 in cc)
in_opening host u (Status update) e o l = absurd (let p = sym e ∙ l.3 in cc)
in_opening host u (LockToken writing span) e o l = absurd (let p = sym e ∙ l.3 in cc)
in_opening host u (Opening kind) e o l =
    let p : Opening kind ≡ Opening o.kind = sym e ∙ l.3 in
    let x : o.kind ≡ kind = cc in
    inl (λ i. record { host = l.0 i; label = l.1 i; fid = l.2 i; kind = x i })

-- a token in use is for a lock or for an open file
lock_of : (k : Kind) → IsUseKind k → is_lock k ≡ true → (writing : Bool) × (span : Span) × (k ≡ LockToken writing span)
lock_of (Bytes update span) u e = absurd u
lock_of (Status update) u e = absurd u
lock_of (LockToken writing span) u e = (writing, span, refl)
lock_of (Opening kind) u e = absurd (cc)

open_of : (k : Kind) → IsUseKind k → is_lock k ≡ false → (kind : OpenKind) × (k ≡ Opening kind)
open_of (Bytes update span) u e = absurd u
open_of (Status update) u e = absurd u
open_of (LockToken writing span) u e = absurd (cc)
open_of (Opening kind) u e = (kind, refl)

beq_is : (a b : Bool) → beq a b ≡ true → a ≡ b
beq_is true true e = refl
beq_is true false e = absurd (cc)
beq_is false true e = absurd (cc)
beq_is false false e = refl

is_beq : (a b : Bool) → a ≡ b → beq a b ≡ true
is_beq true true e = refl
is_beq true false e = absurd (cc)
is_beq false true e = absurd (cc)
is_beq false false e = refl

-- what a label that ends is
ends_some : (lock : Bool) (label : List ℕ) (o : Option Labelled) → ends_label lock label o ≡ true
    → (u : Labelled) × (o ≡ Some u) × (is_lock u.token.kind ≡ lock) × (u.label ≡ label)
ends_some lock label None e = absurd (cc)
ends_some lock label (Some u) e =
    let p = and_parts (beq (is_lock u.token.kind) lock) (same_name u.label label) e in
    (u, refl, beq_is (is_lock u.token.kind) lock p.0, names_are u.label label p.1)

some_ends : (lock : Bool) (label : List ℕ) (o : Option Labelled) (u : Labelled) → o ≡ Some u → is_lock u.token.kind
    ≡ lock → u.label ≡ label → ends_label lock label o ≡ true
some_ends lock label o u e k l =
    subst (λ (x : Option Labelled). ends_label lock label x ≡ true) (sym e)
    (and_from (beq (is_lock u.token.kind) lock) (same_name u.label label) (is_beq (is_lock u.token.kind) lock k)
    (subst (λ (x : List ℕ). same_name u.label x ≡ true) l (name_same u.label)))

in_ones : (o : Option Labelled) (u : Labelled) → In u (ones o) → o ≡ Some u
in_ones None u m = elim m [ ]
in_ones (Some x) u (inl e) = ap Some (sym e)
in_ones (Some x) u (inr m) = elim m [ ]

ones_in : (o : Option Labelled) (u : Labelled) → o ≡ Some u → In u (ones o)
ones_in o u e = subst (λ (x : Option Labelled). In u (ones x)) (sym e) (inl refl)

-- a span with a position has its first one
first_in : (spans : List Span) → list_any (λ (span : Span). nat_lt span.from span.to) spans ≡ true → (at : ℕ)
    × (in_spans spans at ≡ true)
first_in spans e =
    let r = in_any (λ (span : Span). nat_lt span.from span.to) spans e in (
      r.0.from,
      any_in (λ (span : Span). has_byte span r.0.from) spans r.0 r.1 (and_from (nat_le r.0.from r.0.from)
          (nat_lt r.0.from r.0.to) (grind (arith, common_steps)) r.2),
    )

not_empty : (span : Span) (at : ℕ) → has_byte span at ≡ true → nat_lt span.from span.to ≡ true
not_empty span at h =
    let p = and_parts (nat_le span.from at) (nat_lt at span.to) h in
    let a : nat_le span.from at ≡ true = p.0 in let b : nat_lt at span.to ≡ true = p.1 in
    grind (arith, common_steps, a, b)

any_first : (spans : List Span) (at : ℕ) → in_spans spans at ≡ true
    → list_any (λ (span : Span). nat_lt span.from span.to) spans ≡ true
any_first spans at e = any_also (λ (span : Span). has_byte span at) (λ (span : Span). nat_lt span.from span.to) spans
    (λ span h. not_empty span at h) e

module _ (script : Script) (m : Tables) (past : List Step) (s : Step) (stands : Stands script m (half s ∷ past)) where
  pub used_before : (u : Labelled) → LabelInUse (half s ∷ past) u → LabelInUse past u
  used_before u (inl i) = elim i [ ]
  used_before u (inr i) = i.0

  pub used_after : (u : Labelled) → LabelInUse past u → LabelInUse (half s ∷ past) u
  used_after u i = inr (i, λ e. elim e.1 [ ], λ g k. elim k [ ])

  pub made_before : (g : Give) → Made (half s ∷ past) g → Made past g
  made_before g (inl i) = elim i [ ]
  made_before g (inr i) = i

  pub ended_before : (g : Give) (u : Labelled) → HasEndedUse (half s ∷ past) g u → HasEndedUse past g u
  ended_before g u (inl i) = elim i.0 [ ]
  ended_before g u (inr i) = i

  pub kept_before : (i : TokenId) → HasKeptToken (half s ∷ past) i → HasKeptToken past i
  kept_before i (inl k) = elim k.4.1 [ ]
  kept_before i (inr k) = k.0

  pub dirty_is : (fid : Fid) (at : ℕ) → is_dirty (half s ∷ past) fid at ≡ is_dirty past fid at
  dirty_is fid at = true_and (is_dirty past fid at)

  pub hand_of : (t : Token) → In t (held_of m) → AtHand s past t
  hand_of t i = (stands.cache.held t i).0

  pub of_hand : (t : Token) → AtHand s past t → In t (held_of m)
  of_hand t h = stands.cache.cached t (h, λ d. elim d.1 [ ])

  -- the host's labels are those of its tables
  label_has : (u : Labelled) → In u (labels_of m) → HasLabel past s u
  label_has u i = elim (in_either (map labelled m.uses.labels) (ones m.ending) u i) [
    | inl a ↦ (let r = in_map labelled m.uses.labels u a in
        inl (used_before u (subst (LabelInUse (half s ∷ past)) (sym r.2) (stands.uses.used r.0 r.1))))
    | inr b ↦ (let e = stands.leaving.ends u (in_ones m.ending u b) in inr (e.1.0, ended_before e.1.0 u e.1.1, e.1.2))
  ]

  has_label : (u : Labelled) → HasLabel past s u → In u (labels_of m)
  has_label u (inl i) = in_left (map labelled m.uses.labels) (ones m.ending) u
      (map_in labelled m.uses.labels (record { label = u.label; token = u.token })
      (stands.uses.labels u (used_after u i)))
  has_label u (inr (g, h, unknown)) = in_right (map labelled m.uses.labels) (ones m.ending) u
      (ones_in m.ending u (stands.leaving.ended u g (inr h) unknown))

  locks : (lock : LockUse) → In lock (own_of m).locks ↔ ((u : Labelled) × HasLabel past s u × IsLock m.host lock u)
  locks lock = (
    λ i. let r = in_flat (λ (u : Labelled). locks_under m.host u.token.kind u) (labels_of m) lock i in
        (r.0, label_has r.0 r.1, lock_in m.host r.0 r.0.token.kind refl lock r.2),
    λ u. flat_in (λ (u : Labelled). locks_under m.host u.token.kind u) (labels_of m) u.0 lock (has_label u.0 u.1)
        (in_lock m.host u.0 u.0.token.kind refl lock u.2),
  )

  opens : (o : OpenUse) → In o (own_of m).opens ↔ ((u : Labelled) × HasLabel past s u × IsOpening m.host o u)
  opens o = (
    λ i. let r = in_flat (λ (u : Labelled). opens_under m.host u.token.kind u) (labels_of m) o i in
        (r.0, label_has r.0 r.1, opening_in m.host r.0 r.0.token.kind refl o r.2),
    λ u. flat_in (λ (u : Labelled). opens_under m.host u.token.kind u) (labels_of m) u.0 o (has_label u.0 u.1)
        (in_opening m.host u.0 u.0.token.kind refl o u.2),
  )

  -- the last use of a pinned token
  abbrev Other : UseOf → UseOf → Bool
  Other used other = same_id other.token.id used.token.id && not (same_name other.label used.label)

  last_frees : (used : UseOf) → In used m.uses.labels → is_last_pinned m.uses used ≡ true
      → FreesPinned past (labelled used)
  last_frees used i e =
      let p = and_parts (is_last_use m.uses.labels used) (is_pinned m.uses used.token.id) e in
      let mine = stands.uses.used used i in (
        (used_before (labelled used) mine, λ other o same. others other o same (no_any (Other used) m.uses.labels p.0)),
        kept_before used.token.id (stands.uses.pinned (labelled used) mine p.1),
      )
    where
      others : (other : Labelled) → LabelInUse past other → other.token.id ≡ used.token.id
          → ((x : UseOf) → In x m.uses.labels → Other used x ≡ true → ⊥) → other ≡ labelled used
      others other o same none =
          let k = stands.uses.labels other (used_after other o) in
          let t : other.token ≡ used.token = stands.cache.once other.token used.token (stands.cache.cached other.token
          (stands.uses.held other (used_after other o))) (stands.cache.cached used.token
          (stands.uses.held (labelled used) (stands.uses.used used i))) same in
          elim (by_test (same_name other.label used.label)) [
            | inl n ↦ (let l = names_are other.label used.label n in λ j. record { label = l j; token = t j })
            | inr n ↦ absurd (none (record { label = other.label; token = other.token }) k
                (and_from (same_id other.token.id used.token.id) (not (same_name other.label used.label))
                (id_same other.token.id used.token.id same) (false_not (same_name other.label used.label) n)))
          ]

  frees_last : (u : Labelled) → FreesPinned past u → is_last_pinned m.uses (record { label = u.label; token = u.token })
      ≡ true
  frees_last u f =
      let used : UseOf = record { label = u.label; token = u.token } in
      and_from (is_last_use m.uses.labels used) (is_pinned m.uses used.token.id)
      (any_no (Other used) m.uses.labels (λ other o e.
      let p = and_parts (same_id other.token.id u.token.id) (not (same_name other.label u.label)) e in
      let same = f.0.1 (labelled other) (used_before (labelled other) (stands.uses.used other o))
      (same_id_is other.token.id u.token.id p.0) in
      not_true (same_name other.label u.label) p.1 (subst (λ (x : List ℕ). same_name other.label x ≡ true)
      (ap (λ (x : Labelled). x.label) same) (name_same other.label))))
      (stands.uses.kept u (used_after u f.0.0)
      (inr (
        f.1,
        λ (w : (t : Token) × In t s.taken × (t.id ≡ u.token.id)). (stands.uses.anew w.0 w.1).1 (
          u,
          f.0.0,
          sym w.2,
        ),
      )))

  -- what a label's end needs, of locks or else of opens
  abbrev Ended : Bool → List ℕ → Type 0
  Ended lock label = (u : Labelled) × (u.label ≡ label) × (is_lock u.token.kind ≡ lock) × IsUseKind u.token.kind
      × NeedsServer past s u

  gives_is : (lock : Bool) (label : List ℕ) → gives_label m lock label ≡ true → Ended lock label
  gives_is lock label e =
      elim (or_cases (list_any (λ (used : UseOf). is_labelled lock label used && is_last_pinned m.uses used)
      m.uses.labels) (ends_label lock label m.ending) e) [
        | inl a ↦ (
            let r = in_any (λ (used : UseOf). is_labelled lock label used && is_last_pinned m.uses used) m.uses.labels
            a in
            let p = and_parts (is_labelled lock label r.0) (is_last_pinned m.uses r.0) r.2 in
            let q = and_parts (beq (is_lock r.0.token.kind) lock) (same_name r.0.label label) p.0 in (
              labelled r.0,
              names_are r.0.label label q.1,
              beq_is (is_lock r.0.token.kind) lock q.0,
              stands.uses.kinds (labelled r.0) (stands.uses.used r.0 r.1),
              inl (last_frees r.0 r.1 p.1),
            )
            )
        | inr b ↦ (
            let r = ends_some lock label m.ending b in
            let x = stands.leaving.ends r.0 r.1 in
            (r.0, r.3, r.2, x.0, inr (x.1.0, ended_before x.1.0 r.0 x.1.1, x.1.2))
            )
      ]

  is_gives : (lock : Bool) (label : List ℕ) (u : Labelled) → u.label ≡ label → is_lock u.token.kind ≡ lock
      → NeedsServer past s u → gives_label m lock label ≡ true
  is_gives lock label u l k (inl f) =
      let used : UseOf = record { label = u.label; token = u.token } in
      or_left (list_any (λ (used : UseOf). is_labelled lock label used && is_last_pinned m.uses used) m.uses.labels)
      (ends_label lock label m.ending)
      (any_in (λ (used : UseOf). is_labelled lock label used && is_last_pinned m.uses used) m.uses.labels used
      (stands.uses.labels u (used_after u f.0.0))
      (and_from (is_labelled lock label used) (is_last_pinned m.uses used)
      (and_from (beq (is_lock u.token.kind) lock) (same_name u.label label) (is_beq (is_lock u.token.kind) lock k)
      (subst (λ (x : List ℕ). same_name u.label x ≡ true) l (name_same u.label)))
      (frees_last u f)))
  is_gives lock label u l k (inr (g, h, unknown)) =
      or_right (list_any (λ (used : UseOf). is_labelled lock label used && is_last_pinned m.uses used) m.uses.labels)
      (ends_label lock label m.ending)
      (some_ends lock label m.ending u (stands.leaving.ended u g (inr h) unknown) k l)

  -- nothing of a file is dirty or on its way
  pub length_clean : (fid : Fid) (t : Token) → In t (held_of m) → t.fid ≡ fid → is_length_clean m.lengths
      (content m.cache) fid ≡ true
      → content m.cache fid Size ≡ sees past s fid Size → LengthIsClean past s fid
  length_clean fid t i same e seen_is = go (length_given m.lengths fid) refl
    where
      go : (o : Option Given) → length_given m.lengths fid ≡ o → LengthIsClean past s fid
      go None p = absurd (let q =
          subst (λ (o : Option Given). option_map_or (λ (given : Given). (given.length == content m.cache fid Size)
          && given.known) o false ≡ true) p e in cc)
      go (Some given) p =
          let q = subst (λ (o : Option Given). option_map_or (λ (given : Given).
          (given.length == content m.cache fid Size) && given.known) o false ≡ true) p e in
          let r = and_parts (given.length == content m.cache fid Size) given.known q in
          let x = stands.lengths.some fid given p in
          let last = x.1 in
          record {
            give = x.0;
            last = before x.0 last;
            since = since x.0 last;
            present = x.2.length ∙ ap Some (eqb-true given.length (content m.cache fid Size) r.0 ∙ seen_is);
            known = x.2.known r.1;
          }
        where
          before : (g : Give) → IsLastLength (half s ∷ past) fid g → IsLastLength past fid g
          before g (inl i) = elim i.0 [ ]
          before g (inr i) = i.0

          since : (g : Give) → IsLastLength (half s ∷ past) fid g → TakesStatus s fid → ⊥
          since g (inl i) x = elim i.0 [ ]
          since g (inr i) x = i.1 x

  pub clean_length : (fid : Fid) → content m.cache fid Size ≡ sees past s fid Size → LengthIsClean past s fid
      → is_length_clean m.lengths (content m.cache) fid ≡ true
  clean_length fid seen_is c =
      let r = stands.lengths.all fid c.give (inr (c.last, c.since, λ other i. elim i [ ])) in
      let n : Some r.0.length ≡ Some (sees past s fid Size) = sym r.2.length ∙ c.present in
      let l : r.0.length ≡ sees past s fid Size = cc in
      subst (λ (o : Option Given). option_map_or (λ (given : Given). (given.length == content m.cache fid Size)
      && given.known) o false ≡ true) (sym r.1)
      (and_from (r.0.length == content m.cache fid Size) r.0.known (eq-eqb r.0.length (content m.cache fid Size)
      (l ∙ sym seen_is))
      (elim (by_test r.0.known) [ inl k ↦ k | inr k ↦ absurd (r.2.unknown k c.known) ]))

  pub status_of : (k : Kind) → updates_status k ≡ true → k ≡ Status true
  status_of (Bytes update span) e = absurd (cc)
  status_of (Status true) e = refl
  status_of (Status false) e = absurd (cc)
  status_of (LockToken writing span) e = absurd (cc)
  status_of (Opening kind) e = absurd (cc)

  -- a held token of the status shows the size
  pub size_seen : (fid : Fid) (t : Token) → In t (held_of m) → t.fid ≡ fid → t.kind ≡ Status true
      → content m.cache fid Size ≡ sees past s fid Size
  size_seen fid t i same k =
      stands.contents.agrees fid Size (any_in (λ (n : Need). same_fid n.fid fid && shows n.kind Size)
      (map need_of (held_of m)) (need_of t) (map_in need_of (held_of m) t i)
      (and_from (same_fid t.fid fid) (shows t.kind Size) (fid_same t.fid fid same)
      (subst (λ (k : Kind). shows k Size ≡ true) (sym k) refl)))

  abbrev HasOpen : Fid → Bool
  HasOpen fid = list_any (is_of_file fid) m.gives.gives

  pub of_file : (fid : Fid) (x : Message) (g : Give) → x.body ≡ GiveBack g → g.fid ≡ fid → is_of_file fid x ≡ true
  of_file fid x g e same = subst (λ (b : Body). option_map_or (λ (give : Give). same_fid give.fid fid)
      (given_in b) false ≡ true) (sym e) (fid_same g.fid fid same)

  pub file_of : (fid : Fid) (x : Message) (g : Give) → x.body ≡ GiveBack g → is_of_file fid x ≡ true → g.fid ≡ fid
  file_of fid x g e same =
      same_fid_is g.fid fid (subst (λ (b : Body). option_map_or (λ (give : Give). same_fid give.fid fid)
      (given_in b) false ≡ true) e same)

  clean : (fid : Fid) → (is_clean_file m fid ≡ true) ↔ IsClean past s fid
  clean fid = (there, back)
    where
      there : is_clean_file m fid ≡ true → IsClean past s fid
      there e =
          let p = and_parts (not (has_dirty_byte m.dirty fid) && not (is_length_dirty (held_of m) m.lengths
          (content m.cache) fid)) (not (HasOpen fid)) e in
          let q = and_parts (not (has_dirty_byte m.dirty fid))
          (not (is_length_dirty (held_of m) m.lengths (content m.cache) fid)) p.0 in
          record {
            none_dirty = λ t h same d. elim d [
              | inl b ↦ not_true (has_dirty_byte m.dirty fid) q.0 (any_first (spans_of m.dirty fid) b.0
                  (stands.dirty.bytes fid b.0 ∙ (dirty_is fid b.0 ∙ (ap (λ (f : Fid). is_dirty past f b.0) (sym same)
                  ∙ b.1.1))))
              | inr l ↦ (
                  let i = of_hand t h in
                  not_true (is_length_dirty (held_of m) m.lengths (content m.cache) fid) q.1
                  (and_from (list_any (is_updating fid) (held_of m))
                  (not (is_length_clean m.lengths (content m.cache) fid))
                  (any_in (is_updating fid) (held_of m) t i (and_from (same_fid t.fid fid) (updates_status t.kind)
                  (fid_same t.fid fid same) (subst (λ (k : Kind). updates_status k ≡ true) (sym l.0.1) refl)))
                  (true_not (is_length_clean m.lengths (content m.cache) fid)
                  (λ c. l.1 (subst (LengthIsClean past s) (sym same)
                  (length_clean fid t i same c (size_seen fid t i same l.0.1))))))
                  )
            ];
            none_open = λ g made same. elim (stands.gives.all g (inr made)) [
              | inl k ↦ k
              | inr x ↦ absurd (not_true (HasOpen fid) p.1 (any_in (is_of_file fid) m.gives.gives x.0 x.1
                  (of_file fid x.0 g x.2 same)))
            ];
          }

      back : IsClean past s fid → is_clean_file m fid ≡ true
      back c =
          and_from (not (has_dirty_byte m.dirty fid) && not (is_length_dirty (held_of m) m.lengths (content m.cache)
          fid)) (not (HasOpen fid))
          (and_from (not (has_dirty_byte m.dirty fid))
          (not (is_length_dirty (held_of m) m.lengths (content m.cache) fid))
          (true_not (has_dirty_byte m.dirty fid) (λ d.
          let r = first_in (spans_of m.dirty fid) d in
          let x : is_dirty past fid r.0 ≡ true = sym (dirty_is fid r.0) ∙ (sym (stands.dirty.bytes fid r.0) ∙ r.1) in
          let o = stands.dirty.under fid r.0 (dirty_is fid r.0 ∙ x) in
          let i = stands.cache.owns o.0 o.1 in
          let same = o.2.1 in
          c.none_dirty o.0 (hand_of o.0 i) same (inl (
            r.0,
            (
              subst (λ (f : Fid). UpdatesByte o.0 f r.0) (sym same) o.2,
              subst (λ (f : Fid). is_dirty past f r.0 ≡ true) (sym same) x,
            ),
          ))))
          (true_not (is_length_dirty (held_of m) m.lengths (content m.cache) fid) (λ d.
          let p = and_parts (list_any (is_updating fid) (held_of m))
          (not (is_length_clean m.lengths (content m.cache) fid)) d in
          let r = in_any (is_updating fid) (held_of m) p.0 in
          let q = and_parts (same_fid r.0.fid fid) (updates_status r.0.kind) r.2 in
          let same = same_fid_is r.0.fid fid q.0 in let k = status_of r.0.kind q.1 in
          c.none_dirty r.0 (hand_of r.0 r.1) same
          (inr (
            (refl, k),
            λ l. not_true (is_length_clean m.lengths (content m.cache) fid) p.1
                (clean_length fid (size_seen fid r.0 r.1 same k) (subst (LengthIsClean past s) same l)),
          )))))
          (true_not (HasOpen fid) (λ d.
          let r = in_any (is_of_file fid) m.gives.gives d in
          let x = stands.gives.made r.0 r.1 in
          x.3 (c.none_open x.0 (made_before x.0 x.2) (file_of fid r.0 x.0 x.1 r.2))))

  pub knows : KnowsItself m.host past s (own_of m)
  knows = record {
    locks = locks;
    locks_once = stands.labels.locks;
    opens = opens;
    opens_once = stands.labels.opens;
    gives_lock = λ label. (
      λ e. (let r = gives_is true label e in let k = lock_of r.0.token.kind r.3 r.2 in (
        record { host = m.host; label = r.0.label; fid = r.0.token.fid; writing = k.0; span = k.1 },
        r.0,
        r.1,
        (refl, refl, refl, k.2),
        r.4,
      )),
      λ r. is_gives true label r.1 r.2 (ap is_lock r.3.3) r.4,
    );
    gives_open = λ label. (
      λ e. (let r = gives_is false label e in let k = open_of r.0.token.kind r.3 r.2 in (
        record { host = m.host; label = r.0.label; fid = r.0.token.fid; kind = k.0 },
        r.0,
        r.1,
        (refl, refl, refl, k.1),
        r.4,
      )),
      λ r. is_gives false label r.1 r.2 (ap is_lock r.3.3) r.4,
    );
    clean = clean;
    seen = stands.homes.seen;
  }

  -- the tokens that it keeps are given, with a proof
  abbrev pub stance : (kept : List Token) → ((t : Token) → In t kept → HeldBy (s ∷ past) t)
      → ((t : Token) → HeldBy (s ∷ past) t → In t kept) → Stance script.roster m.host past s
  stance kept keeps cached = record {
    user = m.user;
    acts_for = stands.user;
    own = own_of m;
    knows = knows;
    held = held_of m;
    holds = λ t. (hand_of t, of_hand t);
    kept = kept;
    keeps = λ t. (keeps t, cached t);
  }
