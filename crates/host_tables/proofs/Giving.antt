-- What a step gives back, as the rules ask.
use Rattle.base_types.specs.Ids.{same_fid}
use Rattle.base_types.specs.declared.ids.Fid.{Fid}
use Rattle.base_types.specs.declared.ids.FilesetId.{FilesetId}
use Rattle.host_dirty.specs.Dirtiness.{is_dirty as is_dirty_in}
use Rattle.host_gives.specs.Counters.{last_of}
use Rattle.host_tables.proofs.Lists.{any_in, by_test, false_not, fid_same, in_any, map_in, not_true, same_fid_is}
use Rattle.host_tables.specs.Giving.{GivesAreRight, GivesBack}
use Rattle.host_tables.specs.Half.{half}
use Rattle.host_tables.specs.Stands.{Stands}
use Rattle.host_tables.specs.Tables.{content, held_of, is_length_clean, is_length_dirty, is_updating, updates_status}
use Rattle.host_tables.specs.declared.tables.Tables.{Tables}
use Rattle.message_types.specs.declared.giving.Give.{Give}
use Rattle.need_host.specs.Shows.{shows}
use Rattle.run_rules.specs.HostTokens.{DirtyLength, HostGives}
use Rattle.run_rules.specs.Past.{In}
use Rattle.run_rules.specs.Tokens.{Made, Owns}
use Rattle.run_rules.specs.Views.{LengthIsClean, LengthIsDirty, UpdatesByte, is_dirty, sees}
use Rattle.run_rules.specs.declared.step.Step.{Step}
use Rattle.script_lines.specs.declared.script.Script.{Script}
use Rattle.std.proofs.Common.{Bool, List, None, Some, ap, arith, false, if◌then◌else◌, inl, inr, map, not, refl}
use Rattle.std.proofs.Common.{subst, sym, true, ℕ, ◌&&◌, ◌<◌, ◌∙◌, ◌∷◌, ◌≡◌, ◌≤◌}
use Rattle.std.proofs.lemmas.Bool.{and_from, and_parts}
use Rattle.std.specs.List.{list_any}
use Rattle.token_types.specs.Conflicts.{need_of}
use Rattle.token_types.specs.declared.token.Kind.{Kind}
use Rattle.token_types.specs.declared.token.Need.{Need}
use Rattle.token_types.specs.declared.token.Token.{Token}
use Rattle.tree_laws.specs.Parts.Part.{ByteAt, Size}
use Rattle.host_tables.proofs.Answered as answered
use Rattle.host_tables.proofs.Standing as standing

updating : (fid : Fid) (t : Token) → t.fid ≡ fid → updates_status t.kind ≡ true → is_updating fid t ≡ true
updating fid t same k = and_from (same_fid t.fid fid) (updates_status t.kind) (fid_same t.fid fid same) k

module _ (script : Script) (m : Tables) (past : List Step) (s : Step) (learnt : Stands script m (half s ∷ past))
    (kept : List Token)
    (owns : (t : Token) → In t kept → Owns (s ∷ past) t) (owned : (t : Token) → Owns (s ∷ past) t → In t kept)
    (so : GivesBack m past s kept) where
  dirty_is : (fid : Fid) (at : ℕ) → is_dirty_in m.dirty fid at ≡ is_dirty past fid at
  dirty_is fid at = learnt.dirty.bytes fid at ∙ standing.dirty_is script m past s learnt fid at

  -- a token over a dirty byte shows it
  byte_seen : (t : Token) (fid : Fid) (at : ℕ) → In t (held_of m) → UpdatesByte t fid at
      → content m.cache fid (ByteAt at) ≡ sees past s fid (ByteAt at)
  byte_seen t fid at i u =
      learnt.contents.agrees fid (ByteAt at) (any_in (λ (n : Need). same_fid n.fid fid && shows n.kind (ByteAt at))
      (map need_of (held_of m)) (need_of t) (map_in need_of (held_of m) t i)
      (and_from (same_fid t.fid fid) (shows t.kind (ByteAt at)) (fid_same t.fid fid u.1)
      (subst (λ (k : Kind). shows k (ByteAt at) ≡ true) (sym u.2) u.3)))

  held_now : (t : Token) → Owns past t → In t (held_of m)
  held_now t o = learnt.cache.owns t (inr o, λ l. elim l [ inl x ↦ elim x.1 [ ] | inr r ↦ elim r.4.1 [ ] ])

  -- a dirty length, by the tables and by the rules
  length_there : (t : Token) → In t (held_of m) → LengthIsDirty past s t
      → (updates_status t.kind ≡ true) × (is_length_clean m.lengths (content m.cache) t.fid ≡ false)
  length_there t i d = (
    subst (λ (k : Kind). updates_status k ≡ true) (sym d.0.1) refl,
    elim (by_test (is_length_clean m.lengths (content m.cache) t.fid)) [
      | inl e ↦ absurd (d.1 (standing.length_clean script m past s learnt t.fid t i refl e
          (standing.size_seen script m past s learnt t.fid t i refl d.0.1)))
      | inr e ↦ e
    ],
  )

  dirty_length : (fid : Fid) → DirtyLength past s fid → is_length_dirty (held_of m) m.lengths (content m.cache) fid
      ≡ true
  dirty_length fid (t, h, same, d) =
      let i = standing.of_hand script m past s learnt t h in
      let x = length_there t i d in
      and_from (list_any (is_updating fid) (held_of m)) (not (is_length_clean m.lengths (content m.cache) fid))
      (any_in (is_updating fid) (held_of m) t i (updating fid t same x.0))
      (false_not (is_length_clean m.lengths (content m.cache) fid) (ap (is_length_clean m.lengths (content m.cache))
      (sym same) ∙ x.1))

  length_dirty : (fid : Fid) → is_length_dirty (held_of m) m.lengths (content m.cache) fid ≡ true
      → DirtyLength past s fid × (content m.cache fid Size ≡ sees past s fid Size)
  length_dirty fid e =
      let p = and_parts (list_any (is_updating fid) (held_of m)) (not (is_length_clean m.lengths (content m.cache) fid))
      e in
      let r = in_any (is_updating fid) (held_of m) p.0 in
      let q = and_parts (same_fid r.0.fid fid) (updates_status r.0.kind) r.2 in
      let same = same_fid_is r.0.fid fid q.0 in
      let k = standing.status_of script m past s learnt r.0.kind q.1 in
      let seen_is = standing.size_seen script m past s learnt fid r.0 r.1 same k in (
        (
          r.0,
          standing.hand_of script m past s learnt r.0 r.1,
          same,
          (
            (refl, k),
            λ l. not_true (is_length_clean m.lengths (content m.cache) fid) p.1
                (standing.clean_length script m past s learnt fid seen_is (subst (LengthIsClean past s) same l)),
          ),
        ),
        seen_is,
      )

  -- a give-back has a dirty length
  has_length : (g : Give) → In g s.made → DirtyLength past s g.fid → g.length ≡ Some (sees past s g.fid Size)
  has_length g i d =
      let e = dirty_length g.fid d in
      so.length_is g i
      ∙ (ap (λ (b : Bool). if b then Some (content m.cache g.fid Size) else None) e ∙ ap Some (length_dirty g.fid e).1)

  pub gives : HostGives past s
  gives = record {
    names = so.names;
    rise = so.rise;
    one_a_file = so.one;
    next = λ g i. elim (so.next g i) [
      | inl e ↦ elim (learnt.gives.counted g.fid.fileset) [
        | inl z ↦ inl (omega (arith, e, z))
        | inr k ↦ inr (
          k.0,
          inr (standing.made_before script m past s learnt k.0 k.1),
          k.2,
          (let n = k.3 in omega (arith, e, n)),
        )
      ]
      | inr k ↦ inr (k.0, inl k.1, k.2, k.3)
    ];
    bytes = λ g at x i e.
        let h = so.has g at x i e in
        let d : is_dirty past g.fid at ≡ true = sym (dirty_is g.fid at) ∙ h.0 in
        let t = h.2.0 in let u = h.2.3 in (
          (
            t,
            standing.hand_of script m past s learnt t h.2.1,
            h.2.2,
            u.1,
            (
              subst (λ (f : Fid). UpdatesByte t f at) (sym u.1) u,
              subst (λ (f : Fid). is_dirty past f at ≡ true)
                  (sym u.1) d,
            ),
          ),
          sym (byte_seen t g.fid at h.2.1 u) ∙ h.1,
          λ o. h.3 o.0 (owned o.0 o.1) o.2,
        );
    bytes_saved = λ fid at d o. elim (so.saves o.0 fid at (dirty_is fid at ∙ d) (held_now o.0 o.1) o.2) [
      | inl u ↦ inl (u.0, owns u.0 u.1, u.2)
      | inr g ↦ inr g
    ];
    length = λ g n i e. elim (by_test (is_length_dirty (held_of m) m.lengths (content m.cache) g.fid)) [
      | inl y ↦ (let r = length_dirty g.fid y in
          (r.0, (let p : Some (sees past s g.fid Size) ≡ Some n = sym (has_length g i r.0) ∙ e in cc)))
      | inr z ↦ absurd (let p : None ≡ Some n =
          sym (so.length_is g i ∙ ap (λ (b : Bool). if b then Some (content m.cache g.fid Size) else None) z) ∙ e in cc)
    ];
    length_too = has_length;
    length_saved = λ t o d.
        let i = held_now t o in let x = length_there t i d in
        elim (so.saves_length t i x.0 x.1) [
          | inl k ↦ inl (owns t k)
          | inr g ↦ inr (
            g.0,
            g.1,
            g.2,
            subst (λ (f : Fid). g.0.length ≡ Some (sees past s f Size)) g.2
                (has_length g.0 g.1 (t, standing.hand_of script m past s learnt t i, sym g.2, d)),
            g.3,
          )
        ];
    ends = so.ends;
    ends_used = so.ends_used;
    sends = so.sends;
  }

  -- what HostTokens asks of give-backs
  pub made_new : (g k : Give) → In g s.made → Made past k → k.fid.fileset ≡ g.fid.fileset → k.number < g.number
  made_new g k i made same =
      let a = so.above g i in
      let l : k.number ≤ last_of m.gives.counters g.fid.fileset =
      subst (λ (f : FilesetId). k.number ≤ last_of m.gives.counters f) same (learnt.gives.last k (inr made)) in
      omega (arith, a, l)

pub gives_are_right : GivesAreRight
gives_are_right script m past s learnt kept owns owned so = gives script m past s learnt kept owns owned so
