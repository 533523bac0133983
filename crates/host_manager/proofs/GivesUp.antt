-- A call ends the last use of a pinned token: that leaves in a give-back, and the call is left open.
use Rattle.base_types.specs.Ids.{same_fid}
use Rattle.base_types.specs.Name.{same_name}
use Rattle.base_types.specs.declared.ids.Fid.{Fid}
use Rattle.host_cache.specs.Seen.{Kept, after_drop, seen}
use Rattle.host_dirty.specs.Dirtiness.{is_dirty as is_dirty_in}
use Rattle.host_dirty.specs.declared.dirty.Dirty.{Dirty}
use Rattle.host_gives.specs.Giving.{after_add}
use Rattle.host_labels.proofs.Finding.{dropped}
use Rattle.host_labels.specs.Labels.{InUse, IsSound as IsSoundUses, after_drop as without_use, has_id, is_labelled}
use Rattle.host_labels.specs.Labels.{is_lock, is_pinned}
use Rattle.host_labels.specs.declared.uses.Labelled.{Labelled as UseOf}
use Rattle.host_leaves.specs.Dirtying.{covers_left}
use Rattle.host_leaves.specs.Giving.{leaving_by, with_length_of}
use Rattle.host_manager.proofs.Freed.{closes, closes_lock, end_is, filters_alike, mode_same, once_moved, one_only}
use Rattle.host_manager.proofs.Freed.{same_end}
use Rattle.host_manager.proofs.GivenUp.{covers_none, one_chosen}
use Rattle.host_manager.proofs.LeftBy.{IsLeftBy, left_by}
use Rattle.host_manager.proofs.OneFile.{IsGiven, LabelsLeft}
use Rattle.host_tables.proofs.Lists.{any_in, by_test, false_not, filter_in, id_same, name_same, names_are, not_true}
use Rattle.host_tables.proofs.Lists.{true_false}
use Rattle.host_tables.specs.Half.{learning}
use Rattle.host_tables.specs.LeavingSteps.{LeavesRight, Left, with_left}
use Rattle.host_tables.specs.LeavingSteps.EndsBy.{EndsOne}
use Rattle.host_tables.specs.Stands.{LabelsStand, Stands}
use Rattle.host_tables.specs.Tables.{held_of, is_last_pinned, is_last_use, labelled, locks_under, ones, opens_under}
use Rattle.host_tables.specs.Tables.{own_of}
use Rattle.host_tables.specs.declared.tables.Tables.{Tables}
use Rattle.message_types.specs.declared.giving.Ends.{Ends}
use Rattle.message_types.specs.declared.giving.Give.{Give}
use Rattle.message_types.specs.declared.message.Body.TheVariants.{GiveBack}
use Rattle.message_types.specs.declared.message.Message.{Message}
use Rattle.run_rules.specs.Messages.{KeepsToken}
use Rattle.run_rules.specs.Past.{EachOnce, In}
use Rattle.run_rules.specs.Tokens.{FreesPinned, GivesUse, IsUseKind, LabelInUse, end_of}
use Rattle.run_rules.specs.declared.step.Cause.{Cause}
use Rattle.run_rules.specs.declared.step.Labelled.{Labelled}
use Rattle.run_rules.specs.declared.step.Step.{Step}
use Rattle.script_lines.specs.declared.script.Script.{Script}
use Rattle.std.proofs.Common.{Bool, List, None, Option, Some, [], ap, false, filter, flat_map, inl, inr, map, not}
use Rattle.std.proofs.Common.{refl, subst, sym, true, ℕ, ◌&&◌, ◌++◌, ◌∙◌, ◌∷◌, ◌≡◌}
use Rattle.std.proofs.lemmas.Bool.{and_from, and_parts}
use Rattle.std.specs.Bool.{beq}
use Rattle.std.specs.List.{list_any}
use Rattle.token_types.specs.Conflicts.{same_id}
use Rattle.token_types.specs.declared.token.Kind.{Kind}
use Rattle.token_types.specs.declared.token.Kind.TheVariants.{Bytes, Lock, Opening, Status}
use Rattle.token_types.specs.declared.token.Token.{Token}
use Rattle.token_types.specs.declared.token.TokenId.{TokenId}
use Rattle.host_manager.proofs.OneFile as one_file
use Rattle.host_tables.proofs.Standing as standing

module _ (script : Script) (m : Tables) (past : List Step) (cause : Cause) (came : List Token)
    (learnt : Stands script m (learning m.host cause came ∷ past)) (sound : IsSoundUses m.uses) (used : UseOf)
    (within : In used m.uses.labels) (last : is_last_pinned m.uses used ≡ true) where
  abbrev u : Labelled
  u = labelled used

  abbrev h : Step
  h = learning m.host cause came

  stands : Stands script m (h ∷ past)
  stands = learnt

  use_now : LabelInUse (h ∷ past) u
  use_now = stands.uses.used used within

  in_use : LabelInUse past u
  in_use = standing.used_before script m past h learnt u use_now

  last_parts : (is_last_use m.uses.labels used ≡ true) × (is_pinned m.uses used.token.id ≡ true)
  last_parts = and_parts (is_last_use m.uses.labels used) (is_pinned m.uses used.token.id) last

  -- it is the only label of its token
  pub only_use : (other : Labelled) → LabelInUse past other → other.token.id ≡ u.token.id → other ≡ u
  only_use other o e =
      let v : UseOf = record { label = other.label; token = other.token } in
      let now = standing.used_after script m past h learnt other o in
      let i = stands.uses.labels other now in
      let h = stands.uses.held other now in
      let t : other.token ≡ used.token = stands.cache.once other.token used.token (stands.cache.cached other.token h)
      (stands.cache.cached used.token (stands.uses.held u use_now)) e in
      let l : other.label ≡ used.label = elim (by_test (same_name other.label used.label)) [
        | inl y ↦ names_are other.label used.label y
        | inr n ↦ absurd (not_true (list_any (λ (w : UseOf). same_id w.token.id used.token.id
            && not (same_name w.label used.label)) m.uses.labels) last_parts.0
            (any_in (λ (w : UseOf). same_id w.token.id used.token.id && not (same_name w.label used.label))
            m.uses.labels v i (and_from (same_id other.token.id used.token.id)
            (not (same_name other.label used.label)) (id_same other.token.id used.token.id e)
            (false_not (same_name other.label used.label) n))))
      ] in
      λ z. record { label = l z; token = t z }

  pub frees_pinned : FreesPinned past u
  frees_pinned = (
    (in_use, only_use),
    standing.kept_before script m past h learnt u.token.id (stands.uses.pinned u use_now last_parts.1),
  )

  kind_of : (v : UseOf) → In v m.uses.labels → IsUseKind v.token.kind
  kind_of v i = stands.uses.kinds (labelled v) (stands.uses.used v i)

  abbrev keeps : UseOf → Bool
  keeps v = not (beq (not (closes v.token.kind)) (is_lock used.token.kind) && same_name v.label used.label)

  keeps_is : (v : UseOf) → In v m.uses.labels
      → not (is_labelled (is_lock used.token.kind) used.label v) ≡ keeps v
  keeps_is v i = ap (λ (b : Bool). not (beq b (is_lock used.token.kind) && same_name v.label used.label))
      (sym (closes_lock v.token.kind (kind_of v i)))

  here : is_labelled (is_lock used.token.kind) used.label used ≡ true
  here = and_from (beq (is_lock used.token.kind) (is_lock used.token.kind)) (same_name used.label used.label)
      (mode_same (is_lock used.token.kind) (is_lock used.token.kind) refl) (name_same used.label)

  pub the_label : (v : UseOf) → In v m.uses.labels → is_labelled (is_lock used.token.kind) used.label v ≡ true → v
      ≡ used
  the_label v i e = one_only (filter (is_labelled (is_lock used.token.kind) used.label) m.uses.labels) v used
      (sound.once (is_lock used.token.kind) used.label)
      (filter_in (is_labelled (is_lock used.token.kind) used.label) m.uses.labels v i e)
      (filter_in (is_labelled (is_lock used.token.kind) used.label) m.uses.labels used within here)

  not_kept : keeps used ≡ false
  not_kept = sym (keeps_is used within) ∙ ap not here

  -- which labels have this end
  pub end_same : (v : Labelled) → end_of u ≡ end_of v
      → (not (closes v.token.kind) ≡ is_lock used.token.kind) × (v.label ≡ used.label)
  end_same v e = same_end v.token.kind v.label (is_lock used.token.kind) used.label
      (sym e ∙ end_is used.token.kind used.label (kind_of used within))

  pub labelled_by : (v : UseOf) → In v m.uses.labels
      → (not (closes v.token.kind) ≡ is_lock used.token.kind) × (v.label ≡ used.label)
      → is_labelled (is_lock used.token.kind) used.label v ≡ true
  labelled_by v i r = and_from (beq (is_lock v.token.kind) (is_lock used.token.kind)) (same_name v.label used.label)
      (mode_same (is_lock v.token.kind) (is_lock used.token.kind)
      (sym (closes_lock v.token.kind (kind_of v i)) ∙ r.0))
      (subst (λ (l : List ℕ). same_name l used.label ≡ true) (sym r.1) (name_same used.label))

  end_kept : (v : UseOf) → keeps v ≡ true → end_of u ≡ end_of (labelled v) → ⊥
  end_kept v t e =
      let r = end_same (labelled v) e in
      not_true (beq (not (closes v.token.kind)) (is_lock used.token.kind) && same_name v.label used.label) t
      (and_from (beq (not (closes v.token.kind)) (is_lock used.token.kind)) (same_name v.label used.label)
      (mode_same (not (closes v.token.kind)) (is_lock used.token.kind) r.0)
      (subst (λ (l : List ℕ). same_name l used.label ≡ true) (sym r.1) (name_same used.label)))

  -- # The tables after it
  module _ (number : ℕ) (no_ending : m.ending ≡ None) (cache : Kept) (dirty : Dirty) (g : Give)
      (given : IsGiven m used.token.fid (used.token ∷ []) (used.token ∷ []) g)
      (ends : g.ends ≡ Some (record { k = number; call = end_of u }))
      (cleans : (other : Fid) (at : ℕ) → is_dirty_in dirty other at ≡ is_dirty_in m.dirty other at)
      (shown : seen cache ≡ after_drop (seen m.cache) used.token.id) (message : Message)
      (body : message.body ≡ GiveBack g) where
    abbrev t : Token
    t = used.token

    abbrev uses : InUse
    uses = without_use m.uses (is_lock used.token.kind) used.label

    abbrev pub l : Left
    l = record {
      cache = cache;
      dirty = dirty;
      lengths = with_length_of g.fid g.number g.length m.lengths;
      uses = uses;
      gives = after_add m.gives message;
      leaving = m.leaving ++ leaving_by g.fid.fileset g.number t ∷ [];
      ending = Some u;
    }

    t_held : In t (held_of m)
    t_held = stands.cache.cached t (stands.uses.held u use_now)

    kept : IsLeftBy m.cache cache (t ∷ [])
    kept = left_by m.cache cache (t ∷ []) shown stands.cache.tells stands.contents.zero

    of_file : (w : Token) → In w (t ∷ []) → In w (held_of m) × (w.fid ≡ t.fid)
    of_file w (inl e) = (subst (λ (z : Token). In z (held_of m)) (sym e) t_held, ap (λ (z : Token). z.fid) e)
    of_file w (inr n) = elim n [ ]

    pub gives_use : GivesUse g u
    gives_use = (
      record { k = number; call = end_of u },
      ends,
      refl,
      subst (λ (is : List TokenId). In t.id is) (sym given.ids) (inl refl),
    )

    its_use : (w : Labelled) → LabelInUse past w → GivesUse g w → w ≡ u
    its_use w o q = only_use w o (elim (subst (λ (is : List TokenId). In w.token.id is) given.ids q.3) [
      | inl e ↦ e
      | inr n ↦ elim n [ ]
    ])

    pins_stay : (v : UseOf) → In v uses.labels → is_pinned m.uses v.token.id ≡ true → is_pinned uses v.token.id ≡ true
    pins_stay v i p =
        (dropped m.uses (is_lock used.token.kind) used.label).pins v.token.id
        ∙ and_from (has_id uses.labels v.token.id) (is_pinned m.uses v.token.id)
        (any_in (λ (w : UseOf). same_id w.token.id v.token.id) uses.labels v i (id_same v.token.id v.token.id refl)) p

    pins_were : (i : TokenId) → is_pinned uses i ≡ true → is_pinned m.uses i ≡ true
    pins_were i p = (and_parts (has_id uses.labels i) (is_pinned m.uses i)
        (sym ((dropped m.uses (is_lock used.token.kind) used.label).pins i) ∙ p)).1

    one_lock : (w : Labelled) → EachOnce (locks_under m.host w.token.kind w)
    one_lock w = by_kind w.token.kind
      where
        by_kind : (k : Kind) → EachOnce (locks_under m.host k w)
        by_kind (Lock writing span) = ((λ i. i), tt)
        by_kind (Opening kind) = tt
        by_kind (Bytes update span) = tt
        by_kind (Status update) = tt

    one_open : (w : Labelled) → EachOnce (opens_under m.host w.token.kind w)
    one_open w = by_kind w.token.kind
      where
        by_kind : (k : Kind) → EachOnce (opens_under m.host k w)
        by_kind (Lock writing span) = tt
        by_kind (Opening kind) = ((λ i. i), tt)
        by_kind (Bytes update span) = tt
        by_kind (Status update) = tt

    -- the label that is being ended stands at the end of those that the host has still
    labels_after : LabelsStand (own_of (with_left m l))
    labels_after = record {
      locks = once_moved (λ w. locks_under m.host w.token.kind w) labelled
          (λ v. not (is_labelled (is_lock used.token.kind) used.label v)) m.uses.labels used within (ap not here)
          (one_lock u) (subst (λ (o : Option Labelled). EachOnce (flat_map (λ w. locks_under m.host w.token.kind w)
          (map labelled m.uses.labels ++ ones o))) no_ending stands.labels.locks);
      opens = once_moved (λ w. opens_under m.host w.token.kind w) labelled
          (λ v. not (is_labelled (is_lock used.token.kind) used.label v)) m.uses.labels used within (ap not here)
          (one_open u) (subst (λ (o : Option Labelled). EachOnce (flat_map (λ w. opens_under m.host w.token.kind w)
          (map labelled m.uses.labels ++ ones o))) no_ending stands.labels.opens);
    }

    module _ (s : Step) (made_is : s.made ≡ g ∷ []) (none_kept : (i : TokenId) → KeepsToken s i → ⊥) where
      only_it : (k : Give) → In k s.made → k ≡ g
      only_it k i = elim (subst (λ (gs : List Give). In k gs) made_is i) [ inl e ↦ e | inr n ↦ elim n [ ] ]

      it_made : In g s.made
      it_made = subst (λ (gs : List Give). In g gs) (sym made_is) (inl refl)

      labels_left : LabelsLeft m l past s
      labels_left = record {
        keeps_label = keeps;
        labels_are = filters_alike (λ v. not (is_labelled (is_lock used.token.kind) used.label v)) keeps m.uses.labels
            keeps_is;
        label_kept = λ v i none. elim (by_test (keeps v)) [
          | inl e ↦ e
          | inr f ↦ absurd (
              let e : is_labelled (is_lock used.token.kind) used.label v ≡ true =
              elim (by_test (is_labelled (is_lock used.token.kind) used.label v)) [
                | inl y ↦ y
                | inr n ↦ absurd (true_false (keeps v) (sym (keeps_is v i) ∙ ap not n) f)
              ] in
              none g it_made (subst (λ (w : UseOf). GivesUse g (labelled w)) (sym (the_label v i e)) gives_use))
        ];
        label_gone = λ v e j i q.
            let same = only_it j i in
            let p : Some q.0 ≡ Some (record { k = number; call = end_of u }) =
            sym q.1 ∙ ap (λ (z : Give). z.ends) same ∙ ends in
            let is : q.0 ≡ record { k = number; call = end_of u } = cc in
            end_kept v e (sym (ap (λ (z : Ends). z.call) is) ∙ q.2);
        pinned = λ i p. inl (pins_were i p);
        pins = λ v i e. elim e [ inl p ↦ pins_stay v i p | inr k ↦ absurd (none_kept v.token.id k) ];
        ends = EndsOne g u it_made (λ k i. sym (only_it k i)) in_use gives_use its_use no_ending refl;
        labels = labels_after;
      }

      pub right : LeavesRight m l past s
      right = one_file.one_right m t.fid (t ∷ []) (t ∷ []) stands.cache.once of_file (one_chosen m t) cache kept dirty g
          given message body uses (Some u) past s made_is labels_left
          (λ other at. cleans other at ∙ none_covered other at (is_dirty_in m.dirty other at))
        where
          none_covered : (other : Fid) (at : ℕ) (b : Bool)
              → b ≡ (b && not (same_fid t.fid other && covers_left m t.fid (t ∷ []) (t ∷ []) at))
          none_covered other at b =
              by_both b (same_fid t.fid other)
              ∙ ap (λ (c : Bool). b && not (same_fid t.fid other && c))
              (sym (covers_none m t at (kind_of used within)))
            where
              by_both : (b c : Bool) → b ≡ (b && not (c && false))
              by_both true true = refl
              by_both true false = refl
              by_both false c = refl
