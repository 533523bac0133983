-- What the call of a step has to give back for itself hangs on its verdict: where that isn't to give back, nothing is.
use Rattle.base_types.specs.Ids.{same_fid}
use Rattle.base_types.specs.Name.{same_name}
use Rattle.base_types.specs.Spans.{has_byte}
use Rattle.base_types.specs.declared.ids.Fid.{Fid}
use Rattle.base_types.specs.declared.span.Span.{Span}
use Rattle.host_dirty.specs.Dirtiness.{is_dirty as is_dirty_in, spans_of}
use Rattle.host_dirty.specs.declared.dirty.Dirty.{Dirty}
use Rattle.host_gives.specs.Giving.{is_of_file}
use Rattle.host_labels.specs.Labels.{is_labelled, is_lock, is_pinned}
use Rattle.host_labels.specs.declared.uses.Labelled.{Labelled as UseOf}
use Rattle.host_leaves.specs.Owning.{has_label}
use Rattle.host_manager.proofs.EndsIt.{verdict_so}
use Rattle.host_manager.proofs.Freed.{end_is, mode_same}
use Rattle.host_manager.proofs.Running.{uses_are}
use Rattle.host_manager.proofs.SyncSo.{sync_from, sync_gives}
use Rattle.host_tables.proofs.Lists.{any_in, fid_same, in_any, name_same, not_true, or_left, same_id_is, true_not}
use Rattle.host_tables.specs.Answering.{GivesForCall}
use Rattle.host_tables.specs.Half.{learning}
use Rattle.host_tables.specs.Stands.{CanReply, Finds, IsCoveredFrom, IsDirtyFrom, IsLack, Stands, needs_from}
use Rattle.host_tables.specs.Stands.{verdict_from}
use Rattle.host_tables.specs.Tables.{content, ends_label, gives_label, has_dirty_byte, held_of, is_clean_file}
use Rattle.host_tables.specs.Tables.{is_last_pinned, is_last_use, is_length_clean, is_length_dirty, is_updating}
use Rattle.host_tables.specs.Tables.{labelled, updates_status}
use Rattle.host_tables.specs.declared.tables.Tables.{Tables}
use Rattle.message_types.specs.declared.giving.Give.{Give}
use Rattle.need_host.proofs.Looking.{lacks_are_first}
use Rattle.need_host.specs.Calls.{Verdict as Meant, reply_now}
use Rattle.need_host.specs.Calls.Verdict.{Asks as AsksOf, Frees as FreesOf, Gives as GivesOf}
use Rattle.need_host.specs.Looks.{CoverAll, outcome}
use Rattle.need_host.specs.Questions.{Question}
use Rattle.run_rules.specs.Past.{In}
use Rattle.run_rules.specs.Tokens.{FreesPinned, GivesUse, HasCall, Makes, end_of}
use Rattle.run_rules.specs.Views.{is_dirty}
use Rattle.run_rules.specs.declared.step.Cause.{Cause}
use Rattle.run_rules.specs.declared.step.Labelled.{Labelled}
use Rattle.run_rules.specs.declared.step.Step.{Step}
use Rattle.script_lines.specs.declared.script.Script.{Script}
use Rattle.std.proofs.Common.{Bool, List, None, Some, ap, arith, false, if◌then◌else◌, inl, inr, nat_le, nat_lt, not}
use Rattle.std.proofs.Common.{refl, subst, sym, true, ℕ, ◌&&◌, ◌∙◌, ◌∷◌, ◌≡◌}
use Rattle.std.proofs.lemmas.Bool.{and_from, and_parts}
use Rattle.std.proofs.lemmas.Grind.{common_steps}
use Rattle.std.specs.Bool.{beq}
use Rattle.std.specs.List.{list_any}
use Rattle.token_types.specs.Conflicts.{same_id}
use Rattle.token_types.specs.declared.token.Need.{Need}
use Rattle.token_types.specs.declared.token.Token.{Token}
use Rattle.tree_calls.specs.declared.call.Call.{Call}
use Rattle.tree_calls.specs.declared.call.Call.TheVariants.{Sync}
use Rattle.tree_calls.specs.declared.place.Place.{Place as NamedPlace}
use Rattle.tree_calls.specs.declared.reply.Reply.{Reply}
use Rattle.host_tables.proofs.Ending as ending
use Rattle.host_tables.proofs.Standing as standing

-- a byte that is dirty is one of a span
at_spans : (d : Dirty) (fid : Fid) (at : ℕ) → is_dirty_in d fid at ≡ true → has_dirty_byte d fid ≡ true
at_spans d fid at t =
    let k = in_any (λ (span : Span). has_byte span at) (spans_of d fid) t in
    let p = and_parts (nat_le k.0.from at) (nat_lt at k.0.to) k.2 in
    let low : nat_le k.0.from at ≡ true = p.0 in let high : nat_lt at k.0.to ≡ true = p.1 in
    any_in (λ (span : Span). nat_lt span.from span.to) (spans_of d fid) k.0 k.1
    (grind (arith, common_steps, low, high))

middle_false : (a b : Bool) → (a && false && b) ≡ false
middle_false true b = refl
middle_false false b = refl

no_reply : (v : Meant) (reply : Reply) → reply_now v ≡ Some reply → v ≡ GivesOf → ⊥
no_reply v reply settled gives = let p : None ≡ Some reply = sym (ap reply_now gives) ∙ settled in cc

no_ask : (v : Meant) (question : Question) → v ≡ AsksOf question → v ≡ GivesOf → ⊥
no_ask v question asks gives = let p : AsksOf question ≡ GivesOf = sym asks ∙ gives in cc

module _ (script : Script) (m : Tables) (past : List Step) (cause : Cause) (came : List Token)
    (learnt : Stands script m (learning m.host cause came ∷ past)) where
  abbrev h : Step
  h = learning m.host cause came

  dirty_was : (f : Fid) (at : ℕ) → is_dirty_in m.dirty f at ≡ is_dirty past f at
  dirty_was f at = learnt.dirty.bytes f at ∙ standing.dirty_is script m past h learnt f at

  -- # A Sync
  -- a file of which something is dirty isn't clean
  unclean : (fid : Fid) (t : Token) → In t (held_of m) → t.fid ≡ fid → IsDirtyFrom m past t
      → is_clean_file m fid ≡ false
  unclean fid t i at (inl b) =
      let dirty : is_dirty_in m.dirty fid b.0 ≡ true = dirty_was fid b.0
      ∙ ap (λ (f : Fid). is_dirty past f b.0) (sym at) ∙ b.1.1 in
      ap (λ (x : Bool). not x && not (is_length_dirty (held_of m) m.lengths (content m.cache) fid)
      && not (list_any (is_of_file fid) m.gives.gives)) (at_spans m.dirty fid b.0 dirty)
  unclean fid t i at (inr b) =
      let updating : list_any (is_updating fid) (held_of m) ≡ true = any_in (is_updating fid) (held_of m) t i
      (and_from (same_fid t.fid fid) (updates_status t.kind) (fid_same t.fid fid at) b.0) in
      let old : is_length_clean m.lengths (content m.cache) fid ≡ false =
      ap (is_length_clean m.lengths (content m.cache)) (sym at) ∙ b.1 in
      (λ j. not (has_dirty_byte m.dirty fid) && not (updating j && not (old j))
      && not (list_any (is_of_file fid) m.gives.gives))
      ∙ middle_false (not (has_dirty_byte m.dirty fid)) (not (list_any (is_of_file fid) m.gives.gives))

  syncs_it : (place : NamedPlace) (fid : Fid) (t : Token) → Finds m place fid → In t (held_of m) → t.fid ≡ fid
      → IsDirtyFrom m past t → (verdict_from m (Sync place) ≡ GivesOf) × IsCoveredFrom m (Sync place)
  syncs_it place fid t finds i at dirty = (
    ap (outcome (content m.cache)) (sync_from m place finds.id finds.seen)
        ∙ sync_gives m place.path finds.id fid finds.nature finds.found (unclean fid t i at dirty),
    subst (CoverAll (held_of m)) (sym (ending.sync_needs m place finds.id finds.seen)) finds.covered,
  )

  -- # The end of a label
  abbrev Other : UseOf → UseOf → Bool
  Other used other = same_id other.token.id used.token.id && not (same_name other.label used.label)

  last_pinned : (u : Labelled) → FreesPinned past u
      → is_last_pinned m.uses (record { label = u.label; token = u.token }) ≡ true
  last_pinned u f =
      let used : UseOf = record { label = u.label; token = u.token } in
      and_from (is_last_use m.uses.labels used) (is_pinned m.uses used.token.id)
      (true_not (list_any (Other used) m.uses.labels) (λ some.
      let r = in_any (Other used) m.uses.labels some in
      let p = and_parts (same_id r.0.token.id u.token.id) (not (same_name r.0.label u.label)) r.2 in
      let same = f.0.1 (labelled r.0)
      (standing.used_before script m past h learnt (labelled r.0) (learnt.uses.used r.0 r.1))
      (same_id_is r.0.token.id u.token.id p.0) in
      not_true (same_name r.0.label u.label) p.1 (subst (λ (x : List ℕ). same_name r.0.label x ≡ true)
      (ap (λ (x : Labelled). x.label) same) (name_same r.0.label))))
      (learnt.uses.kept u (standing.used_after script m past h learnt u f.0.0)
      (inr (f.1, λ w. (learnt.uses.anew w.0 w.1).1 (u, f.0.0, sym w.2))))

  frees_it : (u : Labelled) → FreesPinned past u
      → (verdict_from m (end_of u) ≡ GivesOf) × IsCoveredFrom m (end_of u)
  frees_it u f =
      let used : UseOf = record { label = u.label; token = u.token } in
      let in_use = standing.used_after script m past h learnt u f.0.0 in
      let there = learnt.uses.labels u in_use in
      let lock : Bool = is_lock u.token.kind in
      let here : is_labelled lock u.label used ≡ true = and_from (beq lock lock) (same_name u.label u.label)
      (mode_same lock lock refl) (name_same u.label) in
      let has : has_label m lock u.label ≡ true =
      or_left (list_any (is_labelled lock u.label) m.uses.labels) (ends_label lock u.label m.ending)
      (any_in (is_labelled lock u.label) m.uses.labels used there here) in
      let gives : gives_label m lock u.label ≡ true =
      or_left (list_any (λ v. is_labelled lock u.label v && is_last_pinned m.uses v) m.uses.labels)
      (ends_label lock u.label m.ending)
      (any_in (λ v. is_labelled lock u.label v && is_last_pinned m.uses v) m.uses.labels used there
      (and_from (is_labelled lock u.label used) (is_last_pinned m.uses used) here (last_pinned u f))) in (
        ap (verdict_from m) (end_is u.token.kind u.label (learnt.uses.kinds u in_use))
            ∙ verdict_so m (uses_are script m (h ∷ past) learnt) lock u.label has
            ∙ ap (λ (b : Bool). if b then GivesOf else FreesOf) gives,
        subst (CoverAll (held_of m)) (sym (ending.end_needs m u)) tt,
      )

  -- # The call of a step
  module _ (call : Call) (s : Step)
      (only : (k : ℕ) (other : Call) → HasCall past s k other → other ≡ call) where
    pub none_given : (verdict_from m call ≡ GivesOf → IsCoveredFrom m call → ⊥) → GivesForCall m past s
    none_given gives = record {
      syncs = λ k place fid t turn finds i at dirty.
          let r = syncs_it place fid t finds i at dirty in let is = only k (Sync place) turn in
          absurd (gives (subst (λ (x : Call). verdict_from m x ≡ GivesOf) is r.0) (subst (IsCoveredFrom m) is r.1));
      frees = λ k u turn f.
          let r = frees_it u f in let is = only k (end_of u) turn in
          absurd (gives (subst (λ (x : Call). verdict_from m x ≡ GivesOf) is r.0) (subst (IsCoveredFrom m) is r.1));
    }

    -- it is answered, asks a server, or lacks a token
    pub answered_gives : CanReply m call → GivesForCall m past s
    answered_gives can = none_given (λ v c. no_reply (verdict_from m call) can.reply can.settled v)

    pub asking_gives : (question : Question) → verdict_from m call ≡ AsksOf question → GivesForCall m past s
    asking_gives question asks = none_given (λ v c. no_ask (verdict_from m call) question asks v)

    pub lacking_gives : (need : Need) → IsLack m call need → GivesForCall m past s
    lacking_gives need lack = none_given (λ v c.
        (lacks_are_first (held_of m) (needs_from m call)).none c need lack)

    -- it gives back what has to be
    pub syncs_given : ((place : NamedPlace) (fid : Fid) (t : Token) → call ≡ Sync place → Finds m place fid
        → In t (held_of m) → t.fid ≡ fid → IsDirtyFrom m past t → Makes s t.id)
        → ((u : Labelled) → call ≡ end_of u → FreesPinned past u → (g : Give) × In g s.made × GivesUse g u)
        → GivesForCall m past s
    syncs_given syncs frees = record {
      syncs = λ k place fid t turn finds i at dirty.
          syncs place fid t (sym (only k (Sync place) turn)) finds i at dirty;
      frees = λ k u turn f. frees u (sym (only k (end_of u) turn)) f;
    }
