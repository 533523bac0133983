-- A call whose turn it is is a Sync of what is dirty: its tokens leave in a give-back, and the call is left open.
use Rattle.base_types.specs.Ids.{same_fid}
use Rattle.base_types.specs.Spans.{has_byte}
use Rattle.base_types.specs.declared.ids.Fid.{Fid}
use Rattle.base_types.specs.declared.ids.FilesetId.{FilesetId}
use Rattle.base_types.specs.declared.ids.Node.TheVariants.{Host}
use Rattle.base_types.specs.declared.limits.TheConstants.{FILE_BYTES_MAX}
use Rattle.host_cache.specs.Holding.{tokens_of}
use Rattle.host_cache.specs.Seen.{Kept, seen}
use Rattle.host_dirty.specs.Dirtiness.{is_dirty as is_dirty_in}
use Rattle.host_dirty.specs.declared.dirty.Dirty.{Dirty}
use Rattle.host_gives.proofs.Adding.{adds}
use Rattle.host_gives.specs.Counters.{last_of as last_counter}
use Rattle.host_gives.specs.Giving.{IsSound as IsSoundGives, after_add, gone, is_of_file, outstanding}
use Rattle.host_leaves.proofs.DirtyTokens.{at_file as file_at}
use Rattle.host_leaves.specs.Dirtying.{covers_left}
use Rattle.host_leaves.specs.Giving.{AreDirty, leaves_by, leaving_by, shown_without, with_length_of}
use Rattle.host_leaves.specs.Owning.{dirty_length, update_span}
use Rattle.host_leaves.specs.Sending.{message_to}
use Rattle.host_manager.proofs.Evicting.{updated_by, updates_it}
use Rattle.host_manager.proofs.Given.{left_dirty}
use Rattle.host_manager.proofs.GivesStep.{no_sync}
use Rattle.host_manager.proofs.Homely.{first_lack_in}
use Rattle.host_manager.proofs.LeftBy.{IsLeftBy, all_stay, left_by, stays_of}
use Rattle.host_manager.proofs.OneFile.{IsChosen, IsGiven, at_file}
use Rattle.host_manager.proofs.Running.{runs_on}
use Rattle.host_manager.proofs.Sizes.{length_fits, size_left}
use Rattle.host_manager.proofs.SyncSo.{covers_stay, decide_all, ok_first, status_covers, sync_from, sync_gives}
use Rattle.host_manager.proofs.SyncSo.{sync_needs}
use Rattle.host_manager.proofs.Turns.{IsTurn}
use Rattle.host_tables.proofs.Declared.{home_is}
use Rattle.host_tables.proofs.Lists.{any_in, by_test, fid_same, in_either, in_left, in_map, in_right, map_in}
use Rattle.host_tables.proofs.Lists.{same_fid_is, true_false}
use Rattle.host_tables.proofs.Outstanding.{outstanding_is}
use Rattle.host_tables.proofs.Resting.{give_rests, lack_rests}
use Rattle.host_tables.proofs.Tidy.{left_sound, tidy_stays}
use Rattle.host_tables.proofs.Updating.{reads_after}
use Rattle.host_tables.specs.CallGives.{LeavesFor}
use Rattle.host_tables.specs.CallGives.LeavesFor.{ForSync}
use Rattle.host_tables.specs.Drafts.{no_draft, step_of}
use Rattle.host_tables.specs.Giving.{GivesBack}
use Rattle.host_tables.specs.Half.{half, learning}
use Rattle.host_tables.specs.LeavingSteps.{LeavesRight, Left, with_left}
use Rattle.host_tables.specs.LeavingSteps.EndsBy.{EndsNone}
use Rattle.host_tables.specs.LeavingWhole.{SaysLeft}
use Rattle.host_tables.specs.LeavingWhole.SaysLeft.{OfGiven}
use Rattle.host_tables.specs.Letting.{Keeping}
use Rattle.host_tables.specs.Machine.{StepRight}
use Rattle.host_tables.specs.Quiet.{with_moved}
use Rattle.host_manager.specs.Running.{RunsOn}
use Rattle.host_tables.specs.Saying.{IsFirst}
use Rattle.host_tables.specs.Stands.{Finds, IsAtRest, IsCoveredFrom, IsDirtyFrom, IsLack, Stands, look_from}
use Rattle.host_tables.specs.Stands.{needs_from, verdict_from}
use Rattle.host_tables.specs.Stands.IsWaiting.{ForFile}
use Rattle.host_tables.specs.Tables.{content, has_dirty_byte, held_of, home_of, is_clean_file, is_length_clean}
use Rattle.host_tables.specs.Tables.{is_length_dirty, is_updating, length_given, own_of, site_at, updates_status}
use Rattle.host_tables.specs.Tidy.{IsOutgoing, IsTidy, IsTidyGive, IsTidyToken}
use Rattle.host_tables.specs.Updates.{home_at}
use Rattle.host_gives.specs.declared.leavings.Leaving.{Leaving}
use Rattle.host_tables.specs.declared.draft.Draft.{Draft}
use Rattle.host_lengths.specs.declared.given.Given.{Given}
use Rattle.host_tables.specs.declared.tables.Tables.{Tables}
use Rattle.message_types.specs.Soundness.{IsCall, IsEnd, IsServer, IsSound}
use Rattle.message_types.specs.declared.giving.Ends.{Ends}
use Rattle.message_types.specs.declared.giving.Give.{Give}
use Rattle.message_types.specs.declared.message.Body.TheVariants.{GiveBack}
use Rattle.message_types.specs.declared.message.Message.{Message}
use Rattle.need_host.proofs.Looking.{lack_alike, lacks_are_first, outcome_alike}
use Rattle.need_host.proofs.Showing.{shown_agree}
use Rattle.need_host.specs.Calls.{sync_look}
use Rattle.need_host.specs.Calls.Verdict.{Gives as GivesOf}
use Rattle.need_host.specs.Laws.{AgreeUnder}
use Rattle.need_host.specs.Looks.{CoverAll, IsCovered, IsFirstLack, Look, needs_of, outcome}
use Rattle.need_host.specs.Walks.{file_look, root_of}
use Rattle.run_rules.specs.Messages.{KeepsToken, ReturnsToken, home}
use Rattle.run_rules.specs.Past.{In}
use Rattle.run_rules.specs.Tokens.{GiveOpen, IsUseKind, LabelInUse, end_of}
use Rattle.run_rules.specs.Views.{UpdatesByte, byte_of, gives_at, is_dirty}
use Rattle.run_rules.specs.declared.applied.Leave.{Leave}
use Rattle.run_rules.specs.declared.applied.Why.TheVariants.{ForCall}
use Rattle.run_rules.specs.declared.step.Asked.{Asked}
use Rattle.run_rules.specs.declared.step.Cause.{Cause}
use Rattle.run_rules.specs.declared.step.Labelled.{Labelled}
use Rattle.run_rules.specs.declared.step.Step.{Step}
use Rattle.script_lines.specs.declared.script.Script.{Script}
use Rattle.std.proofs.Common.{Bool, List, None, Ok, Option, Result, Some, [], ap, arith, eq-eqb, eqb-true, false}
use Rattle.std.proofs.Common.{if◌then◌else◌, inl, inr, is_some, map, not, refl, subst, sym, true, ℕ, ◌&&◌}
use Rattle.std.proofs.Common.{◌++◌, ◌+◌, ◌==◌, ◌||◌, ◌∙◌, ◌∷◌, ◌≡◌, ◌≤◌, ◌⊎◌}
use Rattle.std.proofs.lemmas.Bool.{and_from, and_parts}
use Rattle.std.specs.List.{list_any}
use Rattle.std.specs.Option.{option_map_or}
use Rattle.std.specs.Prelude.{IfSome}
use Rattle.token_types.specs.Covers.{Covers}
use Rattle.token_types.specs.declared.token.Kind.{Kind}
use Rattle.token_types.specs.declared.token.Kind.TheVariants.{Bytes, Lock, Opening, Status}
use Rattle.token_types.specs.declared.token.Need.{Need}
use Rattle.token_types.specs.declared.token.Token.{Token}
use Rattle.token_types.specs.declared.token.TokenId.{TokenId}
use Rattle.tree_calls.specs.declared.call.Call.{Call}
use Rattle.tree_calls.specs.declared.call.Call.TheVariants.{Sync}
use Rattle.tree_calls.specs.declared.place.Place.{Place as NamedPlace}
use Rattle.tree_calls.specs.declared.reply.Refusal.{Refusal}
use Rattle.tree_laws.specs.Parts.{Nature}
use Rattle.tree_laws.specs.Parts.Part.{ByteAt, Size}
use Rattle.host_manager.proofs.Dues as dues_of
use Rattle.host_manager.proofs.OneFile as one_file
use Rattle.host_manager.proofs.TurnGives as turn_gives
use Rattle.host_tables.proofs.LeavingWhole as leaving_of
use Rattle.host_tables.proofs.Standing as standing

-- no byte is for changing under the token of a use, nor is a length
no_byte : (k : Kind) (at : ℕ) → IsUseKind k → option_map_or (λ span. has_byte span at) (update_span k) false ≡ true → ⊥
no_byte (Bytes update span) at u e = u
no_byte (Status update) at u e = u
no_byte (Lock writing span) at u e = cc
no_byte (Opening kind) at u e = cc

no_status : (k : Kind) → IsUseKind k → updates_status k ≡ true → ⊥
no_status (Bytes update span) u e = u
no_status (Status update) u e = u
no_status (Lock writing span) u e = cc
no_status (Opening kind) u e = cc

cover_in : (held : List Token) (needs : List Need) → CoverAll held needs → (n : Need) → In n needs → Covers held n
cover_in held [] all n i = elim i [ ]
cover_in held (x ∷ xs) all n (inl e) = subst (Covers held) (sym e) all.0
cover_in held (x ∷ xs) all n (inr i) = cover_in held xs all.1 n i

module _ (script : Script) (old m : Tables) (past : List Step) (cause : Cause) (came : List Token)
    (dues : List FilesetId) (c : Asked) (first : Bool) (turn : IsTurn script old m past cause came dues c first)
    (sound_m : IsSoundGives m.gives) (place : NamedPlace) (call_is : c.call ≡ Sync place)
    (covered : IsCoveredFrom m c.call) (verdict : verdict_from m c.call ≡ GivesOf) (fid : Fid)
    (finds : Finds m place fid) where
  abbrev call : Call
  call = c.call

  abbrev h : Step
  h = learning m.host cause came

  pub stands : Stands script m (h ∷ past)
  stands = turn.learnt

  no_end_call : (u : Labelled) → call ≡ end_of u → ⊥
  no_end_call u e = no_sync u.token.kind u.label place (sym e ∙ call_is)

  same_place : (other : NamedPlace) → call ≡ Sync other → place ≡ other
  same_place other e = let p : Sync place ≡ Sync other = sym call_is ∙ e in cc

  dirty_was : (f : Fid) (at : ℕ) → is_dirty_in m.dirty f at ≡ is_dirty past f at
  dirty_was f at = stands.dirty.bytes f at ∙ standing.dirty_is script m past h stands f at

  -- # Tokens leave
  module _ (tokens : List Token) (are : AreDirty m fid tokens) (lead : Token) (has_lead : In lead tokens)
      (cache : Kept) (dirty : Dirty) (g : Give) (given : IsGiven m fid tokens tokens g) (no_end : g.ends ≡ None)
      (cleans : (other : Fid) (at : ℕ) → is_dirty_in dirty other at
      ≡ (is_dirty_in m.dirty other at && not (same_fid fid other && covers_left m fid tokens tokens at)))
      (shown : seen cache ≡ shown_without (seen m.cache) tokens) (all : List FilesetId)
      (more : (fs : FilesetId) → In fs dues → In fs all)
      (has_due : outstanding m.gives g.fid.fileset ≡ None → In g.fid.fileset all) where
    abbrev message : Message
    message = message_to m (home_at g.fid.fileset) (GiveBack g)

    abbrev pub l : Left
    l = record {
      cache = cache;
      dirty = dirty;
      lengths = with_length_of g.fid g.number g.length m.lengths;
      uses = m.uses;
      gives = after_add m.gives message;
      leaving = m.leaving ++ map (leaving_by g.fid.fileset g.number) tokens;
      ending = m.ending;
    }

    abbrev pub x : Tables
    x = with_moved (with_left m l) (turn_gives.moved script old m past cause came dues c first turn l [] [] [])

    of_file : (t : Token) → In t tokens → In t (held_of m) × (t.fid ≡ fid)
    of_file t i = file_at m fid t (are.from t i).0

    all_chosen : IsChosen m fid tokens tokens
    all_chosen = record { test = λ t. true; some = all_stay tokens; has = λ t i h. refl }

    kept : IsLeftBy m.cache cache tokens
    kept = left_by m.cache cache tokens shown stands.cache.tells stands.contents.zero

    file_is : g.fid ≡ fid
    file_is = given.file

    fileset_is : g.fid.fileset ≡ fid.fileset
    fileset_is = ap (λ (f : Fid). f.fileset) file_is

    tidy_first : IsTidyToken script.roster m.host lead
    tidy_first = turn.tidy.held lead (of_file lead has_lead).0

    declared : IsServer script.roster (home g.fid.fileset)
    declared = subst (λ (f : Fid). IsServer script.roster (home f.fileset)) ((of_file lead has_lead).1 ∙ sym file_is)
        tidy_first.declared

    pub at_home : home_at g.fid.fileset ≡ home g.fid.fileset
    at_home = home_is script.roster m turn.tidy g.fid.fileset declared

    pub number : g.number ≡ last_counter m.gives.counters g.fid.fileset + 1
    number =
        let e = ap (λ (f : Fid). last_counter m.gives.counters f.fileset) file_is in
        let n = given.number in omega (arith, e, n)

    id_in : (i : TokenId) → In i g.ids → (t : Token) × In t tokens × (t.id ≡ i)
    id_in i n =
        let r = in_map (λ (t : Token). t.id) tokens i (subst (λ (is : List TokenId). In i is) given.ids n) in
        (r.0, r.1, sym r.2)

    named_in : (t : Token) → In t tokens → In t.id g.ids
    named_in t i = subst (λ (is : List TokenId). In t.id is) (sym given.ids) (map_in (λ (u : Token). u.id) tokens t i)

    -- # Bytes
    abbrev covers : ℕ → Bool
    covers at = covers_left m fid tokens tokens at

    has_covers : (at : ℕ) → is_dirty_in m.dirty fid at ≡ true → is_some (byte_of g.pieces at) ≡ covers at
    has_covers at e =
        ap (λ (o : Option ℕ). is_some o) (given.pieces.bytes at)
        ∙ ap (λ (b : Bool). is_some (if b && covers at then Some (content m.cache fid (ByteAt at)) else None)) e
        ∙ some_if (covers at)
      where
        some_if : (b : Bool) → is_some (if b then Some (content m.cache fid (ByteAt at)) else None) ≡ b
        some_if true = refl
        some_if false = refl

    length_of : (o : Option ℕ) → g.length ≡ o → (other : Fid) → ((n : ℕ) → g.length ≡ Some n → g.fid ≡ other → ⊥)
        → length_given (with_length_of g.fid g.number o m.lengths) other ≡ length_given m.lengths other
    length_of None e other none = refl
    length_of (Some n) e other none =
        let differs : same_fid g.fid other ≡ false = elim (by_test (same_fid g.fid other)) [
          | inl q ↦ absurd (none n e (same_fid_is g.fid other q))
          | inr q ↦ q
        ] in
        reads_after.lengths m.lengths (record { fid = g.fid; number = g.number; length = n; known = false }) other
        ∙ ap (λ (b : Bool). if b then Some (record { fid = g.fid; number = g.number; length = n; known = false })
        else length_given m.lengths other) differs

    length_new : (o : Option ℕ) (n : ℕ) → o ≡ Some n
        → length_given (with_length_of g.fid g.number o m.lengths) g.fid
        ≡ Some (record { fid = g.fid; number = g.number; length = n; known = false })
    length_new None n e = absurd (cc)
    length_new (Some k) n e =
        let q : k ≡ n = cc in
        reads_after.lengths m.lengths (record { fid = g.fid; number = g.number; length = k; known = false }) g.fid
        ∙ ap (λ (b : Bool). if b then Some (record { fid = g.fid; number = g.number; length = k; known = false })
        else length_given m.lengths g.fid) (fid_same g.fid g.fid refl)
        ∙ ap (λ (z : ℕ). Some (record { fid = g.fid; number = g.number; length = z; known = false })) q

    -- # Counters
    last_added : (fs : FilesetId) → last_counter l.gives.counters fs
        ≡ (if g.fid.fileset.0 == fs.0 then g.number else last_counter m.gives.counters fs)
    last_added fs = (adds m.gives message g).last fs

    last_here : last_counter l.gives.counters g.fid.fileset ≡ g.number
    last_here = last_added g.fid.fileset
        ∙ ap (λ (b : Bool). if b then g.number else last_counter m.gives.counters g.fid.fileset)
        (eq-eqb g.fid.fileset.0 g.fid.fileset.0 refl)

    last_cases : (fs : FilesetId) → (last_counter l.gives.counters fs ≡ last_counter m.gives.counters fs)
        ⊎ ((g.fid.fileset ≡ fs) × (last_counter l.gives.counters fs ≡ g.number))
    last_cases fs = elim (by_test (g.fid.fileset.0 == fs.0)) [
      | inl e ↦
          let n = eqb-true g.fid.fileset.0 fs.0 e in
          inr (
            (λ i. record { 0 = n i }),
            last_added fs ∙ ap (λ (b : Bool). if b then g.number else last_counter m.gives.counters fs) e,
          )
      | inr n ↦ inl (last_added fs ∙ ap (λ (b : Bool). if b then g.number else last_counter m.gives.counters fs) n)
    ]

    kept_from : (t : Token) → In t (tokens_of cache.held) → In t (held_of m) × (In t tokens → ⊥)
    kept_from t i = one_file.kept_from m fid tokens tokens stands.cache.once of_file all_chosen cache kept t i

    tidy_g : IsTidyGive script.roster g
    tidy_g = record {
      from = let n = number in omega (arith, n);
      declared = declared;
      issued = λ i j.
          let r = id_in i j in
          let f = of_file r.0 r.1 in
          ap (λ (z : TokenId). z.server) (sym r.2) ∙ (turn.tidy.held r.0 f.0).issued
          ∙ ap (λ (z : Fid). home z.fileset) (f.1 ∙ sym file_is);
      bytes = given.pieces.fit;
      size = subst (λ (o : Option ℕ). IfSome o (λ n. n ≤ FILE_BYTES_MAX)) (sym given.length)
          (length_fits script.roster m turn.tidy fid);
      ends = subst (λ (o : Option Ends). IfSome o (λ (e : Ends). IsEnd e.call)) (sym no_end) tt;
    }

    tidy_l : IsTidy script.roster (with_left m l)
    tidy_l = tidy_stays script.roster m (with_left m l) turn.tidy (record {
      host_is = refl;
      servers = refl;
      held = λ w i. inl (kept_from w i).0;
      sizes = size_left m.cache cache tokens shown;
      leaving = λ y i. elim (in_either m.leaving (map (leaving_by g.fid.fileset g.number) tokens) y i) [
        | inl j ↦ inl j
        | inr j ↦
            let r = in_map (leaving_by g.fid.fileset g.number) tokens y j in
            inr (subst (λ (u : Token). In u (held_of m)) (sym (ap (λ (z : Leaving). z.token) r.2)) (of_file r.0 r.1).0)
      ];
      gives = λ y k i e. elim (in_either m.gives.gives (message ∷ []) y i) [
        | inl j ↦ inl j
        | inr j ↦ elim j [
          | inl q ↦
              let p : GiveBack g ≡ GiveBack k = ap (λ (z : Message). z.body) (sym q) ∙ e in
              let is : g ≡ k = cc in inr (subst (IsTidyGive script.roster) is tidy_g)
          | inr n ↦ elim n [ ]
        ]
      ];
      fetch = λ f e. inl e;
      change = λ v d e. inl e;
      call = λ d e. inl e;
      homes = λ h i. inl i;
      floors = λ f i. inl i;
    })

    tidy_x : IsTidy script.roster x
    tidy_x = tidy_stays script.roster (with_left m l) x tidy_l (record {
      host_is = refl;
      servers = refl;
      held = λ w i. inl i;
      sizes = λ f. inl refl;
      leaving = λ y i. inl i;
      gives = λ y k i e. inl i;
      fetch = λ f e. inl e;
      change = λ v d e. inl e;
      call = λ d e. inr (let p : c ≡ d = cc in subst (λ (z : Asked). IsCall script.roster z.call) p turn.askable);
      homes = λ h i. inl i;
      floors = λ f i. inl i;
    })

    pub homes : (k : Give) → IsFirst l.gives k → home_at k.fid.fileset ≡ home k.fid.fileset
    homes k one = home_is script.roster m turn.tidy k.fid.fileset
        (tidy_l.gives one.message k one.within one.body).declared

    module _ (sound_l : IsSoundGives l.gives) where
      abbrev start : Draft
      start = record no_draft {
        asked = if first then Some c else None;
        taken = came;
        made = g ∷ [];
        dropped = map (leaves_by ForCall) tokens;
        due = all;
      }

      abbrev pub after : Draft
      after = dues_of.sending script old m past cause came dues c first turn sound_m l x refl sound_l g number homes
          all more has_due start refl

      abbrev pub s : Step
      s = turn_gives.s script old m past cause came dues c first turn l (g ∷ []) (map (leaves_by ForCall) tokens)
          after.sent

      pub step_is : step_of (Host m.host) cause after ≡ s
      step_is = ap (step_of (Host m.host) cause)
          (dues_of.only script old m past cause came dues c first turn sound_m l x refl sound_l g number homes all
          more has_due start refl)

      abbrev d_s : Draft
      d_s = turn_gives.d_g script old m past cause came dues c first turn l (g ∷ []) (map (leaves_by ForCall) tokens)
          after.sent

      learnt : Stands script m (half s ∷ past)
      learnt = turn.learnt

      said : (y : Message) → In y after.sent → (fs : FilesetId) × (z : Message) × (outstanding l.gives fs ≡ Some z)
          × (y ≡ message_to x (home_at fs) z.body)
      said = dues_of.said script old m past cause came dues c first turn sound_m l x refl sound_l g number homes all
          more has_due start refl

      gives_back_said : (y : Message) → In y after.sent → (k : Give) × (y.body ≡ GiveBack k) × IsFirst l.gives k
          × (home_at k.fid.fileset ≡ y.server)
      gives_back_said y i =
          let r = said y i in
          let k = outstanding_is l.gives sound_l r.0 r.1 r.2 in
          (k.0, ap (λ (z : Message). z.body) r.3 ∙ k.1, k.3, ap home_at k.2 ∙ sym (ap (λ (z : Message). z.server) r.3))

      none_kept : (i : TokenId) → KeepsToken s i → ⊥
      none_kept i k = let p = sym (gives_back_said k.4.0 k.4.1).1 ∙ k.4.5 in absurd (cc)

      none_returned : (i : TokenId) → ReturnsToken s i → ⊥
      none_returned i k = let p = sym (gives_back_said k.4.0 k.4.1).1 ∙ k.4.5 in absurd (cc)

      only_g : (k : Give) → In k s.made → k ≡ g
      only_g k (inl e) = e
      only_g k (inr n) = elim n [ ]

      right : LeavesRight m l past s
      right = record {
        stays = stays_of tokens;
        held_is = kept.held;
        content_is = kept.content_is;
        beyond = kept.beyond;
        dirty = λ other at.
            cleans other at
            ∙ left_dirty (is_dirty_in m.dirty other at) (same_fid fid other) (covers at) (is_some (byte_of g.pieces at))
            (λ d e. has_covers at (subst (λ (f : Fid). is_dirty_in m.dirty f at ≡ true)
            (sym (same_fid_is fid other e)) d))
            ∙ ap (λ (f : Fid). is_dirty_in m.dirty other at
            && not ((same_fid f other && is_some (byte_of g.pieces at)) || false)) (sym file_is);
        length_new = λ k n i e.
            let q = only_g k i in
            subst (λ (z : Give). length_given l.lengths z.fid
            ≡ Some (record { fid = z.fid; number = z.number; length = n; known = false })) (sym q)
            (length_new g.length n (ap (λ (z : Give). z.length) (sym q) ∙ e));
        length_old = λ other none. length_of g.length refl other (λ n e at. none g (inl refl) (at, (n, e)));
        keeps_label = λ u. true;
        labels_are = all_stay m.uses.labels;
        label_kept = λ u i none. refl;
        label_gone = λ u e k i gives.
            let p = sym no_end ∙ ap (λ (z : Give). z.ends) (sym (only_g k i)) ∙ gives.1 in absurd (cc);
        pinned = λ i e. inl e;
        pins = λ u j e. elim e [ inl p ↦ p | inr k ↦ absurd (none_kept u.token.id k) ];
        gives_from = λ y i. elim (in_either m.gives.gives (message ∷ []) y i) [
          | inl j ↦ inl j
          | inr j ↦ elim j [ inl e ↦ inr (g, ap (λ (z : Message). z.body) e, inl refl) | inr n ↦ elim n [ ] ]
        ];
        gives_old = λ y i. in_left m.gives.gives (message ∷ []) y i;
        gives_new = λ k i. (
          message,
          in_right m.gives.gives (message ∷ []) message (inl refl),
          ap GiveBack (sym (only_g k i)),
        );
        last_up = λ fs. elim (last_cases fs) [
          | inl e ↦ omega (arith, e)
          | inr r ↦
              let q = ap (λ (z : FilesetId). last_counter m.gives.counters z) r.0 in let e = r.1 in
              omega (arith, q, e, number)
        ];
        last_new = λ k i. subst (λ (z : Give). z.number ≤ last_counter l.gives.counters z.fid.fileset)
            (sym (only_g k i))
            (let e = last_here in omega (arith, e));
        last_is = λ fs. elim (last_cases fs) [ inl e ↦ inl e | inr r ↦ inr (g, inl refl, r.0, sym r.1) ];
        leaving_old = λ y i. in_left m.leaving (map (leaving_by g.fid.fileset g.number) tokens) y i;
        leaving_new = λ k u i j n.
            let q = only_g k i in
            let r = id_in u.id (subst (λ (z : Give). In u.id z.ids) q n) in
            let same : u ≡ r.0 = stands.cache.once u r.0 j (of_file r.0 r.1).0 (sym r.2) in
            in_right m.leaving (map (leaving_by g.fid.fileset g.number) tokens)
            (record { fileset = k.fid.fileset; number = k.number; token = u })
            (subst (λ (z : Give × Token). In (record { fileset = z.0.fid.fileset; number = z.0.number; token = z.1 })
            (map (leaving_by g.fid.fileset g.number) tokens)) (λ z. (sym q z, sym same z))
            (map_in (leaving_by g.fid.fileset g.number) tokens r.0 r.1));
        leaving_from = λ y i. elim (in_either m.leaving (map (leaving_by g.fid.fileset g.number) tokens) y i) [
          | inl j ↦ inl j
          | inr j ↦
              let r = in_map (leaving_by g.fid.fileset g.number) tokens y j in
              let t_is = ap (λ (z : Leaving). z.token) r.2 in
              inr (
                g,
                inl refl,
                subst (λ (u : Token). In u (held_of m)) (sym t_is) (of_file r.0 r.1).0,
                subst (λ (u : Token). In u.id g.ids) (sym t_is) (named_in r.0 r.1),
                ap (λ (z : Leaving). z.fileset) r.2,
                ap (λ (z : Leaving). z.number) r.2,
              )
        ];
        ends = EndsNone (λ k ends i e.
            let p = sym no_end ∙ ap (λ (z : Give). z.ends) (sym (only_g k i)) ∙ e in absurd (cc)) refl;
        labels = record { locks = stands.labels.locks; opens = stands.labels.opens };
      }

      its : (k : Give) → In k s.made → IsGiven m fid tokens tokens k
      its k i = subst (IsGiven m fid tokens tokens) (sym (only_g k i)) given

      same : (k j : Give) → In k s.made → In j s.made → k ≡ j
      same k j a b = only_g k a ∙ sym (only_g j b)

      some : (w : Token) → In w tokens → (k : Give) × In k s.made
      some w i = (g, inl refl)

      none : (k : Give) → In k s.made → tokens ≡ [] → ⊥
      none k i e = elim (subst (λ (ts : List Token). In lead ts) e has_lead) [ ]

      keeping : Keeping m past s (tokens_of cache.held)
      keeping = one_file.keeping m fid tokens tokens stands.cache.once of_file all_chosen cache kept past s its same
          some
          none
          (λ w d.
          let r = in_map (leaves_by ForCall) tokens d.0 d.1 in
          subst (λ (z : Token). In z tokens) (sym (ap (λ (z : Leave). z.token) r.2) ∙ d.2) r.1)
          (λ w i. (leaves_by ForCall w, map_in (leaves_by ForCall) tokens w i, refl))
          (λ w i r. none_returned w.id r) (λ w i n. absurd (n i))

      -- no label is for a token that leaves
      unused : (u : Labelled) → LabelInUse past u → In u.token.id g.ids → ⊥
      unused u used i =
          let r = id_in u.token.id i in
          let now = standing.used_after script m past h stands u used in
          let held = stands.cache.cached u.token (stands.uses.held u now) in
          let is : r.0 ≡ u.token = stands.cache.once r.0 u.token (of_file r.0 r.1).0 held r.2 in
          let kind = subst (λ (z : Token). IsUseKind z.kind) (sym is) (stands.uses.kinds u now) in
          elim (are.from r.0 r.1).1 [
            | inl b ↦ no_byte r.0.kind b.0 kind b.2
            | inr b ↦ no_status r.0.kind kind b.0
          ]

      gives : GivesBack m past s (tokens_of cache.held)
      gives = one_file.gives_back m fid tokens tokens stands.cache.once of_file all_chosen cache kept past s its same
          some
          none
          (λ k e i q.
          let p = sym no_end ∙ ap (λ (z : Give). z.ends) (sym (only_g k i)) ∙ q in absurd (cc))
          (λ k u i used n. absurd (unused u used (subst (λ (z : Give). In u.token.id z.ids) (only_g k i) n)))
          (dues_of.sends script old m past cause came dues c first turn sound_m l x refl sound_l g number homes all
          more has_due start refl d_s refl refl
          right)

      -- # The host rests
      stays_held : (t : Token) → In t (held_of m) → (t.fid ≡ fid → ⊥) → In t (tokens_of cache.held)
      stays_held t i other = elim (keeping.gone t i) [
        | inl j ↦ j
        | inr gone ↦
            let d = gone.1 in
            let r = in_map (leaves_by ForCall) tokens d.0 d.1 in
            absurd (other ((of_file t (subst (λ (z : Token). In z tokens)
            (sym (ap (λ (z : Leave). z.token) r.2) ∙ d.2) r.1)).1))
      ]

      agree : AgreeUnder (tokens_of cache.held) (content cache) (content m.cache)
      agree = shown_agree (tokens_of cache.held) (content cache) (content m.cache) kept.content_is kept.beyond

      abbrev look : Look (Result (Fid × Nature) Refusal)
      look = file_look m.user (root_of finds.id) place.path

      look_x : look_from x call ≡ sync_look (own_of x) m.user (root_of finds.id) place.path
      look_x = ap (look_from x) call_is ∙ sync_from x place finds.id finds.seen

      needs_x : needs_from x call ≡ needs_of (content cache) look
      needs_x = ap (needs_of (content cache)) look_x ∙ sync_needs (own_of x) m.user (content cache) (root_of finds.id)
          place.path

      give_open : GiveOpen (s ∷ past) fid
      give_open = (g, inl (inl refl), file_is, leaving_of.unknown script m l past s learnt right gives g (inl refl))

      -- what is lacked is of the file
      lacks_file : (need : Need) → IsFirstLack (tokens_of cache.held) (needs_of (content cache) look) need
          → need.fid ≡ fid
      lacks_file need lack =
          let before = lack_alike (tokens_of cache.held) (content cache) (content m.cache) agree look need lack in
          let there = cover_in (held_of m) (needs_of (content m.cache) look) finds.covered need
          (first_lack_in (tokens_of cache.held) (needs_of (content m.cache) look) need before) in
          elim (by_test (same_fid need.fid fid)) [
            | inl t ↦ same_fid_is need.fid fid t
            | inr f ↦ absurd ((lacks_are_first (tokens_of cache.held) (needs_of (content m.cache) look)).lacked need
                before
                (covers_stay (held_of m) (tokens_of cache.held) fid stays_held need
                (λ e. true_false (same_fid need.fid fid) (fid_same need.fid fid e) f) there))
          ]

      -- in x the Sync gives back still
      of_message : is_of_file fid message ≡ true
      of_message = fid_same g.fid fid file_is

      unclean : is_clean_file x fid ≡ false
      unclean =
          ap (λ (b : Bool). not (has_dirty_byte x.dirty fid)
          && not (is_length_dirty (held_of x) x.lengths (content x.cache) fid) && not b)
          (any_in (is_of_file fid) l.gives.gives message
          (in_right m.gives.gives (message ∷ []) message (inl refl)) of_message)
          ∙ none_true (not (has_dirty_byte x.dirty fid))
          (not (is_length_dirty (held_of x) x.lengths (content x.cache) fid))
        where
          none_true : (a b : Bool) → (a && b && false) ≡ false
          none_true true true = refl
          none_true true false = refl
          none_true false b = refl

      verdict_x : CoverAll (tokens_of cache.held) (needs_of (content cache) look) → verdict_from x call ≡ GivesOf
      verdict_x all =
          ap (outcome (content cache)) look_x
          ∙ sync_gives x place.path finds.id fid finds.nature
          (outcome_alike (tokens_of cache.held) (content cache) (content m.cache) agree look all ∙ finds.found) unclean

      -- what is dirty under a token that is left was dirty, and would have left
      none_dirty : (t : Token) → In t (tokens_of cache.held) → t.fid ≡ fid → IsDirtyFrom x (s ∷ past) t → ⊥
      none_dirty t i at (inl b) =
          let k = kept_from t i in
          let was : is_dirty past t.fid b.0 ≡ true =
          (and_parts (is_dirty past t.fid b.0) (not (gives_at s t.fid b.0)) b.1.1).0 in
          k.1 (are.all t (at_file m fid t k.0 at) (inl (
            b.0,
            dirty_was fid b.0 ∙ ap (λ (f : Fid). is_dirty past f b.0) (sym at) ∙ was,
            updated_by t t.fid b.0 b.1.0,
          )))
      none_dirty t i at (inr b) =
          let k = kept_from t i in
          k.1 (are.all t (at_file m fid t k.0 at) (inr (b.0, length_dirty)))
        where
          updating : list_any (is_updating fid) (held_of m) ≡ true
          updating = any_in (is_updating fid) (held_of m) t (kept_from t i).0
              (and_from (same_fid t.fid fid) (updates_status t.kind) (fid_same t.fid fid at) b.0)

          -- its status is covered still, so the length is as it was
          size_same : content cache fid Size ≡ content m.cache fid Size
          size_same = agree fid Size (status_covers t fid (tokens_of cache.held) i at b.0)

          length_dirty : is_some (dirty_length m fid) ≡ true
          length_dirty = elim (by_test (is_length_clean m.lengths (content m.cache) fid)) [
            | inr n ↦ ap (λ (q : Bool × Bool). is_some
                (if q.0 && not q.1 then Some (content m.cache fid Size) else None))
                (λ z. (updating z, n z))
            | inl tidied ↦
                let none : g.length ≡ None = given.length
                ∙ ap (λ (q : Bool × Bool). if q.0 && not q.1 then Some (content m.cache fid Size) else None)
                (λ z. (updating z, tidied z)) in
                let same : is_length_clean x.lengths (content cache) t.fid ≡ true =
                ap (λ (f : Fid). is_length_clean x.lengths (content cache) f) at
                ∙ ap (λ (o : Option Given). option_map_or
                (λ (w : Given). (w.length == content cache fid Size) && w.known)
                o false)
                (length_of g.length refl fid (λ n e q. let p = sym none ∙ e in absurd (cc)))
                ∙ ap (λ (n : ℕ). option_map_or (λ (w : Given). (w.length == n) && w.known) (length_given m.lengths fid)
                false) size_same ∙ tidied in
                absurd (true_false (is_length_clean x.lengths (content cache) t.fid) same b.1)
          ]

      rest : IsAtRest x (s ∷ past)
      rest = elim (decide_all (tokens_of cache.held) (needs_of (content cache) look)) [
        | inl all ↦
            give_rests x (s ∷ past) c g refl (verdict_x all)
            (subst (CoverAll (tokens_of cache.held)) (sym needs_x) all) (inl (inl refl))
            (leaving_of.unknown script m l past s learnt right gives g (inl refl))
            (λ other found t e f i at d.
            let p = same_place other e in
            let f_p = subst (λ (z : NamedPlace). Finds x z found) (sym p) f in
            none_dirty t i (at ∙ found_same f_p.id found f_p.nature f_p.seen f_p.covered f_p.found) d)
            (λ u e f. no_end_call u e)
        | inr r ↦
            let lack : IsLack x call r.0 =
            subst (λ (ns : List Need). IsFirstLack (tokens_of cache.held) ns r.0) (sym needs_x) r.1 in
            lack_rests x (s ∷ past) c r.0 refl lack (ForFile r.0 lack
            (subst (GiveOpen (s ∷ past)) (sym (lacks_file r.0 r.1)) give_open))
      ]
        where
          found_same : (id : FilesetId) (found : Fid) (nature : Nature)
              → home_of m.homes place.server place.fileset ≡ Some id
              → IsCovered (tokens_of cache.held) (content cache) (file_look m.user (root_of id) place.path)
              → outcome (content cache) (file_look m.user (root_of id) place.path) ≡ Ok (found, nature) → found ≡ fid
          found_same id found nature seen all e =
              let p : Some id ≡ Some finds.id = sym seen ∙ finds.seen in
              let q : id ≡ finds.id = cc in
              ok_first found fid nature finds.nature (sym (sym (outcome_alike (tokens_of cache.held) (content cache)
              (content m.cache) agree (file_look m.user (root_of id) place.path) all) ∙ e)
              ∙ ap (λ (z : FilesetId). outcome (content m.cache) (file_look m.user (root_of z) place.path)) q
              ∙ finds.found)

      -- # What it sends is sound
      sound_y : (y : Message) → In y after.sent → IsSound script.roster y
      sound_y y i =
          let r = said y i in
          let k = gives_back_said y i in
          let d = (tidy_l.gives k.2.message k.0 k.2.within k.2.body).declared in
          let to : home k.0.fid.fileset ≡ y.server = sym (home_is script.roster m turn.tidy k.0.fid.fileset d) ∙ k.3 in
          left_sound script.roster m l s y turn.tidy tidy_l
          (subst (IsOutgoing m) (sym r.3) (record { way = refl; host_is = refl; no_moves = refl; epoch_is = refl }))
          (subst (IsServer script.roster) to d)
          (subst (SaysLeft m l s y.server) (sym k.1) (OfGiven k.0 k.2 to))

      right_step : StepRight script old x past s
      right_step = turn_gives.gives_right script old m past cause came dues c first turn l (g ∷ [])
          (map (leaves_by ForCall) tokens) after.sent
          covered verdict g (inl refl)
          (λ d i.
          let r = in_map (leaves_by ForCall) tokens d i in
          let t_is = ap (λ (z : Leave). z.token) r.2 in
          let f = of_file r.0 r.1 in (
            ap (λ (z : Leave). z.why) r.2,
            subst (λ (z : Token). LeavesFor m past c.call z) (sym t_is)
                (ForSync place call_is (subst (Finds m place) (sym f.1) finds) f.0 (dirty_then r.0 r.1)),
          ))
          right keeping gives
          (λ y i.
          let r = said y i in
          let k = gives_back_said y i in (
            ap (λ (z : Message). z.epoch) r.3
                ∙ ap (λ v. (site_at m.sites v).epoch) (sym (ap (λ (z : Message). z.server) r.3)),
            ap (λ (z : Message). z.moves) r.3,
            (k.0, k.2, sym (homes k.0 k.2) ∙ k.3, k.1),
          ))
          (dues_of.due script old m past cause came dues c first turn sound_m l x refl sound_l g number homes all more
          has_due start refl d_s refl refl right) rest
        where
          dirty_then : (t : Token) → In t tokens → IsDirtyFrom m past t
          dirty_then t i =
              let f = of_file t i in
              elim (are.from t i).1 [
                | inl b ↦ inl (
                  b.0,
                  (
                    subst (λ (z : Fid). UpdatesByte t z b.0) refl (updates_it t b.0 b.2),
                    sym (ap (λ (z : Fid). is_dirty past z b.0) (sym f.1)) ∙ sym (dirty_was fid b.0) ∙ b.1,
                  ),
                )
                | inr b ↦ inr (
                  b.0,
                  ap (λ (z : Fid). is_length_clean m.lengths (content m.cache) z) f.1
                      ∙ not_clean (list_any (is_updating fid) (held_of m))
                      (is_length_clean m.lengths (content m.cache) fid) b.1,
                )
              ]
            where
              not_clean : (a b : Bool)
                  → is_some (if a && not b then Some (content m.cache fid Size) else None) ≡ true → b ≡ false
              not_clean true false e = refl
              not_clean true true e = absurd (cc)
              not_clean false b e = absurd (cc)

      pub runs : RunsOn script old x past s
      runs = runs_on script old x past s right_step (sym turn.host) tidy_x
          (λ u e. absurd (no_end_call u (turn.ending u e).1)) (λ d e busy. absurd (busy turn.idle))
          (λ v e. absurd (turn.no_bye v e)) sound_y
