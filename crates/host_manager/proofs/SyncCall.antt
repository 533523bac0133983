-- A Sync whose turn it is gives back: tokens leave for it, or it waits for what was given back already.
use Rattle.base_types.specs.Ids.{same_fid}
use Rattle.base_types.specs.Spans.{has_byte}
use Rattle.base_types.specs.declared.ids.Fid.{Fid}
use Rattle.base_types.specs.declared.ids.FilesetId.{FilesetId}
use Rattle.base_types.specs.declared.ids.Node.TheVariants.{Host}
use Rattle.base_types.specs.declared.span.Span.{Span}
use Rattle.host_asks.specs.Asking.{Doing, doing}
use Rattle.host_cache.specs.Seen.{Seen, seen}
use Rattle.host_calls.specs.Looking.{AreUses, LeadsSo, Walked, WalksSo, path_look}
use Rattle.host_calls.specs.declared.looking.Verdict.TheVariants.{Syncs}
use Rattle.host_dirty.specs.Dirtiness.{is_dirty as is_dirty_in, spans_of}
use Rattle.host_gives.specs.Counters.{last_of as last_counter}
use Rattle.host_gives.specs.Giving.{IsSound as IsSoundGives, is_of_file, outstanding}
use Rattle.host_labels.specs.Labels.{IsSound as IsSoundUses}
use Rattle.host_leaves.proofs.DirtyTokens.{at_file as file_at}
use Rattle.host_leaves.specs.Giving.{AreDirty, IsDirtyUnder, LeavesDirty, LeavesGiven, LeavesWhere, leaves_by}
use Rattle.host_leaves.specs.Giving.{shown_without}
use Rattle.host_leaves.specs.Sending.{message_to, sending_due, with_once}
use Rattle.host_manager.proofs.CallDue.{syncs_given}
use Rattle.host_manager.proofs.EndDue.{tokens_left}
use Rattle.host_manager.proofs.Evicting.{updated_by}
use Rattle.host_manager.proofs.GivesStep.{no_sync}
use Rattle.host_manager.proofs.NewGive.{all_fresh, all_once}
use Rattle.host_manager.proofs.OneFile.{IsGiven, at_file}
use Rattle.host_manager.proofs.Repeated.{with_once_has, with_once_keeps}
use Rattle.host_manager.proofs.Running.{uses_are}
use Rattle.host_manager.proofs.SyncSo.{finds_same, found_sync, ok_first, only_sync}
use Rattle.host_manager.proofs.ComesOut.{comes_out}
use Rattle.host_manager.proofs.TurnDue.{IsTurnDue, draft_due, opens_it}
use Rattle.host_manager.proofs.Turns.{IsTurn, at_turn, turn_draft}
use Rattle.host_manager.specs.Running.{RunsOn}
use Rattle.host_tables.proofs.Lists.{any_in, by_test, false_not, fid_same, in_any, in_map, map_in, same_fid_is}
use Rattle.host_tables.proofs.Lists.{true_false}
use Rattle.host_tables.proofs.Resting.{give_rests}
use Rattle.host_tables.specs.Answering.{GivesForCall}
use Rattle.host_tables.specs.Drafts.{step_of}
use Rattle.host_tables.specs.Half.{learning}
use Rattle.host_tables.specs.Stands.{Finds, IsAtRest, IsCoveredFrom, IsDirtyFrom, Stands, look_from, verdict_from}
use Rattle.host_tables.specs.Tables.{content, has_dirty_byte, held_of, is_clean_file, is_length_clean}
use Rattle.host_tables.specs.Tables.{is_length_dirty, is_updating, updates_status}
use Rattle.host_tables.specs.Updates.{home_at}
use Rattle.host_tables.specs.declared.draft.Draft.{Draft}
use Rattle.host_tables.specs.declared.tables.Tables.{Tables}
use Rattle.message_types.specs.declared.giving.Give.{Give}
use Rattle.message_types.specs.declared.message.Body.TheVariants.{GiveBack}
use Rattle.message_types.specs.declared.message.Message.{Message}
use Rattle.need_host.specs.Calls.Verdict.{Gives as GivesOf}
use Rattle.need_host.specs.Looks.{IsCovered, outcome}
use Rattle.need_host.specs.Walks.{file_look, root_of}
use Rattle.run_rules.specs.HostDue.{HostDue}
use Rattle.run_rules.specs.Past.{EachOnce, In}
use Rattle.run_rules.specs.Tokens.{AtHand, IsOutstanding, Made}
use Rattle.run_rules.specs.Views.{gives_at, is_dirty}
use Rattle.run_rules.specs.declared.applied.Leave.{Leave}
use Rattle.run_rules.specs.declared.applied.Why.TheVariants.{Ended, ForCall}
use Rattle.run_rules.specs.declared.step.Asked.{Asked}
use Rattle.run_rules.specs.declared.step.Cause.{Cause}
use Rattle.run_rules.specs.declared.step.Step.{Step}
use Rattle.script_lines.specs.declared.script.Script.{Script}
use Rattle.std.proofs.Common.{Bool, List, None, Ok, Option, Some, [], ap, arith, false, if◌then◌else◌, inl, inr}
use Rattle.std.proofs.Common.{is_none, is_some, map, nat_le, nat_lt, not, refl, subst, sym, true, ℕ, ◌&&◌}
use Rattle.std.proofs.Common.{◌++◌, ◌∙◌, ◌∷◌, ◌≡◌}
use Rattle.std.proofs.lemmas.Bool.{and_from, and_parts, le-leb}
use Rattle.std.specs.List.{list_any}
use Rattle.token_types.specs.declared.token.Token.{Token}
use Rattle.token_types.specs.declared.token.TokenId.{TokenId}
use Rattle.tree_calls.specs.declared.call.Call.{Call}
use Rattle.tree_calls.specs.declared.call.Call.TheVariants.{Sync}
use Rattle.tree_calls.specs.declared.place.Place.{Place as NamedPlace}
use Rattle.tree_laws.specs.Parts.Part.{Size}
use Rattle.host_manager.proofs.Opened as opened_of
use Rattle.host_manager.proofs.SyncNow as sync_of
use Rattle.host_manager.proofs.Turns as turns
use Rattle.host_tables.proofs.Standing as standing

module _ (script : Script) (old m : Tables) (past : List Step) (cause : Cause) (came : List Token)
    (dues : List FilesetId) (c : Asked) (first : Bool) (turn : IsTurn script old m past cause came dues c first)
    (sound_m : IsSoundGives m.gives) (sound : IsSoundUses m.uses) where
  abbrev call : Call
  call = c.call

  abbrev k : ℕ
  k = c.k

  abbrev h : Step
  h = learning m.host cause came

  abbrev begun : Tables
  begun = at_turn m first

  abbrev draft_0 : Draft
  draft_0 = turn_draft came dues

  -- it is left open
  abbrev pub opened : Doing → Doing
  opened gone = doing (record gone.tables { call = Some c })
      (record gone.draft { asked = if first then Some c else None })

  abbrev pub Goal : Tables → Draft → Type 0
  Goal new after = RunsOn script old new past (step_of (Host m.host) cause after)

  stands : Stands script m (h ∷ past)
  stands = turn.learnt

  dirty_was : (f : Fid) (at : ℕ) → is_dirty_in m.dirty f at ≡ is_dirty past f at
  dirty_was f at = stands.dirty.bytes f at ∙ standing.dirty_is script m past h stands f at

  uses_m : AreUses m
  uses_m = uses_are script m (h ∷ past) stands

  uses_b : AreUses begun
  uses_b = record { labels = uses_m.labels; ending = uses_m.ending }

  module _ (place : NamedPlace) (call_is : call ≡ Sync place) (covered : IsCoveredFrom m call)
      (verdict : verdict_from m call ≡ GivesOf) (fid : Fid) (finds : Finds m place fid)
      (unclean : is_clean_file m fid ≡ false) (gone : Doing) (new : Tables) (draft after : Draft)
      (is : doing new draft ≡ opened gone) (sends : after ≡ sending_due new draft) (sound_new : IsSoundGives new.gives)
    where
      found_same : (other : NamedPlace) (found : Fid) → call ≡ Sync other → Finds m other found → found ≡ fid
      found_same other found e f =
          let p : other ≡ place = (let q : Sync other ≡ Sync place = sym e ∙ call_is in cc) in
          let f_p = subst (λ (z : NamedPlace). Finds m z found) p f in
          let q : Some f_p.id ≡ Some finds.id = sym f_p.seen ∙ finds.seen in
          let i : f_p.id ≡ finds.id = cc in
          ok_first found fid f_p.nature finds.nature (sym f_p.found
          ∙ ap (λ (z : FilesetId). outcome (content m.cache) (file_look m.user (root_of z) place.path)) i ∙
          finds.found)

      -- # Tokens leave
      module _ (tokens : List Token) (are : AreDirty m fid tokens) (lead : Token) (has_lead : In lead tokens)
          (leaves : LeavesGiven begun draft_0 fid tokens None gone.tables gone.draft) where
        abbrev g : Give
        g = record leaves.gives.give { ends = None }

        given : IsGiven m fid tokens tokens g
        given = record {
          number = leaves.gives.so.number;
          file = leaves.gives.so.file;
          ids = leaves.gives.so.ids;
          pieces = record {
            rise = leaves.gives.so.pieces.rise;
            bytes = leaves.gives.so.pieces.bytes;
            fit = leaves.gives.so.pieces.fit;
          };
          length = leaves.gives.so.length;
        }

        shown : seen gone.tables.cache ≡ shown_without (seen m.cache) tokens
        shown = leaves.drops.shown
            ∙ ap (λ (s : Seen). shown_without s tokens) (ap (λ (z : Tables). seen z.cache) leaves.gives.tables)

        abbrev dues_by : Bool → List FilesetId
        dues_by b = if b then with_once dues g.fid.fileset else dues

        abbrev all : List FilesetId
        all = dues_by (is_none (outstanding m.gives g.fid.fileset))

        more : (fs : FilesetId) → In fs dues → In fs all
        more fs i = by_one (is_none (outstanding m.gives g.fid.fileset))
          where
            by_one : (b : Bool) → In fs (dues_by b)
            by_one true = with_once_keeps dues g.fid.fileset fs i
            by_one false = i

        has_due : outstanding m.gives g.fid.fileset ≡ None → In g.fid.fileset all
        has_due e = subst (λ (b : Bool). In g.fid.fileset (dues_by b))
            (sym (ap (λ (o : Option Message). is_none o) e)) (with_once_has dues g.fid.fileset)

        abbrev x : Tables
        x = sync_of.x script old m past cause came dues c first turn sound_m place call_is covered verdict fid finds
            tokens are lead has_lead gone.tables.cache leaves.given.dirty g given refl leaves.gives.cleans.bytes shown
            all more has_due

        tables_is : record gone.tables { call = Some c } ≡ x
        tables_is =
            ap (λ (z : Tables). record z { call = Some c }) leaves.drops.tables
            ∙ ap (λ (z : Tables). record z { cache = gone.tables.cache; call = Some c }) leaves.gives.tables

        abbrev start : Draft
        start = record draft_0 {
          asked = if first then Some c else None;
          made = g ∷ [];
          dropped = map (leaves_by ForCall) tokens;
          due = all;
        }

        made_is : (b : Bool) → record (if b then record draft_0 { due = with_once dues g.fid.fileset } else draft_0) {
          made = [] ++ g ∷ [];
        } ≡ record draft_0 { made = g ∷ []; due = dues_by b }
        made_is true = refl
        made_is false = refl

        draft_is : record gone.draft { asked = if first then Some c else None } ≡ start
        draft_is =
            ap (λ (d : Draft). record d { asked = if first then Some c else None }) leaves.drops.draft_is
            ∙ ap (λ (d : Draft). record d {
              asked = if first then Some c else None;
              dropped = d.dropped ++ map (leaves_by ForCall) tokens;
            })
            (leaves.gives.draft_is ∙ made_is (is_none (outstanding m.gives g.fid.fileset)))

        pub sync_leaves : Goal new after
        sync_leaves =
            let tables : new ≡ x = ap (λ (z : Doing). z.tables) is ∙ tables_is in
            let drafts : draft ≡ start = ap (λ (z : Doing). z.draft) is ∙ draft_is in
            let sound_l = subst (λ (z : Tables). IsSoundGives z.gives) tables sound_new in
            let step = ap (step_of (Host m.host) cause) (sends ∙ (λ i. sending_due (tables i) (drafts i)))
            ∙ sync_of.step_is script old m past cause came dues c first turn sound_m place call_is covered verdict fid
            finds tokens are lead has_lead gone.tables.cache leaves.given.dirty g given refl leaves.gives.cleans.bytes
            shown all more has_due sound_l in
            subst (λ (q : Tables × Step). RunsOn script old q.0 past q.1) (λ i. (sym tables i, sym step i))
            (sync_of.runs script old m past cause came dues c first turn sound_m place call_is covered verdict fid finds
            tokens are lead has_lead gone.tables.cache leaves.given.dirty g given refl leaves.gives.cleans.bytes shown
            all more
            has_due sound_l)

        -- what is due of it: all that is dirty leaves
        abbrev back : Message
        back = message_to m (home_at g.fid.fileset) (GiveBack g)

        new_give : IsOutstanding past g → ⊥
        new_give o =
            let low = stands.gives.last g (inr o.made) in
            let number = given.number in
            let at = ap (λ (f : Fid). last_counter m.gives.counters f.fileset) given.file in
            omega (arith, low, number, at)

        begins_l : turns.BeginsTurn script old m past cause came dues c first turn start
        begins_l = opens_it script old m past cause came dues c first turn start refl refl

        gives_l : GivesForCall m past (turns.by script old m past cause came dues c first turn start)
        gives_l = syncs_given script m past cause came stands call
            (turns.by script old m past cause came dues c first turn start)
            (λ n other has.
            (turns.only_it script old m past cause came dues c first turn start begins_l n other has).1)
            (λ other found t e f i at d.
            let same = at ∙ found_same other found e f in (
              g,
              inl refl,
              subst (λ (is : List TokenId). In t.id is) (sym given.ids)
                  (map_in (λ (u : Token). u.id) tokens t (are.all t (at_file m fid t i same) (dirty_under t i same d))),
            ))
            (λ u e f. absurd (no_sync u.token.kind u.label place (sym e ∙ call_is)))
          where
            dirty_under : (t : Token) → In t (held_of m) → t.fid ≡ fid → IsDirtyFrom m past t → IsDirtyUnder m fid t
            dirty_under t i same (inl b) = inl (
              b.0,
              dirty_was fid b.0 ∙ ap (λ (f : Fid). is_dirty past f b.0) (sym same) ∙ b.1.1,
              updated_by t t.fid b.0 b.1.0,
            )
            dirty_under t i same (inr b) = inr (
              b.0,
              ap (λ (z : Bool).
                  is_some (if z then Some (content m.cache fid Size) else None))
                  (and_from (list_any (is_updating fid) (held_of m))
                  (not (is_length_clean m.lengths (content m.cache) fid)) any
                  (false_not (is_length_clean m.lengths (content m.cache) fid) n)),
            )
              where
                any : list_any (is_updating fid) (held_of m) ≡ true
                any = any_in (is_updating fid) (held_of m) t i
                    (and_from (same_fid t.fid fid) (updates_status t.kind) (fid_same t.fid fid same) b.0)

                n : is_length_clean m.lengths (content m.cache) fid ≡ false
                n = ap (λ (f : Fid). is_length_clean m.lengths (content m.cache) f) (sym same) ∙ b.1

        module _ (by : IsTurnDue m past cause came dues first)
            (once : EachOnce (map (λ (l : Leave). l.token) (map (leaves_by ForCall) tokens))) where
          pub leaves_due : Goal new after → HostDue script old.host past (step_of (Host m.host) cause after)
          leaves_due runs =
              let tables : new ≡ x = ap (λ (z : Doing). z.tables) is ∙ tables_is in
              let drafts : draft ≡ start = ap (λ (z : Doing). z.draft) is ∙ draft_is in
              let whole : after ≡ sending_due x start = sends ∙ (λ i. sending_due (tables i) (drafts i)) in
              subst (λ (d : Draft). HostDue script old.host past (step_of (Host m.host) cause d)) (sym whole)
              (draft_due script old m past cause came dues c first turn by x
              (subst (λ (z : Tables). IsSoundGives z.gives) tables sound_new) start refl begins_l
              (subst (λ (q : Tables × Draft). Goal q.0 q.1) (λ i. (tables i, whole i)) runs) gives_l (λ y i. elim i [ ])
              tt (all_fresh m past dues g back refl new_give by.fresh)
              (all_once m past dues g back refl new_give by.fresh by.once_dues)
              (λ l i.
              let r = in_map (leaves_by ForCall) tokens l i in (
                subst (λ (z : Leave).
                    AtHand (turns.by script old m past cause came dues c first turn start) past z.token) (sym r.2)
                    (standing.hand_of script m past h stands r.0 (file_at m fid r.0 (are.from r.0 r.1).0).0),
                λ q. let p : ForCall ≡ Ended = ap (λ (z : Leave). z.why) (sym r.2) ∙ q in cc,
              )) once ((λ i. i), tt) (λ y i e. elim i [ ]))

      -- # Nothing is dirty under a token: a give-back of the file is on its way
      module _ (are : AreDirty m fid []) (left : (gone.tables ≡ begun) × (gone.draft ≡ draft_0)) where
        no_bytes : has_dirty_byte m.dirty fid ≡ false
        no_bytes = elim (by_test (has_dirty_byte m.dirty fid)) [
          | inr n ↦ n
          | inl t ↦
              let r = in_any (λ (span : Span). nat_lt span.from span.to) (spans_of m.dirty fid) t in
              let at : ℕ = r.0.from in
              let here : has_byte r.0 at ≡ true =
              and_from (nat_le at at) (nat_lt at r.0.to) (le-leb at at (omega arith)) r.2 in
              let dirty : is_dirty_in m.dirty fid at ≡ true =
              any_in (λ (span : Span). has_byte span at) (spans_of m.dirty fid) r.0 r.1 here in
              let o = stands.dirty.under fid at (sym (stands.dirty.bytes fid at) ∙ dirty) in
              let i = stands.cache.owns o.0 o.1 in
              elim (are.all o.0 (at_file m fid o.0 i o.2.1) (inl (at, dirty, updated_by o.0 fid at o.2))) [ ]
        ]

        no_length : is_length_dirty (held_of m) m.lengths (content m.cache) fid ≡ false
        no_length = elim (by_test (is_length_dirty (held_of m) m.lengths (content m.cache) fid)) [
          | inr n ↦ n
          | inl t ↦
              let p = and_parts (list_any (is_updating fid) (held_of m))
              (not (is_length_clean m.lengths (content m.cache) fid)) t in
              let r = in_any (is_updating fid) (held_of m) p.0 in
              let q = and_parts (same_fid r.0.fid fid) (updates_status r.0.kind) r.2 in
              elim (are.all r.0 (at_file m fid r.0 r.1 (same_fid_is r.0.fid fid q.0)) (inr (
                q.1,
                ap (λ (b : Bool). is_some (if b then Some (content m.cache fid Size) else None)) t,
              ))) [ ]
        ]

        one_there : list_any (is_of_file fid) m.gives.gives ≡ true
        one_there = elim (by_test (list_any (is_of_file fid) m.gives.gives)) [
          | inl t ↦ t
          | inr f ↦
              let clean : is_clean_file m fid ≡ true =
              λ i. not (no_bytes i) && not (no_length i) && not (f i) in
              absurd (true_false (is_clean_file m fid) clean unclean)
        ]

        abbrev silent : Tables
        silent = opened_of.silent script old m past cause came dues c first turn sound_m

        abbrev s_0 : Step
        s_0 = opened_of.s_0 script old m past cause came dues c first turn sound_m

        still : (g : Give) → Made (h ∷ past) g → Made (s_0 ∷ past) g
        still g (inl i) = elim i [ ]
        still g (inr i) = inr i

        none_dirty : (t : Token) → In t (held_of m) → t.fid ≡ fid → IsDirtyFrom silent (s_0 ∷ past) t → ⊥
        none_dirty t i at (inl b) =
            let was : is_dirty past t.fid b.0 ≡ true =
            (and_parts (is_dirty past t.fid b.0) (not (gives_at s_0 t.fid b.0)) b.1.1).0 in
            elim (are.all t (at_file m fid t i at) (inl (
              b.0,
              dirty_was fid b.0 ∙ ap (λ (f : Fid). is_dirty past f b.0) (sym at) ∙ was,
              updated_by t t.fid b.0 b.1.0,
            ))) [ ]
        none_dirty t i at (inr b) =
            let any = any_in (is_updating fid) (held_of m) t i
            (and_from (same_fid t.fid fid) (updates_status t.kind) (fid_same t.fid fid at) b.0) in
            let n : is_length_clean m.lengths (content m.cache) fid ≡ false =
            ap (λ (f : Fid). is_length_clean m.lengths (content m.cache) f) (sym at) ∙ b.1 in
            absurd (true_false (is_length_dirty (held_of m) m.lengths (content m.cache) fid)
            (and_from (list_any (is_updating fid) (held_of m)) (not (is_length_clean m.lengths (content m.cache) fid))
            any
            (false_not (is_length_clean m.lengths (content m.cache) fid) n)) no_length)

        rest : IsAtRest silent (s_0 ∷ past)
        rest =
            let r = in_any (is_of_file fid) m.gives.gives one_there in
            let q = stands.gives.made r.0 r.1 in
            give_rests silent (s_0 ∷ past) c q.0 refl verdict covered (still q.0 q.2) q.3
            (λ other found t e f i at d.
            let f_m : Finds m other found = record {
              id = f.id;
              nature = f.nature;
              seen = f.seen;
              covered = f.covered;
              found = f.found;
            } in
            none_dirty t i (at ∙ found_same other found e f_m) d)
            (λ u e f. no_sync u.token.kind u.label place (sym e ∙ call_is))

        pub sync_waits : Goal new after
        sync_waits =
            let at_begun : opened gone ≡ opened (doing begun draft_0) =
            λ i. opened (doing (left.0 i) (left.1 i)) in
            let whole = is ∙ at_begun in
            subst (λ (q : Tables × Draft). Goal q.0 q.1)
            (λ i. (
              (sym (ap (λ (d : Doing). d.tables) whole)) i,
              (sym (sends ∙ (λ j. sending_due (whole j).tables (whole j).draft))) i,
            ))
            (opened_of.waits_code script old m past cause came dues c first turn sound_m rest)

        -- nothing is due of it
        abbrev draft_s : Draft
        draft_s = record draft_0 { asked = if first then Some c else None }

        begins_s : turns.BeginsTurn script old m past cause came dues c first turn draft_s
        begins_s = opens_it script old m past cause came dues c first turn draft_s refl refl

        gives_still : GivesForCall m past (turns.by script old m past cause came dues c first turn draft_s)
        gives_still = syncs_given script m past cause came stands call
            (turns.by script old m past cause came dues c first turn draft_s)
            (λ n other has.
            (turns.only_it script old m past cause came dues c first turn draft_s begins_s n other has).1)
            (λ other found t e f i at d. absurd (still_dirty t i (at ∙ found_same other found e f) d))
            (λ u e f. absurd (no_sync u.token.kind u.label place (sym e ∙ call_is)))
          where
            still_dirty : (t : Token) → In t (held_of m) → t.fid ≡ fid → IsDirtyFrom m past t → ⊥
            still_dirty t i at (inl b) =
                elim (are.all t (at_file m fid t i at) (inl (
                  b.0,
                  dirty_was fid b.0 ∙ ap (λ (f : Fid). is_dirty past f b.0) (sym at) ∙ b.1.1,
                  updated_by t t.fid b.0 b.1.0,
                ))) [ ]
            still_dirty t i at (inr b) = none_dirty t i at (inr b)

        pub still_due : IsTurnDue m past cause came dues first → Goal new after
            → HostDue script old.host past (step_of (Host m.host) cause after)
        still_due by runs =
            let at_begun : opened gone ≡ opened (doing begun draft_0) =
            λ i. opened (doing (left.0 i) (left.1 i)) in
            let whole : doing new draft ≡ doing (record begun { call = Some c }) draft_s = is ∙ at_begun in
            let all_s : after ≡ sending_due (record begun { call = Some c }) draft_s =
            sends ∙ (λ i. sending_due (whole i).tables (whole i).draft) in
            subst (λ (d : Draft). HostDue script old.host past (step_of (Host m.host) cause d)) (sym all_s)
            (draft_due script old m past cause came dues c first turn by (record begun { call = Some c }) sound_m
            draft_s
            refl begins_s (subst (λ (q : Tables × Draft). Goal q.0 q.1) (λ i. ((whole i).tables, all_s i)) runs)
            gives_still (λ y i. elim i [ ]) tt by.fresh by.once_dues (λ l i. elim i [ ]) tt tt (λ y i e. elim i [ ]))

      pub sync_either : (tokens : List Token) → AreDirty m fid tokens
          → LeavesWhere begun draft_0 fid tokens gone.tables gone.draft → Goal new after
      sync_either [] are left = sync_waits are left
      sync_either (t ∷ ts) are leaves = sync_leaves (t ∷ ts) are t (inl refl) leaves

      pub either_due : IsTurnDue m past cause came dues first → (tokens : List Token) → EachOnce tokens
          → AreDirty m fid tokens
          → LeavesWhere begun draft_0 fid tokens gone.tables gone.draft → Goal new after
          → HostDue script old.host past (step_of (Host m.host) cause after)
      either_due by [] once are left runs = still_due are left by runs
      either_due by (t ∷ ts) once are leaves runs = leaves_due (t ∷ ts) are t (inl refl) leaves by
          (subst EachOnce (sym (tokens_left ForCall (t ∷ ts))) once) runs

  pub sync_now : (root : Fid) (path : List (List ℕ)) → WalksSo begun call root path → (fid : Fid)
      → Walked begun call root path (Ok (Syncs fid)) → LeadsSo begun call root path (Syncs fid) → (gone : Doing)
      → LeavesDirty begun draft_0 fid gone.tables gone.draft → (new : Tables) (draft after : Draft)
      → doing new draft ≡ opened gone → after ≡ sending_due new draft → IsSoundGives new.gives → Goal new after
  sync_now root path walks fid walked leads gone leaves new draft after is sends sound_new =
      let look : look_from m call ≡ path_look m call root path = walks uses_b in
      let r = comes_out m call root path turn.tidy.sizes (Ok (Syncs fid)) walked (Ok (Syncs fid)) refl in
      let only = only_sync m call root path r.1 in
      let covered = subst (IsCovered (held_of m) (content m.cache)) (sym look) r.0 in
      let verdict : verdict_from m call ≡ GivesOf = ap (outcome (content m.cache)) look ∙ r.1 in
      let covered_s = subst (λ (z : Call). IsCoveredFrom m z) only.1 covered in
      let verdict_s = ap (verdict_from m) (sym only.1) ∙ verdict in
      let look_s = subst (λ (z : Call). look_from m z ≡ path_look m z root path) only.1 look in
      let found = found_sync m only.0 covered_s verdict_s in
      let same : fid ≡ found.fid = finds_same m only.0 root path fid covered_s verdict_s look_s leads.0 in
      sync_either only.0 only.1 covered verdict fid
      (subst (Finds m only.0) (sym same) found.finds)
      (ap (is_clean_file m) same ∙ found.unclean) gone new draft after is sends sound_new leaves.tokens
      (record {
        test = leaves.dirty.test;
        some = leaves.dirty.some;
        from = leaves.dirty.from;
        all = leaves.dirty.all;
      }) leaves.leaves

  -- what is due of it, where no token leaves twice
  pub sync_due : IsTurnDue m past cause came dues first → (root : Fid) (path : List (List ℕ))
      → WalksSo begun call root path → (fid : Fid) → Walked begun call root path (Ok (Syncs fid))
      → LeadsSo begun call root path (Syncs fid) → (gone : Doing)
      → (leaves : LeavesDirty begun draft_0 fid gone.tables gone.draft)
      → ((place : NamedPlace) → call ≡ Sync place → EachOnce leaves.tokens) → (new : Tables) (draft after : Draft)
      → doing new draft ≡ opened gone → after ≡ sending_due new draft → IsSoundGives new.gives
      → Goal new after → HostDue script old.host past (step_of (Host m.host) cause after)
  sync_due by root path walks fid walked leads gone leaves once new draft after is sends sound_new runs =
      let look : look_from m call ≡ path_look m call root path = walks uses_b in
      let r = comes_out m call root path turn.tidy.sizes (Ok (Syncs fid)) walked (Ok (Syncs fid)) refl in
      let only = only_sync m call root path r.1 in
      let covered = subst (IsCovered (held_of m) (content m.cache)) (sym look) r.0 in
      let verdict : verdict_from m call ≡ GivesOf = ap (outcome (content m.cache)) look ∙ r.1 in
      let covered_s = subst (λ (z : Call). IsCoveredFrom m z) only.1 covered in
      let verdict_s = ap (verdict_from m) (sym only.1) ∙ verdict in
      let look_s = subst (λ (z : Call). look_from m z ≡ path_look m z root path) only.1 look in
      let found = found_sync m only.0 covered_s verdict_s in
      let same : fid ≡ found.fid = finds_same m only.0 root path fid covered_s verdict_s look_s leads.0 in
      either_due only.0 only.1 covered verdict fid
      (subst (Finds m only.0) (sym same) found.finds)
      (ap (is_clean_file m) same ∙ found.unclean) gone new draft after is sends sound_new by leaves.tokens
      (once only.0 only.1)
      (record {
        test = leaves.dirty.test;
        some = leaves.dirty.some;
        from = leaves.dirty.from;
        all = leaves.dirty.all;
      }) leaves.leaves runs
