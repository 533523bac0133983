-- A Revoke comes while no call is open, or while a request is outstanding.
use Rattle.base_types.specs.Ids.{same_fid}
use Rattle.base_types.specs.Spans.{has_byte}
use Rattle.base_types.specs.declared.ids.Fid.{Fid}
use Rattle.base_types.specs.declared.ids.FilesetId.{FilesetId}
use Rattle.base_types.specs.declared.ids.Node.TheVariants.{Host}
use Rattle.base_types.specs.declared.ids.ServerId.{ServerId}
use Rattle.base_types.specs.declared.limits.TheConstants.{FILE_BYTES_MAX}
use Rattle.base_types.specs.declared.span.Span.{Span}
use Rattle.host_asks.specs.Asking.{AsksFor, Doing, Fetches, changing, coming_to, doing, fileset_of, greeting}
use Rattle.host_asks.specs.Asking.{is_entering, may_ask, next_change, server_of, with_asked, with_fetching}
use Rattle.host_asks.specs.Asking.{with_greeted}
use Rattle.host_asks.specs.Asking.AsksFor.{Changes, Comes, FetchesIt, Waits as AsksWaits}
use Rattle.host_asks.specs.Going.{GivesUse, Goes, GoesOn, MarksWhere, Settles}
use Rattle.host_asks.specs.Going.GivesUse.{EndsIt, HasEnded, IsLost, IsUnused}
use Rattle.host_asks.specs.Going.Goes.{Ends as EndsAt, Finds, IsRefused, LacksIt, Waits}
use Rattle.host_asks.specs.Going.GoesOn.{IsNone, IsOpen}
use Rattle.host_asks.specs.Going.Settles.{AnswersIt, AsksIt, GivesIt, SyncsIt}
use Rattle.host_cache.specs.Holding.{is_status, tokens_of}
use Rattle.host_cache.specs.declared.held.Held.{Held}
use Rattle.host_calls.specs.Looking.{AreUses, IsPathless, IsVerdictOf, LeadsSo, Walked, WalksSo, asked_by, ending_of}
use Rattle.host_calls.specs.Looking.{is_settled, meant, path_look, used_by}
use Rattle.host_calls.specs.declared.looking.Question.{Question as CallQuestion}
use Rattle.host_calls.specs.declared.looking.Question.TheVariants.{At as AtServer, Enter, In as Within}
use Rattle.host_calls.specs.declared.looking.Verdict.{Verdict as Judged}
use Rattle.host_calls.specs.declared.looking.Verdict.TheVariants.{Asks as AsksAbout, Does, Frees as FreesLabel}
use Rattle.host_calls.specs.declared.looking.Verdict.TheVariants.{Gives as GivesLabelUp, Lists, Reads, Shows, Syncs}
use Rattle.host_calls.specs.declared.looking.Verdict.TheVariants.{Tells, Uses as UsesFile, Writes as WritesTo}
use Rattle.host_dirty.specs.Dirtiness.{is_dirty as is_dirty_in, spans_of}
use Rattle.host_dirty.specs.declared.dirty.Dirty.{Dirty}
use Rattle.host_gives.specs.Counters.{last_of}
use Rattle.host_gives.specs.Giving.{IsSound as IsSoundGives, given_in, is_of_file, outstanding}
use Rattle.host_labels.specs.Labels.{InUse, is_labelled, is_pinned}
use Rattle.host_labels.specs.declared.uses.Labelled.{Labelled as UseOf}
use Rattle.host_leaves.proofs.DirtyTokens.{at_file as file_at}
use Rattle.host_leaves.proofs.Sorting.{pinned_labels}
use Rattle.host_leaves.specs.Dirtying.{tokens_at}
use Rattle.host_leaves.specs.Giving.{AreDirty, IsDirtyUnder as DirtyUnder, Leaves, LeavesWhere, ids_of, leaves_by}
use Rattle.host_leaves.specs.Owning.{dirty_length, is_use}
use Rattle.host_leaves.specs.Revoking.{LeaveAll, Revokes, fids_of, keeping_all, keeping_file, of_file, others_of}
use Rattle.host_leaves.specs.Revoking.{pinned, pinned_all, sending_given, sorted_by, with_lost_where, with_raised}
use Rattle.host_leaves.specs.Revoking.LeaveAll.{FileLeaves, NoneLeft}
use Rattle.host_leaves.specs.Sending.{message_to, sending_due, sending_give}
use Rattle.host_manager.proofs.Alike.{AsksAlike, GivesStill, call_alike, close_gives, gives_still, unlock_gives}
use Rattle.host_manager.proofs.Evicting.{updates_it}
use Rattle.host_manager.proofs.Folding.{OnlySends, fold_keeps, fold_only, fold_said, fold_says, giving_keeps}
use Rattle.host_manager.proofs.Folding.{giving_only, giving_said, giving_says}
use Rattle.host_manager.proofs.Folding.{saying_keeps, saying_said, saying_says, sends_on}
use Rattle.host_manager.proofs.Homely.{lack_declared, seen_declared}
use Rattle.host_manager.proofs.LeftBy.{IsLeftBy}
use Rattle.host_manager.proofs.OnceSaid.{fold_once, once_more}
use Rattle.host_manager.proofs.Opened.{and_false, no_use_kind, use_kind, welcome_greets}
use Rattle.host_manager.proofs.PartFile.{file_leaves}
use Rattle.host_manager.proofs.PartSo.{HasParted, gone_or, held_from, kept, none_parted, start}
use Rattle.host_manager.proofs.Repeated.{given_once}
use Rattle.host_manager.proofs.RevokeSees.{all_once}
use Rattle.host_manager.proofs.Revoked.{counts, runs, tidy_by}
use Rattle.host_manager.proofs.Running.{asks_none, uses_are}
use Rattle.host_manager.proofs.SortedSo.{SortedSo, each_file, fids_once, sorted_so, still_pinned}
use Rattle.host_manager.proofs.SyncSo.{covers_stay, decide_all, finds_same, found_sync, only_sync, status_covers}
use Rattle.host_manager.proofs.ComesOut.{comes_out}
use Rattle.host_manager.specs.Running.{AsksForCall, IsRunning, RunsOn}
use Rattle.host_tables.proofs.Answered.{agree as agree_of}
use Rattle.host_tables.proofs.Declared.{home_is}
use Rattle.host_tables.proofs.LeavingSteps.{known_made}
use Rattle.host_tables.proofs.Lists.{any_in, by_test, false_any, false_not, fid_same, in_any, in_either, not_false}
use Rattle.host_tables.proofs.Lists.{in_left, in_right, not_true, or_left, or_right, same_fid_is, true_false, true_not}
use Rattle.host_tables.proofs.Outstanding.{outstanding_is}
use Rattle.host_tables.proofs.Resting.{ask_rests, give_rests, idle_rests, lack_rests}
use Rattle.host_tables.proofs.RevokeSteps.{revoke_stands}
use Rattle.host_tables.proofs.Standing.{knows as knows_of}
use Rattle.host_tables.proofs.Updating.{reads_after}
use Rattle.host_tables.specs.Asking.{FetchFrom}
use Rattle.host_tables.specs.Asking.FetchFrom.{OfKnown, OfNone, OfPlain, OfRoot}
use Rattle.host_tables.specs.Drafts.{no_draft, step_of}
use Rattle.host_tables.specs.Giving.{GivesBack}
use Rattle.host_tables.specs.Half.{half}
use Rattle.host_tables.specs.LeavingSteps.{LeavesRight, with_left}
use Rattle.host_tables.specs.Letting.{IsAsked, Keeping}
use Rattle.host_tables.specs.RevokeSteps.{Raises, RevokeCounts, SaysRevoked}
use Rattle.host_tables.specs.Revoking.{InUseHere, revokes, revoking}
use Rattle.host_tables.specs.Saying.{IsFirst}
use Rattle.host_tables.specs.Stands.{Finds as SyncFinds, IsAtRest, IsCoveredFrom, IsDirtyFrom, IsLack, IsWaiting}
use Rattle.host_tables.specs.Stands.{LostStands, Stands, look_from, needs_from, verdict_from}
use Rattle.host_tables.specs.Stands.IsWaiting.{ForDone, ForFile, ForGone, ForGrant, ForNeed, ForQuestion}
use Rattle.host_tables.specs.Tables.{content, ends_label, floor_of, gives_label, has_dirty_byte, held_of}
use Rattle.host_tables.specs.Tables.{is_clean_file, is_last_pinned, is_last_use, is_length_clean, is_length_dirty}
use Rattle.host_tables.specs.Tables.{is_updating, labelled, last_change, locks_under, ones, opens_under, own_of}
use Rattle.host_tables.specs.Tables.{site_at, updates_status}
use Rattle.host_tables.specs.Tidy.{IsTidy}
use Rattle.host_tables.specs.Updates.{home_at, is_floor, put_by, with_change, with_fetch, with_floor, with_site}
use Rattle.host_tables.specs.declared.calls.Request.{Request}
use Rattle.host_tables.specs.declared.calls.Request.TheVariants.{Change as AChange, Fetch as AFetch}
use Rattle.host_tables.specs.declared.draft.Draft.{Draft}
use Rattle.host_tables.specs.declared.files.Floor.{Floor}
use Rattle.host_lengths.specs.declared.given.Given.{Given}
use Rattle.host_tables.specs.declared.tables.Tables.{Tables}
use Rattle.host_walk.specs.declared.sight.Stop.{Stop}
use Rattle.host_walk.specs.declared.sight.Stop.TheVariants.{Lacks, Refused}
use Rattle.message_types.specs.Soundness.{IsSound, no_fid}
use Rattle.message_types.specs.declared.asking.Fetch.{Fetch as FetchOf}
use Rattle.message_types.specs.declared.giving.AppliedGive.{AppliedGive}
use Rattle.message_types.specs.declared.giving.Give.{Give}
use Rattle.message_types.specs.declared.message.Body.{Body}
use Rattle.message_types.specs.declared.message.Body.TheVariants.{Bye, Change, Done, Down, Fetch, GiveBack, Gone}
use Rattle.message_types.specs.declared.message.Body.TheVariants.{Grant, Hello, Kept as KeptBody, NotHere, Reclaim}
use Rattle.message_types.specs.declared.message.Body.TheVariants.{Reclaimed, Restarted, Returned, Revoke, Ship, Shipped}
use Rattle.message_types.specs.declared.message.Direction.TheVariants.{ToHost}
use Rattle.message_types.specs.declared.message.Message.{Message}
use Rattle.message_types.specs.declared.tokens.Named.{Named}
use Rattle.message_types.specs.declared.tokens.Revoke.{Revoke as RevokeOf}
use Rattle.need_host.proofs.Asking.{questions_are_about_filesets}
use Rattle.need_host.proofs.Looking.{covered_alike, lack_alike, lacks_are_first, needs_alike, outcome_alike}
use Rattle.need_host.proofs.Showing.{shown_agree}
use Rattle.need_host.specs.Calls.{Verdict, call_look, reply_now}
use Rattle.need_host.specs.Calls.Verdict.{Asks, Gives}
use Rattle.need_host.specs.Laws.{AgreeUnder}
use Rattle.need_host.specs.Looks.{CoverAll, IsCovered, IsFirstLack, Look, kind_for, needs_of, outcome}
use Rattle.need_host.specs.Questions.{Question}
use Rattle.need_host.specs.Questions.Question.{ChangeAt, ChangeIn, EnterAt}
use Rattle.need_host.specs.Walks.{file_look, root_of}
use Rattle.run_rules.specs.HostAsks.{AsksServer, FirstLack}
use Rattle.run_rules.specs.Messages.{Asking, Changing, HasGreeted, IsWelcome, SendsTo, home, stay_of}
use Rattle.run_rules.specs.Past.{EachOnce, In}
use Rattle.run_rules.specs.Tokens.{FreesPinned, GiveOpen, IsKnown, IsOpen as OpenCall, IsUseKind, LabelInUse, Learns}
use Rattle.run_rules.specs.Tokens.{Made, end_call, end_of, number_of}
use Rattle.run_rules.specs.Views.{HasLength, NeedsServer, Stance, byte_of, gives_at, is_dirty, look_of, sees}
use Rattle.run_rules.specs.Views.{stay_asked, verdict_in}
use Rattle.run_rules.specs.declared.applied.Leave.{Leave}
use Rattle.run_rules.specs.declared.applied.Why.TheVariants.{Revoked}
use Rattle.run_rules.specs.declared.step.Asked.{Asked}
use Rattle.run_rules.specs.declared.step.Cause.TheVariants.{Message as Came}
use Rattle.run_rules.specs.declared.step.Labelled.{Labelled}
use Rattle.run_rules.specs.declared.step.Step.{Step}
use Rattle.script_lines.specs.declared.script.Script.{Script}
use Rattle.std.proofs.Common.{Bool, Err, List, None, Ok, Option, Result, Some, [], ap, append-nil, append_assoc}
use Rattle.std.proofs.Common.{arith, false, flat_map, fold, if◌then◌else◌, inl, inr, is_some, ltb-false, ltb-true}
use Rattle.std.proofs.Common.{map, max, nat_le, nat_lt, not, refl, subst, sym, true, ℕ, ◌&&◌, ◌++◌, ◌+◌, ◌==◌, ◌||◌}
use Rattle.std.proofs.Common.{◌∙◌, ◌∷◌, ◌≡◌, ◌≤◌, ◌⊎◌}
use Rattle.std.proofs.lemmas.Bool.{and_from, and_parts}
use Rattle.std.proofs.lemmas.Grind.{common_steps}
use Rattle.std.specs.List.{list_any}
use Rattle.std.specs.Option.{option_map_or}
use Rattle.token_types.specs.Covers.{Covers}
use Rattle.token_types.specs.declared.token.Kind.{Kind}
use Rattle.token_types.specs.declared.token.Kind.TheVariants.{Bytes, Lock, Opening, Status}
use Rattle.token_types.specs.declared.token.Need.{Need}
use Rattle.token_types.specs.declared.token.Token.{Token}
use Rattle.token_types.specs.declared.token.TokenId.{TokenId}
use Rattle.tree_calls.specs.declared.call.Call.{Call}
use Rattle.tree_calls.specs.declared.call.Call.TheVariants.{CloseFile, Sync, Unlock}
use Rattle.tree_calls.specs.declared.place.Place.{Place as NamedPlace}
use Rattle.tree_calls.specs.declared.reply.Refusal.{Refusal}
use Rattle.tree_calls.specs.declared.reply.Reply.{Reply}
use Rattle.tree_laws.specs.Parts.Part.{ByteAt, Size}
use Rattle.host_manager.proofs.RevokeLacks as lacks_of
use Rattle.host_manager.proofs.Revoked as revoked_of

-- # File by file
module _ (m : Tables) (once : (t u : Token) → In t (held_of m) → In u (held_of m) → t.id ≡ u.id → t ≡ u)
    (tells : (h : Held) → In h m.cache.held → is_status h.token.kind ≡ true → h.tells ≡ true)
    (zero : (fid : Fid) (at : ℕ) → FILE_BYTES_MAX ≤ at → content m.cache fid (ByteAt at) ≡ 0)
    (tokens : List Token) (their : (t : Token) → In t tokens → In t (held_of m)) (first : List Message)
    (asked : Fid) (back : List TokenId) (tokens_once : EachOnce tokens)
    (plain_first : (y : Message) → In y first → (w : Named) → y.body ≡ Returned w → ⊥) where
  all_parted : (fids : List Fid) (now : List TokenId) (x : Tables) (d : Draft) (new : Tables) (after : Draft)
      → LeaveAll tokens fids now x d new after → (done : List Fid) → EachOnce fids
      → ((f : Fid) → In f done → In f fids → ⊥)
      → ((f : Fid) (rest : List Fid) → fids ≡ f ∷ rest → (i : TokenId) → In i now → In i back × (f ≡ asked))
      → In asked done ⊎ ((rest : List Fid) × (fids ≡ asked ∷ rest) × (now ≡ back))
      → HasParted m tokens first asked back done x d → HasParted m tokens first asked back (done ++ fids) new after
  all_parted _ _ _ _ _ _ (NoneLeft now x d) done each apart backs begun h =
      subst (λ (z : List Fid). HasParted m tokens first asked back z x d) (sym (append-nil done)) h
  all_parted _ _ _ _ _ _ (FileLeaves fid fids now x between new d middle after leaves rest) done each apart backs begun
      h =
      subst (λ (z : List Fid). HasParted m tokens first asked back z new after) (append_assoc done (fid ∷ []) fids)
      (all_parted fids [] (with_lost_where fid (of_file fid tokens) between) middle new after rest (done ++ fid ∷ [])
      each.1 (λ f i j. elim (in_either done (fid ∷ []) f i) [
        | inl k ↦ apart f k (inr j)
        | inr k ↦ elim k [ inl e ↦ each.0 (subst (λ (z : Fid). In z fids) e j) | inr n ↦ elim n [ ] ]
      ]) (λ f more e i n. elim n [ ])
      (inl (elim begun [
        | inl i ↦ in_left done (fid ∷ []) asked i
        | inr r ↦ in_right done (fid ∷ []) asked (inl (let p = r.1 in cc))
      ]))
      (file_leaves m once tells zero tokens their first asked back now h.l h.lost done h.gone h.made h.left h.sent h.due
      h.said h.loses h.once tokens_once plain_first fid (λ i. apart fid i (inl refl)) (λ i n. backs fid fids refl i n)
      (λ e i n. elim begun [
        | inl j ↦ absurd (apart asked j (inl e))
        | inr r ↦ subst (λ (is : List TokenId). In i is) (sym r.2) n
      ]) between middle
      (subst (λ (q : Tables × Draft). Leaves q.0 q.1 fid (of_file fid tokens) Revoked now between middle)
      (λ i. (h.tables i, h.draft i)) leaves)))

-- # The floor of a file
abbrev pub floors_by : Tables → RevokeOf → List Floor
floors_by m r = if nat_lt (floor_of m.floors r.fid) r.stamp
    then with_floor (record { fid = r.fid; stamp = r.stamp }) m.floors else m.floors

pub raised_is : (m : Tables) (r : RevokeOf) → with_raised r.fid r.stamp m ≡ record m { floors = floors_by m r }
raised_is m r = by_low (nat_lt (floor_of m.floors r.fid) r.stamp)
  where
    by_low : (b : Bool) → (if b then record m { floors = with_floor (record { fid = r.fid; stamp = r.stamp }) m.floors }
        else m) ≡ record m {
          floors = if b then with_floor (record { fid = r.fid; stamp = r.stamp }) m.floors
              else m.floors;
        }
    by_low true = refl
    by_low false = refl

pub raises : (m : Tables) (r : RevokeOf) → Raises m.floors (floors_by m r) r
raises m r f = by_low (nat_lt (floor_of m.floors r.fid) r.stamp) refl
  where
    by_low : (b : Bool) → nat_lt (floor_of m.floors r.fid) r.stamp ≡ b
        → floor_of (if b then with_floor (record { fid = r.fid; stamp = r.stamp }) m.floors else m.floors) f
        ≡ (if same_fid r.fid f then max (floor_of m.floors f) r.stamp else floor_of m.floors f)
    by_low true e =
        reads_after.floors m.floors (record { fid = r.fid; stamp = r.stamp }) f ∙ by_same (same_fid r.fid f) refl
      where
        by_same : (t : Bool) → same_fid r.fid f ≡ t → (if t then r.stamp else floor_of m.floors f)
            ≡ (if t then max (floor_of m.floors f) r.stamp else floor_of m.floors f)
        by_same true q =
            let at = ap (λ (z : Fid). floor_of m.floors z) (same_fid_is r.fid f q) in
            let low = ltb-true (floor_of m.floors r.fid) r.stamp e in omega (arith, at, low)
        by_same false q = refl
    by_low false e = by_same (same_fid r.fid f) refl
      where
        by_same : (t : Bool) → same_fid r.fid f ≡ t → floor_of m.floors f
            ≡ (if t then max (floor_of m.floors f) r.stamp else floor_of m.floors f)
        by_same true q =
            let at = ap (λ (z : Fid). floor_of m.floors z) (same_fid_is r.fid f q) in
            let high = ltb-false (floor_of m.floors r.fid) r.stamp e in omega (arith, at, high)
        by_same false q = refl

in_put : (test : Floor → Bool) (floor : Floor) (floors : List Floor) (f : Floor) → In f (put_by test floor floors)
    → In f floors ⊎ (f ≡ floor)
in_put test floor [] f (inl e) = inr e
in_put test floor [] f (inr n) = elim n [ ]
in_put test floor (x ∷ floors) f i = by_head (in_put test floor floors f) (test x) i
  where
    by_head : (In f (put_by test floor floors) → In f floors ⊎ (f ≡ floor)) → (b : Bool)
        → In f (if b then floor ∷ floors else x ∷ put_by test floor floors) → In f (x ∷ floors) ⊎ (f ≡ floor)
    by_head rest true (inl e) = inr e
    by_head rest true (inr j) = inl (inr j)
    by_head rest false (inl e) = inl (inl e)
    by_head rest false (inr j) = elim (rest j) [ inl k ↦ inl (inr k) | inr e ↦ inr e ]

floors_of : (m : Tables) (r : RevokeOf) (f : Floor) → In f (floors_by m r) → In f m.floors ⊎ (f.fid ≡ r.fid)
floors_of m r f i = by_low (nat_lt (floor_of m.floors r.fid) r.stamp) i
  where
    by_low : (b : Bool) → In f (if b then with_floor (record { fid = r.fid; stamp = r.stamp }) m.floors else m.floors)
        → In f m.floors ⊎ (f.fid ≡ r.fid)
    by_low false j = inl j
    by_low true j = elim (in_put (is_floor r.fid) (record { fid = r.fid; stamp = r.stamp }) m.floors f j) [
      | inl k ↦ inl k
      | inr e ↦ inr (ap (λ (z : Floor). z.fid) e)
    ]

-- of which file a Kept is
fid_of : Body → Fid
fid_of (KeptBody w) = w.fid
fid_of Hello = no_fid
fid_of (Fetch f) = no_fid
fid_of (Grant g) = no_fid
fid_of (Change c) = no_fid
fid_of (Done d) = no_fid
fid_of (Revoke r) = no_fid
fid_of (Returned w) = no_fid
fid_of (GiveBack g) = no_fid
fid_of (Gone a) = no_fid
fid_of (Reclaim c) = no_fid
fid_of (Reclaimed a) = no_fid
fid_of Restarted = no_fid
fid_of Down = no_fid
fid_of Bye = no_fid
fid_of (NotHere a) = no_fid
fid_of (Ship a) = no_fid
fid_of (Shipped a) = no_fid

-- # What is said first
module _ (m : Tables) (in_use : List Token) (on_way : List FilesetId) where
  abbrev given : Draft
  given = fold (sending_give m) no_draft on_way

  abbrev pub told : Draft
  told = fold (keeping_file m in_use) given (fids_of in_use)

  first_only : OnlySends no_draft told
  first_only = sends_on no_draft given told
      (fold_only (sending_give m) (λ d fs. giving_only m d fs) no_draft on_way)
      (fold_only (keeping_file m in_use) (λ d f. refl) given (fids_of in_use))

  pub first_is : (y : Message) → In y told.sent
      → ((f : Fid) × In f (fids_of in_use) × (y ≡ message_to m (home_at f.fileset)
      (KeptBody (record { fid = f; ids = ids_of (of_file f in_use) }))))
      ⊎ ((fs : FilesetId) × In fs on_way × ((z : Message) × (outstanding m.gives fs ≡ Some z)
      × (y ≡ message_to m (home_at fs) z.body)))
  first_is y i = elim (fold_says (keeping_file m in_use) (λ f y. y ≡ message_to m (home_at f.fileset)
      (KeptBody (record { fid = f; ids = ids_of (of_file f in_use) })))
      (λ d f z j. saying_says m (home_at f.fileset) (KeptBody (record { fid = f; ids = ids_of (of_file f in_use) })) d z
      j) given (fids_of in_use) y i) [
        | inr q ↦ inl (q.0, q.1, q.2)
        | inl j ↦ elim (fold_says (sending_give m) (λ fs y. (z : Message) × (outstanding m.gives fs ≡ Some z)
            × (y ≡ message_to m (home_at fs) z.body)) (λ d fs z k. giving_says m d fs z k) no_draft on_way y j) [
              | inl n ↦ elim n [ ]
              | inr q ↦ inr (q.0, q.1, q.2)
            ]
      ]

  pub is_first : (f : Fid) → In f (fids_of in_use) → In (message_to m (home_at f.fileset)
      (KeptBody (record { fid = f; ids = ids_of (of_file f in_use) }))) told.sent
  is_first f i = fold_said (keeping_file m in_use)
      (λ d g z j. saying_keeps m (home_at g.fileset) (KeptBody (record { fid = g; ids = ids_of (of_file g in_use) }))
      d z
      j) f (message_to m (home_at f.fileset) (KeptBody (record { fid = f; ids = ids_of (of_file f in_use) })))
      (λ d. saying_said m (home_at f.fileset) (KeptBody (record { fid = f; ids = ids_of (of_file f in_use) })) d)
      given (fids_of in_use) i

  pub told_once : IsSoundGives m.gives → EachOnce on_way → EachOnce told.sent
  unfolding fid_of
  told_once sound once = fold_once (keeping_file m in_use) (λ (f : Fid). f) kept_fid (λ y. (w : Named)
      × (y.body ≡ KeptBody w))
      (λ d f each apart. once_more d.sent (message_to m (home_at f.fileset)
      (KeptBody (record { fid = f; ids = ids_of (of_file f in_use) }))) each
      (λ i. apart (message_to m (home_at f.fileset) (KeptBody (record { fid = f; ids = ids_of (of_file f in_use) }))) i
      (record { fid = f; ids = ids_of (of_file f in_use) }, refl) refl))
      (λ d f y i. elim (saying_says m (home_at f.fileset)
      (KeptBody (record { fid = f; ids = ids_of (of_file f in_use) })) d y i) [
        | inl j ↦ inl j
        | inr q ↦ inr (ap kept_fid q)
      ])
      (fids_of in_use) (subst EachOnce (sym (map_same (fids_of in_use))) (fids_once in_use)) given
      (given_once m sound on_way once no_draft tt (λ y i e. elim i [ ]))
      (λ y i kept_y j. elim (fold_says (sending_give m) (λ fs z. (o : Message) × (outstanding m.gives fs ≡ Some o)
      × (z ≡ message_to m (home_at fs) o.body)) (λ d fs z k. giving_says m d fs z k) no_draft on_way y i) [
        | inl n ↦ elim n [ ]
        | inr q ↦
            let o = outstanding_is m.gives sound q.0 q.2.0 q.2.1 in
            let p = sym (ap (λ (z : Message). z.body) q.2.2 ∙ o.1) ∙ kept_y.1 in cc
      ])
    where
      kept_fid : Message → Fid
      kept_fid y = fid_of y.body

      map_same : (xs : List Fid) → map (λ (f : Fid). f) xs ≡ xs
      map_same [] = refl
      map_same (f ∷ xs) = ap (λ (ys : List Fid). f ∷ ys) (map_same xs)

  pub given_first : (fs : FilesetId) (z : Message) → In fs on_way → outstanding m.gives fs ≡ Some z
      → In (message_to m (home_at fs) z.body) told.sent
  given_first fs z i e = fold_keeps (keeping_file m in_use)
      (λ d f y j. saying_keeps m (home_at f.fileset) (KeptBody (record { fid = f; ids = ids_of (of_file f in_use) }))
      d y j) given (fids_of in_use) (message_to m (home_at fs) z.body)
      (fold_said (sending_give m) (λ d w y j. giving_keeps m d w y j) fs (message_to m (home_at fs) z.body)
      (λ d. giving_said m d fs z e) no_draft on_way i)

-- what covers a need does with more tokens
covers_more : (held more : List Token) → ((t : Token) → In t held → In t more) → (need : Need) → Covers held need
    → Covers more need
covers_more held more within need covers =
    covers_stay held more (record need.fid { unique = need.fid.unique + 1 }) (λ t i other. within t i) need
    (λ e. let p = ap (λ (z : Fid). z.unique) e in omega (arith, p)) covers

cover_more : (held more : List Token) → ((t : Token) → In t held → In t more) → (needs : List Need)
    → CoverAll held needs → CoverAll more needs
cover_more held more within [] all = tt
cover_more held more within (need ∷ needs) all =
    (covers_more held more within need all.0, cover_more held more within needs all.1)

-- # The Revoke
module _ (script : Script) (old : Tables) (past : List Step) (message : Message) (running : IsRunning script old past)
    (sound_m : IsSound script.roster message) (host_is : message.host ≡ old.host) (way : message.direction ≡ ToHost)
    (r : RevokeOf) (body : message.body ≡ Revoke r) (present : (site_at old.sites message.server).epoch ≡ message.epoch)
    (no_moves : message.moves ≡ 0) (sound : IsSoundGives old.gives) (revoked : Doing)
    (its : Revokes r old no_draft revoked.tables revoked.draft) (sound_new : IsSoundGives revoked.tables.gives) where
  abbrev m : Tables
  m = record old { floors = floors_by old r }

  abbrev m1 : Tables
  m1 = record old { floors = floors_by old r; uses = pinned old.uses its.sorted.kept }

  abbrev files : List Fid
  files = r.fid ∷ others_of r.fid its.sorted.left

  abbrev first : List Message
  first = (told m its.sorted.kept its.sorted.given).sent

  stands : Stands script old past
  stands = running.rests.stands

  pub sorts : SortedSo m r.ids its.sorted.kept its.sorted.left its.sorted.back its.sorted.given
  sorts =
      let e = its.sorted_is ∙ ap (λ (z : Tables). sorted_by z r.ids) (raised_is old r) in
      subst (λ z. SortedSo m r.ids z.kept z.left z.back z.given) (sym e) (sorted_so m r.ids)

  leaves : LeaveAll its.sorted.left files its.sorted.back m1 (record no_draft { sent = first }) revoked.tables
      revoked.draft
  leaves = subst (λ (d : Draft). LeaveAll its.sorted.left files its.sorted.back m1 d revoked.tables revoked.draft)
      (first_only m its.sorted.kept its.sorted.given)
      (subst (λ (z : Tables). LeaveAll its.sorted.left files its.sorted.back (pinned_all its.sorted.kept z)
      (keeping_all z its.sorted.kept (sending_given z its.sorted.given no_draft)) revoked.tables revoked.draft)
      (raised_is old r) its.leaves)

  their : (t : Token) → In t its.sorted.left → In t (held_of old)
  their t i = (sorts.idle t i).0

  lists_once : EachOnce its.sorted.left × EachOnce its.sorted.given
  lists_once =
      let e = its.sorted_is ∙ ap (λ (z : Tables). sorted_by z r.ids) (raised_is old r) in
      subst (λ z. EachOnce z.left × EachOnce z.given) (sym e) (all_once m r.ids)

  plain_first : (y : Message) → In y first → (w : Named) → y.body ≡ Returned w → ⊥
  plain_first y i w e = elim (first_is m its.sorted.kept its.sorted.given y i) [
    | inl q ↦ (let p = sym (ap (λ (z : Message). z.body) q.2) ∙ e in cc)
    | inr q ↦
        let o = outstanding_is old.gives sound q.0 q.2.0 q.2.1 in
        let p = sym (ap (λ (z : Message). z.body) q.2.2 ∙ o.1) ∙ e in cc
  ]

  pub first_once : EachOnce first
  first_once = told_once m its.sorted.kept its.sorted.given sound lists_once.1

  pub h : HasParted m1 its.sorted.left first r.fid its.sorted.back files revoked.tables revoked.draft
  h = all_parted m1 stands.cache.once stands.cache.tells stands.contents.zero its.sorted.left their first r.fid
      its.sorted.back lists_once.0 plain_first files its.sorted.back m1 (record no_draft { sent = first })
      revoked.tables revoked.draft leaves []
      (each_file r.fid its.sorted.left) (λ f i j. elim i [ ]) (λ f rest e i n. (n, (let p = e in cc)))
      (inr (others_of r.fid its.sorted.left, refl, refl))
      (none_parted m1 its.sorted.left first r.fid its.sorted.back first_once)

  abbrev pub x : Tables
  x = record (with_left m h.l) { lost = h.lost }

  abbrev pub sent : List Message
  sent = (fold (sending_give x) (start h.made h.gone h.sent h.due) h.due).sent

  abbrev pub s : Step
  s = revokes old.host message.server message.epoch 0 r h.made (map (leaves_by Revoked) h.gone) sent

  pub sound_l : IsSoundGives h.l.gives
  sound_l = subst (λ (z : Tables). IsSoundGives z.gives) h.tables sound_new

  its_runs : ((stance : Stance script.roster old.host past s) → stance.kept ≡ tokens_of h.l.cache.held → stance.held
      ≡ held_of old → stance.own ≡ own_of old → stance.user ≡ old.user
      → IsAsked script.roster old.host past s stance)
      → IsAtRest x (s ∷ past) → AsksForCall x → RunsOn script old x past s
  its_runs = runs script old past message running sound_m no_moves r body present (floors_by old r) (raises old r)
      (floors_of old r) its.sorted.kept its.sorted.left its.sorted.back its.sorted.given sorts h.l h.lost h.gone h.made
      h.sent h.due h.left first (first_is m its.sorted.kept its.sorted.given)
      (is_first m its.sorted.kept its.sorted.given) h.said h.loses sound sound_l

  -- the step is that of the tables and the draft
  abbrev pub Goal : Tables → Draft → Type 0
  Goal z d = RunsOn script old z past (step_of (Host old.host) (Came message) (sending_due z d))

  pub message_is : message ≡ revoking old.host message.server message.epoch 0 r
  message_is i = record {
    direction = way i;
    host = host_is i;
    server = message.server;
    epoch = message.epoch;
    moves = no_moves i;
    body = body i;
  }

  is_goal : RunsOn script old x past s → Goal revoked.tables revoked.draft
  is_goal on =
      let only = fold_only (sending_give x) (λ d fs. giving_only x d fs) (start h.made h.gone h.sent h.due) h.due in
      let draft : sending_due revoked.tables revoked.draft ≡ record (start h.made h.gone h.sent h.due) { sent = sent } =
      (λ i. sending_due (h.tables i) (h.draft i)) ∙ only in
      subst (λ (q : Tables × Step). RunsOn script old q.0 past q.1)
      (λ i. (sym h.tables i, step_of (Host old.host) (Came (sym message_is i)) (sym draft i))) on

  -- no call is open
  pub idle_revoked : old.call ≡ None → Goal revoked.tables revoked.draft
  idle_revoked free = is_goal (its_runs
      (λ stance kept held own user c o. elim o [
        | inl e ↦ absurd (let p = e in cc)
        | inr q ↦ absurd (let p = sym free ∙ stands.call.asked c q.0 in cc)
      ])
      (idle_rests x (s ∷ past) free (running.rests.rest.alone free)) (asks_none x free))

  -- # A request is outstanding
  no_come : (y : Message) → s.cause ≡ Came y → Revoke r ≡ y.body
  no_come y e =
      let q : revoking old.host message.server message.epoch 0 r ≡ y = cc in ap (λ (z : Message). z.body) q

  still_asking : (fs : FilesetId) (n : ℕ) → Asking past fs n → Asking (s ∷ past) fs n
  still_asking fs n a = (
    inr a,
    λ grant c at number. let p = no_come c.0 c.1 ∙ c.5 in absurd (cc),
  )

  still_changing : (v : ServerId) (fs : FilesetId) (n : ℕ) → Changing past v fs n → Changing (s ∷ past) v fs n
  still_changing v fs n a = (
    inr a,
    λ done c at number. elim c [
      | inl q ↦ (let p = no_come q.1.0 q.1.1 ∙ q.1.5 in absurd (cc))
      | inr q ↦ (let p = no_come q.0 q.1 ∙ q.5 in absurd (cc))
    ],
  )

  within : (t : Token) → In t (tokens_of h.l.cache.held) → In t (held_of old)
  within t i = (held_from m1 stands.cache.once stands.cache.tells stands.contents.zero its.sorted.left their h.l files
      h.gone h.made h.left t i).0

  kept_so : IsLeftBy old.cache h.l.cache h.gone
  kept_so = kept m1 stands.cache.once stands.cache.tells stands.contents.zero its.sorted.left their h.l files h.gone
      h.made h.left

  agree : AgreeUnder (tokens_of h.l.cache.held) (content h.l.cache) (content old.cache)
  agree = shown_agree (tokens_of h.l.cache.held) (content h.l.cache) (content old.cache) kept_so.content_is
      kept_so.beyond

  labels_same : h.l.uses.labels ≡ old.uses.labels
  labels_same = ap (λ (z : InUse). z.labels) h.left.uses ∙ pinned_labels its.sorted.kept old.uses

  locks_same : (own_of x).locks ≡ (own_of old).locks
  locks_same i = flat_map (λ u. locks_under old.host u.token.kind u)
      (map labelled (labels_same i) ++ ones (h.left.ending i))

  opens_same : (own_of x).opens ≡ (own_of old).opens
  opens_same i = flat_map (λ u. opens_under old.host u.token.kind u)
      (map labelled (labels_same i) ++ ones (h.left.ending i))

  alike : (call : Call) → AsksAlike (content old.cache) (look_from x call) (look_from old call)
  alike call = call_alike (content old.cache) (own_of x) (own_of old) locks_same opens_same (λ server name. refl)
      old.host old.user call

  back_alike : (call : Call) → AsksAlike (content old.cache) (look_from old call) (look_from x call)
  back_alike call = call_alike (content old.cache) (own_of old) (own_of x) (sym locks_same) (sym opens_same)
      (λ server name. refl) old.host old.user call

  -- the call lacks a token, or it asks as before
  abbrev pub Why : Call → Type 0
  Why call = ((need : Need) × IsLack x call need)
      ⊎ ((question : Question) × (verdict_from x call ≡ Asks question) × IsCoveredFrom x call)

  why : (c : Asked) → old.call ≡ Some c → (old.request ≡ None → ⊥) → Why c.call
  why c e busy = elim (decide_all (tokens_of h.l.cache.held) (needs_from x c.call)) [
    | inr q ↦ inl q
    | inl all ↦
        let same = needs_alike (tokens_of h.l.cache.held) (content h.l.cache) (content old.cache) agree
        (look_from x c.call) all ∙ (alike c.call).needs in
        let before = cover_more (tokens_of h.l.cache.held) (held_of old) within (needs_from old c.call)
        (subst (CoverAll (tokens_of h.l.cache.held)) same all) in
        elim (running.asking c e busy) [
          | inl q ↦ absurd ((lacks_are_first (held_of old) (needs_from old c.call)).none before q.0 q.1)
          | inr q ↦ inr (
            q.0,
            outcome_alike (tokens_of h.l.cache.held) (content h.l.cache) (content old.cache) agree
                (look_from x c.call) all ∙ (back_alike c.call).asks q.0 q.1,
            all,
          )
        ]
  ]

  rests_so : (c : Asked) → old.call ≡ Some c → (old.request ≡ None → ⊥) → IsWaiting x (s ∷ past) c.call
      → IsAtRest x (s ∷ past)
  rests_so c e busy waiting = elim (why c e busy) [
    | inl q ↦ lack_rests x (s ∷ past) c q.0 e q.1 waiting
    | inr q ↦ ask_rests x (s ∷ past) c q.0 e q.1 waiting
  ]

  waits_so : (c : Asked) → old.call ≡ Some c → (q : Request) → old.request ≡ Some q → Goal revoked.tables revoked.draft
  waits_so c e (AFetch f) asked =
      let busy : old.request ≡ None → ⊥ = λ none. let p = sym none ∙ asked in cc in
      let a = (stands.request.fetch f asked).1 in
      is_goal (its_runs
      (λ stance kept held own user d o. inl (f.fid.fileset, f.number, still_asking f.fid.fileset f.number a))
      (rests_so c e busy (ForGrant f asked)) (λ d g b. why d g b))
  waits_so c e (AChange v k) asked =
      let busy : old.request ≡ None → ⊥ = λ none. let p = sym none ∙ asked in cc in
      let a = (stands.request.change v k asked).1 in
      is_goal (its_runs
      (λ stance kept held own user d o. inr (inl (v, k.fileset, k.number, still_changing v k.fileset k.number a)))
      (rests_so c e busy (ForDone v k asked)) (λ d g b. why d g b))

  pub waits_revoked : (c : Asked) → old.call ≡ Some c → (old.request ≡ None → ⊥) → Goal revoked.tables revoked.draft
  waits_revoked c e busy = by_request old.request refl
    where
      by_request : (o : Option Request) → old.request ≡ o → Goal revoked.tables revoked.draft
      by_request None q = absurd (busy q)
      by_request (Some a) q = waits_so c e a q

  -- # A call is open, and nothing is asked: what is said of it, if anything
  -- facts of the step
  pub counts_r : RevokeCounts old past message.server message.epoch 0 r
  counts_r = counts script old past message running sound_m no_moves r body present (floors_by old r) (raises old r)
      (floors_of old r) its.sorted.kept its.sorted.left its.sorted.back its.sorted.given sorts h.l h.lost h.gone h.made
      h.sent h.due h.left first (first_is m its.sorted.kept its.sorted.given)
      (is_first m its.sorted.kept its.sorted.given) h.said h.loses sound sound_l

  pub tidy_x : IsTidy script.roster x
  tidy_x = tidy_by script old past message running sound_m no_moves r body present (floors_by old r) (raises old r)
      (floors_of old r) its.sorted.kept its.sorted.left its.sorted.back its.sorted.given sorts h.l h.lost h.gone h.made
      h.sent h.due h.left first (first_is m its.sorted.kept its.sorted.given)
      (is_first m its.sorted.kept its.sorted.given) h.said h.loses sound sound_l (floors_by old r) h.lost
      (floors_of old r)

  -- what is known of the step with the answers alone
  right_x : LeavesRight m h.l past s
  right_x = revoked_of.right script old past message running sound_m no_moves r body present (floors_by old r)
      (raises old r)
      (floors_of old r) its.sorted.kept its.sorted.left its.sorted.back its.sorted.given sorts h.l h.lost h.gone h.made
      h.sent h.due h.left first (first_is m its.sorted.kept its.sorted.given)
      (is_first m its.sorted.kept its.sorted.given) h.said h.loses sound sound_l

  pub keeping_x : Keeping m past s (tokens_of h.l.cache.held)
  keeping_x = revoked_of.keeping script old past message running sound_m no_moves r body present (floors_by old r)
      (raises old r)
      (floors_of old r) its.sorted.kept its.sorted.left its.sorted.back its.sorted.given sorts h.l h.lost h.gone h.made
      h.sent h.due h.left first (first_is m its.sorted.kept its.sorted.given)
      (is_first m its.sorted.kept its.sorted.given) h.said h.loses sound sound_l

  gives_x : GivesBack m past s (tokens_of h.l.cache.held)
  gives_x = revoked_of.gives script old past message running sound_m no_moves r body present (floors_by old r)
      (raises old r)
      (floors_of old r) its.sorted.kept its.sorted.left its.sorted.back its.sorted.given sorts h.l h.lost h.gone h.made
      h.sent h.due h.left first (first_is m its.sorted.kept its.sorted.given)
      (is_first m its.sorted.kept its.sorted.given) h.said h.loses sound sound_l

  why_x : (d : Leave) → In d (map (leaves_by Revoked) h.gone)
      → (d.why ≡ Revoked) × In d.token.id r.ids × (InUseHere old d.token.id → ⊥)
  why_x = revoked_of.why script old past message running sound_m no_moves r body present (floors_by old r)
      (raises old r)
      (floors_of old r) its.sorted.kept its.sorted.left its.sorted.back its.sorted.given sorts h.l h.lost h.gone h.made
      h.sent h.due h.left first (first_is m its.sorted.kept its.sorted.given)
      (is_first m its.sorted.kept its.sorted.given) h.said h.loses sound sound_l

  due_x : (g : Give) → IsFirst h.l.gives g → (IsFirst old.gives g → ⊥)
      → SendsTo s (stay_of (s ∷ past) g.fid.fileset) (GiveBack g)
  due_x = revoked_of.due script old past message running sound_m no_moves r body present (floors_by old r)
      (raises old r)
      (floors_of old r) its.sorted.kept its.sorted.left its.sorted.back its.sorted.given sorts h.l h.lost h.gone h.made
      h.sent h.due h.left first (first_is m its.sorted.kept its.sorted.given)
      (is_first m its.sorted.kept its.sorted.given) h.said h.loses sound sound_l

  loses_x : LostStands h.lost old.call (s ∷ past)
  loses_x = revoked_of.loses script old past message running sound_m no_moves r body present (floors_by old r)
      (raises old r)
      (floors_of old r) its.sorted.kept its.sorted.left its.sorted.back its.sorted.given sorts h.l h.lost h.gone h.made
      h.sent h.due h.left first (first_is m its.sorted.kept its.sorted.given)
      (is_first m its.sorted.kept its.sorted.given) h.said h.loses sound sound_l

  sound_x : (y : Message) → In y s.sent → IsSound script.roster y
  sound_x = revoked_of.sound_y script old past message running sound_m no_moves r body present (floors_by old r)
      (raises old r)
      (floors_of old r) its.sorted.kept its.sorted.left its.sorted.back its.sorted.given sorts h.l h.lost h.gone h.made
      h.sent h.due h.left first (first_is m its.sorted.kept its.sorted.given)
      (is_first m its.sorted.kept its.sorted.given) h.said h.loses sound sound_l

  says_x : (y : Message) → In y s.sent → (y.epoch ≡ (site_at old.sites y.server).epoch) × (y.moves ≡ 0)
      × SaysRevoked old h.l r h.made y.server y.body
  says_x y i =
      let q = revoked_of.says script old past message running sound_m no_moves r body present (floors_by old r)
      (raises old r)
      (floors_of old r) its.sorted.kept its.sorted.left its.sorted.back its.sorted.given sorts h.l h.lost h.gone h.made
      h.sent h.due h.left first (first_is m its.sorted.kept its.sorted.given)
      (is_first m its.sorted.kept its.sorted.given) h.said h.loses sound sound_l y i in
      (q.0.epoch_is, q.0.no_moves, q.2)

  abbrev learnt_m : Stands script m (half s ∷ past)
  learnt_m = revoke_stands script old past message.server message.epoch 0 r (floors_by old r) stands counts_r
      (raises old r)

  no_learn : (n : AppliedGive) → Learns past s n → ⊥
  no_learn n k = elim k.1 [
    | inl q ↦ (let p = no_come q.0 q.1 ∙ q.5 in absurd (cc))
    | inr q ↦ (let p = no_come q.2.0 q.2.1 ∙ q.2.5 in absurd (cc))
  ]

  known_before : (g : Give) → IsKnown (s ∷ past) g → IsKnown past g
  known_before g (inl learns) = absurd (no_learn (number_of g) learns)
  known_before g (inr known) = known

  new_unknown : (g : Give) → In g h.made → IsKnown (s ∷ past) g → ⊥
  new_unknown g i known =
      let q = known_made past (number_of g) (known_before g known) in
      let same : q.0.fid.fileset ≡ g.fid.fileset = ap (λ (n : AppliedGive). n.fileset) q.2 in
      let number : q.0.number ≡ g.number = ap (λ (n : AppliedGive). n.number) q.2 in
      let low : q.0.number ≤ last_of old.gives.counters g.fid.fileset =
      subst (λ (f : FilesetId). q.0.number ≤ last_of old.gives.counters f) same (stands.gives.last q.0 q.1) in
      let up = h.left.above g i in omega (arith, number, low, up)

  welcome_before : (v : ServerId) → IsWelcome (s ∷ past) v → IsWelcome past v
  welcome_before v (inl q) = (let p = no_come q.1.1.0 q.1.1.1 ∙ q.1.1.5 in absurd (cc))
  welcome_before v (inr q) = q

  greeted_on : (v : ServerId) → HasGreeted past v → HasGreeted (s ∷ past) v
  greeted_on v g = (g.0, g.1, inr g.2)

  -- a give-back of the file is on its way
  file_open : (fid : Fid) → list_any (is_of_file fid) h.l.gives.gives ≡ true → GiveOpen (s ∷ past) fid
  file_open fid e =
      let k = in_any (is_of_file fid) h.l.gives.gives e in
      elim (h.left.gives_from k.0 k.1) [
        | inl was ↦ (
            let z = stands.gives.made k.0 was in
            (z.0, inr z.2, file_is k.0 z.0 z.1 k.2, λ known. z.3 (known_before z.0 known))
            )
        | inr q ↦ (q.0, inl q.2, file_is k.0 q.0 q.1 k.2, new_unknown q.0 q.2)
      ]
    where
      file_is : (y : Message) (g : Give) → y.body ≡ GiveBack g → is_of_file fid y ≡ true → g.fid ≡ fid
      file_is y g b t = same_fid_is g.fid fid (subst (λ (z : Body).
          option_map_or (λ (give : Give). same_fid give.fid fid) (given_in z) false ≡ true) b t)

  module _ (c : Asked) (e : old.call ≡ Some c) (none : old.request ≡ None) where
    abbrev call : Call
    call = c.call

    only_open : (d : Asked) → OpenCall (s ∷ past) d → d ≡ c
    only_open d o = elim o [
      | inl q ↦ absurd (let p = q in cc)
      | inr q ↦ (let p : Some d ≡ Some c = sym (stands.call.asked d q.0) ∙ e in cc)
    ]

    idle_x : AsksForCall x
    idle_x d g busy = absurd (busy none)

    -- under what is kept the host sees what its tables show
    agree_s : AgreeUnder (tokens_of h.l.cache.held) (content old.cache) (sees past s)
    agree_s fid part c = agree_of script m past s learnt_m fid part
        (covers_more (tokens_of h.l.cache.held) (held_of old) within (record { fid = fid; kind = kind_for part }) c)

    -- so in each step that learns of the Revoke
    pub lack_in : (other : Step) → Stands script m (half other ∷ past) → (need : Need) → IsLack x call need
        → IsFirstLack (tokens_of h.l.cache.held) (needs_of (sees past other) (look_from old call)) need
    lack_in other learnt need lack =
        let one = lack_alike (tokens_of h.l.cache.held) (content h.l.cache) (content old.cache) agree
        (look_from x call) need lack in
        let two = subst (λ (ns : List Need). IsFirstLack (tokens_of h.l.cache.held) ns need) (alike call).needs one in
        lack_alike (tokens_of h.l.cache.held) (content old.cache) (sees past other)
        (λ fid part c. agree_of script m past other learnt fid part
        (covers_more (tokens_of h.l.cache.held) (held_of old) within (record { fid = fid; kind = kind_for part }) c))
        (look_from old call) need two

    module _ (stance : Stance script.roster old.host past s) (kept_is : stance.kept ≡ tokens_of h.l.cache.held)
        (own_is : stance.own ≡ own_of old) (user_is : stance.user ≡ old.user) where
      look_is : look_from old call ≡ look_of stance call
      look_is i = call_look (sym own_is i) old.host (sym user_is i) call

      lack_there : (need : Need) → IsLack x call need → FirstLack script.roster old.host past s stance call need
      lack_there need lack =
          let one = lack_alike (tokens_of h.l.cache.held) (content h.l.cache) (content old.cache) agree
          (look_from x call) need lack in
          let two = subst (λ (ns : List Need). IsFirstLack (tokens_of h.l.cache.held) ns need) (alike call).needs one in
          let three = lack_alike (tokens_of h.l.cache.held) (content old.cache) (sees past s) agree_s
          (look_from old call) need two in
          subst (λ (q : List Token × Look Verdict). IsFirstLack q.0 (needs_of (sees past s) q.1) need)
          (λ i. (sym kept_is i, look_is i)) three

      covered_there : IsCoveredFrom x call
          → IsCovered stance.kept (sees past s) (look_of stance call)
      covered_there all =
          let one = subst (CoverAll (tokens_of h.l.cache.held)) (needs_alike (tokens_of h.l.cache.held)
          (content h.l.cache) (content old.cache) agree (look_from x call) all ∙ (alike call).needs) all in
          let two = covered_alike (tokens_of h.l.cache.held) (content old.cache) (sees past s) agree_s
          (look_from old call) one in
          subst (λ (q : List Token × Look Verdict). CoverAll q.0 (needs_of (sees past s) q.1))
          (λ i. (sym kept_is i, look_is i)) two

      verdict_there : IsCoveredFrom x call → outcome (sees past s) (look_of stance call) ≡ verdict_from old call
      verdict_there all =
          let one = subst (CoverAll (tokens_of h.l.cache.held)) (needs_alike (tokens_of h.l.cache.held)
          (content h.l.cache) (content old.cache) agree (look_from x call) all ∙ (alike call).needs) all in
          ap (outcome (sees past s)) (sym look_is)
          ∙ sym (outcome_alike (tokens_of h.l.cache.held) (content old.cache) (sees past s) agree_s (look_from old call)
          one)

    -- # It lacks a token, and waits
    -- for a Gone
    pub waits_file : (need : Need) → IsLack x call need → list_any (is_of_file need.fid) h.l.gives.gives ≡ true
        → Goal revoked.tables revoked.draft
    waits_file need lack there = is_goal (its_runs
        (λ stance kept held own user d o. inr (inr (inl (inl (
          need,
          subst (λ (z : Asked). FirstLack script.roster old.host past s stance z.call need) (sym (only_open d o))
              (lack_there stance kept own user need lack),
          file_open need.fid there,
        )))))
        (lack_rests x (s ∷ past) c need e lack (ForFile need lack (file_open need.fid there))) idle_x)

    -- to be welcome
    pub waits_need : (need : Need) → IsLack x call need → (site_at old.sites (home_at need.fid.fileset)).greeted ≡ true
        → (site_at old.sites (home_at need.fid.fileset)).welcome ≡ false → Goal revoked.tables revoked.draft
    waits_need need lack greeted unwelcome =
        let v : ServerId = home need.fid.fileset in
        let at : home_at need.fid.fileset ≡ v =
        home_is script.roster x tidy_x need.fid.fileset (lack_declared script.roster x tidy_x call need lack) in
        let known : HasGreeted past v =
        (stands.sites v).greeted.0 (subst (λ (w : ServerId). (site_at old.sites w).greeted ≡ true) at greeted) in
        let not_yet : IsWelcome (s ∷ past) v → ⊥ =
        λ w. (let p = sym ((stands.sites v).welcome.1 (welcome_before v w))
        ∙ subst (λ (w : ServerId). (site_at old.sites w).welcome ≡ false) at unwelcome in cc) in
        is_goal (its_runs
        (λ stance kept held own user d o. inr (inr (inr (
          v,
          inl (
            need,
            subst (λ (z : Asked). FirstLack script.roster old.host past s stance z.call need) (sym (only_open d o))
                (lack_there stance kept own user need lack),
            refl,
          ),
          greeted_on v known,
          not_yet,
        ))))
        (lack_rests x (s ∷ past) c need e lack (ForNeed need lack (greeted_on v known) not_yet)) idle_x)

    -- # It is covered still, so it waits as before
    -- the host knows of itself what it did, but for more pins
    labels_on : (used : UseOf) → In used old.uses.labels → In used h.l.uses.labels
    labels_on used i = subst (λ (us : List UseOf). In used us) (sym labels_same) i

    last_still : (used : UseOf) → is_last_pinned old.uses used ≡ true → is_last_pinned h.l.uses used ≡ true
    last_still used t =
        let p = and_parts (is_last_use old.uses.labels used) (is_pinned old.uses used.token.id) t in
        and_from (is_last_use h.l.uses.labels used) (is_pinned h.l.uses used.token.id)
        (ap (λ (us : List UseOf). is_last_use us used) labels_same ∙ p.0)
        (subst (λ (z : InUse). is_pinned z used.token.id ≡ true) (sym h.left.uses)
        (still_pinned its.sorted.kept old.uses used.token.id p.1))

    label_still : (lock : Bool) (label : List ℕ) → gives_label old lock label ≡ true → gives_label x lock label ≡ true
    label_still lock label t = by_pinned (list_any (λ used. is_labelled lock label used && is_last_pinned old.uses used)
        old.uses.labels) refl t
      where
        by_pinned : (b : Bool)
            → list_any (λ used. is_labelled lock label used && is_last_pinned old.uses used) old.uses.labels ≡ b
            → (b || ends_label lock label old.ending) ≡ true → gives_label x lock label ≡ true
        by_pinned true q f =
            let k = in_any (λ used. is_labelled lock label used && is_last_pinned old.uses used) old.uses.labels q in
            let p = and_parts (is_labelled lock label k.0) (is_last_pinned old.uses k.0) k.2 in
            or_left (list_any (λ used. is_labelled lock label used && is_last_pinned h.l.uses used) h.l.uses.labels)
            (ends_label lock label h.l.ending)
            (any_in (λ used. is_labelled lock label used && is_last_pinned h.l.uses used) h.l.uses.labels k.0
            (labels_on k.0 k.1) (and_from (is_labelled lock label k.0) (is_last_pinned h.l.uses k.0) p.0
            (last_still k.0 p.1)))
        by_pinned false q f =
            or_right (list_any (λ used. is_labelled lock label used && is_last_pinned h.l.uses used) h.l.uses.labels)
            (ends_label lock label h.l.ending) (ap (ends_label lock label) h.left.ending ∙ f)

    -- what was to be given back of a file is, or is on its way
    spans_at : (d : Dirty) (fid : Fid) → has_dirty_byte d fid ≡ true → (at : ℕ) × (is_dirty_in d fid at ≡ true)
    spans_at d fid t =
        let k = in_any (λ (span : Span). nat_lt span.from span.to) (spans_of d fid) t in (
          k.0.from,
          any_in (λ (span : Span). has_byte span k.0.from) (spans_of d fid) k.0 k.1
              (and_from (nat_le k.0.from k.0.from) (nat_lt k.0.from k.0.to) (grind (arith, common_steps)) k.2),
        )

    at_spans : (d : Dirty) (fid : Fid) (at : ℕ) → is_dirty_in d fid at ≡ true → has_dirty_byte d fid ≡ true
    at_spans d fid at t =
        let k = in_any (λ (span : Span). has_byte span at) (spans_of d fid) t in
        let p = and_parts (nat_le k.0.from at) (nat_lt at k.0.to) k.2 in
        let low : nat_le k.0.from at ≡ true = p.0 in let high : nat_lt at k.0.to ≡ true = p.1 in
        any_in (λ (span : Span). nat_lt span.from span.to) (spans_of d fid) k.0 k.1
        (grind (arith, common_steps, low, high))

    clean_before : (fid : Fid) → is_clean_file x fid ≡ true → is_clean_file old fid ≡ true
    clean_before fid t =
        let p = and_parts (not (has_dirty_byte h.l.dirty fid)
        && not (is_length_dirty (tokens_of h.l.cache.held) h.l.lengths (content h.l.cache) fid))
        (not (list_any (is_of_file fid) h.l.gives.gives)) t in
        let q = and_parts (not (has_dirty_byte h.l.dirty fid))
        (not (is_length_dirty (tokens_of h.l.cache.held) h.l.lengths (content h.l.cache) fid)) p.0 in
        let none_given : (g : Give) → In g h.made → g.fid ≡ fid → ⊥ = λ g i at.
        let y = h.left.gives_new g i in
        not_true (list_any (is_of_file fid) h.l.gives.gives) p.1 (any_in (is_of_file fid) h.l.gives.gives y.0 y.1
        (subst (λ (z : Body). option_map_or (λ (give : Give). same_fid give.fid fid) (given_in z) false ≡ true)
        (sym y.2)
        (fid_same g.fid fid at))) in
        and_from (not (has_dirty_byte old.dirty fid)
        && not (is_length_dirty (held_of old) old.lengths (content old.cache) fid))
        (not (list_any (is_of_file fid) old.gives.gives))
        (and_from (not (has_dirty_byte old.dirty fid))
        (not (is_length_dirty (held_of old) old.lengths (content old.cache) fid))
        (true_not (has_dirty_byte old.dirty fid) (no_bytes fid none_given q.0))
        (true_not (is_length_dirty (held_of old) old.lengths (content old.cache) fid) (no_length fid none_given q.1)))
        (true_not (list_any (is_of_file fid) old.gives.gives) (λ f.
        let k = in_any (is_of_file fid) old.gives.gives f in
        not_true (list_any (is_of_file fid) h.l.gives.gives) p.1
        (any_in (is_of_file fid) h.l.gives.gives k.0 (h.left.gives_old k.0 k.1) k.2)))
      where
        no_bytes : (fid : Fid) → ((g : Give) → In g h.made → g.fid ≡ fid → ⊥)
            → not (has_dirty_byte h.l.dirty fid) ≡ true → has_dirty_byte old.dirty fid ≡ true → ⊥
        no_bytes fid none_given clean f =
            let k = spans_at old.dirty fid f in
            let given : list_any (λ give. same_fid give.fid fid && is_some (byte_of give.pieces k.0)) h.made ≡ false =
            false_any (λ (give : Give). same_fid give.fid fid && is_some (byte_of give.pieces k.0)) h.made
            (λ g i t. none_given g i (same_fid_is g.fid fid (and_parts (same_fid g.fid fid)
            (is_some (byte_of g.pieces k.0)) t).0)) in
            let still : is_dirty_in h.l.dirty fid k.0 ≡ true = h.left.dirty fid k.0
            ∙ (λ i. k.1 i && not (given i)) in
            not_true (has_dirty_byte h.l.dirty fid) clean (at_spans h.l.dirty fid k.0 still)

        no_length : (fid : Fid) → ((g : Give) → In g h.made → g.fid ≡ fid → ⊥)
            → not (is_length_dirty (tokens_of h.l.cache.held) h.l.lengths (content h.l.cache) fid) ≡ true
            → is_length_dirty (held_of old) old.lengths (content old.cache) fid ≡ true → ⊥
        no_length fid none_given clean f =
            let p = and_parts (list_any (is_updating fid) (held_of old))
            (not (is_length_clean old.lengths (content old.cache) fid)) f in
            let k = in_any (is_updating fid) (held_of old) p.0 in
            let u = and_parts (same_fid k.0.fid fid) (updates_status k.0.kind) k.2 in
            let at = same_fid_is k.0.fid fid u.0 in
            elim (left_or_gone k.0 k.1) [
              | inl gone ↦
                  let dirty : is_some (dirty_length old fid) ≡ true =
                  ap (λ (b : Bool). is_some (if b then Some (content old.cache fid Size) else None)) f in
                  let g = h.left.has k.0 gone (inr (inr (
                    u.1,
                    subst (λ (z : Fid). is_some (dirty_length old z) ≡ true) (sym at) dirty,
                  ))) in
                  none_given g.0 g.1 (g.2 ∙ at)
              | inr here ↦
                  let any = any_in (is_updating fid) (tokens_of h.l.cache.held) k.0 here k.2 in
                  let size : content h.l.cache fid Size ≡ content old.cache fid Size =
                  agree fid Size (status_covers k.0 fid (tokens_of h.l.cache.held) here at u.1) in
                  let lengths = h.left.length_old fid (λ g i has. none_given g i has.0) in
                  let unclean : is_length_clean h.l.lengths (content h.l.cache) fid ≡ false =
                  (λ i. option_map_or (λ (given : Given). (given.length == size i) && given.known) (lengths i) false)
                  ∙ not_false (is_length_clean old.lengths (content old.cache) fid) p.1 in
                  not_true (is_length_dirty (tokens_of h.l.cache.held) h.l.lengths (content h.l.cache) fid) clean
                  (and_from (list_any (is_updating fid) (tokens_of h.l.cache.held))
                  (not (is_length_clean h.l.lengths (content h.l.cache) fid)) any
                  (false_not (is_length_clean h.l.lengths (content h.l.cache) fid) unclean))
            ]
          where
            left_or_gone : (t : Token) → In t (held_of old) → In t h.gone ⊎ In t (tokens_of h.l.cache.held)
            left_or_gone t i = gone_or m1 stands.cache.once stands.cache.tells stands.contents.zero its.sorted.left
                their
                h.l files h.gone h.made h.left t i

    unclean_still : (fid : Fid) → is_clean_file old fid ≡ false → is_clean_file x fid ≡ false
    unclean_still fid f = elim (by_test (is_clean_file x fid)) [
      | inr n ↦ n
      | inl t ↦ absurd (true_false (is_clean_file old fid) (clean_before fid t) f)
    ]

    still_gives : GivesStill (own_of old) (own_of x)
    still_gives = record {
      locks = sym locks_same;
      opens = sym opens_same;
      seen = λ server name. refl;
      lock = label_still true;
      opening = label_still false;
      unclean = unclean_still;
    }

    -- its verdict is the same
    all_before : IsCoveredFrom x call → CoverAll (tokens_of h.l.cache.held) (needs_from old call)
    all_before all = subst (CoverAll (tokens_of h.l.cache.held)) (needs_alike (tokens_of h.l.cache.held)
        (content h.l.cache) (content old.cache) agree (look_from x call) all ∙ (alike call).needs) all

    covered_before : IsCoveredFrom x call → IsCoveredFrom old call
    covered_before all = cover_more (tokens_of h.l.cache.held) (held_of old) within (needs_from old call)
        (all_before all)

    no_lack : IsCoveredFrom x call → (need : Need) → IsLack old call need → ⊥
    no_lack all need lack =
        (lacks_are_first (held_of old) (needs_from old call)).none (covered_before all) need lack

    asks_still : IsCoveredFrom x call → (q : Question) → verdict_from old call ≡ Asks q → verdict_from x call ≡ Asks q
    asks_still all q v =
        outcome_alike (tokens_of h.l.cache.held) (content h.l.cache) (content old.cache) agree (look_from x call) all
        ∙ (back_alike call).asks q v

    gives_too : IsCoveredFrom x call → verdict_from old call ≡ Gives → verdict_from x call ≡ Gives
    gives_too all v =
        outcome_alike (tokens_of h.l.cache.held) (content h.l.cache) (content old.cache) agree (look_from x call) all
        ∙ gives_still (content old.cache) (own_of old) (own_of x) still_gives old.host old.user call v

    -- for what it waits, so
    pub data WaitsStill : Type 0 where
      AsksOn : (q : Question) → verdict_from old call ≡ Asks q → verdict_from x call ≡ Asks q
          → HasGreeted past (stay_asked past q).server → (IsWelcome past (stay_asked past q).server → ⊥) → WaitsStill
      GivesOn : (g : Give) → verdict_from old call ≡ Gives → verdict_from x call ≡ Gives → Made past g
          → (IsKnown past g → ⊥) → WaitsStill

    pub waits_still : IsCoveredFrom x call → WaitsStill
    waits_still all = by_waiting (running.rests.rest.waits c e)
      where
        by_waiting : IsWaiting old past call → WaitsStill
        by_waiting (ForGrant f q) = absurd (let p = sym none ∙ q in cc)
        by_waiting (ForDone v k q) = absurd (let p = sym none ∙ q in cc)
        by_waiting (ForFile need lack g) = absurd (no_lack all need lack)
        by_waiting (ForNeed need lack greeted unwelcome) = absurd (no_lack all need lack)
        by_waiting (ForGone g covered verdict made unknown) = GivesOn g verdict (gives_too all verdict) made unknown
        by_waiting (ForQuestion q fid (inl a) greeted unwelcome) = AsksOn q a.0 (asks_still all q a.0) greeted unwelcome
        by_waiting (ForQuestion q fid (inr a) greeted unwelcome) = absurd (no_lack all a.0 a.1)

    ending_same : h.l.ending ≡ old.ending
    ending_same = h.left.ending

    -- what waits for a Gone has no use that ends, or has ended it
    stay_same : (q : Question) → (stay_asked (s ∷ past) q).server ≡ (stay_asked past q).server
    stay_same (EnterAt server) = refl
    stay_same (ChangeIn fileset) = refl
    stay_same (ChangeAt server) = refl

    -- the end of a label gives back where it was given back already
    frees_none : old.ending ≡ None → (u : Labelled) → NeedsServer past s u → call ≡ end_of u → ⊥
    frees_none no_end u (inl f) is = running.rests.rest.freed c u e is f
    frees_none no_end u (inr g) is =
        let p = stands.leaving.ended u g.0 g.1 (λ known. g.2 (inr known)) in
        let q = sym no_end ∙ p in absurd (cc)

    ends_some : (lock : Bool) (label : List ℕ) → call ≡ ending_of lock label → verdict_from old call ≡ Gives
        → old.ending ≡ None → ⊥
    ends_some true label is v no_end =
        let gives = unlock_gives (content old.cache) (own_of old) old.host old.user label
        (ap (verdict_from old) (sym is) ∙ v) in
        let k = (knows_of script m past s learnt_m).gives_lock label in
        let n = k.0 gives in
        frees_none no_end n.1 n.4 (is ∙ sym (ap (λ (z : Kind). end_call z n.1.label) n.3.3 ∙ ap Unlock n.2))
    ends_some false label is v no_end =
        let gives = close_gives (content old.cache) (own_of old) old.host old.user label
        (ap (verdict_from old) (sym is) ∙ v) in
        let k = (knows_of script m past s learnt_m).gives_open label in
        let n = k.0 gives in
        frees_none no_end n.1 n.4 (is ∙ sym (ap (λ (z : Kind). end_call z n.1.label) n.3.3 ∙ ap CloseFile n.2))

    -- no label in use has the same end, while it waits
    none_frees : verdict_from old call ≡ Gives → (u : Labelled) → call ≡ end_of u → FreesPinned (s ∷ past) u → ⊥
    none_frees v u is f = by_ending old.ending refl
      where
        used : LabelInUse past u
        used = elim f.0.0 [ inl n ↦ elim n [ ] | inr q ↦ q.0 ]

        end_by : (k : Kind) → IsUseKind k → u.token.kind ≡ k → old.ending ≡ None → ⊥
        end_by (Lock writing span) used_kind k no_end = ends_some true u.label
            (is ∙ ap (λ (z : Kind). end_call z u.label) k) v no_end
        end_by (Opening kind) used_kind k no_end = ends_some false u.label
            (is ∙ ap (λ (z : Kind). end_call z u.label) k) v no_end
        end_by (Bytes update span) used_kind k no_end = absurd used_kind
        end_by (Status update) used_kind k no_end = absurd used_kind

        by_ending : (o : Option Labelled) → old.ending ≡ o → ⊥
        by_ending None q = end_by u.token.kind (stands.uses.kinds u used) refl q
        by_ending (Some w) q =
            let n = running.ending w q in
            let p : Some n.0 ≡ Some c = sym n.1 ∙ e in
            let same : n.0 ≡ c = cc in
            n.4 (record { label = u.label; token = u.token }) (stands.uses.labels u used)
            (sym is ∙ ap (λ (z : Asked). z.call) (sym same) ∙ n.2)

    -- a Sync finds nothing dirty
    finds_before : (place : NamedPlace) (fid : Fid) → SyncFinds x place fid → SyncFinds old place fid
    finds_before place fid f =
        let look = file_look old.user (root_of f.id) place.path in
        let covered = cover_more (tokens_of h.l.cache.held) (held_of old) within (needs_of (content old.cache) look)
        (covered_alike (tokens_of h.l.cache.held) (content h.l.cache) (content old.cache) agree look f.covered) in
        record {
          id = f.id;
          nature = f.nature;
          seen = f.seen;
          covered = covered;
          found = sym (outcome_alike (tokens_of h.l.cache.held) (content h.l.cache) (content old.cache) agree look
              f.covered) ∙ f.found;
        }

    dirty_before : (t : Token) → In t (tokens_of h.l.cache.held) → IsDirtyFrom x (s ∷ past) t → IsDirtyFrom old past t
    dirty_before t i (inl b) = inl (
      b.0,
      (b.1.0, (and_parts (is_dirty past t.fid b.0) (not (gives_at s t.fid b.0)) b.1.1).0),
    )
    dirty_before t i (inr b) = inr (
      b.0,
      elim (by_test (is_length_clean old.lengths (content old.cache) t.fid)) [
        | inr n ↦ n
        | inl clean ↦ absurd (
            let none_given : (g : Give) → In g h.made → HasLength g t.fid → ⊥ = λ g k has.
            let p = sym (ap (dirty_length old) (sym has.0) ∙ sym (h.left.part g k).length) in
            length_none t.fid clean (has.1.0)
            (ap (dirty_length old) (sym has.0) ∙ sym (h.left.part g k).length ∙ has.1.1) in
            let size : content h.l.cache t.fid Size ≡ content old.cache t.fid Size =
            agree t.fid Size (status_covers t t.fid (tokens_of h.l.cache.held) i refl b.0) in
            let lengths = h.left.length_old t.fid none_given in
            true_false (is_length_clean h.l.lengths (content h.l.cache) t.fid)
            ((λ j. option_map_or (λ (given : Given). (given.length == size j) && given.known) (lengths j) false)
            ∙ clean)
            b.1)
      ],
    )
      where
        length_none : (fid : Fid) → is_length_clean old.lengths (content old.cache) fid ≡ true → (n : ℕ)
            → dirty_length old fid ≡ Some n → ⊥
        length_none fid clean n q = by_any (list_any (is_updating fid) (held_of old))
            (sym (ap (λ (b : Bool). if list_any (is_updating fid) (held_of old) && not b
            then Some (content old.cache fid Size) else None) clean) ∙ q)
          where
            by_any : (b : Bool) → (if b && not true then Some (content old.cache fid Size) else None) ≡ Some n → ⊥
            by_any true w = absurd (cc)
            by_any false w = absurd (cc)

    none_synced : (place : NamedPlace) (fid : Fid) (t : Token) → call ≡ Sync place → SyncFinds x place fid
        → In t (tokens_of h.l.cache.held) → t.fid ≡ fid → IsDirtyFrom x (s ∷ past) t → ⊥
    none_synced place fid t is f i at d = running.rests.rest.synced c place fid t e is (finds_before place fid f)
        (within t i) at (dirty_before t i d)

    -- it waits on
    pub rests_still : (all : IsCoveredFrom x call) → WaitsStill → Goal revoked.tables revoked.draft
    rests_still all (AsksOn q v v_x greeted unwelcome) =
        let at = stay_same q in
        let known = greeted_on (stay_asked (s ∷ past) q).server (subst (HasGreeted past) (sym at) greeted) in
        let not_yet : IsWelcome (s ∷ past) (stay_asked (s ∷ past) q).server → ⊥ =
        λ w. unwelcome (subst (IsWelcome past) at (welcome_before (stay_asked (s ∷ past) q).server w)) in
        is_goal (its_runs
        (λ stance kept held own user d o. inr (inr (inr (
          (stay_asked (s ∷ past) q).server,
          inr (
            q,
            no_fid,
            subst (λ (z : Asked). AsksServer script.roster old.host past s stance z.call q no_fid)
                (sym (only_open d o)) (inl (
                  verdict_there stance kept own user all ∙ v,
                  covered_there stance kept own user all,
                  refl,
                )),
            refl,
          ),
          known,
          not_yet,
        ))))
        (ask_rests x (s ∷ past) c q e v_x (ForQuestion q no_fid (inl (v_x, all, refl)) known not_yet)) idle_x)
    rests_still all (GivesOn g v v_x made unknown) = is_goal (its_runs
        (λ stance kept held own user d o. inr (inr (inl (inr (
          subst (λ (z : Asked). verdict_in stance z.call ≡ Gives) (sym (only_open d o))
              (verdict_there stance kept own user all ∙ v),
          (g, inr made, λ known. unknown (known_before g known)),
        )))))
        (give_rests x (s ∷ past) c g e v_x all (inr made) (λ known. unknown (known_before g known)) none_synced
        (none_frees v)) idle_x)

    -- # By what the code makes of it
    abbrev silenced : Doing
    silenced = doing (record x { call = None }) revoked.draft

    uses_x : AreUses (record x { call = None })
    uses_x =
        let u = uses_are script old past stands in record {
          labels = λ used i. u.labels used (subst (λ (us : List UseOf). In used us) labels_same i);
          ending = λ w q. u.ending w (sym ending_same ∙ q);
        }

    comes : (root : Fid) (path : List (List ℕ)) → WalksSo (record x { call = None }) call root path
        → (made : Result Judged Stop) → Walked (record x { call = None }) call root path made
        → (v : Result Judged Refusal) → IsVerdictOf made v
        → IsCoveredFrom x call × (verdict_from x call ≡ meant x call v)
    comes root path walks made walked v is =
        let k = comes_out (record x { call = None }) call root path tidy_x.sizes made walked v is in
        let look = walks uses_x in (
          subst (IsCovered (tokens_of h.l.cache.held) (content h.l.cache)) (sym look) k.0,
          ap (outcome (content h.l.cache)) look ∙ k.1,
        )

    lack_x : (root : Fid) (path : List (List ℕ)) → WalksSo (record x { call = None }) call root path → (need : Need)
        → Walked (record x { call = None }) call root path (Err (Lacks need)) → IsLack x call need
    lack_x root path walks need walked =
        subst (λ (l : Look Verdict). IsFirstLack (tokens_of h.l.cache.held) (needs_of (content h.l.cache) l) need)
        (sym (walks uses_x)) walked

    -- what is settled isn't waited for
    NotWaiting : Verdict → Type 0
    NotWaiting Gives = ⊥
    NotWaiting (Asks q) = ⊥
    NotWaiting _ = Unit {0}

    used_apart : (fid : Fid) (kind : Kind) → NotWaiting (used_by fid kind)
    unfolding NotWaiting
    used_apart fid (Lock writing span) = tt
    used_apart fid (Opening kind) = tt
    used_apart fid (Bytes update span) = tt
    used_apart fid (Status update) = tt

    settled_apart : (z : Tables) (v : Result Judged Refusal) → is_settled v ≡ true → NotWaiting (meant z call v)
    unfolding NotWaiting
    settled_apart z (Err refusal) t = tt
    settled_apart z (Ok Does) t = tt
    settled_apart z (Ok (Reads fid span)) t = tt
    settled_apart z (Ok (Lists fid)) t = tt
    settled_apart z (Ok (Tells fid)) t = tt
    settled_apart z (Ok (Shows fid which)) t = tt
    settled_apart z (Ok (WritesTo fid from to)) t = tt
    settled_apart z (Ok (UsesFile fid kind)) t = used_apart fid kind
    settled_apart z (Ok FreesLabel) t = tt
    settled_apart z (Ok (Syncs fid)) t = absurd (cc)
    settled_apart z (Ok GivesLabelUp) t = absurd (cc)
    settled_apart z (Ok (AsksAbout question)) t = absurd (cc)

    still_waits : (v : Result Judged Refusal) → verdict_from x call ≡ meant x call v → WaitsStill → is_settled v ≡ true
        → ⊥
    unfolding NotWaiting
    still_waits v says (AsksOn q v_old v_x greeted unwelcome) t =
        subst NotWaiting (sym says ∙ v_x) (settled_apart x v t)
    still_waits v says (GivesOn g v_old v_x made unknown) t = subst NotWaiting (sym says ∙ v_x) (settled_apart x v t)

    -- an answer is to what is settled
    answers_settled : (z : Tables) (v : Result Judged Refusal) (reply : Reply) → reply_now (meant z call v) ≡ Some reply
        → is_settled v ≡ true
    answers_settled z (Err refusal) reply q = refl
    answers_settled z (Ok Does) reply q = refl
    answers_settled z (Ok (Reads fid span)) reply q = refl
    answers_settled z (Ok (Lists fid)) reply q = refl
    answers_settled z (Ok (Tells fid)) reply q = refl
    answers_settled z (Ok (Shows fid which)) reply q = refl
    answers_settled z (Ok (WritesTo fid from to)) reply q = refl
    answers_settled z (Ok (UsesFile fid kind)) reply q = refl
    answers_settled z (Ok FreesLabel) reply q = refl
    answers_settled z (Ok (Syncs fid)) reply q = absurd (cc)
    answers_settled z (Ok GivesLabelUp) reply q = absurd (cc)
    answers_settled z (Ok (AsksAbout question)) reply q = absurd (cc)

    -- the server of a question, by the tables and by the rules
    server_is : (question : CallQuestion) → verdict_from old call ≡ Asks (asked_by question)
        → (stay_asked past (asked_by question)).server ≡ server_of question
    server_is (Enter server) v = refl
    server_is (AtServer server) v = refl
    server_is (Within fs) v =
        let about = questions_are_about_filesets (own_of old) old.host old.user call (content old.cache) (ChangeIn fs)
        v in
        sym (home_is script.roster old running.tidy fs
        (seen_declared script.roster old running.tidy about.0 about.1 fs about.3))

    abbrev EndsAs : Doing → Doing → Bool → Type 0
    EndsAs at gone b = at ≡ (if b then gone else record gone { tables = record gone.tables { call = Some c } })

    -- whatever holds of what is left as it was
    module _ (P : Doing → Type 0) (quiet : Goal revoked.tables revoked.draft → P revoked) (at : Doing) where
      silent_goal : (gone : Doing) → gone ≡ silenced → EndsAs at gone false → Goal revoked.tables revoked.draft
          → P at
      silent_goal gone same is goal =
          let there : at ≡ revoked =
          is ∙ ap (λ (z : Doing). record z { tables = record z.tables { call = Some c } }) same
          ∙ (λ i. doing (record x { call = (sym e) i }) revoked.draft)
          ∙ (λ i. doing (sym h.tables i) revoked.draft) in
          subst P (sym there) (quiet goal)

      settles_on : (v : Result Judged Refusal) → (all : IsCoveredFrom x call) → verdict_from x call ≡ meant x call v
          → ((fid : Fid) → v ≡ Ok (Syncs fid) → (t : Token) → In t (tokens_at x fid) → DirtyUnder x fid t → ⊥)
          → (gone : Doing) (b : Bool) → Settles c.k call false silenced gone v b → EndsAs at gone b
          → P at
      settles_on _ all says clean gone _ (SyncsIt fid leaves) is = by_tokens leaves.tokens leaves.dirty leaves.leaves
        where
          by_tokens : (ts : List Token) → AreDirty (record x { call = None }) fid ts
              → LeavesWhere (record x { call = None }) revoked.draft fid ts gone.tables gone.draft
              → P at
          by_tokens [] are same = silent_goal gone (λ i. doing (same.0 i) (same.1 i)) is (rests_still all
              (waits_still all))
          by_tokens (t ∷ ts) are left =
              let k = are.from t (inl refl) in absurd (clean fid refl t k.0 k.1)
      settles_on _ all says clean gone _ (GivesIt gives) is = by_use gives.lock gives.label gives.call_is gives.gives
        where
          old_gives : WaitsStill → verdict_from old call ≡ Gives
          old_gives (AsksOn q v_old v_x greeted unwelcome) = absurd (let p = sym says ∙ v_x in cc)
          old_gives (GivesOn g v_old v_x made unknown) = v_old

          by_use : (lock : Bool) (label : List ℕ) → call ≡ ending_of lock label
              → GivesUse lock label c.k silenced gone → P at
          by_use lock label call_is (HasEnded busy same) =
              silent_goal gone same is (rests_still all (waits_still all))
          by_use lock label call_is (IsUnused unused same) =
              silent_goal gone same is (rests_still all (waits_still all))
          by_use lock label call_is (IsLost no_end used found lost_it ended ends same) =
              absurd (ends_some lock label call_is (old_gives (waits_still all)) (sym ending_same ∙ no_end))
          by_use lock label call_is (EndsIt no_end used found ended ends left) =
              absurd (ends_some lock label call_is (old_gives (waits_still all)) (sym ending_same ∙ no_end))
      settles_on _ all says clean gone _ (AsksIt question asks) is = by_waiting (waits_still all)
        where
          by_waiting : WaitsStill → P at
          by_waiting (GivesOn g v_old v_x made unknown) = absurd (let p = sym says ∙ v_x in cc)
          by_waiting (AsksOn q v_old v_x greeted unwelcome) =
              let p : Asks (asked_by question) ≡ Asks q = sym says ∙ v_x in
              let same : q ≡ asked_by question = cc in
              let v_q = v_old ∙ ap Asks same in
              let to : (stay_asked past q).server ≡ server_of question =
              ap (λ (z : Question). (stay_asked past z).server) same ∙ server_is question v_q in
              let is_greeted : (site_at old.sites (server_of question)).greeted ≡ true =
              (stands.sites (server_of question)).greeted.1 (subst (HasGreeted past) to greeted) in
              let not_welcome : (site_at old.sites (server_of question)).welcome ≡ false =
              elim (by_test (site_at old.sites (server_of question)).welcome) [
                | inr n ↦ n
                | inl t ↦ absurd (unwelcome (subst (IsWelcome past) (sym to)
                    ((stands.sites (server_of question)).welcome.0 t)))
              ] in
              let silent : gone ≡ silenced =
              asks ∙ ap (λ (b : Bool). if b then changing (server_of question)
              (next_change silenced.tables (server_of question) (fileset_of question) no_fid (is_entering question) c.k
              call) silenced else coming_to (server_of question) silenced)
              (λ i. is_greeted i && not_welcome i)
              ∙ ap (λ (b : Bool). if b then silenced else greeting (server_of question) silenced) is_greeted in
              silent_goal gone silent is (rests_still all (AsksOn q v_old v_x greeted unwelcome))
      settles_on _ all says clean gone _ (AnswersIt v answered) is = absurd (still_waits v says (waits_still all)
          (answers_settled silenced.tables v answered.reply answered.right))

    -- nothing that a Sync finds is dirty under a token that is kept
    sync_clean : (root : Fid) (path : List (List ℕ)) → WalksSo (record x { call = None }) call root path → (fid : Fid)
        → Walked (record x { call = None }) call root path (Ok (Syncs fid))
        → LeadsSo (record x { call = None }) call root path (Syncs fid) → (t : Token) → In t (tokens_at x fid)
        → DirtyUnder x fid t → ⊥
    sync_clean root path walks fid walked leads t i dirty =
        let look : look_from x call ≡ path_look x call root path = walks uses_x in
        let k = comes_out (record x { call = None }) call root path tidy_x.sizes (Ok (Syncs fid)) walked
        (Ok (Syncs fid)) refl in
        let one = only_sync x call root path k.1 in
        let both = comes root path walks (Ok (Syncs fid)) walked (Ok (Syncs fid)) refl in
        let covered_s = subst (λ (z : Call). IsCoveredFrom x z) one.1 both.0 in
        let verdict_s = ap (verdict_from x) (sym one.1) ∙ both.1 in
        let look_s = subst (λ (z : Call). look_from x z ≡ path_look x z root path) one.1 look in
        let found = found_sync x one.0 covered_s verdict_s in
        let same : fid ≡ found.fid = finds_same x one.0 root path fid covered_s verdict_s look_s leads.0 in
        let f = file_at x fid t i in
        running.rests.rest.synced c one.0 fid t e one.1
        (finds_before one.0 fid (subst (SyncFinds x one.0) (sym same) found.finds)) (within t f.0) f.1
        (by_dirty f.0 f.1 dirty)
      where
        unclean : (any : Bool) → list_any (is_updating fid) (tokens_of h.l.cache.held) ≡ any → (b : Bool)
            → is_length_clean h.l.lengths (content h.l.cache) fid ≡ b
            → is_some (if any && not b then Some (content h.l.cache fid Size) else None) ≡ true → b ≡ false
        unclean any q false r some = refl
        unclean true q true r some = absurd (cc)
        unclean false q true r some = absurd (cc)

        by_dirty : In t (tokens_of h.l.cache.held) → t.fid ≡ fid → DirtyUnder x fid t → IsDirtyFrom old past t
        by_dirty held at (inl d) =
            let was : is_dirty_in old.dirty fid d.0 ≡ true = (and_parts (is_dirty_in old.dirty fid d.0)
            (not (list_any (λ give. same_fid give.fid fid && is_some (byte_of give.pieces d.0)) h.made))
            (sym (h.left.dirty fid d.0) ∙ d.1)).0 in
            inl (
              d.0,
              (
                updates_it t d.0 d.2,
                ap (λ (z : Fid). is_dirty past z d.0) at ∙ sym (stands.dirty.bytes fid d.0) ∙ was,
              ),
            )
        by_dirty held at (inr d) = dirty_before t held (inr (
          d.0,
          ap (λ (z : Fid). is_length_clean h.l.lengths (content h.l.cache) z) at
              ∙ unclean (list_any (is_updating fid) (tokens_of h.l.cache.held)) refl
              (is_length_clean h.l.lengths (content h.l.cache) fid) refl d.1,
        ))

    abbrev plain_x : Draft
    plain_x = start h.made h.gone h.sent h.due

    -- by the message itself
    by_message : (z : Tables) (d : Draft) → RunsOn script old z past
        (step_of (Host old.host) (Came (revoking old.host message.server message.epoch 0 r)) (sending_due z d)) → Goal
        z d
    by_message z d runs = subst (λ (y : Message). RunsOn script old z past
        (step_of (Host old.host) (Came y) (sending_due z d))) (sym message_is) runs

    -- # It lacks a token, and asks for it anew
    module _ (need : Need) (lack : IsLack x call need) where
      abbrev v_n : ServerId
      v_n = home_at need.fid.fileset

      abbrev at_0 : Doing
      at_0 = doing (record x { call = None }) plain_x

      -- the call that is open by the tables
      open_same : (z : Tables) → record z { call = Some c } ≡ record z { call = old.call }
      open_same z i = record z { call = sym e i }

      change_open : is_use need.kind ≡ true → may_ask v_n at_0 ≡ true → (at : Doing)
          → at ≡ doing (record (with_asked (record x { call = None }) v_n
          (next_change x v_n need.fid.fileset need.fid false c.k call)) { call = Some c })
          (record plain_x {
            sent = h.sent
                ++ message_to x v_n (Change (next_change x v_n need.fid.fileset need.fid false c.k call)) ∷ [];
          })
          → Goal at.tables at.draft
      change_open used may at is = subst (λ (z : Doing). Goal z.tables z.draft)
          (sym (is ∙ (λ i. doing (open_same (with_asked (record x { call = None }) v_n
          (next_change x v_n need.fid.fileset need.fid false c.k call)) i) (record plain_x {
            sent = h.sent
                ++ message_to x v_n (Change (next_change x v_n need.fid.fileset need.fid false c.k call)) ∷ [];
          }))))
          (by_message (record x {
            changed = with_change v_n need.fid.fileset (last_change old.changed v_n need.fid.fileset + 1) old.changed;
            request = Some (AChange v_n (next_change x v_n need.fid.fileset need.fid false c.k call));
          }) (record plain_x {
            sent = h.sent
                ++ message_to x v_n (Change (next_change x v_n need.fid.fileset need.fid false c.k call)) ∷ [];
          })
          (lacks_of.change_runs script old past message.server message.epoch r h.made (map (leaves_by Revoked) h.gone)
          h.sent h.due
          (floors_by old r) h.l h.lost running c e none counts_r (raises old r) labels_same
          h.left.ending tidy_x right_x keeping_x gives_x why_x says_x due_x loses_x
          sound_x need lack (use_kind need.kind used)
          (and_parts (site_at old.sites v_n).greeted (site_at old.sites v_n).welcome may).1))

      fetch_same : (asked : List Need) → FetchFrom (record x { call = None }) h.lost call need.fid asked
          → FetchFrom x h.lost call need.fid asked
      fetch_same asked (OfRoot root is) = OfRoot root is
      fetch_same asked (OfKnown nature covers seen dir is) = OfKnown nature covers seen dir is
      fetch_same asked (OfNone other uncovered is) = OfNone other uncovered is
      fetch_same asked (OfPlain other covers plain from) = OfPlain other covers plain (record {
        only = from.only;
        bytes = from.bytes;
        bytes_all = from.bytes_all;
        status = from.status;
        status_all = from.status_all;
      })

      fetch_open : (gone : Doing) (it : Fetches call need.fid at_0 gone) → is_use need.kind ≡ false
          → (list_any (is_of_file need.fid) h.l.gives.gives ≡ true → ⊥) → may_ask v_n at_0 ≡ true
          → Goal (record gone.tables { call = Some c }) gone.draft
      fetch_open gone it plain no_give may =
          let f : FetchOf = it.fetch in
          subst (λ (z : Doing). Goal z.tables z.draft)
          (sym (ap (λ (z : Doing). doing (record z.tables { call = Some c }) z.draft) it.after
          ∙ (λ i. doing (open_same (with_fetching (record x { call = None }) f) i) (record plain_x {
            sent = h.sent
                ++ message_to x (home_at f.fid.fileset) (Fetch f) ∷ [];
          }))))
          (by_message (record x {
            fetched = with_fetch f.fid.fileset f.number old.fetched;
            request = Some (AFetch f);
          }) (record plain_x { sent = h.sent ++ message_to x (home_at f.fid.fileset) (Fetch f) ∷ [] })
          (lacks_of.fetch_runs script old past message.server message.epoch r h.made (map (leaves_by Revoked) h.gone)
          h.sent h.due
          (floors_by old r) h.l h.lost running c e none counts_r (raises old r) labels_same
          h.left.ending tidy_x right_x keeping_x gives_x why_x says_x due_x loses_x
          sound_x need lack f (no_use_kind need.kind plain) it.file it.number no_give
          (and_parts (site_at old.sites v_n).greeted (site_at old.sites v_n).welcome may).1
          (fetch_same f.needs (it.needs need lack refl (no_use_kind need.kind plain))) it.room it.count))

      -- a server that wasn't greeted isn't welcome
      unwelcome_yet : (site_at old.sites v_n).greeted ≡ false → (site_at old.sites v_n).welcome ≡ false
      unwelcome_yet n = elim (by_test (site_at old.sites v_n).welcome) [
        | inr f ↦ f
        | inl w ↦
            let g = welcome_greets past v_n ((stands.sites v_n).welcome.0 w) in
            absurd (true_false (site_at old.sites v_n).greeted ((stands.sites v_n).greeted.1 g) n)
      ]

      hello_open : (site_at old.sites v_n).greeted ≡ false
          → Goal (record (with_greeted (record x { call = None }) v_n) { call = Some c })
          (greeting v_n at_0).draft
      hello_open n = subst (λ (z : Tables). Goal z (greeting v_n at_0).draft)
          (sym (open_same (with_greeted (record x { call = None }) v_n)))
          (by_message (record x { sites = with_site (record (site_at old.sites v_n) { greeted = true }) old.sites })
          (greeting v_n at_0).draft (lacks_of.hello_runs script old past message.server message.epoch r h.made
          (map (leaves_by Revoked) h.gone) h.sent h.due
          (floors_by old r) h.l h.lost running c e none counts_r (raises old r) labels_same
          h.left.ending tidy_x right_x keeping_x gives_x why_x says_x due_x loses_x
          sound_x need lack (unwelcome_yet n)))

      waits_same : Goal revoked.tables revoked.draft → Goal (record x { call = Some c }) plain_x
      waits_same runs = subst (λ (z : Doing). Goal z.tables z.draft)
          ((λ i. doing (h.tables i) (h.draft i)) ∙ (λ i. doing (sym (open_same x) i) plain_x)) runs

      coming_open : may_ask v_n at_0 ≡ false
          → Goal (record (coming_to v_n at_0).tables { call = Some c }) (coming_to v_n at_0).draft
      coming_open may = by_greeted (site_at old.sites v_n).greeted refl
        where
          by_greeted : (b : Bool) → (site_at old.sites v_n).greeted ≡ b
              → Goal (record (if b then at_0 else greeting v_n at_0).tables { call = Some c })
              (if b then at_0 else greeting v_n at_0).draft
          by_greeted true g = waits_same (waits_need need lack g
              (and_false (site_at old.sites v_n).greeted (site_at old.sites v_n).welcome may g))
          by_greeted false n = hello_open n

      -- whatever becomes of it
      asks_open : (gone : Doing) → AsksFor need c.k call at_0 gone → (at : Doing)
          → at ≡ doing (record gone.tables { call = Some c }) gone.draft → Goal at.tables at.draft
      asks_open gone (AsksWaits plain gives is) at whole =
          subst (λ (z : Doing). Goal z.tables z.draft)
          (sym (whole ∙ ap (λ (z : Doing). doing (record z.tables { call = Some c }) z.draft) is))
          (waits_same (waits_file need lack gives))
      asks_open gone (Comes may not_yet is) at whole =
          subst (λ (z : Doing). Goal z.tables z.draft)
          (sym (whole ∙ ap (λ (z : Doing). doing (record z.tables { call = Some c }) z.draft) is)) (coming_open not_yet)
      asks_open gone (Changes used may is) at whole =
          change_open used may at (whole ∙ ap (λ (z : Doing). doing (record z.tables { call = Some c }) z.draft) is)
      asks_open gone (FetchesIt plain no_give may it) at whole =
          subst (λ (z : Doing). Goal z.tables z.draft) (sym whole) (fetch_open gone it plain no_give may)

    -- all that the code makes of it, but for what is said to a server anew
    module _ (P : Doing → Type 0) (quiet : Goal revoked.tables revoked.draft → P revoked) (at : Doing)
        (asks_anew : (need : Need) → IsLack x call need → (gone : Doing) → AsksFor need c.k call silenced gone
        → EndsAs at gone false → P at) where
      pub goes_open : (gone : Doing) (b : Bool) → Goes c.k call false silenced gone b → EndsAs at gone b
          → P at
      goes_open gone _ (Waits busy same) is = absurd (busy none)
      goes_open gone _ (EndsAt no_ask v so pathless answered settles) is =
          let look = so uses_x in
          settles_on P quiet at v (subst (CoverAll (tokens_of h.l.cache.held))
          (sym (ap (needs_of (content h.l.cache)) look))
          tt)
          (ap (outcome (content h.l.cache)) look) (λ fid q. absurd (subst IsPathless q pathless)) gone answered
          settles is
      goes_open gone _ (LacksIt no_ask root path walks need walked asks) is =
          asks_anew need (lack_x root path walks need walked) gone asks is
      goes_open gone _ (Finds no_ask root path walks v walked leads marked marks answered settles) is =
          let both = comes root path walks (Ok v) walked (Ok v) refl in
          by_settled (is_settled (Ok v)) refl both
        where
          by_settled : (b : Bool) → is_settled (Ok v) ≡ b
              → IsCoveredFrom x call × (verdict_from x call ≡ meant x call (Ok v)) → P at
          by_settled true t both = absurd (still_waits (Ok v) both.1 (waits_still both.0) t)
          by_settled false f both =
              let same : marked ≡ record x { call = None } =
              subst (λ (b : Bool). MarksWhere b (record x { call = None }) call root path (Ok v) marked) f marks in
              settles_on P quiet at (Ok v) both.0 both.1 (λ fid q.
              let p : Ok v ≡ Ok (Syncs fid) = q in
              let is_sync : v ≡ Syncs fid = cc in
              sync_clean root path walks fid
              (subst (λ (z : Judged). Walked (record x { call = None }) call root path (Ok z)) is_sync walked)
              (subst (LeadsSo (record x { call = None }) call root path) is_sync leads)) gone answered
              (subst (λ (z : Tables). Settles c.k call false (doing z revoked.draft) gone (Ok v) answered) same
              settles) is
      goes_open gone _ (IsRefused no_ask root path walks refusal walked marked marks settles) is =
          let both = comes root path walks (Err (Refused refusal)) walked (Err refusal) refl in
          absurd (still_waits (Err refusal) both.1 (waits_still both.0) refl)

      -- from the tables of the code
      pub open_ends : (gone : Doing) (answered : Bool)
          → Goes c.k c.call false (record revoked { tables = record revoked.tables { call = None } }) gone answered
          → at ≡ (if answered then gone else record gone { tables = record gone.tables { call = Some c } })
          → P at
      open_ends gone answered goes is = goes_open gone answered
          (subst (λ (z : Tables). Goes c.k c.call false (doing (record z { call = None }) revoked.draft) gone answered)
          h.tables goes) is

    lacks_open : (at : Doing) (need : Need) → IsLack x call need → (gone : Doing)
        → AsksFor need c.k call silenced gone → EndsAs at gone false → Goal at.tables at.draft
    lacks_open at need lack gone asks is = asks_open need lack gone
        (subst (λ (d : Draft). AsksFor need c.k call (doing (record x { call = None }) d) gone) h.draft asks) at is

  -- # All cases
  module _ (P : Doing → Type 0) (quiet : Goal revoked.tables revoked.draft → P revoked) (at : Doing)
      (asks_anew : (c : Asked) → old.call ≡ Some c → old.request ≡ None → (need : Need) → IsLack x c.call need
      → (gone : Doing) → AsksFor need c.k c.call (doing (record x { call = None }) revoked.draft) gone
      → at ≡ record gone { tables = record gone.tables { call = Some c } } → P at) where
    call_same : revoked.tables.call ≡ old.call
    call_same = ap (λ (z : Tables). z.call) h.tables

    request_same : revoked.tables.request ≡ old.request
    request_same = ap (λ (z : Tables). z.request) h.tables

    by_waiting : (c : Asked) → old.call ≡ Some c → (gone : Doing) (answered : Bool)
        → Goes c.k c.call false (record revoked { tables = record revoked.tables { call = None } }) gone answered
        → at ≡ (if answered then gone else record gone { tables = record gone.tables { call = Some c } })
        → (o : Option Request) → old.request ≡ o → P at
    by_waiting c e gone answered goes is None none =
        open_ends c e none P quiet at (asks_anew c e none) gone answered goes is
    by_waiting c e gone answered goes is (Some q) asked = by_goes gone answered goes is
      where
        busy : old.request ≡ None → ⊥
        busy none = let p = sym none ∙ asked in cc

        idle : revoked.tables.request ≡ None → ⊥
        idle none = busy (sym request_same ∙ none)

        by_goes : (gone : Doing) (answered : Bool)
            → Goes c.k c.call false (record revoked { tables = record revoked.tables { call = None } }) gone answered
            → at ≡ (if answered then gone else record gone { tables = record gone.tables { call = Some c } })
            → P at
        by_goes gone _ (Waits b same) is =
            let there : at ≡ revoked =
            is ∙ ap (λ (z : Doing). record z { tables = record z.tables { call = Some c } }) same
            ∙ (λ i. doing (record revoked.tables { call = (sym (call_same ∙ e)) i }) revoked.draft) in
            subst P (sym there) (quiet (waits_revoked c e busy))
        by_goes gone _ (EndsAt none v so no_sync answered settles) is = absurd (idle none)
        by_goes gone _ (LacksIt none root path so need walked asks) is = absurd (idle none)
        by_goes gone _ (Finds none root path so v walked leads marked marks answered settles) is = absurd (idle none)
        by_goes gone _ (IsRefused none root path so refusal walked marked marks settles) is = absurd (idle none)

    pub revoked_ends : GoesOn revoked at → P at
    revoked_ends (IsNone e is) = subst P (sym is) (quiet (idle_revoked (sym call_same ∙ e)))
    revoked_ends (IsOpen c e gone answered goes is) =
        by_waiting c (sym call_same ∙ e) gone answered goes is old.request refl

  pub revoked_runs : (at : Doing) → GoesOn revoked at → Goal at.tables at.draft
  revoked_runs at goes = revoked_ends (λ (z : Doing). Goal z.tables z.draft) (λ g. g) at
      (λ c e none. lacks_open c e none at) goes
