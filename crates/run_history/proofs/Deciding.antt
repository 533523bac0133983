-- A Change that a server decides on what it keeps is legal in a tree that agrees.
use Rattle.std.proofs.Common.{Bool, Err, List, None, Ok, Option, Result, Some, ap, arith, false, inl, inr, is_some}
use Rattle.std.proofs.Common.{nat_le, nat_lt, not, refl, subst, sym, true, ℕ, ◌&&◌, ◌<◌, ◌==◌, ◌||◌, ◌∙◌, ◌∷◌, ◌≡◌}
use Rattle.std.proofs.Common.{◌≤◌}
use Rattle.std.proofs.lemmas.Bool.{and_parts, eqb-true, false≢true, ne_eqb}
use Rattle.std.proofs.lemmas.Grind.{common_steps}
use Rattle.std.specs.List.{filter, find, flat_map, list_all, list_any}
use Rattle.std.specs.Option.{option_map_or}
use Rattle.std.specs.Prelude.{[], if◌then◌else◌, is_none, map}
use Rattle.base_types.specs.Ids.{same_fid}
use Rattle.base_types.specs.declared.ids.Fid.{Fid}
use Rattle.base_types.specs.declared.ids.FilesetId.{FilesetId}
use Rattle.base_types.specs.declared.ids.HostId.{HostId}
use Rattle.base_types.specs.declared.ids.ServerId.{ServerId}
use Rattle.base_types.specs.declared.limits.TheConstants.{FILE_BYTES_MAX}
use Rattle.base_types.specs.declared.user.User.{User}
use Rattle.tree_calls.specs.Rosters.{user_of}
use Rattle.tree_calls.specs.declared.call.Call.{Call}
use Rattle.tree_calls.specs.declared.call.Call.TheVariants.{CloneFileset, CloseFile, Create, GetAcl, List as ListNames}
use Rattle.tree_calls.specs.declared.call.Call.TheVariants.{Lock as LockCall, MakeDir, MoveFileset, NewFileset}
use Rattle.tree_calls.specs.declared.call.Call.TheVariants.{OpenFile, Read, Remove, Rename, SetAcl, Stat, Sync}
use Rattle.tree_calls.specs.declared.call.Call.TheVariants.{Truncate, Unlock, Write}
use Rattle.tree_calls.specs.declared.reply.Refusal.{Refusal}
use Rattle.tree_calls.specs.declared.reply.Refusal.TheVariants.{Denied}
use Rattle.tree_calls.specs.declared.reply.Reply.{Reply}
use Rattle.tree_calls.specs.declared.reply.Reply.TheVariants.{Refused}
use Rattle.tree_calls.specs.declared.roster.Roster.{Roster}
use Rattle.tree_filesets.specs.Changing.{set_access_target, write_target}
use Rattle.tree_filesets.specs.Renaming.{rename_target}
use Rattle.tree_filesets.specs.declared.fileset.Fileset.{Fileset}
use Rattle.need_host.proofs.Showing.{tokens_show_parts}
use Rattle.need_host.specs.Looks.{kept_view}
use Rattle.need_host.specs.Questions.{is_change}
use Rattle.need_host.specs.Shows.{needs_show, needs_update, shows}
use Rattle.tree_answers.proofs.Refusals.{refused_call}
use Rattle.tree_answers.specs.Answers.{answer_for, answer_to, for_user}
use Rattle.tree_answers.specs.Finding.{fileset_named, has_id, same_fileset}
use Rattle.tree_answers.specs.Founding.{clone_source}
use Rattle.tree_answers.specs.WellFormed.{ids_rise}
use Rattle.tree_answers.specs.declared.tree.Away.{Away}
use Rattle.tree_answers.specs.declared.tree.Tree.{Tree}
use Rattle.need_server.proofs.Alike.{changes_are_alike}
use Rattle.need_server.proofs.Settled.{kept_is_settled}
use Rattle.need_server.proofs.WantsKept.{wants_are_kept}
use Rattle.need_server.proofs.WantsThere.{wants_are_there}
use Rattle.need_server.specs.Kept.{kept_answer, kept_fileset, kept_tree}
use Rattle.need_server.specs.Laws.{DecidesAlike, NothingUnsaved}
use Rattle.need_server.specs.Wants.{all_of, files_of, want, want_for, want_in}
use Rattle.need_laws.proofs.Idle.{others_mind_no_uses}
use Rattle.need_laws.proofs.Refused.{servers_refuse_alike}
use Rattle.need_laws.proofs.Same.{calls_hang_on_their_server}
use Rattle.need_laws.proofs.Wanted.{wants_hang_on_their_server}
use Rattle.need_laws.specs.Idle.{idle, idle_answer, minds_uses}
use Rattle.need_laws.specs.Known.{IsAt, SameAt, is_known, records_of}
use Rattle.need_laws.specs.Laws.{AnswersSame}
use Rattle.token_types.specs.Conflicts.{any_conflict, blocks, kinds_conflict, need_of}
use Rattle.token_types.specs.declared.token.Kind.{Kind}
use Rattle.token_types.specs.declared.token.Kind.TheVariants.{Bytes, Lock as LockKind, Opening, Status}
use Rattle.token_types.specs.declared.token.Need.{Need}
use Rattle.token_types.specs.declared.token.Token.{Token}
use Rattle.tree_laws.proofs.Steps.{fid_is, same_number}
use Rattle.tree_laws.specs.Fates.{creation}
use Rattle.tree_laws.specs.Parts.{Cell, Part, Seen, Written as Unsaved, cell_at, cell_in}
use Rattle.tree_laws.specs.Parts.Part.{ByteAt, Traits}
use Rattle.run_history.proofs.Homes.{homes_after}
use Rattle.run_history.proofs.Setting.{sets_cells}
use Rattle.run_history.specs.Changes.{AgreesKept, IsLegalChange, IsMeant, are_home, is_home}
use Rattle.run_parts.proofs.Cells.{none_of}
use Rattle.run_parts.specs.Cells.{Does, cell_after}
use Rattle.run_parts.specs.Cells.Does.{Nothing}
use Rattle.run_parts.specs.Contents.{site}
use Rattle.run_contents.proofs.Words.{both}
use Rattle.run_contents.specs.Doing.{changes, sets_part, wanted_by}
use Rattle.run_contents.specs.Gives.{IsKept}
use Rattle.run_rules.specs.Doings.{Doing, Granted, Pinned}
use Rattle.run_rules.specs.Kept.{is_refusal}
use Rattle.run_rules.specs.Messages.{home}
use Rattle.run_rules.specs.ServerDecides.{DecidedSo, IsOfRow, IsWrittenSo, kept_reply}
use Rattle.run_rules.specs.ServerDecides.DecidedSo.{IsRefusedByTable, MeetsPinned, TakesEffect}
use Rattle.run_rules.specs.Tokens.{IsUseKind}
use Rattle.run_rules.specs.Wants.{CanGrant, CanRefuse, asker, asker_of, exporter, has_effect, is_use, moves_fileset}
use Rattle.run_rules.specs.Wants.{row_needs}
use Rattle.run_rules.specs.declared.applied.Written.{Written}
use Rattle.run_rules.specs.declared.step.Cause.{Cause}

rise_all : (id : ℕ) (xs : List Fileset)
    → list_all (λ other. nat_lt id other.id.0) (map kept_fileset xs) ≡ list_all (λ other. nat_lt id other.id.0) xs
rise_all id [] = refl
rise_all id (x ∷ xs) = ap (λ t. nat_lt id x.id.0 && t) (rise_all id xs)

rise_kept : (xs : List Fileset) → ids_rise (map kept_fileset xs) ≡ ids_rise xs
rise_kept [] = refl
rise_kept (x ∷ xs) =
    ap (λ t. t && ids_rise (map kept_fileset xs)) (rise_all x.id.0 xs)
    ∙ ap (λ t. list_all (λ other. nat_lt x.id.0 other.id.0) xs && t) (rise_kept xs)

homes_kept : (xs : List Fileset) → list_all is_home (map kept_fileset xs) ≡ list_all is_home xs
homes_kept [] = refl
homes_kept (x ∷ xs) = ap (λ t. is_home x && t) (homes_kept xs)

-- the fileset of a file at a server is among those that the server knows
found_known : (records : List Away) (v : ServerId) (id : FilesetId) (at : home id ≡ v) (xs : List Fileset)
    → list_all is_home xs ≡ true
    → find (has_id id) (filter (is_known records v) xs) ≡ find (has_id id) xs
found_known records v id at [] homes = refl
found_known records v id at (x ∷ xs) homes =
    go (found_known records v id at xs q.1) (is_known records v x) (has_id id x) refl refl
  where
    q : (is_home x ≡ true) × (list_all is_home xs ≡ true)
    q = and_parts (is_home x) (list_all is_home xs) homes

    known : has_id id x ≡ true → is_known records v x ≡ true
    known its =
        let one : x.id ≡ id = ap (λ (n : ℕ). record { 0 = n }) (eqb-true x.id.0 id.0 its) in
        let server : x.server.0 ≡ v.0 =
        eqb-true x.server.0 (home x.id).0 q.0
        ∙ (ap (λ (j : FilesetId). (home j).0) one ∙ ap (λ (w : ServerId). w.0) at) in
        ap (λ b. b || list_any (λ away. has_id away.fileset x) records)
        (ap (λ n. n == v.0) server ∙ same_number v.0)

    go : find (has_id id) (filter (is_known records v) xs) ≡ find (has_id id) xs → (b t : Bool)
        → is_known records v x ≡ b → has_id id x ≡ t
        → find (has_id id) (if b then x ∷ filter (is_known records v) xs else filter (is_known records v) xs)
        ≡ (if t then Some x else find (has_id id) xs)
    go rest true t e f =
        ap (λ a. if a then Some x else find (has_id id) (filter (is_known records v) xs)) f
        ∙ ap (λ o. if t then Some x else o) rest
    go rest false true e f = absurd (false≢true (sym e ∙ known f))
    go rest false false e f = rest

-- two trees that are the same for a server keep the same of its files
view_same : (v : ServerId) (a b : Tree) → SameAt v a b → are_home a ≡ true → are_home b ≡ true → (f : Fid) (p : Part)
    → site f ≡ v → kept_view a f p ≡ kept_view b f p
view_same v a b same homes others f p at =
    ap (λ (o : Option Fileset). (cell_in o f p).kept)
    (sym (found_known (records_of v a) v f.fileset at a.filesets homes)
    ∙ (ap (λ xs. find (has_id f.fileset) xs) same.filesets
    ∙ found_known (records_of v b) v f.fileset at b.filesets others))

kept_view_same : (tree : Tree) (f : Fid) (p : Part) → kept_view (kept_tree tree) f p ≡ kept_view tree f p
kept_view_same tree f p = ap (λ (z : Cell (Seen p)). z.kept) (kept_is_settled tree f p)

-- a need among some, of what is there
pub need_there : (tree : Tree) (ns : List Need) (f : Fid) (p : Part)
    → list_all (λ need. is_some (cell_at tree need.fid Traits).kept) ns ≡ true → needs_show ns f p ≡ true
    → is_some (kept_view tree f Traits) ≡ true
need_there tree [] f p all e = absurd (false≢true e)
need_there tree (n ∷ ns) f p all e =
    go (same_fid n.fid f && shows n.kind p) refl (need_there tree ns f p q.1) e
  where
    q : (is_some (cell_at tree n.fid Traits).kept ≡ true)
        × (list_all (λ need. is_some (cell_at tree need.fid Traits).kept) ns ≡ true)
    q = and_parts (is_some (cell_at tree n.fid Traits).kept)
        (list_all (λ (need : Need). is_some (cell_at tree need.fid Traits).kept) ns) all

    go : (b : Bool) → (same_fid n.fid f && shows n.kind p) ≡ b
        → (needs_show ns f p ≡ true → is_some (kept_view tree f Traits) ≡ true) → (b || needs_show ns f p) ≡ true
        → is_some (kept_view tree f Traits) ≡ true
    go true k rest e =
        ap (λ (g : Fid). is_some (kept_view tree g Traits))
        (sym (fid_is n.fid f (and_parts (same_fid n.fid f) (shows n.kind p) k).0)) ∙ q.0
    go false k rest e = rest e

-- an object that is there is of a fileset that is
pub there_own : (v : ServerId) (tree : Tree) (f : Fid) → are_home tree ≡ true
    → list_all (λ fileset. fileset.server.0 == v.0) tree.filesets ≡ true
    → is_some (kept_view tree f Traits) ≡ true → site f ≡ v
there_own v tree f homes own e = go (find (has_id f.fileset) tree.filesets) refl e
  where
    each : (test : Fileset → Bool) (xs : List Fileset) (x : Fileset) → list_all test xs ≡ true
        → find (has_id f.fileset) xs ≡ Some x → (test x ≡ true) × (has_id f.fileset x ≡ true)
    each test [] x all e = absurd (let q : None ≡ Some x = e in cc)
    each test (y ∷ ys) x all e = by (has_id f.fileset y) refl (λ r. each test ys x k.1 r) e
      where
        k : (test y ≡ true) × (list_all test ys ≡ true)
        k = and_parts (test y) (list_all test ys) all

        by : (b : Bool) → has_id f.fileset y ≡ b
            → (find (has_id f.fileset) ys ≡ Some x → (test x ≡ true) × (has_id f.fileset x ≡ true))
            → (if b then Some y else find (has_id f.fileset) ys) ≡ Some x
            → (test x ≡ true) × (has_id f.fileset x ≡ true)
        by true q rest e =
            let one : y ≡ x = (let r : Some y ≡ Some x = e in cc) in
            (ap test (sym one) ∙ k.0, ap (has_id f.fileset) (sym one) ∙ q)
        by false q rest e = rest e

    go : (o : Option Fileset) → find (has_id f.fileset) tree.filesets ≡ o → is_some (cell_in o f Traits).kept ≡ true
        → site f ≡ v
    go None q e = absurd (false≢true e)
    go (Some fileset) q e =
        let a = each is_home tree.filesets fileset homes q in
        let b = each (λ (fileset : Fileset). fileset.server.0 == v.0) tree.filesets fileset own q in
        let one : fileset.id ≡ f.fileset =
        ap (λ (n : ℕ). record { 0 = n }) (eqb-true fileset.id.0 f.fileset.0 a.1) in
        ap (λ (n : ℕ). record { 0 = n })
        (ap (λ (j : FilesetId). (home j).0) (sym one)
        ∙ (sym (eqb-true fileset.server.0 (home fileset.id).0 a.0) ∙ eqb-true fileset.server.0 v.0 b.0))

-- bytes and status aren't in the way of what is in use
abbrev pub is_plain : Kind → Bool
is_plain (Bytes update span) = true
is_plain (Status update) = true
is_plain _ = false

abbrev pub AllPlain : List Need → Type 0
AllPlain ns = list_all (λ (n : Need). is_plain n.kind) ns ≡ true

plain_for : {A : Type 0} (r : Result A Refusal) (f : A → List Need) → ((x : A) → AllPlain (f x))
    → AllPlain (want_for r f)
plain_for (Ok x) f all = all x
plain_for (Err refusal) f all = refl

module _ (tree : Tree) (user : User) where
  plain_want : (call : Call) → is_change call ≡ true → minds_uses call ≡ false → AllPlain (want tree user call)
  unfolding want want_in
  plain_want (NewFileset server name objects owner) n m = refl
  plain_want (Create place) n m =
      plain_for (fileset_named tree place.server place.fileset) _ (λ fileset.
      plain_for (creation fileset false user place.path) _ (λ found. refl))
  plain_want (MakeDir place) n m =
      plain_for (fileset_named tree place.server place.fileset) _ (λ fileset.
      plain_for (creation fileset true user place.path) _ (λ found. refl))
  plain_want (Rename from to) n m =
      plain_for (fileset_named tree from.server from.fileset) _ (λ fileset.
      if_plain (same_fileset from to) _ (plain_for (rename_target fileset user from.path to.path) _ (λ move. refl)))
    where
      if_plain : (b : Bool) (ns : List Need) → AllPlain ns → AllPlain (if b then ns else [])
      if_plain true ns all = all
      if_plain false ns all = refl
  plain_want (SetAcl place which list) n m =
      plain_for (fileset_named tree place.server place.fileset) _ (λ fileset.
      plain_for (set_access_target fileset user place.path which) _ (λ anode. refl))
  plain_want (Remove place) n m = absurd (false≢true (sym m))
  plain_want (LockCall label place writing from len) n m = absurd (false≢true (sym m))
  plain_want (Unlock label) n m = absurd (false≢true (sym m))
  plain_want (OpenFile label place kind) n m = absurd (false≢true (sym m))
  plain_want (CloseFile label) n m = absurd (false≢true (sym m))
  plain_want (MoveFileset server name to) n m = absurd (false≢true (sym m))
  plain_want (Truncate place len) n m =
      plain_for (fileset_named tree place.server place.fileset) _ (λ fileset.
      plain_for (write_target fileset user place.path len) _ (λ anode. refl))
  plain_want (CloneFileset server source new) n m =
      plain_for (clone_source tree user server source) _ (λ fileset. plain_files (files_of fileset))
    where
      plain_files : (fids : List Fid) → AllPlain (flat_map (all_of false) fids)
      plain_files [] = refl
      plain_files (f ∷ fids) = plain_files fids
  plain_want (Read place from len) n m = absurd (false≢true n)
  plain_want (Write place from bytes) n m = absurd (false≢true n)
  plain_want (ListNames place) n m = absurd (false≢true n)
  plain_want (Stat place) n m = absurd (false≢true n)
  plain_want (GetAcl place which) n m = absurd (false≢true n)
  plain_want (Sync place) n m = absurd (false≢true n)

pub pinned_use : (v : ServerId) (S : List Doing) (t : Token) → Pinned v S t → IsUseKind t.kind
pinned_use v [] t p = elim p [ ]
pinned_use v (a ∷ S) t p = elim p.0 [ inl b ↦ b.3 | inr old ↦ pinned_use v S t old ]

pub apart_kinds : (k l : Kind) → IsUseKind k → is_plain l ≡ true → kinds_conflict k l ≡ false
apart_kinds (LockKind w s) (Bytes u r) a b = refl
apart_kinds (LockKind w s) (Status u) a b = refl
apart_kinds (LockKind w s) (LockKind z r) a b = absurd (false≢true b)
apart_kinds (LockKind w s) (Opening o) a b = absurd (false≢true b)
apart_kinds (Opening p) (Bytes u r) a b = refl
apart_kinds (Opening p) (Status u) a b = refl
apart_kinds (Opening p) (LockKind z r) a b = absurd (false≢true b)
apart_kinds (Opening p) (Opening o) a b = absurd (false≢true b)
apart_kinds (Bytes u r) l a b = elim a [ ]
apart_kinds (Status u) l a b = elim a [ ]

pub none_in_way : (t : Token) → IsUseKind t.kind → (ns : List Need) → AllPlain ns
    → any_conflict (need_of t) ns ≡ true → ⊥
none_in_way t used [] all e = false≢true e
none_in_way t used (n ∷ ns) all e = go (same_fid t.fid n.fid) (kinds_conflict t.kind n.kind) kinds
    (none_in_way t used ns q.1) e
  where
    q : (is_plain n.kind ≡ true) × AllPlain ns
    q = and_parts (is_plain n.kind) (list_all (λ (n : Need). is_plain n.kind) ns) all

    kinds : kinds_conflict t.kind n.kind ≡ false
    kinds = apart_kinds t.kind n.kind used q.0

    go : (a b : Bool) → b ≡ false → (any_conflict (need_of t) ns ≡ true → ⊥)
        → ((a && b) || any_conflict (need_of t) ns) ≡ true → ⊥
    go true true f rest e = false≢true (sym f)
    go true false f rest e = rest e
    go false b f rest e = rest e

pub refusal_of_it : (reply : Reply) → is_refusal reply ≡ true → (r : Refusal) × (reply ≡ Refused r)
refusal_of_it (Refused r) e = (r, refl)
refusal_of_it _ e = absurd (false≢true e)

module _ (v : ServerId) (cause : Cause) (S : List Doing) (K : Tree) (x : Written) (k : IsWrittenSo v K S x)
    (keeps : IsKept K) (good : (t : Token) → Granted v S t → t.host.0 ≤ 16) (T : Tree) (agree : AgreesKept v S K T)
    (change : is_change x.answer.call ≡ true) (here : IsAt v x.answer.call) (no_move : moves_fileset x.answer.call
    ≡ false) where
  abbrev host : HostId
  host = x.answer.host

  abbrev call : Call
  call = x.answer.call

  abbrev K' : Tree
  K' = (answer_to K host call).tree

  abbrev T' : Tree
  T' = (answer_to T host call).tree

  pub wanted_same : (user : User) → want K user call ≡ want T user call
  wanted_same user =
      wants_hang_on_their_server K (kept_tree T) v user call agree.same here ∙ wants_are_kept T user call

  pub record Granting : Type 0 where
    pub can : CanGrant v S k.w
    pub asks : asker k.w ≡ exporter
    pub needs : k.w.needs ≡ wanted_by K host call

  pub kept_reply_same : kept_reply K k.w.host k.change.call ≡ (answer_to K host call).reply
  kept_reply_same = λ i. (answer_to K (sym k.host i) (sym k.call i)).reply

  pub granted_so : has_effect k.change ≡ true → IsOfRow K k.w k.change → CanGrant v S k.w → Granting
  granted_so effect row can =
      let p = parts k.change.enter (is_use k.change.call) (moves_fileset k.change.call) effect in
      record {
        can = can;
        asks = ap (asker_of k.w.host) k.request ∙ ap (λ b. if b then k.w.host else exporter) p.1;
        needs = row.0
            ∙ (ap (λ b. if b then [] else wanted_by K k.w.host k.change.call) p.0
            ∙ (λ i. wanted_by K (sym k.host i) (sym k.call i)));
      }
    where
      parts : (enter label move : Bool) → (not enter && not label && not move) ≡ true
          → (enter ≡ false) × (label ≡ false)
      parts false false move q = (refl, refl)
      parts true label move q = absurd (false≢true q)
      parts false true move q = absurd (false≢true q)

  -- nothing under what is wanted is unsaved where it is granted
  pub nothing : Granting → (user : User) → user_of T.roster host ≡ Some user → NothingUnsaved T (want T user call)
  nothing g user is f p shown = none_of (cell_at T f p).unsaved never
    where
      in_kept : wanted_by K host call ≡ want K user call
      in_kept =
          ap (λ (o : Option User). option_map_or (λ user. want K user call) o [])
          (ap (λ (r : Roster). user_of r host) agree.same.roster ∙ is)

      needed : needs_show (want K user call) f p ≡ true
      needed = ap (λ ns. needs_show ns f p) (wanted_same user) ∙ shown

      home_is : site f ≡ v
      home_is =
          there_own v K f agree.kept_homes agree.own
          (need_there K (want K user call) f p (wants_are_there K user call keeps.formed) needed)

      never : (u : Unsaved (Seen p)) → (cell_at T f p).unsaved ≡ Some u → ⊥
      never u e =
          let t = agree.granted g.can.over f p u home_is e in
          let low = good t.0 t.1 in
          let apart : (t.0.host.0 == 17) ≡ false = ne_eqb t.0.host.0 17 (λ e. omega (arith, low, e)) in
          let way : any_conflict (need_of t.0) (want K user call) ≡ true =
          tokens_show_parts.conflict_update (need_of t.0) (want K user call) p t.2.covers t.2.update
          (subst (λ (z : Fid). needs_show (want K user call) z p ≡ true) (sym t.2.file) needed) in
          let asks = sym g.asks in
          let needs = sym (g.needs ∙ in_kept) in
          g.can.free t.0 (inl t.1)
          (subst (λ (y : HostId × List Need). blocks y.0 y.1 t.0 ≡ true) (λ i. (asks i, needs i))
          (both (not (t.0.host.0 == 17)) (any_conflict (need_of t.0) (want K user call)) (ap not apart) way))

  -- for nobody all is refused
  nobody_alike : user_of T.roster host ≡ None → DecidesAlike T host call
  unfolding answer_to
  nobody_alike e =
      ap (λ (o : Option User). for_user (kept_tree T) o (answer_for (kept_tree T) host call)) e
      ∙ ap (λ (o : Option User). kept_answer (for_user T o (answer_for T host call))) (sym e)

  granting_alike : Granting → DecidesAlike T host call
  granting_alike g = go (user_of T.roster host) refl
    where
      go : (o : Option User) → user_of T.roster host ≡ o → DecidesAlike T host call
      go None e = nobody_alike e
      go (Some user) e = changes_are_alike T host user call agree.formed e change (nothing g user e)

  -- what a server answers is what is answered on what is kept of the tree, with nothing in use
  pub kept_same : AnswersSame v (answer_to K host call) (answer_to (idle (kept_tree T)) host call)
  kept_same =
      calls_hang_on_their_server K (idle (kept_tree T)) v host call keeps.formed.ordered
      (rise_kept T.filesets ∙ agree.formed.ordered)
      (record {
        roster = agree.same.roster;
        room = agree.same.room;
        filesets = agree.same.filesets;
        records = agree.same.records;
      }) (record { locks = agree.locks; opens = agree.opens }) here

  -- so what the server leaves is what is kept of what the tree leaves
  abbrev pub IdleAlike : Type 0
  IdleAlike = answer_to (idle (kept_tree T)) host call ≡ idle_answer (kept_answer (answer_to T host call))

  answers_same : IdleAlike → AnswersSame v (answer_to K host call) (idle_answer (kept_answer (answer_to T host call)))
  answers_same alike = subst (λ y. AnswersSame v (answer_to K host call) y) alike kept_same

  homes_then : are_home T' ≡ true
  homes_then = homes_after T agree.homes host call no_move

  -- what is refused changes nothing
  pub refused_legal : (refusal : Refusal) → x.answer.reply ≡ Refused refusal
      → (answer_to T host call).reply ≡ Refused refusal
      → IsLegalChange v cause K x T
  refused_legal refusal said refused =
      let e : is_refusal x.answer.reply ≡ true = ap is_refusal said in
      let stays : T' ≡ T = refused_call T host call refusal refused in
      record {
        reply = said ∙ sym refused;
        same = subst (λ (b : Bool). SameAt v (if b then K else K') (kept_tree T')) (sym e)
            (subst (λ (t : Tree). SameAt v K (kept_tree t)) (sym stays) agree.same);
        homes = homes_then;
        cells = λ f p at. ap (λ (t : Tree). cell_at t f p) stays
            ∙ ap (λ (b : Bool). cell_after p (if b then Nothing else
            changes (wanted_by K host call) K (if b then K else K') f p) (cell_at T f p)) (sym e);
      }

  module _ (alike : IdleAlike) (reply_kept : x.answer.reply ≡ (answer_to K host call).reply)
      (saved : is_refusal x.answer.reply ≡ false → (user : User) → user_of T.roster host ≡ Some user
      → NothingUnsaved T (want T user call)) where
    so : AnswersSame v (answer_to K host call) (idle_answer (kept_answer (answer_to T host call)))
    so = answers_same alike

    same_then : SameAt v K' (kept_tree T')
    same_then = record {
      roster = so.left.roster;
      room = so.left.room;
      filesets = so.left.filesets;
      records = so.left.records;
    }

    reply_is : x.answer.reply ≡ (answer_to T host call).reply
    reply_is = reply_kept ∙ so.reply

    old_view : (f : Fid) (p : Part) → site f ≡ v → kept_view K f p ≡ kept_view T f p
    old_view f p at =
        view_same v K (kept_tree T) agree.same agree.kept_homes (homes_kept T.filesets ∙ agree.homes) f p at
        ∙ kept_view_same T f p

    new_view : (f : Fid) (p : Part) → site f ≡ v → kept_view K' f p ≡ kept_view T' f p
    new_view f p at =
        view_same v K' (kept_tree T') same_then (homes_after K agree.kept_homes host call no_move)
        (homes_kept T'.filesets ∙ homes_then) f p at
        ∙ kept_view_same T' f p

    -- bytes behind the limit are never unsaved, where something is granted
    far_saved : Granting → (f : Fid) → site f ≡ v → (q : ℕ) → nat_lt q FILE_BYTES_MAX ≡ false
        → (cell_at T f (ByteAt q)).unsaved ≡ None
    far_saved g f at q far =
        none_of (cell_at T f (ByteAt q)).unsaved (λ u e.
        let t = agree.granted g.can.over f (ByteAt q) u at e in
        below t.0.kind t.2.covers)
      where
        below : (kind : Kind) → shows kind (ByteAt q) ≡ true → ⊥
        below (Bytes update span) e =
            let test : nat_lt q span.to ≡ true = (and_parts (nat_le span.from q) (nat_lt q span.to) e).1 in
            let low : q < span.to = grind (arith, common_steps, test) in
            let most : span.to ≤ 65536 = span.within in
            let ge : 65536 ≤ q = grind (arith, common_steps, far) in
            omega (arith, low, most, ge)
        below (Status update) e = false≢true e
        below (LockKind writing span) e = false≢true e
        below (Opening kind) e = false≢true e

    pub settled_legal : is_refusal x.answer.reply ≡ false → Granting → (user : User) → user_of T.roster host ≡ Some user
        → IsLegalChange v cause K x T
    settled_legal e g user is = record {
      reply = reply_is;
      same = subst (λ (b : Bool). SameAt v (if b then K else K') (kept_tree T')) (sym e) same_then;
      homes = homes_then;
      cells = λ f p at.
          sets_cells T agree.formed host user is call change (saved e user is) f (far_saved g f at) p
          ∙ (ap (λ (d : Does (Seen p)). cell_after p d (cell_at T f p)) (same_changes f p at)
          ∙ ap (λ (b : Bool). cell_after p (if b then Nothing else
          changes (wanted_by K host call) K (if b then K else K') f p) (cell_at T f p)) (sym e));
    }
      where
        in_kept : wanted_by K host call ≡ want T user call
        in_kept =
            ap (λ (o : Option User). option_map_or (λ user. want K user call) o [])
            (ap (λ (r : Roster). user_of r host) agree.same.roster ∙ is)
            ∙ wanted_same user

        same_changes : (f : Fid) (p : Part) → site f ≡ v
            → changes (want T user call) T T' f p ≡ changes (wanted_by K host call) K K' f p
        same_changes f p at =
            λ i. sets_part (needs_update (sym in_kept i) f p
            || (is_none (sym (old_view f Traits at) i) && is_some (sym (new_view f Traits at) i))) p
            (sym (old_view f p at) i) (sym (new_view f p at) i)

  -- for nobody a Change is refused
  pub nobody_refused : user_of T.roster host ≡ None → (answer_to T host call).reply ≡ Refused (Denied 0)
  unfolding answer_to
  nobody_refused e = ap (λ (o : Option User). (for_user T o (answer_for T host call)).reply) e

module _ (v : ServerId) (cause : Cause) (S : List Doing) (K : Tree) (x : Written) (k : IsWrittenSo v K S x)
    (keeps : IsKept K) (good : (t : Token) → Granted v S t → t.host.0 ≤ 16) (T : Tree) (agree : AgreesKept v S K T)
    (meant : IsMeant v x) where
  no_move : moves_fileset x.answer.call ≡ false
  no_move = go x.answer.call meant.minds_none
    where
      go : (c : Call) → minds_uses c ≡ false → moves_fileset c ≡ false
      go (MoveFileset server name to) e = absurd (false≢true (sym e))
      go _ e = refl

  abbrev GrantingSo : Type 0
  GrantingSo = Granting v cause S K x k keeps good T agree meant.change meant.here no_move

  idle_alike : DecidesAlike T x.answer.host x.answer.call
      → IdleAlike v cause S K x k keeps good T agree meant.change meant.here no_move
  idle_alike alike = others_mind_no_uses (kept_tree T) x.answer.host x.answer.call meant.minds_none
      ∙ ap idle_answer alike

  same_answers : DecidesAlike T x.answer.host x.answer.call
      → AnswersSame v (answer_to K x.answer.host x.answer.call) (idle_answer (kept_answer
      (answer_to T x.answer.host x.answer.call)))
  same_answers alike =
      answers_same v cause S K x k keeps good T agree meant.change meant.here no_move (idle_alike alike)

  -- what is refused on what is kept is refused by the tree
  refused_alike : (refusal : Refusal) → (answer_to K x.answer.host x.answer.call).reply ≡ Refused refusal
      → (answer_to T x.answer.host x.answer.call).reply ≡ Refused refusal
  refused_alike refusal said = go (user_of T.roster x.answer.host) refl
    where
      go : (o : Option User) → user_of T.roster x.answer.host ≡ o
          → (answer_to T x.answer.host x.answer.call).reply ≡ Refused refusal
      go None e = sym (same_answers
          (nobody_alike v cause S K x k keeps good T agree meant.change meant.here no_move e)).reply ∙ said
      go (Some user) e =
          servers_refuse_alike v K T x.answer.host user x.answer.call refusal agree.formed keeps.formed.ordered
          agree.same agree.locks agree.opens e meant.change meant.here meant.minds_none said

  by_refusal : (refusal : Refusal) → x.answer.reply ≡ Refused refusal
      → (answer_to K x.answer.host x.answer.call).reply ≡ Refused refusal
      → IsLegalChange v cause K x T
  by_refusal refusal said kept_refused =
      refused_legal v cause S K x k keeps good T agree meant.change meant.here no_move refusal said
      (refused_alike refusal kept_refused)

  by_grant : GrantingSo → x.answer.reply ≡ (answer_to K x.answer.host x.answer.call).reply → IsLegalChange v cause K x T
  by_grant g reply_kept = go (is_refusal x.answer.reply) refl (user_of T.roster x.answer.host) refl
    where
      alike : DecidesAlike T x.answer.host x.answer.call
      alike = granting_alike v cause S K x k keeps good T agree meant.change meant.here no_move g

      go : (b : Bool) → is_refusal x.answer.reply ≡ b → (o : Option User) → user_of T.roster x.answer.host ≡ o
          → IsLegalChange v cause K x T
      go true e o is = let r = refusal_of_it x.answer.reply e in by_refusal r.0 r.1 (sym reply_kept ∙ r.1)
      go false e (Some user) is =
          settled_legal v cause S K x k keeps good T agree meant.change meant.here no_move (idle_alike alike)
          reply_kept (λ f user is.
          nothing v cause S K x k keeps good T agree meant.change meant.here no_move g user is) e g user is
      go false e None is =
          absurd (false≢true (sym e
          ∙ ap is_refusal (reply_kept ∙ ((same_answers alike).reply
          ∙ nobody_refused v cause S K x k keeps good T agree meant.change meant.here no_move is))))

  -- a pinned token is in the way of no such Change
  not_pinned : IsOfRow K k.w k.change → CanRefuse v S k.w → ⊥
  not_pinned row can =
      let t = can.pinned in
      let way = (and_parts (not (t.0.host.0 == (asker k.w).0)) (any_conflict (need_of t.0) k.w.needs) t.2).1 in
      none_in_way t.0 (pinned_use v S t.0 t.1) (row_needs K k.w.host k.change)
      (plain_row k.change.enter (user_of K.roster k.w.host))
      (subst (λ ns. any_conflict (need_of t.0) ns ≡ true) row.0 way)
    where
      plain_row : (b : Bool) (o : Option User)
          → AllPlain (if b then [] else option_map_or (λ user. want K user k.change.call) o [])
      plain_row true o = refl
      plain_row false None = refl
      plain_row false (Some user) =
          plain_want K user k.change.call (ap is_change (sym k.call) ∙ meant.change)
          (ap minds_uses (sym k.call) ∙ meant.minds_none)

  pub legal_change : IsLegalChange v cause K x T
  legal_change = by k.so
    where
      by : DecidedSo v K S k.w k.change x.answer.reply → IsLegalChange v cause K x T
      by (TakesEffect effect row can is) =
          by_grant (granted_so v cause S K x k keeps good T agree meant.change meant.here no_move effect row can)
          (is ∙ kept_reply_same v cause S K x k keeps good T agree meant.change meant.here no_move)
      by (IsRefusedByTable refusal on is) =
          by_refusal refusal is (sym
          (kept_reply_same v cause S K x k keeps good T agree meant.change meant.here no_move)
          ∙ on.0)
      by (MeetsPinned not_refused row can is) = absurd (not_pinned row can)
