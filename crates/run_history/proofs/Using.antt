-- A Remove, a Lock and an OpenFile that a server decides are legal in each tree that agrees, and in which the
-- labels stand.
use Rattle.std.proofs.Common.{Bool, List, None, Option, Some, ap, arith, false, inl, not, refl, subst, sym, true, ℕ}
use Rattle.std.proofs.Common.{◌&&◌, ◌+◌, ◌++◌, ◌<◌, ◌==◌, ◌||◌, ◌∙◌, ◌∷◌, ◌≡◌}
use Rattle.std.proofs.lemmas.Bool.{and_parts, false≢true, ne_eqb}
use Rattle.std.proofs.lemmas.Grind.{common_steps}
use Rattle.std.specs.Option.{option_map_or}
use Rattle.std.specs.Prelude.{[], if◌then◌else◌}
use Rattle.base_types.specs.Ids.{same_fid}
use Rattle.base_types.specs.Opens.{opens_conflict}
use Rattle.base_types.specs.Spans.{overlap}
use Rattle.base_types.specs.declared.ids.Fid.{Fid}
use Rattle.base_types.specs.declared.ids.HostId.{HostId}
use Rattle.base_types.specs.declared.ids.Node.TheVariants.{Server}
use Rattle.base_types.specs.declared.ids.OpenKind.{OpenKind}
use Rattle.base_types.specs.declared.ids.OpenKind.TheVariants.{Exclusive}
use Rattle.base_types.specs.declared.ids.ServerId.{ServerId}
use Rattle.base_types.specs.declared.span.Span.{Span}
use Rattle.base_types.specs.declared.user.User.{User}
use Rattle.tree_calls.specs.Rosters.{user_of}
use Rattle.tree_calls.specs.declared.call.Call.{Call}
use Rattle.tree_calls.specs.declared.call.Call.TheVariants.{CloseFile, Lock, MoveFileset, OpenFile, Remove, Unlock}
use Rattle.tree_calls.specs.declared.place.Place.{Place}
use Rattle.tree_calls.specs.declared.reply.Refusal.{Refusal}
use Rattle.tree_calls.specs.declared.reply.Refusal.TheVariants.{AlreadyLocked, Denied, InUse, Locked, OpenConflict}
use Rattle.tree_calls.specs.declared.reply.Reply.{Reply}
use Rattle.tree_calls.specs.declared.reply.Reply.TheVariants.{Ok as Fine, Refused}
use Rattle.tree_calls.specs.declared.roster.Roster.{Roster}
use Rattle.need_host.specs.Questions.{is_change}
use Rattle.need_host.specs.Shows.{needs_show, shows}
use Rattle.tree_objects.specs.Spans.{span_between, whole}
use Rattle.tree_answers.proofs.Followed.{same_fid_itself}
use Rattle.tree_answers.specs.Answers.{answer_for, answer_to, for_user}
use Rattle.tree_answers.specs.Finding.{Answer}
use Rattle.tree_answers.specs.Locks.{covers, is_excluded, is_own_locked}
use Rattle.tree_answers.specs.Opens.{is_barred}
use Rattle.tree_answers.specs.Uses.{is_held, is_used, lock_hold, open_hold}
use Rattle.tree_answers.specs.WellFormed.{IsWellFormed}
use Rattle.tree_answers.specs.declared.tree.LockUse.{LockUse}
use Rattle.tree_answers.specs.declared.tree.OpenUse.{OpenUse}
use Rattle.tree_answers.specs.declared.tree.Tree.{Tree}
use Rattle.need_server.proofs.Alike.{names_change_alike}
use Rattle.need_server.proofs.Covering.{whole_use}
use Rattle.need_server.proofs.WantsThere.{wants_are_there}
use Rattle.need_server.specs.Kept.{kept_answer}
use Rattle.need_server.specs.Laws.{has_room, is_of_names}
use Rattle.need_server.specs.Wants.{all_of, every_use_of, want}
use Rattle.message_types.specs.Soundness.{HasRoom}
use Rattle.script_lines.specs.declared.script.Script.{Script}
use Rattle.need_laws.proofs.Lists.{or_left, or_right}
use Rattle.need_laws.proofs.Uses.{locks_mind_uses, opens_mind_uses, removes_mind_uses}
use Rattle.need_laws.specs.Idle.{idle, idle_answer, minds_uses}
use Rattle.need_laws.specs.Known.{IsAt}
use Rattle.need_laws.specs.Uses.{LockIs, OpenIs, RemoveIs}
use Rattle.need_laws.specs.Uses.LockIs.{RefusesLock, WantsLock}
use Rattle.need_laws.specs.Uses.OpenIs.{RefusesOpen, WantsOpen}
use Rattle.need_laws.specs.Uses.RemoveIs.{MeetsUse, Refuses, Removes}
use Rattle.token_types.specs.Conflicts.{any_conflict, blocks, kinds_conflict, need_of, needs_conflict}
use Rattle.token_types.specs.declared.token.Kind.{Kind}
use Rattle.token_types.specs.declared.token.Kind.TheVariants.{Bytes, Lock as LockToken, Opening, Status}
use Rattle.token_types.specs.declared.token.Need.{Need}
use Rattle.token_types.specs.declared.token.Token.{Token}
use Rattle.tree_laws.proofs.Steps.{fid_is}
use Rattle.tree_laws.specs.Parts.Part.{Size}
use Rattle.run_rules.specs.Doings.{Doing}
use Rattle.run_rules.specs.Kept.{is_refusal}
use Rattle.run_rules.specs.Messages.{home}
use Rattle.run_rules.specs.Past.{In}
use Rattle.run_rules.specs.Runs.{StepsMeet}
use Rattle.run_rules.specs.ServerDecides.{DecidedSo, IsOfRow, kept_reply, refusal_of}
use Rattle.run_rules.specs.ServerDecides.DecidedSo.{IsRefusedByTable, MeetsPinned, TakesEffect}
use Rattle.run_rules.specs.Tokens.{IsUseKind}
use Rattle.run_rules.specs.Wants.{CanRefuse, IsInWay, asker, asker_of, exporter, has_effect, is_use, moves_fileset}
use Rattle.run_history.proofs.ChangeLaw.{WrittenAt}
use Rattle.run_history.proofs.Deciding.{apart_kinds, granted_so, kept_reply_same, kept_same, need_there}
use Rattle.run_history.proofs.Deciding.{nobody_refused, Granting, IdleAlike, nothing, pinned_use, refused_legal}
use Rattle.run_history.proofs.Deciding.{settled_legal, there_own, wanted_same}
use Rattle.run_history.specs.Changes.{AgreesKept, IsLegalChange}
use Rattle.run_contents.proofs.Words.{any_in, both, in_any}
use Rattle.run_rules.specs.declared.applied.Written.{Written}
use Rattle.run_rules.specs.declared.step.Labelled.{Labelled}
use Rattle.run_rules.specs.declared.step.Step.{Step}
use Rattle.run_history.proofs.Free.{TreePasses}
use Rattle.run_history.proofs.Mid.{Mid}
use Rattle.run_history.proofs.Pinning.{lock_of, now_granted, open_of, passes_now, pin_use, pinned_used}
use Rattle.run_history.proofs.ServerStep.{token_home}
use Rattle.run_history.proofs.State.{LockedNow, StandsWith}

refusal_same : (a b : Refusal) → Refused a ≡ Refused b → a ≡ b
refusal_same a b e = cc

-- a tree with nothing in use is well formed, where the tree is
idle_formed : (tree : Tree) → IsWellFormed tree → IsWellFormed (idle tree)
idle_formed tree w = record {
  roster = w.roster;
  servers = w.servers;
  ordered = w.ordered;
  named = w.named;
  declared = w.declared;
  given = w.given;
  filesets = w.filesets;
  clones = w.clones;
  away = record {
    ordered = w.away.ordered;
    named = w.away.named;
    free = w.away.free;
    declared = w.away.declared;
    elsewhere = w.away.elsewhere;
  };
  counted = w.counted;
  promised = w.promised;
  numbers = w.numbers;
  locks = refl;
  opens = refl;
}

-- what conflicts with needs behind others
conflict_behind : (n a b : Need) (rest : List Need) → any_conflict n rest ≡ true → any_conflict n (a ∷ b ∷ rest) ≡ true
conflict_behind n a b rest e =
    or_right (needs_conflict n a) (any_conflict n (b ∷ rest)) (or_right (needs_conflict n b) (any_conflict n rest) e)

-- a lock or an open is in the way of what is wanted for a removal only on the object
removal_file : (t : Token) → IsUseKind t.kind → (parent file : Fid)
    → any_conflict (need_of t) (all_of true parent ++ all_of true file ++ every_use_of file) ≡ true → t.fid ≡ file
removal_file t use_kind parent file e =
    go (same_fid t.fid parent) (kinds_conflict t.kind (Status true)) (kinds_conflict t.kind (Bytes true whole))
    (same_fid t.fid file) refl (kinds_conflict t.kind (LockToken true whole)) (kinds_conflict t.kind
    (Opening Exclusive))
    (apart_kinds t.kind (Status true) use_kind refl) (apart_kinds t.kind (Bytes true whole) use_kind refl) e
  where
    go : (p a b f : Bool) → same_fid t.fid file ≡ f → (l o : Bool) → a ≡ false → b ≡ false
        → ((p && a) || ((p && b) || ((f && a) || ((f && b) || ((f && l) || ((f && o) || false)))))) ≡ true
        → t.fid ≡ file
    go p a b true q l o x y e = fid_is t.fid file q
    go true true b false q l o x y e = absurd (false≢true (sym x))
    go true false true false q l o x y e = absurd (false≢true (sym y))
    go true false false false q l o x y e = absurd (false≢true e)
    go false a b false q l o x y e = absurd (false≢true e)

room_is : (k : Kind) → HasRoom k → has_room k ≡ true
room_is (Bytes update span) r = let lt = r in grind (arith, common_steps, lt)
room_is (LockToken writing span) r = let lt = r in grind (arith, common_steps, lt)
room_is (Status update) r = refl
room_is (Opening kind) r = refl

module _ (script : Script) (start : Tree) (firsts : ServerId → ℕ) (real : (v : ServerId) → 0 < firsts v)
    (past : List Step) (s : Step) (run : StepsMeet script start firsts (s ∷ past)) (v : ServerId)
    (node : s.node ≡ Server v) (D : List Doing) (mid : Mid script start firsts real past s run v node D)
    (K : Tree) (x : Written) (w : WrittenAt v D K x) (T : Tree)
    (stands : StandsWith (LockedNow firsts past s (Server v)) T) (agree : AgreesKept v D K T)
    (change : is_change x.answer.call ≡ true) (here : IsAt v x.answer.call)
    (no_move : moves_fileset x.answer.call ≡ false) where
  abbrev host : HostId
  host = x.answer.host

  abbrev call : Call
  call = x.answer.call

  abbrev k_reply : Reply
  k_reply = (answer_to K host call).reply

  abbrev t_reply : Reply
  t_reply = (answer_to T host call).reply

  abbrev Legal : Type 0
  Legal = IsLegalChange v s.cause K x T

  kept_is : kept_reply K w.so.w.host w.so.change.call ≡ k_reply
  kept_is = kept_reply_same v s.cause D K x w.so w.keeps w.low T agree change here no_move

  refused_so : (r : Refusal) → x.answer.reply ≡ Refused r → t_reply ≡ Refused r → Legal
  refused_so r said told = refused_legal v s.cause D K x w.so w.keeps w.low T agree change here no_move r said told

  -- the server's reply is that of the tree with nothing in use, where the call looks at names alone
  idle_reply : is_of_names call ≡ true → k_reply ≡ (answer_to (idle T) host call).reply
  idle_reply names =
      (kept_same v s.cause D K x w.so w.keeps w.low T agree change here no_move).reply
      ∙ ap (λ (a : Answer). a.reply)
      (names_change_alike (idle T) host call (idle_formed T agree.formed) names)

  -- a want that something is in the way of isn't for entering
  not_enter : IsOfRow K w.so.w w.so.change → (t : Token) → IsInWay w.so.w t → w.so.change.enter ≡ false
  not_enter row t way = go w.so.change.enter refl
    where
      go : (b : Bool) → w.so.change.enter ≡ b → w.so.change.enter ≡ false
      go false e = e
      go true e =
          let p = and_parts (not (t.host.0 == (asker w.so.w).0)) (any_conflict (need_of t) w.so.w.needs) way in
          let none : w.so.w.needs ≡ [] =
          row.0 ∙ ap (λ b. if b then [] else option_map_or (λ user. want K user w.so.change.call)
          (user_of K.roster w.so.w.host) []) e in
          absurd (false≢true (ap (λ ns. any_conflict (need_of t) ns) (sym none) ∙ p.1))

  no_move_asked : moves_fileset w.so.change.call ≡ true → ⊥
  no_move_asked e = false≢true (sym no_move ∙ (ap moves_fileset w.so.call ∙ e))

  -- one that the server refuses, and the tree alike
  by_refused : (r : Refusal) → k_reply ≡ Refused r → t_reply ≡ Refused r → Legal
  by_refused r refused told = by w.so.so
    where
      by : DecidedSo v K D w.so.w w.so.change x.answer.reply → Legal
      by (IsRefusedByTable refusal on is) =
          refused_so r (is ∙ (sym on.0 ∙ (kept_is ∙ refused))) told
      by (TakesEffect effect row can is) = refused_so r (is ∙ (kept_is ∙ refused)) told
      by (MeetsPinned accepted row can is) =
          let enter = not_enter row can.pinned.0 can.pinned.2 in
          absurd (accepted r (
            kept_is ∙ refused,
            λ e. absurd (false≢true (sym enter ∙ e)),
            λ e. absurd (no_move_asked e),
          ))

  -- what is asked for nobody is refused
  nobody : user_of T.roster host ≡ None → Legal
  unfolding answer_to
  nobody e =
      by_refused (Denied 0)
      (ap (λ (o : Option User). (for_user K o (answer_for K host call)).reply)
      (ap (λ (r : Roster). user_of r host) agree.same.roster ∙ e))
      (nobody_refused v s.cause D K x w.so w.keeps w.low T agree change here no_move e)

  -- what is wanted for a user's call
  needs_are : (user : User) → user_of T.roster host ≡ Some user → w.so.change.enter ≡ false
      → IsOfRow K w.so.w w.so.change → w.so.w.needs ≡ want T user call
  needs_are user is enter row =
      row.0
      ∙ (ap (λ b. if b then [] else option_map_or (λ user. want K user w.so.change.call)
      (user_of K.roster w.so.w.host) [])
      enter
      ∙ ((λ i. option_map_or (λ user. want K user (sym w.so.call i)) (user_of K.roster (sym w.so.host i)) [])
      ∙ (ap (λ (o : Option User). option_map_or (λ user. want K user call) o [])
      (ap (λ (r : Roster). user_of r host) agree.same.roster ∙ is)
      ∙ wanted_same v s.cause D K x w.so w.keeps w.low T agree change here no_move user)))

  in_the_way : (t : Token) → IsInWay w.so.w t → any_conflict (need_of t) w.so.w.needs ≡ true
  in_the_way t way = (and_parts (not (t.host.0 == (asker w.so.w).0)) (any_conflict (need_of t) w.so.w.needs) way).1

  not_asker : (t : Token) → IsInWay w.so.w t → not (t.host.0 == (asker w.so.w).0) ≡ true
  not_asker t way = (and_parts (not (t.host.0 == (asker w.so.w).0)) (any_conflict (need_of t) w.so.w.needs) way).0

  -- a Remove
  module _ (place : Place) (is : call ≡ Remove place) (user : User) (is_user : user_of T.roster host ≡ Some user) where
    names : is_of_names call ≡ true
    names = ap is_of_names is

    abbrev Wanted_so : Fid → Fid → Type 0
    Wanted_so parent file =
        want T user (Remove place) ≡ all_of true parent ++ all_of true file ++ every_use_of file

    wanted_so : (parent file : Fid) → Wanted_so parent file
        → want T user call ≡ all_of true parent ++ all_of true file ++ every_use_of file
    wanted_so parent file e = ap (λ (c : Call). want T user c) is ∙ e

    -- the object is of this server
    file_home : (parent file : Fid) → Wanted_so parent file → home file.fileset ≡ v
    file_home parent file e =
        there_own v K file agree.kept_homes agree.own
        (need_there K (want K user call) file Size (wants_are_there K user call w.keeps.formed) shown)
      where
        shown : needs_show (want K user call) file Size ≡ true
        shown =
            ap (λ ns. needs_show ns file Size)
            (wanted_same v s.cause D K x w.so w.keeps w.low T agree change here no_move user ∙ wanted_so parent file e)
            ∙ or_right (same_fid parent file && shows (Status true) Size) _
            (or_right (same_fid parent file && shows (Bytes true whole) Size) _
            (or_left (same_fid file file && shows (Status true) Size) _
            (both (same_fid file file) (shows (Status true) Size) (same_fid_itself file) refl)))

    -- where it has its effect, nothing is in use on the object
    unused : (parent file : Fid) → Wanted_so parent file
        → Granting v s.cause D K x w.so w.keeps w.low T agree change here no_move
        → is_used T.locks T.opens file ≡ true → ⊥
    unused parent file e g used = go (is_held lock_hold T.locks file) refl
      where
        needs : w.so.w.needs ≡ all_of true parent ++ all_of true file ++ every_use_of file
        needs =
            g.needs
            ∙ (ap (λ (o : Option User). option_map_or (λ user. want K user call) o [])
            (ap (λ (r : Roster). user_of r host) agree.same.roster ∙ is_user)
            ∙ (wanted_same v s.cause D K x w.so w.keeps w.low T agree change here no_move user
            ∙ wanted_so parent file e))

        in_use : (h : HostId) (u : Labelled) → LockedNow firsts past s (Server v) h u → u.token.fid ≡ file → ⊥
        in_use h u l same =
            let at : u.token.id.server ≡ v =
            sym (token_home script start firsts real past s run v node h u l.0)
            ∙ (ap (λ (f : Fid). home f.fileset) same ∙ file_home parent file e) in
            let granted = (now_granted script start firsts real past s run v node D mid g.can.over h u at l).0 in
            let low = w.low u.token granted in
            let apart : (u.token.host.0 == 17) ≡ false =
            ne_eqb u.token.host.0 17 (λ q. omega (arith, low, q)) in
            let way : any_conflict (need_of u.token) (all_of true parent ++ all_of true file ++ every_use_of file)
            ≡ true =
            conflict_behind (need_of u.token) (record { fid = parent; kind = Status true })
            (record { fid = parent; kind = Bytes true whole }) (all_of true file ++ every_use_of file)
            (subst (λ (f : Fid). any_conflict (record { fid = u.token.fid; kind = u.token.kind })
            (all_of true f ++ every_use_of f) ≡ true) same
            (whole_use u.token.fid u.token.kind (room_is u.token.kind (w.room u.token granted)))) in
            let asks = sym g.asks in
            let wants = sym needs in
            g.can.free u.token (inl granted)
            (subst (λ (y : HostId × List Need). blocks y.0 y.1 u.token ≡ true) (λ i. (asks i, wants i))
            (both (not (u.token.host.0 == 17))
            (any_conflict (need_of u.token) (all_of true parent ++ all_of true file ++ every_use_of file))
            (ap not apart) way))

        go : (b : Bool) → is_held lock_hold T.locks file ≡ b → ⊥
        go true q =
            let k = any_in (λ (lock : LockUse). same_fid lock.fid file) T.locks q in
            let u = (stands.locks k.0).0 k.1 in
            in_use k.0.host u.0 u.1 (sym u.2.2 ∙ fid_is k.0.fid file k.2)
        go false q =
            let k = any_in (λ (opened : OpenUse). same_fid opened.fid file) T.opens
            (sym (ap (λ b. b || is_held open_hold T.opens file) q) ∙ used) in
            let u = (stands.opens k.0).0 k.1 in
            in_use k.0.host u.0 u.1 (sym u.2.2 ∙ fid_is k.0.fid file k.2)

    idle_fine : (answer_to (idle T) host (Remove place)).reply ≡ Fine → k_reply ≡ Fine
    idle_fine e = idle_reply names ∙ (ap (λ (c : Call). (answer_to (idle T) host c).reply) is ∙ e)

    -- nothing refuses it but what is in use
    module _ (parent file : Fid) (wants : Wanted_so parent file) (fine : k_reply ≡ Fine) where
      not_refused : (r : Refusal) → k_reply ≡ Refused r → ⊥
      not_refused r e = let q : Fine ≡ Refused r = sym fine ∙ e in cc

      met_use : IsOfRow K w.so.w w.so.change → CanRefuse v D w.so.w → is_used T.locks T.opens file ≡ true
      met_use row can =
          let t = can.pinned in
          let enter = not_enter row t.0 t.2 in
          let way = ap (λ ns. any_conflict (need_of t.0) ns)
          (sym (needs_are user is_user enter row ∙ wanted_so parent file wants)) ∙ in_the_way t.0 t.2 in
          let same = removal_file t.0 (pinned_use v D t.0 t.1) parent file way in
          subst (λ (f : Fid). is_used T.locks T.opens f ≡ true) same
          (pinned_used script start firsts real past s run v node D mid T stands t.0 t.1)

      by_use : is_used T.locks T.opens file ≡ true → t_reply ≡ Refused InUse → Legal
      by_use used told = by w.so.so
        where
          by : DecidedSo v K D w.so.w w.so.change x.answer.reply → Legal
          by (IsRefusedByTable refusal on is_it) = absurd (not_refused refusal (sym kept_is ∙ on.0))
          by (MeetsPinned accepted row can is_it) =
              refused_so InUse (is_it ∙ ap (λ (c : Call). Refused (refusal_of c)) (sym w.so.call ∙ is)) told
          by (TakesEffect effect row can is_it) =
              absurd (unused parent file wants
              (granted_so v s.cause D K x w.so w.keeps w.low T agree change here no_move effect row can) used)

      by_removal : is_used T.locks T.opens file ≡ false
          → answer_to (idle T) host (Remove place) ≡ idle_answer (answer_to T host (Remove place)) → Legal
      by_removal free same = by w.so.so
        where
          alike : IdleAlike v s.cause D K x w.so w.keeps w.low T agree change here no_move
          alike =
              names_change_alike (idle T) host call (idle_formed T agree.formed) names
              ∙ ap kept_answer (subst (λ (c : Call). answer_to (idle T) host c
              ≡ idle_answer (answer_to T host c)) (sym is)
              same)

          by : DecidedSo v K D w.so.w w.so.change x.answer.reply → Legal
          by (IsRefusedByTable refusal on is_it) = absurd (not_refused refusal (sym kept_is ∙ on.0))
          by (MeetsPinned accepted row can is_it) = absurd (false≢true (sym free ∙ met_use row can))
          by (TakesEffect effect row can is_it) =
              let g = granted_so v s.cause D K x w.so w.keeps w.low T agree change here no_move effect row can in
              settled_legal v s.cause D K x w.so w.keeps w.low T agree change here no_move alike (is_it ∙ kept_is)
              (λ f u q. nothing v s.cause D K x w.so w.keeps w.low T agree change here no_move g u q)
              (ap is_refusal (is_it ∙ (kept_is ∙ fine))) g user is_user

    remove_legal : RemoveIs T host user place → Legal
    remove_legal (Refuses r refused told) =
        by_refused r (idle_reply names ∙ (ap (λ (c : Call). (answer_to (idle T) host c).reply) is ∙ refused))
        (ap (λ (c : Call). (answer_to T host c).reply) is ∙ told)
    remove_legal (MeetsUse parent file wants fine used told) =
        by_use parent file wants (idle_fine fine) used (ap (λ (c : Call). (answer_to T host c).reply) is ∙ told)
    remove_legal (Removes parent file wants fine free same) = by_removal parent file wants (idle_fine fine) free same

  -- how a lock or an open is asked for
  asks_host : is_use call ≡ true → asker w.so.w ≡ host
  asks_host use_call =
      ap (asker_of w.so.w.host) w.so.request
      ∙ (ap (λ b. if b then w.so.w.host else exporter) (ap is_use (sym w.so.call) ∙ use_call) ∙ sym w.so.host)

  passed : TreePasses T host w.so.change call
  passed = passes_now script start firsts real past s run v node D mid T stands K x w.so w.taken

  -- a token in the way of one need is on its file, and conflicts
  one_way : (t : Token) (n : Need) → any_conflict (need_of t) (n ∷ []) ≡ true
      → (t.fid ≡ n.fid) × (kinds_conflict t.kind n.kind ≡ true)
  one_way t n e = go (needs_conflict (need_of t) n) refl e
    where
      go : (b : Bool) → needs_conflict (need_of t) n ≡ b → (b || false) ≡ true
          → (t.fid ≡ n.fid) × (kinds_conflict t.kind n.kind ≡ true)
      go true q r =
          let p = and_parts (same_fid t.fid n.fid) (kinds_conflict t.kind n.kind) q in (fid_is t.fid n.fid p.0, p.1)
      go false q r = absurd (false≢true r)

  has_no_effect : is_use call ≡ true → has_effect w.so.change ≡ true → ⊥
  has_no_effect use_call e =
      go w.so.change.enter (is_use w.so.change.call) (moves_fileset w.so.change.call) (ap is_use (sym w.so.call) ∙ use_call) e
    where
      go : (a b m : Bool) → b ≡ true → (not a && not b && not m) ≡ true → ⊥
      go true b m q e = false≢true e
      go false true m q e = false≢true e
      go false false m q e = false≢true q

  -- a Lock
  module _ (label : List ℕ) (place : Place) (writing : Bool) (from len : ℕ)
      (is : call ≡ Lock label place writing from len) (user : User) (is_user : user_of T.roster host ≡ Some user) where
    abbrev span : Span
    span = span_between from (from + len)

    abbrev lock_call : Call
    lock_call = Lock label place writing from len

    free : TreePasses T host w.so.change lock_call
    free = subst (λ (c : Call). TreePasses T host w.so.change c) is passed

    idle_is : k_reply ≡ (answer_to (idle T) host lock_call).reply
    idle_is =
        idle_reply (ap is_of_names is) ∙ ap (λ (c : Call). (answer_to (idle T) host c).reply) is

    told_is : (answer_to T host lock_call).reply ≡ t_reply
    told_is = ap (λ (c : Call). (answer_to T host c).reply) (sym is)

    -- a pinned token in the way is that of a lock of another host
    module _ (file : Fid) (wants : want T user lock_call ≡ record { fid = file; kind = LockToken writing span } ∷ [])
        (row : IsOfRow K w.so.w w.so.change) (can : CanRefuse v D w.so.w) where
      abbrev pin : Token
      pin = can.pinned.0

      enter : w.so.change.enter ≡ false
      enter = not_enter row pin can.pinned.2

      needs : w.so.w.needs ≡ record { fid = file; kind = LockToken writing span } ∷ []
      needs = needs_are user is_user enter row ∙ (ap (λ (c : Call). want T user c) is ∙ wants)

      way : (pin.fid ≡ file) × (kinds_conflict pin.kind (LockToken writing span) ≡ true)
      way =
          one_way pin (record { fid = file; kind = LockToken writing span })
          (ap (λ ns. any_conflict (need_of pin) ns) (sym needs) ∙ in_the_way pin can.pinned.2)

      other : not (pin.host.0 == host.0) ≡ true
      other = ap (λ (h : HostId). not (pin.host.0 == h.0)) (sym (asks_host (ap is_use is))) ∙ not_asker pin can.pinned.2

      -- the host found the same file, on which it has no lock there
      found : file ≡ w.so.change.fid
      found =
          row.1 (ap is_use (sym w.so.call ∙ is)) (record { fid = file; kind = LockToken writing span })
          (subst (In (record { fid = file; kind = LockToken writing span })) (sym needs) (inl refl))

      not_own : is_own_locked T.locks host file span ≡ false
      not_own = subst (λ (f : Fid). is_own_locked T.locks host f span ≡ false) (sym found) (free.2 enter)

      excluded : is_excluded T.locks host file span writing ≡ true
      excluded = go (is_excluded T.locks host file span writing) refl
        where
          in_way : (u : Labelled) → u.token ≡ pin → LockedNow firsts past s (Server v) pin.host u
              → is_excluded T.locks host file span writing ≡ true
          in_way u one l = by pin.kind refl (pinned_use v D pin can.pinned.1) way.1
            where
              by : (k : Kind) → pin.kind ≡ k → IsUseKind k → kinds_conflict k (LockToken writing span) ≡ true
                  → is_excluded T.locks host file span writing ≡ true
              by (LockToken w sp) e use_it c =
                  let p = and_parts (w || writing) (overlap sp span) c in
                  let same : u.token.fid ≡ file = ap (λ (t : Token). t.fid) one ∙ way.0 in
                  in_any (λ (lock : LockUse). not (lock.host.0 == host.0) && covers file span lock &&
                  (lock.writing || writing))
                  T.locks (record { host = pin.host; label = u.label; fid = u.token.fid; writing = w; span = sp })
                  (lock_of script start firsts real past s run v node D mid T stands pin.host u w sp
                  (ap (λ (t : Token). t.kind) one ∙ e) l)
                  (both (not (pin.host.0 == host.0) && (same_fid u.token.fid file && overlap sp span)) (w || writing)
                  (both (not (pin.host.0 == host.0)) (same_fid u.token.fid file && overlap sp span) other
                  (both (same_fid u.token.fid file) (overlap sp span)
                  (ap (λ (f : Fid). same_fid u.token.fid f) (sym same) ∙ same_fid_itself u.token.fid) p.1)) p.0)
              by (Opening k) e use_it c = absurd (false≢true c)
              by (Bytes u r) e use_it c = elim use_it [ ]
              by (Status u) e use_it c = elim use_it [ ]

          go : (b : Bool) → is_excluded T.locks host file span writing ≡ b
              → is_excluded T.locks host file span writing ≡ true
          go true e = e
          go false e =
              absurd (pin_use script start firsts real past s run v node D mid pin can.pinned.1
              (λ u one l. false≢true (sym e ∙ in_way u one l)))

    lock_legal : LockIs T host user label place writing from len → Legal
    lock_legal (RefusesLock r refused told) = by_refused r (idle_is ∙ refused) (sym told_is ∙ told)
    lock_legal (WantsLock file wants fine told) = by w.so.so
      where
        by : DecidedSo v K D w.so.w w.so.change x.answer.reply → Legal
        by (IsRefusedByTable refusal on is_it) =
            absurd (let q : Fine ≡ Refused refusal = sym (idle_is ∙ fine) ∙ (sym kept_is ∙ on.0) in cc)
        by (TakesEffect effect row can is_it) = absurd (has_no_effect (ap is_use is) effect)
        by (MeetsPinned accepted row can is_it) =
            refused_so Locked (is_it ∙ ap (λ (c : Call). Refused (refusal_of c)) (sym w.so.call ∙ is))
            (sym told_is ∙ (told ∙ (λ i. if not_own file wants row can i then Refused AlreadyLocked
            else if excluded file wants row can i then Refused Locked else Fine)))

  -- an OpenFile
  module _ (label : List ℕ) (place : Place) (kind : OpenKind) (is : call ≡ OpenFile label place kind) (user : User)
      (is_user : user_of T.roster host ≡ Some user) where
    abbrev open_call : Call
    open_call = OpenFile label place kind

    free_open : TreePasses T host w.so.change open_call
    free_open = subst (λ (c : Call). TreePasses T host w.so.change c) is passed

    idle_open : k_reply ≡ (answer_to (idle T) host open_call).reply
    idle_open =
        idle_reply (ap is_of_names is) ∙ ap (λ (c : Call). (answer_to (idle T) host c).reply) is

    told_open : (answer_to T host open_call).reply ≡ t_reply
    told_open = ap (λ (c : Call). (answer_to T host c).reply) (sym is)

    module _ (file : Fid) (wants : want T user open_call ≡ record { fid = file; kind = Opening kind } ∷ [])
        (row : IsOfRow K w.so.w w.so.change) (can : CanRefuse v D w.so.w) where
      abbrev pinned_one : Token
      pinned_one = can.pinned.0

      barred_way : (pinned_one.fid ≡ file) × (kinds_conflict pinned_one.kind (Opening kind) ≡ true)
      barred_way =
          let enter = not_enter row pinned_one can.pinned.2 in
          one_way pinned_one (record { fid = file; kind = Opening kind })
          (ap (λ ns. any_conflict (need_of pinned_one) ns)
          (sym (needs_are user is_user enter row ∙ (ap (λ (c : Call). want T user c) is ∙ wants)))
          ∙ in_the_way pinned_one can.pinned.2)

      of_other : not (pinned_one.host.0 == host.0) ≡ true
      of_other =
          ap (λ (h : HostId). not (pinned_one.host.0 == h.0)) (sym (asks_host (ap is_use is)))
          ∙ not_asker pinned_one can.pinned.2

      barred : is_barred T.opens host file kind ≡ true
      barred = go (is_barred T.opens host file kind) refl
        where
          in_way : (u : Labelled) → u.token ≡ pinned_one → LockedNow firsts past s (Server v) pinned_one.host u
              → is_barred T.opens host file kind ≡ true
          in_way u one l = by pinned_one.kind refl (pinned_use v D pinned_one can.pinned.1) barred_way.1
            where
              by : (k : Kind) → pinned_one.kind ≡ k → IsUseKind k → kinds_conflict k (Opening kind) ≡ true
                  → is_barred T.opens host file kind ≡ true
              by (Opening other) e use_it c =
                  let same : u.token.fid ≡ file = ap (λ (t : Token). t.fid) one ∙ barred_way.0 in
                  in_any (λ (opened : OpenUse).
                  not (opened.host.0 == host.0) && same_fid opened.fid file && opens_conflict opened.kind kind) T.opens
                  (record { host = pinned_one.host; label = u.label; fid = u.token.fid; kind = other })
                  (open_of script start firsts real past s run v node D mid T stands pinned_one.host u other
                  (ap (λ (t : Token). t.kind) one ∙ e) l)
                  (both (not (pinned_one.host.0 == host.0) && same_fid u.token.fid file) (opens_conflict other kind)
                  (both (not (pinned_one.host.0 == host.0)) (same_fid u.token.fid file) of_other
                  (ap (λ (f : Fid). same_fid u.token.fid f) (sym same) ∙ same_fid_itself u.token.fid)) c)
              by (LockToken w sp) e use_it c = absurd (false≢true c)
              by (Bytes u r) e use_it c = elim use_it [ ]
              by (Status u) e use_it c = elim use_it [ ]

          go : (b : Bool) → is_barred T.opens host file kind ≡ b → is_barred T.opens host file kind ≡ true
          go true e = e
          go false e =
              absurd (pin_use script start firsts real past s run v node D mid pinned_one can.pinned.1
              (λ u one l. false≢true (sym e ∙ in_way u one l)))

    open_legal : OpenIs T host user label place kind → Legal
    open_legal (RefusesOpen r refused told) = by_refused r (idle_open ∙ refused) (sym told_open ∙ told)
    open_legal (WantsOpen file wants fine told) = by w.so.so
      where
        by : DecidedSo v K D w.so.w w.so.change x.answer.reply → Legal
        by (IsRefusedByTable refusal on is_it) =
            absurd (let q : Fine ≡ Refused refusal = sym (idle_open ∙ fine) ∙ (sym kept_is ∙ on.0) in cc)
        by (TakesEffect effect row can is_it) = absurd (has_no_effect (ap is_use is) effect)
        by (MeetsPinned accepted row can is_it) =
            refused_so OpenConflict (is_it ∙ ap (λ (c : Call). Refused (refusal_of c)) (sym w.so.call ∙ is))
            (sym told_open ∙ (told ∙ ap (λ b. if b then Refused OpenConflict else Fine) (barred file wants row can)))

  pub use_legal : minds_uses call ≡ true → Legal
  use_legal minds = go call refl change here minds
    where
      by_user : ((user : User) → user_of T.roster host ≡ Some user → Legal) → (o : Option User)
          → user_of T.roster host ≡ o → Legal
      by_user each None e = nobody e
      by_user each (Some user) e = each user e

      go : (c : Call) → call ≡ c → is_change c ≡ true → IsAt v c → minds_uses c ≡ true → Legal
      go (Remove place) is ch at m =
          by_user (λ user e. remove_legal place is user e (removes_mind_uses T host user place agree.formed e))
          (user_of T.roster host) refl
      go (Lock label place writing from len) is ch at m =
          by_user (λ user e. lock_legal label place writing from len is user e
          (let f = free label place writing from len is user e in
          locks_mind_uses T host user label place writing from len e f.0 f.1)) (user_of T.roster host) refl
      go (OpenFile label place kind) is ch at m =
          by_user (λ user e. open_legal label place kind is user e
          (let f = free_open label place kind is user e in opens_mind_uses T host user label place kind e f.0 f.1))
          (user_of T.roster host) refl
      go (MoveFileset server name to) is ch at m = elim at [ ]
      go (Unlock label) is ch at m = absurd (false≢true ch)
      go (CloseFile label) is ch at m = absurd (false≢true ch)
      go _ is ch at m = absurd (false≢true m)
