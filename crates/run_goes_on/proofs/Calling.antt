-- An open call goes to one server, and stays open there until that has welcomed the host: so a host that greeted a
-- server, and isn't welcome there, has an open call; and it says Bye to none that it isn't welcome at.
use Rattle.std.proofs.Common.{Bool, List, None, Option, Some, [], ap, arith, false, inl, inr, length, nat_le, refl}
use Rattle.std.proofs.Common.{subst, sym, true, ℕ, ◌&&◌, ◌==◌, ◌∙◌, ◌∷◌, ◌≡◌, ◌⊎◌}
use Rattle.std.proofs.lemmas.Bool.{and_from, and_parts, eq-eqb, eqb-true, false≢true, leb-false, lt-leb}
use Rattle.std.proofs.lemmas.List.Sums.{count_by-le-length, sum_by-cons}
use Rattle.std.specs.List.{list_any}
use Rattle.std.specs.Prelude.{cond, count_by, if◌then◌else◌, ◌||◌}
use Rattle.base_types.specs.declared.ids.FilesetId.{FilesetId}
use Rattle.base_types.specs.declared.ids.HostId.{HostId}
use Rattle.base_types.specs.declared.ids.Node.{Node}
use Rattle.base_types.specs.declared.ids.Node.TheVariants.{Host, Server}
use Rattle.base_types.specs.declared.ids.ServerId.{ServerId}
use Rattle.base_types.specs.declared.limits.TheConstants.{LABELS_MAX}
use Rattle.base_types.specs.declared.user.User.{User}
use Rattle.tree_calls.specs.declared.call.Call.{Call}
use Rattle.tree_calls.specs.declared.call.Call.TheVariants.{CloneFileset, CloseFile, Create, GetAcl, List as ListNames}
use Rattle.tree_calls.specs.declared.call.Call.TheVariants.{Lock as LockCall, MakeDir, MoveFileset, NewFileset}
use Rattle.tree_calls.specs.declared.call.Call.TheVariants.{OpenFile, Read, Remove, Rename, SetAcl, Stat, Sync}
use Rattle.tree_calls.specs.declared.call.Call.TheVariants.{Truncate, Unlock, Write}
use Rattle.tree_calls.specs.declared.reply.Refusal.{Refusal}
use Rattle.tree_calls.specs.declared.reply.Refusal.TheVariants.{AlreadyLocked, AlreadyOpened, TooMany}
use Rattle.tree_calls.specs.declared.reply.Reply.TheVariants.{Refused}
use Rattle.tree_calls.specs.declared.roster.Roster.{Roster}
use Rattle.tree_answers.specs.Locks.{has_lock, lock_count}
use Rattle.tree_answers.specs.Opens.{has_open, open_count}
use Rattle.tree_answers.specs.Uses.{Hold, has_label, is_under, label_count, lock_hold, open_hold}
use Rattle.tree_answers.specs.declared.tree.LockUse.{LockUse}
use Rattle.tree_answers.specs.declared.tree.OpenUse.{OpenUse}
use Rattle.tree_answers.specs.declared.tree.Tree.{Tree}
use Rattle.token_types.specs.declared.token.Kind.{Kind}
use Rattle.token_types.specs.declared.token.Kind.TheVariants.{Bytes, Lock as LockToken, Opening, Status}
use Rattle.token_types.specs.declared.token.Need.{Need}
use Rattle.token_types.specs.declared.token.Token.{Token}
use Rattle.script_lines.specs.declared.script.Script.{Script}
use Rattle.message_types.specs.declared.asking.Change.{Change as ChangeOf}
use Rattle.message_types.specs.declared.giving.Reclaimed.{Reclaimed as ReclaimedOf}
use Rattle.message_types.specs.declared.message.Body.{Body}
use Rattle.message_types.specs.declared.message.Body.TheVariants.{Bye, Change, Reclaimed}
use Rattle.message_types.specs.declared.message.Message.{Message}
use Rattle.message_types.specs.declared.telling.Done.{Done as DoneOf}
use Rattle.need_host.proofs.Asking.{questions_are_about_filesets}
use Rattle.need_host.specs.Calls.{Own, Verdict, call_look, change_look, from_root, list_look, lock_look, open_look}
use Rattle.need_host.specs.Calls.{read_look, refuse, reply_now, stat_look, access_look, sync_look, write_look}
use Rattle.need_host.specs.Calls.Verdict.{Asks, Replies}
use Rattle.need_host.specs.Laws.{IsAbout}
use Rattle.need_host.specs.Looks.{IsFirstLack, Look, View, needs_of, outcome}
use Rattle.need_host.specs.Questions.{Question, fileset_of, is_change}
use Rattle.need_host.specs.Questions.Question.{ChangeAt, ChangeIn, EnterAt}
use Rattle.base_types.specs.declared.ids.Fid.{Fid}
use Rattle.run_contents.proofs.Calls.{begins_free, given_call, one_open}
use Rattle.run_contents.proofs.Runs.{own_run}
use Rattle.run_contents.specs.Steps.{HostRun}
use Rattle.run_examples.proofs.LeaveChecks.{no_more}
use Rattle.run_examples.proofs.Words.{moved}
use Rattle.run_history.proofs.Asking.{all_well}
use Rattle.run_rules.specs.HostAsks.{GoesTo, IsNewChange}
use Rattle.run_rules.specs.HostDue.{HostDue}
use Rattle.run_rules.specs.Messages.{Changing, ComesIn, DoneComes, HasGreeted, HasSaid, IsWelcome, Said, Says}
use Rattle.run_rules.specs.Messages.{Sends, Stay, epoch_at, home}
use Rattle.run_rules.specs.Past.{Always, EachOnce, In, appended}
use Rattle.run_rules.specs.Runs.{StepDue, StepsMeet}
use Rattle.run_rules.specs.Steps.{steps_of_host}
use Rattle.run_rules.specs.Tokens.{CauseEnds, IsOpen, LearnsEnd, NoneOpen, end_call, end_of}
use Rattle.run_rules.specs.Views.{Entered, HasLabel, KnowsItself, Stance, needs_in, sees, stay_asked}
use Rattle.run_rules.specs.Views.{verdict_in}
use Rattle.run_rules.specs.declared.step.Asked.{Asked}
use Rattle.run_rules.specs.declared.step.Cause.{Cause}
use Rattle.run_rules.specs.declared.step.Cause.TheVariants.{End, Evict, Flushed, Freight}
use Rattle.run_rules.specs.declared.step.Cause.TheVariants.{Lapse, Line as LineOf, Message as Came}
use Rattle.run_rules.specs.declared.step.Cause.TheVariants.{Restart}
use Rattle.run_rules.specs.declared.step.Labelled.{Labelled}
use Rattle.run_rules.specs.declared.step.Step.{Step}
use Rattle.run_tokens.proofs.Words.{if_host, own_after}
use Rattle.run_goes_on.proofs.Needing.{seen_need}
use Rattle.run_goes_on.proofs.Positions.{always_back, host_steps, steps_back}

-- # The server of a call: that of its fileset, or the one that has a fileset more by it

abbrev founded : Call → Option ServerId
founded (NewFileset server name objects owner) = Some server
founded (CloneFileset server source new) = Some server
founded _ = None

abbrev named_or : Option (ServerId × List ℕ) → Option ServerId → Option ServerId
named_or (Some place) other = Some place.0
named_or None other = other

abbrev pub GoesAt : ServerId → Call → Type 0
GoesAt v call = named_or (fileset_of call) (founded call) ≡ Some v

some_server : (v w : ServerId) → Some v ≡ Some w → v ≡ w
some_server v w e = cc

by_name : (call : Call) (v : ServerId) (name : List ℕ) → fileset_of call ≡ Some (v, name) → GoesAt v call
by_name call v name e = ap (λ (o : Option (ServerId × List ℕ)). named_or o (founded call)) e

by_founding : (call : Call) (v : ServerId) → fileset_of call ≡ None → founded call ≡ Some v → GoesAt v call
by_founding call v none e = ap (λ (o : Option (ServerId × List ℕ)). named_or o (founded call)) none ∙ e

one_server : (call : Call) (v w : ServerId) → GoesAt v call → GoesAt w call → v ≡ w
one_server call v w a b = some_server v w (sym a ∙ b)

-- the end of a label goes to none
ends_nowhere : (v : ServerId) (u : Labelled) → GoesAt v (end_of u) → ⊥
ends_nowhere v u = go u.token.kind
  where
    none : None ≡ Some v → ⊥
    none e = cc

    go : (kind : Kind) → GoesAt v (end_call kind u.label) → ⊥
    go (Opening kind) e = none e
    go (Bytes update span) e = none e
    go (Status update) e = none e
    go (LockToken writing span) e = none e

-- # What a host makes of a call

-- its labels leave room for the call's
abbrev Free : Own → HostId → Call → Type 0
Free own host (LockCall label place writing from len) =
    (has_lock own.locks host label ≡ false) × (nat_le LABELS_MAX (lock_count own.locks host) ≡ false)
Free own host (OpenFile label place kind) =
    (has_open own.opens host label ≡ false) × (nat_le LABELS_MAX (open_count own.opens host) ≡ false)
Free own host _ = Unit {0}

no_pair : (x : ServerId × List ℕ) → Some x ≡ None → ⊥
no_pair x e = cc

module _ (own : Own) (host : HostId) (user : User) (view : View) where
  abbrev AsksOf : Look Verdict → Type 0
  AsksOf look = (q : Question) × (outcome view look ≡ Asks q)

  -- a call by which a server has a fileset more
  founds : (call : Call) (server : ServerId) → outcome view (call_look own host user call) ≡ Asks (ChangeAt server)
      → fileset_of call ≡ None → is_change call ≡ true → founded call ≡ Some server
  unfolding call_look
  founds (NewFileset at name objects owner) server e none k =
      let q : Asks (ChangeAt at) ≡ Asks (ChangeAt server) = e in cc
  founds (CloneFileset at source new) server e none k =
      let q : Asks (ChangeAt at) ≡ Asks (ChangeAt server) = e in cc
  founds (Create place) server e none k = absurd (no_pair (place.server, place.fileset) none)
  founds (MakeDir place) server e none k = absurd (no_pair (place.server, place.fileset) none)
  founds (Remove place) server e none k = absurd (no_pair (place.server, place.fileset) none)
  founds (Rename from to) server e none k = absurd (no_pair (from.server, from.fileset) none)
  founds (Truncate place len) server e none k = absurd (no_pair (place.server, place.fileset) none)
  founds (SetAcl place which list) server e none k = absurd (no_pair (place.server, place.fileset) none)
  founds (LockCall label place writing from len) server e none k =
      absurd (no_pair (place.server, place.fileset) none)
  founds (OpenFile label place kind) server e none k = absurd (no_pair (place.server, place.fileset) none)
  founds (MoveFileset at name to) server e none k = absurd (no_pair (at, name) none)
  founds _ server e none k = absurd (false≢true k)

  -- where it has seen nothing of the server, it asks
  module _ (v : ServerId) (unseen : (name : List ℕ) → own.seen v name ≡ None) where
    rooted : (server : ServerId) (name : List ℕ) (look : Fid → Look Verdict) → Some server ≡ Some v
        → AsksOf (from_root server (own.seen server name) look)
    rooted server name look e =
        let same : v ≡ server = sym (some_server server v e) in (
          EnterAt server,
          ap (λ (o : Option FilesetId). outcome view (from_root server o look))
              (subst (λ (w : ServerId). own.seen w name ≡ None) same (unseen name)),
        )

    labelled : (used full : Bool) (refusal : Refusal) (look : Look Verdict) → used ≡ false → full ≡ false
        → AsksOf look → AsksOf (if used then refuse refusal else if full then refuse TooMany else look)
    labelled true full refusal look e f asks = absurd (false≢true (sym e))
    labelled false true refusal look e f asks = absurd (false≢true (sym f))
    labelled false false refusal look e f asks = asks

    asks_unseen : (call : Call) → GoesAt v call → Free own host call → AsksOf (call_look own host user call)
    unfolding call_look
    asks_unseen (NewFileset server name objects owner) at free = (ChangeAt server, refl)
    asks_unseen (CloneFileset server source new) at free = (ChangeAt server, refl)
    asks_unseen (Create place) at free = rooted place.server place.fileset change_look at
    asks_unseen (MakeDir place) at free = rooted place.server place.fileset change_look at
    asks_unseen (Remove place) at free = rooted place.server place.fileset change_look at
    asks_unseen (Rename from to) at free = rooted from.server from.fileset change_look at
    asks_unseen (Truncate place len) at free = rooted place.server place.fileset change_look at
    asks_unseen (SetAcl place which list) at free = rooted place.server place.fileset change_look at
    asks_unseen (MoveFileset server name to) at free = rooted server name change_look at
    asks_unseen (Read place from len) at free =
        rooted place.server place.fileset (λ root. read_look user root place.path from len) at
    asks_unseen (Write place from bytes) at free =
        rooted place.server place.fileset (λ root. write_look user root place.path from bytes) at
    asks_unseen (ListNames place) at free =
        rooted place.server place.fileset (λ root. list_look user root place.path) at
    asks_unseen (Stat place) at free = rooted place.server place.fileset (λ root. stat_look user root place.path) at
    asks_unseen (GetAcl place which) at free =
        rooted place.server place.fileset (λ root. access_look user root place.path which) at
    asks_unseen (Sync place) at free =
        rooted place.server place.fileset (λ root. sync_look own user root place.path) at
    asks_unseen (LockCall label place writing from len) at free =
        labelled (has_lock own.locks host label) (nat_le LABELS_MAX (lock_count own.locks host)) AlreadyLocked _ free.0
        free.1
        (rooted place.server place.fileset (λ root. lock_look own host user root place.path writing from len) at)
    asks_unseen (OpenFile label place kind) at free =
        labelled (has_open own.opens host label) (nat_le LABELS_MAX (open_count own.opens host)) AlreadyOpened _ free.0
        free.1 (rooted place.server place.fileset (λ root. open_look user root place.path kind) at)
    asks_unseen (Unlock label) at free = absurd (let e : None ≡ Some v = at in cc)
    asks_unseen (CloseFile label) at free = absurd (let e : None ≡ Some v = at in cc)

  -- and a call that asks, or needs a token, has room for its label
  abbrev Goes : Look Verdict → Type 0
  Goes look = AsksOf look ⊎ ((need : Need) × In need (needs_of view look))

  labels_free : (used full : Bool) (refusal : Refusal) (look : Look Verdict)
      → Goes (if used then refuse refusal else if full then refuse TooMany else look)
      → (used ≡ false) × (full ≡ false)
  labels_free true full refusal look goes = absurd (elim goes [
    | inl k ↦ (let e : Replies (Refused refusal) ≡ Asks k.0 = k.1 in cc)
    | inr k ↦ elim k.1 [ ]
  ])
  labels_free false true refusal look goes = absurd (elim goes [
    | inl k ↦ (let e : Replies (Refused TooMany) ≡ Asks k.0 = k.1 in cc)
    | inr k ↦ elim k.1 [ ]
  ])
  labels_free false false refusal look goes = (refl, refl)

  free_of : (call : Call) → Goes (call_look own host user call) → Free own host call
  unfolding call_look
  free_of (LockCall label place writing from len) goes =
      labels_free (has_lock own.locks host label) (nat_le LABELS_MAX (lock_count own.locks host)) AlreadyLocked
      (from_root place.server (own.seen place.server place.fileset)
      (λ root. lock_look own host user root place.path writing from len)) goes
  free_of (OpenFile label place kind) goes =
      labels_free (has_open own.opens host label) (nat_le LABELS_MAX (open_count own.opens host)) AlreadyOpened
      (from_root place.server (own.seen place.server place.fileset)
      (λ root. open_look user root place.path kind)) goes
  free_of (NewFileset server name objects owner) goes = tt
  free_of (CloneFileset server source new) goes = tt
  free_of (Create place) goes = tt
  free_of (MakeDir place) goes = tt
  free_of (Remove place) goes = tt
  free_of (Rename from to) goes = tt
  free_of (Truncate place len) goes = tt
  free_of (SetAcl place which list) goes = tt
  free_of (MoveFileset server name to) goes = tt
  free_of (Read place from len) goes = tt
  free_of (Write place from bytes) goes = tt
  free_of (ListNames place) goes = tt
  free_of (Stat place) goes = tt
  free_of (GetAcl place which) goes = tt
  free_of (Sync place) goes = tt
  free_of (Unlock label) goes = tt
  free_of (CloseFile label) goes = tt

-- # Where a call goes

-- all filesets that a host has seen were made at the server that told it
abbrev pub AreHome : List Step → Type 0
AreHome A = (server : ServerId) (name : List ℕ) (id : FilesetId) → Entered A server name id → home id ≡ server

lack_in : (held : List Token) (needs : List Need) (need : Need) → IsFirstLack held needs need → In need needs
lack_in held [] need l = elim l [ ]
lack_in held (first ∷ needs) need (inl l) = inl (sym l.1)
lack_in held (first ∷ needs) need (inr l) = inr (lack_in held needs need l.1)

module _ (roster : Roster) (host : HostId) (A : List Step) (s : Step) (stance : Stance roster host A s) (call : Call)
    (v : ServerId) where
  lacks_free : (need : Need) → IsFirstLack stance.kept (needs_in stance call) need → Free stance.own host call
  lacks_free need lack =
      free_of stance.own host stance.user (sees A s) call
      (inr (need, lack_in stance.kept (needs_in stance call) need lack))

  goes_free : GoesTo roster host A s stance call v → Free stance.own host call
  goes_free (inl (need, lack, at)) = lacks_free need lack
  goes_free (inr (question, fid, inl asks, at)) =
      free_of stance.own host stance.user (sees A s) call (inl (question, asks.0))
  goes_free (inr (question, fid, inr lacks, at)) = lacks_free lacks.0 lacks.1

  module _ (homes : AreHome (s ∷ A)) where
    seen_home : (server : ServerId) (name : List ℕ) (id : FilesetId) → stance.own.seen server name ≡ Some id
        → home id ≡ server
    seen_home server name id seen = homes server name id ((stance.knows.seen server name id).0 seen)

    named_at : (server : ServerId) (name : List ℕ) (id : FilesetId) → fileset_of call ≡ Some (server, name)
        → stance.own.seen server name ≡ Some id → home id ≡ v → GoesAt v call
    named_at server name id of seen at =
        subst (λ (w : ServerId). GoesAt w call) (sym (seen_home server name id seen) ∙ at) (by_name call server name of)

    lacks_at : (need : Need) → IsFirstLack stance.kept (needs_in stance call) need → home need.fid.fileset ≡ v
        → GoesAt v call
    lacks_at need lack at =
        let k = seen_need (sees A s) stance.own host stance.user need call
        (lack_in stance.kept (needs_in stance call) need lack) in
        named_at k.server k.name k.id k.of k.seen (ap home (sym k.fileset) ∙ at)

    asks_at : (q question : Question) → question ≡ q → verdict_in stance call ≡ Asks question
        → (stay_asked (s ∷ A) question).server ≡ v → GoesAt v call
    asks_at q question same asks at = by q same
      where
        about : (p : Question) → question ≡ p → IsAbout stance.own call p
        about p e =
            questions_are_about_filesets stance.own host stance.user call (sees A s) p (asks ∙ ap Asks e)

        at_this : (p : Question) → question ≡ p → (stay_asked (s ∷ A) p).server ≡ v
        at_this p e = ap (λ (x : Question). (stay_asked (s ∷ A) x).server) (sym e) ∙ at

        by : (p : Question) → question ≡ p → GoesAt v call
        by (EnterAt server) e =
            let k = about (EnterAt server) e in
            subst (λ (w : ServerId). GoesAt w call) (at_this (EnterAt server) e) (by_name call server k.0 k.1)
        by (ChangeIn id) e =
            let k = about (ChangeIn id) e in named_at k.0 k.1 id k.2 k.3 (at_this (ChangeIn id) e)
        by (ChangeAt server) e =
            let k = about (ChangeAt server) e in
            subst (λ (w : ServerId). GoesAt w call) (at_this (ChangeAt server) e) (by_founding call server k.0
            (founds stance.own host stance.user (sees A s) call server (asks ∙ ap Asks e) k.0 k.1))

    -- it goes to its server
    goes_at : GoesTo roster host A s stance call v → GoesAt v call
    goes_at (inl (need, lack, at)) = lacks_at need lack at
    goes_at (inr (question, fid, inl asks, at)) = asks_at question question refl asks.0 at
    goes_at (inr (question, fid, inr lacks, at)) =
        lacks_at lacks.0 lacks.1 (ap (λ (x : Question). (stay_asked (s ∷ A) x).server) (sym lacks.4) ∙ at)

-- # Labels, while a call is open

-- of lists without repeats, in which all is a host's, the smaller has room where the greater has
module _ {U : Type 0} (hold : U → Hold) (host : HostId) (label : List ℕ) (xs ys : List U)
    (back : (y : U) → In y ys → In y xs) where
  any_in : (p : U → Bool) (zs : List U) → list_any p zs ≡ true → (z : U) × In z zs × (p z ≡ true)
  any_in p [] e = absurd (false≢true e)
  any_in p (z ∷ zs) e = go (p z) refl (any_in p zs)
    where
      go : (b : Bool) → p z ≡ b → (list_any p zs ≡ true → (y : U) × In y zs × (p y ≡ true))
          → (y : U) × In y (z ∷ zs) × (p y ≡ true)
      go true q rest = (z, inl refl, q)
      go false q rest =
          let k = rest (sym (ap (λ (b : Bool). b || list_any p zs) q) ∙ e) in (k.0, inr k.1, k.2)

  in_any : (p : U → Bool) (zs : List U) (z : U) → In z zs → p z ≡ true → list_any p zs ≡ true
  in_any p [] z i e = elim i [ ]
  in_any p (y ∷ zs) z (inl q) e = ap (λ (b : Bool). b || list_any p zs) (subst (λ (x : U). p x ≡ true) q e)
  in_any p (y ∷ zs) z (inr i) e = go (p y) refl (in_any p zs z i e)
    where
      go : (b : Bool) → p y ≡ b → list_any p zs ≡ true → (p y || list_any p zs) ≡ true
      go true q rest = ap (λ (b : Bool). b || list_any p zs) q
      go false q rest = ap (λ (b : Bool). b || list_any p zs) q ∙ rest

  label_less : has_label hold xs host label ≡ false → has_label hold ys host label ≡ false
  label_less none = go (has_label hold ys host label) refl
    where
      go : (b : Bool) → has_label hold ys host label ≡ b → b ≡ false
      go true e =
          let k = any_in (is_under hold host label) ys e in
          absurd (false≢true (sym none ∙ in_any (is_under hold host label) xs k.0 (back k.0 k.1) k.2))
      go false e = refl

  all_count : (q : U → Bool) (zs : List U) → ((z : U) → In z zs → q z ≡ true) → count_by q zs ≡ length zs
  all_count q [] all = refl
  all_count q (z ∷ zs) all =
      let first = ap (λ (b : Bool). (let n : ℕ = cond b 1 0 in n)) (all z (inl refl)) in
      let rest = all_count q zs (λ y i. all y (inr i)) in
      let sum = sum_by-cons (λ (x : U). cond (q x) 1 0) z zs in
      omega (arith, first, rest, sum)

  count_less : EachOnce ys → ((x : U) → In x xs → (hold x).host ≡ host)
      → nat_le LABELS_MAX (label_count hold xs host) ≡ false → nat_le LABELS_MAX (label_count hold ys host) ≡ false
  count_less once mine none =
      let less = leb-false LABELS_MAX (label_count hold xs host) none in
      let most = count_by-le-length (λ (one : U). (hold one).host.0 == host.0) ys in
      let fewer = no_more ys xs once back in
      let whole = all_count (λ (one : U). (hold one).host.0 == host.0) xs
      (λ x i. eq-eqb (hold x).host.0 host.0 (ap (λ (h : HostId). h.0) (mine x i))) in
      lt-leb LABELS_MAX (label_count hold ys host) (omega (arith, less, most, fewer, whole))

module _ (script : Script) (host : HostId) where
  -- no label comes while a call is open
  module _ (A : List Step) (s t : Step) (run : HostRun script host (s ∷ A)) (call : Asked) (o : IsOpen (s ∷ A) call)
    where
      begun_none : (u : Labelled) → In u s.begun → ⊥
      begun_none u i =
          let b = run.1.answers.begins u i in
          let a = run.1.answers.answers b.0 b.1 in
          elim o [
            | inl asked ↦ run.1.answers.asked b.0 call b.1 asked
            | inr old ↦ elim a.1 [
              | inl begins ↦ begins_free script host A s run.1 b.0.k b.0.call begins call old.0
              | inr on ↦ old.2 b.0 b.1
                  (ap (λ (c : Asked). c.k)
                  (one_open script host A run.0 (record { k = b.0.k; call = b.0.call }) call on.0 old.0))
            ]
          ]

      had : (u : Labelled) → HasLabel (s ∷ A) t u → HasLabel A s u
      had u (inl (inl begun)) = absurd (begun_none u begun)
      had u (inl (inr used)) = inl used.0
      had u (inr (give, inl ended, unknown)) = inl ended.1
      had u (inr (give, inr ended, unknown)) = inr (give, ended, λ known. unknown (inr known))

      module _ (own new : Own) (knows : KnowsItself host A s own) (knows_new : KnowsItself host (s ∷ A) t new) where
        locks_back : (lock : LockUse) → In lock new.locks → In lock own.locks
        locks_back lock i =
            let k = (knows_new.locks lock).0 i in (knows.locks lock).1 (k.0, had k.0 k.1, k.2)

        opens_back : (opened : OpenUse) → In opened new.opens → In opened own.opens
        opens_back opened i =
            let k = (knows_new.opens opened).0 i in (knows.opens opened).1 (k.0, had k.0 k.1, k.2)

        free_on : (c : Call) → Free own host c → Free new host c
        free_on (LockCall label place writing from len) free = (
          label_less lock_hold host label own.locks new.locks locks_back free.0,
          count_less lock_hold host label own.locks new.locks locks_back knows_new.locks_once
              (λ lock i. (let k = (knows.locks lock).0 i in k.2.0)) free.1,
        )
        free_on (OpenFile label place kind) free = (
          label_less open_hold host label own.opens new.opens opens_back free.0,
          count_less open_hold host label own.opens new.opens opens_back knows_new.opens_once
              (λ opened i. (let k = (knows.opens opened).0 i in k.2.0)) free.1,
        )
        free_on (NewFileset server name objects owner) free = tt
        free_on (CloneFileset server source copy) free = tt
        free_on (Create place) free = tt
        free_on (MakeDir place) free = tt
        free_on (Remove place) free = tt
        free_on (Rename from to) free = tt
        free_on (Truncate place len) free = tt
        free_on (SetAcl place which list) free = tt
        free_on (MoveFileset server name to) free = tt
        free_on (Read place from len) free = tt
        free_on (Write place from bytes) free = tt
        free_on (ListNames place) free = tt
        free_on (Stat place) free = tt
        free_on (GetAcl place which) free = tt
        free_on (Sync place) free = tt
        free_on (Unlock label) free = tt
        free_on (CloseFile label) free = tt

  -- # A Change that is outstanding is of the open call, and went to its server, which has welcomed the host

  change_welcome : (A : List Step) → HostRun script host A → (v : ServerId) (e n : ℕ) (c : ChangeOf)
      → Said A v e n (Change c) → IsWelcome A v
  change_welcome [] run v e n c said = elim said [ ]
  change_welcome (s ∷ A) run v e n c (inl sends) = run.1.asks.changes_welcome v e n c sends
  change_welcome (s ∷ A) run v e n c (inr said) = inr (change_welcome A run.0 v e n c said)

  entered_welcome : (A : List Step) → HostRun script host A → (v : ServerId) (name : List ℕ) (id : FilesetId)
      → Entered A v name id → IsWelcome A v
  entered_welcome [] run v name id x = elim x [ ]
  entered_welcome (s ∷ A) run v name id (inl now) =
      inr (change_welcome A run.0 v now.2 now.3 now.0 now.4)
  entered_welcome (s ∷ A) run v name id (inr old) = inr (entered_welcome A run.0 v name id old)

  one_changing : (A : List Step) → HostRun script host A → (v w : ServerId) (fs gs : FilesetId) (n k : ℕ)
      → Changing A v fs n → Changing A w gs k → (fs ≡ gs) × (n ≡ k)
  one_changing [] run v w fs gs n k a b = elim a [ ]
  one_changing (s ∷ A) run v w fs gs n k a b = run.1.asks.one_change v w fs gs n k a b

  pub record OfOpenCall (A : List Step) (w : ServerId) (fs : FilesetId) : Type 0 where
    pub call : Asked
    pub is_open : IsOpen A call
    pub server : ServerId
    pub at : GoesAt server call.call
    pub welcome : IsWelcome A server
    pub same : fs.0 ≡ 0 → w ≡ server

  -- what a give-back ends isn't a call that goes to a server
  given_none : (A : List Step) (s : Step) → HostRun script host A → (call : Asked) → IsOpen A call → (v : ServerId)
      → GoesAt v call.call → LearnsEnd A s call → ⊥
  given_none A s run call o v at (give, ends, made, is, k, learns, unknown) =
      let g = given_call script host A run give ends made is in
      let same = g.1 call o (sym k) in
      ends_nowhere v g.2.0 (subst (GoesAt v) (ap (λ (c : Asked). c.call) same ∙ g.2.1) at)

  module _ (A : List Step) (s : Step) (run : HostRun script host (s ∷ A)) (homes : AreHome (s ∷ A))
      (old : (w : ServerId) (fs : FilesetId) (n : ℕ) → Changing A w fs n → OfOpenCall A w fs) (w : ServerId)
      (fs : FilesetId) (n : ℕ) (x : Changing (s ∷ A) w fs n) where
    -- one that was outstanding before
    module _ (before : Changing A w fs n) where
      abbrev k : OfOpenCall A w fs
      k = old w fs n before

      this_done : (server : ServerId) (done : DoneOf) → Changing A server done.fileset done.bring.number
          → DoneComes A s server done → done.fileset ≡ fs → DoneComes A s w done
      this_done server done changing (inr about) fileset = inr about
      this_done server done changing (inl (zero, comes)) fileset =
          let other = old server done.fileset done.bring.number changing in
          let call = one_open script host A run.0 other.call k.call other.is_open k.is_open in
          let server_is = one_server k.call.call other.server k.server
          (subst (λ (c : Asked). GoesAt other.server c.call) call other.at) k.at in
          let to : server ≡ w =
          other.same zero ∙ server_is ∙ sym (k.same (ap (λ (f : FilesetId). f.0) (sym fileset) ∙ zero)) in
          subst (λ (u : ServerId). DoneComes A s u done) to (inl (zero, comes))

      goes_on : CauseEnds A s k.call → ⊥
      goes_on (inr learns) = given_none A s run.0 k.call k.is_open k.server k.at learns
      goes_on (inl (server, done, reply, (comes, changing), outcome)) =
          let one = one_changing A run.0 server w done.fileset fs done.bring.number n changing before in
          x.1 done (this_done server done changing comes one.0) one.0 one.1

      kept : OfOpenCall (s ∷ A) w fs
      kept = record {
        call = k.call;
        is_open = inr (k.is_open, goes_on, λ a i same. run.1.answers.answers_settled a w fs n i x);
        server = k.server;
        at = k.at;
        welcome = inr k.welcome;
        same = k.same;
      }

    -- one that the step sends
    asked_now : (to : ServerId) (e m : ℕ) (c : ChangeOf) → Sends s to e m (Change c) → (fs.0 ≡ 0 → to ≡ w)
        → IsNewChange script.roster host A s run.1.stance to m c → OfOpenCall (s ∷ A) w fs
    asked_now to e m c sends zero new = record {
      call = record { k = c.k; call = c.call };
      is_open = new.is_open;
      server = to;
      at = goes_at script.roster host A s run.1.stance c.call to homes
          (inr (new.question, c.fid, new.asks, ap (λ (y : Stay). y.server) new.goes));
      welcome = run.1.asks.changes_welcome to e m c sends;
      same = λ z. sym (zero z);
    }

    of_call : OfOpenCall (s ∷ A) w fs
    of_call = elim x.0 [
      | inr before ↦ kept before
      | inl (c, (to, e, m, sends, zero), fileset, number) ↦ (
          let zero_is : fs.0 ≡ 0 → to ≡ w = λ z. zero (ap (λ (f : FilesetId). f.0) fileset ∙ z) in
          elim (run.1.asks.changes to e m c sends) [
            | inl again ↦ kept (moved A to w fs n zero_is
                (subst (λ (y : FilesetId × ℕ). Changing A to y.0 y.1) (λ i. (fileset i, number i)) again.1))
            | inr new ↦ asked_now to e m c sends zero_is new
          ]
          )
    ]

  pub changes_of_calls : (A : List Step) → HostRun script host A → AreHome A → (w : ServerId) (fs : FilesetId) (n : ℕ)
      → Changing A w fs n → OfOpenCall A w fs
  changes_of_calls [] run homes w fs n x = elim x [ ]
  changes_of_calls (s ∷ A) run homes w fs n x =
      of_call A s run homes
      (changes_of_calls A run.0 (λ server name id e. homes server name id (inr e))) w fs n x

  -- # A host that greeted a server is welcome there, or has an open call that goes there

  pub record Greets (v : ServerId) (A : List Step) (s : Step) : Type 0 where
    pub unwelcome : IsWelcome (s ∷ A) v → ⊥
    pub call : Asked
    pub is_open : IsOpen (s ∷ A) call
    pub at : GoesAt v call.call
    pub own : Own
    pub knows : KnowsItself host A s own
    pub free : Free own host call.call

  abbrev pub GreetsAt : ServerId → List Step → Type 0
  GreetsAt v [] = ⊥
  GreetsAt v (s ∷ A) = Greets v A s

  is_reclaimed : Body → Bool
  is_reclaimed (Reclaimed answer) = true
  is_reclaimed _ = false

  reclaimed_of : (b : Body) → is_reclaimed b ≡ true → (answer : ReclaimedOf) × (b ≡ Reclaimed answer)
  unfolding is_reclaimed
  reclaimed_of (Reclaimed answer) e = (answer, refl)
  reclaimed_of b e = absurd (false≢true e)

  reclaimed_is : (answer : ReclaimedOf) → is_reclaimed (Reclaimed answer) ≡ true
  unfolding is_reclaimed
  reclaimed_is answer = refl

  abbrev Welcomes : ServerId → List Step → Step → Type 0
  Welcomes v A s = (answer : ReclaimedOf) × ComesIn s v (epoch_at (s ∷ A) v) 0 (Reclaimed answer)

  abbrev is_welcome_of : ServerId → ℕ → Message → Bool
  is_welcome_of v e m = is_reclaimed m.body && ((m.server.0 == v.0) && ((m.epoch == e) && (m.moves == 0)))

  welcomes : (v : ServerId) (A : List Step) (s : Step) → Welcomes v A s ⊎ (Welcomes v A s → ⊥)
  welcomes v A s = by s.cause refl
    where
      passed : (m : Message) → s.cause ≡ Came m → is_welcome_of v (epoch_at (s ∷ A) v) m ≡ true → Welcomes v A s
      passed m is e =
          let a = and_parts (is_reclaimed m.body)
          ((m.server.0 == v.0) && ((m.epoch == epoch_at (s ∷ A) v) && (m.moves == 0))) e in
          let b = and_parts (m.server.0 == v.0) ((m.epoch == epoch_at (s ∷ A) v) && (m.moves == 0)) a.1 in
          let c = and_parts (m.epoch == epoch_at (s ∷ A) v) (m.moves == 0) b.1 in
          let r = reclaimed_of m.body a.0 in
          let server : m.server.0 ≡ v.0 = eqb-true m.server.0 v.0 b.0 in (
            r.0,
            (
              m,
              is,
              λ i. record { 0 = server i },
              eqb-true m.epoch (epoch_at (s ∷ A) v) c.0,
              eqb-true m.moves 0 c.1,
              r.1,
            ),
          )

      failed : (m : Message) → s.cause ≡ Came m → is_welcome_of v (epoch_at (s ∷ A) v) m ≡ false → Welcomes v A s → ⊥
      failed m is e (answer, (x, cause, server, ep, moves, body)) =
          let z : Came x ≡ Came m = sym cause ∙ is in
          let one : x ≡ m = cc in
          false≢true (sym e ∙ subst (λ (y : Message). is_welcome_of v (epoch_at (s ∷ A) v) y ≡ true) one
          (and_from (is_reclaimed x.body) ((x.server.0 == v.0) && ((x.epoch == epoch_at (s ∷ A) v) && (x.moves == 0)))
          (ap is_reclaimed body ∙ reclaimed_is answer)
          (and_from (x.server.0 == v.0) ((x.epoch == epoch_at (s ∷ A) v) && (x.moves == 0))
          (eq-eqb x.server.0 v.0 (ap (λ (u : ServerId). u.0) server))
          (and_from (x.epoch == epoch_at (s ∷ A) v) (x.moves == 0) (eq-eqb x.epoch (epoch_at (s ∷ A) v) ep)
          (eq-eqb x.moves 0 moves)))))

      none : (c : Cause) → s.cause ≡ c → ((m : Message) → c ≡ Came m → ⊥) → Welcomes v A s → ⊥
      none c is other k = other k.1.0 (sym is ∙ k.1.1)

      by : (c : Cause) → s.cause ≡ c → Welcomes v A s ⊎ (Welcomes v A s → ⊥)
      by (Came m) is = go (is_welcome_of v (epoch_at (s ∷ A) v) m) refl
        where
          go : (b : Bool) → is_welcome_of v (epoch_at (s ∷ A) v) m ≡ b → Welcomes v A s ⊎ (Welcomes v A s → ⊥)
          go true e = inl (passed m is e)
          go false e = inr (failed m is e)
      by (LineOf n) is = inr (none (LineOf n) is (λ m q. cc))
      by (Restart n) is = inr (none (Restart n) is (λ m q. cc))
      by Lapse is = inr (none Lapse is (λ m q. cc))
      by Evict is = inr (none Evict is (λ m q. cc))
      by (Freight freight) is = inr (none (Freight freight) is (λ m q. cc))
      by End is = inr (none End is (λ m q. cc))
      by Flushed is = inr (none Flushed is (λ m q. cc))

  module _ (v : ServerId) (A : List Step) (r s : Step) (run : HostRun script host (s ∷ (r ∷ A)))
      (homes : AreHome (s ∷ (r ∷ A))) (g : Greets v A r) (unwelcome : IsWelcome (s ∷ (r ∷ A)) v → ⊥) where
    unseen_name : (name : List ℕ) → run.1.stance.own.seen v name ≡ None
    unseen_name name = go (run.1.stance.own.seen v name) refl
      where
        go : (o : Option FilesetId) → run.1.stance.own.seen v name ≡ o → o ≡ None
        go None e = refl
        go (Some id) e =
            absurd (unwelcome (entered_welcome (s ∷ (r ∷ A)) run v name id
            ((run.1.stance.knows.seen v name id).0 e)))

    free_still : Free run.1.stance.own host g.call.call
    free_still =
        free_on A r s run.0 g.call g.is_open g.own run.1.stance.own g.knows run.1.stance.knows g.call.call g.free

    unanswered : (a : _) → In a s.answers → a.k ≡ g.call.k → ⊥
    unanswered a i same =
        let x = run.1.answers.answers a i in
        elim x.1 [
          | inl begins ↦ begins_free script host (r ∷ A) s run.1 a.k a.call begins g.call g.is_open
          | inr on ↦ settles (ap (λ (c : Asked). c.call)
              (one_open script host (r ∷ A) run.0 (record { k = a.k; call = a.call }) g.call on.0 g.is_open))
              x.2.settled
        ]
      where
        settles : a.call ≡ g.call.call → reply_now (verdict_in run.1.stance a.call) ≡ Some a.reply → ⊥
        settles is settled =
            let q = asks_unseen run.1.stance.own host run.1.stance.user (sees (r ∷ A) s) v unseen_name g.call.call g.at
            free_still in
            let e : None ≡ Some a.reply =
            sym (ap reply_now (ap (λ (c : Call). verdict_in run.1.stance c) is ∙ q.1)) ∙ settled in
            cc

    goes_still : CauseEnds (r ∷ A) s g.call → ⊥
    goes_still (inr learns) = given_none (r ∷ A) s run.0 g.call g.is_open v g.at learns
    goes_still (inl (server, done, reply, (comes, changing), outcome)) =
        let k = changes_of_calls (r ∷ A) run.0 (λ w name id e. homes w name id (inr e)) server done.fileset
        done.bring.number changing in
        let same = one_open script host (r ∷ A) run.0 k.call g.call k.is_open g.is_open in
        let at = one_server g.call.call k.server v (subst (λ (c : Asked). GoesAt k.server c.call) same k.at) g.at in
        unwelcome (inr (subst (IsWelcome (r ∷ A)) at k.welcome))

    greets_on : Greets v (r ∷ A) s
    greets_on = record {
      unwelcome = unwelcome;
      call = g.call;
      is_open = inr (g.is_open, goes_still, unanswered);
      at = g.at;
      own = run.1.stance.own;
      knows = run.1.stance.knows;
      free = free_still;
    }

  greets_later : (v : ServerId) (A : List Step) (s : Step) → HostRun script host (s ∷ A) → AreHome (s ∷ A)
      → HasGreeted A v → GreetsAt v A → IsWelcome (s ∷ A) v ⊎ Greets v A s
  greets_later v [] s run homes greeted g = elim g [ ]
  greets_later v (r ∷ A) s run homes greeted g = elim (welcomes v (r ∷ A) s) [
    | inl now ↦ inl (inl (greeted, now))
    | inr not_now ↦ inr (greets_on v A r s run homes g
        (λ w. elim w [ inl now ↦ not_now now.1 | inr old ↦ g.unwelcome old ]))
  ]

  pub welcome_or_open : (v : ServerId) (A : List Step) → HostRun script host A → Always (HostDue script host) A
      → AreHome A → HasGreeted A v → IsWelcome A v ⊎ GreetsAt v A
  welcome_or_open v [] run due homes x = elim x.2 [ ]
  welcome_or_open v (s ∷ A) run due homes (e, n, inr said) =
      elim (welcome_or_open v A run.0 due.0 (λ server name id k. homes server name id (inr k)) (e, n, said)) [
        | inl welcome ↦ inl (inr welcome)
        | inr g ↦ greets_later v A s run homes (e, n, said) g
      ]
  welcome_or_open v (s ∷ A) run due homes (e, n, inl sends) =
      let k = due.1.calls.greets v e n sends in
      elim k.1 [
        | inl again ↦ elim
            (welcome_or_open v A run.0 due.0 (λ server name id q. homes server name id (inr q)) again.1) [
              | inl welcome ↦ inl (inr welcome)
              | inr g ↦ greets_later v A s run homes again.1 g
            ]
        | inr (never, (call, is_open, goes)) ↦ inr (record {
          unwelcome = k.0;
          call = call;
          is_open = is_open;
          at = goes_at script.roster host A s due.1.stance call.call v homes goes;
          own = due.1.stance.own;
          knows = due.1.stance.knows;
          free = goes_free script.roster host A s due.1.stance call.call v goes;
        })
      ]

  -- so it says Bye where it is welcome
  bye_by : (v : ServerId) (A : List Step) (s : Step) → HostRun script host (s ∷ A) → Always (HostDue script host) A
      → AreHome A → (HasSaid A v Bye → IsWelcome A v) → Says s v Bye → IsWelcome A v
  bye_by v A s run due homes before says =
      let k = run.1.ends.bye v says in
      elim k.2 [
        | inr said ↦ before said
        | inl end ↦ elim (welcome_or_open v A run.0 due homes k.0) [
          | inl welcome ↦ welcome
          | inr g ↦ absurd (shut A g (run.1.ends.after end).1)
        ]
      ]
    where
      shut : (B : List Step) → GreetsAt v B → NoneOpen B → ⊥
      shut [] g none = g
      shut (r ∷ B) g none = none g.call g.is_open

  said_welcome : (v : ServerId) (A : List Step) → HostRun script host A → Always (HostDue script host) A → AreHome A
      → HasSaid A v Bye → IsWelcome A v
  said_welcome v [] run due homes x = elim x.2 [ ]
  said_welcome v (s ∷ A) run due homes (e, n, o) =
      let back : AreHome A = λ server name id k. homes server name id (inr k) in
      inr (elim o [
        | inl sends ↦ bye_by v A s run due.0 back (said_welcome v A run.0 due.0 back) (e, n, sends)
        | inr said ↦ said_welcome v A run.0 due.0 back (e, n, said)
      ])

-- # In a run
module _ (script : Script) (start : Tree) (firsts : ServerId → ℕ) where
  due_step : (k : Node) (past : List Step) (s : Step) (h : HostId) → Always (HostDue script h) (steps_of_host h past)
      → StepDue script start firsts k past s → Always (HostDue script h) (own_after h k s (steps_of_host h past))
  due_step (Host k) past s h dues d =
      if_host (Always (HostDue script h)) k h (s ∷ steps_of_host h past) (steps_of_host h past)
      (λ e. (dues, subst (λ (j : HostId). HostDue script j (steps_of_host j past) s) e d)) dues
  due_step (Server k) past s h dues d = dues

  own_dues : (past : List Step) → Always (λ before s. StepDue script start firsts s.node before s) past → (h : HostId)
      → Always (HostDue script h) (steps_of_host h past)
  own_dues [] due h = tt
  own_dues (s ∷ past) due h = due_step s.node past s h (own_dues past due.0 h) due.1

  module _ (run : List Step) (meets : StepsMeet script start firsts run)
      (due : Always (λ before s. StepDue script start firsts s.node before s) run) (host : HostId) (v : ServerId) where
    -- when a host says Bye to a server it is welcome there
    pub byes_welcome : (l p : List Step) (s : Step) → appended (s ∷ l) p ≡ run → s.node ≡ Host host → Says s v Bye
        → IsWelcome (steps_of_host host p) v
    byes_welcome l p s whole node says =
        bye_by script host v (steps_of_host host p) s
        (subst (HostRun script host) (host_steps host s p node) (own_run script start firsts (s ∷ p) met host))
        (own_dues p dues.0 host) homes (said_welcome script host v (steps_of_host host p)
        (own_run script start firsts p met.0 host) (own_dues p dues.0 host) homes) says
      where
        met : StepsMeet script start firsts (s ∷ p)
        met = steps_back script start firsts l (s ∷ p) whole meets

        dues : Always (λ before t. StepDue script start firsts t.node before t) (s ∷ p)
        dues =
            always_back (λ before t. StepDue script start firsts t.node before t) l (s ∷ p)
            (subst (Always (λ before t. StepDue script start firsts t.node before t)) (sym whole) due)

        homes : AreHome (steps_of_host host p)
        homes = (all_well script start firsts p met.0 host).entered

    -- so it is welcome at each server that it has said Bye to
    pub welcome_of_bye : HasSaid (steps_of_host host run) v Bye → IsWelcome (steps_of_host host run) v
    welcome_of_bye =
        said_welcome script host v (steps_of_host host run) (own_run script start firsts run meets host)
        (own_dues run due host) (all_well script start firsts run meets host).entered
