-- What a host asks a server about a lock or an open: its label is free, the host may have one more, and no lock of its
-- own
-- is in the way on the file that it found. About the end of a use it asks nothing.
use Rattle.std.proofs.Common.{Bool, Err, List, None, Ok, Option, Result, Some, ap, false, inl, inr, nat_le, not, refl}
use Rattle.std.proofs.Common.{subst, sym, true, ℕ, ◌&&◌, ◌+◌, ◌++◌, ◌∙◌, ◌∷◌, ◌≡◌, ◌⊎◌}
use Rattle.std.proofs.lemmas.Bool.{false≢true}
use Rattle.std.specs.Prelude.{[], if◌then◌else◌, nat_lt}
use Rattle.base_types.specs.Access.{allows}
use Rattle.base_types.specs.Outcomes.{either, and_then}
use Rattle.base_types.specs.declared.ids.Fid.{Fid}
use Rattle.base_types.specs.declared.ids.FilesetId.{FilesetId}
use Rattle.base_types.specs.declared.ids.HostId.{HostId}
use Rattle.base_types.specs.declared.ids.OpenKind.{OpenKind}
use Rattle.base_types.specs.declared.ids.ServerId.{ServerId}
use Rattle.base_types.specs.declared.limits.TheConstants.{FILE_BYTES_MAX, LABELS_MAX}
use Rattle.base_types.specs.declared.span.Span.{Span}
use Rattle.base_types.specs.declared.user.User.{User}
use Rattle.tree_calls.specs.declared.call.Call.{Call}
use Rattle.tree_calls.specs.declared.call.Call.TheVariants.{CloseFile, Lock, OpenFile, Unlock}
use Rattle.tree_calls.specs.declared.place.Place.{Place}
use Rattle.tree_calls.specs.declared.reply.Refusal.{Refusal}
use Rattle.tree_calls.specs.declared.reply.Refusal.TheVariants.{AlreadyLocked, AlreadyOpened, Denied, IsDir, NotDir}
use Rattle.tree_calls.specs.declared.reply.Refusal.TheVariants.{NotLocked, NotOpened, ReadOnly, TooBig, TooMany}
use Rattle.tree_calls.specs.declared.reply.Reply.{Reply}
use Rattle.tree_calls.specs.declared.reply.Reply.TheVariants.{Ok as Fine, Refused}
use Rattle.tree_filesets.specs.Rights.{execute_right, read_right, write_right}
use Rattle.tree_filesets.specs.Walk.{entry_or_none}
use Rattle.need_host.proofs.Rows.{outcome_judged}
use Rattle.need_host.proofs.Updates.{needs_on}
use Rattle.need_host.specs.Calls.{Own, Verdict, call_look, from_root, in_place, judged, lock_for, lock_look}
use Rattle.need_host.specs.Calls.{open_look, refuse, reply_now}
use Rattle.need_host.specs.Calls.Verdict.{Asks, Frees, Gives, Locks, Replies}
use Rattle.need_host.specs.Looks.{IsFirstLack, Look, View, after_check, checked, kind_for, look_on, needs_of, outcome}
use Rattle.need_host.specs.Looks.{refuse_if}
use Rattle.need_host.specs.Looks.Look.{Ends, Looks, Takes}
use Rattle.need_host.specs.Questions.{Question}
use Rattle.need_host.specs.Questions.Question.{EnterAt}
use Rattle.need_host.specs.Walks.{fid_in, file_look, nature_look, permitted, rights_on, root_of, search_look}
use Rattle.need_host.specs.Walks.{step_look, target_look, use_look, walk_look}
use Rattle.tree_objects.specs.Entries.{entry_named}
use Rattle.tree_objects.specs.Spans.{span_between}
use Rattle.tree_answers.specs.Locks.{has_lock, is_own_locked, lock_count}
use Rattle.tree_answers.specs.Opens.{has_open, open_count}
use Rattle.token_types.specs.declared.token.Kind.TheVariants.{Lock as LockKind}
use Rattle.token_types.specs.declared.token.Need.{Need}
use Rattle.token_types.specs.declared.token.Token.{Token}
use Rattle.tree_laws.specs.Parts.{Nature, Part}
use Rattle.tree_laws.specs.Parts.Part.{ByteAt, Entries, Size, Traits}
use Rattle.run_contents.proofs.WriteLooks.{file_checks, search_ends, target_ends}
use Rattle.run_rules.specs.Past.{In}
use Rattle.run_rules.specs.Tokens.{IsUseKind}

-- none of these needs is a lock or an open token
abbrev NoUse : List Need → Type 0
NoUse needs = (n : Need) → In n needs → IsUseKind n.kind → ⊥

none_here : NoUse []
none_here n i k = elim i [ ]

two_none : (xs ys : List Need) → NoUse xs → NoUse ys → NoUse (xs ++ ys)
two_none [] ys a b n i k = b n i k
two_none (x ∷ xs) ys a b n (inl e) k = a n (inl e) k
two_none (x ∷ xs) ys a b n (inr i) k = two_none xs ys (λ n i. a n (inr i)) b n i k

no_part : (part : Part) → IsUseKind (kind_for part) → ⊥
no_part (ByteAt at) k = k
no_part Size k = k
no_part Traits k = k
no_part Entries k = k

one_none : (fid : Fid) (part : Part) → NoUse (record { fid = fid; kind = kind_for part } ∷ [])
one_none fid part n (inl e) k = no_part part (subst IsUseKind (ap (λ (z : Need). z.kind) e) k)
one_none fid part n (inr i) k = elim i [ ]

first_in : (held : List Token) (needs : List Need) (need : Need) → IsFirstLack held needs need → In need needs
first_in held [] need l = elim l [ ]
first_in held (x ∷ needs) need (inl l) = inl (sym l.1)
first_in held (x ∷ needs) need (inr l) = inr (first_in held needs need l.1)

-- an element of two lists
pub of_both : {X : Type 0} (x : X) (xs ys : List X) → In x (xs ++ ys) → In x xs ⊎ In x ys
of_both x [] ys i = inr i
of_both x (y ∷ xs) ys (inl e) = inl (inl e)
of_both x (y ∷ xs) ys (inr i) = elim (of_both x xs ys i) [ inl j ↦ inl (inr j) | inr j ↦ inr j ]

module _ (view : View) where
  abbrev Plain : {A : Type 0} → Look A → Type 0
  Plain look = NoUse (needs_of view look)

  on_none : {A B : Type 0} (look : Look A) (next : A → Look B) → Plain look → ((x : A) → Plain (next x))
      → Plain (look_on look next)
  on_none look next a b =
      subst NoUse (sym (needs_on view look next))
      (two_none (needs_of view look) (needs_of view (next (outcome view look))) a (b (outcome view look)))

  checked_none : {A B : Type 0} (look : Look (Result A Refusal)) (next : A → Look (Result B Refusal)) → Plain look
      → ((x : A) → Plain (next x)) → Plain (checked look next)
  checked_none {A} look next a b = on_none look (after_check next) a each
    where
      each : (r : Result A Refusal) → Plain (after_check next r)
      each (Ok x) = b x
      each (Err refusal) = none_here

  refuse_none : {A : Type 0} (b : Bool) (refusal : Refusal) (next : Look (Result A Refusal)) → Plain next
      → Plain (refuse_if b refusal next)
  refuse_none true refusal next a = none_here
  refuse_none false refusal next a = a

  search_none : (user : User) (fid : Fid) (nature : Nature) → Plain (search_look user fid nature)
  search_none user fid nature =
      refuse_none (not nature.dir) NotDir (permitted nature user execute_right (
      Looks fid Entries (λ entries. Ends (Ok entries))))
      (refuse_none (not (allows (rights_on nature user) execute_right)) (Denied execute_right)
      (Looks fid Entries (λ entries. Ends (Ok entries))) (one_none fid Entries))

  step_none : (user : User) (fid : Fid) (name : List ℕ) → Plain (step_look user fid name)
  step_none user fid name =
      checked_none (nature_look fid) (search_ends user fid name) (one_none fid Traits)
      (λ nature. checked_none (search_look user fid nature)
      (λ entries. Ends (and_then (entry_or_none (entry_named entries name)) (λ entry. Ok (fid_in fid entry))))
      (search_none user fid nature) (λ entries. none_here))

  walk_none : (user : User) (names : List (List ℕ)) (fid : Fid) → Plain (walk_look user fid names)
  walk_none user [] fid = none_here
  walk_none user (name ∷ names) fid =
      checked_none (step_look user fid name) (λ next. walk_look user next names) (step_none user fid name)
      (λ next. walk_none user names next)

  file_none : (user : User) (root : Fid) (path : List (List ℕ)) → Plain (file_look user root path)
  file_none user root path =
      checked_none (target_look user root path) file_checks
      (checked_none (walk_look user root path) target_ends (walk_none user path root)
      (λ fid. checked_none (nature_look fid) (λ nature. Ends (Ok (fid, nature))) (one_none fid Traits)
      (λ nature. none_here)))
      (λ found. ended found)
    where
      ended : (found : Fid × Nature) → Plain (file_checks found)
      ended (fid, nature) = refuse_none nature.dir IsDir (Ends (Ok (fid, nature))) none_here

  abbrev use_checks : User → Bool → ℕ → Fid × Nature → Look (Result Fid Refusal)
  use_checks user changing right (fid, nature) =
      refuse_if (changing && nature.read_only) ReadOnly (permitted nature user right (Ends (Ok fid)))

  use_none : (user : User) (root : Fid) (path : List (List ℕ)) (changing : Bool) (right : ℕ)
      → Plain (use_look user root path changing right)
  use_none user root path changing right =
      checked_none (file_look user root path) (use_checks user changing right) (file_none user root path) ended
    where
      ended : (found : Fid × Nature) → Plain (use_checks user changing right found)
      ended (fid, nature) =
          refuse_none (changing && nature.read_only) ReadOnly (permitted nature user right (Ends (Ok fid)))
          (refuse_none (not (allows (rights_on nature user) right)) (Denied right) (Ends (Ok fid)) none_here)

  -- what is judged asks nothing
  judged_asks : {A : Type 0} (look : Look (Result A Refusal)) (judge : A → Verdict)
      → ((x : A) (q : Question) → judge x ≡ Asks q → ⊥) → (q : Question)
      → outcome view (judged look judge) ≡ Asks q → ⊥
  judged_asks {A} look judge never q e = go (outcome view look) (sym (outcome_judged view look judge) ∙ e)
    where
      go : (r : Result A Refusal) → either r judge (λ refusal. Replies (Refused refusal)) ≡ Asks q → ⊥
      go (Ok x) k = never x q k
      go (Err refusal) k = let w : Replies (Refused refusal) ≡ Asks q = k in cc

  judged_needs : {A : Type 0} (look : Look (Result A Refusal)) (judge : A → Verdict) (n : Need)
      → In n (needs_of view (judged look judge)) → In n (needs_of view look)
  judged_needs look judge n i =
      elim (of_both n (needs_of view look) [] (subst (In n)
      (needs_on view look (λ seen. Ends (either seen judge (λ refusal. Replies (Refused refusal))))) i)) [
        | inl j ↦ j
        | inr j ↦ elim j [ ]
      ]

  -- a use that is needed comes after the walk
  use_after : {B : Type 0} (look : Look (Result Fid Refusal)) (next : Fid → Look (Result B Refusal)) (n : Need)
      → Plain look → IsUseKind n.kind → In n (needs_of view (checked look next))
      → (fid : Fid) × In n (needs_of view (next fid))
  use_after look next n plain k i =
      elim (of_both n (needs_of view look) (needs_of view (after_check next (outcome view look)))
      (subst (In n) (needs_on view look (after_check next)) i)) [
        | inl j ↦ absurd (plain n j k)
        | inr j ↦ go (outcome view look) j
      ]
    where
      go : (r : Result Fid Refusal) → In n (needs_of view (after_check next r))
          → (fid : Fid) × In n (needs_of view (next fid))
      go (Ok fid) j = (fid, j)
      go (Err refusal) j = elim j [ ]

  -- what a host asks about a call under tokens, and of which file
  abbrev pub AsksOf : List Token → Look Verdict → Fid → Type 0
  AsksOf kept look fid =
      ((q : Question) × (outcome view look ≡ Asks q))
      ⊎ ((need : Need) × IsFirstLack kept (needs_of view look) need × IsUseKind need.kind × (need.fid ≡ fid))

  -- nothing about a refusal
  refused_asks : (kept : List Token) (refusal : Refusal) (fid : Fid) → AsksOf kept (refuse refusal) fid → ⊥
  refused_asks kept refusal fid (inl (q, e)) = let w : Replies (Refused refusal) ≡ Asks q = e in cc
  refused_asks kept refusal fid (inr (need, lack, _, _)) = elim lack [ ]

  module _ (own : Own) (host : HostId) (user : User) (kept : List Token) (fid : Fid) where
    -- nothing about an end
    ended_asks : (used gives : Bool) (refusal : Refusal)
        → AsksOf kept (if not used then refuse refusal else Ends (if gives then Gives else Frees)) fid → ⊥
    ended_asks false gives refusal x = refused_asks kept refusal fid x
    ended_asks true true refusal (inl (q, e)) = let w : Gives ≡ Asks q = e in cc
    ended_asks true false refusal (inl (q, e)) = let w : Frees ≡ Asks q = e in cc
    ended_asks true gives refusal (inr (need, lack, _, _)) = elim lack [ ]

    pub unlock_asks : (label : List ℕ) → AsksOf kept (call_look own host user (Unlock label)) fid → ⊥
    unfolding call_look
    unlock_asks label x = ended_asks (has_lock own.locks host label) (own.gives_lock label) NotLocked x

    pub close_asks : (label : List ℕ) → AsksOf kept (call_look own host user (CloseFile label)) fid → ⊥
    unfolding call_look
    close_asks label x = ended_asks (has_open own.opens host label) (own.gives_open label) NotOpened x

    module _ (server : ServerId) (writing : Bool) (from len : ℕ) where
      abbrev span : Span
      span = span_between from (from + len)

      lock_needs : (big locked : Bool) (found : Fid) (n : Need)
          → In n (needs_of view (refuse_if big TooBig (refuse_if locked AlreadyLocked
          (Takes (record { fid = found; kind = LockKind writing span }) (Ends (Ok found))))))
          → (n.fid ≡ found) × (locked ≡ false)
      lock_needs true locked found n i = elim i [ ]
      lock_needs false true found n i = elim i [ ]
      lock_needs false false found n (inl e) = (ap (λ (z : Need). z.fid) e, refl)
      lock_needs false false found n (inr i) = elim i [ ]

      -- it asks to enter the fileset, or for the token alone
      rooted_asks : (o : Option FilesetId) (path : List (List ℕ)) (q : Question)
          → outcome view (from_root server o (λ root. lock_look own host user root path writing from len)) ≡ Asks q
          → q ≡ EnterAt server
      unfolding lock_look
      rooted_asks None path q e = let k : Asks (EnterAt server) ≡ Asks q = e in let w : EnterAt server ≡ q = cc in sym w
      rooted_asks (Some id) path q e =
          absurd (judged_asks
          (checked (use_look user (root_of id) path writing (if writing then write_right else read_right))
          (lock_for own host writing from len)) (λ found. Locks found writing span)
          (λ found r k. let w : Locks found writing span ≡ Asks r = k in cc) q e)

      rooted_lacks : (o : Option FilesetId) (path : List (List ℕ)) (need : Need)
          → IsFirstLack kept (needs_of view (from_root server o (λ root.
          lock_look own host user root path writing from len))) need
          → IsUseKind need.kind → need.fid ≡ fid → is_own_locked own.locks host fid span ≡ false
      unfolding lock_look
      rooted_lacks None path need lack use_kind same = elim lack [ ]
      rooted_lacks (Some id) path need lack use_kind same =
          let walk = use_look user (root_of id) path writing (if writing then write_right else read_right) in
          let i = judged_needs (checked walk (lock_for own host writing from len))
          (λ found. Locks found writing span) need
          (first_in kept _ need lack) in
          let k = use_after walk (lock_for own host writing from len) need
          (use_none user (root_of id) path writing (if writing then write_right else read_right)) use_kind i in
          let r = lock_needs (nat_lt FILE_BYTES_MAX (from + len))
          (is_own_locked own.locks host k.0 span) k.0 need k.1 in
          subst (λ (f : Fid). is_own_locked own.locks host f span ≡ false) (sym r.0 ∙ same) r.1

    -- a lock that is asked about has a free label, and no own lock is in its way
    pub record LockIsFree (label : List ℕ) (writing : Bool) (from len : ℕ) (look : Look Verdict) (server : ServerId)
        : Type 0 where
      pub free : has_lock own.locks host label ≡ false
      pub few : nat_le LABELS_MAX (lock_count own.locks host) ≡ false
      pub asks : (q : Question) → outcome view look ≡ Asks q → q ≡ EnterAt server
      pub lacks : (need : Need) → IsFirstLack kept (needs_of view look) need → IsUseKind need.kind → need.fid ≡ fid
          → is_own_locked own.locks host fid (span_between from (from + len)) ≡ false

    lock_by : (has many : Bool) (label : List ℕ) (place : Place) (writing : Bool) (from len : ℕ)
        → (let look = if has then refuse AlreadyLocked else if many then refuse TooMany
        else in_place own place (λ root. lock_look own host user root place.path writing from len) in
        AsksOf kept look fid → (has ≡ false) × (many ≡ false)
        × ((q : Question) → outcome view look ≡ Asks q → q ≡ EnterAt place.server)
        × ((need : Need) → IsFirstLack kept (needs_of view look) need → IsUseKind need.kind → need.fid ≡ fid
        → is_own_locked own.locks host fid (span_between from (from + len)) ≡ false))
    lock_by true many label place writing from len x = absurd (refused_asks kept AlreadyLocked fid x)
    lock_by false true label place writing from len x = absurd (refused_asks kept TooMany fid x)
    lock_by false false label place writing from len x = (
      refl,
      refl,
      rooted_asks place.server writing from len (own.seen place.server place.fileset) place.path,
      rooted_lacks place.server writing from len (own.seen place.server place.fileset) place.path,
    )

    pub lock_asks : (label : List ℕ) (place : Place) (writing : Bool) (from len : ℕ)
        → AsksOf kept (call_look own host user (Lock label place writing from len)) fid
        → LockIsFree label writing from len (call_look own host user (Lock label place writing from len)) place.server
    unfolding call_look
    lock_asks label place writing from len x =
        let k = lock_by (has_lock own.locks host label) (nat_le LABELS_MAX (lock_count own.locks host)) label place
        writing from len x in
        record { free = k.0; few = k.1; asks = k.2; lacks = k.3 }

    pub open_asks : (label : List ℕ) (place : Place) (kind : OpenKind)
        → AsksOf kept (call_look own host user (OpenFile label place kind)) fid
        → (has_open own.opens host label ≡ false) × (nat_le LABELS_MAX (open_count own.opens host) ≡ false)
    unfolding call_look
    open_asks label place kind x =
        go (has_open own.opens host label) (nat_le LABELS_MAX (open_count own.opens host)) x
      where
        go : (has many : Bool)
            → AsksOf kept (if has then refuse AlreadyOpened else if many then refuse TooMany
            else in_place own place (λ root. open_look user root place.path kind)) fid
            → (has ≡ false) × (many ≡ false)
        go true many x = absurd (refused_asks kept AlreadyOpened fid x)
        go false true x = absurd (refused_asks kept TooMany fid x)
        go false false x = (refl, refl)

-- how the end of a use, and a lock or open under a label, are answered
module _ (view : View) (own : Own) (host : HostId) (user : User) where
  abbrev Answers : Call → Reply → Type 0
  Answers call reply = reply_now (outcome view (call_look own host user call)) ≡ Some reply

  gives_none : (used gives : Bool) (refusal : Refusal) (reply : Reply) → used ≡ true → gives ≡ true
      → reply_now (outcome view (if not used then refuse refusal else Ends
      (if gives then Gives else Frees))) ≡ Some reply
      → ⊥
  gives_none true true refusal reply a b e = let k : None ≡ Some reply = e in cc
  gives_none true false refusal reply a b e = false≢true b
  gives_none false gives refusal reply a b e = false≢true a

  -- one that the server has to take isn't answered
  pub unlock_gives : (label : List ℕ) (reply : Reply) → has_lock own.locks host label ≡ true
      → own.gives_lock label ≡ true → Answers (Unlock label) reply → ⊥
  unfolding call_look
  unlock_gives label reply has gives e =
      gives_none (has_lock own.locks host label) (own.gives_lock label) NotLocked reply has gives e

  pub close_gives : (label : List ℕ) (reply : Reply) → has_open own.opens host label ≡ true
      → own.gives_open label ≡ true → Answers (CloseFile label) reply → ⊥
  unfolding call_look
  close_gives label reply has gives e =
      gives_none (has_open own.opens host label) (own.gives_open label) NotOpened reply has gives e

  -- one under a label in use is refused
  in_use : (has : Bool) (refusal : Refusal) (rest : Look Verdict) → has ≡ true
      → reply_now (outcome view (if has then refuse refusal else rest)) ≡ Some Fine → ⊥
  in_use true refusal rest a e = let k : Some (Refused refusal) ≡ Some Fine = e in cc
  in_use false refusal rest a e = false≢true a

  pub lock_used : (label : List ℕ) (place : Place) (writing : Bool) (from len : ℕ)
      → has_lock own.locks host label ≡ true
      → Answers (Lock label place writing from len) Fine → ⊥
  unfolding call_look
  lock_used label place writing from len has e = in_use (has_lock own.locks host label) AlreadyLocked _ has e

  pub open_used : (label : List ℕ) (place : Place) (kind : OpenKind) → has_open own.opens host label ≡ true
      → Answers (OpenFile label place kind) Fine → ⊥
  unfolding call_look
  open_used label place kind has e = in_use (has_open own.opens host label) AlreadyOpened _ has e
