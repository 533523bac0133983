-- The rules of answers for a host's step, computed; of what it asks, where it asks nothing new.
use Rattle.std.proofs.Common.{Bool, List, None, Option, Some, [], arith, false, inl, inr, refl, subst, sym}
use Rattle.std.proofs.Common.{length, lit≤, true}
use Rattle.std.proofs.Common.{ℕ, ◌&&◌, ◌||◌, ◌==◌, ◌∙◌, ◌∷◌, ◌≡◌, ◌≤◌, ◌<◌}
use Rattle.std.proofs.lemmas.Bool.{and_parts, and_from, or_cases, eqb-true, leb-true}
use Rattle.std.proofs.lemmas.Bool.{le-leb, ltb-true}
use Rattle.std.proofs.lemmas.Bool.{lt-ltb}
use Rattle.std.specs.Prelude.{not, nat_le, nat_lt}
use Rattle.std.specs.List.{list_all, list_any}
use Rattle.base_types.specs.Ids.{same_fid}
use Rattle.base_types.specs.Name.{same_name}
use Rattle.base_types.specs.Spans.{has_byte}
use Rattle.base_types.specs.declared.ids.Fid.{Fid}
use Rattle.base_types.specs.declared.ids.HostId.{HostId}
use Rattle.base_types.specs.declared.ids.OpenKind.{OpenKind}
use Rattle.base_types.specs.declared.ids.ServerId.{ServerId}
use Rattle.base_types.specs.declared.span.Span.{Span}
use Rattle.base_types.specs.declared.user.User.{User}
use Rattle.tree_calls.specs.Rosters.{user_of}
use Rattle.tree_calls.specs.declared.call.Call.{Call}
use Rattle.tree_calls.specs.declared.call.Call.TheVariants.{Read, Write, Stat, Sync, Lock, Unlock, OpenFile, CloseFile}
use Rattle.tree_calls.specs.declared.call.Call.TheVariants.{Remove}
use Rattle.tree_calls.specs.declared.place.Place.{Place}
use Rattle.tree_calls.specs.declared.reply.Reply.{Reply}
use Rattle.tree_calls.specs.declared.reply.Reply.TheVariants.{Ok as Fine, Bytes as BytesReply}
use Rattle.tree_calls.specs.declared.roster.Roster.{Roster}
use Rattle.need_host.specs.Calls.{Verdict, call_look, reply_now}
use Rattle.need_host.specs.Calls.Verdict.{Writes, Locks, Opens}
use Rattle.need_host.specs.Looks.{CoverAll, Look, needs_of, outcome}
use Rattle.token_types.specs.Covers.{Covers, covers_alone, covers_byte, does_for, kind_covers_byte}
use Rattle.token_types.specs.declared.token.Kind.{Kind}
use Rattle.token_types.specs.declared.token.Kind.TheVariants.{Bytes, Status, Lock as LockToken, Opening}
use Rattle.token_types.specs.declared.token.Need.{Need}
use Rattle.token_types.specs.declared.token.Token.{Token}
use Rattle.run_rules.specs.HostMay.{HostAnswers, IsExact}
use Rattle.run_rules.specs.Past.{In}
use Rattle.run_rules.specs.Tokens.{AtHand, CallGoesOn, FreesPinned, GivesUse, HasCall, Makes, end_of}
use Rattle.run_rules.specs.Views.{IsDirtyUnder, Stance, sees}
use Rattle.message_types.specs.declared.giving.Give.{Give}
use Rattle.run_rules.specs.declared.applied.Answer.{Answer}
use Rattle.run_rules.specs.declared.step.Asked.{Asked}
use Rattle.run_rules.specs.declared.step.Labelled.{Labelled}
use Rattle.run_rules.specs.declared.step.Step.{Step}
use Rattle.run_examples.proofs.Tests.{AllTrue, passes, all_true, implies, so, is_not, at_all, some_in}
use Rattle.run_examples.proofs.Tests.{any_of}
use Rattle.run_examples.proofs.Tests.{is_none, none_in, none_is, same_server, same_host, host_is, server_is}
use Rattle.run_examples.proofs.Tests.{fid_is}
use Rattle.run_examples.proofs.Tests.{same_kind, kind_is, same_bool, bool_is, name_is, same_token}
use Rattle.run_examples.proofs.Tests.{token_is, same_end}
use Rattle.run_examples.proofs.TokenChecks.{at_site}
use Rattle.run_examples.proofs.Words.{asking, asking_in, changing, numbered, hand, hand_in}
use Rattle.run_examples.proofs.Words.{in_hand, held}
use Rattle.run_examples.proofs.Words.{gives_it, gives_yes}
use Rattle.run_examples.proofs.LabelWords.{in_use, used_in, frees, frees_is, gives_use, gives_use_yes}
use Rattle.run_examples.proofs.LabelWords.{is_fine, fine_is}
use Rattle.run_examples.proofs.LabelWords.{is_local, end_same}
use Rattle.run_examples.proofs.DirtWords.{dirty_under, dirty_under_is}
use Rattle.run_examples.proofs.CallWords.{goes_on, in_goes, turns, turns_in}
use Rattle.run_examples.proofs.CallWords.{the_call}
use Rattle.run_examples.proofs.StanceChecks.{own_of, stance_of, stance_tests}

-- calls, by each part; calls that no example makes are alike to none
abbrev pub same_path : List (List ℕ) → List (List ℕ) → Bool
same_path [] [] = true
same_path (x ∷ xs) (y ∷ ys) = same_name x y && same_path xs ys
same_path _ _ = false

unfoldable pub same_place : Place → Place → Bool
same_place a b = same_server a.server b.server && (same_name a.fileset b.fileset && same_path a.path b.path)

path_is : (a b : List (List ℕ)) → same_path a b ≡ true → a ≡ b
unfolding same_place
path_is [] [] e = refl
path_is (x ∷ xs) (y ∷ ys) e =
    let p = and_parts (same_name x y) (same_path xs ys) e in
    let n = name_is x y p.0 in
    let r = path_is xs ys p.1 in
    λ i. n i ∷ r i
path_is [] (y ∷ ys) e = absurd (cc)
path_is (x ∷ xs) [] e = absurd (cc)

place_same : (a b : Place) → same_place a b ≡ true → a ≡ b
unfolding same_place
place_same a b e =
    let p = and_parts (same_server a.server b.server) (same_name a.fileset b.fileset && same_path a.path b.path) e in
    let q = and_parts (same_name a.fileset b.fileset) (same_path a.path b.path) p.1 in
    let s = server_is a.server b.server p.0 in
    let f = name_is a.fileset b.fileset q.0 in
    let w = path_is a.path b.path q.1 in
    λ i. record { server = s i; fileset = f i; path = w i }

unfoldable pub same_call : Call → Call → Bool
same_call (Stat a) (Stat b) = same_place a b
same_call (Sync a) (Sync b) = same_place a b
same_call (Remove a) (Remove b) = same_place a b
same_call (Read a n k) (Read b m j) = same_place a b && ((n == m) && (k == j))
same_call (Write a n x) (Write b m y) = same_place a b && ((n == m) && same_name x y)
same_call (Lock l a w n k) (Lock m b v o j) = (same_name l m && same_place a b) && (same_bool w v && ((n == o) &&
    (k == j)))
same_call (Unlock a) (Unlock b) = same_name a b
same_call (CloseFile a) (CloseFile b) = same_name a b
same_call _ _ = false

pub call_is : (a b : Call) → same_call a b ≡ true → a ≡ b
unfolding same_place same_call
call_is (Stat a) (Stat b) e = let p = place_same a b e in λ i. Stat (p i)
call_is (Sync a) (Sync b) e = let p = place_same a b e in λ i. Sync (p i)
call_is (Remove a) (Remove b) e = let p = place_same a b e in λ i. Remove (p i)
call_is (Read a n k) (Read b m j) e =
    let p = and_parts (same_place a b) ((n == m) && (k == j)) e in
    let q = and_parts (n == m) (k == j) p.1 in
    let u = place_same a b p.0 in
    let v = eqb-true n m q.0 in
    let w = eqb-true k j q.1 in
    λ i. Read (u i) (v i) (w i)
call_is (Write a n x) (Write b m y) e =
    let p = and_parts (same_place a b) ((n == m) && same_name x y) e in
    let q = and_parts (n == m) (same_name x y) p.1 in
    let u = place_same a b p.0 in
    let v = eqb-true n m q.0 in
    let w = name_is x y q.1 in
    λ i. Write (u i) (v i) (w i)
call_is (Lock l a w n k) (Lock m b v o j) e =
    let p = and_parts (same_name l m && same_place a b) (same_bool w v && ((n == o) && (k == j))) e in
    let q = and_parts (same_name l m) (same_place a b) p.0 in
    let r = and_parts (same_bool w v) ((n == o) && (k == j)) p.1 in
    let s = and_parts (n == o) (k == j) r.1 in
    let c = name_is l m q.0 in
    let d = place_same a b q.1 in
    let f = bool_is w v r.0 in
    let g = eqb-true n o s.0 in
    let h = eqb-true k j s.1 in
    λ i. Lock (c i) (d i) (f i) (g i) (h i)
call_is (Unlock a) (Unlock b) e = let p = name_is a b e in λ i. Unlock (p i)
call_is (CloseFile a) (CloseFile b) e = let p = name_is a b e in λ i. CloseFile (p i)
call_is a b e = absurd (cc)

unfoldable pub same_reply : Reply → Reply → Bool
same_reply Fine Fine = true
same_reply (BytesReply a) (BytesReply b) = same_name a b
same_reply _ _ = false

reply_is : (a b : Reply) → same_reply a b ≡ true → a ≡ b
unfolding same_place same_call same_reply
reply_is Fine Fine e = refl
reply_is (BytesReply a) (BytesReply b) e = let p = name_is a b e in λ i. BytesReply (p i)
reply_is a b e = absurd (cc)

-- what tokens cover: enough for it, and enough against it
abbrev pub kind_spans : Bool → Span → Kind → Bool
kind_spans needed span (Bytes update its) = does_for update needed &&
    (nat_le its.from span.from && nat_le span.to its.to)
kind_spans needed span _ = false

unfoldable pub spans_all : Fid → Bool → Span → Token → Bool
spans_all fid needed span t = same_fid t.fid fid && kind_spans needed span t.kind

unfoldable pub covers_kind : List Token → Fid → Kind → Bool
covers_kind held fid (Bytes needed span) = list_any (spans_all fid needed span) held || nat_le span.to span.from
covers_kind held fid kind = list_any (covers_alone fid kind) held

unfoldable pub covers_it : List Token → Need → Bool
covers_it held need = covers_kind held need.fid need.kind

spans_byte : (needed : Bool) (span : Span) (at : ℕ) (k : Kind) → kind_spans needed span k ≡ true → span.from ≤ at
    → at < span.to
    → kind_covers_byte needed at k ≡ true
unfolding same_place same_call same_reply spans_all covers_kind covers_it
spans_byte needed span at (Bytes update its) e low up =
    let p = and_parts (does_for update needed) (nat_le its.from span.from && nat_le span.to its.to) e in
    let q = and_parts (nat_le its.from span.from) (nat_le span.to its.to) p.1 in
    let a = leb-true its.from span.from q.0 in
    let b = leb-true span.to its.to q.1 in
    and_from (does_for update needed) (has_byte its at) p.0
    (and_from (nat_le its.from at) (nat_lt at its.to) (le-leb its.from at (omega arith)) (lt-ltb at its.to
    (omega arith)))
spans_byte needed span at k e low up = absurd (cc)

covers_kind_yes : (held : List Token) (fid : Fid) (k : Kind) → covers_kind held fid k ≡ true → Covers held
    (record { fid = fid; kind = k })
unfolding same_place same_call same_reply spans_all covers_kind covers_it
covers_kind_yes held fid (Bytes needed span) e = λ at low up.
    elim (or_cases (list_any (spans_all fid needed span) held) (nat_le span.to span.from) e) [
      | inl p ↦ (
          let q = some_in (spans_all fid needed span) held p in
          let r = and_parts (same_fid q.0.fid fid) (kind_spans needed span q.0.kind) q.2 in
          any_of (covers_byte fid needed at) held q.0 q.1
          (and_from (same_fid q.0.fid fid) (kind_covers_byte needed at q.0.kind) r.0
          (spans_byte needed span at q.0.kind r.1 low up))
          )
      | inr p ↦ (let q = leb-true span.to span.from p in absurd (omega arith))
    ]
covers_kind_yes held fid (Status needed) e = e
covers_kind_yes held fid (LockToken writing span) e = e
covers_kind_yes held fid (Opening kind) e = e

pub covers_yes : (held : List Token) (need : Need) → covers_it held need ≡ true → Covers held need
unfolding same_place same_call same_reply spans_all covers_kind covers_it
covers_yes held need e = covers_kind_yes held need.fid need.kind e

-- the first byte of a span stands for it
unfoldable pub lacks_kind : List Token → Fid → Kind → Bool
lacks_kind held fid (Bytes needed span) =
    nat_lt span.from span.to && not (list_any (covers_byte fid needed span.from) held)
lacks_kind held fid kind = not (list_any (covers_alone fid kind) held)

unfoldable pub lacks_it : List Token → Need → Bool
lacks_it held need = lacks_kind held need.fid need.kind

lacks_kind_is : (held : List Token) (fid : Fid) (k : Kind) → lacks_kind held fid k ≡ true → Covers held
    (record { fid = fid; kind = k }) → ⊥
unfolding same_place same_call same_reply spans_all covers_kind covers_it lacks_kind lacks_it
lacks_kind_is held fid (Bytes needed span) e c =
    let p = and_parts (nat_lt span.from span.to) (not (list_any (covers_byte fid needed span.from) held)) e in
    is_not (list_any (covers_byte fid needed span.from) held) p.1 (c span.from (omega arith)
    (ltb-true span.from span.to p.0))
lacks_kind_is held fid (Status needed) e c = is_not (list_any (covers_alone fid (Status needed)) held) e c
lacks_kind_is held fid (LockToken writing span) e c = is_not (list_any (covers_alone fid
    (LockToken writing span)) held) e c
lacks_kind_is held fid (Opening kind) e c = is_not (list_any (covers_alone fid (Opening kind)) held) e c

pub lacks_is : (held : List Token) (need : Need) → lacks_it held need ≡ true → Covers held need → ⊥
unfolding same_place same_call same_reply spans_all covers_kind covers_it lacks_kind lacks_it
lacks_is held need e c = lacks_kind_is held need.fid need.kind e c

pub cover_all : (held : List Token) (needs : List Need) → list_all (covers_it held) needs ≡ true → CoverAll held needs
unfolding same_place same_call same_reply spans_all covers_kind covers_it lacks_kind lacks_it
cover_all held [] e = tt
cover_all held (n ∷ ns) e =
    let p = and_parts (covers_it held n) (list_all (covers_it held) ns) e in
    (covers_yes held n p.0, cover_all held ns p.1)

none_cover : (held : List Token) (needs : List Need) → list_any (lacks_it held) needs ≡ true → CoverAll held needs → ⊥
unfolding same_place same_call same_reply spans_all covers_kind covers_it lacks_kind lacks_it
none_cover held [] e c = cc
none_cover held (n ∷ ns) e c =
    elim (or_cases (lacks_it held n) (list_any (lacks_it held) ns) e) [
      | inl p ↦ lacks_is held n p c.0
      | inr p ↦
          none_cover held ns p c.1
    ]

-- what the host makes of a call
abbrev pub look_at : ServerId → HostId → User → List Step → Step → Call → Look Verdict
look_at site host user past s call = call_look (own_of site host past s) host user call

abbrev pub verdict_at : ServerId → HostId → User → List Step → Step → Call → Verdict
verdict_at site host user past s call = outcome (sees past s) (look_at site host user past s call)

abbrev pub needs_at : ServerId → HostId → User → List Step → Step → Call → List Need
needs_at site host user past s call = needs_of (sees past s) (look_at site host user past s call)

unfoldable pub replies_so : Option Reply → Reply → Bool
replies_so None reply = false
replies_so (Some its) reply = same_reply its reply

replies_so_is : (o : Option Reply) (reply : Reply) → replies_so o reply ≡ true → o ≡ Some reply
unfolding same_place same_call same_reply spans_all covers_kind covers_it lacks_kind lacks_it replies_so
replies_so_is None reply e = absurd (cc)
replies_so_is (Some its) reply e = let p = reply_is its reply e in λ i. Some (p i)

unfoldable pub no_reply : Option Reply → Bool
no_reply None = true
no_reply (Some reply) = false

unfoldable pub is_that : Answer → Asked → Bool
is_that a c = (c.k == a.k) && same_call c.call a.call

unfoldable pub answered_right : ServerId → HostId → User → List Step → Step → Answer → Bool
answered_right site host user past s a =
    (same_host a.host host && (a.first || list_any (is_that a) (goes_on site past s)))
    && (list_all (covers_it (hand s past)) (needs_at site host user past s a.call)
    && replies_so (reply_now (verdict_at site host user past s a.call)) a.reply)

unfoldable pub cant : ServerId → HostId → User → List Step → Step → Call → Bool
cant site host user past s call =
    no_reply (reply_now (verdict_at site host user past s call))
    || list_any (lacks_it (hand s past)) (needs_at site host user past s call)

unfoldable pub turn_right : ServerId → HostId → User → List Step → Step → Asked → Bool
turn_right site host user past s c = list_any (λ a. a.k == c.k) s.answers || cant site host user past s c.call

unfoldable pub is_short : {A : Type 0} → List A → Bool
is_short [] = true
is_short (x ∷ xs) = is_none xs

short_len : {A : Type 0} (xs : List A) → is_short xs ≡ true → length xs ≤ 1
unfolding same_place same_call same_reply spans_all covers_kind covers_it lacks_kind lacks_it replies_so no_reply
    is_that answered_right cant turn_right is_short
short_len [] e = lit≤ tt
short_len (z ∷ []) e = lit≤ tt
short_len (z ∷ y ∷ ys) e = absurd (let p = e in cc)

short_one : {A : Type 0} (xs : List A) (x y : A) → is_short xs ≡ true → In x xs → In y xs → x ≡ y
unfolding same_place same_call same_reply spans_all covers_kind covers_it lacks_kind lacks_it replies_so no_reply
    is_that answered_right cant turn_right is_short
short_one [] x y e m n = elim m [ ]
short_one (z ∷ zs) x y e (inl p) (inl q) = p ∙ sym q
short_one (z ∷ zs) x y e (inr p) n = absurd (none_in zs x e p)
short_one (z ∷ zs) x y e (inl p) (inr q) = absurd (none_in zs y e q)

unfoldable pub is_file : Fid → Option Fid → Bool
is_file fid None = false
is_file fid (Some its) = same_fid its fid

file_is : (fid : Fid) (o : Option Fid) → is_file fid o ≡ true → o ≡ Some fid
unfolding same_place same_call same_reply spans_all covers_kind covers_it lacks_kind lacks_it replies_so no_reply
    is_that answered_right cant turn_right is_short is_file
file_is fid None e = absurd (cc)
file_is fid (Some its) e = let p = fid_is its fid e in λ i. Some (p i)

unfoldable pub wrote_right : Option Fid → Verdict → Bool
wrote_right wrote (Writes fid from bytes) = is_file fid wrote
wrote_right wrote _ = true

unfoldable pub writes_file : Fid → Verdict → Bool
writes_file file (Writes fid from bytes) = same_fid fid file
writes_file file _ = false

writes_file_is : (file : Fid) (v : Verdict) → writes_file file v ≡ true → (from : ℕ) × (bytes : List ℕ) ×
    (v ≡ Writes file from bytes)
unfolding same_place same_call same_reply spans_all covers_kind covers_it lacks_kind lacks_it replies_so no_reply
    is_that answered_right cant turn_right is_short is_file wrote_right writes_file
writes_file_is file (Writes fid from bytes) e = let p = fid_is fid file e in (from, bytes, λ i. Writes (p i) from bytes)
writes_file_is file v e = absurd (cc)

unfoldable pub written_right : ServerId → HostId → User → List Step → Step → Option Fid → Bool
written_right site host user past s None = true
written_right site host user past s (Some file) = list_any (λ a. writes_file file
    (verdict_at site host user past s a.call)) s.answers

unfoldable pub is_lock_of : Bool → Kind → Bool
is_lock_of writing (LockToken its span) = same_bool its writing
is_lock_of writing _ = false

lock_of_is : (writing : Bool) (k : Kind) → is_lock_of writing k ≡ true → (span : Span) × (k ≡ LockToken writing span)
unfolding same_place same_call same_reply spans_all covers_kind covers_it lacks_kind lacks_it replies_so no_reply
    is_that answered_right cant turn_right is_short is_file wrote_right writes_file written_right is_lock_of
lock_of_is writing (LockToken its span) e = let p = bool_is its writing e in (span, λ i. LockToken (p i) span)
lock_of_is writing k e = absurd (cc)

unfoldable pub is_exact : Call → Labelled → Bool
is_exact (Lock label place writing from len) u = same_name u.label label && is_lock_of writing u.token.kind
is_exact (OpenFile label place kind) u = same_name u.label label && same_kind u.token.kind (Opening kind)
is_exact _ u = false

exact_is : (call : Call) (u : Labelled) → is_exact call u ≡ true → IsExact call u
unfolding same_place same_call same_reply spans_all covers_kind covers_it lacks_kind lacks_it replies_so no_reply
    is_that answered_right cant turn_right is_short is_file wrote_right writes_file written_right is_lock_of is_exact
exact_is (Lock label place writing from len) u e =
    let p = and_parts (same_name u.label label) (is_lock_of writing u.token.kind) e in
    (name_is u.label label p.0, lock_of_is writing u.token.kind p.1)
exact_is (OpenFile label place kind) u e =
    let p = and_parts (same_name u.label label) (same_kind u.token.kind (Opening kind)) e in
    (name_is u.label label p.0, kind_is u.token.kind (Opening kind) p.1)
exact_is call u e = absurd (cc)

unfoldable pub takes_lock : Call → Fid → Bool → Span → Labelled → Bool
takes_lock call fid writing span u =
    is_exact call u && (same_fid u.token.fid fid && same_kind u.token.kind (LockToken writing span))

unfoldable pub lock_right : Step → Call → Verdict → Bool
lock_right s call (Locks fid writing span) = list_any (takes_lock call fid writing span) s.begun
lock_right s call (Opens fid kind) = list_any (λ u. is_exact call u && same_fid u.token.fid fid) s.begun
lock_right s call _ = true

unfoldable pub begun_right : List Step → Step → Labelled → Bool
begun_right past s u =
    list_any (λ a. is_fine a.reply && is_exact a.call u) s.answers && list_any (same_token u.token) (hand s past)

unfoldable pub is_sync : Call → Bool
is_sync (Sync place) = true
is_sync _ = false

unfoldable pub synced : List Step → Step → Asked → Bool
synced past s c = implies (is_sync c.call) (list_all (λ t. implies (dirty_under past s t) (gives_it s t.id))
    (hand s past))

unfoldable pub ends_in : ServerId → List Step → Step → Labelled → Bool
ends_in site past s u = list_any (λ c. same_end c.call (end_of u)) (turns site past s)

unfoldable pub freed_right : ServerId → List Step → Step → Labelled → Bool
freed_right site past s u =
    implies (frees past u && ends_in site past s u) (list_any (λ g. gives_use g u) s.made)

unfoldable pub is_first_or_on : ServerId → List Step → Step → Answer → Bool
is_first_or_on site past s a = a.first || (not a.first && list_any (is_that a) (goes_on site past s))

unfoldable pub no_asked : Option Asked → Bool
no_asked None = true
no_asked (Some c) = false

unfoldable pub answer_tests : ServerId → HostId → User → List Step → Step → List Bool
answer_tests site host user past s =
    list_all (answered_right site host user past s) s.answers
    ∷ list_all (turn_right site host user past s) (turns site past s)
    ∷ list_all (is_first_or_on site past s) s.answers
    ∷ (is_none s.answers || no_asked s.asked)
    ∷ is_short s.answers
    ∷ (is_none s.answers || is_none (asking (s ∷ past)))
    ∷ (is_none s.answers || (is_none (changing site (s ∷ past)) && is_local site (s ∷ past)))
    ∷ (is_none s.answers || (is_none s.dropped && is_none s.made))
    ∷ (list_all (λ a. not a.first) s.answers || is_none s.sent)
    ∷ list_all (λ a. wrote_right s.wrote (verdict_at site host user past s a.call)) s.answers
    ∷ written_right site host user past s s.wrote
    ∷ list_all (λ a. lock_right s a.call (verdict_at site host user past s a.call)) s.answers
    ∷ list_all (begun_right past s) s.begun
    ∷ is_short s.begun
    ∷ list_all (synced past s) (turns site past s)
    ∷ list_all (freed_right site past s) (in_use past)
    ∷ is_local site past
    ∷ []

it_goes : (site : ServerId) (past : List Step) (s : Step) (a : Answer) → is_local site past ≡ true
    → list_any (is_that a) (goes_on site past s) ≡ true → CallGoesOn past s a.k a.call
unfolding same_place same_call same_reply spans_all covers_kind covers_it lacks_kind lacks_it replies_so no_reply
    is_that answered_right cant turn_right is_short is_file wrote_right writes_file written_right is_lock_of is_exact
    takes_lock lock_right begun_right is_sync synced ends_in freed_right is_first_or_on no_asked answer_tests
it_goes site past s a local e =
    let p = some_in (is_that a) (goes_on site past s) e in
    let q = and_parts (p.0.k == a.k) (same_call p.0.call a.call) p.2 in
    let k = eqb-true p.0.k a.k q.0 in
    let c = call_is p.0.call a.call q.1 in
    subst (λ (x : Asked). CallGoesOn past s x.k x.call) (λ i. the_call (k i) (c i)) (in_goes site past s p.0 local p.1)

answered_none : (s : Step) (a : Answer) (b : Bool) → (is_none s.answers || b) ≡ true → In a s.answers → b ≡ true
unfolding same_place same_call same_reply spans_all covers_kind covers_it lacks_kind lacks_it replies_so no_reply
    is_that answered_right cant turn_right is_short is_file wrote_right writes_file written_right is_lock_of is_exact
    takes_lock lock_right begun_right is_sync synced ends_in freed_right is_first_or_on no_asked answer_tests
answered_none s a b e m =
    elim (or_cases (is_none s.answers) b e) [ inl p ↦ absurd (none_in s.answers a p m) | inr p ↦ p ]

asked_none : (o : Option Asked) (c : Asked) → no_asked o ≡ true → o ≡ Some c → ⊥
unfolding same_place same_call same_reply spans_all covers_kind covers_it lacks_kind lacks_it replies_so no_reply
    is_that answered_right cant turn_right is_short is_file wrote_right writes_file written_right is_lock_of is_exact
    takes_lock lock_right begun_right is_sync synced ends_in freed_right is_first_or_on no_asked answer_tests
asked_none None c e p = cc
asked_none (Some d) c e p = cc

lock_verdict : (s : Step) (call : Call) (v : Verdict) (fid : Fid) (writing : Bool) (span : Span)
    → lock_right s call v ≡ true
    → v ≡ Locks fid writing span
    → (u : Labelled) × In u s.begun × IsExact call u × (u.token.fid ≡ fid) × (u.token.kind ≡ LockToken writing span)
unfolding same_place same_call same_reply spans_all covers_kind covers_it lacks_kind lacks_it replies_so no_reply
    is_that answered_right cant turn_right is_short is_file wrote_right writes_file written_right is_lock_of is_exact
    takes_lock lock_right begun_right is_sync synced ends_in freed_right is_first_or_on no_asked answer_tests
lock_verdict s call v fid writing span e is =
    let p = some_in (takes_lock call fid writing span) s.begun (subst (λ x. lock_right s call x ≡ true) is e) in
    let q = and_parts (is_exact call p.0) (same_fid p.0.token.fid fid && same_kind p.0.token.kind
    (LockToken writing span)) p.2 in
    let r = and_parts (same_fid p.0.token.fid fid) (same_kind p.0.token.kind (LockToken writing span)) q.1 in
    (p.0, p.1, exact_is call p.0 q.0, fid_is p.0.token.fid fid r.0, kind_is p.0.token.kind (LockToken writing span) r.1)

open_verdict : (s : Step) (call : Call) (v : Verdict) (fid : Fid) (kind : OpenKind) → lock_right s call v ≡ true
    → v ≡ Opens fid kind → (u : Labelled) × In u s.begun × IsExact call u × (u.token.fid ≡ fid)
unfolding same_place same_call same_reply spans_all covers_kind covers_it lacks_kind lacks_it replies_so no_reply
    is_that answered_right cant turn_right is_short is_file wrote_right writes_file written_right is_lock_of is_exact
    takes_lock lock_right begun_right is_sync synced ends_in freed_right is_first_or_on no_asked answer_tests
open_verdict s call v fid kind e is =
    let p = some_in (λ u. is_exact call u && same_fid u.token.fid fid) s.begun (subst
    (λ x. lock_right s call x ≡ true) is e) in
    let q = and_parts (is_exact call p.0) (same_fid p.0.token.fid fid) p.2 in
    (p.0, p.1, exact_is call p.0 q.0, fid_is p.0.token.fid fid q.1)

module _ (site : ServerId) (roster : Roster) (host : HostId) (user : User) (past : List Step) (s : Step)
    (acts : user_of roster host ≡ Some user) (known : passes (stance_tests site host past s) ≡ true) where
  abbrev its : Stance roster host past s
  its = stance_of site roster host user past s acts known

  answers_from : AllTrue (answer_tests site host user past s) → HostAnswers roster host past s its
  unfolding answered_right turn_right cant is_short wrote_right written_right begun_right synced ends_in freed_right
      is_first_or_on answer_tests no_reply is_sync is_local
  answers_from (
    answers_,
    (
      all_,
      (
        first_,
        (
          asked_,
          (
            one_,
            (
              alone_,
              (
                settled_,
                (
                  keeps_,
                  (quiet_, (writes_, (only_, (locks_, (begins_, (begins_one_, (_, (_, (local_, _))))))))),
                ),
              ),
            ),
          ),
        ),
      ),
    ),
  ) = record {
    answers = λ a m.
        let v = reply_now (verdict_at site host user past s a.call) in
        let n = list_all (covers_it (hand s past)) (needs_at site host user past s a.call) in
        let p = and_parts (same_host a.host host && (a.first || list_any (is_that a) (goes_on site past s)))
        (n && replies_so v a.reply) (at_all (answered_right site host user past s) s.answers a answers_ m) in
        let q = and_parts (same_host a.host host) (a.first || list_any (is_that a) (goes_on site past s)) p.0 in
        let r = and_parts n (replies_so v a.reply) p.1 in (
          host_is a.host host q.0,
          elim (or_cases a.first (list_any (is_that a) (goes_on site past s)) q.1) [
            | inl x ↦ inl (inr (a, m, x, refl, refl))
            | inr x ↦ inr (it_goes site past s a local_ x)
          ],
          record {
            covered = cover_all (hand s past) (needs_at site host user past s a.call) r.0;
            settled =
                replies_so_is v a.reply r.1;
          },
        );
    answers_all = λ k call reply t can.
        elim (or_cases (list_any (λ a. a.k == k) s.answers) (cant site host user past s call) (at_all
        (turn_right site host user past s) (turns site past s) (the_call k call) all_
        (turns_in site past s k call local_ t))) [
          | inl p ↦ (let q = some_in (λ (a : Answer). a.k == k) s.answers p in (q.0, q.1, eqb-true q.0.k k q.2))
          | inr p ↦ absurd (
              elim (or_cases (no_reply (reply_now (verdict_at site host user past s call))) (list_any (lacks_it
              (hand s past)) (needs_at site host user past s call)) p) [
                | inl x ↦ (let y = subst (λ o. no_reply o ≡ true) can.settled x in cc)
                | inr x ↦ none_cover (hand s past) (needs_at site host user past s call) x can.covered
              ])
        ];
    first = λ a m.
        elim (or_cases a.first (not a.first && list_any (is_that a) (goes_on site past s)) (at_all
        (is_first_or_on site past s) s.answers a first_ m)) [
          | inl p ↦ inl p
          | inr p ↦ (let q = and_parts (not a.first) (list_any (is_that a) (goes_on site past s)) p in inr
              (late a.first q.0, it_goes site past s a local_ q.1))
        ];
    asked = λ a c m is. asked_none s.asked c (answered_none s a (no_asked s.asked) asked_ m) is;
    answers_one = short_len s.answers one_;
    answers_alone = λ a fs n m x. none_in (asking (s ∷ past)) (numbered fs n) (answered_none s a (is_none (asking (s
        ∷ past))) alone_ m) (asking_in (s ∷ past) fs n x);
    answers_settled = λ a v fs n m x.
        let p = and_parts (is_none (changing site (s ∷ past))) (is_local site (s ∷ past))
        (answered_none s a (is_none (changing site (s ∷ past)) && is_local site (s ∷ past)) settled_ m) in
        none_in (changing site (s ∷ past)) (numbered fs n) p.0 (at_site site (s ∷ past) v fs n p.1 x);
    keeps = λ a m.
        let p = and_parts (is_none s.dropped) (is_none s.made)
        (answered_none s a (is_none s.dropped && is_none s.made) keeps_ m) in
        (none_is s.dropped p.0, none_is s.made p.1);
    quiet = λ a m e. elim (or_cases (list_all (λ a. not a.first) s.answers) (is_none s.sent) quiet_) [
      | inl p ↦
          let q = at_all (λ a. not a.first) s.answers a p m in
          absurd (let r : not true ≡ true = subst (λ b. not b ≡ true) e q in cc)
      | inr p ↦ none_is s.sent p
    ];
    writes = λ a fid from bytes m is.
        file_is fid s.wrote (subst (λ v. wrote_right s.wrote v ≡ true) is (at_all (λ a. wrote_right s.wrote
        (verdict_at site host user past s a.call)) s.answers a writes_ m));
    writes_only = λ fid is.
        let p = some_in (λ a. writes_file fid (verdict_at site host user past s a.call)) s.answers (subst
        (λ o. written_right site host user past s o ≡ true) is only_) in
        let q = writes_file_is fid (verdict_at site host user past s p.0.call) p.2 in
        (p.0, q.0, q.1, p.1, q.2);
    locks = λ a fid writing span m is.
        lock_verdict s a.call (verdict_at site host user past s a.call) fid writing span (at_all
        (λ a. lock_right s a.call (verdict_at site host user past s a.call)) s.answers a locks_ m) is;
    opens = λ a fid kind m is.
        open_verdict s a.call (verdict_at site host user past s a.call) fid kind (at_all (λ a. lock_right s a.call
        (verdict_at site host user past s a.call)) s.answers a locks_ m) is;
    begins = λ u m.
        let p = and_parts (list_any (λ a. is_fine a.reply && is_exact a.call u) s.answers) (list_any
        (same_token u.token) (hand s past)) (at_all (begun_right past s) s.begun u begins_ m) in
        let q = some_in (λ a. is_fine a.reply && is_exact a.call u) s.answers p.0 in
        let r = and_parts (is_fine q.0.reply) (is_exact q.0.call u) q.2 in
        let t = some_in (same_token u.token) (hand s past) p.1 in (
          q.0,
          q.1,
          fine_is q.0.reply r.0,
          exact_is q.0.call u r.1,
          in_hand s past u.token (subst (λ x. In x
              (hand s past)) (sym (token_is u.token t.0 t.2)) t.1),
        );
    begins_one = λ u w m n. short_one s.begun u w begins_one_ m n;
  }
    where
      late : (b : Bool) → not b ≡ true → b ≡ false
      late true e = absurd (cc)
      late false e = refl

  pub answers_meet : passes (answer_tests site host user past s) ≡ true → HostAnswers roster host past s its
  answers_meet e = answers_from (all_true (answer_tests site host user past s) e)

  pub syncs_meet : passes (answer_tests site host user past s) ≡ true → (k : ℕ) (place : Place) (t : Token)
      → HasCall past s k (Sync place) → AtHand s past t → IsDirtyUnder past s t → Makes s t.id
  unfolding synced answer_tests is_sync
  syncs_meet all k place t turn h d =
      let tests = (all_true (answer_tests site host user past s) all).1.1.1.1.1.1.1.1.1.1.1.1.1.1 in
      let syncs_ = tests.0 in
      let local_ = tests.1.1.0 in
      let e : list_all (λ t. implies (dirty_under past s t) (gives_it s t.id)) (hand s past) ≡ true =
      at_all (synced past s) (turns site past s) (the_call k (Sync place)) syncs_ (turns_in site past s k
      (Sync place) local_ turn) in
      gives_yes s t.id (so (dirty_under past s t) (gives_it s t.id) (at_all (λ t. implies (dirty_under past s t)
      (gives_it s t.id)) (hand s past) t e (hand_in s past t h)) (dirty_under_is past s t d))

  pub frees_meet : passes (answer_tests site host user past s) ≡ true → (k : ℕ) (u : Labelled)
      → HasCall past s k (end_of u) → FreesPinned past u → (g : Give) × In g s.made × GivesUse g u
  unfolding freed_right ends_in answer_tests
  frees_meet all k u turn x =
      let tests = (all_true (answer_tests site host user past s) all).1.1.1.1.1.1.1.1.1.1.1.1.1.1 in
      let frees_ = tests.1.0 in
      let local_ = tests.1.1.0 in
      let e = so (frees past u && ends_in site past s u) (list_any (λ g. gives_use g u) s.made) (at_all
      (freed_right site past s) (in_use past) u frees_ (used_in past u x.0.0))
      (and_from (frees past u) (ends_in site past s u) (frees_is past u x)
      (any_of (λ c. same_end c.call (end_of u)) (turns site past s) (the_call k (end_of u))
      (turns_in site past s k (end_of u) local_ turn) (end_same (end_of u) u refl))) in
      let p = some_in (λ g. gives_use g u) s.made e in
      (p.0, p.1, gives_use_yes p.0 u p.2)
