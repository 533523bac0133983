-- The rules of tokens for a server's doing, computed.
use Rattle.base_types.specs.Ids.{same_fid}
use Rattle.base_types.specs.declared.ids.Fid.{Fid}
use Rattle.base_types.specs.declared.ids.FilesetId.{FilesetId}
use Rattle.base_types.specs.declared.ids.HostId.{HostId}
use Rattle.base_types.specs.declared.ids.ServerId.{ServerId}
use Rattle.message_types.specs.declared.asking.Change.{Change as ChangeOf}
use Rattle.message_types.specs.declared.giving.Reclaim.{Reclaim as ReclaimOf}
use Rattle.message_types.specs.declared.message.Body.{Body}
use Rattle.message_types.specs.declared.message.Body.TheVariants.{Change, Done, Fetch, Gone, Grant, Reclaim, Reclaimed}
use Rattle.message_types.specs.declared.message.Body.TheVariants.{Revoke}
use Rattle.message_types.specs.declared.telling.Bring.{Bring}
use Rattle.message_types.specs.declared.telling.Done.{Done as DoneOf}
use Rattle.message_types.specs.declared.telling.Grant.{Grant as GrantOf}
use Rattle.message_types.specs.declared.tokens.Revoke.{Revoke as RevokeOf}
use Rattle.run_examples.proofs.AnswerChecks.{call_is, same_call}
use Rattle.run_examples.proofs.GrantWords.{brought_ever, issued_in, keeps_none, no_grace, none_kept, told_below}
use Rattle.run_examples.proofs.GrantWords.{told_is}
use Rattle.run_examples.proofs.LapseChecks.{same_token_id}
use Rattle.run_examples.proofs.ServerLists.{granted, granted_is, granted_yes, in_tokens, list_words, none_given}
use Rattle.run_examples.proofs.ServerLists.{quiet, took, took_yes}
use Rattle.run_examples.proofs.ServerWords.{applied, applied_yes, heard, here, here_yes, live, live_yes, reclaimed}
use Rattle.run_examples.proofs.ServerWords.{reclaimed_is}
use Rattle.run_examples.proofs.Tests.{AllTrue, all_true, apart, at_all, fid_is, fileset_is, filesets, host_is, hosts}
use Rattle.run_examples.proofs.Tests.{id_is, ids, implies, is_none, is_not, none_in, none_is, only_one, passes}
use Rattle.run_examples.proofs.Tests.{same_fileset, same_host, same_server, same_token, server_is, so, some_in}
use Rattle.std.proofs.Common.{Bool, List, [], arith, false, inl, inr, refl, subst, true, ℕ, ◌&&◌, ◌<◌, ◌==◌, ◌||◌}
use Rattle.std.proofs.Common.{◌∷◌, ◌≡◌}
use Rattle.std.proofs.lemmas.Bool.{and_from, and_parts, eq-eqb, eqb-true, ltb-true, or_cases}
use Rattle.std.specs.List.{list_all, list_any}
use Rattle.std.specs.Prelude.{nat_lt, not}
use Rattle.token_types.specs.Conflicts.{conflict, same_id}
use Rattle.token_types.specs.declared.token.Token.{Token}
use Rattle.token_types.specs.declared.token.TokenId.{TokenId}
use Rattle.run_rules.specs.Doings.{Doing, Granted, IsDurable, NoGrace, Reserved, SentTo, TookNow, WasWritten, epoch}
use Rattle.run_rules.specs.Doings.Doing.{Admits, Reserves, Sent, WritesDown}
use Rattle.run_rules.specs.Past.{EachInTurn, In, Once}
use Rattle.run_rules.specs.ServerTokens.{AskedChange, AskedFetch, ClaimsHere, MayAdmit, MayBring, ServerTokens}
use Rattle.run_rules.specs.declared.applied.Written.{Written}

-- no host is in its grace period; and what the exporter keeps is nothing
unfoldable pub over : List Doing → Bool
over past = list_all (reclaimed past) (heard past)

unfoldable pub exporter_free : List Doing → Bool
exporter_free past = list_all keeps_none past

unfoldable pub is_token_of : ServerId → ℕ → HostId → Fid → Token → Bool
is_token_of server now h fid t =
    (same_host t.host h && same_fid t.fid fid) && (same_server t.id.server server && (t.id.epoch == now))

unfoldable pub is_newer : ℕ → Token → Token → Bool
is_newer now t u = implies (u.id.epoch == now) (nat_lt u.id.seq t.id.seq)

unfoldable pub bring_tests : ServerId → List Doing → HostId → ℕ → Bring → List Bool
bring_tests server past h n w =
    over past
    ∷ live past h
    ∷ here server past w.fid.fileset n
    ∷ (nat_lt 0 w.stamp && told_below w.fid w.stamp past)
    ∷ list_all (is_token_of server (epoch past) h w.fid) w.tokens
    ∷ list_all (λ t. list_all (is_newer (epoch past) t) (brought_ever past)) w.tokens
    ∷ apart same_token_id w.tokens
    ∷ list_all (λ t. list_all (λ u. not (conflict t u)) (granted server past)) w.tokens
    ∷ exporter_free past
    ∷ []

unfoldable pub fetch_for : ℕ → GrantOf → ℕ → Body → Bool
fetch_for n g m (Fetch f) = (m == n) && ((f.number == g.bring.number) && same_fid f.fid g.bring.fid)
fetch_for n g m _ = false

unfoldable pub change_for : ℕ → DoneOf → ℕ → Body → Bool
change_for n d m (Change c) =
    ((m == n) && (c.number == d.bring.number))
    && (same_fileset c.fileset d.fileset && same_fileset d.fileset d.bring.fid.fileset)
change_for n d m _ = false

unfoldable pub change_of : Written → ℕ → Body → Bool
change_of w m (Change c) =
    (same_fileset c.fileset w.fileset && (c.number == w.number)) && ((c.k == w.answer.k) && same_call c.call w.answer.call)
change_of w m _ = false

-- the host's Changes of the fileset that were written down or answered have lower numbers
unfoldable pub is_lower : HostId → FilesetId → ℕ → Doing → Bool
is_lower h fs n (Sent host e m (Done d)) = implies (same_host host h && same_fileset d.fileset fs) (nat_lt d.bring.number n)
is_lower h fs n (WritesDown w) = implies (same_host w.answer.host h && same_fileset w.fileset fs) (nat_lt w.number n)
is_lower h fs n _ = true

unfoldable pub is_fresh : List Doing → HostId → FilesetId → ℕ → Bool
is_fresh past h fs n = list_all (is_lower h fs n) past

unfoldable pub names_granted : ServerId → List Doing → HostId → Fid → TokenId → Bool
names_granted server past h fid i =
    list_any (λ t. same_id t.id i && (same_host t.host h && same_fid t.fid fid)) (granted server past)

unfoldable pub body_right : ServerId → List Doing → HostId → ℕ → Body → Bool
body_right server past h n (Grant g) = passes (bring_tests server past h n g.bring) && took (fetch_for n g) past h
body_right server past h n (Done d) =
    is_none d.bring.tokens || (passes (bring_tests server past h n d.bring) && took (change_for n d) past h)
body_right server past h n (Revoke r) =
    (here server past r.fid.fileset n && told_below r.fid r.stamp past) && list_all (names_granted server past h r.fid) r.ids
body_right server past h n (Gone number) = here server past number.fileset n && applied server past h number
body_right server past h n (Reclaimed r) = is_none r.applied && is_none r.left_out
body_right server past h n _ = true

unfoldable pub claims_here : ServerId → List Doing → ReclaimOf → Token → Bool
claims_here server past claim t =
    list_any (λ o. same_fileset o.fileset t.fid.fileset && here server past o.fileset o.moves) claim.numbers

unfoldable pub is_claim_for : ServerId → List Doing → HostId → List Token → ℕ → Body → Bool
is_claim_for server past h ts n (Reclaim claim) =
    (list_all (λ o. o.give == 0) claim.numbers
    && list_all (λ t. list_any (same_token t) claim.tokens && (same_host t.host h && claims_here server past claim t)) ts)
    && (list_all (λ t. list_any (same_token t) ts) claim.tokens && apart same_token_id ts)
is_claim_for server past h ts n _ = false

unfoldable pub act_right : ServerId → List Doing → Doing → Bool
act_right server past (Sent h e n b) = (e == epoch past) && body_right server past h n b
act_right server past (Admits h ts) =
    (not (reclaimed past h) && live past h)
    && ((quiet past && is_none (granted server past)) && took (is_claim_for server past h ts) past h)
act_right server past (WritesDown w) =
    took (change_of w) past w.answer.host && is_fresh past w.answer.host w.fileset w.number
act_right server past (Reserves ts) = is_none ts
act_right server past _ = true

unfoldable pub acts_right : ServerId → List Doing → List Doing → Bool
acts_right server [] past = true
acts_right server (a ∷ more) past = act_right server past a && acts_right server more (a ∷ past)

unfoldable pub may_words : ℕ
unfolding list_words over exporter_free is_token_of is_newer bring_tests fetch_for change_for change_of is_lower is_fresh
    names_granted body_right claims_here is_claim_for act_right acts_right
may_words = 0

pub over_yes : (past : List Doing) → over past ≡ true → NoGrace past
unfolding over
over_yes past e = no_grace past e

pub free_yes : (past : List Doing) (t : Token) → exporter_free past ≡ true → Reserved past t → ⊥
unfolding exporter_free
free_yes past t e r = none_kept past t e r

brings_from : (server : ServerId) (past : List Doing) (h : HostId) (n : ℕ) (w : Bring)
    → AllTrue (bring_tests server past h n w) → MayBring server past h n w
unfolding may_words
brings_from server past h n w (over_, (live_, (here_, (told_, (of_, (new_, (apart_, (free_, (kept_, _))))))))) = record {
  over = over_yes past over_;
  live = live_yes past h live_;
  home = here_yes server past w.fid.fileset n here_;
  stamp =
      let p = and_parts (nat_lt 0 w.stamp) (told_below w.fid w.stamp past) told_ in
      (ltb-true 0 w.stamp p.0, λ x t. told_is w.fid w.stamp past x p.1 t);
  host_is = λ t m. host_is t.host h (its t m).0;
  file = λ t m. fid_is t.fid w.fid (its t m).1;
  id = λ t m. server_is t.id.server server (its t m).2;
  now = λ t m. eqb-true t.id.epoch (epoch past) (its t m).3;
  new = λ t u k m i e.
      ltb-true u.id.seq t.id.seq (so (u.id.epoch == epoch past) (nat_lt u.id.seq t.id.seq)
      (at_all (is_newer (epoch past) t) (brought_ever past) u
      (at_all (λ t. list_all (is_newer (epoch past) t) (brought_ever past)) w.tokens t new_ m) (issued_in past u k i))
      (eq-eqb u.id.epoch (epoch past) e));
  apart = λ t u m i e. only_one same_token_id w.tokens t u apart_ m i (ids t.id u.id e);
  free = λ t u m held c. elim held [
    | inl g ↦ is_not (conflict t u) (at_all (λ u. not (conflict t u)) (granted server past) u
        (at_all (λ t. list_all (λ u. not (conflict t u)) (granted server past)) w.tokens t free_ m)
        (granted_is server past u g)) c
    | inr r ↦ free_yes past u kept_ r
  ];
}
  where
    its : (t : Token) → In t w.tokens
        → (same_host t.host h ≡ true) × (same_fid t.fid w.fid ≡ true) × (same_server t.id.server server ≡ true)
        × ((t.id.epoch == epoch past) ≡ true)
    its t m =
        let p = and_parts (same_host t.host h && same_fid t.fid w.fid) (same_server t.id.server server &&
        (t.id.epoch == epoch past)) (at_all (is_token_of server (epoch past) h w.fid) w.tokens t of_ m) in
        let q = and_parts (same_host t.host h) (same_fid t.fid w.fid) p.0 in
        let r = and_parts (same_server t.id.server server) (t.id.epoch == epoch past) p.1 in
        (q.0, q.1, r.0, r.1)

fetch_is : (past : List Doing) (h : HostId) (n : ℕ) (g : GrantOf) (m : ℕ) (b : Body) → TookNow past h m b
    → fetch_for n g m b ≡ true → AskedFetch past h n g
unfolding may_words
fetch_is past h n g m (Fetch f) x e =
    let p = and_parts (m == n) ((f.number == g.bring.number) && same_fid f.fid g.bring.fid) e in
    let q = and_parts (f.number == g.bring.number) (same_fid f.fid g.bring.fid) p.1 in (
      f,
      subst (λ k. TookNow past h k (Fetch f)) (eqb-true m n p.0) x,
      eqb-true f.number g.bring.number q.0,
      fid_is f.fid g.bring.fid q.1,
    )
fetch_is past h n g m b x e = absurd (cc)

change_is : (past : List Doing) (h : HostId) (n : ℕ) (d : DoneOf) (m : ℕ) (b : Body) → TookNow past h m b
    → change_for n d m b ≡ true → AskedChange past h n d
unfolding may_words
change_is past h n d m (Change c) x e =
    let u = (m == n) && (c.number == d.bring.number) in
    let v = same_fileset c.fileset d.fileset && same_fileset d.fileset d.bring.fid.fileset in
    let p = and_parts u v e in
    let q = and_parts (m == n) (c.number == d.bring.number) p.0 in
    let r = and_parts (same_fileset c.fileset d.fileset) (same_fileset d.fileset d.bring.fid.fileset) p.1 in (
      c,
      subst (λ k. TookNow past h k (Change c)) (eqb-true m n q.0) x,
      eqb-true c.number d.bring.number q.1,
      fileset_is c.fileset d.fileset r.0,
      fileset_is d.fileset d.bring.fid.fileset r.1,
    )
change_is past h n d m b x e = absurd (cc)

abbrev Asked : List Doing → Written → Type 0
Asked past w = (c : ChangeOf) × (n : ℕ) × TookNow past w.answer.host n (Change c)
    × (c.fileset ≡ w.fileset) × (c.number ≡ w.number) × (c.k ≡ w.answer.k) × (c.call ≡ w.answer.call)

written_is : (past : List Doing) (w : Written) (m : ℕ) (b : Body) → TookNow past w.answer.host m b
    → change_of w m b ≡ true → Asked past w
unfolding may_words
written_is past w m (Change c) x e =
    let p = and_parts (same_fileset c.fileset w.fileset && (c.number == w.number))
    ((c.k == w.answer.k) && same_call c.call w.answer.call) e in
    let q = and_parts (same_fileset c.fileset w.fileset) (c.number == w.number) p.0 in
    let r = and_parts (c.k == w.answer.k) (same_call c.call w.answer.call) p.1 in (
      c,
      m,
      x,
      fileset_is c.fileset w.fileset q.0,
      eqb-true c.number w.number q.1,
      eqb-true c.k w.answer.k r.0,
      call_is c.call w.answer.call r.1,
    )
written_is past w m b x e = absurd (cc)

-- nothing of this number or a higher one was answered or written down
pub fresh_sent : (past : List Doing) (h : HostId) (fs : FilesetId) (n : ℕ) → is_fresh past h fs n ≡ true → (e m : ℕ)
    (d : DoneOf) → SentTo past h e m (Done d) → d.fileset ≡ fs → d.bring.number < n
unfolding may_words
fresh_sent [] h fs n t e m d x f = elim x [ ]
fresh_sent (a ∷ past) h fs n t e m d (inl is) f =
    let p = (and_parts (is_lower h fs n a) (list_all (is_lower h fs n) past) t).0 in
    let q : is_lower h fs n (Sent h e m (Done d)) ≡ true = subst (λ x. is_lower h fs n x ≡ true) is p in
    ltb-true d.bring.number n (so (same_host h h && same_fileset d.fileset fs) (nat_lt d.bring.number n) q
    (and_from (same_host h h) (same_fileset d.fileset fs) (hosts h h refl) (filesets d.fileset fs f)))
fresh_sent (a ∷ past) h fs n t e m d (inr x) f =
    fresh_sent past h fs n (and_parts (is_lower h fs n a) (list_all (is_lower h fs n) past) t).1 e m d x f

pub fresh_written : (past : List Doing) (h : HostId) (fs : FilesetId) (n : ℕ) → is_fresh past h fs n ≡ true → (w : Written)
    → Once (λ before a. a ≡ WritesDown w) past → w.answer.host ≡ h → w.fileset ≡ fs → w.number < n
unfolding may_words
fresh_written [] h fs n t w x at f = elim x [ ]
fresh_written (a ∷ past) h fs n t w (inl is) at f =
    let p = (and_parts (is_lower h fs n a) (list_all (is_lower h fs n) past) t).0 in
    let q : is_lower h fs n (WritesDown w) ≡ true = subst (λ x. is_lower h fs n x ≡ true) is p in
    ltb-true w.number n (so (same_host w.answer.host h && same_fileset w.fileset fs) (nat_lt w.number n) q
    (and_from (same_host w.answer.host h) (same_fileset w.fileset fs) (hosts w.answer.host h at)
    (filesets w.fileset fs f)))
fresh_written (a ∷ past) h fs n t w (inr x) at f =
    fresh_written past h fs n (and_parts (is_lower h fs n a) (list_all (is_lower h fs n) past) t).1 w x at f

was_once : (past : List Doing) (h : HostId) (fs : FilesetId) (n : ℕ) → WasWritten past h fs n
    → (w : Written) × Once (λ before a. a ≡ WritesDown w) past × (w.answer.host ≡ h) × (w.fileset ≡ fs) × (w.number ≡ n)
was_once [] h fs n x = elim x [ ]
was_once (a ∷ past) h fs n (inl (w, is, at, f, k)) = (w, inl is, at, f, k)
was_once (a ∷ past) h fs n (inr x) = let r = was_once past h fs n x in (r.0, inr r.1, r.2, r.3, r.4)

pub fresh_durable : (past : List Doing) (h : HostId) (fs : FilesetId) (n : ℕ) → is_fresh past h fs n ≡ true
    → IsDurable past h fs n → ⊥
fresh_durable past h fs n t (later, up, x) =
    let r = was_once past h fs later x in
    let low = fresh_written past h fs n t r.0 r.1 r.2 r.3 in
    let k = r.4 in omega (arith, up, low, k)

revoke_is : (server : ServerId) (past : List Doing) (h : HostId) (r : RevokeOf) (i : TokenId)
    → list_all (names_granted server past h r.fid) r.ids ≡ true → In i r.ids
    → (t : Token) × Granted server past t × (t.id ≡ i) × (t.host ≡ h) × (t.fid ≡ r.fid)
unfolding may_words
revoke_is server past h r i e m =
    let p = some_in (λ t. same_id t.id i && (same_host t.host h && same_fid t.fid r.fid)) (granted server past)
    (at_all (names_granted server past h r.fid) r.ids i e m) in
    let t = p.0 in
    let q = and_parts (same_id t.id i) (same_host t.host h && same_fid t.fid r.fid) p.2 in
    let k = and_parts (same_host t.host h) (same_fid t.fid r.fid) q.1 in
    (t, granted_yes server past t p.1, id_is t.id i q.0, host_is t.host h k.0, fid_is t.fid r.fid k.1)

admit_is : (server : ServerId) (past : List Doing) (h : HostId) (ts : List Token)
    → act_right server past (Admits h ts) ≡ true → MayAdmit server past h ts
unfolding may_words
admit_is server past h ts e = go (found.0) (found.1) (found.2) (found.3)
  where
    halves : ((not (reclaimed past h) && live past h) ≡ true)
        × (((quiet past && is_none (granted server past)) && took (is_claim_for server past h ts) past h) ≡ true)
    halves = and_parts (not (reclaimed past h) && live past h)
        ((quiet past && is_none (granted server past)) && took (is_claim_for server past h ts) past h) e

    rest : ((quiet past && is_none (granted server past)) ≡ true) × (took (is_claim_for server past h ts) past h ≡ true)
    rest = and_parts (quiet past && is_none (granted server past)) (took (is_claim_for server past h ts) past h) halves.1

    still : (quiet past ≡ true) × (is_none (granted server past) ≡ true)
    still = and_parts (quiet past) (is_none (granted server past)) rest.0

    found : (n : ℕ) × (b : Body) × TookNow past h n b × (is_claim_for server past h ts n b ≡ true)
    found = took_yes (is_claim_for server past h ts) past h rest.1

    here_it : (claim : ReclaimOf) (t : Token) → claims_here server past claim t ≡ true → ClaimsHere server past claim t
    here_it claim t x =
        let p = some_in (λ o. same_fileset o.fileset t.fid.fileset && here server past o.fileset o.moves) claim.numbers x in
        let q = and_parts (same_fileset p.0.fileset t.fid.fileset) (here server past p.0.fileset p.0.moves) p.2 in
        (p.0, p.1, fileset_is p.0.fileset t.fid.fileset q.0, here_yes server past p.0.fileset p.0.moves q.1)

    go : (n : ℕ) (b : Body) → TookNow past h n b → is_claim_for server past h ts n b ≡ true → MayAdmit server past h ts
    go n (Reclaim claim) x c =
        let up = list_all (λ o. o.give == 0) claim.numbers in
        let own_ = list_all (λ t. list_any (same_token t) claim.tokens && (same_host t.host h &&
        claims_here server past claim t)) ts in
        let all_ = list_all (λ t. list_any (same_token t) ts) claim.tokens in
        let p = and_parts (up && own_) (all_ && apart same_token_id ts) c in
        let q = and_parts up own_ p.0 in
        let r = and_parts all_ (apart same_token_id ts) p.1 in
        let first_ = and_parts (not (reclaimed past h)) (live past h) halves.0 in
        record {
          first = λ y. is_not (reclaimed past h) first_.0 (reclaimed_is past h y);
          live = live_yes past h first_.1;
          claim = claim;
          moves = n;
          took = x;
          waited = λ o m given at. absurd (
              let z = eqb-true o.give 0 (at_all (λ o. o.give == 0) claim.numbers o q.0 m) in omega (arith, given, z));
          sound = λ t m.
              let k = and_parts (list_any (same_token t) claim.tokens) (same_host t.host h && claims_here server past claim t)
              (at_all (λ t. list_any (same_token t) claim.tokens && (same_host t.host h && claims_here server past claim t)) ts
              t q.1 m) in
              let j = and_parts (same_host t.host h) (claims_here server past claim t) k.1 in (
                in_tokens t claim.tokens k.0,
                host_is t.host h j.0,
                here_it claim t j.1,
                none_given server past h t.id still.0,
                λ (u, g, is). none_in (granted server past) u still.1 (granted_is server past u g),
              );
          whole = λ t m at free new. (
            t,
            in_tokens t ts (at_all (λ t. list_any (same_token t) ts) claim.tokens t r.0 m),
            refl,
          );
          apart = λ t u m k is. only_one same_token_id ts t u r.1 m k (ids t.id u.id is);
        }
    go n b x c = absurd (cc)

-- each doing that passes its test is allowed
pub may_act : (server : ServerId) (past : List Doing) (a : Doing) → act_right server past a ≡ true
    → ServerTokens server past a
unfolding may_words
may_act server past a e = record {
  epochs = λ h f n b is. eqb-true f (epoch past) (sends h f n b is).0;
  grants = λ h f n w is.
      let p = and_parts (passes (bring_tests server past h n w.bring)) (took (fetch_for n w) past h)
      (sends h f n (Grant w) is).1 in
      let q = took_yes (fetch_for n w) past h p.1 in (
        brings_from server past h n w.bring (all_true (bring_tests server past h n w.bring) p.0),
        fetch_is past h n w q.0 q.1 q.2 q.3,
      );
  dones = λ h f n w is.
      let x = passes (bring_tests server past h n w.bring) && took (change_for n w) past h in
      elim (or_cases (is_none w.bring.tokens) x (sends h f n (Done w) is).1) [
        | inl p ↦ inl (none_is w.bring.tokens p)
        | inr y ↦ (
            let p = and_parts (passes (bring_tests server past h n w.bring)) (took (change_for n w) past h) y in
            let q = took_yes (change_for n w) past h p.1 in
            inr (inl (
              brings_from server past h n w.bring (all_true (bring_tests server past h n w.bring) p.0),
              change_is past h n w q.0 q.1 q.2 q.3,
            ))
            )
      ];
  revokes = λ h f n r i is m. revoke_is server past h r i (revoke h f n r is).1 m;
  revokes_here = λ h f n r is.
      here_yes server past r.fid.fileset n (and_parts (here server past r.fid.fileset n) (told_below r.fid r.stamp past)
      (revoke h f n r is).0).0;
  stamps = λ h f n x r is told_.
      told_is r.fid r.stamp past x (and_parts (here server past r.fid.fileset n) (told_below r.fid r.stamp past)
      (revoke h f n r is).0).1 told_;
  gones = λ h f n g is.
      let p = and_parts (here server past g.fileset n) (applied server past h g) (sends h f n (Gone g) is).1 in
      (here_yes server past g.fileset n p.0, applied_yes server past h g p.1);
  reclaimed = λ h f n r g is m.
      absurd (none_in r.applied g (and_parts (is_none r.applied) (is_none r.left_out) (sends h f n (Reclaimed r) is).1).0
      m);
  left_out = λ h f n r i is m.
      absurd (none_in r.left_out i (and_parts (is_none r.applied) (is_none r.left_out)
      (sends h f n (Reclaimed r) is).1).1 m);
  admits = λ h ts is. admit_is server past h ts (subst (λ x. act_right server past x ≡ true) is e);
  writes = λ w is. let q = took_yes (change_of w) past w.answer.host (wrote w is).0 in
      written_is past w q.0 q.1 q.2 q.3;
  writes_once = λ w is. fresh_durable past w.answer.host w.fileset w.number (wrote w is).1;
  reserves = λ ts t u is m.
      absurd (none_in ts t (subst (λ x. act_right server past x ≡ true) is e) m);
}
  where
    sends : (h : HostId) (f n : ℕ) (b : Body) → a ≡ Sent h f n b
        → ((f == epoch past) ≡ true) × (body_right server past h n b ≡ true)
    sends h f n b is =
        and_parts (f == epoch past) (body_right server past h n b) (subst (λ x. act_right server past x ≡ true) is e)

    revoke : (h : HostId) (f n : ℕ) (r : RevokeOf) → a ≡ Sent h f n (Revoke r)
        → ((here server past r.fid.fileset n && told_below r.fid r.stamp past) ≡ true)
        × (list_all (names_granted server past h r.fid) r.ids ≡ true)
    revoke h f n r is =
        and_parts (here server past r.fid.fileset n && told_below r.fid r.stamp past)
        (list_all (names_granted server past h r.fid) r.ids) (sends h f n (Revoke r) is).1

    wrote : (w : Written) → a ≡ WritesDown w
        → (took (change_of w) past w.answer.host ≡ true) × (is_fresh past w.answer.host w.fileset w.number ≡ true)
    wrote w is =
        and_parts (took (change_of w) past w.answer.host) (is_fresh past w.answer.host w.fileset w.number)
        (subst (λ x. act_right server past x ≡ true) is e)

pub may_all : (server : ServerId) (more past : List Doing) → acts_right server more past ≡ true
    → EachInTurn (ServerTokens server) more past
unfolding may_words
may_all server [] past e = tt
may_all server (a ∷ more) past e =
    let p = and_parts (act_right server past a) (acts_right server more (a ∷ past)) e in
    (may_act server past a p.0, may_all server more (a ∷ past) p.1)
