-- What a server's doings tell, as plain data, both ways: which tokens are granted and pinned, which wants wait, what was
-- revoked and given up.
use Rattle.base_types.specs.declared.ids.FilesetId.{FilesetId}
use Rattle.base_types.specs.declared.ids.HostId.{HostId}
use Rattle.base_types.specs.declared.ids.ServerId.{ServerId}
use Rattle.message_types.specs.declared.giving.Give.{Give}
use Rattle.message_types.specs.declared.message.Body.{Body}
use Rattle.message_types.specs.declared.message.Body.TheVariants.{Done, GiveBack, Grant, Kept, Returned, Revoke}
use Rattle.message_types.specs.declared.telling.Bring.{Bring}
use Rattle.message_types.specs.declared.tokens.Named.{Named}
use Rattle.message_types.specs.declared.tokens.Revoke.{Revoke as RevokeOf}
use Rattle.run_examples.proofs.ServerWords.{away_is_now, away_yes_now, begin_is, begin_yes, begins, goes_away, here}
use Rattle.run_examples.proofs.ServerWords.{here_is, here_yes, live, live_is, live_yes}
use Rattle.run_examples.proofs.Tests.{any_of, fileset_is, filesets, from_filter, host_is, hosts, id_is, ids, in_back}
use Rattle.run_examples.proofs.Tests.{in_filter, in_front, in_split, is_not, not_is, same_fileset, same_host, same_is}
use Rattle.run_examples.proofs.Tests.{is_use_kind, same_token, some_in, token_is, tokens, use_kind_is, use_kind_yes}
use Rattle.run_examples.specs.Laws.{writing}
use Rattle.std.proofs.Common.{Bool, List, [], false, inl, inr, refl, subst, sym, true, ℕ, ◌&&◌, ◌++◌, ◌==◌, ◌||◌, ◌∷◌}
use Rattle.std.proofs.Common.{◌≡◌}
use Rattle.std.proofs.lemmas.Bool.{and_from, and_parts, eq-eqb, eqb-true, or_cases, or_left, or_right}
use Rattle.std.specs.List.{filter, list_any}
use Rattle.std.specs.Prelude.{not, ◌⊎◌}
use Rattle.token_types.specs.Conflicts.{same_id}
use Rattle.token_types.specs.declared.token.Kind.{Kind}
use Rattle.token_types.specs.declared.token.Kind.TheVariants.{Bytes, Lock as LockToken, Opening, Status}
use Rattle.token_types.specs.declared.token.Token.{Token}
use Rattle.token_types.specs.declared.token.TokenId.{TokenId}
use Rattle.run_rules.specs.Doings.{Doing, GivenUp, GivesUp, GoesAway, Granted, Here, IsLive, IsNewEpoch}
use Rattle.run_rules.specs.Doings.{IsNewlyGranted, Pinned, TakesFrom, TakesOf, TookNow, TookOf, epoch}
use Rattle.run_rules.specs.Doings.Doing.{Admits, MakesWant, Sent, Took, WritesDown}
use Rattle.run_rules.specs.Past.{In}
use Rattle.run_rules.specs.ServerMay.{HasRevoked}
use Rattle.run_rules.specs.Tokens.{IsUseKind}
use Rattle.run_rules.specs.Wants.{CannotBothWait, Decides, IsQueued, Unwants}
use Rattle.run_rules.specs.declared.applied.Request.TheVariants.{Change as Changes, Fetch as Asks}
use Rattle.run_rules.specs.declared.applied.Request.{Request}
use Rattle.run_rules.specs.declared.applied.Wanted.{Wanted}

-- a host's message is taken: it is of the server's epoch, the host is live, and its fileset is here in its stay
unfoldable pub takes_it : ServerId → List Doing → HostId → FilesetId → HostId → ℕ → ℕ → Bool
takes_it server past h fs host e n = (same_host host h && (e == epoch past)) && (live past h && here server past fs n)

-- a Returned or a give-back names the token
unfoldable pub names_token : ServerId → List Doing → Doing → HostId → TokenId → Bool
names_token server past (Took host e n (Returned w)) h i =
    takes_it server past h w.fid.fileset host e n && list_any (same_id i) w.ids
names_token server past (Took host e n (GiveBack g)) h i =
    takes_it server past h g.fid.fileset host e n && list_any (same_id i) g.ids
names_token server past _ h i = false

unfoldable pub ends_token : ServerId → List Doing → Doing → Token → Bool
ends_token server past a t = begins a || (names_token server past a t.host t.id || goes_away past a t.host)

-- the tokens that a doing brings, or grants again
unfoldable pub newly : Doing → List Token
newly (Sent h e n (Grant g)) = g.bring.tokens
newly (Sent h e n (Done d)) = d.bring.tokens
newly (Admits h ts) = filter (λ t. same_host h t.host) ts
newly _ = []

unfoldable pub granted : ServerId → List Doing → List Token
granted server [] = []
granted server (a ∷ past) = newly a ++ filter (λ t. not (ends_token server past a t)) (granted server past)

-- a Kept names a lock or open token
unfoldable pub pins : ServerId → List Doing → Doing → Token → Bool
pins server past (Took host e n (Kept w)) t =
    takes_it server past t.host w.fid.fileset host e n && (list_any (same_id t.id) w.ids && is_use_kind t.kind)
pins server past _ t = false

unfoldable pub pinned : ServerId → List Doing → List Token
pinned server [] = []
pinned server (a ∷ past) =
    filter (λ t. list_any (same_token t) (granted server (a ∷ past)))
    (filter (pins server past a) (granted server past) ++ pinned server past)

unfoldable pub revokes_it : Doing → Token → Bool
revokes_it (Sent h e n (Revoke r)) t = same_host h t.host && list_any (same_id t.id) r.ids
revokes_it _ t = false

unfoldable pub revoked : List Doing → Token → Bool
revoked [] t = false
revoked (a ∷ past) t = revokes_it a t || (revoked past t && not (begins a))

-- wants that wait
unfoldable pub same_asked : Request → Request → Bool
same_asked (Asks f) (Asks g) = same_fileset f.fid.fileset g.fid.fileset && (f.number == g.number)
same_asked (Changes c) (Changes d) = same_fileset c.fileset d.fileset
same_asked _ _ = false

unfoldable pub decides_it : Doing → HostId → Request → Bool
decides_it (Sent host e n (Grant g)) h (Asks f) =
    same_host host h && (same_fileset g.bring.fid.fileset f.fid.fileset && (g.bring.number == f.number))
decides_it (Sent host e n (Done d)) h (Changes c) =
    same_host host h && (same_fileset d.fileset c.fileset && (d.bring.number == c.number))
decides_it (WritesDown w) h (Changes c) =
    same_host w.answer.host h && (same_fileset w.fileset c.fileset && (w.number == c.number))
decides_it _ h r = false

unfoldable pub remakes : Doing → Wanted → Bool
remakes (MakesWant v) w = same_host v.host w.host && same_asked v.request w.request
remakes _ w = false

unfoldable pub lets_go : List Doing → Doing → Wanted → Bool
lets_go past a w = decides_it a w.host w.request || (remakes a w || (goes_away past a w.host || begins a))

unfoldable pub made_by : Doing → List Wanted
made_by (MakesWant w) = w ∷ []
made_by _ = []

unfoldable pub queue : List Doing → List Wanted
queue [] = []
queue (a ∷ past) = made_by a ++ filter (λ w. not (lets_go past a w)) (queue past)

-- something was taken from the host in this epoch that passes a test
unfoldable pub took_by : (ℕ → Body → Bool) → List Doing → Doing → HostId → Bool
took_by test past (Took host e n b) h = ((same_host host h && (e == epoch past)) && live past h) && test n b
took_by test past _ h = false

unfoldable pub took : (ℕ → Body → Bool) → List Doing → HostId → Bool
took test [] h = false
took test (a ∷ past) h = took_by test past a h || (took test past h && not (begins a))

-- nothing was brought, granted again or given up since the epoch began
unfoldable pub is_quiet : Doing → Bool
is_quiet (Took h e n (Returned w)) = false
is_quiet (Took h e n (GiveBack g)) = false
is_quiet _ = true

unfoldable pub quiet : List Doing → Bool
quiet [] = true
quiet (a ∷ past) = is_quiet a && (begins a || quiet past)

unfoldable pub list_words : ℕ
unfolding takes_it names_token ends_token newly granted is_use_kind pins pinned revokes_it revoked same_asked decides_it
    remakes lets_go made_by queue took_by took is_quiet quiet
list_words = 0

-- what they tell
takes_yes : (server : ServerId) (past : List Doing) (h : HostId) (fs : FilesetId) (host : HostId) (e n : ℕ) (b : Body)
    → takes_it server past h fs host e n ≡ true → TakesOf server past (Took host e n b) h fs b
unfolding list_words
takes_yes server past h fs host e n b t =
    let p = and_parts (same_host host h && (e == epoch past)) (live past h && here server past fs n) t in
    let q = and_parts (same_host host h) (e == epoch past) p.0 in
    let r = and_parts (live past h) (here server past fs n) p.1 in
    let hh = host_is host h q.0 in
    let ee = eqb-true e (epoch past) q.1 in
    (n, here_yes server past fs n r.1, ((λ i. Took (hh i) (ee i) n b), live_yes past h r.0))

takes_is : (server : ServerId) (past : List Doing) (h : HostId) (fs : FilesetId) (n : ℕ) → Here server past fs n
    → IsLive past h → takes_it server past h fs h (epoch past) n ≡ true
unfolding list_words
takes_is server past h fs n at l =
    and_from (same_host h h && (epoch past == epoch past)) (live past h && here server past fs n)
    (and_from (same_host h h) (epoch past == epoch past) (hosts h h refl) (same_is (epoch past)))
    (and_from (live past h) (here server past fs n) (live_is past h l) (here_is server past fs n at))

-- an identity in a list, by a test and back
pub in_ids : (i : TokenId) (is : List TokenId) → list_any (same_id i) is ≡ true → In i is
in_ids i is e = let p = some_in (same_id i) is e in subst (λ x. In x is) (sym (id_is i p.0 p.2)) p.1

pub ids_in : (i : TokenId) (is : List TokenId) → In i is → list_any (same_id i) is ≡ true
ids_in i is m = any_of (same_id i) is i m (ids i i refl)

pub names_yes : (server : ServerId) (past : List Doing) (a : Doing) (h : HostId) (i : TokenId)
    → names_token server past a h i ≡ true → GivesUp server past a h i
unfolding list_words
names_yes server past (Took host e n (Returned w)) h i t =
    let p = and_parts (takes_it server past h w.fid.fileset host e n) (list_any (same_id i) w.ids) t in
    inl (w, takes_yes server past h w.fid.fileset host e n (Returned w) p.0, in_ids i w.ids p.1)
names_yes server past (Took host e n (GiveBack g)) h i t =
    let p = and_parts (takes_it server past h g.fid.fileset host e n) (list_any (same_id i) g.ids) t in
    inr (g, takes_yes server past h g.fid.fileset host e n (GiveBack g) p.0, in_ids i g.ids p.1)
names_yes server past a h i t = absurd (cc)

pub names_is : (server : ServerId) (past : List Doing) (a : Doing) (h : HostId) (i : TokenId) → GivesUp server past a h i
    → names_token server past a h i ≡ true
unfolding list_words
names_is server past a h i (inl (w, (n, at, (is, l)), m)) =
    subst (λ x. names_token server past x h i ≡ true) (sym is)
    (and_from (takes_it server past h w.fid.fileset h (epoch past) n) (list_any (same_id i) w.ids)
    (takes_is server past h w.fid.fileset n at l) (ids_in i w.ids m))
names_is server past a h i (inr (g, (n, at, (is, l)), m)) =
    subst (λ x. names_token server past x h i ≡ true) (sym is)
    (and_from (takes_it server past h g.fid.fileset h (epoch past) n) (list_any (same_id i) g.ids)
    (takes_is server past h g.fid.fileset n at l) (ids_in i g.ids m))

newly_yes : (a : Doing) (t : Token) → In t (newly a) → IsNewlyGranted a t
unfolding list_words
newly_yes (Sent h e n (Grant g)) t m =
    inl (record { moves = n; stamp = g.bring.stamp }, (h, e, g.bring, inl (g, refl, refl), m, refl))
newly_yes (Sent h e n (Done d)) t m =
    inl (record { moves = n; stamp = d.bring.stamp }, (h, e, d.bring, inr (d, refl, refl), m, refl))
newly_yes (Admits h ts) t m =
    let p = from_filter (λ t. same_host h t.host) ts t m in
    let q = host_is h t.host p.1 in
    inr (ts, (λ i. Admits (q i) ts), p.0)
newly_yes a t m = elim m [ ]

newly_is : (a : Doing) (t : Token) → IsNewlyGranted a t → In t (newly a)
unfolding list_words
newly_is a t (inl (k, (h, e, w, inl (g, is, b), m, q))) =
    subst (λ x. In t (newly x)) (sym is) (subst (λ (x : Bring). In t x.tokens) (sym b) m)
newly_is a t (inl (k, (h, e, w, inr (d, is, b), m, q))) =
    subst (λ x. In t (newly x)) (sym is) (subst (λ (x : Bring). In t x.tokens) (sym b) m)
newly_is a t (inr (ts, is, m)) =
    subst (λ x. In t (newly x)) (sym is)
    (in_filter (λ (u : Token). same_host t.host u.host) ts t m (hosts t.host t.host refl))

-- a token stays
stays : (server : ServerId) (past : List Doing) (a : Doing) (t : Token) → ends_token server past a t ≡ true
    → IsNewEpoch a ⊎ (GivesUp server past a t.host t.id ⊎ GoesAway past a t.host)
unfolding list_words
stays server past a t e =
    elim (or_cases (begins a) (names_token server past a t.host t.id || goes_away past a t.host) e) [
      | inl p ↦ inl (begin_yes a p)
      | inr p ↦ elim (or_cases (names_token server past a t.host t.id) (goes_away past a t.host) p) [
        | inl q ↦ inr (inl (names_yes server past a t.host t.id q))
        | inr q ↦ inr (inr (away_yes_now past a t.host q))
      ]
    ]

ended : (server : ServerId) (past : List Doing) (a : Doing) (t : Token)
    → IsNewEpoch a ⊎ (GivesUp server past a t.host t.id ⊎ GoesAway past a t.host) → ends_token server past a t ≡ true
unfolding list_words
ended server past a t (inl x) =
    or_left (begins a) (names_token server past a t.host t.id || goes_away past a t.host) (begin_is a x)
ended server past a t (inr (inl x)) =
    or_right (begins a) (names_token server past a t.host t.id || goes_away past a t.host)
    (or_left (names_token server past a t.host t.id) (goes_away past a t.host) (names_is server past a t.host t.id x))
ended server past a t (inr (inr x)) =
    or_right (begins a) (names_token server past a t.host t.id || goes_away past a t.host)
    (or_right (names_token server past a t.host t.id) (goes_away past a t.host) (away_is_now past a t.host x))

pub granted_is : (server : ServerId) (past : List Doing) (t : Token) → Granted server past t → In t (granted server past)
unfolding list_words
granted_is server [] t g = elim g [ ]
granted_is server (a ∷ past) t (inl x) =
    in_front t (newly a) (filter (λ t. not (ends_token server past a t)) (granted server past)) (newly_is a t x)
granted_is server (a ∷ past) t (inr (g, b, n, w)) =
    in_back t (newly a) (filter (λ t. not (ends_token server past a t)) (granted server past))
    (in_filter (λ t. not (ends_token server past a t)) (granted server past) t (granted_is server past t g)
    (not_is (ends_token server past a t) (λ e. elim (stays server past a t e) [
      | inl x ↦ b x
      | inr x ↦ elim x [ inl y ↦ n y | inr y ↦ w y ]
    ])))

pub granted_yes : (server : ServerId) (past : List Doing) (t : Token) → In t (granted server past) → Granted server past t
unfolding list_words
granted_yes server [] t m = elim m [ ]
granted_yes server (a ∷ past) t m =
    elim (in_split t (newly a) (filter (λ t. not (ends_token server past a t)) (granted server past)) m) [
      | inl p ↦ inl (newly_yes a t p)
      | inr p ↦ (
          let q = from_filter (λ t. not (ends_token server past a t)) (granted server past) t p in
          let no_end : (x : IsNewEpoch a ⊎ (GivesUp server past a t.host t.id ⊎ GoesAway past a t.host)) → ⊥ =
          λ x. is_not (ends_token server past a t) q.1 (ended server past a t x) in
          inr (granted_yes server past t q.0, λ x. no_end (inl x), λ x. no_end (inr (inl x)), λ x. no_end (inr (inr x)))
          )
    ]

abbrev PinsNow : ServerId → List Doing → Doing → Token → Type 0
PinsNow server past a t = (named : Named) × TakesOf server past a t.host named.fid.fileset (Kept named)
    × In t.id named.ids × IsUseKind t.kind

pins_yes : (server : ServerId) (past : List Doing) (a : Doing) (t : Token) → pins server past a t ≡ true
    → PinsNow server past a t
unfolding list_words
pins_yes server past (Took host e n (Kept w)) t x =
    let p = and_parts (takes_it server past t.host w.fid.fileset host e n) (list_any (same_id t.id) w.ids &&
    is_use_kind t.kind) x in
    let q = and_parts (list_any (same_id t.id) w.ids) (is_use_kind t.kind) p.1 in (
      w,
      takes_yes server past t.host w.fid.fileset host e n (Kept w) p.0,
      in_ids t.id w.ids q.0,
      use_kind_yes t.kind q.1,
    )
pins_yes server past a t x = absurd (cc)

pins_is : (server : ServerId) (past : List Doing) (a : Doing) (t : Token) → PinsNow server past a t
    → pins server past a t ≡ true
unfolding list_words
pins_is server past a t (w, (n, at, (is, l)), m, k) =
    subst (λ x. pins server past x t ≡ true) (sym is)
    (and_from (takes_it server past t.host w.fid.fileset t.host (epoch past) n) (list_any (same_id t.id) w.ids &&
    is_use_kind t.kind) (takes_is server past t.host w.fid.fileset n at l)
    (and_from (list_any (same_id t.id) w.ids) (is_use_kind t.kind) (ids_in t.id w.ids m) (use_kind_is t.kind k)))

-- a token in a list, by a test and back
pub in_tokens : (t : Token) (ts : List Token) → list_any (same_token t) ts ≡ true → In t ts
in_tokens t ts e = let p = some_in (same_token t) ts e in subst (λ x. In x ts) (sym (token_is t p.0 p.2)) p.1

pub tokens_in : (t : Token) (ts : List Token) → In t ts → list_any (same_token t) ts ≡ true
tokens_in t ts m = any_of (same_token t) ts t m (tokens t t refl)

pub pinned_is : (server : ServerId) (past : List Doing) (t : Token) → Pinned server past t → In t (pinned server past)
unfolding list_words
pinned_is server [] t x = elim x [ ]
pinned_is server (a ∷ past) t (from, g) =
    in_filter (λ t. list_any (same_token t) (granted server (a ∷ past)))
    (filter (pins server past a) (granted server past) ++ pinned server past) t
    (elim from [
      | inl x ↦ in_front t (filter (pins server past a) (granted server past)) (pinned server past)
          (in_filter (pins server past a) (granted server past) t (granted_is server past t x.4)
          (pins_is server past a t (x.0, x.1, x.2, x.3)))
      | inr x ↦ in_back t (filter (pins server past a) (granted server past)) (pinned server past)
          (pinned_is server past t x)
    ])
    (tokens_in t (granted server (a ∷ past)) (granted_is server (a ∷ past) t g))

pub pinned_yes : (server : ServerId) (past : List Doing) (t : Token) → In t (pinned server past) → Pinned server past t
unfolding list_words
pinned_yes server [] t m = elim m [ ]
pinned_yes server (a ∷ past) t m =
    let p = from_filter (λ t. list_any (same_token t) (granted server (a ∷ past)))
    (filter (pins server past a) (granted server past) ++ pinned server past) t m in (
      elim (in_split t (filter (pins server past a) (granted server past)) (pinned server past) p.0) [
        | inl q ↦ (
            let r = from_filter (pins server past a) (granted server past) t q in
            let k = pins_yes server past a t r.1 in
            inl (k.0, k.1, k.2, k.3, granted_yes server past t r.0)
            )
        | inr q ↦ inr (pinned_yes server past t q)
      ],
      granted_yes server (a ∷ past) t (in_tokens t (granted server (a ∷ past)) p.1),
    )

abbrev RevokesNow : Doing → Token → Type 0
RevokesNow a t = (e n : ℕ) × (r : RevokeOf) × (a ≡ Sent t.host e n (Revoke r)) × In t.id r.ids

revokes_yes : (a : Doing) (t : Token) → revokes_it a t ≡ true → RevokesNow a t
unfolding list_words
revokes_yes (Sent h e n (Revoke r)) t x =
    let p = and_parts (same_host h t.host) (list_any (same_id t.id) r.ids) x in
    let q = host_is h t.host p.0 in
    (e, n, r, (λ i. Sent (q i) e n (Revoke r)), in_ids t.id r.ids p.1)
revokes_yes a t x = absurd (cc)

pub revoked_yes : (past : List Doing) (t : Token) → revoked past t ≡ true → HasRevoked past t
unfolding list_words
revoked_yes [] t x = absurd (cc)
revoked_yes (a ∷ past) t x =
    elim (or_cases (revokes_it a t) (revoked past t && not (begins a)) x) [
      | inl p ↦ inl (revokes_yes a t p)
      | inr p ↦ (
          let q = and_parts (revoked past t) (not (begins a)) p in
          inr (revoked_yes past t q.0, λ b. is_not (begins a) q.1 (begin_is a b))
          )
    ]

pub revoked_is : (past : List Doing) (t : Token) → HasRevoked past t → revoked past t ≡ true
unfolding list_words
revoked_is [] t x = elim x [ ]
revoked_is (a ∷ past) t (inl (e, n, r, is, m)) =
    or_left (revokes_it a t) (revoked past t && not (begins a))
    (subst (λ x. revokes_it x t ≡ true) (sym is)
    (and_from (same_host t.host t.host) (list_any (same_id t.id) r.ids) (hosts t.host t.host refl) (ids_in t.id r.ids m)))
revoked_is (a ∷ past) t (inr (x, b)) =
    or_right (revokes_it a t) (revoked past t && not (begins a))
    (and_from (revoked past t) (not (begins a)) (revoked_is past t x) (not_is (begins a) (λ e. b (begin_yes a e))))

-- the queue
pub asked_yes : (r q : Request) → same_asked r q ≡ true → CannotBothWait r q
unfolding list_words
asked_yes (Asks f) (Asks g) e =
    let p = and_parts (same_fileset f.fid.fileset g.fid.fileset) (f.number == g.number) e in
    (fileset_is f.fid.fileset g.fid.fileset p.0, eqb-true f.number g.number p.1)
asked_yes (Changes c) (Changes d) e = fileset_is c.fileset d.fileset e
asked_yes (Asks f) (Changes d) e = absurd (cc)
asked_yes (Changes c) (Asks g) e = absurd (cc)

pub asked_is : (r q : Request) → CannotBothWait r q → same_asked r q ≡ true
unfolding list_words
asked_is (Asks f) (Asks g) (p, q) =
    and_from (same_fileset f.fid.fileset g.fid.fileset) (f.number == g.number)
    (filesets f.fid.fileset g.fid.fileset p) (eq-eqb f.number g.number q)
asked_is (Changes c) (Changes d) p = filesets c.fileset d.fileset p
asked_is (Asks f) (Changes d) p = elim p [ ]
asked_is (Changes c) (Asks g) p = elim p [ ]

decided_yes : (a : Doing) (h : HostId) (r : Request) → decides_it a h r ≡ true → Decides a h r
unfolding list_words
decided_yes (Sent host e n (Grant g)) h (Asks f) t =
    let p = and_parts (same_host host h) (same_fileset g.bring.fid.fileset f.fid.fileset &&
    (g.bring.number == f.number)) t in
    let q = and_parts (same_fileset g.bring.fid.fileset f.fid.fileset) (g.bring.number == f.number) p.1 in
    let hh = host_is host h p.0 in (
      e,
      n,
      g,
      (λ i. Sent (hh i) e n (Grant g)),
      fileset_is g.bring.fid.fileset f.fid.fileset q.0,
      eqb-true g.bring.number f.number q.1,
    )
decided_yes (Sent host e n (Done d)) h (Changes c) t =
    let p = and_parts (same_host host h) (same_fileset d.fileset c.fileset && (d.bring.number == c.number)) t in
    let q = and_parts (same_fileset d.fileset c.fileset) (d.bring.number == c.number) p.1 in
    let hh = host_is host h p.0 in
    inr (
      e,
      n,
      d,
      (λ i. Sent (hh i) e n (Done d)),
      fileset_is d.fileset c.fileset q.0,
      eqb-true d.bring.number c.number q.1,
    )
decided_yes (WritesDown w) h (Changes c) t =
    let p = and_parts (same_host w.answer.host h) (same_fileset w.fileset c.fileset && (w.number == c.number)) t in
    let q = and_parts (same_fileset w.fileset c.fileset) (w.number == c.number) p.1 in
    inl (w, refl, host_is w.answer.host h p.0, fileset_is w.fileset c.fileset q.0, eqb-true w.number c.number q.1)
decided_yes a h r t = absurd (cc)

decided_is : (a : Doing) (h : HostId) (r : Request) → Decides a h r → decides_it a h r ≡ true
unfolding list_words
decided_is a h (Asks f) (e, n, g, is, fs, k) =
    subst (λ x. decides_it x h (Asks f) ≡ true) (sym is)
    (and_from (same_host h h) (same_fileset g.bring.fid.fileset f.fid.fileset && (g.bring.number == f.number))
    (hosts h h refl) (and_from (same_fileset g.bring.fid.fileset f.fid.fileset) (g.bring.number == f.number)
    (filesets g.bring.fid.fileset f.fid.fileset fs) (eq-eqb g.bring.number f.number k)))
decided_is a h (Changes c) (inl (w, is, at, fs, k)) =
    subst (λ x. decides_it x h (Changes c) ≡ true) (sym is)
    (and_from (same_host w.answer.host h) (same_fileset w.fileset c.fileset && (w.number == c.number))
    (hosts w.answer.host h at) (and_from (same_fileset w.fileset c.fileset) (w.number == c.number)
    (filesets w.fileset c.fileset fs) (eq-eqb w.number c.number k)))
decided_is a h (Changes c) (inr (e, n, d, is, fs, k)) =
    subst (λ x. decides_it x h (Changes c) ≡ true) (sym is)
    (and_from (same_host h h) (same_fileset d.fileset c.fileset && (d.bring.number == c.number))
    (hosts h h refl) (and_from (same_fileset d.fileset c.fileset) (d.bring.number == c.number)
    (filesets d.fileset c.fileset fs) (eq-eqb d.bring.number c.number k)))

remade_yes : (a : Doing) (w : Wanted) → remakes a w ≡ true
    → (v : Wanted) × (a ≡ MakesWant v) × (v.host ≡ w.host) × CannotBothWait v.request w.request
unfolding list_words
remade_yes (MakesWant v) w t =
    let p = and_parts (same_host v.host w.host) (same_asked v.request w.request) t in
    (v, refl, host_is v.host w.host p.0, asked_yes v.request w.request p.1)
remade_yes a w t = absurd (cc)

lets_yes : (past : List Doing) (a : Doing) (w : Wanted) → lets_go past a w ≡ true → Unwants past a w
unfolding list_words
lets_yes past a w t =
    elim (or_cases (decides_it a w.host w.request) (remakes a w || (goes_away past a w.host || begins a)) t) [
      | inl p ↦ inl (decided_yes a w.host w.request p)
      | inr p ↦ inr (elim (or_cases (remakes a w) (goes_away past a w.host || begins a) p) [
        | inl q ↦ inl (remade_yes a w q)
        | inr q ↦ inr (elim (or_cases (goes_away past a w.host) (begins a) q) [
          | inl r ↦ inl (away_yes_now past a w.host r)
          | inr r ↦ inr (begin_yes a r)
        ])
      ])
    ]

lets_is : (past : List Doing) (a : Doing) (w : Wanted) → Unwants past a w → lets_go past a w ≡ true
unfolding list_words
lets_is past a w u =
    let x = goes_away past a w.host || begins a in
    let y = remakes a w || x in
    elim u [
      | inl p ↦ or_left (decides_it a w.host w.request) y (decided_is a w.host w.request p)
      | inr p ↦ or_right (decides_it a w.host w.request) y (elim p [
        | inl q ↦ or_left (remakes a w) x (subst (λ z. remakes z w ≡ true) (sym q.1)
            (and_from (same_host q.0.host w.host) (same_asked q.0.request w.request) (hosts q.0.host w.host q.2)
            (asked_is q.0.request w.request q.3)))
        | inr q ↦ or_right (remakes a w) x (elim q [
          | inl r ↦ or_left (goes_away past a w.host) (begins a) (away_is_now past a w.host r)
          | inr r ↦ or_right (goes_away past a w.host) (begins a) (begin_is a r)
        ])
      ])
    ]

pub queue_is : (past : List Doing) (w : Wanted) → IsQueued past w → In w (queue past)
unfolding list_words
queue_is [] w x = elim x [ ]
queue_is (a ∷ past) w (inl e) =
    in_front w (made_by a) (filter (λ w. not (lets_go past a w)) (queue past))
    (subst (λ y. In w (made_by y)) (sym e) (inl refl))
queue_is (a ∷ past) w (inr x) =
    in_back w (made_by a) (filter (λ w. not (lets_go past a w)) (queue past))
    (in_filter (λ w. not (lets_go past a w)) (queue past) w (queue_is past w x.0)
    (not_is (lets_go past a w) (λ e. x.1 (lets_yes past a w e))))

made_yes : (a : Doing) (w : Wanted) → In w (made_by a) → a ≡ MakesWant w
unfolding list_words
made_yes (MakesWant v) w (inl e) = λ i. MakesWant (sym e i)
made_yes (MakesWant v) w (inr e) = elim e [ ]
made_yes a w m = elim m [ ]

pub queue_yes : (past : List Doing) (w : Wanted) → In w (queue past) → IsQueued past w
unfolding list_words
queue_yes [] w m = elim m [ ]
queue_yes (a ∷ past) w m =
    elim (in_split w (made_by a) (filter (λ w. not (lets_go past a w)) (queue past)) m) [
      | inl p ↦ inl (made_yes a w p)
      | inr p ↦ (
          let q = from_filter (λ w. not (lets_go past a w)) (queue past) w p in
          inr (queue_yes past w q.0, λ u. is_not (lets_go past a w) q.1 (lets_is past a w u))
          )
    ]

pub took_yes : (test : ℕ → Body → Bool) (past : List Doing) (h : HostId) → took test past h ≡ true
    → (n : ℕ) × (b : Body) × TookNow past h n b × (test n b ≡ true)
unfolding list_words
took_yes test [] h e = absurd (cc)
took_yes test (a ∷ past) h e =
    elim (or_cases (took_by test past a h) (took test past h && not (begins a)) e) [
      | inl p ↦ (let r = now a p in (r.0, r.1, inl r.2, r.3))
      | inr p ↦ (
          let q = and_parts (took test past h) (not (begins a)) p in
          let r = took_yes test past h q.0 in
          (r.0, r.1, inr (r.2, λ b. is_not (begins a) q.1 (begin_is a b)), r.3)
          )
    ]
  where
    now : (a : Doing) → took_by test past a h ≡ true
        → (n : ℕ) × (b : Body) × TakesFrom past a h n b × (test n b ≡ true)
    now (Took host e n b) t =
        let p = and_parts ((same_host host h && (e == epoch past)) && live past h) (test n b) t in
        let q = and_parts (same_host host h && (e == epoch past)) (live past h) p.0 in
        let r = and_parts (same_host host h) (e == epoch past) q.0 in
        let hh = host_is host h r.0 in
        let ee = eqb-true e (epoch past) r.1 in
        (n, b, ((λ i. Took (hh i) (ee i) n b), live_yes past h q.1), p.1)
    now a t = absurd (cc)

-- nothing was given up in the epoch
none_named : (past : List Doing) (server : ServerId) (a : Doing) (h : HostId) (i : TokenId) → is_quiet a ≡ true
    → GivesUp server past a h i → ⊥
unfolding list_words
none_named past server a h i e (inl (w, (n, at, (is, l)), m)) =
    let p : is_quiet (Took h (epoch past) n (Returned w)) ≡ true = subst (λ x. is_quiet x ≡ true) is e in cc
none_named past server a h i e (inr (g, (n, at, (is, l)), m)) =
    let p : is_quiet (Took h (epoch past) n (GiveBack g)) ≡ true = subst (λ x. is_quiet x ≡ true) is e in cc

pub none_given : (server : ServerId) (past : List Doing) (h : HostId) (i : TokenId) → quiet past ≡ true
    → GivenUp server past h i → ⊥
unfolding list_words
none_given server [] h i e x = elim x [ ]
none_given server (a ∷ past) h i e (inl x) =
    none_named past server a h i (and_parts (is_quiet a) (begins a || quiet past) e).0 x
none_given server (a ∷ past) h i e (inr (x, b)) =
    elim (or_cases (begins a) (quiet past) (and_parts (is_quiet a) (begins a || quiet past) e).1) [
      | inl p ↦ b (begin_yes a p)
      | inr p ↦ none_given server past h i p x
    ]

pub none_taken : (server : ServerId) (past : List Doing) (h : HostId) (fs : FilesetId) (g : Give) → quiet past ≡ true
    → TookOf server past h fs (GiveBack g) → ⊥
unfolding list_words
none_taken server [] h fs g e x = elim x [ ]
none_taken server (a ∷ past) h fs g e (inl (n, at, (is, l))) =
    let q = (and_parts (is_quiet a) (begins a || quiet past) e).0 in
    let p : is_quiet (Took h (epoch past) n (GiveBack g)) ≡ true = subst (λ x. is_quiet x ≡ true) is q in cc
none_taken server (a ∷ past) h fs g e (inr (x, b)) =
    elim (or_cases (begins a) (quiet past) (and_parts (is_quiet a) (begins a || quiet past) e).1) [
      | inl p ↦ b (begin_yes a p)
      | inr p ↦ none_taken server past h fs g p x
    ]
