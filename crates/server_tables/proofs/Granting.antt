-- A message brings the tokens that a want is granted.
use Rattle.std.proofs.Common.{◌≡◌, ℕ, ◌+◌, ◌≤◌, ◌<◌, ◌⊎◌, Bool, true, false, ◌&&◌, ◌==◌, cond, List, [], ◌∷◌, ◌++◌}
use Rattle.std.proofs.Common.{length, Option, Some, None, is_some, inl, inr, sym, ◌∙◌, ap, subst, refl, arith}
use Rattle.std.specs.Option.{option_map_or}
use Rattle.std.proofs.lemmas.Bool.{cases_Bool, eqb-true}
use Rattle.base_types.specs.declared.ids.Fid.{Fid}
use Rattle.base_types.specs.declared.ids.HostId.{HostId}
use Rattle.base_types.specs.declared.ids.ServerId.{ServerId}
use Rattle.message_types.specs.declared.message.Body.{Body}
use Rattle.message_types.specs.declared.message.Body.TheVariants.{Revoke}
use Rattle.message_types.specs.declared.telling.Bring.{Bring}
use Rattle.message_types.specs.declared.tokens.Revoke.{Revoke as RevokeOf}
use Rattle.token_manager.specs.declared.grants.Grants.{Grants}
use Rattle.token_manager.specs.declared.want.Want.{Want as WantOf}
use Rattle.token_manager.specs.Grants.{note_of, with_grant}
use Rattle.token_manager.proofs.Noting.{same_self}
use Rattle.token_table.specs.declared.notes.Note.{Note}
use Rattle.token_table.specs.Marks.{NoteMap, is_pinned, is_revoked, note_at, with_each}
use Rattle.token_table.proofs.Reading.{with_each_at}
use Rattle.token_table.specs.Tables.{has_id, next_tokens, token_for, tokens_from}
use Rattle.token_types.specs.Conflicts.{need_of, same_id}
use Rattle.token_types.specs.declared.token.Need.{Need}
use Rattle.token_types.specs.declared.token.Token.{Token}
use Rattle.token_types.specs.declared.token.TokenId.{TokenId}
use Rattle.run_rules.specs.Doings.{BringsTokens, Doing, Granted, HasGoneAway, HasUsedStamp, IsLive}
use Rattle.run_rules.specs.Doings.{Issues, Pinned, StayStamp, epoch}
use Rattle.run_rules.specs.Doings.Doing.{Sent}
use Rattle.run_rules.specs.Past.{In}
use Rattle.run_rules.specs.ServerMay.{HasRevoked}
use Rattle.server_tables.specs.Standing.{StampsStand, TokensStand, tokens_of}
use Rattle.server_tables.proofs.Greeting.{in_front, in_parts}
use Rattle.server_tables.proofs.Settling.{any_in, both, in_any}

pub in_back : {A : Type 0} (x : A) (xs ys : List A) → In x ys → In x (xs ++ ys)
in_back x [] ys m = m
in_back x (y ∷ xs) ys m = inr (in_back x xs ys m)

-- tokens for needs: one for each, of the host, with numbers above the last one
pub record IsFor (server : ServerId) (now last : ℕ) (host : HostId) (needs : List Need) (t : Token) : Type 0 where
  pub need : In (need_of t) needs
  pub host_is : t.host ≡ host
  pub server_is : t.id.server ≡ server
  pub now_is : t.id.epoch ≡ now
  pub above : last < t.id.seq
  pub below : t.id.seq ≤ last + length needs

pub are_for : (server : ServerId) (now last : ℕ) (host : HostId) (needs : List Need) (t : Token) → In t
    (tokens_from server now last host needs) → IsFor server now last host needs t
are_for server now last host [] t m = elim m [ ]
are_for server now last host (n ∷ ns) t (inl e) = subst (IsFor server now last host (n ∷ ns)) (sym e)
    (record {
      need = inl refl;
      host_is = refl;
      server_is = refl;
      now_is = refl;
      above = omega arith;
      below =
          omega arith;
    })
are_for server now last host (n ∷ ns) t (inr m) =
    let r = are_for server now (last + 1) host ns t m in
    let a = r.above in let b = r.below in
    record {
      need = inr r.need;
      host_is = r.host_is;
      server_is = r.server_is;
      now_is = r.now_is;
      above =
          omega (arith, a);
      below = omega (arith, b);
    }

pub all_for : (server : ServerId) (now last : ℕ) (host : HostId) (needs : List Need) (n : Need) → In n needs →
    (t : Token) × In t (tokens_from server now last host needs) × (need_of t ≡ n)
all_for server now last host [] n m = elim m [ ]
all_for server now last host (k ∷ ks) n (inl e) = (token_for server now last host k, inl refl, sym e)
all_for server now last host (k ∷ ks) n (inr m) = let r = all_for server now (last + 1) host ks n m in
    (r.0, inr r.1, r.2)

-- of two tokens for needs with one number both are the same
pub one_number : (server : ServerId) (now last : ℕ) (host : HostId) (needs : List Need) (t u : Token) → In t
    (tokens_from server now last host needs) → In u (tokens_from server now last host needs) → t.id ≡ u.id → t ≡ u
one_number server now last host [] t u m n e = elim m [ ]
one_number server now last host (k ∷ ks) t u (inl p) (inl q) e = p ∙ sym q
one_number server now last host (k ∷ ks) t u (inr m) (inr n) e = one_number server now (last + 1) host ks t u m n e
one_number server now last host (k ∷ ks) t u (inl p) (inr n) e =
    let a = (are_for server now (last + 1) host ks u n).above in
    let b : t.id.seq ≡ last + 1 = ap (λ (y : Token). y.id.seq) p in let d = ap (λ (y : TokenId). y.seq) e in
    absurd (omega (arith, a, b, d))
one_number server now last host (k ∷ ks) t u (inr m) (inl q) e =
    let a = (are_for server now (last + 1) host ks t m).above in
    let b : u.id.seq ≡ last + 1 = ap (λ (y : Token). y.id.seq) q in let d = ap (λ (y : TokenId). y.seq) e in
    absurd (omega (arith, a, b, d))

pub id_is : (a b : TokenId) → same_id a b ≡ true → a ≡ b
id_is a b e =
    let q = both ((a.server.0 == b.server.0) && (a.epoch == b.epoch)) (a.seq == b.seq) e in
    let p = both (a.server.0 == b.server.0) (a.epoch == b.epoch) q.0 in
    let x : a.server.0 ≡ b.server.0 = eqb-true a.server.0 b.server.0 p.0 in
    let y : a.epoch ≡ b.epoch = eqb-true a.epoch b.epoch p.1 in
    let z : a.seq ≡ b.seq = eqb-true a.seq b.seq q.1 in
    λ i. record { server = record { 0 = x i }; epoch = y i; seq = z i }

pub pin_noted : (notes : NoteMap) (i : TokenId) → is_pinned notes i ≡ true → is_some (note_at notes i) ≡ true
pin_noted notes i p = go (note_at notes i) p
  where
    go : (o : Option Note) → option_map_or (λ (note : Note). note.pinned) o false ≡ true → is_some o ≡ true
    go None q = absurd (cc)
    go (Some note) q = refl

pub mark_noted : (notes : NoteMap) (i : TokenId) → is_revoked notes i ≡ true → is_some (note_at notes i) ≡ true
mark_noted notes i p = go (note_at notes i) p
  where
    go : (o : Option Note) → option_map_or (λ (note : Note). note.revoked) o false ≡ true → is_some o ≡ true
    go None q = absurd (cc)
    go (Some note) q = refl

-- what is noted of the numbers of new tokens says neither that they are pinned nor that they were asked back
module _ (notes : NoteMap) (new : List Token) (host : HostId) (want : WantOf) (i : TokenId) where
  abbrev noted : NoteMap
  noted = with_each notes new (note_of host (Some want.number))

  pub pin_was : is_pinned noted i ≡ true → is_pinned notes i ≡ true
  pin_was p = go (has_id new i) refl (sym (ap (λ o. option_map_or (λ (note : Note). note.pinned) o false)
      (with_each_at notes new (note_of host (Some want.number)) i)) ∙ p)
    where
      go : (b : Bool) → has_id new i ≡ b → option_map_or (λ (note : Note). note.pinned) (cond (has_id new i)
          (Some (note_of host (Some want.number))) (note_at notes i)) false ≡ true → is_pinned notes i ≡ true
      go true h q = absurd (let r = rw h at q in cc)
      go false h q = let r = rw h at q in r

  pub mark_was : is_revoked noted i ≡ true → is_revoked notes i ≡ true
  mark_was p = go (has_id new i) refl (sym (ap (λ o. option_map_or (λ (note : Note). note.revoked) o false)
      (with_each_at notes new (note_of host (Some want.number)) i)) ∙ p)
    where
      go : (b : Bool) → has_id new i ≡ b → option_map_or (λ (note : Note). note.revoked) (cond (has_id new i)
          (Some (note_of host (Some want.number))) (note_at notes i)) false ≡ true → is_revoked notes i ≡ true
      go true h q = absurd (let r = rw h at q in cc)
      go false h q = let r = rw h at q in r

  pub same_note : has_id new i ≡ false → note_at noted i ≡ note_at notes i
  same_note f = with_each_at notes new (note_of host (Some want.number)) i ∙ ap (λ (b : Bool). cond b
      (Some (note_of host (Some want.number))) (note_at notes i)) f

module _ (past : List Doing) (server : ServerId) (grants : Grants) (want : WantOf) (e n : ℕ) (b : Body) (bring : Bring)
    (tokens_are : bring.tokens ≡ next_tokens grants.table want.host want.needs)
    (brings : BringsTokens (Sent want.host e n b) want.host e n bring)
    (one : (k : HostId) (f m : ℕ) (w : Bring) → BringsTokens (Sent want.host e n b) k f m w → w ≡ bring)
    (told_all : (r : RevokeOf) → b ≡ Revoke r → ⊥) where
  abbrev sent : Doing
  sent = Sent want.host e n b

  abbrev new : List Token
  new = next_tokens grants.table want.host want.needs

  module _ (s : TokensStand past server grants) (lives : IsLive past want.host) where
    pub of : (t : Token) → In t new → IsFor grants.table.server grants.table.epoch grants.table.last want.host
        want.needs t
    of t m = are_for grants.table.server grants.table.epoch grants.table.last want.host want.needs t m

    granted_on : (t : Token) → Granted server past t → Granted server (sent ∷ past) t
    granted_on t k = inr (
      k,
      (λ w. let p = w.1 in cc),
      (λ w. elim w [
        | inl p ↦ (let q = p.1.2.0 in cc)
        | inr p ↦
            (let q = p.1.2.0 in cc)
      ]),
      λ w. elim w [ inl p ↦ (let q = p.2 in cc) | inr p ↦ (let q = p.0.1 in cc) ],
    )

    granted_new : (t : Token) → In t new → Granted server (sent ∷ past) t
    granted_new t m = inl (inl (
      record { moves = n; stamp = bring.stamp },
      (want.host, e, bring, brings, subst (In t) (sym tokens_are) m, refl),
    ))

    issued_new : (t : Token) (k : StayStamp) → Issues sent t k → In t new
    issued_new t k i = subst (In t) (ap (λ (y : Bring). y.tokens) (one i.0 i.1 k.moves i.2 i.3) ∙ tokens_are) i.4

    pub granted_were : (t : Token) → Granted server (sent ∷ past) t → In t new ⊎ Granted server past t
    granted_were t (inl (inl p)) = inl (issued_new t p.0 p.1)
    granted_were t (inl (inr p)) = absurd (let q = p.1 in cc)
    granted_were t (inr p) = inr p.0

    pub fresh : (t u : Token) → In t new → In u (tokens_of grants) → u.id ≡ t.id → ⊥
    fresh t u m k q =
        let a = s.old u k (ap (λ (y : TokenId). y.epoch) q ∙ ((of t m).now_is ∙ s.epoch_is)) in
        let c = (of t m).above in let d = ap (λ (y : TokenId). y.seq) q in omega (arith, a, c, d)

    pub absent : (u : Token) → In u (tokens_of grants) → has_id new u.id ≡ false
    absent u k = elim (cases_Bool (has_id new u.id)) [
      | inl h ↦ absurd (let t = any_in (λ token. same_id token.id u.id) new h in
          fresh t.0 u t.1 k (sym (id_is t.0.id u.id t.2)))
      | inr h ↦ h
    ]

    pub tokens_sent : TokensStand (sent ∷ past) server (with_grant grants want)
    tokens_sent = record {
      server_is = s.server_is;
      epoch_is = s.epoch_is;
      granted = λ t m. elim (in_parts t (tokens_of grants) new m) [
        | inl k ↦ granted_on t (s.granted t k)
        | inr k ↦
            granted_new t k
      ];
      granted_all = λ t k. elim (granted_were t k) [
        | inl m ↦ in_back t (tokens_of grants) new m
        | inr m ↦
            in_front t (tokens_of grants) new (s.granted_all t m)
      ];
      pinned = λ t m p. let q = pin_was grants.notes new want.host want t.id p in
          elim (in_parts t (tokens_of grants) new m) [
            | inl k ↦ (inr (s.pinned t k q), granted_on t (s.granted t k))
            | inr k ↦ absurd (let u = s.noted t.id (pin_noted grants.notes t.id q) in fresh t u.0 k u.1 u.2)
          ];
      pinned_all = λ t p. elim p.0 [
        | inl k ↦ absurd (let q = k.1.2.0 in cc)
        | inr k ↦ ap (λ o. option_map_or (λ (note : Note). note.pinned) o false)
            (same_note grants.notes new want.host want t.id (absent t (s.granted_all t (was t k)))) ∙ s.pinned_all t k
      ];
      here = λ t k w. elim w [
        | inl p ↦ elim p [ inl q ↦ (let r = q.2 in cc) | inr q ↦ (let r = q.0.1 in cc) ]
        | inr p ↦ elim (granted_were t k) [
          | inl m ↦ lives.1 (subst (HasGoneAway past) (of t m).host_is p)
          | inr m ↦
              s.here t m p
        ]
      ];
      live = λ t k. elim (granted_were t k) [
        | inl m ↦ on t.host (subst (IsLive past) (sym (of t m).host_is) lives)
        | inr m ↦ on t.host (s.live t m)
      ];
      known = λ t m. elim (in_parts t (tokens_of grants) new m) [
        | inl k ↦ ap is_some (same_note grants.notes new want.host want t.id (absent t k)) ∙ s.known t k
        | inr k ↦ ap is_some (with_each_at grants.notes new (note_of want.host (Some want.number)) t.id ∙ ap
            (λ (b : Bool). cond b (Some (note_of want.host (Some want.number))) (note_at grants.notes t.id)) (in_any
            (λ token. same_id token.id t.id) t new k (same_self t.id)))
      ];
      issued = λ t k i q. elim i [
        | inl j ↦ (of t (issued_new t k j)).below
        | inr j ↦ (let l = s.issued t k j q in omega (arith, l))
      ];
      issued_up_to = λ t k i. elim i [
        | inl j ↦ (let q : t.id.epoch ≡ epoch past =
            (of t (issued_new t k j)).now_is ∙ s.epoch_is in omega (arith, q))
        | inr j ↦ s.issued_up_to t k j
      ];
      noted = noted;
      old = λ t m q. elim (in_parts t (tokens_of grants) new m) [
        | inl k ↦
            (let l = s.old t k q in omega (arith, l))
        | inr k ↦ (of t k).below
      ];
      none_reserved = λ t r. elim r [ inl k ↦ (let q = k.1 in cc) | inr k ↦ s.none_reserved t k.0 ];
      one = λ t u k i e g q. let o : u.id.seq ≡ t.id.seq = ap (λ (i : TokenId). i.seq) q in elim i [
        | inl j ↦ elim (granted_were u g) [
          | inl m ↦ one_number grants.table.server grants.table.epoch grants.table.last want.host want.needs u t m
              (issued_new t k j) q
          | inr m ↦ absurd (let a = (of t (issued_new t k j)).above in
              let l = s.old u (s.granted_all u m) (ap (λ (i : TokenId). i.epoch) q ∙ e) in omega (arith, a, l, o))
        ]
        | inr j ↦ elim (granted_were u g) [
          | inl m ↦ absurd (let a = (of u m).above in let l = s.issued t k j e in omega (arith, a, l, o))
          | inr m ↦ s.one t u k j e m q
        ]
      ];
    }
      where
        on : (h : HostId) → IsLive past h → IsLive (sent ∷ past) h
        on h l = (
          inr l.0,
          λ w. elim w [
            | inl p ↦ elim p [
              | inl q ↦ (let r = q.2 in cc)
              | inr q ↦
                  (let r = q.0.1 in cc)
            ]
            | inr p ↦ l.1 p
          ],
        )

        noted : (i : TokenId) → is_some (note_at (with_grant grants want).notes i) ≡ true → (t : Token) × In t
            (tokens_of grants ++ new) × (t.id ≡ i)
        noted i p = elim (cases_Bool (has_id new i)) [
          | inl h ↦ (let t = any_in (λ token. same_id token.id i) new h in
              (t.0, in_back t.0 (tokens_of grants) new t.1, id_is t.0.id i t.2))
          | inr h ↦ (let u = s.noted i (sym (ap is_some (same_note grants.notes new want.host want i h)) ∙ p) in
              (u.0, in_front u.0 (tokens_of grants) new u.1, u.2))
        ]

        was : (t : Token) → Pinned server past t → Granted server past t
        was t p = go past p
          where
            go : (acts : List Doing) → Pinned server acts t → Granted server acts t
            go [] q = q
            go (a ∷ acts) q = q.1

    pub stamps_sent : (stamp top : ℕ) → bring.stamp ≤ top → stamp ≤ top → StampsStand past grants stamp → StampsStand
        (sent ∷ past) (with_grant grants want) top
    stamps_sent stamp top stamp_is less z = record {
      told = told;
      revoked = λ t m p. let q = mark_was grants.notes new want.host want t.id p in
          elim (in_parts t (tokens_of grants) new m) [
            | inl k ↦ inr (z.revoked t k q, λ w. let r = w.1 in cc)
            | inr k ↦ absurd (none t k q)
          ];
      revoked_all = λ t m w. elim (in_parts t (tokens_of grants) new m) [
        | inl k ↦ ap (λ o. option_map_or (λ (note : Note). note.revoked) o false)
            (same_note grants.notes new want.host want t.id (absent t k)) ∙ z.revoked_all t k (back t w)
        | inr k ↦ absurd (let a = z.revoked_old t (back t w) ((of t k).now_is ∙ s.epoch_is) in let c =
            (of t k).above in omega (arith, a, c))
      ];
      revoked_old = λ t w q. let l = z.revoked_old t (back t w) q in omega (arith, l);
      revoked_live = λ t w. inr (z.revoked_live t (back t w), λ v. let p = v.1 in cc);
    }
      where
        back : (t : Token) → HasRevoked (sent ∷ past) t → HasRevoked past t
        back t (inl p) = absurd (told_all p.2 (let q = p.3 in cc))
        back t (inr p) = p.0

        -- nothing is noted of a new number
        none : (t : Token) → In t new → is_revoked grants.notes t.id ≡ true → ⊥
        none t k q = let u = s.noted t.id (mark_noted grants.notes t.id q) in fresh t u.0 k u.1 u.2

        told : (f : Fid) (x : ℕ) → HasUsedStamp (sent ∷ past) f x → x ≤ top
        told f x (inr p) = let l = z.told f x p.0 in omega (arith, l, less)
        told f x (inl (inl (h, d, m, w, p, q, r))) =
            let a : w.stamp ≡ bring.stamp = ap (λ (y : Bring). y.stamp) (one h d m w p) in omega (arith, a, r, stamp_is)
        told f x (inl (inr r)) = absurd (told_all r.3 (let p = r.4 in cc))
